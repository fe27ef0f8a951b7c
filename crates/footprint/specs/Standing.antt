-- The touches that a table stands for.
use Rattle.std.specs.Prelude.{◌≡◌, ℕ, ◌<◌, ◌≤◌, false, List, length, slice_index_or, All, Contains, Option, Some, None, IfSome, option_map, if◌then◌else◌, nat_lt}
use Rattle.touches.specs.declared.watch.Conflict.{Conflict}
use Rattle.touches.specs.Touching.{conflict_at}
use Rattle.footprint.specs.declared.iterations.IterationPair.{IterationPair}
use Rattle.meaning.specs.Logs.{Touch}
use Rattle.meaning.specs.Conflicts.{Clash, IsClash}
use Rattle.footprint.specs.declared.toucher.Toucher.{Toucher}
use Rattle.footprint.specs.declared.toucher.Changers.{Changers}
use Rattle.footprint.specs.declared.iterations.LeastTwo.{LeastTwo}
use Rattle.footprint.specs.Known.{Known, IsKnown, least_pair}
use Rattle.footprint.specs.Kept.{known_at}

-- the line of the loop, the number of the loop instance, who touched each place, and the least place with a conflict
pub record Table : Type 0 where
  pub line : ℕ
  pub instance : ℕ
  pub touchers : List Toucher
  pub changers : List Changers
  pub least : Option ℕ

pub record IsTable (t : Table) : Type 0 where
  pub same_length : length t.changers ≡ length t.touchers
  pub within : IfSome t.least (λ p. p < length t.touchers)
  -- no place was touched in a loop instance that is still to come
  pub earlier : All (λ (o : Toucher). o.instance ≤ t.instance) t.touchers

abbrev pub no_two : LeastTwo
no_two = record { least = 0; next = 0 }

abbrev pub no_toucher : Toucher
no_toucher = record { instance = 0; apart = false; read = false; written = false; updated = false; two = no_two }

abbrev pub no_changers : Changers
no_changers = record { writes = no_two; updates = no_two }

abbrev pub known_there : Table → ℕ → Known
known_there t p = known_at t.instance (slice_index_or t.touchers p no_toucher) (slice_index_or t.changers p no_changers)

-- the conflict at a place, by what is known of it
abbrev pub found_at : Table → ℕ → Option Conflict
found_at t p = option_map (λ (q : IterationPair). conflict_at t.line (record { place = p; first = q.first; second = q.second })) (least_pair (known_there t p))

abbrev pub lesser_place : Option ℕ → ℕ → ℕ
lesser_place None p = p
lesser_place (Some q) p = if nat_lt q p then q else p

-- the least place with a clash among the touches
abbrev pub IsLeastPlace : List Touch → Option ℕ → Type 0
IsLeastPlace ts None = (c : Clash) → IsClash ts c → ⊥
IsLeastPlace ts (Some p) = ((c : Clash) × (IsClash ts c × (c.place ≡ p))) × ((c : Clash) → IsClash ts c → p ≤ c.place)

-- a table stands for a loop's line and touches: it knows them at each place, and the least place where two clash
pub record StandsFor (t : Table) (line : ℕ) (ts : List Touch) : Type 0 where
  pub of_line : t.line ≡ line
  pub inside : (o : Touch) → Contains ts o → o.place < length t.touchers
  pub known : (p : ℕ) → p < length t.touchers → IsKnown ts p (known_there t p)
  pub least : IsLeastPlace ts t.least
