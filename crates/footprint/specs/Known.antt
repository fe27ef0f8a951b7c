-- What is known of the touches at a place: of each kind the two least iterations.
use Rattle.std.specs.Prelude.{◌≡◌, ℕ, ◌<◌, ◌≤◌, ◌⊎◌, Bool, ◌&&◌, ◌||◌, if◌then◌else◌, nat_lt, nat_le, nat_eq, List, Contains, Option, Some, None, option_map}
use Rattle.fl_types.specs.declared.access.AccessKind.{AccessKind}
use Rattle.fl_types.specs.declared.access.AccessKind.TheVariants.{Read, Write, Update}
use Rattle.meaning.specs.Logs.{Touch}
use Rattle.touches.specs.Touching.{touch}
use Rattle.footprint.specs.declared.iterations.Iterations.{Iterations}
use Rattle.footprint.specs.declared.iterations.Iterations.TheVariants.{Nobody, One, More}
use Rattle.footprint.specs.declared.iterations.IterationPair.{IterationPair}
use Rattle.footprint.specs.declared.iterations.LeastTwo.{LeastTwo}

-- the two least iterations of which P holds
abbrev pub AreLeast : (ℕ → Type 0) → Iterations → Type 0
AreLeast P Nobody = (i : ℕ) → P i → ⊥
AreLeast P (One i) = P i × ((k : ℕ) → P k → k ≡ i)
AreLeast P (More i j) = P i × P j × (i < j) × ((k : ℕ) → P k → (k ≡ i) ⊎ (j ≤ k))

pub record Known : Type 0 where
  pub reads : Iterations
  pub writes : Iterations
  pub updates : Iterations

abbrev pub nothing_known : Known
nothing_known = record { reads = Nobody; writes = Nobody; updates = Nobody }

-- this is known of the touches at a place
pub record IsKnown (ts : List Touch) (place : ℕ) (k : Known) : Type 0 where
  pub reads : AreLeast (λ i. Contains ts (touch place i Read)) k.reads
  pub writes : AreLeast (λ i. Contains ts (touch place i Write)) k.writes
  pub updates : AreLeast (λ i. Contains ts (touch place i Update)) k.updates

-- ---- one touch more

abbrev pub with_iteration : Iterations → ℕ → Iterations
with_iteration Nobody n = One n
with_iteration (One i) n = if nat_lt n i then More n i else if nat_lt i n then More i n else One i
with_iteration (More i j) n =
    if nat_lt n i then More n i else if nat_eq n i then More i j else if nat_lt n j then More i n else More i j

abbrev pub with_touch : AccessKind → ℕ → Known → Known
with_touch Read n k = record k { reads = with_iteration k.reads n }
with_touch Write n k = record k { writes = with_iteration k.writes n }
with_touch Update n k = record k { updates = with_iteration k.updates n }

-- ---- the least pair that clashes

abbrev pub least : Iterations → Option ℕ
least Nobody = None
least (One i) = Some i
least (More i j) = Some i

abbrev pub next : Iterations → Option ℕ
next Nobody = None
next (One i) = None
next (More i j) = Some j

abbrev pub lesser : Option ℕ → Option ℕ → Option ℕ
lesser None b = b
lesser (Some i) None = Some i
lesser (Some i) (Some j) = if nat_lt i j then Some i else Some j

abbrev pub pair : ℕ → ℕ → IterationPair
pair i j = record { first = i; second = j }

abbrev pub within : Iterations → Option IterationPair
within Nobody = None
within (One i) = None
within (More i j) = Some (pair i j)

abbrev pub crossed : Option ℕ → Option ℕ → Option ℕ → Option IterationPair
crossed None b n = None
crossed (Some i) None n = None
crossed (Some i) (Some j) n = if nat_lt i j then Some (pair i j) else if nat_lt j i then Some (pair j i) else option_map (pair i) n

-- the least pair of one of these and one of those
abbrev pub crossing : Iterations → Iterations → Option IterationPair
crossing a b = crossed (least a) (least b) (lesser (next a) (next b))

abbrev pub is_before : IterationPair → IterationPair → Bool
is_before p q = nat_lt p.first q.first || (nat_eq p.first q.first && nat_le p.second q.second)

abbrev pub lesser_pair : Option IterationPair → Option IterationPair → Option IterationPair
lesser_pair None b = b
lesser_pair (Some p) None = Some p
lesser_pair (Some p) (Some q) = if is_before p q then Some p else Some q

abbrev pub least_pair : Known → Option IterationPair
least_pair k =
    lesser_pair (within k.writes)
    (lesser_pair (crossing k.writes k.reads) (lesser_pair (crossing k.writes k.updates) (crossing k.updates k.reads)))

-- ---- in two words

abbrev pub iterations_of : LeastTwo → Iterations
iterations_of t = if nat_lt t.least t.next then More t.least t.next else One t.least
