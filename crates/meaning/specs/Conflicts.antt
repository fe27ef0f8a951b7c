-- Conflicts of a parallel loop's iterations.
use Rattle.std.specs.Prelude.{◌≡◌, ℕ, ◌<◌, Bool, true, false, ◌&&◌, ◌||◌, if◌then◌else◌, nat_lt, nat_le, nat_eq, List, [], ◌∷◌, ◌++◌, Contains, Option, Some, None}
use Rattle.fl_types.specs.declared.access.AccessKind.{AccessKind}
use Rattle.fl_types.specs.declared.access.AccessKind.TheVariants.{Read, Write, Update}
use Rattle.meaning.specs.Logs.{Touch}

-- kinds that two iterations may not have at one place: a Write with any, an Update with a Read
abbrev pub clashes : AccessKind → AccessKind → Bool
clashes Write k = true
clashes Update Write = true
clashes Update Read = true
clashes Update Update = false
clashes Read Write = true
clashes Read Update = true
clashes Read Read = false

-- a place with two iterations, the lesser first
pub record Clash : Type 0 where
  pub place : ℕ
  pub first : ℕ
  pub second : ℕ

-- among the touches, one of the first iteration and one of the second at the place clash
pub record IsClash (ts : List Touch) (c : Clash) : Type 0 where
  pub one : AccessKind
  pub other : AccessKind
  pub has_one : Contains ts (record { place = c.place; iteration = c.first; kind = one })
  pub has_other : Contains ts (record { place = c.place; iteration = c.second; kind = other })
  pub in_order : c.first < c.second
  pub kinds : clashes one other ≡ true

-- the order in which conflicts are reported: by place, and then by the iterations
abbrev pub no_later : Clash → Clash → Bool
no_later a b =
    nat_lt a.place b.place
    || (nat_eq a.place b.place && (nat_lt a.first b.first || (nat_eq a.first b.first && nat_le a.second b.second)))

-- what is reported of a loop instance's touches: the least clash, where there is one
abbrev pub Reports : List Touch → Option Clash → Type 0
Reports ts None = (c : Clash) → IsClash ts c → ⊥
Reports ts (Some c) = IsClash ts c × ((d : Clash) → IsClash ts d → no_later c d ≡ true)

-- ---- the function

abbrev pub in_order : ℕ → ℕ → ℕ → List Clash
in_order p i j =
    if nat_lt i j then record { place = p; first = i; second = j } ∷ []
    else if nat_lt j i then record { place = p; first = j; second = i } ∷ []
    else []

abbrev pub clash_of : Touch → Touch → List Clash
clash_of a b = if nat_eq a.place b.place && clashes a.kind b.kind then in_order a.place a.iteration b.iteration else []

abbrev pub clashes_with : Touch → List Touch → List Clash
clashes_with a [] = []
clashes_with a (b ∷ bs) = clash_of a b ++ clashes_with a bs

abbrev pub all_clashes : List Touch → List Clash
all_clashes [] = []
all_clashes (a ∷ ts) = clashes_with a ts ++ all_clashes ts

abbrev pub lesser_clash : Clash → Option Clash → Option Clash
lesser_clash a None = Some a
lesser_clash a (Some b) = if no_later a b then Some a else Some b

abbrev pub least_clash : List Clash → Option Clash
least_clash [] = None
least_clash (c ∷ cs) = lesser_clash c (least_clash cs)

abbrev pub conflict : List Touch → Option Clash
conflict ts = least_clash (all_clashes ts)
