-- What edges lead to.
use Rattle.std.specs.Prelude.{◌≡◌, ◌<◌, ℕ, Bool, true, false, ◌⊎◌, List, [], ◌∷◌, slice_index_or, All}
use Rattle.reachability.specs.declared.closing.Link.{Link}

-- the least set that has each root, and with the tail of an edge its head
pub data IsReached {X : Type 0} (IsRoot : X → Type 0) (Leads : X → X → Type 0) : X → Type 0 where
  root : (x : X) → IsRoot x → IsReached IsRoot Leads x
  onward : (x y : X) → IsReached IsRoot Leads x → Leads x y → IsReached IsRoot Leads y

-- an element of the list
abbrev pub IsAmong : {X : Type 0} → List X → X → Type 0
IsAmong [] x = ⊥
IsAmong (y ∷ ys) x = (y ≡ x) ⊎ IsAmong ys x

-- an edge, of names as of numbers
pub record Edge (X : Type 0) : Type 0 where
  pub tail : X
  pub head : X

-- an edge of the list goes from x to y
abbrev pub Joins : {X : Type 0} → List (Edge X) → X → X → Type 0
Joins {X} edges x y = IsAmong edges (record { tail = x; head = y })

-- ---- nodes that are numbers, a set of them being a list of marks

abbrev pub is_marked : List Bool → ℕ → Bool
is_marked marks i = slice_index_or marks i false

abbrev pub IsMarked : List Bool → ℕ → Type 0
IsMarked marks i = is_marked marks i ≡ true

abbrev pub edge_of : Link → Edge ℕ
edge_of l = record { tail = l.tail; head = l.head }

abbrev pub Leads : List Link → ℕ → ℕ → Type 0
Leads links i j = IsAmong links (record { tail = i; head = j })

-- the edges stay below n
abbrev pub AreWithin : ℕ → List Link → Type 0
AreWithin n links = All (λ l. (l.tail < n) × (l.head < n)) links
