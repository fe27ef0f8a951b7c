-- The rule of the table of cells.
use Rattle.std.specs.Prelude.{◌≡◌, ◌⊎◌, ℕ, suc, ◌+◌, ◌<◌, ◌≤◌, ◌==◌, ◌||◌, Bool, true, false, List, [], ◌∷◌, length, if◌then◌else◌, slice_index}
use mathlib.Core.Option.{some}
use lib.ListN.{get_elem?}
use Rattle.atomic_table.specs.Table.{State}
use Rattle.operations.specs.declared.op.Op.{Op}
use Rattle.operations.specs.Due.{AllInside}
use Rattle.operations.specs.Order.{IsDisciplined, joint_cells, Follows}
use Rattle.op_table.specs.declared.view.View.{View}

abbrev pub view : List (ℕ × ℕ) → List ℕ → ℕ → View
view held found parts = record { held = held; found = found; parts = parts }

abbrev pub lists : ℕ → List (ℕ × ℕ) → Bool
lists k [] = false
lists k (e ∷ es) = (k == e.0) || lists k es

-- the position of chunk k
abbrev pub position_of : ℕ → List (ℕ × ℕ) → ℕ
position_of k [] = 0
position_of k (e ∷ es) = if k == e.0 then e.1 else position_of k es

-- chunk k goes on by one operation
abbrev pub advance : ℕ → List (ℕ × ℕ) → List (ℕ × ℕ)
advance k [] = []
advance k (e ∷ es) = (e.0, if k == e.0 then suc e.1 else e.1) ∷ advance k es

abbrev pub is_in : ℕ → List ℕ → Bool
is_in k [] = false
is_in k (x ∷ xs) = (k == x) || is_in k xs

-- the parts of all views
abbrev pub parts_of : List View → ℕ
parts_of [] = 0
parts_of (v ∷ vs) = v.parts + parts_of vs

-- what a table is for: the operations of each chunk, the opening words, and the numbers of chunks and of parts
pub record Work : Type 0 where
  pub ops : ℕ → List Op
  pub opening : List ℕ
  pub chunks : ℕ
  pub parts : ℕ

-- the operations are disciplined, each bump follows a load of its cell, and all are on cells that are there
pub record IsSound (ops : ℕ → List Op) (chunks cells : ℕ) : Type 0 where
  pub disciplined : IsDisciplined ops chunks
  pub follows : (k : ℕ) → k < chunks → Follows (ops k)
  pub inside : (k : ℕ) → k < chunks → AllInside cells (ops k)

-- the words of a table are the draw word, the cells, and a claim word for each chunk
abbrev pub cell_word : List ℕ → ℕ → ℕ
cell_word ws p = slice_index ws (suc p)

abbrev pub claim_word : Work → List ℕ → ℕ → ℕ
claim_word d ws k = slice_index ws (suc (length d.opening + k))

-- what is so of the view of a seat, where seat `who k` holds chunk k, which has come to the position `at k`
pub record IsSeated (d : Work) (ws : List ℕ) (at who : ℕ → ℕ) (id : ℕ) (v : View) : Type 0 where
  pub held : (k : ℕ) → lists k v.held ≡ true → (k < d.chunks) × (who k ≡ id) × (at k ≡ position_of k v.held) × (claim_word d ws k ≡ 1)
  pub found : (k : ℕ) → is_in k v.found ≡ true → (k < d.chunks) × (claim_word d ws k ≡ 1)
  pub idle : v.parts ≡ 0 → v.held ≡ []

-- chunk k is free and at its start, or one view lists it
abbrev pub IsClaimed : Work → List ℕ → List View → (ℕ → ℕ) → (ℕ → ℕ) → ℕ → Type 0
IsClaimed d ws views at who k = ((claim_word d ws k ≡ 0) × (at k ≡ 0)) ⊎ ((claim_word d ws k ≡ 1) × ((v : View) × (get_elem? views (who k) ≡ some v) × (lists k v.held ≡ true)))

-- the rule, which holds between any two steps
pub record IsKept {S : Type 0} (d : Work) (s : State S View) : Type 0 where
  pub at : ℕ → ℕ
  pub who : ℕ → ℕ
  pub sized : length s.words ≡ suc (length d.opening + d.chunks)
  pub sound : IsSound d.ops d.chunks (length d.opening)
  pub cells : (p : ℕ) → p < length d.opening → cell_word s.words p ≡ slice_index (joint_cells d.ops at d.chunks d.opening) p
  pub claims : (k : ℕ) → k < d.chunks → IsClaimed d s.words s.views at who k
  pub within : (k : ℕ) → k < d.chunks → at k ≤ length (d.ops k)
  pub seated : (id : ℕ) (v : View) → get_elem? s.views id ≡ some v → IsSeated d s.words at who id v
  pub parts : parts_of s.views ≡ d.parts
