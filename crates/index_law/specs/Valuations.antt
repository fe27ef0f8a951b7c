-- Valuations of a loop instance: Read atoms as well as those of the start of an iteration, on both sides at once.
use Rattle.std.specs.Prelude.{◌≡◌, ℕ, Bool, true, false, ℤ, List, [], ◌∷◌, Some, Ok}
use Rattle.fl_ast.specs.Tree.{Expression, literal, get, minus, binary, power, call, Expressions}
use Rattle.meaning.specs.declared.value.Value.{Value}
use Rattle.meaning.specs.declared.value.Value.TheVariants.{Index}
use Rattle.meaning.specs.Sites.{Cells, Site}
use Rattle.meaning.specs.Expressions.{value_of, values_of}
use Rattle.meaning.specs.Statements.{Heads}
use Rattle.meaning.specs.Frame.{content_by_name}
use Rattle.index_forms.specs.declared.form.Side.TheVariants.{One, Two}
use Rattle.index_forms.specs.Form.{Atom, start, iter, inner, inv, version, read, opaque, start2, iter2, Forms}
use Rattle.index_forms.specs.Sums.{values, Congruent}
use Rattle.index_forms.specs.Formed.{Viewed, formed_all}
use Rattle.index_forms.specs.Loops.{HeadedLoop}
use Rattle.index_law.specs.Worth.{HoldsKnown, AgreesOn, AreIndices}
use Rattle.index_law.specs.Starts.{StandsAtStart}

-- Read atoms have what arrays hold before the loop
abbrev pub HasReads : (Atom → ℤ) → Site → Cells → Type 0
HasReads v site cells = (x : List ℕ) (fs : Forms) (z : ℤ) → content_by_name site cells x (values v fs) ≡ Some (Index z) → v (read x fs) ≡ z

-- an atom of an instance in an iteration
abbrev pub is_of_instance : Atom → Bool
is_of_instance start = false
is_of_instance (iter s) = false
is_of_instance (inner s l) = true
is_of_instance (inv x) = false
is_of_instance (version s n x) = true
is_of_instance (read x fs) = false
is_of_instance (opaque s a n) = true
is_of_instance start2 = false
is_of_instance (iter2 s) = false

-- stands at the starts of iterations i and j, one on each side; what is of an instance has given values
pub record StandsForTwo (v given : Atom → ℤ) (l : HeadedLoop) (site : Site) (heads : Heads) (cells : Cells) (i j : ℕ) : Type 0 where
  pub one : StandsAtStart v One l site heads cells i
  pub two : StandsAtStart v Two l site heads cells j
  pub congruent : Congruent v
  pub reads : HasReads v site cells
  pub instances : (a : Atom) → is_of_instance a ≡ true → v a ≡ given a

-- for any two iterations there is such a valuation, whatever the values of Inner, Version and Opaque atoms
abbrev pub ValuationsStand : Type 0
ValuationsStand = (l : HeadedLoop) (site : Site) (heads : Heads) (cells : Cells) (i j : ℕ) (given : Atom → ℤ) → (v : Atom → ℤ) × StandsForTwo v given l site heads cells i j

-- ---- the nodes of Read atoms

-- arrays that a loop doesn't assign hold what they held before it
abbrev pub HoldsFixed : (List ℕ → Bool) → (before : Cells) → Site → Cells → Type 0
HoldsFixed fixed before site cells = (x : List ℕ) → fixed x ≡ true → (ss : List ℤ) → content_by_name site cells x ss ≡ content_by_name site before x ss

abbrev pub HasIndexSubscripts : Expression → Site → Cells → Type 0
HasIndexSubscripts (get x ss) site cells = (vs : List Value) → (values_of ss site cells).out ≡ Ok vs → AreIndices vs
HasIndexSubscripts (literal n k) site cells = Unit {0}
HasIndexSubscripts (minus e) site cells = Unit {0}
HasIndexSubscripts (binary op d e) site cells = Unit {0}
HasIndexSubscripts (power e n) site cells = Unit {0}
HasIndexSubscripts (call f es) site cells = Unit {0}

-- of a node: an element's subscripts are of the index kind, and an opaque atom has its node's value
abbrev pub NodeAgrees : (Atom → ℤ) → Atom → Expression → Site → Cells → Type 0
NodeAgrees v (read x fs) e site cells = HasIndexSubscripts e site cells
NodeAgrees v (opaque s a n) e site cells = (z : ℤ) → (value_of e site cells).out ≡ Ok (Index z) → v (opaque s a n) ≡ z
NodeAgrees v start e site cells = Unit {0}
NodeAgrees v (iter s) e site cells = Unit {0}
NodeAgrees v (inner s l) e site cells = Unit {0}
NodeAgrees v (inv x) e site cells = Unit {0}
NodeAgrees v (version s n x) e site cells = Unit {0}
NodeAgrees v start2 e site cells = Unit {0}
NodeAgrees v (iter2 s) e site cells = Unit {0}

abbrev pub NodesAgree : (Atom → ℤ) → Site → Cells → List (Atom × Expression) → Type 0
NodesAgree v site cells [] = Unit {0}
NodesAgree v site cells (l ∷ ls) = NodeAgrees v l.0 l.1 site cells × NodesAgree v site cells ls

-- where what is known is true, Read atoms with what arrays hold before the loop have the values of their nodes
abbrev pub ReadsAreElements : Type 0
ReadsAreElements =
    (v : Atom → ℤ) (c : Viewed) (n : ℕ) (subscripts : Expressions) (site : Site) (before cells : Cells) → HoldsKnown v c.known site cells → HasReads v site before → HoldsFixed c.fixed before site cells →
    NodesAgree v site cells (formed_all c n subscripts).leaves → AgreesOn v site cells (formed_all c n subscripts).leaves
