-- What the forms of an access's subscripts are worth.
use Rattle.std.specs.Prelude.{◌≡◌, ℕ, ℤ, ◌+ℤ◌, ◌-ℤ◌, ◌*ℤ◌, List, [], ◌∷◌, Some, Ok}
use Rattle.fl_ast.specs.Tree.{Expression, Expressions}
use Rattle.meaning.specs.declared.value.Value.{Value}
use Rattle.meaning.specs.declared.value.Value.TheVariants.{Index, Ring}
use Rattle.meaning.specs.Values.{whole_numbers}
use Rattle.meaning.specs.Sites.{Cells, Site}
use Rattle.meaning.specs.Expressions.{value_of, values_of}
use Rattle.meaning.specs.Frame.{content_by_name}
use Rattle.index_forms.specs.Form.{Atom, Form}
use Rattle.index_forms.specs.Sums.{value, values, plus_scaled, minus}
use Rattle.index_forms.specs.Formed.{Known, Viewed, formed_all}

-- m times a form and another one
abbrev pub SumsAreExact : Type 0
SumsAreExact = (v : Atom → ℤ) (m : ℤ) (f g : Form) → value v (plus_scaled m f g) ≡ (m *ℤ value v f) +ℤ value v g

abbrev pub DifferencesAreExact : Type 0
DifferencesAreExact = (v : Atom → ℤ) (f g : Form) → value v (minus f g) ≡ value v f -ℤ value v g

-- what is known of scalars is true: a form is worth what its scalar holds
abbrev pub HoldsKnown : (Atom → ℤ) → Known → Site → Cells → Type 0
HoldsKnown v k site cells = (x : List ℕ) (f : Form) (z : ℤ) → k x ≡ Some f → content_by_name site cells x [] ≡ Some (Index z) → value v f ≡ z

-- v has the values of the nodes that atoms stand for, where these have values of the index kind
abbrev pub AgreesOn : (Atom → ℤ) → Site → Cells → List (Atom × Expression) → Type 0
AgreesOn v site cells [] = Unit {0}
AgreesOn v site cells (l ∷ ls) = ((z : ℤ) → (value_of l.1 site cells).out ≡ Ok (Index z) → v l.0 ≡ z) × AgreesOn v site cells ls

abbrev pub AreIndices : List Value → Type 0
AreIndices [] = Unit {0}
AreIndices (Index z ∷ vs) = AreIndices vs
AreIndices (Ring d ∷ vs) = ⊥

-- the subscripts that are evaluated are what their forms are worth, wherever an access stands: `c` says what is known there
abbrev pub FormsAreSubscripts : Type 0
FormsAreSubscripts =
    (v : Atom → ℤ) (c : Viewed) (n : ℕ) (subscripts : Expressions) (site : Site) (cells : Cells) →
    HoldsKnown v c.known site cells → AgreesOn v site cells (formed_all c n subscripts).leaves →
    (vs : List Value) → (values_of subscripts site cells).out ≡ Ok vs → AreIndices vs → values v (formed_all c n subscripts).forms ≡ whole_numbers vs
