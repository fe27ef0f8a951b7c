-- Lines by their numbers.
use Rattle.std.proofs.Common.{◌≡◌, ◌≢◌, ℕ, suc, ◌<◌, ◌≤◌, Bool, true, false, ◌&&◌, ◌↔◌, IsTrue, List, [], ◌∷◌, map, drop, length, get_or, Option, Some, None, refl, sym, ap, ◌∙◌}
use Rattle.std.proofs.Math.Seq.{drop-cons}
use Rattle.std.proofs.lemmas.List.{drop_all}
use Rattle.index_forms.specs.declared.form.Form as program_form
use Rattle.index_forms.specs.Form.{Form}
use Rattle.index_forms.specs.Seen.{form_tree}
use Rattle.certificate_rules.specs.Surveys.{numbered}
use Rattle.certificate_rules.specs.Accepted.{HasResidue}
use Rattle.certificate_rules.specs.Tests.{matches, lines_are, has_residue, holds_of}
use Rattle.certificate_rules.proofs.Gcds.{residue-to, residue-from}
use Rattle.acceptance.specs.declared.line_form.LineForm.{LineForm}
use Rattle.acceptance.specs.Told.{form_in, seen_in, forms_in}
use Rattle.acceptance.proofs.NumberedItems.{mapped-some, mapped-none}

pub line_some : (ls : List LineForm) (n : ℕ) (l : LineForm) (f : program_form.Form) → Some l ≡ numbered ls n → f ≡ form_in l → Some (form_tree f) ≡ numbered (forms_in ls) n
line_some ls n l f e h = ap (λ (g : program_form.Form). Some (form_tree g)) h ∙ mapped-some seen_in ls n l e

pub line_none : (ls : List LineForm) (n : ℕ) → None ≡ numbered ls n → None ≡ numbered (forms_in ls) n
line_none ls n e = mapped-none seen_in ls n e

abbrev pub F : Type 0
F = List program_form.Form

pub lines_unequal : (above : List Form) (ns : List ℕ) (fs : F) → length ns ≢ length fs → false ≡ lines_are above ns (map form_tree fs)
lines_unequal above [] [] h = absurd (h refl)
lines_unequal above [] (f ∷ fs) h = refl
lines_unequal above (n ∷ ns) [] h = refl
lines_unequal above (n ∷ ns) (f ∷ fs) h =
    let t : false ≡ lines_are above ns (map form_tree fs) = lines_unequal above ns fs (λ e. h (ap suc e)) in
    by_test (matches (numbered above n) (form_tree f)) (lines_are above ns (map form_tree fs)) t
  where
    by_test : (a b : Bool) → false ≡ b → false ≡ (a && b)
    by_test true b e = e
    by_test false b e = refl

-- the first i are these lines
lines-front : (above : List Form) (ns : List ℕ) (fs : F) (i n : ℕ) (f : program_form.Form) → i < length ns → get_or ns i n ≡ n → i < length fs → get_or fs i f ≡ f →
    lines_are above (drop i ns) (map form_tree (drop i fs)) ≡ (matches (numbered above n) (form_tree f) && lines_are above (drop (suc i) ns) (map form_tree (drop (suc i) fs)))
lines-front above ns fs i n f h e g d = rw (drop-cons ns i n h, e, drop-cons fs i f g, d) refl

pub lines-more : (above : List Form) (ns : List ℕ) (fs : F) (i n : ℕ) (f : program_form.Form) → i < length ns → get_or ns i n ≡ n → i < length fs → get_or fs i f ≡ f →
    matches (numbered above n) (form_tree f) ≡ true → lines_are above (drop i ns) (map form_tree (drop i fs)) ≡ lines_are above (drop (suc i) ns) (map form_tree (drop (suc i) fs))
lines-more above ns fs i n f h e g d t = lines-front above ns fs i n f h e g d ∙ ap (λ (b : Bool). b && lines_are above (drop (suc i) ns) (map form_tree (drop (suc i) fs))) t

pub lines-other : (above : List Form) (ns : List ℕ) (fs : F) (i n : ℕ) (f : program_form.Form) → i < length ns → get_or ns i n ≡ n → i < length fs → get_or fs i f ≡ f →
    matches (numbered above n) (form_tree f) ≡ false → lines_are above (drop i ns) (map form_tree (drop i fs)) ≡ false
lines-other above ns fs i n f h e g d t = lines-front above ns fs i n f h e g d ∙ ap (λ (b : Bool). b && lines_are above (drop (suc i) ns) (map form_tree (drop (suc i) fs))) t

pub lines-done : (above : List Form) (ns : List ℕ) (fs : F) (i : ℕ) → length ns ≤ i → length fs ≤ i → lines_are above (drop i ns) (map form_tree (drop i fs)) ≡ true
lines-done above ns fs i h g = rw (drop_all i ns h, drop_all i fs g) refl

-- ---- a line that leaves a remainder

decided : (r b : Bool) → (IsTrue r → b ≡ true) → (b ≡ true → IsTrue r) → r ≡ b
decided true true f g = refl
decided true false f g = sym (f refl)
decided false true f g = g refl
decided false false f g = refl

pub residue-is : (f : Form) (r : Bool) → IsTrue r ↔ HasResidue f → r ≡ has_residue f
residue-is f r h = decided r (has_residue f) (λ t. residue-from f (h.0 t)) (λ e. h.1 (residue-to f e))

pub residue_held : (o : Option Form) (f : Form) (r : Bool) → Some f ≡ o → IsTrue r ↔ HasResidue f → r ≡ holds_of has_residue o
residue_held o f r e h = residue-is f r h ∙ ap (holds_of has_residue) e
