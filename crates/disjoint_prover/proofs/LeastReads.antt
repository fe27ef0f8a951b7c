-- Elements, and the least access that reads one.
use Rattle.std.proofs.Common.{◌≡◌, ℕ, zero, suc, ◌-◌, ◌<◌, Bool, true, false, if◌then◌else◌, ℤ, pos, negsuc, List, [], ◌∷◌, length, map, Option, Some, None, refl, sym, ap, ◌∙◌, arith}
use Rattle.index_forms.specs.declared.form.Atom as program
use Rattle.index_forms.specs.declared.form.Form as program_form
use Rattle.index_forms.specs.Form.{Atom, start, iter, inner, inv, version, read, opaque, start2, iter2, Form, form, Terms, no_terms, term, Forms}
use Rattle.index_forms.specs.Seen.{atom_tree, form_tree, term_tree, terms_of}
use Rattle.certificate_rules.specs.Accepted.{reads_apart}
use Rattle.certificate_rules.specs.Tests.{same_form}
use Rattle.certificate_rules.specs.Plain.{Elements, by_signs, second_element, first_element, if_apart, elements_of, is_element_of, least_read}
use Rattle.acceptance.proofs.Seens.{form-seen}
use Rattle.disjoint_prover.specs.Aparts.{second_by, apart_by}

any-multiple : (x : List ℕ) (s t : Forms) (k m : ℤ) → by_signs x s t k (pos 0) ≡ by_signs x s t k m
any-multiple x s t (pos zero) m = refl
any-multiple x s t (pos (suc n)) m = refl
any-multiple x s t (negsuc n) m = refl

second-is : (x : List ℕ) (s : Forms) (k : ℤ) (b : Atom) (m : ℤ) (ts : Terms) → second_by x s k b ≡ second_element x s k (term b m ts)
second-is x s k (read y t) m ts = any-multiple x s t k m
second-is x s k start m ts = refl
second-is x s k (iter d) m ts = refl
second-is x s k (inner d l) m ts = refl
second-is x s k (inv y) m ts = refl
second-is x s k (version d n y) m ts = refl
second-is x s k (opaque d a n) m ts = refl
second-is x s k start2 m ts = refl
second-is x s k (iter2 d) m ts = refl

first-is : (a b : Atom) (k m : ℤ) (ts : Terms) → apart_by a k b ≡ first_element (term a k (term b m ts))
first-is (read x s) b k m ts = second-is x s k b m ts
first-is start b k m ts = refl
first-is (iter d) b k m ts = refl
first-is (inner d l) b k m ts = refl
first-is (inv y) b k m ts = refl
first-is (version d n y) b k m ts = refl
first-is (opaque d a n) b k m ts = refl
first-is start2 b k m ts = refl
first-is (iter2 d) b k m ts = refl

first-alone : (a : Atom) (k : ℤ) → ◌≡◌ {A = Option Elements} None (first_element (term a k no_terms))
first-alone (read x s) k = refl
first-alone start k = refl
first-alone (iter d) k = refl
first-alone (inner d l) k = refl
first-alone (inv y) k = refl
first-alone (version d n y) k = refl
first-alone (opaque d a n) k = refl
first-alone start2 k = refl
first-alone (iter2 d) k = refl

abbrev pub L : Type 0
L = List (program.Atom × ℤ)

abbrev pub seen : L → Terms
seen ts = terms_of (map term_tree ts)

pub first_short : (ts : L) → length ts < 2 → ◌≡◌ {A = Option Elements} None (first_element (seen ts))
first_short [] h = refl
first_short (x ∷ []) h = first-alone (atom_tree x.0) x.1
first_short (x ∷ y ∷ ts) h = absurd (omega arith)

-- ---- the elements of a form

by-first : (g : Form) (c : ℤ) (ts : Terms) (o : Option Elements) → g ≡ form c ts → o ≡ first_element ts → if_apart g o ≡ elements_of g
by-first g c ts o p e = ap (if_apart g) e ∙ ap (λ (h : Form). if_apart h (first_element ts)) p ∙ ap elements_of (sym p)

pub elements_none : (f : program_form.Form) (us : L) → us ≡ f.terms → None ≡ first_element (seen us) → None ≡ elements_of (form_tree f)
elements_none f us p e = by-first (form_tree f) f.constant (seen f.terms) None (form-seen f) (e ∙ ap (λ (z : L). first_element (seen z)) p)

pub elements_some : (f : program_form.Form) (us : L) (e : Elements) → us ≡ f.terms → Some e ≡ first_element (seen us) → same_form (form_tree f) (reads_apart e.name e.ones e.twos) ≡ true → Some e ≡ elements_of (form_tree f)
elements_some f us e p h t =
    sym (ap (λ (b : Bool). if b then Some e else None) t) ∙ by-first (form_tree f) f.constant (seen f.terms) (Some e) (form-seen f) (h ∙ ap (λ (z : L). first_element (seen z)) p)

pub elements_other : (f : program_form.Form) (us : L) (e : Elements) → us ≡ f.terms → Some e ≡ first_element (seen us) → same_form (form_tree f) (reads_apart e.name e.ones e.twos) ≡ false → None ≡ elements_of (form_tree f)
elements_other f us e p h t =
    sym (ap (λ (b : Bool). if b then Some e else None) t) ∙ by-first (form_tree f) f.constant (seen f.terms) (Some e) (form-seen f) (h ∙ ap (λ (z : L). first_element (seen z)) p)

-- ---- the least read

abbrev pub E : Type 0
E = ℕ → Option (List ℕ × Forms)

read-front : (elements : E) (x : List ℕ) (fs : Forms) (n k m : ℕ) → k ≡ suc m → least_read elements x fs n k ≡ (if is_element_of x fs (elements n) then Some n else least_read elements x fs (suc n) m)
read-front elements x fs n k m e = ap (least_read elements x fs n) e

pub read-here : (elements : E) (x : List ℕ) (fs : Forms) (n count i : ℕ) → i < count → is_element_of x fs (elements n) ≡ true → least_read elements x fs n (count - i) ≡ Some n
read-here elements x fs n count i h t =
    read-front elements x fs n (count - i) (count - suc i) (omega arith) ∙ ap (λ (b : Bool). if b then Some n else least_read elements x fs (suc n) (count - suc i)) t

pub read-later : (elements : E) (x : List ℕ) (fs : Forms) (n count i : ℕ) → i < count → is_element_of x fs (elements n) ≡ false → least_read elements x fs n (count - i) ≡ least_read elements x fs (suc n) (count - suc i)
read-later elements x fs n count i h t =
    read-front elements x fs n (count - i) (count - suc i) (omega arith) ∙ ap (λ (b : Bool). if b then Some n else least_read elements x fs (suc n) (count - suc i)) t
