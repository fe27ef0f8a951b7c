-- Two terms that are a multiple of one atom without another one.
use Rattle.std.proofs.Common.{◌≡◌, ◌≢◌, ◌<◌, Bool, true, false, not, ◌&&◌, if◌then◌else◌, ℤ, ◌+ℤ◌, List, [], ◌∷◌, map, length, get_or, Option, Some, None, refl, sym, ap, ◌∙◌, arith}
use Rattle.index_forms.specs.declared.form.Atom as program
use Rattle.index_forms.specs.declared.form.Form as program_form
use Rattle.index_forms.specs.declared.form.Side.TheVariants.{One, Two}
use Rattle.index_forms.specs.Form.{Atom, Terms, no_terms, term}
use Rattle.index_forms.specs.Seen.{atom_tree, form_tree, term_tree, terms_of}
use Rattle.certificate_rules.specs.Tests.{is_zero, is_iter, is_iter2, apart_of, is_last, iterations_of, second_iterations_of, is_distinct, is_second_distinct}
use Rattle.acceptance.specs.Pairs.{apart_test}
use Rattle.acceptance.proofs.Seens.{form-seen}

abbrev L : Type 0
L = List (program.Atom × ℤ)

both : (p q : Bool) (a : ℤ) → is_last (if p then (if q then Some (a, no_terms) else None) else None) ≡ (p && q)
both true true a = refl
both true false a = refl
both false q a = refl

neither : (p : Bool) → is_last (if p then None else None) ≡ false
neither true = refl
neither false = refl

more : (p q : Bool) (a b : ℤ) (x : Atom) (ts : Terms) → is_last (if p then (if q then Some (a, term x b ts) else None) else None) ≡ false
more true true a b x ts = refl
more true false a b x ts = refl
more false q a b x ts = refl

two-terms : (first second : Atom → Bool) (ts : L) (p q : program.Atom × ℤ) → length ts ≡ 2 → p ≡ get_or ts 0 p → q ≡ get_or ts 1 q →
    is_last (apart_of first second (terms_of (map term_tree ts))) ≡ apart_test (first (atom_tree p.0)) (second (atom_tree q.0)) p.1 q.1
two-terms first second [] p q h e f = absurd (omega arith)
two-terms first second (x ∷ []) p q h e f = absurd (omega arith)
two-terms first second (x ∷ y ∷ []) p q h e f =
    both (first (atom_tree x.0) && not (is_zero x.1)) (second (atom_tree y.0) && is_zero (x.1 +ℤ y.1)) x.1
    ∙ ap (λ (z : program.Atom × ℤ). apart_test (first (atom_tree z.0)) (second (atom_tree y.0)) z.1 y.1) (sym e)
    ∙ ap (λ (z : program.Atom × ℤ). apart_test (first (atom_tree p.0)) (second (atom_tree z.0)) p.1 z.1) (sym f)
two-terms first second (x ∷ y ∷ z ∷ ts) p q h e f = absurd (omega arith)

not-two : (first second : Atom → Bool) (ts : L) → length ts ≢ 2 → is_last (apart_of first second (terms_of (map term_tree ts))) ≡ false
not-two first second [] h = refl
not-two first second (x ∷ []) h = neither (first (atom_tree x.0) && not (is_zero x.1))
not-two first second (x ∷ y ∷ []) h = absurd (h refl)
not-two first second (x ∷ y ∷ z ∷ ts) h = more (first (atom_tree x.0) && not (is_zero x.1)) (second (atom_tree y.0) && is_zero (x.1 +ℤ y.1)) x.1 z.1 (atom_tree z.0) (terms_of (map term_tree ts))

pub iterations-two : (ts : L) (p q : program.Atom × ℤ) → length ts ≡ 2 → p ≡ get_or ts 0 p → q ≡ get_or ts 1 q →
    is_last (iterations_of (terms_of (map term_tree ts))) ≡ apart_test (is_iter One (atom_tree p.0)) (is_iter Two (atom_tree q.0)) p.1 q.1
iterations-two ts p q h e f = two-terms (is_iter One) (is_iter Two) ts p q h e f

pub iterations-not : (ts : L) → length ts ≢ 2 → is_last (iterations_of (terms_of (map term_tree ts))) ≡ false
iterations-not ts h = not-two (is_iter One) (is_iter Two) ts h

pub second-two : (ts : L) (p q : program.Atom × ℤ) → length ts ≡ 2 → p ≡ get_or ts 0 p → q ≡ get_or ts 1 q →
    is_last (second_iterations_of (terms_of (map term_tree ts))) ≡ apart_test (is_iter2 One (atom_tree p.0)) (is_iter2 Two (atom_tree q.0)) p.1 q.1
second-two ts p q h e f = two-terms (is_iter2 One) (is_iter2 Two) ts p q h e f

pub second-not : (ts : L) → length ts ≢ 2 → is_last (second_iterations_of (terms_of (map term_tree ts))) ≡ false
second-not ts h = not-two (is_iter2 One) (is_iter2 Two) ts h

-- ---- whole forms

pub distinct-seen : (f : program_form.Form) (ts : L) (r z : Bool) → z ≡ is_zero f.constant → z ≡ true → ts ≡ f.terms → r ≡ is_last (iterations_of (terms_of (map term_tree ts))) → r ≡ is_distinct (form_tree f)
distinct-seen f ts r z e t s h =
    h ∙ ap (λ (us : L). is_last (iterations_of (terms_of (map term_tree us)))) s
    ∙ ap (λ (b : Bool). b && is_last (iterations_of (terms_of (map term_tree f.terms)))) (sym (sym e ∙ t)) ∙ ap is_distinct (sym (form-seen f))

pub second-seen : (f : program_form.Form) (ts : L) (r z : Bool) → z ≡ is_zero f.constant → z ≡ true → ts ≡ f.terms → r ≡ is_last (second_iterations_of (terms_of (map term_tree ts))) → r ≡ is_second_distinct (form_tree f)
second-seen f ts r z e t s h =
    h ∙ ap (λ (us : L). is_last (second_iterations_of (terms_of (map term_tree us)))) s
    ∙ ap (λ (b : Bool). b && is_last (second_iterations_of (terms_of (map term_tree f.terms)))) (sym (sym e ∙ t)) ∙ ap is_second_distinct (sym (form-seen f))

-- ---- fewer than two terms

none-either : {A : Type 0} (b : Bool) → ◌≡◌ {A = Option A} None (if b then None else None)
none-either true = refl
none-either false = refl

apart-short : (first second : Atom → Bool) (ts : L) → length ts < 2 → ◌≡◌ {A = Option (ℤ × Terms)} None (apart_of first second (terms_of (map term_tree ts)))
apart-short first second [] h = refl
apart-short first second (x ∷ []) h = none-either (first (atom_tree x.0) && not (is_zero x.1))
apart-short first second (x ∷ y ∷ ts) h = absurd (omega arith)

pub iterations_short : (ts : L) → length ts < 2 → ◌≡◌ {A = Option (ℤ × Terms)} None (iterations_of (terms_of (map term_tree ts)))
iterations_short ts h = apart-short (is_iter One) (is_iter Two) ts h

pub second_short : (ts : L) → length ts < 2 → ◌≡◌ {A = Option (ℤ × Terms)} None (second_iterations_of (terms_of (map term_tree ts)))
second_short ts h = apart-short (is_iter2 One) (is_iter2 Two) ts h
