-- A valuation for two iterations, whose Read atoms are the elements that arrays have before the loop.
use Rattle.std.proofs.Common.{◌≡◌, ℕ, true, ℤ, pos, ◌+ℤ◌, ◌*ℤ◌, List, [], ◌∷◌, refl, ap, sym, ◌∙◌, Option, Some, None}
use Rattle.std.specs.Prelude.{◌/◌, ◌%◌}
use Rattle.fl_types.specs.Nests.{Head}
use Rattle.meaning.specs.declared.value.Value.{Value}
use Rattle.meaning.specs.declared.value.Value.TheVariants.{Index, Ring}
use Rattle.meaning.specs.Sites.{Cells, Site}
use Rattle.meaning.specs.Statements.{Heads, iterations}
use Rattle.meaning.specs.Frame.{content_by_name}
use Rattle.index_forms.specs.declared.form.Side.{Side}
use Rattle.index_forms.specs.declared.form.Side.TheVariants.{One, Two}
use Rattle.index_forms.specs.Form.{Atom, start, iter, inner, inv, version, read, opaque, start2, iter2, Form, form, Terms, no_terms, term, Forms, no_forms, and_form}
use Rattle.index_forms.specs.Sums.{total, value, values, Congruent}
use Rattle.index_forms.specs.Loops.{HeadedLoop, further, step_number}
use Rattle.index_law.specs.Variables.{counter_value}
use Rattle.index_law.specs.Starts.{HasCounters}
use Rattle.index_law.specs.Valuations.{HasReads, is_of_instance, StandsForTwo}

-- ---- Read atoms by the forms of their subscripts

abbrev mutual
  filled : (Atom → ℤ) → (List ℕ → List ℤ → ℤ) → Atom → ℤ
  filled b h (read x fs) = h x (filled_forms b h fs)
  filled b h start = b start
  filled b h (iter s) = b (iter s)
  filled b h (inner s l) = b (inner s l)
  filled b h (inv y) = b (inv y)
  filled b h (version s n y) = b (version s n y)
  filled b h (opaque s a n) = b (opaque s a n)
  filled b h start2 = b start2
  filled b h (iter2 s) = b (iter2 s)

  filled_form : (Atom → ℤ) → (List ℕ → List ℤ → ℤ) → Form → ℤ
  filled_form b h (form c ts) = c +ℤ filled_terms b h ts

  filled_terms : (Atom → ℤ) → (List ℕ → List ℤ → ℤ) → Terms → ℤ
  filled_terms b h no_terms = pos 0
  filled_terms b h (term a k ts) = (k *ℤ filled b h a) +ℤ filled_terms b h ts

  filled_forms : (Atom → ℤ) → (List ℕ → List ℤ → ℤ) → Forms → List ℤ
  filled_forms b h no_forms = []
  filled_forms b h (and_form f fs) = filled_form b h f ∷ filled_forms b h fs

terms_filled : (b : Atom → ℤ) (h : List ℕ → List ℤ → ℤ) (ts : Terms) → filled_terms b h ts ≡ total (filled b h) ts
terms_filled b h no_terms = refl
terms_filled b h (term a k ts) = ap (λ (z : ℤ). (k *ℤ filled b h a) +ℤ z) (terms_filled b h ts)

form_filled : (b : Atom → ℤ) (h : List ℕ → List ℤ → ℤ) (f : Form) → filled_form b h f ≡ value (filled b h) f
form_filled b h (form c ts) = ap (λ (z : ℤ). c +ℤ z) (terms_filled b h ts)

forms_filled : (b : Atom → ℤ) (h : List ℕ → List ℤ → ℤ) (fs : Forms) → filled_forms b h fs ≡ values (filled b h) fs
forms_filled b h no_forms = refl
forms_filled b h (and_form f fs) = let p = form_filled b h f in let q = forms_filled b h fs in cc

congruent : (b : Atom → ℤ) (h : List ℕ → List ℤ → ℤ) → Congruent (filled b h)
congruent b h = record { same_read = λ x s t e. ap (h x) (forms_filled b h s ∙ (e ∙ sym (forms_filled b h t))) }

abbrev index_of : Option Value → ℤ
index_of None = pos 0
index_of (Some (Index z)) = z
index_of (Some (Ring d)) = pos 0

abbrev elements : Site → Cells → List ℕ → List ℤ → ℤ
elements site cells x ss = index_of (content_by_name site cells x ss)

reads_filled : (b : Atom → ℤ) (site : Site) (cells : Cells) → HasReads (filled b (elements site cells)) site cells
reads_filled b site cells x fs z h = ap (elements site cells x) (forms_filled b (elements site cells) fs) ∙ ap index_of h

-- ---- the atoms of the start

abbrev first_of : Heads → ℤ
first_of [] = pos 0
first_of (a ∷ as') = a.1.first

abbrev counter_of : Head → Heads → ℕ → ℤ
counter_of h [] k = pos 0
counter_of h (a ∷ []) k = counter_value (step_number h.step) a.1 k
counter_of h (a ∷ b ∷ bs) k = counter_value (step_number h.step) a.1 (k / iterations (b ∷ bs))

abbrev second_first : Heads → ℤ
second_first [] = pos 0
second_first (a ∷ as') = first_of as'

abbrev second_counter : Option Head → Heads → ℕ → ℤ
second_counter None heads k = pos 0
second_counter (Some h) [] k = pos 0
second_counter (Some h) (a ∷ []) k = pos 0
second_counter (Some h) (a ∷ b ∷ bs) k = counter_value (step_number h.step) b.1 (k % iterations (b ∷ bs))

abbrev by_side : Side → ℤ → ℤ → ℤ
by_side One x y = x
by_side Two x y = y

abbrev at_starts : Head → Option Head → Site → Heads → Cells → (i j : ℕ) → (Atom → ℤ) → Atom → ℤ
at_starts h more site heads cells i j given start = first_of heads
at_starts h more site heads cells i j given (iter s) = by_side s (counter_of h heads i) (counter_of h heads j)
at_starts h more site heads cells i j given (inner s l) = given (inner s l)
at_starts h more site heads cells i j given (inv x) = elements site cells x []
at_starts h more site heads cells i j given (version s n x) = given (version s n x)
at_starts h more site heads cells i j given (read x fs) = pos 0
at_starts h more site heads cells i j given (opaque s a n) = given (opaque s a n)
at_starts h more site heads cells i j given start2 = second_first heads
at_starts h more site heads cells i j given (iter2 s) = by_side s (second_counter more heads i) (second_counter more heads j)

abbrev pub valuation : Head → Option Head → Site → Heads → Cells → (i j : ℕ) → (Atom → ℤ) → Atom → ℤ
valuation h more site heads cells i j given = filled (at_starts h more site heads cells i j given) (elements site cells)

counters_one : (h : Head) (more : Option Head) (site : Site) (heads : Heads) (cells : Cells) (i j : ℕ) (given : Atom → ℤ) → HasCounters (valuation h more site heads cells i j given) One h more heads i
counters_one h more site [] cells i j given = tt
counters_one h more site (a ∷ []) cells i j given = (refl, refl)
counters_one h None site (a ∷ b ∷ bs) cells i j given = ((refl, refl), tt)
counters_one h (Some g) site (a ∷ b ∷ bs) cells i j given = ((refl, refl), (refl, refl))

counters_two : (h : Head) (more : Option Head) (site : Site) (heads : Heads) (cells : Cells) (i j : ℕ) (given : Atom → ℤ) → HasCounters (valuation h more site heads cells i j given) Two h more heads j
counters_two h more site [] cells i j given = tt
counters_two h more site (a ∷ []) cells i j given = (refl, refl)
counters_two h None site (a ∷ b ∷ bs) cells i j given = ((refl, refl), tt)
counters_two h (Some g) site (a ∷ b ∷ bs) cells i j given = ((refl, refl), (refl, refl))

as_given : (h : Head) (more : Option Head) (site : Site) (heads : Heads) (cells : Cells) (i j : ℕ) (given : Atom → ℤ) (a : Atom) → is_of_instance a ≡ true → valuation h more site heads cells i j given a ≡ given a
as_given h more site heads cells i j given (inner s l) e = refl
as_given h more site heads cells i j given (version s n x) e = refl
as_given h more site heads cells i j given (opaque s a n) e = refl
as_given h more site heads cells i j given start e = cc
as_given h more site heads cells i j given (iter s) e = cc
as_given h more site heads cells i j given (inv x) e = cc
as_given h more site heads cells i j given (read x fs) e = cc
as_given h more site heads cells i j given start2 e = cc
as_given h more site heads cells i j given (iter2 s) e = cc

pub valuations_stand : (l : HeadedLoop) (site : Site) (heads : Heads) (cells : Cells) (i j : ℕ) (given : Atom → ℤ) → (v : Atom → ℤ) × StandsForTwo v given l site heads cells i j
valuations_stand l site heads cells i j given =
    let v = valuation l.head (further l) site heads cells i j given in (
      v,
      record {
        one = record { counters = counters_one l.head (further l) site heads cells i j given; invariants = λ x z e. ap index_of e };
        two = record { counters = counters_two l.head (further l) site heads cells i j given; invariants = λ x z e. ap index_of e };
        congruent = congruent (at_starts l.head (further l) site heads cells i j given) (elements site cells);
        reads = reads_filled (at_starts l.head (further l) site heads cells i j given) site cells;
        instances = as_given l.head (further l) site heads cells i j given;
      },
    )
