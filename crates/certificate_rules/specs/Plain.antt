-- Which pairs are plainly disjoint, each with the derivation that is stated for it.
use Rattle.std.specs.Prelude.{ℕ, zero, suc, ◌+◌, Bool, true, false, ◌&&◌, if◌then◌else◌, bytes_eq, ℤ, pos, negsuc, List, [], ◌∷◌, ◌++◌, length, option_map, Option, Some, None}
use Rattle.index_forms.specs.Form.{read, Form, form, Terms, no_terms, term, Forms, forms_order}
use Rattle.index_forms.specs.Sums.{differences}
use Rattle.index_forms.specs.Formed.{zero_form}
use Rattle.index_knowledge.specs.Knowledge.{KnownFact, KnownPair}
use Rattle.certificate_rules.specs.Derivations.{Line, hyp, comb, cong, Close, distinct, residue, range, fact, Derived}
use Rattle.certificate_rules.specs.Surveys.{Survey, fact_serves}
use Rattle.certificate_rules.specs.Disjoint.{is_nested}
use Rattle.certificate_rules.specs.Accepted.{reads_apart}
use Rattle.certificate_rules.specs.Tests.{is_equal, same_form, element_at, is_distinct, is_second_distinct, has_residue, range_holds}

abbrev pub or_else : {A : Type 0} → Option A → Option A → Option A
or_else None o = o
or_else (Some a) o = Some a

-- the least number of a form that meets a test, n being the first one's
abbrev pub least_from : (Form → Bool) → ℕ → List Form → Option ℕ
least_from test n [] = None
least_from test n (f ∷ fs) = if test f then Some n else least_from test (suc n) fs

abbrev pub least : (Form → Bool) → List Form → Option ℕ
least test fs = least_from test 1 fs

-- so many numbers, from n on
abbrev pub numbers_from : ℕ → ℕ → List ℕ
numbers_from n zero = []
numbers_from n (suc k) = n ∷ numbers_from (suc n) k

-- ---- lines that stand for given forms

-- the empty sum where the form is 0, else the least of the pair's differences that is the form
abbrev pub line_for : KnownPair → Form → Option Line
line_for p g = if same_form g zero_form then Some (comb []) else option_map hyp (least (λ f. same_form f g) p.differences)

abbrev pub after_first : Option Line → Option (List Line) → Option (List Line)
after_first None o = None
after_first (Some l) None = None
after_first (Some l) (Some ls) = Some (l ∷ ls)

-- for each form a line
abbrev pub lines_for : KnownPair → List Form → Option (List Line)
lines_for p [] = Some []
lines_for p (g ∷ gs) = after_first (line_for p g) (lines_for p gs)

-- ---- a fact whose differences are 0 or the pair's

abbrev pub fact_derivation : ℕ → Option (List Line) → Option Derived
fact_derivation n None = None
fact_derivation n (Some ls) = Some (record { lines = ls; close = fact n (numbers_from 1 (length ls)) })

abbrev pub by_fact : Survey → KnownPair → ℕ → KnownFact → Option Derived
by_fact s p n k = if fact_serves s.accesses k p then fact_derivation n (lines_for p k.differences) else None

-- of the least fact that has one, n being the first one's number
abbrev pub by_facts : (ℕ → KnownFact → Option Derived) → ℕ → List KnownFact → Option Derived
by_facts derive n [] = None
by_facts derive n (k ∷ ks) = or_else (derive n k) (by_facts derive (suc n) ks)

-- ---- a difference of the pair that closes by itself

abbrev pub alone : (ℕ → Close) → Option ℕ → Option Derived
alone close None = None
alone close (Some d) = Some (record { lines = hyp d ∷ []; close = close 1 })

abbrev pub two_lines : Option ℕ → Option ℕ → Option Derived
two_lines None o = None
two_lines (Some d) None = None
two_lines (Some d) (Some e) = Some (record { lines = hyp d ∷ hyp e ∷ []; close = distinct 1 (Some 2) })

abbrev pub by_distinct : (nested : Bool) → KnownPair → Option Derived
by_distinct false p = alone (λ l. distinct l None) (least is_distinct p.differences)
by_distinct true p = two_lines (least is_distinct p.differences) (least is_second_distinct p.differences)

abbrev pub by_residue : KnownPair → Option Derived
by_residue p = alone residue (least has_residue p.differences)

abbrev pub by_range : Survey → KnownPair → Option Derived
by_range s p = alone range (least (range_holds (is_nested p) s) p.differences)

-- ---- a fact whose differences are 0, the pair's, or those of elements of an index array whose subscripts' differences are 0 or the pair's

-- an element without another one, by their array and their subscripts' forms
pub record Elements : Type 0 where
  pub name : List ℕ
  pub ones : Forms
  pub twos : Forms

abbrev pub by_signs : List ℕ → Forms → Forms → (k m : ℤ) → Option Elements
by_signs x s t (pos zero) m = None
by_signs x s t (pos (suc n)) m = Some (record { name = x; ones = s; twos = t })
by_signs x s t (negsuc n) m = Some (record { name = x; ones = t; twos = s })

abbrev pub second_element : List ℕ → Forms → ℤ → Terms → Option Elements
second_element x s k no_terms = None
second_element x s k (term (read y t) m ts) = by_signs x s t k m
second_element x s k (term a m ts) = None

abbrev pub first_element : Terms → Option Elements
first_element no_terms = None
first_element (term (read x s) k ts) = second_element x s k ts
first_element (term a k ts) = None

abbrev pub if_apart : Form → Option Elements → Option Elements
if_apart g None = None
if_apart g (Some e) = if same_form g (reads_apart e.name e.ones e.twos) then Some e else None

-- the two elements whose difference a form is
abbrev pub elements_of : Form → Option Elements
elements_of (form c ts) = if_apart (form c ts) (first_element ts)

abbrev pub is_element_of : List ℕ → Forms → Option (List ℕ × Forms) → Bool
is_element_of x fs None = false
is_element_of x fs (Some e) = bytes_eq e.0 x && is_equal (forms_order e.1 fs)

-- the least read of this element, the first of the accesses having number n, and `left` being how many there are
abbrev pub least_read : (ℕ → Option (List ℕ × Forms)) → List ℕ → Forms → (n left : ℕ) → Option ℕ
least_read elements x fs n zero = None
least_read elements x fs n (suc k) = if is_element_of x fs (elements n) then Some n else least_read elements x fs (suc n) k

-- lines, and the number of the last one
pub record Shown : Type 0 where
  pub lines : List Line
  pub last : ℕ

-- n is the number of the first of the lines that are made
abbrev pub shown_alone : ℕ → Option Line → Option Shown
shown_alone n None = None
shown_alone n (Some l) = Some (record { lines = l ∷ []; last = n })

abbrev pub shown_cong : ℕ → Option ℕ → Option ℕ → Option (List Line) → Option Shown
shown_cong n None b ls = None
shown_cong n (Some a) None ls = None
shown_cong n (Some a) (Some b) None = None
shown_cong n (Some a) (Some b) (Some ls) = Some (record { lines = ls ++ cong a b (numbers_from n (length ls)) ∷ []; last = n + length ls })

abbrev pub shown_elements : Survey → KnownPair → ℕ → Option Elements → Option Shown
shown_elements s p n None = None
shown_elements s p n (Some e) =
    shown_cong n (least_read (element_at s s.ones) e.name e.ones 1 (length s.accesses)) (least_read (element_at s s.twos) e.name e.twos 1 (length s.accesses))
    (lines_for p (differences e.ones e.twos))

abbrev pub shown : Survey → KnownPair → ℕ → Form → Option Shown
shown s p n g = or_else (shown_alone n (line_for p g)) (shown_elements s p n (elements_of g))

-- the lines of all, and the numbers of their last ones
pub record AllShown : Type 0 where
  pub lines : List Line
  pub lasts : List ℕ

abbrev pub and_shown : Shown → Option AllShown → Option AllShown
and_shown w None = None
and_shown w (Some r) = Some (record { lines = w.lines ++ r.lines; lasts = w.last ∷ r.lasts })

abbrev pub after_shown : ℕ → Option Shown → (ℕ → Option AllShown) → Option AllShown
after_shown n None rest = None
after_shown n (Some w) rest = and_shown w (rest (n + length w.lines))

abbrev pub all_shown : Survey → KnownPair → ℕ → List Form → Option AllShown
all_shown s p n [] = Some (record { lines = []; lasts = [] })
all_shown s p n (g ∷ gs) = after_shown n (shown s p n g) (λ m. all_shown s p m gs)

abbrev pub shown_derivation : ℕ → Option AllShown → Option Derived
shown_derivation n None = None
shown_derivation n (Some w) = Some (record { lines = w.lines; close = fact n w.lasts })

abbrev pub by_elements : Survey → KnownPair → ℕ → KnownFact → Option Derived
by_elements s p n k = if fact_serves s.accesses k p then shown_derivation n (all_shown s p 1 k.differences) else None

-- ---- all cases

-- the derivation of the first case that holds, None where the pair isn't plain
abbrev pub stated : Survey → KnownPair → Option Derived
stated s p =
    or_else (by_facts (by_fact s p) 1 s.facts) (or_else (by_distinct (is_nested p) p) (or_else (by_residue p) (or_else (by_range s p) (by_facts (by_elements s p) 1 s.facts))))
