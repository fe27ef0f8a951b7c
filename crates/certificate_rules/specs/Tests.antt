-- Whether a derivation is accepted, as functions that compute.
use Rattle.std.specs.Prelude.{ℕ, zero, suc, ◌+◌, ◌*◌, ◌%◌, Bool, true, false, not, ◌&&◌, if◌then◌else◌, nat_eq, nat_lt, bytes_eq, ℤ, pos, negsuc, ◌+ℤ◌, neg_ℤ, int_lt, unsigned_abs, max, List, [], ◌∷◌, ◌++◌, Option, Some, None}
use Rattle.std.specs.declared.cmp.Ordering.{Ordering}
use Rattle.std.specs.declared.cmp.Ordering.TheVariants.{Less, Equal, Greater}
use Rattle.fl_types.specs.declared.access.Access.{Access}
use Rattle.index_forms.specs.declared.form.Side.{Side}
use Rattle.index_forms.specs.declared.form.Side.TheVariants.{One, Two}
use Rattle.index_forms.specs.Form.{Atom, start, iter, inner, inv, version, read, opaque, start2, iter2, Form, form, Terms, no_terms, term, Forms, form_order}
use Rattle.index_forms.specs.Sums.{differences}
use Rattle.index_knowledge.specs.Knowledge.{KnownFact, KnownPair, is_read}
use Rattle.index_ranges.specs.Ranges.{KnownRange}
use Rattle.certificate_rules.specs.Derivations.{Line, hyp, comb, cong, Close, distinct, residue, range, fact, Derived}
use Rattle.certificate_rules.specs.Surveys.{Survey, numbered, count_of, range_of, fact_serves}
use Rattle.certificate_rules.specs.Disjoint.{is_nested}
use Rattle.certificate_rules.specs.Accepted.{combined, if_fits, reads_apart, low_end, high_end}

-- ---- lines

abbrev pub is_equal : Ordering → Bool
is_equal Less = false
is_equal Equal = true
is_equal Greater = false

abbrev pub same_form : Form → Form → Bool
same_form f g = is_equal (form_order f g)

abbrev pub matches : Option Form → Form → Bool
matches None f = false
matches (Some g) f = same_form g f

abbrev pub lines_are : List Form → List ℕ → List Form → Bool
lines_are above [] [] = true
lines_are above [] (f ∷ fs) = false
lines_are above (n ∷ ns) [] = false
lines_are above (n ∷ ns) (f ∷ fs) = matches (numbered above n) f && lines_are above ns fs

abbrev pub is_element : (List ℕ → Bool) → Access → Forms → Bool
is_element fixed a fs = is_read a.kind && (fixed a.place.name && not (nat_eq (count_of fs) 0))

-- the name and the subscripts' forms
abbrev pub element_of : (List ℕ → Bool) → Option Access → Option Forms → Option (List ℕ × Forms)
element_of fixed None o = None
element_of fixed (Some a) None = None
element_of fixed (Some a) (Some fs) = if is_element fixed a fs then Some (a.place.name, fs) else None

abbrev pub element_at : Survey → List Forms → ℕ → Option (List ℕ × Forms)
element_at s side n = element_of s.fixed (numbered s.accesses n) (numbered side n)

abbrev pub cong_form : List Form → List ℕ → Option (List ℕ × Forms) → Option (List ℕ × Forms) → Option Form
cong_form above ls None o = None
cong_form above ls (Some a) None = None
cong_form above ls (Some a) (Some b) = if bytes_eq a.0 b.0 && lines_are above ls (differences a.1 b.1) then Some (reads_apart a.0 a.1 b.1) else None

abbrev pub line_form : Survey → KnownPair → List Form → Line → Option Form
line_form s p above (hyp d) = numbered p.differences d
line_form s p above (comb ms) = if_fits (combined above ms)
line_form s p above (cong a b ls) = cong_form above ls (element_at s s.ones a) (element_at s s.twos b)

abbrev pub after_line : Option Form → (Form → Option (List Form)) → Option (List Form)
after_line None k = None
after_line (Some f) k = k f

-- the forms of all lines, None where one has none
abbrev pub all_forms : Survey → KnownPair → List Form → List Line → Option (List Form)
all_forms s p above [] = Some above
all_forms s p above (l ∷ ls) = after_line (line_form s p above l) (λ f. all_forms s p (above ++ f ∷ []) ls)

-- ---- closes

abbrev pub is_zero : ℤ → Bool
is_zero (pos zero) = true
is_zero (pos (suc n)) = false
is_zero (negsuc n) = false

abbrev pub same_side : Side → Side → Bool
same_side One One = true
same_side One Two = false
same_side Two One = false
same_side Two Two = true

abbrev pub is_iter : Side → Atom → Bool
is_iter s (iter t) = same_side s t
is_iter s a = false

abbrev pub is_iter2 : Side → Atom → Bool
is_iter2 s (iter2 t) = same_side s t
is_iter2 s a = false

-- whether the first terms are an atom without another one, a number of times: that number, and the terms behind
abbrev pub followed : (Atom → Bool) → ℤ → Terms → Option (ℤ × Terms)
followed second a no_terms = None
followed second a (term y b ts) = if second y && is_zero (a +ℤ b) then Some (a, ts) else None

abbrev pub apart_of : (first second : Atom → Bool) → Terms → Option (ℤ × Terms)
apart_of first second no_terms = None
apart_of first second (term x a ts) = if first x && not (is_zero a) then followed second a ts else None

abbrev pub iterations_of : Terms → Option (ℤ × Terms)
iterations_of ts = apart_of (is_iter One) (is_iter Two) ts

abbrev pub second_iterations_of : Terms → Option (ℤ × Terms)
second_iterations_of ts = apart_of (is_iter2 One) (is_iter2 Two) ts

abbrev pub has_none : Terms → Bool
has_none no_terms = true
has_none (term a k ts) = false

abbrev pub is_last : Option (ℤ × Terms) → Bool
is_last None = false
is_last (Some r) = has_none r.1

abbrev pub is_distinct : Form → Bool
is_distinct (form c ts) = is_zero c && is_last (iterations_of ts)

abbrev pub is_second_distinct : Form → Bool
is_second_distinct (form c ts) = is_zero c && is_last (second_iterations_of ts)

abbrev pub holds_of : (Form → Bool) → Option Form → Bool
holds_of test None = false
holds_of test (Some f) = test f

abbrev pub closes_distinct : (nested : Bool) → List Form → ℕ → Option ℕ → Bool
closes_distinct false above l None = holds_of is_distinct (numbered above l)
closes_distinct false above l (Some m) = false
closes_distinct true above l None = false
closes_distinct true above l (Some m) = holds_of is_distinct (numbered above l) && holds_of is_second_distinct (numbered above m)

-- by remainders, in at most so many steps; as many steps as the second number, and one more, are enough
abbrev pub gcd_in : ℕ → ℕ → ℕ → ℕ
gcd_in zero a b = a
gcd_in (suc n) a b = if nat_eq b 0 then a else gcd_in n b (a % b)

abbrev pub gcd : ℕ → ℕ → ℕ
gcd a b = gcd_in (suc b) a b

abbrev pub common_divisor : Terms → ℕ
common_divisor no_terms = 0
common_divisor (term a k ts) = gcd (unsigned_abs k) (common_divisor ts)

-- whether the first number divides the second
abbrev pub divides : ℕ → ℕ → Bool
divides g n = if nat_eq g 0 then nat_eq n 0 else nat_eq (n % g) 0

abbrev pub has_residue : Form → Bool
has_residue (form c ts) = not (divides (common_divisor ts) (unsigned_abs c))

-- the least and the greatest value of a sum, and the terms behind it
pub record Interval : Type 0 where
  pub low : ℤ
  pub high : ℤ
  pub last : Terms

abbrev pub with_multiple : ℤ → Option KnownRange → Option Interval → Option Interval
with_multiple k None o = None
with_multiple k (Some r) None = None
with_multiple k (Some r) (Some w) = Some (record { low = low_end k r +ℤ w.low; high = high_end k r +ℤ w.high; last = w.last })

abbrev pub ended_at : Terms → Option Interval
ended_at ts = Some (record { low = pos 0; high = pos 0; last = ts })

-- of a variable of an inner loop its number
abbrev pub inner_of : Atom → Option ℕ
inner_of start = None
inner_of (iter s) = None
inner_of (inner s l) = Some l
inner_of (inv x) = None
inner_of (version s n x) = None
inner_of (read x fs) = None
inner_of (opaque s a n) = None
inner_of start2 = None
inner_of (iter2 s) = None

abbrev pub interval_by : List KnownRange → Option ℕ → Atom → ℤ → Terms → Option Interval → Option Interval
interval_by rs None x k ts rest = ended_at (term x k ts)
interval_by rs (Some l) x k ts rest = with_multiple k (range_of rs l) rest

-- the sum of the first terms, as far as these are multiples of variables of inner loops; None where one of these has no range
abbrev pub interval : List KnownRange → Terms → Option Interval
interval rs no_terms = ended_at no_terms
interval rs (term x k ts) = interval_by rs (inner_of x) x k ts (interval rs ts)

abbrev pub lies_between : (c a : ℤ) → Interval → Bool
lies_between c a w = int_lt (neg_ℤ (pos (unsigned_abs a))) (c +ℤ w.low) && int_lt (c +ℤ w.high) (pos (unsigned_abs a))

abbrev pub ends_between : (c a : ℤ) → Option Interval → Bool
ends_between c a None = false
ends_between c a (Some w) = has_none w.last && lies_between c a w

abbrev pub range_by : List KnownRange → ℤ → Option (ℤ × Terms) → Bool
range_by rs c None = false
range_by rs c (Some r) = ends_between c r.0 (interval rs r.1)

abbrev pub is_range : List KnownRange → Form → Bool
is_range rs (form c ts) = range_by rs c (iterations_of ts)

abbrev pub size_of : ℤ → Interval → ℕ
size_of c w = max (unsigned_abs (c +ℤ w.low)) (unsigned_abs (c +ℤ w.high))

abbrev pub is_less_twice : (c a b : ℤ) → ℕ → Interval → Bool
is_less_twice c a b m w = nat_lt (size_of c w) (unsigned_abs b) && nat_lt (unsigned_abs b * m + size_of c w) (unsigned_abs a)

abbrev pub second_lies : (c a : ℤ) → Option ℕ → Interval → Option (ℤ × Terms) → Bool
second_lies c a second w None = false
second_lies c a None w (Some r) = false
second_lies c a (Some m) w (Some r) = has_none r.1 && is_less_twice c a r.0 m w

abbrev pub second_ends : (c a : ℤ) → Option ℕ → Option Interval → Bool
second_ends c a second None = false
second_ends c a second (Some w) = second_lies c a second w (second_iterations_of w.last)

abbrev pub second_range_by : List KnownRange → Option ℕ → ℤ → Option (ℤ × Terms) → Bool
second_range_by rs second c None = false
second_range_by rs second c (Some r) = second_ends c r.0 second (interval rs r.1)

abbrev pub is_second_range : List KnownRange → Option ℕ → Form → Bool
is_second_range rs second (form c ts) = second_range_by rs second c (iterations_of ts)

abbrev pub range_holds : (nested : Bool) → Survey → Form → Bool
range_holds false s f = is_range s.ranges f
range_holds true s f = is_second_range s.ranges s.second f

abbrev pub fact_closes : Survey → KnownPair → List Form → List ℕ → Option KnownFact → Bool
fact_closes s p above ls None = false
fact_closes s p above ls (Some k) = fact_serves s.accesses k p && lines_are above ls k.differences

abbrev pub closes : Survey → KnownPair → List Form → Close → Bool
closes s p above (distinct l m) = closes_distinct (is_nested p) above l m
closes s p above (residue l) = holds_of has_residue (numbered above l)
closes s p above (range l) = holds_of (range_holds (is_nested p) s) (numbered above l)
closes s p above (fact n ls) = fact_closes s p above ls (numbered s.facts n)

abbrev pub closes_all : Survey → KnownPair → Close → Option (List Form) → Bool
closes_all s p c None = false
closes_all s p c (Some all) = closes s p all c

abbrev pub accepts : Survey → KnownPair → Derived → Bool
accepts s p d = closes_all s p d.close (all_forms s p [] d.lines)
