-- Which derivations are accepted.
use Rattle.std.specs.Prelude.{◌≡◌, ℕ, ◌+◌, ◌*◌, ◌<◌, Bool, true, false, IsTrue, ℤ, pos, negsuc, ◌+ℤ◌, ◌*ℤ◌, neg_ℤ, ◌<ℤ◌, unsigned_abs, max, List, [], ◌∷◌, ◌++◌, Option, Some, None}
use Prim.Native.Nat.{◌∣◌}
use Rattle.fl_types.specs.declared.access.Access.{Access}
use Rattle.fl_types.specs.declared.access.AccessKind.TheVariants.{Read}
use Rattle.index_forms.specs.declared.form.Side.{Side}
use Rattle.index_forms.specs.declared.form.Side.TheVariants.{One, Two}
use Rattle.index_forms.specs.declared.difference.Extent.TheVariants.{Wide}
use Rattle.index_forms.specs.Form.{Atom, iter, inner, read, iter2, Form, form, Terms, no_terms, term, Forms}
use Rattle.index_forms.specs.Sums.{plus_scaled, minus, differences, if_fitting}
use Rattle.index_forms.specs.Formed.{zero_form, atom_form}
use Rattle.index_knowledge.specs.Knowledge.{KnownFact, KnownPair}
use Rattle.index_ranges.specs.Ranges.{KnownRange}
use Rattle.certificate_rules.specs.Derivations.{Line, hyp, comb, cong, Close, distinct, residue, range, fact, Derived}
use Rattle.certificate_rules.specs.Surveys.{Survey, numbered, count_of, range_of, fact_serves}
use Rattle.certificate_rules.specs.Disjoint.{is_nested}

-- ---- lines

abbrev pub added : ℤ → Option Form → Option Form → Option Form
added m None o = None
added m (Some f) None = None
added m (Some f) (Some g) = Some (plus_scaled m f g)

-- the sum of the listed multiples of the lines above
abbrev pub combined : List Form → List (ℤ × ℕ) → Option Form
combined above [] = Some zero_form
combined above (m ∷ ms) = added m.0 (numbered above m.1) (combined above ms)

-- where its numbers lie in -2^62 .. 2^62
abbrev pub if_fits : Option Form → Option Form
if_fits None = None
if_fits (Some f) = if_fitting Wide f

-- the lines with these numbers are these forms
abbrev pub AreLines : List Form → List ℕ → List Form → Type 0
AreLines above [] [] = Unit {0}
AreLines above [] (f ∷ fs) = ⊥
AreLines above (n ∷ ns) [] = ⊥
AreLines above (n ∷ ns) (f ∷ fs) = (numbered above n ≡ Some f) × AreLines above ns fs

-- an element at the subscripts s without that at the subscripts t
abbrev pub reads_apart : List ℕ → Forms → Forms → Form
reads_apart x s t = minus (atom_form (read x s)) (atom_form (read x t))

-- a read of an element of an index array that the loop doesn't assign, with its subscripts' forms on a side
pub record IsElement (s : Survey) (side : List Forms) (n : ℕ) (x : List ℕ) (fs : Forms) : Type 0 where
  pub access : Access
  pub access_is : numbered s.accesses n ≡ Some access
  pub reading : access.kind ≡ Read
  pub name_is : access.place.name ≡ x
  pub is_fixed : IsTrue (s.fixed x)
  pub forms : numbered side n ≡ Some fs
  pub is_array : 0 < count_of fs

pub record IsCong (s : Survey) (above : List Form) (a b : ℕ) (ls : List ℕ) (f : Form) : Type 0 where
  pub name : List ℕ
  pub ones : Forms
  pub twos : Forms
  pub first : IsElement s s.ones a name ones
  pub second : IsElement s s.twos b name twos
  pub lines : AreLines above ls (differences ones twos)
  pub is : f ≡ reads_apart name ones twos

-- the form that a line stands for, behind the lines above
abbrev pub Stands : Survey → KnownPair → (above : List Form) → Line → Form → Type 0
Stands s p above (hyp d) f = numbered p.differences d ≡ Some f
Stands s p above (comb ms) f = if_fits (combined above ms) ≡ Some f
Stands s p above (cong a b ls) f = IsCong s above a b ls f

abbrev pub AllStand : Survey → KnownPair → (above : List Form) → List Line → List Form → Type 0
AllStand s p above [] all = all ≡ above
AllStand s p above (l ∷ ls) all = (f : Form) × Stands s p above l f × AllStand s p (above ++ f ∷ []) ls all

-- ---- closes

-- an atom without another one, a times, before these terms
abbrev pub apart_by : ℤ → (x y : Atom) → Terms → Terms
apart_by a x y ts = term x a (term y (neg_ℤ a) ts)

-- the iteration's number on side One without that on side Two
abbrev pub by_iterations : ℤ → Terms → Terms
by_iterations a ts = apart_by a (iter One) (iter Two) ts

abbrev pub by_second_iterations : ℤ → Terms → Terms
by_second_iterations b ts = apart_by b (iter2 One) (iter2 Two) ts

abbrev pub IsDistinct : Form → Type 0
IsDistinct f = (a : ℤ) × ¬ (a ≡ pos 0) × (f ≡ form (pos 0) (by_iterations a no_terms))

abbrev pub IsSecondDistinct : Form → Type 0
IsSecondDistinct f = (b : ℤ) × ¬ (b ≡ pos 0) × (f ≡ form (pos 0) (by_second_iterations b no_terms))

-- for the iterations of one loop one line, and for those of two loops two lines
abbrev pub ClosesDistinct : (nested : Bool) → List Form → ℕ → Option ℕ → Type 0
ClosesDistinct false above l None = (f : Form) × (numbered above l ≡ Some f) × IsDistinct f
ClosesDistinct false above l (Some m) = ⊥
ClosesDistinct true above l None = ⊥
ClosesDistinct true above l (Some m) = (f g : Form) × (numbered above l ≡ Some f) × (numbered above m ≡ Some g) × IsDistinct f × IsSecondDistinct g

abbrev pub DividesAll : ℕ → Terms → Type 0
DividesAll d no_terms = Unit {0}
DividesAll d (term a k ts) = (d ∣ unsigned_abs k) × DividesAll d ts

abbrev pub IsGcdOf : ℕ → Terms → Type 0
IsGcdOf g ts = DividesAll g ts × ((d : ℕ) → DividesAll d ts → d ∣ g)

-- the greatest common divisor of the coefficients doesn't divide the constant
abbrev pub HasResidue : Form → Type 0
HasResidue (form c ts) = (g : ℕ) × IsGcdOf g ts × ¬ (g ∣ unsigned_abs c)

-- the least and the greatest value of a multiple of a number in a range
abbrev pub low_end : ℤ → KnownRange → ℤ
low_end (pos k) r = pos k *ℤ r.least
low_end (negsuc k) r = negsuc k *ℤ (r.least +ℤ pos r.width)

abbrev pub high_end : ℤ → KnownRange → ℤ
high_end (pos k) r = pos k *ℤ (r.least +ℤ pos r.width)
high_end (negsuc k) r = negsuc k *ℤ r.least

-- multiples of variables of inner loops with ranges, before the last terms; their sum is from `low` to `high`
pub data Within (rs : List KnownRange) (last : Terms) : Terms → ℤ → ℤ → Type 0 where
  nothing_within : Within rs last last (pos 0) (pos 0)
  more_within : (side : Side) (l : ℕ) (k : ℤ) (ts : Terms) (r : KnownRange) (low high : ℤ) → range_of rs l ≡ Some r → Within rs last ts low high →
      Within rs last (term (inner side l) k ts) (low_end k r +ℤ low) (high_end k r +ℤ high)

-- the least and the greatest value of what is left of the line lie strictly between -|a| and |a|
pub record IsRange (rs : List KnownRange) (f : Form) : Type 0 where
  pub a : ℤ
  pub constant : ℤ
  pub rest : Terms
  pub low : ℤ
  pub high : ℤ
  pub nonzero : ¬ (a ≡ pos 0)
  pub is : f ≡ form constant (by_iterations a rest)
  pub within : Within rs no_terms rest low high
  pub above : neg_ℤ (pos (unsigned_abs a)) <ℤ (constant +ℤ low)
  pub below : (constant +ℤ high) <ℤ pos (unsigned_abs a)

-- of the iterations of two loops, m being the greatest number of the inner one
pub record IsSecondRange (rs : List KnownRange) (second : Option ℕ) (f : Form) : Type 0 where
  pub a : ℤ
  pub b : ℤ
  pub constant : ℤ
  pub rest : Terms
  pub low : ℤ
  pub high : ℤ
  pub m : ℕ
  pub nonzero : ¬ (a ≡ pos 0)
  pub second_nonzero : ¬ (b ≡ pos 0)
  pub is : f ≡ form constant (by_iterations a rest)
  pub within : Within rs (by_second_iterations b no_terms) rest low high
  pub second_is : second ≡ Some m
  pub inner_less : max (unsigned_abs (constant +ℤ low)) (unsigned_abs (constant +ℤ high)) < unsigned_abs b
  pub outer_less : unsigned_abs b * m + max (unsigned_abs (constant +ℤ low)) (unsigned_abs (constant +ℤ high)) < unsigned_abs a

abbrev pub ClosesRange : (nested : Bool) → Survey → Form → Type 0
ClosesRange false s f = IsRange s.ranges f
ClosesRange true s f = IsSecondRange s.ranges s.second f

-- a fact that serves the pair has these lines as its differences
pub record IsFact (s : Survey) (p : KnownPair) (above : List Form) (n : ℕ) (ls : List ℕ) : Type 0 where
  pub known : KnownFact
  pub is : numbered s.facts n ≡ Some known
  pub serving : IsTrue (fact_serves s.accesses known p)
  pub lines : AreLines above ls known.differences

abbrev pub Closes : Survey → KnownPair → (above : List Form) → Close → Type 0
Closes s p above (distinct l m) = ClosesDistinct (is_nested p) above l m
Closes s p above (residue l) = (f : Form) × (numbered above l ≡ Some f) × HasResidue f
Closes s p above (range l) = (f : Form) × (numbered above l ≡ Some f) × ClosesRange (is_nested p) s f
Closes s p above (fact n ls) = IsFact s p above n ls

-- each line stands, and the close holds of them
abbrev pub Accepted : Survey → KnownPair → Derived → Type 0
Accepted s p d = (all : List Form) × AllStand s p [] d.lines all × Closes s p all d.close
