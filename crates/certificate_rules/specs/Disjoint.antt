-- What a derivation is to show of a pair.
use Rattle.std.specs.Prelude.{◌≡◌, ℕ, Bool, true, false, nat_eq, ℤ, pos, ◌+ℤ◌, ◌≤ℤ◌, IsTrue, Some}
use Rattle.index_forms.specs.declared.form.Side.{Side}
use Rattle.index_forms.specs.declared.form.Side.TheVariants.{One, Two}
use Rattle.index_forms.specs.Form.{Atom, iter, inner, iter2, Forms}
use Rattle.index_forms.specs.Sums.{values, Congruent}
use Rattle.index_knowledge.specs.Knowledge.{KnownFact, KnownPair}
use Rattle.index_ranges.specs.Ranges.{KnownRange}
use Rattle.certificate_rules.specs.Surveys.{Survey, numbered, range_of, fact_serves}

-- whether the iterations are those of two loops
abbrev pub is_nested : KnownPair → Bool
is_nested p = nat_eq p.nest 2

-- the iterations of the two sides are different ones
abbrev pub DifferentIterations : (nested : Bool) → (Atom → ℤ) → Type 0
DifferentIterations false v = ¬ (v (iter One) ≡ v (iter Two))
DifferentIterations true v = ¬ ((v (iter One) ≡ v (iter Two)) × (v (iter2 One) ≡ v (iter2 Two)))

-- a valuation agrees with all that is known of two different iterations, in which the pair's accesses are evaluated
pub record Respects (v : Atom → ℤ) (s : Survey) (p : KnownPair) : Type 0 where
  pub congruent : Congruent v
  pub iterations : DifferentIterations (is_nested p) v
  pub ranges : (side : Side) (l : ℕ) (r : KnownRange) → range_of s.ranges l ≡ Some r → (r.least ≤ℤ v (inner side l)) × (v (inner side l) ≤ℤ (r.least +ℤ pos r.width))
  pub second : (side : Side) (m : ℕ) → s.second ≡ Some m → (pos 0 ≤ℤ v (iter2 side)) × (v (iter2 side) ≤ℤ pos m)
  pub facts : (n : ℕ) (k : KnownFact) (f g : Forms) → numbered s.facts n ≡ Some k → IsTrue (fact_serves s.accesses k p) →
      numbered s.ones k.first ≡ Some f → numbered s.twos k.second ≡ Some g → ¬ (values v f ≡ values v g)

-- under every valuation that respects the pair the subscript lists of its accesses differ
abbrev pub Disjoint : Survey → KnownPair → (f g : Forms) → Type 0
Disjoint s p f g = (v : Atom → ℤ) → Respects v s p → ¬ (values v f ≡ values v g)
