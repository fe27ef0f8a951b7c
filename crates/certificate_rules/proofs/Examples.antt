-- Derivations of small loops.
use Rattle.std.proofs.Common.{◌≡◌, ℕ, Bool, true, false, ℤ, pos, List, [], ◌∷◌, Option, Some, None, refl}
use Rattle.fl_types.specs.declared.access.Access.{Access}
use Rattle.fl_types.specs.declared.access.AccessKind.{AccessKind}
use Rattle.fl_types.specs.declared.access.AccessKind.TheVariants.{Read, Write}
use Rattle.index_forms.specs.declared.form.Side.{Side}
use Rattle.index_forms.specs.declared.form.Side.TheVariants.{One, Two}
use Rattle.index_forms.specs.Form.{iter, inner, read, iter2, Form, form, no_terms, term, Forms, no_forms, and_form}
use Rattle.index_forms.specs.Sums.{differences}
use Rattle.index_knowledge.specs.Knowledge.{KnownPair, facts}
use Rattle.index_ranges.specs.Ranges.{KnownRange}
use Rattle.certificate_rules.specs.Derivations.{Line, hyp, comb, cong, Close, distinct, residue, range, fact, Derived}
use Rattle.certificate_rules.specs.Surveys.{Survey}
use Rattle.certificate_rules.specs.Tests.{accepts}

abbrev accessed : ℕ → List ℕ → AccessKind → Access
accessed n x k = record { number = n; loop_number = 1; line = 1; place = record { name = x; subscripts = [] }; path = []; kind = k }

abbrev one : Form → Forms
one f = and_form f no_forms

-- m times the iteration's number, and a constant
abbrev linear : Side → ℤ → ℤ → Form
linear s m c = form c (term (iter s) m no_terms)

-- an element of the index array 99 at the iteration's number, times m
abbrev element : Side → ℤ → Form
element s m = form (pos 0) (term (read (99 ∷ []) (one (linear s (pos 1) (pos 0)))) m no_terms)

abbrev pair : (nest : ℕ) → Forms → Forms → KnownPair
pair k f g = record { loop_number = 1; first = 1; second = 1; differences = differences f g; nest = k }

abbrev surveyed : List Access → List Forms → List Forms → List KnownRange → Option ℕ → Survey
surveyed as' fs gs rs m = record { accesses = as'; ones = fs; twos = gs; fixed = λ x. true; facts = facts as' fs gs; ranges = rs; second = m }

abbrev derived : List Line → Close → Derived
derived ls c = record { lines = ls; close = c }

-- x(i) is at a place of its own in each iteration
apart : accepts (surveyed [] [] [] [] None) (pair 1 (one (linear One (pos 1) (pos 0))) (one (linear Two (pos 1) (pos 0)))) (derived (hyp 1 ∷ []) (distinct 1 None)) ≡ true
apart = refl

-- with a second line there it is refused, and so is it for the iterations of two loops
one_line : accepts (surveyed [] [] [] [] None) (pair 1 (one (linear One (pos 1) (pos 0))) (one (linear Two (pos 1) (pos 0)))) (derived (hyp 1 ∷ []) (distinct 1 (Some 1))) ≡ false
one_line = refl

two_loops : accepts (surveyed [] [] [] [] None) (pair 2 (one (linear One (pos 1) (pos 0))) (one (linear Two (pos 1) (pos 0)))) (derived (hyp 1 ∷ []) (distinct 1 None)) ≡ false
two_loops = refl

-- x(2*i) and x(2*i+1), and not x(2*i) and x(2*i+2)
odd : accepts (surveyed [] [] [] [] None) (pair 1 (one (linear One (pos 2) (pos 0))) (one (linear Two (pos 2) (pos 1)))) (derived (hyp 1 ∷ []) (residue 1)) ≡ true
odd = refl

even : accepts (surveyed [] [] [] [] None) (pair 1 (one (linear One (pos 2) (pos 0))) (one (linear Two (pos 2) (pos 2)))) (derived (hyp 1 ∷ []) (residue 1)) ≡ false
even = refl

-- four elements an iteration, and not five
blocks : (width : ℕ) → Bool
blocks w = accepts (surveyed [] [] [] (record { number = 2; least = pos 1; width = w } ∷ []) None)
    (pair 1 (one (form (pos 0) (term (iter One) (pos 4) (term (inner One 2) (pos 1) no_terms)))) (one (form (pos 0) (term (iter Two) (pos 4) (term (inner Two 2) (pos 1) no_terms)))))
    (derived (hyp 1 ∷ []) (range 1))

-- the same with the four in a loop that is collapsed with the outer one
grid : (greatest : ℕ) → Bool
grid m = accepts (surveyed [] [] [] [] (Some m))
    (pair 2 (one (form (pos 0) (term (iter One) (pos 4) (term (iter2 One) (pos 1) no_terms)))) (one (form (pos 0) (term (iter Two) (pos 4) (term (iter2 Two) (pos 1) no_terms)))))
    (derived (hyp 1 ∷ []) (range 1))

-- y(2*c(i)) is written where x(c(i)) is read
doubled : (m : ℤ) → Bool
doubled m = accepts
    (surveyed (accessed 1 (99 ∷ []) Read ∷ accessed 2 (120 ∷ []) Read ∷ accessed 3 (121 ∷ []) Write ∷ [])
    (one (linear One (pos 1) (pos 0)) ∷ one (element One (pos 1)) ∷ one (element One (pos 2)) ∷ [])
    (one (linear Two (pos 1) (pos 0)) ∷ one (element Two (pos 1)) ∷ one (element Two (pos 2)) ∷ []) [] None)
    (record { loop_number = 1; first = 2; second = 2; differences = differences (one (element One (pos 1))) (one (element Two (pos 1))); nest = 1 })
    (derived (hyp 1 ∷ comb ((m, 1) ∷ []) ∷ []) (fact 1 (2 ∷ [])))

-- elements of one index array at one place are the same, where their subscripts' difference is a line, and only of one array
congruent : (lines : List ℕ) → Bool
congruent ls = accepts
    (surveyed (accessed 1 (99 ∷ []) Read ∷ accessed 2 (121 ∷ []) Write ∷ [])
    (one (linear One (pos 1) (pos 0)) ∷ one (element One (pos 1)) ∷ []) (one (linear Two (pos 1) (pos 0)) ∷ one (element Two (pos 1)) ∷ []) [] None)
    (record { loop_number = 1; first = 1; second = 1; differences = differences (one (linear One (pos 1) (pos 0))) (one (linear Two (pos 1) (pos 0))); nest = 1 })
    (derived (hyp 1 ∷ cong 1 1 ls ∷ []) (fact 1 (2 ∷ [])))

four : blocks 3 ≡ true
unfolding blocks
four = refl

five : blocks 4 ≡ false
unfolding blocks
five = refl

four_columns : grid 3 ≡ true
unfolding grid
four_columns = refl

five_columns : grid 4 ≡ false
unfolding grid
five_columns = refl

twice : doubled (pos 2) ≡ true
unfolding doubled
twice = refl

thrice : doubled (pos 3) ≡ false
unfolding doubled
thrice = refl

same_element : congruent (1 ∷ []) ≡ true
unfolding congruent
same_element = refl

no_subscript : congruent [] ≡ false
unfolding congruent
no_subscript = refl
