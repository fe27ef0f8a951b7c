-- The choices of small loops compute.
use Rattle.std.proofs.Common.{◌≡◌, ℕ, true, false, pos, List, [], ◌∷◌, Some, None, refl}
use Rattle.fl_types.specs.declared.access.Access.{Access}
use Rattle.fl_types.specs.declared.access.AccessKind.{AccessKind}
use Rattle.fl_types.specs.declared.access.AccessKind.TheVariants.{Read, Write}
use Rattle.fl_types.specs.declared.choice.Choice.{Choice}
use Rattle.fl_types.specs.declared.choice.Choice.TheVariants.{Shared, Atomic, Reduction}
use Rattle.fl_types.specs.declared.choice.Chosen.{Chosen}
use Rattle.index_forms.specs.declared.form.Side.{Side}
use Rattle.index_forms.specs.declared.form.Side.TheVariants.{One, Two}
use Rattle.index_forms.specs.Form.{iter, read, Form, form, no_terms, term, Forms, no_forms, and_form}
use Rattle.index_knowledge.specs.Knowledge.{facts}
use Rattle.certificate_rules.specs.Derivations.{hyp, residue, fact}
use Rattle.certificate_check.specs.Pairs.{KnownLoop}
use Rattle.sharing_choice.specs.declared.derivations.Which.TheVariants as which
use Rattle.sharing_choice.specs.Choosing.{chosen, derivations}

-- x, y, and the index array c
abbrev x : List ℕ
x = 120 ∷ []

abbrev y : List ℕ
y = 121 ∷ []

abbrev c : List ℕ
c = 99 ∷ []

abbrev accessed : ℕ → List ℕ → AccessKind → Access
accessed n v k = record { number = n; loop_number = 1; line = 1; place = record { name = v; subscripts = [] }; path = []; kind = k }

abbrev one : Form → Forms
one f = and_form f no_forms

-- twice the iteration's number, and a constant
abbrev twice : ℕ → Side → Forms
twice n s = one (form (pos n) (term (iter s) (pos 2) no_terms))

abbrev counted : Side → Forms
counted s = one (form (pos 1) (term (iter s) (pos 1) no_terms))

abbrev element : Side → Forms
element s = one (form (pos 0) (term (read c (counted s)) (pos 1) no_terms))

abbrev known : List Access → (ones twos : List Forms) → KnownLoop
known as' fs gs = record {
  number = 1;
  nest = 1;
  rights = true ∷ true ∷ false ∷ [];
  survey = record { accesses = as'; ones = fs; twos = gs; fixed = λ v. true; facts = facts as' fs gs; ranges = []; second = None };
}

-- do i = 1, n, 2: y(i) = x(i)*x(i+1)
abbrev stride : KnownLoop
stride = known (accessed 1 x Read ∷ accessed 2 x Read ∷ accessed 3 y Write ∷ []) (twice 1 One ∷ twice 2 One ∷ twice 1 One ∷ []) (twice 1 Two ∷ twice 2 Two ∷ twice 1 Two ∷ [])

-- do i = 1, n: y(i) = x(c(i))
abbrev gather : KnownLoop
gather = known (accessed 1 c Read ∷ accessed 2 x Read ∷ accessed 3 y Write ∷ []) (counted One ∷ element One ∷ counted One ∷ []) (counted Two ∷ element Two ∷ counted Two ∷ [])

abbrev of_x : Choice → Chosen
of_x k = record { loop_number = 1; name = x; choice = k }

-- its three pairs are shown
dropped : chosen (Some stride ∷ []) [] (of_x Atomic) ≡ of_x Shared
dropped = refl

-- nothing shows that c has no number twice
kept : chosen (Some gather ∷ []) [] (of_x Atomic) ≡ of_x Atomic
kept = refl

-- nor that a loop which isn't parallel has pairs
sequential : chosen (None ∷ []) [] (of_x Atomic) ≡ of_x Atomic
sequential = refl

collected : chosen (Some stride ∷ []) [] (of_x Reduction) ≡ of_x Reduction
collected = refl

-- the write of y(i) shows the pairs of an access with itself, and odd numbers are no even ones
shown : derivations which.Shared (of_x Shared ∷ []) (Some stride ∷ []) []
    ≡ record { loop_number = 1; first = 1; second = 1; derived = record { lines = hyp 1 ∷ []; close = fact 1 (1 ∷ []) } }
    ∷ record { loop_number = 1; first = 1; second = 2; derived = record { lines = hyp 1 ∷ []; close = residue 1 } }
    ∷ record { loop_number = 1; first = 2; second = 2; derived = record { lines = hyp 1 ∷ []; close = fact 1 (1 ∷ []) } }
    ∷ []
shown = refl

unshared : derivations which.Shared (of_x Atomic ∷ []) (Some stride ∷ []) [] ≡ []
unshared = refl
