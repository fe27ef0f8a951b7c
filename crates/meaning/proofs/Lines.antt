-- Straight lines compute.
use Rattle.std.specs.Prelude.{◌≡◌, ℕ, List, [], ◌∷◌, Some, None, refl, codes, Ok}
use Rattle.fl_ast.specs.declared.kind.Kind.TheVariants as kind
use Rattle.fl_ast.specs.Tree.{Statements, statement, Subroutine}
use Rattle.ring_core.specs.Index.{exact_index}
use Rattle.meaning.specs.declared.value.Cause.TheVariants.{Range}
use Rattle.meaning.specs.Logs.{events, begins, pushes}
use Rattle.meaning.specs.Sites.{Site, opening_site}
use Rattle.meaning.specs.Statements.{run_all}
use Rattle.meaning.specs.Stops.{by_conflict, the_limits, first_stop, trapped}
use Rattle.meaning.specs.Adjoints.{adjoint_at}
use Rattle.meaning.specs.Programs.{meaning, adjoint_of, entry_cells}
use Rattle.meaning.specs.declared.value.Value.TheVariants.{Ring}
use Rattle.meaning.proofs.Small.{declared, scalar, word, number, one, name, to, ◌plus◌, ◌times◌, only, set, all_pushed}

abbrev x : List ℕ
x = codes "x"

abbrev y : List ℕ
y = codes "y"

abbrev two_scalars : Site
two_scalars = opening_site (declared kind.Ring x ∷ declared kind.Ring y ∷ []) (scalar x ∷ scalar y ∷ []) all_pushed

-- y = x*x + 3*x
abbrev poly : Statements
poly = only (set 4 (to y) ((name x times name x) plus (one 3 times name x)))

pub poly_value : (run_all poly two_scalars (word 5 ∷ word 0 ∷ [])).out ≡ Ok (word 5 ∷ word 40 ∷ [])
unfolding exact_index
poly_value = refl

pub poly_adjoint : adjoint_at (run_all poly two_scalars) (word 5 ∷ word 0 ∷ []) (0 ∷ 1 ∷ []) 0 ≡ 13
unfolding exact_index
poly_adjoint = refl

-- the old value of y is pushed
pub poly_events : events (run_all poly two_scalars (word 5 ∷ word 7 ∷ [])).log ≡ begins ∷ pushes (word 7) ∷ []
unfolding exact_index
poly_events = refl

-- y = x*x
abbrev square : Statements
square = only (set 4 (to y) (name x times name x))

-- at -2^63
pub square_value : (run_all square two_scalars (word 9223372036854775808 ∷ word 0 ∷ [])).out ≡ Ok (word 9223372036854775808 ∷ word 0 ∷ [])
square_value = refl

pub square_adjoint : adjoint_at (run_all square two_scalars) (word 9223372036854775808 ∷ word 0 ∷ []) (0 ∷ 1 ∷ []) 0 ≡ 0
square_adjoint = refl

abbrev n : List ℕ
n = codes "n"

abbrev k : List ℕ
k = codes "k"

-- k = n + 1, x = x + k
abbrev over : Statements
over = statement (set 4 (to k) (name n plus one 1)) (only (set 5 (to x) (name x plus name k)))

abbrev over_site : Site
over_site =
    opening_site (declared kind.Index n ∷ declared kind.Index k ∷ declared kind.Ring x ∷ []) (scalar n ∷ scalar x ∷ scalar k ∷ []) all_pushed

pub over_stop :
    first_stop by_conflict the_limits (events (run_all over over_site (number 2147483647 ∷ word 1 ∷ None ∷ [])).log)
    ≡ trapped (record { line = 4; cause = Range })
unfolding exact_index
over_stop = refl

pub over_value : (run_all over over_site (number 6 ∷ word 1 ∷ None ∷ [])).out ≡ Ok (number 6 ∷ word 8 ∷ number 7 ∷ [])
unfolding exact_index
over_value = refl

-- the same as a whole program
abbrev poly_unit : Subroutine
poly_unit = record { name = codes "poly"; args = x ∷ y ∷ []; decls = declared kind.Ring x ∷ declared kind.Ring y ∷ []; body = poly }

pub poly_meaning : (meaning poly_unit (scalar x ∷ scalar y ∷ []) all_pushed (5 ∷ 0 ∷ []) (1 ∷ [])).out
    ≡ Ok (Some (Ring (record { value = 5; tangent = 1 })) ∷ Some (Ring (record { value = 40; tangent = 13 })) ∷ [])
unfolding exact_index
poly_meaning = refl

pub poly_answer : adjoint_of poly_unit (scalar x ∷ scalar y ∷ []) (5 ∷ 0 ∷ []) (0 ∷ 1 ∷ []) 0 ≡ 13
unfolding exact_index
poly_answer = refl

abbrev over_unit : Subroutine
over_unit = record { name = codes "over"; args = n ∷ x ∷ []; decls = declared kind.Index n ∷ declared kind.Index k ∷ declared kind.Ring x ∷ []; body = over }

-- the local scalar k is unset at the entry
pub over_entry : entry_cells over_unit (scalar n ∷ scalar x ∷ scalar k ∷ []) (2147483647 ∷ 1 ∷ 0 ∷ []) ≡ number 2147483647 ∷ word 1 ∷ None ∷ []
over_entry = refl
