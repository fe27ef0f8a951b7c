-- A loop with an index array, a private scalar, an inner loop and an `if` computes.
use Rattle.std.specs.Prelude.{◌≡◌, ℕ, List, [], ◌∷◌, map, None, refl, codes, Ok}
use Rattle.fl_ast.specs.declared.kind.Kind.TheVariants as kind
use Rattle.fl_ast.specs.declared.kind.RelOp.TheVariants.{Lt}
use Rattle.fl_ast.specs.declared.kind.Fun.TheVariants.{Abs}
use Rattle.fl_ast.specs.declared.directive.Directive.{Directive}
use Rattle.fl_ast.specs.Tree.{power, call, expression, no_expressions, relation, Statements, statement, branch, loop, no_arms, arm}
use Rattle.ring_core.specs.Index.{exact_index}
use Rattle.meaning.specs.Logs.{events}
use Rattle.meaning.specs.Sites.{Cells, Site, opening_site}
use Rattle.meaning.specs.Statements.{run_all}
use Rattle.meaning.specs.Stops.{by_conflict, the_limits, first_stop, at_end, statement_count}
use Rattle.meaning.specs.Adjoints.{adjoint_at}
use Rattle.meaning.proofs.Small.{declared, scalar, array, word, number, one, name, at, to, into, ◌plus◌, only, set, clauses, parallel, all_pushed}

abbrev n : List ℕ
n = codes "n"

abbrev i : List ℕ
i = codes "i"

abbrev j : List ℕ
j = codes "j"

abbrev c : List ℕ
c = codes "c"

abbrev t : List ℕ
t = codes "t"

abbrev x : List ℕ
x = codes "x"

abbrev y : List ℕ
y = codes "y"

abbrev site : Site
site =
    opening_site (declared kind.Index n ∷ declared kind.Index i ∷ declared kind.Index j ∷ declared kind.Index c ∷ declared kind.Ring x ∷ declared kind.Ring y ∷ declared kind.Ring t ∷ [])
    (scalar n ∷ array c 3 ∷ array x 3 ∷ array y 3 ∷ []) all_pushed

abbrev private : Directive
private = record clauses { privates = t ∷ [] }

-- do i = 1, n, with t private
--   t = x(c(i))
--   if (t < 0) then
--     y(i) = abs(t)
--   else
--     do j = 1, 2
--       y(i) = y(i) + t**2
--     end do
--   end if
abbrev mixed : Statements
mixed =
    parallel private i (one 1) (name n)
    (statement (set 6 (to t) (at x (at c (name i))))
    (only (branch 7 (arm (relation Lt (name t) (one 0)) (only (set 8 (into y (name i)) (call Abs (expression (name t) no_expressions)))) no_arms)
    (only (loop 10 2 None j (one 1) (one 2) None (only (set 11 (into y (name i)) (at y (name i) plus power (name t) 2))))))))

-- x is -2, 3, 5 and c 3, 1, 2
abbrev cells : Cells
cells = number 3 ∷ number 3 ∷ number 1 ∷ number 2 ∷ word 18446744073709551614 ∷ word 3 ∷ word 5 ∷ word 0 ∷ word 0 ∷ word 1 ∷ None ∷ None ∷ None ∷ []

-- y is 50, 2, 19
pub mixed_value : (run_all mixed site cells).out
    ≡ Ok (number 3 ∷ number 3 ∷ number 1 ∷ number 2 ∷ word 18446744073709551614 ∷ word 3 ∷ word 5 ∷ word 50 ∷ word 2 ∷ word 19 ∷ number 3 ∷ number 2 ∷ word 3 ∷ [])
unfolding exact_index
mixed_value = refl

-- for the seed 1, 10, 100: -10, 1200 and 20
pub mixed_adjoint : map (adjoint_at (run_all mixed site) cells (0 ∷ 0 ∷ 0 ∷ 0 ∷ 0 ∷ 0 ∷ 0 ∷ 1 ∷ 10 ∷ 100 ∷ [])) (4 ∷ 5 ∷ 6 ∷ [])
    ≡ 18446744073709551606 ∷ 1200 ∷ 20 ∷ []
unfolding exact_index
mixed_adjoint = refl

pub mixed_stop : first_stop by_conflict the_limits (events (run_all mixed site cells).log) ≡ at_end
unfolding exact_index
mixed_stop = refl

-- the loop and its iterations, two statements in each, the assignment of one arm and two inner loops of two turns with one statement
pub mixed_count : statement_count (events (run_all mixed site cells).log) ≡ 21
unfolding exact_index
mixed_count = refl
