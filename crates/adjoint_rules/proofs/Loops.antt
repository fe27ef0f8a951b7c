-- Adjoints of branches and loops.
use Rattle.std.specs.Prelude.{◌≡◌, ℕ, false, List, [], ◌∷◌, ◌++◌, Some, None, codes, refl}
use Rattle.fl_ast.specs.declared.kind.Fun.TheVariants as fun
use Rattle.fl_ast.specs.declared.kind.RelOp.TheVariants as rel
use Rattle.fl_ast.specs.declared.directive.Directive.{Directive}
use Rattle.fl_ast.specs.declared.directive.ScheduleKind.TheVariants.{Static}
use Rattle.fl_ast.specs.Tree.{Expression, minus, call, no_expressions, expression, Condition, relation, Statement, branch, loop, no_statements, statement, no_arms, arm}
use Rattle.fl_ast.specs.AdjointTree.{AdjointStatement, adjoint_branch, adjoint_loop, no_adjoint_statements, AdjointArms, no_adjoint_arms, adjoint_arm, push, pop, begin_tapes, end_tapes, adjoint_statements_of}
use Rattle.fl_types.specs.declared.choice.Choice.TheVariants.{Shared, Reduction}
use Rattle.fl_types.specs.declared.choice.Chosen.{Chosen}
use Rattle.adjoint_rules.specs.OwnNames.{main_tape, lo_name, hi_name, by_name}
use Rattle.adjoint_rules.specs.Scopes.{Scope}
use Rattle.adjoint_rules.specs.Forward.{forward}
use Rattle.adjoint_rules.specs.Reverse.{backward}
use Rattle.adjoint_rules.proofs.Small.{x, y, z, n, i, j, index, data_of, name, at, to, into, ◌plus◌, ◌less◌, ◌times◌, ◌over◌, only, set, does, atomically, clauses, t, to_t, scope_of}

abbrev xb : List ℕ
xb = codes "x_b"

abbrev yb : List ℕ
yb = codes "y_b"

abbrev w : List ℕ
w = codes "formad_w"

abbrev k : List ℕ
k = codes "formad_k"

-- the bounds of loop 1 and of loop 2
abbrev lo : List ℕ
lo = lo_name 1

abbrev hi : List ℕ
hi = hi_name 1

abbrev by : List ℕ
by = by_name 1

abbrev lo2 : List ℕ
lo2 = lo_name 2

abbrev hi2 : List ℕ
hi2 = hi_name 2

abbrev by2 : List ℕ
by2 = by_name 2

abbrev turns_of : (lo hi by : List ℕ) → Expression
turns_of l h b = call fun.Max (expression ((name h less name l plus name b) over name b) (expression (index 0) no_expressions))

abbrev pushed_bounds : ℕ → Expression → (lo hi by : List ℕ) → List AdjointStatement
pushed_bounds line key l h b = push line key (name l) ∷ push line key (name h) ∷ push line key (name b) ∷ []

abbrev popped_bounds : ℕ → Expression → (lo hi by : List ℕ) → List AdjointStatement
popped_bounds line key l h b = pop line key (to b) ∷ pop line key (to h) ∷ pop line key (to l) ∷ []

abbrev set_bounds : ℕ → (lo hi by : List ℕ) → (first last step : Expression) → List AdjointStatement
set_bounds line l h b first last step = does line (to l) first ∷ does line (to h) last ∷ does line (to b) step ∷ []

-- ---- branches in a time loop

abbrev here : Scope
here = scope_of (n ∷ i ∷ j ∷ x ∷ y ∷ []) (x ∷ y ∷ []) (x ∷ y ∷ []) (x ∷ []) []

abbrev positive : Condition
positive = relation rel.Gt (name x) (index 0)

-- do i = 1, n: if (x > 0) then; if (x > 0) x = y; else if (x > 0) then; y = x; end if; end do
abbrev nested : Statement
nested =
    loop 4 1 None i (index 1) (name n) (Some (index 3))
    (only (branch 5 (arm positive (only (branch 6 (arm positive (only (set 6 (to x) (name y))) no_arms) no_statements)) (arm positive (only (set 8 (to y) (name x))) no_arms)) no_statements))

abbrev is_arm : ℕ → Condition
is_arm m = relation rel.Eq (name w) (index m)

abbrev arm_with : Condition → List AdjointStatement → AdjointArms → AdjointArms
arm_with c ss as' = adjoint_arm c (adjoint_statements_of ss) as'

pub nested_forward : forward nested here
    ≡ set_bounds 4 lo hi by (index 1) (name n) (index 3)
    ++ adjoint_loop 4 1 None i (name lo) (name hi) (Some (name by)) (adjoint_statements_of
    (adjoint_branch 5
    (arm_with positive
    (adjoint_branch 6
    (arm_with positive (push 6 main_tape (name x) ∷ does 6 (to x) (name y) ∷ push 6 main_tape (index 0) ∷ []) no_adjoint_arms)
    (adjoint_statements_of (push 6 main_tape (index 1) ∷ []))
    ∷ push 5 main_tape (index 0) ∷ [])
    (arm_with positive (does 8 (to y) (name x) ∷ push 5 main_tape (index 1) ∷ []) no_adjoint_arms))
    (adjoint_statements_of (push 5 main_tape (index 2) ∷ []))
    ∷ []))
    ∷ pushed_bounds 4 main_tape lo hi by
nested_forward = refl

pub nested_reverse : backward nested here
    ≡ popped_bounds 4 main_tape lo hi by
    ++ adjoint_loop 4 1 None i (name lo plus (turns_of lo hi by less index 1) times name by) (name lo) (Some (minus (name by))) (adjoint_statements_of
    (pop 5 main_tape (to w)
    ∷ adjoint_branch 5
    (arm_with (is_arm 0)
    (pop 6 main_tape (to w)
    ∷ adjoint_branch 6
    (arm_with (is_arm 0) (does 6 to_t (name xb) ∷ does 6 (to xb) (data_of 0) ∷ pop 6 main_tape (to x) ∷ does 6 (to yb) (name yb plus t) ∷ []) no_adjoint_arms)
    no_adjoint_statements
    ∷ [])
    (arm_with (is_arm 1) (does 8 to_t (name yb) ∷ does 8 (to yb) (data_of 0) ∷ does 8 (to xb) (name xb plus t) ∷ []) no_adjoint_arms))
    no_adjoint_statements
    ∷ []))
    ∷ []
nested_reverse = refl

-- ---- a private scalar

-- !$omp parallel do private(z, j) schedule(static): do i = 1, n; z = x*y; do j = 1, 2; y = z; end do; end do
abbrev with_private : Statement
with_private =
    loop 5 1 (Some (record clauses { privates = z ∷ j ∷ []; schedule = Some (Static, None) })) i (index 1) (name n) None
    (statement (set 6 (to z) (name x times name y)) (only (loop 7 2 None j (index 1) (index 2) None (only (set 8 (into y (name i)) (name z))))))

abbrev private_scope : Scope
private_scope = scope_of (n ∷ i ∷ j ∷ x ∷ y ∷ z ∷ []) (x ∷ y ∷ z ∷ []) (y ∷ z ∷ []) (x ∷ z ∷ []) []

abbrev private_clauses : Directive
private_clauses =
    record clauses {
      privates = j ∷ z ∷ codes "z_b" ∷ lo2 ∷ hi2 ∷ by2 ∷ k ∷ w ∷ codes "formad_t" ∷ [];
      schedule = Some (Static, None);
    }

abbrev over_iterations : Directive → List AdjointStatement → AdjointStatement
over_iterations d body = adjoint_loop 5 1 (Some d) i (name lo) (name hi) (Some (name by)) (adjoint_statements_of (does 5 (to k) ((name i less name lo) over name by) ∷ body))

pub private_forward : forward with_private private_scope
    ≡ set_bounds 5 lo hi by (index 1) (name n) (index 1)
    ++ (begin_tapes 5 (turns_of lo hi by)
    ∷ over_iterations private_clauses
    (does 5 (to z) (data_of 0)
    ∷ push 6 (name k) (name z) ∷ does 6 (to z) (name x times name y)
    ∷ set_bounds 7 lo2 hi2 by2 (index 1) (index 2) (index 1)
    ++ (adjoint_loop 7 2 None j (name lo2) (name hi2) (Some (name by2)) (adjoint_statements_of (does 8 (into y (name i)) (name z) ∷ []))
    ∷ pushed_bounds 7 (name k) lo2 hi2 by2
    ++ push 5 (name k) (name z) ∷ []))
    ∷ end_tapes 5
    ∷ pushed_bounds 5 main_tape lo hi by)
private_forward = refl

pub private_reverse : backward with_private private_scope
    ≡ popped_bounds 5 main_tape lo hi by
    ++ (begin_tapes 5 main_tape
    ∷ over_iterations private_clauses
    (pop 5 (name k) (to z) ∷ does 5 (to (codes "z_b")) (data_of 0)
    ∷ popped_bounds 7 (name k) lo2 hi2 by2
    ++ (adjoint_loop 7 2 None j (name lo2 plus (turns_of lo2 hi2 by2 less index 1) times name by2) (name lo2) (Some (minus (name by2)))
    (adjoint_statements_of (does 8 to_t (at yb (name i)) ∷ does 8 (into yb (name i)) (data_of 0) ∷ does 8 (to (codes "z_b")) (name (codes "z_b") plus t) ∷ []))
    ∷ does 6 to_t (name (codes "z_b")) ∷ does 6 (to (codes "z_b")) (data_of 0) ∷ pop 6 (name k) (to z)
    ∷ does 6 (to yb) (name yb plus (t times name x)) ∷ []))
    ∷ end_tapes 5 ∷ [])
private_reverse = refl

-- ---- a reduction, a firstprivate name, and a choice of each kind

-- !$omp parallel do firstprivate(z) reduction(+: y): do i = 1, n; y = y + z*x(i); end do
abbrev with_reduction : Statement
with_reduction =
    loop 5 1 (Some (record clauses { firsts = z ∷ []; pluses = y ∷ [] })) i (index 1) (name n) None
    (only (set 6 (to y) (name y plus name z times at x (name i))))

abbrev chosen : Chosen
chosen = record { loop_number = 1; name = z; choice = Reduction }

abbrev reduction_scope : Scope
reduction_scope =
    scope_of (n ∷ i ∷ x ∷ y ∷ z ∷ []) (x ∷ y ∷ z ∷ []) (x ∷ y ∷ z ∷ []) (x ∷ y ∷ z ∷ i ∷ []) (chosen ∷ record { loop_number = 1; name = x; choice = Shared } ∷ [])

abbrev first_clauses : List (List ℕ) → Directive
first_clauses pluses = record clauses { privates = k ∷ w ∷ codes "formad_t" ∷ []; firsts = z ∷ []; pluses = pluses }

pub reduction_forward : forward with_reduction reduction_scope
    ≡ set_bounds 5 lo hi by (index 1) (name n) (index 1)
    ++ (begin_tapes 5 (turns_of lo hi by)
    ∷ over_iterations (first_clauses (y ∷ [])) (does 6 (to y) (name y plus name z times at x (name i)) ∷ [])
    ∷ end_tapes 5
    ∷ pushed_bounds 5 main_tape lo hi by)
reduction_forward = refl

pub reduction_reverse : backward with_reduction reduction_scope
    ≡ popped_bounds 5 main_tape lo hi by
    ++ (begin_tapes 5 main_tape
    ∷ over_iterations (first_clauses (codes "z_b" ∷ []))
    (atomically 6 (to y) (name y less name z times at x (name i)) ∷ does 6 to_t (name yb)
    ∷ does 6 (to (codes "z_b")) (name (codes "z_b") plus (t times at x (name i)))
    ∷ does 6 (into xb (name i)) (at xb (name i) plus (t times name z)) ∷ [])
    ∷ end_tapes 5 ∷ [])
reduction_reverse = refl

-- ---- two loops collapsed

-- !$omp parallel do collapse(2): do i = 1, n; do j = 1, 4; x(j) = y; end do; end do
abbrev collapsed : Statement
collapsed =
    loop 5 1 (Some (record clauses { collapse = 2 })) i (index 1) (name n) None
    (only (loop 6 2 None j (index 1) (index 4) None (only (set 7 (into x (name j)) (name y)))))

abbrev collapsed_scope : Scope
collapsed_scope = record here { needed = λ v. false }

abbrev over_pairs : List AdjointStatement → AdjointStatement
over_pairs body =
    adjoint_loop 5 1 (Some (record clauses { privates = k ∷ w ∷ codes "formad_t" ∷ []; collapse = 2 })) i (name lo) (name hi) (Some (name by))
    (adjoint_statements_of (adjoint_loop 6 2 None j (name lo2) (name hi2) (Some (name by2))
    (adjoint_statements_of (does 5 (to k) (((name i less name lo) over name by) times turns_of lo2 hi2 by2 plus ((name j less name lo2) over name by2)) ∷ body)) ∷ []))

pub collapsed_forward : forward collapsed collapsed_scope
    ≡ set_bounds 5 lo hi by (index 1) (name n) (index 1) ++ (set_bounds 6 lo2 hi2 by2 (index 1) (index 4) (index 1)
    ++ (begin_tapes 5 (turns_of lo hi by times turns_of lo2 hi2 by2)
    ∷ over_pairs (does 7 (into x (name j)) (name y) ∷ [])
    ∷ end_tapes 5
    ∷ pushed_bounds 5 main_tape lo hi by ++ pushed_bounds 6 main_tape lo2 hi2 by2))
collapsed_forward = refl

pub collapsed_reverse : backward collapsed collapsed_scope
    ≡ popped_bounds 6 main_tape lo2 hi2 by2 ++ (popped_bounds 5 main_tape lo hi by
    ++ (begin_tapes 5 main_tape
    ∷ over_pairs (does 7 to_t (at xb (name j)) ∷ does 7 (into xb (name j)) (data_of 0) ∷ does 7 (to yb) (name yb plus t) ∷ [])
    ∷ end_tapes 5 ∷ []))
collapsed_reverse = refl
