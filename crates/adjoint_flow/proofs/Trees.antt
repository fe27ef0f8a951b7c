-- What the trees of statements give, from what those inside became.
use Rattle.std.proofs.Common.{rules, ◌≡◌, ℕ, Bool, if◌then◌else◌, List, [], ◌∷◌, ◌++◌, length, map, Option, Some, None, Result, Ok, Err, IfOk, IsOkAnd, refl, ap, sym, ◌∙◌, append_assoc}
use Rattle.fl_ast.specs.declared.directive.Directive.{Directive}
use Rattle.fl_ast.specs.declared.expr.Expr.{Expr}
use Rattle.fl_ast.specs.declared.stmt.Stmt.{Stmt, the_lemmas as stmt_lemmas}
use Rattle.fl_ast.specs.declared.stmt.Stmt.TheVariants.{If, Do}
use Rattle.fl_ast.specs.declared.stmt.Arm.{Arm}
use Rattle.fl_ast.specs.declared.adjoint.AStmt.{AStmt}
use Rattle.fl_ast.specs.declared.adjoint.AArm.{AArm}
use Rattle.fl_ast.specs.Tree.{expr_tree, step_tree, branch, loop, stmt_tree, Statements, stmt_trees, arm_trees}
use Rattle.fl_ast.specs.AdjointTree.{AdjointStatement, adjoint_branch, astmt_tree, astmt_trees, aarm_trees, pop, adjoint_statements_of}
use Rattle.fl_types.specs.Nests.{is_nest}
use Rattle.adjoint_rules.specs.OwnNames.{scalar, w_name}
use Rattle.adjoint_rules.specs.Scopes.{Scope, in_loop}
use Rattle.adjoint_rules.specs.Bounds.{LoopHead}
use Rattle.adjoint_rules.specs.Forward.{forward, forward_all, forward_inner, forward_arms, arm_number, arm_count, forward_loop, forward_parallel}
use Rattle.adjoint_rules.specs.Reverse.{backward, backward_all, backward_inner, backward_arms, backward_loop, backward_parallel}
use Rattle.adjoint_flow.proofs.Parts.{arms_counted}

pub branch_of : (s : Stmt) (line : ℕ) (arms xs : List Arm) (other ys : List Stmt) → s ≡ If line arms other → xs ≡ arms → ys ≡ other → stmt_tree s ≡ branch line (arm_trees xs) (stmt_trees ys)
branch_of s line arms xs other ys h f g = ap stmt_tree h ∙ (rw (f, g) (search (rules, stmt_lemmas)))

pub loop_of : (s : Stmt) (line number : ℕ) (d : Option Directive) (var : List ℕ) (first last : Expr) (step : Option Expr) (body ys : List Stmt)
    → s ≡ Do line number d var first last step body → ys ≡ body → stmt_tree s ≡ loop line number d var (expr_tree first) (expr_tree last) (step_tree step) (stmt_trees ys)
loop_of s line number d var first last step body ys h g = ap stmt_tree h ∙ (rw g (search (rules, stmt_lemmas)))

pub forward_branch : {E F G : Type 0} (scope : Scope) (s : Stmt) (line count : ℕ) (arms xs zs : List Arm) (other ys : List Stmt) (made : Result (List AArm) E) (body : Result (List AStmt) F) (ends : Result (List AStmt) G) (old new : List AdjointStatement)
    → s ≡ If line arms other → xs ≡ arms → ys ≡ other → zs ≡ arms → count ≡ length zs
    → IfOk made (λ as'. aarm_trees as' ≡ forward_arms (arm_trees xs) line 0 scope)
    → IfOk body (λ ss. map astmt_tree ss ≡ forward_all (stmt_trees ys) scope)
    → IfOk ends (λ ss. IsOkAnd body (λ b. map astmt_tree ss ≡ map astmt_tree b ++ arm_number scope line count ∷ []))
    → IsOkAnd made (λ a. IsOkAnd ends (λ o. new ≡ old ++ adjoint_branch line (aarm_trees a) (astmt_trees o) ∷ []))
    → new ≡ old ++ forward (stmt_tree s) scope
forward_branch scope s line count arms xs zs other ys (Ok a) (Ok b) (Ok o) old new h f g z n p q r e =
    let at_end : count ≡ arm_count (arm_trees xs) = n ∙ (ap length (z ∙ sym f) ∙ sym (arms_counted xs)) in
    let others : map astmt_tree o ≡ forward_all (stmt_trees ys) scope ++ arm_number scope line (arm_count (arm_trees xs)) ∷ [] =
    r ∙ (ap (λ x. x ++ arm_number scope line count ∷ []) q ∙ ap (λ m. forward_all (stmt_trees ys) scope ++ arm_number scope line m ∷ []) at_end) in
    e ∙ (ap (λ x. old ++ adjoint_branch line x (astmt_trees o) ∷ []) p
    ∙ (ap (λ x. old ++ adjoint_branch line (forward_arms (arm_trees xs) line 0 scope) (adjoint_statements_of x) ∷ []) others
    ∙ ap (λ t. old ++ forward t scope) (sym (branch_of s line arms xs other ys h f g))))
forward_branch scope s line count arms xs zs other ys (Ok a) (Err b) (Ok o) old new h f g z n p q r e = absurd r
forward_branch scope s line count arms xs zs other ys (Ok a) body (Err o) old new h f g z n p q r e = absurd e
forward_branch scope s line count arms xs zs other ys (Err a) body ends old new h f g z n p q r e = absurd e

joined : {X : Type 0} (old mid new a b : List X) → mid ≡ old ++ a → new ≡ mid ++ b → new ≡ old ++ (a ++ b)
joined old mid new a b m n = n ∙ (rw m (append_assoc old a b))

pub backward_branch : {E F : Type 0} (scope : Scope) (s : Stmt) (line : ℕ) (arms xs : List Arm) (other ys : List Stmt) (made : Result (List AArm) E) (body : Result (List AStmt) F) (old mid new : List AdjointStatement)
    → s ≡ If line arms other → xs ≡ arms → ys ≡ other
    → mid ≡ old ++ pop line scope.key (scalar w_name) ∷ []
    → IfOk made (λ as'. aarm_trees as' ≡ backward_arms (arm_trees xs) 0 scope)
    → IfOk body (λ ss. map astmt_tree ss ≡ backward_all (stmt_trees ys) scope)
    → IsOkAnd made (λ a. IsOkAnd body (λ o. new ≡ mid ++ adjoint_branch line (aarm_trees a) (astmt_trees o) ∷ []))
    → new ≡ old ++ backward (stmt_tree s) scope
backward_branch scope s line arms xs other ys (Ok a) (Ok o) old mid new h f g m p q e =
    joined old mid new (pop line scope.key (scalar w_name) ∷ []) (adjoint_branch line (aarm_trees a) (astmt_trees o) ∷ []) m e
    ∙ (ap (λ x. old ++ pop line scope.key (scalar w_name) ∷ adjoint_branch line x (astmt_trees o) ∷ []) p
    ∙ (ap (λ x. old ++ pop line scope.key (scalar w_name) ∷ adjoint_branch line (backward_arms (arm_trees xs) 0 scope) (adjoint_statements_of x) ∷ []) q
    ∙ ap (λ t. old ++ backward t scope) (sym (branch_of s line arms xs other ys h f g))))
backward_branch scope s line arms xs other ys (Ok a) (Err o) old mid new h f g m p q e = absurd e
backward_branch scope s line arms xs other ys (Err a) body old mid new h f g m p q e = absurd e

-- a loop whose body became what `made` holds, by either part
pub of_made : {E : Type 0} (part : List AdjointStatement → List AdjointStatement) (made : Result (List AStmt) E) (inner old new : List AdjointStatement)
    → IfOk made (λ ss. map astmt_tree ss ≡ inner) → IsOkAnd made (λ ss. new ≡ old ++ part (map astmt_tree ss)) → new ≡ old ++ part inner
of_made part (Ok ss) inner old new p e = e ∙ ap (λ x. old ++ part x) p
of_made part (Err x) inner old new p e = absurd e

abbrev pub head_at : (line number : ℕ) → (var : List ℕ) → (first last : Expr) → Option Expr → LoopHead
head_at line number var first last step = record { line = line; number = number; var = var; first = expr_tree first; last = expr_tree last; step = step_tree step }

pub forward_plain : {E : Type 0} (scope : Scope) (s : Stmt) (line number : ℕ) (d : Option Directive) (var : List ℕ) (first last : Expr) (step : Option Expr) (body ys : List Stmt) (made : Result (List AStmt) E) (old new : List AdjointStatement)
    → s ≡ Do line number d var first last step body → d ≡ None → ys ≡ body
    → IfOk made (λ ss. map astmt_tree ss ≡ forward_all (stmt_trees ys) scope)
    → IsOkAnd made (λ ss. new ≡ old ++ forward_loop scope (head_at line number var first last step) (map astmt_tree ss))
    → new ≡ old ++ forward (stmt_tree s) scope
forward_plain scope s line number d var first last step body ys made old new h n g p e =
    of_made (forward_loop scope (head_at line number var first last step)) made (forward_all (stmt_trees ys) scope) old new p e
    ∙ ap (λ t. old ++ forward t scope) (sym (loop_of s line number None var first last step body ys (h ∙ ap (λ x. Do line number x var first last step body) n) g))

pub backward_plain : {E : Type 0} (scope : Scope) (s : Stmt) (line number : ℕ) (d : Option Directive) (var : List ℕ) (first last : Expr) (step : Option Expr) (body ys : List Stmt) (made : Result (List AStmt) E) (old new : List AdjointStatement)
    → s ≡ Do line number d var first last step body → d ≡ None → ys ≡ body
    → IfOk made (λ ss. map astmt_tree ss ≡ backward_all (stmt_trees ys) scope)
    → IsOkAnd made (λ ss. new ≡ old ++ backward_loop scope (head_at line number var first last step) (map astmt_tree ss))
    → new ≡ old ++ backward (stmt_tree s) scope
backward_plain scope s line number d var first last step body ys made old new h n g p e =
    of_made (backward_loop scope (head_at line number var first last step)) made (backward_all (stmt_trees ys) scope) old new p e
    ∙ ap (λ t. old ++ backward t scope) (sym (loop_of s line number None var first last step body ys (h ∙ ap (λ x. Do line number x var first last step body) n) g))

-- the iteration's statements, as `is_nest` tells
abbrev pub forward_chosen : Scope → ℕ → Directive → List ℕ → Statements → Bool → List AdjointStatement
forward_chosen scope number d var body nest = if nest then forward_inner body (in_loop scope number d var body) else forward_all body (in_loop scope number d var body)

abbrev pub backward_chosen : Scope → ℕ → Directive → List ℕ → Statements → Bool → List AdjointStatement
backward_chosen scope number d var body nest = if nest then backward_inner body (in_loop scope number d var body) else backward_all body (in_loop scope number d var body)

pub forward_shared : {E : Type 0} (scope : Scope) (s : Stmt) (line number : ℕ) (d : Option Directive) (dir : Directive) (var : List ℕ) (first last : Expr) (step : Option Expr) (body ys zs : List Stmt) (nest : Bool) (made : Result (List AStmt) E) (old new : List AdjointStatement)
    → s ≡ Do line number d var first last step body → d ≡ Some dir → ys ≡ body → zs ≡ body → nest ≡ is_nest dir (stmt_trees zs)
    → IfOk made (λ ss. map astmt_tree ss ≡ forward_chosen scope number dir var (stmt_trees body) nest)
    → IsOkAnd made (λ ss. new ≡ old ++ forward_parallel scope dir (head_at line number var first last step) (stmt_trees ys) (map astmt_tree ss))
    → new ≡ old ++ forward (stmt_tree s) scope
forward_shared scope s line number d dir var first last step body ys zs nest made old new h n g z t p e =
    of_made (forward_parallel scope dir (head_at line number var first last step) (stmt_trees ys)) made (forward_chosen scope number dir var (stmt_trees body) nest) old new p e
    ∙ (ap (λ x. old ++ forward_parallel scope dir (head_at line number var first last step) (stmt_trees x) (forward_chosen scope number dir var (stmt_trees body) nest)) g
    ∙ (ap (λ x. old ++ forward_parallel scope dir (head_at line number var first last step) (stmt_trees body) (forward_chosen scope number dir var (stmt_trees body) x)) (t ∙ ap (λ x. is_nest dir (stmt_trees x)) z)
    ∙ ap (λ x. old ++ forward x scope) (sym (loop_of s line number (Some dir) var first last step body body (h ∙ ap (λ x. Do line number x var first last step body) n) refl))))

pub backward_shared : {E : Type 0} (scope : Scope) (s : Stmt) (line number : ℕ) (d : Option Directive) (dir : Directive) (var : List ℕ) (first last : Expr) (step : Option Expr) (body ys zs : List Stmt) (nest : Bool) (made : Result (List AStmt) E) (old new : List AdjointStatement)
    → s ≡ Do line number d var first last step body → d ≡ Some dir → ys ≡ body → zs ≡ body → nest ≡ is_nest dir (stmt_trees zs)
    → IfOk made (λ ss. map astmt_tree ss ≡ backward_chosen scope number dir var (stmt_trees body) nest)
    → IsOkAnd made (λ ss. new ≡ old ++ backward_parallel scope dir (head_at line number var first last step) (stmt_trees ys) (map astmt_tree ss))
    → new ≡ old ++ backward (stmt_tree s) scope
backward_shared scope s line number d dir var first last step body ys zs nest made old new h n g z t p e =
    of_made (backward_parallel scope dir (head_at line number var first last step) (stmt_trees ys)) made (backward_chosen scope number dir var (stmt_trees body) nest) old new p e
    ∙ (ap (λ x. old ++ backward_parallel scope dir (head_at line number var first last step) (stmt_trees x) (backward_chosen scope number dir var (stmt_trees body) nest)) g
    ∙ (ap (λ x. old ++ backward_parallel scope dir (head_at line number var first last step) (stmt_trees body) (backward_chosen scope number dir var (stmt_trees body) x)) (t ∙ ap (λ x. is_nest dir (stmt_trees x)) z)
    ∙ ap (λ x. old ++ backward x scope) (sym (loop_of s line number (Some dir) var first last step body body (h ∙ ap (λ x. Do line number x var first last step body) n) refl))))

-- what the statements inside became, in the scope that the code made
pub made_in : {E : Type 0} (part : Statements → Scope → List AdjointStatement) (made : Result (List AStmt) E) (body xs zs : List Stmt) (within around : Scope) (number : ℕ) (d : Directive) (var : List ℕ)
    → xs ≡ body → zs ≡ body → within ≡ in_loop around number d var (stmt_trees zs) → IfOk made (λ ss. map astmt_tree ss ≡ part (stmt_trees xs) within)
    → IfOk made (λ ss. map astmt_tree ss ≡ part (stmt_trees body) (in_loop around number d var (stmt_trees body)))
made_in part (Ok ss) body xs zs within around number d var f g h p =
    p ∙ (ap (λ x. part (stmt_trees x) within) f ∙ (ap (part (stmt_trees body)) h ∙ ap (λ x. part (stmt_trees body) (in_loop around number d var (stmt_trees x))) g))
made_in part (Err e) body xs zs within around number d var f g h p = tt
