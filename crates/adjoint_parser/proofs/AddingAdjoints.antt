-- What statements and arms of an adjoint add to those before them.
use Rattle.std.proofs.Common.{◌≡◌, ℕ, max, Bool, true, false, ◌&&◌, ◌||◌, List, [], ◌∷◌, ◌++◌, Option, refl, sym, ap, ◌∙◌, arith}
use Rattle.fl_ast.specs.declared.directive.Directive.{Directive}
use Rattle.fl_ast.specs.declared.expr.Expr.{Expr}
use Rattle.fl_ast.specs.declared.expr.Expr.TheFolds.{fold_out-Place}
use Rattle.fl_ast.specs.declared.expr.Place.{Place}
use Rattle.fl_ast.specs.declared.adjoint.AExpr.{AExpr}
use Rattle.fl_ast.specs.declared.adjoint.AArm.{AArm}
use Rattle.fl_ast.specs.declared.adjoint.AStmt.{AStmt}
use Rattle.fl_ast.specs.declared.adjoint.AStmt.TheVariants.{Assign, If, Do, Push, Pop, Open, Close, rolls-Assign, rolls-If, rolls-Do, rolls-Push, rolls-Pop, rolls-Open, rolls-Close}
use Rattle.fl_ast.specs.declared.adjoint.AStmt.TheFolds.{fold-roll-AStmt, fold_out-AArm}
use Rattle.fl_ast.specs.declared.adjoint.AStmt.TheOpen.{AStmt-F}
use Rattle.fl_ast.specs.Tree.{Expression, Designator, Condition, expr_level, place_level, expr_tree, expr_trees, step_tree, place_tree, cond_tree}
use Rattle.fl_ast.specs.AdjointTree.{AdjointStatement, AdjointStatements, adjoint_assignment, adjoint_branch, adjoint_loop, push, pop, begin_tapes, end_tapes, astmt_level, aarm_level, aexpr_tree, astmt_tree, astmt_trees, aarm_tree, aarm_trees}
use Rattle.fl_ast.specs.Measures.{condition_depth}
use Rattle.fl_ast.specs.Readable.{is_readable_condition}
use Rattle.fl_ast.specs.ReadableAdjoint.{is_readable_adjoint_statement, are_readable_adjoint_statements, are_readable_adjoint_arms, has_parallel_adjoint, has_parallel_adjoints, has_parallel_adjoints_in, has_adjoint_arm, deepest_in_adjoint, deepest_in_adjoints, deepest_in_adjoint_arms, adjoint_block_depth, block_depth_of_adjoints, block_depth_of_adjoint_arms}
use Rattle.fl_expressions.proofs.ReadableExprs.{and_true, and_first, and_second}

-- ---- trees

-- a place as plain data
abbrev pub designated : Place → Designator
designated p = record { name = p.name; subscripts = expr_trees p.subscripts }

pub place-of : (p : Place) → place_tree p ≡ designated p
place-of p = fold_out-Place Expression Designator expr_level place_level p

pub tree-Assign : (line : ℕ) (atomic : Bool) (p : Place) (e : AExpr) → astmt_tree (Assign line atomic p e) ≡ adjoint_assignment line atomic (designated p) (aexpr_tree e)
tree-Assign line atomic p e =
    ap astmt_tree (sym (rolls-Assign line atomic p e)) ∙ fold-roll-AStmt AdjointStatement (Condition × AdjointStatements) astmt_level aarm_level (AStmt-F.Assign line atomic p e)
    ∙ ap (λ q. adjoint_assignment line atomic q (aexpr_tree e)) (place-of p)

pub tree-Do : (line number : ℕ) (d : Option Directive) (x : List ℕ) (first last : Expr) (step : Option Expr) (body : List AStmt) →
    astmt_tree (Do line number d x first last step body) ≡ adjoint_loop line number d x (expr_tree first) (expr_tree last) (step_tree step) (astmt_trees body)
tree-Do line number d x first last step body =
    ap astmt_tree (sym (rolls-Do line number d x first last step body)) ∙ fold-roll-AStmt AdjointStatement (Condition × AdjointStatements) astmt_level aarm_level (AStmt-F.Do line number d x first last step body)

pub tree-If : (line : ℕ) (arms : List AArm) (other : List AStmt) → astmt_tree (If line arms other) ≡ adjoint_branch line (aarm_trees arms) (astmt_trees other)
tree-If line arms other =
    ap astmt_tree (sym (rolls-If line arms other)) ∙ fold-roll-AStmt AdjointStatement (Condition × AdjointStatements) astmt_level aarm_level (AStmt-F.If line arms other)

pub tree-Push : (line : ℕ) (key value : Expr) → astmt_tree (Push line key value) ≡ push line (expr_tree key) (expr_tree value)
tree-Push line key value =
    ap astmt_tree (sym (rolls-Push line key value)) ∙ fold-roll-AStmt AdjointStatement (Condition × AdjointStatements) astmt_level aarm_level (AStmt-F.Push line key value)

pub tree-Pop : (line : ℕ) (key : Expr) (p : Place) → astmt_tree (Pop line key p) ≡ pop line (expr_tree key) (designated p)
tree-Pop line key p =
    ap astmt_tree (sym (rolls-Pop line key p)) ∙ fold-roll-AStmt AdjointStatement (Condition × AdjointStatements) astmt_level aarm_level (AStmt-F.Pop line key p)
    ∙ ap (pop line (expr_tree key)) (place-of p)

pub tree-Open : (line : ℕ) (n : Expr) → astmt_tree (Open line n) ≡ begin_tapes line (expr_tree n)
tree-Open line n = ap astmt_tree (sym (rolls-Open line n)) ∙ fold-roll-AStmt AdjointStatement (Condition × AdjointStatements) astmt_level aarm_level (AStmt-F.Open line n)

pub tree-Close : (line : ℕ) → astmt_tree (Close line) ≡ end_tapes line
tree-Close line = ap astmt_tree (sym (rolls-Close line)) ∙ fold-roll-AStmt AdjointStatement (Condition × AdjointStatements) astmt_level aarm_level (AStmt-F.Close line)

tree-Arm : (a : AArm) → aarm_tree a ≡ (cond_tree a.test, astmt_trees a.body)
tree-Arm a = fold_out-AArm AdjointStatement (Condition × AdjointStatements) astmt_level aarm_level a

-- ---- one statement more

pub deepest-append : (ss : List AStmt) (s : AStmt) → deepest_in_adjoints (astmt_trees (ss ++ s ∷ [])) ≡ max (deepest_in_adjoints (astmt_trees ss)) (deepest_in_adjoint (astmt_tree s))
deepest-append [] s = omega arith
deepest-append (t ∷ ss) s = ap (λ n. max (deepest_in_adjoint (astmt_tree t)) n) (deepest-append ss s) ∙ omega arith

pub blocks-append : (ss : List AStmt) (s : AStmt) → block_depth_of_adjoints (astmt_trees (ss ++ s ∷ [])) ≡ max (block_depth_of_adjoints (astmt_trees ss)) (adjoint_block_depth (astmt_tree s))
blocks-append [] s = omega arith
blocks-append (t ∷ ss) s = ap (λ n. max (adjoint_block_depth (astmt_tree t)) n) (blocks-append ss s) ∙ omega arith

pub readable-append : (ss : List AStmt) (s : AStmt) → are_readable_adjoint_statements (astmt_trees ss) ≡ true → is_readable_adjoint_statement (astmt_tree s) ≡ true → are_readable_adjoint_statements (astmt_trees (ss ++ s ∷ [])) ≡ true
readable-append [] s h k = and_true _ _ k refl
readable-append (t ∷ ss) s h k = and_true _ _ (and_first _ _ h) (readable-append ss s (and_second _ _ h) k)

pub or_false : (a b : Bool) → a ≡ false → b ≡ false → (a || b) ≡ false
or_false a b h k = rw (h, k) refl

pub or_first : (a b : Bool) → (a || b) ≡ false → a ≡ false
or_first true b e = e
or_first false b e = refl

pub or_second : (a b : Bool) → (a || b) ≡ false → b ≡ false
or_second true b e = cc
or_second false b e = e

pub parallel-append : (ss : List AStmt) (s : AStmt) → has_parallel_adjoints (astmt_trees ss) ≡ false → has_parallel_adjoint (astmt_tree s) ≡ false → has_parallel_adjoints (astmt_trees (ss ++ s ∷ [])) ≡ false
parallel-append [] s h k = or_false _ _ k refl
parallel-append (t ∷ ss) s h k = or_false _ _ (or_first _ _ h) (parallel-append ss s (or_second _ _ h) k)

-- ---- one arm more

pub arms-deepest : (as_ : List AArm) (a : AArm) → deepest_in_adjoint_arms (aarm_trees (as_ ++ a ∷ [])) ≡ max (deepest_in_adjoint_arms (aarm_trees as_)) (max (condition_depth (cond_tree a.test)) (deepest_in_adjoints (astmt_trees a.body)))
arms-deepest [] a = ap (λ (t : Condition × AdjointStatements). max (condition_depth t.0) (max (deepest_in_adjoints t.1) 0)) (tree-Arm a) ∙ omega arith
arms-deepest (b ∷ as_) a = ap (λ n. max (condition_depth ((aarm_tree b).0)) (max (deepest_in_adjoints ((aarm_tree b).1)) n)) (arms-deepest as_ a) ∙ omega arith

pub arms-blocks : (as_ : List AArm) (a : AArm) → block_depth_of_adjoint_arms (aarm_trees (as_ ++ a ∷ [])) ≡ max (block_depth_of_adjoint_arms (aarm_trees as_)) (block_depth_of_adjoints (astmt_trees a.body))
arms-blocks [] a = ap (λ (t : Condition × AdjointStatements). max (block_depth_of_adjoints t.1) 0) (tree-Arm a) ∙ omega arith
arms-blocks (b ∷ as_) a = ap (λ n. max (block_depth_of_adjoints ((aarm_tree b).1)) n) (arms-blocks as_ a) ∙ omega arith

pub arms-readable : (as_ : List AArm) (a : AArm) → are_readable_adjoint_arms (aarm_trees as_) ≡ true → is_readable_condition (cond_tree a.test) ≡ true → are_readable_adjoint_statements (astmt_trees a.body) ≡ true →
    are_readable_adjoint_arms (aarm_trees (as_ ++ a ∷ [])) ≡ true
arms-readable [] a h k m = ap (λ (t : Condition × AdjointStatements). is_readable_condition t.0 && (are_readable_adjoint_statements t.1 && true)) (tree-Arm a) ∙ and_true _ _ k (and_true _ _ m refl)
arms-readable (b ∷ as_) a h k m = and_true _ _ (and_first _ _ h) (and_true _ _ (and_first _ _ (and_second _ _ h)) (arms-readable as_ a (and_second _ _ (and_second _ _ h)) k m))

pub arms-parallel : (as_ : List AArm) (a : AArm) → has_parallel_adjoints_in (aarm_trees as_) ≡ false → has_parallel_adjoints (astmt_trees a.body) ≡ false → has_parallel_adjoints_in (aarm_trees (as_ ++ a ∷ [])) ≡ false
arms-parallel [] a h k = ap (λ (t : Condition × AdjointStatements). has_parallel_adjoints t.1 || false) (tree-Arm a) ∙ or_false _ _ k refl
arms-parallel (b ∷ as_) a h k = or_false _ _ (or_first _ _ h) (arms-parallel as_ a (or_second _ _ h) k)

pub arms-some : (as_ : List AArm) (a : AArm) → has_adjoint_arm (aarm_trees (as_ ++ a ∷ [])) ≡ true
arms-some [] a = refl
arms-some (b ∷ as_) a = refl
