-- What statements and arms add to those before them.
use Rattle.std.proofs.Common.{◌≡◌, ℕ, suc, ◌+◌, max, Bool, true, false, ◌&&◌, ◌||◌, List, [], ◌∷◌, ◌++◌, append_assoc, Option, refl, sym, ap, subst, ◌∙◌, eq-eqb, arith}
use Rattle.fl_ast.specs.declared.directive.Directive.{Directive}
use Rattle.fl_ast.specs.declared.expr.Expr.{Expr}
use Rattle.fl_ast.specs.declared.expr.Expr.TheFolds.{fold_out-Place}
use Rattle.fl_ast.specs.declared.expr.Place.{Place}
use Rattle.fl_ast.specs.declared.stmt.Arm.{Arm}
use Rattle.fl_ast.specs.declared.stmt.Stmt.{Stmt}
use Rattle.fl_ast.specs.declared.stmt.Stmt.TheVariants.{Assign, If, Do, rolls-Assign, rolls-If, rolls-Do}
use Rattle.fl_ast.specs.declared.stmt.Stmt.TheFolds.{fold-roll-Stmt, fold_out-Arm}
use Rattle.fl_ast.specs.declared.stmt.Stmt.TheOpen.{Stmt-F}
use Rattle.fl_ast.specs.Tree.{Expression, Designator, expr_level, place_level, expr_tree, expr_trees, step_tree, cond_tree, Condition, Statement, Statements, assignment, branch, loop, stmt_level, arm_level, stmt_tree, stmt_trees, arm_tree, arm_trees}
use Rattle.fl_ast.specs.Measures.{deepest_in, deepest_in_all, deepest_in_arms, condition_depth, count, count_all, count_arms, block_depth, block_depth_of_all, block_depth_of_arms, loop_numbers, loop_numbers_of_all, loop_numbers_of_arms, statement_nodes, nodes_of_all, arm_nodes, condition_nodes}
use Rattle.fl_ast.specs.Readable.{is_readable_condition, is_readable_statement, are_readable_statements, are_readable_arms, has_parallel, has_parallel_in, has_parallel_in_arms, has_arm, counts_up_from}
use Rattle.fl_expressions.proofs.ReadableExprs.{and_true, and_first, and_second}

-- ---- trees

pub tree-Assign : (line : ℕ) (atomic : Bool) (p : Place) (e : Expr) → stmt_tree (Assign line atomic p e) ≡ assignment line atomic (record { name = p.name; subscripts = expr_trees p.subscripts }) (expr_tree e)
tree-Assign line atomic p e =
    ap stmt_tree (sym (rolls-Assign line atomic p e)) ∙ fold-roll-Stmt Statement (Condition × Statements) stmt_level arm_level (Stmt-F.Assign line atomic p e)
    ∙ ap (λ q. assignment line atomic q (expr_tree e)) (fold_out-Place Expression Designator expr_level place_level p)

pub tree-Do : (line number : ℕ) (d : Option Directive) (x : List ℕ) (first last : Expr) (step : Option Expr) (body : List Stmt) →
    stmt_tree (Do line number d x first last step body) ≡ loop line number d x (expr_tree first) (expr_tree last) (step_tree step) (stmt_trees body)
tree-Do line number d x first last step body =
    ap stmt_tree (sym (rolls-Do line number d x first last step body)) ∙ fold-roll-Stmt Statement (Condition × Statements) stmt_level arm_level (Stmt-F.Do line number d x first last step body)

pub tree-If : (line : ℕ) (arms : List Arm) (other : List Stmt) → stmt_tree (If line arms other) ≡ branch line (arm_trees arms) (stmt_trees other)
tree-If line arms other =
    ap stmt_tree (sym (rolls-If line arms other)) ∙ fold-roll-Stmt Statement (Condition × Statements) stmt_level arm_level (Stmt-F.If line arms other)

pub tree-Arm : (a : Arm) → arm_tree a ≡ (cond_tree a.test, stmt_trees a.body)
tree-Arm a = fold_out-Arm Statement (Condition × Statements) stmt_level arm_level a

-- ---- numbers of loops

-- the numbers go up by one from behind the first to the last
abbrev pub Numbered : ℕ → List ℕ → ℕ → Type 0
Numbered a [] b = a ≡ b
Numbered a (x ∷ xs) b = (x ≡ suc a) × Numbered (suc a) xs b

pub numbered-append : (xs ys : List ℕ) (a b c : ℕ) → Numbered a xs b → Numbered b ys c → Numbered a (xs ++ ys) c
numbered-append [] ys a b c n m = subst (λ (i : ℕ). Numbered i ys c) (sym n) m
numbered-append (x ∷ xs) ys a b c n m = (n.0, numbered-append xs ys (suc a) b c n.1 m)

pub counting : (xs : List ℕ) (a b : ℕ) → Numbered a xs b → counts_up_from (suc a) xs ≡ true
counting [] a b n = refl
counting (x ∷ xs) a b n = and_true _ _ (eq-eqb x (suc a) n.0) (counting xs (suc a) b n.1)

-- ---- one statement more

pub count-append : (ss : List Stmt) (s : Stmt) → count_all (stmt_trees (ss ++ s ∷ [])) ≡ count_all (stmt_trees ss) + count (stmt_tree s)
count-append [] s = omega arith
count-append (t ∷ ss) s = ap (λ n. count (stmt_tree t) + n) (count-append ss s) ∙ omega arith

pub deepest-append : (ss : List Stmt) (s : Stmt) → deepest_in_all (stmt_trees (ss ++ s ∷ [])) ≡ max (deepest_in_all (stmt_trees ss)) (deepest_in (stmt_tree s))
deepest-append [] s = omega arith
deepest-append (t ∷ ss) s = ap (λ n. max (deepest_in (stmt_tree t)) n) (deepest-append ss s) ∙ omega arith

pub blocks-append : (ss : List Stmt) (s : Stmt) → block_depth_of_all (stmt_trees (ss ++ s ∷ [])) ≡ max (block_depth_of_all (stmt_trees ss)) (block_depth (stmt_tree s))
blocks-append [] s = omega arith
blocks-append (t ∷ ss) s = ap (λ n. max (block_depth (stmt_tree t)) n) (blocks-append ss s) ∙ omega arith

pub nodes-append : (ss : List Stmt) (s : Stmt) → nodes_of_all (stmt_trees (ss ++ s ∷ [])) ≡ nodes_of_all (stmt_trees ss) + statement_nodes (stmt_tree s)
nodes-append [] s = omega arith
nodes-append (t ∷ ss) s = ap (λ n. statement_nodes (stmt_tree t) + n) (nodes-append ss s) ∙ omega arith

to_end : (xs : List ℕ) → xs ++ [] ≡ xs
to_end [] = refl
to_end (x ∷ xs) = ap (λ v. x ∷ v) (to_end xs)

pub loops-append : (ss : List Stmt) (s : Stmt) → loop_numbers_of_all (stmt_trees (ss ++ s ∷ [])) ≡ loop_numbers_of_all (stmt_trees ss) ++ loop_numbers (stmt_tree s)
loops-append [] s = to_end (loop_numbers (stmt_tree s))
loops-append (t ∷ ss) s = ap (λ v. loop_numbers (stmt_tree t) ++ v) (loops-append ss s) ∙ sym (append_assoc (loop_numbers (stmt_tree t)) (loop_numbers_of_all (stmt_trees ss)) (loop_numbers (stmt_tree s)))

pub readable-append : (ss : List Stmt) (s : Stmt) → are_readable_statements (stmt_trees ss) ≡ true → is_readable_statement (stmt_tree s) ≡ true → are_readable_statements (stmt_trees (ss ++ s ∷ [])) ≡ true
readable-append [] s h k = and_true _ _ k refl
readable-append (t ∷ ss) s h k = and_true _ _ (and_first _ _ h) (readable-append ss s (and_second _ _ h) k)

or_false : (a b : Bool) → a ≡ false → b ≡ false → (a || b) ≡ false
or_false a b h k = rw (h, k) refl

or_first : (a b : Bool) → (a || b) ≡ false → a ≡ false
or_first true b e = e
or_first false b e = refl

or_second : (a b : Bool) → (a || b) ≡ false → b ≡ false
or_second true b e = cc
or_second false b e = e

pub parallel-append : (ss : List Stmt) (s : Stmt) → has_parallel_in (stmt_trees ss) ≡ false → has_parallel (stmt_tree s) ≡ false → has_parallel_in (stmt_trees (ss ++ s ∷ [])) ≡ false
parallel-append [] s h k = or_false _ _ k refl
parallel-append (t ∷ ss) s h k = or_false _ _ (or_first _ _ h) (parallel-append ss s (or_second _ _ h) k)

-- ---- one arm more

pub arms-count : (as_ : List Arm) (a : Arm) → count_arms (arm_trees (as_ ++ a ∷ [])) ≡ count_arms (arm_trees as_) + count_all (stmt_trees a.body)
arms-count [] a = ap (λ (t : Condition × Statements). count_all t.1 + 0) (tree-Arm a) ∙ omega arith
arms-count (b ∷ as_) a = ap (λ n. count_all ((arm_tree b).1) + n) (arms-count as_ a) ∙ omega arith

pub arms-deepest : (as_ : List Arm) (a : Arm) → deepest_in_arms (arm_trees (as_ ++ a ∷ [])) ≡ max (deepest_in_arms (arm_trees as_)) (max (condition_depth (cond_tree a.test)) (deepest_in_all (stmt_trees a.body)))
arms-deepest [] a = ap (λ (t : Condition × Statements). max (condition_depth t.0) (max (deepest_in_all t.1) 0)) (tree-Arm a) ∙ omega arith
arms-deepest (b ∷ as_) a = ap (λ n. max (condition_depth ((arm_tree b).0)) (max (deepest_in_all ((arm_tree b).1)) n)) (arms-deepest as_ a) ∙ omega arith

pub arms-blocks : (as_ : List Arm) (a : Arm) → block_depth_of_arms (arm_trees (as_ ++ a ∷ [])) ≡ max (block_depth_of_arms (arm_trees as_)) (block_depth_of_all (stmt_trees a.body))
arms-blocks [] a = ap (λ (t : Condition × Statements). max (block_depth_of_all t.1) 0) (tree-Arm a) ∙ omega arith
arms-blocks (b ∷ as_) a = ap (λ n. max (block_depth_of_all ((arm_tree b).1)) n) (arms-blocks as_ a) ∙ omega arith

pub arms-nodes : (as_ : List Arm) (a : Arm) → arm_nodes (arm_trees (as_ ++ a ∷ [])) ≡ arm_nodes (arm_trees as_) + (condition_nodes (cond_tree a.test) + nodes_of_all (stmt_trees a.body) + 1)
arms-nodes [] a = ap (λ (t : Condition × Statements). condition_nodes t.0 + nodes_of_all t.1 + 0 + 1) (tree-Arm a) ∙ omega arith
arms-nodes (b ∷ as_) a = ap (λ n. condition_nodes ((arm_tree b).0) + nodes_of_all ((arm_tree b).1) + n + 1) (arms-nodes as_ a) ∙ omega arith

pub arms-loops : (as_ : List Arm) (a : Arm) → loop_numbers_of_arms (arm_trees (as_ ++ a ∷ [])) ≡ loop_numbers_of_arms (arm_trees as_) ++ loop_numbers_of_all (stmt_trees a.body)
arms-loops [] a = ap (λ (t : Condition × Statements). loop_numbers_of_all t.1 ++ []) (tree-Arm a) ∙ to_end (loop_numbers_of_all (stmt_trees a.body))
arms-loops (b ∷ as_) a = ap (λ v. loop_numbers_of_all ((arm_tree b).1) ++ v) (arms-loops as_ a) ∙ sym (append_assoc (loop_numbers_of_all ((arm_tree b).1)) (loop_numbers_of_arms (arm_trees as_)) (loop_numbers_of_all (stmt_trees a.body)))

pub arms-readable : (as_ : List Arm) (a : Arm) → are_readable_arms (arm_trees as_) ≡ true → is_readable_condition (cond_tree a.test) ≡ true → are_readable_statements (stmt_trees a.body) ≡ true → are_readable_arms (arm_trees (as_ ++ a ∷ [])) ≡ true
arms-readable [] a h k m = ap (λ (t : Condition × Statements). is_readable_condition t.0 && (are_readable_statements t.1 && true)) (tree-Arm a) ∙ and_true _ _ k (and_true _ _ m refl)
arms-readable (b ∷ as_) a h k m = and_true _ _ (and_first _ _ h) (and_true _ _ (and_first _ _ (and_second _ _ h)) (arms-readable as_ a (and_second _ _ (and_second _ _ h)) k m))

pub arms-parallel : (as_ : List Arm) (a : Arm) → has_parallel_in_arms (arm_trees as_) ≡ false → has_parallel_in (stmt_trees a.body) ≡ false → has_parallel_in_arms (arm_trees (as_ ++ a ∷ [])) ≡ false
arms-parallel [] a h k = ap (λ (t : Condition × Statements). has_parallel_in t.1 || false) (tree-Arm a) ∙ or_false _ _ k refl
arms-parallel (b ∷ as_) a h k = or_false _ _ (or_first _ _ h) (arms-parallel as_ a (or_second _ _ h) k)

pub arms-some : (as_ : List Arm) (a : Arm) → has_arm (arm_trees (as_ ++ a ∷ [])) ≡ true
arms-some [] a = refl
arms-some (b ∷ as_) a = refl

pub both_false : (a b : Bool) → a ≡ false → b ≡ false → (a || b) ≡ false
both_false = or_false
