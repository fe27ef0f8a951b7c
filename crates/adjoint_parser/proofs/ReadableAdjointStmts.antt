-- Statements of the grammar of adjoints are readable, and within its limits.
use Rattle.std.proofs.Common.{◌≡◌, ℕ, zero, suc, ◌+◌, ◌<◌, ◌≤◌, max, Bool, true, false, not, ◌&&◌, ◌||◌, nat_lt, [], ◌∷◌, ◌++◌, Option, Some, None, refl, sym, ap, subst, inl, inr, arith}
use Rattle.fl_ast.specs.declared.directive.Directive.{Directive}
use Rattle.fl_ast.specs.declared.expr.Expr.{Expr}
use Rattle.fl_ast.specs.declared.adjoint.AStmt.{AStmt}
use Rattle.fl_ast.specs.declared.adjoint.AStmt.TheVariants.{Assign, If, Do, Push, Pop, Open, Close}
use Rattle.fl_ast.specs.Tree.{expr_tree, expr_trees, step_tree, cond_tree}
use Rattle.fl_ast.specs.AdjointTree.{AdjointStatement, adjoint_assignment, adjoint_branch, adjoint_loop, push, pop, begin_tapes, end_tapes, aexpr_tree, astmt_tree, astmt_trees, aarm_trees}
use Rattle.fl_ast.specs.Measures.{depth, deepest, condition_depth, step_depth}
use Rattle.fl_ast.specs.Readable.{is_variable, is_readable, are_readable, is_readable_condition, is_readable_step, has_readable_clauses, is_readable_directive, is_parallel}
use Rattle.fl_ast.specs.ReadableAdjoint.{is_readable_adjoint, adjoint_depth, is_readable_adjoint_statement, are_readable_adjoint_statements, are_readable_adjoint_arms, has_parallel_adjoint, has_parallel_adjoints, has_parallel_adjoints_in, has_adjoint_arm, deepest_in_adjoint, deepest_in_adjoints, deepest_in_adjoint_arms, adjoint_block_depth, block_depth_of_adjoints, block_depth_of_adjoint_arms}
use Rattle.parsing.specs.declared.symbol.Symbol.TheVariants as s
use Rattle.parsing.specs.declared.cursor.Word.{Word}
use Rattle.parsing.specs.Terminal.{marked, name}
use Rattle.parsing.specs.Grammar.{Grammar, one}
use Rattle.omp_clauses.specs.LineGrammar as omp
use Rattle.fl_expressions.specs.declared.tree.Measured.{Measured}
use Rattle.fl_expressions.specs.ExprGrammar as ge
use Rattle.fl_conditions.specs.declared.tree.Judged.{Judged}
use Rattle.fl_conditions.specs.CondGrammar as gc
use Rattle.adjoint_expressions.specs.declared.tree.AMeasured.{AMeasured}
use Rattle.adjoint_expressions.specs.AdjointGrammar as ga
use Rattle.fl_statements.specs.declared.block.Awaited.{Awaited}
use Rattle.fl_statements.specs.declared.block.Awaited.TheVariants.{Nothing, LoopEnd, AtomicEnd}
use Rattle.fl_statements.specs.declared.block.Target.{Target}
use Rattle.fl_statements.specs.declared.block.LoopLine.{LoopLine}
use Rattle.fl_statements.specs.Limits.{Limits}
use Rattle.fl_statements.specs.Terminals.{plain_name, then_word}
use Rattle.fl_statements.specs.Trees.{scalar_target, element_target, loop_line_of, awaited_by, awaited_of}
use Rattle.fl_statements.specs.StmtGrammar as gs
use Rattle.adjoint_statements.specs.declared.block.Block.{Block}
use Rattle.adjoint_statements.specs.declared.block.LoopParts.{LoopParts}
use Rattle.adjoint_statements.specs.declared.branch.Branch.{Branch}
use Rattle.adjoint_statements.specs.Rooms.{the_limits, narrower}
use Rattle.adjoint_statements.specs.Trees.{block_from, next_loop, assigned, pushed, popped, opened, closed, parts_of, looped, ended, arm_of, first_branch, with_arm, with_other, branched}
use Rattle.adjoint_statements.specs.AdjointStmtGrammar as g
use Rattle.fl_expressions.proofs.Holding.{Holds, holds_bind, holds_gives, holds_many, holds_any, holds_name}
use Rattle.fl_expressions.proofs.ReadableExprs.{SoundList, Sound, and_true, subscripts_sound, expr_sound}
use Rattle.fl_conditions.proofs.ReadableConds.{SoundCond, cond_sound}
use Rattle.fl_statements.proofs.ReadableStmts.{holds_steps, plain_sound, then_sound, LoopNamed, loop_name_sound, clauses_readable}
use Rattle.adjoint_parser.proofs.ReadableAdjointExprs.{adjoint_expr_good, below_sound}
use Rattle.adjoint_parser.proofs.AddingAdjoints.{designated, tree-Assign, tree-Do, tree-If, tree-Push, tree-Pop, tree-Open, tree-Close, deepest-append, blocks-append, readable-append, parallel-append, arms-deepest, arms-blocks, arms-readable, arms-parallel, arms-some, or_false, or_first, or_second}

-- Of the statements of a block, in a parallel loop or not: how deep they are, with so many blocks in each other at most.
pub record Well (n : ℕ) (inside : Bool) (c : Block) : Type 0 where
  pub depths : deepest_in_adjoints (astmt_trees c.stmts) ≤ 256
  pub blocks : block_depth_of_adjoints (astmt_trees c.stmts) ≤ n
  pub readable : are_readable_adjoint_statements (astmt_trees c.stmts) ≡ true
  pub single : inside ≡ true → has_parallel_adjoints (astmt_trees c.stmts) ≡ false

-- the same, wherever it ends
abbrev pub IsWell : ℕ → Bool → Block → ℕ → Type 0
IsWell n inside c k = Well n inside c

none_well : (n : ℕ) (inside : Bool) (loops : ℕ) → Well n inside (block_from loops)
none_well n inside loops = record { depths = omega arith; blocks = omega arith; readable = refl; single = λ _. refl }

-- what one statement adds
record Adds (n : ℕ) (inside : Bool) (t : AdjointStatement) : Type 0 where
  depths : deepest_in_adjoint t ≤ 256
  blocks : adjoint_block_depth t ≤ n
  readable : is_readable_adjoint_statement t ≡ true
  single : inside ≡ true → has_parallel_adjoint t ≡ false

abbrev and_one : Block → AStmt → ℕ → Awaited → Block
and_one c s loops a = record { stmts = c.stmts ++ s ∷ []; loops = loops; awaited = a }

added : (n : ℕ) (inside : Bool) (c : Block) (s : AStmt) (t : AdjointStatement) (loops : ℕ) (a : Awaited) → astmt_tree s ≡ t → Well n inside c → Adds n inside t → Well n inside (and_one c s loops a)
added n inside c s t loops a is_t C A0 =
    let A : Adds n inside (astmt_tree s) = subst (λ (u : AdjointStatement). Adds n inside u) (sym is_t) A0 in
    let deep = A.depths in
    let deep_was = C.depths in
    let block = A.blocks in
    let block_was = C.blocks in
    record {
      depths = subst (λ (n : ℕ). n ≤ 256) (sym (deepest-append c.stmts s)) (omega (arith, deep, deep_was));
      blocks = subst (λ (b : ℕ). b ≤ n) (sym (blocks-append c.stmts s)) (omega (arith, block, block_was));
      readable = readable-append c.stmts s C.readable A.readable;
      single = λ h. parallel-append c.stmts s (C.single h) (A.single h);
    }

-- ---- expressions, conditions and places

abbrev IsExpr : Measured → ℕ → Type 0
IsExpr e k = (depth (expr_tree e.expr) ≤ 256) × (is_readable (expr_tree e.expr) ≡ true)

expr_is : (b m : ℕ) → Holds m (ge.expr b (Some 255)) IsExpr
expr_is b m e us sp n = by (m + _) (expr_sound b (Some 255) m e us sp n)
  where
    by : (k : ℕ) → Sound (Some 255) m e k → IsExpr e k
    by k S = let is_ = S.is in let fits_ = S.fits in (omega (arith, is_, fits_), S.readable)

abbrev IsRight : AMeasured → ℕ → Type 0
IsRight e k = (adjoint_depth (aexpr_tree e.expr) ≤ 256) × (is_readable_adjoint (aexpr_tree e.expr) ≡ true)

right_is : (m : ℕ) → Holds m (ga.adjoint_expr 256 (Some 255)) IsRight
right_is m e us sp n = let S = adjoint_expr_good 256 (Some 255) m e us sp n in let is_ = S.is in let fits_ = S.fits in (omega (arith, is_, fits_), S.readable)

abbrev IsTest : Judged → ℕ → Type 0
IsTest c k = (condition_depth (cond_tree c.cond) ≤ 256) × (is_readable_condition (cond_tree c.cond) ≡ true)

test_is : (m : ℕ) → Holds m (gc.cond 255 (Some 254)) IsTest
test_is m c us sp n = by (m + _) (cond_sound 255 (Some 254) m c us sp n)
  where
    by : (k : ℕ) → SoundCond (Some 254) m c k → IsTest c k
    by k S = let is_ = S.is in let fits_ = S.fits in (omega (arith, is_, fits_), S.readable)

guard_is : (m : ℕ) → Holds m (gs.guard the_limits) IsTest
unfolding gs.guard
guard_is m = holds_bind m (one (marked s.Open)) _ (λ _ a. m ≤ a) IsTest (holds_any m _)
    (λ _ a _. holds_bind a (gc.cond 255 (Some 254)) _ IsTest IsTest (test_is a)
    (λ c b T. holds_bind b (one (marked s.Close)) _ (λ _ k. b ≤ k) IsTest (holds_any b _) (λ _ k _. holds_gives k c IsTest T)))

record SoundTarget (t : Target) : Type 0 where
  named : is_variable t.place.name ≡ true
  shallow : deepest (expr_trees t.place.subscripts) ≤ 256
  readable : are_readable (expr_trees t.place.subscripts) ≡ true

abbrev IsTarget : Target → ℕ → Type 0
IsTarget t k = SoundTarget t

-- those of adjoints, with so many brackets to open
abbrev limits_with : ℕ → Limits
limits_with b = record { brackets = b; depth = Some 256; blocks = 256; statements = None; names = None; once = true }

target_is : (b : ℕ) (x : Word) (k : ℕ) → is_variable x.name ≡ true → Holds k (gs.after_target (limits_with b) x) IsTarget
unfolding gs.after_target gs.indexed_target
target_is b x k named_ t us sp (inl (r, n)) = holds_bind k (ge.subscripts (nat_lt 0 b) (ge.below b) (Some 255)) _ (SoundList (Some 255) k) IsTarget
    (subscripts_sound (nat_lt 0 b) (ge.below b) (λ _. below_sound b) r (Some 255) k)
    (λ l c L. holds_gives c (element_target x l) IsTarget (let is_ = L.is in let fits_ = L.fits in record { named = named_; shallow = omega (arith, is_, fits_); readable = L.readable })) t us sp n
target_is b x k named_ t us sp (inr n) = holds_gives k (scalar_target x) IsTarget (record { named = named_; shallow = omega arith; readable = refl }) t us sp n

-- ---- assignments

right_side_is : (m : ℕ) → Holds m (g.right_side the_limits) IsRight
unfolding g.right_side
right_side_is m = holds_bind m (one (marked s.Equals)) _ (λ _ a. m ≤ a) IsRight (holds_any m _)
    (λ _ a _. holds_bind a (ga.adjoint_expr 256 (Some 255)) _ IsRight IsRight (right_is a)
    (λ e b E. holds_bind b (one (marked s.LineEnd)) _ (λ _ k. b ≤ k) IsRight (holds_any b _) (λ _ k _. holds_gives k e IsRight E)))

assigned_well : (n : ℕ) (inside atomic : Bool) (c : Block) (t : Target) (e : AMeasured) → Well n inside c → SoundTarget t → IsRight e 0 → Well n inside (assigned atomic c t e)
assigned_well n inside atomic c t e C T E =
    let shallow_ = T.shallow in
    let low = E.0 in
    added n inside c (Assign t.line atomic t.place e.expr) (adjoint_assignment t.line atomic (designated t.place) (aexpr_tree e.expr)) c.loops (awaited_by atomic) (tree-Assign t.line atomic t.place e.expr) C (record {
      depths = omega (arith, shallow_, low);
      blocks = omega arith;
      readable = and_true _ _ T.named (and_true _ _ T.readable E.1);
      single = λ _. refl;
    })

assign_to_well : (n : ℕ) (inside atomic : Bool) (c : Block) (x : Word) (k : ℕ) → Well n inside c → is_variable x.name ≡ true → Holds k (g.assign_to the_limits atomic c x) (IsWell n inside)
unfolding g.assign_to
assign_to_well n inside atomic c x k C named_ = holds_bind k (gs.after_target the_limits x) _ IsTarget (IsWell n inside) (target_is 256 x k named_)
    (λ t a T. holds_bind a (g.right_side the_limits) _ IsRight (IsWell n inside) (right_side_is a)
    (λ e z E. holds_gives z (assigned atomic c t e) (IsWell n inside) (assigned_well n inside atomic c t e C T E)))

assign_well : (n : ℕ) (inside atomic : Bool) (c : Block) (i : ℕ) → Well n inside c → Holds i (g.assign the_limits atomic c) (IsWell n inside)
unfolding g.assign
assign_well n inside atomic c i C = holds_bind i (one name) _ (λ x k. is_variable x.name ≡ true) (IsWell n inside) (holds_name i) (λ x k N. assign_to_well n inside atomic c x k C N)

-- ---- calls of the tape

key_is : (m : ℕ) → Holds m (g.key the_limits) IsExpr
unfolding g.key
key_is m = holds_bind m (one (marked s.Open)) _ (λ _ a. m ≤ a) IsExpr (holds_any m _)
    (λ _ a _. holds_bind a (ge.expr 255 (Some 255)) _ IsExpr IsExpr (expr_is 255 a)
    (λ e b E. holds_bind b (one (marked s.Comma)) _ (λ _ k. b ≤ k) IsExpr (holds_any b _) (λ _ k _. holds_gives k e IsExpr E)))

last_argument_is : (m : ℕ) → Holds m (g.last_argument the_limits) IsExpr
unfolding g.last_argument
last_argument_is m = holds_bind m (ge.expr 255 (Some 255)) _ IsExpr IsExpr (expr_is 255 m)
    (λ e b E. holds_bind b g.call_end _ (λ _ k. b ≤ k) IsExpr (holds_any b _) (λ _ k _. holds_gives k e IsExpr E))

last_place_is : (m : ℕ) → Holds m (g.last_place the_limits) IsTarget
unfolding g.last_place
last_place_is m = holds_bind m (one name) _ (λ x k. is_variable x.name ≡ true) IsTarget (holds_name m)
    (λ x a N. holds_bind a (gs.after_target (narrower the_limits) x) _ IsTarget IsTarget (target_is 255 x a N)
    (λ t b T. holds_bind b g.call_end _ (λ _ k. b ≤ k) IsTarget (holds_any b _) (λ _ k _. holds_gives k t IsTarget T)))

pushed_well : (n : ℕ) (inside : Bool) (c : Block) (line : ℕ) (key value : Measured) → Well n inside c → IsExpr key 0 → IsExpr value 0 → Well n inside (pushed c line key value)
pushed_well n inside c line key value C K V =
    let low = K.0 in
    let low_too = V.0 in
    added n inside c (Push line key.expr value.expr) (push line (expr_tree key.expr) (expr_tree value.expr)) c.loops Nothing (tree-Push line key.expr value.expr) C (record {
      depths = omega (arith, low, low_too);
      blocks = omega arith;
      readable = and_true _ _ K.1 V.1;
      single = λ _. refl;
    })

popped_well : (n : ℕ) (inside : Bool) (c : Block) (line : ℕ) (key : Measured) (t : Target) → Well n inside c → IsExpr key 0 → SoundTarget t → Well n inside (popped c line key t)
popped_well n inside c line key t C K T =
    let low = K.0 in
    let shallow_ = T.shallow in
    added n inside c (Pop line key.expr t.place) (pop line (expr_tree key.expr) (designated t.place)) c.loops Nothing (tree-Pop line key.expr t.place) C (record {
      depths = omega (arith, low, shallow_);
      blocks = omega arith;
      readable = and_true _ _ K.1 (and_true _ _ T.named T.readable);
      single = λ _. refl;
    })

opened_well : (n : ℕ) (inside : Bool) (c : Block) (line : ℕ) (count : Measured) → Well n inside c → IsExpr count 0 → Well n inside (opened c line count)
opened_well n inside c line count C N = added n inside c (Open line count.expr) (begin_tapes line (expr_tree count.expr)) c.loops Nothing (tree-Open line count.expr) C (record {
  depths = N.0;
  blocks = omega arith;
  readable = N.1;
  single = λ _. refl;
})

closed_well : (n : ℕ) (inside : Bool) (c : Block) (line : ℕ) → Well n inside c → Well n inside (closed c line)
closed_well n inside c line C = added n inside c (Close line) (end_tapes line) c.loops Nothing (tree-Close line) C (record {
  depths = omega arith;
  blocks = omega arith;
  readable = refl;
  single = λ _. refl;
})

called_well : (n : ℕ) (inside : Bool) (c : Block) (line i : ℕ) → Well n inside c → Holds i (g.called the_limits c line) (IsWell n inside)
unfolding g.called g.push g.pop g.begin g.finish
called_well n inside c line i C x us sp (inl u) = holds_bind i (one (marked s.FormadPush)) _ (λ _ a. i ≤ a) (IsWell n inside) (holds_any i _)
    (λ _ a _. holds_bind a (g.key the_limits) _ IsExpr (IsWell n inside) (key_is a)
    (λ key b K. holds_bind b (g.last_argument the_limits) _ IsExpr (IsWell n inside) (last_argument_is b)
    (λ value k V. holds_gives k (pushed c line key value) (IsWell n inside) (pushed_well n inside c line key value C K V)))) x us sp u
called_well n inside c line i C x us sp (inr (inl u)) = holds_bind i (one (marked s.FormadPop)) _ (λ _ a. i ≤ a) (IsWell n inside) (holds_any i _)
    (λ _ a _. holds_bind a (g.key the_limits) _ IsExpr (IsWell n inside) (key_is a)
    (λ key b K. holds_bind b (g.last_place the_limits) _ IsTarget (IsWell n inside) (last_place_is b)
    (λ t k T. holds_gives k (popped c line key t) (IsWell n inside) (popped_well n inside c line key t C K T)))) x us sp u
called_well n inside c line i C x us sp (inr (inr (inl u))) = holds_bind i (one (marked s.FormadOpen)) _ (λ _ a. i ≤ a) (IsWell n inside) (holds_any i _)
    (λ _ a _. holds_bind a (one (marked s.Open)) _ (λ _ b. a ≤ b) (IsWell n inside) (holds_any a _)
    (λ _ b _. holds_bind b (g.last_argument the_limits) _ IsExpr (IsWell n inside) (last_argument_is b)
    (λ count k N. holds_gives k (opened c line count) (IsWell n inside) (opened_well n inside c line count C N)))) x us sp u
called_well n inside c line i C x us sp (inr (inr (inr u))) = holds_bind i (one (marked s.FormadClose)) _ (λ _ a. i ≤ a) (IsWell n inside) (holds_any i _)
    (λ _ a _. holds_bind a (one (marked s.Open)) _ (λ _ b. a ≤ b) (IsWell n inside) (holds_any a _)
    (λ _ b _. holds_bind b g.call_end _ (λ _ k. b ≤ k) (IsWell n inside) (holds_any b _)
    (λ _ k _. holds_gives k (closed c line) (IsWell n inside) (closed_well n inside c line C)))) x us sp u

call_well : (n : ℕ) (inside : Bool) (c : Block) (i : ℕ) → Well n inside c → Holds i (g.call the_limits c) (IsWell n inside)
unfolding g.call
call_well n inside c i C = holds_bind i (one (marked s.Call)) _ (λ _ a. i ≤ a) (IsWell n inside) (holds_any i _) (λ line a _. called_well n inside c line a C)

-- ---- first lines of loops

record SoundLine (h : LoopLine) : Type 0 where
  named : is_variable h.var ≡ true
  shallow : max (max (depth (expr_tree h.first)) (depth (expr_tree h.last))) (step_depth (step_tree h.step)) ≤ 256
  first : is_readable (expr_tree h.first) ≡ true
  last : is_readable (expr_tree h.last) ≡ true
  step : is_readable_step (step_tree h.step) ≡ true

abbrev IsLine : LoopLine → ℕ → Type 0
IsLine h k = SoundLine h

abbrev IsStep : Option Expr → ℕ → Type 0
IsStep e k = (step_depth (step_tree e) ≤ 256) × (is_readable_step (step_tree e) ≡ true)

step_is : (m : ℕ) → Holds m (gs.loop_step the_limits) IsStep
unfolding gs.loop_step
step_is m e us sp (inl n) = holds_bind m (one (marked s.Comma)) _ (λ _ a. m ≤ a) IsStep (holds_any m _)
    (λ _ a _. holds_bind a (ge.expr 256 (Some 255)) _ IsExpr IsStep (expr_is 256 a) (λ x k E. holds_gives k (Some x.expr) IsStep E)) e us sp n
step_is m e us sp (inr n) = holds_gives m None IsStep (omega arith, refl) e us sp n

first_is : (m : ℕ) → Holds m (gs.first_bound the_limits) IsExpr
unfolding gs.first_bound
first_is m = holds_bind m (ge.expr 256 (Some 255)) _ IsExpr IsExpr (expr_is 256 m)
    (λ e a E. holds_bind a (one (marked s.Comma)) _ (λ _ k. a ≤ k) IsExpr (holds_any a _) (λ _ k _. holds_gives k e IsExpr E))

line_is : (m : ℕ) → Holds m (gs.loop_line the_limits) IsLine
unfolding gs.loop_line
line_is m = holds_bind m gs.loop_name _ (LoopNamed m) IsLine (loop_name_sound m)
    (λ x a N. holds_bind a (gs.first_bound the_limits) _ IsExpr IsLine (first_is a)
    (λ first b A. holds_bind b (ge.expr 256 (Some 255)) _ IsExpr IsLine (expr_is 256 b)
    (λ last d B. holds_bind d (gs.loop_step the_limits) _ IsStep IsLine (step_is d)
    (λ step e S. holds_bind e (one (marked s.LineEnd)) _ (λ _ k. e ≤ k) IsLine (holds_any e _)
    (λ _ k _. holds_gives k (loop_line_of x first last step) IsLine
    (let low = A.0 in let low_too = B.0 in let low_step = S.0 in record {
      named = N.0;
      shallow = omega (arith, low, low_too, low_step);
      first = A.1;
      last = B.1;
      step = S.1;
    }))))))

-- ---- what stands in an If

record WellBranch (n : ℕ) (inside : Bool) (b : Branch) : Type 0 where
  depths : max (deepest_in_adjoint_arms (aarm_trees b.arms)) (deepest_in_adjoints (astmt_trees b.other)) ≤ 256
  blocks : max (block_depth_of_adjoint_arms (aarm_trees b.arms)) (block_depth_of_adjoints (astmt_trees b.other)) ≤ n
  some : has_adjoint_arm (aarm_trees b.arms) ≡ true
  arms : are_readable_adjoint_arms (aarm_trees b.arms) ≡ true
  other : are_readable_adjoint_statements (astmt_trees b.other) ≡ true
  single : inside ≡ true → (has_parallel_adjoints_in (aarm_trees b.arms) || has_parallel_adjoints (astmt_trees b.other)) ≡ false

-- an If with one arm
first_well : (n : ℕ) (inside : Bool) (line : ℕ) (test : Judged) (body : Block) → IsTest test 0 → Well n inside body → WellBranch n inside (first_branch line test.cond body)
first_well n inside line test body T B =
    let r = arm_of test.cond body.stmts in
    let low = T.0 in
    let b_deep = B.depths in
    let b_block = B.blocks in
    let deep = arms-deepest [] r in
    let block = arms-blocks [] r in
    record {
      depths = omega (arith, deep, low, b_deep);
      blocks = omega (arith, block, b_block);
      some = refl;
      arms = arms-readable [] r refl T.1 B.readable;
      other = refl;
      single = λ h. or_false _ _ (arms-parallel [] r refl (B.single h)) refl;
    }

-- one arm more
arm_well : (n : ℕ) (inside : Bool) (b : Branch) (test : Judged) (body : Block) → WellBranch n inside b → IsTest test 0 → Well n inside body → WellBranch n inside (with_arm b test.cond body)
arm_well n inside b test body R T B =
    let r = arm_of test.cond body.stmts in
    let low = T.0 in
    let b_deep = B.depths in
    let b_block = B.blocks in
    let r_deep = R.depths in
    let r_block = R.blocks in
    let deep = arms-deepest b.arms r in
    let block = arms-blocks b.arms r in
    record {
      depths = omega (arith, deep, low, b_deep, r_deep);
      blocks = omega (arith, block, b_block, r_block);
      some = arms-some b.arms r;
      arms = arms-readable b.arms r R.arms T.1 B.readable;
      other = R.other;
      single = λ h. or_false _ _ (arms-parallel b.arms r (or_first _ _ (R.single h)) (B.single h)) (or_second _ _ (R.single h));
    }

-- the statements behind `else`
other_well : (n : ℕ) (inside : Bool) (b : Branch) (body : Block) → WellBranch n inside b → Well n inside body → WellBranch n inside (with_other b body)
other_well n inside b body R B =
    let b_deep = B.depths in
    let b_block = B.blocks in
    let r_deep = R.depths in
    let r_block = R.blocks in
    record {
      depths = omega (arith, b_deep, r_deep);
      blocks = omega (arith, b_block, r_block);
      some = R.some;
      arms = R.arms;
      other = B.readable;
      single = λ h. or_false _ _ (or_first _ _ (R.single h)) (B.single h);
    }

branched_well : (outer n : ℕ) (inside : Bool) (c : Block) (b : Branch) → n + 1 ≤ outer → Well outer inside c → WellBranch n inside b → Well outer inside (branched c b)
branched_well outer n inside c b deeper C R =
    let r_block = R.blocks in
    added outer inside c (If b.line b.arms b.other) (adjoint_branch b.line (aarm_trees b.arms) (astmt_trees b.other)) b.loops Nothing (tree-If b.line b.arms b.other) C (record {
      depths = R.depths;
      blocks = omega (arith, r_block, deeper);
      readable = and_true _ _ R.some (and_true _ _ R.arms R.other);
      single = R.single;
    })

-- ---- loops

record SoundParts (n : ℕ) (within_ : Bool) (p : LoopParts) : Type 0 where
  line : SoundLine p.head
  body : Well n within_ p.body

abbrev AreParts : ℕ → Bool → LoopParts → ℕ → Type 0
AreParts n within_ p k = SoundParts n within_ p

looped_well : (outer n : ℕ) (inside within_ : Bool) (c : Block) (d : Option Directive) (p : LoopParts) → n + 1 ≤ outer → Well outer inside c → is_readable_directive d ≡ true →
    (is_parallel d && has_parallel_adjoints (astmt_trees p.body.stmts)) ≡ false → (inside ≡ true → (is_parallel d || has_parallel_adjoints (astmt_trees p.body.stmts)) ≡ false) →
    SoundParts n within_ p → Well outer inside (looped c d p)
looped_well outer n inside within_ c d p deeper C readable_ quiet alone P =
    let h = p.head in
    let b_deep = P.body.depths in
    let b_block = P.body.blocks in
    let l_deep = P.line.shallow in
    added outer inside c (Do h.line (next_loop c.loops) d h.var h.first h.last h.step p.body.stmts)
    (adjoint_loop h.line (next_loop c.loops) d h.var (expr_tree h.first) (expr_tree h.last) (step_tree h.step) (astmt_trees p.body.stmts)) p.body.loops (awaited_of d)
    (tree-Do h.line (next_loop c.loops) d h.var h.first h.last h.step p.body.stmts) C (record {
      depths = omega (arith, b_deep, l_deep);
      blocks = omega (arith, b_block, deeper);
      readable = and_true _ _ readable_ (and_true _ _ (ap not quiet) (and_true _ _ P.line.named (and_true _ _ P.line.first (and_true _ _ P.line.last (and_true _ _ P.line.step P.body.readable)))));
      single = alone;
    })

-- ---- blocks

module _ (may : Bool) (outer n : ℕ) (deeper : may ≡ true → n + 1 ≤ outer) (ig : Bool → Block → Grammar Block)
    (inner : may ≡ true → (within_ : Bool) (loops k : ℕ) → Holds k (ig within_ (block_from loops)) (IsWell n within_)) (inside : Bool) where
  parts_are : may ≡ true → (within_ : Bool) (loops m : ℕ) → Holds m (g.loop_parts the_limits may ig inside within_ loops) (AreParts n within_)
  unfolding g.loop_parts
  parts_are so within_ loops m = holds_bind m (gs.loop_line the_limits) _ IsLine (AreParts n within_) (line_is m)
      (λ line a L. holds_bind a (ig within_ (block_from (next_loop loops))) _ (IsWell n within_) (AreParts n within_) (inner so within_ (next_loop loops) a)
      (λ body b B. holds_bind b gs.end_do _ (λ _ k. b ≤ k) (AreParts n within_) (holds_any b _)
      (λ _ k _. holds_gives k (parts_of line body) (AreParts n within_) (record { line = L; body = B }))))

  module _ (c : Block) (C : Well outer inside c) where
    abbrev Fine : Block → ℕ → Type 0
    Fine = IsWell outer inside

    do_well : may ≡ true → (i : ℕ) → Holds i (g.do_stmt the_limits may ig inside c) Fine
    unfolding g.do_stmt
    do_well so i = holds_bind i (g.loop_parts the_limits may ig inside inside c.loops) _ (AreParts n inside) Fine (parts_are so inside c.loops i)
        (λ q k P. holds_gives k (looped c None q) Fine (looped_well outer n inside inside c None q (deeper so) C refl refl P.body.single P))

    parallel_well : not inside ≡ true → may ≡ true → (line i : ℕ) → Holds i (g.parallel the_limits may ig inside c line) Fine
    unfolding g.parallel
    parallel_well out so line i = holds_bind i (omp.parallel_do true line) _ (λ d k. (has_readable_clauses d ≡ true) × (i ≤ k)) Fine (clauses_readable line i)
        (λ d a D. holds_bind a (g.loop_parts the_limits may ig inside true c.loops) _ (AreParts n true) Fine (parts_are so true c.loops a)
        (λ q k P. holds_gives k (looped c (Some d) q) Fine (looped_well outer n inside true c (Some d) q (deeper so) C D.0 (P.body.single refl) (λ is_in. absurd (wrong inside is_in out)) P)))
      where
        wrong : (b : Bool) → b ≡ true → not b ≡ true → ⊥
        wrong true e f = cc
        wrong false e f = cc

    atomic_well : (i : ℕ) → Holds i (g.atomic the_limits may ig inside c) Fine
    unfolding g.atomic
    atomic_well i = holds_bind i omp.atomic _ (λ _ a. i ≤ a) Fine (holds_any i _) (λ _ a _. assign_well outer inside true c a C)

    ended_well : Well outer inside (ended c)
    ended_well = record { depths = C.depths; blocks = C.blocks; readable = C.readable; single = C.single }

    ending_well : (a : Awaited) (i : ℕ) → Holds i (g.ending the_limits may ig inside a c) Fine
    unfolding g.end_loop g.end_atomic
    ending_well Nothing i = λ x us sp n. absurd n
    ending_well LoopEnd i = holds_bind i (one (marked s.End)) _ (λ _ a. i ≤ a) Fine (holds_any i _)
        (λ _ a _. holds_bind a omp.end_parallel_do _ (λ _ b. a ≤ b) Fine (holds_any a _) (λ _ b _. holds_gives b (ended c) Fine ended_well))
    ending_well AtomicEnd i = holds_bind i (one (marked s.End)) _ (λ _ a. i ≤ a) Fine (holds_any i _)
        (λ _ a _. holds_bind a omp.end_atomic _ (λ _ b. a ≤ b) Fine (holds_any a _) (λ _ b _. holds_gives b (ended c) Fine ended_well))

    after_sentinel_well : (line i : ℕ) → Holds i (g.after_sentinel the_limits may ig inside c line) Fine
    unfolding g.after_sentinel
    after_sentinel_well line i x us sp (inl u) = parallel_well u.0 u.1.0 line i x us sp u.1.1
    after_sentinel_well line i x us sp (inr (inl u)) = atomic_well i x us sp u
    after_sentinel_well line i x us sp (inr (inr u)) = ending_well c.awaited i x us sp u

    directive_well : (i : ℕ) → Holds i (g.directive the_limits may ig inside c) Fine
    unfolding g.directive
    directive_well i = holds_bind i (one (marked s.Sentinel)) _ (λ _ a. i ≤ a) Fine (holds_any i _) (λ line a _. after_sentinel_well line a)

    -- ---- Ifs

    one_line_well : may ≡ true → (line : ℕ) (test : Judged) (x : Word) (i : ℕ) → IsTest test 0 → is_variable x.name ≡ true → Holds i (g.conditional the_limits c line test x) Fine
    unfolding g.conditional
    one_line_well so line test x i T named_ = holds_bind i (g.assign_to the_limits false (block_from c.loops) x) _ (IsWell n inside) Fine
        (assign_to_well n inside false (block_from c.loops) x i (none_well n inside c.loops) named_)
        (λ body e B. holds_gives e (branched c (first_branch line test.cond body)) Fine (branched_well outer n inside c (first_branch line test.cond body) (deeper so) C (first_well n inside line test body T B)))

    abbrev FineBranch : Branch → ℕ → Type 0
    FineBranch b k = WellBranch n inside b

    first_arm_well : may ≡ true → (line : ℕ) (test : Judged) (i : ℕ) → IsTest test 0 → Holds i (g.first_arm the_limits may ig inside c.loops line test) FineBranch
    unfolding g.first_arm
    first_arm_well so line test i T = holds_bind i (one (marked s.LineEnd)) _ (λ _ e. i ≤ e) FineBranch (holds_any i _)
        (λ _ e _. holds_bind e (ig inside (block_from c.loops)) _ (IsWell n inside) FineBranch (inner so inside c.loops e)
        (λ body z B. holds_gives z (first_branch line test.cond body) FineBranch (first_well n inside line test body T B)))

    arms_well : may ≡ true → (b : Branch) (i : ℕ) → WellBranch n inside b → Holds i (g.another_arm the_limits may ig inside b) FineBranch
    unfolding g.another_arm
    arms_well so b i R = holds_bind i (gs.guard the_limits) _ IsTest FineBranch (guard_is i)
        (λ test a T. holds_bind a (one (marked s.Then)) _ (λ _ e. a ≤ e) FineBranch (holds_any a _)
        (λ _ e _. holds_bind e (one (marked s.LineEnd)) _ (λ _ f. e ≤ f) FineBranch (holds_any e _)
        (λ _ f _. holds_bind f (ig inside (block_from b.loops)) _ (IsWell n inside) FineBranch (inner so inside b.loops f)
        (λ body y B. holds_gives y (with_arm b test.cond body) FineBranch (arm_well n inside b test body R T B)))))

    last_well : may ≡ true → (b : Branch) (i : ℕ) → WellBranch n inside b → Holds i (g.last_part the_limits may ig inside b) FineBranch
    unfolding g.last_part
    last_well so b i R = holds_bind i (one (marked s.LineEnd)) _ (λ _ e. i ≤ e) FineBranch (holds_any i _)
        (λ _ e _. holds_bind e (ig inside (block_from b.loops)) _ (IsWell n inside) FineBranch (inner so inside b.loops e)
        (λ body y B. holds_gives y (with_other b body) FineBranch (other_well n inside b body R B)))

    after_else_well : may ≡ true → (b : Branch) (i : ℕ) → WellBranch n inside b → Holds i (g.after_else the_limits may ig inside b) FineBranch
    unfolding g.after_else
    after_else_well so b i R x us sp (inl v) = holds_bind i (one (marked s.If)) _ (λ _ y. i ≤ y) FineBranch (holds_any i _) (λ _ y _. arms_well so b y R) x us sp v
    after_else_well so b i R x us sp (inr v) = last_well so b i R x us sp v

    part_well : may ≡ true → (b : Branch) (i : ℕ) → WellBranch n inside b → Holds i (g.part the_limits may ig inside b) FineBranch
    unfolding g.part
    part_well so b i R x us sp (inl u) = holds_bind i (one (marked s.ElseIf)) _ (λ _ z. i ≤ z) FineBranch (holds_any i _) (λ _ z _. arms_well so b z R) x us sp u
    part_well so b i R x us sp (inr u) = holds_bind i (one (marked s.Else)) _ (λ _ z. i ≤ z) FineBranch (holds_any i _) (λ _ z _. after_else_well so b z R) x us sp u

    block_if_well : may ≡ true → (line : ℕ) (test : Judged) (i : ℕ) → IsTest test 0 → Holds i (g.block_if the_limits may ig inside c line test) Fine
    unfolding g.block_if g.parts
    block_if_well so line test i T = holds_bind i (g.first_arm the_limits may ig inside c.loops line test) _ FineBranch Fine (first_arm_well so line test i T)
        (λ b e R. holds_bind e (g.parts the_limits may ig inside b) _ FineBranch Fine (holds_many (λ b. not b.closed) (g.part the_limits may ig inside) FineBranch (λ b k R _. part_well so b k R) b e R)
        (λ found f Q. holds_bind f gs.end_if _ (λ _ z. f ≤ z) Fine (holds_any f _)
        (λ _ z _. holds_gives z (branched c found) Fine (branched_well outer n inside c found (deeper so) C Q))))

    after_then_well : may ≡ true → (line : ℕ) (test : Judged) (y : Word) (i : ℕ) → IsTest test 0 → is_variable y.name ≡ true → Holds i (g.after_then the_limits may ig inside c line test y) Fine
    unfolding g.after_then
    after_then_well so line test y i T named_ x us sp (inl v) = one_line_well so line test y i T named_ x us sp v
    after_then_well so line test y i T named_ x us sp (inr v) = block_if_well so line test i T x us sp v

    after_guard_well : may ≡ true → (line : ℕ) (test : Judged) (i : ℕ) → IsTest test 0 → Holds i (g.after_guard the_limits may ig inside c line test) Fine
    unfolding g.after_guard g.one_line g.then_part
    after_guard_well so line test i T x us sp (inl u) = holds_bind i (one plain_name) _ (λ y z. (is_variable y.name ≡ true) × (i < z)) Fine (plain_sound i) (λ y z N. one_line_well so line test y z T N.0) x us sp u
    after_guard_well so line test i T x us sp (inr u) = holds_bind i (one then_word) _ (λ y z. (is_variable y.name ≡ true) × (i < z)) Fine (then_sound i) (λ y z N. after_then_well so line test y z T N.0) x us sp u

    if_well : may ≡ true → (i : ℕ) → Holds i (g.if_stmt the_limits may ig inside c) Fine
    unfolding g.if_stmt
    if_well so i = holds_bind i (one (marked s.If)) _ (λ _ j. i ≤ j) Fine (holds_any i _)
        (λ line j _. holds_bind j (gs.guard the_limits) _ IsTest Fine (guard_is j) (λ test k T. after_guard_well so line test k T))

    stmt_well : (i : ℕ) → Holds i (g.stmt the_limits may ig inside c) Fine
    unfolding g.stmt
    stmt_well i x us sp (inl u) = assign_well outer inside false c i C x us sp u
    stmt_well i x us sp (inr (inl u)) = do_well u.0 i x us sp u.1
    stmt_well i x us sp (inr (inr (inl u))) = if_well u.0 i x us sp u.1
    stmt_well i x us sp (inr (inr (inr (inl u)))) = call_well outer inside c i C x us sp u
    stmt_well i x us sp (inr (inr (inr (inr u)))) = directive_well i x us sp u

  block_well : (loops k : ℕ) → Holds k (g.block the_limits may ig inside (block_from loops)) (IsWell outer inside)
  unfolding g.block
  block_well loops k = holds_steps (g.stmt the_limits may ig inside) (IsWell outer inside) (λ c i C. stmt_well c C i) (block_from loops) k (none_well outer inside loops)

-- Statements that are read are readable.
pub stmts_well : (n : ℕ) (inside : Bool) (loops k : ℕ) → Holds k (g.stmts the_limits n inside (block_from loops)) (IsWell n inside)
unfolding g.stmts
stmts_well zero inside = block_well false 0 0 (λ no. absurd (wrong no)) _ (λ no. absurd (wrong no)) inside
  where
    wrong : false ≡ true → ⊥
    wrong e = cc
stmts_well (suc n) inside = block_well true (suc n) n (λ _. omega arith) _ (λ _ w. stmts_well n w) inside
