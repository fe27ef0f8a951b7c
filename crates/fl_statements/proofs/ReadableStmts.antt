-- Statements that are read are readable, within the limits, and have a byte for each node.
use Rattle.std.proofs.Common.{◌≡◌, ℕ, zero, suc, ◌+◌, ◌<◌, ◌≤◌, max, Bool, true, false, cond, not, ◌&&◌, ◌||◌, nat_le, List, [], ◌∷◌, ◌++◌, Option, Some, None, refl, sym, ap, subst, ◌∙◌, inl, inr, arith}
use Rattle.std.proofs.lemmas.Bool.Decides.{nat_tests}
use Rattle.fl_ast.specs.declared.directive.Directive.{Directive}
use Rattle.fl_ast.specs.declared.expr.Expr.{Expr}
use Rattle.fl_ast.specs.declared.stmt.Stmt.{Stmt}
use Rattle.fl_ast.specs.declared.stmt.Stmt.TheVariants.{Assign, If, Do}
use Rattle.fl_ast.specs.Tree.{expr_tree, expr_trees, step_tree, Statement, stmt_tree, stmt_trees, arm_trees}
use Rattle.fl_ast.specs.Measures.{depth, deepest, nodes, nodes_of_each, step_depth, step_nodes, deepest_in, deepest_in_all, deepest_in_arms, count, count_all, count_arms, block_depth, block_depth_of_all, block_depth_of_arms, loop_numbers, loop_numbers_of_all, loop_numbers_of_arms, statement_nodes, nodes_of_all, arm_nodes}
use Rattle.fl_ast.specs.Readable.{is_variable, is_readable, are_readable, is_readable_step, is_readable_statement, are_readable_statements, are_readable_arms, has_readable_clauses, is_readable_directive, is_parallel, has_parallel, has_parallel_in, has_parallel_in_arms, has_arm}
use Rattle.parsing.specs.declared.symbol.Symbol.{Symbol}
use Rattle.parsing.specs.declared.symbol.Symbol.TheVariants as s
use Rattle.parsing.specs.declared.cursor.Word.{Word}
use Rattle.parsing.specs.Symbol.{symbol_of}
use Rattle.parsing.specs.Terminal.{same, on, is, marked, names, name, word_of}
use Rattle.parsing.specs.Reading.{Lexemes}
use Rattle.parsing.specs.Grammar.{Grammar, one, times, many}
use Rattle.omp_clauses.specs.LineGrammar as omp
use Rattle.fl_expressions.specs.declared.tree.Measured.{Measured}
use Rattle.fl_expressions.specs.ExprGrammar as ge
use Rattle.fl_conditions.specs.declared.tree.Judged.{Judged}
use Rattle.fl_conditions.specs.CondGrammar as gc
use Rattle.fl_statements.specs.declared.block.Awaited.{Awaited}
use Rattle.fl_statements.specs.declared.block.Awaited.TheVariants.{Nothing, LoopEnd, AtomicEnd}
use Rattle.fl_statements.specs.declared.block.Block.{Block}
use Rattle.fl_statements.specs.declared.block.Target.{Target}
use Rattle.fl_statements.specs.declared.block.LoopLine.{LoopLine}
use Rattle.fl_statements.specs.declared.block.LoopParts.{LoopParts}
use Rattle.fl_statements.specs.declared.branch.Branch.{Branch}
use Rattle.fl_statements.specs.Limits.{the_limits}
use Rattle.fl_statements.specs.Terminals.{plain_names, plain_name, then_word}
use Rattle.fl_statements.specs.Trees.{block_from, scalar_target, element_target, assigned, loop_line_of, parts_of, looped, ended}
use Rattle.fl_statements.specs.Branches.{arm_of, first_branch, with_arm, with_other, branched}
use Rattle.fl_statements.specs.StmtGrammar as g
use Rattle.parsing.proofs.Rules.{stepping}
use Rattle.parsing.proofs.OnSymbols.{begins_mark, begins_name, same_is}
use Rattle.omp_clauses.proofs.Readables.{holds_parallel, AllSpelled as AllSpelledToo}
use Rattle.fl_expressions.proofs.ReadableExprs.{Sound, SoundList, and_true, and_first, subscripts_sound, expr_sound}
use Rattle.fl_expressions.proofs.Holding.{AllSpelled, Holds, holds_bind, holds_gives, holds_many, holds_any, holds_some, holds_name, holds_both}
use Rattle.fl_conditions.proofs.ReadableConds.{SoundCond, cond_sound}
use Rattle.fl_statements.proofs.Adding.{tree-Assign, tree-Do, tree-If, Numbered, numbered-append, count-append, deepest-append, blocks-append, nodes-append, loops-append, readable-append, parallel-append, arms-count, arms-deepest, arms-blocks, arms-nodes, arms-loops, arms-readable, arms-parallel, arms-some, both_false}

-- Of the statements of a block that begins behind so many statements, loops and bytes: how deep they are, in a parallel loop or not, and
-- that no node is without a byte.
pub record Well (n : ℕ) (inside : Bool) (before loops_before m : ℕ) (c : Block) (k : ℕ) : Type 0 where
  pub is : before + count_all (stmt_trees c.stmts) ≡ c.count
  pub few : c.count ≤ 4096
  pub depths : deepest_in_all (stmt_trees c.stmts) ≤ 64
  pub blocks : block_depth_of_all (stmt_trees c.stmts) ≤ n
  pub loops : Numbered loops_before (loop_numbers_of_all (stmt_trees c.stmts)) c.loops
  pub readable : are_readable_statements (stmt_trees c.stmts) ≡ true
  pub single : inside ≡ true → has_parallel_in (stmt_trees c.stmts) ≡ false
  pub few_nodes : nodes_of_all (stmt_trees c.stmts) + m ≤ k

none_well : (n : ℕ) (inside : Bool) (count_ loops_ m : ℕ) → count_ ≤ 4096 → Well n inside count_ loops_ m (block_from count_ loops_) m
none_well n inside count_ loops_ m h = record { is = omega arith; few = h; depths = omega arith; blocks = omega arith; loops = refl; readable = refl; single = λ _. refl; few_nodes = omega arith }

pub longer : (n : ℕ) (inside : Bool) (before loops_before m : ℕ) (c : Block) (a k : ℕ) → a ≤ k → Well n inside before loops_before m c a → Well n inside before loops_before m c k
longer n inside before loops_before m c a k h C = let few_ = C.few_nodes in record { is = C.is; few = C.few; depths = C.depths; blocks = C.blocks; loops = C.loops; readable = C.readable; single = C.single; few_nodes = omega (arith, h, few_) }

-- what one statement adds, behind so many statements, loops and bytes
record Adds (n : ℕ) (inside : Bool) (before loops_before m : ℕ) (t : Statement) (after loops_after k : ℕ) : Type 0 where
  is : before + count t ≡ after
  few : after ≤ 4096
  depths : deepest_in t ≤ 64
  blocks : block_depth t ≤ n
  loops : Numbered loops_before (loop_numbers t) loops_after
  readable : is_readable_statement t ≡ true
  single : inside ≡ true → has_parallel t ≡ false
  few_nodes : statement_nodes t + m ≤ k

abbrev and_one : Block → Stmt → ℕ → ℕ → Awaited → Block
and_one c s after loops_after a = record { stmts = c.stmts ++ s ∷ []; count = after; loops = loops_after; awaited = a }

added : (n : ℕ) (inside : Bool) (before loops_before m : ℕ) (c : Block) (i : ℕ) (s : Stmt) (t : Statement) (after loops_after : ℕ) (a : Awaited) (k : ℕ) → stmt_tree s ≡ t →
    Well n inside before loops_before m c i → Adds n inside c.count c.loops i t after loops_after k → Well n inside before loops_before m (and_one c s after loops_after a) k
added n inside before loops_before m c i s t after loops_after a k is_t C A0 =
    let A : Adds n inside c.count c.loops i (stmt_tree s) after loops_after k = subst (λ (u : Statement). Adds n inside c.count c.loops i u after loops_after k) (sym is_t) A0 in
    let is_ = A.is in
    let was = C.is in
    let deep = A.depths in
    let deep_was = C.depths in
    let block = A.blocks in
    let block_was = C.blocks in
    let few_ = A.few_nodes in
    let few_was = C.few_nodes in
    record {
      is = ap (λ n. before + n) (count-append c.stmts s) ∙ omega (arith, is_, was);
      few = A.few;
      depths = subst (λ (n : ℕ). n ≤ 64) (sym (deepest-append c.stmts s)) (omega (arith, deep, deep_was));
      blocks = subst (λ (b : ℕ). b ≤ n) (sym (blocks-append c.stmts s)) (omega (arith, block, block_was));
      loops = subst (λ (v : List ℕ). Numbered loops_before v loops_after) (sym (loops-append c.stmts s)) (numbered-append _ _ loops_before c.loops loops_after C.loops A.loops);
      readable = readable-append c.stmts s C.readable A.readable;
      single = λ h. parallel-append c.stmts s (C.single h) (A.single h);
      few_nodes = subst (λ (n : ℕ). n + m ≤ k) (sym (nodes-append c.stmts s)) (omega (arith, few_, few_was));
    }

-- ---- the same step any number of times

pub holds_steps : {A : Type 0} (step : A → Grammar A) (P : A → ℕ → Type 0) → ((left : A) (k : ℕ) → P left k → Holds k (step left) P) → (left : A) (m : ℕ) → P left m → Holds m (many step left) P
holds_steps {A} step P f left m p x us sp t = holds_many (λ _. true) step P (λ left k p _. f left k p) left m p x us sp (t.0, to t.0 left x us t.1)
  where
    to : (n : ℕ) (left x : A) (us : Lexemes) → times step n left x us → times (stepping (λ _. true) step) n left x us
    to zero left x us t = t
    to (suc n) left x us (y, vs, ws, here, t, e) = (y, vs, ws, (refl, here), to n y x ws t, e)

-- ---- assignments

record SoundTarget (m : ℕ) (t : Target) (k : ℕ) : Type 0 where
  named : is_variable t.place.name ≡ true
  shallow : deepest (expr_trees t.place.subscripts) ≤ 64
  readable : are_readable (expr_trees t.place.subscripts) ≡ true
  few : nodes_of_each (expr_trees t.place.subscripts) + m < k

below_sound : (d : _) (m : ℕ) → Holds m (ge.below 256 d) (Sound d m)
unfolding ge.below
below_sound = expr_sound 255

target_sound : (m : ℕ) (x : Word) (k : ℕ) → is_variable x.name ≡ true → m < k → Holds k (g.after_target the_limits x) (SoundTarget m)
unfolding g.after_target g.indexed_target
target_sound m x k named_ more t us sp (inl (r, n)) = holds_bind k (ge.subscripts true (ge.below 256) (Some 63)) _ (SoundList (Some 63) k) (SoundTarget m)
    (subscripts_sound true (ge.below 256) (λ _. below_sound) refl (Some 63) k)
    (λ l c L. holds_gives c (element_target x l) (SoundTarget m) (let is_ = L.is in let fits_ = L.fits in let few_ = L.few in record {
      named = named_;
      shallow = omega (arith, is_, fits_);
      readable = L.readable;
      few = omega (arith, few_, more);
    })) t us sp n
target_sound m x k named_ more t us sp (inr n) = holds_gives k (scalar_target x) (SoundTarget m) (record { named = named_; shallow = omega arith; readable = refl; few = omega (arith, more) }) t us sp n

right_side_sound : (a : ℕ) → Holds a (g.right_side the_limits) (Sound (Some 63) (a + 1))
unfolding g.right_side
right_side_sound a = holds_bind a (one (marked s.Equals)) _ (λ _ b. a < b) (Sound (Some 63) (a + 1)) (holds_some a (marked s.Equals) (same s.Equals) refl (begins_mark s.Equals))
    (λ _ b more. holds_bind b (ge.expr 256 (Some 63)) _ (Sound (Some 63) b) (Sound (Some 63) (a + 1)) (expr_sound 256 (Some 63) b)
    (λ e d S. holds_bind d (one (marked s.LineEnd)) _ (λ _ z. d ≤ z) (Sound (Some 63) (a + 1)) (holds_any d _)
    (λ _ z after. holds_gives z e (Sound (Some 63) (a + 1)) (let few_ = S.few in record { is = S.is; fits = S.fits; readable = S.readable; few = omega (arith, few_, more, after) }))))

assigned_well : (n : ℕ) (inside : Bool) (before loops_before m : ℕ) (atomic : Bool) (c : Block) (t : Target) (e : Measured) (i a k : ℕ) → Well n inside before loops_before m c i → nat_le (c.count + 1) 4096 ≡ true →
    SoundTarget i t a → Sound (Some 63) (a + 1) e k → Well n inside before loops_before m (assigned atomic c t e) k
assigned_well n inside before loops_before m atomic c t e i a k C h T S =
    let is_ = S.is in
    let fits_ = S.fits in
    let few_ = S.few in
    let shallow_ = T.shallow in
    let few_t = T.few in
    added n inside before loops_before m c i (Assign t.line atomic t.place e.expr) _ (c.count + 1) c.loops _ k (tree-Assign t.line atomic t.place e.expr) C (record {
      is = refl;
      few = grind (arith, nat_tests);
      depths = omega (arith, is_, fits_, shallow_);
      blocks = omega arith;
      loops = refl;
      readable = and_true _ _ T.named (and_true _ _ T.readable S.readable);
      single = λ _. refl;
      few_nodes = omega (arith, few_, few_t);
    })

assign_to_well : (n : ℕ) (inside : Bool) (before loops_before m : ℕ) (atomic : Bool) (c : Block) (x : Word) (i k : ℕ) → Well n inside before loops_before m c i → nat_le (c.count + 1) 4096 ≡ true → is_variable x.name ≡ true → i < k →
    Holds k (g.assign_to the_limits atomic c x) (Well n inside before loops_before m)
unfolding g.assign_to
assign_to_well n inside before loops_before m atomic c x i k C h named_ more = holds_bind k (g.after_target the_limits x) _ (SoundTarget i) (Well n inside before loops_before m) (target_sound i x k named_ more)
    (λ t a T. holds_bind a (g.right_side the_limits) _ (Sound (Some 63) (a + 1)) (Well n inside before loops_before m) (right_side_sound a)
    (λ e z S. holds_gives z (assigned atomic c t e) (Well n inside before loops_before m) (assigned_well n inside before loops_before m atomic c t e i a z C h T S)))

pub named_some : (m : ℕ) → Holds m (one name) (λ x k. (is_variable x.name ≡ true) × (m < k))
named_some m = holds_both m (one name) (λ x k. is_variable x.name ≡ true) (λ x k. m < k) (holds_name m) (holds_some m name names refl begins_name)

assign_well : (n : ℕ) (inside : Bool) (before loops_before m : ℕ) (atomic : Bool) (c : Block) (i : ℕ) → Well n inside before loops_before m c i → nat_le (c.count + 1) 4096 ≡ true → Holds i (g.assign the_limits atomic c) (Well n inside before loops_before m)
unfolding g.assign
assign_well n inside before loops_before m atomic c i C h = holds_bind i (one name) _ (λ x k. (is_variable x.name ≡ true) × (i < k)) (Well n inside before loops_before m) (named_some i)
    (λ x k N. assign_to_well n inside before loops_before m atomic c x i k C h N.0 N.1)

plain_is : (a : Symbol) → plain_names a ≡ true → names a ≡ true
plain_is a h = and_first _ _ h

cond_is : (b : Bool) (a x : Word) → cond b (Some a) None ≡ Some x → (b ≡ true) × (a ≡ x)
cond_is true a x h = (refl, cc)
cond_is false a x h = cc

-- a name that isn't `then`, and that word
pub plain_sound : (m : ℕ) → Holds m (one plain_name) (λ x k. (is_variable x.name ≡ true) × (m < k))
plain_sound m x us sp n =
    let both = cond_is (on plain_names n.0) (word_of n.0) x n.1 in
    named_some m x us sp (n.0, ap (λ b. cond b (Some (word_of n.0)) None) (plain_is (symbol_of n.0) both.0) ∙ ap (λ (w : Word). Some w) both.1, n.2)

pub then_sound : (m : ℕ) → Holds m (one then_word) (λ x k. (is_variable x.name ≡ true) × (m < k))
then_sound m x us sp n =
    let both = cond_is (is s.Then n.0) (word_of n.0) x n.1 in
    named_some m x us sp (n.0, ap (λ b. cond b (Some (word_of n.0)) None) (ap names (same_is s.Then (symbol_of n.0) both.0)) ∙ ap (λ (w : Word). Some w) both.1, n.2)

-- ---- first lines of loops

record SoundLine (m : ℕ) (h : LoopLine) (k : ℕ) : Type 0 where
  named : is_variable h.var ≡ true
  shallow : max (max (depth (expr_tree h.first)) (depth (expr_tree h.last))) (step_depth (step_tree h.step)) ≤ 64
  first : is_readable (expr_tree h.first) ≡ true
  last : is_readable (expr_tree h.last) ≡ true
  step : is_readable_step (step_tree h.step) ≡ true
  few : nodes (expr_tree h.first) + nodes (expr_tree h.last) + step_nodes (step_tree h.step) + m < k

record SoundStep (m : ℕ) (e : Option Expr) (k : ℕ) : Type 0 where
  shallow : step_depth (step_tree e) ≤ 64
  readable : is_readable_step (step_tree e) ≡ true
  few : step_nodes (step_tree e) + m ≤ k

step_sound : (m : ℕ) → Holds m (g.loop_step the_limits) (SoundStep m)
unfolding g.loop_step
step_sound m e us sp (inl n) = holds_bind m (one (marked s.Comma)) _ (λ _ a. m ≤ a) (SoundStep m) (holds_any m _)
    (λ _ a more. holds_bind a (ge.expr 256 (Some 63)) _ (Sound (Some 63) a) (SoundStep m) (expr_sound 256 (Some 63) a)
    (λ x k S. holds_gives k (Some x.expr) (SoundStep m) (let is_ = S.is in let fits_ = S.fits in let few_ = S.few in record { shallow = omega (arith, is_, fits_); readable = S.readable; few = omega (arith, few_, more) }))) e us sp n
step_sound m e us sp (inr n) = holds_gives m None (SoundStep m) (record { shallow = omega arith; readable = refl; few = omega arith }) e us sp n

first_sound : (m : ℕ) → Holds m (g.first_bound the_limits) (Sound (Some 63) m)
unfolding g.first_bound
first_sound m = holds_bind m (ge.expr 256 (Some 63)) _ (Sound (Some 63) m) (Sound (Some 63) m) (expr_sound 256 (Some 63) m)
    (λ e a S. holds_bind a (one (marked s.Comma)) _ (λ _ b. a ≤ b) (Sound (Some 63) m) (holds_any a _)
    (λ _ b more. holds_gives b e (Sound (Some 63) m) (let few_ = S.few in record { is = S.is; fits = S.fits; readable = S.readable; few = omega (arith, few_, more) })))

abbrev pub LoopNamed : ℕ → ℕ × Word → ℕ → Type 0
LoopNamed m x k = (is_variable x.1.name ≡ true) × (m < k)

pub loop_name_sound : (m : ℕ) → Holds m g.loop_name (LoopNamed m)
unfolding g.loop_name
loop_name_sound m = holds_bind m (one (marked s.Do)) _ (λ _ a. m ≤ a) (LoopNamed m) (holds_any m _)
    (λ line a more. holds_bind a (one name) _ (λ x k. (is_variable x.name ≡ true) × (a < k)) (LoopNamed m) (named_some a)
    (λ x b N. holds_bind b (one (marked s.Equals)) _ (λ _ k. b ≤ k) (LoopNamed m) (holds_any b _)
    (λ _ k after. holds_gives k (line, x) (LoopNamed m) (N.0, let less = N.1 in omega (arith, more, less, after)))))

line_sound : (m : ℕ) → Holds m (g.loop_line the_limits) (SoundLine m)
unfolding g.loop_line
line_sound m = holds_bind m g.loop_name _ (LoopNamed m) (SoundLine m) (loop_name_sound m)
    (λ x a N. holds_bind a (g.first_bound the_limits) _ (Sound (Some 63) a) (SoundLine m) (first_sound a)
    (λ first b A. holds_bind b (ge.expr 256 (Some 63)) _ (Sound (Some 63) b) (SoundLine m) (expr_sound 256 (Some 63) b)
    (λ last d B. holds_bind d (g.loop_step the_limits) _ (SoundStep d) (SoundLine m) (step_sound d)
    (λ step e S. holds_bind e (one (marked s.LineEnd)) _ (λ _ k. e ≤ k) (SoundLine m) (holds_any e _)
    (λ _ k after. holds_gives k (loop_line_of x first last step) (SoundLine m)
    (let a_is = A.is in let a_fits = A.fits in let a_few = A.few in let b_is = B.is in let b_fits = B.fits in let b_few = B.few in let s_low = S.shallow in let s_few = S.few in let less = N.1 in record {
      named = N.0;
      shallow = omega (arith, a_is, a_fits, b_is, b_fits, s_low);
      first = A.readable;
      last = B.readable;
      step = S.readable;
      few = omega (arith, a_few, b_few, s_few, less, after);
    }))))))

-- ---- conditions of Ifs

-- with a byte for the arm
guard_sound : (m : ℕ) → Holds m (g.guard the_limits) (SoundCond (Some 62) (m + 1))
unfolding g.guard
guard_sound m = holds_bind m (one (marked s.Open)) _ (λ _ a. m < a) (SoundCond (Some 62) (m + 1)) (holds_some m (marked s.Open) (same s.Open) refl (begins_mark s.Open))
    (λ _ a more. holds_bind a (gc.cond 255 (Some 62)) _ (SoundCond (Some 62) a) (SoundCond (Some 62) (m + 1)) (cond_sound 255 (Some 62) a)
    (λ c b S. holds_bind b (one (marked s.Close)) _ (λ _ k. b ≤ k) (SoundCond (Some 62) (m + 1)) (holds_any b _)
    (λ _ k after. holds_gives k c (SoundCond (Some 62) (m + 1)) (let few_ = S.few in record { is = S.is; fits = S.fits; readable = S.readable; few = omega (arith, few_, more, after) }))))

-- ---- directives

spelled_too : (us : Lexemes) → AllSpelled us → AllSpelledToo us
spelled_too [] sp = tt
spelled_too (t ∷ us) sp = (sp.0, spelled_too us sp.1)

pub clauses_readable : (line m : ℕ) → Holds m (omp.parallel_do true line) (λ d k. (has_readable_clauses d ≡ true) × (m ≤ k))
clauses_readable line m = holds_both m (omp.parallel_do true line) (λ d k. has_readable_clauses d ≡ true) (λ d k. m ≤ k) (λ d us sp n. holds_parallel line d us (spelled_too us sp) n) (holds_any m _)

-- what stands in an If, behind a count and numbers of loops, from m on
record WellBranch (n : ℕ) (inside : Bool) (before loops_before m : ℕ) (b : Branch) (k : ℕ) : Type 0 where
  is : before + (count_arms (arm_trees b.arms) + count_all (stmt_trees b.other)) ≡ b.count
  few : b.count ≤ 4096
  depths : max (deepest_in_arms (arm_trees b.arms)) (deepest_in_all (stmt_trees b.other)) ≤ 64
  blocks : max (block_depth_of_arms (arm_trees b.arms)) (block_depth_of_all (stmt_trees b.other)) ≤ n
  loops : Numbered loops_before (loop_numbers_of_arms (arm_trees b.arms) ++ loop_numbers_of_all (stmt_trees b.other)) b.loops
  some : has_arm (arm_trees b.arms) ≡ true
  arms : are_readable_arms (arm_trees b.arms) ≡ true
  other : are_readable_statements (stmt_trees b.other) ≡ true
  single : inside ≡ true → (has_parallel_in_arms (arm_trees b.arms) || has_parallel_in (stmt_trees b.other)) ≡ false
  open_ : b.closed ≡ false → b.other ≡ []
  few_nodes : arm_nodes (arm_trees b.arms) + nodes_of_all (stmt_trees b.other) + m ≤ k

to_end : (xs : List ℕ) → xs ++ [] ≡ xs
to_end [] = refl
to_end (x ∷ xs) = ap (λ v. x ∷ v) (to_end xs)

or_first : (a b : Bool) → (a || b) ≡ false → a ≡ false
or_first true b e = e
or_first false b e = refl

-- an If with one arm
first_well : (n : ℕ) (inside : Bool) (before loops_before m : ℕ) (line : ℕ) (test : Judged) (body : Block) (a e k : ℕ) → SoundCond (Some 62) (m + 1) test a → a ≤ e → Well n inside before loops_before e body k →
    WellBranch n inside before loops_before m (first_branch line test.cond body) k
first_well n inside before loops_before m line test body a e k T more B =
    let r = arm_of test.cond body.stmts in
    let t_is = T.is in
    let t_fits = T.fits in
    let t_few = T.few in
    let b_deep = B.depths in
    let b_block = B.blocks in
    let b_few = B.few_nodes in
    let counted = arms-count [] r in
    let deep = arms-deepest [] r in
    let block = arms-blocks [] r in
    let sizes = arms-nodes [] r in
    record {
      is = ap (λ n. before + (n + 0)) counted ∙ omega (arith, B.is);
      few = B.few;
      depths = omega (arith, deep, t_is, t_fits, b_deep);
      blocks = omega (arith, block, b_block);
      loops = subst (λ (v : List ℕ). Numbered loops_before v body.loops) (sym (to_end (loop_numbers_of_arms (arm_trees (r ∷ []))) ∙ arms-loops [] r)) B.loops;
      some = refl;
      arms = arms-readable [] r refl T.readable B.readable;
      other = refl;
      single = λ h. both_false _ _ (arms-parallel [] r refl (B.single h)) refl;
      open_ = λ _. refl;
      few_nodes = omega (arith, sizes, t_few, b_few, more);
    }

-- one arm more
arm_well : (n : ℕ) (inside : Bool) (before loops_before m : ℕ) (b : Branch) (test : Judged) (body : Block) (i a e k : ℕ) → WellBranch n inside before loops_before m b i → b.other ≡ [] → SoundCond (Some 62) (i + 1) test a → a ≤ e →
    Well n inside b.count b.loops e body k → WellBranch n inside before loops_before m (with_arm b test.cond body) k
arm_well n inside before loops_before m b test body i a e k R none T more B =
    let r = arm_of test.cond body.stmts in
    let t_is = T.is in
    let t_fits = T.fits in
    let t_few = T.few in
    let b_is = B.is in
    let b_deep = B.depths in
    let b_block = B.blocks in
    let b_few = B.few_nodes in
    let r_is = R.is in
    let r_deep = R.depths in
    let r_block = R.blocks in
    let r_few = R.few_nodes in
    let counted = arms-count b.arms r in
    let deep = arms-deepest b.arms r in
    let block = arms-blocks b.arms r in
    let sizes = arms-nodes b.arms r in
    let nothing : count_all (stmt_trees b.other) ≡ 0 = ap (λ v. count_all (stmt_trees v)) none in
    record {
      is = omega (arith, counted, b_is, r_is, nothing);
      few = B.few;
      depths = omega (arith, deep, t_is, t_fits, b_deep, r_deep);
      blocks = omega (arith, block, b_block, r_block);
      loops = subst (λ (v : List Stmt). Numbered loops_before (loop_numbers_of_arms (arm_trees (b.arms ++ r ∷ [])) ++ loop_numbers_of_all (stmt_trees v)) body.loops) (sym none)
          (subst (λ (v : List ℕ). Numbered loops_before v body.loops) (sym (to_end (loop_numbers_of_arms (arm_trees (b.arms ++ r ∷ []))) ∙ arms-loops b.arms r))
          (numbered-append _ _ loops_before b.loops body.loops (subst (λ (v : List ℕ). Numbered loops_before v b.loops) (to_end (loop_numbers_of_arms (arm_trees b.arms)))
          (subst (λ (v : List Stmt). Numbered loops_before (loop_numbers_of_arms (arm_trees b.arms) ++ loop_numbers_of_all (stmt_trees v)) b.loops) none R.loops)) B.loops));
      some = arms-some b.arms r;
      arms = arms-readable b.arms r R.arms T.readable B.readable;
      other = R.other;
      single = λ h. both_false _ _ (arms-parallel b.arms r (or_first _ _ (R.single h)) (B.single h)) (ap (λ v. has_parallel_in (stmt_trees v)) none);
      open_ = λ _. none;
      few_nodes = omega (arith, sizes, t_few, b_few, r_few, more);
    }

-- the statements behind `else`
other_well : (n : ℕ) (inside : Bool) (before loops_before m : ℕ) (b : Branch) (body : Block) (i a k : ℕ) → WellBranch n inside before loops_before m b i → b.other ≡ [] → i ≤ a →
    Well n inside b.count b.loops a body k → WellBranch n inside before loops_before m (with_other b body) k
other_well n inside before loops_before m b body i a k R none more B =
    let b_is = B.is in
    let b_deep = B.depths in
    let b_block = B.blocks in
    let b_few = B.few_nodes in
    let r_is = R.is in
    let r_deep = R.depths in
    let r_block = R.blocks in
    let r_few = R.few_nodes in
    let nothing : count_all (stmt_trees b.other) ≡ 0 = ap (λ v. count_all (stmt_trees v)) none in
    record {
      is = omega (arith, b_is, r_is, nothing);
      few = B.few;
      depths = omega (arith, b_deep, r_deep);
      blocks = omega (arith, b_block, r_block);
      loops = numbered-append _ _ loops_before b.loops body.loops (subst (λ (v : List ℕ). Numbered loops_before v b.loops) (to_end (loop_numbers_of_arms (arm_trees b.arms)))
          (subst (λ (v : List Stmt). Numbered loops_before (loop_numbers_of_arms (arm_trees b.arms) ++ loop_numbers_of_all (stmt_trees v)) b.loops) none R.loops)) B.loops;
      some = R.some;
      arms = R.arms;
      other = B.readable;
      single = λ h. both_false _ _ (or_first _ _ (R.single h)) (B.single h);
      open_ = λ closed. absurd (wrong closed);
      few_nodes = omega (arith, b_few, r_few, more);
    }
  where
    wrong : true ≡ false → ⊥
    wrong e = cc

longer_branch : (n : ℕ) (inside : Bool) (before loops_before m : ℕ) (b : Branch) (a k : ℕ) → a ≤ k → WellBranch n inside before loops_before m b a → WellBranch n inside before loops_before m b k
longer_branch n inside before loops_before m b a k h R = let few_ = R.few_nodes in record {
  is = R.is;
  few = R.few;
  depths = R.depths;
  blocks = R.blocks;
  loops = R.loops;
  some = R.some;
  arms = R.arms;
  other = R.other;
  single = R.single;
  open_ = R.open_;
  few_nodes = omega (arith, few_, h);
}

branched_well : (outer n : ℕ) (inside : Bool) (before loops_before m : ℕ) (c : Block) (b : Branch) (i j k : ℕ) → n + 1 ≤ outer → Well outer inside before loops_before m c i → i < j → WellBranch n inside (c.count + 1) c.loops j b k →
    Well outer inside before loops_before m (branched c b) k
branched_well outer n inside before loops_before m c b i j k deeper C more R =
    let r_is = R.is in
    let r_deep = R.depths in
    let r_block = R.blocks in
    let r_few = R.few_nodes in
    added outer inside before loops_before m c i (If b.line b.arms b.other) _ b.count b.loops Nothing k (tree-If b.line b.arms b.other) C (record {
      is = omega (arith, r_is);
      few = R.few;
      depths = r_deep;
      blocks = omega (arith, r_block, deeper);
      loops = R.loops;
      readable = and_true _ _ R.some (and_true _ _ R.arms R.other);
      single = R.single;
      few_nodes = omega (arith, r_few, more);
    })

record SoundParts (n : ℕ) (within_ : Bool) (count_ loops_ m : ℕ) (p : LoopParts) (k : ℕ) : Type 0 where
  at : ℕ
  line : SoundLine m p.head at
  body : Well n within_ (count_ + 1) (loops_ + 1) at p.body k

looped_well : (outer n : ℕ) (inside within_ : Bool) (before loops_before m : ℕ) (c : Block) (d : Option Directive) (p : LoopParts) (i j k : ℕ) → n + 1 ≤ outer → Well outer inside before loops_before m c i → i ≤ j →
    is_readable_directive d ≡ true → (is_parallel d && has_parallel_in (stmt_trees p.body.stmts)) ≡ false → (inside ≡ true → (is_parallel d || has_parallel_in (stmt_trees p.body.stmts)) ≡ false) →
    SoundParts n within_ c.count c.loops j p k → Well outer inside before loops_before m (looped c d p) k
looped_well outer n inside within_ before loops_before m c d p i j k deeper C more readable_ quiet alone P =
    let h = p.head in
    let b_is = P.body.is in
    let b_deep = P.body.depths in
    let b_block = P.body.blocks in
    let b_few = P.body.few_nodes in
    let l_deep = P.line.shallow in
    let l_few = P.line.few in
    let next : c.loops + 1 ≡ suc c.loops = omega arith in
    added outer inside before loops_before m c i (Do h.line (c.loops + 1) d h.var h.first h.last h.step p.body.stmts) _ p.body.count p.body.loops _ k (tree-Do h.line (c.loops + 1) d h.var h.first h.last h.step p.body.stmts) C (record {
      is = omega (arith, b_is);
      few = P.body.few;
      depths = omega (arith, b_deep, l_deep);
      blocks = omega (arith, b_block, deeper);
      loops = (next, subst (λ (v : ℕ). Numbered v (loop_numbers_of_all (stmt_trees p.body.stmts)) p.body.loops) next P.body.loops);
      readable = and_true _ _ readable_ (and_true _ _ (ap not quiet) (and_true _ _ P.line.named (and_true _ _ P.line.first (and_true _ _ P.line.last (and_true _ _ P.line.step P.body.readable)))));
      single = alone;
      few_nodes = omega (arith, b_few, l_few, more);
    })

is_few : (a : ℕ) → nat_le (a + 1) 4096 ≡ true → a + 1 ≤ 4096
is_few a h = grind (arith, nat_tests)

one_less : (a : ℕ) → nat_le (a + 2) 4096 ≡ true → nat_le (a + 1 + 1) 4096 ≡ true
one_less a h = grind (arith, nat_tests)

module _ (may : Bool) (outer n : ℕ) (deeper : may ≡ true → n + 1 ≤ outer) (ig : Bool → Block → Grammar Block)
    (inner : may ≡ true → (within_ : Bool) (count_ loops_ k : ℕ) → count_ ≤ 4096 → Holds k (ig within_ (block_from count_ loops_)) (Well n within_ count_ loops_ k)) (inside : Bool) where
  parts_sound : may ≡ true → (within_ : Bool) (count_ loops_ m : ℕ) → count_ + 1 ≤ 4096 → Holds m (g.loop_parts the_limits may ig inside within_ count_ loops_) (SoundParts n within_ count_ loops_ m)
  unfolding g.loop_parts
  parts_sound so within_ count_ loops_ m h = holds_bind m (g.loop_line the_limits) _ (SoundLine m) (SoundParts n within_ count_ loops_ m) (line_sound m)
      (λ line a L. holds_bind a (ig within_ (block_from (count_ + 1) (loops_ + 1))) _ (Well n within_ (count_ + 1) (loops_ + 1) a) (SoundParts n within_ count_ loops_ m) (inner so within_ (count_ + 1) (loops_ + 1) a h)
      (λ body b B. holds_bind b g.end_do _ (λ _ k. b ≤ k) (SoundParts n within_ count_ loops_ m) (holds_any b _)
      (λ _ k after. holds_gives k (parts_of line body) (SoundParts n within_ count_ loops_ m) (record { at = a; line = L; body = longer n within_ (count_ + 1) (loops_ + 1) a body b k after B }))))

  module _ (before loops_before m : ℕ) (c : Block) (i : ℕ) (C : Well outer inside before loops_before m c i) where
    abbrev Fine : Block → ℕ → Type 0
    Fine = Well outer inside before loops_before m

    do_well : may ≡ true → nat_le (c.count + 1) 4096 ≡ true → Holds i (g.do_stmt the_limits may ig inside c) Fine
    unfolding g.do_stmt
    do_well so h = holds_bind i (g.loop_parts the_limits may ig inside inside c.count c.loops) _ (SoundParts n inside c.count c.loops i) Fine (parts_sound so inside c.count c.loops i (is_few c.count h))
        (λ q k P. holds_gives k (looped c None q) Fine (looped_well outer n inside inside before loops_before m c None q i i k (deeper so) C (omega arith) refl refl P.body.single P))

    parallel_well : not inside ≡ true → may ≡ true → nat_le (c.count + 1) 4096 ≡ true → (line j : ℕ) → i ≤ j → Holds j (g.parallel the_limits may ig inside c line) Fine
    unfolding g.parallel
    parallel_well out so h line j more = holds_bind j (omp.parallel_do true line) _ (λ d k. (has_readable_clauses d ≡ true) × (j ≤ k)) Fine (clauses_readable line j)
        (λ d a D. holds_bind a (g.loop_parts the_limits may ig inside true c.count c.loops) _ (SoundParts n true c.count c.loops a) Fine (parts_sound so true c.count c.loops a (is_few c.count h))
        (λ q k P. holds_gives k (looped c (Some d) q) Fine (looped_well outer n inside true before loops_before m c (Some d) q i a k (deeper so) C (let less = D.1 in omega (arith, more, less)) D.0 (P.body.single refl) (λ is_in. absurd (wrong inside is_in out)) P)))
      where
        wrong : (b : Bool) → b ≡ true → not b ≡ true → ⊥
        wrong true e f = cc
        wrong false e f = cc

    atomic_well : nat_le (c.count + 1) 4096 ≡ true → (j : ℕ) → i ≤ j → Holds j (g.atomic the_limits may ig inside c) Fine
    unfolding g.atomic
    atomic_well h j more = holds_bind j omp.atomic _ (λ _ a. j ≤ a) Fine (holds_any j _)
        (λ _ a less. assign_well outer inside before loops_before m true c a (longer outer inside before loops_before m c i a (omega (arith, more, less)) C) h)

    ended_well : (k : ℕ) → i ≤ k → Fine (ended c) k
    ended_well k more = let few_ = C.few_nodes in record { is = C.is; few = C.few; depths = C.depths; blocks = C.blocks; loops = C.loops; readable = C.readable; single = C.single; few_nodes = omega (arith, few_, more) }

    ending_well : (a : Awaited) (j : ℕ) → i ≤ j → Holds j (g.ending the_limits may ig inside a c) Fine
    unfolding g.end_loop g.end_atomic
    ending_well Nothing j more = λ x us sp n. absurd n
    ending_well LoopEnd j more = holds_bind j (one (marked s.End)) _ (λ _ a. j ≤ a) Fine (holds_any j _)
        (λ _ a less. holds_bind a omp.end_parallel_do _ (λ _ b. a ≤ b) Fine (holds_any a _) (λ _ b after. holds_gives b (ended c) Fine (ended_well b (omega (arith, more, less, after)))))
    ending_well AtomicEnd j more = holds_bind j (one (marked s.End)) _ (λ _ a. j ≤ a) Fine (holds_any j _)
        (λ _ a less. holds_bind a omp.end_atomic _ (λ _ b. a ≤ b) Fine (holds_any a _) (λ _ b after. holds_gives b (ended c) Fine (ended_well b (omega (arith, more, less, after)))))

    directive_well : Holds i (g.directive the_limits may ig inside c) Fine
    unfolding g.directive g.after_sentinel
    directive_well = holds_bind i (one (marked s.Sentinel)) _ (λ _ a. i ≤ a) Fine (holds_any i _) (λ line j more. λ x us sp n. by line j more x us sp n)
      where
        by : (line j : ℕ) → i ≤ j → Holds j (g.after_sentinel the_limits may ig inside c line) Fine
        by line j more x us sp (inl n) = parallel_well n.0 n.1.0 n.1.1.0 line j more x us sp n.1.1.1
        by line j more x us sp (inr (inl n)) = atomic_well n.0 j more x us sp n.1
        by line j more x us sp (inr (inr n)) = ending_well c.awaited j more x us sp n

    -- ---- Ifs

    one_line_well : may ≡ true → nat_le (c.count + 2) 4096 ≡ true → (line : ℕ) (test : Judged) (x : Word) (j a k : ℕ) → i < j → SoundCond (Some 62) (j + 1) test a → is_variable x.name ≡ true → a < k →
        Holds k (g.conditional the_limits c line test x) Fine
    unfolding g.conditional
    one_line_well so h line test x j a k more T named_ less = holds_bind k (g.assign_to the_limits false (block_from (c.count + 1) c.loops) x) _ (Well n inside (c.count + 1) c.loops a) Fine
        (assign_to_well n inside (c.count + 1) c.loops a false (block_from (c.count + 1) c.loops) x a k (none_well n inside (c.count + 1) c.loops a (room c.count h)) (one_less c.count h) named_ less)
        (λ body e B. holds_gives e (branched c (first_branch line test.cond body)) Fine
        (branched_well outer n inside before loops_before m c (first_branch line test.cond body) i j e (deeper so) C more (first_well n inside (c.count + 1) c.loops j line test body a a e T (omega arith) B)))
      where
        room : (b : ℕ) → nat_le (b + 2) 4096 ≡ true → b + 1 ≤ 4096
        room b h = grind (arith, nat_tests)

    abbrev FineBranch : ℕ → Branch → ℕ → Type 0
    FineBranch j = WellBranch n inside (c.count + 1) c.loops j

    first_arm_well : may ≡ true → nat_le (c.count + 1) 4096 ≡ true → (line : ℕ) (test : Judged) (j a k : ℕ) → SoundCond (Some 62) (j + 1) test a → a ≤ k → Holds k (g.first_arm the_limits may ig inside c.count c.loops line test) (FineBranch j)
    unfolding g.first_arm
    first_arm_well so h line test j a k T less = holds_bind k (one (marked s.LineEnd)) _ (λ _ e. k ≤ e) (FineBranch j) (holds_any k _)
        (λ _ e after. holds_bind e (ig inside (block_from (c.count + 1) c.loops)) _ (Well n inside (c.count + 1) c.loops e) (FineBranch j) (inner so inside (c.count + 1) c.loops e (is_few c.count h))
        (λ body z B. holds_gives z (first_branch line test.cond body) (FineBranch j) (first_well n inside (c.count + 1) c.loops j line test body a e z T (omega (arith, less, after)) B)))

    arms_well : may ≡ true → (j : ℕ) (b : Branch) (k z : ℕ) → FineBranch j b k → k ≤ z → b.other ≡ [] → Holds z (g.another_arm the_limits may ig inside b) (FineBranch j)
    unfolding g.another_arm
    arms_well so j b k z R more none = holds_bind z (g.guard the_limits) _ (SoundCond (Some 62) (z + 1)) (FineBranch j) (guard_sound z)
        (λ test a T. holds_bind a (one (marked s.Then)) _ (λ _ e. a ≤ e) (FineBranch j) (holds_any a _)
        (λ _ e less. holds_bind e (one (marked s.LineEnd)) _ (λ _ f. e ≤ f) (FineBranch j) (holds_any e _)
        (λ _ f after. holds_bind f (ig inside (block_from b.count b.loops)) _ (Well n inside b.count b.loops f) (FineBranch j) (inner so inside b.count b.loops f R.few)
        (λ body y B. holds_gives y (with_arm b test.cond body) (FineBranch j) (arm_well n inside (c.count + 1) c.loops j b test body z a f y (longer_branch n inside (c.count + 1) c.loops j b k z more R) none T (omega (arith, less, after)) B)))))

    last_well : may ≡ true → (j : ℕ) (b : Branch) (k z : ℕ) → FineBranch j b k → k ≤ z → b.other ≡ [] → Holds z (g.last_part the_limits may ig inside b) (FineBranch j)
    unfolding g.last_part
    last_well so j b k z R more none = holds_bind z (one (marked s.LineEnd)) _ (λ _ e. z ≤ e) (FineBranch j) (holds_any z _)
        (λ _ e less. holds_bind e (ig inside (block_from b.count b.loops)) _ (Well n inside b.count b.loops e) (FineBranch j) (inner so inside b.count b.loops e R.few)
        (λ body y B. holds_gives y (with_other b body) (FineBranch j) (other_well n inside (c.count + 1) c.loops j b body k e y R none (omega (arith, more, less)) B)))

    part_well : may ≡ true → (j : ℕ) (b : Branch) (k : ℕ) → FineBranch j b k → not b.closed ≡ true → Holds k (g.part the_limits may ig inside b) (FineBranch j)
    unfolding g.part g.after_else
    part_well so j b k R opened x us sp (inl u) = holds_bind k (one (marked s.ElseIf)) _ (λ _ z. k ≤ z) (FineBranch j) (holds_any k _) (λ _ z more. arms_well so j b k z R more (R.open_ (unclosed b.closed opened))) x us sp u
      where
        unclosed : (v : Bool) → not v ≡ true → v ≡ false
        unclosed true e = cc
        unclosed false e = refl
    part_well so j b k R opened x us sp (inr u) = holds_bind k (one (marked s.Else)) _ (λ _ z. k ≤ z) (FineBranch j) (holds_any k _) (λ _ z more. by z more) x us sp u
      where
        unclosed : (v : Bool) → not v ≡ true → v ≡ false
        unclosed true e = cc
        unclosed false e = refl

        by : (z : ℕ) → k ≤ z → Holds z (g.after_else the_limits may ig inside b) (FineBranch j)
        by z more x us sp (inl v) = holds_bind z (one (marked s.If)) _ (λ _ y. z ≤ y) (FineBranch j) (holds_any z _) (λ _ y less. arms_well so j b k y R (omega (arith, more, less)) (R.open_ (unclosed b.closed opened))) x us sp v
        by z more x us sp (inr v) = last_well so j b k z R more (R.open_ (unclosed b.closed opened)) x us sp v

    block_if_well : may ≡ true → nat_le (c.count + 1) 4096 ≡ true → (line : ℕ) (test : Judged) (j a k : ℕ) → i < j → SoundCond (Some 62) (j + 1) test a → a ≤ k → Holds k (g.block_if the_limits may ig inside c line test) Fine
    unfolding g.block_if g.parts
    block_if_well so h line test j a k more T less = holds_bind k (g.first_arm the_limits may ig inside c.count c.loops line test) _ (FineBranch j) Fine (first_arm_well so h line test j a k T less)
        (λ b e R. holds_bind e (g.parts the_limits may ig inside b) _ (FineBranch j) Fine (holds_many (λ b. not b.closed) (g.part the_limits may ig inside) (FineBranch j) (λ b k R opened. part_well so j b k R opened) b e R)
        (λ found f Q. holds_bind f g.end_if _ (λ _ z. f ≤ z) Fine (holds_any f _)
        (λ _ z after. holds_gives z (branched c found) Fine (branched_well outer n inside before loops_before m c found i j z (deeper so) C more (longer_branch n inside (c.count + 1) c.loops j found f z after Q)))))

    after_guard_well : may ≡ true → nat_le (c.count + 1) 4096 ≡ true → (line : ℕ) (test : Judged) (j k : ℕ) → i < j → SoundCond (Some 62) (j + 1) test k → Holds k (g.after_guard the_limits may ig inside c line test) Fine
    unfolding g.after_guard g.one_line g.then_part g.after_then
    after_guard_well so h line test j k more T x us sp (inl u) = holds_bind k (one plain_name) _ (λ y z. (is_variable y.name ≡ true) × (k < z)) Fine (plain_sound k) (λ y z N. one_line_well so u.0 line test y j k z more T N.0 N.1) x us sp u.1
    after_guard_well so h line test j k more T x us sp (inr u) = holds_bind k (one then_word) _ (λ y z. (is_variable y.name ≡ true) × (k < z)) Fine (then_sound k) (λ y z N. by y z N.0 N.1) x us sp u
      where
        by : (y : Word) (z : ℕ) → is_variable y.name ≡ true → k < z → Holds z (g.after_then the_limits may ig inside c line test y) Fine
        by y z named_ less x us sp (inl v) = one_line_well so v.0 line test y j k z more T named_ less x us sp v.1
        by y z named_ less x us sp (inr v) = block_if_well so h line test j k z more T (omega (arith, less)) x us sp v

    if_well : may ≡ true → nat_le (c.count + 1) 4096 ≡ true → Holds i (g.if_stmt the_limits may ig inside c) Fine
    unfolding g.if_stmt
    if_well so h = holds_bind i (one (marked s.If)) _ (λ _ j. i < j) Fine (holds_some i (marked s.If) (same s.If) refl (begins_mark s.If))
        (λ line j more. holds_bind j (g.guard the_limits) _ (SoundCond (Some 62) (j + 1)) Fine (guard_sound j) (λ test k T. after_guard_well so h line test j k more T))

    stmt_well : Holds i (g.stmt the_limits may ig inside c) Fine
    unfolding g.stmt
    stmt_well x us sp (inl u) = assign_well outer inside before loops_before m false c i C u.0 x us sp u.1
    stmt_well x us sp (inr (inl u)) = do_well u.0 u.1.0 x us sp u.1.1
    stmt_well x us sp (inr (inr (inl u))) = if_well u.0 u.1.0 x us sp u.1.1
    stmt_well x us sp (inr (inr (inr u))) = directive_well x us sp u

  block_well : (count_ loops_ k : ℕ) → count_ ≤ 4096 → Holds k (g.block the_limits may ig inside (block_from count_ loops_)) (Well outer inside count_ loops_ k)
  unfolding g.block
  block_well count_ loops_ k h = holds_steps (g.stmt the_limits may ig inside) (Well outer inside count_ loops_ k) (λ c i C. stmt_well count_ loops_ k c i C) (block_from count_ loops_) k (none_well outer inside count_ loops_ k h)

-- Statements that are read are readable.
pub stmts_well : (n : ℕ) (inside : Bool) (count_ loops_ k : ℕ) → count_ ≤ 4096 → Holds k (g.stmts the_limits n inside (block_from count_ loops_)) (Well n inside count_ loops_ k)
unfolding g.stmts
stmts_well zero inside = block_well false 0 0 (λ no. absurd (wrong no)) _ (λ no. absurd (wrong no)) inside
  where
    wrong : false ≡ true → ⊥
    wrong e = cc
stmts_well (suc n) inside = block_well true (suc n) n (λ _. omega arith) _ (λ _ w. stmts_well n w) inside
