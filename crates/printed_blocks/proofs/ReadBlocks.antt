-- The rows of readable statements are read as them.
use Rattle.std.proofs.Common.{◌≡◌, ℕ, zero, suc, ◌+◌, ◌≤◌, max, Bool, true, false, not, ◌&&◌, ◌||◌, List, [], ◌∷◌, ◌++◌, length, map, Option, Some, None, refl, sym, ap, subst, ◌∙◌, append-nil, append_assoc, arith}
use Rattle.std.specs.Prelude.{codes, ◌==◌}
use Rattle.std.proofs.lemmas.Bool.{and_parts}
use Rattle.std.proofs.lemmas.Bool.Decides.{nat_tests}
use Rattle.tokens.specs.Lexeme.{Lexeme}
use Rattle.tokens.specs.declared.TokenKind.TheVariants.{Sentinel}
use Rattle.fl_ast.specs.declared.directive.Directive.{Directive}
use Rattle.fl_ast.specs.declared.expr.Expr.{Expr}
use Rattle.fl_ast.specs.declared.expr.Expr.TheFolds.{fold_out-Place}
use Rattle.fl_ast.specs.declared.expr.Place.{Place}
use Rattle.fl_ast.specs.declared.stmt.Arm.{Arm}
use Rattle.fl_ast.specs.declared.stmt.Stmt.{Stmt}
use Rattle.fl_ast.specs.declared.stmt.Stmt.TheVariants.{Assign, If, Do}
use Rattle.fl_ast.specs.Tree.{Expression, Designator, Condition, Statement, assignment, branch, loop, Statements, no_statements, statement, Arms, no_arms, arm, expr_level, place_level, expr_tree, expr_trees, place_tree, cond_tree, step_tree, stmt_tree, stmt_trees, arm_trees}
use Rattle.fl_ast.specs.Measures.{depth, deepest, condition_depth, step_depth, deepest_in_all, count, count_all, count_arms, loop_numbers, loop_numbers_of_all, loop_numbers_of_arms}
use Rattle.fl_ast.specs.Readable.{is_variable, is_readable, are_readable, is_readable_condition, is_readable_step, is_readable_directive, is_parallel, has_parallel_in, are_readable_statements, counts_up_from}
use Rattle.parsing.specs.Reading.{Lexemes}
use Rattle.fl_statements.specs.declared.block.Block.{Block}
use Rattle.fl_statements.specs.declared.branch.Branch.{Branch}
use Rattle.fl_statements.specs.Trees.{block_from, assigned, parts_of, looped}
use Rattle.fl_statements.specs.Branches.{arm_of, first_branch, with_other, branched}
use Rattle.fl_statements.specs.StmtGrammar as g
use Rattle.fl_statements.proofs.Adding.{tree-Assign, tree-Do, tree-If, tree-Arm}
use Rattle.fl_lexer.specs.Printing.{lexical}
use Rattle.fl_printer.specs.Words.{joined, apart}
use Rattle.fl_printer.specs.Rows.{assign_words, variable_words, bounds_words, parallel_words, end_words, test_words, end_row, statement_rows, else_rows, block_rows, arm_rows}
use Rattle.fl_printer.specs.Lexemes.{unplaced, words_lexemes, end_lexeme, rows_lexemes}
use Rattle.fl_printer.proofs.Tokens.{Calm, Wordy}
use Rattle.fl_printer.proofs.Flow.{any, stop, name_step}
use Rattle.fl_printer.proofs.Units.{word}
use Rattle.printed_clauses.specs.Placed.{at_line}
use Rattle.printed_clauses.proofs.ReadDirectives.{directives_read, end_read}
use Rattle.printed_statements.specs.Lines.{HasLoopLine, IsGuard}
use Rattle.printed_statements.proofs.ReadLines.{assignments_read, loops_read}
use Rattle.printed_blocks.specs.Unlined.{unlined, unlined_all, unlined_arms, unlined_directive}
use Rattle.printed_blocks.specs.Blocks.{AreBlock}
use Rattle.printed_blocks.proofs.Cut.{cut, cut_one, cut_none, cut_rows, cut_row, last_row}
use Rattle.printed_blocks.proofs.Fit.{size, size_of_all, size_of_arms, both, Fit, left, right, room, within, untested}
use Rattle.printed_blocks.proofs.Marks.{if_read, else_read, then_read, then_word_read, atomic_read, sentinel_read}
use Rattle.printed_blocks.proofs.ReadEnds.{end_do_read, end_if_read, only_word, first_test, later_test}
use Rattle.printed_blocks.proofs.Steps.{one_of, no_more, one_more, plain_assign, atomic_assign, plain_loop, parallel_loop, Leads, no_part, leads_on, next_arm, the_else, the_if}

-- the lexemes are one statement more
record IsOne (n : ℕ) (inside : Bool) (c : Block) (us : Lexemes) (t : Statement) : Type 0 where
  behind : Block
  new : Stmt
  added : behind.stmts ≡ c.stmts ++ new ∷ []
  tree : unlined (stmt_tree new) ≡ unlined t
  counted : behind.count ≡ c.count + count t
  numbered : behind.loops ≡ c.loops + length (loop_numbers t)
  reads : one_of n inside c behind us

-- an If whose `else` isn't read
abbrev opened : ℕ → List Arm → ℕ → ℕ → Branch
opened line arms statements loops = record { line = line; arms = arms; other = []; closed = false; count = statements; loops = loops }

-- the lexemes are arms more
record AreArms (m : ℕ) (inside : Bool) (line : ℕ) (before : List Arm) (at from : ℕ) (us : Lexemes) (as_ : Arms) : Type 0 where
  all : List Arm
  news : List Arm
  to : ℕ
  until : ℕ
  added : all ≡ before ++ news
  trees : unlined_arms (arm_trees news) ≡ unlined_arms as_
  counted : to ≡ at + count_arms as_
  numbered : until ≡ from + length (loop_numbers_of_arms as_)
  reads : Leads m inside (opened line before at from) (opened line all to until) us

-- and an `else` more, where there is one
record IsElse (m : ℕ) (inside : Bool) (line : ℕ) (arms : List Arm) (at from : ℕ) (us : Lexemes) (ss : Statements) : Type 0 where
  found : Branch
  is_line : found.line ≡ line
  is_arms : found.arms ≡ arms
  trees : unlined_all (stmt_trees found.other) ≡ unlined_all ss
  counted : found.count ≡ at + count_all ss
  numbered : found.loops ≡ from + length (loop_numbers_of_all ss)
  reads : Leads m inside (opened line arms at from) found us

abbrev OneReads : Statement → Type 0
OneReads t = (n margin : ℕ) (inside : Bool) (c : Block) (us : Lexemes) → Fit (size t) n inside c.count c.loops → map unplaced us ≡ rows_lexemes (statement_rows margin t) → IsOne n inside c us t

abbrev AllRead : Statements → Type 0
AllRead ss = (n margin : ℕ) (inside : Bool) (c : Block) (us : Lexemes) → Fit (size_of_all ss) n inside c.count c.loops → map unplaced us ≡ rows_lexemes (block_rows margin ss) → AreBlock n inside c us ss

abbrev ArmsRead : Arms → Type 0
ArmsRead as_ = (m margin : ℕ) (inside : Bool) (line : ℕ) (before : List Arm) (at from : ℕ) (us : Lexemes) → Fit (size_of_arms as_) m inside at from → map unplaced us ≡ rows_lexemes (arm_rows margin true as_) →
    AreArms m inside line before at from us as_

length_append : (xs ys : List ℕ) → length (xs ++ ys) ≡ length xs + length ys
length_append [] ys = omega arith
length_append (x ∷ xs) ys = let h = length_append xs ys in omega (arith, h)

-- numbers of loops one behind the other
numbers_on : (a b c : ℕ) (xs ys : List ℕ) → b ≡ a + length xs → c ≡ b + length ys → c ≡ a + length (xs ++ ys)
numbers_on a b c xs ys e f = let g = length_append xs ys in omega (arith, e, f, g)

-- ---- lists

none_case : AllRead no_statements
none_case n margin inside c us f e =
    cut_none us (λ v. AreBlock n inside c v no_statements) e
    (record { behind = c; news = []; added = sym (append-nil c.stmts); trees = refl; counted = omega arith; numbered = omega arith; reads = no_more n inside c })

statement_with : (a b : Statement) (as_ bs : Statements) → a ≡ b → as_ ≡ bs → statement a as_ ≡ statement b bs
statement_with a b as_ bs e f = ap (λ x. statement x as_) e ∙ ap (λ x. statement b x) f

more_case : (t : Statement) (rest : Statements) → OneReads t → AllRead rest → AllRead (statement t rest)
more_case t rest one all n margin inside c us f e =
    cut_rows us (statement_rows margin t) (block_rows margin rest) (λ v. AreBlock n inside c v (statement t rest)) e (λ vs ws p q.
    let A = one n margin inside c vs (left (size t) (size_of_all rest) n inside c.count c.loops f) p in
    let B = all n margin inside A.behind ws (right (size t) (size_of_all rest) n inside c.count c.loops A.behind.count A.behind.loops A.counted A.numbered f) q in
    let a = A.counted in
    let b = B.counted in
    record {
      behind = B.behind;
      news = A.new ∷ B.news;
      added = B.added ∙ ap (λ v. v ++ B.news) A.added ∙ append_assoc c.stmts (A.new ∷ []) B.news;
      trees = statement_with (unlined (stmt_tree A.new)) (unlined t) (unlined_all (stmt_trees B.news)) (unlined_all rest) A.tree B.trees;
      counted = omega (arith, a, b);
      numbered = numbers_on c.loops A.behind.loops B.behind.loops (loop_numbers t) (loop_numbers_of_all rest) A.numbered B.numbered;
      reads = one_more n inside c A.behind B.behind vs ws A.reads B.reads;
    })

-- ---- assignments

place-tree : (p : Place) → place_tree p ≡ record { name = p.name; subscripts = expr_trees p.subscripts }
place-tree p = fold_out-Place Expression Designator expr_level place_level p

assign_tree : (line : ℕ) (atomic : Bool) (p : Place) (e : Expr) (target : Designator) (value : Expression) (old : ℕ) → place_tree p ≡ target → expr_tree e ≡ value →
    unlined (stmt_tree (Assign line atomic p e)) ≡ unlined (assignment old atomic target value)
assign_tree line atomic p e target value old h i =
    ap unlined (tree-Assign line atomic p e) ∙ ap (λ q. assignment 0 atomic q (expr_tree e)) (sym (place-tree p)) ∙ ap (λ q. assignment 0 atomic q (expr_tree e)) h ∙ ap (λ v. assignment 0 atomic target v) i

record AssignParts (target : Designator) (value : Expression) : Type 0 where
  named : is_variable target.name ≡ true
  subscripts : are_readable target.subscripts ≡ true
  readable : is_readable value ≡ true
  shallow : deepest target.subscripts ≤ 64
  levels : depth value ≤ 64

max_left : (m n k : ℕ) → max m n ≤ k → m ≤ k
max_left m n k h = grind (arith, nat_tests)

max_right : (m n k : ℕ) → max m n ≤ k → n ≤ k
max_right m n k h = grind (arith, nat_tests)

assign_parts : (line : ℕ) (atomic : Bool) (target : Designator) (value : Expression) (n : ℕ) (inside : Bool) (at from : ℕ) → Fit (size (assignment line atomic target value)) n inside at from → AssignParts target value
assign_parts line atomic target value n inside at from f =
    let p = and_parts (is_variable target.name) (are_readable target.subscripts && is_readable value) f.readable in
    let q = and_parts (are_readable target.subscripts) (is_readable value) p.1 in
    record { named = p.0; subscripts = q.0; readable = q.1; shallow = max_left (deepest target.subscripts) (depth value) 64 f.levels; levels = max_right (deepest target.subscripts) (depth value) 64 f.levels }

assign_case : (line : ℕ) (atomic : Bool) (target : Designator) (value : Expression) → OneReads (assignment line atomic target value)
assign_case line false target value n margin inside c us f e =
    let P = assign_parts line false target value n inside c.count c.loops f in
    let A = assignments_read false target value c us P.named P.subscripts P.readable P.shallow P.levels (last_row us margin (assign_words false target value) e) in
    record {
      behind = assigned false c A.to A.right;
      new = Assign A.to.line false A.to.place A.right.expr;
      added = refl;
      tree = assign_tree A.to.line false A.to.place A.right.expr target value line A.place A.tree;
      counted = refl;
      numbered = omega arith;
      reads = plain_assign n inside c (assigned false c A.to A.right) us (room (size (assignment line false target value)) n inside c.count c.loops (omega arith) f) A.reads;
    }
assign_case line true target value n margin inside c us f e =
    let P = assign_parts line true target value n inside c.count c.loops f in
    let t = assignment line true target value in
    cut_one us (lexical 0 Sentinel (codes "!$omp")) _ (λ v. IsOne n inside c v t) e (λ t1 w1 p1 q1.
    cut w1 (words_lexemes (apart (codes "atomic") ∷ []) ++ end_lexeme ∷ []) _ (λ v. IsOne n inside c (t1 ∷ v) t) q1 (λ vs w2 p2 q2.
    only_word vs (apart (codes "atomic")) Calm (λ v. IsOne n inside c (t1 ∷ (v ++ w2)) t) (word (codes "atomic") Calm refl (stop Wordy any refl)) p2 (λ t2 e2 f2 h2.
    let A = assignments_read true target value c w2 P.named P.subscripts P.readable P.shallow P.levels (last_row w2 margin (assign_words true target value) q2) in
    record {
      behind = assigned true c A.to A.right;
      new = Assign A.to.line true A.to.place A.right.expr;
      added = refl;
      tree = assign_tree A.to.line true A.to.place A.right.expr target value line A.place A.tree;
      counted = refl;
      numbered = omega arith;
      reads = atomic_assign n inside c (assigned true c A.to A.right) t1 t2 e2 w2 (room (size t) n inside c.count c.loops (omega arith) f) (sentinel_read t1 p1) (atomic_read t2 f2) (end_read e2 h2) A.reads;
    })))

-- ---- loops

record LoopParts (n : ℕ) (inside : Bool) (at from number : ℕ) (d : Option Directive) (var : List ℕ) (first last : Expression) (by : Option Expression) (body : Statements) : Type 0 where
  direct : is_readable_directive d ≡ true
  named : is_variable var ≡ true
  from_readable : is_readable first ≡ true
  to_readable : is_readable last ≡ true
  by_readable : is_readable_step by ≡ true
  from_levels : depth first ≤ 64
  to_levels : depth last ≤ 64
  by_levels : step_depth by ≤ 64
  number_is : number ≡ from + 1
  fits : Fit (size_of_all body) n (inside || is_parallel d) (at + 1) (from + 1)

not_true : (b : Bool) → not b ≡ true → b ≡ false
not_true false h = refl
not_true true h = absurd (let g : false ≡ true = h in cc)

body_single : (i p q : Bool) → not (p && q) ≡ true → (i && (p || q)) ≡ false → ((i || p) && q) ≡ false
body_single false false q h k = refl
body_single false true q h k = not_true q h
body_single true false q h k = k
body_single true true q h k = absurd (let g : true ≡ false = k in cc)

is_number : (m n : ℕ) → (m == n) ≡ true → m ≡ n
is_number m n h = grind (arith, nat_tests)

loop_parts : (line number : ℕ) (d : Option Directive) (var : List ℕ) (first last : Expression) (by : Option Expression) (body : Statements) (m : ℕ) (inside : Bool) (at from : ℕ) →
    Fit (size (loop line number d var first last by body)) (suc m) inside at from → LoopParts m inside at from number d var first last by body
loop_parts line number d var first last by body m inside at from f =
    let p = and_parts (is_readable_directive d) _ f.readable in
    let q = and_parts (not (is_parallel d && has_parallel_in body)) _ p.1 in
    let r = and_parts (is_variable var) _ q.1 in
    let s = and_parts (is_readable first) _ r.1 in
    let t = and_parts (is_readable last) _ s.1 in
    let u = and_parts (is_readable_step by) (are_readable_statements body) t.1 in
    let v = and_parts (number == suc from) (counts_up_from (suc (suc from)) (loop_numbers_of_all body)) f.numbered in
    let bounds = max_left (max (depth first) (depth last)) (max (step_depth by) (deepest_in_all body)) 64 f.levels in
    let others = max_right (max (depth first) (depth last)) (max (step_depth by) (deepest_in_all body)) 64 f.levels in
    let blocks = f.blocks in
    let few = f.few in
    let is : number ≡ suc from = is_number number (suc from) v.0 in
    record {
      direct = p.0;
      named = r.0;
      from_readable = s.0;
      to_readable = t.0;
      by_readable = u.0;
      from_levels = max_left (depth first) (depth last) 64 bounds;
      to_levels = max_right (depth first) (depth last) 64 bounds;
      by_levels = max_left (step_depth by) (deepest_in_all body) 64 others;
      number_is = omega (arith, is);
      fits = record {
        readable = u.1;
        levels = max_right (step_depth by) (deepest_in_all body) 64 others;
        blocks = omega (arith, blocks);
        few = omega (arith, few);
        numbered = subst (λ (i : ℕ). counts_up_from i (loop_numbers_of_all body) ≡ true) (omega arith) v.1;
        single = body_single inside (is_parallel d) (has_parallel_in body) q.0 f.single;
      };
    }

loop_with : (n1 n2 : ℕ) (d1 d2 : Option Directive) (x1 x2 : List ℕ) (a1 a2 b1 b2 : Expression) (s1 s2 : Option Expression) (t1 t2 : Statements) →
    n1 ≡ n2 → d1 ≡ d2 → x1 ≡ x2 → a1 ≡ a2 → b1 ≡ b2 → s1 ≡ s2 → t1 ≡ t2 → loop 0 n1 d1 x1 a1 b1 s1 t1 ≡ loop 0 n2 d2 x2 a2 b2 s2 t2
loop_with n1 n2 d1 d2 x1 x2 a1 a2 b1 b2 s1 s2 t1 t2 n d x a b s t = cc

-- the line of a loop, its body and its end
record LoopRest (m : ℕ) (within_ : Bool) (at from : ℕ) (us : Lexemes) (var : List ℕ) (first last : Expression) (by : Option Expression) (body : Statements) : Type 0 where
  heads : Lexemes
  bodies : Lexemes
  ends : Lexemes
  is : us ≡ heads ++ (bodies ++ ends)
  head : HasLoopLine heads var first last by
  inner : AreBlock m within_ (block_from (at + 1) (from + 1)) bodies body
  end_line : ℕ
  end : g.end_do end_line ends

loop_rest : (number : ℕ) (d : Option Directive) (var : List ℕ) (first last : Expression) (by : Option Expression) (body : Statements) (m margin : ℕ) (inside : Bool) (at from : ℕ) (us : Lexemes) → AllRead body →
    LoopParts m inside at from number d var first last by body →
    map unplaced us ≡ (words_lexemes (variable_words var ++ bounds_words first last by) ++ end_lexeme ∷ []) ++ rows_lexemes (block_rows (margin + 2) body ++ end_row margin (codes "do") ∷ []) →
    LoopRest m (inside || is_parallel d) at from us var first last by body
loop_rest number d var first last by body m margin inside at from us all P e =
    let Goal : Lexemes → Type 0 = λ v. LoopRest m (inside || is_parallel d) at from v var first last by body in
    cut us (words_lexemes (variable_words var ++ bounds_words first last by) ++ end_lexeme ∷ []) _ Goal e (λ hs w1 p1 q1.
    cut_rows w1 (block_rows (margin + 2) body) (end_row margin (codes "do") ∷ []) (λ v. Goal (hs ++ v)) q1 (λ bs es p2 q2.
    let E = end_do_read es (last_row es margin (end_words (codes "do")) q2) in
    record {
      heads = hs;
      bodies = bs;
      ends = es;
      is = refl;
      head = loops_read var first last by hs P.named P.from_readable P.to_readable P.by_readable P.from_levels P.to_levels P.by_levels p1;
      inner = all m (margin + 2) (inside || is_parallel d) (block_from (at + 1) (from + 1)) bs P.fits p2;
      end_line = E.0;
      end = E.1;
    }))

or_false : (b : Bool) → (b || false) ≡ b
or_false true = refl
or_false false = refl

do_tree : (l : ℕ) (c : Block) (n : ℕ) (inside : Bool) (d1 d : Option Directive) (var : List ℕ) (first last : Expression) (by : Option Expression) (body : Statements) (hs bs : Lexemes) (line number : ℕ) →
    (H : HasLoopLine hs var first last by) (B : AreBlock n inside (block_from (c.count + 1) (c.loops + 1)) bs body) → number ≡ c.loops + 1 → unlined_directive d1 ≡ unlined_directive d →
    unlined (stmt_tree (Do l (c.loops + 1) d1 H.head.var H.head.first H.head.last H.head.step B.behind.stmts)) ≡ unlined (loop line number d var first last by body)
do_tree l c n inside d1 d var first last by body hs bs line number H B e f =
    ap unlined (tree-Do l (c.loops + 1) d1 H.head.var H.head.first H.head.last H.head.step B.behind.stmts)
    ∙ loop_with (c.loops + 1) number (unlined_directive d1) (unlined_directive d) H.head.var var (expr_tree H.head.first) first (expr_tree H.head.last) last (step_tree H.head.step) by
    (unlined_all (stmt_trees B.behind.stmts)) (unlined_all body) (sym e) f H.name H.from H.to H.by (ap (λ v. unlined_all (stmt_trees v)) B.added ∙ B.trees)

no_depth : {A : Type 0} (b : ℕ) → b + 1 ≤ 0 → A
no_depth b h = absurd (omega (arith, h))

do_case : (line number : ℕ) (var : List ℕ) (first last : Expression) (by : Option Expression) (body : Statements) → AllRead body → OneReads (loop line number None var first last by body)
do_case line number var first last by body all zero margin inside c us f e = no_depth _ f.blocks
do_case line number var first last by body all (suc m) margin inside c us f e =
    let t = loop line number None var first last by body in
    let P = loop_parts line number None var first last by body m inside c.count c.loops f in
    let R = loop_rest number None var first last by body m margin inside c.count c.loops us all P e in
    let B = subst (λ (i : Bool). AreBlock m i (block_from (c.count + 1) (c.loops + 1)) R.bodies body) (or_false inside) R.inner in
    let b = B.counted in
    let k = B.numbered in
    subst (λ (v : Lexemes). IsOne (suc m) inside c v t) (sym R.is)
    (record {
      behind = looped c None (parts_of R.head.head B.behind);
      new = Do R.head.head.line (c.loops + 1) None R.head.head.var R.head.head.first R.head.head.last R.head.head.step B.behind.stmts;
      added = refl;
      tree = do_tree R.head.head.line c m inside None None var first last by body R.heads R.bodies line number R.head B P.number_is refl;
      counted = omega (arith, b);
      numbered = omega (arith, k);
      reads = plain_loop m inside c R.head.head B.behind R.end_line R.heads R.bodies R.ends (room (size t) (suc m) inside c.count c.loops (omega arith) f) R.head.reads B.reads R.end;
    })

alone : (i q : Bool) → (i && (true || q)) ≡ false → i ≡ false
alone false q h = refl
alone true q h = absurd (let g : true ≡ false = h in cc)

parallel_in : (line number : ℕ) (d : Directive) (var : List ℕ) (first last : Expression) (by : Option Expression) (body : Statements) → AllRead body → (m margin : ℕ) (c : Block) (us : Lexemes) →
    Fit (size (loop line number (Some d) var first last by body)) (suc m) false c.count c.loops → map unplaced us ≡ rows_lexemes (statement_rows margin (loop line number (Some d) var first last by body)) →
    IsOne (suc m) false c us (loop line number (Some d) var first last by body)
parallel_in line number d var first last by body all m margin c us f e =
    let t = loop line number (Some d) var first last by body in
    let P = loop_parts line number (Some d) var first last by body m false c.count c.loops f in
    cut_one us (lexical 0 Sentinel (codes "!$omp")) _ (λ v. IsOne (suc m) false c v t) e (λ t1 w1 p1 q1.
    cut w1 (words_lexemes (parallel_words d) ++ end_lexeme ∷ []) _ (λ v. IsOne (suc m) false c (t1 ∷ v) t) q1 (λ ds w2 p2 q2.
    let R = loop_rest number (Some d) var first last by body m margin false c.count c.loops w2 all P q2 in
    let B = R.inner in
    let b = B.counted in
    let k = B.numbered in
    subst (λ (v : Lexemes). IsOne (suc m) false c (t1 ∷ (ds ++ v)) t) (sym R.is)
    (record {
      behind = looped c (Some (at_line d t1.line)) (parts_of R.head.head B.behind);
      new = Do R.head.head.line (c.loops + 1) (Some (at_line d t1.line)) R.head.head.var R.head.head.first R.head.head.last R.head.head.step B.behind.stmts;
      added = refl;
      tree = do_tree R.head.head.line c m true (Some (at_line d t1.line)) (Some d) var first last by body R.heads R.bodies line number R.head B P.number_is refl;
      counted = omega (arith, b);
      numbered = omega (arith, k);
      reads =
          parallel_loop m c t1 (at_line d t1.line) ds R.head.head B.behind R.end_line R.heads R.bodies R.ends (room (size t) (suc m) false c.count c.loops (omega arith) f) (sentinel_read t1 p1)
          (directives_read d t1.line ds P.direct p2) R.head.reads B.reads R.end;
    })))

parallel_case : (line number : ℕ) (d : Directive) (var : List ℕ) (first last : Expression) (by : Option Expression) (body : Statements) → AllRead body → OneReads (loop line number (Some d) var first last by body)
parallel_case line number d var first last by body all zero margin inside c us f e = no_depth _ f.blocks
parallel_case line number d var first last by body all (suc m) margin false c us f e = parallel_in line number d var first last by body all m margin c us f e
parallel_case line number d var first last by body all (suc m) margin true c us f e = absurd (let g = alone true (has_parallel_in body) f.single in cc)

-- ---- arms

no_arms_case : ArmsRead no_arms
no_arms_case m margin inside line before at from us f e =
    cut_none us (λ v. AreArms m inside line before at from v no_arms) e
    (record { all = before; news = []; to = at; until = from; added = sym (append-nil before); trees = refl; counted = omega arith; numbered = omega arith; reads = no_part m inside (opened line before at from) })

arm_with : (a b : Condition) (x y : Statements) (as_ bs : Arms) → a ≡ b → x ≡ y → as_ ≡ bs → arm a x as_ ≡ arm b y bs
arm_with a b x y as_ bs e f g = cc

arms_tree : (test : Condition) (body : Statements) (rest : Arms) (n : ℕ) (inside : Bool) (at from : ℕ) (gs bs : Lexemes) (G : IsGuard gs test) (B : AreBlock n inside (block_from at from) bs body) (news : List Arm) →
    unlined_arms (arm_trees news) ≡ unlined_arms rest → unlined_arms (arm_trees (arm_of G.value.cond B.behind.stmts ∷ news)) ≡ unlined_arms (arm test body rest)
arms_tree test body rest n inside at from gs bs G B news e =
    let a = arm_of G.value.cond B.behind.stmts in
    ap (λ (p : Condition × Statements). arm p.0 (unlined_all p.1) (unlined_arms (arm_trees news))) (tree-Arm a)
    ∙ arm_with (cond_tree G.value.cond) test (unlined_all (stmt_trees B.behind.stmts)) (unlined_all body) (unlined_arms (arm_trees news)) (unlined_arms rest) G.tree
    (ap (λ v. unlined_all (stmt_trees v)) B.added ∙ B.trees) e

arm_case : (test : Condition) (body : Statements) (rest : Arms) → AllRead body → ArmsRead rest → ArmsRead (arm test body rest)
arm_case test body rest all more m margin inside line before at from us f e =
    let Goal : Lexemes → Type 0 = λ v. AreArms m inside line before at from v (arm test body rest) in
    let u = untested (is_readable_condition test) (condition_depth test) (both (size_of_all body) (size_of_arms rest)) m inside at from f in
    let fb = left (size_of_all body) (size_of_arms rest) m inside at from u.2 in
    cut_row us margin (test_words true test) (block_rows (margin + 2) body ++ arm_rows margin true rest) Goal e (λ ls w1 p1 q1.
    later_test test ls (λ v. Goal (v ++ w1)) u.0 u.1 p1 (λ t1 t2 gs t3 e1 f1 f2 G f3 h1.
    cut_rows w1 (block_rows (margin + 2) body) (arm_rows margin true rest) (λ v. Goal (((t1 ∷ t2 ∷ (gs ++ t3 ∷ [])) ++ e1 ∷ []) ++ v)) q1 (λ bs ws p2 q2.
    let B = all m (margin + 2) inside (block_from at from) bs fb p2 in
    let fr = right (size_of_all body) (size_of_arms rest) m inside at from B.behind.count B.behind.loops B.counted B.numbered u.2 in
    let a = arm_of G.value.cond B.behind.stmts in
    let A = more m margin inside line (before ++ a ∷ []) B.behind.count B.behind.loops ws fr q2 in
    let b = B.counted in
    let k = A.counted in
    subst (λ (v : Lexemes). AreArms m inside line before at from v (arm test body rest)) (regroup t1 t2 t3 e1 gs bs ws)
    (record {
      all = A.all;
      news = a ∷ A.news;
      to = A.to;
      until = A.until;
      added = A.added ∙ append_assoc before (a ∷ []) A.news;
      trees = arms_tree test body rest m inside at from gs bs G B A.news A.trees;
      counted = omega (arith, b, k);
      numbered = numbers_on from B.behind.loops A.until (loop_numbers_of_all body) (loop_numbers_of_arms rest) B.numbered A.numbered;
      reads =
          leads_on m inside (opened line before at from) (opened line (before ++ a ∷ []) B.behind.count B.behind.loops) (opened line A.all A.to A.until) (t1 ∷ t2 ∷ (gs ++ t3 ∷ e1 ∷ bs)) ws
          (next_arm m inside (opened line before at from) t1 t2 t3 e1 G.value gs B.behind bs refl (else_read t1 f1) (if_read t2 f2) G.reads (then_read t3 f3) (end_read e1 h1) B.reads) A.reads;
    }))))
  where
    regroup : (t1 t2 t3 e : Lexeme) (gs bs ws : Lexemes) → (t1 ∷ t2 ∷ (gs ++ t3 ∷ e ∷ bs)) ++ ws ≡ ((t1 ∷ t2 ∷ (gs ++ t3 ∷ [])) ++ e ∷ []) ++ (bs ++ ws)
    regroup t1 t2 t3 e gs bs ws = simp append_assoc

-- ---- what stands behind `else`

else_case : (ss : Statements) → AllRead ss → (m margin : ℕ) (inside : Bool) (line : ℕ) (arms : List Arm) (at from : ℕ) (us : Lexemes) → Fit (size_of_all ss) m inside at from →
    map unplaced us ≡ rows_lexemes (else_rows margin ss) → IsElse m inside line arms at from us ss
else_case no_statements all m margin inside line arms at from us f e =
    cut_none us (λ v. IsElse m inside line arms at from v no_statements) e
    (record { found = opened line arms at from; is_line = refl; is_arms = refl; trees = refl; counted = omega arith; numbered = omega arith; reads = no_part m inside (opened line arms at from) })
else_case (statement t rest) all m margin inside line arms at from us f e =
    let ss = statement t rest in
    let Goal : Lexemes → Type 0 = λ v. IsElse m inside line arms at from v ss in
    cut_row us margin (joined (codes "else") ∷ []) (block_rows (margin + 2) ss) Goal e (λ ls bs p1 q1.
    only_word ls (joined (codes "else")) Calm (λ v. Goal (v ++ bs)) (name_step false (codes "else") Calm refl refl (stop Wordy any refl)) p1 (λ t1 e1 f1 h1.
    let B = all m (margin + 2) inside (block_from at from) bs f q1 in
    record {
      found = with_other (opened line arms at from) B.behind;
      is_line = refl;
      is_arms = refl;
      trees = ap (λ v. unlined_all (stmt_trees v)) B.added ∙ B.trees;
      counted = B.counted;
      numbered = B.numbered;
      reads = the_else m inside (opened line arms at from) t1 e1 B.behind bs refl (else_read t1 f1) (end_read e1 h1) B.reads;
    }))

-- ---- Ifs

branch_with : (a b : Arms) (x y : Statements) → a ≡ b → x ≡ y → branch 0 a x ≡ branch 0 b y
branch_with a b x y e f = cc

branch_case : (line : ℕ) (test : Condition) (body : Statements) (rest : Arms) (other : Statements) → AllRead body → ArmsRead rest → AllRead other → OneReads (branch line (arm test body rest) other)
branch_case line test body rest other all more last zero margin inside c us f e = no_depth _ f.blocks
branch_case line test body rest other all more last (suc m) margin inside c us f e =
    let t = branch line (arm test body rest) other in
    let Goal : Lexemes → Type 0 = λ v. IsOne (suc m) inside c v t in
    let z = both (size_of_arms (arm test body rest)) (size_of_all other) in
    let fz = within z m inside c.count c.loops f in
    let fa = left (size_of_arms (arm test body rest)) (size_of_all other) m inside (c.count + 1) c.loops fz in
    let u = untested (is_readable_condition test) (condition_depth test) (both (size_of_all body) (size_of_arms rest)) m inside (c.count + 1) c.loops fa in
    let fb = left (size_of_all body) (size_of_arms rest) m inside (c.count + 1) c.loops u.2 in
    cut_rows us (arm_rows margin false (arm test body rest)) (else_rows margin other ++ end_row margin (codes "if") ∷ []) Goal e (λ xs ys p0 q0.
    cut_row xs margin (test_words false test) (block_rows (margin + 2) body ++ arm_rows margin true rest) (λ v. Goal (v ++ ys)) p0 (λ ls w1 p1 q1.
    first_test test ls (λ v. Goal ((v ++ w1) ++ ys)) u.0 u.1 p1 (λ t1 gs t2 e1 f1 G f2 h1.
    cut_rows w1 (block_rows (margin + 2) body) (arm_rows margin true rest) (λ v. Goal ((((t1 ∷ (gs ++ t2 ∷ [])) ++ e1 ∷ []) ++ v) ++ ys)) q1 (λ bs ps p2 q2.
    cut_rows ys (else_rows margin other) (end_row margin (codes "if") ∷ []) (λ v. Goal ((((t1 ∷ (gs ++ t2 ∷ [])) ++ e1 ∷ []) ++ (bs ++ ps)) ++ v)) q0 (λ os es p3 q3.
    let B = all m (margin + 2) inside (block_from (c.count + 1) c.loops) bs fb p2 in
    let fr = right (size_of_all body) (size_of_arms rest) m inside (c.count + 1) c.loops B.behind.count B.behind.loops B.counted B.numbered u.2 in
    let a = arm_of G.value.cond B.behind.stmts in
    let A = more m margin inside t1.line (a ∷ []) B.behind.count B.behind.loops ps fr q2 in
    let b = B.counted in
    let k = A.counted in
    let here : A.to ≡ (c.count + 1) + count_arms (arm test body rest) = omega (arith, b, k) in
    let loops_ = numbers_on c.loops B.behind.loops A.until (loop_numbers_of_all body) (loop_numbers_of_arms rest) B.numbered A.numbered in
    let fo = right (size_of_arms (arm test body rest)) (size_of_all other) m inside (c.count + 1) c.loops A.to A.until here loops_ fz in
    let O = else_case other last m margin inside t1.line A.all A.to A.until os fo p3 in
    let o = O.counted in
    let E = end_if_read es (last_row es margin (end_words (codes "if")) q3) in
    subst (λ (v : Lexemes). IsOne (suc m) inside c v t) (regroup t1 t2 e1 gs bs ps os es)
    (record {
      behind = branched c O.found;
      new = If O.found.line O.found.arms O.found.other;
      added = refl;
      tree =
          ap unlined (tree-If O.found.line O.found.arms O.found.other)
          ∙ branch_with (unlined_arms (arm_trees O.found.arms)) (unlined_arms (arm test body rest)) (unlined_all (stmt_trees O.found.other)) (unlined_all other)
          (ap (λ v. unlined_arms (arm_trees v)) (O.is_arms ∙ A.added) ∙ arms_tree test body rest m inside (c.count + 1) c.loops gs bs G B A.news A.trees) O.trees;
      counted = omega (arith, here, o);
      numbered = numbers_on c.loops A.until O.found.loops (loop_numbers_of_arms (arm test body rest)) (loop_numbers_of_all other) loops_ O.numbered;
      reads =
          the_if m inside c t1 t2 e1 G.value gs B.behind bs O.found (ps ++ os) E.0 es (room (size t) (suc m) inside c.count c.loops (omega arith) f) (if_read t1 f1) G.reads (then_word_read t2 f2) (end_read e1 h1) B.reads
          (leads_on m inside (first_branch t1.line G.value.cond B.behind) (opened t1.line A.all A.to A.until) O.found ps os A.reads O.reads) E.1;
    }))))))
  where
    regroup : (t1 t2 e : Lexeme) (gs bs ps os es : Lexemes) → t1 ∷ (gs ++ t2 ∷ e ∷ (bs ++ ((ps ++ os) ++ es))) ≡ (((t1 ∷ (gs ++ t2 ∷ [])) ++ e ∷ []) ++ (bs ++ ps)) ++ (os ++ es)
    regroup t1 t2 e gs bs ps os es = simp append_assoc

no_arm : (line : ℕ) (other : Statements) → OneReads (branch line no_arms other)
no_arm line other n margin inside c us f e = absurd (let g : false ≡ true = f.readable in cc)

-- ---- all

mutual
  one_read : (t : Statement) → OneReads t
  one_read (assignment line atomic target value) = assign_case line atomic target value
  one_read (branch line no_arms other) = no_arm line other
  one_read (branch line (arm test body rest) other) = branch_case line test body rest other (all_read body) (arms_read rest) (all_read other)
  one_read (loop line number None var first last by body) = do_case line number var first last by body (all_read body)
  one_read (loop line number (Some d) var first last by body) = parallel_case line number d var first last by body (all_read body)

  all_read : (ss : Statements) → AllRead ss
  all_read no_statements = none_case
  all_read (statement t rest) = more_case t rest (one_read t) (all_read rest)

  arms_read : (as_ : Arms) → ArmsRead as_
  arms_read no_arms = no_arms_case
  arms_read (arm test body rest) = arm_case test body rest (all_read body) (arms_read rest)

pub blocks_read : (ss : Statements) (n margin : ℕ) (inside : Bool) (c : Block) (us : Lexemes) → are_readable_statements ss ≡ true → deepest_in_all ss ≤ 64 → (size_of_all ss).blocks ≤ n → c.count + count_all ss ≤ 4096 →
    counts_up_from (suc c.loops) (loop_numbers_of_all ss) ≡ true → (inside && has_parallel_in ss) ≡ false → map unplaced us ≡ rows_lexemes (block_rows margin ss) → AreBlock n inside c us ss
blocks_read ss n margin inside c us h i j k l o e = all_read ss n margin inside c us (record { readable = h; levels = i; blocks = j; few = k; numbered = l; single = o }) e
