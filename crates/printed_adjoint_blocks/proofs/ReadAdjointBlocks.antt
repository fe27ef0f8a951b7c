-- The rows of an adjoint's readable statements are read as them.
use Rattle.std.proofs.Common.{◌≡◌, ℕ, zero, suc, ◌+◌, ◌≤◌, Bool, true, false, not, ◌&&◌, ◌||◌, List, [], ◌∷◌, ◌++◌, map, Option, Some, None, refl, sym, ap, subst, ◌∙◌, append-nil, append_assoc, arith}
use Rattle.std.specs.Prelude.{codes}
use Rattle.std.proofs.lemmas.Bool.{and_parts}
use Rattle.tokens.specs.Lexeme.{Lexeme}
use Rattle.tokens.specs.declared.TokenKind.TheVariants.{Sentinel}
use Rattle.fl_ast.specs.declared.directive.Directive.{Directive}
use Rattle.fl_ast.specs.declared.expr.Place.{Place}
use Rattle.fl_ast.specs.declared.adjoint.AExpr.{AExpr}
use Rattle.fl_ast.specs.declared.adjoint.AArm.{AArm}
use Rattle.fl_ast.specs.declared.adjoint.AStmt.{AStmt}
use Rattle.fl_ast.specs.declared.adjoint.AStmt.TheVariants.{Assign, If, Do, Push, Pop, Open, Close}
use Rattle.fl_ast.specs.declared.adjoint.AStmt.TheFolds.{fold_out-AArm}
use Rattle.fl_ast.specs.Tree.{Expression, Designator, Condition, expr_tree, place_tree, cond_tree, step_tree}
use Rattle.fl_ast.specs.AdjointTree.{AdjointExpression, AdjointStatement, adjoint_assignment, adjoint_branch, adjoint_loop, push, pop, begin_tapes, end_tapes, AdjointStatements, no_adjoint_statements, adjoint_statement, AdjointArms, no_adjoint_arms, adjoint_arm, astmt_level, aarm_level, aexpr_tree, astmt_tree, astmt_trees, aarm_tree, aarm_trees}
use Rattle.fl_ast.specs.Measures.{depth, deepest, condition_depth, step_depth}
use Rattle.fl_ast.specs.Readable.{is_variable, is_readable, are_readable, is_readable_condition, is_readable_step, is_readable_directive, is_parallel}
use Rattle.fl_ast.specs.ReadableAdjoint.{is_readable_adjoint, adjoint_depth, are_readable_adjoint_statements, has_parallel_adjoints, has_adjoint_arm, deepest_in_adjoints}
use Rattle.parsing.specs.Reading.{Lexemes}
use Rattle.fl_statements.specs.StmtGrammar as plain
use Rattle.adjoint_statements.specs.declared.block.Block.{Block}
use Rattle.adjoint_statements.specs.declared.branch.Branch.{Branch}
use Rattle.adjoint_statements.specs.Trees.{block_from, next_loop, assigned, pushed, popped, opened as opened_tapes, closed as closed_tapes, parts_of, looped, arm_of, first_branch, with_other, branched}
use Rattle.adjoint_parser.proofs.AddingAdjoints.{tree-Assign, tree-Do, tree-If, tree-Push, tree-Pop, tree-Open, tree-Close, place-of}
use Rattle.fl_lexer.specs.Printing.{lexical}
use Rattle.fl_printer.specs.Words.{joined, apart}
use Rattle.fl_printer.specs.Rows.{adjoint_assign_words, push_words, pop_words, open_words, call_words, close_bracket, variable_words, bounds_words, parallel_words, end_words, test_words, end_row, adjoint_rows, adjoint_else_rows, adjoint_block_rows, adjoint_arm_rows}
use Rattle.fl_printer.specs.Lexemes.{unplaced, words_lexemes, end_lexeme, rows_lexemes}
use Rattle.fl_printer.proofs.Tokens.{Calm, Wordy}
use Rattle.fl_printer.proofs.Flow.{any, stop, name_step}
use Rattle.fl_printer.proofs.Units.{word}
use Rattle.printed_clauses.specs.Placed.{at_line}
use Rattle.printed_clauses.proofs.ReadDirectives.{directives_read, end_read}
use Rattle.printed_blocks.specs.Unlined.{unlined_directive}
use Rattle.printed_blocks.proofs.Cut.{cut, cut_one, cut_none, cut_rows, cut_row, last_row}
use Rattle.printed_blocks.proofs.Marks.{if_read, else_read, then_read, then_word_read, atomic_read, sentinel_read}
use Rattle.printed_blocks.proofs.ReadEnds.{end_do_read, end_if_read, only_word}
use Rattle.printed_adjoint_lines.specs.AdjointLines.{HasLoopLine, IsGuard}
use Rattle.printed_adjoint_lines.proofs.ReadAdjointLines.{assignments_read, pushes_read, pops_read, openings_read, closings_read, loops_read}
use Rattle.printed_adjoint_blocks.specs.AdjointUnlined.{unlined, unlined_all, unlined_arms}
use Rattle.printed_adjoint_blocks.specs.AdjointBlocks.{AreBlock}
use Rattle.printed_adjoint_blocks.proofs.AdjointFit.{size, size_of_all, size_of_arms, both, Fit, left, right, untested}
use Rattle.printed_adjoint_blocks.proofs.AdjointTests.{first_test, later_test}
use Rattle.printed_adjoint_blocks.proofs.AdjointSteps.{one_of, no_more, one_more, plain_assign, atomic_assign, tape_call, plain_loop, parallel_loop, Leads, no_part, leads_on, next_arm, the_else, the_if}

-- the lexemes are one statement more
record IsOne (n : ℕ) (inside : Bool) (c : Block) (us : Lexemes) (t : AdjointStatement) : Type 0 where
  behind : Block
  new : AStmt
  added : behind.stmts ≡ c.stmts ++ new ∷ []
  tree : unlined (astmt_tree new) ≡ unlined t
  reads : one_of n inside c behind us

-- an If whose `else` isn't read
abbrev opened : ℕ → List AArm → ℕ → Branch
opened line arms loops = record { line = line; arms = arms; other = []; closed = false; loops = loops }

-- the lexemes are arms more
record AreArms (m : ℕ) (inside : Bool) (line : ℕ) (before : List AArm) (from : ℕ) (us : Lexemes) (as_ : AdjointArms) : Type 0 where
  all : List AArm
  news : List AArm
  until : ℕ
  added : all ≡ before ++ news
  trees : unlined_arms (aarm_trees news) ≡ unlined_arms as_
  reads : Leads m inside (opened line before from) (opened line all until) us

-- and an `else` more, where there is one
record IsElse (m : ℕ) (inside : Bool) (line : ℕ) (arms : List AArm) (from : ℕ) (us : Lexemes) (ss : AdjointStatements) : Type 0 where
  found : Branch
  is_line : found.line ≡ line
  is_arms : found.arms ≡ arms
  trees : unlined_all (astmt_trees found.other) ≡ unlined_all ss
  reads : Leads m inside (opened line arms from) found us

abbrev OneReads : AdjointStatement → Type 0
OneReads t = (n margin : ℕ) (inside : Bool) (c : Block) (us : Lexemes) → Fit (size t) n inside → map unplaced us ≡ rows_lexemes (adjoint_rows margin t) → IsOne n inside c us t

abbrev AllRead : AdjointStatements → Type 0
AllRead ss = (n margin : ℕ) (inside : Bool) (c : Block) (us : Lexemes) → Fit (size_of_all ss) n inside → map unplaced us ≡ rows_lexemes (adjoint_block_rows margin ss) → AreBlock n inside c us ss

abbrev ArmsRead : AdjointArms → Type 0
ArmsRead as_ = (m margin : ℕ) (inside : Bool) (line : ℕ) (before : List AArm) (from : ℕ) (us : Lexemes) → Fit (size_of_arms as_) m inside → map unplaced us ≡ rows_lexemes (adjoint_arm_rows margin true as_) →
    AreArms m inside line before from us as_

-- ---- lists

none_case : AllRead no_adjoint_statements
none_case n margin inside c us f e =
    cut_none us (λ v. AreBlock n inside c v no_adjoint_statements) e (record { behind = c; news = []; added = sym (append-nil c.stmts); trees = refl; reads = no_more n inside c })

statement_with : (a b : AdjointStatement) (as_ bs : AdjointStatements) → a ≡ b → as_ ≡ bs → adjoint_statement a as_ ≡ adjoint_statement b bs
statement_with a b as_ bs e f = ap (λ x. adjoint_statement x as_) e ∙ ap (λ x. adjoint_statement b x) f

more_case : (t : AdjointStatement) (rest : AdjointStatements) → OneReads t → AllRead rest → AllRead (adjoint_statement t rest)
more_case t rest one all n margin inside c us f e =
    cut_rows us (adjoint_rows margin t) (adjoint_block_rows margin rest) (λ v. AreBlock n inside c v (adjoint_statement t rest)) e (λ vs ws p q.
    let A = one n margin inside c vs (left (size t) (size_of_all rest) n inside f) p in
    let B = all n margin inside A.behind ws (right (size t) (size_of_all rest) n inside f) q in
    record {
      behind = B.behind;
      news = A.new ∷ B.news;
      added = B.added ∙ ap (λ v. v ++ B.news) A.added ∙ append_assoc c.stmts (A.new ∷ []) B.news;
      trees = statement_with (unlined (astmt_tree A.new)) (unlined t) (unlined_all (astmt_trees B.news)) (unlined_all rest) A.tree B.trees;
      reads = one_more n inside c A.behind B.behind vs ws A.reads B.reads;
    })

-- ---- assignments

assign_tree : (line : ℕ) (atomic : Bool) (p : Place) (e : AExpr) (target : Designator) (value : AdjointExpression) (old : ℕ) → place_tree p ≡ target → aexpr_tree e ≡ value →
    unlined (astmt_tree (Assign line atomic p e)) ≡ unlined (adjoint_assignment old atomic target value)
assign_tree line atomic p e target value old h i =
    ap unlined (tree-Assign line atomic p e) ∙ ap (λ q. adjoint_assignment 0 atomic q (aexpr_tree e)) (sym (place-of p)) ∙ ap (λ q. adjoint_assignment 0 atomic q (aexpr_tree e)) h ∙ ap (λ v. adjoint_assignment 0 atomic target v) i

record AssignParts (target : Designator) (value : AdjointExpression) : Type 0 where
  named : is_variable target.name ≡ true
  subscripts : are_readable target.subscripts ≡ true
  readable : is_readable_adjoint value ≡ true
  shallow : deepest target.subscripts ≤ 256
  levels : adjoint_depth value ≤ 256

assign_parts : (line : ℕ) (atomic : Bool) (target : Designator) (value : AdjointExpression) (n : ℕ) (inside : Bool) → Fit (size (adjoint_assignment line atomic target value)) n inside → AssignParts target value
assign_parts line atomic target value n inside f =
    let p = and_parts (is_variable target.name) (are_readable target.subscripts && is_readable_adjoint value) f.readable in
    let q = and_parts (are_readable target.subscripts) (is_readable_adjoint value) p.1 in
    let levels = f.levels in
    record { named = p.0; subscripts = q.0; readable = q.1; shallow = omega (arith, levels); levels = omega (arith, levels) }

assign_case : (line : ℕ) (atomic : Bool) (target : Designator) (value : AdjointExpression) → OneReads (adjoint_assignment line atomic target value)
assign_case line false target value n margin inside c us f e =
    let P = assign_parts line false target value n inside f in
    let A = assignments_read false target value c us P.named P.subscripts P.readable P.shallow P.levels (last_row us margin (adjoint_assign_words false target value) e) in
    record {
      behind = assigned false c A.to A.right;
      new = Assign A.to.line false A.to.place A.right.expr;
      added = refl;
      tree = assign_tree A.to.line false A.to.place A.right.expr target value line A.place A.tree;
      reads = plain_assign n inside c (assigned false c A.to A.right) us A.reads;
    }
assign_case line true target value n margin inside c us f e =
    let P = assign_parts line true target value n inside f in
    let t = adjoint_assignment line true target value in
    cut_one us (lexical 0 Sentinel (codes "!$omp")) _ (λ v. IsOne n inside c v t) e (λ t1 w1 p1 q1.
    cut w1 (words_lexemes (apart (codes "atomic") ∷ []) ++ end_lexeme ∷ []) _ (λ v. IsOne n inside c (t1 ∷ v) t) q1 (λ vs w2 p2 q2.
    only_word vs (apart (codes "atomic")) Calm (λ v. IsOne n inside c (t1 ∷ (v ++ w2)) t) (word (codes "atomic") Calm refl (stop Wordy any refl)) p2 (λ t2 e2 f2 h2.
    let A = assignments_read true target value c w2 P.named P.subscripts P.readable P.shallow P.levels (last_row w2 margin (adjoint_assign_words true target value) q2) in
    record {
      behind = assigned true c A.to A.right;
      new = Assign A.to.line true A.to.place A.right.expr;
      added = refl;
      tree = assign_tree A.to.line true A.to.place A.right.expr target value line A.place A.tree;
      reads = atomic_assign n inside c (assigned true c A.to A.right) t1 t2 e2 w2 (sentinel_read t1 p1) (atomic_read t2 f2) (end_read e2 h2) A.reads;
    })))

-- ---- calls of the tape

push_case : (line : ℕ) (key value : Expression) → OneReads (push line key value)
push_case line key value n margin inside c us f e =
    let p = and_parts (is_readable key) (is_readable value) f.readable in
    let levels = f.levels in
    let A = pushes_read key value c us p.0 p.1 (omega (arith, levels)) (omega (arith, levels)) (last_row us margin (push_words key value) e) in
    record {
      behind = pushed c A.line A.under A.word;
      new = Push A.line A.under.expr A.word.expr;
      added = refl;
      tree = ap unlined (tree-Push A.line A.under.expr A.word.expr) ∙ ap (λ k. push 0 k (expr_tree A.word.expr)) A.key_tree ∙ ap (λ v. push 0 key v) A.tree;
      reads = tape_call n inside c (pushed c A.line A.under A.word) us A.reads;
    }

pop_case : (line : ℕ) (key : Expression) (target : Designator) → OneReads (pop line key target)
pop_case line key target n margin inside c us f e =
    let p = and_parts (is_readable key) (is_variable target.name && are_readable target.subscripts) f.readable in
    let q = and_parts (is_variable target.name) (are_readable target.subscripts) p.1 in
    let levels = f.levels in
    let A = pops_read key target c us p.0 q.0 q.1 (omega (arith, levels)) (omega (arith, levels)) (last_row us margin (pop_words key target) e) in
    record {
      behind = popped c A.line A.under A.to;
      new = Pop A.line A.under.expr A.to.place;
      added = refl;
      tree = ap unlined (tree-Pop A.line A.under.expr A.to.place) ∙ ap (λ q. pop 0 (expr_tree A.under.expr) q) (sym (place-of A.to.place)) ∙ ap (λ k. pop 0 k (place_tree A.to.place)) A.key_tree ∙ ap (λ q. pop 0 key q) A.place;
      reads = tape_call n inside c (popped c A.line A.under A.to) us A.reads;
    }

begin_case : (line : ℕ) (count : Expression) → OneReads (begin_tapes line count)
begin_case line count n margin inside c us f e =
    let levels = f.levels in
    let A = openings_read count c us f.readable (omega (arith, levels)) (last_row us margin (open_words count) e) in
    record {
      behind = opened_tapes c A.line A.tapes;
      new = Open A.line A.tapes.expr;
      added = refl;
      tree = ap unlined (tree-Open A.line A.tapes.expr) ∙ ap (λ v. begin_tapes 0 v) A.tree;
      reads = tape_call n inside c (opened_tapes c A.line A.tapes) us A.reads;
    }

end_case : (line : ℕ) → OneReads (end_tapes line)
end_case line n margin inside c us f e =
    let A = closings_read c us (last_row us margin (call_words (codes "formad_close") ++ close_bracket) e) in
    record { behind = closed_tapes c A.line; new = Close A.line; added = refl; tree = ap unlined (tree-Close A.line); reads = tape_call n inside c (closed_tapes c A.line) us A.reads }

-- ---- loops

record LoopParts (n : ℕ) (inside : Bool) (d : Option Directive) (var : List ℕ) (first last : Expression) (by : Option Expression) (body : AdjointStatements) : Type 0 where
  direct : is_readable_directive d ≡ true
  named : is_variable var ≡ true
  from_readable : is_readable first ≡ true
  to_readable : is_readable last ≡ true
  by_readable : is_readable_step by ≡ true
  from_levels : depth first ≤ 256
  to_levels : depth last ≤ 256
  by_levels : step_depth by ≤ 256
  fits : Fit (size_of_all body) n (inside || is_parallel d)

not_true : (b : Bool) → not b ≡ true → b ≡ false
not_true false h = refl
not_true true h = absurd (let g : false ≡ true = h in cc)

body_single : (i p q : Bool) → not (p && q) ≡ true → (i && (p || q)) ≡ false → ((i || p) && q) ≡ false
body_single false false q h k = refl
body_single false true q h k = not_true q h
body_single true false q h k = k
body_single true true q h k = absurd (let g : true ≡ false = k in cc)

loop_parts : (line number : ℕ) (d : Option Directive) (var : List ℕ) (first last : Expression) (by : Option Expression) (body : AdjointStatements) (m : ℕ) (inside : Bool) →
    Fit (size (adjoint_loop line number d var first last by body)) (suc m) inside → LoopParts m inside d var first last by body
loop_parts line number d var first last by body m inside f =
    let p = and_parts (is_readable_directive d) _ f.readable in
    let q = and_parts (not (is_parallel d && has_parallel_adjoints body)) _ p.1 in
    let r = and_parts (is_variable var) _ q.1 in
    let s = and_parts (is_readable first) _ r.1 in
    let t = and_parts (is_readable last) _ s.1 in
    let u = and_parts (is_readable_step by) (are_readable_adjoint_statements body) t.1 in
    let levels = f.levels in
    let blocks = f.blocks in
    record {
      direct = p.0;
      named = r.0;
      from_readable = s.0;
      to_readable = t.0;
      by_readable = u.0;
      from_levels = omega (arith, levels);
      to_levels = omega (arith, levels);
      by_levels = omega (arith, levels);
      fits = record { readable = u.1; levels = omega (arith, levels); blocks = omega (arith, blocks); single = body_single inside (is_parallel d) (has_parallel_adjoints body) q.0 f.single };
    }

loop_with : (d1 d2 : Option Directive) (x1 x2 : List ℕ) (a1 a2 b1 b2 : Expression) (s1 s2 : Option Expression) (t1 t2 : AdjointStatements) →
    d1 ≡ d2 → x1 ≡ x2 → a1 ≡ a2 → b1 ≡ b2 → s1 ≡ s2 → t1 ≡ t2 → adjoint_loop 0 0 d1 x1 a1 b1 s1 t1 ≡ adjoint_loop 0 0 d2 x2 a2 b2 s2 t2
loop_with d1 d2 x1 x2 a1 a2 b1 b2 s1 s2 t1 t2 d x a b s t = cc

-- the line of a loop, its body and its end
record LoopRest (m : ℕ) (within_ : Bool) (from : ℕ) (us : Lexemes) (var : List ℕ) (first last : Expression) (by : Option Expression) (body : AdjointStatements) : Type 0 where
  heads : Lexemes
  bodies : Lexemes
  ends : Lexemes
  is : us ≡ heads ++ (bodies ++ ends)
  head : HasLoopLine heads var first last by
  inner : AreBlock m within_ (block_from (next_loop from)) bodies body
  end_line : ℕ
  end : plain.end_do end_line ends

loop_rest : (d : Option Directive) (var : List ℕ) (first last : Expression) (by : Option Expression) (body : AdjointStatements) (m margin : ℕ) (inside : Bool) (from : ℕ) (us : Lexemes) → AllRead body →
    LoopParts m inside d var first last by body →
    map unplaced us ≡ (words_lexemes (variable_words var ++ bounds_words first last by) ++ end_lexeme ∷ []) ++ rows_lexemes (adjoint_block_rows (margin + 2) body ++ end_row margin (codes "do") ∷ []) →
    LoopRest m (inside || is_parallel d) from us var first last by body
loop_rest d var first last by body m margin inside from us all P e =
    let Goal : Lexemes → Type 0 = λ v. LoopRest m (inside || is_parallel d) from v var first last by body in
    cut us (words_lexemes (variable_words var ++ bounds_words first last by) ++ end_lexeme ∷ []) _ Goal e (λ hs w1 p1 q1.
    cut_rows w1 (adjoint_block_rows (margin + 2) body) (end_row margin (codes "do") ∷ []) (λ v. Goal (hs ++ v)) q1 (λ bs es p2 q2.
    let E = end_do_read es (last_row es margin (end_words (codes "do")) q2) in
    record {
      heads = hs;
      bodies = bs;
      ends = es;
      is = refl;
      head = loops_read var first last by hs P.named P.from_readable P.to_readable P.by_readable P.from_levels P.to_levels P.by_levels p1;
      inner = all m (margin + 2) (inside || is_parallel d) (block_from (next_loop from)) bs P.fits p2;
      end_line = E.0;
      end = E.1;
    }))

or_false : (b : Bool) → (b || false) ≡ b
or_false true = refl
or_false false = refl

do_tree : (l : ℕ) (c : Block) (n : ℕ) (inside : Bool) (d1 d : Option Directive) (var : List ℕ) (first last : Expression) (by : Option Expression) (body : AdjointStatements) (hs bs : Lexemes) (line number : ℕ) →
    (H : HasLoopLine hs var first last by) (B : AreBlock n inside (block_from (next_loop c.loops)) bs body) → unlined_directive d1 ≡ unlined_directive d →
    unlined (astmt_tree (Do l (next_loop c.loops) d1 H.head.var H.head.first H.head.last H.head.step B.behind.stmts)) ≡ unlined (adjoint_loop line number d var first last by body)
do_tree l c n inside d1 d var first last by body hs bs line number H B f =
    ap unlined (tree-Do l (next_loop c.loops) d1 H.head.var H.head.first H.head.last H.head.step B.behind.stmts)
    ∙ loop_with (unlined_directive d1) (unlined_directive d) H.head.var var (expr_tree H.head.first) first (expr_tree H.head.last) last (step_tree H.head.step) by
    (unlined_all (astmt_trees B.behind.stmts)) (unlined_all body) f H.name H.from H.to H.by (ap (λ v. unlined_all (astmt_trees v)) B.added ∙ B.trees)

no_depth : {A : Type 0} (b : ℕ) → b + 1 ≤ 0 → A
no_depth b h = absurd (omega (arith, h))

do_case : (line number : ℕ) (var : List ℕ) (first last : Expression) (by : Option Expression) (body : AdjointStatements) → AllRead body → OneReads (adjoint_loop line number None var first last by body)
do_case line number var first last by body all zero margin inside c us f e = no_depth _ f.blocks
do_case line number var first last by body all (suc m) margin inside c us f e =
    let t = adjoint_loop line number None var first last by body in
    let P = loop_parts line number None var first last by body m inside f in
    let R = loop_rest None var first last by body m margin inside c.loops us all P e in
    let B = subst (λ (i : Bool). AreBlock m i (block_from (next_loop c.loops)) R.bodies body) (or_false inside) R.inner in
    subst (λ (v : Lexemes). IsOne (suc m) inside c v t) (sym R.is)
    (record {
      behind = looped c None (parts_of R.head.head B.behind);
      new = Do R.head.head.line (next_loop c.loops) None R.head.head.var R.head.head.first R.head.head.last R.head.head.step B.behind.stmts;
      added = refl;
      tree = do_tree R.head.head.line c m inside None None var first last by body R.heads R.bodies line number R.head B refl;
      reads = plain_loop m inside c R.head.head B.behind R.end_line R.heads R.bodies R.ends R.head.reads B.reads R.end;
    })

alone : (i q : Bool) → (i && (true || q)) ≡ false → i ≡ false
alone false q h = refl
alone true q h = absurd (let g : true ≡ false = h in cc)

parallel_in : (line number : ℕ) (d : Directive) (var : List ℕ) (first last : Expression) (by : Option Expression) (body : AdjointStatements) → AllRead body → (m margin : ℕ) (c : Block) (us : Lexemes) →
    Fit (size (adjoint_loop line number (Some d) var first last by body)) (suc m) false → map unplaced us ≡ rows_lexemes (adjoint_rows margin (adjoint_loop line number (Some d) var first last by body)) →
    IsOne (suc m) false c us (adjoint_loop line number (Some d) var first last by body)
parallel_in line number d var first last by body all m margin c us f e =
    let t = adjoint_loop line number (Some d) var first last by body in
    let P = loop_parts line number (Some d) var first last by body m false f in
    cut_one us (lexical 0 Sentinel (codes "!$omp")) _ (λ v. IsOne (suc m) false c v t) e (λ t1 w1 p1 q1.
    cut w1 (words_lexemes (parallel_words d) ++ end_lexeme ∷ []) _ (λ v. IsOne (suc m) false c (t1 ∷ v) t) q1 (λ ds w2 p2 q2.
    let R = loop_rest (Some d) var first last by body m margin false c.loops w2 all P q2 in
    let B = R.inner in
    subst (λ (v : Lexemes). IsOne (suc m) false c (t1 ∷ (ds ++ v)) t) (sym R.is)
    (record {
      behind = looped c (Some (at_line d t1.line)) (parts_of R.head.head B.behind);
      new = Do R.head.head.line (next_loop c.loops) (Some (at_line d t1.line)) R.head.head.var R.head.head.first R.head.head.last R.head.head.step B.behind.stmts;
      added = refl;
      tree = do_tree R.head.head.line c m true (Some (at_line d t1.line)) (Some d) var first last by body R.heads R.bodies line number R.head B refl;
      reads =
          parallel_loop m c t1 (at_line d t1.line) ds R.head.head B.behind R.end_line R.heads R.bodies R.ends (sentinel_read t1 p1) (directives_read d t1.line ds P.direct p2) R.head.reads B.reads R.end;
    })))

parallel_case : (line number : ℕ) (d : Directive) (var : List ℕ) (first last : Expression) (by : Option Expression) (body : AdjointStatements) → AllRead body → OneReads (adjoint_loop line number (Some d) var first last by body)
parallel_case line number d var first last by body all zero margin inside c us f e = no_depth _ f.blocks
parallel_case line number d var first last by body all (suc m) margin false c us f e = parallel_in line number d var first last by body all m margin c us f e
parallel_case line number d var first last by body all (suc m) margin true c us f e = absurd (let g = alone true (has_parallel_adjoints body) f.single in cc)

-- ---- arms

no_arms_case : ArmsRead no_adjoint_arms
no_arms_case m margin inside line before from us f e =
    cut_none us (λ v. AreArms m inside line before from v no_adjoint_arms) e
    (record { all = before; news = []; until = from; added = sym (append-nil before); trees = refl; reads = no_part m inside (opened line before from) })

arm_with : (a b : Condition) (x y : AdjointStatements) (as_ bs : AdjointArms) → a ≡ b → x ≡ y → as_ ≡ bs → adjoint_arm a x as_ ≡ adjoint_arm b y bs
arm_with a b x y as_ bs e f g = cc

tree-Arm : (a : AArm) → aarm_tree a ≡ (cond_tree a.test, astmt_trees a.body)
tree-Arm a = fold_out-AArm AdjointStatement (Condition × AdjointStatements) astmt_level aarm_level a

arms_tree : (test : Condition) (body : AdjointStatements) (rest : AdjointArms) (n : ℕ) (inside : Bool) (from : ℕ) (gs bs : Lexemes) (G : IsGuard gs test) (B : AreBlock n inside (block_from from) bs body) (news : List AArm) →
    unlined_arms (aarm_trees news) ≡ unlined_arms rest → unlined_arms (aarm_trees (arm_of G.value.cond B.behind.stmts ∷ news)) ≡ unlined_arms (adjoint_arm test body rest)
arms_tree test body rest n inside from gs bs G B news e =
    let a = arm_of G.value.cond B.behind.stmts in
    ap (λ (p : Condition × AdjointStatements). adjoint_arm p.0 (unlined_all p.1) (unlined_arms (aarm_trees news))) (tree-Arm a)
    ∙ arm_with (cond_tree G.value.cond) test (unlined_all (astmt_trees B.behind.stmts)) (unlined_all body) (unlined_arms (aarm_trees news)) (unlined_arms rest) G.tree
    (ap (λ v. unlined_all (astmt_trees v)) B.added ∙ B.trees) e

arm_case : (test : Condition) (body : AdjointStatements) (rest : AdjointArms) → AllRead body → ArmsRead rest → ArmsRead (adjoint_arm test body rest)
arm_case test body rest all more m margin inside line before from us f e =
    let Goal : Lexemes → Type 0 = λ v. AreArms m inside line before from v (adjoint_arm test body rest) in
    let u = untested (is_readable_condition test) (condition_depth test) (both (size_of_all body) (size_of_arms rest)) m inside f in
    let fb = left (size_of_all body) (size_of_arms rest) m inside u.1.1 in
    cut_row us margin (test_words true test) (adjoint_block_rows (margin + 2) body ++ adjoint_arm_rows margin true rest) Goal e (λ ls w1 p1 q1.
    later_test test ls (λ v. Goal (v ++ w1)) u.0 u.1.0 p1 (λ t1 t2 gs t3 e1 f1 f2 G f3 h1.
    cut_rows w1 (adjoint_block_rows (margin + 2) body) (adjoint_arm_rows margin true rest) (λ v. Goal (((t1 ∷ t2 ∷ (gs ++ t3 ∷ [])) ++ e1 ∷ []) ++ v)) q1 (λ bs ws p2 q2.
    let B = all m (margin + 2) inside (block_from from) bs fb p2 in
    let fr = right (size_of_all body) (size_of_arms rest) m inside u.1.1 in
    let a = arm_of G.value.cond B.behind.stmts in
    let A = more m margin inside line (before ++ a ∷ []) B.behind.loops ws fr q2 in
    subst (λ (v : Lexemes). AreArms m inside line before from v (adjoint_arm test body rest)) (regroup t1 t2 t3 e1 gs bs ws)
    (record {
      all = A.all;
      news = a ∷ A.news;
      until = A.until;
      added = A.added ∙ append_assoc before (a ∷ []) A.news;
      trees = arms_tree test body rest m inside from gs bs G B A.news A.trees;
      reads =
          leads_on m inside (opened line before from) (opened line (before ++ a ∷ []) B.behind.loops) (opened line A.all A.until) (t1 ∷ t2 ∷ (gs ++ t3 ∷ e1 ∷ bs)) ws
          (next_arm m inside (opened line before from) t1 t2 t3 e1 G.value gs B.behind bs refl (else_read t1 f1) (if_read t2 f2) G.reads (then_read t3 f3) (end_read e1 h1) B.reads) A.reads;
    }))))
  where
    regroup : (t1 t2 t3 e : Lexeme) (gs bs ws : Lexemes) → (t1 ∷ t2 ∷ (gs ++ t3 ∷ e ∷ bs)) ++ ws ≡ ((t1 ∷ t2 ∷ (gs ++ t3 ∷ [])) ++ e ∷ []) ++ (bs ++ ws)
    regroup t1 t2 t3 e gs bs ws = simp append_assoc

-- ---- what stands behind `else`

else_case : (ss : AdjointStatements) → AllRead ss → (m margin : ℕ) (inside : Bool) (line : ℕ) (arms : List AArm) (from : ℕ) (us : Lexemes) → Fit (size_of_all ss) m inside →
    map unplaced us ≡ rows_lexemes (adjoint_else_rows margin ss) → IsElse m inside line arms from us ss
else_case no_adjoint_statements all m margin inside line arms from us f e =
    cut_none us (λ v. IsElse m inside line arms from v no_adjoint_statements) e
    (record { found = opened line arms from; is_line = refl; is_arms = refl; trees = refl; reads = no_part m inside (opened line arms from) })
else_case (adjoint_statement t rest) all m margin inside line arms from us f e =
    let ss = adjoint_statement t rest in
    let Goal : Lexemes → Type 0 = λ v. IsElse m inside line arms from v ss in
    cut_row us margin (joined (codes "else") ∷ []) (adjoint_block_rows (margin + 2) ss) Goal e (λ ls bs p1 q1.
    only_word ls (joined (codes "else")) Calm (λ v. Goal (v ++ bs)) (name_step false (codes "else") Calm refl refl (stop Wordy any refl)) p1 (λ t1 e1 f1 h1.
    let B = all m (margin + 2) inside (block_from from) bs f q1 in
    record {
      found = with_other (opened line arms from) B.behind;
      is_line = refl;
      is_arms = refl;
      trees = ap (λ v. unlined_all (astmt_trees v)) B.added ∙ B.trees;
      reads = the_else m inside (opened line arms from) t1 e1 B.behind bs refl (else_read t1 f1) (end_read e1 h1) B.reads;
    }))

-- ---- Ifs

branch_with : (a b : AdjointArms) (x y : AdjointStatements) → a ≡ b → x ≡ y → adjoint_branch 0 a x ≡ adjoint_branch 0 b y
branch_with a b x y e f = cc

-- an If is a block more
within : (line : ℕ) (as_ : AdjointArms) (other : AdjointStatements) (m : ℕ) (inside : Bool) → Fit (size (adjoint_branch line as_ other)) (suc m) inside → Fit (both (size_of_arms as_) (size_of_all other)) m inside
within line as_ other m inside f =
    let blocks = f.blocks in
    record { readable = (and_parts (has_adjoint_arm as_) _ f.readable).1; levels = f.levels; blocks = omega (arith, blocks); single = f.single }

branch_tree : (m : ℕ) (inside : Bool) (line old from : ℕ) (arms : List AArm) (os : Lexemes) (as_ : AdjointArms) (other : AdjointStatements) (O : IsElse m inside line arms from os other) → unlined_arms (aarm_trees arms) ≡ unlined_arms as_ →
    unlined (astmt_tree (If O.found.line O.found.arms O.found.other)) ≡ unlined (adjoint_branch old as_ other)
branch_tree m inside line old from arms os as_ other O e =
    ap unlined (tree-If O.found.line O.found.arms O.found.other)
    ∙ branch_with (unlined_arms (aarm_trees O.found.arms)) (unlined_arms as_) (unlined_all (astmt_trees O.found.other)) (unlined_all other) (ap (λ v. unlined_arms (aarm_trees v)) O.is_arms ∙ e) O.trees

branch_case : (line : ℕ) (test : Condition) (body : AdjointStatements) (rest : AdjointArms) (other : AdjointStatements) → AllRead body → ArmsRead rest → AllRead other → OneReads (adjoint_branch line (adjoint_arm test body rest) other)
branch_case line test body rest other all more last zero margin inside c us f e = no_depth _ f.blocks
branch_case line test body rest other all more last (suc m) margin inside c us f e =
    let t = adjoint_branch line (adjoint_arm test body rest) other in
    let Goal : Lexemes → Type 0 = λ v. IsOne (suc m) inside c v t in
    let fz = within line (adjoint_arm test body rest) other m inside f in
    let fa = left (size_of_arms (adjoint_arm test body rest)) (size_of_all other) m inside fz in
    let fo = right (size_of_arms (adjoint_arm test body rest)) (size_of_all other) m inside fz in
    let u = untested (is_readable_condition test) (condition_depth test) (both (size_of_all body) (size_of_arms rest)) m inside fa in
    let fb = left (size_of_all body) (size_of_arms rest) m inside u.1.1 in
    let fr = right (size_of_all body) (size_of_arms rest) m inside u.1.1 in
    cut_rows us (adjoint_arm_rows margin false (adjoint_arm test body rest)) (adjoint_else_rows margin other ++ end_row margin (codes "if") ∷ []) Goal e (λ xs ys p0 q0.
    cut_row xs margin (test_words false test) (adjoint_block_rows (margin + 2) body ++ adjoint_arm_rows margin true rest) (λ v. Goal (v ++ ys)) p0 (λ ls w1 p1 q1.
    first_test test ls (λ v. Goal ((v ++ w1) ++ ys)) u.0 u.1.0 p1 (λ t1 gs t2 e1 f1 G f2 h1.
    cut_rows w1 (adjoint_block_rows (margin + 2) body) (adjoint_arm_rows margin true rest) (λ v. Goal ((((t1 ∷ (gs ++ t2 ∷ [])) ++ e1 ∷ []) ++ v) ++ ys)) q1 (λ bs ps p2 q2.
    cut_rows ys (adjoint_else_rows margin other) (end_row margin (codes "if") ∷ []) (λ v. Goal ((((t1 ∷ (gs ++ t2 ∷ [])) ++ e1 ∷ []) ++ (bs ++ ps)) ++ v)) q0 (λ os es p3 q3.
    let B = all m (margin + 2) inside (block_from c.loops) bs fb p2 in
    let a = arm_of G.value.cond B.behind.stmts in
    let A = more m margin inside t1.line (a ∷ []) B.behind.loops ps fr q2 in
    let O = else_case other last m margin inside t1.line A.all A.until os fo p3 in
    let E = end_if_read es (last_row es margin (end_words (codes "if")) q3) in
    subst (λ (v : Lexemes). IsOne (suc m) inside c v t) (regroup t1 t2 e1 gs bs ps os es)
    (record {
      behind = branched c O.found;
      new = If O.found.line O.found.arms O.found.other;
      added = refl;
      tree = branch_tree m inside t1.line line A.until A.all os (adjoint_arm test body rest) other O (ap (λ v. unlined_arms (aarm_trees v)) A.added ∙ arms_tree test body rest m inside c.loops gs bs G B A.news A.trees);
      reads =
          the_if m inside c t1 t2 e1 G.value gs B.behind bs O.found (ps ++ os) E.0 es (if_read t1 f1) G.reads (then_word_read t2 f2) (end_read e1 h1) B.reads
          (leads_on m inside (first_branch t1.line G.value.cond B.behind) (opened t1.line A.all A.until) O.found ps os A.reads O.reads) E.1;
    }))))))
  where
    regroup : (t1 t2 e : Lexeme) (gs bs ps os es : Lexemes) → t1 ∷ (gs ++ t2 ∷ e ∷ (bs ++ ((ps ++ os) ++ es))) ≡ (((t1 ∷ (gs ++ t2 ∷ [])) ++ e ∷ []) ++ (bs ++ ps)) ++ (os ++ es)
    regroup t1 t2 e gs bs ps os es = simp append_assoc

no_arm : (line : ℕ) (other : AdjointStatements) → OneReads (adjoint_branch line no_adjoint_arms other)
no_arm line other n margin inside c us f e = absurd (let g : false ≡ true = f.readable in cc)

-- ---- all

mutual
  one_read : (t : AdjointStatement) → OneReads t
  one_read (adjoint_assignment line atomic target value) = assign_case line atomic target value
  one_read (adjoint_branch line no_adjoint_arms other) = no_arm line other
  one_read (adjoint_branch line (adjoint_arm test body rest) other) = branch_case line test body rest other (all_read body) (arms_read rest) (all_read other)
  one_read (adjoint_loop line number None var first last by body) = do_case line number var first last by body (all_read body)
  one_read (adjoint_loop line number (Some d) var first last by body) = parallel_case line number d var first last by body (all_read body)
  one_read (push line key value) = push_case line key value
  one_read (pop line key target) = pop_case line key target
  one_read (begin_tapes line count) = begin_case line count
  one_read (end_tapes line) = end_case line

  all_read : (ss : AdjointStatements) → AllRead ss
  all_read no_adjoint_statements = none_case
  all_read (adjoint_statement t rest) = more_case t rest (one_read t) (all_read rest)

  arms_read : (as_ : AdjointArms) → ArmsRead as_
  arms_read no_adjoint_arms = no_arms_case
  arms_read (adjoint_arm test body rest) = arm_case test body rest (all_read body) (arms_read rest)

pub blocks_read : (ss : AdjointStatements) (n margin : ℕ) (inside : Bool) (c : Block) (us : Lexemes) → are_readable_adjoint_statements ss ≡ true → deepest_in_adjoints ss ≤ 255 → (size_of_all ss).blocks ≤ n
    → (inside && has_parallel_adjoints ss) ≡ false → map unplaced us ≡ rows_lexemes (adjoint_block_rows margin ss) → AreBlock n inside c us ss
blocks_read ss n margin inside c us h i j o e = all_read ss n margin inside c us (record { readable = h; levels = i; blocks = j; single = o }) e
