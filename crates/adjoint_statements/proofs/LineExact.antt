-- Assignments and the calls of the tape are read exactly.
use Rattle.std.proofs.Common.{ℕ, ◌-◌, Bool, false, [], ◌∷◌, refl}
use Rattle.parsing.specs.declared.symbol.Symbol.{Symbol}
use Rattle.parsing.specs.declared.symbol.Symbol.TheVariants as s
use Rattle.parsing.specs.declared.cursor.Word.{Word}
use Rattle.parsing.specs.declared.fault.Cause.TheVariants.{Deep}
use Rattle.parsing.specs.Freed.{Freed, Frees}
use Rattle.parsing.specs.Limit.{less as fewer}
use Rattle.parsing.specs.Terminal.{same, on, is, names}
use Rattle.parsing.specs.Grammar.{◌or◌}
use Rattle.adjoint_expressions.specs.AdjointGrammar as ga
use Rattle.adjoint_expressions.specs.AdjointReading as pa
use Rattle.fl_conditions.specs.declared.tree.Judged.{Judged}
use Rattle.fl_statements.specs.Limits.{Limits}
use Rattle.fl_statements.specs.Trees.{scalar_target}
use Rattle.fl_statements.specs.Terminals.{plain_names, begins_rest}
use Rattle.fl_statements.specs.StmtGrammar as gs
use Rattle.adjoint_statements.specs.declared.block.Block.{Block}
use Rattle.adjoint_statements.specs.Rooms.{narrower}
use Rattle.adjoint_statements.specs.Trees.{block_from, assigned, pushed, popped, opened, closed, first_branch, branched}
use Rattle.adjoint_statements.specs.AdjointStmtGrammar as g
use Rattle.adjoint_statements.specs.AdjointStmtReading as p
use Rattle.parsing.proofs.Outcomes.{never}
use Rattle.parsing.proofs.Exact.{Exact, frees_less, Begins, pure_exact, seq}
use Rattle.parsing.proofs.Rules.{either, begins_seq, begins_or, begins_where, meets_never, mapped, opens_or, opens_begins, opens_gives, begins_opens}
use Rattle.parsing.proofs.OnSymbols.{among, meets, begins_in, begins_mark, begins_name, mark_exact, name_exact, mark_then}
use Rattle.fl_expressions.proofs.Exprs.{binds, expr_exact}
use Rattle.adjoint_expressions.proofs.AdjointExprs.{adjoint_expr_exact}
use Rattle.fl_statements.proofs.AssignExact.{plain_name_exact, begins_plain_name, indexed_target_begins, after_target_exact}
use Rattle.adjoint_statements.proofs.Widths.{Widths, one_fewer}

module _ (l : Freed) (limits wide : Limits) (V : Widths l limits wide) where
  abbrev F : Frees l Deep (fewer limits.depth) (fewer wide.depth)
  F = frees_less V.outer.depth

  -- ---- assignments

  value_exact : Exact l (ga.adjoint_expr limits.brackets (fewer limits.depth)) (on binds) (pa.adjoint_expr limits.brackets (fewer limits.depth)) (pa.adjoint_expr wide.brackets (fewer wide.depth))
  value_exact = adjoint_expr_exact l limits.brackets wide.brackets V.outer.brackets (fewer limits.depth) (fewer wide.depth) F

  right_side_exact : Exact l (g.right_side limits) never (p.right_side limits) (p.right_side wide)
  unfolding g.right_side p.right_side
  right_side_exact = mark_then s.Equals _ _ _ (λ _. seq value_exact (λ e. mark_then s.LineEnd _ _ _ (λ _. pure_exact e))
      (λ e. meets (same s.LineEnd) binds never _ (begins_seq _ (begins_mark s.LineEnd)) refl refl))

  right_side_begins : Begins (g.right_side limits) (is s.Equals)
  unfolding g.right_side
  right_side_begins = begins_seq _ (begins_mark s.Equals)

  assign_to_exact : (atomic : Bool) (c : Block) (x : Word) → Exact l (g.assign_to limits atomic c x) never (p.assign_to limits atomic c x) (p.assign_to wide atomic c x)
  unfolding g.assign_to p.assign_to
  assign_to_exact atomic c x = seq (after_target_exact l limits wide V.outer x) (λ t. mapped right_side_exact (assigned atomic c t)) (λ t. meets (same s.Equals) (same s.Open) never _ (begins_seq _ right_side_begins) refl refl)

  pub assign_exact : (atomic : Bool) (c : Block) → Exact l (g.assign limits atomic c) never (p.assign limits atomic c) (p.assign wide atomic c)
  unfolding g.assign p.assign
  assign_exact atomic c = seq name_exact (assign_to_exact atomic c) (λ x. meets_never never _)

  pub assign_begins : (atomic : Bool) (c : Block) → Begins (g.assign limits atomic c) (on names)
  unfolding g.assign
  assign_begins atomic c = begins_seq _ begins_name

  -- a target's name is followed by these
  rest_begins : (atomic : Bool) (c : Block) (x : Word) → Begins (g.assign_to limits atomic c x) (on begins_rest)
  unfolding g.assign_to gs.after_target
  rest_begins atomic c x = begins_opens _ _ (on begins_rest)
      (opens_or _ _ (on begins_rest) (opens_begins _ (on begins_rest) (begins_where _ _ _ (begins_in (same s.Open) begins_rest _ (indexed_target_begins l limits wide V.outer x) refl refl))) (opens_gives (scalar_target x) (on begins_rest)))
      (λ t. begins_in (same s.Equals) begins_rest _ (begins_seq _ right_side_begins) refl refl)

  -- ---- calls of the tape

  argument_exact : Exact l (g.argument limits) (on binds) (p.argument limits) (p.argument wide)
  argument_exact = expr_exact l (limits.brackets - 1) (wide.brackets - 1) (one_fewer V.outer.some V.outer.brackets) (fewer limits.depth) (fewer wide.depth) F

  key_exact : Exact l (g.key limits) never (p.key limits) (p.key wide)
  unfolding g.key p.key
  key_exact = mark_then s.Open _ _ _ (λ _. seq argument_exact (λ e. mark_then s.Comma _ _ _ (λ _. pure_exact e))
      (λ e. meets (same s.Comma) binds never _ (begins_seq _ (begins_mark s.Comma)) refl refl))

  call_end_exact : Exact l g.call_end never p.call_end p.call_end
  unfolding g.call_end p.call_end
  call_end_exact = mark_then s.Close _ _ _ (λ _. mark_exact s.LineEnd)

  call_end_begins : Begins g.call_end (is s.Close)
  unfolding g.call_end
  call_end_begins = begins_seq _ (begins_mark s.Close)

  last_argument_exact : Exact l (g.last_argument limits) never (p.last_argument limits) (p.last_argument wide)
  unfolding g.last_argument p.last_argument
  last_argument_exact = seq argument_exact (λ e. mapped call_end_exact (λ _. e)) (λ e. meets (same s.Close) binds never _ (begins_seq _ call_end_begins) refl refl)

  last_place_exact : Exact l (g.last_place limits) never (p.last_place limits) (p.last_place wide)
  unfolding g.last_place p.last_place
  last_place_exact = seq name_exact (λ x. seq (after_target_exact l (narrower limits) (narrower wide) V.inner x) (λ t. mapped call_end_exact (λ _. t))
      (λ t. meets (same s.Close) (same s.Open) never _ (begins_seq _ call_end_begins) refl refl)) (λ x. meets_never never _)

  push_exact : (c : Block) (line : ℕ) → Exact l (g.push limits c line) never (p.push limits c line) (p.push wide c line)
  unfolding g.push p.push
  push_exact c line = mark_then s.FormadPush _ _ _ (λ _. seq key_exact (λ k. mapped last_argument_exact (pushed c line k)) (λ k. meets_never never _))

  push_begins : (c : Block) (line : ℕ) → Begins (g.push limits c line) (is s.FormadPush)
  unfolding g.push
  push_begins c line = begins_seq _ (begins_mark s.FormadPush)

  pop_exact : (c : Block) (line : ℕ) → Exact l (g.pop limits c line) never (p.pop limits c line) (p.pop wide c line)
  unfolding g.pop p.pop
  pop_exact c line = mark_then s.FormadPop _ _ _ (λ _. seq key_exact (λ k. mapped last_place_exact (popped c line k)) (λ k. meets_never never _))

  pop_begins : (c : Block) (line : ℕ) → Begins (g.pop limits c line) (is s.FormadPop)
  unfolding g.pop
  pop_begins c line = begins_seq _ (begins_mark s.FormadPop)

  begin_exact : (c : Block) (line : ℕ) → Exact l (g.begin limits c line) never (p.begin limits c line) (p.begin wide c line)
  unfolding g.begin p.begin
  begin_exact c line = mark_then s.FormadOpen _ _ _ (λ _. mark_then s.Open _ _ _ (λ _. mapped last_argument_exact (opened c line)))

  begin_begins : (c : Block) (line : ℕ) → Begins (g.begin limits c line) (is s.FormadOpen)
  unfolding g.begin
  begin_begins c line = begins_seq _ (begins_mark s.FormadOpen)

  finish_exact : (c : Block) (line : ℕ) → Exact l (g.finish limits c line) never (p.finish limits c line) (p.finish wide c line)
  unfolding g.finish p.finish
  finish_exact c line = mark_then s.FormadClose _ _ _ (λ _. mark_then s.Open _ _ _ (λ _. mapped call_end_exact (λ _. closed c line)))

  finish_begins : (c : Block) (line : ℕ) → Begins (g.finish limits c line) (is s.FormadClose)
  unfolding g.finish
  finish_begins c line = begins_seq _ (begins_mark s.FormadClose)

  -- what begins the last of them, or two
  abbrev ends_list : Symbol → Bool
  ends_list = among (s.FormadOpen ∷ s.FormadClose ∷ [])

  abbrev pops : Symbol → Bool
  pops = among (s.FormadPop ∷ s.FormadOpen ∷ s.FormadClose ∷ [])

  called_exact : (c : Block) (line : ℕ) → Exact l (g.called limits c line) never (p.called limits c line) (p.called wide c line)
  unfolding g.called p.called
  called_exact c line =
      either (push_exact c line)
      (either (pop_exact c line)
      (either (begin_exact c line) (finish_exact c line) (begin_begins c line) (meets (same s.FormadClose) (same s.FormadOpen) never _ (finish_begins c line) refl refl))
      (pop_begins c line) (meets ends_list (same s.FormadPop) never _ list_begins refl refl))
      (push_begins c line) (meets pops (same s.FormadPush) never _ pop_list_begins refl refl)
    where
      list_begins : Begins (g.begin limits c line or g.finish limits c line) (on ends_list)
      list_begins = begins_or _ _ (on ends_list) (begins_in (same s.FormadOpen) ends_list _ (begin_begins c line) refl refl) (begins_in (same s.FormadClose) ends_list _ (finish_begins c line) refl refl)

      pop_list_begins : Begins (g.pop limits c line or (g.begin limits c line or g.finish limits c line)) (on pops)
      pop_list_begins = begins_or _ _ (on pops) (begins_in (same s.FormadPop) pops _ (pop_begins c line) refl refl) (begins_in ends_list pops _ list_begins refl refl)

  pub call_exact : (c : Block) → Exact l (g.call limits c) never (p.call limits c) (p.call wide c)
  unfolding g.call p.call
  call_exact c = mark_then s.Call _ _ _ (λ line. called_exact c line)

  pub call_begins : (c : Block) → Begins (g.call limits c) (is s.Call)
  unfolding g.call
  call_begins c = begins_seq _ (begins_mark s.Call)

  -- ---- one-line Ifs

  pub conditional_exact : (c : Block) (line : ℕ) (test : Judged) (x : Word) → Exact l (g.conditional limits c line test x) never (p.conditional limits c line test x) (p.conditional wide c line test x)
  unfolding g.conditional p.conditional
  conditional_exact c line test x = mapped (assign_to_exact false (block_from c.loops) x) (λ body. branched c (first_branch line test.cond body))

  pub conditional_begins : (c : Block) (line : ℕ) (test : Judged) (x : Word) → Begins (g.conditional limits c line test x) (on begins_rest)
  unfolding g.conditional
  conditional_begins c line test x = begins_seq _ (rest_begins false (block_from c.loops) x)

  pub one_line_exact : (c : Block) (line : ℕ) (test : Judged) → Exact l (g.one_line limits c line test) never (p.one_line limits c line test) (p.one_line wide c line test)
  unfolding g.one_line p.one_line
  one_line_exact c line test = seq plain_name_exact (conditional_exact c line test) (λ x. meets_never never _)

  pub one_line_begins : (c : Block) (line : ℕ) (test : Judged) → Begins (g.one_line limits c line test) (on plain_names)
  unfolding g.one_line
  one_line_begins c line test = begins_seq _ begins_plain_name
