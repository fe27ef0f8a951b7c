-- How an adjoint's statements are read.
use Rattle.std.specs.Prelude.{ℕ, zero, suc, ◌-◌, Bool, true, false, not, ◌||◌, Some, None}
use Rattle.parsing.specs.declared.symbol.Symbol.{Symbol}
use Rattle.parsing.specs.declared.symbol.Symbol.TheVariants as s
use Rattle.parsing.specs.declared.fault.Cause.TheVariants.{Expected, Deep, Construct}
use Rattle.parsing.specs.Limit.{less}
use Rattle.parsing.specs.Terminal.{is, on, same, marked, names, name}
use Rattle.parsing.specs.Reading.{Parser, ◌>>=◌, pure, token, refuse, choose, within, loop}
use Rattle.parsing.specs.declared.cursor.Word.{Word}
use Rattle.omp_clauses.specs.LineReading as omp
use Rattle.fl_expressions.specs.declared.tree.Measured.{Measured}
use Rattle.fl_expressions.specs.ExprReading.{expr}
use Rattle.fl_conditions.specs.declared.tree.Judged.{Judged}
use Rattle.adjoint_expressions.specs.declared.tree.AMeasured.{AMeasured}
use Rattle.adjoint_expressions.specs.AdjointReading.{adjoint_expr}
use Rattle.fl_statements.specs.declared.block.Awaited.{Awaited}
use Rattle.fl_statements.specs.declared.block.Awaited.TheVariants.{Nothing, LoopEnd, AtomicEnd}
use Rattle.fl_statements.specs.declared.block.Target.{Target}
use Rattle.fl_statements.specs.Limits.{Limits}
use Rattle.fl_statements.specs.Terminals.{plain_names, plain_name, then_word, begins_rest, begins_part}
use Rattle.fl_statements.specs.StmtReading.{end_do, end_if, after_target, loop_line, guard}
use Rattle.adjoint_statements.specs.declared.block.Block.{Block}
use Rattle.adjoint_statements.specs.declared.block.LoopParts.{LoopParts}
use Rattle.adjoint_statements.specs.declared.branch.Branch.{Branch}
use Rattle.adjoint_statements.specs.Rooms.{narrower}
use Rattle.adjoint_statements.specs.Trees.{block_from, next_loop, assigned, pushed, popped, opened, closed, parts_of, looped, ended, first_branch, with_arm, with_other, branched}

-- what begins a statement, or ends one behind it
abbrev pub begins_stmt : Symbol → Bool
begins_stmt a = names a || (same s.Do a || (same s.If a || (same s.Call a || same s.Sentinel a)))

unfoldable pub call_end : Parser ℕ
call_end = do
  close ← token (marked s.Close)
  token (marked s.LineEnd)

module _ (limits : Limits) where
  -- ---- assignments

  unfoldable pub right_side : Parser AMeasured
  right_side = do
    equals ← token (marked s.Equals)
    e ← adjoint_expr limits.brackets (less limits.depth)
    eol ← token (marked s.LineEnd)
    pure e

  unfoldable pub assign_to : Bool → Block → Word → Parser Block
  assign_to atomic c x = do
    t ← after_target limits x
    e ← right_side
    pure (assigned atomic c t e)

  unfoldable pub assign : Bool → Block → Parser Block
  assign atomic c = do
    x ← token name
    assign_to atomic c x

  -- ---- calls of the tape

  abbrev pub argument : Parser Measured
  argument = expr (limits.brackets - 1) (less limits.depth)

  unfoldable pub key : Parser Measured
  key = do
    open_ ← token (marked s.Open)
    e ← argument
    comma ← token (marked s.Comma)
    pure e

  unfoldable pub last_argument : Parser Measured
  last_argument = do
    e ← argument
    end ← call_end
    pure e

  unfoldable pub last_place : Parser Target
  last_place = do
    x ← token name
    t ← after_target (narrower limits) x
    end ← call_end
    pure t

  unfoldable pub push : Block → ℕ → Parser Block
  push c line = do
    word ← token (marked s.FormadPush)
    k ← key
    v ← last_argument
    pure (pushed c line k v)

  unfoldable pub pop : Block → ℕ → Parser Block
  pop c line = do
    word ← token (marked s.FormadPop)
    k ← key
    t ← last_place
    pure (popped c line k t)

  unfoldable pub begin : Block → ℕ → Parser Block
  begin c line = do
    word ← token (marked s.FormadOpen)
    open_ ← token (marked s.Open)
    n ← last_argument
    pure (opened c line n)

  unfoldable pub finish : Block → ℕ → Parser Block
  finish c line = do
    word ← token (marked s.FormadClose)
    open_ ← token (marked s.Open)
    end ← call_end
    pure (closed c line)

  unfoldable pub called : Block → ℕ → Parser Block
  called c line = choose (is s.FormadPush) (push c line) (choose (is s.FormadPop) (pop c line) (choose (is s.FormadOpen) (begin c line) (finish c line)))

  unfoldable pub call : Block → Parser Block
  call c = do
    line ← token (marked s.Call)
    called c line

  -- ---- one-line Ifs

  unfoldable pub conditional : Block → ℕ → Judged → Word → Parser Block
  conditional c line test x = do
    body ← assign_to false (block_from c.loops) x
    pure (branched c (first_branch line test.cond body))

  unfoldable pub one_line : Block → ℕ → Judged → Parser Block
  one_line c line test = do
    x ← token plain_name
    conditional c line test x

  module _ (may_nest : Bool) (inner : Bool → Block → Parser Block) (inside : Bool) where
    unfoldable pub loop_parts : Bool → ℕ → Parser LoopParts
    loop_parts within_ loops = do
      h ← loop_line limits
      body ← inner within_ (block_from (next_loop loops))
      end ← end_do
      pure (parts_of h body)

    unfoldable pub do_stmt : Block → Parser Block
    do_stmt c = do
      p ← loop_parts inside c.loops
      pure (looped c None p)

    -- ---- Ifs

    unfoldable pub first_arm : ℕ → ℕ → Judged → Parser Branch
    first_arm loops line test = do
      eol ← token (marked s.LineEnd)
      body ← inner inside (block_from loops)
      pure (first_branch line test.cond body)

    unfoldable pub another_arm : Branch → Parser Branch
    another_arm b = do
      test ← guard limits
      then_ ← token (marked s.Then)
      eol ← token (marked s.LineEnd)
      body ← inner inside (block_from b.loops)
      pure (with_arm b test.cond body)

    unfoldable pub last_part : Branch → Parser Branch
    last_part b = do
      eol ← token (marked s.LineEnd)
      body ← inner inside (block_from b.loops)
      pure (with_other b body)

    unfoldable pub after_else : Branch → Parser Branch
    after_else b = choose (is s.If)
        (do
          if_ ← token (marked s.If)
          another_arm b)
        (last_part b)

    unfoldable pub part : Branch → Parser Branch
    part b = choose (is s.ElseIf)
        (do
          elseif ← token (marked s.ElseIf)
          another_arm b)
        (do
          else_ ← token (marked s.Else)
          after_else b)

    unfoldable pub parts : Branch → Parser Branch
    parts = loop (on begins_part) (λ b. not b.closed) Expected part

    unfoldable pub block_if : Block → ℕ → Judged → Parser Block
    block_if c line test = do
      b ← first_arm c.loops line test
      found ← parts b
      end ← end_if
      pure (branched c found)

    unfoldable pub after_then : Block → ℕ → Judged → Word → Parser Block
    after_then c line test x = choose (on begins_rest) (conditional c line test x) (block_if c line test)

    unfoldable pub then_part : Block → ℕ → Judged → Parser Block
    then_part c line test = do
      x ← token then_word
      after_then c line test x

    unfoldable pub after_guard : Block → ℕ → Judged → Parser Block
    after_guard c line test = choose (is s.Construct) (refuse Construct) (choose (on plain_names) (one_line c line test) (then_part c line test))

    unfoldable pub if_stmt : Block → Parser Block
    if_stmt c = do
      line ← token (marked s.If)
      test ← guard limits
      after_guard c line test

    -- ---- directives, behind their sentinel

    unfoldable pub parallel : Block → ℕ → Parser Block
    parallel c line = do
      d ← omp.parallel_do limits.once line
      p ← loop_parts true c.loops
      pure (looped c (Some d) p)

    unfoldable pub atomic : Block → Parser Block
    atomic c = do
      eol ← omp.atomic
      assign true c

    unfoldable pub end_loop : Block → Parser Block
    end_loop c = do
      end ← token (marked s.End)
      eol ← omp.end_parallel_do
      pure (ended c)

    unfoldable pub end_atomic : Block → Parser Block
    end_atomic c = do
      end ← token (marked s.End)
      eol ← omp.end_atomic
      pure (ended c)

    -- an atomic statement or an end
    abbrev pub lesser : Awaited → Block → Parser Block
    lesser Nothing c = atomic c
    lesser LoopEnd c = choose (is s.Atomic) (atomic c) (end_loop c)
    lesser AtomicEnd c = choose (is s.Atomic) (atomic c) (end_atomic c)

    unfoldable pub after_sentinel : Block → ℕ → Parser Block
    after_sentinel c line = choose (is s.Parallel) (within (not inside) Construct (within may_nest Deep (parallel c line))) (lesser c.awaited c)

    unfoldable pub directive : Block → Parser Block
    directive c = do
      line ← token (marked s.Sentinel)
      after_sentinel c line

    -- ---- lists of statements

    unfoldable pub stmt : Block → Parser Block
    stmt c =
        choose (on names) (assign false c)
        (choose (is s.Do) (within may_nest Deep (do_stmt c))
        (choose (is s.If) (within may_nest Deep (if_stmt c))
        (choose (is s.Call) (call c) (directive c))))

    unfoldable pub block : Block → Parser Block
    block = loop (on begins_stmt) (λ c. true) Expected stmt

  -- the statements of a block, in which so many blocks may stand in each other
  unfoldable pub stmts : ℕ → Bool → Block → Parser Block
  stmts zero inside = block false (λ within_ c. refuse Deep) inside
  stmts (suc n) inside = block true (stmts n) inside

  -- those of a block within it
  unfoldable pub nested : ℕ → Bool → Block → Parser Block
  nested zero = λ within_ c. refuse Deep
  nested (suc n) = stmts n
