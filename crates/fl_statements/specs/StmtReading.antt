-- How statements are read.
use Rattle.std.specs.Prelude.{ℕ, zero, suc, nat_lt, ◌+◌, ◌-◌, Bool, true, false, not, ◌||◌, Option, Some, None}
use Rattle.fl_ast.specs.declared.expr.Expr.{Expr}
use Rattle.parsing.specs.declared.symbol.Symbol.{Symbol}
use Rattle.parsing.specs.declared.symbol.Symbol.TheVariants as s
use Rattle.parsing.specs.declared.fault.Cause.TheVariants.{Expected, Deep, Many, Construct}
use Rattle.parsing.specs.Limit.{allows, less}
use Rattle.parsing.specs.Terminal.{is, on, same, marked, names, name}
use Rattle.parsing.specs.Reading.{Parser, ◌>>=◌, pure, token, refuse, choose, within, loop}
use Rattle.parsing.specs.declared.cursor.Word.{Word}
use Rattle.omp_clauses.specs.LineReading as omp
use Rattle.fl_expressions.specs.declared.tree.Measured.{Measured}
use Rattle.fl_expressions.specs.ExprReading.{expr, below, subscripts}
use Rattle.fl_statements.specs.declared.block.Awaited.{Awaited}
use Rattle.fl_statements.specs.declared.block.Awaited.TheVariants.{Nothing, LoopEnd, AtomicEnd}
use Rattle.fl_statements.specs.declared.block.Block.{Block}
use Rattle.fl_statements.specs.declared.block.Target.{Target}
use Rattle.fl_statements.specs.declared.block.LoopLine.{LoopLine}
use Rattle.fl_statements.specs.declared.block.LoopParts.{LoopParts}
use Rattle.fl_statements.specs.Limits.{Limits}
use Rattle.fl_conditions.specs.declared.tree.Judged.{Judged}
use Rattle.fl_conditions.specs.CondReading.{cond}
use Rattle.fl_statements.specs.declared.branch.Branch.{Branch}
use Rattle.fl_statements.specs.Terminals.{plain_names, plain_name, then_word, is_construct, begins_rest, begins_part}
use Rattle.fl_statements.specs.Branches.{first_branch, with_arm, with_other, branched}
use Rattle.fl_statements.specs.Trees.{block_from, scalar_target, element_target, assigned, loop_line_of, parts_of, looped, ended, is_awaited}

unfoldable pub end_do : Parser ℕ
end_do = choose (is s.EndDo)
    (do
      enddo ← token (marked s.EndDo)
      token (marked s.LineEnd))
    (do
      end ← token (marked s.End)
      do_ ← token (marked s.Do)
      token (marked s.LineEnd))

unfoldable pub end_if : Parser ℕ
end_if = choose (is s.EndIf)
    (do
      endif ← token (marked s.EndIf)
      token (marked s.LineEnd))
    (do
      end ← token (marked s.End)
      if_ ← token (marked s.If)
      token (marked s.LineEnd))

unfoldable pub loop_name : Parser (ℕ × Word)
loop_name = do
  line ← token (marked s.Do)
  x ← token name
  equals ← token (marked s.Equals)
  pure (line, x)

-- what begins a statement, or ends one behind it
abbrev pub begins_stmt : Symbol → Bool
begins_stmt a = names a || (same s.Do a || (same s.If a || same s.Sentinel a))

module _ (limits : Limits) where
  -- ---- assignments

  unfoldable pub indexed_target : Word → Parser Target
  indexed_target x = do
    found ← subscripts (nat_lt 0 limits.brackets) (below limits.brackets) (less limits.depth)
    pure (element_target x found)

  unfoldable pub after_target : Word → Parser Target
  after_target x = choose (is s.Open) (within (nat_lt 0 limits.brackets) Deep (indexed_target x)) (pure (scalar_target x))

  unfoldable pub right_side : Parser Measured
  right_side = do
    equals ← token (marked s.Equals)
    e ← expr limits.brackets (less limits.depth)
    eol ← token (marked s.LineEnd)
    pure e

  unfoldable pub assign_to : Bool → Block → Word → Parser Block
  assign_to atomic c x = do
    t ← after_target x
    e ← right_side
    pure (assigned atomic c t e)

  unfoldable pub assign : Bool → Block → Parser Block
  assign atomic c = do
    x ← token name
    assign_to atomic c x

  -- ---- loops

  unfoldable pub first_bound : Parser Measured
  first_bound = do
    e ← expr limits.brackets (less limits.depth)
    comma ← token (marked s.Comma)
    pure e

  unfoldable pub loop_step : Parser (Option Expr)
  loop_step = choose (is s.Comma)
      (do
        comma ← token (marked s.Comma)
        e ← expr limits.brackets (less limits.depth)
        pure (Some e.expr))
      (pure None)

  unfoldable pub loop_line : Parser LoopLine
  loop_line = do
    x ← loop_name
    first ← first_bound
    last ← expr limits.brackets (less limits.depth)
    step ← loop_step
    eol ← token (marked s.LineEnd)
    pure (loop_line_of x first last step)

  -- ---- conditions of Ifs

  unfoldable pub guard : Parser Judged
  guard = do
    open_ ← token (marked s.Open)
    c ← cond (limits.brackets - 1) (less (less limits.depth))
    close ← token (marked s.Close)
    pure c

  -- whether an If and an assignment under it fit
  abbrev pub has_room_for_two : Block → Bool
  has_room_for_two c = allows limits.statements (c.count + 2)

  unfoldable pub conditional : Block → ℕ → Judged → Word → Parser Block
  conditional c line test x = do
    body ← assign_to false (block_from (c.count + 1) c.loops) x
    pure (branched c (first_branch line test.cond body))

  unfoldable pub one_line : Block → ℕ → Judged → Parser Block
  one_line c line test = do
    x ← token plain_name
    conditional c line test x

  -- whether one more statement fits
  abbrev pub has_room : Block → Bool
  has_room c = allows limits.statements (c.count + 1)

  -- whether a directive may stand
  abbrev pub may_direct : Block → Bool
  may_direct c = has_room c || is_awaited c.awaited

  module _ (may_nest : Bool) (inner : Bool → Block → Parser Block) (inside : Bool) where
    unfoldable pub loop_parts : Bool → ℕ → ℕ → Parser LoopParts
    loop_parts within_ count loops = do
      h ← loop_line
      body ← inner within_ (block_from (count + 1) (loops + 1))
      end ← end_do
      pure (parts_of h body)

    unfoldable pub do_stmt : Block → Parser Block
    do_stmt c = do
      p ← loop_parts inside c.count c.loops
      pure (looped c None p)

    -- ---- Ifs

    unfoldable pub first_arm : ℕ → ℕ → ℕ → Judged → Parser Branch
    first_arm count loops line test = do
      eol ← token (marked s.LineEnd)
      body ← inner inside (block_from (count + 1) loops)
      pure (first_branch line test.cond body)

    unfoldable pub another_arm : Branch → Parser Branch
    another_arm b = do
      test ← guard
      then_ ← token (marked s.Then)
      eol ← token (marked s.LineEnd)
      body ← inner inside (block_from b.count b.loops)
      pure (with_arm b test.cond body)

    unfoldable pub last_part : Branch → Parser Branch
    last_part b = do
      eol ← token (marked s.LineEnd)
      body ← inner inside (block_from b.count b.loops)
      pure (with_other b body)

    unfoldable pub after_else : Branch → Parser Branch
    after_else b = choose (is s.If)
        (do
          if_ ← token (marked s.If)
          another_arm b)
        (last_part b)

    unfoldable pub part : Branch → Parser Branch
    part b = choose (is s.ElseIf)
        (do
          elseif ← token (marked s.ElseIf)
          another_arm b)
        (do
          else_ ← token (marked s.Else)
          after_else b)

    unfoldable pub parts : Branch → Parser Branch
    parts = loop (on begins_part) (λ b. not b.closed) Expected part

    unfoldable pub block_if : Block → ℕ → Judged → Parser Block
    block_if c line test = do
      b ← first_arm c.count c.loops line test
      found ← parts b
      end ← end_if
      pure (branched c found)

    unfoldable pub after_then : Block → ℕ → Judged → Word → Parser Block
    after_then c line test x = choose (on begins_rest) (within (has_room_for_two c) Many (conditional c line test x)) (block_if c line test)

    unfoldable pub then_part : Block → ℕ → Judged → Parser Block
    then_part c line test = do
      x ← token then_word
      after_then c line test x

    unfoldable pub after_guard : Block → ℕ → Judged → Parser Block
    after_guard c line test =
        choose (on is_construct) (refuse Construct)
        (choose (on plain_names) (within (has_room_for_two c) Many (one_line c line test)) (then_part c line test))

    unfoldable pub if_stmt : Block → Parser Block
    if_stmt c = do
      line ← token (marked s.If)
      test ← guard
      after_guard c line test

    -- ---- directives, behind their sentinel

    unfoldable pub parallel : Block → ℕ → Parser Block
    parallel c line = do
      d ← omp.parallel_do limits.once line
      p ← loop_parts true c.count c.loops
      pure (looped c (Some d) p)

    unfoldable pub atomic : Block → Parser Block
    atomic c = do
      eol ← omp.atomic
      assign true c

    unfoldable pub end_loop : Block → Parser Block
    end_loop c = do
      end ← token (marked s.End)
      eol ← omp.end_parallel_do
      pure (ended c)

    unfoldable pub end_atomic : Block → Parser Block
    end_atomic c = do
      end ← token (marked s.End)
      eol ← omp.end_atomic
      pure (ended c)

    -- an atomic statement or an end
    abbrev pub lesser : Awaited → Block → Parser Block
    lesser Nothing c = atomic c
    lesser LoopEnd c = choose (is s.Atomic) (within (has_room c) Many (atomic c)) (end_loop c)
    lesser AtomicEnd c = choose (is s.Atomic) (within (has_room c) Many (atomic c)) (end_atomic c)

    unfoldable pub after_sentinel : Block → ℕ → Parser Block
    after_sentinel c line =
        choose (is s.Parallel) (within (not inside) Construct (within may_nest Deep (within (has_room c) Many (parallel c line))))
        (lesser c.awaited c)

    unfoldable pub directive : Block → Parser Block
    directive c = do
      line ← token (marked s.Sentinel)
      after_sentinel c line

    -- ---- lists of statements

    unfoldable pub stmt : Block → Parser Block
    stmt c =
        choose (on names) (within (has_room c) Many (assign false c))
        (choose (is s.Do) (within may_nest Deep (within (has_room c) Many (do_stmt c)))
        (choose (is s.If) (within may_nest Deep (within (has_room c) Many (if_stmt c)))
        (within (may_direct c) Many (directive c))))

    unfoldable pub block : Block → Parser Block
    block = loop (on begins_stmt) (λ c. true) Expected stmt

  -- the statements of a block, in which so many blocks may stand in each other
  unfoldable pub stmts : ℕ → Bool → Block → Parser Block
  stmts zero inside = block false (λ within_ c. refuse Deep) inside
  stmts (suc n) inside = block true (stmts n) inside

  -- those of a block within it
  unfoldable pub nested : ℕ → Bool → Block → Parser Block
  nested zero = λ within_ c. refuse Deep
  nested (suc n) = stmts n
