-- The grammar of an adjoint's statements.
use Rattle.std.specs.Prelude.{ℕ, zero, suc, ◌-◌, Bool, true, false, not, Some, None}
use Rattle.parsing.specs.declared.symbol.Symbol.TheVariants as s
use Rattle.parsing.specs.Limit.{less}
use Rattle.parsing.specs.Terminal.{marked, name}
use Rattle.parsing.specs.Grammar.{Grammar, ◌>>=◌, gives, one, ◌or◌, where_, many}
use Rattle.parsing.specs.declared.cursor.Word.{Word}
use Rattle.omp_clauses.specs.LineGrammar as omp
use Rattle.fl_expressions.specs.declared.tree.Measured.{Measured}
use Rattle.fl_expressions.specs.ExprGrammar.{expr}
use Rattle.fl_conditions.specs.declared.tree.Judged.{Judged}
use Rattle.adjoint_expressions.specs.declared.tree.AMeasured.{AMeasured}
use Rattle.adjoint_expressions.specs.AdjointGrammar.{adjoint_expr}
use Rattle.fl_statements.specs.declared.block.Awaited.{Awaited}
use Rattle.fl_statements.specs.declared.block.Awaited.TheVariants.{Nothing, LoopEnd, AtomicEnd}
use Rattle.fl_statements.specs.declared.block.Target.{Target}
use Rattle.fl_statements.specs.Limits.{Limits}
use Rattle.fl_statements.specs.Terminals.{plain_name, then_word}
use Rattle.fl_statements.specs.StmtGrammar.{end_do, end_if, after_target, loop_line, guard}
use Rattle.adjoint_statements.specs.declared.block.Block.{Block}
use Rattle.adjoint_statements.specs.declared.block.LoopParts.{LoopParts}
use Rattle.adjoint_statements.specs.declared.branch.Branch.{Branch}
use Rattle.adjoint_statements.specs.Rooms.{narrower}
use Rattle.adjoint_statements.specs.Trees.{block_from, next_loop, assigned, pushed, popped, opened, closed, parts_of, looped, ended, first_branch, with_arm, with_other, branched}

-- ")" eol
unfoldable pub call_end : Grammar ℕ
call_end = do
  close ← one (marked s.Close)
  one (marked s.LineEnd)

module _ (limits : Limits) where
  -- ---- assignments

  -- "=" expr eol, with `merge`
  unfoldable pub right_side : Grammar AMeasured
  right_side = do
    equals ← one (marked s.Equals)
    e ← adjoint_expr limits.brackets (less limits.depth)
    eol ← one (marked s.LineEnd)
    gives e

  -- an assignment to this name
  unfoldable pub assign_to : Bool → Block → Word → Grammar Block
  assign_to atomic c x = do
    t ← after_target limits x
    e ← right_side
    gives (assigned atomic c t e)

  -- place "=" expr eol
  unfoldable pub assign : Bool → Block → Grammar Block
  assign atomic c = do
    x ← one name
    assign_to atomic c x

  -- ---- calls of the tape

  -- expr, in brackets that are open
  abbrev pub argument : Grammar Measured
  argument = expr (limits.brackets - 1) (less limits.depth)

  -- "(" expr ","
  unfoldable pub key : Grammar Measured
  key = do
    open_ ← one (marked s.Open)
    e ← argument
    comma ← one (marked s.Comma)
    gives e

  -- expr ")" eol
  unfoldable pub last_argument : Grammar Measured
  last_argument = do
    e ← argument
    end ← call_end
    gives e

  -- place ")" eol
  unfoldable pub last_place : Grammar Target
  last_place = do
    x ← one name
    t ← after_target (narrower limits) x
    end ← call_end
    gives t

  -- "formad_push" "(" expr "," expr ")" eol
  unfoldable pub push : Block → ℕ → Grammar Block
  push c line = do
    word ← one (marked s.FormadPush)
    k ← key
    v ← last_argument
    gives (pushed c line k v)

  -- "formad_pop" "(" expr "," place ")" eol
  unfoldable pub pop : Block → ℕ → Grammar Block
  pop c line = do
    word ← one (marked s.FormadPop)
    k ← key
    t ← last_place
    gives (popped c line k t)

  -- "formad_open" "(" expr ")" eol
  unfoldable pub begin : Block → ℕ → Grammar Block
  begin c line = do
    word ← one (marked s.FormadOpen)
    open_ ← one (marked s.Open)
    n ← last_argument
    gives (opened c line n)

  -- "formad_close" "(" ")" eol
  unfoldable pub finish : Block → ℕ → Grammar Block
  finish c line = do
    word ← one (marked s.FormadClose)
    open_ ← one (marked s.Open)
    end ← call_end
    gives (closed c line)

  unfoldable pub called : Block → ℕ → Grammar Block
  called c line = push c line or (pop c line or (begin c line or finish c line))

  -- "call" push | "call" pop | "call" begin | "call" finish
  unfoldable pub call : Block → Grammar Block
  call c = do
    line ← one (marked s.Call)
    called c line

  -- ---- one-line Ifs

  -- an assignment to this name under a one-line `if`
  unfoldable pub conditional : Block → ℕ → Judged → Word → Grammar Block
  conditional c line test x = do
    body ← assign_to false (block_from c.loops) x
    gives (branched c (first_branch line test.cond body))

  unfoldable pub one_line : Block → ℕ → Judged → Grammar Block
  one_line c line test = do
    x ← one plain_name
    conditional c line test x

  -- The first flag says whether a block may stand in this one, `inner` is what stands in it, and the last flag says whether a parallel
  -- loop is around.
  module _ (may_nest : Bool) (inner : Bool → Block → Grammar Block) (inside : Bool) where
    -- a loop behind so many, in a parallel one or not
    unfoldable pub loop_parts : Bool → ℕ → Grammar LoopParts
    loop_parts within_ loops = do
      h ← loop_line limits
      body ← inner within_ (block_from (next_loop loops))
      end ← end_do
      gives (parts_of h body)

    unfoldable pub do_stmt : Block → Grammar Block
    do_stmt c = do
      p ← loop_parts inside c.loops
      gives (looped c None p)

    -- ---- Ifs

    -- eol {stmt}, behind "then"
    unfoldable pub first_arm : ℕ → ℕ → Judged → Grammar Branch
    first_arm loops line test = do
      eol ← one (marked s.LineEnd)
      body ← inner inside (block_from loops)
      gives (first_branch line test.cond body)

    -- "(" cond ")" "then" eol {stmt}
    unfoldable pub another_arm : Branch → Grammar Branch
    another_arm b = do
      test ← guard limits
      then_ ← one (marked s.Then)
      eol ← one (marked s.LineEnd)
      body ← inner inside (block_from b.loops)
      gives (with_arm b test.cond body)

    -- eol {stmt}, behind "else"
    unfoldable pub last_part : Branch → Grammar Branch
    last_part b = do
      eol ← one (marked s.LineEnd)
      body ← inner inside (block_from b.loops)
      gives (with_other b body)

    unfoldable pub after_else : Branch → Grammar Branch
    after_else b =
        (do
          if_ ← one (marked s.If)
          another_arm b)
        or last_part b

    -- "elseif" .. | "else" "if" .. | "else" ..
    unfoldable pub part : Branch → Grammar Branch
    part b =
        (do
          elseif ← one (marked s.ElseIf)
          another_arm b)
        or (do
          else_ ← one (marked s.Else)
          after_else b)

    -- none behind an `else`
    unfoldable pub parts : Branch → Grammar Branch
    parts = many (λ b. where_ (not b.closed) (part b))

    unfoldable pub block_if : Block → ℕ → Judged → Grammar Block
    block_if c line test = do
      b ← first_arm c.loops line test
      found ← parts b
      end ← end_if
      gives (branched c found)

    -- behind a `then`, which is a name or begins a block
    unfoldable pub after_then : Block → ℕ → Judged → Word → Grammar Block
    after_then c line test x = conditional c line test x or block_if c line test

    unfoldable pub then_part : Block → ℕ → Judged → Grammar Block
    then_part c line test = do
      x ← one then_word
      after_then c line test x

    unfoldable pub after_guard : Block → ℕ → Judged → Grammar Block
    after_guard c line test = one_line c line test or then_part c line test

    -- "if" "(" cond ")" assign | "if" "(" cond ")" "then" eol {stmt} { else-if } [ else ] "end" "if" eol
    unfoldable pub if_stmt : Block → Grammar Block
    if_stmt c = do
      line ← one (marked s.If)
      test ← guard limits
      after_guard c line test

    -- ---- directives, behind their sentinel

    -- "parallel" "do" { [","] clause } eol do
    unfoldable pub parallel : Block → ℕ → Grammar Block
    parallel c line = do
      d ← omp.parallel_do limits.once line
      p ← loop_parts true c.loops
      gives (looped c (Some d) p)

    -- "atomic" [ "update" ] eol assign
    unfoldable pub atomic : Block → Grammar Block
    atomic c = do
      eol ← omp.atomic
      assign true c

    -- "end" "parallel" "do" eol
    unfoldable pub end_loop : Block → Grammar Block
    end_loop c = do
      end ← one (marked s.End)
      eol ← omp.end_parallel_do
      gives (ended c)

    -- "end" "atomic" eol
    unfoldable pub end_atomic : Block → Grammar Block
    end_atomic c = do
      end ← one (marked s.End)
      eol ← omp.end_atomic
      gives (ended c)

    -- an end directive stands right behind what it ends
    abbrev pub ending : Awaited → Block → Grammar Block
    ending Nothing c = λ x us. ⊥
    ending LoopEnd c = end_loop c
    ending AtomicEnd c = end_atomic c

    -- no parallel loop stands in another
    unfoldable pub after_sentinel : Block → ℕ → Grammar Block
    after_sentinel c line = where_ (not inside) (where_ may_nest (parallel c line)) or (atomic c or ending c.awaited c)

    unfoldable pub directive : Block → Grammar Block
    directive c = do
      line ← one (marked s.Sentinel)
      after_sentinel c line

    -- ---- lists of statements

    unfoldable pub stmt : Block → Grammar Block
    stmt c = assign false c or (where_ may_nest (do_stmt c) or (where_ may_nest (if_stmt c) or (call c or directive c)))

    unfoldable pub block : Block → Grammar Block
    block = many stmt

  -- the statements of a block, in which so many blocks may stand in each other
  unfoldable pub stmts : ℕ → Bool → Block → Grammar Block
  stmts zero inside = block false (λ within_ c x us. ⊥) inside
  stmts (suc n) inside = block true (stmts n) inside
