-- The grammar of statements.
use Rattle.std.specs.Prelude.{ℕ, zero, suc, nat_lt, ◌+◌, ◌-◌, Bool, true, false, not, Option, Some, None}
use Rattle.fl_ast.specs.declared.expr.Expr.{Expr}
use Rattle.parsing.specs.declared.symbol.Symbol.TheVariants as s
use Rattle.parsing.specs.Limit.{allows, less}
use Rattle.parsing.specs.Terminal.{marked, name}
use Rattle.parsing.specs.Grammar.{Grammar, ◌>>=◌, gives, one, ◌or◌, where_, many}
use Rattle.parsing.specs.declared.cursor.Word.{Word}
use Rattle.omp_clauses.specs.LineGrammar as omp
use Rattle.fl_expressions.specs.declared.tree.Measured.{Measured}
use Rattle.fl_expressions.specs.ExprGrammar.{expr, below, subscripts}
use Rattle.fl_statements.specs.declared.block.Awaited.{Awaited}
use Rattle.fl_statements.specs.declared.block.Awaited.TheVariants.{Nothing, LoopEnd, AtomicEnd}
use Rattle.fl_statements.specs.declared.block.Block.{Block}
use Rattle.fl_statements.specs.declared.block.Target.{Target}
use Rattle.fl_statements.specs.declared.block.LoopLine.{LoopLine}
use Rattle.fl_statements.specs.declared.block.LoopParts.{LoopParts}
use Rattle.fl_statements.specs.Limits.{Limits}
use Rattle.fl_conditions.specs.declared.tree.Judged.{Judged}
use Rattle.fl_conditions.specs.CondGrammar.{cond}
use Rattle.fl_statements.specs.declared.branch.Branch.{Branch}
use Rattle.fl_statements.specs.Terminals.{plain_name, then_word}
use Rattle.fl_statements.specs.Branches.{first_branch, with_arm, with_other, branched}
use Rattle.fl_statements.specs.Trees.{block_from, scalar_target, element_target, assigned, loop_line_of, parts_of, looped, ended}

-- "enddo" eol | "end" "do" eol
unfoldable pub end_do : Grammar ℕ
end_do =
    (do
      enddo ← one (marked s.EndDo)
      one (marked s.LineEnd))
    or (do
      end ← one (marked s.End)
      do_ ← one (marked s.Do)
      one (marked s.LineEnd))

-- "endif" eol | "end" "if" eol
unfoldable pub end_if : Grammar ℕ
end_if =
    (do
      endif ← one (marked s.EndIf)
      one (marked s.LineEnd))
    or (do
      end ← one (marked s.End)
      if_ ← one (marked s.If)
      one (marked s.LineEnd))

-- "do" name "="
unfoldable pub loop_name : Grammar (ℕ × Word)
loop_name = do
  line ← one (marked s.Do)
  x ← one name
  equals ← one (marked s.Equals)
  gives (line, x)

module _ (limits : Limits) where
  -- ---- assignments

  unfoldable pub indexed_target : Word → Grammar Target
  indexed_target x = do
    found ← subscripts (nat_lt 0 limits.brackets) (below limits.brackets) (less limits.depth)
    gives (element_target x found)

  -- [ "(" expr {"," expr} ")" ] behind a name; each subscript is an expression of its own
  unfoldable pub after_target : Word → Grammar Target
  after_target x = where_ (nat_lt 0 limits.brackets) (indexed_target x) or gives (scalar_target x)

  -- "=" expr eol
  unfoldable pub right_side : Grammar Measured
  right_side = do
    equals ← one (marked s.Equals)
    e ← expr limits.brackets (less limits.depth)
    eol ← one (marked s.LineEnd)
    gives e

  -- an assignment to this name
  unfoldable pub assign_to : Bool → Block → Word → Grammar Block
  assign_to atomic c x = do
    t ← after_target x
    e ← right_side
    gives (assigned atomic c t e)

  -- place "=" expr eol
  unfoldable pub assign : Bool → Block → Grammar Block
  assign atomic c = do
    x ← one name
    assign_to atomic c x

  -- ---- loops

  -- expr ","
  unfoldable pub first_bound : Grammar Measured
  first_bound = do
    e ← expr limits.brackets (less limits.depth)
    comma ← one (marked s.Comma)
    gives e

  -- [ "," expr ]
  unfoldable pub loop_step : Grammar (Option Expr)
  loop_step =
      (do
        comma ← one (marked s.Comma)
        e ← expr limits.brackets (less limits.depth)
        gives (Some e.expr))
      or gives None

  -- "do" name "=" expr "," expr [ "," expr ] eol
  unfoldable pub loop_line : Grammar LoopLine
  loop_line = do
    x ← loop_name
    first ← first_bound
    last ← expr limits.brackets (less limits.depth)
    step ← loop_step
    eol ← one (marked s.LineEnd)
    gives (loop_line_of x first last step)

  -- ---- conditions of Ifs

  -- "(" cond ")"
  unfoldable pub guard : Grammar Judged
  guard = do
    open_ ← one (marked s.Open)
    c ← cond (limits.brackets - 1) (less (less limits.depth))
    close ← one (marked s.Close)
    gives c

  -- whether an If and an assignment under it fit
  abbrev pub has_room_for_two : Block → Bool
  has_room_for_two c = allows limits.statements (c.count + 2)

  -- an assignment to this name under a one-line `if`
  unfoldable pub conditional : Block → ℕ → Judged → Word → Grammar Block
  conditional c line test x = do
    body ← assign_to false (block_from (c.count + 1) c.loops) x
    gives (branched c (first_branch line test.cond body))

  unfoldable pub one_line : Block → ℕ → Judged → Grammar Block
  one_line c line test = do
    x ← one plain_name
    conditional c line test x

  -- whether one more statement fits
  abbrev pub has_room : Block → Bool
  has_room c = allows limits.statements (c.count + 1)

  -- The first flag says whether a block may stand in this one, `inner` is what stands in it, and the last flag says whether a parallel
  -- loop is around.
  module _ (may_nest : Bool) (inner : Bool → Block → Grammar Block) (inside : Bool) where
    -- a loop behind so many statements and loops, in a parallel one or not
    unfoldable pub loop_parts : Bool → ℕ → ℕ → Grammar LoopParts
    loop_parts within_ count loops = do
      h ← loop_line
      body ← inner within_ (block_from (count + 1) (loops + 1))
      end ← end_do
      gives (parts_of h body)

    unfoldable pub do_stmt : Block → Grammar Block
    do_stmt c = do
      p ← loop_parts inside c.count c.loops
      gives (looped c None p)

    -- ---- Ifs

    -- eol {stmt}, behind "then"
    unfoldable pub first_arm : ℕ → ℕ → ℕ → Judged → Grammar Branch
    first_arm count loops line test = do
      eol ← one (marked s.LineEnd)
      body ← inner inside (block_from (count + 1) loops)
      gives (first_branch line test.cond body)

    -- "(" cond ")" "then" eol {stmt}
    unfoldable pub another_arm : Branch → Grammar Branch
    another_arm b = do
      test ← guard
      then_ ← one (marked s.Then)
      eol ← one (marked s.LineEnd)
      body ← inner inside (block_from b.count b.loops)
      gives (with_arm b test.cond body)

    -- eol {stmt}, behind "else"
    unfoldable pub last_part : Branch → Grammar Branch
    last_part b = do
      eol ← one (marked s.LineEnd)
      body ← inner inside (block_from b.count b.loops)
      gives (with_other b body)

    unfoldable pub after_else : Branch → Grammar Branch
    after_else b =
        (do
          if_ ← one (marked s.If)
          another_arm b)
        or last_part b

    -- "elseif" .. | "else" "if" .. | "else" ..
    unfoldable pub part : Branch → Grammar Branch
    part b =
        (do
          elseif ← one (marked s.ElseIf)
          another_arm b)
        or (do
          else_ ← one (marked s.Else)
          after_else b)

    -- none behind an `else`
    unfoldable pub parts : Branch → Grammar Branch
    parts = many (λ b. where_ (not b.closed) (part b))

    unfoldable pub block_if : Block → ℕ → Judged → Grammar Block
    block_if c line test = do
      b ← first_arm c.count c.loops line test
      found ← parts b
      end ← end_if
      gives (branched c found)

    -- behind a `then`, which is a name or begins a block
    unfoldable pub after_then : Block → ℕ → Judged → Word → Grammar Block
    after_then c line test x = where_ (has_room_for_two c) (conditional c line test x) or block_if c line test

    unfoldable pub then_part : Block → ℕ → Judged → Grammar Block
    then_part c line test = do
      x ← one then_word
      after_then c line test x

    unfoldable pub after_guard : Block → ℕ → Judged → Grammar Block
    after_guard c line test = where_ (has_room_for_two c) (one_line c line test) or then_part c line test

    -- "if" "(" cond ")" assign | "if" "(" cond ")" "then" eol {stmt} { else-if } [ else ] "end" "if" eol
    unfoldable pub if_stmt : Block → Grammar Block
    if_stmt c = do
      line ← one (marked s.If)
      test ← guard
      after_guard c line test

    -- ---- directives, behind their sentinel

    -- "parallel" "do" { [","] clause } eol do
    unfoldable pub parallel : Block → ℕ → Grammar Block
    parallel c line = do
      d ← omp.parallel_do limits.once line
      p ← loop_parts true c.count c.loops
      gives (looped c (Some d) p)

    -- "atomic" [ "update" ] eol assign
    unfoldable pub atomic : Block → Grammar Block
    atomic c = do
      eol ← omp.atomic
      assign true c

    -- "end" "parallel" "do" eol
    unfoldable pub end_loop : Block → Grammar Block
    end_loop c = do
      end ← one (marked s.End)
      eol ← omp.end_parallel_do
      gives (ended c)

    -- "end" "atomic" eol
    unfoldable pub end_atomic : Block → Grammar Block
    end_atomic c = do
      end ← one (marked s.End)
      eol ← omp.end_atomic
      gives (ended c)

    -- an end directive stands right behind what it ends
    abbrev pub ending : Awaited → Block → Grammar Block
    ending Nothing c = λ x us. ⊥
    ending LoopEnd c = end_loop c
    ending AtomicEnd c = end_atomic c

    -- no parallel loop stands in another
    unfoldable pub after_sentinel : Block → ℕ → Grammar Block
    after_sentinel c line =
        where_ (not inside) (where_ may_nest (where_ (has_room c) (parallel c line)))
        or (where_ (has_room c) (atomic c) or ending c.awaited c)

    unfoldable pub directive : Block → Grammar Block
    directive c = do
      line ← one (marked s.Sentinel)
      after_sentinel c line

    -- ---- lists of statements

    unfoldable pub stmt : Block → Grammar Block
    stmt c =
        where_ (has_room c) (assign false c)
        or (where_ may_nest (where_ (has_room c) (do_stmt c))
        or (where_ may_nest (where_ (has_room c) (if_stmt c))
        or directive c))

    unfoldable pub block : Block → Grammar Block
    block = many stmt

  -- the statements of a block, in which so many blocks may stand in each other
  unfoldable pub stmts : ℕ → Bool → Block → Grammar Block
  stmts zero inside = block false (λ within_ c x us. ⊥) inside
  stmts (suc n) inside = block true (stmts n) inside

  -- those of a block within it
  unfoldable pub nested : ℕ → Bool → Block → Grammar Block
  nested zero = λ within_ c x us. ⊥
  nested (suc n) = stmts n
