-- The grammar of directives, each from its sentinel to the end of its line.
use Rattle.std.specs.Prelude.{ℕ, Bool}
use Rattle.fl_ast.specs.declared.directive.Directive.{Directive}
use Rattle.parsing.specs.declared.symbol.Symbol.TheVariants as s
use Rattle.parsing.specs.Terminal.{marked}
use Rattle.parsing.specs.Grammar.{Grammar, ◌>>=◌, gives, one, ◌or◌}
use Rattle.omp_clauses.specs.declared.directive.DirectiveLine.{DirectiveLine}
use Rattle.omp_clauses.specs.declared.directive.DirectiveLine.TheVariants.{ParallelDo, EndParallelDo, Atomic, EndAtomic}
use Rattle.omp_clauses.specs.Said.{nothing}
use Rattle.omp_clauses.specs.ClauseGrammar.{clauses}

-- "parallel" "do" { [","] clause } eol, behind a sentinel in this line
unfoldable pub parallel_do : Bool → ℕ → Grammar Directive
parallel_do once line = do
  parallel ← one (marked s.Parallel)
  do_ ← one (marked s.Do)
  found ← clauses once (nothing line)
  eol ← one (marked s.LineEnd)
  gives found.directive

unfoldable pub loop_line : Bool → ℕ → Grammar DirectiveLine
loop_line once line = do
  directive ← parallel_do once line
  gives (ParallelDo directive)

-- [ "update" ] eol
unfoldable pub after_atomic : Grammar ℕ
after_atomic =
    (do
      update ← one (marked s.Update)
      one (marked s.LineEnd))
    or one (marked s.LineEnd)

-- "atomic" [ "update" ] eol
unfoldable pub atomic : Grammar ℕ
atomic = do
  atomic ← one (marked s.Atomic)
  after_atomic

unfoldable pub atomic_line : Grammar DirectiveLine
atomic_line = do
  eol ← atomic
  gives Atomic

-- "parallel" "do" eol, behind "end"
unfoldable pub end_parallel_do : Grammar ℕ
end_parallel_do = do
  parallel ← one (marked s.Parallel)
  do_ ← one (marked s.Do)
  one (marked s.LineEnd)

-- "atomic" eol, behind "end"
unfoldable pub end_atomic : Grammar ℕ
end_atomic = do
  atomic ← one (marked s.Atomic)
  one (marked s.LineEnd)

unfoldable pub after_end : Grammar DirectiveLine
after_end =
    (do
      eol ← end_parallel_do
      gives EndParallelDo)
    or (do
      eol ← end_atomic
      gives EndAtomic)

-- "end" ("parallel" "do" | "atomic") eol
unfoldable pub end_line : Grammar DirectiveLine
end_line = do
  end ← one (marked s.End)
  after_end

unfoldable pub after_sentinel : Bool → ℕ → Grammar DirectiveLine
after_sentinel once line = loop_line once line or (end_line or atomic_line)

-- `once` says that names and clauses stand once
unfoldable pub directive_line : Bool → Grammar DirectiveLine
directive_line once = do
  line ← one (marked s.Sentinel)
  after_sentinel once line
