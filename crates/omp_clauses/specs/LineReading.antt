-- How directives are read.
use Rattle.std.specs.Prelude.{ℕ, Bool}
use Rattle.fl_ast.specs.declared.directive.Directive.{Directive}
use Rattle.parsing.specs.declared.symbol.Symbol.TheVariants as s
use Rattle.parsing.specs.Terminal.{is, marked}
use Rattle.parsing.specs.Reading.{Parser, ◌>>=◌, pure, token, choose}
use Rattle.omp_clauses.specs.declared.directive.DirectiveLine.{DirectiveLine}
use Rattle.omp_clauses.specs.declared.directive.DirectiveLine.TheVariants.{ParallelDo, EndParallelDo, Atomic, EndAtomic}
use Rattle.omp_clauses.specs.Said.{nothing}
use Rattle.omp_clauses.specs.ClauseReading.{clauses}

unfoldable pub parallel_do : Bool → ℕ → Parser Directive
parallel_do once line = do
  parallel ← token (marked s.Parallel)
  do_ ← token (marked s.Do)
  found ← clauses once (nothing line)
  eol ← token (marked s.LineEnd)
  pure found.directive

unfoldable pub loop_line : Bool → ℕ → Parser DirectiveLine
loop_line once line = do
  directive ← parallel_do once line
  pure (ParallelDo directive)

unfoldable pub after_atomic : Parser ℕ
after_atomic = choose (is s.Update)
    (do
      update ← token (marked s.Update)
      token (marked s.LineEnd))
    (token (marked s.LineEnd))

unfoldable pub atomic : Parser ℕ
atomic = do
  atomic ← token (marked s.Atomic)
  after_atomic

unfoldable pub atomic_line : Parser DirectiveLine
atomic_line = do
  eol ← atomic
  pure Atomic

unfoldable pub end_parallel_do : Parser ℕ
end_parallel_do = do
  parallel ← token (marked s.Parallel)
  do_ ← token (marked s.Do)
  token (marked s.LineEnd)

unfoldable pub end_atomic : Parser ℕ
end_atomic = do
  atomic ← token (marked s.Atomic)
  token (marked s.LineEnd)

unfoldable pub after_end : Parser DirectiveLine
after_end = choose (is s.Parallel)
    (do
      eol ← end_parallel_do
      pure EndParallelDo)
    (do
      eol ← end_atomic
      pure EndAtomic)

unfoldable pub end_line : Parser DirectiveLine
end_line = do
  end ← token (marked s.End)
  after_end

unfoldable pub after_sentinel : Bool → ℕ → Parser DirectiveLine
after_sentinel once line = choose (is s.Parallel) (loop_line once line) (choose (is s.End) end_line atomic_line)

unfoldable pub directive_line : Bool → Parser DirectiveLine
directive_line once = do
  line ← token (marked s.Sentinel)
  after_sentinel once line
