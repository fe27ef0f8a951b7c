-- How clauses are read.
use Rattle.std.specs.Prelude.{ℕ, Bool, true, false, not, ◌&&◌, Option, Some, None}
use Rattle.fl_ast.specs.declared.directive.ScheduleKind.{ScheduleKind}
use Rattle.parsing.specs.declared.symbol.Symbol.{Symbol}
use Rattle.parsing.specs.declared.symbol.Symbol.TheVariants as s
use Rattle.parsing.specs.declared.cursor.Word.{Word}
use Rattle.parsing.specs.declared.fault.Cause.TheVariants.{Expected, Twice}
use Rattle.parsing.specs.Terminal.{is, on, marked, by, reads, name, plain_number}
use Rattle.parsing.specs.Reading.{Parser, ◌>>=◌, pure, refuse, token, choose, within, loop}
use Rattle.omp_clauses.specs.declared.state.Sharing.{Sharing}
use Rattle.omp_clauses.specs.declared.state.Sharing.TheVariants.{Plus}
use Rattle.omp_clauses.specs.Said.{Said, has_default, has_schedule, has_collapse, with_name, with_default, with_schedule, with_collapse}
use Rattle.omp_clauses.specs.Terminals.{sharing_by, none_by, chunked_by, unchunked_by, loop_count, repeats}

unfoldable pub default_clause : Said → Parser Said
default_clause c = do
  word ← token (marked s.Default)
  open_ ← token (marked s.Open)
  none ← token (by none_by)
  close ← token (marked s.Close)
  pure (with_default none c)

unfoldable pub chunk_size : Parser (Option ℕ)
chunk_size = choose (is s.Comma)
    (do
      comma ← token (marked s.Comma)
      n ← token (plain_number 2147483647)
      pure (Some n.value))
    (pure None)

unfoldable pub chunked : Parser (ScheduleKind × Option ℕ)
chunked = do
  kind ← token (by chunked_by)
  size ← chunk_size
  pure (kind, size)

unfoldable pub unchunked : Parser (ScheduleKind × Option ℕ)
unchunked = do
  kind ← token (by unchunked_by)
  pure (kind, None)

unfoldable pub schedule_kind : Parser (ScheduleKind × Option ℕ)
schedule_kind = choose (on (reads chunked_by)) chunked unchunked

unfoldable pub schedule_clause : Said → Parser Said
schedule_clause c = do
  word ← token (marked s.Schedule)
  open_ ← token (marked s.Open)
  schedule ← schedule_kind
  close ← token (marked s.Close)
  pure (with_schedule schedule c)

unfoldable pub collapse_clause : Said → Parser Said
collapse_clause c = do
  word ← token (marked s.Collapse)
  open_ ← token (marked s.Open)
  loops ← token loop_count
  close ← token (marked s.Close)
  pure (with_collapse loops c)

-- what begins a clause
abbrev pub begins_clause : Symbol → Bool
begins_clause s.Default = true
begins_clause s.Schedule = true
begins_clause s.Collapse = true
begins_clause s.Private = true
begins_clause s.FirstPrivate = true
begins_clause s.Shared = true
begins_clause s.Reduction = true
begins_clause _ = false

-- what begins one behind another
abbrev pub goes_on : Symbol → Bool
goes_on s.Comma = true
goes_on a = begins_clause a

module _ (once : Bool) where
  -- a name, which is refused where a clause lists it already
  unfoldable pub new_name : Said → Parser Word
  new_name c = choose (repeats once c) (refuse Twice) (token name)

  unfoldable pub another_name : Sharing → Said → Parser Said
  another_name sharing c = do
    comma ← token (marked s.Comma)
    x ← new_name c
    pure (with_name sharing c x.name)

  unfoldable pub more_names : Sharing → Said → Parser Said
  more_names sharing = loop (is s.Comma) (λ c. true) Expected (another_name sharing)

  unfoldable pub names : Sharing → Said → Parser Said
  names sharing c = do
    x ← new_name c
    found ← more_names sharing (with_name sharing c x.name)
    close ← token (marked s.Close)
    pure found

  unfoldable pub sharing_clause : Said → Parser Said
  sharing_clause c = do
    sharing ← token (by sharing_by)
    open_ ← token (marked s.Open)
    names sharing c

  unfoldable pub reduction_clause : Said → Parser Said
  reduction_clause c = do
    word ← token (marked s.Reduction)
    open_ ← token (marked s.Open)
    plus ← token (marked s.Plus)
    colon ← token (marked s.Colon)
    names Plus c

  unfoldable pub list_clause : Said → Parser Said
  list_clause c = choose (on (reads sharing_by)) (sharing_clause c) (reduction_clause c)

  unfoldable pub clause : Said → Parser Said
  clause c =
      choose (is s.Default) (within (not (once && has_default c)) Twice (default_clause c))
      (choose (is s.Schedule) (within (not (once && has_schedule c)) Twice (schedule_clause c))
      (choose (is s.Collapse) (within (not (once && has_collapse c)) Twice (collapse_clause c))
      (list_clause c)))

  unfoldable pub comma_clause : Said → Parser Said
  comma_clause c = do
    comma ← token (marked s.Comma)
    clause c

  unfoldable pub next_clause : Said → Parser Said
  next_clause c = choose (is s.Comma) (comma_clause c) (clause c)

  unfoldable pub clauses : Said → Parser Said
  clauses = loop (on goes_on) (λ c. true) Expected next_clause
