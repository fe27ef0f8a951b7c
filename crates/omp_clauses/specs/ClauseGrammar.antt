-- The grammar of clauses.
use Rattle.std.specs.Prelude.{ℕ, Bool, true, not, ◌&&◌, Option, Some, None}
use Rattle.fl_ast.specs.declared.directive.ScheduleKind.{ScheduleKind}
use Rattle.parsing.specs.declared.symbol.Symbol.TheVariants as s
use Rattle.parsing.specs.Terminal.{marked, by, plain_number}
use Rattle.parsing.specs.Grammar.{Grammar, ◌>>=◌, gives, one, ◌or◌, where_, many}
use Rattle.omp_clauses.specs.declared.state.Sharing.{Sharing}
use Rattle.omp_clauses.specs.declared.state.Sharing.TheVariants.{Plus}
use Rattle.omp_clauses.specs.Said.{Said, has_default, has_schedule, has_collapse, with_name, with_default, with_schedule, with_collapse}
use Rattle.omp_clauses.specs.Terminals.{sharing_by, none_by, chunked_by, unchunked_by, loop_count, new_name}

-- "default" "(" ("none"|"shared") ")"
unfoldable pub default_clause : Said → Grammar Said
default_clause c = do
  word ← one (marked s.Default)
  open_ ← one (marked s.Open)
  none ← one (by none_by)
  close ← one (marked s.Close)
  gives (with_default none c)

-- [ "," number ]
unfoldable pub chunk_size : Grammar (Option ℕ)
chunk_size =
    (do
      comma ← one (marked s.Comma)
      n ← one (plain_number 2147483647)
      gives (Some n.value))
    or gives None

-- ("static"|"dynamic"|"guided") [ "," number ]
unfoldable pub chunked : Grammar (ScheduleKind × Option ℕ)
chunked = do
  kind ← one (by chunked_by)
  size ← chunk_size
  gives (kind, size)

-- "auto" | "runtime"
unfoldable pub unchunked : Grammar (ScheduleKind × Option ℕ)
unchunked = do
  kind ← one (by unchunked_by)
  gives (kind, None)

unfoldable pub schedule_kind : Grammar (ScheduleKind × Option ℕ)
schedule_kind = chunked or unchunked

-- "schedule" "(" kind ")"
unfoldable pub schedule_clause : Said → Grammar Said
schedule_clause c = do
  word ← one (marked s.Schedule)
  open_ ← one (marked s.Open)
  schedule ← schedule_kind
  close ← one (marked s.Close)
  gives (with_schedule schedule c)

-- "collapse" "(" number ")"
unfoldable pub collapse_clause : Said → Grammar Said
collapse_clause c = do
  word ← one (marked s.Collapse)
  open_ ← one (marked s.Open)
  loops ← one loop_count
  close ← one (marked s.Close)
  gives (with_collapse loops c)

module _ (once : Bool) where
  -- "," name
  unfoldable pub another_name : Sharing → Said → Grammar Said
  another_name sharing c = do
    comma ← one (marked s.Comma)
    x ← one (new_name once c)
    gives (with_name sharing c x.name)

  unfoldable pub more_names : Sharing → Said → Grammar Said
  more_names sharing = many (λ c. where_ true (another_name sharing c))

  -- "(" name { "," name } ")", but for the bracket that opens
  unfoldable pub names : Sharing → Said → Grammar Said
  names sharing c = do
    x ← one (new_name once c)
    found ← more_names sharing (with_name sharing c x.name)
    close ← one (marked s.Close)
    gives found

  -- ("private"|"firstprivate"|"shared") "(" names ")"
  unfoldable pub sharing_clause : Said → Grammar Said
  sharing_clause c = do
    sharing ← one (by sharing_by)
    open_ ← one (marked s.Open)
    names sharing c

  -- "reduction" "(" "+" ":" names ")"
  unfoldable pub reduction_clause : Said → Grammar Said
  reduction_clause c = do
    word ← one (marked s.Reduction)
    open_ ← one (marked s.Open)
    plus ← one (marked s.Plus)
    colon ← one (marked s.Colon)
    names Plus c

  unfoldable pub list_clause : Said → Grammar Said
  list_clause c = sharing_clause c or reduction_clause c

  -- those that stand once come first
  unfoldable pub clause : Said → Grammar Said
  clause c =
      where_ (not (once && has_default c)) (default_clause c)
      or (where_ (not (once && has_schedule c)) (schedule_clause c)
      or (where_ (not (once && has_collapse c)) (collapse_clause c)
      or list_clause c))

  -- "," clause
  unfoldable pub comma_clause : Said → Grammar Said
  comma_clause c = do
    comma ← one (marked s.Comma)
    clause c

  -- [ "," ] clause
  unfoldable pub next_clause : Said → Grammar Said
  next_clause c = comma_clause c or clause c

  unfoldable pub clauses : Said → Grammar Said
  clauses = many (λ c. where_ true (next_clause c))
