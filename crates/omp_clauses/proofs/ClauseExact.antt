-- Clauses are read exactly.
use Rattle.std.proofs.Common.{Bool, true, not, ◌&&◌, [], ◌∷◌, Some, None, refl}
use Rattle.fl_ast.specs.declared.directive.ScheduleKind.TheVariants as schedule
use Rattle.tokens.specs.declared.TokenKind.TheVariants.{Number as number_kind}
use Rattle.parsing.specs.declared.symbol.Symbol.{Symbol}
use Rattle.parsing.specs.declared.symbol.Symbol.TheVariants as s
use Rattle.parsing.specs.declared.fault.Cause.TheVariants.{Expected, Twice}
use Rattle.parsing.specs.Example.{example}
use Rattle.parsing.specs.Freed.{Freed}
use Rattle.parsing.specs.Terminal.{same, on, is, reads}
use Rattle.parsing.specs.Reading.{token}
use Rattle.parsing.specs.Grammar.{one}
use Rattle.omp_clauses.specs.declared.state.Sharing.{Sharing}
use Rattle.omp_clauses.specs.declared.state.Sharing.TheVariants.{Private, Plus}
use Rattle.omp_clauses.specs.Said.{Said, has_default, has_schedule, has_collapse, with_name, with_default, with_schedule, with_collapse}
use Rattle.omp_clauses.specs.Terminals.{sharing_by, none_by, chunked_by, unchunked_by, loop_count}
use Rattle.omp_clauses.specs.Once.{Onces}
use Rattle.omp_clauses.specs.ClauseGrammar as g
use Rattle.omp_clauses.specs.ClauseReading as p
use Rattle.parsing.proofs.Outcomes.{never, differ, sees-never, shrinks_pure, shrinks_seq, Bites}
use Rattle.parsing.proofs.Exact.{Exact, always_room, Begins, pure_exact, seq, token_exact, shrinks_token, either_within}
use Rattle.parsing.proofs.Rules.{anywhere, either, optional, mapped, loop_exact, loop_exact_by, begins_seq, begins_or, begins_where, meets_never}
use Rattle.parsing.proofs.OnSymbols.{among, meets, begins_in, begins_mark, begins_by, by_exact, mark_then, bites_mark, plain_number_exact}
use Rattle.omp_clauses.proofs.Names.{new_exact, new_shrinks, once_room}

-- ---- clauses that stand once

default_exact : (l : Freed) (c : Said) → Exact l (g.default_clause c) never (p.default_clause c) (p.default_clause c)
unfolding g.default_clause p.default_clause
default_exact l c = mark_then s.Default _ _ _ (λ _. mark_then s.Open _ _ _ (λ _. seq (by_exact none_by s.NoneWord true refl)
    (λ none. mark_then s.Close _ _ _ (λ _. pure_exact (with_default none c))) (λ none. meets_never never _)))

default_begins : (c : Said) → Begins (g.default_clause c) (is s.Default)
unfolding g.default_clause
default_begins c = begins_seq _ (begins_mark s.Default)

default_bites : (c : Said) → Bites (p.default_clause c) (is s.Default)
unfolding p.default_clause
default_bites c = bites_mark s.Default _ (λ _. shrinks_seq _ _ (shrinks_token _) (λ _. shrinks_seq _ _ (shrinks_token _) (λ none. shrinks_seq _ _ (shrinks_token _) (λ _. shrinks_pure (with_default none c)))))

chunk_size_exact : (l : Freed) → Exact l g.chunk_size (is s.Comma) p.chunk_size p.chunk_size
unfolding g.chunk_size p.chunk_size
chunk_size_exact l = optional None (anywhere (mark_then s.Comma _ _ _ (λ _. seq (plain_number_exact 2147483647) (λ n. pure_exact (Some n.value)) (λ n. meets_never never _)))) (begins_seq _ (begins_mark s.Comma)) (λ rest h. h)

chunked_exact : (l : Freed) → Exact l g.chunked (is s.Comma) p.chunked p.chunked
unfolding g.chunked p.chunked
chunked_exact l = seq (by_exact chunked_by s.Static schedule.Static refl) (λ kind. mapped (chunk_size_exact l) (λ size. (kind, size))) (λ kind. meets_never (is s.Comma) _)

chunked_begins : Begins g.chunked (on (reads chunked_by))
unfolding g.chunked
chunked_begins = begins_seq _ (begins_by chunked_by)

unchunked_exact : (l : Freed) → Exact l g.unchunked never p.unchunked p.unchunked
unfolding g.unchunked p.unchunked
unchunked_exact l = mapped (by_exact unchunked_by s.Auto schedule.Auto refl) (λ kind. (kind, None))

unchunked_begins : Begins g.unchunked (on (reads unchunked_by))
unfolding g.unchunked
unchunked_begins = begins_seq _ (begins_by unchunked_by)

schedule_kind_exact : (l : Freed) → Exact l g.schedule_kind (is s.Comma) p.schedule_kind p.schedule_kind
unfolding g.schedule_kind p.schedule_kind
schedule_kind_exact l = either (chunked_exact l) (anywhere (unchunked_exact l)) chunked_begins (meets (reads unchunked_by) (reads chunked_by) (is s.Comma) _ unchunked_begins refl refl)

schedule_exact : (l : Freed) (c : Said) → Exact l (g.schedule_clause c) never (p.schedule_clause c) (p.schedule_clause c)
unfolding g.schedule_clause p.schedule_clause
schedule_exact l c = mark_then s.Schedule _ _ _ (λ _. mark_then s.Open _ _ _ (λ _. seq (schedule_kind_exact l)
    (λ k. mark_then s.Close _ _ _ (λ _. pure_exact (with_schedule k c)))
    (λ k. meets (same s.Close) (same s.Comma) never _ (begins_seq _ (begins_mark s.Close)) refl refl)))

schedule_begins : (c : Said) → Begins (g.schedule_clause c) (is s.Schedule)
unfolding g.schedule_clause
schedule_begins c = begins_seq _ (begins_mark s.Schedule)

schedule_bites : (l : Freed) (c : Said) → Bites (p.schedule_clause c) (is s.Schedule)
unfolding p.schedule_clause
schedule_bites l c = bites_mark s.Schedule _ (λ _. shrinks_seq _ _ (shrinks_token _) (λ _. shrinks_seq _ _ ((schedule_kind_exact l).shrinks) (λ k. shrinks_seq _ _ (shrinks_token _) (λ _. shrinks_pure (with_schedule k c)))))

loop_count_exact : (l : Freed) → Exact l (one loop_count) never (token loop_count) (token loop_count)
loop_count_exact l = token_exact loop_count 1 (record (example s.Number) { kind = number_kind 1 None }) refl

collapse_exact : (l : Freed) (c : Said) → Exact l (g.collapse_clause c) never (p.collapse_clause c) (p.collapse_clause c)
unfolding g.collapse_clause p.collapse_clause
collapse_exact l c = mark_then s.Collapse _ _ _ (λ _. mark_then s.Open _ _ _ (λ _. seq (loop_count_exact l)
    (λ n. mark_then s.Close _ _ _ (λ _. pure_exact (with_collapse n c))) (λ n. meets_never never _)))

collapse_begins : (c : Said) → Begins (g.collapse_clause c) (is s.Collapse)
unfolding g.collapse_clause
collapse_begins c = begins_seq _ (begins_mark s.Collapse)

collapse_bites : (c : Said) → Bites (p.collapse_clause c) (is s.Collapse)
unfolding p.collapse_clause
collapse_bites c = bites_mark s.Collapse _ (λ _. shrinks_seq _ _ (shrinks_token _) (λ _. shrinks_seq _ _ (shrinks_token _) (λ n. shrinks_seq _ _ (shrinks_token _) (λ _. shrinks_pure (with_collapse n c)))))

-- ---- the rest

-- what begins lists of names, and clauses that come from collapse and schedule on
abbrev lists_by : Symbol → Bool
lists_by = among (s.Private ∷ s.FirstPrivate ∷ s.Shared ∷ s.Reduction ∷ [])

abbrev from_collapse : Symbol → Bool
from_collapse = among (s.Collapse ∷ s.Private ∷ s.FirstPrivate ∷ s.Shared ∷ s.Reduction ∷ [])

abbrev from_schedule : Symbol → Bool
from_schedule = among (s.Schedule ∷ s.Collapse ∷ s.Private ∷ s.FirstPrivate ∷ s.Shared ∷ s.Reduction ∷ [])

module _ (l : Freed) (once wide : Bool) (O : Onces l once wide) where
  another_exact : (k : Sharing) (c : Said) → Exact l (g.another_name once k c) never (p.another_name once k c) (p.another_name wide k c)
  unfolding g.another_name p.another_name
  another_exact k c = mark_then s.Comma _ _ _ (λ _. seq (new_exact l once wide O c) (λ x. pure_exact (with_name k c x.name)) (λ x. meets_never never _))

  another_begins : (k : Sharing) (c : Said) → Begins (g.another_name once k c) (is s.Comma)
  unfolding g.another_name
  another_begins k c = begins_seq _ (begins_mark s.Comma)

  another_bites : (k : Sharing) (c : Said) → Bites (p.another_name wide k c) (is s.Comma)
  unfolding p.another_name
  another_bites k c = bites_mark s.Comma _ (λ _. shrinks_seq _ _ (new_shrinks l once wide O c) (λ x. shrinks_pure (with_name k c x.name)))

  more_exact : (k : Sharing) (c : Said) → Exact l (g.more_names once k c) (is s.Comma) (p.more_names once k c) (p.more_names wide k c)
  unfolding g.more_names p.more_names
  more_exact k = loop_exact l (is s.Comma) never (is s.Comma) (λ _. true) (λ _. true) Expected _ _ _
      (λ _. always_room) (another_exact k) (another_begins k) (another_bites k) (λ rest h. sees-never rest) (λ rest h. h) (λ rest h. sees-never rest)

  names_exact : (k : Sharing) (c : Said) → Exact l (g.names once k c) never (p.names once k c) (p.names wide k c)
  unfolding g.names p.names
  names_exact k c = seq (new_exact l once wide O c)
      (λ x. seq (more_exact k (with_name k c x.name)) (λ found. mark_then s.Close _ _ _ (λ _. pure_exact found))
      (λ found. meets (same s.Close) (same s.Comma) never _ (begins_seq _ (begins_mark s.Close)) refl refl))
      (λ x. meets_never never _)

  sharing_exact : (c : Said) → Exact l (g.sharing_clause once c) never (p.sharing_clause once c) (p.sharing_clause wide c)
  unfolding g.sharing_clause p.sharing_clause
  sharing_exact c = seq (by_exact sharing_by s.Private Private refl) (λ k. mark_then s.Open _ _ _ (λ _. names_exact k c)) (λ k. meets_never never _)

  sharing_begins : (c : Said) → Begins (g.sharing_clause once c) (on (reads sharing_by))
  unfolding g.sharing_clause
  sharing_begins c = begins_seq _ (begins_by sharing_by)

  reduction_exact : (c : Said) → Exact l (g.reduction_clause once c) never (p.reduction_clause once c) (p.reduction_clause wide c)
  unfolding g.reduction_clause p.reduction_clause
  reduction_exact c = mark_then s.Reduction _ _ _ (λ _. mark_then s.Open _ _ _ (λ _. mark_then s.Plus _ _ _ (λ _. mark_then s.Colon _ _ _ (λ _. names_exact Plus c))))

  reduction_begins : (c : Said) → Begins (g.reduction_clause once c) (is s.Reduction)
  unfolding g.reduction_clause
  reduction_begins c = begins_seq _ (begins_mark s.Reduction)

  list_exact : (c : Said) → Exact l (g.list_clause once c) never (p.list_clause once c) (p.list_clause wide c)
  unfolding g.list_clause p.list_clause
  list_exact c = either (sharing_exact c) (reduction_exact c) (sharing_begins c) (meets (same s.Reduction) (reads sharing_by) never _ (reduction_begins c) refl refl)

  list_begins : (c : Said) → Begins (g.list_clause once c) (on lists_by)
  unfolding g.list_clause
  list_begins c = begins_or _ _ (on lists_by) (begins_in (reads sharing_by) lists_by _ (sharing_begins c) refl refl) (begins_in (same s.Reduction) lists_by _ (reduction_begins c) refl refl)

  clause_exact : (c : Said) → Exact l (g.clause once c) never (p.clause once c) (p.clause wide c)
  unfolding g.clause p.clause
  clause_exact c =
      let collapse_begins_ = begins_where (not (once && has_collapse c)) _ (is s.Collapse) (collapse_begins c) in
      let schedule_begins_ = begins_where (not (once && has_schedule c)) _ (is s.Schedule) (schedule_begins c) in
      let collapse_on = begins_or _ _ (on from_collapse) (begins_in (same s.Collapse) from_collapse _ collapse_begins_ refl refl) (begins_in lists_by from_collapse _ (list_begins c) refl refl) in
      let schedule_on = begins_or _ _ (on from_schedule) (begins_in (same s.Schedule) from_schedule _ schedule_begins_ refl refl) (begins_in from_collapse from_schedule _ collapse_on refl refl) in
      either_within _ _ Twice (once_room l once wide O (has_default c)) (λ _. default_exact l c) (λ _ _. default_bites c)
      (either_within _ _ Twice (once_room l once wide O (has_schedule c)) (λ _. schedule_exact l c) (λ _ _. schedule_bites l c)
      (either_within _ _ Twice (once_room l once wide O (has_collapse c)) (λ _. collapse_exact l c) (λ _ _. collapse_bites c)
      (list_exact c) (collapse_begins c) (meets lists_by (same s.Collapse) never _ (list_begins c) refl refl))
      (schedule_begins c) (meets from_collapse (same s.Schedule) never _ collapse_on refl refl))
      (default_begins c) (meets from_schedule (same s.Default) never _ schedule_on refl refl)

  clause_begins : (c : Said) → Begins (g.clause once c) (on p.begins_clause)
  unfolding g.clause
  clause_begins c =
      begins_or _ _ (on p.begins_clause) (begins_in (same s.Default) p.begins_clause _ (begins_where _ _ (is s.Default) (default_begins c)) refl refl)
      (begins_or _ _ (on p.begins_clause) (begins_in (same s.Schedule) p.begins_clause _ (begins_where _ _ (is s.Schedule) (schedule_begins c)) refl refl)
      (begins_or _ _ (on p.begins_clause) (begins_in (same s.Collapse) p.begins_clause _ (begins_where _ _ (is s.Collapse) (collapse_begins c)) refl refl)
      (begins_in lists_by p.begins_clause _ (list_begins c) refl refl)))

  comma_exact : (c : Said) → Exact l (g.comma_clause once c) never (p.comma_clause once c) (p.comma_clause wide c)
  unfolding g.comma_clause p.comma_clause
  comma_exact c = mark_then s.Comma _ _ _ (λ _. clause_exact c)

  comma_begins : (c : Said) → Begins (g.comma_clause once c) (is s.Comma)
  unfolding g.comma_clause
  comma_begins c = begins_seq _ (begins_mark s.Comma)

  next_exact : (c : Said) → Exact l (g.next_clause once c) never (p.next_clause once c) (p.next_clause wide c)
  unfolding g.next_clause p.next_clause
  next_exact c = either (comma_exact c) (clause_exact c) (comma_begins c) (meets p.begins_clause (same s.Comma) never _ (clause_begins c) refl refl)

  next_begins : (c : Said) → Begins (g.next_clause once c) (on p.goes_on)
  unfolding g.next_clause
  next_begins c = begins_or _ _ (on p.goes_on) (begins_in (same s.Comma) p.goes_on _ (comma_begins c) refl refl) (begins_in p.begins_clause p.goes_on _ (clause_begins c) refl refl)

  pub clauses_exact : (c : Said) → Exact l (g.clauses once c) (on p.goes_on) (p.clauses once c) (p.clauses wide c)
  unfolding g.clauses p.clauses
  clauses_exact = loop_exact_by l (on p.goes_on) never (on p.goes_on) (λ _. true) (λ _. true) Expected _ _ _
      (λ _. always_room) next_exact next_begins (λ c no. differ true refl no) (λ rest h. sees-never rest) (λ rest h. h) (λ rest h. sees-never rest)
