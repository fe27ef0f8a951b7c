-- Directives are read exactly.
use Rattle.std.proofs.Common.{ℕ, Bool, [], ◌∷◌, refl}
use Rattle.parsing.specs.declared.symbol.Symbol.{Symbol}
use Rattle.parsing.specs.declared.symbol.Symbol.TheVariants as s
use Rattle.parsing.specs.Freed.{Freed}
use Rattle.parsing.specs.Terminal.{same, on, is}
use Rattle.omp_clauses.specs.declared.directive.DirectiveLine.TheVariants.{ParallelDo, EndParallelDo, Atomic, EndAtomic}
use Rattle.omp_clauses.specs.Said.{nothing}
use Rattle.omp_clauses.specs.Once.{Onces}
use Rattle.omp_clauses.specs.ClauseReading.{goes_on}
use Rattle.omp_clauses.specs.LineGrammar as g
use Rattle.omp_clauses.specs.LineReading as p
use Rattle.parsing.proofs.Outcomes.{never, shrinks_pure, shrinks_seq, Bites}
use Rattle.parsing.proofs.Exact.{Exact, Begins, pure_exact, seq, shrinks_token}
use Rattle.parsing.proofs.Rules.{either, mapped, begins_seq, begins_or}
use Rattle.parsing.proofs.OnSymbols.{among, meets, begins_in, begins_mark, mark_exact, mark_then, bites_mark}
use Rattle.omp_clauses.proofs.ClauseExact.{clauses_exact}

after_atomic_exact : (l : Freed) → Exact l g.after_atomic never p.after_atomic p.after_atomic
unfolding g.after_atomic p.after_atomic
after_atomic_exact l = either (mark_then s.Update _ _ _ (λ _. mark_exact s.LineEnd)) (mark_exact s.LineEnd) (begins_seq _ (begins_mark s.Update))
    (meets (same s.LineEnd) (same s.Update) never _ (begins_mark s.LineEnd) refl refl)

-- an atomic statement's line, from the word on
pub atomic_exact : (l : Freed) → Exact l g.atomic never p.atomic p.atomic
unfolding g.atomic p.atomic
atomic_exact l = mark_then s.Atomic _ _ _ (λ _. after_atomic_exact l)

pub atomic_begins : Begins g.atomic (is s.Atomic)
unfolding g.atomic
atomic_begins = begins_seq _ (begins_mark s.Atomic)

pub atomic_bites : (l : Freed) → Bites p.atomic (is s.Atomic)
unfolding p.atomic
atomic_bites l = bites_mark s.Atomic _ (λ _. (after_atomic_exact l).shrinks)

atomic_line_exact : (l : Freed) → Exact l g.atomic_line never p.atomic_line p.atomic_line
unfolding g.atomic_line p.atomic_line
atomic_line_exact l = mapped (atomic_exact l) (λ _. Atomic)

atomic_line_begins : Begins g.atomic_line (is s.Atomic)
unfolding g.atomic_line
atomic_line_begins = begins_seq _ atomic_begins

-- the end of a parallel loop and of an atomic statement, behind the word `end`
pub end_parallel_exact : (l : Freed) → Exact l g.end_parallel_do never p.end_parallel_do p.end_parallel_do
unfolding g.end_parallel_do p.end_parallel_do
end_parallel_exact l = mark_then s.Parallel _ _ _ (λ _. mark_then s.Do _ _ _ (λ _. mark_exact s.LineEnd))

pub end_parallel_begins : Begins g.end_parallel_do (is s.Parallel)
unfolding g.end_parallel_do
end_parallel_begins = begins_seq _ (begins_mark s.Parallel)

pub end_atomic_exact : (l : Freed) → Exact l g.end_atomic never p.end_atomic p.end_atomic
unfolding g.end_atomic p.end_atomic
end_atomic_exact l = mark_then s.Atomic _ _ _ (λ _. mark_exact s.LineEnd)

pub end_atomic_begins : Begins g.end_atomic (is s.Atomic)
unfolding g.end_atomic
end_atomic_begins = begins_seq _ (begins_mark s.Atomic)

after_end_exact : (l : Freed) → Exact l g.after_end never p.after_end p.after_end
unfolding g.after_end p.after_end
after_end_exact l = either (mapped (end_parallel_exact l) (λ _. EndParallelDo)) (mapped (end_atomic_exact l) (λ _. EndAtomic)) (begins_seq _ end_parallel_begins)
    (meets (same s.Atomic) (same s.Parallel) never _ (begins_seq _ end_atomic_begins) refl refl)

end_exact : (l : Freed) → Exact l g.end_line never p.end_line p.end_line
unfolding g.end_line p.end_line
end_exact l = mark_then s.End _ _ _ (λ _. after_end_exact l)

end_begins : Begins g.end_line (is s.End)
unfolding g.end_line
end_begins = begins_seq _ (begins_mark s.End)

abbrev ends : Symbol → Bool
ends = among (s.End ∷ s.Atomic ∷ [])

module _ (l : Freed) (once wide : Bool) (O : Onces l once wide) where
  -- a parallel loop's line, from the word on
  pub parallel_exact : (line : ℕ) → Exact l (g.parallel_do once line) never (p.parallel_do once line) (p.parallel_do wide line)
  unfolding g.parallel_do p.parallel_do
  parallel_exact line = mark_then s.Parallel _ _ _ (λ _. mark_then s.Do _ _ _ (λ _. seq (clauses_exact l once wide O (nothing line))
      (λ found. mark_then s.LineEnd _ _ _ (λ _. pure_exact found.directive))
      (λ found. meets (same s.LineEnd) goes_on never _ (begins_seq _ (begins_mark s.LineEnd)) refl refl)))

  pub parallel_begins : (line : ℕ) → Begins (g.parallel_do once line) (is s.Parallel)
  unfolding g.parallel_do
  parallel_begins line = begins_seq _ (begins_mark s.Parallel)

  pub parallel_bites : (line : ℕ) → Bites (p.parallel_do wide line) (is s.Parallel)
  unfolding p.parallel_do
  parallel_bites line = bites_mark s.Parallel _ (λ _. shrinks_seq _ _ (shrinks_token _) (λ _. shrinks_seq _ _ ((clauses_exact l once wide O (nothing line)).shrinks)
      (λ found. shrinks_seq _ _ (shrinks_token _) (λ _. shrinks_pure found.directive))))

  loop_line_exact : (line : ℕ) → Exact l (g.loop_line once line) never (p.loop_line once line) (p.loop_line wide line)
  unfolding g.loop_line p.loop_line
  loop_line_exact line = mapped (parallel_exact line) (λ d. ParallelDo d)

  loop_line_begins : (line : ℕ) → Begins (g.loop_line once line) (is s.Parallel)
  unfolding g.loop_line
  loop_line_begins line = begins_seq _ (parallel_begins line)

  after_sentinel_exact : (line : ℕ) → Exact l (g.after_sentinel once line) never (p.after_sentinel once line) (p.after_sentinel wide line)
  unfolding g.after_sentinel p.after_sentinel
  after_sentinel_exact line =
      let atomic_last = either (end_exact l) (atomic_line_exact l) end_begins (meets (same s.Atomic) (same s.End) never _ atomic_line_begins refl refl) in
      let ends_begin = begins_or _ _ (on ends) (begins_in (same s.End) ends _ end_begins refl refl) (begins_in (same s.Atomic) ends _ atomic_line_begins refl refl) in
      either (loop_line_exact line) atomic_last (loop_line_begins line) (meets ends (same s.Parallel) never _ ends_begin refl refl)

  pub directive_exact : Exact l (g.directive_line once) never (p.directive_line once) (p.directive_line wide)
  unfolding g.directive_line p.directive_line
  directive_exact = mark_then s.Sentinel _ _ _ (λ line. after_sentinel_exact line)
