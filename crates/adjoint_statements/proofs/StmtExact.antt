-- An adjoint's statements are read exactly.
use Rattle.std.proofs.Common.{◌≡◌, ℕ, zero, suc, ◌+◌, ◌≤◌, Bool, true, false, not, ◌||◌, cond, [], ◌∷◌, length, Some, None, Ok, refl, sym, ap, ◌∙◌, ◌⊎◌, inl, inr, nat_lt, arith, append_assoc, ◌++◌}
use Rattle.tokens.specs.Lexeme.{Lexeme}
use Rattle.parsing.specs.declared.symbol.Symbol.{Symbol}
use Rattle.parsing.specs.declared.symbol.Symbol.TheVariants as s
use Rattle.parsing.specs.declared.fault.Cause.{Cause}
use Rattle.parsing.specs.declared.fault.Cause.TheVariants.{Deep, Construct}
use Rattle.parsing.specs.Freed.{Freed, frees}
use Rattle.parsing.specs.Freed.Freed.{Nothing as Nothing_freed}
use Rattle.parsing.specs.Symbol.{symbol_of}
use Rattle.parsing.specs.Terminal.{same, on, is, names}
use Rattle.parsing.specs.Reading.{◌>>=◌ as ◌▷◌, Lexemes, Parser, and_then, sees, fault, choose, within, pure, refuse}
use Rattle.parsing.specs.Grammar.{Grammar, gives, ◌>>=◌ as ◌⨟◌, ◌or◌, where_}
use Rattle.omp_clauses.specs.LineReading as po
use Rattle.fl_expressions.specs.Wide.{More}
use Rattle.fl_statements.specs.declared.block.Awaited.{Awaited}
use Rattle.fl_statements.specs.declared.block.Awaited.TheVariants.{Nothing, LoopEnd, AtomicEnd}
use Rattle.fl_statements.specs.declared.block.LoopLine.{LoopLine}
use Rattle.fl_statements.specs.Limits.{Limits}
use Rattle.fl_statements.specs.Wide.{Widens}
use Rattle.fl_statements.specs.StmtReading as ps
use Rattle.adjoint_statements.specs.declared.block.Block.{Block}
use Rattle.adjoint_statements.specs.Rooms.{narrower}
use Rattle.adjoint_statements.specs.Trees.{block_from, next_loop, parts_of, looped, ended}
use Rattle.adjoint_statements.specs.AdjointStmtGrammar as g
use Rattle.adjoint_statements.specs.AdjointStmtReading as p
use Rattle.adjoint_statements.specs.AdjointStmtReading.{begins_stmt}
use Rattle.parsing.proofs.Outcomes.{never, differ, which, ok_err, choose_true, choose_false, shrinks_pure, shrinks_seq, Bites, Shrinks, bites_seq}
use Rattle.parsing.proofs.Exact.{Exact, Room, always_room, Begins, Meets, pure_exact, seq, either_within}
use Rattle.parsing.proofs.Rules.{Opens, anywhere, either, restate, begins_seq, begins_or, begins_where, meets_never, gives_meets, meets_or, mapped}
use Rattle.parsing.proofs.OnSymbols.{less, among, meets, begins_in, begins_mark, mark_then}
use Rattle.omp_clauses.proofs.LineExact.{atomic_exact, atomic_begins, end_parallel_exact, end_atomic_exact, parallel_exact, parallel_begins, parallel_bites}
use Rattle.fl_statements.proofs.AssignExact.{end_do_exact, ends_do, end_do_begins, loop_line_exact, loop_line_begins, loop_line_bites}
use Rattle.fl_statements.proofs.Guards.{fixed_room, guarded, alike, takes_some, list_exact as steps_exact}
use Rattle.adjoint_statements.proofs.Widths.{Widths, some_in}
use Rattle.adjoint_statements.proofs.LineExact.{assign_exact, assign_begins, call_exact, call_begins}
use Rattle.adjoint_statements.proofs.IfExact.{if_exact, if_begins, if_bites}

-- What stands behind a statement stands behind each of those that may begin so.
turn_of : {A : Type 0} (t1 t2 t3 t4 t5 : Symbol → Bool) (m : Bool) (q q2 q3 q4 q5 : Parser A) (k : A → Parser A) (e : Parser A) (ts : Lexemes) →
    choose (on (λ a. t1 a || (t2 a || (t3 a || (t4 a || t5 a))))) (choose (on t1) q (choose (on t2) (within m Deep q2) (choose (on t3) (within m Deep q3) (choose (on t4) q4 q5))) ▷ k) e ts
    ≡ choose (on t1) (q ▷ k) (choose (on t2) (within m Deep (q2 ▷ k)) (choose (on t3) (within m Deep (q3 ▷ k)) (choose (on t4) (q4 ▷ k) (choose (on t5) (q5 ▷ k) e)))) ts
turn_of t1 t2 t3 t4 t5 m q q2 q3 q4 q5 k e [] = refl
turn_of {A} t1 t2 t3 t4 t5 m q q2 q3 q4 q5 k e (t ∷ ts) = by (t1 (symbol_of t)) (t2 (symbol_of t)) (t3 (symbol_of t)) (t4 (symbol_of t)) (t5 (symbol_of t)) m
  where
    by : (a b c d f m : Bool) → cond (a || (b || (c || (d || f)))) (and_then (cond a (q (t ∷ ts)) (cond b (within m Deep q2 (t ∷ ts)) (cond c (within m Deep q3 (t ∷ ts)) (cond d (q4 (t ∷ ts)) (q5 (t ∷ ts)))))) k) (e (t ∷ ts))
        ≡ cond a (and_then (q (t ∷ ts)) k) (cond b (within m Deep (q2 ▷ k) (t ∷ ts)) (cond c (within m Deep (q3 ▷ k) (t ∷ ts)) (cond d (and_then (q4 (t ∷ ts)) k) (cond f (and_then (q5 (t ∷ ts)) k) (e (t ∷ ts))))))
    by true b c d f m = refl
    by false true c d f true = refl
    by false true c d f false = refl
    by false false true d f true = refl
    by false false true d f false = refl
    by false false false true f m = refl
    by false false false false true m = refl
    by false false false false false m = refl

module _ (l : Freed) (limits wide : Limits) (V : Widths l limits wide) where
  abbrev W : Widens l limits wide
  W = V.outer

  module _ (may may2 : Bool) (nests : Room l Deep may may2) (ig : Bool → Block → Grammar Block) (ip ip2 : Bool → Block → Parser Block)
      (inner : may ≡ true → (within_ : Bool) (c : Block) → Exact l (ig within_ c) (on begins_stmt) (ip within_ c) (ip2 within_ c))
      (inner_shrinks : may2 ≡ true → (within_ : Bool) (c : Block) → Shrinks (ip2 within_ c)) (inside : Bool) where
    -- ---- loops

    parts_exact : may ≡ true → (within_ : Bool) (loops : ℕ) → Exact l (g.loop_parts limits may ig inside within_ loops) never (p.loop_parts limits may ip inside within_ loops) (p.loop_parts wide may2 ip2 inside within_ loops)
    unfolding g.loop_parts p.loop_parts
    parts_exact so within_ loops = seq (loop_line_exact l limits wide W)
        (λ h. seq (inner so within_ (block_from (next_loop loops))) (λ body. mapped (end_do_exact l) (λ _. parts_of h body))
        (λ body. meets ends_do begins_stmt never _ (begins_seq _ end_do_begins) refl refl))
        (λ h. meets_never never _)

    parts_begins : (within_ : Bool) (loops : ℕ) → Begins (g.loop_parts limits may ig inside within_ loops) (is s.Do)
    unfolding g.loop_parts
    parts_begins within_ loops = begins_seq _ (loop_line_begins l limits wide W)

    after_line_shrinks : may2 ≡ true → (within_ : Bool) (loops : ℕ) (h : LoopLine) → Shrinks (ip2 within_ (block_from (next_loop loops)) ▷ (λ body. ps.end_do ▷ (λ _. pure (parts_of h body))))
    after_line_shrinks so within_ loops h = shrinks_seq _ _ (inner_shrinks so within_ (block_from (next_loop loops))) (λ body. shrinks_seq _ _ ((end_do_exact l).shrinks) (λ _. shrinks_pure (parts_of h body)))

    parts_bites : may2 ≡ true → (within_ : Bool) (loops : ℕ) → Bites (p.loop_parts wide may2 ip2 inside within_ loops) (is s.Do)
    unfolding p.loop_parts
    parts_bites so within_ loops = bites_seq _ _ (is s.Do) (loop_line_bites l limits wide W) (after_line_shrinks so within_ loops)

    parts_shrinks : may2 ≡ true → (within_ : Bool) (loops : ℕ) → Shrinks (p.loop_parts wide may2 ip2 inside within_ loops)
    unfolding p.loop_parts
    parts_shrinks so within_ loops = shrinks_seq _ _ ((loop_line_exact l limits wide W).shrinks) (after_line_shrinks so within_ loops)

    do_exact : may ≡ true → (c : Block) → Exact l (g.do_stmt limits may ig inside c) never (p.do_stmt limits may ip inside c) (p.do_stmt wide may2 ip2 inside c)
    unfolding g.do_stmt p.do_stmt
    do_exact so c = mapped (parts_exact so inside c.loops) (looped c None)

    do_begins : (c : Block) → Begins (g.do_stmt limits may ig inside c) (is s.Do)
    unfolding g.do_stmt
    do_begins c = begins_seq _ (parts_begins inside c.loops)

    do_bites : may2 ≡ true → (c : Block) → Bites (p.do_stmt wide may2 ip2 inside c) (is s.Do)
    unfolding p.do_stmt
    do_bites so c = bites_seq _ _ (is s.Do) (parts_bites so inside c.loops) (λ q. shrinks_pure (looped c None q))

    -- ---- directives

    loop_exact : may ≡ true → (c : Block) (line : ℕ) → Exact l (g.parallel limits may ig inside c line) never (p.parallel limits may ip inside c line) (p.parallel wide may2 ip2 inside c line)
    unfolding g.parallel p.parallel
    loop_exact so c line = seq (parallel_exact l limits.once wide.once W.once line) (λ d. mapped (parts_exact so true c.loops) (looped c (Some d))) (λ d. meets_never never _)

    loop_begins : (c : Block) (line : ℕ) → Begins (g.parallel limits may ig inside c line) (is s.Parallel)
    unfolding g.parallel
    loop_begins c line = begins_seq _ (parallel_begins l limits.once wide.once W.once line)

    directive_line_bites : (line : ℕ) → Bites (po.parallel_do wide.once line) (is s.Parallel)
    directive_line_bites line = parallel_bites l limits.once wide.once W.once line

    loop_bites : may2 ≡ true → (c : Block) (line : ℕ) → Bites (p.parallel wide may2 ip2 inside c line) (is s.Parallel)
    unfolding p.parallel
    loop_bites so c line = bites_seq _ _ (is s.Parallel) (directive_line_bites line) (λ d. shrinks_seq _ _ (parts_shrinks so true c.loops) (λ q. shrinks_pure (looped c (Some d) q)))

    atomic_is_exact : (c : Block) → Exact l (g.atomic limits may ig inside c) never (p.atomic limits may ip inside c) (p.atomic wide may2 ip2 inside c)
    unfolding g.atomic p.atomic
    atomic_is_exact c = seq (atomic_exact l) (λ _. assign_exact l limits wide V true c) (λ _. meets_never never _)

    atomic_is_begun : (c : Block) → Begins (g.atomic limits may ig inside c) (is s.Atomic)
    unfolding g.atomic
    atomic_is_begun c = begins_seq _ atomic_begins

    end_loop_exact : (c : Block) → Exact l (g.end_loop limits may ig inside c) never (p.end_loop limits may ip inside c) (p.end_loop wide may2 ip2 inside c)
    unfolding g.end_loop p.end_loop
    end_loop_exact c = mark_then s.End _ _ _ (λ _. mapped (end_parallel_exact l) (λ _. ended c))

    end_loop_begins : (c : Block) → Begins (g.end_loop limits may ig inside c) (is s.End)
    unfolding g.end_loop
    end_loop_begins c = begins_seq _ (begins_mark s.End)

    end_atomic_is_exact : (c : Block) → Exact l (g.end_atomic limits may ig inside c) never (p.end_atomic limits may ip inside c) (p.end_atomic wide may2 ip2 inside c)
    unfolding g.end_atomic p.end_atomic
    end_atomic_is_exact c = mark_then s.End _ _ _ (λ _. mapped (end_atomic_exact l) (λ _. ended c))

    end_atomic_begins : (c : Block) → Begins (g.end_atomic limits may ig inside c) (is s.End)
    unfolding g.end_atomic
    end_atomic_begins c = begins_seq _ (begins_mark s.End)

    -- what stands behind a sentinel and begins no loop
    abbrev lesser_grammar : Awaited → Block → Grammar Block
    lesser_grammar a c = g.atomic limits may ig inside c or g.ending limits may ig inside a c

    with_end : (c : Block) (N : Grammar Block) (q q2 : Parser Block) → Exact l N never q q2 → Begins N (is s.End) →
        Exact l (g.atomic limits may ig inside c or N) never (choose (is s.Atomic) (p.atomic limits may ip inside c) q) (choose (is s.Atomic) (p.atomic wide may2 ip2 inside c) q2)
    with_end c N q q2 E begins = either (atomic_is_exact c) E (atomic_is_begun c) (meets (same s.End) (same s.Atomic) never _ begins refl refl)

    lesser_exact : (a : Awaited) (c : Block) → Exact l (lesser_grammar a c) never (p.lesser limits may ip inside a c) (p.lesser wide may2 ip2 inside a c)
    lesser_exact Nothing c = restate (atomic_is_exact c) (λ x us n. inl n) from
      where
        from : (x : Block) (us : Lexemes) → lesser_grammar Nothing c x us → g.atomic limits may ig inside c x us
        from x us (inl n) = n
        from x us (inr n) = absurd n
    lesser_exact LoopEnd c = with_end c _ _ _ (end_loop_exact c) (end_loop_begins c)
    lesser_exact AtomicEnd c = with_end c _ _ _ (end_atomic_is_exact c) (end_atomic_begins c)

    -- what begins them
    abbrev lessers : Symbol → Bool
    lessers = among (s.Atomic ∷ s.End ∷ [])

    ending_begins : (a : Awaited) (c : Block) → Begins (g.ending limits may ig inside a c) (on lessers)
    ending_begins Nothing c = λ x us rest n. absurd n
    ending_begins LoopEnd c = begins_in (same s.End) lessers _ (end_loop_begins c) refl refl
    ending_begins AtomicEnd c = begins_in (same s.End) lessers _ (end_atomic_begins c) refl refl

    lesser_begins : (a : Awaited) (c : Block) → Begins (lesser_grammar a c) (on lessers)
    lesser_begins a c = begins_or _ _ (on lessers) (begins_in (same s.Atomic) lessers _ (atomic_is_begun c) refl refl) (ending_begins a c)

    after_sentinel_exact : (c : Block) (line : ℕ) → Exact l (g.after_sentinel limits may ig inside c line) never (p.after_sentinel limits may ip inside c line) (p.after_sentinel wide may2 ip2 inside c line)
    unfolding g.after_sentinel p.after_sentinel
    after_sentinel_exact c line =
        guarded (not inside) (not inside) Construct (fixed_room (not inside))
        (λ _. either_within may may2 Deep nests (λ here. loop_exact here c line) (λ _ yes. loop_bites yes c line) other begins apart_)
        (λ no yes. differ (not inside) yes no) other (begins_where _ _ _ begins) apart_
      where
        other : Exact l (lesser_grammar c.awaited c) never (p.lesser limits may ip inside c.awaited c) (p.lesser wide may2 ip2 inside c.awaited c)
        other = lesser_exact c.awaited c

        begins : Begins (g.parallel limits may ig inside c line) (is s.Parallel)
        begins = loop_begins c line

        apart_ : Meets (lesser_grammar c.awaited c) (is s.Parallel) never
        apart_ = meets lessers (same s.Parallel) never _ (lesser_begins c.awaited c) refl refl

    directive_exact : (c : Block) → Exact l (g.directive limits may ig inside c) never (p.directive limits may ip inside c) (p.directive wide may2 ip2 inside c)
    unfolding g.directive p.directive
    directive_exact c = mark_then s.Sentinel _ _ _ (after_sentinel_exact c)

    directive_begins : (c : Block) → Begins (g.directive limits may ig inside c) (is s.Sentinel)
    unfolding g.directive
    directive_begins c = begins_seq _ (begins_mark s.Sentinel)

    -- ---- lists of statements

    module _ (K : Block → Grammar Block) (k k2 : Block → Parser Block) (then_ : (y : Block) → Exact l (K y) (on begins_stmt) (k y) (k2 y)) (c : Block) where
      abbrev after_call : Grammar Block
      after_call = (g.directive limits may ig inside c ⨟ K) or gives c

      abbrev after_if : Grammar Block
      after_if = (g.call limits c ⨟ K) or after_call

      abbrev after_do : Grammar Block
      after_do = where_ may (g.if_stmt limits may ig inside c ⨟ K) or after_if

      abbrev after_assign : Grammar Block
      after_assign = where_ may (g.do_stmt limits may ig inside c ⨟ K) or after_do

      abbrev turns_grammar : Grammar Block
      turns_grammar = (g.assign limits false c ⨟ K) or after_assign

      abbrev read_call : (lim : Limits) (m : Bool) (i : Bool → Block → Parser Block) (r : Block → Parser Block) → Parser Block
      read_call lim m i r = choose (is s.Sentinel) (p.directive lim m i inside c ▷ r) (pure c)

      abbrev read_if : (lim : Limits) (m : Bool) (i : Bool → Block → Parser Block) (r : Block → Parser Block) → Parser Block
      read_if lim m i r = choose (is s.Call) (p.call lim c ▷ r) (read_call lim m i r)

      abbrev read_do : (lim : Limits) (m : Bool) (i : Bool → Block → Parser Block) (r : Block → Parser Block) → Parser Block
      read_do lim m i r = choose (is s.If) (within m Deep (p.if_stmt lim m i inside c ▷ r)) (read_if lim m i r)

      abbrev read_assign : (lim : Limits) (m : Bool) (i : Bool → Block → Parser Block) (r : Block → Parser Block) → Parser Block
      read_assign lim m i r = choose (is s.Do) (within m Deep (p.do_stmt lim m i inside c ▷ r)) (read_do lim m i r)

      directed_begins : Begins (g.directive limits may ig inside c ⨟ K) (is s.Sentinel)
      directed_begins = begins_seq _ (directive_begins c)

      directed_exact : Exact l after_call (on begins_stmt) (read_call limits may ip k) (read_call wide may2 ip2 k2)
      directed_exact = either (seq (directive_exact c) then_ (λ y. meets_never _ _)) (anywhere (pure_exact c)) directed_begins
          (gives_meets c (is s.Sentinel) (on begins_stmt) (less (same s.Sentinel) begins_stmt refl refl))

      call_then_begins : Begins (g.call limits c ⨟ K) (is s.Call)
      call_then_begins = begins_seq _ (call_begins l limits wide V c)

      calls_exact : Exact l after_if (on begins_stmt) (read_if limits may ip k) (read_if wide may2 ip2 k2)
      calls_exact = either (seq (call_exact l limits wide V c) then_ (λ y. meets_never _ _)) directed_exact call_then_begins
          (meets_or _ _ (is s.Call) (on begins_stmt) (meets (same s.Sentinel) (same s.Call) (on begins_stmt) _ directed_begins refl refl)
          (gives_meets c (is s.Call) (on begins_stmt) (less (same s.Call) begins_stmt refl refl)))

      -- no If begins so
      if_apart : Meets after_if (is s.If) (on begins_stmt)
      if_apart = meets_or _ _ (is s.If) (on begins_stmt) (meets (same s.Call) (same s.If) (on begins_stmt) _ call_then_begins refl refl)
          (meets_or _ _ (is s.If) (on begins_stmt) (meets (same s.Sentinel) (same s.If) (on begins_stmt) _ directed_begins refl refl)
          (gives_meets c (is s.If) (on begins_stmt) (less (same s.If) begins_stmt refl refl)))

      if_then_begins : Begins (g.if_stmt limits may ig inside c ⨟ K) (is s.If)
      if_then_begins = begins_seq _ (if_begins l limits wide V may may2 ig ip ip2 inner inner_shrinks nests.grows inside c)

      if_then_bites : may2 ≡ true → Bites (p.if_stmt wide may2 ip2 inside c ▷ k2) (is s.If)
      if_then_bites so = bites_seq _ _ (is s.If) (if_bites l limits wide V may may2 ig ip ip2 inner inner_shrinks nests.grows inside so c) (λ y. (then_ y).shrinks)

      ifs_exact : Exact l after_do (on begins_stmt) (read_do limits may ip k) (read_do wide may2 ip2 k2)
      ifs_exact = either_within may may2 Deep nests
          (λ here. seq (if_exact l limits wide V may may2 ig ip ip2 inner inner_shrinks nests.grows inside here c) then_ (λ y. meets_never _ _))
          (λ _ yes. if_then_bites yes) calls_exact if_then_begins if_apart

      -- no loop begins so
      do_apart : Meets after_do (is s.Do) (on begins_stmt)
      do_apart = meets_or _ _ (is s.Do) (on begins_stmt) (meets (same s.If) (same s.Do) (on begins_stmt) _ (begins_where _ _ _ if_then_begins) refl refl)
          (meets_or _ _ (is s.Do) (on begins_stmt) (meets (same s.Call) (same s.Do) (on begins_stmt) _ call_then_begins refl refl)
          (meets_or _ _ (is s.Do) (on begins_stmt) (meets (same s.Sentinel) (same s.Do) (on begins_stmt) _ directed_begins refl refl)
          (gives_meets c (is s.Do) (on begins_stmt) (less (same s.Do) begins_stmt refl refl))))

      do_then_begins : Begins (g.do_stmt limits may ig inside c ⨟ K) (is s.Do)
      do_then_begins = begins_seq _ (do_begins c)

      do_then_bites : may2 ≡ true → Bites (p.do_stmt wide may2 ip2 inside c ▷ k2) (is s.Do)
      do_then_bites so = bites_seq _ _ (is s.Do) (do_bites so c) (λ y. (then_ y).shrinks)

      loops_exact : Exact l after_assign (on begins_stmt) (read_assign limits may ip k) (read_assign wide may2 ip2 k2)
      loops_exact = either_within may may2 Deep nests (λ here. seq (do_exact here c) then_ (λ y. meets_never _ _)) (λ _ yes. do_then_bites yes) ifs_exact do_then_begins do_apart

      assign_apart : Meets after_assign (on names) (on begins_stmt)
      assign_apart = meets_or _ _ (on names) (on begins_stmt) (meets (same s.Do) names (on begins_stmt) _ (begins_where _ _ _ do_then_begins) refl refl)
          (meets_or _ _ (on names) (on begins_stmt) (meets (same s.If) names (on begins_stmt) _ (begins_where _ _ _ if_then_begins) refl refl)
          (meets_or _ _ (on names) (on begins_stmt) (meets (same s.Call) names (on begins_stmt) _ call_then_begins refl refl)
          (meets_or _ _ (on names) (on begins_stmt) (meets (same s.Sentinel) names (on begins_stmt) _ directed_begins refl refl)
          (gives_meets c (on names) (on begins_stmt) (less names begins_stmt refl refl)))))

      all_exact : Exact l turns_grammar (on begins_stmt) (choose (on names) (p.assign limits false c ▷ k) (read_assign limits may ip k)) (choose (on names) (p.assign wide false c ▷ k2) (read_assign wide may2 ip2 k2))
      all_exact = either (seq (assign_exact l limits wide V false c) then_ (λ y. meets_never _ _)) loops_exact (begins_seq _ (assign_begins l limits wide V false c)) assign_apart

      turn_to : (x : Block) (us : Lexemes) → turns_grammar x us → ((g.stmt limits may ig inside c ⨟ K) or gives c) x us
      unfolding g.stmt
      turn_to x us (inl (y, vs, ws, n, m, e)) = inl (y, vs, ws, inl n, m, e)
      turn_to x us (inr (inl (q, (y, vs, ws, n, m, e)))) = inl (y, vs, ws, inr (inl (q, n)), m, e)
      turn_to x us (inr (inr (inl (q, (y, vs, ws, n, m, e))))) = inl (y, vs, ws, inr (inr (inl (q, n))), m, e)
      turn_to x us (inr (inr (inr (inl (y, vs, ws, n, m, e))))) = inl (y, vs, ws, inr (inr (inr (inl n))), m, e)
      turn_to x us (inr (inr (inr (inr (inl (y, vs, ws, n, m, e)))))) = inl (y, vs, ws, inr (inr (inr (inr n))), m, e)
      turn_to x us (inr (inr (inr (inr (inr n))))) = inr n

      turn_from : (x : Block) (us : Lexemes) → ((g.stmt limits may ig inside c ⨟ K) or gives c) x us → turns_grammar x us
      unfolding g.stmt
      turn_from x us (inl (y, vs, ws, inl n, m, e)) = inl (y, vs, ws, n, m, e)
      turn_from x us (inl (y, vs, ws, inr (inl (q, n)), m, e)) = inr (inl (q, (y, vs, ws, n, m, e)))
      turn_from x us (inl (y, vs, ws, inr (inr (inl (q, n))), m, e)) = inr (inr (inl (q, (y, vs, ws, n, m, e))))
      turn_from x us (inl (y, vs, ws, inr (inr (inr (inl n))), m, e)) = inr (inr (inr (inl (y, vs, ws, n, m, e))))
      turn_from x us (inl (y, vs, ws, inr (inr (inr (inr n))), m, e)) = inr (inr (inr (inr (inl (y, vs, ws, n, m, e)))))
      turn_from x us (inr n) = inr (inr (inr (inr (inr n))))

      turn_is : (lim : Limits) (m : Bool) (i : Bool → Block → Parser Block) (r : Block → Parser Block) (ts : Lexemes) →
          choose (on begins_stmt) (p.stmt lim m i inside c ▷ r) (pure c) ts ≡ choose (on names) (p.assign lim false c ▷ r) (read_assign lim m i r) ts
      unfolding p.stmt
      turn_is lim m i r ts = turn_of names (same s.Do) (same s.If) (same s.Call) (same s.Sentinel) m
          (p.assign lim false c) (p.do_stmt lim m i inside c) (p.if_stmt lim m i inside c) (p.call lim c) (p.directive lim m i inside c) r (pure c) ts

    turn_exact : (K : Block → Grammar Block) (k k2 : Block → Parser Block) → ((y : Block) → Exact l (K y) (on begins_stmt) (k y) (k2 y)) → (c : Block) →
        Exact l ((g.stmt limits may ig inside c ⨟ K) or gives c) (on begins_stmt) (choose (on begins_stmt) (p.stmt limits may ip inside c ▷ k) (pure c)) (choose (on begins_stmt) (p.stmt wide may2 ip2 inside c ▷ k2) (pure c))
    turn_exact K k k2 then_ c = alike (restate (all_exact K k k2 then_ c) (turn_to K k k2 then_ c) (turn_from K k k2 then_ c)) (turn_is K k k2 then_ c limits may ip k) (turn_is K k k2 then_ c wide may2 ip2 k2)

    stmt_takes : (c y : Block) (ts mid : Lexemes) → p.stmt limits may ip inside c ts ≡ Ok (y, mid) → length mid + 1 ≤ length ts
    unfolding p.stmt
    stmt_takes c y ts mid e =
        let a = p.assign limits false c in
        let d = p.do_stmt limits may ip inside c in
        let f = p.if_stmt limits may ip inside c in
        let t = p.call limits c in
        let z = p.directive limits may ip inside c in
        let calls = choose (is s.Call) t z in
        let ifs = choose (is s.If) (within may Deep f) calls in
        let loops = choose (is s.Do) (within may Deep d) ifs in
        of_choice (on names) a loops ts (takes_some (assign_exact l limits wide V false c) (assign_begins l limits wide V false c) ts mid y)
        (of_choice (is s.Do) (within may Deep d) ifs ts (of_room may Deep d ts (λ so. takes_some (do_exact so c) (do_begins c) ts mid y))
        (of_choice (is s.If) (within may Deep f) calls ts
        (of_room may Deep f ts (λ so. takes_some (if_exact l limits wide V may may2 ig ip ip2 inner inner_shrinks nests.grows inside so c) (if_begins l limits wide V may may2 ig ip ip2 inner inner_shrinks nests.grows inside c) ts mid y))
        (of_choice (is s.Call) t z ts (takes_some (call_exact l limits wide V c) (call_begins l limits wide V c) ts mid y) (takes_some (directive_exact c) (directive_begins c) ts mid y)))) e
      where
        of_choice : (test : Lexeme → Bool) (q r : Parser Block) (ts : Lexemes) → (q ts ≡ Ok (y, mid) → length mid + 1 ≤ length ts) → (r ts ≡ Ok (y, mid) → length mid + 1 ≤ length ts) →
            choose test q r ts ≡ Ok (y, mid) → length mid + 1 ≤ length ts
        of_choice test q r ts f h e = elim (which (sees test ts)) [ inl is_so ↦ f (sym (choose_true test q r ts is_so) ∙ e) | inr isnt ↦ h (sym (choose_false test q r ts isnt) ∙ e) ]

        of_room : (room : Bool) (cause : Cause) (q : Parser Block) (ts : Lexemes) → (room ≡ true → q ts ≡ Ok (y, mid) → length mid + 1 ≤ length ts) → within room cause q ts ≡ Ok (y, mid) → length mid + 1 ≤ length ts
        of_room true cause q ts f e = f refl e
        of_room false cause q ts f e = ok_err (fault cause ts) (y, mid) (sym e)

    pub block_exact : (c : Block) → Exact l (g.block limits may ig inside c) (on begins_stmt) (p.block limits may ip inside c) (p.block wide may2 ip2 inside c)
    unfolding g.block p.block
    block_exact = steps_exact l (on begins_stmt) (on begins_stmt) _ _ _ turn_exact stmt_takes

    stmt_begins : (c : Block) → Begins (g.stmt limits may ig inside c) (on begins_stmt)
    unfolding g.stmt
    stmt_begins c = begins_or _ _ (on begins_stmt) (begins_in names begins_stmt _ (assign_begins l limits wide V false c) refl refl)
        (begins_or _ _ (on begins_stmt) (begins_where _ _ _ (begins_in (same s.Do) begins_stmt _ (do_begins c) refl refl))
        (begins_or _ _ (on begins_stmt) (begins_where _ _ _ (begins_in (same s.If) begins_stmt _ (if_begins l limits wide V may may2 ig ip ip2 inner inner_shrinks nests.grows inside c) refl refl))
        (begins_or _ _ (on begins_stmt) (begins_in (same s.Call) begins_stmt _ (call_begins l limits wide V c) refl refl)
        (begins_in (same s.Sentinel) begins_stmt _ (directive_begins c) refl refl))))

    pub block_opens : (c : Block) → Opens (g.block limits may ig inside c) (on begins_stmt)
    unfolding g.block
    block_opens c x us rest (zero, n) = inl n.1
    block_opens c x us rest (suc n, (y, vs, ws, here, more, e)) = inr (ap (sees (on begins_stmt)) (ap (λ v. v ++ rest) e ∙ append_assoc vs ws rest) ∙ stmt_begins c y vs (ws ++ rest) here)

-- ---- blocks in blocks

same_wide : (limits : Limits) → nat_lt 0 limits.brackets ≡ true → Widens Nothing_freed limits limits
same_wide limits so = record {
  some = so;
  brackets = record { stays = λ _. refl; goes = λ h. differ true refl (sym h) };
  depth = record { stays = λ _. refl; goes = λ h. differ true refl (sym h) };
  blocks = record { stays = λ _. refl; goes = λ h. differ true refl (sym h) };
  statements = record { stays = λ _. refl; goes = λ h. differ true refl (sym h) };
  names = record { stays = λ _. refl; goes = λ h. differ true refl (sym h) };
  once = record { stays = λ _. refl; goes = λ h. differ true refl (sym h) };
}

same_widths : {l : Freed} {limits wide : Limits} → Widths l limits wide → Widths Nothing_freed wide wide
same_widths {l} {limits} {wide} V = record { outer = same_wide wide (some_in V.outer); inner = same_wide (narrower wide) (some_in V.inner) }

its_widths : {l : Freed} {limits wide : Limits} → Widths l limits wide → Widths Nothing_freed limits limits
its_widths {l} {limits} {wide} V = record { outer = same_wide limits V.outer.some; inner = same_wide (narrower limits) V.inner.some }

shrinks_of : (limits : Limits) → Widths Nothing_freed limits limits → (n : ℕ) (inside : Bool) (c : Block) → Exact Nothing_freed (g.stmts limits n inside c) (on begins_stmt) (p.stmts limits n inside c) (p.stmts limits n inside c)
unfolding g.stmts p.stmts
shrinks_of limits V zero inside c = block_exact Nothing_freed limits limits V false false (record { grows = λ h. h; lifts = λ _. refl }) _ _ _ (λ no. differ true refl (sym no)) (λ no. differ true refl (sym no)) inside c
shrinks_of limits V (suc n) inside c = block_exact Nothing_freed limits limits V true true always_room _ _ _ (λ _. shrinks_of limits V n) (λ _ w d. (shrinks_of limits V n w d).shrinks) inside c

module _ (l : Freed) (limits wide : Limits) (V : Widths l limits wide) where
  pub stmts_exact : (n n2 : ℕ) → More l n n2 → (inside : Bool) (c : Block) → Exact l (g.stmts limits n inside c) (on begins_stmt) (p.stmts limits n inside c) (p.stmts wide n2 inside c)
  unfolding g.stmts p.stmts
  stmts_exact zero zero R inside c = block_exact l limits wide V false false (record { grows = λ h. h; lifts = λ _. closed }) _ _ _ (λ no. differ true refl (sym no)) (λ no. differ true refl (sym no)) inside c
    where
      closed : false ≡ frees l Deep
      closed = elim (which (frees l Deep)) [ inl t ↦ absurd (let more = R.goes t in omega arith) | inr f ↦ sym f ]
  stmts_exact zero (suc n2) R inside c = block_exact l limits wide V false true (record { grows = λ h. refl; lifts = λ _. open_ }) _ _ _ (λ no. differ true refl (sym no)) (λ _ w d. (shrinks_of wide (same_widths V) n2 w d).shrinks) inside c
    where
      open_ : true ≡ frees l Deep
      open_ = elim (which (frees l Deep)) [ inl t ↦ sym t | inr f ↦ absurd (let same_ = R.stays f in omega arith) ]
  stmts_exact (suc n) zero R inside c = absurd (wrong (which (frees l Deep)))
    where
      wrong : (frees l Deep ≡ true) ⊎ (frees l Deep ≡ false) → ⊥
      wrong (inl t) = let more = R.goes t in omega arith
      wrong (inr f) = let same_ = R.stays f in omega arith
  stmts_exact (suc n) (suc n2) R inside c = block_exact l limits wide V true true always_room _ _ _ (λ _. stmts_exact n n2 down) (λ _ w d. (shrinks_of wide (same_widths V) n2 w d).shrinks) inside c
    where
      down : More l n n2
      down = record { stays = λ f. let e = R.stays f in omega arith; goes = λ t. let e = R.goes t in omega arith }

  pub stmts_open : (n : ℕ) (inside : Bool) (c : Block) → Opens (g.stmts limits n inside c) (on begins_stmt)
  unfolding g.stmts
  stmts_open zero inside c = block_opens Nothing_freed limits limits (its_widths V) false false (record { grows = λ h. h; lifts = λ _. refl }) (λ w d x us. ⊥) (λ w d. refuse Deep) (λ w d. refuse Deep) (λ no. differ true refl (sym no)) (λ no. differ true refl (sym no)) inside c
  stmts_open (suc n) inside c = block_opens Nothing_freed limits limits (its_widths V) true true always_room (g.stmts limits n) (p.stmts limits n) (p.stmts limits n) (λ _. shrinks_of limits (its_widths V) n) (λ _ w d. (shrinks_of limits (its_widths V) n w d).shrinks) inside c
