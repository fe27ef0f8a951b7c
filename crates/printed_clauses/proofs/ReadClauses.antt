-- Each clause is read as what it says.
use Rattle.std.proofs.Common.{◌≡◌, ℕ, zero, suc, Bool, true, false, cond, not, ◌&&◌, List, [], ◌∷◌, ◌++◌, Option, Some, None, refl, sym, ap, subst, ◌∙◌, inl, inr, append-nil, append_assoc, arith}
use Rattle.std.proofs.lemmas.Bool.Decides.{nat_tests}
use Rattle.std.specs.Prelude.{codes, decimal, nat_le, ◌==◌}
use Rattle.std.specs.List.{list_all}
use Rattle.tokens.specs.Lexeme.{Lexeme}
use Rattle.fl_ast.specs.declared.directive.ScheduleKind.{ScheduleKind}
use Rattle.fl_ast.specs.declared.directive.ScheduleKind.TheVariants as schedule
use Rattle.fl_ast.specs.Readable.{is_variable, are_apart, is_readable_chunk, is_readable_schedule, listed_names}
use Rattle.parsing.specs.declared.symbol.Symbol.TheVariants as s
use Rattle.parsing.specs.Reading.{Lexemes}
use Rattle.parsing.specs.Terminal.{by}
use Rattle.omp_clauses.specs.declared.state.Sharing.{Sharing}
use Rattle.omp_clauses.specs.declared.state.Sharing.TheVariants as sharing
use Rattle.omp_clauses.specs.Said.{Said, nothing, with_name}
use Rattle.omp_clauses.specs.Terminals.{sharing_by, chunked_by, unchunked_by}
use Rattle.omp_clauses.specs.ClauseGrammar as g
use Rattle.fl_printer.specs.declared.spaced.Spaced.{Spaced}
use Rattle.fl_printer.specs.Words.{spaced, joined, apart, names_from, default_words, list_words, reduction_words, collapse_words, chunk_words, schedule_text, schedule_words}
use Rattle.fl_printed.specs.Fits.{Fits}
use Rattle.fl_printed.proofs.Operators.{plain}
use Rattle.fl_printed.proofs.Signs.{open_read, close_read, comma_read}
use Rattle.fl_printed.proofs.Lexed.{Lexed, first, none, parts}
use Rattle.printed_clauses.proofs.Written.{default_read, none_read, reduction_read, plus_read, colon_read, collapse_read, schedule_read, static_read, dynamic_read, guided_read, auto_read, runtime_read, chunk_read, count_read}
use Rattle.printed_clauses.proofs.Steps.{Says, says_nothing, says_one}
use Rattle.printed_clauses.proofs.Listed.{names_read}

-- ---- what is said, clause by clause

abbrev pub Names : Type 0
Names = List (List ℕ)

abbrev pub said : ℕ → Bool → (privates firsts shareds pluses : Names) → ℕ → Option (ScheduleKind × Option ℕ) → Said
said line none_ privates firsts shareds pluses collapse schedule_ = record {
  directive = record { line = line; privates = privates; firsts = firsts; shareds = shareds; pluses = pluses; none = none_; schedule = schedule_; collapse = collapse };
  defaulted = none_;
}

pub default_back : (line : ℕ) (none_ : Bool) (us : Lexemes) → Lexed us (default_words none_) → Says (nothing line) (said line none_ [] [] [] [] 0 None) us
unfolding g.clause g.default_clause
default_back line false us l = none us (Says (nothing line) (said line false [] [] [] [] 0 None)) l (says_nothing (nothing line))
default_back line true us l = says_one (nothing line) (said line true [] [] [] [] 0 None) us (clause us l)
  where
    clause : (us : Lexemes) → Lexed us (default_words true) → g.clause true (nothing line) (said line true [] [] [] [] 0 None) us
    clause us l =
        first us _ _ (g.clause true (nothing line) (said line true [] [] [] [] 0 None)) l (λ t1 ws c m.
        first ws _ _ (λ v. g.clause true (nothing line) (said line true [] [] [] [] 0 None) (t1 ∷ v)) m (λ t2 vs d n.
        first vs _ _ (λ v. g.clause true (nothing line) (said line true [] [] [] [] 0 None) (t1 ∷ t2 ∷ v)) n (λ t3 xs e o.
        first xs _ _ (λ v. g.clause true (nothing line) (said line true [] [] [] [] 0 None) (t1 ∷ t2 ∷ t3 ∷ v)) o (λ t4 end f p.
        none end (λ v. g.clause true (nothing line) (said line true [] [] [] [] 0 None) (t1 ∷ t2 ∷ t3 ∷ t4 ∷ v)) p
        (inl (
          refl,
          (
            t1.line,
            t1 ∷ [],
            t2 ∷ t3 ∷ t4 ∷ [],
            (t1, default_read t1 c, refl),
            (
              t2.line,
              t2 ∷ [],
              t3 ∷ t4 ∷ [],
              (t2, open_read t2 d, refl),
              (true, t3 ∷ [], t4 ∷ [], (t3, none_read t3 e, refl), (t4.line, t4 ∷ [], [], (t4, close_read t4 f, refl), (refl, refl), refl), refl),
              refl,
            ),
            refl,
          ),
        ))))))

-- ---- names

module _ (sharing_ : Sharing) (at : Names → Said) (before : Names) (puts : (so_far : Names) (x : List ℕ) → with_name sharing_ (at so_far) x ≡ at (so_far ++ x ∷ []))
    (listed : (so_far : Names) → listed_names (at so_far).directive ≡ before ++ so_far) where
  pub list_back : (word : List ℕ) → ((t : Lexeme) → Fits t word → by sharing_by t ≡ Some sharing_) → (xs post : Names) (us : Lexemes) → list_all is_variable xs ≡ true → are_apart (before ++ (xs ++ post)) ≡ true →
      Lexed us (list_words word xs) → Says (at []) (at xs) us
  unfolding g.clause g.list_clause g.sharing_clause
  list_back word named [] post us h i l = none us (Says (at []) (at [])) l (says_nothing (at []))
  list_back word named (x ∷ xs) post us h i l = says_one (at []) (at (x ∷ xs)) us (clause us l)
    where
      clause : (us : Lexemes) → Lexed us (list_words word (x ∷ xs)) → g.clause true (at []) (at (x ∷ xs)) us
      clause us l =
          first us _ _ (g.clause true (at []) (at (x ∷ xs))) l (λ t1 ws c m.
          first ws _ _ (λ v. g.clause true (at []) (at (x ∷ xs)) (t1 ∷ v)) m (λ t2 rest d n.
          inr (inr (inr (inl (
            sharing_,
            t1 ∷ [],
            t2 ∷ rest,
            (t1, named t1 c, refl),
            (
              t2.line,
              t2 ∷ [],
              rest,
              (t2, open_read t2 d, refl),
              names_read sharing_ at before puts listed x xs post false rest h i n,
              refl,
            ),
            refl,
          ))))))

pub reduction_back : (at : Names → Said) (before : Names) → ((so_far : Names) (x : List ℕ) → with_name sharing.Plus (at so_far) x ≡ at (so_far ++ x ∷ [])) → ((so_far : Names) → listed_names (at so_far).directive ≡ before ++ so_far) →
    (xs post : Names) (us : Lexemes) → list_all is_variable xs ≡ true → are_apart (before ++ (xs ++ post)) ≡ true → Lexed us (reduction_words xs) → Says (at []) (at xs) us
unfolding g.clause g.list_clause g.reduction_clause
reduction_back at before puts listed [] post us h i l = none us (Says (at []) (at [])) l (says_nothing (at []))
reduction_back at before puts listed (x ∷ xs) post us h i l = says_one (at []) (at (x ∷ xs)) us (clause us l)
  where
    clause : (us : Lexemes) → Lexed us (reduction_words (x ∷ xs)) → g.clause true (at []) (at (x ∷ xs)) us
    clause us l =
        first us _ _ (g.clause true (at []) (at (x ∷ xs))) l (λ t1 ws c m.
        first ws _ _ (λ v. g.clause true (at []) (at (x ∷ xs)) (t1 ∷ v)) m (λ t2 vs d n.
        first vs _ _ (λ v. g.clause true (at []) (at (x ∷ xs)) (t1 ∷ t2 ∷ v)) n (λ t3 ys e o.
        first ys _ _ (λ v. g.clause true (at []) (at (x ∷ xs)) (t1 ∷ t2 ∷ t3 ∷ v)) o (λ t4 rest f p.
        inr (inr (inr (inr (
          t1.line,
          t1 ∷ [],
          t2 ∷ t3 ∷ t4 ∷ rest,
          (t1, reduction_read t1 c, refl),
          (
            t2.line,
            t2 ∷ [],
            t3 ∷ t4 ∷ rest,
            (t2, open_read t2 d, refl),
            (
              t3.line,
              t3 ∷ [],
              t4 ∷ rest,
              (t3, plus_read t3 e, refl),
              (
                t4.line,
                t4 ∷ [],
                rest,
                (t4, colon_read t4 f, refl),
                names_read sharing.Plus at before puts listed x xs post true rest h i p,
                refl,
              ),
              refl,
            ),
            refl,
          ),
          refl,
        ))))))))

-- ---- numbers

module _ (line : ℕ) (none_ : Bool) (privates firsts shareds pluses : Names) where
  abbrev without : Said
  without = said line none_ privates firsts shareds pluses 0 None

  abbrev collapsed : ℕ → Said
  collapsed n = said line none_ privates firsts shareds pluses n None

  pub collapse_back : (n : ℕ) (us : Lexemes) → nat_le n 2 ≡ true → Lexed us (collapse_words n) → Says without (collapsed n) us
  unfolding g.clause g.collapse_clause
  collapse_back n us h l = by (n == 0) refl l
    where
      zero_is : (n : ℕ) → (n == 0) ≡ true → n ≡ 0
      zero_is zero e = refl
      zero_is (suc n) e = absurd (grind (arith, nat_tests))

      clause : (us : Lexemes) → (n == 0) ≡ false → Lexed us (apart (codes "collapse") ∷ joined (codes "(") ∷ joined (decimal n) ∷ joined (codes ")") ∷ []) → g.clause true without (collapsed n) us
      clause us z l =
          first us _ _ (g.clause true without (collapsed n)) l (λ t1 ws c m.
          first ws _ _ (λ v. g.clause true without (collapsed n) (t1 ∷ v)) m (λ t2 vs d o.
          first vs _ _ (λ v. g.clause true without (collapsed n) (t1 ∷ t2 ∷ v)) o (λ t3 xs e p.
          first xs _ _ (λ v. g.clause true without (collapsed n) (t1 ∷ t2 ∷ t3 ∷ v)) p (λ t4 end f q.
          none end (λ v. g.clause true without (collapsed n) (t1 ∷ t2 ∷ t3 ∷ t4 ∷ v)) q
          (inr (inr (inl (
            refl,
            (
              t1.line,
              t1 ∷ [],
              t2 ∷ t3 ∷ t4 ∷ [],
              (t1, collapse_read t1 c, refl),
              (
                t2.line,
                t2 ∷ [],
                t3 ∷ t4 ∷ [],
                (t2, open_read t2 d, refl),
                (n, t3 ∷ [], t4 ∷ [], (t3, count_read t3 n h z e, refl), (t4.line, t4 ∷ [], [], (t4, close_read t4 f, refl), (refl, refl), refl), refl),
                refl,
              ),
              refl,
            ),
          ))))))))

      by : (t : Bool) → (n == 0) ≡ t → Lexed us (cond t [] (apart (codes "collapse") ∷ joined (codes "(") ∷ joined (decimal n) ∷ joined (codes ")") ∷ [])) → Says without (collapsed n) us
      by true e m = none us (Says without (collapsed n)) m (subst (λ (k : ℕ). Says without (collapsed k) []) (sym (zero_is n e)) (says_nothing without))
      by false e m = says_one without (collapsed n) us (clause us e m)

abbrev kind_grammar : ScheduleKind → Option ℕ → Lexemes → Type 0
kind_grammar k n = g.schedule_kind (k, n)

abbrev is_small : Option ℕ → Type 0
is_small None = Unit {0}
is_small (Some n) = nat_le n 2147483647 ≡ true

-- a kind of schedule that may have a size
chunk_back : (k : ScheduleKind) (n : Option ℕ) (us : Lexemes) → ((t : Lexeme) → Fits t (schedule_text k) → by chunked_by t ≡ Some k) → is_small n → Lexed us (joined (schedule_text k) ∷ chunk_words n) → kind_grammar k n us
unfolding g.schedule_kind g.chunked g.chunk_size
chunk_back k None us named small l =
    first us _ _ (kind_grammar k None) l (λ t ws c m.
    none ws (λ v. kind_grammar k None (t ∷ v)) m (inl (k, t ∷ [], [], (t, named t c, refl), (None, [], [], inr (refl, refl), (refl, refl), refl), refl)))
chunk_back k (Some n) us named small l =
    first us _ _ (kind_grammar k (Some n)) l (λ t1 ws c m.
    first ws _ _ (λ v. kind_grammar k (Some n) (t1 ∷ v)) m (λ t2 vs d o.
    first vs _ _ (λ v. kind_grammar k (Some n) (t1 ∷ t2 ∷ v)) o (λ t3 end e p.
    none end (λ v. kind_grammar k (Some n) (t1 ∷ t2 ∷ t3 ∷ v)) p
    (inl (
      k,
      t1 ∷ [],
      t2 ∷ t3 ∷ [],
      (t1, named t1 c, refl),
      (Some n, t2 ∷ t3 ∷ [], [], inl (t2.line, t2 ∷ [], t3 ∷ [], (t2, comma_read t2 d, refl), (plain n, t3 ∷ [], [], (t3, chunk_read t3 n small e, refl), (refl, refl), refl), refl), (refl, refl), refl),
      refl,
    )))))

-- one that has none
bare_back : (k : ScheduleKind) (us : Lexemes) → ((t : Lexeme) → Fits t (schedule_text k) → by unchunked_by t ≡ Some k) → Lexed us (joined (schedule_text k) ∷ []) → kind_grammar k None us
unfolding g.schedule_kind g.unchunked
bare_back k us named l =
    first us _ _ (kind_grammar k None) l (λ t ws c m.
    none ws (λ v. kind_grammar k None (t ∷ v)) m (inr (k, t ∷ [], [], (t, named t c, refl), (refl, refl), refl)))

no_size : {A : Type 0} → false ≡ true → A
no_size e = absurd (let g : false ≡ true = e in cc)

kind_back : (k : ScheduleKind) (n : Option ℕ) (us : Lexemes) → is_readable_chunk k n ≡ true → Lexed us (joined (schedule_text k) ∷ chunk_words n) → kind_grammar k n us
kind_back schedule.Static None us h l = chunk_back schedule.Static None us static_read tt l
kind_back schedule.Static (Some n) us h l = chunk_back schedule.Static (Some n) us static_read h l
kind_back schedule.Dynamic None us h l = chunk_back schedule.Dynamic None us dynamic_read tt l
kind_back schedule.Dynamic (Some n) us h l = chunk_back schedule.Dynamic (Some n) us dynamic_read h l
kind_back schedule.Guided None us h l = chunk_back schedule.Guided None us guided_read tt l
kind_back schedule.Guided (Some n) us h l = chunk_back schedule.Guided (Some n) us guided_read h l
kind_back schedule.Auto None us h l = bare_back schedule.Auto us auto_read l
kind_back schedule.Auto (Some n) us h l = no_size h
kind_back schedule.Runtime None us h l = bare_back schedule.Runtime us runtime_read l
kind_back schedule.Runtime (Some n) us h l = no_size h

module _ (line : ℕ) (none_ : Bool) (privates firsts shareds pluses : Names) (collapse : ℕ) where
  abbrev scheduled : Option (ScheduleKind × Option ℕ) → Said
  scheduled x = said line none_ privates firsts shareds pluses collapse x

  pub schedule_back : (x : Option (ScheduleKind × Option ℕ)) (us : Lexemes) → is_readable_schedule x ≡ true → Lexed us (schedule_words x) → Says (scheduled None) (scheduled x) us
  unfolding g.clause g.schedule_clause
  schedule_back None us h l = none us (Says (scheduled None) (scheduled None)) l (says_nothing (scheduled None))
  schedule_back (Some x) us h l = says_one (scheduled None) (scheduled (Some x)) us (clause us l)
    where
      clause : (us : Lexemes) → Lexed us (schedule_words (Some x)) → g.clause true (scheduled None) (scheduled (Some x)) us
      clause us l =
          first us _ _ (g.clause true (scheduled None) (scheduled (Some x))) l (λ t1 ws c m.
          first ws _ _ (λ v. g.clause true (scheduled None) (scheduled (Some x)) (t1 ∷ v)) m (λ t2 vs d o.
          parts vs (joined (schedule_text x.0) ∷ chunk_words x.1) (joined (codes ")") ∷ []) (λ v. g.clause true (scheduled None) (scheduled (Some x)) (t1 ∷ t2 ∷ v)) o (λ said_ last e p.
          first last _ _ (λ v. g.clause true (scheduled None) (scheduled (Some x)) (t1 ∷ t2 ∷ (said_ ++ v))) p (λ t3 end f q.
          none end (λ v. g.clause true (scheduled None) (scheduled (Some x)) (t1 ∷ t2 ∷ (said_ ++ t3 ∷ v))) q
          (inr (inl (
            refl,
            (
              t1.line,
              t1 ∷ [],
              t2 ∷ (said_ ++ t3 ∷ []),
              (t1, schedule_read t1 c, refl),
              (
                t2.line,
                t2 ∷ [],
                said_ ++ t3 ∷ [],
                (t2, open_read t2 d, refl),
                (x, said_, t3 ∷ [], kind_back x.0 x.1 said_ h e, (t3.line, t3 ∷ [], [], (t3, close_read t3 f, refl), (refl, refl), refl), refl),
                refl,
              ),
              refl,
            ),
          )))))))
