-- What is in the grammar is readable.
use Rattle.std.proofs.Common.{◌≡◌, ℕ, zero, suc, Bool, true, false, cond, not, ◌&&◌, ◌||◌, nat_le, ◌==◌, List, [], ◌∷◌, ◌++◌, map, Option, Some, None, refl, sym, ap, subst, ◌∙◌, inl, inr, bytes_eq, eqb-true}
use Rattle.std.specs.List.{list_all, list_any}
use Rattle.std.proofs.lemmas.Slice.Eq.{bytes_eq-Decides}
use Rattle.tokens.specs.declared.TokenKind.{TokenKind}
use Rattle.tokens.specs.declared.TokenKind.TheVariants.{Word as word_kind, Number as number_kind, Mark, Dots, Sentinel, LineEnd}
use Rattle.tokens.specs.declared.Token.{Token}
use Rattle.tokens.specs.Lexeme.{Lexeme, lexeme}
use Rattle.tokens.specs.Spelled.{is_spelled_as, is_spelled, AreSpelled}
use Rattle.fl_ast.specs.Words.{reserved_words}
use Rattle.fl_ast.specs.declared.directive.ScheduleKind.{ScheduleKind}
use Rattle.fl_ast.specs.declared.directive.ScheduleKind.TheVariants as schedule
use Rattle.fl_ast.specs.Readable.{is_variable, are_apart, is_readable_chunk, is_readable_schedule, listed_names, has_readable_clauses}
use Rattle.parsing.specs.declared.symbol.Symbol.TheVariants as s
use Rattle.parsing.specs.declared.cursor.Word.{Word}
use Rattle.parsing.specs.declared.cursor.Number.{Number}
use Rattle.parsing.specs.Symbol.{look_up, words as word_table, kind_numbers, marks, dot_words, symbol_by, symbol_of}
use Rattle.parsing.specs.Terminal.{on, by, some, reads, names, number, word_of, is_eight, without_eight, plain_number}
use Rattle.parsing.specs.Reading.{Lexemes}
use Rattle.parsing.specs.Grammar.{Grammar, gives, one, times, many, ◌or◌, where_, ◌>>=◌ as ◌⨟◌}
use Rattle.omp_clauses.specs.declared.state.Sharing.{Sharing}
use Rattle.omp_clauses.specs.declared.state.Sharing.TheVariants.{Private, First, Shared, Plus}
use Rattle.omp_clauses.specs.declared.directive.DirectiveLine.{DirectiveLine}
use Rattle.omp_clauses.specs.declared.directive.DirectiveLine.TheVariants.{ParallelDo, EndParallelDo, Atomic, EndAtomic}
use Rattle.omp_clauses.specs.Said.{Said, nothing, lists, with_name, with_default, with_schedule, with_collapse}
use Rattle.omp_clauses.specs.Terminals.{chunked_by, value_where, is_loop_count, loop_count, new_name}
use Rattle.omp_clauses.specs.ClauseGrammar as g
use Rattle.omp_clauses.specs.LineGrammar as g2
use Rattle.omp_clauses.specs.Refused.{is_readable_line}
use Rattle.parsing.proofs.Outcomes.{differ}
use Rattle.parsing.proofs.Rules.{stepping}
use Rattle.parsing.proofs.OnSymbols.{look_up_is, wider}
use Rattle.omp_clauses.proofs.Places.{first_of_two, second_of_two, all_named, apart_named}

-- ---- lexemes

abbrev pub AllSpelled : Lexemes → Type 0
AllSpelled [] = Unit {0}
AllSpelled (t ∷ ts) = (is_spelled t ≡ true) × AllSpelled ts

spelled_split : (vs ws : Lexemes) → AllSpelled (vs ++ ws) → AllSpelled vs × AllSpelled ws
spelled_split [] ws s = (tt, s)
spelled_split (t ∷ vs) ws s = let rest = spelled_split vs ws s.1 in ((s.0, rest.0), rest.1)

lexemes_spelled : (text : List ℕ) (from : ℕ) (ts : List Token) → AreSpelled text from ts → AllSpelled (map (lexeme text) ts)
lexemes_spelled text from [] s = tt
lexemes_spelled text from (t ∷ ts) s = (s.3, lexemes_spelled text t.end ts s.4)

-- ---- grammars: what holds of each value of a spelled phrase

abbrev pub Holds : {A : Type 0} → Grammar A → (A → Type 0) → Type 0
Holds N P = (x : _) (us : Lexemes) → AllSpelled us → N x us → P x

holds_bind : {A B : Type 0} (N : Grammar A) (M : A → Grammar B) (Q : A → Type 0) (P : B → Type 0) → Holds N Q → ((x : A) → Q x → Holds (M x) P) → Holds (N ⨟ M) P
holds_bind N M Q P q f z us s (x, vs, ws, n, r, e) =
    let both = spelled_split vs ws (subst AllSpelled e s) in
    f x (q x vs both.0 n) z ws both.1 r

-- behind something that doesn't matter
holds_then : {A B : Type 0} (N : Grammar A) (M : A → Grammar B) (P : B → Type 0) → ((x : A) → Holds (M x) P) → Holds (N ⨟ M) P
holds_then N M P f = holds_bind N M (λ x. Unit {0}) P (λ x us s n. tt) (λ x _. f x)

holds_gives : {A : Type 0} (a : A) (P : A → Type 0) → P a → Holds (gives a) P
holds_gives {A} a P h x us s n = subst (λ (y : A). P y) (sym n.0) h

holds_or : {A : Type 0} (N M : Grammar A) (P : A → Type 0) → Holds N P → Holds M P → Holds (N or M) P
holds_or N M P p q x us s (inl n) = p x us s n
holds_or N M P p q x us s (inr m) = q x us s m

holds_where : {A : Type 0} (room : Bool) (N : Grammar A) (P : A → Type 0) → Holds N P → Holds (where_ room N) P
holds_where room N P p x us s n = p x us s n.1

holds_many : {A : Type 0} (step : A → Grammar A) (P : A → Type 0) → ((left : A) → P left → Holds (step left) P) → (left : A) → P left → Holds (many (stepping (λ _. true) step) left) P
holds_many {A} step P f left p x us s t = by t.0 left p x us s t.1
  where
    by : (n : ℕ) (left : A) → P left → (x : A) (us : Lexemes) → AllSpelled us → times (stepping (λ _. true) step) n left x us → P x
    by zero left p x us s t = holds_gives left P p x us s t
    by (suc n) left p x us s (y, vs, ws, (r, here), t, e) =
        let both = spelled_split vs ws (subst AllSpelled e s) in
        by n y (f left p y vs both.0 here) x ws both.1 t

-- ---- names

abbrev are_no_names : List (List ℕ) → Bool
are_no_names = list_all (λ w. not (names (look_up word_table w s.Name)))

and_true : (a b : Bool) → a ≡ true → b ≡ true → (a && b) ≡ true
and_true a b h k = rw (h, k) refl

not_true : {A : Type 0} (a : Bool) → not a ≡ true → a ≡ true → A
not_true true h e = differ true refl (sym h)
not_true false h e = differ false e refl

not_any : (bs : List ℕ) (ws : List (List ℕ)) → are_no_names ws ≡ true → names (look_up word_table bs s.Name) ≡ true → not (list_any (bytes_eq bs) ws) ≡ true
not_any bs [] h n = refl
not_any bs (w ∷ ws) h n = by (not_any bs ws (second_of_two _ _ h) n) (bytes_eq bs w) refl
  where
    by : not (list_any (bytes_eq bs) ws) ≡ true → (r : Bool) → bytes_eq bs w ≡ r → not (r || list_any (bytes_eq bs) ws) ≡ true
    by rest true e =
        let is_w : bs ≡ w = (bytes_eq-Decides bs w).0 e in
        not_true (names (look_up word_table w s.Name)) (first_of_two _ _ h) (ap (λ v. names (look_up word_table v s.Name)) (sym is_w) ∙ n)
    by rest false e = rest

variable_by : (k : TokenKind) (bs : List ℕ) → is_spelled_as k bs ≡ true → names (symbol_by k bs) ≡ true → is_variable bs ≡ true
unfolding symbol_by
variable_by word_kind bs spelled n = and_true _ _ spelled (not_any bs reserved_words refl n)
variable_by (number_kind v f) bs spelled n = not_true (names (look_up kind_numbers bs s.Number)) (look_up_is (λ a. not (names a)) kind_numbers bs s.Number refl refl) n
variable_by Mark bs spelled n = not_true (names (look_up marks bs s.Other)) (look_up_is (λ a. not (names a)) marks bs s.Other refl refl) n
variable_by Dots bs spelled n = not_true (names (look_up dot_words bs s.Other)) (look_up_is (λ a. not (names a)) dot_words bs s.Other refl refl) n
variable_by Sentinel bs spelled n = cc
variable_by LineEnd bs spelled n = cc

-- ---- what clauses keep

pub record IsReadableSoFar (c : Said) : Type 0 where
  pub variables : list_all is_variable (listed_names c.directive) ≡ true
  pub apart : are_apart (listed_names c.directive) ≡ true
  pub sizes : is_readable_schedule c.directive.schedule ≡ true
  pub loops : nat_le c.directive.collapse 2 ≡ true

-- a variable that no clause lists
record IsNew (c : Said) (x : Word) : Type 0 where
  variable : is_variable x.name ≡ true
  unlisted : lists c x.name ≡ false

new_by : (listed a : Bool) (t : Lexeme) (x : Word) → cond listed None (cond a (Some (word_of t)) None) ≡ Some x → (listed ≡ false) × (a ≡ true) × (word_of t ≡ x)
new_by true a t x e = cc
new_by false true t x e = (refl, refl, cc)
new_by false false t x e = cc

holds_new : (c : Said) → Holds (one (new_name true c)) (IsNew c)
holds_new c x us spelled n =
    let k = new_by (lists c n.0.bytes) (on names n.0) n.0 x n.1 in
    let here = (subst AllSpelled n.2 spelled).0 in
    record {
      variable = ap (λ (w : Word). is_variable w.name) (sym k.2) ∙ variable_by n.0.kind n.0.bytes here k.1;
      unlisted = ap (λ (w : Word). lists c w.name) (sym k.2) ∙ k.0;
    }

listed : (k : Sharing) (c : Said) (x : Word) → IsReadableSoFar c → IsNew c x → IsReadableSoFar (with_name k c x.name)
listed k c x R new = record {
  variables = all_named is_variable k c.directive x.name new.variable R.variables;
  apart = apart_named k c.directive x.name new.unlisted R.apart;
  sizes = same_schedule k c x.name R.sizes;
  loops = same_collapse k c x.name R.loops;
}
  where
    same_schedule : (k : Sharing) (c : Said) (x : List ℕ) → is_readable_schedule c.directive.schedule ≡ true → is_readable_schedule (with_name k c x).directive.schedule ≡ true
    same_schedule Private c x h = h
    same_schedule First c x h = h
    same_schedule Shared c x h = h
    same_schedule Plus c x h = h

    same_collapse : (k : Sharing) (c : Said) (x : List ℕ) → nat_le c.directive.collapse 2 ≡ true → nat_le (with_name k c x).directive.collapse 2 ≡ true
    same_collapse Private c x h = h
    same_collapse First c x h = h
    same_collapse Shared c x h = h
    same_collapse Plus c x h = h

none_readable : (line : ℕ) → IsReadableSoFar (nothing line)
none_readable line = record { variables = refl; apart = refl; sizes = refl; loops = refl }

-- ---- lists of names

holds_another : (k : Sharing) (c : Said) → IsReadableSoFar c → Holds (g.another_name true k c) IsReadableSoFar
unfolding g.another_name
holds_another k c R = holds_then _ _ _ (λ _. holds_bind _ _ (IsNew c) _ (holds_new c) (λ x new. holds_gives _ _ (listed k c x R new)))

holds_more : (k : Sharing) (c : Said) → IsReadableSoFar c → Holds (g.more_names true k c) IsReadableSoFar
unfolding g.more_names
holds_more k c R = holds_many (g.another_name true k) IsReadableSoFar (holds_another k) c R

holds_names : (k : Sharing) (c : Said) → IsReadableSoFar c → Holds (g.names true k c) IsReadableSoFar
unfolding g.names
holds_names k c R = holds_bind _ _ (IsNew c) _ (holds_new c) (λ x new. holds_bind _ _ IsReadableSoFar _ (holds_more k (with_name k c x.name) (listed k c x R new))
    (λ found F. holds_then _ _ _ (λ _. holds_gives _ _ F)))

holds_list : (c : Said) → IsReadableSoFar c → Holds (g.list_clause true c) IsReadableSoFar
unfolding g.list_clause g.sharing_clause g.reduction_clause
holds_list c R = holds_or _ _ _ (holds_then _ _ _ (λ k. holds_then _ _ _ (λ _. holds_names k c R)))
    (holds_then _ _ _ (λ _. holds_then _ _ _ (λ _. holds_then _ _ _ (λ _. holds_then _ _ _ (λ _. holds_names Plus c R)))))

-- ---- clauses that stand once

holds_default : (c : Said) → IsReadableSoFar c → Holds (g.default_clause c) IsReadableSoFar
unfolding g.default_clause
holds_default c R = holds_then _ _ _ (λ _. holds_then _ _ _ (λ _. holds_then _ _ _ (λ none. holds_then _ _ _ (λ _. holds_gives (with_default none c) _
    (record { variables = R.variables; apart = R.apart; sizes = R.sizes; loops = R.loops })))))

abbrev has_chunks : ScheduleKind → Bool
has_chunks schedule.Static = true
has_chunks schedule.Dynamic = true
has_chunks schedule.Guided = true
has_chunks schedule.Auto = false
has_chunks schedule.Runtime = false

abbrev has_chunks_if : Option ScheduleKind → Bool
has_chunks_if None = false
has_chunks_if (Some k) = has_chunks k

holds_chunked : Holds (one (by chunked_by)) (λ k. has_chunks k ≡ true)
holds_chunked k us spelled n =
    let reads_it : reads chunked_by (symbol_of n.0) ≡ true = ap some n.1 in
    sym (ap has_chunks_if n.1) ∙ wider (reads chunked_by) (λ a. has_chunks_if (chunked_by a)) refl refl (n.0 ∷ []) reads_it

abbrev is_size : Option ℕ → Bool
is_size None = true
is_size (Some n) = nat_le n 2147483647

cond_is : {A : Type 0} (b : Bool) (a x : A) → cond b (Some a) None ≡ Some x → (b ≡ true) × (a ≡ x)
cond_is true a x h = (refl, cc)
cond_is false a x h = cc

small_chunk : (o : Option Number) (n : Number) → without_eight 2147483647 o ≡ Some n → nat_le n.value 2147483647 ≡ true
small_chunk None n e = cc
small_chunk (Some m) n e =
    let k = cond_is (nat_le m.value 2147483647 && not (is_eight m.suffix)) m n e in
    ap (λ (v : Number). nat_le v.value 2147483647) (sym k.1) ∙ first_of_two (nat_le m.value 2147483647) (not (is_eight m.suffix)) k.0

holds_chunk : Holds (one (plain_number 2147483647)) (λ n. nat_le n.value 2147483647 ≡ true)
holds_chunk n us spelled h = small_chunk (number h.0) n h.1

holds_size : Holds g.chunk_size (λ o. is_size o ≡ true)
unfolding g.chunk_size
holds_size = holds_or _ _ _ (holds_then _ _ _ (λ _. holds_bind _ _ (λ n. nat_le n.value 2147483647 ≡ true) _ holds_chunk (λ n h. holds_gives (Some n.value) _ h))) (holds_gives None _ refl)

abbrev Chunks : ScheduleKind × Option ℕ → Type 0
Chunks k = is_readable_chunk k.0 k.1 ≡ true

sized : (k : ScheduleKind) (size : Option ℕ) → has_chunks k ≡ true → is_size size ≡ true → is_readable_chunk k size ≡ true
sized k None h i = refl
sized schedule.Static (Some n) h i = i
sized schedule.Dynamic (Some n) h i = i
sized schedule.Guided (Some n) h i = i
sized schedule.Auto (Some n) h i = h
sized schedule.Runtime (Some n) h i = h

unsized : (k : ScheduleKind) → is_readable_chunk k None ≡ true
unsized k = refl

holds_schedule_kind : Holds g.schedule_kind Chunks
unfolding g.schedule_kind g.chunked g.unchunked
holds_schedule_kind = holds_or _ _ _
    (holds_bind _ _ (λ k. has_chunks k ≡ true) _ holds_chunked (λ k h. holds_bind _ _ (λ o. is_size o ≡ true) _ holds_size (λ o i. holds_gives (k, o) Chunks (sized k o h i))))
    (holds_then _ _ _ (λ k. holds_gives (k, None) Chunks (unsized k)))

holds_schedule : (c : Said) → IsReadableSoFar c → Holds (g.schedule_clause c) IsReadableSoFar
unfolding g.schedule_clause
holds_schedule c R = holds_then _ _ _ (λ _. holds_then _ _ _ (λ _. holds_bind _ _ Chunks _ holds_schedule_kind (λ k h. holds_then _ _ _ (λ _. holds_gives (with_schedule k c) _
    (record { variables = R.variables; apart = R.apart; sizes = h; loops = R.loops })))))

few_loops : (o : Option Number) (n : ℕ) → value_where is_loop_count o ≡ Some n → nat_le n 2 ≡ true
few_loops None n e = cc
few_loops (Some m) n e =
    let k = cond_is (is_loop_count m) m.value n e in
    ap (λ v. nat_le v 2) (sym k.1) ∙ by (m.value == 1) refl k.0
  where
    by : (b : Bool) → (m.value == 1) ≡ b → (b || (m.value == 2)) ≡ true → nat_le m.value 2 ≡ true
    by true e h = ap (λ v. nat_le v 2) (eqb-true m.value 1 e)
    by false e h = ap (λ v. nat_le v 2) (eqb-true m.value 2 h)

holds_loops : Holds (one loop_count) (λ n. nat_le n 2 ≡ true)
holds_loops n us spelled h = few_loops (number h.0) n h.1

holds_collapse : (c : Said) → IsReadableSoFar c → Holds (g.collapse_clause c) IsReadableSoFar
unfolding g.collapse_clause
holds_collapse c R = holds_then _ _ _ (λ _. holds_then _ _ _ (λ _. holds_bind _ _ (λ n. nat_le n 2 ≡ true) _ holds_loops (λ n h. holds_then _ _ _ (λ _. holds_gives (with_collapse n c) _
    (record { variables = R.variables; apart = R.apart; sizes = R.sizes; loops = h })))))

-- ---- directives

holds_clause : (c : Said) → IsReadableSoFar c → Holds (g.clause true c) IsReadableSoFar
unfolding g.clause
holds_clause c R =
    holds_or _ _ _ (holds_where _ _ _ (holds_default c R))
    (holds_or _ _ _ (holds_where _ _ _ (holds_schedule c R))
    (holds_or _ _ _ (holds_where _ _ _ (holds_collapse c R))
    (holds_list c R)))

holds_next : (c : Said) → IsReadableSoFar c → Holds (g.next_clause true c) IsReadableSoFar
unfolding g.next_clause g.comma_clause
holds_next c R = holds_or _ _ _ (holds_then _ _ _ (λ _. holds_clause c R)) (holds_clause c R)

holds_clauses : (c : Said) → IsReadableSoFar c → Holds (g.clauses true c) IsReadableSoFar
unfolding g.clauses
holds_clauses c R = holds_many (g.next_clause true) IsReadableSoFar holds_next c R

readable : (c : Said) → IsReadableSoFar c → has_readable_clauses c.directive ≡ true
readable c R = and_true _ _ R.variables (and_true _ _ R.apart (and_true _ _ R.sizes R.loops))

-- what a parallel loop's line gives
pub holds_parallel : (line : ℕ) → Holds (g2.parallel_do true line) (λ d. has_readable_clauses d ≡ true)
unfolding g2.parallel_do
holds_parallel line = holds_then _ _ _ (λ _. holds_then _ _ _ (λ _. holds_bind _ _ IsReadableSoFar _ (holds_clauses (nothing line) (none_readable line))
    (λ c R. holds_then _ _ _ (λ _. holds_gives _ _ (readable c R)))))

abbrev IsReadableLine : DirectiveLine → Type 0
IsReadableLine d = is_readable_line d ≡ true

holds_line : Holds (g2.directive_line true) IsReadableLine
unfolding g2.directive_line g2.after_sentinel g2.loop_line g2.end_line g2.after_end g2.atomic_line
holds_line = holds_then _ _ _ (λ line. holds_or _ _ _ (holds_bind _ _ (λ d. has_readable_clauses d ≡ true) _ (holds_parallel line) (λ d h. holds_gives (ParallelDo d) IsReadableLine h))
    (holds_or _ _ _
    (holds_then _ _ _ (λ _. holds_or _ _ _ (holds_then _ _ _ (λ _. holds_gives EndParallelDo IsReadableLine refl)) (holds_then _ _ _ (λ _. holds_gives EndAtomic IsReadableLine refl))))
    (holds_then _ _ _ (λ _. holds_gives Atomic IsReadableLine refl))))

pub line_readable : (text : List ℕ) (tokens : List Token) (d : DirectiveLine) → AreSpelled text 0 tokens → g2.directive_line true d (map (lexeme text) tokens) → is_readable_line d ≡ true
line_readable text tokens d spelled n = holds_line d (map (lexeme text) tokens) (lexemes_spelled text 0 tokens spelled) n
