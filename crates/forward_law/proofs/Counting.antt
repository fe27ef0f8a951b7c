-- The limit on statement instances stops a loop long before as many iterations as fit a number.
use Rattle.std.specs.Prelude.{◌≡◌, ℕ, zero, suc, ◌+◌, ◌<◌, ◌≤◌, Bool, true, false, if◌then◌else◌, nat_le, List, [], ◌∷◌, ◌++◌, Option, Some, None, Result, Ok, Err, slice_set, refl}
use Rattle.std.proofs.Common.{ap, sym, subst, ◌∙◌, arith}
use Rattle.std.proofs.lemmas.Bool.Decides.{nat_tests}
use Rattle.meaning.specs.declared.value.TrapAt.{TrapAt}
use Rattle.meaning.specs.Logs.{Event, begins, touches, pushes, ends, traps, Log, both, Note, tells, stores, notes_in, Traced, continuation}
use Rattle.meaning.specs.Sites.{Cells}
use Rattle.meaning.specs.Stops.{Limits, Judge, Seen, Stop, over_statements, over_touches, over_words, tick_of, seen_with, unless_conflict}
use Rattle.meaning.specs.Conflicts.{Clash}
use Rattle.meaning.specs.Statements.{Run, turns}
use Rattle.first_stops.specs.Kept.{Kept, with_note, after_notes}
use Rattle.sweep_law.specs.Telling.{goes_on}
use Rattle.sweep_law.proofs.Combining.{clash, still}

abbrev event_begun : Event → ℕ
event_begun begins = 1
event_begun (touches t) = 0
event_begun (pushes v) = 0
event_begun (ends line) = 0
event_begun (traps t) = 0

abbrev note_begun : Note → ℕ
note_begun (tells e) = event_begun e
note_begun (stores p v) = 0

-- how many statement instances begin
abbrev pub begun_in : List Note → ℕ
begun_in [] = 0
begun_in (n ∷ ns) = note_begun n + begun_in ns

pub begun_append : (ms ns : List Note) → begun_in (ms ++ ns) ≡ begun_in ms + begun_in ns
begun_append [] ns = omega arith
begun_append (m ∷ ms) ns = let e = begun_append ms ns in omega arith

none_more : (n : ℕ) → n ≡ n + 0
none_more n = omega arith

le_of : (a b : ℕ) → nat_le a b ≡ true → a ≤ b
le_of a b h = grind (arith, nat_tests)

-- what was seen goes on within the limit
record Grown (limits : Limits) (s : Seen) (e : Event) (t : Seen) : Type 0 where
  count : t.statements ≡ s.statements + event_begun e
  within : zero < event_begun e → t.statements ≤ limits.statements

grown : (j : Judge) (l : Limits) (s : Seen) (e : Event) (t : Seen) → seen_with j l s e ≡ Ok t → Grown l s e t
grown j l s begins t h = by_test (nat_le (s.statements + 1) l.statements) refl h
  where
    by_test : (b : Bool) → nat_le (s.statements + 1) l.statements ≡ b → (if b then Ok (record s { statements = s.statements + 1 }) else Err over_statements) ≡ Ok t → Grown l s begins t
    by_test true e g =
        let q : record s { statements = s.statements + 1 } ≡ t = cc in
        let p : s.statements + 1 ≡ t.statements = ap (λ (x : Seen). x.statements) q in
        record { count = sym p; within = λ z. subst (λ (n : ℕ). n ≤ l.statements) p (le_of (s.statements + 1) l.statements e) }
    by_test false e g = absurd (cc)
grown j l s (touches u) t h = by_test (nat_le (s.touches + 1) l.touches) h
  where
    by_test : (b : Bool) → (if b then Ok (record s { touches = s.touches + 1; since = s.since ++ u ∷ [] }) else Err over_touches) ≡ Ok t → Grown l s (touches u) t
    by_test true g =
        let q : record s { touches = s.touches + 1; since = s.since ++ u ∷ [] } ≡ t = cc in
        let p : s.statements ≡ t.statements = ap (λ (x : Seen). x.statements) q in
        record { count = sym p ∙ none_more s.statements; within = λ z. absurd (omega (arith, z)) }
    by_test false g = absurd (cc)
grown j l s (pushes v) t h = by_test (nat_le (s.words + 1) l.words) h
  where
    by_test : (b : Bool) → (if b then Ok (record s { words = s.words + 1 }) else Err over_words) ≡ Ok t → Grown l s (pushes v) t
    by_test true g =
        let q : record s { words = s.words + 1 } ≡ t = cc in
        let p : s.statements ≡ t.statements = ap (λ (x : Seen). x.statements) q in
        record { count = sym p ∙ none_more s.statements; within = λ z. absurd (omega (arith, z)) }
    by_test false g = absurd (cc)
grown j l s (ends line) t h = by_clash (j line s.since) h
  where
    by_clash : (o : Option Clash) → unless_conflict line (record s { since = [] }) o ≡ Ok t → Grown l s (ends line) t
    by_clash None g =
        let q : record s { since = [] } ≡ t = cc in
        let p : s.statements ≡ t.statements = ap (λ (x : Seen). x.statements) q in
        record { count = sym p ∙ none_more s.statements; within = λ z. absurd (omega (arith, z)) }
    by_clash (Some c) g = absurd (cc)
grown j l s (traps u) t h = absurd (cc)

going_on : (j : Judge) (l : Limits) (n : ℕ) (c : Cells) (ns : List Note) (P : Type 0) (r : Result Seen Stop) → ((t : Seen) → r ≡ Ok t → goes_on (after_notes j l (record { seen = Ok t; ticks = n; cells = c }) ns).seen ≡ true → P)
    → goes_on (after_notes j l (record { seen = r; ticks = n; cells = c }) ns).seen ≡ true → P
going_on j l n c ns P (Ok t) h g = h t refl g
going_on j l n c ns P (Err x) h g =
    let k : Kept = record { seen = Err x; ticks = n; cells = c } in
    absurd (clash g (ap (λ (z : Kept). goes_on z.seen) (still j l k ns refl)))

-- where a run goes on, what begins is within the limit
within_limit : (j : Judge) (l : Limits) (ns : List Note) (s : Seen) (n : ℕ) (c : Cells) → goes_on (after_notes j l (record { seen = Ok s; ticks = n; cells = c }) ns).seen ≡ true
    → (b : ℕ) → b ≡ begun_in ns → zero < b → s.statements + b ≤ l.statements
within_limit j l [] s n c g b e h = absurd (omega (arith, h))
within_limit j l (stores p v ∷ ns) s n c g b e h = let q : b ≡ begun_in ns = omega arith in within_limit j l ns s n (slice_set c p v) g b q h
within_limit j l (tells e ∷ ns) s n c g b q h =
    going_on j l (n + tick_of e) c ns (s.statements + b ≤ l.statements) (seen_with j l s e) (λ t p f. at_next t (grown j l s e t p) (begun_in ns) refl (within_limit j l ns t (n + tick_of e) c f (begun_in ns) refl)) g
  where
    at_next : (t : Seen) → Grown l s e t → (m : ℕ) → m ≡ begun_in ns → (zero < m → t.statements + m ≤ l.statements) → s.statements + b ≤ l.statements
    at_next t d zero z f =
        let a : b ≡ event_begun e = omega arith in
        let w : t.statements ≤ l.statements = d.within (omega arith) in
        let u = d.count in
        omega arith
    at_next t d (suc m) z f = let w = f (omega arith) in let u = d.count in omega arith

pub limited : (j : Judge) (l : Limits) (k : Kept) (ns : List Note) → goes_on (after_notes j l k ns).seen ≡ true → zero < begun_in ns → begun_in ns ≤ l.statements
limited j l k ns g h = by_seen k.seen g
  where
    by_seen : (r : Result Seen Stop) → goes_on (after_notes j l (record { seen = r; ticks = k.ticks; cells = k.cells }) ns).seen ≡ true → begun_in ns ≤ l.statements
    by_seen r f = going_on j l k.ticks k.cells ns (begun_in ns ≤ l.statements) r (λ t p e. let w = within_limit j l ns t k.ticks k.cells e (begun_in ns) refl h in omega arith) f

-- each turn begins one
pub turns_begin : (i : ℕ) (f : ℕ → Run) → ((k : ℕ) (c : Cells) → zero < begun_in (notes_in i (f k c).log)) → (n : ℕ) (c d : Cells) → (turns n f c).out ≡ Ok d → n ≤ begun_in (notes_in i (turns n f c).log)
turns_begin i f h zero c d e = omega arith
turns_begin i f h (suc n) c d e = joined (turns n f c).log (turns n f c).out (λ b q. turns_begin i f h n c b q) e
  where
    joined : (l : Log) (r : Result Cells TrapAt) → ((b : Cells) → r ≡ Ok b → n ≤ begun_in (notes_in i l)) → (continuation l r (f n)).out ≡ Ok d → suc n ≤ begun_in (notes_in i (continuation l r (f n)).log)
    joined l (Ok b) p q = let a = p b refl in let g = h n b in let s = begun_append (notes_in i l) (notes_in i (f n b).log) in omega arith
    joined l (Err x) p q = absurd (cc)
