-- The first stop and the ticks of a run, of which statement instances and traps alone are looked at.
use Rattle.std.specs.Prelude.{◌≡◌, ℕ, zero, suc, ◌+◌, ◌-◌, ◌≤◌, Bool, true, false, if◌then◌else◌, nat_le, List, [], ◌∷◌, ◌++◌, Some, None, Result, Ok, Err, refl}
use Rattle.std.proofs.Common.{ap, sym, ◌∙◌, arith, append_assoc}
use Rattle.std.proofs.Math.Nat.{add-sub_cancel}
use Rattle.std.proofs.lemmas.Bool.Decides.{nat_tests}
use Rattle.meaning.specs.declared.value.TrapAt.{TrapAt}
use Rattle.meaning.specs.Logs.{Event, begins, touches, pushes, ends, traps, instance, right_side, rounds, turn, iteration, condition, taken, Log, silence, single, touched, sets, both, within, Traced, events_in, events}
use Rattle.meaning.specs.Sites.{Cells}
use Rattle.meaning.specs.Laws.{trap_in, trap_of}
use Rattle.meaning.specs.Stops.{Seen, Stop, at_end, over_statements, by_conflict, the_limits, stop_or, stop_after, first_stop, ticks_after, ticks, nothing_seen, statements_and_traps}
use Rattle.dual_meaning.specs.Counted.{Counted, going, begun, seen, ended, counted, overs, EndsAs}

-- so many statement instances, and nothing else, were seen
abbrev instances : ℕ → Seen
instances n = record { statements = n; touches = 0; words = 0; since = [] }

abbrev stop_from : ℕ → List Event → Stop
stop_from n es = stop_after by_conflict the_limits (instances n) es

abbrev ticks_from : ℕ → List Event → ℕ
ticks_from n es = ticks_after by_conflict the_limits (instances n) es

over : (n : ℕ) → n + 0 ≡ 16777216 → nat_le (n + 1) 16777216 ≡ false
over n h = grind (arith, nat_tests)

room : (n m : ℕ) → n + suc m ≡ 16777216 → nat_le (n + 1) 16777216 ≡ true
room n m h = grind (arith, nat_tests)

looked_at : (es fs : List Event) → statements_and_traps (es ++ fs) ≡ statements_and_traps es ++ statements_and_traps fs
looked_at [] fs = refl
looked_at (begins ∷ es) fs = ap (λ (xs : List Event). begins ∷ xs) (looked_at es fs)
looked_at (touches t ∷ es) fs = looked_at es fs
looked_at (pushes v ∷ es) fs = looked_at es fs
looked_at (ends line ∷ es) fs = looked_at es fs
looked_at (traps t ∷ es) fs = ap (λ (xs : List Event). traps t ∷ xs) (looked_at es fs)

looked_at_both : (es fs gs : List Event) → statements_and_traps (es ++ fs) ++ gs ≡ statements_and_traps es ++ (statements_and_traps fs ++ gs)
looked_at_both es fs gs = ap (λ (xs : List Event). xs ++ gs) (looked_at es fs) ∙ (simp append_assoc)

-- ---- the stop

abbrev stop_in : Result (Unit {0}) Stop → ℕ → (ℕ → Stop) → Stop
stop_in (Ok u) m f = f m
stop_in (Err s) m f = s

-- the stop that was seen, or that of what follows
abbrev StopsAs : Log → ℕ → Type 0
StopsAs l k =
    (n left : ℕ) (es : List Event) (f : ℕ → Stop) → n + left ≡ 16777216 → ((i m : ℕ) → i + m ≡ 16777216 → stop_from i es ≡ f m) →
    stop_from n (statements_and_traps (events_in k l) ++ es) ≡ stop_in (seen l left).0 (seen l left).1 f

stop_joined : (r : Result (Unit {0}) Stop) (m : ℕ) (b : Log) (f : ℕ → Stop)
    → stop_in r m (λ j. stop_in (seen b j).0 (seen b j).1 f) ≡ stop_in (going r m (λ u j. seen b j)).0 (going r m (λ u j. seen b j)).1 f
stop_joined (Ok u) m b f = refl
stop_joined (Err s) m b f = refl

stop_begun : (n left : ℕ) (es : List Event) (f : ℕ → Stop) (g : ℕ → Counted (Unit {0})) → n + left ≡ 16777216
    → ((i m : ℕ) → i + m ≡ 16777216 → stop_from i es ≡ stop_in (g m).0 (g m).1 f)
    → stop_from n (begins ∷ es) ≡ stop_in (begun left g).0 (begun left g).1 f
stop_begun n zero es f g e h = rw (over n e) refl
stop_begun n (suc m) es f g e h = rw (room n m e) (h (n + 1) m (omega arith))

stops_as : (l : Log) (k : ℕ) → StopsAs l k
stops_as silence k n left es f e h = h n left e
stops_as (single begins) k n left es f e h = stop_begun n left es f (λ m. (Ok tt, m)) e h
stops_as (single (touches t)) k n left es f e h = h n left e
stops_as (single (pushes v)) k n left es f e h = h n left e
stops_as (single (ends line)) k n left es f e h = h n left e
stops_as (single (traps t)) k n left es f e h = refl
stops_as (touched p kind) k n left es f e h = h n left e
stops_as (sets p v) k n left es f e h = h n left e
stops_as (both a b) k n left es f e h =
    ap (stop_from n) (looked_at_both (events_in k a) (events_in k b) es)
    ∙ stops_as a k n left (statements_and_traps (events_in k b) ++ es) (λ m. stop_in (seen b m).0 (seen b m).1 f) e (λ i m j. stops_as b k i m es f j h)
    ∙ stop_joined (seen a left).0 (seen a left).1 b f
stops_as (within instance a) k n left es f e h = stop_begun n left (statements_and_traps (events_in k a) ++ es) f (seen a) e (λ i m j. stops_as a k i m es f j h)
stops_as (within (right_side x) a) k n left es f e h = stops_as a k n left es f e h
stops_as (within rounds a) k n left es f e h = stops_as a k n left es f e h
stops_as (within (turn j) a) k n left es f e h = stop_begun n left (statements_and_traps (events_in k a) ++ es) f (seen a) e (λ i m d. stops_as a k i m es f d h)
stops_as (within (iteration j) a) k n left es f e h = stop_begun n left (statements_and_traps (events_in j a) ++ es) f (seen a) e (λ i m d. stops_as a j i m es f d h)
stops_as (within (condition m) a) k n left es f e h = stops_as a k n left es f e h
stops_as (within (taken m) a) k n left es f e h = stops_as a k n left es f e h

-- ---- ticks

abbrev ticks_in : Result (Unit {0}) Stop → ℕ → (ℕ → ℕ) → ℕ
ticks_in (Ok u) m f = f m
ticks_in (Err s) m f = (16777216 - m) + overs s

abbrev TicksAs : Log → ℕ → Type 0
TicksAs l k =
    (n left : ℕ) (es : List Event) (f : ℕ → ℕ) → n + left ≡ 16777216 → ((i m : ℕ) → i + m ≡ 16777216 → i + ticks_from i es ≡ f m) →
    n + ticks_from n (statements_and_traps (events_in k l) ++ es) ≡ ticks_in (seen l left).0 (seen l left).1 f

ticks_joined : (r : Result (Unit {0}) Stop) (m : ℕ) (b : Log) (f : ℕ → ℕ)
    → ticks_in r m (λ j. ticks_in (seen b j).0 (seen b j).1 f) ≡ ticks_in (going r m (λ u j. seen b j)).0 (going r m (λ u j. seen b j)).1 f
ticks_joined (Ok u) m b f = refl
ticks_joined (Err s) m b f = refl

spent : (n left : ℕ) → n + left ≡ 16777216 → 16777216 - left ≡ n
spent n left e = ap (λ j. j - left) (sym e) ∙ add-sub_cancel n left

ticks_begun : (n left : ℕ) (es : List Event) (f : ℕ → ℕ) (g : ℕ → Counted (Unit {0})) → n + left ≡ 16777216
    → ((i m : ℕ) → i + m ≡ 16777216 → i + ticks_from i es ≡ ticks_in (g m).0 (g m).1 f)
    → n + ticks_from n (begins ∷ es) ≡ ticks_in (begun left g).0 (begun left g).1 f
ticks_begun n zero es f g e h = rw (over n e) (let z : n ≡ 16777216 = omega arith in ap (λ j. j + 1) z)
ticks_begun n (suc m) es f g e h =
    let r : n + (1 + ticks_from (n + 1) es) ≡ (n + 1) + ticks_from (n + 1) es = omega arith in
    rw (room n m e) (r ∙ h (n + 1) m (omega arith))

ticks_as : (l : Log) (k : ℕ) → TicksAs l k
ticks_as silence k n left es f e h = h n left e
ticks_as (single begins) k n left es f e h = ticks_begun n left es f (λ m. (Ok tt, m)) e h
ticks_as (single (touches t)) k n left es f e h = h n left e
ticks_as (single (pushes v)) k n left es f e h = h n left e
ticks_as (single (ends line)) k n left es f e h = h n left e
ticks_as (single (traps t)) k n left es f e h = let z = spent n left e in omega arith
ticks_as (touched p kind) k n left es f e h = h n left e
ticks_as (sets p v) k n left es f e h = h n left e
ticks_as (both a b) k n left es f e h =
    ap (λ xs. n + ticks_from n xs) (looked_at_both (events_in k a) (events_in k b) es)
    ∙ ticks_as a k n left (statements_and_traps (events_in k b) ++ es) (λ m. ticks_in (seen b m).0 (seen b m).1 f) e (λ i m j. ticks_as b k i m es f j h)
    ∙ ticks_joined (seen a left).0 (seen a left).1 b f
ticks_as (within instance a) k n left es f e h = ticks_begun n left (statements_and_traps (events_in k a) ++ es) f (seen a) e (λ i m j. ticks_as a k i m es f j h)
ticks_as (within (right_side x) a) k n left es f e h = ticks_as a k n left es f e h
ticks_as (within rounds a) k n left es f e h = ticks_as a k n left es f e h
ticks_as (within (turn j) a) k n left es f e h = ticks_begun n left (statements_and_traps (events_in k a) ++ es) f (seen a) e (λ i m d. ticks_as a k i m es f d h)
ticks_as (within (iteration j) a) k n left es f e h = ticks_begun n left (statements_and_traps (events_in j a) ++ es) f (seen a) e (λ i m d. ticks_as a j i m es f d h)
ticks_as (within (condition m) a) k n left es f e h = ticks_as a k n left es f e h
ticks_as (within (taken m) a) k n left es f e h = ticks_as a k n left es f e h

-- ---- a whole run

-- what is looked at of a log
abbrev looked : Log → List Event
looked l = statements_and_traps (events l) ++ []

no_more : (es : List Event) → es ++ [] ≡ es
no_more [] = refl
no_more (e ∷ es) = ap (λ (xs : List Event). e ∷ xs) (no_more es)

the_stop : (l : Log) → first_stop by_conflict the_limits (statements_and_traps (events l)) ≡ stop_in (seen l 16777216).0 (seen l 16777216).1 (λ m. at_end)
the_stop l = ap (stop_from 0) (sym (no_more (statements_and_traps (events l)))) ∙ stops_as l 0 0 16777216 [] (λ m. at_end) refl (λ i m e. refl)

the_ticks : (l : Log) → ticks by_conflict the_limits (statements_and_traps (events l)) ≡ ticks_in (seen l 16777216).0 (seen l 16777216).1 (λ m. 16777216 - m)
the_ticks l =
    let e : 0 + ticks_from 0 (statements_and_traps (events l) ++ []) ≡ ticks_in (seen l 16777216).0 (seen l 16777216).1 (λ m. 16777216 - m)
    = ticks_as l 0 0 16777216 [] (λ m. 16777216 - m) refl (λ i m e. let z = spent i m e in omega arith) in
    let z : ticks_from 0 (statements_and_traps (events l) ++ []) ≡ 0 + ticks_from 0 (statements_and_traps (events l) ++ []) = omega arith in
    ap (ticks_from 0) (sym (no_more (statements_and_traps (events l)))) ∙ (z ∙ e)

untrapped_by : (s : Seen) (es : List Event) (b : Bool) → ((q : Seen) → stop_after by_conflict the_limits q (statements_and_traps es) ≡ at_end → trap_in es ≡ None)
    → stop_or (if b then Ok (record s { statements = s.statements + 1 }) else Err over_statements) (λ q. stop_after by_conflict the_limits q (statements_and_traps es)) ≡ at_end → trap_in es ≡ None
untrapped_by s es true f e = f (record s { statements = s.statements + 1 }) e
untrapped_by s es false f e = absurd (cc)

-- a run that isn't seen to stop has no trap
untrapped : (es : List Event) (s : Seen) → stop_after by_conflict the_limits s (statements_and_traps es) ≡ at_end → trap_in es ≡ None
untrapped [] s e = refl
untrapped (begins ∷ es) s e = untrapped_by s es (nat_le (s.statements + 1) 16777216) (untrapped es) e
untrapped (touches t ∷ es) s e = untrapped es s e
untrapped (pushes v ∷ es) s e = untrapped es s e
untrapped (ends line ∷ es) s e = untrapped es s e
untrapped (traps t ∷ es) s e = absurd (cc)

by_seen : (t : Traced TrapAt Cells) (out : Result Cells TrapAt) (r : Result (Unit {0}) Stop) (m : ℕ) → t.out ≡ out → trap_in (events t.log) ≡ trap_of out
    → first_stop by_conflict the_limits (statements_and_traps (events t.log)) ≡ stop_in r m (λ m. at_end)
    → ticks by_conflict the_limits (statements_and_traps (events t.log)) ≡ ticks_in r m (λ m. 16777216 - m)
    → EndsAs t (going r m (λ u j. ended out j))
by_seen t (Ok cells) (Ok u) m o h s k = (o, s, k)
by_seen t (Err x) (Ok u) m o h s k = let n : None ≡ Some x = sym (untrapped (events t.log) nothing_seen s) ∙ h in absurd (cc)
by_seen t out (Err x) m o h s k = (s, k)

-- what is counted of a run that has its trap in its log is its first stop, with its ticks
pub ends_as : (t : Traced TrapAt Cells) → trap_in (events t.log) ≡ trap_of t.out → EndsAs t (counted t 16777216)
ends_as t h = by_seen t t.out (seen t.log 16777216).0 (seen t.log 16777216).1 refl h (the_stop t.log) (the_ticks t.log)

-- ---- instances are only taken

going_le : (r : Result (Unit {0}) Stop) (m : ℕ) (b : Log) (n : ℕ) → m ≤ n → ((j : ℕ) → (seen b j).1 ≤ j) → (going r m (λ u j. seen b j)).1 ≤ n
going_le (Ok u) m b n h f = let g = f m in omega arith
going_le (Err s) m b n h f = h

begun_le : (n : ℕ) (g : ℕ → Counted (Unit {0})) → ((m : ℕ) → (g m).1 ≤ m) → (begun n g).1 ≤ n
begun_le zero g f = omega arith
begun_le (suc n) g f = let h = f n in omega arith

seen_le : (l : Log) (n : ℕ) → (seen l n).1 ≤ n
seen_le silence n = omega arith
seen_le (single begins) n = begun_le n (λ m. (Ok tt, m)) (λ m. omega arith)
seen_le (single (touches t)) n = omega arith
seen_le (single (pushes v)) n = omega arith
seen_le (single (ends line)) n = omega arith
seen_le (single (traps t)) n = omega arith
seen_le (touched p kind) n = omega arith
seen_le (sets p v) n = omega arith
seen_le (both a b) n = going_le (seen a n).0 (seen a n).1 b n (seen_le a n) (seen_le b)
seen_le (within instance a) n = begun_le n (seen a) (seen_le a)
seen_le (within (right_side x) a) n = seen_le a n
seen_le (within rounds a) n = seen_le a n
seen_le (within (turn j) a) n = begun_le n (seen a) (seen_le a)
seen_le (within (iteration j) a) n = begun_le n (seen a) (seen_le a)
seen_le (within (condition m) a) n = seen_le a n
seen_le (within (taken m) a) n = seen_le a n

ended_le : (r : Result (Unit {0}) Stop) (m n : ℕ) (out : Result Cells TrapAt) → m ≤ n → (going r m (λ u j. ended out j)).1 ≤ n
ended_le (Ok u) m n (Ok cells) h = h
ended_le (Ok u) m n (Err x) h = h
ended_le (Err s) m n out h = h

pub counted_le : (t : Traced TrapAt Cells) (n : ℕ) → (counted t n).1 ≤ n
counted_le t n = ended_le (seen t.log n).0 (seen t.log n).1 n t.out (seen_le t.log n)
