-- What a run keeps, by induction on what is told.
use Rattle.std.specs.Prelude.{◌≡◌, ℕ, ◌+◌, List, [], ◌∷◌, ◌++◌, Result, Ok, Err, slice_set, refl}
use Rattle.std.proofs.Common.{ap, ◌∙◌, arith}
use Rattle.meaning.specs.Logs.{Event, Log, silence, single, touched, sets, both, within, opening_events, iteration_in, events_in, Note, tells, stores, event_notes, notes_in, notes}
use Rattle.meaning.specs.Sites.{Cells}
use Rattle.meaning.specs.Stops.{Limits, Stop, Seen, nothing_seen, Judge, seen_with, stop_or, stop_after, tick_of, ticks_or, ticks_after, cells_or, cells_after}
use Rattle.first_stops.specs.Kept.{Kept, with_note, after_notes, stop_of, RunsKeepTheirFirstStop, NotesAreKeptInParts}

-- ---- events among what is told

abbrev told : List Note → List Event
told [] = []
told (tells e ∷ ns) = e ∷ told ns
told (stores p v ∷ ns) = told ns

told-append : (ms ns : List Note) → told (ms ++ ns) ≡ told ms ++ told ns
told-append [] ns = refl
told-append (tells e ∷ ms) ns = ap (λ (es : List Event). e ∷ es) (told-append ms ns)
told-append (stores p v ∷ ms) ns = told-append ms ns

told_of_events : (es : List Event) → told (event_notes es) ≡ es
told_of_events [] = refl
told_of_events (e ∷ es) = ap (λ (fs : List Event). e ∷ fs) (told_of_events es)

events_told : (k : ℕ) (l : Log) → told (notes_in k l) ≡ events_in k l
events_told k silence = refl
events_told k (single e) = refl
events_told k (touched p kind) = refl
events_told k (sets p v) = refl
events_told k (both a b) = rw (told-append (notes_in k a) (notes_in k b), events_told k a, events_told k b) refl
events_told k (within p a) =
    rw (told-append (event_notes (opening_events p)) (notes_in (iteration_in k p) a), told_of_events (opening_events p), events_told (iteration_in k p) a) refl

-- ---- after a stop nothing changes

stays : (j : Judge) (l : Limits) (x : Stop) (n : ℕ) (c : Cells) (ns : List Note)
    → after_notes j l (record { seen = Err x; ticks = n; cells = c }) ns ≡ record { seen = Err x; ticks = n; cells = c }
stays j l x n c [] = refl
stays j l x n c (tells e ∷ ns) = stays j l x n c ns
stays j l x n c (stores p v ∷ ns) = stays j l x n c ns

-- ---- the three parts

stops : (j : Judge) (l : Limits) (s : Seen) (n : ℕ) (c : Cells) (ns : List Note)
    → stop_of (after_notes j l (record { seen = Ok s; ticks = n; cells = c }) ns).seen ≡ stop_after j l s (told ns)
stops j l s n c [] = refl
stops j l s n c (stores p v ∷ ns) = stops j l s n (slice_set c p v) ns
stops j l s n c (tells e ∷ ns) = by_cases (λ t. stops j l t (n + tick_of e) c ns) (seen_with j l s e)
  where
    by_cases : ((t : Seen) → stop_of (after_notes j l (record { seen = Ok t; ticks = n + tick_of e; cells = c }) ns).seen ≡ stop_after j l t (told ns)) → (r : Result Seen Stop)
        → stop_of (after_notes j l (record { seen = r; ticks = n + tick_of e; cells = c }) ns).seen ≡ stop_or r (λ t. stop_after j l t (told ns))
    by_cases f (Ok t) = f t
    by_cases f (Err x) = ap (λ (k : Kept). stop_of k.seen) (stays j l x (n + tick_of e) c ns)

count : (j : Judge) (l : Limits) (s : Seen) (n : ℕ) (c : Cells) (ns : List Note)
    → (after_notes j l (record { seen = Ok s; ticks = n; cells = c }) ns).ticks ≡ n + ticks_after j l s (told ns)
count j l s n c [] = omega arith
count j l s n c (stores p v ∷ ns) = count j l s n (slice_set c p v) ns
count j l s n c (tells e ∷ ns) = by_cases (λ t. count j l t (n + tick_of e) c ns) (seen_with j l s e)
  where
    further : (k m t : ℕ) → k ≡ n + m + t → k ≡ n + (m + t)
    further k m t q = omega arith

    by_cases : ((t : Seen) → (after_notes j l (record { seen = Ok t; ticks = n + tick_of e; cells = c }) ns).ticks ≡ n + tick_of e + ticks_after j l t (told ns)) → (r : Result Seen Stop)
        → (after_notes j l (record { seen = r; ticks = n + tick_of e; cells = c }) ns).ticks ≡ n + (tick_of e + ticks_or r (λ t. ticks_after j l t (told ns)))
    by_cases f (Ok t) = further _ (tick_of e) (ticks_after j l t (told ns)) (f t)
    by_cases f (Err x) = rw (stays j l x (n + tick_of e) c ns) (omega arith)

cells_there : (j : Judge) (l : Limits) (s : Seen) (n : ℕ) (c : Cells) (ns : List Note)
    → (after_notes j l (record { seen = Ok s; ticks = n; cells = c }) ns).cells ≡ cells_after j l s ns c
cells_there j l s n c [] = refl
cells_there j l s n c (stores p v ∷ ns) = cells_there j l s n (slice_set c p v) ns
cells_there j l s n c (tells e ∷ ns) = by_cases (λ t. cells_there j l t (n + tick_of e) c ns) (seen_with j l s e)
  where
    by_cases : ((t : Seen) → (after_notes j l (record { seen = Ok t; ticks = n + tick_of e; cells = c }) ns).cells ≡ cells_after j l t ns c) → (r : Result Seen Stop)
        → (after_notes j l (record { seen = r; ticks = n + tick_of e; cells = c }) ns).cells ≡ cells_or r c (λ t. cells_after j l t ns c)
    by_cases f (Ok t) = f t
    by_cases f (Err x) = ap (λ (k : Kept). k.cells) (stays j l x (n + tick_of e) c ns)

pub keeping : RunsKeepTheirFirstStop
keeping = λ j l log c. record {
  stop = stops j l nothing_seen 0 c (notes log) ∙ ap (stop_after j l nothing_seen) (events_told 0 log);
  all_ticks = count j l nothing_seen 0 c (notes log) ∙ none_before (ticks_after j l nothing_seen (told (notes log))) ∙ ap (ticks_after j l nothing_seen) (events_told 0 log);
  all_cells = cells_there j l nothing_seen 0 c (notes log);
}
  where
    none_before : (n : ℕ) → 0 + n ≡ n
    none_before n = omega arith

in_parts : (j : Judge) (l : Limits) (k : Kept) (ms ns : List Note) → after_notes j l k (ms ++ ns) ≡ after_notes j l (after_notes j l k ms) ns
in_parts j l k [] ns = refl
in_parts j l k (m ∷ ms) ns = in_parts j l (with_note j l k m) ms ns

pub kept_in_parts : NotesAreKeptInParts
kept_in_parts = in_parts
