-- Where a run stops first doesn't depend on more of its words than is left at the width.
use Rattle.std.specs.Prelude.{◌≡◌, ℕ, ◌+◌, List, [], ◌∷◌, ◌++◌, map, Result, Ok, Err, refl}
use Rattle.std.proofs.Common.{ap, sym, ◌∙◌}
use Rattle.std.proofs.lemmas.List.{map-append}
use Rattle.ring_core.specs.declared.ring.Width.{Width}
use Rattle.meaning.specs.Logs.{Log, silence, single, touched, sets, both, within, Event, begins, touches, pushes, ends, traps, Passage, instance, right_side, rounds, turn, iteration, condition, taken, opening_events, iteration_in, events_in, events}
use Rattle.meaning.specs.Statements.{run_all}
use Rattle.meaning.specs.Stops.{Judge, Limits, Seen, nothing_seen, Stop, seen_with, stop_or, stop_after, first_stop, tick_of, ticks_or, ticks_after, ticks}
use Rattle.meaning.specs.Widths.{reduced_event, reduced_log, StopsRespectWidths}
use Rattle.meaning.proofs.Widely.{runs_respect}

opening_reduced : (w : Width) (p : Passage) → map (reduced_event w) (opening_events p) ≡ opening_events p
opening_reduced w instance = refl
opening_reduced w (right_side x) = refl
opening_reduced w rounds = refl
opening_reduced w (turn k) = refl
opening_reduced w (iteration k) = refl
opening_reduced w (condition m) = refl
opening_reduced w (taken m) = refl

-- the events of what is left of a log are what is left of its events
events_reduced : (w : Width) (l : Log) (k : ℕ) → events_in k (reduced_log w l) ≡ map (reduced_event w) (events_in k l)
events_reduced w silence k = refl
events_reduced w (single e) k = refl
events_reduced w (touched p kind) k = refl
events_reduced w (sets p v) k = refl
events_reduced w (both l m) k =
    ap (λ (es : List Event). es ++ events_in k (reduced_log w m)) (events_reduced w l k)
    ∙ (ap (λ (es : List Event). map (reduced_event w) (events_in k l) ++ es) (events_reduced w m k)
    ∙ sym (map-append (reduced_event w) (events_in k l) (events_in k m)))
events_reduced w (within p l) k =
    ap (λ (es : List Event). opening_events p ++ es) (events_reduced w l (iteration_in k p))
    ∙ (ap (λ (es : List Event). es ++ map (reduced_event w) (events_in (iteration_in k p) l)) (sym (opening_reduced w p))
    ∙ sym (map-append (reduced_event w) (opening_events p) (events_in (iteration_in k p) l)))

seen_reduced : (w : Width) (judge : Judge) (limits : Limits) (seen : Seen) (e : Event) → seen_with judge limits seen (reduced_event w e) ≡ seen_with judge limits seen e
seen_reduced w judge limits seen begins = refl
seen_reduced w judge limits seen (touches t) = refl
seen_reduced w judge limits seen (pushes v) = refl
seen_reduced w judge limits seen (ends line) = refl
seen_reduced w judge limits seen (traps t) = refl

tick_reduced : (w : Width) (e : Event) → tick_of (reduced_event w e) ≡ tick_of e
tick_reduced w begins = refl
tick_reduced w (touches t) = refl
tick_reduced w (pushes v) = refl
tick_reduced w (ends line) = refl
tick_reduced w (traps t) = refl

stop_or_same : (r : Result Seen Stop) (f g : Seen → Stop) → ((s : Seen) → f s ≡ g s) → stop_or r f ≡ stop_or r g
stop_or_same (Ok s) f g h = h s
stop_or_same (Err x) f g h = refl

stop_reduced : (w : Width) (judge : Judge) (limits : Limits) (es : List Event) (seen : Seen) → stop_after judge limits seen (map (reduced_event w) es) ≡ stop_after judge limits seen es
stop_reduced w judge limits [] seen = refl
stop_reduced w judge limits (e ∷ es) seen =
    ap (λ r. stop_or r (λ s. stop_after judge limits s (map (reduced_event w) es))) (seen_reduced w judge limits seen e)
    ∙ stop_or_same (seen_with judge limits seen e) _ _ (λ s. stop_reduced w judge limits es s)

ticks_or_same : (r : Result Seen Stop) (f g : Seen → ℕ) → ((s : Seen) → f s ≡ g s) → ticks_or r f ≡ ticks_or r g
ticks_or_same (Ok s) f g h = h s
ticks_or_same (Err x) f g h = refl

ticks_reduced : (w : Width) (judge : Judge) (limits : Limits) (es : List Event) (seen : Seen) → ticks_after judge limits seen (map (reduced_event w) es) ≡ ticks_after judge limits seen es
ticks_reduced w judge limits [] seen = refl
ticks_reduced w judge limits (e ∷ es) seen =
    ap (λ n. n + ticks_or (seen_with judge limits seen (reduced_event w e)) (λ s. ticks_after judge limits s (map (reduced_event w) es))) (tick_reduced w e)
    ∙ ap (λ n. tick_of e + n)
    (ap (λ r. ticks_or r (λ s. ticks_after judge limits s (map (reduced_event w) es))) (seen_reduced w judge limits seen e)
    ∙ ticks_or_same (seen_with judge limits seen e) _ _ (λ s. ticks_reduced w judge limits es s))

first_stop_reduced : (w : Width) (judge : Judge) (limits : Limits) (l : Log) → first_stop judge limits (events (reduced_log w l)) ≡ first_stop judge limits (events l)
first_stop_reduced w judge limits l = ap (first_stop judge limits) (events_reduced w l 0) ∙ stop_reduced w judge limits (events l) nothing_seen

all_ticks_reduced : (w : Width) (judge : Judge) (limits : Limits) (l : Log) → ticks judge limits (events (reduced_log w l)) ≡ ticks judge limits (events l)
all_ticks_reduced w judge limits l = ap (ticks judge limits) (events_reduced w l 0) ∙ ticks_reduced w judge limits (events l) nothing_seen

pub stops_respect : StopsRespectWidths
stops_respect = λ w body site e c d h judge limits.
    let q : reduced_log w (run_all body site c).log ≡ reduced_log w (run_all body site d).log = (runs_respect w body site e c d h).0 in (
      sym (first_stop_reduced w judge limits (run_all body site c).log) ∙ ap (λ (l : Log). first_stop judge limits (events l)) q ∙ first_stop_reduced w judge limits (run_all body site d).log,
      sym (all_ticks_reduced w judge limits (run_all body site c).log) ∙ ap (λ (l : Log). ticks judge limits (events l)) q ∙ all_ticks_reduced w judge limits (run_all body site d).log,
    )
