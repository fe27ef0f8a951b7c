-- A run traps exactly where its log says so.
use Rattle.std.specs.Prelude.{◌≡◌, ℕ, List, [], ◌∷◌, ◌++◌, Option, Some, None, Result, refl}
use Rattle.std.proofs.Common.{ap, ◌∙◌}
use Rattle.meaning.specs.declared.value.TrapAt.{TrapAt}
use Rattle.meaning.specs.Logs.{Log, silence, single, touched, sets, both, within, Event, begins, touches, pushes, ends, traps, Passage, instance, right_side, rounds, turn, iteration, condition, taken, opening_events, iteration_in, events_in}
use Rattle.meaning.specs.Sites.{Cells}
use Rattle.meaning.specs.Laws.{trap_in, trap_of, TrapsAreTold}
use Rattle.meaning.proofs.Quiet.{IsQuiet}
use Rattle.meaning.proofs.LogFold.{Folds, run_all_holds}

-- what is told has the trap that it stops at
abbrev Tracks : Cells → Log → Result Cells TrapAt → Type 0
Tracks c l r = (k : ℕ) → trap_in (events_in k l) ≡ trap_of r

abbrev first : Option TrapAt → Option TrapAt → Option TrapAt
first None o = o
first (Some t) o = Some t

trap_both : (es fs : List Event) → trap_in (es ++ fs) ≡ first (trap_in es) (trap_in fs)
trap_both [] fs = refl
trap_both (begins ∷ es) fs = trap_both es fs
trap_both (touches t ∷ es) fs = trap_both es fs
trap_both (pushes v ∷ es) fs = trap_both es fs
trap_both (ends line ∷ es) fs = trap_both es fs
trap_both (traps t ∷ es) fs = refl

-- after a log without traps
after_none : (l m : Log) (k : ℕ) → trap_in (events_in k l) ≡ None → trap_in (events_in k (both l m)) ≡ trap_in (events_in k m)
after_none l m k h = trap_both (events_in k l) (events_in k m) ∙ ap (λ o. first o (trap_in (events_in k m))) h

in_passage : (p : Passage) (es : List Event) → trap_in (opening_events p ++ es) ≡ trap_in es
in_passage instance es = refl
in_passage (right_side x) es = refl
in_passage rounds es = refl
in_passage (turn k) es = refl
in_passage (iteration k) es = refl
in_passage (condition m) es = refl
in_passage (taken m) es = refl

quiet_traps : (l : Log) → IsQuiet l → (k : ℕ) → trap_in (events_in k l) ≡ None
quiet_traps silence q k = refl
quiet_traps (single begins) q k = refl
quiet_traps (single (touches t)) q k = refl
quiet_traps (single (pushes v)) q k = refl
quiet_traps (single (ends line)) q k = refl
quiet_traps (single (traps t)) q k = absurd q
quiet_traps (touched p kind) q k = refl
quiet_traps (sets p v) q k = absurd q
quiet_traps (both l m) q k = after_none l m k (quiet_traps l q.0 k) ∙ quiet_traps m q.1 k
quiet_traps (within p l) q k = in_passage p (events_in (iteration_in k p) l) ∙ quiet_traps l q (iteration_in k p)

tracks : Folds Tracks
tracks = record {
  tells = λ c l q. quiet_traps l q;
  stores = λ c p v k. refl;
  stops = λ c l t q k. after_none l (single (traps t)) k (quiet_traps l q k);
  follows = λ c l m r q h k. after_none l m k (quiet_traps l q k) ∙ h k;
  joins = λ c b l m r h g k. after_none l m k (h k) ∙ g k;
  encloses = λ c p l r h k. in_passage p (events_in (iteration_in k p) l) ∙ h (iteration_in k p);
}

pub traps_told : TrapsAreTold
traps_told = λ body site c. run_all_holds Tracks tracks body site c 0
