-- The cells after a run are the log's stores replayed.
use Rattle.std.specs.Prelude.{◌≡◌, ℕ, zero, suc, [], ◌∷◌, Option, Result, Ok, slice_set, refl}
use Rattle.std.proofs.Common.{ap, ◌∙◌}
use Rattle.meaning.specs.declared.value.Value.{Value}
use Rattle.meaning.specs.declared.value.TrapAt.{TrapAt}
use Rattle.meaning.specs.Logs.{Log, silence, single, touched, sets, both, within, replay}
use Rattle.meaning.specs.Sites.{Cells, with_tangent}
use Rattle.meaning.specs.Adjoints.{cells_along}
use Rattle.meaning.specs.Laws.{CellsAreReplayed}
use Rattle.meaning.proofs.Quiet.{IsQuiet}
use Rattle.meaning.proofs.LogFold.{Folds, run_all_holds}

-- the cells that come of these, where some come
abbrev Replays : Cells → Log → Result Cells TrapAt → Type 0
Replays c l r = (d : Cells) → r ≡ Ok d → replay l (cells_along [] c) ≡ cells_along [] d

quiet_replay : (l : Log) → IsQuiet l → (c : Cells) → replay l c ≡ c
quiet_replay silence q c = refl
quiet_replay (single e) q c = refl
quiet_replay (touched p kind) q c = refl
quiet_replay (sets p v) q c = absurd q
quiet_replay (both l m) q c = ap (replay m) (quiet_replay l q.0 c) ∙ quiet_replay m q.1 c
quiet_replay (within p l) q c = quiet_replay l q c

set_bare : (c : Cells) (p : ℕ) (v : Option Value) → slice_set (cells_along [] c) p (with_tangent 0 v) ≡ cells_along [] (slice_set c p v)
set_bare [] p v = refl
set_bare (w ∷ c) zero v = refl
set_bare (w ∷ c) (suc p) v = ap (λ (b : Cells). with_tangent 0 w ∷ b) (set_bare c p v)

replays : Folds Replays
replays = record {
  tells = λ c l q d e. let f : c ≡ d = cc in quiet_replay l q (cells_along [] c) ∙ ap (cells_along []) f;
  stores = λ c p v d e. let f : slice_set c p v ≡ d = cc in set_bare c p v ∙ ap (cells_along []) f;
  stops = λ c l t q d e. absurd (cc);
  follows = λ c l m r q h d e. ap (replay m) (quiet_replay l q (cells_along [] c)) ∙ h d e;
  joins = λ c b l m r h g d e. ap (replay m) (h b refl) ∙ g d e;
  encloses = λ c p l r h. h;
}

pub cells_replayed : CellsAreReplayed
cells_replayed = λ body site c d e. run_all_holds Replays replays body site c d e
