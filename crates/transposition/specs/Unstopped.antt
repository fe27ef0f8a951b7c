-- A run that no conflict stops is calm.
use Rattle.std.specs.Prelude.{◌≡◌, Ok}
use Rattle.fl_ast.specs.Tree.{Statements}
use Rattle.meaning.specs.Logs.{events}
use Rattle.meaning.specs.Sites.{Cells}
use Rattle.meaning.specs.Statements.{run_all}
use Rattle.meaning.specs.Stops.{Limits, by_conflict, at_end, first_stop}
use Rattle.transposition.specs.Worlds.{World}
use Rattle.transposition.specs.Law.{Use, SharedApart}
use Rattle.transposition.specs.Calms.{PairwiseAll, IsCalmAll}
use Rattle.transposition.specs.Sound.{SoundAll}

-- where the first stop of a run is its end, no two iterations of a parallel loop conflict; that the differentiated reads of names with
-- the choice Shared are apart is for certificates to show
abbrev pub UnstoppedIsCalm : Type 0
UnstoppedIsCalm =
    (w : World) (u : Use) (xs : Statements) (limits : Limits) (s s2 : Cells) → SoundAll w u xs → (run_all xs w.site s).out ≡ Ok s2
    → first_stop by_conflict limits (events (run_all xs w.site s).log) ≡ at_end → PairwiseAll SharedApart xs w s → IsCalmAll xs w s
