use Rattle.std.proofs.Common.{not, ap, ◌∙◌}
use Rattle.commands.proofs.CommandsDone.{free_replay, forced_replay}
use Rattle.commands.proofs.unbuilt.replay.Goals as goal

pub returns-then-is_none : goal.returns-then-is_none
returns-then-is_none g c = free_replay _ _ (ap not c.is_none.ensures ∙ ap (λ b. not (not b)) c.if-is_none.true) c.replay_files.ensures

pub returns-else-is_none : goal.returns-else-is_none
returns-else-is_none g c = forced_replay _ _ (ap not c.is_none.ensures ∙ ap (λ b. not (not b)) c.if-is_none.false) c.replay_forced.ensures
