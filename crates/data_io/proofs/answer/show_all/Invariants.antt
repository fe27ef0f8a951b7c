use Rattle.std.proofs.Common.{◌≡◌, drop}
use Rattle.serde_json.specs.Data.{no_members}
use Rattle.serde_json.specs.View.{members_view}
use Rattle.data_io.specs.Written.{put_all}
use Rattle.data_io.proofs.answer.show_all.Given as goal

abbrev pub invariant-loop-entry : goal.invariant-loop-entry
invariant-loop-entry l = put_all no_members l.entries ≡ put_all (members_view l.members.entries) (drop l.entry-index l.entries)
