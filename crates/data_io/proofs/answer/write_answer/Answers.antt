use Rattle.data_io.proofs.Whole.{members_whole}
use Rattle.data_io.proofs.answer.write_answer.Goals as goal

pub object_bytes-requires : goal.object_bytes-requires
object_bytes-requires c = rw c.in_ok-answer_members.ensures (members_whole c.args.answer.now)
