use Rattle.data_io.proofs.Whole.{tangent_whole}
use Rattle.data_io.proofs.answer.write_tangent.Goals as goal

pub object_bytes-requires : goal.object_bytes-requires
object_bytes-requires c = rw c.in_ok-direction_members.ensures (tangent_whole c.args.tangent.now c.args.value.now)
