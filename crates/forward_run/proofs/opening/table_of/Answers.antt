use Rattle.dual_meaning.proofs.Placed.{never_many}
use Rattle.forward_run.proofs.opening.table_of.Goals as goal

pub unreachable-requires : goal.unreachable-requires
unreachable-requires c = never_many c.args.layout.now c.args.decls.now c.requires (rw c.in-Err-TooManyPlaces.field-0-is at c.in-Err-TooManyPlaces.ensures)
