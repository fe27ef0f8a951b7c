use Rattle.std.specs.Prelude.{slice_index}
use Rattle.op_table.specs.Plays.{work, cells_alone}
use Rattle.op_table.proofs.worker.Worker.load.Given as goal

abbrev pub ghosts-load_for : goal.ghosts-load_for
ghosts-load_for g a = record { chunk = a._chunk; number = slice_index (cells_alone (work g.P.Plan.ops a.self.now.table.shared.key) a._chunk a.seat.now.me.0) a.cell }
