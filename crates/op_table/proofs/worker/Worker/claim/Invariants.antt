use Rattle.op_table.proofs.worker.Worker.claim.Given as goal

abbrev pub ghosts-swap_for : goal.ghosts-swap_for
ghosts-swap_for g a = record { chunk = a.chunk; number = a.self.now.table.shared.key.parts }
