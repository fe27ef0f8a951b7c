use Rattle.op_table.proofs.worker.Worker.store.Given as goal

abbrev pub ghosts-store_for : goal.ghosts-store_for
ghosts-store_for g a = record { chunk = a._chunk; number = 0 }
