use Rattle.op_table.proofs.worker.Worker.add.Given as goal

abbrev pub ghosts-add_for : goal.ghosts-add_for
ghosts-add_for g a = record { chunk = a._chunk; number = 0 }
