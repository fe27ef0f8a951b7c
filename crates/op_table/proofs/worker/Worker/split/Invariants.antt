use Rattle.op_table.proofs.worker.Worker.split.Given as goal

abbrev pub ghosts-give_for : goal.ghosts-give_for
ghosts-give_for g a = record { chunk = 0; number = a._parts }
