use Rattle.fl_conditions.proofs.condition.+mixed.Given as goal

abbrev pub decreases-mixed : goal.decreases-mixed
decreases-mixed l = l.brackets
