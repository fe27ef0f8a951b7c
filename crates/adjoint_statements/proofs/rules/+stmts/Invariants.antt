use Rattle.adjoint_statements.proofs.rules.+stmts.Given as goal

abbrev pub decreases-stmts : goal.decreases-stmts
decreases-stmts l = l.blocks
