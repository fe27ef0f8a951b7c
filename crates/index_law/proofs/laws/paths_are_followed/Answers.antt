use Rattle.index_law.proofs.Paths.{follow_all, iterations_follow}
use Rattle.index_law.proofs.laws.paths_are_followed.Goals as goal

pub returns-clause-statements : goal.returns-clause-statements
returns-clause-statements c = follow_all

pub returns-clause-iterations : goal.returns-clause-iterations
returns-clause-iterations c = iterations_follow
