use Rattle.meaning.proofs.Widely.{runs_respect}
use Rattle.meaning.proofs.StopsReduced.{stops_respect}
use Rattle.meaning.proofs.laws.runs_respect_widths.Goals as goal

pub returns-clause-runs : goal.returns-clause-runs
returns-clause-runs c = runs_respect

pub returns-clause-stops : goal.returns-clause-stops
returns-clause-stops c = stops_respect
