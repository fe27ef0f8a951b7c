use Rattle.meaning.proofs.Layouts.{programs_kinded}
use Rattle.meaning.proofs.fitting.programs_are_kinded.Goals as goal

pub returns : goal.returns
returns c = programs_kinded
