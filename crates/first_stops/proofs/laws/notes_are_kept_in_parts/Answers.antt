use Rattle.first_stops.proofs.Keeping.{kept_in_parts}
use Rattle.first_stops.proofs.laws.notes_are_kept_in_parts.Goals as goal

pub returns : goal.returns
returns c = kept_in_parts
