use Rattle.std.proofs.Common.{◌≡◌, take, map}
use Rattle.serde_json.specs.View.{view}
use Rattle.data_io.specs.Written.{choice_of}
use Rattle.data_io.proofs.answer.show_choices.Given as goal

abbrev pub invariant-loop-chosen : goal.invariant-loop-chosen
invariant-loop-chosen l = map view l.items.items ≡ map choice_of (take l.chosen-index l.choices)
