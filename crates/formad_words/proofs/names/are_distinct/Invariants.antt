use Rattle.std.proofs.Common.{◌≡◌, length}
use Rattle.formad_words.specs.Names.{is_distinct}
use Rattle.formad_words.proofs.names.are_distinct.Given as goal

abbrev pub invariant-loop-rest : goal.invariant-loop-rest
invariant-loop-rest l = is_distinct l.rest ≡ is_distinct l.names

abbrev pub decreases-loop-rest : goal.decreases-loop-rest
decreases-loop-rest l = length l.rest
