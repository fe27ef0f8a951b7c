use Rattle.std.proofs.Common.{◌≡◌, true, take}
use Rattle.std.specs.List.{list_all}
use Rattle.formad_words.specs.Names.{is_name}
use Rattle.formad_words.proofs.names.are_names.Given as goal

abbrev pub invariant-loop-part : goal.invariant-loop-part
invariant-loop-part l = list_all (λ part. is_name part.now) (take l.part-index l.parts) ≡ true
