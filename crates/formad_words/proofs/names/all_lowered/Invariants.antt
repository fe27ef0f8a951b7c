use Rattle.std.proofs.Common.{◌≡◌, map, take}
use Rattle.std.specs.Str.{str_to_ascii_lowercase}
use Rattle.formad_words.proofs.names.all_lowered.Given as goal

abbrev pub invariant-loop-part : goal.invariant-loop-part
invariant-loop-part l = l.names.items ≡ map (λ part. str_to_ascii_lowercase part.now) (take l.part-index l.parts)
