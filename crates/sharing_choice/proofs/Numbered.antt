-- Loops by their numbers.
use Rattle.std.proofs.Common.{◌≡◌, ℕ, Bool, false, List, Option, Some, None, ap, ◌∙◌}
use Rattle.std.specs.Prelude.{option_map}
use Rattle.certificate.specs.declared.derivation.Given.{Given}
use Rattle.certificate_rules.specs.Surveys.{numbered}
use Rattle.acceptance.proofs.NumberedItems.{mapped-some, mapped-none}
use Rattle.certificate_check.specs.declared.pairing.LoopPairs.{LoopPairs}
use Rattle.certificate_check.specs.Pairs.{KnownLoop, loop_of}
use Rattle.certificate_check.specs.Flaws.{loops_of}
use Rattle.sharing_choice.specs.Choosing.{are_shown}

pub some_numbered : (gs : List Given) (names : List (List ℕ)) (ls : List (Option LoopPairs)) (n : ℕ) (o : Option LoopPairs) (b : Bool) → Some o ≡ numbered ls n → b ≡ are_shown gs names (Some (option_map loop_of o)) → b ≡ are_shown gs names (numbered (loops_of ls) n)
some_numbered gs names ls n o b e d = d ∙ ap (λ (z : Option (Option KnownLoop)). are_shown gs names z) (mapped-some (option_map loop_of) ls n o e)

pub none_numbered : (gs : List Given) (names : List (List ℕ)) (ls : List (Option LoopPairs)) (n : ℕ) → None ≡ numbered ls n → false ≡ are_shown gs names (numbered (loops_of ls) n)
none_numbered gs names ls n e = ap (λ (z : Option (Option KnownLoop)). are_shown gs names z) (mapped-none (option_map loop_of) ls n e)
