-- A pair is shown where it is plain or has an accepted derivation.
use Rattle.std.proofs.Common.{◌≡◌, Bool, List, Option, Some, None, refl, ◌∙◌}
use Rattle.std.specs.Prelude.{◌||◌, is_some}
use Rattle.index_knowledge.specs.Knowledge.{KnownPair}
use Rattle.certificate.specs.declared.derivation.Given.{Given}
use Rattle.certificate_rules.specs.Derivations.{Derived}
use Rattle.certificate_rules.specs.Plain.{or_else, stated}
use Rattle.certificate_check.specs.Pairs.{KnownLoop}
use Rattle.sharing_choice.specs.Choosing.{given_for, is_shown}

either : (a b : Option Derived) → (is_some a || is_some b) ≡ is_some (or_else a b)
either None None = refl
either None (Some b) = refl
either (Some a) b = refl

pub shown_is : (k : KnownLoop) (gs : List Given) (p : KnownPair) (r : Bool) → r ≡ (is_some (stated k.survey p) || is_some (given_for k gs p)) → r ≡ is_shown k gs p
shown_is k gs p r h = h ∙ either (stated k.survey p) (given_for k gs p)
