-- The laws of certificates.
use Rattle.std.specs.Prelude.{◌≡◌, ◌↔◌, IsTrue, Some}
use Rattle.index_forms.specs.Form.{Forms}
use Rattle.index_knowledge.specs.Knowledge.{KnownPair}
use Rattle.certificate_rules.specs.Derivations.{Derived}
use Rattle.certificate_rules.specs.Surveys.{Survey, IsSurvey, IsPairOf}
use Rattle.certificate_rules.specs.Disjoint.{Disjoint}
use Rattle.certificate_rules.specs.Accepted.{Accepted}
use Rattle.certificate_rules.specs.Tests.{accepts}
use Rattle.certificate_rules.specs.Plain.{stated}

abbrev pub AcceptedIsDisjoint : Type 0
AcceptedIsDisjoint = (s : Survey) (p : KnownPair) (f g : Forms) (d : Derived) → IsSurvey s → IsPairOf s p f g → Accepted s p d → Disjoint s p f g

abbrev pub TestsDecide : Type 0
TestsDecide = (s : Survey) (p : KnownPair) (d : Derived) → IsTrue (accepts s p d) ↔ Accepted s p d

abbrev pub StatedIsAccepted : Type 0
StatedIsAccepted = (s : Survey) (p : KnownPair) (d : Derived) → stated s p ≡ Some d → Accepted s p d
