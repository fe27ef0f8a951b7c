-- What a choice says of the pairs of its name.
use Rattle.std.specs.Prelude.{◌≡◌, [], ◌∷◌, Some}
use Rattle.std.specs.List.{AllByRecursion}
use Rattle.fl_types.specs.declared.choice.Choice.TheVariants.{Shared}
use Rattle.fl_types.specs.declared.choice.Chosen.{Chosen}
use Rattle.index_forms.specs.Form.{Forms}
use Rattle.index_knowledge.specs.Knowledge.{KnownPair}
use Rattle.certificate.specs.declared.derivation.Given.{Given}
use Rattle.certificate_rules.specs.Derivations.{Derived}
use Rattle.certificate_rules.specs.Surveys.{numbered, IsSurvey, IsPairOf}
use Rattle.certificate_rules.specs.Disjoint.{Disjoint}
use Rattle.certificate_rules.specs.Accepted.{Accepted}
use Rattle.acceptance.specs.Told.{derivation_told}
use Rattle.certificate_check.specs.Pairs.{KnownLoop}
use Rattle.certificate_check.specs.Flaws.{Loops}
use Rattle.sharing_choice.specs.Choosing.{pairs_of, DerivedPair}

-- the pair is of two of the loop's accesses, by the forms of their subscripts
pub record HasForms (k : KnownLoop) (p : KnownPair) : Type 0 where
  pub ones : Forms
  pub twos : Forms
  pub of_pair : IsPairOf k.survey p ones twos

-- and a derivation of it is accepted, so that where the loop's knowledge is a survey these never meet in different iterations
pub record IsApart (k : KnownLoop) (p : KnownPair) : Type 0 where
  pub derived : Derived
  pub accepted : Accepted k.survey p derived
  pub forms : HasForms k p
  pub disjoint : IsSurvey k.survey → Disjoint k.survey p forms.ones forms.twos

-- where a name is Shared each of its pairs in the loop is so
abbrev pub HoldsOf : Loops → Chosen → Type 0
HoldsOf ls c = c.choice ≡ Shared → (k : KnownLoop) × (numbered ls c.loop_number ≡ Some (Some k)) × AllByRecursion (IsApart k) (pairs_of (c.name ∷ []) k)

abbrev pub given_told : Given → DerivedPair
given_told g = record { loop_number = g.heading.loop_number; first = g.heading.first; second = g.heading.second; derived = derivation_told g.derivation }
