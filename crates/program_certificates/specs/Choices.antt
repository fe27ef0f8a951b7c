-- Choices and certificates of programs.
use Rattle.std.specs.Prelude.{◌≡◌, ℕ, Bool, List, [], ◌∷◌, Some}
use Rattle.std.specs.List.{AllByRecursion}
use Rattle.fl_ast.specs.declared.stmt.Program.{Program}
use Rattle.fl_types.specs.declared.choice.Choice.TheVariants.{Shared}
use Rattle.fl_types.specs.declared.choice.Chosen.{Chosen}
use Rattle.index_knowledge.specs.Knowledge.{KnownPair}
use Rattle.certificate.specs.declared.derivation.Given.{Given}
use Rattle.certificate_rules.specs.Surveys.{numbered}
use Rattle.certificate_rules.specs.Disjoint.{Disjoint}
use Rattle.certificate_check.specs.Pairs.{KnownLoop}
use Rattle.certificate_check.specs.Flaws.{Loops}
use Rattle.adjoint_choices.specs.Choosing.{choices_of}
use Rattle.loop_pairs.specs.Known.{known_of}
use Rattle.sharing_choice.specs.declared.derivations.Which.TheVariants as which
use Rattle.sharing_choice.specs.Choosing.{pairs_of, shared_choices, DerivedPair, derivations}
use Rattle.sharing_choice.specs.Shown.{HasForms}

-- the choices for a program's active names, with derivations that are given
unfoldable pub choices_with : Program → (active : List ℕ → Bool) → List Given → List Chosen
choices_with p active gs = shared_choices p active (known_of p active) gs

-- the derivations that they rest on
unfoldable pub derivations_with : Program → (active : List ℕ → Bool) → List Given → List DerivedPair
derivations_with p active gs = derivations which.Shared (choices_with p active gs) (known_of p active) gs

-- those that are stated for the plain pairs of names whose increments aren't collected by iteration
unfoldable pub stated_derivations : Program → (active : List ℕ → Bool) → List DerivedPair
stated_derivations p active = derivations which.Uncollected (choices_of p active) (known_of p active) []

-- under every valuation that respects what is known of the loop, the subscripts of the pair's two accesses differ
abbrev pub NeverMeet : KnownLoop → KnownPair → Type 0
NeverMeet k p = (w : HasForms k p) × Disjoint k.survey p w.ones w.twos

-- where a name is Shared so it is with each of its pairs in the loop
abbrev pub IsDisjointIn : Loops → Chosen → Type 0
IsDisjointIn ls c = c.choice ≡ Shared → (k : KnownLoop) × (numbered ls c.loop_number ≡ Some (Some k)) × AllByRecursion (NeverMeet k) (pairs_of (c.name ∷ []) k)
