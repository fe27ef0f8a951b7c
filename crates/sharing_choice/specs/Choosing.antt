-- How the adjoints of names are incremented in the reverses of parallel loops, by what is shown of which iterations meet.
use Rattle.std.specs.Prelude.{ℕ, Bool, true, false, ◌&&◌, if◌then◌else◌, nat_eq, List, [], ◌∷◌, ◌++◌, map, Option, Some, None, is_some}
use Rattle.std.specs.List.{list_all}
use Rattle.fl_ast.specs.declared.stmt.Program.{Program}
use Rattle.fl_types.specs.declared.access.Access.{Access}
use Rattle.fl_types.specs.declared.choice.Choice.{Choice}
use Rattle.fl_types.specs.declared.choice.Choice.TheVariants.{Shared, Atomic, Reduction}
use Rattle.fl_types.specs.declared.choice.Chosen.{Chosen}
use Rattle.fl_types.specs.Sharing.{has_name}
use Rattle.index_knowledge.specs.Knowledge.{KnownPair}
use Rattle.certificate.specs.declared.derivation.Given.{Given}
use Rattle.certificate_rules.specs.Derivations.{Derived}
use Rattle.certificate_rules.specs.Surveys.{numbered}
use Rattle.certificate_rules.specs.Tests.{accepts}
use Rattle.certificate_rules.specs.Plain.{or_else, stated}
use Rattle.acceptance.specs.Told.{derivation_told}
use Rattle.certificate_check.specs.Pairs.{KnownLoop, pair_at}
use Rattle.certificate_check.specs.Flaws.{Loops}
use Rattle.adjoint_choices.specs.Choosing.{choices_of}
use Rattle.sharing_choice.specs.declared.derivations.Which.{Which}
use Rattle.sharing_choice.specs.declared.derivations.Which.TheVariants as which

-- ---- pairs

abbrev pub listed : {A : Type 0} → Option A → List A
listed None = []
listed (Some x) = x ∷ []

-- the pairs that the access with a number makes with these, and that read one of the names
abbrev pub pairs_with : (names : List (List ℕ)) → KnownLoop → (first : ℕ) → List Access → List KnownPair
pairs_with names k f [] = []
pairs_with names k f (b ∷ bs) = listed (pair_at names k f b.number) ++ pairs_with names k f bs

-- those that an access makes with itself and with these behind it
abbrev pub pairs_at : (names : List (List ℕ)) → KnownLoop → Access → List Access → List KnownPair
pairs_at names k a bs = if has_name a.place.name names then pairs_with names k a.number (a ∷ bs) else []

abbrev pub pairs_among : (names : List (List ℕ)) → KnownLoop → List Access → List KnownPair
pairs_among names k [] = []
pairs_among names k (a ∷ as') = pairs_at names k a as' ++ pairs_among names k as'

-- the pairs of these names in a loop, by the first access's number and then by the second's
abbrev pub pairs_of : (names : List (List ℕ)) → KnownLoop → List KnownPair
pairs_of names k = pairs_among names k k.survey.accesses

-- ---- derivations

abbrev pub is_for : KnownPair → Given → Bool
is_for p g = nat_eq g.heading.loop_number p.loop_number && (nat_eq g.heading.first p.first && nat_eq g.heading.second p.second)

-- the first of those that are given for the pair that is accepted
abbrev pub given_for : KnownLoop → List Given → KnownPair → Option Derived
given_for k [] p = None
given_for k (g ∷ gs) p = if is_for p g && accepts k.survey p (derivation_told g.derivation) then Some (derivation_told g.derivation) else given_for k gs p

-- the stated one where the pair is plain, and else one that is given
abbrev pub derivation_for : KnownLoop → List Given → KnownPair → Option Derived
derivation_for k gs p = or_else (stated k.survey p) (given_for k gs p)

abbrev pub is_shown : KnownLoop → List Given → KnownPair → Bool
is_shown k gs p = is_some (derivation_for k gs p)

-- ---- choices

-- each pair of the names is shown, in a parallel loop
abbrev pub are_shown : List Given → (names : List (List ℕ)) → Option (Option KnownLoop) → Bool
are_shown gs names None = false
are_shown gs names (Some None) = false
are_shown gs names (Some (Some k)) = list_all (is_shown k gs) (pairs_of names k)

-- a name whose increments are collected by iteration stays so; another one is Shared exactly where all is shown
abbrev pub raised : (shown : Bool) → Choice → Choice
raised shown Reduction = Reduction
raised shown Atomic = if shown then Shared else Atomic
raised shown Shared = if shown then Shared else Atomic

abbrev pub chosen : Loops → List Given → Chosen → Chosen
chosen ls gs c = record { loop_number = c.loop_number; name = c.name; choice = raised (are_shown gs (c.name ∷ []) (numbered ls c.loop_number)) c.choice }

-- of a program with these active names, whose loops are these, by loop and then by name
abbrev pub shared_choices : Program → (active : List ℕ → Bool) → Loops → List Given → List Chosen
shared_choices p active ls gs = map (chosen ls gs) (choices_of p active)

-- ---- derivations of all pairs

-- which names: those that are Shared, or all whose increments aren't collected by iteration
abbrev pub takes : Which → Choice → Bool
takes which.Shared Shared = true
takes which.Shared Atomic = false
takes which.Shared Reduction = false
takes which.Uncollected Shared = true
takes which.Uncollected Atomic = true
takes which.Uncollected Reduction = false

abbrev pub taken_name : Which → ℕ → Chosen → List (List ℕ)
taken_name w n c = if nat_eq c.loop_number n && takes w c.choice then c.name ∷ [] else []

-- the names of the loop with a number
abbrev pub taken_names : Which → ℕ → List Chosen → List (List ℕ)
taken_names w n [] = []
taken_names w n (c ∷ cs) = taken_name w n c ++ taken_names w n cs

-- a derivation with the numbers of its loop and of its pair's accesses
pub record DerivedPair : Type 0 where
  pub loop_number : ℕ
  pub first : ℕ
  pub second : ℕ
  pub derived : Derived

abbrev pub derived_pair : KnownPair → Option Derived → List DerivedPair
derived_pair p None = []
derived_pair p (Some d) = record { loop_number = p.loop_number; first = p.first; second = p.second; derived = d } ∷ []

abbrev pub derived_pairs : KnownLoop → List Given → List KnownPair → List DerivedPair
derived_pairs k gs [] = []
derived_pairs k gs (p ∷ ps) = derived_pair p (derivation_for k gs p) ++ derived_pairs k gs ps

-- for each pair of these names its derivation, where it has one, by loop, first and second access
abbrev pub derivations : Which → List Chosen → Loops → List Given → List DerivedPair
derivations w cs [] gs = []
derivations w cs (None ∷ ls) gs = derivations w cs ls gs
derivations w cs (Some k ∷ ls) gs = derived_pairs k gs (pairs_of (taken_names w k.number cs) k) ++ derivations w cs ls gs
