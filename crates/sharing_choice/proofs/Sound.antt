-- What a Shared choice says.
use Rattle.std.proofs.Common.{◌≡◌, ℕ, Bool, true, false, ◌&&◌, if◌then◌else◌, List, [], ◌∷◌, map, Option, Some, None, is_some, refl, ap, ◌∙◌, subst}
use Rattle.std.specs.List.{list_all, AllByRecursion}
use Rattle.fl_types.specs.declared.choice.Choice.{Choice}
use Rattle.fl_types.specs.declared.choice.Choice.TheVariants.{Shared, Atomic, Reduction}
use Rattle.fl_types.specs.declared.choice.Chosen.{Chosen}
use Rattle.index_knowledge.specs.Knowledge.{KnownPair}
use Rattle.certificate.specs.declared.derivation.Given.{Given}
use Rattle.certificate_rules.specs.Derivations.{Derived}
use Rattle.certificate_rules.specs.Surveys.{numbered}
use Rattle.certificate_rules.specs.Accepted.{Accepted}
use Rattle.certificate_rules.specs.Tests.{accepts}
use Rattle.certificate_rules.specs.Plain.{or_else, stated}
use Rattle.certificate_rules.proofs.DecidedCloses.{tests-decide}
use Rattle.certificate_rules.proofs.Sound.{accepted-disjoint}
use Rattle.certificate_rules.proofs.Stating.{stated-accepted}
use Rattle.acceptance.specs.Told.{derivation_told}
use Rattle.certificate_check.specs.Pairs.{KnownLoop}
use Rattle.certificate_check.specs.Flaws.{Loops}
use Rattle.sharing_choice.specs.Choosing.{pairs_of, is_for, given_for, derivation_for, is_shown, are_shown, raised, chosen}
use Rattle.sharing_choice.specs.Shown.{HasForms, IsApart, HoldsOf}
use Rattle.sharing_choice.proofs.Forms.{pairs_have}

abbrev some_or : {A : Type 0} → A → Option A → A
some_or d None = d
some_or d (Some x) = x

right_of : (a b : Bool) → (a && b) ≡ true → b ≡ true
right_of true b h = h
right_of false b h = cc

left_of : (a b : Bool) → (a && b) ≡ true → a ≡ true
left_of true b h = refl
left_of false b h = cc

given_accepted : (k : KnownLoop) (gs : List Given) (p : KnownPair) (d : Derived) → given_for k gs p ≡ Some d → Accepted k.survey p d
given_accepted k [] p d h = cc
given_accepted k (g ∷ gs) p d h = by_test (is_for p g && accepts k.survey p (derivation_told g.derivation)) refl h (given_accepted k gs p d)
  where
    by_test : (b : Bool) → (is_for p g && accepts k.survey p (derivation_told g.derivation)) ≡ b → (if b then Some (derivation_told g.derivation) else given_for k gs p) ≡ Some d → (given_for k gs p ≡ Some d → Accepted k.survey p d) → Accepted k.survey p d
    by_test true e q f =
        subst (λ (x : Derived). Accepted k.survey p x) (ap (some_or (derivation_told g.derivation)) q)
        ((tests-decide k.survey p (derivation_told g.derivation)).0 (right_of (is_for p g) (accepts k.survey p (derivation_told g.derivation)) e))
    by_test false e q f = f q

derivation_accepted : (k : KnownLoop) (gs : List Given) (p : KnownPair) (d : Derived) → derivation_for k gs p ≡ Some d → Accepted k.survey p d
derivation_accepted k gs p d h = by_case (stated k.survey p) refl h
  where
    by_case : (o : Option Derived) → stated k.survey p ≡ o → or_else o (given_for k gs p) ≡ Some d → Accepted k.survey p d
    by_case None e q = given_accepted k gs p d q
    by_case (Some x) e q = stated-accepted k.survey p d (e ∙ q)

shown_apart : (k : KnownLoop) (gs : List Given) (p : KnownPair) → HasForms k p → is_shown k gs p ≡ true → IsApart k p
shown_apart k gs p w h = by_case (derivation_for k gs p) refl h
  where
    by_case : (o : Option Derived) → derivation_for k gs p ≡ o → is_some o ≡ true → IsApart k p
    by_case None e q = cc
    by_case (Some d) e q = record {
      derived = d;
      accepted = derivation_accepted k gs p d e;
      forms = w;
      disjoint = λ s. accepted-disjoint k.survey p w.ones w.twos d s w.of_pair (derivation_accepted k gs p d e);
    }

all_apart : (k : KnownLoop) (gs : List Given) (ps : List KnownPair) → AllByRecursion (HasForms k) ps → list_all (is_shown k gs) ps ≡ true → AllByRecursion (IsApart k) ps
all_apart k gs [] w h = tt
all_apart k gs (p ∷ ps) w h =
    (shown_apart k gs p w.0 (left_of (is_shown k gs p) (list_all (is_shown k gs) ps) h), all_apart k gs ps w.1 (right_of (is_shown k gs p) (list_all (is_shown k gs) ps) h))

raised_shared : (b : Bool) (c : Choice) → raised b c ≡ Shared → b ≡ true
raised_shared true c h = refl
raised_shared false Shared h = cc
raised_shared false Atomic h = cc
raised_shared false Reduction h = cc

in_loop : (gs : List Given) (names : List (List ℕ)) (ls : Loops) (n : ℕ) → are_shown gs names (numbered ls n) ≡ true → (k : KnownLoop) × (numbered ls n ≡ Some (Some k)) × AllByRecursion (IsApart k) (pairs_of names k)
in_loop gs names ls n h = by_case (numbered ls n) refl h
  where
    by_case : (o : Option (Option KnownLoop)) → numbered ls n ≡ o → are_shown gs names o ≡ true → (k : KnownLoop) × (numbered ls n ≡ Some (Some k)) × AllByRecursion (IsApart k) (pairs_of names k)
    by_case None e q = cc
    by_case (Some None) e q = cc
    by_case (Some (Some k)) e q = (k, e, all_apart k gs (pairs_of names k) (pairs_have names k) q)

pub all_hold : (ls : Loops) (gs : List Given) (cs : List Chosen) → AllByRecursion (HoldsOf ls) (map (chosen ls gs) cs)
all_hold ls gs [] = tt
all_hold ls gs (c ∷ cs) =
    (λ e. in_loop gs (c.name ∷ []) ls c.loop_number (raised_shared (are_shown gs (c.name ∷ []) (numbered ls c.loop_number)) c.choice e), all_hold ls gs cs)
