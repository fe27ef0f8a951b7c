-- Choices that go by what is known of a program's loops: a Shared name's pairs never meet, and the choices fit.
use Rattle.std.proofs.Common.{◌≡◌, ℕ, Bool, true, false, ◌&&◌, ◌||◌, nat_eq, bytes_eq, List, [], ◌∷◌, map, Some, refl, ap, sym, subst, ◌∙◌, arith}
use Rattle.std.specs.List.{AllByRecursion}
use Rattle.std.proofs.lemmas.Bool.{and_parts}
use Rattle.std.proofs.lemmas.Bool.Decides.{nat_tests}
use Rattle.fl_ast.specs.declared.stmt.Program.{Program}
use Rattle.fl_types.specs.declared.choice.Choice.{Choice}
use Rattle.fl_types.specs.declared.choice.Choice.TheVariants.{Shared, Atomic, Reduction}
use Rattle.fl_types.specs.declared.choice.Chosen.{Chosen}
use Rattle.fl_types.specs.WellTyped.{IsTyped}
use Rattle.transposition.specs.Worlds.{is_one_step}
use Rattle.adjoint_rules.specs.Scopes.{is_reduction, has_choice}
use Rattle.adjoint_choices.specs.Choosing.{choices_of}
use Rattle.loop_choices.specs.Choosing.{is_shared, choice_by, choice_in}
use Rattle.certificate.specs.declared.derivation.Given.{Given}
use Rattle.certificate_rules.specs.Surveys.{numbered}
use Rattle.certificate_check.specs.Pairs.{KnownLoop}
use Rattle.certificate_check.specs.Flaws.{Loops}
use Rattle.loop_pairs.specs.Known.{known_of}
use Rattle.loop_pairs.proofs.Surveys.{all_surveys}
use Rattle.sharing_choice.specs.Choosing.{pairs_of, are_shown, raised, chosen}
use Rattle.sharing_choice.proofs.Sound.{all_hold}
use Rattle.program_certificates.specs.Choices.{choices_with, NeverMeet, IsDisjointIn}
use Rattle.program_certificates.proofs.Disjointness.{all_disjoint}
use Rattle.adjoint_sets.specs.Names.{is_active}
use Rattle.sound_programs.proofs.Lists.{never, or_to, same_name}
use Rattle.sound_programs.proofs.Collecting.{choices_fit}
use Rattle.shared_law.specs.Apart.{KnownChoicesFit}

-- ---- a Shared name

-- a loop whose pairs of the name never meet, by its number
pub record NeverMeets (ls : Loops) (number : ℕ) (x : List ℕ) : Type 0 where
  pub known : KnownLoop
  pub stands : numbered ls number ≡ Some (Some known)
  pub apart : AllByRecursion (NeverMeet known) (pairs_of (x ∷ []) known)

is_it : (c : Choice) → is_shared c ≡ true → c ≡ Shared
is_it Shared h = refl
is_it Atomic h = never false h refl
is_it Reduction h = never false h refl

same_number : (a b : ℕ) → nat_eq a b ≡ true → a ≡ b
same_number a b h = grind (arith, nat_tests)

shared_among : (ls : Loops) (cs : List Chosen) (number : ℕ) (x : List ℕ) → AllByRecursion (IsDisjointIn ls) cs
    → has_choice is_shared cs number x ≡ true → NeverMeets ls number x
shared_among ls [] number x a h = never false h refl
shared_among ls (c ∷ cs) number x a h =
    or_to (nat_eq c.loop_number number && (bytes_eq c.name x && is_shared c.choice)) (has_choice is_shared cs number x) here
    (λ e. shared_among ls cs number x a.1 e) h
  where
    here : (nat_eq c.loop_number number && (bytes_eq c.name x && is_shared c.choice)) ≡ true → NeverMeets ls number x
    here e =
        let q = and_parts (nat_eq c.loop_number number) (bytes_eq c.name x && is_shared c.choice) e in
        let r = and_parts (bytes_eq c.name x) (is_shared c.choice) q.1 in
        let d = a.0 (is_it c.choice r.1) in
        subst (λ (n : ℕ). NeverMeets ls n x) (same_number c.loop_number number q.0)
        (subst (λ (y : List ℕ). NeverMeets ls c.loop_number y) (same_name c.name x r.0) (record { known = d.0; stands = d.1; apart = d.2 }))

not_one_step : (a b : Bool) → is_one_step (choice_by a b) ≡ false → b ≡ true
not_one_step true b h = never true refl h
not_one_step false true h = refl
not_one_step false false h = never true refl h

disjoint : (p : Program) (active : List ℕ → Bool) (givens : List Given) → IsTyped p → AllByRecursion (IsDisjointIn (known_of p active)) (choices_with p active givens)
unfolding choices_with
disjoint p active givens t =
    all_disjoint (known_of p active) (all_surveys p active (known_of p active) t refl) (map (chosen (known_of p active) givens) (choices_of p active))
    (all_hold (known_of p active) givens (choices_of p active))

-- of a name whose increments take more than one step
pub never_meets : (p : Program) (active : List ℕ → Bool) (givens : List Given) → IsTyped p → (number : ℕ) (x : List ℕ)
    → is_one_step (choice_in (choices_with p active givens) number x) ≡ false → NeverMeets (known_of p active) number x
never_meets p active givens t number x h =
    shared_among (known_of p active) (choices_with p active givens) number x (disjoint p active givens t)
    (not_one_step (has_choice is_reduction (choices_with p active givens) number x) (has_choice is_shared (choices_with p active givens) number x) h)

-- ---- the same names are collected

raised_same : (b : Bool) (c : Choice) → is_reduction (raised b c) ≡ is_reduction c
raised_same b Reduction = refl
raised_same true Atomic = refl
raised_same false Atomic = refl
raised_same true Shared = refl
raised_same false Shared = refl

collected_same : (ls : Loops) (gs : List Given) (cs : List Chosen) (number : ℕ) (x : List ℕ)
    → has_choice is_reduction (map (chosen ls gs) cs) number x ≡ has_choice is_reduction cs number x
collected_same ls gs [] number x = refl
collected_same ls gs (c ∷ cs) number x =
    ap (λ (b : Bool). (nat_eq c.loop_number number && (bytes_eq c.name x && b)) || has_choice is_reduction (map (chosen ls gs) cs) number x)
    (raised_same (are_shown gs (c.name ∷ []) (numbered ls c.loop_number)) c.choice)
    ∙ ap (λ (b : Bool). (nat_eq c.loop_number number && (bytes_eq c.name x && is_reduction c.choice)) || b) (collected_same ls gs cs number x)

by_collected : (a b : Bool) → is_reduction (choice_by a b) ≡ a
by_collected true b = refl
by_collected false true = refl
by_collected false false = refl

reductions_same : (p : Program) (active : List ℕ → Bool) (givens : List Given) (number : ℕ) (x : List ℕ)
    → is_reduction (choice_in (choices_of p active) number x) ≡ is_reduction (choice_in (choices_with p active givens) number x)
unfolding choices_with
reductions_same p active givens number x =
    let new = map (chosen (known_of p active) givens) (choices_of p active) in
    by_collected (has_choice is_reduction (choices_of p active) number x) (has_choice is_shared (choices_of p active) number x)
    ∙ (sym (collected_same (known_of p active) givens (choices_of p active) number x)
    ∙ sym (by_collected (has_choice is_reduction new number x) (has_choice is_shared new number x)))

pub known_fit : KnownChoicesFit
known_fit p of wrt givens a l i x active h =
    (choices_fit p of wrt a).fitting l i x active (reductions_same p (is_active p of wrt) givens l.number x ∙ h)
