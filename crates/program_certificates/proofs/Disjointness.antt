-- Pairs of Shared names never meet.
use Rattle.std.proofs.Common.{◌≡◌, ℕ, zero, suc, List, [], ◌∷◌, Option, Some, None, ap, subst}
use Rattle.std.specs.List.{AllByRecursion}
use Rattle.fl_types.specs.declared.choice.Chosen.{Chosen}
use Rattle.index_knowledge.specs.Knowledge.{KnownPair}
use Rattle.certificate_rules.specs.Surveys.{numbered, IsSurvey}
use Rattle.certificate_check.specs.Pairs.{KnownLoop}
use Rattle.certificate_check.specs.Flaws.{Loops}
use Rattle.loop_pairs.specs.Known.{AreSurveys}
use Rattle.sharing_choice.specs.Choosing.{pairs_of}
use Rattle.sharing_choice.specs.Shown.{IsApart, HoldsOf}
use Rattle.program_certificates.specs.Choices.{NeverMeet, IsDisjointIn}

abbrev loop_or : KnownLoop → Option (Option KnownLoop) → KnownLoop
loop_or d None = d
loop_or d (Some None) = d
loop_or d (Some (Some k)) = k

pub survey_at : (ls : Loops) → AreSurveys ls → (n : ℕ) (k : KnownLoop) → numbered ls n ≡ Some (Some k) → IsSurvey k.survey
survey_at ls w zero k h = cc
survey_at [] w (suc n) k h = cc
survey_at (None ∷ ls) w (suc zero) k h = cc
survey_at (Some l ∷ ls) w (suc zero) k h = subst (λ (x : KnownLoop). IsSurvey x.survey) (ap (loop_or l) h) w.0
survey_at (None ∷ ls) w (suc (suc n)) k h = survey_at ls w (suc n) k h
survey_at (Some l ∷ ls) w (suc (suc n)) k h = survey_at ls w.1 (suc n) k h

each_pair : (k : KnownLoop) → IsSurvey k.survey → (ps : List KnownPair) → AllByRecursion (IsApart k) ps → AllByRecursion (NeverMeet k) ps
each_pair k s [] a = tt
each_pair k s (p ∷ ps) a = ((a.0.forms, a.0.disjoint s), each_pair k s ps a.1)

pub all_disjoint : (ls : Loops) → AreSurveys ls → (cs : List Chosen) → AllByRecursion (HoldsOf ls) cs → AllByRecursion (IsDisjointIn ls) cs
all_disjoint ls w [] a = tt
all_disjoint ls w (c ∷ cs) a =
    (λ e. let h = a.0 e in (h.0, h.1, each_pair h.0 (survey_at ls w c.loop_number h.0 h.1) (pairs_of (c.name ∷ []) h.0) h.2), all_disjoint ls w cs a.1)
