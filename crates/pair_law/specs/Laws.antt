-- Pairs by two numbers, as certificates name them, and the pairs of a name.
use Rattle.std.specs.Prelude.{◌≡◌, ℕ, Bool, List, [], ◌∷◌, length}
use Rattle.fl_ast.specs.declared.decl.Decl.{Decl}
use Rattle.index_forms.specs.Loops.{HeadedLoop}
use Rattle.index_knowledge.specs.Knowledge.{pairing, pairs}
use Rattle.certificate_rules.specs.Surveys.{IsSurvey}
use Rattle.certificate_check.specs.Pairs.{KnownLoop}
use Rattle.loop_pairs.specs.Known.{survey_by, known_loop}
use Rattle.sharing_choice.specs.Choosing.{pairs_of}

-- where a loop's knowledge is a survey, and says of each access whether it is in such a right side
abbrev pub PairsAreKnown : Type 0
PairsAreKnown =
    (k : KnownLoop) (x : List ℕ) → IsSurvey k.survey → length k.rights ≡ length k.survey.accesses →
    pairs_of (x ∷ []) k ≡ pairs (pairing k.number k.nest x) k.rights k.survey.accesses k.survey.ones k.survey.twos

-- what is known of a program's loop says it
abbrev pub RightsAreForAll : Type 0
RightsAreForAll =
    (decls : List Decl) (active : List ℕ → Bool) (l : HeadedLoop) → IsSurvey (survey_by decls l) → length (known_loop decls active l).rights ≡ length (known_loop decls active l).survey.accesses
