use Rattle.std.proofs.Common.{◌≡◌, suc, length, drop, map}
use Rattle.index_forms.specs.Seen.{form_tree}
use Rattle.index_knowledge.specs.Told.{pair_told}
use Rattle.certificate_rules.specs.Plain.{all_shown}
use Rattle.acceptance.specs.Told.{survey_of, line_told}
use Rattle.disjoint_prover.specs.ShownLines.{all_behind}
use Rattle.disjoint_prover.proofs.shown.push_all_shown.Given as goal

abbrev pub invariant-loop-i : goal.invariant-loop-i
invariant-loop-i l =
    all_behind (map line_told l.lines) l.lasts (all_shown (survey_of l.knowledge) (pair_told l.pair) (suc (length l.lines)) (map form_tree (drop l.i l.forms)))
    ≡ all_behind (map line_told l.initial.lines) l.initial.lasts (all_shown (survey_of l.knowledge) (pair_told l.pair) (suc (length l.initial.lines)) (map form_tree l.forms))
