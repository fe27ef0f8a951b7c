use Rattle.std.proofs.Common.{◌≡◌, drop, map, []}
use Rattle.index_knowledge.specs.Told.{pair_told}
use Rattle.certificate_rules.specs.Tests.{all_forms}
use Rattle.acceptance.specs.Told.{survey_of, line_told, forms_in}
use Rattle.acceptance.proofs.derivation.forms_of_lines.Given as goal

abbrev pub invariant-loop-i : goal.invariant-loop-i
invariant-loop-i l =
    all_forms (survey_of l.knowledge) (pair_told l.pair) (forms_in l.above) (map line_told (drop l.i l.lines))
    ≡ all_forms (survey_of l.knowledge) (pair_told l.pair) [] (map line_told l.lines)
