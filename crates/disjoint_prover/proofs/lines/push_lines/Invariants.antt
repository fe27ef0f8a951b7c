use Rattle.std.proofs.Common.{◌≡◌, drop, map}
use Rattle.index_forms.specs.Seen.{form_tree}
use Rattle.index_knowledge.specs.Told.{pair_told}
use Rattle.certificate_rules.specs.Plain.{lines_for}
use Rattle.acceptance.specs.Told.{line_told}
use Rattle.disjoint_prover.specs.Grown.{grown}
use Rattle.disjoint_prover.proofs.lines.push_lines.Given as goal

abbrev pub invariant-loop-i : goal.invariant-loop-i
invariant-loop-i l =
    grown (map line_told l.lines) (lines_for (pair_told l.pair) (map form_tree (drop l.i l.forms)))
    ≡ grown (map line_told l.initial.lines) (lines_for (pair_told l.pair) (map form_tree l.forms))
