use Rattle.std.proofs.Common.{◌≡◌, drop, length, map}
use Rattle.index_forms.specs.Seen.{form_tree}
use Rattle.certificate_rules.specs.Tests.{lines_are}
use Rattle.acceptance.specs.Told.{forms_in}
use Rattle.acceptance.proofs.line_form.are_lines.Given as goal

abbrev pub invariant-loop-i : goal.invariant-loop-i
invariant-loop-i l = (length l.numbers ≡ length l.forms) × (lines_are (forms_in l.above) l.numbers (map form_tree l.forms) ≡ lines_are (forms_in l.above) (drop l.i l.numbers) (map form_tree (drop l.i l.forms)))
