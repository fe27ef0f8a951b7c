use Rattle.std.proofs.Common.{◌≡◌, suc, drop, map}
use Rattle.index_forms.specs.Seen.{form_tree}
use Rattle.certificate_rules.specs.Plain.{least_from}
use Rattle.disjoint_prover.specs.FormTests.{test_of}
use Rattle.disjoint_prover.proofs.least.least.Given as goal

abbrev pub invariant-loop-i : goal.invariant-loop-i
invariant-loop-i l = least_from (test_of l.test) 1 (map form_tree l.forms) ≡ least_from (test_of l.test) (suc l.i) (map form_tree (drop l.i l.forms))
