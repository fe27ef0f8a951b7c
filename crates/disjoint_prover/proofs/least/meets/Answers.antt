use Rattle.std.proofs.Common.{◌∙◌, sym, ap}
use Rattle.index_forms.specs.Seen.{form_tree}
use Rattle.disjoint_prover.specs.declared.least.FormTest.{FormTest}
use Rattle.disjoint_prover.specs.FormTests.{test_of}
use Rattle.disjoint_prover.proofs.LeastForms.{residue_is}
use Rattle.disjoint_prover.proofs.least.meets.Goals as goal

pub returns-in-Residue : goal.returns-in-Residue
returns-in-Residue c =
    residue_is (form_tree c.args.form.now) c.has_residue.result c.has_residue.ensures ∙ sym (ap (λ (t : FormTest). test_of t (form_tree c.args.form.now)) c.in-Residue.is)
