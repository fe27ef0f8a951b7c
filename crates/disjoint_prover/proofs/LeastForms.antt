-- Tests of forms.
use Rattle.std.proofs.Common.{◌≡◌, Bool, IsTrue, ◌↔◌, ◌∙◌}
use Rattle.index_forms.specs.Form.{Form}
use Rattle.index_ranges.specs.Told.{ranges_told}
use Rattle.certificate_rules.specs.Accepted.{HasResidue}
use Rattle.certificate_rules.specs.Tests.{has_residue, range_holds}
use Rattle.acceptance.specs.declared.knowledge.LoopKnowledge.{LoopKnowledge}
use Rattle.acceptance.specs.Told.{survey_of}
use Rattle.acceptance.specs.Runs.{range_test}
use Rattle.acceptance.proofs.Lines.{residue-is}
use Rattle.acceptance.proofs.InnerRuns.{range-tested}

pub residue_is : (f : Form) (r : Bool) → IsTrue r ↔ HasResidue f → r ≡ has_residue f
residue_is f r h = residue-is f r h

pub range_is : (b : Bool) (k : LoopKnowledge) (f : Form) (r : Bool) → r ≡ range_test b (ranges_told k.ranges) k.second f → r ≡ range_holds b (survey_of k) f
range_is b k f r h = h ∙ range-tested b (survey_of k) f
