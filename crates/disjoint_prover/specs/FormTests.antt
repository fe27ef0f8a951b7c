-- What is asked of forms.
use Rattle.std.specs.Prelude.{Bool}
use Rattle.index_forms.specs.Form.{Form}
use Rattle.index_forms.specs.Seen.{form_tree}
use Rattle.certificate_rules.specs.Tests.{same_form, is_distinct, is_second_distinct, has_residue, range_holds}
use Rattle.acceptance.specs.Told.{survey_of}
use Rattle.disjoint_prover.specs.declared.least.FormTest.{FormTest}
use Rattle.disjoint_prover.specs.declared.least.FormTest.TheVariants.{Same, Distinct, SecondDistinct, Residue, Range}

abbrev pub test_of : FormTest → Form → Bool
test_of (Same g) f = same_form f (form_tree g.now)
test_of Distinct f = is_distinct f
test_of SecondDistinct f = is_second_distinct f
test_of Residue f = has_residue f
test_of (Range b k) f = range_holds b (survey_of k.now) f
