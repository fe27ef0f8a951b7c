use Rattle.std.proofs.Common.{◌∙◌, sym}
use Rattle.index_forms.specs.Scenes.{is_fixed_there}
use Rattle.acceptance.proofs.ElementForms.{element_there}
use Rattle.acceptance.proofs.congruence.is_element.Goals as goal

pub returns-then-is_fixed : goal.returns-then-is_fixed
returns-then-is_fixed c =
    element_there (is_fixed_there c.args.scene.now) c.args.access.now c.args.forms.now c.is_empty.result (sym c.is_read.ensures ∙ c.if-not-is_read.false) (sym c.is_fixed.ensures ∙ c.if-is_fixed.true) c.is_empty.ensures
