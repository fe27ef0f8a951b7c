use Rattle.std.proofs.Common.{◌≡◌, true, false, List, Some, refl, sym, ap, ◌∙◌}
use Rattle.std.specs.Prelude.{option_copied}
use Rattle.index_forms.specs.declared.form.Form as program_form
use Rattle.index_forms.specs.Listed.{forms_seen}
use Rattle.index_forms.specs.Scenes.{is_fixed_there}
use Rattle.certificate_rules.specs.Surveys.{numbered}
use Rattle.certificate_rules.specs.Tests.{is_element}
use Rattle.acceptance.proofs.ElementForms.{element_some, element_other}
use Rattle.acceptance.proofs.congruence.element_at.Goals as goal

pub returns-then-is_element : goal.returns-then-is_element
returns-then-is_element c =
    let a = c.in-Some.access.now in
    let fs = c.in-Some-numbered.forms.now in
    let e : Some a ≡ numbered c.args.accesses.now c.args.number = sym (ap option_copied c.in-Some.is) ∙ c.numbered.ensures in
    let h : Some fs ≡ numbered c.args.side.now c.args.number = sym (ap option_copied c.in-Some-numbered.is) ∙ c.numbered-in-Some.ensures in
    let t : is_element (is_fixed_there c.args.scene.now) a (forms_seen fs) ≡ true =
    sym (c.is_element.ensures ∙ ap (λ (l : List program_form.Form). is_element (is_fixed_there c.args.scene.now) a (forms_seen l)) c.as_slice.ensures) ∙ c.if-is_element.true in
    element_some (is_fixed_there c.args.scene.now) c.args.accesses.now c.args.side.now c.args.number a fs c.as_slice-then-is_element.result.now a.place.name e h t refl c.as_slice-then-is_element.ensures

pub returns-else-is_element : goal.returns-else-is_element
returns-else-is_element c =
    let a = c.in-Some.access.now in
    let fs = c.in-Some-numbered.forms.now in
    let e : Some a ≡ numbered c.args.accesses.now c.args.number = sym (ap option_copied c.in-Some.is) ∙ c.numbered.ensures in
    let h : Some fs ≡ numbered c.args.side.now c.args.number = sym (ap option_copied c.in-Some-numbered.is) ∙ c.numbered-in-Some.ensures in
    let t : is_element (is_fixed_there c.args.scene.now) a (forms_seen fs) ≡ false =
    sym (c.is_element.ensures ∙ ap (λ (l : List program_form.Form). is_element (is_fixed_there c.args.scene.now) a (forms_seen l)) c.as_slice.ensures) ∙ c.if-is_element.false in
    element_other (is_fixed_there c.args.scene.now) c.args.accesses.now c.args.side.now c.args.number a fs e h t
