use Rattle.std.proofs.Common.{◌≡◌, ◌∙◌, sym, ap, Some}
use Rattle.std.specs.Prelude.{option_map, option_copied}
use Rattle.index_forms.specs.Seen.{form_tree}
use Rattle.certificate_rules.specs.Surveys.{numbered}
use Rattle.acceptance.specs.Told.{forms_in}
use Rattle.acceptance.proofs.Lines.{residue_held}
use Rattle.acceptance.proofs.derivation.closes_residue.Goals as goal

pub returns-in-Some : goal.returns-in-Some
returns-in-Some c =
    let e : Some (form_tree c.in-Some.form.now) ≡ numbered (forms_in c.args.above.now) c.args.line = sym (ap (λ o. option_map form_tree (option_copied o)) c.in-Some.is) ∙ c.line_at.ensures in
    residue_held (numbered (forms_in c.args.above.now) c.args.line) (form_tree c.in-Some.form.now) c.has_residue.result e c.has_residue.ensures
