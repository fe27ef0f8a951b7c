use Rattle.std.proofs.Common.{List, map, length, suc, sym, ap, ◌∙◌, Option}
use Rattle.std.specs.Prelude.{option_map}
use Rattle.index_forms.specs.declared.form.Form as program_form
use Rattle.index_forms.specs.Listed.{all_forms_seen}
use Rattle.index_knowledge.specs.Told.{pair_told}
use Rattle.certificate_rules.specs.Plain.{shown_elements}
use Rattle.acceptance.specs.Told.{survey_of, line_told}
use Rattle.disjoint_prover.specs.declared.elements.Apart.{Apart}
use Rattle.disjoint_prover.specs.Aparts.{apart_told}
use Rattle.disjoint_prover.specs.ShownLines.{behind}
use Rattle.disjoint_prover.proofs.ShownForms.{elements-shown}
use Rattle.disjoint_prover.proofs.shown.push_elements.Goals as goal

pub returns-in_ok-push_cong_of-in-Some : goal.returns-in_ok-push_cong_of-in-Some
returns-in_ok-push_cong_of-in-Some c =
    let s = survey_of c.args.knowledge.now in
    let p = pair_told c.args.pair.now in
    let T = map line_told c.args.lines.now in
    let n = suc (length c.args.lines.now) in
    let seen = (λ (l : List (List program_form.Form)). all_forms_seen l) in
    elements-shown s p T n (apart_told c.in-Some.apart) c.as_slice-accesses.result.now (seen c.as_slice-ones.result.now) (seen c.as_slice-twos.result.now) c.in_ok-first-in-Some.first c.in_ok-second-in-Some.second _
    c.as_slice-accesses.ensures (ap seen c.as_slice-ones.ensures) (ap seen c.as_slice-twos.ensures) c.in_ok-first-in-Some.ensures c.in_ok-second-in-Some.ensures c.in_ok-push_cong_of-in-Some.ensures
    ∙ sym (ap (λ (z : Option Apart). behind T (shown_elements s p n (option_map apart_told z))) c.in-Some.is)
