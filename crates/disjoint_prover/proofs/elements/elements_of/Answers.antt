use Rattle.std.proofs.Common.{◌≡◌, true, false, Some, sym, ap, ◌∙◌}
use Rattle.std.specs.Prelude.{option_map}
use Rattle.index_forms.specs.Seen.{form_tree}
use Rattle.index_forms.specs.Listed.{forms_seen}
use Rattle.certificate_rules.specs.Accepted.{reads_apart}
use Rattle.certificate_rules.specs.Tests.{same_form}
use Rattle.certificate_rules.specs.Plain.{first_element}
use Rattle.disjoint_prover.specs.Aparts.{apart_told}
use Rattle.disjoint_prover.proofs.LeastReads.{seen, elements_some, elements_other, elements_none}
use Rattle.disjoint_prover.proofs.elements.elements_of.Goals as goal

pub returns-then-is_same : goal.returns-then-is_same
returns-then-is_same c =
    let f = c.args.form.now in
    let a = c.in-Some.apart in
    let h : Some (apart_told a) ≡ first_element (seen c.as_slice.result.now) = sym (ap (option_map apart_told) c.in-Some.is) ∙ c.first_element.ensures in
    let t : same_form (form_tree f) (reads_apart a.name.now (forms_seen a.ones.now) (forms_seen a.twos.now)) ≡ true = ap (same_form (form_tree f)) (sym c.in_ok-difference-in-Some.ensures) ∙ sym c.is_same.ensures ∙ c.if-is_same.true in
    elements_some f c.as_slice.result.now (apart_told a) c.as_slice.ensures h t

pub returns-in-Some : goal.returns-in-Some
returns-in-Some c =
    let f = c.args.form.now in
    let a = c.in-Some.apart in
    let h : Some (apart_told a) ≡ first_element (seen c.as_slice.result.now) = sym (ap (option_map apart_told) c.in-Some.is) ∙ c.first_element.ensures in
    let t : same_form (form_tree f) (reads_apart a.name.now (forms_seen a.ones.now) (forms_seen a.twos.now)) ≡ false = ap (same_form (form_tree f)) (sym c.in_ok-difference-in-Some.ensures) ∙ sym c.is_same.ensures ∙ c.if-is_same.false in
    elements_other f c.as_slice.result.now (apart_told a) c.as_slice.ensures h t

pub returns : goal.returns
returns c = elements_none c.args.form.now c.as_slice.result.now c.as_slice.ensures (sym (ap (option_map apart_told) c.in-None.is) ∙ c.first_element.ensures)
