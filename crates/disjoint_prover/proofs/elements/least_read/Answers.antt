use Rattle.std.proofs.Common.{◌≡◌, ◌-◌, ◌+◌, ℕ, suc, true, false, length, sym, ap, ◌∙◌, arith}
use Rattle.index_forms.specs.Listed.{forms_seen, all_forms_seen}
use Rattle.index_forms.specs.Scenes.{is_fixed_there}
use Rattle.certificate_rules.specs.Plain.{is_element_of, least_read}
use Rattle.disjoint_prover.specs.Aparts.{read_by}
use Rattle.disjoint_prover.proofs.LeastReads.{E, read-here, read-later}
use Rattle.disjoint_prover.proofs.elements.least_read.Goals as goal

pub returns-then-is_element_of : goal.returns-then-is_element_of
returns-then-is_element_of c =
    let elements : E = read_by (is_fixed_there c.args.scene.now) c.args.accesses.now (all_forms_seen c.args.side.now) in
    let x = c.args.name.now in
    let fs = forms_seen c.args.forms.now in
    let n : ℕ = c.in_ok-number.number in
    let count : ℕ = length c.args.accesses.now in
    let t : is_element_of x fs (elements n) ≡ true = ap (is_element_of x fs) (sym c.element_at.ensures) ∙ sym c.is_element_of.ensures ∙ c.if-is_element_of.true in
    sym (c.loop-i.invariant ∙ ap (λ (m : ℕ). least_read elements x fs m (count - c.loop-i.i)) (sym c.in_ok-number.ensures) ∙ read-here elements x fs n count c.loop-i.i (omega arith) t)

pub loop-i-preserved : goal.loop-i-preserved
loop-i-preserved c =
    let elements : E = read_by (is_fixed_there c.args.scene.now) c.args.accesses.now (all_forms_seen c.args.side.now) in
    let x = c.args.name.now in
    let fs = forms_seen c.args.forms.now in
    let n : ℕ = c.in_ok-number.number in
    let count : ℕ = length c.args.accesses.now in
    let t : is_element_of x fs (elements n) ≡ false = ap (is_element_of x fs) (sym c.element_at.ensures) ∙ sym c.is_element_of.ensures ∙ c.if-is_element_of.false in
    let u : is_element_of x fs (elements (suc c.loop-i.i)) ≡ false = ap (λ (m : ℕ). is_element_of x fs (elements m)) (sym c.in_ok-number.ensures) ∙ t in
    let k : c.loop-i.i + 1 ≡ suc c.loop-i.i = omega arith in
    rw k (c.loop-i.invariant ∙ read-later elements x fs (suc c.loop-i.i) count c.loop-i.i (omega arith) u)
