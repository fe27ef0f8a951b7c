use Rattle.std.proofs.Common.{◌≡◌, ◌+◌, suc, length, map, Some, sym, ap, ◌∙◌, arith}
use Rattle.index_forms.specs.Seen.{form_tree}
use Rattle.index_knowledge.specs.Told.{pair_told}
use Rattle.certificate_rules.specs.Plain.{shown, all_shown}
use Rattle.acceptance.specs.Told.{survey_of, line_told}
use Rattle.disjoint_prover.specs.ShownLines.{with_last, behind, all_behind}
use Rattle.disjoint_prover.proofs.ShownForms.{all-step}
use Rattle.disjoint_prover.proofs.shown.push_all_shown.Goals as goal

pub loop-i-preserved : goal.loop-i-preserved
loop-i-preserved c =
    let s = survey_of c.args.knowledge.now in
    let p = pair_told c.args.pair.now in
    let k : c.loop-i.i + 1 ≡ suc c.loop-i.i = omega arith in
    let q : Some (map line_told c.push_shown.new.lines, c.in-Some.last) ≡ behind (map line_told c.loop-i.lines) (shown s p (suc (length c.loop-i.lines)) (form_tree c.index-forms-i.result)) =
    sym (ap (with_last (map line_told c.push_shown.new.lines)) c.in-Some.is) ∙ c.in_ok-last.ensures in
    rw k (all-step s p c.loop-i.lines c.push_shown.new.lines c.loop-i.lasts c.push.new.self c.args.forms.now c.loop-i.i c.index-forms-i.result c.in-Some.last
    (all_behind (map line_told c.args.lines.now) c.args.lasts.now (all_shown s p (suc (length c.args.lines.now)) (map form_tree c.args.forms.now))) (omega arith) (sym c.index-forms-i.is) q c.in_ok-push-in-Some.ensures.ok c.loop-i.invariant)
