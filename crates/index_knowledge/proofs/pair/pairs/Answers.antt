use Rattle.std.proofs.Common.{◌≡◌, ℕ, suc, ◌+◌, ◌∙◌, ap, sym, subst, drop, arith}
use Rattle.index_forms.specs.Listed.{forms_seen, all_forms_seen}
use Rattle.index_knowledge.specs.Knowledge.{pairing, with_pairs_at, with_pairs, pairs}
use Rattle.index_knowledge.specs.Told.{pairs_told}
use Rattle.index_knowledge.proofs.FactLists.{F}
use Rattle.index_knowledge.proofs.PairLists.{rows_more}
use Rattle.index_knowledge.proofs.pair.pairs.Goals as goal

pub loop-i-preserved : goal.loop-i-preserved
loop-i-preserved c =
    let p = pairing c.args.loop_number c.args.nest c.args.name.now in
    let i = c.loop-i.i in
    let n : i + 1 ≡ suc i = omega arith in
    let all = pairs p c.args.rights.now c.args.accesses.now (all_forms_seen c.args.ones.now) (all_forms_seen c.args.twos.now) in
    let e = c.in_ok-push_pairs_at.ensures
    ∙ ap (λ (f : F). with_pairs_at p c.index-accesses-i.result (forms_seen f) c.right_at-right.result (drop i c.args.rights.now) (drop i c.args.accesses.now) (all_forms_seen (drop i c.args.twos.now)) (pairs_told c.loop-i.all)) c.as_slice-forms.ensures in
    subst (λ (k : ℕ). with_pairs p (drop k c.args.rights.now) (drop k c.args.accesses.now) (all_forms_seen (drop k c.args.ones.now)) (all_forms_seen (drop k c.args.twos.now)) (pairs_told c.push_pairs_at.new.all) ≡ all) (sym n)
    (rows_more p c.args.rights.now c.args.accesses.now c.args.ones.now c.args.twos.now i c.right_at-right.result c.index-accesses-i.result c.index-ones-i.result (pairs_told c.loop-i.all) (pairs_told c.push_pairs_at.new.all) all
    c.right_at-right.ensures (omega arith) (sym c.index-accesses-i.is) (omega (arith, c.requires.ones)) (sym c.index-ones-i.is) (omega (arith, c.requires.twos)) e c.loop-i.invariant)
