use Rattle.std.proofs.Common.{◌≡◌, ℕ, suc, ◌+◌, ◌++◌, map, drop, sym, subst, arith}
use Rattle.certificate_check.specs.Pairs.{loop_of}
use Rattle.sharing_choice.specs.Choosing.{derived_pairs, pairs_among}
use Rattle.sharing_choice.specs.Shown.{given_told}
use Rattle.sharing_choice.proofs.Pairs.{among_step, derived_more}
use Rattle.sharing_choice.proofs.derivations.push_among.Goals as goal

pub loop-i-preserved : goal.loop-i-preserved
loop-i-preserved c =
    let k = loop_of c.args.around.now in
    let n : c.loop-i.i + 1 ≡ suc c.loop-i.i = omega arith in
    let all = map given_told c.args.all.now ++ derived_pairs k c.args.givens.now (pairs_among c.args.names.now k c.args.accesses.now) in
    subst (λ (i : ℕ). map given_told c.push_from.new.all ++ derived_pairs k c.args.givens.now (pairs_among c.args.names.now k (drop i c.args.accesses.now)) ≡ all) (sym n)
    (derived_more k c.args.givens.now _ (pairs_among c.args.names.now k (drop (suc c.loop-i.i) c.args.accesses.now)) (pairs_among c.args.names.now k (drop c.loop-i.i c.args.accesses.now))
    (map given_told c.loop-i.all) (map given_told c.push_from.new.all) all c.in_ok-push_from.ensures
    (among_step c.args.names.now k c.args.accesses.now c.loop-i.i c.index-accesses-i.result (omega arith) (sym c.index-accesses-i.is)) c.loop-i.invariant)
