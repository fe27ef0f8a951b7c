use Rattle.std.proofs.Common.{◌≡◌, ◌<◌, ◌∷◌, ◌++◌, [], take, length, get_or, ◌+◌, add-one, sym, ap, ◌∙◌, arith, rules, ℤ, FitsSigned, to_z, of_z}
use Rattle.std.proofs.lemmas.Int.{ints, to_z-of_z, fits_signed_from_abs}
use Rattle.std.proofs.Math.Seq.{take-suc}
use mir.Syntax.{w64, w128}
use Rattle.index_forms.proofs.Ints.{abs-is}
use Rattle.index_forms.proofs.Added.{pair-same, L}
use Rattle.index_forms.specs.declared.form.Atom as program
use Rattle.index_forms.proofs.sum.widened.Goals as goal

pub loop-i-preserved : goal.loop-i-preserved
loop-i-preserved c =
    let x = c.index-terms-i.result in
    let f : FitsSigned w64 x.1 = search rules in
    let d : to_z w64 (of_z w64 x.1) ≡ x.1 = to_z-of_z w64 x.1 f in
    let g : to_z w128 (of_z w128 (to_z w64 (of_z w64 x.1))) ≡ x.1 = ap (λ z. to_z w128 (of_z w128 z)) d ∙ to_z-of_z w128 x.1 (fits_signed_from_abs w128 x.1 (omega (arith, ints, abs-is x.1, f))) in
    let p : c.push.new.self ≡ c.loop-i.all ++ x ∷ [] = c.in_ok-push.ensures ∙ ap (λ (y : program.Atom × ℤ). c.loop-i.all ++ y ∷ []) (pair-same c.in_ok-copy.copy x.0 (to_z w128 (of_z w128 (to_z w64 (of_z w64 x.1)))) x.1 c.in_ok-copy.ensures g) in
    let h : c.loop-i.i < length c.args.terms.now = omega arith in
    let t : take (c.loop-i.i + 1) c.args.terms.now ≡ take c.loop-i.i c.args.terms.now ++ get_or c.args.terms.now c.loop-i.i x ∷ [] = rw add-one (take-suc c.args.terms.now c.loop-i.i x h) in
    let o : x ≡ get_or c.args.terms.now c.loop-i.i x = c.index-terms-i.is in
    p ∙ ap (λ (l : L). l ++ x ∷ []) c.loop-i.invariant ∙ ap (λ (y : program.Atom × ℤ). take c.loop-i.i c.args.terms.now ++ y ∷ []) o ∙ sym t
