use Rattle.std.proofs.Common.{◌≡◌, ℤ, ◌-◌, ◌*ℤ◌, suc, ℕ, sym, subst, ap, ◌∙◌, arith, rules, FitsSigned, to_z, of_z, map}
use Rattle.std.proofs.lemmas.Int.{to_z-of_z}
use mir.Syntax.{w64, w128}
use Rattle.index_forms.specs.Seen.{atom_tree, term_tree, terms_of}
use Rattle.index_forms.specs.Sums.{insert}
use Rattle.index_forms.proofs.Added.{AddedFrom, further}
use Rattle.index_forms.proofs.sum.add_terms.Goals as goal

pub loop-i-preserved : goal.loop-i-preserved
loop-i-preserved c =
    let x = c.index-added-i.result in
    let us = terms_of (map term_tree c.args.terms.now) in
    let f : FitsSigned w64 x.1 = search rules in
    let o : to_z w64 (of_z w64 c.args.m) ≡ c.args.m = to_z-of_z w64 c.args.m c.ranges.m in
    let n : c.product.result ≡ c.args.m *ℤ x.1 = c.product.ensures ∙ ap (λ (z : ℤ). z *ℤ to_z w64 (of_z w64 x.1)) o ∙ ap (λ (z : ℤ). c.args.m *ℤ z) (to_z-of_z w64 x.1 f) in
    let g : FitsSigned w128 c.product.result = record { sfits = c.product.type_inv } in
    let w : to_z w128 (of_z w128 c.product.result) ≡ c.product.result = to_z-of_z w128 c.product.result g in
    let t : terms_of (map term_tree c.add_term.new.terms) ≡ insert (atom_tree x.0) c.product.result (terms_of (map term_tree c.loop-i.terms)) = c.in_ok-add_term.ensures ∙ ap (λ z. insert (atom_tree x.0) z (terms_of (map term_tree c.loop-i.terms))) w in
    let i : c.loop-i.i ≡ suc (c.loop-i.i - 1) = omega arith in
    let P : ℕ → Type 0 = (λ (j : ℕ). AddedFrom c.args.m c.args.added.now us j c.loop-i.terms) in
    let s : AddedFrom c.args.m c.args.added.now us c.loop-i.i c.loop-i.terms = subst (λ (z : ℤ). AddedFrom z c.args.added.now us c.loop-i.i c.loop-i.terms) o c.loop-i.invariant in
    subst (λ (z : ℤ). AddedFrom z c.args.added.now us (c.loop-i.i - 1) c.add_term.new.terms) (sym o)
    (further c.args.m c.args.added.now c.loop-i.terms c.add_term.new.terms us (c.loop-i.i - 1) x c.product.result (omega arith) (sym c.index-added-i.is) n (subst P i s) t)
