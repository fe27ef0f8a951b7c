use Rattle.std.proofs.Common.{rules, ◌≡◌, ◌+ℤ◌, get_or, ◌∙◌, sym, ap, pos, map, FitsSigned, to_z, of_z}
use Rattle.std.proofs.lemmas.Int.{to_z-of_z}
use mir.Syntax.{w128}
use Rattle.std.specs.List.{insert as put_at, remove}
use Rattle.index_forms.specs.Seen.{term_tree, terms_of}
use Rattle.index_forms.proofs.TermPlaces.{L, got, more-some, more-none}
use Rattle.index_forms.proofs.sum.more_at.Goals as goal

pub returns-in_ok-insert-in-Ok : goal.returns-in_ok-insert-in-Ok
returns-in_ok-insert-in-Ok c =
    let x = c.remove-atom.result in
    let g : get_or c.args.terms.now c.args.i x ≡ x = got c.args.terms.now c.args.i x c.remove-atom.ensures.item in
    let f : FitsSigned w128 x.1 = search rules in
    let h : FitsSigned w128 c.in-Ok.sum = search rules in
    let e : to_z w128 (of_z w128 c.args.k) ≡ c.args.k = to_z-of_z w128 c.args.k c.ranges.k in
    let d : to_z w128 (of_z w128 x.1) ≡ x.1 = to_z-of_z w128 x.1 f in
    let o : to_z w128 (of_z w128 c.in-Ok.sum) ≡ c.in-Ok.sum = to_z-of_z w128 c.in-Ok.sum h in
    let s : c.in-Ok.sum ≡ c.args.k +ℤ x.1 = rw (e, d) at c.in-Ok.ensures in
    let n : ¬ (c.in-Ok.sum ≡ pos 0) = (λ z. c.if-sum-ne0.true (ap (of_z w128) z)) in
    let t : c.insert.new.self ≡ put_at (remove c.args.terms.now c.args.i) c.args.i (x.0, c.in-Ok.sum) = cc (c.in_ok-insert-in-Ok.ensures, c.remove-atom.ensures.rest, o) in
    ap (λ (l : L). terms_of (map term_tree l)) t ∙ more-some c.args.terms.now c.args.i x c.args.k c.in-Ok.sum c.requires g s n

pub returns-else-sum-ne0 : goal.returns-else-sum-ne0
returns-else-sum-ne0 c =
    let x = c.remove-atom.result in
    let g : get_or c.args.terms.now c.args.i x ≡ x = got c.args.terms.now c.args.i x c.remove-atom.ensures.item in
    let f : FitsSigned w128 x.1 = search rules in
    let h : FitsSigned w128 c.in-Ok.sum = search rules in
    let e : to_z w128 (of_z w128 c.args.k) ≡ c.args.k = to_z-of_z w128 c.args.k c.ranges.k in
    let d : to_z w128 (of_z w128 x.1) ≡ x.1 = to_z-of_z w128 x.1 f in
    let s : c.in-Ok.sum ≡ c.args.k +ℤ x.1 = rw (e, d) at c.in-Ok.ensures in
    let n : c.args.k +ℤ x.1 ≡ pos 0 = sym s ∙ sym (to_z-of_z w128 c.in-Ok.sum h) ∙ ap (to_z w128) c.if-sum-ne0.false in
    ap (λ (l : L). terms_of (map term_tree l)) c.remove-atom.ensures.rest ∙ more-none c.args.terms.now c.args.i x c.args.k c.requires g n
