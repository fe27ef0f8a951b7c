use Rattle.std.proofs.Common.{◌≡◌, ◌∙◌, ap, arith, pos, map, to_z, of_z}
use Rattle.std.proofs.lemmas.Int.{ints, to_z-of_z}
use mir.Syntax.{w128}
use Rattle.std.specs.List.{insert as put_at}
use Rattle.index_forms.specs.Seen.{term_tree, terms_of}
use Rattle.index_forms.proofs.TermPlaces.{put-some, put-none, L}
use Rattle.index_forms.proofs.sum.put_before.Goals as goal

pub returns-in_ok-insert : goal.returns-in_ok-insert
returns-in_ok-insert c =
    let a = c.in_ok-copy.ensures in
    let b : c.insert.new.self ≡ put_at c.args.terms.now c.args.i (c.in_ok-copy.copy, to_z w128 (of_z w128 c.args.k)) = c.in_ok-insert.ensures in
    let e : to_z w128 (of_z w128 c.args.k) ≡ c.args.k = to_z-of_z w128 c.args.k c.ranges.k in
    let n : ¬ (c.args.k ≡ pos 0) = (λ z. c.if-k-ne0.true (ap (of_z w128) z)) in
    let q = put-some c.args.terms.now c.args.i c.args.atom.now c.args.k n in
    ap (λ (l : L). terms_of (map term_tree l)) (b ∙ cc) ∙ q

pub returns-else-k-ne0 : goal.returns-else-k-ne0
returns-else-k-ne0 c = put-none c.args.terms.now c.args.i c.args.atom.now c.args.k (omega (arith, ints))
