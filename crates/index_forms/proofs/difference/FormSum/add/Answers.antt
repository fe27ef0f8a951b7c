use Rattle.std.proofs.Common.{rules, ◌≡◌, ◌+ℤ◌, ◌*ℤ◌, ap, ◌∙◌, ℤ, map, FitsSigned, to_z, of_z}
use Rattle.std.proofs.lemmas.Int.{to_z-of_z}
use mir.Syntax.{w64, w128}
use Rattle.index_forms.specs.Seen.{term_tree, terms_of}
use Rattle.index_forms.specs.Sums.{add_scaled}
use Rattle.index_forms.proofs.Added.{L}
use Rattle.index_forms.proofs.Parts.{sum-more}
use Rattle.index_forms.proofs.difference.FormSum.add.Goals as goal

pub returns : goal.returns
returns c =
    let f = c.args.form.now in
    let s = c.args.self.now in
    let n = c.in_ok-self.field-0 in
    let us = terms_of (map term_tree s.terms) in
    let a : FitsSigned w64 f.constant = search rules in
    let b : FitsSigned w128 s.constant = search rules in
    let d : FitsSigned w128 n = search rules in
    let g : FitsSigned w128 c.product.result = record { sfits = c.product.type_inv } in
    let o : to_z w64 (of_z w64 c.args.m) ≡ c.args.m = to_z-of_z w64 c.args.m c.ranges.m in
    let p : c.product.result ≡ c.args.m *ℤ f.constant = c.product.ensures ∙ ap (λ (z : ℤ). z *ℤ to_z w64 (of_z w64 f.constant)) o ∙ ap (λ (z : ℤ). c.args.m *ℤ z) (to_z-of_z w64 f.constant a) in
    let q : n ≡ (c.args.m *ℤ f.constant) +ℤ s.constant = rw (to_z-of_z w128 c.product.result g, to_z-of_z w128 s.constant b, p) at c.in_ok-self.ensures in
    let t : terms_of (map term_tree c.add_terms.new.terms) ≡ add_scaled c.args.m (terms_of (map term_tree f.terms)) us =
    c.in_ok-add_terms.ensures ∙ ap (λ (z : ℤ). add_scaled z (terms_of (map term_tree c.as_slice.result.now)) us) o
    ∙ ap (λ (l : L). add_scaled c.args.m (terms_of (map term_tree l)) us) c.as_slice.ensures in
    sum-more c.args.m f s.constant (to_z w128 (of_z w128 n)) us (terms_of (map term_tree c.add_terms.new.terms)) (to_z-of_z w128 n d ∙ q) t
