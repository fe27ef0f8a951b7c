use Rattle.std.proofs.Common.{◌≡◌, ◌<◌, length, map, get_or, ◌∙◌, sym, ap, arith}
use Rattle.std.proofs.lemmas.List.{get_or-map, length-map}
use Rattle.std.specs.declared.cmp.Ordering.TheVariants.{Less, Equal, Greater}
use Rattle.index_forms.specs.Form.{atom_order}
use Rattle.index_forms.specs.Seen.{atom_tree, term_tree}
use Rattle.index_forms.proofs.TermPlaces.{place-before, place-at, sought-more}
use Rattle.index_forms.proofs.sum.find_place.Goals as goal

pub returns-in-Less : goal.returns-in-Less
returns-in-Less c =
    let x = c.index-terms-i.result in
    let h : c.loop-i.i < length c.args.terms.now = omega arith in
    let e : get_or (map term_tree c.args.terms.now) c.loop-i.i (term_tree x) ≡ term_tree x = get_or-map term_tree c.args.terms.now c.loop-i.i x (term_tree x) h ∙ ap term_tree (sym c.index-terms-i.is) in
    let o : atom_order (atom_tree c.args.atom.now) (atom_tree x.0) ≡ Less = cc in
    place-before (atom_tree c.args.atom.now) (map term_tree c.args.terms.now) c.loop-i.i (term_tree x) (omega (arith, h, length-map c.args.terms.now term_tree)) e o c.loop-i.invariant

pub returns-in-Equal : goal.returns-in-Equal
returns-in-Equal c =
    let x = c.index-terms-i.result in
    let h : c.loop-i.i < length c.args.terms.now = omega arith in
    let e : get_or (map term_tree c.args.terms.now) c.loop-i.i (term_tree x) ≡ term_tree x = get_or-map term_tree c.args.terms.now c.loop-i.i x (term_tree x) h ∙ ap term_tree (sym c.index-terms-i.is) in
    let o : atom_order (atom_tree c.args.atom.now) (atom_tree x.0) ≡ Equal = cc in
    place-at (atom_tree c.args.atom.now) (map term_tree c.args.terms.now) c.loop-i.i (term_tree x) (omega (arith, h, length-map c.args.terms.now term_tree)) e o c.loop-i.invariant

pub loop-i-preserved : goal.loop-i-preserved
loop-i-preserved c =
    let x = c.index-terms-i.result in
    let h : c.loop-i.i < length c.args.terms.now = omega arith in
    let e : get_or (map term_tree c.args.terms.now) c.loop-i.i (term_tree x) ≡ term_tree x = get_or-map term_tree c.args.terms.now c.loop-i.i x (term_tree x) h ∙ ap term_tree (sym c.index-terms-i.is) in
    let o : atom_order (atom_tree c.args.atom.now) (atom_tree x.0) ≡ Greater = cc in
    sought-more (atom_tree c.args.atom.now) (map term_tree c.args.terms.now) c.loop-i.i (term_tree x) (omega (arith, h, length-map c.args.terms.now term_tree)) e o c.loop-i.invariant
