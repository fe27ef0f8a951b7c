use Rattle.std.proofs.Common.{◌≡◌, drop, map}
use Rattle.index_forms.specs.Form.{forms_order, terms_order}
use Rattle.index_forms.specs.Seen.{form_tree, term_tree, terms_of, forms_of}
use Rattle.index_forms.proofs.+atom_order.Given as goal

abbrev pub invariant-comparison::forms_order-loop-i : goal.invariant-comparison::forms_order-loop-i
invariant-comparison::forms_order-loop-i l = forms_order (forms_of (map form_tree l.fs)) (forms_of (map form_tree l.gs)) ≡ forms_order (forms_of (map form_tree (drop l.i l.fs))) (forms_of (map form_tree (drop l.i l.gs)))

abbrev pub invariant-comparison::terms_order-loop-i : goal.invariant-comparison::terms_order-loop-i
invariant-comparison::terms_order-loop-i l = terms_order (terms_of (map term_tree l.ts)) (terms_of (map term_tree l.us)) ≡ terms_order (terms_of (map term_tree (drop l.i l.ts))) (terms_of (map term_tree (drop l.i l.us)))
