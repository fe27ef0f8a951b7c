-- The atoms of an access's nodes: which there are, and that a valuation with their bindings has the nodes' values.
use Rattle.std.proofs.Common.{ℕ, suc, Bool, true, false, ℤ, pos, List, [], ◌∷◌, ◌++◌, ap, ◌∙◌, Option, Some, None}
use Rattle.std.specs.Prelude.{if◌then◌else◌}
use Rattle.fl_ast.specs.Tree.{Expression, literal, get, minus, binary, power, call, Expressions, no_expressions, expression}
use Rattle.fl_types.specs.Accesses.{Occurrence}
use Rattle.meaning.specs.declared.value.Value.{Value}
use Rattle.meaning.specs.declared.value.Value.TheVariants.{Index, Ring}
use Rattle.meaning.specs.Sites.{Cells, Site}
use Rattle.meaning.specs.Expressions.{value_of}
use Rattle.meaning.specs.Defined.{AreIndexValues, IsDefined, AreDefined}
use Rattle.index_forms.specs.Form.{Atom, start, iter, inner, inv, version, read, opaque, start2, iter2, Form, form, no_terms}
use Rattle.index_forms.specs.Formed.{Viewed, FormedAll, atom_form, opaque_node, node, if_narrow, linear, negative, element_node, formed, formed_all}
use Rattle.index_forms.specs.Formed.{Known}
use Rattle.index_forms.specs.Walk.{Setting, viewed}
use Rattle.index_law.specs.Worth.{HoldsKnown, AreIndices}
use Rattle.index_law.specs.Valuations.{HasReads, HoldsFixed, HasIndexSubscripts, NodeAgrees, NodesAgree}
use Rattle.index_law.proofs.Elements.{element_values}
use Rattle.apart_law.specs.Bindings.{Agrees, node_value, leaf_binding, leaf_bindings, group_bindings}
use Rattle.apart_law.specs.Spots.{AllAgree}
use Rattle.apart_law.proofs.Bound.{agrees_left, agrees_right}

-- ---- subscripts are of the index kind

pub indices : (vs : List Value) → AreIndexValues vs → AreIndices vs
indices [] h = tt
indices (Index z ∷ vs) h = indices vs h.1
indices (Ring d ∷ vs) h = h.0

-- whatever is a subexpression of what is defined
abbrev LeavesDefined : Site → Cells → List (Atom × Expression) → Type 0
LeavesDefined site cells [] = Unit {0}
LeavesDefined site cells (l ∷ ls) = IsDefined site cells l.1 × LeavesDefined site cells ls

defined_both : (site : Site) (cells : Cells) (ls ms : List (Atom × Expression)) → LeavesDefined site cells ls → LeavesDefined site cells ms → LeavesDefined site cells (ls ++ ms)
defined_both site cells [] ms h g = g
defined_both site cells (l ∷ ls) ms h g = (h.0, defined_both site cells ls ms h.1 g)

module _ (site : Site) (cells : Cells) (c : Viewed) where
  opaque_defined : (n : ℕ) (e : Expression) (ls : List (Atom × Expression)) → IsDefined site cells e → LeavesDefined site cells ls → LeavesDefined site cells (opaque_node c n e ls).leaves
  opaque_defined n e ls d h = defined_both site cells ls ((opaque c.side c.access (suc n), e) ∷ []) h (d, tt)

  node_defined : (n : ℕ) (e : Expression) (ls : List (Atom × Expression)) (o : Option Form) → IsDefined site cells e → LeavesDefined site cells ls → LeavesDefined site cells (node c n e ls o).leaves
  node_defined n e ls None d h = opaque_defined n e ls d h
  node_defined n e ls (Some f) d h = h

  element_defined : (n : ℕ) (x : List ℕ) (ss : Expressions) (r : FormedAll) → IsDefined site cells (get x ss) → LeavesDefined site cells r.leaves → LeavesDefined site cells (element_node c n x ss r).leaves
  element_defined n x ss r d h = by_test (c.fixed x)
    where
      by_test : (b : Bool) → LeavesDefined site cells (if b then record { form = atom_form (read x r.forms); next = r.next; leaves = r.leaves ++ (read x r.forms, get x ss) ∷ [] } else opaque_node c n (get x ss) []).leaves
      by_test true = defined_both site cells r.leaves ((read x r.forms, get x ss) ∷ []) h (d, tt)
      by_test false = opaque_defined n (get x ss) [] d tt

  mutual
    leaf_defined : (n : ℕ) (e : Expression) → IsDefined site cells e → LeavesDefined site cells (formed c n e).leaves
    leaf_defined n (literal k i) d = node_defined n (literal k i) [] (if_narrow (Some (form (pos k) no_terms))) d tt
    leaf_defined n (get x no_expressions) d = node_defined n (get x no_expressions) [] (if_narrow (c.known x)) d tt
    leaf_defined n (get x (expression e es)) d = element_defined n x (expression e es) (formed_all c n (expression e es)) d (leaves_defined n (expression e es) d.0)
    leaf_defined n (minus a) d = let f = formed c n a in node_defined f.next (minus a) f.leaves (if_narrow (Some (negative f.form))) d (leaf_defined n a d)
    leaf_defined n (binary op a b) d =
        let f = formed c n a in
        let g = formed c f.next b in
        node_defined g.next (binary op a b) (f.leaves ++ g.leaves) (if_narrow (linear op f.form g.form)) d
        (defined_both site cells f.leaves g.leaves (leaf_defined n a d.0) (leaf_defined f.next b d.1))
    leaf_defined n (power a k) d = opaque_defined n (power a k) [] d tt
    leaf_defined n (call f es) d = opaque_defined n (call f es) [] d tt

    leaves_defined : (n : ℕ) (es : Expressions) → AreDefined site cells es → LeavesDefined site cells (formed_all c n es).leaves
    leaves_defined n no_expressions d = tt
    leaves_defined n (expression e es) d =
        let f = formed c n e in
        let r = formed_all c f.next es in
        defined_both site cells f.leaves r.leaves (leaf_defined n e d.0) (leaves_defined f.next es d.1)

-- ---- a valuation with the bindings of leaves has their nodes' values

has_subscripts : (e : Expression) (site : Site) (cells : Cells) → IsDefined site cells e → HasIndexSubscripts e site cells
has_subscripts (get x ss) site cells d = λ vs r. indices vs (d.1 vs r).indices
has_subscripts (literal n k) site cells d = tt
has_subscripts (minus a) site cells d = tt
has_subscripts (binary op a b) site cells d = tt
has_subscripts (power a n) site cells d = tt
has_subscripts (call f es) site cells d = tt

one_agrees : (v : Atom → ℤ) (a : Atom) (e : Expression) (site : Site) (cells : Cells) → IsDefined site cells e → Agrees v (leaf_binding a (node_value (value_of e site cells).out)) → NodeAgrees v a e site cells
one_agrees v start e site cells d h = tt
one_agrees v (iter s) e site cells d h = tt
one_agrees v (inner s l) e site cells d h = tt
one_agrees v (inv x) e site cells d h = tt
one_agrees v (version s n x) e site cells d h = tt
one_agrees v (read x fs) e site cells d h = has_subscripts e site cells d
one_agrees v (opaque s a n) e site cells d h = λ z r. h.0 ∙ ap node_value r
one_agrees v start2 e site cells d h = tt
one_agrees v (iter2 s) e site cells d h = tt

nodes_agree : (v : Atom → ℤ) (site : Site) (cells : Cells) (ls : List (Atom × Expression)) → LeavesDefined site cells ls → Agrees v (leaf_bindings site cells ls) → NodesAgree v site cells ls
nodes_agree v site cells [] d h = tt
nodes_agree v site cells (l ∷ ls) d h =
    let here = leaf_binding l.0 (node_value (value_of l.1 site cells).out) in
    let there = leaf_bindings site cells ls in
    (one_agrees v l.0 l.1 site cells d.0 (agrees_left v here there h), nodes_agree v site cells ls d.1 (agrees_right v here there h))

-- ---- accesses that are evaluated together

abbrev pub AllDefined : Site → Cells → List Occurrence → Type 0
AllDefined site cells [] = Unit {0}
AllDefined site cells (o ∷ os) = IsDefined site cells (get o.place.name o.place.subscripts) × AllDefined site cells os

pub group_agrees : (v : Atom → ℤ) (c : Setting) (k : Known) (a : ℕ) (site : Site) (before cells : Cells) (os : List Occurrence) → AllDefined site cells os → HoldsKnown v k site cells → HasReads v site before → HoldsFixed c.fixed before site cells →
    Agrees v (group_bindings c k a site cells os) → AllAgree v c k a site cells os
group_agrees v c k a site before cells [] d h rd fx g = tt
group_agrees v c k a site before cells (o ∷ os) d h rd fx g =
    let w = viewed c k (suc a) in
    let ls = (formed_all w 0 o.place.subscripts).leaves in
    let here = leaf_bindings site cells ls in
    let there = group_bindings c k (suc a) site cells os in (
      (
        element_values v w 0 o.place.subscripts site before cells h rd fx (nodes_agree v site cells ls (leaves_defined site cells w 0 o.place.subscripts d.0.0) (agrees_left v here there g)),
        λ vs r. indices vs (d.0.1 vs r).indices,
      ),
      group_agrees v c k (suc a) site before cells os d.1 h rd fx (agrees_right v here there g),
    )
