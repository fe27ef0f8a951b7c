-- Read atoms have the values of their nodes.
use Rattle.std.proofs.Common.{◌≡◌, ℕ, suc, Bool, true, false, ℤ, pos, List, [], ◌∷◌, ◌++◌, refl, ap, sym, ◌∙◌, Option, Some, None}
use Rattle.std.specs.Prelude.{if◌then◌else◌}
use Rattle.fl_ast.specs.Tree.{Expression, literal, get, minus, binary, power, call, Expressions, no_expressions, expression}
use Rattle.meaning.specs.declared.value.Value.TheVariants.{Index}
use Rattle.meaning.specs.Values.{whole_numbers}
use Rattle.meaning.specs.Sites.{Cells, Site, place_of}
use Rattle.meaning.specs.Expressions.{values_of}
use Rattle.meaning.specs.Expressions.{read as read_cells}
use Rattle.meaning.specs.Statements.{content_at}
use Rattle.meaning.specs.Frame.{content_by_name}
use Rattle.meaning.proofs.Parts.{bound, read_at}
use Rattle.index_forms.specs.Form.{Atom, read, opaque, Form, form, no_terms}
use Rattle.index_forms.specs.Sums.{values}
use Rattle.index_forms.specs.Formed.{Viewed, atom_form, FormedAll, opaque_node, node, if_narrow, keep, linear, negative, element_node, formed, formed_all}
use Rattle.index_law.specs.Worth.{HoldsKnown, AgreesOn}
use Rattle.index_law.specs.Valuations.{HasReads, HoldsFixed, NodesAgree}
use Rattle.index_law.proofs.Nodes.{sound_all}

nodes_left : (v : Atom → ℤ) (site : Site) (s : Cells) (ls ms : List (Atom × Expression)) → NodesAgree v site s (ls ++ ms) → NodesAgree v site s ls
nodes_left v site s [] ms h = tt
nodes_left v site s (l ∷ ls) ms h = (h.0, nodes_left v site s ls ms h.1)

nodes_right : (v : Atom → ℤ) (site : Site) (s : Cells) (ls ms : List (Atom × Expression)) → NodesAgree v site s (ls ++ ms) → NodesAgree v site s ms
nodes_right v site s [] ms h = h
nodes_right v site s (l ∷ ls) ms h = nodes_right v site s ls ms h.1

agrees_both : (v : Atom → ℤ) (site : Site) (s : Cells) (ls ms : List (Atom × Expression)) → AgreesOn v site s ls → AgreesOn v site s ms → AgreesOn v site s (ls ++ ms)
agrees_both v site s [] ms h g = g
agrees_both v site s (l ∷ ls) ms h g = (h.0, agrees_both v site s ls ms h.1 g)

opaque_agrees : (v : Atom → ℤ) (c : Viewed) (n : ℕ) (e : Expression) (ls : List (Atom × Expression)) (site : Site) (s : Cells) → (NodesAgree v site s ls → AgreesOn v site s ls) → NodesAgree v site s (opaque_node c n e ls).leaves → AgreesOn v site s (opaque_node c n e ls).leaves
opaque_agrees v c n e ls site s f g =
    agrees_both v site s ls ((opaque c.side c.access (suc n), e) ∷ []) (f (nodes_left v site s ls _ g)) ((nodes_right v site s ls ((opaque c.side c.access (suc n), e) ∷ []) g).0, tt)

node_agrees : (v : Atom → ℤ) (c : Viewed) (n : ℕ) (e : Expression) (ls : List (Atom × Expression)) (o : Option Form) (site : Site) (s : Cells) → (NodesAgree v site s ls → AgreesOn v site s ls) → NodesAgree v site s (node c n e ls o).leaves → AgreesOn v site s (node c n e ls o).leaves
node_agrees v c n e ls None site s f g = opaque_agrees v c n e ls site s f g
node_agrees v c n e ls (Some x) site s f g = f g

keep_agrees : (v : Atom → ℤ) (c : Viewed) (n : ℕ) (e : Expression) (ls : List (Atom × Expression)) (o : Option Form) (site : Site) (s : Cells) → (NodesAgree v site s ls → AgreesOn v site s ls) → NodesAgree v site s (keep c n e ls o).leaves → AgreesOn v site s (keep c n e ls o).leaves
keep_agrees v c n e ls o site s f g = node_agrees v c n e ls (if_narrow o) site s f g

element_agrees : (v : Atom → ℤ) (c : Viewed) (n : ℕ) (x : List ℕ) (ss : Expressions) (site : Site) (before s : Cells) → HoldsKnown v c.known site s → HasReads v site before → HoldsFixed c.fixed before site s →
    (NodesAgree v site s (formed_all c n ss).leaves → AgreesOn v site s (formed_all c n ss).leaves) → NodesAgree v site s (element_node c n x ss (formed_all c n ss)).leaves → AgreesOn v site s (element_node c n x ss (formed_all c n ss)).leaves
element_agrees v c n x ss site before s h rd fx f g = by_test (c.fixed x) refl g
  where
    r : FormedAll
    r = formed_all c n ss

    leaf : List (Atom × Expression)
    leaf = (read x r.forms, get x ss) ∷ []

    by_test : (b : Bool) → c.fixed x ≡ b → NodesAgree v site s (if b then record { form = atom_form (read x r.forms); next = r.next; leaves = r.leaves ++ leaf } else opaque_node c n (get x ss) []).leaves →
        AgreesOn v site s (if b then record { form = atom_form (read x r.forms); next = r.next; leaves = r.leaves ++ leaf } else opaque_node c n (get x ss) []).leaves
    by_test true e y =
        let a = f (nodes_left v site s r.leaves leaf y) in
        agrees_both v site s r.leaves leaf a (
          λ z o.
              let p = bound (values_of ss site s) (read_cells site s x) (Index z) o in
              let w : values v r.forms ≡ whole_numbers p.value = sound_all v c n ss site s h a p.value p.first ((nodes_right v site s r.leaves leaf y).0 p.value p.first) in
              let q = read_at site s x (place_of site x (whole_numbers p.value)) (Index z) p.second in
              let there : content_by_name site s x (whole_numbers p.value) ≡ Some (Index z) = ap (content_at s) q.found ∙ q.content in
              rd x r.forms z (ap (content_by_name site before x) w ∙ (sym (fx x e (whole_numbers p.value)) ∙ there)),
          tt,
        )
    by_test false e y = opaque_agrees v c n (get x ss) [] site s (λ z. z) y

mutual
  element_value : (v : Atom → ℤ) (c : Viewed) (n : ℕ) (e : Expression) (site : Site) (before s : Cells) → HoldsKnown v c.known site s → HasReads v site before → HoldsFixed c.fixed before site s → NodesAgree v site s (formed c n e).leaves → AgreesOn v site s (formed c n e).leaves
  element_value v c n (literal k i) site before s h rd fx g = keep_agrees v c n (literal k i) [] (Some (form (pos k) no_terms)) site s (λ y. y) g
  element_value v c n (get x no_expressions) site before s h rd fx g = keep_agrees v c n (get x no_expressions) [] (c.known x) site s (λ y. y) g
  element_value v c n (get x (expression e es)) site before s h rd fx g = element_agrees v c n x (expression e es) site before s h rd fx (element_values v c n (expression e es) site before s h rd fx) g
  element_value v c n (minus a) site before s h rd fx g = let r = formed c n a in keep_agrees v c r.next (minus a) r.leaves (Some (negative r.form)) site s (element_value v c n a site before s h rd fx) g
  element_value v c n (binary op a b) site before s h rd fx g =
      let r = formed c n a in
      let t = formed c r.next b in
      keep_agrees v c t.next (binary op a b) (r.leaves ++ t.leaves) (linear op r.form t.form) site s
      (λ y. agrees_both v site s r.leaves t.leaves (element_value v c n a site before s h rd fx (nodes_left v site s r.leaves t.leaves y)) (element_value v c r.next b site before s h rd fx (nodes_right v site s r.leaves t.leaves y))) g
  element_value v c n (power a k) site before s h rd fx g = opaque_agrees v c n (power a k) [] site s (λ y. y) g
  element_value v c n (call k es) site before s h rd fx g = opaque_agrees v c n (call k es) [] site s (λ y. y) g

  pub element_values : (v : Atom → ℤ) (c : Viewed) (n : ℕ) (es : Expressions) (site : Site) (before s : Cells) → HoldsKnown v c.known site s → HasReads v site before → HoldsFixed c.fixed before site s → NodesAgree v site s (formed_all c n es).leaves → AgreesOn v site s (formed_all c n es).leaves
  element_values v c n no_expressions site before s h rd fx g = tt
  element_values v c n (expression e es) site before s h rd fx g =
      let r = formed c n e in
      let t = formed_all c r.next es in
      agrees_both v site s r.leaves t.leaves (element_value v c n e site before s h rd fx (nodes_left v site s r.leaves t.leaves g)) (element_values v c r.next es site before s h rd fx (nodes_right v site s r.leaves t.leaves g))
