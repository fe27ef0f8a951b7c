-- The form of a node, from those of its parts.
use Rattle.std.proofs.Common.{◌≡◌, ℕ, suc, ◌<◌, ◌≤◌, true, false, pos, List, [], ◌∷◌, ◌++◌, map, drop, length, get_or, Option, Some, None, refl, sym, ap, ◌∙◌, subst, arith}
use Rattle.std.proofs.Math.Seq.{drop-cons}
use Rattle.std.proofs.lemmas.List.{drop_all}
use Rattle.fl_ast.specs.declared.kind.Kind.{Kind}
use Rattle.fl_ast.specs.declared.kind.BinOp.{BinOp}
use Rattle.fl_ast.specs.declared.expr.Expr as program_expr
use Rattle.fl_ast.specs.Tree.{Expression, literal, get, minus, binary, Expressions, no_expressions, expr_tree, expr_trees}
use Rattle.index_forms.specs.declared.difference.Extent.TheVariants.{Narrow}
use Rattle.index_forms.specs.declared.form.Form as program_form
use Rattle.index_forms.specs.declared.nodes.FormedNode.{FormedNode}
use Rattle.index_forms.specs.Form.{Atom, read, opaque, Form, form, no_terms, Forms, no_forms, and_form}
use Rattle.index_forms.specs.Seen.{form_tree, forms_of}
use Rattle.index_forms.specs.Sums.{if_fitting}
use Rattle.index_forms.specs.Formed.{Viewed, node, if_narrow, linear, negative, atom_form, element_at, formed, formed_all}
use Rattle.index_forms.specs.Finding.{IsFormed, node_by}

-- leaves aside
pub same_node : (c : Viewed) (n : ℕ) (e : Expression) (ls : List (Atom × Expression)) (o : Option Form) (r : FormedNode) → IsFormed (node_by c.side c.access n o) r → IsFormed (node c n e ls o) r
same_node c n e ls None r h = h
same_node c n e ls (Some f) r h = h

pub literal_formed : (c : Viewed) (n k : ℕ) (kind : Kind) (o : Option Form) (r : FormedNode) → o ≡ if_narrow (Some (form (pos k) no_terms)) → IsFormed (node_by c.side c.access n o) r → IsFormed (formed c n (literal k kind)) r
literal_formed c n k kind o r e h = same_node c n (literal k kind) [] (if_narrow (Some (form (pos k) no_terms))) r (subst (λ (p : Option Form). IsFormed (node_by c.side c.access n p) r) e h)

pub scalar_formed : (c : Viewed) (n : ℕ) (x : List ℕ) (o : Option Form) (r : FormedNode) → o ≡ if_narrow (c.known x) → IsFormed (node_by c.side c.access n o) r → IsFormed (formed c n (get x no_expressions)) r
scalar_formed c n x o r e h = same_node c n (get x no_expressions) [] (if_narrow (c.known x)) r (subst (λ (p : Option Form). IsFormed (node_by c.side c.access n p) r) e h)

pub negative_formed : (c : Viewed) (n : ℕ) (a : Expression) (o : Option Form) (m : ℕ) (f : Form) (r : FormedNode) → f ≡ (formed c n a).form → m ≡ (formed c n a).next → o ≡ if_fitting Narrow (negative f) →
    IsFormed (node_by c.side c.access m o) r → IsFormed (formed c n (minus a)) r
negative_formed c n a o m f r e d g h =
    same_node c (formed c n a).next (minus a) (formed c n a).leaves (if_narrow (Some (negative (formed c n a).form))) r
    (subst (λ (p : Option Form). IsFormed (node_by c.side c.access (formed c n a).next p) r) (g ∙ ap (λ (t : Form). if_fitting Narrow (negative t)) e)
    (subst (λ (k : ℕ). IsFormed (node_by c.side c.access k o) r) d h))

pub binary_formed : (c : Viewed) (n : ℕ) (op : BinOp) (a b : Expression) (o : Option Form) (k m : ℕ) (f g : Form) (r : FormedNode) →
    f ≡ (formed c n a).form → k ≡ (formed c n a).next → g ≡ (formed c k b).form → m ≡ (formed c k b).next → o ≡ if_narrow (linear op f g) →
    IsFormed (node_by c.side c.access m o) r → IsFormed (formed c n (binary op a b)) r
binary_formed c n op a b o k m f g r e d i j q h =
    let u = formed c n a in
    let gi : g ≡ (formed c u.next b).form = i ∙ ap (λ (l : ℕ). (formed c l b).form) d in
    let mj : m ≡ (formed c u.next b).next = j ∙ ap (λ (l : ℕ). (formed c l b).next) d in
    let p : o ≡ if_narrow (linear op u.form (formed c u.next b).form) = q ∙ ap (λ (t : Form). if_narrow (linear op t g)) e ∙ ap (λ (t : Form). if_narrow (linear op u.form t)) gi in
    same_node c (formed c u.next b).next (binary op a b) (u.leaves ++ (formed c u.next b).leaves) (if_narrow (linear op u.form (formed c u.next b).form)) r
    (subst (λ (z : Option Form). IsFormed (node_by c.side c.access (formed c u.next b).next z) r) p (subst (λ (l : ℕ). IsFormed (node_by c.side c.access l o) r) mj h))

-- ---- elements

pub element_formed : (c : Viewed) (n : ℕ) (x : List ℕ) (ss : Expressions) (fs : List program_form.Form) (m : ℕ) (r : FormedNode) → c.fixed x ≡ true →
    forms_of (map form_tree fs) ≡ (formed_all c n ss).forms → m ≡ (formed_all c n ss).next →
    form_tree r.form ≡ atom_form (read x (forms_of (map form_tree fs))) → r.next ≡ m → IsFormed (element_at c n x ss) r
element_formed c n x ss fs m r t h g e d = rw t (e ∙ ap (λ (gs : Forms). atom_form (read x gs)) h, d ∙ g)

-- an element of another array
pub loose_formed : (c : Viewed) (n : ℕ) (x : List ℕ) (ss : Expressions) (r : FormedNode) → c.fixed x ≡ false → form_tree r.form ≡ atom_form (opaque c.side c.access (suc n)) → r.next ≡ suc n → IsFormed (element_at c n x ss) r
loose_formed c n x ss r t e d = rw t (e, d)

pub element_is : (c : Viewed) (n : ℕ) (x : List ℕ) (es : List program_expr.Expr) → 0 < length es → element_at c n x (expr_trees es) ≡ formed c n (get x (expr_trees es))
element_is c n x [] h = absurd (omega arith)
element_is c n x (e ∷ es) h = refl

-- ---- lists of subscripts

abbrev pub before_forms : List program_form.Form → Forms → Forms
before_forms [] gs = gs
before_forms (f ∷ fs) gs = and_form (form_tree f) (before_forms fs gs)

-- the forms so far, and those of the rest, are all
pub record IsFront (c : Viewed) (n : ℕ) (es : List program_expr.Expr) (fs : List program_form.Form) (m i : ℕ) : Type 0 where
  pub within : i ≤ length es
  pub forms : before_forms fs (formed_all c m (expr_trees (drop i es))).forms ≡ (formed_all c n (expr_trees es)).forms
  pub next : (formed_all c m (expr_trees (drop i es))).next ≡ (formed_all c n (expr_trees es)).next

before_more : (fs : List program_form.Form) (f : program_form.Form) (gs : Forms) → before_forms (fs ++ f ∷ []) gs ≡ before_forms fs (and_form (form_tree f) gs)
before_more [] f gs = refl
before_more (g ∷ fs) f gs = ap (and_form (form_tree g)) (before_more fs f gs)

before_none : (fs : List program_form.Form) → before_forms fs no_forms ≡ forms_of (map form_tree fs)
before_none [] = refl
before_none (f ∷ fs) = ap (and_form (form_tree f)) (before_none fs)

pub front_begun : (c : Viewed) (n : ℕ) (es : List program_expr.Expr) → IsFront c n es [] n 0
front_begun c n es = record { within = omega arith; forms = refl; next = refl }

split_at : (es : List program_expr.Expr) (i : ℕ) (e : program_expr.Expr) → i < length es → get_or es i e ≡ e → drop i es ≡ e ∷ drop (suc i) es
split_at es i e h g = drop-cons es i e h ∙ ap (λ (z : program_expr.Expr). z ∷ drop (suc i) es) g

pub front_more : (c : Viewed) (n : ℕ) (es : List program_expr.Expr) (fs gs : List program_form.Form) (m k i : ℕ) (e : program_expr.Expr) (f : program_form.Form) → i < length es → get_or es i e ≡ e →
    form_tree f ≡ (formed c m (expr_tree e)).form → k ≡ (formed c m (expr_tree e)).next → gs ≡ fs ++ f ∷ [] → IsFront c n es fs m i → IsFront c n es gs k (suc i)
front_more c n es fs gs m k i e f h g p q r s =
    let d : drop i es ≡ e ∷ drop (suc i) es = split_at es i e h g in
    let u = formed c m (expr_tree e) in
    let rest = expr_trees (drop (suc i) es) in
    let whole : before_forms fs (formed_all c m (expr_trees (e ∷ drop (suc i) es))).forms ≡ (formed_all c n (expr_trees es)).forms = subst (λ (l : List program_expr.Expr). before_forms fs (formed_all c m (expr_trees l)).forms ≡ (formed_all c n (expr_trees es)).forms) d s.forms in
    let last : (formed_all c m (expr_trees (e ∷ drop (suc i) es))).next ≡ (formed_all c n (expr_trees es)).next = subst (λ (l : List program_expr.Expr). (formed_all c m (expr_trees l)).next ≡ (formed_all c n (expr_trees es)).next) d s.next in
    record {
      within = omega arith;
      forms = ap (λ (l : List program_form.Form). before_forms l (formed_all c k rest).forms) r ∙ before_more fs f (formed_all c k rest).forms
          ∙ ap (λ (t : Form). before_forms fs (and_form t (formed_all c k rest).forms)) p ∙ ap (λ (j : ℕ). before_forms fs (and_form u.form (formed_all c j rest).forms)) q ∙ whole;
      next = ap (λ (j : ℕ). (formed_all c j rest).next) q ∙ last;
    }

pub front_done : (c : Viewed) (n : ℕ) (es : List program_expr.Expr) (fs : List program_form.Form) (m i : ℕ) → length es ≤ i → IsFront c n es fs m i →
    (forms_of (map form_tree fs) ≡ (formed_all c n (expr_trees es)).forms) × (m ≡ (formed_all c n (expr_trees es)).next)
front_done c n es fs m i h s =
    let d : drop i es ≡ [] = drop_all i es h in (
      sym (before_none fs) ∙ subst (λ (l : List program_expr.Expr). before_forms fs (formed_all c m (expr_trees l)).forms ≡ (formed_all c n (expr_trees es)).forms) d s.forms,
      subst (λ (l : List program_expr.Expr). (formed_all c m (expr_trees l)).next ≡ (formed_all c n (expr_trees es)).next) d s.next,
    )
