-- The edges of lists, element by element.
use Rattle.std.proofs.Common.{drop_of_length-le, drop, length, ◌≤◌, rules, ◌≡◌, ℕ, List, [], ◌∷◌, ◌++◌, refl, ap, sym, ◌∙◌, append_assoc}
use Rattle.std.proofs.lemmas.List.{append-nil}
use Rattle.std.proofs.lemmas.List.Elements.{filter_map-append}
use Rattle.fl_ast.specs.declared.kind.BinOp.{BinOp}
use Rattle.fl_ast.specs.declared.decl.Decl.{Decl}
use Rattle.fl_ast.specs.declared.expr.Expr.{Expr, the_lemmas as expr_lemmas}
use Rattle.fl_ast.specs.declared.expr.Expr.TheVariants.{Bin}
use Rattle.fl_ast.specs.declared.stmt.Stmt.{Stmt, the_lemmas as stmt_lemmas}
use Rattle.fl_ast.specs.declared.stmt.Stmt.TheVariants.{If}
use Rattle.fl_ast.specs.declared.stmt.Arm.{Arm}
use Rattle.fl_ast.specs.Tree.{binary, expr_tree, expr_trees, branch, stmt_tree, stmt_trees, arm_tree, arm_trees}
use Rattle.fl_types.specs.Sharing.{is_ring_name}
use Rattle.reachability.specs.declared.closing.Link.{Link}
use Rattle.reachability.specs.Reached.{Edge}
use Rattle.reachability.specs.Named.{link_in, links_of}
use Rattle.activity.specs.Active.{flows_to, all_flow_to, flows, flows_in, flows_in_arms}

links_joined : (decls : List Decl) (a b : List (Edge (List ℕ))) → links_of decls (a ++ b) ≡ links_of decls a ++ links_of decls b
links_joined decls a b = filter_map-append (link_in decls) a b

pub joined : (decls : List Decl) (a b : List (Edge (List ℕ))) (old mid new : List Link) → mid ≡ old ++ links_of decls a → new ≡ mid ++ links_of decls b → new ≡ old ++ links_of decls (a ++ b)
joined decls a b old mid new m n = n ∙ (rw (m, links_joined decls a b) (append_assoc old (links_of decls a) (links_of decls b)))

-- ---- of expressions

pub tree_of : (e : Expr) (o : BinOp) (l r x y : Expr) → e ≡ Bin o l r → x ≡ l → y ≡ r → expr_tree e ≡ binary o (expr_tree x) (expr_tree y)
tree_of e o l r x y h f g = ap expr_tree h ∙ (rw (f, g) (search (rules, expr_lemmas)))

abbrev pub expression_links : List Decl → List ℕ → List Expr → List Link
expression_links decls t [] = []
expression_links decls t (e ∷ es) = links_of decls (flows_to (is_ring_name decls) t (expr_tree e)) ++ expression_links decls t es

pub expressions_are : (decls : List Decl) (t : List ℕ) (es : List Expr) → expression_links decls t es ≡ links_of decls (all_flow_to (is_ring_name decls) t (expr_trees es))
expressions_are decls t [] = refl
expressions_are decls t (e ∷ es) =
    ap (λ r. links_of decls (flows_to (is_ring_name decls) t (expr_tree e)) ++ r) (expressions_are decls t es)
    ∙ sym (links_joined decls (flows_to (is_ring_name decls) t (expr_tree e)) (all_flow_to (is_ring_name decls) t (expr_trees es)))

-- ---- of statements

abbrev pub statement_links : List Decl → List Stmt → List Link
statement_links decls [] = []
statement_links decls (s ∷ ss) = links_of decls (flows (is_ring_name decls) (stmt_tree s)) ++ statement_links decls ss

pub statements_are : (decls : List Decl) (ss : List Stmt) → statement_links decls ss ≡ links_of decls (flows_in (is_ring_name decls) (stmt_trees ss))
statements_are decls [] = refl
statements_are decls (s ∷ ss) =
    ap (λ r. links_of decls (flows (is_ring_name decls) (stmt_tree s)) ++ r) (statements_are decls ss)
    ∙ sym (links_joined decls (flows (is_ring_name decls) (stmt_tree s)) (flows_in (is_ring_name decls) (stmt_trees ss)))

abbrev pub arm_links : List Decl → List Arm → List Link
arm_links decls [] = []
arm_links decls (a ∷ as') = links_of decls (flows_in (is_ring_name decls) (arm_tree a).1) ++ arm_links decls as'

pub arms_are : (decls : List Decl) (as' : List Arm) → arm_links decls as' ≡ links_of decls (flows_in_arms (is_ring_name decls) (arm_trees as'))
arms_are decls [] = refl
arms_are decls (a ∷ as') =
    ap (λ r. links_of decls (flows_in (is_ring_name decls) (arm_tree a).1) ++ r) (arms_are decls as')
    ∙ sym (links_joined decls (flows_in (is_ring_name decls) (arm_tree a).1) (flows_in_arms (is_ring_name decls) (arm_trees as')))

pub branch_of : (s : Stmt) (line : ℕ) (arms xs : List Arm) (other ys : List Stmt) → s ≡ If line arms other → xs ≡ arms → ys ≡ other → stmt_tree s ≡ branch line (arm_trees xs) (stmt_trees ys)
branch_of s line arms xs other ys h f g = ap stmt_tree h ∙ (rw (f, g) (search (rules, stmt_lemmas)))

-- a loop over all elements
pub finished : {X : Type 0} (f : List X → List Link) → f [] ≡ [] → (xs : List X) (i : ℕ) (links old : List Link)
    → links ++ f (drop i xs) ≡ old ++ f xs → length xs ≤ i → links ≡ old ++ f xs
finished f z xs i links old e h =
    sym (append-nil links) ∙ (ap (λ r. links ++ r) (sym (ap f (drop_of_length-le xs h) ∙ z)) ∙ e)
