-- Lists of trees, element by element.
use Rattle.std.proofs.Common.{drop_of_length-le, drop, length, ◌≤◌, rules, ◌≡◌, ℕ, Bool, List, [], ◌∷◌, ◌++◌, refl, ap, sym, ◌∙◌}
use Rattle.std.proofs.lemmas.List.{append-nil}
use Rattle.fl_ast.specs.declared.kind.BinOp.{BinOp}
use Rattle.fl_ast.specs.declared.decl.Decl.{Decl}
use Rattle.fl_ast.specs.declared.expr.Expr.{Expr, the_lemmas as expr_lemmas}
use Rattle.fl_ast.specs.declared.expr.Expr.TheVariants.{Bin}
use Rattle.fl_ast.specs.declared.stmt.Stmt.{Stmt, the_lemmas as stmt_lemmas}
use Rattle.fl_ast.specs.declared.stmt.Stmt.TheVariants.{If}
use Rattle.fl_ast.specs.declared.stmt.Arm.{Arm}
use Rattle.fl_ast.specs.Tree.{binary, expr_tree, expr_trees, branch, stmt_tree, stmt_trees, arm_tree, arm_trees}
use Rattle.reachability.specs.declared.closing.Link.{Link}
use Rattle.reachability.specs.Named.{indexes_of, links_of}
use Rattle.adjoint_rules.specs.Needed.{names_in, names_in_all, Kinds, read_by, read_by_all, read_by_arms, restorings, restorings_in, restorings_in_arms}
use Rattle.needed_names.specs.Reads.{reads, all_read}
use Rattle.needed_names.proofs.Joined.{indexes_joined, links_joined, grown_twice}

-- a loop over all elements
pub finished : {X Y : Type 0} (f : List X → List Y) → f [] ≡ [] → (xs : List X) (i : ℕ) (all old : List Y)
    → all ++ f (drop i xs) ≡ old ++ f xs → length xs ≤ i → all ≡ old ++ f xs
finished f z xs i all old e h = sym (append-nil all) ∙ (ap (λ r. all ++ r) (sym (ap f (drop_of_length-le xs h) ∙ z)) ∙ e)

pub tree_of : (e : Expr) (o : BinOp) (l r x y : Expr) → e ≡ Bin o l r → x ≡ l → y ≡ r → expr_tree e ≡ binary o (expr_tree x) (expr_tree y)
tree_of e o l r x y h f g = ap expr_tree h ∙ (rw (f, g) (search (rules, expr_lemmas)))

pub branch_of : (s : Stmt) (line : ℕ) (arms xs : List Arm) (other ys : List Stmt) → s ≡ If line arms other → xs ≡ arms → ys ≡ other → stmt_tree s ≡ branch line (arm_trees xs) (stmt_trees ys)
branch_of s line arms xs other ys h f g = ap stmt_tree h ∙ (rw (f, g) (search (rules, stmt_lemmas)))

-- lists that grow by the positions of names, or by links, twice
pub names_twice : (decls : List Decl) (a b : List (List ℕ)) (old mid new : List ℕ) → mid ≡ old ++ indexes_of decls a → new ≡ mid ++ indexes_of decls b → new ≡ old ++ indexes_of decls (a ++ b)
names_twice decls a b old mid new m n = grown_twice old mid new _ _ m n ∙ ap (λ r. old ++ r) (sym (indexes_joined decls a b))

-- ---- of expressions

abbrev pub name_parts : List Decl → List Expr → List ℕ
name_parts decls [] = []
name_parts decls (e ∷ es) = indexes_of decls (names_in (expr_tree e)) ++ name_parts decls es

pub names_are : (decls : List Decl) (es : List Expr) → name_parts decls es ≡ indexes_of decls (names_in_all (expr_trees es))
names_are decls [] = refl
names_are decls (e ∷ es) = ap (λ r. indexes_of decls (names_in (expr_tree e)) ++ r) (names_are decls es) ∙ sym (indexes_joined decls (names_in (expr_tree e)) (names_in_all (expr_trees es)))

abbrev pub read_parts : List Decl → (List ℕ → Bool) → List ℕ → List Expr → List ℕ
read_parts decls on at [] = []
read_parts decls on at (e ∷ es) = reads decls on (expr_tree e) at ++ read_parts decls on at es

pub all_read_are : (decls : List Decl) (on : List ℕ → Bool) (at : List ℕ) (es : List Expr) → read_parts decls on at es ≡ all_read decls on (expr_trees es) at
all_read_are decls on at [] = refl
all_read_are decls on at (e ∷ es) = ap (λ r. reads decls on (expr_tree e) at ++ r) (all_read_are decls on at es)

-- ---- of statements

abbrev pub root_parts : List Decl → Kinds → List Stmt → List ℕ
root_parts decls k [] = []
root_parts decls k (s ∷ ss) = indexes_of decls (read_by k (stmt_tree s)) ++ root_parts decls k ss

pub roots_are : (decls : List Decl) (k : Kinds) (ss : List Stmt) → root_parts decls k ss ≡ indexes_of decls (read_by_all k (stmt_trees ss))
roots_are decls k [] = refl
roots_are decls k (s ∷ ss) =
    ap (λ r. indexes_of decls (read_by k (stmt_tree s)) ++ r) (roots_are decls k ss) ∙ sym (indexes_joined decls (read_by k (stmt_tree s)) (read_by_all k (stmt_trees ss)))

abbrev pub arm_root_parts : List Decl → Kinds → List Arm → List ℕ
arm_root_parts decls k [] = []
arm_root_parts decls k (a ∷ rest) = indexes_of decls (read_by_all k (arm_tree a).1) ++ arm_root_parts decls k rest

pub arm_roots_are : (decls : List Decl) (k : Kinds) (arms : List Arm) → arm_root_parts decls k arms ≡ indexes_of decls (read_by_arms k (arm_trees arms))
arm_roots_are decls k [] = refl
arm_roots_are decls k (a ∷ rest) =
    ap (λ r. indexes_of decls (read_by_all k (arm_tree a).1) ++ r) (arm_roots_are decls k rest) ∙ sym (indexes_joined decls (read_by_all k (arm_tree a).1) (read_by_arms k (arm_trees rest)))

pub roots_twice : (decls : List Decl) (k : Kinds) (s : Stmt) (line : ℕ) (arms xs : List Arm) (other ys : List Stmt) (old mid new : List ℕ) → s ≡ If line arms other → xs ≡ arms → ys ≡ other
    → mid ≡ old ++ indexes_of decls (read_by_arms k (arm_trees xs)) → new ≡ mid ++ indexes_of decls (read_by_all k (stmt_trees ys)) → new ≡ old ++ indexes_of decls (read_by k (stmt_tree s))
roots_twice decls k s line arms xs other ys old mid new h f g m n =
    names_twice decls (read_by_arms k (arm_trees xs)) (read_by_all k (stmt_trees ys)) old mid new m n
    ∙ ap (λ e. old ++ indexes_of decls (read_by k e)) (sym (branch_of s line arms xs other ys h f g))

abbrev pub link_parts : List Decl → Kinds → List Stmt → List Link
link_parts decls k [] = []
link_parts decls k (s ∷ ss) = links_of decls (restorings k (stmt_tree s)) ++ link_parts decls k ss

pub restorings_are : (decls : List Decl) (k : Kinds) (ss : List Stmt) → link_parts decls k ss ≡ links_of decls (restorings_in k (stmt_trees ss))
restorings_are decls k [] = refl
restorings_are decls k (s ∷ ss) =
    ap (λ r. links_of decls (restorings k (stmt_tree s)) ++ r) (restorings_are decls k ss) ∙ sym (links_joined decls (restorings k (stmt_tree s)) (restorings_in k (stmt_trees ss)))

abbrev pub arm_link_parts : List Decl → Kinds → List Arm → List Link
arm_link_parts decls k [] = []
arm_link_parts decls k (a ∷ rest) = links_of decls (restorings_in k (arm_tree a).1) ++ arm_link_parts decls k rest

pub arm_restorings_are : (decls : List Decl) (k : Kinds) (arms : List Arm) → arm_link_parts decls k arms ≡ links_of decls (restorings_in_arms k (arm_trees arms))
arm_restorings_are decls k [] = refl
arm_restorings_are decls k (a ∷ rest) =
    ap (λ r. links_of decls (restorings_in k (arm_tree a).1) ++ r) (arm_restorings_are decls k rest) ∙ sym (links_joined decls (restorings_in k (arm_tree a).1) (restorings_in_arms k (arm_trees rest)))

pub links_twice : (decls : List Decl) (k : Kinds) (s : Stmt) (line : ℕ) (arms xs : List Arm) (other ys : List Stmt) (old mid new : List Link) → s ≡ If line arms other → xs ≡ arms → ys ≡ other
    → mid ≡ old ++ links_of decls (restorings_in_arms k (arm_trees xs)) → new ≡ mid ++ links_of decls (restorings_in k (stmt_trees ys)) → new ≡ old ++ links_of decls (restorings k (stmt_tree s))
links_twice decls k s line arms xs other ys old mid new h f g m n =
    grown_twice old mid new _ _ m n ∙ (ap (λ r. old ++ r) (sym (links_joined decls (restorings_in_arms k (arm_trees xs)) (restorings_in k (stmt_trees ys))))
    ∙ ap (λ e. old ++ links_of decls (restorings k e)) (sym (branch_of s line arms xs other ys h f g)))
