-- What the leaves of the walks add.
use Rattle.std.proofs.Common.{arith, suc, rules, ◌≡◌, ℕ, ◌+◌, Bool, true, false, List, [], ◌∷◌, ◌++◌, length, Result, Ok, Err, OnOk, refl, ap, sym, ◌∙◌}
use Rattle.std.proofs.lemmas.List.{append-nil}
use Rattle.fl_ast.specs.declared.kind.BinOp.{BinOp}
use Rattle.fl_ast.specs.declared.kind.Fun.{Fun}
use Rattle.fl_ast.specs.declared.decl.Decl.{Decl}
use Rattle.fl_ast.specs.declared.expr.Place.{Place}
use Rattle.fl_ast.specs.declared.expr.Expr.{Expr, the_lemmas as expr_lemmas}
use Rattle.fl_ast.specs.declared.expr.Expr.TheVariants.{Pow, Call}
use Rattle.fl_ast.specs.declared.stmt.Stmt.{Stmt, the_lemmas as stmt_lemmas}
use Rattle.fl_ast.specs.declared.stmt.Stmt.TheVariants.{Assign}
use Rattle.fl_ast.specs.Tree.{Expression, binary, power, call, expr_tree, expr_trees, assignment, place_tree, stmt_tree}
use Rattle.fl_ast.specs.Readable.{number_of}
use Rattle.reachability.specs.declared.closing.Link.{Link}
use Rattle.reachability.specs.Named.{index_in, indexes_of, links_of}
use Rattle.adjoint_rules.specs.Needed.{names_in_all, Kinds, read_by, read_for, restorings}
use Rattle.needed_names.specs.Reads.{beside, is_division, raised, is_taken, reads, all_read}
use Rattle.needed_names.specs.Terms.{assignment_reads, restoring_reads, links_from}
use Rattle.needed_names.proofs.Joined.{grown_twice}
use Rattle.needed_names.proofs.Rest.{assignment_is, restoring_is}
use Rattle.needed_names.proofs.Linked.{links_are}

pub on_ok : {A E : Type 0} {P Q : Type 0} (r : Result A E) → (P → Q) → OnOk r P → OnOk r Q
on_ok (Ok x) f h = f h
on_ok (Err e) f h = tt

-- ---- expressions

pub power_of : (e b x : Expr) (n : ℕ) → e ≡ Pow b n → x ≡ b → expr_tree e ≡ power (expr_tree x) n
power_of e b x n h f = ap expr_tree h ∙ (rw f (search (rules, expr_lemmas)))

pub call_of : (e : Expr) (f : Fun) (es xs : List Expr) → e ≡ Call f es → xs ≡ es → expr_tree e ≡ call f (expr_trees xs)
call_of e f es xs h g = ap expr_tree h ∙ (rw g (search (rules, expr_lemmas)))

counted : (es : List Expr) → number_of (expr_trees es) ≡ length es
counted [] = refl
counted (e ∷ es) = let more : 1 + number_of (expr_trees es) ≡ suc (length es) = omega (arith, counted es) in more

pub joined_reads : (decls : List Decl) (on : List ℕ → Bool) (t : Expression) (o : BinOp) (l r : Expression) (at by_r by_l old mid new : List ℕ)
    → t ≡ binary o l r → is_division o ≡ false → by_r ≡ at ++ indexes_of decls (beside o r) → by_l ≡ at ++ indexes_of decls (beside o l)
    → mid ≡ old ++ reads decls on l by_r → new ≡ mid ++ reads decls on r by_l → new ≡ old ++ reads decls on t at
joined_reads decls on t o l r at by_r by_l old mid new h d f g m n =
    grown_twice old mid new (reads decls on l by_r) (reads decls on r by_l) m n ∙ ap (λ x. old ++ x) (rw (h, d, f, g) refl)

pub raised_reads : (decls : List Decl) (on : List ℕ → Bool) (t b : Expression) (n : ℕ) (at by old new : List ℕ)
    → t ≡ power b n → by ≡ at ++ indexes_of decls (raised n b) → new ≡ old ++ reads decls on b by → new ≡ old ++ reads decls on t at
raised_reads decls on t b n at by old new h f e = e ∙ ap (λ x. old ++ x) (rw (h, f) refl)

pub taken_reads : (decls : List Decl) (on : List ℕ → Bool) (t : Expression) (f : Fun) (es : List Expr) (at by old new : List ℕ)
    → t ≡ call f (expr_trees es) → is_taken f (length es) ≡ true → by ≡ at ++ indexes_of decls (names_in_all (expr_trees es))
    → new ≡ old ++ all_read decls on (expr_trees es) by → new ≡ old ++ reads decls on t at
taken_reads decls on t f es at by old new h g b e = e ∙ ap (λ x. old ++ x) (rw (h, counted es, g, b) refl)

pub no_reads : (decls : List Decl) (on : List ℕ → Bool) (t : Expression) (f : Fun) (es : List Expr) (at old : List ℕ)
    → t ≡ call f (expr_trees es) → is_taken f (length es) ≡ false → old ≡ old ++ reads decls on t at
no_reads decls on t f es at old h g = sym (append-nil old) ∙ ap (λ x. old ++ x) (rw (h, counted es, g) refl)

-- ---- assignments

assignment_of : (s : Stmt) (line : ℕ) (atomic : Bool) (p : Place) (v : Expr) → s ≡ Assign line atomic p v → stmt_tree s ≡ assignment line atomic (place_tree p) (expr_tree v)
assignment_of s line atomic p v h = ap stmt_tree h ∙ search (rules, stmt_lemmas)

pub assignment_roots : (decls : List Decl) (k : Kinds) (s : Stmt) (line : ℕ) (atomic : Bool) (p : Place) (v : Expr) (old new : List ℕ) → s ≡ Assign line atomic p v
    → new ≡ old ++ assignment_reads decls k.active k.ring (place_tree p) (expr_tree v) → new ≡ old ++ indexes_of decls (read_by k (stmt_tree s))
assignment_roots decls k s line atomic p v old new h e =
    e ∙ (ap (λ x. old ++ x) (assignment_is decls k (place_tree p) (expr_tree v)) ∙ ap (λ t. old ++ indexes_of decls (read_by k t)) (sym (assignment_of s line atomic p v h)))

pub assignment_links : (decls : List Decl) (k : Kinds) (s : Stmt) (line : ℕ) (atomic : Bool) (p : Place) (v : Expr) (old new : List Link) → s ≡ Assign line atomic p v
    → new ≡ old ++ links_from (index_in decls (place_tree p).name) (restoring_reads decls k.ring (place_tree p) (expr_tree v)) → new ≡ old ++ links_of decls (restorings k (stmt_tree s))
assignment_links decls k s line atomic p v old new h e =
    e ∙ (ap (λ x. old ++ x)
    (ap (links_from (index_in decls (place_tree p).name)) (restoring_is decls k (place_tree p) (expr_tree v)) ∙ links_are decls (place_tree p).name (read_for k (place_tree p) (expr_tree v)))
    ∙ ap (λ t. old ++ links_of decls (restorings k t)) (sym (assignment_of s line atomic p v h)))
