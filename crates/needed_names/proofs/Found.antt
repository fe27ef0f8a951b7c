-- The reached names are the needed ones.
use Rattle.std.proofs.Common.{◌||◌, ◌≡◌, ◌↔◌, ◌<◌, inl, inr, ℕ, Bool, true, false, List, [], ◌∷◌, length, bytes_eq, All, IfOk, Result, refl, ap, sym, subst, ◌∙◌, arith}
use Rattle.std.proofs.lemmas.Bool.{or_cases}
use Rattle.std.proofs.lemmas.Slice.Eq.{bytes_eq-Decides}
use Rattle.fl_ast.specs.declared.decl.Decl.{Decl}
use Rattle.fl_ast.specs.declared.stmt.Program.{Program}
use Rattle.fl_ast.specs.Tree.{stmt_trees}
use Rattle.fl_types.specs.Sharing.{has_name}
use Rattle.reachability.specs.declared.closing.Link.{Link}
use Rattle.reachability.specs.Reached.{Edge, IsAmong, AreWithin}
use Rattle.reachability.specs.Named.{indexes_of, links_of, IsReachedName}
use Rattle.reachability.proofs.Listed.{on_if_ok, indexes_within, links_within}
use Rattle.adjoint_rules.specs.Needed.{read_by_all, restorings_in, AreNeeded}
use Rattle.needed_names.specs.Terms.{kinds_in}

named : (x : List ℕ) (xs : List (List ℕ)) → IsAmong xs x → has_name x xs ≡ true
named x [] h = absurd h
named x (y ∷ ys) (inl e) = rw ((bytes_eq-Decides x y).1 (sym e)) refl
named x (y ∷ ys) (inr h) = or_right (bytes_eq x y) (has_name x ys) (named x ys h)
  where
    or_right : (a b : Bool) → b ≡ true → (a || b) ≡ true
    or_right true b e = refl
    or_right false b e = e

among : (x : List ℕ) (xs : List (List ℕ)) → has_name x xs ≡ true → IsAmong xs x
among x [] h = absurd (grind (arith, h))
among x (y ∷ ys) h = elim (or_cases (bytes_eq x y) (has_name x ys) h) [
  | inl e ↦ inl (sym ((bytes_eq-Decides x y).0 e))
  | inr e ↦ inr (among x ys e)
]

abbrev pub roots_of : Program → List (List ℕ) → List (List ℕ)
roots_of p active = read_by_all (kinds_in p.decls active) (stmt_trees p.body)

abbrev pub edges_of : Program → List (List ℕ) → List (Edge (List ℕ))
edges_of p active = restorings_in (kinds_in p.decls active) (stmt_trees p.body)

pub roots_within : (decls ds : List Decl) (xs : List (List ℕ)) (roots : List ℕ) → ds ≡ decls → roots ≡ indexes_of decls xs → All (λ i. i < length ds) roots
roots_within decls ds xs roots d e =
    subst (λ y. All (λ i. i < length y) roots) (sym d) (subst (λ r. All (λ i. i < length decls) r) (sym e) (indexes_within decls xs))

pub links_stay : (decls ds : List Decl) (es : List (Edge (List ℕ))) (links : List Link) → ds ≡ decls → links ≡ links_of decls es → AreWithin (length ds) links
links_stay decls ds es links d e = subst (λ y. AreWithin (length y) links) (sym d) (subst (λ l. AreWithin (length decls) l) (sym e) (links_within decls es))

pub needed_are : {E : Type 0} (p : Program) (active : List (List ℕ)) (ds : List Decl) (roots : List ℕ) (links : List Link) (result : Result (List (List ℕ)) E)
    → ds ≡ p.decls → roots ≡ indexes_of p.decls (roots_of p active) → links ≡ links_of p.decls (edges_of p active)
    → ((rs : List (List ℕ)) → (es : List (Edge (List ℕ))) → roots ≡ indexes_of ds rs → links ≡ links_of ds es
    → IfOk result (λ names. (x : List ℕ) → IsAmong names x ↔ IsReachedName ds rs es x))
    → IfOk result (λ names. AreNeeded p (λ x. has_name x active) (λ x. has_name x names))
needed_are p active ds roots links result d r l f =
    on_if_ok result
    (λ names g x.
    let h = subst (λ k. IsAmong names x ↔ IsReachedName k (roots_of p active) (edges_of p active) x) d (g x) in
    (λ n. h.0 (among x names n), λ n. named x names (h.1 n)))
    (f (roots_of p active) (edges_of p active) (r ∙ ap (λ k. indexes_of k (roots_of p active)) (sym d)) (l ∙ ap (λ k. links_of k (edges_of p active)) (sym d)))
