-- What is reached over edges between declared names is declared.
use Rattle.std.proofs.Common.{◌≡◌, ℕ, Bool, true, false, List, [], ◌∷◌, filter, cond, inl, inr, refl, subst}
use Rattle.std.proofs.lemmas.Bool.{and_parts}
use Rattle.fl_ast.specs.declared.decl.Decl.{Decl}
use Rattle.reachability.specs.Reached.{root, onward, Edge, IsAmong}
use Rattle.reachability.specs.Named.{is_declared, are_both_declared, IsReachedName}

among_passing : {A : Type 0} (t : A → Bool) (xs : List A) (x : A) → IsAmong (filter t xs) x → t x ≡ true
among_passing t [] x h = absurd h
among_passing t (y ∷ ys) x h = at (t y) refl h (among_passing t ys x)
  where
    at : (b : Bool) → t y ≡ b → IsAmong (cond b (y ∷ filter t ys) (filter t ys)) x → (IsAmong (filter t ys) x → t x ≡ true) → t x ≡ true
    at true e (inl s) f = subst (λ z. t z ≡ true) s e
    at true e (inr r) f = f r
    at false e r f = f r

pub reached_declared : (decls : List Decl) (roots : List (List ℕ)) (edges : List (Edge (List ℕ))) (x : List ℕ) → IsReachedName decls roots edges x → is_declared decls x ≡ true
reached_declared decls roots edges x (root y h) = among_passing (is_declared decls) roots x h
reached_declared decls roots edges x (onward w y h l) =
    (and_parts (is_declared decls w) (is_declared decls x) (among_passing (are_both_declared decls) edges (record { tail = w; head = x }) l)).1
