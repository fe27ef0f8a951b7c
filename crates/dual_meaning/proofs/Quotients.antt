-- Numbers of iterations, and private scalars by place.
use Rattle.std.specs.Prelude.{◌≡◌, ℕ, zero, suc, ◌<◌, ◌*◌, ◌/◌, Bool, true, false, cond, List, [], ◌∷◌, filter, Option, Some, None, slice_set, refl}
use Rattle.std.proofs.Common.{ap, sym, arith, length, get_or, drop}
use Rattle.std.proofs.Math.Nat.{div-lt_iff_lt-mul}
use Rattle.fl_ast.specs.declared.directive.Directive.{Directive}
use Rattle.fl_ast.specs.Tree.{Statements}
use Rattle.fl_types.specs.Sharing.{sharing_in, is_private}
use Rattle.meaning.specs.Sites.{Cells, Site, place_of}
use Rattle.meaning.specs.Statements.{set_at, with_all_unset}
use Rattle.dual_meaning.specs.Running.{unset_places, added, unset_privates}

pub some_room : (k a b : ℕ) → k < a * b → 0 < b
some_room k a zero h = absurd (omega arith)
some_room k a (suc b) h = omega arith

pub quotient : (k a b : ℕ) → k < a * b → k / b < a
quotient k a b h = (div-lt_iff_lt-mul {k = b} {x = k} {y = a} (some_room k a b h)).1 h

pub ruleset quotients = (quotient, some_room)

pub unset_added : (o : Option ℕ) (ps : List ℕ) (c : Cells) → unset_places (added o ps) c ≡ set_at o None (unset_places ps c)
unset_added None ps c = refl
unset_added (Some p) [] c = refl
unset_added (Some p) (q ∷ ps) c = unset_added (Some p) ps (slice_set c q None)

by_class : (site : Site) (directive : Directive) (var : List ℕ) (body : Statements) (x : List ℕ) (xs : List (List ℕ)) (c : Cells) (b : Bool)
    → ((d : Cells) → unset_privates site directive var body xs d ≡ with_all_unset site (filter (λ y. is_private (sharing_in var directive body y)) xs) d)
    → unset_privates site directive var body xs (set_at (cond b (place_of site x []) None) None c)
    ≡ with_all_unset site (cond b (x ∷ filter (λ y. is_private (sharing_in var directive body y)) xs) (filter (λ y. is_private (sharing_in var directive body y)) xs)) c
by_class site directive var body x xs c true h = h (set_at (place_of site x []) None c)
by_class site directive var body x xs c false h = h c

-- each name by itself is all private names
pub privates_are : (site : Site) (directive : Directive) (var : List ℕ) (body : Statements) (xs : List (List ℕ)) (c : Cells)
    → unset_privates site directive var body xs c ≡ with_all_unset site (filter (λ y. is_private (sharing_in var directive body y)) xs) c
privates_are site directive var body [] c = refl
privates_are site directive var body (x ∷ xs) c = by_class site directive var body x xs c (is_private (sharing_in var directive body x)) (privates_are site directive var body xs)

pub dropped : {A : Type 0} (xs : List A) (i : ℕ) (x : A) → i < length xs → x ≡ get_or xs i x → drop i xs ≡ x ∷ drop (suc i) xs
dropped [] i x l h = absurd (omega arith)
dropped (y ∷ xs) zero x l h = ap (λ z. z ∷ xs) (sym h)
dropped (y ∷ xs) (suc i) x l h = dropped xs i x (omega arith) h
