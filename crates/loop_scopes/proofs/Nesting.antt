-- A parallel loop whose body is one loop.
use Rattle.std.specs.Prelude.{◌≡◌, Bool, true, false, ◌&&◌, nat_eq, List, [], ◌∷◌, length, refl}
use Rattle.std.proofs.Common.{ap, sym, ◌∙◌, get_or, subst}
use Rattle.std.specs.Prelude.{if◌then◌else◌, Option, None}
use Rattle.fl_ast.specs.declared.directive.Directive.{Directive}
use Rattle.fl_ast.specs.Tree.{Statements}
use Rattle.fl_types.specs.Nests.{Head, is_plain_loop, is_nest, head_of, further_head, statements_in, iteration_body}
use Rattle.store_core.specs.declared.layout.Shape.{Shape}
use Rattle.resolved.specs.declared.resolved.ResolvedStmt.{ResolvedStmt}
use Rattle.resolved.specs.ResolvedStmts.{statement_back, statements_back}

-- other numbers of statements
pub not_one : (shapes : List Shape) (d : Directive) (xs : List ResolvedStmt) → (length xs ≡ 1 → ⊥) → is_nest d (statements_back shapes xs) ≡ false
not_one shapes d [] h = by_test (nat_eq d.collapse 2)
  where
    by_test : (b : Bool) → (b && false) ≡ false
    by_test true = refl
    by_test false = refl
not_one shapes d (x ∷ []) h = absurd (h refl)
not_one shapes d (x ∷ y ∷ xs) h = by_test (nat_eq d.collapse 2) (is_plain_loop (statement_back shapes x))
  where
    by_test : (b p : Bool) → (b && (p && false)) ≡ false
    by_test true true = refl
    by_test true false = refl
    by_test false p = refl

and_true : (p : Bool) → (p && true) ≡ p
and_true true = refl
and_true false = refl

-- one statement
pub one_is : (shapes : List Shape) (d : Directive) (xs : List ResolvedStmt) (x : ResolvedStmt) → nat_eq d.collapse 2 ≡ true → length xs ≡ 1 → x ≡ get_or xs 0 x
    → is_nest d (statements_back shapes xs) ≡ is_plain_loop (statement_back shapes x)
one_is shapes d [] x c h g = cc
one_is shapes d (y ∷ []) x c h g = rw c (ap (λ (z : ResolvedStmt). is_plain_loop (statement_back shapes z) && true) (sym g) ∙ and_true (is_plain_loop (statement_back shapes x)))
one_is shapes d (y ∷ z ∷ xs) x c h g = cc

by_nest : (b p : Bool) (h : Option Head) → (b && (p && true)) ≡ true → (p ≡ true) × ((if b && (p && true) then h else None) ≡ h)
by_nest true true h e = (refl, refl)
by_nest true false h e = absurd (cc)
by_nest false p h e = absurd (cc)

-- the one statement of a nest
pub nested : (shapes : List Shape) (d : Directive) (xs : List ResolvedStmt) (x : ResolvedStmt) → length xs ≡ 1 → x ≡ get_or xs 0 x → is_nest d (statements_back shapes xs) ≡ true
    → (is_plain_loop (statement_back shapes x) ≡ true) × (further_head d (statements_back shapes xs) ≡ head_of (statement_back shapes x))
nested shapes d [] x l g h = cc
nested shapes d (y ∷ []) x l g h =
    subst (λ (z : ResolvedStmt). (is_plain_loop (statement_back shapes z) ≡ true) × (further_head d (statements_back shapes (y ∷ [])) ≡ head_of (statement_back shapes z))) (sym g)
    (by_nest (nat_eq d.collapse 2) (is_plain_loop (statement_back shapes y)) (head_of (statement_back shapes y)) h)
nested shapes d (y ∷ z ∷ xs) x l g h = cc

pub not_nested : (d : Directive) (body : Statements) → is_nest d body ≡ false → further_head d body ≡ None
not_nested d body h = rw h refl

by_body : (b : Bool) (x y : Statements) → b ≡ true → (if b then x else y) ≡ x
by_body true x y h = refl
by_body false x y h = absurd (cc)

-- what an iteration of a nest runs
pub nest_body : (shapes : List Shape) (d : Directive) (xs : List ResolvedStmt) (x : ResolvedStmt) → length xs ≡ 1 → x ≡ get_or xs 0 x → is_nest d (statements_back shapes xs) ≡ true
    → iteration_body d (statements_back shapes xs) ≡ statements_in (statement_back shapes x)
nest_body shapes d [] x l g h = cc
nest_body shapes d (y ∷ []) x l g h =
    by_body (is_nest d (statements_back shapes (y ∷ []))) (statements_in (statement_back shapes y)) (statements_back shapes (y ∷ [])) h ∙ ap (λ (z : ResolvedStmt). statements_in (statement_back shapes z)) (sym g)
nest_body shapes d (y ∷ z ∷ xs) x l g h = cc

pub plain_body : (d : Directive) (body : Statements) → is_nest d body ≡ false → iteration_body d body ≡ body
plain_body d body h = rw h refl
