-- A parallel loop whose body is one loop.
use Rattle.std.specs.Prelude.{◌≡◌, Bool, true, false, ◌&&◌, nat_eq, List, [], ◌∷◌, length, refl}
use Rattle.std.proofs.Common.{ap, sym, ◌∙◌, get_or}
use Rattle.std.proofs.lemmas.Bool.{and_parts}
use Rattle.fl_ast.specs.declared.directive.Directive.{Directive}
use Rattle.fl_ast.specs.Tree.{Statement, Statements}
use Rattle.fl_types.specs.Nests.{is_plain_loop, is_nest, head_of, further_head, statements_in, iteration_body}
use Rattle.store_core.specs.declared.layout.Shape.{Shape}
use Rattle.resolved.specs.declared.resolved.ResolvedStmt.{ResolvedStmt}
use Rattle.resolved.specs.ResolvedStmts.{statement_back, statements_back}

-- other numbers of statements
pub not_one : (shapes : List Shape) (d : Directive) (xs : List ResolvedStmt) → (length xs ≡ 1 → ⊥) → is_nest d (statements_back shapes xs) ≡ false
not_one shapes d [] h = by_test (nat_eq d.collapse 2)
  where
    by_test : (b : Bool) → (b && false) ≡ false
    by_test true = refl
    by_test false = refl
not_one shapes d (x ∷ []) h = absurd (h refl)
not_one shapes d (x ∷ y ∷ xs) h = by_test (nat_eq d.collapse 2) (is_plain_loop (statement_back shapes x))
  where
    by_test : (b p : Bool) → (b && (p && false)) ≡ false
    by_test true true = refl
    by_test true false = refl
    by_test false p = refl

and_true : (p : Bool) → (p && true) ≡ p
and_true true = refl
and_true false = refl

-- one statement
pub one_is : (shapes : List Shape) (d : Directive) (xs : List ResolvedStmt) (x : ResolvedStmt) → nat_eq d.collapse 2 ≡ true → length xs ≡ 1 → x ≡ get_or xs 0 x
    → is_nest d (statements_back shapes xs) ≡ is_plain_loop (statement_back shapes x)
one_is shapes d [] x c h g = cc
one_is shapes d (y ∷ []) x c h g = rw c (ap (λ (z : ResolvedStmt). is_plain_loop (statement_back shapes z) && true) (sym g) ∙ and_true (is_plain_loop (statement_back shapes x)))
one_is shapes d (y ∷ z ∷ xs) x c h g = cc

-- what a nest is, by its one statement
pub record Nest (d : Directive) (body : Statements) (only : Statement) : Type 0 where
  pub plain : is_plain_loop only ≡ true
  pub further : further_head d body ≡ head_of only
  pub inner : iteration_body d body ≡ statements_in only

pub nested : (shapes : List Shape) (d : Directive) (xs : List ResolvedStmt) (x : ResolvedStmt) → is_nest d (statements_back shapes xs) ≡ true → length xs ≡ 1 → x ≡ get_or xs 0 x
    → Nest d (statements_back shapes xs) (statement_back shapes x)
nested shapes d [] x n h g = cc
nested shapes d (y ∷ []) x n h g =
    let p = and_parts (nat_eq d.collapse 2) _ n in
    let q = and_parts (is_plain_loop (statement_back shapes y)) _ p.1 in
    record {
      plain = ap (λ (z : ResolvedStmt). is_plain_loop (statement_back shapes z)) g ∙ q.0;
      further = rw n (ap (λ (z : ResolvedStmt). head_of (statement_back shapes z)) (sym g));
      inner = rw n (ap (λ (z : ResolvedStmt). statements_in (statement_back shapes z)) (sym g));
    }
nested shapes d (y ∷ z ∷ xs) x n h g = cc
