-- The operands of operations and calls.
use Rattle.std.proofs.Common.{true, false, rules, ◌≡◌, ◌<◌, ◌≤◌, ℕ, Bool, List, [], ◌∷◌, ◌++◌, length, slice_index_or, Result, Ok, Err, OnOk, refl, ap, sym, ◌∙◌, append_assoc, arith}
use Rattle.std.proofs.lemmas.List.{append-nil}
use Rattle.fl_ast.specs.declared.kind.BinOp.{BinOp}
use Rattle.fl_ast.specs.declared.kind.RelOp.{RelOp}
use Rattle.fl_ast.specs.declared.kind.RelOp.TheVariants as rel
use Rattle.fl_ast.specs.declared.kind.Kind.TheVariants as kind
use Rattle.fl_ast.specs.declared.expr.Expr.{Expr, the_lemmas as expr_lemmas}
use Rattle.fl_ast.specs.declared.expr.Expr.TheVariants.{Bin, Pow}
use Rattle.fl_ast.specs.Tree.{Expression, literal, relation, binary, power, expr_tree, expr_trees, Expressions, no_expressions, expression}
use Rattle.fl_ast.specs.AdjointTree.{AdjointExpression, AdjointStatement}
use Rattle.adjoint_rules.specs.Occurrences.{power_factors, either, minus_one}
use Rattle.adjoint_rules.specs.Expressions.{product}
use Rattle.fl_ast.specs.Same.{same_expression}
use Rattle.reversal.specs.Chains.{is_link, is_difference, chain_growths}
use Rattle.reversal.specs.Growth.{times, amount_at, sign_at_right, is_division, growths, growths_of_two, growths_of_one}

pub tree_of : (e : Expr) (o : BinOp) (l r x y : Expr) → e ≡ Bin o l r → x ≡ l → y ≡ r → expr_tree e ≡ binary o (expr_tree x) (expr_tree y)
tree_of e o l r x y h f g = ap expr_tree h ∙ (rw (f, g) (search (rules, expr_lemmas)))

pub power_of : (e b x : Expr) (n : ℕ) → e ≡ Pow b n → x ≡ b → expr_tree e ≡ power (expr_tree x) n
power_of e b x n h f = ap expr_tree h ∙ (rw f (search (rules, expr_lemmas)))

pub on_ok : {A E : Type 0} {P Q : Type 0} (r : Result A E) → (P → Q) → OnOk r P → OnOk r Q
on_ok (Ok x) f h = f h
on_ok (Err e) f h = tt

joined : {X : Type 0} (old mid new a b : List X) → mid ≡ old ++ a → new ≡ mid ++ b → new ≡ old ++ (a ++ b)
joined old mid new a b m n = n ∙ (rw m (append_assoc old a b))

pub joined_growths : (on atomic : List ℕ → Bool) (line : ℕ) (t : Expression) (o : BinOp) (l r : Expression) (negative turned : Bool) (amount at_left at_right : AdjointExpression) (old mid new : List AdjointStatement)
    → t ≡ binary o l r → is_division o ≡ false → at_left ≡ amount_at o amount r → at_right ≡ amount_at o amount l → turned ≡ sign_at_right o negative
    → mid ≡ old ++ growths on atomic line l negative at_left → new ≡ mid ++ growths on atomic line r turned at_right → new ≡ old ++ growths on atomic line t negative amount
joined_growths on atomic line t o l r negative turned amount at_left at_right old mid new h d f g s m n =
    joined old mid new (growths on atomic line l negative at_left) (growths on atomic line r turned at_right) m n
    ∙ ap (λ x. old ++ x) (rw (h, d, f, g, s) refl)

pub power_growths : (on atomic : List ℕ → Bool) (line : ℕ) (t b : Expression) (n : ℕ) (negative : Bool) (amount raised : AdjointExpression) (old new : List AdjointStatement)
    → t ≡ power b n → raised ≡ product amount (power_factors b n) → new ≡ old ++ growths on atomic line b negative raised → new ≡ old ++ growths on atomic line t negative amount
power_growths on atomic line t b n negative amount raised old new h f e = e ∙ ap (λ x. old ++ x) (rw (h, f) refl)

-- ---- arguments

pub two_of : (es : List Expr) (l r : Expr) → 2 ≤ length es → length es < 3 → l ≡ slice_index_or es 0 l → r ≡ slice_index_or es 1 r
    → expr_trees es ≡ expression (expr_tree l) (expression (expr_tree r) no_expressions)
two_of [] l r a b f g = absurd (omega (arith, a))
two_of (x ∷ []) l r a b f g = absurd (omega (arith, a))
two_of (x ∷ y ∷ []) l r a b f g = rw (f, g) refl
two_of (x ∷ y ∷ z ∷ es) l r a b f g = absurd (omega (arith, b))

pub one_of : (es : List Expr) (l : Expr) → 1 ≤ length es → length es < 2 → l ≡ slice_index_or es 0 l → expr_trees es ≡ expression (expr_tree l) no_expressions
one_of [] l a b f = absurd (omega (arith, a))
one_of (x ∷ []) l a b f = rw f refl
one_of (x ∷ y ∷ es) l a b f = absurd (omega (arith, b))

pub below_two : (on atomic : List ℕ → Bool) (line : ℕ) (o : RelOp) (es : List Expr) (negative : Bool) (amount : AdjointExpression) (old : List AdjointStatement)
    → length es < 2 → old ≡ old ++ growths_of_two on atomic line o (expr_trees es) negative amount
below_two on atomic line o [] negative amount old h = sym (append-nil old)
below_two on atomic line o (x ∷ []) negative amount old h = sym (append-nil old)
below_two on atomic line o (x ∷ y ∷ es) negative amount old h = absurd (omega (arith, h))

pub above_two : (on atomic : List ℕ → Bool) (line : ℕ) (o : RelOp) (es : List Expr) (negative : Bool) (amount : AdjointExpression) (old : List AdjointStatement)
    → 3 ≤ length es → old ≡ old ++ growths_of_two on atomic line o (expr_trees es) negative amount
above_two on atomic line o [] negative amount old h = absurd (omega (arith, h))
above_two on atomic line o (x ∷ []) negative amount old h = absurd (omega (arith, h))
above_two on atomic line o (x ∷ y ∷ []) negative amount old h = absurd (omega (arith, h))
above_two on atomic line o (x ∷ y ∷ z ∷ es) negative amount old h = sym (append-nil old)

pub above_one : (on atomic : List ℕ → Bool) (line : ℕ) (es : List Expr) (negative : Bool) (amount : AdjointExpression) (old : List AdjointStatement)
    → 2 ≤ length es → old ≡ old ++ growths_of_one on atomic line (expr_trees es) negative amount
above_one on atomic line [] negative amount old h = absurd (omega (arith, h))
above_one on atomic line (x ∷ []) negative amount old h = absurd (omega (arith, h))
above_one on atomic line (x ∷ y ∷ es) negative amount old h = sym (append-nil old)

pub two_growths : (on atomic : List ℕ → Bool) (line : ℕ) (o : RelOp) (args : Expressions) (l r : Expression) (negative : Bool) (amount at_left at_right : AdjointExpression) (old mid new : List AdjointStatement)
    → args ≡ expression l (expression r no_expressions) → at_left ≡ times amount (either 1 0 (relation o l r)) → at_right ≡ times amount (either 0 1 (relation o l r))
    → mid ≡ old ++ growths on atomic line l negative at_left → new ≡ mid ++ growths on atomic line r negative at_right → new ≡ old ++ growths_of_two on atomic line o args negative amount
two_growths on atomic line o args l r negative amount at_left at_right old mid new h f g m n =
    joined old mid new (growths on atomic line l negative at_left) (growths on atomic line r negative at_right) m n ∙ ap (λ x. old ++ x) (rw (h, f, g) refl)

pub one_growths : (on atomic : List ℕ → Bool) (line : ℕ) (args : Expressions) (l : Expression) (negative : Bool) (amount more : AdjointExpression) (old new : List AdjointStatement)
    → args ≡ expression l no_expressions → more ≡ times amount (either minus_one 1 (relation rel.Lt l (literal 0 kind.Ring)))
    → new ≡ old ++ growths on atomic line l negative more → new ≡ old ++ growths_of_one on atomic line args negative amount
one_growths on atomic line args l negative amount more old new h f e = e ∙ ap (λ x. old ++ x) (rw (h, f) refl)

-- ---- chains

pub link_alone : (on atomic : List ℕ → Bool) (line : ℕ) (t v : Expression) (o : BinOp) (l r : Expression) (turned : Bool) (amount : AdjointExpression) (old new : List AdjointStatement)
    → v ≡ binary o l r → is_link o ≡ true → same_expression t l ≡ true → turned ≡ is_difference o
    → new ≡ old ++ growths on atomic line r turned amount → new ≡ old ++ chain_growths on atomic line t v amount
link_alone on atomic line t v o l r turned amount old new h k s d e = e ∙ ap (λ x. old ++ x) (rw (h, k, s, d) refl)

pub link_after : (on atomic : List ℕ → Bool) (line : ℕ) (t v : Expression) (o : BinOp) (l r : Expression) (turned : Bool) (amount : AdjointExpression) (old mid new : List AdjointStatement)
    → v ≡ binary o l r → is_link o ≡ true → same_expression t l ≡ false → turned ≡ is_difference o
    → mid ≡ old ++ chain_growths on atomic line t l amount → new ≡ mid ++ growths on atomic line r turned amount → new ≡ old ++ chain_growths on atomic line t v amount
link_after on atomic line t v o l r turned amount old mid new h k s d m e =
    joined old mid new (chain_growths on atomic line t l amount) (growths on atomic line r turned amount) m e ∙ ap (λ x. old ++ x) (rw (h, k, s, d) refl)
