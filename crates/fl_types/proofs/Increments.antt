-- Terms free of a name.
use Rattle.std.specs.Prelude.{◌≡◌, ℕ, Bool, true, false, not, ◌&&◌, ◌||◌, if◌then◌else◌, List, [], ◌∷◌, ◌++◌, Option, Some, None, is_some, refl}
use Rattle.std.proofs.Common.{sym, ap, ◌∙◌}
use Rattle.fl_ast.specs.declared.kind.BinOp.TheVariants.{Add, Sub}
use Rattle.fl_ast.specs.Tree.{Expression, Designator, binary}
use Rattle.fl_ast.specs.Same.{same_expression}
use Rattle.fl_ast.specs.Occurs.{occurs}
use Rattle.fl_types.specs.Increment.{Signed, longer, are_free_of, if_free, target_of, chain, first_of_sum, goes_on, ends}

some_if : (b : Bool) (rs : List Signed) → is_some (if b then Some rs else None) ≡ b
some_if true rs = refl
some_if false rs = refl

free_and : (x : List ℕ) (rs : List Signed) (r : Signed) → are_free_of x (rs ++ r ∷ []) ≡ not (occurs x r.1) && are_free_of x rs
free_and x [] r = refl
free_and x (s ∷ rs) r = ap (λ b. not (occurs x s.1) && b) (free_and x rs r) ∙ swapped (not (occurs x s.1)) (not (occurs x r.1)) (are_free_of x rs)
  where
    swapped : (a b c : Bool) → (a && (b && c)) ≡ (b && (a && c))
    swapped true true c = refl
    swapped true false c = refl
    swapped false true c = refl
    swapped false false c = refl

-- a longer chain is free of a name where the new term is and the chain before was
pub longer_free : (x : List ℕ) (o : Option (List Signed)) (r : Signed) → is_some (if_free x (longer o r)) ≡ not (occurs x r.1) && is_some (if_free x o)
longer_free x None r = none (not (occurs x r.1))
  where
    none : (b : Bool) → false ≡ b && false
    none true = refl
    none false = refl
longer_free x (Some rs) r =
    some_if (are_free_of x (rs ++ r ∷ [])) (rs ++ r ∷ []) ∙ free_and x rs r ∙ ap (λ b. not (occurs x r.1) && b) (sym (some_if (are_free_of x rs) rs))

one_free : (x : List ℕ) (r : Signed) → is_some (if_free x (Some (r ∷ []))) ≡ not (occurs x r.1) && true
one_free x r = some_if (not (occurs x r.1) && true) (r ∷ [])

either_free : (x : List ℕ) (b : Bool) (o : Option (List Signed)) (r : Signed)
    → is_some (if_free x (if b then Some (r ∷ []) else longer o r)) ≡ not (occurs x r.1) && (b || is_some (if_free x o))
either_free x true o r = one_free x r
either_free x false o r = longer_free x o r

pub adds : (p : Designator) (a b : Expression) → goes_on p a b ≡ is_some (if_free p.name (chain (target_of p) (binary Add a b)))
adds p a b = sym (either_free p.name (same_expression (target_of p) a) (chain (target_of p) a) (false, b))

pub subtracts : (p : Designator) (a b : Expression) → goes_on p a b ≡ is_some (if_free p.name (chain (target_of p) (binary Sub a b)))
subtracts p a b = sym (either_free p.name (same_expression (target_of p) a) (chain (target_of p) a) (true, b))

sum_of : (x : List ℕ) (b : Bool) (r : Signed) → is_some (if_free x (if b then Some (r ∷ []) else None)) ≡ not (occurs x r.1) && b
sum_of x true r = one_free x r
sum_of x false r = none (not (occurs x r.1))
  where
    none : (b : Bool) → false ≡ b && false
    none true = refl
    none false = refl

pub sums : (p : Designator) (a b : Expression) → ends p a b ≡ is_some (if_free p.name (first_of_sum (target_of p) (binary Add a b)))
sums p a b = sym (sum_of p.name (same_expression (target_of p) b) (false, a))
