-- The increments with amounts are those of the occurrences with their factors.
use Rattle.std.proofs.Common.{Option, ◌≡◌, ℕ, Bool, true, false, not, if◌then◌else◌, List, [], ◌∷◌, ◌++◌, refl, ap, sym, ◌∙◌}
use Rattle.std.proofs.lemmas.List.{map-append}
use Rattle.fl_ast.specs.declared.kind.BinOp.TheVariants as op
use Rattle.fl_ast.specs.declared.kind.RelOp.{RelOp}
use Rattle.fl_ast.specs.declared.kind.RelOp.TheVariants as rel
use Rattle.fl_ast.specs.declared.kind.Fun.TheVariants as fun
use Rattle.fl_ast.specs.declared.kind.Kind.TheVariants as kind
use Rattle.fl_ast.specs.Tree.{Expression, literal, get, minus, binary, power, call, Expressions, no_expressions, expression, relation}
use Rattle.fl_ast.specs.AdjointTree.{AdjointExpression, adjoint_get, AdjointStatement}
use Rattle.adjoint_rules.specs.Occurrences.{Factor, operand, either, minus_one, power_factors, Occurrence, occurrences, of_two, of_one}
use Rattle.adjoint_rules.specs.Expressions.{temporary, product, increment_for, increments}
use Rattle.fl_types.specs.declared.choice.NameSet.{NameSet}
use Rattle.fl_types.specs.declared.choice.Chosen.{Chosen}
use Rattle.fl_types.specs.Sharing.{has_name}
use Rattle.reversal.specs.Growth.{is_atomic_in, times, growths, growths_of_two, growths_of_one}

product_joined : (a : AdjointExpression) (fs gs : List Factor) → product a (fs ++ gs) ≡ product (product a fs) gs
product_joined a [] gs = refl
product_joined a (f ∷ fs) gs = product_joined (times a f) fs gs

abbrev t : AdjointExpression
t = adjoint_get temporary

two_lists : {X : Type 0} (a b c d : List X) → a ≡ c → b ≡ d → a ++ b ≡ c ++ d
two_lists a b c d e f = rw (e, f) refl

-- two lists of occurrences, and what each makes
both : (atomic : List ℕ → Bool) (line : ℕ) (xs ys : List Occurrence) (c d : List AdjointStatement) → increments atomic line xs ≡ c → increments atomic line ys ≡ d → increments atomic line (xs ++ ys) ≡ c ++ d
both atomic line xs ys c d e f = map-append (increment_for atomic line) xs ys ∙ two_lists (increments atomic line xs) (increments atomic line ys) c d e f

mutual
  pub growths_are : (on atomic : List ℕ → Bool) (line : ℕ) (e : Expression) (less : Bool) (fs : List Factor) → increments atomic line (occurrences on e less fs) ≡ growths on atomic line e less (product t fs)
  growths_are on atomic line (literal n k) less fs = refl
  growths_are on atomic line (get x s) less fs = by_test (on x)
    where
      by_test : (b : Bool) → increments atomic line (if b then record { place = record { name = x; subscripts = s }; negative = less; factors = fs } ∷ [] else [])
          ≡ (if b then increment_for atomic line (record { place = record { name = x; subscripts = s }; negative = less; factors = fs }) ∷ [] else [])
      by_test true = refl
      by_test false = refl
  growths_are on atomic line (minus a) less fs = growths_are on atomic line a (not less) fs
  growths_are on atomic line (binary op.Add a b) less fs = both atomic line _ _ _ _ (growths_are on atomic line a less fs) (growths_are on atomic line b less fs)
  growths_are on atomic line (binary op.Sub a b) less fs = both atomic line _ _ _ _ (growths_are on atomic line a less fs) (growths_are on atomic line b (not less) fs)
  growths_are on atomic line (binary op.Mul a b) less fs =
      both atomic line _ _ _ _
      (growths_are on atomic line a less (fs ++ operand b ∷ []) ∙ ap (growths on atomic line a less) (product_joined t fs (operand b ∷ [])))
      (growths_are on atomic line b less (fs ++ operand a ∷ []) ∙ ap (growths on atomic line b less) (product_joined t fs (operand a ∷ [])))
  growths_are on atomic line (binary op.Div a b) less fs = refl
  growths_are on atomic line (power a n) less fs =
      growths_are on atomic line a less (fs ++ power_factors a n) ∙ ap (growths on atomic line a less) (product_joined t fs (power_factors a n))
  growths_are on atomic line (call fun.Max args) less fs = two_are on atomic line rel.Ge args less fs
  growths_are on atomic line (call fun.Min args) less fs = two_are on atomic line rel.Le args less fs
  growths_are on atomic line (call fun.Abs args) less fs = one_is on atomic line args less fs
  growths_are on atomic line (call fun.Mod args) less fs = refl

  two_are : (on atomic : List ℕ → Bool) (line : ℕ) (o : RelOp) (args : Expressions) (less : Bool) (fs : List Factor) → increments atomic line (of_two on o args less fs) ≡ growths_of_two on atomic line o args less (product t fs)
  two_are on atomic line o no_expressions less fs = refl
  two_are on atomic line o (expression a no_expressions) less fs = refl
  two_are on atomic line o (expression a (expression b no_expressions)) less fs =
      both atomic line _ _ _ _
      (growths_are on atomic line a less (fs ++ either 1 0 (relation o a b) ∷ []) ∙ ap (growths on atomic line a less) (product_joined t fs (either 1 0 (relation o a b) ∷ [])))
      (growths_are on atomic line b less (fs ++ either 0 1 (relation o a b) ∷ []) ∙ ap (growths on atomic line b less) (product_joined t fs (either 0 1 (relation o a b) ∷ [])))
  two_are on atomic line o (expression a (expression b (expression c s))) less fs = refl

  one_is : (on atomic : List ℕ → Bool) (line : ℕ) (args : Expressions) (less : Bool) (fs : List Factor) → increments atomic line (of_one on args less fs) ≡ growths_of_one on atomic line args less (product t fs)
  one_is on atomic line no_expressions less fs = refl
  one_is on atomic line (expression a no_expressions) less fs =
      growths_are on atomic line a less (fs ++ either minus_one 1 (relation rel.Lt a (literal 0 kind.Ring)) ∷ [])
      ∙ ap (growths on atomic line a less) (product_joined t fs (either minus_one 1 (relation rel.Lt a (literal 0 kind.Ring)) ∷ []))
  one_is on atomic line (expression a (expression b s)) less fs = refl

-- those of a right side, whatever the same parts are called
pub spread_from : (a b : NameSet) (c d : List Chosen) (m n : Option ℕ) (k l : ℕ) (e : Expression) (amount : AdjointExpression) (old new : List AdjointStatement)
    → a ≡ b → c ≡ d → m ≡ n → k ≡ l → amount ≡ t → new ≡ old ++ growths (λ x. has_name x a.names) (is_atomic_in c m) k e false amount
    → new ≡ old ++ increments (is_atomic_in d n) l (occurrences (λ x. has_name x b.names) e false [])
spread_from a b c d m n k l e amount old new ab cd mn kl at h =
    h ∙ ap (λ x. old ++ x) (rw (ab, cd, mn, kl, at) (sym (growths_are (λ x. has_name x b.names) (is_atomic_in d n) l e false [])))
