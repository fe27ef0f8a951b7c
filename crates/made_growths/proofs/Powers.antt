-- The factors of a power's base, one by one.
use Rattle.std.specs.Prelude.{◌≡◌, ℕ, zero, suc, ◌≤◌, List, [], ◌∷◌, ◌++◌, refl}
use Rattle.std.proofs.Common.{sym, subst, arith, append_assoc, append-nil}
use Rattle.fl_ast.specs.declared.kind.Kind.TheVariants.{Ring}
use Rattle.fl_ast.specs.Tree.{Expression, literal, power}
use Rattle.resolved.specs.SlotTables.{Names}
use Rattle.transposition.specs.Spread.{Factor, operand, power_factors}
use Rattle.undo_steps.specs.UndoSteps.{FactorTree}
use Rattle.made_growths.specs.Factors.{FactorsStand}

pub no_power : (names : Names) (fs : List Factor) (ts : List FactorTree) (a : Expression) (n : ℕ) → n ≡ 0 → FactorsStand names (fs ++ operand (literal 0 Ring) ∷ []) ts
    → FactorsStand names (fs ++ power_factors a n) ts
no_power names fs ts a n e h = subst (λ m. FactorsStand names (fs ++ power_factors a m) ts) (sym e) h

pub first_power : (names : Names) (fs : List Factor) (ts : List FactorTree) (a : Expression) (n : ℕ) → n ≡ 1 → FactorsStand names fs ts → FactorsStand names (fs ++ power_factors a n) ts
first_power names fs ts a n e h =
    subst (λ m. FactorsStand names (fs ++ power_factors a m) ts) (sym e) (subst (λ (l : List Factor). FactorsStand names l ts) (sym (append-nil fs)) h)

two_more : (names : Names) (fs : List Factor) (ts : List FactorTree) (x y : Factor) → FactorsStand names ((fs ++ x ∷ []) ++ y ∷ []) ts → FactorsStand names (fs ++ x ∷ y ∷ []) ts
two_more names fs ts x y h = subst (λ (l : List Factor). FactorsStand names l ts) (append_assoc fs (x ∷ []) (y ∷ [])) h

pub second_power : (names : Names) (fs : List Factor) (ts : List FactorTree) (a : Expression) (n : ℕ) → n ≡ 2
    → FactorsStand names ((fs ++ operand (literal n Ring) ∷ []) ++ operand a ∷ []) ts → FactorsStand names (fs ++ power_factors a n) ts
second_power names fs ts a n e h =
    subst (λ m. FactorsStand names (fs ++ power_factors a m) ts) (sym e)
    (two_more names fs ts (operand (literal 2 Ring)) (operand a) (subst (λ m. FactorsStand names ((fs ++ operand (literal m Ring) ∷ []) ++ operand a ∷ []) ts) e h))

powers : (a : Expression) (n m : ℕ) → n ≡ suc m → 2 ≤ m → power_factors a n ≡ operand (literal n Ring) ∷ operand (power a m) ∷ []
powers a n zero e l = absurd (omega (arith, l))
powers a n (suc zero) e l = absurd (omega (arith, l))
powers a n (suc (suc m)) e l = rw e refl

pub higher_power : (names : Names) (fs : List Factor) (ts : List FactorTree) (a : Expression) (n m : ℕ) → n ≡ suc m → 2 ≤ m
    → FactorsStand names ((fs ++ operand (literal n Ring) ∷ []) ++ operand (power a m) ∷ []) ts → FactorsStand names (fs ++ power_factors a n) ts
higher_power names fs ts a n m e l h =
    subst (λ (l : List Factor). FactorsStand names (fs ++ l) ts) (sym (powers a n m e l)) (two_more names fs ts _ _ h)

pub no_factors : (names : Names) (ts : List FactorTree) → ts ≡ [] → FactorsStand names [] ts
no_factors names [] h = record { back = refl; fit = refl }
no_factors names (t ∷ ts) h = absurd (cc)
