-- Lists that grow at their end.
use Rattle.std.proofs.Common.{◌≡◌, ℕ, suc, ◌+◌, ◌-◌, ◌<◌, List, [], ◌∷◌, ◌++◌, refl, sym, ap, ◌∙◌, arith}
use Rattle.certificate_rules.specs.Plain.{numbers_from}

pub assoc : {A : Type 0} (a : List A) (x : A) (b : List A) → (a ++ x ∷ []) ++ b ≡ a ++ x ∷ b
assoc [] x b = refl
assoc (y ∷ a) x b = ap (λ l. y ∷ l) (assoc a x b)

pub none-behind : {A : Type 0} (a : List A) → a ++ [] ≡ a
none-behind [] = refl
none-behind (y ∷ a) = ap (λ l. y ∷ l) (none-behind a)

one-number : (n k m : ℕ) → k ≡ suc m → numbers_from n k ≡ n ∷ numbers_from (suc n) m
one-number n k m e = ap (numbers_from n) e

pub numbers-step : (from count i n : ℕ) (all new : List ℕ) → i < count → n ≡ from + i → new ≡ all ++ n ∷ [] → all ++ numbers_from (from + i) (count - i) ≡ numbers_from from count → new ++ numbers_from (from + suc i) (count - suc i) ≡ numbers_from from count
numbers-step from count i n all new h e d w =
    let k : from + suc i ≡ suc (from + i) = omega arith in
    ap (λ (l : List ℕ). l ++ numbers_from (from + suc i) (count - suc i)) d ∙ assoc all n (numbers_from (from + suc i) (count - suc i))
    ∙ ap (λ (m : ℕ). all ++ m ∷ numbers_from (from + suc i) (count - suc i)) e ∙ ap (λ (m : ℕ). all ++ (from + i) ∷ numbers_from m (count - suc i)) k
    ∙ ap (λ (l : List ℕ). all ++ l) (sym (one-number (from + i) (count - i) (count - suc i) (omega arith))) ∙ w
