-- Items by their numbers.
use Rattle.std.proofs.Common.{◌≡◌, ℕ, zero, suc, ◌<◌, ◌≤◌, true, false, ltb, List, [], ◌∷◌, map, length, get_or, Option, Some, None, IfSome, is_some, Bor, rules, refl, sym, ap, ◌∙◌, arith}
use Rattle.std.specs.Prelude.{option_map, option_copied}
use Rattle.std.proofs.lemmas.Bool.Decides.{nat_tests}
use Rattle.certificate_rules.specs.Surveys.{numbered}

beyond : {A : Type 0} (xs : List A) (n : ℕ) → length xs ≤ n → None ≡ numbered xs (suc n)
beyond [] n h = refl
beyond (x ∷ xs) zero h = absurd (omega arith)
beyond (x ∷ xs) (suc n) h = beyond xs n (omega arith)

there : {A : Type 0} (xs : List A) (n : ℕ) (x : A) → n < length xs → x ≡ get_or xs n x → Some x ≡ numbered xs (suc n)
there [] n x h e = absurd (omega arith)
there (y ∷ xs) zero x h e = ap Some e
there (y ∷ xs) (suc n) x h e = there xs n x (omega arith) e

-- what a look-up finds
pub numbered-got : {A : Type 0} (xs : List A) (n m : ℕ) (o : Option (Bor A)) → m ≡ suc n → is_some o ≡ ltb n (length xs) → IfSome o (λ x. x.now ≡ get_or xs n x.now) → option_copied o ≡ numbered xs m
numbered-got xs n m None e h g = beyond xs n (let t : false ≡ ltb n (length xs) = h in grind (arith, nat_tests, t)) ∙ ap (numbered xs) (sym e)
numbered-got xs n m (Some x) e h g = there xs n x.now (let t : true ≡ ltb n (length xs) = h in grind (arith, nat_tests, t)) (let w : x.now ≡ get_or xs n x.now = search (rules, g) in w) ∙ ap (numbered xs) (sym e)

pub numbered-map : {A B : Type 0} (f : A → B) (xs : List A) (n : ℕ) → numbered (map f xs) n ≡ option_map f (numbered xs n)
numbered-map f xs zero = refl
numbered-map f [] (suc n) = refl
numbered-map f (x ∷ xs) (suc zero) = refl
numbered-map f (x ∷ xs) (suc (suc n)) = numbered-map f xs (suc n)

pub mapped-some : {A B : Type 0} (f : A → B) (xs : List A) (n : ℕ) (x : A) → Some x ≡ numbered xs n → Some (f x) ≡ numbered (map f xs) n
mapped-some f xs n x e = ap (option_map f) e ∙ sym (numbered-map f xs n)

pub mapped-none : {A B : Type 0} (f : A → B) (xs : List A) (n : ℕ) → None ≡ numbered xs n → None ≡ numbered (map f xs) n
mapped-none f xs n e = ap (option_map f) e ∙ sym (numbered-map f xs n)
