-- Calls one after the other.
use Rattle.std.specs.Prelude.{◌≡◌, ℕ, zero, suc, ◌+◌, ◌<◌, ◌≤◌, length, take, slice_index_or, ℤ, Bool, true, false, List, [], ◌∷◌, ◌++◌, refl}
use Rattle.std.proofs.Common.{ap, sym, ◌∙◌, arith}
use Rattle.resolved.specs.SlotTables.{Names}
use Rattle.sweep_trees.specs.declared.code.IndexCode.{IndexCode}
use Rattle.sweep_trees.specs.Split.{index_tree, index_trees}
use Rattle.sweep_evaluation.specs.Machine.{Ran, ran, ◌to◌, Told, Does, index_value, index_values}

-- nothing is done
pub does_nothing : {V S A : Type 0} (stands : V → S → Type 0) (lost : V → Bool) (v : V) (a : A) → Does stands lost v v a (ran a)
does_nothing stands lost v a = record { before = λ l. l; runs = λ l s x. (refl, x) }

-- a call, and then another by what the first one gave
pub does_both : {V S A B : Type 0} {stands : V → S → Type 0} {lost : V → Bool} {u v w : V} {a : A} {b : B} (m : S → Ran S A) (f : A → S → Ran S B)
    → Does stands lost u v a m → Does stands lost v w b (f a) → Does stands lost u w b (λ s. f (m s).out (m s).state)
does_both m f d e = record {
  before = λ l. d.before (e.before l);
  runs = λ l s x.
      let one = d.runs (e.before l) s x in
      let two = e.runs l (m s).state one.1 in
      (two.0 ∙ ap (λ c. (f c (m s).state).out) one.0, rw (sym one.0) two.1);
}

-- one subscript more
values_more : {S : Type 0} (told : Told S) (names : Names) (x : IndexCode) (xs : List IndexCode) (s : S)
    → index_values told names (index_trees (xs ++ x ∷ [])) s
    ≡ (index_values told names (index_trees xs) s to (λ zs t. index_value told names (index_tree x) t to (λ z. ran (zs ++ z ∷ []))))
values_more told names x [] s = refl
values_more told names x (y ∷ xs) s = rw (values_more told names x xs (index_value told names (index_tree y) s).state) refl

does_by : {V S A : Type 0} {stands : V → S → Type 0} {lost : V → Bool} {u v : V} {a : A} {m n : S → Ran S A} → ((s : S) → m s ≡ n s) → Does stands lost u v a m → Does stands lost u v a n
does_by e d = record { before = d.before; runs = λ l s x. rw (sym (e s)) (d.runs l s x) }

pub does_more : {V S : Type 0} (stands : V → S → Type 0) (lost : V → Bool) (u v w : V) (told : Told S) (names : Names) (xs : List IndexCode) (x : IndexCode) (zs : List ℤ) (z : ℤ)
    → Does stands lost u v zs (index_values told names (index_trees xs)) → Does stands lost v w z (index_value told names (index_tree x))
    → Does stands lost u w (zs ++ z ∷ []) (index_values told names (index_trees (xs ++ x ∷ [])))
does_more stands lost u v w told names xs x zs z d e =
    does_by (λ s. sym (values_more told names x xs s))
    (does_both (index_values told names (index_trees xs)) (λ ys t. index_value told names (index_tree x) t to (λ y. ran (ys ++ y ∷ []))) d
    (does_both (index_value told names (index_tree x)) (λ y. ran (zs ++ y ∷ [])) e (does_nothing stands lost w (zs ++ z ∷ []))))

taken_suc : {X : Type 0} (xs : List X) (i : ℕ) (x : X) → i < length xs → x ≡ slice_index_or xs i x → take (suc i) xs ≡ take i xs ++ x ∷ []
taken_suc [] i x h e = absurd (omega (arith, h))
taken_suc (y ∷ xs) zero x h e = rw e refl
taken_suc (y ∷ xs) (suc i) x h e = ap (λ ys. y ∷ ys) (taken_suc xs i x (omega (arith, h)) e)

pub taken_more : {X : Type 0} (xs : List X) (i : ℕ) (x : X) → i < length xs → x ≡ slice_index_or xs i x → take (i + 1) xs ≡ take i xs ++ x ∷ []
taken_more {X = X} xs i x h e = let n : i + 1 ≡ suc i = omega arith in rw n (taken_suc {X = X} xs i x h e)

pub taken_all : {X : Type 0} (xs : List X) (i : ℕ) → length xs ≤ i → take i xs ≡ xs
taken_all [] zero h = refl
taken_all [] (suc i) h = refl
taken_all (y ∷ xs) zero h = absurd (omega (arith, h))
taken_all (y ∷ xs) (suc i) h = ap (λ ys. y ∷ ys) (taken_all xs i (omega (arith, h)))
