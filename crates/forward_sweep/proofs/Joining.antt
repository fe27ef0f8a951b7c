-- Steps of a forward sweep, one after the other.
use Rattle.std.specs.Prelude.{◌≡◌, ℕ, Bool, if◌then◌else◌, List, [], ◌∷◌, ◌++◌, map, refl}
use Rattle.std.proofs.Common.{sym}
use Rattle.ring_core.specs.Ring.{ring_add, ring_sub}
use Rattle.resolved.specs.SlotTables.{Names}
use Rattle.sweep_trees.specs.Split.{ring_tree}
use Rattle.sweep_steps.specs.declared.step.Term.{Term}
use Rattle.sweep_steps.specs.Steps.{term_tree}
use Rattle.sweep_evaluation.specs.Machine.{Ran, ran, ◌to◌, Does, ring_value}
use Rattle.sweep_evaluation.proofs.Doing.{does_both, does_nothing}
use Rattle.sweep_law.specs.Telling.{Standing, told}
use Rattle.forward_sweep.specs.Machine.{terms_sum}

terms_more : (names : Names) (x : Term) (xs : List Term) (n : ℕ) (s : Standing)
    → terms_sum names (map term_tree (xs ++ x ∷ [])) n s ≡ (terms_sum names (map term_tree xs) n s to (λ y t. ring_value told names (ring_tree x.value) t to (λ z. ran (if x.minus then ring_sub y z else ring_add y z))))
terms_more names x [] n s = refl
terms_more names x (r ∷ xs) n s =
    let q = ring_value told names (ring_tree r.value) s in
    terms_more names x xs (if r.minus then ring_sub n q.out else ring_add n q.out) q.state

does_by : {V A : Type 0} {stands : V → Standing → Type 0} {lost : V → Bool} {u v : V} {a : A} {m n : Standing → Ran Standing A} → ((s : Standing) → m s ≡ n s) → Does stands lost u v a m → Does stands lost u v a n
does_by e d = record { before = d.before; runs = λ l s x. rw (sym (e s)) (d.runs l s x) }

-- one term more
pub does_term : {V : Type 0} (stands : V → Standing → Type 0) (lost : V → Bool) (u v w : V) (names : Names) (xs : List Term) (x : Term) (n y z : ℕ)
    → Does stands lost u v y (terms_sum names (map term_tree xs) n) → Does stands lost v w z (ring_value told names (ring_tree x.value))
    → Does stands lost u w (if x.minus then ring_sub y z else ring_add y z) (terms_sum names (map term_tree (xs ++ x ∷ [])) n)
does_term stands lost u v w names xs x n y z d e =
    does_by (λ s. sym (terms_more names x xs n s))
    (does_both (terms_sum names (map term_tree xs) n) (λ a t. ring_value told names (ring_tree x.value) t to (λ b. ran (if x.minus then ring_sub a b else ring_add a b))) d
    (does_both (ring_value told names (ring_tree x.value)) (λ b. ran (if x.minus then ring_sub y b else ring_add y b)) e (does_nothing stands lost w (if x.minus then ring_sub y z else ring_add y z))))
