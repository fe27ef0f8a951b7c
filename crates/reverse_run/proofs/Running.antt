-- Increments of adjoints and terms, one after the other.
use Rattle.std.specs.Prelude.{◌≡◌, ℕ, if◌then◌else◌, List, [], ◌∷◌, ◌++◌, map, refl}
use Rattle.std.proofs.Common.{sym}
use Rattle.ring_core.specs.Ring.{ring_add, ring_sub, ring_mul}
use Rattle.resolved.specs.SlotTables.{Names}
use Rattle.sweep_trees.specs.Split.{ring_tree}
use Rattle.sweep_steps.specs.declared.step.Term.{Term}
use Rattle.sweep_steps.specs.Steps.{term_tree}
use Rattle.undo_steps.specs.declared.undo.Factor.{Factor}
use Rattle.undo_steps.specs.declared.undo.Growth.{Growth}
use Rattle.undo_steps.specs.UndoSteps.{factor_tree, growth_tree}
use Rattle.sweep_evaluation.specs.Machine.{ran, ◌to◌, ring_value}
use Rattle.reverse_sweep.specs.Reversing.{Reversing, told}
use Rattle.reverse_sweep.specs.Machine.{factor_value, product, growth_run, growths_run, rest_sum}
use Rattle.reverse_state.specs.Holding.{Held, Gives, Leaves}
use Rattle.reverse_state.proofs.Joining.{gives_nothing, gives_both, leaves_both, gives_by, leaves_by}

product_more : (names : Names) (n : ℕ) (xs : List Factor) (f : Factor) (x : ℕ) (s : Reversing)
    → product names n (map factor_tree (xs ++ f ∷ [])) x s ≡ (product names n (map factor_tree xs) x s to (λ y t. factor_value names n (factor_tree f) t to (λ z. ran (ring_mul y z))))
product_more names n [] f x s = refl
product_more names n (g ∷ xs) f x s = let q = factor_value names n (factor_tree g) s in product_more names n xs f (ring_mul x q.out) q.state

-- one factor more
pub gives_factor : (u v w : Held) (names : Names) (xs : List Factor) (f : Factor) (x y z : ℕ) → Gives u v y (product names u.shared (map factor_tree xs) x) → Gives v w z (factor_value names v.shared (factor_tree f))
    → Gives u w (ring_mul y z) (product names u.shared (map factor_tree (xs ++ f ∷ [])) x)
gives_factor u v w names xs f x y z d e =
    gives_by (λ s. sym (product_more names u.shared xs f x s))
    (gives_both {u = u} {v = v} {w = w} (λ n. product names n (map factor_tree xs) x) (λ n a t. factor_value names n (factor_tree f) t to (λ b. ran (ring_mul a b))) d
    (gives_both {u = v} {v = w} {w = w} (λ n. factor_value names n (factor_tree f)) (λ n b. ran (ring_mul y b)) e (gives_nothing w (ring_mul y z))))

sum_more : (names : Names) (n : ℕ) (xs : List Term) (r : Term) (x : ℕ) (s : Reversing)
    → rest_sum names n (map term_tree (xs ++ r ∷ [])) x s ≡ (rest_sum names n (map term_tree xs) x s to (λ y t. ring_value (told n) names (ring_tree r.value) t to (λ z. ran (if r.minus then ring_add y z else ring_sub y z))))
sum_more names n [] r x s = refl
sum_more names n (q ∷ xs) r x s = let v = ring_value (told n) names (ring_tree q.value) s in sum_more names n xs r (if q.minus then ring_add x v.out else ring_sub x v.out) v.state

-- one term more
pub gives_term : (u v w : Held) (names : Names) (xs : List Term) (r : Term) (x y z : ℕ) → Gives u v y (rest_sum names u.shared (map term_tree xs) x) → Gives v w z (ring_value (told v.shared) names (ring_tree r.value))
    → Gives u w (if r.minus then ring_add y z else ring_sub y z) (rest_sum names u.shared (map term_tree (xs ++ r ∷ [])) x)
gives_term u v w names xs r x y z d e =
    gives_by (λ s. sym (sum_more names u.shared xs r x s))
    (gives_both {u = u} {v = v} {w = w} (λ n. rest_sum names n (map term_tree xs) x) (λ n a t. ring_value (told n) names (ring_tree r.value) t to (λ b. ran (if r.minus then ring_add a b else ring_sub a b))) d
    (gives_both {u = v} {v = w} {w = w} (λ n. ring_value (told n) names (ring_tree r.value)) (λ n b. ran (if r.minus then ring_add y b else ring_sub y b)) e (gives_nothing w (if r.minus then ring_add y z else ring_sub y z))))

growths_more : (names : Names) (n x : ℕ) (xs : List Growth) (g : Growth) (s : Reversing) → growths_run names n x (map growth_tree (xs ++ g ∷ [])) s ≡ growth_run names n x (growth_tree g) (growths_run names n x (map growth_tree xs) s)
growths_more names n x [] g s = refl
growths_more names n x (h ∷ xs) g s = growths_more names n x xs g (growth_run names n x (growth_tree h) s)

-- one increment more
pub leaves_growth : (u v w : Held) (names : Names) (x : ℕ) (xs : List Growth) (g : Growth) → Leaves u v (growths_run names u.shared x (map growth_tree xs)) → Leaves v w (growth_run names v.shared x (growth_tree g))
    → Leaves u w (growths_run names u.shared x (map growth_tree (xs ++ g ∷ [])))
leaves_growth u v w names x xs g d e =
    leaves_by (λ s. sym (growths_more names u.shared x xs g s))
    (leaves_both {u = u} {v = v} {w = w} (λ n. growths_run names n x (map growth_tree xs)) (λ n. growth_run names n x (growth_tree g)) d e)
