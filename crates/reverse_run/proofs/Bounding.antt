-- Bounds of loops, from the words on a tape.
use Rattle.std.specs.Prelude.{◌≡◌, ℕ, ◌/◌, ◌%◌, ℤ, ◌+ℤ◌, ◌-ℤ◌, int_div, [], ◌∷◌, Option}
use Rattle.std.proofs.Common.{ap, sym, subst, ◌∙◌}
use Rattle.store_core.specs.Bounds.{clipped}
use Rattle.meaning.specs.declared.value.IterationCount.{IterationCount}
use Rattle.sweep_evaluation.specs.Machine.{ran, ◌to◌, narrow}
use Rattle.reverse_sweep.specs.Machine.{variable_set, variables_set}
use Rattle.reverse_state.specs.Holding.{Held, Gives, Leaves, word_taken, on_local}
use Rattle.reverse_state.proofs.Joining.{gives_nothing, gives_both, leaves_both}
use Rattle.reverse_run.specs.declared.bounds.Round.{Round}
use Rattle.reverse_run.specs.Undoing.{bounds_taken, round_back, counts_taken}

abbrev pub between : ℤ → ℤ → ℤ → IterationCount
between a b c = record { first = a; last = b; step = c; count = clipped (int_div ((b -ℤ a) +ℤ c) c) }

-- the step's word, then the last one's, then the first one's
taken : (u v w x : Held) (p q r : ℕ) → Gives u v p word_taken → Gives v w q word_taken → Gives w x r word_taken → Gives u x (between (narrow r) (narrow q) (narrow p)) bounds_taken
taken u v w x p q r d e f =
    gives_both {u = u} {v = v} {w = x} (λ n. word_taken) (λ n a s. word_taken s to (λ b t. word_taken t to (λ c. ran (between (narrow c) (narrow b) (narrow a))))) d
    (gives_both {u = v} {v = w} {w = x} (λ n. word_taken) (λ n b t. word_taken t to (λ c. ran (between (narrow c) (narrow b) (narrow p)))) e
    (gives_both {u = w} {v = x} {w = x} (λ n. word_taken) (λ n c. ran (between (narrow c) (narrow q) (narrow p))) f (gives_nothing x (between (narrow r) (narrow q) (narrow p)))))

pub bounds_given : (u v w x : Held) (p q r : ℕ) (a b c : ℤ) (t : IterationCount) → c ≡ narrow p → b ≡ narrow q → a ≡ narrow r → t ≡ between a b c
    → Gives u v p word_taken → Gives v w q word_taken → Gives w x r word_taken → Gives u x t bounds_taken
bounds_given u v w x p q r a b c t e f g h k l m =
    let i : t ≡ between (narrow r) (narrow q) (narrow p) = h ∙ (ap (λ z. between z b c) g ∙ (ap (λ z. between (narrow r) z c) f ∙ ap (λ z. between (narrow r) (narrow q) z) e)) in
    subst (λ (y : IterationCount). Gives u x y bounds_taken) (sym i) (taken u v w x p q r k l m)

pub one_given : (u v : Held) (place : Option ℕ) (t : IterationCount) → Gives u v t bounds_taken → Gives u v ((place, t) ∷ []) (counts_taken (place ∷ []))
one_given u v place t d = gives_both {u = u} {v = v} {w = v} (λ n. bounds_taken) (λ n y. ran ((place, y) ∷ [])) d (gives_nothing v ((place, t) ∷ []))

-- the inner loop's bounds are on top
pub two_given : (u v w : Held) (outer inner : Option ℕ) (s t : IterationCount) → Gives u v s bounds_taken → Gives v w t bounds_taken → Gives u w ((outer, t) ∷ (inner, s) ∷ []) (counts_taken (outer ∷ inner ∷ []))
two_given u v w outer inner s t d e =
    gives_both {u = u} {v = v} {w = w} (λ n. bounds_taken) (λ n y z. bounds_taken z to (λ x. ran ((outer, x) ∷ (inner, y) ∷ []))) d
    (gives_both {u = v} {v = w} {w = w} (λ n. bounds_taken) (λ n x. ran ((outer, x) ∷ (inner, s) ∷ [])) e (gives_nothing w ((outer, t) ∷ (inner, s) ∷ [])))

pub one_set : (u v : Held) (p : Round) (k a : ℕ) → a ≡ k → Leaves u v (on_local (variable_set u.shared p.place p.turns a)) → Leaves u v (on_local (variables_set u.shared (round_back p ∷ []) k))
one_set u v p k a e d = subst (λ b. Leaves u v (on_local (variable_set u.shared p.place p.turns b))) e d

pub two_set : (u v w : Held) (p q : Round) (k a b : ℕ) → a ≡ k / q.turns.count → b ≡ k % q.turns.count → Leaves u v (on_local (variable_set u.shared p.place p.turns a)) → Leaves v w (on_local (variable_set v.shared q.place q.turns b))
    → Leaves u w (on_local (variables_set u.shared (round_back p ∷ round_back q ∷ []) k))
two_set u v w p q k a b e f d g =
    leaves_both {u = u} {v = v} {w = w} (λ n. on_local (variable_set n p.place p.turns (k / q.turns.count))) (λ n. on_local (variable_set n q.place q.turns (k % q.turns.count)))
    (subst (λ i. Leaves u v (on_local (variable_set u.shared p.place p.turns i))) e d) (subst (λ i. Leaves v w (on_local (variable_set v.shared q.place q.turns i))) f g)
