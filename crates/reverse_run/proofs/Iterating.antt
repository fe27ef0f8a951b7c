-- What an iteration begins with, and the sums that it adds.
use Rattle.std.specs.Prelude.{◌≡◌, ◌<◌, ◌+◌, ℕ, zero, suc, Bool, true, nat_lt, List, [], ◌∷◌, ◌++◌, length, take, drop, slice_index_or, Option, refl}
use Rattle.std.proofs.Common.{ap, sym, arith}
use Rattle.std.proofs.lemmas.Bool.{and_parts}
use Rattle.std.proofs.lemmas.Bool.Decides.{nat_tests}
use Rattle.std.proofs.lemmas.List.{drop_more, get_or_default}
use Rattle.transposition.specs.Worlds.{Local}
use Rattle.sweep_steps.specs.declared.step.PrivateScalar.{PrivateScalar}
use Rattle.sweep_evaluation.proofs.Doing.{taken_more}
use Rattle.reverse_sweep.specs.Reversing.{Stage, reversing, opened_sum, closed_sum, own_value_set, own_adjoint_set}
use Rattle.reverse_sweep.specs.Machine.{Counts, private_refilled, privates_refilled, privates_cleared, opened_sums, closed_sums, variables_set}
use Rattle.reverse_state.specs.Holding.{Held, Gives, Leaves, word_taken, on_local, on_stage}
use Rattle.reverse_state.proofs.Joining.{leaves_both, leaves_by, gives_leaves}
use Rattle.reverse_run.specs.Undoing.{are_below}

pub below_at : (n : ℕ) (qs : List ℕ) (i : ℕ) → are_below n qs ≡ true → i < length qs → slice_index_or qs i 0 < n
below_at n [] i h l = absurd (omega (arith, l))
below_at n (q ∷ qs) zero h l = let p : nat_lt q n ≡ true = (and_parts (nat_lt q n) (are_below n qs) h).0 in grind (arith, nat_tests)
below_at n (q ∷ qs) (suc i) h l = below_at n qs i (and_parts (nat_lt q n) (are_below n qs) h).1 (omega (arith, l))

taken_by : {A : Type 0} (xs : List A) (i : ℕ) (d : A) → i < length xs → take (i + 1) xs ≡ take i xs ++ slice_index_or xs i d ∷ []
taken_by xs i d h = taken_more xs i (slice_index_or xs i d) h (get_or_default xs i d (slice_index_or xs i d) h)

pub refilled_more : (u v w : Held) (qs : List PrivateScalar) (i : ℕ) (d : PrivateScalar) → i < length qs → Leaves u v (on_local (privates_refilled u.shared (drop (i + 1) qs)))
    → Leaves v w (on_local (private_refilled v.shared (slice_index_or qs i d).pushes (slice_index_or qs i d).place)) → Leaves u w (on_local (privates_refilled u.shared (drop i qs)))
refilled_more u v w qs i d h a b =
    let q = slice_index_or qs i d in
    rw (drop_more qs i d h) (leaves_both {u = u} {v = v} {w = w} (λ n. on_local (privates_refilled n (drop (i + 1) qs))) (λ n. on_local (private_refilled n q.pushes q.place)) a b)

cleared_last : (n : ℕ) (qs : List PrivateScalar) (q : PrivateScalar) (l : Local) → privates_cleared n (qs ++ q ∷ []) l ≡ own_adjoint_set n q.place 0 (privates_cleared n qs l)
cleared_last n [] q l = refl
cleared_last n (r ∷ qs) q l = cleared_last n qs q (own_adjoint_set n r.place 0 l)

pub cleared_more : (u v w : Held) (qs : List PrivateScalar) (i : ℕ) (d : PrivateScalar) → i < length qs → Leaves u v (on_local (privates_cleared u.shared (take i qs)))
    → Leaves v w (on_local (own_adjoint_set v.shared (slice_index_or qs i d).place 0)) → Leaves u w (on_local (privates_cleared u.shared (take (i + 1) qs)))
cleared_more u v w qs i d h a b =
    let q = slice_index_or qs i d in
    rw (taken_by qs i d h)
    (leaves_by (λ s. ap (λ l. reversing l s.stage) (sym (cleared_last u.shared (take i qs) q s.local)))
    (leaves_both {u = u} {v = v} {w = w} (λ n. on_local (privates_cleared n (take i qs))) (λ n. on_local (own_adjoint_set n q.place 0)) a b))

pub opened_more : (u v w : Held) (qs : List ℕ) (i : ℕ) → i < length qs → Leaves u v (on_stage (opened_sums u.shared (drop (i + 1) qs)))
    → Leaves v w (on_stage (opened_sum (v.shared + slice_index_or qs i 0))) → Leaves u w (on_stage (opened_sums u.shared (drop i qs)))
opened_more u v w qs i h a b =
    rw (drop_more qs i 0 h) (leaves_both {u = u} {v = v} {w = w} (λ n. on_stage (opened_sums n (drop (i + 1) qs))) (λ n. on_stage (opened_sum (n + slice_index_or qs i 0))) a b)

closed_last : (n : ℕ) (qs : List ℕ) (q : ℕ) (g : Stage) → closed_sums n (qs ++ q ∷ []) g ≡ closed_sum (n + q) (closed_sums n qs g)
closed_last n [] q g = refl
closed_last n (r ∷ qs) q g = closed_last n qs q (closed_sum (n + r) g)

pub closed_more : (u v w : Held) (qs : List ℕ) (i : ℕ) → i < length qs → Leaves u v (on_stage (closed_sums u.shared (take i qs)))
    → Leaves v w (on_stage (closed_sum (v.shared + slice_index_or qs i 0))) → Leaves u w (on_stage (closed_sums u.shared (take (i + 1) qs)))
closed_more u v w qs i h a b =
    let q = slice_index_or qs i 0 in
    rw (taken_by qs i 0 h)
    (leaves_by (λ s. ap (λ g. reversing s.local g) (sym (closed_last u.shared (take i qs) q s.stage)))
    (leaves_both {u = u} {v = v} {w = w} (λ n. on_stage (closed_sums n (take i qs))) (λ n. on_stage (closed_sum (n + q))) a b))

pub prepared : (u v w x y : Held) (counts : Counts) (k : ℕ) (ps : List PrivateScalar) (qs : List ℕ) → Leaves u v (on_local (variables_set u.shared counts k)) → Leaves v w (on_local (privates_refilled v.shared ps))
    → Leaves w x (on_local (privates_cleared w.shared ps)) → Leaves x y (on_stage (opened_sums x.shared qs))
    → Leaves u y (λ s. reversing (privates_cleared u.shared ps (privates_refilled u.shared ps (variables_set u.shared counts k s.local))) (opened_sums u.shared qs s.stage))
prepared u v w x y counts k ps qs a b c d =
    leaves_both {u = u} {v = v} {w = y} (λ n. on_local (variables_set n counts k)) (λ n s. reversing (privates_cleared n ps (privates_refilled n ps s.local)) (opened_sums n qs s.stage)) a
    (leaves_both {u = v} {v = w} {w = y} (λ n. on_local (privates_refilled n ps)) (λ n s. reversing (privates_cleared n ps s.local) (opened_sums n qs s.stage)) b
    (leaves_both {u = w} {v = x} {w = y} (λ n. on_local (privates_cleared n ps)) (λ n. on_stage (opened_sums n qs)) c d))

pub refilled : (u v w : Held) (pushes : Bool) (place : Option ℕ) (x : ℕ) → pushes ≡ true → Gives u v x word_taken → Leaves v w (on_local (own_value_set v.shared place x)) → Leaves u w (on_local (private_refilled u.shared pushes place))
refilled u v w pushes place x e d a = rw e (gives_leaves {u = u} {v = v} {w = w} (λ n. word_taken) (λ n y. on_local (own_value_set n place y)) d a)
