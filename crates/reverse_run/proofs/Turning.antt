-- Turns and iterations, one after the other.
use Rattle.std.specs.Prelude.{◌≡◌, ℕ, suc, ◌+◌, true, false, refl}
use Rattle.std.proofs.Common.{subst, ◌∙◌, arith}
use Rattle.reverse_sweep.specs.Reversing.{Stage, Reversing}
use Rattle.reverse_sweep.specs.Machine.{turns_undone, iterations_undone}
use Rattle.reverse_state.specs.Holding.{Held, Home, HasStage, Stands, Keeps, Leaves}
use Rattle.reverse_state.proofs.Joining.{keeps_both}
use Rattle.reverse_run.specs.Undoing.{Works}

-- from here the k turns that are left lead where all n lead from the start
pub record IsLeft (u v : Held) (k n : ℕ) (f : ℕ → ℕ → Reversing → Reversing) : Type 0 where
  pub before : v.lost ≡ false → u.lost ≡ false
  pub keeps : v.lost ≡ false → Keeps u v
  pub leaves : v.lost ≡ false → (s : Reversing) → Stands u s → (t : Reversing) × (Stands v t × (turns_undone k (f u.shared) t ≡ turns_undone n (f u.shared) s))

pub all_left : (u : Held) (n : ℕ) (f : ℕ → ℕ → Reversing → Reversing) → IsLeft u u n n f
all_left u n f = record { before = λ l. l; keeps = λ l. record { shared = refl; home = refl }; leaves = λ l s h. (s, (h, refl)) }

pub fewer_left : (u v w : Held) (i k n : ℕ) (f : ℕ → ℕ → Reversing → Reversing) → i ≡ suc k → IsLeft u v i n f → Leaves v w (f v.shared k) → IsLeft u w k n f
fewer_left u v w i k n f e a b = record {
  before = λ l. a.before (b.before l);
  keeps = λ l. keeps_both (a.keeps (b.before l)) (b.keeps l);
  leaves = λ l s h.
      let r = a.leaves (b.before l) s h in
      let q : turns_undone (suc k) (f u.shared) r.0 ≡ turns_undone n (f u.shared) s = subst (λ j. turns_undone j (f u.shared) r.0 ≡ turns_undone n (f u.shared) s) e r.1.1 in
      (f u.shared k r.0, (subst (λ m. Stands w (f m k r.0)) (a.keeps (b.before l)).shared (b.leaves l r.0 r.1.0), q));
}

pub none_left : (u v : Held) (k n : ℕ) (f : ℕ → ℕ → Reversing → Reversing) → k ≡ 0 → IsLeft u v k n f → Leaves u v (turns_undone n (f u.shared))
none_left u v k n f e a = record {
  before = a.before;
  keeps = a.keeps;
  leaves = λ l s h.
      let r = a.leaves l s h in
      let q : turns_undone 0 (f u.shared) r.0 ≡ turns_undone n (f u.shared) s = subst (λ j. turns_undone j (f u.shared) r.0 ≡ turns_undone n (f u.shared) s) e r.1.1 in
      subst (λ t. Stands v t) q r.1.0;
}

-- memory was wanting, and nothing is said
pub lost_works : (u v : Held) (f : Home → Stage → Stage) → v.lost ≡ true → Works u v f
lost_works u v f e = record { before = λ l. cc; keeps = λ l. cc; stage = λ l m h g a. cc }

pub none_worked : (u : Held) → Works u u (λ m g. g)
none_worked u = record { before = λ l. l; keeps = λ l. record { shared = refl; home = refl }; stage = λ l m h g a. a }

-- one iteration more
pub works_more : (u v w : Held) (k : ℕ) (f : ℕ → Home → ℕ → Stage → Reversing) → Works u v (λ m. iterations_undone k (f u.shared m)) → Works v w (λ m g. (f v.shared m k g).stage)
    → Works u w (λ m. iterations_undone (k + 1) (f u.shared m))
works_more u v w k f a b =
    let s : k + 1 ≡ suc k = omega arith in
    rw s record {
      before = λ l. a.before (b.before l);
      keeps = λ l. keeps_both (a.keeps (b.before l)) (b.keeps l);
      stage = λ l m h g c.
          let i = b.before l in
          let n : Stage = iterations_undone k (f u.shared m) g in
          subst (λ j. HasStage w (f j m k n).stage) (a.keeps i).shared (b.stage l m ((a.keeps i).home ∙ h) n (a.stage i m h g c));
    }
