-- Steps of a reverse sweep, one after the other. Each may depend on the number of shared places, which stays.
use Rattle.std.specs.Prelude.{◌≡◌, ℕ, refl}
use Rattle.std.proofs.Common.{sym, subst, ◌∙◌}
use Rattle.sweep_evaluation.specs.Machine.{Ran, ran}
use Rattle.reverse_sweep.specs.Reversing.{Reversing}
use Rattle.reverse_state.specs.Holding.{Held, Stands, Keeps, Gives, Leaves}

pub keeps_both : {u v w : Held} → Keeps u v → Keeps v w → Keeps u w
keeps_both a b = record { shared = b.shared ∙ a.shared; home = b.home ∙ a.home }

pub gives_nothing : {A : Type 0} (u : Held) (a : A) → Gives u u a (ran a)
gives_nothing u a = record { before = λ l. l; keeps = λ l. record { shared = refl; home = refl }; runs = λ l s h. (refl, h) }

pub leaves_all : (u : Held) → Leaves u u (λ s. s)
leaves_all u = record { before = λ l. l; keeps = λ l. record { shared = refl; home = refl }; leaves = λ l s h. h }

-- a call, and then another by what the first one gave
pub gives_both : {A B : Type 0} {u v w : Held} {a : A} {b : B} (m : ℕ → Reversing → Ran Reversing A) (f : ℕ → A → Reversing → Ran Reversing B)
    → Gives u v a (m u.shared) → Gives v w b (f v.shared a) → Gives u w b (λ s. f u.shared (m u.shared s).out (m u.shared s).state)
gives_both {u = u} {v = v} {w = w} {a = a} {b = b} m f d e = record {
  before = λ l. d.before (e.before l);
  keeps = λ l. keeps_both (d.keeps (e.before l)) (e.keeps l);
  runs = λ l s h.
      let k : v.shared ≡ u.shared = (d.keeps (e.before l)).shared in
      let one = d.runs (e.before l) s h in
      let two : (b ≡ (f v.shared a (m u.shared s).state).out) × Stands w (f v.shared a (m u.shared s).state).state = e.runs l (m u.shared s).state one.1 in
      let three : (b ≡ (f u.shared a (m u.shared s).state).out) × Stands w (f u.shared a (m u.shared s).state).state = subst (λ n. (b ≡ (f n a (m u.shared s).state).out) × Stands w (f n a (m u.shared s).state).state) k two in
      subst (λ x. (b ≡ (f u.shared x (m u.shared s).state).out) × Stands w (f u.shared x (m u.shared s).state).state) one.0 three;
}

-- a call, and then a step by what it gave
pub gives_leaves : {A : Type 0} {u v w : Held} {a : A} (m : ℕ → Reversing → Ran Reversing A) (f : ℕ → A → Reversing → Reversing)
    → Gives u v a (m u.shared) → Leaves v w (f v.shared a) → Leaves u w (λ s. f u.shared (m u.shared s).out (m u.shared s).state)
gives_leaves {u = u} {v = v} {w = w} {a = a} m f d e = record {
  before = λ l. d.before (e.before l);
  keeps = λ l. keeps_both (d.keeps (e.before l)) (e.keeps l);
  leaves = λ l s h.
      let k : v.shared ≡ u.shared = (d.keeps (e.before l)).shared in
      let one = d.runs (e.before l) s h in
      let two : Stands w (f v.shared a (m u.shared s).state) = e.leaves l (m u.shared s).state one.1 in
      let three : Stands w (f u.shared a (m u.shared s).state) = subst (λ n. Stands w (f n a (m u.shared s).state)) k two in
      subst (λ x. Stands w (f u.shared x (m u.shared s).state)) one.0 three;
}

pub leaves_both : {u v w : Held} (f g : ℕ → Reversing → Reversing) → Leaves u v (f u.shared) → Leaves v w (g v.shared) → Leaves u w (λ s. g u.shared (f u.shared s))
leaves_both {u = u} {v = v} {w = w} f g d e = record {
  before = λ l. d.before (e.before l);
  keeps = λ l. keeps_both (d.keeps (e.before l)) (e.keeps l);
  leaves = λ l s h.
      let k : v.shared ≡ u.shared = (d.keeps (e.before l)).shared in
      subst (λ n. Stands w (g n (f u.shared s))) k (e.leaves l (f u.shared s) (d.leaves (e.before l) s h));
}

pub leaves_gives : {A : Type 0} {u v w : Held} {a : A} (f : ℕ → Reversing → Reversing) (m : ℕ → Reversing → Ran Reversing A)
    → Leaves u v (f u.shared) → Gives v w a (m v.shared) → Gives u w a (λ s. m u.shared (f u.shared s))
leaves_gives {u = u} {v = v} {w = w} {a = a} f m d e = record {
  before = λ l. d.before (e.before l);
  keeps = λ l. keeps_both (d.keeps (e.before l)) (e.keeps l);
  runs = λ l s h.
      let k : v.shared ≡ u.shared = (d.keeps (e.before l)).shared in
      subst (λ n. (a ≡ (m n (f u.shared s)).out) × Stands w (m n (f u.shared s)).state) k (e.runs l (f u.shared s) (d.leaves (e.before l) s h));
}

pub gives_by : {A : Type 0} {u v : Held} {a : A} {m f : Reversing → Ran Reversing A} → ((s : Reversing) → m s ≡ f s) → Gives u v a m → Gives u v a f
gives_by e d = record { before = d.before; keeps = d.keeps; runs = λ l s h. rw (sym (e s)) (d.runs l s h) }

pub leaves_by : {u v : Held} {f g : Reversing → Reversing} → ((s : Reversing) → f s ≡ g s) → Leaves u v f → Leaves u v g
leaves_by e d = record { before = d.before; keeps = d.keeps; leaves = λ l s h. rw (sym (e s)) (d.leaves l s h) }
