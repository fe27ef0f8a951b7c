-- Bounds of loops as numbers of 32 bits.
use Rattle.std.specs.Prelude.{◌≡◌, ◌≢◌, ℕ, ◌<◌, ℤ, pos, ◌+ℤ◌, ◌-ℤ◌, int_div, Bool, true, false, if◌then◌else◌, List, refl}
use Rattle.std.specs.Ordering.{int_eq}
use Rattle.std.proofs.Common.{w32, to_z, of_z, ap, sym, subst, ◌∙◌, arith}
use Rattle.std.proofs.lemmas.Int.{to_z-of_z}
use Rattle.std.specs.Cmp.{signed_Decides}
use Rattle.ring_core.specs.Index.{IsIndex}
use Rattle.store_core.specs.Bounds.{clipped}
use Rattle.meaning.specs.declared.value.IterationCount.{IterationCount}
use Rattle.meaning.proofs.Variables.{variables_fit}
use Rattle.dual_evaluation.specs.declared.stop.Halt.TheVariants.{ZeroDivisor}
use Rattle.dual_evaluation.proofs.Counts.{from_range}
use Rattle.sweep_evaluation.specs.Machine.{Ran, ran, Does}
use Rattle.sweep_law.specs.Telling.{Standing, told}
use Rattle.meaning.specs.Logs.{Touch}
use Rattle.meaning.specs.Stops.{Judge}
use Rattle.forward_state.specs.declared.run.Run.{Run}
use Rattle.forward_state.specs.Holding.{Holds, Leaves}
use Rattle.forward_sweep.specs.Machine.{counted, HasNumbers}

pub back : (r z : ℤ) → r ≡ z → IsIndex z → to_z w32 (of_z w32 r) ≡ z
back r z e h = ap (λ x. to_z w32 (of_z w32 x)) e ∙ to_z-of_z w32 z (from_range z h)

abbrev pub turns_from : ℤ → ℤ → ℤ → ℕ → IterationCount
turns_from a b c n = record { first = a; last = b; step = c; count = n }

counted_by : (t : Bool) (x y : Ran Standing IterationCount) → t ≡ true → (if t then x else y) ≡ x
counted_by true x y e = refl
counted_by false x y e = cc

counted_or : (t : Bool) (x y : Ran Standing IterationCount) → t ≡ false → (if t then x else y) ≡ y
counted_or true x y e = cc
counted_or false x y e = refl

zero_test : (c : ℤ) → c ≡ pos 0 → int_eq c (pos 0) ≡ true
zero_test c e = ap (λ x. int_eq x (pos 0)) e

other_test : (b : Bool) (c : ℤ) → int_eq c (pos 0) ≡ b → c ≢ pos 0 → int_eq c (pos 0) ≡ false
other_test true c e n = absurd (n ((signed_Decides c (pos 0)).0 e))
other_test false c e n = e

-- without a step
pub no_turns_counted : {V : Type 0} (stands : V → Standing → Type 0) (lost : V → Bool) (u v : V) (x : Unit {0}) (a b c p q r : ℤ) → p ≡ a → q ≡ b → r ≡ c → c ≡ pos 0
    → Does stands lost u v x (λ s. ran x (told.stopped s ZeroDivisor)) → Does stands lost u v (turns_from p q r 0) (counted a b c)
no_turns_counted stands lost u v x a b c p q r e f g z d = record {
  before = d.before;
  runs = λ l s h.
      let t = counted_by (int_eq c (pos 0)) (ran (turns_from a b c 0) (told.stopped s ZeroDivisor)) (ran (turns_from a b c (clipped (int_div ((b -ℤ a) +ℤ c) c))) s) (zero_test c z) in
      rw t (rw (e, f, g) refl, (d.runs l s h).1);
}

-- with one
pub turns_counted : {V : Type 0} (stands : V → Standing → Type 0) (lost : V → Bool) (u : V) (a b c p q r : ℤ) (n : ℕ) → p ≡ a → q ≡ b → r ≡ c → c ≢ pos 0 → n ≡ clipped (int_div ((b -ℤ a) +ℤ c) c)
    → Does stands lost u u (turns_from p q r n) (counted a b c)
turns_counted stands lost u a b c p q r n e f g z k = record {
  before = λ l. l;
  runs = λ l s h.
      let t = counted_or (int_eq c (pos 0)) (ran (turns_from a b c 0) (told.stopped s ZeroDivisor)) (ran (turns_from a b c (clipped (int_div ((b -ℤ a) +ℤ c) c))) s) (other_test (int_eq c (pos 0)) c refl z) in
      rw t (rw (e, f, g, k) refl, h);
}

pub turns_fit : (t : IterationCount) (a b c : ℤ) (n : ℕ) → t ≡ turns_from a b c n → IsIndex a → IsIndex b → IsIndex c → n ≡ clipped (int_div ((b -ℤ a) +ℤ c) c) → HasNumbers t
turns_fit t a b c n e h i j k =
    subst (λ (u : IterationCount). HasNumbers u) (sym e) record { first = h; last = i; step = j; variable = λ m l. variables_fit a b c m h i (subst (λ (o : ℕ). m < o) k l) }

pub zero_of : (b : Bool) (c : ℤ) → b ≡ true → b ≡ int_eq c (pos 0) → c ≡ pos 0
zero_of b c t e = (signed_Decides c (pos 0)).0 (sym e ∙ t)

pub no_turns_fit : (t : IterationCount) (a b c : ℤ) → t ≡ turns_from a b c 0 → IsIndex a → IsIndex b → IsIndex c → HasNumbers t
no_turns_fit t a b c e h i j = subst (λ (u : IterationCount). HasNumbers u) (sym e) record { first = h; last = i; step = j; variable = λ k l. absurd (omega (arith, l)) }

-- a step, and then an evaluation
pub leaves_does : {V A : Type 0} (run : V → Run) (watched : V → ℕ → List Touch → Type 0) (places : V → ℕ) (judge : Judge) (u v w : V) (a : A) (f : Standing → Standing) (m : Standing → Ran Standing A)
    → Leaves (run u) (run v) (watched u) (watched v) (places u) (places v) judge f → Does (λ x s. Holds (run x) (watched x) (places x) judge s) (λ x. (run x).lost) v w a m
    → Does (λ x s. Holds (run x) (watched x) (places x) judge s) (λ x. (run x).lost) u w a (λ s. m (f s))
leaves_does run watched places judge u v w a f m d e = record { before = λ l. d.was (e.before l); runs = λ l s h. e.runs l (f s) (d.leaves (e.before l) s h) }
