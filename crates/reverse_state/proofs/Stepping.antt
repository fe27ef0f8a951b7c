-- Steps of a reverse sweep.
use Rattle.std.specs.Prelude.{◌≡◌, ℕ, List, Option, Some, None, refl}
use Rattle.std.proofs.Common.{ap, sym, subst, ◌∙◌}
use Rattle.transposition.specs.Tapes.{Tape, Tapes, tape_at}
use Rattle.reverse_sweep.specs.Reversing.{Reversing, reversing, on_tape, first_sum, later_sums, added, closed_sum}
use Rattle.reverse_state.specs.Reading.{now_of, around_of}
use Rattle.reverse_state.specs.Holding.{Held, Home, home_by, Stands, KeepsStage, Leaves, on_stage, Begins}

some_home : (o : Option Home) (a b : Home) → o ≡ Some a → o ≡ Some b → a ≡ b
some_home o a b e f = cc

local_begun : (o : Option (Tapes × Tape)) (xs ys : List ℕ) (t : Tape) (k : ℕ) → ((a : Tapes × Tape) → o ≡ Some a → t ≡ tape_at a.0 k)
    → (m : Home) → home_by o xs ys ≡ Some m → record { tape = t; values = xs; adjoints = ys } ≡ on_tape (tape_at m.tapes k) m.entry
local_begun None xs ys t k f m e = cc
local_begun (Some a) xs ys t k f m e =
    let h : Home = record { tapes = a.0; entry = record { tape = a.1; values = xs; adjoints = ys } } in
    let q : h ≡ m = some_home (home_by (Some a) xs ys) h m refl e in
    ap (λ (u : Tape). record { tape = u; values = xs; adjoints = ys }) (f a refl) ∙ ap (λ (n : Home). on_tape (tape_at n.tapes k) n.entry) q

pub held_begun : (k : ℕ) (old new : Held) → KeepsStage old new → new.entry_values ≡ old.entry_values → new.entry_adjoints ≡ old.entry_adjoints → new.values ≡ old.entry_values → new.adjoints ≡ old.entry_adjoints
    → around_of new.reading ≡ around_of old.reading → ((a : Tapes × Tape) → around_of old.reading ≡ Some a → now_of new.reading ≡ tape_at a.0 k) → Begins k old new
held_begun k old new stage us vs xs ys around now = record {
  stage = stage;
  home = rw (around, us, vs) refl;
  local = λ m e. rw (xs, ys) (local_begun (around_of old.reading) old.entry_values old.entry_adjoints (now_of new.reading) k now m e);
}

-- the newest sum is gone, and what it came to is added
pub sum_closed : (old new : Held) (q a : ℕ) → a ≡ first_sum old.sums → Leaves (record old { sums = later_sums old.sums }) new (on_stage (added q a)) → Leaves old new (on_stage (closed_sum q))
sum_closed old new q a e h = record {
  before = h.before;
  keeps = λ l. record { shared = (h.keeps l).shared; home = (h.keeps l).home };
  leaves = λ l s t.
      let u : Reversing = reversing s.local (record s.stage { sums = later_sums s.stage.sums }) in
      let r : Stands new (on_stage (added q a) u) = h.leaves l u (record { local = t.local; stage = record { cells = t.stage.cells; sums = ap later_sums t.stage.sums; adds = t.stage.adds } }) in
      let f : a ≡ first_sum s.stage.sums = e ∙ sym (ap first_sum t.stage.sums) in
      subst (λ b. Stands new (on_stage (added q b) u)) f r;
}
