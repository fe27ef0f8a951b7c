-- Groups that a run evaluates, by the results and turns that they follow.
use Rattle.std.proofs.Common.{◌≡◌, ℕ, zero, suc, ◌<◌, Bool, true, false, List, ◌++◌, sym, subst, refl, arith, Result, Ok}
use Rattle.std.specs.Prelude.{nat_eq}
use Rattle.std.proofs.lemmas.Bool.Decides.{nat_tests}
use Rattle.meaning.specs.Sites.{Cells}
use Rattle.meaning.specs.Statements.{Run, turns}
use Rattle.meaning.specs.Groups.{Group, groups_from, groups_of_turns}
use Rattle.meaning.proofs.Parts.{bound}
use Rattle.index_law.specs.Meetings.{In}
use Rattle.index_law.proofs.GroupKeys.{split, by_side}
use Rattle.index_law.proofs.Meets.{in_left, in_right}

pub in_result : {X A : Type 0} (g : Group) (r : Result A X) (a : A) (f : A → List Group) → r ≡ Ok a → In g (f a) → In g (groups_from r f)
in_result {X} {A} g r a f e h = subst (λ (w : Result A X). In g (groups_from w f)) (sym e) h

pub of_result : {X A : Type 0} (g : Group) (r : Result A X) (a : A) (f : A → List Group) → r ≡ Ok a → In g (groups_from r f) → In g (f a)
of_result {X} {A} g r a f e h = subst (λ (w : Result A X). In g (groups_from w f)) e h

-- a turn with a group
pub record TurnOf (g : Group) (n : ℕ) (f : ℕ → Run) (gs : ℕ → Cells → List Group) (cells : Cells) : Type 0 where
  pub number : ℕ
  pub within : number < n
  pub before : Cells
  pub reached : (turns number f cells).out ≡ Ok before
  pub has : In g (gs number before)

pub turn_of : (g : Group) (n : ℕ) (f : ℕ → Run) (gs : ℕ → Cells → List Group) (cells d : Cells) → (turns n f cells).out ≡ Ok d → In g (groups_of_turns n f gs cells) → TurnOf g n f gs cells
turn_of g zero f gs cells d r h = absurd h
turn_of g (suc n) f gs cells d r h =
    let b = bound (turns n f cells) (f n) d r in
    by_side (TurnOf g (suc n) f gs cells) (split g (groups_of_turns n f gs cells) (groups_from (turns n f cells).out (gs n)) h)
    (λ m. let t = turn_of g n f gs cells b.value b.first m in let i = t.within in record { number = t.number; within = omega (arith, i); before = t.before; reached = t.reached; has = t.has })
    (λ m. record { number = n; within = omega arith; before = b.value; reached = b.first; has = of_result g (turns n f cells).out b.value (gs n) b.first m })

pub in_turns : (g : Group) (n k : ℕ) (f : ℕ → Run) (gs : ℕ → Cells → List Group) (cells before : Cells) → k < n → (turns k f cells).out ≡ Ok before → In g (gs k before) → In g (groups_of_turns n f gs cells)
in_turns g zero k f gs cells before w r h = absurd (omega (arith, w))
in_turns g (suc n) k f gs cells before w r h = by_last (nat_eq k n) refl (λ i. in_turns g n k f gs cells before i r h)
  where
    here : k ≡ n → In g (groups_from (turns n f cells).out (gs n))
    here e = subst (λ (z : ℕ). In g (groups_from (turns z f cells).out (gs z))) e (in_result g (turns k f cells).out before (gs k) r h)

    by_last : (b : Bool) → nat_eq k n ≡ b → (k < n → In g (groups_of_turns n f gs cells)) → In g (groups_of_turns n f gs cells ++ groups_from (turns n f cells).out (gs n))
    by_last true e again = in_right g (groups_of_turns n f gs cells) (groups_from (turns n f cells).out (gs n)) (here (grind (arith, nat_tests)))
    by_last false e again = in_left g (groups_of_turns n f gs cells) (groups_from (turns n f cells).out (gs n)) (again (grind (arith, nat_tests)))
