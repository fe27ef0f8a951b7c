-- Groups stand at sites with the keys of the run.
use Rattle.std.proofs.Common.{◌≡◌, ℕ, zero, suc, ◌+◌, Bool, true, false, ◌⊎◌, List, [], ◌∷◌, ◌++◌, refl, ap, sym, ◌∙◌, Result, Ok, Err}
use Rattle.std.specs.Prelude.{if◌then◌else◌}
use mathlib.Core.Logic.{inl, inr}
use Rattle.fl_ast.specs.Tree.{Statement, assignment, branch, loop, Statements, no_statements, statement, Arms, no_arms, arm}
use Rattle.fl_types.specs.declared.access.PathStep.{PathStep}
use Rattle.fl_types.specs.declared.access.PathStep.TheVariants.{Arm, Body}
use Rattle.fl_types.specs.Accesses.{statement_count, statements_count}
use Rattle.fl_types.specs.Nests.{iteration_body}
use Rattle.fl_types.specs.Sharing.{ParallelLoop}
use Rattle.meaning.specs.Sites.{Cells, Site, in_turn, in_iteration}
use Rattle.meaning.specs.Expressions.{holds}
use Rattle.meaning.specs.Statements.{Run, turns_of, value_at, turns, one_turn, Heads, run, run_all}
use Rattle.meaning.specs.Reached.{cells_with, iteration_cells}
use Rattle.meaning.specs.Groups.{Group, groups_from, groups_of_turns, groups_of, groups_of_all, groups_of_arms, groups_of_iteration}
use Rattle.index_law.specs.Meetings.{In}

pub split : {A : Type 0} (x : A) (xs ys : List A) → In x (xs ++ ys) → In x xs ⊎ In x ys
split x [] ys h = inr h
split x (y ∷ xs) ys (inl e) = inl (inl e)
split x (y ∷ xs) ys (inr h) = again (split x xs ys h)
  where
    again : In x xs ⊎ In x ys → In x (y ∷ xs) ⊎ In x ys
    again (inl m) = inl (inr m)
    again (inr m) = inr m

pub from_result : {X A : Type 0} (P : Type 0) (g : Group) (r : Result A X) (f : A → List Group) → ((a : A) → In g (f a) → P) → In g (groups_from r f) → P
from_result P g (Ok a) f h m = h a m
from_result P g (Err x) f h m = absurd m

pub by_side : {A B : Type 0} (P : Type 0) → A ⊎ B → (A → P) → (B → P) → P
by_side P (inl a) f g = f a
by_side P (inr b) f g = g b

pub from_turns : (P : Type 0) (g : Group) (n : ℕ) (f : ℕ → Run) (gs : ℕ → Cells → List Group) (cells : Cells) → ((k : ℕ) (c : Cells) → In g (gs k c) → P) → In g (groups_of_turns n f gs cells) → P
from_turns P g zero f gs cells h m = absurd m
from_turns P g (suc n) f gs cells h m =
    by_side P (split g (groups_of_turns n f gs cells) (groups_from (turns n f cells).out (gs n)) m) (from_turns P g n f gs cells h) (from_result P g (turns n f cells).out (gs n) (h n))

pub from_choice : (P : Type 0) (g : Group) (b : Bool) (xs ys : List Group) → (In g xs → P) → (In g ys → P) → In g (if b then xs else ys) → P
from_choice P g true xs ys h k m = h m
from_choice P g false xs ys h k m = k m

abbrev Keeps : Site → Group → Type 0
Keeps site g = g.site.keys ≡ site.keys

keeps_first : (site : Site) (u g : Group) → u.site ≡ site → u ≡ g → Keeps site g
keeps_first site u g e d = sym (ap (λ (w : Group). w.site.keys) d) ∙ ap (λ (w : Site). w.keys) e

mutual
  keys_one : (n : ℕ) (path : List PathStep) (s : Statement) (site : Site) (cells : Cells) (g : Group) → In g (groups_of n path s site cells) → Keeps site g
  keys_one n path (assignment line atomic p e) site cells g (inl d) = keeps_first site _ g refl d
  keys_one n path (assignment line atomic p e) site cells g (inr h) = absurd h
  keys_one n path (branch line arms other) site cells g h = keys_arms line n (n + 1) 0 path arms (λ k steps. groups_of_all k steps other) site cells g (λ k steps m. keys_all k steps other site cells g m) h
  keys_one n path (loop line number directive var low high step body) site cells g (inl d) = keeps_first site _ g refl d
  keys_one n path (loop line number directive var low high step body) site cells g (inr h) =
      from_result (Keeps site g) g (turns_of low high step site cells).out _
      (λ t m. from_turns (Keeps site g) g t.count (one_turn site var t (run_all body)) _ cells
      (λ k c w. keys_all (n + 1) (path ++ Body n ∷ []) body (in_turn site var) (cells_with site var (value_at t k) c) g w) m) h

  keys_all : (n : ℕ) (path : List PathStep) (ss : Statements) (site : Site) (cells : Cells) (g : Group) → In g (groups_of_all n path ss site cells) → Keeps site g
  keys_all n path no_statements site cells g h = absurd h
  keys_all n path (statement s ss) site cells g h = by_side (Keeps site g) (split g (groups_of n path s site cells) (groups_from (run s site cells).out (groups_of_all (n + statement_count s) path ss site)) h)
      (λ m. keys_one n path s site cells g m)
      (λ m. from_result (Keeps site g) g (run s site cells).out (groups_of_all (n + statement_count s) path ss site) (λ c w. keys_all (n + statement_count s) path ss site c g w) m)

  keys_arms : (line n k m : ℕ) (path : List PathStep) (arms : Arms) (other : ℕ → List PathStep → Site → Cells → List Group) (site : Site) (cells : Cells) (g : Group) →
      ((j : ℕ) (steps : List PathStep) → In g (other j steps site cells) → Keeps site g) → In g (groups_of_arms line n k m path arms other site cells) → Keeps site g
  keys_arms line n k m path no_arms other site cells g o h = o k (path ++ Arm n m ∷ []) h
  keys_arms line n k m path (arm test body arms) other site cells g o (inl d) = keeps_first site _ g refl d
  keys_arms line n k m path (arm test body arms) other site cells g o (inr h) =
      from_result (Keeps site g) g (holds test site cells).out _
      (λ b w. from_choice (Keeps site g) g b (groups_of_all k (path ++ Arm n m ∷ []) body site cells) (groups_of_arms line n (k + statements_count body) (m + 1) path arms other site cells)
      (λ z. keys_all k (path ++ Arm n m ∷ []) body site cells g z)
      (λ z. keys_arms line n (k + statements_count body) (m + 1) path arms other site cells g o z) w) h

pub keys_kept : (site : Site) (l : ParallelLoop) (heads : Heads) (k : ℕ) (cells : Cells) (g : Group) → In g (groups_of_iteration site l heads k cells) → g.site.keys ≡ site.keys
keys_kept site l heads k cells g h = keys_all 1 [] (iteration_body l.directive l.body) (in_iteration site l.directive l.var l.body) (iteration_cells site l.directive l.var l.body heads k cells) g h
