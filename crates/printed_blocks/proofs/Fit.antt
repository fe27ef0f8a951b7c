-- How large statements are, and whether they fit behind others in a block.
use Rattle.std.proofs.Common.{◌≡◌, ℕ, suc, ◌+◌, ◌≤◌, max, Bool, true, false, ◌&&◌, ◌||◌, List, [], ◌∷◌, ◌++◌, length, refl, ap, subst, ◌∙◌, arith}
use Rattle.std.specs.Prelude.{◌==◌, nat_le}
use Rattle.std.proofs.lemmas.Bool.{and_parts}
use Rattle.std.proofs.lemmas.Bool.Decides.{nat_tests}
use Rattle.fl_ast.specs.Tree.{Statement, Statements, Arms}
use Rattle.fl_ast.specs.Measures.{deepest_in, deepest_in_all, deepest_in_arms, block_depth, block_depth_of_all, block_depth_of_arms, count, count_all, count_arms, loop_numbers, loop_numbers_of_all, loop_numbers_of_arms}
use Rattle.fl_ast.specs.Readable.{is_readable_statement, are_readable_statements, are_readable_arms, has_parallel, has_parallel_in, has_parallel_in_arms, counts_up_from}

pub record Size : Type 0 where
  pub readable : Bool
  pub levels : ℕ
  pub blocks : ℕ
  pub statements : ℕ
  pub numbers : List ℕ
  pub parallel : Bool

abbrev pub size : Statement → Size
size t = record { readable = is_readable_statement t; levels = deepest_in t; blocks = block_depth t; statements = count t; numbers = loop_numbers t; parallel = has_parallel t }

abbrev pub size_of_all : Statements → Size
size_of_all ss = record {
  readable = are_readable_statements ss;
  levels = deepest_in_all ss;
  blocks = block_depth_of_all ss;
  statements = count_all ss;
  numbers = loop_numbers_of_all ss;
  parallel = has_parallel_in ss;
}

abbrev pub size_of_arms : Arms → Size
size_of_arms as_ = record {
  readable = are_readable_arms as_;
  levels = deepest_in_arms as_;
  blocks = block_depth_of_arms as_;
  statements = count_arms as_;
  numbers = loop_numbers_of_arms as_;
  parallel = has_parallel_in_arms as_;
}

abbrev pub both : Size → Size → Size
both a b = record {
  readable = a.readable && b.readable;
  levels = max a.levels b.levels;
  blocks = max a.blocks b.blocks;
  statements = a.statements + b.statements;
  numbers = a.numbers ++ b.numbers;
  parallel = a.parallel || b.parallel;
}

-- in so many blocks, in a parallel loop or not, behind so many statements and loops
pub record Fit (z : Size) (n : ℕ) (inside : Bool) (at loops : ℕ) : Type 0 where
  pub readable : z.readable ≡ true
  pub levels : z.levels ≤ 64
  pub blocks : z.blocks ≤ n
  pub few : at + z.statements ≤ 4096
  pub numbered : counts_up_from (suc loops) z.numbers ≡ true
  pub single : (inside && z.parallel) ≡ false

counts_left : (n : ℕ) (xs ys : List ℕ) → counts_up_from n (xs ++ ys) ≡ true → counts_up_from n xs ≡ true
counts_left n [] ys h = refl
counts_left n (x ∷ xs) ys h =
    let p = and_parts (x == n) (counts_up_from (suc n) (xs ++ ys)) h in
    ap (λ t. t && counts_up_from (suc n) xs) p.0 ∙ counts_left (suc n) xs ys p.1

counts_right : (n m : ℕ) (xs ys : List ℕ) → m ≡ n + length xs → counts_up_from n (xs ++ ys) ≡ true → counts_up_from m ys ≡ true
counts_right n m [] ys e h = subst (λ (i : ℕ). counts_up_from i ys ≡ true) (omega (arith, e)) h
counts_right n m (x ∷ xs) ys e h =
    let p = and_parts (x == n) (counts_up_from (suc n) (xs ++ ys)) h in
    counts_right (suc n) m xs ys (omega (arith, e)) p.1

single_left : (i p q : Bool) → (i && (p || q)) ≡ false → (i && p) ≡ false
single_left false p q h = refl
single_left true false q h = refl
single_left true true q h = h

single_right : (i p q : Bool) → (i && (p || q)) ≡ false → (i && q) ≡ false
single_right false p q h = refl
single_right true false q h = h
single_right true true q h = absurd (let g : true ≡ false = h in cc)

max_left : (m n k : ℕ) → max m n ≤ k → m ≤ k
max_left m n k h = grind (arith, nat_tests)

max_right : (m n k : ℕ) → max m n ≤ k → n ≤ k
max_right m n k h = grind (arith, nat_tests)

pub left : (a b : Size) (n : ℕ) (inside : Bool) (at loops : ℕ) → Fit (both a b) n inside at loops → Fit a n inside at loops
left a b n inside at loops f =
    let few = f.few in
    record {
      readable = (and_parts a.readable b.readable f.readable).0;
      levels = max_left a.levels b.levels 64 f.levels;
      blocks = max_left a.blocks b.blocks n f.blocks;
      few = omega (arith, few);
      numbered = counts_left (suc loops) a.numbers b.numbers f.numbered;
      single = single_left inside a.parallel b.parallel f.single;
    }

pub right : (a b : Size) (n : ℕ) (inside : Bool) (at loops to until : ℕ) → to ≡ at + a.statements → until ≡ loops + length a.numbers → Fit (both a b) n inside at loops → Fit b n inside to until
right a b n inside at loops to until e g f =
    let few = f.few in
    record {
      readable = (and_parts a.readable b.readable f.readable).1;
      levels = max_right a.levels b.levels 64 f.levels;
      blocks = max_right a.blocks b.blocks n f.blocks;
      few = omega (arith, few, e);
      numbered = counts_right (suc loops) (suc until) a.numbers b.numbers (omega (arith, g)) f.numbered;
      single = single_right inside a.parallel b.parallel f.single;
    }

pub room : (z : Size) (n : ℕ) (inside : Bool) (at loops : ℕ) → 1 ≤ z.statements → Fit z n inside at loops → nat_le (at + 1) 4096 ≡ true
room z n inside at loops h f = let few = f.few in le (at + 1) (omega (arith, few, h))
  where
    le : (m : ℕ) → m ≤ 4096 → nat_le m 4096 ≡ true
    le m h = grind (arith, nat_tests)

-- ---- an If and a loop are blocks more

abbrev pub around : Size → Size
around z = record { readable = z.readable; levels = z.levels; blocks = z.blocks + 1; statements = 1 + z.statements; numbers = z.numbers; parallel = z.parallel }

pub within : (z : Size) (m : ℕ) (inside : Bool) (at loops : ℕ) → Fit (around z) (suc m) inside at loops → Fit z m inside (at + 1) loops
within z m inside at loops f =
    let few = f.few in
    let blocks = f.blocks in
    record { readable = f.readable; levels = f.levels; blocks = omega (arith, blocks); few = omega (arith, few); numbered = f.numbered; single = f.single }

-- with a test that is readable and has so many levels
abbrev pub tested : Bool → ℕ → Size → Size
tested r d z = record { readable = r && z.readable; levels = max d z.levels; blocks = z.blocks; statements = z.statements; numbers = z.numbers; parallel = z.parallel }

pub untested : (r : Bool) (d : ℕ) (z : Size) (n : ℕ) (inside : Bool) (at loops : ℕ) → Fit (tested r d z) n inside at loops → (r ≡ true) × (d ≤ 64) × Fit z n inside at loops
untested r d z n inside at loops f = (
  (and_parts r z.readable f.readable).0,
  max_left d z.levels 64 f.levels,
  record { readable = (and_parts r z.readable f.readable).1; levels = max_right d z.levels 64 f.levels; blocks = f.blocks; few = f.few; numbered = f.numbered; single = f.single },
)
