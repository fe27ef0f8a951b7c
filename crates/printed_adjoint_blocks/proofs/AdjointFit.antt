-- How large statements of an adjoint are, and whether they fit into a block.
use Rattle.std.proofs.Common.{◌≡◌, ℕ, ◌≤◌, max, Bool, true, false, ◌&&◌, ◌||◌, refl, arith}
use Rattle.std.proofs.lemmas.Bool.{and_parts}
use Rattle.fl_ast.specs.AdjointTree.{AdjointStatement, AdjointStatements, AdjointArms}
use Rattle.fl_ast.specs.ReadableAdjoint.{is_readable_adjoint_statement, are_readable_adjoint_statements, are_readable_adjoint_arms, has_parallel_adjoint, has_parallel_adjoints, has_parallel_adjoints_in, deepest_in_adjoint, deepest_in_adjoints, deepest_in_adjoint_arms, adjoint_block_depth, block_depth_of_adjoints, block_depth_of_adjoint_arms}

pub record Size : Type 0 where
  pub readable : Bool
  pub levels : ℕ
  pub blocks : ℕ
  pub parallel : Bool

abbrev pub size : AdjointStatement → Size
size t = record { readable = is_readable_adjoint_statement t; levels = deepest_in_adjoint t; blocks = adjoint_block_depth t; parallel = has_parallel_adjoint t }

abbrev pub size_of_all : AdjointStatements → Size
size_of_all ss = record { readable = are_readable_adjoint_statements ss; levels = deepest_in_adjoints ss; blocks = block_depth_of_adjoints ss; parallel = has_parallel_adjoints ss }

abbrev pub size_of_arms : AdjointArms → Size
size_of_arms as_ = record { readable = are_readable_adjoint_arms as_; levels = deepest_in_adjoint_arms as_; blocks = block_depth_of_adjoint_arms as_; parallel = has_parallel_adjoints_in as_ }

abbrev pub both : Size → Size → Size
both a b = record { readable = a.readable && b.readable; levels = max a.levels b.levels; blocks = max a.blocks b.blocks; parallel = a.parallel || b.parallel }

-- in so many blocks, in a parallel loop or not
pub record Fit (z : Size) (n : ℕ) (inside : Bool) : Type 0 where
  pub readable : z.readable ≡ true
  pub levels : z.levels ≤ 255
  pub blocks : z.blocks ≤ n
  pub single : (inside && z.parallel) ≡ false

single_left : (i p q : Bool) → (i && (p || q)) ≡ false → (i && p) ≡ false
single_left false p q h = refl
single_left true false q h = refl
single_left true true q h = h

single_right : (i p q : Bool) → (i && (p || q)) ≡ false → (i && q) ≡ false
single_right false p q h = refl
single_right true false q h = h
single_right true true q h = absurd (let g : true ≡ false = h in cc)

pub left : (a b : Size) (n : ℕ) (inside : Bool) → Fit (both a b) n inside → Fit a n inside
left a b n inside f =
    let levels = f.levels in
    let blocks = f.blocks in
    record { readable = (and_parts a.readable b.readable f.readable).0; levels = omega (arith, levels); blocks = omega (arith, blocks); single = single_left inside a.parallel b.parallel f.single }

pub right : (a b : Size) (n : ℕ) (inside : Bool) → Fit (both a b) n inside → Fit b n inside
right a b n inside f =
    let levels = f.levels in
    let blocks = f.blocks in
    record { readable = (and_parts a.readable b.readable f.readable).1; levels = omega (arith, levels); blocks = omega (arith, blocks); single = single_right inside a.parallel b.parallel f.single }

-- with a test that is readable and has so many levels
abbrev pub tested : Bool → ℕ → Size → Size
tested r d z = record { readable = r && z.readable; levels = max d z.levels; blocks = z.blocks; parallel = z.parallel }

pub untested : (r : Bool) (d : ℕ) (z : Size) (n : ℕ) (inside : Bool) → Fit (tested r d z) n inside → (r ≡ true) × ((d ≤ 256) × Fit z n inside)
untested r d z n inside f =
    let levels = f.levels in
    let parts = and_parts r z.readable f.readable in
    (parts.0, (omega (arith, levels), record { readable = parts.1; levels = omega (arith, levels); blocks = f.blocks; single = f.single }))
