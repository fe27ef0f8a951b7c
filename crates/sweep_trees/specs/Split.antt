-- Split trees as plain data, and the tree that each value of the program's types stands for.
use Rattle.std.specs.Prelude.{ℕ, ℤ, Bool, List, [], ◌∷◌, map}
use Rattle.fl_ast.specs.declared.kind.BinOp.{BinOp}
use Rattle.fl_ast.specs.declared.kind.RelOp.{RelOp}
use Rattle.sweep_trees.specs.declared.code.RingOp.{RingOp}
use Rattle.sweep_trees.specs.declared.code.Spot.{Spot, fold-Spot}
use Rattle.sweep_trees.specs.declared.code.IndexCode.{IndexCode, fold-IndexCode}
use Rattle.sweep_trees.specs.declared.code.IndexCode.TheOpen.{Spot-F, IndexCode-F}
use Rattle.sweep_trees.specs.declared.code.RingCode.{RingCode, fold-RingCode}
use Rattle.sweep_trees.specs.declared.code.RingCode.TheOpen.{RingCode-F}
use Rattle.sweep_trees.specs.declared.code.TestCode.{TestCode, fold-TestCode}
use Rattle.sweep_trees.specs.declared.code.TestCode.TheOpen.{TestCode-F}

mutual
  -- an occurrence of the name of a slot
  pub data SpotTree : Type 0 where
    scalar : (slot place : ℕ) → (accessed : Bool) → SpotTree
    element : (slot : ℕ) → (accessed : Bool) → IndexTree → SpotTree
    elements : (slot : ℕ) → (accessed : Bool) → IndexTrees → SpotTree

  pub data IndexTree : Type 0 where
    number : ℤ → IndexTree
    index_get : SpotTree → IndexTree
    index_minus : IndexTree → IndexTree
    index_binary : BinOp → (left right : IndexTree) → IndexTree
    index_power : IndexTree → ℕ → IndexTree
    index_larger : (left right : IndexTree) → IndexTree
    index_smaller : (left right : IndexTree) → IndexTree
    index_remainder : (left right : IndexTree) → IndexTree
    index_absolute : IndexTree → IndexTree

  pub data IndexTrees : Type 0 where
    no_indices : IndexTrees
    index : IndexTree → IndexTrees → IndexTrees

pub data RingTree : Type 0 where
  word : ℕ → RingTree
  ring_get : SpotTree → RingTree
  widened : IndexTree → RingTree
  ring_minus : RingTree → RingTree
  ring_binary : RingOp → (left right : RingTree) → RingTree
  ring_power : RingTree → ℕ → RingTree
  ring_larger : (left right : RingTree) → RingTree
  ring_smaller : (left right : RingTree) → RingTree
  ring_absolute : RingTree → RingTree

pub data TestTree : Type 0 where
  index_test : RelOp → (left right : IndexTree) → TestTree
  ring_test : RelOp → (left right : RingTree) → TestTree
  not_test : TestTree → TestTree
  and_test : (left right : TestTree) → TestTree
  or_test : (left right : TestTree) → TestTree

abbrev pub indices_of : List IndexTree → IndexTrees
indices_of [] = no_indices
indices_of (i ∷ is) = index i (indices_of is)

abbrev pub spot_level : Spot-F IndexTree SpotTree → SpotTree
spot_level (Spot-F.Scalar slot place accessed) = scalar slot place accessed
spot_level (Spot-F.Element slot accessed i) = element slot accessed i
spot_level (Spot-F.Elements slot accessed is) = elements slot accessed (indices_of is)

abbrev pub index_level : IndexCode-F IndexTree SpotTree → IndexTree
index_level (IndexCode-F.Number z) = number z
index_level (IndexCode-F.Get p) = index_get p
index_level (IndexCode-F.Negated a) = index_minus a
index_level (IndexCode-F.Binary op a b) = index_binary op a b
index_level (IndexCode-F.Power a n) = index_power a n
index_level (IndexCode-F.Larger a b) = index_larger a b
index_level (IndexCode-F.Smaller a b) = index_smaller a b
index_level (IndexCode-F.Remainder a b) = index_remainder a b
index_level (IndexCode-F.Absolute a) = index_absolute a

abbrev pub spot_tree : Spot → SpotTree
spot_tree = fold-Spot IndexTree SpotTree index_level spot_level

abbrev pub index_tree : IndexCode → IndexTree
index_tree = fold-IndexCode IndexTree SpotTree index_level spot_level

abbrev pub index_trees : List IndexCode → IndexTrees
index_trees is = indices_of (map index_tree is)

abbrev pub ring_level : RingCode-F RingTree → RingTree
ring_level (RingCode-F.Word x) = word x
ring_level (RingCode-F.Get p) = ring_get (spot_tree p)
ring_level (RingCode-F.Widened i) = widened (index_tree i)
ring_level (RingCode-F.Negated a) = ring_minus a
ring_level (RingCode-F.Binary op a b) = ring_binary op a b
ring_level (RingCode-F.Power a n) = ring_power a n
ring_level (RingCode-F.Larger a b) = ring_larger a b
ring_level (RingCode-F.Smaller a b) = ring_smaller a b
ring_level (RingCode-F.Absolute a) = ring_absolute a

abbrev pub ring_tree : RingCode → RingTree
ring_tree = fold-RingCode RingTree ring_level

abbrev pub test_level : TestCode-F TestTree → TestTree
test_level (TestCode-F.Indices op a b) = index_test op (index_tree a) (index_tree b)
test_level (TestCode-F.Rings op a b) = ring_test op (ring_tree a) (ring_tree b)
test_level (TestCode-F.Not a) = not_test a
test_level (TestCode-F.And a b) = and_test a b
test_level (TestCode-F.Or a b) = or_test a b

abbrev pub test_tree : TestCode → TestTree
test_tree = fold-TestCode TestTree test_level
