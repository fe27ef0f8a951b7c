-- What split trees stand for, and what their slots, kinds and places have to be.
use Rattle.std.specs.Prelude.{ℕ, ℤ, pos, negsuc, zero, suc, Bool, true, false, not, ◌&&◌, ◌||◌, nat_lt, nat_eq, List, [], ◌∷◌, length, Option, Some, None, slice_get}
use Rattle.fl_ast.specs.declared.kind.Kind.{Kind}
use Rattle.fl_ast.specs.declared.kind.Kind.TheVariants as kind
use Rattle.fl_ast.specs.declared.kind.BinOp.{BinOp}
use Rattle.fl_ast.specs.declared.kind.BinOp.TheVariants as op
use Rattle.fl_ast.specs.declared.kind.Fun.TheVariants.{Max, Min, Abs, Mod}
use Rattle.fl_ast.specs.Tree.{Expression, literal, get, minus, binary, power, call, Expressions, no_expressions, expression, Designator, Condition, relation, negation, conjunction, disjunction}
use Rattle.fl_types.specs.Kinds.{is_index_kind}
use Rattle.fl_types.specs.Sharing.{is_ring_kind}
use Rattle.store_core.specs.declared.layout.Shape.{Shape}
use Rattle.store_core.specs.Keys.{place_in_slot}
use Rattle.resolved.specs.SlotTables.{Names, kind_at}
use Rattle.resolved.specs.ResolvedExprs.{slot_name}
use Rattle.sweep_trees.specs.declared.code.RingOp.{RingOp}
use Rattle.sweep_trees.specs.declared.code.RingOp.TheVariants.{Add, Sub, Mul}
use Rattle.sweep_trees.specs.Split.{SpotTree, scalar, element, elements, IndexTree, number, index_get, index_minus, index_binary, index_power, index_larger, index_smaller, index_remainder, index_absolute, IndexTrees, no_indices, index, RingTree, word, ring_get, widened, ring_minus, ring_binary, ring_power, ring_larger, ring_smaller, ring_absolute, TestTree, index_test, ring_test, not_test, and_test, or_test}

-- ---- the expression that a split tree stands for, with the names of a layout for its slots

abbrev pub one : Expression → Expressions
one a = expression a no_expressions

abbrev pub two : Expression → Expression → Expressions
two a b = expression a (expression b no_expressions)

-- a number that stands in a program has no sign
abbrev pub number_back : ℤ → Expression
number_back (pos n) = literal n kind.Index
number_back (negsuc n) = minus (literal (suc n) kind.Index)

abbrev pub op_back : RingOp → BinOp
op_back Add = op.Add
op_back Sub = op.Sub
op_back Mul = op.Mul

abbrev mutual
  pub spot_back : List Shape → SpotTree → Designator
  spot_back shapes (scalar slot place accessed) = record { name = slot_name shapes slot; subscripts = no_expressions }
  spot_back shapes (element slot accessed i) = record { name = slot_name shapes slot; subscripts = one (index_back shapes i) }
  spot_back shapes (elements slot accessed is) = record { name = slot_name shapes slot; subscripts = indices_back shapes is }

  pub index_back : List Shape → IndexTree → Expression
  index_back shapes (number z) = number_back z
  index_back shapes (index_get p) = get (spot_back shapes p).name (spot_back shapes p).subscripts
  index_back shapes (index_minus a) = minus (index_back shapes a)
  index_back shapes (index_binary o a b) = binary o (index_back shapes a) (index_back shapes b)
  index_back shapes (index_power a n) = power (index_back shapes a) n
  index_back shapes (index_larger a b) = call Max (two (index_back shapes a) (index_back shapes b))
  index_back shapes (index_smaller a b) = call Min (two (index_back shapes a) (index_back shapes b))
  index_back shapes (index_remainder a b) = call Mod (two (index_back shapes a) (index_back shapes b))
  index_back shapes (index_absolute a) = call Abs (one (index_back shapes a))

  pub indices_back : List Shape → IndexTrees → Expressions
  indices_back shapes no_indices = no_expressions
  indices_back shapes (index i is) = expression (index_back shapes i) (indices_back shapes is)

abbrev pub ring_back : List Shape → RingTree → Expression
ring_back shapes (word x) = literal x kind.Ring
ring_back shapes (ring_get p) = get (spot_back shapes p).name (spot_back shapes p).subscripts
ring_back shapes (widened i) = index_back shapes i
ring_back shapes (ring_minus a) = minus (ring_back shapes a)
ring_back shapes (ring_binary o a b) = binary (op_back o) (ring_back shapes a) (ring_back shapes b)
ring_back shapes (ring_power a n) = power (ring_back shapes a) n
ring_back shapes (ring_larger a b) = call Max (two (ring_back shapes a) (ring_back shapes b))
ring_back shapes (ring_smaller a b) = call Min (two (ring_back shapes a) (ring_back shapes b))
ring_back shapes (ring_absolute a) = call Abs (one (ring_back shapes a))

abbrev pub test_back : List Shape → TestTree → Condition
test_back shapes (index_test o a b) = relation o (index_back shapes a) (index_back shapes b)
test_back shapes (ring_test o a b) = relation o (ring_back shapes a) (ring_back shapes b)
test_back shapes (not_test a) = negation (test_back shapes a)
test_back shapes (and_test a b) = conjunction (test_back shapes a) (test_back shapes b)
test_back shapes (or_test a b) = disjunction (test_back shapes a) (test_back shapes b)

-- ---- all slots are the table's, all kinds theirs, and all places and accesses those of the names

abbrev pub or_false : Option Bool → Bool
or_false None = false
or_false (Some b) = b

-- whether a slot's name makes accesses
abbrev pub is_accessed_at : List Bool → ℕ → Bool
is_accessed_at flags slot = or_false (slice_get flags slot)

abbrev pub same_flag : Bool → Bool → Bool
same_flag true b = b
same_flag false b = not b

abbrev pub is_place : Option ℕ → ℕ → Bool
is_place None p = false
is_place (Some q) p = nat_eq q p

-- the slot is one, of a kind, and its name makes accesses as it is said to
abbrev pub is_slot : Names → List Bool → (Kind → Bool) → ℕ → Bool → Bool
is_slot names flags of_kind slot accessed =
    nat_lt slot (length names.0) && (of_kind (kind_at names.1 slot) && same_flag accessed (is_accessed_at flags slot))

abbrev pub is_number : ℤ → Bool
is_number (pos n) = nat_lt n 2147483648
is_number (negsuc n) = false

abbrev mutual
  pub is_spot_fit : Names → List Bool → (Kind → Bool) → SpotTree → Bool
  is_spot_fit names flags of_kind (scalar slot place accessed) = is_slot names flags of_kind slot accessed && is_place (place_in_slot names.0 slot []) place
  is_spot_fit names flags of_kind (element slot accessed i) = is_slot names flags of_kind slot accessed && is_index_fit names flags i
  is_spot_fit names flags of_kind (elements slot accessed is) = is_slot names flags of_kind slot accessed && are_indices_fit names flags is

  pub is_index_fit : Names → List Bool → IndexTree → Bool
  is_index_fit names flags (number z) = is_number z
  is_index_fit names flags (index_get p) = is_spot_fit names flags is_index_kind p
  is_index_fit names flags (index_minus a) = is_index_fit names flags a
  is_index_fit names flags (index_binary o a b) = is_index_fit names flags a && is_index_fit names flags b
  is_index_fit names flags (index_power a n) = is_index_fit names flags a
  is_index_fit names flags (index_larger a b) = is_index_fit names flags a && is_index_fit names flags b
  is_index_fit names flags (index_smaller a b) = is_index_fit names flags a && is_index_fit names flags b
  is_index_fit names flags (index_remainder a b) = is_index_fit names flags a && is_index_fit names flags b
  is_index_fit names flags (index_absolute a) = is_index_fit names flags a

  pub are_indices_fit : Names → List Bool → IndexTrees → Bool
  are_indices_fit names flags no_indices = true
  are_indices_fit names flags (index i is) = is_index_fit names flags i && are_indices_fit names flags is

-- an expression of the index kind that is made one of the ring kind
abbrev pub is_widened : RingTree → Bool
is_widened (word x) = false
is_widened (ring_get p) = false
is_widened (widened i) = true
is_widened (ring_minus a) = false
is_widened (ring_binary o a b) = false
is_widened (ring_power a n) = false
is_widened (ring_larger a b) = false
is_widened (ring_smaller a b) = false
is_widened (ring_absolute a) = false

abbrev pub is_ring_fit : Names → List Bool → RingTree → Bool
is_ring_fit names flags (word x) = true
is_ring_fit names flags (ring_get p) = is_spot_fit names flags is_ring_kind p
is_ring_fit names flags (widened i) = is_index_fit names flags i
is_ring_fit names flags (ring_minus a) = not (is_widened a) && is_ring_fit names flags a
is_ring_fit names flags (ring_binary o a b) = not (is_widened a && is_widened b) && (is_ring_fit names flags a && is_ring_fit names flags b)
is_ring_fit names flags (ring_power a n) = not (is_widened a) && is_ring_fit names flags a
is_ring_fit names flags (ring_larger a b) = not (is_widened a || is_widened b) && (is_ring_fit names flags a && is_ring_fit names flags b)
is_ring_fit names flags (ring_smaller a b) = not (is_widened a || is_widened b) && (is_ring_fit names flags a && is_ring_fit names flags b)
is_ring_fit names flags (ring_absolute a) = not (is_widened a) && is_ring_fit names flags a

abbrev pub is_test_fit : Names → List Bool → TestTree → Bool
is_test_fit names flags (index_test o a b) = is_index_fit names flags a && is_index_fit names flags b
is_test_fit names flags (ring_test o a b) = not (is_widened a && is_widened b) && (is_ring_fit names flags a && is_ring_fit names flags b)
is_test_fit names flags (not_test a) = is_test_fit names flags a
is_test_fit names flags (and_test a b) = is_test_fit names flags a && is_test_fit names flags b
is_test_fit names flags (or_test a b) = is_test_fit names flags a && is_test_fit names flags b
