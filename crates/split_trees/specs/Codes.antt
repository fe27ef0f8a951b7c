-- Split expressions of either kind, and when a split tree stands for a tree that is well kinded.
use Rattle.std.specs.Prelude.{◌≡◌, ℕ, Bool, true, not, ◌&&◌, List}
use Rattle.fl_ast.specs.declared.kind.Kind.{Kind}
use Rattle.fl_ast.specs.declared.kind.Kind.TheVariants.{Index, Ring}
use Rattle.fl_ast.specs.Tree.{Expression, Expressions, no_expressions, expression, Designator, Condition}
use Rattle.fl_types.specs.Kinds.{is_index_kind, kind_of_expression, is_well_kinded, is_index_expression}
use Rattle.meaning.specs.Fitting.{names_at}
use Rattle.store_core.specs.declared.layout.Shape.{Shape}
use Rattle.resolved.specs.SlotTables.{Names, kind_at, table_site}
use Rattle.sweep_trees.specs.Split.{SpotTree, scalar, element, elements, IndexTree, IndexTrees, RingTree, widened, ring_tree, index_tree, TestTree}
use Rattle.sweep_trees.specs.Standing.{spot_back, index_back, indices_back, ring_back, test_back, is_spot_fit, is_index_fit, are_indices_fit, is_widened, is_ring_fit, is_test_fit}
use Rattle.split_trees.specs.declared.code.Code.{Code}
use Rattle.split_trees.specs.declared.code.Code.TheVariants as code

-- a split expression of either kind
pub data CodeTree : Type 0 where
  ring_code : RingTree → CodeTree
  index_code : IndexTree → CodeTree

abbrev pub code_tree : Code → CodeTree
code_tree (code.Ring a) = ring_code (ring_tree a)
code_tree (code.Index i) = index_code (index_tree i)

abbrev pub code_kind : CodeTree → Kind
code_kind (ring_code a) = Ring
code_kind (index_code i) = Index

-- as one of the ring kind
abbrev pub as_ring : CodeTree → RingTree
as_ring (ring_code a) = a
as_ring (index_code i) = widened i

abbrev pub code_back : List Shape → CodeTree → Expression
code_back shapes (ring_code a) = ring_back shapes a
code_back shapes (index_code i) = index_back shapes i

-- what is widened is of the index kind
abbrev pub is_code_fit : Names → List Bool → CodeTree → Bool
is_code_fit names flags (ring_code a) = not (is_widened a) && is_ring_fit names flags a
is_code_fit names flags (index_code i) = is_index_fit names flags i

-- ---- what split trees have to be where trees are split

-- the kind of an expression over the names of a table
abbrev pub table_kind : Names → Expression → Kind
table_kind names e = kind_of_expression (names_at (table_site names)) e

abbrev pub is_kinded : Names → Expression → Bool
is_kinded names e = is_well_kinded (names_at (table_site names)) e

-- subscripts
abbrev pub are_index_expressions : Names → Expressions → Bool
are_index_expressions names no_expressions = true
are_index_expressions names (expression e es) = is_index_expression (names_at (table_site names)) e && are_index_expressions names es

pub record StandsFor (names : Names) (flags : List Bool) (e : Expression) (c : CodeTree) : Type 0 where
  pub back : code_back names.0 c ≡ e
  pub fit : is_code_fit names flags c ≡ true
  pub kind : code_kind c ≡ table_kind names e

abbrev pub spot_slot : SpotTree → ℕ
spot_slot (scalar slot place accessed) = slot
spot_slot (element slot accessed i) = slot
spot_slot (elements slot accessed is) = slot

-- an occurrence fits where its slot's kind does
pub record SpotStandsFor (names : Names) (flags : List Bool) (slot : ℕ) (p : Designator) (s : SpotTree) : Type 0 where
  pub slot_is : spot_slot s ≡ slot
  pub back : spot_back names.0 s ≡ p
  pub fit : (of_kind : Kind → Bool) → of_kind (kind_at names.1 slot) ≡ true → is_spot_fit names flags of_kind s ≡ true

pub record IndexStandsFor (names : Names) (flags : List Bool) (e : Expression) (i : IndexTree) : Type 0 where
  pub back : index_back names.0 i ≡ e
  pub fit : is_index_fit names flags i ≡ true

pub record IndicesStandFor (names : Names) (flags : List Bool) (es : Expressions) (is : IndexTrees) : Type 0 where
  pub back : indices_back names.0 is ≡ es
  pub fit : are_indices_fit names flags is ≡ true

-- what is of the index kind is widened
pub record RingStandsFor (names : Names) (flags : List Bool) (e : Expression) (a : RingTree) : Type 0 where
  pub back : ring_back names.0 a ≡ e
  pub fit : is_ring_fit names flags a ≡ true
  pub kind : is_widened a ≡ is_index_kind (table_kind names e)

pub record TestStandsFor (names : Names) (flags : List Bool) (t : Condition) (a : TestTree) : Type 0 where
  pub back : test_back names.0 a ≡ t
  pub fit : is_test_fit names flags a ≡ true
