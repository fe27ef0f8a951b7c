-- Statements of sweeps as plain data, and the tree that each value of the program's types stands for.
use Rattle.std.specs.Prelude.{ℕ, Bool, List, [], ◌∷◌, map, Option, Some, None}
use Rattle.fl_types.specs.declared.access.AccessKind.{AccessKind}
use Rattle.sweep_trees.specs.declared.code.IndexCode.{IndexCode}
use Rattle.sweep_trees.specs.declared.code.TestCode.{TestCode}
use Rattle.sweep_trees.specs.Split.{SpotTree, IndexTree, RingTree, TestTree, spot_tree, index_tree, ring_tree, test_tree}
use Rattle.split_trees.specs.Codes.{CodeTree, code_tree}
use Rattle.sweep_steps.specs.declared.step.Term.{Term}
use Rattle.sweep_steps.specs.declared.step.StepHead.{StepHead}
use Rattle.sweep_steps.specs.declared.step.PrivateScalar.{PrivateScalar}
use Rattle.sweep_steps.specs.declared.step.Store.{Store}
use Rattle.sweep_steps.specs.declared.step.Store.TheVariants as store
use Rattle.sweep_steps.specs.declared.step.Around.{Around}
use Rattle.sweep_steps.specs.declared.step.Around.TheVariants as around
use Rattle.sweep_steps.specs.declared.step.Flow.{Flow, fold-Flow}
use Rattle.sweep_steps.specs.declared.step.FlowArm.{FlowArm, fold-FlowArm}
use Rattle.sweep_steps.specs.declared.step.Flow.TheOpen.{Flow-F, FlowArm-F}

-- a term with its sign, true being minus
abbrev pub TermTree : Type 0
TermTree = Bool × RingTree

-- a loop's variable, by its slot and its place, and its bounds
pub record HeadTree : Type 0 where
  pub line : ℕ
  pub slot : ℕ
  pub place : Option ℕ
  pub first : IndexTree
  pub last : IndexTree
  pub step : Option IndexTree

pub data StoreTree : Type 0 where
  assign : (line : ℕ) → (pushes : Bool) → (target : SpotTree) → (value : CodeTree) → StoreTree
  update : (line : ℕ) → AccessKind → (target : SpotTree) → (terms : List TermTree) → StoreTree

pub data AroundTree : Type 0 where
  in_turns : HeadTree → AroundTree
  in_iterations : HeadTree → (inner : Option HeadTree) → (privates : List PrivateScalar) → AroundTree

mutual
  pub data StepTree : Type 0 where
    store_step : StoreTree → StepTree
    if_step : (line : ℕ) → ArmTrees → (other : StepTrees) → StepTree
    loop_step : (line : ℕ) → AroundTree → (body : StepTrees) → StepTree

  pub data StepTrees : Type 0 where
    no_steps : StepTrees
    step : StepTree → StepTrees → StepTrees

  pub data ArmTrees : Type 0 where
    no_step_arms : ArmTrees
    step_arm : (test : TestTree) → (body : StepTrees) → ArmTrees → ArmTrees

abbrev pub term_tree : Term → TermTree
term_tree t = (t.minus, ring_tree t.value)

abbrev pub option_tree : Option IndexCode → Option IndexTree
option_tree None = None
option_tree (Some i) = Some (index_tree i)

abbrev pub head_tree : StepHead → HeadTree
head_tree h = record { line = h.line; slot = h.slot; place = h.place; first = index_tree h.first; last = index_tree h.last; step = option_tree h.step }

abbrev pub inner_tree : Option StepHead → Option HeadTree
inner_tree None = None
inner_tree (Some h) = Some (head_tree h)

abbrev pub steps_of : List StepTree → StepTrees
steps_of [] = no_steps
steps_of (s ∷ ss) = step s (steps_of ss)

abbrev pub step_arms_of : List (TestTree × StepTrees) → ArmTrees
step_arms_of [] = no_step_arms
step_arms_of (a ∷ rest) = step_arm a.0 a.1 (step_arms_of rest)

abbrev pub store_tree : Store → StoreTree
store_tree (store.Assign line pushes target value) = assign line pushes (spot_tree target) (code_tree value)
store_tree (store.Update line kind target terms) = update line kind (spot_tree target) (map term_tree terms)

abbrev pub around_tree : Around → AroundTree
around_tree (around.Turns head) = in_turns (head_tree head)
around_tree (around.Iterations head inner privates) = in_iterations (head_tree head) (inner_tree inner) privates

abbrev pub Step : Type 0
Step = Flow Store TestCode Around

abbrev pub StepArm : Type 0
StepArm = FlowArm Store TestCode Around

abbrev pub step_level : Flow-F Store TestCode Around StepTree (TestTree × StepTrees) → StepTree
step_level (Flow-F.Store s) = store_step (store_tree s)
step_level (Flow-F.If line arms other) = if_step line (step_arms_of arms) (steps_of other)
step_level (Flow-F.Loop line head body) = loop_step line (around_tree head) (steps_of body)

abbrev pub arm_level : FlowArm-F Store TestCode Around StepTree (TestTree × StepTrees) → TestTree × StepTrees
arm_level a = (test_tree a.test, steps_of a.body)

abbrev pub step_tree : Step → StepTree
step_tree = fold-Flow Store TestCode Around StepTree (TestTree × StepTrees) step_level arm_level

abbrev pub arm_tree : StepArm → TestTree × StepTrees
arm_tree = fold-FlowArm Store TestCode Around StepTree (TestTree × StepTrees) step_level arm_level

abbrev pub step_trees : List Step → StepTrees
step_trees ss = steps_of (map step_tree ss)

abbrev pub step_arm_trees : List StepArm → ArmTrees
step_arm_trees as' = step_arms_of (map arm_tree as')
