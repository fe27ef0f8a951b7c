-- Statements of reverse sweeps as plain data, and the tree that each value of the program's types stands for.
use Rattle.std.specs.Prelude.{ℕ, Bool, List, [], ◌∷◌, map, Option, Some, None}
use Rattle.fl_types.specs.declared.choice.Choice.{Choice}
use Rattle.sweep_trees.specs.Split.{SpotTree, RingTree, TestTree, spot_tree, ring_tree, test_tree}
use Rattle.sweep_steps.specs.declared.step.Term.{Term}
use Rattle.sweep_steps.specs.declared.step.PrivateScalar.{PrivateScalar}
use Rattle.sweep_steps.specs.declared.step.Flow.{Flow, fold-Flow}
use Rattle.sweep_steps.specs.declared.step.FlowArm.{FlowArm, fold-FlowArm}
use Rattle.sweep_steps.specs.declared.step.Flow.TheOpen.{Flow-F, FlowArm-F}
use Rattle.sweep_steps.specs.Steps.{TermTree, term_tree}
use Rattle.undo_steps.specs.declared.undo.Factor.{Factor}
use Rattle.undo_steps.specs.declared.undo.Factor.TheVariants as factor
use Rattle.undo_steps.specs.declared.undo.Growth.{Growth}
use Rattle.undo_steps.specs.declared.undo.Undo.{Undo}
use Rattle.undo_steps.specs.declared.undo.Undo.TheVariants as undo
use Rattle.undo_steps.specs.declared.undo.Variables.{Variables}
use Rattle.undo_steps.specs.declared.undo.Variables.TheVariants as variables
use Rattle.undo_steps.specs.declared.undo.UndoAround.{UndoAround}
use Rattle.undo_steps.specs.declared.undo.UndoAround.TheVariants as around

-- an expression, or one of two numbers by a test
pub data FactorTree : Type 0 where
  operand_factor : RingTree → FactorTree
  either_factor : (one other : ℕ) → TestTree → FactorTree

-- the increment of one adjoint
pub record GrowthTree : Type 0 where
  pub place : SpotTree
  pub negative : Bool
  pub choice : Choice
  pub factors : List FactorTree

pub data UndoStore : Type 0 where
  undo_plain : (target : SpotTree) → (restores : Bool) → (growths : Option (List GrowthTree)) → UndoStore
  undo_increment : (target : SpotTree) → (reversal : Option (List TermTree)) → (one_step : Bool) → (growths : Option (List GrowthTree)) → UndoStore

-- loops by the places of their variables, the outer one's first
pub data AroundUndo : Type 0 where
  back_turns : (place : Option ℕ) → AroundUndo
  back_iterations : (places : List (Option ℕ)) → (privates : List PrivateScalar) → (reductions : List ℕ) → AroundUndo

mutual
  pub data UndoTree : Type 0 where
    undo_store : UndoStore → UndoTree
    undo_choice : UndoArms → (other : UndoTrees) → UndoTree
    undo_loop : AroundUndo → (body : UndoTrees) → UndoTree

  pub data UndoTrees : Type 0 where
    no_undos : UndoTrees
    undos : UndoTree → UndoTrees → UndoTrees

  pub data UndoArms : Type 0 where
    no_undo_arms : UndoArms
    undo_arm : (body : UndoTrees) → UndoArms → UndoArms

abbrev pub factor_tree : Factor → FactorTree
factor_tree (factor.Operand a) = operand_factor (ring_tree a)
factor_tree (factor.Either one other test) = either_factor one other (test_tree test)

abbrev pub growth_tree : Growth → GrowthTree
growth_tree g = record { place = spot_tree g.place; negative = g.negative; choice = g.choice; factors = map factor_tree g.factors }

abbrev pub growth_trees : Option (List Growth) → Option (List GrowthTree)
growth_trees None = None
growth_trees (Some gs) = Some (map growth_tree gs)

abbrev pub reversal_tree : Option (List Term) → Option (List TermTree)
reversal_tree None = None
reversal_tree (Some ts) = Some (map term_tree ts)

abbrev pub undo_store_tree : Undo → UndoStore
undo_store_tree (undo.Plain target restores growths) = undo_plain (spot_tree target) restores (growth_trees growths)
undo_store_tree (undo.Increment target reversal one_step growths) = undo_increment (spot_tree target) (reversal_tree reversal) one_step (growth_trees growths)

abbrev pub variable_places : Variables → List (Option ℕ)
variable_places (variables.One place) = place ∷ []
variable_places (variables.Two outer inner) = outer ∷ inner ∷ []

abbrev pub around_undo : UndoAround → AroundUndo
around_undo (around.Turns place) = back_turns place
around_undo (around.Iterations vars privates reductions) = back_iterations (variable_places vars) privates reductions

abbrev pub UndoStep : Type 0
UndoStep = Flow Undo (Unit {0}) UndoAround

abbrev pub UndoArm : Type 0
UndoArm = FlowArm Undo (Unit {0}) UndoAround

abbrev pub undos_of : List UndoTree → UndoTrees
undos_of [] = no_undos
undos_of (u ∷ us) = undos u (undos_of us)

abbrev pub undo_arms_of : List UndoTrees → UndoArms
undo_arms_of [] = no_undo_arms
undo_arms_of (a ∷ rest) = undo_arm a (undo_arms_of rest)

abbrev pub undo_level : Flow-F Undo (Unit {0}) UndoAround UndoTree UndoTrees → UndoTree
undo_level (Flow-F.Store s) = undo_store (undo_store_tree s)
undo_level (Flow-F.If line arms other) = undo_choice (undo_arms_of arms) (undos_of other)
undo_level (Flow-F.Loop line head body) = undo_loop (around_undo head) (undos_of body)

abbrev pub undo_arm_level : FlowArm-F Undo (Unit {0}) UndoAround UndoTree UndoTrees → UndoTrees
undo_arm_level a = undos_of a.body

abbrev pub undo_tree : UndoStep → UndoTree
undo_tree = fold-Flow Undo (Unit {0}) UndoAround UndoTree UndoTrees undo_level undo_arm_level

abbrev pub undo_arm_tree : UndoArm → UndoTrees
undo_arm_tree = fold-FlowArm Undo (Unit {0}) UndoAround UndoTree UndoTrees undo_level undo_arm_level

abbrev pub undo_trees : List UndoStep → UndoTrees
undo_trees us = undos_of (map undo_tree us)

abbrev pub undo_arm_trees : List UndoArm → UndoArms
undo_arm_trees as' = undo_arms_of (map undo_arm_tree as')
