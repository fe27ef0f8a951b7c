-- The statement that a statement of a reverse sweep undoes in a world: what its flags, places and choices have to be there.
use Rattle.std.specs.Prelude.{◌≡◌, ℕ, Bool, true, false, ◌&&◌, ◌||◌, cond, nat_lt, List, [], ◌∷◌, map, Option, Some, None}
use Rattle.std.specs.List.{list_all}
use Rattle.fl_ast.specs.declared.kind.Kind.{Kind}
use Rattle.fl_ast.specs.declared.directive.Directive.{Directive}
use Rattle.fl_ast.specs.Tree.{Expression, Designator, Statement, assignment, branch, loop, Statements, no_statements, statement, Arms, no_arms, arm}
use Rattle.fl_types.specs.Increment.{Signed, increment_terms}
use Rattle.fl_types.specs.Nests.{iteration_body}
use Rattle.store_core.specs.declared.layout.Shape.{Shape}
use Rattle.store_core.specs.Keys.{place_of}
use Rattle.meaning.specs.Statements.{private_names}
use Rattle.resolved.specs.SlotTables.{Names}
use Rattle.sweep_trees.specs.Split.{SpotTree}
use Rattle.sweep_trees.specs.Standing.{spot_back, ring_back, test_back, is_spot_fit, is_ring_fit, is_test_fit}
use Rattle.sweep_steps.specs.declared.step.PrivateScalar.{PrivateScalar}
use Rattle.sweep_steps.specs.Steps.{TermTree}
use Rattle.sweep_steps.specs.StepsStand.{signed_back, PrivatesStand}
use Rattle.transposition.specs.Worlds.{World, is_reduction, in_turn, in_iteration}
use Rattle.transposition.specs.Spread.{Factor, operand, either, Occurrence, occurrences}
use Rattle.transposition.specs.Back.{rest_occurrences, loop_variables}
use Rattle.undo_steps.specs.UndoSteps.{FactorTree, operand_factor, either_factor, GrowthTree, UndoStore, undo_plain, undo_increment, AroundUndo, back_turns, back_iterations, UndoTree, undo_store, undo_choice, undo_loop, UndoTrees, no_undos, undos, UndoArms, no_undo_arms, undo_arm}

-- nothing is watched backwards
abbrev pub unwatched : List Bool
unwatched = []

-- of either kind
abbrev pub is_any_kind : Kind → Bool
is_any_kind k = true

-- the occurrence is this designator
pub record SpotUndoes (names : Names) (p : Designator) (place : SpotTree) : Type 0 where
  pub back : spot_back names.0 place ≡ p
  pub fit : is_spot_fit names unwatched is_any_kind place ≡ true

-- ---- increments of adjoints

abbrev pub factor_back : List Shape → FactorTree → Factor
factor_back shapes (operand_factor a) = operand (ring_back shapes a)
factor_back shapes (either_factor one other test) = either one other (test_back shapes test)

abbrev pub is_factor_fit : Names → FactorTree → Bool
is_factor_fit names (operand_factor a) = is_ring_fit names unwatched a
is_factor_fit names (either_factor one other test) = is_test_fit names unwatched test

pub record GrowthStands (names : Names) (w : World) (o : Occurrence) (g : GrowthTree) : Type 0 where
  pub place : SpotUndoes names o.place g.place
  pub sign : g.negative ≡ o.negative
  pub choice : g.choice ≡ w.choice o.place.name
  pub factors : map (factor_back names.0) g.factors ≡ o.factors
  pub fit : list_all (is_factor_fit names) g.factors ≡ true

-- one growth for each occurrence, in their order
abbrev pub EachGrowthStands : Names → World → List Occurrence → List GrowthTree → Type 0
EachGrowthStands names w [] [] = Unit {0}
EachGrowthStands names w [] (g ∷ gs) = ⊥
EachGrowthStands names w (o ∷ os) [] = ⊥
EachGrowthStands names w (o ∷ os) (g ∷ gs) = GrowthStands names w o g × EachGrowthStands names w os gs

-- where the target has an adjoint
abbrev pub GrowthsStand : Names → World → Bool → List Occurrence → Option (List GrowthTree) → Type 0
GrowthsStand names w true os None = ⊥
GrowthsStand names w true os (Some gs) = EachGrowthStands names w os gs
GrowthsStand names w false os None = Unit {0}
GrowthsStand names w false os (Some gs) = ⊥

-- ---- assignments

pub record PlainStands (names : Names) (w : World) (target : SpotTree) (restores : Bool) (growths : Option (List GrowthTree)) (p : Designator) (e : Expression) : Type 0 where
  pub plain : increment_terms w.site.ring p e ≡ None
  pub place : SpotUndoes names p target
  pub restoring : restores ≡ w.site.pushed p.name
  pub growing : GrowthsStand names w (w.active p.name) (occurrences w.active e false []) growths

pub record TermsStand (names : Names) (rs : List Signed) (terms : List TermTree) : Type 0 where
  pub back : map (signed_back names.0) terms ≡ rs
  pub fit : list_all (λ (t : TermTree). is_ring_fit names unwatched t.1) terms ≡ true

-- where the target's value is needed
abbrev pub ReversalStands : Names → Bool → List Signed → Option (List TermTree) → Type 0
ReversalStands names true rs None = ⊥
ReversalStands names true rs (Some ts) = TermsStand names rs ts
ReversalStands names false rs None = Unit {0}
ReversalStands names false rs (Some ts) = ⊥

pub record IncrementStands (names : Names) (w : World) (atomic : Bool) (target : SpotTree) (reversal : Option (List TermTree)) (one_step : Bool) (growths : Option (List GrowthTree)) (p : Designator) (e : Expression) : Type 0 where
  pub rest : List Signed
  pub form : increment_terms w.site.ring p e ≡ Some rest
  pub place : SpotUndoes names p target
  pub reversing : ReversalStands names (w.site.pushed p.name) rest reversal
  pub steps : one_step ≡ (atomic || w.site.pluses p.name)
  pub growing : GrowthsStand names w (w.active p.name) (rest_occurrences w.active rest) growths

abbrev pub UndoStoreStands : Names → World → UndoStore → (atomic : Bool) → Designator → Expression → Type 0
UndoStoreStands names w (undo_plain target restores growths) atomic p e = PlainStands names w target restores growths p e
UndoStoreStands names w (undo_increment target reversal one_step growths) atomic p e = IncrementStands names w atomic target reversal one_step growths p e

-- ---- loops

-- the place of a scalar
abbrev pub scalar_place : Names → List ℕ → Option ℕ
scalar_place names x = place_of names.0 x []

-- the shared places of these names' adjoints that each iteration adds to once
abbrev pub reduction_at : World → Option ℕ → List ℕ → List ℕ
reduction_at w None qs = qs
reduction_at w (Some q) qs = cond (nat_lt q w.shared) (q ∷ qs) qs

abbrev pub reduction_places : Names → World → List (List ℕ) → List ℕ
reduction_places names w [] = []
reduction_places names w (x ∷ xs) =
    cond (w.active x && is_reduction (w.choice x)) (reduction_at w (scalar_place names x) (reduction_places names w xs)) (reduction_places names w xs)

pub record IterationsUndo (names : Names) (w : World) (number : ℕ) (directive : Directive) (var : List ℕ) (body : Statements) (places : List (Option ℕ)) (privates : List PrivateScalar) (reductions : List ℕ) : Type 0 where
  pub variables : places ≡ map (scalar_place names) (loop_variables directive var body)
  pub scalars : PrivatesStand names w.site body (private_names w.site directive var body) privates
  pub sums : reductions ≡ reduction_places names (in_iteration w number directive var body) w.site.declared

abbrev pub AroundUndoes : Names → World → (number : ℕ) → Option Directive → (var : List ℕ) → Statements → AroundUndo → Type 0
AroundUndoes names w number None var body (back_turns place) = place ≡ scalar_place names var
AroundUndoes names w number None var body (back_iterations places privates reductions) = ⊥
AroundUndoes names w number (Some directive) var body (back_turns place) = ⊥
AroundUndoes names w number (Some directive) var body (back_iterations places privates reductions) = IterationsUndo names w number directive var body places privates reductions

-- where a loop's body is undone, and what is undone there
abbrev pub inside_world : World → (number : ℕ) → Option Directive → List ℕ → Statements → World
inside_world w number None var body = in_turn w var
inside_world w number (Some directive) var body = in_iteration w number directive var body

abbrev pub inside_body : Option Directive → Statements → Statements
inside_body None body = body
inside_body (Some directive) body = iteration_body directive body

-- ---- statements

abbrev mutual
  pub UndoStands : Names → World → UndoTree → Statement → Type 0
  UndoStands names w (undo_store s) (assignment line atomic p e) = UndoStoreStands names w s atomic p e
  UndoStands names w (undo_store s) (branch line arms other) = ⊥
  UndoStands names w (undo_store s) (loop line number directive var first last step body) = ⊥
  UndoStands names w (undo_choice as' other) (assignment line atomic p e) = ⊥
  UndoStands names w (undo_choice as' other) (branch line arms other') = UndoArmsStand names w as' arms × AllUndoStand names w other other'
  UndoStands names w (undo_choice as' other) (loop line number directive var first last step body) = ⊥
  UndoStands names w (undo_loop around us) (assignment line atomic p e) = ⊥
  UndoStands names w (undo_loop around us) (branch line arms other) = ⊥
  UndoStands names w (undo_loop around us) (loop line number directive var first last step body) =
      AroundUndoes names w number directive var body around × AllUndoStand names (inside_world w number directive var body) us (inside_body directive body)

  pub AllUndoStand : Names → World → UndoTrees → Statements → Type 0
  AllUndoStand names w no_undos no_statements = Unit {0}
  AllUndoStand names w no_undos (statement s ss) = ⊥
  AllUndoStand names w (undos u us) no_statements = ⊥
  AllUndoStand names w (undos u us) (statement s ss) = UndoStands names w u s × AllUndoStand names w us ss

  pub UndoArmsStand : Names → World → UndoArms → Arms → Type 0
  UndoArmsStand names w no_undo_arms no_arms = Unit {0}
  UndoArmsStand names w no_undo_arms (arm test body arms) = ⊥
  UndoArmsStand names w (undo_arm us as') no_arms = ⊥
  UndoArmsStand names w (undo_arm us as') (arm test body arms) = AllUndoStand names w us body × UndoArmsStand names w as' arms
