-- The statement that a statement of a sweep stands for at a site: what its flags, places and kinds have to be there.
use Rattle.std.specs.Prelude.{◌≡◌, ℕ, ◌<◌, Bool, true, ◌&&◌, List, [], ◌∷◌, map, length, Option, Some, None}
use Rattle.std.specs.List.{list_all}
use Rattle.fl_ast.specs.declared.kind.Kind.{Kind}
use Rattle.fl_ast.specs.declared.kind.Kind.TheVariants.{Index, Ring}
use Rattle.fl_ast.specs.declared.directive.Directive.{Directive}
use Rattle.fl_ast.specs.Tree.{Expression, Designator, Statement, assignment, branch, loop, Statements, no_statements, statement, Arms, no_arms, arm}
use Rattle.fl_types.specs.declared.access.AccessKind.{AccessKind}
use Rattle.fl_types.specs.Accesses.{increment_kind}
use Rattle.fl_types.specs.Increment.{Signed, increment_terms}
use Rattle.fl_types.specs.Kinds.{takes_value}
use Rattle.fl_types.specs.Nests.{Head, further_head, iteration_body}
use Rattle.fl_types.specs.Sharing.{assigns_in}
use Rattle.store_core.specs.declared.layout.Shape.{Shape}
use Rattle.store_core.specs.Keys.{slot_of, place_in_slot}
use Rattle.meaning.specs.Sites.{Site, in_turn, in_iteration}
use Rattle.meaning.specs.Statements.{private_names}
use Rattle.resolved.specs.SlotTables.{Names, kind_at}
use Rattle.resolved.specs.ResolvedExprs.{slot_name}
use Rattle.sweep_trees.specs.Split.{SpotTree, IndexTree}
use Rattle.sweep_trees.specs.Standing.{ring_back, is_ring_fit}
use Rattle.split_trees.specs.Codes.{CodeTree, code_kind, spot_slot, StandsFor, SpotStandsFor, IndexStandsFor, TestStandsFor}
use Rattle.sweep_steps.specs.declared.step.PrivateScalar.{PrivateScalar}
use Rattle.sweep_steps.specs.Steps.{TermTree, HeadTree, StoreTree, assign, update, AroundTree, in_turns, in_iterations, StepTree, store_step, if_step, loop_step, StepTrees, no_steps, step, ArmTrees, no_step_arms, step_arm}

-- which slots' names make accesses at a site
abbrev pub flags_at : Names → Site → List Bool
flags_at names site = map (λ (s : Shape). site.accessed s.name) names.0

-- the kind of an occurrence's name
abbrev pub spot_kind : Names → SpotTree → Kind
spot_kind names s = kind_at names.1 (spot_slot s)

-- ---- assignments

pub record AssignStands (names : Names) (site : Site) (pushes : Bool) (target : SpotTree) (value : CodeTree) (p : Designator) (e : Expression) : Type 0 where
  pub plain : increment_terms site.ring p e ≡ None
  pub pushing : pushes ≡ site.pushed p.name
  pub place : SpotStandsFor names (flags_at names site) (spot_slot target) p target
  pub content : StandsFor names (flags_at names site) e value
  pub taken : takes_value (spot_kind names target) (code_kind value) ≡ true

abbrev pub signed_back : List Shape → TermTree → Signed
signed_back shapes t = (t.0, ring_back shapes t.1)

pub record UpdateStands (names : Names) (site : Site) (atomic : Bool) (kind : AccessKind) (target : SpotTree) (terms : List TermTree) (p : Designator) (e : Expression) : Type 0 where
  pub rest : increment_terms site.ring p e ≡ Some (map (signed_back names.0) terms)
  pub fit : list_all (λ (t : TermTree). is_ring_fit names (flags_at names site) t.1) terms ≡ true
  pub access : kind ≡ increment_kind atomic (site.pluses p.name)
  pub place : SpotStandsFor names (flags_at names site) (spot_slot target) p target
  pub data_kind : spot_kind names target ≡ Ring

-- ---- loops

abbrev pub OptionStands : Names → List Bool → Option Expression → Option IndexTree → Type 0
OptionStands names flags None None = Unit {0}
OptionStands names flags None (Some i) = ⊥
OptionStands names flags (Some e) None = ⊥
OptionStands names flags (Some e) (Some i) = IndexStandsFor names flags e i

pub record HeadStands (names : Names) (flags : List Bool) (h : Head) (t : HeadTree) : Type 0 where
  pub line : t.line ≡ h.line
  pub within : t.slot < length names.0
  pub variable : slot_name names.0 t.slot ≡ h.var
  pub kind : kind_at names.1 t.slot ≡ Index
  pub place : t.place ≡ place_in_slot names.0 t.slot []
  pub first : IndexStandsFor names flags h.first t.first
  pub last : IndexStandsFor names flags h.last t.last
  pub step : OptionStands names flags h.step t.step

abbrev pub InnerStands : Names → List Bool → Option Head → Option HeadTree → Type 0
InnerStands names flags None None = Unit {0}
InnerStands names flags None (Some t) = ⊥
InnerStands names flags (Some h) None = ⊥
InnerStands names flags (Some h) (Some t) = HeadStands names flags h t

pub record PrivateStands (names : Names) (site : Site) (body : Statements) (x : List ℕ) (q : PrivateScalar) : Type 0 where
  pub slot : slot_of names.0 x ≡ Some q.slot
  pub place : q.place ≡ place_in_slot names.0 q.slot []
  pub pushing : q.pushes ≡ (assigns_in x body && site.pushed x)

-- one scalar for each private name, in their order
abbrev pub PrivatesStand : Names → Site → Statements → List (List ℕ) → List PrivateScalar → Type 0
PrivatesStand names site body [] [] = Unit {0}
PrivatesStand names site body [] (q ∷ qs) = ⊥
PrivatesStand names site body (x ∷ xs) [] = ⊥
PrivatesStand names site body (x ∷ xs) (q ∷ qs) = PrivateStands names site body x q × PrivatesStand names site body xs qs

-- ---- statements

abbrev pub StoreStands : Names → Site → StoreTree → (line : ℕ) → (atomic : Bool) → Designator → Expression → Type 0
StoreStands names site (assign l pushes target value) line atomic p e = (l ≡ line) × AssignStands names site pushes target value p e
StoreStands names site (update l kind target terms) line atomic p e = (l ≡ line) × UpdateStands names site atomic kind target terms p e

-- a parallel loop, over its site; `h` is its head
pub record IterationsStand (names : Names) (site : Site) (directive : Directive) (h : Head) (body : Statements) (head : HeadTree) (inner : Option HeadTree) (privates : List PrivateScalar) : Type 0 where
  pub outer : HeadStands names (flags_at names site) h head
  pub further : InnerStands names (flags_at names site) (further_head directive body) inner
  pub scalars : PrivatesStand names site body (private_names site directive h.var body) privates

abbrev pub AroundStands : Names → Site → Option Directive → Head → Statements → AroundTree → Type 0
AroundStands names site None h body (in_turns head) = HeadStands names (flags_at names site) h head
AroundStands names site None h body (in_iterations head inner privates) = ⊥
AroundStands names site (Some directive) h body (in_turns head) = ⊥
AroundStands names site (Some directive) h body (in_iterations head inner privates) = IterationsStand names site directive h body head inner privates

-- where a loop's body runs, and what runs there
abbrev pub inside_site : Site → Option Directive → List ℕ → Statements → Site
inside_site site None var body = in_turn site var
inside_site site (Some directive) var body = in_iteration site directive var body

abbrev pub inside_body : Option Directive → Statements → Statements
inside_body None body = body
inside_body (Some directive) body = iteration_body directive body

abbrev mutual
  pub Stands : Names → Site → StepTree → Statement → Type 0
  Stands names site (store_step s) (assignment line atomic p e) = StoreStands names site s line atomic p e
  Stands names site (store_step s) (branch line arms other) = ⊥
  Stands names site (store_step s) (loop line number directive var first last step' body) = ⊥
  Stands names site (if_step l as' other) (assignment line atomic p e) = ⊥
  Stands names site (if_step l as' other) (branch line arms other') = (l ≡ line) × ArmsStand names site as' arms × AllStand names site other other'
  Stands names site (if_step l as' other) (loop line number directive var first last step' body) = ⊥
  Stands names site (loop_step l around ss) (assignment line atomic p e) = ⊥
  Stands names site (loop_step l around ss) (branch line arms other) = ⊥
  Stands names site (loop_step l around ss) (loop line number directive var first last step' body) =
      (l ≡ line)
      × AroundStands names site directive (record { line = line; var = var; first = first; last = last; step = step' }) body around
      × AllStand names (inside_site site directive var body) ss (inside_body directive body)

  pub AllStand : Names → Site → StepTrees → Statements → Type 0
  AllStand names site no_steps no_statements = Unit {0}
  AllStand names site no_steps (statement s ss) = ⊥
  AllStand names site (step t ts) no_statements = ⊥
  AllStand names site (step t ts) (statement s ss) = Stands names site t s × AllStand names site ts ss

  pub ArmsStand : Names → Site → ArmTrees → Arms → Type 0
  ArmsStand names site no_step_arms no_arms = Unit {0}
  ArmsStand names site no_step_arms (arm test body arms) = ⊥
  ArmsStand names site (step_arm a ss as') no_arms = ⊥
  ArmsStand names site (step_arm a ss as') (arm test body arms) =
      TestStandsFor names (flags_at names site) test a × AllStand names site ss body × ArmsStand names site as' arms
