-- Where the reverse part stands, what an iteration has of its own, and how a place is reached.
-- Places of the layout are cells: place p has value cell p and adjoint cell P + p, which operations are on. Further places, of
-- private scalars and loop variables, are words of the iteration's own, and make no operations.
use Rattle.std.specs.Prelude.{ℕ, ◌+◌, ◌-◌, Bool, true, false, cond, nat_lt, List, [], Option, Some, None, slice_index, slice_set, slice_get}
use Rattle.ring_core.specs.Ring.{ring_add}
use Rattle.fl_types.specs.declared.choice.Choice.{Choice}
use Rattle.fl_types.specs.declared.choice.Choice.TheVariants.{Shared, Atomic, Reduction}
use Rattle.operations.specs.declared.op.Op.TheVariants.{Store, Bump, Add}
use Rattle.operations.specs.Tree.{Tree, done, loads, does}
use Rattle.fl_ast.specs.declared.directive.Directive.{Directive}
use Rattle.fl_ast.specs.Tree.{Statements}
use Rattle.meaning.specs.Sites.{Key, Site, in_turn as site_in_turn, in_iteration as site_in_iteration}
use Rattle.transposition.specs.Tapes.{Tape}

pub record World : Type 0 where
  pub site : Site
  -- the number P of places
  pub shared : ℕ
  -- the names that have adjoints
  pub active : List ℕ → Bool
  -- how an adjoint is incremented here, and in the parallel loop with a number
  pub choice : List ℕ → Choice
  pub choices : ℕ → List ℕ → Choice

pub record Local : Type 0 where
  pub tape : Tape
  -- words of the places from P on, and their adjoints
  pub values : List ℕ
  pub adjoints : List ℕ

-- what is made at a place; where there is none, nothing is
abbrev pub at_place : {A : Type 0} → A → (ℕ → A) → Option ℕ → A
at_place a f None = a
at_place a f (Some p) = f p

abbrev pub value_load : World → Local → ℕ → Tree ℕ
value_load w l p = cond (nat_lt p w.shared) (loads p (λ x. done x)) (done (slice_index l.values (p - w.shared)))

abbrev pub adjoint_load : World → Local → ℕ → Tree ℕ
adjoint_load w l p = cond (nat_lt p w.shared) (loads (w.shared + p) (λ x. done x)) (done (slice_index l.adjoints (p - w.shared)))

abbrev pub with_value : World → ℕ → ℕ → Local → Local
with_value w p x l = record l { values = slice_set l.values (p - w.shared) x }

abbrev pub with_adjoint : World → ℕ → ℕ → Local → Local
with_adjoint w p x l = record l { adjoints = slice_set l.adjoints (p - w.shared) x }

-- the word at a place of the iteration's own; at another place nothing is set
abbrev pub with_own_value : World → Option ℕ → ℕ → Local → Local
with_own_value w o x l = at_place l (λ p. cond (nat_lt p w.shared) l (with_value w p x l)) o

abbrev pub with_own_adjoint : World → Option ℕ → ℕ → Local → Local
with_own_adjoint w o x l = at_place l (λ p. cond (nat_lt p w.shared) l (with_adjoint w p x l)) o

abbrev pub value_store : World → ℕ → ℕ → Local → Tree Local
value_store w p x l = cond (nat_lt p w.shared) (does (Store p x) (done l)) (done (with_value w p x l))

abbrev pub adjoint_store : World → ℕ → ℕ → Local → Tree Local
adjoint_store w p x l = cond (nat_lt p w.shared) (does (Store (w.shared + p) x) (done l)) (done (with_adjoint w p x l))

-- an addition to a cell: in one step, or by a load and a bump
abbrev pub addition : {A : Type 0} → Bool → ℕ → ℕ → A → Tree A
addition true q a l = does (Add q a) (done l)
addition false q a l = loads q (λ x. does (Bump q a) (done l))

abbrev pub value_increment : World → Bool → ℕ → ℕ → Local → Tree Local
value_increment w atomic p a l = cond (nat_lt p w.shared) (addition atomic p a l) (done (with_value w p (ring_add (slice_index l.values (p - w.shared)) a) l))

-- a Reduction's additions are collected later on
abbrev pub is_one_step : Choice → Bool
is_one_step Shared = false
is_one_step Atomic = true
is_one_step Reduction = true

abbrev pub is_reduction : Choice → Bool
is_reduction Reduction = true
is_reduction Shared = false
is_reduction Atomic = false

abbrev pub adjoint_increment : World → Choice → ℕ → ℕ → Local → Tree Local
adjoint_increment w c p a l = cond (nat_lt p w.shared) (addition (is_one_step c) (w.shared + p) a l) (done (with_adjoint w p (ring_add (slice_index l.adjoints (p - w.shared)) a) l))

-- in a turn of a sequential loop
abbrev pub in_turn : World → List ℕ → World
in_turn w var = record w { site = site_in_turn w.site var }

-- in an iteration of a parallel loop
abbrev pub in_iteration : World → ℕ → Directive → List ℕ → Statements → World
in_iteration w number directive var body = record w { site = site_in_iteration w.site directive var body; choice = w.choices number }

-- the name of a place, none where there is no such place
abbrev pub key_name : Option Key → List ℕ
key_name None = []
key_name (Some k) = k.0

abbrev pub name_at : List Key → ℕ → List ℕ
name_at keys p = key_name (slice_get keys p)
