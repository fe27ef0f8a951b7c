-- What the adjoint of a statement depends on besides the statement.
use Rattle.std.specs.Prelude.{ℕ, Bool, true, false, ◌&&◌, nat_eq, bytes_eq, List, map}
use Rattle.std.specs.List.{list_any}
use Rattle.fl_ast.specs.declared.decl.Decl.{Decl}
use Rattle.fl_ast.specs.declared.directive.Directive.{Directive}
use Rattle.fl_ast.specs.declared.stmt.Program.{Program}
use Rattle.fl_ast.specs.Tree.{Expression, Statements}
use Rattle.fl_types.specs.declared.choice.Choice.{Choice}
use Rattle.fl_types.specs.declared.choice.Choice.TheVariants.{Shared, Atomic, Reduction}
use Rattle.fl_types.specs.declared.choice.Chosen.{Chosen}
use Rattle.fl_types.specs.Sharing.{is_ring_name, sharing_in, is_plus}
use Rattle.adjoint_rules.specs.OwnNames.{value, k_name, main_tape}

-- the declared names in their order, which of them are of the ring kind, active and needed, and the choices by loop and name;
-- at a statement, whose adjoints are incremented atomically, which names are reductions, and the key of the tape
pub record Scope : Type 0 where
  pub declared : List (List ℕ)
  pub ring : List ℕ → Bool
  pub active : List ℕ → Bool
  pub needed : List ℕ → Bool
  pub choices : List Chosen
  pub atomic : List ℕ → Bool
  pub pluses : List ℕ → Bool
  pub key : Expression

abbrev pub is_atomic : Choice → Bool
is_atomic Atomic = true
is_atomic Shared = false
is_atomic Reduction = false

abbrev pub is_reduction : Choice → Bool
is_reduction Reduction = true
is_reduction Shared = false
is_reduction Atomic = false

-- the name has a choice in the loop with a number, and it passes
abbrev pub has_choice : (Choice → Bool) → List Chosen → ℕ → List ℕ → Bool
has_choice passes choices number x =
    list_any (λ (c : Chosen). nat_eq c.loop_number number && (bytes_eq c.name x && passes c.choice)) choices

-- outside parallel loops
abbrev pub outermost : Program → (List ℕ → Bool) → (List ℕ → Bool) → List Chosen → Scope
outermost p active needed choices = record {
  declared = map (λ (d : Decl). d.name) p.decls;
  ring = is_ring_name p.decls;
  active = active;
  needed = needed;
  choices = choices;
  atomic = λ x. false;
  pluses = λ x. false;
  key = main_tape;
}

-- in a parallel loop
abbrev pub in_loop : Scope → ℕ → Directive → List ℕ → Statements → Scope
in_loop scope number directive var body = record scope {
  atomic = has_choice is_atomic scope.choices number;
  pluses = λ x. is_plus (sharing_in var directive body x);
  key = value k_name;
}
