-- The rules' scope that a scope of the code stands for.
use Rattle.std.specs.Prelude.{ℕ, Bool, false, List, map, Option, Some, None}
use Rattle.fl_ast.specs.declared.decl.Decl.{Decl}
use Rattle.fl_ast.specs.Tree.{Expression, stmt_trees}
use Rattle.fl_types.specs.Sharing.{has_name, is_ring_name, sharing_in, is_plus}
use Rattle.adjoint_rules.specs.OwnNames.{value, k_name, main_tape}
use Rattle.adjoint_rules.specs.Scopes as rules
use Rattle.reversal.specs.declared.scope.Region.{Region}
use Rattle.reversal.specs.declared.scope.Scope.{Scope}
use Rattle.reversal.specs.Growth.{is_atomic_in}

abbrev pub number_of : Option Region → Option ℕ
number_of None = None
number_of (Some r) = Some r.number

abbrev pub key_of : Option Region → Expression
key_of None = main_tape
key_of (Some r) = value k_name

abbrev pub pluses_of : Option Region → List ℕ → Bool
pluses_of None x = false
pluses_of (Some r) x = is_plus (sharing_in r.var.now r.directive.now (stmt_trees r.body.now) x)

abbrev pub scope_of : Scope → rules.Scope
scope_of s = record {
  declared = map (λ (d : Decl). d.name) s.decls.now;
  ring = is_ring_name s.decls.now;
  active = λ x. has_name x s.active.now.names;
  needed = λ x. has_name x s.needed.now.names;
  choices = s.choices.now;
  atomic = is_atomic_in s.choices.now (number_of s.region);
  pluses = pluses_of s.region;
  key = key_of s.region;
}
