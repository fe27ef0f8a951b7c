-- The adjoint of a program.
use Rattle.std.specs.Prelude.{ℕ, Bool, List, ◌++◌}
use Rattle.fl_ast.specs.declared.stmt.Program.{Program}
use Rattle.fl_ast.specs.Tree.{stmt_trees, program_tree}
use Rattle.fl_ast.specs.AdjointTree.{AdjointSubroutine, adjoint_statements_of}
use Rattle.fl_types.specs.declared.choice.Chosen.{Chosen}
use Rattle.adjoint_rules.specs.OwnNames.{adjoint_name}
use Rattle.adjoint_rules.specs.Scopes.{Scope, outermost}
use Rattle.adjoint_rules.specs.Declarations.{arguments, declarations, head}
use Rattle.adjoint_rules.specs.Forward.{forward_all}
use Rattle.adjoint_rules.specs.Reverse.{backward_all}

abbrev pub adjoint_in : Scope → Program → AdjointSubroutine
adjoint_in scope p = record {
  name = adjoint_name p.name;
  args = arguments scope.active p.args;
  decls = declarations scope.active p.line p.decls (stmt_trees p.body);
  forward = adjoint_statements_of (head scope p ++ forward_all (stmt_trees p.body) scope);
  reverse = adjoint_statements_of (backward_all (stmt_trees p.body) scope);
  primal = program_tree p;
}

-- for the active names, the needed ones, and the choices
unfoldable pub adjoint_of : Program → (List ℕ → Bool) → (List ℕ → Bool) → List Chosen → AdjointSubroutine
adjoint_of p active needed choices = adjoint_in (outermost p active needed choices) p
