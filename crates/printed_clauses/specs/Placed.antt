-- Directives at a line.
use Rattle.std.specs.Prelude.{ℕ}
use Rattle.fl_ast.specs.declared.directive.Directive.{Directive}

abbrev pub at_line : Directive → ℕ → Directive
at_line d l = record d { line = l }
