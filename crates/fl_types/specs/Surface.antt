-- What a typed program says of its names.
use Rattle.std.specs.Prelude.{◌≡◌, ℕ, true, if◌then◌else◌, nat_eq, List, Option, Some, None, is_some}
use Rattle.fl_ast.specs.declared.decl.Decl.{Decl}
use Rattle.fl_ast.specs.declared.directive.Directive.{Directive}
use Rattle.fl_ast.specs.declared.kind.Kind.{Kind}
use Rattle.fl_ast.specs.declared.stmt.Program.{Program}
use Rattle.fl_ast.specs.Tree.{Statement, assignment, branch, loop, Statements, no_statements, statement, Arms, no_arms, arm, stmt_trees}
use Rattle.fl_types.specs.declared.sharing.Sharing.{Sharing}
use Rattle.fl_types.specs.Sharing.{sharing_in, loop_of}
use Rattle.fl_types.specs.WellTyped.{declaration_of}

abbrev pub kind_declared : Option Decl → Option Kind
kind_declared None = None
kind_declared (Some d) = Some d.kind

-- the kind of a declared name
abbrev pub kind_of : Program → List ℕ → Option Kind
kind_of p x = kind_declared (declaration_of p.decls x)

-- the program has a parallel loop with the number
abbrev pub HasLoop : Program → ℕ → Type 0
HasLoop p number = is_some (loop_of (stmt_trees p.body) number) ≡ true

-- ---- the class of a name in the first parallel loop of a tree that has the number

abbrev pub or_class : Option Sharing → Option Sharing → Option Sharing
or_class None later = later
or_class (Some c) later = Some c

abbrev pub class_by : ℕ → List ℕ → ℕ → Option Directive → List ℕ → Statements → Option Sharing
class_by n x number None var body = None
class_by n x number (Some d) var body = if nat_eq number n then Some (sharing_in var d body x) else None

abbrev mutual
  pub class_within : ℕ → List ℕ → Statement → Option Sharing
  class_within n x (assignment line atomic target value) = None
  class_within n x (branch line arms other) = or_class (class_within_arms n x arms) (class_within_all n x other)
  class_within n x (loop line number directive var first last step body) = or_class (class_by n x number directive var body) (class_within_all n x body)

  pub class_within_all : ℕ → List ℕ → Statements → Option Sharing
  class_within_all n x no_statements = None
  class_within_all n x (statement s ss) = or_class (class_within n x s) (class_within_all n x ss)

  pub class_within_arms : ℕ → List ℕ → Arms → Option Sharing
  class_within_arms n x no_arms = None
  class_within_arms n x (arm test body arms) = or_class (class_within_all n x body) (class_within_arms n x arms)
