-- What the clauses of a directive say so far.
use Rattle.std.specs.Prelude.{ℕ, ◌==◌, Bool, true, false, not, List, [], ◌∷◌, ◌++◌, Option, Some, None, bytes_eq}
use Rattle.std.specs.List.{list_any}
use Rattle.fl_ast.specs.declared.directive.Directive.{Directive}
use Rattle.fl_ast.specs.declared.directive.ScheduleKind.{ScheduleKind}
use Rattle.fl_ast.specs.Readable.{listed_names}
use Rattle.omp_clauses.specs.declared.state.Sharing.{Sharing}
use Rattle.omp_clauses.specs.declared.state.Sharing.TheVariants.{Private, First, Shared, Plus}

-- the directive so far, and whether a `default` stands in it
pub record Said : Type 0 where
  pub directive : Directive
  pub defaulted : Bool

-- no clause, behind a sentinel in this line
abbrev pub nothing : ℕ → Said
nothing line = record {
  directive = record { line = line; privates = []; firsts = []; shareds = []; pluses = []; none = false; schedule = None; collapse = 0 };
  defaulted = false;
}

-- whether a clause lists the name
abbrev pub lists : Said → List ℕ → Bool
lists c x = list_any (bytes_eq x) (listed_names c.directive)

abbrev pub has_default : Said → Bool
has_default c = c.defaulted

abbrev pub is_there : {A : Type 0} → Option A → Bool
is_there (Some x) = true
is_there None = false

abbrev pub has_schedule : Said → Bool
has_schedule c = is_there c.directive.schedule

abbrev pub has_collapse : Said → Bool
has_collapse c = not (c.directive.collapse == 0)

-- a directive with one more name in a list
abbrev pub named : Sharing → Directive → List ℕ → Directive
named Private d x = record d { privates = d.privates ++ x ∷ [] }
named First d x = record d { firsts = d.firsts ++ x ∷ [] }
named Shared d x = record d { shareds = d.shareds ++ x ∷ [] }
named Plus d x = record d { pluses = d.pluses ++ x ∷ [] }

abbrev pub with_name : Sharing → Said → List ℕ → Said
with_name sharing c x = record { directive = named sharing c.directive x; defaulted = c.defaulted }

abbrev pub with_default : Bool → Said → Said
with_default none c = record { directive = record c.directive { none = none }; defaulted = true }

abbrev pub with_schedule : ScheduleKind × Option ℕ → Said → Said
with_schedule schedule c = record { directive = record c.directive { schedule = Some schedule }; defaulted = c.defaulted }

abbrev pub with_collapse : ℕ → Said → Said
with_collapse loops c = record { directive = record c.directive { collapse = loops }; defaulted = c.defaulted }
