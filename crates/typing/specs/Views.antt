-- What the code's references stand for.
use Rattle.std.specs.Prelude.{ℕ, Bool, List, [], ◌∷◌, Option, Some, None}
use Rattle.fl_ast.specs.Tree.{stmt_trees}
use Rattle.fl_types.specs.Mentions.{Region}
use Rattle.typing.specs.declared.rule.Rule.{Rule}
use Rattle.typing.specs.declared.around.Vars.{Vars, fold-Vars}
use Rattle.typing.specs.declared.around.Vars.TheOpen.{Vars-F}
use Rattle.typing.specs.declared.around.Region as parallel
use Rattle.typing.specs.declared.around.Around as around
use Rattle.typing.specs.declared.around.Fault as fault
use Rattle.std.specs.Option.{option_copied}

abbrev pub names_level : Vars-F (List (List ℕ)) → List (List ℕ)
names_level Vars-F.Outside = []
names_level (Vars-F.Inside var outer) = var.now ∷ outer.now

abbrev pub names_in : Vars → List (List ℕ)
names_in = fold-Vars (List (List ℕ)) names_level

abbrev pub region_of : parallel.Region → Region
region_of r = record { directive = r.directive.now; var = r.var.now; body = stmt_trees r.body.now }

-- what stands around a name or number
pub record Around : Type 0 where
  pub line : ℕ
  pub vars : List (List ℕ)
  pub parallel : Option Region
  pub in_nest : Bool
  pub own : Option (List ℕ)
  pub subscript_of : Option (List ℕ)

abbrev pub optional_region : Option parallel.Region → Option Region
optional_region None = None
optional_region (Some r) = Some (region_of r)

abbrev pub around_of : around.Around → Around
around_of a = record {
  line = a.line;
  vars = names_in a.vars.now;
  parallel = optional_region a.parallel;
  in_nest = a.in_nest;
  own = option_copied a.own;
  subscript_of = option_copied a.subscript_of;
}

-- a broken rule at a name or number
pub record Told : Type 0 where
  pub rule : Rule
  pub line : ℕ
  pub name : List ℕ

abbrev pub optional_told : Option fault.Fault → Option Told
optional_told None = None
optional_told (Some f) = Some (record { rule = f.rule; line = f.line; name = f.name.now })
