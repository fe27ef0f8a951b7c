-- The names that a run is asked for.
use Rattle.std.specs.Prelude.{ℕ, List, [], ◌∷◌, codes, if◌then◌else◌}
use Rattle.ending.specs.declared.verdict.Verdict.TheVariants.{Refused}
use Rattle.ending.specs.Plan.{Plan, Says, line}
use Rattle.fl_ast.specs.declared.stmt.Program.{Program}
use Rattle.fl_types.specs.Declarations.{is_ring_argument}

-- each is a ring argument, or the first that isn't is said
unfoldable pub names_stage : Program → List (List ℕ) → (Unit {0} → Plan) → Plan
names_stage program [] rest = rest tt
names_stage program (name ∷ names) rest =
    if is_ring_argument program name then names_stage program names rest else Says Refused (line (codes "refused name ") name)
