-- What a direction file gives: some of the arguments of the ring kind, the others being 0.
use Rattle.std.specs.Prelude.{ℕ, Bool, ◌&&◌, cond, is_some, List, [], ◌∷◌, flat_map}
use Rattle.serde_json.specs.Data.{Data}
use Rattle.fl_ast.specs.declared.stmt.Program.{Program}
use Rattle.fl_types.specs.Declarations.{is_ring_argument}
use Rattle.store_core.specs.declared.values.Args.{Args}
use Rattle.store_core.specs.declared.values.Direction.{Direction}
use Rattle.data_io.specs.declared.data.DataError.{DataError}
use Rattle.data_io.specs.DataFaults.{found, faults_of, entries_of}

abbrev pub is_given : Data → List ℕ → Bool
is_given d x = is_some (found x d)

abbrev pub given_name : Program → Data → List ℕ → List (List ℕ)
given_name p d x = cond (is_ring_argument p x && is_given d x) (x ∷ []) []

-- the arguments of the ring kind that the object has, in their order
abbrev pub given_names : Program → Data → List (List ℕ)
given_names p d = flat_map (given_name p d) p.args

-- the faults of a value that is to hold no other names than arguments of the ring kind
abbrev pub direction_faults : Program → Args → Data → List DataError
direction_faults p args d = faults_of args.entries p.decls (given_names p d) d

abbrev pub direction_of : Program → Data → Direction
direction_of p d = record { entries = entries_of p.decls (given_names p d) d }

abbrev pub no_direction : Direction
no_direction = record { entries = [] }
