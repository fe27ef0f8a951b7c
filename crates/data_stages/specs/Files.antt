-- The data file, the seed file and the direction file.
use Rattle.std.specs.Prelude.{ℕ, if◌then◌else◌, List, [], ◌∷◌, codes, Option, Some, None, Result, Ok, Err}
use Rattle.std.specs.Str.{is_utf8}
use Rattle.serde_json.specs.Data.{Data}
use Rattle.serde_json.specs.Read.{read}
use Rattle.ending.specs.Plan.{Plan, Asks, or_say}
use Rattle.fl_ast.specs.declared.stmt.Program.{Program}
use Rattle.store_core.specs.declared.values.Args.{Args}
use Rattle.store_core.specs.declared.values.Direction.{Direction}
use Rattle.store_core.specs.declared.values.Weights.{Weights}
use Rattle.data_io.specs.declared.data.DataError.{DataError}
use Rattle.data_io.specs.declared.data.DataError.TheVariants.{NotJson}
use Rattle.data_io.specs.DataFaults.{args_faults, args_of, faults_of, seed_of}
use Rattle.data_io.specs.Directions.{direction_faults, direction_of}
use Rattle.data_stages.specs.Faults.{say_data}

-- the value that the bytes spell
abbrev pub json_of : List ℕ → Option Data
json_of bytes = if is_utf8 bytes then read bytes else None

-- a value without faults, or its first fault
abbrev pub unless : {A : Type 0} → List DataError → A → Result A DataError
unless [] value = Ok value
unless (fault ∷ faults) value = Err fault

-- what a value that is spelled gives; bytes that spell none are no JSON
abbrev pub of_json : {A : Type 0} → Option Data → (Data → Result A DataError) → Result A DataError
of_json None found = Err NotJson
of_json (Some value) found = found value

abbrev pub args_in : Program → List ℕ → Result Args DataError
args_in program bytes = of_json (json_of bytes) (λ value. unless (args_faults program.decls program.args value) (args_of program value))

abbrev pub seed_in : Program → Args → List (List ℕ) → List ℕ → Result Weights DataError
seed_in program args of bytes = of_json (json_of bytes) (λ value. unless (faults_of args.entries program.decls of value) (seed_of program of value))

unfoldable pub args_part : Program → List ℕ → (Args → Plan) → Plan
args_part program bytes rest = or_say (say_data (codes "data")) (args_in program bytes) rest

unfoldable pub seed_part : Program → Args → List (List ℕ) → List ℕ → (Weights → Plan) → Plan
seed_part program args of bytes rest = or_say (say_data (codes "seed")) (seed_in program args of bytes) rest

-- the data file, of at most 2^26 bytes
unfoldable pub args_stage : List ℕ → Program → (Args → Plan) → Plan
args_stage file program rest = Asks file 67108864 (codes "limit data 67108864\n") (λ bytes. args_part program bytes rest)

-- the seed file, of at most 2^26 bytes
unfoldable pub seed_stage : List ℕ → Program → Args → List (List ℕ) → (Weights → Plan) → Plan
seed_stage file program args of rest = Asks file 67108864 (codes "limit data 67108864\n") (λ bytes. seed_part program args of bytes rest)

abbrev pub direction_in : Program → Args → List ℕ → Result Direction DataError
direction_in program args bytes = of_json (json_of bytes) (λ value. unless (direction_faults program args value) (direction_of program value))

unfoldable pub direction_part : Program → Args → List ℕ → (Direction → Plan) → Plan
direction_part program args bytes rest = or_say (say_data (codes "direction")) (direction_in program args bytes) rest

-- the direction file, of at most 2^26 bytes
unfoldable pub direction_stage : List ℕ → Program → Args → (Direction → Plan) → Plan
direction_stage file program args rest = Asks file 67108864 (codes "limit data 67108864\n") (λ bytes. direction_part program args bytes rest)
