-- What the stages of data have found where the command is done.
use Rattle.std.proofs.Common.{◌≡◌, ℕ, ◌^◌, Bool, true, false, nat_le, if◌then◌else◌, List, length, codes, Option, Some, None, Result, Ok, Err, refl}
use Rattle.outside.specs.States.{Files}
use Rattle.ending.specs.declared.status.Status.{Status}
use Rattle.ending.specs.declared.status.Status.TheVariants.{Done}
use Rattle.ending.specs.Plan.{Plan, LeadsTo}
use Rattle.ending.proofs.Done.{said_undone, file_done, part_done}
use Rattle.fl_ast.specs.declared.stmt.Program.{Program}
use Rattle.store_core.specs.declared.layout.Shape.{Shape}
use Rattle.store_core.specs.declared.layout.LayoutError.{LayoutError}
use Rattle.store_core.specs.declared.layout.LayoutError.TheVariants.{TooManyPlaces}
use Rattle.store_core.specs.declared.values.Args.{Args}
use Rattle.store_core.specs.declared.values.Weights.{Weights}
use Rattle.store_core.specs.declared.values.Direction.{Direction}
use Rattle.store_core.specs.Keys.{keys_of}
use Rattle.store_core.specs.Places.{shapes_of}
use Rattle.data_stages.specs.Faults.{say_data}
use Rattle.data_stages.specs.Files.{args_in, seed_in, direction_in, args_part, seed_part, direction_part, args_stage, seed_stage, direction_stage}
use Rattle.data_stages.specs.Later.{unread_stage, certificate_stage}
use Rattle.data_stages.specs.Layouts.{laid_out, say_layout, layout_stage}

pub args_done : {files : Files} (file : List ℕ) (program : Program) (rest : Args → Plan) {status : Status} {text : List ℕ} → LeadsTo files (args_stage file program rest) status text → status ≡ Done →
    (bytes : List ℕ) × (args : Args) × (files file ≡ Some bytes) × (args_in program bytes ≡ Ok args) × LeadsTo files (rest args) status text
unfolding args_stage args_part
args_done file program rest c h =
    let found = file_done c h in
    let args = part_done (say_data (codes "data")) (args_in program found.0) rest found.2 h in
    (found.0, args.0, found.1, args.1, args.2)

pub seed_done : {files : Files} (file : List ℕ) (program : Program) (args : Args) (of : List (List ℕ)) (rest : Weights → Plan) {status : Status} {text : List ℕ} →
    LeadsTo files (seed_stage file program args of rest) status text → status ≡ Done →
    (bytes : List ℕ) × (weights : Weights) × (files file ≡ Some bytes) × (seed_in program args of bytes ≡ Ok weights) × LeadsTo files (rest weights) status text
unfolding seed_stage seed_part
seed_done file program args of rest c h =
    let found = file_done c h in
    let weights = part_done (say_data (codes "seed")) (seed_in program args of found.0) rest found.2 h in
    (found.0, weights.0, found.1, weights.1, weights.2)

pub direction_done : {files : Files} (file : List ℕ) (program : Program) (args : Args) (rest : Direction → Plan) {status : Status} {text : List ℕ} →
    LeadsTo files (direction_stage file program args rest) status text → status ≡ Done →
    (bytes : List ℕ) × (direction : Direction) × (files file ≡ Some bytes) × (direction_in program args bytes ≡ Ok direction) × LeadsTo files (rest direction) status text
unfolding direction_stage direction_part
direction_done file program args rest c h =
    let found = file_done c h in
    let direction = part_done (say_data (codes "direction")) (direction_in program args found.0) rest found.2 h in
    (found.0, direction.0, found.1, direction.1, direction.2)

-- a file that no part reads ends its command
pub unread_undone : {files : Files} (file : List ℕ) (limit : ℕ) (over : List ℕ) (rest : Unit {0} → Plan) {status : Status} {text : List ℕ} →
    LeadsTo files (unread_stage file limit over rest) status text → status ≡ Done → ⊥
unfolding unread_stage
unread_undone file limit over rest c h = said_undone (file_done c h).2 h

pub certificate_done : {files : Files} (file : Option (List ℕ)) (rest : Unit {0} → Plan) {status : Status} {text : List ℕ} →
    LeadsTo files (certificate_stage file rest) status text → status ≡ Done → LeadsTo files (rest tt) status text
unfolding certificate_stage
certificate_done None rest c h = c
certificate_done (Some file) rest c h = absurd (unread_undone file 4194304 _ rest c h)

abbrev judged : Bool → List Shape → Result (List Shape) LayoutError
judged test shapes = if test then Ok shapes else Err TooManyPlaces

layout_is : (test : Bool) (shapes layout : List Shape) → judged test shapes ≡ Ok layout → shapes ≡ layout
layout_is true shapes layout e = cc
layout_is false shapes layout e = cc

pub layout_done : {files : Files} (program : Program) (args : Args) (rest : List Shape → Plan) {status : Status} {text : List ℕ} →
    LeadsTo files (layout_stage program args rest) status text → status ≡ Done → LeadsTo files (rest (shapes_of program args.entries)) status text
unfolding layout_stage
layout_done program args rest c h =
    let found = part_done say_layout (laid_out (shapes_of program args.entries)) rest c h in
    rw (layout_is (nat_le (length (keys_of (shapes_of program args.entries))) (2 ^ 20)) _ _ found.1) found.2
