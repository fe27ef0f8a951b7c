-- What a command has written where it is done.
use Rattle.std.specs.Prelude.{ℕ, ◌+◌, ◌≡◌, true, List, Option, Some, Ok}
use Rattle.std.specs.List.{list_all}
use Rattle.outside.specs.States.{Files}
use Rattle.fl_ast.specs.declared.stmt.Program.{Program}
use Rattle.fl_types.specs.Declarations.{is_ring_argument}
use Rattle.store_core.specs.Places.{shapes_of}
use Rattle.meaning.specs.Stops.{at_end}
use Rattle.dual_meaning.specs.Runs.{stop_of, ticks_of}
use Rattle.program_stage.specs.Accepted.{IsProgramOf}
use Rattle.data_stages.specs.Files.{args_in, direction_in}
use Rattle.adjoint_stage.specs.Adjoints.{printed_adjoint}
use Rattle.certificate_stages.specs.Certificates.{proved_for}
use Rattle.run_stages.specs.Done.{IsRun}
use Rattle.formad_words.specs.declared.words.Subject.{Subject}
use Rattle.formad_words.specs.declared.words.Words.{Words}
use Rattle.formad_words.specs.declared.words.Words.TheVariants as words
use Rattle.commands.specs.declared.directed.Directed.{Directed}
use Rattle.commands.specs.Tangents.{directed_meaning, directed_text}

-- the files of a run in a direction give these inputs: an accepted program, its arguments and the direction, and the places of
-- its names
pub record AreDirected (files : Files) (program values direction : List ℕ) (inputs : Directed) : Type 0 where
  pub source : List ℕ
  pub bytes : List ℕ
  pub along : List ℕ
  pub program_file : files program ≡ Some source
  pub accepted : IsProgramOf source inputs.typed
  pub data_file : files values ≡ Some bytes
  pub are_args : args_in inputs.typed bytes ≡ Ok inputs.args
  pub direction_file : files direction ≡ Some along
  pub is_direction : direction_in inputs.typed inputs.args along ≡ Ok inputs.direction
  pub places : inputs.layout ≡ shapes_of inputs.typed inputs.args.entries

-- the text is the answer of the inputs that the files give, whose run comes to its end, and the counter of steps rose by one for
-- each statement instance
pub record IsTangentOf (files : Files) (program values direction : List ℕ) (text : List ℕ) (before after : ℕ) : Type 0 where
  pub inputs : Directed
  pub given : AreDirected files program values direction inputs
  pub ends : stop_of (directed_meaning inputs) ≡ at_end
  pub wrote : directed_text inputs ≡ text
  pub ticked : after ≡ before + ticks_of (directed_meaning inputs)

-- the text is that of the adjoint of the program in the file, of the names that are asked for, which are its arguments
pub record HasAdjoint (files : Files) (subject : Subject) (text : List ℕ) : Type 0 where
  pub source : List ℕ
  pub program : Program
  pub program_file : files subject.program ≡ Some source
  pub accepted : IsProgramOf source program
  pub dependent : list_all (is_ring_argument program) subject.of ≡ true
  pub independent : list_all (is_ring_argument program) subject.wrt ≡ true
  pub wrote : printed_adjoint program subject.of subject.wrt ≡ text

-- the text is the certificate of the plain pairs of the program in the file, for such names
pub record HasCertificate (files : Files) (subject : Subject) (text : List ℕ) : Type 0 where
  pub source : List ℕ
  pub program : Program
  pub program_file : files subject.program ≡ Some source
  pub accepted : IsProgramOf source program
  pub dependent : list_all (is_ring_argument program) subject.of ≡ true
  pub independent : list_all (is_ring_argument program) subject.wrt ≡ true
  pub wrote : proved_for program subject.of subject.wrt ≡ text

-- what is true of a command that is done: no other ones are built yet
abbrev pub IsDone : Files → Words → List ℕ → (before after : ℕ) → Type 0
IsDone files (words.Run request) text before after = IsRun files request text before after
IsDone files (words.Adjoint subject) text before after = HasAdjoint files subject text × (after ≡ before)
IsDone files (words.Prove subject) text before after = HasCertificate files subject text × (after ≡ before)
IsDone files (words.Check subject certificate) text before after = ⊥
IsDone files (words.Report subject) text before after = ⊥
IsDone files (words.Tangent program values direction) text before after = IsTangentOf files program values direction text before after
IsDone files (words.Replay replay) text before after = ⊥
IsDone files (words.Load edges workers) text before after = ⊥
