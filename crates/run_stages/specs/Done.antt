-- What a run has written where it is done.
use Rattle.std.specs.Prelude.{ℕ, ◌+◌, ◌≡◌, true, List, Some, Ok}
use Rattle.std.specs.List.{list_all}
use Rattle.outside.specs.States.{Files}
use Rattle.fl_types.specs.Declarations.{is_ring_argument}
use Rattle.store_core.specs.Places.{shapes_of}
use Rattle.meaning.specs.Stops.{by_conflict, at_end}
use Rattle.forward_run.specs.Swept.{stop_in}
use Rattle.program_stage.specs.Accepted.{IsProgramOf}
use Rattle.data_stages.specs.Files.{args_in, seed_in}
use Rattle.formad_words.specs.declared.words.Request.{Request}
use Rattle.run_stages.specs.declared.inputs.Inputs.{Inputs}
use Rattle.run_stages.specs.Runs.{run_meaning, ticks_of_run, answer_text}

-- the files of a run give these inputs: an accepted program whose arguments the names are, its arguments and the weights, and the places of
-- its names
pub record AreInputs (files : Files) (request : Request) (inputs : Inputs) : Type 0 where
  pub source : List ℕ
  pub bytes : List ℕ
  pub seed : List ℕ
  pub program_file : files request.program ≡ Some source
  pub accepted : IsProgramOf source inputs.typed
  pub dependent : list_all (is_ring_argument inputs.typed) request.of ≡ true
  pub independent : list_all (is_ring_argument inputs.typed) request.wrt ≡ true
  pub data_file : files request.data ≡ Some bytes
  pub are_args : args_in inputs.typed bytes ≡ Ok inputs.args
  pub seed_file : files request.seed ≡ Some seed
  pub are_weights : seed_in inputs.typed inputs.args request.of seed ≡ Ok inputs.weights
  pub places : inputs.layout ≡ shapes_of inputs.typed inputs.args.entries

-- the text is the answer of the inputs that the files give, whose run nothing stops, and the counter of steps rose by one for each
-- statement instance
pub record IsRun (files : Files) (request : Request) (text : List ℕ) (before after : ℕ) : Type 0 where
  pub inputs : Inputs
  pub given : AreInputs files request inputs
  pub ends : stop_in by_conflict (run_meaning request inputs) ≡ at_end
  pub wrote : answer_text request inputs ≡ text
  pub ticked : after ≡ before + ticks_of_run request inputs
