-- The grammar of the words.
use Rattle.std.specs.Prelude.{ℕ, Bool, ◌&&◌, ◌==◌, length, if◌then◌else◌, List, [], ◌∷◌, Option, Some, None, is_none, option_map, option_and_then, unwrap_or}
use Rattle.fl_ast.specs.declared.directive.Schedule.TheVariants.{Static}
use Rattle.formad_words.specs.declared.command.Command.{Command}
use Rattle.formad_words.specs.declared.command.Command.TheVariants as command
use Rattle.formad_words.specs.declared.settings.Settings.{Settings}
use Rattle.formad_words.specs.declared.words.Subject.{Subject}
use Rattle.formad_words.specs.declared.words.Request.{Request}
use Rattle.formad_words.specs.declared.words.Replay.{Replay}
use Rattle.formad_words.specs.declared.words.Words.{Words}
use Rattle.formad_words.specs.declared.words.Words.TheVariants as words
use Rattle.formad_words.specs.Commands.{command_in}
use Rattle.formad_words.specs.Numbers.{number_up_to}
use Rattle.formad_words.specs.SettingWords.{is_file}
use Rattle.formad_words.specs.SettingsWords.{settings_in, pair_of, is_plain}

-- something, where the test holds
abbrev pub only_if : {A : Type 0} → Bool → Option A → Option A
only_if test found = if test then found else None

abbrev pub subject_with : List ℕ → List (List ℕ) × List (List ℕ) → Subject
subject_with program pair = record { program = program; of = pair.0; wrt = pair.1 }

-- a program, and only `of` and `wrt`
abbrev pub subject_by : List ℕ → Settings → Option Subject
subject_by program s = only_if (is_plain s && is_file program) (option_map (subject_with program) (pair_of s.of s.wrt))

unfoldable pub subject_in : List (List ℕ) → Option Subject
subject_in [] = None
subject_in (program ∷ keys) = option_and_then (subject_by program) (settings_in keys)

abbrev pub checked_with : List ℕ → Subject → Words
checked_with certificate subject = words.Check subject certificate

-- a program, a certificate, and only `of` and `wrt`
abbrev pub check_by : List ℕ → List ℕ → Settings → Option Words
check_by program certificate s = only_if (is_file certificate) (option_map (checked_with certificate) (subject_by program s))

unfoldable pub check_in : List (List ℕ) → Option Words
check_in (program ∷ certificate ∷ keys) = option_and_then (check_by program certificate) (settings_in keys)
check_in ws = None

abbrev pub tangent_by : List ℕ → List ℕ → List ℕ → Option Words
tangent_by program values direction =
    only_if (is_file program && is_file values && is_file direction) (Some (words.Tangent program values direction))

-- a program, a data file and a direction
unfoldable pub tangent_in : List (List ℕ) → Option Words
tangent_in (program ∷ values ∷ direction ∷ more) = only_if (length more == 0) (tangent_by program values direction)
tangent_in ws = None

abbrev pub run_with : List ℕ → List ℕ → List ℕ → Settings → List (List ℕ) × List (List ℕ) → Words
run_with program values seed s pair = words.Run (record {
  program = program;
  «data» = values;
  seed = seed;
  of = pair.0;
  wrt = pair.1;
  workers = unwrap_or s.workers 1;
  schedule = unwrap_or s.schedule Static;
  certificate = s.certificate;
})

-- a program, a data file and a seed file, `of` and `wrt`, and `workers`, `schedule` and `cert` where they are wanted
abbrev pub run_by : List ℕ → List ℕ → List ℕ → Settings → Option Words
run_by program values seed s =
    only_if (is_none s.force && is_file program && is_file values && is_file seed) (option_map (run_with program values seed s) (pair_of s.of s.wrt))

unfoldable pub run_in : List (List ℕ) → Option Words
run_in (program ∷ values ∷ seed ∷ keys) = option_and_then (run_by program values seed) (settings_in keys)
run_in ws = None

abbrev pub replay_with : List ℕ → List ℕ → List ℕ → List ℕ → Settings → ℕ → List (List ℕ) × List (List ℕ) → Words
replay_with program values seed steps s workers pair = words.Replay (record {
  program = program;
  «data» = values;
  seed = seed;
  steps = steps;
  of = pair.0;
  wrt = pair.1;
  workers = workers;
  force = s.force;
})

-- the same with a step file, `workers`, and `force` where it is wanted
abbrev pub replay_by : List ℕ → List ℕ → List ℕ → List ℕ → Settings → Option Words
replay_by program values seed steps s =
    only_if (is_none s.schedule && is_none s.certificate && is_file program && is_file values && is_file seed && is_file steps)
    (option_and_then (λ workers. option_map (replay_with program values seed steps s workers) (pair_of s.of s.wrt)) s.workers)

unfoldable pub replay_in : List (List ℕ) → Option Words
replay_in (program ∷ values ∷ seed ∷ steps ∷ keys) = option_and_then (replay_by program values seed steps) (settings_in keys)
replay_in ws = None

abbrev pub load_with : ℕ → ℕ → Words
load_with workers edges = words.Load edges workers

-- a number of edges from 1 to 100,000, and only `workers`
abbrev pub load_by : List ℕ → Settings → Option Words
load_by edges s =
    only_if (is_none s.of && is_none s.wrt && is_none s.schedule && is_none s.certificate && is_none s.force)
    (option_and_then (λ workers. option_map (load_with workers) (number_up_to 100000 edges)) s.workers)

unfoldable pub load_in : List (List ℕ) → Option Words
load_in [] = None
load_in (edges ∷ keys) = option_and_then (load_by edges) (settings_in keys)

-- the words after a command's name
abbrev pub of_command : Command → List (List ℕ) → Option Words
of_command command.Adjoint ws = option_map words.Adjoint (subject_in ws)
of_command command.Prove ws = option_map words.Prove (subject_in ws)
of_command command.Check ws = check_in ws
of_command command.Report ws = option_map words.Report (subject_in ws)
of_command command.Tangent ws = tangent_in ws
of_command command.Run ws = run_in ws
of_command command.Replay ws = replay_in ws
of_command command.Load ws = load_in ws

-- the command of the words, where they are in the grammar
unfoldable pub words_in : List (List ℕ) → Option Words
words_in [] = None
words_in (name ∷ ws) = option_and_then (λ c. of_command c ws) (command_in name)
