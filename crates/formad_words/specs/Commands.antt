-- The first word.
use Rattle.std.specs.Prelude.{ℕ, if◌then◌else◌, List, codes, Option, Some, None, bytes_eq}
use Rattle.formad_words.specs.declared.command.Command.{Command}
use Rattle.formad_words.specs.declared.command.Command.TheVariants as command

abbrev pub command_in : List ℕ → Option Command
command_in word =
    if bytes_eq word (codes "adjoint") then Some command.Adjoint
    else (if bytes_eq word (codes "prove") then Some command.Prove
    else (if bytes_eq word (codes "check") then Some command.Check
    else (if bytes_eq word (codes "report") then Some command.Report
    else (if bytes_eq word (codes "tangent") then Some command.Tangent
    else (if bytes_eq word (codes "run") then Some command.Run
    else (if bytes_eq word (codes "replay") then Some command.Replay
    else (if bytes_eq word (codes "load") then Some command.Load
    else None)))))))
