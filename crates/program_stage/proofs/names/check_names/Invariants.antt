use Rattle.std.proofs.Common.{◌≡◌, drop}
use Rattle.ending.specs.Plan.{Plan}
use Rattle.program_stage.specs.Names.{names_stage}
use Rattle.program_stage.proofs.names.check_names.Given as goal

-- the names that are left lead on as all do
abbrev pub invariant-loop-name : goal.invariant-loop-name
invariant-loop-name l = (rest : Unit {0} → Plan) → names_stage l.typed (drop l.name-index l.names) rest ≡ names_stage l.typed l.names rest
