-- Files that are asked for in their order, and whose contents no part reads yet.
use Rattle.std.specs.Prelude.{ℕ, List, codes, Option, Some, None}
use Rattle.ending.specs.Plan.{Plan, Asks}
use Rattle.program_stage.specs.Lines.{not_built_plan}

-- a file within its limit is where the command ends
unfoldable pub unread_stage : List ℕ → ℕ → List ℕ → (Unit {0} → Plan) → Plan
unread_stage file limit over rest = Asks file limit over (λ bytes. not_built_plan)

-- the certificate, of at most 2^22 bytes
unfoldable pub certificate_stage : Option (List ℕ) → (Unit {0} → Plan) → Plan
certificate_stage None rest = rest tt
certificate_stage (Some file) rest = unread_stage file 4194304 (codes "limit certificate 4194304\n") rest
