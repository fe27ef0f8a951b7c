use Rattle.std.proofs.Common.{◌≡◌, ◌-◌, nat_lt, true}
use Rattle.parsing.specs.declared.fault.Cause.TheVariants.{Expected}
use Rattle.parsing.specs.Terminal.{on}
use Rattle.parsing.specs.Reading.{turns}
use Rattle.adjoint_statements.specs.Rooms.{limits_of}
use Rattle.adjoint_statements.specs.AdjointStmtReading as spec
use Rattle.adjoint_statements.proofs.rules.Rules.block.Given as goal

abbrev pub invariant-loop-turn : goal.invariant-loop-turn
invariant-loop-turn g l = spec.block (limits_of l.self.room) (nat_lt 0 l.self.blocks) (spec.nested (limits_of l.self.room) l.self.blocks) l.self.inside l.fn.found l.initial.tokens
    ≡ turns (on spec.begins_stmt) (λ x. true) Expected (spec.stmt (limits_of l.self.room) (nat_lt 0 l.self.blocks) (spec.nested (limits_of l.self.room) l.self.blocks) l.self.inside) (l._turn-end - l._turn) l.found l.tokens
