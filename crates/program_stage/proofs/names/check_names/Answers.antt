use Rattle.std.proofs.Common.{◌∙◌, sym}
use Rattle.program_stage.proofs.NamesLaws.{passed, stopped, refuses_name, names_pass}
use Rattle.program_stage.proofs.names.check_names.Goals as goal

pub loop-name-preserved : goal.loop-name-preserved
loop-name-preserved c = λ rest.
    passed _ _ _ c.name-item.result rest c.loop-name-test.true c.name-item.is (sym c.is_ring_argument.ensures ∙ c.if-not-is_ring_argument.false) ∙ c.loop-name.invariant rest

pub returns-then-not-is_ring_argument : goal.returns-then-not-is_ring_argument
returns-then-not-is_ring_argument c = refuses_name _ _ c.name-item.result _ c.said_name.ensures (λ rest.
    sym (c.loop-name.invariant rest)
    ∙ stopped _ _ _ c.name-item.result rest c.loop-name-test.true c.name-item.is (sym c.is_ring_argument.ensures ∙ c.if-not-is_ring_argument.true))

pub returns : goal.returns
returns c = names_pass _ _ _ c.loop-name-test.false c.loop-name.invariant
