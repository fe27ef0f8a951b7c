use Rattle.std.proofs.Common.{ap, ◌∙◌}
use Rattle.ending.proofs.Follow.{goes_in, ends_in, gives}
use Rattle.adjoint_sets.specs.Names.{is_needed}
use Rattle.adjoint_sets.proofs.Same.{active_is}
use Rattle.run_stages.proofs.answer.answer.Goals as goal

pub run_forward-requires-clause-needed : goal.run_forward-requires-clause-needed
run_forward-requires-clause-needed g c =
    c.in-Ok.ensures ∙ ap (is_needed c.args.prepared.now.inputs.typed) (active_is c.args.prepared.now.inputs.typed c.args.request.now.of c.args.request.now.wrt _ c.requires.active)

pub answer_back-requires-clause-needed : goal.answer_back-requires-clause-needed
answer_back-requires-clause-needed g c =
    c.in-Ok.ensures ∙ ap (is_needed c.args.prepared.now.inputs.typed) (active_is c.args.prepared.now.inputs.typed c.args.request.now.of c.args.request.now.wrt _ c.requires.active)

pub returns-in_err-forwarded-clause-part : goal.returns-in_err-forwarded-clause-part
unfolding Rattle.run_stages.specs.Runs.answer_stage
returns-in_err-forwarded-clause-part g c = ends_in c.in_err-forwarded.ensures.part c.from_residual.ensures

pub returns-in-Ok-answer_back-clause-part : goal.returns-in-Ok-answer_back-clause-part
unfolding Rattle.run_stages.specs.Runs.answer_stage
returns-in-Ok-answer_back-clause-part g c = goes_in c.in_ok-forwarded.ensures.part (gives _ c.in-Ok-answer_back.ensures)
