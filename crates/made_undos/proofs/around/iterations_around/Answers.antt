use Rattle.std.proofs.Common.{subst, sym, Some}
use Rattle.std.proofs.lemmas.Result.{IfOk-weaker}
use Rattle.resolved.specs.ResolvedExprs.{slot_name}
use Rattle.resolved.specs.ResolvedStmts.{statements_back}
use Rattle.undo_steps.specs.UndoSteps.{around_undo, variable_places}
use Rattle.undo_steps.specs.UndosStand.{AroundUndoes}
use Rattle.made_growths.specs.Told.{told}
use Rattle.made_undos.proofs.Arounds.{iterations_undo}
use Rattle.made_undos.proofs.around.iterations_around.Goals as goal

pub returns : goal.returns
returns c w accessed reduced region outer sc n =
    let s = c.args.table.now in
    let var = slot_name s.0 c.args.variable in
    let body = statements_back s.0 c.args.body.now in
    IfOk-weaker c.new.result _ _
    (λ made e. subst (λ a. AroundUndoes s w c.args.number (Some c.args.directive.now) var body (around_undo a)) (sym e)
    (iterations_undo s (told c.args.names.now) accessed reduced region outer w c.args.own.now c.args.number var c.args.directive.now body (variable_places c.loop_variables-variables.result) c.in_ok-privates.privates
    c.in_ok-reductions.reductions sc n c.requires.declared c.loop_variables-variables.ensures c.in_ok-privates.ensures c.in_ok-reductions.ensures))
    c.new.ensures
