use Rattle.std.proofs.Common.{◌∷◌, subst, sym, ◌∙◌, Some}
use Rattle.std.proofs.lemmas.Result.{IfOk-weaker}
use Rattle.resolved.specs.ResolvedExprs.{slot_name}
use Rattle.resolved.specs.ResolvedStmts.{statements_back}
use Rattle.transposition.specs.Worlds.{in_iteration}
use Rattle.undo_steps.specs.declared.undo.UndoAround.{UndoAround}
use Rattle.undo_steps.specs.UndoSteps.{around_undo}
use Rattle.undo_steps.specs.UndosStand.{AroundUndoes}
use Rattle.loop_scopes.specs.declared.loops.LoopNames.{LoopNames}
use Rattle.loop_scopes.specs.Loops.{names_in, IsLoopNames}
use Rattle.made_growths.specs.Told.{told}
use Rattle.made_undos.specs.declared.around.ParallelUndo.{ParallelUndo}
use Rattle.made_undos.specs.UndoScopes.{IsUndoScope}
use Rattle.made_undos.proofs.Arounds.{iteration_undo}
use Rattle.made_undos.proofs.around.parallel_undo.Goals as goal

pub returns : goal.returns
returns c w accessed reduced region sc =
    let s = c.args.table.now in
    let told_here = told c.args.names.now in
    let var = slot_name s.0 c.args.variable in
    let body = statements_back s.0 c.args.body.now in
    let outer = names_in c.args.loops.now in
    let d = c.args.directive.now in
    let marks = c.in_ok-marks.marks in
    let around_names : IsLoopNames c.get.result.now outer var d body = subst (λ (l : LoopNames). IsLoopNames l outer var d body) (sym (c.get.ensures ∙ c.in_ok-own-2.ensures)) c.in_ok-own.ensures in
    let within_names : IsLoopNames c.get-2.result.now outer var d body = subst (λ (l : LoopNames). IsLoopNames l outer var d body) (sym (c.get-2.ensures ∙ c.in_ok-own-2.ensures)) c.in_ok-own.ensures in
    let around : AroundUndoes s w c.args.number (Some d) var body (around_undo c.into_inner.result)
    = subst (λ (a : UndoAround). AroundUndoes s w c.args.number (Some d) var body (around_undo a)) (sym c.into_inner.ensures) (c.in_ok-around.ensures w accessed reduced region outer sc around_names) in
    let within = iteration_undo s told_here accessed reduced marks.accessed marks.reduced region outer w c.get-2.result.now c.args.number var d body sc within_names c.in_ok-marks.ensures.accessed c.in_ok-marks.ensures.reduced in
    IfOk-weaker c.new-2.result _ _
    (λ made e. subst
    (λ (p : ParallelUndo). AroundUndoes s w c.args.number (Some d) var body (around_undo p.around)
    × IsUndoScope s told_here p.marks.accessed p.marks.reduced (Some c.args.number) (var ∷ outer) (in_iteration w c.args.number d var body)) (sym e)
    (around, within))
    c.new-2.ensures
