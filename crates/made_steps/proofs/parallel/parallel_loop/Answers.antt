use Rattle.std.proofs.Common.{◌∷◌, subst, sym, ◌∙◌, Some}
use Rattle.std.proofs.lemmas.Result.{IfOk-weaker}
use Rattle.meaning.specs.Sites.{in_iteration}
use Rattle.resolved.specs.ResolvedExprs.{slot_name}
use Rattle.resolved.specs.ResolvedStmts.{statements_back}
use Rattle.sweep_steps.specs.declared.step.Around.{Around}
use Rattle.sweep_steps.specs.Steps.{around_tree}
use Rattle.sweep_steps.specs.StepsStand.{AroundStands}
use Rattle.loop_scopes.specs.declared.loops.LoopNames.{LoopNames}
use Rattle.made_steps.specs.declared.parallel.ParallelLoop.{ParallelLoop}
use Rattle.loop_scopes.specs.Loops.{names_in, IsLoopNames}
use Rattle.loop_scopes.specs.Scopes.{IsScope}
use Rattle.made_steps.specs.Scopes.{head_back}
use Rattle.loop_scopes.proofs.Scopes.{iteration_scope}
use Rattle.made_steps.proofs.parallel.parallel_loop.Goals as goal

pub returns : goal.returns
returns c site reduced sc =
    let s = c.args.table.now in
    let h = head_back s.0 c.args.line c.args.head.now in
    let var = slot_name s.0 c.args.head.now.variable in
    let body = statements_back s.0 c.args.body.now in
    let outer = names_in c.args.loops.now in
    let d = c.args.directive.now in
    let marks = c.in_ok-marks.marks in
    let around_names : IsLoopNames c.get.result.now outer var d body = subst (λ (l : LoopNames). IsLoopNames l outer var d body) (sym (c.get.ensures ∙ c.in_ok-names-2.ensures)) c.in_ok-names.ensures in
    let within_names : IsLoopNames c.get-2.result.now outer var d body = subst (λ (l : LoopNames). IsLoopNames l outer var d body) (sym (c.get-2.ensures ∙ c.in_ok-names-2.ensures)) c.in_ok-names.ensures in
    let around : AroundStands s site (Some d) h body (around_tree c.into_inner.result)
    = subst (λ (a : Around). AroundStands s site (Some d) h body (around_tree a)) (sym c.into_inner.ensures) (c.in_ok-around.ensures site reduced outer sc around_names) in
    let within = iteration_scope s c.args.pushed.now c.args.accessed.now reduced marks.accessed marks.reduced outer site c.get-2.result.now var d body sc within_names c.in_ok-marks.ensures.accessed c.in_ok-marks.ensures.reduced in
    IfOk-weaker c.new-2.result _ _
    (λ made e. subst
    (λ (p : ParallelLoop). AroundStands s site (Some d) h body (around_tree p.around) × IsScope s c.args.pushed.now p.marks.accessed p.marks.reduced (var ∷ outer) (in_iteration site d var body)) (sym e)
    (around, within))
    c.new-2.ensures
