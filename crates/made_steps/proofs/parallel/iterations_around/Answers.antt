use Rattle.std.proofs.Common.{subst, sym, Some}
use Rattle.std.proofs.lemmas.Result.{IfOk-weaker}
use Rattle.resolved.specs.ResolvedStmts.{statements_back}
use Rattle.sweep_steps.specs.Steps.{around_tree, head_tree, inner_tree}
use Rattle.sweep_steps.specs.StepsStand.{AroundStands}
use Rattle.made_steps.specs.Scopes.{head_back}
use Rattle.made_steps.proofs.Arounds.{iterations_stand}
use Rattle.made_steps.proofs.parallel.iterations_around.Goals as goal

pub returns : goal.returns
returns c site reduced outer s n =
    let t = c.args.table.now in
    let h = head_back t.0 c.args.line c.args.head.now in
    let body = statements_back t.0 c.args.body.now in
    IfOk-weaker c.new-2.result _ _
    (λ made e. subst (λ a. AroundStands t site (Some c.args.directive.now) h body (around_tree a)) (sym e)
    (iterations_stand t c.args.pushed.now c.args.accessed.now reduced outer site c.args.names.now h c.args.directive.now body (head_tree c.in_ok-head.head) (inner_tree c.into_inner.result) c.in_ok-privates.privates
    s n c.requires.declared c.in_ok-head.ensures (rw (c.into_inner.ensures, c.in_ok-inner-2.ensures) c.in_ok-inner.ensures) c.in_ok-privates.ensures))
    c.new-2.ensures
