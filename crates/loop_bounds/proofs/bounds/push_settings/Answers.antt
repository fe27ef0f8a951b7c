use Rattle.std.proofs.Common.{false, ap, ◌∙◌}
use Rattle.fl_ast.specs.Tree.{expr_tree, step_tree}
use Rattle.fl_ast.specs.AdjointTree.{adjoint_assignment}
use Rattle.adjoint_rules.specs.Bounds.{step_of}
use Rattle.adjoint_rules.specs.Expressions.{in_adjoint}
use Rattle.adjoint_rules.specs.OwnNames.{scalar, lo_name, hi_name, by_name}
use Rattle.loop_bounds.proofs.Three.{on_ok, three}
use Rattle.loop_bounds.proofs.bounds.push_settings.Goals as goal

pub returns : goal.returns
returns c =
    on_ok c.push-3.result
    (λ e. three c.args.statements.now c.push.new.self c.push-2.new.self c.push-3.new.self c.in_ok-setting.field-0 c.in_ok-setting-2.field-0 c.in_ok-setting-3.field-0
    (adjoint_assignment c.args.head.now.line false (scalar (lo_name c.args.head.now.number)) (in_adjoint (expr_tree c.args.head.now.first.now)))
    (adjoint_assignment c.args.head.now.line false (scalar (hi_name c.args.head.now.number)) (in_adjoint (expr_tree c.args.head.now.last.now)))
    (adjoint_assignment c.args.head.now.line false (scalar (by_name c.args.head.now.number)) (in_adjoint (step_of (step_tree c.args.head.now.step.now))))
    c.in_ok-push.ensures.ok c.in_ok-push-2.ensures.ok e
    (c.in_ok-setting.ensures ∙ ap (adjoint_assignment c.args.head.now.line false (scalar (lo_name c.args.head.now.number))) c.in_ok-first.ensures)
    (c.in_ok-setting-2.ensures ∙ ap (adjoint_assignment c.args.head.now.line false (scalar (hi_name c.args.head.now.number))) c.in_ok-last.ensures)
    (c.in_ok-setting-3.ensures ∙ ap (adjoint_assignment c.args.head.now.line false (scalar (by_name c.args.head.now.number))) c.in_ok-step.ensures))
    c.push-3.ensures.ok
