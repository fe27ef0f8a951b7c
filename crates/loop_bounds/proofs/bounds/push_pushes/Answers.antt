use Rattle.fl_ast.specs.Tree.{expr_tree}
use Rattle.fl_ast.specs.AdjointTree.{push}
use Rattle.adjoint_rules.specs.OwnNames.{value, lo_name, hi_name, by_name}
use Rattle.loop_bounds.proofs.Three.{on_ok, three}
use Rattle.loop_bounds.proofs.bounds.push_pushes.Goals as goal

pub returns : goal.returns
returns c =
    on_ok c.push-3.result
    (λ e. three c.args.statements.now c.push.new.self c.push-2.new.self c.push-3.new.self c.in_ok-pushed.field-0 c.in_ok-pushed-2.field-0 c.in_ok-pushed-3.field-0
    (push c.args.head.now.line (expr_tree c.args.key.now) (value (lo_name c.args.head.now.number)))
    (push c.args.head.now.line (expr_tree c.args.key.now) (value (hi_name c.args.head.now.number)))
    (push c.args.head.now.line (expr_tree c.args.key.now) (value (by_name c.args.head.now.number)))
    c.in_ok-push.ensures.ok c.in_ok-push-2.ensures.ok e c.in_ok-pushed.ensures c.in_ok-pushed-2.ensures c.in_ok-pushed-3.ensures)
    c.push-3.ensures.ok
