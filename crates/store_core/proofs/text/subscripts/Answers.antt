use Rattle.std.proofs.Common.{arith, rules, pos, get_or, SFits}
use Rattle.std.proofs.lemmas.Int.{to_z-of_z}
use mir.Syntax.{w128}
use Rattle.store_core.specs.declared.bound.Axis.{Axis}
use Rattle.store_core.proofs.Reading.{Next, next}
use Rattle.store_core.proofs.text.subscripts.Goals as goal

pub loop-axis-preserved : goal.loop-axis-preserved
loop-axis-preserved c =
    let d : Axis = record { lower = pos 0; extent = 0 } in
    let n : Next c.args.axes.now c.loop-axis.axis-index c.loop-axis.subscripts c.loop-axis.rest c.args.at (get_or c.args.axes.now c.loop-axis.axis-index d) =
    next c.args.axes.now c.loop-axis.axis-index c.loop-axis.subscripts c.loop-axis.rest c.args.at d c.loop-axis.invariant (omega arith) in
    let fits : SFits w128 c.above-subscript.result = search rules in
    let e = simp to_z-of_z at c.in_ok-push.ensures.ok in
    rw (e, c.above-subscript.ensures) n.then
