use Rattle.std.proofs.Common.{ap, sym, ◌∙◌, arith, ◌++◌, ◌∷◌, []}
use Rattle.reachability.proofs.Marks.{never}
use Rattle.reachability.proofs.Listed.{named_on, named_past, named_all}
use Rattle.reachability.proofs.naming.names_at.Goals.{then-marks-i+in_ok-clone+in_ok-push, else-marks-i}
use Rattle.reachability.proofs.naming.names_at.Goals as goal

pub loop-i-preserved : goal.loop-i-preserved
loop-i-preserved c = elim c.if-marks-i.branch [
  | then-marks-i+in_ok-clone+in_ok-push w ↦
      named_on c.args.decls.now c.args.marks.now c.loop-i.i c.loop-i.names c.if-marks-i.names w.index-decls-i.result
      (w.names-is ∙ (w.in_ok-push.ensures.ok ∙ ap (λ n. c.loop-i.names ++ n ∷ []) w.in_ok-clone.ensures))
      c.loop-i-test.true w.if-marks-i.true c.loop-i.invariant
  | else-marks-i w ↦ named_past c.args.decls.now c.args.marks.now c.loop-i.i c.loop-i.names c.if-marks-i.names w.names-is (λ e. never (sym w.if-marks-i.false ∙ e)) c.loop-i.invariant
]

pub returns : goal.returns
returns c = named_all c.args.decls.now c.args.marks.now c.loop-i.i c.loop-i.names (omega (arith, c.loop-i-test.false, c.loop-i.auto.i-end)) c.loop-i.invariant
