use Rattle.std.proofs.lemmas.Bool.{and_from}
use Rattle.resolved.proofs.Slots.{slot_stands, found_some}
use Rattle.resolved.proofs.resolve_stmts.resolve_head.Goals as goal

pub returns : goal.returns
returns c = (
  slot_stands c.args.layout.now c.args.var.now c.in-Some.slot c.in-Some.ensures.value,
  c.in-Some.ensures.within,
  c.in_ok-first.ensures.0,
  c.in_ok-first.ensures.1,
  c.in_ok-last.ensures.0,
  c.in_ok-last.ensures.1,
  c.in_ok-step.ensures.0,
  c.in_ok-step.ensures.1,
  and_from _ _ (found_some _ c.in-Some.slot c.in-Some.ensures.value) (and_from _ _ c.in_ok-first.ensures.2 (and_from _ _ c.in_ok-last.ensures.2 c.in_ok-step.ensures.2)),
)
