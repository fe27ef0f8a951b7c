use Rattle.std.proofs.Common.{refl, ap, ◌∙◌, []}
use Rattle.store_core.specs.Keys.{place_in_slot}
use Rattle.resolved.specs.ResolvedExprs.{expression_back}
use Rattle.resolved.specs.ResolvedStmts.{option_back}
use Rattle.made_steps.proofs.Stores.{index_variable}
use Rattle.made_steps.proofs.heads.make_head.Goals as goal

pub returns : goal.returns
returns c = record {
  line = refl;
  within = c.requires.variable;
  variable = refl;
  kind = index_variable c.args.table.now c.args.head.now.variable (expression_back c.args.table.now.0 c.args.head.now.first) (expression_back c.args.table.now.0 c.args.head.now.last) (option_back c.args.table.now.0 c.args.head.now.step)
      c.requires.once c.requires.variable c.requires.kinded;
  place = c.place_in-place.ensures ∙ ap (λ shapes. place_in_slot shapes c.args.head.now.variable []) c.layout.ensures;
  first = rw c.into_inner.ensures c.in_ok-first.ensures;
  last = rw c.into_inner-2.ensures c.in_ok-last.ensures;
  step = rw c.unboxed.ensures c.in_ok-step.ensures;
}
