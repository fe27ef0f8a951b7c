use Rattle.std.proofs.Common.{arith, subst, ◌∙◌}
use Rattle.store_core.specs.Keys.{IsLaidOut}
use Rattle.store_core.proofs.Slots.{first_small, any_default}
use Rattle.store_core.proofs.layout.Layout.first.Goals as goal

pub returns-clause-small : goal.returns-clause-small
returns-clause-small c =
    let h : IsLaidOut c.args.self.now c.self.inside.firsts.items = subst (λ es. IsLaidOut es c.self.inside.firsts.items) c.self.view_is c.self.invariant in
    let e = c.index.ensures ∙ any_default c.self.inside.firsts.items c.args.slot c.index.result.now 0 (omega (arith, h.long)) ∙ h.each c.args.slot (omega arith) in
    omega (arith, e, first_small c.args.self.now c.args.slot, h.small)
