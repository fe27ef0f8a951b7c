use Rattle.std.proofs.Common.{◌+◌, arith, subst, ◌∙◌}
use Rattle.store_core.specs.Keys.{IsLaidOut}
use Rattle.store_core.proofs.Slots.{first_small, any_default, first_before}
use Rattle.store_core.proofs.layout.Layout.next.Goals as goal

pub returns-clause-value : goal.returns-clause-value
returns-clause-value c =
    let h : IsLaidOut c.args.self.now c.self.inside.firsts.items = subst (λ es. IsLaidOut es c.self.inside.firsts.items) c.self.view_is c.self.invariant in
    c.index.ensures ∙ any_default c.self.inside.firsts.items (c.args.slot + 1) c.index.result.now 0 (omega (arith, h.long)) ∙ h.each (c.args.slot + 1) (omega arith)

pub returns-clause-small : goal.returns-clause-small
returns-clause-small c =
    let h : IsLaidOut c.args.self.now c.self.inside.firsts.items = subst (λ es. IsLaidOut es c.self.inside.firsts.items) c.self.view_is c.self.invariant in
    let e = c.index.ensures ∙ any_default c.self.inside.firsts.items (c.args.slot + 1) c.index.result.now 0 (omega (arith, h.long)) ∙ h.each (c.args.slot + 1) (omega arith) in
    omega (arith, e, first_small c.args.self.now (c.args.slot + 1))

pub returns-clause-after : goal.returns-clause-after
returns-clause-after c =
    let h : IsLaidOut c.args.self.now c.self.inside.firsts.items = subst (λ es. IsLaidOut es c.self.inside.firsts.items) c.self.view_is c.self.invariant in
    let e = c.index.ensures ∙ any_default c.self.inside.firsts.items (c.args.slot + 1) c.index.result.now 0 (omega (arith, h.long)) ∙ h.each (c.args.slot + 1) (omega arith) in
    omega (arith, e, first_before c.args.self.now c.args.slot)

pub returns-clause-room : goal.returns-clause-room
returns-clause-room c =
    let h : IsLaidOut c.args.self.now c.self.inside.firsts.items = subst (λ es. IsLaidOut es c.self.inside.firsts.items) c.self.view_is c.self.invariant in
    let e = c.index.ensures ∙ any_default c.self.inside.firsts.items (c.args.slot + 1) c.index.result.now 0 (omega (arith, h.long)) ∙ h.each (c.args.slot + 1) (omega arith) in
    omega (arith, e, first_small c.args.self.now (c.args.slot + 1), h.small)
