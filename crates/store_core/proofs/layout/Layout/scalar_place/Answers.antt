use Rattle.std.proofs.Common.{arith, subst, ap, sym, ◌∙◌, Some}
use Rattle.store_core.specs.Keys.{IsLaidOut}
use Rattle.store_core.proofs.Slots.{any_default}
use Rattle.store_core.proofs.Scalars.{scalar_at, scalar_place_is}
use Rattle.store_core.proofs.layout.Layout.scalar_place.Goals as goal

pub returns-clause-value : goal.returns-clause-value
returns-clause-value c =
    let h : IsLaidOut c.args.self.now c.self.inside.firsts.items = subst (λ es. IsLaidOut es c.self.inside.firsts.items) c.self.view_is c.self.invariant in
    let r = scalar_at c.args.self.now c.args.slot c.requires.scalars c.requires.within in
    let e = c.index.ensures ∙ any_default c.self.inside.firsts.items c.args.slot c.index.result.now 0 (omega (arith, h.long, c.requires.within)) ∙ h.each c.args.slot (omega (arith, c.requires.within)) in
    scalar_place_is c.args.self.now c.args.slot h.once r ∙ ap Some (sym e)

pub returns-clause-below : goal.returns-clause-below
returns-clause-below c =
    let h : IsLaidOut c.args.self.now c.self.inside.firsts.items = subst (λ es. IsLaidOut es c.self.inside.firsts.items) c.self.view_is c.self.invariant in
    let r = scalar_at c.args.self.now c.args.slot c.requires.scalars c.requires.within in
    let e = c.index.ensures ∙ any_default c.self.inside.firsts.items c.args.slot c.index.result.now 0 (omega (arith, h.long, c.requires.within)) ∙ h.each c.args.slot (omega (arith, c.requires.within)) in
    omega (arith, e, r.below)
