use Rattle.std.proofs.Common.{ℕ, ◌-◌, arith, refl, Vec}
use Rattle.std.specs.declared.alloc.Global.{Global}
use Rattle.store_core.proofs.Names.{span, text_at_all}
use Rattle.store_core.proofs.layout.Layout.name_of.Goals as goal

pub place_text-requires-clause-below : goal.place_text-requires-clause-below
place_text-requires-clause-below c =
    let s = span c.args.self.now c.shapes-shapes.result.now c.loop-slot.slot c.index-shapes-slot.result c.first.result c.next.result c.shapes-shapes.ensures.value (omega arith) c.index-shapes-slot.is c.first.ensures.value c.next.ensures.value in
    omega (arith, s, c.if-place-next.true, c.first.ensures.value, c.loop-slot.invariant)

pub place_text-requires-clause-room : goal.place_text-requires-clause-room
place_text-requires-clause-room c =
    let s = span c.args.self.now c.shapes-shapes.result.now c.loop-slot.slot c.index-shapes-slot.result c.first.result c.next.result c.shapes-shapes.ensures.value (omega arith) c.index-shapes-slot.is c.first.ensures.value c.next.ensures.value in
    omega (arith, s, c.next.ensures.room)

pub returns-then-place-next : goal.returns-then-place-next
returns-then-place-next c =
    text_at_all c.args.self.now c.shapes-shapes.result.now c.loop-slot.slot c.index-shapes-slot.result c.first.result c.next.result c.args.place (c.args.place - c.first.result) (λ (v : Vec ℕ Global). v.items) c.place_text.result c.shapes-shapes.ensures.value (omega arith) c.index-shapes-slot.is
    c.first.ensures.value c.next.ensures.value (omega (arith, c.first.ensures.value, c.loop-slot.invariant)) c.if-place-next.true refl c.place_text.ensures
