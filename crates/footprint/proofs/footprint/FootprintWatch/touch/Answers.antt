use Rattle.std.proofs.Common.{true, false}
use Rattle.footprint.proofs.Touching.{stands_by_elements}
use Rattle.footprint.proofs.footprint.FootprintWatch.touch.Goals as goal

pub returns-then-clashes-clause-stands : goal.returns-then-clashes-clause-stands
returns-then-clashes-clause-stands c = λ below line ts s.
    rw c.lesser.ensures
    (stands_by_elements c.args.self.now _ c.self.view_is c.self.invariant line ts s c.args.place c.args.iteration c.args.kind below
    c.note-clashes.new.toucher c.note-clashes.new.changers true c.note-clashes.result c.index_mut.result.now c.index_mut-2.result.now
    c.index_mut.ensures.value c.index_mut-2.ensures.value c.note-clashes.ensures.known c.note-clashes.ensures.told c.if-clashes.true)

pub returns-else-clashes-clause-stands : goal.returns-else-clashes-clause-stands
returns-else-clashes-clause-stands c = λ below line ts s.
    stands_by_elements c.args.self.now _ c.self.view_is c.self.invariant line ts s c.args.place c.args.iteration c.args.kind below
    c.note-clashes.new.toucher c.note-clashes.new.changers false c.note-clashes.result c.index_mut.result.now c.index_mut-2.result.now
    c.index_mut.ensures.value c.index_mut-2.ensures.value c.note-clashes.ensures.known c.note-clashes.ensures.told c.if-clashes.false
