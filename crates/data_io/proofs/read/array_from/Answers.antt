use Rattle.data_io.proofs.Lists.{array_long, array_short}
use Rattle.data_io.proofs.read.array_from.Goals as goal

pub returns-then-got-want : goal.returns-then-got-want
returns-then-got-want c =
    array_long c.args.decl.now c.args.want c.in-Some.items.now.items _ c.words.result c.in-Some.ensures (rw (← c.as_slice-items.ensures.value) c.if-got-want.true) (rw (← c.as_slice-items.ensures.value) c.words.ensures)

pub returns-in_ok-clone-in-Some : goal.returns-in_ok-clone-in-Some
returns-in_ok-clone-in-Some c =
    λ _. rw (c.in_ok-clone-in-Some.ensures, c.as_slice-items.ensures.value) (array_short c.args.decl.now c.args.want c.in-Some.items.now.items _ c.in-Some.ensures (rw (← c.as_slice-items.ensures.value) c.if-got-want.false))
