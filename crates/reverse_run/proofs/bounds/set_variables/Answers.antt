use Rattle.reverse_run.proofs.Bounding.{one_set, two_set}
use Rattle.reverse_run.proofs.bounds.set_variables.Goals as goal

pub returns-in-One : goal.returns-in-One
returns-in-One g c = rw c.in-One.is (one_set c.args.run.now c.set_variable.new.run c.in-One.only c.args.k c.only_turn-turn.result c.only_turn-turn.ensures.value c.set_variable.ensures)

pub returns-in-Two : goal.returns-in-Two
returns-in-Two g c =
    rw c.in-Two.is (two_set c.args.run.now c.set_variable-in-Two.new.run c.set_variable-in-Two-2.new.run c.in-Two.outer c.in-Two.inner c.args.k c.row-row.result c.column-column.result c.row-row.ensures.value c.column-column.ensures.value
    c.set_variable-in-Two.ensures c.set_variable-in-Two-2.ensures)
