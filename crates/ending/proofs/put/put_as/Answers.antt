use Rattle.ending.specs.Ends.{all_put, cut_off}
use Rattle.ending.proofs.put.put_as.Goals as goal

pub returns-then-put_all : goal.returns-then-put_all
returns-then-put_all g c = all_put (rw c.if-put_all.true at c.put_all.ensures)

pub returns-else-put_all : goal.returns-else-put_all
returns-else-put_all g c = cut_off (rw c.if-put_all.false at c.put_all.ensures)
