use Rattle.std.proofs.Common.{arith}
use Rattle.std.proofs.lemmas.Result.{err_from_is_err_and}
use Rattle.data_io.proofs.First.{first_here}
use Rattle.data_io.proofs.read.entries.Goals as goal

pub returns-in_err-entries_at : goal.returns-in_err-entries_at
returns-in_err-entries_at c =
    let p = err_from_is_err_and c.from_residual.result c.from_residual.ensures.1 in
    rw (p.1, p.2) (λ some. first_here _ c.args.names.now c.loop-name.name-index c.name-item.result _ c.loop-name.invariant.0 (omega arith) c.name-item.is (c.in_err-entries_at.ensures some))
