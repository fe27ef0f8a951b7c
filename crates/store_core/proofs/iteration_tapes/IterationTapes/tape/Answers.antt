use Rattle.store_core.proofs.Pieces.{length-pieces}
use Rattle.store_core.proofs.iteration_tapes.IterationTapes.tape.Goals as goal

pub piece-requires-clause-within : goal.piece-requires-clause-within
piece-requires-clause-within c =
    rw c.deref-2.ensures.value (rw length-pieces at (rw (← c.self.view_is) at c.requires))
