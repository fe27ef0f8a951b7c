use Rattle.std.proofs.Common.{length, refl}
use Rattle.store_core.proofs.Pieces.{end_within, piece_is}
use Rattle.store_core.proofs.iteration_tapes.piece.Goals as goal

pub part-requires : goal.part-requires
part-requires c =
    let a = end_within c.args.starts.now (length c.args.words.now) c.args.at c.requires.starts c.requires.within in
    record { order = rw c.end.ensures a.0; within = rw c.end.ensures a.1 }

pub returns : goal.returns
returns c = rw (c.part.ensures, c.end.ensures) (piece_is c.args.words.now c.args.starts.now c.args.at c.requires.within _ refl)
