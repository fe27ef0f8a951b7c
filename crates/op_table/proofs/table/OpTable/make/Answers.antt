use Rattle.op_table.specs.Plays.{work}
use Rattle.op_table.proofs.Seats.{laid}
use Rattle.std.proofs.Common.{List, ℕ, [], ◌∷◌, ◌++◌, ◌∙◌, ap, replicate}
use Rattle.op_table.proofs.table.OpTable.make.Goals as goal

pub of_words-requires : goal.of_words-requires
of_words-requires g c = laid (work g.P.Plan.ops record { plan = c.args.plan; words = c.args.words; chunks = c.args.chunks; parts = c.args.workers }) c.as_slice-2.result.now []
    (c.as_slice-2.ensures.value ∙ (c.in_ok-all.ensures ∙ ap (λ (l : List ℕ). 0 ∷ l ++ replicate c.args.chunks 0) c.as_slice.ensures.value)) c.requires.some c.requires.sound
