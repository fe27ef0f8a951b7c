use Rattle.std.proofs.Common.{◌≡◌, sym, subst, true, refl}
use Rattle.ring_core.specs.Index.{fits_index}
use Rattle.dual_evaluation.proofs.Counts.{value_fits, computed}
use Rattle.dual_meaning.proofs.Turning.{set_is}
use Rattle.dual_meaning.proofs.rounds.set_round.Goals as goal

pub begin_turn-requires : goal.begin_turn-requires
begin_turn-requires c =
    let t = c.args.round.now.turns in
    subst (λ z. fits_index z ≡ true) (sym (computed t.first t.step c.args.k c.requires.counted.first c.requires.counted.step)) (value_fits t c.args.k c.requires.counted c.requires.within)

pub returns : goal.returns
returns c =
    let r = c.args.round.now in
    set_is c.begin_turn.new.cells.items c.args.cells.now.items r.place r.place r.turns.first r.turns.step c.args.k c.begin_turn.ensures refl c.requires.counted.first c.requires.counted.step
