use Rattle.std.proofs.Common.{length}
use Rattle.meaning.specs.Fitting.{names_at}
use Rattle.resolved.specs.SlotTables.{table_site}
use Rattle.resolved.specs.ResolvedExprs.{place_back, expression_back}
use Rattle.sweep_trees.specs.Split.{spot_tree}
use Rattle.split_trees.proofs.Parts.{place_within}
use Rattle.undo_steps.specs.UndoSteps.{growth_trees}
use Rattle.made_steps.proofs.Stores.{assignment_kinded, place_named}
use Rattle.made_growths.specs.Told.{told}
use Rattle.made_undos.proofs.Terms.{plain_stands}
use Rattle.made_undos.proofs.undo.undo_plain.Goals as goal

pub plain_growths-requires-clause-kinded : goal.plain_growths-requires-clause-kinded
plain_growths-requires-clause-kinded c = (assignment_kinded (names_at (table_site c.args.table.now)) (place_back c.args.table.now.0 c.args.target.now) (expression_back c.args.table.now.0 c.args.value.now) c.requires.kinded).2

pub split_place-requires-clause-kinded : goal.split_place-requires-clause-kinded
split_place-requires-clause-kinded c = (assignment_kinded (names_at (table_site c.args.table.now)) (place_back c.args.table.now.0 c.args.target.now) (expression_back c.args.table.now.0 c.args.value.now) c.requires.kinded).1

pub returns : goal.returns
returns c w accessed reduced outer atomic sc =
    let s = c.args.table.now in
    plain_stands s (told c.args.names.now) accessed reduced c.args.region outer w c.args.target.now.slot (place_back s.0 c.args.target.now) (expression_back s.0 c.args.value.now)
    (spot_tree c.in_ok-spot.spot) c.is_marked-restores.result (growth_trees c.in_ok-growths.growths) sc c.requires.once (place_within (length s.0) c.args.target.now c.requires.target_within) (place_named s.0 c.args.target.now)
    c.requires.plain c.in_ok-spot.ensures c.is_marked-restores.ensures (c.in_ok-growths.ensures w sc.growing)
