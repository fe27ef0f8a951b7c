use Rattle.std.proofs.Common.{◌≡◌, length, ap, ◌∙◌}
use Rattle.meaning.specs.Fitting.{names_at}
use Rattle.resolved.specs.SlotTables.{table_site}
use Rattle.resolved.specs.ResolvedExprs.{place_back, expression_back}
use Rattle.sweep_trees.specs.Split.{spot_tree}
use Rattle.sweep_trees.specs.Standing.{is_accessed_at}
use Rattle.split_trees.proofs.Parts.{place_within}
use Rattle.undo_steps.specs.UndoSteps.{growth_trees, reversal_tree}
use Rattle.made_steps.proofs.Stores.{assignment_kinded, place_named, termed}
use Rattle.made_growths.specs.Told.{told}
use Rattle.made_undos.proofs.Terms.{increment_stands}
use Rattle.made_undos.proofs.undo.undo_increment.Goals as goal

pub split_place-requires-clause-kinded : goal.split_place-requires-clause-kinded
split_place-requires-clause-kinded c = (assignment_kinded (names_at (table_site c.args.table.now)) (place_back c.args.table.now.0 c.args.target.now) (expression_back c.args.table.now.0 c.args.value.now) c.requires.kinded).1

pub returns : goal.returns
returns c w outer sc =
    let s = c.args.table.now in
    let p = place_back s.0 c.args.target.now in
    let e = expression_back s.0 c.args.value.now in
    let f = termed s p e c.args.form c.requires.formed in
    let plus : c.is_marked.result ≡ is_accessed_at c.args.marks.now.reduced c.args.target.now.slot
    = c.is_marked.ensures ∙ ap (λ marks. is_accessed_at marks c.args.target.now.slot) c.as_slice.ensures in
    increment_stands s (told c.args.names.now) c.args.marks.now.accessed c.args.marks.now.reduced c.args.region outer w c.args.target.now.slot p e c.args.atomic c.is_marked.result c.is_one_step-one_step.result
    (spot_tree c.in_ok-spot.spot) (reversal_tree c.in_ok-terms.terms) (growth_trees c.in_ok-growths.growths) f.rest sc c.requires.once (place_within (length s.0) c.args.target.now c.requires.target_within)
    (place_named s.0 c.args.target.now) f.is_rest c.in_ok-spot.ensures plus c.is_one_step-one_step.ensures (c.in_ok-terms.ensures f.rest f.is_rest) (c.in_ok-growths.ensures w f.rest sc.growing f.is_rest)
