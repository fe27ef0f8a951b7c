use Rattle.std.proofs.Common.{◌≡◌, refl, [], map, ap, sym, ◌∙◌, rules}
use Rattle.std.specs.Prelude.{true}
use Rattle.resolved.specs.ResolvedExprs.{slot_name}
use Rattle.undo_steps.specs.UndoSteps.{growth_tree}
use Rattle.made_growths.specs.Told.{told}
use Rattle.made_growths.proofs.Walking.{is_on}
use Rattle.made_undos.proofs.Terms.{growths_there, none_grown}
use Rattle.made_undos.proofs.undo.plain_growths.Goals as goal

pub returns : goal.returns
returns c w g =
    let s = c.args.table.now in
    let yes : c.is_active.result ≡ true = search rules in
    let on : w.active (slot_name s.0 c.args.slot) ≡ true = is_on s (told c.args.names.now) c.args.region w c.args.slot (slot_name s.0 c.args.slot) g c.requires.slot refl ∙ (sym c.is_active.ensures ∙ yes) in
    growths_there s w (w.active (slot_name s.0 c.args.slot)) _ _ on
    (c.in_ok-push_growths.ensures w [] g (none_grown s w (map growth_tree c.new-growths.result) (ap (map growth_tree) c.new-growths.ensures)))
