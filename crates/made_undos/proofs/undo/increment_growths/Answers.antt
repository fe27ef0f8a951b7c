use Rattle.std.proofs.Common.{◌≡◌, [], length, map, ap, sym, ◌∙◌, rules}
use Rattle.std.specs.Prelude.{true, false}
use Rattle.resolved.specs.ResolvedExprs.{place_back}
use Rattle.split_trees.proofs.Parts.{place_within}
use Rattle.transposition.specs.Back.{rest_occurrences}
use Rattle.undo_steps.specs.UndoSteps.{growth_tree}
use Rattle.made_steps.proofs.Stores.{place_named}
use Rattle.made_growths.specs.Told.{told}
use Rattle.made_growths.proofs.Walking.{is_on}
use Rattle.made_undos.proofs.Terms.{growths_there, no_growths, none_grown}
use Rattle.made_undos.proofs.undo.increment_growths.Goals as goal

pub returns-then-not-is_active : goal.returns-then-not-is_active
returns-then-not-is_active c w rs g h =
    let s = c.args.table.now in
    let o = c.args.target.now in
    let p = place_back s.0 o in
    let no : c.is_active.result ≡ false = search rules in
    let off : w.active p.name ≡ false = is_on s (told c.args.names.now) c.args.region w o.slot p.name g (place_within (length s.0) o c.requires.target_within) (place_named s.0 o) ∙ (sym c.is_active.ensures ∙ no) in
    no_growths s w (w.active p.name) (rest_occurrences w.active rs) off

pub returns : goal.returns
returns c w rs g h =
    let s = c.args.table.now in
    let o = c.args.target.now in
    let p = place_back s.0 o in
    let yes : c.is_active.result ≡ true = search rules in
    let on : w.active p.name ≡ true = is_on s (told c.args.names.now) c.args.region w o.slot p.name g (place_within (length s.0) o c.requires.target_within) (place_named s.0 o) ∙ (sym c.is_active.ensures ∙ yes) in
    growths_there s w (w.active p.name) (rest_occurrences w.active rs) _ on
    (c.in_ok-push_form_growths.ensures w [] rs g h (none_grown s w (map growth_tree c.new-growths.result) (ap (map growth_tree) c.new-growths.ensures)))
