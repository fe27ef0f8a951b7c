use Rattle.std.proofs.Common.{◌≡◌, ◌<◌, ◌++◌, List, length, map, ap, sym, ◌∙◌, subst, rules}
use Rattle.std.specs.Prelude.{true, false}
use Rattle.fl_ast.specs.Tree.{Designator}
use Rattle.resolved.specs.ResolvedExprs.{slot_name, place_back}
use Rattle.split_trees.proofs.Parts.{place_is, place_within}
use Rattle.undo_steps.specs.UndoSteps.{GrowthTree, growth_tree}
use Rattle.undo_steps.specs.UndosStand.{EachGrowthStands}
use Rattle.transposition.specs.Spread.{occurrences}
use Rattle.fl_types.specs.Increment.{target_of}
use Rattle.made_growths.specs.Told.{told}
use Rattle.made_growths.specs.Factors.{factors_on}
use Rattle.made_growths.proofs.Walking.{is_on, grown, not_grown, pushed_growth}
use Rattle.made_growths.proofs.growths.push_growth.Goals as goal

pub returns-then-not-is_active : goal.returns-then-not-is_active
returns-then-not-is_active c w os g h =
    let s = c.args.table.now in
    let o = c.args.occurrence.now in
    let p = place_back s.0 o in
    let named : p.name ≡ slot_name s.0 o.slot = ap (λ (d : Designator). d.name) (place_is s.0 o) in
    let no : c.is_active.result ≡ false = search rules in
    let off : w.active p.name ≡ false = is_on s (told c.args.names.now) c.args.region w o.slot p.name g (place_within (length s.0) o c.requires.within) named ∙ (sym c.is_active.ensures ∙ no) in
    not_grown s w os _ p c.args.negative (factors_on s.0 c.args.path.now) off h

pub returns : goal.returns
returns c w os g h =
    let s = c.args.table.now in
    let o = c.args.occurrence.now in
    let p = place_back s.0 o in
    let fs = factors_on s.0 c.args.path.now in
    let named : p.name ≡ slot_name s.0 o.slot = ap (λ (d : Designator). d.name) (place_is s.0 o) in
    let below : o.slot < length s.0 = place_within (length s.0) o c.requires.within in
    let yes : c.is_active.result ≡ true = search rules in
    let on : w.active p.name ≡ true = is_on s (told c.args.names.now) c.args.region w o.slot p.name g below named ∙ (sym c.is_active.ensures ∙ yes) in
    let choice : c.choice_here-choice.result ≡ w.choice p.name = c.choice_here-choice.ensures ∙ (sym (g.choosing o.slot below) ∙ sym (ap w.choice named)) in
    subst (λ (l : List GrowthTree). EachGrowthStands s w (os ++ occurrences w.active (target_of p) c.args.negative fs) l)
    (sym (pushed_growth c.args.growths.now c.push.new.self c.into_inner.result c.in_ok-growth.growth c.in_ok-push.ensures.ok c.into_inner.ensures))
    (grown s w os (map growth_tree c.args.growths.now) p c.args.negative fs (growth_tree c.in_ok-growth.growth) on h (c.in_ok-growth.ensures w choice))
