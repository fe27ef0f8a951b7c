use Rattle.std.proofs.Common.{◌≡◌, ◌<◌, suc, None, length, get_or, add-one, rules, ap, sym, ◌∙◌, drop}
use Rattle.meaning.specs.Statements.{set_at}
use Rattle.resolved.specs.SlotTables.{table_site}
use Rattle.resolved.specs.ResolvedExprs.{slot_name}
use Rattle.resolved.specs.ResolvedStmts.{statements_back}
use Rattle.dual_meaning.specs.Running.{unset_places, unset_privates}
use Rattle.dual_meaning.proofs.Quotients.{unset_added, dropped}
use Rattle.dual_meaning.proofs.privates.private_places.Goals as goal

pub loop-name-preserved : goal.loop-name-preserved
loop-name-preserved c = λ cells.
    let s = c.args.table.now in
    let u = unset_privates (table_site s) c.args.directive.now (slot_name s.0 c.args.variable) (statements_back s.0 c.args.body.now) in
    let l : c.loop-name.name-index < length s.3 = search rules in
    let g : c.name-item.result ≡ get_or s.3 c.loop-name.name-index c.name-item.result = search rules in
    rw add-one
    (ap (u (drop (suc c.loop-name.name-index) s.3))
    (ap (λ ps. unset_places ps cells) c.in_ok-add.ensures ∙ (unset_added c.private_place-place.result c.loop-name.places.items cells ∙ ap (λ o. set_at o None (unset_places c.loop-name.places.items cells)) c.private_place-place.ensures))
    ∙ (sym (ap (λ xs. u xs (unset_places c.loop-name.places.items cells)) (dropped s.3 c.loop-name.name-index c.name-item.result l g)) ∙ c.loop-name.invariant cells))
