use Rattle.std.proofs.Common.{◌≡◌, [], ◌<◌, ◌+◌, ◌∙◌, ap, length, get_or, take, rules}
use Rattle.store_core.specs.Keys.{keys_of}
use Rattle.resolved.specs.SlotTables.{kind_at}
use Rattle.dual_meaning.specs.Tangents.{argument_kind}
use Rattle.dual_meaning.proofs.Entering.{push_name}
use Rattle.forward_run.proofs.entry.cells_by.Goals as goal

pub loop-i-preserved : goal.loop-i-preserved
loop-i-preserved c =
    let es = c.args.table.now.0 in
    let same : c.shapes-shape-items.result.now ≡ es = c.shapes-shape-items.ensures.value ∙ c.layout-layout.ensures in
    let below : c.loop-i.i < length es = search rules in
    let here : c.shape-item.result ≡ get_or es c.loop-i.i c.shape-item.result = search rules in
    let first : c.first.result ≡ length (keys_of (take c.loop-i.i es)) = c.first.ensures.value ∙ ap (λ xs. length (keys_of (take c.loop-i.i xs))) c.layout-layout.ensures in
    let next : c.next.result ≡ length (keys_of (take (c.loop-i.i + 1) es)) = c.next.ensures.value ∙ ap (λ xs. length (keys_of (take (c.loop-i.i + 1) xs))) c.layout-layout.ensures in
    let kind : c.argument_kind-kind.result ≡ argument_kind c.args.args.now (kind_at c.args.table.now.1 c.loop-i.i) c.shape-item.result.name =
    c.argument_kind-kind.ensures ∙ ap (λ k. argument_kind c.args.args.now k c.shape-item.result.name) c.kind.ensures.value in
    push_name c.args.decls.now c.args.args.now c.args.words.now [] es c.args.table.now.1 c.loop-i.i c.shape-item.result c.argument_kind-kind.result c.loop-i.cells.items c.push_cells.new.cells.items _ c.first.result c.next.result
    below here c.requires.kinds first next kind c.in_ok-push_cells.ensures c.loop-i.invariant
