use Rattle.std.proofs.Common.{◌≡◌, ◌++◌, List, ap, sym, ◌∙◌, map, take, drop, length, ◌-◌, ◌%◌, ◌^◌}
use Rattle.fl_ast.specs.Tree.{program_tree}
use Rattle.fl_types.specs.Sharing.{has_name}
use Rattle.store_core.specs.Keys.{keys_of}
use Rattle.store_core.specs.Filled.{place_words}
use Rattle.meaning.specs.Sites.{word_of}
use Rattle.undo_steps.specs.UndoSteps.{undo_trees}
use Rattle.forward_law.specs.Forward.{tape_back}
use Rattle.reverse_run.specs.Undoing.{swept_back, swept_adds}
use Rattle.one_thread.proofs.Backward.{no_fewer, undone_flat, doubled, undone_to}
use Rattle.one_thread.proofs.back.run_back.Goals as goal

pub undone-requires-clause-doubled : goal.undone-requires-clause-doubled
undone-requires-clause-doubled g c =
    ap length c.in_ok-cells.ensures
    ∙ doubled c.args.layout.now c.args.weights.now.entries c.args.forwarded.cells.items _ _ c.count-count.result c.count-count.ensures.value c.requires.many
    (c.deref-2.ensures.value ∙ (c.in_ok-values.ensures.first ∙ ap (λ xs. map word_of (take (length (keys_of c.args.layout.now)) xs)) c.deref.ensures.value))
    (c.deref-3.ensures.value ∙ (c.in_ok-seeds.ensures ∙ ap (place_words c.args.layout.now) c.as_slice.ensures))

pub undone-requires-clause-fewer : goal.undone-requires-clause-fewer
undone-requires-clause-fewer g c =
    no_fewer (program_tree c.args.typed.now) c.args.layout.now _ _ _ _ (undo_trees c.in_ok-undoing.undoing.body) c.count-count.result c.in_ok-undoing.ensures c.count-count.ensures.value

pub undone-requires-clause-flat : goal.undone-requires-clause-flat
undone-requires-clause-flat g c =
    undone_flat (program_tree c.args.typed.now) c.args.layout.now _ _ _ _ (undo_trees c.in_ok-undoing.undoing.body) c.count-count.result c.in_ok-undoing.ensures
    c.program-program.ensures.typed.readable.body c.count-count.ensures.value

pub returns-clause-undone : goal.returns-clause-undone
returns-clause-undone g c =
    let names = c.in_ok-undoing.undoing.table in
    let us = undo_trees c.in_ok-undoing.undoing.body in
    let n = c.count-count.result in
    let own = length (keys_of names.0) - n in
    let tape = tape_back c.args.forwarded.tape in
    let cells : c.in_ok-cells.cells ≡ c.in_ok-values.values.items ++ place_words c.args.layout.now c.args.weights.now.entries = c.in_ok-cells.ensures
    ∙ (ap (λ (xs : List _). xs ++ c.deref-3.result.now) c.deref-2.ensures.value
    ∙ ap (λ (xs : List _). c.in_ok-values.values.items ++ xs) (c.deref-3.ensures.value ∙ (c.in_ok-seeds.ensures ∙ ap (place_words c.args.layout.now) c.as_slice.ensures))) in
    undone_to (program_tree c.args.typed.now) c.args.layout.now (λ x. has_name x c.args.needed.now.names) (λ x. has_name x c.args.active.now.names) c.args.choices.now.entries names us n tape _
    c.in_ok-cells-2.field-0.cells c.in_ok-adjoints.adjoints.items c.in_ok-cells-2.field-0.adds c.in_ok-undoing.ensures c.count-count.ensures.value
    (c.in_ok-cells-2.ensures.cells ∙ ap (swept_back names n us tape own) cells)
    (c.in_ok-adjoints.ensures ∙ ap (drop n) (c.words-2.ensures ∙ c.into_store.ensures))
    (c.in_ok-cells-2.ensures.adds ∙ ap (λ xs. swept_adds names n us tape own xs % 2 ^ 64) cells)
