use Rattle.std.proofs.Common.{List, ℕ, ap, sym, ◌∙◌, length}
use Rattle.fl_types.specs.Sharing.{has_name}
use Rattle.store_core.specs.Keys.{keys_of}
use Rattle.store_core.specs.Filled.{place_words}
use Rattle.meaning.specs.Sites.{opening_site}
use Rattle.resolved.specs.SlotTables.{Names}
use Rattle.sweep_steps.specs.Steps.{step_trees}
use Rattle.forward_run.proofs.Entering.{well_kinded, kinds_declared, opened_is, many_cells}
use Rattle.forward_run.proofs.opening.open_program.Goals as goal

pub body_of-requires-clause-kinded : goal.body_of-requires-clause-kinded
body_of-requires-clause-kinded c =
    kinds_declared c.args.typed.now c.program-program.result.now c.as_slice-decls.result.now c.as_slice-3.result.now c.program-program.ensures.typed c.program-program.ensures.program c.as_slice-decls.ensures c.as_slice-3.ensures

pub body_of-requires-clause-well : goal.body_of-requires-clause-well
body_of-requires-clause-well c =
    well_kinded c.args.typed.now c.program-program.result.now c.as_slice-decls.result.now c.as_slice-3.result.now c.args.layout.now c.args.args.now.entries c.program-program.ensures.typed c.program-program.ensures.program
    c.as_slice-decls.ensures c.as_slice-3.ensures c.requires.laid

pub returns-clause-opened : goal.returns-clause-opened
returns-clause-opened c =
    let pushed = λ (x : List ℕ). has_name x c.args.pushed.now in
    opened_is c.args.typed.now c.program-program.result.now c.as_slice-decls.result.now c.as_slice-3.result.now c.as_slice-2.result.now c.args.layout.now c.args.args.now.entries pushed c.deref.result.now
    (place_words c.args.layout.now c.args.args.now.entries) c.in_ok-table.table (step_trees c.in_ok-body.body) c.in_ok-cells.cells.items c.program-program.ensures.typed c.program-program.ensures.program c.as_slice-decls.ensures
    c.as_slice-3.ensures c.as_slice-2.ensures c.requires.laid (c.deref.ensures.value ∙ (c.in_ok-words.ensures ∙ ap (place_words c.args.layout.now) c.as_slice.ensures)) c.in_ok-table.ensures c.in_ok-body.ensures
    c.in_ok-cells.ensures.cells (c.in_ok-cells.ensures.fit pushed)

pub returns-clause-places : goal.returns-clause-places
returns-clause-places c =
    many_cells (opening_site c.as_slice-decls.result.now c.args.layout.now (λ (x : List ℕ). has_name x c.args.pushed.now)) c.in_ok-cells.cells.items (c.in_ok-cells.ensures.fit (λ (x : List ℕ). has_name x c.args.pushed.now))
    ∙ ap (λ (n : Names). length (keys_of n.0)) (sym c.in_ok-table.ensures)
