-- What the machine leaves is what its trees of operations play, and these leave the adjoint.
use Rattle.std.proofs.Common.{◌≡◌, ℕ, ◌+◌, List, ap, ◌∙◌}
use Rattle.std.specs.Prelude.{slice_index}
use Rattle.fl_ast.specs.declared.stmt.Program.{Program}
use Rattle.fl_ast.specs.Tree.{stmt_trees, program_tree}
use Rattle.fl_types.specs.declared.choice.Choice.{Choice}
use Rattle.store_core.specs.declared.values.Entry.{Entry}
use Rattle.store_core.specs.Places.{shapes_of}
use Rattle.meaning.specs.Statements.{run_all}
use Rattle.meaning.specs.Programs.{entry_cells}
use Rattle.transposition.specs.Tapes.{empty, tape_after}
use Rattle.transposition.specs.Answer.{reverse_run}
use Rattle.transposition.specs.Law.{flat, local}
use Rattle.adjoint_sets.specs.Names.{is_active, is_needed}
use Rattle.undo_steps.specs.UndoSteps.{UndoTrees}
use Rattle.undo_steps.specs.UndosStand.{AllUndoStand}
use Rattle.reverse_sweep.specs.Reversing.{Reversing}
use Rattle.reverse_law.proofs.Reversed.{reverse_played, program_named}
use Rattle.sound_programs.specs.Accepted.{world_of_program, made_choices}
use Rattle.sound_programs.proofs.Transposing.{accepted_transposed, made_transposed}
use Rattle.run_law.specs.Machine.{names_in, machine_cells, MachineIsAccepted, MadeMachineIsTransposed}

-- the machine leaves in each cell what is played
cell_played : (p : Program) (of wrt : List (List ℕ)) (values : List Entry) (choices : ℕ → List ℕ → Choice) (words vs seed : List ℕ)
    (us : UndoTrees) (q : ℕ)
    → let w = world_of_program p of wrt values choices in
    AllUndoStand (names_in p values) w us (stmt_trees p.body)
    → slice_index (machine_cells p values w words vs seed us) q
    ≡ slice_index (reverse_run w (stmt_trees p.body) (entry_cells (program_tree p) (shapes_of p values) words) vs seed).cells q
cell_played p of wrt values choices words vs seed us q h =
    let w = world_of_program p of wrt values choices in
    let s = entry_cells (program_tree p) (shapes_of p values) words in
    let l = local w.shared (tape_after (run_all (stmt_trees p.body) w.site s).log empty) vs seed in
    ap (λ (r : Reversing). slice_index r.stage.cells q)
    (reverse_played (names_in p values) w us (stmt_trees p.body) l (flat w.shared vs seed)
    (program_named (program_tree p) (shapes_of p values) (is_needed p (is_active p of wrt)) (is_active p of wrt) choices) h)

pub machine_accepted : MachineIsAccepted
machine_accepted p of wrt values choices limits words vs seed s2 j d us a fitting h apart small run stop like wide long
    bounded dead there content asked active =
    cell_played p of wrt values choices words vs seed us ((world_of_program p of wrt values choices).shared + j) h
    ∙ accepted_transposed p of wrt values choices limits words vs seed s2 j d a fitting apart small run stop like wide long bounded dead
    there content asked active

pub made_machine : MadeMachineIsTransposed
made_machine p of wrt values limits words vs seed s2 j d us a h small run stop like wide long
    bounded dead there content asked active =
    cell_played p of wrt values (made_choices p of wrt) words vs seed us ((world_of_program p of wrt values (made_choices p of wrt)).shared + j) h
    ∙ made_transposed p of wrt values limits words vs seed s2 j d a small run stop like wide long bounded dead
    there content asked active
