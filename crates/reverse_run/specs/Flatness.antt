-- What statements that undo others meet.
use Rattle.std.specs.Prelude.{◌≡◌, Bool, true}
use Rattle.fl_ast.specs.Tree.{Statements}
use Rattle.resolved.specs.SlotTables.{Names}
use Rattle.transposition.specs.Worlds.{World}
use Rattle.forward_law.specs.Forward.{are_flat}
use Rattle.undo_steps.specs.UndoSteps.{UndoTrees}
use Rattle.undo_steps.specs.UndosStand.{AllUndoStand}
use Rattle.reverse_run.specs.Undoing.{are_flat as are_undos_flat}

-- where no parallel loop is in another, nor in what undoes them
abbrev pub StandingIsFlat : Type 0
StandingIsFlat = (names : Names) (w : World) (inside : Bool) (us : UndoTrees) (body : Statements) → AllUndoStand names w us body → are_flat inside body ≡ true → are_undos_flat w.shared inside us ≡ true
