-- What the machine of reverse sweeps counts: the atomic additions of the trees that undo a program.
use Rattle.std.specs.Prelude.{◌≡◌, ℕ, ◌+◌, Bool, true, false, List, []}
use Rattle.fl_ast.specs.Tree.{Statements, Subroutine}
use Rattle.fl_types.specs.declared.choice.Choice.{Choice}
use Rattle.store_core.specs.declared.layout.Shape.{Shape}
use Rattle.operations.specs.declared.op.Op.{Op}
use Rattle.operations.specs.Tree.{play}
use Rattle.resolved.specs.SlotTables.{Names, names_of}
use Rattle.transposition.specs.Worlds.{World, Local}
use Rattle.transposition.specs.Back.{back_all}
use Rattle.transposition.specs.Programs.{program_world}
use Rattle.undo_steps.specs.UndoSteps.{UndoTrees}
use Rattle.undo_steps.specs.UndosStand.{AllUndoStand}
use Rattle.reverse_sweep.specs.Reversing.{Stage, reversing}
use Rattle.reverse_sweep.specs.Machine.{undos_run}
use Rattle.reverse_law.specs.Reverse.{IsNamed, at_first}
use Rattle.reverse_law.specs.Adds.{is_atomic, is_atomic_cell, adds_on, adds_of_all, are_flat, AreOneDeep}

-- these cells after these operations, no sums, and so many atomic additions so far
abbrev pub at_later : List ℕ → List Op → ℕ → Stage
at_later c os n = record { cells = c; sums = []; ops = os; adds = n }

-- outside of parallel loops no adjoint is incremented atomically
abbrev pub IsOutside : World → Type 0
IsOutside w = (x : List ℕ) → is_atomic (w.choice x) ≡ false

-- outside of parallel loops the machine counts what the trees add atomically
abbrev pub AddsAreCounted : Type 0
AddsAreCounted =
    (names : Names) (w : World) (us : UndoTrees) (xs : Statements) (l : Local) (c : List ℕ) → IsNamed names w.site → IsOutside w → AllUndoStand names w us xs → AreOneDeep xs
    → (undos_run names w.shared us (reversing l (at_first c))).stage.adds ≡ adds_of_all xs w l c

-- so of a whole program
abbrev pub ProgramAddsAreCounted : Type 0
ProgramAddsAreCounted =
    (p : Subroutine) (shapes : List Shape) (pushed active : List ℕ → Bool) (choices : ℕ → List ℕ → Choice) (us : UndoTrees) (l : Local) (c : List ℕ)
    → let names = names_of shapes p.decls in
    let w = program_world p shapes pushed active choices in
    AllUndoStand names w us p.body → AreOneDeep p.body → (undos_run names w.shared us (reversing l (at_first c))).stage.adds ≡ adds_of_all p.body w l c

-- without parallel loops, as in an iteration, it counts the additions in one step to cells that are incremented atomically there
abbrev pub SerialAddsAreCounted : Type 0
SerialAddsAreCounted =
    (names : Names) (w : World) (us : UndoTrees) (xs : Statements) (l : Local) (c : List ℕ) (os : List Op) (n : ℕ) → IsNamed names w.site → AllUndoStand names w us xs → are_flat true xs ≡ true
    → (undos_run names w.shared us (reversing l (at_later c os n))).stage.adds ≡ n + adds_on (is_atomic_cell w) (play (back_all xs w l) c).ops
