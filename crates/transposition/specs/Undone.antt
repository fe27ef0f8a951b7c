-- What the reverse part of statements does, from the tape and the values that their run left.
use Rattle.std.specs.Prelude.{◌≡◌, Ok}
use Rattle.fl_ast.specs.Tree.{Statements}
use Rattle.meaning.specs.Logs.{Log}
use Rattle.meaning.specs.Sites.{Cells}
use Rattle.meaning.specs.Statements.{run_all}
use Rattle.transposition.specs.Tapes.{Tape, tape_after}
use Rattle.transposition.specs.Worlds.{World}
use Rattle.transposition.specs.Back.{back_all}
use Rattle.transposition.specs.Law.{Use, Fit, Within, Undoes}
use Rattle.transposition.specs.Calms.{IsCalmAll}
use Rattle.transposition.specs.Sound.{SoundAll}

-- the needed values are restored, the tape is as before, the pairing of adjoints with tangents is the same, and each operation is
-- covered by what the run touched
abbrev pub StatementsAreUndone : Type 0
StatementsAreUndone =
    (xs : Statements) (w : World) (u : Use) (ts : Log) (s s2 : Cells) (t : Tape) → Fit w u s → SoundAll w u xs → IsCalmAll xs w s → Within w.active (run_all xs w.site s).log ts → (run_all xs w.site s).out ≡ Ok s2
    → Undoes w u ts (back_all xs w) t (tape_after (run_all xs w.site s).log t) s s2
