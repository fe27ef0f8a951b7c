-- What a parallel loop's reverse iterations are among each other.
use Rattle.std.specs.Prelude.{◌≡◌, ℕ, Option, Some, List, length, Ok, if◌then◌else◌}
use Rattle.fl_ast.specs.declared.directive.Directive.{Directive}
use Rattle.fl_ast.specs.Tree.{Expression, Statements, loop}
use Rattle.fl_types.specs.Nests.{is_nest}
use Rattle.operations.specs.Order.{IsDisciplined, ops_alone}
use Rattle.meaning.specs.Sites.{Cells}
use Rattle.meaning.specs.Statements.{iterations, run}
use Rattle.transposition.specs.Tapes.{Tape, tape_after}
use Rattle.transposition.specs.Worlds.{World}
use Rattle.transposition.specs.Back.{loop_heads, loop_iterations, back_all, back_inner}
use Rattle.transposition.specs.Law.{Use, flat, local, Like, Fit, AreWords}
use Rattle.transposition.specs.Calms.{IsCalm}
use Rattle.transposition.specs.Sound.{Sound}

-- from the tape and the final values of a calm run, the reverse iterations of a parallel loop are apart from each other
abbrev pub IterationsAreDisciplined : Type 0
IterationsAreDisciplined =
    (w : World) (u : Use) (line number : ℕ) (directive : Directive) (var : List ℕ) (first last : Expression) (step : Option Expression) (body : Statements) (s s2 : Cells) (t : Tape) (vs bs : List ℕ) → Fit w u s → Sound w u (loop line number (Some directive) var first last step body)
    → IsCalm (loop line number (Some directive) var first last step body) w s → (run (loop line number (Some directive) var first last step body) w.site s).out ≡ Ok s2
    → Like u w.site.keys vs s2 → length vs ≡ length w.site.keys → length bs ≡ length w.site.keys → AreWords bs
    → let l = local w.shared (tape_after (run (loop line number (Some directive) var first last step body) w.site s).log t) vs bs in
    IsDisciplined (ops_alone (loop_iterations w number directive var body (if is_nest directive body then back_inner body else back_all body) l) (flat w.shared vs bs)) (iterations (loop_heads directive var body l))
