-- The adjoint of a program for its active names and the choices in its parallel loops.
use Rattle.std.specs.Prelude.{◌≡◌, ℕ, Bool, List}
use Rattle.fl_ast.specs.declared.stmt.Program.{Program}
use Rattle.fl_ast.specs.AdjointTree.{AdjointSubroutine}
use Rattle.fl_types.specs.declared.choice.Chosen.{Chosen}
use Rattle.adjoint_rules.specs.Needed.{AreNeeded}
use Rattle.adjoint_rules.specs.Adjoint.{adjoint_of}

-- by the rules, for the least set of needed names
pub record IsAdjointOf (p : Program) (active : List ℕ → Bool) (choices : List Chosen) (t : AdjointSubroutine) : Type 0 where
  pub needed : List ℕ → Bool
  pub least : AreNeeded p active needed
  pub tree : t ≡ adjoint_of p active needed choices
