-- The loops after a parallel loop's own whose iterations its iterations are.
use Rattle.std.specs.Prelude.{List, [], ◌∷◌, Option, Some, None}
use Rattle.adjoint_rules.specs.Bounds as rules
use Rattle.loop_bounds.specs.declared.head.LoopHead.{LoopHead}
use Rattle.loop_bounds.specs.Heads.{head_of}

abbrev pub heads_of : Option LoopHead → List rules.LoopHead
heads_of None = []
heads_of (Some h) = head_of h ∷ []
