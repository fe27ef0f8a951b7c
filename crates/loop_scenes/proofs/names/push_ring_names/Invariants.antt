use Rattle.std.proofs.Common.{◌≡◌, ◌++◌, drop}
use Rattle.loop_scenes.specs.Scened.{ring_names}
use Rattle.loop_scenes.proofs.names.push_ring_names.Given as goal

abbrev pub invariant-loop-decl : goal.invariant-loop-decl
invariant-loop-decl l = l.names ++ ring_names (drop l.decl-index l.decls) ≡ l.fn.names ++ ring_names l.decls
