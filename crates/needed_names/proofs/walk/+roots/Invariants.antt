use Rattle.std.proofs.Common.{◌≡◌, ◌++◌, drop}
use Rattle.needed_names.specs.Terms.{kinds_in}
use Rattle.needed_names.proofs.Parts.{root_parts, arm_root_parts}
use Rattle.needed_names.proofs.walk.+roots.Given as goal

-- those so far and those of the rest are all
abbrev pub invariant-push_roots_in-loop-stmt : goal.invariant-push_roots_in-loop-stmt
invariant-push_roots_in-loop-stmt l =
    l.nodes ++ root_parts l.decls (kinds_in l.decls l.active.names) (drop l.stmt-index l.stmts) ≡ l.fn.nodes ++ root_parts l.decls (kinds_in l.decls l.active.names) l.stmts

abbrev pub invariant-push_roots_in_arms-loop-arm : goal.invariant-push_roots_in_arms-loop-arm
invariant-push_roots_in_arms-loop-arm l =
    l.nodes ++ arm_root_parts l.decls (kinds_in l.decls l.active.names) (drop l.arm-index l.arms) ≡ l.fn.nodes ++ arm_root_parts l.decls (kinds_in l.decls l.active.names) l.arms
