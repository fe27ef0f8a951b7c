use Rattle.std.proofs.Common.{◌≡◌, ◌++◌, drop}
use Rattle.needed_names.specs.Terms.{kinds_in}
use Rattle.needed_names.proofs.Parts.{link_parts, arm_link_parts}
use Rattle.needed_names.proofs.walk.+links.Given as goal

-- those so far and those of the rest are all
abbrev pub invariant-push_links_in-loop-stmt : goal.invariant-push_links_in-loop-stmt
invariant-push_links_in-loop-stmt l =
    l.links ++ link_parts l.decls (kinds_in l.decls l.active.names) (drop l.stmt-index l.stmts) ≡ l.fn.links ++ link_parts l.decls (kinds_in l.decls l.active.names) l.stmts

abbrev pub invariant-push_links_in_arms-loop-arm : goal.invariant-push_links_in_arms-loop-arm
invariant-push_links_in_arms-loop-arm l =
    l.links ++ arm_link_parts l.decls (kinds_in l.decls l.active.names) (drop l.arm-index l.arms) ≡ l.fn.links ++ arm_link_parts l.decls (kinds_in l.decls l.active.names) l.arms
