use Rattle.std.proofs.Common.{◌≡◌, ◌++◌, drop}
use Rattle.needed_names.proofs.Parts.{name_parts}
use Rattle.needed_names.proofs.names.+names.Given as goal

-- the positions so far and those of the rest are all
abbrev pub invariant-push_all_names-loop-expr : goal.invariant-push_all_names-loop-expr
invariant-push_all_names-loop-expr l = l.nodes ++ name_parts l.decls (drop l.expr-index l.exprs) ≡ l.fn.nodes ++ name_parts l.decls l.exprs
