use Rattle.std.proofs.Common.{◌≡◌, ◌++◌, drop}
use Rattle.fl_types.specs.Sharing.{has_name}
use Rattle.needed_names.proofs.Parts.{read_parts}
use Rattle.needed_names.proofs.reads.+reads.Given as goal

-- the positions so far and those of the rest are all
abbrev pub invariant-push_all_reads-loop-expr : goal.invariant-push_all_reads-loop-expr
invariant-push_all_reads-loop-expr l =
    l.nodes ++ read_parts l.decls (λ x. has_name x l.active.names) l.at (drop l.expr-index l.exprs) ≡ l.fn.nodes ++ read_parts l.decls (λ x. has_name x l.active.names) l.at l.exprs
