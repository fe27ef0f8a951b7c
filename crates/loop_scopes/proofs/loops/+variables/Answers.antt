use Rattle.std.proofs.Common.{rules, ◌||◌, bytes_eq, ap, ◌∙◌}
use Rattle.fl_types.specs.Sharing.{has_name, varies_in}
use Rattle.resolved.specs.declared.resolved.ResolvedStmt.{the_lemmas as statement_lemmas}
use Rattle.resolved.specs.ResolvedExprs.{slot_name}
use Rattle.resolved.specs.ResolvedStmts.{statements_back}
use Rattle.resolved.proofs.Slots.{do_fit, do_back}
use Rattle.loop_scopes.proofs.Sets.{marked_twice}
use Rattle.loop_scopes.proofs.loops.+variables.Goals as goal

pub mark_variables_in-mark_variables-requires-in-Do : goal.mark_variables_in-mark_variables-requires-in-Do
mark_variables_in-mark_variables-requires-in-Do t c = (
  search (rules, statement_lemmas),
  rw c.as_slice-in-Do.ensures ((do_fit c.args.table.now c.args.stmt.now _ _ _ c.in-Do.head c.in-Do.body c.in-Do.is c.requires).4),
)

pub mark_variables_in-returns-in_ok-insert-in-Do : goal.mark_variables_in-returns-in_ok-insert-in-Do
mark_variables_in-returns-in_ok-insert-in-Do t c x =
    let s = c.args.table.now.0 in
    rw (do_back s c.args.stmt.now _ _ _ c.in-Do.head c.in-Do.body c.in-Do.is)
    (marked_twice (bytes_eq x (slot_name s c.in-Do.head.variable)) (varies_in x (statements_back s c.in-Do.body)) (has_name x c.args.keys.now) (has_name x c.insert.new.self) (has_name x c.mark_variables-in-Do.new.keys)
    (c.in_ok-insert-in-Do.ensures x ∙ ap (λ y. bytes_eq x y || has_name x c.mark_variables-in-Do.new.keys) c.name_of-var.ensures)
    (c.in_ok-mark_variables-in-Do.ensures x ∙ ap (λ ss. varies_in x (statements_back s ss) || has_name x c.args.keys.now) c.as_slice-in-Do.ensures))
