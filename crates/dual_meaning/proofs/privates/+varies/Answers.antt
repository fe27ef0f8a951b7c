use Rattle.std.proofs.Common.{rules}
use Rattle.resolved.specs.declared.resolved.ResolvedStmt.{the_lemmas as statement_lemmas}
use Rattle.resolved.proofs.Slots.{do_fit}
use Rattle.dual_meaning.proofs.privates.+varies.Goals as goal

pub varies-varies_in-requires-in-Do : goal.varies-varies_in-requires-in-Do
varies-varies_in-requires-in-Do t c = (
  search (rules, statement_lemmas),
  rw c.as_slice-in-Do.ensures ((do_fit c.args.table.now c.args.stmt.now _ _ _ c.in-Do.head c.in-Do.body c.in-Do.is c.requires).4),
)
