use Rattle.std.proofs.Common.{rules}
use Rattle.resolved.specs.declared.resolved.ResolvedCond.{the_lemmas as cond_lemmas}
use Rattle.split_trees.proofs.Parts.{and_within, or_within, and_kinded, or_kinded}
use Rattle.split_trees.proofs.split.+split_condition.Goals as goal

pub split_condition-requires-in-And-2 : goal.split_condition-requires-in-And-2
split_condition-requires-in-And-2 t c = (
  search (rules, cond_lemmas),
  (
    rw c.get-in-And-2.ensures ((and_within _ c.args.cond.now _ _ c.in-And.is c.requires.within).1),
    rw c.get-in-And-2.ensures ((and_kinded _ c.args.table.now.0 c.args.cond.now _ _ c.in-And.is c.requires.kinded).1),
  ),
)

pub split_condition-requires-in-Or-2 : goal.split_condition-requires-in-Or-2
split_condition-requires-in-Or-2 t c = (
  search (rules, cond_lemmas),
  (
    rw c.get-in-Or-2.ensures ((or_within _ c.args.cond.now _ _ c.in-Or.is c.requires.within).1),
    rw c.get-in-Or-2.ensures ((or_kinded _ c.args.table.now.0 c.args.cond.now _ _ c.in-Or.is c.requires.kinded).1),
  ),
)
