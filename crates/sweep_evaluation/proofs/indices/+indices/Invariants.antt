use Rattle.std.specs.Prelude.{take, ◌≡◌}
use Rattle.sweep_trees.specs.Split.{index_trees}
use Rattle.sweep_evaluation.specs.Machine.{Does, index_values}
use Rattle.sweep_evaluation.proofs.indices.+indices.Given as goal

abbrev pub invariant-elements_place-loop-subscript : goal.invariant-elements_place-loop-subscript
invariant-elements_place-loop-subscript g l = record {
  so_far : Does g.A.Access.stands g.A.Access.lost l.initial.access l.access l.numbers.items
      (index_values g.A.Access.told l.table (index_trees (take l.subscript-index l.subscripts)));
  steady : g.A.Access.steady l.access ≡ g.A.Access.steady l.initial.access;
}
