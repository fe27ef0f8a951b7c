use Rattle.std.proofs.Common.{◌≡◌, ◌++◌, drop, map}
use Rattle.std.specs.Prelude.{true}
use Rattle.std.specs.List.{list_all}
use Rattle.sweep_trees.specs.Standing.{is_ring_fit}
use Rattle.sweep_steps.specs.Steps.{TermTree}
use Rattle.sweep_steps.specs.StepsStand.{signed_back}
use Rattle.made_steps.specs.Scopes.{signed_of, is_signed_ready, term_trees}
use Rattle.made_steps.proofs.terms.split_each.Given as goal

abbrev pub invariant-loop-term : goal.invariant-loop-term
invariant-loop-term l = record {
  back : map (signed_of l.table.0) l.terms ≡ map (signed_back l.table.0) (term_trees l.split) ++ map (signed_of l.table.0) (drop l.term-index l.terms);
  fit : list_all (λ (t : TermTree). is_ring_fit l.table l.accessed t.1) (term_trees l.split) ≡ true;
  ready : list_all (is_signed_ready l.table) (drop l.term-index l.terms) ≡ true;
}
