use Rattle.std.proofs.Common.{rules, ◌≡◌}
use Rattle.meaning.specs.declared.value.Value.TheVariants.{Index}
use Rattle.sweep_trees.specs.Split.{ring_tree, index_tree}
use Rattle.split_trees.specs.Codes.{ring_code, index_code, code_tree}
use Rattle.sweep_evaluation.specs.Machine.{ran, ring_value, index_value}
use Rattle.sweep_evaluation.proofs.Doing.{does_both, does_nothing}
use Rattle.sweep_law.specs.Telling.{told}
use Rattle.forward_state.specs.Holding.{Holds}
use Rattle.forward_sweep.specs.Machine.{plain}
use Rattle.forward_sweep.proofs.stores.code_value.Goals as goal

pub returns-in-Ring-clause-does : goal.returns-in-Ring-clause-does
returns-in-Ring-clause-does g c =
    let e : code_tree c.args.code.now ≡ ring_code (ring_tree c.get.result.now) = search (rules) in
    rw (e, c.plain.ensures) (does_both (ring_value told c.args.table.now (ring_tree c.get.result.now)) (λ x. ran (plain x)) c.ring-word.ensures.does (does_nothing (λ f s. Holds f.run (g.W.Watch.stands_for f.watch) (g.W.Watch.places f.watch) g.W.Watch.judge s) (λ f. f.run.lost) c.ring-word.new.access (plain c.ring-word.result)))

pub returns-in-Index-clause-does : goal.returns-in-Index-clause-does
returns-in-Index-clause-does g c =
    let e : code_tree c.args.code.now ≡ index_code (index_tree c.get-in-Index.result.now) = search (rules) in
    rw e (does_both (index_value told c.args.table.now (index_tree c.get-in-Index.result.now)) (λ z. ran (Index z)) c.index-number.ensures.does (does_nothing (λ f s. Holds f.run (g.W.Watch.stands_for f.watch) (g.W.Watch.places f.watch) g.W.Watch.judge s) (λ f. f.run.lost) c.index-number.new.access (Index c.index-number.result)))
