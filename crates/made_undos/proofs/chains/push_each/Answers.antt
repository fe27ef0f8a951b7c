use Rattle.std.proofs.Common.{◌++◌, map}
use Rattle.std.specs.Prelude.{take}
use Rattle.transposition.specs.Back.{rest_occurrences}
use Rattle.undo_steps.specs.UndoSteps.{growth_tree}
use Rattle.made_steps.specs.Scopes.{signed_of}
use Rattle.made_undos.proofs.Terms.{grown_more, ready_rest}
use Rattle.made_undos.proofs.chains.push_each.Goals as goal

pub loop-term-preserved : goal.loop-term-preserved
loop-term-preserved c =
    let s = c.args.table.now in
    let xs = c.args.terms.now in
    let i = c.loop-term.term-index in
    record {
      grown = λ w os g h. grown_more s w os (map growth_tree c.push_growths.new.growths) xs i c.term-item.result c.loop-term-test.true c.term-item.is
          (c.in_ok-push_growths.ensures w (os ++ rest_occurrences w.active (map (signed_of s.0) (take i xs))) g (c.loop-term.invariant.grown w os g h));
      ready = ready_rest s xs i c.term-item.result c.loop-term-test.true c.term-item.is c.loop-term.invariant.ready;
    }
