use Rattle.std.proofs.Common.{rules, ◌≡◌, false, ◌∙◌, sym}
use Rattle.forward_state.specs.Steps.{with_tape}
use Rattle.forward_state.proofs.Noting.{next_held, ok_holds}
use Rattle.forward_state.proofs.forward.Forward.next_tape.Goals as goal

pub returns-else-is_err-clause-left : goal.returns-else-is_err-clause-left
returns-else-is_err-clause-left g c = record {
  was = λ l. l;
  leaves = λ l s h. next_held c.args.self.now.run (g.W.Watch.stands_for c.args.self.now.watch) (g.W.Watch.places c.args.self.now.watch) g.W.Watch.judge s c.args.iteration c.begin_tape.new.running h
      (ok_holds c.begin_tape.result _ (sym c.is_err.ensures.value ∙ c.if-is_err.false) (c.begin_tape.ensures c.args.self.now.run.tape));
}
