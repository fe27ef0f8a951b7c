use Rattle.std.proofs.Common.{rules, ◌≡◌, None, ◌∙◌, sym}
use Rattle.forward_state.proofs.Noting.{touched_holds, untouched_outside, untouched_past}
use Rattle.forward_state.proofs.forward.Forward.touch.Goals as goal

pub returns-else-is_err-clause-left : goal.returns-else-is_err-clause-left
returns-else-is_err-clause-left g c = record {
  was = λ l. l;
  leaves = λ l s h. touched_holds c.args.self.now.run (g.W.Watch.stands_for c.args.self.now.watch) (g.W.Watch.stands_for c.touch.new.self) (g.W.Watch.places c.args.self.now.watch) (g.W.Watch.places c.touch.new.self)
      g.W.Watch.judge s c.args.place c.args.kind h (search (rules)) c.if-self-ge-TOUCHES.false (search (rules)) (search (rules)) c.touch.ensures.places (search (rules));
}
