use Rattle.std.proofs.Common.{rules, ap, ◌≡◌, None, Some, ◌∙◌, sym, subst, true, false}
use Rattle.std.specs.Prelude.{is_some}
use Rattle.meaning.specs.Expressions.{content}
use Rattle.sweep_evaluation.specs.Machine.{Does, ran}
use Rattle.sweep_law.specs.Telling.{told}
use Rattle.forward_state.specs.Holding.{Holds}
use Rattle.forward_state.proofs.Noting.{absent, some_of, does_touched, does_untouched}
use Rattle.forward_state.proofs.forward.ForwardAccess.load.Goals as goal
use Rattle.forward_state.proofs.forward.ForwardAccess.load.Goals.{then-accessed, else-accessed}

pub returns-then-is_none-clause-does : goal.returns-then-is_none-clause-does
returns-then-is_none-clause-does g c =
    let e : content c.args.self.now.run.cells.items c.args.place ≡ None = search (rules) in
    record {
      before = c.stop.ensures.does.before;
      runs = λ l s h.
          let a = absent c.args.self.now.run (g.W.Watch.stands_for c.args.self.now.watch) (g.W.Watch.places c.args.self.now.watch) g.W.Watch.judge s c.args.slot c.args.place c.args.accessed h e in
          (sym a.0, rw a.1 (c.stop.ensures.does.runs l s h).1);
    }

pub returns-clause-does : goal.returns-clause-does
returns-clause-does g c =
    let q : c.cell-content.result ≡ content c.args.self.now.run.cells.items c.args.place = search (rules) in
    let f : is_some c.cell-content.result ≡ true = search (rules) in
    let v = some_of c.cell-content.result f in
    let e : content c.args.self.now.run.cells.items c.args.place ≡ Some v.0 = sym q ∙ v.1 in
    let x : c.word_of.result ≡ Rattle.meaning.specs.Sites.word_of (Some v.0) = c.word_of.ensures ∙ ap Rattle.meaning.specs.Sites.word_of v.1 in
    elim c.if-accessed.branch [
      | then-accessed w ↦ rw (w.self-is, w.if-accessed.true) record {
        before = w.touch.ensures.left.was;
        runs = does_touched c.args.self.now.run w.touch.new.self.run (g.W.Watch.stands_for c.args.self.now.watch) (g.W.Watch.stands_for w.touch.new.self.watch) (g.W.Watch.places c.args.self.now.watch) (g.W.Watch.places w.touch.new.self.watch)
            g.W.Watch.judge c.args.slot c.args.place v.0 c.word_of.result e x w.touch.ensures.left;
      }
      | else-accessed w ↦ rw (w.self-is, w.if-accessed.false) record {
        before = λ l. l;
        runs = λ l. does_untouched c.args.self.now.run (g.W.Watch.stands_for c.args.self.now.watch) (g.W.Watch.places c.args.self.now.watch) g.W.Watch.judge c.args.slot c.args.place v.0 c.word_of.result e x;
      }
    ]
