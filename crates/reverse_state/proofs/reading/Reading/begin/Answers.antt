use Rattle.std.proofs.Common.{rules}
use Rattle.reverse_state.specs.Reading.{now_of}
use Rattle.reverse_state.proofs.Taken.{none_begun, some_begun}
use Rattle.reverse_state.proofs.reading.Reading.begin.Goals as goal
use Rattle.reverse_state.proofs.reading.Reading.begin.Goals.{in-None, in-Some}

pub returns-clause-now : goal.returns-clause-now
returns-clause-now c = elim c.match-self.branch [
  | in-None w ↦ none_begun c.args.self.now c.self.inside.tape c.self.inside.inside (now_of (Rattle.reverse_state.specs.contracts.reading.Reading.the_view c.match-self.self-inside)) c.args.iteration c.self.view_is (search (rules))
  | in-Some w ↦ rw w.self-inside-is (some_begun c.args.self.now c.self.inside.tape c.self.inside.inside w.in-Some.inside w.begin_words.new.inside c.args.iteration c.self.view_is (search (rules)) w.begin_words.ensures)
]
