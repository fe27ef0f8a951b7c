use Rattle.commands.specs.Done.{IsDone}
use Rattle.ending.proofs.Answers.{put_outcome, put_done}
use Rattle.formad_top.proofs.top.command.Goals as goal

pub returns-clause-answer : goal.returns-clause-answer
returns-clause-answer g c = put_outcome _ c.outcome_of-outcome.ensures.stage c.finish.ensures

pub returns-clause-headline : goal.returns-clause-headline
returns-clause-headline g c =
    λ done files sink e d. put_done (g.F.Folder.state c.args.folder.now) _ (λ there text. IsDone there c.args.words.now text c.args.steps.now c.outcome_of-outcome.new.steps) c.outcome_of-outcome.ensures.done c.finish.ensures done files sink e d
