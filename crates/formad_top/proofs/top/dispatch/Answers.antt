use Rattle.std.proofs.Common.{refl}
use Rattle.ending.specs.Ends.{wanting}
use Rattle.ending.proofs.Answers.{put_due, put_other}
use Rattle.formad_top.proofs.TopLaws.{of_words, no_words, of_done}
use Rattle.formad_top.proofs.top.dispatch.Goals as goal

pub returns-in-Ok-clause-answer : goal.returns-in-Ok-clause-answer
returns-in-Ok-clause-answer g c = of_words _ _ c.in-Ok.ensures c.command.ensures.answer

pub returns-in-Ok-clause-headline : goal.returns-in-Ok-clause-headline
returns-in-Ok-clause-headline g c = λ done files sink e d. of_done files sink _ _ _ _ _ c.in-Ok.ensures (c.command.ensures.headline done files sink e d)

pub returns-in-Err-Bad-clause-answer : goal.returns-in-Err-Bad-clause-answer
returns-in-Err-Bad-clause-answer g c =
    put_due (λ files e. no_words c.args.words.now files (c.in-Err-Bad.ensures (λ m. cc))) (λ h. cc) (λ h. cc) refl c.put_as.ensures

pub returns-in-Err-Bad-clause-headline : goal.returns-in-Err-Bad-clause-headline
returns-in-Err-Bad-clause-headline g c = λ done. absurd (put_other c.put_as.ensures (λ h. cc) done)

pub returns-in-Err-Memory-clause-answer : goal.returns-in-Err-Memory-clause-answer
returns-in-Err-Memory-clause-answer g c = put_due (λ files e. wanting) (λ h. cc) (λ h. cc) refl c.put_as-in-Err-Memory.ensures

pub returns-in-Err-Memory-clause-headline : goal.returns-in-Err-Memory-clause-headline
returns-in-Err-Memory-clause-headline g c = λ done. absurd (put_other c.put_as-in-Err-Memory.ensures (λ h. cc) done)
