-- What the files say of an adjoint that is written.
use Rattle.std.proofs.Common.{◌≡◌, ℕ, List, Option, Some, Result, Ok, Err, IfOk, Vec, Global, refl, subst, sym}
use Rattle.outside.specs.States.{Files, FolderState}
use Rattle.ending.specs.declared.early.Early.{Early}
use Rattle.ending.specs.Stage.{IsStage}
use Rattle.ending.specs.declared.status.Status.TheVariants.{Done}
use Rattle.ending.specs.Plan.{Answers, LeadsTo, answered}
use Rattle.ending.proofs.Done.{answer_done}
use Rattle.formad_words.specs.declared.words.Subject.{Subject}
use Rattle.program_stage.proofs.ProgramDone.{subject_done}
use Rattle.adjoint_stage.specs.Adjoints.{adjoint_stage}
use Rattle.formad_words.specs.declared.words.Words.{Words}
use Rattle.formad_words.specs.declared.words.Words.TheVariants.{Adjoint}
use Rattle.commands.specs.Done.{HasAdjoint, IsDone}

adjoint_done : {files : Files} (subject : Subject) (text : List ℕ) → LeadsTo files (adjoint_stage subject.program subject.of subject.wrt Answers) Done text → HasAdjoint files subject text
unfolding adjoint_stage
adjoint_done subject text c =
    let found = subject_done subject.program subject.of subject.wrt _ c refl in
    record {
      source = found.1.source;
      program = found.0;
      program_file = found.1.found;
      accepted = found.1.accepted;
      dependent = found.1.dependent;
      independent = found.1.independent;
      wrote = answer_done found.2;
    }

pub adjoint_told : {before after : FolderState} (subject : Subject) (result : Result (Vec ℕ Global) Early) →
    IsStage (λ text. text.items) before after (adjoint_stage subject.program subject.of subject.wrt) result →
    IfOk result (λ text. (files : Files) → before.contents ≡ Some files → HasAdjoint files subject text.items)
adjoint_told subject (Ok text) p = λ files e. adjoint_done subject text.items (p.told files e Answers Done text.items answered)
adjoint_told subject (Err early) p = tt

-- it makes no step
pub still : (contents : Option Files) (words : Words) (subject : Subject) (steps : ℕ) (result : Result (Vec ℕ Global) Early) → words ≡ Adjoint subject →
    IfOk result (λ text. (files : Files) → contents ≡ Some files → HasAdjoint files subject text.items) →
    IfOk result (λ text. (files : Files) → contents ≡ Some files → IsDone files words text.items steps steps)
still contents words subject steps (Ok text) e h = λ files f. subst (λ w. IsDone files w text.items steps steps) (sym e) (h files f, refl)
still contents words subject steps (Err early) e h = tt
