-- What the files say of a certificate that is written.
use Rattle.std.proofs.Common.{◌≡◌, ℕ, List, Option, Some, Result, Ok, Err, IfOk, Vec, Global, refl, subst, sym}
use Rattle.outside.specs.States.{Files, FolderState}
use Rattle.ending.specs.declared.early.Early.{Early}
use Rattle.ending.specs.Stage.{IsStage}
use Rattle.ending.specs.declared.status.Status.TheVariants.{Done}
use Rattle.ending.specs.Plan.{Answers, LeadsTo, answered}
use Rattle.ending.proofs.Done.{answer_done}
use Rattle.formad_words.specs.declared.words.Subject.{Subject}
use Rattle.program_stage.proofs.ProgramDone.{subject_done}
use Rattle.certificate_stages.specs.Certificates.{certificate_stage}
use Rattle.formad_words.specs.declared.words.Words.{Words}
use Rattle.formad_words.specs.declared.words.Words.TheVariants.{Prove}
use Rattle.commands.specs.Done.{HasCertificate, IsDone}

certificate_done : {files : Files} (subject : Subject) (text : List ℕ) → LeadsTo files (certificate_stage subject.program subject.of subject.wrt Answers) Done text → HasCertificate files subject text
unfolding certificate_stage
certificate_done subject text c =
    let found = subject_done subject.program subject.of subject.wrt _ c refl in
    record {
      source = found.1.source;
      program = found.0;
      program_file = found.1.found;
      accepted = found.1.accepted;
      dependent = found.1.dependent;
      independent = found.1.independent;
      wrote = answer_done found.2;
    }

pub certificate_told : {before after : FolderState} (subject : Subject) (result : Result (Vec ℕ Global) Early) →
    IsStage (λ text. text.items) before after (certificate_stage subject.program subject.of subject.wrt) result →
    IfOk result (λ text. (files : Files) → before.contents ≡ Some files → HasCertificate files subject text.items)
certificate_told subject (Ok text) p = λ files e. certificate_done subject text.items (p.told files e Answers Done text.items answered)
certificate_told subject (Err early) p = tt

-- it makes no step
pub still_proved : (contents : Option Files) (words : Words) (subject : Subject) (steps : ℕ) (result : Result (Vec ℕ Global) Early) → words ≡ Prove subject →
    IfOk result (λ text. (files : Files) → contents ≡ Some files → HasCertificate files subject text.items) →
    IfOk result (λ text. (files : Files) → contents ≡ Some files → IsDone files words text.items steps steps)
still_proved contents words subject steps (Ok text) e h = λ files f. subst (λ w. IsDone files w text.items steps steps) (sym e) (h files f, refl)
still_proved contents words subject steps (Err early) e h = tt
