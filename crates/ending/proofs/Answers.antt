-- How a call's answer comes of its stage and of what was put.
use Rattle.std.proofs.Common.{◌≡◌, ℕ, List, ◌++◌, Option, Some, None, Result, Ok, Err, IfOk, Vec, Global}
use Rattle.outside.specs.Causes.{Rose}
use Rattle.outside.specs.States.{Files, FolderState, SinkState}
use Rattle.ending.specs.declared.status.Status.{Status}
use Rattle.ending.specs.declared.status.Status.TheVariants.{Done, BadWords, NoMemory, ReadFault, WriteFault}
use Rattle.ending.specs.declared.verdict.Verdict.{Verdict}
use Rattle.ending.specs.declared.verdict.Verdict.TheVariants as verdict
use Rattle.ending.specs.declared.early.Early.{Early}
use Rattle.ending.specs.declared.early.Early.TheVariants.{Said, Missing, Fault, Memory}
use Rattle.ending.specs.Verdicts.{status_of}
use Rattle.ending.specs.Plan.{Plan, Answers, answered, no_memory}
use Rattle.ending.specs.Stage.{IsStage}
use Rattle.ending.proofs.Done.{not_done}
use Rattle.ending.specs.Ends.{IsPut, all_put, cut_off, IsDue, bad_words, comes, wanting, whole, cut, IsAnswer, ending_of}

-- no verdict is a fault
pub not_read : (v : Verdict) → status_of v ≡ ReadFault → ⊥
not_read verdict.Refused h = cc
not_read verdict.BadData h = cc
not_read verdict.Conflicted h = cc
not_read verdict.Trapped h = cc
not_read verdict.BadCertificate h = cc
not_read verdict.OverLimit h = cc

pub not_written : (v : Verdict) → status_of v ≡ WriteFault → ⊥
not_written verdict.Refused h = cc
not_written verdict.BadData h = cc
not_written verdict.Conflicted h = cc
not_written verdict.Trapped h = cc
not_written verdict.BadCertificate h = cc
not_written verdict.OverLimit h = cc

-- what is due is put
pub put_due : {folder folder' : FolderState} {sink sink' : SinkState} {plan : Option Plan} {status : Status} {text : List ℕ} {result : Status} →
    ((files : Files) → folder.contents ≡ Some files → IsDue files plan status text) → (status ≡ ReadFault → Rose folder.faults folder'.faults) → (status ≡ WriteFault → ⊥) →
    folder'.contents ≡ folder.contents → IsPut sink sink' status text result → IsAnswer folder folder' sink sink' plan result
put_due {text = text} due read never same (all_put h) = record {
  ends = λ files taken e d. whole text (due files e) (h taken d);
  read_fault = read;
  write_fault = λ w. absurd (never w);
  same = same;
}
put_due {status = status} {text = text} due read never same (cut_off h) = record {
  ends = λ files taken e d. let k = h.1 taken d in cut status text k.0 (due files e) k.1;
  read_fault = λ r. cc;
  write_fault = λ w. h.0;
  same = same;
}

-- the outcome of a command, whose answer ends its plan, is put
pub put_outcome : {folder folder' : FolderState} {sink sink' : SinkState} {stage : (List ℕ → Plan) → Plan} {result : Status} (outcome : Result (Vec ℕ Global) Early) →
    IsStage (λ text. text.items) folder folder' stage outcome → IsPut sink sink' (ending_of outcome).0 (ending_of outcome).1 result →
    IsAnswer folder folder' sink sink' (Some (stage Answers)) result
put_outcome (Ok text) p put = put_due (λ files e. comes (p.told files e Answers Done text.items answered)) (λ h. cc) (λ h. cc) p.same put
put_outcome (Err (Said v text)) p put = put_due (λ files e. comes (p.told files e Answers)) (λ h. absurd (not_read v h)) (not_written v) p.same put
put_outcome (Err (Missing text)) p put = put_due (λ files e. comes (p.told files e Answers)) (λ h. cc) (λ h. cc) p.same put
put_outcome (Err (Fault text)) p put = put_due (λ files e. comes (p.told files e Answers)) (λ h. p.rose tt) (λ h. cc) p.same put
put_outcome (Err Memory) p put = put_due (λ files e. wanting) (λ h. cc) (λ h. cc) p.same put

-- a status other than the one that was put, and than a write fault, doesn't come
pub put_other : {sink sink' : SinkState} {status : Status} {text : List ℕ} {result : Status} → IsPut sink sink' status text result → (status ≡ Done → ⊥) → result ≡ Done → ⊥
put_other (all_put h) never done = never done
put_other (cut_off h) never done = cc

early_undone : (early : Early) → (ending_of (Err early)).0 ≡ Done → ⊥
early_undone (Said v text) h = not_done v h
early_undone (Missing text) h = cc
early_undone (Fault text) h = cc
early_undone Memory h = cc

put_whole : {sink sink' : SinkState} {text : List ℕ} {result : Status} → IsPut sink sink' Done text result → result ≡ Done → (taken : List ℕ) → sink.taken ≡ Some taken → sink'.taken ≡ Some (taken ++ text)
put_whole (all_put h) done = h
put_whole (cut_off h) done = cc

-- an outcome that is done is a text that the sink took whole, and what is true of this text
pub put_done : (folder : FolderState) {sink sink' : SinkState} {result : Status} (outcome : Result (Vec ℕ Global) Early) (Q : Files → List ℕ → Type 0) →
    IfOk outcome (λ text. (files : Files) → folder.contents ≡ Some files → Q files text.items) → IsPut sink sink' (ending_of outcome).0 (ending_of outcome).1 result → result ≡ Done →
    (files : Files) (taken : List ℕ) → folder.contents ≡ Some files → sink.taken ≡ Some taken → (text : List ℕ) × Q files text × (sink'.taken ≡ Some (taken ++ text))
put_done folder (Ok text) Q told put done = λ files taken e d. (text.items, told files e, put_whole put done taken d)
put_done folder (Err early) Q told put done = absurd (put_other put (early_undone early) done)
