-- What a plan has come past where its command is done.
use Rattle.std.proofs.Common.{◌≡◌, ℕ, List, Option, Some, None, Result, Ok, Err, refl}
use Rattle.outside.specs.States.{Files}
use Rattle.ending.specs.declared.status.Status.{Status}
use Rattle.ending.specs.declared.status.Status.TheVariants.{Done}
use Rattle.ending.specs.declared.verdict.Verdict.{Verdict}
use Rattle.ending.specs.declared.verdict.Verdict.TheVariants as verdict
use Rattle.ending.specs.Verdicts.{status_of}
use Rattle.ending.specs.Plan.{Plan, Answers, Says, Asks, Wants, Saying, says, or_say, LeadsTo, answered, said, fault, missing, long, read}

pub not_done : (v : Verdict) → status_of v ≡ Done → ⊥
not_done verdict.Refused h = cc
not_done verdict.BadData h = cc
not_done verdict.Conflicted h = cc
not_done verdict.Trapped h = cc
not_done verdict.BadCertificate h = cc
not_done verdict.OverLimit h = cc

-- a verdict
pub said_undone : {files : Files} {v : Verdict} {line : List ℕ} {status : Status} {text : List ℕ} → LeadsTo files (Says v line) status text → status ≡ Done → ⊥
said_undone (said {verdict = v}) h = not_done v h

wants_undone : {files : Files} {status : Status} {text : List ℕ} → LeadsTo files Wants status text → ⊥
wants_undone c = elim c [ ]

saying_undone : {files : Files} (saying : Saying) {status : Status} {text : List ℕ} → LeadsTo files (says saying) status text → status ≡ Done → ⊥
saying_undone None c h = wants_undone c
saying_undone (Some saying) c h = said_undone c h

-- a file is there
pub file_done : {files : Files} {name : List ℕ} {limit : ℕ} {over : List ℕ} {next : List ℕ → Plan} {status : Status} {text : List ℕ} →
    LeadsTo files (Asks name limit over next) status text → status ≡ Done → (bytes : List ℕ) × (files name ≡ Some bytes) × LeadsTo files (next bytes) status text
file_done fault h = cc
file_done (missing e) h = cc
file_done (long bytes e l) h = cc
file_done (read bytes e l c) h = (bytes, e, c)

-- a part has found its value
pub part_done : {A E : Type 0} {files : Files} (say : E → Saying) (found : Result A E) (rest : A → Plan) {status : Status} {text : List ℕ} →
    LeadsTo files (or_say say found rest) status text → status ≡ Done → (value : A) × (found ≡ Ok value) × LeadsTo files (rest value) status text
part_done say (Ok value) rest c h = (value, refl, c)
part_done say (Err error) rest c h = absurd (saying_undone (say error) c h)

-- an answer is its text
pub answer_done : {files : Files} {line : List ℕ} {status : Status} {text : List ℕ} → LeadsTo files (Answers line) status text → line ≡ text
answer_done answered = refl
