-- A plan leads to one answer, and what a status says of it.
use Rattle.std.proofs.Common.{◌≡◌, ◌≢◌, ℕ, ◌⊎◌, inl, inr, true, false, nat_lt, List, length, codes, Option, Some, None, sym, ◌∙◌, refl, ap, arith}
use Rattle.std.specs.Prelude.{◌++◌}
use Rattle.std.proofs.lemmas.Bool.Decides.{nat_tests}
use Rattle.outside.specs.States.{Files}
use Rattle.ending.specs.declared.status.Status.{Status}
use Rattle.ending.specs.declared.status.Status.TheVariants.{BadWords, NoFile, ReadFault, WriteFault, NoMemory}
use Rattle.ending.specs.declared.verdict.Verdict.{Verdict}
use Rattle.ending.specs.declared.verdict.Verdict.TheVariants as verdict
use Rattle.ending.specs.Verdicts.{status_of}
use Rattle.ending.specs.Plan.{Plan, LeadsTo, answered, said, fault, missing, long, read, due, due_of, line}
use Rattle.ending.specs.Ends.{IsDue, bad_words, comes, wanting, Ends, whole, cut, IsExact, IsComplete, HasBadWords, IsAsked, at_once, later, LacksFile}

-- what comes of a plan is a read fault or the one answer that is due
pub at_most_one : {files : Files} {plan : Plan} {status : Status} {text : List ℕ} → LeadsTo files plan status text →
    (status ≡ ReadFault) ⊎ (due files plan ≡ (status, text))
unfolding due
at_most_one answered = inr refl
at_most_one said = inr refl
at_most_one fault = inl refl
at_most_one {files = files} (missing {name = name} {limit = limit} {over = over} {next = next} e) = inr (rw e refl)
at_most_one {files = files} (long {name = name} {limit = limit} {over = over} {next = next} bytes e h) =
    let test : nat_lt limit (length bytes) ≡ true = grind (arith, nat_tests) in
    inr (rw (e, test) refl)
at_most_one {files = files} (read {name = name} {limit = limit} {over = over} {next = next} bytes e h c) =
    let test : nat_lt limit (length bytes) ≡ false = grind (arith, nat_tests) in
    elim (at_most_one c) [
      | inl f ↦ inl f
      | inr q ↦ inr (rw (e, test) q)
    ]

-- what is due, but for faults of the folder and want of memory
due_one : {files : Files} {plan : Option Plan} {status : Status} {text : List ℕ} → IsDue files plan status text → status ≢ ReadFault → status ≢ NoMemory →
    due_of files plan ≡ (status, text)
due_one bad_words r m = refl
due_one (comes c) r m = elim (at_most_one c) [ inl f ↦ absurd (r f) | inr q ↦ q ]
due_one wanting r m = absurd (m refl)

-- a status that no fault and no want of memory explains is the one that is due, with its whole text
pub exact : {files : Files} {plan : Option Plan} {sink : List ℕ} {after : Option (List ℕ)} {status : Status} → Ends files plan sink after status → IsExact files plan sink after status
exact {files = files} {plan = plan} {sink = sink} {status = status} (whole text d put) = λ not_read not_write not_memory.
    let q : due_of files plan ≡ (status, text) = due_one d not_read not_memory in
    (ap (λ a. a.0) q, put ∙ ap (λ a. Some (sink ++ a.1)) (sym q))
exact (cut status text count d put) = λ not_read not_write not_memory. absurd (not_write refl)

-- where no fault came, a call that is due to be done is done, or memory was wanting
complete_due : {files : Files} {plan : Option Plan} (sink : List ℕ) {after : Option (List ℕ)} {status : Status} (text : List ℕ) → IsDue files plan status text → after ≡ Some (sink ++ text) → IsComplete files plan sink after status
complete_due sink text bad_words put = λ done r w. absurd (let no : BadWords ≡ _ = done in cc)
complete_due sink text (comes c) put = λ done r w. elim (at_most_one c) [
  | inl f ↦ absurd (r f)
  | inr q ↦ inl (sym (ap (λ a. a.0) q) ∙ done, put ∙ ap (λ a. Some (sink ++ a.1)) (sym q))
]
complete_due sink text wanting put = λ done r w. inr refl

pub complete : {files : Files} {plan : Option Plan} {sink : List ℕ} {after : Option (List ℕ)} {status : Status} → Ends files plan sink after status → IsComplete files plan sink after status
complete {sink = sink} (whole text d put) = complete_due sink text d put
complete (cut status text count d put) = λ done r w. absurd (w refl)

-- no command says bad words, whatever its plan is
not_bad : (v : Verdict) → status_of v ≡ BadWords → ⊥
not_bad verdict.Refused h = cc
not_bad verdict.BadData h = cc
not_bad verdict.Conflicted h = cc
not_bad verdict.Trapped h = cc
not_bad verdict.BadCertificate h = cc
not_bad verdict.OverLimit h = cc

never_bad : {files : Files} {plan : Plan} {status : Status} {text : List ℕ} → LeadsTo files plan status text → status ≡ BadWords → ⊥
never_bad answered h = cc
never_bad (said {verdict = v}) h = not_bad v h
never_bad fault h = cc
never_bad (missing e) h = cc
never_bad (long bytes e l) h = cc
never_bad (read bytes e l c) h = never_bad c h

bad_due : {files : Files} (plan : Option Plan) {status : Status} {text : List ℕ} → IsDue files plan status text → HasBadWords plan status
bad_due None bad_words = λ w m. refl
bad_due None wanting = λ w m. absurd (m refl)
bad_due (Some plan) (comes c) = λ e. never_bad c e
bad_due (Some plan) wanting = λ e. cc

pub has_bad_words : {files : Files} (plan : Option Plan) {sink : List ℕ} {after : Option (List ℕ)} {status : Status} → Ends files plan sink after status → HasBadWords plan status
has_bad_words plan (whole text d put) = bad_due plan d
has_bad_words None (cut status text count d put) = λ w m. absurd (w refl)
has_bad_words (Some plan) (cut status text count d put) = λ e. cc

-- a missing file is one that the plan asks for
not_missing : (v : Verdict) → status_of v ≡ NoFile → ⊥
not_missing verdict.Refused h = cc
not_missing verdict.BadData h = cc
not_missing verdict.Conflicted h = cc
not_missing verdict.Trapped h = cc
not_missing verdict.BadCertificate h = cc
not_missing verdict.OverLimit h = cc

asked_missing : {files : Files} {plan : Plan} {status : Status} {text : List ℕ} → LeadsTo files plan status text → status ≡ NoFile →
    (name : List ℕ) × IsAsked files plan name × (files name ≡ None) × (text ≡ line (codes "no file ") name)
asked_missing answered h = cc
asked_missing (said {verdict = v}) h = absurd (not_missing v h)
asked_missing fault h = cc
asked_missing (missing {name = name} e) h = (name, at_once, e, refl)
asked_missing (long bytes e l) h = cc
asked_missing (read bytes e l c) h = let m = asked_missing c h in (m.0, later bytes e m.1, m.2, m.3)

lacks_due : {files : Files} (plan : Option Plan) (sink : List ℕ) {after : Option (List ℕ)} {status : Status} (text : List ℕ) → IsDue files plan status text → after ≡ Some (sink ++ text) → status ≡ NoFile →
    LacksFile files plan sink after
lacks_due None sink text bad_words put e = cc
lacks_due None sink text wanting put e = cc
lacks_due (Some plan) sink text (comes c) put e = let m = asked_missing c e in (m.0, m.1, m.2, put ∙ ap (λ t. Some (sink ++ t)) m.3)
lacks_due (Some plan) sink text wanting put e = cc

pub lacks_file : {files : Files} (plan : Option Plan) {sink : List ℕ} {after : Option (List ℕ)} {status : Status} → Ends files plan sink after status → status ≡ NoFile → LacksFile files plan sink after
lacks_file plan {sink = sink} (whole text d put) e = lacks_due plan sink text d put e
lacks_file plan (cut status text count d put) e = cc
