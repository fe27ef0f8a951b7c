-- How stages follow one another.
use Rattle.std.proofs.Common.{◌≢◌, IsErr, IsErrAnd, codes, length, ◌<◌, subst, IfSome, Vec, Global, ◌≡◌, ℕ, ◌≤◌, List, Option, Some, None, Result, Ok, Err, sym, ap, ◌∙◌, refl, arith}
use Rattle.outside.specs.Causes.{Rose}
use Rattle.outside.specs.States.{Files, FolderState}
use Rattle.outside.specs.Files.{Takes}
use Rattle.outside.specs.declared.folder.TakeError.{TakeError}
use Rattle.outside.specs.declared.folder.TakeError.TheVariants as taking
use Rattle.ending.specs.declared.status.Status.{Status}
use Rattle.ending.specs.declared.status.Status.TheVariants.{NoFile, ReadFault, OverLimit}
use Rattle.ending.specs.declared.verdict.Verdict.{Verdict}
use Rattle.ending.specs.declared.verdict.Verdict.TheVariants as verdict
use Rattle.ending.specs.declared.early.Early.{Early}
use Rattle.ending.specs.declared.early.Early.TheVariants.{Said, Missing, Fault, Memory}
use Rattle.ending.specs.Verdicts.{status_of}
use Rattle.ending.specs.Plan.{Plan, Says, Asks, Saying, Answer, LeadsTo, says, or_say, said, fault, missing, long, read, line}
use Rattle.ending.specs.Stage.{IsSaid, IsMissing, IsFault, IsSaying, HasFaulted, answer_of, Continues, IsStage, IsPart}

-- a count that rises later has risen
pub rose_from : (a b c : ℕ) → a ≤ b → Rose b c → Rose a c
rose_from a b c h rose = omega arith

if_some : {A : Type 0} {P Q : A → Type 0} (o : Option A) → ((a : A) → P a → Q a) → IfSome o P → IfSome o Q
if_some None f h = h
if_some (Some a) f h = f a h

passes_on : {T A U B : Type 0} (view : T → A) (value : T) (other : U → B) (files : Files) (first : (A → Plan) → Plan) (second : A → (B → Plan) → Plan) (result : Result U Early) →
    Continues view files first (Ok value) → Continues other files (second (view value)) result → Continues other files (λ rest. first (λ a. second a rest)) result
passes_on view value other files first second (Ok u) h k = λ rest status text comes. h (λ a. second a rest) status text (k rest status text comes)
passes_on {B = B} view value other files first second (Err early) h k =
    if_some {P = λ (answer : Answer). (rest : B → Plan) → LeadsTo files (second (view value) rest) answer.0 answer.1} (answer_of early)
    (λ answer e rest. h (λ a. second a rest) answer.0 answer.1 (e rest)) k

-- a stage and the stage behind it are a stage
pub goes_on : {T A U B : Type 0} {view : T → A} {value : T} {other : U → B} {before mid after : FolderState}
    {first : (A → Plan) → Plan} {second : A → (B → Plan) → Plan} {result : Result U Early} →
    IsStage view before mid first (Ok value) → IsStage other mid after (second (view value)) result →
    IsStage other before after (λ rest. first (λ a. second a rest)) result
goes_on {view = view} {value = value} {other = other} {before = before} {mid = mid} {after = after} {first = first} {second = second} {result = result} p q = record {
  same = q.same ∙ p.same;
  counted = omega (arith, p.counted, q.counted);
  rose = λ h. rose_from before.faults mid.faults after.faults p.counted (q.rose h);
  told = λ files e. passes_on view value other files first second result (p.told files e) (q.told files (p.same ∙ e));
}

passes_end : {T A U B : Type 0} (view : T → A) (other : U → B) (files : Files) (first : (A → Plan) → Plan) (second : A → (B → Plan) → Plan) (early : Early) →
    Continues view files first (Err early) → Continues other files (λ rest. first (λ a. second a rest)) (Err early)
passes_end {A = A} view other files first second early h =
    if_some {P = λ (answer : Answer). (rest : A → Plan) → LeadsTo files (first rest) answer.0 answer.1} (answer_of early) (λ answer e rest. e (λ a. second a rest)) h

-- an early end of a stage is one of the stages that it begins
pub ends : {T A U B : Type 0} {view : T → A} {other : U → B} {before after : FolderState}
    {first : (A → Plan) → Plan} {second : A → (B → Plan) → Plan} {early : Early} →
    IsStage view before after first (Err early) → IsStage other before after (λ rest. first (λ a. second a rest)) (Err early)
ends {view = view} {other = other} {first = first} {second = second} {early = early} p = record {
  same = p.same;
  counted = p.counted;
  rose = p.rose;
  told = λ files e. passes_end view other files first second early (p.told files e);
}

-- a `?` hands an early end on
pub ends_at : {T A U B : Type 0} {view : T → A} {other : U → B} {before after : FolderState}
    {first : (A → Plan) → Plan} {second : A → (B → Plan) → Plan} {early : Early} {result : Result U Early} →
    IsStage view before after first (Err early) → IsErr result × IsErrAnd result (λ e. e ≡ early) →
    IsStage other before after (λ rest. first (λ a. second a rest)) result
ends_at {result = Ok u} p e = cc
ends_at {other = other} {before = before} {after = after} {first = first} {second = second} {early = early} {result = Err given} p e =
    let P : Early → Type 0 = λ x. IsStage other before after (λ rest. first (λ a. second a rest)) (Err x) in
    subst P (sym e.1) (ends {second = second} p)

-- a part as a stage
pub stands : {T A : Type 0} {view : T → A} {folder : FolderState} {stage : (A → Plan) → Plan} {result : Result T Early} →
    IsPart view stage result → IsStage view folder folder stage result
stands {folder = folder} p = record { same = refl; counted = omega arith; rose = λ h. absurd (p.clear h); told = λ files e. p.told files }

-- a `?` on a part
pub ends_part : {T A U B : Type 0} {view : T → A} {other : U → B} {folder : FolderState}
    {first : (A → Plan) → Plan} {second : A → (B → Plan) → Plan} {early : Early} {result : Result U Early} →
    IsPart view first (Err early) → IsErr result × IsErrAnd result (λ e. e ≡ early) →
    IsStage other folder folder (λ rest. first (λ a. second a rest)) result
ends_part {second = second} p e = ends_at {second = second} (stands p) e

-- a part and the part behind it are a part
pub goes_in : {T A U B : Type 0} {view : T → A} {value : T} {other : U → B}
    {first : (A → Plan) → Plan} {second : A → (B → Plan) → Plan} {result : Result U Early} →
    IsPart view first (Ok value) → IsPart other (second (view value)) result → IsPart other (λ rest. first (λ a. second a rest)) result
goes_in {view = view} {value = value} {other = other} {first = first} {second = second} {result = result} p q = record {
  clear = q.clear;
  told = λ files. passes_on view value other files first second result (p.told files) (q.told files);
}

-- a `?` of a part on a part
pub ends_in : {T A U B : Type 0} {view : T → A} {other : U → B}
    {first : (A → Plan) → Plan} {second : A → (B → Plan) → Plan} {early : Early} {result : Result U Early} →
    IsPart view first (Err early) → IsErr result × IsErrAnd result (λ e. e ≡ early) → IsPart other (λ rest. first (λ a. second a rest)) result
ends_in {result = Ok u} p e = cc
ends_in {view = view} {other = other} {first = first} {second = second} {early = early} {result = Err given} p e =
    let P : Early → Type 0 = λ x. IsPart other (λ rest. first (λ a. second a rest)) (Err x) in
    subst P (sym e.1) (record {
      clear = p.clear;
      told = λ files. passes_end view other files first second early (p.told files);
    })

-- an early end that says something is no fault
pub unfaulted : (verdict : Verdict) (text : List ℕ) (early : Early) → IsSaid verdict text early → HasFaulted early → ⊥
unfaulted due line (Said verdict text) is h = h
unfaulted due line (Missing text) is h = h
unfaulted due line (Fault text) is h = is
unfaulted due line Memory is h = h

-- what comes of a plan is what an early end says
pub comes_said : {T A : Type 0} (view : T → A) (files : Files) (stage : (A → Plan) → Plan) (verdict : Verdict) (text : List ℕ) (early : Early) →
    IsSaid verdict text early → ((rest : A → Plan) → LeadsTo files (stage rest) (status_of verdict) text) → Continues view files stage (Err early)
comes_said view files stage due line (Said verdict text) is comes = λ rest. rw (is.0, is.1) (comes rest)
comes_said view files stage due line (Missing text) is comes = absurd is
comes_said view files stage due line (Fault text) is comes = absurd is
comes_said view files stage due line Memory is comes = tt

-- a part that says a verdict whatever follows
pub says_part : {T A : Type 0} {view : T → A} {stage : (A → Plan) → Plan} {verdict : Verdict} {text : List ℕ} {early : Early} →
    IsSaid verdict text early → ((rest : A → Plan) → stage rest ≡ Says verdict text) → IsPart view stage (Err early)
says_part {view = view} {stage = stage} {verdict = verdict} {text = text} {early = early} is e = record {
  clear = unfaulted verdict text early is;
  told = λ files. comes_said view files stage verdict text early is (λ rest. rw e said);
}

-- a part that finds a value
pub finds : {T A E : Type 0} {view : T → A} (say : E → Saying) (found : Result A E) {value : T} →
    found ≡ Ok (view value) → IsPart view (or_say say found) (Ok value)
finds {view = view} say found {value = value} e = record {
  clear = λ h. h;
  told = λ files rest status text comes.
      let P : _ → Type 0 = λ o. LeadsTo files (or_say say o rest) status text in subst P (sym e) comes;
}

-- what is said of an error, where it is what the part found
saying_part : {T A E : Type 0} {view : T → A} (say : E → Saying) (found : Result A E) (error : E) (saying : Saying) (early : Early) →
    say error ≡ saying → (saying ≢ None → found ≡ Err error) → IsSaying saying early → IsPart view (or_say say found) (Err early)
saying_part say found error None early s e is = rw is (record { clear = λ h. h; told = λ files. tt })
saying_part {A = A} say found error (Some saying) early s e is =
    says_part is (λ (rest : A → Plan). let h : found ≡ Err error = e (λ n. cc) in
    ap (λ f. or_say say f rest) h ∙ ap says s)

-- and one that finds an error
pub refuses : {T A E : Type 0} {view : T → A} (memory : E) (say : E → Saying) (found : Result A E) (error : E) {early : Early} → say memory ≡ None →
    (error ≢ memory → found ≡ Err error) → IsSaying (say error) early → IsPart view (or_say say found) (Err early)
refuses memory say found error {early = early} none e is =
    saying_part say found error (say error) early refl (λ some. e (λ m. some (ap say m ∙ none))) is

-- a value of its own
pub gives : {T A : Type 0} {view : T → A} (a : A) {value : T} → view value ≡ a → IsPart view (λ rest. rest a) (Ok value)
gives {view = view} a {value = value} e = record {
  clear = λ h. h;
  told = λ files rest status text comes.
      let P : _ → Type 0 = λ x. LeadsTo files (rest x) status text in subst P e comes;
}

-- want of memory ends a part whatever its plan is
pub wants : {T A : Type 0} {view : T → A} {stage : (A → Plan) → Plan} → IsPart {T = T} view stage (Err Memory)
wants = record { clear = λ h. h; told = λ files. tt }

-- for the proof of a command, and of a part
pub ruleset chain = (goes_on, ends_at, ends_part, stands, gives, wants)

pub ruleset parts = (goes_in, ends_in, gives, wants)
