-- What a stage of a command promises.
use Rattle.std.specs.Prelude.{ℕ, ◌≡◌, ◌≤◌, List, Option, Some, None, IfSome, IsErrAnd, Result, Ok, Err}
use Rattle.outside.specs.Causes.{Rose}
use Rattle.outside.specs.States.{Files, FolderState}
use Rattle.ending.specs.declared.status.Status.TheVariants.{NoFile, ReadFault}
use Rattle.ending.specs.declared.verdict.Verdict.{Verdict}
use Rattle.ending.specs.declared.early.Early.{Early}
use Rattle.ending.specs.declared.early.Early.TheVariants.{Said, Missing, Fault, Memory}
use Rattle.ending.specs.Verdicts.{status_of}
use Rattle.ending.specs.Plan.{Plan, Saying, Answer, LeadsTo}

-- the verdict with this text, or want of memory
abbrev pub IsSaid : Verdict → List ℕ → Early → Type 0
IsSaid due line (Said verdict text) = (verdict ≡ due) × (text.items ≡ line)
IsSaid due line (Missing text) = ⊥
IsSaid due line (Fault text) = ⊥
IsSaid due line Memory = Unit {0}

-- a missing file, or want of memory
abbrev pub IsMissing : List ℕ → Early → Type 0
IsMissing line (Said verdict text) = ⊥
IsMissing line (Missing text) = text.items ≡ line
IsMissing line (Fault text) = ⊥
IsMissing line Memory = Unit {0}

-- a fault of the folder, or want of memory
abbrev pub IsFault : List ℕ → Early → Type 0
IsFault line (Said verdict text) = ⊥
IsFault line (Missing text) = ⊥
IsFault line (Fault text) = text.items ≡ line
IsFault line Memory = Unit {0}

-- what is said of an error, or want of memory
abbrev pub IsSaying : Saying → Early → Type 0
IsSaying None early = early ≡ Memory
IsSaying (Some saying) early = IsSaid saying.0 saying.1 early

abbrev pub HasFaulted : Early → Type 0
HasFaulted (Said verdict text) = ⊥
HasFaulted (Missing text) = ⊥
HasFaulted (Fault text) = Unit {0}
HasFaulted Memory = ⊥

-- the status and the text of an early end, None where memory is wanting
abbrev pub answer_of : Early → Option Answer
answer_of (Said verdict text) = Some (status_of verdict, text.items)
answer_of (Missing text) = Some (NoFile, text.items)
answer_of (Fault text) = Some (ReadFault, text.items)
answer_of Memory = None

-- a value leads on to the rest of the plan, whatever that is; an early end comes of the plan, whatever the rest is
abbrev pub Continues : {T A : Type 0} → (T → A) → Files → ((A → Plan) → Plan) → Result T Early → Type 0
Continues view files stage (Ok value) = (rest : _) (status : _) (text : List ℕ) → LeadsTo files (rest (view value)) status text → LeadsTo files (stage rest) status text
Continues view files stage (Err early) = IfSome (answer_of early) (λ answer. (rest : _) → LeadsTo files (stage rest) answer.0 answer.1)

-- a stage over a folder, whose contents stay: the folder before and after
pub record IsStage {T A : Type 0} (view : T → A) (before after : FolderState) (stage : (A → Plan) → Plan) (result : Result T Early) : Type 0 where
  pub same : after.contents ≡ before.contents
  pub counted : before.faults ≤ after.faults
  pub rose : IsErrAnd result HasFaulted → Rose before.faults after.faults
  pub told : (files : Files) → before.contents ≡ Some files → Continues view files stage result

-- a stage that takes no file
pub record IsPart {T A : Type 0} (view : T → A) (stage : (A → Plan) → Plan) (result : Result T Early) : Type 0 where
  pub clear : IsErrAnd result HasFaulted → ⊥
  pub told : (files : Files) → Continues view files stage result
