-- How a call ends.
use Rattle.std.specs.Prelude.{ℕ, ◌≡◌, ◌≢◌, ◌⊎◌, Bool, true, false, List, ◌++◌, take, codes, Option, Some, None, unwrap_or, Result, Ok, Err, Vec}
use Rattle.std.specs.declared.alloc.Global.{Global}
use Rattle.outside.specs.Causes.{Rose}
use Rattle.outside.specs.States.{Files, FolderState, SinkState}
use Rattle.ending.specs.declared.early.Early.{Early}
use Rattle.ending.specs.declared.status.Status.{Status}
use Rattle.ending.specs.declared.status.Status.TheVariants.{Done, BadWords, NoFile, NoMemory, ReadFault, WriteFault}
use Rattle.ending.specs.Plan.{Plan, Asks, Answer, LeadsTo, due_of, line, no_memory}
use Rattle.ending.specs.Stage.{answer_of}

-- the sink has taken the whole text, or a front of it with a fault
abbrev pub Puts : SinkState → SinkState → List ℕ → Bool → Type 0
Puts before after text true = (sink : List ℕ) → before.taken ≡ Some sink → after.taken ≡ Some (sink ++ text)
Puts before after text false =
    Rose before.faults after.faults × ((sink : List ℕ) → before.taken ≡ Some sink → (count : ℕ) × (after.taken ≡ Some (sink ++ take count text)))

-- the status with the whole text, or a write fault with a front of it
pub data IsPut (before after : SinkState) (status : Status) (text : List ℕ) : Status → Type 0 where
  all_put : Puts before after text true → IsPut before after status text status
  cut_off : Puts before after text false → IsPut before after status text WriteFault

-- what is due: that the words are bad, what comes of the plan, or that memory is wanting
pub data IsDue (files : Files) : Option Plan → Status → List ℕ → Type 0 where
  bad_words : IsDue files None BadWords (codes "bad words\n")
  comes : {plan : Plan} {status : Status} {text : List ℕ} → LeadsTo files plan status text → IsDue files (Some plan) status text
  wanting : {plan : Option Plan} → IsDue files plan NoMemory no_memory

-- a call ends with a status and its whole text, or with a write fault and a front of a text
pub data Ends (files : Files) (plan : Option Plan) (sink : List ℕ) (after : Option (List ℕ)) : Status → Type 0 where
  whole : {status : Status} (text : List ℕ) → IsDue files plan status text → after ≡ Some (sink ++ text) → Ends files plan sink after status
  cut : (status : Status) (text : List ℕ) (count : ℕ) → IsDue files plan status text → after ≡ Some (sink ++ take count text) → Ends files plan sink after WriteFault

-- the answer of a call: what it ends with over its plan, that a fault is answered only where the count of faults rose, and that
-- the folder's contents stay
pub record IsAnswer (folder folder' : FolderState) (sink sink' : SinkState) (plan : Option Plan) (status : Status) : Type 0 where
  pub ends : (files : Files) (taken : List ℕ) → folder.contents ≡ Some files → sink.taken ≡ Some taken → Ends files plan taken sink'.taken status
  pub read_fault : status ≡ ReadFault → Rose folder.faults folder'.faults
  pub write_fault : status ≡ WriteFault → Rose sink.faults sink'.faults
  pub same : folder'.contents ≡ folder.contents

-- the status and the text of a command's outcome
abbrev pub ending_of : Result (Vec ℕ Global) Early → Answer
ending_of (Ok text) = (Done, text.items)
ending_of (Err early) = unwrap_or (answer_of early) (NoMemory, no_memory)

-- a status that neither a fault nor want of memory explains is the one that is due, with its whole text
abbrev pub IsExact : Files → Option Plan → List ℕ → Option (List ℕ) → Status → Type 0
IsExact files plan sink after status =
    status ≢ ReadFault → status ≢ WriteFault → status ≢ NoMemory →
    ((due_of files plan).0 ≡ status) × (after ≡ Some (sink ++ (due_of files plan).1))

-- a call that is due to be done is done, and its text was taken, where no fault came, or memory was wanting
abbrev pub IsComplete : Files → Option Plan → List ℕ → Option (List ℕ) → Status → Type 0
IsComplete files plan sink after status =
    (due_of files plan).0 ≡ Done → status ≢ ReadFault → status ≢ WriteFault →
    ((status ≡ Done) × (after ≡ Some (sink ++ (due_of files plan).1))) ⊎ (status ≡ NoMemory)

-- bad words are said exactly of words outside the grammar, where no write failed and memory was there
abbrev pub HasBadWords : Option Plan → Status → Type 0
HasBadWords None status = status ≢ WriteFault → status ≢ NoMemory → status ≡ BadWords
HasBadWords (Some plan) status = status ≢ BadWords

-- the plan asks for a file, on its way over these files
pub data IsAsked (files : Files) : Plan → List ℕ → Type 0 where
  at_once : {name : List ℕ} {limit : ℕ} {over : List ℕ} {next : List ℕ → Plan} → IsAsked files (Asks name limit over next) name
  later : {name other : List ℕ} {limit : ℕ} {over : List ℕ} {next : List ℕ → Plan} (bytes : List ℕ) →
      files name ≡ Some bytes → IsAsked files (next bytes) other → IsAsked files (Asks name limit over next) other

-- a file that the plan asks for isn't in the folder, which is what was said
abbrev pub LacksFile : Files → Option Plan → List ℕ → Option (List ℕ) → Type 0
LacksFile files None sink after = ⊥
LacksFile files (Some plan) sink after =
    (name : List ℕ) × IsAsked files plan name × (files name ≡ None) × (after ≡ Some (sink ++ line (codes "no file ") name))
