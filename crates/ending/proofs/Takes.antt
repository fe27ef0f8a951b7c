-- A file that is taken.
use Rattle.std.proofs.Common.{codes, length, ◌<◌, ◌≤◌, subst, IfSome, Vec, Global, ◌≡◌, ℕ, List, Option, Some, None, Result, Ok, Err}
use Rattle.outside.specs.Causes.{Rose}
use Rattle.outside.specs.States.{Files, FolderState}
use Rattle.outside.specs.Files.{Takes}
use Rattle.outside.specs.declared.folder.TakeError.{TakeError}
use Rattle.outside.specs.declared.folder.TakeError.TheVariants as taking
use Rattle.ending.specs.declared.status.Status.TheVariants.{NoFile, ReadFault, OverLimit}
use Rattle.ending.specs.declared.verdict.Verdict.TheVariants as verdict
use Rattle.ending.specs.declared.early.Early.{Early}
use Rattle.ending.specs.declared.early.Early.TheVariants.{Said, Missing, Fault, Memory}
use Rattle.ending.specs.Plan.{Plan, Asks, LeadsTo, fault, missing, long, read, line}
use Rattle.ending.specs.Stage.{IsSaid, IsMissing, IsFault, Continues, IsStage, HasFaulted}
use Rattle.ending.proofs.Follow.{comes_said}

-- what is told of a file
takes_of : (before : Option Files) (name : List ℕ) (limit : ℕ) (result : Result (Vec ℕ Global) TakeError) →
    IfSome before (λ files. Takes (files name) limit result) → (files : Files) → before ≡ Some files → Takes (files name) limit result
takes_of None name limit result told files e = cc
takes_of (Some held) name limit result told files e =
    let P : Option Files → Type 0 = λ o. IfSome o (λ there. Takes (there name) limit result) in subst P e told

pub took : {before : Option Files} {name : List ℕ} {limit : ℕ} (over : List ℕ) (bytes : Vec ℕ Global) → IfSome before (λ files. Takes (files name) limit (Ok bytes)) →
    (files : Files) → before ≡ Some files → Continues (λ b. b.items) files (Asks name limit over) (Ok bytes)
took {before = before} {name = name} {limit = limit} over bytes told files e = λ rest status text comes.
    let h : (files name ≡ Some bytes.items) × (length bytes.items ≤ limit) = takes_of before name limit (Ok bytes) told files e in
    read bytes.items h.0 h.1 comes

pub too_long : {before : Option Files} (name : List ℕ) (limit : ℕ) (over : List ℕ) (early : Early) → IfSome before (λ files. Takes (files name) limit (Err taking.TooLong)) →
    IsSaid verdict.OverLimit over early → (files : Files) → before ≡ Some files → Continues {T = Vec ℕ Global} (λ b. b.items) files (Asks name limit over) (Err early)
too_long {before = before} name limit over early told is files e =
    let h : (bytes : List ℕ) × (files name ≡ Some bytes) × (limit < length bytes) = takes_of before name limit (Err taking.TooLong) told files e in
    comes_said {T = Vec ℕ Global} (λ b. b.items) files (Asks name limit over) verdict.OverLimit over early is (λ rest. long h.0 h.1 h.2)

absent : (files : Files) (name : List ℕ) (limit : ℕ) (over : List ℕ) (early : Early) → IsMissing (line (codes "no file ") name) early → files name ≡ None →
    Continues {T = Vec ℕ Global} (λ b. b.items) files (Asks name limit over) (Err early)
absent files name limit over (Said verdict text) is none = absurd is
absent files name limit over (Missing text) is none = λ rest. rw is (missing none)
absent files name limit over (Fault text) is none = absurd is
absent files name limit over Memory is none = tt

pub not_there : {before : Option Files} (name : List ℕ) (limit : ℕ) (over : List ℕ) (early : Early) → IfSome before (λ files. Takes (files name) limit (Err taking.Missing)) →
    IsMissing (line (codes "no file ") name) early → (files : Files) → before ≡ Some files → Continues {T = Vec ℕ Global} (λ b. b.items) files (Asks name limit over) (Err early)
not_there {before = before} name limit over early told is files e =
    absent files name limit over early is (takes_of before name limit (Err taking.Missing) told files e)

pub failed : (name : List ℕ) (limit : ℕ) (over : List ℕ) (early : Early) → IsFault (line (codes "read fault ") name) early →
    (files : Files) → Continues {T = Vec ℕ Global} (λ b. b.items) files (Asks name limit over) (Err early)
failed name limit over (Said verdict text) is files = absurd is
failed name limit over (Missing text) is files = absurd is
failed name limit over (Fault text) is files = λ rest. rw is fault
failed name limit over Memory is files = tt

-- a file that isn't there is no fault
pub missing_clear : (line : List ℕ) (early : Early) → IsMissing line early → HasFaulted early → ⊥
missing_clear line (Said verdict text) is h = h
missing_clear line (Missing text) is h = h
missing_clear line (Fault text) is h = is
missing_clear line Memory is h = h
