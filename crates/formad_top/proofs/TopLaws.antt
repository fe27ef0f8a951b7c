-- What the words and the files say of a status.
use Rattle.std.proofs.Common.{◌≡◌, ℕ, List, codes, Option, Some, None, sym, subst}
use Rattle.std.specs.Prelude.{option_map}
use Rattle.outside.specs.States.{Files, FolderState, SinkState}
use Rattle.ending.specs.declared.status.Status.{Status}
use Rattle.ending.specs.declared.status.Status.TheVariants.{BadWords}
use Rattle.ending.specs.Ends.{IsDue, bad_words, IsAnswer}
use Rattle.formad_words.specs.declared.words.Words.{Words}
use Rattle.formad_words.specs.Grammar.{words_in}
use Rattle.commands.specs.Plans.{command_plan}
use Rattle.formad_top.specs.Top.{plan_of}
use Rattle.formad_top.specs.Headline.{HasDone}

-- the words of a command are its plan
pub of_words : {folder folder' : FolderState} {sink sink' : SinkState} {status : Status} (words : List (List ℕ)) (command : Words) →
    words_in words ≡ Some command → IsAnswer folder folder' sink sink' (Some (command_plan command)) status →
    IsAnswer folder folder' sink sink' (plan_of words) status
of_words {folder = folder} {folder' = folder'} {sink = sink} {sink' = sink'} {status = status} words command e answer =
    let P : Option Words → Type 0 = λ w. IsAnswer folder folder' sink sink' (option_map command_plan w) status in subst P (sym e) answer

-- bad words are due where there is no command
pub no_words : (words : List (List ℕ)) (files : Files) → words_in words ≡ None → IsDue files (plan_of words) BadWords (codes "bad words\n")
no_words words files e =
    let P : Option Words → Type 0 = λ w. IsDue files (option_map command_plan w) BadWords (codes "bad words\n") in subst P (sym e) bad_words

-- the words of a command that is done
pub of_done : (files : Files) (sink : List ℕ) (taken : Option (List ℕ)) (before after : ℕ) (words : List (List ℕ)) (command : Words) →
    words_in words ≡ Some command → HasDone files (Some command) sink taken before after → HasDone files (words_in words) sink taken before after
of_done files sink taken before after words command e done =
    let P : Option Words → Type 0 = λ w. HasDone files w sink taken before after in subst P (sym e) done
