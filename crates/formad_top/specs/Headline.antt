-- What a call has written where it is done.
use Rattle.std.specs.Prelude.{ℕ, ◌≡◌, List, ◌++◌, Option, Some, None}
use Rattle.outside.specs.States.{Files}
use Rattle.formad_words.specs.declared.words.Words.{Words}
use Rattle.commands.specs.Done.{IsDone}

-- the sink took exactly the text of the command's answer, behind what it had taken before; with the counter of steps before and
-- after the call
abbrev pub HasDone : Files → Option Words → (sink : List ℕ) → (taken : Option (List ℕ)) → (before after : ℕ) → Type 0
HasDone files None sink taken before after = ⊥
HasDone files (Some words) sink taken before after = (text : List ℕ) × IsDone files words text before after × (taken ≡ Some (sink ++ text))
