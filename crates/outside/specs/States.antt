-- What a folder and a sink show of themselves.
use Rattle.std.specs.Prelude.{ℕ, List, Option}

-- bytes by name
abbrev pub Files : Type 0
Files = List ℕ → Option (List ℕ)

-- what stands under each name, where that is told, and how often the folder has failed
pub record FolderState : Type 0 where
  pub contents : Option Files
  pub faults : ℕ

-- what was taken, where that is told, and how often the sink has failed
pub record SinkState : Type 0 where
  pub taken : Option (List ℕ)
  pub faults : ℕ
