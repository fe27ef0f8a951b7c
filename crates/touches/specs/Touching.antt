-- Touches and conflicts as numbers.
use Rattle.std.specs.Prelude.{ℕ}
use Rattle.fl_types.specs.declared.access.AccessKind.{AccessKind}
use Rattle.meaning.specs.Logs.{Touch}
use Rattle.meaning.specs.Conflicts.{Clash}
use Rattle.touches.specs.declared.watch.Conflict.{Conflict}

abbrev pub touch : ℕ → ℕ → AccessKind → Touch
touch p i kind = record { place = p; iteration = i; kind = kind }

-- a clash in the loop whose `do` is on this line
abbrev pub conflict_at : ℕ → Clash → Conflict
conflict_at line c = record { line = line; place = c.place; first = c.first; second = c.second }
