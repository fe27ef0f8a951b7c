-- Lines that are added to others.
use Rattle.std.specs.Prelude.{ℕ, Bool, true, false, List, ◌++◌, Option, Some, None}
use Rattle.certificate_rules.specs.Derivations.{Line}
use Rattle.certificate_rules.specs.Plain.{Shown, AllShown}

abbrev pub with_last : List Line → Option ℕ → Option (List Line × ℕ)
with_last ls None = None
with_last ls (Some n) = Some (ls, n)

abbrev pub behind : List Line → Option Shown → Option (List Line × ℕ)
behind ls None = None
behind ls (Some w) = Some (ls ++ w.lines, w.last)

abbrev pub with_lasts : (all : Bool) → List Line → List ℕ → Option (List Line × List ℕ)
with_lasts true ls ns = Some (ls, ns)
with_lasts false ls ns = None

abbrev pub all_behind : List Line → List ℕ → Option AllShown → Option (List Line × List ℕ)
all_behind ls ns None = None
all_behind ls ns (Some w) = Some (ls ++ w.lines, ns ++ w.lasts)
