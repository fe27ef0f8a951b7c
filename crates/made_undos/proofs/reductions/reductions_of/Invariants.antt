use Rattle.std.proofs.Common.{◌≡◌, ◌++◌, drop}
use Rattle.made_growths.specs.Told.{told}
use Rattle.made_undos.specs.Reductions.{reductions_by}
use Rattle.made_undos.proofs.reductions.reductions_of.Given as goal

abbrev pub invariant-loop-name : goal.invariant-loop-name
invariant-loop-name l = reductions_by l.table (told l.names) l.number l.table.3 ≡ l.reductions ++ reductions_by l.table (told l.names) l.number (drop l.name-index l.table.3)
