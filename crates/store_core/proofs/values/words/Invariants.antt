use Rattle.std.proofs.Common.{◌≡◌, drop}
use Rattle.store_core.specs.Values.{words_in}
use Rattle.store_core.proofs.values.words.Given as goal

-- the entry is among those that are left
abbrev pub invariant-loop-entry : goal.invariant-loop-entry
invariant-loop-entry l = words_in l.entries l.name ≡ words_in (drop l.entry-index l.entries) l.name
