use Rattle.std.proofs.Common.{◌≡◌, drop}
use Rattle.std.specs.Str.{str_to_ascii_lowercase}
use Rattle.parsing.specs.Symbol.{entries, look_up}
use Rattle.parsing.proofs.symbol.look_up.Given as goal

abbrev pub invariant-loop-spelling : goal.invariant-loop-spelling
invariant-loop-spelling l =
    look_up (entries l.table) (str_to_ascii_lowercase l.text) l.otherwise ≡ look_up (entries (drop l.spelling-index l.table)) (str_to_ascii_lowercase l.text) l.otherwise
