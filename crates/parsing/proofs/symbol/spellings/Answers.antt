use Rattle.std.proofs.Common.{refl}
use Rattle.parsing.specs.Symbol.{symbol_by}
use Rattle.parsing.proofs.OnSymbols.{example_is}
use Rattle.parsing.proofs.symbol.spellings.Goals as goal

pub returns : goal.returns
unfolding symbol_by
returns c = record { each = example_is; constructs = refl }
