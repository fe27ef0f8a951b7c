use Rattle.std.proofs.Common.{[], sym, ◌∙◌, rules}
use Rattle.std.specs.Str.{str_to_ascii_lowercase}
use Rattle.parsing.specs.declared.symbol.Symbol.TheVariants.{Name}
use Rattle.parsing.proofs.Table.{hit, miss}
use Rattle.parsing.proofs.symbol.look_up.Goals as goal

pub returns-then-eq_ignore_ascii_case : goal.returns-then-eq_ignore_ascii_case
returns-then-eq_ignore_ascii_case c =
    sym (c.loop-spelling.invariant ∙ hit c.args.table.now c.loop-spelling.spelling-index (record { ref_ptr = (0, 0); now = [] }, Name) (str_to_ascii_lowercase c.args.text.now) c.args.otherwise c.loop-spelling-test.true (search rules))

pub loop-spelling-preserved : goal.loop-spelling-preserved
loop-spelling-preserved c =
    c.loop-spelling.invariant ∙ miss c.args.table.now c.loop-spelling.spelling-index (record { ref_ptr = (0, 0); now = [] }, Name) (str_to_ascii_lowercase c.args.text.now) c.args.otherwise c.loop-spelling-test.true (search rules)
