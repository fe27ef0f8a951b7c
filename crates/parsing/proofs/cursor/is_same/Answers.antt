use Rattle.std.specs.Str.{str_to_ascii_lowercase}
use Rattle.parsing.proofs.Table.{test_is}
use Rattle.parsing.proofs.cursor.is_same.Goals as goal

pub returns : goal.returns
returns c = test_is c.eq_ignore_ascii_case.result (str_to_ascii_lowercase c.args.text.now) (str_to_ascii_lowercase c.args.other.now) (c.eq_ignore_ascii_case.ensures.test.0) (c.eq_ignore_ascii_case.ensures.test.1)
