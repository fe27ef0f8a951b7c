use Rattle.fl_printed.proofs.Spelled.{name_read, literal_read}
use Rattle.fl_printed.proofs.Signs.{open_read, close_read, comma_read, minus_read, power_read}
use Rattle.fl_printed.proofs.token.printed_tokens_are_read.Goals as goal

pub returns-clause-names : goal.returns-clause-names
returns-clause-names c = name_read

pub returns-clause-literals : goal.returns-clause-literals
returns-clause-literals c = literal_read

pub returns-clause-opens : goal.returns-clause-opens
returns-clause-opens c = open_read

pub returns-clause-closes : goal.returns-clause-closes
returns-clause-closes c = close_read

pub returns-clause-commas : goal.returns-clause-commas
returns-clause-commas c = comma_read

pub returns-clause-minuses : goal.returns-clause-minuses
returns-clause-minuses c = minus_read

pub returns-clause-powers : goal.returns-clause-powers
returns-clause-powers c = power_read
