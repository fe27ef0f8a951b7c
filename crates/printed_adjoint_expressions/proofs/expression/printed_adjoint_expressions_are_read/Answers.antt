use Rattle.std.proofs.Common.{false}
use Rattle.fl_printer.specs.Words.{adjoint_words, adjoint_sum_words}
use Rattle.printed_adjoint_expressions.proofs.ReadAdjoints.{adjoint_read, each_lexed}
use Rattle.printed_adjoint_expressions.proofs.AdjointUpdates.{adjoint_update_read}
use Rattle.printed_adjoint_expressions.proofs.expression.printed_adjoint_expressions_are_read.Goals as goal

pub returns : goal.returns
returns c = record {
  expressions = λ e blank b d us r i j l. adjoint_read e b d blank us r i j (each_lexed us (adjoint_words false blank e) l);
  updates = λ e blank b d us r i j l. adjoint_update_read e b d blank us r i j (each_lexed us (adjoint_sum_words false blank e) l);
}
