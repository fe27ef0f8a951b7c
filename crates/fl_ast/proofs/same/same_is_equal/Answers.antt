use Rattle.fl_ast.proofs.SameLemmas.{same_is_equal}
use Rattle.fl_ast.proofs.same.same_is_equal.Goals as goal

pub returns : goal.returns
returns c = same_is_equal
