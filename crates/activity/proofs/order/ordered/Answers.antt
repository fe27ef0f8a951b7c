use Rattle.std.proofs.Common.{◌∙◌, ap}
use Rattle.fl_types.specs.Sharing.{has_name}
use Rattle.activity.specs.Order.{are_ordered}
use Rattle.activity.proofs.Ordered.{has_all, all_ordered}
use Rattle.activity.proofs.order.ordered.Goals as goal

pub returns-clause-members : goal.returns-clause-members
returns-clause-members c = λ x. ap (has_name x) (c.from_vec.ensures ∙ c.in_ok-all.ensures) ∙ has_all x c.args.names

pub returns-clause-ordered : goal.returns-clause-ordered
returns-clause-ordered c = ap are_ordered (c.from_vec.ensures ∙ c.in_ok-all.ensures) ∙ all_ordered c.args.names
