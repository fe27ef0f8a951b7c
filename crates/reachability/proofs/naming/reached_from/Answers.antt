use Rattle.std.proofs.Common.{◌∙◌}
use Rattle.reachability.proofs.naming.reached_from.Goals as goal

pub returns : goal.returns
returns c = λ es l. c.reached_names.ensures c.args.roots.now es (c.as_slice.ensures ∙ c.in_ok-nodes.ensures) l
