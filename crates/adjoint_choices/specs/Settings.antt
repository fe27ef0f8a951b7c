-- What the names that the code goes by stand for.
use Rattle.fl_types.specs.Sharing.{has_name, is_ring_name}
use Rattle.adjoint_rules.specs.Needed.{Kinds}
use Rattle.adjoint_choices.specs.declared.choices.Names.{Names}
use Rattle.adjoint_choices.specs.Walked.{Setting}

abbrev pub kinds_of_names : Names → Kinds
kinds_of_names n = record { active = λ x. has_name x n.active.now.names; ring = is_ring_name n.decls.now }

abbrev pub setting_of : Names → Setting
setting_of n = record { decls = n.decls.now; kinds = kinds_of_names n; names = n.in_order.now }
