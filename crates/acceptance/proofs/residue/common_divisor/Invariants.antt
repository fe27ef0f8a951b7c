use Rattle.std.proofs.Common.{map, drop}
use Rattle.index_forms.specs.Seen.{term_tree, terms_of}
use Rattle.certificate_rules.specs.Accepted.{IsGcdOf}
use Rattle.acceptance.proofs.residue.common_divisor.Given as goal

abbrev pub invariant-loop-i : goal.invariant-loop-i
invariant-loop-i l = IsGcdOf l.g (terms_of (map term_tree (drop l.i l.terms)))
