-- How facts are used, and the cases together.
use Rattle.std.specs.Prelude.{ℕ, Option}
use Rattle.index_knowledge.specs.Knowledge.{KnownFact, KnownPair}
use Rattle.certificate_rules.specs.Derivations.{Derived}
use Rattle.certificate_rules.specs.Surveys.{Survey}
use Rattle.certificate_rules.specs.Disjoint.{is_nested}
use Rattle.certificate_rules.specs.Plain.{or_else, by_fact, by_elements, by_distinct, by_residue, by_range}
use Rattle.disjoint_prover.specs.declared.plain.FactRule.{FactRule}
use Rattle.disjoint_prover.specs.declared.plain.FactRule.TheVariants.{Lines, Elements}

abbrev pub derive : FactRule → Survey → KnownPair → ℕ → KnownFact → Option Derived
derive Lines s p = by_fact s p
derive Elements s p = by_elements s p

-- by one of the pair's own differences
abbrev pub by_differences : Survey → KnownPair → Option Derived
by_differences s p = or_else (by_distinct (is_nested p) p) (or_else (by_residue p) (by_range s p))
