-- Tests that tell less than a derivation.
use Rattle.std.specs.Prelude.{Bool, true, ◌||◌, is_some, List, [], ◌∷◌}
use Rattle.index_forms.specs.Form.{Form}
use Rattle.index_knowledge.specs.Knowledge.{KnownPair}
use Rattle.certificate_rules.specs.Surveys.{Survey}
use Rattle.certificate_rules.specs.Plain.{line_for, by_fact, by_facts, by_elements}
use Rattle.disjoint_prover.specs.FactRules.{by_differences}

-- the first of a fact's differences has a line
abbrev pub may_close : KnownPair → List Form → Bool
may_close p [] = true
may_close p (g ∷ gs) = is_some (line_for p g)

-- one of the cases holds, those without facts being first
abbrev pub is_closed : Survey → KnownPair → Bool
is_closed s p = is_some (by_differences s p) || (is_some (by_facts (by_fact s p) 1 s.facts) || is_some (by_facts (by_elements s p) 1 s.facts))
