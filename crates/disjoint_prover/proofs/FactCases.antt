-- A stated derivation is accepted.
use Rattle.std.proofs.Common.{◌≡◌, Option, Some, None, IfSome, rules, sym}
use Rattle.std.specs.Prelude.{option_map}
use Rattle.certificate.specs.declared.derivation.Derivation.{Derivation}
use Rattle.index_knowledge.specs.Knowledge.{KnownPair}
use Rattle.certificate_rules.specs.Surveys.{Survey}
use Rattle.certificate_rules.specs.Accepted.{Accepted}
use Rattle.certificate_rules.specs.Plain.{stated}
use Rattle.certificate_rules.proofs.Stating.{stated-accepted}
use Rattle.acceptance.specs.Told.{derivation_told}

pub accepted_where : (s : Survey) (p : KnownPair) (o : Option Derivation) → option_map derivation_told o ≡ stated s p → IfSome o (λ d. Accepted s p (derivation_told d))
accepted_where s p None e = search rules
accepted_where s p (Some d) e = (let w : Accepted s p (derivation_told d) = stated-accepted s p (derivation_told d) (sym e) in search (rules, w))
