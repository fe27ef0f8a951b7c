use Rattle.std.proofs.Common.{◌≡◌, ◌-◌, suc, length}
use Rattle.index_forms.specs.Listed.{forms_seen, all_forms_seen}
use Rattle.index_forms.specs.Scenes.{is_fixed_there}
use Rattle.certificate_rules.specs.Plain.{least_read}
use Rattle.disjoint_prover.specs.Aparts.{read_by}
use Rattle.disjoint_prover.proofs.elements.least_read.Given as goal

abbrev pub invariant-loop-i : goal.invariant-loop-i
invariant-loop-i l =
    least_read (read_by (is_fixed_there l.scene) l.accesses (all_forms_seen l.side)) l.name (forms_seen l.forms) 1 (length l.accesses)
    ≡ least_read (read_by (is_fixed_there l.scene) l.accesses (all_forms_seen l.side)) l.name (forms_seen l.forms) (suc l.i) (length l.accesses - l.i)
