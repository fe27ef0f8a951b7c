use Rattle.std.proofs.Common.{ap, sym, ◌∙◌}
use Rattle.footprint.specs.Standing.{Table}
use Rattle.footprint.proofs.Told.{none_told, some_told}
use Rattle.footprint.proofs.footprint.Footprint.conflict.Goals as goal

pub returns-in-Some : goal.returns-in-Some
returns-in-Some c = λ line ts s.
    c.found.ensures ∙ some_told c.args.self.now line ts s c.in-Some.place (sym (ap (λ (t : Table). t.least) c.self.view_is) ∙ c.in-Some.is)

pub returns-in-None : goal.returns-in-None
returns-in-None c = λ line ts s. none_told c.args.self.now line ts s (sym (ap (λ (t : Table). t.least) c.self.view_is) ∙ c.in-None.is)
