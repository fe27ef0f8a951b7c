use Rattle.std.proofs.Common.{rules, ◌≡◌, ap, sym, ◌∙◌}
use Rattle.known_names.specs.Found.{found}
use Rattle.known_names.proofs.declared.Declared.get.Goals as goal

pub returns-in-Some : goal.returns-in-Some
returns-in-Some c =
    let h : Rattle.std.proofs.Common.Some c.in-Some.decl.now.now ≡ found c.bytes.result.now c.self.inside.first = search rules in
    search rules
