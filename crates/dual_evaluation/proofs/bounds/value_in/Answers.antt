use Rattle.std.proofs.Common.{◌≡◌, rules, ap, ◌∙◌, pos, ◌+ℤ◌, ◌*ℤ◌, w32, to_z, of_z}
use Rattle.std.proofs.lemmas.Int.{to_z-of_z}
use Rattle.dual_evaluation.proofs.Counts.{from_range}
use Rattle.dual_evaluation.proofs.bounds.value_in.Goals as goal

pub returns : goal.returns
returns c =
    let e : c.narrow.result ≡ c.args.first +ℤ (pos c.args.turn *ℤ c.args.step) = search rules in
    ap (λ z. to_z w32 (of_z w32 z)) e ∙ to_z-of_z w32 (c.args.first +ℤ (pos c.args.turn *ℤ c.args.step)) (from_range (c.args.first +ℤ (pos c.args.turn *ℤ c.args.step)) c.requires)
