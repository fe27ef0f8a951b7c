use Rattle.std.proofs.Common.{ℕ, List, [], ◌∷◌, ◌++◌, ap, ◌∙◌}
use Rattle.index_forms.specs.declared.origin.Origin.TheVariants.{Turn}
use Rattle.index_forms.specs.declared.origin.Entry.{Entry}
use Rattle.index_forms.proofs.KnownNames.{turn_said}
use Rattle.index_forms.proofs.known.push_turn.Goals as goal

pub returns : goal.returns
returns c =
    turn_said c.args.scene.now c.args.entries.now c.push.new.self c.args.var.now c.args.number
    (c.in_ok-push.ensures.ok ∙ ap (λ (x : List ℕ). c.args.entries.now ++ (let e : Entry = record { name = x; origin = Turn c.args.number } in e) ∷ []) c.in_ok-name.ensures)
