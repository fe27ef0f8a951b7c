-- Sets that two steps add to.
use Rattle.std.specs.Prelude.{◌≡◌, Bool, true, false, ◌||◌, refl}
use Rattle.std.proofs.Common.{ap, ◌∙◌}

regrouped : (p q k : Bool) → (p || (q || k)) ≡ ((p || q) || k)
regrouped true q k = refl
regrouped false q k = refl

pub marked_twice : (p q k all some : Bool) → all ≡ (p || some) → some ≡ (q || k) → all ≡ ((p || q) || k)
marked_twice p q k all some h g = h ∙ ap (λ b. p || b) g ∙ regrouped p q k
