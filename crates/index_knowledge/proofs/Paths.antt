-- Where one path is longer.
use Rattle.std.proofs.Common.{◌≡◌, ℕ, zero, suc, ◌<◌, ◌≤◌, false, List, [], ◌∷◌, drop, length, refl, ap, ◌∙◌, arith}
use Rattle.std.proofs.lemmas.List.{drop_all}
use Rattle.fl_types.specs.declared.access.PathStep.{PathStep}
use Rattle.index_knowledge.specs.Knowledge.{is_prefix}

left : (p : List PathStep) (i : ℕ) → i < length p → is_prefix (drop i p) [] ≡ false
left [] i h = absurd (omega arith)
left (s ∷ p) zero h = refl
left (s ∷ p) (suc i) h = left p i (omega arith)

pub longer : (p q : List PathStep) (i : ℕ) → i < length p → length q ≤ i → is_prefix (drop i p) (drop i q) ≡ false
longer p q i h k = ap (is_prefix (drop i p)) (drop_all i q k) ∙ left p i h
