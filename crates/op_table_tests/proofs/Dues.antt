-- What is due along an iteration.
use Rattle.std.proofs.Common.{◌≡◌, ◌≢◌, ℕ, zero, suc, ◌+◌, ◌*◌, ◌<◌, List, [], ◌∷◌, ◌++◌, length, drop, get_or, Option, Some, None, inl, inr, refl, ap, sym, ◌∙◌, subst, arith}
use Rattle.std.specs.Prelude.{slice_index}
use Rattle.ring_core.specs.Ring.{ring_add}
use Rattle.operations.specs.declared.op.Op.{Op}
use Rattle.operations.specs.declared.op.Op.TheVariants.{Store, Bump, Add}
use Rattle.operations.specs.Ops.{acts, acts_all}
use Rattle.operations.specs.Due.{IsDue, IsStoreDue, AllDue, due_after}
use Rattle.operations.proofs.OpLaws.{read_other}
use Rattle.op_table_tests.specs.Listed.{iteration}

-- ---- what is due

pub first_due : (d : Option (List Op)) (o : Op) (os : List Op) → AllDue d (o ∷ os) → IsDue d o
first_due None o os h = tt
first_due (Some ds) o os h = (os ++ h.0, h.1)

rest_due_of : (d : Option (List Op)) (o : Op) (os : List Op) → AllDue d (o ∷ os) → AllDue (due_after d 1) os
rest_due_of None o os h = tt
rest_due_of (Some ds) o os h = (h.0, ap (drop 1) h.1)

pub rest_due : (d d' : Option (List Op)) (o : Op) (os : List Op) → d' ≡ due_after d 1 → AllDue d (o ∷ os) → AllDue d' os
rest_due d d' o os e h = subst (λ x. AllDue x os) (sym e) (rest_due_of d o os h)

pub bump_due : (c : List ℕ) (d : Option (List Op)) (p a x : ℕ) (os : List Op) → x ≡ ring_add (slice_index c p) a → AllDue d (Bump p a ∷ os) → IsStoreDue c d p x
bump_due c None p a x os e h = tt
bump_due c (Some ds) p a x os e h = (os ++ h.0, inr (a, h.1, e))

pub store_due : (c : List ℕ) (d : Option (List Op)) (p v x : ℕ) (os : List Op) → x ≡ v → AllDue d (Store p v ∷ os) → IsStoreDue c d p x
store_due c None p v x os e h = tt
store_due c (Some ds) p v x os e h = (os ++ h.0, inl (h.1 ∙ ap (λ y. Store p y ∷ os ++ h.0) (sym e)))

drop_four : (ds : List Op) → drop 1 (drop 1 (drop 1 (drop 1 ds))) ≡ drop 4 ds
drop_four [] = refl
drop_four (a ∷ []) = refl
drop_four (a ∷ b ∷ []) = refl
drop_four (a ∷ b ∷ c ∷ []) = refl
drop_four (a ∷ b ∷ c ∷ d ∷ ds) = refl

four_due : (d : Option (List Op)) → due_after (due_after (due_after (due_after d 1) 1) 1) 1 ≡ due_after d 4
four_due None = refl
four_due (Some ds) = ap (λ l. Some l) (drop_four ds)

pub after_four : (d d1 d2 d3 d4 : Option (List Op)) → d1 ≡ due_after d 1 → d2 ≡ due_after d1 1 → d3 ≡ due_after d2 1 → d4 ≡ due_after d3 1 → d4 ≡ due_after d 4
after_four d d1 d2 d3 d4 a b c e = e ∙ (λ i. due_after (c i) 1) ∙ (λ i. due_after (due_after (b i) 1) 1) ∙ (λ i. due_after (due_after (due_after (a i) 1) 1) 1) ∙ four_due d

-- an iteration leaves the cells of the next one
pub untouched : (xs ts c : List ℕ) (s i p : ℕ) → p ≢ 2 * i → p ≢ 2 * i + 1 → p ≢ s → slice_index (acts_all (iteration xs ts s i) c) p ≡ slice_index c p
untouched xs ts c s i p a b e =
    let o1 = Bump (2 * i) (slice_index ts i) in
    let o2 = Store (2 * i + 1) (slice_index xs (2 * i)) in
    let o3 = Add s (slice_index xs (2 * i)) in
    read_other o3 p (acts o2 (acts o1 c)) e ∙ (read_other o2 p (acts o1 c) b ∙ read_other o1 p c a)

pub index_any : (xs : List ℕ) (i d : ℕ) → i < length xs → get_or xs i d ≡ get_or xs i 0
index_any [] i d lt = absurd (omega arith)
index_any (x ∷ xs) zero d lt = refl
index_any (x ∷ xs) (suc i) d lt = index_any xs i d (omega arith)
