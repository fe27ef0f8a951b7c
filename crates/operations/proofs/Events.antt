-- Events in any order lead to the joint state.
use Rattle.std.proofs.Common.{◌≡◌, ◌≢◌, ℕ, ◌<◌, List, [], ◌∷◌, drop, refl, sym, ap, ◌∙◌, subst, Some, None, eq-eqb, ne_eqb}
use mathlib.Core.Logic.{dite}
use native.Mathlib.Decide.{ℕ_discrete}
use Rattle.operations.specs.declared.op.Op.{Op}
use Rattle.operations.specs.Ops.{acts_all}
use Rattle.operations.specs.Order.{in_order, IsDisciplined, joint_cells, Machine, put, next, steps, AllBelow, Follows, AllEnded}
use Rattle.operations.specs.Holders.{Crew, Event, claims, makes, crew_after, crew_after_all, MayHappen, AllMayHappen, crew_start, AllEventsBelow}
use Rattle.operations.proofs.Orders.{went_else, any_order, any_end}

-- the lists whose operations are made
abbrev makers : List Event → List ℕ
makers [] = []
makers (claims k w ∷ es) = makers es
makers (makes k ∷ es) = k ∷ makers es

makers_below : (n : ℕ) (es : List Event) → AllEventsBelow n es → AllBelow n (makers es)
makers_below n [] h = tt
makers_below n (claims k w ∷ es) h = makers_below n es h.1
makers_below n (makes k ∷ es) h = (h.0, makers_below n es h.1)

-- lists that nobody holds are at their starts
abbrev FreeStarts : Crew → Type 0
FreeStarts m = (j : ℕ) → m.holder j ≡ None → m.machine.at j ≡ 0

next_else : (k j : ℕ) (os : List Op) (m : Machine) → j ≢ k → (next k os m).at j ≡ m.at j
next_else k j [] m ne = refl
next_else k j (o ∷ os) m ne = went_else k m.at j ne

some_none : (w : ℕ) → Some w ≡ None → ⊥
some_none w e = cc

starts_after : (ops : ℕ → List Op) (e : Event) (m : Crew) → MayHappen ops e m → FreeStarts m → FreeStarts (crew_after ops e m)
starts_after ops (claims k w) m may h j free = dite (ℕ_discrete j k)
    (λ e. absurd (some_none w (sym (rw (eq-eqb j k e) refl) ∙ free)))
    (λ ne. rw (ne_eqb j k ne) (h j (sym (rw (ne_eqb j k ne) refl) ∙ free)))
starts_after ops (makes k) m may h j free =
    let ne : j ≢ k = λ e. some_none may.0 (sym may.1 ∙ (ap m.holder (sym e) ∙ free)) in
    next_else k j (drop (m.machine.at k) (ops k)) m.machine ne ∙ h j free

-- a claim leaves the positions
put_point : (k : ℕ) (at : ℕ → ℕ) → at k ≡ 0 → (j : ℕ) → put k 0 at j ≡ at j
put_point k at e j = dite (ℕ_discrete j k) (λ q. rw (eq-eqb j k q) (sym (ap at q ∙ e))) (λ ne. rw (ne_eqb j k ne) refl)

put_same : (k : ℕ) (at : ℕ → ℕ) → at k ≡ 0 → put k 0 at ≡ at
put_same k at e = λ i j. put_point k at e j i

pub as_steps : (ops : ℕ → List Op) (es : List Event) (m : Crew) → AllMayHappen ops es m → FreeStarts m → (crew_after_all ops es m).machine ≡ steps ops (makers es) m.machine
as_steps ops [] m may h = refl
as_steps ops (claims k w ∷ es) m may h =
    as_steps ops es (crew_after ops (claims k w) m) may.1 (starts_after ops (claims k w) m may.0 h)
    ∙ ap (steps ops (makers es)) (λ i. record { cells = m.machine.cells; at = put_same k m.machine.at (h k may.0) i; last = m.machine.last })
as_steps ops (makes k ∷ es) m may h = as_steps ops es (crew_after ops (makes k) m) may.1 (starts_after ops (makes k) m may.0 h)

pub events_joint : (ops : ℕ → List Op) (n : ℕ) (c : List ℕ) (es : List Event) → IsDisciplined ops n → ((k : ℕ) → k < n → Follows (ops k)) → AllEventsBelow n es → AllMayHappen ops es (crew_start c)
    → (crew_after_all ops es (crew_start c)).machine.cells ≡ joint_cells ops (crew_after_all ops es (crew_start c)).machine.at n c
events_joint ops n c es d f below may =
    let same = as_steps ops es (crew_start c) may (λ j free. refl) in
    subst (λ (m : Machine). m.cells ≡ joint_cells ops m.at n c) (sym same) (any_order ops n c (makers es) d f (makers_below n es below))

pub events_end : (ops : ℕ → List Op) (n : ℕ) (c : List ℕ) (es : List Event) → IsDisciplined ops n → ((k : ℕ) → k < n → Follows (ops k)) → AllEventsBelow n es → AllMayHappen ops es (crew_start c)
    → AllEnded ops (crew_after_all ops es (crew_start c)).machine.at n → (crew_after_all ops es (crew_start c)).machine.cells ≡ acts_all (in_order ops n) c
events_end ops n c es d f below may ended =
    let same = as_steps ops es (crew_start c) may (λ j free. refl) in
    subst (λ (m : Machine). AllEnded ops m.at n → m.cells ≡ acts_all (in_order ops n) c) (sym same) (any_end ops n c (makers es) d f (makers_below n es below)) ended
