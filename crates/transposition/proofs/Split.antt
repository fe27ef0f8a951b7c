-- Reaching a place: a cell, or a word of the iteration's own.
use Rattle.std.proofs.Common.{◌≡◌, ℕ, zero, suc, ◌+◌, ◌-◌, ◌<◌, ◌≤◌, List, [], ◌∷◌, ◌++◌, refl, ap, sym, ◌∙◌, arith, length, take, drop, Bool, true, false, cond, Option, Some}
use Rattle.std.specs.Prelude.{slice_index, slice_set, nat_lt}
use Rattle.std.proofs.lemmas.Bool.Decides.{nat_tests}
use Rattle.std.proofs.lemmas.List.{get_or_append_left, get_or-take, get_or-drop, get_or-append-add, set-append_left, set-append_right, drop-set-lt, drop-set-add, take-set-le, length-take-le}
use Rattle.ring_core.specs.Ring.{ring_add}
use Rattle.fl_types.specs.declared.choice.Choice.{Choice}
use Rattle.operations.specs.declared.op.Op.{Op}
use Rattle.operations.specs.declared.op.Op.TheVariants.{Load, Store, Bump, Add}
use Rattle.operations.specs.Tree.{done, loads, does, Played, play}
use Rattle.transposition.specs.Tapes.{Tape}
use Rattle.transposition.specs.Worlds.{World, with_own_value, with_own_adjoint, value_load, adjoint_load, with_value, with_adjoint, value_store, adjoint_store, addition, is_one_step, adjoint_increment, value_increment}
use Rattle.transposition.specs.Law.{flat, local}

pub less : (p n : ℕ) → nat_lt p n ≡ true → p < n
less p n h = grind (arith, nat_tests)

pub not_less : (p n : ℕ) → nat_lt p n ≡ false → n ≤ p
not_less p n h = grind (arith, nat_tests)

pub is_less : (p n : ℕ) → p < n → nat_lt p n ≡ true
is_less p n h = grind (arith, nat_tests)

pub is_not_less : (p n : ℕ) → n ≤ p → nat_lt p n ≡ false
is_not_less p n h = grind (arith, nat_tests)

-- ---- words in the flat list

pub value_cell : (n p : ℕ) (vs bs : List ℕ) → n ≤ length vs → p < n → slice_index (flat n vs bs) p ≡ slice_index vs p
value_cell n p vs bs h k = get_or_append_left (take n vs) (take n bs) 0 p (let e = length-take-le n vs h in omega arith) ∙ get_or-take n vs p 0 k

pub adjoint_cell : (n p : ℕ) (vs bs : List ℕ) → n ≤ length vs → p < n → slice_index (flat n vs bs) (n + p) ≡ slice_index bs p
adjoint_cell n p vs bs h k =
    ap (λ (m : ℕ). slice_index (flat n vs bs) (m + p)) (sym (length-take-le n vs h)) ∙ (get_or-append-add (take n vs) (take n bs) p 0 ∙ get_or-take n bs p 0 k)

pub own_word : (n p : ℕ) (vs : List ℕ) → n ≤ p → slice_index (drop n vs) (p - n) ≡ slice_index vs p
own_word n p vs h = get_or-drop n vs (p - n) 0 ∙ ap (λ (m : ℕ). slice_index vs m) (omega arith)

set_take : (n p x : ℕ) (vs : List ℕ) → slice_set (take n vs) p x ≡ take n (slice_set vs p x)
set_take zero p x vs = refl
set_take (suc n) p x [] = refl
set_take (suc n) zero x (v ∷ vs) = refl
set_take (suc n) (suc p) x (v ∷ vs) = ap (λ (l : List ℕ). v ∷ l) (set_take n p x vs)

pub set_value_cell : (n p x : ℕ) (vs bs : List ℕ) → n ≤ length vs → p < n → slice_set (flat n vs bs) p x ≡ flat n (slice_set vs p x) bs
set_value_cell n p x vs bs h k =
    set-append_left (take n vs) (take n bs) p x (let e = length-take-le n vs h in omega arith) ∙ ap (λ (l : List ℕ). l ++ take n bs) (set_take n p x vs)

pub set_adjoint_cell : (n p x : ℕ) (vs bs : List ℕ) → n ≤ length vs → p < n → slice_set (flat n vs bs) (n + p) x ≡ flat n vs (slice_set bs p x)
set_adjoint_cell n p x vs bs h k =
    set-append_right (take n vs) (take n bs) n (n + p) x (length-take-le n vs h) (omega arith)
    ∙ (ap (λ (m : ℕ). take n vs ++ slice_set (take n bs) m x) (omega arith) ∙ ap (λ (l : List ℕ). take n vs ++ l) (set_take n p x bs))

pub set_own : (n p x : ℕ) (vs : List ℕ) → n ≤ p → slice_set (drop n vs) (p - n) x ≡ drop n (slice_set vs p x)
set_own n p x vs h = sym (drop-set-add n vs (p - n) x) ∙ ap (λ (m : ℕ). drop n (slice_set vs m x)) (omega arith)

pub own_kept : (n p x : ℕ) (vs : List ℕ) → p < n → drop n vs ≡ drop n (slice_set vs p x)
own_kept n p x vs h = sym (drop-set-lt n vs p x h)

pub cells_kept : (n p x : ℕ) (vs : List ℕ) → n ≤ p → take n vs ≡ take n (slice_set vs p x)
cells_kept n p x vs h = sym (take-set-le n vs p x h)

-- ---- trees

abbrev pub before : {A : Type 0} → List Op → Played A → Played A
before os r = record { out = r.out; cells = r.cells; ops = os ++ r.ops }

abbrev pub played : {A : Type 0} → A → List ℕ → List Op → Played A
played a c os = record { out = a; cells = c; ops = os }

abbrev pub reading : (n p q : ℕ) → List Op
reading n p q = cond (nat_lt p n) (Load q ∷ []) []

pub value_at_played : (w : World) (t : Tape) (p : ℕ) (vs bs : List ℕ) → w.shared ≤ length vs
    → play (value_load w (local w.shared t vs bs) p) (flat w.shared vs bs) ≡ played (slice_index vs p) (flat w.shared vs bs) (reading w.shared p p)
value_at_played w t p vs bs h = by_test (nat_lt p w.shared) refl
  where
    by_test : (b : Bool) → nat_lt p w.shared ≡ b
        → play (cond b (loads p (λ x. done x)) (done (slice_index (drop w.shared vs) (p - w.shared)))) (flat w.shared vs bs) ≡ played (slice_index vs p) (flat w.shared vs bs) (cond b (Load p ∷ []) [])
    by_test true e = ap (λ (x : ℕ). played x (flat w.shared vs bs) (Load p ∷ [])) (value_cell w.shared p vs bs h (less p w.shared e))
    by_test false e = ap (λ (x : ℕ). played x (flat w.shared vs bs) []) (own_word w.shared p vs (not_less p w.shared e))

pub adjoint_at_played : (w : World) (t : Tape) (p : ℕ) (vs bs : List ℕ) → w.shared ≤ length vs
    → play (adjoint_load w (local w.shared t vs bs) p) (flat w.shared vs bs) ≡ played (slice_index bs p) (flat w.shared vs bs) (reading w.shared p (w.shared + p))
adjoint_at_played w t p vs bs h = by_test (nat_lt p w.shared) refl
  where
    by_test : (b : Bool) → nat_lt p w.shared ≡ b
        → play (cond b (loads (w.shared + p) (λ x. done x)) (done (slice_index (drop w.shared bs) (p - w.shared)))) (flat w.shared vs bs) ≡ played (slice_index bs p) (flat w.shared vs bs) (cond b (Load (w.shared + p) ∷ []) [])
    by_test true e = ap (λ (x : ℕ). played x (flat w.shared vs bs) (Load (w.shared + p) ∷ [])) (adjoint_cell w.shared p vs bs h (less p w.shared e))
    by_test false e = ap (λ (x : ℕ). played x (flat w.shared vs bs) []) (own_word w.shared p bs (not_less p w.shared e))

abbrev pub making : (n p : ℕ) → Op → List Op
making n p o = cond (nat_lt p n) (o ∷ []) []

pub set_value_played : (w : World) (t : Tape) (p x : ℕ) (vs bs : List ℕ) → w.shared ≤ length vs
    → play (value_store w p x (local w.shared t vs bs)) (flat w.shared vs bs) ≡ played (local w.shared t (slice_set vs p x) bs) (flat w.shared (slice_set vs p x) bs) (making w.shared p (Store p x))
set_value_played w t p x vs bs h = by_test (nat_lt p w.shared) refl
  where
    by_test : (b : Bool) → nat_lt p w.shared ≡ b
        → play (cond b (does (Store p x) (done (local w.shared t vs bs))) (done (with_value w p x (local w.shared t vs bs)))) (flat w.shared vs bs)
        ≡ played (local w.shared t (slice_set vs p x) bs) (flat w.shared (slice_set vs p x) bs) (cond b (Store p x ∷ []) [])
    by_test true e = rw (← own_kept w.shared p x vs (less p w.shared e), ← set_value_cell w.shared p x vs bs h (less p w.shared e)) refl
    by_test false e = rw (← set_own w.shared p x vs (not_less p w.shared e), ← cells_kept w.shared p x vs (not_less p w.shared e)) refl

pub set_adjoint_played : (w : World) (t : Tape) (p x : ℕ) (vs bs : List ℕ) → w.shared ≤ length vs
    → play (adjoint_store w p x (local w.shared t vs bs)) (flat w.shared vs bs) ≡ played (local w.shared t vs (slice_set bs p x)) (flat w.shared vs (slice_set bs p x)) (making w.shared p (Store (w.shared + p) x))
set_adjoint_played w t p x vs bs h = by_test (nat_lt p w.shared) refl
  where
    by_test : (b : Bool) → nat_lt p w.shared ≡ b
        → play (cond b (does (Store (w.shared + p) x) (done (local w.shared t vs bs))) (done (with_adjoint w p x (local w.shared t vs bs)))) (flat w.shared vs bs)
        ≡ played (local w.shared t vs (slice_set bs p x)) (flat w.shared vs (slice_set bs p x)) (cond b (Store (w.shared + p) x ∷ []) [])
    by_test true e = rw (← own_kept w.shared p x bs (less p w.shared e), ← set_adjoint_cell w.shared p x vs bs h (less p w.shared e)) refl
    by_test false e = rw (← set_own w.shared p x bs (not_less p w.shared e), ← cells_kept w.shared p x bs (not_less p w.shared e)) refl

-- an addition, in one step or in two
pub adds_to_played : {A : Type 0} (one : Bool) (q a : ℕ) (l : A) (c : List ℕ)
    → play (addition one q a l) c ≡ played l (slice_set c q (ring_add (slice_index c q) a)) (cond one (Add q a ∷ []) (Load q ∷ Bump q a ∷ []))
adds_to_played true q a l c = refl
adds_to_played false q a l c = refl

pub grow_adjoint_played : (w : World) (c : Choice) (t : Tape) (p a : ℕ) (vs bs : List ℕ) → w.shared ≤ length vs
    → play (adjoint_increment w c p a (local w.shared t vs bs)) (flat w.shared vs bs)
    ≡ played (local w.shared t vs (slice_set bs p (ring_add (slice_index bs p) a))) (flat w.shared vs (slice_set bs p (ring_add (slice_index bs p) a)))
    (cond (nat_lt p w.shared) (cond (is_one_step c) (Add (w.shared + p) a ∷ []) (Load (w.shared + p) ∷ Bump (w.shared + p) a ∷ [])) [])
grow_adjoint_played w c t p a vs bs h = by_test (nat_lt p w.shared) refl
  where
    x : ℕ
    x = ring_add (slice_index bs p) a

    by_test : (b : Bool) → nat_lt p w.shared ≡ b
        → play (cond b (addition (is_one_step c) (w.shared + p) a (local w.shared t vs bs)) (done (with_adjoint w p (ring_add (slice_index (drop w.shared bs) (p - w.shared)) a) (local w.shared t vs bs)))) (flat w.shared vs bs)
        ≡ played (local w.shared t vs (slice_set bs p x)) (flat w.shared vs (slice_set bs p x)) (cond b (cond (is_one_step c) (Add (w.shared + p) a ∷ []) (Load (w.shared + p) ∷ Bump (w.shared + p) a ∷ [])) [])
    by_test true e =
        adds_to_played (is_one_step c) (w.shared + p) a (local w.shared t vs bs) (flat w.shared vs bs)
        ∙ (rw (adjoint_cell w.shared p vs bs h (less p w.shared e), set_adjoint_cell w.shared p x vs bs h (less p w.shared e), own_kept w.shared p x bs (less p w.shared e)) refl)
    by_test false e =
        rw (own_word w.shared p bs (not_less p w.shared e)) (rw (← set_own w.shared p x bs (not_less p w.shared e), ← cells_kept w.shared p x bs (not_less p w.shared e)) refl)

pub grow_value_played : (w : World) (one : Bool) (t : Tape) (p a : ℕ) (vs bs : List ℕ) → w.shared ≤ length vs
    → play (value_increment w one p a (local w.shared t vs bs)) (flat w.shared vs bs)
    ≡ played (local w.shared t (slice_set vs p (ring_add (slice_index vs p) a)) bs) (flat w.shared (slice_set vs p (ring_add (slice_index vs p) a)) bs)
    (cond (nat_lt p w.shared) (cond one (Add p a ∷ []) (Load p ∷ Bump p a ∷ [])) [])
grow_value_played w one t p a vs bs h = by_test (nat_lt p w.shared) refl
  where
    x : ℕ
    x = ring_add (slice_index vs p) a

    by_test : (b : Bool) → nat_lt p w.shared ≡ b
        → play (cond b (addition one p a (local w.shared t vs bs)) (done (with_value w p (ring_add (slice_index (drop w.shared vs) (p - w.shared)) a) (local w.shared t vs bs)))) (flat w.shared vs bs)
        ≡ played (local w.shared t (slice_set vs p x) bs) (flat w.shared (slice_set vs p x) bs) (cond b (cond one (Add p a ∷ []) (Load p ∷ Bump p a ∷ [])) [])
    by_test true e =
        adds_to_played one p a (local w.shared t vs bs) (flat w.shared vs bs)
        ∙ (rw (value_cell w.shared p vs bs h (less p w.shared e), set_value_cell w.shared p x vs bs h (less p w.shared e), own_kept w.shared p x vs (less p w.shared e)) refl)
    by_test false e =
        rw (own_word w.shared p vs (not_less p w.shared e)) (rw (← set_own w.shared p x vs (not_less p w.shared e), ← cells_kept w.shared p x vs (not_less p w.shared e)) refl)

-- ---- words of places of the iteration's own

pub own_value_set : (w : World) (o : Option ℕ) (q x : ℕ) (t : Tape) (vs bs : List ℕ) → o ≡ Some q → w.shared ≤ q → with_own_value w o x (local w.shared t vs bs) ≡ local w.shared t (slice_set vs q x) bs
own_value_set w o q x t vs bs e h =
    ap (λ (o : Option ℕ). with_own_value w o x (local w.shared t vs bs)) e
    ∙ (rw (is_not_less q w.shared h) (ap (λ (l : List ℕ). record { tape = t; values = l; adjoints = drop w.shared bs }) (set_own w.shared q x vs h)))

pub own_adjoint_set : (w : World) (o : Option ℕ) (q x : ℕ) (t : Tape) (vs bs : List ℕ) → o ≡ Some q → w.shared ≤ q → with_own_adjoint w o x (local w.shared t vs bs) ≡ local w.shared t vs (slice_set bs q x)
own_adjoint_set w o q x t vs bs e h =
    ap (λ (o : Option ℕ). with_own_adjoint w o x (local w.shared t vs bs)) e
    ∙ (rw (is_not_less q w.shared h) (ap (λ (l : List ℕ). record { tape = t; values = drop w.shared vs; adjoints = l }) (set_own w.shared q x bs h)))
