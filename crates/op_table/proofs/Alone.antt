-- How a seat's cells go on.
use Rattle.std.proofs.Common.{◌≡◌, ◌≢◌, ℕ, zero, suc, ◌<◌, ◌≤◌, ◌==◌, ◌||◌, Bool, true, false, List, [], ◌∷◌, length, take, drop, ◌⊎◌, Some, inl, inr, ⊎_elim, refl, sym, ap, ◌∙◌, arith, if◌then◌else◌, eqb-true}
use Rattle.std.specs.Prelude.{slice_index, slice_set}
use Rattle.operations.specs.declared.op.Op.{Op}
use Rattle.operations.specs.declared.op.Op.TheVariants.{Store, Bump}
use Rattle.op_table.specs.declared.view.View.{View}
use Rattle.ring_core.specs.Ring.{ring_add}
use Rattle.operations.specs.Ops.{cell_of, acts, acts_all}
use Rattle.operations.specs.Due.{IsDue, IsStoreDue}
use Rattle.operations.proofs.OpLaws.{acts_all-append}
use Rattle.operations.proofs.Orders.{take_next, drop_next}
use Rattle.operations.proofs.Dues.{length_acts_all}
use Rattle.op_table.specs.Rule.{lists, position_of, advance, Work}
use Rattle.op_table.specs.Plays.{IsNext, cells_alone, view_after}
use Rattle.op_table.specs.Seats.{rewound}
use Rattle.op_table.proofs.Rule.{position_advance_here}

pub alone_went : (d : Work) (k : ℕ) (v : View) (o : Op) → IsNext d k v o → cells_alone d k (view_after k v) ≡ acts o (cells_alone d k v)
alone_went d k v o due =
    ap (λ (n : ℕ). acts_all (take n (d.ops k)) d.opening) (position_advance_here k v.held due.listed)
    ∙ (ap (λ (l : List Op). acts_all l d.opening) (take_next (d.ops k) (position_of k v.held) o due.rest due.first)
    ∙ acts_all-append (take (position_of k v.held) (d.ops k)) (o ∷ []) d.opening)

pub due_went : (d : Work) (k : ℕ) (v : View) (o : Op) → IsNext d k v o → drop (position_of k (advance k v.held)) (d.ops k) ≡ drop 1 (drop (position_of k v.held) (d.ops k))
due_went d k v o due =
    ap (λ (n : ℕ). drop n (d.ops k)) (position_advance_here k v.held due.listed)
    ∙ (drop_next (d.ops k) (position_of k v.held) o due.rest due.first
    ∙ ap (drop 1) (sym due.first))

pub due_here : (d : Work) (k : ℕ) (v : View) (o : Op) → lists k v.held ≡ true → cell_of o < length (cells_alone d k v) → IsDue (Some (drop (position_of k v.held) (d.ops k))) o → IsNext d k v o
due_here d k v o l inside is = record { rest = is.0; listed = l; first = is.1; inside = let e = length_acts_all (take (position_of k v.held) (d.ops k)) d.opening in omega arith }

pub store_here : (d : Work) (k p x : ℕ) (v : View) → lists k v.held ≡ true → p < length (cells_alone d k v) → IsStoreDue (cells_alone d k v) (Some (drop (position_of k v.held) (d.ops k))) p x
    → IsNext d k v (Store p x) ⊎ ((a : ℕ) × IsNext d k v (Bump p a) × (x ≡ ring_add (slice_index (cells_alone d k v) p) a))
store_here d k p x v l inside is = ⊎_elim
    (λ (e : drop (position_of k v.held) (d.ops k) ≡ Store p x ∷ is.0). inl (due_here d k v (Store p x) l inside (is.0, e)))
    (λ (e : (a : ℕ) × (drop (position_of k v.held) (d.ops k) ≡ Bump p a ∷ is.0) × (x ≡ ring_add (slice_index (cells_alone d k v) p) a)). inr (e.0, due_here d k v (Bump p e.0) l inside (is.0, e.1), e.2))
    is.1

-- what a store leaves
pub stored_cells : (d : Work) (k p x : ℕ) (v : View) → (IsNext d k v (Store p x) ⊎ ((a : ℕ) × IsNext d k v (Bump p a) × (x ≡ ring_add (slice_index (cells_alone d k v) p) a))) → cells_alone d k (view_after k v) ≡ slice_set (cells_alone d k v) p x
stored_cells d k p x v due = ⊎_elim
    (λ (t : IsNext d k v (Store p x)). alone_went d k v (Store p x) t)
    (λ (t : (a : ℕ) × IsNext d k v (Bump p a) × (x ≡ ring_add (slice_index (cells_alone d k v) p) a)). alone_went d k v (Bump p t.0) t.1 ∙ ap (slice_set (cells_alone d k v) p) (sym t.2))
    due

pub stored_due : (d : Work) (k p x : ℕ) (v : View) → (IsNext d k v (Store p x) ⊎ ((a : ℕ) × IsNext d k v (Bump p a) × (x ≡ ring_add (slice_index (cells_alone d k v) p) a))) → drop (position_of k (advance k v.held)) (d.ops k) ≡ drop 1 (drop (position_of k v.held) (d.ops k))
stored_due d k p x v due = ⊎_elim
    (λ (t : IsNext d k v (Store p x)). due_went d k v (Store p x) t)
    (λ (t : (a : ℕ) × IsNext d k v (Bump p a) × (x ≡ ring_add (slice_index (cells_alone d k v) p) a)). due_went d k v (Bump p t.0) t.1)
    due

blank_one : (k x y : ℕ) (b : Bool) → (k == x) ≡ b → (if k == x then 0 else (if k == x then suc y else y)) ≡ (if k == x then 0 else y)
blank_one k x y true e = rw e refl
blank_one k x y false e = rw e refl

pub blank_advance : (k : ℕ) (es : List (ℕ × ℕ)) → rewound k (advance k es) ≡ rewound k es
blank_advance k [] = refl
blank_advance k (e ∷ es) = λ i. (e.0, blank_one k e.0 e.1 (k == e.0) refl i) ∷ blank_advance k es i

lists_rewound : (j k : ℕ) (es : List (ℕ × ℕ)) → lists j (rewound k es) ≡ lists j es
lists_rewound j k [] = refl
lists_rewound j k (e ∷ es) = ap (λ (b : Bool). (j == e.0) || b) (lists_rewound j k es)

position_one : (j k x y m n : ℕ) (b c : Bool) → (j == x) ≡ b → (k == x) ≡ c → j ≢ k → m ≡ n → (if j == x then (if k == x then 0 else y) else m) ≡ (if j == x then y else n)
position_one j k x y m n true true tj tk ne e = absurd (ne (eqb-true j x tj ∙ sym (eqb-true k x tk)))
position_one j k x y m n true false tj tk ne e = rw tj (rw tk refl)
position_one j k x y m n false c tj tk ne e = rw tj e

position_rewound : (j k : ℕ) (es : List (ℕ × ℕ)) → j ≢ k → position_of j (rewound k es) ≡ position_of j es
position_rewound j k [] ne = refl
position_rewound j k (e ∷ es) ne = position_one j k e.0 e.1 (position_of j (rewound k es)) (position_of j es) (j == e.0) (k == e.0) refl refl ne (position_rewound j k es ne)

-- two lists that differ at most in the position of one chunk
pub same_lists : (k : ℕ) (xs ys : List (ℕ × ℕ)) → rewound k xs ≡ rewound k ys → (j : ℕ) → lists j xs ≡ lists j ys
same_lists k xs ys b j = sym (lists_rewound j k xs) ∙ (ap (lists j) b ∙ lists_rewound j k ys)

pub same_position : (k : ℕ) (xs ys : List (ℕ × ℕ)) → rewound k xs ≡ rewound k ys → (j : ℕ) → j ≢ k → position_of j xs ≡ position_of j ys
same_position k xs ys b j ne = sym (position_rewound j k xs ne) ∙ (ap (position_of j) b ∙ position_rewound j k ys ne)

-- with nothing due, a chunk is at its end
pub at_end : (os : List Op) (i : ℕ) → drop i os ≡ [] → length os ≤ i
at_end [] i e = omega arith
at_end (o ∷ os) zero e = absurd (let f : o ∷ os ≡ [] = e in cc)
at_end (o ∷ os) (suc i) e = let h = at_end os i e in omega arith
