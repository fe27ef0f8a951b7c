-- One step of the search for a spot.
use Rattle.std.proofs.Common.{◌≡◌, ℕ, zero, suc, ◌+◌, ◌<◌, ◌≤◌, ℤ, ◌+ℤ◌, List, [], ◌∷◌, length, take, drop, map, get_or, ◌++◌, pos, negsuc, Some, refl, sym, ap, ◌∙◌, arith}
use Rattle.std.proofs.lemmas.List.{drop_all, take-map, drop-map, take-append-drop, take_at, drop_at, length-take}
use Rattle.std.specs.declared.cmp.Ordering.{Ordering}
use Rattle.std.specs.declared.cmp.Ordering.TheVariants.{Less, Equal, Greater}
use Rattle.index_forms.specs.declared.sum.TermPlace.TheVariants.{At, Before}
use Rattle.index_forms.specs.declared.form.Atom as program
use Rattle.std.specs.List.{insert as put_at, remove, slice_get}
use Rattle.std.proofs.Math.Seq.{drop-cons}
use Rattle.index_forms.specs.Form.{Atom, Terms, term, atom_order}
use Rattle.index_forms.specs.Seen.{terms_of, atom_tree, term_tree}
use Rattle.index_forms.specs.Sums.{insert, kept}
use Rattle.index_forms.specs.Places.{joined, more_of, PlaceIs}

-- the search has come as far as i
abbrev pub Sought : Atom → List (Atom × ℤ) → ℕ → Type 0
Sought a ps i = (k : ℤ) → insert a k (terms_of ps) ≡ joined (take i ps) (insert a k (terms_of (drop i ps)))

insert-less : (a : Atom) (k : ℤ) (b : Atom) (m : ℤ) (us : Terms) → atom_order a b ≡ Less → insert a k (term b m us) ≡ kept a k (term b m us)
insert-less a k b m us w = ap (λ (o : Ordering). elim o as (λ _. Terms) [ Less ↦ kept a k (term b m us) | Equal ↦ kept b (k +ℤ m) us | Greater ↦ term b m (insert a k us) ]) w

insert-equal : (a : Atom) (k : ℤ) (b : Atom) (m : ℤ) (us : Terms) → atom_order a b ≡ Equal → insert a k (term b m us) ≡ kept b (k +ℤ m) us
insert-equal a k b m us w = ap (λ (o : Ordering). elim o as (λ _. Terms) [ Less ↦ kept a k (term b m us) | Equal ↦ kept b (k +ℤ m) us | Greater ↦ term b m (insert a k us) ]) w

insert-greater : (a : Atom) (k : ℤ) (b : Atom) (m : ℤ) (us : Terms) → atom_order a b ≡ Greater → insert a k (term b m us) ≡ term b m (insert a k us)
insert-greater a k b m us w = ap (λ (o : Ordering). elim o as (λ _. Terms) [ Less ↦ kept a k (term b m us) | Equal ↦ kept b (k +ℤ m) us | Greater ↦ term b m (insert a k us) ]) w

-- by going down the list: what an insertion into the rest is, by the order at its first
rest-less : (a : Atom) (ps : List (Atom × ℤ)) (i : ℕ) (p : Atom × ℤ) (k : ℤ) → i < length ps → get_or ps i p ≡ p → atom_order a p.0 ≡ Less → insert a k (terms_of (drop i ps)) ≡ kept a k (terms_of (drop i ps))
rest-less a [] i p k h e o = absurd (omega arith)
rest-less a (q ∷ ps) zero p k h e o = let w : atom_order a q.0 ≡ Less = ap (λ (z : Atom × ℤ). atom_order a z.0) e ∙ o in insert-less a k q.0 q.1 (terms_of ps) w
rest-less a (q ∷ ps) (suc i) p k h e o = rest-less a ps i p k (omega arith) e o

rest-equal : (a : Atom) (ps : List (Atom × ℤ)) (i : ℕ) (p : Atom × ℤ) (k : ℤ) → i < length ps → get_or ps i p ≡ p → atom_order a p.0 ≡ Equal → insert a k (terms_of (drop i ps)) ≡ more_of k (drop i ps)
rest-equal a [] i p k h e o = absurd (omega arith)
rest-equal a (q ∷ ps) zero p k h e o = let w : atom_order a q.0 ≡ Equal = ap (λ (z : Atom × ℤ). atom_order a z.0) e ∙ o in insert-equal a k q.0 q.1 (terms_of ps) w
rest-equal a (q ∷ ps) (suc i) p k h e o = rest-equal a ps i p k (omega arith) e o

joined-next : (a : Atom) (ps : List (Atom × ℤ)) (i : ℕ) (p : Atom × ℤ) (k : ℤ) → i < length ps → get_or ps i p ≡ p → atom_order a p.0 ≡ Greater →
    joined (take i ps) (insert a k (terms_of (drop i ps))) ≡ joined (take (suc i) ps) (insert a k (terms_of (drop (suc i) ps)))
joined-next a [] i p k h e o = absurd (omega arith)
joined-next a (q ∷ ps) zero p k h e o = let w : atom_order a q.0 ≡ Greater = ap (λ (z : Atom × ℤ). atom_order a z.0) e ∙ o in insert-greater a k q.0 q.1 (terms_of ps) w
joined-next a (q ∷ ps) (suc i) p k h e o = ap (term q.0 q.1) (joined-next a ps i p k (omega arith) e o)

pub sought-none : (a : Atom) (ps : List (Atom × ℤ)) → Sought a ps 0
sought-none a ps k = refl

pub sought-more : (a : Atom) (ps : List (Atom × ℤ)) (i : ℕ) (p : Atom × ℤ) → i < length ps → get_or ps i p ≡ p → atom_order a p.0 ≡ Greater → Sought a ps i → Sought a ps (i + 1)
sought-more a ps i p h e o s k = let n : i + 1 ≡ suc i = omega arith in rw n (s k ∙ joined-next a ps i p k h e o)

pub place-before : (a : Atom) (ps : List (Atom × ℤ)) (i : ℕ) (p : Atom × ℤ) → i < length ps → get_or ps i p ≡ p → atom_order a p.0 ≡ Less → Sought a ps i → PlaceIs a ps (Before i)
place-before a ps i p h e o s = (omega arith, λ k. s k ∙ ap (joined (take i ps)) (rest-less a ps i p k h e o))

pub place-at : (a : Atom) (ps : List (Atom × ℤ)) (i : ℕ) (p : Atom × ℤ) → i < length ps → get_or ps i p ≡ p → atom_order a p.0 ≡ Equal → Sought a ps i → PlaceIs a ps (At i)
place-at a ps i p h e o s = (h, λ k. s k ∙ ap (joined (take i ps)) (rest-equal a ps i p k h e o))

rest-none : (a : Atom) (k : ℤ) (qs : List (Atom × ℤ)) → qs ≡ [] → insert a k (terms_of qs) ≡ kept a k (terms_of qs)
rest-none a k [] e = refl
rest-none a k (q ∷ qs) e = cc

pub place-end : (a : Atom) (ps : List (Atom × ℤ)) (i : ℕ) → length ps ≤ i → i ≤ length ps → Sought a ps i → PlaceIs a ps (Before i)
place-end a ps i h g s = (g, λ k. s k ∙ ap (joined (take i ps)) (rest-none a k (drop i ps) (drop_all i ps h)))

-- ---- edits
pub terms-join : (ps qs : List (Atom × ℤ)) → terms_of (ps ++ qs) ≡ joined ps (terms_of qs)
terms-join [] qs = refl
terms-join (p ∷ ps) qs = ap (term p.0 p.1) (terms-join ps qs)

kept-nonzero : (a : Atom) (k : ℤ) (ts : Terms) → ¬ (k ≡ pos 0) → kept a k ts ≡ term a k ts
kept-nonzero a (pos zero) ts h = absurd (h refl)
kept-nonzero a (pos (suc n)) ts h = refl
kept-nonzero a (negsuc n) ts h = refl

abbrev pub L : Type 0
L = List (program.Atom × ℤ)

-- the new list between a front and a back
between : (fs bs : L) (x : program.Atom × ℤ) → terms_of (map term_tree (fs ++ x ∷ bs)) ≡ joined (map term_tree fs) (term (atom_tree x.0) x.1 (terms_of (map term_tree bs)))
between [] bs x = refl
between (y ∷ fs) bs x = ap (term (atom_tree y.0) y.1) (between fs bs x)

together : (fs bs : L) → terms_of (map term_tree (fs ++ bs)) ≡ joined (map term_tree fs) (terms_of (map term_tree bs))
together [] bs = refl
together (y ∷ fs) bs = ap (term (atom_tree y.0) y.1) (together fs bs)

pub put-some : (xs : L) (i : ℕ) (a : program.Atom) (k : ℤ) → ¬ (k ≡ pos 0) → terms_of (map term_tree (put_at xs i (a, k))) ≡ joined (take i (map term_tree xs)) (kept (atom_tree a) k (terms_of (drop i (map term_tree xs))))
put-some xs i a k h = rw (take-map term_tree i xs, drop-map term_tree i xs, kept-nonzero (atom_tree a) k (terms_of (map term_tree (drop i xs))) h) (between (take i xs) (drop i xs) (a, k))

pub put-none : (xs : L) (i : ℕ) (a : program.Atom) (k : ℤ) → k ≡ pos 0 → terms_of (map term_tree xs) ≡ joined (take i (map term_tree xs)) (kept (atom_tree a) k (terms_of (drop i (map term_tree xs))))
put-none xs i a k h = rw h (ap terms_of (sym (take-append-drop i (map term_tree xs))) ∙ terms-join (take i (map term_tree xs)) (drop i (map term_tree xs)))

-- the item at i replaced by itself with k more
pub drop-at : (xs : L) (i : ℕ) (x : program.Atom × ℤ) → i < length xs → get_or xs i x ≡ x → drop i xs ≡ x ∷ drop (suc i) xs
drop-at xs i x h e = drop-cons xs i x h ∙ ap (λ (z : program.Atom × ℤ). z ∷ drop (suc i) xs) e

take-front : (fs bs : L) (i : ℕ) → length fs ≡ i → take i (fs ++ bs) ≡ fs
take-front fs bs i h = take_at fs bs i h

pub put-back : (xs : L) (i : ℕ) (x : program.Atom × ℤ) (m : ℤ) → i < length xs → put_at (remove xs i) i (x.0, m) ≡ take i xs ++ (x.0, m) ∷ drop (suc i) xs
put-back xs i x m h =
    let l : length (take i xs) ≡ i = omega (arith, length-take i xs) in
    rw (take_at (take i xs) (drop (suc i) xs) i l, drop_at (take i xs) (drop (suc i) xs) i l) refl

pub more-some : (xs : L) (i : ℕ) (x : program.Atom × ℤ) (k m : ℤ) → i < length xs → get_or xs i x ≡ x → m ≡ k +ℤ x.1 → ¬ (m ≡ pos 0) →
    terms_of (map term_tree (put_at (remove xs i) i (x.0, m))) ≡ joined (take i (map term_tree xs)) (more_of k (drop i (map term_tree xs)))
more-some xs i x k m h e s n =
    rw (put-back xs i x m h, take-map term_tree i xs, drop-map term_tree i xs, drop-at xs i x h e, ← s, kept-nonzero (atom_tree x.0) m (terms_of (map term_tree (drop (suc i) xs))) n)
    (between (take i xs) (drop (suc i) xs) (x.0, m))

pub more-none : (xs : L) (i : ℕ) (x : program.Atom × ℤ) (k : ℤ) → i < length xs → get_or xs i x ≡ x → k +ℤ x.1 ≡ pos 0 →
    terms_of (map term_tree (remove xs i)) ≡ joined (take i (map term_tree xs)) (more_of k (drop i (map term_tree xs)))
more-none xs i x k h e n =
    rw (take-map term_tree i xs, drop-map term_tree i xs, drop-at xs i x h e, n) (together (take i xs) (drop (suc i) xs))

pub got : (xs : L) (i : ℕ) (x : program.Atom × ℤ) → slice_get xs i ≡ Some x → get_or xs i x ≡ x
got [] i x e = refl
got (y ∷ xs) zero x e = cc
got (y ∷ xs) (suc i) x e = got xs i x e
