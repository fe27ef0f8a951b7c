-- What is taken from the top of a tape.
use Rattle.std.specs.Prelude.{◌≡◌, ◌≤◌, ◌<◌, ◌-◌, ℕ, zero, suc, List, [], ◌∷◌, ◌++◌, length, Option, Some, None, take, slice_index, slice_index_or, refl}
use Rattle.std.proofs.Common.{ap, sym, ◌∙◌, arith}
use Rattle.store_core.specs.Tapes.{Item, lists, IterationLists, top_word, top_list, lower}
use Rattle.store_core.specs.Tapes.{word as word_item}
use Rattle.transposition.specs.Tapes.{Tape, empty, word, Tapes, tape_at, top, rest, top_tapes}
use Rattle.forward_law.specs.Forward.{words_on, tapes_back, tape_back}
use Rattle.reverse_state.specs.declared.reading.Iterations.{Iterations}
use Rattle.reverse_state.specs.Reading.{lists_back, TapeReading, around_by, around_of, inside_of, words_of, words_left, AreWithin, TakesWord}

pub top_back : (items : List Item) → top (tape_back items) ≡ top_word items
top_back [] = refl
top_back (word_item w ∷ items) = refl
top_back (lists l ∷ items) = refl

pub rest_back : (items : List Item) → rest (tape_back items) ≡ tape_back (lower items)
rest_back [] = refl
rest_back (word_item w ∷ items) = refl
rest_back (lists l ∷ items) = refl

pub tapes_on_top : (items : List Item) → top_tapes (tape_back items) ≡ lists_back (top_list items)
tapes_on_top [] = refl
tapes_on_top (word_item w ∷ items) = refl
tapes_on_top (lists l ∷ items) = refl

pub words_more : (ws : List ℕ) (w : ℕ) (t : Tape) → words_on (ws ++ w ∷ []) t ≡ word w (words_on ws t)
words_more [] w t = refl
words_more (v ∷ ws) w t = words_more ws w (word v t)

-- a word more is taken
taken_more : (ws : List ℕ) (n : ℕ) → n < length ws → take (suc n) ws ≡ take n ws ++ slice_index ws n ∷ []
taken_more [] n h = absurd (omega (arith, h))
taken_more (w ∷ ws) zero h = refl
taken_more (w ∷ ws) (suc n) h = ap (λ vs. w ∷ vs) (taken_more ws n (omega (arith, h)))

pub left_more : (ws : List ℕ) (n : ℕ) → n < length ws → words_on (take (suc n) ws) empty ≡ word (slice_index ws n) (words_on (take n ws) empty)
left_more ws n h = ap (λ vs. words_on vs empty) (taken_more ws n h) ∙ words_more (take n ws) (slice_index ws n) empty

taken_all : (ws : List ℕ) → take (length ws) ws ≡ ws
taken_all [] = refl
taken_all (w ∷ ws) = ap (λ vs. w ∷ vs) (taken_all ws)

tape_by_words : (ls : List (List ℕ)) (k : ℕ) → tape_at (tapes_back ls) k ≡ words_on (slice_index_or ls k []) empty
tape_by_words [] k = refl
tape_by_words (l ∷ ls) zero = refl
tape_by_words (l ∷ ls) (suc k) = tape_by_words ls k

-- the tape of an iteration, by all its words
pub tape_begun : (o : Option IterationLists) (k : ℕ) → words_on (take (length (words_of o k)) (words_of o k)) empty ≡ tape_at (lists_back o) k
tape_begun None k = refl
tape_begun (Some l) k = ap (λ vs. words_on vs empty) (taken_all (slice_index_or l.tapes k [])) ∙ sym (tape_by_words l.tapes k)

word_by : (ws : List ℕ) (n m w : ℕ) → n ≡ suc m → n ≤ length ws → w ≡ slice_index ws m → (w ≡ top (words_on (take n ws) empty)) × (words_on (take m ws) empty ≡ rest (words_on (take n ws) empty))
word_by ws n m w e h f =
    let q : words_on (take n ws) empty ≡ word (slice_index ws m) (words_on (take m ws) empty) = ap (λ k. words_on (take k ws) empty) e ∙ left_more ws m (omega (arith, e, h)) in
    (f ∙ sym (ap top q), sym (ap rest q))

pub takes_word : (i : Iterations) (w : ℕ) → 0 < i.left → AreWithin i → w ≡ slice_index (words_of i.tapes i.iteration) (i.left - 1)
    → TakesWord i (record { tapes = i.tapes; iteration = i.iteration; left = i.left - 1 }) w
takes_word i w h k e =
    let p = word_by (words_of i.tapes i.iteration) i.left (i.left - 1) w (omega (arith, h)) k e in
    record { word = p.0; now = p.1; tapes = refl; within = omega (arith, h, k) }

no_iteration : (r : TapeReading) (items : List Item) (o : Option Iterations) → record { items = items; inside = inside_of o } ≡ r → o ≡ None → (a : Tapes × Tape) → around_of r ≡ Some a → ⊥
no_iteration r items o e n a h =
    let f : around_of r ≡ None = ap around_of (sym e) ∙ ap (λ (x : Option Iterations). around_by items (inside_of x)) n in
    cc

pub none_begun : (r : TapeReading) (items : List Item) (o : Option Iterations) (t : Tape) (k : ℕ) → record { items = items; inside = inside_of o } ≡ r → o ≡ None
    → (a : Tapes × Tape) → around_of r ≡ Some a → t ≡ tape_at a.0 k
none_begun r items o t k e n a h = absurd (no_iteration r items o e n a h)

some_of : {A : Type 0} (a b : A) (o : Option A) → o ≡ Some a → o ≡ Some b → a ≡ b
some_of a b o e f = cc

pub some_begun : (r : TapeReading) (items : List Item) (o : Option Iterations) (i j : Iterations) (k : ℕ) → record { items = items; inside = inside_of o } ≡ r → o ≡ Some i
    → j ≡ record { tapes = i.tapes; iteration = k; left = length (words_of i.tapes k) } → (a : Tapes × Tape) → around_of r ≡ Some a → words_left j ≡ tape_at a.0 k
some_begun r items o i j k e n f a h =
    let g : around_of r ≡ Some (lists_back i.tapes, tape_back items) = ap around_of (sym e) ∙ ap (λ (x : Option Iterations). around_by items (inside_of x)) n in
    let q : (lists_back i.tapes, tape_back items) ≡ a = some_of (lists_back i.tapes, tape_back items) a (around_of r) g h in
    ap words_left f ∙ tape_begun i.tapes k ∙ ap (λ (b : Tapes × Tape). tape_at b.0 k) q
