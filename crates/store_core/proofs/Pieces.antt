-- Words that are cut at their starts.
use Rattle.std.specs.Prelude.{◌≡◌, ℕ, Bool, true, false, nat_lt, if◌then◌else◌, suc, zero, ◌+◌, ◌-◌, ◌<◌, ◌≤◌, List, [], ◌∷◌, ◌++◌, length, take, drop, refl}
use Rattle.std.proofs.Common.{ap, sym, ◌∙◌, arith, length-drop, add-one, get_or}
use Rattle.std.proofs.lemmas.Bool.{ltb-true, ltb-false}
use Rattle.std.proofs.lemmas.List.{drop-append-le, take-append-le}
use Rattle.std.proofs.Math.Seq.{take-length, drop-length}
use Rattle.store_core.specs.Tapes.{with_word}
use Rattle.store_core.specs.FlatTapes.{pieces, AreStarts, end_of}

one_more : (words : List ℕ) (w s t : ℕ) → s ≤ t → t ≤ length words → take (t - s) (drop s (words ++ w ∷ [])) ≡ take (t - s) (drop s words)
one_more words w s t h g =
    let a : s ≤ length words = omega arith in
    let b : t - s ≤ length (drop s words) = simp length-drop (omega arith) in
    rw (drop-append-le s words (w ∷ []) a) (take-append-le (t - s) (drop s words) (w ∷ []) b)

first_start : (t : ℕ) (ts : List ℕ) (n : ℕ) → AreStarts (t ∷ ts) n → t ≤ n
first_start t [] n h = h
first_start t (u ∷ ts) n h = let a : t ≤ u = h.0 in let b : u ≤ n = first_start u ts n h.1 in omega arith

pub pieces_with_word : (words starts : List ℕ) (w : ℕ) → AreStarts starts (length words) → pieces (words ++ w ∷ []) starts ≡ with_word (pieces words starts) w
pieces_with_word words [] w h = refl
pieces_with_word words (s ∷ []) w h = ap (λ (x : List ℕ). x ∷ []) (drop-append-le s words (w ∷ []) h)
pieces_with_word words (s ∷ t ∷ []) w h =
    rw (one_more words w s t h.0 h.1) (ap (λ (x : List (List ℕ)). take (t - s) (drop s words) ∷ x) (pieces_with_word words (t ∷ []) w h.1))
pieces_with_word words (s ∷ t ∷ u ∷ ts) w h =
    rw (one_more words w s t h.0 (first_start t (u ∷ ts) (length words) h.1))
    (ap (λ (x : List (List ℕ)). take (t - s) (drop s words) ∷ x) (pieces_with_word words (t ∷ u ∷ ts) w h.1))

nothing_left : (words : List ℕ) → drop (length words) words ≡ []
nothing_left words = drop-length words

with_start : (words starts : List ℕ) → AreStarts starts (length words) → pieces words (starts ++ length words ∷ []) ≡ pieces words starts ++ [] ∷ []
with_start words [] h = ap (λ (x : List ℕ). x ∷ []) (nothing_left words)
with_start words (s ∷ []) h =
    let e : take (length words - s) (drop s words) ≡ drop s words = rw (sym (length-drop s words)) (take-length (drop s words)) in
    rw (e, nothing_left words) refl
with_start words (s ∷ t ∷ ts) h = ap (λ (x : List (List ℕ)). take (t - s) (drop s words) ∷ x) (with_start words (t ∷ ts) h.1)

pub pieces_with_start : (words starts : List ℕ) (n : ℕ) → n ≡ length words → AreStarts starts (length words) → pieces words (starts ++ n ∷ []) ≡ pieces words starts ++ [] ∷ []
pieces_with_start words starts n e h = rw e (with_start words starts h)

starts_with_start : (starts : List ℕ) (n : ℕ) → AreStarts starts n → AreStarts (starts ++ n ∷ []) n
starts_with_start [] n h = omega arith
starts_with_start (s ∷ []) n h = (h, omega arith)
starts_with_start (s ∷ t ∷ ts) n h = (h.0, starts_with_start (t ∷ ts) n h.1)

pub starts_with_end : (starts : List ℕ) (n m : ℕ) → n ≡ m → AreStarts starts m → AreStarts (starts ++ n ∷ []) m
starts_with_end starts n m e h = rw e (starts_with_start starts m h)

pub starts_below_more : (starts : List ℕ) (m n : ℕ) → m ≤ n → AreStarts starts m → AreStarts starts n
starts_below_more [] m n l h = tt
starts_below_more (s ∷ []) m n l h = omega arith
starts_below_more (s ∷ t ∷ ts) m n l h = (h.0, starts_below_more (t ∷ ts) m n l h.1)

pub length-pieces : (words starts : List ℕ) → length (pieces words starts) ≡ length starts
length-pieces words [] = refl
length-pieces words (s ∷ []) = refl
length-pieces words (s ∷ t ∷ ts) = ap suc (length-pieces words (t ∷ ts))

-- ---- the piece at a number

in_order : (starts : List ℕ) (n k : ℕ) → AreStarts starts n → suc k < length starts → (get_or starts k 0 ≤ get_or starts (suc k) 0) × (get_or starts (suc k) 0 ≤ n)
in_order [] n k h l = absurd (omega arith)
in_order (s ∷ []) n k h l = absurd (omega arith)
in_order (s ∷ t ∷ ts) n zero h l = (h.0, first_start t ts n h.1)
in_order (s ∷ t ∷ ts) n (suc k) h l = in_order (t ∷ ts) n k h.1 (omega arith)

last_start : (starts : List ℕ) (n k : ℕ) → AreStarts starts n → k < length starts → get_or starts k 0 ≤ n
last_start [] n k h l = absurd (omega arith)
last_start (s ∷ []) n zero h l = h
last_start (s ∷ []) n (suc k) h l = absurd (omega arith)
last_start (s ∷ t ∷ ts) n zero h l = first_start s (t ∷ ts) n h
last_start (s ∷ t ∷ ts) n (suc k) h l = last_start (t ∷ ts) n k h.1 (omega arith)

inner_piece : (words starts : List ℕ) (k : ℕ) → suc k < length starts
    → take (get_or starts (suc k) 0 - get_or starts k 0) (drop (get_or starts k 0) words) ≡ get_or (pieces words starts) k []
inner_piece words [] k l = absurd (omega arith)
inner_piece words (s ∷ []) k l = absurd (omega arith)
inner_piece words (s ∷ t ∷ ts) zero l = refl
inner_piece words (s ∷ t ∷ ts) (suc k) l = inner_piece words (t ∷ ts) k (omega arith)

last_piece : (words starts : List ℕ) (k : ℕ) → suc k ≡ length starts → drop (get_or starts k 0) words ≡ get_or (pieces words starts) k []
last_piece words [] k e = absurd (omega arith)
last_piece words (s ∷ []) zero e = refl
last_piece words (s ∷ []) (suc k) e = absurd (omega arith)
last_piece words (s ∷ t ∷ ts) zero e = absurd (omega arith)
last_piece words (s ∷ t ∷ ts) (suc k) e = last_piece words (t ∷ ts) k (omega arith)

pub end_within : (starts : List ℕ) (n k : ℕ) → AreStarts starts n → k < length starts → (get_or starts k 0 ≤ end_of starts k n) × (end_of starts k n ≤ n)
end_within starts n k h l = by_test (nat_lt (k + 1) (length starts)) refl
  where
    by_test : (b : Bool) → nat_lt (k + 1) (length starts) ≡ b
        → (get_or starts k 0 ≤ (if b then get_or starts (k + 1) 0 else n)) × ((if b then get_or starts (k + 1) 0 else n) ≤ n)
    by_test true e = let g : k + 1 < length starts = ltb-true (k + 1) (length starts) e in rw add-one (in_order starts n k h (omega arith))
    by_test false e = (last_start starts n k h l, omega arith)

pub piece_is : (words starts : List ℕ) (k : ℕ) → k < length starts → (n : ℕ) → n ≡ length words
    → take (end_of starts k n - get_or starts k 0) (drop (get_or starts k 0) words) ≡ get_or (pieces words starts) k []
piece_is words starts k l n q = by_test (nat_lt (k + 1) (length starts)) refl
  where
    all : take (n - get_or starts k 0) (drop (get_or starts k 0) words) ≡ drop (get_or starts k 0) words
    all = rw (q, sym (length-drop (get_or starts k 0) words)) (take-length (drop (get_or starts k 0) words))

    by_test : (b : Bool) → nat_lt (k + 1) (length starts) ≡ b
        → take ((if b then get_or starts (k + 1) 0 else n) - get_or starts k 0) (drop (get_or starts k 0) words) ≡ get_or (pieces words starts) k []
    by_test true e = let g : k + 1 < length starts = ltb-true (k + 1) (length starts) e in rw add-one (inner_piece words starts k (omega arith))
    by_test false e = let g : length starts ≤ k + 1 = ltb-false (k + 1) (length starts) e in all ∙ last_piece words starts k (omega arith)
