-- The piece that bytes begin with takes at least one byte and no more than there are.
use Rattle.std.proofs.Common.{◌≡◌, ℕ, suc, ◌+◌, ◌-◌, ◌<◌, ◌≤◌, Bool, true, false, cond, eqb, ◌&&◌, ◌||◌, List, [], ◌∷◌, length, take, drop, Some, None, refl, ap, arith, length-drop}
use Rattle.std.specs.List.{prefix_len}
use Rattle.std.proofs.lemmas.List.Sums.{prefix_len-le-length}
use Rattle.fl_lexer.specs.declared.piece.Piece.{Piece}
use Rattle.fl_lexer.specs.Bytes.{is_blank, is_letter, is_digit, is_word, is_mark, is_pair, begins}
use Rattle.fl_lexer.specs.Pieces.{suffix_of, suffix_len_of, number_of, dots_of, mark_of, piece_of, is_dot_word}

-- what holds at each branch holds of the choice
pub chosen : {A : Type 0} (t : Bool) (x y : A) (P : A → Type 0) → (t ≡ true → P x) → (t ≡ false → P y) → P (cond t x y)
chosen true x y P f g = f refl
chosen false x y P f g = g refl

and_second : (a b : Bool) → (a && b) ≡ true → b ≡ true
and_second true b h = h
and_second false b h = absurd (let e : false ≡ true = h in cc)

pub begins_some : (test : ℕ → Bool) (bs : List ℕ) → begins test bs ≡ true → 0 < length bs
begins_some test [] h = absurd (let e : false ≡ true = h in cc)
begins_some test (b ∷ bs) h = omega arith

suffix_within : (bs : List ℕ) → suffix_len_of (suffix_of bs) ≤ length bs
suffix_within [] = omega arith
suffix_within (c ∷ []) = omega arith
suffix_within (c ∷ d ∷ bs) =
    chosen ((eqb c 95) && ((eqb d 52) || (eqb d 56))) (Some (d - 48)) None (λ s. suffix_len_of s ≤ suc (suc (length bs))) (λ _. omega arith) (λ _. omega arith)

number_within : (bs : List ℕ) → (number_of bs).len ≤ length bs
number_within bs =
    let n = prefix_len is_digit bs in
    let front : n ≤ length bs = prefix_len-le-length is_digit bs in
    let back : suffix_len_of (suffix_of (drop n bs)) ≤ length (drop n bs) = suffix_within (drop n bs) in
    omega (arith, front, back, length-drop n bs)

number_some : (b : ℕ) (bs : List ℕ) → is_digit b ≡ true → 0 < (number_of (b ∷ bs)).len
number_some b bs h =
    let e : prefix_len is_digit (b ∷ bs) ≡ 1 + prefix_len is_digit bs = ap (λ t. cond t (1 + prefix_len is_digit bs) 0) h in
    omega (arith, e)

dots_within : (bs : List ℕ) → ((dots_of bs).len ≤ suc (length bs)) × (0 < (dots_of bs).len)
dots_within bs =
    let n = prefix_len is_letter bs in
    chosen (is_dot_word (take n bs) && begins (λ b. eqb b 46) (drop n bs)) _ _ (λ (x : Piece). (x.len ≤ suc (length bs)) × (0 < x.len))
    (λ h. let some : 0 < length (drop n bs) = begins_some (λ b. eqb b 46) (drop n bs) (and_second (is_dot_word (take n bs)) _ h) in (omega (arith, some, length-drop n bs), omega arith))
    (λ _. (omega arith, omega arith))

mark_within : (b : ℕ) (bs : List ℕ) → ((mark_of b bs).len ≤ suc (length bs)) × (0 < (mark_of b bs).len)
mark_within b bs =
    chosen (begins (is_pair b) bs) 2 1 (λ (n : ℕ). (n ≤ suc (length bs)) × (0 < n))
    (λ h. let some : 0 < length bs = begins_some (is_pair b) bs h in (omega (arith, some), omega arith))
    (λ _. (omega arith, omega arith))

pub record IsWithin (n : ℕ) (x : Piece) : Type 0 where
  pub within : x.len ≤ n
  pub some : 0 < x.len

both : (n : ℕ) (x : Piece) → (x.len ≤ n) × (0 < x.len) → IsWithin n x
both n x h = record { within = h.0; some = h.1 }

pub piece_within : (b : ℕ) (bs : List ℕ) → IsWithin (suc (length bs)) (piece_of (b ∷ bs))
unfolding piece_of
piece_within b bs =
    let P : Piece → Type 0 = IsWithin (suc (length bs)) in
    chosen (is_blank b) _ _ P (λ _. record { within = omega arith; some = omega arith })
    (λ _. chosen (is_letter b) _ _ P (λ _. record { within = omega (arith, prefix_len-le-length is_word bs); some = omega arith })
    (λ _. chosen (is_digit b) _ _ P (λ h. record { within = number_within (b ∷ bs); some = number_some b bs h })
    (λ _. chosen (eqb b 46) _ _ P (λ _. both _ _ (dots_within bs))
    (λ _. chosen (is_mark b) _ _ P (λ _. both _ _ (mark_within b bs)) (λ _. record { within = omega arith; some = omega arith })))))

-- the same of bytes that are some
pub first_within : (bs : List ℕ) → 0 < length bs → IsWithin (length bs) (piece_of bs)
first_within [] h = absurd (omega arith)
first_within (b ∷ bs) h = piece_within b bs
