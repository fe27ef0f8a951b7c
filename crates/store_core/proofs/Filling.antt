-- Writing words, and reading them again.
use Rattle.std.proofs.Common.{◌≡◌, IsTrue, ◌↔◌, ℕ, zero, suc, ◌+◌, ◌*◌, ◌-◌, ◌<◌, ◌≤◌, Bool, true, false, cond, List, [], ◌∷◌, ◌++◌, length, take, drop, get_or, slice_get, slice_set, replicate, bytes_eq, find, Option, Some, None, option_map, refl, sym, ap, ◌∙◌, subst, arith, add-one, length-append, append_assoc, append-nil}
use Rattle.std.proofs.lemmas.List.{take-append-drop, drop_more, drop-replicate, length-replicate}
use Rattle.store_core.specs.declared.layout.Shape.{Shape}
use Rattle.store_core.specs.declared.values.Entry.{Entry}
use Rattle.store_core.specs.Values.{words_in}
use Rattle.store_core.specs.Keys.{keys_of, keys_of_shape, size_of, slot_of, IsApart}
use Rattle.store_core.specs.Places.{is_empty}
use Rattle.store_core.specs.Filled.{fitted, shape_words, place_words, opening_words, seeded_words, written, name_words, is_scalar, entry_at}
use Rattle.store_core.proofs.Slots.{first_next, length_shape, got, slot_missing}

pub length-fitted : (n : ℕ) (ws : List ℕ) → length (fitted n ws) ≡ n
length-fitted zero ws = refl
length-fitted (suc n) [] = ap suc (length-fitted n [])
length-fitted (suc n) (w ∷ ws) = ap suc (length-fitted n ws)

-- what is left of the words from k on
pub fitted-drop : (n k : ℕ) (ws : List ℕ) → k < n → drop k (fitted n ws) ≡ get_or ws k 0 ∷ drop (suc k) (fitted n ws)
fitted-drop zero k ws h = absurd (omega arith)
fitted-drop (suc n) zero [] h = refl
fitted-drop (suc n) zero (w ∷ ws) h = refl
fitted-drop (suc n) (suc k) [] h = fitted-drop n k [] (omega arith)
fitted-drop (suc n) (suc k) (w ∷ ws) h = fitted-drop n k ws (omega arith)

pub written-append : (s : List ℕ) (at : ℕ) (xs ys : List ℕ) → written s at (xs ++ ys) ≡ written (written s at xs) (at + length xs) ys
written-append s at [] ys = ap (λ n. written s n ys) (omega arith)
written-append s at (x ∷ xs) ys = written-append (slice_set s at x) (at + 1) xs ys ∙ ap (λ n. written (written (slice_set s at x) (at + 1) xs) n ys) (omega arith)

pub length-set : (s : List ℕ) (at w : ℕ) → length (slice_set s at w) ≡ length s
length-set [] at w = refl
length-set (x ∷ s) zero w = refl
length-set (x ∷ s) (suc at) w = ap suc (length-set s at w)

pub length-written : (s : List ℕ) (at : ℕ) (ws : List ℕ) → length (written s at ws) ≡ length s
length-written s at [] = refl
length-written s at (w ∷ ws) = length-written (slice_set s at w) (at + 1) ws ∙ length-set s at w

take-set : (s : List ℕ) (at w : ℕ) → at < length s → take (suc at) (slice_set s at w) ≡ take at s ++ w ∷ []
take-set [] at w h = absurd (omega arith)
take-set (x ∷ s) zero w h = refl
take-set (x ∷ s) (suc at) w h = ap (λ ys. x ∷ ys) (take-set s at w (omega arith))

drop-set : (s : List ℕ) (at w n : ℕ) → at < n → drop n (slice_set s at w) ≡ drop n s
drop-set s at w zero h = absurd (omega arith)
drop-set [] at w (suc n) h = refl
drop-set (x ∷ s) zero w (suc n) h = refl
drop-set (x ∷ s) (suc at) w (suc n) h = drop-set s at w n (omega arith)

whole : (s : List ℕ) (n m : ℕ) → m ≡ n → take n s ++ ([] ++ drop m s) ≡ s
whole s n m e = ap (λ k. take n s ++ drop k s) e ∙ take-append-drop n s

-- what is written stands between what was before and after it
pub written-is : (s : List ℕ) (at : ℕ) (ws : List ℕ) → at + length ws ≤ length s → written s at ws ≡ take at s ++ (ws ++ drop (at + length ws) s)
written-is s at [] h = sym (whole s at (at + 0) (omega arith))
written-is s at (w ∷ ws) h =
    let l : at + 1 + length ws ≤ length (slice_set s at w) = omega (arith, length-set s at w) in
    let a : take (at + 1) (slice_set s at w) ≡ take at s ++ w ∷ [] = rw add-one (take-set s at w (omega arith)) in
    let n : at + 1 + length ws ≡ at + suc (length ws) = omega arith in
    let b : drop (at + 1 + length ws) (slice_set s at w) ≡ drop (at + suc (length ws)) s = ap (λ k. drop k (slice_set s at w)) n ∙ drop-set s at w (at + suc (length ws)) (omega arith) in
    written-is (slice_set s at w) (at + 1) ws l ∙ rw (a, b) (append_assoc (take at s) (w ∷ []) (ws ++ drop (at + suc (length ws)) s))

pub length_places : (es : List Shape) (values : List Entry) → length (place_words es values) ≡ length (keys_of es)
length_places [] values = refl
length_places (s ∷ es) values =
    length-append (shape_words values s) (place_words es values)
    ∙ rw (length-fitted (size_of s.axes) (words_in values s.name), length_places es values) (sym (length-append (keys_of_shape s) (keys_of es) ∙ ap (λ n. n + length (keys_of es)) (length_shape s)))

-- one word more
pub write_one : (s s' whole : List ℕ) (at count k w : ℕ) (ws : List ℕ) → k < count → w ≡ get_or ws k 0 → s' ≡ slice_set s (at + k) w
    → written s (at + k) (drop k (fitted count ws)) ≡ whole → written s' (at + (k + 1)) (drop (k + 1) (fitted count ws)) ≡ whole
write_one s s' whole at count k w ws lt is set h =
    let d : drop k (fitted count ws) ≡ w ∷ drop (suc k) (fitted count ws) = fitted-drop count k ws lt ∙ ap (λ y. y ∷ drop (suc k) (fitted count ws)) (sym is) in
    let a : at + (k + 1) ≡ at + k + 1 = omega arith in
    let b : k + 1 ≡ suc k = add-one k in
    rw (a, b, set) (ap (written s (at + k)) (sym d) ∙ h)

drop_all : (n : ℕ) (ws : List ℕ) → length ws ≤ n → drop n ws ≡ []
drop_all zero [] h = refl
drop_all zero (w ∷ ws) h = absurd (omega arith)
drop_all (suc n) [] h = refl
drop_all (suc n) (w ∷ ws) h = drop_all n ws (omega arith)

pub write_done : (s whole : List ℕ) (at count k : ℕ) (ws : List ℕ) → count ≤ k → written s (at + k) (drop k (fitted count ws)) ≡ whole → s ≡ whole
write_done s whole at count k ws le h = ap (written s (at + k)) (sym (drop_all k (fitted count ws) (omega (arith, length-fitted count ws)))) ∙ h

-- one shape more
pub write_shape : (es : List Shape) (values : List Entry) (i : ℕ) (sh : Shape) (s s' whole : List ℕ) (base first next count : ℕ) → i < length es → sh ≡ get_or es i sh
    → first ≡ length (keys_of (take i es)) → next ≡ length (keys_of (take (i + 1) es)) → count ≡ next - first → s' ≡ written s (base + first) (fitted count (words_in values sh.name))
    → written s (base + length (keys_of (take i es))) (place_words (drop i es) values) ≡ whole → written s' (base + length (keys_of (take (i + 1) es))) (place_words (drop (i + 1) es) values) ≡ whole
write_shape es values i sh s s' whole base first next count lt is f n c set h =
    let g : slice_get es i ≡ Some sh = got es i sh lt is in
    let here : drop i es ≡ sh ∷ drop (i + 1) es = drop_more es i sh lt ∙ ap (λ y. y ∷ drop (i + 1) es) (sym is) in
    let m : length (keys_of (take (i + 1) es)) ≡ length (keys_of (take i es)) + size_of sh.axes = rw add-one (first_next es i sh g) in
    let size : count ≡ size_of sh.axes = omega arith in
    let w : s' ≡ written s (base + length (keys_of (take i es))) (shape_words values sh) = set ∙ rw (f, size) refl in
    let a : base + length (keys_of (take (i + 1) es)) ≡ base + length (keys_of (take i es)) + length (shape_words values sh) = omega (arith, length-fitted (size_of sh.axes) (words_in values sh.name)) in
    ap (λ k. written s' k (place_words (drop (i + 1) es) values)) a
    ∙ ap (λ q. written q (base + length (keys_of (take i es)) + length (shape_words values sh)) (place_words (drop (i + 1) es) values)) w
    ∙ sym (written-append s (base + length (keys_of (take i es))) (shape_words values sh) (place_words (drop (i + 1) es) values))
    ∙ ap (λ xs. written s (base + length (keys_of (take i es))) (place_words xs values)) (sym here) ∙ h

pub opened : (es : List Shape) (values : List Entry) (n : ℕ) → n ≡ 2 * length (keys_of es) → written (replicate n 0) 0 (place_words es values) ≡ opening_words es values
opened es values n h =
    let l : length (place_words es values) ≡ length (keys_of es) = length_places es values in
    let zeros : List ℕ = replicate n 0 in
    let r : length zeros ≡ n = length-replicate n 0 in
    let left : n - (0 + length (place_words es values)) ≡ length (keys_of es) = omega arith in
    let z : drop (0 + length (place_words es values)) zeros ≡ replicate (length (keys_of es)) 0 =
    drop-replicate (0 + length (place_words es values)) n 0 ∙ ap (λ k. replicate k 0) left in
    let fits : 0 + length (place_words es values) ≤ length zeros = omega arith in
    written-is zeros 0 (place_words es values) fits ∙ ap (λ ws. place_words es values ++ ws) z

pub seeded : (es : List Shape) (weights : List Entry) (s : List ℕ) (n : ℕ) → n ≡ length (keys_of es) → length s ≡ 2 * length (keys_of es) → written s n (place_words es weights) ≡ seeded_words es weights s
seeded es weights s n is h =
    let l = length_places es weights in
    written-is s n (place_words es weights) (omega arith)
    ∙ ap (λ ws. take n s ++ (place_words es weights ++ ws)) (drop_all (n + length (place_words es weights)) s (omega arith))
    ∙ ap (λ ws. take n s ++ ws) (append-nil (place_words es weights)) ∙ ap (λ k. take k s ++ place_words es weights) is

drop_nil : (n : ℕ) → drop {A = ℕ} n [] ≡ []
drop_nil zero = refl
drop_nil (suc n) = refl

drop_both : (a b : ℕ) (ws : List ℕ) → drop b (drop a ws) ≡ drop (a + b) ws
drop_both zero b ws = ap (λ n. drop n ws) (omega arith)
drop_both (suc a) b [] = drop_nil b ∙ sym (drop_nil (suc a + b))
drop_both (suc a) b (w ∷ ws) = let e : suc a + b ≡ suc (a + b) = omega arith in drop_both a b ws ∙ rw e refl

-- where the first shape with a name stands
pub record Found (es : List Shape) (name : List ℕ) (slot : ℕ) (words : List ℕ) : Type 0 where
  pub region : name_words es name words ≡ take (length (keys_of (take (suc slot) es)) - length (keys_of (take slot es))) (drop (length (keys_of (take slot es))) words)
  pub shape : find (λ (s : Shape). bytes_eq name s.name) es ≡ slice_get es slot

found_at : (s : Shape) (es : List Shape) (name : List ℕ) (slot : ℕ) (words : List ℕ) (b : Bool) (o : Option ℕ) → bytes_eq name s.name ≡ b → slot_of es name ≡ o
    → ((j : ℕ) → Some j ≡ o → Found es name j (drop (size_of s.axes) words)) → Some slot ≡ cond b (Some 0) (option_map suc o) → Found (s ∷ es) name slot words
found_at s es name slot words true o here rest later e =
    let f : 0 ≡ slot = cc in
    let l : length (keys_of_shape s ++ []) - 0 ≡ size_of s.axes = omega (arith, length-append (keys_of_shape s) [], length_shape s) in
    subst (λ k. Found (s ∷ es) name k words) f (record { region = rw here (ap (λ n. take n words) (sym l)); shape = rw here refl })
found_at s es name slot words false None here rest later e = absurd (let f : Some slot ≡ None = e in cc)
found_at s es name slot words false (Some j) here rest later e =
    let f : suc j ≡ slot = cc in
    let r = later j refl in
    let a = length-append (keys_of_shape s) (keys_of (take j es)) in
    let b = length-append (keys_of_shape s) (keys_of (take (suc j) es)) in
    let c = length_shape s in
    let d : length (keys_of_shape s ++ keys_of (take (suc j) es)) - length (keys_of_shape s ++ keys_of (take j es)) ≡ length (keys_of (take (suc j) es)) - length (keys_of (take j es)) = omega arith in
    let k : length (keys_of_shape s ++ keys_of (take j es)) ≡ size_of s.axes + length (keys_of (take j es)) = omega arith in
    subst (λ q. Found (s ∷ es) name q words) f (record {
      region = rw here (r.region ∙ ap (take (length (keys_of (take (suc j) es)) - length (keys_of (take j es)))) (drop_both (size_of s.axes) (length (keys_of (take j es))) words) ∙ rw (d, k) refl);
      shape = rw here r.shape;
    })

pub found : (es : List Shape) (name : List ℕ) (slot : ℕ) (words : List ℕ) → Some slot ≡ slot_of es name → Found es name slot words
found [] name slot words h = absurd (let f : Some slot ≡ None = h in cc)
found (s ∷ es) name slot words h = found_at s es name slot words (bytes_eq name s.name) (slot_of es name) refl refl (λ j e. found es name j (drop (size_of s.axes) words) e) h

missing : (es : List Shape) (name : List ℕ) (words : List ℕ) → IsApart name es → (name_words es name words ≡ []) × (find (λ (s : Shape). bytes_eq name s.name) es ≡ None)
missing [] name words h = (refl, refl)
missing (s ∷ es) name words h = let r = missing es name (drop (size_of s.axes) words) h.1 in (rw h.0 r.0, rw h.0 r.1)

-- the entry of a name with a slot
pub entry_found : (es : List Shape) (name copy : List ℕ) (slot from to : ℕ) (sh : Shape) (words part : List ℕ) (flag : Bool) → Some slot ≡ slot_of es name → slot < length es → sh ≡ get_or es slot sh → copy ≡ name
    → from ≡ length (keys_of (take slot es)) → to ≡ length (keys_of (take (slot + 1) es)) → part ≡ take (to - from) (drop from words) → flag ≡ is_empty sh.axes
    → record { name = copy; scalar = flag; words = part } ≡ entry_at es words name
entry_found es name copy slot from to sh words part flag h lt is c f t p b =
    let r : Found es name slot words = found es name slot words h in
    let shape : find (λ (s : Shape). bytes_eq name s.name) es ≡ Some sh = r.shape ∙ got es slot sh lt is in
    let n : to ≡ length (keys_of (take (suc slot) es)) = t ∙ ap (λ k. length (keys_of (take k es))) (add-one slot) in
    let q : part ≡ name_words es name words = p ∙ rw (n, f) refl ∙ sym r.region in
    let g : flag ≡ is_scalar (find (λ (s : Shape). bytes_eq name s.name) es) = b ∙ ap is_scalar (sym shape) in
    rw (c, q, g) refl

pub entry_missing : (es : List Shape) (name copy words : List ℕ) → None ≡ slot_of es name → copy ≡ name → record { name = copy; scalar = false; words = [] } ≡ entry_at es words name
entry_missing es name copy words h c =
    let r = missing es name words (slot_missing es name (sym h)) in
    rw (c, r.0, r.1) refl

pub empty_is : {A : Type 0} (xs : List A) (b : Bool) → IsTrue b ↔ (xs ≡ []) → b ≡ is_empty xs
empty_is [] true h = refl
empty_is [] false h = absurd (let f : false ≡ true = h.1 refl in cc)
empty_is (x ∷ xs) true h = absurd (let f : x ∷ xs ≡ [] = h.0 refl in cc)
empty_is (x ∷ xs) false h = refl

-- words written over as many others
written_over : (s ws : List ℕ) → length s ≡ length ws → written s 0 ws ≡ ws
written_over s ws h =
    written-is s 0 ws (omega arith) ∙ ap (λ ys. ws ++ ys) (drop_all (0 + length ws) s (omega arith)) ∙ append-nil ws

pub written_all : (es : List Shape) (values : List Entry) → written (replicate (length (keys_of es)) 0) 0 (place_words es values) ≡ place_words es values
written_all es values = written_over _ (place_words es values) (length-replicate (length (keys_of es)) 0 ∙ sym (length_places es values))
