-- The words of names among those of all places.
use Rattle.std.proofs.Common.{◌≡◌, ℕ, zero, suc, ◌+◌, ◌<◌, ◌≤◌, cond, bytes_eq, List, [], ◌∷◌, ◌++◌, map, length, take, drop, get_or, replicate, refl, ap, sym, ◌∙◌, arith, length-append, length-drop}
use Rattle.std.specs.Prelude.{ℤ}
use Rattle.std.proofs.lemmas.List.{take-map, drop-map, get_or-drop, length-map}
use Rattle.std.proofs.lemmas.Simd.{splat_is_map}
use Rattle.store_core.specs.declared.layout.Shape.{Shape}
use Rattle.store_core.specs.Keys.{subscripts_of, keys_of, keys_of_shape, size_of}
use Rattle.store_core.specs.Filled.{name_words}
use Rattle.store_core.proofs.Slots.{length_shape}
use Rattle.meaning.specs.Sites.{Key}
use Rattle.transposition.specs.Worlds.{name_at}
use Rattle.transposition.proofs.Keys.{name_later}
use Rattle.sound_programs.proofs.Lists.{at_test, same_name}

-- ---- the names of places

pub name_left : (ks ls : List Key) (j : ℕ) → j < length ks → name_at (ks ++ ls) j ≡ name_at ks j
name_left [] ls j h = absurd (omega arith)
name_left (k ∷ ks) ls zero h = refl
name_left (k ∷ ks) ls (suc j) h = name_later k (ks ++ ls) j ∙ (name_left ks ls j (omega arith) ∙ sym (name_later k ks j))

name_right : (ks ls : List Key) (j i : ℕ) → j ≡ length ks + i → name_at (ks ++ ls) j ≡ name_at ls i
name_right [] ls j i e = ap (name_at ls) (omega arith)
name_right (k ∷ ks) ls zero i e = absurd (omega arith)
name_right (k ∷ ks) ls (suc j) i e = name_later k (ks ++ ls) j ∙ name_right ks ls j i (omega arith)

abbrev keys_with : List ℕ → List (List ℤ) → List Key
keys_with x l = map (λ ss. (x, ss)) l

one_name : (x : List ℕ) (l : List (List ℤ)) (j : ℕ) → j < length (keys_with x l) → name_at (keys_with x l) j ≡ x
one_name x [] j h = absurd (omega arith)
one_name x (ss ∷ l) zero h = refl
one_name x (ss ∷ l) (suc j) h = name_later (x, ss) (keys_with x l) j ∙ one_name x l j (omega arith)

pub more_places : (s : Shape) (es : List Shape) → length (keys_of (s ∷ es)) ≡ size_of s.axes + length (keys_of es)
more_places s es = length-append (keys_of_shape s) (keys_of es) ∙ ap (λ n. n + length (keys_of es)) (length_shape s)

-- the places of the first shape, and further ones
pub name_first : (s : Shape) (es : List Shape) (j : ℕ) → j < size_of s.axes → name_at (keys_of (s ∷ es)) j ≡ s.name
name_first s es j h =
    let l : j < length (keys_of_shape s) = omega (arith, length_shape s) in
    name_left (keys_of_shape s) (keys_of es) j l ∙ one_name s.name (subscripts_of s.axes) j l

pub name_next : (s : Shape) (es : List Shape) (j i : ℕ) → j ≡ size_of s.axes + i → name_at (keys_of (s ∷ es)) j ≡ name_at (keys_of es) i
name_next s es j i e = name_right (keys_of_shape s) (keys_of es) j i (omega (arith, length_shape s))

-- ---- the words of a name

take_same : (n : ℕ) (xs ys : List ℕ) → n ≤ length xs → n ≤ length ys → ((j : ℕ) → j < n → get_or xs j 0 ≡ get_or ys j 0) → take n xs ≡ take n ys
take_same zero xs ys a b h = refl
take_same (suc n) [] ys a b h = absurd (omega arith)
take_same (suc n) (x ∷ xs) [] a b h = absurd (omega arith)
take_same (suc n) (x ∷ xs) (y ∷ ys) a b h =
    ap (λ z. z ∷ take n xs) (h 0 (omega arith)) ∙ ap (λ zs. y ∷ zs) (take_same n xs ys (omega arith) (omega arith) (λ j l. h (suc j) (omega arith)))

-- words that are the same at a name's places
pub named_same : (es : List Shape) (x : List ℕ) (xs ys : List ℕ) → length xs ≡ length (keys_of es) → length ys ≡ length (keys_of es)
    → ((j : ℕ) → j < length (keys_of es) → name_at (keys_of es) j ≡ x → get_or xs j 0 ≡ get_or ys j 0) → name_words es x xs ≡ name_words es x ys
named_same [] x xs ys a b h = refl
named_same (s ∷ es) x xs ys a b h =
    at_test (λ t. cond t (take n xs) (name_words es x (drop n xs)) ≡ cond t (take n ys) (name_words es x (drop n ys))) (bytes_eq x s.name)
    (λ e. take_same n xs ys (omega (arith, m)) (omega (arith, m))
    (λ j l. h j (omega (arith, m)) (name_first s es j l ∙ sym (same_name x s.name e))))
    (λ e. named_same es x (drop n xs) (drop n ys) (length-drop n xs ∙ omega (arith, m)) (length-drop n ys ∙ omega (arith, m)) later)
  where
    n : ℕ
    n = size_of s.axes

    m : length (keys_of (s ∷ es)) ≡ size_of s.axes + length (keys_of es)
    m = more_places s es

    later : (j : ℕ) → j < length (keys_of es) → name_at (keys_of es) j ≡ x → get_or (drop n xs) j 0 ≡ get_or (drop n ys) j 0
    later j l k = get_or-drop n xs j 0 ∙ (h (n + j) (omega (arith, m)) (name_next s es (n + j) j refl ∙ k) ∙ sym (get_or-drop n ys j 0))

pub named_map : (f : ℕ → ℕ) (es : List Shape) (x ws : List ℕ) → name_words es x (map f ws) ≡ map f (name_words es x ws)
named_map f [] x ws = refl
named_map f (s ∷ es) x ws =
    at_test (λ t. cond t (take n (map f ws)) (name_words es x (drop n (map f ws))) ≡ map f (cond t (take n ws) (name_words es x (drop n ws)))) (bytes_eq x s.name)
    (λ e. take-map f n ws) (λ e. ap (name_words es x) (drop-map f n ws) ∙ named_map f es x (drop n ws))
  where
    n : ℕ
    n = size_of s.axes

abbrev no_word : ℕ → ℕ
no_word w = 0

none_there : (ws : List ℕ) (j : ℕ) → get_or (map no_word ws) j 0 ≡ 0
none_there [] j = refl
none_there (w ∷ ws) zero = refl
none_there (w ∷ ws) (suc j) = none_there ws j

-- words that are 0 at a name's places, as many as others have there
pub named_zeros : (es : List Shape) (x : List ℕ) (xs ys : List ℕ) → length xs ≡ length (keys_of es) → length ys ≡ length (keys_of es)
    → ((j : ℕ) → j < length (keys_of es) → name_at (keys_of es) j ≡ x → get_or ys j 0 ≡ 0)
    → replicate (length (name_words es x xs)) 0 ≡ name_words es x ys
named_zeros es x xs ys a b h =
    splat_is_map (name_words es x xs) (length (name_words es x xs)) 0 refl
    ∙ (sym (named_map no_word es x xs)
    ∙ named_same es x (map no_word xs) ys (length-map xs no_word ∙ a) b (λ j l k. none_there xs j ∙ sym (h j l k)))
