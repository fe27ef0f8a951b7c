-- The words at a program's entry, the weights, and what the reverse sweep begins with.
use Rattle.std.proofs.Common.{◌≡◌, inl, inr, ℕ, zero, suc, ◌+◌, ◌-◌, ◌<◌, ◌^◌, Bool, true, false, cond, if◌then◌else◌, bytes_eq, List, [], ◌∷◌, ◌++◌, All, map, length, get_or, replicate, Option, Some, None, Result, Ok, Err, refl, ap, sym, subst, ◌∙◌, arith}
use Rattle.std.specs.Prelude.{slice_index}
use Rattle.std.proofs.lemmas.Bool.{cases_lt}
use Rattle.std.proofs.lemmas.List.{get_or-replicate, get_or_past, get_or_append_left, get_or-append_right, length-replicate}
use Rattle.std.proofs.lemmas.List.Elements.{All-head, All-tail, All-append}
use Rattle.ring_core.specs.Ring.{ring_add, ring_mul}
use Rattle.fl_ast.specs.declared.kind.Kind.TheVariants as kind
use Rattle.fl_types.specs.Sharing.{has_name}
use Rattle.store_core.specs.declared.layout.Shape.{Shape}
use Rattle.store_core.specs.declared.values.Entry.{Entry}
use Rattle.store_core.specs.Filled.{fitted, shape_words, place_words}
use Rattle.store_core.specs.Keys.{keys_of, size_of}
use Rattle.store_core.specs.Values.{words_in}
use Rattle.store_core.proofs.Filling.{length-fitted}
use Rattle.meaning.specs.declared.value.Dual.{Dual}
use Rattle.meaning.specs.declared.value.Value.{Value}
use Rattle.meaning.specs.declared.value.Value.TheVariants.{Index, Ring}
use Rattle.meaning.specs.declared.value.TrapAt.{TrapAt}
use Rattle.meaning.specs.Sites.{Key, Cells, Site, kind_of, word_of, with_tangent}
use Rattle.meaning.specs.Expressions.{content}
use Rattle.meaning.specs.Adjoints.{cells_along, tangent_of, pairing_of, pairing_after}
use Rattle.meaning.specs.Programs.{value_of_word, cells_of, numbers_from}
use Rattle.transposition.specs.Law.{AreWords}
use Rattle.transposition.specs.Worlds.{name_at}
use Rattle.transposition.proofs.Keys.{name_later}
use Rattle.transposition.proofs.Places.{content_later}
use Rattle.sound_programs.proofs.Lists.{at_test, never, same_name}
use Rattle.answer_law.specs.Answered.{AreSmall, AreAmong}
use Rattle.answer_law.proofs.Words.{name_first, name_next}

abbrev pub IsSmall : ℕ → Type 0
IsSmall w = w < 2 ^ 64

-- ---- the words of places

pub none_small : All IsSmall []
none_small k d l = absurd (omega arith)

pub one_more : (w : ℕ) (ws : List ℕ) → IsSmall w → All IsSmall ws → All IsSmall (w ∷ ws)
one_more w ws h t zero d l = h
one_more w ws h t (suc k) d l = t k d (omega arith)

pub zero_small : IsSmall 0
zero_small = omega arith

fitted_small : (n : ℕ) (ws : List ℕ) → All IsSmall ws → All IsSmall (fitted n ws)
fitted_small zero ws h = none_small
fitted_small (suc n) [] h = one_more 0 (fitted n []) zero_small (fitted_small n [] h)
fitted_small (suc n) (w ∷ ws) h = one_more w (fitted n ws) (All-head IsSmall w ws h) (fitted_small n ws (All-tail IsSmall w ws h))

words_small : (es : List Entry) (x : List ℕ) → AreSmall es → All IsSmall (words_in es x)
words_small [] x h = none_small
words_small (e ∷ es) x h =
    at_test (λ b. All IsSmall (cond b e.words (words_in es x))) (bytes_eq x e.name) (λ t. All-head (λ (g : Entry). All IsSmall g.words) e es h)
    (λ t. words_small es x (All-tail (λ (g : Entry). All IsSmall g.words) e es h))

pub places_small : (es : List Shape) (values : List Entry) → AreSmall values → All IsSmall (place_words es values)
places_small [] values h = none_small
places_small (s ∷ es) values h =
    All-append IsSmall (shape_words values s) (place_words es values) (fitted_small (size_of s.axes) (words_in values s.name) (words_small values s.name h))
    (places_small es values h)

zeros_small : (n : ℕ) → All IsSmall (replicate n 0)
zeros_small n k d l = subst IsSmall (sym (get_or-replicate n k 0 d (omega (arith, length-replicate {A = ℕ} n 0)))) zero_small

pub zero_at : (n q : ℕ) → slice_index (replicate n 0) q ≡ 0
zero_at n q = elim (cases_lt q n) [
  | inl h ↦ get_or-replicate n q 0 0 h
  | inr h ↦ get_or_past (replicate n 0) q 0 (omega (arith, length-replicate {A = ℕ} n 0))
]

all_words : (ws : List ℕ) → All IsSmall ws → AreWords ws
all_words ws h q = elim (cases_lt q (length ws)) [
  | inl l ↦ h q 0 l
  | inr l ↦ subst IsSmall (sym (get_or_past ws q 0 l)) zero_small
]

-- with zeros behind them
pub words_and_zeros : (ws : List ℕ) (n : ℕ) → All IsSmall ws → AreWords (ws ++ replicate n 0)
words_and_zeros ws n h = all_words (ws ++ replicate n 0) (All-append IsSmall ws (replicate n 0) h (zeros_small n))

-- ---- weights

unasked : (es : List Entry) (of : List (List ℕ)) (x : List ℕ) → AreAmong of es → has_name x of ≡ false → words_in es x ≡ []
unasked [] of x a h = refl
unasked (e ∷ es) of x a h =
    at_test (λ b. cond b e.words (words_in es x) ≡ []) (bytes_eq x e.name)
    (λ t. never (has_name x of) (ap (λ z. has_name z of) (same_name x e.name t) ∙ All-head (λ (g : Entry). has_name g.name of ≡ true) e es a) h)
    (λ t. unasked es of x (All-tail (λ (g : Entry). has_name g.name of ≡ true) e es a) h)

none_fitted : (n q : ℕ) → get_or (fitted n []) q 0 ≡ 0
none_fitted zero q = refl
none_fitted (suc n) zero = refl
none_fitted (suc n) (suc q) = none_fitted n q

-- a place whose name isn't asked of has the weight 0
pub unseeded : (es : List Shape) (weights : List Entry) (of : List (List ℕ)) (q : ℕ) → AreAmong of weights → has_name (name_at (keys_of es) q) of ≡ false
    → get_or (place_words es weights) q 0 ≡ 0
unseeded [] weights of q a h = refl
unseeded (s ∷ es) weights of q a h = elim (cases_lt q (size_of s.axes)) [
  | inl l ↦
      get_or_append_left (shape_words weights s) (place_words es weights) 0 q (omega (arith, long))
      ∙ (ap (λ ws. get_or (fitted (size_of s.axes) ws) q 0) (unasked weights of s.name a (ap (λ x. has_name x of) (sym (name_first s es q l)) ∙ h))
      ∙ none_fitted (size_of s.axes) q)
  | inr l ↦
      get_or-append_right (shape_words weights s) (place_words es weights) (size_of s.axes) q 0 long l
      ∙ unseeded es weights of (q - size_of s.axes) a (ap (λ x. has_name x of) (sym (name_next s es q (q - size_of s.axes) (omega arith))) ∙ h)
]
  where
    long : length (shape_words weights s) ≡ size_of s.axes
    long = length-fitted (size_of s.axes) (words_in weights s.name)

-- ---- contents at the entry

-- an argument of the ring kind has a value
pub has_value : (s : Site) (args : List (List ℕ)) (keys : List Key) (ws : List ℕ) (j : ℕ) → j < length keys → j < length ws
    → has_name (name_at keys j) args ≡ true → s.ring (name_at keys j) ≡ true → (d : Dual) × (content (cells_of s args keys ws) j ≡ Some (Ring d))
has_value s args [] ws j h l a r = absurd (omega arith)
has_value s args (k ∷ keys) [] j h l a r = absurd (omega arith)
has_value s args (k ∷ keys) (w ∷ ws) zero h l a r = (record { value = w; tangent = 0 }, by_test (has_name k.0 args) (s.ring k.0) a r)
  where
    by_test : (b c : Bool) → b ≡ true → c ≡ true
        → (if b then Some (value_of_word (if c then kind.Ring else kind.Index) w) else None) ≡ Some (Ring (record { value = w; tangent = 0 }))
    by_test true true e f = refl
    by_test true false e f = never false f refl
    by_test false c e f = never false e refl
has_value s args (k ∷ keys) (w ∷ ws) (suc j) h l a r =
    let g = has_value s args keys ws j (omega arith) (omega arith) (ap (λ x. has_name x args) (sym (name_later k keys j)) ∙ a)
    (ap s.ring (sym (name_later k keys j)) ∙ r) in
    (g.0, content_later (if has_name k.0 args then Some (value_of_word (kind_of s k.0) w) else None) (cells_of s args keys ws) j ∙ g.1)

-- the entry's tangents are 0 as they are
pub entry_along : (s : Site) (args : List (List ℕ)) (keys : List Key) (ws : List ℕ) → cells_along [] (cells_of s args keys ws) ≡ cells_of s args keys ws
entry_along s args [] ws = refl
entry_along s args (k ∷ keys) [] = ap (λ (c : Cells). None ∷ c) (entry_along s args keys [])
entry_along s args (k ∷ keys) (w ∷ ws) =
    ap (λ (c : Cells). with_tangent 0 (cell (has_name k.0 args)) ∷ c) (entry_along s args keys ws)
    ∙ ap (λ (v : Option Value). v ∷ cells_of s args keys ws) (by_test (has_name k.0 args) (s.ring k.0))
  where
    cell : Bool → Option Value
    cell b = if b then Some (value_of_word (kind_of s k.0) w) else None

    by_test : (b c : Bool)
        → with_tangent 0 (if b then Some (value_of_word (if c then kind.Ring else kind.Index) w) else None)
        ≡ (if b then Some (value_of_word (if c then kind.Ring else kind.Index) w) else None)
    by_test true true = refl
    by_test true false = refl
    by_test false c = refl

-- ---- sums with zeros

zero_product : (t : ℕ) → ring_mul 0 t ≡ 0
zero_product t = omega arith

zero_sum : (a b : ℕ) → a ≡ 0 → b ≡ 0 → ring_add a b ≡ 0
zero_sum a b e f = rw (e, f) refl

pairing_zeros : (n : ℕ) (s : Cells) → pairing_of (replicate n 0) s ≡ 0
pairing_zeros zero s = refl
pairing_zeros (suc n) [] = refl
pairing_zeros (suc n) (c ∷ s) = zero_sum (ring_mul 0 (tangent_of c)) (pairing_of (replicate n 0) s) (zero_product (tangent_of c)) (pairing_zeros n s)

pairing_more : (ws : List ℕ) (n : ℕ) (s : Cells) → pairing_of (ws ++ replicate n 0) s ≡ pairing_of ws s
pairing_more [] n s = pairing_zeros n s
pairing_more (w ∷ ws) n [] = refl
pairing_more (w ∷ ws) n (c ∷ s) = ap (ring_add (ring_mul w (tangent_of c))) (pairing_more ws n s)

-- zeros behind a seed change nothing
pub seed_more : (ws : List ℕ) (n : ℕ) (r : Result Cells TrapAt) → pairing_after (ws ++ replicate n 0) r ≡ pairing_after ws r
seed_more ws n (Ok s) = pairing_more ws n s
seed_more ws n (Err t) = refl

-- ---- words by number

pub length-numbers : (at n : ℕ) → length (numbers_from at n) ≡ n
length-numbers at zero = refl
length-numbers at (suc n) = ap suc (length-numbers (at + 1) n)

pub numbered : (f : ℕ → ℕ) (at n j : ℕ) → j < n → get_or (map f (numbers_from at n)) j 0 ≡ f (at + j)
numbered f at zero j h = absurd (omega arith)
numbered f at (suc n) zero h = ap f (omega arith)
numbered f at (suc n) (suc j) h = numbered f (at + 1) n j (omega arith) ∙ ap f (omega arith)

-- the word of a content
pub word_here : (s : Cells) (q : ℕ) (v : Value) → content s q ≡ Some v → get_or (map word_of s) q 0 ≡ word_of (Some v)
word_here [] q v h = absurd (let e : None ≡ Some v = h in cc)
word_here (c ∷ s) zero v h = ap word_of h
word_here (c ∷ s) (suc q) v h = word_here s q v (sym (content_later c s q) ∙ h)

word_along : (t : ℕ) (o : Option Value) → word_of (with_tangent t o) ≡ word_of o
word_along t None = refl
word_along t (Some (Index z)) = refl
word_along t (Some (Ring d)) = refl

-- the words of cells without their tangents
pub words_along : (s : Cells) → map word_of (cells_along [] s) ≡ map word_of s
words_along [] = refl
words_along (c ∷ s) = ap (λ w. w ∷ map word_of (cells_along [] s)) (word_along 0 c) ∙ ap (λ ws. word_of c ∷ ws) (words_along s)
