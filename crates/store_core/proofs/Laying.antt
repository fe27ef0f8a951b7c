-- A layout, shape by shape.
use Rattle.std.proofs.Common.{◌≡◌, ◌⊎◌, inl, inr, ℕ, zero, suc, ◌+◌, ◌*◌, ◌-◌, ◌<◌, ◌≤◌, ◌^◌, min, Bool, true, false, cond, ◌||◌, List, [], ◌∷◌, ◌++◌, All, length, take, drop, get_or, slice_get, bytes_eq, Some, None, refl, sym, ap, ◌∙◌, arith, length-append, append-nil, Err}
use Rattle.std.proofs.lemmas.Bool.{cases_lt}
use Rattle.std.proofs.lemmas.List.{get_or_append_left, take-append-le}
use Rattle.std.proofs.Math.Seq.{get_or-append_seam}
use Rattle.std.proofs.lemmas.List.Elements.{All-append}
use Rattle.std.proofs.lemmas.Grind.{flat_map-append}
use Rattle.std.specs.List.{list_any}
use Rattle.store_core.specs.declared.bound.Axis.{Axis}
use Rattle.store_core.specs.declared.layout.Shape.{Shape}
use Rattle.store_core.specs.declared.layout.LayoutError.{LayoutError}
use Rattle.store_core.specs.declared.layout.LayoutError.TheVariants.{TooManyPlaces, Memory}
use Rattle.store_core.specs.Bounds.{IsLow}
use Rattle.store_core.specs.Keys.{keys_of, keys_of_shape, size_of, slot_of, IsApart, HasEachOnce, IsLaidOut, laid, laid_all, LaysWithin}
use Rattle.store_core.proofs.Slots.{length_shape, turned, slot_missing, slot_found, same_name}
use Rattle.store_core.proofs.Offsets.{size_more}

keys_more : (es : List Shape) (s : Shape) → length (keys_of (es ++ s ∷ [])) ≡ length (keys_of es) + size_of s.axes
keys_more es s =
    ap length (flat_map-append keys_of_shape es (s ∷ [])) ∙ length-append (keys_of es) (keys_of_shape s ++ [])
    ∙ ap (λ ks. length (keys_of es) + length ks) (append-nil (keys_of_shape s)) ∙ ap (λ n. length (keys_of es) + n) (length_shape s)

any_apart : (es : List Shape) (name : List ℕ) → IsApart name es → list_any (λ (e : Shape). bytes_eq name e.name) es ≡ false
any_apart [] name h = refl
any_apart (e ∷ es) name h = rw h.0 (any_apart es name h.1)

either_true : (a b : Bool) → b ≡ true → (a || b) ≡ true
either_true true b h = refl
either_true false b h = h

any_here : (es : List Shape) (name : List ℕ) (i : ℕ) (e : Shape) → slice_get es i ≡ Some e → bytes_eq name e.name ≡ true → list_any (λ (x : Shape). bytes_eq name x.name) es ≡ true
any_here [] name i e is h = absurd (let f : None ≡ Some e = is in cc)
any_here (x ∷ es) name zero e is h = let f : x ≡ e = cc in let g : bytes_eq name x.name ≡ true = ap (λ (y : Shape). bytes_eq name y.name) f ∙ h in rw g refl
any_here (x ∷ es) name (suc i) e is h = either_true (bytes_eq name x.name) _ (any_here es name i e is h)

-- a name that has a slot is there already
pub laid_same : (es : List Shape) (s : Shape) (i : ℕ) → Some i ≡ slot_of es s.name → laid es s ≡ es
laid_same es s i h =
    let r = slot_found es s.name i h in
    let t : bytes_eq s.name r.0.name ≡ true = ap (bytes_eq s.name) (sym r.2) ∙ same_name s.name in
    ap (λ b. cond b es (es ++ s ∷ [])) (any_here es s.name i r.0 r.1 t)

pub laid_new : (es : List Shape) (s : Shape) → None ≡ slot_of es s.name → laid es s ≡ es ++ s ∷ []
laid_new es s h = ap (λ b. cond b es (es ++ s ∷ [])) (any_apart es s.name (slot_missing es s.name (sym h)))

apart_more : (es : List Shape) (name : List ℕ) (s : Shape) → IsApart name es → bytes_eq name s.name ≡ false → IsApart name (es ++ s ∷ [])
apart_more [] name s h b = (b, tt)
apart_more (e ∷ es) name s h b = (h.0, apart_more es name s h.1 b)

once_more : (es : List Shape) (s : Shape) → HasEachOnce es → IsApart s.name es → HasEachOnce (es ++ s ∷ [])
once_more [] s h a = (tt, tt)
once_more (e ∷ es) s h a = (apart_more es e.name s h.0 (turned s.name e.name _ a.0 refl), once_more es s h.1 a.1)

first_none : (i : ℕ) → i ≤ 0 → get_or (0 ∷ []) i 0 ≡ length (keys_of (take i []))
first_none zero h = refl
first_none (suc i) h = absurd (omega arith)

pub laid_none : IsLaidOut [] (0 ∷ [])
laid_none = record { long = refl; each = λ i h. first_none i h; small = omega arith; once = tt; low = λ k d h. absurd (omega arith) }

take_whole : (xs : List Shape) → take (length xs) xs ≡ xs
take_whole [] = refl
take_whole (x ∷ xs) = ap (λ ys. x ∷ ys) (take_whole xs)

each_more : (es : List Shape) (s : Shape) (firsts : List ℕ) (next : ℕ) → length firsts ≡ length es + 1 → ((i : ℕ) → i ≤ length es → get_or firsts i 0 ≡ length (keys_of (take i es)))
    → next ≡ length (keys_of (es ++ s ∷ [])) → (i : ℕ) → i ≤ length es + 1 → (i < length es + 1) ⊎ (length es + 1 ≤ i) → get_or (firsts ++ next ∷ []) i 0 ≡ length (keys_of (take i (es ++ s ∷ [])))
each_more es s firsts next long each is i h (inl lt) =
    let a : i < length firsts = omega arith in
    let b : i ≤ length es = omega arith in
    get_or_append_left firsts (next ∷ []) 0 i a ∙ each i b ∙ ap (λ xs. length (keys_of xs)) (sym (take-append-le i es (s ∷ []) b))
each_more es s firsts next long each is i h (inr ge) =
    let a : i ≡ length firsts = omega arith in
    let b : i ≡ length (es ++ s ∷ []) = omega (arith, length-append es (s ∷ [])) in
    ap (λ k. get_or (firsts ++ next ∷ []) k 0) a ∙ get_or-append_seam firsts next [] 0 ∙ is
    ∙ ap (λ xs. length (keys_of xs)) (sym (ap (λ k. take k (es ++ s ∷ [])) b ∙ take_whole (es ++ s ∷ [])))

one_low : (s : Shape) → All IsLow s.axes → All (λ (x : Shape). All IsLow x.axes) (s ∷ [])
one_low s h zero d lt = h
one_low s h (suc k) d lt = absurd (omega arith)

-- a new shape, with the number of places after it
pub laid_more : (es : List Shape) (s : Shape) (firsts : List ℕ) (count more next limit : ℕ) → limit ≤ 2 ^ 21 → IsLaidOut es firsts → None ≡ slot_of es s.name → All IsLow s.axes
    → count ≡ length (keys_of es) → more ≡ min (size_of s.axes) (2 ^ 40) → more ≤ limit - count → next ≡ count + more
    → IsLaidOut (es ++ s ∷ []) (firsts ++ next ∷ [])
laid_more es s firsts count more next limit cap h new low counted size fits is =
    let m : more ≡ size_of s.axes = omega arith in
    let k = keys_more es s in
    let n : next ≡ length (keys_of (es ++ s ∷ [])) = omega arith in
    record {
      long = omega (arith, length-append firsts (next ∷ []), length-append es (s ∷ []), h.long);
      each = λ i b. each_more es s firsts next h.long h.each n i (omega (arith, length-append es (s ∷ []))) (cases_lt i (length es + 1));
      small = omega (arith, h.small);
      once = once_more es s h.once (slot_missing es s.name (sym new));
      low = All-append (λ (x : Shape). All IsLow x.axes) es (s ∷ []) h.low (one_low s low);
    }

-- the places of the new shape are too many
pub laid_over : (es : List Shape) (s : Shape) (count more limit : ℕ) → limit ≤ 2 ^ 21 → None ≡ slot_of es s.name → count ≡ length (keys_of es) → count ≤ limit → more ≡ min (size_of s.axes) (2 ^ 40) → limit - count < more
    → limit < length (keys_of (laid es s))
laid_over es s count more limit cap new counted small size past =
    let k = keys_more es s in
    let e : length (keys_of (laid es s)) ≡ length (keys_of es) + size_of s.axes = ap (λ xs. length (keys_of xs)) (laid_new es s new) ∙ k in
    omega arith

pub laid_fits : (es : List Shape) (s : Shape) (count more limit : ℕ) → limit ≤ 2 ^ 21 → None ≡ slot_of es s.name → count ≡ length (keys_of es) → count ≤ limit → more ≡ min (size_of s.axes) (2 ^ 40) → more ≤ limit - count
    → length (keys_of (laid es s)) ≤ limit
laid_fits es s count more limit cap new counted small size fits =
    let k = keys_more es s in
    let e : length (keys_of (laid es s)) ≡ length (keys_of es) + size_of s.axes = ap (λ xs. length (keys_of xs)) (laid_new es s new) ∙ k in
    omega arith

capped_low : (p r n : ℕ) → p ≤ n → min (min p n * r) n ≡ min (p * r) n
capped_low p r n h = let m : min p n ≡ p = omega arith in rw m refl

capped_high : (p r n : ℕ) → n ≤ p → min (min p n * r) n ≡ min (p * r) n
capped_high p zero n h = let m : min p n * 0 ≡ p * 0 = omega arith in ap (λ y. min y n) m
capped_high p (suc r) n h = let m : min p n ≡ n = omega arith in rw m (omega arith)

capped_split : (p r n : ℕ) → (p < n) ⊎ (n ≤ p) → min (min p n * r) n ≡ min (p * r) n
capped_split p r n (inl h) = capped_low p r n (omega arith)
capped_split p r n (inr h) = capped_high p r n h

pub capped : (p r n : ℕ) → min (min p n * r) n ≡ min (p * r) n
capped p r n = capped_split p r n (cases_lt p n)

-- one extent more, capped
pub capped_more : (axes : List Axis) (size i big : ℕ) (d : Axis) → 2 ^ 40 ≤ big → i < length axes → min (size * size_of (drop i axes)) (2 ^ 40) ≡ min (size_of axes) (2 ^ 40)
    → min (min (min (size * (get_or axes i d).extent) big) (2 ^ 40) * size_of (drop (suc i) axes)) (2 ^ 40) ≡ min (size_of axes) (2 ^ 40)
capped_more axes size i big d h lt e =
    let n = (get_or axes i d).extent in
    let r = size_of (drop (suc i) axes) in
    let a : min (min (size * n) big) (2 ^ 40) ≡ min (size * n) (2 ^ 40) = omega arith in
    let b : size * n * r ≡ size * size_of (drop i axes) = omega (arith, ap (λ m. size * m) (size_more axes i d lt)) in
    ap (λ m. min (m * r) (2 ^ 40)) a ∙ capped (size * n) r (2 ^ 40) ∙ ap (λ m. min m (2 ^ 40)) b ∙ e

one_grows : (n : ℕ) (es : List Shape) (s : Shape) (b : Bool) → n < length (keys_of es) → n < length (keys_of (cond b es (es ++ s ∷ [])))
one_grows n es s true h = h
one_grows n es s false h = let k = keys_more es s in omega arith

-- later shapes take no place away
pub laid_grows : (n : ℕ) (es ss : List Shape) → n < length (keys_of es) → n < length (keys_of (laid_all es ss))
laid_grows n es [] h = h
laid_grows n es (s ∷ ss) h = laid_grows n (laid es s) ss (one_grows n es s _ h)

pub laid_all-append : (es ss ts : List Shape) → laid_all (laid_all es ss) ts ≡ laid_all es (ss ++ ts)
laid_all-append es [] ts = refl
laid_all-append es (s ∷ ss) ts = laid_all-append (laid es s) ss ts

-- too many places stay too many
pub too_many : (n : ℕ) (e : LayoutError) (es ss : List Shape) → LaysWithin n (Err e) es → LaysWithin n (Err e) (laid_all es ss)
too_many n TooManyPlaces es ss h = laid_grows n es ss h
too_many n Memory es ss h = tt
