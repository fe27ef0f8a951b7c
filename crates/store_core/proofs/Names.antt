-- The subscripts at a position.
use Rattle.std.proofs.Common.{◌≡◌, ℕ, zero, suc, ◌+◌, ◌*◌, ◌/◌, ◌%◌, ◌<◌, List, [], ◌∷◌, ◌++◌, map, flat_map, length, slice_get, ℤ, pos, ◌+ℤ◌, ◌-◌, ◌≤◌, take, get_or, Some, None, option_map, Result, Ok, Err, IfOk, refl, sym, subst, add-one, length-append, ap, ◌∙◌, arith}
use Rattle.std.proofs.lemmas.List.{length-map}
use Rattle.std.proofs.Math.Nat.{div-lt_iff_lt-mul}
use Rattle.std.proofs.lemmas.Int.{ints}
use Rattle.store_core.specs.declared.bound.Axis.{Axis}
use Rattle.store_core.specs.Keys.{run, subscripts_of, size_of}
use Rattle.store_core.specs.Texts.{subscripts_at, text_of, IsTextAt}
use Rattle.store_core.specs.declared.layout.Shape.{Shape}
use Rattle.store_core.specs.Keys.{keys_of, keys_of_shape}
use Rattle.store_core.proofs.Columns.{length-run}
use Rattle.store_core.proofs.Slots.{length_shape, got, first_next}

get_left : {A : Type 0} (xs ys : List A) (k : ℕ) → k < length xs → slice_get (xs ++ ys) k ≡ slice_get xs k
get_left [] ys k h = absurd (omega arith)
get_left (x ∷ xs) ys zero h = refl
get_left (x ∷ xs) ys (suc k) h = get_left xs ys k (omega arith)

get_right : {A : Type 0} (xs ys : List A) (n k : ℕ) → n ≡ length xs + k → slice_get (xs ++ ys) n ≡ slice_get ys k
get_right [] ys n k e = ap (slice_get ys) (omega arith)
get_right (x ∷ xs) ys zero k e = absurd (omega arith)
get_right (x ∷ xs) ys (suc n) k e = get_right xs ys n k (omega arith)

get_map : {A B : Type 0} (f : A → B) (xs : List A) (k : ℕ) → slice_get (map f xs) k ≡ option_map f (slice_get xs k)
get_map f [] k = refl
get_map f (x ∷ xs) zero = refl
get_map f (x ∷ xs) (suc k) = get_map f xs k

get_run : (lo : ℤ) (n k : ℕ) → k < n → slice_get (run lo n) k ≡ Some (lo +ℤ pos k)
get_run lo zero k h = absurd (omega arith)
get_run lo (suc n) zero h = ap Some (omega (arith, ints))
get_run lo (suc n) (suc k) h = get_run (lo +ℤ pos 1) n k (omega arith) ∙ ap Some (omega (arith, ints))

get_block : (a : Axis) (rs : List (List ℤ)) (k r q : ℕ) → r < a.extent → k ≡ r + a.extent * q
    → slice_get (flat_map (λ t. map (λ s. s ∷ t) (run a.lower a.extent)) rs) k ≡ option_map (λ t. (a.lower +ℤ pos r) ∷ t) (slice_get rs q)
get_block a [] k r q h e = refl
get_block a (t ∷ rs) k r zero h e =
    let long : length (map (λ (s : ℤ). s ∷ t) (run a.lower a.extent)) ≡ a.extent = simp length-map (length-run a.lower a.extent) in
    let same : k ≡ r = omega arith in
    get_left (map (λ (s : ℤ). s ∷ t) (run a.lower a.extent)) _ k (omega arith) ∙ get_map (λ (s : ℤ). s ∷ t) (run a.lower a.extent) k
    ∙ rw same (ap (option_map (λ (s : ℤ). s ∷ t)) (get_run a.lower a.extent r h))
get_block a (t ∷ rs) k r (suc q) h e =
    let long : length (map (λ (s : ℤ). s ∷ t) (run a.lower a.extent)) ≡ a.extent = simp length-map (length-run a.lower a.extent) in
    get_right (map (λ (s : ℤ). s ∷ t) (run a.lower a.extent)) _ k (r + a.extent * q) (omega arith) ∙ get_block a rs (r + a.extent * q) r q h refl

pub parts : (n m k : ℕ) → k < n * m → (0 < n) × (k / n < m)
parts zero m k h = absurd (omega arith)
parts (suc n) m k h = (omega arith, let g : k < m * suc n = omega arith in let p : 0 < suc n = omega arith in (div-lt_iff_lt-mul p).1 g)

-- the subscripts that stand at a position
pub get_subscripts : (axes : List Axis) (k : ℕ) → k < size_of axes → slice_get (subscripts_of axes) k ≡ Some (subscripts_at axes k)
get_subscripts [] zero h = refl
get_subscripts [] (suc k) h = absurd (omega arith)
get_subscripts (a ∷ axes) k h =
    let p = parts a.extent (size_of axes) k h in
    let pos_n : 0 < a.extent = p.0 in
    get_block a (subscripts_of axes) k (k % a.extent) (k / a.extent) (omega arith) (omega arith)
    ∙ ap (option_map (λ t. (a.lower +ℤ pos (k % a.extent)) ∷ t)) (get_subscripts axes (k / a.extent) p.1)

key_in : (s : Shape) (k : ℕ) → k < size_of s.axes → slice_get (keys_of_shape s) k ≡ Some (s.name, subscripts_at s.axes k)
key_in s k h = get_map (λ ss. (s.name, ss)) (subscripts_of s.axes) k ∙ ap (option_map (λ (ss : List ℤ). (s.name, ss))) (get_subscripts s.axes k h)

-- the key at a place of a shape
key_at : (es : List Shape) (i : ℕ) (s : Shape) (place : ℕ) → slice_get es i ≡ Some s → length (keys_of (take i es)) ≤ place → place < length (keys_of (take (suc i) es))
    → slice_get (keys_of es) place ≡ Some (s.name, subscripts_at s.axes (place - length (keys_of (take i es))))
key_at [] i s place is low high = absurd (let f : None ≡ Some s = is in cc)
key_at (x ∷ es) zero s place is low high =
    let f : x ≡ s = cc in
    let l : place < length (keys_of_shape x) = omega (arith, length-append (keys_of_shape x) []) in
    let b : place < size_of x.axes = omega (arith, length_shape x) in
    let z : place - 0 ≡ place = omega arith in
    subst (λ (y : Shape). slice_get (keys_of (x ∷ es)) place ≡ Some (y.name, subscripts_at y.axes (place - 0))) f
    (get_left (keys_of_shape x) (keys_of es) place l ∙ key_in x place b ∙ ap (λ k. Some (x.name, subscripts_at x.axes k)) (sym z))
key_at (x ∷ es) (suc i) s place is low high =
    let n = length (keys_of_shape x) in
    let a = length-append (keys_of_shape x) (keys_of (take i es)) in
    let b = length-append (keys_of_shape x) (keys_of (take (suc i) es)) in
    let e : place ≡ n + (place - n) = omega arith in
    let d : place - n - length (keys_of (take i es)) ≡ place - length (keys_of_shape x ++ keys_of (take i es)) = omega arith in
    get_right (keys_of_shape x) (keys_of es) place (place - n) e
    ∙ key_at es i s (place - n) is (omega arith) (omega arith) ∙ ap (λ k. Some (s.name, subscripts_at s.axes k)) d

pub text_at : (es list : List Shape) (i : ℕ) (s : Shape) (first next place at : ℕ) (text : List ℕ) → list ≡ es → i < length list → s ≡ get_or list i s → first ≡ length (keys_of (take i es))
    → next ≡ length (keys_of (take (i + 1) es)) → first ≤ place → place < next → at ≡ place - first → text ≡ text_of (s.name, subscripts_at s.axes at) → IsTextAt (keys_of es) place text
text_at es list i s first next place at text same lt is f n low high a t =
    let g : slice_get es i ≡ Some s = subst (λ l. slice_get l i ≡ Some s) same (got list i s lt is) in
    let m : next ≡ length (keys_of (take (suc i) es)) = n ∙ ap (λ k. length (keys_of (take k es))) (add-one i) in
    let k = key_at es i s place g (omega arith) (omega arith) in
    let e : place - length (keys_of (take i es)) ≡ at = omega arith in
    ap (option_map text_of) k ∙ ap (λ q. Some (text_of (s.name, subscripts_at s.axes q))) e ∙ ap Some (sym t)

-- the places of a shape are as many as it has elements
pub span : (es list : List Shape) (i : ℕ) (s : Shape) (first next : ℕ) → list ≡ es → i < length list → s ≡ get_or list i s → first ≡ length (keys_of (take i es))
    → next ≡ length (keys_of (take (i + 1) es)) → next ≡ first + size_of s.axes
span es list i s first next same lt is f n =
    let g : slice_get es i ≡ Some s = subst (λ l. slice_get l i ≡ Some s) same (got list i s lt is) in
    n ∙ ap (λ k. length (keys_of (take k es))) (add-one i) ∙ first_next es i s g ∙ ap (λ k. k + size_of s.axes) (sym f)

-- the text is told where there was memory for it
pub text_at_all : {E V : Type 0} (es list : List Shape) (i : ℕ) (s : Shape) (first next place at : ℕ) (items : V → List ℕ) (r : Result V E) → list ≡ es → i < length list → s ≡ get_or list i s → first ≡ length (keys_of (take i es))
    → next ≡ length (keys_of (take (i + 1) es)) → first ≤ place → place < next → at ≡ place - first → IfOk r (λ v. items v ≡ text_of (s.name, subscripts_at s.axes at)) → IfOk r (λ v. IsTextAt (keys_of es) place (items v))
text_at_all es list i s first next place at items (Ok v) same lt is f n low high a t = text_at es list i s first next place at (items v) same lt is f n low high a t
text_at_all es list i s first next place at items (Err e) same lt is f n low high a t = tt
