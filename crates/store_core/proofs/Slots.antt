-- A place by its slot.
use Rattle.std.proofs.Common.{◌≡◌, ℕ, zero, suc, ◌+◌, ◌*◌, ◌<◌, ◌≤◌, ◌^◌, Bool, true, false, cond, ◌&&◌, List, [], ◌∷◌, ◌++◌, map, flat_map, length, take, get_or, slice_get, ℤ, bytes_eq, Option, Some, None, option_map, option_and_then, refl, sym, ap, ◌∙◌, subst, arith, length-append, add-one, IfSome}
use Rattle.std.proofs.lemmas.List.{length-map}
use Rattle.std.specs.Ordering.{int_eq}
use Rattle.std.specs.Cmp.{signed_Decides}
use Rattle.std.proofs.lemmas.Slice.Eq.{bytes_eq-Decides}
use Rattle.store_core.specs.declared.bound.Axis.{Axis}
use Rattle.store_core.specs.declared.layout.Shape.{Shape}
use Rattle.store_core.specs.Keys.{run, subscripts_of, keys_of_shape, keys_of, same_subscripts, same_key, first_at, place_of, size_of, offset_of, slot_of, place_in_slot, IsApart, HasEachOnce, IsLaidOut}
use Rattle.store_core.proofs.Columns.{else_by, first_at-append, first_at-map, first_at-none, length-run, offset-first_at}

first_at-and_left : {A : Type 0} (b : Bool) (p : A → Bool) (xs : List A) → first_at (λ x. b && p x) xs ≡ cond b (first_at p xs) None
first_at-and_left true p xs = refl
first_at-and_left false p xs = first_at-none (λ x. false) xs (λ x. refl)

-- the place among the keys of one entry
pub shape_first : (e : Shape) (name : List ℕ) (ss : List ℤ) → first_at (same_key (name, ss)) (keys_of_shape e) ≡ cond (bytes_eq name e.name) (offset_of e.axes ss) None
shape_first e name ss =
    first_at-map (same_key (name, ss)) (λ r. (e.name, r)) (subscripts_of e.axes)
    ∙ first_at-and_left (bytes_eq name e.name) (same_subscripts ss) (subscripts_of e.axes)
    ∙ ap (λ o. cond (bytes_eq name e.name) o None) (offset-first_at e.axes ss)

pub absent : (es : List Shape) (name : List ℕ) (ss : List ℤ) → IsApart name es → place_of es name ss ≡ None
absent [] name ss h = refl
absent (e ∷ es) name ss h =
    first_at-append (same_key (name, ss)) (keys_of_shape e) (keys_of es)
    ∙ rw (shape_first e name ss, h.0, absent es name ss h.1) refl

pub same_name : (x : List ℕ) → bytes_eq x x ≡ true
same_name x = (bytes_eq-Decides x x).1 refl

else_none : (n : ℕ) (o : Option ℕ) → else_by n o None ≡ option_map (λ k. 0 + k) o
else_none n None = refl
else_none n (Some k) = ap Some (omega arith)

apart_at : (es : List Shape) (i : ℕ) (e : Shape) (name : List ℕ) → slice_get es i ≡ Some e → IsApart name es → bytes_eq name e.name ≡ false
apart_at [] i e name is h = absurd (let f : None ≡ Some e = is in cc)
apart_at (x ∷ es) zero e name is h = let f : x ≡ e = cc in subst (λ y. bytes_eq name y.name ≡ false) f h.0
apart_at (x ∷ es) (suc i) e name is h = apart_at es i e name is h.1

pub turned : (x y : List ℕ) (b : Bool) → bytes_eq x y ≡ false → bytes_eq y x ≡ b → b ≡ false
turned x y true h e = let s : y ≡ x = (bytes_eq-Decides y x).0 e in let t : bytes_eq x y ≡ true = (bytes_eq-Decides x y).1 (sym s) in absurd (cc)
turned x y false h e = refl

by_sum : (m n : ℕ) (o : Option ℕ) → option_map (λ k. m + k) (option_map (λ k. n + k) o) ≡ option_map (λ k. (m + n) + k) o
by_sum m n None = refl
by_sum m n (Some k) = ap Some (omega arith)

-- the place at a slot is the first place of its entry and the column-major position from there
pub place_slot : (es : List Shape) (i : ℕ) (e : Shape) (ss : List ℤ) → slice_get es i ≡ Some e → HasEachOnce es
    → place_of es e.name ss ≡ option_map (λ k. length (keys_of (take i es)) + k) (offset_of e.axes ss)
place_slot [] i e ss is once = absurd (let f : None ≡ Some e = is in cc)
place_slot (x ∷ es) zero e ss is once =
    let f : x ≡ e = cc in
    subst (λ y. place_of (x ∷ es) y.name ss ≡ option_map (λ k. 0 + k) (offset_of y.axes ss)) f
    (first_at-append (same_key (x.name, ss)) (keys_of_shape x) (keys_of es)
    ∙ rw (shape_first x x.name ss, same_name x.name, absent es x.name ss once.0) (else_none (length (keys_of_shape x)) (offset_of x.axes ss)))
place_slot (x ∷ es) (suc i) e ss is once =
    let other : bytes_eq e.name x.name ≡ false = turned x.name e.name _ (apart_at es i e x.name is once.0) refl in
    first_at-append (same_key (e.name, ss)) (keys_of_shape x) (keys_of es)
    ∙ rw (shape_first x e.name ss, other, place_slot es i e ss is once.1, length-append) (by_sum (length (keys_of_shape x)) (length (keys_of (take i es))) (offset_of e.axes ss))

length_blocks : (a : Axis) (rs : List (List ℤ)) → length (flat_map (λ r. map (λ t. t ∷ r) (run a.lower a.extent)) rs) ≡ a.extent * length rs
length_blocks a [] = omega arith
length_blocks a (r ∷ rs) =
    let rest = length_blocks a rs in
    let here : length (map (λ (t : ℤ). t ∷ r) (run a.lower a.extent)) ≡ a.extent = simp length-map (length-run a.lower a.extent) in
    length-append (map (λ (t : ℤ). t ∷ r) (run a.lower a.extent)) _ ∙ rw (here, rest) (omega arith)

pub length_subscripts : (axes : List Axis) → length (subscripts_of axes) ≡ size_of axes
length_subscripts [] = refl
length_subscripts (a ∷ axes) = length_blocks a (subscripts_of axes) ∙ ap (λ n. a.extent * n) (length_subscripts axes)

pub length_shape : (e : Shape) → length (keys_of_shape e) ≡ size_of e.axes
length_shape e = simp length-map (length_subscripts e.axes)

-- the first place of the next entry
pub first_next : (es : List Shape) (i : ℕ) (e : Shape) → slice_get es i ≡ Some e → length (keys_of (take (suc i) es)) ≡ length (keys_of (take i es)) + size_of e.axes
first_next [] i e is = absurd (let f : None ≡ Some e = is in cc)
first_next (x ∷ es) zero e is =
    let f : x ≡ e = cc in
    subst (λ y. length (keys_of_shape x ++ []) ≡ 0 + size_of y.axes) f (simp length-append (let l = length_shape x in omega arith))
first_next (x ∷ es) (suc i) e is =
    let l = first_next es i e is in
    let a = length-append (keys_of_shape x) (keys_of (take i es)) in
    let b = length-append (keys_of_shape x) (keys_of (take (suc i) es)) in
    omega arith

before : (es : List Shape) (i : ℕ) → length (keys_of (take i es)) ≤ length (keys_of (take (suc i) es))
before es zero = omega arith
before [] (suc i) = omega arith
before (x ∷ es) (suc i) =
    let l = before es i in
    let a = length-append (keys_of_shape x) (keys_of (take i es)) in
    let b = length-append (keys_of_shape x) (keys_of (take (suc i) es)) in
    omega arith

-- the places ascend
pub first_before : (es : List Shape) (i : ℕ) → length (keys_of (take i es)) ≤ length (keys_of (take (i + 1) es))
first_before es i = let e : i + 1 ≡ suc i = add-one i in rw e (before es i)

pub first_small : (es : List Shape) (i : ℕ) → length (keys_of (take i es)) ≤ length (keys_of es)
first_small es zero = omega arith
first_small [] (suc i) = omega arith
first_small (x ∷ es) (suc i) =
    let l = first_small es i in
    let a = length-append (keys_of_shape x) (keys_of (take i es)) in
    let b = length-append (keys_of_shape x) (keys_of es) in
    omega arith

found_one : {A : Type 0} (p : A → Bool) (x : A) (xs : List A) (k : ℕ) (b : Bool) (o : Option ℕ) → p x ≡ b
    → ((j : ℕ) → Some j ≡ o → (y : A) × (slice_get xs j ≡ Some y) × (p y ≡ true) × (j < length xs))
    → Some k ≡ cond b (Some 0) (option_map suc o) → (y : A) × (slice_get (x ∷ xs) k ≡ Some y) × (p y ≡ true) × (k < suc (length xs))
found_one {A} p x xs k true o here later e =
    let f : 0 ≡ k = cc in
    subst (λ q. (y : A) × (slice_get (x ∷ xs) q ≡ Some y) × (p y ≡ true) × (q < suc (length xs))) f (x, refl, here, omega arith)
found_one p x xs k false None here later e = absurd (let f : Some k ≡ None = e in cc)
found_one {A} p x xs k false (Some j) here later e =
    let f : suc j ≡ k = cc in
    let r = later j refl in
    subst (λ q. (y : A) × (slice_get (x ∷ xs) q ≡ Some y) × (p y ≡ true) × (q < suc (length xs))) f (r.0, r.1, r.2, omega (arith, r.3))

-- what stands where a test was first passed
pub first_found : {A : Type 0} (p : A → Bool) (xs : List A) (k : ℕ) → Some k ≡ first_at p xs → (x : A) × (slice_get xs k ≡ Some x) × (p x ≡ true) × (k < length xs)
first_found p [] k e = absurd (let f : Some k ≡ None = e in cc)
first_found p (x ∷ xs) k e = found_one p x xs k (p x) (first_at p xs) refl (λ j h. first_found p xs j h) e

first_below : {A : Type 0} (p : A → Bool) (xs : List A) (k : ℕ) → Some k ≡ first_at p xs → k < length xs
first_below p xs k e = (first_found p xs k e).3

-- a position is below the number of elements
pub offset_below : (axes : List Axis) (ss : List ℤ) (k : ℕ) → Some k ≡ offset_of axes ss → k < size_of axes
offset_below axes ss k e =
    let f = first_below (same_subscripts ss) (subscripts_of axes) k (e ∙ sym (offset-first_at axes ss)) in
    let l = length_subscripts axes in
    omega arith

none_of : (axes : List Axis) (o : Option ℕ) → ((k : ℕ) → Some k ≡ o → k < size_of axes) → size_of axes ≡ 0 → o ≡ None
none_of axes None h z = refl
none_of axes (Some k) h z = absurd (let f = h k refl in omega arith)

pub offset_none : (axes : List Axis) (ss : List ℤ) → size_of axes ≡ 0 → offset_of axes ss ≡ None
offset_none axes ss h = none_of axes (offset_of axes ss) (λ k e. offset_below axes ss k e) h

-- the entry of a slot
pub slot_found : (es : List Shape) (name : List ℕ) (i : ℕ) → Some i ≡ slot_of es name → (e : Shape) × (slice_get es i ≡ Some e) × (name ≡ e.name) × (i < length es)
slot_found es name i h =
    let r = first_found (λ e. bytes_eq name e.name) es i h in
    (r.0, r.1, (bytes_eq-Decides name r.0.name).0 r.2, r.3)

missing_one : (b : Bool) (o : Option ℕ) → cond b (Some 0) (option_map suc o) ≡ None → (b ≡ false) × (o ≡ None)
missing_one true o e = absurd (let f : Some 0 ≡ None = e in cc)
missing_one false None e = (refl, refl)
missing_one false (Some k) e = absurd (let f : Some (suc k) ≡ None = e in cc)

pub slot_missing : (es : List Shape) (name : List ℕ) → slot_of es name ≡ None → IsApart name es
slot_missing [] name h = tt
slot_missing (e ∷ es) name h = let r = missing_one (bytes_eq name e.name) (slot_of es name) h in (r.0, slot_missing es name r.1)

-- no place without an entry
pub place_missing : (es : List Shape) (name : List ℕ) (ss : List ℤ) → None ≡ slot_of es name → None ≡ place_of es name ss
place_missing es name ss h = sym (absent es name ss (slot_missing es name (sym h)))

-- the place at a name is the place at its slot
pub place_found : (es : List Shape) (name : List ℕ) (i : ℕ) (ss : List ℤ) → Some i ≡ slot_of es name → place_in_slot es i ss ≡ place_of es name ss
place_found es name i ss h =
    let r = slot_found es name i h in
    ap (λ o. option_and_then (λ (e : Shape). place_of es e.name ss) o) r.1 ∙ ap (λ n. place_of es n ss) (sym r.2)

both_true : (a b : Bool) → (a && b) ≡ true → (a ≡ true) × (b ≡ true)
both_true true b e = (refl, e)
both_true false b e = absurd (cc)

same_ints : (ss ts : List ℤ) → same_subscripts ss ts ≡ true → ss ≡ ts
same_ints [] [] e = refl
same_ints [] (t ∷ ts) e = absurd (cc)
same_ints (s ∷ ss) [] e = absurd (cc)
same_ints (s ∷ ss) (t ∷ ts) e =
    let r = both_true (int_eq s t) (same_subscripts ss ts) e in
    let h : s ≡ t = (signed_Decides s t).0 r.0 in
    let rest : ss ≡ ts = same_ints ss ts r.1 in cc

key_of : (k : List ℕ × List ℤ) (name : List ℕ) (ss : List ℤ) → name ≡ k.0 → ss ≡ k.1 → k ≡ (name, ss)
key_of k name ss n t = rw (n, t) refl

-- at the place of a name with subscripts stand that name and those subscripts
pub place_stands : (es : List Shape) (name : List ℕ) (ss : List ℤ) (p : ℕ) → Some p ≡ place_of es name ss → (slice_get (keys_of es) p ≡ Some (name, ss)) × (p < length (keys_of es))
place_stands es name ss p h =
    let r = first_found (same_key (name, ss)) (keys_of es) p h in
    let b = both_true (bytes_eq name r.0.0) (same_subscripts ss r.0.1) r.2 in
    let n : name ≡ r.0.0 = (bytes_eq-Decides name r.0.0).0 b.0 in
    let t : ss ≡ r.0.1 = same_ints ss r.0.1 b.1 in
    (r.1 ∙ ap Some (key_of r.0 name ss n t), r.3)

pub got : {A : Type 0} (xs : List A) (i : ℕ) (x : A) → i < length xs → x ≡ get_or xs i x → slice_get xs i ≡ Some x
got [] i x h e = absurd (omega arith)
got (y ∷ xs) zero x h e = ap Some (sym e)
got (y ∷ xs) (suc i) x h e = got xs i x (omega arith) e

-- what a layout keeps at a slot
pub record Kept (es : List Shape) (first next slot : ℕ) (e : Shape) : Type 0 where
  pub long : next ≡ first + size_of e.axes
  pub small : next ≤ 2 ^ 21
  pub place : (ss : List ℤ) → place_in_slot es slot ss ≡ option_map (λ k. first + k) (offset_of e.axes ss)

pub kept : (es : List Shape) (firsts : List ℕ) (slot : ℕ) (e : Shape) → IsLaidOut es firsts → slot < length es → e ≡ get_or es slot e
    → Kept es (get_or firsts slot 0) (get_or firsts (slot + 1) 0) slot e
kept es firsts slot e h lt is =
    let g = got es slot e lt is in
    let a : get_or firsts slot 0 ≡ length (keys_of (take slot es)) = h.each slot (omega arith) in
    let b : get_or firsts (slot + 1) 0 ≡ length (keys_of (take (suc slot) es)) = rw add-one (h.each (suc slot) (omega arith)) in
    let n = first_next es slot e g in
    let s = first_small es (suc slot) in
    record {
      long = b ∙ n ∙ ap (λ k. k + size_of e.axes) (sym a);
      small = omega (arith, h.small);
      place = λ ss. ap (λ o. option_and_then (λ (x : Shape). place_of es x.name ss) o) g ∙ place_slot es slot e ss g h.once ∙ ap (λ n. option_map (λ k. n + k) (offset_of e.axes ss)) (sym a);
    }

pub any_default : {A : Type 0} (xs : List A) (i : ℕ) (d e : A) → i < length xs → get_or xs i d ≡ get_or xs i e
any_default [] i d e h = absurd (omega arith)
any_default (x ∷ xs) zero d e h = refl
any_default (x ∷ xs) (suc i) d e h = any_default xs i d e (omega arith)

pub kept_at : (es list : List Shape) (firsts : List ℕ) (slot : ℕ) (e : Shape) (f n : ℕ) → IsLaidOut es firsts → list ≡ es → slot < length es
    → e ≡ get_or list slot e → f ≡ get_or firsts slot f → n ≡ get_or firsts (slot + 1) n → Kept es f n slot e
kept_at es list firsts slot e f n h same lt is first next =
    let a : get_or firsts slot 0 ≡ f = any_default firsts slot 0 f (omega (arith, h.long)) ∙ sym first in
    let b : get_or firsts (slot + 1) 0 ≡ n = any_default firsts (slot + 1) 0 n (omega (arith, h.long)) ∙ sym next in
    let k : Kept es (get_or firsts slot 0) (get_or firsts (slot + 1) 0) slot e = kept es firsts slot e h lt (is ∙ ap (λ l. get_or l slot e) same) in
    subst (λ m. Kept es f m slot e) b (subst (λ m. Kept es m (get_or firsts (slot + 1) 0) slot e) a k)

pub stands_in : (es : List Shape) (name : List ℕ) (ss : List ℤ) (o : Option ℕ) → o ≡ place_of es name ss → IfSome o (λ p. slice_get (keys_of es) p ≡ Some (name, ss))
stands_in es name ss None h = tt
stands_in es name ss (Some p) h = (place_stands es name ss p h).0

pub within_in : (es : List Shape) (name : List ℕ) (ss : List ℤ) (o : Option ℕ) → o ≡ place_of es name ss → IfSome o (λ p. p < length (keys_of es))
within_in es name ss None h = tt
within_in es name ss (Some p) h = (place_stands es name ss p h).1
