-- The column-major position is the position in the list.
use Rattle.std.proofs.Common.{◌≡◌, ℕ, zero, suc, ◌+◌, Bool, true, false, cond, ◌&&◌, List, [], ◌∷◌, ◌++◌, map, flat_map, length, ℤ, pos, negsuc, ◌+ℤ◌, ◌-ℤ◌, nat_lt, Option, Some, None, option_map, refl, sym, ap, ◌∙◌, arith}
use Rattle.std.proofs.lemmas.List.{length-map}
use Rattle.std.specs.Cmp.{signed_Decides}
use Rattle.std.proofs.lemmas.Int.{ints}
use Rattle.std.specs.Ordering.{int_eq}
use Rattle.store_core.specs.declared.bound.Axis.{Axis}
use Rattle.store_core.specs.Keys.{run, subscripts_of, same_subscripts, first_at, within, step_of, with_step, offset_of}

-- or the second, moved by n
abbrev pub else_by : ℕ → Option ℕ → Option ℕ → Option ℕ
else_by n (Some i) r = Some i
else_by n None r = option_map (λ j. n + j) r

moved : (n : ℕ) (f r : Option ℕ) → option_map suc (else_by n f r) ≡ else_by (suc n) (option_map suc f) r
moved n (Some i) r = refl
moved n None None = refl
moved n None (Some j) = ap Some (omega arith)

same_option : (r : Option ℕ) → r ≡ option_map (λ j. 0 + j) r
same_option None = refl
same_option (Some j) = ap Some (omega arith)

pub first_at-append : {A : Type 0} (p : A → Bool) (xs ys : List A) → first_at p (xs ++ ys) ≡ else_by (length xs) (first_at p xs) (first_at p ys)
first_at-append p [] ys = same_option (first_at p ys)
first_at-append p (x ∷ xs) ys =
    elim (p x) as (λ b. cond b (Some 0) (option_map suc (first_at p (xs ++ ys))) ≡ else_by (suc (length xs)) (cond b (Some 0) (option_map suc (first_at p xs))) (first_at p ys)) [
      | true ↦ refl
      | false ↦ ap (option_map suc) (first_at-append p xs ys) ∙ moved (length xs) (first_at p xs) (first_at p ys)
    ]

-- a test that looks at one part of what was mapped
pub first_at-map : {A B : Type 0} (p : B → Bool) (f : A → B) (xs : List A) → first_at p (map f xs) ≡ first_at (λ x. p (f x)) xs
first_at-map p f [] = refl
first_at-map p f (x ∷ xs) = ap (λ r. cond (p (f x)) (Some 0) (option_map suc r)) (first_at-map p f xs)

pub first_at-none : {A : Type 0} (p : A → Bool) (xs : List A) → ((x : A) → p x ≡ false) → first_at p xs ≡ None
first_at-none p [] h = refl
first_at-none p (x ∷ xs) h = rw (h x) (ap (option_map suc) (first_at-none p xs h))

first_at-and : {A : Type 0} (p : A → Bool) (b : Bool) (xs : List A) → first_at (λ x. p x && b) xs ≡ cond b (first_at p xs) None
first_at-and p true [] = refl
first_at-and p false [] = refl
first_at-and p true (x ∷ xs) = elim (p x) as (λ c. cond (c && true) (Some 0) (option_map suc (first_at (λ y. p y && true) xs)) ≡ cond c (Some 0) (option_map suc (first_at p xs))) [
  | true ↦ refl
  | false ↦ ap (option_map suc) (first_at-and p true xs)
]
first_at-and p false (x ∷ xs) = elim (p x) as (λ c. cond (c && false) (Some 0) (option_map suc (first_at (λ y. p y && false) xs)) ≡ None) [
  | true ↦ ap (option_map suc) (first_at-and p false xs)
  | false ↦ ap (option_map suc) (first_at-and p false xs)
]

pub length-run : (lo : ℤ) (n : ℕ) → length (run lo n) ≡ n
length-run lo zero = refl
length-run lo (suc n) = ap suc (length-run (lo +ℤ pos 1) n)

within_less : (k n : ℕ) (b : Bool) → nat_lt k n ≡ b → option_map suc (cond b (Some k) None) ≡ cond (nat_lt (suc k) (suc n)) (Some (suc k)) None
within_less k n true e = let f : nat_lt (suc k) (suc n) ≡ true = grind arith in rw f
within_less k n false e = let f : nat_lt (suc k) (suc n) ≡ false = grind arith in rw f

none_within : (d : ℤ) → within 0 d ≡ None
none_within (pos k) = let f : nat_lt k 0 ≡ false = grind arith in rw f
none_within (negsuc k) = refl

within_next : (n : ℕ) (d : ℤ) (b : Bool) → (b ≡ true → d ≡ pos 0) → (b ≡ false → d ≡ pos 0 → ⊥) → cond b (Some 0) (option_map suc (within n (d -ℤ pos 1))) ≡ within (suc n) d
within_next n (pos zero) true z s = let f : nat_lt 0 (suc n) ≡ true = grind arith in rw f
within_next n (pos (suc k)) true z s = absurd (let e = z refl in cc)
within_next n (negsuc k) true z s = absurd (let e = z refl in cc)
within_next n (pos zero) false z s = absurd (s refl refl)
within_next n (pos (suc k)) false z s =
    let e : pos (suc k) -ℤ pos 1 ≡ pos k = omega (arith, ints) in
    ap (λ y. option_map suc (within n y)) e ∙ within_less k n _ refl
within_next n (negsuc k) false z s =
    let e : negsuc k -ℤ pos 1 ≡ negsuc (suc k) = omega (arith, ints) in
    ap (λ y. option_map suc (within n y)) e

-- the position in a run
pub first_at-run : (s lo : ℤ) (n : ℕ) → first_at (int_eq s) (run lo n) ≡ within n (s -ℤ lo)
first_at-run s lo zero = sym (none_within (s -ℤ lo))
first_at-run s lo (suc n) =
    let less : s -ℤ (lo +ℤ pos 1) ≡ (s -ℤ lo) -ℤ pos 1 = omega (arith, ints) in
    let zero_is : int_eq s lo ≡ true → s -ℤ lo ≡ pos 0 = λ h. let e : s ≡ lo = (signed_Decides s lo).0 h in omega (arith, ints) in
    let not_zero : int_eq s lo ≡ false → s -ℤ lo ≡ pos 0 → ⊥ = λ h d. let e : s ≡ lo = omega (arith, ints) in let f = (signed_Decides s lo).1 e in cc in
    ap (λ r. cond (int_eq s lo) (Some 0) (option_map suc r)) (first_at-run s (lo +ℤ pos 1) n ∙ ap (within n) less) ∙ within_next n (s -ℤ lo) (int_eq s lo) zero_is not_zero

block : (a : Axis) (s : ℤ) (ss r : List ℤ) → first_at (same_subscripts (s ∷ ss)) (map (λ t. t ∷ r) (run a.lower a.extent)) ≡ cond (same_subscripts ss r) (step_of a s) None
block a s ss r = first_at-map (same_subscripts (s ∷ ss)) (λ t. t ∷ r) (run a.lower a.extent) ∙ first_at-and (int_eq s) (same_subscripts ss r) (run a.lower a.extent) ∙ ap (λ o. cond (same_subscripts ss r) o None) (first_at-run s a.lower a.extent)

none_with : (n : ℕ) (o : Option ℕ) → with_step n o None ≡ None
none_with n None = refl
none_with n (Some k) = refl

blocks : (n : ℕ) (o rest : Option ℕ) (b : Bool) → else_by n (cond b o None) (with_step n o rest) ≡ with_step n o (cond b (Some 0) (option_map suc rest))
blocks n None None true = refl
blocks n None (Some j) true = refl
blocks n (Some k) rest true = ap Some (omega arith)
blocks n None None false = refl
blocks n None (Some j) false = refl
blocks n (Some k) None false = refl
blocks n (Some k) (Some j) false = ap Some (omega arith)

-- the position in a list that is made of equal blocks
columns : (a : Axis) (s : ℤ) (ss : List ℤ) (rs : List (List ℤ)) → first_at (same_subscripts (s ∷ ss)) (flat_map (λ r. map (λ t. t ∷ r) (run a.lower a.extent)) rs) ≡ with_step a.extent (step_of a s) (first_at (same_subscripts ss) rs)
columns a s ss [] = sym (none_with a.extent (step_of a s))
columns a s ss (r ∷ rs) =
    let here = map (λ (t : ℤ). t ∷ r) (run a.lower a.extent) in
    let long : length here ≡ a.extent = simp length-map (length-run a.lower a.extent) in
    first_at-append (same_subscripts (s ∷ ss)) here _
    ∙ rw (long, block a s ss r, columns a s ss rs) (blocks a.extent (step_of a s) (first_at (same_subscripts ss) rs) (same_subscripts ss r))

none_of_block : (r : List ℤ) (ts : List ℤ) → first_at (same_subscripts []) (map (λ t. t ∷ r) ts) ≡ None
none_of_block r [] = refl
none_of_block r (t ∷ ts) = ap (option_map suc) (none_of_block r ts)

first_at-none_of : (a : Axis) (rs : List (List ℤ)) → first_at (same_subscripts []) (flat_map (λ r. map (λ t. t ∷ r) (run a.lower a.extent)) rs) ≡ None
first_at-none_of a [] = refl
first_at-none_of a (r ∷ rs) =
    first_at-append (same_subscripts []) (map (λ t. t ∷ r) (run a.lower a.extent)) _
    ∙ rw (none_of_block r (run a.lower a.extent), first_at-none_of a rs)

-- the column-major position of subscripts is their position in the list
pub offset-first_at : (axes : List Axis) (ss : List ℤ) → first_at (same_subscripts ss) (subscripts_of axes) ≡ offset_of axes ss
offset-first_at [] [] = refl
offset-first_at [] (s ∷ ss) = refl
offset-first_at (a ∷ axes) [] = first_at-none_of a (subscripts_of axes)
offset-first_at (a ∷ axes) (s ∷ ss) = columns a s ss (subscripts_of axes) ∙ ap (with_step a.extent (step_of a s)) (offset-first_at axes ss)
