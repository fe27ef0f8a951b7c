-- Choices by slot are those by name.
use Rattle.std.proofs.Common.{◌≡◌, ℕ, zero, suc, ◌+◌, ◌<◌, ◌≤◌, max, Bool, true, false, ◌&&◌, ◌||◌, nat_eq, nat_lt, bytes_eq, List, [], ◌∷◌, ◌++◌, length, length-append, Some, slice_get, refl, sym, ap, subst, ◌∙◌, arith}
use Rattle.std.specs.Cmp.{both_ways}
use Rattle.std.proofs.lemmas.Option.{slice_get_past}
use Rattle.std.proofs.lemmas.Bool.Decides.{nat_tests}
use Rattle.std.proofs.lemmas.Slice.Eq.{bytes_eq-Decides}
use Rattle.fl_types.specs.declared.choice.Choice.{Choice}
use Rattle.fl_types.specs.declared.choice.Chosen.{Chosen}
use Rattle.fl_types.specs.Sharing.{has_name}
use Rattle.store_core.specs.declared.layout.Shape.{Shape}
use Rattle.adjoint_rules.specs.Scopes.{is_reduction, has_choice}
use Rattle.loop_choices.specs.Choosing.{is_shared, choice_by, choice_in}
use Rattle.resolved.specs.ResolvedExprs.{slot_name}
use Rattle.made_growths.specs.Told.{choice_or, in_row}
use Rattle.reverse_opening.specs.Chosen.{names_if, names_in, row_in, count_in, rows_below}

-- ---- names

bytes_swap : (x y : List ℕ) → bytes_eq x y ≡ bytes_eq y x
bytes_swap x y = both_ways (bytes_eq x y) (bytes_eq y x) (λ h. (bytes_eq-Decides y x).1 (sym ((bytes_eq-Decides x y).0 h))) (λ h. (bytes_eq-Decides x y).1 (sym ((bytes_eq-Decides y x).0 h)))

and_yes : (b : Bool) → (b && true) ≡ b
and_yes true = refl
and_yes false = refl

and_no : (b : Bool) → (b && false) ≡ false
and_no true = refl
and_no false = refl

has_if : (e r h : Bool) (x y : List ℕ) (ys : List (List ℕ)) → has_name x ys ≡ h → has_name x (names_if (e && r) y ys) ≡ ((e && (bytes_eq y x && r)) || h)
has_if true true h x y ys q = ap (λ c. c || has_name x ys) (bytes_swap x y ∙ sym (and_yes (bytes_eq y x))) ∙ ap (λ c. (bytes_eq y x && true) || c) q
has_if true false h x y ys q = q ∙ ap (λ c. c || h) (sym (and_no (bytes_eq y x)))
has_if false r h x y ys q = q

has_listed : (passes : Choice → Bool) (x : List ℕ) (cs : List Chosen) (number : ℕ) → has_name x (names_in passes cs number) ≡ has_choice passes cs number x
has_listed passes x [] number = refl
has_listed passes x (c ∷ cs) number = has_if (nat_eq c.loop_number number) (passes c.choice) (has_choice passes cs number x) x c.name (names_in passes cs number) (has_listed passes x cs number)

-- ---- rows

abbrev row_for : List Shape → List Chosen → ℕ → List Choice
row_for shapes cs n = row_in shapes (names_in is_reduction cs n) (names_in is_shared cs n)

get_front : {A : Type 0} (xs ys : List A) (k : ℕ) (r : A) → slice_get xs k ≡ Some r → slice_get (xs ++ ys) k ≡ Some r
get_front [] ys k r e = absurd (cc)
get_front (x ∷ xs) ys zero r e = e
get_front (x ∷ xs) ys (suc k) r e = get_front xs ys k r e

get_end : {A : Type 0} (xs : List A) (r : A) (k : ℕ) → k ≡ length xs → slice_get (xs ++ r ∷ []) k ≡ Some r
get_end [] r zero e = refl
get_end [] r (suc k) e = absurd (omega (arith, e))
get_end (x ∷ xs) r zero e = absurd (omega (arith, e))
get_end (x ∷ xs) r (suc k) e = get_end xs r k (omega (arith, e))

rows_long : (shapes : List Shape) (cs : List Chosen) (n : ℕ) → length (rows_below shapes cs n) ≡ n
rows_long shapes cs zero = refl
rows_long shapes cs (suc n) = length-append (rows_below shapes cs n) (row_for shapes cs n ∷ []) ∙ (ap (λ k. k + 1) (rows_long shapes cs n) ∙ omega arith)

get_row : (shapes : List Shape) (cs : List Chosen) (n k : ℕ) (b : Bool) → nat_lt k n ≡ b → k < suc n → slice_get (rows_below shapes cs (suc n)) k ≡ Some (row_for shapes cs k)
get_row shapes cs zero k true e h = absurd (grind (arith, nat_tests))
get_row shapes cs (suc n) k true e h =
    get_front (rows_below shapes cs (suc n)) (row_for shapes cs (suc n) ∷ []) k (row_for shapes cs k) (get_row shapes cs n k (nat_lt k n) refl (grind (arith, nat_tests)))
get_row shapes cs n k false e h =
    let last : k ≡ n = grind (arith, nat_tests) in
    subst (λ (j : ℕ). slice_get (rows_below shapes cs (suc n)) k ≡ Some (row_for shapes cs j)) (sym last)
    (get_end (rows_below shapes cs n) (row_for shapes cs n) k (last ∙ sym (rows_long shapes cs n)))

at_slot : (collected shared : List (List ℕ)) (shapes : List Shape) (slot : ℕ) → slot < length shapes
    → choice_or (slice_get (row_in shapes collected shared) slot) ≡ choice_by (has_name (slot_name shapes slot) collected) (has_name (slot_name shapes slot) shared)
at_slot xs ys [] slot h = absurd (omega (arith, h))
at_slot xs ys (s ∷ ss) zero h = refl
at_slot xs ys (s ∷ ss) (suc k) h = at_slot xs ys ss k (omega (arith, h))

none_or : (e b h : Bool) → e ≡ false → h ≡ false → ((e && b) || h) ≡ false
none_or e b h p q = rw (p, q) refl

none_beyond : (passes : Choice → Bool) (cs : List Chosen) (number : ℕ) (x : List ℕ) → count_in cs ≤ number → has_choice passes cs number x ≡ false
none_beyond passes [] number x h = refl
none_beyond passes (c ∷ cs) number x h =
    let both = parts (c.loop_number + 1) (count_in cs) number h in
    let first = both.0 in
    none_or (nat_eq c.loop_number number) (bytes_eq c.name x && passes c.choice) (has_choice passes cs number x) (grind (arith, nat_tests)) (none_beyond passes cs number x both.1)
  where
    parts : (a b n : ℕ) → max a b ≤ n → (a ≤ n) × (b ≤ n)
    parts a b n h = (omega (arith, h), omega (arith, h))

two : (a b c d : Bool) → a ≡ b → c ≡ d → choice_by a c ≡ choice_by b d
two a b c d e f = ap (λ x. choice_by x c) e ∙ ap (choice_by b) f

within : (shapes : List Shape) (cs : List Chosen) (n number slot : ℕ) → number < n → slot < length shapes → choice_in cs number (slot_name shapes slot) ≡ in_row (slice_get (rows_below shapes cs n) number) slot
within shapes cs zero number slot k h = absurd (omega (arith, k))
within shapes cs (suc n) number slot k h =
    let x = slot_name shapes slot in
    two _ _ _ _ (sym (has_listed is_reduction x cs number)) (sym (has_listed is_shared x cs number))
    ∙ (sym (at_slot (names_in is_reduction cs number) (names_in is_shared cs number) shapes slot h) ∙ ap (λ row. in_row row slot) (sym (get_row shapes cs n number (nat_lt number n) refl k)))

beyond : (shapes : List Shape) (cs : List Chosen) (number slot : ℕ) → count_in cs ≤ number → choice_in cs number (slot_name shapes slot) ≡ in_row (slice_get (rows_below shapes cs (count_in cs)) number) slot
beyond shapes cs number slot k =
    let long = rows_long shapes cs (count_in cs) in
    let x = slot_name shapes slot in
    two _ _ _ _ (none_beyond is_reduction cs number x k) (none_beyond is_shared cs number x k)
    ∙ ap (λ row. in_row row slot) (sym (slice_get_past (rows_below shapes cs (count_in cs)) number (omega (arith, long, k))))

pub rows_are : (shapes : List Shape) (cs : List Chosen) (number slot : ℕ) (b : Bool) → nat_lt number (count_in cs) ≡ b → slot < length shapes →
    choice_in cs number (slot_name shapes slot) ≡ in_row (slice_get (rows_below shapes cs (count_in cs)) number) slot
rows_are shapes cs number slot true e h = within shapes cs (count_in cs) number slot (grind (arith, nat_tests)) h
rows_are shapes cs number slot false e h = beyond shapes cs number slot (grind (arith, nat_tests))
