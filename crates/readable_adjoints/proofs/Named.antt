-- The names of an adjoint's own are names that variables may have, and stand apart.
use Rattle.std.proofs.Common.{◌≡◌, ℕ, suc, ◌+◌, ◌-◌, ◌%◌, ◌<◌, ◌≤◌, Bool, true, false, not, ◌&&◌, ◌||◌, List, [], ◌∷◌, ◌++◌, length, flat_map, drop, codes, decimal, bytes_eq, nat_eq, refl, sym, ap, subst, ◌∙◌, append_assoc, length-append, arith}
use Rattle.std.specs.Prelude.{◌==◌, nat_le, nat_lt}
use Rattle.std.specs.List.{list_all, list_any, starts_with, ends_with}
use Rattle.std.specs.Cmp.Lexicographic.{pointwise}
use Rattle.std.proofs.lemmas.Bool.{and_parts, and_from, or_parts, or_from, or_left, not_from_false}
use Rattle.std.proofs.lemmas.Bool.Decides.{nat_tests}
use Rattle.std.proofs.lemmas.Slice.Eq.{bytes_eq-Decides}
use Rattle.std.proofs.lemmas.Fmt.{decimal_by_steps, length-decimal-le, decimal_injective}
use Rattle.fl_base.specs.Spelling.{is_name, is_name_byte, is_small_letter}
use Rattle.fl_ast.specs.Words.{reserved_words}
use Rattle.fl_ast.specs.Readable.{is_variable, counts_up_from}
use Rattle.fl_types.specs.Declarations.{is_reserved}
use Rattle.adjoint_rules.specs.OwnNames.{adjoint_name, lo_name, hi_name, by_name}
use Rattle.adjoint_rules.specs.Clauses.{bound_names, scratch_names}
use Rattle.readable_adjoints.proofs.Every.{Every, every_append, every_flat, every_is}
use Rattle.readable_adjoints.proofs.Times.{one_if, times, times_by_apart}

-- ---- last bytes

abbrev pub last : List ℕ → ℕ
last [] = 0
last (x ∷ []) = x
last (x ∷ y ∷ ys) = last (y ∷ ys)

last-one : (xs : List ℕ) (c : ℕ) → last (xs ++ c ∷ []) ≡ c
last-one [] c = refl
last-one (x ∷ []) c = refl
last-one (x ∷ y ∷ ys) c = last-one (y ∷ ys) c

last-two : (xs : List ℕ) (b c : ℕ) → last (xs ++ b ∷ c ∷ []) ≡ c
last-two [] b c = refl
last-two (x ∷ []) b c = refl
last-two (x ∷ y ∷ ys) b c = last-two (y ∷ ys) b c

-- ---- numbers

abbrev pub IsNumber : ℕ → Type 0
IsNumber n = n < 4294967296

digit_last : (p ds : List ℕ) (d : ℕ) → d < 10 → last (p ++ (ds ++ (48 + d) ∷ [])) < 58
digit_last p ds d h = subst (λ (n : ℕ). n < 58) (sym (ap last (sym (append_assoc p ds ((48 + d) ∷ []))) ∙ last-one (p ++ ds) (48 + d))) (omega (arith, h))

decimal_last : (p : List ℕ) (n : ℕ) → IsNumber n → last (p ++ decimal n) < 58
decimal_last p n h =
    decimal_by_steps (λ n ds. last (p ++ ds) < 58) (λ n digit. digit_last p [] n digit)
    (λ n ds big below. digit_last p ds (n % 10) (omega arith)) n (omega (arith, h))

all_one : (xs : List ℕ) (d : ℕ) → list_all is_name_byte xs ≡ true → is_name_byte d ≡ true → list_all is_name_byte (xs ++ d ∷ []) ≡ true
all_one [] d h k = rw k refl
all_one (x ∷ xs) d h k = let p = and_parts (is_name_byte x) (list_all is_name_byte xs) h in and_from (is_name_byte x) (list_all is_name_byte (xs ++ d ∷ [])) p.0 (all_one xs d p.1 k)

digit_is : (d : ℕ) → d < 10 → is_name_byte (48 + d) ≡ true
digit_is d h = grind (arith, nat_tests)

decimal_bytes : (n : ℕ) → IsNumber n → list_all is_name_byte (decimal n) ≡ true
decimal_bytes n h =
    decimal_by_steps (λ n ds. list_all is_name_byte ds ≡ true) (λ n digit. all_one [] (48 + n) refl (digit_is n digit))
    (λ n ds big below. all_one ds (48 + n % 10) below (digit_is (n % 10) (omega arith))) n (omega (arith, h))

decimal_short : (n : ℕ) → IsNumber n → length (decimal n) ≤ 10
decimal_short n h = length-decimal-le 10 n (omega arith) (omega (arith, h)) (omega (arith, h))

-- ---- bounds of loops

is_short : (n : ℕ) → n ≤ 10 → nat_le (suc (suc (suc (suc (suc (suc (suc (suc n)))))))) 62 ≡ true
is_short n h = grind (arith, nat_tests)

abbrev pub IsVariable : List ℕ → Type 0
IsVariable x = is_variable x ≡ true

lo_by : (ds : List ℕ) → list_all is_name_byte ds ≡ true → length ds ≤ 10 → IsVariable (codes "formad_lo" ++ ds)
lo_by ds a s = rw (a, is_short (length ds) s) refl

hi_by : (ds : List ℕ) → list_all is_name_byte ds ≡ true → length ds ≤ 10 → IsVariable (codes "formad_hi" ++ ds)
hi_by ds a s = rw (a, is_short (length ds) s) refl

by_by : (ds : List ℕ) → list_all is_name_byte ds ≡ true → length ds ≤ 10 → IsVariable (codes "formad_by" ++ ds)
by_by ds a s = rw (a, is_short (length ds) s) refl

pub lo_variable : (n : ℕ) → IsNumber n → IsVariable (lo_name n)
lo_variable n h = lo_by (decimal n) (decimal_bytes n h) (decimal_short n h)

pub hi_variable : (n : ℕ) → IsNumber n → IsVariable (hi_name n)
hi_variable n h = hi_by (decimal n) (decimal_bytes n h) (decimal_short n h)

pub by_variable : (n : ℕ) → IsNumber n → IsVariable (by_name n)
by_variable n h = by_by (decimal n) (decimal_bytes n h) (decimal_short n h)

-- ---- adjoints

byte_all : (xs ys : List ℕ) → list_all is_name_byte xs ≡ true → list_all is_name_byte ys ≡ true → list_all is_name_byte (xs ++ ys) ≡ true
byte_all [] ys h k = k
byte_all (x ∷ xs) ys h k = let p = and_parts (is_name_byte x) (list_all is_name_byte xs) h in and_from (is_name_byte x) (list_all is_name_byte (xs ++ ys)) p.0 (byte_all xs ys p.1 k)

-- no reserved word ends so
no_word : (x : List ℕ) (ws : List (List ℕ)) → last x ≡ 98 → list_all (λ w. not (last w == 98)) ws ≡ true → list_any (bytes_eq x) ws ≡ false
no_word x [] h k = refl
no_word x (w ∷ ws) h k =
    let p = and_parts (not (last w == 98)) (list_all (λ v. not (last v == 98)) ws) k in
    or_from (bytes_eq x w) (list_any (bytes_eq x) ws) (at (bytes_eq x w) refl p.0) (no_word x ws h p.1)
  where
    at : (t : Bool) → bytes_eq x w ≡ t → not (last w == 98) ≡ true → t ≡ false
    at true e g =
        let same : last w ≡ 98 = ap last (sym ((bytes_eq-Decides x w).0 e)) ∙ h in
        absurd (let f : not (98 == 98) ≡ true = subst (λ (n : ℕ). not (n == 98) ≡ true) same g in cc)
    at false e g = refl

room_for : (n : ℕ) → suc n ≤ 61 → nat_le (n + 2) 62 ≡ true
room_for n h = grind (arith, nat_tests)

adjoint_is_name : (x : List ℕ) → is_name x ≡ true → length x ≤ 61 → is_name (adjoint_name x) ≡ true
adjoint_is_name [] h k = h
adjoint_is_name (b ∷ bs) h k =
    let p = and_parts (is_small_letter b) (list_all is_name_byte bs && nat_le (length bs) 62) h in
    let q = and_parts (list_all is_name_byte bs) (nat_le (length bs) 62) p.1 in
    let long : nat_le (length (bs ++ codes "_b")) 62 ≡ true = subst (λ (n : ℕ). nat_le n 62 ≡ true) (sym (length-append bs (codes "_b"))) (room_for (length bs) k) in
    and_from (is_small_letter b) (list_all is_name_byte (bs ++ codes "_b") && nat_le (length (bs ++ codes "_b")) 62) p.0
    (and_from (list_all is_name_byte (bs ++ codes "_b")) (nat_le (length (bs ++ codes "_b")) 62) (byte_all bs (codes "_b") q.0 refl) long)

within : (n : ℕ) → nat_lt 61 n ≡ false → n ≤ 61
within n h = grind (arith, nat_tests)

pub adjoint_name_is : (x : List ℕ) → is_name x ≡ true → is_reserved x ≡ false → is_name (adjoint_name x) ≡ true
adjoint_name_is x h r = adjoint_is_name x h (within (length x) (or_parts (ends_with nat_eq x (codes "_b") || starts_with nat_eq x (codes "formad_")) (nat_lt 61 (length x)) r).1)

pub adjoint_variable : (x : List ℕ) → IsVariable x → is_reserved x ≡ false → IsVariable (adjoint_name x)
adjoint_variable x h r =
    let p = and_parts (is_name x) (not (list_any (bytes_eq x) reserved_words)) h in
    and_from (is_name (adjoint_name x)) (not (list_any (bytes_eq (adjoint_name x)) reserved_words)) (adjoint_name_is x p.0 r)
    (not_from_false (list_any (bytes_eq (adjoint_name x)) reserved_words) (no_word (adjoint_name x) reserved_words (last-two x 95 98) refl))

drop_all_of : (xs ys : List ℕ) → drop (length xs) (xs ++ ys) ≡ ys
drop_all_of [] ys = refl
drop_all_of (x ∷ xs) ys = drop_all_of xs ys

pub adjoint_reserved : (x : List ℕ) → is_reserved (adjoint_name x) ≡ true
adjoint_reserved x =
    let back : length (adjoint_name x) - 2 ≡ length x = omega (arith, length-append x (codes "_b")) in
    let ends : ends_with nat_eq (adjoint_name x) (codes "_b") ≡ true =
    ap (λ n. pointwise nat_eq (codes "_b") (drop n (adjoint_name x))) back ∙ ap (λ l. pointwise nat_eq (codes "_b") l) (drop_all_of x (codes "_b")) in
    or_left (ends_with nat_eq (adjoint_name x) (codes "_b") || starts_with nat_eq (adjoint_name x) (codes "formad_")) (nat_lt 61 (length (adjoint_name x)))
    (or_left (ends_with nat_eq (adjoint_name x) (codes "_b")) (starts_with nat_eq (adjoint_name x) (codes "formad_")) ends)

pub adjoint_last : (x : List ℕ) → last (adjoint_name x) ≡ 98
adjoint_last x = last-two x 95 98

-- ---- names stand apart

-- what no declared name, and no adjoint's, is
abbrev pub IsOwn : List ℕ → Type 0
IsOwn x = (is_reserved x ≡ true) × (last x ≡ 98 → ⊥)

low_last : (n : ℕ) → n < 58 → n ≡ 98 → ⊥
low_last n h e = absurd (omega (arith, h, e))

starts_reserved : (a c : Bool) → ((a || true) || c) ≡ true
starts_reserved true c = refl
starts_reserved false c = refl

lo_own : (n : ℕ) → IsNumber n → IsOwn (lo_name n)
lo_own n h = (starts_reserved (ends_with nat_eq (lo_name n) (codes "_b")) (nat_lt 61 (length (lo_name n))), low_last (last (lo_name n)) (decimal_last (codes "formad_lo") n h))

hi_own : (n : ℕ) → IsNumber n → IsOwn (hi_name n)
hi_own n h = (starts_reserved (ends_with nat_eq (hi_name n) (codes "_b")) (nat_lt 61 (length (hi_name n))), low_last (last (hi_name n)) (decimal_last (codes "formad_hi") n h))

by_own : (n : ℕ) → IsNumber n → IsOwn (by_name n)
by_own n h = (starts_reserved (ends_with nat_eq (by_name n) (codes "_b")) (nat_lt 61 (length (by_name n))), low_last (last (by_name n)) (decimal_last (codes "formad_by") n h))

bounds_own : (n : ℕ) → IsNumber n → Every IsOwn (bound_names n)
bounds_own n h = (lo_own n h, (hi_own n h, (by_own n h, tt)))

far : (a b : ℕ) → (a == b) ≡ false → a ≡ b → ⊥
far a b h e = absurd (grind (arith, nat_tests))

scratch_own : Every IsOwn scratch_names
scratch_own = ((refl, far 107 98 refl), ((refl, far 119 98 refl), ((refl, far 116 98 refl), tt)))

-- ---- numbers of loops

-- numbers that count up from one, and stay small
pub record Run (ns : List ℕ) : Type 0 where
  pub start : ℕ
  pub counts : counts_up_from start ns ≡ true
  pub few : start + length ns ≤ 4294967296

pub run_none : Run []
run_none = record { start = 0; counts = refl; few = omega arith }

pub counts_left : (n : ℕ) (xs ys : List ℕ) → counts_up_from n (xs ++ ys) ≡ true → counts_up_from n xs ≡ true
counts_left n [] ys h = refl
counts_left n (x ∷ xs) ys h =
    let p = and_parts (x == n) (counts_up_from (suc n) (xs ++ ys)) h in
    and_from (x == n) (counts_up_from (suc n) xs) p.0 (counts_left (suc n) xs ys p.1)

pub counts_right : (n m : ℕ) (xs ys : List ℕ) → m ≡ n + length xs → counts_up_from n (xs ++ ys) ≡ true → counts_up_from m ys ≡ true
counts_right n m [] ys e h = subst (λ (i : ℕ). counts_up_from i ys ≡ true) (omega (arith, e)) h
counts_right n m (x ∷ xs) ys e h = counts_right (suc n) m xs ys (omega (arith, e)) ((and_parts (x == n) (counts_up_from (suc n) (xs ++ ys)) h).1)

pub run_left : (xs ys : List ℕ) → Run (xs ++ ys) → Run xs
run_left xs ys r =
    let few = r.few in
    record { start = r.start; counts = counts_left r.start xs ys r.counts; few = omega (arith, few, length-append xs ys) }

pub run_right : (xs ys : List ℕ) → Run (xs ++ ys) → Run ys
run_right xs ys r =
    let few = r.few in
    record { start = r.start + length xs; counts = counts_right r.start (r.start + length xs) xs ys refl r.counts; few = omega (arith, few, length-append xs ys) }

pub head_is : (n m : ℕ) (ms : List ℕ) → counts_up_from n (m ∷ ms) ≡ true → m ≡ n
head_is n m ms h = at (m == n) refl ((and_parts (m == n) (counts_up_from (suc n) ms) h).0)
  where
    at : (t : Bool) → (m == n) ≡ t → t ≡ true → m ≡ n
    at true e k = grind (arith, nat_tests)
    at false e k = absurd (let g : false ≡ true = k in cc)

pub numbers_small : (n : ℕ) (ms : List ℕ) → counts_up_from n ms ≡ true → n + length ms ≤ 4294967296 → Every IsNumber ms
numbers_small n [] h k = tt
numbers_small n (m ∷ ms) h k =
    let e = head_is n m ms h in
    (omega (arith, e, k), numbers_small (suc n) ms ((and_parts (m == n) (counts_up_from (suc n) ms) h).1) (omega (arith, k)))

pub run_small : (ns : List ℕ) → Run ns → Every IsNumber ns
run_small ns r = numbers_small r.start ns r.counts r.few

unlike : (n m : ℕ) → IsNumber n → IsNumber m → n < m → bytes_eq (decimal n) (decimal m) ≡ false
unlike n m h k l = at (bytes_eq (decimal n) (decimal m)) refl
  where
    at : (t : Bool) → bytes_eq (decimal n) (decimal m) ≡ t → t ≡ false
    at true e =
        let same : n ≡ m = decimal_injective n m (omega (arith, h)) (omega (arith, k)) ((bytes_eq-Decides (decimal n) (decimal m)).0 e) in
        absurd (omega (arith, same, l))
    at false e = refl

-- the names of a loop with a lower number don't come again
record Off (n : ℕ) (xs : List (List ℕ)) : Type 0 where
  lo_off : times (lo_name n) xs ≡ 0
  hi_off : times (hi_name n) xs ≡ 0
  by_off : times (by_name n) xs ≡ 0

off : (n k : ℕ) (ms : List ℕ) → IsNumber n → n < k → counts_up_from k ms ≡ true → Every IsNumber ms → Off n (flat_map bound_names ms ++ scratch_names)
off n k [] h l c e = record { lo_off = refl; hi_off = refl; by_off = refl }
off n k (m ∷ ms) h l c e = by (bytes_eq (decimal n) (decimal m)) (unlike n m h e.0 (let s = head_is k m ms c in omega (arith, s, l))) (off n (suc k) ms h (omega (arith, l)) ((and_parts (m == k) (counts_up_from (suc k) ms) c).1) e.1)
  where
    by : (t : Bool) → t ≡ false → Off n (flat_map bound_names ms ++ scratch_names) → Off n (flat_map bound_names (m ∷ ms) ++ scratch_names)
    by t u o =
        let same = unlike n m h e.0 (let s = head_is k m ms c in omega (arith, s, l)) in
        let lo_was = o.lo_off in
        let hi_was = o.hi_off in
        let by_was = o.by_off in
        record {
          lo_off = ap (λ b. one_if b + (0 + (0 + times (lo_name n) (flat_map bound_names ms ++ scratch_names)))) same ∙ omega (arith, lo_was);
          hi_off = ap (λ b. 0 + (one_if b + (0 + times (hi_name n) (flat_map bound_names ms ++ scratch_names)))) same ∙ omega (arith, hi_was);
          by_off = ap (λ b. 0 + (0 + (one_if b + times (by_name n) (flat_map bound_names ms ++ scratch_names)))) same ∙ omega (arith, by_was);
        }

one_at_most : (b : Bool) → one_if b ≤ 1
one_at_most true = omega arith
one_at_most false = omega arith

silent : (b : Bool) → b ≡ false → one_if b ≡ 0
silent true h = absurd (let g : true ≡ false = h in cc)
silent false h = refl

-- none of these stands twice
own_once : (k : ℕ) (ms : List ℕ) → counts_up_from k ms ≡ true → Every IsNumber ms → (y : List ℕ) → times y (flat_map bound_names ms ++ scratch_names) ≤ 1
own_once k [] c e y = times_by_apart scratch_names refl y
own_once k (m ∷ ms) c e y = by (bytes_eq y (lo_name m)) (bytes_eq y (hi_name m)) (bytes_eq y (by_name m)) refl refl refl (own_once (suc k) ms after e.1 y)
  where
    after : counts_up_from (suc k) ms ≡ true
    after = (and_parts (m == k) (counts_up_from (suc k) ms) c).1

    rest : List (List ℕ)
    rest = flat_map bound_names ms ++ scratch_names

    gone : Off m rest
    gone = off m (suc k) ms e.0 (let s = head_is k m ms c in omega (arith, s)) after e.1

    by : (l h b : Bool) → bytes_eq y (lo_name m) ≡ l → bytes_eq y (hi_name m) ≡ h → bytes_eq y (by_name m) ≡ b → times y rest ≤ 1
        → one_if l + (one_if h + (one_if b + times y rest)) ≤ 1
    by true h b el eh eb r =
        let is : y ≡ lo_name m = (bytes_eq-Decides y (lo_name m)).0 el in
        let second = silent h (sym eh ∙ ap (λ (z : List ℕ). bytes_eq z (hi_name m)) is) in
        let third = silent b (sym eb ∙ ap (λ (z : List ℕ). bytes_eq z (by_name m)) is) in
        let none : times y rest ≡ 0 = ap (λ (z : List ℕ). times z rest) is ∙ gone.lo_off in
        omega (arith, second, third, none)
    by false true b el eh eb r =
        let is : y ≡ hi_name m = (bytes_eq-Decides y (hi_name m)).0 eh in
        let third = silent b (sym eb ∙ ap (λ (z : List ℕ). bytes_eq z (by_name m)) is) in
        let none : times y rest ≡ 0 = ap (λ (z : List ℕ). times z rest) is ∙ gone.hi_off in
        omega (arith, third, none)
    by false false true el eh eb r =
        let is : y ≡ by_name m = (bytes_eq-Decides y (by_name m)).0 eb in
        let none : times y rest ≡ 0 = ap (λ (z : List ℕ). times z rest) is ∙ gone.by_off in
        omega (arith, none)
    by false false false el eh eb r = omega (arith, r)

pub own_apart : (ms : List ℕ) → Run ms → (y : List ℕ) → times y (flat_map bound_names ms ++ scratch_names) ≤ 1
own_apart ms r y = own_once r.start ms r.counts (run_small ms r) y

pub own_are : (ms : List ℕ) → Run ms → Every IsOwn (flat_map bound_names ms ++ scratch_names)
own_are ms r =
    every_append IsOwn (flat_map bound_names ms) scratch_names
    (every_flat IsOwn bound_names ms (every_is IsNumber (λ n. Every IsOwn (bound_names n)) bounds_own ms (run_small ms r))) scratch_own

pub bounds_variable : (n : ℕ) → IsNumber n → Every IsVariable (bound_names n)
bounds_variable n h = (lo_variable n h, (hi_variable n h, (by_variable n h, tt)))

pub own_variable : (ms : List ℕ) → Every IsNumber ms → Every IsVariable (flat_map bound_names ms ++ scratch_names)
own_variable ms e =
    every_append IsVariable (flat_map bound_names ms) scratch_names
    (every_flat IsVariable bound_names ms (every_is IsNumber (λ n. Every IsVariable (bound_names n)) bounds_variable ms e)) (refl, (refl, (refl, tt)))
