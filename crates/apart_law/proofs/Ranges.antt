-- The variable of a loop with literal bounds lies in the loop's range, and no turn is behind the last one.
use Rattle.std.proofs.Common.{◌≡◌, ℕ, zero, suc, ◌+◌, ◌-◌, ◌*◌, ◌/◌, ◌%◌, ◌<◌, ◌≤◌, Bool, true, false, ℤ, pos, negsuc, ◌+ℤ◌, ◌*ℤ◌, ◌-ℤ◌, neg_ℤ, ◌≤ℤ◌, int_lt, int_le, unsigned_abs, refl, ap, sym, ◌∙◌, subst, arith, mul-le-mul_right, div-add-mod', zero-lt-suc, Option, Some, None, Result, Ok, Err}
use Rattle.std.specs.Prelude.{if◌then◌else◌, nat_lt, option_map, int_div}
use Rattle.std.specs.Ordering.{int_eq}
use Rattle.std.proofs.lemmas.Bool.Decides.{nat_tests}
use Rattle.std.proofs.lemmas.Int.{ints}
use Rattle.std.proofs.Math.Nat.{add-div_right}
use Rattle.ring_core.specs.declared.index.IndexTrap.{IndexTrap}
use Rattle.ring_core.specs.Index.{exact_index}
use Rattle.fl_ast.specs.declared.kind.Kind.TheVariants as kind
use Rattle.fl_ast.specs.Tree.{Expression, literal, get, minus, binary, power, call}
use Rattle.fl_types.specs.Nests.{Head}
use Rattle.store_core.specs.Bounds.{clipped}
use Rattle.meaning.specs.declared.value.Dual.{Dual}
use Rattle.meaning.specs.declared.value.Value.{Value}
use Rattle.meaning.specs.declared.value.Value.TheVariants.{Index, Ring}
use Rattle.meaning.specs.declared.value.Cause.TheVariants.{ZeroDivisor}
use Rattle.meaning.specs.declared.value.IterationCount.{IterationCount}
use Rattle.meaning.specs.Values.{of_index, whole_number, literal_value, negation_result, dual_neg}
use Rattle.meaning.specs.Logs.{pure, lift, ◌>>=◌}
use Rattle.meaning.specs.Sites.{Cells, Site}
use Rattle.meaning.specs.Expressions.{value_of}
use Rattle.meaning.specs.Statements.{turns_by, step_value, turns_of, value_at}
use Rattle.meaning.proofs.Parts.{bound}
use Rattle.index_forms.specs.Loops.{literal_number, signed_number, step_number}
use Rattle.index_law.proofs.Nodes.{exact_is, literal_is}
use Rattle.index_ranges.specs.Ranges.{KnownRange, range_of, range_by, loop_range}
use Rattle.loop_scenes.specs.Turns.{last_turn, last_turn_by, last_turn_of}
use Rattle.apart_law.specs.Numbers.{LiesIn}

-- ---- what literals are worth

not_ring : (o : Result ℤ IndexTrap) (d : Dual) → of_index o ≡ Ok (Ring d) → ⊥
not_ring (Ok z) d h = cc
not_ring (Err t) d h = cc

literal_whole : (n : ℕ) (a : Value) → literal_value n kind.Index ≡ Ok a → whole_number a ≡ pos n
literal_whole n (Index z) h = sym (literal_is n kind.Index z h)
literal_whole n (Ring d) h = absurd (not_ring (exact_index (pos n)) d h)

chosen_is : (b : Bool) (y z : ℤ) → (if b then Some y else None) ≡ Some z → y ≡ z
chosen_is true y z h = cc
chosen_is false y z h = cc

number_is : (site : Site) (s : Cells) (e : Expression) (a : Value) (z : ℤ) → (value_of e site s).out ≡ Ok a → literal_number e ≡ Some z → whole_number a ≡ z
number_is site s (literal n kind.Index) a z h g = literal_whole n a h ∙ chosen_is (nat_lt n 2147483648) (pos n) z g
number_is site s (literal n kind.Ring) a z h g = cc
number_is site s (get x ss) a z h g = cc
number_is site s (minus b) a z h g = cc
number_is site s (binary o b c) a z h g = cc
number_is site s (power b n) a z h g = cc
number_is site s (call f es) a z h g = cc

negation_whole : (x a : Value) → negation_result x ≡ Ok a → whole_number a ≡ neg_ℤ (whole_number x)
negation_whole (Index z) (Index y) h = sym (exact_is (neg_ℤ z) y h)
negation_whole (Index z) (Ring d) h = absurd (not_ring (exact_index (neg_ℤ z)) d h)
negation_whole (Ring c) a h = let i : Ring (dual_neg c) ≡ a = cc in ap whole_number (sym i)

negated_is : (o : Option ℤ) (z w : ℤ) → option_map neg_ℤ o ≡ Some z → ((y : ℤ) → o ≡ Some y → w ≡ y) → neg_ℤ w ≡ z
negated_is None z w h g = cc
negated_is (Some y) z w h g = let i : neg_ℤ y ≡ z = cc in ap neg_ℤ (g y refl) ∙ i

signed_is : (site : Site) (s : Cells) (e : Expression) (a : Value) (z : ℤ) → (value_of e site s).out ≡ Ok a → signed_number e ≡ Some z → whole_number a ≡ z
signed_is site s (minus e) a z h g =
    let f = bound (value_of e site s) (λ x. lift (negation_result x)) a h in
    negation_whole f.value a f.second ∙ negated_is (literal_number e) z (whole_number f.value) g (λ y i. number_is site s e f.value y f.first i)
signed_is site s (literal n k) a z h g = number_is site s (literal n k) a z h g
signed_is site s (get x ss) a z h g = cc
signed_is site s (binary o b c) a z h g = cc
signed_is site s (power b n) a z h g = cc
signed_is site s (call f es) a z h g = cc

step_is : (site : Site) (s : Cells) (e : Option Expression) (a : Value) (z : ℤ) → (step_value e site s).out ≡ Ok a → step_number e ≡ Some z → whole_number a ≡ z
step_is site s None a z h g = let i : Index (pos 1) ≡ a = cc in let j : pos 1 ≡ z = cc in ap whole_number (sym i) ∙ j
step_is site s (Some e) a z h g = number_is site s e a z h g

-- ---- turns

-- from a to b by c
abbrev turns_from : (a b c : ℤ) → IterationCount
turns_from a b c = record { first = a; last = b; step = c; count = clipped (int_div ((b -ℤ a) +ℤ c) c) }

counted_by : (a b c : ℤ) (t : IterationCount) (z : Bool) → (if z then lift (Err ZeroDivisor) else pure (turns_from a b c)).out ≡ Ok t → turns_from a b c ≡ t
counted_by a b c t true h = cc
counted_by a b c t false h = cc

same_turns : (a b c x y z : ℤ) → a ≡ x → b ≡ y → c ≡ z → turns_from x y z ≡ turns_from a b c
same_turns a b c x y z e f g = rw (e, f, g) refl

turns_are : (site : Site) (s : Cells) (low high : Expression) (step : Option Expression) (t : IterationCount) → (turns_of low high step site s).out ≡ Ok t →
    (a b c : ℤ) → signed_number low ≡ Some a → signed_number high ≡ Some b → step_number step ≡ Some c → t ≡ turns_from a b c
turns_are site s low high step t h a b c d e f =
    let x = bound (value_of low site s) (λ u. value_of high site s >>= (λ v. step_value step site s >>= (λ w. turns_by (whole_number u) (whole_number v) (whole_number w)))) t h in
    let y = bound (value_of high site s) (λ v. step_value step site s >>= (λ w. turns_by (whole_number x.value) (whole_number v) (whole_number w))) t x.second in
    let z = bound (step_value step site s) (λ w. turns_by (whole_number x.value) (whole_number y.value) (whole_number w)) t y.second in
    sym (counted_by (whole_number x.value) (whole_number y.value) (whole_number z.value) t (int_eq (whole_number z.value) (pos 0)) z.second)
    ∙ sym (same_turns (whole_number x.value) (whole_number y.value) (whole_number z.value) a b c (signed_is site s low x.value a x.first d) (signed_is site s high y.value b y.first e) (step_is site s step z.value c z.first f))

-- ---- numbers

-- where a loop has a turn, how far its last value is above its first one
upwards : (a b : ℤ) → int_lt b a ≡ false → (w : ℕ) × (b -ℤ a ≡ pos w)
upwards (pos a) (pos b) h = let l : a ≤ b = grind (arith, nat_tests, h) in (b - a, omega (arith, ints, l))
upwards (pos a) (negsuc b) h = cc
upwards (negsuc a) (pos b) h = (b + suc a, omega (arith, ints))
upwards (negsuc a) (negsuc b) h = let l : b ≤ a = grind (arith, nat_tests, h) in (a - b, omega (arith, ints, l))

last_one : (w s m : ℕ) → m < (w + suc s) / suc s → m ≤ w / suc s
last_one w s m h = omega (arith, h, add-div_right w (zero-lt-suc s))

no_further : (w s m : ℕ) → m ≤ w / suc s → m * suc s ≤ w - w % suc s
no_further w s m h = omega (arith, mul-le-mul_right (suc s) h, div-add-mod' w (suc s))

-- the range, where a and c are literals and the last value is w above a
abbrev spanned : ℕ → ℤ → (w s : ℕ) → KnownRange
spanned n a w s = record { number = n; least = a; width = w - w % suc s }

lies_between : (a : ℤ) (u v : ℕ) → u ≤ v → (a ≤ℤ (a +ℤ pos u)) × ((a +ℤ pos u) ≤ℤ (a +ℤ pos v))
lies_between a u v h = (omega (arith, ints), omega (arith, ints, h))

in_turn_below : (w s m : ℕ) → m < clipped (int_div (pos w +ℤ pos (suc s)) (pos (suc s))) → m ≤ w / suc s
in_turn_below w s m h = last_one w s m h

-- m turns on
turned_lies : (n : ℕ) (a : ℤ) (w s m : ℕ) → m ≤ w / suc s → LiesIn (spanned n a w s) (a +ℤ (pos m *ℤ pos (suc s)))
turned_lies n a w s m h = lies_between a (m * suc s) (w - w % suc s) (no_further w s m h)

-- how often a loop turns by a positive step, as a condition on the differences alone
abbrev TurnsBelow : (a b c : ℤ) → ℕ → Type 0
TurnsBelow a b c m = m < clipped (int_div ((b -ℤ a) +ℤ c) c)

rising : (n : ℕ) (a b c : ℤ) (m : ℕ) → int_lt b a ≡ false → int_le c (pos 0) ≡ false → TurnsBelow a b c m →
    LiesIn (record { number = n; least = a; width = unsigned_abs (b -ℤ a) - unsigned_abs (b -ℤ a) % unsigned_abs c }) (a +ℤ (pos m *ℤ c))
rising n a b (pos zero) m h g i = cc
rising n a b (negsuc s) m h g i = cc
rising n a b (pos (suc s)) m h g i =
    let w = upwards a b h in
    let j : m ≤ w.0 / suc s = in_turn_below w.0 s m (subst (λ d. m < clipped (int_div (d +ℤ pos (suc s)) (pos (suc s)))) w.1 i) in
    subst (λ d. LiesIn (record { number = n; least = a; width = unsigned_abs d - unsigned_abs d % suc s }) (a +ℤ (pos m *ℤ pos (suc s)))) (sym w.1) (turned_lies n a w.0 s m j)

chosen_range : (n : ℕ) (a b c : ℤ) (m : ℕ) (r : KnownRange) (x y : Bool) → int_lt b a ≡ x → int_le c (pos 0) ≡ y →
    (if x then None else if y then None else Some (record { number = n; least = a; width = unsigned_abs (b -ℤ a) - unsigned_abs (b -ℤ a) % unsigned_abs c })) ≡ Some r → TurnsBelow a b c m → LiesIn r (a +ℤ (pos m *ℤ c))
chosen_range n a b c m r true y h g e i = cc
chosen_range n a b c m r false true h g e i = cc
chosen_range n a b c m r false false h g e i =
    let s : KnownRange = record { number = n; least = a; width = unsigned_abs (b -ℤ a) - unsigned_abs (b -ℤ a) % unsigned_abs c } in
    let j : s ≡ r = cc in
    subst (λ (q : KnownRange). LiesIn q (a +ℤ (pos m *ℤ c))) j (rising n a b c m h g i)

range_is : (n : ℕ) (a b c : ℤ) (m : ℕ) (r : KnownRange) → range_of n a b c ≡ Some r → TurnsBelow a b c m → LiesIn r (a +ℤ (pos m *ℤ c))
range_is n a b c m r e i = chosen_range n a b c m r (int_lt b a) (int_le c (pos 0)) refl refl e i

range_in_turns : (n : ℕ) (x y z : Option ℤ) (t : IterationCount) (m : ℕ) (r : KnownRange) → ((a b c : ℤ) → x ≡ Some a → y ≡ Some b → z ≡ Some c → t ≡ turns_from a b c) → m < t.count → range_by n x y z ≡ Some r → LiesIn r (value_at t m)
range_in_turns n (Some a) (Some b) (Some c) t m r f h e =
    let i = f a b c refl refl refl in
    subst (λ (u : IterationCount). LiesIn r (value_at u m)) (sym i) (range_is n a b c m r e (subst (λ (u : IterationCount). m < u.count) i h))
range_in_turns n None y z t m r f h e = cc
range_in_turns n (Some a) None z t m r f h e = cc
range_in_turns n (Some a) (Some b) None t m r f h e = cc

-- in each turn
pub range_holds : (site : Site) (cells : Cells) (low high : Expression) (step : Option Expression) (t : IterationCount) (m : ℕ) → (turns_of low high step site cells).out ≡ Ok t → m < t.count →
    (number : ℕ) (r : KnownRange) → loop_range number low high step ≡ Some r → LiesIn r (value_at t m)
range_holds site cells low high step t m h i number r e =
    range_in_turns number (signed_number low) (signed_number high) (step_number step) t m r (turns_are site cells low high step t h) i e

-- ---- the last turn

not_later : (a b c : ℤ) (k : ℕ) → int_lt b a ≡ false → int_le c (pos 0) ≡ false → TurnsBelow a b c k → k ≤ unsigned_abs (b -ℤ a) / unsigned_abs c
not_later a b (pos zero) k h g i = cc
not_later a b (negsuc s) k h g i = cc
not_later a b (pos (suc s)) k h g i =
    let w = upwards a b h in
    let j : k ≤ w.0 / suc s = in_turn_below w.0 s k (subst (λ d. k < clipped (int_div (d +ℤ pos (suc s)) (pos (suc s)))) w.1 i) in
    subst (λ d. k ≤ unsigned_abs d / suc s) (sym w.1) j

chosen_last : (a b c : ℤ) (k m : ℕ) (x y : Bool) → int_lt b a ≡ x → int_le c (pos 0) ≡ y →
    (if x then None else if y then None else Some (unsigned_abs (b -ℤ a) / unsigned_abs c)) ≡ Some m → TurnsBelow a b c k → k ≤ m
chosen_last a b c k m true y h g e i = cc
chosen_last a b c k m false true h g e i = cc
chosen_last a b c k m false false h g e i =
    let j : unsigned_abs (b -ℤ a) / unsigned_abs c ≡ m = cc in
    subst (λ (n : ℕ). k ≤ n) j (not_later a b c k h g i)

last_is : (a b c : ℤ) (k m : ℕ) → last_turn a b c ≡ Some m → TurnsBelow a b c k → k ≤ m
last_is a b c k m e i = chosen_last a b c k m (int_lt b a) (int_le c (pos 0)) refl refl e i

last_in_turns : (x y z : Option ℤ) (t : IterationCount) (k m : ℕ) → ((a b c : ℤ) → x ≡ Some a → y ≡ Some b → z ≡ Some c → t ≡ turns_from a b c) → k < t.count → last_turn_by x y z ≡ Some m → k ≤ m
last_in_turns (Some a) (Some b) (Some c) t k m f h e =
    let i = f a b c refl refl refl in
    last_is a b c k m e (subst (λ (u : IterationCount). k < u.count) i h)
last_in_turns None y z t k m f h e = cc
last_in_turns (Some a) None z t k m f h e = cc
last_in_turns (Some a) (Some b) None t k m f h e = cc

-- no turn of a loop comes behind the one that is known as its last
pub second_holds : (site : Site) (cells : Cells) (h : Head) (t : IterationCount) (k : ℕ) → (turns_of h.first h.last h.step site cells).out ≡ Ok t → k < t.count → (m : ℕ) → last_turn_of (Some h) ≡ Some m → k ≤ m
second_holds site cells h t k e i m g =
    last_in_turns (signed_number h.first) (signed_number h.last) (step_number h.step) t k m (turns_are site cells h.first h.last h.step t e) i g
