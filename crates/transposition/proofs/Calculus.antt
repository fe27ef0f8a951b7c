-- What the occurrences of an expression are worth together: the sign, the product so far and the expression's tangent.
use Rattle.std.proofs.Common.{◌≡◌, ℕ, zero, suc, ◌+◌, ◌*◌, ◌%◌, ◌^◌, List, [], ◌∷◌, ◌++◌, refl, ap, sym, ◌∙◌, subst, arith, Bool, true, false, not, cond, Ok, Err, ℤ, pos}
use Rattle.std.specs.Prelude.{int_lt, if◌then◌else◌}
use Rattle.std.specs.Int.{int_pow}
use Rattle.ring_core.specs.declared.ring.Width.{Width}
use Rattle.ring_core.specs.Ring.{ring_mul, ring_pow}
use Rattle.ring_core.specs.Index.{exact_index, fits_index}
use Rattle.pairing.specs.Ring.{big, last, Same}
use Rattle.pairing.proofs.Sames.{of_equal, same_sum, same_product}
use Rattle.fl_ast.specs.declared.kind.Kind.TheVariants as kind
use Rattle.fl_ast.specs.declared.kind.BinOp.{BinOp}
use Rattle.fl_ast.specs.declared.kind.BinOp.TheVariants.{Add, Sub, Mul, Div}
use Rattle.fl_ast.specs.declared.kind.RelOp.{RelOp}
use Rattle.fl_ast.specs.declared.kind.RelOp.TheVariants as rel
use Rattle.fl_ast.specs.declared.kind.Fun.TheVariants.{Max, Min, Abs, Mod}
use Rattle.fl_ast.specs.Tree.{Expression, literal, get, minus, binary, power, call, Expressions, no_expressions, expression, relation}
use Rattle.fl_types.specs.declared.access.AccessKind.TheVariants.{Read}
use Rattle.ring_core.specs.declared.index.IndexTrap.TheVariants as index_trap
use Rattle.std.proofs.Math.Nat.{pow-suc, pow-zero}
use Rattle.meaning.proofs.Powers.{value_of_pow}
use Rattle.meaning.proofs.Parts.{Bound, bound, listed}
use Rattle.transposition.proofs.PowerFits.{powers_fit}
use Rattle.meaning.specs.declared.value.Dual.{Dual}
use Rattle.meaning.specs.declared.value.Value.{Value}
use Rattle.meaning.specs.declared.value.Value.TheVariants.{Index, Ring}
use Rattle.meaning.specs.declared.value.Cause.{Cause}
use Rattle.meaning.specs.Values.{Found, of_index, dual_pow, rank, whole_numbers, literal_value, binary_result, negation_result, power_result, larger_result, smaller_result, absolute_result, remainder, on_one, on_two, call_result, relates}
use Rattle.meaning.specs.Logs.{Log, silence, both, Traced, pure, lift, after, ◌>>=◌}
use Rattle.meaning.specs.Sites.{Cells, Site, place_of}
use Rattle.meaning.specs.Expressions.{content, read, value_of, values_of, holds}
use Rattle.meaning.specs.Adjoints.{tangent_of}
use Rattle.transposition.specs.Worlds.{World, name_at}
use Rattle.transposition.specs.Spread.{Factor, operand, either, Occurrence, power_factors, minus_one, occurrences, of_two, of_one, with_sign}
use Rattle.transposition.specs.Law.{Use, Fit}
use Rattle.transposition.specs.Needs.{is_data, PairOfOneKind, Kinded, KindedAll, Quiet, QuietAll}
use Rattle.transposition.proofs.Keys.{stands}
use Rattle.transposition.proofs.ValueKinds.{is_ring, value_kind, larger_is, smaller_is, negative_is}
use Rattle.transposition.proofs.Tangents.{negated_still, worth, moves, moves_is, moves_of, sum_of, binary_moves, negated_moves, remainder_moves, scaled, turned, power_none, power_some, power_index, literal_moves}
use Rattle.transposition.proofs.Reading.{TouchesIn}
use Rattle.transposition.proofs.Bounds.{Inside, inside_left, inside_right, ReadAt, read_inverted, bound_back, told_both}
use Rattle.transposition.proofs.Spreading.{KnownValue, KnownTest, Product, product_last, product_more, silent, Sum, sum_both}

pub record Sums (w : World) (s : Cells) (ts : Log) (a : ℕ) (os : List Occurrence) (y : ℕ) : Type 0 where
  pub z : ℕ
  pub sum : Sum w s ts a os z
  pub same : Same z y

-- the same sum, told otherwise
pub sums_same : (w : World) (s : Cells) (ts : Log) (a : ℕ) (os : List Occurrence) (x y : ℕ) → Same x y → Sums w s ts a os x → Sums w s ts a os y
sums_same w s ts a os x y h k = record { z = k.z; sum = k.sum; same = k.same ∙ h }

pub sums_both : (w : World) (s : Cells) (ts : Log) (a : ℕ) (os us : List Occurrence) (x y : ℕ) → Sums w s ts a os x → Sums w s ts a us y → Sums w s ts a (os ++ us) (x + y)
sums_both w s ts a os us x y h k = record { z = h.z + k.z; sum = sum_both w s ts a os us h.z k.z h.sum k.sum; same = same_sum h.z x k.z y h.same k.same }

sums_none : (w : World) (s : Cells) (ts : Log) (a m : ℕ) (less : Bool) (n : ℕ) → m ≡ 0 → Sums w s ts a [] (with_sign less n * m)
sums_none w s ts a m less n h = record { z = 0; sum = refl; same = of_equal 0 (with_sign less n * m) (rw h (omega arith)) }

none_sums : (w : World) (s : Cells) (ts : Log) (a : ℕ) (less : Bool) (n m : ℕ) → Same m 0 → Sums w s ts a [] (with_sign less n * m)
none_sums w s ts a less n m h = record { z = 0; sum = refl; same = of_equal 0 (with_sign less n * 0) (omega arith) ∙ same_product (with_sign less n) (with_sign less n) 0 m refl (sym h) }

-- ---- an occurrence

get_sums : (w : World) (u : Use) (s : Cells) (ts : Log) (x : List ℕ) (ss : Expressions) (less : Bool) (fs : List Factor) (a n : ℕ) (b : Bool) → Fit w u s → w.active x ≡ b → (b ≡ false → u.moved x ≡ false) → Product w s ts fs a n
    → Inside w ts (value_of (get x ss) w.site s).log → (v : Value) → (value_of (get x ss) w.site s).out ≡ Ok v
    → Sums w s ts a (if b then record { place = record { name = x; subscripts = ss }; negative = less; factors = fs } ∷ [] else []) (with_sign less n * moves v)
get_sums w u s ts x ss less fs a n b fit on quiet prod ins v h = by_test b on quiet
  where
    f : Bound (values_of ss w.site s) (read w.site s x) v
    f = bound (values_of ss w.site s) (read w.site s x) v h

    at : ReadAt w.site s x (place_of w.site x (whole_numbers f.value)) v (read w.site s x f.value).log
    at = read_inverted w.site s x (place_of w.site x (whole_numbers f.value)) v f.second

    subs : Inside w ts (values_of ss w.site s).log
    subs = inside_left w ts _ _ _ f.log ins

    self : Inside w ts (read w.site s x f.value).log
    self = inside_right w ts _ _ _ f.log ins

    here : tangent_of (content s at.p) ≡ moves v
    here = ap tangent_of at.holds ∙ moves_is v

    named : name_at w.site.keys at.p ≡ x
    named = (stands w.site.keys x (whole_numbers f.value) at.p at.place).named

    by_test : (b : Bool) → w.active x ≡ b → (b ≡ false → u.moved x ≡ false) → Sums w s ts a (if b then record { place = record { name = x; subscripts = ss }; negative = less; factors = fs } ∷ [] else []) (with_sign less n * moves v)
    by_test true e q = record {
      z = with_sign less n * tangent_of (content s at.p);
      sum = (
        with_sign less n * tangent_of (content s at.p),
        0,
        record {
          n = n;
          product = prod;
          p = at.p;
          placed = record { vals = f.value; out = f.first; told = subs.told; place = at.place };
          read = λ i. self.told Read at.p (at.touched i);
          differentiated = λ i. self.reads at.p (at.touched i);
          amount = refl;
        },
        refl,
        omega arith,
      );
      same = of_equal _ _ (ap (λ (m : ℕ). with_sign less n * m) here);
    }
    by_test false e q = none_sums w s ts a less n (moves v) (subst (λ (m : ℕ). Same m 0) here (fit.still at.p (ap u.moved named ∙ q refl)))

-- ---- the ring equations

add_equation : (k a b m : ℕ) → Same m (a + b) → Same (k * a + k * b) (k * m)
add_equation k a b m h = of_equal (k * a + k * b) (k * (a + b)) (omega arith) ∙ same_product k k (a + b) m refl (sym h)

sub_equation : (less : Bool) (n a b m : ℕ) → Same m (a + last * b) → Same (with_sign less n * a + with_sign (not less) n * b) (with_sign less n * m)
sub_equation less n a b m h = same_sum (with_sign less n * a) (with_sign less n * a) _ _ refl (turned less n b) ∙ add_equation (with_sign less n) a (last * b) m h

mul_equation : (less : Bool) (n va vb a b m : ℕ) → Same m (va * b + a * vb) → Same (with_sign less (ring_mul n vb) * a + with_sign less (ring_mul n va) * b) (with_sign less n * m)
mul_equation less n va vb a b m h =
    same_sum _ _ _ _ (scaled less n vb a) (scaled less n va b) ∙ add_equation (with_sign less n) (vb * a) (va * b) m (h ∙ of_equal (va * b + a * vb) (vb * a + va * b) (omega arith))

last_is : last ≡ minus_one
unfolding last
last_is = refl

-- ---- powers

fitted_fits : (z : ℤ) (v : Value) → of_index (exact_index z) ≡ Ok v → fits_index z ≡ true
unfolding exact_index
fitted_fits z v h = by_test (fits_index z) h
  where
    by_test : (b : Bool) → of_index (if b then Ok z else Err index_trap.Range) ≡ Ok v → b ≡ true
    by_test true g = refl
    by_test false g = cc

fits_found : (z : ℤ) → fits_index z ≡ true → of_index (exact_index z) ≡ Ok (Index z)
unfolding exact_index
fits_found z h = ap (λ (b : Bool). of_index (if b then Ok z else Err index_trap.Range)) h

power_told : (w : World) (s : Cells) (ts : Log) (b : Expression) (vb : Value) (p : ℕ) → (value_of b w.site s).out ≡ Ok vb → TouchesIn (value_of b w.site s).log ts → TouchesIn (value_of (power b p) w.site s).log ts
power_told w s ts b vb p o h = subst (λ (t : Traced Cause Value). TouchesIn t.log ts) (sym (bound_back (value_of b w.site s) (λ x. lift (power_result x p)) vb o)) (told_both ts (value_of b w.site s).log silence h (silent ts))

known_told : (w : World) (s : Cells) (ts : Log) (b : Expression) (vb : Value) → KnownValue w s ts b (worth vb) → TouchesIn (value_of b w.site s).log ts
known_told w s ts b vb k = k.told

record PowerStep (w : World) (s : Cells) (ts : Log) (b : Expression) (p n : ℕ) (vb v : Value) : Type 0 where
  pub m : ℕ
  pub product : Product w s ts (power_factors b p) n m
  pub same : (less : Bool) → Same (with_sign less m * moves vb) (with_sign less n * moves v)

number_known : (w : World) (s : Cells) (ts : Log) (n : ℕ) → KnownValue w s ts (literal n kind.Ring) n
number_known w s ts n = record { v = Ring (record { value = n; tangent = 0 }); out = refl; worth = refl; told = silent ts }

one_of_none : (v : ℕ) → ring_pow v 0 ≡ 1
one_of_none v = ap (λ (m : ℕ). m % 2 ^ 64) (pow-zero v)

reduced : (x : ℕ) → Same (x % 2 ^ 64) x
unfolding big
reduced x = omega arith

itself : (v : ℕ) → Same (ring_pow v 1) v
itself v = let e = pow-suc v 0 in let f = pow-zero v in let g : v ^ 1 ≡ v = e ∙ (ap (λ (m : ℕ). m * v) f ∙ omega arith) in reduced (v ^ 1) ∙ of_equal (v ^ 1) v g

power_step : (w : World) (s : Cells) (ts : Log) (b : Expression) (n : ℕ) (vb v : Value) → KnownValue w s ts b (worth vb) → (value_of b w.site s).out ≡ Ok vb → (p : ℕ) → power_result vb p ≡ Ok v → PowerStep w s ts b p n vb v
power_step w s ts b n vb v k o zero h = record {
  m = ring_mul n 0;
  product = (0, number_known w s ts 0, refl);
  same = λ less. scaled less n 0 (moves vb) ∙ of_equal _ _ (let e : moves v ≡ 0 = moves_of (power_result vb 0) (λ m. m ≡ 0) v h (power_none vb) in rw e (omega arith));
}
power_step w s ts b n (Index z) v k o (suc zero) h = record {
  m = n;
  product = refl;
  same = λ less. of_equal _ _ (ap (λ (m : ℕ). with_sign less n * m) (sym (moves_of (power_result (Index z) 1) (λ m. m ≡ 0) v h (power_index z 1))));
}
power_step w s ts b n (Ring d) v k o (suc zero) h = record {
  m = n;
  product = refl;
  same = λ less. same_product (with_sign less n) (with_sign less n) d.tangent (moves v) refl (sym (moves_of (power_result (Ring d) 1) (λ m. Same m d.tangent) v h one_power));
}
  where
    one_power : Same (dual_pow d 1).tangent d.tangent
    one_power = power_some d 0 ∙ of_equal _ _ (rw (one_of_none d.value) (omega arith))
power_step w s ts b n (Index z) v k o (suc (suc zero)) h = record {
  m = ring_mul (ring_mul n 2) (worth (Index z));
  product = (2, number_known w s ts 2, (worth (Index z), k, refl));
  same = λ less. of_equal _ _ (let e : moves v ≡ 0 = moves_of (power_result (Index z) 2) (λ m. m ≡ 0) v h (power_index z 2) in rw e (omega arith));
}
power_step w s ts b n (Ring d) v k o (suc (suc zero)) h = record {
  m = ring_mul (ring_mul n 2) d.value;
  product = (2, number_known w s ts 2, (d.value, k, refl));
  same = λ less. scaled less (ring_mul n 2) d.value d.tangent ∙ (scaled less n 2 (d.value * d.tangent) ∙ same_product (with_sign less n) (with_sign less n) _ (moves v) refl (sym (moves_of (power_result (Ring d) 2) (λ m. Same m (2 * (d.value * d.tangent))) v h two)));
}
  where
    two : Same (dual_pow d 2).tangent (2 * (d.value * d.tangent))
    two = power_some d 1 ∙ same_product 2 2 _ _ refl (same_product (ring_pow d.value 1) d.value d.tangent d.tangent (itself d.value) refl)
power_step w s ts b n (Index z) v k o (suc (suc (suc q))) h =
    let fits : fits_index (int_pow z (suc (suc q))) ≡ true = powers_fit z (suc (suc q)) (omega arith) (fitted_fits (int_pow z (suc (suc (suc q)))) v h) in
    let found : power_result (Index z) (suc (suc q)) ≡ Ok (Index (int_pow z (suc (suc q)))) = fits_found (int_pow z (suc (suc q))) fits in
    let before-last : KnownValue w s ts (power b (suc (suc q))) (worth (Index (int_pow z (suc (suc q))))) =
    record { v = Index (int_pow z (suc (suc q))); out = ap (λ (t : Traced Cause Value). t.out) (bound_back (value_of b w.site s) (λ x. lift (power_result x (suc (suc q)))) (Index z) o) ∙ found; worth = refl; told = power_told w s ts b (Index z) (suc (suc q)) o (known_told w s ts b (Index z) k) } in
    record {
      m = ring_mul (ring_mul n (suc (suc (suc q)))) (worth (Index (int_pow z (suc (suc q)))));
      product = (suc (suc (suc q)), number_known w s ts (suc (suc (suc q))), (worth (Index (int_pow z (suc (suc q)))), before-last, refl));
      same = λ less. of_equal _ _ (let e : moves v ≡ 0 = moves_of (power_result (Index z) (suc (suc (suc q)))) (λ m. m ≡ 0) v h (power_index z (suc (suc (suc q)))) in rw e (omega arith));
    }
power_step w s ts b n (Ring d) v k o (suc (suc (suc q))) h =
    let x : ℕ = ring_pow d.value (suc (suc q)) in
    let before-last : KnownValue w s ts (power b (suc (suc q))) x =
    record { v = Ring (dual_pow d (suc (suc q))); out = ap (λ (t : Traced Cause Value). t.out) (bound_back (value_of b w.site s) (λ x. lift (power_result x (suc (suc q)))) (Ring d) o); worth = sym (value_of_pow d (suc (suc q))); told = power_told w s ts b (Ring d) (suc (suc q)) o (known_told w s ts b (Ring d) k) } in
    record {
      m = ring_mul (ring_mul n (suc (suc (suc q)))) x;
      product = (suc (suc (suc q)), number_known w s ts (suc (suc (suc q))), (x, before-last, refl));
      same = λ less. scaled less (ring_mul n (suc (suc (suc q)))) x d.tangent ∙ (scaled less n (suc (suc (suc q))) (x * d.tangent) ∙ same_product (with_sign less n) (with_sign less n) _ (moves v) refl (sym (moves_of (power_result (Ring d) (suc (suc (suc q)))) (λ m. Same m (suc (suc (suc q)) * (x * d.tangent))) v h (power_some d (suc (suc q))))));
    }

-- ---- calls

-- a factor 1 or 0 on either side
chosen_equation : (less : Bool) (n a b : ℕ) (t : Bool) → Same (with_sign less (ring_mul n (cond t 1 0)) * a + with_sign less (ring_mul n (cond t 0 1)) * b) (with_sign less n * (if t then a else b))
chosen_equation less n a b true =
    same_sum _ _ _ _ (scaled less n 1 a) (scaled less n 0 b) ∙ of_equal (with_sign less n * (1 * a) + with_sign less n * (0 * b)) (with_sign less n * a) (omega arith)
chosen_equation less n a b false =
    same_sum _ _ _ _ (scaled less n 0 a) (scaled less n 1 b) ∙ of_equal (with_sign less n * (0 * a) + with_sign less n * (1 * b)) (with_sign less n * b) (omega arith)

test_known : (w : World) (s : Cells) (ts : Log) (o : RelOp) (a b : Expression) (va vb : Value) (n m : ℕ) → (value_of a w.site s).out ≡ Ok va → (value_of b w.site s).out ≡ Ok vb → TouchesIn (value_of a w.site s).log ts → TouchesIn (value_of b w.site s).log ts
    → KnownTest w s ts n m (relation o a b) (cond (relates w.site.width o va vb) n m)
test_known w s ts o a b va vb n m f g i j =
    let e : holds (relation o a b) w.site s ≡ after (value_of a w.site s).log (after (value_of b w.site s).log (pure (relates w.site.width o va vb))) =
    bound_back (value_of a w.site s) (λ x. value_of b w.site s >>= (λ y. pure (relates w.site.width o x y))) va f ∙ ap (λ (t : Traced Cause Bool). after (value_of a w.site s).log t) (bound_back (value_of b w.site s) (λ y. pure (relates w.site.width o va y)) vb g) in
    record {
      b = relates w.site.width o va vb;
      out = ap (λ (t : Traced Cause Bool). t.out) e;
      worth = refl;
      told = subst (λ (t : Traced Cause Bool). TouchesIn t.log ts) (sym e) (told_both ts (value_of a w.site s).log (both (value_of b w.site s).log silence) i (told_both ts (value_of b w.site s).log silence j (silent ts)));
    }

moves_if : (t : Bool) (v w : Value) → moves (if t then v else w) ≡ (if t then moves v else moves w)
moves_if true v w = refl
moves_if false v w = refl

taken_value : (f : Value → Value → Found) (vs ws : List Value) (v : Value) → vs ≡ ws → on_two f vs ≡ Ok v → on_two f ws ≡ Ok v
taken_value f vs ws v e h = subst (λ (xs : List Value). on_two f xs ≡ Ok v) e h

taken_one : (f : Value → Found) (vs ws : List Value) (v : Value) → vs ≡ ws → on_one f vs ≡ Ok v → on_one f ws ≡ Ok v
taken_one f vs ws v e h = subst (λ (xs : List Value). on_one f xs ≡ Ok v) e h

no_values : (site : Site) (s : Cells) (vs : List Value) → (values_of no_expressions site s).out ≡ Ok vs → vs ≡ []
no_values site s vs h = cc

-- `abs`: a factor -1 or 1
absolute_by : (va v : Value) (t : Bool) → (if t then negation_result va else Ok va) ≡ Ok v → Same (moves v) (cond t minus_one 1 * moves va)
absolute_by va v true g = moves_of (negation_result va) (λ m. Same m (last * moves va)) v g (negated_moves va) ∙ of_equal _ _ (ap (λ (m : ℕ). m * moves va) last_is)
absolute_by va v false g = of_equal _ _ (let e : va ≡ v = cc in ap moves (sym e) ∙ omega arith)

index_absolute : (z : ℤ) (v : Value) (t : Bool) → (if t then negation_result (Index z) else Ok (Index z)) ≡ Ok v → moves v ≡ 0
index_absolute z v true g = moves_of (negation_result (Index z)) (λ m. m ≡ 0) v g (negated_still z)
index_absolute z v false g = let e : Index z ≡ v = cc in ap moves (sym e)

absolute_moves : (b : Width) (va v : Value) (z0 : Dual) → z0.value ≡ 0 → absolute_result b va ≡ Ok v → Same (moves v) (cond (relates b rel.Lt va (Ring z0)) minus_one 1 * moves va)
absolute_moves b (Index z) v z0 e h = of_equal _ _ (index_absolute z v (int_lt (rank b (Index z)) (pos 0)) h ∙ omega arith)
absolute_moves b (Ring d) v z0 e h =
    subst (λ (t : Bool). Same (moves v) (cond t minus_one 1 * moves (Ring d))) (sym (negative_is b d z0 e)) (absolute_by (Ring d) v (int_lt (rank b (Ring d)) (pos 0)) h)

pub remainder_still : (vs : List Value) (v : Value) → on_two remainder vs ≡ Ok v → moves v ≡ 0
remainder_still [] v h = cc
remainder_still (a ∷ []) v h = cc
remainder_still (a ∷ b ∷ []) v h = moves_of (remainder a b) (λ m. m ≡ 0) v h (remainder_moves a b)
remainder_still (a ∷ b ∷ c ∷ vs) v h = cc

-- ---- expressions

abbrev pub SumsOf : World → Use → Cells → Log → Expression → Type 0
SumsOf w u s ts e =
    (less : Bool) (fs : List Factor) (a n : ℕ) → Product w s ts fs a n → Inside w ts (value_of e w.site s).log → Kinded w.site.ring e → Quiet w.active u e → (v : Value) → (value_of e w.site s).out ≡ Ok v
    → Sums w s ts a (occurrences w.active e less fs) (with_sign less n * moves v)

two_sums : (w : World) (u : Use) (s : Cells) (ts : Log) → Fit w u s → (o : RelOp) (f : Value → Value → Found) → ((x y : Value) → is_ring x ≡ is_ring y → f x y ≡ Ok (if relates w.site.width o x y then x else y)) → (a b : Expression) → SumsOf w u s ts a → SumsOf w u s ts b
    → (less : Bool) (fs : List Factor) (c n : ℕ) → Product w s ts fs c n → Inside w ts (values_of (expression a (expression b no_expressions)) w.site s).log → is_data w.site.ring a ≡ is_data w.site.ring b → Kinded w.site.ring a → Kinded w.site.ring b → Quiet w.active u a → Quiet w.active u b
    → (vs : List Value) → (values_of (expression a (expression b no_expressions)) w.site s).out ≡ Ok vs → (v : Value) → on_two f vs ≡ Ok v
    → Sums w s ts c (of_two w.active o (expression a (expression b no_expressions)) less fs) (with_sign less n * moves v)
two_sums w u s ts fit o f ch a b ka kb less fs c n prod ins one na nb qa qb vs h v g =
    let i = listed w.site s a (expression b no_expressions) vs h in
    let j = listed w.site s b no_expressions i.more i.second in
    let k : j.more ≡ [] = no_values w.site s j.more j.second in
    let e : vs ≡ i.value ∷ j.value ∷ [] = i.whole ∙ ap (λ (l : List Value). i.value ∷ l) (j.whole ∙ ap (λ (l : List Value). j.value ∷ l) k) in
    let found : f i.value j.value ≡ Ok v = taken_value f vs (i.value ∷ j.value ∷ []) v e g in
    let t : Bool = relates w.site.width o i.value j.value in
    let same-v : (if t then i.value else j.value) ≡ v = let m : Ok (if t then i.value else j.value) ≡ Ok v = sym (ch i.value j.value (value_kind w u s fit a na i.value i.first ∙ (one ∙ sym (value_kind w u s fit b nb j.value j.first)))) ∙ found in cc in
    let ia = inside_left w ts _ _ _ i.log ins in
    let ir = inside_right w ts _ _ _ i.log ins in
    let ib = inside_left w ts _ _ _ j.log (inside_left w ts _ _ _ refl ir) in
    let known1 = test_known w s ts o a b i.value j.value 1 0 i.first j.first ia.told ib.told in
    let known0 = test_known w s ts o a b i.value j.value 0 1 i.first j.first ia.told ib.told in
    sums_same w s ts c _ _ _ (chosen_equation less n (moves i.value) (moves j.value) t ∙ of_equal _ _ (ap (λ (m : ℕ). with_sign less n * m) (sym (moves_if t i.value j.value) ∙ ap moves same-v)))
    (sums_both w s ts c _ _ _ _ (ka less (fs ++ either 1 0 (relation o a b) ∷ []) c _ (product_last w s ts fs (either 1 0 (relation o a b)) c n _ prod known1) ia na qa i.value i.first)
    (kb less (fs ++ either 0 1 (relation o a b) ∷ []) c _ (product_last w s ts fs (either 0 1 (relation o a b)) c n _ prod known0) ib nb qb j.value j.first))

one_sums : (w : World) (u : Use) (s : Cells) (ts : Log) (a : Expression) → SumsOf w u s ts a
    → (less : Bool) (fs : List Factor) (c n : ℕ) → Product w s ts fs c n → Inside w ts (values_of (expression a no_expressions) w.site s).log → Kinded w.site.ring a → Quiet w.active u a
    → (vs : List Value) → (values_of (expression a no_expressions) w.site s).out ≡ Ok vs → (v : Value) → on_one (absolute_result w.site.width) vs ≡ Ok v
    → Sums w s ts c (of_one w.active (expression a no_expressions) less fs) (with_sign less n * moves v)
one_sums w u s ts a ka less fs c n prod ins na qa vs h v g =
    let i = listed w.site s a no_expressions vs h in
    let k : i.more ≡ [] = no_values w.site s i.more i.second in
    let found : (absolute_result w.site.width) i.value ≡ Ok v = taken_one (absolute_result w.site.width) vs (i.value ∷ []) v (i.whole ∙ ap (λ (l : List Value). i.value ∷ l) k) g in
    let ia = inside_left w ts _ _ _ i.log ins in
    let zero-value : Value = Ring (record { value = 0; tangent = 0 }) in
    let known = test_known w s ts rel.Lt a (literal 0 kind.Ring) i.value zero-value minus_one 1 i.first refl ia.told (silent ts) in
    sums_same w s ts c _ _ _ (scaled less n _ (moves i.value) ∙ same_product (with_sign less n) (with_sign less n) _ _ refl (sym (absolute_moves w.site.width i.value v (record { value = 0; tangent = 0 }) refl found)))
    (ka less (fs ++ either minus_one 1 (relation rel.Lt a (literal 0 kind.Ring)) ∷ []) c _ (product_last w s ts fs (either minus_one 1 (relation rel.Lt a (literal 0 kind.Ring))) c n _ prod known) ia na qa i.value i.first)

-- the values of an expression's two operands
record Operands (site : Site) (s : Cells) (a b : Expression) (op : BinOp) (v : Value) : Type 0 where
  pub va : Value
  pub vb : Value
  pub first : (value_of a site s).out ≡ Ok va
  pub second : (value_of b site s).out ≡ Ok vb
  pub result : binary_result op va vb ≡ Ok v
  pub log : (value_of (binary op a b) site s).log ≡ both (value_of a site s).log (both (value_of b site s).log silence)

operands : (site : Site) (s : Cells) (a b : Expression) (op : BinOp) (v : Value) → (value_of (binary op a b) site s).out ≡ Ok v → Operands site s a b op v
operands site s a b op v h =
    let f = bound (value_of a site s) (λ x. value_of b site s >>= (λ y. lift (binary_result op x y))) v h in
    let g = bound (value_of b site s) (λ y. lift (binary_result op f.value y)) v f.second in
    record { va = f.value; vb = g.value; first = f.first; second = g.first; result = g.second; log = f.log ∙ ap (λ (l : Log). both (value_of a site s).log l) g.log }

mutual
  pub expression_sums : (w : World) (u : Use) (s : Cells) (ts : Log) → Fit w u s → (e : Expression) → SumsOf w u s ts e
  expression_sums w u s ts fit (literal m k) less fs a n prod ins kd q v h = sums_none w s ts a (moves v) less n (moves_of (literal_value m k) (λ x. x ≡ 0) v h (literal_moves m k))
  expression_sums w u s ts fit (get x ss) less fs a n prod ins kd q v h = get_sums w u s ts x ss less fs a n (w.active x) fit refl q prod ins v h
  expression_sums w u s ts fit (minus e) less fs a n prod ins kd q v h =
      let f = bound (value_of e w.site s) (λ x. lift (negation_result x)) v h in
      sums_same w s ts a (occurrences w.active e (not less) fs) _ _ (turned less n (moves f.value) ∙ same_product (with_sign less n) (with_sign less n) _ (moves v) refl (sym (moves_of (negation_result f.value) (λ m. Same m (last * moves f.value)) v f.second (negated_moves f.value))))
      (expression_sums w u s ts fit e (not less) fs a n prod (inside_left w ts _ _ _ f.log ins) kd q f.value f.first)
  expression_sums w u s ts fit (binary Add e g) less fs a n prod ins kd q v h =
      let o = operands w.site s e g Add v h in
      sums_same w s ts a (occurrences w.active e less fs ++ occurrences w.active g less fs) _ _ (add_equation (with_sign less n) (moves o.va) (moves o.vb) (moves v) (moves_of (binary_result Add o.va o.vb) (λ m. Same m (sum_of Add o.va o.vb)) v o.result (binary_moves Add o.va o.vb)))
      (sums_both w s ts a _ _ _ _ (expression_sums w u s ts fit e less fs a n prod (inside_left w ts _ _ _ o.log ins) kd.0 q.0 o.va o.first)
      (expression_sums w u s ts fit g less fs a n prod (inside_left w ts _ _ _ refl (inside_right w ts _ _ _ o.log ins)) kd.1 q.1 o.vb o.second))
  expression_sums w u s ts fit (binary Sub e g) less fs a n prod ins kd q v h =
      let o = operands w.site s e g Sub v h in
      sums_same w s ts a (occurrences w.active e less fs ++ occurrences w.active g (not less) fs) _ _ (sub_equation less n (moves o.va) (moves o.vb) (moves v) (moves_of (binary_result Sub o.va o.vb) (λ m. Same m (sum_of Sub o.va o.vb)) v o.result (binary_moves Sub o.va o.vb)))
      (sums_both w s ts a _ _ _ _ (expression_sums w u s ts fit e less fs a n prod (inside_left w ts _ _ _ o.log ins) kd.0 q.0 o.va o.first)
      (expression_sums w u s ts fit g (not less) fs a n prod (inside_left w ts _ _ _ refl (inside_right w ts _ _ _ o.log ins)) kd.1 q.1 o.vb o.second))
  expression_sums w u s ts fit (binary Mul e g) less fs a n prod ins kd q v h =
      let o = operands w.site s e g Mul v h in
      let ie = inside_left w ts _ _ _ o.log ins in
      let ig : Inside w ts (value_of g w.site s).log = inside_left w ts _ _ _ refl (inside_right w ts _ _ _ o.log ins) in
      let ke : KnownValue w s ts e (worth o.va) = record { v = o.va; out = o.first; worth = refl; told = ie.told } in
      let kg : KnownValue w s ts g (worth o.vb) = record { v = o.vb; out = o.second; worth = refl; told = ig.told } in
      sums_same w s ts a (occurrences w.active e less (fs ++ operand g ∷ []) ++ occurrences w.active g less (fs ++ operand e ∷ [])) _ _ (mul_equation less n (worth o.va) (worth o.vb) (moves o.va) (moves o.vb) (moves v) (moves_of (binary_result Mul o.va o.vb) (λ m. Same m (sum_of Mul o.va o.vb)) v o.result (binary_moves Mul o.va o.vb)))
      (sums_both w s ts a _ _ _ _ (expression_sums w u s ts fit e less (fs ++ operand g ∷ []) a (ring_mul n (worth o.vb)) (product_last w s ts fs (operand g) a n (worth o.vb) prod kg) ie kd.0 q.0 o.va o.first)
      (expression_sums w u s ts fit g less (fs ++ operand e ∷ []) a (ring_mul n (worth o.va)) (product_last w s ts fs (operand e) a n (worth o.va) prod ke) ig kd.1 q.1 o.vb o.second))
  expression_sums w u s ts fit (binary Div e g) less fs a n prod ins kd q v h =
      let o = operands w.site s e g Div v h in
      none_sums w s ts a less n (moves v) (moves_of (binary_result Div o.va o.vb) (λ m. Same m (sum_of Div o.va o.vb)) v o.result (binary_moves Div o.va o.vb))
  expression_sums w u s ts fit (power e p) less fs a n prod ins kd q v h =
      let f = bound (value_of e w.site s) (λ x. lift (power_result x p)) v h in
      let ie = inside_left w ts _ _ _ f.log ins in
      let k : KnownValue w s ts e (worth f.value) = record { v = f.value; out = f.first; worth = refl; told = ie.told } in
      let st = power_step w s ts e n f.value v k f.first p f.second in
      sums_same w s ts a (occurrences w.active e less (fs ++ power_factors e p)) _ _ (st.same less)
      (expression_sums w u s ts fit e less (fs ++ power_factors e p) a st.m (product_more w s ts fs (power_factors e p) a n st.m prod st.product) ie kd q f.value f.first)
  expression_sums w u s ts fit (call Max args) less fs a n prod ins kd q v h =
      let f = bound (values_of args w.site s) (λ vs. lift (call_result w.site.width Max vs)) v h in
      pair_sums w u s ts fit rel.Ge (larger_result w.site.width) (larger_is w.site.width) args less fs a n prod (inside_left w ts _ _ _ f.log ins) kd.0 kd.1 q f.value f.first v f.second
  expression_sums w u s ts fit (call Min args) less fs a n prod ins kd q v h =
      let f = bound (values_of args w.site s) (λ vs. lift (call_result w.site.width Min vs)) v h in
      pair_sums w u s ts fit rel.Le (smaller_result w.site.width) (smaller_is w.site.width) args less fs a n prod (inside_left w ts _ _ _ f.log ins) kd.0 kd.1 q f.value f.first v f.second
  expression_sums w u s ts fit (call Abs args) less fs a n prod ins kd q v h =
      let f = bound (values_of args w.site s) (λ vs. lift (call_result w.site.width Abs vs)) v h in
      single_sums w u s ts fit args less fs a n prod (inside_left w ts _ _ _ f.log ins) kd.1 q f.value f.first v f.second
  expression_sums w u s ts fit (call Mod args) less fs a n prod ins kd q v h =
      let f = bound (values_of args w.site s) (λ vs. lift (call_result w.site.width Mod vs)) v h in
      sums_none w s ts a (moves v) less n (remainder_still f.value v f.second)

  pair_sums : (w : World) (u : Use) (s : Cells) (ts : Log) → Fit w u s → (o : RelOp) (f : Value → Value → Found) → ((x y : Value) → is_ring x ≡ is_ring y → f x y ≡ Ok (if relates w.site.width o x y then x else y)) → (args : Expressions)
      → (less : Bool) (fs : List Factor) (c n : ℕ) → Product w s ts fs c n → Inside w ts (values_of args w.site s).log → PairOfOneKind w.site.ring args → KindedAll w.site.ring args → QuietAll w.active u args
      → (vs : List Value) → (values_of args w.site s).out ≡ Ok vs → (v : Value) → on_two f vs ≡ Ok v
      → Sums w s ts c (of_two w.active o args less fs) (with_sign less n * moves v)
  pair_sums w u s ts fit o f ch no_expressions less fs c n prod ins one kd q vs h v g =
      let e = taken_value f vs [] v (no_values w.site s vs h) g in cc
  pair_sums w u s ts fit o f ch (expression a no_expressions) less fs c n prod ins one kd q vs h v g =
      let i = listed w.site s a no_expressions vs h in
      let e = taken_value f vs (i.value ∷ []) v (i.whole ∙ ap (λ (l : List Value). i.value ∷ l) (no_values w.site s i.more i.second)) g in cc
  pair_sums w u s ts fit o f ch (expression a (expression b no_expressions)) less fs c n prod ins one kd q vs h v g =
      two_sums w u s ts fit o f ch a b (expression_sums w u s ts fit a) (expression_sums w u s ts fit b) less fs c n prod ins one kd.0 kd.1.0 q.0 q.1.0 vs h v g
  pair_sums w u s ts fit o f ch (expression a (expression b (expression d es))) less fs c n prod ins one kd q vs h v g =
      let i = listed w.site s a (expression b (expression d es)) vs h in
      let j = listed w.site s b (expression d es) i.more i.second in
      let k = listed w.site s d es j.more j.second in
      let e = taken_value f vs (i.value ∷ j.value ∷ k.value ∷ k.more) v (i.whole ∙ ap (λ (l : List Value). i.value ∷ l) (j.whole ∙ ap (λ (l : List Value). j.value ∷ l) k.whole)) g in cc

  single_sums : (w : World) (u : Use) (s : Cells) (ts : Log) → Fit w u s → (args : Expressions)
      → (less : Bool) (fs : List Factor) (c n : ℕ) → Product w s ts fs c n → Inside w ts (values_of args w.site s).log → KindedAll w.site.ring args → QuietAll w.active u args
      → (vs : List Value) → (values_of args w.site s).out ≡ Ok vs → (v : Value) → on_one (absolute_result w.site.width) vs ≡ Ok v
      → Sums w s ts c (of_one w.active args less fs) (with_sign less n * moves v)
  single_sums w u s ts fit no_expressions less fs c n prod ins kd q vs h v g =
      let e = taken_one (absolute_result w.site.width) vs [] v (no_values w.site s vs h) g in cc
  single_sums w u s ts fit (expression a no_expressions) less fs c n prod ins kd q vs h v g =
      one_sums w u s ts a (expression_sums w u s ts fit a) less fs c n prod ins kd.0 q.0 vs h v g
  single_sums w u s ts fit (expression a (expression b es)) less fs c n prod ins kd q vs h v g =
      let i = listed w.site s a (expression b es) vs h in
      let j = listed w.site s b es i.more i.second in
      let e = taken_one (absolute_result w.site.width) vs (i.value ∷ j.value ∷ j.more) v (i.whole ∙ ap (λ (l : List Value). i.value ∷ l) j.whole) g in cc
