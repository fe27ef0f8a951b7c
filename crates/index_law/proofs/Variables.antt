-- What the form of a loop's variable is worth.
use Rattle.std.proofs.Common.{◌≡◌, ℕ, Bool, true, false, ℤ, pos, ◌+ℤ◌, ◌*ℤ◌, ◌-ℤ◌, neg_ℤ, refl, ap, sym, ◌∙◌, arith, Option, Some, None, Result, Ok, Err}
use Rattle.std.specs.Prelude.{if◌then◌else◌, nat_lt, option_map, int_div}
use Rattle.std.specs.Ordering.{int_eq}
use Rattle.std.proofs.lemmas.Int.{ints}
use Rattle.ring_core.specs.declared.index.IndexTrap.{IndexTrap}
use Rattle.ring_core.specs.Index.{exact_index}
use Rattle.fl_ast.specs.declared.kind.Kind.TheVariants as kind
use Rattle.fl_ast.specs.Tree.{Expression, literal, get, minus, binary, power, call}
use Rattle.fl_types.specs.Nests.{Head}
use Rattle.store_core.specs.Bounds.{clipped}
use Rattle.meaning.specs.declared.value.Dual.{Dual}
use Rattle.meaning.specs.declared.value.Value.{Value}
use Rattle.meaning.specs.declared.value.Value.TheVariants.{Index, Ring}
use Rattle.meaning.specs.declared.value.Cause.TheVariants.{ZeroDivisor}
use Rattle.meaning.specs.declared.value.IterationCount.{IterationCount}
use Rattle.meaning.specs.Values.{of_index, whole_number, literal_value, negation_result, dual_neg}
use Rattle.meaning.specs.Logs.{pure, lift, ◌>>=◌}
use Rattle.meaning.specs.Sites.{Cells, Site}
use Rattle.meaning.specs.Expressions.{value_of}
use Rattle.meaning.specs.Statements.{turns_by, step_value, turns_of, value_at}
use Rattle.meaning.proofs.Parts.{bound}
use Rattle.index_forms.specs.Form.{Atom}
use Rattle.index_forms.specs.Sums.{value}
use Rattle.index_forms.specs.Formed.{atom_form}
use Rattle.index_forms.specs.Loops.{literal_number, signed_number, step_number, base_form, variable_by, variable_form}
use Rattle.index_law.specs.Variables.{counter_value}
use Rattle.index_forms.proofs.Worths.{value-plus}
use Rattle.index_law.proofs.Nodes.{times-comm, exact_is, literal_is}

not_ring : (o : Result ℤ IndexTrap) (d : Dual) → of_index o ≡ Ok (Ring d) → ⊥
not_ring (Ok z) d h = cc
not_ring (Err t) d h = cc

literal_whole : (n : ℕ) (a : Value) → literal_value n kind.Index ≡ Ok a → whole_number a ≡ pos n
literal_whole n (Index z) h = sym (literal_is n kind.Index z h)
literal_whole n (Ring d) h = absurd (not_ring (exact_index (pos n)) d h)

chosen_is : (b : Bool) (y z : ℤ) → (if b then Some y else None) ≡ Some z → y ≡ z
chosen_is true y z h = cc
chosen_is false y z h = cc

-- ---- literals

number_is : (site : Site) (s : Cells) (e : Expression) (a : Value) (z : ℤ) → (value_of e site s).out ≡ Ok a → literal_number e ≡ Some z → whole_number a ≡ z
number_is site s (literal n kind.Index) a z h g = literal_whole n a h ∙ chosen_is (nat_lt n 2147483648) (pos n) z g
number_is site s (literal n kind.Ring) a z h g = cc
number_is site s (get x ss) a z h g = cc
number_is site s (minus b) a z h g = cc
number_is site s (binary o b c) a z h g = cc
number_is site s (power b n) a z h g = cc
number_is site s (call f es) a z h g = cc

negation_whole : (x a : Value) → negation_result x ≡ Ok a → whole_number a ≡ neg_ℤ (whole_number x)
negation_whole (Index z) (Index y) h = sym (exact_is (neg_ℤ z) y h)
negation_whole (Index z) (Ring d) h = absurd (not_ring (exact_index (neg_ℤ z)) d h)
negation_whole (Ring c) a h = let i : Ring (dual_neg c) ≡ a = cc in ap whole_number (sym i)

negated_is : (o : Option ℤ) (z w : ℤ) → option_map neg_ℤ o ≡ Some z → ((y : ℤ) → o ≡ Some y → w ≡ y) → neg_ℤ w ≡ z
negated_is None z w h g = cc
negated_is (Some y) z w h g = let i : neg_ℤ y ≡ z = cc in ap neg_ℤ (g y refl) ∙ i

signed_is : (site : Site) (s : Cells) (e : Expression) (a : Value) (z : ℤ) → (value_of e site s).out ≡ Ok a → signed_number e ≡ Some z → whole_number a ≡ z
signed_is site s (minus e) a z h g =
    let f = bound (value_of e site s) (λ x. lift (negation_result x)) a h in
    negation_whole f.value a f.second ∙ negated_is (literal_number e) z (whole_number f.value) g (λ y i. number_is site s e f.value y f.first i)
signed_is site s (literal n k) a z h g = number_is site s (literal n k) a z h g
signed_is site s (get x ss) a z h g = cc
signed_is site s (binary o b c) a z h g = cc
signed_is site s (power b n) a z h g = cc
signed_is site s (call f es) a z h g = cc

step_is : (site : Site) (s : Cells) (e : Option Expression) (a : Value) (z : ℤ) → (step_value e site s).out ≡ Ok a → step_number e ≡ Some z → whole_number a ≡ z
step_is site s None a z h g = let i : Index (pos 1) ≡ a = cc in let j : pos 1 ≡ z = cc in ap whole_number (sym i) ∙ j
step_is site s (Some e) a z h g = number_is site s e a z h g

-- ---- bounds

pub record Bounded (site : Site) (s : Cells) (low high : Expression) (step : Option Expression) (t : IterationCount) : Type 0 where
  pub from : Value
  pub by : Value
  pub first : (value_of low site s).out ≡ Ok from
  pub third : (step_value step site s).out ≡ Ok by
  pub at_first : t.first ≡ whole_number from
  pub at_step : t.step ≡ whole_number by

counted_by : (site : Site) (s : Cells) (low high : Expression) (step : Option Expression) (t : IterationCount) (a b c : Value) → (value_of low site s).out ≡ Ok a → (step_value step site s).out ≡ Ok c → (z : Bool) →
    (if z then lift (Err ZeroDivisor) else pure (record { first = whole_number a; last = whole_number b; step = whole_number c; count = clipped (int_div ((whole_number b -ℤ whole_number a) +ℤ whole_number c) (whole_number c)) })).out ≡ Ok t →
    Bounded site s low high step t
counted_by site s low high step t a b c p q true i = cc
counted_by site s low high step t a b c p q false i =
    let u : IterationCount = record { first = whole_number a; last = whole_number b; step = whole_number c; count = clipped (int_div ((whole_number b -ℤ whole_number a) +ℤ whole_number c) (whole_number c)) } in
    let j : u ≡ t = cc in
    record { from = a; by = c; first = p; third = q; at_first = sym (ap (λ (w : IterationCount). w.first) j); at_step = sym (ap (λ (w : IterationCount). w.step) j) }

bounded : (site : Site) (s : Cells) (low high : Expression) (step : Option Expression) (t : IterationCount) → (turns_of low high step site s).out ≡ Ok t → Bounded site s low high step t
bounded site s low high step t h =
    let f = bound (value_of low site s) (λ a. value_of high site s >>= (λ b. step_value step site s >>= (λ c. turns_by (whole_number a) (whole_number b) (whole_number c)))) t h in
    let g = bound (value_of high site s) (λ b. step_value step site s >>= (λ c. turns_by (whole_number f.value) (whole_number b) (whole_number c))) t f.second in
    let k = bound (step_value step site s) (λ c. turns_by (whole_number f.value) (whole_number g.value) (whole_number c)) t g.second in
    counted_by site s low high step t f.value g.value k.value f.first k.first (int_eq (whole_number k.value) (pos 0)) k.second

-- ---- forms

worth_atom : (v : Atom → ℤ) (a : Atom) → value v (atom_form a) ≡ v a
worth_atom v a = omega (arith, ints)

base_is : (v : Atom → ℤ) (base : Atom) (o : Option ℤ) (a : ℤ) → v base ≡ a → ((z : ℤ) → o ≡ Some z → a ≡ z) → value v (base_form base o) ≡ a
base_is v base None a h g = worth_atom v base ∙ h
base_is v base (Some z) a h g = let i : a ≡ z = g z refl in omega (arith, ints, i)

turned : (a b : ℤ) → a +ℤ b ≡ b +ℤ a
turned a b = omega (arith, ints)

by_step : (v : Atom → ℤ) (base counter : Atom) (first o : Option ℤ) (t : IterationCount) (k : ℕ) → ((z : ℤ) → o ≡ Some z → t.step ≡ z) → v counter ≡ counter_value o t k → value v (base_form base first) ≡ t.first →
    value v (variable_by base counter first o) ≡ value_at t k
by_step v base counter first None t k g i p = worth_atom v counter ∙ i
by_step v base counter first (Some c) t k g i p =
    let q : t.step ≡ c = g c refl in
    let w : value v (atom_form counter) ≡ pos k = worth_atom v counter ∙ i in
    value-plus v c (atom_form counter) (base_form base first)
    ∙ (ap (λ (y : ℤ). (c *ℤ y) +ℤ value v (base_form base first)) w
    ∙ (ap (λ (y : ℤ). (c *ℤ pos k) +ℤ y) p
    ∙ (ap (λ (y : ℤ). y +ℤ t.first) (times-comm c (pos k) ∙ ap (λ (y : ℤ). pos k *ℤ y) (sym q)) ∙ turned (pos k *ℤ t.step) t.first)))

pub variables_hold : (v : Atom → ℤ) (base counter : Atom) (h : Head) (site : Site) (cells : Cells) (t : IterationCount) (k : ℕ) → (turns_of h.first h.last h.step site cells).out ≡ Ok t →
    v base ≡ t.first → v counter ≡ counter_value (step_number h.step) t k → value v (variable_form base counter h) ≡ value_at t k
variables_hold v base counter h site cells t k e st it =
    let b = bounded site cells h.first h.last h.step t e in
    by_step v base counter (signed_number h.first) (step_number h.step) t k (λ z i. b.at_step ∙ step_is site cells h.step b.by z b.third i) it
    (base_is v base (signed_number h.first) t.first st (λ z i. b.at_first ∙ signed_is site cells h.first b.from z b.first i))
