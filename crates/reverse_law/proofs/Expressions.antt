-- By induction on split trees: expressions and conditions are evaluated as the trees that they stand for read.
use Rattle.std.specs.Prelude.{◌≡◌, ℕ, ℤ, pos, negsuc, Bool, true, false, not, ◌&&◌, ◌||◌, if◌then◌else◌, nat_lt, [], ◌∷◌, Ok, int_lt, int_le, neg_ℤ, refl}
use Rattle.std.specs.Int.{int_pow}
use Rattle.std.proofs.Common.{ap, sym, ◌∙◌}
use Rattle.std.proofs.lemmas.Bool.{and_parts}
use Rattle.ring_core.specs.declared.ring.Width.{Width}
use Rattle.ring_core.specs.Index.{exact_index, index_rem}
use Rattle.ring_core.specs.Ring.{ring_neg, ring_pow, signed_at}
use Rattle.fl_ast.specs.declared.kind.Kind.TheVariants as kind
use Rattle.fl_ast.specs.declared.kind.BinOp.{BinOp}
use Rattle.fl_ast.specs.declared.kind.BinOp.TheVariants as op
use Rattle.fl_ast.specs.declared.kind.RelOp.{RelOp}
use Rattle.fl_ast.specs.declared.kind.Fun.TheVariants.{Max, Min, Abs, Mod}
use Rattle.fl_ast.specs.Tree.{get}
use Rattle.fl_types.specs.Kinds.{is_index_kind}
use Rattle.fl_types.specs.Sharing.{is_ring_kind}
use Rattle.fl_ast.specs.declared.kind.Kind.{Kind}
use Rattle.operations.specs.Tree.{done}
use Rattle.meaning.specs.declared.value.Value.{Value}
use Rattle.meaning.specs.declared.value.Value.TheVariants.{Index, Ring}
use Rattle.meaning.specs.declared.value.Dual.{Dual}
use Rattle.meaning.specs.Values.{as_dual, relates, ring_result, of_index, literal_value, index_result, binary_result, negation_result, power_result, larger_result, smaller_result, absolute_result, compares, remainder}
use Rattle.meaning.specs.Sites.{kind_of}
use Rattle.meaning.proofs.Powers.{value_of_pow}
use Rattle.resolved.specs.SlotTables.{Names}
use Rattle.transposition.specs.Worlds.{World, Local}
use Rattle.transposition.specs.Reads.{value_or_zero, value_tree, values_tree, holds_tree}
use Rattle.sweep_trees.specs.declared.code.RingOp.{RingOp}
use Rattle.sweep_trees.specs.declared.code.RingOp.TheVariants.{Add, Sub, Mul}
use Rattle.sweep_trees.specs.Split.{SpotTree, scalar, element, elements, IndexTree, number, index_get, index_minus, index_binary, index_power, index_larger, index_smaller, index_remainder, index_absolute, IndexTrees, no_indices, index, RingTree, word, ring_get, widened, ring_minus, ring_binary, ring_power, ring_larger, ring_smaller, ring_absolute, TestTree, index_test, ring_test, not_test, and_test, or_test}
use Rattle.sweep_trees.specs.Standing.{one, op_back, is_slot, spot_back, index_back, indices_back, ring_back, test_back, is_spot_fit, is_index_fit, are_indices_fit, is_widened, is_ring_fit, is_test_fit}
use Rattle.sweep_evaluation.specs.Machine.{ran, ◌to◌, exactly, index_found, larger_index, smaller_index, absolute_index, widen, ring_found, larger_word, smaller_word, absolute_word, spot_word, index_value, index_values, ring_value, test_value}
use Rattle.undo_steps.specs.UndosStand.{unwatched}
use Rattle.reverse_sweep.specs.Reversing.{reversing, told}
use Rattle.reverse_law.specs.Reverse.{IsNamed}
use Rattle.reverse_law.proofs.Going.{go}
use Rattle.reverse_law.proofs.Evaluating.{Evaluates, eval_done, eval_then, eval_map, eval_two, eval_exactly, IsSame, IsNumber, IsWord, AreNumbers, is_at, spot_at, slot_named, AtPlace, AtIndex, AtIndices, at_scalar, at_subscripts, at_one, at_word, at_number, word_of_kind, eval_argument, eval_arguments}

-- ---- numbers of the index kind

literal_index : (n : ℕ) → nat_lt n 2147483648 ≡ true → value_or_zero (literal_value n kind.Index) ≡ Index (pos n)
unfolding exact_index
literal_index n h = rw h refl

index_op : (o : BinOp) (x y : ℤ) → index_result o x y ≡ of_index (index_found o x y)
index_op op.Add x y = refl
index_op op.Sub x y = refl
index_op op.Mul x y = refl
index_op op.Div x y = refl

absolute_found : (w : Width) (z : ℤ) → absolute_result w (Index z) ≡ of_index (absolute_index z)
absolute_found w z = by_sign (int_lt z (pos 0))
  where
    by_sign : (b : Bool) → (if b then negation_result (Index z) else Ok (Index z)) ≡ of_index (if b then exact_index (neg_ℤ z) else Ok z)
    by_sign true = refl
    by_sign false = refl

chosen : (b : Bool) (x y : ℤ) → (if b then Index x else Index y) ≡ Index (if b then x else y)
chosen true x y = refl
chosen false x y = refl

mutual
  pub at_place : (names : Names) (w : World) → IsNamed names w.site → (l : Local) (of_kind : Kind → Bool) (p : SpotTree) → is_spot_fit names unwatched of_kind p ≡ true → AtPlace names w l p
  at_place names w s l of_kind (scalar slot place accessed) h = at_scalar names w s l of_kind slot place accessed h
  at_place names w s l of_kind (element slot accessed i) h =
      let p = and_parts (is_slot names unwatched of_kind slot accessed) (is_index_fit names unwatched i) h in
      at_subscripts names w s l slot (is_at names w.site s of_kind slot accessed p.0).below (one (index_back names.0 i)) (λ s. index_value (told w.shared) names i s to (λ z. ran (z ∷ []))) (at_one names w l i (at_index names w s l i p.1))
  at_place names w s l of_kind (elements slot accessed is) h =
      let p = and_parts (is_slot names unwatched of_kind slot accessed) (are_indices_fit names unwatched is) h in
      at_subscripts names w s l slot (is_at names w.site s of_kind slot accessed p.0).below (indices_back names.0 is) (index_values (told w.shared) names is) (at_indices names w s l is p.1)

  pub at_index : (names : Names) (w : World) → IsNamed names w.site → (l : Local) (i : IndexTree) → is_index_fit names unwatched i ≡ true → AtIndex names w l i
  at_index names w s l (number (pos n)) h = λ cells g. record { value = literal_index n h; state = refl }
  at_index names w s l (number (negsuc n)) h = cc
  at_index names w s l (index_get p) h = at_number names w s l p h (at_place names w s l is_index_kind p h)
  at_index names w s l (index_minus a) h =
      eval_then l (value_tree (index_back names.0 a) w l) (λ v. done (value_or_zero (negation_result v))) IsNumber IsNumber (index_value (told w.shared) names a) (λ x. exactly (told w.shared) (exact_index (neg_ℤ x)))
      (at_index names w s l a h) (λ v x r. eval_exactly l w.shared (negation_result v) (exact_index (neg_ℤ x)) (ap negation_result r))
  at_index names w s l (index_binary p a b) h =
      let q = and_parts (is_index_fit names unwatched a) (is_index_fit names unwatched b) h in
      eval_two l (value_tree (index_back names.0 a) w l) (value_tree (index_back names.0 b) w l) (λ v u. done (value_or_zero (binary_result p v u))) IsNumber IsNumber IsNumber
      (index_value (told w.shared) names a) (index_value (told w.shared) names b) (λ x y. exactly (told w.shared) (index_found p x y)) (at_index names w s l a q.0) (at_index names w s l b q.1)
      (λ v u x y r t. eval_exactly l w.shared (binary_result p v u) (index_found p x y) (rw (r, t) (index_op p x y)))
  at_index names w s l (index_power a n) h =
      eval_then l (value_tree (index_back names.0 a) w l) (λ v. done (value_or_zero (power_result v n))) IsNumber IsNumber (index_value (told w.shared) names a) (λ x. exactly (told w.shared) (exact_index (int_pow x n)))
      (at_index names w s l a h) (λ v x r. eval_exactly l w.shared (power_result v n) (exact_index (int_pow x n)) (ap (λ u. power_result u n) r))
  at_index names w s l (index_larger a b) h =
      let q = and_parts (is_index_fit names unwatched a) (is_index_fit names unwatched b) h in
      eval_arguments w l (index_back names.0 a) (index_back names.0 b) Max IsNumber IsNumber IsNumber (index_value (told w.shared) names a) (index_value (told w.shared) names b) (λ x y. ran (larger_index x y))
      (at_index names w s l a q.0) (at_index names w s l b q.1)
      (λ v u x y r t. eval_done l IsNumber (value_or_zero (larger_result w.site.width v u)) (larger_index x y) (rw (r, t) (chosen (int_le y x) x y)))
  at_index names w s l (index_smaller a b) h =
      let q = and_parts (is_index_fit names unwatched a) (is_index_fit names unwatched b) h in
      eval_arguments w l (index_back names.0 a) (index_back names.0 b) Min IsNumber IsNumber IsNumber (index_value (told w.shared) names a) (index_value (told w.shared) names b) (λ x y. ran (smaller_index x y))
      (at_index names w s l a q.0) (at_index names w s l b q.1)
      (λ v u x y r t. eval_done l IsNumber (value_or_zero (smaller_result w.site.width v u)) (smaller_index x y) (rw (r, t) (chosen (int_le x y) x y)))
  at_index names w s l (index_remainder a b) h =
      let q = and_parts (is_index_fit names unwatched a) (is_index_fit names unwatched b) h in
      eval_arguments w l (index_back names.0 a) (index_back names.0 b) Mod IsNumber IsNumber IsNumber (index_value (told w.shared) names a) (index_value (told w.shared) names b) (λ x y. exactly (told w.shared) (index_rem x y))
      (at_index names w s l a q.0) (at_index names w s l b q.1)
      (λ v u x y r t. eval_exactly l w.shared (remainder v u) (index_rem x y) (rw (r, t) refl))
  at_index names w s l (index_absolute a) h =
      eval_argument w l (index_back names.0 a) Abs IsNumber IsNumber (index_value (told w.shared) names a) (λ x. exactly (told w.shared) (absolute_index x)) (at_index names w s l a h)
      (λ v x r. eval_exactly l w.shared (absolute_result w.site.width v) (absolute_index x) (ap (absolute_result w.site.width) r ∙ absolute_found w.site.width x))

  pub at_indices : (names : Names) (w : World) → IsNamed names w.site → (l : Local) (is : IndexTrees) → are_indices_fit names unwatched is ≡ true → AtIndices names w l is
  at_indices names w s l no_indices h = λ cells g. record { value = refl; state = refl }
  at_indices names w s l (index i is) h =
      let q = and_parts (is_index_fit names unwatched i) (are_indices_fit names unwatched is) h in
      eval_two l (value_tree (index_back names.0 i) w l) (values_tree (indices_back names.0 is) w l) (λ v vs. done (v ∷ vs)) IsNumber AreNumbers AreNumbers
      (index_value (told w.shared) names i) (index_values (told w.shared) names is) (λ z zs. ran (z ∷ zs)) (at_index names w s l i q.0) (at_indices names w s l is q.1)
      (λ v vs z zs r t. eval_done l AreNumbers (v ∷ vs) (z ∷ zs) (rw (r, t) refl))

-- ---- words

not_true : (b : Bool) → not b ≡ true → b ≡ false
not_true true h = cc
not_true false h = refl

neither : (a b : Bool) → not (a || b) ≡ true → (a ≡ false) × (b ≡ false)
neither true b h = cc
neither false true h = cc
neither false false h = (refl, refl)

both_widened : (a b : Bool) → not (a && b) ≡ true → (a ≡ false → ⊥) → (b ≡ false → ⊥) → ⊥
both_widened true true h p q = cc
both_widened true false h p q = q refl
both_widened false b h p q = p refl

minus_word : (a : Bool) (v : Value) (x : ℕ) → a ≡ false → IsWord a v x → IsWord false (value_or_zero (negation_result v)) (ring_neg x)
minus_word a (Ring d) x e r = (ap ring_neg r.0, λ f. tt)
minus_word a (Index z) x e r = absurd (r.1 e)

power_word : (a : Bool) (n : ℕ) (v : Value) (x : ℕ) → a ≡ false → IsWord a v x → IsWord false (value_or_zero (power_result v n)) (ring_pow x n)
power_word a n (Ring d) x e r = (value_of_pow d n ∙ ap (λ y. ring_pow y n) r.0, λ f. tt)
power_word a n (Index z) x e r = absurd (r.1 e)

sign_word : (b : Bool) (d : Dual) (x : ℕ) → d.value ≡ x → IsWord false (value_or_zero (if b then negation_result (Ring d) else Ok (Ring d))) (if b then ring_neg x else x)
sign_word true d x e = (ap ring_neg e, λ f. tt)
sign_word false d x e = (e, λ f. tt)

absolute_word_is : (w : Width) (a : Bool) (v : Value) (x : ℕ) → a ≡ false → IsWord a v x → IsWord false (value_or_zero (absolute_result w v)) (absolute_word w x)
absolute_word_is w a (Ring d) x e r = rw (sym r.0) (sign_word (int_lt (signed_at w d.value) (pos 0)) d d.value refl)
absolute_word_is w a (Index z) x e r = absurd (r.1 e)

choice_word : (b : Bool) (d e : Dual) → IsWord false (if b then Ring d else Ring e) (if b then d.value else e.value)
choice_word true d e = (refl, λ f. tt)
choice_word false d e = (refl, λ f. tt)

larger_is : (w : Width) (a b : Bool) (v u : Value) (x y : ℕ) → not (a || b) ≡ true → IsWord a v x → IsWord b u y → IsWord false (value_or_zero (larger_result w v u)) (larger_word w x y)
larger_is w a b (Ring d) (Ring e) x y h r s = rw (sym r.0, sym s.0) (choice_word (int_le (signed_at w e.value) (signed_at w d.value)) d e)
larger_is w a b (Index z) u x y h r s = absurd (r.1 (neither a b h).0)
larger_is w a b (Ring d) (Index z) x y h r s = absurd (s.1 (neither a b h).1)

smaller_is : (w : Width) (a b : Bool) (v u : Value) (x y : ℕ) → not (a || b) ≡ true → IsWord a v x → IsWord b u y → IsWord false (value_or_zero (smaller_result w v u)) (smaller_word w x y)
smaller_is w a b (Ring d) (Ring e) x y h r s = rw (sym r.0, sym s.0) (choice_word (int_le (signed_at w d.value) (signed_at w e.value)) d e)
smaller_is w a b (Index z) u x y h r s = absurd (r.1 (neither a b h).0)
smaller_is w a b (Ring d) (Index z) x y h r s = absurd (s.1 (neither a b h).1)

dual_word : (o : RingOp) (d e : Dual) (x y : ℕ) → d.value ≡ x → e.value ≡ y → IsWord false (value_or_zero (ring_result (op_back o) d e)) (ring_found o x y)
dual_word Add d e x y p q = (rw (p, q) refl, λ f. tt)
dual_word Sub d e x y p q = (rw (p, q) refl, λ f. tt)
dual_word Mul d e x y p q = (rw (p, q) refl, λ f. tt)

operation_word : (o : RingOp) (a b : Bool) (v u : Value) (x y : ℕ) → not (a && b) ≡ true → IsWord a v x → IsWord b u y → IsWord false (value_or_zero (binary_result (op_back o) v u)) (ring_found o x y)
operation_word o a b (Ring d) (Ring e) x y h r s = dual_word o d e x y r.0 s.0
operation_word o a b (Index z) (Ring e) x y h r s = dual_word o (as_dual (Index z)) e x y r.0 s.0
operation_word o a b (Ring d) (Index z) x y h r s = dual_word o d (as_dual (Index z)) x y r.0 s.0
operation_word o a b (Index z) (Index t) x y h r s = absurd (both_widened a b h r.1 s.1)

relation_is : (w : Width) (o : RelOp) (a b : Bool) (v u : Value) (x y : ℕ) → not (a && b) ≡ true → IsWord a v x → IsWord b u y → relates w o v u ≡ compares o (signed_at w x) (signed_at w y)
relation_is w o a b (Ring d) (Ring e) x y h r s = rw (r.0, s.0) refl
relation_is w o a b (Index z) (Ring e) x y h r s = rw (r.0, s.0) refl
relation_is w o a b (Ring d) (Index z) x y h r s = rw (r.0, s.0) refl
relation_is w o a b (Index z) (Index t) x y h r s = absurd (both_widened a b h r.1 s.1)

widened_word : (v : Value) (z : ℤ) → IsNumber v z → IsWord true v (widen z)
widened_word v z r = rw r (refl, λ e. cc)

abbrev AtRing : Names → World → Local → RingTree → Type 0
AtRing names w l a = Evaluates l (value_tree (ring_back names.0 a) w l) (IsWord (is_widened a)) (ring_value (told w.shared) names a)

at_ring_spot : (names : Names) (w : World) → IsNamed names w.site → (l : Local) (p : SpotTree) → is_spot_fit names unwatched is_ring_kind p ≡ true → AtRing names w l (ring_get p)
at_ring_spot names w s l p h =
    let q = spot_back names.0 p in
    let k : is_ring_kind (kind_of w.site q.name) ≡ true = ap (λ y. is_ring_kind (kind_of w.site y)) (slot_named names.0 p) ∙ (spot_at names w.site s is_ring_kind p h).kinded in
    λ cells g.
    let m = at_word names w l p (at_place names w s l is_ring_kind p h) cells g in
    record { value = word_of_kind (kind_of w.site q.name) (go cells (value_tree (get q.name q.subscripts) w l) g).out (spot_word (told w.shared) names p (reversing l g)).out k m.value; state = m.state }

pub at_ring : (names : Names) (w : World) → IsNamed names w.site → (l : Local) (a : RingTree) → is_ring_fit names unwatched a ≡ true → AtRing names w l a
at_ring names w s l (word x) h = λ cells g. record { value = (refl, λ e. tt); state = refl }
at_ring names w s l (ring_get p) h = at_ring_spot names w s l p h
at_ring names w s l (widened i) h =
    λ cells g. let m = at_index names w s l i h cells g in record { value = widened_word (go cells (value_tree (index_back names.0 i) w l) g).out (index_value (told w.shared) names i (reversing l g)).out m.value; state = m.state }
at_ring names w s l (ring_minus a) h =
    let q = and_parts (not (is_widened a)) (is_ring_fit names unwatched a) h in
    eval_map l (value_tree (ring_back names.0 a) w l) (λ v. value_or_zero (negation_result v)) (IsWord (is_widened a)) (IsWord false) (ring_value (told w.shared) names a) ring_neg (at_ring names w s l a q.1)
    (λ v x r. minus_word (is_widened a) v x (not_true (is_widened a) q.0) r)
at_ring names w s l (ring_binary p a b) h =
    let q = and_parts (not (is_widened a && is_widened b)) (is_ring_fit names unwatched a && is_ring_fit names unwatched b) h in
    let f = and_parts (is_ring_fit names unwatched a) (is_ring_fit names unwatched b) q.1 in
    eval_two l (value_tree (ring_back names.0 a) w l) (value_tree (ring_back names.0 b) w l) (λ v u. done (value_or_zero (binary_result (op_back p) v u))) (IsWord (is_widened a)) (IsWord (is_widened b)) (IsWord false)
    (ring_value (told w.shared) names a) (ring_value (told w.shared) names b) (λ x y. ran (ring_found p x y)) (at_ring names w s l a f.0) (at_ring names w s l b f.1)
    (λ v u x y r t. eval_done l (IsWord false) (value_or_zero (binary_result (op_back p) v u)) (ring_found p x y) (operation_word p (is_widened a) (is_widened b) v u x y q.0 r t))
at_ring names w s l (ring_power a n) h =
    let q = and_parts (not (is_widened a)) (is_ring_fit names unwatched a) h in
    eval_map l (value_tree (ring_back names.0 a) w l) (λ v. value_or_zero (power_result v n)) (IsWord (is_widened a)) (IsWord false) (ring_value (told w.shared) names a) (λ x. ring_pow x n) (at_ring names w s l a q.1)
    (λ v x r. power_word (is_widened a) n v x (not_true (is_widened a) q.0) r)
at_ring names w s l (ring_larger a b) h =
    let q = and_parts (not (is_widened a || is_widened b)) (is_ring_fit names unwatched a && is_ring_fit names unwatched b) h in
    let f = and_parts (is_ring_fit names unwatched a) (is_ring_fit names unwatched b) q.1 in
    eval_arguments w l (ring_back names.0 a) (ring_back names.0 b) Max (IsWord (is_widened a)) (IsWord (is_widened b)) (IsWord false) (ring_value (told w.shared) names a) (ring_value (told w.shared) names b)
    (λ x y. ran (larger_word names.2 x y)) (at_ring names w s l a f.0) (at_ring names w s l b f.1)
    (λ v u x y r t. eval_done l (IsWord false) (value_or_zero (larger_result w.site.width v u)) (larger_word names.2 x y) (rw (sym s.width) (larger_is w.site.width (is_widened a) (is_widened b) v u x y q.0 r t)))
at_ring names w s l (ring_smaller a b) h =
    let q = and_parts (not (is_widened a || is_widened b)) (is_ring_fit names unwatched a && is_ring_fit names unwatched b) h in
    let f = and_parts (is_ring_fit names unwatched a) (is_ring_fit names unwatched b) q.1 in
    eval_arguments w l (ring_back names.0 a) (ring_back names.0 b) Min (IsWord (is_widened a)) (IsWord (is_widened b)) (IsWord false) (ring_value (told w.shared) names a) (ring_value (told w.shared) names b)
    (λ x y. ran (smaller_word names.2 x y)) (at_ring names w s l a f.0) (at_ring names w s l b f.1)
    (λ v u x y r t. eval_done l (IsWord false) (value_or_zero (smaller_result w.site.width v u)) (smaller_word names.2 x y) (rw (sym s.width) (smaller_is w.site.width (is_widened a) (is_widened b) v u x y q.0 r t)))
at_ring names w s l (ring_absolute a) h =
    let q = and_parts (not (is_widened a)) (is_ring_fit names unwatched a) h in
    eval_argument w l (ring_back names.0 a) Abs (IsWord (is_widened a)) (IsWord false) (ring_value (told w.shared) names a) (λ x. ran (absolute_word names.2 x)) (at_ring names w s l a q.1)
    (λ v x r. eval_done l (IsWord false) (value_or_zero (absolute_result w.site.width v)) (absolute_word names.2 x) (rw (sym s.width) (absolute_word_is w.site.width (is_widened a) v x (not_true (is_widened a) q.0) r)))

-- ---- conditions

pub at_test : (names : Names) (w : World) → IsNamed names w.site → (l : Local) (a : TestTree) → is_test_fit names unwatched a ≡ true → Evaluates l (holds_tree (test_back names.0 a) w l) IsSame (test_value (told w.shared) names a)
at_test names w s l (index_test p a b) h =
    let f = and_parts (is_index_fit names unwatched a) (is_index_fit names unwatched b) h in
    eval_two l (value_tree (index_back names.0 a) w l) (value_tree (index_back names.0 b) w l) (λ v u. done (relates w.site.width p v u)) IsNumber IsNumber IsSame
    (index_value (told w.shared) names a) (index_value (told w.shared) names b) (λ x y. ran (compares p x y)) (at_index names w s l a f.0) (at_index names w s l b f.1)
    (λ v u x y r t. eval_done l IsSame (relates w.site.width p v u) (compares p x y) (rw (r, t) refl))
at_test names w s l (ring_test p a b) h =
    let q = and_parts (not (is_widened a && is_widened b)) (is_ring_fit names unwatched a && is_ring_fit names unwatched b) h in
    let f = and_parts (is_ring_fit names unwatched a) (is_ring_fit names unwatched b) q.1 in
    eval_two l (value_tree (ring_back names.0 a) w l) (value_tree (ring_back names.0 b) w l) (λ v u. done (relates w.site.width p v u)) (IsWord (is_widened a)) (IsWord (is_widened b)) IsSame
    (ring_value (told w.shared) names a) (ring_value (told w.shared) names b) (λ x y. ran (compares p (signed_at names.2 x) (signed_at names.2 y))) (at_ring names w s l a f.0) (at_ring names w s l b f.1)
    (λ v u x y r t. eval_done l IsSame (relates w.site.width p v u) (compares p (signed_at names.2 x) (signed_at names.2 y)) (rw (sym s.width) (relation_is w.site.width p (is_widened a) (is_widened b) v u x y q.0 r t)))
at_test names w s l (not_test a) h =
    eval_map l (holds_tree (test_back names.0 a) w l) not IsSame IsSame (test_value (told w.shared) names a) not (at_test names w s l a h) (λ p q r. ap not r)
at_test names w s l (and_test a b) h =
    let f = and_parts (is_test_fit names unwatched a) (is_test_fit names unwatched b) h in
    eval_two l (holds_tree (test_back names.0 a) w l) (holds_tree (test_back names.0 b) w l) (λ p q. done (p && q)) IsSame IsSame IsSame
    (test_value (told w.shared) names a) (test_value (told w.shared) names b) (λ p q. ran (p && q)) (at_test names w s l a f.0) (at_test names w s l b f.1)
    (λ p q x y r t. eval_done l IsSame (p && q) (x && y) (rw (r, t) refl))
at_test names w s l (or_test a b) h =
    let f = and_parts (is_test_fit names unwatched a) (is_test_fit names unwatched b) h in
    eval_two l (holds_tree (test_back names.0 a) w l) (holds_tree (test_back names.0 b) w l) (λ p q. done (p || q)) IsSame IsSame IsSame
    (test_value (told w.shared) names a) (test_value (told w.shared) names b) (λ p q. ran (p || q)) (at_test names w s l a f.0) (at_test names w s l b f.1)
    (λ p q x y r t. eval_done l IsSame (p || q) (x || y) (rw (r, t) refl))
