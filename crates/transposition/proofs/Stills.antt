-- An expression in which nothing moves has no tangent.
use Rattle.std.proofs.Common.{◌≡◌, ℕ, zero, suc, ◌+◌, ◌*◌, List, [], ◌∷◌, refl, ap, sym, ◌∙◌, subst, arith, Bool, true, false, Ok, pos}
use Rattle.std.specs.Prelude.{int_le, int_lt, if◌then◌else◌}
use Rattle.ring_core.specs.declared.ring.Width.{Width}
use Rattle.ring_core.specs.Ring.{ring_pow}
use Rattle.pairing.specs.Ring.{last, Same}
use Rattle.pairing.proofs.Sames.{of_equal, same_sum, same_product}
use Rattle.fl_ast.specs.declared.kind.BinOp.{BinOp}
use Rattle.fl_ast.specs.declared.kind.BinOp.TheVariants.{Add, Sub, Mul, Div}
use Rattle.fl_ast.specs.declared.kind.Fun.{Fun}
use Rattle.fl_ast.specs.declared.kind.Fun.TheVariants.{Max, Min, Abs, Mod}
use Rattle.fl_ast.specs.Tree.{Expression, literal, get, minus, binary, power, call, Expressions, no_expressions, expression}
use Rattle.meaning.specs.declared.value.Value.{Value}
use Rattle.meaning.specs.declared.value.Value.TheVariants.{Index, Ring}
use Rattle.meaning.specs.Values.{rank, whole_numbers, literal_value, binary_result, negation_result, power_result, absolute_result, call_result}
use Rattle.meaning.specs.Logs.{lift, ◌>>=◌}
use Rattle.meaning.specs.Sites.{Cells, place_of}
use Rattle.meaning.specs.Expressions.{read, value_of, values_of}
use Rattle.meaning.specs.Adjoints.{tangent_of}
use Rattle.meaning.proofs.Parts.{bound, listed}
use Rattle.transposition.specs.Worlds.{World}
use Rattle.transposition.specs.Law.{Use, Fit}
use Rattle.transposition.specs.Needs.{QuietAll}
use Rattle.transposition.specs.Sound.{Unmoved}
use Rattle.transposition.proofs.Keys.{stands}
use Rattle.transposition.proofs.Bounds.{read_inverted}
use Rattle.transposition.proofs.Tangents.{worth, moves, moves_is, moves_of, sum_of, binary_moves, negated_moves, power_none, power_some, power_index, literal_moves}
use Rattle.transposition.proofs.Calculus.{remainder_still}

abbrev AllStill : List Value → Type 0
AllStill [] = Unit {0}
AllStill (v ∷ vs) = Same (moves v) 0 × AllStill vs

sum_still : (op : BinOp) (v w : Value) → Same (moves v) 0 → Same (moves w) 0 → Same (sum_of op v w) 0
sum_still Add v w h k = same_sum (moves v) 0 (moves w) 0 h k
sum_still Sub v w h k = same_sum (moves v) 0 (last * moves w) (last * 0) h (same_product last last (moves w) 0 refl k) ∙ of_equal (0 + last * 0) 0 (omega arith)
sum_still Mul v w h k = same_sum (worth v * moves w) (worth v * 0) (moves v * worth w) (0 * worth w) (same_product (worth v) (worth v) (moves w) 0 refl k) (same_product (moves v) 0 (worth w) (worth w) h refl) ∙ of_equal (worth v * 0 + 0 * worth w) 0 (omega arith)
sum_still Div v w h k = refl

power_still : (v x : Value) (n : ℕ) → Same (moves v) 0 → power_result v n ≡ Ok x → Same (moves x) 0
power_still v x zero h e = of_equal (moves x) 0 (moves_of (power_result v 0) (λ m. m ≡ 0) x e (power_none v))
power_still (Index z) x (suc n) h e = of_equal (moves x) 0 (moves_of (power_result (Index z) (suc n)) (λ m. m ≡ 0) x e (power_index z (suc n)))
power_still (Ring d) x (suc n) h e =
    moves_of (power_result (Ring d) (suc n)) (λ m. Same m 0) x e
    (power_some d n ∙ (same_product (suc n) (suc n) _ 0 refl (same_product (ring_pow d.value n) (ring_pow d.value n) d.tangent 0 refl h ∙ of_equal (ring_pow d.value n * 0) 0 (omega arith)) ∙ of_equal (suc n * 0) 0 (omega arith)))

if_still : (b : Bool) (v w : Value) → Same (moves v) 0 → Same (moves w) 0 → Same (moves (if b then v else w)) 0
if_still true v w h k = h
if_still false v w h k = k

absolute_still : (wd : Width) (v x : Value) → Same (moves v) 0 → absolute_result wd v ≡ Ok x → Same (moves x) 0
absolute_still wd v x h e = by_test (int_lt (rank wd v) (pos 0)) e
  where
    by_test : (b : Bool) → (if b then negation_result v else Ok v) ≡ Ok x → Same (moves x) 0
    by_test true g = moves_of (negation_result v) (λ m. Same m (last * moves v)) x g (negated_moves v) ∙ (same_product last last (moves v) 0 refl h ∙ of_equal (last * 0) 0 (omega arith))
    by_test false g = let i : v ≡ x = cc in subst (λ (y : Value). Same (moves y) 0) i h

call_still : (wd : Width) (f : Fun) (vs : List Value) (x : Value) → AllStill vs → call_result wd f vs ≡ Ok x → Same (moves x) 0
call_still wd Mod vs x h e = of_equal (moves x) 0 (remainder_still vs x e)
call_still wd Max (a ∷ b ∷ []) x h e = let i : (if int_le (rank wd b) (rank wd a) then a else b) ≡ x = cc in subst (λ (y : Value). Same (moves y) 0) i (if_still (int_le (rank wd b) (rank wd a)) a b h.0 h.1.0)
call_still wd Min (a ∷ b ∷ []) x h e = let i : (if int_le (rank wd a) (rank wd b) then a else b) ≡ x = cc in subst (λ (y : Value). Same (moves y) 0) i (if_still (int_le (rank wd a) (rank wd b)) a b h.0 h.1.0)
call_still wd Abs (a ∷ []) x h e = absolute_still wd a x h.0 e
call_still wd Max [] x h e = cc
call_still wd Max (a ∷ []) x h e = cc
call_still wd Max (a ∷ b ∷ c ∷ vs) x h e = cc
call_still wd Min [] x h e = cc
call_still wd Min (a ∷ []) x h e = cc
call_still wd Min (a ∷ b ∷ c ∷ vs) x h e = cc
call_still wd Abs [] x h e = cc
call_still wd Abs (a ∷ b ∷ vs) x h e = cc

mutual
  pub value_still : (w : World) (u : Use) (s : Cells) → Fit w u s → (e : Expression) → Unmoved u e → (v : Value) → (value_of e w.site s).out ≡ Ok v → Same (moves v) 0
  value_still w u s fit (literal n k) q v h = of_equal (moves v) 0 (moves_of (literal_value n k) (λ m. m ≡ 0) v h (literal_moves n k))
  value_still w u s fit (get x ss) q v h =
      let f = bound (values_of ss w.site s) (read w.site s x) v h in
      let at = read_inverted w.site s x (place_of w.site x (whole_numbers f.value)) v f.second in
      let st = stands w.site.keys x (whole_numbers f.value) at.p at.place in
      subst (λ (m : ℕ). Same m 0) (ap tangent_of at.holds ∙ moves_is v) (fit.still at.p (ap u.moved st.named ∙ q refl))
  value_still w u s fit (minus a) q v h =
      let f = bound (value_of a w.site s) (λ x. lift (negation_result x)) v h in
      moves_of (negation_result f.value) (λ m. Same m (last * moves f.value)) v f.second (negated_moves f.value) ∙ (same_product last last (moves f.value) 0 refl (value_still w u s fit a q f.value f.first) ∙ of_equal (last * 0) 0 (omega arith))
  value_still w u s fit (binary op a b) q v h =
      let f = bound (value_of a w.site s) (λ x. value_of b w.site s >>= (λ y. lift (binary_result op x y))) v h in
      let g = bound (value_of b w.site s) (λ y. lift (binary_result op f.value y)) v f.second in
      moves_of (binary_result op f.value g.value) (λ m. Same m (sum_of op f.value g.value)) v g.second (binary_moves op f.value g.value) ∙ sum_still op f.value g.value (value_still w u s fit a q.0 f.value f.first) (value_still w u s fit b q.1 g.value g.first)
  value_still w u s fit (power a n) q v h =
      let f = bound (value_of a w.site s) (λ x. lift (power_result x n)) v h in
      power_still f.value v n (value_still w u s fit a q f.value f.first) f.second
  value_still w u s fit (call c es) q v h =
      let f = bound (values_of es w.site s) (λ vs. lift (call_result w.site.width c vs)) v h in
      call_still w.site.width c f.value v (values_still w u s fit es q f.value f.first) f.second

  values_still : (w : World) (u : Use) (s : Cells) → Fit w u s → (es : Expressions) → QuietAll (λ x. false) u es → (vs : List Value) → (values_of es w.site s).out ≡ Ok vs → AllStill vs
  values_still w u s fit no_expressions q vs h = let e : [] ≡ vs = cc in subst AllStill e tt
  values_still w u s fit (expression e es) q vs h =
      let f = listed w.site s e es vs h in
      subst AllStill (sym f.whole) (value_still w u s fit e q.0 f.value f.first, values_still w u s fit es q.1 f.more f.second)
