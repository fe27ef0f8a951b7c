-- Values are of their kind's size.
use Rattle.std.proofs.Common.{◌≡◌, ℕ, ◌+◌, ◌*◌, ◌<◌, ◌^◌, List, [], ◌∷◌, refl, sym, subst, Bool, true, false, Result, Ok, Err, ℤ, pos}
use Rattle.std.specs.Prelude.{int_le, int_lt, if◌then◌else◌, ◌+ℤ◌, ◌-ℤ◌, ◌*ℤ◌, neg_ℤ}
use Rattle.std.specs.Int.{int_pow}
use Rattle.ring_core.specs.declared.ring.Width.{Width}
use Rattle.ring_core.specs.Index.{IsIndex, exact_index, index_div, index_rem}
use Rattle.ring_core.specs.declared.index.IndexTrap.{IndexTrap}
use Rattle.fl_ast.specs.declared.kind.Kind.{Kind}
use Rattle.fl_ast.specs.declared.kind.Kind.TheVariants as kind
use Rattle.fl_ast.specs.declared.kind.BinOp.{BinOp}
use Rattle.fl_ast.specs.declared.kind.BinOp.TheVariants.{Add, Sub, Mul, Div}
use Rattle.fl_ast.specs.declared.kind.Fun.{Fun}
use Rattle.fl_ast.specs.declared.kind.Fun.TheVariants.{Max, Min, Abs, Mod}
use Rattle.fl_ast.specs.Tree.{Expression, literal, get, minus, binary, power, call, Expressions, no_expressions, expression}
use Rattle.meaning.specs.declared.value.Dual.{Dual}
use Rattle.meaning.specs.declared.value.Value.{Value}
use Rattle.meaning.specs.declared.value.Value.TheVariants.{Index, Ring}
use Rattle.meaning.specs.Values.{Found, of_index, as_dual, rank, literal_value, ring_result, binary_result, negation_result, power_result, absolute_result, remainder, call_result}
use Rattle.meaning.specs.Logs.{lift, ◌>>=◌}
use Rattle.meaning.specs.Sites.{Cells, place_of, kind_of}
use Rattle.meaning.specs.Expressions.{read, value_of, values_of}
use Rattle.meaning.proofs.KindsOfValues.{IndexFits, fitted_fits, div_fits, index_rem_fits, below, pow_below}
use Rattle.meaning.proofs.Parts.{bound, listed}
use Rattle.transposition.specs.Worlds.{World, name_at}
use Rattle.meaning.specs.Values.{whole_numbers}
use Rattle.transposition.specs.Law.{Use, Fit}
use Rattle.meaning.specs.Fitting.{HasKind}
use Rattle.transposition.specs.Sound.{Literals, LiteralsAll, Whole, WholeAll}
use Rattle.transposition.proofs.Keys.{stands}
use Rattle.transposition.proofs.Bounds.{read_inverted}

abbrev pub Sized : Value → Type 0
Sized (Index z) = IsIndex z
Sized (Ring d) = d.value < 2 ^ 64

abbrev pub SizedFound : Found → Type 0
SizedFound (Ok v) = Sized v
SizedFound (Err c) = Unit {0}

sized_of : (r : Found) (v : Value) → r ≡ Ok v → SizedFound r → Sized v
sized_of (Ok x) v e h = let g : x ≡ v = cc in subst Sized g h
sized_of (Err c) v e h = cc

of_index_sized : (r : Result ℤ IndexTrap) → IndexFits r → SizedFound (of_index r)
of_index_sized (Ok z) h = h
of_index_sized (Err t) h = tt

ring_sized : (op : BinOp) (a b : Dual) → SizedFound (ring_result op a b)
ring_sized Add a b = below (a.value + b.value)
ring_sized Sub a b = below (a.value + 18446744073709551615 * b.value)
ring_sized Mul a b = below (a.value * b.value)
ring_sized Div a b = tt

binary_sized : (op : BinOp) (v w : Value) → SizedFound (binary_result op v w)
binary_sized Add (Index a) (Index b) = of_index_sized (exact_index (a +ℤ b)) (fitted_fits (a +ℤ b))
binary_sized Sub (Index a) (Index b) = of_index_sized (exact_index (a -ℤ b)) (fitted_fits (a -ℤ b))
binary_sized Mul (Index a) (Index b) = of_index_sized (exact_index (a *ℤ b)) (fitted_fits (a *ℤ b))
binary_sized Div (Index a) (Index b) = of_index_sized (index_div a b) (div_fits a b)
binary_sized op (Index a) (Ring b) = ring_sized op (as_dual (Index a)) b
binary_sized op (Ring a) (Index b) = ring_sized op a (as_dual (Index b))
binary_sized op (Ring a) (Ring b) = ring_sized op a b

negated_sized : (v : Value) → SizedFound (negation_result v)
negated_sized (Index a) = of_index_sized (exact_index (neg_ℤ a)) (fitted_fits (neg_ℤ a))
negated_sized (Ring d) = below (18446744073709551615 * d.value)

power_sized : (v : Value) (n : ℕ) → SizedFound (power_result v n)
power_sized (Index a) n = of_index_sized (exact_index (int_pow a n)) (fitted_fits (int_pow a n))
power_sized (Ring d) n = pow_below d n

remainder_sized : (v w : Value) → Sized v → SizedFound (remainder v w)
remainder_sized (Index a) (Index b) h = of_index_sized (index_rem a b) (index_rem_fits a b h)
remainder_sized (Index a) (Ring b) h = tt
remainder_sized (Ring a) b h = tt

if_sized : (b : Bool) (v w : Value) → Sized v → Sized w → Sized (if b then v else w)
if_sized true v w h k = h
if_sized false v w h k = k

absolute_sized : (wd : Width) (v : Value) → Sized v → SizedFound (absolute_result wd v)
absolute_sized wd v h = by_test (int_lt (rank wd v) (pos 0))
  where
    by_test : (b : Bool) → SizedFound (if b then negation_result v else Ok v)
    by_test true = negated_sized v
    by_test false = h

abbrev AllSized : List Value → Type 0
AllSized [] = Unit {0}
AllSized (v ∷ vs) = Sized v × AllSized vs

call_sized : (wd : Width) (f : Fun) (vs : List Value) → AllSized vs → SizedFound (call_result wd f vs)
call_sized wd Max (a ∷ b ∷ []) h = if_sized (int_le (rank wd b) (rank wd a)) a b h.0 h.1.0
call_sized wd Min (a ∷ b ∷ []) h = if_sized (int_le (rank wd a) (rank wd b)) a b h.0 h.1.0
call_sized wd Mod (a ∷ b ∷ []) h = remainder_sized a b h.0
call_sized wd Abs (a ∷ []) h = absolute_sized wd a h.0
call_sized wd Max [] h = tt
call_sized wd Max (a ∷ []) h = tt
call_sized wd Max (a ∷ b ∷ c ∷ vs) h = tt
call_sized wd Min [] h = tt
call_sized wd Min (a ∷ []) h = tt
call_sized wd Min (a ∷ b ∷ c ∷ vs) h = tt
call_sized wd Mod [] h = tt
call_sized wd Mod (a ∷ []) h = tt
call_sized wd Mod (a ∷ b ∷ c ∷ vs) h = tt
call_sized wd Abs [] h = tt
call_sized wd Abs (a ∷ b ∷ vs) h = tt

has_sized : (k : Kind) (v : Value) → HasKind k v → Sized v
has_sized kind.Ring (Ring d) h = h
has_sized kind.Index (Index z) h = h
has_sized kind.Ring (Index z) h = absurd h
has_sized kind.Index (Ring d) h = absurd h

literal_sized : (n : ℕ) (k : Kind) → Literals (literal n k) → SizedFound (literal_value n k)
literal_sized n kind.Ring h = h
literal_sized n kind.Index h = of_index_sized (exact_index (pos n)) (fitted_fits (pos n))

mutual
  pub value_sized : (w : World) (u : Use) (s : Cells) → Fit w u s → (e : Expression) → Literals e → (v : Value) → (value_of e w.site s).out ≡ Ok v → Sized v
  value_sized w u s fit (literal n k) q v h = sized_of (literal_value n k) v h (literal_sized n k q)
  value_sized w u s fit (get x ss) q v h =
      let f = bound (values_of ss w.site s) (read w.site s x) v h in
      let at = read_inverted w.site s x (place_of w.site x (whole_numbers f.value)) v f.second in
      has_sized (kind_of w.site (name_at w.site.keys at.p)) v (fit.kinds at.p v at.holds)
  value_sized w u s fit (minus a) q v h =
      let f = bound (value_of a w.site s) (λ x. lift (negation_result x)) v h in
      sized_of (negation_result f.value) v f.second (negated_sized f.value)
  value_sized w u s fit (binary op a b) q v h =
      let f = bound (value_of a w.site s) (λ x. value_of b w.site s >>= (λ y. lift (binary_result op x y))) v h in
      let g = bound (value_of b w.site s) (λ y. lift (binary_result op f.value y)) v f.second in
      sized_of (binary_result op f.value g.value) v g.second (binary_sized op f.value g.value)
  value_sized w u s fit (power a n) q v h =
      let f = bound (value_of a w.site s) (λ x. lift (power_result x n)) v h in
      sized_of (power_result f.value n) v f.second (power_sized f.value n)
  value_sized w u s fit (call c es) q v h =
      let f = bound (values_of es w.site s) (λ vs. lift (call_result w.site.width c vs)) v h in
      sized_of (call_result w.site.width c f.value) v f.second (call_sized w.site.width c f.value (values_sized w u s fit es q f.value f.first))

  values_sized : (w : World) (u : Use) (s : Cells) → Fit w u s → (es : Expressions) → LiteralsAll es → (vs : List Value) → (values_of es w.site s).out ≡ Ok vs → AllSized vs
  values_sized w u s fit no_expressions q vs h = let e : [] ≡ vs = cc in subst AllSized e tt
  values_sized w u s fit (expression e es) q vs h =
      let f = listed w.site s e es vs h in
      subst AllSized (sym f.whole) (value_sized w u s fit e q.0 f.value f.first, values_sized w u s fit es q.1 f.more f.second)

-- ---- of the index kind

abbrev pub IsWhole : Value → Type 0
IsWhole (Index z) = Unit {0}
IsWhole (Ring d) = ⊥

abbrev WholeFound : Found → Type 0
WholeFound (Ok v) = IsWhole v
WholeFound (Err c) = Unit {0}

whole_of : (r : Found) (v : Value) → r ≡ Ok v → WholeFound r → IsWhole v
whole_of (Ok x) v e h = let g : x ≡ v = cc in subst IsWhole g h
whole_of (Err c) v e h = cc

of_index_whole : (r : Result ℤ IndexTrap) → WholeFound (of_index r)
of_index_whole (Ok z) = tt
of_index_whole (Err t) = tt

binary_whole : (op : BinOp) (v w : Value) → IsWhole v → IsWhole w → WholeFound (binary_result op v w)
binary_whole Add (Index a) (Index b) h k = of_index_whole (exact_index (a +ℤ b))
binary_whole Sub (Index a) (Index b) h k = of_index_whole (exact_index (a -ℤ b))
binary_whole Mul (Index a) (Index b) h k = of_index_whole (exact_index (a *ℤ b))
binary_whole Div (Index a) (Index b) h k = of_index_whole (index_div a b)
binary_whole op (Index a) (Ring b) h k = absurd k
binary_whole op (Ring a) b h k = absurd h

negated_whole : (v : Value) → IsWhole v → WholeFound (negation_result v)
negated_whole (Index a) h = of_index_whole (exact_index (neg_ℤ a))
negated_whole (Ring d) h = absurd h

power_whole : (v : Value) (n : ℕ) → IsWhole v → WholeFound (power_result v n)
power_whole (Index a) n h = of_index_whole (exact_index (int_pow a n))
power_whole (Ring d) n h = absurd h

abbrev AllWhole : List Value → Type 0
AllWhole [] = Unit {0}
AllWhole (v ∷ vs) = IsWhole v × AllWhole vs

if_whole : (b : Bool) (v w : Value) → IsWhole v → IsWhole w → IsWhole (if b then v else w)
if_whole true v w h k = h
if_whole false v w h k = k

absolute_whole : (wd : Width) (v : Value) → IsWhole v → WholeFound (absolute_result wd v)
absolute_whole wd v h = by_test (int_lt (rank wd v) (pos 0))
  where
    by_test : (b : Bool) → WholeFound (if b then negation_result v else Ok v)
    by_test true = negated_whole v h
    by_test false = h

remainder_whole : (v w : Value) → WholeFound (remainder v w)
remainder_whole (Index a) (Index b) = of_index_whole (index_rem a b)
remainder_whole (Index a) (Ring b) = tt
remainder_whole (Ring a) b = tt

call_whole : (wd : Width) (f : Fun) (vs : List Value) → AllWhole vs → WholeFound (call_result wd f vs)
call_whole wd Max (a ∷ b ∷ []) h = if_whole (int_le (rank wd b) (rank wd a)) a b h.0 h.1.0
call_whole wd Min (a ∷ b ∷ []) h = if_whole (int_le (rank wd a) (rank wd b)) a b h.0 h.1.0
call_whole wd Mod (a ∷ b ∷ []) h = remainder_whole a b
call_whole wd Abs (a ∷ []) h = absolute_whole wd a h.0
call_whole wd Max [] h = tt
call_whole wd Max (a ∷ []) h = tt
call_whole wd Max (a ∷ b ∷ c ∷ vs) h = tt
call_whole wd Min [] h = tt
call_whole wd Min (a ∷ []) h = tt
call_whole wd Min (a ∷ b ∷ c ∷ vs) h = tt
call_whole wd Mod [] h = tt
call_whole wd Mod (a ∷ []) h = tt
call_whole wd Mod (a ∷ b ∷ c ∷ vs) h = tt
call_whole wd Abs [] h = tt
call_whole wd Abs (a ∷ b ∷ vs) h = tt

literal_whole : (ring : List ℕ → Bool) (n : ℕ) (k : Kind) → Whole ring (literal n k) → WholeFound (literal_value n k)
literal_whole ring n kind.Ring h = absurd h
literal_whole ring n kind.Index h = of_index_whole (exact_index (pos n))

index_held : (k : Kind) (v : Value) → k ≡ kind.Index → HasKind k v → IsWhole v
index_held kind.Index (Index z) e h = tt
index_held kind.Index (Ring d) e h = absurd h
index_held kind.Ring v e h = cc

mutual
  pub value_whole : (w : World) (u : Use) (s : Cells) → Fit w u s → (e : Expression) → Whole w.site.ring e → (v : Value) → (value_of e w.site s).out ≡ Ok v → IsWhole v
  value_whole w u s fit (literal n k) q v h = whole_of (literal_value n k) v h (literal_whole w.site.ring n k q)
  value_whole w u s fit (get x ss) q v h =
      let f = bound (values_of ss w.site s) (read w.site s x) v h in
      let at = read_inverted w.site s x (place_of w.site x (whole_numbers f.value)) v f.second in
      let st = stands w.site.keys x (whole_numbers f.value) at.p at.place in
      index_held (kind_of w.site x) v (rw q refl) (subst (λ (y : List ℕ). HasKind (kind_of w.site y) v) st.named (fit.kinds at.p v at.holds))
  value_whole w u s fit (minus a) q v h =
      let f = bound (value_of a w.site s) (λ x. lift (negation_result x)) v h in
      whole_of (negation_result f.value) v f.second (negated_whole f.value (value_whole w u s fit a q f.value f.first))
  value_whole w u s fit (binary op a b) q v h =
      let f = bound (value_of a w.site s) (λ x. value_of b w.site s >>= (λ y. lift (binary_result op x y))) v h in
      let g = bound (value_of b w.site s) (λ y. lift (binary_result op f.value y)) v f.second in
      whole_of (binary_result op f.value g.value) v g.second (binary_whole op f.value g.value (value_whole w u s fit a q.0 f.value f.first) (value_whole w u s fit b q.1 g.value g.first))
  value_whole w u s fit (power a n) q v h =
      let f = bound (value_of a w.site s) (λ x. lift (power_result x n)) v h in
      whole_of (power_result f.value n) v f.second (power_whole f.value n (value_whole w u s fit a q f.value f.first))
  value_whole w u s fit (call c es) q v h =
      let f = bound (values_of es w.site s) (λ vs. lift (call_result w.site.width c vs)) v h in
      whole_of (call_result w.site.width c f.value) v f.second (call_whole w.site.width c f.value (values_whole w u s fit es q f.value f.first))

  values_whole : (w : World) (u : Use) (s : Cells) → Fit w u s → (es : Expressions) → WholeAll w.site.ring es → (vs : List Value) → (values_of es w.site s).out ≡ Ok vs → AllWhole vs
  values_whole w u s fit no_expressions q vs h = let e : [] ≡ vs = cc in subst AllWhole e tt
  values_whole w u s fit (expression e es) q vs h =
      let f = listed w.site s e es vs h in
      subst AllWhole (sym f.whole) (value_whole w u s fit e q.0 f.value f.first, values_whole w u s fit es q.1 f.more f.second)
