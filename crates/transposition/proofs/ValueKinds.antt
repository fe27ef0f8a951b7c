-- The kind of an expression's value, and what comparisons of values of one kind are.
use Rattle.std.proofs.Common.{◌≡◌, ℕ, List, [], ◌∷◌, refl, ap, sym, ◌∙◌, subst, Bool, true, false, ◌||◌, Result, Ok, Err, ℤ, pos}
use Rattle.std.specs.Prelude.{int_le, int_lt, if◌then◌else◌, ◌+ℤ◌, ◌-ℤ◌, ◌*ℤ◌, neg_ℤ}
use Rattle.std.specs.Int.{int_pow}
use Rattle.fl_ast.specs.declared.kind.Kind.{Kind}
use Rattle.fl_ast.specs.declared.kind.Kind.TheVariants as kind
use Rattle.fl_ast.specs.declared.kind.BinOp.{BinOp}
use Rattle.fl_ast.specs.declared.kind.BinOp.TheVariants.{Add, Sub, Mul, Div}
use Rattle.fl_ast.specs.declared.kind.RelOp.TheVariants as rel
use Rattle.fl_ast.specs.declared.kind.Fun.{Fun}
use Rattle.fl_ast.specs.declared.kind.Fun.TheVariants.{Max, Min, Abs, Mod}
use Rattle.fl_ast.specs.Tree.{Expression, literal, get, minus, binary, power, call, Expressions, no_expressions, expression}
use Rattle.ring_core.specs.Ring.{signed_at}
use Rattle.ring_core.specs.declared.ring.Width.{Width}
use Rattle.ring_core.specs.declared.ring.Width.TheVariants.{Bits8, Bits16, Bits64}
use Rattle.ring_core.specs.declared.index.IndexTrap.{IndexTrap}
use Rattle.ring_core.specs.Index.{exact_index, index_div, index_rem}
use Rattle.meaning.specs.declared.value.Dual.{Dual}
use Rattle.meaning.specs.declared.value.Value.{Value}
use Rattle.meaning.specs.declared.value.Value.TheVariants.{Index, Ring}
use Rattle.meaning.specs.Values.{Found, of_index, as_dual, rank, whole_numbers, literal_value, index_result, ring_result, binary_result, negation_result, power_result, larger_result, smaller_result, absolute_result, remainder, call_result, relates}
use Rattle.meaning.specs.Logs.{lift, ◌>>=◌}
use Rattle.meaning.specs.Sites.{Cells, place_of, kind_of}
use Rattle.meaning.specs.Expressions.{read, value_of, values_of}
use Rattle.meaning.proofs.Parts.{bound, listed}
use Rattle.transposition.specs.Worlds.{World}
use Rattle.transposition.specs.Law.{Use, Fit}
use Rattle.meaning.specs.Fitting.{HasKind}
use Rattle.transposition.specs.Needs.{is_data, has_data, PairOfOneKind, Kinded, KindedAll}
use Rattle.transposition.proofs.Keys.{stands}
use Rattle.transposition.proofs.Bounds.{read_inverted}

abbrev pub is_ring : Value → Bool
is_ring (Index z) = false
is_ring (Ring d) = true

-- of an outcome, where there is one
abbrev OfKind : Found → Bool → Type 0
OfKind (Ok v) b = is_ring v ≡ b
OfKind (Err c) b = Unit {0}

kind_of_found : (r : Found) (v : Value) (b : Bool) → r ≡ Ok v → OfKind r b → is_ring v ≡ b
kind_of_found (Ok x) v b e h = let g : x ≡ v = cc in subst (λ (y : Value). is_ring y ≡ b) g h
kind_of_found (Err c) v b e h = cc

whole_found : (r : Result ℤ IndexTrap) → OfKind (of_index r) false
whole_found (Ok z) = refl
whole_found (Err t) = tt

ring_found : (op : BinOp) (a b : Dual) → OfKind (ring_result op a b) true
ring_found Add a b = refl
ring_found Sub a b = refl
ring_found Mul a b = refl
ring_found Div a b = tt

index_found : (op : BinOp) (a b : ℤ) → OfKind (index_result op a b) false
index_found Add a b = whole_found (exact_index (a +ℤ b))
index_found Sub a b = whole_found (exact_index (a -ℤ b))
index_found Mul a b = whole_found (exact_index (a *ℤ b))
index_found Div a b = whole_found (index_div a b)

binary_found : (op : BinOp) (v w : Value) → OfKind (binary_result op v w) (is_ring v || is_ring w)
binary_found op (Index a) (Index b) = index_found op a b
binary_found op (Index a) (Ring b) = ring_found op (as_dual (Index a)) b
binary_found op (Ring a) (Index b) = ring_found op a (as_dual (Index b))
binary_found op (Ring a) (Ring b) = ring_found op a b

negation_found : (v : Value) → OfKind (negation_result v) (is_ring v)
negation_found (Index a) = whole_found (exact_index (neg_ℤ a))
negation_found (Ring d) = refl

power_found : (v : Value) (n : ℕ) → OfKind (power_result v n) (is_ring v)
power_found (Index a) n = whole_found (exact_index (int_pow a n))
power_found (Ring d) n = refl

literal_found : (ring : List ℕ → Bool) (n : ℕ) (k : Kind) → OfKind (literal_value n k) (is_data ring (literal n k))
literal_found ring n kind.Ring = refl
literal_found ring n kind.Index = whole_found (exact_index (pos n))

if_kind : (t : Bool) (v w : Value) (b : Bool) → is_ring v ≡ b → is_ring w ≡ b → is_ring (if t then v else w) ≡ b
if_kind true v w b h k = h
if_kind false v w b h k = k

absolute_found : (w : Width) (v : Value) → OfKind (absolute_result w v) (is_ring v)
absolute_found w v = by_test (int_lt (rank w v) (pos 0))
  where
    by_test : (b : Bool) → OfKind (if b then negation_result v else Ok v) (is_ring v)
    by_test true = negation_found v
    by_test false = refl

remainder_found : (v w : Value) → OfKind (remainder v w) (is_ring v || is_ring w)
remainder_found (Index a) (Index b) = whole_found (index_rem a b)
remainder_found (Index a) (Ring b) = tt
remainder_found (Ring a) b = tt

or_none : (b : Bool) → (b || false) ≡ b
or_none true = refl
or_none false = refl

or_same : (a b : Bool) → a ≡ b → (a || b) ≡ b
or_same true true h = refl
or_same false b h = refl
or_same true false h = cc

has_kind : (k : Bool) (v : Value) → HasKind (if k then kind.Ring else kind.Index) v → is_ring v ≡ k
has_kind true (Ring d) h = refl
has_kind false (Index z) h = refl
has_kind true (Index z) h = absurd h
has_kind false (Ring d) h = absurd h

-- ---- lists of values

abbrev any_ring : List Value → Bool
any_ring [] = false
any_ring (v ∷ vs) = is_ring v || any_ring vs

-- two values are of one kind
abbrev AlikePair : List Value → Type 0
AlikePair (a ∷ b ∷ []) = is_ring a ≡ is_ring b
AlikePair [] = Unit {0}
AlikePair (a ∷ []) = Unit {0}
AlikePair (a ∷ b ∷ c ∷ vs) = Unit {0}

abbrev Alike : Fun → List Value → Type 0
Alike Max vs = AlikePair vs
Alike Min vs = AlikePair vs
Alike Abs vs = Unit {0}
Alike Mod vs = Unit {0}

pair_kind : (a b : Bool) → a ≡ b → a ≡ (a || (b || false))
pair_kind true true h = refl
pair_kind false false h = refl
pair_kind true false h = cc
pair_kind false true h = cc

call_found : (w : Width) (f : Fun) (vs : List Value) → Alike f vs → OfKind (call_result w f vs) (any_ring vs)
call_found w Max (a ∷ b ∷ []) h = if_kind (int_le (rank w b) (rank w a)) a b _ (pair_kind (is_ring a) (is_ring b) h) (sym h ∙ pair_kind (is_ring a) (is_ring b) h)
call_found w Min (a ∷ b ∷ []) h = if_kind (int_le (rank w a) (rank w b)) a b _ (pair_kind (is_ring a) (is_ring b) h) (sym h ∙ pair_kind (is_ring a) (is_ring b) h)
call_found w Abs (a ∷ []) h = subst (λ (b : Bool). OfKind (absolute_result w a) b) (sym (or_none (is_ring a))) (absolute_found w a)
call_found w Mod (a ∷ b ∷ []) h = subst (λ (c : Bool). OfKind (remainder a b) (is_ring a || c)) (sym (or_none (is_ring b))) (remainder_found a b)
call_found w Max [] h = tt
call_found w Max (a ∷ []) h = tt
call_found w Max (a ∷ b ∷ c ∷ vs) h = tt
call_found w Min [] h = tt
call_found w Min (a ∷ []) h = tt
call_found w Min (a ∷ b ∷ c ∷ vs) h = tt
call_found w Mod [] h = tt
call_found w Mod (a ∷ []) h = tt
call_found w Mod (a ∷ b ∷ c ∷ vs) h = tt
call_found w Abs [] h = tt
call_found w Abs (a ∷ b ∷ vs) h = tt

-- ---- expressions

mutual
  pub value_kind : (w : World) (u : Use) (s : Cells) → Fit w u s → (e : Expression) → Kinded w.site.ring e → (v : Value) → (value_of e w.site s).out ≡ Ok v → is_ring v ≡ is_data w.site.ring e
  value_kind w u s fit (literal n k) q v h = kind_of_found (literal_value n k) v _ h (literal_found w.site.ring n k)
  value_kind w u s fit (get x ss) q v h =
      let f = bound (values_of ss w.site s) (read w.site s x) v h in
      let at = read_inverted w.site s x (place_of w.site x (whole_numbers f.value)) v f.second in
      let st = stands w.site.keys x (whole_numbers f.value) at.p at.place in
      has_kind (w.site.ring x) v (subst (λ (y : List ℕ). HasKind (kind_of w.site y) v) st.named (fit.kinds at.p v at.holds))
  value_kind w u s fit (minus a) q v h =
      let f = bound (value_of a w.site s) (λ x. lift (negation_result x)) v h in
      kind_of_found (negation_result f.value) v _ f.second (negation_found f.value) ∙ value_kind w u s fit a q f.value f.first
  value_kind w u s fit (binary op a b) q v h =
      let f = bound (value_of a w.site s) (λ x. value_of b w.site s >>= (λ y. lift (binary_result op x y))) v h in
      let g = bound (value_of b w.site s) (λ y. lift (binary_result op f.value y)) v f.second in
      kind_of_found (binary_result op f.value g.value) v _ g.second (binary_found op f.value g.value) ∙ (ap (λ (c : Bool). c || is_ring g.value) (value_kind w u s fit a q.0 f.value f.first) ∙ ap (λ (c : Bool). is_data w.site.ring a || c) (value_kind w u s fit b q.1 g.value g.first))
  value_kind w u s fit (power a n) q v h =
      let f = bound (value_of a w.site s) (λ x. lift (power_result x n)) v h in
      kind_of_found (power_result f.value n) v _ f.second (power_found f.value n) ∙ value_kind w u s fit a q f.value f.first
  value_kind w u s fit (call Max es) q v h =
      let f = bound (values_of es w.site s) (λ vs. lift (call_result w.site.width Max vs)) v h in
      kind_of_found (call_result w.site.width Max f.value) v _ f.second (call_found w.site.width Max f.value (alike_pair w u s fit es q.0 q.1 f.value f.first)) ∙ values_kind w u s fit es q.1 f.value f.first
  value_kind w u s fit (call Min es) q v h =
      let f = bound (values_of es w.site s) (λ vs. lift (call_result w.site.width Min vs)) v h in
      kind_of_found (call_result w.site.width Min f.value) v _ f.second (call_found w.site.width Min f.value (alike_pair w u s fit es q.0 q.1 f.value f.first)) ∙ values_kind w u s fit es q.1 f.value f.first
  value_kind w u s fit (call Abs es) q v h =
      let f = bound (values_of es w.site s) (λ vs. lift (call_result w.site.width Abs vs)) v h in
      kind_of_found (call_result w.site.width Abs f.value) v _ f.second (call_found w.site.width Abs f.value tt) ∙ values_kind w u s fit es q.1 f.value f.first
  value_kind w u s fit (call Mod es) q v h =
      let f = bound (values_of es w.site s) (λ vs. lift (call_result w.site.width Mod vs)) v h in
      kind_of_found (call_result w.site.width Mod f.value) v _ f.second (call_found w.site.width Mod f.value tt) ∙ values_kind w u s fit es q.1 f.value f.first

  values_kind : (w : World) (u : Use) (s : Cells) → Fit w u s → (es : Expressions) → KindedAll w.site.ring es → (vs : List Value) → (values_of es w.site s).out ≡ Ok vs → any_ring vs ≡ has_data w.site.ring es
  values_kind w u s fit no_expressions q vs h = let e : [] ≡ vs = cc in subst (λ (l : List Value). any_ring l ≡ false) e refl
  values_kind w u s fit (expression e es) q vs h =
      let f = listed w.site s e es vs h in
      ap any_ring f.whole ∙ (ap (λ (c : Bool). c || any_ring f.more) (value_kind w u s fit e q.0 f.value f.first) ∙ ap (λ (c : Bool). is_data w.site.ring e || c) (values_kind w u s fit es q.1 f.more f.second))

  alike_pair : (w : World) (u : Use) (s : Cells) → Fit w u s → (es : Expressions) → PairOfOneKind w.site.ring es → KindedAll w.site.ring es → (vs : List Value) → (values_of es w.site s).out ≡ Ok vs → AlikePair vs
  alike_pair w u s fit no_expressions k q vs h = let e : [] ≡ vs = cc in subst AlikePair e tt
  alike_pair w u s fit (expression a no_expressions) k q vs h =
      let i = listed w.site s a no_expressions vs h in
      let e : [] ≡ i.more = let g = i.second in cc in
      subst AlikePair (sym (i.whole ∙ ap (λ (l : List Value). i.value ∷ l) (sym e))) tt
  alike_pair w u s fit (expression a (expression b no_expressions)) k q vs h =
      let i = listed w.site s a (expression b no_expressions) vs h in
      let j = listed w.site s b no_expressions i.more i.second in
      let e : [] ≡ j.more = let g = j.second in cc in
      subst AlikePair (sym (i.whole ∙ ap (λ (l : List Value). i.value ∷ l) (j.whole ∙ ap (λ (l : List Value). j.value ∷ l) (sym e))))
      (value_kind w u s fit a q.0 i.value i.first ∙ (k ∙ sym (value_kind w u s fit b q.1.0 j.value j.first)))
  alike_pair w u s fit (expression a (expression b (expression c es))) k q vs h =
      let i = listed w.site s a (expression b (expression c es)) vs h in
      let j = listed w.site s b (expression c es) i.more i.second in
      let m = listed w.site s c es j.more j.second in
      subst AlikePair (sym (i.whole ∙ ap (λ (l : List Value). i.value ∷ l) (j.whole ∙ ap (λ (l : List Value). j.value ∷ l) m.whole))) tt

-- ---- comparisons of values of one kind

pub larger_is : (w : Width) (a b : Value) → is_ring a ≡ is_ring b → larger_result w a b ≡ Ok (if relates w rel.Ge a b then a else b)
larger_is w (Index a) (Index b) h = refl
larger_is w (Ring a) (Ring b) h = refl
larger_is w (Index a) (Ring b) h = cc
larger_is w (Ring a) (Index b) h = cc

pub smaller_is : (w : Width) (a b : Value) → is_ring a ≡ is_ring b → smaller_result w a b ≡ Ok (if relates w rel.Le a b then a else b)
smaller_is w (Index a) (Index b) h = refl
smaller_is w (Ring a) (Ring b) h = refl
smaller_is w (Index a) (Ring b) h = cc
smaller_is w (Ring a) (Index b) h = cc

zero_rank : (w : Width) → signed_at w 0 ≡ pos 0
zero_rank Bits8 = refl
zero_rank Bits16 = refl
zero_rank Bits64 = refl

pub negative_is : (w : Width) (d z : Dual) → z.value ≡ 0 → relates w rel.Lt (Ring d) (Ring z) ≡ int_lt (rank w (Ring d)) (pos 0)
negative_is w d z e = ap (λ (n : ℕ). int_lt (signed_at w d.value) (signed_at w n)) e ∙ ap (λ (r : ℤ). int_lt (signed_at w d.value) r) (zero_rank w)
