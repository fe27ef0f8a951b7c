-- Three evaluations of an expression, over cells of equal values whose tangents are related: they tell the same, and the tangents
-- that come out are related.
use Rattle.std.specs.Prelude.{◌≡◌, ℕ, zero, suc, ℤ, pos, Bool, true, false, if◌then◌else◌, List, [], ◌∷◌, Option, Some, None, Result, Ok, Err, refl, int_le, int_lt}
use Rattle.std.proofs.Common.{ap}
use Rattle.std.specs.Int.{w64, cast_unsigned}
use Rattle.fl_ast.specs.declared.kind.Kind.{Kind}
use Rattle.fl_ast.specs.declared.kind.Kind.TheVariants as kind
use Rattle.fl_ast.specs.declared.kind.BinOp.{BinOp}
use Rattle.fl_ast.specs.declared.kind.BinOp.TheVariants.{Add, Sub, Mul, Div}
use Rattle.fl_ast.specs.declared.kind.RelOp.{RelOp}
use Rattle.fl_ast.specs.declared.kind.Fun.{Fun}
use Rattle.fl_ast.specs.declared.kind.Fun.TheVariants.{Max, Min, Abs, Mod}
use Rattle.fl_ast.specs.Tree.{Expression, literal, get, minus, binary, power, call, Expressions, no_expressions, expression, Condition, relation, negation, conjunction, disjunction}
use Rattle.fl_types.specs.declared.access.AccessKind.{AccessKind}
use Rattle.fl_types.specs.declared.access.AccessKind.TheVariants.{Read}
use Rattle.ring_core.specs.declared.ring.Width.{Width}
use Rattle.ring_core.specs.Ring.{ring_add, ring_sub, ring_mul, ring_neg, signed_at}
use Rattle.ring_core.specs.declared.index.IndexTrap.{IndexTrap}
use Rattle.meaning.specs.declared.value.Dual.{Dual}
use Rattle.meaning.specs.declared.value.Value.{Value}
use Rattle.meaning.specs.declared.value.Value.TheVariants.{Index, Ring}
use Rattle.meaning.specs.declared.value.Cause.{Cause}
use Rattle.meaning.specs.Values.{Found, of_index, dual_add, dual_sub, dual_neg, dual_mul, dual_pow, as_dual, rank, ranks, whole_number, whole_numbers, literal_value, index_result, ring_result, binary_result, negation_result, power_result, larger_result, smaller_result, absolute_result, remainder, on_one, on_two, call_result, compares, relates}
use Rattle.meaning.specs.Logs.{Log, touched, Traced, pure, lift, after, continuation, ◌>>=◌}
use Rattle.meaning.specs.Sites.{Cells, Site, place_of}
use Rattle.meaning.specs.Expressions.{after_touch, content, read_cell, read_place, read, value_of, values_of, holds}

-- a relation of tangents that sums, differences and multiples keep
pub record Closed (R : ℕ → ℕ → ℕ → Type 0) : Type 0 where
  pub of_zero : R 0 0 0
  pub of_add : (a b c d e f : ℕ) → R a b c → R d e f → R (ring_add a d) (ring_add b e) (ring_add c f)
  pub of_sub : (a b c d e f : ℕ) → R a b c → R d e f → R (ring_sub a d) (ring_sub b e) (ring_sub c f)
  pub of_neg : (a b c : ℕ) → R a b c → R (ring_neg a) (ring_neg b) (ring_neg c)
  pub of_left : (v a b c : ℕ) → R a b c → R (ring_mul v a) (ring_mul v b) (ring_mul v c)
  pub of_right : (v a b c : ℕ) → R a b c → R (ring_mul a v) (ring_mul b v) (ring_mul c v)

abbrev pub Relation : Type 1
Relation = ℕ → ℕ → ℕ → Type 0

-- three duals of one value
pub record Duals (R : ℕ → ℕ → ℕ → Type 0) (a b c : Dual) : Type 0 where
  pub second : b.value ≡ a.value
  pub third : c.value ≡ a.value
  pub tangents : R a.tangent b.tangent c.tangent

abbrev pub Trio : (ℕ → ℕ → ℕ → Type 0) → Value → Value → Value → Type 0
Trio R (Index x) (Index y) (Index z) = (y ≡ x) × (z ≡ x)
Trio R (Ring a) (Ring b) (Ring c) = Duals R a b c
Trio R _ _ _ = ⊥

-- three outcomes
abbrev pub Outs : {X A : Type 0} → (A → A → A → Type 0) → Result A X → Result A X → Result A X → Type 0
Outs Q (Ok a) (Ok b) (Ok c) = Q a b c
Outs Q (Err x) (Err y) (Err z) = (y ≡ x) × (z ≡ x)
Outs Q _ _ _ = ⊥

pub record Tells {X A : Type 0} (Q : A → A → A → Type 0) (t u v : Traced X A) : Type 0 where
  pub second : u.log ≡ t.log
  pub third : v.log ≡ t.log
  pub out : Outs Q t.out u.out v.out

bind_by : {X A B : Type 0} (P : A → A → A → Type 0) (Q : B → B → B → Type 0) (l m n : Log) (r s t : Result A X) (f g h : A → Traced X B)
    → m ≡ l → n ≡ l → Outs P r s t → ((a b c : A) → P a b c → Tells Q (f a) (g b) (h c)) → Tells Q (continuation l r f) (continuation m s g) (continuation n t h)
bind_by P Q l m n (Ok a) (Ok b) (Ok c) f g h e e' o k =
    let w : Tells Q (f a) (g b) (h c) = k a b c o in
    record { second = rw (e, w.second) refl; third = rw (e', w.third) refl; out = w.out }
bind_by P Q l m n (Err x) (Err y) (Err z) f g h e e' o k = record { second = e; third = e'; out = o }
bind_by P Q l m n _ _ _ f g h e e' o k = absurd o

pub bind : {X A B : Type 0} (P : A → A → A → Type 0) (Q : B → B → B → Type 0) (t u v : Traced X A) (f g h : A → Traced X B)
    → Tells P t u v → ((a b c : A) → P a b c → Tells Q (f a) (g b) (h c)) → Tells Q (t >>= f) (u >>= g) (v >>= h)
bind P Q t u v f g h w k = bind_by P Q t.log u.log v.log t.out u.out v.out f g h w.second w.third w.out k

pub lifted : {X A : Type 0} (Q : A → A → A → Type 0) (r s t : Result A X) → Outs Q r s t → Tells Q (lift r) (lift s) (lift t)
lifted Q r s t o = record { second = refl; third = refl; out = o }

pub pured : {X A : Type 0} (Q : A → A → A → Type 0) (a b c : A) → Q a b c → Tells {X = X} Q (pure a) (pure b) (pure c)
pured Q a b c o = record { second = refl; third = refl; out = o }

-- ---- duals and values

pub add_duals : (R : ℕ → ℕ → ℕ → Type 0) → Closed R → (a b c d e f : Dual) → Duals R a b c → Duals R d e f → Duals R (dual_add a d) (dual_add b e) (dual_add c f)
add_duals R k a b c d e f p q = record {
  second = rw (p.second, q.second) refl;
  third = rw (p.third, q.third) refl;
  tangents = k.of_add _ _ _ _ _ _ p.tangents q.tangents;
}

pub sub_duals : (R : ℕ → ℕ → ℕ → Type 0) → Closed R → (a b c d e f : Dual) → Duals R a b c → Duals R d e f → Duals R (dual_sub a d) (dual_sub b e) (dual_sub c f)
sub_duals R k a b c d e f p q = record {
  second = rw (p.second, q.second) refl;
  third = rw (p.third, q.third) refl;
  tangents = k.of_sub _ _ _ _ _ _ p.tangents q.tangents;
}

mul_duals : (R : ℕ → ℕ → ℕ → Type 0) → Closed R → (a b c d e f : Dual) → Duals R a b c → Duals R d e f → Duals R (dual_mul a d) (dual_mul b e) (dual_mul c f)
mul_duals R k a b c d e f p q = record {
  second = rw (p.second, q.second) refl;
  third = rw (p.third, q.third) refl;
  tangents = rw (p.second, p.third, q.second, q.third) (k.of_add _ _ _ _ _ _ (k.of_left a.value _ _ _ q.tangents) (k.of_right d.value _ _ _ p.tangents));
}

neg_duals : (R : ℕ → ℕ → ℕ → Type 0) → Closed R → (a b c : Dual) → Duals R a b c → Duals R (dual_neg a) (dual_neg b) (dual_neg c)
neg_duals R k a b c p = record { second = rw p.second refl; third = rw p.third refl; tangents = k.of_neg _ _ _ p.tangents }

constant : (R : ℕ → ℕ → ℕ → Type 0) → Closed R → (n : ℕ) → Duals R (record { value = n; tangent = 0 }) (record { value = n; tangent = 0 }) (record { value = n; tangent = 0 })
constant R k n = record { second = refl; third = refl; tangents = k.of_zero }

pow_duals : (R : ℕ → ℕ → ℕ → Type 0) → Closed R → (n : ℕ) (a b c : Dual) → Duals R a b c → Duals R (dual_pow a n) (dual_pow b n) (dual_pow c n)
pow_duals R k zero a b c p = constant R k 1
pow_duals R k (suc n) a b c p = mul_duals R k _ _ _ _ _ _ (pow_duals R k n a b c p) p

pub dual_trio : (R : ℕ → ℕ → ℕ → Type 0) → Closed R → (v w u : Value) → Trio R v w u → Duals R (as_dual v) (as_dual w) (as_dual u)
dual_trio R k (Index x) (Index y) (Index z) h = rw (h.0, h.1) (constant R k (cast_unsigned w64 x))
dual_trio R k (Ring a) (Ring b) (Ring c) h = h
dual_trio R k _ _ _ h = absurd h

pub rank_trio : (R : ℕ → ℕ → ℕ → Type 0) → (b : Width) (v w u : Value) → Trio R v w u → (rank b w ≡ rank b v) × (rank b u ≡ rank b v)
rank_trio R b (Index x) (Index y) (Index z) h = h
rank_trio R b (Ring a) (Ring d) (Ring c) h = (ap (signed_at b) h.second, ap (signed_at b) h.third)
rank_trio R b _ _ _ h = absurd h

index_ranks : (R : ℕ → ℕ → ℕ → Type 0) (b : Width) (z : ℤ) (v w u : Value) → Trio R v w u → (ranks b (Index z) w ≡ ranks b (Index z) v) × (ranks b (Index z) u ≡ ranks b (Index z) v)
index_ranks R b z (Index x) (Index y) (Index t) h = (rw h.0 refl, rw h.1 refl)
index_ranks R b z (Ring a) (Ring d) (Ring c) h = (rw h.second refl, rw h.third refl)
index_ranks R b z _ _ _ h = absurd h

ring_ranks : (R : ℕ → ℕ → ℕ → Type 0) (b : Width) (d e f : Dual) → Duals R d e f → (v w u : Value) → Trio R v w u → (ranks b (Ring e) w ≡ ranks b (Ring d) v) × (ranks b (Ring f) u ≡ ranks b (Ring d) v)
ring_ranks R b d e f p (Index x) (Index y) (Index t) h = (rw (p.second, h.0) refl, rw (p.third, h.1) refl)
ring_ranks R b d e f p (Ring a) (Ring g) (Ring c) h = (rw (p.second, h.second) refl, rw (p.third, h.third) refl)
ring_ranks R b d e f p _ _ _ h = absurd h

ranks_trio : (R : ℕ → ℕ → ℕ → Type 0) (b : Width) (v w u v' w' u' : Value) → Trio R v w u → Trio R v' w' u' → (ranks b w w' ≡ ranks b v v') × (ranks b u u' ≡ ranks b v v')
ranks_trio R b (Index x) (Index y) (Index z) v' w' u' h g = rw (h.0, h.1) (index_ranks R b x v' w' u' g)
ranks_trio R b (Ring a) (Ring d) (Ring c) v' w' u' h g = ring_ranks R b a d c h v' w' u' g
ranks_trio R b _ _ _ v' w' u' h g = absurd h

pub whole_trio : (R : ℕ → ℕ → ℕ → Type 0) → (v w u : Value) → Trio R v w u → (whole_number w ≡ whole_number v) × (whole_number u ≡ whole_number v)
whole_trio R (Index x) (Index y) (Index z) h = h
whole_trio R (Ring a) (Ring b) (Ring c) h = (refl, refl)
whole_trio R _ _ _ h = absurd h

of_index_outs : (R : ℕ → ℕ → ℕ → Type 0) → (r : Result ℤ IndexTrap) → Outs (Trio R) (of_index r) (of_index r) (of_index r)
of_index_outs R (Ok z) = (refl, refl)
of_index_outs R (Err t) = (refl, refl)

index_outs : (R : ℕ → ℕ → ℕ → Type 0) (op : BinOp) (a b : ℤ) → Outs (Trio R) (index_result op a b) (index_result op a b) (index_result op a b)
index_outs R Add a b = of_index_outs R _
index_outs R Sub a b = of_index_outs R _
index_outs R Mul a b = of_index_outs R _
index_outs R Div a b = of_index_outs R _

ring_outs : (R : ℕ → ℕ → ℕ → Type 0) → Closed R → (op : BinOp) (a b c d e f : Dual) → Duals R a b c → Duals R d e f → Outs (Trio R) (ring_result op a d) (ring_result op b e) (ring_result op c f)
ring_outs R k Add a b c d e f p q = add_duals R k a b c d e f p q
ring_outs R k Sub a b c d e f p q = sub_duals R k a b c d e f p q
ring_outs R k Mul a b c d e f p q = mul_duals R k a b c d e f p q
ring_outs R k Div a b c d e f p q = (refl, refl)

index_left : (R : ℕ → ℕ → ℕ → Type 0) → Closed R → (op : BinOp) (z : ℤ) (v w u : Value) → Trio R v w u → Outs (Trio R) (binary_result op (Index z) v) (binary_result op (Index z) w) (binary_result op (Index z) u)
index_left R k op z (Index a) (Index b) (Index c) h = rw (h.0, h.1) (index_outs R op z a)
index_left R k op z (Ring a) (Ring b) (Ring c) h = ring_outs R k op _ _ _ a b c (constant R k (cast_unsigned w64 z)) h
index_left R k op z _ _ _ h = absurd h

ring_left : (R : ℕ → ℕ → ℕ → Type 0) → Closed R → (op : BinOp) (d e f : Dual) → Duals R d e f → (v w u : Value) → Trio R v w u → Outs (Trio R) (binary_result op (Ring d) v) (binary_result op (Ring e) w) (binary_result op (Ring f) u)
ring_left R k op d e f p (Index a) (Index b) (Index c) h = rw (h.0, h.1) (ring_outs R k op d e f _ _ _ p (constant R k (cast_unsigned w64 a)))
ring_left R k op d e f p (Ring a) (Ring b) (Ring c) h = ring_outs R k op d e f a b c p h
ring_left R k op d e f p _ _ _ h = absurd h

pub binary_trio : (R : ℕ → ℕ → ℕ → Type 0) → Closed R → (op : BinOp) (v w u v' w' u' : Value) → Trio R v w u → Trio R v' w' u' → Outs (Trio R) (binary_result op v v') (binary_result op w w') (binary_result op u u')
binary_trio R k op (Index a) (Index b) (Index c) v' w' u' h g = rw (h.0, h.1) (index_left R k op a v' w' u' g)
binary_trio R k op (Ring a) (Ring b) (Ring c) v' w' u' h g = ring_left R k op a b c h v' w' u' g
binary_trio R k op _ _ _ v' w' u' h g = absurd h

negated_trio : (R : ℕ → ℕ → ℕ → Type 0) → Closed R → (v w u : Value) → Trio R v w u → Outs (Trio R) (negation_result v) (negation_result w) (negation_result u)
negated_trio R k (Index a) (Index b) (Index c) h = rw (h.0, h.1) (of_index_outs R _)
negated_trio R k (Ring a) (Ring b) (Ring c) h = neg_duals R k a b c h
negated_trio R k _ _ _ h = absurd h

power_trio : (R : ℕ → ℕ → ℕ → Type 0) → Closed R → (n : ℕ) (v w u : Value) → Trio R v w u → Outs (Trio R) (power_result v n) (power_result w n) (power_result u n)
power_trio R k n (Index a) (Index b) (Index c) h = rw (h.0, h.1) (of_index_outs R _)
power_trio R k n (Ring a) (Ring b) (Ring c) h = pow_duals R k n a b c h
power_trio R k n _ _ _ h = absurd h

literal_trio : (R : ℕ → ℕ → ℕ → Type 0) → Closed R → (n : ℕ) (s : Kind) → Outs (Trio R) (literal_value n s) (literal_value n s) (literal_value n s)
literal_trio R k n kind.Index = of_index_outs R _
literal_trio R k n kind.Ring = constant R k n

-- ---- calls

abbrev pub Trios : (ℕ → ℕ → ℕ → Type 0) → List Value → List Value → List Value → Type 0
Trios R [] [] [] = Unit {0}
Trios R (a ∷ as') (b ∷ bs) (c ∷ cs) = Trio R a b c × Trios R as' bs cs
Trios R _ _ _ = ⊥

pub wholes_trio : (R : ℕ → ℕ → ℕ → Type 0) (vs ws us : List Value) → Trios R vs ws us → (whole_numbers ws ≡ whole_numbers vs) × (whole_numbers us ≡ whole_numbers vs)
wholes_trio R [] [] [] h = (refl, refl)
wholes_trio R (a ∷ as') (b ∷ bs) (c ∷ cs) h =
    let p : (whole_number b ≡ whole_number a) × (whole_number c ≡ whole_number a) = whole_trio R a b c h.0 in
    let q : (whole_numbers bs ≡ whole_numbers as') × (whole_numbers cs ≡ whole_numbers as') = wholes_trio R as' bs cs h.1 in
    (rw (p.0, q.0) refl, rw (p.1, q.1) refl)
wholes_trio R _ _ _ h = absurd h

pick_found : (R : ℕ → ℕ → ℕ → Type 0) (t : Bool) (a b c d e f : Found) → Outs (Trio R) a b c → Outs (Trio R) d e f → Outs (Trio R) (if t then a else d) (if t then b else e) (if t then c else f)
pick_found R true a b c d e f h g = h
pick_found R false a b c d e f h g = g

pick_value : (R : ℕ → ℕ → ℕ → Type 0) (t : Bool) (a b c d e f : Value) → Trio R a b c → Trio R d e f → Trio R (if t then a else d) (if t then b else e) (if t then c else f)
pick_value R true a b c d e f h g = h
pick_value R false a b c d e f h g = g

larger_trio : (R : ℕ → ℕ → ℕ → Type 0) (b : Width) (v w u v' w' u' : Value) → Trio R v w u → Trio R v' w' u' → Outs (Trio R) (larger_result b v v') (larger_result b w w') (larger_result b u u')
larger_trio R b v w u v' w' u' h g =
    let p : (rank b w ≡ rank b v) × (rank b u ≡ rank b v) = rank_trio R b v w u h in
    let q : (rank b w' ≡ rank b v') × (rank b u' ≡ rank b v') = rank_trio R b v' w' u' g in
    rw (p.0, p.1, q.0, q.1) (pick_value R (int_le (rank b v') (rank b v)) v w u v' w' u' h g)

smaller_trio : (R : ℕ → ℕ → ℕ → Type 0) (b : Width) (v w u v' w' u' : Value) → Trio R v w u → Trio R v' w' u' → Outs (Trio R) (smaller_result b v v') (smaller_result b w w') (smaller_result b u u')
smaller_trio R b v w u v' w' u' h g =
    let p : (rank b w ≡ rank b v) × (rank b u ≡ rank b v) = rank_trio R b v w u h in
    let q : (rank b w' ≡ rank b v') × (rank b u' ≡ rank b v') = rank_trio R b v' w' u' g in
    rw (p.0, p.1, q.0, q.1) (pick_value R (int_le (rank b v) (rank b v')) v w u v' w' u' h g)

absolute_trio : (R : ℕ → ℕ → ℕ → Type 0) → Closed R → (b : Width) (v w u : Value) → Trio R v w u → Outs (Trio R) (absolute_result b v) (absolute_result b w) (absolute_result b u)
absolute_trio R k b v w u h =
    let p : (rank b w ≡ rank b v) × (rank b u ≡ rank b v) = rank_trio R b v w u h in
    rw (p.0, p.1) (pick_found R (int_lt (rank b v) (pos 0)) (negation_result v) (negation_result w) (negation_result u) (Ok v) (Ok w) (Ok u) (negated_trio R k v w u h) h)

index_remainder : (R : ℕ → ℕ → ℕ → Type 0) (z : ℤ) (v w u : Value) → Trio R v w u → Outs (Trio R) (remainder (Index z) v) (remainder (Index z) w) (remainder (Index z) u)
index_remainder R z (Index a) (Index b) (Index c) h = rw (h.0, h.1) (of_index_outs R _)
index_remainder R z (Ring a) (Ring b) (Ring c) h = (refl, refl)
index_remainder R z _ _ _ h = absurd h

remainder_trio : (R : ℕ → ℕ → ℕ → Type 0) (v w u v' w' u' : Value) → Trio R v w u → Trio R v' w' u' → Outs (Trio R) (remainder v v') (remainder w w') (remainder u u')
remainder_trio R (Index a) (Index b) (Index c) v' w' u' h g = rw (h.0, h.1) (index_remainder R a v' w' u' g)
remainder_trio R (Ring a) (Ring b) (Ring c) v' w' u' h g = (refl, refl)
remainder_trio R _ _ _ v' w' u' h g = absurd h

one_more : (R : ℕ → ℕ → ℕ → Type 0) (f : Value → Found) (a b c : Value) → Outs (Trio R) (f a) (f b) (f c)
    → (vs ws us : List Value) → Trios R vs ws us → Outs (Trio R) (on_one f (a ∷ vs)) (on_one f (b ∷ ws)) (on_one f (c ∷ us))
one_more R f a b c o [] [] [] h = o
one_more R f a b c o (a' ∷ as') (b' ∷ bs) (c' ∷ cs) h = (refl, refl)
one_more R f a b c o _ _ _ h = absurd h

one_trio : (R : ℕ → ℕ → ℕ → Type 0) (f : Value → Found) → ((v w u : Value) → Trio R v w u → Outs (Trio R) (f v) (f w) (f u))
    → (vs ws us : List Value) → Trios R vs ws us → Outs (Trio R) (on_one f vs) (on_one f ws) (on_one f us)
one_trio R f k [] [] [] h = (refl, refl)
one_trio R f k (a ∷ as') (b ∷ bs) (c ∷ cs) h = one_more R f a b c (k a b c h.0) as' bs cs h.1
one_trio R f k _ _ _ h = absurd h

two_more : (R : ℕ → ℕ → ℕ → Type 0) (f : Value → Value → Found) (a b c a' b' c' : Value) → Outs (Trio R) (f a a') (f b b') (f c c')
    → (vs ws us : List Value) → Trios R vs ws us → Outs (Trio R) (on_two f (a ∷ a' ∷ vs)) (on_two f (b ∷ b' ∷ ws)) (on_two f (c ∷ c' ∷ us))
two_more R f a b c a' b' c' o [] [] [] h = o
two_more R f a b c a' b' c' o (v ∷ vs) (w ∷ ws) (u ∷ us) h = (refl, refl)
two_more R f a b c a' b' c' o _ _ _ h = absurd h

second_more : (R : ℕ → ℕ → ℕ → Type 0) (f : Value → Value → Found) (a b c : Value)
    → ((a' b' c' : Value) → Trio R a' b' c' → Outs (Trio R) (f a a') (f b b') (f c c'))
    → (vs ws us : List Value) → Trios R vs ws us → Outs (Trio R) (on_two f (a ∷ vs)) (on_two f (b ∷ ws)) (on_two f (c ∷ us))
second_more R f a b c k [] [] [] h = (refl, refl)
second_more R f a b c k (a' ∷ vs) (b' ∷ ws) (c' ∷ us) h = two_more R f a b c a' b' c' (k a' b' c' h.0) vs ws us h.1
second_more R f a b c k _ _ _ h = absurd h

two_trio : (R : ℕ → ℕ → ℕ → Type 0) (f : Value → Value → Found)
    → ((v w u v' w' u' : Value) → Trio R v w u → Trio R v' w' u' → Outs (Trio R) (f v v') (f w w') (f u u'))
    → (vs ws us : List Value) → Trios R vs ws us → Outs (Trio R) (on_two f vs) (on_two f ws) (on_two f us)
two_trio R f k [] [] [] h = (refl, refl)
two_trio R f k (a ∷ vs) (b ∷ ws) (c ∷ us) h = second_more R f a b c (λ a' b' c' g. k a b c a' b' c' h.0 g) vs ws us h.1
two_trio R f k _ _ _ h = absurd h

call_trio : (R : ℕ → ℕ → ℕ → Type 0) → Closed R → (b : Width) (f : Fun) (vs ws us : List Value) → Trios R vs ws us → Outs (Trio R) (call_result b f vs) (call_result b f ws) (call_result b f us)
call_trio R k b Max vs ws us h = two_trio R (larger_result b) (larger_trio R b) vs ws us h
call_trio R k b Min vs ws us h = two_trio R (smaller_result b) (smaller_trio R b) vs ws us h
call_trio R k b Abs vs ws us h = one_trio R (absolute_result b) (absolute_trio R k b) vs ws us h
call_trio R k b Mod vs ws us h = two_trio R remainder (remainder_trio R) vs ws us h

relates_trio : (R : ℕ → ℕ → ℕ → Type 0) (b : Width) (op : RelOp) (v w u v' w' u' : Value) → Trio R v w u → Trio R v' w' u' → (relates b op w w' ≡ relates b op v v') × (relates b op u u' ≡ relates b op v v')
relates_trio R b op v w u v' w' u' h g =
    let q : (ranks b w w' ≡ ranks b v v') × (ranks b u u' ≡ ranks b v v') = ranks_trio R b v w u v' w' u' h g in
    (ap (λ (r : ℤ × ℤ). compares op r.0 r.1) q.0, ap (λ (r : ℤ × ℤ). compares op r.0 r.1) q.1)

-- ---- cells

abbrev pub TrioCell : (ℕ → ℕ → ℕ → Type 0) → Option Value → Option Value → Option Value → Type 0
TrioCell R None None None = Unit {0}
TrioCell R (Some a) (Some b) (Some c) = Trio R a b c
TrioCell R _ _ _ = ⊥

abbrev pub TrioCells : (ℕ → ℕ → ℕ → Type 0) → Cells → Cells → Cells → Type 0
TrioCells R [] [] [] = Unit {0}
TrioCells R (a ∷ as') (b ∷ bs) (c ∷ cs) = TrioCell R a b c × TrioCells R as' bs cs
TrioCells R _ _ _ = ⊥

pub content_trio : (R : ℕ → ℕ → ℕ → Type 0) (c d e : Cells) (p : ℕ) → TrioCells R c d e → TrioCell R (content c p) (content d p) (content e p)
content_trio R [] [] [] p h = tt
content_trio R (a ∷ as') (b ∷ bs) (c ∷ cs) zero h = h.0
content_trio R (a ∷ as') (b ∷ bs) (c ∷ cs) (suc p) h = content_trio R as' bs cs p h.1
content_trio R _ _ _ p h = absurd h

pub touching_trio : {A : Type 0} (Q : A → A → A → Type 0) (site : Site) (x : List ℕ) (p : ℕ) (k : AccessKind) (t u v : Traced Cause A)
    → Tells Q t u v → Tells Q (after_touch site x p k t) (after_touch site x p k u) (after_touch site x p k v)
touching_trio Q site x p k t u v h = by_test (site.accessed x)
  where
    l : Log
    l = touched p k

    by_test : (b : Bool) → Tells Q (if b then after l t else t) (if b then after l u else u) (if b then after l v else v)
    by_test true = record { second = rw h.second refl; third = rw h.third refl; out = h.out }
    by_test false = h

read_cell_trio : (R : ℕ → ℕ → ℕ → Type 0) (site : Site) (x : List ℕ) (p : ℕ) (a b c : Option Value) → TrioCell R a b c → Tells (Trio R) (read_cell site x p a) (read_cell site x p b) (read_cell site x p c)
read_cell_trio R site x p None None None h = record { second = refl; third = refl; out = (refl, refl) }
read_cell_trio R site x p (Some a) (Some b) (Some c) h = touching_trio (Trio R) site x p Read (pure a) (pure b) (pure c) (pured (Trio R) a b c h)
read_cell_trio R site x p _ _ _ h = absurd h

read_place_trio : (R : ℕ → ℕ → ℕ → Type 0) (site : Site) (c d e : Cells) (x : List ℕ) (o : Option ℕ) → TrioCells R c d e → Tells (Trio R) (read_place site c x o) (read_place site d x o) (read_place site e x o)
read_place_trio R site c d e x None h = record { second = refl; third = refl; out = (refl, refl) }
read_place_trio R site c d e x (Some p) h = read_cell_trio R site x p (content c p) (content d p) (content e p) (content_trio R c d e p h)

read_trio : (R : ℕ → ℕ → ℕ → Type 0) (site : Site) (c d e : Cells) (x : List ℕ) (vs ws us : List Value) → TrioCells R c d e → Trios R vs ws us → Tells (Trio R) (read site c x vs) (read site d x ws) (read site e x us)
read_trio R site c d e x vs ws us h g =
    let q : (whole_numbers ws ≡ whole_numbers vs) × (whole_numbers us ≡ whole_numbers vs) = wholes_trio R vs ws us g in
    rw (q.0, q.1) (read_place_trio R site c d e x (place_of site x (whole_numbers vs)) h)

-- ---- expressions and conditions

mutual
  pub value_trio : (R : ℕ → ℕ → ℕ → Type 0) → Closed R → (a : Expression) (site : Site) (c d e : Cells) → TrioCells R c d e → Tells (Trio R) (value_of a site c) (value_of a site d) (value_of a site e)
  value_trio R k (literal n s) site c d e h = lifted (Trio R) _ _ _ (literal_trio R k n s)
  value_trio R k (get x s) site c d e h =
      bind (Trios R) (Trio R) (values_of s site c) (values_of s site d) (values_of s site e) (read site c x) (read site d x) (read site e x) (values_trio R k s site c d e h)
      (λ v w u g. read_trio R site c d e x v w u h g)
  value_trio R k (minus a) site c d e h =
      bind (Trio R) (Trio R) (value_of a site c) (value_of a site d) (value_of a site e) _ _ _ (value_trio R k a site c d e h)
      (λ v w u g. lifted (Trio R) _ _ _ (negated_trio R k v w u g))
  value_trio R k (binary o a b) site c d e h =
      bind (Trio R) (Trio R) (value_of a site c) (value_of a site d) (value_of a site e) _ _ _ (value_trio R k a site c d e h)
      (λ v w u g. bind (Trio R) (Trio R) (value_of b site c) (value_of b site d) (value_of b site e) _ _ _ (value_trio R k b site c d e h)
      (λ v' w' u' g'. lifted (Trio R) _ _ _ (binary_trio R k o v w u v' w' u' g g')))
  value_trio R k (power a n) site c d e h =
      bind (Trio R) (Trio R) (value_of a site c) (value_of a site d) (value_of a site e) _ _ _ (value_trio R k a site c d e h)
      (λ v w u g. lifted (Trio R) _ _ _ (power_trio R k n v w u g))
  value_trio R k (call f s) site c d e h =
      bind (Trios R) (Trio R) (values_of s site c) (values_of s site d) (values_of s site e) _ _ _ (values_trio R k s site c d e h)
      (λ v w u g. lifted (Trio R) _ _ _ (call_trio R k site.width f v w u g))

  pub values_trio : (R : ℕ → ℕ → ℕ → Type 0) → Closed R → (s : Expressions) (site : Site) (c d e : Cells) → TrioCells R c d e → Tells (Trios R) (values_of s site c) (values_of s site d) (values_of s site e)
  values_trio R k no_expressions site c d e h = record { second = refl; third = refl; out = tt }
  values_trio R k (expression a s) site c d e h =
      bind (Trio R) (Trios R) (value_of a site c) (value_of a site d) (value_of a site e) _ _ _ (value_trio R k a site c d e h)
      (λ v w u g. bind (Trios R) (Trios R) (values_of s site c) (values_of s site d) (values_of s site e) _ _ _ (values_trio R k s site c d e h)
      (λ vs ws us gs. record { second = refl; third = refl; out = (g, gs) }))

-- three equal answers
abbrev pub Equals : {A : Type 0} → A → A → A → Type 0
Equals a b c = (b ≡ a) × (c ≡ a)

pub holds_trio : (R : ℕ → ℕ → ℕ → Type 0) → Closed R → (a : Condition) (site : Site) (c d e : Cells) → TrioCells R c d e → Tells Equals (holds a site c) (holds a site d) (holds a site e)
holds_trio R k (relation o a b) site c d e h =
    bind (Trio R) Equals (value_of a site c) (value_of a site d) (value_of a site e) _ _ _ (value_trio R k a site c d e h)
    (λ v w u g. bind (Trio R) Equals (value_of b site c) (value_of b site d) (value_of b site e) _ _ _ (value_trio R k b site c d e h)
    (λ v' w' u' g'. pured Equals _ _ _ (relates_trio R site.width o v w u v' w' u' g g')))
holds_trio R k (negation a) site c d e h =
    bind Equals Equals (holds a site c) (holds a site d) (holds a site e) _ _ _ (holds_trio R k a site c d e h)
    (λ p q r g. pured Equals _ _ _ (rw g.0 refl, rw g.1 refl))
holds_trio R k (conjunction a b) site c d e h =
    bind Equals Equals (holds a site c) (holds a site d) (holds a site e) _ _ _ (holds_trio R k a site c d e h)
    (λ p q r g. bind Equals Equals (holds b site c) (holds b site d) (holds b site e) _ _ _ (holds_trio R k b site c d e h)
    (λ p' q' r' g'. pured Equals _ _ _ (rw (g.0, g'.0) refl, rw (g.1, g'.1) refl)))
holds_trio R k (disjunction a b) site c d e h =
    bind Equals Equals (holds a site c) (holds a site d) (holds a site e) _ _ _ (holds_trio R k a site c d e h)
    (λ p q r g. bind Equals Equals (holds b site c) (holds b site d) (holds b site e) _ _ _ (holds_trio R k b site c d e h)
    (λ p' q' r' g'. pured Equals _ _ _ (rw (g.0, g'.0) refl, rw (g.1, g'.1) refl)))
