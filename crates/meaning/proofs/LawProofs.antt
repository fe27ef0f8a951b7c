-- The laws, from three related runs.
use Rattle.std.specs.Prelude.{◌≡◌, ℕ, List, [], ◌∷◌, map, Option, Some, None, Result, Ok, Err, refl}
use Rattle.std.proofs.Common.{ap, sym, ◌∙◌, arith}
use Rattle.ring_core.specs.Ring.{ring_add, ring_sub, ring_mul, ring_neg}
use Rattle.ring_core.proofs.Modular.{modular, modulo, ring_sub_is}
use Rattle.meaning.specs.declared.value.Value.{Value}
use Rattle.meaning.specs.declared.value.Value.TheVariants.{Index, Ring}
use Rattle.meaning.specs.declared.value.TrapAt.{TrapAt}
use Rattle.meaning.specs.Sites.{Cells, with_tangent}
use Rattle.meaning.specs.Statements.{run_all}
use Rattle.meaning.specs.Adjoints.{cells_along, tangent_of}
use Rattle.meaning.specs.Laws.{values_out, TangentsAreUnseen, combination, tangents_out, TangentsAreLinear}
use Rattle.meaning.proofs.Trios.{Closed, Trio, Outs, Tells, TrioCell, TrioCells}
use Rattle.meaning.proofs.RunTrios.{run_all_trio}

-- ---- tangents are unseen

Any : ℕ → ℕ → ℕ → Type 0
Any a b c = Unit {0}

any : (a b c : ℕ) → Any a b c
unfolding Any
any a b c = tt

any_closed : Closed Any
any_closed = record {
  of_zero = any _ _ _;
  of_add = λ a b c d e f p q. any _ _ _;
  of_sub = λ a b c d e f p q. any _ _ _;
  of_neg = λ a b c p. any _ _ _;
  of_left = λ v a b c p. any _ _ _;
  of_right = λ v a b c p. any _ _ _;
}

abbrev ring_part : Option Value → ℕ
ring_part None = 0
ring_part (Some (Index z)) = 0
ring_part (Some (Ring d)) = d.value

cells_alike : (v w : Option Value) → with_tangent 0 v ≡ with_tangent 0 w → TrioCell Any v w w
cells_alike None None e = tt
cells_alike (Some (Index x)) (Some (Index y)) e = let q : y ≡ x = cc in (q, q)
cells_alike (Some (Ring a)) (Some (Ring b)) e =
    let q : b.value ≡ a.value = sym (ap ring_part e) in
    record { second = q; third = q; tangents = any _ _ _ }
cells_alike None (Some (Index y)) e = cc
cells_alike None (Some (Ring b)) e = cc
cells_alike (Some (Index x)) None e = cc
cells_alike (Some (Ring a)) None e = cc
cells_alike (Some (Index x)) (Some (Ring b)) e = cc
cells_alike (Some (Ring a)) (Some (Index y)) e = cc

all_alike : (c d : Cells) → cells_along [] c ≡ cells_along [] d → TrioCells Any c d d
all_alike [] [] e = tt
all_alike [] (w ∷ d) e = cc
all_alike (v ∷ c) [] e = cc
all_alike (v ∷ c) (w ∷ d) e =
    let h : with_tangent 0 v ≡ with_tangent 0 w = cc in
    let t : cells_along [] c ≡ cells_along [] d = cc in
    (cells_alike v w h, all_alike c d t)

values_alike : (v w u : Value) → Trio Any v w u → with_tangent 0 (Some v) ≡ with_tangent 0 (Some w)
values_alike (Index x) (Index y) (Index z) h = rw h.0 refl
values_alike (Ring a) (Ring b) (Ring c) h = rw h.second refl
values_alike _ _ _ h = absurd h

cell_values : (v w u : Option Value) → TrioCell Any v w u → with_tangent 0 v ≡ with_tangent 0 w
cell_values None None None h = refl
cell_values (Some v) (Some w) (Some u) h = values_alike v w u h
cell_values _ _ _ h = absurd h

all_values : (c d e : Cells) → TrioCells Any c d e → cells_along [] c ≡ cells_along [] d
all_values [] [] [] h = refl
all_values (v ∷ c) (w ∷ d) (u ∷ e) h = rw (cell_values v w u h.0, all_values c d e h.1) refl
all_values _ _ _ h = absurd h

outs_values : (r s t : Result Cells TrapAt) → Outs (TrioCells Any) r s t → values_out r ≡ values_out s
outs_values (Ok c) (Ok d) (Ok e) h = ap Ok (all_values c d e h)
outs_values (Err x) (Err y) (Err z) h = rw h.0 refl
outs_values _ _ _ h = absurd h

pub unseen : TangentsAreUnseen
unseen = λ body site c d e.
    let t : Tells (TrioCells Any) (run_all body site c) (run_all body site d) (run_all body site d) = run_all_trio Any any_closed body site c d d (all_alike c d e) in
    (sym t.second, outs_values (run_all body site c).out (run_all body site d).out (run_all body site d).out t.out)

-- ---- tangents are linear

abbrev Mix : (a b : ℕ) → ℕ → ℕ → ℕ → Type 0
Mix a b x y z = x ≡ ring_add (ring_mul a y) (ring_mul b z)

mix_zero : (a b : ℕ) → 0 ≡ ring_add (ring_mul a 0) (ring_mul b 0)
mix_zero a b = simp modular (modulo {a = 0} (omega arith))

mix_add : (a b x y z x' y' z' : ℕ) → Mix a b x y z → Mix a b x' y' z' → Mix a b (ring_add x x') (ring_add y y') (ring_add z z')
mix_add a b x y z x' y' z' p q = rw (p, q) (simp modular (modulo (omega arith)))

mix_neg : (a b x y z : ℕ) → Mix a b x y z → Mix a b (ring_neg x) (ring_neg y) (ring_neg z)
mix_neg a b x y z p = rw p (simp modular (modulo (omega arith)))

mix_sub : (a b x y z x' y' z' : ℕ) → Mix a b x y z → Mix a b x' y' z' → Mix a b (ring_sub x x') (ring_sub y y') (ring_sub z z')
mix_sub a b x y z x' y' z' p q =
    ring_sub_is x x' ∙ (mix_add a b x y z (ring_neg x') (ring_neg y') (ring_neg z') p (mix_neg a b x' y' z' q)
    ∙ (ap (λ (m : ℕ). ring_add (ring_mul a m) (ring_mul b (ring_add z (ring_neg z')))) (sym (ring_sub_is y y'))
    ∙ ap (λ (m : ℕ). ring_add (ring_mul a (ring_sub y y')) (ring_mul b m)) (sym (ring_sub_is z z'))))

mix_closed : (a b : ℕ) → Closed (Mix a b)
mix_closed a b = record {
  of_zero = mix_zero a b;
  of_add = mix_add a b;
  of_sub = mix_sub a b;
  of_neg = mix_neg a b;
  of_left = λ v x y z p. rw p (simp modular (modulo (omega arith)));
  of_right = λ v x y z p. rw p (simp modular (modulo (omega arith)));
}

pointed_trio : (a b t u : ℕ) (v : Option Value) → TrioCell (Mix a b) (with_tangent (ring_add (ring_mul a t) (ring_mul b u)) v) (with_tangent t v) (with_tangent u v)
pointed_trio a b t u None = tt
pointed_trio a b t u (Some (Index z)) = (refl, refl)
pointed_trio a b t u (Some (Ring d)) = record { second = refl; third = refl; tangents = refl }

unpointed_trio : (a b : ℕ) (v : Option Value) → TrioCell (Mix a b) (with_tangent 0 v) (with_tangent 0 v) (with_tangent 0 v)
unpointed_trio a b None = tt
unpointed_trio a b (Some (Index z)) = (refl, refl)
unpointed_trio a b (Some (Ring d)) = record { second = refl; third = refl; tangents = mix_zero a b }

along_trio : (a b : ℕ) (ts us : List ℕ) (c : Cells) → TrioCells (Mix a b) (cells_along (combination a ts b us) c) (cells_along ts c) (cells_along us c)
along_trio a b ts us [] = tt
along_trio a b [] [] (v ∷ c) = (unpointed_trio a b v, along_trio a b [] [] c)
along_trio a b [] (u ∷ us) (v ∷ c) = (pointed_trio a b 0 u v, along_trio a b [] us c)
along_trio a b (t ∷ ts) [] (v ∷ c) = (pointed_trio a b t 0 v, along_trio a b ts [] c)
along_trio a b (t ∷ ts) (u ∷ us) (v ∷ c) = (pointed_trio a b t u v, along_trio a b ts us c)

value_tangents : (a b : ℕ) (v w u : Value) → Trio (Mix a b) v w u → tangent_of (Some v) ≡ ring_add (ring_mul a (tangent_of (Some w))) (ring_mul b (tangent_of (Some u)))
value_tangents a b (Index x) (Index y) (Index z) h = mix_zero a b
value_tangents a b (Ring x) (Ring y) (Ring z) h = h.tangents
value_tangents a b _ _ _ h = absurd h

cell_tangents : (a b : ℕ) (v w u : Option Value) → TrioCell (Mix a b) v w u → tangent_of v ≡ ring_add (ring_mul a (tangent_of w)) (ring_mul b (tangent_of u))
cell_tangents a b None None None h = mix_zero a b
cell_tangents a b (Some v) (Some w) (Some u) h = value_tangents a b v w u h
cell_tangents a b _ _ _ h = absurd h

all_tangents : (a b : ℕ) (c d e : Cells) → TrioCells (Mix a b) c d e → map tangent_of c ≡ combination a (map tangent_of d) b (map tangent_of e)
all_tangents a b [] [] [] h = refl
all_tangents a b (v ∷ c) (w ∷ d) (u ∷ e) h =
    let p : tangent_of v ≡ ring_add (ring_mul a (tangent_of w)) (ring_mul b (tangent_of u)) = cell_tangents a b v w u h.0 in
    let q : map tangent_of c ≡ combination a (map tangent_of d) b (map tangent_of e) = all_tangents a b c d e h.1 in
    rw (p, q) refl
all_tangents a b _ _ _ h = absurd h

outs_tangents : (a b : ℕ) (r s t : Result Cells TrapAt) → Outs (TrioCells (Mix a b)) r s t → tangents_out r ≡ combination a (tangents_out s) b (tangents_out t)
outs_tangents a b (Ok c) (Ok d) (Ok e) h = all_tangents a b c d e h
outs_tangents a b (Err x) (Err y) (Err z) h = refl
outs_tangents a b _ _ _ h = absurd h

pub linear : TangentsAreLinear
linear = λ body site cells a ts b us.
    outs_tangents a b _ _ _ (run_all_trio (Mix a b) (mix_closed a b) body site _ _ _ (along_trio a b ts us cells)).out
