-- Different iterations have different counters, and the counter of a collapsed loop lies in its turns.
use Rattle.std.proofs.Common.{◌≡◌, ◌≢◌, ℕ, zero, suc, ◌+◌, ◌*◌, ◌/◌, ◌%◌, ◌<◌, ◌≤◌, Bool, true, false, ℤ, pos, ◌+ℤ◌, ◌*ℤ◌, ◌-ℤ◌, ◌≤ℤ◌, unsigned_abs, [], ◌∷◌, refl, ap, sym, ◌∙◌, subst, arith, div-add-mod', zero-lt-suc, Option, Some, None, Ok, Err}
use Rattle.std.specs.Prelude.{if◌then◌else◌, nat_eq, int_div}
use Rattle.std.specs.Ordering.{int_eq}
use Rattle.std.proofs.lemmas.Int.{ints, unsigned_abs-mul}
use Rattle.std.proofs.lemmas.Bool.{and_parts}
use Rattle.std.proofs.Math.Nat.{mul-div_cancel, mul-zero, mod-lt}
use Rattle.fl_ast.specs.declared.directive.Directive.{Directive}
use Rattle.fl_ast.specs.Tree.{Expression, assignment, branch, loop, Statements, no_statements, statement}
use Rattle.fl_types.specs.Nests.{Head, is_one_loop, is_nest, inner_head, further_head}
use Rattle.store_core.specs.Bounds.{clipped}
use Rattle.meaning.specs.declared.value.Cause.TheVariants.{ZeroDivisor}
use Rattle.meaning.specs.declared.value.IterationCount.{IterationCount}
use Rattle.meaning.specs.Values.{whole_number}
use Rattle.meaning.specs.Logs.{pure, lift, ◌>>=◌}
use Rattle.meaning.specs.Sites.{Cells, Site}
use Rattle.meaning.specs.Expressions.{value_of}
use Rattle.meaning.specs.Statements.{turns_by, step_value, turns_of, Heads, iterations, heads_of}
use Rattle.meaning.proofs.Parts.{bound}
use Rattle.index_forms.specs.declared.form.Side.{Side}
use Rattle.index_forms.specs.declared.form.Side.TheVariants.{One, Two}
use Rattle.index_forms.specs.Form.{Atom, iter2}
use Rattle.index_forms.specs.Loops.{HeadedLoop, further, signed_number, step_number}
use Rattle.index_forms.proofs.Ints.{abs-positive}
use Rattle.index_law.specs.Variables.{counter_value}
use Rattle.index_law.specs.Starts.{HasCounters, StandsAtStart, IsBegun}
use Rattle.index_law.proofs.Starts.{heads_are}
use Rattle.apart_law.proofs.Ranges.{second_holds}
use Rattle.loop_scenes.specs.Turns.{last_turn_by, last_turn_of}
use Rattle.certificate_rules.specs.Disjoint.{DifferentIterations}
use Rattle.loop_pairs.specs.Known.{nest_of}

-- ---- steps aren't 0

step_in : (b : Bool) (u t : IterationCount) → int_eq u.step (pos 0) ≡ b → (if b then lift (Err ZeroDivisor) else pure u).out ≡ Ok t → ¬ (t.step ≡ pos 0)
step_in true u t e h = cc
step_in false u t e h = λ z. (let i : u ≡ t = cc in let j : u.step ≡ pos 0 = ap (λ (w : IterationCount). w.step) i ∙ z in let k : int_eq (pos 0) (pos 0) ≡ false = subst (λ (y : ℤ). int_eq y (pos 0) ≡ false) j e in cc)

pub step_isn't_zero : (site : Site) (s : Cells) (low high : Expression) (step : Option Expression) (t : IterationCount) → (turns_of low high step site s).out ≡ Ok t → ¬ (t.step ≡ pos 0)
step_isn't_zero site s low high step t h =
    let f = bound (value_of low site s) (λ a. value_of high site s >>= (λ b. step_value step site s >>= (λ c. turns_by (whole_number a) (whole_number b) (whole_number c)))) t h in
    let g = bound (value_of high site s) (λ b. step_value step site s >>= (λ c. turns_by (whole_number f.value) (whole_number b) (whole_number c))) t f.second in
    let k = bound (step_value step site s) (λ c. turns_by (whole_number f.value) (whole_number g.value) (whole_number c)) t g.second in
    step_in (int_eq (whole_number k.value) (pos 0))
    (record { first = whole_number f.value; last = whole_number g.value; step = whole_number k.value; count = clipped (int_div ((whole_number g.value -ℤ whole_number f.value) +ℤ whole_number k.value) (whole_number k.value)) }) t refl k.second

-- ---- counters

same_by : (s : ℤ) (i j : ℕ) → ¬ (s ≡ pos 0) → pos i *ℤ s ≡ pos j *ℤ s → i ≡ j
same_by s i j d e =
    let p : unsigned_abs (pos i *ℤ s) ≡ i * unsigned_abs s = unsigned_abs-mul (pos i) s in
    let q : unsigned_abs (pos j *ℤ s) ≡ j * unsigned_abs s = unsigned_abs-mul (pos j) s in
    let r : i * unsigned_abs s ≡ j * unsigned_abs s = sym p ∙ (ap unsigned_abs e ∙ q) in
    sym (mul-div_cancel i (abs-positive s d)) ∙ (ap (λ (n : ℕ). n / unsigned_abs s) r ∙ mul-div_cancel j (abs-positive s d))

same_products : (a x y : ℤ) → a +ℤ x ≡ a +ℤ y → x ≡ y
same_products a x y e = omega (arith, ints, e)

same_counter : (step : Option ℤ) (t : IterationCount) (i j : ℕ) → ¬ (t.step ≡ pos 0) → counter_value step t i ≡ counter_value step t j → i ≡ j
same_counter None t i j d e = same_by t.step i j d (same_products t.first (pos i *ℤ t.step) (pos j *ℤ t.step) e)
same_counter (Some c) t i j d e = let f : unsigned_abs (pos i) ≡ unsigned_abs (pos j) = ap unsigned_abs e in f

-- ---- of a loop, and of two collapsed ones

abbrev Both : (Atom → ℤ) → Head → Option Head → Heads → (i j : ℕ) → Type 0
Both v h more heads i j = HasCounters v One h more heads i × HasCounters v Two h more heads j

one_differs : (v : Atom → ℤ) (h : Head) (t : IterationCount) (i j : ℕ) → ¬ (t.step ≡ pos 0) → i ≢ j → Both v h None ((h.var, t) ∷ []) i j → DifferentIterations false v
one_differs v h t i j d n b e = n (same_counter (step_number h.step) t i j d (sym b.0.1 ∙ (e ∙ b.1.1)))

two_differ : (v : Atom → ℤ) (h g : Head) (t u : IterationCount) (i j : ℕ) → ¬ (t.step ≡ pos 0) → ¬ (u.step ≡ pos 0) → i ≢ j → Both v h (Some g) ((h.var, t) ∷ (g.var, u) ∷ []) i j → DifferentIterations true v
two_differ v h g t u i j d f n b e =
    let q : i / u.count ≡ j / u.count = same_counter (step_number h.step) t (i / u.count) (j / u.count) d (sym b.0.0.1 ∙ (e.0 ∙ b.1.0.1)) in
    let r : i % u.count ≡ j % u.count = same_counter (step_number g.step) u (i % u.count) (j % u.count) f (sym b.0.1.1 ∙ (e.1 ∙ b.1.1.1)) in
    n (sym (div-add-mod' i u.count) ∙ (ap (λ (x : ℕ). x * u.count + i % u.count) q ∙ (ap (λ (x : ℕ). j / u.count * u.count + x) r ∙ div-add-mod' j u.count)))

-- whether a loop is collapsed, and its further head
unnested : (directive : Directive) (body : Statements) → is_nest directive body ≡ false → further_head directive body ≡ None
unnested directive body e = ap (λ (b : Bool). if b then inner_head body else None) e

nested : (directive : Directive) (body : Statements) → is_nest directive body ≡ true → (g : Head) × (further_head directive body ≡ Some g)
nested directive body e =
    let f : further_head directive body ≡ inner_head body = ap (λ (b : Bool). if b then inner_head body else None) e in
    let i = one_inside body (and_parts (nat_eq directive.collapse 2) (is_one_loop body) e).1 in
    (i.0, f ∙ i.1)
  where
    one_inside : (ss : Statements) → is_one_loop ss ≡ true → (g : Head) × (inner_head ss ≡ Some g)
    one_inside no_statements h = cc
    one_inside (statement (assignment line atomic p v) ss) h = cc
    one_inside (statement (branch line arms other) ss) h = cc
    one_inside (statement (loop line number d var first last step inner) ss) h = (_, refl)

by_further : (v : Atom → ℤ) (h : Head) (more : Option Head) (site : Site) (cells : Cells) (heads : Heads) → (heads_of h more site cells).out ≡ Ok heads → (i j : ℕ) → i ≢ j → Both v h more heads i j → (b : Bool) → ((b ≡ false) → more ≡ None) → ((b ≡ true) → (g : Head) × (more ≡ Some g)) → DifferentIterations b v
by_further v h None site cells heads e i j n w false f g =
    let a = heads_are h None site cells heads e in
    one_differs v h a.0 i j (step_isn't_zero site cells h.first h.last h.step a.0 a.1) n (subst (λ (hs : Heads). Both v h None hs i j) (sym a.2) w)
by_further v h (Some x) site cells heads e i j n w false f g = let z : Some x ≡ None = f refl in cc
by_further v h None site cells heads e i j n w true f g = let z = g refl in let y = z.1 in cc
by_further v h (Some x) site cells heads e i j n w true f g =
    let a = heads_are h (Some x) site cells heads e in
    two_differ v h x a.0 a.2 i j (step_isn't_zero site cells h.first h.last h.step a.0 a.1) (step_isn't_zero site cells x.first x.last x.step a.2 a.3) n (subst (λ (hs : Heads). Both v h (Some x) hs i j) (sym a.4) w)

-- the iterations of the two sides are different ones
pub different : (v : Atom → ℤ) (l : HeadedLoop) (site : Site) (heads : Heads) (cells : Cells) → IsBegun l site heads cells → (i j : ℕ) → i ≢ j → StandsAtStart v One l site heads cells i → StandsAtStart v Two l site heads cells j →
    DifferentIterations (nat_eq (nest_of l.loop) 2) v
different v l site heads cells b i j n one two = by_nest (is_nest l.loop.directive l.loop.body) refl
  where
    by_nest : (c : Bool) → is_nest l.loop.directive l.loop.body ≡ c → DifferentIterations (nat_eq (if c then 2 else 1) 2) v
    by_nest true e = by_further v l.head (further l) site cells heads b.counted i j n (one.counters, two.counters) true (λ f. cc) (λ f. nested l.loop.directive l.loop.body e)
    by_nest false e = by_further v l.head (further l) site cells heads b.counted i j n (one.counters, two.counters) false (λ f. unnested l.loop.directive l.loop.body e) (λ f. cc)

-- ---- the counter of the collapsed loop

step_known : (x y z : Option ℤ) (m : ℕ) → last_turn_by x y z ≡ Some m → (c : ℤ) × (z ≡ Some c)
step_known (Some a) (Some b) (Some c) m e = (c, refl)
step_known None y z m e = cc
step_known (Some a) None z m e = cc
step_known (Some a) (Some b) None m e = cc

below : (k t u : ℕ) → k < t * u → k % u < u
below k t zero h = let z : t * 0 ≡ 0 = mul-zero t in absurd (omega (arith, h, z))
below k t (suc u) h = mod-lt k (zero-lt-suc u)

second_by : (v : Atom → ℤ) (side : Side) (h : Head) (more : Option Head) (site : Site) (cells : Cells) (heads : Heads) → (heads_of h more site cells).out ≡ Ok heads → (k : ℕ) → k < iterations heads → HasCounters v side h more heads k → (m : ℕ) → last_turn_of more ≡ Some m →
    (pos 0 ≤ℤ v (iter2 side)) × (v (iter2 side) ≤ℤ pos m)
second_by v side h None site cells heads e k i w m f = cc
second_by v side h (Some g) site cells heads e k i w m f =
    let a = heads_are h (Some g) site cells heads e in
    let n : k < a.0.count * a.2.count = subst (λ (hs : Heads). k < iterations hs) (sym a.4) i in
    let c = (subst (λ (hs : Heads). HasCounters v side h (Some g) hs k) (sym a.4) w).1.1 in
    let z = step_known (signed_number g.first) (signed_number g.last) (step_number g.step) m f in
    let y : v (iter2 side) ≡ pos (k % a.2.count) = c ∙ ap (λ (o : Option ℤ). counter_value o a.2 (k % a.2.count)) z.1 in
    let q : k % a.2.count ≤ m = second_holds site cells g a.2 (k % a.2.count) a.3 (below k a.0.count a.2.count n) m f in
    (omega (arith, ints, y), omega (arith, ints, y, q))

pub second_lies : (v : Atom → ℤ) (side : Side) (l : HeadedLoop) (site : Site) (heads : Heads) (cells : Cells) → IsBegun l site heads cells → (k : ℕ) → k < iterations heads → StandsAtStart v side l site heads cells k → (m : ℕ) → last_turn_of (further l) ≡ Some m →
    (pos 0 ≤ℤ v (iter2 side)) × (v (iter2 side) ≤ℤ pos m)
second_lies v side l site heads cells b k i s m f = second_by v side l.head (further l) site cells heads b.counted k i s.counters m f
