-- What is known of scalars at the start of an iteration is true.
use Rattle.std.proofs.Common.{◌≡◌, ℕ, zero, suc, Bool, true, false, ◌||◌, ℤ, List, [], ◌∷◌, refl, ap, sym, ◌∙◌, subst, arith, Option, Some, None, Ok}
use Rattle.std.specs.Prelude.{bytes_eq, if◌then◌else◌, ◌/◌, ◌%◌, slice_set}
use Rattle.std.proofs.lemmas.Int.{ints}
use Rattle.std.proofs.lemmas.Slice.Eq.{bytes_eq-Decides}
use Rattle.fl_types.specs.Nests.{Head}
use Rattle.fl_types.specs.Sharing.{has_name}
use Rattle.meaning.specs.declared.value.Value.TheVariants.{Index}
use Rattle.meaning.specs.declared.value.IterationCount.{IterationCount}
use Rattle.meaning.specs.Logs.{pure, ◌>>=◌, at_line}
use Rattle.meaning.specs.Sites.{Cells, Site, place_of, in_iteration}
use Rattle.meaning.specs.Expressions.{content}
use Rattle.meaning.specs.Statements.{content_at, set_at, turns, turns_of, value_at, private_names, with_all_unset, Heads, iterations, further_turns, heads_of}
use Rattle.meaning.specs.Frame.{content_by_name}
use Rattle.meaning.specs.Reached.{cells_with, cells_with_heads, iteration_cells}
use Rattle.meaning.specs.Groups.{iteration_of}
use Rattle.meaning.proofs.Parts.{bound, lined}
use Rattle.index_forms.specs.declared.form.Side.{Side}
use Rattle.index_forms.specs.Form.{Atom, Form, start, iter, inv, start2, iter2}
use Rattle.index_forms.specs.Sums.{value}
use Rattle.index_forms.specs.Formed.{atom_form}
use Rattle.index_forms.specs.Loops.{HeadedLoop, inside, further, variable_form, known_of_further, known_at_start, written_in}
use Rattle.index_law.specs.Worth.{HoldsKnown}
use Rattle.index_law.specs.Iterations.{head_names}
use Rattle.index_law.specs.Starts.{HasCounters, StandsAtStart, HasOtherVariable, IsBegun}
use Rattle.index_law.proofs.Steps.{or_both, other_set, variable_is}
use Rattle.index_law.proofs.Iterations.{heads_kept, invariants_hold}
use Rattle.index_law.proofs.Variables.{variables_hold}

-- ---- contents of a name's own place

unset_is : (c : Cells) (p q : ℕ) → content c q ≡ None → content (slice_set c p None) q ≡ None
unset_is [] p q h = h
unset_is (u ∷ c) zero zero h = refl
unset_is (u ∷ c) zero (suc q) h = h
unset_is (u ∷ c) (suc p) zero h = h
unset_is (u ∷ c) (suc p) (suc q) h = unset_is c p q h

unset_there : (c : Cells) (p : ℕ) → content (slice_set c p None) p ≡ None
unset_there [] p = refl
unset_there (u ∷ c) zero = refl
unset_there (u ∷ c) (suc p) = unset_there c p

own_value : (site : Site) (x y : List ℕ) (n z : ℤ) (c : Cells) → bytes_eq x y ≡ true → content_by_name site (cells_with site y n c) x [] ≡ Some (Index z) → n ≡ z
own_value site x y n z c e h = variable_is site y n c z (subst (λ (w : List ℕ). content_by_name site (cells_with site y n c) w [] ≡ Some (Index z)) ((bytes_eq-Decides x y).0 e) h)

stays_unset : (site : Site) (y : List ℕ) (c : Cells) (x : List ℕ) → content_by_name site c x [] ≡ None → content_by_name site (set_at (place_of site y []) None c) x [] ≡ None
stays_unset site y c x h = by_places (place_of site y []) (place_of site x []) h
  where
    by_places : (o u : Option ℕ) → content_at c u ≡ None → content_at (set_at o None c) u ≡ None
    by_places None u g = g
    by_places (Some p) None g = refl
    by_places (Some p) (Some q) g = unset_is c p q g

all_stay_unset : (site : Site) (names : List (List ℕ)) (c : Cells) (x : List ℕ) → content_by_name site c x [] ≡ None → content_by_name site (with_all_unset site names c) x [] ≡ None
all_stay_unset site [] c x h = h
all_stay_unset site (y ∷ names) c x h = all_stay_unset site names (set_at (place_of site y []) None c) x (stays_unset site y c x h)

own_unset : (site : Site) (x y : List ℕ) (c : Cells) → bytes_eq x y ≡ true → content_by_name site (set_at (place_of site y []) None c) x [] ≡ None
own_unset site x y c e = subst (λ (w : List ℕ). content_by_name site (set_at (place_of site y []) None c) w [] ≡ None) (sym ((bytes_eq-Decides x y).0 e)) (by_place (place_of site y []))
  where
    by_place : (o : Option ℕ) → content_at (set_at o None c) o ≡ None
    by_place None = refl
    by_place (Some p) = unset_there c p

named_unset : (site : Site) (names : List (List ℕ)) (c : Cells) (x : List ℕ) → has_name x names ≡ true → content_by_name site (with_all_unset site names c) x [] ≡ None
named_unset site [] c x h = cc
named_unset site (y ∷ names) c x h = by_test (bytes_eq x y) refl (λ e. named_unset site names (set_at (place_of site y []) None c) x e) h
  where
    by_test : (b : Bool) → bytes_eq x y ≡ b → (has_name x names ≡ true → content_by_name site (with_all_unset site names (set_at (place_of site y []) None c)) x [] ≡ None) → (b || has_name x names) ≡ true →
        content_by_name site (with_all_unset site names (set_at (place_of site y []) None c)) x [] ≡ None
    by_test true e later g = all_stay_unset site names (set_at (place_of site y []) None c) x (own_unset site x y c e)
    by_test false e later g = later g

-- ---- the form of a loop's variable, or of another name

worth_atom : (v : Atom → ℤ) (a : Atom) → value v (atom_form a) ≡ v a
worth_atom v a = omega (arith, ints)

-- in iteration k, begun with the cells c
abbrev KnownOf : (Atom → ℤ) → Side → Head → Option Head → Site → Cells → ℕ → List ℕ → Form → ℤ → Heads → Type 0
KnownOf v side h more site c k x f z heads =
    HasCounters v side h more heads k →
    (has_name x (head_names heads) ≡ false → v (inv x) ≡ z) →
    (if bytes_eq x h.var then Some (variable_form start (iter side) h) else known_of_further side x more) ≡ Some f →
    content_by_name site (cells_with_heads site heads k c) x [] ≡ Some (Index z) → value v f ≡ z

another : (v : Atom → ℤ) (x : List ℕ) (f : Form) (z : ℤ) → Some (atom_form (inv x)) ≡ Some f → v (inv x) ≡ z → value v f ≡ z
another v x f z q i = let y : atom_form (inv x) ≡ f = cc in ap (value v) (sym y) ∙ (worth_atom v (inv x) ∙ i)

one_head : (v : Atom → ℤ) (side : Side) (h : Head) (site : Site) (cells c : Cells) (k : ℕ) (x : List ℕ) (f : Form) (z : ℤ) (t : IterationCount) → (turns_of h.first h.last h.step site cells).out ≡ Ok t →
    KnownOf v side h None site c k x f z ((h.var, t) ∷ [])
one_head v side h site cells c k x f z t e m rest p g = by_test (bytes_eq x h.var) refl p
  where
    by_test : (b : Bool) → bytes_eq x h.var ≡ b → (if b then Some (variable_form start (iter side) h) else Some (atom_form (inv x))) ≡ Some f → value v f ≡ z
    by_test true i q =
        let y : variable_form start (iter side) h ≡ f = cc in
        ap (value v) (sym y) ∙ (variables_hold v start (iter side) h site cells t k e m.0 m.1 ∙ own_value site x h.var (value_at t k) z c i g)
    by_test false i q = another v x f z q (rest (or_both (bytes_eq x h.var) false i refl))

two_heads : (v : Atom → ℤ) (side : Side) (h j : Head) (site : Site) (cells c : Cells) (k : ℕ) (x : List ℕ) (f : Form) (z : ℤ) (t u : IterationCount) → (turns_of h.first h.last h.step site cells).out ≡ Ok t →
    (turns_of j.first j.last j.step site cells).out ≡ Ok u → bytes_eq h.var j.var ≡ false → KnownOf v side h (Some j) site c k x f z ((h.var, t) ∷ (j.var, u) ∷ [])
two_heads v side h j site cells c k x f z t u e d w m rest p g = by_first (bytes_eq x h.var) refl p
  where
    n : ℕ
    n = iterations ((j.var, u) ∷ [])

    outer : Cells
    outer = cells_with site h.var (value_at t (k / n)) c

    by_second : (b : Bool) → bytes_eq x h.var ≡ false → bytes_eq x j.var ≡ b → (if b then Some (variable_form start2 (iter2 side) j) else Some (atom_form (inv x))) ≡ Some f → value v f ≡ z
    by_second true o i q =
        let y : variable_form start2 (iter2 side) j ≡ f = cc in
        ap (value v) (sym y) ∙ (variables_hold v start2 (iter2 side) j site cells u (k % n) d m.1.0 m.1.1 ∙ own_value site x j.var (value_at u (k % n)) z outer i g)
    by_second false o i q = another v x f z q (rest (or_both (bytes_eq x h.var) (bytes_eq x j.var || false) o (or_both (bytes_eq x j.var) false i refl)))

    by_first : (b : Bool) → bytes_eq x h.var ≡ b → (if b then Some (variable_form start (iter side) h) else known_of_further side x (Some j)) ≡ Some f → value v f ≡ z
    by_first true i q =
        let y : variable_form start (iter side) h ≡ f = cc in
        let other : bytes_eq x j.var ≡ false = ap (λ (a : List ℕ). bytes_eq a j.var) ((bytes_eq-Decides x h.var).0 i) ∙ w in
        ap (value v) (sym y)
        ∙ (variables_hold v start (iter side) h site cells t (k / n) e m.0.0 m.0.1
        ∙ own_value site x h.var (value_at t (k / n)) z c i (sym (other_set site j.var (Some (Index (value_at u (k % n)))) outer x [] other) ∙ g))
    by_first false i q = by_second (bytes_eq x j.var) i refl q

-- the heads of a loop, by the turns that were counted
abbrev pub HeadsAre : Head → Option Head → Site → Cells → Heads → Type 0
HeadsAre h None site cells heads = (t : IterationCount) × ((turns_of h.first h.last h.step site cells).out ≡ Ok t) × ((h.var, t) ∷ [] ≡ heads)
HeadsAre h (Some j) site cells heads =
    (t : IterationCount) × ((turns_of h.first h.last h.step site cells).out ≡ Ok t) × (u : IterationCount) × ((turns_of j.first j.last j.step site cells).out ≡ Ok u) × ((h.var, t) ∷ (j.var, u) ∷ [] ≡ heads)

pub heads_are : (h : Head) (more : Option Head) (site : Site) (cells : Cells) (heads : Heads) → (heads_of h more site cells).out ≡ Ok heads → HeadsAre h more site cells heads
heads_are h None site cells heads e =
    let a = bound (at_line h.line (turns_of h.first h.last h.step site cells)) (λ t. further_turns None site cells >>= (λ hs. pure ((h.var, t) ∷ hs))) heads e in
    let s = a.second in
    (a.value, (lined h.line (turns_of h.first h.last h.step site cells) a.value a.first).out, cc)
heads_are h (Some j) site cells heads e =
    let a = bound (at_line h.line (turns_of h.first h.last h.step site cells)) (λ t. further_turns (Some j) site cells >>= (λ hs. pure ((h.var, t) ∷ hs))) heads e in
    let b = bound (further_turns (Some j) site cells) (λ hs. pure ((h.var, a.value) ∷ hs)) heads a.second in
    let d = bound (at_line j.line (turns_of j.first j.last j.step site cells)) (λ t. pure ((j.var, t) ∷ [])) b.value b.first in
    let s = d.second in
    let q = b.second in
    let y : (j.var, d.value) ∷ [] ≡ b.value = cc in
    let i : (h.var, a.value) ∷ b.value ≡ heads = cc in (
      a.value,
      (lined h.line (turns_of h.first h.last h.step site cells) a.value a.first).out,
      d.value,
      (lined j.line (turns_of j.first j.last j.step site cells) d.value d.first).out,
      ap (λ (hs : Heads). (h.var, a.value) ∷ hs) y ∙ i,
    )

abbrev pub variable_names : Head → Option Head → List (List ℕ)
variable_names h None = h.var ∷ []
variable_names h (Some j) = h.var ∷ j.var ∷ []

pub names_of_heads : (h : Head) (more : Option Head) (site : Site) (cells : Cells) (heads : Heads) → (heads_of h more site cells).out ≡ Ok heads → head_names heads ≡ variable_names h more
names_of_heads h None site cells heads e = let w = heads_are h None site cells heads e in ap head_names (sym w.2)
names_of_heads h (Some j) site cells heads e = let w = heads_are h (Some j) site cells heads e in ap head_names (sym w.4)

by_heads : (v : Atom → ℤ) (side : Side) (h : Head) (more : Option Head) (site : Site) (cells c : Cells) (k : ℕ) (x : List ℕ) (f : Form) (z : ℤ) (heads : Heads) → (heads_of h more site cells).out ≡ Ok heads →
    HasOtherVariable more h.var → KnownOf v side h more site c k x f z heads
by_heads v side h None site cells c k x f z heads e w =
    let a = heads_are h None site cells heads e in
    subst (KnownOf v side h None site c k x f z) a.2 (one_head v side h site cells c k x f z a.0 a.1)
by_heads v side h (Some j) site cells c k x f z heads e w =
    let a = heads_are h (Some j) site cells heads e in
    subst (KnownOf v side h (Some j) site c k x f z) a.4 (two_heads v side h j site cells c k x f z a.0 a.2 a.1 a.3 w)

-- ---- at the start of an iteration

pub known_at_start_holds : (v : Atom → ℤ) (side : Side) (l : HeadedLoop) (site : Site) (heads : Heads) (cells : Cells) → IsBegun l site heads cells → (k : ℕ) (c : Cells) → (turns k (iteration_of site l.loop heads) cells).out ≡ Ok c →
    StandsAtStart v side l site heads cells k →
    HoldsKnown v (known_at_start side l) (in_iteration site l.loop.directive l.loop.var l.loop.body) (iteration_cells site l.loop.directive l.loop.var l.loop.body heads k c)
known_at_start_holds v side l site heads cells b k c r s x f z p g = by_written (has_name x (written_in (inside l))) refl p
  where
    names : List (List ℕ)
    names = private_names site l.loop.directive l.loop.var l.loop.body

    begun : Cells
    begun = with_all_unset site names c

    invariant : (t : Bool) → has_name x names ≡ t → has_name x (written_in (inside l)) ≡ false → has_name x (head_names heads) ≡ false → v (inv x) ≡ z
    invariant true e u n =
        let kept : content_by_name site (cells_with_heads site heads k begun) x [] ≡ content_by_name site begun x [] = heads_kept site heads k begun x [] n in
        let i : None ≡ Some (Index z) = sym (named_unset site names c x e) ∙ (sym kept ∙ g) in
        cc
    invariant false e u n = s.invariants x z (sym (invariants_hold site l.loop heads b.sequential k cells c r x (record { no_variable = n; not_private = e; unwritten = u }) []) ∙ g)

    by_written : (t : Bool) → has_name x (written_in (inside l)) ≡ t → (if t then None else if bytes_eq x l.head.var then Some (variable_form start (iter side) l.head) else known_of_further side x (further l)) ≡ Some f → value v f ≡ z
    by_written true e q = cc
    by_written false e q = by_heads v side l.head (further l) site cells begun k x f z heads b.counted b.apart s.counters (invariant (has_name x names) refl e) q g
