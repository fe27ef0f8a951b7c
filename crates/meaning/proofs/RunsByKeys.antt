-- Pieces of runs at two sites with the same keys and kinds.
use Rattle.std.specs.Prelude.{◌≡◌, ℕ, zero, suc, ℤ, pos, Bool, true, false, if◌then◌else◌, List, [], ◌∷◌, Option, Some, None, Result, Ok, Err, slice_set, refl}
use Rattle.std.proofs.Common.{ap, sym, ◌∙◌}
use Rattle.fl_ast.specs.declared.kind.Kind.TheVariants as kind
use Rattle.fl_ast.specs.Tree.{Expression, Designator}
use Rattle.fl_types.specs.declared.access.AccessKind.{AccessKind}
use Rattle.fl_types.specs.declared.access.AccessKind.TheVariants.{Write}
use Rattle.fl_types.specs.Increment.{Signed}
use Rattle.fl_types.specs.Accesses.{increment_kind}
use Rattle.store_core.specs.Keys.{same_key, first_at}
use Rattle.meaning.specs.declared.value.Dual.{Dual}
use Rattle.meaning.specs.declared.value.Value.{Value}
use Rattle.meaning.specs.declared.value.Value.TheVariants.{Index, Ring}
use Rattle.meaning.specs.declared.value.Cause.{Cause}
use Rattle.meaning.specs.declared.value.IterationCount.{IterationCount}
use Rattle.meaning.specs.Values.{as_dual, as_kind, whole_numbers}
use Rattle.meaning.specs.Logs.{single, pushes, right_side, Traced, after, inside, at_line, at_line_by}
use Rattle.meaning.specs.Sites.{Key, Cells, with_tangent, Site, in_turn, place_of, kind_of}
use Rattle.meaning.specs.Expressions.{content, value_of, values_of}
use Rattle.meaning.specs.Statements.{Run, with_log, store_at, after_push, put, plain_assignment, terms_of, incremented_dual, increment_cell, increment_place, increment, assignment_by, step_value, turns_of, value_at, set_at, turns, one_turn, choice, in_arm}
use Rattle.meaning.proofs.ByKeys.{Agree, then_agree, touching_out, value_agree, values_agree}

-- the same keys, the same width, and the same names of the ring kind
pub record Alike (s t : Site) : Type 0 where
  pub keys : s.keys ≡ t.keys
  pub width : s.width ≡ t.width
  pub ring : (x : List ℕ) → s.ring x ≡ t.ring x

pub turned_alike : (s t : Site) (var : List ℕ) → Alike s t → Alike (in_turn s var) (in_turn t var)
turned_alike s t var h = record { keys = h.keys; width = h.width; ring = h.ring }

pub same_place : (s t : Site) (x : List ℕ) (zs : List ℤ) → Alike s t → place_of s x zs ≡ place_of t x zs
same_place s t x zs h = ap (λ (ks : List Key). first_at (same_key (x, zs)) ks) h.keys

same_kind : (s t : Site) (x : List ℕ) → Alike s t → kind_of s x ≡ kind_of t x
same_kind s t x h = ap (λ b. if b then kind.Ring else kind.Index) (h.ring x)

saving_out : {A : Type 0} (s : Site) (x : List ℕ) (old : Option Value) (t : Traced Cause A) → (after_push s x old t).out ≡ t.out
saving_out s x old t = by_test (s.pushed x)
  where
    by_test : (b : Bool) → (if b then after (single (pushes (with_tangent 0 old))) t else t).out ≡ t.out
    by_test true = refl
    by_test false = refl

put_out : (s : Site) (c : Cells) (x : List ℕ) (v : Value) (p : ℕ) → (put s c x v (Some p)).out ≡ Ok (slice_set c p (Some (as_kind (kind_of s x) v)))
put_out s c x v p =
    let t = store_at c p (as_kind (kind_of s x) v) in
    touching_out s x p Write (after_push s x (content c p) t) ∙ saving_out s x (content c p) t

put_agree : (s t : Site) (c : Cells) (x : List ℕ) (v : Value) (o : Option ℕ) → Alike s t → Agree (put s c x v o) (put t c x v o)
put_agree s t c x v None h = refl
put_agree s t c x v (Some p) h = put_out s c x v p ∙ ap (λ k. Ok (slice_set c p (Some (as_kind k v)))) (same_kind s t x h) ∙ sym (put_out t c x v p)

plain_agree : (s t : Site) (c : Cells) (p : Designator) (e : Expression) → Alike s t → Agree (plain_assignment s c p e) (plain_assignment t c p e)
plain_agree s t c p e h =
    then_agree (inside (right_side p.name) (value_of e s c)) (inside (right_side p.name) (value_of e t c)) _ _ (value_agree s t c h.keys h.width e)
    (λ v. then_agree (values_of p.subscripts s c) (values_of p.subscripts t c) _ _ (values_agree s t c h.keys h.width p.subscripts)
    (λ vs. ap (λ o. (put s c p.name v o).out) (same_place s t p.name (whole_numbers vs) h) ∙ put_agree s t c p.name v (place_of t p.name (whole_numbers vs)) h))

terms_agree : (s t : Site) (c : Cells) (rs : List Signed) → Alike s t → Agree (terms_of rs s c) (terms_of rs t c)
terms_agree s t c [] h = refl
terms_agree s t c (r ∷ rs) h =
    then_agree (value_of r.1 s c) (value_of r.1 t c) _ _ (value_agree s t c h.keys h.width r.1)
    (λ v. then_agree (terms_of rs s c) (terms_of rs t c) _ _ (terms_agree s t c rs h) (λ ds. refl))

grow_cell_agree : (s t : Site) (c : Cells) (x : List ℕ) (k j : AccessKind) (ds : List (Bool × Dual)) (p : ℕ) (o : Option Value) → Agree (increment_cell s c x k ds p o) (increment_cell t c x j ds p o)
grow_cell_agree s t c x k j ds p None = refl
grow_cell_agree s t c x k j ds p (Some v) =
    let u : Traced Cause Cells = store_at c p (Ring (incremented_dual ds (as_dual v))) in
    touching_out s x p k u ∙ sym (touching_out t x p j u)

grow_agree : (s t : Site) (c : Cells) (x : List ℕ) (k j : AccessKind) (ds : List (Bool × Dual)) (o : Option ℕ) → Agree (increment_place s c x k ds o) (increment_place t c x j ds o)
grow_agree s t c x k j ds None = refl
grow_agree s t c x k j ds (Some p) = grow_cell_agree s t c x k j ds p (content c p)

increment_agree : (s t : Site) (c : Cells) (p : Designator) (rs : List Signed) (k j : AccessKind) → Alike s t → Agree (increment s c p rs k) (increment t c p rs j)
increment_agree s t c p rs k j h =
    then_agree (inside (right_side p.name) (terms_of rs s c)) (inside (right_side p.name) (terms_of rs t c)) _ _ (terms_agree s t c rs h)
    (λ ds. then_agree (values_of p.subscripts s c) (values_of p.subscripts t c) _ _ (values_agree s t c h.keys h.width p.subscripts)
    (λ vs. ap (λ o. (increment_place s c p.name k ds o).out) (same_place s t p.name (whole_numbers vs) h) ∙ grow_agree s t c p.name k j ds (place_of t p.name (whole_numbers vs))))

pub assigned_agree : (s t : Site) (c : Cells) (atomic : Bool) (p : Designator) (e : Expression) (o : Option (List Signed)) → Alike s t → Agree (assignment_by s c atomic p e o) (assignment_by t c atomic p e o)
assigned_agree s t c atomic p e None h = plain_agree s t c p e h
assigned_agree s t c atomic p e (Some rs) h = increment_agree s t c p rs (increment_kind atomic (s.pluses p.name)) (increment_kind atomic (t.pluses p.name)) h

pub line_agree : {A : Type 0} (line : ℕ) (t u : Traced Cause A) → Agree t u → Agree (at_line line t) (at_line line u)
line_agree {A} line t u e = ap (λ (r : Result A Cause). (at_line_by line t.log r).out) e ∙ by_out u.out
  where
    by_out : (r : Result A Cause) → (at_line_by line t.log r).out ≡ (at_line_by line u.log r).out
    by_out (Ok a) = refl
    by_out (Err c) = refl

step_agree : (s t : Site) (c : Cells) (o : Option Expression) → Alike s t → Agree (step_value o s c) (step_value o t c)
step_agree s t c None h = refl
step_agree s t c (Some e) h = value_agree s t c h.keys h.width e

pub turns_of_agree : (s t : Site) (c : Cells) (first last : Expression) (step : Option Expression) → Alike s t → Agree (turns_of first last step s c) (turns_of first last step t c)
turns_of_agree s t c first last step h =
    then_agree (value_of first s c) (value_of first t c) _ _ (value_agree s t c h.keys h.width first)
    (λ a. then_agree (value_of last s c) (value_of last t c) _ _ (value_agree s t c h.keys h.width last)
    (λ b. then_agree (step_value step s c) (step_value step t c) _ _ (step_agree s t c step h) (λ d. refl)))

pub turns_agree : (n : ℕ) (f g : ℕ → Run) → ((k : ℕ) (c : Cells) → Agree (f k c) (g k c)) → (c : Cells) → Agree (turns n f c) (turns n g c)
turns_agree zero f g h c = refl
turns_agree (suc n) f g h c = then_agree (turns n f c) (turns n g c) (f n) (g n) (turns_agree n f g h c) (h n)

pub one_turn_agree : (s t : Site) (var : List ℕ) (u : IterationCount) (f g : Site → Run) → ((c : Cells) → Agree (f (in_turn s var) c) (g (in_turn t var) c)) → Alike s t
    → (k : ℕ) (c : Cells) → Agree (one_turn s var u f k c) (one_turn t var u g k c)
one_turn_agree s t var u f g e h k c =
    ap (λ o. (f (in_turn s var) (set_at o (Some (Index (value_at u k))) c)).out) (same_place s t var [] h) ∙ e (set_at (place_of t var []) (Some (Index (value_at u k))) c)

pub chosen_agree : (b : Bool) (f g h k : Run) (c : Cells) → Agree (f c) (g c) → Agree (h c) (k c) → Agree (choice b f h c) (choice b g k c)
chosen_agree true f g h k c e d = e
chosen_agree false f g h k c e d = d

pub in_arm_agree : (m : ℕ) (f g : Run) (c : Cells) → Agree (f c) (g c) → Agree (in_arm m f c) (in_arm m g c)
in_arm_agree m f g c e = then_agree (f c) (g c) (with_log (single (pushes (Some (Index (pos m)))))) (with_log (single (pushes (Some (Index (pos m)))))) e (λ d. refl)
