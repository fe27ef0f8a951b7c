-- Evaluations over cells with tangents and without tell the same, and give the same but for tangents.
use Rattle.std.specs.Prelude.{◌≡◌, ℕ, true, List, [], ◌∷◌, Option, Some, None, Result, Ok, Err, refl}
use Rattle.std.proofs.Common.{ap, subst, ◌∙◌}
use Rattle.meaning.specs.declared.value.Value.{Value}
use Rattle.meaning.specs.declared.value.Value.TheVariants.{Index, Ring}
use Rattle.meaning.specs.declared.value.Cause.{Cause}
use Rattle.meaning.specs.Logs.{Log, notes_in, Traced, at_line}
use Rattle.meaning.specs.Sites.{Cells, with_tangent}
use Rattle.meaning.specs.Adjoints.{cells_along}
use Rattle.meaning.proofs.Trios.{Closed, Outs, Tells, TrioCell, TrioCells}
use Rattle.first_stops.specs.Kept.{Kept, after_notes}
use Rattle.sweep_evaluation.specs.Machine.{Ran}
use Rattle.sweep_law.specs.Telling.{Scene, ForwardTape, Standing, standing, goes_on, Comes}

-- any tangents
pub Any : ℕ → ℕ → ℕ → Type 0
Any a b c = Unit {0}

any : (a b c : ℕ) → Any a b c
unfolding Any
any a b c = tt

pub any_closed : Closed Any
any_closed = record {
  of_zero = any _ _ _;
  of_add = λ a b c d e f p q. any _ _ _;
  of_sub = λ a b c d e f p q. any _ _ _;
  of_neg = λ a b c p. any _ _ _;
  of_left = λ v a b c p. any _ _ _;
  of_right = λ v a b c p. any _ _ _;
}

bare_cell : (v : Option Value) → TrioCell Any v (with_tangent 0 v) (with_tangent 0 v)
bare_cell None = tt
bare_cell (Some (Index z)) = (refl, refl)
bare_cell (Some (Ring d)) = record { second = refl; third = refl; tangents = any _ _ _ }

pub bare_trio : (c : Cells) → TrioCells Any c (cells_along [] c) (cells_along [] c)
bare_trio [] = tt
bare_trio (v ∷ c) = (bare_cell v, bare_trio c)

lined_same : {X : Type 0} (Q : X → X → X → Type 0) (line : ℕ) (l : Log) (r s t : Result X Cause) → Outs Q r s t → (at_line line (record { log = l; out = s })).log ≡ (at_line line (record { log = l; out = r })).log
lined_same Q line l (Ok x) (Ok y) (Ok z) h = refl
lined_same Q line l (Err x) (Err y) (Err z) h = rw h.0 refl
lined_same Q line l _ _ _ h = absurd h

found_same : {X A : Type 0} (Q : X → X → X → Type 0) (R P : X → A → Type 0) (a : A) (r s t : Result X Cause) → Outs Q r s t → ((x y z : X) → Q x y z → R y a → P x a)
    → (y : X) → s ≡ Ok y → R y a → (x : X) × ((r ≡ Ok x) × P x a)
found_same Q R P a (Ok x) (Ok w) (Ok z) h f y e p = let i : y ≡ w = cc in (x, (refl, f x w z h (subst (λ v. R v a) i p)))
found_same Q R P a (Err x) (Err w) (Err z) h f y e p = absurd (cc)
found_same Q R P a _ _ _ h f y e p = absurd h

-- what an evaluation comes to over cells without tangents it comes to over those with them
pub moved : {X A : Type 0} (Q : X → X → X → Type 0) (c : Scene) (tape : ForwardTape) (k : Kept) (t u v : Traced Cause X) (R P : X → A → Type 0) (r : Ran Standing A)
    → Tells Q t u v → ((x y z : X) → Q x y z → R y r.out → P x r.out) → Comes c tape k u R r → Comes c tape k t P r
moved Q c tape k t u v R P r h f d =
    let e : (at_line c.line u).log ≡ (at_line c.line t).log = ap (λ (l : Log). (at_line c.line (record { log = l; out = u.out })).log) h.second ∙ lined_same Q c.line t.log t.out u.out v.out h.out in
    record {
      state = d.state ∙ ap (λ (l : Log). standing c tape (after_notes c.judge c.limits k (notes_in c.iteration l))) e;
      cells = d.cells;
      value = λ g. let w = d.value g in found_same Q R P r.out t.out u.out v.out h.out f w.0 w.1.0 w.1.1;
    }
