-- What each call on the table asks for.
use Rattle.std.proofs.Common.{◌≡◌, ◌≢◌, ℕ, suc, ◌+◌, ◌%◌, ◌^◌, ◌<◌, true, List, ◌∷◌, length, ◌⊎◌, inl, inr, ⊎_elim, refl, sym, ap, ◌∙◌, subst, arith, length-set}
use Rattle.std.specs.Prelude.{slice_index, slice_set}
use mathlib.Core.Option.{some}
use lib.ListN.{get_elem?}
use Rattle.atomic_table.specs.Table.{keeps, Allows}
use Rattle.atomic_table.proofs.Lists.{set_again}
use Rattle.operations.specs.declared.op.Op.TheVariants.{Load, Store, Bump, Add}
use Rattle.op_table.specs.declared.view.View.{View}
use Rattle.ring_core.specs.Ring.{ring_add}
use Rattle.op_table.specs.Rule.{view, lists, Work, cell_word, claim_word, IsKept}
use Rattle.atomic_table.specs.Table.{Me}
use Rattle.op_table.specs.Plays.{IsNext, cells_alone, view_after, IsLoad, IsMove, IsSwap}
use Rattle.op_table.proofs.Rule.{goes_on, word_alone, word_else}
use Rattle.op_table.proofs.Claims.{taken, refused, mine_by_parts}

module _ {S : Type 0} (d : Work) (slots id : ℕ) (me : Me S View) (k : ℕ) where
  pub loads : (p : ℕ) → IsNext d k me.0 (Load p) → Allows {S = S} (IsKept d) slots id me (suc p) (λ n. n) (IsLoad k (slice_index (cells_alone d k me.0) p) me)
  loads p due s h many at small = (
    view_after k me.0,
    keeps,
    tt,
    goes_on d s h id me.0 at k (Load p) due.rest due.listed due.first due.inside (cell_word s.words p) refl,
    (refl, word_alone d s h id me.0 at k (Load p) due.rest due.listed due.first due.inside refl),
  )

  stores_to : (p x : ℕ) → IsNext d k me.0 (Store p x) → Allows {S = S} (IsKept d) slots id me (suc p) (λ _. x) (λ _. IsMove k me)
  stores_to p x due s h many at small = (
    view_after k me.0,
    keeps,
    tt,
    goes_on d s h id me.0 at k (Store p x) due.rest due.listed due.first due.inside x refl,
    refl,
  )

  bumps : (p a x : ℕ) → IsNext d k me.0 (Bump p a) → x ≡ ring_add (slice_index (cells_alone d k me.0) p) a → Allows {S = S} (IsKept d) slots id me (suc p) (λ _. x) (λ _. IsMove k me)
  bumps p a x due is s h many at small = (
    view_after k me.0,
    keeps,
    tt,
    goes_on d s h id me.0 at k (Bump p a) due.rest due.listed due.first due.inside x
        (is ∙ ap (λ m. ring_add m a) (sym (word_alone d s h id me.0 at k (Bump p a) due.rest due.listed due.first due.inside refl))),
    refl,
  )

  adds_to : (p a : ℕ) → IsNext d k me.0 (Add p a) → Allows {S = S} (IsKept d) slots id me (suc p) (λ n. (n + a) % 2 ^ 64) (λ _. IsMove k me)
  adds_to p a due s h many at small = (
    view_after k me.0,
    keeps,
    tt,
    goes_on d s h id me.0 at k (Add p a) due.rest due.listed due.first due.inside ((cell_word s.words p + a) % 2 ^ 64) refl,
    refl,
  )

  pub draws : Allows {S = S} (IsKept d) slots id me 0 (λ n. (n + 1) % 2 ^ 64) (λ _ n. n ≡ me)
  draws s h many at small = let x = (slice_index s.words 0 + 1) % 2 ^ 64 in
      let claim_same : (j : ℕ) → claim_word d (slice_set s.words 0 x) j ≡ claim_word d s.words j = λ j. word_else s.words 0 (suc (length d.opening + j)) x (λ e. omega arith) in
      let drawn : IsKept {S = S} d record { words = slice_set s.words 0 x; homes = s.homes; views = s.views } = record {
        at = h.at;
        who = h.who;
        sized = length-set s.words 0 x ∙ h.sized;
        sound = h.sound;
        cells = λ p lt. word_else s.words 0 (suc p) x (λ e. omega arith) ∙ h.cells p lt;
        claims = λ j lt. ⊎_elim
            (λ (z : (claim_word d s.words j ≡ 0) × (h.at j ≡ 0)). inl (claim_same j ∙ z.0, z.1))
            (λ (z : (claim_word d s.words j ≡ 1) × ((u : View) × (get_elem? s.views (h.who j) ≡ some u) × (lists j u.held ≡ true))). inr (claim_same j ∙ z.0, z.1))
            (h.claims j lt);
        within = h.within;
        seated = λ j u e. let old = h.seated j u e in record {
          held = λ m lm. let t = old.held m lm in (t.0, t.1, t.2, claim_same m ∙ t.3);
          found = λ m lm. let t = old.found m lm in (t.0, claim_same m ∙ t.1);
          idle = old.idle;
        };
        parts = h.parts;
      } in
      (me.0, keeps, tt, subst (λ (vs : List View). IsKept {S = S} d record { words = slice_set s.words 0 x; homes = s.homes; views = vs }) (sym (set_again s.views id me.0 at)) drawn, refl)

  pub swaps : k < d.chunks → me.0.parts ≢ 0 → Allows {S = S} (IsKept d) slots id me (suc (length d.opening + k)) (λ _. 1) (IsSwap k d.parts me)
  swaps lt some_part s h many at small = ⊎_elim
      (λ (z : (claim_word d s.words k ≡ 0) × (h.at k ≡ 0)). (view ((k, 0) ∷ me.0.held) me.0.found me.0.parts, keeps, tt, taken d s h id me.0 at k lt z.0 z.1 some_part, inl (z.0, refl)))
      (λ (z : (claim_word d s.words k ≡ 1) × ((u : View) × (get_elem? s.views (h.who k) ≡ some u) × (lists k u.held ≡ true))).
      (view me.0.held (k ∷ me.0.found) me.0.parts, keeps, tt, refused d s h id me.0 at k lt z.0, inr (z.0, refl, λ all. mine_by_parts d s h id me.0 at k lt z.0 all)))
      (h.claims k lt)

  -- the same at a word's index, and at a number that is given
  pub loads_at : (i p x : ℕ) → i ≡ suc p → x ≡ slice_index (cells_alone d k me.0) p → IsNext d k me.0 (Load p) → Allows {S = S} (IsKept d) slots id me i (λ n. n) (IsLoad k x me)
  loads_at i p x e is due = subst (λ (m : ℕ). Allows {S = S} (IsKept d) slots id me m (λ n. n) (IsLoad k x me)) (sym e) (subst (λ (y : ℕ). Allows {S = S} (IsKept d) slots id me (suc p) (λ n. n) (IsLoad k y me)) (sym is) (loads p due))

  pub stores_at : (i p x : ℕ) → i ≡ suc p → (IsNext d k me.0 (Store p x) ⊎ ((a : ℕ) × IsNext d k me.0 (Bump p a) × (x ≡ ring_add (slice_index (cells_alone d k me.0) p) a))) → Allows {S = S} (IsKept d) slots id me i (λ _. x) (λ _. IsMove k me)
  stores_at i p x e due = subst (λ (m : ℕ). Allows {S = S} (IsKept d) slots id me m (λ _. x) (λ _. IsMove k me)) (sym e)
      (⊎_elim (λ (t : IsNext d k me.0 (Store p x)). stores_to p x t) (λ (t : (a : ℕ) × IsNext d k me.0 (Bump p a) × (x ≡ ring_add (slice_index (cells_alone d k me.0) p) a)). bumps p t.0 x t.1 t.2) due)

  pub adds_at : (i p a : ℕ) → i ≡ suc p → IsNext d k me.0 (Add p a) → Allows {S = S} (IsKept d) slots id me i (λ n. (n + a) % 2 ^ 64) (λ _. IsMove k me)
  adds_at i p a e due = subst (λ (m : ℕ). Allows {S = S} (IsKept d) slots id me m (λ n. (n + a) % 2 ^ 64) (λ _. IsMove k me)) (sym e) (adds_to p a due)

  pub swaps_at : (i all : ℕ) → i ≡ suc (length d.opening + k) → all ≡ d.parts → k < d.chunks → me.0.parts ≢ 0 → Allows {S = S} (IsKept d) slots id me i (λ _. 1) (IsSwap k all me)
  swaps_at i all e is lt some_part = subst (λ (m : ℕ). Allows {S = S} (IsKept d) slots id me m (λ _. 1) (IsSwap k all me)) (sym e) (subst (λ (y : ℕ). Allows {S = S} (IsKept d) slots id me (suc (length d.opening + k)) (λ _. 1) (IsSwap k y me)) (sym is) (swaps lt some_part))
