-- The steps keep the rule.
use Rattle.std.proofs.Common.{◌≡◌, ◌≢◌, ℕ, zero, suc, ◌+◌, ◌<◌, ◌≤◌, ◌==◌, ◌||◌, Bool, true, false, List, [], ◌∷◌, length, take, drop, set, if◌then◌else◌, inl, inr, ⊎_elim, refl, sym, ap, ◌∙◌, subst, arith, true≢false, eqb-true, length-set}
use Rattle.std.specs.Prelude.{slice_index, slice_set}
use Rattle.std.proofs.lemmas.List.{get_or-set_same, get_or-set_other}
use mathlib.Core.Option.{some, some-injective, some-ne-none}
use mathlib.Core.Logic.{dite}
use native.Mathlib.Decide.{ℕ_discrete}
use lib.ListN.{get_elem?}
use Rattle.atomic_table.specs.Table.{State, keeps, stepped}
use Rattle.atomic_table.proofs.Lists.{at_set, set_here, set_else}
use Rattle.operations.specs.declared.op.Op.{Op}
use Rattle.operations.specs.Ops.{cell_of, acts, acts_all}
use Rattle.operations.specs.Cell.{word_by}
use Rattle.operations.specs.Order.{joint_cells, positions_after, is_add}
use Rattle.operations.proofs.OpLaws.{read_other}
use Rattle.operations.proofs.Orders.{joint_step, joint_alone, went_here, went_else}
use Rattle.operations.proofs.OneCell.{own_cell, length_joint}
use Rattle.operations.proofs.Dues.{length_acts_all}
use Rattle.op_table.specs.declared.view.View.{View}
use Rattle.op_table.specs.Rule.{view, lists, position_of, advance, parts_of, Work, cell_word, claim_word, IsSeated, IsClaimed, IsKept}

pub within_next : (os : List Op) (i : ℕ) (o : Op) (rest : List Op) → drop i os ≡ o ∷ rest → suc i ≤ length os
within_next [] zero o rest e = absurd (let f : [] ≡ o ∷ rest = e in cc)
within_next [] (suc i) o rest e = absurd (let f : [] ≡ o ∷ rest = e in cc)
within_next (x ∷ os) zero o rest e = omega arith
within_next (x ∷ os) (suc i) o rest e = let h = within_next os i o rest e in omega arith

pub parts_set : (views : List View) (id : ℕ) (v w : View) → get_elem? views id ≡ some v → parts_of (set views id w) + v.parts ≡ parts_of views + w.parts
parts_set [] id v w e = absurd (some-ne-none v (sym e))
parts_set (u ∷ us) zero v w e = let s : u.parts ≡ v.parts = ap (λ (y : View). y.parts) (some-injective u v e) in omega arith
parts_set (u ∷ us) (suc id) v w e = let h = parts_set us id v w e in omega arith

pub get_length : (views : List View) (id : ℕ) (v : View) → get_elem? views id ≡ some v → id < length views
get_length [] id v e = absurd (some-ne-none v (sym e))
get_length (u ∷ us) zero v e = omega arith
get_length (u ∷ us) (suc id) v e = let h = get_length us id v e in omega arith

-- a fact of each view, where one of them changes
pub views_set : (P : ℕ → View → Type 0) (views : List View) (id : ℕ) (w : View) → ((j : ℕ) (u : View) → j ≢ id → get_elem? views j ≡ some u → P j u) → P id w → (j : ℕ) (u : View) → get_elem? (set views id w) j ≡ some u → P j u
views_set P views id w others mine j u e =
    ⊎_elim
    (λ (x : (j ≡ id) × (w ≡ u)). subst (λ (y : ℕ × View). P y.0 y.1) (λ i. (sym x.0 i, x.1 i)) mine)
    (λ (x : (j ≢ id) × (get_elem? views j ≡ some u)). others j u x.0 x.1)
    (at_set views id j w u e)

or_second : (a b : Bool) → a ≡ false → (a || b) ≡ true → b ≡ true
or_second a b f h = grind arith

pub lists_advance : (j k : ℕ) (es : List (ℕ × ℕ)) → lists j (advance k es) ≡ lists j es
lists_advance j k [] = refl
lists_advance j k (e ∷ es) = ap (λ (b : Bool). (j == e.0) || b) (lists_advance j k es)

advance_first : (k x m n : ℕ) (b : Bool) → (k == x) ≡ b → (b ≡ false → m ≡ suc n) → (y : ℕ) → (if k == x then (if k == x then suc y else y) else m) ≡ suc (if k == x then y else n)
advance_first k x m n true t h y = rw t refl
advance_first k x m n false t h y = rw t (h refl)

pub position_advance_here : (k : ℕ) (es : List (ℕ × ℕ)) → lists k es ≡ true → position_of k (advance k es) ≡ suc (position_of k es)
position_advance_here k [] h = absurd (true≢false (sym h))
position_advance_here k (e ∷ es) h = advance_first k e.0 (position_of k (advance k es)) (position_of k es) (k == e.0) refl
    (λ f. position_advance_here k es (or_second (k == e.0) (lists k es) f h)) e.1

else_first : (j k x m n y : ℕ) (b c : Bool) → (j == x) ≡ b → (k == x) ≡ c → j ≢ k → m ≡ n → (if j == x then (if k == x then suc y else y) else m) ≡ (if j == x then y else n)
else_first j k x m n y true true tj tk ne e = absurd (ne (eqb-true j x tj ∙ sym (eqb-true k x tk)))
else_first j k x m n y true false tj tk ne e = rw tj (rw tk refl)
else_first j k x m n y false c tj tk ne e = rw tj e

pub position_advance_else : (j k : ℕ) (es : List (ℕ × ℕ)) → j ≢ k → position_of j (advance k es) ≡ position_of j es
position_advance_else j k [] ne = refl
position_advance_else j k (e ∷ es) ne = else_first j k e.0 (position_of j (advance k es)) (position_of j es) e.1 (j == e.0) (k == e.0) refl refl ne (position_advance_else j k es ne)

-- a word of a table that another word's change leaves cells_alone
pub word_else : (ws : List ℕ) (i j x : ℕ) → j ≢ i → slice_index (slice_set ws i x) j ≡ slice_index ws j
word_else ws i j x ne = get_or-set_other ws i j x 0 ne

module _ {S : Type 0} (d : Work) (s : State S View) (h : IsKept d s) (id : ℕ) (v : View) (me : get_elem? s.views id ≡ some v) where
  -- the position that the rule has is the view's
  pub at_here : (k : ℕ) → lists k v.held ≡ true → h.at k ≡ position_of k v.held
  at_here k l = ((h.seated id v me).held k l).2

  module _ (k : ℕ) (o : Op) (rest : List Op) (l : lists k v.held ≡ true) (due : drop (position_of k v.held) (d.ops k) ≡ o ∷ rest) (inside : cell_of o < length d.opening) (new : ℕ) (is : new ≡ word_by o (cell_word s.words (cell_of o))) where
    abbrev after_me : View
    after_me = view (advance k v.held) v.found v.parts

    abbrev words' : List ℕ
    words' = slice_set s.words (suc (cell_of o)) new

    abbrev views' : List View
    views' = set s.views id after_me

    abbrev at' : ℕ → ℕ
    at' = positions_after k h.at

    claim_same : (j : ℕ) → claim_word d words' j ≡ claim_word d s.words j
    claim_same j = word_else s.words (suc (cell_of o)) (suc (length d.opening + j)) new (λ e. omega arith)

    here : (k < d.chunks) × (h.who k ≡ id) × (h.at k ≡ position_of k v.held) × (claim_word d s.words k ≡ 1)
    here = (h.seated id v me).held k l

    abbrev joint : List ℕ
    joint = joint_cells d.ops h.at d.chunks d.opening

    due_at : drop (h.at k) (d.ops k) ≡ o ∷ rest
    due_at = ap (λ i. drop i (d.ops k)) here.2 ∙ due

    goes : joint_cells d.ops at' d.chunks d.opening ≡ acts o joint
    goes = joint_step d.ops d.chunks d.chunks h.at k o rest d.opening h.sound.disciplined (omega arith) here.0 due_at

    cells' : (p : ℕ) → p < length d.opening → cell_word words' p ≡ slice_index (joint_cells d.ops at' d.chunks d.opening) p
    cells' p lt = dite (ℕ_discrete p (cell_of o))
        (λ e. let long : suc (cell_of o) < length s.words = (let z = h.sized in omega arith) in
        let there : cell_of o < length joint = (let z = length_joint d.ops h.at d.chunks d.opening in omega arith) in
        ap (cell_word words') e
        ∙ (get_or-set_same s.words (suc (cell_of o)) new 0 long
        ∙ (is
        ∙ (ap (word_by o) (h.cells (cell_of o) inside)
        ∙ (sym (own_cell o joint there)
        ∙ (ap (slice_index (acts o joint)) (sym e) ∙ ap (λ l. slice_index l p) (sym goes)))))))
        (λ ne. word_else s.words (suc (cell_of o)) (suc p) new (λ e. ne (omega arith)) ∙ (h.cells p lt ∙ (sym (read_other o p joint ne) ∙ ap (λ l. slice_index l p) (sym goes))))

    claims' : (j : ℕ) → j < d.chunks → IsClaimed d words' views' at' h.who j
    claims' j lt = ⊎_elim
        (λ (z : (claim_word d s.words j ≡ 0) × (h.at j ≡ 0)).
        let ne : j ≢ k = λ e. (let one = here.3 in let zero' = subst (λ (m : ℕ). claim_word d s.words m ≡ 0) e z.0 in omega arith) in
        inl (claim_same j ∙ z.0, went_else k h.at j ne ∙ z.1))
        (λ (z : (claim_word d s.words j ≡ 1) × ((u : View) × (get_elem? s.views (h.who j) ≡ some u) × (lists j u.held ≡ true))).
        inr (
          claim_same j ∙ z.0,
          dite (ℕ_discrete (h.who j) id)
              (λ e. (
                after_me,
                subst (λ (m : ℕ). get_elem? views' m ≡ some after_me) (sym e) (set_here s.views id after_me (get_length s.views id v me)),
                lists_advance j k v.held ∙ subst (λ (u : View). lists j u.held ≡ true) (some-injective z.1.0 v (sym z.1.1 ∙ (ap (get_elem? s.views) e ∙ me))) z.1.2,
              ))
              (λ ne. (z.1.0, set_else s.views id (h.who j) after_me ne ∙ z.1.1, z.1.2)),
        ))
        (h.claims j lt)

    within' : (j : ℕ) → j < d.chunks → at' j ≤ length (d.ops j)
    within' j lt = dite (ℕ_discrete j k)
        (λ e. subst (λ (m : ℕ). at' m ≤ length (d.ops m)) (sym e) (let a = went_here k h.at in let b = within_next (d.ops k) (h.at k) o rest due_at in omega arith))
        (λ ne. let a = went_else k h.at j ne in let b = h.within j lt in omega arith)

    seated' : (j : ℕ) (u : View) → get_elem? views' j ≡ some u → IsSeated d words' at' h.who j u
    seated' = views_set (λ j u. IsSeated d words' at' h.who j u) s.views id after_me
        (λ j u ne e. let old = h.seated j u e in record {
          held = λ m lm. let t = old.held m lm in
              let apart : m ≢ k = λ e. ne (sym t.1 ∙ ap h.who e ∙ here.1) in
              (t.0, t.1, went_else k h.at m apart ∙ t.2, claim_same m ∙ t.3);
          found = λ m lm. let t = old.found m lm in (t.0, claim_same m ∙ t.1);
          idle = old.idle;
        })
        (let old = h.seated id v me in record {
          held = λ m lm. let t = old.held m (sym (lists_advance m k v.held) ∙ lm) in (
            t.0,
            t.1,
            dite (ℕ_discrete m k)
                (λ e. subst (λ (x : ℕ). at' x ≡ position_of x (advance k v.held)) (sym e) (went_here k h.at ∙ (ap suc here.2 ∙ sym (position_advance_here k v.held l))))
                (λ ne. went_else k h.at m ne ∙ (t.2 ∙ sym (position_advance_else m k v.held ne))),
            claim_same m ∙ t.3,
          );
          found = λ m lm. let t = old.found m lm in (t.0, claim_same m ∙ t.1);
          idle = λ none. ap (advance k) (old.idle none);
        })

    pub goes_on : IsKept d (stepped s (suc (cell_of o)) new id [] after_me keeps)
    goes_on = record {
      at = at';
      who = h.who;
      sized = length-set s.words (suc (cell_of o)) new ∙ h.sized;
      sound = h.sound;
      cells = cells';
      claims = claims';
      within = within';
      seated = seated';
      parts = let t = parts_set s.views id v after_me me in let p = h.parts in omega arith;
    }

  -- the chunk's own operations say what the cell has that it loads, stores or bumps next
  pub word_alone : (k : ℕ) (o : Op) (rest : List Op) → lists k v.held ≡ true → drop (position_of k v.held) (d.ops k) ≡ o ∷ rest → cell_of o < length d.opening → is_add o ≡ false
      → cell_word s.words (cell_of o) ≡ slice_index (acts_all (take (position_of k v.held) (d.ops k)) d.opening) (cell_of o)
  word_alone k o rest l due inside not_add = let here = (h.seated id v me).held k l in
      let due_at : drop (h.at k) (d.ops k) ≡ o ∷ rest = ap (λ i. drop i (d.ops k)) here.2 ∙ due in
      h.cells (cell_of o) inside
      ∙ (joint_alone d.ops d.chunks d.chunks h.at k o rest d.opening h.sound.disciplined (omega arith) here.0 due_at not_add
      ∙ ap (λ i. slice_index (acts_all (take i (d.ops k)) d.opening) (cell_of o)) here.2)
