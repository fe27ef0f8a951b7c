-- A swap of a claim word keeps the rule.
use Rattle.std.proofs.Common.{◌≡◌, ◌≢◌, ℕ, zero, suc, ◌+◌, ◌<◌, ◌≤◌, ◌==◌, ◌||◌, Bool, true, false, List, [], ◌∷◌, length, set, ◌⊎◌, inl, inr, ⊎_elim, refl, sym, ap, ◌∙◌, subst, arith, true≢false, eq-eqb, ne_eqb, eqb-true, if◌then◌else◌, length-set}
use Rattle.std.specs.Prelude.{slice_index, slice_set}
use Rattle.std.proofs.lemmas.List.{get_or-set_same}
use mathlib.Core.Option.{some, some-injective, some-ne-none}
use mathlib.Core.Logic.{dite}
use native.Mathlib.Decide.{ℕ_discrete}
use lib.ListN.{get_elem?}
use Rattle.atomic_table.specs.Table.{State, keeps, stepped}
use Rattle.atomic_table.proofs.Lists.{set_here, set_else}
use Rattle.op_table.specs.declared.view.View.{View}
use Rattle.operations.specs.Order.{joint_cells}
use Rattle.op_table.specs.Rule.{view, lists, position_of, is_in, parts_of, Work, cell_word, claim_word, IsSeated, IsClaimed, IsKept}
use Rattle.op_table.proofs.Rule.{parts_set, get_length, views_set, word_else}

pub or_here : (a b : Bool) → a ≡ true → (a || b) ≡ true
or_here a b e = grind arith

pub or_there : (a b : Bool) → b ≡ true → (a || b) ≡ true
or_there a b e = grind arith

pub or_either : (a b : Bool) → (a || b) ≡ true → (a ≡ true) ⊎ ((a ≡ false) × (b ≡ true))
or_either true b e = inl refl
or_either false b e = inr (refl, e)

-- chunk k has another holder
abbrev pub moved : (ℕ → ℕ) → ℕ → ℕ → ℕ → ℕ
moved who k id j = if j == k then id else who j

moved_here : (who : ℕ → ℕ) (k id : ℕ) → moved who k id k ≡ id
moved_here who k id = rw (eq-eqb k k refl) refl

moved_else : (who : ℕ → ℕ) (k id j : ℕ) → j ≢ k → moved who k id j ≡ who j
moved_else who k id j ne = rw (ne_eqb j k ne) refl

one_part : (views : List View) (j : ℕ) (u : View) → get_elem? views j ≡ some u → u.parts ≤ parts_of views
one_part [] j u b = absurd (some-ne-none u (sym b))
one_part (x ∷ xs) zero u b = let s : x.parts ≡ u.parts = ap (λ (y : View). y.parts) (some-injective x u b) in omega arith
one_part (x ∷ xs) (suc j) u b = let t = one_part xs j u b in omega arith

-- two views' parts are among all parts
two_parts : (views : List View) (i j : ℕ) (v u : View) → get_elem? views i ≡ some v → get_elem? views j ≡ some u → i ≢ j → v.parts + u.parts ≤ parts_of views
two_parts [] i j v u a b ne = absurd (some-ne-none v (sym a))
two_parts (x ∷ xs) zero zero v u a b ne = absurd (ne refl)
two_parts (x ∷ xs) zero (suc j) v u a b ne = let s : x.parts ≡ v.parts = ap (λ (y : View). y.parts) (some-injective x v a) in let t = one_part xs j u b in omega arith
two_parts (x ∷ xs) (suc i) zero v u a b ne = let s : x.parts ≡ u.parts = ap (λ (y : View). y.parts) (some-injective x u b) in let t = one_part xs i v a in omega arith
two_parts (x ∷ xs) (suc i) (suc j) v u a b ne = let t = two_parts xs i j v u a b (λ e. ne (ap suc e)) in omega arith

module _ {S : Type 0} (d : Work) (s : State S View) (h : IsKept d s) (id : ℕ) (v : View) (me : get_elem? s.views id ≡ some v) (k : ℕ) (lt : k < d.chunks) where
  abbrev words' : List ℕ
  words' = slice_set s.words (suc (length d.opening + k)) 1

  claim_else : (j : ℕ) → j ≢ k → claim_word d words' j ≡ claim_word d s.words j
  claim_else j ne = word_else s.words (suc (length d.opening + k)) (suc (length d.opening + j)) 1 (λ e. ne (omega arith))

  claim_here : claim_word d words' k ≡ 1
  claim_here = get_or-set_same s.words (suc (length d.opening + k)) 1 0 (let z = h.sized in omega arith)

  claim_up : (j : ℕ) → claim_word d s.words j ≡ 1 → claim_word d words' j ≡ 1
  claim_up j one = dite (ℕ_discrete j k)
      (λ e. subst (λ (m : ℕ). claim_word d words' m ≡ 1) (sym e) claim_here)
      (λ ne. claim_else j ne ∙ one)

  cells' : (p : ℕ) → p < length d.opening → cell_word words' p ≡ slice_index (joint_cells d.ops h.at d.chunks d.opening) p
  cells' p l = word_else s.words (suc (length d.opening + k)) (suc p) 1 (λ e. omega arith) ∙ h.cells p l

  abbrev takes_it : View
  takes_it = view ((k, 0) ∷ v.held) v.found v.parts

  abbrev finds_it : View
  finds_it = view v.held (k ∷ v.found) v.parts

  pub taken : claim_word d s.words k ≡ 0 → h.at k ≡ 0 → v.parts ≢ 0 → IsKept d (stepped s (suc (length d.opening + k)) 1 id [] takes_it keeps)
  taken free start some_part = record {
    at = h.at;
    who = moved h.who k id;
    sized = length-set s.words (suc (length d.opening + k)) 1 ∙ h.sized;
    sound = h.sound;
    cells = cells';
    claims = λ j l. dite (ℕ_discrete j k)
        (λ e. subst (λ (m : ℕ). IsClaimed d words' (set s.views id takes_it) h.at (moved h.who k id) m) (sym e)
        (inr (claim_here, (takes_it, subst (λ (m : ℕ). get_elem? (set s.views id takes_it) m ≡ some takes_it) (sym (moved_here h.who k id)) (set_here s.views id takes_it (get_length s.views id v me)), or_here (k == k) (lists k v.held) (eq-eqb k k refl)))))
        (λ ne. ⊎_elim
        (λ (z : (claim_word d s.words j ≡ 0) × (h.at j ≡ 0)). inl (claim_else j ne ∙ z.0, z.1))
        (λ (z : (claim_word d s.words j ≡ 1) × ((u : View) × (get_elem? s.views (h.who j) ≡ some u) × (lists j u.held ≡ true))).
        inr (
          claim_else j ne ∙ z.0,
          dite (ℕ_discrete (h.who j) id)
              (λ e. (
                takes_it,
                subst (λ (m : ℕ). get_elem? (set s.views id takes_it) m ≡ some takes_it) (sym (moved_else h.who k id j ne ∙ e)) (set_here s.views id takes_it (get_length s.views id v me)),
                or_there (j == k) (lists j v.held) (subst (λ (u : View). lists j u.held ≡ true) (some-injective z.1.0 v (sym z.1.1 ∙ (ap (get_elem? s.views) e ∙ me))) z.1.2),
              ))
              (λ apart. (z.1.0, ap (get_elem? (set s.views id takes_it)) (moved_else h.who k id j ne) ∙ (set_else s.views id (h.who j) takes_it apart ∙ z.1.1), z.1.2)),
        ))
        (h.claims j l));
    within = h.within;
    seated = views_set (λ j u. IsSeated d words' h.at (moved h.who k id) j u) s.views id takes_it
        (λ j u apart e. let old = h.seated j u e in record {
          held = λ m lm. let t = old.held m lm in
              let ne : m ≢ k = λ e. (let one = subst (λ (x : ℕ). claim_word d s.words x ≡ 1) e t.3 in omega arith) in
              (t.0, moved_else h.who k id m ne ∙ t.1, t.2, claim_up m t.3);
          found = λ m lm. let t = old.found m lm in (t.0, claim_up m t.1);
          idle = old.idle;
        })
        (let old = h.seated id v me in record {
          held = λ m lm. ⊎_elim
              (λ (e : (m == k) ≡ true). subst (λ (x : ℕ). (x < d.chunks) × (moved h.who k id x ≡ id) × (h.at x ≡ position_of x ((k, 0) ∷ v.held)) × (claim_word d words' x ≡ 1)) (sym (eqb-true m k e))
              (lt, moved_here h.who k id, start ∙ rw (eq-eqb k k refl) refl, claim_here))
              (λ (e : ((m == k) ≡ false) × (lists m v.held ≡ true)). let t = old.held m e.1 in
              let ne : m ≢ k = λ q. true≢false (sym (eq-eqb m k q) ∙ e.0) in
              (t.0, moved_else h.who k id m ne ∙ t.1, t.2 ∙ rw e.0 refl, claim_up m t.3))
              (or_either (m == k) (lists m v.held) lm);
          found = λ m lm. let t = old.found m lm in (t.0, claim_up m t.1);
          idle = λ none. absurd (some_part none);
        });
    parts = let t = parts_set s.views id v takes_it me in let p = h.parts in omega arith;
  }

  pub refused : claim_word d s.words k ≡ 1 → IsKept d (stepped s (suc (length d.opening + k)) 1 id [] finds_it keeps)
  refused one = record {
    at = h.at;
    who = h.who;
    sized = length-set s.words (suc (length d.opening + k)) 1 ∙ h.sized;
    sound = h.sound;
    cells = cells';
    claims = λ j l. ⊎_elim
        (λ (z : (claim_word d s.words j ≡ 0) × (h.at j ≡ 0)). inl (claim_else j (λ e. (let zero' = subst (λ (m : ℕ). claim_word d s.words m ≡ 0) e z.0 in omega arith)) ∙ z.0, z.1))
        (λ (z : (claim_word d s.words j ≡ 1) × ((u : View) × (get_elem? s.views (h.who j) ≡ some u) × (lists j u.held ≡ true))).
        inr (
          claim_up j z.0,
          dite (ℕ_discrete (h.who j) id)
              (λ e. (
                finds_it,
                subst (λ (m : ℕ). get_elem? (set s.views id finds_it) m ≡ some finds_it) (sym e) (set_here s.views id finds_it (get_length s.views id v me)),
                subst (λ (u : View). lists j u.held ≡ true) (some-injective z.1.0 v (sym z.1.1 ∙ (ap (get_elem? s.views) e ∙ me))) z.1.2,
              ))
              (λ apart. (z.1.0, set_else s.views id (h.who j) finds_it apart ∙ z.1.1, z.1.2)),
        ))
        (h.claims j l);
    within = h.within;
    seated = views_set (λ j u. IsSeated d words' h.at h.who j u) s.views id finds_it
        (λ j u apart e. let old = h.seated j u e in record {
          held = λ m lm. let t = old.held m lm in (t.0, t.1, t.2, claim_up m t.3);
          found = λ m lm. let t = old.found m lm in (t.0, claim_up m t.1);
          idle = old.idle;
        })
        (let old = h.seated id v me in record {
          held = λ m lm. let t = old.held m lm in (t.0, t.1, t.2, claim_up m t.3);
          found = λ m lm. ⊎_elim
              (λ (e : (m == k) ≡ true). subst (λ (x : ℕ). (x < d.chunks) × (claim_word d words' x ≡ 1)) (sym (eqb-true m k e)) (lt, claim_here))
              (λ (e : ((m == k) ≡ false) × (is_in m v.found ≡ true)). let t = old.found m e.1 in (t.0, claim_up m t.1))
              (or_either (m == k) (is_in m v.found) lm);
          idle = old.idle;
        });
    parts = let t = parts_set s.views id v finds_it me in let p = h.parts in omega arith;
  }

  -- where the claim word is 1 and the view has all parts, the view lists the chunk
  pub mine_by_parts : claim_word d s.words k ≡ 1 → v.parts ≡ d.parts → lists k v.held ≡ true
  mine_by_parts one all = ⊎_elim
      (λ (z : (claim_word d s.words k ≡ 0) × (h.at k ≡ 0)). absurd (let y = z.0 in omega arith))
      (λ (z : (claim_word d s.words k ≡ 1) × ((u : View) × (get_elem? s.views (h.who k) ≡ some u) × (lists k u.held ≡ true))).
      dite (ℕ_discrete (h.who k) id)
      (λ e. subst (λ (u : View). lists k u.held ≡ true) (some-injective z.1.0 v (sym z.1.1 ∙ (ap (get_elem? s.views) e ∙ me))) z.1.2)
      (λ ne. let t = two_parts s.views (h.who k) id z.1.0 v z.1.1 me ne in let p = h.parts in
      let none : z.1.0.parts ≡ 0 = omega arith in
      let empty = (h.seated (h.who k) z.1.0 z.1.1).idle none in
      absurd (true≢false (sym (sym (ap (lists k) empty) ∙ z.1.2)))))
      (h.claims k lt)
