-- A table between two steps shows a state that the machine reaches.
use Rattle.std.proofs.Common.{◌≡◌, ◌≢◌, ℕ, ◌==◌, Bool, true, false, if◌then◌else◌, ⊎_elim, refl, sym, ap, ◌∙◌, arith, true≢false, Option, Some, None, eq-eqb, eqb-true}
use mathlib.Core.Option.{some}
use lib.ListN.{get_elem?}
use Rattle.atomic_table.specs.Table.{State}
use Rattle.operations.specs.Order.{joint_cells}
use Rattle.operations.proofs.Reached.{reached}
use Rattle.op_table.specs.declared.view.View.{View}
use Rattle.op_table.specs.Rule.{Work, lists, claim_word, IsKept}
use Rattle.op_table.specs.Shown.{IsShown}
use Rattle.operations.proofs.OneCell.{length_joint}

-- a chunk's holder, by its claim word
abbrev holder_by : ℕ → ℕ → Option ℕ
holder_by word id = if word == 1 then Some id else None

held_by : (word id : ℕ) → word ≡ 1 → holder_by word id ≡ Some id
held_by word id e = rw (eq-eqb word 1 e) refl

free_of : (word id : ℕ) (b : Bool) → (word == 1) ≡ b → holder_by word id ≡ None → word ≢ 1
free_of word id true e h = absurd (some_is_none id (sym (rw (eq-eqb word 1 (eqb-true word 1 e)) refl) ∙ h))
  where
    some_is_none : (x : ℕ) → Some x ≡ None → ⊥
    some_is_none x e = cc
free_of word id false e h = λ one. true≢false (sym (eq-eqb word 1 one) ∙ e)

holder_is : (word id who : ℕ) (b : Bool) → (word == 1) ≡ b → holder_by word who ≡ Some id → (word ≡ 1) × (who ≡ id)
holder_is word id who true e h = (eqb-true word 1 e, some_same who id (sym (held_by word who (eqb-true word 1 e)) ∙ h))
  where
    some_same : (x y : ℕ) → Some x ≡ Some y → x ≡ y
    some_same x y e = cc
holder_is word id who false e h = absurd (none_is_some id (sym (none_by e) ∙ h))
  where
    none_is_some : (x : ℕ) → None ≡ Some x → ⊥
    none_is_some x e = cc

    none_by : (word == 1) ≡ false → holder_by word who ≡ None
    none_by f = rw f refl

pub shown : {S : Type 0} (d : Work) (s : State S View) → IsKept d s → IsShown d s
shown d s h = record {
  cells = joint_cells d.ops h.at d.chunks d.opening;
  holder = λ k. holder_by (claim_word d s.words k) (h.who k);
  at = h.at;
  reached = reached d.ops d.chunks (λ k. holder_by (claim_word d s.words k) (h.who k)) h.at d.opening h.sound.follows h.within
      (λ k lt free. ⊎_elim
      (λ (z : (claim_word d s.words k ≡ 0) × (h.at k ≡ 0)). z.1)
      (λ (z : (claim_word d s.words k ≡ 1) × ((v : View) × (get_elem? s.views (h.who k) ≡ some v) × (lists k v.held ≡ true))). absurd (free_of (claim_word d s.words k) (h.who k) (claim_word d s.words k == 1) refl free z.0))
      (h.claims k lt));
  count = length_joint d.ops h.at d.chunks d.opening;
  shown = λ p lt. sym (h.cells p lt);
  listed = λ id v k e l. let t = (h.seated id v e).held k l in
      (held_by (claim_word d s.words k) (h.who k) t.3 ∙ ap (λ x. Some x) t.1, t.2);
  held = λ id k lt e. let t = holder_is (claim_word d s.words k) id (h.who k) (claim_word d s.words k == 1) refl e in
      ⊎_elim
      (λ (z : (claim_word d s.words k ≡ 0) × (h.at k ≡ 0)). absurd (let a = t.0 in let b = z.0 in omega arith))
      (λ (z : (claim_word d s.words k ≡ 1) × ((v : View) × (get_elem? s.views (h.who k) ≡ some v) × (lists k v.held ≡ true))). (z.1.0, ap (get_elem? s.views) (sym t.1) ∙ z.1.1, z.1.2))
      (h.claims k lt);
}
