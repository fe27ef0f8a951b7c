-- What the reverse part of a run asks, and what it leaves.
use Rattle.std.proofs.Common.{◌≡◌, ℕ, zero, suc, ◌+◌, ◌-◌, ◌%◌, ◌^◌, ◌<◌, ◌≤◌, Bool, true, false, List, ◌++◌, length, length-append, map, take, drop, refl, sym, ap, subst, ◌∙◌, arith}
use Rattle.std.proofs.lemmas.List.{length-map, length-take-le, length-drop}
use Rattle.fl_ast.specs.Readable.{are_readable_statements}
use Rattle.fl_ast.specs.declared.decl.Decl.{Decl}
use Rattle.fl_ast.specs.Tree.{Subroutine}
use Rattle.fl_types.specs.declared.choice.Chosen.{Chosen}
use Rattle.store_core.specs.declared.layout.Shape.{Shape}
use Rattle.store_core.specs.declared.values.Entry.{Entry}
use Rattle.store_core.specs.Filled.{place_words}
use Rattle.store_core.specs.Keys.{keys_of, laid_all, with_scalars, scalar}
use Rattle.store_core.proofs.Filling.{length_places}
use Rattle.store_core.proofs.Laying.{laid_grows}
use Rattle.meaning.specs.Sites.{Cells, word_of}
use Rattle.resolved.specs.SlotTables.{Names, names_of}
use Rattle.transposition.specs.Tapes.{Tape}
use Rattle.undo_steps.specs.UndoSteps.{UndoTrees}
use Rattle.undo_steps.specs.UndosStand.{AllUndoStand}
use Rattle.forward_run.proofs.Flat.{readable_flat}
use Rattle.reverse_opening.specs.Chosen.{chosen_world, IsUndone}
use Rattle.reverse_run.specs.Undoing.{are_flat, swept_back, swept_adds}
use Rattle.reverse_run.proofs.Flatness.{standing_flat}
use Rattle.one_thread.specs.Back.{further, IsUndoneTo}

grown : (es ss : List Shape) (n : ℕ) → length (keys_of es) ≡ n → n ≤ length (keys_of (laid_all es ss))
grown es ss zero e = omega arith
grown es ss (suc m) e =
    let below : m < length (keys_of es) = omega (arith, e) in
    let more : m < length (keys_of (laid_all es ss)) = laid_grows m es ss below in omega (arith, more)

-- a program has no fewer places than its layout
pub no_fewer : (p : Subroutine) (shapes : List Shape) (pushed active : List ℕ → Bool) (cs : List Chosen) (names : Names) (us : UndoTrees) (n : ℕ)
    → IsUndone p shapes pushed active cs names us → n ≡ length (keys_of shapes) → n ≤ length (keys_of names.0)
no_fewer p shapes pushed active cs names us n u e =
    let more : length (keys_of shapes) ≤ length (keys_of (with_scalars shapes p.decls)) = grown shapes (map (λ (d : Decl). scalar d.name) p.decls) (length (keys_of shapes)) refl in
    let F : Names → Type 0 = λ m. length (keys_of shapes) ≤ length (keys_of m.0) in
    let there : length (keys_of shapes) ≤ length (keys_of names.0) = subst F (sym u.named) more in
    subst (λ (k : ℕ). k ≤ length (keys_of names.0)) (sym e) there

pub undone_flat : (p : Subroutine) (shapes : List Shape) (pushed active : List ℕ → Bool) (cs : List Chosen) (names : Names) (us : UndoTrees) (n : ℕ)
    → IsUndone p shapes pushed active cs names us → are_readable_statements p.body ≡ true → n ≡ length (keys_of shapes) → are_flat n false us ≡ true
undone_flat p shapes pushed active cs names us n u r e =
    subst (λ (k : ℕ). are_flat k false us ≡ true) (sym e)
    (standing_flat names (chosen_world p shapes pushed active cs) false us p.body u.stands (readable_flat p.body r))

values_long : (n : ℕ) (cells : Cells) → n ≤ length cells → length (map word_of (take n cells)) ≡ n
values_long n cells h = length-map (take n cells) word_of ∙ length-take-le n cells h

-- the values and the seed have two cells for each place
pub doubled : (shapes : List Shape) (entries : List Entry) (cells : Cells) (values words : List ℕ) (n : ℕ) → n ≡ length (keys_of shapes) → length (keys_of shapes) ≤ length cells
    → values ≡ map word_of (take (length (keys_of shapes)) cells) → words ≡ place_words shapes entries → length (values ++ words) ≡ n + n
doubled shapes entries cells values words n e h v w =
    let a : length values ≡ length (keys_of shapes) = ap length v ∙ values_long (length (keys_of shapes)) cells h in
    let b : length words ≡ length (keys_of shapes) = ap length w ∙ length_places shapes entries in
    let c : length (values ++ words) ≡ length values + length words = length-append values words in
    omega (arith, a, b, c, e)

pub rest_long : (back adjoints : List ℕ) (n : ℕ) → length back ≡ n + n → adjoints ≡ drop n back → length adjoints ≡ n
rest_long back adjoints n e a = ap length a ∙ dropped n back n e
  where
    dropped : (k : ℕ) (xs : List ℕ) (m : ℕ) → length xs ≡ k + m → length (drop k xs) ≡ m
    dropped k xs m h = let d : length (drop k xs) ≡ length xs - k = length-drop k xs in omega (arith, d, h)

-- what is left after statements that undo a program's
pub undone_to : (p : Subroutine) (shapes : List Shape) (pushed active : List ℕ → Bool) (cs : List Chosen) (names : Names) (us : UndoTrees) (n : ℕ) (tape : Tape) (cells back adjoints : List ℕ) (adds : ℕ)
    → IsUndone p shapes pushed active cs names us → n ≡ length (keys_of shapes) → back ≡ swept_back names n us tape (length (keys_of names.0) - n) cells → adjoints ≡ drop n back
    → adds ≡ swept_adds names n us tape (length (keys_of names.0) - n) cells % 2 ^ 64 → IsUndoneTo p shapes pushed active cs tape cells adjoints adds
undone_to p shapes pushed active cs names us n tape cells back adjoints adds u e b a d =
    let F : Names → ℕ → List ℕ = λ m k. swept_back m k us tape (length (keys_of m.0) - k) cells in
    let G : Names → ℕ → ℕ = λ m k. swept_adds m k us tape (length (keys_of m.0) - k) cells % 2 ^ 64 in
    let all : Names = names_of shapes p.decls in
    record {
      us = us;
      stands = subst (λ (m : Names). AllUndoStand m (chosen_world p shapes pushed active cs) us p.body) u.named u.stands;
      adjoints_are = a ∙ (ap (drop n) (b ∙ ap (λ m. F m n) u.named) ∙ ap (λ k. drop k (F all k)) e);
      adds_are = d ∙ (ap (λ m. G m n) u.named ∙ ap (G all) e);
    }
