-- The words at a program's end.
use Rattle.std.specs.Prelude.{◌≡◌, ℕ, Bool, List, [], ◌∷◌, map, take, length, Option, Some, None, Result, Ok, Err, refl}
use Rattle.std.proofs.Common.{ap, sym, ◌∙◌}
use Rattle.std.proofs.lemmas.List.{take-map}
use Rattle.fl_ast.specs.Tree.{Subroutine}
use Rattle.store_core.specs.declared.layout.Shape.{Shape}
use Rattle.store_core.specs.Keys.{keys_of}
use Rattle.meaning.specs.declared.value.Value.{Value}
use Rattle.meaning.specs.declared.value.Value.TheVariants.{Index, Ring}
use Rattle.meaning.specs.declared.value.TrapAt.{TrapAt}
use Rattle.meaning.specs.Sites.{Cells, with_tangent, word_of}
use Rattle.meaning.specs.Adjoints.{cells_along}
use Rattle.meaning.specs.Laws.{values_out}
use Rattle.meaning.specs.Programs.{no_pushes, entry_site, entry_cells, meaning, words_after, final_words}
use Rattle.meaning.proofs.Everywhere.{runs_everywhere}

word_kept : (c : Option Value) → word_of (with_tangent 0 c) ≡ word_of c
word_kept None = refl
word_kept (Some (Index z)) = refl
word_kept (Some (Ring d)) = refl

words_kept : (s : Cells) → map word_of (cells_along [] s) ≡ map word_of s
words_kept [] = refl
words_kept (c ∷ s) = rw (word_kept c, words_kept s) refl

words_by_values : (n : ℕ) (r : Result Cells TrapAt) → words_after n (values_out r) ≡ words_after n r
words_by_values n (Ok s) = ap (take n) (words_kept s)
words_by_values n (Err t) = refl

-- what is pushed doesn't matter
unpushed : (p : Subroutine) (shapes : List Shape) (pushed : List ℕ → Bool) (words : List ℕ) → (meaning p shapes pushed words []).out ≡ (meaning p shapes no_pushes words []).out
unpushed p shapes pushed words = runs_everywhere (entry_site p shapes pushed) (entry_site p shapes no_pushes) refl refl (λ x. refl) p.body (λ h. refl) (cells_along [] (entry_cells p shapes words))

pub lasting : (p : Subroutine) (shapes : List Shape) (pushed : List ℕ → Bool) (words : List ℕ) (cells : Cells) (n : ℕ) (found : List ℕ) → values_out (meaning p shapes pushed words []).out ≡ Ok cells
    → n ≡ length (keys_of shapes) → found ≡ map word_of (take n cells) → found ≡ final_words p shapes words
lasting p shapes pushed words cells n found h m f =
    f ∙ sym (take-map word_of n cells) ∙ ap (words_after n) (sym h) ∙ words_by_values n (meaning p shapes pushed words []).out ∙ ap (words_after n) (unpushed p shapes pushed words)
    ∙ ap (λ (k : ℕ). words_after k (meaning p shapes no_pushes words []).out) m
