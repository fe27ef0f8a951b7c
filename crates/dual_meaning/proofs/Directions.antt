-- What a run in a direction has in common with the one in no direction.
use Rattle.std.specs.Prelude.{◌≡◌, ℕ, List, [], ◌∷◌, map, take, length, Option, Some, None, Result, Ok, Err, IfOk, refl}
use Rattle.std.proofs.Common.{ap, sym, ◌∙◌, subst}
use Rattle.std.proofs.lemmas.List.{take-map}
use Rattle.fl_ast.specs.declared.decl.Decl.{Decl}
use Rattle.fl_ast.specs.declared.stmt.Program.{Program}
use Rattle.fl_ast.specs.declared.stmt.Stmt.{Stmt}
use Rattle.fl_ast.specs.Tree.{Subroutine, stmt_trees, program_tree}
use Rattle.store_core.specs.declared.layout.Shape.{Shape}
use Rattle.store_core.specs.Keys.{keys_of, with_scalars}
use Rattle.meaning.specs.declared.value.Value.{Value}
use Rattle.meaning.specs.declared.value.Value.TheVariants.{Index, Ring}
use Rattle.meaning.specs.declared.value.TrapAt.{TrapAt}
use Rattle.meaning.specs.Logs.{Traced}
use Rattle.meaning.specs.Sites.{Cells, with_tangent, word_of, opening_site}
use Rattle.meaning.specs.Statements.{run_all}
use Rattle.meaning.specs.Adjoints.{cells_along, tangent_of}
use Rattle.meaning.specs.Programs.{cells_of, no_pushes, entry_site, entry_cells, meaning, words_after, tangents_after, final_words, final_tangents}
use Rattle.meaning.specs.Laws.{values_out}
use Rattle.meaning.proofs.LawProofs.{unseen}
use Rattle.dual_meaning.specs.declared.along.Tangents.{Tangents}
use Rattle.dual_meaning.specs.Runs.{Ends}
use Rattle.dual_meaning.specs.Tangents.{IsTangent}

twice : (t : ℕ) (c : Option Value) → with_tangent 0 (with_tangent t c) ≡ with_tangent 0 c
twice t None = refl
twice t (Some (Index z)) = refl
twice t (Some (Ring d)) = refl

along_again : (ts : List ℕ) (s : Cells) → cells_along [] (cells_along ts s) ≡ cells_along [] s
along_again [] [] = refl
along_again (t ∷ ts) [] = refl
along_again [] (c ∷ s) = rw (twice 0 c, along_again [] s) refl
along_again (t ∷ ts) (c ∷ s) = rw (twice t c, along_again ts s) refl

word_kept : (c : Option Value) → word_of (with_tangent 0 c) ≡ word_of c
word_kept None = refl
word_kept (Some (Index z)) = refl
word_kept (Some (Ring d)) = refl

words_kept : (s : Cells) → map word_of (cells_along [] s) ≡ map word_of s
words_kept [] = refl
words_kept (c ∷ s) = rw (word_kept c, words_kept s) refl

words_by_values : (n : ℕ) (r : Result Cells TrapAt) → words_after n (values_out r) ≡ words_after n r
words_by_values n (Ok s) = ap (take n) (words_kept s)
words_by_values n (Err t) = refl

-- the words at the end don't depend on the direction
same_words : (p : Subroutine) (es : List Shape) (ws ts : List ℕ) (n : ℕ) → words_after n (meaning p es no_pushes ws ts).out ≡ words_after n (meaning p es no_pushes ws []).out
same_words p es ws ts n =
    let s : Cells = entry_cells p es ws in
    let u = unseen p.body (entry_site p es no_pushes) (cells_along ts s) (cells_along [] s) (along_again ts s ∙ sym (along_again [] s)) in
    sym (words_by_values n (meaning p es no_pushes ws ts).out) ∙ (ap (words_after n) u.1 ∙ words_by_values n (meaning p es no_pushes ws []).out)

pub values_found : (p : Subroutine) (es : List Shape) (ws ts : List ℕ) (end : Cells) (found : List ℕ) → (meaning p es no_pushes ws ts).out ≡ Ok end → found ≡ map word_of (take (length (keys_of es)) end) → found ≡ final_words p es ws
values_found p es ws ts end found e f =
    f ∙ (sym (take-map word_of (length (keys_of es)) end) ∙ (ap (words_after (length (keys_of es))) (sym e) ∙ same_words p es ws ts (length (keys_of es))))

pub tangents_found : (p : Subroutine) (es : List Shape) (ws ts : List ℕ) (end : Cells) (found : List ℕ) → (meaning p es no_pushes ws ts).out ≡ Ok end → found ≡ map tangent_of (take (length (keys_of es)) end) → found ≡ final_tangents p es ws ts
tangents_found p es ws ts end found e f =
    f ∙ (sym (take-map tangent_of (length (keys_of es)) end) ∙ ap (tangents_after (length (keys_of es))) (sym e))

-- a run from the cells of the entry is the meaning
pub same_run : (p : Program) (decls : List Decl) (body : List Stmt) (args : List (List ℕ)) (es : List Shape) (ws ts : List ℕ) (cells : Cells) → decls ≡ p.decls → body ≡ p.body → args ≡ p.args
    → cells ≡ cells_along ts (cells_of (opening_site decls es no_pushes) args (keys_of (with_scalars es decls)) ws)
    → run_all (stmt_trees body) (opening_site decls es no_pushes) cells ≡ meaning (program_tree p) es no_pushes ws ts
same_run p decls body args es ws ts cells d b a c =
    ap (λ (x : List Stmt). run_all (stmt_trees x) (opening_site decls es no_pushes) cells) b
    ∙ (ap (run_all (stmt_trees p.body) (opening_site decls es no_pushes)) c
    ∙ (ap (λ (x : List (List ℕ)). run_all (stmt_trees p.body) (opening_site decls es no_pushes) (cells_along ts (cells_of (opening_site decls es no_pushes) x (keys_of (with_scalars es decls)) ws))) a
    ∙ ap (λ (x : List Decl). run_all (stmt_trees p.body) (opening_site x es no_pushes) (cells_along ts (cells_of (opening_site x es no_pushes) p.args (keys_of (with_scalars es x)) ws))) d))

pub if_ok : {A E : Type 0} (P Q : A → Type 0) (r : Result A E) → ((x : A) → P x → Q x) → IfOk r P → IfOk r Q
if_ok P Q (Ok x) f h = f x h
if_ok P Q (Err e) f h = tt

pub found_well : (p q : Program) (es : List Shape) (words direction ws ts : List ℕ) (end cells : Cells) (found : Tangents) (n before after : ℕ) → q ≡ p → ws ≡ words → ts ≡ direction → cells ≡ end → n ≡ length (keys_of es)
    → found.values.items ≡ map word_of (take n cells) → found.tangents.items ≡ map tangent_of (take n cells) → Ends (λ (e : Cells). e) (meaning (program_tree q) es no_pushes ws ts) (Ok end) before after
    → IsTangent (program_tree p) es words direction (Ok found) before after
found_well p q es words direction ws ts end cells found n before after same w t c k v d h =
    let m : meaning (program_tree q) es no_pushes ws ts ≡ meaning (program_tree p) es no_pushes words direction =
    ap (λ (x : Program). meaning (program_tree x) es no_pushes ws ts) same
    ∙ (ap (λ (x : List ℕ). meaning (program_tree p) es no_pushes x ts) w ∙ ap (meaning (program_tree p) es no_pushes words) t) in
    let x = subst (λ (r : Traced TrapAt Cells). Ends (λ (e : Cells). e) r (Ok end) before after) m h in
    let first : take n cells ≡ take (length (keys_of es)) end = ap (λ (i : ℕ). take i cells) k ∙ ap (take (length (keys_of es))) c in (
      values_found (program_tree p) es words direction end found.values.items x.0 (v ∙ ap (map word_of) first),
      tangents_found (program_tree p) es words direction end found.tangents.items x.0 (d ∙ ap (map tangent_of) first),
      x.1,
      x.2,
    )
