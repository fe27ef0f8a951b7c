-- Statements one behind the other.
use Rattle.std.proofs.Common.{rules, ◌≡◌, ℕ, zero, suc, ◌+◌, ◌<◌, ◌≤◌, Bool, true, false, List, [], ◌∷◌, ◌++◌, length, drop, get_or, Result, Ok, Err, OnOk, refl, ap, sym, ◌∙◌, arith, add-one, drop-cons}
use Rattle.std.specs.Prelude.{◌==◌}
use Rattle.std.proofs.lemmas.Bool.Decides.{nat_tests}
use Rattle.fl_ast.specs.declared.decl.Decl.{Decl}
use Rattle.fl_ast.specs.declared.stmt.Stmt.{Stmt, the_lemmas as stmt_lemmas}
use Rattle.fl_ast.specs.declared.stmt.Stmt.TheVariants.{If}
use Rattle.fl_ast.specs.declared.stmt.Arm.{Arm}
use Rattle.fl_ast.specs.declared.adjoint.AStmt.{AStmt, the_lemmas as astmt_lemmas}
use Rattle.fl_ast.specs.declared.adjoint.AStmt.TheVariants as adjoint
use Rattle.fl_ast.specs.declared.adjoint.AArm.{AArm}
use Rattle.fl_ast.specs.Tree.{branch, cond_tree, stmt_tree, stmt_trees, arm_tree, arm_trees}
use Rattle.fl_ast.specs.AdjointTree.{adjoint_branch, astmt_tree, astmt_trees, aarm_tree, aarm_trees}
use Rattle.fl_printer.specs.Rows.{statement_rows, block_rows, arm_rows, else_rows, else_row, test_row, adjoint_rows, adjoint_block_rows, adjoint_arm_rows, adjoint_else_rows, decl_rows, decl_row}
use Rattle.fl_printer.specs.Layout.{rows_text}
use Rattle.fl_printer.proofs.LayoutLaws.{grown, finished, no_rows, two}

pub on_ok : {A E : Type 0} {P Q : Type 0} (r : Result A E) → (P → Q) → OnOk r P → OnOk r Q
on_ok (Ok x) f h = f h
on_ok (Err e) f h = tt

dropped : {A : Type 0} (xs : List A) (i : ℕ) → length xs ≤ i → drop i xs ≡ []
dropped [] zero h = refl
dropped [] (suc i) h = refl
dropped (x ∷ xs) zero h = absurd (omega arith)
dropped (x ∷ xs) (suc i) h = dropped xs i (omega (arith, h))

split : {A : Type 0} (xs : List A) (i : ℕ) (x : A) → i < length xs → x ≡ get_or xs i x → drop i xs ≡ x ∷ drop (i + 1) xs
split xs i x h e = rw add-one (drop-cons xs i x h) ∙ ap (λ y. y ∷ drop (i + 1) xs) (sym e)

-- ---- declarations

pub decl_step : (i : ℕ) (ds : List Decl) (x : Decl) (old new all : List ℕ) → i < length ds → x ≡ get_or ds i x →
    old ++ rows_text (decl_rows (drop i ds)) ≡ all → new ≡ old ++ rows_text (decl_row x ∷ []) → new ++ rows_text (decl_rows (drop (i + 1) ds)) ≡ all
decl_step i ds x old new all h e f g =
    grown old new all (decl_row x ∷ []) (decl_rows (drop (i + 1) ds)) g (ap (λ ds. old ++ rows_text (decl_rows ds)) (sym (split ds i x h e)) ∙ f)

pub decl_end : (i : ℕ) (ds : List Decl) (text all : List ℕ) → length ds ≤ i → text ++ rows_text (decl_rows (drop i ds)) ≡ all → text ≡ all
decl_end i ds text all h f = finished text all (decl_rows (drop i ds)) (ap decl_rows (dropped ds i h)) f

-- ---- statements of programs

pub block_step : (margin i : ℕ) (trees : List Stmt) (x : Stmt) (old new all : List ℕ) → i < length trees → x ≡ get_or trees i x →
    old ++ rows_text (block_rows margin (stmt_trees (drop i trees))) ≡ all → new ≡ old ++ rows_text (statement_rows margin (stmt_tree x)) →
    new ++ rows_text (block_rows margin (stmt_trees (drop (i + 1) trees))) ≡ all
block_step margin i trees x old new all h e f g =
    grown old new all (statement_rows margin (stmt_tree x)) (block_rows margin (stmt_trees (drop (i + 1) trees))) g
    (ap (λ ts. old ++ rows_text (block_rows margin (stmt_trees ts))) (sym (split trees i x h e)) ∙ f)

pub block_end : (margin i : ℕ) (trees : List Stmt) (text all : List ℕ) → length trees ≤ i → text ++ rows_text (block_rows margin (stmt_trees (drop i trees))) ≡ all → text ≡ all
block_end margin i trees text all h f = finished text all (block_rows margin (stmt_trees (drop i trees))) (ap (λ ts. block_rows margin (stmt_trees ts)) (dropped trees i h)) f

arm_is : (x : Arm) → arm_tree x ≡ (cond_tree x.test, stmt_trees x.body)
arm_is x = search (rules, stmt_lemmas)

pub arm_step : (margin i : ℕ) (later : Bool) (arms : List Arm) (x : Arm) (old new all : List ℕ) → i < length arms → x ≡ get_or arms i x →
    old ++ rows_text (arm_rows margin later (arm_trees (drop i arms))) ≡ all →
    new ≡ old ++ rows_text (test_row margin later (cond_tree x.test) ∷ block_rows (margin + 2) (stmt_trees x.body)) →
    new ++ rows_text (arm_rows margin true (arm_trees (drop (i + 1) arms))) ≡ all
arm_step margin i later arms x old new all h e f g =
    grown old new all (test_row margin later (cond_tree x.test) ∷ block_rows (margin + 2) (stmt_trees x.body)) (arm_rows margin true (arm_trees (drop (i + 1) arms))) g
    (ap (λ a. old ++ rows_text (test_row margin later a.0 ∷ (block_rows (margin + 2) a.1 ++ arm_rows margin true (arm_trees (drop (i + 1) arms))))) (sym (arm_is x))
    ∙ ap (λ as'. old ++ rows_text (arm_rows margin later (arm_trees as'))) (sym (split arms i x h e)) ∙ f)

pub arm_end : (margin i : ℕ) (later : Bool) (arms : List Arm) (text all : List ℕ) → length arms ≤ i → text ++ rows_text (arm_rows margin later (arm_trees (drop i arms))) ≡ all → text ≡ all
arm_end margin i later arms text all h f = finished text all (arm_rows margin later (arm_trees (drop i arms))) (ap (λ as'. arm_rows margin later (arm_trees as')) (dropped arms i h)) f

pub no_else : (margin : ℕ) (trees : List Stmt) (text : List ℕ) → (length trees == 0) ≡ true → text ≡ text ++ rows_text (else_rows margin (stmt_trees trees))
no_else margin [] text h = no_rows text
no_else margin (x ∷ xs) text h = absurd (grind (arith, nat_tests))

pub some_else : (margin : ℕ) (trees : List Stmt) (s t u : List ℕ) (n : ℕ) → (length trees == 0) ≡ false → n ≡ margin + 2 → t ≡ s ++ rows_text (else_row margin ∷ []) →
    u ≡ t ++ rows_text (block_rows n (stmt_trees trees)) → u ≡ s ++ rows_text (else_rows margin (stmt_trees trees))
some_else margin [] s t u n h e f g = absurd (let g : true ≡ false = h in cc)
some_else margin (x ∷ xs) s t u n h e f g =
    two s t u (else_row margin ∷ []) (block_rows (margin + 2) (stmt_trees (x ∷ xs))) f (g ∙ ap (λ n. t ++ rows_text (block_rows n (stmt_trees (x ∷ xs)))) e)

pub branch_tree : (t : Stmt) (line : ℕ) (arms as' : List Arm) (other os : List Stmt) → t ≡ If line arms other → as' ≡ arms → os ≡ other →
    stmt_tree t ≡ branch line (arm_trees as') (stmt_trees os)
branch_tree t line arms as' other os h f g = ap stmt_tree h ∙ (rw (f, g) (search (rules, stmt_lemmas)))

-- ---- statements of adjoints

pub ablock_step : (margin i : ℕ) (trees : List AStmt) (x : AStmt) (old new all : List ℕ) → i < length trees → x ≡ get_or trees i x →
    old ++ rows_text (adjoint_block_rows margin (astmt_trees (drop i trees))) ≡ all → new ≡ old ++ rows_text (adjoint_rows margin (astmt_tree x)) →
    new ++ rows_text (adjoint_block_rows margin (astmt_trees (drop (i + 1) trees))) ≡ all
ablock_step margin i trees x old new all h e f g =
    grown old new all (adjoint_rows margin (astmt_tree x)) (adjoint_block_rows margin (astmt_trees (drop (i + 1) trees))) g
    (ap (λ ts. old ++ rows_text (adjoint_block_rows margin (astmt_trees ts))) (sym (split trees i x h e)) ∙ f)

pub ablock_end : (margin i : ℕ) (trees : List AStmt) (text all : List ℕ) → length trees ≤ i → text ++ rows_text (adjoint_block_rows margin (astmt_trees (drop i trees))) ≡ all → text ≡ all
ablock_end margin i trees text all h f = finished text all (adjoint_block_rows margin (astmt_trees (drop i trees))) (ap (λ ts. adjoint_block_rows margin (astmt_trees ts)) (dropped trees i h)) f

aarm_is : (x : AArm) → aarm_tree x ≡ (cond_tree x.test, astmt_trees x.body)
aarm_is x = search (rules, astmt_lemmas)

pub aarm_step : (margin i : ℕ) (later : Bool) (arms : List AArm) (x : AArm) (old new all : List ℕ) → i < length arms → x ≡ get_or arms i x →
    old ++ rows_text (adjoint_arm_rows margin later (aarm_trees (drop i arms))) ≡ all →
    new ≡ old ++ rows_text (test_row margin later (cond_tree x.test) ∷ adjoint_block_rows (margin + 2) (astmt_trees x.body)) →
    new ++ rows_text (adjoint_arm_rows margin true (aarm_trees (drop (i + 1) arms))) ≡ all
aarm_step margin i later arms x old new all h e f g =
    grown old new all (test_row margin later (cond_tree x.test) ∷ adjoint_block_rows (margin + 2) (astmt_trees x.body)) (adjoint_arm_rows margin true (aarm_trees (drop (i + 1) arms))) g
    (ap (λ a. old ++ rows_text (test_row margin later a.0 ∷ (adjoint_block_rows (margin + 2) a.1 ++ adjoint_arm_rows margin true (aarm_trees (drop (i + 1) arms))))) (sym (aarm_is x))
    ∙ ap (λ as'. old ++ rows_text (adjoint_arm_rows margin later (aarm_trees as'))) (sym (split arms i x h e)) ∙ f)

pub aarm_end : (margin i : ℕ) (later : Bool) (arms : List AArm) (text all : List ℕ) → length arms ≤ i → text ++ rows_text (adjoint_arm_rows margin later (aarm_trees (drop i arms))) ≡ all → text ≡ all
aarm_end margin i later arms text all h f = finished text all (adjoint_arm_rows margin later (aarm_trees (drop i arms))) (ap (λ as'. adjoint_arm_rows margin later (aarm_trees as')) (dropped arms i h)) f

pub ano_else : (margin : ℕ) (trees : List AStmt) (text : List ℕ) → (length trees == 0) ≡ true → text ≡ text ++ rows_text (adjoint_else_rows margin (astmt_trees trees))
ano_else margin [] text h = no_rows text
ano_else margin (x ∷ xs) text h = absurd (grind (arith, nat_tests))

pub asome_else : (margin : ℕ) (trees : List AStmt) (s t u : List ℕ) (n : ℕ) → (length trees == 0) ≡ false → n ≡ margin + 2 → t ≡ s ++ rows_text (else_row margin ∷ []) →
    u ≡ t ++ rows_text (adjoint_block_rows n (astmt_trees trees)) → u ≡ s ++ rows_text (adjoint_else_rows margin (astmt_trees trees))
asome_else margin [] s t u n h e f g = absurd (let g : true ≡ false = h in cc)
asome_else margin (x ∷ xs) s t u n h e f g =
    two s t u (else_row margin ∷ []) (adjoint_block_rows (margin + 2) (astmt_trees (x ∷ xs))) f (g ∙ ap (λ n. t ++ rows_text (adjoint_block_rows n (astmt_trees (x ∷ xs)))) e)

pub abranch_tree : (t : AStmt) (line : ℕ) (arms as' : List AArm) (other os : List AStmt) → t ≡ adjoint.If line arms other → as' ≡ arms → os ≡ other →
    astmt_tree t ≡ adjoint_branch line (aarm_trees as') (astmt_trees os)
abranch_tree t line arms as' other os h f g = ap astmt_tree h ∙ (rw (f, g) (search (rules, astmt_lemmas)))
