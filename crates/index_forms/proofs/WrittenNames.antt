-- Names that lists of statements write.
use Rattle.std.proofs.Common.{◌≡◌, ℕ, Bool, suc, ◌<◌, ◌≤◌, List, [], ◌∷◌, ◌++◌, drop, length, get_or, refl, sym, ap, ◌∙◌, subst}
use Rattle.std.proofs.lemmas.List.{drop_all}
use Rattle.std.proofs.Math.Seq.{drop-cons}
use Rattle.fl_ast.specs.declared.stmt.Stmt as program_stmt
use Rattle.fl_ast.specs.declared.stmt.Arm as program_arm
use Rattle.fl_ast.specs.Tree.{stmt_tree, stmt_trees, arm_tree, arm_trees}
use Rattle.index_forms.specs.Loops.{names_by, names_in, names_in_arms}

abbrev N : Type 0
N = List (List ℕ)

assoc : (a b c : N) → (a ++ b) ++ c ≡ a ++ (b ++ c)
assoc [] b c = refl
assoc (x ∷ a) b c = ap (λ (l : N). x ∷ l) (assoc a b c)

none : (a : N) → a ++ [] ≡ a
none [] = refl
none (x ∷ a) = ap (λ (l : N). x ∷ l) (none a)

pub two_lists : (a b c : N) (n m : N) → n ≡ a ++ b → m ≡ n ++ c → m ≡ a ++ (b ++ c)
two_lists a b c n m e d = d ∙ ap (λ (l : N). l ++ c) e ∙ assoc a b c

pub and_list : (a : N) (x : List ℕ) (c n m : N) → n ≡ a ++ x ∷ [] → m ≡ n ++ c → m ≡ a ++ (x ∷ c)
and_list a x c n m e d = two_lists a (x ∷ []) c n m e d

-- the names so far, and those of the rest, are all
pub stmts_more : (targets : Bool) (ss : List program_stmt.Stmt) (i : ℕ) (s : program_stmt.Stmt) (a b all : N) → i < length ss → get_or ss i s ≡ s → b ≡ a ++ names_by targets (stmt_tree s) →
    a ++ names_in targets (stmt_trees (drop i ss)) ≡ all → b ++ names_in targets (stmt_trees (drop (suc i) ss)) ≡ all
stmts_more targets ss i s a b all h g e d =
    let f : drop i ss ≡ s ∷ drop (suc i) ss = drop-cons ss i s h ∙ ap (λ (z : program_stmt.Stmt). z ∷ drop (suc i) ss) g in
    ap (λ (l : N). l ++ names_in targets (stmt_trees (drop (suc i) ss))) e ∙ assoc a (names_by targets (stmt_tree s)) (names_in targets (stmt_trees (drop (suc i) ss)))
    ∙ ap (λ (l : List program_stmt.Stmt). a ++ names_in targets (stmt_trees l)) (sym f) ∙ d

pub stmts_done : (targets : Bool) (ss : List program_stmt.Stmt) (i : ℕ) (a all : N) → length ss ≤ i → a ++ names_in targets (stmt_trees (drop i ss)) ≡ all → a ≡ all
stmts_done targets ss i a all h d = sym (none a) ∙ subst (λ (l : List program_stmt.Stmt). a ++ names_in targets (stmt_trees l) ≡ all) (drop_all i ss h) d

pub arms_more : (targets : Bool) (ss : List program_arm.Arm) (i : ℕ) (s : program_arm.Arm) (a b all : N) → i < length ss → get_or ss i s ≡ s → b ≡ a ++ names_in targets (arm_tree s).1 →
    a ++ names_in_arms targets (arm_trees (drop i ss)) ≡ all → b ++ names_in_arms targets (arm_trees (drop (suc i) ss)) ≡ all
arms_more targets ss i s a b all h g e d =
    let f : drop i ss ≡ s ∷ drop (suc i) ss = drop-cons ss i s h ∙ ap (λ (z : program_arm.Arm). z ∷ drop (suc i) ss) g in
    ap (λ (l : N). l ++ names_in_arms targets (arm_trees (drop (suc i) ss))) e ∙ assoc a (names_in targets (arm_tree s).1) (names_in_arms targets (arm_trees (drop (suc i) ss)))
    ∙ ap (λ (l : List program_arm.Arm). a ++ names_in_arms targets (arm_trees l)) (sym f) ∙ d

pub arms_done : (targets : Bool) (ss : List program_arm.Arm) (i : ℕ) (a all : N) → length ss ≤ i → a ++ names_in_arms targets (arm_trees (drop i ss)) ≡ all → a ≡ all
arms_done targets ss i a all h d = sym (none a) ∙ subst (λ (l : List program_arm.Arm). a ++ names_in_arms targets (arm_trees l) ≡ all) (drop_all i ss h) d
