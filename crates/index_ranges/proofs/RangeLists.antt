-- Lists of ranges.
use Rattle.std.proofs.Common.{◌≡◌, ℕ, zero, suc, ◌-◌, ◌%◌, ◌<◌, ◌≤◌, true, false, ℤ, pos, negsuc, ◌-ℤ◌, int_lt, int_le, unsigned_abs, Option, Some, None, List, [], ◌∷◌, ◌++◌, drop, length, get_or, refl, sym, ap, ◌∙◌, subst, arith}
use Rattle.std.proofs.lemmas.List.{drop_all}
use Rattle.std.proofs.Math.Seq.{drop-cons}
use Rattle.fl_ast.specs.declared.stmt.Stmt as program_stmt
use Rattle.fl_ast.specs.declared.stmt.Arm as program_arm
use Rattle.fl_ast.specs.Tree.{stmt_tree, stmt_trees, arm_tree, arm_trees}
use Rattle.index_ranges.specs.Ranges.{KnownRange, range_of, ranges_by, ranges_in, ranges_in_arms}

at : {A : Type 0} (xs : List A) (i : ℕ) (x : A) → i < length xs → get_or xs i x ≡ x → drop i xs ≡ x ∷ drop (suc i) xs
at xs i x h g = drop-cons xs i x h ∙ ap (λ z. z ∷ drop (suc i) xs) g

none : {A : Type 0} (a : List A) → a ++ [] ≡ a
none [] = refl
none (y ∷ a) = ap (λ l. y ∷ l) (none a)

abbrev R : Type 0
R = List KnownRange

assoc : (a b c : R) → (a ++ b) ++ c ≡ a ++ (b ++ c)
assoc [] b c = refl
assoc (x ∷ a) b c = ap (λ (l : R). x ∷ l) (assoc a b c)

pub two_lists : (a b c : R) (n m : R) → n ≡ a ++ b → m ≡ n ++ c → m ≡ a ++ (b ++ c)
two_lists a b c n m e d = d ∙ ap (λ (l : R). l ++ c) e ∙ assoc a b c

pub stmts_more : (ss : List program_stmt.Stmt) (i : ℕ) (s : program_stmt.Stmt) (a b all : R) → i < length ss → get_or ss i s ≡ s → b ≡ a ++ ranges_by (stmt_tree s) →
    a ++ ranges_in (stmt_trees (drop i ss)) ≡ all → b ++ ranges_in (stmt_trees (drop (suc i) ss)) ≡ all
stmts_more ss i s a b all h g e d =
    ap (λ (l : R). l ++ ranges_in (stmt_trees (drop (suc i) ss))) e ∙ assoc a (ranges_by (stmt_tree s)) (ranges_in (stmt_trees (drop (suc i) ss)))
    ∙ ap (λ (l : List program_stmt.Stmt). a ++ ranges_in (stmt_trees l)) (sym (at ss i s h g)) ∙ d

pub stmts_done : (ss : List program_stmt.Stmt) (i : ℕ) (a all : R) → length ss ≤ i → a ++ ranges_in (stmt_trees (drop i ss)) ≡ all → a ≡ all
stmts_done ss i a all h d = sym (none a) ∙ subst (λ (l : List program_stmt.Stmt). a ++ ranges_in (stmt_trees l) ≡ all) (drop_all i ss h) d

pub arms_more : (ss : List program_arm.Arm) (i : ℕ) (s : program_arm.Arm) (a b all : R) → i < length ss → get_or ss i s ≡ s → b ≡ a ++ ranges_in (arm_tree s).1 →
    a ++ ranges_in_arms (arm_trees (drop i ss)) ≡ all → b ++ ranges_in_arms (arm_trees (drop (suc i) ss)) ≡ all
arms_more ss i s a b all h g e d =
    ap (λ (l : R). l ++ ranges_in_arms (arm_trees (drop (suc i) ss))) e ∙ assoc a (ranges_in (arm_tree s).1) (ranges_in_arms (arm_trees (drop (suc i) ss)))
    ∙ ap (λ (l : List program_arm.Arm). a ++ ranges_in_arms (arm_trees l)) (sym (at ss i s h g)) ∙ d

pub arms_done : (ss : List program_arm.Arm) (i : ℕ) (a all : R) → length ss ≤ i → a ++ ranges_in_arms (arm_trees (drop i ss)) ≡ all → a ≡ all
arms_done ss i a all h d = sym (none a) ∙ subst (λ (l : List program_arm.Arm). a ++ ranges_in_arms (arm_trees l) ≡ all) (drop_all i ss h) d

-- ---- one loop

pub no_turn : (n : ℕ) (a b c : ℤ) → int_lt b a ≡ true → None ≡ range_of n a b c
no_turn n a b c h = rw h refl

pub no_step : (n : ℕ) (a b c : ℤ) → int_lt b a ≡ false → int_le c (pos 0) ≡ true → None ≡ range_of n a b c
no_step n a b c h g = rw (h, g) refl

pub turning : (n : ℕ) (a b c l : ℤ) (w : ℕ) → int_lt b a ≡ false → int_le c (pos 0) ≡ false → l ≡ a → w ≡ unsigned_abs (b -ℤ a) - unsigned_abs (b -ℤ a) % unsigned_abs c →
    Some (record { number = n; least = l; width = w }) ≡ range_of n a b c
turning n a b c l w h g e d = rw (h, g) (ap (λ (x : ℤ). (let r : KnownRange = record { number = n; least = x; width = w } in Some r)) e ∙ ap (λ (x : ℕ). (let r : KnownRange = record { number = n; least = a; width = x } in Some r)) d)

pub positive : (c : ℤ) → int_le c (pos 0) ≡ false → 0 < unsigned_abs c
positive (pos zero) h = cc
positive (pos (suc n)) h = omega arith
positive (negsuc n) h = omega arith
