-- Walks over lists of statements and arms.
use Rattle.std.proofs.Common.{◌≡◌, ℕ, suc, ◌+◌, ◌<◌, ◌≤◌, List, [], ◌∷◌, drop, length, get_or, refl, sym, ap, ◌∙◌, subst, arith}
use Rattle.std.proofs.lemmas.List.{drop_all}
use Rattle.std.proofs.Math.Seq.{drop-cons}
use Rattle.fl_ast.specs.declared.stmt.Stmt as program_stmt
use Rattle.fl_ast.specs.declared.stmt.Arm as program_arm
use Rattle.fl_ast.specs.Tree.{stmt_tree, stmt_trees, arm_tree, arm_trees}
use Rattle.fl_types.specs.Accesses.{statement_count, statements_count, arms_count, condition_reads}
use Rattle.index_forms.specs.Form.{Forms}
use Rattle.index_forms.specs.Formed.{Known}
use Rattle.index_forms.specs.Loops.{written_in}
use Rattle.index_forms.specs.Walk.{Setting, Rest, known_after, without, with_group, with_statement, with_statements, with_arms}

-- what was walked over, and what the rest gives, is all
pub record StatementsFront (c : Setting) (ss : List program_stmt.Stmt) (whole : List Forms) (last m : ℕ) (k : Known) (fs : List Forms) (i : ℕ) : Type 0 where
  pub within : i ≤ length ss
  pub forms : with_statements c m k (stmt_trees (drop i ss)) fs ≡ whole
  pub number : m + statements_count (stmt_trees (drop i ss)) ≡ last

pub statements_begun : (c : Setting) (ss : List program_stmt.Stmt) (m : ℕ) (k : Known) (fs : List Forms) →
    StatementsFront c ss (with_statements c m k (stmt_trees ss) fs) (m + statements_count (stmt_trees ss)) m k fs 0
statements_begun c ss m k fs = record { within = omega arith; forms = refl; number = refl }

pub statements_more : (c : Setting) (ss : List program_stmt.Stmt) (whole : List Forms) (last m n : ℕ) (k h : Known) (fs gs : List Forms) (i : ℕ) (s : program_stmt.Stmt) → i < length ss → get_or ss i s ≡ s →
    n ≡ m + statement_count (stmt_tree s) → gs ≡ with_statement c m k (stmt_tree s) fs → h ≡ known_after c.side m (stmt_tree s) k →
    StatementsFront c ss whole last m k fs i → StatementsFront c ss whole last n h gs (suc i)
statements_more c ss whole last m n k h fs gs i s l g en eg eh w =
    let d : drop i ss ≡ s ∷ drop (suc i) ss = drop-cons ss i s l ∙ ap (λ (z : program_stmt.Stmt). z ∷ drop (suc i) ss) g in
    let f : with_statements c m k (stmt_trees (s ∷ drop (suc i) ss)) fs ≡ whole = subst (λ (t : List program_stmt.Stmt). with_statements c m k (stmt_trees t) fs ≡ whole) d w.forms in
    let q : m + statements_count (stmt_trees (s ∷ drop (suc i) ss)) ≡ last = subst (λ (t : List program_stmt.Stmt). m + statements_count (stmt_trees t) ≡ last) d w.number in
    record {
      within = omega arith;
      forms = ap (λ (j : ℕ). with_statements c j h (stmt_trees (drop (suc i) ss)) gs) en
          ∙ ap (λ (x : Known). with_statements c (m + statement_count (stmt_tree s)) x (stmt_trees (drop (suc i) ss)) gs) eh
          ∙ ap (with_statements c (m + statement_count (stmt_tree s)) (known_after c.side m (stmt_tree s) k) (stmt_trees (drop (suc i) ss))) eg ∙ f;
      number = omega (arith, en, q);
    }

pub statements_done : (c : Setting) (ss : List program_stmt.Stmt) (whole : List Forms) (last m : ℕ) (k : Known) (fs : List Forms) (i : ℕ) → length ss ≤ i → StatementsFront c ss whole last m k fs i → (fs ≡ whole) × (m ≡ last)
statements_done c ss whole last m k fs i l w =
    let d : drop i ss ≡ [] = drop_all i ss l in
    let q : m + statements_count (stmt_trees []) ≡ last = subst (λ (t : List program_stmt.Stmt). m + statements_count (stmt_trees t) ≡ last) d w.number in
    (subst (λ (t : List program_stmt.Stmt). with_statements c m k (stmt_trees t) fs ≡ whole) d w.forms, omega (arith, q))

pub record ArmsFront (c : Setting) (as' : List program_arm.Arm) (n : ℕ) (k0 : Known) (fs0 : List Forms) (m : ℕ) (k : Known) (fs : List Forms) (i : ℕ) : Type 0 where
  pub within : i ≤ length as'
  pub forms : (other : Rest) → with_arms c m k (arm_trees (drop i as')) other fs ≡ with_arms c n k0 (arm_trees as') other fs0
  pub number : m + arms_count (arm_trees (drop i as')) ≡ n + arms_count (arm_trees as')

pub arms_begun : (c : Setting) (as' : List program_arm.Arm) (n : ℕ) (k : Known) (fs : List Forms) → ArmsFront c as' n k fs n k fs 0
arms_begun c as' n k fs = record { within = omega arith; forms = λ other. refl; number = refl }

pub arms_more : (c : Setting) (as' : List program_arm.Arm) (o : ℕ) (k0 : Known) (fs0 : List Forms) (m n : ℕ) (k h : Known) (fs gs is : List Forms) (i : ℕ) (a : program_arm.Arm) → i < length as' → get_or as' i a ≡ a →
    gs ≡ with_group c k (condition_reads c.scope 0 [] (arm_tree a).0) fs → is ≡ with_statements c m k (arm_tree a).1 gs → n ≡ m + statements_count (arm_tree a).1 → h ≡ without (written_in (arm_tree a).1) k →
    ArmsFront c as' o k0 fs0 m k fs i → ArmsFront c as' o k0 fs0 n h is (suc i)
arms_more c as' o k0 fs0 m n k h fs gs is i a l g eg ei en eh w =
    let d : drop i as' ≡ a ∷ drop (suc i) as' = drop-cons as' i a l ∙ ap (λ (z : program_arm.Arm). z ∷ drop (suc i) as') g in
    let q : m + arms_count (arm_trees (a ∷ drop (suc i) as')) ≡ o + arms_count (arm_trees as') = subst (λ (t : List program_arm.Arm). m + arms_count (arm_trees t) ≡ o + arms_count (arm_trees as')) d w.number in
    record {
      within = omega arith;
      forms = λ other.
          ap (λ (j : ℕ). with_arms c j h (arm_trees (drop (suc i) as')) other is) en
          ∙ ap (λ (x : Known). with_arms c (m + statements_count (arm_tree a).1) x (arm_trees (drop (suc i) as')) other is) eh
          ∙ ap (with_arms c (m + statements_count (arm_tree a).1) (without (written_in (arm_tree a).1) k) (arm_trees (drop (suc i) as')) other) (ei ∙ ap (with_statements c m k (arm_tree a).1) eg)
          ∙ ap (λ (t : List program_arm.Arm). with_arms c m k (arm_trees t) other fs) (sym d) ∙ w.forms other;
      number = omega (arith, en, q);
    }

pub arms_done : (c : Setting) (as' : List program_arm.Arm) (n : ℕ) (k0 : Known) (fs0 : List Forms) (m : ℕ) (k : Known) (fs : List Forms) (i : ℕ) → length as' ≤ i → ArmsFront c as' n k0 fs0 m k fs i →
    (m ≡ n + arms_count (arm_trees as')) × ((other : Rest) → other m k fs ≡ with_arms c n k0 (arm_trees as') other fs0)
arms_done c as' n k0 fs0 m k fs i l w =
    let d : drop i as' ≡ [] = drop_all i as' l in
    let q : m + arms_count (arm_trees []) ≡ n + arms_count (arm_trees as') = subst (λ (t : List program_arm.Arm). m + arms_count (arm_trees t) ≡ n + arms_count (arm_trees as')) d w.number in
    (omega (arith, q), λ other. ap (λ (t : List program_arm.Arm). with_arms c m k (arm_trees t) other fs) (sym d) ∙ w.forms other)
