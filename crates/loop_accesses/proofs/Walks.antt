-- Walks over lists of statements and arms.
use Rattle.std.proofs.Common.{◌≡◌, ℕ, suc, ◌+◌, ◌<◌, ◌≤◌, List, [], ◌∷◌, ◌++◌, drop, length, get_or, refl, sym, ap, ◌∙◌, subst, arith}
use Rattle.std.proofs.lemmas.List.{drop_all, append-nil}
use Rattle.std.proofs.Math.Seq.{drop-cons}
use Rattle.fl_ast.specs.declared.stmt.Stmt as program_stmt
use Rattle.fl_ast.specs.declared.stmt.Arm as program_arm
use Rattle.fl_ast.specs.Tree.{stmt_tree, stmt_trees, arm_tree, arm_trees}
use Rattle.fl_types.specs.declared.access.PathStep.{PathStep}
use Rattle.fl_types.specs.declared.access.PathStep.TheVariants as step
use Rattle.fl_types.specs.Accesses.{Scope, Occurrence, statement_count, statements_count, arms_count, condition_reads, test_path, accesses, accesses_all, arms_accesses}
use Rattle.loop_accesses.proofs.Terms.{two_groups}

-- what was walked over, and what the rest gives, is all
pub record StatementsFront (c : Scope) (path : List PathStep) (ss : List program_stmt.Stmt) (n : ℕ) (old : List Occurrence) (m : ℕ) (now : List Occurrence) (i : ℕ) : Type 0 where
  pub within : i ≤ length ss
  pub found : now ++ accesses_all c m path (stmt_trees (drop i ss)) ≡ old ++ accesses_all c n path (stmt_trees ss)
  pub number : m + statements_count (stmt_trees (drop i ss)) ≡ n + statements_count (stmt_trees ss)

pub statements_begun : (c : Scope) (path : List PathStep) (ss : List program_stmt.Stmt) (n : ℕ) (old : List Occurrence) → StatementsFront c path ss n old n old 0
statements_begun c path ss n old = record { within = omega arith; found = refl; number = refl }

pub statements_more : (c : Scope) (path : List PathStep) (ss : List program_stmt.Stmt) (n : ℕ) (old : List Occurrence) (m k : ℕ) (now new : List Occurrence) (i : ℕ) (s : program_stmt.Stmt) → i < length ss → get_or ss i s ≡ s →
    k ≡ m + statement_count (stmt_tree s) → new ≡ now ++ accesses c m path (stmt_tree s) → StatementsFront c path ss n old m now i → StatementsFront c path ss n old k new (suc i)
statements_more c path ss n old m k now new i s l g en eg w =
    let d : drop i ss ≡ s ∷ drop (suc i) ss = drop-cons ss i s l ∙ ap (λ (z : program_stmt.Stmt). z ∷ drop (suc i) ss) g in
    let q : m + statements_count (stmt_trees (s ∷ drop (suc i) ss)) ≡ n + statements_count (stmt_trees ss) = subst (λ (t : List program_stmt.Stmt). m + statements_count (stmt_trees t) ≡ n + statements_count (stmt_trees ss)) d w.number in
    let f : now ++ accesses_all c m path (stmt_trees (s ∷ drop (suc i) ss)) ≡ old ++ accesses_all c n path (stmt_trees ss) = subst (λ (t : List program_stmt.Stmt). now ++ accesses_all c m path (stmt_trees t) ≡ old ++ accesses_all c n path (stmt_trees ss)) d w.found in
    record {
      within = omega arith;
      found = two_groups (accesses c m path (stmt_tree s)) (accesses_all c (m + statement_count (stmt_tree s)) path (stmt_trees (drop (suc i) ss))) now new (new ++ accesses_all c k path (stmt_trees (drop (suc i) ss))) eg
          (ap (λ (j : ℕ). new ++ accesses_all c j path (stmt_trees (drop (suc i) ss))) en) ∙ f;
      number = omega (arith, en, q);
    }

pub statements_done : (c : Scope) (path : List PathStep) (ss : List program_stmt.Stmt) (n : ℕ) (old : List Occurrence) (m : ℕ) (now : List Occurrence) (i : ℕ) → length ss ≤ i → StatementsFront c path ss n old m now i →
    (now ≡ old ++ accesses_all c n path (stmt_trees ss)) × (m ≡ n + statements_count (stmt_trees ss))
statements_done c path ss n old m now i l w =
    let d : drop i ss ≡ [] = drop_all i ss l in
    let q : m + statements_count (stmt_trees []) ≡ n + statements_count (stmt_trees ss) = subst (λ (t : List program_stmt.Stmt). m + statements_count (stmt_trees t) ≡ n + statements_count (stmt_trees ss)) d w.number in
    (sym (append-nil now) ∙ subst (λ (t : List program_stmt.Stmt). now ++ accesses_all c m path (stmt_trees t) ≡ old ++ accesses_all c n path (stmt_trees ss)) d w.found, omega (arith, q))

-- what follows an `if`'s arms
abbrev pub Rest : Type 0
Rest = ℕ → List PathStep → List Occurrence

pub record ArmsFront (c : Scope) (line n : ℕ) (path : List PathStep) (as' : List program_arm.Arm) (k : ℕ) (old : List Occurrence) (m : ℕ) (now : List Occurrence) (i : ℕ) : Type 0 where
  pub within : i ≤ length as'
  pub found : (other : Rest) → now ++ arms_accesses c line n m i path (arm_trees (drop i as')) other ≡ old ++ arms_accesses c line n k 0 path (arm_trees as') other
  pub number : m + arms_count (arm_trees (drop i as')) ≡ k + arms_count (arm_trees as')

pub arms_begun : (c : Scope) (line n : ℕ) (path : List PathStep) (as' : List program_arm.Arm) (k : ℕ) (old : List Occurrence) → ArmsFront c line n path as' k old k old 0
arms_begun c line n path as' k old = record { within = omega arith; found = λ other. refl; number = refl }

pub arms_more : (c : Scope) (line n : ℕ) (path : List PathStep) (as' : List program_arm.Arm) (k : ℕ) (old : List Occurrence) (m j : ℕ) (now mid new : List Occurrence) (i : ℕ) (a : program_arm.Arm) → i < length as' → get_or as' i a ≡ a →
    mid ≡ now ++ condition_reads c line (test_path path n i) (arm_tree a).0 → new ≡ mid ++ accesses_all c m (path ++ step.Arm n i ∷ []) (arm_tree a).1 → j ≡ m + statements_count (arm_tree a).1 →
    ArmsFront c line n path as' k old m now i → ArmsFront c line n path as' k old j new (suc i)
arms_more c line n path as' k old m j now mid new i a l g em en ej w =
    let d : drop i as' ≡ a ∷ drop (suc i) as' = drop-cons as' i a l ∙ ap (λ (z : program_arm.Arm). z ∷ drop (suc i) as') g in
    let q : m + arms_count (arm_trees (a ∷ drop (suc i) as')) ≡ k + arms_count (arm_trees as') = subst (λ (t : List program_arm.Arm). m + arms_count (arm_trees t) ≡ k + arms_count (arm_trees as')) d w.number in
    let one : i + 1 ≡ suc i = omega arith in
    record {
      within = omega arith;
      found = λ other.
          two_groups (condition_reads c line (test_path path n i) (arm_tree a).0) (accesses_all c m (path ++ step.Arm n i ∷ []) (arm_tree a).1 ++ arms_accesses c line n (m + statements_count (arm_tree a).1) (i + 1) path (arm_trees (drop (suc i) as')) other) now mid
          (new ++ arms_accesses c line n j (suc i) path (arm_trees (drop (suc i) as')) other) em
          (two_groups (accesses_all c m (path ++ step.Arm n i ∷ []) (arm_tree a).1) (arms_accesses c line n (m + statements_count (arm_tree a).1) (i + 1) path (arm_trees (drop (suc i) as')) other) mid new
          (new ++ arms_accesses c line n j (suc i) path (arm_trees (drop (suc i) as')) other) en
          (ap (λ (x : ℕ). new ++ arms_accesses c line n x (suc i) path (arm_trees (drop (suc i) as')) other) ej
          ∙ ap (λ (x : ℕ). new ++ arms_accesses c line n (m + statements_count (arm_tree a).1) x path (arm_trees (drop (suc i) as')) other) (sym one)))
          ∙ subst (λ (t : List program_arm.Arm). now ++ arms_accesses c line n m i path (arm_trees t) other ≡ old ++ arms_accesses c line n k 0 path (arm_trees as') other) d (w.found other);
      number = omega (arith, ej, q);
    }

pub arms_done : (c : Scope) (line n : ℕ) (path : List PathStep) (as' : List program_arm.Arm) (k : ℕ) (old : List Occurrence) (m : ℕ) (now : List Occurrence) (i : ℕ) → length as' ≤ i → ArmsFront c line n path as' k old m now i →
    ((other : Rest) → now ++ other m (path ++ step.Arm n (length as') ∷ []) ≡ old ++ arms_accesses c line n k 0 path (arm_trees as') other) × (m ≡ k + arms_count (arm_trees as'))
arms_done c line n path as' k old m now i l w =
    let d : drop i as' ≡ [] = drop_all i as' l in
    let e : i ≡ length as' = omega (arith, w.within) in
    let q : m + arms_count (arm_trees []) ≡ k + arms_count (arm_trees as') = subst (λ (t : List program_arm.Arm). m + arms_count (arm_trees t) ≡ k + arms_count (arm_trees as')) d w.number in (
      λ other. ap (λ (x : ℕ). now ++ other m (path ++ step.Arm n x ∷ [])) (sym e)
          ∙ subst (λ (t : List program_arm.Arm). now ++ arms_accesses c line n m i path (arm_trees t) other ≡ old ++ arms_accesses c line n k 0 path (arm_trees as') other) d (w.found other),
      omega (arith, q),
    )
