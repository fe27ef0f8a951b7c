-- Each parallel loop stands at its number.
use Rattle.std.proofs.Common.{◌≡◌, ℕ, suc, ◌+◌, Bool, true, List, [], ◌∷◌, ◌++◌, Option, Some, None, refl, ap, ◌∙◌, subst, arith}
use Rattle.std.specs.Prelude.{option_map, ◌==◌}
use Rattle.std.specs.List.{AllByRecursion}
use Rattle.std.proofs.lemmas.Bool.{eqb-true}
use Rattle.fl_ast.specs.declared.stmt.Program.{Program}
use Rattle.fl_ast.specs.Measures.{loop_numbers, loop_numbers_of_all, loop_numbers_of_arms}
use Rattle.fl_ast.specs.Readable.{counts_up_from}
use Rattle.fl_ast.specs.Tree.{Statement, assignment, branch, loop, Statements, no_statements, statement, Arms, no_arms, arm, stmt_trees}
use Rattle.index_forms.specs.Loops.{HeadedLoop}
use Rattle.acceptance.proofs.NumberedItems.{numbered-map}
use Rattle.certificate_rules.specs.Surveys.{numbered}
use Rattle.loop_scenes.specs.Loops.{loops_by, loops_by_all, loops_by_arms, parallel_among}
use Rattle.loop_scenes.proofs.Loops.{parallel_are}
use Rattle.loop_pairs.specs.Known.{known_loop, known_in, known_of}
use Rattle.loop_pairs.specs.Numbers.{LoopsStand}
use Rattle.loop_pairs.proofs.Typed.{left_of, right_of}

-- loops with their numbers
abbrev InStep : List (Option HeadedLoop) → List ℕ → Type 0
InStep [] [] = Unit {0}
InStep [] (n ∷ ns) = ⊥
InStep (l ∷ ls) [] = ⊥
InStep (None ∷ ls) (n ∷ ns) = InStep ls ns
InStep (Some l ∷ ls) (n ∷ ns) = (l.loop.number ≡ n) × InStep ls ns

two : (ls ms : List (Option HeadedLoop)) (ns ks : List ℕ) → InStep ls ns → InStep ms ks → InStep (ls ++ ms) (ns ++ ks)
two [] ms [] ks p q = q
two [] ms (n ∷ ns) ks p q = absurd p
two (None ∷ ls) ms [] ks p q = absurd p
two (Some l ∷ ls) ms [] ks p q = absurd p
two (None ∷ ls) ms (n ∷ ns) ks p q = two ls ms ns ks p q
two (Some l ∷ ls) ms (n ∷ ns) ks p q = (p.0, two ls ms ns ks p.1 q)

mutual
  by_statement : (outer : List (List ℕ)) (s : Statement) → InStep (loops_by outer s) (loop_numbers s)
  by_statement outer (assignment line atomic target value) = tt
  by_statement outer (branch line arms other) = two (loops_by_arms outer arms) (loops_by_all outer other) (loop_numbers_of_arms arms) (loop_numbers_of_all other) (by_arms outer arms) (by_statements outer other)
  by_statement outer (loop line number None var first last step body) = by_statements (var ∷ outer) body
  by_statement outer (loop line number (Some directive) var first last step body) = (refl, by_statements (var ∷ outer) body)

  by_statements : (outer : List (List ℕ)) (ss : Statements) → InStep (loops_by_all outer ss) (loop_numbers_of_all ss)
  by_statements outer no_statements = tt
  by_statements outer (statement s ss) = two (loops_by outer s) (loops_by_all outer ss) (loop_numbers s) (loop_numbers_of_all ss) (by_statement outer s) (by_statements outer ss)

  by_arms : (outer : List (List ℕ)) (arms : Arms) → InStep (loops_by_arms outer arms) (loop_numbers_of_arms arms)
  by_arms outer no_arms = tt
  by_arms outer (arm test body arms) = two (loops_by_all outer body) (loops_by_arms outer arms) (loop_numbers_of_all body) (loop_numbers_of_arms arms) (by_statements outer body) (by_arms outer arms)

-- m loops come before these
all_found : (full ls : List (Option HeadedLoop)) (ns : List ℕ) (m : ℕ) → ((j : ℕ) → numbered full (suc (m + j)) ≡ numbered ls (suc j)) → InStep ls ns → counts_up_from (suc m) ns ≡ true →
    AllByRecursion (λ (l : HeadedLoop). numbered full l.loop.number ≡ Some (Some l)) (parallel_among ls)
all_found full [] ns m e w h = tt
all_found full (None ∷ ls) [] m e w h = absurd w
all_found full (Some l ∷ ls) [] m e w h = absurd w
all_found full (None ∷ ls) (n ∷ ns) m e w h =
    all_found full ls ns (suc m) (λ j. let z : suc m + j ≡ m + suc j = omega arith in ap (λ (i : ℕ). numbered full (suc i)) z ∙ e (suc j)) w (right_of (n == suc m) (counts_up_from (suc (suc m)) ns) h)
all_found full (Some l ∷ ls) (n ∷ ns) m e w h =
    let here : n ≡ suc m = eqb-true n (suc m) (left_of (n == suc m) (counts_up_from (suc (suc m)) ns) h) in
    let z : m ≡ m + 0 = omega arith in (
      ap (numbered full) (w.0 ∙ (here ∙ ap suc z)) ∙ e 0,
      all_found full ls ns (suc m) (λ j. let y : suc m + j ≡ m + suc j = omega arith in ap (λ (i : ℕ). numbered full (suc i)) y ∙ e (suc j)) w.1 (right_of (n == suc m) (counts_up_from (suc (suc m)) ns) h),
    )

-- what is known of them stands there too
all_known : (p : Program) (on : List ℕ → Bool) (full : List (Option HeadedLoop)) (ls : List HeadedLoop) → AllByRecursion (λ (l : HeadedLoop). numbered full l.loop.number ≡ Some (Some l)) ls →
    AllByRecursion (λ (l : HeadedLoop). numbered (known_in p.decls on full) l.loop.number ≡ Some (Some (known_loop p.decls on l))) ls
all_known p on full [] w = tt
all_known p on full (l ∷ ls) w =
    (numbered-map (λ (o : Option HeadedLoop). option_map (known_loop p.decls on) o) full l.loop.number ∙ ap (λ (o : Option (Option HeadedLoop)). option_map (λ (q : Option HeadedLoop). option_map (known_loop p.decls on) q) o) w.0, all_known p on full ls w.1)

pub loops_stand : LoopsStand
unfolding known_of
loops_stand p on t =
    let full = loops_by_all [] (stmt_trees p.body) in
    let z : (j : ℕ) → numbered full (suc (0 + j)) ≡ numbered full (suc j) = λ j. let y : 0 + j ≡ j = omega arith in ap (λ (i : ℕ). numbered full (suc i)) y in
    let all = all_found full full (loop_numbers_of_all (stmt_trees p.body)) 0 z (by_statements [] (stmt_trees p.body)) t.readable.numbered in
    subst (λ (ls : List HeadedLoop). AllByRecursion (λ (l : HeadedLoop). numbered (known_in p.decls on full) l.loop.number ≡ Some (Some (known_loop p.decls on l))) ls) (parallel_are [] (stmt_trees p.body))
    (all_known p on full (parallel_among full) all)
