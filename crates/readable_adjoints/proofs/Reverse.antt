-- The reverse part of statements is readable.
use Rattle.std.proofs.Common.{◌≡◌, ℕ, zero, suc, ◌+◌, ◌≤◌, Bool, true, false, Some, None, refl, sym, subst, arith}
use Rattle.fl_ast.specs.Tree.{Statement, assignment, branch, loop, Statements, no_statements, statement, Arms, no_arms, arm}
use Rattle.fl_ast.specs.Readable.{has_arm, has_parallel_in, is_readable_condition}
use Rattle.fl_ast.specs.Measures.{condition_depth}
use Rattle.fl_ast.specs.ReadableAdjoint.{has_adjoint_arm}
use Rattle.fl_types.specs.Increment.{increment_terms}
use Rattle.fl_types.specs.Nests.{is_nest}
use Rattle.adjoint_rules.specs.OwnNames.{scalar, w_name}
use Rattle.adjoint_rules.specs.Bounds.{LoopHead, inner_loops}
use Rattle.adjoint_rules.specs.Scopes.{Scope, in_loop}
use Rattle.adjoint_rules.specs.Forward.{arm_count}
use Rattle.adjoint_rules.specs.Reverse.{is_arm, backward, backward_all, backward_inner, backward_arms}
use Rattle.readable_adjoints.proofs.Every.{Every, every_append}
use Rattle.readable_adjoints.proofs.Clauses.{backward_readable}
use Rattle.readable_adjoints.proofs.Terms.{terms_good}
use Rattle.readable_adjoints.proofs.Lines.{One, Site, one_pop, scalar_target, backward_line}
use Rattle.readable_adjoints.proofs.Fit.{Fit, size, size_of_all, size_of_arms, left, right, target_of_fit, value_of_fit, arms_fit, test_fits, loop_fits, within_parallel, kept_clauses, fair_loop}
use Rattle.readable_adjoints.proofs.Loops.{Nested, backward_loop_good, backward_parallel_good}
use Rattle.readable_adjoints.proofs.Forward.{GoodArms, no_arms_good, arms_good, branch_good, is_small, count_nodes, in_loop_site, by_nest, no_loop, outside_is}

some_backward : (as_ : Arms) (m : ℕ) (scope : Scope) → has_arm as_ ≡ true → has_adjoint_arm (backward_arms as_ m scope) ≡ true
some_backward no_arms m scope h = absurd (let g : false ≡ true = h in cc)
some_backward (arm test body rest) m scope h = refl

arm_readable : (m : ℕ) → m ≤ 4294967296 → is_readable_condition (is_arm m) ≡ true
arm_readable m h = is_small m h

arm_shallow : (m : ℕ) → condition_depth (is_arm m) ≤ 255
arm_shallow m = omega arith

mutual
  pub backward_good : (s : Statement) (scope : Scope) (n : ℕ) (inside : Bool) → Site scope → Fit (size scope s) n inside → Every (One n inside) (backward s scope)
  backward_good (assignment line atomic p e) scope n inside S f =
      let value = value_of_fit scope line atomic p e n inside f in
      backward_line n inside scope line atomic p e (increment_terms scope.ring p e) S (target_of_fit scope line atomic p e n inside f) value (terms_good scope.ring p e value)
  backward_good (branch line as_ other) scope zero inside S f = let blocks = f.blocks in absurd (omega (arith, blocks))
  backward_good (branch line as_ other) scope (suc n) inside S f =
      let parts = arms_fit scope line as_ other n inside f in
      let nodes = f.nodes in
      let few = count_nodes as_ in (
        one_pop (suc n) inside line scope.key (scalar w_name) S.key (scalar_target w_name refl),
        (
          branch_good n inside line (backward_arms as_ 0 scope) (backward_all other scope) (some_backward as_ 0 scope parts.0)
              (backward_arms_good as_ 0 scope n inside S (left (size_of_arms scope as_) (size_of_all scope other) n inside parts.1) (omega (arith, nodes, few)))
              (backward_all_good other scope n inside S (right (size_of_arms scope as_) (size_of_all scope other) n inside parts.1)),
          tt,
        ),
      )
  backward_good (loop line number directive var first last step body) scope zero inside S f = let blocks = f.blocks in absurd (omega (arith, blocks))
  backward_good (loop line number None var first last step body) scope (suc n) inside S f =
      let l = loop_fits scope line number None var first last step body n inside f in
      backward_loop_good n inside scope (record { line = line; number = number; var = var; first = first; last = last; step = step }) (backward_all body scope) S l.head
      (backward_all_good body scope n inside S l.inner)
  backward_good (loop line number (Some d) var first last step body) scope (suc n) inside S f =
      let h : LoopHead = record { line = line; number = number; var = var; first = first; last = last; step = step } in
      let l = loop_fits scope line number (Some d) var first last step body n inside f in
      let fits = within_parallel scope h d body n inside l in
      let inner = in_loop scope number d var body in
      let site = in_loop_site scope number d var body S in
      let fair = fair_loop scope line number d var first last step body f.fair in
      let all : Every (One (suc n) false) (backward (loop line number (Some d) var first last step body) scope) =
      backward_parallel_good n scope d h body _ S.names l.head (backward_readable scope number var d body S.names fits.numbers (kept_clauses d l.clauses) fair)
      (by_nest (is_nest d body) n (inner_loops body) (backward_inner body inner) (backward_all body inner) (backward_inner_good body inner n site fits) (backward_all_good body inner n true site fits)) in
      subst (λ b. Every (One (suc n) b) (backward (loop line number (Some d) var first last step body) scope)) (sym (outside_is inside (has_parallel_in body) f.single)) all

  pub backward_all_good : (ss : Statements) (scope : Scope) (n : ℕ) (inside : Bool) → Site scope → Fit (size_of_all scope ss) n inside → Every (One n inside) (backward_all ss scope)
  backward_all_good no_statements scope n inside S f = tt
  backward_all_good (statement s ss) scope n inside S f =
      every_append (One n inside) (backward_all ss scope) (backward s scope) (backward_all_good ss scope n inside S (right (size scope s) (size_of_all scope ss) n inside f))
      (backward_good s scope n inside S (left (size scope s) (size_of_all scope ss) n inside f))

  backward_inner_good : (ss : Statements) (scope : Scope) (m : ℕ) → Site scope → Fit (size_of_all scope ss) m true → Nested m (inner_loops ss) (backward_inner ss scope)
  backward_inner_good no_statements scope m S f = no_loop m
  backward_inner_good (statement (assignment line atomic p e) ss) scope m S f = no_loop m
  backward_inner_good (statement (branch line as_ other) ss) scope m S f = no_loop m
  backward_inner_good (statement (loop line number directive var first last step body) ss) scope zero S f = let blocks = f.blocks in absurd (omega (arith, blocks))
  backward_inner_good (statement (loop line number directive var first last step body) ss) scope (suc m) S f =
      let l = loop_fits scope line number directive var first last step body m true (left (size scope (loop line number directive var first last step body)) (size_of_all scope ss) (suc m) true f) in
      record { n = m; heads = (l.head, tt); short = omega arith; fits = omega arith; all = backward_all_good body scope m true S l.inner }

  backward_arms_good : (as_ : Arms) (m : ℕ) (scope : Scope) (n : ℕ) (inside : Bool) → Site scope → Fit (size_of_arms scope as_) n inside → m + arm_count as_ ≤ 4294967296
      → GoodArms n inside (backward_arms as_ m scope)
  backward_arms_good no_arms m scope n inside S f h = no_arms_good n inside
  backward_arms_good (arm test body rest) m scope n inside S f h =
      let parts = test_fits scope test body rest n inside f in
      arms_good n inside (is_arm m) (backward_all body scope) (backward_arms rest (m + 1) scope) (arm_readable m (omega (arith, h))) (arm_shallow m)
      (backward_all_good body scope n inside S (left (size_of_all scope body) (size_of_arms scope rest) n inside parts.1.1))
      (backward_arms_good rest (m + 1) scope n inside S (right (size_of_all scope body) (size_of_arms scope rest) n inside parts.1.1) (omega (arith, h)))
