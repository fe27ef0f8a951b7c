-- The forward part of statements is readable.
use Rattle.std.proofs.Common.{◌≡◌, ℕ, zero, suc, ◌+◌, ◌≤◌, Bool, true, false, ◌||◌, if◌then◌else◌, List, [], ◌∷◌, ◌++◌, Some, None, refl, sym, subst, arith}
use Rattle.std.specs.Prelude.{nat_le}
use Rattle.std.proofs.lemmas.Bool.{and_from, or_from}
use Rattle.std.proofs.lemmas.Bool.Decides.{nat_tests}
use Rattle.fl_ast.specs.declared.kind.Kind.TheVariants as kind
use Rattle.fl_ast.specs.declared.directive.Directive.{Directive}
use Rattle.fl_ast.specs.Tree.{literal, Condition, Statement, assignment, branch, loop, Statements, no_statements, statement, Arms, no_arms, arm}
use Rattle.fl_ast.specs.AdjointTree.{AdjointStatement, adjoint_branch, AdjointArms, no_adjoint_arms, adjoint_arm, adjoint_statements_of}
use Rattle.fl_ast.specs.Measures.{condition_depth, arm_nodes}
use Rattle.fl_ast.specs.Readable.{is_readable_condition, has_arm, has_parallel_in}
use Rattle.fl_ast.specs.ReadableAdjoint.{are_readable_adjoint_statements, are_readable_adjoint_arms, has_adjoint_arm, deepest_in_adjoint_arms, block_depth_of_adjoint_arms, has_parallel_adjoints, has_parallel_adjoints_in}
use Rattle.fl_types.specs.Increment.{increment_terms}
use Rattle.fl_types.specs.Nests.{is_nest}
use Rattle.adjoint_rules.specs.Bounds.{LoopHead, inner_loops}
use Rattle.adjoint_rules.specs.Scopes.{Scope, in_loop}
use Rattle.adjoint_rules.specs.Forward.{forward, forward_all, forward_inner, forward_arms, arm_number, arm_count}
use Rattle.readable_adjoints.proofs.Every.{Every, every_append}
use Rattle.readable_adjoints.proofs.Clauses.{forward_readable}
use Rattle.readable_adjoints.proofs.Lines.{One, Site, one_push, forward_line}
use Rattle.readable_adjoints.proofs.Fit.{Fit, size, size_of_all, size_of_arms, left, right, target_of_fit, value_of_fit, arms_fit, test_fits, loop_fits, within_parallel, kept_clauses}
use Rattle.readable_adjoints.proofs.Loops.{row_of, Nested, forward_loop_good, forward_parallel_good}

-- ---- branches

pub record GoodArms (n : ℕ) (inside : Bool) (as_ : AdjointArms) : Type 0 where
  pub readable : are_readable_adjoint_arms as_ ≡ true
  pub levels : deepest_in_adjoint_arms as_ ≤ 255
  pub blocks : block_depth_of_adjoint_arms as_ ≤ n
  pub single : inside ≡ true → has_parallel_adjoints_in as_ ≡ false

pub no_arms_good : (n : ℕ) (inside : Bool) → GoodArms n inside no_adjoint_arms
no_arms_good n inside = record { readable = refl; levels = omega arith; blocks = omega arith; single = λ _. refl }

pub arms_good : (n : ℕ) (inside : Bool) (test : Condition) (body : List AdjointStatement) (rest : AdjointArms) → is_readable_condition test ≡ true → condition_depth test ≤ 255 → Every (One n inside) body
    → GoodArms n inside rest → GoodArms n inside (adjoint_arm test (adjoint_statements_of body) rest)
arms_good n inside test body rest t d e g =
    let row = row_of n inside body e in
    let levels = row.levels in
    let blocks = row.blocks in
    let rest_levels = g.levels in
    let rest_blocks = g.blocks in
    record {
      readable = and_from (is_readable_condition test) _ t (and_from (are_readable_adjoint_statements (adjoint_statements_of body)) (are_readable_adjoint_arms rest) row.readable g.readable);
      levels = omega (arith, d, levels, rest_levels);
      blocks = omega (arith, blocks, rest_blocks);
      single = λ i. or_from (has_parallel_adjoints (adjoint_statements_of body)) (has_parallel_adjoints_in rest) (row.single i) (g.single i);
    }

pub branch_good : (n : ℕ) (inside : Bool) (line : ℕ) (as_ : AdjointArms) (other : List AdjointStatement) → has_adjoint_arm as_ ≡ true → GoodArms n inside as_ → Every (One n inside) other
    → One (suc n) inside (adjoint_branch line as_ (adjoint_statements_of other))
branch_good n inside line as_ other some g e =
    let row = row_of n inside other e in
    let levels = row.levels in
    let blocks = row.blocks in
    let arm_levels = g.levels in
    let arm_blocks = g.blocks in
    record {
      readable = and_from (has_adjoint_arm as_) _ some (and_from (are_readable_adjoint_arms as_) (are_readable_adjoint_statements (adjoint_statements_of other)) g.readable row.readable);
      levels = omega (arith, levels, arm_levels);
      blocks = omega (arith, blocks, arm_blocks);
      single = λ i. or_from (has_parallel_adjoints_in as_) (has_parallel_adjoints (adjoint_statements_of other)) (g.single i) (row.single i);
    }

-- the number of an arm
pub is_small : (m : ℕ) → m ≤ 4294967296 → nat_le m 9223372036854775807 ≡ true
is_small m h = grind (arith, nat_tests)

numbered : (n : ℕ) (inside : Bool) (scope : Scope) (line m : ℕ) → Site scope → m ≤ 4294967296 → One n inside (arm_number scope line m)
numbered n inside scope line m S h = one_push n inside line scope.key (literal m kind.Index) S.key (record { readable = is_small m h; levels = omega arith })

pub count_nodes : (as_ : Arms) → arm_count as_ ≤ arm_nodes as_
count_nodes no_arms = omega arith
count_nodes (arm test body rest) = let k = count_nodes rest in omega (arith, k)

some_forward : (as_ : Arms) (line m : ℕ) (scope : Scope) → has_arm as_ ≡ true → has_adjoint_arm (forward_arms as_ line m scope) ≡ true
some_forward no_arms line m scope h = absurd (let g : false ≡ true = h in cc)
some_forward (arm test body rest) line m scope h = refl

-- in a loop the tape is another
pub in_loop_site : (scope : Scope) (number : ℕ) (d : Directive) (var : List ℕ) (body : Statements) → Site scope → Site (in_loop scope number d var body)
in_loop_site scope number d var body S =
    let N = S.names in
    record { names = record { variables = N.variables; apart = N.apart; unreserved = N.unreserved; own = N.own }; key = record { readable = refl; levels = omega arith } }

-- a collapsed loop's iterations are those of the loop in it
pub by_nest : (t : Bool) (m : ℕ) (hs : List LoopHead) (inner whole : List AdjointStatement) → Nested m hs inner → Every (One m true) whole → Nested m (if t then hs else []) (if t then inner else whole)
by_nest true m hs inner whole a b = a
by_nest false m hs inner whole a b = record { n = m; heads = tt; short = omega arith; fits = omega arith; all = b }

pub no_loop : (m : ℕ) → Nested m [] []
no_loop m = record { n = m; heads = tt; short = omega arith; fits = omega arith; all = tt }

not_none : {A : Type 0} (n : ℕ) → n + 1 ≤ zero → A
not_none n h = absurd (omega (arith, h))

pub outside_is : (inside : Bool) (b : Bool) → (inside ≡ true → (true || b) ≡ false) → inside ≡ false
outside_is true b h = let g : true ≡ false = h refl in g
outside_is false b h = refl

mutual
  pub forward_good : (s : Statement) (scope : Scope) (n : ℕ) (inside : Bool) → Site scope → Fit (size scope s) n inside → Every (One n inside) (forward s scope)
  forward_good (assignment line atomic p e) scope n inside S f =
      forward_line n inside scope line atomic p e (increment_terms scope.ring p e) S (target_of_fit scope line atomic p e n inside f) (value_of_fit scope line atomic p e n inside f)
  forward_good (branch line as_ other) scope zero inside S f = let blocks = f.blocks in absurd (omega (arith, blocks))
  forward_good (branch line as_ other) scope (suc n) inside S f =
      let parts = arms_fit scope line as_ other n inside f in
      let nodes = f.nodes in
      let few = count_nodes as_ in (
        branch_good n inside line (forward_arms as_ line 0 scope) _ (some_forward as_ line 0 scope parts.0)
            (forward_arms_good as_ line 0 scope n inside S (left (size_of_arms scope as_) (size_of_all scope other) n inside parts.1) (omega (arith, nodes, few)))
            (every_append (One n inside) (forward_all other scope) (arm_number scope line (arm_count as_) ∷ [])
            (forward_all_good other scope n inside S (right (size_of_arms scope as_) (size_of_all scope other) n inside parts.1)) (numbered n inside scope line (arm_count as_) S (omega (arith, nodes, few)), tt)),
        tt,
      )
  forward_good (loop line number directive var first last step body) scope zero inside S f = let blocks = f.blocks in absurd (omega (arith, blocks))
  forward_good (loop line number None var first last step body) scope (suc n) inside S f =
      let l = loop_fits scope line number None var first last step body n inside f in
      forward_loop_good n inside scope (record { line = line; number = number; var = var; first = first; last = last; step = step }) (forward_all body scope) S l.head
      (forward_all_good body scope n inside S l.inner)
  forward_good (loop line number (Some d) var first last step body) scope (suc n) inside S f =
      let h : LoopHead = record { line = line; number = number; var = var; first = first; last = last; step = step } in
      let l = loop_fits scope line number (Some d) var first last step body n inside f in
      let fits = within_parallel scope h d body n inside l in
      let inner = in_loop scope number d var body in
      let site = in_loop_site scope number d var body S in
      let all : Every (One (suc n) false) (forward (loop line number (Some d) var first last step body) scope) =
      forward_parallel_good n scope d h body _ S.names l.head (forward_readable scope var d body S.names fits.numbers (kept_clauses d l.clauses))
      (by_nest (is_nest d body) n (inner_loops body) (forward_inner body inner) (forward_all body inner) (forward_inner_good body inner n site fits) (forward_all_good body inner n true site fits)) in
      subst (λ b. Every (One (suc n) b) (forward (loop line number (Some d) var first last step body) scope)) (sym (outside_is inside (has_parallel_in body) f.single)) all

  pub forward_all_good : (ss : Statements) (scope : Scope) (n : ℕ) (inside : Bool) → Site scope → Fit (size_of_all scope ss) n inside → Every (One n inside) (forward_all ss scope)
  forward_all_good no_statements scope n inside S f = tt
  forward_all_good (statement s ss) scope n inside S f =
      every_append (One n inside) (forward s scope) (forward_all ss scope) (forward_good s scope n inside S (left (size scope s) (size_of_all scope ss) n inside f))
      (forward_all_good ss scope n inside S (right (size scope s) (size_of_all scope ss) n inside f))

  forward_inner_good : (ss : Statements) (scope : Scope) (m : ℕ) → Site scope → Fit (size_of_all scope ss) m true → Nested m (inner_loops ss) (forward_inner ss scope)
  forward_inner_good no_statements scope m S f = no_loop m
  forward_inner_good (statement (assignment line atomic p e) ss) scope m S f = no_loop m
  forward_inner_good (statement (branch line as_ other) ss) scope m S f = no_loop m
  forward_inner_good (statement (loop line number directive var first last step body) ss) scope zero S f = let blocks = f.blocks in absurd (omega (arith, blocks))
  forward_inner_good (statement (loop line number directive var first last step body) ss) scope (suc m) S f =
      let l = loop_fits scope line number directive var first last step body m true (left (size scope (loop line number directive var first last step body)) (size_of_all scope ss) (suc m) true f) in
      record { n = m; heads = (l.head, tt); short = omega arith; fits = omega arith; all = forward_all_good body scope m true S l.inner }

  forward_arms_good : (as_ : Arms) (line m : ℕ) (scope : Scope) (n : ℕ) (inside : Bool) → Site scope → Fit (size_of_arms scope as_) n inside → m + arm_count as_ ≤ 4294967296
      → GoodArms n inside (forward_arms as_ line m scope)
  forward_arms_good no_arms line m scope n inside S f h = no_arms_good n inside
  forward_arms_good (arm test body rest) line m scope n inside S f h =
      let parts = test_fits scope test body rest n inside f in
      let deep = parts.1.0 in
      arms_good n inside test (forward_all body scope ++ arm_number scope line m ∷ []) (forward_arms rest line (m + 1) scope) parts.0 (omega (arith, deep))
      (every_append (One n inside) (forward_all body scope) (arm_number scope line m ∷ []) (forward_all_good body scope n inside S (left (size_of_all scope body) (size_of_arms scope rest) n inside parts.1.1))
      (numbered n inside scope line m S (omega (arith, h)), tt))
      (forward_arms_good rest line (m + 1) scope n inside S (right (size_of_all scope body) (size_of_arms scope rest) n inside parts.1.1) (omega (arith, h)))
