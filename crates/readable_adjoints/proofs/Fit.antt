-- What is known of the program's statements: how large they are, and that their loops are numbered and their choices fair.
use Rattle.std.proofs.Common.{◌≡◌, ℕ, suc, ◌+◌, ◌≤◌, max, Bool, true, false, not, ◌&&◌, ◌||◌, List, [], ◌∷◌, ◌++◌, Option, Some, None, refl, arith}
use Rattle.std.specs.Prelude.{nat_le}
use Rattle.std.proofs.lemmas.Bool.{and_parts}
use Rattle.fl_ast.specs.declared.directive.Directive.{Directive}
use Rattle.fl_ast.specs.Tree.{Expression, Designator, Condition, Statement, assignment, branch, loop, Statements, Arms, arm}
use Rattle.fl_ast.specs.Measures.{condition_depth, step_depth, deepest_in, deepest_in_all, deepest_in_arms, block_depth, block_depth_of_all, block_depth_of_arms, statement_nodes, nodes_of_all, arm_nodes}
use Rattle.fl_ast.specs.Readable.{is_variable, is_readable, are_readable, is_readable_condition, is_readable_step, is_readable_directive, is_readable_schedule, has_readable_clauses, listed_names, are_apart, is_parallel, has_parallel, has_parallel_in, has_parallel_in_arms, has_arm, is_readable_statement, are_readable_statements, are_readable_arms}
use Rattle.std.specs.List.{list_all}
use Rattle.adjoint_rules.specs.Bounds.{LoopHead, step_of}
use Rattle.adjoint_rules.specs.Clauses.{loop_numbers, loop_numbers_in, loop_numbers_in_arms}
use Rattle.adjoint_rules.specs.Scopes.{Scope}
use Rattle.readable_adjoints.specs.Fitting.{is_fair, are_fair, are_fair_arms, is_fair_loop}
use Rattle.readable_adjoints.proofs.Named.{IsVariable, IsNumber, Run, run_left, run_right, run_small}
use Rattle.readable_adjoints.proofs.Clauses.{Kept}
use Rattle.readable_adjoints.proofs.Terms.{Fine}
use Rattle.readable_adjoints.proofs.Lines.{Target}

pub record Size : Type 0 where
  pub readable : Bool
  pub levels : ℕ
  pub blocks : ℕ
  pub nodes : ℕ
  pub numbers : List ℕ
  pub parallel : Bool
  pub fair : Bool

abbrev pub size : Scope → Statement → Size
size scope s = record {
  readable = is_readable_statement s;
  levels = deepest_in s;
  blocks = block_depth s;
  nodes = statement_nodes s;
  numbers = loop_numbers s;
  parallel = has_parallel s;
  fair = is_fair scope.choices scope.declared s;
}

abbrev pub size_of_all : Scope → Statements → Size
size_of_all scope ss = record {
  readable = are_readable_statements ss;
  levels = deepest_in_all ss;
  blocks = block_depth_of_all ss;
  nodes = nodes_of_all ss;
  numbers = loop_numbers_in ss;
  parallel = has_parallel_in ss;
  fair = are_fair scope.choices scope.declared ss;
}

abbrev pub size_of_arms : Scope → Arms → Size
size_of_arms scope as_ = record {
  readable = are_readable_arms as_;
  levels = deepest_in_arms as_;
  blocks = block_depth_of_arms as_;
  nodes = arm_nodes as_;
  numbers = loop_numbers_in_arms as_;
  parallel = has_parallel_in_arms as_;
  fair = are_fair_arms scope.choices scope.declared as_;
}

abbrev pub both : Size → Size → Size
both a b = record {
  readable = a.readable && b.readable;
  levels = max a.levels b.levels;
  blocks = max a.blocks b.blocks;
  nodes = a.nodes + b.nodes;
  numbers = a.numbers ++ b.numbers;
  parallel = a.parallel || b.parallel;
  fair = a.fair && b.fair;
}

-- in so many blocks at most, in a parallel loop or not
pub record Fit (z : Size) (n : ℕ) (inside : Bool) : Type 0 where
  pub readable : z.readable ≡ true
  pub levels : z.levels ≤ 64
  pub blocks : z.blocks ≤ n
  pub nodes : z.nodes ≤ 4294967296
  pub numbers : Run z.numbers
  pub single : inside ≡ true → z.parallel ≡ false
  pub fair : z.fair ≡ true

pub none_left : (a b : Bool) → (a || b) ≡ false → a ≡ false
none_left true b h = h
none_left false b h = refl

pub none_right : (a b : Bool) → (a || b) ≡ false → b ≡ false
none_right true b h = absurd (let g : true ≡ false = h in cc)
none_right false b h = h

pub left : (a b : Size) (n : ℕ) (inside : Bool) → Fit (both a b) n inside → Fit a n inside
left a b n inside f =
    let levels = f.levels in
    let blocks = f.blocks in
    let nodes = f.nodes in
    record {
      readable = (and_parts a.readable b.readable f.readable).0;
      levels = omega (arith, levels);
      blocks = omega (arith, blocks);
      nodes = omega (arith, nodes);
      numbers = run_left a.numbers b.numbers f.numbers;
      single = λ h. none_left a.parallel b.parallel (f.single h);
      fair = (and_parts a.fair b.fair f.fair).0;
    }

pub right : (a b : Size) (n : ℕ) (inside : Bool) → Fit (both a b) n inside → Fit b n inside
right a b n inside f =
    let levels = f.levels in
    let blocks = f.blocks in
    let nodes = f.nodes in
    record {
      readable = (and_parts a.readable b.readable f.readable).1;
      levels = omega (arith, levels);
      blocks = omega (arith, blocks);
      nodes = omega (arith, nodes);
      numbers = run_right a.numbers b.numbers f.numbers;
      single = λ h. none_right a.parallel b.parallel (f.single h);
      fair = (and_parts a.fair b.fair f.fair).1;
    }

-- ---- assignments

pub target_of_fit : (scope : Scope) (line : ℕ) (atomic : Bool) (p : Designator) (e : Expression) (n : ℕ) (inside : Bool) → Fit (size scope (assignment line atomic p e)) n inside → Target p
target_of_fit scope line atomic p e n inside f =
    let levels = f.levels in
    let named_ = and_parts (is_variable p.name) (are_readable p.subscripts && is_readable e) f.readable in
    record { named = named_.0; readable = (and_parts (are_readable p.subscripts) (is_readable e) named_.1).0; shallow = omega (arith, levels) }

pub value_of_fit : (scope : Scope) (line : ℕ) (atomic : Bool) (p : Designator) (e : Expression) (n : ℕ) (inside : Bool) → Fit (size scope (assignment line atomic p e)) n inside → Fine 64 e
value_of_fit scope line atomic p e n inside f =
    let levels = f.levels in
    let named_ = and_parts (is_variable p.name) (are_readable p.subscripts && is_readable e) f.readable in
    record { readable = (and_parts (are_readable p.subscripts) (is_readable e) named_.1).1; levels = omega (arith, levels) }

-- ---- branches

pub arms_fit : (scope : Scope) (line : ℕ) (as_ : Arms) (other : Statements) (n : ℕ) (inside : Bool) → Fit (size scope (branch line as_ other)) (suc n) inside
    → (has_arm as_ ≡ true) × Fit (both (size_of_arms scope as_) (size_of_all scope other)) n inside
arms_fit scope line as_ other n inside f =
    let some = and_parts (has_arm as_) (are_readable_arms as_ && are_readable_statements other) f.readable in
    let blocks = f.blocks in
    let nodes = f.nodes in
    (some.0, record { readable = some.1; levels = f.levels; blocks = omega (arith, blocks); nodes = omega (arith, nodes); numbers = f.numbers; single = f.single; fair = f.fair })

pub test_fits : (scope : Scope) (test : Condition) (body : Statements) (rest : Arms) (n : ℕ) (inside : Bool) → Fit (size_of_arms scope (arm test body rest)) n inside
    → (is_readable_condition test ≡ true) × ((condition_depth test ≤ 64) × Fit (both (size_of_all scope body) (size_of_arms scope rest)) n inside)
test_fits scope test body rest n inside f =
    let told = and_parts (is_readable_condition test) (are_readable_statements body && are_readable_arms rest) f.readable in
    let levels = f.levels in
    let nodes = f.nodes in
    (told.0, (omega (arith, levels), record { readable = told.1; levels = omega (arith, levels); blocks = f.blocks; nodes = omega (arith, nodes); numbers = f.numbers; single = f.single; fair = f.fair }))

-- ---- loops

pub record GoodHead (h : LoopHead) : Type 0 where
  pub var : IsVariable h.var
  pub number : IsNumber h.number
  pub first : Fine 64 h.first
  pub last : Fine 64 h.last
  pub step : Fine 64 (step_of h.step)

step_fine : (o : Option Expression) → is_readable_step o ≡ true → step_depth o ≤ 64 → Fine 64 (step_of o)
step_fine None h l = record { readable = refl; levels = omega arith }
step_fine (Some e) h l = record { readable = h; levels = l }

-- a loop's head, its directive and its body
pub record Looped (scope : Scope) (h : LoopHead) (directive : Option Directive) (body : Statements) (n : ℕ) (inside : Bool) : Type 0 where
  pub head : GoodHead h
  pub clauses : is_readable_directive directive ≡ true
  pub apart : not (is_parallel directive && has_parallel_in body) ≡ true
  pub inner : Fit (size_of_all scope body) n inside

fair_body : (scope : Scope) (line number : ℕ) (directive : Option Directive) (var : List ℕ) (first last : Expression) (step : Option Expression) (body : Statements)
    → is_fair scope.choices scope.declared (loop line number directive var first last step body) ≡ true → are_fair scope.choices scope.declared body ≡ true
fair_body scope line number None var first last step body h = h
fair_body scope line number (Some d) var first last step body h = (and_parts (is_fair_loop scope.choices scope.declared number var d body) (are_fair scope.choices scope.declared body) h).1

pub fair_loop : (scope : Scope) (line number : ℕ) (d : Directive) (var : List ℕ) (first last : Expression) (step : Option Expression) (body : Statements)
    → is_fair scope.choices scope.declared (loop line number (Some d) var first last step body) ≡ true → is_fair_loop scope.choices scope.declared number var d body ≡ true
fair_loop scope line number d var first last step body h = (and_parts (is_fair_loop scope.choices scope.declared number var d body) (are_fair scope.choices scope.declared body) h).0

pub loop_fits : (scope : Scope) (line number : ℕ) (directive : Option Directive) (var : List ℕ) (first last : Expression) (step : Option Expression) (body : Statements) (n : ℕ) (inside : Bool)
    → Fit (size scope (loop line number directive var first last step body)) (suc n) inside
    → Looped scope (record { line = line; number = number; var = var; first = first; last = last; step = step }) directive body n inside
loop_fits scope line number directive var first last step body n inside f =
    let r0 = and_parts (is_readable_directive directive) _ f.readable in
    let r1 = and_parts (not (is_parallel directive && has_parallel_in body)) _ r0.1 in
    let r2 = and_parts (is_variable var) _ r1.1 in
    let r3 = and_parts (is_readable first) _ r2.1 in
    let r4 = and_parts (is_readable last) _ r3.1 in
    let r5 = and_parts (is_readable_step step) (are_readable_statements body) r4.1 in
    let levels = f.levels in
    let blocks = f.blocks in
    let nodes = f.nodes in
    record {
      head = record {
        var = r2.0;
        number = (run_small (number ∷ loop_numbers_in body) f.numbers).0;
        first = record { readable = r3.0; levels = omega (arith, levels) };
        last = record { readable = r4.0; levels = omega (arith, levels) };
        step = step_fine step r5.0 (omega (arith, levels));
      };
      clauses = r0.0;
      apart = r1.0;
      inner = record {
        readable = r5.1;
        levels = omega (arith, levels);
        blocks = omega (arith, blocks);
        nodes = omega (arith, nodes);
        numbers = run_right (number ∷ []) (loop_numbers_in body) f.numbers;
        single = λ h. none_right (is_parallel directive) (has_parallel_in body) (f.single h);
        fair = fair_body scope line number directive var first last step body f.fair;
      };
    }

not_set : (b : Bool) → not b ≡ true → b ≡ false
not_set true h = absurd (let g : false ≡ true = h in cc)
not_set false h = refl

-- in a parallel loop
pub within_parallel : (scope : Scope) (h : LoopHead) (d : Directive) (body : Statements) (n : ℕ) (inside : Bool) → Looped scope h (Some d) body n inside → Fit (size_of_all scope body) n true
within_parallel scope h d body n inside l =
    let f = l.inner in
    record { readable = f.readable; levels = f.levels; blocks = f.blocks; nodes = f.nodes; numbers = f.numbers; single = λ _. not_set (has_parallel_in body) l.apart; fair = f.fair }

pub kept_clauses : (d : Directive) → has_readable_clauses d ≡ true → Kept d
kept_clauses d h =
    let r0 = and_parts (list_all is_variable (listed_names d)) _ h in
    let r1 = and_parts (are_apart (listed_names d)) _ r0.1 in
    let r2 = and_parts (is_readable_schedule d.schedule) (nat_le d.collapse 2) r1.1 in
    record { schedule = r2.0; collapse = r2.1 }
