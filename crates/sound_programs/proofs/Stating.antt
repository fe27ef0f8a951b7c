-- Every statement of an accepted program meets what the law of transposition asks of it.
use Rattle.std.proofs.Common.{◌≡◌, inl, inr, ℕ, ◌+◌, ◌<◌, ◌≤◌, ◌^◌, Bool, true, false, not, ◌&&◌, ◌||◌, if◌then◌else◌, cond, bytes_eq, List, ◌∷◌, ◌++◌, Option, Some, None, refl, arith}
use Rattle.std.proofs.lemmas.Bool.{and_parts, or_parts, or_left, or_right}
use Rattle.fl_ast.specs.declared.directive.Directive.{Directive}
use Rattle.fl_ast.specs.Measures.{nodes, condition_nodes, step_nodes, nodes_of_all, statement_nodes, arm_nodes}
use Rattle.fl_ast.specs.Readable.{is_variable, is_readable, is_readable_step, is_readable_condition, is_readable_directive, is_parallel, has_arm, has_parallel, has_parallel_in, has_parallel_in_arms, is_readable_statement, are_readable_statements, are_readable_arms}
use Rattle.fl_ast.specs.Tree.{Expression, Statement, assignment, branch, loop, Statements, no_statements, statement, Arms, no_arms, arm}
use Rattle.fl_types.specs.Kinds.{declared_names, has_scalar_privates, is_well_kinded_condition, is_well_kinded_head, is_well_kinded_statement, are_well_kinded_statements, are_well_kinded_arms}
use Rattle.fl_types.specs.Nests.{is_nest, inner_head}
use Rattle.fl_types.specs.Sharing.{has_name, is_plus, sharing_in, makes_accesses, varies_in, assigns_in, ParallelLoop, loops_of, loops_of_all, loops_of_arms}
use Rattle.fl_types.specs.Mentions as m
use Rattle.fl_types.specs.Mentions.{Region}
use Rattle.store_core.specs.Scopes.{scopes_in}
use Rattle.reachability.specs.Reached.{IsAmong}
use Rattle.typing.proofs.Faultless.{apart}
use Rattle.transposition.specs.Worlds.{is_reduction, in_iteration}
use Rattle.transposition.specs.Back.{variables_of, loop_variables}
use Rattle.transposition.specs.Sound.{arm_count, Sound, SoundAll, SoundArms, SoundInner}
use Rattle.sound_programs.specs.Uses.{IsCollectable}
use Rattle.sound_programs.proofs.Lists.{in_left, at_test, never, fails, or_to, not_yes, itself}
use Rattle.sound_programs.proofs.Mentioned.{assignment_clean}
use Rattle.sound_programs.proofs.Setups.{Setup, decls_in, Facts, PartOne, PartAll, PartArms, first_part, rest_part, arms_part, other_part, arm_part, later_part, body_part, use_at}
use Rattle.sound_programs.proofs.Trees.{Spot, world_of, use_of, loop_clean, Given, GivenOne, GivenAll, GivenArms, left_given, right_given, few_arms, flat_all, variable_all}
use Rattle.sound_programs.proofs.Assigning.{assignment_sound}
use Rattle.sound_programs.proofs.Turning.{HeadKinds, head_kinds, further_literals, turned, turned_outside, variable_sound}
use Rattle.sound_programs.proofs.Rounding.{Loop, rounds_needed, rounds_live, rounds_scene, rounds_sound}

-- ---- in an iteration

-- the variables around a statement of an iteration: those of the loops collapsed, and those around the loop
record Around (t : Setup) (h : Spot t) (d : Directive) (var : List ℕ) (body : Statements) (vars : List (List ℕ)) : Type 0 where
  pub to : (x : List ℕ) → has_name x vars ≡ true → (has_name x (loop_variables d var body) || has_name x h.around.vars) ≡ true
  pub from : (x : List ℕ) → (has_name x (loop_variables d var body) || has_name x h.around.vars) ≡ true → has_name x vars ≡ true

alone : (t : Setup) (h : Spot t) (d : Directive) (var : List ℕ) (body : Statements) → is_nest d body ≡ false
    → Around t h d var body (var ∷ h.around.vars)
alone t h d var body e = record {
  to = λ x k. or_to (bytes_eq x var) (has_name x h.around.vars)
      (λ g. or_left (bytes_eq x var || has_name x (variables_of (if is_nest d body then inner_head body else None)))
      (has_name x h.around.vars) (or_left (bytes_eq x var) (has_name x (variables_of (if is_nest d body then inner_head body else None))) g))
      (λ g. or_right (bytes_eq x var || has_name x (variables_of (if is_nest d body then inner_head body else None))) (has_name x h.around.vars) g) k;
  from = λ x k. at_test (λ b. b ≡ false
      → ((bytes_eq x var || has_name x (variables_of (if b then inner_head body else None))) || has_name x h.around.vars) ≡ true
      → (bytes_eq x var || has_name x h.around.vars) ≡ true) (is_nest d body)
      (λ g n. never true refl n) (λ g n i. by_or (bytes_eq x var) (has_name x h.around.vars) i) e k;
}
  where
    by_or : (a b : Bool) → ((a || false) || b) ≡ true → (a || b) ≡ true
    by_or true b i = refl
    by_or false b i = i

-- with the loop in the body
collapsed : (t : Setup) (h : Spot t) (d : Directive) (var : List ℕ) (line number : ℕ) (directive : Option Directive) (other : List ℕ)
    (first last : Expression) (step : Option Expression) (body ss : Statements)
    → is_nest d (statement (loop line number directive other first last step body) ss) ≡ true
    → Around t h d var (statement (loop line number directive other first last step body) ss) (other ∷ (var ∷ h.around.vars))
collapsed t h d var line number directive other first last step body ss e = record {
  to = λ x k. at_test (λ b. b ≡ true → (bytes_eq x other || (bytes_eq x var || has_name x h.around.vars)) ≡ true
      → ((bytes_eq x var || has_name x
      (variables_of (if b then inner_head (statement (loop line number directive other first last step body) ss) else None))) || has_name x
      h.around.vars) ≡ true)
      (is_nest d (statement (loop line number directive other first last step body) ss))
      (λ g n i. one_way (bytes_eq x other) (bytes_eq x var) (has_name x h.around.vars) i) (λ g n. never false n refl) e k;
  from = λ x k. at_test (λ b. b ≡ true
      → ((bytes_eq x var || has_name x
      (variables_of (if b then inner_head (statement (loop line number directive other first last step body) ss) else None))) || has_name x
      h.around.vars) ≡ true → (bytes_eq x other || (bytes_eq x var || has_name x h.around.vars)) ≡ true)
      (is_nest d (statement (loop line number directive other first last step body) ss))
      (λ g n i. other_way (bytes_eq x other) (bytes_eq x var) (has_name x h.around.vars) i) (λ g n. never false n refl) e k;
}
  where
    one_way : (o a b : Bool) → (o || (a || b)) ≡ true → ((a || (o || false)) || b) ≡ true
    one_way true true b i = refl
    one_way true false b i = refl
    one_way false true b i = refl
    one_way false false b i = i

    other_way : (o a b : Bool) → ((a || (o || false)) || b) ≡ true → (o || (a || b)) ≡ true
    other_way true a b i = refl
    other_way false true b i = refl
    other_way false false b i = i

abbrev iterating : (t : Setup) (h : Spot t) (line number : ℕ) (d : Directive) (var : List ℕ) (body : Statements)
    → Loop t h line number d var body → Around t h d var body (var ∷ h.around.vars) → Spot t
iterating t h line number d var body l a = record {
  around = m.at_body h.around var (m.made_parallel (Some d) var body);
  needed = rounds_needed t h d var body;
  live = rounds_live t h d var body;
  held = λ x. None;
  outer = var ∷ h.outer;
  accessed = makes_accesses h.outer var d body;
  pluses = λ x. is_plus (sharing_in var d body x);
  choice = t.choices number;
  scene = rounds_scene t h line number d var body l (var ∷ h.around.vars) a.to a.from;
}

abbrev iterating_inner : (t : Setup) (h : Spot t) (line number : ℕ) (d : Directive) (var : List ℕ) (body : Statements)
    → Loop t h line number d var body → (other : List ℕ) → Around t h d var body (other ∷ (var ∷ h.around.vars)) → Spot t
iterating_inner t h line number d var body l other a = record {
  around = m.at_body (m.at_body h.around var (m.made_parallel (Some d) var body)) other None;
  needed = rounds_needed t h d var body;
  live = rounds_live t h d var body;
  held = λ x. None;
  outer = var ∷ h.outer;
  accessed = makes_accesses h.outer var d body;
  pluses = λ x. is_plus (sharing_in var d body x);
  choice = t.choices number;
  scene = rounds_scene t h line number d var body l (other ∷ (var ∷ h.around.vars)) a.to a.from;
}

-- ---- loops

-- the kinds of a loop
record LoopKinds (t : Setup) (first last : Expression) (step : Option Expression) (body : Statements) : Type 0 where
  pub head : HeadKinds (declared_names (decls_in t)) first last step
  pub inside : are_well_kinded_statements (declared_names (decls_in t)) body ≡ true

loop_kinds : (t : Setup) (directive : Option Directive) (var : List ℕ) (first last : Expression) (step : Option Expression) (body : Statements)
    → (is_well_kinded_head (declared_names (decls_in t)) var first last step &&
    (has_scalar_privates (declared_names (decls_in t)) directive && are_well_kinded_statements (declared_names (decls_in t)) body)) ≡
    true → LoopKinds t first last step body
loop_kinds t directive var first last step body h =
    let names = declared_names (decls_in t) in
    let q = and_parts (is_well_kinded_head names var first last step)
    (has_scalar_privates names directive && are_well_kinded_statements names body) h in
    record {
      head = head_kinds names var first last step q.0;
      inside =
          (and_parts (has_scalar_privates names directive) (are_well_kinded_statements names body) q.1).1;
    }

pub record LoopReadable (directive : Option Directive) (body : Statements) : Type 0 where
  pub alone : not (is_parallel directive && has_parallel_in body) ≡ true
  pub inside : are_readable_statements body ≡ true

pub loop_readable : (directive : Option Directive) (var : List ℕ) (first last : Expression) (step : Option Expression) (body : Statements)
    → (is_readable_directive directive &&
    (not (is_parallel directive && has_parallel_in body) &&
    (is_variable var && (is_readable first && (is_readable last && (is_readable_step step && are_readable_statements body)))))) ≡ true
    → LoopReadable directive body
loop_readable directive var first last step body h =
    let q = and_parts (is_readable_directive directive)
    (not (is_parallel directive && has_parallel_in body) &&
    (is_variable var && (is_readable first && (is_readable last && (is_readable_step step && are_readable_statements body))))) h in
    let r = and_parts (not (is_parallel directive && has_parallel_in body))
    (is_variable var && (is_readable first && (is_readable last && (is_readable_step step && are_readable_statements body)))) q.1 in
    let k = and_parts (is_variable var) (is_readable first && (is_readable last && (is_readable_step step && are_readable_statements body))) r.1 in
    let i = and_parts (is_readable first) (is_readable last && (is_readable_step step && are_readable_statements body)) k.1 in
    let j = and_parts (is_readable last) (is_readable_step step && are_readable_statements body) i.1 in
    record { alone = r.0; inside = (and_parts (is_readable_step step) (are_readable_statements body) j.1).1 }

fewer : (first last : Expression) (step : Option Expression) (body : Statements)
    → nodes first + nodes last + step_nodes step + nodes_of_all body + 1 < 2 ^ 64 → nodes_of_all body < 2 ^ 64
fewer first last step body h = omega arith

few_first : (first last : Expression) (step : Option Expression) (body ss : Statements)
    → (nodes first + nodes last + step_nodes step + nodes_of_all body + 1) + nodes_of_all ss < 2 ^ 64
    → nodes first + nodes last + step_nodes step + nodes_of_all body + 1 < 2 ^ 64
few_first first last step body ss h = omega arith

the_loop : (t : Setup) → Facts t
    → (h : Spot t) (line number : ℕ) (d : Directive) (var : List ℕ) (first last : Expression) (step : Option Expression) (body : Statements)
    → GivenOne t h (loop line number (Some d) var first last step body)
    → PartOne t h.choice (loop line number (Some d) var first last step body) → Loop t h line number d var body
the_loop t f h line number d var first last step body g part =
    let l : ParallelLoop = record { line = line; number = number; outer = h.around.vars; directive = d; var = var; body = body } in
    record {
      facts = f;
      outside = g.outside refl;
      clean = loop_clean t.program h.around line number (Some d) var first last step body g.clean;
      scoped = λ x i. part.scoped x
          (or_to (bytes_eq x var) (has_name x d.privates || varies_in x body)
          (λ e. or_left (bytes_eq x var) (has_name x d.privates || scopes_in x body) e)
          (λ e. or_right (bytes_eq x var) (has_name x d.privates || scopes_in x body)
          (or_to (has_name x d.privates) (varies_in x body) (λ o. or_left (has_name x d.privates) (scopes_in x body) o)
          (λ o. or_right (has_name x d.privates) (scopes_in x body) (variable_all x body o)) e)) i);
      varying = part.varied;
      fitting = g.fitting l (inl refl);
      flat = not_yes (has_parallel_in body) (loop_readable (Some d) var first last step body g.read).alone;
    }

-- ---- all statements

mutual
  pub statement_sound : (t : Setup) → Facts t → (a : Statement) (h : Spot t) → GivenOne t h a → PartOne t h.choice a
      → Sound (world_of t h) (use_of t h) a
  statement_sound t f (assignment line atomic p e) h g part =
      assignment_sound t f h.around.vars h.around.parallel h.needed h.live h.held h.scene h.outer h.accessed h.pluses h.choice line atomic p e
      (assignment_clean t.program h.around line atomic p e g.clean) g.kinds part
  statement_sound t f (branch line arms other) h g part =
      let names = declared_names (decls_in t) in
      let k : Given t h (m.in_arms h.around line arms ++ m.in_statements h.around other)
      (are_well_kinded_arms names arms && are_well_kinded_statements names other)
      (are_readable_arms arms && are_readable_statements other) (arm_nodes arms + nodes_of_all other)
      (loops_of_arms h.around.vars arms ++ loops_of_all h.around.vars other) (has_parallel_in_arms arms || has_parallel_in other) = record {
        clean = g.clean;
        kinds = g.kinds;
        read = (and_parts (has_arm arms) (are_readable_arms arms && are_readable_statements other) g.read).1;
        few = (let i : arm_nodes arms + nodes_of_all other + 1 < 2 ^ 64 = g.few in omega arith);
        fitting = g.fitting;
        outside = g.outside;
      } in
      let one = left_given t h (m.in_arms h.around line arms) (m.in_statements h.around other) (are_well_kinded_arms names arms)
      (are_well_kinded_statements names other) (are_readable_arms arms) (are_readable_statements other) (arm_nodes arms)
      (nodes_of_all other) (loops_of_arms h.around.vars arms) (loops_of_all h.around.vars other) (has_parallel_in_arms arms)
      (has_parallel_in other) k in
      let two = right_given t h (m.in_arms h.around line arms) (m.in_statements h.around other) (are_well_kinded_arms names arms)
      (are_well_kinded_statements names other) (are_readable_arms arms) (are_readable_statements other) (arm_nodes arms)
      (nodes_of_all other) (loops_of_arms h.around.vars arms) (loops_of_all h.around.vars other) (has_parallel_in_arms arms)
      (has_parallel_in other) k in (
        (let i : arm_count arms ≤ arm_nodes arms = few_arms arms in let j : arm_nodes arms < 2 ^ 64 = one.few in omega arith),
        arms_sound t f arms h line one (arms_part t h.choice line arms other part),
        statements_sound t f other h two (other_part t h.choice line arms other part),
      )
  statement_sound t f (loop line number None var first last step body) h g part =
      let c = loop_clean t.program h.around line number None var first last step body g.clean in
      let v = part.varied var (or_left (bytes_eq var var) (varies_in var body) (itself var)) in
      let s = part.scoped var (or_left (bytes_eq var var) (scopes_in var body) (itself var)) in
      let k = loop_kinds t None var first last step body g.kinds in (
        variable_sound t f h var first last step c.variable v s k.head,
        λ n. statements_sound t f body (turned t h var n v)
            (record {
              clean = c.inside;
              kinds = k.inside;
              read = (loop_readable None var first last step body g.read).inside;
              few = fewer first last step body g.few;
              fitting = g.fitting;
              outside = λ o. turned_outside t h var n v (g.outside o);
            })
            (body_part t h.choice h.choice line number None var first last step body part (λ x i. part.summed x i)),
      )
  statement_sound t f (loop line number (Some d) var first last step body) h g part =
      let l = the_loop t f h line number d var first last step body g part in
      let k = loop_kinds t (Some d) var first last step body g.kinds in
      let r = (loop_readable (Some d) var first last step body g.read).inside in
      let few = fewer first last step body g.few in
      let chosen : PartAll t (t.choices number) body =
      body_part t h.choice (t.choices number) line number (Some d) var first last step body part
      (λ x i a. fails (is_reduction (t.choices number x)) (λ o. never (assigns_in x body) i (l.fitting x a o).kept)) in
      let w = in_iteration (world_of t h) number d var body in
      let u = use_at t (rounds_needed t h d var body) (rounds_live t h d var body) (λ x. None) in (
        u,
        rounds_sound t h line number d var body l,
        k.head.literals,
        further_literals (declared_names (decls_in t)) d body k.inside,
        at_test (λ b. cond b (SoundInner w u body) (SoundAll w u body)) (is_nest d body)
            (λ e. inner_sound t f body h line number d var l e k.inside r few (λ q i. g.fitting q (inr i)) chosen)
            (λ e. statements_sound t f body (iterating t h line number d var body l (alone t h d var body e))
            (record {
              clean = l.clean.inside;
              kinds = k.inside;
              read = r;
              few = few;
              fitting =
                  λ q i. g.fitting q (inr i);
              outside = λ o. never (has_parallel_in body) o l.flat;
            }) chosen),
        flat_all body l.flat,
      )

  pub statements_sound : (t : Setup) → Facts t → (ss : Statements) (h : Spot t) → GivenAll t h ss → PartAll t h.choice ss
      → SoundAll (world_of t h) (use_of t h) ss
  statements_sound t f no_statements h g part = tt
  statements_sound t f (statement a ss) h g part =
      let names = declared_names (decls_in t) in (
        statement_sound t f a h
            (left_given t h (m.in_statement h.around a) (m.in_statements h.around ss) (is_well_kinded_statement names a)
            (are_well_kinded_statements names ss) (is_readable_statement a) (are_readable_statements ss) (statement_nodes a)
            (nodes_of_all ss) (loops_of h.around.vars a) (loops_of_all h.around.vars ss) (has_parallel a) (has_parallel_in ss) g)
            (first_part t h.choice a ss part),
        statements_sound t f ss h
            (right_given t h (m.in_statement h.around a) (m.in_statements h.around ss) (is_well_kinded_statement names a)
            (are_well_kinded_statements names ss) (is_readable_statement a) (are_readable_statements ss) (statement_nodes a)
            (nodes_of_all ss) (loops_of h.around.vars a) (loops_of_all h.around.vars ss) (has_parallel a) (has_parallel_in ss) g)
            (rest_part t h.choice a ss part),
      )

  arms_sound : (t : Setup) → Facts t → (arms : Arms) (h : Spot t) (line : ℕ) → GivenArms t h line arms → PartArms t h.choice arms
      → SoundArms (world_of t h) (use_of t h) arms
  arms_sound t f no_arms h line g part = tt
  arms_sound t f (arm test body arms) h line g part =
      let names = declared_names (decls_in t) in
      let k : Given t h (m.in_statements h.around body ++ m.in_arms h.around line arms)
      (are_well_kinded_statements names body && are_well_kinded_arms names arms)
      (are_readable_statements body && are_readable_arms arms) (nodes_of_all body + arm_nodes arms)
      (loops_of_all h.around.vars body ++ loops_of_arms h.around.vars arms) (has_parallel_in body || has_parallel_in_arms arms) = record {
        clean = (apart t.program (m.in_condition (m.at_line h.around line) test)
            (m.in_statements h.around body ++ m.in_arms h.around line arms) g.clean).1;
        kinds = (and_parts (is_well_kinded_condition names test) (are_well_kinded_statements names body && are_well_kinded_arms names arms)
            g.kinds).1;
        read = (and_parts (is_readable_condition test) (are_readable_statements body && are_readable_arms arms) g.read).1;
        few = (let i : condition_nodes test + nodes_of_all body + arm_nodes arms + 1 < 2 ^ 64 = g.few in omega arith);
        fitting = g.fitting;
        outside = g.outside;
      } in (
        statements_sound t f body h
            (left_given t h (m.in_statements h.around body) (m.in_arms h.around line arms) (are_well_kinded_statements names body)
            (are_well_kinded_arms names arms) (are_readable_statements body) (are_readable_arms arms) (nodes_of_all body)
            (arm_nodes arms) (loops_of_all h.around.vars body) (loops_of_arms h.around.vars arms) (has_parallel_in body)
            (has_parallel_in_arms arms) k)
            (arm_part t h.choice test body arms part),
        arms_sound t f arms h line
            (right_given t h (m.in_statements h.around body) (m.in_arms h.around line arms) (are_well_kinded_statements names body)
            (are_well_kinded_arms names arms) (are_readable_statements body) (are_readable_arms arms) (nodes_of_all body)
            (arm_nodes arms) (loops_of_all h.around.vars body) (loops_of_arms h.around.vars arms) (has_parallel_in body)
            (has_parallel_in_arms arms) k)
            (later_part t h.choice test body arms part),
      )

  -- the statements of the loop in a collapsed loop's body
  inner_sound : (t : Setup) → Facts t → (body : Statements) (h : Spot t) (line number : ℕ) (d : Directive) (var : List ℕ)
      → Loop t h line number d var body → is_nest d body ≡ true → are_well_kinded_statements (declared_names (decls_in t)) body ≡ true
      → are_readable_statements body ≡ true → nodes_of_all body < 2 ^ 64
      → ((q : ParallelLoop) → IsAmong (loops_of_all (var ∷ h.around.vars) body) q → (x : List ℕ) → t.active x ≡ true
      → is_reduction (t.choices q.number x) ≡ true → IsCollectable t.program q x)
      → PartAll t (t.choices number) body
      → SoundInner (in_iteration (world_of t h) number d var body) (use_at t (rounds_needed t h d var body) (rounds_live t h d var body) (λ x. None)) body
  inner_sound t f no_statements h line number d var l e kinds read few fit part = tt
  inner_sound t f (statement (assignment at atomic p v) ss) h line number d var l e kinds read few fit part = tt
  inner_sound t f (statement (branch at arms other) ss) h line number d var l e kinds read few fit part = tt
  inner_sound t f (statement (loop at count None other first last step body) ss) h line number d var l e kinds read few fit part =
      let names = declared_names (decls_in t) in
      let whole = statement (loop at count None other first last step body) ss in
      let s = m.at_body h.around var (m.made_parallel (Some d) var whole) in
      let c = loop_clean t.program s at count None other first last step body
      (apart t.program (m.in_statement s (loop at count None other first last step body)) (m.in_statements s ss) l.clean.inside).0 in
      let one = first_part t (t.choices number) (loop at count None other first last step body) ss part in
      statements_sound t f body (iterating_inner t h line number d var whole l other
      (collapsed t h d var at count None other first last step body ss e))
      (record {
        clean = c.inside;
        kinds = (loop_kinds t None other first last step body
            (and_parts (is_well_kinded_statement names (loop at count None other first last step body))
            (are_well_kinded_statements names ss) kinds).0).inside;
        read = (loop_readable None other first last step body
            (and_parts (is_readable_statement (loop at count None other first last step body)) (are_readable_statements ss) read).0).inside;
        few = fewer first last step body (few_first first last step body ss few);
        fitting = λ q i. fit q (in_left (loops_of_all (other ∷ (var ∷ h.around.vars)) body) (loops_of_all (var ∷ h.around.vars) ss) q i);
        outside = λ o. never (has_parallel_in body) o (or_parts (has_parallel_in body) (has_parallel_in ss) l.flat).0;
      })
      (body_part t (t.choices number) (t.choices number) at count None other first last step body one (λ x i. one.summed x i))
  inner_sound t f (statement (loop at count (Some directive) other first last step body) ss) h line number d var l e kinds read few fit
      part = never true refl l.flat
