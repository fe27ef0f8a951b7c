-- What is given of a part of a program's body, and of its parts.
use Rattle.std.proofs.Common.{◌≡◌, ℕ, ◌+◌, ◌<◌, ◌≤◌, ◌^◌, Bool, true, false, ◌&&◌, ◌||◌, bytes_eq, List, ◌++◌, Option, Some, None, refl, ap, ◌∙◌, arith}
use Rattle.std.proofs.lemmas.Bool.{and_parts, or_parts, or_from, or_left, or_right}
use Rattle.fl_ast.specs.declared.directive.Directive.{Directive}
use Rattle.fl_ast.specs.declared.stmt.Program.{Program}
use Rattle.fl_ast.specs.Measures.{nodes_of_all, statement_nodes, arm_nodes}
use Rattle.fl_ast.specs.Readable.{has_parallel, has_parallel_in, has_parallel_in_arms, is_readable_statement, are_readable_statements, are_readable_arms}
use Rattle.fl_ast.specs.Tree.{Expression, Statement, assignment, branch, loop, Statements, no_statements, statement, Arms, no_arms, arm}
use Rattle.fl_types.specs.declared.choice.Choice.{Choice}
use Rattle.fl_types.specs.Kinds.{declared_names, is_well_kinded_statement, are_well_kinded_statements, are_well_kinded_arms}
use Rattle.fl_types.specs.Sharing.{has_name, varies, varies_in, varies_in_arms, ParallelLoop, loops_of, loops_of_all, loops_of_arms}
use Rattle.fl_types.specs.Mentions as m
use Rattle.fl_types.specs.Mentions.{Region, Surroundings, Mention, a_variable, a_listed, a_directive}
use Rattle.fl_types.specs.Rows.{is_varying}
use Rattle.store_core.specs.Scopes.{is_listed_private, scopes, scopes_in, scopes_in_arms}
use Rattle.reachability.specs.Reached.{IsAmong}
use Rattle.typing.proofs.Faultless.{Clean, apart, at_first}
use Rattle.transposition.specs.Worlds.{World, is_reduction}
use Rattle.transposition.specs.Law.{Use}
use Rattle.transposition.specs.Calms.{IsFlat, AreFlat, AreFlatArms}
use Rattle.transposition.specs.Sound.{writes, writes_in, writes_in_arms, arm_count}
use Rattle.sound_programs.specs.Uses.{IsCollectable}
use Rattle.sound_programs.proofs.Lists.{in_left, in_right, never, fails, or_to, same_name}
use Rattle.sound_programs.proofs.Mentioned.{IsVariable, variable_clean, assignment_clean}
use Rattle.sound_programs.proofs.Setups.{Setup, decls_in, is_scoped, Scene, world_at, use_at}

-- ---- loops

pub head_clean : (p : Program) (s : Surroundings) (line : ℕ) (var : List ℕ) (first last : Expression) (step : Option Expression)
    → Clean p (m.in_head (m.at_bounds s line) var first last step) → IsVariable p s.vars var
head_clean p s line var first last step h =
    variable_clean p (m.at_bounds s line) var
    (at_first p (a_variable (m.at_bounds s line) var)
    (m.in_bound (m.at_bounds s line) first ++ (m.in_bound (m.at_bounds s line) last ++ m.in_step (m.at_bounds s line) step)) h).0

-- a loop: its variable, and its body
pub record LoopClean (p : Program) (s : Surroundings) (directive : Option Directive) (var : List ℕ) (body : Statements) : Type 0 where
  pub variable : IsVariable p s.vars var
  pub inside : Clean p (m.in_statements (m.at_body s var (m.made_parallel directive var body)) body)

pub loop_clean : (p : Program) (s : Surroundings) (line number : ℕ) (directive : Option Directive) (var : List ℕ) (first last : Expression)
    (step : Option Expression) (body : Statements)
    → Clean p (m.in_statement s (loop line number directive var first last step body)) → LoopClean p s directive var body
loop_clean p s line number directive var first last step body h =
    let l = m.made_parallel directive var body in
    let q = apart p (m.in_directive l) (m.in_head (m.at_bounds s line) var first last step ++ m.in_statements (m.at_body s var l) body) h in
    let r = apart p (m.in_head (m.at_bounds s line) var first last step) (m.in_statements (m.at_body s var l) body) q.1 in
    record { variable = head_clean p s line var first last step r.0; inside = r.1 }

-- ---- variables aren't set

mutual
  unset_one : (p : Program) (s : Surroundings) (x : List ℕ) (a : Statement) → Clean p (m.in_statement s a) → has_parallel a ≡ false
      → has_name x s.vars ≡ true → is_varying p x ≡ true → writes x a ≡ false
  unset_one p s x (assignment line atomic t e) h f o v =
      fails (bytes_eq x t.name) (λ k. never (is_varying p x) v
      (ap (is_varying p) (same_name x t.name k) ∙ (assignment_clean p s line atomic t e h).target.fixed))
  unset_one p s x (branch line arms other) h f o v =
      let q = apart p (m.in_arms s line arms) (m.in_statements s other) h in
      let r = or_parts (has_parallel_in_arms arms) (has_parallel_in other) f in
      or_from (writes_in_arms x arms) (writes_in x other) (unset_arms p s line x arms q.0 r.0 o v) (unset_all p s x other q.1 r.1 o v)
  unset_one p s x (loop line number None var first last step body) h f o v =
      let c = loop_clean p s line number None var first last step body h in
      or_from (bytes_eq x var) (writes_in x body)
      (fails (bytes_eq x var) (λ k. never (has_name x s.vars) o (ap (λ y. has_name y s.vars) (same_name x var k) ∙ c.variable.new)))
      (unset_all p (m.at_body s var None) x body c.inside f (or_right (bytes_eq x var) (has_name x s.vars) o) v)
  unset_one p s x (loop line number (Some d) var first last step body) h f o v = never true refl f

  -- the variables of the loops around aren't set, without parallel loops not even unset
  pub unset_all : (p : Program) (s : Surroundings) (x : List ℕ) (ss : Statements) → Clean p (m.in_statements s ss) → has_parallel_in ss ≡ false
      → has_name x s.vars ≡ true → is_varying p x ≡ true → writes_in x ss ≡ false
  unset_all p s x no_statements h f o v = refl
  unset_all p s x (statement a ss) h f o v =
      let q = apart p (m.in_statement s a) (m.in_statements s ss) h in
      let r = or_parts (has_parallel a) (has_parallel_in ss) f in
      or_from (writes x a) (writes_in x ss) (unset_one p s x a q.0 r.0 o v) (unset_all p s x ss q.1 r.1 o v)

  unset_arms : (p : Program) (s : Surroundings) (line : ℕ) (x : List ℕ) (arms : Arms) → Clean p (m.in_arms s line arms)
      → has_parallel_in_arms arms ≡ false → has_name x s.vars ≡ true → is_varying p x ≡ true → writes_in_arms x arms ≡ false
  unset_arms p s line x no_arms h f o v = refl
  unset_arms p s line x (arm test body arms) h f o v =
      let q = apart p (m.in_statements s body) (m.in_arms s line arms)
      (apart p (m.in_condition (m.at_line s line) test) (m.in_statements s body ++ m.in_arms s line arms) h).1 in
      let r = or_parts (has_parallel_in body) (has_parallel_in_arms arms) f in
      or_from (writes_in x body) (writes_in_arms x arms) (unset_all p s x body q.0 r.0 o v) (unset_arms p s line x arms q.1 r.1 o v)

-- ---- variables are loops' own

mutual
  variable_one : (x : List ℕ) (a : Statement) → varies x a ≡ true → scopes x a ≡ true
  variable_one x (assignment line atomic t e) h = h
  variable_one x (branch line arms other) h =
      or_to (varies_in_arms x arms) (varies_in x other) (λ k. or_left (scopes_in_arms x arms) (scopes_in x other) (variable_arms x arms k))
      (λ k. or_right (scopes_in_arms x arms) (scopes_in x other) (variable_all x other k)) h
  variable_one x (loop line number directive var first last step body) h =
      or_to (bytes_eq x var) (varies_in x body) (λ k. or_left (bytes_eq x var) (is_listed_private x directive || scopes_in x body) k)
      (λ k. or_right (bytes_eq x var) (is_listed_private x directive || scopes_in x body)
      (or_right (is_listed_private x directive) (scopes_in x body) (variable_all x body k))) h

  pub variable_all : (x : List ℕ) (ss : Statements) → varies_in x ss ≡ true → scopes_in x ss ≡ true
  variable_all x no_statements h = h
  variable_all x (statement a ss) h =
      or_to (varies x a) (varies_in x ss) (λ k. or_left (scopes x a) (scopes_in x ss) (variable_one x a k))
      (λ k. or_right (scopes x a) (scopes_in x ss) (variable_all x ss k)) h

  variable_arms : (x : List ℕ) (arms : Arms) → varies_in_arms x arms ≡ true → scopes_in_arms x arms ≡ true
  variable_arms x no_arms h = h
  variable_arms x (arm test body arms) h =
      or_to (varies_in x body) (varies_in_arms x arms) (λ k. or_left (scopes_in x body) (scopes_in_arms x arms) (variable_all x body k))
      (λ k. or_right (scopes_in x body) (scopes_in_arms x arms) (variable_arms x arms k)) h

-- ---- no parallel loop in another

mutual
  flat_one : (a : Statement) → has_parallel a ≡ false → IsFlat a
  flat_one (assignment line atomic t e) h = tt
  flat_one (branch line arms other) h = let q =
      or_parts (has_parallel_in_arms arms) (has_parallel_in other) h in (flat_arms arms q.0, flat_all other q.1)
  flat_one (loop line number None var first last step body) h = flat_all body h
  flat_one (loop line number (Some d) var first last step body) h = never true refl h

  pub flat_all : (ss : Statements) → has_parallel_in ss ≡ false → AreFlat ss
  flat_all no_statements h = tt
  flat_all (statement a ss) h = let q = or_parts (has_parallel a) (has_parallel_in ss) h in (flat_one a q.0, flat_all ss q.1)

  flat_arms : (arms : Arms) → has_parallel_in_arms arms ≡ false → AreFlatArms arms
  flat_arms no_arms h = tt
  flat_arms (arm test body arms) h = let q = or_parts (has_parallel_in body) (has_parallel_in_arms arms) h in (flat_all body q.0, flat_arms arms q.1)

-- ---- where a part stands

pub record Spot (t : Setup) : Type 0 where
  pub around : Surroundings
  pub needed : List ℕ → Bool
  pub live : List ℕ → Bool
  pub held : List ℕ → Option ℕ
  pub outer : List (List ℕ)
  pub accessed : List ℕ → Bool
  pub pluses : List ℕ → Bool
  pub choice : List ℕ → Choice
  pub scene : Scene t around.vars around.parallel needed live held

abbrev pub world_of : (t : Setup) → Spot t → World
world_of t h = world_at t h.outer h.accessed h.pluses h.choice

abbrev pub use_of : (t : Setup) → Spot t → Use
use_of t h = use_at t h.needed h.live h.held

-- outside of parallel loops
pub record Outside (t : Setup) (h : Spot t) : Type 0 where
  pub alone : h.around.parallel ≡ None
  pub silent : (x : List ℕ) → h.accessed x ≡ false
  pub outer : (x : List ℕ) → has_name x h.outer ≡ true → has_name x h.around.vars ≡ true
  pub own : (x : List ℕ) → h.needed x ≡ true → is_scoped t x ≡ true → has_name x h.around.vars ≡ true
  pub dead : (x : List ℕ) → h.live x ≡ true → is_scoped t x ≡ false
  pub holds : (x : List ℕ) → has_name x h.around.vars ≡ true → (m : ℕ) × (h.held x ≡ Some m)

-- what typing and the limits of texts give of a part with these names and numbers, this many nodes, and these parallel loops
pub record Given (t : Setup) (h : Spot t) (ms : List Mention) (kinded readable : Bool) (nodes : ℕ) (loops : List ParallelLoop)
    (parallel : Bool) : Type 0 where
  pub clean : Clean t.program ms
  pub kinds : kinded ≡ true
  pub read : readable ≡ true
  pub few : nodes < 2 ^ 64
  pub fitting : (l : ParallelLoop) → IsAmong loops l → (x : List ℕ) → t.active x ≡ true → is_reduction (t.choices l.number x) ≡ true
      → IsCollectable t.program l x
  pub outside : parallel ≡ true → Outside t h

abbrev pub GivenOne : (t : Setup) → Spot t → Statement → Type 0
GivenOne t h a = Given t h (m.in_statement h.around a) (is_well_kinded_statement (declared_names (decls_in t)) a) (is_readable_statement a)
    (statement_nodes a) (loops_of h.around.vars a) (has_parallel a)

abbrev pub GivenAll : (t : Setup) → Spot t → Statements → Type 0
GivenAll t h ss = Given t h (m.in_statements h.around ss) (are_well_kinded_statements (declared_names (decls_in t)) ss)
    (are_readable_statements ss) (nodes_of_all ss) (loops_of_all h.around.vars ss) (has_parallel_in ss)

abbrev pub GivenArms : (t : Setup) → Spot t → ℕ → Arms → Type 0
GivenArms t h line arms = Given t h (m.in_arms h.around line arms) (are_well_kinded_arms (declared_names (decls_in t)) arms)
    (are_readable_arms arms) (arm_nodes arms) (loops_of_arms h.around.vars arms) (has_parallel_in_arms arms)

pub left_given : (t : Setup) (h : Spot t) (ms ns : List Mention) (ka kb ra rb : Bool) (a b : ℕ) (ls ks : List ParallelLoop) (pa pb : Bool)
    → Given t h (ms ++ ns) (ka && kb) (ra && rb) (a + b) (ls ++ ks) (pa || pb) → Given t h ms ka ra a ls pa
left_given t h ms ns ka kb ra rb a b ls ks pa pb g = record {
  clean = (apart t.program ms ns g.clean).0;
  kinds = (and_parts ka kb g.kinds).0;
  read = (and_parts ra rb g.read).0;
  few = (let k : a + b < 2 ^ 64 = g.few in omega arith);
  fitting = λ l i. g.fitting l (in_left ls ks l i);
  outside = λ k. g.outside (or_left pa pb k);
}

pub right_given : (t : Setup) (h : Spot t) (ms ns : List Mention) (ka kb ra rb : Bool) (a b : ℕ) (ls ks : List ParallelLoop) (pa pb : Bool)
    → Given t h (ms ++ ns) (ka && kb) (ra && rb) (a + b) (ls ++ ks) (pa || pb) → Given t h ns kb rb b ks pb
right_given t h ms ns ka kb ra rb a b ls ks pa pb g = record {
  clean = (apart t.program ms ns g.clean).1;
  kinds = (and_parts ka kb g.kinds).1;
  read = (and_parts ra rb g.read).1;
  few = (let k : a + b < 2 ^ 64 = g.few in omega arith);
  fitting = λ l i. g.fitting l (in_right ls ks l i);
  outside = λ k. g.outside (or_right pa pb k);
}

-- ---- arms

pub few_arms : (arms : Arms) → arm_count arms ≤ arm_nodes arms
few_arms no_arms = omega arith
few_arms (arm test body arms) = let h : arm_count arms ≤ arm_nodes arms = few_arms arms in omega arith
