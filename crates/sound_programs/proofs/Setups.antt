-- A program with its sets of names, the parts of its body, and what is in scope at a statement.
use Rattle.std.proofs.Common.{◌≡◌, ◌⊎◌, ℕ, ◌<◌, ◌≤◌, Bool, true, false, not, ◌&&◌, ◌||◌, bytes_eq, List, [], ◌++◌, map, length, Option, Some, None, refl, ap}
use Rattle.std.proofs.lemmas.Bool.{or_parts, or_left, or_right, and_from}
use Rattle.fl_ast.specs.declared.decl.Decl.{Decl}
use Rattle.fl_ast.specs.declared.directive.Directive.{Directive}
use Rattle.fl_ast.specs.declared.stmt.Program.{Program}
use Rattle.fl_ast.specs.Tree.{Expression, Condition, Statement, assignment, branch, loop, Statements, no_statements, statement, Arms, no_arms, arm, stmt_trees}
use Rattle.fl_types.specs.declared.choice.Choice.{Choice}
use Rattle.fl_types.specs.Sharing.{has_name, is_ring_name, varies, varies_in, varies_in_arms, assigns, assigns_in, assigns_in_arms}
use Rattle.fl_types.specs.Declarations.{is_declared}
use Rattle.fl_types.specs.Mentions.{Region}
use Rattle.fl_types.specs.Rows.{is_varying, is_private_name, is_private_within, is_private_within_all, is_private_within_arms, is_own_in}
use Rattle.store_core.specs.declared.layout.Shape.{Shape}
use Rattle.store_core.specs.Keys.{keys_of, with_scalars}
use Rattle.store_core.specs.Scopes.{is_listed_private, scopes, scopes_in, scopes_in_arms}
use Rattle.meaning.specs.Sites.{Key, data_width}
use Rattle.reachability.specs.Reached.{Edge, IsAmong}
use Rattle.activity.specs.Active.{flows, flows_in, flows_in_arms}
use Rattle.adjoint_rules.specs.Needed.{Kinds, read_by, read_by_all, read_by_arms, restorings, restorings_in, restorings_in_arms}
use Rattle.adjoint_choices.specs.Choosing.{is_scalar_name}
use Rattle.transposition.specs.Worlds.{World, is_reduction, name_at}
use Rattle.transposition.specs.Law.{Use}
use Rattle.sound_programs.proofs.Lists.{in_left, in_right, never, no_not, by_cases, or_to}
use Rattle.sound_programs.specs.Accepted.{HasOnePlace, HasPlace}
use Rattle.sound_programs.proofs.Mentioned.{IsUsable, IsTarget}

-- ---- a program

pub record Setup : Type 0 where
  pub program : Program
  pub shapes : List Shape
  pub needed : List ℕ → Bool
  pub active : List ℕ → Bool
  pub moved : List ℕ → Bool
  pub useful : List ℕ → Bool
  pub choices : ℕ → List ℕ → Choice

abbrev pub decls_in : Setup → List Decl
decls_in t = t.program.decls

abbrev pub body_in : Setup → Statements
body_in t = stmt_trees t.program.body

abbrev pub keys_in : Setup → List Key
keys_in t = keys_of (with_scalars t.shapes t.program.decls)

-- the number of places
abbrev pub count_in : Setup → ℕ
count_in t = length (keys_of t.shapes)

abbrev pub kinds_in : Setup → Kinds
kinds_in t = record { active = t.active; ring = is_ring_name t.program.decls }

abbrev pub is_scoped : Setup → List ℕ → Bool
is_scoped t x = scopes_in x (body_in t)

-- where a statement stands
abbrev pub world_at : Setup → (outer : List (List ℕ)) → (accessed pluses : List ℕ → Bool) → (List ℕ → Choice) → World
world_at t outer accessed pluses choice = record {
  site = record {
    keys = keys_in t;
    declared = map (λ (d : Decl). d.name) t.program.decls;
    ring = is_ring_name t.program.decls;
    width = data_width t.program.decls;
    pushed = t.needed;
    outer = outer;
    accessed = accessed;
    pluses = pluses;
  };
  shared = count_in t;
  active = t.active;
  choice = choice;
  choices = t.choices;
}

-- held tells the words of the variables of sequential loops around, outside of parallel loops
abbrev pub use_at : Setup → (n l : List ℕ → Bool) → (held : List ℕ → Option ℕ) → Use
use_at t n l held = record { needed = n; live = l; moved = t.moved; held = held }

-- what its sets of names and its layout are
pub record Facts (t : Setup) : Type 0 where
  pub ring : (x : List ℕ) → t.active x ≡ true → is_ring_name (decls_in t) x ≡ true
  pub still : (x : List ℕ) → is_ring_name (decls_in t) x ≡ false → t.moved x ≡ false
  pub active_known : (x : List ℕ) → t.active x ≡ true → is_declared (decls_in t) x ≡ true
  pub needed_known : (x : List ℕ) → t.needed x ≡ true → is_declared (decls_in t) x ≡ true
  pub parts : (x : List ℕ) → t.active x ≡ true → (t.moved x ≡ true) × (t.useful x ≡ true)
  pub both : (x : List ℕ) → t.moved x ≡ true → t.useful x ≡ true → t.active x ≡ true
  -- loops' variables are of the index kind
  pub whole : (x : List ℕ) → is_varying t.program x ≡ true → is_ring_name (decls_in t) x ≡ false
  -- a loop's own name has a place of the iteration's own, others have places of the layout
  pub own : (x : List ℕ) → is_declared (decls_in t) x ≡ true → is_scoped t x ≡ true → HasOnePlace (keys_in t) (count_in t) x
  pub common : (x : List ℕ) → is_scalar_name (decls_in t) x ≡ true → is_scoped t x ≡ false → HasPlace (keys_in t) (count_in t) x
  pub low : (q : ℕ) → q < count_in t → is_scoped t (name_at (keys_in t) q) ≡ false
  pub high : (q : ℕ) → count_in t ≤ q → (name_at (keys_in t) q ≡ []) ⊎ (is_scoped t (name_at (keys_in t) q) ≡ true)
  pub nameless : is_declared (decls_in t) [] ≡ false

-- ---- a part of its body

-- a part that has these names as loops' own and as variables, that assigns these, and that has these reads and edges
pub record Part (t : Setup) (choice : List ℕ → Choice) (sc va assigned : List ℕ → Bool) (reads : List (List ℕ))
    (restores flow : List (Edge (List ℕ))) : Type 0 where
  pub scoped : (x : List ℕ) → sc x ≡ true → is_scoped t x ≡ true
  pub varied : (x : List ℕ) → va x ≡ true → is_varying t.program x ≡ true
  pub read : (x : List ℕ) → IsAmong reads x → is_declared (decls_in t) x ≡ true → t.needed x ≡ true
  pub restored : (e : Edge (List ℕ)) → IsAmong restores e → is_declared (decls_in t) e.tail ≡ true → is_declared (decls_in t) e.head ≡ true
      → t.needed e.tail ≡ true → t.needed e.head ≡ true
  pub flown : (e : Edge (List ℕ)) → IsAmong flow e → is_declared (decls_in t) e.tail ≡ true → is_declared (decls_in t) e.head ≡ true
      → (t.moved e.tail ≡ true → t.moved e.head ≡ true) × (t.useful e.head ≡ true → t.useful e.tail ≡ true)
  -- additions to the adjoint of what is assigned aren't collected
  pub summed : (x : List ℕ) → assigned x ≡ true → t.active x ≡ true → is_reduction (choice x) ≡ false

left_part : (t : Setup) (choice : List ℕ → Choice) (sa sb va vb aa ab : List ℕ → Bool) (ra rb : List (List ℕ)) (ea eb fa fb : List (Edge (List ℕ)))
    → Part t choice (λ x. sa x || sb x) (λ x. va x || vb x) (λ x. aa x || ab x) (ra ++ rb) (ea ++ eb) (fa ++ fb) → Part t choice sa va aa ra ea fa
left_part t choice sa sb va vb aa ab ra rb ea eb fa fb h = record {
  scoped = λ x k. h.scoped x (or_left (sa x) (sb x) k);
  varied = λ x k. h.varied x (or_left (va x) (vb x) k);
  read = λ x k. h.read x (in_left ra rb x k);
  restored = λ e k. h.restored e (in_left ea eb e k);
  flown = λ e k. h.flown e (in_left fa fb e k);
  summed = λ x k. h.summed x (or_left (aa x) (ab x) k);
}

right_part : (t : Setup) (choice : List ℕ → Choice) (sa sb va vb aa ab : List ℕ → Bool) (ra rb : List (List ℕ)) (ea eb fa fb : List (Edge (List ℕ)))
    → Part t choice (λ x. sa x || sb x) (λ x. va x || vb x) (λ x. aa x || ab x) (ra ++ rb) (ea ++ eb) (fa ++ fb) → Part t choice sb vb ab rb eb fb
right_part t choice sa sb va vb aa ab ra rb ea eb fa fb h = record {
  scoped = λ x k. h.scoped x (or_right (sa x) (sb x) k);
  varied = λ x k. h.varied x (or_right (va x) (vb x) k);
  read = λ x k. h.read x (in_right ra rb x k);
  restored = λ e k. h.restored e (in_right ea eb e k);
  flown = λ e k. h.flown e (in_right fa fb e k);
  summed = λ x k. h.summed x (or_right (aa x) (ab x) k);
}

abbrev pub PartOne : (t : Setup) → (List ℕ → Choice) → Statement → Type 0
PartOne t choice s = Part t choice (λ x. scopes x s) (λ x. varies x s) (λ x. assigns x s) (read_by (kinds_in t) s)
    (restorings (kinds_in t) s) (flows (is_ring_name (decls_in t)) s)

abbrev pub PartAll : (t : Setup) → (List ℕ → Choice) → Statements → Type 0
PartAll t choice ss = Part t choice (λ x. scopes_in x ss) (λ x. varies_in x ss) (λ x. assigns_in x ss) (read_by_all (kinds_in t) ss)
    (restorings_in (kinds_in t) ss) (flows_in (is_ring_name (decls_in t)) ss)

abbrev pub PartArms : (t : Setup) → (List ℕ → Choice) → Arms → Type 0
PartArms t choice arms =
    Part t choice (λ x. scopes_in_arms x arms) (λ x. varies_in_arms x arms) (λ x. assigns_in_arms x arms) (read_by_arms (kinds_in t) arms)
    (restorings_in_arms (kinds_in t) arms) (flows_in_arms (is_ring_name (decls_in t)) arms)

pub first_part : (t : Setup) (choice : List ℕ → Choice) (s : Statement) (ss : Statements) → PartAll t choice (statement s ss) → PartOne t choice s
first_part t choice s ss h = left_part t choice _ (λ x. scopes_in x ss) _ (λ x. varies_in x ss) _ (λ x. assigns_in x ss) _
    (read_by_all (kinds_in t) ss) _ (restorings_in (kinds_in t) ss) _ (flows_in (is_ring_name (decls_in t)) ss) h

pub rest_part : (t : Setup) (choice : List ℕ → Choice) (s : Statement) (ss : Statements) → PartAll t choice (statement s ss) → PartAll t choice ss
rest_part t choice s ss h = right_part t choice (λ x. scopes x s) _ (λ x. varies x s) _ (λ x. assigns x s) _ (read_by (kinds_in t) s) _
    (restorings (kinds_in t) s) _ (flows (is_ring_name (decls_in t)) s) _ h

pub arms_part : (t : Setup) (choice : List ℕ → Choice) (line : ℕ) (arms : Arms) (other : Statements)
    → PartOne t choice (branch line arms other) → PartArms t choice arms
arms_part t choice line arms ss h =
    left_part t choice _ (λ x. scopes_in x ss) _ (λ x. varies_in x ss) _ (λ x. assigns_in x ss) _ (read_by_all (kinds_in t) ss) _
    (restorings_in (kinds_in t) ss) _ (flows_in (is_ring_name (decls_in t)) ss) h

pub other_part : (t : Setup) (choice : List ℕ → Choice) (line : ℕ) (arms : Arms) (other : Statements)
    → PartOne t choice (branch line arms other) → PartAll t choice other
other_part t choice line arms ss h =
    right_part t choice (λ x. scopes_in_arms x arms) _ (λ x. varies_in_arms x arms) _ (λ x. assigns_in_arms x arms) _
    (read_by_arms (kinds_in t) arms) _ (restorings_in_arms (kinds_in t) arms) _ (flows_in_arms (is_ring_name (decls_in t)) arms) _ h

pub arm_part : (t : Setup) (choice : List ℕ → Choice) (test : Condition) (body : Statements) (arms : Arms)
    → PartArms t choice (arm test body arms) → PartAll t choice body
arm_part t choice test body arms h =
    left_part t choice _ (λ x. scopes_in_arms x arms) _ (λ x. varies_in_arms x arms) _ (λ x. assigns_in_arms x arms) _
    (read_by_arms (kinds_in t) arms) _ (restorings_in_arms (kinds_in t) arms) _ (flows_in_arms (is_ring_name (decls_in t)) arms) h

pub later_part : (t : Setup) (choice : List ℕ → Choice) (test : Condition) (body : Statements) (arms : Arms)
    → PartArms t choice (arm test body arms) → PartArms t choice arms
later_part t choice test body arms h =
    right_part t choice (λ x. scopes_in x body) _ (λ x. varies_in x body) _ (λ x. assigns_in x body) _ (read_by_all (kinds_in t) body) _
    (restorings_in (kinds_in t) body) _ (flows_in (is_ring_name (decls_in t)) body) _ h

-- in a loop, where the choices are others
pub body_part : (t : Setup) (choice chosen : List ℕ → Choice) (line number : ℕ) (directive : Option Directive) (var : List ℕ)
    (first last : Expression) (step : Option Expression) (body : Statements)
    → PartOne t choice (loop line number directive var first last step body)
    → ((x : List ℕ) → assigns_in x body ≡ true → t.active x ≡ true → is_reduction (chosen x) ≡ false) → PartAll t chosen body
body_part t choice chosen line number directive var first last step body h kept = record {
  scoped = λ x k. h.scoped x (or_right (bytes_eq x var) (is_listed_private x directive || scopes_in x body)
      (or_right (is_listed_private x directive) (scopes_in x body) k));
  varied = λ x k. h.varied x (or_right (bytes_eq x var) (varies_in x body) k);
  read = h.read;
  restored = h.restored;
  flown = h.flown;
  summed = kept;
}

-- ---- private names

-- a loop's own name that isn't a variable is private in a loop
mutual
  private_one : (x : List ℕ) (s : Statement) → varies x s ≡ false → scopes x s ≡ true → is_private_within x s ≡ true
  private_one x (assignment line atomic p e) v h = h
  private_one x (branch line arms other) v h =
      let q = or_parts (varies_in_arms x arms) (varies_in x other) v in
      or_to (scopes_in_arms x arms) (scopes_in x other)
      (λ k. or_left (is_private_within_arms x arms) (is_private_within_all x other) (private_arms x arms q.0 k))
      (λ k. or_right (is_private_within_arms x arms) (is_private_within_all x other) (private_all x other q.1 k)) h
  private_one x (loop line number None var first last step body) v h =
      let q = or_parts (bytes_eq x var) (varies_in x body) v in
      or_to (bytes_eq x var) (scopes_in x body) (λ k. never (bytes_eq x var) k q.0) (private_all x body q.1) h
  private_one x (loop line number (Some d) var first last step body) v h =
      let q = or_parts (bytes_eq x var) (varies_in x body) v in
      or_to (bytes_eq x var) (has_name x d.privates || scopes_in x body) (λ k. never (bytes_eq x var) k q.0)
      (or_to (has_name x d.privates) (scopes_in x body)
      (λ k. or_left (has_name x d.privates && not (bytes_eq x var || varies_in x body)) (is_private_within_all x body)
      (and_from (has_name x d.privates) (not (bytes_eq x var || varies_in x body)) k (ap not v)))
      (λ k. or_right (has_name x d.privates && not (bytes_eq x var || varies_in x body)) (is_private_within_all x body) (private_all x body q.1 k))) h

  pub private_all : (x : List ℕ) (ss : Statements) → varies_in x ss ≡ false → scopes_in x ss ≡ true → is_private_within_all x ss ≡ true
  private_all x no_statements v h = h
  private_all x (statement s ss) v h =
      let q = or_parts (varies x s) (varies_in x ss) v in
      or_to (scopes x s) (scopes_in x ss) (λ k. or_left (is_private_within x s) (is_private_within_all x ss) (private_one x s q.0 k))
      (λ k. or_right (is_private_within x s) (is_private_within_all x ss) (private_all x ss q.1 k)) h

  private_arms : (x : List ℕ) (arms : Arms) → varies_in_arms x arms ≡ false → scopes_in_arms x arms ≡ true → is_private_within_arms x arms ≡ true
  private_arms x no_arms v h = h
  private_arms x (arm test body arms) v h =
      let q = or_parts (varies_in x body) (varies_in_arms x arms) v in
      or_to (scopes_in x body) (scopes_in_arms x arms)
      (λ k. or_left (is_private_within_all x body) (is_private_within_arms x arms) (private_all x body q.0 k))
      (λ k. or_right (is_private_within_all x body) (is_private_within_arms x arms) (private_arms x arms q.1 k)) h

-- ---- what is in scope

-- n tells the needed names in scope, l the live ones, and held the words of variables
pub record Scene (t : Setup) (vars : List (List ℕ)) (parallel : Option Region) (n l : List ℕ → Bool) (held : List ℕ → Option ℕ) : Type 0 where
  pub plain : (x : List ℕ) → t.needed x ≡ true → is_scoped t x ≡ false → n x ≡ true
  pub scope : (x : List ℕ) → has_name x vars ≡ true → n x ≡ true
  pub owned : (x : List ℕ) → t.needed x ≡ true → is_varying t.program x ≡ false → is_own_in parallel x ≡ true → n x ≡ true
  pub needed : (x : List ℕ) → n x ≡ true → is_varying t.program x ≡ false → t.needed x ≡ true
  pub within : (x : List ℕ) → n x ≡ true → is_varying t.program x ≡ true → has_name x vars ≡ true
  pub plain_live : (x : List ℕ) → t.active x ≡ true → is_scoped t x ≡ false → l x ≡ true
  pub owned_live : (x : List ℕ) → t.active x ≡ true → is_varying t.program x ≡ false → is_own_in parallel x ≡ true → l x ≡ true
  pub live : (x : List ℕ) → l x ≡ true → t.active x ≡ true
  pub varying : (x : List ℕ) → has_name x vars ≡ true → is_varying t.program x ≡ true
  pub around : (x : List ℕ) (m : ℕ) → held x ≡ Some m → has_name x vars ≡ true

-- a name that may be used is no loop's own, a variable in scope, or private in the parallel loop around
in_scope : {P : Type 0} (t : Setup) (vars : List (List ℕ)) (parallel : Option Region) (x : List ℕ) → IsUsable t.program vars parallel x
    → (is_scoped t x ≡ false → P) → (has_name x vars ≡ true → P) → (is_varying t.program x ≡ false → is_own_in parallel x ≡ true → P) → P
in_scope t vars parallel x h plain scope owned =
    by_cases (is_scoped t x)
    (λ s. by_cases (is_varying t.program x) (λ v. scope (by_variable (is_varying t.program x) (has_name x vars) v h.scope))
    (λ v. by_private (is_private_name t.program x) (has_name x vars) (is_own_in parallel x) (private_all x (body_in t) v s) h.own scope (owned v)))
    plain
  where
    by_variable : (v s : Bool) → v ≡ true → (v && not s) ≡ false → s ≡ true
    by_variable true s e k = no_not s k
    by_variable false s e k = never false e refl

    by_private : {P : Type 0} (b s o : Bool) → b ≡ true → (b && (not s && not o)) ≡ false → (s ≡ true → P) → (o ≡ true → P) → P
    by_private false s o e k f g = never false e refl
    by_private true true o e k f g = f refl
    by_private true false o e k f g = g (no_not o k)

pub seen : (t : Setup) (vars : List (List ℕ)) (parallel : Option Region) (n l : List ℕ → Bool) (held : List ℕ → Option ℕ) → Scene t vars parallel n l held → (x : List ℕ)
    → t.needed x ≡ true → IsUsable t.program vars parallel x → n x ≡ true
seen t vars parallel n l held c x h k = in_scope t vars parallel x k (λ s. c.plain x h s) (λ s. c.scope x s) (λ v o. c.owned x h v o)

pub shown : (t : Setup) → Facts t → (vars : List (List ℕ)) (parallel : Option Region) (n l : List ℕ → Bool) (held : List ℕ → Option ℕ) → Scene t vars parallel n l held
    → (x : List ℕ) → t.active x ≡ true → IsUsable t.program vars parallel x → l x ≡ true
shown t f vars parallel n l held c x h k =
    in_scope t vars parallel x k (λ s. c.plain_live x h s)
    (λ s. never (is_ring_name (decls_in t) x) (f.ring x h) (f.whole x (c.varying x s))) (λ v o. c.owned_live x h v o)

pub target_usable : (p : Program) (vars : List (List ℕ)) (parallel : Option Region) (x : List ℕ) → IsTarget p vars parallel x
    → IsUsable p vars parallel x
target_usable p vars parallel x h =
    record { known = h.known; scope = Rattle.std.proofs.lemmas.Bool.and_left (is_varying p x) (not (has_name x vars)) h.fixed; own = h.own }
