-- Parallel loops of an accepted program.
use Rattle.std.proofs.Common.{◌≡◌, ◌⊎◌, inl, inr, ℕ, Bool, true, false, not, ◌&&◌, ◌||◌, if◌then◌else◌, bytes_eq, List, [], ◌∷◌, filter, map, Some, None, refl, ap, sym, subst, ◌∙◌}
use Rattle.std.specs.List.{list_any}
use Rattle.std.proofs.lemmas.Bool.{and_parts, and_from, or_parts, or_from, or_left, or_right}
use Rattle.fl_ast.specs.declared.decl.Decl.{Decl}
use Rattle.fl_ast.specs.declared.directive.Directive.{Directive}
use Rattle.fl_ast.specs.Readable.{has_parallel_in}
use Rattle.fl_ast.specs.Tree.{assignment, branch, loop, Statements, no_statements, statement}
use Rattle.fl_types.specs.declared.sharing.Sharing.TheVariants.{Shared, Private, First, Plus, LoopVar}
use Rattle.fl_types.specs.Nests.{is_nest, inner_head, inner_body, iteration_body}
use Rattle.fl_types.specs.Sharing.{has_name, varies_in, sharing_in, is_accessed, is_private, makes_accesses}
use Rattle.fl_types.specs.Declarations.{is_declared}
use Rattle.fl_types.specs.Mentions as m
use Rattle.fl_types.specs.Mentions.{Surroundings, Region}
use Rattle.fl_types.specs.Rows.{is_varying}
use Rattle.reachability.specs.Reached.{IsAmong}
use Rattle.adjoint_sets.proofs.Reaching.{named}
use Rattle.typing.proofs.Faultless.{Clean, apart}
use Rattle.transposition.specs.Worlds.{World, is_reduction, name_at, in_iteration}
use Rattle.transposition.specs.Back.{variables_of, loop_variables}
use Rattle.transposition.specs.Sound.{writes_in, IsHeld, Own, AllOwn, AllSummed, Common, SoundRounds}
use Rattle.sound_programs.specs.Uses.{IsCollectable}
use Rattle.sound_programs.proofs.Lists.{at_test, by_cases, never, fails, or_to, itself, has_in, in_filter, filter_meets, not_yes, nothing}
use Rattle.sound_programs.proofs.PlacedNames.{known_turned}
use Rattle.sound_programs.proofs.Setups.{Setup, decls_in, body_in, keys_in, is_scoped, Facts, Scene, use_at}
use Rattle.sound_programs.proofs.Trees.{Spot, world_of, use_of, Outside, LoopClean, loop_clean, unset_all, variable_all}
use Rattle.sound_programs.proofs.Turning.{inner_variables, own_of}

-- ---- private names

abbrev pub own_privates : Setup → Directive → List ℕ → Statements → List (List ℕ)
own_privates t d var body = filter (λ x. is_private (sharing_in var d body x)) (map (λ (g : Decl). g.name) (decls_in t))

pub record IsPrivate (t : Setup) (d : Directive) (var : List ℕ) (body : Statements) (x : List ℕ) : Type 0 where
  pub known : is_declared (decls_in t) x ≡ true
  pub other : bytes_eq x var ≡ false
  pub fixed : varies_in x body ≡ false
  pub listed : has_name x d.privates ≡ true

last_class : (b c : Bool) → is_private (if b then First else (if c then Plus else Shared)) ≡ false
last_class true c = refl
last_class false true = refl
last_class false false = refl

private_by : (v p f q : Bool) → is_private
    (if v then LoopVar else (if p then Private else (if f then First else (if q then Plus else Shared)))) ≡ true → (v ≡ false) × (p ≡ true)
private_by true p f q h = never false h refl
private_by false true f q h = (refl, refl)
private_by false false f q h = never true refl (sym h ∙ last_class f q)

by_private : (v p f q : Bool) → v ≡ false → p ≡ true
    → is_private (if v then LoopVar else (if p then Private else (if f then First else (if q then Plus else Shared)))) ≡ true
by_private true p f q h k = never true refl h
by_private false true f q h k = refl
by_private false false f q h k = never false k refl

accessed_by : (v p f q : Bool) → v ≡ false → p ≡ false
    → is_accessed (if v then LoopVar else (if p then Private else (if f then First else (if q then Plus else Shared)))) ≡ true
accessed_by true p f q h k = never true refl h
accessed_by false true f q h k = never true refl k
accessed_by false false true q h k = refl
accessed_by false false false true h k = refl
accessed_by false false false false h k = refl

among_all : (test : List ℕ → Bool) (xs : List (List ℕ)) (x : List ℕ) → has_name x (filter test xs) ≡ true → has_name x xs ≡ true
among_all test [] x h = h
among_all test (y ∷ ys) x h =
    at_test (λ b. has_name x (if b then y ∷ filter test ys else filter test ys) ≡ true → has_name x (y ∷ ys) ≡ true) (test y)
    (λ e k. or_to (bytes_eq x y) (has_name x (filter test ys)) (λ g. or_left (bytes_eq x y) (has_name x ys) g)
    (λ g. or_right (bytes_eq x y) (has_name x ys) (among_all test ys x g)) k)
    (λ e k. or_right (bytes_eq x y) (has_name x ys) (among_all test ys x k)) h

declared_name : (ds : List Decl) (x : List ℕ) → has_name x (map (λ (g : Decl). g.name) ds) ≡ list_any (λ (g : Decl). bytes_eq x g.name) ds
declared_name [] x = refl
declared_name (d ∷ ds) x = ap (λ b. bytes_eq x d.name || b) (declared_name ds x)

pub private_facts : (t : Setup) (d : Directive) (var : List ℕ) (body : Statements) (x : List ℕ)
    → has_name x (own_privates t d var body) ≡ true → IsPrivate t d var body x
private_facts t d var body x h =
    let test = λ (y : List ℕ). is_private (sharing_in var d body y) in
    let names = map (λ (g : Decl). g.name) (decls_in t) in
    let r = private_by (bytes_eq x var || varies_in x body) (has_name x d.privates) (has_name x d.firsts) (has_name x d.pluses)
    (filter_meets test names x (has_in x (filter test names) h)) in
    let q = or_parts (bytes_eq x var) (varies_in x body) r.0 in
    record {
      known = known_turned (decls_in t) x ∙ (sym (declared_name (decls_in t) x) ∙ among_all test names x h);
      other = q.0;
      fixed =
          q.1;
      listed = r.1;
    }

pub facts_private : (t : Setup) (d : Directive) (var : List ℕ) (body : Statements) (x : List ℕ) → IsPrivate t d var body x
    → has_name x (own_privates t d var body) ≡ true
facts_private t d var body x h =
    let test = λ (y : List ℕ). is_private (sharing_in var d body y) in
    let names = map (λ (g : Decl). g.name) (decls_in t) in
    named x (filter test names)
    (in_filter test names x (has_in x names (declared_name (decls_in t) x ∙ (sym (known_turned (decls_in t) x) ∙ h.known)))
    (by_private (bytes_eq x var || varies_in x body) (has_name x d.privates) (has_name x d.firsts) (has_name x d.pluses)
    (or_from (bytes_eq x var) (varies_in x body) h.other h.fixed) h.listed))

-- ---- variables

pub record IsLoopVariable (t : Setup) (vars : List (List ℕ)) (var : List ℕ) (body : Statements) (x : List ℕ) : Type 0 where
  pub known : is_declared (decls_in t) x ≡ true
  pub new : has_name x vars ≡ false
  pub varied : (bytes_eq x var || varies_in x body) ≡ true

-- what a parallel loop is
pub record Loop (t : Setup) (h : Spot t) (line number : ℕ) (d : Directive) (var : List ℕ) (body : Statements) : Type 0 where
  pub facts : Facts t
  pub outside : Outside t h
  pub clean : LoopClean t.program h.around (Some d) var body
  -- its names are loops' own, and its variables vary
  pub scoped : (x : List ℕ) → (bytes_eq x var || (has_name x d.privates || varies_in x body)) ≡ true → is_scoped t x ≡ true
  pub varying : (x : List ℕ) → (bytes_eq x var || varies_in x body) ≡ true → is_varying t.program x ≡ true
  pub fitting : (x : List ℕ) → t.active x ≡ true → is_reduction (t.choices number x) ≡ true
      → IsCollectable t.program (record { line = line; number = number; outer = h.around.vars; directive = d; var = var; body = body }) x
  pub flat : has_parallel_in body ≡ false

further_variables : (t : Setup) (h : Spot t) (line number : ℕ) (d : Directive) (var : List ℕ) (body : Statements)
    → Loop t h line number d var body → (b : Bool) (x : List ℕ) → IsAmong (variables_of (if b then inner_head body else None)) x
    → IsLoopVariable t h.around.vars var body x
further_variables t h line number d var body l true x i =
    let k = inner_variables t.program (m.at_body h.around var (m.made_parallel (Some d) var body)) body l.clean.inside x i in
    record {
      known = k.variable.known;
      new = (or_parts (bytes_eq x var) (has_name x h.around.vars) k.variable.new).1;
      varied =
          or_right (bytes_eq x var) (varies_in x body) k.varied;
    }
further_variables t h line number d var body l false x i = absurd i

all_variables : (t : Setup) (h : Spot t) (line number : ℕ) (d : Directive) (var : List ℕ) (body : Statements)
    → Loop t h line number d var body → (x : List ℕ) → IsAmong (loop_variables d var body) x → IsLoopVariable t h.around.vars var body x
all_variables t h line number d var body l x (inl e) =
    subst (IsLoopVariable t h.around.vars var body) e
    (record { known = l.clean.variable.known; new = l.clean.variable.new; varied = or_left (bytes_eq var var) (varies_in var body) (itself var) })
all_variables t h line number d var body l x (inr i) = further_variables t h line number d var body l (is_nest d body) x i

pub loop_variable : (t : Setup) (h : Spot t) (line number : ℕ) (d : Directive) (var : List ℕ) (body : Statements)
    → Loop t h line number d var body → (x : List ℕ) → has_name x (loop_variables d var body) ≡ true → IsLoopVariable t h.around.vars var body x
loop_variable t h line number d var body l x k = all_variables t h line number d var body l x (has_in x (loop_variables d var body) k)

-- ---- the variables aren't set in an iteration

unset_inner : (t : Setup) (s : Surroundings) (x : List ℕ) (body : Statements) → Clean t.program (m.in_statements s body)
    → has_parallel_in body ≡ false → is_varying t.program x ≡ true
    → (has_name x (variables_of (inner_head body)) || has_name x s.vars) ≡ true → writes_in x (inner_body body) ≡ false
unset_inner t s x no_statements c f v h = refl
unset_inner t s x (statement (assignment line atomic p e) ss) c f v h = refl
unset_inner t s x (statement (branch line arms other) ss) c f v h = refl
unset_inner t s x (statement (loop line number None var first last step body) ss) c f v h =
    let k = loop_clean t.program s line number None var first last step body
    (apart t.program (m.in_statement s (loop line number None var first last step body)) (m.in_statements s ss) c).0 in
    unset_all t.program (m.at_body s var None) x body k.inside
    (or_parts (has_parallel_in body) (has_parallel_in ss) f).0
    (or_to (bytes_eq x var || false) (has_name x s.vars)
    (λ e. or_left (bytes_eq x var) (has_name x s.vars) (or_to (bytes_eq x var) false (λ n. n) (λ n. never false n refl) e))
    (λ e. or_right (bytes_eq x var) (has_name x s.vars) e) h) v
unset_inner t s x (statement (loop line number (Some d) var first last step body) ss) c f v h = never true refl f

pub unset_in_iteration : (t : Setup) (h : Spot t) (line number : ℕ) (d : Directive) (var : List ℕ) (body : Statements)
    → Loop t h line number d var body → (x : List ℕ) → is_varying t.program x ≡ true
    → (has_name x (loop_variables d var body) || has_name x h.around.vars) ≡ true → writes_in x (iteration_body d body) ≡ false
unset_in_iteration t h line number d var body l x v k =
    at_test (λ b. (has_name x (var ∷ variables_of (if b then inner_head body else None)) || has_name x h.around.vars) ≡ true
    → writes_in x (if b then inner_body body else body) ≡ false) (is_nest d body)
    (λ e g. unset_inner t (m.at_body h.around var (m.made_parallel (Some d) var body)) x body l.clean.inside l.flat v
    (nested (bytes_eq x var) (has_name x (variables_of (inner_head body))) (has_name x h.around.vars) g))
    (λ e g. unset_all t.program (m.at_body h.around var (m.made_parallel (Some d) var body)) x body l.clean.inside l.flat
    (alone (bytes_eq x var) (has_name x h.around.vars) g) v) k
  where
    nested : (a b c : Bool) → ((a || b) || c) ≡ true → (b || (a || c)) ≡ true
    nested true true c h = refl
    nested true false c h = refl
    nested false true c h = refl
    nested false false c h = h

    alone : (a c : Bool) → ((a || false) || c) ≡ true → (a || c) ≡ true
    alone true c h = refl
    alone false c h = h

-- ---- what is in scope in an iteration

abbrev pub rounds_needed : (t : Setup) → Spot t → Directive → List ℕ → Statements → List ℕ → Bool
rounds_needed t h d var body x =
    h.needed x || ((has_name x (own_privates t d var body) && (t.needed x && not (is_varying t.program x))) || has_name x (loop_variables d var body))

abbrev pub rounds_live : (t : Setup) → Spot t → Directive → List ℕ → Statements → List ℕ → Bool
rounds_live t h d var body x = h.live x || (has_name x (own_privates t d var body) && t.active x)

-- three ways to be needed there
needed_by : {P : Type 0} (t : Setup) (h : Spot t) (d : Directive) (var : List ℕ) (body : Statements) (x : List ℕ)
    → rounds_needed t h d var body x ≡ true → (h.needed x ≡ true → P)
    → (has_name x (own_privates t d var body) ≡ true → t.needed x ≡ true → is_varying t.program x ≡ false → P)
    → (has_name x (loop_variables d var body) ≡ true → P) → P
needed_by t h d var body x k f g i =
    or_to (h.needed x) ((has_name x (own_privates t d var body) && (t.needed x && not (is_varying t.program x))) || has_name x
    (loop_variables d var body)) f
    (or_to (has_name x (own_privates t d var body) && (t.needed x && not (is_varying t.program x))) (has_name x (loop_variables d var body))
    (λ e.
    let q = and_parts (has_name x (own_privates t d var body)) (t.needed x && not (is_varying t.program x)) e in
    let r = and_parts (t.needed x) (not (is_varying t.program x)) q.1 in
    g q.0 r.0 (not_yes (is_varying t.program x) r.1)) i) k

by_outer : (t : Setup) (h : Spot t) (d : Directive) (var : List ℕ) (body : Statements) (x : List ℕ) → h.needed x ≡ true
    → rounds_needed t h d var body x ≡ true
by_outer t h d var body x e = or_left (h.needed x)
    ((has_name x (own_privates t d var body) && (t.needed x && not (is_varying t.program x))) || has_name x (loop_variables d var body)) e

by_variables : (t : Setup) (h : Spot t) (d : Directive) (var : List ℕ) (body : Statements) (x : List ℕ)
    → has_name x (loop_variables d var body) ≡ true → rounds_needed t h d var body x ≡ true
by_variables t h d var body x e =
    or_right (h.needed x) ((has_name x (own_privates t d var body) && (t.needed x && not (is_varying t.program x))) || has_name x
    (loop_variables d var body))
    (or_right (has_name x (own_privates t d var body) && (t.needed x && not (is_varying t.program x))) (has_name x (loop_variables d var body)) e)

by_privates : (t : Setup) (h : Spot t) (d : Directive) (var : List ℕ) (body : Statements) (x : List ℕ)
    → has_name x (own_privates t d var body) ≡ true → t.needed x ≡ true → is_varying t.program x ≡ false → rounds_needed t h d var body x ≡ true
by_privates t h d var body x e k v =
    or_right (h.needed x) ((has_name x (own_privates t d var body) && (t.needed x && not (is_varying t.program x))) || has_name x
    (loop_variables d var body))
    (or_left (has_name x (own_privates t d var body) && (t.needed x && not (is_varying t.program x))) (has_name x (loop_variables d var body))
    (and_from (has_name x (own_privates t d var body)) (t.needed x && not (is_varying t.program x)) e
    (and_from (t.needed x) (not (is_varying t.program x)) k (ap not v))))

-- a name that the loop has of its own, and that is no variable, is private in it
own_private : (t : Setup) (d : Directive) (var : List ℕ) (body : Statements) (x : List ℕ) → is_declared (decls_in t) x ≡ true
    → ((bytes_eq x var || varies_in x body) ≡ true → ⊥) → (has_name x d.privates || (bytes_eq x var || varies_in x body)) ≡ true
    → has_name x (own_privates t d var body) ≡ true
own_private t d var body x known f h =
    let q = or_parts (bytes_eq x var) (varies_in x body) (fails (bytes_eq x var || varies_in x body) f) in
    facts_private t d var body x (record {
      known = known;
      other = q.0;
      fixed = q.1;
      listed =
          or_to (has_name x d.privates) (bytes_eq x var || varies_in x body) (λ k. k) (λ k. absurd (f k)) h;
    })

-- `vars` are the loop's variables and those around it
pub rounds_scene : (t : Setup) (h : Spot t) (line number : ℕ) (d : Directive) (var : List ℕ) (body : Statements)
    → Loop t h line number d var body → (vars : List (List ℕ))
    → ((x : List ℕ) → has_name x vars ≡ true → (has_name x (loop_variables d var body) || has_name x h.around.vars) ≡ true)
    → ((x : List ℕ) → (has_name x (loop_variables d var body) || has_name x h.around.vars) ≡ true → has_name x vars ≡ true)
    → Scene t vars (Some (record { directive = d; var = var; body = body })) (rounds_needed t h d var body) (rounds_live t h d var body)
    (λ x. None)
rounds_scene t h line number d var body l vars to from = record {
  plain = λ x k s. by_outer t h d var body x (h.scene.plain x k s);
  scope = λ x k. or_to (has_name x (loop_variables d var body)) (has_name x h.around.vars) (by_variables t h d var body x)
      (λ e. by_outer t h d var body x (h.scene.scope x e)) (to x k);
  owned = λ x k v o. by_privates t h d var body x
      (own_private t d var body x (l.facts.needed_known x k) (λ e. never (is_varying t.program x) (l.varying x e) v) o) k v;
  needed = λ x k v. needed_by t h d var body x k (λ e. h.scene.needed x e v) (λ e n f. n) (λ e. never (is_varying t.program x) (varying x e) v);
  within = λ x k v. needed_by t h d var body x k
      (λ e. from x (or_right (has_name x (loop_variables d var body)) (has_name x h.around.vars) (h.scene.within x e v)))
      (λ e n f. never (is_varying t.program x) v f)
      (λ e. from x (or_left (has_name x (loop_variables d var body)) (has_name x h.around.vars) e));
  plain_live = λ x k s. or_left (h.live x) (has_name x (own_privates t d var body) && t.active x) (h.scene.plain_live x k s);
  owned_live = λ x k v o.
      or_right (h.live x) (has_name x (own_privates t d var body) && t.active x)
      (and_from (has_name x (own_privates t d var body)) (t.active x)
      (own_private t d var body x (l.facts.active_known x k) (λ e. never (is_varying t.program x) (l.varying x e) v) o) k);
  live = λ x k. or_to (h.live x) (has_name x (own_privates t d var body) && t.active x) (h.scene.live x)
      (λ e. (and_parts (has_name x (own_privates t d var body)) (t.active x) e).1) k;
  varying = λ x k. or_to (has_name x (loop_variables d var body)) (has_name x h.around.vars) (varying x) (h.scene.varying x) (to x k);
  around = λ x m e. (let f : None ≡ Some m = e in cc);
}
  where
    varying : (x : List ℕ) → has_name x (loop_variables d var body) ≡ true → is_varying t.program x ≡ true
    varying x e = l.varying x (loop_variable t h line number d var body l x e).varied

-- ---- all fields

all_own : (w : World) (xs : List (List ℕ)) → ((x : List ℕ) → IsAmong xs x → Own w x) → AllOwn w xs
all_own w [] f = tt
all_own w (x ∷ xs) f = (f x (inl refl), all_own w xs (λ y i. f y (inr i)))

all_summed : (w : World) (xs : List (List ℕ)) → ((x : List ℕ) → (w.active x && is_reduction (w.choice x)) ≡ true → Common w x) → AllSummed w xs
all_summed w [] f = tt
all_summed w (x ∷ xs) f = (f x, all_summed w xs f)

pub rounds_sound : (t : Setup) (h : Spot t) (line number : ℕ) (d : Directive) (var : List ℕ) (body : Statements) → Loop t h line number d var body
    → SoundRounds (world_of t h) (use_of t h) (use_at t (rounds_needed t h d var body) (rounds_live t h d var body) (λ x. None)) number d var body
rounds_sound t h line number d var body l = record {
  variables = all_own (world_of t h) (loop_variables d var body)
      (λ x i. let k = all_variables t h line number d var body l x i in own_of t h x (l.facts.own x k.known (scoped_variable x k.varied)));
  whole = λ x k. l.facts.whole x (l.varying x (loop_variable t h line number d var body l x k).varied);
  unvaried = λ x k. unset_in_iteration t h line number d var body l x (l.varying x (loop_variable t h line number d var body l x k).varied)
      (or_left (has_name x (loop_variables d var body)) (has_name x h.around.vars) k);
  unheld = λ x k. nothing (h.held x) (λ m e. never (has_name x h.around.vars) (h.scene.around x m e) (loop_variable t h line number d var body l x k).new);
  privates = all_own (world_of t h) (own_privates t d var body)
      (λ x i. let k = private_facts t d var body x (named x (own_privates t d var body) i) in own_of t h x
      (l.facts.own x k.known (scoped_private x k.listed)));
  pushed = λ x p k s. needed_by t h d var body x k (λ e. never (writes_in x (iteration_body d body)) s (kept x (private_around x p e))) (λ e n f. n) (λ e. absurd (not_both x p e));
  needed = λ x k p v. needed_by t h d var body x k (λ e. e) (λ e n f. never (has_name x (own_privates t d var body)) e p)
      (λ e. never (has_name x (loop_variables d var body)) e v);
  outside = λ x k. by_outer t h d var body x k;
  live = λ x p. by_none (h.live x) (has_name x (own_privates t d var body)) (t.active x) p;
  moved = λ x. refl;
  dead = λ q k. fails (h.live (name_at (keys_in t) q)) (λ e. dead_name (name_at (keys_in t) q) e (l.facts.high q k));
  stays = λ q k i e. stays (name_at (keys_in t) q) e (l.facts.high q k);
  unset = λ x e. kept x (h.scene.around x e.0 e.1);
  low = λ q k. nothing (h.held (name_at (keys_in t) q))
      (λ m e. never (is_scoped t (name_at (keys_in t) q)) (around_scoped (name_at (keys_in t) q) (h.scene.around (name_at (keys_in t) q) m e)) (l.facts.low q k));
  fresh = λ x. refl;
  inside = λ q k. touched (name_at (keys_in t) q) (l.facts.low q k);
  silent = l.outside.silent;
  summed = all_summed (in_iteration (world_of t h) number d var body) (map (λ (g : Decl). g.name) (decls_in t)) (λ x k.
      let q = and_parts (t.active x) (is_reduction (t.choices number x)) k in
      let c = l.fitting x q.0 q.1 in
      let s = l.facts.common x c.scalar c.placed in
      record { q = s.q; place = s.place; shared = s.shared });
}
  where
    scoped_variable : (x : List ℕ) → (bytes_eq x var || varies_in x body) ≡ true → is_scoped t x ≡ true
    scoped_variable x k =
        l.scoped x (or_to (bytes_eq x var) (varies_in x body) (λ e. or_left (bytes_eq x var) (has_name x d.privates || varies_in x body) e)
        (λ e. or_right (bytes_eq x var) (has_name x d.privates || varies_in x body) (or_right (has_name x d.privates) (varies_in x body) e)) k)

    scoped_private : (x : List ℕ) → has_name x d.privates ≡ true → is_scoped t x ≡ true
    scoped_private x k = l.scoped x
        (or_right (bytes_eq x var) (has_name x d.privates || varies_in x body) (or_left (has_name x d.privates) (varies_in x body) k))

    -- what is private in the loop and needed outside is the variable of a loop around
    private_around : (x : List ℕ) → has_name x (own_privates t d var body) ≡ true → h.needed x ≡ true → has_name x h.around.vars ≡ true
    private_around x p e = l.outside.own x e (scoped_private x (private_facts t d var body x p).listed)

    around_scoped : (x : List ℕ) → has_name x h.around.vars ≡ true → is_scoped t x ≡ true
    around_scoped x k = variable_all x (body_in t) (h.scene.varying x k)

    not_both : (x : List ℕ) → has_name x (own_privates t d var body) ≡ true → has_name x (loop_variables d var body) ≡ true → ⊥
    not_both x p v =
        let k = private_facts t d var body x p in
        never (bytes_eq x var || varies_in x body) (loop_variable t h line number d var body l x v).varied
        (or_from (bytes_eq x var) (varies_in x body) k.other k.fixed)

    by_none : (a p b : Bool) → p ≡ false → (a || (p && b)) ≡ a
    by_none a true b e = never true refl e
    by_none true false b e = refl
    by_none false false b e = refl

    dead_name : (x : List ℕ) → h.live x ≡ true → (x ≡ []) ⊎ (is_scoped t x ≡ true) → ⊥
    dead_name x e (inl n) = never (is_declared (decls_in t) x) (l.facts.active_known x (h.scene.live x e))
        (ap (is_declared (decls_in t)) n ∙ l.facts.nameless)
    dead_name x e (inr s) = never (is_scoped t x) s (l.outside.dead x e)

    kept : (x : List ℕ) → has_name x h.around.vars ≡ true → writes_in x (iteration_body d body) ≡ false
    kept x k = unset_in_iteration t h line number d var body l x (h.scene.varying x k)
        (or_right (has_name x (loop_variables d var body)) (has_name x h.around.vars) k)

    stays : (x : List ℕ) → h.needed x ≡ true → (x ≡ []) ⊎ (is_scoped t x ≡ true) → IsHeld (use_of t h) x
    stays x e (inl n) =
        by_cases (is_varying t.program x) (λ v. l.outside.holds x (h.scene.within x e v))
        (λ v. never (is_declared (decls_in t) x) (l.facts.needed_known x (h.scene.needed x e v)) (ap (is_declared (decls_in t)) n ∙ l.facts.nameless))
    stays x e (inr s) = l.outside.holds x (l.outside.own x e s)

    touched : (x : List ℕ) → is_scoped t x ≡ false → makes_accesses h.outer var d body x ≡ true
    touched x s =
        and_from (not (has_name x h.outer)) (is_accessed (sharing_in var d body x))
        (ap not (fails (has_name x h.outer)
        (λ o. never (is_scoped t x) (variable_all x (body_in t) (h.scene.varying x (l.outside.outer x o))) s)))
        (accessed_by (bytes_eq x var || varies_in x body) (has_name x d.privates) (has_name x d.firsts) (has_name x d.pluses)
        (fails (bytes_eq x var || varies_in x body) (λ k. never (is_scoped t x) (scoped_variable x k) s))
        (fails (has_name x d.privates) (λ k. never (is_scoped t x) (scoped_private x k) s)))
