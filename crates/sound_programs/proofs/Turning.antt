-- Heads of loops, and sequential loops of an accepted program.
use Rattle.std.proofs.Common.{◌≡◌, inl, inr, ℕ, Bool, true, ◌&&◌, ◌||◌, if◌then◌else◌, bytes_eq, List, ◌∷◌, Option, Some, None, ap, subst, ◌∙◌, cond, refl}
use Rattle.std.proofs.lemmas.Bool.{and_parts, or_left, or_right}
use Rattle.fl_ast.specs.declared.directive.Directive.{Directive}
use Rattle.fl_ast.specs.Tree.{Expression, assignment, branch, loop, Statements, no_statements, statement}
use Rattle.fl_types.specs.Kinds.{Names, kind_of_expression, is_index_kind, is_well_kinded, is_index_expression, is_index_step, is_index_scalar, has_scalar_privates, is_well_kinded_head, are_well_kinded_statements, declared_names}
use Rattle.fl_types.specs.Nests.{is_nest, inner_head, further_head}
use Rattle.fl_types.specs.Sharing.{has_name, is_ring_name, varies_in}
use Rattle.fl_types.specs.Mentions as m
use Rattle.fl_types.specs.Mentions.{Surroundings, Region}
use Rattle.fl_types.specs.Rows.{is_varying}
use Rattle.transposition.specs.Back.{variables_of}
use Rattle.transposition.specs.Sound.{Literals, OptionLiterals, Whole, OptionWhole, HeadLiterals, SoundVariable, Own}
use Rattle.transposition.proofs.WellKinded.{typed_by_kinds}
use Rattle.fl_ast.specs.declared.stmt.Program.{Program}
use Rattle.reachability.specs.Reached.{IsAmong}
use Rattle.typing.proofs.Faultless.{Clean, apart}
use Rattle.sound_programs.proofs.Lists.{at_test, never, fails, or_to, same_name, itself, nothing}
use Rattle.sound_programs.specs.Accepted.{HasOnePlace}
use Rattle.sound_programs.proofs.Mentioned.{IsVariable}
use Rattle.sound_programs.proofs.Setups.{Setup, decls_in, keys_in, count_in, is_scoped, Facts, Scene}
use Rattle.sound_programs.proofs.Trees.{Spot, world_of, use_of, Outside, loop_clean}

-- ---- bounds

bound_kinds : (names : Names) (e : Expression) → is_index_expression names e ≡ true → Literals e × Whole names.ring e
bound_kinds names e h =
    let q = and_parts (is_index_kind (kind_of_expression names e)) (is_well_kinded names e) h in
    let k = typed_by_kinds names e q.1 in
    (k.literals, k.whole q.0)

step_kinds : (names : Names) (o : Option Expression) → is_index_step names o ≡ true → OptionLiterals o × OptionWhole names.ring o
step_kinds names None h = (tt, tt)
step_kinds names (Some e) h = bound_kinds names e h

pub record HeadKinds (names : Names) (first last : Expression) (step : Option Expression) : Type 0 where
  pub literals : Literals first × Literals last × OptionLiterals step
  pub wholes : Whole names.ring first × Whole names.ring last × OptionWhole names.ring step

pub head_kinds : (names : Names) (var : List ℕ) (first last : Expression) (step : Option Expression)
    → is_well_kinded_head names var first last step ≡ true → HeadKinds names first last step
head_kinds names var first last step h =
    let q = and_parts (is_index_scalar names var)
    (is_index_expression names first && (is_index_expression names last && is_index_step names step)) h in
    let r = and_parts (is_index_expression names first) (is_index_expression names last && is_index_step names step) q.1 in
    let k = and_parts (is_index_expression names last) (is_index_step names step) r.1 in
    let a = bound_kinds names first r.0 in
    let b = bound_kinds names last k.0 in
    let c = step_kinds names step k.1 in
    record { literals = (a.0, b.0, c.0); wholes = (a.1, b.1, c.1) }

inner_literals : (names : Names) (body : Statements) → are_well_kinded_statements names body ≡ true → HeadLiterals (inner_head body)
inner_literals names no_statements h = tt
inner_literals names (statement (assignment line atomic p e) ss) h = tt
inner_literals names (statement (branch line arms other) ss) h = tt
inner_literals names (statement (loop line number directive var first last step body) ss) h =
    let q = and_parts (is_well_kinded_head names var first last step &&
    (has_scalar_privates names directive && are_well_kinded_statements names body)) (are_well_kinded_statements names ss) h in
    (head_kinds names var first last step
    (and_parts (is_well_kinded_head names var first last step)
    (has_scalar_privates names directive && are_well_kinded_statements names body) q.0).0).literals

pub further_literals : (names : Names) (directive : Directive) (body : Statements) → are_well_kinded_statements names body ≡ true
    → HeadLiterals (further_head directive body)
further_literals names directive body h =
    at_test (λ b. HeadLiterals (if b then inner_head body else None)) (is_nest directive body) (λ e. inner_literals names body h) (λ e. tt)

-- ---- variables

pub record InnerVariable (p : Program) (vars : List (List ℕ)) (body : Statements) (x : List ℕ) : Type 0 where
  pub variable : IsVariable p vars x
  pub varied : varies_in x body ≡ true

pub inner_variables : (p : Program) (s : Surroundings) (body : Statements) → Clean p (m.in_statements s body) → (x : List ℕ)
    → IsAmong (variables_of (inner_head body)) x → InnerVariable p s.vars body x
inner_variables p s no_statements h x i = absurd i
inner_variables p s (statement (assignment line atomic t e) ss) h x i = absurd i
inner_variables p s (statement (branch line arms other) ss) h x i = absurd i
inner_variables p s (statement (loop line number directive var first last step body) ss) h x (inl e) =
    let c = loop_clean p s line number directive var first last step body
    (apart p (m.in_statement s (loop line number directive var first last step body)) (m.in_statements s ss) h).0 in
    record {
      variable = subst (IsVariable p s.vars) e c.variable;
      varied = or_left (bytes_eq x var || varies_in x body) (varies_in x ss)
          (or_left (bytes_eq x var) (varies_in x body) (ap (bytes_eq x) e ∙ itself x));
    }
inner_variables p s (statement (loop line number directive var first last step body) ss) h x (inr i) = absurd i

-- ---- turns

pub turned_scene : (t : Setup) (vars : List (List ℕ)) (parallel : Option Region) (n l : List ℕ → Bool) (held : List ℕ → Option ℕ) (var : List ℕ) (m : ℕ)
    → is_varying t.program var ≡ true → Scene t vars parallel n l held
    → Scene t (var ∷ vars) parallel (λ x. n x || bytes_eq x var) l (λ x. cond (bytes_eq x var) (Some m) (held x))
turned_scene t vars parallel n l held var m v c = record {
  plain = λ x d s. or_left (n x) (bytes_eq x var) (c.plain x d s);
  scope = λ x h. or_to (bytes_eq x var) (has_name x vars) (λ k. or_right (n x) (bytes_eq x var) k)
      (λ k. or_left (n x) (bytes_eq x var) (c.scope x k)) h;
  owned = λ x d f o. or_left (n x) (bytes_eq x var) (c.owned x d f o);
  needed = λ x h f. or_to (n x) (bytes_eq x var) (λ k. c.needed x k f)
      (λ k. never (is_varying t.program x) (ap (is_varying t.program) (same_name x var k) ∙ v) f) h;
  within = λ x h w. or_to (n x) (bytes_eq x var) (λ k. or_right (bytes_eq x var) (has_name x vars) (c.within x k w))
      (λ k. or_left (bytes_eq x var) (has_name x vars) k) h;
  plain_live = c.plain_live;
  owned_live = c.owned_live;
  live = c.live;
  varying = λ x h. or_to (bytes_eq x var) (has_name x vars) (λ k. ap (is_varying t.program) (same_name x var k) ∙ v) (c.varying x) h;
  around = λ x i h. at_test (λ b. cond b (Some m) (held x) ≡ Some i → (b || has_name x vars) ≡ true) (bytes_eq x var) (λ e g. refl) (λ e g. c.around x i g) h;
}

-- with this word of the variable
abbrev pub turned : (t : Setup) (h : Spot t) (var : List ℕ) → ℕ → is_varying t.program var ≡ true → Spot t
turned t h var n v = record {
  around = m.at_body h.around var None;
  needed = λ x. h.needed x || bytes_eq x var;
  live = h.live;
  held = λ x. cond (bytes_eq x var) (Some n) (h.held x);
  outer = var ∷ h.outer;
  accessed = h.accessed;
  pluses = h.pluses;
  choice = h.choice;
  scene = turned_scene t h.around.vars h.around.parallel h.needed h.live h.held var n v h.scene;
}

pub turned_outside : (t : Setup) (h : Spot t) (var : List ℕ) (n : ℕ) (v : is_varying t.program var ≡ true) → Outside t h → Outside t (turned t h var n v)
turned_outside t h var n v o = record {
  alone = o.alone;
  silent = o.silent;
  outer = λ x k. or_to (bytes_eq x var) (has_name x h.outer) (λ e. or_left (bytes_eq x var) (has_name x h.around.vars) e)
      (λ e. or_right (bytes_eq x var) (has_name x h.around.vars) (o.outer x e)) k;
  own = λ x k s. or_to (h.needed x) (bytes_eq x var) (λ e. or_right (bytes_eq x var) (has_name x h.around.vars) (o.own x e s))
      (λ e. or_left (bytes_eq x var) (has_name x h.around.vars) e) k;
  dead = o.dead;
  holds = λ x k. at_test (λ b. (b || has_name x h.around.vars) ≡ true → (i : ℕ) × (cond b (Some n) (h.held x) ≡ Some i)) (bytes_eq x var)
      (λ e g. (n, refl)) (λ e g. o.holds x g) k;
}

pub own_of : (t : Setup) (h : Spot t) (x : List ℕ) → HasOnePlace (keys_in t) (count_in t) x → Own (world_of t h) x
own_of t h x s = record { q = s.q; place = s.place; only = s.only; own = s.own }

pub variable_sound : (t : Setup) → Facts t → (h : Spot t) (var : List ℕ) (first last : Expression) (step : Option Expression)
    → IsVariable t.program h.around.vars var → is_varying t.program var ≡ true → is_scoped t var ≡ true
    → HeadKinds (declared_names (decls_in t)) first last step
    → SoundVariable (world_of t h) (use_of t h) var first last step
variable_sound t f h var first last step c v s k =
    let o = f.own var c.known s in
    record {
      q = o.q;
      place = o.place;
      only = o.only;
      own = o.own;
      whole = f.whole var v;
      unneeded = fails (h.needed var) (λ d. never (has_name var h.around.vars) (h.scene.within var d v) c.new);
      unheld = nothing (h.held var) (λ m d. never (has_name var h.around.vars) (h.scene.around var m d) c.new);
      dead = fails (h.live var) (λ d. never (is_ring_name (decls_in t) var) (f.ring var (h.scene.live var d)) (f.whole var v));
      literals = k.literals;
      wholes = k.wholes;
    }
