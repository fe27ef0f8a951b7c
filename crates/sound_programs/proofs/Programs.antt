-- An accepted program with its sets of names is set up as the law wants it.
use Rattle.std.proofs.Common.{◌≡◌, ◌⊎◌, inl, inr, ℕ, ◌<◌, ◌^◌, Bool, true, false, not, ◌&&◌, ◌||◌, if◌then◌else◌, cond, bytes_eq, List, [], ◌∷◌, ◌++◌, filter, find, map, length, Option, Some, None, Ok, Err, refl, ap, sym, subst, ◌∙◌, arith}
use Rattle.std.specs.List.{list_any, list_all}
use Rattle.std.proofs.lemmas.Bool.{and_parts, and_from, or_right, or_from, true_from_ne_false, cases_lt}
use Rattle.fl_base.specs.Spelling.{is_name}
use Rattle.fl_ast.specs.Words.{reserved_words}
use Rattle.fl_ast.specs.declared.kind.Kind.TheVariants.{Index, Ring}
use Rattle.fl_ast.specs.declared.decl.Decl.{Decl}
use Rattle.fl_ast.specs.declared.stmt.Program.{Program}
use Rattle.fl_ast.specs.Readable.{IsReadable, is_variable, is_readable_decl, is_size_of, is_readable_dim}
use Rattle.fl_ast.specs.Tree.{Expression, literal, get, minus, binary, power, call, Expressions, no_expressions, expression, Statement, assignment, branch, loop, Statements, no_statements, statement, Arms, no_arms, arm, stmt_trees}
use Rattle.fl_types.specs.declared.choice.Choice.{Choice}
use Rattle.fl_types.specs.declared.choice.Choice.TheVariants.{Shared}
use Rattle.fl_types.specs.declared.typed.TypeError.{TypeError}
use Rattle.fl_types.specs.Kinds.{Names, declared_names, kind_of_name, is_index_kind, is_index_scalar, is_index_expression, is_index_step, has_scalar_privates, is_well_kinded_condition, is_well_kinded_head, is_well_kinded_statement, are_well_kinded_statements, are_well_kinded_arms}
use Rattle.fl_types.specs.Sharing.{has_name, is_ring_kind, is_ring_name, varies, varies_in, varies_in_arms}
use Rattle.fl_types.specs.Declarations.{is_declared, is_ring_argument}
use Rattle.fl_types.specs.WellTyped.{is_scalar_declared}
use Rattle.fl_types.specs.Mentions.{the_unit, mentions, in_args, in_decls, in_statements, at_unit}
use Rattle.fl_types.specs.Rows.{first_fault, refused_by, judged, is_varying}
use Rattle.store_core.specs.declared.values.Entry.{Entry}
use Rattle.store_core.specs.Keys.{keys_of, with_scalars}
use Rattle.store_core.specs.Places.{shapes_of}
use Rattle.meaning.specs.Sites.{Key, word_of}
use Rattle.reachability.specs.Reached.{Edge, IsAmong, root, onward}
use Rattle.reachability.specs.Named.{are_both_declared, IsReachedName}
use Rattle.activity.specs.Active.{edge_to, flows_to, all_flow_to, flows, flows_in, flows_in_arms, program_flows, turned, first_misfit}
use Rattle.adjoint_rules.specs.Needed.{kinds_of, read_by_all, restorings_in}
use Rattle.adjoint_sets.specs.Names.{is_active, is_needed}
use Rattle.adjoint_sets.specs.Reach.{is_reached_name}
use Rattle.adjoint_sets.proofs.Reaching.{reached_name}
use Rattle.typing.proofs.Heads.{head_is}
use Rattle.typing.proofs.Faultless.{Clean, apart, at_first}
use Rattle.typing.proofs.TypedLaws.{typed}
use Rattle.transposition.specs.Worlds.{name_at}
use Rattle.sound_programs.specs.Uses.{is_varied, is_useful, is_own, AreFitting, outer_use}
use Rattle.sound_programs.specs.Accepted.{IsAccepted, PlacesFit, LayoutsFit, PlacesSuffice, ProgramsAreSound, AskedNamesFit}
use Rattle.sound_programs.proofs.Lists.{each_both, no_not, at_test, never, fails, or_to, not_yes, same_name, has_in, in_left, in_right, in_map, in_filter, filter_meets}
use Rattle.sound_programs.proofs.Layouts.{is_laid, own_standing, low_name, high_unlaid}
use Rattle.sound_programs.proofs.PlacedNames.{IsCleanBody, known_turned, scoped_local, laid_unscoped, unscoped_laid, scalar_shared}
use Rattle.sound_programs.proofs.Setups.{Setup, Facts, Scene, PartAll}
use Rattle.sound_programs.proofs.Trees.{Spot, GivenAll, variable_all}
use Rattle.sound_programs.proofs.Stating.{statements_sound}
use Rattle.std.specs.Prelude.{slice_index}
use Rattle.meaning.specs.Expressions.{content}
use Rattle.meaning.specs.declared.value.Value.{Value}

-- ---- what is reached

pub reached_known : (decls : List Decl) (roots : List (List ℕ)) (edges : List (Edge (List ℕ))) (x : List ℕ)
    → IsReachedName decls roots edges x → is_declared decls x ≡ true
reached_known decls roots edges x (root y h) = filter_meets (is_declared decls) roots x h
reached_known decls roots edges x (onward w y h l) =
    (and_parts (is_declared decls w) (is_declared decls x) (filter_meets (are_both_declared decls) edges (record { tail = w; head = x }) l)).1

pub filter_among : {X : Type 0} (test : X → Bool) (xs : List X) (x : X) → IsAmong (filter test xs) x → IsAmong xs x
filter_among test [] x h = absurd h
filter_among test (y ∷ ys) x h =
    at_test (λ b. IsAmong (if b then y ∷ filter test ys else filter test ys) x → IsAmong (y ∷ ys) x) (test y)
    (λ e k. either k (λ g. filter_among test ys x g)) (λ e k. inr (filter_among test ys x k)) h
  where
    either : IsAmong (y ∷ filter test ys) x → (IsAmong (filter test ys) x → IsAmong ys x) → IsAmong (y ∷ ys) x
    either (inl e) f = inl e
    either (inr k) f = inr (f k)

pub begins : (decls : List Decl) (roots : List (List ℕ)) (edges : List (Edge (List ℕ))) (x : List ℕ) → IsAmong roots x
    → is_declared decls x ≡ true → is_reached_name decls roots edges x ≡ true
begins decls roots edges x h k = (reached_name decls roots edges x).1 (root x (in_filter (is_declared decls) roots x h k))

pub goes_on : (decls : List Decl) (roots : List (List ℕ)) (edges : List (Edge (List ℕ))) (e : Edge (List ℕ)) → IsAmong edges e
    → is_declared decls e.tail ≡ true → is_declared decls e.head ≡ true → is_reached_name decls roots edges e.tail ≡ true
    → is_reached_name decls roots edges e.head ≡ true
goes_on decls roots edges e h a b r =
    (reached_name decls roots edges e.head).1
    (onward e.tail e.head ((reached_name decls roots edges e.tail).0 r)
    (in_filter (are_both_declared decls) edges e h (and_from (is_declared decls e.tail) (is_declared decls e.head) a b)))

-- ---- data flows to names of the ring kind

abbrev RingHeads : (List ℕ → Bool) → List (Edge (List ℕ)) → Type 0
RingHeads ring es = (e : Edge (List ℕ)) → IsAmong es e → ring e.head ≡ true

both_heads : (ring : List ℕ → Bool) (xs ys : List (Edge (List ℕ))) → RingHeads ring xs → RingHeads ring ys → RingHeads ring (xs ++ ys)
both_heads ring xs ys = each_both (λ (e : Edge (List ℕ)). ring e.head ≡ true) xs ys

mutual
  value_heads : (ring : List ℕ → Bool) (y : List ℕ) → ring y ≡ true → (e : Expression) → RingHeads ring (flows_to ring y e)
  value_heads ring y r (literal n k) = λ e h. absurd h
  value_heads ring y r (get x s) = at_test (λ b. RingHeads ring (if b then edge_to y x ∷ [] else [])) (ring x) (λ g e h. one e h) (λ g e h. absurd h)
    where
      one : (e : Edge (List ℕ)) → IsAmong (edge_to y x ∷ []) e → ring e.head ≡ true
      one e (inl k) = ap (λ (g : Edge (List ℕ)). ring g.head) (sym k) ∙ r
      one e (inr k) = absurd k
  value_heads ring y r (minus a) = value_heads ring y r a
  value_heads ring y r (binary o a b) = both_heads ring (flows_to ring y a) (flows_to ring y b) (value_heads ring y r a) (value_heads ring y r b)
  value_heads ring y r (power a n) = value_heads ring y r a
  value_heads ring y r (call f s) = all_value_heads ring y r s

  all_value_heads : (ring : List ℕ → Bool) (y : List ℕ) → ring y ≡ true → (s : Expressions) → RingHeads ring (all_flow_to ring y s)
  all_value_heads ring y r no_expressions = λ e h. absurd h
  all_value_heads ring y r (expression a s) =
      both_heads ring (flows_to ring y a) (all_flow_to ring y s) (value_heads ring y r a) (all_value_heads ring y r s)

mutual
  heads_one : (ring : List ℕ → Bool) (a : Statement) → RingHeads ring (flows ring a)
  heads_one ring (assignment line atomic p v) =
      at_test (λ b. RingHeads ring (if b then flows_to ring p.name v else [])) (ring p.name) (λ r. value_heads ring p.name r v) (λ r e h. absurd h)
  heads_one ring (branch line arms other) =
      both_heads ring (flows_in_arms ring arms) (flows_in ring other) (heads_arms ring arms) (heads_all ring other)
  heads_one ring (loop line number directive var first last step body) = heads_all ring body

  heads_all : (ring : List ℕ → Bool) (ss : Statements) → RingHeads ring (flows_in ring ss)
  heads_all ring no_statements = λ e h. absurd h
  heads_all ring (statement a ss) = both_heads ring (flows ring a) (flows_in ring ss) (heads_one ring a) (heads_all ring ss)

  heads_arms : (ring : List ℕ → Bool) (arms : Arms) → RingHeads ring (flows_in_arms ring arms)
  heads_arms ring no_arms = λ e h. absurd h
  heads_arms ring (arm test body arms) = both_heads ring (flows_in ring body) (flows_in_arms ring arms) (heads_all ring body) (heads_arms ring arms)

varied_ring : (p : Program) (wrt : List (List ℕ)) → ((x : List ℕ) → IsAmong wrt x → is_ring_argument p x ≡ true) → (x : List ℕ)
    → IsReachedName p.decls wrt (program_flows p) x → is_ring_name p.decls x ≡ true
varied_ring p wrt f x (root y h) = (and_parts (has_name x p.args) (is_ring_name p.decls x) (f x (filter_among (is_declared p.decls) wrt x h))).1
varied_ring p wrt f x (onward w y h l) =
    heads_all (is_ring_name p.decls) (stmt_trees p.body) (record { tail = w; head = x })
    (filter_among (are_both_declared p.decls) (program_flows p) (record { tail = w; head = x }) l)

-- ---- loops' variables are of the index kind

whole_name : (names : Names) (x : List ℕ) → is_index_kind (kind_of_name names x) ≡ true → names.ring x ≡ false
whole_name names x h = fails (names.ring x) (λ r. never true refl (sym (subst (λ b. is_index_kind (if b then Ring else Index) ≡ true) r h)))

mutual
  whole_one : (names : Names) (x : List ℕ) (a : Statement) → is_well_kinded_statement names a ≡ true → varies x a ≡ true → names.ring x ≡ false
  whole_one names x (assignment line atomic p e) k h = never false h refl
  whole_one names x (branch line arms other) k h =
      let q = and_parts (are_well_kinded_arms names arms) (are_well_kinded_statements names other) k in or_to (varies_in_arms x arms)
      (varies_in x other) (whole_arms names x arms q.0) (whole_all names x other q.1) h
  whole_one names x (loop line number directive var first last step body) k h =
      let q = and_parts (is_well_kinded_head names var first last step)
      (has_scalar_privates names directive && are_well_kinded_statements names body) k in
      let r = and_parts (is_index_scalar names var)
      (is_index_expression names first && (is_index_expression names last && is_index_step names step)) q.0 in
      let i = and_parts (is_index_kind (kind_of_name names var)) (names.has_rank var 0) r.0 in
      or_to (bytes_eq x var) (varies_in x body) (λ e. ap names.ring (same_name x var e) ∙ whole_name names var i.0)
      (whole_all names x body (and_parts (has_scalar_privates names directive) (are_well_kinded_statements names body) q.1).1) h

  whole_all : (names : Names) (x : List ℕ) (ss : Statements) → are_well_kinded_statements names ss ≡ true → varies_in x ss ≡ true
      → names.ring x ≡ false
  whole_all names x no_statements k h = never false h refl
  whole_all names x (statement a ss) k h =
      let q = and_parts (is_well_kinded_statement names a) (are_well_kinded_statements names ss) k in or_to (varies x a) (varies_in x ss)
      (whole_one names x a q.0) (whole_all names x ss q.1) h

  whole_arms : (names : Names) (x : List ℕ) (arms : Arms) → are_well_kinded_arms names arms ≡ true → varies_in_arms x arms ≡ true
      → names.ring x ≡ false
  whole_arms names x no_arms k h = never false h refl
  whole_arms names x (arm test body arms) k h =
      let q = and_parts (are_well_kinded_statements names body) (are_well_kinded_arms names arms)
      (and_parts (is_well_kinded_condition names test) (are_well_kinded_statements names body && are_well_kinded_arms names arms) k).1 in
      or_to (varies_in x body) (varies_in_arms x arms) (whole_all names x body q.0) (whole_arms names x arms q.1) h

-- ---- names

nameless : (ds : List Decl) → list_all is_readable_decl ds ≡ true → is_declared ds [] ≡ false
nameless [] h = refl
nameless (d ∷ ds) h =
    let q = and_parts (is_readable_decl d) (list_all is_readable_decl ds) h in
    let v = and_parts (is_variable d.name) (is_size_of d.kind d.bytes && list_all is_readable_dim d.dims) q.0 in
    let n = and_parts (is_name d.name) (not (list_any (bytes_eq d.name) reserved_words)) v.0 in
    or_from (bytes_eq d.name []) (is_declared ds [])
    (fails (bytes_eq d.name []) (λ e. never (is_name d.name) n.0 (ap is_name (same_name d.name [] e)))) (nameless ds q.1)

ring_known : (ds : List Decl) (x : List ℕ) → is_ring_name ds x ≡ true → list_any (λ (d : Decl). bytes_eq x d.name) ds ≡ true
ring_known [] x h = h
ring_known (d ∷ ds) x h =
    or_to (if bytes_eq x d.name then is_ring_kind d.kind else false) (is_ring_name ds x)
    (λ k. at_test (λ b. (if b then is_ring_kind d.kind else false) ≡ true → (b || list_any (λ (g : Decl). bytes_eq x g.name) ds) ≡ true)
    (bytes_eq x d.name) (λ e g. refl) (λ e g. never false g refl) k)
    (λ k. or_right (bytes_eq x d.name) (list_any (λ (g : Decl). bytes_eq x g.name) ds) (ring_known ds x k)) h

none_found : (test : List ℕ → Bool) (xs : List (List ℕ)) → find test xs ≡ None → (x : List ℕ) → IsAmong xs x → test x ≡ false
none_found test [] h x i = absurd i
none_found test (y ∷ ys) h x i =
    at_test (λ b. test y ≡ b → cond b (Some y) (find test ys) ≡ None → test x ≡ false) (test y) (λ e g f. cc)
    (λ e g f. one g (λ k. none_found test ys f x k) i) refl h
  where
    one : test y ≡ false → (IsAmong ys x → test x ≡ false) → IsAmong (y ∷ ys) x → test x ≡ false
    one e f (inl k) = ap test (sym k) ∙ e
    one e f (inr k) = f k

pub all_fit : (p : Program) (of wrt : List (List ℕ)) → first_misfit p of wrt ≡ None → (x : List ℕ) → IsAmong (of ++ wrt) x
    → is_ring_argument p x ≡ true
all_fit p of wrt h x i = no_not (is_ring_argument p x) (none_found (λ y. not (is_ring_argument p y)) (of ++ wrt) h x i)

-- ---- typing

refused_not : (p : Program) (o : Option TypeError) → refused_by p o ≡ Ok p → o ≡ None
refused_not p None h = refl
refused_not p (Some e) h = absurd (let f : Err e ≡ Ok p = h in cc)

faultless : (p : Program) → judged p ≡ Ok p → first_fault p ≡ None
unfolding judged
faultless p h = refused_not p (first_fault p) h

all_clean : (p : Program) → first_fault p ≡ None → Clean p (mentions p)
unfolding first_fault
all_clean p h = head_is p (mentions p) ∙ h

pub body_clean : (p : Program) → IsReadable p → judged p ≡ Ok p → IsCleanBody p
body_clean p r t =
    let none = faultless p t in
    let body = in_statements (at_unit p.line) (stmt_trees p.body) in
    let q = at_first p (the_unit p.line p.name) (in_args p.line [] p.args ++ (in_decls [] p.decls ++ body)) (all_clean p none) in
    let k = apart p (in_args p.line [] p.args) (in_decls [] p.decls ++ body) q.1 in
    record { typed = typed p r none; clean = (apart p (in_decls [] p.decls) body k.1).1 }

pub clean_body : (p : Program) (of wrt : List (List ℕ)) → IsAccepted p of wrt → IsCleanBody p
clean_body p of wrt a = body_clean p a.readable a.typed

-- ---- the sets

active_parts : (p : Program) (of wrt : List (List ℕ)) (x : List ℕ) → is_active p of wrt x ≡ true
    → (is_varied p wrt x ≡ true) × (is_useful p of x ≡ true)
unfolding is_active
active_parts p of wrt x h = and_parts (is_varied p wrt x) (is_useful p of x) h

pub active_both : (p : Program) (of wrt : List (List ℕ)) (x : List ℕ) → is_varied p wrt x ≡ true → is_useful p of x ≡ true
    → is_active p of wrt x ≡ true
unfolding is_active
active_both p of wrt x h k = and_from (is_varied p wrt x) (is_useful p of x) h k

needed_known : (p : Program) (active : List ℕ → Bool) (x : List ℕ) → is_needed p active x ≡ true → is_declared p.decls x ≡ true
unfolding is_needed
needed_known p active x h =
    reached_known p.decls (read_by_all (kinds_of p active) (stmt_trees p.body)) (restorings_in (kinds_of p active) (stmt_trees p.body)) x
    ((reached_name p.decls (read_by_all (kinds_of p active) (stmt_trees p.body)) (restorings_in (kinds_of p active) (stmt_trees p.body)) x).0 h)

needed_begins : (p : Program) (active : List ℕ → Bool) (x : List ℕ) → IsAmong (read_by_all (kinds_of p active) (stmt_trees p.body)) x
    → is_declared p.decls x ≡ true → is_needed p active x ≡ true
unfolding is_needed
needed_begins p active x h k =
    begins p.decls (read_by_all (kinds_of p active) (stmt_trees p.body)) (restorings_in (kinds_of p active) (stmt_trees p.body)) x h k

needed_goes_on : (p : Program) (active : List ℕ → Bool) (e : Edge (List ℕ))
    → IsAmong (restorings_in (kinds_of p active) (stmt_trees p.body)) e → is_declared p.decls e.tail ≡ true
    → is_declared p.decls e.head ≡ true → is_needed p active e.tail ≡ true → is_needed p active e.head ≡ true
unfolding is_needed
needed_goes_on p active e h a b r =
    goes_on p.decls (read_by_all (kinds_of p active) (stmt_trees p.body)) (restorings_in (kinds_of p active) (stmt_trees p.body)) e h a b r

-- ---- places

pub places_fit : LayoutsFit
places_fit p values r t = record {
  own = λ x k s. own_standing x p.decls (shapes_of p values)
      (λ e. never (is_declared p.decls x) k (ap (is_declared p.decls) e ∙ nameless p.decls r.decls))
      (fails (is_laid x (shapes_of p values)) (λ l. never (is_own p x) s (laid_unscoped p c values x l))) (sym (known_turned p.decls x) ∙ k);
  scalar = scalar_shared p c values;
  low = λ q h. laid_unscoped p c values (name_at keys q) (low_name p.decls (shapes_of p values) q h);
  high = λ q h. high (name_at keys q) (high_unlaid p.decls (shapes_of p values) q h);
}
  where
    c : IsCleanBody p
    c = body_clean p r t

    keys : List Key
    keys = keys_of (with_scalars (shapes_of p values) p.decls)

    high : (x : List ℕ) → (x ≡ []) ⊎
        ((is_laid x (shapes_of p values) ≡ false) × (list_any (λ (d : Decl). bytes_eq x d.name) p.decls ≡ true)) → (x ≡ []) ⊎ (is_own p x ≡ true)
    high x (inl e) = inl e
    high x (inr k) = inr (true_from_ne_false (is_own p x)
        (λ s. never (is_laid x (shapes_of p values)) (unscoped_laid p c values x (known_turned p.decls x ∙ k.1) s) k.0))

pub places_suffice : PlacesSuffice
places_suffice p of wrt values vs s r t h = record { read = read; held = λ q m e. (let f : None ≡ Some m = e in cc) }
  where
    keys : List Key
    keys = keys_of (with_scalars (shapes_of p values) p.decls)

    unneeded : (x : List ℕ) → (is_needed p (is_active p of wrt) x ≡ true) × (not (is_own p x) ≡ true) → (x ≡ []) ⊎ (is_own p x ≡ true) → ⊥
    unneeded x d (inl n) = never (is_declared p.decls x) (needed_known p (is_active p of wrt) x d.0)
        (ap (is_declared p.decls) n ∙ nameless p.decls r.decls)
    unneeded x d (inr o) = never (is_own p x) o (not_yes (is_own p x) d.1)

    read : (q : ℕ) (v : Value) → content s q ≡ Some v → (outer_use p of wrt).needed (name_at keys q) ≡ true → slice_index vs q ≡ word_of (Some v)
    read q v e n =
        elim (cases_lt q (length (keys_of (shapes_of p values)))) [
          | inl k ↦ h q v k e
          | inr k ↦ absurd (unneeded (name_at keys q)
              (and_parts (is_needed p (is_active p of wrt) (name_at keys q)) (not (is_own p (name_at keys q))) n) ((places_fit p values r t).high q k))
        ]

-- ---- set up

abbrev setup_of : Program → (of wrt : List (List ℕ)) → List Entry → (ℕ → List ℕ → Choice) → Setup
setup_of p of wrt values choices = record {
  program = p;
  shapes = shapes_of p values;
  needed = is_needed p (is_active p of wrt);
  active = is_active p of wrt;
  moved = is_varied p wrt;
  useful = is_useful p of;
  choices = choices;
}

varied_known : (p : Program) (wrt : List (List ℕ)) (x : List ℕ) → is_varied p wrt x ≡ true → is_declared p.decls x ≡ true
varied_known p wrt x h = reached_known p.decls wrt (program_flows p) x ((reached_name p.decls wrt (program_flows p) x).0 h)

facts_of : (p : Program) (of wrt : List (List ℕ)) (values : List Entry) (choices : ℕ → List ℕ → Choice) → IsAccepted p of wrt
    → Facts (setup_of p of wrt values choices)
facts_of p of wrt values choices a = record {
  ring = λ x h. ring x (active_parts p of wrt x h).0;
  still = λ x r. fails (is_varied p wrt x) (λ v. never (is_ring_name p.decls x) (ring x v) r);
  active_known = λ x h. varied_known p wrt x (active_parts p of wrt x h).0;
  needed_known = needed_known p (is_active p of wrt);
  parts = active_parts p of wrt;
  both = active_both p of wrt;
  whole = λ x v. whole_all (declared_names p.decls) x (stmt_trees p.body) c.typed.kinds v;
  own = l.own;
  common = l.scalar;
  low = l.low;
  high = l.high;
  nameless = none;
}
  where
    c : IsCleanBody p
    c = clean_body p of wrt a

    none : is_declared p.decls [] ≡ false
    none = nameless p.decls a.readable.decls

    ring : (x : List ℕ) → is_varied p wrt x ≡ true → is_ring_name p.decls x ≡ true
    ring x v = varied_ring p wrt (λ y i. all_fit p of wrt a.fit y (in_right of wrt y i)) x ((reached_name p.decls wrt (program_flows p) x).0 v)

    l : PlacesFit p (keys_of (with_scalars (shapes_of p values) p.decls)) (length (keys_of (shapes_of p values)))
    l = places_fit p values a.readable a.typed

whole_part : (p : Program) (of wrt : List (List ℕ)) (values : List Entry) (choices : ℕ → List ℕ → Choice)
    → PartAll (setup_of p of wrt values choices) (λ z. Shared) (stmt_trees p.body)
whole_part p of wrt values choices = record {
  scoped = λ x h. h;
  varied = λ x h. h;
  read = needed_begins p (is_active p of wrt);
  restored = needed_goes_on p (is_active p of wrt);
  flown = λ e i a b. (
    λ m. goes_on p.decls wrt (program_flows p) e i a b m,
    λ u. goes_on p.decls of (map turned (program_flows p))
        (turned e) (in_map turned (program_flows p) e i) b a u,
  );
  summed = λ x h k. refl;
}

outer_scene : (p : Program) (of wrt : List (List ℕ)) (values : List Entry) (choices : ℕ → List ℕ → Choice)
    → Scene (setup_of p of wrt values choices) [] None (λ x. is_needed p (is_active p of wrt) x && not (is_own p x))
    (λ x. is_active p of wrt x && not (is_own p x)) (λ x. None)
outer_scene p of wrt values choices = record {
  plain = λ x h s. and_from (is_needed p (is_active p of wrt) x) (not (is_own p x)) h (ap not s);
  scope = λ x h. never false h refl;
  owned = λ x h v o. never false o refl;
  needed = λ x h v. (and_parts (is_needed p (is_active p of wrt) x) (not (is_own p x)) h).0;
  within = λ x h v. never (is_own p x) (variable_all x (stmt_trees p.body) v)
      (not_yes (is_own p x) (and_parts (is_needed p (is_active p of wrt) x) (not (is_own p x)) h).1);
  plain_live = λ x h s. and_from (is_active p of wrt x) (not (is_own p x)) h (ap not s);
  owned_live = λ x h v o. never false o refl;
  live = λ x h. (and_parts (is_active p of wrt x) (not (is_own p x)) h).0;
  varying = λ x h. never false h refl;
  around = λ x m e. (let f : None ≡ Some m = e in cc);
}

abbrev outer_spot : (p : Program) (of wrt : List (List ℕ)) (values : List Entry) (choices : ℕ → List ℕ → Choice)
    → Spot (setup_of p of wrt values choices)
outer_spot p of wrt values choices = record {
  around = at_unit p.line;
  needed = λ x. is_needed p (is_active p of wrt) x && not (is_own p x);
  live = λ x. is_active p of wrt x && not (is_own p x);
  held = λ x. None;
  outer = [];
  accessed = λ x. false;
  pluses = λ x. false;
  choice = λ z. Shared;
  scene = outer_scene p of wrt values choices;
}

few : (n : ℕ) → n < 2 ^ 32 → n < 2 ^ 64
few n h = omega arith

outer_given : (p : Program) (of wrt : List (List ℕ)) (values : List Entry) (choices : ℕ → List ℕ → Choice) → IsAccepted p of wrt
    → AreFitting p (is_active p of wrt) choices
    → GivenAll (setup_of p of wrt values choices) (outer_spot p of wrt values choices) (stmt_trees p.body)
outer_given p of wrt values choices a f = record {
  clean = c.clean;
  kinds = c.typed.kinds;
  read = a.readable.body;
  few = few _ a.readable.few_nodes;
  fitting = f;
  outside = λ h. record {
    alone = refl;
    silent = λ x. refl;
    outer = λ x k. k;
    own = λ x k s. never (is_own p x) s (not_yes (is_own p x) (and_parts (is_needed p (is_active p of wrt) x) (not (is_own p x)) k).1);
    dead = λ x k. not_yes (is_own p x) (and_parts (is_active p of wrt x) (not (is_own p x)) k).1;
    holds = λ x k. never false k refl;
  };
}
  where
    c : IsCleanBody p
    c = clean_body p of wrt a

pub programs_sound : ProgramsAreSound
programs_sound p of wrt values choices a f =
    statements_sound (setup_of p of wrt values choices) (facts_of p of wrt values choices a) (stmt_trees p.body)
    (outer_spot p of wrt values choices) (outer_given p of wrt values choices a f) (whole_part p of wrt values choices)

-- ---- the names that are asked of and by

pub known_argument : (p : Program) (x : List ℕ) → is_ring_argument p x ≡ true → is_declared p.decls x ≡ true
known_argument p x h = known_turned p.decls x ∙ ring_known p.decls x (and_parts (has_name x p.args) (is_ring_name p.decls x) h).1

pub names_fit : AskedNamesFit
names_fit p of wrt a = record { moved = moved; seeded = seeded; live = live }
  where
    c : IsCleanBody p
    c = clean_body p of wrt a

    unowned : (x : List ℕ) → has_name x p.args ≡ true → is_own p x ≡ false
    unowned x h = fails (is_own p x)
        (λ s. never (has_name x p.args) h
        (not_yes (has_name x p.args) (and_parts (not (has_name x p.args)) (is_scalar_declared _) (scoped_local p c x s)).0))

    moved : (x : List ℕ) → has_name x wrt ≡ true → is_varied p wrt x ≡ true
    moved x h = let i = has_in x wrt h in begins p.decls wrt (program_flows p) x i
        (known_argument p x (all_fit p of wrt a.fit x (in_right of wrt x i)))

    live : (x : List ℕ) → is_active p of wrt x ≡ true → has_name x p.args ≡ true → (is_active p of wrt x && not (is_own p x)) ≡ true
    live x h k = and_from (is_active p of wrt x) (not (is_own p x)) h (ap not (unowned x k))

    seeded : (x : List ℕ) → (is_active p of wrt x && not (is_own p x)) ≡ false → is_varied p wrt x ≡ true → has_name x of ≡ false
    seeded x h m = fails (has_name x of) (λ o.
        let i = has_in x of o in
        let g = all_fit p of wrt a.fit x (in_left of wrt x i) in
        let active = active_both p of wrt x m (begins p.decls of (map turned (program_flows p)) x i (known_argument p x g)) in
        never (is_active p of wrt x && not (is_own p x)) (live x active (and_parts (has_name x p.args) (is_ring_name p.decls x) g).0) h)

-- a place of the layout is none of a loop's own names
pub low_unowned : (p : Program) (of wrt : List (List ℕ)) (values : List Entry) → IsAccepted p of wrt → (q : ℕ)
    → q < length (keys_of (shapes_of p values)) → is_own p (name_at (keys_of (with_scalars (shapes_of p values) p.decls)) q) ≡ false
low_unowned p of wrt values a q h =
    laid_unscoped p (clean_body p of wrt a) values (name_at (keys_of (with_scalars (shapes_of p values) p.decls)) q)
    (low_name p.decls (shapes_of p values) q h)

-- an active name is no variable
pub active_whole : (p : Program) (of wrt : List (List ℕ)) → IsAccepted p of wrt → (x : List ℕ) → is_active p of wrt x ≡ true → is_varying p x ≡ false
active_whole p of wrt a x h =
    fails (is_varying p x) (λ v.
    never (is_ring_name p.decls x)
    (varied_ring p wrt (λ y i. all_fit p of wrt a.fit y (in_right of wrt y i)) x
    ((reached_name p.decls wrt (program_flows p) x).0 (active_parts p of wrt x h).0))
    (whole_all (declared_names p.decls) x (stmt_trees p.body) (clean_body p of wrt a).typed.kinds v))
