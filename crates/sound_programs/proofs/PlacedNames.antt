-- Which names of a program have places in its layout: those that no loop has as its variable or lists as private.
use Rattle.std.proofs.Common.{◌≡◌, inl, inr, ℕ, suc, ◌<◌, Bool, true, false, not, ◌&&◌, ◌||◌, cond, bytes_eq, List, [], ◌∷◌, ◌++◌, map, length, find, Option, Some, None, refl, ap, sym, subst, ◌∙◌, arith}
use Rattle.std.specs.Prelude.{ℤ, option_map}
use Rattle.std.specs.List.{list_any, list_all, filter_map}
use Rattle.std.proofs.lemmas.Bool.{or_parts, or_from, or_left, or_right, and_from, and_parts}
use Rattle.std.proofs.lemmas.List.Folds.{list_any-append}
use Rattle.fl_ast.specs.declared.decl.Dim.{Dim}
use Rattle.fl_ast.specs.declared.decl.Decl.{Decl}
use Rattle.fl_ast.specs.declared.stmt.Program.{Program}
use Rattle.fl_ast.specs.Tree.{Statement, assignment, branch, loop, Statements, no_statements, statement, Arms, no_arms, arm, stmt_trees}
use Rattle.fl_types.specs.Sharing.{has_name, varies, varies_in, varies_in_arms, ParallelLoop, loops_of, loops_of_all, loops_of_arms}
use Rattle.fl_types.specs.Declarations.{is_declared, is_scalar}
use Rattle.fl_types.specs.WellTyped.{are_declared_once, is_argument_if_array, is_local_scalar, is_index_declared, has_fair_clauses, IsTyped}
use Rattle.fl_types.specs.Mentions.{in_statements, at_unit}
use Rattle.store_core.specs.declared.bound.Axis.{Axis}
use Rattle.store_core.specs.declared.layout.Shape.{Shape}
use Rattle.store_core.specs.declared.values.Entry.{Entry}
use Rattle.store_core.specs.Values.{value_in}
use Rattle.store_core.specs.Bounds.{axis_of, shape_of}
use Rattle.store_core.specs.Keys.{keys_of_shape, keys_of, same_key, first_at, laid, laid_all, with_scalars}
use Rattle.store_core.specs.Scopes.{scopes, scopes_in, scopes_in_arms}
use Rattle.store_core.specs.Places.{declaration_of, is_empty, is_local, local_of, placed, shapes_of}
use Rattle.store_core.proofs.Scalars.{no_axes}
use Rattle.meaning.specs.Sites.{Key}
use Rattle.reachability.specs.Reached.{IsAmong}
use Rattle.adjoint_choices.specs.Choosing.{is_scalar_name}
use Rattle.typing.proofs.Faultless.{Clean}
use Rattle.typing.proofs.Sound.{local_if_all}
use Rattle.sound_programs.specs.Accepted.{HasPlace}
use Rattle.sound_programs.proofs.Lists.{at_test, never, not_yes, by_cases, or_to, fails, same_name, itself, turned_test, has_in}
use Rattle.sound_programs.proofs.Layouts.{is_laid, plain_key, extra, extra_keys}

-- ---- names of layouts

absorbed : (a b : Bool) → (b ≡ true → a ≡ true) → a ≡ (a || b)
absorbed true b h = refl
absorbed false true h = h refl
absorbed false false h = refl

or_none : (a : Bool) → (a || false) ≡ a
or_none true = refl
or_none false = refl

or_grouped : (a b c : Bool) → ((a || b) || c) ≡ (a || (b || c))
or_grouped true b c = refl
or_grouped false b c = refl

laid_one : (x : List ℕ) (es : List Shape) (s : Shape) → is_laid x (laid es s) ≡ (is_laid x es || bytes_eq x s.name)
laid_one x es s =
    at_test (λ b. is_laid x (cond b es (es ++ s ∷ [])) ≡ (is_laid x es || bytes_eq x s.name)) (is_laid s.name es)
    (λ e. absorbed (is_laid x es) (bytes_eq x s.name) (λ k. ap (λ y. is_laid y es) (same_name x s.name k) ∙ e))
    (λ e. list_any-append (λ (e : Shape). bytes_eq x e.name) es (s ∷ []) ∙ ap (λ b. is_laid x es || b) (or_none (bytes_eq x s.name)))

laid_names : (x : List ℕ) (ss es : List Shape) → is_laid x (laid_all es ss) ≡ (is_laid x es || is_laid x ss)
laid_names x [] es = sym (or_none (is_laid x es))
laid_names x (s ∷ ss) es = laid_names x ss (laid es s)
    ∙ (ap (λ b. b || is_laid x ss) (laid_one x es s) ∙ or_grouped (is_laid x es) (bytes_eq x s.name) (is_laid x ss))

shape_names : (x : List ℕ) (v : List ℕ → ℤ) (ds : List Decl) → is_laid x (map (shape_of v) ds) ≡ list_any (λ (d : Decl). bytes_eq x d.name) ds
shape_names x v [] = refl
shape_names x v (d ∷ ds) = ap (λ b. bytes_eq x d.name || b) (shape_names x v ds)

laid_placed : (p : Program) (values : List Entry) (x : List ℕ)
    → is_laid x (shapes_of p values) ≡ list_any (λ (d : Decl). bytes_eq x d.name) (placed p)
laid_placed p values x = laid_names x (map (shape_of (value_in values)) (placed p)) [] ∙ shape_names x (value_in values) (placed p)

-- ---- declarations that are found

pub found_named : (ds : List Decl) (x : List ℕ) (d : Decl) → declaration_of ds x ≡ Some d → bytes_eq x d.name ≡ true
found_named [] x d e = cc
found_named (y ∷ ds) x d e =
    at_test (λ b. cond b (Some y) (find (λ (g : Decl). bytes_eq x g.name) ds) ≡ Some d → bytes_eq x d.name ≡ true) (bytes_eq x y.name)
    (λ k g. let i : y ≡ d = cc in subst (λ (z : Decl). bytes_eq x z.name ≡ true) i k) (λ k g. found_named ds x d g) e

pub found_passes : (t : Decl → Bool) (ds : List Decl) (x : List ℕ) (d : Decl) → list_all t ds ≡ true → declaration_of ds x ≡ Some d → t d ≡ true
found_passes t [] x d h e = cc
found_passes t (y ∷ ds) x d h e =
    let q = and_parts (t y) (list_all t ds) h in
    at_test (λ b. cond b (Some y) (find (λ (g : Decl). bytes_eq x g.name) ds) ≡ Some d → t d ≡ true) (bytes_eq x y.name)
    (λ k g. let i : y ≡ d = cc in subst (λ (z : Decl). t z ≡ true) i q.0) (λ k g. found_passes t ds x d q.1 g) e

-- a declared name has a declaration
pub record IsFound (ds : List Decl) (x : List ℕ) : Type 0 where
  pub decl : Decl
  pub is : declaration_of ds x ≡ Some decl
  pub named : bytes_eq x decl.name ≡ true
  pub among : IsAmong ds decl

later_found : (ds : List Decl) (d : Decl) (x : List ℕ) → bytes_eq x d.name ≡ false → IsFound ds x → IsFound (d ∷ ds) x
later_found ds d x k r = record { decl = r.decl; is = rw k r.is; named = r.named; among = inr r.among }

pub declared_found : (ds : List Decl) (x : List ℕ) → list_any (λ (d : Decl). bytes_eq x d.name) ds ≡ true → IsFound ds x
declared_found [] x h = never false h refl
declared_found (d ∷ ds) x h =
    by_cases (bytes_eq x d.name) (λ k. record { decl = d; is = rw k refl; named = k; among = inl refl })
    (λ k. later_found ds d x k (declared_found ds x
    (or_to (bytes_eq x d.name) (list_any (λ (d : Decl). bytes_eq x d.name) ds) (λ g. never (bytes_eq x d.name) g k) (λ g. g) h)))

pub known_turned : (ds : List Decl) (x : List ℕ) → is_declared ds x ≡ list_any (λ (d : Decl). bytes_eq x d.name) ds
known_turned [] x = refl
known_turned (d ∷ ds) x = ap (λ b. b || is_declared ds x) (turned_test d.name x) ∙ ap (λ b. bytes_eq x d.name || b) (known_turned ds x)

-- ---- what is left of a list

some_left : {A : Type 0} {P : Type 0} (f : A → Option Decl) (t : Decl → Bool) (xs : List A)
    → ((a : A) (d : Decl) → IsAmong xs a → f a ≡ Some d → t d ≡ true → P) → list_any t (filter_map f xs) ≡ true → P
some_left f t [] k h = never false h refl
some_left {A} {P} f t (y ∷ xs) k h = by_found (f y) refl h (λ g. some_left f t xs (λ a d i. k a d (inr i)) g)
  where
    by_found : (o : Option Decl) → f y ≡ o → list_any t (Rattle.std.specs.List.cons_option o (filter_map f xs)) ≡ true
        → (list_any t (filter_map f xs) ≡ true → P) → P
    by_found None e g rest = rest g
    by_found (Some d) e g rest = or_to (t d) (list_any t (filter_map f xs)) (λ i. k y d (inl refl) e i) rest g

left_some : {A : Type 0} (f : A → Option Decl) (t : Decl → Bool) (xs : List A) (a : A) (d : Decl) → IsAmong xs a → f a ≡ Some d → t d ≡ true
    → list_any t (filter_map f xs) ≡ true
left_some f t [] a d i e h = absurd i
left_some f t (y ∷ xs) a d (inl i) e h =
    let g : f y ≡ Some d = ap f i ∙ e in subst (λ o. list_any t (Rattle.std.specs.List.cons_option o (filter_map f xs)) ≡ true) (sym g)
    (or_left (t d) (list_any t (filter_map f xs)) h)
left_some f t (y ∷ xs) a d (inr i) e h = by_found (f y) (left_some f t xs a d i e h)
  where
    by_found : (o : Option Decl) → list_any t (filter_map f xs) ≡ true → list_any t (Rattle.std.specs.List.cons_option o (filter_map f xs)) ≡ true
    by_found None g = g
    by_found (Some z) g = or_right (t z) (list_any t (filter_map f xs)) g

all_left : {A : Type 0} (f : A → Option Decl) (t : Decl → Bool) (xs : List A)
    → ((a : A) (d : Decl) → IsAmong xs a → f a ≡ Some d → t d ≡ true) → list_all t (filter_map f xs) ≡ true
all_left f t [] k = refl
all_left f t (y ∷ xs) k = by_found (f y) refl (all_left f t xs (λ a d i. k a d (inr i)))
  where
    by_found : (o : Option Decl) → f y ≡ o → list_all t (filter_map f xs) ≡ true
        → list_all t (Rattle.std.specs.List.cons_option o (filter_map f xs)) ≡ true
    by_found None e g = g
    by_found (Some d) e g = and_from (t d) (list_all t (filter_map f xs)) (k y d (inl refl) e) g

all_both : {A : Type 0} (t : A → Bool) (xs ys : List A) → list_all t xs ≡ true → list_all t ys ≡ true → list_all t (xs ++ ys) ≡ true
all_both t [] ys h g = g
all_both t (x ∷ xs) ys h g = let q = and_parts (t x) (list_all t xs) h in and_from (t x) (list_all t (xs ++ ys)) q.0 (all_both t xs ys q.1 g)

pub all_parts : {A : Type 0} (t : A → Bool) (xs ys : List A) → list_all t (xs ++ ys) ≡ true → (list_all t xs ≡ true) × (list_all t ys ≡ true)
all_parts t [] ys h = (refl, h)
all_parts t (x ∷ xs) ys h =
    let q = and_parts (t x) (list_all t (xs ++ ys)) h in
    let r = all_parts t xs ys q.1 in
    (and_from (t x) (list_all t xs) q.0 r.0, r.1)

passing : {A : Type 0} (t : A → Bool) (xs : List A) (x : A) → list_all t xs ≡ true → IsAmong xs x → t x ≡ true
passing t [] x h i = absurd i
passing t (y ∷ ys) x h (inl e) = ap t (sym e) ∙ (and_parts (t y) (list_all t ys) h).0
passing t (y ∷ ys) x h (inr i) = passing t ys x (and_parts (t y) (list_all t ys) h).1 i

-- ---- loops' own names are local

pub every_name : (P : List ℕ → Bool) (x : List ℕ) (xs : List (List ℕ)) → list_all P xs ≡ true → has_name x xs ≡ true → P x ≡ true
every_name P x xs h g = passing P xs x h (has_in x xs g)

private_local : (p : Program) (l : ParallelLoop) (x : List ℕ) → has_fair_clauses p l ≡ true → has_name x l.directive.privates ≡ true
    → is_local_scalar p x ≡ true
private_local p l x h g = every_name (is_local_scalar p) x l.directive.privates
    (and_parts (list_all (is_local_scalar p) l.directive.privates) _ (and_parts _ (list_all (is_local_scalar p) l.directive.privates && _) h).1).0 g

mutual
  listed_local : (p : Program) (x : List ℕ) (outer : List (List ℕ)) (s : Statement) → varies x s ≡ false
      → list_all (has_fair_clauses p) (loops_of outer s) ≡ true → scopes x s ≡ true → is_local_scalar p x ≡ true
  listed_local p x outer (assignment line atomic t e) v h g = never false g refl
  listed_local p x outer (branch line arms other) v h g =
      let q = or_parts (varies_in_arms x arms) (varies_in x other) v in
      let r = all_parts (has_fair_clauses p) (loops_of_arms outer arms) (loops_of_all outer other) h in
      or_to (scopes_in_arms x arms) (scopes_in x other) (listed_local_arms p x outer arms q.0 r.0) (listed_local_all p x outer other q.1 r.1) g
  listed_local p x outer (loop line number None var first last step body) v h g =
      let q = or_parts (bytes_eq x var) (varies_in x body) v in
      or_to (bytes_eq x var) (scopes_in x body) (λ k. never (bytes_eq x var) k q.0) (listed_local_all p x (var ∷ outer) body q.1 h) g
  listed_local p x outer (loop line number (Some d) var first last step body) v h g =
      let q = or_parts (bytes_eq x var) (varies_in x body) v in
      let l : ParallelLoop = record { line = line; number = number; outer = outer; directive = d; var = var; body = body } in
      let r = and_parts (has_fair_clauses p l) (list_all (has_fair_clauses p) (loops_of_all (var ∷ outer) body)) h in
      or_to (bytes_eq x var) (has_name x d.privates || scopes_in x body) (λ k. never (bytes_eq x var) k q.0)
      (or_to (has_name x d.privates) (scopes_in x body) (private_local p l x r.0) (listed_local_all p x (var ∷ outer) body q.1 r.1)) g

  listed_local_all : (p : Program) (x : List ℕ) (outer : List (List ℕ)) (ss : Statements) → varies_in x ss ≡ false
      → list_all (has_fair_clauses p) (loops_of_all outer ss) ≡ true → scopes_in x ss ≡ true → is_local_scalar p x ≡ true
  listed_local_all p x outer no_statements v h g = never false g refl
  listed_local_all p x outer (statement s ss) v h g =
      let q = or_parts (varies x s) (varies_in x ss) v in
      let r = all_parts (has_fair_clauses p) (loops_of outer s) (loops_of_all outer ss) h in
      or_to (scopes x s) (scopes_in x ss) (listed_local p x outer s q.0 r.0) (listed_local_all p x outer ss q.1 r.1) g

  listed_local_arms : (p : Program) (x : List ℕ) (outer : List (List ℕ)) (arms : Arms) → varies_in_arms x arms ≡ false
      → list_all (has_fair_clauses p) (loops_of_arms outer arms) ≡ true → scopes_in_arms x arms ≡ true → is_local_scalar p x ≡ true
  listed_local_arms p x outer no_arms v h g = never false g refl
  listed_local_arms p x outer (arm test body arms) v h g =
      let q = or_parts (varies_in x body) (varies_in_arms x arms) v in
      let r = all_parts (has_fair_clauses p) (loops_of_all outer body) (loops_of_arms outer arms) h in
      or_to (scopes_in x body) (scopes_in_arms x arms) (listed_local_all p x outer body q.0 r.0) (listed_local_arms p x outer arms q.1 r.1) g

abbrev body_of : Program → Statements
body_of p = stmt_trees p.body

-- what typing says of a program's body
pub record IsCleanBody (p : Program) : Type 0 where
  pub typed : IsTyped p
  pub clean : Clean p (in_statements (at_unit p.line) (body_of p))

pub scoped_local : (p : Program) → IsCleanBody p → (x : List ℕ) → scopes_in x (body_of p) ≡ true → is_local_scalar p x ≡ true
scoped_local p t x h =
    by_cases (varies_in x (body_of p))
    (λ v. (and_parts (is_index_declared _) (is_local_scalar p x) (local_if_all p (at_unit p.line) x (body_of p) t.clean v)).1)
    (λ v. listed_local_all p x [] (body_of p) v t.typed.clauses h)

-- ---- which names are laid

pub laid_unscoped : (p : Program) → IsCleanBody p → (values : List Entry) (x : List ℕ) → is_laid x (shapes_of p values) ≡ true
    → scopes_in x (body_of p) ≡ false
laid_unscoped p t values x h =
    or_to (list_any test (filter_map (declaration_of p.decls) p.args)) (list_any test (filter_map (local_of p) p.decls))
    (some_left (declaration_of p.decls) test p.args by_argument) (some_left (local_of p) test p.decls by_local)
    (sym (list_any-append test (filter_map (declaration_of p.decls) p.args) (filter_map (local_of p) p.decls)) ∙ (sym (laid_placed p values x) ∙ h))
  where
    test : Decl → Bool
    test d = bytes_eq x d.name

    argument : has_name x p.args ≡ true → scopes_in x (body_of p) ≡ false
    argument a = fails (scopes_in x (body_of p))
        (λ s. never (has_name x p.args) a (not_yes (has_name x p.args) (and_parts (not (has_name x p.args)) _ (scoped_local p t x s)).0))

    named : (xs : List (List ℕ)) → IsAmong xs x → has_name x xs ≡ true
    named [] i = absurd i
    named (y ∷ ys) (inl e) = or_left (bytes_eq x y) (has_name x ys) (ap (bytes_eq x) e ∙ itself x)
    named (y ∷ ys) (inr i) = or_right (bytes_eq x y) (has_name x ys) (named ys i)

    by_argument : (a : List ℕ) (d : Decl) → IsAmong p.args a → declaration_of p.decls a ≡ Some d → test d ≡ true → scopes_in x (body_of p) ≡ false
    by_argument a d i e k = argument
        (named p.args (subst (IsAmong p.args) (same_name a d.name (found_named p.decls a d e) ∙ sym (same_name x d.name k)) i))

    by_local : (y d : Decl) → IsAmong p.decls y → local_of p y ≡ Some d → test d ≡ true → scopes_in x (body_of p) ≡ false
    by_local y d i e k =
        at_test (λ b. is_local p y ≡ b → cond b (Some y) None ≡ Some d → scopes_in x (body_of p) ≡ false) (is_local p y)
        (λ g l f.
        let j : y ≡ d = cc in
        let a = and_parts (is_empty y.dims) _ l in
        let b = and_parts (not (list_any (λ name. bytes_eq y.name name) p.args)) (not (scopes_in y.name (body_of p))) a.1 in
        ap (λ z. scopes_in z (body_of p)) (same_name x d.name k ∙ ap (λ (z : Decl). z.name) (sym j)) ∙ not_yes (scopes_in y.name (body_of p)) b.1)
        (λ g l f. cc) refl e

is_empty_dims : (ds : List Dim) → is_scalar ds ≡ true → is_empty ds ≡ true
is_empty_dims [] h = refl
is_empty_dims (d ∷ ds) h = never false h refl

pub unscoped_laid : (p : Program) → IsCleanBody p → (values : List Entry) (x : List ℕ) → is_declared p.decls x ≡ true
    → scopes_in x (body_of p) ≡ false → is_laid x (shapes_of p values) ≡ true
unscoped_laid p t values x known s =
    laid_placed p values x
    ∙ (list_any-append test (filter_map (declaration_of p.decls) p.args) (filter_map (local_of p) p.decls)
    ∙ by_cases (has_name x p.args)
    (λ a. or_left (list_any test (filter_map (declaration_of p.decls) p.args)) _
    (left_some (declaration_of p.decls) test p.args x r.decl (has_in x p.args a) r.is r.named))
    (λ a. or_right (list_any test (filter_map (declaration_of p.decls) p.args)) _
    (left_some (local_of p) test p.decls r.decl r.decl r.among (rw (local a) refl) r.named)))
  where
    test : Decl → Bool
    test d = bytes_eq x d.name

    r : IsFound p.decls x
    r = declared_found p.decls x (sym (known_turned p.decls x) ∙ known)

    same : x ≡ r.decl.name
    same = same_name x r.decl.name r.named

    local : has_name x p.args ≡ false → is_local p r.decl ≡ true
    local a =
        and_from (is_empty r.decl.dims) _
        (is_empty_dims r.decl.dims (or_to (is_scalar r.decl.dims) (has_name r.decl.name p.args) (λ k. k)
        (λ k. never (has_name x p.args) (ap (λ y. has_name y p.args) same ∙ k) a)
        (found_passes (is_argument_if_array p.args) p.decls x r.decl t.typed.arrays r.is)))
        (and_from (not (has_name r.decl.name p.args)) (not (scopes_in r.decl.name (body_of p)))
        (ap (λ y. not (has_name y p.args)) (sym same) ∙ ap not a) (ap (λ y. not (scopes_in y (body_of p))) (sym same) ∙ ap not s))

-- ---- scalars

abbrev is_scalar_if : List ℕ → Decl → Bool
is_scalar_if x d = not (bytes_eq x d.name) || is_scalar d.dims

not_here : (x : List ℕ) (ds : List Decl) → list_any (λ (d : Decl). bytes_eq x d.name) ds ≡ false → list_all (is_scalar_if x) ds ≡ true
not_here x [] h = refl
not_here x (d ∷ ds) h =
    let r = or_parts (bytes_eq x d.name) (list_any (λ (d : Decl). bytes_eq x d.name) ds) h in
    and_from (is_scalar_if x d) (list_all (is_scalar_if x) ds) (or_left (not (bytes_eq x d.name)) (is_scalar d.dims) (ap not r.0)) (not_here x ds r.1)

named_scalar : (x : List ℕ) (ds : List Decl) → is_scalar_name ds x ≡ true → list_any (λ (d : Decl). bytes_eq x d.name) ds ≡ true
named_scalar x [] h = h
named_scalar x (d ∷ ds) h =
    or_to (bytes_eq x d.name && is_scalar d.dims) (is_scalar_name ds x)
    (λ k. or_left (bytes_eq x d.name) _ (and_parts (bytes_eq x d.name) (is_scalar d.dims) k).0)
    (λ k. or_right (bytes_eq x d.name) _ (named_scalar x ds k)) h

all_scalar : (x : List ℕ) (ds : List Decl) → are_declared_once ds ≡ true → is_scalar_name ds x ≡ true → list_all (is_scalar_if x) ds ≡ true
all_scalar x [] o h = refl
all_scalar x (d ∷ ds) o h =
    let q = and_parts (not (list_any (λ (e : Decl). bytes_eq d.name e.name) ds)) (are_declared_once ds) o in
    let new = not_yes (list_any (λ (e : Decl). bytes_eq d.name e.name) ds) q.0 in
    or_to (bytes_eq x d.name && is_scalar d.dims) (is_scalar_name ds x)
    (λ k.
    let r = and_parts (bytes_eq x d.name) (is_scalar d.dims) k in
    and_from (is_scalar_if x d) (list_all (is_scalar_if x) ds) (or_right (not (bytes_eq x d.name)) (is_scalar d.dims) r.1)
    (not_here x ds (ap (λ y. list_any (λ (e : Decl). bytes_eq y e.name) ds) (same_name x d.name r.0) ∙ new)))
    (λ k.
    let other = fails (bytes_eq x d.name)
    (λ e. never (list_any (λ (g : Decl). bytes_eq x g.name) ds) (named_scalar x ds k)
    (ap (λ y. list_any (λ (g : Decl). bytes_eq y g.name) ds) (same_name x d.name e) ∙ new)) in
    and_from (is_scalar_if x d) (list_all (is_scalar_if x) ds) (or_left (not (bytes_eq x d.name)) (is_scalar d.dims) (ap not other))
    (all_scalar x ds q.1 k)) h

abbrev is_plain_if : List ℕ → Shape → Bool
is_plain_if x s = not (bytes_eq x s.name) || is_empty s.axes

empty_axes : (f : Dim → Axis) (ds : List Dim) → is_scalar ds ≡ true → is_empty (map f ds) ≡ true
empty_axes f [] h = refl
empty_axes f (d ∷ ds) h = never false h refl

plain_shapes : (x : List ℕ) (v : List ℕ → ℤ) (ds : List Decl) → list_all (is_scalar_if x) ds ≡ true
    → list_all (is_plain_if x) (map (shape_of v) ds) ≡ true
plain_shapes x v [] h = refl
plain_shapes x v (d ∷ ds) h =
    let q = and_parts (is_scalar_if x d) (list_all (is_scalar_if x) ds) h in
    and_from (is_plain_if x (shape_of v d)) (list_all (is_plain_if x) (map (shape_of v) ds))
    (or_to (not (bytes_eq x d.name)) (is_scalar d.dims) (λ k. or_left (not (bytes_eq x d.name)) (is_empty (map (axis_of v) d.dims)) k)
    (λ k. or_right (not (bytes_eq x d.name)) (is_empty (map (axis_of v) d.dims)) (empty_axes (axis_of v) d.dims k)) q.0) (plain_shapes x v ds q.1)

plain_laid : (x : List ℕ) (ss es : List Shape) → list_all (is_plain_if x) es ≡ true → list_all (is_plain_if x) ss ≡ true
    → list_all (is_plain_if x) (laid_all es ss) ≡ true
plain_laid x [] es h g = h
plain_laid x (s ∷ ss) es h g =
    let q = and_parts (is_plain_if x s) (list_all (is_plain_if x) ss) g in
    plain_laid x ss (laid es s)
    (at_test (λ b. list_all (is_plain_if x) (cond b es (es ++ s ∷ [])) ≡ true) (is_laid s.name es) (λ e. h)
    (λ e. all_both (is_plain_if x) es (s ∷ []) h (and_from (is_plain_if x s) true q.0 refl))) q.1

local_passes : (p : Program) (t : Decl → Bool) (y d : Decl) → t y ≡ true → local_of p y ≡ Some d → t d ≡ true
local_passes p t y d h e =
    at_test (λ b. cond b (Some y) None ≡ Some d → t d ≡ true) (is_local p y)
    (λ k f. let j : y ≡ d = cc in subst (λ (z : Decl). t z ≡ true) j h) (λ k f. cc) e

all_placed : (p : Program) (t : Decl → Bool) → list_all t p.decls ≡ true → list_all t (placed p) ≡ true
all_placed p t h =
    all_both t (filter_map (declaration_of p.decls) p.args) (filter_map (local_of p) p.decls)
    (all_left (declaration_of p.decls) t p.args (λ a d i e. found_passes t p.decls a d h e))
    (all_left (local_of p) t p.decls (λ y d i e. local_passes p t y d (passing t p.decls y h i) e))

-- a scalar's place among the first keys
pub record Common (ks keys : List Key) (x : List ℕ) : Type 0 where
  pub q : ℕ
  pub place : first_at (same_key (x, [])) (ks ++ keys) ≡ Some q
  pub shared : q < length ks

next_place : (b : Bool) (keys : List Key) (x : List ℕ) (q : ℕ) → b ≡ false → first_at (same_key (x, [])) keys ≡ Some q
    → cond b (Some 0) (option_map suc (first_at (same_key (x, [])) keys)) ≡ Some (suc q)
next_place true keys x q e h = never true refl e
next_place false keys x q e h = ap (option_map suc) h

first_place : (b : Bool) (o : Option ℕ) → b ≡ true → cond b (Some 0) o ≡ Some 0
first_place true o e = refl
first_place false o e = never false e refl

behind_all : (x y : List ℕ) (l : List (List ℤ)) (ks keys : List Key) → bytes_eq x y ≡ false → Common ks keys x
    → Common (map (λ ss. (y, ss)) l ++ ks) keys x
behind_all x y [] ks keys f c = c
behind_all x y (ss ∷ l) ks keys f c =
    let d = behind_all x y l ks keys f c in
    record {
      q = suc d.q;
      place = next_place (same_key (x, []) (y, ss)) ((map (λ ts. (y, ts)) l ++ ks) ++ keys) x d.q
          (Rattle.std.proofs.lemmas.Bool.and_left (bytes_eq x y) _ f) d.place;
      shared = (let h : d.q < length (map (λ ts. (y, ts)) l ++ ks) = d.shared in omega arith);
    }

common_place : (x : List ℕ) (es : List Shape) (keys : List Key) → list_all (is_plain_if x) es ≡ true → is_laid x es ≡ true
    → Common (keys_of es) keys x
common_place x [] keys h g = never false g refl
common_place x (e ∷ es) keys h g =
    let q = and_parts (is_plain_if x e) (list_all (is_plain_if x) es) h in
    by_cases (bytes_eq x e.name)
    (λ k.
    let bare : e.axes ≡ [] = no_axes e.axes
    (or_to (not (bytes_eq x e.name)) (is_empty e.axes) (λ n. never (bytes_eq x e.name) k (not_yes (bytes_eq x e.name) n)) (λ n. n) q.0) in
    subst (λ axes. Common (map (λ ss. (e.name, ss)) (Rattle.store_core.specs.Keys.subscripts_of axes) ++ keys_of es) keys x) (sym bare)
    (record { q = 0; place = first_place (bytes_eq x e.name && true) _ (and_from (bytes_eq x e.name) true k refl); shared = (omega arith) }))
    (λ k. behind_all x e.name (Rattle.store_core.specs.Keys.subscripts_of e.axes) (keys_of es) keys k
    (common_place x es keys q.1 (or_to (bytes_eq x e.name) (is_laid x es) (λ n. never (bytes_eq x e.name) n k) (λ n. n) g)))

pub scalar_shared : (p : Program) → IsCleanBody p → (values : List Entry) (x : List ℕ) → is_scalar_name p.decls x ≡ true
    → scopes_in x (body_of p) ≡ false
    → HasPlace (keys_of (with_scalars (shapes_of p values) p.decls)) (length (keys_of (shapes_of p values))) x
scalar_shared p t values x h s =
    let es = shapes_of p values in
    let plain : list_all (is_plain_if x) es ≡ true =
    plain_laid x (map (shape_of (value_in values)) (placed p)) [] refl
    (plain_shapes x (value_in values) (placed p) (all_placed p (is_scalar_if x) (all_scalar x p.decls t.typed.once h))) in
    let c = common_place x es (map plain_key (extra es p.decls)) plain
    (unscoped_laid p t values x (known_turned p.decls x ∙ named_scalar x p.decls h) s) in
    subst (λ keys. HasPlace keys (length (keys_of es)) x) (sym (extra_keys p.decls es)) (record { q = c.q; place = c.place; shared = c.shared })
