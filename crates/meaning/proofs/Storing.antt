-- What each store at a name that a body writes keeps, a run of the body keeps.
use Rattle.std.specs.Prelude.{◌≡◌, ◌≢◌, ℕ, zero, suc, ◌+◌, ◌/◌, ◌%◌, ℤ, Bool, true, false, ◌||◌, if◌then◌else◌, bytes_eq, List, [], ◌∷◌, length, filter, Option, Some, None, refl, slice_set}
use Rattle.std.proofs.Common.{ap, sym, ◌∙◌}
use Rattle.std.proofs.lemmas.Bool.{or_left, or_right, or_parts}
use Rattle.std.proofs.lemmas.List.{length-set}
use Rattle.std.proofs.lemmas.Slice.Eq.{bytes_eq-Decides}
use Rattle.fl_ast.specs.declared.directive.Directive.{Directive}
use Rattle.fl_ast.specs.Tree.{Expression, Designator, Statement, assignment, branch, loop, Statements, no_statements, statement, Arms, no_arms, arm}
use Rattle.fl_types.specs.declared.access.AccessKind.{AccessKind}
use Rattle.fl_types.specs.declared.access.AccessKind.TheVariants.{Write}
use Rattle.fl_types.specs.Accesses.{increment_kind}
use Rattle.fl_types.specs.Nests.{Head, is_nest, further_head, inner_head}
use Rattle.fl_types.specs.Increment.{Signed, increment_terms}
use Rattle.fl_types.specs.declared.sharing.Sharing.TheVariants.{Shared, Private, First, Plus, LoopVar}
use Rattle.fl_types.specs.Sharing.{has_name, varies_in, assigns, assigns_in, assigns_in_arms, sharing_in, is_private}
use Rattle.store_core.specs.Keys.{same_key, first_at}
use Rattle.store_core.specs.Scopes.{scopes, scopes_in, scopes_in_arms}
use Rattle.store_core.specs.Scopes.{is_listed_private}
use Rattle.meaning.specs.declared.value.Dual.{Dual}
use Rattle.meaning.specs.declared.value.Value.{Value}
use Rattle.meaning.specs.declared.value.Value.TheVariants.{Index, Ring}
use Rattle.meaning.specs.declared.value.Cause.{Cause}
use Rattle.meaning.specs.declared.value.Cause.TheVariants.{Bounds, Unset}
use Rattle.meaning.specs.declared.value.TrapAt.{TrapAt}
use Rattle.meaning.specs.declared.value.IterationCount.{IterationCount}
use Rattle.meaning.specs.Values.{as_dual, as_kind, whole_numbers}
use Rattle.meaning.specs.Logs.{Log, single, both, ends, right_side, rounds, condition, Traced, pure, after, ◌>>=◌, inside, at_line}
use Rattle.meaning.specs.Sites.{Key, Cells, Site, in_turn, in_iteration, place_of, kind_of}
use Rattle.meaning.specs.Expressions.{content, value_of, values_of, holds}
use Rattle.meaning.specs.Statements.{Run, with_log, store_at, after_push, put, plain_assignment, terms_of, incremented_dual, increment_cell, increment_place, increment, assignment_by, turns_of, value_at, set_at, with_variable, turns, loop_words, private_names, with_all_unset, unset_log, content_at, private_words, one_turn, Heads, iterations, with_variables, words_of_all, further_turns, heads_of, one_iteration, run_turns, run_parallel, choice, in_arm, run, run_all, run_inner, run_within, run_arms}
use Rattle.meaning.specs.Frame.{content_by_name, NamesAreKept, CellsAreKept}
use Rattle.meaning.proofs.Gives.{Gives, gives_value, gives_none, then_gives, line_gives, touching_gives, saving_gives}
use Rattle.meaning.proofs.Contents.{content_set_other, place_named}

-- a relation between cells that stores at the places of some names keep
pub record Steps (keys : List Key) (W : List ℕ → Type 0) (R : Cells → Cells → Type 0) : Type 0 where
  pub same : (c : Cells) → R c c
  pub joins : (b c d : Cells) → R b c → R c d → R b d
  pub store : (x : List ℕ) (ss : List ℤ) (p : ℕ) (v : Option Value) → W x → first_at (same_key (x, ss)) keys ≡ Some p → (c : Cells) → R c (slice_set c p v)

module _ (W : List ℕ → Type 0) (R : Cells → Cells → Type 0) where
  abbrev Goes : Run → Type 0
  Goes f = (c : Cells) → Gives (f c) (R c)

  put_goes : (s : Site) → Steps s.keys W R → (c : Cells) (x : List ℕ) (ss : List ℤ) (v : Value) → W x → (o : Option ℕ) → place_of s x ss ≡ o → Gives (put s c x v o) (R c)
  put_goes s h c x ss v m None e = gives_none (Bounds x) (R c)
  put_goes s h c x ss v m (Some p) e =
      let w : Value = as_kind (kind_of s x) v in
      let t : Traced Cause Cells = store_at c p w in
      touching_gives s x p Write (after_push s x (content c p) t) (R c) (saving_gives s x (content c p) t (R c) (gives_value {X = Cause} (slice_set c p (Some w)) (R c) (h.store x ss p (Some w) m e c)))

  plain_goes : (s : Site) → Steps s.keys W R → (c : Cells) (p : Designator) (e : Expression) → W p.name → Gives (plain_assignment s c p e) (R c)
  plain_goes s h c p e m =
      then_gives (inside (right_side p.name) (value_of e s c)) _ (R c)
      (λ v g. then_gives (values_of p.subscripts s c) _ (R c)
      (λ vs i. put_goes s h c p.name (whole_numbers vs) v m (place_of s p.name (whole_numbers vs)) refl))

  cell_goes : (s : Site) → Steps s.keys W R → (c : Cells) (x : List ℕ) (ss : List ℤ) (n : AccessKind) (ds : List (Bool × Dual)) (p : ℕ) → W x → place_of s x ss ≡ Some p → (o : Option Value) → Gives (increment_cell s c x n ds p o) (R c)
  cell_goes s h c x ss n ds p m e None = gives_none (Unset x) (R c)
  cell_goes s h c x ss n ds p m e (Some v) =
      let w : Value = Ring (incremented_dual ds (as_dual v)) in
      touching_gives s x p n (store_at c p w) (R c) (gives_value {X = Cause} (slice_set c p (Some w)) (R c) (h.store x ss p (Some w) m e c))

  place_goes : (s : Site) → Steps s.keys W R → (c : Cells) (x : List ℕ) (ss : List ℤ) (n : AccessKind) (ds : List (Bool × Dual)) → W x → (o : Option ℕ) → place_of s x ss ≡ o → Gives (increment_place s c x n ds o) (R c)
  place_goes s h c x ss n ds m None e = gives_none (Bounds x) (R c)
  place_goes s h c x ss n ds m (Some p) e = cell_goes s h c x ss n ds p m e (content c p)

  increment_goes : (s : Site) → Steps s.keys W R → (c : Cells) (p : Designator) (rs : List Signed) (n : AccessKind) → W p.name → Gives (increment s c p rs n) (R c)
  increment_goes s h c p rs n m =
      then_gives (inside (right_side p.name) (terms_of rs s c)) _ (R c)
      (λ ds g. then_gives (values_of p.subscripts s c) _ (R c)
      (λ vs i. place_goes s h c p.name (whole_numbers vs) n ds m (place_of s p.name (whole_numbers vs)) refl))

  assignment_goes : (s : Site) → Steps s.keys W R → (c : Cells) (atomic : Bool) (p : Designator) (e : Expression) (o : Option (List Signed)) → W p.name → Gives (assignment_by s c atomic p e o) (R c)
  assignment_goes s h c atomic p e None m = plain_goes s h c p e m
  assignment_goes s h c atomic p e (Some rs) m = increment_goes s h c p rs (increment_kind atomic (s.pluses p.name)) m

  -- ---- loops

  noted_goes : (keys : List Key) → Steps keys W R → (l : Log) → Goes (with_log l)
  noted_goes keys h l c = gives_value {X = TrapAt} c (R c) (h.same c)

  then_goes : (keys : List Key) → Steps keys W R → (f g : Run) → Goes f → Goes g → Goes (λ c. f c >>= g)
  then_goes keys h f g m n c = then_gives (f c) g (R c) (λ b e d i. h.joins c b d (m c b e) (n b d i))

  turns_go : (keys : List Key) → Steps keys W R → (n : ℕ) (f : ℕ → Run) → ((k : ℕ) → Goes (f k)) → Goes (turns n f)
  turns_go keys h zero f m c = gives_value {X = TrapAt} c (R c) (h.same c)
  turns_go keys h (suc n) f m c = then_goes keys h (turns n f) (f n) (turns_go keys h n f m) (m n) c

  set_goes : (s : Site) → Steps s.keys W R → (x : List ℕ) (v : Option Value) → W x → (o : Option ℕ) → place_of s x [] ≡ o → (c : Cells) → R c (set_at o v c)
  set_goes s h x v m None e c = h.same c
  set_goes s h x v m (Some p) e c = h.store x [] p v m e c

  variable_goes : (s : Site) → Steps s.keys W R → (x : List ℕ) (z : ℤ) (f : Run) → W x → Goes f → Goes (with_variable s x z f)
  variable_goes s h x z f m n c d e =
      let b : Cells = set_at (place_of s x []) (Some (Index z)) c in
      h.joins c b d (set_goes s h x (Some (Index z)) m (place_of s x []) refl c) (n b d e)

  run_turns_goes : (s : Site) → Steps s.keys W R → (var : List ℕ) (t : IterationCount) (body : Site → Run) → W var → Goes (body (in_turn s var)) → Goes (run_turns var body s t)
  run_turns_goes s h var t body m n =
      then_goes s.keys h (turns t.count (one_turn s var t body)) (with_log (loop_words t))
      (turns_go s.keys h t.count (one_turn s var t body) (λ k. variable_goes s h var (value_at t k) (body (in_turn s var)) m n)) (noted_goes s.keys h (loop_words t))

  -- ---- parallel loops

  unset_goes : (s : Site) → Steps s.keys W R → (test : List ℕ → Bool) → ((x : List ℕ) → test x ≡ true → W x) → (xs : List (List ℕ)) (c : Cells) → R c (with_all_unset s (filter test xs) c)
  unset_goes s h test m [] c = h.same c
  unset_goes s h test m (x ∷ xs) c = by_test (test x) refl (unset_goes s h test m xs)
    where
      by_test : (b : Bool) → test x ≡ b → ((a : Cells) → R a (with_all_unset s (filter test xs) a)) → R c (with_all_unset s (if b then x ∷ filter test xs else filter test xs) c)
      by_test true e f = let a : Cells = set_at (place_of s x []) None c in h.joins c a (with_all_unset s (filter test xs) a) (set_goes s h x None (m x e) (place_of s x []) refl c) (f a)
      by_test false e f = f c

  abbrev HeadsGo : Heads → Type 0
  HeadsGo [] = Unit {0}
  HeadsGo (x ∷ hs) = W x.0 × HeadsGo hs

  variables_go : (s : Site) → Steps s.keys W R → (hs : Heads) (k : ℕ) (f : Run) → HeadsGo hs → Goes f → Goes (with_variables s hs k f)
  variables_go s h [] k f m n = n
  variables_go s h (x ∷ []) k f m n = variable_goes s h x.0 (value_at x.1 k) f m.0 n
  variables_go s h (x ∷ y ∷ hs) k f m n =
      variable_goes s h x.0 (value_at x.1 (k / iterations (y ∷ hs))) (with_variables s (y ∷ hs) (k % iterations (y ∷ hs)) f) m.0 (variables_go s h (y ∷ hs) (k % iterations (y ∷ hs)) f m.1 n)

  iteration_goes : (s : Site) → Steps s.keys W R → (directive : Directive) (var : List ℕ) (hs : Heads) (tree : Statements) (body : Site → Run)
      → ((x : List ℕ) → is_private (sharing_in var directive tree x) ≡ true → W x) → HeadsGo hs → Goes (body (in_iteration s directive var tree)) → (k : ℕ) → Goes (one_iteration s directive var hs tree body k)
  iteration_goes s h directive var hs tree body u m n k c =
      let names : List (List ℕ) = private_names s directive var tree in
      let f : Run = with_variables s hs k (body (in_iteration s directive var tree)) in
      let a : Cells = with_all_unset s names c in
      then_gives (after (unset_log s names) (f a)) (λ b. with_log (private_words s tree names b) b) (R c)
      (λ b e. gives_value {X = TrapAt} b (R c) (h.joins c a b (unset_goes s h (λ x. is_private (sharing_in var directive tree x)) u s.declared c) (variables_go s h hs k (body (in_iteration s directive var tree)) m n a b e)))

  parallel_goes : (s : Site) → Steps s.keys W R → (line : ℕ) (directive : Directive) (var : List ℕ) (tree : Statements) (body : Site → Run) (hs : Heads)
      → ((x : List ℕ) → is_private (sharing_in var directive tree x) ≡ true → W x) → HeadsGo hs → Goes (body (in_iteration s directive var tree)) → Goes (run_parallel line directive var tree body s hs)
  parallel_goes s h line directive var tree body hs u m n =
      let l : Log = both (single (ends line)) (words_of_all hs) in
      then_goes s.keys h (λ c. inside rounds (turns (iterations hs) (one_iteration s directive var hs tree body) c)) (with_log l)
      (turns_go s.keys h (iterations hs) (one_iteration s directive var hs tree body) (iteration_goes s h directive var hs tree body u m n)) (noted_goes s.keys h l)

  abbrev FurtherGo : Option Head → Type 0
  FurtherGo None = Unit {0}
  FurtherGo (Some x) = W x.var

  further_go : (s : Site) (c : Cells) (o : Option Head) → FurtherGo o → Gives (further_turns o s c) HeadsGo
  further_go s c None m = gives_value {X = TrapAt} [] HeadsGo tt
  further_go s c (Some x) m = then_gives (at_line x.line (turns_of x.first x.last x.step s c)) (λ t. pure ((x.var, t) ∷ [])) HeadsGo (λ t e. gives_value {X = TrapAt} ((x.var, t) ∷ []) HeadsGo (m, tt))

  heads_go : (s : Site) (c : Cells) (x : Head) (o : Option Head) → W x.var → FurtherGo o → Gives (heads_of x o s c) HeadsGo
  heads_go s c x o m n =
      then_gives (at_line x.line (turns_of x.first x.last x.step s c)) _ HeadsGo
      (λ t e. then_gives (further_turns o s c) _ HeadsGo (λ hs f. gives_value {X = TrapAt} ((x.var, t) ∷ hs) HeadsGo (m, further_go s c o n hs f)))

  same_name : (x : List ℕ) → bytes_eq x x ≡ true
  same_name x = (bytes_eq-Decides x x).1 refl

  inner_goes : (body : Statements) → ((x : List ℕ) → scopes_in x body ≡ true → W x) → FurtherGo (inner_head body)
  inner_goes no_statements m = tt
  inner_goes (statement (assignment line atomic p e) bs) m = tt
  inner_goes (statement (branch line arms other) bs) m = tt
  inner_goes (statement (loop line number directive var first last step body) bs) m =
      m var (or_left (scopes var (loop line number directive var first last step body)) (scopes_in var bs) (or_left (bytes_eq var var) (is_listed_private var directive || scopes_in var body) (same_name var)))

  further_goes : (directive : Directive) (body : Statements) → ((x : List ℕ) → scopes_in x body ≡ true → W x) → FurtherGo (further_head directive body)
  further_goes directive body m = by_test (is_nest directive body)
    where
      by_test : (b : Bool) → FurtherGo (if b then inner_head body else None)
      by_test true = inner_goes body m
      by_test false = tt

  -- a private name is in the clause
  private_listed : (var : List ℕ) (directive : Directive) (body : Statements) (x : List ℕ) → is_private (sharing_in var directive body x) ≡ true → is_listed_private x (Some directive) ≡ true
  private_listed var directive body x = by_variable (bytes_eq x var || varies_in x body)
    where
      last : (a b : Bool) → is_private (if a then First else if b then Plus else Shared) ≡ true → is_listed_private x (Some directive) ≡ true
      last true b e = cc
      last false true e = cc
      last false false e = cc

      by_clause : (b : Bool) → has_name x directive.privates ≡ b → is_private (if b then Private else if has_name x directive.firsts then First else if has_name x directive.pluses then Plus else Shared) ≡ true → is_listed_private x (Some directive) ≡ true
      by_clause true f e = f
      by_clause false f e = last (has_name x directive.firsts) (has_name x directive.pluses) e

      by_variable : (a : Bool) → is_private (if a then LoopVar else if has_name x directive.privates then Private else if has_name x directive.firsts then First else if has_name x directive.pluses then Plus else Shared) ≡ true
          → is_listed_private x (Some directive) ≡ true
      by_variable true e = cc
      by_variable false e = by_clause (has_name x directive.privates) refl e

  -- ---- statements

  choice_goes : (b : Bool) (f g : Run) → Goes f → Goes g → Goes (choice b f g)
  choice_goes true f g h k = h
  choice_goes false f g h k = k

  in_arm_goes : (m : ℕ) (f : Run) → Goes f → Goes (in_arm m f)
  in_arm_goes m f g c = then_gives (f c) _ (R c) (λ b e. gives_value {X = TrapAt} b (R c) (g c b e))

  either_goes : (s : Site) (b : Bool) (f g : Site → Run) → Goes (f s) → Goes (g s) → Goes ((if b then f else g) s)
  either_goes s true f g h k = h
  either_goes s false f g h k = k

  mutual
    run_goes : (x : Statement) (s : Site) → Steps s.keys W R → ((y : List ℕ) → assigns y x ≡ true → W y) → ((y : List ℕ) → scopes y x ≡ true → W y) → Goes (run x s)
    run_goes (assignment line atomic p e) s h a u c =
        line_gives line (assignment_by s c atomic p e (increment_terms s.ring p e)) (R c) (assignment_goes s h c atomic p e (increment_terms s.ring p e) (a p.name (same_name p.name)))
    run_goes (branch line arms other) s h a u c =
        arms_go arms line 0 (run_all other) s h (λ y e. a y (or_left (assigns_in_arms y arms) (assigns_in y other) e)) (λ y e. u y (or_left (scopes_in_arms y arms) (scopes_in y other) e))
        (λ b. run_all_goes other s h (λ y e. a y (or_right (assigns_in_arms y arms) (assigns_in y other) e)) (λ y e. u y (or_right (scopes_in_arms y arms) (scopes_in y other) e)) b) c
    run_goes (loop line number None var first last step body) s h a u c =
        then_gives (at_line line (turns_of first last step s c)) _ (R c)
        (λ t e. run_turns_goes s h var t (run_all body) (u var (or_left (bytes_eq var var) (is_listed_private var None || scopes_in var body) (same_name var)))
        (λ b. run_all_goes body (in_turn s var) h a (λ y f. u y (or_right (bytes_eq y var) (is_listed_private y None || scopes_in y body) f)) b) c)
    run_goes (loop line number (Some directive) var first last step body) s h a u c =
        let x : Head = record { line = line; var = var; first = first; last = last; step = step } in
        let m : W var = u var (or_left (bytes_eq var var) (is_listed_private var (Some directive) || scopes_in var body) (same_name var)) in
        let inner : (y : List ℕ) → scopes_in y body ≡ true → W y =
        λ y f. u y (or_right (bytes_eq y var) (is_listed_private y (Some directive) || scopes_in y body) (or_right (is_listed_private y (Some directive)) (scopes_in y body) f)) in
        let listed : (y : List ℕ) → is_private (sharing_in var directive body y) ≡ true → W y =
        λ y f. u y (or_right (bytes_eq y var) (is_listed_private y (Some directive) || scopes_in y body) (or_left (is_listed_private y (Some directive)) (scopes_in y body) (private_listed var directive body y f))) in
        then_gives (heads_of x (further_head directive body) s c) _ (R c)
        (λ hs e. parallel_goes s h line directive var body (if is_nest directive body then run_inner body else run_all body) hs listed (heads_go s c x (further_head directive body) m (further_goes directive body inner) hs e)
        (either_goes (in_iteration s directive var body) (is_nest directive body) (run_inner body) (run_all body) (λ b. run_inner_goes body (in_iteration s directive var body) h a inner b) (λ b. run_all_goes body (in_iteration s directive var body) h a inner b)) c)

    run_inner_goes : (xs : Statements) (s : Site) → Steps s.keys W R → ((y : List ℕ) → assigns_in y xs ≡ true → W y) → ((y : List ℕ) → scopes_in y xs ≡ true → W y) → Goes (run_inner xs s)
    run_inner_goes no_statements s h a u c = gives_value {X = TrapAt} c (R c) (h.same c)
    run_inner_goes (statement x xs) s h a u c = run_within_goes x s h (λ y e. a y (or_left (assigns y x) (assigns_in y xs) e)) (λ y e. u y (or_left (scopes y x) (scopes_in y xs) e)) c

    run_within_goes : (x : Statement) (s : Site) → Steps s.keys W R → ((y : List ℕ) → assigns y x ≡ true → W y) → ((y : List ℕ) → scopes y x ≡ true → W y) → Goes (run_within x s)
    run_within_goes (assignment line atomic p e) s h a u c = gives_value {X = TrapAt} c (R c) (h.same c)
    run_within_goes (branch line arms other) s h a u c = gives_value {X = TrapAt} c (R c) (h.same c)
    run_within_goes (loop line number directive var first last step body) s h a u c =
        run_all_goes body s h a (λ y e. u y (or_right (bytes_eq y var) (is_listed_private y directive || scopes_in y body) (or_right (is_listed_private y directive) (scopes_in y body) e))) c

    pub run_all_goes : (xs : Statements) (s : Site) → Steps s.keys W R → ((y : List ℕ) → assigns_in y xs ≡ true → W y) → ((y : List ℕ) → scopes_in y xs ≡ true → W y) → Goes (run_all xs s)
    run_all_goes no_statements s h a u c = gives_value {X = TrapAt} c (R c) (h.same c)
    run_all_goes (statement x xs) s h a u c =
        then_goes s.keys h (run x s) (run_all xs s) (λ b. run_goes x s h (λ y e. a y (or_left (assigns y x) (assigns_in y xs) e)) (λ y e. u y (or_left (scopes y x) (scopes_in y xs) e)) b)
        (λ b. run_all_goes xs s h (λ y e. a y (or_right (assigns y x) (assigns_in y xs) e)) (λ y e. u y (or_right (scopes y x) (scopes_in y xs) e)) b) c

    arms_go : (arms : Arms) (line m : ℕ) (other : Site → Run) (s : Site) → Steps s.keys W R → ((y : List ℕ) → assigns_in_arms y arms ≡ true → W y) → ((y : List ℕ) → scopes_in_arms y arms ≡ true → W y) → Goes (other s) → Goes (run_arms arms line m other s)
    arms_go no_arms line m other s h a u g c = in_arm_goes m (other s) g c
    arms_go (arm test body arms) line m other s h a u g c =
        then_gives (inside (condition m) (at_line line (holds test s c))) _ (R c)
        (λ b e. choice_goes b (in_arm m (run_all body s)) (run_arms arms line (m + 1) other s)
        (λ d. in_arm_goes m (run_all body s) (λ i. run_all_goes body s h (λ y f. a y (or_left (assigns_in y body) (assigns_in_arms y arms) f)) (λ y f. u y (or_left (scopes_in y body) (scopes_in_arms y arms) f)) i) d)
        (λ d. arms_go arms line (m + 1) other s h (λ y f. a y (or_right (assigns_in y body) (assigns_in_arms y arms) f)) (λ y f. u y (or_right (scopes_in y body) (scopes_in_arms y arms) f)) g d) c)

-- ---- as many cells

counts : (keys : List Key) → Steps keys (λ x. Unit {0}) (λ c d. length d ≡ length c)
counts keys = record {
  same = λ c. refl;
  joins = λ b c d h g. g ∙ h;
  store = λ x ss p v m e c. length-set c p v;
}

pub cells_kept : CellsAreKept
cells_kept = λ body s c d e. run_all_goes (λ x. Unit {0}) (λ b a. length a ≡ length b) body s (counts s.keys) (λ y f. tt) (λ y f. tt) c d e

-- ---- names that aren't written

frames : (s : Site) (x : List ℕ) → Steps s.keys (λ y. bytes_eq x y ≡ false) (λ c d. (ss : List ℤ) → content_by_name s d x ss ≡ content_by_name s c x ss)
frames s x = record {
  same = λ c ss. refl;
  joins = λ b c d h g ss. g ss ∙ h ss;
  store = λ y ts q v m e c ss. by_place y ts q v m e c ss (place_of s x ss) refl;
}
  where
    apart : (y : List ℕ) (ts ss : List ℤ) (p q : ℕ) → bytes_eq x y ≡ false → place_of s y ts ≡ Some q → place_of s x ss ≡ Some p → p ≢ q
    apart y ts ss p q m e f i =
        let n : x ≡ y = place_named s.keys x y ss ts p q i f e in
        let k : true ≡ false = sym ((bytes_eq-Decides x y).1 n) ∙ m in cc

    by_place : (y : List ℕ) (ts : List ℤ) (q : ℕ) (v : Option Value) → bytes_eq x y ≡ false → place_of s y ts ≡ Some q → (c : Cells) (ss : List ℤ) (o : Option ℕ) → place_of s x ss ≡ o
        → content_at (slice_set c q v) o ≡ content_at c o
    by_place y ts q v m e c ss None f = refl
    by_place y ts q v m e c ss (Some p) f = content_set_other c q p v (apart y ts ss p q m e f)

pub names_kept : NamesAreKept
names_kept body s c d e x n ss =
    let p = or_parts (assigns_in x body) (scopes_in x body) n in
    run_all_goes (λ y. bytes_eq x y ≡ false) (λ b a. (ts : List ℤ) → content_by_name s a x ts ≡ content_by_name s b x ts) body s (frames s x)
    (λ y f. apart y (assigns_in x body) p.0 (λ i. ap (λ (z : List ℕ). assigns_in z body) i ∙ f))
    (λ y f. apart y (scopes_in x body) p.1 (λ i. ap (λ (z : List ℕ). scopes_in z body) i ∙ f)) c d e ss
  where
    by_test : (x y : List ℕ) (t b : Bool) → bytes_eq x y ≡ t → b ≡ false → (x ≡ y → b ≡ true) → t ≡ false
    by_test x y true b f e g = let k : b ≡ true = g ((bytes_eq-Decides x y).0 f) in let i : true ≡ false = sym k ∙ e in cc
    by_test x y false b f e g = refl

    apart : (y : List ℕ) (b : Bool) → b ≡ false → (x ≡ y → b ≡ true) → bytes_eq x y ≡ false
    apart y b e g = by_test x y (bytes_eq x y) b refl e g
