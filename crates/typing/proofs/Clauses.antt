-- Where no rule is broken, the names in clauses are what they have to be.
use Rattle.std.proofs.Common.{◌≡◌, ℕ, Bool, true, false, not, ◌&&◌, ◌||◌, bytes_eq, List, [], ◌∷◌, ◌++◌, map, slice_get, Some, None, refl, sym, ap, ◌∙◌}
use Rattle.std.proofs.lemmas.Bool.{and_parts, and_from, or_parts, or_left, or_right}
use Rattle.std.proofs.lemmas.List.{map-append}
use Rattle.std.proofs.lemmas.List.Folds.{list_all-append}
use Rattle.std.proofs.lemmas.Slice.Eq.{bytes_eq-Decides}
use Rattle.std.specs.List.{list_all}
use Rattle.fl_ast.specs.declared.stmt.Program.{Program}
use Rattle.fl_ast.specs.Readable.{listed_names}
use Rattle.fl_ast.specs.Tree.{Statement, assignment, branch, loop, Statements, no_statements, statement, Arms, no_arms, arm}
use Rattle.fl_types.specs.Sharing.{has_name, ParallelLoop, loops_of, loops_of_all, loops_of_arms}
use Rattle.fl_types.specs.Declarations.{is_declared}
use Rattle.fl_types.specs.WellTyped.{declaration_of, is_scalar_declared, is_index_declared, is_local_scalar, is_local_index_scalar, is_ring_scalar, has_fair_clauses}
use Rattle.fl_types.specs.Mentions as m
use Rattle.fl_types.specs.Mentions.{Region, Surroundings, a_listed, a_directive, a_variable}
use Rattle.fl_types.specs.Rows.{faults_at, varies_in_loop, is_private_in}
use Rattle.typing.proofs.Heads.{head}
use Rattle.typing.proofs.Faultless.{Clean, apart, at_first, holds, variable_clean}
use Rattle.typing.proofs.Sound.{either_way, same_name, local_if_all}

no_not : (b : Bool) → not b ≡ false → b ≡ true
no_not true h = refl
no_not false h = absurd (let f : true ≡ false = h in cc)

local_by : (v n s : Bool) → (v ≡ true → s ≡ true) → n ≡ true → ((n && not v) && not s) ≡ false → s ≡ true
local_by true n s f k h = f refl
local_by false true true f k h = refl
local_by false true false f k h = absurd (let e : true ≡ false = h in cc)
local_by false false s f k h = absurd (let e : false ≡ true = k in cc)

first_by : (v f s : Bool) → f ≡ true → ((v || f) && not s) ≡ false → s ≡ true
first_by true f s k h = no_not s h
first_by false true s k h = no_not s h
first_by false false s k h = absurd (let e : false ≡ true = k in cc)

plus_by : (n s : Bool) → n ≡ true → (n && not s) ≡ false → s ≡ true
plus_by true s k h = no_not s h
plus_by false s k h = absurd (let e : false ≡ true = k in cc)

-- what is known of a name in a clause
record ListedFacts (p : Program) (l : Region) (x : List ℕ) : Type 0 where
  known : is_declared p.decls x ≡ true
  local : (is_private_in l x && not (is_local_scalar p x)) ≡ false
  sum : (has_name x l.directive.pluses && not (is_ring_scalar p x)) ≡ false
  copied : ((is_private_in l x || has_name x l.directive.firsts) && not (is_scalar_declared (declaration_of p.decls x))) ≡ false

listed_clean : (p : Program) (l : Region) (x : List ℕ) → slice_get (faults_at p (a_listed l x)) 0 ≡ None → ListedFacts p l x
listed_clean p l x h =
    let a = holds (not (is_declared p.decls x)) _ _ h in
    let b = holds (is_private_in l x && not (is_local_scalar p x)) _ _ a.1 in
    let c = holds (has_name x l.directive.pluses && not (is_ring_scalar p x)) _ _ b.1 in
    let d = holds (((is_private_in l x || has_name x l.directive.firsts) && not (is_scalar_declared (declaration_of p.decls x))) || (varies_in_loop l x && not (has_name x l.directive.privates))) _ _ c.1 in
    record {
      known = no_not _ a.0;
      local = b.0;
      sum = c.0;
      copied = (or_parts ((is_private_in l x || has_name x l.directive.firsts) && not (is_scalar_declared (declaration_of p.decls x))) _ d.0).0;
    }

-- a test that each name of a list passes, by what is known of it
all_listed : (p : Program) (l : Region) (test : List ℕ → Bool) (xs ys : List (List ℕ)) → ((x : List ℕ) → has_name x ys ≡ true → ListedFacts p l x → test x ≡ true)
    → ((x : List ℕ) → has_name x xs ≡ true → has_name x ys ≡ true) → Clean p (map (a_listed l) xs) → list_all test xs ≡ true
all_listed p l test [] ys f sub h = refl
all_listed p l test (x ∷ xs) ys f sub h =
    let q = at_first p (a_listed l x) (map (a_listed l) xs) h in
    let it : bytes_eq x x ≡ true = (bytes_eq-Decides x x).1 refl in
    and_from _ _ (f x (sub x (or_left _ _ it)) (listed_clean p l x q.0)) (all_listed p l test xs ys f (λ y t. sub y (or_right _ _ t)) q.1)

clauses_fair : (p : Program) (l : ParallelLoop) → ((x : List ℕ) → varies_in_loop (record { directive = l.directive; var = l.var; body = l.body }) x ≡ true → is_local_index_scalar p x ≡ true)
    → Clean p (m.in_directive (Some (record { directive = l.directive; var = l.var; body = l.body }))) → has_fair_clauses p l ≡ true
clauses_fair p l v h =
    let r : Region = record { directive = l.directive; var = l.var; body = l.body } in
    let d = l.directive in
    let all = (apart p (map (a_listed r) (listed_names d)) (a_directive r ∷ []) h).0 in
    let a = apart p (map (a_listed r) d.privates) (map (a_listed r) (d.firsts ++ (d.shareds ++ d.pluses))) (ap (head p) (sym (map-append (a_listed r) d.privates _)) ∙ all) in
    let b = apart p (map (a_listed r) d.firsts) (map (a_listed r) (d.shareds ++ d.pluses)) (ap (head p) (sym (map-append (a_listed r) d.firsts _)) ∙ a.1) in
    let c = apart p (map (a_listed r) d.shareds) (map (a_listed r) d.pluses) (ap (head p) (sym (map-append (a_listed r) d.shareds _)) ∙ b.1) in
    and_from _ _ (all_listed p r (is_declared p.decls) (listed_names d) (listed_names d) (λ x n k. k.known) (λ x n. n) all)
    (and_from _ _
    (all_listed p r (is_local_scalar p) d.privates d.privates
    (λ x n k. local_by (varies_in_loop r x) (has_name x d.privates) (is_local_scalar p x)
    (λ t. (and_parts (is_index_declared (declaration_of p.decls x)) (is_local_scalar p x) (v x t)).1) n k.local) (λ x n. n) a.0)
    (and_from _ _
    (all_listed p r (λ x. is_scalar_declared (declaration_of p.decls x)) d.firsts d.firsts
    (λ x n k. first_by (is_private_in r x) (has_name x d.firsts) (is_scalar_declared (declaration_of p.decls x)) n k.copied) (λ x n. n) b.0)
    (all_listed p r (is_ring_scalar p) d.pluses d.pluses
    (λ x n k. plus_by (has_name x d.pluses) (is_ring_scalar p x) n k.sum) (λ x n. n) c.1)))

both_fair : (p : Program) (ls ms : List ParallelLoop) → list_all (has_fair_clauses p) ls ≡ true → list_all (has_fair_clauses p) ms ≡ true → list_all (has_fair_clauses p) (ls ++ ms) ≡ true
both_fair p ls ms h k = list_all-append (has_fair_clauses p) ls ms ∙ and_from _ _ h k

mutual
  fair_loops : (p : Program) (s : Surroundings) (outer : List (List ℕ)) (a : Statement) → Clean p (m.in_statement s a) → list_all (has_fair_clauses p) (loops_of outer a) ≡ true
  fair_loops p s outer (assignment line atomic t e) h = refl
  fair_loops p s outer (branch line arms other) h =
      let q = apart p (m.in_arms s line arms) (m.in_statements s other) h in
      both_fair p (loops_of_arms outer arms) (loops_of_all outer other) (fair_loops_arms p s outer line arms q.0) (fair_loops_all p s outer other q.1)
  fair_loops p s outer (loop line number None var first last step body) h =
      let q = apart p [] (m.in_head (m.at_bounds s line) var first last step ++ m.in_statements (m.at_body s var None) body) h in
      let r = apart p (m.in_head (m.at_bounds s line) var first last step) (m.in_statements (m.at_body s var None) body) q.1 in
      fair_loops_all p (m.at_body s var None) (var ∷ outer) body r.1
  fair_loops p s outer (loop line number (Some d) var first last step body) h =
      let l = m.made_parallel (Some d) var body in
      let q = apart p (m.in_directive l) (m.in_head (m.at_bounds s line) var first last step ++ m.in_statements (m.at_body s var l) body) h in
      let r = apart p (m.in_head (m.at_bounds s line) var first last step) (m.in_statements (m.at_body s var l) body) q.1 in
      let w = variable_clean p (m.at_bounds s line) var (at_first p (a_variable (m.at_bounds s line) var) _ r.0).0 in
      and_from _ _
      (clauses_fair p (record { line = line; number = number; outer = outer; directive = d; var = var; body = body })
      (λ x t. either_way _ _ (λ e. ap (is_local_index_scalar p) (same_name x var e) ∙ w) (λ e. local_if_all p (m.at_body s var l) x body r.1 e) t) q.0)
      (fair_loops_all p (m.at_body s var l) (var ∷ outer) body r.1)

  pub fair_loops_all : (p : Program) (s : Surroundings) (outer : List (List ℕ)) (body : Statements) → Clean p (m.in_statements s body) → list_all (has_fair_clauses p) (loops_of_all outer body) ≡ true
  fair_loops_all p s outer no_statements h = refl
  fair_loops_all p s outer (statement a rest) h =
      let q = apart p (m.in_statement s a) (m.in_statements s rest) h in both_fair p (loops_of outer a) (loops_of_all outer rest) (fair_loops p s outer a q.0) (fair_loops_all p s outer rest q.1)

  fair_loops_arms : (p : Program) (s : Surroundings) (outer : List (List ℕ)) (line : ℕ) (arms : Arms) → Clean p (m.in_arms s line arms) → list_all (has_fair_clauses p) (loops_of_arms outer arms) ≡ true
  fair_loops_arms p s outer line no_arms h = refl
  fair_loops_arms p s outer line (arm test body rest) h =
      let q = apart p (m.in_condition (m.at_line s line) test) (m.in_statements s body ++ m.in_arms s line rest) h in
      let r = apart p (m.in_statements s body) (m.in_arms s line rest) q.1 in
      both_fair p (loops_of_all outer body) (loops_of_arms outer rest) (fair_loops_all p s outer body r.0) (fair_loops_arms p s outer line rest r.1)
