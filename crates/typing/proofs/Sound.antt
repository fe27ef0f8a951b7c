-- Where no rule is broken, statements are well kinded, loops have local index scalars as variables, and what is assigned may be.
use Rattle.std.proofs.Common.{◌≡◌, ℕ, Bool, true, false, not, ◌&&◌, ◌||◌, if◌then◌else◌, nat_eq, bytes_eq, List, [], ◌∷◌, ◌++◌, length, map, Option, Some, None, refl, sym, ap, ◌∙◌}
use Rattle.std.proofs.lemmas.Bool.{and_parts, and_from, or_parts, or_from, or_left, or_right}
use Rattle.std.proofs.lemmas.List.{map-append}
use Rattle.std.proofs.lemmas.Slice.Eq.{bytes_eq-Decides}
use Rattle.std.specs.List.{list_any, list_all}
use Rattle.fl_ast.specs.declared.kind.Kind.{Kind}
use Rattle.fl_ast.specs.declared.kind.Kind.TheVariants.{Index, Ring}
use Rattle.fl_ast.specs.declared.decl.Dim.{Dim}
use Rattle.fl_ast.specs.declared.decl.Decl.{Decl}
use Rattle.fl_ast.specs.declared.directive.Directive.{Directive}
use Rattle.fl_ast.specs.declared.stmt.Program.{Program}
use Rattle.fl_ast.specs.Readable.{is_readable, are_readable, is_readable_step, is_readable_condition, is_readable_directive, is_variable, is_parallel, has_parallel_in, has_arm, is_readable_statement, are_readable_statements, are_readable_arms, listed_names}
use Rattle.fl_ast.specs.Tree.{Expression, Expressions, no_expressions, expression, Designator, Statement, assignment, branch, loop, Statements, no_statements, statement, Arms, no_arms, arm}
use Rattle.fl_types.specs.Kinds.{kind_of_name, is_index_kind, expression_count, has_declared_rank, takes_value, is_index_scalar, has_scalar_privates, is_well_kinded_assignment, is_well_kinded_statement, are_well_kinded_statements, are_well_kinded_arms}
use Rattle.fl_types.specs.Sharing.{has_name, is_ring_kind, is_ring_name, varies, varies_in, varies_in_arms, assigns, assigns_in, assigns_in_arms}
use Rattle.fl_types.specs.Declarations.{is_declared, is_scalar}
use Rattle.fl_types.specs.WellTyped.{are_declared_once, declaration_of, is_scalar_declared, is_index_declared, is_local_scalar, is_local_index_scalar, is_read_only_argument}
use Rattle.fl_types.specs.Mentions as m
use Rattle.fl_types.specs.Mentions.{Region, Surroundings, Ending, an_assignment, a_target, a_variable, a_listed, a_directive}
use Rattle.fl_types.specs.Rows.{kind_in, is_varying, varies_in_loop, is_private_in}
use Rattle.typing.proofs.Heads.{head}
use Rattle.typing.proofs.Faultless.{Clean, apart, at_first, holds, EndsWell, target_clean, variable_clean}
use Rattle.typing.proofs.Kinded.{names_of, kinded, kinded_subscripts, kinded_condition, kinded_bound, kinded_step}

no_yes : {P : Type 0} → false ≡ true → P
no_yes h = absurd (let f : false ≡ true = h in cc)

no_not : (b : Bool) → not b ≡ false → b ≡ true
no_not true h = refl
no_not false h = absurd (let f : true ≡ false = h in cc)

not_yes : (b : Bool) → not b ≡ true → b ≡ false
not_yes false h = refl
not_yes true h = no_yes h

pub either_way : {P : Type 0} (a b : Bool) → (a ≡ true → P) → (b ≡ true → P) → (a || b) ≡ true → P
either_way true b f g h = f refl
either_way false b f g h = g h

pub same_name : (x y : List ℕ) → bytes_eq x y ≡ true → x ≡ y
same_name x y h = (bytes_eq-Decides x y).0 h

-- ---- what is assigned, and loops' variables

abbrev Assignable : Program → List ℕ → Type 0
Assignable p x = (is_read_only_argument p x ≡ false) × (is_varying p x ≡ false)

mutual
  local_if : (p : Program) (s : Surroundings) (x : List ℕ) (a : Statement) → Clean p (m.in_statement s a) → varies x a ≡ true → is_local_index_scalar p x ≡ true
  local_if p s x (assignment line atomic t e) h v = no_yes v
  local_if p s x (branch line arms other) h v =
      let q = apart p (m.in_arms s line arms) (m.in_statements s other) h in
      either_way _ _ (local_if_arms p s line x arms q.0) (local_if_all p s x other q.1) v
  local_if p s x (loop line number directive var first last step body) h v =
      let l = m.made_parallel directive var body in
      let q = apart p (m.in_directive l) (m.in_head (m.at_bounds s line) var first last step ++ m.in_statements (m.at_body s var l) body) h in
      let r = apart p (m.in_head (m.at_bounds s line) var first last step) (m.in_statements (m.at_body s var l) body) q.1 in
      let w = variable_clean p (m.at_bounds s line) var (at_first p (a_variable (m.at_bounds s line) var) _ r.0).0 in
      either_way _ _ (λ t. ap (is_local_index_scalar p) (same_name x var t) ∙ w) (local_if_all p (m.at_body s var l) x body r.1) v

  pub local_if_all : (p : Program) (s : Surroundings) (x : List ℕ) (body : Statements) → Clean p (m.in_statements s body) → varies_in x body ≡ true → is_local_index_scalar p x ≡ true
  local_if_all p s x no_statements h v = no_yes v
  local_if_all p s x (statement a rest) h v =
      let q = apart p (m.in_statement s a) (m.in_statements s rest) h in either_way _ _ (local_if p s x a q.0) (local_if_all p s x rest q.1) v

  local_if_arms : (p : Program) (s : Surroundings) (line : ℕ) (x : List ℕ) (arms : Arms) → Clean p (m.in_arms s line arms) → varies_in_arms x arms ≡ true → is_local_index_scalar p x ≡ true
  local_if_arms p s line x no_arms h v = no_yes v
  local_if_arms p s line x (arm test body rest) h v =
      let q = apart p (m.in_condition (m.at_line s line) test) (m.in_statements s body ++ m.in_arms s line rest) h in
      let r = apart p (m.in_statements s body) (m.in_arms s line rest) q.1 in
      either_way _ _ (local_if_all p s x body r.0) (local_if_arms p s line x rest r.1) v

mutual
  assignable_if : (p : Program) (s : Surroundings) (x : List ℕ) (a : Statement) → Clean p (m.in_statement s a) → assigns x a ≡ true → Assignable p x
  assignable_if p s x (assignment line atomic t e) h v =
      let c = target_clean p (m.at_assignment s line t e) t.name (expression_count t.subscripts) (at_first p (a_target (m.at_assignment s line t e) t.name (expression_count t.subscripts)) _ h).0 in
      let i = same_name x t.name v in
      (ap (is_read_only_argument p) i ∙ c.1.0, ap (is_varying p) i ∙ c.1.1)
  assignable_if p s x (branch line arms other) h v =
      let q = apart p (m.in_arms s line arms) (m.in_statements s other) h in
      either_way _ _ (assignable_if_arms p s line x arms q.0) (assignable_if_all p s x other q.1) v
  assignable_if p s x (loop line number directive var first last step body) h v =
      let l = m.made_parallel directive var body in
      let q = apart p (m.in_directive l) (m.in_head (m.at_bounds s line) var first last step ++ m.in_statements (m.at_body s var l) body) h in
      let r = apart p (m.in_head (m.at_bounds s line) var first last step) (m.in_statements (m.at_body s var l) body) q.1 in
      assignable_if_all p (m.at_body s var l) x body r.1 v

  pub assignable_if_all : (p : Program) (s : Surroundings) (x : List ℕ) (body : Statements) → Clean p (m.in_statements s body) → assigns_in x body ≡ true → Assignable p x
  assignable_if_all p s x no_statements h v = no_yes v
  assignable_if_all p s x (statement a rest) h v =
      let q = apart p (m.in_statement s a) (m.in_statements s rest) h in either_way _ _ (assignable_if p s x a q.0) (assignable_if_all p s x rest q.1) v

  assignable_if_arms : (p : Program) (s : Surroundings) (line : ℕ) (x : List ℕ) (arms : Arms) → Clean p (m.in_arms s line arms) → assigns_in_arms x arms ≡ true → Assignable p x
  assignable_if_arms p s line x no_arms h v = no_yes v
  assignable_if_arms p s line x (arm test body rest) h v =
      let q = apart p (m.in_condition (m.at_line s line) test) (m.in_statements s body ++ m.in_arms s line rest) h in
      let r = apart p (m.in_statements s body) (m.in_arms s line rest) q.1 in
      either_way _ _ (assignable_if_all p s x body r.0) (assignable_if_arms p s line x rest r.1) v

-- ---- by declarations

scalar_length : (dims : List Dim) → is_scalar dims ≡ true → nat_eq (length dims) 0 ≡ true
scalar_length [] h = refl
scalar_length (d ∷ dims) h = no_yes h

scalar_rank_by : (b : Bool) (d : Decl) (ds : List Decl) (x : List ℕ) → bytes_eq x d.name ≡ b → (is_scalar_declared (declaration_of ds x) ≡ true → has_declared_rank ds x 0 ≡ true)
    → is_scalar_declared (if b then Some d else declaration_of ds x) ≡ true → has_declared_rank (d ∷ ds) x 0 ≡ true
scalar_rank_by true d ds x e k h = or_left _ _ (and_from _ _ e (scalar_length d.dims h))
scalar_rank_by false d ds x e k h = or_right _ _ (k h)

scalar_rank : (ds : List Decl) (x : List ℕ) → is_scalar_declared (declaration_of ds x) ≡ true → has_declared_rank ds x 0 ≡ true
scalar_rank [] x h = no_yes h
scalar_rank (d ∷ ds) x h = scalar_rank_by (bytes_eq x d.name) d ds x refl (scalar_rank ds x) h

no_ring_by : (b : Bool) (k r : Bool) → b ≡ false → r ≡ false → ((if b then k else false) || r) ≡ false
no_ring_by true k r h g = absurd (let f : true ≡ false = h in cc)
no_ring_by false k r h g = g

absent_ring : (ds : List Decl) (x : List ℕ) → list_any (λ (e : Decl). bytes_eq x e.name) ds ≡ false → is_ring_name ds x ≡ false
absent_ring [] x h = refl
absent_ring (d ∷ ds) x h = let q = or_parts (bytes_eq x d.name) _ h in no_ring_by (bytes_eq x d.name) (is_ring_kind d.kind) (is_ring_name ds x) q.0 (absent_ring ds x q.1)

index_ring_by : (b : Bool) (d : Decl) (ds : List Decl) (x : List ℕ) → bytes_eq x d.name ≡ b → list_any (λ (e : Decl). bytes_eq d.name e.name) ds ≡ false
    → (is_index_declared (declaration_of ds x) ≡ true → is_ring_name ds x ≡ false)
    → is_index_declared (if b then Some d else declaration_of ds x) ≡ true → ((if b then is_ring_kind d.kind else false) || is_ring_name ds x) ≡ false
index_ring_by true d ds x e o k h =
    or_from _ _ (not_yes _ h) (ap (is_ring_name ds) (same_name x d.name e) ∙ absent_ring ds d.name o)
index_ring_by false d ds x e o k h = k h

index_ring : (ds : List Decl) (x : List ℕ) → are_declared_once ds ≡ true → is_index_declared (declaration_of ds x) ≡ true → is_ring_name ds x ≡ false
index_ring [] x o h = no_yes h
index_ring (d ∷ ds) x o h =
    let q = and_parts (not (list_any (λ (e : Decl). bytes_eq d.name e.name) ds)) (are_declared_once ds) o in
    index_ring_by (bytes_eq x d.name) d ds x refl (not_yes _ q.0) (index_ring ds x q.1) h

local_rank : (p : Program) (x : List ℕ) → is_local_scalar p x ≡ true → has_declared_rank p.decls x 0 ≡ true
local_rank p x h = scalar_rank p.decls x (and_parts (not (has_name x p.args)) _ h).1

variable_rank : (p : Program) (x : List ℕ) → is_local_index_scalar p x ≡ true → has_declared_rank p.decls x 0 ≡ true
variable_rank p x h = local_rank p x (and_parts (is_index_declared (declaration_of p.decls x)) (is_local_scalar p x) h).1

kind_by : (b : Bool) → b ≡ false → is_index_kind (if b then Ring else Index) ≡ true
kind_by false h = refl
kind_by true h = absurd (let f : true ≡ false = h in cc)

index_variable : (p : Program) (x : List ℕ) → are_declared_once p.decls ≡ true → is_local_index_scalar p x ≡ true → is_index_scalar (names_of p) x ≡ true
index_variable p x o h =
    let q = and_parts (is_index_declared (declaration_of p.decls x)) (is_local_scalar p x) h in
    and_from _ _ (kind_by (is_ring_name p.decls x) (index_ring p.decls x o q.0)) (variable_rank p x h)

-- ---- private names

private_rank_by : (p : Program) (x : List ℕ) (v n s : Bool) → (v ≡ true → has_declared_rank p.decls x 0 ≡ true) → (s ≡ true → has_declared_rank p.decls x 0 ≡ true)
    → n ≡ true → ((n && not v) && not s) ≡ false → has_declared_rank p.decls x 0 ≡ true
private_rank_by p x true n s f g k h = f refl
private_rank_by p x false true true f g k h = g refl
private_rank_by p x false true false f g k h = absurd (let e : true ≡ false = h in cc)
private_rank_by p x false false s f g k h = no_yes k

private_scalars : (p : Program) (l : Region) (xs : List (List ℕ)) → ((x : List ℕ) → varies_in_loop l x ≡ true → is_local_index_scalar p x ≡ true)
    → ((x : List ℕ) → has_name x xs ≡ true → has_name x l.directive.privates ≡ true) → Clean p (map (a_listed l) xs) → list_all (λ x. has_declared_rank p.decls x 0) xs ≡ true
private_scalars p l [] v sub h = refl
private_scalars p l (x ∷ xs) v sub h =
    let q = at_first p (a_listed l x) (map (a_listed l) xs) h in
    let a = holds (not (is_declared p.decls x)) _ _ q.0 in
    let b = holds (is_private_in l x && not (is_local_scalar p x)) _ _ a.1 in
    let it : bytes_eq x x ≡ true = (bytes_eq-Decides x x).1 refl in
    and_from _ _
    (private_rank_by p x (varies_in_loop l x) (has_name x l.directive.privates) (is_local_scalar p x) (λ t. variable_rank p x (v x t)) (local_rank p x) (sub x (or_left _ _ it)) b.0)
    (private_scalars p l xs v (λ y t. sub y (or_right _ _ t)) q.1)

privates_kinded : (p : Program) (directive : Option Directive) (var : List ℕ) (body : Statements) → is_local_index_scalar p var ≡ true
    → ((x : List ℕ) → varies_in x body ≡ true → is_local_index_scalar p x ≡ true)
    → Clean p (m.in_directive (m.made_parallel directive var body)) → has_scalar_privates (names_of p) directive ≡ true
privates_kinded p None var body w v h = refl
privates_kinded p (Some d) var body w v h =
    let l : Region = record { directive = d; var = var; body = body } in
    let q = apart p (map (a_listed l) (listed_names d)) (a_directive l ∷ []) h in
    let r = apart p (map (a_listed l) d.privates) (map (a_listed l) (d.firsts ++ (d.shareds ++ d.pluses))) (ap (head p) (sym (map-append (a_listed l) d.privates _)) ∙ q.0) in
    private_scalars p l d.privates (λ x t. either_way _ _ (λ e. ap (is_local_index_scalar p) (same_name x var e) ∙ w) (v x) t) (λ x t. t) r.0

-- ---- statements

last_well : (p : Program) (ss : Expressions) → EndsWell p (m.at_last ss [])
last_well p no_expressions = record { clash = refl; division = refl; index = refl }
last_well p (expression e rest) = record { clash = refl; division = refl; index = refl }

value_taken : (k j : Kind) → (is_index_kind k && not (is_index_kind j)) ≡ false → takes_value k j ≡ true
value_taken Index Index h = refl
value_taken Index Ring h = absurd (let f : true ≡ false = h in cc)
value_taken Ring j h = refl

kinded_assignment : (p : Program) (s : Surroundings) (line : ℕ) (atomic : Bool) (t : Designator) (e : Expression) → Clean p (m.in_assignment s line atomic t e)
    → are_readable t.subscripts ≡ true → is_readable e ≡ true → is_well_kinded_assignment (names_of p) t e ≡ true
kinded_assignment p s line atomic t e h r g =
    let s1 = m.at_assignment s line t e in
    let s2 = m.at_subscripts s line t e in
    let f = at_first p (a_target s1 t.name (expression_count t.subscripts)) (m.in_subscripts s2 [] t.subscripts ++ m.in_expression s1 (an_assignment atomic t e ∷ []) e) h in
    let c = target_clean p s1 t.name (expression_count t.subscripts) f.0 in
    let q = apart p (m.in_subscripts s2 [] t.subscripts) (m.in_expression s1 (an_assignment atomic t e ∷ []) e) f.1 in
    let k = kinded_subscripts p s2 [] t.subscripts (last_well p t.subscripts) q.0 r in
    let j = kinded p s1 (an_assignment atomic t e ∷ []) e q.1 g in
    let i = (or_parts (is_index_kind (kind_of_name (names_of p) t.name) && not (is_index_kind (kind_in p e))) _ j.1.index).0 in
    and_from _ _ (value_taken _ _ i) (and_from _ _ (and_from _ _ c.0 (and_from _ _ k.0 k.1.0)) j.0)

mutual
  kinded_statement : (p : Program) (o : are_declared_once p.decls ≡ true) (s : Surroundings) (a : Statement) → Clean p (m.in_statement s a) → is_readable_statement a ≡ true → is_well_kinded_statement (names_of p) a ≡ true
  kinded_statement p o s (assignment line atomic t e) h r =
      let u = and_parts (is_variable t.name) _ r in
      let w = and_parts (are_readable t.subscripts) (is_readable e) u.1 in
      kinded_assignment p s line atomic t e h w.0 w.1
  kinded_statement p o s (branch line arms other) h r =
      let q = apart p (m.in_arms s line arms) (m.in_statements s other) h in
      let u = and_parts (has_arm arms) _ r in
      let w = and_parts (are_readable_arms arms) (are_readable_statements other) u.1 in
      and_from _ _ (kinded_arms p o s line arms q.0 w.0) (kinded_statements p o s other q.1 w.1)
  kinded_statement p o s (loop line number directive var first last step body) h r =
      let l = m.made_parallel directive var body in
      let s1 = m.at_bounds s line in
      let q = apart p (m.in_directive l) (m.in_head s1 var first last step ++ m.in_statements (m.at_body s var l) body) h in
      let t = apart p (m.in_head s1 var first last step) (m.in_statements (m.at_body s var l) body) q.1 in
      let f = at_first p (a_variable s1 var) (m.in_bound s1 first ++ (m.in_bound s1 last ++ m.in_step s1 step)) t.0 in
      let w = variable_clean p s1 var f.0 in
      let g = apart p (m.in_bound s1 first) (m.in_bound s1 last ++ m.in_step s1 step) f.1 in
      let k = apart p (m.in_bound s1 last) (m.in_step s1 step) g.1 in
      let r1 = and_parts (is_readable_directive directive) _ r in
      let r2 = and_parts (not (is_parallel directive && has_parallel_in body)) _ r1.1 in
      let r3 = and_parts (is_variable var) _ r2.1 in
      let r4 = and_parts (is_readable first) _ r3.1 in
      let r5 = and_parts (is_readable last) _ r4.1 in
      let r6 = and_parts (is_readable_step step) (are_readable_statements body) r5.1 in
      and_from _ _
      (and_from _ _ (index_variable p var o w) (and_from _ _ (kinded_bound p s1 first g.0 r4.0) (and_from _ _ (kinded_bound p s1 last k.0 r5.0) (kinded_step p s1 step k.1 r6.0))))
      (and_from _ _ (privates_kinded p directive var body w (λ x v. local_if_all p (m.at_body s var l) x body t.1 v) q.0)
      (kinded_statements p o (m.at_body s var l) body t.1 r6.1))

  pub kinded_statements : (p : Program) (o : are_declared_once p.decls ≡ true) (s : Surroundings) (body : Statements) → Clean p (m.in_statements s body) → are_readable_statements body ≡ true
      → are_well_kinded_statements (names_of p) body ≡ true
  kinded_statements p o s no_statements h r = refl
  kinded_statements p o s (statement a rest) h r =
      let q = apart p (m.in_statement s a) (m.in_statements s rest) h in
      let u = and_parts (is_readable_statement a) (are_readable_statements rest) r in
      and_from _ _ (kinded_statement p o s a q.0 u.0) (kinded_statements p o s rest q.1 u.1)

  kinded_arms : (p : Program) (o : are_declared_once p.decls ≡ true) (s : Surroundings) (line : ℕ) (arms : Arms) → Clean p (m.in_arms s line arms) → are_readable_arms arms ≡ true
      → are_well_kinded_arms (names_of p) arms ≡ true
  kinded_arms p o s line no_arms h r = refl
  kinded_arms p o s line (arm test body rest) h r =
      let q = apart p (m.in_condition (m.at_line s line) test) (m.in_statements s body ++ m.in_arms s line rest) h in
      let t = apart p (m.in_statements s body) (m.in_arms s line rest) q.1 in
      let u = and_parts (is_readable_condition test) _ r in
      let w = and_parts (are_readable_statements body) (are_readable_arms rest) u.1 in
      and_from _ _ (kinded_condition p (m.at_line s line) test q.0 u.0) (and_from _ _ (kinded_statements p o s body t.0 w.0) (kinded_arms p o s line rest t.1 w.1))
