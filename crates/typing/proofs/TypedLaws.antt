-- A program without a fault is typed.
use Rattle.std.proofs.Common.{◌≡◌, ℕ, Bool, true, false, not, ◌&&◌, ◌||◌, nat_lt, nat_le, bytes_eq, List, [], ◌∷◌, ◌++◌, length, map, slice_get, None, refl, sym, ◌∙◌, arith}
use Rattle.std.proofs.lemmas.Bool.{and_from, or_parts, or_from, not_from_false}
use Rattle.std.proofs.lemmas.Bool.Decides.{nat_tests}
use Rattle.std.proofs.lemmas.List.Folds.{list_any-append}
use Rattle.std.proofs.lemmas.Slice.Eq.{bytes_eq-Decides}
use Rattle.std.specs.List.{list_any, list_all}
use Rattle.fl_ast.specs.declared.decl.Decl.{Decl}
use Rattle.fl_ast.specs.declared.stmt.Program.{Program}
use Rattle.fl_ast.specs.Readable.{IsReadable}
use Rattle.fl_ast.specs.Tree.{Statements, stmt_trees}
use Rattle.fl_types.specs.Sharing.{has_name, varies_in, assigns_in}
use Rattle.fl_types.specs.Declarations.{all_apart, are_declared, declares, is_declared, is_reserved}
use Rattle.fl_types.specs.WellTyped.{are_declared_once, dim_names, is_argument_if_array, is_index_scalar_argument, is_local_index_scalar, is_read_only_argument, bytes_of_data, has_bytes, has_fair_shape, is_fair_if_varying, is_kept_if_read_only, IsTyped}
use Rattle.fl_types.specs.Mentions as m
use Rattle.fl_types.specs.Mentions.{Mention, the_unit, an_argument, a_declared, a_bounding, mentions}
use Rattle.fl_types.specs.Rows.{faults_at, first_fault}
use Rattle.typing.proofs.Heads.{head_is}
use Rattle.typing.proofs.Faultless.{Clean, apart, at_first, holds}
use Rattle.typing.proofs.Clauses.{fair_loops_all}
use Rattle.typing.proofs.Sound.{local_if_all, assignable_if_all, kinded_statements}

no_not : (b : Bool) → not b ≡ false → b ≡ true
no_not true h = refl
no_not false h = absurd (let f : true ≡ false = h in cc)

-- ---- arguments

argument_clean : (p : Program) (line : ℕ) (earlier : List (List ℕ)) (x : List ℕ) → slice_get (faults_at p (an_argument line earlier x)) 0 ≡ None
    → (is_declared p.decls x ≡ true) × (has_name x earlier ≡ false)
argument_clean p line earlier x h =
    let a = holds (not (is_declared p.decls x)) _ _ h in
    let b = holds (has_name x earlier) _ _ a.1 in
    (no_not _ a.0, b.0)

args_declared : (p : Program) (line : ℕ) (earlier xs : List (List ℕ)) → Clean p (m.in_args line earlier xs) → are_declared p.decls xs ≡ true
args_declared p line earlier [] h = refl
args_declared p line earlier (x ∷ xs) h =
    let q = at_first p (an_argument line earlier x) (m.in_args line (earlier ++ x ∷ []) xs) h in
    and_from _ _ (argument_clean p line earlier x q.0).0 (args_declared p line (earlier ++ x ∷ []) xs q.1)

turned_by : (b : Bool) (x y : List ℕ) → bytes_eq x y ≡ b → bytes_eq y x ≡ false → b ≡ false
turned_by false x y e h = refl
turned_by true x y e h =
    let i : y ≡ x = sym ((bytes_eq-Decides x y).0 e) in
    absurd (let f : bytes_eq y x ≡ true = (bytes_eq-Decides y x).1 i in let g : true ≡ false = sym f ∙ h in cc)

turned : (x y : List ℕ) → bytes_eq y x ≡ false → bytes_eq x y ≡ false
turned x y h = turned_by (bytes_eq x y) x y refl h

name_apart : (y x : List ℕ) (earlier : List (List ℕ)) → has_name y (earlier ++ x ∷ []) ≡ false → (has_name y earlier ≡ false) × (bytes_eq y x ≡ false)
name_apart y x earlier h =
    let q = or_parts (has_name y earlier) (bytes_eq y x || false) (sym (list_any-append (λ z. bytes_eq y z) earlier (x ∷ [])) ∙ h) in
    (q.0, (or_parts (bytes_eq y x) false q.1).0)

never_again : (p : Program) (line : ℕ) (x : List ℕ) (earlier xs : List (List ℕ)) → ((y : List ℕ) → has_name y earlier ≡ false → bytes_eq x y ≡ false)
    → Clean p (m.in_args line earlier xs) → has_name x xs ≡ false
never_again p line x earlier [] out h = refl
never_again p line x earlier (y ∷ xs) out h =
    let q = at_first p (an_argument line earlier y) (m.in_args line (earlier ++ y ∷ []) xs) h in
    or_from _ _ (out y (argument_clean p line earlier y q.0).1)
    (never_again p line x (earlier ++ y ∷ []) xs (λ z g. out z (name_apart z y earlier g).0) q.1)

args_once : (p : Program) (line : ℕ) (earlier xs : List (List ℕ)) → Clean p (m.in_args line earlier xs) → all_apart xs ≡ true
args_once p line earlier [] h = refl
args_once p line earlier (x ∷ xs) h =
    let q = at_first p (an_argument line earlier x) (m.in_args line (earlier ++ x ∷ []) xs) h in
    and_from _ _ (not_from_false _ (never_again p line x (earlier ++ x ∷ []) xs (λ y g. turned x y (name_apart y x earlier g).1) q.1))
    (args_once p line (earlier ++ x ∷ []) xs q.1)

-- ---- declarations

record DeclFacts (p : Program) (earlier : List Decl) (d : Decl) : Type 0 where
  new : is_declared earlier d.name ≡ false
  free : is_reserved d.name ≡ false
  array : is_argument_if_array p.args d ≡ true
  few : nat_lt 7 (length d.dims) ≡ false
  size : has_bytes (bytes_of_data p.decls) d ≡ true

declared_clean : (p : Program) (earlier : List Decl) (d : Decl) → slice_get (faults_at p (a_declared earlier d)) 0 ≡ None → DeclFacts p earlier d
declared_clean p earlier d h =
    let a = holds (is_declared earlier d.name) _ _ h in
    let b = holds (is_reserved d.name) _ _ a.1 in
    let c = holds (not (is_argument_if_array p.args d)) _ _ b.1 in
    let e = holds (nat_lt 7 (length d.dims)) _ _ c.1 in
    let g = holds (not (has_bytes (bytes_of_data p.decls) d)) _ _ e.1 in
    record { new = a.0; free = b.0; array = no_not _ c.0; few = e.0; size = no_not _ g.0 }

bounding_clean : (p : Program) (line : ℕ) (x : List ℕ) → slice_get (faults_at p (a_bounding line x)) 0 ≡ None → is_index_scalar_argument p x ≡ true
bounding_clean p line x h =
    let a = holds (not (is_declared p.decls x)) _ _ h in
    no_not _ (holds (not (is_index_scalar_argument p x)) _ _ a.1).0

bounds_fair : (p : Program) (line : ℕ) (xs : List (List ℕ)) → Clean p (map (a_bounding line) xs) → list_all (is_index_scalar_argument p) xs ≡ true
bounds_fair p line [] h = refl
bounds_fair p line (x ∷ xs) h =
    let q = at_first p (a_bounding line x) (map (a_bounding line) xs) h in and_from _ _ (bounding_clean p line x q.0) (bounds_fair p line xs q.1)

at_most_seven : (n : ℕ) → nat_lt 7 n ≡ false → nat_le n 7 ≡ true
at_most_seven n h = grind (arith, nat_tests)

-- what each declaration is
record AllFacts (p : Program) (ds : List Decl) : Type 0 where
  free : list_all (λ (d : Decl). not (is_reserved d.name)) ds ≡ true
  arrays : list_all (is_argument_if_array p.args) ds ≡ true
  shapes : list_all (has_fair_shape p) ds ≡ true
  sizes : list_all (has_bytes (bytes_of_data p.decls)) ds ≡ true
  once : are_declared_once ds ≡ true

declared_apart : (y : List ℕ) (d : Decl) (earlier : List Decl) → is_declared (earlier ++ d ∷ []) y ≡ false → (is_declared earlier y ≡ false) × (bytes_eq d.name y ≡ false)
declared_apart y d earlier h =
    let q = or_parts (is_declared earlier y) (declares y d || false) (sym (list_any-append (declares y) earlier (d ∷ [])) ∙ h) in
    (q.0, (or_parts (bytes_eq d.name y) false q.1).0)

never_declared : (p : Program) (d : Decl) (earlier ds : List Decl) → ((y : List ℕ) → is_declared earlier y ≡ false → bytes_eq d.name y ≡ false)
    → Clean p (m.in_decls earlier ds) → list_any (λ (e : Decl). bytes_eq d.name e.name) ds ≡ false
never_declared p d earlier [] out h = refl
never_declared p d earlier (e ∷ ds) out h =
    let q = apart p (m.in_decl earlier e) (m.in_decls (earlier ++ e ∷ []) ds) h in
    let f = declared_clean p earlier e (at_first p (a_declared earlier e) (map (a_bounding e.line) (dim_names e.dims)) q.0).0 in
    or_from _ _ (out e.name f.new) (never_declared p d (earlier ++ e ∷ []) ds (λ z g. out z (declared_apart z e earlier g).0) q.1)

decls_fair : (p : Program) (earlier ds : List Decl) → Clean p (m.in_decls earlier ds) → AllFacts p ds
decls_fair p earlier [] h = record { free = refl; arrays = refl; shapes = refl; sizes = refl; once = refl }
decls_fair p earlier (d ∷ ds) h =
    let q = apart p (m.in_decl earlier d) (m.in_decls (earlier ++ d ∷ []) ds) h in
    let r = at_first p (a_declared earlier d) (map (a_bounding d.line) (dim_names d.dims)) q.0 in
    let f = declared_clean p earlier d r.0 in
    let rest = decls_fair p (earlier ++ d ∷ []) ds q.1 in
    record {
      free = and_from _ _ (not_from_false _ f.free) rest.free;
      arrays = and_from _ _ f.array rest.arrays;
      shapes = and_from _ _ (and_from _ _ (at_most_seven _ f.few) (bounds_fair p d.line (dim_names d.dims) r.1)) rest.shapes;
      sizes = and_from _ _ f.size rest.sizes;
      once = and_from _ _ (not_from_false _ (never_declared p d (earlier ++ d ∷ []) ds (λ y g. (declared_apart y d earlier g).1) q.1)) rest.once;
    }

-- ---- names in the body

fair_by : (v a l : Bool) → (v ≡ true → l ≡ true) → (a ≡ true → v ≡ false) → (not v || (l && not a)) ≡ true
fair_by false a l f g = refl
fair_by true true l f g = absurd (let e : true ≡ false = g refl in cc)
fair_by true false l f g = and_from _ _ (f refl) refl

kept_by : (r a : Bool) → (a ≡ true → r ≡ false) → (not r || not a) ≡ true
kept_by false a g = refl
kept_by true false g = refl
kept_by true true g = absurd (let e : true ≡ false = g refl in cc)

abbrev body_of : Program → Statements
body_of p = stmt_trees p.body

varying_fair : (p : Program) → Clean p (m.in_statements (m.at_unit p.line) (body_of p)) → (ds : List Decl) → list_all (is_fair_if_varying p) ds ≡ true
varying_fair p h [] = refl
varying_fair p h (d ∷ ds) =
    and_from _ _
    (fair_by (varies_in d.name (body_of p)) (assigns_in d.name (body_of p)) (is_local_index_scalar p d.name)
    (λ v. local_if_all p (m.at_unit p.line) d.name (body_of p) h v) (λ a. (assignable_if_all p (m.at_unit p.line) d.name (body_of p) h a).1))
    (varying_fair p h ds)

all_kept : (p : Program) → Clean p (m.in_statements (m.at_unit p.line) (body_of p)) → (ds : List Decl) → list_all (is_kept_if_read_only p) ds ≡ true
all_kept p h [] = refl
all_kept p h (d ∷ ds) =
    and_from _ _
    (kept_by (is_read_only_argument p d.name) (assigns_in d.name (body_of p)) (λ a. (assignable_if_all p (m.at_unit p.line) d.name (body_of p) h a).0))
    (all_kept p h ds)

-- ---- programs

typed_if : (p : Program) → IsReadable p → Clean p (mentions p) → IsTyped p
typed_if p r h =
    let rest = m.in_args p.line [] p.args ++ (m.in_decls [] p.decls ++ m.in_statements (m.at_unit p.line) (body_of p)) in
    let f = at_first p (the_unit p.line p.name) rest h in
    let u = holds (is_reserved p.name) _ _ f.0 in
    let q = apart p (m.in_args p.line [] p.args) (m.in_decls [] p.decls ++ m.in_statements (m.at_unit p.line) (body_of p)) f.1 in
    let t = apart p (m.in_decls [] p.decls) (m.in_statements (m.at_unit p.line) (body_of p)) q.1 in
    let d = decls_fair p [] p.decls t.0 in
    record {
      readable = r;
      args_once = args_once p p.line [] p.args q.0;
      args_declared = args_declared p p.line [] p.args q.0;
      once = d.once;
      arrays = d.arrays;
      shapes = d.shapes;
      bytes = d.sizes;
      unreserved = and_from _ _ (not_from_false _ u.0) d.free;
      kinds = kinded_statements p d.once (m.at_unit p.line) (body_of p) t.1 r.body;
      varying = varying_fair p t.1 p.decls;
      kept = all_kept p t.1 p.decls;
      clauses = fair_loops_all p (m.at_unit p.line) [] (body_of p) t.1;
    }

pub typed : (p : Program) → IsReadable p → first_fault p ≡ None → IsTyped p
unfolding first_fault
typed p r h = typed_if p r (head_is p (mentions p) ∙ h)
