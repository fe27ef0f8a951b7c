-- A run of a well-kinded body from fitting cells is in fitting cells at every statement that it reaches, and evaluates only what is defined.
use Rattle.std.specs.Prelude.{◌≡◌, ℕ, ◌<◌, ◌/◌, ◌%◌, Bool, true, false, cond, ◌&&◌, if◌then◌else◌, List, [], ◌∷◌, ◌++◌, Option, Some, None, is_some, refl}
use Rattle.std.proofs.Common.{arith}
use Rattle.std.proofs.lemmas.Bool.{and_parts}
use Rattle.fl_ast.specs.declared.kind.Kind.{Kind}
use Rattle.fl_ast.specs.declared.kind.Kind.TheVariants as kind
use Rattle.fl_ast.specs.declared.kind.BinOp.TheVariants.{Add, Sub, Mul, Div}
use Rattle.fl_ast.specs.Tree.{Expression, literal, get, minus, binary, power, call, Designator, Statement, assignment, branch, loop, Statements, no_statements, statement, Arms, no_arms, arm}
use Rattle.fl_ast.specs.Same.{same_expression}
use Rattle.fl_types.specs.Sharing.{has_name}
use Rattle.fl_types.specs.Increment.{Signed, longer, chain, first_of_sum, are_free_of, if_free, either, target_of, rest_terms, increment_terms}
use Rattle.fl_types.specs.Nests.{Head, is_nest, further_head}
use Rattle.fl_types.specs.Kinds.{Names, kind_of_expression, is_index_kind, takes_value, is_well_kinded, is_well_kinded_condition, is_index_expression, is_index_step, has_scalar_privates, is_well_kinded_assignment, is_well_kinded_head, is_well_kinded_statement, are_well_kinded_statements, are_well_kinded_arms}
use Rattle.meaning.specs.declared.value.Value.{Value}
use Rattle.meaning.specs.Sites.{Cells, Site, in_turn, in_iteration, place_of, kind_of}
use Rattle.meaning.specs.Statements.{turns_of, value_at, one_turn, turns, private_names, with_all_unset, Heads, iterations, heads_of, one_iteration, run, run_all, run_inner}
use Rattle.meaning.specs.Fitting.{keys_have_rank, names_at, HasKind, Fits, IsWellKinded}
use Rattle.meaning.specs.Defined.{IsFittingCount}
use Rattle.meaning.specs.Reached.{cells_with, cells_with_heads, iteration_cells, HoldsAtEach, HoldsAtAll, HoldsInArms, HoldsInLoop, HoldsWithin, IsStorable, AreDefinedTerms, IsDefinedAssignment, AreDefinedTests, IsIndexNumber, IsIndexStep, IsDefinedLoop, IsDefinedStatement, IsSound, RunsAreSound}
use Rattle.meaning.proofs.Gives.{turns_give}
use Rattle.meaning.proofs.KindsOfValues.{index_value}
use Rattle.meaning.proofs.ValuesFit.{value_kind, value_defined, condition_defined}
use Rattle.meaning.proofs.RunsFit.{head_parts, turns_of_fit, turn_index, variable_fits, unset_fits, KeepsFit, one_turn_fits, HeadsFit, quotient_below, remainder_below, rest_positive, one_iteration_fits, heads_fit, further_is_fit, either_fits, run_fits, run_inner_fits, run_all_fits}

-- ---- the rest terms of a well-kinded increment are well kinded

abbrev AreKinded : Names → List Signed → Type 0
AreKinded names [] = Unit {0}
AreKinded names (r ∷ rs) = (is_well_kinded names r.1 ≡ true) × AreKinded names rs

kinded_append : (names : Names) (rs ts : List Signed) → AreKinded names rs → AreKinded names ts → AreKinded names (rs ++ ts)
kinded_append names [] ts h g = g
kinded_append names (r ∷ rs) ts h g = (h.0, kinded_append names rs ts h.1 g)

abbrev AreKindedIfSome : Names → Option (List Signed) → Type 0
AreKindedIfSome names None = Unit {0}
AreKindedIfSome names (Some rs) = AreKinded names rs

longer_kinded : (names : Names) (o : Option (List Signed)) (r : Signed) → AreKindedIfSome names o → is_well_kinded names r.1 ≡ true → AreKindedIfSome names (longer o r)
longer_kinded names None r h g = tt
longer_kinded names (Some rs) r h g = kinded_append names rs (r ∷ []) h (g, tt)

test_kinded : (names : Names) (b : Bool) (o p : Option (List Signed)) → AreKindedIfSome names o → AreKindedIfSome names p → AreKindedIfSome names (if b then o else p)
test_kinded names true o p h g = h
test_kinded names false o p h g = g

chain_kinded : (names : Names) (t e : Expression) → is_well_kinded names e ≡ true → AreKindedIfSome names (chain t e)
chain_kinded names t (binary Add a b) h =
    let q = and_parts (is_well_kinded names a) (is_well_kinded names b) h in
    test_kinded names (same_expression t a) (Some ((false, b) ∷ [])) (longer (chain t a) (false, b)) (q.1, tt) (longer_kinded names (chain t a) (false, b) (chain_kinded names t a q.0) q.1)
chain_kinded names t (binary Sub a b) h =
    let q = and_parts (is_well_kinded names a) (is_well_kinded names b) h in
    test_kinded names (same_expression t a) (Some ((true, b) ∷ [])) (longer (chain t a) (true, b)) (q.1, tt) (longer_kinded names (chain t a) (true, b) (chain_kinded names t a q.0) q.1)
chain_kinded names t (binary Mul a b) h = tt
chain_kinded names t (binary Div a b) h = tt
chain_kinded names t (literal n k) h = tt
chain_kinded names t (get x ss) h = tt
chain_kinded names t (minus a) h = tt
chain_kinded names t (power a n) h = tt
chain_kinded names t (call f args) h = tt

sum_kinded : (names : Names) (t e : Expression) → is_well_kinded names e ≡ true → AreKindedIfSome names (first_of_sum t e)
sum_kinded names t (binary Add a b) h =
    let q = and_parts (is_well_kinded names a) (is_well_kinded names b) h in
    test_kinded names (same_expression t b) (Some ((false, a) ∷ [])) None (q.0, tt) tt
sum_kinded names t (binary Sub a b) h = tt
sum_kinded names t (binary Mul a b) h = tt
sum_kinded names t (binary Div a b) h = tt
sum_kinded names t (literal n k) h = tt
sum_kinded names t (get x ss) h = tt
sum_kinded names t (minus a) h = tt
sum_kinded names t (power a n) h = tt
sum_kinded names t (call f args) h = tt

free_kinded : (names : Names) (x : List ℕ) (o : Option (List Signed)) → AreKindedIfSome names o → AreKindedIfSome names (if_free x o)
free_kinded names x None h = tt
free_kinded names x (Some rs) h = test_kinded names (are_free_of x rs) (Some rs) None h tt

either_kinded : (names : Names) (o p : Option (List Signed)) → AreKindedIfSome names o → AreKindedIfSome names p → AreKindedIfSome names (either o p)
either_kinded names (Some rs) p h g = h
either_kinded names None p h g = g

rest_kinded : (names : Names) (p : Designator) (e : Expression) → is_well_kinded names e ≡ true → AreKindedIfSome names (rest_terms p e)
rest_kinded names p e h =
    either_kinded names (if_free p.name (chain (target_of p) e)) (if_free p.name (first_of_sum (target_of p) e))
    (free_kinded names p.name (chain (target_of p) e) (chain_kinded names (target_of p) e h)) (free_kinded names p.name (first_of_sum (target_of p) e) (sum_kinded names (target_of p) e h))

-- ---- a statement's own evaluations

terms_defined : (s : Site) (c : Cells) → Fits s c → (rs : List Signed) → AreKinded (names_at s) rs → AreDefinedTerms s c rs
terms_defined s c fit [] h = tt
terms_defined s c fit (r ∷ rs) h = (value_defined s c fit r.1 h.0, terms_defined s c fit rs h.1)

storable : (k j : Kind) (v : Value) → takes_value k j ≡ true → HasKind j v → IsStorable k v
storable kind.Ring j v t h = tt
storable kind.Index j v t h = index_value j v t h

assignment_defined : (s : Site) (c : Cells) → Fits s c → (p : Designator) (e : Expression) → is_well_kinded_assignment (names_at s) p e ≡ true → IsDefinedAssignment s c p e (increment_terms s.ring p e)
assignment_defined s c fit p e h = by_test (s.ring p.name) refl
  where
    takes : takes_value (kind_of s p.name) (kind_of_expression (names_at s) e) ≡ true
    takes = (and_parts (takes_value (kind_of s p.name) (kind_of_expression (names_at s) e)) (is_well_kinded (names_at s) (target_of p) && is_well_kinded (names_at s) e) h).0

    both : (is_well_kinded (names_at s) (target_of p) ≡ true) × (is_well_kinded (names_at s) e ≡ true)
    both = and_parts (is_well_kinded (names_at s) (target_of p)) (is_well_kinded (names_at s) e) (and_parts (takes_value (kind_of s p.name) (kind_of_expression (names_at s) e)) (is_well_kinded (names_at s) (target_of p) && is_well_kinded (names_at s) e) h).1

    by_value : IsDefinedAssignment s c p e None
    by_value =
        (value_defined s c fit e both.1, value_defined s c fit (target_of p) both.0, λ v f. storable (kind_of s p.name) (kind_of_expression (names_at s) e) v takes (value_kind s c fit e both.1 v f))

    by_form : s.ring p.name ≡ true → (o : Option (List Signed)) → AreKindedIfSome (names_at s) o → IsDefinedAssignment s c p e o
    by_form r None k = by_value
    by_form r (Some rs) k = (terms_defined s c fit rs k, value_defined s c fit (target_of p) both.0, rw r refl)

    by_test : (b : Bool) → s.ring p.name ≡ b → IsDefinedAssignment s c p e (if b then rest_terms p e else None)
    by_test true r = by_form r (rest_terms p e) (rest_kinded (names_at s) p e both.1)
    by_test false r = by_value

tests_defined : (s : Site) (c : Cells) → Fits s c → (arms : Arms) → are_well_kinded_arms (names_at s) arms ≡ true → AreDefinedTests s c arms
tests_defined s c fit no_arms h = tt
tests_defined s c fit (arm test body arms) h =
    let q = and_parts (is_well_kinded_condition (names_at s) test) (are_well_kinded_statements (names_at s) body && are_well_kinded_arms (names_at s) arms) h in
    let r = and_parts (are_well_kinded_statements (names_at s) body) (are_well_kinded_arms (names_at s) arms) q.1 in
    (condition_defined s c fit test q.0, tests_defined s c fit arms r.1)

index_number : (s : Site) (c : Cells) → Fits s c → (e : Expression) → is_index_expression (names_at s) e ≡ true → IsIndexNumber s c e
index_number s c fit e h =
    let p = and_parts (is_index_kind (kind_of_expression (names_at s) e)) (is_well_kinded (names_at s) e) h in
    (value_defined s c fit e p.1, λ v f. index_value (kind_of_expression (names_at s) e) v p.0 (value_kind s c fit e p.1 v f))

index_step : (s : Site) (c : Cells) → Fits s c → (o : Option Expression) → is_index_step (names_at s) o ≡ true → IsIndexStep s c o
index_step s c fit None h = tt
index_step s c fit (Some e) h = index_number s c fit e h

placed : (s : Site) (x : List ℕ) → (names_at s).has_rank x 0 ≡ true → is_some (place_of s x []) ≡ true
placed s x h =
    (and_parts (keys_have_rank s.keys x 0) (is_some (place_of s x [])) (and_parts (has_name x s.declared) (keys_have_rank s.keys x 0 && is_some (place_of s x [])) h).1).1

loop_defined : (s : Site) (c : Cells) → Fits s c → (var : List ℕ) (first last : Expression) (step : Option Expression) → is_well_kinded_head (names_at s) var first last step ≡ true → IsDefinedLoop s c var first last step
loop_defined s c fit var first last step h =
    let x = head_parts s var first last step h in
    record { first = index_number s c fit first x.from; last = index_number s c fit last x.to; step = index_step s c fit step x.by; variable = x.kind; placed = placed s var x.rank }

statement_defined : (x : Statement) (s : Site) (c : Cells) → Fits s c → is_well_kinded_statement (names_at s) x ≡ true → IsDefinedStatement x s c
statement_defined (assignment line atomic p e) s c fit h = assignment_defined s c fit p e h
statement_defined (branch line arms other) s c fit h = tests_defined s c fit arms (and_parts (are_well_kinded_arms (names_at s) arms) (are_well_kinded_statements (names_at s) other) h).0
statement_defined (loop line number directive var first last step body) s c fit h =
    loop_defined s c fit var first last step (and_parts (is_well_kinded_head (names_at s) var first last step) (has_scalar_privates (names_at s) directive && are_well_kinded_statements (names_at s) body) h).0

-- ---- the cells in which bodies begin

heads_cells_fit : (s : Site) (hs : Heads) (k : ℕ) → HeadsFit s hs → k < iterations hs → (c : Cells) → Fits s c → Fits s (cells_with_heads s hs k c)
heads_cells_fit s [] k h i c fit = fit
heads_cells_fit s (x ∷ []) k h i c fit = variable_fits s c fit x.0 (value_at x.1 k) h.0 (turn_index x.1 k h.1 i)
heads_cells_fit s (x ∷ y ∷ hs) k h i c fit =
    let n : ℕ = iterations (y ∷ hs) in
    let j : ℕ = k / n in
    heads_cells_fit s (y ∷ hs) (k % n) h.2 (remainder_below k n (rest_positive k x.1.count n i)) (cells_with s x.0 (value_at x.1 j) c)
    (variable_fits s c fit x.0 (value_at x.1 j) h.0 (turn_index x.1 j h.1 (quotient_below k x.1.count n i)))

below_all : (j k n : ℕ) → j < k → k < n → j < n
below_all j k n h g = omega arith

by_nest : (b : Bool) (A B : Type 0) → A → B → cond b A B
by_nest true A B h g = h
by_nest false A B h g = g

-- ---- statements

mutual
  sound_each : (x : Statement) (s : Site) → is_well_kinded_statement (names_at s) x ≡ true → (c : Cells) → Fits s c → HoldsAtEach IsSound x s c
  sound_each (assignment line atomic p e) s h c fit = (fit, statement_defined (assignment line atomic p e) s c fit h)
  sound_each (branch line arms other) s h c fit =
      let q = and_parts (are_well_kinded_arms (names_at s) arms) (are_well_kinded_statements (names_at s) other) h in
      ((fit, statement_defined (branch line arms other) s c fit h), sound_arms arms other s q.0 (λ d f. sound_all other s q.1 d f) c fit)
  sound_each (loop line number None var first last step body) s h c fit =
      let q = and_parts (is_well_kinded_head (names_at s) var first last step) (has_scalar_privates (names_at s) None && are_well_kinded_statements (names_at s) body) h in
      let x = head_parts s var first last step q.0 in (
        (fit, statement_defined (loop line number None var first last step body) s c fit h),
        (λ t e k i a f.
            let g : IsFittingCount t = turns_of_fit s c fit first last step x.from x.to x.by t e in
            sound_all body (in_turn s var) q.1 (cells_with s var (value_at t k) a)
            (variable_fits s a (turns_give k (one_turn s var t (run_all body)) (Fits s) (λ j l d m. one_turn_fits s var t (run_all body) x.kind g (λ b. run_all_fits body (in_turn s var) q.1 b) j (below_all j k t.count l i) d m) c fit a f)
            var (value_at t k) x.kind (turn_index t k g i))),
      )
  sound_each (loop line number (Some directive) var first last step body) s h c fit =
      let x : Head = record { line = line; var = var; first = first; last = last; step = step } in
      let q = and_parts (is_well_kinded_head (names_at s) var first last step) (has_scalar_privates (names_at s) (Some directive) && are_well_kinded_statements (names_at s) body) h in
      let r = and_parts (has_scalar_privates (names_at s) (Some directive)) (are_well_kinded_statements (names_at s) body) q.1 in
      let inner : Site → Rattle.meaning.specs.Statements.Run = if is_nest directive body then run_inner body else run_all body in
      let here : Site = in_iteration s directive var body in (
        (fit, statement_defined (loop line number (Some directive) var first last step body) s c fit h),
        (λ hs e k i a f.
            let g : HeadsFit s hs = heads_fit s c fit x (further_head directive body) (head_parts s var first last step q.0) (further_is_fit s directive body r.1) hs e in
            let b : KeepsFit here (inner here) = either_fits here (is_nest directive body) (run_inner body) (run_all body) (λ d. run_inner_fits body here r.1 d) (λ d. run_all_fits body here r.1 d) in
            let fits : Fits s a = turns_give k (one_iteration s directive var hs body inner) (Fits s) (λ j l d m. one_iteration_fits s directive var hs body inner g b j (below_all j k (iterations hs) l i) d m) c fit a f in
            let start : Fits s (iteration_cells s directive var body hs k a) = heads_cells_fit s hs k g i (with_all_unset s (private_names s directive var body) a) (unset_fits s (private_names s directive var body) a fits) in
            by_nest (is_nest directive body) (HoldsInLoop IsSound body here (iteration_cells s directive var body hs k a)) (HoldsAtAll IsSound body here (iteration_cells s directive var body hs k a))
            (sound_loop body here r.1 (iteration_cells s directive var body hs k a) start) (sound_all body here r.1 (iteration_cells s directive var body hs k a) start)),
      )

  sound_all : (xs : Statements) (s : Site) → IsWellKinded s xs → (c : Cells) → Fits s c → HoldsAtAll IsSound xs s c
  sound_all no_statements s h c fit = tt
  sound_all (statement x xs) s h c fit =
      let q = and_parts (is_well_kinded_statement (names_at s) x) (are_well_kinded_statements (names_at s) xs) h in
      (sound_each x s q.0 c fit, (λ d e. sound_all xs s q.1 d (run_fits x s q.0 c fit d e)))

  sound_arms : (arms : Arms) (other : Statements) (s : Site) → are_well_kinded_arms (names_at s) arms ≡ true → ((c : Cells) → Fits s c → HoldsAtAll IsSound other s c) → (c : Cells) → Fits s c
      → HoldsInArms IsSound arms (HoldsAtAll IsSound other) s c
  sound_arms no_arms other s h g c fit = g c fit
  sound_arms (arm test body arms) other s h g c fit =
      let q = and_parts (is_well_kinded_condition (names_at s) test) (are_well_kinded_statements (names_at s) body && are_well_kinded_arms (names_at s) arms) h in
      let r = and_parts (are_well_kinded_statements (names_at s) body) (are_well_kinded_arms (names_at s) arms) q.1 in
      ((λ e. sound_all body s r.0 c fit), (λ e. sound_arms arms other s r.1 g c fit))

  sound_loop : (xs : Statements) (s : Site) → IsWellKinded s xs → (c : Cells) → Fits s c → HoldsInLoop IsSound xs s c
  sound_loop no_statements s h c fit = tt
  sound_loop (statement x xs) s h c fit = sound_within x s (and_parts (is_well_kinded_statement (names_at s) x) (are_well_kinded_statements (names_at s) xs) h).0 c fit

  sound_within : (x : Statement) (s : Site) → is_well_kinded_statement (names_at s) x ≡ true → (c : Cells) → Fits s c → HoldsWithin IsSound x s c
  sound_within (assignment line atomic p e) s h c fit = tt
  sound_within (branch line arms other) s h c fit = tt
  sound_within (loop line number directive var first last step body) s h c fit =
      let q = and_parts (is_well_kinded_head (names_at s) var first last step) (has_scalar_privates (names_at s) directive && are_well_kinded_statements (names_at s) body) h in
      sound_all body s (and_parts (has_scalar_privates (names_at s) directive) (are_well_kinded_statements (names_at s) body) q.1).1 c fit

pub runs_sound : RunsAreSound
runs_sound body s c h fit = sound_all body s h c fit
