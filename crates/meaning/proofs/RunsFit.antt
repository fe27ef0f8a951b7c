-- A run of a well-kinded body from fitting cells ends with fitting cells.
use Rattle.std.specs.Prelude.{◌≡◌, ℕ, zero, suc, ◌+◌, ◌*◌, ◌/◌, ◌%◌, ◌<◌, ◌^◌, ℤ, pos, ◌+ℤ◌, ◌-ℤ◌, int_div, Bool, true, false, ◌&&◌, if◌then◌else◌, List, [], ◌∷◌, Option, Some, None, Err, refl, slice_set}
use Rattle.std.specs.Ordering.{int_eq}
use Rattle.std.proofs.Common.{subst, arith}
use Rattle.std.proofs.lemmas.Bool.{and_parts}
use Rattle.std.proofs.Math.Nat.{div-lt_iff_lt-mul}
use Rattle.ring_core.specs.Index.{IsIndex}
use Rattle.fl_ast.specs.declared.kind.Kind.{Kind}
use Rattle.fl_ast.specs.declared.kind.Kind.TheVariants as kind
use Rattle.fl_ast.specs.declared.directive.Directive.{Directive}
use Rattle.fl_ast.specs.Tree.{Expression, Designator, Statement, assignment, branch, loop, Statements, no_statements, statement, Arms, no_arms, arm}
use Rattle.fl_types.specs.declared.access.AccessKind.{AccessKind}
use Rattle.fl_types.specs.declared.access.AccessKind.TheVariants.{Write}
use Rattle.fl_types.specs.Accesses.{increment_kind}
use Rattle.fl_types.specs.Nests.{Head, is_nest, further_head, inner_head}
use Rattle.fl_types.specs.Increment.{Signed, target_of, rest_terms, increment_terms}
use Rattle.fl_types.specs.Kinds.{Names, kind_of_name, kind_of_expression, is_index_kind, takes_value, is_well_kinded, is_well_kinded_condition, is_index_expression, is_index_step, is_index_scalar, has_scalar_privates, is_well_kinded_assignment, is_well_kinded_head, is_well_kinded_statement, are_well_kinded_statements, are_well_kinded_arms}
use Rattle.store_core.specs.Bounds.{clipped}
use Rattle.meaning.specs.declared.value.Dual.{Dual}
use Rattle.meaning.specs.declared.value.Value.{Value}
use Rattle.meaning.specs.declared.value.Value.TheVariants.{Index, Ring}
use Rattle.meaning.specs.declared.value.Cause.{Cause}
use Rattle.meaning.specs.declared.value.Cause.TheVariants.{ZeroDivisor, Bounds, Unset}
use Rattle.meaning.specs.declared.value.TrapAt.{TrapAt}
use Rattle.meaning.specs.declared.value.IterationCount.{IterationCount}
use Rattle.meaning.specs.Values.{as_dual, as_kind, whole_number, whole_numbers}
use Rattle.meaning.specs.Logs.{Log, single, both, ends, right_side, rounds, condition, Traced, pure, lift, after, inside, at_line}
use Rattle.meaning.specs.Sites.{Cells, Site, in_turn, in_iteration, place_of, kind_of}
use Rattle.meaning.specs.Expressions.{content, value_of, values_of, holds}
use Rattle.meaning.specs.Statements.{Run, with_log, store_at, after_push, put, plain_assignment, terms_of, incremented_dual, increment_cell, increment_place, increment, assignment_by, turns_by, step_value, turns_of, value_at, set_at, turns, loop_words, private_names, with_all_unset, unset_log, private_words, one_turn, Heads, iterations, with_variables, words_of_all, further_turns, heads_of, one_iteration, run_turns, run_parallel, choice, in_arm, run, run_all, run_inner, run_within, run_arms}
use Rattle.meaning.specs.Fitting.{names_at, HasKind, Fits, IsWellKinded}
use Rattle.meaning.specs.Defined.{IsFittingCount}
use Rattle.meaning.proofs.Gives.{Gives, gives_value, gives_none, then_gives, line_gives, touching_gives, saving_gives, turns_give}
use Rattle.meaning.proofs.Placing.{HoldsKind, fits_at, fits_set}
use Rattle.meaning.proofs.KindsOfValues.{grown_below, converted_has, index_whole}
use Rattle.meaning.proofs.ValuesFit.{value_kind}
use Rattle.meaning.proofs.Variables.{variables_fit}

-- ---- assignments

put_fits : (s : Site) (c : Cells) → Fits s c → (x : List ℕ) (ss : List ℤ) (v : Value) → HasKind (kind_of s x) (as_kind (kind_of s x) v) → (o : Option ℕ) → place_of s x ss ≡ o → Gives (put s c x v o) (Fits s)
put_fits s c fit x ss v h None e = gives_none (Bounds x) (Fits s)
put_fits s c fit x ss v h (Some p) e =
    let w : Value = as_kind (kind_of s x) v in
    let t : Traced Cause Cells = store_at c p w in
    let g : Gives t (Fits s) = gives_value {X = Cause} (slice_set c p (Some w)) (Fits s) (fits_set s s.keys c x ss p (Some w) fit e h) in
    touching_gives s x p Write (after_push s x (content c p) t) (Fits s) (saving_gives s x (content c p) t (Fits s) g)

plain_fits : (s : Site) (c : Cells) → Fits s c → (p : Designator) (e : Expression) → is_well_kinded_assignment (names_at s) p e ≡ true → Gives (plain_assignment s c p e) (Fits s)
plain_fits s c fit p e h =
    let k : Kind = kind_of_name (names_at s) p.name in
    let j : Kind = kind_of_expression (names_at s) e in
    let q = and_parts (takes_value k j) (is_well_kinded (names_at s) (target_of p) && is_well_kinded (names_at s) e) h in
    let r = and_parts (is_well_kinded (names_at s) (target_of p)) (is_well_kinded (names_at s) e) q.1 in
    then_gives (inside (right_side p.name) (value_of e s c)) _ (Fits s)
    (λ v g. then_gives (values_of p.subscripts s c) _ (Fits s)
    (λ vs i. put_fits s c fit p.name (whole_numbers vs) v (converted_has k j v q.0 (value_kind s c fit e r.1 v g)) (place_of s p.name (whole_numbers vs)) refl))

ring_kind : (k : Kind) (d : Dual) → k ≡ kind.Ring → d.value < 2 ^ 64 → HasKind k (Ring d)
ring_kind kind.Ring d e h = h
ring_kind kind.Index d e h = cc

held_word : (k : Kind) (v : Value) → k ≡ kind.Ring → HasKind k v → (as_dual v).value < 2 ^ 64
held_word kind.Ring (Ring d) e h = h
held_word kind.Ring (Index z) e h = absurd h
held_word kind.Index v e h = cc

increment_cell_fits : (s : Site) (c : Cells) → Fits s c → (x : List ℕ) (ss : List ℤ) (n : AccessKind) (ds : List (Bool × Dual)) (p : ℕ) → place_of s x ss ≡ Some p → kind_of s x ≡ kind.Ring
    → (o : Option Value) → HoldsKind (kind_of s x) o → Gives (increment_cell s c x n ds p o) (Fits s)
increment_cell_fits s c fit x ss n ds p e r None h = gives_none (Unset x) (Fits s)
increment_cell_fits s c fit x ss n ds p e r (Some v) h =
    let d : Dual = incremented_dual ds (as_dual v) in
    let t : Traced Cause Cells = store_at c p (Ring d) in
    let g : HasKind (kind_of s x) (Ring d) = ring_kind (kind_of s x) d r (grown_below ds (as_dual v) (held_word (kind_of s x) v r h)) in
    touching_gives s x p n t (Fits s) (gives_value {X = Cause} (slice_set c p (Some (Ring d))) (Fits s) (fits_set s s.keys c x ss p (Some (Ring d)) fit e g))

increment_place_fits : (s : Site) (c : Cells) → Fits s c → (x : List ℕ) (ss : List ℤ) (n : AccessKind) (ds : List (Bool × Dual)) → kind_of s x ≡ kind.Ring → (o : Option ℕ) → place_of s x ss ≡ o
    → Gives (increment_place s c x n ds o) (Fits s)
increment_place_fits s c fit x ss n ds r None e = gives_none (Bounds x) (Fits s)
increment_place_fits s c fit x ss n ds r (Some p) e = increment_cell_fits s c fit x ss n ds p e r (content c p) (fits_at s s.keys c x ss p fit e)

increment_fits : (s : Site) (c : Cells) → Fits s c → (p : Designator) (rs : List Signed) (n : AccessKind) → kind_of s p.name ≡ kind.Ring → Gives (increment s c p rs n) (Fits s)
increment_fits s c fit p rs n r =
    then_gives (inside (right_side p.name) (terms_of rs s c)) _ (Fits s)
    (λ ds e. then_gives (values_of p.subscripts s c) _ (Fits s)
    (λ vs g. increment_place_fits s c fit p.name (whole_numbers vs) n ds r (place_of s p.name (whole_numbers vs)) refl))

assignment_fits : (s : Site) (c : Cells) → Fits s c → (atomic : Bool) (p : Designator) (e : Expression) → is_well_kinded_assignment (names_at s) p e ≡ true
    → Gives (assignment_by s c atomic p e (increment_terms s.ring p e)) (Fits s)
assignment_fits s c fit atomic p e h = by_test (s.ring p.name) refl
  where
    by_form : s.ring p.name ≡ true → (o : Option (List Signed)) → Gives (assignment_by s c atomic p e o) (Fits s)
    by_form r None = plain_fits s c fit p e h
    by_form r (Some rs) = increment_fits s c fit p rs (increment_kind atomic (s.pluses p.name)) (rw r refl)

    by_test : (b : Bool) → s.ring p.name ≡ b → Gives (assignment_by s c atomic p e (if b then rest_terms p e else None)) (Fits s)
    by_test true r = by_form r (rest_terms p e)
    by_test false r = plain_fits s c fit p e h

-- ---- loops

pub index_of_expression : (s : Site) (c : Cells) → Fits s c → (e : Expression) → is_index_expression (names_at s) e ≡ true → Gives (value_of e s c) (λ v. IsIndex (whole_number v))
index_of_expression s c fit e h v g =
    let p = and_parts (is_index_kind (kind_of_expression (names_at s) e)) (is_well_kinded (names_at s) e) h in
    index_whole (kind_of_expression (names_at s) e) v p.0 (value_kind s c fit e p.1 v g)

index_of_step : (s : Site) (c : Cells) → Fits s c → (o : Option Expression) → is_index_step (names_at s) o ≡ true → Gives (step_value o s c) (λ v. IsIndex (whole_number v))
index_of_step s c fit None h = gives_value {X = Cause} (Index (pos 1)) (λ v. IsIndex (whole_number v)) refl
index_of_step s c fit (Some e) h = index_of_expression s c fit e h

turns_by_fit : (x y z : ℤ) → IsIndex x → IsIndex y → IsIndex z → Gives (turns_by x y z) IsFittingCount
turns_by_fit x y z h g i = by_test (int_eq z (pos 0))
  where
    some_turns : IterationCount
    some_turns = record { first = x; last = y; step = z; count = clipped (int_div ((y -ℤ x) +ℤ z) z) }

    by_test : (b : Bool) → Gives (if b then lift {X = Cause} {A = IterationCount} (Err ZeroDivisor) else pure some_turns) IsFittingCount
    by_test true = gives_none ZeroDivisor IsFittingCount
    by_test false = gives_value {X = Cause} some_turns IsFittingCount (record { first = h; last = g; step = i; count = refl })

pub record HeadParts (s : Site) (var : List ℕ) (first last : Expression) (step : Option Expression) : Type 0 where
  pub kind : kind_of s var ≡ kind.Index
  pub rank : (names_at s).has_rank var 0 ≡ true
  pub from : is_index_expression (names_at s) first ≡ true
  pub to : is_index_expression (names_at s) last ≡ true
  pub by : is_index_step (names_at s) step ≡ true

index_kind : (k : Kind) → is_index_kind k ≡ true → k ≡ kind.Index
index_kind kind.Index e = refl
index_kind kind.Ring e = cc

pub head_parts : (s : Site) (var : List ℕ) (first last : Expression) (step : Option Expression) → is_well_kinded_head (names_at s) var first last step ≡ true → HeadParts s var first last step
head_parts s var first last step h =
    let names : Names = names_at s in
    let a = and_parts (is_index_scalar names var) (is_index_expression names first && (is_index_expression names last && is_index_step names step)) h in
    let b = and_parts (is_index_expression names first) (is_index_expression names last && is_index_step names step) a.1 in
    let c = and_parts (is_index_expression names last) (is_index_step names step) b.1 in
    let d = and_parts (is_index_kind (kind_of_name names var)) (names.has_rank var 0) a.0 in
    record { kind = index_kind (kind_of_name names var) d.0; rank = d.1; from = b.0; to = c.0; by = c.1 }

pub turns_of_fit : (s : Site) (c : Cells) → Fits s c → (first last : Expression) (step : Option Expression)
    → is_index_expression (names_at s) first ≡ true → is_index_expression (names_at s) last ≡ true → is_index_step (names_at s) step ≡ true → Gives (turns_of first last step s c) IsFittingCount
turns_of_fit s c fit first last step m n o =
    then_gives (value_of first s c) _ IsFittingCount
    (λ v e. then_gives (value_of last s c) _ IsFittingCount
    (λ w f. then_gives (step_value step s c) _ IsFittingCount
    (λ u g. turns_by_fit (whole_number v) (whole_number w) (whole_number u) (index_of_expression s c fit first m v e) (index_of_expression s c fit last n w f) (index_of_step s c fit step o u g))))

pub turn_index : (t : IterationCount) (k : ℕ) → IsFittingCount t → k < t.count → IsIndex (value_at t k)
turn_index t k h i = variables_fit t.first t.last t.step k h.first h.last (subst (λ (n : ℕ). k < n) h.count i)

set_at_fits : (s : Site) (c : Cells) → Fits s c → (x : List ℕ) (v : Option Value) → HoldsKind (kind_of s x) v → (o : Option ℕ) → place_of s x [] ≡ o → Fits s (set_at o v c)
set_at_fits s c fit x v h None e = fit
set_at_fits s c fit x v h (Some p) e = fits_set s s.keys c x [] p v fit e h

index_value : (k : Kind) (z : ℤ) → k ≡ kind.Index → IsIndex z → HasKind k (Index z)
index_value kind.Index z e h = h
index_value kind.Ring z e h = cc

-- the cells with a loop's variable set
pub variable_fits : (s : Site) (c : Cells) → Fits s c → (var : List ℕ) (z : ℤ) → kind_of s var ≡ kind.Index → IsIndex z → Fits s (set_at (place_of s var []) (Some (Index z)) c)
variable_fits s c fit var z k h = set_at_fits s c fit var (Some (Index z)) (index_value (kind_of s var) z k h) (place_of s var []) refl

pub unset_fits : (s : Site) (xs : List (List ℕ)) (c : Cells) → Fits s c → Fits s (with_all_unset s xs c)
unset_fits s [] c fit = fit
unset_fits s (x ∷ xs) c fit = unset_fits s xs (set_at (place_of s x []) None c) (set_at_fits s c fit x None tt (place_of s x []) refl)

-- a run that keeps cells fitting
abbrev pub KeepsFit : Site → Run → Type 0
KeepsFit s f = (c : Cells) → Fits s c → Gives (f c) (Fits s)

noted_fits : (s : Site) (l : Log) → KeepsFit s (with_log l)
noted_fits s l c fit = gives_value {X = TrapAt} c (Fits s) fit

pub one_turn_fits : (s : Site) (var : List ℕ) (t : IterationCount) (body : Site → Run) → kind_of s var ≡ kind.Index → IsFittingCount t → KeepsFit s (body (in_turn s var)) → (k : ℕ) → k < t.count → KeepsFit s (one_turn s var t body k)
one_turn_fits s var t body h g f k i c fit = f (set_at (place_of s var []) (Some (Index (value_at t k))) c) (variable_fits s c fit var (value_at t k) h (turn_index t k g i))

pub turns_fit : (s : Site) (var : List ℕ) (t : IterationCount) (body : Site → Run) → kind_of s var ≡ kind.Index → IsFittingCount t → KeepsFit s (body (in_turn s var)) → KeepsFit s (run_turns var body s t)
turns_fit s var t body h g f c fit =
    then_gives (turns t.count (one_turn s var t body) c) (with_log (loop_words t)) (Fits s)
    (λ b e. noted_fits s (loop_words t) b (turns_give t.count (one_turn s var t body) (Fits s) (λ k i a fits. one_turn_fits s var t body h g f k i a fits) c fit b e))

-- ---- parallel loops

-- each head has a variable and a count that fit
abbrev pub HeadsFit : Site → Heads → Type 0
HeadsFit s [] = Unit {0}
HeadsFit s (h ∷ hs) = (kind_of s h.0 ≡ kind.Index) × IsFittingCount h.1 × HeadsFit s hs

pub rest_positive : (k a n : ℕ) → k < a * n → zero < n
rest_positive k a zero h = absurd (omega arith)
rest_positive k a (suc n) h = omega arith

pub quotient_below : (k a n : ℕ) → k < a * n → k / n < a
quotient_below k a n h = (div-lt_iff_lt-mul (rest_positive k a n h)).1 h

pub remainder_below : (k n : ℕ) → zero < n → k % n < n
remainder_below k n h = omega arith

with_variables_fits : (s : Site) (hs : Heads) (k : ℕ) (f : Run) → HeadsFit s hs → k < iterations hs → KeepsFit s f → KeepsFit s (with_variables s hs k f)
with_variables_fits s [] k f h i g = g
with_variables_fits s (x ∷ []) k f h i g = λ c fit. g (set_at (place_of s x.0 []) (Some (Index (value_at x.1 k))) c) (variable_fits s c fit x.0 (value_at x.1 k) h.0 (turn_index x.1 k h.1 i))
with_variables_fits s (x ∷ y ∷ hs) k f h i g = λ c fit.
    let n : ℕ = iterations (y ∷ hs) in
    let j : ℕ = k / n in
    with_variables_fits s (y ∷ hs) (k % n) f h.2 (remainder_below k n (rest_positive k x.1.count n i)) g
    (set_at (place_of s x.0 []) (Some (Index (value_at x.1 j))) c)
    (variable_fits s c fit x.0 (value_at x.1 j) h.0 (turn_index x.1 j h.1 (quotient_below k x.1.count n i)))

pub one_iteration_fits : (s : Site) (directive : Directive) (var : List ℕ) (hs : Heads) (tree : Statements) (body : Site → Run) → HeadsFit s hs → KeepsFit s (body (in_iteration s directive var tree))
    → (k : ℕ) → k < iterations hs → KeepsFit s (one_iteration s directive var hs tree body k)
one_iteration_fits s directive var hs tree body h g k i c fit =
    let names : List (List ℕ) = private_names s directive var tree in
    then_gives (after (unset_log s names) (with_variables s hs k (body (in_iteration s directive var tree)) (with_all_unset s names c))) (λ b. with_log (private_words s tree names b) b) (Fits s)
    (λ b e. noted_fits s (private_words s tree names b) b (with_variables_fits s hs k (body (in_iteration s directive var tree)) h i g (with_all_unset s names c) (unset_fits s names c fit) b e))

parallel_fits : (s : Site) (line : ℕ) (directive : Directive) (var : List ℕ) (tree : Statements) (body : Site → Run) (hs : Heads) → HeadsFit s hs → KeepsFit s (body (in_iteration s directive var tree))
    → KeepsFit s (run_parallel line directive var tree body s hs)
parallel_fits s line directive var tree body hs h g c fit =
    let l : Log = both (single (ends line)) (words_of_all hs) in
    then_gives (inside rounds (turns (iterations hs) (one_iteration s directive var hs tree body) c)) (with_log l) (Fits s)
    (λ b e. noted_fits s l b (turns_give (iterations hs) (one_iteration s directive var hs tree body) (Fits s) (λ k i a fits. one_iteration_fits s directive var hs tree body h g k i a fits) c fit b e))

-- the head of a loop, and that of the loop that is collapsed with it
abbrev pub HeadIsFit : Site → Head → Type 0
HeadIsFit s x = HeadParts s x.var x.first x.last x.step

abbrev pub FurtherIsFit : Site → Option Head → Type 0
FurtherIsFit s None = Unit {0}
FurtherIsFit s (Some x) = HeadIsFit s x

further_fit : (s : Site) (c : Cells) → Fits s c → (o : Option Head) → FurtherIsFit s o → Gives (further_turns o s c) (HeadsFit s)
further_fit s c fit None h = gives_value {X = TrapAt} [] (HeadsFit s) tt
further_fit s c fit (Some x) h =
    then_gives (at_line x.line (turns_of x.first x.last x.step s c)) (λ t. pure ((x.var, t) ∷ [])) (HeadsFit s)
    (λ t e. gives_value {X = TrapAt} ((x.var, t) ∷ []) (HeadsFit s) (h.kind, line_gives x.line (turns_of x.first x.last x.step s c) IsFittingCount (turns_of_fit s c fit x.first x.last x.step h.from h.to h.by) t e, tt))

pub heads_fit : (s : Site) (c : Cells) → Fits s c → (x : Head) (o : Option Head) → HeadIsFit s x → FurtherIsFit s o → Gives (heads_of x o s c) (HeadsFit s)
heads_fit s c fit x o h g =
    then_gives (at_line x.line (turns_of x.first x.last x.step s c)) _ (HeadsFit s)
    (λ t e. then_gives (further_turns o s c) _ (HeadsFit s)
    (λ hs f. gives_value {X = TrapAt} ((x.var, t) ∷ hs) (HeadsFit s) (h.kind, line_gives x.line (turns_of x.first x.last x.step s c) IsFittingCount (turns_of_fit s c fit x.first x.last x.step h.from h.to h.by) t e, further_fit s c fit o g hs f)))

-- the collapsed loop's head is one in the body
inner_is_fit : (s : Site) (body : Statements) → IsWellKinded s body → FurtherIsFit s (inner_head body)
inner_is_fit s no_statements h = tt
inner_is_fit s (statement (assignment line atomic p e) bs) h = tt
inner_is_fit s (statement (branch line arms other) bs) h = tt
inner_is_fit s (statement (loop line number directive var first last step body) bs) h =
    let a = and_parts (is_well_kinded_statement (names_at s) (loop line number directive var first last step body)) (are_well_kinded_statements (names_at s) bs) h in
    let b = and_parts (is_well_kinded_head (names_at s) var first last step) (has_scalar_privates (names_at s) directive && are_well_kinded_statements (names_at s) body) a.0 in
    head_parts s var first last step b.0

pub further_is_fit : (s : Site) (directive : Directive) (body : Statements) → IsWellKinded s body → FurtherIsFit s (further_head directive body)
further_is_fit s directive body h = by_test (is_nest directive body)
  where
    by_test : (b : Bool) → FurtherIsFit s (if b then inner_head body else None)
    by_test true = inner_is_fit s body h
    by_test false = tt

-- ---- statements

choice_fits : (s : Site) (b : Bool) (f g : Run) → KeepsFit s f → KeepsFit s g → KeepsFit s (choice b f g)
choice_fits s true f g h k = h
choice_fits s false f g h k = k

pub either_fits : (s : Site) (b : Bool) (f g : Site → Run) → KeepsFit s (f s) → KeepsFit s (g s) → KeepsFit s ((if b then f else g) s)
either_fits s true f g h k = h
either_fits s false f g h k = k

in_arm_fits : (s : Site) (m : ℕ) (f : Run) → KeepsFit s f → KeepsFit s (in_arm m f)
in_arm_fits s m f h c fit = then_gives (f c) _ (Fits s) (λ b e. gives_value {X = TrapAt} b (Fits s) (h c fit b e))

mutual
  pub run_fits : (x : Statement) (s : Site) → is_well_kinded_statement (names_at s) x ≡ true → KeepsFit s (run x s)
  run_fits (assignment line atomic p e) s h c fit = line_gives line (assignment_by s c atomic p e (increment_terms s.ring p e)) (Fits s) (assignment_fits s c fit atomic p e h)
  run_fits (branch line arms other) s h c fit =
      let q = and_parts (are_well_kinded_arms (names_at s) arms) (are_well_kinded_statements (names_at s) other) h in
      arms_fit arms line 0 (run_all other) s q.0 (λ b. run_all_fits other s q.1 b) c fit
  run_fits (loop line number None var first last step body) s h c fit =
      let q = and_parts (is_well_kinded_head (names_at s) var first last step) (has_scalar_privates (names_at s) None && are_well_kinded_statements (names_at s) body) h in
      let x = head_parts s var first last step q.0 in
      then_gives (at_line line (turns_of first last step s c)) _ (Fits s)
      (λ t e. turns_fit s var t (run_all body) x.kind (line_gives line (turns_of first last step s c) IsFittingCount (turns_of_fit s c fit first last step x.from x.to x.by) t e)
      (λ b. run_all_fits body (in_turn s var) q.1 b) c fit)
  run_fits (loop line number (Some directive) var first last step body) s h c fit =
      let x : Head = record { line = line; var = var; first = first; last = last; step = step } in
      let q = and_parts (is_well_kinded_head (names_at s) var first last step) (has_scalar_privates (names_at s) (Some directive) && are_well_kinded_statements (names_at s) body) h in
      let r = and_parts (has_scalar_privates (names_at s) (Some directive)) (are_well_kinded_statements (names_at s) body) q.1 in
      then_gives (heads_of x (further_head directive body) s c) _ (Fits s)
      (λ hs e. parallel_fits s line directive var body (if is_nest directive body then run_inner body else run_all body) hs
      (heads_fit s c fit x (further_head directive body) (head_parts s var first last step q.0) (further_is_fit s directive body r.1) hs e)
      (either_fits (in_iteration s directive var body) (is_nest directive body) (run_inner body) (run_all body) (λ b. run_inner_fits body (in_iteration s directive var body) r.1 b) (λ b. run_all_fits body (in_iteration s directive var body) r.1 b)) c fit)

  pub run_inner_fits : (xs : Statements) (s : Site) → IsWellKinded s xs → KeepsFit s (run_inner xs s)
  run_inner_fits no_statements s h c fit = gives_value {X = TrapAt} c (Fits s) fit
  run_inner_fits (statement x xs) s h c fit = run_within_fits x s (and_parts (is_well_kinded_statement (names_at s) x) (are_well_kinded_statements (names_at s) xs) h).0 c fit

  run_within_fits : (x : Statement) (s : Site) → is_well_kinded_statement (names_at s) x ≡ true → KeepsFit s (run_within x s)
  run_within_fits (assignment line atomic p e) s h c fit = gives_value {X = TrapAt} c (Fits s) fit
  run_within_fits (branch line arms other) s h c fit = gives_value {X = TrapAt} c (Fits s) fit
  run_within_fits (loop line number directive var first last step body) s h c fit =
      let q = and_parts (is_well_kinded_head (names_at s) var first last step) (has_scalar_privates (names_at s) directive && are_well_kinded_statements (names_at s) body) h in
      run_all_fits body s (and_parts (has_scalar_privates (names_at s) directive) (are_well_kinded_statements (names_at s) body) q.1).1 c fit

  pub run_all_fits : (xs : Statements) (s : Site) → IsWellKinded s xs → KeepsFit s (run_all xs s)
  run_all_fits no_statements s h c fit = gives_value {X = TrapAt} c (Fits s) fit
  run_all_fits (statement x xs) s h c fit =
      let q = and_parts (is_well_kinded_statement (names_at s) x) (are_well_kinded_statements (names_at s) xs) h in
      then_gives (run x s c) (run_all xs s) (Fits s) (λ b e. run_all_fits xs s q.1 b (run_fits x s q.0 c fit b e))

  arms_fit : (arms : Arms) (line m : ℕ) (other : Site → Run) (s : Site) → are_well_kinded_arms (names_at s) arms ≡ true → KeepsFit s (other s) → KeepsFit s (run_arms arms line m other s)
  arms_fit no_arms line m other s h g c fit = in_arm_fits s m (other s) g c fit
  arms_fit (arm test body arms) line m other s h g c fit =
      let q = and_parts (is_well_kinded_condition (names_at s) test) (are_well_kinded_statements (names_at s) body && are_well_kinded_arms (names_at s) arms) h in
      let r = and_parts (are_well_kinded_statements (names_at s) body) (are_well_kinded_arms (names_at s) arms) q.1 in
      then_gives (inside (condition m) (at_line line (holds test s c))) _ (Fits s)
      (λ b e. choice_fits s b (in_arm m (run_all body s)) (run_arms arms line (m + 1) other s) (in_arm_fits s m (run_all body s) (λ a. run_all_fits body s r.0 a))
      (λ a. arms_fit arms line (m + 1) other s r.1 g a) c fit)
