-- The clauses of a parallel loop of an adjoint are readable.
use Rattle.std.proofs.Common.{◌≡◌, ℕ, ◌+◌, ◌<◌, ◌≤◌, Bool, true, false, not, ◌&&◌, ◌||◌, if◌then◌else◌, List, [], ◌∷◌, ◌++◌, map, filter, flat_map, bytes_eq, codes, zero, suc, refl, sym, ap, ap₂, ◌∙◌, arith}
use Rattle.std.specs.Prelude.{nat_le}
use Rattle.std.specs.List.{list_all, list_any}
use Rattle.std.proofs.lemmas.Bool.{and_parts, and_from, or_left, or_right}
use Rattle.std.specs.Bool.{one_answer}
use Rattle.std.proofs.lemmas.List.{append_cancel_right}
use Rattle.std.proofs.lemmas.Slice.Eq.{bytes_eq-Decides}
use Rattle.fl_ast.specs.declared.directive.Directive.{Directive}
use Rattle.fl_ast.specs.Tree.{assignment, branch, loop, Statements, no_statements, statement}
use Rattle.fl_ast.specs.Readable.{is_variable, are_apart, is_readable_schedule, has_readable_clauses}
use Rattle.fl_types.specs.declared.sharing.Sharing.{Sharing}
use Rattle.fl_types.specs.declared.sharing.Sharing.TheVariants.{Shared, Private, First, Plus, LoopVar}
use Rattle.fl_types.specs.Nests.{is_nest, iteration_body, inner_body}
use Rattle.fl_types.specs.Sharing.{sharing_in, has_name, is_private, is_plus, varies_in}
use Rattle.fl_types.specs.Declarations.{is_reserved}
use Rattle.adjoint_rules.specs.OwnNames.{adjoint_name}
use Rattle.adjoint_rules.specs.Scopes.{Scope, has_choice, is_reduction}
use Rattle.adjoint_rules.specs.Clauses.{private_names, is_first, privates_of, firsts_of, clauses_with, forward_clauses, backward_clauses, bound_names, scratch_names, loop_numbers_in}
use Rattle.readable_adjoints.specs.Fitting.{is_fair_loop}
use Rattle.readable_adjoints.proofs.Every.{Every, every_append, every_flat, every_map, every_filter, every_passing, told_every, every_is, every_any}
use Rattle.readable_adjoints.proofs.Times.{one_if, times, times-append, times-filter, times-mapped, one_where, apart_by_times, times_by_apart, at_times}
use Rattle.readable_adjoints.proofs.Named.{last, IsVariable, IsOwn, Run, run_none, run_left, run_right, run_small, own_apart, own_are, own_variable, adjoint_reserved, adjoint_last}

-- What is known of the declared names: they are names of variables, stand apart, and aren't kept for adjoints; the active ones have adjoints.
pub record Names (scope : Scope) : Type 0 where
  pub variables : Every IsVariable scope.declared
  pub apart : are_apart scope.declared ≡ true
  pub unreserved : Every (λ x. is_reserved x ≡ false) scope.declared
  pub own : (x : List ℕ) → scope.active x ≡ true → IsVariable (adjoint_name x)

-- ---- no name twice

adjoint_same : (x y : List ℕ) → bytes_eq (adjoint_name x) (adjoint_name y) ≡ bytes_eq x y
adjoint_same x y = one_answer (bytes_eq (adjoint_name x) (adjoint_name y)) (bytes_eq x y) (bytes_eq-Decides (adjoint_name x) (adjoint_name y)) (
  λ h. ap adjoint_name ((bytes_eq-Decides x y).0 h),
  λ e. (bytes_eq-Decides x y).1 (append_cancel_right x y (codes "_b") e),
)

adjoint_any : (x : List ℕ) (xs : List (List ℕ)) → list_any (bytes_eq (adjoint_name x)) (map adjoint_name xs) ≡ list_any (bytes_eq x) xs
adjoint_any x [] = refl
adjoint_any x (y ∷ ys) = ap₂ (λ a b. a || b) (adjoint_same x y) (adjoint_any x ys)

adjoints_apart : (xs : List (List ℕ)) → are_apart (map adjoint_name xs) ≡ are_apart xs
adjoints_apart [] = refl
adjoints_apart (x ∷ xs) = ap₂ (λ a b. not a && b) (adjoint_any x xs) (adjoints_apart xs)

-- what an adjoint's name is
abbrev IsAdjoint : List ℕ → Type 0
IsAdjoint x = (is_reserved x ≡ true) × (last x ≡ 98)

adjoints_are : (xs : List (List ℕ)) → Every IsAdjoint (map adjoint_name xs)
adjoints_are xs = every_map IsAdjoint adjoint_name xs (every_any (λ x. IsAdjoint (adjoint_name x)) (λ x. (adjoint_reserved x, adjoint_last x)) xs)

apart_tests : {A : Type 0} (b : Bool) → b ≡ false → b ≡ true → A
apart_tests b e f = absurd (let g : false ≡ true = sym e ∙ f in cc)

three : (a b c : ℕ) → a ≤ 1 → b ≤ 1 → c ≤ 1 → (0 < a → 0 < b → ⊥) → (0 < a → 0 < c → ⊥) → (0 < b → 0 < c → ⊥) → a + (b + c) ≤ 1
three zero zero c la lb lc ab ac bc = omega (arith, lc)
three zero (suc b) zero la lb lc ab ac bc = omega (arith, lb)
three zero (suc b) (suc c) la lb lc ab ac bc = absurd (bc (omega arith) (omega arith))
three (suc a) zero zero la lb lc ab ac bc = omega (arith, la)
three (suc a) zero (suc c) la lb lc ab ac bc = absurd (ac (omega arith) (omega arith))
three (suc a) (suc b) c la lb lc ab ac bc = absurd (ab (omega arith) (omega arith))

-- declared names, their adjoints and the adjoint's own
all_once : (scope : Scope) (ns : List ℕ) → Names scope → Run ns → (y : List ℕ)
    → times y scope.declared + (times y (map adjoint_name scope.declared) + times y (flat_map bound_names ns ++ scratch_names)) ≤ 1
all_once scope ns N r y =
    let free : 0 < times y scope.declared → is_reserved y ≡ false = at_times (λ x. is_reserved x ≡ false) y scope.declared N.unreserved in
    let turned : 0 < times y (map adjoint_name scope.declared) → IsAdjoint y = at_times IsAdjoint y (map adjoint_name scope.declared) (adjoints_are scope.declared) in
    let owned : 0 < times y (flat_map bound_names ns ++ scratch_names) → IsOwn y = at_times IsOwn y (flat_map bound_names ns ++ scratch_names) (own_are ns r) in
    three (times y scope.declared) (times y (map adjoint_name scope.declared)) (times y (flat_map bound_names ns ++ scratch_names))
    (times_by_apart scope.declared N.apart y) (times_by_apart (map adjoint_name scope.declared) (adjoints_apart scope.declared ∙ N.apart) y) (own_apart ns r y)
    (λ a b. apart_tests (is_reserved y) (free a) (turned b).0) (λ a c. apart_tests (is_reserved y) (free a) (owned c).0) (λ b c. (owned c).1 (turned b).1)

-- ---- what a name gives to the clauses

-- a name with its class, whether it varies in an iteration and is active: in private, firstprivate and reduction
abbrev private_part : Sharing → (varying active : Bool) → List ℕ → List (List ℕ)
private_part s varying active x = if is_private s then (if active then x ∷ adjoint_name x ∷ [] else x ∷ []) else if varying then x ∷ [] else []

forward_share : (s : Sharing) (v a : Bool) (y x : List ℕ) → (v ≡ true → s ≡ LoopVar)
    → times y (private_part s v a x) + (one_where (is_first s) y x + one_where (is_plus s) y x) ≤ one_if (bytes_eq y x) + one_if (bytes_eq y (adjoint_name x))
forward_share Private v true y x h = omega arith
forward_share Private v false y x h = omega arith
forward_share LoopVar true a y x h = omega arith
forward_share LoopVar false a y x h = omega arith
forward_share Shared true a y x h = absurd (let g = h refl in cc)
forward_share Shared false a y x h = omega arith
forward_share First true a y x h = absurd (let g = h refl in cc)
forward_share First false a y x h = omega arith
forward_share Plus true a y x h = absurd (let g = h refl in cc)
forward_share Plus false a y x h = omega arith

-- backward a name that is active and collected gives its adjoint to the reductions
backward_share : (s : Sharing) (v a q : Bool) (y x : List ℕ) → (v ≡ true → s ≡ LoopVar) → (is_private s ≡ true → q ≡ false)
    → times y (private_part s v a x) + (one_where (is_first s) y x + one_where (a && q) y (adjoint_name x)) ≤ one_if (bytes_eq y x) + one_if (bytes_eq y (adjoint_name x))
backward_share Private v true true y x h k = absurd (let g = k refl in cc)
backward_share Private v true false y x h k = omega arith
backward_share Private v false q y x h k = omega arith
backward_share LoopVar true true true y x h k = omega arith
backward_share LoopVar true true false y x h k = omega arith
backward_share LoopVar true false q y x h k = omega arith
backward_share LoopVar false true true y x h k = omega arith
backward_share LoopVar false true false y x h k = omega arith
backward_share LoopVar false false q y x h k = omega arith
backward_share Shared true a q y x h k = absurd (let g = h refl in cc)
backward_share Shared false true true y x h k = omega arith
backward_share Shared false true false y x h k = omega arith
backward_share Shared false false q y x h k = omega arith
backward_share First true a q y x h k = absurd (let g = h refl in cc)
backward_share First false true true y x h k = omega arith
backward_share First false true false y x h k = omega arith
backward_share First false false q y x h k = omega arith
backward_share Plus true a q y x h k = absurd (let g = h refl in cc)
backward_share Plus false true true y x h k = omega arith
backward_share Plus false true false y x h k = omega arith
backward_share Plus false false q y x h k = omega arith

-- ---- what varies in an iteration is a loop's variable

inner_varies : (x : List ℕ) (body : Statements) → varies_in x (inner_body body) ≡ true → varies_in x body ≡ true
inner_varies x no_statements h = h
inner_varies x (statement (assignment line atomic p e) ss) h = absurd (let g : false ≡ true = h in cc)
inner_varies x (statement (branch line arms other) ss) h = absurd (let g : false ≡ true = h in cc)
inner_varies x (statement (loop line number directive var first last step body) ss) h =
    or_left (bytes_eq x var || varies_in x body) (varies_in x ss) (or_right (bytes_eq x var) (varies_in x body) h)

iteration_varies : (x : List ℕ) (directive : Directive) (body : Statements) → varies_in x (iteration_body directive body) ≡ true → varies_in x body ≡ true
iteration_varies x directive body h = at (is_nest directive body) h
  where
    at : (t : Bool) → varies_in x (if t then inner_body body else body) ≡ true → varies_in x body ≡ true
    at true k = inner_varies x body k
    at false k = k

is_variable_of : (var : List ℕ) (directive : Directive) (body : Statements) (x : List ℕ) → varies_in x (iteration_body directive body) ≡ true → sharing_in var directive body x ≡ LoopVar
is_variable_of var directive body x h = at (bytes_eq x var) (varies_in x body) (iteration_varies x directive body h)
  where
    at : (a b : Bool) → b ≡ true → (if a || b then LoopVar else if has_name x directive.privates then Private else if has_name x directive.firsts then First else if has_name x directive.pluses then Plus else Shared) ≡ LoopVar
    at true b k = refl
    at false true k = refl
    at false false k = absurd (let g : false ≡ true = k in cc)

-- ---- the clauses

-- the names that pass in clauses are no more than the declared ones and their adjoints
abbrev IsShared : Scope → List ℕ → Directive → Statements → (pluses : List (List ℕ)) → List (List ℕ) → List ℕ → Type 0
IsShared scope var directive body pluses xs y =
    times y (flat_map (private_names scope var directive body) xs) + (times y (filter (λ x. is_first (sharing_in var directive body x)) xs) + times y pluses)
    ≤ times y xs + times y (map adjoint_name xs)

forward_shared : (scope : Scope) (var : List ℕ) (directive : Directive) (body : Statements) (y : List ℕ) (xs : List (List ℕ))
    → IsShared scope var directive body (filter (λ x. is_plus (sharing_in var directive body x)) xs) xs y
forward_shared scope var directive body y [] = omega arith
forward_shared scope var directive body y (x ∷ xs) =
    let one = forward_share (sharing_in var directive body x) (varies_in x (iteration_body directive body)) (scope.active x) y x (is_variable_of var directive body x) in
    let rest = forward_shared scope var directive body y xs in
    let privates = times-append y (private_names scope var directive body x) (flat_map (private_names scope var directive body) xs) in
    let firsts = times-filter y x (λ z. is_first (sharing_in var directive body z)) xs in
    let pluses = times-filter y x (λ z. is_plus (sharing_in var directive body z)) xs in
    omega (arith, one, rest, privates, firsts, pluses)

not_both : (p q : Bool) → not (p && q) ≡ true → p ≡ true → q ≡ false
not_both true true h e = absurd (let g : false ≡ true = h in cc)
not_both true false h e = refl
not_both false q h e = absurd (let g : false ≡ true = e in cc)

backward_shared : (scope : Scope) (number : ℕ) (var : List ℕ) (directive : Directive) (body : Statements) (y : List ℕ) (xs : List (List ℕ))
    → is_fair_loop scope.choices xs number var directive body ≡ true
    → IsShared scope var directive body (map adjoint_name (filter (λ x. scope.active x && has_choice is_reduction scope.choices number x) xs)) xs y
backward_shared scope number var directive body y [] f = omega arith
backward_shared scope number var directive body y (x ∷ xs) f =
    let fair = and_parts (not (is_private (sharing_in var directive body x) && has_choice is_reduction scope.choices number x)) (is_fair_loop scope.choices xs number var directive body) f in
    let one = backward_share (sharing_in var directive body x) (varies_in x (iteration_body directive body)) (scope.active x) (has_choice is_reduction scope.choices number x) y x
    (is_variable_of var directive body x) (not_both (is_private (sharing_in var directive body x)) (has_choice is_reduction scope.choices number x) fair.0) in
    let rest = backward_shared scope number var directive body y xs fair.1 in
    let privates = times-append y (private_names scope var directive body x) (flat_map (private_names scope var directive body) xs) in
    let firsts = times-filter y x (λ z. is_first (sharing_in var directive body z)) xs in
    let pluses = times-mapped y x adjoint_name (λ z. scope.active z && has_choice is_reduction scope.choices number z) xs in
    omega (arith, one, rest, privates, firsts, pluses)

inner_run : (body : Statements) → Run (loop_numbers_in body) → Run (loop_numbers_in (inner_body body))
inner_run no_statements r = r
inner_run (statement (assignment line atomic p e) ss) r = run_none
inner_run (statement (branch line arms other) ss) r = run_none
inner_run (statement (loop line number directive var first last step body) ss) r =
    run_right (number ∷ []) (loop_numbers_in body) (run_left (number ∷ loop_numbers_in body) (loop_numbers_in ss) r)

iteration_run : (directive : Directive) (body : Statements) → Run (loop_numbers_in body) → Run (loop_numbers_in (iteration_body directive body))
iteration_run directive body r = at (is_nest directive body)
  where
    at : (t : Bool) → Run (loop_numbers_in (if t then inner_body body else body))
    at true = inner_run body r
    at false = r

private_variables : (scope : Scope) (var : List ℕ) (directive : Directive) (body : Statements) → Names scope → (x : List ℕ) → IsVariable x → Every IsVariable (private_names scope var directive body x)
private_variables scope var directive body N x v = at (is_private (sharing_in var directive body x)) (scope.active x) (varies_in x (iteration_body directive body)) (N.own x)
  where
    at : (p a w : Bool) → (a ≡ true → IsVariable (adjoint_name x)) → Every IsVariable (if p then (if a then x ∷ adjoint_name x ∷ [] else x ∷ []) else if w then x ∷ [] else [])
    at true true w h = (v, (h refl, tt))
    at true false w h = (v, tt)
    at false a true h = (v, tt)
    at false a false h = tt

privates_variables : (scope : Scope) (var : List ℕ) (directive : Directive) (body : Statements) → Names scope → Run (loop_numbers_in body) → Every IsVariable (privates_of scope var directive body)
privates_variables scope var directive body N r =
    every_append IsVariable (flat_map (private_names scope var directive body) scope.declared) _
    (every_flat IsVariable (private_names scope var directive body) scope.declared (every_is IsVariable _ (private_variables scope var directive body N) scope.declared N.variables))
    (own_variable (loop_numbers_in (iteration_body directive body)) (run_small _ (iteration_run directive body r)))

-- the schedule and the collapsed loops are the program's
pub record Kept (d : Directive) : Type 0 where
  pub schedule : is_readable_schedule d.schedule ≡ true
  pub collapse : nat_le d.collapse 2 ≡ true

clauses_readable : (scope : Scope) (var : List ℕ) (directive : Directive) (body : Statements) (pluses : List (List ℕ)) → Names scope → Run (loop_numbers_in body) → Kept directive
    → Every IsVariable pluses → ((y : List ℕ) → IsShared scope var directive body pluses scope.declared y) → has_readable_clauses (clauses_with pluses scope var directive body) ≡ true
clauses_readable scope var directive body pluses N r k v shared =
    and_from (list_all is_variable names) (are_apart names && (is_readable_schedule directive.schedule && nat_le directive.collapse 2))
    (told_every is_variable names (every_append IsVariable (privates_of scope var directive body) (firsts_of scope var directive body ++ pluses) (privates_variables scope var directive body N r)
    (every_append IsVariable (firsts_of scope var directive body) pluses (every_filter IsVariable _ scope.declared N.variables) v)))
    (and_from (are_apart names) (is_readable_schedule directive.schedule && nat_le directive.collapse 2) (apart_by_times names once)
    (and_from (is_readable_schedule directive.schedule) (nat_le directive.collapse 2) k.schedule k.collapse))
  where
    ns : List ℕ
    ns = loop_numbers_in (iteration_body directive body)

    names : List (List ℕ)
    names = privates_of scope var directive body ++ (firsts_of scope var directive body ++ ([] ++ pluses))

    once : (y : List ℕ) → times y names ≤ 1
    once y =
        let all = all_once scope ns N (iteration_run directive body r) y in
        let some = shared y in
        let outer = times-append y (privates_of scope var directive body) (firsts_of scope var directive body ++ pluses) in
        let inner = times-append y (firsts_of scope var directive body) pluses in
        let privates = times-append y (flat_map (private_names scope var directive body) scope.declared) (flat_map bound_names ns ++ scratch_names) in
        omega (arith, all, some, outer, inner, privates)

pub forward_readable : (scope : Scope) (var : List ℕ) (directive : Directive) (body : Statements) → Names scope → Run (loop_numbers_in body) → Kept directive
    → has_readable_clauses (forward_clauses scope var directive body) ≡ true
forward_readable scope var directive body N r k =
    clauses_readable scope var directive body _ N r k (every_filter IsVariable _ scope.declared N.variables) (λ y. forward_shared scope var directive body y scope.declared)

pub backward_readable : (scope : Scope) (number : ℕ) (var : List ℕ) (directive : Directive) (body : Statements) → Names scope → Run (loop_numbers_in body) → Kept directive
    → is_fair_loop scope.choices scope.declared number var directive body ≡ true → has_readable_clauses (backward_clauses scope number var directive body) ≡ true
backward_readable scope number var directive body N r k f =
    clauses_readable scope var directive body _ N r k
    (every_map IsVariable adjoint_name _ (every_passing (λ x. IsVariable (adjoint_name x)) (λ x. scope.active x && has_choice is_reduction scope.choices number x) scope.declared
    (every_any _ (λ x h. N.own x ((and_parts (scope.active x) (has_choice is_reduction scope.choices number x) h).0)) scope.declared)))
    (λ y. backward_shared scope number var directive body y scope.declared f)
