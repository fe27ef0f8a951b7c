-- Runs of statements, turns and iterations, piece by piece.
use Rattle.std.specs.Prelude.{◌≡◌, ℕ, zero, suc, ◌<◌, ◌≤◌, ◌/◌, ◌%◌, ◌*◌, ℤ, pos, ◌+ℤ◌, ◌*ℤ◌, Bool, true, false, if◌then◌else◌, List, [], ◌∷◌, length, Option, Some, None, Result, Ok, Err, refl}
use Rattle.std.proofs.Common.{◌⊎◌, inl, inr, w32, to_z, of_z, ap, sym, ◌∙◌, subst, arith, drop, get_or}
use Rattle.std.proofs.lemmas.Bool.{cases_lt}
use Rattle.fl_ast.specs.declared.directive.Directive.{Directive}
use Rattle.fl_ast.specs.Tree.{Expression, Designator, Condition, Statement, assignment, branch, loop, Statements, no_statements, statement, arm}
use Rattle.fl_types.specs.declared.increment.IncrementForm.{IncrementForm}
use Rattle.fl_types.specs.Nests.{Head, is_plain_loop, is_nest, head_of, inner_head, further_head, statements_in, inner_body, iteration_body}
use Rattle.store_core.specs.Keys.{place_in_slot}
use Rattle.meaning.specs.declared.value.Value.TheVariants.{Index}
use Rattle.meaning.specs.declared.value.TrapAt.{TrapAt}
use Rattle.meaning.specs.declared.value.IterationCount.{IterationCount}
use Rattle.meaning.specs.Sites.{Cells, Site, place_of}
use Rattle.meaning.specs.Statements.{value_at, set_at, private_names, with_all_unset, Heads, iterations}
use Rattle.meaning.specs.Reached.{cells_with_heads}
use Rattle.meaning.specs.Expressions.{holds}
use Rattle.meaning.specs.Stops.{Stop, trapped, over_statements}
use Rattle.resolved.specs.SlotTables.{Names, table_site}
use Rattle.resolved.specs.declared.resolved.ResolvedArm.{ResolvedArm}
use Rattle.resolved.specs.declared.resolved.ResolvedStmt.{ResolvedStmt}
use Rattle.resolved.specs.ResolvedExprs.{slot_name, condition_back, is_condition_within}
use Rattle.resolved.specs.ResolvedStmts.{statements_back, arms_back, form_in, same_form, is_fit, are_fit, is_arm_fit, are_arms_fit}
use Rattle.resolved.proofs.Slots.{arm_fit, one_arm_back}
use Rattle.std.proofs.lemmas.Bool.{and_parts}
use Rattle.dual_meaning.proofs.Quotients.{dropped}
use Rattle.dual_meaning.specs.declared.statements.RunStop.{RunStop}
use Rattle.dual_meaning.specs.declared.statements.RunStop.TheVariants as stop
use Rattle.dual_meaning.specs.declared.rounds.Round.{Round}
use Rattle.dual_meaning.specs.Counted.{Counted, followed, begun, ended, lined, CountedRun, counted_turns, counted_turn, counted_iteration, headed, turns_at, counted_heads, chosen, counted_begun, counted_all, counted_inner, counted_arms}
use Rattle.dual_evaluation.specs.Assignments.{by_form}
use Rattle.dual_meaning.specs.Running.{SetsAt, Begins, Ran, AnswersAt, AnswersRound, round_of, round_count, with_rounds, unset_places, counted_round}
use Rattle.dual_evaluation.proofs.Forms.{by_form_is}
use Rattle.ring_core.specs.Index.{fits_index}
use Rattle.dual_evaluation.proofs.Counts.{computed}
use Rattle.dual_evaluation.proofs.Located.{place_by_slot}
use Rattle.dual_meaning.proofs.Nesting.{Nest}
use Rattle.dual_meaning.proofs.Counting.{followed_same, begun_same}

-- ---- answers

-- a stop that a part answers is that of the whole
pub ran_stop : (A B : Type 0) (e : RunStop) (cells : Cells) (left : ℕ) (r s : Counted Cells) → Ran {A = A} (Err e) cells left r → ((x : Stop) → r ≡ (Err x, left) → s ≡ (Err x, left)) → Ran {A = B} (Err e) cells left s
ran_stop A B (stop.Trap t) cells left r s h k = k (trapped t) h
ran_stop A B stop.Statements cells left r s h k = k over_statements h
ran_stop A B stop.Memory cells left r s h k = tt

set_ran : (A : Type 0) (r : Result A RunStop) (new : Cells) (m : ℕ) (x : Result Cells TrapAt) → SetsAt r new x → Ran r new m (ended x m)
set_ran A (Ok a) new m x h = ap (λ y. ended y m) h
set_ran A (Err (stop.Trap t)) new m x h = ap (λ y. ended y m) h
set_ran A (Err stop.Statements) new m x h = absurd h
set_ran A (Err stop.Memory) new m x h = tt

-- an evaluation that stops, and what would follow it
pub answer_stop : (A B C : Type 0) (e : RunStop) (cells : Cells) (m : ℕ) (x : Result C TrapAt) (f : C → ℕ → Counted Cells) (s : Counted Cells) → AnswersAt {A = C} (Err e) x → s ≡ followed (ended x m) f → Ran {A = B} (Err e) cells m s
answer_stop A B C (stop.Trap t) cells m x f s h k = k ∙ ap (λ y. followed (ended y m) f) h
answer_stop A B C stop.Statements cells m x f s h k = absurd h
answer_stop A B C stop.Memory cells m x f s h k = tt

-- ---- assignments

pub assigned_ran : (A : Type 0) (names : Names) (line : ℕ) (atomic : Bool) (p : Designator) (e : Expression) (cells new : Cells) (form : Option IncrementForm) (m : ℕ) (r : Result A RunStop) (tree : Statement)
    → tree ≡ assignment line atomic p e → same_form form (form_in names p e) ≡ true → SetsAt r new (lined line (by_form form (table_site names) cells p e).out)
    → Ran r new m (counted_begun tree (table_site names) cells m)
assigned_ran A names line atomic p e cells new form m r tree t f h =
    let q : counted_begun tree (table_site names) cells m ≡ ended (lined line (by_form form (table_site names) cells p e).out) m
    = ap (λ b. counted_begun b (table_site names) cells m) t
    ∙ ap (λ o. ended (lined line o) m) (sym (by_form_is names cells atomic p e form f)) in
    subst (Ran r new m) (sym q) (set_ran A r new m (lined line (by_form form (table_site names) cells p e).out) h)

-- ---- loops

-- a sequential loop, once its statement instance has begun
pub loop_counts : (line number : ℕ) (var : List ℕ) (first last : Expression) (step : Option Expression) (body : Statements) (site : Site) (cells : Cells) (m : ℕ) (tree : Statement)
    → tree ≡ loop line number None var first last step body
    → counted_begun tree site cells m
    ≡ followed (ended (turns_at (record { line = line; var = var; first = first; last = last; step = step }) site cells) m) (λ t. counted_turns t.count (counted_turn site var t (counted_all body site)) cells)
loop_counts line number var first last step body site cells m tree t = ap (λ b. counted_begun b site cells m) t

-- one turn more
pub turns_next : (n : ℕ) (f : ℕ → CountedRun) (a b : Cells) (l m : ℕ) → counted_turns n f a l ≡ (Ok b, m) → counted_turns (suc n) f a l ≡ f n b m
turns_next n f a b l m e = ap (λ t. followed t (f n)) e

by_order : (n m : ℕ) (f : ℕ → CountedRun) (a : Cells) (l j : ℕ) (x : Stop) → m ≤ suc n → counted_turns m f a l ≡ (Err x, j) → (m ≤ n → counted_turns n f a l ≡ (Err x, j)) → (m < suc n) ⊎ (suc n ≤ m)
    → counted_turns (suc n) f a l ≡ (Err x, j)
by_order n m f a l j x h e before (inl q) = ap (λ t. followed t (f n)) (before (omega arith))
by_order n m f a l j x h e before (inr g) = let z : m ≡ suc n = omega arith in ap (λ i. counted_turns i f a l) (sym z) ∙ e

still : (n m : ℕ) (f : ℕ → CountedRun) (a : Cells) (l j : ℕ) (x : Stop) → m ≤ n → counted_turns m f a l ≡ (Err x, j) → counted_turns n f a l ≡ (Err x, j)
still zero m f a l j x h e = let z : m ≡ 0 = omega arith in ap (λ i. counted_turns i f a l) (sym z) ∙ e
still (suc n) m f a l j x h e = by_order n m f a l j x h e (λ q. still n m f a l j x q e) (cases_lt m (suc n))

-- a turn that stops stops the loop
pub turns_stop : (n k : ℕ) (f : ℕ → CountedRun) (a b : Cells) (l m j : ℕ) (x : Stop) → k < n → counted_turns k f a l ≡ (Ok b, m) → f k b m ≡ (Err x, j) → counted_turns n f a l ≡ (Err x, j)
turns_stop n k f a b l m j x h e g = still n (suc k) f a l j x (omega arith) (turns_next k f a b l m e ∙ g)

-- the same of answers
pub turns_ran : (A B : Type 0) (n k : ℕ) (f : ℕ → CountedRun) (a b d : Cells) (l m j : ℕ) (e : RunStop) (r : Counted Cells) → k < n → counted_turns k f a l ≡ (Ok b, m) → f k b m ≡ r
    → Ran {A = A} (Err e) d j r → Ran {A = B} (Err e) d j (counted_turns n f a l)
turns_ran A B n k f a b d l m j e r h q g s = ran_stop A B e d j r (counted_turns n f a l) s (λ x z. turns_stop n k f a b l m j x h q (g ∙ z))

-- a statement instance that has no room stops the loop
pub no_room : (B : Type 0) (n k : ℕ) (f : ℕ → CountedRun) (a b : Cells) (l m j : ℕ) (g : ℕ → Counted Cells) → k < n → counted_turns k f a l ≡ (Ok b, m) → f k b m ≡ begun m g → m ≡ 0 → j ≡ 0 → counted_turns n f a l ≡ (Err over_statements, j)
no_room B n k f a b l m j g h e q z y =
    turns_stop n k f a b l m j over_statements h e (q ∙ ap (λ i. begun i g) z ∙ ap (λ i. (Err over_statements, i)) (sym y))

pub turn_counts : (names : Names) (variable : ℕ) (t : IterationCount) (body : CountedRun) (k : ℕ) (cells : Cells) (m j : ℕ) → variable < length names.0 → m ≡ suc j
    → counted_turn (table_site names) (slot_name names.0 variable) t body k cells m ≡ body (set_at (place_in_slot names.0 variable []) (Some (Index (value_at t k))) cells) j
turn_counts names variable t body k cells m j h e =
    ap (counted_turn (table_site names) (slot_name names.0 variable) t body k cells) e
    ∙ ap (λ o. body (set_at o (Some (Index (value_at t k))) cells) j) (sym (place_by_slot names variable [] h))

pub turn_begins : (site : Site) (var : List ℕ) (t : IterationCount) (body : CountedRun) (k : ℕ) (cells : Cells) (m : ℕ)
    → counted_turn site var t body k cells m ≡ begun m (body (set_at (place_of site var []) (Some (Index (value_at t k))) cells))
turn_begins site var t body k cells m = refl

-- the cells with the variable set, as the code computes its value
pub set_is : (new b : Cells) (place q : Option ℕ) (first step : ℤ) (k : ℕ) → new ≡ set_at place (Some (Index (to_z w32 (of_z w32 first) +ℤ (pos k *ℤ to_z w32 (of_z w32 step))))) b
    → place ≡ q → fits_index first ≡ true → fits_index step ≡ true → new ≡ set_at q (Some (Index (first +ℤ (pos k *ℤ step)))) b
set_is new b place q first step k e p f g = e ∙ ap (λ o. set_at o (Some (Index (to_z w32 (of_z w32 first) +ℤ (pos k *ℤ to_z w32 (of_z w32 step))))) b) p ∙ ap (λ z. set_at q (Some (Index z)) b) (computed first step k f g)

-- ---- parallel loops

turns_same : (n : ℕ) (f g : ℕ → CountedRun) → ((k : ℕ) (c : Cells) (m : ℕ) → f k c m ≡ g k c m) → (c : Cells) (m : ℕ) → counted_turns n f c m ≡ counted_turns n g c m
turns_same zero f g h c m = refl
turns_same (suc n) f g h c m = ap (λ t. followed t (f n)) (turns_same n f g h c m) ∙ followed_same (counted_turns n g c m) (f n) (g n) (h n)

inner_counts : (body : Statements) (site : Site) (c : Cells) (m : ℕ) → counted_inner body site c m ≡ counted_all (inner_body body) site c m
inner_counts no_statements site c m = refl
inner_counts (statement (assignment line atomic p e) ss) site c m = refl
inner_counts (statement (branch line arms other) ss) site c m = refl
inner_counts (statement (loop line number directive var first last step body) ss) site c m = refl

chosen_counts : (b : Bool) (body : Statements) (site : Site) (c : Cells) (m : ℕ) → chosen b (counted_inner body site) (counted_all body site) c m ≡ counted_all (if b then inner_body body else body) site c m
chosen_counts true body site c m = inner_counts body site c m
chosen_counts false body site c m = refl

-- a parallel loop, once its statement instance has begun
pub parallel_counts : (line number : ℕ) (d : Directive) (var : List ℕ) (first last : Expression) (step : Option Expression) (body : Statements) (site : Site) (cells : Cells) (m : ℕ) (tree : Statement)
    → tree ≡ loop line number (Some d) var first last step body
    → counted_begun tree site cells m
    ≡ followed (ended (counted_heads (record { line = line; var = var; first = first; last = last; step = step }) (further_head d body) site cells) m)
    (λ heads. counted_turns (iterations heads) (counted_iteration site (private_names site d var body) heads (counted_all (iteration_body d body) site)) cells)
parallel_counts line number d var first last step body site cells m tree t =
    ap (λ b. counted_begun b site cells m) t
    ∙ followed_same (ended (counted_heads (record { line = line; var = var; first = first; last = last; step = step }) (further_head d body) site cells) m) _ _
    (λ heads j. turns_same (iterations heads) _ _
    (λ k c i. begun_same i _ _ (λ n. chosen_counts (is_nest d body) body site (cells_with_heads site heads k (with_all_unset site (private_names site d var body) c)) n)) cells j)

round_counts : (names : Names) (xs : List (List ℕ)) (places : List ℕ) (body : CountedRun) (heads : Heads) (outer : Round) (inner : Option Round)
    → ((c : Cells) → unset_places places c ≡ with_all_unset (table_site names) xs c) → ((k : ℕ) (c : Cells) → with_rounds outer inner k c ≡ cells_with_heads (table_site names) heads k c)
    → (k : ℕ) (c : Cells) (m : ℕ) → counted_round places outer inner body k c m ≡ counted_iteration (table_site names) xs heads body k c m
round_counts names xs places body heads outer inner h g k c m =
    begun_same m (body (with_rounds outer inner k (unset_places places c))) (body (cells_with_heads (table_site names) heads k (with_all_unset (table_site names) xs c)))
    (λ j. ap (λ d. body d j) (g k (unset_places places c) ∙ ap (cells_with_heads (table_site names) heads k) (h c)))

-- iterations by places are those by names
pub rounds_count : (names : Names) (xs : List (List ℕ)) (places : List ℕ) (body : CountedRun) (heads : Heads) (outer : Round) (inner : Option Round)
    → ((c : Cells) → unset_places places c ≡ with_all_unset (table_site names) xs c) → ((k : ℕ) (c : Cells) → with_rounds outer inner k c ≡ cells_with_heads (table_site names) heads k c)
    → round_count outer inner ≡ iterations heads → (c : Cells) (m : ℕ)
    → counted_turns (round_count outer inner) (counted_round places outer inner body) c m ≡ counted_turns (iterations heads) (counted_iteration (table_site names) xs heads body) c m
rounds_count names xs places body heads outer inner h g e c m =
    turns_same (round_count outer inner) _ _ (round_counts names xs places body heads outer inner h g) c m
    ∙ ap (λ n. counted_turns n (counted_iteration (table_site names) xs heads body) c m) e

-- ---- what the code has at hand

pub begins_ran : (A B : Type 0) (n k : ℕ) (f : ℕ → CountedRun) (a b d : Cells) (l m j : ℕ) (e : RunStop) (g : ℕ → Counted Cells) → k < n → counted_turns k f a l ≡ (Ok b, m) → f k b m ≡ begun m g
    → Begins {A = A} (Err e) m j → Ran {A = B} (Err e) d j (counted_turns n f a l)
begins_ran A B n k f a b d l m j (stop.Trap t) g h e q s = absurd s
begins_ran A B n k f a b d l m j stop.Statements g h e q s = no_room B n k f a b l m j g h e q s.0 s.1
begins_ran A B n k f a b d l m j stop.Memory g h e q s = absurd s

-- a statement that can't begin
pub none_begins : (A B : Type 0) (e : RunStop) (d : Cells) (m j : ℕ) (r : Counted Cells) (g : ℕ → Counted Cells) → r ≡ begun m g → Begins {A = A} (Err e) m j → Ran {A = B} (Err e) d j r
none_begins A B (stop.Trap t) d m j r g q s = absurd s
none_begins A B stop.Statements d m j r g q s = q ∙ ap (λ i. begun i g) s.0 ∙ ap (λ i. (Err over_statements, i)) (sym s.1)
none_begins A B stop.Memory d m j r g q s = absurd s

-- ---- heads and their places

alone_headed : (x : List ℕ) (r : Result IterationCount TrapAt) (t : IterationCount) → r ≡ Ok t → headed x r (Ok []) ≡ Ok ((x, t) ∷ [])
alone_headed x r t e = ap (λ q. headed x q (Ok [])) e

-- one loop
pub plain_counts : (names : Names) (h : Head) (d : Directive) (body : Statements) (places : List ℕ) (outer : Round) (cells : Cells) (m : ℕ) → is_nest d body ≡ false
    → ((c : Cells) → unset_places places c ≡ with_all_unset (table_site names) (private_names (table_site names) d h.var body) c)
    → turns_at h (table_site names) cells ≡ Ok outer.turns → outer.place ≡ place_of (table_site names) h.var []
    → counted_turns (round_count outer None) (counted_round places outer None (counted_all body (table_site names))) cells m
    ≡ followed (ended (counted_heads h (further_head d body) (table_site names) cells) m)
    (λ heads. counted_turns (iterations heads) (counted_iteration (table_site names) (private_names (table_site names) d h.var body) heads (counted_all (iteration_body d body) (table_site names))) cells)
plain_counts names h d body places outer cells m n u e p =
    let site : Site = table_site names in
    let xs : List (List ℕ) = private_names site d h.var body in
    rounds_count names xs places (counted_all body site) ((h.var, outer.turns) ∷ []) outer None u
    (λ k c. ap (λ o. set_at o (Some (Index (value_at outer.turns k))) c) p) refl cells m
    ∙ sym (ap (λ b. followed (ended (counted_heads h (if b then inner_head body else None) site cells) m)
    (λ heads. counted_turns (iterations heads) (counted_iteration site xs heads (counted_all (if b then inner_body body else body) site)) cells)) n
    ∙ ap (λ r. followed (ended r m) (λ heads. counted_turns (iterations heads) (counted_iteration site xs heads (counted_all body site)) cells)) (alone_headed h.var (turns_at h site cells) outer.turns e))

nest_by : (names : Names) (h g : Head) (xs : List (List ℕ)) (body : Statements) (places : List ℕ) (outer : Round) (cells : Cells) (m : ℕ) (r : Result IterationCount TrapAt)
    → ((c : Cells) → unset_places places c ≡ with_all_unset (table_site names) xs c) → outer.place ≡ place_of (table_site names) h.var []
    → followed (ended r m) (λ t. counted_turns (outer.turns.count * t.count) (counted_round places outer (Some (round_of (place_of (table_site names) g.var []) t)) (counted_all body (table_site names))) cells)
    ≡ followed (ended (headed h.var (Ok outer.turns) (headed g.var r (Ok []))) m) (λ heads. counted_turns (iterations heads) (counted_iteration (table_site names) xs heads (counted_all body (table_site names))) cells)
nest_by names h g xs body places outer cells m (Ok t) u p =
    rounds_count names xs places (counted_all body (table_site names)) ((h.var, outer.turns) ∷ (g.var, t) ∷ []) outer (Some (round_of (place_of (table_site names) g.var []) t)) u
    (λ k c. ap (λ o. set_at (place_of (table_site names) g.var []) (Some (Index (value_at t (k % t.count)))) (set_at o (Some (Index (value_at outer.turns (k / t.count)))) c)) p) refl cells m
nest_by names h g xs body places outer cells m (Err x) u p = refl

-- two loops
pub nest_counts : (names : Names) (h g : Head) (d : Directive) (body : Statements) (only : Statement) (places : List ℕ) (outer : Round) (cells : Cells) (m : ℕ) → Nest d body only → head_of only ≡ Some g
    → ((c : Cells) → unset_places places c ≡ with_all_unset (table_site names) (private_names (table_site names) d h.var body) c)
    → turns_at h (table_site names) cells ≡ Ok outer.turns → outer.place ≡ place_of (table_site names) h.var []
    → followed (ended (turns_at g (table_site names) cells) m)
    (λ t. counted_turns (outer.turns.count * t.count) (counted_round places outer (Some (round_of (place_of (table_site names) g.var []) t)) (counted_all (statements_in only) (table_site names))) cells)
    ≡ followed (ended (counted_heads h (further_head d body) (table_site names) cells) m)
    (λ heads. counted_turns (iterations heads) (counted_iteration (table_site names) (private_names (table_site names) d h.var body) heads (counted_all (iteration_body d body) (table_site names))) cells)
nest_counts names h g d body only places outer cells m n w u e p =
    let site : Site = table_site names in
    let xs : List (List ℕ) = private_names site d h.var body in
    nest_by names h g xs (statements_in only) places outer cells m (turns_at g site cells) u p
    ∙ ap (λ r. followed (ended (headed h.var r (headed g.var (turns_at g site cells) (Ok []))) m) (λ heads. counted_turns (iterations heads) (counted_iteration site xs heads (counted_all (statements_in only) site)) cells)) (sym e)
    ∙ ap (λ o. followed (ended (counted_heads h o site cells) m) (λ heads. counted_turns (iterations heads) (counted_iteration site xs heads (counted_all (statements_in only) site)) cells)) (sym (n.further ∙ w))
    ∙ ap (λ b. followed (ended (counted_heads h (further_head d body) site cells) m) (λ heads. counted_turns (iterations heads) (counted_iteration site xs heads (counted_all b site)) cells)) (sym n.inner)

-- a plain loop has a head
pub headed_by : (only : Statement) → is_plain_loop only ≡ true → (g : Head) × (head_of only ≡ Some g)
headed_by (assignment line atomic p e) h = cc
headed_by (branch line arms other) h = cc
headed_by (loop line number d var first last step body) h = (record { line = line; var = var; first = first; last = last; step = step }, refl)

-- where the outer loop's bounds trap
pub outer_stop : (A B : Type 0) (e : RunStop) (names : Names) (h : Head) (o : Option Head) (cells : Cells) (m : ℕ) (place : Option ℕ) (f : Heads → ℕ → Counted Cells) → AnswersRound (Err e) place (turns_at h (table_site names) cells)
    → Ran {A = B} (Err e) cells m (followed (ended (counted_heads h o (table_site names) cells) m) f)
outer_stop A B (stop.Trap t) names h None cells m place f s = ap (λ r. followed (ended (headed h.var r (Ok [])) m) f) s
outer_stop A B (stop.Trap t) names h (Some g) cells m place f s = ap (λ r. followed (ended (headed h.var r (headed g.var (turns_at g (table_site names) cells) (Ok []))) m) f) s
outer_stop A B stop.Statements names h o cells m place f s = absurd s
outer_stop A B stop.Memory names h o cells m place f s = tt

-- ---- arms

arms_head : (names : Names) (xs ys : List ResolvedArm) (a : ResolvedArm) → xs ≡ a ∷ ys → are_arms_fit names xs ≡ true
    → (is_condition_within (length names.0) a.test ≡ true) × (are_fit names a.body ≡ true) × (are_arms_fit names ys ≡ true)
arms_head names xs ys a e h =
    let p = and_parts (is_arm_fit names a) (are_arms_fit names ys) (ap (are_arms_fit names) (sym e) ∙ h) in
    let q = arm_fit names a p.0 in
    (q.0, q.1, p.1)

pub arms_fit_at : (names : Names) (xs : List ResolvedArm) (i : ℕ) (a : ResolvedArm) → i < length xs → a ≡ get_or xs i a → are_arms_fit names (drop i xs) ≡ true
    → (is_condition_within (length names.0) a.test ≡ true) × (are_fit names a.body ≡ true) × (are_arms_fit names (drop (suc i) xs) ≡ true)
arms_fit_at names xs i a l g h = arms_head names (drop i xs) (drop (suc i) xs) a (dropped xs i a l g) h

-- the arms from the i-th on begin with its condition
pub arms_at : (names : Names) (xs : List ResolvedArm) (i : ℕ) (a : ResolvedArm) (line : ℕ) (other : CountedRun) (cells : Cells) (m : ℕ) → i < length xs → a ≡ get_or xs i a
    → counted_arms (arms_back names.0 (drop i xs)) line other (table_site names) cells m
    ≡ followed (ended (lined line (holds (condition_back names.0 a.test) (table_site names) cells).out) m)
    (λ p. chosen p (counted_all (statements_back names.0 a.body) (table_site names)) (counted_arms (arms_back names.0 (drop (suc i) xs)) line other (table_site names)) cells)
arms_at names xs i a line other cells m l g =
    ap (λ ys. counted_arms (arms_back names.0 ys) line other (table_site names) cells m) (dropped xs i a l g)
    ∙ ap (λ (p : Condition × Statements). counted_arms (arm p.0 p.1 (arms_back names.0 (drop (suc i) xs))) line other (table_site names) cells m) (one_arm_back names.0 a)

-- and go on with what the condition says
pub arm_chosen : (names : Names) (xs : List ResolvedArm) (i : ℕ) (a : ResolvedArm) (line : ℕ) (other : CountedRun) (cells : Cells) (m : ℕ) (p : Bool) → i < length xs → a ≡ get_or xs i a
    → lined line (holds (condition_back names.0 a.test) (table_site names) cells).out ≡ Ok p
    → counted_arms (arms_back names.0 (drop i xs)) line other (table_site names) cells m
    ≡ chosen p (counted_all (statements_back names.0 a.body) (table_site names)) (counted_arms (arms_back names.0 (drop (suc i) xs)) line other (table_site names)) cells m
arm_chosen names xs i a line other cells m p l g e =
    arms_at names xs i a line other cells m l g
    ∙ ap (λ r. followed (ended r m) (λ q. chosen q (counted_all (statements_back names.0 a.body) (table_site names)) (counted_arms (arms_back names.0 (drop (suc i) xs)) line other (table_site names)) cells)) e

-- ---- the inner of two loops

heads_same : (o : Option Head) (h k : Head) → o ≡ Some h → o ≡ Some k → k ≡ h
heads_same o h k e f = cc

pub inner_rounds : (names : Names) (h k : Head) (tree : Statement) (body : Statements) (places : List ℕ) (outer inner : Round) (cells : Cells) (m : ℕ) → head_of tree ≡ Some h → head_of tree ≡ Some k → statements_in tree ≡ body
    → turns_at k (table_site names) cells ≡ Ok inner.turns → inner.place ≡ place_of (table_site names) k.var []
    → counted_turns (outer.turns.count * inner.turns.count) (counted_round places outer (Some inner) (counted_all body (table_site names))) cells m
    ≡ followed (ended (turns_at h (table_site names) cells) m)
    (λ t. counted_turns (outer.turns.count * t.count) (counted_round places outer (Some (round_of (place_of (table_site names) h.var []) t)) (counted_all (statements_in tree) (table_site names))) cells)
inner_rounds names h k tree body places outer inner cells m e f b v p =
    let site : Site = table_site names in
    let c : k ≡ h = heads_same (head_of tree) h k e f in
    ap (λ q. counted_turns (outer.turns.count * inner.turns.count) (counted_round places outer (Some (round_of q inner.turns)) (counted_all body site)) cells m) p
    ∙ ap (λ s. counted_turns (outer.turns.count * inner.turns.count) (counted_round places outer (Some (round_of (place_of site k.var []) inner.turns)) (counted_all s site)) cells m) (sym b)
    ∙ sym (ap (λ r. followed (ended r m) (λ t. counted_turns (outer.turns.count * t.count) (counted_round places outer (Some (round_of (place_of site k.var []) t)) (counted_all (statements_in tree) site)) cells)) v)
    ∙ ap (λ (x : Head). followed (ended (turns_at x site cells) m) (λ t. counted_turns (outer.turns.count * t.count) (counted_round places outer (Some (round_of (place_of site x.var []) t)) (counted_all (statements_in tree) site)) cells)) c

pub inner_stop : (A B : Type 0) (e : RunStop) (names : Names) (h k : Head) (tree : Statement) (cells : Cells) (m : ℕ) (place : Option ℕ) (f : IterationCount → ℕ → Counted Cells) → head_of tree ≡ Some h → head_of tree ≡ Some k
    → AnswersRound (Err e) place (turns_at k (table_site names) cells) → Ran {A = B} (Err e) cells m (followed (ended (turns_at h (table_site names) cells) m) f)
inner_stop A B (stop.Trap t) names h k tree cells m place f e g s =
    ap (λ (x : Head). followed (ended (turns_at x (table_site names) cells) m) f) (sym (heads_same (head_of tree) h k e g)) ∙ ap (λ r. followed (ended r m) f) s
inner_stop A B stop.Statements names h k tree cells m place f e g s = absurd s
inner_stop A B stop.Memory names h k tree cells m place f e g s = tt

pub first_fit : (names : Names) (xs : List ResolvedStmt) (x : ResolvedStmt) → are_fit names xs ≡ true → length xs ≡ 1 → x ≡ get_or xs 0 x → is_fit names x ≡ true
first_fit names [] x f l g = cc
first_fit names (y ∷ xs) x f l g = ap (is_fit names) g ∙ (and_parts (is_fit names y) (are_fit names xs) f).0
