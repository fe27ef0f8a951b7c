-- The same of statements.
use Rattle.std.specs.Prelude.{◌≡◌, ℕ, zero, suc, ◌+◌, ◌/◌, ◌%◌, ℤ, Bool, true, false, if◌then◌else◌, List, [], ◌∷◌, Option, Some, None, Result, Ok, Err, refl, slice_set}
use Rattle.fl_ast.specs.declared.kind.Kind.{Kind}
use Rattle.fl_ast.specs.declared.kind.Kind.TheVariants as kind
use Rattle.fl_ast.specs.declared.directive.Directive.{Directive}
use Rattle.fl_ast.specs.Tree.{Expression, Designator, Statement, assignment, branch, loop, Statements, no_statements, statement, Arms, no_arms, arm}
use Rattle.fl_types.specs.declared.access.AccessKind.{AccessKind}
use Rattle.fl_types.specs.declared.access.AccessKind.TheVariants.{Write}
use Rattle.fl_types.specs.Nests.{Head, is_nest, further_head}
use Rattle.fl_types.specs.Increment.{Signed, increment_terms}
use Rattle.meaning.specs.declared.value.Dual.{Dual}
use Rattle.meaning.specs.declared.value.Value.{Value}
use Rattle.meaning.specs.declared.value.Value.TheVariants.{Index, Ring}
use Rattle.meaning.specs.declared.value.Cause.{Cause}
use Rattle.meaning.specs.declared.value.IterationCount.{IterationCount}
use Rattle.meaning.specs.Values.{dual_add, dual_sub, as_dual, as_kind, whole_numbers}
use Rattle.meaning.specs.Logs.{Log, single, pushes, instance, right_side, rounds, turn, iteration, condition, taken, Passage, Traced, after, inside, at_line, at_line_by}
use Rattle.meaning.specs.Sites.{Cells, with_tangent, Site, in_turn, in_iteration, place_of, kind_of}
use Rattle.meaning.specs.Expressions.{content, value_of, values_of}
use Rattle.meaning.specs.Statements.{Run, with_log, set_log, store_at, after_push, put, plain_assignment, terms_of, incremented_dual, increment_cell, increment_place, increment, assignment_by, turns_by, step_value, turns_of, value_at, set_at, with_variable, turns, private_names, with_all_unset, unset_log, content_at, private_words, one_turn, Heads, iterations, with_variables, further_turns, heads_of, one_iteration, run_turns, run_parallel, choice, in_arm, run, run_all, run_inner, run_within, run_arms}
use Rattle.meaning.proofs.Trios.{Closed, Duals, Trio, Trios, Outs, Tells, Equals, TrioCell, TrioCells, bind, pured, dual_trio, add_duals, sub_duals, whole_trio, wholes_trio, content_trio, touching_trio, value_trio, values_trio, holds_trio}

-- a run that tells three times the same
abbrev pub Steady : (ℕ → ℕ → ℕ → Type 0) → Run → Type 0
Steady R f = (c d e : Cells) → TrioCells R c d e → Tells (TrioCells R) (f c) (f d) (f e)

set_trio : (R : ℕ → ℕ → ℕ → Type 0) (c d e : Cells) (p : ℕ) (v w u : Option Value) → TrioCells R c d e → TrioCell R v w u → TrioCells R (slice_set c p v) (slice_set d p w) (slice_set e p u)
set_trio R [] [] [] p v w u h g = tt
set_trio R (a ∷ as') (b ∷ bs) (c ∷ cs) zero v w u h g = (g, h.1)
set_trio R (a ∷ as') (b ∷ bs) (c ∷ cs) (suc p) v w u h g = (h.0, set_trio R as' bs cs p v w u h.1 g)
set_trio R _ _ _ p v w u h g = absurd h

line_by : {A : Type 0} (Q : A → A → A → Type 0) (line : ℕ) (l m n : Log) (r s t : Result A Cause) → m ≡ l → n ≡ l → Outs Q r s t → Tells Q (at_line_by line l r) (at_line_by line m s) (at_line_by line n t)
line_by Q line l m n (Ok a) (Ok b) (Ok c) e e' o = record { second = e; third = e'; out = o }
line_by Q line l m n (Err x) (Err y) (Err z) e e' o = record { second = rw (e, o.0) refl; third = rw (e', o.1) refl; out = (rw o.0 refl, rw o.1 refl) }
line_by Q line l m n _ _ _ e e' o = absurd o

line_trio : {A : Type 0} (Q : A → A → A → Type 0) (line : ℕ) (t u v : Traced Cause A) → Tells Q t u v → Tells Q (at_line line t) (at_line line u) (at_line line v)
line_trio Q line t u v h = line_by Q line t.log u.log v.log t.out u.out v.out h.second h.third h.out

inside_trio : {X A : Type 0} (Q : A → A → A → Type 0) (p : Passage) (t u v : Traced X A) → Tells Q t u v → Tells Q (inside p t) (inside p u) (inside p v)
inside_trio Q p t u v h = record { second = rw h.second refl; third = rw h.third refl; out = h.out }

after_trio : {X A : Type 0} (Q : A → A → A → Type 0) (l : Log) (t u v : Traced X A) → Tells Q t u v → Tells Q (after l t) (after l u) (after l v)
after_trio Q l t u v h = record { second = rw h.second refl; third = rw h.third refl; out = h.out }

noted_trio : (R : ℕ → ℕ → ℕ → Type 0) (l : Log) → Steady R (with_log l)
noted_trio R l c d e h = record { second = refl; third = refl; out = h }

-- ---- assignments

set_log_trio : (R : ℕ → ℕ → ℕ → Type 0) (p : ℕ) (v w u : Value) → Trio R v w u → (set_log p (Some w) ≡ set_log p (Some v)) × (set_log p (Some u) ≡ set_log p (Some v))
set_log_trio R p (Index x) (Index y) (Index z) h = (rw h.0 refl, rw h.1 refl)
set_log_trio R p (Ring a) (Ring b) (Ring c) h = (rw h.second refl, rw h.third refl)
set_log_trio R p _ _ _ h = absurd h

value_content_trio : (R : ℕ → ℕ → ℕ → Type 0) (v w u : Value) → Trio R v w u → (with_tangent 0 (Some w) ≡ with_tangent 0 (Some v)) × (with_tangent 0 (Some u) ≡ with_tangent 0 (Some v))
value_content_trio R (Index x) (Index y) (Index z) h = (rw h.0 refl, rw h.1 refl)
value_content_trio R (Ring a) (Ring b) (Ring c) h = (rw h.second refl, rw h.third refl)
value_content_trio R _ _ _ h = absurd h

-- contents without tangents are equal
told_trio : (R : ℕ → ℕ → ℕ → Type 0) (v w u : Option Value) → TrioCell R v w u → (with_tangent 0 w ≡ with_tangent 0 v) × (with_tangent 0 u ≡ with_tangent 0 v)
told_trio R None None None h = (refl, refl)
told_trio R (Some v) (Some w) (Some u) h = value_content_trio R v w u h
told_trio R _ _ _ h = absurd h

converted_trio : (R : ℕ → ℕ → ℕ → Type 0) → Closed R → (s : Kind) (v w u : Value) → Trio R v w u → Trio R (as_kind s v) (as_kind s w) (as_kind s u)
converted_trio R k kind.Ring v w u h = dual_trio R k v w u h
converted_trio R k kind.Index v w u h = h

stored_trio : (R : ℕ → ℕ → ℕ → Type 0) (c d e : Cells) (p : ℕ) (v w u : Value) → TrioCells R c d e → Trio R v w u → Tells (TrioCells R) (store_at c p v) (store_at d p w) (store_at e p u)
stored_trio R c d e p v w u h g =
    let q : (set_log p (Some w) ≡ set_log p (Some v)) × (set_log p (Some u) ≡ set_log p (Some v)) = set_log_trio R p v w u g in
    record { second = q.0; third = q.1; out = set_trio R c d e p (Some v) (Some w) (Some u) h g }

saving_trio : (R : ℕ → ℕ → ℕ → Type 0) (site : Site) (x : List ℕ) (v w u : Option Value) (s t r : Traced Cause Cells) → TrioCell R v w u → Tells (TrioCells R) s t r
    → Tells (TrioCells R) (after_push site x v s) (after_push site x w t) (after_push site x u r)
saving_trio R site x v w u s t r g h = by_test (site.pushed x)
  where
    q : (with_tangent 0 w ≡ with_tangent 0 v) × (with_tangent 0 u ≡ with_tangent 0 v)
    q = told_trio R v w u g

    by_test : (b : Bool) → Tells (TrioCells R) (if b then after (single (pushes (with_tangent 0 v))) s else s) (if b then after (single (pushes (with_tangent 0 w))) t else t) (if b then after (single (pushes (with_tangent 0 u))) r else r)
    by_test true = rw (q.0, q.1) (after_trio (TrioCells R) (single (pushes (with_tangent 0 v))) s t r h)
    by_test false = h

put_trio : (R : ℕ → ℕ → ℕ → Type 0) → Closed R → (site : Site) (c d e : Cells) (x : List ℕ) (v w u : Value) (o : Option ℕ) → TrioCells R c d e → Trio R v w u
    → Tells (TrioCells R) (put site c x v o) (put site d x w o) (put site e x u o)
put_trio R k site c d e x v w u None h g = record { second = refl; third = refl; out = (refl, refl) }
put_trio R k site c d e x v w u (Some p) h g =
    touching_trio (TrioCells R) site x p Write _ _ _
    (saving_trio R site x (content c p) (content d p) (content e p) _ _ _ (content_trio R c d e p h)
    (stored_trio R c d e p _ _ _ h (converted_trio R k (kind_of site x) v w u g)))

plain_trio : (R : ℕ → ℕ → ℕ → Type 0) → Closed R → (site : Site) (p : Designator) (a : Expression) (c d e : Cells) → TrioCells R c d e → Tells (TrioCells R) (plain_assignment site c p a) (plain_assignment site d p a) (plain_assignment site e p a)
plain_trio R k site p a c d e h =
    bind (Trio R) (TrioCells R) (inside (right_side p.name) (value_of a site c)) (inside (right_side p.name) (value_of a site d)) (inside (right_side p.name) (value_of a site e)) _ _ _ (inside_trio (Trio R) (right_side p.name) _ _ _ (value_trio R k a site c d e h))
    (λ v w u g. bind (Trios R) (TrioCells R) (values_of p.subscripts site c) (values_of p.subscripts site d) (values_of p.subscripts site e) _ _ _ (values_trio R k p.subscripts site c d e h)
    (λ vs ws us gs. at_subscripts v w u g vs ws us (wholes_trio R vs ws us gs)))
  where
    at_subscripts : (v w u : Value) → Trio R v w u → (vs ws us : List Value) → (whole_numbers ws ≡ whole_numbers vs) × (whole_numbers us ≡ whole_numbers vs)
        → Tells (TrioCells R) (put site c p.name v (place_of site p.name (whole_numbers vs))) (put site d p.name w (place_of site p.name (whole_numbers ws))) (put site e p.name u (place_of site p.name (whole_numbers us)))
    at_subscripts v w u g vs ws us q = rw (q.0, q.1) (put_trio R k site c d e p.name v w u (place_of site p.name (whole_numbers vs)) h g)

abbrev TrioTerms : (ℕ → ℕ → ℕ → Type 0) → List (Bool × Dual) → List (Bool × Dual) → List (Bool × Dual) → Type 0
TrioTerms R [] [] [] = Unit {0}
TrioTerms R (a ∷ as') (b ∷ bs) (c ∷ cs) = (b.0 ≡ a.0) × (c.0 ≡ a.0) × Duals R a.1 b.1 c.1 × TrioTerms R as' bs cs
TrioTerms R _ _ _ = ⊥

terms_trio : (R : ℕ → ℕ → ℕ → Type 0) → Closed R → (rs : List Signed) (site : Site) (c d e : Cells) → TrioCells R c d e → Tells (TrioTerms R) (terms_of rs site c) (terms_of rs site d) (terms_of rs site e)
terms_trio R k [] site c d e h = record { second = refl; third = refl; out = tt }
terms_trio R k (r ∷ rs) site c d e h =
    bind (Trio R) (TrioTerms R) (value_of r.1 site c) (value_of r.1 site d) (value_of r.1 site e) _ _ _ (value_trio R k r.1 site c d e h)
    (λ v w u g. bind (TrioTerms R) (TrioTerms R) (terms_of rs site c) (terms_of rs site d) (terms_of rs site e) _ _ _ (terms_trio R k rs site c d e h)
    (λ as' bs cs gs. pured (TrioTerms R) _ _ _ (refl, refl, dual_trio R k v w u g, gs)))

pick_duals : (R : ℕ → ℕ → ℕ → Type 0) → Closed R → (s : Bool) (a b c a' b' c' : Dual) → Duals R a b c → Duals R a' b' c'
    → Duals R (if s then dual_sub a a' else dual_add a a') (if s then dual_sub b b' else dual_add b b') (if s then dual_sub c c' else dual_add c c')
pick_duals R k true a b c a' b' c' p q = sub_duals R k a b c a' b' c' p q
pick_duals R k false a b c a' b' c' p q = add_duals R k a b c a' b' c' p q

grown_trio : (R : ℕ → ℕ → ℕ → Type 0) → Closed R → (rs ss ts : List (Bool × Dual)) (a b c : Dual) → TrioTerms R rs ss ts → Duals R a b c → Duals R (incremented_dual rs a) (incremented_dual ss b) (incremented_dual ts c)
grown_trio R k [] [] [] a b c h p = p
grown_trio R k (r ∷ rs) (s ∷ ss) (t ∷ ts) a b c h p =
    grown_trio R k rs ss ts _ _ _ h.3 (rw (h.0, h.1) (pick_duals R k r.0 a b c r.1 s.1 t.1 p h.2))
grown_trio R k _ _ _ a b c h p = absurd h

grow_cell_trio : (R : ℕ → ℕ → ℕ → Type 0) → Closed R → (site : Site) (c d e : Cells) (x : List ℕ) (n : AccessKind) (rs ss ts : List (Bool × Dual)) (p : ℕ) (v w u : Option Value)
    → TrioCells R c d e → TrioTerms R rs ss ts → TrioCell R v w u → Tells (TrioCells R) (increment_cell site c x n rs p v) (increment_cell site d x n ss p w) (increment_cell site e x n ts p u)
grow_cell_trio R k site c d e x n rs ss ts p None None None h g o = record { second = refl; third = refl; out = (refl, refl) }
grow_cell_trio R k site c d e x n rs ss ts p (Some v) (Some w) (Some u) h g o =
    touching_trio (TrioCells R) site x p n _ _ _
    (stored_trio R c d e p (Ring (incremented_dual rs (as_dual v))) (Ring (incremented_dual ss (as_dual w))) (Ring (incremented_dual ts (as_dual u))) h (grown_trio R k rs ss ts _ _ _ g (dual_trio R k v w u o)))
grow_cell_trio R k site c d e x n rs ss ts p _ _ _ h g o = absurd o

grow_trio : (R : ℕ → ℕ → ℕ → Type 0) → Closed R → (site : Site) (c d e : Cells) (x : List ℕ) (n : AccessKind) (rs ss ts : List (Bool × Dual)) (o : Option ℕ)
    → TrioCells R c d e → TrioTerms R rs ss ts → Tells (TrioCells R) (increment_place site c x n rs o) (increment_place site d x n ss o) (increment_place site e x n ts o)
grow_trio R k site c d e x n rs ss ts None h g = record { second = refl; third = refl; out = (refl, refl) }
grow_trio R k site c d e x n rs ss ts (Some p) h g =
    grow_cell_trio R k site c d e x n rs ss ts p (content c p) (content d p) (content e p) h g (content_trio R c d e p h)

increment_trio : (R : ℕ → ℕ → ℕ → Type 0) → Closed R → (site : Site) (p : Designator) (rest : List Signed) (n : AccessKind) (c d e : Cells) → TrioCells R c d e
    → Tells (TrioCells R) (increment site c p rest n) (increment site d p rest n) (increment site e p rest n)
increment_trio R k site p rest n c d e h =
    bind (TrioTerms R) (TrioCells R) (inside (right_side p.name) (terms_of rest site c)) (inside (right_side p.name) (terms_of rest site d)) (inside (right_side p.name) (terms_of rest site e)) _ _ _ (inside_trio (TrioTerms R) (right_side p.name) _ _ _ (terms_trio R k rest site c d e h))
    (λ rs ss ts g. bind (Trios R) (TrioCells R) (values_of p.subscripts site c) (values_of p.subscripts site d) (values_of p.subscripts site e) _ _ _ (values_trio R k p.subscripts site c d e h)
    (λ vs ws us gs. at_subscripts rs ss ts g vs ws us (wholes_trio R vs ws us gs)))
  where
    at_subscripts : (rs ss ts : List (Bool × Dual)) → TrioTerms R rs ss ts → (vs ws us : List Value) → (whole_numbers ws ≡ whole_numbers vs) × (whole_numbers us ≡ whole_numbers vs)
        → Tells (TrioCells R) (increment_place site c p.name n rs (place_of site p.name (whole_numbers vs))) (increment_place site d p.name n ss (place_of site p.name (whole_numbers ws))) (increment_place site e p.name n ts (place_of site p.name (whole_numbers us)))
    at_subscripts rs ss ts g vs ws us q = rw (q.0, q.1) (grow_trio R k site c d e p.name n rs ss ts (place_of site p.name (whole_numbers vs)) h g)

assigned_trio : (R : ℕ → ℕ → ℕ → Type 0) → Closed R → (site : Site) (atomic : Bool) (p : Designator) (a : Expression) (o : Option (List Signed)) (c d e : Cells) → TrioCells R c d e
    → Tells (TrioCells R) (assignment_by site c atomic p a o) (assignment_by site d atomic p a o) (assignment_by site e atomic p a o)
assigned_trio R k site atomic p a None c d e h = plain_trio R k site p a c d e h
assigned_trio R k site atomic p a (Some rest) c d e h = increment_trio R k site p rest _ c d e h

-- ---- loops

step_trio : (R : ℕ → ℕ → ℕ → Type 0) → Closed R → (s : Option Expression) (site : Site) (c d e : Cells) → TrioCells R c d e → Tells (Trio R) (step_value s site c) (step_value s site d) (step_value s site e)
step_trio R k None site c d e h = pured (Trio R) _ _ _ (refl, refl)
step_trio R k (Some a) site c d e h = value_trio R k a site c d e h

outs_equal : {A X : Type 0} (r : Result A X) → Outs Equals r r r
outs_equal (Ok a) = (refl, refl)
outs_equal (Err x) = (refl, refl)

turns_of_trio : (R : ℕ → ℕ → ℕ → Type 0) → Closed R → (first last : Expression) (step : Option Expression) (site : Site) (c d e : Cells) → TrioCells R c d e
    → Tells Equals (turns_of first last step site c) (turns_of first last step site d) (turns_of first last step site e)
turns_of_trio R k first last step site c d e h =
    bind (Trio R) Equals (value_of first site c) (value_of first site d) (value_of first site e) _ _ _ (value_trio R k first site c d e h)
    (λ v w u g. bind (Trio R) Equals (value_of last site c) (value_of last site d) (value_of last site e) _ _ _ (value_trio R k last site c d e h)
    (λ v' w' u' g'. bind (Trio R) Equals (step_value step site c) (step_value step site d) (step_value step site e) _ _ _ (step_trio R k step site c d e h)
    (λ v'' w'' u'' g''. at_wholes (whole_trio R v w u g) (whole_trio R v' w' u' g') (whole_trio R v'' w'' u'' g''))))
  where
    themselves : (x y z : ℤ) → Tells Equals (turns_by x y z) (turns_by x y z) (turns_by x y z)
    themselves x y z = record { second = refl; third = refl; out = outs_equal (turns_by x y z).out }

    at_wholes : {a b c a' b' c' a'' b'' c'' : ℤ} → (b ≡ a) × (c ≡ a) → (b' ≡ a') × (c' ≡ a') → (b'' ≡ a'') × (c'' ≡ a'')
        → Tells Equals (turns_by a a' a'') (turns_by b b' b'') (turns_by c c' c'')
    at_wholes {a = a} {a' = a'} {a'' = a''} p q r = rw (p.0, p.1, q.0, q.1, r.0, r.1) (themselves a a' a'')

turns_trio : (R : ℕ → ℕ → ℕ → Type 0) (n : ℕ) (f : ℕ → Run) → ((i : ℕ) → Steady R (f i)) → Steady R (turns n f)
turns_trio R zero f k c d e h = pured (TrioCells R) c d e h
turns_trio R (suc n) f k c d e h = bind (TrioCells R) (TrioCells R) (turns n f c) (turns n f d) (turns n f e) _ _ _ (turns_trio R n f k c d e h) (λ a b g o. k n a b g o)

set_at_trio : (R : ℕ → ℕ → ℕ → Type 0) (o : Option ℕ) (v w u : Option Value) (c d e : Cells) → TrioCell R v w u → TrioCells R c d e → TrioCells R (set_at o v c) (set_at o w d) (set_at o u e)
set_at_trio R None v w u c d e g h = h
set_at_trio R (Some p) v w u c d e g h = set_trio R c d e p v w u h g

setting_trio : (R : ℕ → ℕ → ℕ → Type 0) (site : Site) (x : List ℕ) (z : ℤ) (f : Run) → Steady R f → Steady R (with_variable site x z f)
setting_trio R site x z f k c d e h =
    after_trio (TrioCells R) _ _ _ _ (k _ _ _ (set_at_trio R (place_of site x []) _ _ _ c d e (refl, refl) h))

unset_trio : (R : ℕ → ℕ → ℕ → Type 0) (site : Site) (xs : List (List ℕ)) (c d e : Cells) → TrioCells R c d e → TrioCells R (with_all_unset site xs c) (with_all_unset site xs d) (with_all_unset site xs e)
unset_trio R site [] c d e h = h
unset_trio R site (x ∷ xs) c d e h = unset_trio R site xs _ _ _ (set_at_trio R (place_of site x []) None None None c d e tt h)

content_at_trio : (R : ℕ → ℕ → ℕ → Type 0) (c d e : Cells) (o : Option ℕ) → TrioCells R c d e → TrioCell R (content_at c o) (content_at d o) (content_at e o)
content_at_trio R c d e None h = tt
content_at_trio R c d e (Some p) h = content_trio R c d e p h

private_words_trio : (R : ℕ → ℕ → ℕ → Type 0) (site : Site) (body : Statements) (xs : List (List ℕ)) (c d e : Cells) → TrioCells R c d e
    → (private_words site body xs d ≡ private_words site body xs c) × (private_words site body xs e ≡ private_words site body xs c)
private_words_trio R site body [] c d e h = (refl, refl)
private_words_trio R site body (x ∷ xs) c d e h =
    let q : (with_tangent 0 (content_at d (place_of site x [])) ≡ with_tangent 0 (content_at c (place_of site x []))) × (with_tangent 0 (content_at e (place_of site x [])) ≡ with_tangent 0 (content_at c (place_of site x []))) =
    told_trio R _ _ _ (content_at_trio R c d e (place_of site x []) h) in
    let r : (private_words site body xs d ≡ private_words site body xs c) × (private_words site body xs e ≡ private_words site body xs c) = private_words_trio R site body xs c d e h in
    (rw (q.0, r.0) refl, rw (q.1, r.1) refl)

private_noted_trio : (R : ℕ → ℕ → ℕ → Type 0) (site : Site) (body : Statements) (xs : List (List ℕ)) (c d e : Cells) → TrioCells R c d e
    → Tells (TrioCells R) (with_log (private_words site body xs c) c) (with_log (private_words site body xs d) d) (with_log (private_words site body xs e) e)
private_noted_trio R site body xs c d e h =
    let r : (private_words site body xs d ≡ private_words site body xs c) × (private_words site body xs e ≡ private_words site body xs c) = private_words_trio R site body xs c d e h in
    record { second = r.0; third = r.1; out = h }

one_turn_trio : (R : ℕ → ℕ → ℕ → Type 0) (site : Site) (var : List ℕ) (t : IterationCount) (body : Site → Run) → ((s : Site) → Steady R (body s)) → (i : ℕ) → Steady R (one_turn site var t body i)
one_turn_trio R site var t body k i c d e h = inside_trio (TrioCells R) (turn i) _ _ _ (setting_trio R site var (value_at t i) (body (in_turn site var)) (k (in_turn site var)) c d e h)

setting_all_trio : (R : ℕ → ℕ → ℕ → Type 0) (site : Site) (hs : Heads) (i : ℕ) (f : Run) → Steady R f → Steady R (with_variables site hs i f)
setting_all_trio R site [] i f k c d e h = k c d e h
setting_all_trio R site (x ∷ []) i f k c d e h = setting_trio R site x.0 (value_at x.1 i) f k c d e h
setting_all_trio R site (x ∷ y ∷ hs) i f k c d e h =
    setting_trio R site x.0 (value_at x.1 (i / iterations (y ∷ hs))) (with_variables site (y ∷ hs) (i % iterations (y ∷ hs)) f)
    (setting_all_trio R site (y ∷ hs) (i % iterations (y ∷ hs)) f k) c d e h

further_trio : (R : ℕ → ℕ → ℕ → Type 0) → Closed R → (o : Option Head) (site : Site) (c d e : Cells) → TrioCells R c d e → Tells Equals (further_turns o site c) (further_turns o site d) (further_turns o site e)
further_trio R k None site c d e h = pured Equals [] [] [] (refl, refl)
further_trio R k (Some x) site c d e h =
    bind Equals Equals _ _ _ _ _ _ (line_trio Equals x.line _ _ _ (turns_of_trio R k x.first x.last x.step site c d e h))
    (λ t u v o. rw (o.0, o.1) (pured Equals ((x.var, t) ∷ []) ((x.var, t) ∷ []) ((x.var, t) ∷ []) (refl, refl)))

heads_trio : (R : ℕ → ℕ → ℕ → Type 0) → Closed R → (x : Head) (o : Option Head) (site : Site) (c d e : Cells) → TrioCells R c d e → Tells Equals (heads_of x o site c) (heads_of x o site d) (heads_of x o site e)
heads_trio R k x o site c d e h =
    bind Equals Equals _ _ _ _ _ _ (line_trio Equals x.line _ _ _ (turns_of_trio R k x.first x.last x.step site c d e h))
    (λ t u v p. rw (p.0, p.1) (bind Equals Equals _ _ _ _ _ _ (further_trio R k o site c d e h)
    (λ a b g q. rw (q.0, q.1) (pured Equals ((x.var, t) ∷ a) ((x.var, t) ∷ a) ((x.var, t) ∷ a) (refl, refl)))))

one_iteration_trio : (R : ℕ → ℕ → ℕ → Type 0) (site : Site) (directive : Directive) (var : List ℕ) (t : Heads) (tree : Statements) (body : Site → Run) → ((s : Site) → Steady R (body s)) → (i : ℕ) → Steady R (one_iteration site directive var t tree body i)
one_iteration_trio R site directive var t tree body k i c d e h =
    let names : List (List ℕ) = private_names site directive var tree in
    inside_trio (TrioCells R) (iteration i) _ _ _
    (bind (TrioCells R) (TrioCells R) _ _ _ _ _ _
    (after_trio (TrioCells R) (unset_log site names) _ _ _
    (setting_all_trio R site t i (body (in_iteration site directive var tree)) (k (in_iteration site directive var tree)) _ _ _ (unset_trio R site names c d e h)))
    (λ a b g o. private_noted_trio R site tree names a b g o))

run_turns_trio : (R : ℕ → ℕ → ℕ → Type 0) (var : List ℕ) (body : Site → Run) → ((s : Site) → Steady R (body s)) → (site : Site) (t : IterationCount) → Steady R (run_turns var body site t)
run_turns_trio R var body k site t c d e h =
    bind (TrioCells R) (TrioCells R) _ _ _ _ _ _ (turns_trio R t.count (one_turn site var t body) (one_turn_trio R site var t body k) c d e h) (λ a b g o. noted_trio R _ a b g o)

run_parallel_trio : (R : ℕ → ℕ → ℕ → Type 0) (line : ℕ) (directive : Directive) (var : List ℕ) (tree : Statements) (body : Site → Run) → ((s : Site) → Steady R (body s)) → (site : Site) (hs : Heads)
    → Steady R (run_parallel line directive var tree body site hs)
run_parallel_trio R line directive var tree body k site hs c d e h =
    bind (TrioCells R) (TrioCells R) _ _ _ _ _ _
    (inside_trio (TrioCells R) rounds _ _ _ (turns_trio R (iterations hs) (one_iteration site directive var hs tree body) (one_iteration_trio R site directive var hs tree body k) c d e h))
    (λ a b g o. noted_trio R _ a b g o)

-- ---- statements

chosen_trio : (R : ℕ → ℕ → ℕ → Type 0) (p q r : Bool) (f g : Run) → Equals p q r → Steady R f → Steady R g → (c d e : Cells) → TrioCells R c d e
    → Tells (TrioCells R) (choice p f g c) (choice q f g d) (choice r f g e)
chosen_trio R p q r f g o k l c d e h = rw (o.0, o.1) (by_test p)
  where
    by_test : (b : Bool) → Tells (TrioCells R) (choice b f g c) (choice b f g d) (choice b f g e)
    by_test true = k c d e h
    by_test false = l c d e h

either_steady : (R : ℕ → ℕ → ℕ → Type 0) (b : Bool) (f g : Site → Run) → ((s : Site) → Steady R (f s)) → ((s : Site) → Steady R (g s)) → (s : Site) → Steady R ((if b then f else g) s)
either_steady R true f g k l s = k s
either_steady R false f g k l s = l s

in_arm_trio : (R : ℕ → ℕ → ℕ → Type 0) (m : ℕ) (f : Run) → Steady R f → Steady R (in_arm m f)
in_arm_trio R m f k c d e h = inside_trio (TrioCells R) (taken m) _ _ _ (bind (TrioCells R) (TrioCells R) _ _ _ _ _ _ (k c d e h) (λ a b g o. noted_trio R _ a b g o))

mutual
  pub run_trio : (R : ℕ → ℕ → ℕ → Type 0) → Closed R → (s : Statement) (site : Site) → Steady R (run s site)
  run_trio R k (assignment line atomic p a) site c d e h =
      inside_trio (TrioCells R) instance _ _ _ (line_trio (TrioCells R) line _ _ _ (assigned_trio R k site atomic p a (increment_terms site.ring p a) c d e h))
  run_trio R k (branch line arms other) site c d e h =
      inside_trio (TrioCells R) instance _ _ _ (arms_trio R k arms line 0 (run_all other) (λ s. run_all_trio R k other s) site c d e h)
  run_trio R k (loop line number None var first last step body) site c d e h =
      inside_trio (TrioCells R) instance _ _ _
      (bind Equals (TrioCells R) _ _ _ _ _ _ (line_trio Equals line _ _ _ (turns_of_trio R k first last step site c d e h))
      (λ t u v o. rw (o.0, o.1) (run_turns_trio R var (run_all body) (λ s. run_all_trio R k body s) site t c d e h)))
  run_trio R k (loop line number (Some directive) var first last step body) site c d e h =
      inside_trio (TrioCells R) instance _ _ _
      (bind Equals (TrioCells R) _ _ _ _ _ _ (heads_trio R k (record { line = line; var = var; first = first; last = last; step = step }) (further_head directive body) site c d e h)
      (λ t u v o. rw (o.0, o.1) (run_parallel_trio R line directive var body (if is_nest directive body then run_inner body else run_all body)
      (either_steady R (is_nest directive body) (run_inner body) (run_all body) (λ s. run_inner_trio R k body s) (λ s. run_all_trio R k body s)) site t c d e h)))

  pub run_all_trio : (R : ℕ → ℕ → ℕ → Type 0) → Closed R → (ss : Statements) (site : Site) → Steady R (run_all ss site)
  run_all_trio R k no_statements site c d e h = pured (TrioCells R) c d e h
  run_all_trio R k (statement s ss) site c d e h =
      bind (TrioCells R) (TrioCells R) (run s site c) (run s site d) (run s site e) _ _ _ (run_trio R k s site c d e h) (λ a b g o. run_all_trio R k ss site a b g o)

  run_inner_trio : (R : ℕ → ℕ → ℕ → Type 0) → Closed R → (ss : Statements) (site : Site) → Steady R (run_inner ss site)
  run_inner_trio R k no_statements site c d e h = pured (TrioCells R) c d e h
  run_inner_trio R k (statement s ss) site c d e h = run_within_trio R k s site c d e h

  run_within_trio : (R : ℕ → ℕ → ℕ → Type 0) → Closed R → (s : Statement) (site : Site) → Steady R (run_within s site)
  run_within_trio R k (assignment line atomic p a) site c d e h = pured (TrioCells R) c d e h
  run_within_trio R k (branch line arms other) site c d e h = pured (TrioCells R) c d e h
  run_within_trio R k (loop line number directive var first last step body) site c d e h = run_all_trio R k body site c d e h

  pub arms_trio : (R : ℕ → ℕ → ℕ → Type 0) → Closed R → (arms : Arms) (line m : ℕ) (other : Site → Run) → ((s : Site) → Steady R (other s)) → (site : Site) → Steady R (run_arms arms line m other site)
  arms_trio R k no_arms line m other l site c d e h = in_arm_trio R m (other site) (l site) c d e h
  arms_trio R k (arm test body arms) line m other l site c d e h =
      bind Equals (TrioCells R) _ _ _ _ _ _ (inside_trio Equals (condition m) _ _ _ (line_trio Equals line _ _ _ (holds_trio R k test site c d e h)))
      (λ p q r o. chosen_trio R p q r (in_arm m (run_all body site)) (run_arms arms line (m + 1) other site) o
      (in_arm_trio R m (run_all body site) (λ a b g w. run_all_trio R k body site a b g w)) (λ a b g w. arms_trio R k arms line (m + 1) other l site a b g w) c d e h)
