-- Two runs over cells that are equal modulo a width.
use Rattle.std.specs.Prelude.{◌≡◌, ℕ, zero, suc, ◌+◌, ◌/◌, ◌%◌, ℤ, pos, Bool, true, false, not, ◌&&◌, ◌||◌, if◌then◌else◌, List, [], ◌∷◌, Option, Some, None, Result, Ok, Err, refl, slice_set}
use Rattle.std.proofs.Common.{ap, sym, ◌∙◌}
use Rattle.ring_core.specs.declared.ring.Width.{Width}
use Rattle.fl_ast.specs.declared.kind.Kind.{Kind}
use Rattle.fl_ast.specs.declared.kind.Kind.TheVariants as kind
use Rattle.fl_ast.specs.declared.kind.RelOp.{RelOp}
use Rattle.fl_ast.specs.declared.kind.Fun.{Fun}
use Rattle.fl_ast.specs.declared.kind.Fun.TheVariants.{Max, Min, Abs, Mod}
use Rattle.fl_ast.specs.declared.directive.Directive.{Directive}
use Rattle.fl_ast.specs.Tree.{Expression, literal, get, minus, binary, power, call, Expressions, no_expressions, expression, Designator, Condition, relation, negation, conjunction, disjunction, Statement, assignment, branch, loop, Statements, no_statements, statement, Arms, no_arms, arm}
use Rattle.fl_types.specs.declared.access.AccessKind.{AccessKind}
use Rattle.fl_types.specs.declared.access.AccessKind.TheVariants.{Read, Write}
use Rattle.fl_types.specs.Increment.{Signed, increment_terms}
use Rattle.fl_types.specs.Nests.{Head, is_nest, further_head}
use Rattle.fl_types.specs.Sharing.{assigns_in}
use Rattle.meaning.specs.declared.value.Dual.{Dual}
use Rattle.meaning.specs.declared.value.Value.{Value}
use Rattle.meaning.specs.declared.value.Value.TheVariants.{Index, Ring}
use Rattle.meaning.specs.declared.value.Cause.{Cause}
use Rattle.meaning.specs.declared.value.TrapAt.{TrapAt}
use Rattle.meaning.specs.declared.value.IterationCount.{IterationCount}
use Rattle.meaning.specs.Values.{Found, dual_add, dual_sub, as_dual, as_kind, whole_number, whole_numbers, literal_value, binary_result, negation_result, power_result, remainder, on_one, on_two, larger_result, smaller_result, absolute_result, call_result, compares, relates}
use Rattle.meaning.specs.Logs.{Log, silence, single, touched, sets, pushes, ends, both, instance, right_side, rounds, turn, iteration, condition, taken, Passage, Traced, pure, lift, after, continuation, ◌>>=◌, inside, at_line, at_line_by}
use Rattle.meaning.specs.Sites.{Cells, with_tangent, Site, in_turn, in_iteration, place_of, kind_of}
use Rattle.meaning.specs.Expressions.{after_touch, content, read_cell, read_place, read, value_of, values_of, holds}
use Rattle.meaning.specs.Statements.{Run, with_log, store_at, after_push, put, plain_assignment, terms_of, incremented_dual, increment_cell, increment_place, increment, assignment_by, turns_by, step_value, turns_of, value_at, set_at, with_variable, turns, private_names, with_all_unset, unset_log, content_at, private_words, one_turn, Heads, iterations, with_variables, words_of_all, loop_words, further_turns, heads_of, one_iteration, run_turns, run_parallel, choice, in_arm, run, run_all, run_inner, run_within, run_arms}
use Rattle.meaning.specs.Widths.{reduced_value, reduced_found, reduced_cell, reduced_cells, reduced_out, reduced_log, RunsRespect, RunsRespectWidths}
use Rattle.meaning.proofs.Reducing.{Narrow, narrow, SameDual, SameValue, dual_same, same_of, as_same, add_duals, sub_duals, binary_same, negated_same, power_same, larger_same, smaller_same, absolute_same, ranks_same}

abbrev Outs : {X A : Type 0} → (A → A → Type 0) → Result A X → Result A X → Type 0
Outs Q (Ok a) (Ok b) = Q a b
Outs Q (Err x) (Err y) = x ≡ y
Outs Q (Ok a) (Err y) = ⊥
Outs Q (Err x) (Ok b) = ⊥

record Tells {X A : Type 0} (w : Width) (Q : A → A → Type 0) (t u : Traced X A) : Type 0 where
  log : reduced_log w t.log ≡ reduced_log w u.log
  out : Outs Q t.out u.out

bind_by : {X A B : Type 0} (w : Width) (P : A → A → Type 0) (Q : B → B → Type 0) (l m : Log) (r s : Result A X) (f g : A → Traced X B)
    → reduced_log w l ≡ reduced_log w m → Outs P r s → ((a b : A) → P a b → Tells w Q (f a) (g b)) → Tells w Q (continuation l r f) (continuation m s g)
bind_by w P Q l m (Ok a) (Ok b) f g e o k = let h : Tells w Q (f a) (g b) = k a b o in record { log = rw (e, h.log) refl; out = h.out }
bind_by w P Q l m (Err x) (Err y) f g e o k = record { log = e; out = o }
bind_by w P Q l m (Ok a) (Err y) f g e o k = absurd o
bind_by w P Q l m (Err x) (Ok b) f g e o k = absurd o

bind : {X A B : Type 0} (w : Width) (P : A → A → Type 0) (Q : B → B → Type 0) (t u : Traced X A) (f g : A → Traced X B)
    → Tells w P t u → ((a b : A) → P a b → Tells w Q (f a) (g b)) → Tells w Q (t >>= f) (u >>= g)
bind w P Q t u f g h k = bind_by w P Q t.log u.log t.out u.out f g h.log h.out k

lifted : {X A : Type 0} (w : Width) (Q : A → A → Type 0) (r s : Result A X) → Outs Q r s → Tells w Q (lift r) (lift s)
lifted w Q r s o = record { log = refl; out = o }

pured : {X A : Type 0} (w : Width) (Q : A → A → Type 0) (a b : A) → Q a b → Tells {X = X} w Q (pure a) (pure b)
pured w Q a b o = record { log = refl; out = o }

inside_two : {X A : Type 0} (w : Width) (Q : A → A → Type 0) (p : Passage) (t u : Traced X A) → Tells w Q t u → Tells w Q (inside p t) (inside p u)
inside_two w Q p t u h = record { log = rw h.log refl; out = h.out }

after_two : {X A : Type 0} (w : Width) (Q : A → A → Type 0) (l m : Log) (t u : Traced X A) → reduced_log w l ≡ reduced_log w m → Tells w Q t u → Tells w Q (after l t) (after m u)
after_two w Q l m t u e h = record { log = rw (e, h.log) refl; out = h.out }

line_by : {A : Type 0} (w : Width) (Q : A → A → Type 0) (line : ℕ) (l m : Log) (r s : Result A Cause) → reduced_log w l ≡ reduced_log w m → Outs Q r s → Tells w Q (at_line_by line l r) (at_line_by line m s)
line_by w Q line l m (Ok a) (Ok b) e o = record { log = e; out = o }
line_by w Q line l m (Err x) (Err y) e o = record { log = rw (e, o) refl; out = rw o refl }
line_by w Q line l m (Ok a) (Err y) e o = absurd o
line_by w Q line l m (Err x) (Ok b) e o = absurd o

line_two : {A : Type 0} (w : Width) (Q : A → A → Type 0) (line : ℕ) (t u : Traced Cause A) → Tells w Q t u → Tells w Q (at_line line t) (at_line line u)
line_two w Q line t u h = line_by w Q line t.log u.log t.out u.out h.log h.out

-- ---- relations

abbrev Like : Width → Value → Value → Type 0
Like w a b = reduced_value w a ≡ reduced_value w b

abbrev Likes : Width → List Value → List Value → Type 0
Likes w [] [] = Unit {0}
Likes w (a ∷ as') (b ∷ bs) = Like w a b × Likes w as' bs
Likes w [] (b ∷ bs) = ⊥
Likes w (a ∷ as') [] = ⊥

abbrev LikeCells : Width → Cells → Cells → Type 0
LikeCells w c d = reduced_cells w c ≡ reduced_cells w d

abbrev Equal : {A : Type 0} → A → A → Type 0
Equal a b = a ≡ b

found : (w : Width) (r s : Found) → reduced_found w r ≡ reduced_found w s → Outs (Like w) r s
found w (Ok a) (Ok b) e = let q : reduced_value w a ≡ reduced_value w b = cc in q
found w (Err x) (Err y) e = let q : x ≡ y = cc in q
found w (Ok a) (Err y) e = absurd (cc)
found w (Err x) (Ok b) e = absurd (cc)

whole_two : (w : Width) (a b : Value) → Like w a b → whole_number a ≡ whole_number b
whole_two w a b h = by_value a b (same_of w a b h)
  where
    by_value : (a b : Value) → SameValue w a b → whole_number a ≡ whole_number b
    by_value (Index x) (Index y) g = g
    by_value (Ring d) (Ring e) g = refl
    by_value (Index x) (Ring e) g = absurd g
    by_value (Ring d) (Index y) g = absurd g

wholes_two : (w : Width) (vs us : List Value) → Likes w vs us → whole_numbers vs ≡ whole_numbers us
wholes_two w [] [] h = refl
wholes_two w (a ∷ vs) (b ∷ us) h = rw (whole_two w a b h.0, wholes_two w vs us h.1) refl
wholes_two w [] (b ∷ us) h = absurd h
wholes_two w (a ∷ vs) [] h = absurd h

content_reduced : (w : Width) (c : Cells) (p : ℕ) → reduced_cell w (content c p) ≡ content (reduced_cells w c) p
content_reduced w [] p = refl
content_reduced w (a ∷ c) zero = refl
content_reduced w (a ∷ c) (suc p) = content_reduced w c p

content_two : (w : Width) (c d : Cells) (p : ℕ) → LikeCells w c d → reduced_cell w (content c p) ≡ reduced_cell w (content d p)
content_two w c d p h = content_reduced w c p ∙ ap (λ (s : Cells). content s p) h ∙ sym (content_reduced w d p)

-- ---- expressions

touching_two : {A : Type 0} (w : Width) (Q : A → A → Type 0) (s : Site) (x : List ℕ) (p : ℕ) (k : AccessKind) (t u : Traced Cause A) → Tells w Q t u → Tells w Q (after_touch s x p k t) (after_touch s x p k u)
touching_two w Q s x p k t u h = by_test (s.accessed x)
  where
    by_test : (b : Bool) → Tells w Q (if b then after (touched p k) t else t) (if b then after (touched p k) u else u)
    by_test true = record { log = rw h.log refl; out = h.out }
    by_test false = h

read_cell_two : (w : Width) (s : Site) (x : List ℕ) (p : ℕ) (a b : Option Value) → reduced_cell w a ≡ reduced_cell w b → Tells w (Like w) (read_cell s x p a) (read_cell s x p b)
read_cell_two w s x p None None h = record { log = refl; out = refl }
read_cell_two w s x p (Some a) (Some b) h = let q : reduced_value w a ≡ reduced_value w b = cc in touching_two w (Like w) s x p Read (pure a) (pure b) (pured w (Like w) a b q)
read_cell_two w s x p None (Some b) h = absurd (cc)
read_cell_two w s x p (Some a) None h = absurd (cc)

read_place_two : (w : Width) (s : Site) (c d : Cells) (x : List ℕ) (o : Option ℕ) → LikeCells w c d → Tells w (Like w) (read_place s c x o) (read_place s d x o)
read_place_two w s c d x None h = record { log = refl; out = refl }
read_place_two w s c d x (Some p) h = read_cell_two w s x p (content c p) (content d p) (content_two w c d p h)

read_two : (w : Width) (s : Site) (c d : Cells) (x : List ℕ) (vs us : List Value) → LikeCells w c d → Likes w vs us → Tells w (Like w) (read s c x vs) (read s d x us)
read_two w s c d x vs us h g = rw (wholes_two w vs us g) (read_place_two w s c d x (place_of s x (whole_numbers us)) h)

remainder_two : (w : Width) (a b c d : Value) → SameValue w a b → SameValue w c d → reduced_found w (remainder a c) ≡ reduced_found w (remainder b d)
remainder_two w (Index x) (Index y) (Index z) (Index t) h g = rw (h, g) refl
remainder_two w (Index x) (Index y) (Ring c) (Ring d) h g = refl
remainder_two w (Ring a) (Ring b) c d h g = refl
remainder_two w (Index x) (Index y) (Index z) (Ring d) h g = absurd g
remainder_two w (Index x) (Index y) (Ring c) (Index t) h g = absurd g
remainder_two w (Index x) (Ring b) c d h g = absurd h
remainder_two w (Ring a) (Index y) c d h g = absurd h

one_two : (w : Width) (f : Value → Found) → ((a b : Value) → Like w a b → reduced_found w (f a) ≡ reduced_found w (f b)) → (vs us : List Value) → Likes w vs us → reduced_found w (on_one f vs) ≡ reduced_found w (on_one f us)
one_two w f k [] [] h = refl
one_two w f k (a ∷ []) (b ∷ []) h = k a b h.0
one_two w f k (a ∷ a' ∷ vs) (b ∷ b' ∷ us) h = refl
one_two w f k [] (b ∷ us) h = absurd h
one_two w f k (a ∷ vs) [] h = absurd h
one_two w f k (a ∷ []) (b ∷ b' ∷ us) h = absurd h.1
one_two w f k (a ∷ a' ∷ vs) (b ∷ []) h = absurd h.1

two_two : (w : Width) (f : Value → Value → Found) → ((a b c d : Value) → Like w a b → Like w c d → reduced_found w (f a c) ≡ reduced_found w (f b d)) → (vs us : List Value) → Likes w vs us
    → reduced_found w (on_two f vs) ≡ reduced_found w (on_two f us)
two_two w f k [] [] h = refl
two_two w f k (a ∷ []) (b ∷ []) h = refl
two_two w f k (a ∷ c ∷ []) (b ∷ d ∷ []) h = k a b c d h.0 h.1.0
two_two w f k (a ∷ c ∷ e ∷ vs) (b ∷ d ∷ g ∷ us) h = refl
two_two w f k [] (b ∷ us) h = absurd h
two_two w f k (a ∷ vs) [] h = absurd h
two_two w f k (a ∷ []) (b ∷ d ∷ us) h = absurd h.1
two_two w f k (a ∷ c ∷ vs) (b ∷ []) h = absurd h.1
two_two w f k (a ∷ c ∷ []) (b ∷ d ∷ g ∷ us) h = absurd h.1.1
two_two w f k (a ∷ c ∷ e ∷ vs) (b ∷ d ∷ []) h = absurd h.1.1

call_two : (w : Width) → Narrow w → (f : Fun) (vs us : List Value) → Likes w vs us → reduced_found w (call_result w f vs) ≡ reduced_found w (call_result w f us)
call_two w k Max vs us h = two_two w (larger_result w) (larger_same w k) vs us h
call_two w k Min vs us h = two_two w (smaller_result w) (smaller_same w k) vs us h
call_two w k Abs vs us h = one_two w (absolute_result w) (absolute_same w k) vs us h
call_two w k Mod vs us h = two_two w remainder (λ a b c d p q. remainder_two w a b c d (same_of w a b p) (same_of w c d q)) vs us h

mutual
  value_two : (w : Width) → Narrow w → (a : Expression) (s : Site) → s.width ≡ w → (c d : Cells) → LikeCells w c d → Tells w (Like w) (value_of a s c) (value_of a s d)
  value_two w k (literal n z) s e c d h = lifted w (Like w) (literal_value n z) (literal_value n z) (found w (literal_value n z) (literal_value n z) refl)
  value_two w k (get x ss) s e c d h =
      bind w (Likes w) (Like w) (values_of ss s c) (values_of ss s d) (read s c x) (read s d x) (values_two w k ss s e c d h) (λ vs us g. read_two w s c d x vs us h g)
  value_two w k (minus a) s e c d h =
      bind w (Like w) (Like w) (value_of a s c) (value_of a s d) _ _ (value_two w k a s e c d h) (λ v u g. lifted w (Like w) (negation_result v) (negation_result u) (found w (negation_result v) (negation_result u) (negated_same w k v u (same_of w v u g))))
  value_two w k (binary op a b) s e c d h =
      bind w (Like w) (Like w) (value_of a s c) (value_of a s d) _ _ (value_two w k a s e c d h)
      (λ v u g. bind w (Like w) (Like w) (value_of b s c) (value_of b s d) _ _ (value_two w k b s e c d h)
      (λ v' u' g'. lifted w (Like w) (binary_result op v v') (binary_result op u u') (found w (binary_result op v v') (binary_result op u u') (binary_same w k op v u v' u' (same_of w v u g) (same_of w v' u' g')))))
  value_two w k (power a n) s e c d h =
      bind w (Like w) (Like w) (value_of a s c) (value_of a s d) _ _ (value_two w k a s e c d h) (λ v u g. lifted w (Like w) (power_result v n) (power_result u n) (found w (power_result v n) (power_result u n) (power_same w k v u n (same_of w v u g))))
  value_two w k (call f ss) s e c d h =
      bind w (Likes w) (Like w) (values_of ss s c) (values_of ss s d) _ _ (values_two w k ss s e c d h)
      (λ vs us g. rw e (lifted w (Like w) (call_result w f vs) (call_result w f us) (found w (call_result w f vs) (call_result w f us) (call_two w k f vs us g))))

  values_two : (w : Width) → Narrow w → (ss : Expressions) (s : Site) → s.width ≡ w → (c d : Cells) → LikeCells w c d → Tells w (Likes w) (values_of ss s c) (values_of ss s d)
  values_two w k no_expressions s e c d h = record { log = refl; out = tt }
  values_two w k (expression a ss) s e c d h =
      bind w (Like w) (Likes w) (value_of a s c) (value_of a s d) _ _ (value_two w k a s e c d h)
      (λ v u g. bind w (Likes w) (Likes w) (values_of ss s c) (values_of ss s d) _ _ (values_two w k ss s e c d h) (λ vs us gs. pured w (Likes w) (v ∷ vs) (u ∷ us) (g, gs)))

relates_two : (w : Width) → Narrow w → (op : RelOp) (a b c d : Value) → Like w a b → Like w c d → relates w op a c ≡ relates w op b d
relates_two w k op a b c d h g = ap (λ (r : ℤ × ℤ). compares op r.0 r.1) (ranks_same w k a b c d (same_of w a b h) (same_of w c d g))

holds_two : (w : Width) → Narrow w → (a : Condition) (s : Site) → s.width ≡ w → (c d : Cells) → LikeCells w c d → Tells w Equal (holds a s c) (holds a s d)
holds_two w k (relation op a b) s e c d h =
    bind w (Like w) Equal (value_of a s c) (value_of a s d) _ _ (value_two w k a s e c d h)
    (λ v u g. bind w (Like w) Equal (value_of b s c) (value_of b s d) _ _ (value_two w k b s e c d h) (λ v' u' g'. rw e (pured w Equal (relates w op v v') (relates w op u u') (relates_two w k op v u v' u' g g'))))
holds_two w k (negation a) s e c d h = bind w Equal Equal (holds a s c) (holds a s d) _ _ (holds_two w k a s e c d h) (λ p q g. pured w Equal (not p) (not q) (ap not g))
holds_two w k (conjunction a b) s e c d h =
    bind w Equal Equal (holds a s c) (holds a s d) _ _ (holds_two w k a s e c d h)
    (λ p q g. bind w Equal Equal (holds b s c) (holds b s d) _ _ (holds_two w k b s e c d h) (λ p' q' g'. pured w Equal (p && p') (q && q') (rw (g, g') refl)))
holds_two w k (disjunction a b) s e c d h =
    bind w Equal Equal (holds a s c) (holds a s d) _ _ (holds_two w k a s e c d h)
    (λ p q g. bind w Equal Equal (holds b s c) (holds b s d) _ _ (holds_two w k b s e c d h) (λ p' q' g'. pured w Equal (p || p') (q || q') (rw (g, g') refl)))

-- ---- assignments

pointed_two : (w : Width) (a b : Value) → Like w a b → reduced_cell w (with_tangent 0 (Some a)) ≡ reduced_cell w (with_tangent 0 (Some b))
pointed_two w a b h = by_value a b (same_of w a b h)
  where
    by_value : (a b : Value) → SameValue w a b → reduced_cell w (with_tangent 0 (Some a)) ≡ reduced_cell w (with_tangent 0 (Some b))
    by_value (Index x) (Index y) g = rw g refl
    by_value (Ring d) (Ring e) g = rw g.value refl
    by_value (Index x) (Ring e) g = absurd g
    by_value (Ring d) (Index y) g = absurd g

-- contents without tangents
told_two : (w : Width) (a b : Option Value) → reduced_cell w a ≡ reduced_cell w b → reduced_cell w (with_tangent 0 a) ≡ reduced_cell w (with_tangent 0 b)
told_two w None None h = refl
told_two w (Some a) (Some b) h = let q : reduced_value w a ≡ reduced_value w b = cc in pointed_two w a b q
told_two w None (Some b) h = absurd (cc)
told_two w (Some a) None h = absurd (cc)

converted_two : (w : Width) (k : Kind) (a b : Value) → Like w a b → Like w (as_kind k a) (as_kind k b)
converted_two w kind.Ring a b h = ap Ring (dual_same w (as_dual a) (as_dual b) (as_same w a b (same_of w a b h)))
converted_two w kind.Index a b h = h

set_reduced : (w : Width) (c : Cells) (p : ℕ) (v : Option Value) → reduced_cells w (slice_set c p v) ≡ slice_set (reduced_cells w c) p (reduced_cell w v)
set_reduced w [] p v = refl
set_reduced w (a ∷ c) zero v = refl
set_reduced w (a ∷ c) (suc p) v = ap (λ (s : Cells). reduced_cell w a ∷ s) (set_reduced w c p v)

set_two : (w : Width) (c d : Cells) (p : ℕ) (v u : Option Value) → LikeCells w c d → reduced_cell w v ≡ reduced_cell w u → LikeCells w (slice_set c p v) (slice_set d p u)
set_two w c d p v u h g =
    set_reduced w c p v ∙ (ap (λ (s : Cells). slice_set s p (reduced_cell w v)) h ∙ ap (slice_set (reduced_cells w d) p) g) ∙ sym (set_reduced w d p u)

stored_two : (w : Width) (c d : Cells) (p : ℕ) (v u : Value) → LikeCells w c d → Like w v u → Tells w (LikeCells w) (store_at c p v) (store_at d p u)
stored_two w c d p v u h g = record { log = ap (sets p) (pointed_two w v u g); out = set_two w c d p (Some v) (Some u) h (ap Some g) }

saving_two : (w : Width) (s : Site) (x : List ℕ) (v u : Option Value) (t r : Traced Cause Cells) → reduced_cell w v ≡ reduced_cell w u → Tells w (LikeCells w) t r → Tells w (LikeCells w) (after_push s x v t) (after_push s x u r)
saving_two w s x v u t r g h = by_test (s.pushed x)
  where
    by_test : (b : Bool) → Tells w (LikeCells w) (if b then after (single (pushes (with_tangent 0 v))) t else t) (if b then after (single (pushes (with_tangent 0 u))) r else r)
    by_test true = after_two w (LikeCells w) (single (pushes (with_tangent 0 v))) (single (pushes (with_tangent 0 u))) t r (ap (λ (c : Option Value). single (pushes c)) (told_two w v u g)) h
    by_test false = h

put_two : (w : Width) (s : Site) (c d : Cells) (x : List ℕ) (v u : Value) (o : Option ℕ) → LikeCells w c d → Like w v u → Tells w (LikeCells w) (put s c x v o) (put s d x u o)
put_two w s c d x v u None h g = record { log = refl; out = refl }
put_two w s c d x v u (Some p) h g =
    let a : Value = as_kind (kind_of s x) v in
    let b : Value = as_kind (kind_of s x) u in
    touching_two w (LikeCells w) s x p Write (after_push s x (content c p) (store_at c p a)) (after_push s x (content d p) (store_at d p b))
    (saving_two w s x (content c p) (content d p) (store_at c p a) (store_at d p b) (content_two w c d p h) (stored_two w c d p a b h (converted_two w (kind_of s x) v u g)))

put_at_two : (w : Width) (s : Site) (c d : Cells) (x : List ℕ) (v u : Value) (vs us : List Value) → LikeCells w c d → Like w v u → Likes w vs us
    → Tells w (LikeCells w) (put s c x v (place_of s x (whole_numbers vs))) (put s d x u (place_of s x (whole_numbers us)))
put_at_two w s c d x v u vs us h g gs = rw (wholes_two w vs us gs) (put_two w s c d x v u (place_of s x (whole_numbers us)) h g)

plain_two : (w : Width) → Narrow w → (s : Site) → s.width ≡ w → (p : Designator) (a : Expression) (c d : Cells) → LikeCells w c d → Tells w (LikeCells w) (plain_assignment s c p a) (plain_assignment s d p a)
plain_two w k s e p a c d h =
    bind w (Like w) (LikeCells w) (inside (right_side p.name) (value_of a s c)) (inside (right_side p.name) (value_of a s d)) _ _
    (inside_two w (Like w) (right_side p.name) (value_of a s c) (value_of a s d) (value_two w k a s e c d h))
    (λ v u g. bind w (Likes w) (LikeCells w) (values_of p.subscripts s c) (values_of p.subscripts s d) _ _ (values_two w k p.subscripts s e c d h) (λ vs us gs. put_at_two w s c d p.name v u vs us h g gs))

abbrev LikeTerms : Width → List (Bool × Dual) → List (Bool × Dual) → Type 0
LikeTerms w [] [] = Unit {0}
LikeTerms w (a ∷ as') (b ∷ bs) = (a.0 ≡ b.0) × SameDual w a.1 b.1 × LikeTerms w as' bs
LikeTerms w [] (b ∷ bs) = ⊥
LikeTerms w (a ∷ as') [] = ⊥

terms_two : (w : Width) → Narrow w → (rs : List Signed) (s : Site) → s.width ≡ w → (c d : Cells) → LikeCells w c d → Tells w (LikeTerms w) (terms_of rs s c) (terms_of rs s d)
terms_two w k [] s e c d h = record { log = refl; out = tt }
terms_two w k (r ∷ rs) s e c d h =
    bind w (Like w) (LikeTerms w) (value_of r.1 s c) (value_of r.1 s d) _ _ (value_two w k r.1 s e c d h)
    (λ v u g. bind w (LikeTerms w) (LikeTerms w) (terms_of rs s c) (terms_of rs s d) _ _ (terms_two w k rs s e c d h)
    (λ as' bs gs. pured w (LikeTerms w) ((r.0, as_dual v) ∷ as') ((r.0, as_dual u) ∷ bs) (refl, as_same w v u (same_of w v u g), gs)))

pick_two : (w : Width) → Narrow w → (t : Bool) (a b c d : Dual) → SameDual w a b → SameDual w c d → SameDual w (if t then dual_sub a c else dual_add a c) (if t then dual_sub b d else dual_add b d)
pick_two w k true a b c d h g = sub_duals w k a b c d h g
pick_two w k false a b c d h g = add_duals w k a b c d h g

grown_two : (w : Width) → Narrow w → (rs ts : List (Bool × Dual)) (a b : Dual) → LikeTerms w rs ts → SameDual w a b → SameDual w (incremented_dual rs a) (incremented_dual ts b)
grown_two w k [] [] a b h g = g
grown_two w k (r ∷ rs) (t ∷ ts) a b h g = grown_two w k rs ts _ _ h.2 (rw h.0 (pick_two w k t.0 a b r.1 t.1 g h.1))
grown_two w k [] (t ∷ ts) a b h g = absurd h
grown_two w k (r ∷ rs) [] a b h g = absurd h

grow_cell_two : (w : Width) → Narrow w → (s : Site) (c d : Cells) (x : List ℕ) (n : AccessKind) (rs ts : List (Bool × Dual)) (p : ℕ) (v u : Option Value) → LikeCells w c d → LikeTerms w rs ts
    → reduced_cell w v ≡ reduced_cell w u → Tells w (LikeCells w) (increment_cell s c x n rs p v) (increment_cell s d x n ts p u)
grow_cell_two w k s c d x n rs ts p None None h g o = record { log = refl; out = refl }
grow_cell_two w k s c d x n rs ts p (Some v) (Some u) h g o =
    let q : reduced_value w v ≡ reduced_value w u = cc in
    let a : Value = Ring (incremented_dual rs (as_dual v)) in
    let b : Value = Ring (incremented_dual ts (as_dual u)) in
    touching_two w (LikeCells w) s x p n (store_at c p a) (store_at d p b)
    (stored_two w c d p a b h (ap Ring (dual_same w (incremented_dual rs (as_dual v)) (incremented_dual ts (as_dual u)) (grown_two w k rs ts (as_dual v) (as_dual u) g (as_same w v u (same_of w v u q))))))
grow_cell_two w k s c d x n rs ts p None (Some u) h g o = absurd (cc)
grow_cell_two w k s c d x n rs ts p (Some v) None h g o = absurd (cc)

grow_two : (w : Width) → Narrow w → (s : Site) (c d : Cells) (x : List ℕ) (n : AccessKind) (rs ts : List (Bool × Dual)) (o : Option ℕ) → LikeCells w c d → LikeTerms w rs ts
    → Tells w (LikeCells w) (increment_place s c x n rs o) (increment_place s d x n ts o)
grow_two w k s c d x n rs ts None h g = record { log = refl; out = refl }
grow_two w k s c d x n rs ts (Some p) h g = grow_cell_two w k s c d x n rs ts p (content c p) (content d p) h g (content_two w c d p h)

grow_at_two : (w : Width) → Narrow w → (s : Site) (c d : Cells) (x : List ℕ) (n : AccessKind) (rs ts : List (Bool × Dual)) (vs us : List Value) → LikeCells w c d → LikeTerms w rs ts → Likes w vs us
    → Tells w (LikeCells w) (increment_place s c x n rs (place_of s x (whole_numbers vs))) (increment_place s d x n ts (place_of s x (whole_numbers us)))
grow_at_two w k s c d x n rs ts vs us h g gs = rw (wholes_two w vs us gs) (grow_two w k s c d x n rs ts (place_of s x (whole_numbers us)) h g)

increment_two : (w : Width) → Narrow w → (s : Site) → s.width ≡ w → (p : Designator) (rs : List Signed) (n : AccessKind) (c d : Cells) → LikeCells w c d → Tells w (LikeCells w) (increment s c p rs n) (increment s d p rs n)
increment_two w k s e p rs n c d h =
    bind w (LikeTerms w) (LikeCells w) (inside (right_side p.name) (terms_of rs s c)) (inside (right_side p.name) (terms_of rs s d)) _ _
    (inside_two w (LikeTerms w) (right_side p.name) (terms_of rs s c) (terms_of rs s d) (terms_two w k rs s e c d h))
    (λ as' bs g. bind w (Likes w) (LikeCells w) (values_of p.subscripts s c) (values_of p.subscripts s d) _ _ (values_two w k p.subscripts s e c d h)
    (λ vs us gs. grow_at_two w k s c d p.name n as' bs vs us h g gs))

assigned_two : (w : Width) → Narrow w → (s : Site) → s.width ≡ w → (atomic : Bool) (p : Designator) (a : Expression) (o : Option (List Signed)) (c d : Cells) → LikeCells w c d
    → Tells w (LikeCells w) (assignment_by s c atomic p a o) (assignment_by s d atomic p a o)
assigned_two w k s e atomic p a None c d h = plain_two w k s e p a c d h
assigned_two w k s e atomic p a (Some rs) c d h = increment_two w k s e p rs _ c d h

-- ---- loops

abbrev Steady : Width → Run → Type 0
Steady w f = (c d : Cells) → LikeCells w c d → Tells w (LikeCells w) (f c) (f d)

outs_equal : {A X : Type 0} (r : Result A X) → Outs Equal r r
outs_equal (Ok a) = refl
outs_equal (Err x) = refl

step_two : (w : Width) → Narrow w → (o : Option Expression) (s : Site) → s.width ≡ w → (c d : Cells) → LikeCells w c d → Tells w (Like w) (step_value o s c) (step_value o s d)
step_two w k None s e c d h = record { log = refl; out = refl }
step_two w k (Some a) s e c d h = value_two w k a s e c d h

turns_by_two : (w : Width) (a b a' b' a'' b'' : ℤ) → a ≡ b → a' ≡ b' → a'' ≡ b'' → Tells w Equal (turns_by a a' a'') (turns_by b b' b'')
turns_by_two w a b a' b' a'' b'' p q r = rw (p, q, r) (record { log = refl; out = outs_equal (turns_by b b' b'').out })

turns_of_two : (w : Width) → Narrow w → (first last : Expression) (step : Option Expression) (s : Site) → s.width ≡ w → (c d : Cells) → LikeCells w c d → Tells w Equal (turns_of first last step s c) (turns_of first last step s d)
turns_of_two w k first last step s e c d h =
    bind w (Like w) Equal (value_of first s c) (value_of first s d) _ _ (value_two w k first s e c d h)
    (λ v u g. bind w (Like w) Equal (value_of last s c) (value_of last s d) _ _ (value_two w k last s e c d h)
    (λ v' u' g'. bind w (Like w) Equal (step_value step s c) (step_value step s d) _ _ (step_two w k step s e c d h)
    (λ v'' u'' g''. turns_by_two w (whole_number v) (whole_number u) (whole_number v') (whole_number u') (whole_number v'') (whole_number u'') (whole_two w v u g) (whole_two w v' u' g') (whole_two w v'' u'' g''))))

noted_two : (w : Width) (l m : Log) (c d : Cells) → reduced_log w l ≡ reduced_log w m → LikeCells w c d → Tells w (LikeCells w) (with_log l c) (with_log m d)
noted_two w l m c d e h = record { log = e; out = h }

turns_two : (w : Width) (n : ℕ) (f : ℕ → Run) → ((i : ℕ) → Steady w (f i)) → Steady w (turns n f)
turns_two w zero f k c d h = record { log = refl; out = h }
turns_two w (suc n) f k c d h = bind w (LikeCells w) (LikeCells w) (turns n f c) (turns n f d) (f n) (f n) (turns_two w n f k c d h) (λ a b g. k n a b g)

set_at_two : (w : Width) (o : Option ℕ) (v : Option Value) (c d : Cells) → LikeCells w c d → LikeCells w (set_at o v c) (set_at o v d)
set_at_two w None v c d h = h
set_at_two w (Some p) v c d h = set_two w c d p v v h refl

setting_two : (w : Width) (s : Site) (x : List ℕ) (z : ℤ) (f : Run) → Steady w f → Steady w (with_variable s x z f)
setting_two w s x z f k c d h =
    after_two w (LikeCells w) _ _ _ _ refl (k _ _ (set_at_two w (place_of s x []) (Some (Index z)) c d h))

unset_two : (w : Width) (s : Site) (xs : List (List ℕ)) (c d : Cells) → LikeCells w c d → LikeCells w (with_all_unset s xs c) (with_all_unset s xs d)
unset_two w s [] c d h = h
unset_two w s (x ∷ xs) c d h = unset_two w s xs _ _ (set_at_two w (place_of s x []) None c d h)

content_at_two : (w : Width) (c d : Cells) (o : Option ℕ) → LikeCells w c d → reduced_cell w (content_at c o) ≡ reduced_cell w (content_at d o)
content_at_two w c d None h = refl
content_at_two w c d (Some p) h = content_two w c d p h

private_words_two : (w : Width) (s : Site) (body : Statements) (xs : List (List ℕ)) (c d : Cells) → LikeCells w c d → reduced_log w (private_words s body xs c) ≡ reduced_log w (private_words s body xs d)
private_words_two w s body [] c d h = refl
private_words_two w s body (x ∷ xs) c d h =
    ap (λ (l : Log). both l (reduced_log w (private_words s body xs c))) (by_test (assigns_in x body && s.pushed x))
    ∙ ap (both (reduced_log w (if assigns_in x body && s.pushed x then single (pushes (with_tangent 0 (content_at d (place_of s x [])))) else silence))) (private_words_two w s body xs c d h)
  where
    by_test : (b : Bool) → reduced_log w (if b then single (pushes (with_tangent 0 (content_at c (place_of s x [])))) else silence) ≡ reduced_log w (if b then single (pushes (with_tangent 0 (content_at d (place_of s x [])))) else silence)
    by_test true = ap (λ (v : Option Value). single (pushes v)) (told_two w (content_at c (place_of s x [])) (content_at d (place_of s x [])) (content_at_two w c d (place_of s x []) h))
    by_test false = refl

one_turn_two : (w : Width) (s : Site) → s.width ≡ w → (var : List ℕ) (t : IterationCount) (body : Site → Run) → ((u : Site) → u.width ≡ w → Steady w (body u)) → (i : ℕ) → Steady w (one_turn s var t body i)
one_turn_two w s e var t body k i c d h =
    inside_two w (LikeCells w) (turn i) _ _ (setting_two w s var (value_at t i) (body (in_turn s var)) (k (in_turn s var) e) c d h)

setting_all_two : (w : Width) (s : Site) (hs : Heads) (i : ℕ) (f : Run) → Steady w f → Steady w (with_variables s hs i f)
setting_all_two w s [] i f k c d h = k c d h
setting_all_two w s (x ∷ []) i f k c d h = setting_two w s x.0 (value_at x.1 i) f k c d h
setting_all_two w s (x ∷ y ∷ hs) i f k c d h =
    setting_two w s x.0 (value_at x.1 (i / iterations (y ∷ hs))) (with_variables s (y ∷ hs) (i % iterations (y ∷ hs)) f) (setting_all_two w s (y ∷ hs) (i % iterations (y ∷ hs)) f k) c d h

further_two : (w : Width) → Narrow w → (o : Option Head) (s : Site) → s.width ≡ w → (c d : Cells) → LikeCells w c d → Tells w Equal (further_turns o s c) (further_turns o s d)
further_two w k None s e c d h = record { log = refl; out = refl }
further_two w k (Some x) s e c d h =
    bind w Equal Equal _ _ _ _ (line_two w Equal x.line _ _ (turns_of_two w k x.first x.last x.step s e c d h)) (λ t u g. pured w Equal ((x.var, t) ∷ []) ((x.var, u) ∷ []) (rw g refl))

heads_two : (w : Width) → Narrow w → (x : Head) (o : Option Head) (s : Site) → s.width ≡ w → (c d : Cells) → LikeCells w c d → Tells w Equal (heads_of x o s c) (heads_of x o s d)
heads_two w k x o s e c d h =
    bind w Equal Equal _ _ _ _ (line_two w Equal x.line _ _ (turns_of_two w k x.first x.last x.step s e c d h))
    (λ t u g. bind w Equal Equal _ _ _ _ (further_two w k o s e c d h) (λ a b q. pured w Equal ((x.var, t) ∷ a) ((x.var, u) ∷ b) (rw (g, q) refl)))

one_iteration_two : (w : Width) (s : Site) → s.width ≡ w → (directive : Directive) (var : List ℕ) (hs : Heads) (tree : Statements) (body : Site → Run) → ((u : Site) → u.width ≡ w → Steady w (body u)) → (i : ℕ)
    → Steady w (one_iteration s directive var hs tree body i)
one_iteration_two w s e directive var hs tree body k i c d h =
    let names : List (List ℕ) = private_names s directive var tree in
    inside_two w (LikeCells w) (iteration i) _ _
    (bind w (LikeCells w) (LikeCells w) _ _ _ _
    (after_two w (LikeCells w) (unset_log s names) (unset_log s names) _ _ refl
    (setting_all_two w s hs i (body (in_iteration s directive var tree)) (k (in_iteration s directive var tree) e) _ _ (unset_two w s names c d h)))
    (λ a b g. noted_two w (private_words s tree names a) (private_words s tree names b) a b (private_words_two w s tree names a b g) g))

run_turns_two : (w : Width) (s : Site) → s.width ≡ w → (var : List ℕ) (body : Site → Run) → ((u : Site) → u.width ≡ w → Steady w (body u)) → (t : IterationCount) → Steady w (run_turns var body s t)
run_turns_two w s e var body k t c d h =
    bind w (LikeCells w) (LikeCells w) _ _ _ _ (turns_two w t.count (one_turn s var t body) (one_turn_two w s e var t body k) c d h) (λ a b g. noted_two w (loop_words t) (loop_words t) a b refl g)

run_parallel_two : (w : Width) (s : Site) → s.width ≡ w → (line : ℕ) (directive : Directive) (var : List ℕ) (tree : Statements) (body : Site → Run) → ((u : Site) → u.width ≡ w → Steady w (body u)) → (hs : Heads)
    → Steady w (run_parallel line directive var tree body s hs)
run_parallel_two w s e line directive var tree body k hs c d h =
    bind w (LikeCells w) (LikeCells w) _ _ _ _
    (inside_two w (LikeCells w) rounds _ _ (turns_two w (iterations hs) (one_iteration s directive var hs tree body) (one_iteration_two w s e directive var hs tree body k) c d h))
    (λ a b g. noted_two w (both (single (ends line)) (words_of_all hs)) (both (single (ends line)) (words_of_all hs)) a b refl g)

-- ---- statements

chosen_two : (w : Width) (p q : Bool) (f g : Run) → p ≡ q → Steady w f → Steady w g → (c d : Cells) → LikeCells w c d → Tells w (LikeCells w) (choice p f g c) (choice q f g d)
chosen_two w p q f g o k l c d h = rw o (by_test q)
  where
    by_test : (b : Bool) → Tells w (LikeCells w) (choice b f g c) (choice b f g d)
    by_test true = k c d h
    by_test false = l c d h

either_two : (w : Width) (b : Bool) (f g : Site → Run) → ((u : Site) → u.width ≡ w → Steady w (f u)) → ((u : Site) → u.width ≡ w → Steady w (g u)) → (u : Site) → u.width ≡ w → Steady w ((if b then f else g) u)
either_two w true f g k l u e = k u e
either_two w false f g k l u e = l u e

in_arm_two : (w : Width) (m : ℕ) (f : Run) → Steady w f → Steady w (in_arm m f)
in_arm_two w m f k c d h =
    inside_two w (LikeCells w) (taken m) _ _ (bind w (LikeCells w) (LikeCells w) _ _ _ _ (k c d h) (λ a b g. noted_two w (single (pushes (Some (Index (pos m))))) (single (pushes (Some (Index (pos m))))) a b refl g))

mutual
  run_two : (w : Width) → Narrow w → (b : Statement) (s : Site) → s.width ≡ w → Steady w (run b s)
  run_two w k (assignment line atomic p a) s e c d h =
      inside_two w (LikeCells w) instance _ _ (line_two w (LikeCells w) line _ _ (assigned_two w k s e atomic p a (increment_terms s.ring p a) c d h))
  run_two w k (branch line arms other) s e c d h = inside_two w (LikeCells w) instance _ _ (arms_two w k arms line 0 (run_all other) (λ u f. run_all_two w k other u f) s e c d h)
  run_two w k (loop line number None var first last step body) s e c d h =
      inside_two w (LikeCells w) instance _ _
      (bind w Equal (LikeCells w) _ _ _ _ (line_two w Equal line _ _ (turns_of_two w k first last step s e c d h))
      (λ t u g. rw g (run_turns_two w s e var (run_all body) (λ v f. run_all_two w k body v f) u c d h)))
  run_two w k (loop line number (Some directive) var first last step body) s e c d h =
      inside_two w (LikeCells w) instance _ _
      (bind w Equal (LikeCells w) _ _ _ _ (heads_two w k (record { line = line; var = var; first = first; last = last; step = step }) (further_head directive body) s e c d h)
      (λ t u g. rw g (run_parallel_two w s e line directive var body (if is_nest directive body then run_inner body else run_all body)
      (either_two w (is_nest directive body) (run_inner body) (run_all body) (λ v f. run_inner_two w k body v f) (λ v f. run_all_two w k body v f)) u c d h)))

  run_all_two : (w : Width) → Narrow w → (bs : Statements) (s : Site) → s.width ≡ w → Steady w (run_all bs s)
  run_all_two w k no_statements s e c d h = record { log = refl; out = h }
  run_all_two w k (statement b bs) s e c d h =
      bind w (LikeCells w) (LikeCells w) (run b s c) (run b s d) _ _ (run_two w k b s e c d h) (λ a b' g. run_all_two w k bs s e a b' g)

  run_inner_two : (w : Width) → Narrow w → (bs : Statements) (s : Site) → s.width ≡ w → Steady w (run_inner bs s)
  run_inner_two w k no_statements s e c d h = record { log = refl; out = h }
  run_inner_two w k (statement b bs) s e c d h = run_within_two w k b s e c d h

  run_within_two : (w : Width) → Narrow w → (b : Statement) (s : Site) → s.width ≡ w → Steady w (run_within b s)
  run_within_two w k (assignment line atomic p a) s e c d h = record { log = refl; out = h }
  run_within_two w k (branch line arms other) s e c d h = record { log = refl; out = h }
  run_within_two w k (loop line number directive var first last step body) s e c d h = run_all_two w k body s e c d h

  arms_two : (w : Width) → Narrow w → (arms : Arms) (line m : ℕ) (other : Site → Run) → ((u : Site) → u.width ≡ w → Steady w (other u)) → (s : Site) → s.width ≡ w → Steady w (run_arms arms line m other s)
  arms_two w k no_arms line m other l s e c d h = in_arm_two w m (other s) (l s e) c d h
  arms_two w k (arm test body arms) line m other l s e c d h =
      bind w Equal (LikeCells w) _ _ _ _ (inside_two w Equal (condition m) _ _ (line_two w Equal line _ _ (holds_two w k test s e c d h)))
      (λ p q o. chosen_two w p q (in_arm m (run_all body s)) (run_arms arms line (m + 1) other s) o
      (in_arm_two w m (run_all body s) (λ a b g. run_all_two w k body s e a b g)) (λ a b g. arms_two w k arms line (m + 1) other l s e a b g) c d h)

outs_reduced : (w : Width) (r t : Result Cells TrapAt) → Outs (LikeCells w) r t → reduced_out w r ≡ reduced_out w t
outs_reduced w (Ok a) (Ok b) h = ap Ok h
outs_reduced w (Err x) (Err y) h = ap Err h
outs_reduced w (Ok a) (Err y) h = absurd h
outs_reduced w (Err x) (Ok b) h = absurd h

respects : (w : Width) → Narrow w → RunsRespect w
respects w k body s e c d h =
    let t : Tells w (LikeCells w) (run_all body s c) (run_all body s d) = run_all_two w k body s e c d h in
    (t.log, outs_reduced w _ _ t.out)

pub runs_respect : RunsRespectWidths
runs_respect = λ w. respects w (narrow w)
