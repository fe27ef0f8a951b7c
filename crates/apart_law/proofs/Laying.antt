-- The accesses and the forms of statements are those of their spots, one behind the other.
use Rattle.std.proofs.Common.{◌≡◌, ℕ, suc, ◌+◌, Bool, true, false, List, [], ◌∷◌, ◌++◌, length, refl, ap, sym, ◌∙◌, subst, arith, append_assoc, length-append, Option, Some, None}
use Rattle.std.specs.Prelude.{flat_map, if◌then◌else◌}
use Rattle.fl_ast.specs.Tree.{Expression, literal, get, minus, binary, power, call, Expressions, no_expressions, expression, Designator, Condition, relation, negation, conjunction, disjunction, Statement, assignment, branch, loop, Statements, no_statements, statement, Arms, no_arms, arm}
use Rattle.fl_types.specs.declared.access.AccessKind.{AccessKind}
use Rattle.fl_types.specs.declared.access.AccessKind.TheVariants.{Read, Write}
use Rattle.fl_types.specs.declared.access.PathStep.{PathStep}
use Rattle.fl_types.specs.declared.access.PathStep.TheVariants.{Arm, Body}
use Rattle.fl_types.specs.Increment.{Signed, increment_terms}
use Rattle.fl_types.specs.Accesses.{Scope, Occurrence, access, increment_kind, reads, reads_all, step_reads, term_reads, condition_reads, assignment_accesses, accesses, accesses_all, arms_accesses, statement_count, statements_count, test_path}
use Rattle.meaning.proofs.GroupReadings.{append_nil}
use Rattle.index_forms.specs.Form.{Forms}
use Rattle.index_forms.specs.Formed.{Known, subscript_forms}
use Rattle.index_forms.specs.Loops.{written_in}
use Rattle.index_forms.specs.Walk.{Setting, viewed, without, known_after, known_inside, with_group, bounds_reads, with_statement, with_statements, with_arms, Rest as FormsRest}
use Rattle.apart_law.specs.Spots.{Spot, Rest, bounds_accesses, spots_of, spots_in, spots_in_arms}
use Rattle.apart_law.specs.Laid.{places, accesses_at, forms_at, spot_forms, AreLaid, plain_scope, plainly}

pub flat_both : {B : Type 0} (f : Spot → List B) (xs ys : List Spot) → flat_map f (xs ++ ys) ≡ flat_map f xs ++ flat_map f ys
flat_both f [] ys = refl
flat_both f (x ∷ xs) ys = ap (λ zs. f x ++ zs) (flat_both f xs ys) ∙ sym (append_assoc (f x) (flat_map f xs) (flat_map f ys))

-- ---- accesses

abbrev accesses_in : List Spot → List Occurrence
accesses_in xs = flat_map accesses_at xs

module _ (c : Setting) where
  mutual
    pub accesses_of : (n : ℕ) (k : Known) (path : List PathStep) (a : ℕ) (s : Statement) → accesses_in (spots_of c n k path a s) ≡ accesses c.scope n path s
    accesses_of n k path a (assignment line atomic p e) = append_nil (accesses c.scope n path (assignment line atomic p e))
    accesses_of n k path a (branch line arms other) =
        accesses_of_arms line n (n + 1) 0 k path a arms (λ j h steps b. spots_in c j h steps b other) (λ j steps. accesses_all c.scope j steps other) (λ j h steps b. accesses_of_all j h steps b other)
    accesses_of n k path a (loop line number directive var low high step body) =
        ap (λ (os : List Occurrence). bounds_accesses c.scope line path low high step ++ os)
        (accesses_of_all (n + 1) (known_inside c.side number var body k) (path ++ Body n ∷ []) (a + length (bounds_accesses c.scope line path low high step)) body)
        ∙ simp append_assoc

    pub accesses_of_all : (n : ℕ) (k : Known) (path : List PathStep) (a : ℕ) (ss : Statements) → accesses_in (spots_in c n k path a ss) ≡ accesses_all c.scope n path ss
    accesses_of_all n k path a no_statements = refl
    accesses_of_all n k path a (statement s ss) =
        let xs = spots_of c n k path a s in
        let ys = spots_in c (n + statement_count s) (known_after c.side n s k) path (a + length (accesses c.scope n path s)) ss in
        flat_both accesses_at xs ys
        ∙ (ap (λ (os : List Occurrence). os ++ accesses_in ys) (accesses_of n k path a s)
        ∙ ap (λ (os : List Occurrence). accesses c.scope n path s ++ os) (accesses_of_all (n + statement_count s) (known_after c.side n s k) path (a + length (accesses c.scope n path s)) ss))

    accesses_of_arms : (line n j m : ℕ) (k : Known) (path : List PathStep) (a : ℕ) (arms : Arms) (other : Rest) (others : ℕ → List PathStep → List Occurrence) →
        ((i : ℕ) (h : Known) (steps : List PathStep) (b : ℕ) → accesses_in (other i h steps b) ≡ others i steps) → accesses_in (spots_in_arms c line n j m k path a arms other) ≡ arms_accesses c.scope line n j m path arms others
    accesses_of_arms line n j m k path a no_arms other others f = f j k (path ++ Arm n m ∷ []) a
    accesses_of_arms line n j m k path a (arm test body arms) other others f =
        let tests = condition_reads c.scope line (test_path path n m) test in
        let inner = accesses_all c.scope j (path ++ Arm n m ∷ []) body in
        let xs = spots_in c j k (path ++ Arm n m ∷ []) (a + length tests) body in
        let ys = spots_in_arms c line n (j + statements_count body) (m + 1) (without (written_in body) k) path (a + length tests + length inner) arms other in
        ap (λ (os : List Occurrence). tests ++ os)
        (flat_both accesses_at xs ys
        ∙ (ap (λ (os : List Occurrence). os ++ accesses_in ys) (accesses_of_all j k (path ++ Arm n m ∷ []) (a + length tests) body)
        ∙ ap (λ (os : List Occurrence). inner ++ os) (accesses_of_arms line n (j + statements_count body) (m + 1) (without (written_in body) k) path (a + length tests + length inner) arms other others f)))

-- ---- each spot begins where those before it end

laid_both : (a : ℕ) (xs ys : List Spot) → AreLaid a xs → AreLaid (a + length (accesses_in xs)) ys → AreLaid a (xs ++ ys)
laid_both a [] ys h g = subst (λ (z : ℕ). AreLaid z ys) (let e : a + 0 ≡ a = omega arith in e) g
laid_both a (x ∷ xs) ys h g =
    let w : length (x.accesses ++ accesses_in xs) ≡ length x.accesses + length (accesses_in xs) = length-append x.accesses (accesses_in xs) in
    let e : a + length (x.accesses ++ accesses_in xs) ≡ a + length x.accesses + length (accesses_in xs) = omega (arith, w) in
    (h.0, laid_both (a + length x.accesses) xs ys h.1 (subst (λ (z : ℕ). AreLaid z ys) e g))

module _ (c : Setting) where
  mutual
    pub laid_of : (n : ℕ) (k : Known) (path : List PathStep) (a : ℕ) (s : Statement) → AreLaid a (spots_of c n k path a s)
    laid_of n k path a (assignment line atomic p e) = (refl, tt)
    laid_of n k path a (branch line arms other) = laid_of_arms line n (n + 1) 0 k path a arms (λ j h steps b. spots_in c j h steps b other) (λ j h steps b. laid_of_all j h steps b other)
    laid_of n k path a (loop line number directive var low high step body) =
        (refl, laid_of_all (n + 1) (known_inside c.side number var body k) (path ++ Body n ∷ []) (a + length (bounds_accesses c.scope line path low high step)) body)

    pub laid_of_all : (n : ℕ) (k : Known) (path : List PathStep) (a : ℕ) (ss : Statements) → AreLaid a (spots_in c n k path a ss)
    laid_of_all n k path a no_statements = tt
    laid_of_all n k path a (statement s ss) =
        let ys = spots_in c (n + statement_count s) (known_after c.side n s k) path (a + length (accesses c.scope n path s)) ss in
        laid_both a (spots_of c n k path a s) ys (laid_of n k path a s)
        (subst (λ (z : List Occurrence). AreLaid (a + length z) ys) (sym (accesses_of c n k path a s)) (laid_of_all (n + statement_count s) (known_after c.side n s k) path (a + length (accesses c.scope n path s)) ss))

    laid_of_arms : (line n j m : ℕ) (k : Known) (path : List PathStep) (a : ℕ) (arms : Arms) (other : Rest) → ((i : ℕ) (h : Known) (steps : List PathStep) (b : ℕ) → AreLaid b (other i h steps b)) → AreLaid a (spots_in_arms c line n j m k path a arms other)
    laid_of_arms line n j m k path a no_arms other f = f j k (path ++ Arm n m ∷ []) a
    laid_of_arms line n j m k path a (arm test body arms) other f =
        let tests = condition_reads c.scope line (test_path path n m) test in
        let inner = accesses_all c.scope j (path ++ Arm n m ∷ []) body in
        let ys = spots_in_arms c line n (j + statements_count body) (m + 1) (without (written_in body) k) path (a + length tests + length inner) arms other in (
          refl,
          laid_both (a + length tests) (spots_in c j k (path ++ Arm n m ∷ []) (a + length tests) body) ys (laid_of_all j k (path ++ Arm n m ∷ []) (a + length tests) body)
              (subst (λ (z : List Occurrence). AreLaid (a + length tests + length z) ys) (sym (accesses_of_all c j k (path ++ Arm n m ∷ []) (a + length tests) body))
              (laid_of_arms line n (j + statements_count body) (m + 1) (without (written_in body) k) path (a + length tests + length inner) arms other f)),
        )

-- ---- the places of accesses don't depend on lines, paths and reductions

places_both : (xs ys : List Occurrence) → places (xs ++ ys) ≡ places xs ++ places ys
places_both [] ys = refl
places_both (x ∷ xs) ys = ap (λ zs. x.place ∷ zs) (places_both xs ys)

two_places : (as' bs cs ds : List Occurrence) → places as' ≡ places bs → places cs ≡ places ds → places (as' ++ cs) ≡ places (bs ++ ds)
two_places as' bs cs ds e f = places_both as' cs ∙ (ap (λ zs. zs ++ places cs) e ∙ (ap (λ zs. places bs ++ zs) f ∙ sym (places_both bs ds)))

module _ (scope : Scope) (line : ℕ) (path : List PathStep) where
  abbrev plain : Scope
  plain = plain_scope scope

  access_place : (i k : AccessKind) (p : Designator) → places (access plain 0 [] i p) ≡ places (access scope line path k p)
  access_place i k p = by_test (scope.accessed p.name)
    where
      by_test : (b : Bool) → places (if b then record { line = 0; place = p; path = []; kind = i } ∷ [] else []) ≡ places (if b then record { line = line; place = p; path = path; kind = k } ∷ [] else [])
      by_test true = refl
      by_test false = refl

  mutual
    pub reads_places : (e : Expression) → places (reads plain 0 [] e) ≡ places (reads scope line path e)
    reads_places (literal n k) = refl
    reads_places (get x ss) =
        two_places (reads_all plain 0 [] ss) (reads_all scope line path ss) (access plain 0 [] Read (record { name = x; subscripts = ss })) (access scope line path Read (record { name = x; subscripts = ss })) (reads_all_places ss) (access_place Read Read (record { name = x; subscripts = ss }))
    reads_places (minus a) = reads_places a
    reads_places (binary op a b) = two_places (reads plain 0 [] a) (reads scope line path a) (reads plain 0 [] b) (reads scope line path b) (reads_places a) (reads_places b)
    reads_places (power a n) = reads_places a
    reads_places (call f es) = reads_all_places es

    reads_all_places : (es : Expressions) → places (reads_all plain 0 [] es) ≡ places (reads_all scope line path es)
    reads_all_places no_expressions = refl
    reads_all_places (expression e es) = two_places (reads plain 0 [] e) (reads scope line path e) (reads_all plain 0 [] es) (reads_all scope line path es) (reads_places e) (reads_all_places es)

  pub condition_places : (c : Condition) → places (condition_reads plain 0 [] c) ≡ places (condition_reads scope line path c)
  condition_places (relation op a b) = two_places (reads plain 0 [] a) (reads scope line path a) (reads plain 0 [] b) (reads scope line path b) (reads_places a) (reads_places b)
  condition_places (negation a) = condition_places a
  condition_places (conjunction a b) = two_places (condition_reads plain 0 [] a) (condition_reads scope line path a) (condition_reads plain 0 [] b) (condition_reads scope line path b) (condition_places a) (condition_places b)
  condition_places (disjunction a b) = two_places (condition_reads plain 0 [] a) (condition_reads scope line path a) (condition_reads plain 0 [] b) (condition_reads scope line path b) (condition_places a) (condition_places b)

  pub terms_places : (rs : List Signed) → places (term_reads plain 0 [] rs) ≡ places (term_reads scope line path rs)
  terms_places [] = refl
  terms_places (r ∷ rs) = two_places (reads plain 0 [] r.1) (reads scope line path r.1) (term_reads plain 0 [] rs) (term_reads scope line path rs) (reads_places r.1) (terms_places rs)

  pub target_places : (i k : AccessKind) (p : Designator) → places (reads_all plain 0 [] p.subscripts ++ access plain 0 [] i p) ≡ places (reads_all scope line path p.subscripts ++ access scope line path k p)
  target_places i k p = two_places (reads_all plain 0 [] p.subscripts) (reads_all scope line path p.subscripts) (access plain 0 [] i p) (access scope line path k p) (reads_all_places p.subscripts) (access_place i k p)

  assignment_places : (atomic : Bool) (p : Designator) (e : Expression) (t : Option (List Signed)) → places (assignment_accesses plain 0 [] atomic p e t) ≡ places (assignment_accesses scope line path atomic p e t)
  assignment_places atomic p e None = two_places (reads plain 0 [] e) (reads scope line path e) _ _ (reads_places e) (target_places Write Write p)
  assignment_places atomic p e (Some rs) = two_places (term_reads plain 0 [] rs) (term_reads scope line path rs) _ _ (terms_places rs) (target_places (increment_kind atomic false) (increment_kind atomic (scope.pluses p.name)) p)

  step_places : (o : Option Expression) → places (step_reads plain 0 [] o) ≡ places (step_reads scope line path o)
  step_places None = refl
  step_places (Some e) = reads_places e

  pub bounds_places : (low high : Expression) (step : Option Expression) → places (bounds_reads plain low high step) ≡ places (bounds_accesses scope line path low high step)
  bounds_places low high step = two_places (reads plain 0 [] low) (reads scope line path low) _ _ (reads_places low) (two_places (reads plain 0 [] high) (reads scope line path high) _ _ (reads_places high) (step_places step))

-- ---- forms

group_is : (c : Setting) (k : Known) (os : List Occurrence) (fs : List Forms) (a : ℕ) → length fs ≡ a → with_group c k os fs ≡ fs ++ forms_at c k a (places os)
group_is c k [] fs a e = sym (append_nil fs)
group_is c k (o ∷ os) fs a e =
    let f = subscript_forms (viewed c k (suc (length fs))) o.place.subscripts in
    let w : length (fs ++ f ∷ []) ≡ length fs + 1 = length-append fs (f ∷ []) in
    group_is c k os (fs ++ f ∷ []) (suc a) (omega (arith, w, e))
    ∙ (append_assoc fs (f ∷ []) (forms_at c k (suc a) (places os)) ∙ ap (λ (z : ℕ). fs ++ (subscript_forms (viewed c k (suc z)) o.place.subscripts ∷ forms_at c k (suc a) (places os))) e)

forms_long : (c : Setting) (k : Known) (a : ℕ) (ps : List Designator) → length (forms_at c k a ps) ≡ length ps
forms_long c k a [] = refl
forms_long c k a (p ∷ ps) = ap suc (forms_long c k (suc a) ps)

pub places_long : (os : List Occurrence) → length (places os) ≡ length os
places_long [] = refl
places_long (o ∷ os) = ap suc (places_long os)

pub spot_forms_long : (c : Setting) (x : Spot) → length (spot_forms c x) ≡ length x.accesses
spot_forms_long c x = forms_long c x.known x.before (places x.accesses) ∙ places_long x.accesses

all_forms_long : (c : Setting) (xs : List Spot) → length (flat_map (spot_forms c) xs) ≡ length (accesses_in xs)
all_forms_long c [] = refl
all_forms_long c (x ∷ xs) =
    let e : length (spot_forms c x) ≡ length x.accesses = spot_forms_long c x in
    let f : length (flat_map (spot_forms c) xs) ≡ length (accesses_in xs) = all_forms_long c xs in
    let w : length (spot_forms c x ++ flat_map (spot_forms c) xs) ≡ length (spot_forms c x) + length (flat_map (spot_forms c) xs) = length-append (spot_forms c x) (flat_map (spot_forms c) xs) in
    let u : length (x.accesses ++ accesses_in xs) ≡ length x.accesses + length (accesses_in xs) = length-append x.accesses (accesses_in xs) in
    omega (arith, e, f, w, u)

module _ (c : Setting) where
  abbrev p : Setting
  p = plainly c

  -- a group's forms are a spot's
  group_forms : (k : Known) (os ps : List Occurrence) (fs : List Forms) (a : ℕ) → length fs ≡ a → places os ≡ places ps → with_group p k os fs ≡ fs ++ forms_at c k a (places ps)
  group_forms k os ps fs a e f = group_is p k os fs a e ∙ ap (λ (z : List Designator). fs ++ forms_at c k a z) f

  -- where a list has grown by as many forms as there are accesses
  grown : (fs gs : List Forms) (a n : ℕ) → length fs ≡ a → length gs ≡ n → length (fs ++ gs) ≡ a + n
  grown fs gs a n e f = let w : length (fs ++ gs) ≡ length fs + length gs = length-append fs gs in omega (arith, w, e, f)

  mutual
    pub forms_of_one : (n : ℕ) (k : Known) (path : List PathStep) (a : ℕ) (s : Statement) (fs : List Forms) → length fs ≡ a → with_statement p n k s fs ≡ fs ++ flat_map (spot_forms c) (spots_of c n k path a s)
    forms_of_one n k path a (assignment line atomic q e) fs w =
        group_forms k (assignment_accesses p.scope 0 [] atomic q e (increment_terms c.scope.ring q e)) (assignment_accesses c.scope line path atomic q e (increment_terms c.scope.ring q e)) fs a w (assignment_places c.scope line path atomic q e (increment_terms c.scope.ring q e))
        ∙ ap (λ (z : List Forms). fs ++ z) (sym (append_nil (forms_at c k a (places (assignment_accesses c.scope line path atomic q e (increment_terms c.scope.ring q e))))))
    forms_of_one n k path a (branch line arms other) fs w =
        forms_of_arms line n (n + 1) 0 k path a arms (λ j h. with_statements p j h other) (λ j h steps b. spots_in c j h steps b other) fs w (λ j h steps b gs y. forms_of_all j h steps b other gs y)
    forms_of_one n k path a (loop line number directive var low high step body) fs w =
        let os = bounds_accesses c.scope line path low high step in
        let gs = forms_at c k a (places os) in
        let g = group_forms k (bounds_reads p.scope low high step) os fs a w (bounds_places c.scope line path low high step) in
        let inside = known_inside c.side number var body k in
        ap (λ (z : List Forms). with_statements p (n + 1) inside body z) g
        ∙ (forms_of_all (n + 1) inside (path ++ Body n ∷ []) (a + length os) body (fs ++ gs) (grown fs gs a (length os) w (forms_long c k a (places os) ∙ places_long os))
        ∙ append_assoc fs gs (flat_map (spot_forms c) (spots_in c (n + 1) inside (path ++ Body n ∷ []) (a + length os) body)))

    pub forms_of_all : (n : ℕ) (k : Known) (path : List PathStep) (a : ℕ) (ss : Statements) (fs : List Forms) → length fs ≡ a → with_statements p n k ss fs ≡ fs ++ flat_map (spot_forms c) (spots_in c n k path a ss)
    forms_of_all n k path a no_statements fs w = sym (append_nil fs)
    forms_of_all n k path a (statement s ss) fs w =
        let m = n + statement_count s in
        let after = known_after c.side n s k in
        let own = accesses c.scope n path s in
        let xs = spots_of c n k path a s in
        let ys = spots_in c m after path (a + length own) ss in
        let gs = flat_map (spot_forms c) xs in
        ap (λ (z : List Forms). with_statements p m after ss z) (forms_of_one n k path a s fs w)
        ∙ (forms_of_all m after path (a + length own) ss (fs ++ gs) (grown fs gs a (length own) w (all_forms_long c xs ∙ ap length (accesses_of c n k path a s)))
        ∙ (append_assoc fs gs (flat_map (spot_forms c) ys) ∙ ap (λ (z : List Forms). fs ++ z) (sym (flat_both (spot_forms c) xs ys))))

    forms_of_arms : (line n j m : ℕ) (k : Known) (path : List PathStep) (a : ℕ) (arms : Arms) (rest : FormsRest) (other : Rest) (fs : List Forms) → length fs ≡ a →
        ((i : ℕ) (h : Known) (steps : List PathStep) (b : ℕ) (gs : List Forms) → length gs ≡ b → rest i h gs ≡ gs ++ flat_map (spot_forms c) (other i h steps b)) →
        with_arms p j k arms rest fs ≡ fs ++ flat_map (spot_forms c) (spots_in_arms c line n j m k path a arms other)
    forms_of_arms line n j m k path a no_arms rest other fs w f = f j k (path ++ Arm n m ∷ []) a fs w
    forms_of_arms line n j m k path a (arm test body arms) rest other fs w f =
        let tests = condition_reads c.scope line (test_path path n m) test in
        let inner = accesses_all c.scope j (path ++ Arm n m ∷ []) body in
        let less = without (written_in body) k in
        let at = path ++ Arm n m ∷ [] in
        let xs = spots_in c j k at (a + length tests) body in
        let ys = spots_in_arms c line n (j + statements_count body) (m + 1) less path (a + length tests + length inner) arms other in
        let gs = forms_at c k a (places tests) in
        let hs = flat_map (spot_forms c) xs in
        let long : length (fs ++ gs) ≡ a + length tests = grown fs gs a (length tests) w (forms_long c k a (places tests) ∙ places_long tests) in
        ap (λ (z : List Forms). with_arms p (j + statements_count body) less arms rest (with_statements p j k body z)) (group_forms k (condition_reads p.scope 0 [] test) tests fs a w (condition_places c.scope line (test_path path n m) test))
        ∙ (ap (λ (z : List Forms). with_arms p (j + statements_count body) less arms rest z) (forms_of_all j k at (a + length tests) body (fs ++ gs) long)
        ∙ (forms_of_arms line n (j + statements_count body) (m + 1) less path (a + length tests + length inner) arms rest other ((fs ++ gs) ++ hs)
        (grown (fs ++ gs) hs (a + length tests) (length inner) long (all_forms_long c xs ∙ ap length (accesses_of_all c j k at (a + length tests) body))) f
        ∙ (append_assoc (fs ++ gs) hs (flat_map (spot_forms c) ys) ∙ (append_assoc fs gs (hs ++ flat_map (spot_forms c) ys) ∙ ap (λ (z : List Forms). fs ++ (gs ++ z)) (sym (flat_both (spot_forms c) xs ys))))))
