-- Which accesses are in right sides of assignments to active names, by their spots.
use Rattle.std.proofs.Common.{◌≡◌, ℕ, zero, suc, ◌+◌, ◌-◌, Bool, false, List, [], ◌∷◌, ◌++◌, length, refl, ap, sym, ◌∙◌, subst, arith, append_assoc, length-append, Option, Some, None}
use mathlib.Core.Logic.{inl, inr}
use Rattle.std.specs.Prelude.{flat_map}
use Rattle.fl_ast.specs.Tree.{Expression, Designator, Statement, assignment, branch, loop, Statements, no_statements, statement, Arms, no_arms, arm}
use Rattle.fl_types.specs.declared.access.PathStep.{PathStep}
use Rattle.fl_types.specs.declared.access.PathStep.TheVariants.{Arm, Body}
use Rattle.fl_types.specs.declared.access.AccessKind.TheVariants.{Write}
use Rattle.fl_types.specs.Increment.{Signed, increment_terms}
use Rattle.fl_types.specs.Accesses.{Scope, Occurrence, access, increment_kind, reads, reads_all, term_reads, condition_reads, assignment_accesses, accesses, accesses_all, statement_count, statements_count, test_path}
use Rattle.meaning.specs.Groups.{right_accesses}
use Rattle.meaning.proofs.GroupReadings.{append_nil}
use Rattle.index_forms.specs.Formed.{Known}
use Rattle.index_forms.specs.Increments.{value_reads}
use Rattle.index_forms.specs.Loops.{written_in}
use Rattle.index_forms.specs.Walk.{Setting, without, known_after, known_inside, bounds_reads}
use Rattle.index_law.specs.Meetings.{In}
use Rattle.apart_law.specs.Spots.{Spot, Rest, spot_at, bounds_accesses, spots_of, spots_in, spots_in_arms}
use Rattle.apart_law.specs.Laid.{places, plain_scope}
use Rattle.apart_law.proofs.Laying.{flat_both, places_long, reads_places, terms_places, condition_places, bounds_places, target_places}
use Rattle.loop_scenes.specs.Rights.{marked, rights_by, rights_in, rights_in_arms}

abbrev pub falses : ℕ → List Bool
falses zero = []
falses (suc n) = false ∷ falses n

-- the accesses on the right side come first
abbrev pub spot_rights : (List ℕ → Bool) → Spot → List Bool
spot_rights on x = marked (on x.target) x.right ++ falses (length x.accesses - length x.right)

falses_long : (n : ℕ) → length (falses n) ≡ n
falses_long zero = refl
falses_long (suc n) = ap suc (falses_long n)

marked_long : (b : Bool) (os : List Occurrence) → length (marked b os) ≡ length os
marked_long b [] = refl
marked_long b (o ∷ os) = ap suc (marked_long b os)

marked_false : (os : List Occurrence) → marked false os ≡ falses (length os)
marked_false [] = refl
marked_false (o ∷ os) = ap (λ bs. false ∷ bs) (marked_false os)

same_marks : (b : Bool) (os ps : List Occurrence) → length os ≡ length ps → marked b os ≡ marked b ps
same_marks b [] [] e = refl
same_marks b [] (p ∷ ps) e = absurd (omega (arith, e))
same_marks b (o ∷ os) [] e = absurd (omega (arith, e))
same_marks b (o ∷ os) (p ∷ ps) e = ap (λ bs. b ∷ bs) (same_marks b os ps (omega (arith, e)))

by_places : (os ps : List Occurrence) → places os ≡ places ps → length os ≡ length ps
by_places os ps e =
    let a : length (places os) ≡ length os = places_long os in
    let b : length (places ps) ≡ length ps = places_long ps in
    let f : length (places os) ≡ length (places ps) = ap length e in
    omega (arith, a, b, f)

-- ---- right sides come first

-- the accesses begin with those on the right side
abbrev pub Begins : Spot → Type 0
Begins x = (rest : List Occurrence) × (x.accesses ≡ x.right ++ rest)

abbrev pub AllBegin : List Spot → Type 0
AllBegin [] = Unit {0}
AllBegin (x ∷ xs) = Begins x × AllBegin xs

begin_both : (xs ys : List Spot) → AllBegin xs → AllBegin ys → AllBegin (xs ++ ys)
begin_both [] ys h g = g
begin_both (x ∷ xs) ys h g = (h.0, begin_both xs ys h.1 g)

assignment_begins : (scope : Scope) (line : ℕ) (path : List PathStep) (atomic : Bool) (p : Designator) (e : Expression) (t : Option (List Signed)) → (rest : List Occurrence) × (assignment_accesses scope line path atomic p e t ≡ right_accesses scope line path e t ++ rest)
assignment_begins scope line path atomic p e None = (_, refl)
assignment_begins scope line path atomic p e (Some rs) = (_, refl)

module _ (c : Setting) where
  mutual
    begin_of : (n : ℕ) (k : Known) (path : List PathStep) (a : ℕ) (s : Statement) → AllBegin (spots_of c n k path a s)
    begin_of n k path a (assignment line atomic p e) = (assignment_begins c.scope line path atomic p e (increment_terms c.scope.ring p e), tt)
    begin_of n k path a (branch line arms other) = begin_of_arms line n (n + 1) 0 k path a arms (λ j h steps b. spots_in c j h steps b other) (λ j h steps b. begin_of_all j h steps b other)
    begin_of n k path a (loop line number directive var low high step body) =
        ((_, refl), begin_of_all (n + 1) (known_inside c.side number var body k) (path ++ Body n ∷ []) (a + length (bounds_accesses c.scope line path low high step)) body)

    pub begin_of_all : (n : ℕ) (k : Known) (path : List PathStep) (a : ℕ) (ss : Statements) → AllBegin (spots_in c n k path a ss)
    begin_of_all n k path a no_statements = tt
    begin_of_all n k path a (statement s ss) =
        begin_both (spots_of c n k path a s) (spots_in c (n + statement_count s) (known_after c.side n s k) path (a + length (accesses c.scope n path s)) ss) (begin_of n k path a s)
        (begin_of_all (n + statement_count s) (known_after c.side n s k) path (a + length (accesses c.scope n path s)) ss)

    begin_of_arms : (line n j m : ℕ) (k : Known) (path : List PathStep) (a : ℕ) (arms : Arms) (other : Rest) → ((i : ℕ) (h : Known) (steps : List PathStep) (b : ℕ) → AllBegin (other i h steps b)) → AllBegin (spots_in_arms c line n j m k path a arms other)
    begin_of_arms line n j m k path a no_arms other f = f j k (path ++ Arm n m ∷ []) a
    begin_of_arms line n j m k path a (arm test body arms) other f =
        let tests = condition_reads c.scope line (test_path path n m) test in
        let inner = accesses_all c.scope j (path ++ Arm n m ∷ []) body in (
          (_, refl),
          begin_both (spots_in c j k (path ++ Arm n m ∷ []) (a + length tests) body) (spots_in_arms c line n (j + statements_count body) (m + 1) (without (written_in body) k) path (a + length tests + length inner) arms other)
              (begin_of_all j k (path ++ Arm n m ∷ []) (a + length tests) body) (begin_of_arms line n (j + statements_count body) (m + 1) (without (written_in body) k) path (a + length tests + length inner) arms other f),
        )

pub begins_in : (xs : List Spot) → AllBegin xs → (x : Spot) → In x xs → Begins x
begins_in [] h x i = absurd i
begins_in (y ∷ xs) h x (inl e) = subst Begins e h.0
begins_in (y ∷ xs) h x (inr i) = begins_in xs h.1 x i

pub rights_as_many : (on : List ℕ → Bool) (x : Spot) → Begins x → length (spot_rights on x) ≡ length x.accesses
rights_as_many on x b =
    let w : length (marked (on x.target) x.right ++ falses (length x.accesses - length x.right)) ≡ length (marked (on x.target) x.right) + length (falses (length x.accesses - length x.right)) = length-append (marked (on x.target) x.right) (falses (length x.accesses - length x.right)) in
    let m : length (marked (on x.target) x.right) ≡ length x.right = marked_long (on x.target) x.right in
    let f : length (falses (length x.accesses - length x.right)) ≡ length x.accesses - length x.right = falses_long (length x.accesses - length x.right) in
    let e : length x.accesses ≡ length (x.right ++ b.0) = ap length b.1 in
    let g : length (x.right ++ b.0) ≡ length x.right + length b.0 = length-append x.right b.0 in
    omega (arith, w, m, f, e, g)

-- ---- the marks of statements are those of their spots

-- of a group, whose right side is some of the accesses
marks_are : (b : Bool) (right rest os ps : List Occurrence) → length right ≡ length os → length rest ≡ length ps → marked b right ++ marked false rest ≡ marked b os ++ falses (length (os ++ ps) - length os)
marks_are b right rest os ps e f =
    let w : length (os ++ ps) ≡ length os + length ps = length-append os ps in
    let n : length rest ≡ length (os ++ ps) - length os = omega (arith, w, f) in
    ap (λ (bs : List Bool). bs ++ marked false rest) (same_marks b right os e) ∙ ap (λ (bs : List Bool). marked b os ++ bs) (marked_false rest ∙ ap falses n)

assignment_marks : (scope : Scope) (line : ℕ) (path : List PathStep) (b : Bool) (atomic : Bool) (p : Designator) (e : Expression) (t : Option (List Signed)) →
    marked b (value_reads (plain_scope scope) e t) ++ marked false (reads_all (plain_scope scope) 0 [] p.subscripts ++ access (plain_scope scope) 0 [] Write p)
    ≡ marked b (right_accesses scope line path e t) ++ falses (length (assignment_accesses scope line path atomic p e t) - length (right_accesses scope line path e t))
assignment_marks scope line path b atomic p e None =
    marks_are b (reads (plain_scope scope) 0 [] e) (reads_all (plain_scope scope) 0 [] p.subscripts ++ access (plain_scope scope) 0 [] Write p) (reads scope line path e) (reads_all scope line path p.subscripts ++ access scope line path Write p)
    (by_places _ _ (reads_places scope line path e)) (by_places _ _ (target_places scope line path Write Write p))
assignment_marks scope line path b atomic p e (Some rs) =
    marks_are b (term_reads (plain_scope scope) 0 [] rs) (reads_all (plain_scope scope) 0 [] p.subscripts ++ access (plain_scope scope) 0 [] Write p) (term_reads scope line path rs) (reads_all scope line path p.subscripts ++ access scope line path (increment_kind atomic (scope.pluses p.name)) p)
    (by_places _ _ (terms_places scope line path rs)) (by_places _ _ (target_places scope line path Write (increment_kind atomic (scope.pluses p.name)) p))

unmarked : (on : List ℕ → Bool) (k : Known) (a : ℕ) (path : List PathStep) (os ps : List Occurrence) → length os ≡ length ps → marked false os ≡ spot_rights on (spot_at k a path ps)
unmarked on k a path os ps e = let n : length os ≡ length ps - 0 = omega (arith, e) in marked_false os ∙ ap falses n

module _ (c : Setting) (on : List ℕ → Bool) where
  abbrev plain : Scope
  plain = plain_scope c.scope

  mutual
    pub rights_of : (n : ℕ) (k : Known) (path : List PathStep) (a : ℕ) (s : Statement) → rights_by plain on s ≡ flat_map (spot_rights on) (spots_of c n k path a s)
    rights_of n k path a (assignment line atomic p e) =
        assignment_marks c.scope line path (on p.name) atomic p e (increment_terms c.scope.ring p e)
        ∙ sym (append_nil (marked (on p.name) (right_accesses c.scope line path e (increment_terms c.scope.ring p e)) ++ falses (length (accesses c.scope n path (assignment line atomic p e)) - length (right_accesses c.scope line path e (increment_terms c.scope.ring p e)))))
    rights_of n k path a (branch line arms other) =
        rights_of_arms line n (n + 1) 0 k path a arms (λ j h steps b. spots_in c j h steps b other) (rights_in plain on other) (λ j h steps b. rights_of_all j h steps b other)
    rights_of n k path a (loop line number directive var low high step body) =
        let os = bounds_accesses c.scope line path low high step in
        ap (λ (bs : List Bool). bs ++ rights_in plain on body) (unmarked on k a path (bounds_reads plain low high step) os (by_places _ _ (bounds_places c.scope line path low high step)))
        ∙ ap (λ (bs : List Bool). spot_rights on (spot_at k a path os) ++ bs) (rights_of_all (n + 1) (known_inside c.side number var body k) (path ++ Body n ∷ []) (a + length os) body)

    pub rights_of_all : (n : ℕ) (k : Known) (path : List PathStep) (a : ℕ) (ss : Statements) → rights_in plain on ss ≡ flat_map (spot_rights on) (spots_in c n k path a ss)
    rights_of_all n k path a no_statements = refl
    rights_of_all n k path a (statement s ss) =
        let xs = spots_of c n k path a s in
        let ys = spots_in c (n + statement_count s) (known_after c.side n s k) path (a + length (accesses c.scope n path s)) ss in
        ap (λ (bs : List Bool). bs ++ rights_in plain on ss) (rights_of n k path a s)
        ∙ (ap (λ (bs : List Bool). flat_map (spot_rights on) xs ++ bs) (rights_of_all (n + statement_count s) (known_after c.side n s k) path (a + length (accesses c.scope n path s)) ss)
        ∙ sym (flat_both (spot_rights on) xs ys))

    rights_of_arms : (line n j m : ℕ) (k : Known) (path : List PathStep) (a : ℕ) (arms : Arms) (other : Rest) (others : List Bool) → ((i : ℕ) (h : Known) (steps : List PathStep) (b : ℕ) → others ≡ flat_map (spot_rights on) (other i h steps b)) →
        rights_in_arms plain on arms ++ others ≡ flat_map (spot_rights on) (spots_in_arms c line n j m k path a arms other)
    rights_of_arms line n j m k path a no_arms other others f = f j k (path ++ Arm n m ∷ []) a
    rights_of_arms line n j m k path a (arm test body arms) other others f =
        let tests = condition_reads c.scope line (test_path path n m) test in
        let inner = accesses_all c.scope j (path ++ Arm n m ∷ []) body in
        let xs = spots_in c j k (path ++ Arm n m ∷ []) (a + length tests) body in
        let ys = spots_in_arms c line n (j + statements_count body) (m + 1) (without (written_in body) k) path (a + length tests + length inner) arms other in
        let first = marked false (condition_reads plain 0 [] test) in
        let z : (first ++ (rights_in plain on body ++ rights_in_arms plain on arms)) ++ others ≡ first ++ (rights_in plain on body ++ (rights_in_arms plain on arms ++ others)) = simp append_assoc in
        z
        ∙ (ap (λ (bs : List Bool). bs ++ (rights_in plain on body ++ (rights_in_arms plain on arms ++ others))) (unmarked on k a (test_path path n m) (condition_reads plain 0 [] test) tests (by_places _ _ (condition_places c.scope line (test_path path n m) test)))
        ∙ ap (λ (bs : List Bool). spot_rights on (spot_at k a (test_path path n m) tests) ++ bs)
        (ap (λ (bs : List Bool). bs ++ (rights_in_arms plain on arms ++ others)) (rights_of_all j k (path ++ Arm n m ∷ []) (a + length tests) body)
        ∙ (ap (λ (bs : List Bool). flat_map (spot_rights on) xs ++ bs) (rights_of_arms line n (j + statements_count body) (m + 1) (without (written_in body) k) path (a + length tests + length inner) arms other others f)
        ∙ sym (flat_both (spot_rights on) xs ys))))
