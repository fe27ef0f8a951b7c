-- For each access of a known loop it is said whether it is in a right side.
use Rattle.std.proofs.Common.{◌≡◌, ℕ, suc, ◌+◌, Bool, true, false, if◌then◌else◌, List, [], ◌∷◌, ◌++◌, length, Option, Some, None, refl, ap, ◌∙◌, arith, length-append}
use Rattle.fl_ast.specs.declared.decl.Decl.{Decl}
use Rattle.fl_ast.specs.Tree.{Expression, Designator, Statement, assignment, branch, loop, Statements, no_statements, statement, Arms, no_arms, arm}
use Rattle.fl_types.specs.declared.access.AccessKind.{AccessKind}
use Rattle.fl_types.specs.declared.access.AccessKind.TheVariants.{Write}
use Rattle.fl_types.specs.Increment.{Signed, increment_terms}
use Rattle.fl_types.specs.Accesses.{Scope, Occurrence, access, reads, reads_all, condition_reads, term_reads, increment_kind, assignment_accesses, statement_count, statements_count}
use Rattle.index_forms.specs.declared.form.Side.TheVariants.{One}
use Rattle.index_forms.specs.Form.{Forms}
use Rattle.index_forms.specs.Formed.{Known, subscript_forms}
use Rattle.index_forms.specs.Increments.{value_reads}
use Rattle.index_forms.specs.Loops.{HeadedLoop, inside, written_in, known_at_start}
use Rattle.index_forms.specs.Walk.{Setting, Rest, viewed, without, known_after, known_inside, with_group, bounds_reads, with_statement, with_statements, with_arms, setting_of}
use Rattle.certificate_rules.specs.Surveys.{IsSurvey}
use Rattle.loop_scenes.specs.Rights.{marked, rights_by, rights_in, rights_in_arms}
use Rattle.loop_pairs.specs.Known.{survey_by, known_loop}

marked_long : (b : Bool) (os : List Occurrence) → length (marked b os) ≡ length os
marked_long b [] = refl
marked_long b (o ∷ os) = ap suc (marked_long b os)

two_marked : (b c : Bool) (os ps : List Occurrence) → length (marked b os ++ marked c ps) ≡ length (os ++ ps)
two_marked b c os ps =
    let left : length (marked b os ++ marked c ps) ≡ length (marked b os) + length (marked c ps) = length-append (marked b os) (marked c ps) in
    let right : length (os ++ ps) ≡ length os + length ps = length-append os ps in
    let m : length (marked b os) ≡ length os = marked_long b os in
    let n : length (marked c ps) ≡ length ps = marked_long c ps in
    omega (arith, left, right, m, n)

abbrev one_access : AccessKind → Designator → List Occurrence
one_access k p = record { line = 0; place = p; path = []; kind = k } ∷ []

any_kind : (c : Scope) (j k : AccessKind) (p : Designator) → length (access c 0 [] j p) ≡ length (access c 0 [] k p)
any_kind c j k p = by_test (c.accessed p.name)
  where
    by_test : (q : Bool) → length (if q then one_access j p else []) ≡ length (if q then one_access k p else [])
    by_test true = refl
    by_test false = refl

same_parts : (as' bs cs ds : List Occurrence) → length cs ≡ length ds → length (as' ++ (bs ++ cs)) ≡ length (as' ++ (bs ++ ds))
same_parts as' bs cs ds e =
    let a : length (as' ++ (bs ++ cs)) ≡ length as' + length (bs ++ cs) = length-append as' (bs ++ cs) in
    let b : length (bs ++ cs) ≡ length bs + length cs = length-append bs cs in
    let d : length (as' ++ (bs ++ ds)) ≡ length as' + length (bs ++ ds) = length-append as' (bs ++ ds) in
    let f : length (bs ++ ds) ≡ length bs + length ds = length-append bs ds in
    omega (arith, a, b, d, f, e)

assignment_is : (c : Scope) (b : Bool) (atomic : Bool) (p : Designator) (e : Expression) (o : Option (List Signed)) →
    length (marked b (value_reads c e o) ++ marked false (reads_all c 0 [] p.subscripts ++ access c 0 [] Write p)) ≡ length (assignment_accesses c 0 [] atomic p e o)
assignment_is c b atomic p e None = two_marked b false (reads c 0 [] e) (reads_all c 0 [] p.subscripts ++ access c 0 [] Write p)
assignment_is c b atomic p e (Some rs) =
    two_marked b false (term_reads c 0 [] rs) (reads_all c 0 [] p.subscripts ++ access c 0 [] Write p)
    ∙ same_parts (term_reads c 0 [] rs) (reads_all c 0 [] p.subscripts) (access c 0 [] Write p) (access c 0 [] (increment_kind atomic (c.pluses p.name)) p) (any_kind c Write (increment_kind atomic (c.pluses p.name)) p)

group_is : (c : Setting) (k : Known) (os : List Occurrence) (fs : List Forms) → length (with_group c k os fs) ≡ length fs + length os
group_is c k [] fs = omega arith
group_is c k (o ∷ os) fs =
    let more = fs ++ subscript_forms (viewed c k (suc (length fs))) o.place.subscripts ∷ [] in
    let e : length (with_group c k os more) ≡ length more + length os = group_is c k os more in
    let d : length more ≡ length fs + 1 = length-append fs (subscript_forms (viewed c k (suc (length fs))) o.place.subscripts ∷ []) in
    omega (arith, e, d)

module _ (c : Setting) (on : List ℕ → Bool) where
  mutual
    statement_is : (n : ℕ) (k : Known) (s : Statement) (fs : List Forms) → length (with_statement c n k s fs) ≡ length fs + length (rights_by c.scope on s)
    statement_is n k (assignment line atomic p e) fs =
        let g : length (with_statement c n k (assignment line atomic p e) fs) ≡ length fs + length (assignment_accesses c.scope 0 [] atomic p e (increment_terms c.scope.ring p e)) =
        group_is c k (assignment_accesses c.scope 0 [] atomic p e (increment_terms c.scope.ring p e)) fs in
        let m : length (rights_by c.scope on (assignment line atomic p e)) ≡ length (assignment_accesses c.scope 0 [] atomic p e (increment_terms c.scope.ring p e)) =
        assignment_is c.scope (on p.name) atomic p e (increment_terms c.scope.ring p e) in
        omega (arith, g, m)
    statement_is n k (branch line arms other) fs =
        let a : length (with_arms c (n + 1) k arms (λ j h. with_statements c j h other) fs) ≡ length fs + (length (rights_in_arms c.scope on arms) + length (rights_in c.scope on other)) =
        arms_are (n + 1) k arms (λ j h. with_statements c j h other) (length (rights_in c.scope on other)) (λ j h gs. statements_are j h other gs) fs in
        let b : length (rights_in_arms c.scope on arms ++ rights_in c.scope on other) ≡ length (rights_in_arms c.scope on arms) + length (rights_in c.scope on other) = length-append (rights_in_arms c.scope on arms) (rights_in c.scope on other) in
        omega (arith, a, b)
    statement_is n k (loop line number directive var low high s body) fs =
        let g = with_group c k (bounds_reads c.scope low high s) fs in
        let a : length g ≡ length fs + length (bounds_reads c.scope low high s) = group_is c k (bounds_reads c.scope low high s) fs in
        let b : length (with_statements c (n + 1) (known_inside c.side number var body k) body g) ≡ length g + length (rights_in c.scope on body) = statements_are (n + 1) (known_inside c.side number var body k) body g in
        let m : length (marked false (bounds_reads c.scope low high s)) ≡ length (bounds_reads c.scope low high s) = marked_long false (bounds_reads c.scope low high s) in
        let d : length (marked false (bounds_reads c.scope low high s) ++ rights_in c.scope on body) ≡ length (marked false (bounds_reads c.scope low high s)) + length (rights_in c.scope on body) =
        length-append (marked false (bounds_reads c.scope low high s)) (rights_in c.scope on body) in
        omega (arith, a, b, m, d)

    statements_are : (n : ℕ) (k : Known) (ss : Statements) (fs : List Forms) → length (with_statements c n k ss fs) ≡ length fs + length (rights_in c.scope on ss)
    statements_are n k no_statements fs = omega arith
    statements_are n k (statement s ss) fs =
        let g = with_statement c n k s fs in
        let a : length g ≡ length fs + length (rights_by c.scope on s) = statement_is n k s fs in
        let b : length (with_statements c (n + statement_count s) (known_after c.side n s k) ss g) ≡ length g + length (rights_in c.scope on ss) = statements_are (n + statement_count s) (known_after c.side n s k) ss g in
        let d : length (rights_by c.scope on s ++ rights_in c.scope on ss) ≡ length (rights_by c.scope on s) + length (rights_in c.scope on ss) = length-append (rights_by c.scope on s) (rights_in c.scope on ss) in
        omega (arith, a, b, d)

    arms_are : (n : ℕ) (k : Known) (arms : Arms) (rest : Rest) (q : ℕ) → ((j : ℕ) (h : Known) (gs : List Forms) → length (rest j h gs) ≡ length gs + q) →
        (fs : List Forms) → length (with_arms c n k arms rest fs) ≡ length fs + (length (rights_in_arms c.scope on arms) + q)
    arms_are n k no_arms rest q w fs = let e : length (rest n k fs) ≡ length fs + q = w n k fs in omega (arith, e)
    arms_are n k (arm test body arms) rest q w fs =
        let g = with_group c k (condition_reads c.scope 0 [] test) fs in
        let h = with_statements c n k body g in
        let a : length g ≡ length fs + length (condition_reads c.scope 0 [] test) = group_is c k (condition_reads c.scope 0 [] test) fs in
        let b : length h ≡ length g + length (rights_in c.scope on body) = statements_are n k body g in
        let d : length (with_arms c (n + statements_count body) (without (written_in body) k) arms rest h) ≡ length h + (length (rights_in_arms c.scope on arms) + q) =
        arms_are (n + statements_count body) (without (written_in body) k) arms rest q w h in
        let m : length (marked false (condition_reads c.scope 0 [] test)) ≡ length (condition_reads c.scope 0 [] test) = marked_long false (condition_reads c.scope 0 [] test) in
        let u : length (marked false (condition_reads c.scope 0 [] test) ++ (rights_in c.scope on body ++ rights_in_arms c.scope on arms)) ≡ length (marked false (condition_reads c.scope 0 [] test)) + length (rights_in c.scope on body ++ rights_in_arms c.scope on arms) =
        length-append (marked false (condition_reads c.scope 0 [] test)) (rights_in c.scope on body ++ rights_in_arms c.scope on arms) in
        let v : length (rights_in c.scope on body ++ rights_in_arms c.scope on arms) ≡ length (rights_in c.scope on body) + length (rights_in_arms c.scope on arms) = length-append (rights_in c.scope on body) (rights_in_arms c.scope on arms) in
        omega (arith, a, b, d, m, u, v)

pub rights_long : (decls : List Decl) (on : List ℕ → Bool) (l : HeadedLoop) → IsSurvey (survey_by decls l) → length (known_loop decls on l).rights ≡ length (known_loop decls on l).survey.accesses
rights_long decls on l w =
    let e : length (survey_by decls l).ones ≡ 0 + length (known_loop decls on l).rights = statements_are (setting_of decls l One) on 1 (known_at_start One l) (inside l) [] in
    let d : length (survey_by decls l).ones ≡ length (survey_by decls l).accesses = w.ones in
    omega (arith, e, d)
