-- The forms of a loop's accesses are as many as the accesses, and each list of them as long as the access's subscripts.
use Rattle.std.proofs.Common.{◌≡◌, ℕ, suc, ◌+◌, Bool, true, false, if◌then◌else◌, List, [], ◌∷◌, ◌++◌, length, map, Option, Some, None, refl, sym, ap, ◌∙◌, append_assoc, arith}
use Rattle.std.proofs.lemmas.List.{map-append, append-nil}
use Rattle.fl_ast.specs.declared.decl.Decl.{Decl}
use Rattle.fl_ast.specs.Tree.{Expression, literal, get, minus, binary, power, call, Expressions, no_expressions, expression, Designator, Condition, relation, negation, conjunction, disjunction, Statement, assignment, branch, loop, Statements, no_statements, statement, Arms, no_arms, arm}
use Rattle.fl_types.specs.declared.access.AccessKind.{AccessKind}
use Rattle.fl_types.specs.declared.access.AccessKind.TheVariants.{Read, Write}
use Rattle.fl_types.specs.declared.access.PathStep.{PathStep}
use Rattle.fl_types.specs.declared.access.PathStep.TheVariants as step
use Rattle.fl_types.specs.Increment.{Signed, increment_terms}
use Rattle.fl_types.specs.Kinds.{expression_count}
use Rattle.fl_types.specs.Sharing.{is_ring_name, is_plus, sharing_in, makes_accesses}
use Rattle.fl_types.specs.Accesses.{Scope, Occurrence, access, reads, reads_all, condition_reads, step_reads, term_reads, increment_kind, assignment_accesses, statement_count, statements_count, test_path, accesses, accesses_all, arms_accesses, loop_accesses}
use Rattle.index_forms.specs.declared.form.Side.{Side}
use Rattle.index_forms.specs.Form.{Forms}
use Rattle.index_forms.specs.Formed.{Known, Viewed, formed, formed_all, subscript_forms}
use Rattle.index_forms.specs.Loops.{HeadedLoop, written_in, inside, known_at_start, is_fixed}
use Rattle.index_forms.specs.Walk.{Setting, Rest, viewed, without, known_after, known_inside, with_group, bounds_reads, with_statement, with_statements, with_arms, loop_forms}
use Rattle.certificate_rules.specs.Surveys.{count_of}

abbrev pub rank_of : Occurrence → ℕ
rank_of o = expression_count o.place.subscripts

abbrev pub ranks : List Occurrence → List ℕ
ranks os = map rank_of os

abbrev pub counts : List Forms → List ℕ
counts fs = map count_of fs

regroup : (as' bs cs ds : List Occurrence) → (as' ++ (bs ++ cs)) ++ ds ≡ as' ++ (bs ++ (cs ++ ds))
regroup as' bs cs ds = append_assoc as' (bs ++ cs) ds ∙ ap (λ (l : List Occurrence). as' ++ l) (append_assoc bs cs ds)

-- ---- forms of one access

pub forms_count : (c : Viewed) (n : ℕ) (ss : Expressions) → count_of (formed_all c n ss).forms ≡ expression_count ss
forms_count c n no_expressions = refl
forms_count c n (expression e es) = let r : count_of (formed_all c (formed c n e).next es).forms ≡ expression_count es = forms_count c (formed c n e).next es in omega (arith, r)

group_counts : (c : Setting) (k : Known) (os : List Occurrence) (fs : List Forms) → counts (with_group c k os fs) ≡ counts fs ++ ranks os
group_counts c k [] fs = sym (append-nil (counts fs))
group_counts c k (o ∷ os) fs =
    group_counts c k os (fs ++ subscript_forms (viewed c k (suc (length fs))) o.place.subscripts ∷ [])
    ∙ ap (λ (l : List ℕ). l ++ ranks os) (map-append count_of fs (subscript_forms (viewed c k (suc (length fs))) o.place.subscripts ∷ []))
    ∙ append_assoc (counts fs) (count_of (subscript_forms (viewed c k (suc (length fs))) o.place.subscripts) ∷ []) (ranks os)
    ∙ ap (λ (n : ℕ). counts fs ++ n ∷ ranks os) (forms_count (viewed c k (suc (length fs))) 0 o.place.subscripts)

-- ---- lines, paths, and which names are reductions, play no part

module _ (accessed pluses ring : List ℕ → Bool) where
  abbrev here : Scope
  here = record { accessed = accessed; pluses = pluses; ring = ring }

  abbrev there : Scope
  there = record { accessed = accessed; pluses = λ x. false; ring = ring }

  both : (as' bs cs ds : List Occurrence) → ranks as' ≡ ranks cs → ranks bs ≡ ranks ds → ranks (as' ++ bs) ≡ ranks (cs ++ ds)
  both as' bs cs ds e d = map-append rank_of as' bs ∙ (ap (λ (l : List ℕ). l ++ ranks bs) e ∙ (ap (λ (l : List ℕ). ranks cs ++ l) d ∙ sym (map-append rank_of cs ds)))

  one : (line : ℕ) (path : List PathStep) (j k : AccessKind) (p : Designator) → ranks (access here line path j p) ≡ ranks (access there 0 [] k p)
  one line path j k p = by_test (accessed p.name)
    where
      by_test : (b : Bool) → ranks (if b then record { line = line; place = p; path = path; kind = j } ∷ [] else []) ≡ ranks (if b then record { line = 0; place = p; path = []; kind = k } ∷ [] else [])
      by_test true = refl
      by_test false = refl

  mutual
    reads_are : (line : ℕ) (path : List PathStep) (e : Expression) → ranks (reads here line path e) ≡ ranks (reads there 0 [] e)
    reads_are line path (literal n k) = refl
    reads_are line path (get x s) =
        both (reads_all here line path s) (access here line path Read (record { name = x; subscripts = s })) (reads_all there 0 [] s) (access there 0 [] Read (record { name = x; subscripts = s })) (all_reads_are line path s) (one line path Read Read (record { name = x; subscripts = s }))
    reads_are line path (minus e) = reads_are line path e
    reads_are line path (binary o d e) = both (reads here line path d) (reads here line path e) (reads there 0 [] d) (reads there 0 [] e) (reads_are line path d) (reads_are line path e)
    reads_are line path (power e n) = reads_are line path e
    reads_are line path (call f s) = all_reads_are line path s

    all_reads_are : (line : ℕ) (path : List PathStep) (s : Expressions) → ranks (reads_all here line path s) ≡ ranks (reads_all there 0 [] s)
    all_reads_are line path no_expressions = refl
    all_reads_are line path (expression e s) = both (reads here line path e) (reads_all here line path s) (reads there 0 [] e) (reads_all there 0 [] s) (reads_are line path e) (all_reads_are line path s)

  conditions_are : (line : ℕ) (path : List PathStep) (t : Condition) → ranks (condition_reads here line path t) ≡ ranks (condition_reads there 0 [] t)
  conditions_are line path (relation o d e) = both (reads here line path d) (reads here line path e) (reads there 0 [] d) (reads there 0 [] e) (reads_are line path d) (reads_are line path e)
  conditions_are line path (negation t) = conditions_are line path t
  conditions_are line path (conjunction t u) = both (condition_reads here line path t) (condition_reads here line path u) (condition_reads there 0 [] t) (condition_reads there 0 [] u) (conditions_are line path t) (conditions_are line path u)
  conditions_are line path (disjunction t u) = both (condition_reads here line path t) (condition_reads here line path u) (condition_reads there 0 [] t) (condition_reads there 0 [] u) (conditions_are line path t) (conditions_are line path u)

  step_is : (line : ℕ) (path : List PathStep) (s : Option Expression) → ranks (step_reads here line path s) ≡ ranks (step_reads there 0 [] s)
  step_is line path None = refl
  step_is line path (Some e) = reads_are line path e

  terms_are : (line : ℕ) (path : List PathStep) (rs : List Signed) → ranks (term_reads here line path rs) ≡ ranks (term_reads there 0 [] rs)
  terms_are line path [] = refl
  terms_are line path (r ∷ rs) = both (reads here line path r.1) (term_reads here line path rs) (reads there 0 [] r.1) (term_reads there 0 [] rs) (reads_are line path r.1) (terms_are line path rs)

  target_is : (line : ℕ) (path : List PathStep) (j k : AccessKind) (p : Designator) →
      ranks (reads_all here line path p.subscripts ++ access here line path j p) ≡ ranks (reads_all there 0 [] p.subscripts ++ access there 0 [] k p)
  target_is line path j k p =
      both (reads_all here line path p.subscripts) (access here line path j p) (reads_all there 0 [] p.subscripts) (access there 0 [] k p) (all_reads_are line path p.subscripts) (one line path j k p)

  assignment_is : (line : ℕ) (path : List PathStep) (atomic : Bool) (p : Designator) (e : Expression) (o : Option (List Signed)) →
      ranks (assignment_accesses here line path atomic p e o) ≡ ranks (assignment_accesses there 0 [] atomic p e o)
  assignment_is line path atomic p e None =
      both (reads here line path e) (reads_all here line path p.subscripts ++ access here line path Write p) (reads there 0 [] e) (reads_all there 0 [] p.subscripts ++ access there 0 [] Write p)
      (reads_are line path e) (target_is line path Write Write p)
  assignment_is line path atomic p e (Some rs) =
      both (term_reads here line path rs) (reads_all here line path p.subscripts ++ access here line path (increment_kind atomic (pluses p.name)) p) (term_reads there 0 [] rs)
      (reads_all there 0 [] p.subscripts ++ access there 0 [] (increment_kind atomic false) p) (terms_are line path rs) (target_is line path (increment_kind atomic (pluses p.name)) (increment_kind atomic false) p)

  bounds_are : (line : ℕ) (path : List PathStep) (d e : Expression) (s : Option Expression) →
      ranks (reads here line path d ++ (reads here line path e ++ step_reads here line path s)) ≡ ranks (bounds_reads there d e s)
  bounds_are line path d e s =
      both (reads here line path d) (reads here line path e ++ step_reads here line path s) (reads there 0 [] d) (reads there 0 [] e ++ step_reads there 0 [] s) (reads_are line path d)
      (both (reads here line path e) (step_reads here line path s) (reads there 0 [] e) (step_reads there 0 [] s) (reads_are line path e) (step_is line path s))

  -- ---- walks

  module _ (side : Side) (fixed : List ℕ → Bool) where
    abbrev c : Setting
    c = record { side = side; scope = there; fixed = fixed }

    -- what a part adds
    group_is : (k : Known) (os ps : List Occurrence) (fs : List Forms) → ranks ps ≡ ranks os → counts (with_group c k os fs) ≡ counts fs ++ ranks ps
    group_is k os ps fs e = group_counts c k os fs ∙ ap (λ (l : List ℕ). counts fs ++ l) (sym e)

    adding : (fs gs hs : List Forms) (os ps : List Occurrence) → counts gs ≡ counts fs ++ ranks os → counts hs ≡ counts gs ++ ranks ps → counts hs ≡ counts fs ++ ranks (os ++ ps)
    adding fs gs hs os ps e d =
        d ∙ (ap (λ (l : List ℕ). l ++ ranks ps) e ∙ (append_assoc (counts fs) (ranks os) (ranks ps) ∙ ap (λ (l : List ℕ). counts fs ++ l) (sym (map-append rank_of os ps))))

    mutual
      statement_is : (n m : ℕ) (k : Known) (path : List PathStep) (s : Statement) (fs : List Forms) → counts (with_statement c n k s fs) ≡ counts fs ++ ranks (accesses here m path s)
      statement_is n m k path (assignment line atomic p e) fs =
          group_is k (assignment_accesses there 0 [] atomic p e (increment_terms ring p e)) (assignment_accesses here line path atomic p e (increment_terms ring p e)) fs (assignment_is line path atomic p e (increment_terms ring p e))
      statement_is n m k path (branch line arms other) fs =
          arms_are (n + 1) line m (m + 1) 0 k path arms (λ j h gs. with_statements c j h other gs) (λ i q. accesses_all here i q other) (λ j h gs i q. statements_are j i h q other gs) fs
      statement_is n m k path (loop line number directive var low high s body) fs =
          let low_is = bounds_are line path low high s in
          let g = with_group c k (bounds_reads there low high s) fs in
          let h = with_statements c (n + 1) (known_inside side number var body k) body g in
          adding fs g h (reads here line path low ++ (reads here line path high ++ step_reads here line path s)) (accesses_all here (m + 1) (path ++ step.Body m ∷ []) body)
          (group_is k (bounds_reads there low high s) (reads here line path low ++ (reads here line path high ++ step_reads here line path s)) fs low_is)
          (statements_are (n + 1) (m + 1) (known_inside side number var body k) (path ++ step.Body m ∷ []) body g)
          ∙ ap (λ (os : List Occurrence). counts fs ++ ranks os) (regroup (reads here line path low) (reads here line path high) (step_reads here line path s) (accesses_all here (m + 1) (path ++ step.Body m ∷ []) body))

      statements_are : (n m : ℕ) (k : Known) (path : List PathStep) (ss : Statements) (fs : List Forms) → counts (with_statements c n k ss fs) ≡ counts fs ++ ranks (accesses_all here m path ss)
      statements_are n m k path no_statements fs = sym (append-nil (counts fs))
      statements_are n m k path (statement s ss) fs =
          let g = with_statement c n k s fs in
          adding fs g (with_statements c (n + statement_count s) (known_after side n s k) ss g) (accesses here m path s) (accesses_all here (m + statement_count s) path ss)
          (statement_is n m k path s fs) (statements_are (n + statement_count s) (m + statement_count s) (known_after side n s k) path ss g)

      arms_are : (n line m i at : ℕ) (k : Known) (path : List PathStep) (arms : Arms) (rest : Rest) (other : ℕ → List PathStep → List Occurrence) →
          ((j : ℕ) (h : Known) (gs : List Forms) (l : ℕ) (q : List PathStep) → counts (rest j h gs) ≡ counts gs ++ ranks (other l q)) →
          (fs : List Forms) → counts (with_arms c n k arms rest fs) ≡ counts fs ++ ranks (arms_accesses here line m i at path arms other)
      arms_are n line m i at k path no_arms rest other w fs = w n k fs i (path ++ step.Arm m at ∷ [])
      arms_are n line m i at k path (arm test body arms) rest other w fs =
          let g = with_group c k (condition_reads there 0 [] test) fs in
          let h = with_statements c n k body g in
          let after = with_arms c (n + statements_count body) (without (written_in body) k) arms rest h in
          adding fs g after (condition_reads here line (test_path path m at) test) (accesses_all here i (path ++ step.Arm m at ∷ []) body ++ arms_accesses here line m (i + statements_count body) (at + 1) path arms other)
          (group_is k (condition_reads there 0 [] test) (condition_reads here line (test_path path m at) test) fs (conditions_are line (test_path path m at) test))
          (adding g h after (accesses_all here i (path ++ step.Arm m at ∷ []) body) (arms_accesses here line m (i + statements_count body) (at + 1) path arms other)
          (statements_are n i k (path ++ step.Arm m at ∷ []) body g)
          (arms_are (n + statements_count body) line m (i + statements_count body) (at + 1) (without (written_in body) k) path arms rest other w h))

-- of a whole loop
pub loop_counts : (decls : List Decl) (l : HeadedLoop) (side : Side) → counts (loop_forms decls l side) ≡ ranks (loop_accesses decls l.loop)
loop_counts decls l side =
    statements_are (λ x. makes_accesses l.loop.outer l.loop.var l.loop.directive l.loop.body x) (λ x. is_plus (sharing_in l.loop.var l.loop.directive l.loop.body x)) (is_ring_name decls)
    side (is_fixed decls l) 1 1 (known_at_start side l) [] (inside l) []
