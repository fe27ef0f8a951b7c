-- All names of a program whose kinds fit have slots, and they aren't too many.
use Rattle.std.specs.Prelude.{◌≡◌, ℕ, ◌+◌, ◌≤◌, ◌<◌, Bool, true, false, cond, bytes_eq, is_some, List, [], ◌∷◌, ◌++◌, length, Option, Some, None, refl}
use Rattle.std.specs.List.{list_any}
use Rattle.std.proofs.Common.{ap, ◌∙◌, arith, length-append}
use Rattle.std.proofs.lemmas.Bool.{and_parts, and_from}
use Rattle.fl_ast.specs.declared.decl.Decl.{Decl}
use Rattle.fl_ast.specs.Tree.{Expression, literal, get, minus, binary, power, call, Expressions, no_expressions, expression, Condition, relation, negation, conjunction, disjunction, Statement, assignment, branch, loop, Statements, no_statements, statement, Arms, no_arms, arm}
use Rattle.fl_types.specs.Kinds.{Names, is_well_kinded, are_well_kinded, is_well_kinded_condition, is_index_expression, is_index_step, is_index_kind, is_index_scalar, kind_of_expression, kinds_of_expressions, takes_operands, takes_arguments, takes_value, kind_of_name, has_scalar_privates, expression_count, is_well_kinded_head, is_well_kinded_statement, are_well_kinded_statements, are_well_kinded_arms, declared_names}
use Rattle.fl_types.specs.Increment.{target_of}
use Rattle.store_core.specs.declared.layout.Shape.{Shape}
use Rattle.store_core.specs.Keys.{keys_of, keys_of_shape, slot_of, scalar, laid, with_scalars}
use Rattle.resolved.specs.ResolvedExprs.{is_placed, are_placed, is_condition_placed}
use Rattle.resolved.specs.ResolvedStmts.{is_option_placed, is_statement_placed, are_statements_placed, are_arms_placed}
use Rattle.dual_meaning.proofs.Names.{declared_slot}

module _ (ds : List Decl) (es : List Shape) where
  abbrev names : Names
  names = declared_names ds

  abbrev all : List Shape
  all = with_scalars es ds

  slot : (x : List ℕ) (n : ℕ) → names.has_rank x n ≡ true → is_some (slot_of all x) ≡ true
  slot x n h = declared_slot es ds x n h

  mutual
    placed : (e : Expression) → is_well_kinded names e ≡ true → is_placed all e ≡ true
    placed (literal n k) h = refl
    placed (get x ss) h =
        let p = and_parts (names.has_rank x (expression_count ss)) _ h in
        let q = and_parts (are_well_kinded names ss) _ p.1 in
        and_from _ _ (slot x (expression_count ss) p.0) (all_placed ss q.0)
    placed (minus a) h = placed a h
    placed (binary op a b) h =
        let p = and_parts (takes_operands op (kind_of_expression names a) (kind_of_expression names b)) _ h in
        let q = and_parts (is_well_kinded names a) _ p.1 in
        and_from _ _ (placed a q.0) (placed b q.1)
    placed (power a n) h = placed a h
    placed (call f ss) h = all_placed ss (and_parts (takes_arguments f (kinds_of_expressions names ss)) _ h).1

    all_placed : (ss : Expressions) → are_well_kinded names ss ≡ true → are_placed all ss ≡ true
    all_placed no_expressions h = refl
    all_placed (expression e ss) h = let p = and_parts (is_well_kinded names e) _ h in and_from _ _ (placed e p.0) (all_placed ss p.1)

  condition_placed : (c : Condition) → is_well_kinded_condition names c ≡ true → is_condition_placed all c ≡ true
  condition_placed (relation o a b) h = let p = and_parts (is_well_kinded names a) _ h in and_from _ _ (placed a p.0) (placed b p.1)
  condition_placed (negation a) h = condition_placed a h
  condition_placed (conjunction a b) h = let p = and_parts (is_well_kinded_condition names a) _ h in and_from _ _ (condition_placed a p.0) (condition_placed b p.1)
  condition_placed (disjunction a b) h = let p = and_parts (is_well_kinded_condition names a) _ h in and_from _ _ (condition_placed a p.0) (condition_placed b p.1)

  index_placed : (e : Expression) → is_index_expression names e ≡ true → is_placed all e ≡ true
  index_placed e h = placed e (and_parts (is_index_kind (kind_of_expression names e)) _ h).1

  step_placed : (o : Option Expression) → is_index_step names o ≡ true → is_option_placed all o ≡ true
  step_placed None h = refl
  step_placed (Some e) h = index_placed e h

  mutual
    statement_placed : (s : Statement) → is_well_kinded_statement names s ≡ true → is_statement_placed all s ≡ true
    statement_placed (assignment line atomic p e) h =
        let a = and_parts (takes_value (kind_of_name names p.name) (kind_of_expression names e)) _ h in
        let b = and_parts (is_well_kinded names (target_of p)) _ a.1 in
        and_from _ _ (placed e b.1) (placed (target_of p) b.0)
    statement_placed (branch line arms other) h =
        let p = and_parts (are_well_kinded_arms names arms) _ h in
        and_from _ _ (arms_placed arms p.0) (statements_placed other p.1)
    statement_placed (loop line number directive var first last step body) h =
        let a = and_parts (is_well_kinded_head names var first last step) _ h in
        let b = and_parts (is_index_scalar names var) _ a.0 in
        let c = and_parts (is_index_expression names first) _ b.1 in
        let d = and_parts (is_index_expression names last) _ c.1 in
        let v = and_parts (is_index_kind (kind_of_name names var)) _ b.0 in
        let e = and_parts (has_scalar_privates names directive) _ a.1 in
        and_from _ _ (and_from _ _ (slot var 0 v.1) (and_from _ _ (index_placed first c.0) (and_from _ _ (index_placed last d.0) (step_placed step d.1)))) (statements_placed body e.1)

    statements_placed : (ss : Statements) → are_well_kinded_statements names ss ≡ true → are_statements_placed all ss ≡ true
    statements_placed no_statements h = refl
    statements_placed (statement s ss) h = let p = and_parts (is_well_kinded_statement names s) _ h in and_from _ _ (statement_placed s p.0) (statements_placed ss p.1)

    arms_placed : (a : Arms) → are_well_kinded_arms names a ≡ true → are_arms_placed all a ≡ true
    arms_placed no_arms h = refl
    arms_placed (arm test body arms) h =
        let p = and_parts (is_well_kinded_condition names test) _ h in
        let q = and_parts (are_well_kinded_statements names body) _ p.1 in
        and_from _ _ (and_from _ _ (condition_placed test p.0) (statements_placed body q.0)) (arms_placed arms q.1)

-- no name is without a slot
pub never_unplaced : (ds : List Decl) (es all : List Shape) (body : Statements) → all ≡ with_scalars es ds → are_well_kinded_statements (declared_names ds) body ≡ true → are_statements_placed all body ≡ false → ⊥
never_unplaced ds es all body a k f = let g = statements_placed ds es body k in let e : are_statements_placed all body ≡ true = ap (λ x. are_statements_placed x body) a ∙ g in absurd (cc)

-- ---- how many places

keys_more : (es : List Shape) (s : Shape) → length (keys_of (es ++ s ∷ [])) ≡ length (keys_of es) + length (keys_of_shape s)
keys_more [] s = let h = length-append (keys_of_shape s) [] in omega (arith, h)
keys_more (e ∷ es) s =
    length-append (keys_of_shape e) (keys_of (es ++ s ∷ [])) ∙ (let h = keys_more es s in let g = length-append (keys_of_shape e) (keys_of es) in omega (arith, h, g))

laid_few : (es : List Shape) (x : List ℕ) → length (keys_of (laid es (scalar x))) ≤ length (keys_of es) + 1
laid_few es x = by_test (list_any (λ (e : Shape). bytes_eq x e.name) es)
  where
    by_test : (b : Bool) → length (keys_of (cond b es (es ++ scalar x ∷ []))) ≤ length (keys_of es) + 1
    by_test true = omega arith
    by_test false = let h = keys_more es (scalar x) in omega (arith, h)

pub few : (es : List Shape) (ds : List Decl) → length (keys_of (with_scalars es ds)) ≤ length (keys_of es) + length ds
few es [] = omega arith
few es (d ∷ ds) = let h = few (laid es (scalar d.name)) ds in let g = laid_few es d.name in omega (arith, h, g)

pub never_many : (es : List Shape) (ds : List Decl) → length (keys_of es) + length ds ≤ 2097152 → 2097152 < length (keys_of (with_scalars es ds)) → ⊥
never_many es ds h m = let f = few es ds in omega (arith, f, h, m)
