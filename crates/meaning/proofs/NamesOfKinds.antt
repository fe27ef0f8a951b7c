-- A tree that is well kinded by some names is so by others that have their kinds and their ranks.
use Rattle.std.specs.Prelude.{◌≡◌, ℕ, Bool, true, ◌&&◌, if◌then◌else◌, List, [], ◌∷◌, Option, Some, None, refl}
use Rattle.std.specs.List.{list_all}
use Rattle.std.proofs.Common.{ap, sym, ◌∙◌}
use Rattle.std.proofs.lemmas.Bool.{and_parts, and_from}
use Rattle.fl_ast.specs.declared.kind.Kind.{Kind}
use Rattle.fl_ast.specs.declared.kind.Kind.TheVariants.{Index, Ring}
use Rattle.fl_ast.specs.declared.directive.Directive.{Directive}
use Rattle.fl_ast.specs.Tree.{Expression, literal, get, minus, binary, power, call, Expressions, no_expressions, expression, Designator, Condition, relation, negation, conjunction, disjunction, Statement, assignment, branch, loop, Statements, no_statements, statement, Arms, no_arms, arm}
use Rattle.fl_types.specs.Increment.{target_of}
use Rattle.fl_types.specs.Kinds.{Names, kind_of_name, wider_kind, widest_kind, kind_of_expression, kinds_of_expressions, is_index_kind, takes_operands, takes_arguments, expression_count, is_well_kinded, are_well_kinded, is_well_kinded_condition, is_index_expression, is_index_step, is_index_scalar, has_scalar_privates, takes_value, is_well_kinded_assignment, is_well_kinded_head, is_well_kinded_statement, are_well_kinded_statements, are_well_kinded_arms}
use Rattle.meaning.specs.FittingLaws.{KindsGoByNames}

and_both : (a b c d : Bool) → (a ≡ true → c ≡ true) → (b ≡ true → d ≡ true) → (a && b) ≡ true → (c && d) ≡ true
and_both a b c d f g h = let p = and_parts a b h in and_from c d (f p.0) (g p.1)

module _ (a b : Names) (kinds : (x : List ℕ) → a.ring x ≡ b.ring x) (ranks : (x : List ℕ) (n : ℕ) → a.has_rank x n ≡ true → b.has_rank x n ≡ true) where
  name_kind : (x : List ℕ) → kind_of_name a x ≡ kind_of_name b x
  name_kind x = ap (λ (r : Bool). if r then Ring else Index) (kinds x)

  mutual
    same_kinds : (e : Expression) → kind_of_expression a e ≡ kind_of_expression b e
    same_kinds (literal n k) = refl
    same_kinds (get x ss) = name_kind x
    same_kinds (minus e) = same_kinds e
    same_kinds (binary op e f) = ap (λ (k : Kind). wider_kind k (kind_of_expression a f)) (same_kinds e) ∙ ap (wider_kind (kind_of_expression b e)) (same_kinds f)
    same_kinds (power e n) = same_kinds e
    same_kinds (call f es) = ap widest_kind (same_kinds_all es)

    same_kinds_all : (es : Expressions) → kinds_of_expressions a es ≡ kinds_of_expressions b es
    same_kinds_all no_expressions = refl
    same_kinds_all (expression e es) = ap (λ (k : Kind). k ∷ kinds_of_expressions a es) (same_kinds e) ∙ ap (λ (ks : List Kind). kind_of_expression b e ∷ ks) (same_kinds_all es)

  -- a test of a kind, or of kinds
  by_kind : (P : Kind → Bool) (e : Expression) → P (kind_of_expression a e) ≡ true → P (kind_of_expression b e) ≡ true
  by_kind P e h = ap P (sym (same_kinds e)) ∙ h

  by_kinds : (P : List Kind → Bool) (es : Expressions) → P (kinds_of_expressions a es) ≡ true → P (kinds_of_expressions b es) ≡ true
  by_kinds P es h = ap P (sym (same_kinds_all es)) ∙ h

  mutual
    kinded : (e : Expression) → is_well_kinded a e ≡ true → is_well_kinded b e ≡ true
    kinded (literal n k) h = h
    kinded (get x ss) h =
        and_both (a.has_rank x (expression_count ss)) (are_well_kinded a ss && list_all is_index_kind (kinds_of_expressions a ss)) (b.has_rank x (expression_count ss)) (are_well_kinded b ss && list_all is_index_kind (kinds_of_expressions b ss))
        (ranks x (expression_count ss))
        (and_both (are_well_kinded a ss) (list_all is_index_kind (kinds_of_expressions a ss)) (are_well_kinded b ss) (list_all is_index_kind (kinds_of_expressions b ss)) (λ g. kinded_all ss g) (by_kinds (list_all is_index_kind) ss)) h
    kinded (minus e) h = kinded e h
    kinded (binary op e f) h =
        and_both (takes_operands op (kind_of_expression a e) (kind_of_expression a f)) (is_well_kinded a e && is_well_kinded a f) (takes_operands op (kind_of_expression b e) (kind_of_expression b f)) (is_well_kinded b e && is_well_kinded b f)
        (λ g. by_kind (λ k. takes_operands op k (kind_of_expression b f)) e (by_kind (takes_operands op (kind_of_expression a e)) f g))
        (and_both (is_well_kinded a e) (is_well_kinded a f) (is_well_kinded b e) (is_well_kinded b f) (λ g. kinded e g) (λ g. kinded f g)) h
    kinded (power e n) h = kinded e h
    kinded (call f es) h =
        and_both (takes_arguments f (kinds_of_expressions a es)) (are_well_kinded a es) (takes_arguments f (kinds_of_expressions b es)) (are_well_kinded b es) (by_kinds (takes_arguments f) es) (λ g. kinded_all es g) h

    kinded_all : (es : Expressions) → are_well_kinded a es ≡ true → are_well_kinded b es ≡ true
    kinded_all no_expressions h = h
    kinded_all (expression e es) h = and_both (is_well_kinded a e) (are_well_kinded a es) (is_well_kinded b e) (are_well_kinded b es) (λ g. kinded e g) (λ g. kinded_all es g) h

  condition_kinded : (c : Condition) → is_well_kinded_condition a c ≡ true → is_well_kinded_condition b c ≡ true
  condition_kinded (relation op e f) h = and_both (is_well_kinded a e) (is_well_kinded a f) (is_well_kinded b e) (is_well_kinded b f) (kinded e) (kinded f) h
  condition_kinded (negation c) h = condition_kinded c h
  condition_kinded (conjunction c d) h =
      and_both (is_well_kinded_condition a c) (is_well_kinded_condition a d) (is_well_kinded_condition b c) (is_well_kinded_condition b d) (λ g. condition_kinded c g) (λ g. condition_kinded d g) h
  condition_kinded (disjunction c d) h =
      and_both (is_well_kinded_condition a c) (is_well_kinded_condition a d) (is_well_kinded_condition b c) (is_well_kinded_condition b d) (λ g. condition_kinded c g) (λ g. condition_kinded d g) h

  index_kinded : (e : Expression) → is_index_expression a e ≡ true → is_index_expression b e ≡ true
  index_kinded e h = and_both (is_index_kind (kind_of_expression a e)) (is_well_kinded a e) (is_index_kind (kind_of_expression b e)) (is_well_kinded b e) (by_kind is_index_kind e) (kinded e) h

  step_kinded : (o : Option Expression) → is_index_step a o ≡ true → is_index_step b o ≡ true
  step_kinded None h = h
  step_kinded (Some e) h = index_kinded e h

  assignment_kinded : (p : Designator) (e : Expression) → is_well_kinded_assignment a p e ≡ true → is_well_kinded_assignment b p e ≡ true
  assignment_kinded p e h =
      and_both (takes_value (kind_of_name a p.name) (kind_of_expression a e)) (is_well_kinded a (target_of p) && is_well_kinded a e) (takes_value (kind_of_name b p.name) (kind_of_expression b e)) (is_well_kinded b (target_of p) && is_well_kinded b e)
      (λ g. ap (λ (k : Kind). takes_value k (kind_of_expression b e)) (sym (name_kind p.name)) ∙ by_kind (takes_value (kind_of_name a p.name)) e g)
      (and_both (is_well_kinded a (target_of p)) (is_well_kinded a e) (is_well_kinded b (target_of p)) (is_well_kinded b e) (kinded (target_of p)) (kinded e)) h

  scalar_kinded : (x : List ℕ) → is_index_scalar a x ≡ true → is_index_scalar b x ≡ true
  scalar_kinded x h = and_both (is_index_kind (kind_of_name a x)) (a.has_rank x 0) (is_index_kind (kind_of_name b x)) (b.has_rank x 0) (λ g. ap is_index_kind (sym (name_kind x)) ∙ g) (ranks x 0) h

  head_kinded : (var : List ℕ) (first last : Expression) (step : Option Expression) → is_well_kinded_head a var first last step ≡ true → is_well_kinded_head b var first last step ≡ true
  head_kinded var first last step h =
      and_both (is_index_scalar a var) (is_index_expression a first && (is_index_expression a last && is_index_step a step)) (is_index_scalar b var) (is_index_expression b first && (is_index_expression b last && is_index_step b step))
      (scalar_kinded var)
      (and_both (is_index_expression a first) (is_index_expression a last && is_index_step a step) (is_index_expression b first) (is_index_expression b last && is_index_step b step) (index_kinded first)
      (and_both (is_index_expression a last) (is_index_step a step) (is_index_expression b last) (is_index_step b step) (index_kinded last) (step_kinded step))) h

  privates_kinded : (xs : List (List ℕ)) → list_all (λ x. a.has_rank x 0) xs ≡ true → list_all (λ x. b.has_rank x 0) xs ≡ true
  privates_kinded [] h = h
  privates_kinded (x ∷ xs) h = and_both (a.has_rank x 0) (list_all (λ y. a.has_rank y 0) xs) (b.has_rank x 0) (list_all (λ y. b.has_rank y 0) xs) (ranks x 0) (λ g. privates_kinded xs g) h

  directive_kinded : (o : Option Directive) → has_scalar_privates a o ≡ true → has_scalar_privates b o ≡ true
  directive_kinded None h = h
  directive_kinded (Some d) h = privates_kinded d.privates h

  mutual
    statement_kinded : (x : Statement) → is_well_kinded_statement a x ≡ true → is_well_kinded_statement b x ≡ true
    statement_kinded (assignment line atomic p e) h = assignment_kinded p e h
    statement_kinded (branch line arms other) h =
        and_both (are_well_kinded_arms a arms) (are_well_kinded_statements a other) (are_well_kinded_arms b arms) (are_well_kinded_statements b other) (λ g. arms_kinded arms g) (λ g. statements_kinded other g) h
    statement_kinded (loop line number directive var first last step body) h =
        and_both (is_well_kinded_head a var first last step) (has_scalar_privates a directive && are_well_kinded_statements a body) (is_well_kinded_head b var first last step) (has_scalar_privates b directive && are_well_kinded_statements b body)
        (head_kinded var first last step)
        (and_both (has_scalar_privates a directive) (are_well_kinded_statements a body) (has_scalar_privates b directive) (are_well_kinded_statements b body) (directive_kinded directive) (λ g. statements_kinded body g)) h

    statements_kinded : (xs : Statements) → are_well_kinded_statements a xs ≡ true → are_well_kinded_statements b xs ≡ true
    statements_kinded no_statements h = h
    statements_kinded (statement x xs) h =
        and_both (is_well_kinded_statement a x) (are_well_kinded_statements a xs) (is_well_kinded_statement b x) (are_well_kinded_statements b xs) (λ g. statement_kinded x g) (λ g. statements_kinded xs g) h

    arms_kinded : (arms : Arms) → are_well_kinded_arms a arms ≡ true → are_well_kinded_arms b arms ≡ true
    arms_kinded no_arms h = h
    arms_kinded (arm test body arms) h =
        and_both (is_well_kinded_condition a test) (are_well_kinded_statements a body && are_well_kinded_arms a arms) (is_well_kinded_condition b test) (are_well_kinded_statements b body && are_well_kinded_arms b arms)
        (condition_kinded test)
        (and_both (are_well_kinded_statements a body) (are_well_kinded_arms a arms) (are_well_kinded_statements b body) (are_well_kinded_arms b arms) (λ g. statements_kinded body g) (λ g. arms_kinded arms g)) h

pub kinds_by_names : KindsGoByNames
kinds_by_names a b kinds ranks body h = statements_kinded a b kinds ranks body h
