-- The walk tells the first fault of all names and numbers in textual order.
use Rattle.std.proofs.Common.{◌≡◌, ℕ, Bool, true, false, ◌||◌, List, [], ◌∷◌, ◌++◌, map, Option, Some, None, refl, sym, ap, ◌∙◌}
use Rattle.std.proofs.lemmas.List.{map-append, append_assoc}
use Rattle.fl_ast.specs.declared.kind.BinOp.{BinOp}
use Rattle.fl_ast.specs.declared.kind.BinOp.TheVariants.{Add, Sub, Mul, Div}
use Rattle.fl_ast.specs.declared.kind.Fun.{Fun}
use Rattle.fl_ast.specs.declared.kind.Fun.TheVariants.{Max, Min, Abs, Mod}
use Rattle.fl_ast.specs.declared.decl.Dim.{Dim}
use Rattle.fl_ast.specs.declared.decl.Bound.{Bound}
use Rattle.fl_ast.specs.declared.decl.Term.{Term}
use Rattle.fl_ast.specs.declared.decl.Factor.{Factor}
use Rattle.fl_ast.specs.declared.decl.Factor.TheVariants as factor
use Rattle.fl_ast.specs.declared.decl.Sign.{Sign}
use Rattle.fl_ast.specs.declared.decl.Decl.{Decl}
use Rattle.fl_ast.specs.declared.stmt.Program.{Program}
use Rattle.fl_ast.specs.Tree.{Expression, literal, get, minus, binary, power, call, Expressions, no_expressions, expression, Designator, Condition, relation, negation, conjunction, disjunction, Statement, assignment, branch, loop, Statements, no_statements, statement, Arms, no_arms, arm, stmt_trees}
use Rattle.fl_types.specs.Kinds.{expression_count}
use Rattle.fl_types.specs.WellTyped.{factor_names, second_names, term_names, rest_names, bound_names, lower_names, dim_names}
use Rattle.fl_types.specs.Mentions as m
use Rattle.fl_types.specs.Mentions.{Region, Surroundings, Ending, a_value, an_index, an_assignment, the_unit, an_argument, a_declared, a_bounding, a_listed, a_directive, a_variable, a_target, a_use, a_number, an_exponent, mentions}
use Rattle.fl_types.specs.Rows.{first_fault}
use Rattle.typing.specs.declared.around.Ends.{Ends}
use Rattle.typing.specs.Firsts as f
use Rattle.typing.specs.Firsts.{or_later, told}
use Rattle.typing.specs.Views.{Told}
use Rattle.typing.proofs.Heads.{error, error_none, head, head_is, head_nil, both, first_then, alone}
use Rattle.typing.proofs.Said.{seen, flags, unit_said, argument_said, declared_said, bounding_said, listed_said, directive_said, variable_said, target_said, use_said, number_said, exponent_said}

nothing : (p : Program) → error None ≡ head p []
nothing p = error_none ∙ sym (head_nil p)

-- ---- what ends

last_flags : (p : Program) (s : Surroundings) (rest : Expressions) (ends : List Ending) → f.at_last rest (flags p s ends) ≡ flags p s (m.at_last rest ends)
last_flags p s no_expressions ends = refl
last_flags p s (expression e rest) ends = refl

operation_flags : (p : Program) (s : Surroundings) (o : BinOp) (a b : Expression) (ends : List Ending)
    → f.with_operation p o a b (flags p s ends) ≡ flags p s (a_value (binary o a b) ∷ ends)
operation_flags p s Add a b ends = refl
operation_flags p s Sub a b ends = refl
operation_flags p s Mul a b ends = refl
operation_flags p s Div a b ends = refl

call_flags : (p : Program) (s : Surroundings) (g : Fun) (args : Expressions) (ends : List Ending)
    → f.with_call p g args (flags p s ends) ≡ flags p s (a_value (call g args) ∷ ends)
call_flags p s Max args ends = refl
call_flags p s Min args ends = refl
call_flags p s Abs args ends = refl
call_flags p s Mod args ends = refl

index_flags : (p : Program) (s : Surroundings) (e : Expression) (ends : List Ending) → f.with_index (f.is_data p e) (flags p s ends) ≡ flags p s (an_index e ∷ ends)
index_flags p s e ends = refl

-- ---- expressions

mutual
  along : (p : Program) (s : Surroundings) (ends : List Ending) (e : Expression) → error (f.first_in p (seen p s) (flags p s ends) e) ≡ head p (m.in_expression s ends e)
  along p s ends (literal n k) = alone p _ _ (number_said p s (a_value (literal n k) ∷ ends) n k)
  along p s ends (get x ss) =
      first_then p _ _ _ _
      (ap (λ g. error (told s.line x (f.use_rule p (seen p s) g x (expression_count ss)))) (last_flags p s ss (a_value (get x ss) ∷ ends)) ∙ use_said p s (m.at_last ss (a_value (get x ss) ∷ ends)) x (expression_count ss))
      (along_subscripts p s (a_value (get x ss) ∷ ends) ss)
  along p s ends (minus a) = along p s (a_value (minus a) ∷ ends) a
  along p s ends (binary o a b) =
      both p _ _ _ _ (along p s [] a)
      (ap (λ g. error (f.first_in p (seen p s) g b)) (operation_flags p s o a b ends) ∙ along p s (a_value (binary o a b) ∷ ends) b)
  along p s ends (power a n) = both p _ _ _ _ (along p s [] a) (alone p _ _ (exponent_said p s (a_value (power a n) ∷ ends)))
  along p s ends (call g args) =
      ap (λ h. error (f.first_in_arguments p (seen p s) h args)) (call_flags p s g args ends) ∙ along_arguments p s (a_value (call g args) ∷ ends) args

  along_subscripts : (p : Program) (s : Surroundings) (ends : List Ending) (es : Expressions) → error (f.first_in_subscripts p (seen p s) (flags p s ends) es) ≡ head p (m.in_subscripts s ends es)
  along_subscripts p s ends no_expressions = nothing p
  along_subscripts p s ends (expression e rest) =
      both p _ _ _ _
      (ap (λ g. error (f.first_in p (seen p s) (f.with_index (f.is_data p e) g) e)) (last_flags p s rest ends) ∙ along p s (an_index e ∷ m.at_last rest ends) e)
      (along_subscripts p s ends rest)

  along_arguments : (p : Program) (s : Surroundings) (ends : List Ending) (es : Expressions) → error (f.first_in_arguments p (seen p s) (flags p s ends) es) ≡ head p (m.in_arguments s ends es)
  along_arguments p s ends no_expressions = nothing p
  along_arguments p s ends (expression e rest) =
      both p _ _ _ _ (ap (λ g. error (f.first_in p (seen p s) g e)) (last_flags p s rest ends) ∙ along p s (m.at_last rest ends) e) (along_arguments p s ends rest)

along_condition : (p : Program) (s : Surroundings) (c : Condition) → error (f.first_in_condition p (seen p s) c) ≡ head p (m.in_condition s c)
along_condition p s (relation o a b) = both p _ _ _ _ (along p s [] a) (along p s [] b)
along_condition p s (negation c) = along_condition p s c
along_condition p s (conjunction a b) = both p _ _ _ _ (along_condition p s a) (along_condition p s b)
along_condition p s (disjunction a b) = both p _ _ _ _ (along_condition p s a) (along_condition p s b)

-- ---- statements

or_no : (b : Bool) → b ≡ (b || false)
or_no true = refl
or_no false = refl

abbrev ends_by : Bool → Bool → Ends
ends_by a b = record { clash = false; division = false; index = a; atomic = b }

ends_are : (a b c d : Bool) → a ≡ c → b ≡ d → ends_by a b ≡ ends_by c d
ends_are a b c d h k = ap (λ x. ends_by x b) h ∙ ap (λ x. ends_by c x) k

assignment_flags : (p : Program) (s : Surroundings) (line : ℕ) (atomic : Bool) (t : Designator) (e : Expression)
    → f.ends_of_assignment p (seen p s) atomic t e ≡ flags p (m.at_assignment s line t e) (an_assignment atomic t e ∷ [])
assignment_flags p s line atomic t e = ends_are _ _ _ _ (or_no (f.takes_data p t e)) (or_no (f.is_bad_update p (seen p s) atomic t e))

along_assignment : (p : Program) (s : Surroundings) (line : ℕ) (atomic : Bool) (t : Designator) (e : Expression)
    → error (f.first_in_assignment p (seen p s) line atomic t e) ≡ head p (m.in_assignment s line atomic t e)
along_assignment p s line atomic t e =
    both p _ _ (a_target (m.at_assignment s line t e) t.name (expression_count t.subscripts) ∷ m.in_subscripts (m.at_subscripts s line t e) [] t.subscripts) _
    (first_then p _ _ _ _ (target_said p (m.at_assignment s line t e) t.name (expression_count t.subscripts)) (along_subscripts p (m.at_subscripts s line t e) [] t.subscripts))
    (ap (λ g. error (f.first_in p (seen p (m.at_assignment s line t e)) g e)) (assignment_flags p s line atomic t e)
    ∙ along p (m.at_assignment s line t e) (an_assignment atomic t e ∷ []) e)

along_bound : (p : Program) (s : Surroundings) (e : Expression) → error (f.first_in_bound p (seen p s) e) ≡ head p (m.in_bound s e)
along_bound p s e = along p s (an_index e ∷ []) e

along_step : (p : Program) (s : Surroundings) (step : Option Expression) → error (f.first_in_step p (seen p s) step) ≡ head p (m.in_step s step)
along_step p s None = nothing p
along_step p s (Some e) = along_bound p s e

along_head : (p : Program) (s : Surroundings) (var : List ℕ) (first last : Expression) (step : Option Expression)
    → error (f.first_in_head p (seen p s) var first last step) ≡ head p (m.in_head s var first last step)
along_head p s var first last step =
    first_then p _ _ _ _ (variable_said p s var) (both p _ _ _ _ (along_bound p s first) (both p _ _ _ _ (along_bound p s last) (along_step p s step)))

along_list : (p : Program) (l : Region) (xs : List (List ℕ)) → error (f.first_in_list p l xs) ≡ head p (map (a_listed l) xs)
along_list p l [] = nothing p
along_list p l (x ∷ xs) = first_then p _ _ _ _ (listed_said p l x) (along_list p l xs)

-- the names of four clauses and what is behind them
listed_apart : (l : Region) (a b c d : List (List ℕ)) (ms : List m.Mention)
    → map (a_listed l) (a ++ (b ++ (c ++ d))) ++ ms ≡ map (a_listed l) a ++ (map (a_listed l) b ++ (map (a_listed l) c ++ (map (a_listed l) d ++ ms)))
listed_apart l a b c d ms = (simp (map-append, append_assoc))

along_clauses : (p : Program) (l : Region) → error (f.first_in_clauses p l) ≡ head p (m.in_directive (Some l))
along_clauses p l =
    both p _ _ _ _ (along_list p l l.directive.privates) (both p _ _ _ _ (along_list p l l.directive.firsts)
    (both p _ _ _ _ (along_list p l l.directive.shareds) (both p _ _ _ _ (along_list p l l.directive.pluses) (alone p _ _ (directive_said p l)))))
    ∙ ap (head p) (sym (listed_apart l l.directive.privates l.directive.firsts l.directive.shareds l.directive.pluses (a_directive l ∷ [])))

along_directive : (p : Program) (r : Option Region) → error (f.first_in_directive p r) ≡ head p (m.in_directive r)
along_directive p None = nothing p
along_directive p (Some l) = along_clauses p l

mutual
  along_statement : (p : Program) (s : Surroundings) (a : Statement) → error (f.first_in_statement p (seen p s) a) ≡ head p (m.in_statement s a)
  along_statement p s (assignment line atomic t e) = along_assignment p s line atomic t e
  along_statement p s (branch line arms other) = both p _ _ _ _ (along_arms p s line arms) (along_statements p s other)
  along_statement p s (loop line number directive var first last step body) =
      both p _ _ _ _ (along_directive p (m.made_parallel directive var body))
      (both p _ _ _ _ (along_head p (m.at_bounds s line) var first last step) (along_statements p (m.at_body s var (m.made_parallel directive var body)) body))

  along_statements : (p : Program) (s : Surroundings) (as' : Statements) → error (f.first_in_statements p (seen p s) as') ≡ head p (m.in_statements s as')
  along_statements p s no_statements = nothing p
  along_statements p s (statement a rest) = both p _ _ _ _ (along_statement p s a) (along_statements p s rest)

  along_arms : (p : Program) (s : Surroundings) (line : ℕ) (as' : Arms) → error (f.first_in_arms p (seen p s) line as') ≡ head p (m.in_arms s line as')
  along_arms p s line no_arms = nothing p
  along_arms p s line (arm test body rest) =
      both p _ _ _ _ (along_condition p (m.at_line s line) test) (both p _ _ _ _ (along_statements p s body) (along_arms p s line rest))

-- ---- declarations

along_args : (p : Program) (line : ℕ) (earlier xs : List (List ℕ)) → error (f.first_in_args p line earlier xs) ≡ head p (m.in_args line earlier xs)
along_args p line earlier [] = nothing p
along_args p line earlier (x ∷ xs) = first_then p _ _ _ _ (argument_said p line earlier x) (along_args p line (earlier ++ x ∷ []) xs)

bounding_both : (p : Program) (line : ℕ) (a b : Option Told) (xs ys : List (List ℕ)) → error a ≡ head p (map (a_bounding line) xs) → error b ≡ head p (map (a_bounding line) ys)
    → error (or_later a b) ≡ head p (map (a_bounding line) (xs ++ ys))
bounding_both p line a b xs ys h k = both p a b _ _ h k ∙ ap (head p) (sym (map-append (a_bounding line) xs ys))

along_factor : (p : Program) (line : ℕ) (t : Factor) → error (f.first_in_factor p line t) ≡ head p (map (a_bounding line) (factor_names t))
along_factor p line (factor.Lit n) = nothing p
along_factor p line (factor.Minus n) = nothing p
along_factor p line (factor.Scalar x) = alone p _ _ (bounding_said p line x)

along_second : (p : Program) (line : ℕ) (t : Option Factor) → error (f.first_in_second p line t) ≡ head p (map (a_bounding line) (second_names t))
along_second p line None = nothing p
along_second p line (Some t) = along_factor p line t

along_term : (p : Program) (line : ℕ) (t : Term) → error (f.first_in_term p line t) ≡ head p (map (a_bounding line) (term_names t))
along_term p line t = bounding_both p line _ _ (factor_names t.first) (second_names t.second) (along_factor p line t.first) (along_second p line t.second)

along_rest : (p : Program) (line : ℕ) (r : Option (Sign × Term)) → error (f.first_in_rest p line r) ≡ head p (map (a_bounding line) (rest_names r))
along_rest p line None = nothing p
along_rest p line (Some r) = along_term p line r.1

along_extent : (p : Program) (line : ℕ) (b : Bound) → error (f.first_in_extent p line b) ≡ head p (map (a_bounding line) (bound_names b))
along_extent p line b = bounding_both p line _ _ (term_names b.first) (rest_names b.rest) (along_term p line b.first) (along_rest p line b.rest)

along_lower : (p : Program) (line : ℕ) (b : Option Bound) → error (f.first_in_lower p line b) ≡ head p (map (a_bounding line) (lower_names b))
along_lower p line None = nothing p
along_lower p line (Some b) = along_extent p line b

along_dims : (p : Program) (line : ℕ) (ds : List Dim) → error (f.first_in_dims p line ds) ≡ head p (map (a_bounding line) (dim_names ds))
along_dims p line [] = nothing p
along_dims p line (d ∷ ds) =
    bounding_both p line _ _ (lower_names d.lower) _ (along_lower p line d.lower)
    (bounding_both p line _ _ (bound_names d.upper) (dim_names ds) (along_extent p line d.upper) (along_dims p line ds))

along_decls : (p : Program) (earlier ds : List Decl) → error (f.first_in_decls p earlier ds) ≡ head p (m.in_decls earlier ds)
along_decls p earlier [] = nothing p
along_decls p earlier (d ∷ ds) =
    both p _ _ (m.in_decl earlier d) _ (first_then p _ _ _ _ (declared_said p earlier d) (along_dims p d.line d.dims)) (along_decls p (earlier ++ d ∷ []) ds)

-- ---- programs

along_program : (p : Program) → error (f.first_in_program p) ≡ head p (mentions p)
along_program p =
    first_then p _ _ _ _ (unit_said p p.line p.name) (both p _ _ _ _ (along_args p p.line [] p.args)
    (both p _ _ _ _ (along_decls p [] p.decls) (along_statements p (m.at_unit p.line) (stmt_trees p.body))))

pub walk_finds : (p : Program) → error (f.first_in_program p) ≡ first_fault p
unfolding first_fault
walk_finds p = along_program p ∙ head_is p (mentions p)
