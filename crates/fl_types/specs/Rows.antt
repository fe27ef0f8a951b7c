-- The rules of typing: each says at which names and numbers of a program it is broken. Where two are broken at one, the earlier rule is told.
use Rattle.std.specs.Prelude.{ℕ, Bool, true, false, not, ◌&&◌, ◌||◌, if◌then◌else◌, nat_eq, nat_le, nat_lt, bytes_eq, List, [], ◌∷◌, ◌++◌, flat_map, slice_get, length, Option, Some, None, Result, Ok, Err}
use Rattle.std.specs.List.{list_any}
use Rattle.fl_ast.specs.declared.kind.Kind.{Kind}
use Rattle.fl_ast.specs.declared.kind.Kind.TheVariants.{Index, Ring}
use Rattle.fl_ast.specs.declared.kind.BinOp.TheVariants.{Div}
use Rattle.fl_ast.specs.declared.kind.Fun.TheVariants.{Max, Min, Mod}
use Rattle.fl_ast.specs.declared.decl.Decl.{Decl}
use Rattle.fl_ast.specs.declared.stmt.Program.{Program}
use Rattle.fl_ast.specs.declared.directive.Directive.{Directive}
use Rattle.fl_ast.specs.Same.{same_kind}
use Rattle.fl_ast.specs.Tree.{Expression, literal, get, minus, binary, power, call, Expressions, no_expressions, expression, Designator, Statement, assignment, branch, loop, Statements, no_statements, statement, Arms, no_arms, arm, stmt_trees}
use Rattle.fl_types.specs.declared.typed.TypeError.{TypeError}
use Rattle.fl_types.specs.declared.typed.TypeError.TheVariants as fault
use Rattle.fl_types.specs.Increment.{Signed, increment_terms}
use Rattle.fl_types.specs.Kinds.{kind_of_name, kind_of_expression, kinds_of_expressions, is_index_kind, has_declared_rank, declared_names}
use Rattle.fl_types.specs.Nests.{Head, is_one_loop, inner_head}
use Rattle.fl_types.specs.Sharing.{has_name, is_ring_name, varies_in, assigns_in}
use Rattle.fl_types.specs.Declarations.{is_declared, is_reserved}
use Rattle.fl_types.specs.WellTyped.{declaration_of, is_argument_if_array, is_scalar_declared, is_index_scalar_argument, is_local_scalar, is_local_index_scalar, is_ring_scalar, is_read_only_argument, bytes_of_data, has_bytes}
use Rattle.fl_types.specs.Mentions.{Region, Surroundings, Ending, a_value, an_index, an_assignment, Mention, the_unit, an_argument, a_declared, a_bounding, a_listed, a_directive, a_variable, a_target, a_use, a_number, an_exponent, mentions}

-- ---- names in loops

-- the name is the variable of a loop of the program
abbrev pub is_varying : Program → List ℕ → Bool
is_varying p x = varies_in x (stmt_trees p.body)

-- the name is the variable of the loop or of a loop in it
abbrev pub varies_in_loop : Region → List ℕ → Bool
varies_in_loop l x = bytes_eq x l.var || varies_in x l.body

-- the variable of a loop isn't private in it, even where it is listed
abbrev pub is_private_in : Region → List ℕ → Bool
is_private_in l x = has_name x l.directive.privates && not (varies_in_loop l x)

abbrev pub is_private_by : Option Directive → List ℕ → Statements → List ℕ → Bool
is_private_by None var body x = false
is_private_by (Some d) var body x = is_private_in (record { directive = d; var = var; body = body }) x

-- the name is private in a loop of the tree
abbrev mutual
  pub is_private_within : List ℕ → Statement → Bool
  is_private_within x (assignment line atomic target value) = false
  is_private_within x (branch line arms other) = is_private_within_arms x arms || is_private_within_all x other
  is_private_within x (loop line number directive var first last step body) = is_private_by directive var body x || is_private_within_all x body

  pub is_private_within_all : List ℕ → Statements → Bool
  is_private_within_all x no_statements = false
  is_private_within_all x (statement s rest) = is_private_within x s || is_private_within_all x rest

  pub is_private_within_arms : List ℕ → Arms → Bool
  is_private_within_arms x no_arms = false
  is_private_within_arms x (arm test body rest) = is_private_within_all x body || is_private_within_arms x rest

-- the name is private in a loop of the program
abbrev pub is_private_name : Program → List ℕ → Bool
is_private_name p x = is_private_within_all x (stmt_trees p.body)

-- in the loop the name is private, or the variable of a loop
abbrev pub is_own_in : Option Region → List ℕ → Bool
is_own_in None x = false
is_own_in (Some l) x = has_name x l.directive.privates || varies_in_loop l x

-- a private name stands outside the loops in which it is private
abbrev pub is_out_of_loop : Program → Surroundings → List ℕ → Bool
is_out_of_loop p s x = is_private_name p x && (not (has_name x s.vars) && not (is_own_in s.parallel x))

abbrev pub is_first_in : Option Region → List ℕ → Bool
is_first_in None x = false
is_first_in (Some l) x = has_name x l.directive.firsts

abbrev pub is_plus_in : Option Region → List ℕ → Bool
is_plus_in None x = false
is_plus_in (Some l) x = has_name x l.directive.pluses

abbrev pub is_no_terms : Option (List Signed) → Bool
is_no_terms None = true
is_no_terms (Some terms) = false

-- the assignment is an increment of the name
abbrev pub is_increment_of : Program → Option (Designator × Expression) → List ℕ → Bool
is_increment_of p None x = false
is_increment_of p (Some a) x = not (is_no_terms (increment_terms (is_ring_name p.decls) a.0 a.1)) && bytes_eq a.0.name x

abbrev pub is_name_of : Option (List ℕ) → List ℕ → Bool
is_name_of None x = false
is_name_of (Some y) x = bytes_eq y x

-- the name is in a clause
abbrev pub is_listed : Directive → List ℕ → Bool
is_listed d x = has_name x d.privates || (has_name x d.firsts || (has_name x d.shareds || has_name x d.pluses))

-- `default(none)` stands, and the name is in no clause and no loop variable
abbrev pub is_unlisted_in : Option Region → List ℕ → Bool
is_unlisted_in None x = false
is_unlisted_in (Some l) x = l.directive.none && (not (is_listed l.directive x) && not (varies_in_loop l x))

-- ---- what ends

abbrev pub kind_in : Program → Expression → Kind
kind_in p e = kind_of_expression (declared_names p.decls) e

abbrev pub differ : List Kind → Bool
differ (k ∷ j ∷ []) = not (same_kind k j)
differ _ = false

abbrev pub any_ring : List Kind → Bool
any_ring [] = false
any_ring (k ∷ ks) = not (is_index_kind k) || any_ring ks

-- `max` or `min` of two kinds
abbrev pub kinds_differ : Program → Ending → Bool
kinds_differ p (a_value (call Max args)) = differ (kinds_of_expressions (declared_names p.decls) args)
kinds_differ p (a_value (call Min args)) = differ (kinds_of_expressions (declared_names p.decls) args)
kinds_differ p _ = false

-- `/` or `mod` of data
abbrev pub divides_data : Program → Ending → Bool
divides_data p (a_value (binary Div a b)) = not (is_index_kind (kind_in p a)) || not (is_index_kind (kind_in p b))
divides_data p (a_value (call Mod args)) = any_ring (kinds_of_expressions (declared_names p.decls) args)
divides_data p _ = false

-- data where an index is due
abbrev pub is_data_as_index : Program → Ending → Bool
is_data_as_index p (an_index e) = not (is_index_kind (kind_in p e))
is_data_as_index p (an_assignment atomic target e) = is_index_kind (kind_of_name (declared_names p.decls) target.name) && not (is_index_kind (kind_in p e))
is_data_as_index p (a_value e) = false

abbrev pub has_minus : List Signed → Bool
has_minus [] = false
has_minus (t ∷ ts) = t.0 || has_minus ts

-- what an atomic update can't do at once: no increment, or one by several terms of which one has a minus sign
abbrev pub is_no_update : Option (List Signed) → Bool
is_no_update None = true
is_no_update (Some terms) = has_minus terms && nat_lt 1 (length terms)

abbrev pub is_serial : Option Region → Bool
is_serial None = true
is_serial (Some l) = false

abbrev pub is_bad_atomic : Program → Surroundings → Ending → Bool
is_bad_atomic p s (an_assignment atomic target e) = atomic && (is_serial s.parallel || is_no_update (increment_terms (is_ring_name p.decls) target e))
is_bad_atomic p s (a_value e) = false
is_bad_atomic p s (an_index e) = false

-- ---- collapsed loops

-- a name of the expression meets the test
abbrev mutual
  pub some_name : (List ℕ → Bool) → Expression → Bool
  some_name test (literal n k) = false
  some_name test (get x ss) = test x || some_names test ss
  some_name test (minus a) = some_name test a
  some_name test (binary op a b) = some_name test a || some_name test b
  some_name test (power a n) = some_name test a
  some_name test (call f args) = some_names test args

  pub some_names : (List ℕ → Bool) → Expressions → Bool
  some_names test no_expressions = false
  some_names test (expression a rest) = some_name test a || some_names test rest

abbrev pub some_step_name : (List ℕ → Bool) → Option Expression → Bool
some_step_name test None = false
some_step_name test (Some e) = some_name test e

abbrev pub some_head_name : (List ℕ → Bool) → Option Head → Bool
some_head_name test None = false
some_head_name test (Some h) = some_name test h.first || (some_name test h.last || some_step_name test h.step)

-- the name is another in each iteration: it is the loop's variable or is assigned in it
abbrev pub changes_in : Region → List ℕ → Bool
changes_in l x = bytes_eq x l.var || assigns_in x l.body

-- two loops are to be collapsed, and the body isn't one `do` without a directive, or its bounds or step go by what the loop changes
abbrev pub is_bad_nest : Region → Bool
is_bad_nest l = nat_eq l.directive.collapse 2 && (not (is_one_loop l.body) || some_head_name (changes_in l) (inner_head l.body))

-- ---- the rules, in their order

abbrev pub is_undeclared : Program → Mention → Bool
is_undeclared p (an_argument line earlier x) = not (is_declared p.decls x)
is_undeclared p (a_bounding line x) = not (is_declared p.decls x)
is_undeclared p (a_listed l x) = not (is_declared p.decls x)
is_undeclared p (a_variable s x) = not (is_declared p.decls x)
is_undeclared p (a_target s x n) = not (is_declared p.decls x)
is_undeclared p (a_use s ends x n) = not (is_declared p.decls x)
is_undeclared p _ = false

abbrev pub is_doubled : Mention → Bool
is_doubled (an_argument line earlier x) = has_name x earlier
is_doubled (a_declared earlier d) = is_declared earlier d.name
is_doubled _ = false

abbrev pub has_reserved_name : Mention → Bool
has_reserved_name (the_unit line x) = is_reserved x
has_reserved_name (a_declared earlier d) = is_reserved d.name
has_reserved_name _ = false

abbrev pub is_local_array : Program → Mention → Bool
is_local_array p (a_declared earlier d) = not (is_argument_if_array p.args d)
is_local_array p _ = false

abbrev pub is_of_other_rank : Program → Mention → Bool
is_of_other_rank p (a_declared earlier d) = nat_lt 7 (length d.dims)
is_of_other_rank p (a_bounding line x) = not (is_index_scalar_argument p x)
is_of_other_rank p (a_target s x n) = not (has_declared_rank p.decls x n)
is_of_other_rank p (a_use s ends x n) = not (has_declared_rank p.decls x n)
is_of_other_rank p _ = false

abbrev pub is_out_of_range : Mention → Bool
is_out_of_range (a_number s ends n Index) = nat_lt 2147483647 n
is_out_of_range _ = false

-- what ends with the name or number
abbrev pub endings : Mention → List Ending
endings (a_use s ends x n) = ends
endings (a_number s ends n k) = ends
endings (an_exponent s ends) = ends
endings _ = []

abbrev pub is_read_only_target : Program → Mention → Bool
is_read_only_target p (a_target s x n) = is_read_only_argument p x
is_read_only_target p _ = false

abbrev pub is_self_subscript : Mention → Bool
is_self_subscript (a_use s ends x n) = is_name_of s.subscript_of x
is_self_subscript _ = false

-- A loop's variable is a local index scalar, is no loop's around it, is assigned nowhere, and is used in its loops alone.
abbrev pub is_misused_variable : Program → Mention → Bool
is_misused_variable p (a_bounding line x) = is_varying p x
is_misused_variable p (a_variable s x) = not (is_local_index_scalar p x) || has_name x s.vars
is_misused_variable p (a_target s x n) = is_varying p x
is_misused_variable p (a_use s ends x n) = is_varying p x && not (has_name x s.vars)
is_misused_variable p _ = false

-- A private name is a local scalar and is used in loops in which it is private alone. A firstprivate name isn't assigned in the loop.
abbrev pub is_misused_private : Program → Mention → Bool
is_misused_private p (a_bounding line x) = is_private_name p x
is_misused_private p (a_listed l x) = is_private_in l x && not (is_local_scalar p x)
is_misused_private p (a_target s x n) = is_out_of_loop p s x || is_first_in s.parallel x
is_misused_private p (a_use s ends x n) = is_out_of_loop p s x
is_misused_private p _ = false

-- A name of a reduction is a ring scalar, and stands in the loop in increments of itself alone.
abbrev pub is_misused_reduction : Program → Mention → Bool
is_misused_reduction p (a_listed l x) = has_name x l.directive.pluses && not (is_ring_scalar p x)
is_misused_reduction p (a_target s x n) = is_plus_in s.parallel x && not (is_increment_of p s.assignment x)
is_misused_reduction p (a_use s ends x n) = is_plus_in s.parallel x && not (is_increment_of p s.assignment x)
is_misused_reduction p _ = false

abbrev pub is_misplaced_atomic : Program → Mention → Bool
is_misplaced_atomic p (a_use s ends x n) = list_any (is_bad_atomic p s) ends
is_misplaced_atomic p (a_number s ends n k) = list_any (is_bad_atomic p s) ends
is_misplaced_atomic p (an_exponent s ends) = list_any (is_bad_atomic p s) ends
is_misplaced_atomic p _ = false

-- an array that iterations would have copies of, or a loop's variable in another clause than `private`
abbrev pub is_not_shareable : Program → Mention → Bool
is_not_shareable p (a_listed l x) =
    ((is_private_in l x || has_name x l.directive.firsts) && not (is_scalar_declared (declaration_of p.decls x)))
    || (varies_in_loop l x && not (has_name x l.directive.privates))
is_not_shareable p _ = false

abbrev pub is_unlisted : Mention → Bool
is_unlisted (a_target s x n) = is_unlisted_in s.parallel x
is_unlisted (a_use s ends x n) = is_unlisted_in s.parallel x
is_unlisted _ = false

abbrev pub is_of_mixed_kind : Program → Mention → Bool
is_of_mixed_kind p (a_declared earlier d) = not (has_bytes (bytes_of_data p.decls) d)
is_of_mixed_kind p _ = false

abbrev pub is_no_nest : Mention → Bool
is_no_nest (a_directive l) = is_bad_nest l
is_no_nest _ = false

-- ---- faults

abbrev pub line_of : Mention → ℕ
line_of (the_unit line x) = line
line_of (an_argument line earlier x) = line
line_of (a_declared earlier d) = d.line
line_of (a_bounding line x) = line
line_of (a_listed l x) = l.directive.line
line_of (a_directive l) = l.directive.line
line_of (a_variable s x) = s.line
line_of (a_target s x n) = s.line
line_of (a_use s ends x n) = s.line
line_of (a_number s ends n k) = s.line
line_of (an_exponent s ends) = s.line

abbrev pub name_of : Mention → List ℕ
name_of (the_unit line x) = x
name_of (an_argument line earlier x) = x
name_of (a_declared earlier d) = d.name
name_of (a_bounding line x) = x
name_of (a_listed l x) = x
name_of (a_directive l) = []
name_of (a_variable s x) = x
name_of (a_target s x n) = x
name_of (a_use s ends x n) = x
name_of (a_number s ends n k) = []
name_of (an_exponent s ends) = []

-- the fault where the rule is broken
abbrev pub when : Bool → TypeError → List TypeError
when broken error = if broken then error ∷ [] else []

-- the faults at a name or number, in the order of the rules
abbrev pub faults_at : Program → Mention → List TypeError
faults_at p m =
    when (is_undeclared p m) (fault.Undeclared (line_of m) (name_of m))
    ++ (when (is_doubled m) (fault.Doubled (line_of m) (name_of m))
    ++ (when (has_reserved_name m) (fault.ReservedSuffix (line_of m) (name_of m))
    ++ (when (is_local_array p m) (fault.LocalArray (line_of m) (name_of m))
    ++ (when (is_of_other_rank p m) (fault.Rank (line_of m) (name_of m))
    ++ (when (is_out_of_range m) (fault.LiteralRange (line_of m))
    ++ (when (list_any (kinds_differ p) (endings m)) (fault.KindClash (line_of m))
    ++ (when (list_any (divides_data p) (endings m)) (fault.DataDivision (line_of m))
    ++ (when (list_any (is_data_as_index p) (endings m)) (fault.DataToIndex (line_of m))
    ++ (when (is_read_only_target p m) (fault.IntentIn (line_of m) (name_of m))
    ++ (when (is_self_subscript m) (fault.SelfSubscript (line_of m) (name_of m))
    ++ (when (is_misused_variable p m) (fault.LoopVarUse (line_of m) (name_of m))
    ++ (when (is_misused_private p m) (fault.PrivateUse (line_of m) (name_of m))
    ++ (when (is_misused_reduction p m) (fault.ReductionUse (line_of m) (name_of m))
    ++ (when (is_misplaced_atomic p m) (fault.AtomicForm (line_of m))
    ++ (when (is_not_shareable p m) (fault.NotShareable (line_of m) (name_of m))
    ++ (when (is_unlisted m) (fault.Unlisted (line_of m) (name_of m))
    ++ (when (is_of_mixed_kind p m) (fault.MixedKinds (line_of m) (name_of m))
    ++ when (is_no_nest m) (fault.CollapseForm (line_of m)))))))))))))))))))

-- every fault of the program, by its place in textual order and then by the order of the rules
abbrev pub faults : Program → List TypeError
faults p = flat_map (faults_at p) (mentions p)

-- the one that is told
unfoldable pub first_fault : Program → Option TypeError
first_fault p = slice_get (faults p) 0

abbrev pub refused_by : Program → Option TypeError → Result Program TypeError
refused_by p None = Ok p
refused_by p (Some error) = Err error

-- a program is typed where there is none
unfoldable pub judged : Program → Result Program TypeError
judged p = refused_by p (first_fault p)
