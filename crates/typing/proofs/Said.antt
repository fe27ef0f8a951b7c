-- At each name or number the first broken rule is told.
use Rattle.std.proofs.Common.{◌≡◌, ℕ, Bool, true, false, not, ◌&&◌, ◌||◌, if◌then◌else◌, nat_lt, bytes_eq, List, [], ◌++◌, length, slice_get, Option, Some, None, refl, ap}
use Rattle.std.specs.List.{list_any}
use Rattle.fl_ast.specs.declared.kind.Kind.{Kind}
use Rattle.fl_ast.specs.declared.kind.Kind.TheVariants.{Index, Ring}
use Rattle.fl_ast.specs.declared.decl.Decl.{Decl}
use Rattle.fl_ast.specs.declared.stmt.Program.{Program}
use Rattle.fl_ast.specs.Tree.{Expression, Designator}
use Rattle.fl_types.specs.declared.typed.TypeError.{TypeError}
use Rattle.fl_types.specs.Increment.{increment_terms}
use Rattle.fl_types.specs.Kinds.{has_declared_rank}
use Rattle.fl_types.specs.Sharing.{has_name, is_ring_name}
use Rattle.fl_types.specs.Declarations.{is_declared, is_reserved}
use Rattle.fl_types.specs.WellTyped.{is_argument_if_array, is_index_scalar_argument, is_local_scalar, is_local_index_scalar, is_ring_scalar, is_read_only_argument, bytes_of_data, has_bytes}
use Rattle.fl_types.specs.Mentions.{Region, Surroundings, Ending, the_unit, an_argument, a_declared, a_bounding, a_listed, a_directive, a_variable, a_target, a_use, a_number, an_exponent}
use Rattle.fl_types.specs.Rows.{when, faults_at, is_varying, is_private_in, is_private_name, is_first_in, is_plus_in, is_name_of, is_no_terms, is_increment_of, is_unlisted_in, kinds_differ, divides_data, is_data_as_index, is_bad_atomic, is_bad_nest}
use Rattle.typing.specs.declared.rule.Rule.{Rule}
use Rattle.typing.specs.declared.rule.Rule.TheVariants.{Undeclared, Doubled, ReservedSuffix, LocalArray, Rank, LiteralRange, KindClash, DataDivision, DataToIndex, IntentIn, SelfSubscript, LoopVarUse, PrivateUse, ReductionUse, AtomicForm, NotShareable, Unlisted, MixedKinds, CollapseForm}
use Rattle.typing.specs.declared.around.Ends.{Ends}
use Rattle.typing.specs.Errors.{error_by}
use Rattle.typing.specs.Firsts.{told, own_of, is_out, is_other_use, is_copied_array, is_wrong_variable, unit_rule, argument_rule, declared_rule, bounding_rule, listed_rule, directive_rule, variable_rule, target_rule, use_rule, number_rule, exponent_rule}
use Rattle.typing.specs.Views.{Around}
use Rattle.typing.proofs.Heads.{error, none_left, rule_first, rule_then, rule_last}

-- ---- surroundings as the walk has them

abbrev pub own_seen : Program → Option (Designator × Expression) → Option (List ℕ)
own_seen p None = None
own_seen p (Some a) = own_of p a.0 a.1

abbrev pub seen : Program → Surroundings → Around
seen p s = record { line = s.line; vars = s.vars; parallel = s.parallel; in_nest = s.in_nest; own = own_seen p s.assignment; subscript_of = s.subscript_of }

abbrev pub flags : Program → Surroundings → List Ending → Ends
flags p s ends = record {
  clash = list_any (kinds_differ p) ends;
  division = list_any (divides_data p) ends;
  index = list_any (is_data_as_index p) ends;
  atomic = list_any (is_bad_atomic p s) ends;
}

named_by : (b : Bool) (y x : List ℕ) → is_name_of (if b then None else Some y) x ≡ not b && bytes_eq y x
named_by true y x = refl
named_by false y x = refl

own_named : (p : Program) (o : Option (Designator × Expression)) (x : List ℕ) → is_name_of (own_seen p o) x ≡ is_increment_of p o x
own_named p None x = refl
own_named p (Some a) x = named_by (is_no_terms (increment_terms (is_ring_name p.decls) a.0 a.1)) a.0.name x

other_use : (p : Program) (s : Surroundings) (x : List ℕ) → is_other_use (seen p s) x ≡ is_plus_in s.parallel x && not (is_increment_of p s.assignment x)
other_use p s x = ap (λ b. is_plus_in s.parallel x && not b) (own_named p s.assignment x)

rule_first_by : (b c : Bool) (r : Rule) (line : ℕ) (x : List ℕ) (rest : Option Rule) (fs : List TypeError) → b ≡ c
    → error (told line x rest) ≡ slice_get fs 0 → error (told line x (if b then Some r else rest)) ≡ slice_get (when c (error_by r line x) ++ fs) 0
rule_first_by b c r line x rest fs e h = rw e (rule_first c r line x rest fs h)

-- ---- declarations

pub unit_said : (p : Program) (line : ℕ) (x : List ℕ) → error (told line x (unit_rule x)) ≡ slice_get (faults_at p (the_unit line x)) 0
unit_said p line x = rule_first (is_reserved x) ReservedSuffix line x None [] (none_left line x)

pub argument_said : (p : Program) (line : ℕ) (earlier : List (List ℕ)) (x : List ℕ) → error (told line x (argument_rule p earlier x)) ≡ slice_get (faults_at p (an_argument line earlier x)) 0
argument_said p line earlier x =
    rule_first (not (is_declared p.decls x)) Undeclared line x _ _ (rule_first (has_name x earlier) Doubled line x None [] (none_left line x))

pub declared_said : (p : Program) (earlier : List Decl) (d : Decl) → error (told d.line d.name (declared_rule p earlier d)) ≡ slice_get (faults_at p (a_declared earlier d)) 0
declared_said p earlier d =
    rule_first (is_declared earlier d.name) Doubled d.line d.name _ _ (rule_first (is_reserved d.name) ReservedSuffix d.line d.name _ _
    (rule_first (not (is_argument_if_array p.args d)) LocalArray d.line d.name _ _ (rule_first (nat_lt 7 (length d.dims)) Rank d.line d.name _ _
    (rule_first (not (has_bytes (bytes_of_data p.decls) d)) MixedKinds d.line d.name None [] (none_left d.line d.name)))))

pub bounding_said : (p : Program) (line : ℕ) (x : List ℕ) → error (told line x (bounding_rule p x)) ≡ slice_get (faults_at p (a_bounding line x)) 0
bounding_said p line x =
    rule_first (not (is_declared p.decls x)) Undeclared line x _ _ (rule_first (not (is_index_scalar_argument p x)) Rank line x _ _
    (rule_first (is_varying p x) LoopVarUse line x _ _ (rule_first (is_private_name p x) PrivateUse line x None [] (none_left line x))))

-- ---- loops

pub listed_said : (p : Program) (l : Region) (x : List ℕ) → error (told l.directive.line x (listed_rule p l x)) ≡ slice_get (faults_at p (a_listed l x)) 0
listed_said p l x =
    rule_first (not (is_declared p.decls x)) Undeclared l.directive.line x _ _
    (rule_first (is_private_in l x && not (is_local_scalar p x)) PrivateUse l.directive.line x _ _
    (rule_first (has_name x l.directive.pluses && not (is_ring_scalar p x)) ReductionUse l.directive.line x _ _
    (rule_first (is_copied_array p l x || is_wrong_variable l x) NotShareable l.directive.line x None [] (none_left l.directive.line x))))

pub directive_said : (p : Program) (l : Region) → error (told l.directive.line [] (directive_rule l)) ≡ slice_get (faults_at p (a_directive l)) 0
directive_said p l = rule_last (is_bad_nest l) CollapseForm l.directive.line []

pub variable_said : (p : Program) (s : Surroundings) (x : List ℕ) → error (told s.line x (variable_rule p (seen p s) x)) ≡ slice_get (faults_at p (a_variable s x)) 0
variable_said p s x =
    rule_first (not (is_declared p.decls x)) Undeclared s.line x _ _
    (rule_first (not (is_local_index_scalar p x) || has_name x s.vars) LoopVarUse s.line x None [] (none_left s.line x))

-- ---- expressions

pub target_said : (p : Program) (s : Surroundings) (x : List ℕ) (n : ℕ) → error (told s.line x (target_rule p (seen p s) x n)) ≡ slice_get (faults_at p (a_target s x n)) 0
target_said p s x n =
    rule_then (not (is_declared p.decls x)) Undeclared s.line x _ _ _ (rule_then (not (has_declared_rank p.decls x n)) Rank s.line x None _ _
    (rule_first (is_read_only_argument p x) IntentIn s.line x _ _ (rule_first (is_varying p x) LoopVarUse s.line x _ _
    (rule_first (is_out p (seen p s) x || is_first_in s.parallel x) PrivateUse s.line x _ _
    (rule_first_by (is_other_use (seen p s) x) (is_plus_in s.parallel x && not (is_increment_of p s.assignment x)) ReductionUse s.line x _ _ (other_use p s x)
    (rule_first (is_unlisted_in s.parallel x) Unlisted s.line x None [] (none_left s.line x)))))))

pub use_said : (p : Program) (s : Surroundings) (ends : List Ending) (x : List ℕ) (n : ℕ)
    → error (told s.line x (use_rule p (seen p s) (flags p s ends) x n)) ≡ slice_get (faults_at p (a_use s ends x n)) 0
use_said p s ends x n =
    rule_then (not (is_declared p.decls x)) Undeclared s.line x _ _ _ (rule_then (not (has_declared_rank p.decls x n)) Rank s.line x None _ _
    (rule_then (list_any (kinds_differ p) ends) KindClash s.line x _ _ _ (rule_then (list_any (divides_data p) ends) DataDivision s.line x _ _ _
    (rule_then (list_any (is_data_as_index p) ends) DataToIndex s.line x None _ _ (rule_first (is_name_of s.subscript_of x) SelfSubscript s.line x _ _
    (rule_first (is_varying p x && not (has_name x s.vars)) LoopVarUse s.line x _ _ (rule_first (is_out p (seen p s) x) PrivateUse s.line x _ _
    (rule_first_by (is_other_use (seen p s) x) (is_plus_in s.parallel x && not (is_increment_of p s.assignment x)) ReductionUse s.line x _ _ (other_use p s x)
    (rule_first (list_any (is_bad_atomic p s) ends) AtomicForm s.line x _ _ (rule_first (is_unlisted_in s.parallel x) Unlisted s.line x None [] (none_left s.line x)))))))))))

pub exponent_said : (p : Program) (s : Surroundings) (ends : List Ending) → error (told s.line [] (exponent_rule (flags p s ends))) ≡ slice_get (faults_at p (an_exponent s ends)) 0
exponent_said p s ends =
    rule_then (list_any (kinds_differ p) ends) KindClash s.line [] _ _ _ (rule_then (list_any (divides_data p) ends) DataDivision s.line [] _ _ _
    (rule_then (list_any (is_data_as_index p) ends) DataToIndex s.line [] None _ _
    (rule_first (list_any (is_bad_atomic p s) ends) AtomicForm s.line [] None [] (none_left s.line []))))

ring_said : (p : Program) (s : Surroundings) (ends : List Ending) (n : ℕ) → error (told s.line [] (exponent_rule (flags p s ends))) ≡ slice_get (faults_at p (a_number s ends n Ring)) 0
ring_said p s ends n =
    rule_then (list_any (kinds_differ p) ends) KindClash s.line [] _ _ _ (rule_then (list_any (divides_data p) ends) DataDivision s.line [] _ _ _
    (rule_then (list_any (is_data_as_index p) ends) DataToIndex s.line [] None _ _
    (rule_first (list_any (is_bad_atomic p s) ends) AtomicForm s.line [] None [] (none_left s.line []))))

pub number_said : (p : Program) (s : Surroundings) (ends : List Ending) (n : ℕ) (k : Kind)
    → error (told s.line [] (number_rule (flags p s ends) n k)) ≡ slice_get (faults_at p (a_number s ends n k)) 0
number_said p s ends n Index = rule_then (nat_lt 2147483647 n) LiteralRange s.line [] None _ _ (ring_said p s ends n)
number_said p s ends n Ring = ring_said p s ends n
