-- What typing says of the names where they stand.
use Rattle.std.proofs.Common.{◌≡◌, inl, inr, ℕ, Bool, true, false, not, ◌&&◌, ◌||◌, List, [], ◌∷◌, ◌++◌, slice_get, Option, Some, None, subst}
use Rattle.std.specs.List.{list_any}
use Rattle.std.proofs.lemmas.Bool.{or_parts}
use Rattle.fl_ast.specs.declared.stmt.Program.{Program}
use Rattle.fl_ast.specs.Tree.{Expression, literal, get, minus, binary, power, call, Expressions, no_expressions, expression, Designator}
use Rattle.fl_types.specs.Kinds.{expression_count, has_declared_rank}
use Rattle.fl_types.specs.Sharing.{has_name}
use Rattle.fl_types.specs.Declarations.{is_declared}
use Rattle.fl_types.specs.WellTyped.{is_local_index_scalar, is_read_only_argument}
use Rattle.fl_types.specs.Mentions as m
use Rattle.fl_types.specs.Mentions.{Region, Surroundings, Ending, a_value, an_index, an_assignment, Mention, a_variable, a_target, a_use}
use Rattle.fl_types.specs.Rows.{faults_at, is_varying, is_private_name, is_own_in, is_first_in, is_out_of_loop, is_name_of, kinds_differ, divides_data, is_data_as_index}
use Rattle.reachability.specs.Reached.{IsAmong}
use Rattle.adjoint_rules.specs.Needed.{names_in, names_in_all}
use Rattle.typing.proofs.Faultless.{Clean, apart, at_first, holds}
use Rattle.sound_programs.proofs.Lists.{no_not}

-- what is known of a name where its value may be used
pub record IsUsable (p : Program) (vars : List (List ℕ)) (parallel : Option Region) (x : List ℕ) : Type 0 where
  pub known : is_declared p.decls x ≡ true
  -- a loop's variable stands in its loops alone
  pub scope : (is_varying p x && not (has_name x vars)) ≡ false
  -- a private name stands in the loops alone in which it is one
  pub own : (is_private_name p x && (not (has_name x vars) && not (is_own_in parallel x))) ≡ false

pub record IsUsed (p : Program) (vars : List (List ℕ)) (parallel : Option Region) (around : Option (List ℕ)) (x : List ℕ) : Type 0 where
  pub usable : IsUsable p vars parallel x
  -- it isn't the target in whose subscripts it stands
  pub other : is_name_of around x ≡ false

pub record IsTarget (p : Program) (vars : List (List ℕ)) (parallel : Option Region) (x : List ℕ) : Type 0 where
  pub known : is_declared p.decls x ≡ true
  pub fixed : is_varying p x ≡ false
  pub own : (is_private_name p x && (not (has_name x vars) && not (is_own_in parallel x))) ≡ false

pub record IsVariable (p : Program) (vars : List (List ℕ)) (x : List ℕ) : Type 0 where
  pub known : is_declared p.decls x ≡ true
  pub local : is_local_index_scalar p x ≡ true
  pub new : has_name x vars ≡ false

use_clean : (p : Program) (s : Surroundings) (ends : List Ending) (x : List ℕ) (n : ℕ) → slice_get (faults_at p (a_use s ends x n)) 0 ≡ None
    → IsUsed p s.vars s.parallel s.subscript_of x
use_clean p s ends x n h =
    let a = holds (not (is_declared p.decls x)) _ _ h in
    let b = holds (not (has_declared_rank p.decls x n)) _ _ a.1 in
    let c = holds (list_any (kinds_differ p) ends) _ _ b.1 in
    let d = holds (list_any (divides_data p) ends) _ _ c.1 in
    let e = holds (list_any (is_data_as_index p) ends) _ _ d.1 in
    let f = holds (is_name_of s.subscript_of x) _ _ e.1 in
    let g = holds (is_varying p x && not (has_name x s.vars)) _ _ f.1 in
    let i = holds (is_out_of_loop p s x) _ _ g.1 in
    record { usable = record { known = no_not _ a.0; scope = g.0; own = i.0 }; other = f.0 }

pub target_clean : (p : Program) (s : Surroundings) (x : List ℕ) (n : ℕ) → slice_get (faults_at p (a_target s x n)) 0 ≡ None
    → IsTarget p s.vars s.parallel x
target_clean p s x n h =
    let a = holds (not (is_declared p.decls x)) _ _ h in
    let b = holds (not (has_declared_rank p.decls x n)) _ _ a.1 in
    let c = holds (is_read_only_argument p x) _ _ b.1 in
    let d = holds (is_varying p x) _ _ c.1 in
    let e = holds (is_out_of_loop p s x || is_first_in s.parallel x) _ _ d.1 in
    record { known = no_not _ a.0; fixed = d.0; own = (or_parts (is_out_of_loop p s x) (is_first_in s.parallel x) e.0).0 }

pub variable_clean : (p : Program) (s : Surroundings) (x : List ℕ) → slice_get (faults_at p (a_variable s x)) 0 ≡ None → IsVariable p s.vars x
variable_clean p s x h =
    let a = holds (not (is_declared p.decls x)) _ _ h in
    let b = holds (not (is_local_index_scalar p x) || has_name x s.vars) _ _ a.1 in
    let c = or_parts (not (is_local_index_scalar p x)) (has_name x s.vars) b.0 in
    record { known = no_not _ a.0; local = no_not _ c.0; new = c.1 }

-- ---- the names of an expression

abbrev AreUsed : Program → Surroundings → List (List ℕ) → Type 0
AreUsed p s xs = (x : List ℕ) → IsAmong xs x → IsUsed p s.vars s.parallel s.subscript_of x

used_both : (p : Program) (s : Surroundings) (xs ys : List (List ℕ)) → AreUsed p s xs → AreUsed p s ys → AreUsed p s (xs ++ ys)
used_both p s [] ys f g x h = g x h
used_both p s (z ∷ xs) ys f g x (inl e) = f x (inl e)
used_both p s (z ∷ xs) ys f g x (inr h) = used_both p s xs ys (λ y k. f y (inr k)) g x h

used_first : (p : Program) (s : Surroundings) (y : List ℕ) (xs : List (List ℕ)) → IsUsed p s.vars s.parallel s.subscript_of y
    → AreUsed p s xs → AreUsed p s (y ∷ xs)
used_first p s y xs h f x (inl e) = subst (IsUsed p s.vars s.parallel s.subscript_of) e h
used_first p s y xs h f x (inr k) = f x k

mutual
  pub used_in : (p : Program) (s : Surroundings) (ends : List Ending) (e : Expression) → Clean p (m.in_expression s ends e) → AreUsed p s (names_in e)
  used_in p s ends (literal n k) h = λ x g. absurd g
  used_in p s ends (get y ss) h =
      let q = at_first p (a_use s (m.at_last ss (a_value (get y ss) ∷ ends)) y (expression_count ss))
      (m.in_subscripts s (a_value (get y ss) ∷ ends) ss) h in
      used_first p s y (names_in_all ss) (use_clean p s (m.at_last ss (a_value (get y ss) ∷ ends)) y (expression_count ss) q.0)
      (used_in_subscripts p s (a_value (get y ss) ∷ ends) ss q.1)
  used_in p s ends (minus a) h = used_in p s (a_value (minus a) ∷ ends) a h
  used_in p s ends (binary o a b) h =
      let q = apart p (m.in_expression s [] a) (m.in_expression s (a_value (binary o a b) ∷ ends) b) h in
      used_both p s (names_in a) (names_in b) (used_in p s [] a q.0) (used_in p s (a_value (binary o a b) ∷ ends) b q.1)
  used_in p s ends (power a n) h = used_in p s [] a (apart p (m.in_expression s [] a) (m.an_exponent s (a_value (power a n) ∷ ends) ∷ []) h).0
  used_in p s ends (call f args) h = used_in_arguments p s (a_value (call f args) ∷ ends) args h

  pub used_in_subscripts : (p : Program) (s : Surroundings) (ends : List Ending) (es : Expressions) → Clean p (m.in_subscripts s ends es)
      → AreUsed p s (names_in_all es)
  used_in_subscripts p s ends no_expressions h = λ x g. absurd g
  used_in_subscripts p s ends (expression a es) h =
      let q = apart p (m.in_expression s (an_index a ∷ m.at_last es ends) a) (m.in_subscripts s ends es) h in
      used_both p s (names_in a) (names_in_all es) (used_in p s (an_index a ∷ m.at_last es ends) a q.0) (used_in_subscripts p s ends es q.1)

  used_in_arguments : (p : Program) (s : Surroundings) (ends : List Ending) (es : Expressions) → Clean p (m.in_arguments s ends es)
      → AreUsed p s (names_in_all es)
  used_in_arguments p s ends no_expressions h = λ x g. absurd g
  used_in_arguments p s ends (expression a es) h =
      let q = apart p (m.in_expression s (m.at_last es ends) a) (m.in_arguments s ends es) h in
      used_both p s (names_in a) (names_in_all es) (used_in p s (m.at_last es ends) a q.0) (used_in_arguments p s ends es q.1)

-- ---- an assignment

pub record IsCleanAssignment (p : Program) (vars : List (List ℕ)) (parallel : Option Region) (t : Designator) (e : Expression) : Type 0 where
  pub target : IsTarget p vars parallel t.name
  pub subscripts : (x : List ℕ) → IsAmong (names_in_all t.subscripts) x → IsUsed p vars parallel (Some t.name) x
  pub value : (x : List ℕ) → IsAmong (names_in e) x → IsUsed p vars parallel None x

pub assignment_clean : (p : Program) (s : Surroundings) (line : ℕ) (atomic : Bool) (t : Designator) (e : Expression)
    → Clean p (m.in_assignment s line atomic t e) → IsCleanAssignment p s.vars s.parallel t e
assignment_clean p s line atomic t e h =
    let q = at_first p (a_target (m.at_assignment s line t e) t.name (expression_count t.subscripts))
    (m.in_subscripts (m.at_subscripts s line t e) [] t.subscripts ++ m.in_expression (m.at_assignment s line t e)
    (an_assignment atomic t e ∷ []) e) h in
    let r = apart p (m.in_subscripts (m.at_subscripts s line t e) [] t.subscripts)
    (m.in_expression (m.at_assignment s line t e) (an_assignment atomic t e ∷ []) e) q.1 in
    record {
      target = target_clean p (m.at_assignment s line t e) t.name (expression_count t.subscripts) q.0;
      subscripts = used_in_subscripts p (m.at_subscripts s line t e) [] t.subscripts r.0;
      value = used_in p (m.at_assignment s line t e) (an_assignment atomic t e ∷ []) e r.1;
    }
