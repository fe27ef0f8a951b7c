-- The same as the code goes over it: `on` and `ring` tell the active names and those of the ring kind. `walked_is` and `loops_are` say that it is the same.
use Rattle.std.specs.Prelude.{ℕ, Bool, true, false, not, ◌&&◌, ◌||◌, ◌==◌, if◌then◌else◌, bytes_eq, List, [], ◌∷◌, ◌++◌, Option, Some, None, is_some}
use Rattle.std.specs.List.{flat_map}
use Rattle.fl_ast.specs.declared.kind.BinOp.{BinOp}
use Rattle.fl_ast.specs.declared.kind.BinOp.TheVariants as op
use Rattle.fl_ast.specs.declared.kind.Fun.{Fun}
use Rattle.fl_ast.specs.declared.kind.Fun.TheVariants as fun
use Rattle.fl_ast.specs.declared.decl.Decl.{Decl}
use Rattle.fl_ast.specs.declared.directive.Directive.{Directive}
use Rattle.fl_ast.specs.Readable.{number_of}
use Rattle.fl_ast.specs.Tree.{Expression, literal, get, minus, binary, power, call, Expressions, no_expressions, expression, Designator, Statement, assignment, branch, loop, Statements, no_statements, statement, Arms, no_arms, arm}
use Rattle.fl_types.specs.declared.choice.Chosen.{Chosen}
use Rattle.fl_types.specs.Increment.{increment_form}
use Rattle.fl_types.specs.Sharing.{sharing_in}
use Rattle.adjoint_rules.specs.Needed.{Kinds}
use Rattle.adjoint_choices.specs.Choosing.{has_a_choice, chosen_for}

abbrev pub is_division : BinOp → Bool
is_division op.Div = true
is_division op.Add = false
is_division op.Sub = false
is_division op.Mul = false

-- a call of that many operands follows the one that is taken
abbrev pub is_followed : Fun → ℕ → Bool
is_followed fun.Max n = n == 2
is_followed fun.Min n = n == 2
is_followed fun.Abs n = n == 1
is_followed fun.Mod n = false

-- the name occurs outside subscripts, where a derivative follows it
abbrev mutual
  pub carries : List ℕ → Expression → Bool
  carries x (literal n k) = false
  carries x (get y s) = bytes_eq x y
  carries x (minus a) = carries x a
  carries x (binary o a b) = if is_division o then false else (carries x a || carries x b)
  carries x (power a n) = carries x a
  carries x (call f s) = if is_followed f (number_of s) then any_carries x s else false

  pub any_carries : List ℕ → Expressions → Bool
  any_carries x no_expressions = false
  any_carries x (expression a s) = carries x a || any_carries x s

-- an increment has no occurrence of its target in its rest terms
abbrev pub carried_by : Kinds → List ℕ → Designator → Expression → Bool
carried_by k x p e =
    if not (carries x e) then false
    else if not (k.active p.name) then false
    else if not (bytes_eq x p.name) then true
    else if not (k.ring p.name) then true
    else not (is_some (increment_form p e))

abbrev mutual
  pub carried : Kinds → List ℕ → Statement → Bool
  carried k x (assignment line atomic p e) = carried_by k x p e
  carried k x (branch line arms other) = carried_in_arms k x arms || carried_in k x other
  carried k x (loop line number directive var first last step body) = carried_in k x body

  pub carried_in : Kinds → List ℕ → Statements → Bool
  carried_in k x no_statements = false
  carried_in k x (statement s ss) = carried k x s || carried_in k x ss

  pub carried_in_arms : Kinds → List ℕ → Arms → Bool
  carried_in_arms k x no_arms = false
  carried_in_arms k x (arm test body arms) = carried_in k x body || carried_in_arms k x arms

-- ---- loops

-- what choices depend on besides the loop: the declarations, the kinds of names, and the active names in their order
pub record Setting : Type 0 where
  pub decls : List Decl
  pub kinds : Kinds
  pub names : List (List ℕ)

abbrev pub choices_at : Setting → ℕ → List ℕ → Directive → Statements → List ℕ → List Chosen
choices_at s number var directive body x =
    if has_a_choice (sharing_in var directive body x) && carried_in s.kinds x body then chosen_for s.decls number body x ∷ [] else []

abbrev mutual
  pub choices_in : Setting → Statement → List Chosen
  choices_in s (assignment line atomic target value) = []
  choices_in s (branch line arms other) = choices_in_arms s arms ++ choices_in_all s other
  choices_in s (loop line number None var first last step body) = choices_in_all s body
  choices_in s (loop line number (Some directive) var first last step body) = flat_map (choices_at s number var directive body) s.names ++ choices_in_all s body

  pub choices_in_all : Setting → Statements → List Chosen
  choices_in_all s no_statements = []
  choices_in_all s (statement t ts) = choices_in s t ++ choices_in_all s ts

  pub choices_in_arms : Setting → Arms → List Chosen
  choices_in_arms s no_arms = []
  choices_in_arms s (arm test body arms) = choices_in_all s body ++ choices_in_arms s arms
