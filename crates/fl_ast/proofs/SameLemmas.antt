-- Equality of trees: the flags of `==` at the operators, and what the tests decide.
use Rattle.std.specs.Prelude.{◌≡◌, ℕ, true, ◌&&◌, List, nat_eq, bytes_eq, refl}
use Rattle.std.proofs.Common.{ap, subst}
use denote.Enum.Bare.{sameb}
use Rattle.std.proofs.lemmas.Bool.{and_parts, and_from, eqb-true, eq-eqb}
use Rattle.std.proofs.lemmas.Slice.Eq.{bytes_eq-Decides}
use Rattle.fl_ast.specs.contracts.kind.Kind as kind
use Rattle.fl_ast.specs.contracts.kind.BinOp as operator
use Rattle.fl_ast.specs.contracts.kind.Fun as function
use Rattle.fl_ast.specs.declared.kind.Kind.{Kind}
use Rattle.fl_ast.specs.declared.kind.Kind.TheVariants.{Index, Ring}
use Rattle.fl_ast.specs.declared.kind.BinOp.{BinOp}
use Rattle.fl_ast.specs.declared.kind.BinOp.TheVariants.{Add, Sub, Mul, Div}
use Rattle.fl_ast.specs.declared.kind.Fun.{Fun}
use Rattle.fl_ast.specs.declared.kind.Fun.TheVariants.{Max, Min, Abs, Mod}
use Rattle.fl_ast.specs.Tree.{Expression, literal, get, minus, binary, power, call, Expressions, no_expressions, expression}
use Rattle.fl_ast.specs.Same.{same_kind, same_operator, same_function, same_expression, same_expressions, SameIsEqual}

pub same_kind_flag : (a b : Kind) → sameb kind.the_type a b ≡ same_kind a b
same_kind_flag Index Index = refl
same_kind_flag Ring Ring = refl
same_kind_flag _ _ = refl

pub same_operator_flag : (a b : BinOp) → sameb operator.the_type a b ≡ same_operator a b
same_operator_flag Add Add = refl
same_operator_flag Sub Sub = refl
same_operator_flag Mul Mul = refl
same_operator_flag Div Div = refl
same_operator_flag _ _ = refl

pub same_function_flag : (a b : Fun) → sameb function.the_type a b ≡ same_function a b
same_function_flag Max Max = refl
same_function_flag Min Min = refl
same_function_flag Abs Abs = refl
same_function_flag Mod Mod = refl
same_function_flag _ _ = refl

kinds_equal : (a b : Kind) → same_kind a b ≡ true → a ≡ b
kinds_equal Index Index h = refl
kinds_equal Ring Ring h = refl
kinds_equal _ _ h = cc

operators_equal : (a b : BinOp) → same_operator a b ≡ true → a ≡ b
operators_equal Add Add h = refl
operators_equal Sub Sub h = refl
operators_equal Mul Mul h = refl
operators_equal Div Div h = refl
operators_equal _ _ h = cc

functions_equal : (a b : Fun) → same_function a b ≡ true → a ≡ b
functions_equal Max Max h = refl
functions_equal Min Min h = refl
functions_equal Abs Abs h = refl
functions_equal Mod Mod h = refl
functions_equal _ _ h = cc

mutual
  equal : (a b : Expression) → same_expression a b ≡ true → a ≡ b
  equal (literal n k) (literal m j) h =
      let p : (nat_eq n m ≡ true) × (same_kind k j ≡ true) = and_parts _ _ h in
      let e : n ≡ m = eqb-true n m p.0 in
      let f : k ≡ j = kinds_equal k j p.1 in
      cc
  equal (get x s) (get y t) h =
      let p : (bytes_eq x y ≡ true) × (same_expressions s t ≡ true) = and_parts _ _ h in
      let e : x ≡ y = (bytes_eq-Decides x y).0 p.0 in
      let f : s ≡ t = equals s t p.1 in
      cc
  equal (minus a) (minus b) h = ap minus (equal a b h)
  equal (binary o a b) (binary p c d) h =
      let q : (same_operator o p && same_expression a c ≡ true) × (same_expression b d ≡ true) = and_parts _ _ h in
      let r : (same_operator o p ≡ true) × (same_expression a c ≡ true) = and_parts _ _ q.0 in
      let e : o ≡ p = operators_equal o p r.0 in
      let f : a ≡ c = equal a c r.1 in
      let g : b ≡ d = equal b d q.1 in
      cc
  equal (power a n) (power b m) h =
      let p : (nat_eq n m ≡ true) × (same_expression a b ≡ true) = and_parts _ _ h in
      let e : n ≡ m = eqb-true n m p.0 in
      let f : a ≡ b = equal a b p.1 in
      cc
  equal (call x s) (call y t) h =
      let p : (same_function x y ≡ true) × (same_expressions s t ≡ true) = and_parts _ _ h in
      let e : x ≡ y = functions_equal x y p.0 in
      let f : s ≡ t = equals s t p.1 in
      cc
  equal _ _ h = cc

  equals : (s t : Expressions) → same_expressions s t ≡ true → s ≡ t
  equals no_expressions no_expressions h = refl
  equals (expression a s) (expression b t) h =
      let p : (same_expression a b ≡ true) × (same_expressions s t ≡ true) = and_parts _ _ h in
      let e : a ≡ b = equal a b p.0 in
      let f : s ≡ t = equals s t p.1 in
      cc
  equals _ _ h = cc

kind_itself : (a : Kind) → same_kind a a ≡ true
kind_itself Index = refl
kind_itself Ring = refl

operator_itself : (a : BinOp) → same_operator a a ≡ true
operator_itself Add = refl
operator_itself Sub = refl
operator_itself Mul = refl
operator_itself Div = refl

function_itself : (a : Fun) → same_function a a ≡ true
function_itself Max = refl
function_itself Min = refl
function_itself Abs = refl
function_itself Mod = refl

name_itself : (x : List ℕ) → bytes_eq x x ≡ true
name_itself x = (bytes_eq-Decides x x).1 refl

mutual
  itself : (a : Expression) → same_expression a a ≡ true
  itself (literal n k) = and_from _ _ (eq-eqb n n refl) (kind_itself k)
  itself (get x s) = and_from _ _ (name_itself x) (themselves s)
  itself (minus a) = itself a
  itself (binary o a b) = and_from _ _ (and_from _ _ (operator_itself o) (itself a)) (itself b)
  itself (power a n) = and_from _ _ (eq-eqb n n refl) (itself a)
  itself (call f s) = and_from _ _ (function_itself f) (themselves s)

  themselves : (s : Expressions) → same_expressions s s ≡ true
  themselves no_expressions = refl
  themselves (expression a s) = and_from _ _ (itself a) (themselves s)

same : (a b : Expression) → a ≡ b → same_expression a b ≡ true
same a b e = let P : Expression → Type 0 = λ x. same_expression a x ≡ true in subst P e (itself a)

pub same_is_equal : SameIsEqual
same_is_equal = λ a b. (equal a b, same a b)
