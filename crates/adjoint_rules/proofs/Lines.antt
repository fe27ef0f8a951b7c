-- Adjoints of single assignments.
use Rattle.std.specs.Prelude.{◌≡◌, ℕ, true, false, List, [], ◌∷◌, codes, refl}
use Rattle.fl_ast.specs.declared.kind.Kind.TheVariants as kind
use Rattle.fl_ast.specs.declared.kind.Fun.TheVariants as fun
use Rattle.fl_ast.specs.declared.kind.RelOp.TheVariants as rel
use Rattle.fl_ast.specs.Tree.{minus, power, call, no_expressions, expression, relation, Statement, assignment}
use Rattle.fl_ast.specs.AdjointTree.{adjoint_literal, adjoint_get, adjoint_minus, adjoint_binary, merge, AdjointStatement, adjoint_assignment, push, pop}
use Rattle.fl_ast.specs.declared.kind.BinOp.TheVariants as op
use Rattle.adjoint_rules.specs.OwnNames.{main_tape}
use Rattle.adjoint_rules.specs.Expressions.{in_adjoint}
use Rattle.adjoint_rules.specs.Scopes.{Scope}
use Rattle.adjoint_rules.specs.Forward.{forward}
use Rattle.adjoint_rules.specs.Reverse.{backward}
use Rattle.adjoint_rules.proofs.Small.{x, y, z, index, data_of, name, to, ◌plus◌, ◌less◌, ◌times◌, set, does, atomically, t, to_t, scope_of}

abbrev xb : List ℕ
xb = codes "x_b"

abbrev yb : List ℕ
yb = codes "y_b"

abbrev zb : List ℕ
zb = codes "z_b"

-- x and y are active, x is needed
abbrev here : Scope
here = scope_of (x ∷ y ∷ []) (x ∷ y ∷ []) (x ∷ y ∷ []) (x ∷ []) []

-- y = x*x + 3*x
pub poly : backward (set 4 (to y) (name x times name x plus index 3 times name x)) here
    ≡ does 4 to_t (name yb) ∷ does 4 (to yb) (data_of 0)
    ∷ does 4 (to xb) (name xb plus (t times name x)) ∷ does 4 (to xb) (name xb plus (t times name x)) ∷ does 4 (to xb) (name xb plus (t times index 3)) ∷ []
poly = refl

-- y isn't needed, so its old value isn't pushed; x is
pub poly_forward : forward (set 4 (to y) (name x)) here ≡ does 4 (to y) (name x) ∷ []
poly_forward = refl

pub pushed : forward (set 4 (to x) (name y)) here ≡ push 4 main_tape (name x) ∷ does 4 (to x) (name y) ∷ []
pushed = refl

-- x = -(y - x): the clear comes before the increments
pub signs : backward (set 4 (to x) (minus (name y less name x))) here
    ≡ does 4 to_t (name xb) ∷ does 4 (to xb) (data_of 0) ∷ pop 4 main_tape (to x)
    ∷ does 4 (to yb) (name yb less t) ∷ does 4 (to xb) (name xb plus t) ∷ []
signs = refl

-- no active occurrence: the adjoint is still moved
pub cleared_alone : backward (set 4 (to y) (index 7)) here ≡ does 4 to_t (name yb) ∷ does 4 (to yb) (data_of 0) ∷ []
cleared_alone = refl

-- a target that isn't active is restored alone
pub restored_alone : backward (set 4 (to x) (name y)) (scope_of [] (x ∷ []) (y ∷ []) (x ∷ []) []) ≡ pop 4 main_tape (to x) ∷ []
restored_alone = refl

-- powers
abbrev of_power : ℕ → List AdjointStatement
of_power p = backward (set 4 (to y) (power (name x) p)) here

abbrev after_move : List AdjointStatement → List AdjointStatement
after_move rest = does 4 to_t (name yb) ∷ does 4 (to yb) (data_of 0) ∷ rest

pub power_0 : of_power 0 ≡ after_move (does 4 (to xb) (name xb plus (t times data_of 0)) ∷ [])
power_0 = refl

pub power_1 : of_power 1 ≡ after_move (does 4 (to xb) (name xb plus t) ∷ [])
power_1 = refl

pub power_2 : of_power 2 ≡ after_move (does 4 (to xb) (name xb plus (t times data_of 2 times name x)) ∷ [])
power_2 = refl

pub power_3 : of_power 3 ≡ after_move (does 4 (to xb) (name xb plus (t times data_of 3 times power (name x) 2)) ∷ [])
power_3 = refl

-- max, min and abs
pub larger : backward (set 4 (to y) (call fun.Max (expression (name x) (expression (name y) no_expressions)))) here
    ≡ after_move
    (adjoint_assignment 4 false (to xb)
    (adjoint_binary op.Add (adjoint_get (to xb)) (adjoint_binary op.Mul (in_adjoint t) (merge (adjoint_literal 1 kind.Ring) (adjoint_literal 0 kind.Ring) (relation rel.Ge (name x) (name y)))))
    ∷ adjoint_assignment 4 false (to yb)
    (adjoint_binary op.Add (adjoint_get (to yb)) (adjoint_binary op.Mul (in_adjoint t) (merge (adjoint_literal 0 kind.Ring) (adjoint_literal 1 kind.Ring) (relation rel.Ge (name x) (name y)))))
    ∷ [])
larger = refl

pub absolute : backward (set 4 (to y) (call fun.Abs (expression (name x) no_expressions))) here
    ≡ after_move
    (adjoint_assignment 4 false (to xb)
    (adjoint_binary op.Add (adjoint_get (to xb))
    (adjoint_binary op.Mul (in_adjoint t) (merge (adjoint_minus (adjoint_literal 1 kind.Ring)) (adjoint_literal 1 kind.Ring) (relation rel.Lt (name x) (data_of 0)))))
    ∷ [])
absolute = refl

-- ---- increments: undone first, and no clear

abbrev all_needed : Scope
all_needed = scope_of (x ∷ y ∷ z ∷ []) (x ∷ y ∷ z ∷ []) (x ∷ y ∷ z ∷ []) (x ∷ y ∷ z ∷ []) []

-- x = x + y - z*2
abbrev three : Statement
three = set 4 (to x) (name x plus name y less name z times index 2)

pub increment_forward : forward three all_needed ≡ does 4 (to x) (name x plus name y less name z times index 2) ∷ []
increment_forward = refl

pub increment : backward three all_needed
    ≡ does 4 (to x) (name x less name y plus name z times index 2) ∷ does 4 to_t (name xb)
    ∷ does 4 (to yb) (name yb plus t) ∷ does 4 (to zb) (name zb less (t times index 2)) ∷ []
increment = refl

-- x = y + x
pub sum : backward (set 4 (to x) (name y plus name x)) all_needed
    ≡ does 4 (to x) (name x less name y) ∷ does 4 to_t (name xb) ∷ does 4 (to yb) (name yb plus t) ∷ []
sum = refl

-- an atomic update with several terms is undone by one term, under `atomic`
pub atomic_terms : backward (assignment 4 true (to x) (name x plus name y plus name z)) all_needed
    ≡ atomically 4 (to x) (name x less (name y plus name z)) ∷ does 4 to_t (name xb) ∷ does 4 (to yb) (name yb plus t) ∷ does 4 (to zb) (name zb plus t) ∷ []
atomic_terms = refl

-- a reduction's with a minus in front: x = x - y + z
pub reduction_terms : backward (set 4 (to x) (name x less name y plus name z)) (record all_needed { pluses = λ v. true; active = λ v. false })
    ≡ atomically 4 (to x) (name x less (minus (name y) plus name z)) ∷ []
reduction_terms = refl

-- one term stays as it is
pub one_term : backward (assignment 4 true (to x) (name x less name y)) (record all_needed { active = λ v. false })
    ≡ atomically 4 (to x) (name x plus name y) ∷ []
one_term = refl

-- not needed: not undone
pub not_undone : backward (assignment 4 true (to x) (name x plus name y)) (record all_needed { needed = λ v. false })
    ≡ does 4 to_t (name xb) ∷ does 4 (to yb) (name yb plus t) ∷ []
not_undone = refl
