-- The names of an adjoint's own: `x_b` for the adjoint of `x`, and those that begin with `formad_`, which no program declares.
use Rattle.std.specs.Prelude.{ℕ, List, ◌++◌, codes, decimal}
use Rattle.fl_ast.specs.declared.kind.Kind.TheVariants as kind
use Rattle.fl_ast.specs.Tree.{Expression, literal, get, minus, no_expressions, Designator}

abbrev pub adjoint_name : List ℕ → List ℕ
adjoint_name x = x ++ codes "_b"

-- the adjoint of a place: the same subscripts under the adjoint's name
abbrev pub adjoint_place : Designator → Designator
adjoint_place p = record { name = adjoint_name p.name; subscripts = p.subscripts }

abbrev pub scalar : List ℕ → Designator
scalar x = record { name = x; subscripts = no_expressions }

abbrev pub value : List ℕ → Expression
value x = get x no_expressions

-- the bounds and the step of the loop with a number
abbrev pub lo_name : ℕ → List ℕ
lo_name n = codes "formad_lo" ++ decimal n

abbrev pub hi_name : ℕ → List ℕ
hi_name n = codes "formad_hi" ++ decimal n

abbrev pub by_name : ℕ → List ℕ
by_name n = codes "formad_by" ++ decimal n

-- the number of an iteration
abbrev pub k_name : List ℕ
k_name = codes "formad_k"

-- the number of an arm
abbrev pub w_name : List ℕ
w_name = codes "formad_w"

-- the adjoint that is moved
abbrev pub t_name : List ℕ
t_name = codes "formad_t"

-- the key of the main tape
abbrev pub main_tape : Expression
main_tape = minus (literal 1 kind.Index)
