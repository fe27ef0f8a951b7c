-- The head of an adjoint, its arguments, and names of its own.
use Rattle.std.specs.Prelude.{◌≡◌, ℕ, Bool, true, false, List, [], ◌∷◌, ◌++◌, codes, refl}
use Rattle.std.proofs.Common.{ap, arith}
use Rattle.std.proofs.lemmas.Fmt.{decimal_digit}
use Rattle.fl_ast.specs.declared.kind.Kind.TheVariants as kind
use Rattle.fl_ast.specs.declared.stmt.Program.{Program}
use Rattle.fl_ast.specs.Tree.{call, no_expressions, expression}
use Rattle.fl_ast.specs.declared.kind.Fun.TheVariants as fun
use Rattle.fl_types.specs.Sharing.{has_name}
use Rattle.adjoint_rules.specs.OwnNames.{lo_name}
use Rattle.adjoint_rules.specs.Scopes.{outermost}
use Rattle.adjoint_rules.specs.Declarations.{arguments, head}
use Rattle.adjoint_rules.specs.Occurrences.{operand, either, occurrences}
use Rattle.fl_ast.specs.declared.kind.RelOp.TheVariants as rel
use Rattle.fl_ast.specs.Tree.{relation}
use Rattle.adjoint_rules.proofs.Small.{x, y, n, i, index, data_of, name, to, ◌less◌, ◌times◌, does, declared}

-- formad_lo7
pub loop_seven : lo_name 7 ≡ codes "formad_lo7"
loop_seven = ap (λ d. codes "formad_lo" ++ d) (decimal_digit 7 (omega arith))

abbrev unit : Program
unit = record { line = 1; name = codes "s"; args = x ∷ n ∷ []; decls = declared kind.Ring 8 y ∷ declared kind.Index 4 n ∷ declared kind.Index 4 i ∷ declared kind.Ring 8 x ∷ []; body = [] }

abbrev on : List ℕ → Bool
on v = has_name v (x ∷ y ∷ [])

-- local scalars are set, each with its adjoint
pub locals : head (outermost unit on on []) unit ≡ does 1 (to y) (data_of 0) ∷ does 1 (to (codes "y_b")) (data_of 0) ∷ does 1 (to i) (index 0) ∷ []
locals = refl

pub doubled : arguments on (x ∷ n ∷ []) ≡ x ∷ codes "x_b" ∷ n ∷ []
doubled = refl

-- y - n*min(x*3, 5)*2: the factors come from the root to the occurrence
pub factors :
    occurrences (λ v. has_name v (x ∷ [])) (name y less name n times call fun.Min (expression (name x times index 3) (expression (data_of 5) no_expressions)) times index 2) false []
    ≡ record { place = to x; negative = true; factors = operand (index 2) ∷ operand (name n) ∷ either 1 0 (relation rel.Le (name x times index 3) (data_of 5)) ∷ operand (index 3) ∷ [] } ∷ []
factors = refl
