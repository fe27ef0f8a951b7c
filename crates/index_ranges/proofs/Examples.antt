-- Small ranges compute.
use Rattle.std.proofs.Common.{◌≡◌, ℕ, pos, negsuc, [], ◌∷◌, Some, None, refl}
use Rattle.std.specs.Prelude.{codes}
use Rattle.fl_ast.specs.declared.kind.Kind.TheVariants as kind
use Rattle.fl_ast.specs.Tree.{Expression, literal, minus, loop, Statements, no_statements, statement}
use Rattle.index_ranges.specs.Ranges.{ranges_in}

abbrev number : ℕ → Expression
number n = literal n kind.Index

abbrev over : Expression → Expression → Expression → Statements
over low high step = statement (loop 3 2 None (codes "j") low high (Some step) no_statements) no_statements

-- do j = -1, 7, 3 has the values -1, 2 and 5
by_three : ranges_in (over (minus (number 1)) (number 7) (number 3)) ≡ record { number = 2; least = negsuc 0; width = 6 } ∷ []
by_three = refl

-- no turn, and a step with a sign
no_turn : ranges_in (over (number 2) (number 1) (number 1)) ≡ []
no_turn = refl

backward : ranges_in (over (number 4) (number 1) (minus (number 1))) ≡ []
backward = refl
