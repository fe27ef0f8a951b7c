-- The choices of small loops compute.
use Rattle.std.proofs.Common.{◌≡◌, ℕ, List, [], ◌∷◌, None, refl}
use Rattle.std.specs.List.{flat_map}
use Rattle.fl_ast.specs.declared.kind.Kind.TheVariants as kind
use Rattle.fl_ast.specs.declared.decl.Decl.{Decl}
use Rattle.fl_ast.specs.declared.decl.Factor.TheVariants.{Scalar}
use Rattle.fl_ast.specs.Tree.{Statement, Statements, statement}
use Rattle.fl_types.specs.declared.choice.Choice.TheVariants.{Atomic, Reduction}
use Rattle.fl_types.specs.declared.choice.Chosen.{Chosen}
use Rattle.fl_types.specs.Sharing.{has_name, ParallelLoop}
use Rattle.adjoint_rules.specs.Needed.{Kinds}
use Rattle.adjoint_rules.proofs.Small.{x, y, z, i, n, name, at, to, into, ◌plus◌, ◌times◌, only, set, declared, clauses}
use Rattle.adjoint_choices.specs.Choosing.{choices_for, in_order}

abbrev array : List ℕ → Decl
array v = record (declared kind.Ring 8 v) { dims = record { lower = None; upper = record { first = record { first = Scalar n; second = None }; rest = None } } ∷ [] }

-- z is a scalar, x and y are arrays
abbrev decls : List Decl
decls = declared kind.Ring 8 z ∷ array y ∷ array x ∷ []

abbrev kinds : Kinds
kinds = record { active = λ v. has_name v (x ∷ y ∷ z ∷ []); ring = λ v. has_name v (x ∷ y ∷ z ∷ []) }

abbrev loop_over : Statements → ParallelLoop
loop_over body = record { line = 5; number = 1; outer = []; directive = clauses; var = i; body = body }

abbrev choices : Statements → List Chosen
choices body = flat_map (choices_for decls kinds (loop_over body)) (in_order (z ∷ y ∷ x ∷ []))

-- y(i) = z*x(i)
scaled : choices (only (set 6 (into y (name i)) (name z times at x (name i))))
    ≡ record { loop_number = 1; name = x; choice = Atomic } ∷ record { loop_number = 1; name = z; choice = Reduction } ∷ []
scaled = refl

-- y(i) = y(i) + x(i), whose own target is none
grown : choices (only (set 6 (into y (name i)) (at y (name i) plus at x (name i)))) ≡ record { loop_number = 1; name = x; choice = Atomic } ∷ []
grown = refl

-- z = x(i), and then y(i) = z: a scalar that the loop assigns
assigned : choices (statement (set 6 (to z) (at x (name i))) (only (set 7 (into y (name i)) (name z))))
    ≡ record { loop_number = 1; name = x; choice = Atomic } ∷ record { loop_number = 1; name = z; choice = Atomic } ∷ []
assigned = refl
