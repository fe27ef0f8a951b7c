-- The further terms of increments: where an assignment has them, they were added.
use Rattle.std.specs.Prelude.{◌≡◌, ℕ, Bool, true, false, List, ◌++◌, Option, Some, None}
use Rattle.fl_ast.specs.declared.kind.BinOp.{BinOp}
use Rattle.fl_ast.specs.declared.kind.BinOp.TheVariants.{Add, Sub, Mul, Div}
use Rattle.fl_ast.specs.Tree.{Expression}
use Rattle.fl_types.specs.declared.access.PathStep.{PathStep}
use Rattle.fl_types.specs.Increment.{Signed}
use Rattle.fl_types.specs.declared.access.AccessKind.{AccessKind}
use Rattle.fl_types.specs.declared.access.AccessKind.TheVariants.{Write}
use Rattle.fl_types.specs.Accesses.{Scope, Occurrence, reads, term_reads, increment_kind}

abbrev pub value_reads : Scope → ℕ → List PathStep → Expression → Option (List Signed) → List Occurrence
value_reads scope line path e None = reads scope line path e
value_reads scope line path e (Some rest) = term_reads scope line path rest

abbrev pub WithTerms : Scope → ℕ → List PathStep → Option (List Signed) → (old new : List Occurrence) → Type 0
WithTerms scope line path None old new = Unit {0}
WithTerms scope line path (Some rs) old new = new ≡ old ++ term_reads scope line path rs

-- a chain has sums and differences
abbrev pub adds_terms : BinOp → Bool
adds_terms Add = true
adds_terms Sub = true
adds_terms Mul = false
adds_terms Div = false

-- what an assignment does at its target
abbrev pub target_kind : Bool → Bool → Option (List Signed) → AccessKind
target_kind atomic plus None = Write
target_kind atomic plus (Some rs) = increment_kind atomic plus
