-- The reads of an assignment's value, or of the terms of an increment.
use Rattle.std.specs.Prelude.{◌≡◌, Bool, true, false, [], List, Option, Some, None}
use Rattle.fl_ast.specs.declared.kind.BinOp.{BinOp}
use Rattle.fl_ast.specs.declared.kind.BinOp.TheVariants.{Add, Sub, Mul, Div}
use Rattle.fl_ast.specs.Tree.{Expression}
use Rattle.fl_types.specs.Increment.{Signed}
use Rattle.fl_types.specs.Accesses.{Scope, Occurrence, reads, term_reads}
use Rattle.index_forms.specs.Form.{Forms}
use Rattle.index_forms.specs.Formed.{Known}
use Rattle.index_forms.specs.Walk.{Setting, with_group}

abbrev pub value_reads : Scope → Expression → Option (List Signed) → List Occurrence
value_reads scope e None = reads scope 0 [] e
value_reads scope e (Some rest) = term_reads scope 0 [] rest

-- the forms of the terms were added, where there are terms
abbrev pub WithTerms : Setting → Known → Option (List Signed) → (old new : List Forms) → Type 0
WithTerms c k None old new = Unit {0}
WithTerms c k (Some rs) old new = new ≡ with_group c k (term_reads c.scope 0 [] rs) old

-- a chain has sums and differences
abbrev pub adds_terms : BinOp → Bool
adds_terms Add = true
adds_terms Sub = true
adds_terms Mul = false
adds_terms Div = false
