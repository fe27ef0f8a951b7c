-- Numbers in the bounds of declarations that fit 32 bits, as those of every value of the trees' types do.
use Rattle.std.specs.Prelude.{Bool, true, ◌&&◌, nat_le, List, Option, Some, None}
use Rattle.std.specs.List.{list_all}
use Rattle.fl_ast.specs.declared.decl.Sign.{Sign}
use Rattle.fl_ast.specs.declared.decl.Factor.{Factor}
use Rattle.fl_ast.specs.declared.decl.Factor.TheVariants as factor
use Rattle.fl_ast.specs.declared.decl.Term.{Term}
use Rattle.fl_ast.specs.declared.decl.Bound.{Bound}
use Rattle.fl_ast.specs.declared.decl.Dim.{Dim}
use Rattle.fl_ast.specs.declared.decl.Decl.{Decl}

abbrev pub is_small_factor : Factor → Bool
is_small_factor (factor.Lit n) = nat_le n 4294967295
is_small_factor (factor.Minus n) = nat_le n 4294967295
is_small_factor (factor.Scalar x) = true

abbrev pub is_small_second : Option Factor → Bool
is_small_second None = true
is_small_second (Some f) = is_small_factor f

abbrev pub is_small_term : Term → Bool
is_small_term t = is_small_factor t.first && is_small_second t.second

abbrev pub is_small_rest : Option (Sign × Term) → Bool
is_small_rest None = true
is_small_rest (Some r) = is_small_term r.1

abbrev pub is_small_bound : Bound → Bool
is_small_bound b = is_small_term b.first && is_small_rest b.rest

abbrev pub is_small_lower : Option Bound → Bool
is_small_lower None = true
is_small_lower (Some b) = is_small_bound b

abbrev pub is_small_dim : Dim → Bool
is_small_dim d = is_small_lower d.lower && is_small_bound d.upper

abbrev pub are_small : List Decl → Bool
are_small decls = list_all (λ d. list_all is_small_dim d.dims) decls
