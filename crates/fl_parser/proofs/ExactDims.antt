-- Dimensions are read exactly.
use Rattle.std.proofs.Common.{Bool, true, cond, List, [], ◌∷◌, ◌++◌, Some, None, refl}
use Rattle.fl_ast.specs.declared.decl.Sign.TheVariants as sign
use Rattle.fl_ast.specs.declared.decl.Factor.TheVariants.{Lit, Minus, Scalar}
use Rattle.fl_ast.specs.declared.decl.Bound.{Bound}
use Rattle.fl_ast.specs.declared.decl.Dim.{Dim}
use Rattle.parsing.specs.declared.symbol.Symbol.{Symbol}
use Rattle.parsing.specs.declared.symbol.Symbol.TheVariants as s
use Rattle.parsing.specs.declared.fault.Cause.TheVariants.{Expected}
use Rattle.parsing.specs.Freed.{Freed}
use Rattle.parsing.specs.Terminal.{same, on, is, reads, names, numbers}
use Rattle.fl_parser.specs.Terminals.{sign_by}
use Rattle.fl_parser.specs.Trees.{term_of, bound_of, dim_of}
use Rattle.fl_parser.specs.DimGrammar as g
use Rattle.fl_parser.specs.DimReading as p
use Rattle.parsing.proofs.Outcomes.{never, shrinks_pure, shrinks_seq, Bites}
use Rattle.parsing.proofs.Exact.{Exact, always_room, Begins, Meets, pure_exact, seq}
use Rattle.parsing.proofs.Rules.{narrow, anywhere, either, optional, mapped, loop_exact, many_meets, begins_seq, begins_or, meets_never, meets_or, gives_meets, meets_mapped}
use Rattle.parsing.proofs.OnSymbols.{apart, less, among, meets, begins_in, begins_mark, begins_name, begins_by, begins_plain_number, name_exact, plain_number_exact, by_exact, mark_then, bites_mark}

-- what goes on with a bound, a dimension, a list of them
abbrev sums : Symbol → Bool
sums = among (s.Star ∷ s.Plus ∷ s.Minus ∷ [])

abbrev ranges : Symbol → Bool
ranges = among (s.Colon ∷ s.Star ∷ s.Plus ∷ s.Minus ∷ [])

abbrev lists : Symbol → Bool
lists = among (s.Comma ∷ s.Colon ∷ s.Star ∷ s.Plus ∷ s.Minus ∷ [])

abbrev operands : Symbol → Bool
operands a = cond (names a) true (numbers a)

module _ (l : Freed) where
  name_factor_exact : Exact l g.name_factor never p.name_factor p.name_factor
  unfolding g.name_factor p.name_factor
  name_factor_exact = seq name_exact (λ x. pure_exact (Scalar x.name)) (λ x. meets_never never _)

  name_factor_begins : Begins g.name_factor (on names)
  unfolding g.name_factor
  name_factor_begins = begins_seq _ begins_name

  number_factor_exact : Exact l g.number_factor never p.number_factor p.number_factor
  unfolding g.number_factor p.number_factor
  number_factor_exact = seq (plain_number_exact 4294967295) (λ n. pure_exact (Lit n.value)) (λ n. meets_never never _)

  number_factor_begins : Begins g.number_factor (on numbers)
  unfolding g.number_factor
  number_factor_begins = begins_seq _ (begins_plain_number 4294967295)

  bound_factor_exact : Exact l g.bound_factor never p.bound_factor p.bound_factor
  unfolding g.bound_factor p.bound_factor
  bound_factor_exact = either name_factor_exact number_factor_exact name_factor_begins (meets numbers names never _ number_factor_begins refl refl)

  bound_factor_begins : Begins g.bound_factor (on operands)
  unfolding g.bound_factor
  bound_factor_begins = begins_or _ _ (on operands) (begins_in names operands _ name_factor_begins refl refl) (begins_in numbers operands _ number_factor_begins refl refl)

  second_factor_exact : Exact l g.second_factor (is s.Star) p.second_factor p.second_factor
  unfolding g.second_factor p.second_factor
  second_factor_exact = optional None (anywhere (mark_then s.Star _ _ _ (λ _. mapped bound_factor_exact (λ f. Some f)))) (begins_seq _ (begins_mark s.Star)) (λ rest h. h)

  bound_term_exact : Exact l g.bound_term (is s.Star) p.bound_term p.bound_term
  unfolding g.bound_term p.bound_term
  bound_term_exact = seq bound_factor_exact (λ f. mapped second_factor_exact (term_of f)) (λ f. meets_never (is s.Star) _)

  bound_term_begins : Begins g.bound_term (on operands)
  unfolding g.bound_term
  bound_term_begins = begins_seq _ bound_factor_begins

  negative_term_exact : Exact l g.negative_term (is s.Star) p.negative_term p.negative_term
  unfolding g.negative_term p.negative_term
  negative_term_exact = mark_then s.Minus _ _ _ (λ _. seq (plain_number_exact 4294967295) (λ n. mapped second_factor_exact (term_of (Minus n.value))) (λ n. meets_never (is s.Star) _))

  negative_term_begins : Begins g.negative_term (is s.Minus)
  unfolding g.negative_term
  negative_term_begins = begins_seq _ (begins_mark s.Minus)

  first_term_exact : Exact l g.first_term (is s.Star) p.first_term p.first_term
  unfolding g.first_term p.first_term
  first_term_exact = either negative_term_exact bound_term_exact negative_term_begins (meets operands (same s.Minus) (is s.Star) _ bound_term_begins refl refl)

  other_term_exact : Exact l g.other_term (on sums) p.other_term p.other_term
  unfolding g.other_term p.other_term
  other_term_exact = optional None
      (narrow (seq (by_exact sign_by s.Plus sign.Plus refl) (λ o. mapped bound_term_exact (λ t. Some (o, t))) (λ o. meets_never (is s.Star) _)) (less (same s.Star) sums refl refl))
      (begins_seq _ (begins_by sign_by)) (less (reads sign_by) sums refl refl)

  other_term_meets : Meets g.other_term (is s.Star) (on sums)
  unfolding g.other_term
  other_term_meets = meets_or _ _ (is s.Star) (on sums) (meets (reads sign_by) (same s.Star) (on sums) _ (begins_seq _ (begins_by sign_by)) refl refl)
      (gives_meets None (is s.Star) (on sums) (less (same s.Star) sums refl refl))

  bound_exact : Exact l g.bound (on sums) p.bound p.bound
  unfolding g.bound p.bound
  bound_exact = seq first_term_exact (λ t. mapped other_term_exact (bound_of t)) (λ t. meets_mapped g.other_term (bound_of t) (is s.Star) (on sums) other_term_meets)

  after_bound_exact : (b : Bound) → Exact l (g.after_bound b) (on ranges) (p.after_bound b) (p.after_bound b)
  unfolding g.after_bound p.after_bound
  after_bound_exact b = optional (dim_of None b) (narrow (mark_then s.Colon _ _ _ (λ _. mapped bound_exact (dim_of (Some b)))) (less sums ranges refl refl))
      (begins_seq _ (begins_mark s.Colon)) (less (same s.Colon) ranges refl refl)

  after_bound_meets : (b : Bound) → Meets (g.after_bound b) (on sums) (on ranges)
  unfolding g.after_bound
  after_bound_meets b = meets_or _ _ (on sums) (on ranges) (meets (same s.Colon) sums (on ranges) _ (begins_seq _ (begins_mark s.Colon)) refl refl)
      (gives_meets (dim_of None b) (on sums) (on ranges) (less sums ranges refl refl))

  dim_exact : Exact l g.dim (on ranges) p.dim p.dim
  unfolding g.dim p.dim
  dim_exact = seq bound_exact after_bound_exact after_bound_meets

  another_dim_exact : (found : List Dim) → Exact l (g.another_dim found) (on ranges) (p.another_dim found) (p.another_dim found)
  unfolding g.another_dim p.another_dim
  another_dim_exact found = mark_then s.Comma _ _ _ (λ _. mapped dim_exact (λ d. found ++ d ∷ []))

  another_dim_begins : (found : List Dim) → Begins (g.another_dim found) (is s.Comma)
  unfolding g.another_dim
  another_dim_begins found = begins_seq _ (begins_mark s.Comma)

  another_dim_bites : (found : List Dim) → Bites (p.another_dim found) (is s.Comma)
  unfolding p.another_dim
  another_dim_bites found = bites_mark s.Comma _ (λ _. shrinks_seq _ _ (dim_exact.shrinks) (λ d. shrinks_pure (found ++ d ∷ [])))

  more_dims_exact : (found : List Dim) → Exact l (g.more_dims found) (on lists) (p.more_dims found) (p.more_dims found)
  unfolding g.more_dims p.more_dims
  more_dims_exact = loop_exact l (is s.Comma) (on ranges) (on lists) (λ _. true) (λ _. true) Expected _ _ _
      (λ _. always_room) another_dim_exact another_dim_begins another_dim_bites
      (less ranges lists refl refl) (less (same s.Comma) lists refl refl) (apart (same s.Comma) ranges refl refl)

  more_dims_meet : (found : List Dim) → Meets (g.more_dims found) (on ranges) (on lists)
  unfolding g.more_dims p.more_dims
  more_dims_meet = many_meets l (is s.Comma) (on ranges) (on lists) (λ _. true) (λ _. true) Expected g.another_dim p.another_dim p.another_dim
      (λ _. always_room) another_dim_exact another_dim_begins another_dim_bites
      (less ranges lists refl refl) (less (same s.Comma) lists refl refl) (apart (same s.Comma) ranges refl refl)

  dims_exact : Exact l g.dims (on lists) p.dims p.dims
  unfolding g.dims p.dims
  dims_exact = seq dim_exact (λ d. more_dims_exact (d ∷ [])) (λ d. more_dims_meet (d ∷ []))

  bracketed_dims_exact : Exact l g.bracketed_dims never p.bracketed_dims p.bracketed_dims
  unfolding g.bracketed_dims p.bracketed_dims
  bracketed_dims_exact = mark_then s.Open _ _ _ (λ _. seq dims_exact (λ found. mark_then s.Close _ _ _ (λ _. pure_exact found))
      (λ found. meets (same s.Close) lists never _ (begins_seq _ (begins_mark s.Close)) refl refl))

  bracketed_dims_begins : Begins g.bracketed_dims (is s.Open)
  unfolding g.bracketed_dims
  bracketed_dims_begins = begins_seq _ (begins_mark s.Open)

  pub shape_exact : Exact l g.shape (is s.Open) p.shape p.shape
  unfolding g.shape p.shape
  shape_exact = optional [] (anywhere bracketed_dims_exact) bracketed_dims_begins (λ rest h. h)
