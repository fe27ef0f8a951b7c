-- What some lists of tokens are read as.
use Rattle.std.proofs.Common.{◌≡◌, [], ◌∷◌, Some, Ok, Err, refl}
use Rattle.fl_ast.specs.declared.kind.RelOp.TheVariants.{Lt}
use Rattle.parsing.specs.declared.symbol.Symbol.TheVariants as s
use Rattle.parsing.specs.declared.fault.Cause.TheVariants.{Expected, Deep}
use Rattle.parsing.specs.Example.{example}
use Rattle.parsing.specs.Symbol.{symbol_by}
use Rattle.parsing.specs.Terminal.{word_of}
use Rattle.parsing.specs.Reading.{Lexemes, fault}
use Rattle.fl_expressions.specs.declared.tree.Measured.{Measured}
use Rattle.fl_expressions.specs.ExprReading as e
use Rattle.fl_expressions.specs.Trees.{scalar}
use Rattle.fl_conditions.specs.Trees.{related, denial, both}
use Rattle.fl_conditions.specs.CondReading as p

abbrev name : Measured
name = scalar (word_of (example s.Name))

-- ( ( name ) < name )
abbrev first_in_brackets : Lexemes
first_in_brackets = example s.Open ∷ example s.Open ∷ example s.Name ∷ example s.Close ∷ example s.Less ∷ example s.Name ∷ example s.Close ∷ []

bracket_of_both : p.cond 2 (Some 62) first_in_brackets ≡ Ok (related Lt name name, [])
unfolding symbol_by p.cond p.mixed p.mixture p.first p.operand p.bracketed p.after_value p.begun p.compared p.comparing p.joining p.denied p.simple p.negation p.conjunction p.ands_from p.ors_from e.expr e.below e.rest_of e.unopened e.started e.named e.primary e.bracketed e.place e.after_name e.raised e.factor e.factors_from e.term e.terms_from e.unsigned e.sum
bracket_of_both = refl

-- .not. ( name < name ) .and. name < name
abbrev denied_and : Lexemes
denied_and = example s.Not ∷ example s.Open ∷ example s.Name ∷ example s.Less ∷ example s.Name ∷ example s.Close ∷ example s.And ∷ example s.Name ∷ example s.Less ∷ example s.Name ∷ []

not_of_the_first : p.cond 1 (Some 62) denied_and ≡ Ok (both tt (denial (related Lt name name)) (related Lt name name), [])
unfolding symbol_by p.cond p.mixed p.mixture p.first p.operand p.bracketed p.after_value p.begun p.compared p.comparing p.joining p.denied p.simple p.negation p.conjunction p.ands_from p.ors_from e.expr e.below e.rest_of e.unopened e.started e.named e.primary e.bracketed e.place e.after_name e.raised e.factor e.factors_from e.term e.terms_from e.unsigned e.sum
not_of_the_first = refl

-- with no depth left for a relation beneath it, .not. is refused
too_deep : p.cond 1 (Some 0) denied_and ≡ Err (fault Deep denied_and)
unfolding symbol_by p.cond p.mixed p.mixture p.first p.operand p.bracketed p.after_value p.begun p.compared p.comparing p.joining p.denied p.simple p.negation p.conjunction p.ands_from p.ors_from e.expr e.below e.rest_of e.unopened e.started e.named e.primary e.bracketed e.place e.after_name e.raised e.factor e.factors_from e.term e.terms_from e.unsigned e.sum
too_deep = refl

-- an expression in brackets is no condition
abbrev value_in_brackets : Lexemes
value_in_brackets = example s.Open ∷ example s.Name ∷ example s.Close ∷ example s.LineEnd ∷ []

no_condition : p.cond 1 (Some 62) value_in_brackets ≡ Err (fault Expected (example s.LineEnd ∷ []))
unfolding symbol_by p.cond p.mixed p.mixture p.first p.operand p.bracketed p.after_value p.begun p.compared p.comparing p.joining p.denied p.simple p.negation p.conjunction p.ands_from p.ors_from e.expr e.below e.rest_of e.unopened e.started e.named e.primary e.bracketed e.place e.after_name e.raised e.factor e.factors_from e.term e.terms_from e.unsigned e.sum
no_condition = refl
