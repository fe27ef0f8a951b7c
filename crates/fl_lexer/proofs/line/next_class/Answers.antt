use Rattle.std.proofs.Common.{ap, sym, ◌∙◌, rules}
use Rattle.fl_lexer.specs.Lines.{view, lines, next_class}
use Rattle.fl_lexer.proofs.ReadLaws.{next_class-empty, next_class-some, next_class-none}
use Rattle.fl_lexer.proofs.line.next_class.Goals as goal

pub loop-rest-preserved : goal.loop-rest-preserved
loop-rest-preserved c =
    sym (next_class-empty (view c.first_line.result.0) (lines c.first_line.result.1.now) (sym c.in-Empty.ensures.value))
    ∙ ap next_class (sym c.first_line.ensures.lines) ∙ c.loop-rest.invariant

pub returns-in_default : goal.returns-in_default
returns-in_default c =
    c.class_of.ensures.value
    ∙ sym (next_class-some (view c.first_line.result.0) (lines c.first_line.result.1.now) (λ e. c.in_default.not-Empty (c.class_of.ensures.value ∙ e)))
    ∙ ap next_class (sym c.first_line.ensures.lines) ∙ c.loop-rest.invariant

pub returns : goal.returns
returns c = sym (next_class-none c.loop-rest.rest.now (search rules)) ∙ c.loop-rest.invariant
