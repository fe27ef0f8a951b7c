-- What is printed, parsed and printed again.
use Rattle.std.specs.Prelude.{◌≡◌, ℕ, ◌+◌, ◌<◌, ◌^◌, Bool, List, length, Ok}
use Rattle.tokens.specs.declared.Token.{Token}
use Rattle.tokens.specs.Spelled.{AreSpelled}
use Rattle.fl_ast.specs.declared.adjoint.Adjoint.{Adjoint}
use Rattle.fl_ast.specs.declared.adjoint.AdjointText.{AdjointText}
use Rattle.fl_ast.specs.declared.stmt.Program.{Program}
use Rattle.fl_ast.specs.Tree.{Subroutine, program_tree}
use Rattle.fl_ast.specs.AdjointTree.{AdjointSubroutine, AdjointUnit, no_adjoint_statements, adjoint_tree, adjoint_text_tree}
use Rattle.fl_types.specs.WellTyped.{IsTyped}
use Rattle.fl_lexer.specs.Reading.{lexed}
use Rattle.fl_parser.specs.Parsed.{parsed}
use Rattle.adjoint_parser.specs.Parsed.{parsed as parsed_adjoint}
use Rattle.fl_printer.specs.Text.{program_text, adjoint_text}
use Rattle.adjoint_rules.specs.Adjoint.{adjoint_of}
use Rattle.adjoint_choices.specs.Choosing.{choices_of}
use Rattle.adjoint_sets.specs.Names.{is_active}
use Rattle.printed_programs.specs.Programs.{unlined_program}
use Rattle.printed_adjoints.specs.Adjoints.{as_text, unlined_unit}

-- the text is parsed to this program but for its lines, and what it is parsed to is printed as this text
pub record IsPrintedAgain (text : List ℕ) (p : Subroutine) : Type 0 where
  pub tokens : List Token
  pub found : Program
  pub lexes : lexed text ≡ Ok tokens
  pub parses : parsed text tokens ≡ Ok found
  pub same : unlined_program (program_tree found) ≡ unlined_program p
  pub alike : program_text (program_tree found) ≡ text

-- `given` is any text, with its tokens
abbrev pub ReadProgramsArePrintedAgain : Type 0
ReadProgramsArePrintedAgain =
    (given : List ℕ) (tokens : List Token) (p : Program) (text : List ℕ) → length given + 1 < 2 ^ 32 → AreSpelled given 0 tokens → parsed given tokens ≡ Ok p → text ≡ program_text (program_tree p)
    → IsPrintedAgain text (program_tree p)

-- what was read of an adjoint's text, as an adjoint whose forward part has all statements
abbrev pub in_one_part : AdjointUnit → Subroutine → AdjointSubroutine
in_one_part t p = record { name = t.name; args = t.args; decls = t.decls; forward = t.body; reverse = no_adjoint_statements; primal = p }

pub record IsAdjointPrintedAgain (text : List ℕ) (a : AdjointSubroutine) : Type 0 where
  pub tokens : List Token
  pub found : AdjointText
  pub lexes : lexed text ≡ Ok tokens
  pub parses : parsed_adjoint text tokens ≡ Ok found
  pub same : unlined_unit (adjoint_text_tree found) ≡ unlined_unit (as_text a)
  pub alike : adjoint_text (in_one_part (adjoint_text_tree found) a.primal) ≡ text

-- whatever names are needed
abbrev pub AskedAdjointsArePrintedAgain : Type 0
AskedAdjointsArePrintedAgain =
    (given : List ℕ) (tokens : List Token) (p : Program) (of wrt : List (List ℕ)) (needed : List ℕ → Bool) (a : Adjoint) (text : List ℕ) → parsed given tokens ≡ Ok p → AreSpelled given 0 tokens → IsTyped p
    → adjoint_tree a ≡ adjoint_of p (is_active p of wrt) needed (choices_of p (is_active p of wrt)) → text ≡ adjoint_text (adjoint_tree a)
    → IsAdjointPrintedAgain text (adjoint_tree a)
