-- What is printed is parsed, and printed as the same text.
use Rattle.std.proofs.Common.{◌≡◌, ℕ, true, List, map, refl, sym, ap, ◌∙◌, Ok}
use Rattle.std.specs.Prelude.{nat_lt}
use Rattle.tokens.specs.declared.Token.{Token}
use Rattle.tokens.specs.Lexeme.{lexeme}
use Rattle.fl_ast.specs.declared.adjoint.AdjointText.{AdjointText}
use Rattle.fl_ast.specs.declared.stmt.Program.{Program}
use Rattle.fl_ast.specs.Tree.{program_tree}
use Rattle.fl_ast.specs.AdjointTree.{adjoint_tree, adjoint_text_tree}
use Rattle.parsing.specs.declared.fault.Cause.TheVariants.{Deep, Many}
use Rattle.parsing.specs.Freed.Freed.{Nothing}
use Rattle.parsing.proofs.Outcomes.{never}
use Rattle.parsing.proofs.Whole.{only}
use Rattle.fl_statements.specs.Limits.{Limits}
use Rattle.fl_statements.specs.Limits as plain_limits
use Rattle.fl_statements.specs.Wide.{Widens}
use Rattle.fl_parser.specs.Parsed as plain
use Rattle.fl_parser.specs.UnitGrammar as plain_grammar
use Rattle.fl_parser.specs.UnitReading as plain_reading
use Rattle.fl_parser.proofs.Units as plain_units
use Rattle.fl_parser.proofs.Texts.{kept, same_number, same_once, found_by, readable_by}
use Rattle.adjoint_statements.specs.Rooms.{the_limits, narrower}
use Rattle.adjoint_parser.specs.Parsed as adjoint
use Rattle.adjoint_parser.specs.AdjointGrammar as adjoint_grammar
use Rattle.adjoint_parser.specs.AdjointReading as adjoint_reading
use Rattle.adjoint_parser.proofs.AdjointUnits as adjoint_units
use Rattle.printed_programs.proofs.ReadUnits.{programs_read}
use Rattle.read_adjoints.proofs.Small as small
use Rattle.printed_again.specs.Again.{ReadProgramsArePrintedAgain, AskedAdjointsArePrintedAgain}
use Rattle.printed_again.proofs.Unplaced.{programs_alike, adjoints_alike}
use Rattle.printed_again.proofs.SmallNumbers.{small_by_tokens}

staying : (limits : Limits) → nat_lt 0 limits.brackets ≡ true → Widens Nothing limits limits
staying limits so = record {
  some = so;
  brackets = same_number Nothing limits.brackets refl;
  depth = kept Nothing Deep limits.depth refl;
  blocks = same_number Nothing limits.blocks refl;
  statements = kept Nothing Many limits.statements refl;
  names = kept Nothing Many limits.names refl;
  once = same_once Nothing limits.once refl;
}

-- what is in the grammar is what the parser gives
program_parsed : (text : List ℕ) (tokens : List Token) (p : Program) → plain_grammar.unit plain_limits.the_limits p (map (lexeme text) tokens) → plain.parsed text tokens ≡ Ok p
unfolding plain.parsed
program_parsed text tokens p n =
    let limits = plain_limits.the_limits in
    ap (plain.placed text tokens) (only Nothing (plain_grammar.unit limits) never (plain_reading.unit limits) (plain_reading.unit limits)
    (plain_units.unit_exact Nothing limits limits (staying limits refl)) (map (lexeme text) tokens) p n)

adjoint_parsed : (text : List ℕ) (tokens : List Token) (t : AdjointText) → adjoint_grammar.unit the_limits t (map (lexeme text) tokens) → adjoint.parsed text tokens ≡ Ok t
unfolding adjoint.parsed
adjoint_parsed text tokens t n =
    ap (adjoint.placed text tokens) (only Nothing (adjoint_grammar.unit the_limits) never (adjoint_reading.unit the_limits) (adjoint_reading.unit the_limits)
    (adjoint_units.unit_exact Nothing the_limits the_limits (record { outer = staying the_limits refl; inner = staying (narrower the_limits) refl }))
    (map (lexeme text) tokens) t n)

pub programs_again : ReadProgramsArePrintedAgain
programs_again given tokens p text few spelled parses e =
    let small = small_by_tokens given tokens p spelled (found_by given tokens (Ok p) parses) in
    let R = programs_read p text (readable_by given tokens (Ok p) few spelled parses) small e in
    record {
      tokens = R.tokens;
      found = R.program;
      lexes = R.lexes;
      parses = program_parsed text R.tokens R.program R.reads;
      same = R.same;
      alike = programs_alike (program_tree R.program) (program_tree p) R.same ∙ sym e;
    }

pub adjoints_again : AskedAdjointsArePrintedAgain
adjoints_again given tokens p of wrt needed a text parses spelled typed is_adjoint e =
    let R = small.read p of wrt needed a text typed (small_by_tokens given tokens p spelled (found_by given tokens (Ok p) parses)) is_adjoint e in
    record {
      tokens = R.tokens;
      found = R.found;
      lexes = R.lexes;
      parses = adjoint_parsed text R.tokens R.found R.reads;
      same = R.same;
      alike = adjoints_alike (adjoint_text_tree R.found) (adjoint_tree a) R.same ∙ sym e;
    }
