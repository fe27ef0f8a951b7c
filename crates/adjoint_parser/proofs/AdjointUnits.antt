-- The units of adjoints are read exactly.
use Rattle.std.proofs.Common.{Bool, true, false, cond, List, refl}
use Rattle.fl_ast.specs.declared.decl.Decl.{Decl}
use Rattle.parsing.specs.declared.symbol.Symbol.{Symbol}
use Rattle.parsing.specs.declared.symbol.Symbol.TheVariants as s
use Rattle.parsing.specs.Freed.{Freed}
use Rattle.parsing.specs.Terminal.{same, on}
use Rattle.parsing.specs.Grammar.{gives, ◌>>=◌ as ◌⨟◌}
use Rattle.fl_statements.specs.Limits.{Limits}
use Rattle.fl_parser.specs.declared.unit.UnitHead.{UnitHead}
use Rattle.fl_parser.specs.UnitGrammar as gp
use Rattle.adjoint_statements.specs.AdjointStmtReading.{begins_stmt}
use Rattle.adjoint_statements.specs.Trees.{block_from}
use Rattle.adjoint_parser.specs.Trees.{adjoint_text}
use Rattle.adjoint_parser.specs.AdjointGrammar as g
use Rattle.adjoint_parser.specs.AdjointReading as p
use Rattle.parsing.proofs.Outcomes.{never}
use Rattle.parsing.proofs.Exact.{Exact, Begins, pure_exact, seq}
use Rattle.parsing.proofs.Rules.{Opens, begins_seq, begins_opens, meets_never}
use Rattle.parsing.proofs.OnSymbols.{meets, begins_in, wider}
use Rattle.fl_parser.proofs.Units.{decls_exact, decls_open, end_unit_exact, ends, end_unit_begins, unit_head_exact, opens_in}
use Rattle.adjoint_statements.proofs.Widths.{Widths}
use Rattle.adjoint_statements.proofs.StmtExact.{stmts_exact, stmts_open}

-- what begins the statements of a unit or its end
abbrev bodies : Symbol → Bool
bodies a = cond (ends a) true (begins_stmt a)

-- what begins the part of a unit after its head
abbrev parts : Symbol → Bool
parts a = cond (bodies a) true (same s.Integer a)

body_exact : (l : Freed) (limits wide : Limits) → Widths l limits wide → Exact l (g.body limits) (on begins_stmt) (p.body limits) (p.body wide)
unfolding g.body p.body
body_exact l limits wide V = stmts_exact l limits wide V limits.blocks wide.blocks V.outer.blocks false (block_from 0)

body_open : (l : Freed) (limits wide : Limits) → Widths l limits wide → Opens (g.body limits) (on begins_stmt)
unfolding g.body
body_open l limits wide V = stmts_open l limits wide V limits.blocks false (block_from 0)

-- A unit is read exactly.
pub unit_exact : (l : Freed) (limits wide : Limits) → Widths l limits wide → Exact l (g.unit limits) never (p.unit limits) (p.unit wide)
unfolding g.unit p.unit
unit_exact l limits wide V =
    seq (unit_head_exact l)
    (λ h. seq (decls_exact l limits wide V.outer)
    (λ ds. seq (body_exact l limits wide V)
    (λ body. seq (end_unit_exact l h.name) (λ _. pure_exact (adjoint_text h ds body)) (λ _. meets_never never _))
    (λ body. meets ends begins_stmt never _ (begins_seq _ (end_unit_begins h.name)) refl refl))
    (λ ds. meets bodies (same s.Integer) never _ (body_begins h ds) refl refl))
    (λ h. meets parts (same s.Implicit) never _ (parts_begin h) refl refl)
  where
    body_begins : (h : UnitHead) (ds : List Decl) → Begins (g.body limits ⨟ (λ body. gp.end_unit h.name ⨟ (λ _. gives (adjoint_text h ds body)))) (on bodies)
    body_begins h ds = begins_opens (g.body limits) _ (on bodies) (opens_in begins_stmt bodies _ (body_open l limits wide V) (wider begins_stmt bodies refl refl))
        (λ body. begins_in ends bodies _ (begins_seq _ (end_unit_begins h.name)) refl refl)

    parts_begin : (h : UnitHead) → Begins (gp.decls limits ⨟ (λ ds. g.body limits ⨟ (λ body. gp.end_unit h.name ⨟ (λ _. gives (adjoint_text h ds body))))) (on parts)
    parts_begin h = begins_opens (gp.decls limits) _ (on parts) (opens_in (same s.Integer) parts _ (decls_open l limits wide V.outer) (wider (same s.Integer) parts refl refl))
        (λ ds. begins_in bodies parts _ (body_begins h ds) refl refl)
