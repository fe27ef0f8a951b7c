-- What the program's stage has found where the command is done.
use Rattle.std.proofs.Common.{◌≡◌, ℕ, Bool, true, false, if◌then◌else◌, List, [], ◌∷◌, codes, Some, refl}
use Rattle.std.specs.List.{list_all}
use Rattle.std.proofs.lemmas.Bool.{and_from}
use Rattle.outside.specs.States.{Files}
use Rattle.ending.specs.declared.status.Status.{Status}
use Rattle.ending.specs.declared.status.Status.TheVariants.{Done}
use Rattle.ending.specs.declared.verdict.Verdict.TheVariants.{Refused}
use Rattle.ending.specs.Plan.{Plan, Says, LeadsTo, line}
use Rattle.ending.proofs.Done.{said_undone, file_done, part_done}
use Rattle.fl_ast.specs.declared.stmt.Program.{Program}
use Rattle.fl_lexer.specs.Reading.{lexed}
use Rattle.fl_parser.specs.Parsed.{parsed}
use Rattle.fl_types.specs.Rows.{judged}
use Rattle.fl_types.specs.Declarations.{is_ring_argument}
use Rattle.program_stage.specs.Accepted.{IsProgramOf}
use Rattle.program_stage.specs.Lexing.{say_lex, lexed_stage}
use Rattle.program_stage.specs.Names.{names_stage}
use Rattle.program_stage.specs.Parsing.{say_parse, parsed_stage}
use Rattle.program_stage.specs.Programs.{source_stage, program_stage, subject_stage}
use Rattle.program_stage.specs.Typing.{say_type, typed_stage}

pub program_done : {files : Files} (file : List ℕ) (rest : Program → Plan) {status : Status} {text : List ℕ} → LeadsTo files (program_stage file rest) status text → status ≡ Done →
    (source : List ℕ) × (program : Program) × (files file ≡ Some source) × IsProgramOf source program × LeadsTo files (rest program) status text
unfolding program_stage source_stage lexed_stage parsed_stage typed_stage
program_done file rest c h =
    let found = file_done c h in
    let tokens = part_done say_lex (lexed found.0) _ found.2 h in
    let tree = part_done say_parse (parsed found.0 tokens.0) _ tokens.2 h in
    let typed = part_done say_type (judged tree.0) rest tree.2 h in
    (found.0, typed.0, found.1, record { tokens = tokens.0; tree = tree.0; lexes = tokens.1; parses = tree.1; judges = typed.1 }, typed.2)

name_done : {files : Files} (fits : Bool) (name : List ℕ) (plan : Plan) {status : Status} {text : List ℕ} →
    LeadsTo files (if fits then plan else Says Refused (line (codes "refused name ") name)) status text → status ≡ Done → (fits ≡ true) × LeadsTo files plan status text
name_done true name plan c h = (refl, c)
name_done false name plan c h = absurd (said_undone c h)

pub names_done : {files : Files} (program : Program) (names : List (List ℕ)) (rest : Unit {0} → Plan) {status : Status} {text : List ℕ} →
    LeadsTo files (names_stage program names rest) status text → status ≡ Done → (list_all (is_ring_argument program) names ≡ true) × LeadsTo files (rest tt) status text
unfolding names_stage
names_done program [] rest c h = (refl, c)
names_done program (name ∷ names) rest c h =
    let first = name_done (is_ring_argument program name) name (names_stage program names rest) c h in
    let others = names_done program names rest first.1 h in
    (and_from _ _ first.0 others.0, others.1)

-- the program with its dependent and independent arguments
pub record IsSubject (files : Files) (file : List ℕ) (of wrt : List (List ℕ)) (program : Program) : Type 0 where
  pub source : List ℕ
  pub found : files file ≡ Some source
  pub accepted : IsProgramOf source program
  pub dependent : list_all (is_ring_argument program) of ≡ true
  pub independent : list_all (is_ring_argument program) wrt ≡ true

pub subject_done : {files : Files} (file : List ℕ) (of wrt : List (List ℕ)) (rest : Program → Plan) {status : Status} {text : List ℕ} →
    LeadsTo files (subject_stage file of wrt rest) status text → status ≡ Done → (program : Program) × IsSubject files file of wrt program × LeadsTo files (rest program) status text
unfolding subject_stage
subject_done file of wrt rest c h =
    let typed = program_done file _ c h in
    let dependent = names_done typed.1 of _ typed.4 h in
    let independent = names_done typed.1 wrt _ dependent.1 h in
    (typed.1, record { source = typed.0; found = typed.2; accepted = typed.3; dependent = dependent.0; independent = independent.0 }, independent.1)
