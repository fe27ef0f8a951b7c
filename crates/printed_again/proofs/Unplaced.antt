-- Texts don't depend on the lines and loop numbers of what is printed.
use Rattle.std.proofs.Common.{◌≡◌, ℕ, ◌+◌, Bool, true, false, List, [], ◌∷◌, ◌++◌, map, refl, sym, ap, ◌∙◌, append_assoc}
use Rattle.std.specs.Prelude.{Option, Some, None, codes}
use Rattle.fl_ast.specs.declared.decl.Decl.{Decl}
use Rattle.fl_ast.specs.declared.directive.Directive.{Directive}
use Rattle.fl_ast.specs.Tree.{Expression, Statement, assignment, branch, loop, Statements, no_statements, statement, Arms, no_arms, arm, Subroutine}
use Rattle.fl_ast.specs.AdjointTree.{AdjointStatement, adjoint_assignment, adjoint_branch, adjoint_loop, push, pop, begin_tapes, end_tapes, AdjointStatements, no_adjoint_statements, adjoint_statement, AdjointArms, no_adjoint_arms, adjoint_arm, AdjointSubroutine, AdjointUnit}
use Rattle.fl_printer.specs.Rows.{Row, statement_rows, else_rows, block_rows, arm_rows, end_row, else_row, test_row, loop_rows, parallel_rows, do_row, adjoint_rows, adjoint_else_rows, adjoint_block_rows, adjoint_arm_rows, decl_row, decl_rows, head_rows, subroutine_row, implicit_row, last_row, adjoint_unit_rows}
use Rattle.fl_printer.specs.Layout.{rows_text}
use Rattle.fl_printer.specs.Text.{program_text, adjoint_text}
use Rattle.printed_blocks.specs.Unlined as plain
use Rattle.printed_adjoint_blocks.specs.AdjointUnlined as adjoint
use Rattle.printed_declarations.specs.Declared.{unlined_decl}
use Rattle.printed_programs.specs.Programs.{unlined_program}
use Rattle.printed_adjoints.specs.Adjoints.{followed_by, as_text, unlined_unit}
use Rattle.printed_again.specs.Again.{in_one_part}

directive_same : (margin : ℕ) (d : Option Directive) → parallel_rows margin (plain.unlined_directive d) ≡ parallel_rows margin d
directive_same margin None = refl
directive_same margin (Some d) = refl

loop_same : (margin : ℕ) (d : Option Directive) (var : List ℕ) (first last : Expression) (step : Option Expression) → loop_rows margin (plain.unlined_directive d) var first last step ≡ loop_rows margin d var first last step
loop_same margin d var first last step = ap (λ rows. rows ++ do_row margin var first last step ∷ []) (directive_same margin d)

two : {A : Type 0} (f : List Row → List Row → A) (a b c d : List Row) → a ≡ b → c ≡ d → f a c ≡ f b d
two f a b c d e g = ap (λ x. f x c) e ∙ ap (λ x. f b x) g

mutual
  rows_same : (margin : ℕ) (s : Statement) → statement_rows margin (plain.unlined s) ≡ statement_rows margin s
  rows_same margin (assignment line atomic target value) = refl
  rows_same margin (branch line arms other) =
      two (λ a b. a ++ (b ++ end_row margin (codes "if") ∷ [])) _ _ _ _ (arms_same margin false arms) (else_same margin other)
  rows_same margin (loop line number directive var first last step body) =
      two (λ a b. a ++ (b ++ end_row margin (codes "do") ∷ [])) _ _ _ _ (loop_same margin directive var first last step) (block_same (margin + 2) body)

  else_same : (margin : ℕ) (ss : Statements) → else_rows margin (plain.unlined_all ss) ≡ else_rows margin ss
  else_same margin no_statements = refl
  else_same margin (statement s rest) = two (λ a b. else_row margin ∷ (a ++ b)) _ _ _ _ (rows_same (margin + 2) s) (block_same (margin + 2) rest)

  block_same : (margin : ℕ) (ss : Statements) → block_rows margin (plain.unlined_all ss) ≡ block_rows margin ss
  block_same margin no_statements = refl
  block_same margin (statement s rest) = two (λ a b. a ++ b) _ _ _ _ (rows_same margin s) (block_same margin rest)

  arms_same : (margin : ℕ) (later : Bool) (as' : Arms) → arm_rows margin later (plain.unlined_arms as') ≡ arm_rows margin later as'
  arms_same margin later no_arms = refl
  arms_same margin later (arm test body rest) =
      two (λ a b. test_row margin later test ∷ (a ++ b)) _ _ _ _ (block_same (margin + 2) body) (arms_same margin true rest)

mutual
  adjoint_rows_same : (margin : ℕ) (s : AdjointStatement) → adjoint_rows margin (adjoint.unlined s) ≡ adjoint_rows margin s
  adjoint_rows_same margin (adjoint_assignment line atomic target value) = refl
  adjoint_rows_same margin (adjoint_branch line arms other) =
      two (λ a b. a ++ (b ++ end_row margin (codes "if") ∷ [])) _ _ _ _ (adjoint_arms_same margin false arms) (adjoint_else_same margin other)
  adjoint_rows_same margin (adjoint_loop line number directive var first last step body) =
      two (λ a b. a ++ (b ++ end_row margin (codes "do") ∷ [])) _ _ _ _ (loop_same margin directive var first last step) (adjoint_block_same (margin + 2) body)
  adjoint_rows_same margin (push line key value) = refl
  adjoint_rows_same margin (pop line key target) = refl
  adjoint_rows_same margin (begin_tapes line count) = refl
  adjoint_rows_same margin (end_tapes line) = refl

  adjoint_else_same : (margin : ℕ) (ss : AdjointStatements) → adjoint_else_rows margin (adjoint.unlined_all ss) ≡ adjoint_else_rows margin ss
  adjoint_else_same margin no_adjoint_statements = refl
  adjoint_else_same margin (adjoint_statement s rest) =
      two (λ a b. else_row margin ∷ (a ++ b)) _ _ _ _ (adjoint_rows_same (margin + 2) s) (adjoint_block_same (margin + 2) rest)

  adjoint_block_same : (margin : ℕ) (ss : AdjointStatements) → adjoint_block_rows margin (adjoint.unlined_all ss) ≡ adjoint_block_rows margin ss
  adjoint_block_same margin no_adjoint_statements = refl
  adjoint_block_same margin (adjoint_statement s rest) = two (λ a b. a ++ b) _ _ _ _ (adjoint_rows_same margin s) (adjoint_block_same margin rest)

  adjoint_arms_same : (margin : ℕ) (later : Bool) (as' : AdjointArms) → adjoint_arm_rows margin later (adjoint.unlined_arms as') ≡ adjoint_arm_rows margin later as'
  adjoint_arms_same margin later no_adjoint_arms = refl
  adjoint_arms_same margin later (adjoint_arm test body rest) =
      two (λ a b. test_row margin later test ∷ (a ++ b)) _ _ _ _ (adjoint_block_same (margin + 2) body) (adjoint_arms_same margin true rest)

decls_same : (ds : List Decl) → decl_rows (map unlined_decl ds) ≡ decl_rows ds
decls_same [] = refl
decls_same (d ∷ ds) = ap (λ rows. decl_row d ∷ rows) (decls_same ds)

head_same : (name : List ℕ) (args : List (List ℕ)) (ds : List Decl) → head_rows name args (map unlined_decl ds) ≡ head_rows name args ds
head_same name args ds = ap (λ rows. subroutine_row name args ∷ implicit_row ∷ rows) (decls_same ds)

program_same : (p : Subroutine) → program_text (unlined_program p) ≡ program_text p
program_same p =
    ap rows_text (two (λ a b. a ++ (b ++ last_row p.name ∷ [])) _ _ _ _ (head_same p.name p.args p.decls) (block_same 2 p.body))

-- programs that differ in lines alone have one text
pub programs_alike : (p q : Subroutine) → unlined_program p ≡ unlined_program q → program_text p ≡ program_text q
programs_alike p q e = sym (program_same p) ∙ ap program_text e ∙ program_same q

abbrev unit_rows : AdjointUnit → List Row
unit_rows t = head_rows t.name t.args t.decls ++ (adjoint_block_rows 2 t.body ++ last_row t.name ∷ [])

unit_same : (t : AdjointUnit) → unit_rows (unlined_unit t) ≡ unit_rows t
unit_same t = two (λ a b. a ++ (b ++ last_row t.name ∷ [])) _ _ _ _ (head_same t.name t.args t.decls) (adjoint_block_same 2 t.body)

followed_rows : (margin : ℕ) (a b : AdjointStatements) → adjoint_block_rows margin (followed_by a b) ≡ adjoint_block_rows margin a ++ adjoint_block_rows margin b
followed_rows margin no_adjoint_statements b = refl
followed_rows margin (adjoint_statement s rest) b =
    ap (λ rows. adjoint_rows margin s ++ rows) (followed_rows margin rest b) ∙ sym (append_assoc (adjoint_rows margin s) (adjoint_block_rows margin rest) (adjoint_block_rows margin b))

text_rows : (a : AdjointSubroutine) → unit_rows (as_text a) ≡ adjoint_unit_rows a
text_rows a =
    ap (λ rows. head_rows a.name a.args a.decls ++ rows)
    (ap (λ rows. rows ++ last_row a.name ∷ []) (followed_rows 2 a.forward a.reverse)
    ∙ append_assoc (adjoint_block_rows 2 a.forward) (adjoint_block_rows 2 a.reverse) (last_row a.name ∷ []))

one_part_rows : (t : AdjointUnit) (p : Subroutine) → adjoint_unit_rows (in_one_part t p) ≡ unit_rows t
one_part_rows t p = refl

-- a unit that differs from an adjoint in lines and loop numbers alone has its text
pub adjoints_alike : (t : AdjointUnit) (a : AdjointSubroutine) → unlined_unit t ≡ unlined_unit (as_text a) → adjoint_text (in_one_part t a.primal) ≡ adjoint_text a
adjoints_alike t a e = ap rows_text (one_part_rows t a.primal ∙ sym (unit_same t) ∙ ap unit_rows e ∙ unit_same (as_text a) ∙ text_rows a)
