-- The order of refusals up to a certificate's text, and up to the text of an adjoint whose atomic steps are dropped where that is shown.
use Rattle.std.specs.Prelude.{ℕ, Bool, List, []}
use Rattle.ending.specs.Plan.{Plan}
use Rattle.fl_ast.specs.declared.stmt.Program.{Program}
use Rattle.fl_ast.specs.AdjointTree.{AdjointSubroutine}
use Rattle.fl_printer.specs.Text.{adjoint_text}
use Rattle.adjoint_rules.specs.Adjoint.{adjoint_of}
use Rattle.adjoint_sets.specs.Names.{is_active, is_needed}
use Rattle.program_stage.specs.Programs.{subject_stage}
use Rattle.program_certificates.specs.Choices.{choices_with}
use Rattle.program_certificates.specs.Texts.{proved_text}

-- of the plain pairs for the names `of` by the names `wrt`
unfoldable pub proved_for : Program → (of wrt : List (List ℕ)) → List ℕ
proved_for p of wrt = proved_text p (is_active p of wrt)

-- the program file, its text, the names, and then the certificate
unfoldable pub certificate_stage : (file : List ℕ) (of wrt : List (List ℕ)) → (List ℕ → Plan) → Plan
certificate_stage file of wrt rest = subject_stage file of wrt (λ p. rest (proved_for p of wrt))

-- the adjoint of a program for active names: for the needed names, and the choices by what is shown without a certificate
abbrev pub shared_adjoint_for : Program → (List ℕ → Bool) → AdjointSubroutine
shared_adjoint_for p active = adjoint_of p active (is_needed p active) (choices_with p active [])

unfoldable pub printed_shared : Program → (of wrt : List (List ℕ)) → List ℕ
printed_shared p of wrt = adjoint_text (shared_adjoint_for p (is_active p of wrt))

unfoldable pub shared_stage : (file : List ℕ) (of wrt : List (List ℕ)) → (List ℕ → Plan) → Plan
shared_stage file of wrt rest = subject_stage file of wrt (λ p. rest (printed_shared p of wrt))
