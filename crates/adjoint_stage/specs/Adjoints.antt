-- The order of refusals up to the adjoint's text, and the text.
use Rattle.std.specs.Prelude.{ℕ, ◌≡◌, Bool, List, codes, Some, None}
use Rattle.activity.specs.declared.set.ActivityError.{ActivityError}
use Rattle.activity.specs.declared.set.ActivityError.TheVariants.{NotRing, Memory}
use Rattle.ending.specs.declared.verdict.Verdict.TheVariants.{Refused}
use Rattle.ending.specs.Plan.{Plan, Saying, line}
use Rattle.fl_ast.specs.declared.stmt.Program.{Program}
use Rattle.fl_ast.specs.AdjointTree.{AdjointSubroutine}
use Rattle.fl_printer.specs.Text.{adjoint_text}
use Rattle.fl_types.specs.declared.choice.Chosen.{Chosen}
use Rattle.adjoint_rules.specs.Adjoint.{adjoint_of}
use Rattle.adjoint_unit.specs.Adjoints.{IsAdjointOf}
use Rattle.adjoint_choices.specs.Choosing.{choices_of}
use Rattle.adjoint_sets.specs.Names.{is_active, is_needed}
use Rattle.program_stage.specs.Names.{names_stage}
use Rattle.program_stage.specs.Programs.{subject_stage}

-- the adjoint of a program for active names: for the needed names, and the choices where nothing is known of which iterations meet
abbrev pub adjoint_for : Program → (List ℕ → Bool) → AdjointSubroutine
adjoint_for p active = adjoint_of p active (is_needed p active) (choices_of p active)

-- the text of a program's adjoint, of the names `of` by the names `wrt`
unfoldable pub printed_adjoint : Program → (of wrt : List (List ℕ)) → List ℕ
printed_adjoint p of wrt = adjoint_text (adjoint_for p (is_active p of wrt))

-- the names of `of` and then those of `wrt` are arguments of the ring kind, or the first that isn't is said
abbrev pub asked_stage : Program → (of wrt : List (List ℕ)) → (Unit {0} → Plan) → Plan
asked_stage p of wrt rest = names_stage p of (λ _. names_stage p wrt rest)

-- the program file, its text, the names, and then the adjoint's text
unfoldable pub adjoint_stage : (file : List ℕ) (of wrt : List (List ℕ)) → (List ℕ → Plan) → Plan
adjoint_stage file of wrt rest = subject_stage file of wrt (λ p. rest (printed_adjoint p of wrt))

-- ---- of parts

abbrev pub say_misfit : ActivityError → Saying
say_misfit (NotRing name) = Some (Refused, line (codes "refused name ") name)
say_misfit Memory = None

-- the text of an adjoint for some choices
abbrev pub IsTextFor : Program → (List ℕ → Bool) → List Chosen → List ℕ → Type 0
IsTextFor p active choices text = (t : AdjointSubroutine) × IsAdjointOf p active choices t × (text ≡ adjoint_text t)
