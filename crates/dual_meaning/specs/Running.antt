-- What the steps of a run answer, and loops as the code runs them.
use Rattle.std.specs.Prelude.{◌≡◌, ℕ, suc, ◌*◌, ◌/◌, ◌%◌, cond, List, [], ◌∷◌, ◌++◌, Option, Some, None, Result, Ok, Err, slice_set}
use Rattle.fl_ast.specs.declared.directive.Directive.{Directive}
use Rattle.fl_ast.specs.Tree.{Statements}
use Rattle.fl_types.specs.Sharing.{sharing_in, is_private}
use Rattle.fl_types.specs.Nests.{Head}
use Rattle.store_core.specs.declared.layout.Shape.{Shape}
use Rattle.meaning.specs.declared.value.Value.TheVariants.{Index}
use Rattle.meaning.specs.declared.value.TrapAt.{TrapAt}
use Rattle.meaning.specs.declared.value.IterationCount.{IterationCount}
use Rattle.meaning.specs.Sites.{Cells, Site, place_of}
use Rattle.meaning.specs.Statements.{value_at, set_at}
use Rattle.meaning.specs.Stops.{trapped, over_statements}
use Rattle.resolved.specs.declared.resolved.ResolvedHead.{ResolvedHead}
use Rattle.resolved.specs.ResolvedExprs.{slot_name, expression_back}
use Rattle.resolved.specs.ResolvedStmts.{option_back}
use Rattle.dual_evaluation.specs.declared.stop.EvalStop.{EvalStop}
use Rattle.dual_evaluation.specs.declared.stop.EvalStop.TheVariants as eval
use Rattle.dual_evaluation.specs.Answers.{halt_cause}
use Rattle.dual_evaluation.specs.Assignments.{IsCounted}
use Rattle.dual_meaning.specs.declared.statements.RunStop.{RunStop}
use Rattle.dual_meaning.specs.declared.statements.RunStop.TheVariants as run
use Rattle.dual_meaning.specs.declared.rounds.Round.{Round}
use Rattle.dual_meaning.specs.Counted.{Counted, begun, CountedRun}

-- ---- answers

-- what a stop in a statement at a line is to a run: the trap there, unless memory is wanting
abbrev pub StopsAt : List Shape → ℕ → EvalStop → RunStop → Type 0
StopsAt shapes line (eval.Trap h) (run.Trap t) = t ≡ record { line = line; cause = halt_cause shapes h }
StopsAt shapes line (eval.Trap h) run.Statements = ⊥
StopsAt shapes line (eval.Trap h) run.Memory = Unit {0}
StopsAt shapes line eval.Memory (run.Trap t) = ⊥
StopsAt shapes line eval.Memory run.Statements = ⊥
StopsAt shapes line eval.Memory run.Memory = Unit {0}

-- what a step of a run answers, which is no statement instance
abbrev pub AnswersAt : {A : Type 0} → Result A RunStop → Result A TrapAt → Type 0
AnswersAt (Ok a) r = r ≡ Ok a
AnswersAt (Err (run.Trap t)) r = r ≡ Err t
AnswersAt (Err run.Statements) r = ⊥
AnswersAt (Err run.Memory) r = Unit {0}

-- the cells after an assignment or its trap
abbrev pub SetsAt : {A : Type 0} → Result A RunStop → Cells → Result Cells TrapAt → Type 0
SetsAt (Ok _) cells r = r ≡ Ok cells
SetsAt (Err (run.Trap t)) cells r = r ≡ Err t
SetsAt (Err run.Statements) cells r = ⊥
SetsAt (Err run.Memory) cells r = Unit {0}

-- whether a statement instance could begin, with how many were left before and are left after
abbrev pub Begins : {A : Type 0} → Result A RunStop → (before after : ℕ) → Type 0
Begins (Ok _) before after = before ≡ suc after
Begins (Err (run.Trap t)) before after = ⊥
Begins (Err run.Statements) before after = (before ≡ 0) × (after ≡ 0)
Begins (Err run.Memory) before after = ⊥

-- the cells after a run or its stop, with how many statement instances are left
abbrev pub Ran : {A : Type 0} → Result A RunStop → Cells → ℕ → Counted Cells → Type 0
Ran (Ok _) cells left r = r ≡ (Ok cells, left)
Ran (Err (run.Trap t)) cells left r = r ≡ (Err (trapped t), left)
Ran (Err run.Statements) cells left r = r ≡ (Err over_statements, left)
Ran (Err run.Memory) cells left r = Unit {0}

-- one more tick, where a statement instance has no room
abbrev pub over_by : {A : Type 0} → Result A RunStop → ℕ
over_by (Ok _) = 0
over_by (Err (run.Trap t)) = 0
over_by (Err run.Statements) = 1
over_by (Err run.Memory) = 0

-- ---- loops

-- the head that a resolved one stands for, at its line
abbrev pub head_back : List Shape → ℕ → ResolvedHead → Head
head_back shapes line head = record {
  line = line;
  var = slot_name shapes head.variable;
  first = expression_back shapes head.first;
  last = expression_back shapes head.last;
  step = option_back shapes head.step;
}

abbrev pub round_of : Option ℕ → IterationCount → Round
round_of place turns = record { place = place; turns = turns }

-- a loop's turns, with the place of its variable
abbrev pub AnswersRound : Result Round RunStop → Option ℕ → Result IterationCount TrapAt → Type 0
AnswersRound (Ok round) place r = (r ≡ Ok round.turns) × (round.place ≡ place)
AnswersRound (Err (run.Trap t)) place r = r ≡ Err t
AnswersRound (Err run.Statements) place r = ⊥
AnswersRound (Err run.Memory) place r = Unit {0}

-- ---- iterations of a parallel loop, by places

abbrev pub unset_places : List ℕ → Cells → Cells
unset_places [] cells = cells
unset_places (p ∷ ps) cells = unset_places ps (slice_set cells p None)

-- with the place, where there is one
abbrev pub added : Option ℕ → List ℕ → List ℕ
added None ps = ps
added (Some p) ps = ps ++ p ∷ []

-- where a name is to be unset, if it is a private scalar
abbrev pub private_place : Site → Directive → List ℕ → Statements → List ℕ → Option ℕ
private_place site directive var body x = cond (is_private (sharing_in var directive body x)) (place_of site x []) None

abbrev pub unset_privates : Site → Directive → List ℕ → Statements → List (List ℕ) → Cells → Cells
unset_privates site directive var body [] cells = cells
unset_privates site directive var body (x ∷ xs) cells = unset_privates site directive var body xs (set_at (private_place site directive var body x) None cells)

abbrev pub with_round : Round → ℕ → Cells → Cells
with_round round k cells = set_at round.place (Some (Index (value_at round.turns k))) cells

-- how many iterations there are
abbrev pub round_count : Round → Option Round → ℕ
round_count outer None = outer.turns.count
round_count outer (Some inner) = outer.turns.count * inner.turns.count

abbrev pub with_rounds : Round → Option Round → ℕ → Cells → Cells
with_rounds outer None k cells = with_round outer k cells
with_rounds outer (Some inner) k cells = with_round inner (k % inner.turns.count) (with_round outer (k / inner.turns.count) cells)

abbrev pub is_counted_option : Option Round → Type 0
is_counted_option None = Unit {0}
is_counted_option (Some inner) = IsCounted inner.turns

-- an iteration from the cells that the one before leaves
abbrev pub counted_round : List ℕ → Round → Option Round → CountedRun → ℕ → CountedRun
counted_round privates outer inner body k cells left = begun left (body (with_rounds outer inner k (unset_places privates cells)))
