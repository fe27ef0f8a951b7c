-- Bounds of loops: they are set before a loop, pushed after it, and popped before its reverse.
use Rattle.std.specs.Prelude.{ℕ, false, if◌then◌else◌, List, [], ◌∷◌, ◌++◌, flat_map, Option, Some, None}
use Rattle.fl_ast.specs.declared.kind.Kind.TheVariants as kind
use Rattle.fl_ast.specs.declared.kind.BinOp.TheVariants as op
use Rattle.fl_ast.specs.declared.kind.Fun.TheVariants as fun
use Rattle.fl_ast.specs.declared.directive.Directive.{Directive}
use Rattle.fl_ast.specs.Tree.{Expression, literal, binary, call, no_expressions, expression, Statement, assignment, branch, loop, Statements, no_statements, statement}
use Rattle.fl_ast.specs.AdjointTree.{AdjointStatement, adjoint_assignment, adjoint_loop, push, pop, adjoint_statements_of}
use Rattle.fl_types.specs.Nests.{is_nest}
use Rattle.adjoint_rules.specs.OwnNames.{scalar, value, lo_name, hi_name, by_name, k_name}
use Rattle.adjoint_rules.specs.Expressions.{in_adjoint}

-- the head of a `do`, with the loop's number
pub record LoopHead : Type 0 where
  pub line : ℕ
  pub number : ℕ
  pub var : List ℕ
  pub first : Expression
  pub last : Expression
  pub step : Option Expression

abbrev pub lo : LoopHead → Expression
lo h = value (lo_name h.number)

abbrev pub hi : LoopHead → Expression
hi h = value (hi_name h.number)

abbrev pub by : LoopHead → Expression
by h = value (by_name h.number)

-- a missing step is 1
abbrev pub step_of : Option Expression → Expression
step_of None = literal 1 kind.Index
step_of (Some e) = e

abbrev pub settings : LoopHead → List AdjointStatement
settings h =
    adjoint_assignment h.line false (scalar (lo_name h.number)) (in_adjoint h.first)
    ∷ adjoint_assignment h.line false (scalar (hi_name h.number)) (in_adjoint h.last)
    ∷ adjoint_assignment h.line false (scalar (by_name h.number)) (in_adjoint (step_of h.step))
    ∷ []

abbrev pub pushes : Expression → LoopHead → List AdjointStatement
pushes key h = push h.line key (lo h) ∷ push h.line key (hi h) ∷ push h.line key (by h) ∷ []

abbrev pub pops : Expression → LoopHead → List AdjointStatement
pops key h =
    pop h.line key (scalar (by_name h.number)) ∷ pop h.line key (scalar (hi_name h.number)) ∷ pop h.line key (scalar (lo_name h.number)) ∷ []

-- how many turns there are, `max(((hi-lo)+by)/by, 0)` (Fortran 2018, 11.1.7.4.1)
abbrev pub count : LoopHead → Expression
count h =
    call fun.Max (expression (binary op.Div (binary op.Add (binary op.Sub (hi h) (lo h)) (by h)) (by h)) (expression (literal 0 kind.Index) no_expressions))

-- the last turn's value, `lo+((count-1)*by)`
abbrev pub last_value : LoopHead → Expression
last_value h = binary op.Add (lo h) (binary op.Mul (binary op.Sub (count h) (literal 1 kind.Index)) (by h))

-- the number of a turn, `(v-lo)/by`
abbrev pub turn_number : LoopHead → Expression
turn_number h = binary op.Div (binary op.Sub (value h.var) (lo h)) (by h)

abbrev pub loop_over : Option Directive → LoopHead → (first last step : Expression) → List AdjointStatement → AdjointStatement
loop_over directive h first last step body = adjoint_loop h.line h.number directive h.var first last (Some step) (adjoint_statements_of body)

-- ---- collapsed loops, the outer one first

abbrev pub inner_loop : Statement → List LoopHead
inner_loop (assignment line atomic target e) = []
inner_loop (branch line arms other) = []
inner_loop (loop line number directive var first last step body) =
    record { line = line; number = number; var = var; first = first; last = last; step = step } ∷ []

abbrev pub inner_loops : Statements → List LoopHead
inner_loops no_statements = []
inner_loops (statement s ss) = inner_loop s

-- the loops whose iterations those of a parallel loop are, after its own
abbrev pub further_loops : Directive → Statements → List LoopHead
further_loops directive body = if is_nest directive body then inner_loops body else []

-- of the loop h and those in it
abbrev pub total : LoopHead → List LoopHead → Expression
total h [] = count h
total h (g ∷ hs) = binary op.Mul (count h) (total g hs)

abbrev pub iteration_number : LoopHead → List LoopHead → Expression
iteration_number h [] = turn_number h
iteration_number h (g ∷ hs) = binary op.Add (binary op.Mul (turn_number h) (total g hs)) (iteration_number g hs)

abbrev pub all_settings : List LoopHead → List AdjointStatement
all_settings hs = flat_map settings hs

abbrev pub all_pushes : Expression → List LoopHead → List AdjointStatement
all_pushes key hs = flat_map (pushes key) hs

-- the last one first
abbrev pub all_pops : Expression → List LoopHead → List AdjointStatement
all_pops key [] = []
all_pops key (h ∷ hs) = all_pops key hs ++ pops key h

-- the loops around an iteration's statements, each from its first value to its last
abbrev pub loops_around : Option Directive → LoopHead → List LoopHead → List AdjointStatement → AdjointStatement
loops_around directive h [] body = loop_over directive h (lo h) (hi h) (by h) body
loops_around directive h (g ∷ hs) body = loop_over directive h (lo h) (hi h) (by h) (loops_around None g hs body ∷ [])

-- `formad_k`, at an iteration's start
abbrev pub numbering : LoopHead → List LoopHead → AdjointStatement
numbering h hs = adjoint_assignment h.line false (scalar k_name) (in_adjoint (iteration_number h hs))
