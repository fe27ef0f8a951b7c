-- Two loops collapsed compute.
use Rattle.std.specs.Prelude.{◌≡◌, ◌==◌, if◌then◌else◌, ℕ, pos, List, [], ◌∷◌, map, None, Some, refl, codes, Ok, Option}
use Rattle.fl_ast.specs.declared.kind.Kind.TheVariants as kind
use Rattle.fl_ast.specs.declared.decl.Decl.{Decl}
use Rattle.fl_ast.specs.declared.directive.Directive.{Directive}
use Rattle.fl_ast.specs.Tree.{Expression, no_expressions, expression, Designator, loop, Statements}
use Rattle.ring_core.specs.Index.{exact_index}
use Rattle.fl_types.specs.declared.access.AccessKind.{AccessKind}
use Rattle.fl_types.specs.declared.access.AccessKind.TheVariants.{Read, Write}
use Rattle.fl_types.specs.declared.access.PathStep.{PathStep}
use Rattle.fl_types.specs.declared.sharing.Sharing.TheVariants.{Shared, LoopVar}
use Rattle.fl_types.specs.Sharing.{ParallelLoop, loop_of, sharing_of}
use Rattle.fl_types.specs.Accesses.{Occurrence, loop_accesses}
use Rattle.store_core.specs.declared.layout.Shape.{Shape}
use Rattle.meaning.specs.declared.value.Cause.TheVariants.{ZeroDivisor}
use Rattle.meaning.specs.declared.value.Value.{Value}
use Rattle.meaning.specs.Logs.{Event, begins, touches, pushes, ends, events, Note, tells, stores, notes}
use Rattle.meaning.specs.Sites.{Cells, Site, opening_site}
use Rattle.meaning.specs.Statements.{run_all}
use Rattle.meaning.specs.Stops.{by_conflict, the_limits, Stop, first_stop, trapped, conflicted}
use Rattle.meaning.specs.Adjoints.{adjoint_at}
use Rattle.meaning.proofs.Small.{declared, scalar, array, word, number, one, name, at, ◌plus◌, ◌less◌, ◌times◌, only, set, clauses, parallel, all_pushed}

abbrev n : List ℕ
n = codes "n"

abbrev i : List ℕ
i = codes "i"

abbrev j : List ℕ
j = codes "j"

abbrev x : List ℕ
x = codes "x"

abbrev y : List ℕ
y = codes "y"

abbrev decls : List Decl
decls = declared kind.Index n ∷ declared kind.Index i ∷ declared kind.Index j ∷ declared kind.Ring x ∷ declared kind.Ring y ∷ []

-- y(n,4)
abbrev table : Shape
table = record { name = y; axes = record { lower = pos 1; extent = 2 } ∷ record { lower = pos 1; extent = 4 } ∷ [] }

abbrev site : Site
site = opening_site decls (scalar n ∷ array x 8 ∷ table ∷ []) all_pushed

abbrev two : Directive
two = record clauses { collapse = 2 }

abbrev inner : Option Expression → Designator → Statements
inner step p = only (loop 6 2 None j (one 1) (one 4) step (only (set 7 p (at x ((one 4 times (name i less one 1)) plus name j)))))

abbrev element : Expression → Designator
element e = record { name = y; subscripts = expression (name i) (expression e no_expressions) }

-- do i = 1, n, collapsed with do j = 1, 4: y(i,j) = x(4*(i-1)+j)
abbrev lin : Statements
lin = parallel two i (one 1) (name n) (inner None (element (name j)))

abbrev cells : Cells
cells =
    number 2 ∷ word 1 ∷ word 2 ∷ word 3 ∷ word 4 ∷ word 5 ∷ word 6 ∷ word 7 ∷ word 8
    ∷ word 0 ∷ word 0 ∷ word 0 ∷ word 0 ∷ word 0 ∷ word 0 ∷ word 0 ∷ word 0 ∷ None ∷ None ∷ []

pub lin_value : (run_all lin site cells).out
    ≡ Ok (number 2 ∷ word 1 ∷ word 2 ∷ word 3 ∷ word 4 ∷ word 5 ∷ word 6 ∷ word 7 ∷ word 8
    ∷ word 1 ∷ word 5 ∷ word 2 ∷ word 6 ∷ word 3 ∷ word 7 ∷ word 4 ∷ word 8 ∷ number 2 ∷ number 4 ∷ [])
unfolding exact_index
lin_value = refl

pub lin_adjoint :
    map (adjoint_at (run_all lin site) cells (0 ∷ 0 ∷ 0 ∷ 0 ∷ 0 ∷ 0 ∷ 0 ∷ 0 ∷ 0 ∷ 1 ∷ 2 ∷ 3 ∷ 4 ∷ 5 ∷ 6 ∷ 7 ∷ 8 ∷ [])) (1 ∷ 2 ∷ 3 ∷ 4 ∷ 5 ∷ 6 ∷ 7 ∷ 8 ∷ [])
    ≡ 1 ∷ 3 ∷ 5 ∷ 7 ∷ 2 ∷ 4 ∷ 6 ∷ 8 ∷ []
unfolding exact_index
lin_adjoint = refl

-- one statement instance for the loop and one for each pair, and six words
abbrev pair_told : ℕ → ℕ → ℕ → List Event → List Event
pair_told k p q es = begins ∷ begins ∷ touches (record { place = p; iteration = k; kind = Read }) ∷ touches (record { place = q; iteration = k; kind = Write }) ∷ pushes (word 0) ∷ es

pub lin_events : events (run_all lin site cells).log
    ≡ begins ∷ pair_told 0 1 9 (pair_told 1 2 11 (pair_told 2 3 13 (pair_told 3 4 15 (pair_told 4 5 10 (pair_told 5 6 12 (pair_told 6 7 14 (pair_told 7 8 16
    (ends 5 ∷ pushes (number 1) ∷ pushes (number 2) ∷ pushes (number 1) ∷ pushes (number 1) ∷ pushes (number 4) ∷ pushes (number 1) ∷ []))))))))
unfolding exact_index
lin_events = refl

-- what is stored at a place
abbrev stored_at : ℕ → List Note → List (Option Value)
stored_at p [] = []
stored_at p (tells e ∷ ns) = stored_at p ns
stored_at p (stores q v ∷ ns) = if q == p then v ∷ stored_at p ns else stored_at p ns

-- the two variables in the eight iterations, the inner one running faster
pub lin_outer : stored_at 17 (notes (run_all lin site cells).log)
    ≡ number 1 ∷ number 1 ∷ number 1 ∷ number 1 ∷ number 2 ∷ number 2 ∷ number 2 ∷ number 2 ∷ []
unfolding exact_index
lin_outer = refl

pub lin_inner : stored_at 18 (notes (run_all lin site cells).log)
    ≡ number 1 ∷ number 2 ∷ number 3 ∷ number 4 ∷ number 1 ∷ number 2 ∷ number 3 ∷ number 4 ∷ []
unfolding exact_index
lin_inner = refl

abbrev stop : Statements → Stop
stop body = first_stop by_conflict the_limits (events (run_all body site cells).log)

-- with y(i,1) the first two pairs write one place
pub lin_conflict : stop (parallel two i (one 1) (name n) (inner None (element (one 1)))) ≡ conflicted 5 (record { place = 9; first = 0; second = 1 })
unfolding exact_index
lin_conflict = refl

-- the inner bounds are evaluated where the outer loop has no turn, at the inner loop's line
pub lin_trap : stop (parallel two i (one 2) (one 1) (inner (Some (one 0)) (element (name j)))) ≡ trapped (record { line = 6; cause = ZeroDivisor })
unfolding exact_index
lin_trap = refl

abbrev accesses_of : Option ParallelLoop → List (List ℕ × AccessKind × List PathStep)
accesses_of None = []
accesses_of (Some l) = map (λ (o : Occurrence). (o.place.name, o.kind, o.path)) (loop_accesses decls l)

-- the inner loop adds no step to a path
pub lin_accesses : accesses_of (loop_of lin 1) ≡ (x, Read, []) ∷ (y, Write, []) ∷ []
lin_accesses = refl

pub lin_classes : map (sharing_of lin 1) (n ∷ i ∷ j ∷ x ∷ y ∷ []) ≡ Shared ∷ LoopVar ∷ LoopVar ∷ Shared ∷ Shared ∷ []
lin_classes = refl
