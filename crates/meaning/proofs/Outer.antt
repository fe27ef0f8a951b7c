-- A parallel loop in a sequential one, whose variable it reads, computes.
use Rattle.std.specs.Prelude.{◌≡◌, ℕ, List, [], ◌∷◌, map, Option, Some, None, refl, codes, Ok}
use Rattle.fl_ast.specs.declared.kind.Kind.TheVariants as kind
use Rattle.fl_ast.specs.declared.decl.Decl.{Decl}
use Rattle.fl_ast.specs.declared.directive.Directive.{Directive}
use Rattle.fl_ast.specs.Tree.{Statements, loop}
use Rattle.ring_core.specs.Index.{exact_index}
use Rattle.fl_types.specs.declared.access.AccessKind.{AccessKind}
use Rattle.fl_types.specs.declared.access.AccessKind.TheVariants.{Read, Write}
use Rattle.fl_types.specs.declared.sharing.Sharing.TheVariants.{Shared, First, LoopVar}
use Rattle.fl_types.specs.Sharing.{ParallelLoop, loop_of, sharing_of}
use Rattle.fl_types.specs.Accesses.{Occurrence, loop_accesses}
use Rattle.meaning.specs.Logs.{Event, begins, touches, pushes, ends, traps, events}
use Rattle.meaning.specs.Sites.{Cells, Site, opening_site}
use Rattle.meaning.specs.Statements.{run_all}
use Rattle.meaning.specs.Stops.{by_conflict, the_limits, first_stop, at_end}
use Rattle.meaning.specs.Adjoints.{adjoint_at}
use Rattle.meaning.proofs.Small.{declared, scalar, array, word, number, one, name, at, into, ◌times◌, only, set, clauses, all_pushed}

abbrev n : List ℕ
n = codes "n"

abbrev i : List ℕ
i = codes "i"

abbrev t : List ℕ
t = codes "t"

abbrev x : List ℕ
x = codes "x"

abbrev decls : List Decl
decls = declared kind.Index n ∷ declared kind.Index i ∷ declared kind.Index t ∷ declared kind.Ring x ∷ []

abbrev site : Site
site = opening_site decls (scalar n ∷ array x 2 ∷ []) all_pushed

-- do t = 1, 2
--   parallel do i = 1, n
--     x(i) = x(i)*t
abbrev scaled : Directive → Statements
scaled d = only (loop 4 1 None t (one 1) (one 2) None (only (loop 6 2 (Some d) i (one 1) (name n) None (only (set 7 (into x (name i)) (at x (name i) times name t))))))

abbrev listed : Directive
listed = record clauses { firsts = t ∷ [] }

-- the variable of the loop around is shared, or what a clause says
pub classes : map (sharing_of (scaled clauses) 2) (n ∷ i ∷ t ∷ x ∷ []) ≡ Shared ∷ LoopVar ∷ Shared ∷ Shared ∷ []
classes = refl

pub listed_classes : map (sharing_of (scaled listed) 2) (n ∷ i ∷ t ∷ x ∷ []) ≡ Shared ∷ LoopVar ∷ First ∷ Shared ∷ []
listed_classes = refl

abbrev accesses_of : Option ParallelLoop → List (List ℕ × AccessKind)
accesses_of None = []
accesses_of (Some l) = map (λ (o : Occurrence). (o.place.name, o.kind)) (loop_accesses decls l)

-- and it makes no access
pub scaled_accesses : accesses_of (loop_of (scaled clauses) 2) ≡ (x, Read) ∷ (x, Write) ∷ []
scaled_accesses = refl

pub listed_accesses : accesses_of (loop_of (scaled listed) 2) ≡ (x, Read) ∷ (x, Write) ∷ []
listed_accesses = refl

abbrev cells : Cells
cells = number 2 ∷ word 3 ∷ word 5 ∷ None ∷ None ∷ []

pub scaled_value : (run_all (scaled clauses) site cells).out ≡ Ok (number 2 ∷ word 6 ∷ word 10 ∷ number 2 ∷ number 2 ∷ [])
unfolding exact_index
scaled_value = refl

pub scaled_adjoint : map (adjoint_at (run_all (scaled listed) site) cells (0 ∷ 1 ∷ 10 ∷ [])) (1 ∷ 2 ∷ []) ≡ 2 ∷ 20 ∷ []
unfolding exact_index
scaled_adjoint = refl

pub scaled_stop : first_stop by_conflict the_limits (events (run_all (scaled clauses) site cells).log) ≡ at_end
unfolding exact_index
scaled_stop = refl

-- the touched places
abbrev touched : List Event → List (ℕ × ℕ × AccessKind)
touched [] = []
touched (begins ∷ es) = touched es
touched (touches a ∷ es) = (a.place, a.iteration, a.kind) ∷ touched es
touched (pushes v ∷ es) = touched es
touched (ends line ∷ es) = touched es
touched (traps s ∷ es) = touched es

pub scaled_touches : touched (events (run_all (scaled clauses) site cells).log)
    ≡ (1, 0, Read) ∷ (1, 0, Write) ∷ (2, 1, Read) ∷ (2, 1, Write) ∷ (1, 0, Read) ∷ (1, 0, Write) ∷ (2, 1, Read) ∷ (2, 1, Write) ∷ []
unfolding exact_index
scaled_touches = refl
