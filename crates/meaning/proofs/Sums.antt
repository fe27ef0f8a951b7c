-- Scalars that all iterations read, atomic updates and reductions compute.
use Rattle.std.specs.Prelude.{◌≡◌, ℕ, true, List, [], ◌∷◌, map, None, refl, codes, Ok}
use Rattle.fl_ast.specs.declared.kind.Kind.TheVariants as kind
use Rattle.fl_ast.specs.declared.directive.Directive.{Directive}
use Rattle.fl_ast.specs.Tree.{Statements, assignment}
use Rattle.fl_types.specs.declared.access.AccessKind.TheVariants.{Read, Update}
use Rattle.ring_core.specs.Index.{exact_index}
use Rattle.meaning.specs.Logs.{events, begins, touches, pushes, ends}
use Rattle.meaning.specs.Sites.{Cells, Site, opening_site}
use Rattle.meaning.specs.Statements.{run_all}
use Rattle.meaning.specs.Stops.{by_conflict, the_limits, first_stop, at_end, conflicted, over_touches}
use Rattle.meaning.specs.Adjoints.{adjoint_at}
use Rattle.meaning.proofs.Small.{declared, scalar, array, word, number, one, name, at, to, into, ◌plus◌, ◌times◌, only, set, clauses, parallel, all_pushed}

abbrev n : List ℕ
n = codes "n"

abbrev i : List ℕ
i = codes "i"

abbrev a : List ℕ
a = codes "a"

abbrev c : List ℕ
c = codes "c"

abbrev s : List ℕ
s = codes "s"

abbrev x : List ℕ
x = codes "x"

abbrev y : List ℕ
y = codes "y"

abbrev scaling : Site
scaling =
    opening_site (declared kind.Index n ∷ declared kind.Index i ∷ declared kind.Ring a ∷ declared kind.Ring x ∷ declared kind.Ring y ∷ [])
    (scalar n ∷ scalar a ∷ array x 2 ∷ array y 2 ∷ []) all_pushed

-- do i = 1, n: y(i) = a*x(i)
abbrev scale : Statements
scale = parallel clauses i (one 1) (name n) (only (set 6 (into y (name i)) (name a times at x (name i))))

abbrev scale_cells : Cells
scale_cells = number 2 ∷ word 3 ∷ word 1 ∷ word 2 ∷ word 0 ∷ word 0 ∷ None ∷ []

pub scale_value : (run_all scale scaling scale_cells).out ≡ Ok (number 2 ∷ word 3 ∷ word 1 ∷ word 2 ∷ word 3 ∷ word 6 ∷ number 2 ∷ [])
unfolding exact_index
scale_value = refl

pub scale_adjoint : map (adjoint_at (run_all scale scaling) scale_cells (0 ∷ 0 ∷ 0 ∷ 0 ∷ 10 ∷ 100 ∷ [])) (1 ∷ 2 ∷ 3 ∷ []) ≡ 210 ∷ 30 ∷ 300 ∷ []
unfolding exact_index
scale_adjoint = refl

abbrev counting : Site
counting =
    opening_site (declared kind.Index n ∷ declared kind.Index i ∷ declared kind.Index c ∷ declared kind.Ring x ∷ declared kind.Ring y ∷ [])
    (scalar n ∷ array c 2 ∷ array x 2 ∷ array y 2 ∷ []) all_pushed

-- do i = 1, n: y(c(i)) = y(c(i)) + x(i)*x(i), atomic
abbrev tally : Statements
tally =
    parallel clauses i (one 1) (name n)
    (only (assignment 7 true (into y (at c (name i))) (at y (at c (name i)) plus (at x (name i) times at x (name i)))))

abbrev tally_cells : Cells
tally_cells = number 2 ∷ number 1 ∷ number 1 ∷ word 2 ∷ word 3 ∷ word 0 ∷ word 0 ∷ None ∷ []

pub tally_value : (run_all tally counting tally_cells).out ≡ Ok (number 2 ∷ number 1 ∷ number 1 ∷ word 2 ∷ word 3 ∷ word 13 ∷ word 0 ∷ number 2 ∷ [])
unfolding exact_index
tally_value = refl

pub tally_adjoint : map (adjoint_at (run_all tally counting) tally_cells (0 ∷ 0 ∷ 0 ∷ 0 ∷ 0 ∷ 1 ∷ 0 ∷ [])) (3 ∷ 4 ∷ []) ≡ 4 ∷ 6 ∷ []
unfolding exact_index
tally_adjoint = refl

pub tally_stop : first_stop by_conflict the_limits (events (run_all tally counting tally_cells).log) ≡ at_end
unfolding exact_index
tally_stop = refl

-- the ninth touch passes a limit of seven
pub tally_limit : first_stop by_conflict (record the_limits { touches = 7 }) (events (run_all tally counting tally_cells).log) ≡ over_touches
unfolding exact_index
tally_limit = refl

abbrev summing : Site
summing =
    opening_site (declared kind.Index n ∷ declared kind.Index i ∷ declared kind.Ring x ∷ declared kind.Ring s ∷ [])
    (scalar n ∷ array x 3 ∷ scalar s ∷ []) all_pushed

abbrev reducing : Directive
reducing = record clauses { pluses = s ∷ [] }

-- do i = 1, n: s = s + x(i)*x(i), a reduction
abbrev dot : Directive → Statements
dot d = parallel d i (one 1) (name n) (only (set 6 (to s) (name s plus (at x (name i) times at x (name i)))))

abbrev dot_cells : Cells
dot_cells = number 3 ∷ word 1 ∷ word 2 ∷ word 3 ∷ word 5 ∷ None ∷ []

pub dot_value : (run_all (dot reducing) summing dot_cells).out ≡ Ok (number 3 ∷ word 1 ∷ word 2 ∷ word 3 ∷ word 19 ∷ number 3 ∷ [])
unfolding exact_index
dot_value = refl

pub dot_adjoint : map (adjoint_at (run_all (dot reducing) summing) dot_cells (0 ∷ 0 ∷ 0 ∷ 0 ∷ 2 ∷ [])) (4 ∷ 1 ∷ 2 ∷ 3 ∷ []) ≡ 2 ∷ 4 ∷ 8 ∷ 12 ∷ []
unfolding exact_index
dot_adjoint = refl

pub dot_stop : first_stop by_conflict the_limits (events (run_all (dot reducing) summing dot_cells).log) ≡ at_end
unfolding exact_index
dot_stop = refl

-- without the clause each iteration writes s
pub dot_conflict : first_stop by_conflict the_limits (events (run_all (dot clauses) summing dot_cells).log) ≡ conflicted 5 (record { place = 4; first = 0; second = 1 })
unfolding exact_index
dot_conflict = refl

-- an increment reads x twice, updates s, and pushes nothing; the loop ends before its three words
pub dot_events :
    events (run_all (dot reducing) summing (number 1 ∷ word 1 ∷ word 2 ∷ word 3 ∷ word 5 ∷ None ∷ [])).log
    ≡ begins ∷ begins ∷ begins ∷ touches (record { place = 1; iteration = 0; kind = Read }) ∷ touches (record { place = 1; iteration = 0; kind = Read })
    ∷ touches (record { place = 4; iteration = 0; kind = Update }) ∷ ends 5 ∷ pushes (number 1) ∷ pushes (number 1) ∷ pushes (number 1) ∷ []
unfolding exact_index
dot_events = refl
