-- Parallel loops compute: values, adjoints, conflicts and traps.
use Rattle.std.specs.Prelude.{◌≡◌, ℕ, List, [], ◌∷◌, map, None, refl, codes, Ok}
use Rattle.fl_ast.specs.declared.kind.Kind.TheVariants as kind
use Rattle.fl_ast.specs.declared.directive.Directive.{Directive}
use Rattle.fl_ast.specs.Tree.{Statements, statement}
use Rattle.ring_core.specs.Index.{exact_index}
use Rattle.meaning.specs.declared.value.Cause.TheVariants.{Bounds, Unset}
use Rattle.meaning.specs.Logs.{events}
use Rattle.meaning.specs.Sites.{Cells, Site, opening_site}
use Rattle.meaning.specs.Statements.{run_all}
use Rattle.meaning.specs.Stops.{by_conflict, the_limits, Stop, first_stop, at_end, trapped, conflicted}
use Rattle.meaning.specs.Adjoints.{adjoint_at}
use Rattle.meaning.proofs.Small.{declared, scalar, array, word, number, one, name, at, to, into, ◌plus◌, ◌less◌, ◌times◌, only, set, clauses, parallel, all_pushed}

abbrev n : List ℕ
n = codes "n"

abbrev i : List ℕ
i = codes "i"

abbrev c : List ℕ
c = codes "c"

abbrev d : List ℕ
d = codes "d"

abbrev t : List ℕ
t = codes "t"

abbrev x : List ℕ
x = codes "x"

abbrev y : List ℕ
y = codes "y"

abbrev stop : Statements → Site → Cells → Stop
stop body site cells = first_stop by_conflict the_limits (events (run_all body site cells).log)

-- arguments n, x(m), y(k), with the loop's variable i
abbrev arrays : ℕ → ℕ → Site
arrays m k =
    opening_site (declared kind.Index n ∷ declared kind.Index i ∷ declared kind.Ring x ∷ declared kind.Ring y ∷ [])
    (scalar n ∷ array x m ∷ array y k ∷ []) all_pushed

-- do i = 2, n-1: y(i) = x(i-1) + x(i+1)
abbrev stencil : Statements
stencil = parallel clauses i (one 2) (name n less one 1) (only (set 6 (into y (name i)) (at x (name i less one 1) plus at x (name i plus one 1))))

abbrev stencil_cells : Cells
stencil_cells = number 5 ∷ word 1 ∷ word 2 ∷ word 3 ∷ word 4 ∷ word 5 ∷ word 0 ∷ word 0 ∷ word 0 ∷ word 0 ∷ word 0 ∷ None ∷ []

pub stencil_value : (run_all stencil (arrays 5 5) stencil_cells).out
    ≡ Ok (number 5 ∷ word 1 ∷ word 2 ∷ word 3 ∷ word 4 ∷ word 5 ∷ word 0 ∷ word 4 ∷ word 6 ∷ word 8 ∷ word 0 ∷ number 4 ∷ [])
unfolding exact_index
stencil_value = refl

pub stencil_adjoint : map (adjoint_at (run_all stencil (arrays 5 5)) stencil_cells (0 ∷ 0 ∷ 0 ∷ 0 ∷ 0 ∷ 0 ∷ 0 ∷ 1 ∷ 10 ∷ 100 ∷ 0 ∷ [])) (1 ∷ 2 ∷ 3 ∷ 4 ∷ 5 ∷ [])
    ≡ 1 ∷ 10 ∷ 101 ∷ 10 ∷ 100 ∷ []
unfolding exact_index
stencil_adjoint = refl

-- arguments n, c(3), x(3), y(3)
abbrev indexed : Site
indexed =
    opening_site (declared kind.Index n ∷ declared kind.Index i ∷ declared kind.Index c ∷ declared kind.Ring x ∷ declared kind.Ring y ∷ [])
    (scalar n ∷ array c 3 ∷ array x 3 ∷ array y 3 ∷ []) all_pushed

-- do i = 1, n: y(c(i)) = x(c(i))*x(c(i))
abbrev scatter : Statements
scatter = parallel clauses i (one 1) (name n) (only (set 6 (into y (at c (name i))) (at x (at c (name i)) times at x (at c (name i)))))

abbrev scatter_cells : ℕ → ℕ → ℕ → Cells
scatter_cells p q r = number 3 ∷ number p ∷ number q ∷ number r ∷ word 1 ∷ word 2 ∷ word 3 ∷ word 0 ∷ word 0 ∷ word 0 ∷ None ∷ []

pub scatter_value : (run_all scatter indexed (scatter_cells 3 1 2)).out
    ≡ Ok (number 3 ∷ number 3 ∷ number 1 ∷ number 2 ∷ word 1 ∷ word 2 ∷ word 3 ∷ word 1 ∷ word 4 ∷ word 9 ∷ number 3 ∷ [])
unfolding exact_index
scatter_value = refl

pub scatter_adjoint : map (adjoint_at (run_all scatter indexed) (scatter_cells 3 1 2) (0 ∷ 0 ∷ 0 ∷ 0 ∷ 0 ∷ 0 ∷ 0 ∷ 1 ∷ 10 ∷ 100 ∷ [])) (4 ∷ 5 ∷ 6 ∷ [])
    ≡ 2 ∷ 40 ∷ 600 ∷ []
unfolding exact_index
scatter_adjoint = refl

pub scatter_stop : stop scatter indexed (scatter_cells 3 1 2) ≡ at_end
unfolding exact_index
scatter_stop = refl

-- with c 1, 1, 2 both first iterations write y(1)
pub scatter_conflict : stop scatter indexed (scatter_cells 1 1 2) ≡ conflicted 5 (record { place = 7; first = 0; second = 1 })
unfolding exact_index
scatter_conflict = refl

-- arguments n, c(3), x(2), y(3)
abbrev gathering : Site
gathering =
    opening_site (declared kind.Index n ∷ declared kind.Index i ∷ declared kind.Index c ∷ declared kind.Ring x ∷ declared kind.Ring y ∷ [])
    (scalar n ∷ array c 3 ∷ array x 2 ∷ array y 3 ∷ []) all_pushed

-- do i = 1, n: y(i) = x(c(i))
abbrev gather : Statements
gather = parallel clauses i (one 1) (name n) (only (set 6 (into y (name i)) (at x (at c (name i)))))

abbrev gather_cells : Cells
gather_cells = number 3 ∷ number 2 ∷ number 2 ∷ number 1 ∷ word 7 ∷ word 9 ∷ word 0 ∷ word 0 ∷ word 0 ∷ None ∷ []

pub gather_value : (run_all gather gathering gather_cells).out
    ≡ Ok (number 3 ∷ number 2 ∷ number 2 ∷ number 1 ∷ word 7 ∷ word 9 ∷ word 9 ∷ word 9 ∷ word 7 ∷ number 3 ∷ [])
unfolding exact_index
gather_value = refl

pub gather_adjoint : map (adjoint_at (run_all gather gathering) gather_cells (0 ∷ 0 ∷ 0 ∷ 0 ∷ 0 ∷ 0 ∷ 1 ∷ 10 ∷ 100 ∷ [])) (4 ∷ 5 ∷ []) ≡ 100 ∷ 11 ∷ []
unfolding exact_index
gather_adjoint = refl

-- arguments n, c(2), d(2), x(2), y(2)
abbrev composing : Site
composing =
    opening_site (declared kind.Index n ∷ declared kind.Index i ∷ declared kind.Index c ∷ declared kind.Index d ∷ declared kind.Ring x ∷ declared kind.Ring y ∷ [])
    (scalar n ∷ array c 2 ∷ array d 2 ∷ array x 2 ∷ array y 2 ∷ []) all_pushed

-- do i = 1, n: y(d(c(i))) = x(c(i))
abbrev compose : Statements
compose = parallel clauses i (one 1) (name n) (only (set 6 (into y (at d (at c (name i)))) (at x (at c (name i)))))

abbrev compose_cells : ℕ → ℕ → Cells
compose_cells p q = number 2 ∷ number p ∷ number q ∷ number 2 ∷ number 1 ∷ word 5 ∷ word 6 ∷ word 0 ∷ word 0 ∷ None ∷ []

pub compose_value : (run_all compose composing (compose_cells 2 1)).out
    ≡ Ok (number 2 ∷ number 2 ∷ number 1 ∷ number 2 ∷ number 1 ∷ word 5 ∷ word 6 ∷ word 6 ∷ word 5 ∷ number 2 ∷ [])
unfolding exact_index
compose_value = refl

pub compose_adjoint : map (adjoint_at (run_all compose composing) (compose_cells 2 1) (0 ∷ 0 ∷ 0 ∷ 0 ∷ 0 ∷ 0 ∷ 0 ∷ 1 ∷ 10 ∷ [])) (5 ∷ 6 ∷ []) ≡ 10 ∷ 1 ∷ []
unfolding exact_index
compose_adjoint = refl

-- with c 1, 1 both iterations write y(2)
pub compose_conflict : stop compose composing (compose_cells 1 1) ≡ conflicted 5 (record { place = 8; first = 0; second = 1 })
unfolding exact_index
compose_conflict = refl

-- do i = 1, n: y(i) = x(i), where y has three elements
abbrev copy : Statements
copy = parallel clauses i (one 1) (name n) (only (set 6 (into y (name i)) (at x (name i))))

pub copy_trap : stop copy (arrays 4 3) (number 4 ∷ word 1 ∷ word 2 ∷ word 3 ∷ word 4 ∷ word 0 ∷ word 0 ∷ word 0 ∷ None ∷ [])
    ≡ trapped (record { line = 6; cause = Bounds y })
unfolding exact_index
copy_trap = refl

pub copy_nothing : (run_all copy (arrays 0 3) (number 0 ∷ word 7 ∷ word 8 ∷ word 9 ∷ None ∷ [])).out ≡ Ok (number 0 ∷ word 7 ∷ word 8 ∷ word 9 ∷ None ∷ [])
unfolding exact_index
copy_nothing = refl

abbrev with_private : Directive
with_private = record clauses { privates = t ∷ [] }

-- do i = 1, n: y(i) = t, t = x(i), t being private
abbrev unset : Statements
unset = parallel with_private i (one 1) (name n) (statement (set 6 (into y (name i)) (name t)) (only (set 7 (to t) (at x (name i)))))

pub unset_trap :
    stop unset
    (opening_site (declared kind.Index n ∷ declared kind.Index i ∷ declared kind.Ring x ∷ declared kind.Ring y ∷ declared kind.Ring t ∷ [])
    (scalar n ∷ array x 1 ∷ array y 1 ∷ []) all_pushed)
    (number 1 ∷ word 1 ∷ word 0 ∷ None ∷ None ∷ [])
    ≡ trapped (record { line = 6; cause = Unset t })
unfolding exact_index
unset_trap = refl
