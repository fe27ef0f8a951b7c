-- Small programs whose trees and cells fit, so that the laws of fitting apply to them, and trees that don't fit.
use Rattle.std.specs.Prelude.{◌≡◌, ℕ, pos, Bool, true, false, ◌&&◌, nat_lt, bytes_eq, List, [], ◌∷◌, ◌++◌, map, Option, Some, None, Ok, refl, codes}
use Rattle.std.proofs.Common.{arith}
use Rattle.std.proofs.lemmas.Bool.{and_parts}
use Rattle.std.proofs.lemmas.Bool.Decides.{nat_tests}
use Rattle.ring_core.specs.Index.{fits_index, exact_index}
use Rattle.fl_ast.specs.declared.kind.Kind.{Kind}
use Rattle.fl_ast.specs.declared.kind.Kind.TheVariants as kind
use Rattle.fl_ast.specs.declared.kind.BinOp.TheVariants.{Div}
use Rattle.fl_ast.specs.declared.kind.RelOp.TheVariants.{Gt}
use Rattle.fl_ast.specs.declared.kind.Fun.TheVariants.{Max, Mod}
use Rattle.fl_ast.specs.declared.kind.Intent.TheVariants.{Unsaid}
use Rattle.fl_ast.specs.declared.decl.Factor.TheVariants.{Lit}
use Rattle.fl_ast.specs.declared.decl.Bound.{Bound}
use Rattle.fl_ast.specs.declared.decl.Decl.{Decl}
use Rattle.fl_ast.specs.declared.directive.Directive.{Directive}
use Rattle.fl_ast.specs.Tree.{binary, call, no_expressions, expression, relation, Statement, branch, loop, Statements, no_statements, statement, no_arms, arm}
use Rattle.fl_types.specs.declared.access.AccessKind.TheVariants.{Read, Update}
use Rattle.fl_types.specs.Kinds.{are_well_kinded_statements, declared_names}
use Rattle.fl_types.specs.Sharing.{ParallelLoop}
use Rattle.fl_types.specs.Accesses.{accesses}
use Rattle.store_core.specs.declared.layout.Shape.{Shape}
use Rattle.meaning.specs.declared.value.Value.{Value}
use Rattle.meaning.specs.declared.value.Value.TheVariants.{Index, Ring}
use Rattle.meaning.specs.Logs.{Touch}
use Rattle.meaning.specs.Sites.{Key, Cells, Site, in_iteration, kind_of, opening_site}
use Rattle.meaning.specs.Statements.{Heads, run, run_all}
use Rattle.meaning.specs.Fitting.{names_at, HasKind, CellsFit, Fits, IsWellKinded}
use Rattle.meaning.specs.Touches.{touches_in, right_touches_in, touch_of, scope_at}
use Rattle.meaning.specs.Groups.{touches_of_groups, iteration_of, groups_of_iteration, IterationTouches}
use Rattle.meaning.proofs.GroupTouching.{iterations_touch}
use Rattle.meaning.specs.Reached.{HoldsAtAll, IsSound}
use Rattle.meaning.specs.Frame.{content_by_name}
use Rattle.meaning.proofs.FittingProofs.{runs_fitting}
use Rattle.meaning.proofs.Laying.{entries_kinded}
use Rattle.meaning.proofs.Soundly.{runs_sound}
use Rattle.meaning.proofs.Storing.{names_kept}
use Rattle.meaning.proofs.Small.{declared, scalar, array, word, number, one, name, at, to, into, ◌plus◌, ◌times◌, only, set, clauses, parallel, all_pushed}

-- ---- whether cells fit, as a test

abbrev has_kind : Kind → Value → Bool
has_kind kind.Ring (Ring d) = nat_lt d.value 18446744073709551616
has_kind kind.Index (Index z) = fits_index z
has_kind kind.Ring (Index z) = false
has_kind kind.Index (Ring d) = false

abbrev cell_fits : Kind → Option Value → Bool
cell_fits k None = true
cell_fits k (Some v) = has_kind k v

abbrev cells_fit : Site → List Key → Cells → Bool
cells_fit s [] [] = true
cells_fit s [] (c ∷ cs) = false
cells_fit s (k ∷ ks) [] = false
cells_fit s (k ∷ ks) (c ∷ cs) = cell_fits (kind_of s k.0) c && cells_fit s ks cs

kind_tested : (k : Kind) (v : Value) → has_kind k v ≡ true → HasKind k v
kind_tested kind.Ring (Ring d) h = grind (arith, nat_tests)
kind_tested kind.Index (Index z) h = h
kind_tested kind.Ring (Index z) h = cc
kind_tested kind.Index (Ring d) h = cc

tested : (s : Site) (keys : List Key) (cells : Cells) → cells_fit s keys cells ≡ true → CellsFit s keys cells
tested s [] [] h = tt
tested s [] (c ∷ cells) h = cc
tested s (k ∷ keys) [] h = cc
tested s (k ∷ keys) (None ∷ cells) h = (tt, tested s keys cells h)
tested s (k ∷ keys) (Some v ∷ cells) h =
    let p = and_parts (has_kind (kind_of s k.0) v) (cells_fit s keys cells) h in
    (kind_tested (kind_of s k.0) v p.0, tested s keys cells p.1)

-- ---- names

abbrev n : List ℕ
n = codes "n"

abbrev i : List ℕ
i = codes "i"

abbrev j : List ℕ
j = codes "j"

abbrev t : List ℕ
t = codes "t"

abbrev s : List ℕ
s = codes "s"

abbrev c : List ℕ
c = codes "c"

abbrev x : List ℕ
x = codes "x"

abbrev y : List ℕ
y = codes "y"

-- a name declared with its upper bound
abbrev declared_array : Kind → List ℕ → ℕ → Decl
declared_array k z m =
    let upper : Bound = record { first = record { first = Lit m; second = None }; rest = None } in
    record { line = 2; name = z; kind = k; bytes = 8; intent = Unsaid; dims = record { lower = None; upper = upper } ∷ [] }

abbrev decls : List Decl
decls =
    declared kind.Index n ∷ declared kind.Index i ∷ declared kind.Index j ∷ declared_array kind.Index c 2 ∷ declared kind.Ring t ∷ declared kind.Ring s
    ∷ declared_array kind.Ring x 2 ∷ declared_array kind.Ring y 0 ∷ []

-- arguments n, c(2), s, x(2), y(0), which has no elements
abbrev shapes : List Shape
shapes = scalar n ∷ array c 2 ∷ scalar s ∷ array x 2 ∷ array y 0 ∷ []

abbrev site : Site
site = opening_site decls shapes all_pushed

-- a body is well kinded at the site where it is so by its declarations
by_declarations : (body : Statements) → are_well_kinded_statements (declared_names decls) body ≡ true → IsWellKinded site body
by_declarations body h = entries_kinded decls shapes all_pushed refl body h

-- i, j and t have cells after those of the arguments
abbrev cells : Cells
cells = number 2 ∷ number 2 ∷ number 1 ∷ word 5 ∷ word 3 ∷ word 4 ∷ None ∷ None ∷ None ∷ []

cells_are_fitting : Fits site cells
cells_are_fitting = tested site site.keys cells refl

-- ---- a private scalar

abbrev with_private : Directive
with_private = record clauses { privates = t ∷ [] }

-- do i = 1, n: t = x(c(i)), x(c(i)) = t*t
abbrev squares : Statements
squares = parallel with_private i (one 1) (name n) (statement (set 6 (to t) (at x (at c (name i)))) (only (set 7 (into x (at c (name i))) (name t times name t))))

squares_are_kinded : IsWellKinded site squares
squares_are_kinded = by_declarations squares refl

pub squares_end : (run_all squares site cells).out ≡ Ok (number 2 ∷ number 2 ∷ number 1 ∷ word 5 ∷ word 9 ∷ word 16 ∷ number 2 ∷ None ∷ word 3 ∷ [])
unfolding exact_index
squares_end = refl

pub squares_fit : Fits site (number 2 ∷ number 2 ∷ number 1 ∷ word 5 ∷ word 9 ∷ word 16 ∷ number 2 ∷ None ∷ word 3 ∷ [])
squares_fit = runs_fitting squares site cells _ squares_are_kinded cells_are_fitting squares_end

pub squares_sound : HoldsAtAll IsSound squares site cells
squares_sound = runs_sound squares site cells squares_are_kinded cells_are_fitting

-- s isn't written
pub squares_keep : content_by_name site (number 2 ∷ number 2 ∷ number 1 ∷ word 5 ∷ word 9 ∷ word 16 ∷ number 2 ∷ None ∷ word 3 ∷ []) s [] ≡ word 5
squares_keep = names_kept squares site cells _ squares_end s refl []

-- ---- nested loops and an increment

abbrev reducing : Directive
reducing = record clauses { pluses = s ∷ [] }

-- s = s + x(j)*c(i)
abbrev sum_step : Statement
sum_step = set 7 (to s) (name s plus (at x (name j) times at c (name i)))

-- do i = 1, n: do j = i, n: if (c(i) > 1) s = s + x(j)*c(i), a reduction
abbrev sums : Statements
sums = parallel reducing i (one 1) (name n) (only (loop 6 2 None j (name i) (name n) None (only (branch 7 (arm (relation Gt (at c (name i)) (one 1)) (only sum_step) no_arms) no_statements))))

sums_are_kinded : IsWellKinded site sums
sums_are_kinded = refl

pub sums_end : (run_all sums site cells).out ≡ Ok (number 2 ∷ number 2 ∷ number 1 ∷ word 19 ∷ word 3 ∷ word 4 ∷ number 2 ∷ number 2 ∷ None ∷ [])
unfolding exact_index
sums_end = refl

pub sums_sound : HoldsAtAll IsSound sums site cells
sums_sound = runs_sound sums site cells sums_are_kinded cells_are_fitting

-- what an increment in the loop touches, and what its accesses are
abbrev loop_body : Statements
loop_body = only (loop 6 2 None j (name i) (name n) None (only sum_step))

abbrev inside_loop : Site
inside_loop = in_iteration site reducing i loop_body

abbrev step_cells : Cells
step_cells = number 2 ∷ number 2 ∷ number 1 ∷ word 5 ∷ word 3 ∷ word 4 ∷ number 1 ∷ number 2 ∷ None ∷ []

abbrev touch : ℕ → Rattle.fl_types.specs.declared.access.AccessKind.AccessKind → Touch
touch p k = record { place = p; iteration = 0; kind = k }

pub sum_touches : touches_in 0 (run sum_step inside_loop step_cells).log ≡ touch 5 Read ∷ touch 1 Read ∷ touch 3 Update ∷ []
unfolding exact_index
sum_touches = refl

pub sum_accesses : map (touch_of inside_loop step_cells 0) (accesses (scope_at inside_loop) 1 [] sum_step) ≡ Some (touch 5 Read) ∷ Some (touch 1 Read) ∷ Some (touch 3 Update) ∷ []
unfolding exact_index
sum_accesses = refl

-- the reads that are differentiated, where s is active, and where it isn't
pub sum_right_touches : right_touches_in (λ z. bytes_eq z s) 0 (run sum_step inside_loop step_cells).log ≡ touch 5 Read ∷ touch 1 Read ∷ []
unfolding exact_index
sum_right_touches = refl

pub sum_no_right_touches : right_touches_in (λ z. bytes_eq z x) 0 (run sum_step inside_loop step_cells).log ≡ []
unfolding exact_index
sum_no_right_touches = refl

-- the first iteration of `sums`: the bounds of the inner loop, and twice the condition and the increment
abbrev sums_loop : ParallelLoop
sums_loop = record {
  line = 5;
  number = 1;
  outer = [];
  directive = reducing;
  var = i;
  body = only (loop 6 2 None j (name i) (name n) None (only (branch 7 (arm (relation Gt (at c (name i)) (one 1)) (only sum_step) no_arms) no_statements)));
}

abbrev heads : Heads
heads = (i, record { first = pos 1; last = pos 2; step = pos 1; count = 2 }) ∷ []

abbrev turn_touches : ℕ → List Touch
turn_touches p = touch 1 Read ∷ touch p Read ∷ touch 1 Read ∷ touch 3 Update ∷ []

pub iteration_touches : touches_in 0 (iteration_of site sums_loop heads 0 cells).log ≡ touch 0 Read ∷ (turn_touches 4 ++ turn_touches 5)
unfolding exact_index
iteration_touches = refl

pub iteration_groups : touches_of_groups (λ g. g.accesses) 0 (groups_of_iteration site sums_loop heads 0 cells) ≡ map Some (touch 0 Read ∷ (turn_touches 4 ++ turn_touches 5))
unfolding exact_index
iteration_groups = refl

pub iteration_law : IterationTouches decls site sums_loop heads 0 cells
iteration_law = iterations_touch decls site sums_loop refl refl refl heads 0 cells

-- ---- an array without elements stands with its subscripts; its names aren't missing

pub empty_kinded : IsWellKinded site (only (set 4 (into y (one 1)) (at y (name n))))
empty_kinded = refl

-- ---- trees that don't fit

abbrev fits : Statement → Bool
fits b = are_well_kinded_statements (names_at site) (only b)

-- data divided, the remainder of data, data as an index, data as a subscript, data as a bound
pub not_divided : map fits (set 4 (to s) (binary Div (name s) (one 2)) ∷ set 4 (to s) (call Mod (expression (name s) (expression (one 2) no_expressions))) ∷ set 4 (to n) (name s)
    ∷ set 4 (to s) (at x (name s)) ∷ loop 4 1 None i (one 1) (name s) None no_statements ∷ [])
    ≡ false ∷ false ∷ false ∷ false ∷ false ∷ []
not_divided = refl

-- operands of two kinds, one operand too few, a wide literal
pub not_taken : map fits (set 4 (to s) (call Max (expression (name s) (expression (one 2) no_expressions))) ∷ set 4 (to s) (call Max (expression (name s) no_expressions)) ∷ set 4 (to n) (one 2147483648) ∷ [])
    ≡ false ∷ false ∷ false ∷ []
not_taken = refl

-- a name that isn't declared, an array without subscripts, a scalar with one, a loop whose variable is data, a private array
pub not_named : map fits (set 4 (to s) (name (codes "z")) ∷ set 4 (to s) (name x) ∷ set 4 (to s) (at s (one 1)) ∷ loop 4 1 None s (one 1) (name n) None no_statements
    ∷ loop 5 1 (Some (record clauses { privates = x ∷ [] })) i (one 1) (name n) None no_statements ∷ [])
    ≡ false ∷ false ∷ false ∷ false ∷ false ∷ []
not_named = refl

-- the converse: of two kinds, sums fit, and a relation does
pub mixed : map fits (set 4 (to s) (name s plus name n) ∷ branch 4 (arm (relation Gt (name n) (name s)) no_statements no_arms) no_statements ∷ set 4 (to s) (binary Div (name n) (one 2)) ∷ []) ≡ true ∷ true ∷ true ∷ []
mixed = refl
