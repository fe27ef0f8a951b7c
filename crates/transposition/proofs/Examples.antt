-- Reverse parts compute: operations, and adjoints as the unit directions give them.
use Rattle.std.specs.Prelude.{◌≡◌, ℕ, List, [], ◌∷◌, map, None, Some, pos, negsuc, refl, codes, bytes_eq, true, if◌then◌else◌, ◌||◌, Ok}
use Rattle.fl_ast.specs.declared.kind.Kind.TheVariants as kind
use Rattle.fl_ast.specs.declared.kind.Fun.TheVariants.{Max}
use Rattle.fl_ast.specs.declared.directive.Directive.{Directive}
use Rattle.fl_ast.specs.Tree.{Designator, call, expression, no_expressions, Statements, statement, assignment, loop, power}
use Rattle.ring_core.specs.Index.{exact_index}
use Rattle.fl_types.specs.declared.choice.Choice.{Choice}
use Rattle.fl_types.specs.declared.choice.Choice.TheVariants.{Shared, Atomic, Reduction}
use Rattle.store_core.specs.declared.layout.Shape.{Shape}
use Rattle.operations.specs.declared.op.Op.TheVariants.{Load, Store, Bump}
use Rattle.operations.specs.Tree.{Played, play}
use Rattle.meaning.specs.Sites.{Cells, Site, opening_site}
use Rattle.meaning.specs.Statements.{run_all}
use Rattle.meaning.specs.Adjoints.{adjoint_at}
use Rattle.meaning.proofs.Small.{declared, scalar, array, word, number, one, name, at, to, into, ◌plus◌, ◌times◌, only, set, clauses, parallel, all_pushed}
use Rattle.transposition.specs.Tapes.{Tape, empty, word as tape_word, tape_after}
use Rattle.transposition.specs.Worlds.{World, Local, with_own_value}
use Rattle.transposition.specs.Reads.{number_in}
use Rattle.transposition.specs.Back.{turns_on, back_all}

abbrev pub n : List ℕ
n = codes "n"

abbrev pub i : List ℕ
i = codes "i"

abbrev pub a : List ℕ
a = codes "a"

abbrev pub d : List ℕ
d = codes "d"

abbrev pub x : List ℕ
x = codes "x"

abbrev pub y : List ℕ
y = codes "y"

-- x(i) = x(i)*x(i)
abbrev squares_site : Site
squares_site = opening_site (declared kind.Index n ∷ declared kind.Ring x ∷ declared kind.Index i ∷ []) (scalar n ∷ array x 2 ∷ []) all_pushed

abbrev squares : Statements
squares = parallel clauses i (one 1) (name n) (only (set 6 (into x (name i)) (at x (name i) times at x (name i))))

abbrev squares_cells : Cells
squares_cells = number 2 ∷ word 3 ∷ word 5 ∷ None ∷ []

abbrev squares_world : Choice → World
squares_world c = record { site = squares_site; shared = 3; active = λ z. bytes_eq z x; choice = λ z. Shared; choices = λ k z. c }

abbrev pub begin : Tape → List ℕ → List ℕ → Local
begin t vs bs = record { tape = t; values = vs; adjoints = bs }

abbrev squares_back : Choice → Played Local
squares_back c = play (back_all squares (squares_world c) (begin (tape_after (run_all squares squares_site squares_cells).log empty) (0 ∷ []) (0 ∷ []))) (2 ∷ 9 ∷ 25 ∷ 0 ∷ 1 ∷ 10 ∷ [])

squares_ops : (squares_back Shared).ops
    ≡ Load 4 ∷ Store 4 0 ∷ Store 1 3 ∷ Load 1 ∷ Load 4 ∷ Bump 4 3 ∷ Load 1 ∷ Load 4 ∷ Bump 4 3
    ∷ Load 5 ∷ Store 5 0 ∷ Store 2 5 ∷ Load 2 ∷ Load 5 ∷ Bump 5 50 ∷ Load 2 ∷ Load 5 ∷ Bump 5 50 ∷ []
unfolding exact_index
squares_ops = refl

squares_end : (squares_back Atomic).cells ≡ 2 ∷ 3 ∷ 5 ∷ 0 ∷ 6 ∷ 100 ∷ []
unfolding exact_index
squares_end = refl

-- a private scalar, a Reduction, an atomic increment, a power and a `max`:
--   d = x(i)**3
--   y = y + a*max(d, x(i))
abbrev pub private_d : Directive
private_d = record clauses { privates = d ∷ [] }

abbrev pub mixed_site : Site
mixed_site = opening_site (declared kind.Index n ∷ declared kind.Ring a ∷ declared kind.Ring y ∷ declared kind.Ring x ∷ declared kind.Index i ∷ declared kind.Ring d ∷ []) (scalar n ∷ scalar a ∷ scalar y ∷ array x 2 ∷ []) all_pushed

abbrev pub mixed : Statements
mixed = parallel private_d i (one 1) (name n)
    (statement (set 6 (to d) (power (at x (name i)) 3))
    (only (assignment 7 true (to y) (name y plus (name a times call Max (expression (name d) (expression (at x (name i)) no_expressions)))))))

abbrev pub mixed_cells : Cells
mixed_cells = number 2 ∷ word 7 ∷ word 100 ∷ word 2 ∷ word 18446744073709551613 ∷ None ∷ None ∷ []

abbrev pub mixed_choice : List ℕ → Choice
mixed_choice z = if bytes_eq z a then Reduction else Atomic

abbrev pub mixed_world : World
mixed_world = record { site = mixed_site; shared = 5; active = λ z. bytes_eq z a || (bytes_eq z y || (bytes_eq z x || bytes_eq z d)); choice = λ z. Shared; choices = λ k z. mixed_choice z }

abbrev mixed_back : Played Local
mixed_back = play (back_all mixed mixed_world (begin (tape_after (run_all mixed mixed_site mixed_cells).log empty) (0 ∷ 0 ∷ []) (0 ∷ 0 ∷ []))) (2 ∷ 7 ∷ 135 ∷ 2 ∷ 18446744073709551613 ∷ 0 ∷ 0 ∷ 1 ∷ 0 ∷ 0 ∷ [])

-- the forward run: 100 + 7*8 + 7*(-3)
mixed_value : (run_all mixed mixed_site mixed_cells).out ≡ Ok (number 2 ∷ word 7 ∷ word 135 ∷ word 2 ∷ word 18446744073709551613 ∷ number 2 ∷ word 18446744073709551589 ∷ [])
unfolding exact_index
mixed_value = refl

mixed_adjoints : map (adjoint_at (run_all mixed mixed_site) mixed_cells (0 ∷ 0 ∷ 1 ∷ [])) (1 ∷ 2 ∷ 3 ∷ 4 ∷ []) ≡ 5 ∷ 1 ∷ 84 ∷ 7 ∷ []
unfolding exact_index
mixed_adjoints = refl

mixed_end : mixed_back.cells ≡ 2 ∷ 7 ∷ 100 ∷ 2 ∷ 18446744073709551613 ∷ 0 ∷ 5 ∷ 1 ∷ 84 ∷ 7 ∷ []
unfolding exact_index
mixed_end = refl

-- do i = 1, n, collapsed with do j = 1, 2: y(i,j) = x(i)*x(j)
abbrev j : List ℕ
j = codes "j"

abbrev table : Shape
table = record { name = y; axes = record { lower = pos 1; extent = 2 } ∷ record { lower = pos 1; extent = 2 } ∷ [] }

abbrev two : Directive
two = record clauses { collapse = 2 }

abbrev products_site : Site
products_site = opening_site (declared kind.Index n ∷ declared kind.Ring x ∷ declared kind.Ring y ∷ declared kind.Index i ∷ declared kind.Index j ∷ []) (scalar n ∷ array x 2 ∷ table ∷ []) all_pushed

abbrev element : Designator
element = record { name = y; subscripts = expression (name i) (expression (name j) no_expressions) }

abbrev products : Statements
products = parallel two i (one 1) (name n) (only (loop 6 2 None j (one 1) (one 2) None (only (set 7 element (at x (name i) times at x (name j))))))

abbrev products_cells : Cells
products_cells = number 2 ∷ word 3 ∷ word 5 ∷ word 0 ∷ word 0 ∷ word 0 ∷ word 0 ∷ None ∷ None ∷ []

abbrev products_world : World
products_world = record { site = products_site; shared = 7; active = λ z. bytes_eq z x || bytes_eq z y; choice = λ z. Shared; choices = λ k z. Atomic }

abbrev products_back : Played Local
products_back =
    play (back_all products products_world (begin (tape_after (run_all products products_site products_cells).log empty) (0 ∷ 0 ∷ []) (0 ∷ 0 ∷ []))) (2 ∷ 3 ∷ 5 ∷ 9 ∷ 15 ∷ 15 ∷ 25 ∷ 0 ∷ 0 ∷ 0 ∷ 1 ∷ 10 ∷ 100 ∷ 1000 ∷ [])

products_adjoints : map (adjoint_at (run_all products products_site) products_cells (0 ∷ 0 ∷ 0 ∷ 1 ∷ 10 ∷ 100 ∷ 1000 ∷ [])) (1 ∷ 2 ∷ []) ≡ 556 ∷ 10330 ∷ []
unfolding exact_index
products_adjoints = refl

products_end : products_back.cells ≡ 2 ∷ 3 ∷ 5 ∷ 0 ∷ 0 ∷ 0 ∷ 0 ∷ 0 ∷ 556 ∷ 10330 ∷ 0 ∷ 0 ∷ 0 ∷ 0 ∷ []
unfolding exact_index
products_end = refl

-- ---- words that no run leaves

-- the high half of a word doesn't count
high_half : number_in 12884901887 ≡ negsuc 0
high_half = refl

-- a step of 0 makes no turns
no_turns : (t : Tape) → (turns_on (tape_word 0 (tape_word 5 (tape_word 1 t)))).count ≡ 0
no_turns t = refl

-- a word of a place below the iteration's own stays, as it does where there is no place
below : with_own_value mixed_world (Some 3) 9 (begin empty (1 ∷ 2 ∷ []) []) ≡ begin empty (1 ∷ 2 ∷ []) []
below = refl

own : with_own_value mixed_world (Some 6) 9 (begin empty (1 ∷ 2 ∷ []) []) ≡ begin empty (1 ∷ 9 ∷ []) []
own = refl

nowhere : with_own_value mixed_world None 9 (begin empty (1 ∷ 2 ∷ []) []) ≡ begin empty (1 ∷ 2 ∷ []) []
nowhere = refl
