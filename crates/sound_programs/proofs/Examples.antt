-- Small rows on loops' own names and choices.
use Rattle.std.specs.Prelude.{◌≡◌, ℕ, true, false, List, [], ◌∷◌, None, codes, refl}
use Rattle.fl_ast.specs.declared.directive.Directive.{Directive}
use Rattle.fl_ast.specs.Tree.{Statements, loop, statement}
use Rattle.fl_types.specs.declared.choice.Choice.TheVariants.{Shared, Atomic, Reduction}
use Rattle.fl_types.specs.declared.choice.Chosen.{Chosen}
use Rattle.store_core.specs.Scopes.{scopes_in}
use Rattle.meaning.proofs.Small.{one, name, at, into, ◌plus◌, ◌times◌, only, set, clauses, parallel}
use Rattle.loop_choices.specs.Choosing.{choice_in}

abbrev i : List ℕ
i = codes "i"

abbrev j : List ℕ
j = codes "j"

abbrev n : List ℕ
n = codes "n"

abbrev x : List ℕ
x = codes "x"

abbrev y : List ℕ
y = codes "y"

-- do i = 1, n
--   y(i) = x(i)*x(i)
--   parallel: do j = 1, n; x(j) = x(j)+y(j); with clauses d
abbrev around : Directive → Statements
around d =
    only (loop 3 1 None i (one 1) (name n) None
    (statement (set 4 (into y (name i)) (at x (name i) times at x (name i)))
    (parallel d j (one 1) (name n) (only (set 6 (into x (name j)) (at x (name j) plus at y (name j)))))))

own : scopes_in i (around clauses) ≡ true
own = refl

other : scopes_in x (around clauses) ≡ false
other = refl

-- the first choice for a loop and a name that is a Reduction or Shared, and Atomic where there is none
abbrev some : List Chosen
some = record { loop_number = 1; name = x; choice = Reduction } ∷ record { loop_number = 2; name = x; choice = Shared } ∷ []

collected : choice_in some 1 x ≡ Reduction
collected = refl

shared : choice_in some 2 x ≡ Shared
shared = refl

unlisted : choice_in some 2 y ≡ Atomic
unlisted = refl
