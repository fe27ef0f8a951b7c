-- The choices of small loops compute, from the loop on.
use Rattle.std.proofs.Common.{◌≡◌, ℕ, false, List, [], ◌∷◌, Option, Some, None, refl}
use Rattle.std.specs.Prelude.{codes}
use Rattle.fl_ast.specs.declared.kind.Kind.{Kind}
use Rattle.fl_ast.specs.declared.kind.Kind.TheVariants as kind
use Rattle.fl_ast.specs.declared.kind.Intent.TheVariants.{Unsaid}
use Rattle.fl_ast.specs.declared.kind.BinOp.TheVariants.{Add, Sub, Mul}
use Rattle.fl_ast.specs.declared.kind.RelOp.TheVariants.{Gt}
use Rattle.fl_ast.specs.declared.decl.Decl.{Decl}
use Rattle.fl_ast.specs.Tree.{Expression, literal, get, binary, no_expressions, expression, Designator, relation, Statement, assignment, branch, loop, Statements, no_statements, statement, no_arms, arm}
use Rattle.fl_types.specs.declared.choice.Choice.{Choice}
use Rattle.fl_types.specs.declared.choice.Choice.TheVariants.{Shared, Atomic}
use Rattle.fl_types.specs.Sharing.{has_name}
use Rattle.index_forms.specs.Loops.{HeadedLoop}
use Rattle.loop_pairs.specs.Known.{known_loop}
use Rattle.sharing_choice.specs.Choosing.{chosen}

abbrev i : List ℕ
i = codes "i"

abbrev j : List ℕ
j = codes "j"

abbrev n : List ℕ
n = codes "n"

abbrev k : List ℕ
k = codes "k"

abbrev b : List ℕ
b = codes "b"

abbrev c : List ℕ
c = codes "c"

abbrev d : List ℕ
d = codes "d"

abbrev x : List ℕ
x = codes "x"

abbrev y : List ℕ
y = codes "y"

abbrev w : List ℕ
w = codes "w"

abbrev z : List ℕ
z = codes "z"

abbrev declared : Kind → List ℕ → Decl
declared t v = record { line = 1; name = v; kind = t; bytes = 8; intent = Unsaid; dims = [] }

abbrev decls : List Decl
decls = declared kind.Index n ∷ declared kind.Index i ∷ declared kind.Index j ∷ declared kind.Index k ∷ declared kind.Index b ∷ declared kind.Index c ∷ declared kind.Index d
    ∷ declared kind.Ring x ∷ declared kind.Ring y ∷ declared kind.Ring w ∷ declared kind.Ring z ∷ []

abbrev named : List ℕ → Expression
named v = get v no_expressions

abbrev number : ℕ → Expression
number m = literal m kind.Index

abbrev at : List ℕ → Expression → Expression
at v e = get v (expression e no_expressions)

abbrev into : List ℕ → Expression → Designator
into v e = record { name = v; subscripts = expression e no_expressions }

abbrev only : Statement → Statements
only s = statement s no_statements

abbrev sets : Designator → Expression → Statement
sets p e = assignment 1 false p e

abbrev over : (privates : List (List ℕ)) → (collapse : ℕ) → (step : Option Expression) → Statements → HeadedLoop
over privates m step body = record {
  head = record { line = 1; var = i; first = number 1; last = named n; step = step };
  loop = record {
    line = 1;
    number = 1;
    outer = [];
    directive = record { line = 1; privates = privates; firsts = []; shareds = []; pluses = []; none = false; schedule = None; collapse = m };
    var = i;
    body = body;
  };
}

-- of a name in the loop, without a certificate, where x, y, w and z are active
abbrev choice : List ℕ → HeadedLoop → Choice
choice v l = (chosen (Some (known_loop decls (λ u. has_name u (x ∷ y ∷ w ∷ z ∷ [])) l) ∷ []) [] (record { loop_number = 1; name = v; choice = Atomic })).choice

-- do i = 1, n, 2: y(i) = x(i)*x(i+m)
abbrev strided : ℕ → HeadedLoop
strided m = over [] 0 (Some (number 2)) (only (sets (into y (named i)) (binary Mul (at x (named i)) (at x (binary Add (named i) (number m))))))

odd_neighbours : choice x (strided 1) ≡ Shared
odd_neighbours = refl

even_neighbours : choice x (strided 2) ≡ Atomic
even_neighbours = refl

-- y(i) = x(c(i))
gather : choice x (over [] 0 None (only (sets (into y (named i)) (at x (at c (named i)))))) ≡ Atomic
gather = refl

-- y(c(i)) = x(c(i))*x(c(i)): the run has shown that c has no number twice
scatter : choice x (over [] 0 None (only (sets (into y (at c (named i))) (binary Mul (at x (at c (named i))) (at x (at c (named i))))))) ≡ Shared
scatter = refl

-- y(d(c(i))) = x(c(i))
compose : choice x (over [] 0 None (only (sets (into y (at d (at c (named i)))) (at x (at c (named i)))))) ≡ Shared
compose = refl

-- y(2*c(i)) = x(c(i)): that needs a certificate
doubled : choice x (over [] 0 None (only (sets (into y (binary Mul (number 2) (at c (named i)))) (at x (at c (named i)))))) ≡ Atomic
doubled = refl

-- if (c(i) > 0) y(d(i)) = 1, and then w(i) = z(d(i)): the write may not have been reached
path : choice z (over [] 0 None (statement (branch 1 (arm (relation Gt (at c (named i)) (number 0)) (only (sets (into y (at d (named i))) (literal 1 kind.Ring))) no_arms) no_statements) (only (sets (into w (named i)) (at z (at d (named i))))))) ≡ Atomic
path = refl

-- k = c(i), y(k) = 1, k = b(i), w(i) = z(k): two values of k
version : choice z
    (over (k ∷ []) 0 None (statement (sets (record { name = k; subscripts = no_expressions }) (at c (named i))) (statement (sets (into y (named k)) (literal 1 kind.Ring)) (statement (sets (record { name = k; subscripts = no_expressions }) (at b (named i))) (only (sets (into w (named i)) (at z (named k))))))))
    ≡ Atomic
version = refl

-- do j = 1, m: y(i) = y(i) + x(4*(i-1)+j)
abbrev block : ℕ → HeadedLoop
block m = over [] 0 None (only (loop 1 2 None j (number 1) (number m) None (only (sets (into y (named i)) (binary Add (at y (named i)) (at x (binary Add (binary Mul (number 4) (binary Sub (named i) (number 1))) (named j))))))))

four : choice x (block 4) ≡ Shared
four = refl

five : choice x (block 5) ≡ Atomic
five = refl

-- the same in two collapsed loops: y(i,j) = x(4*(i-1)+j)
abbrev grid : ℕ → HeadedLoop
grid m = over [] 2 None (only (loop 1 2 None j (number 1) (number m) None (only (sets (record { name = y; subscripts = expression (named i) (expression (named j) no_expressions) }) (at x (binary Add (binary Mul (number 4) (binary Sub (named i) (number 1))) (named j)))))))

four_columns : choice x (grid 4) ≡ Shared
four_columns = refl

five_columns : choice x (grid 5) ≡ Atomic
five_columns = refl
