-- The forms of small loops compute.
use Rattle.std.proofs.Common.{◌≡◌, ℕ, ℤ, pos, negsuc, false, List, [], ◌∷◌, Some, None, refl}
use Rattle.std.specs.Prelude.{codes}
use Rattle.fl_ast.specs.declared.kind.Kind.{Kind}
use Rattle.fl_ast.specs.declared.kind.Kind.TheVariants as kind
use Rattle.fl_ast.specs.declared.kind.Intent.TheVariants.{Unsaid}
use Rattle.fl_ast.specs.declared.kind.BinOp.TheVariants.{Add, Sub, Mul}
use Rattle.fl_ast.specs.declared.kind.RelOp.TheVariants.{Gt}
use Rattle.fl_ast.specs.declared.decl.Decl.{Decl}
use Rattle.fl_ast.specs.declared.directive.Directive.{Directive}
use Rattle.fl_ast.specs.Tree.{Expression, literal, get, minus, binary, no_expressions, expression, Designator, relation, Statement, assignment, branch, loop, Statements, no_statements, statement, no_arms, arm}
use Rattle.index_forms.specs.declared.form.Side.TheVariants.{One, Two}
use Rattle.index_forms.specs.Form.{Atom, start, iter, inner, inv, version, read, opaque, Form, form, no_terms, term, Forms, no_forms, and_form}
use Rattle.index_forms.specs.Loops.{HeadedLoop}
use Rattle.index_forms.specs.Walk.{loop_forms}

-- ---- short trees
abbrev named : List ℕ → Expression
named x = get x no_expressions

abbrev at : List ℕ → Expression → Expression
at x e = get x (expression e no_expressions)

abbrev into : List ℕ → Expression → Designator
into x e = record { name = x; subscripts = expression e no_expressions }

abbrev number : ℕ → Expression
number n = literal n kind.Index

abbrev one_statement : Statement → Statements
one_statement s = statement s no_statements

abbrev sets : Designator → Expression → Statement
sets p e = assignment 1 false p e

abbrev scalar : List ℕ → Designator
scalar x = record { name = x; subscripts = no_expressions }

abbrev declared : Kind → List ℕ → Decl
declared k x = record { line = 1; name = x; kind = k; bytes = 8; intent = Unsaid; dims = [] }

abbrev clauses : List (List ℕ) → Directive
clauses privates = record { line = 1; privates = privates; firsts = []; shareds = []; pluses = []; none = false; schedule = None; collapse = 0 }

abbrev i : List ℕ
i = codes "i"

abbrev n : List ℕ
n = codes "n"

abbrev k : List ℕ
k = codes "k"

abbrev b : List ℕ
b = codes "b"

abbrev c : List ℕ
c = codes "c"

abbrev x : List ℕ
x = codes "x"

abbrev y : List ℕ
y = codes "y"

abbrev decls : List Decl
decls = declared kind.Index n ∷ declared kind.Index i ∷ declared kind.Index k ∷ declared kind.Index b ∷ declared kind.Index c ∷ declared kind.Ring x ∷ declared kind.Ring y ∷ []

abbrev over : List (List ℕ) → Expression → Expression → Statements → HeadedLoop
over privates first step body = record {
  head = record { line = 1; var = i; first = first; last = named n; step = Some step };
  loop = record { line = 1; number = 1; outer = []; directive = clauses privates; var = i; body = body };
}

abbrev linear_form : ℤ → Atom → ℤ → Form
linear_form d a m = form d (term a m no_terms)

abbrev just : Form → Forms
just f = and_form f no_forms

-- do i = 1, n, 2: y(i) = x(i)*x(i+1)
stride : loop_forms decls (over [] (number 1) (number 2) (one_statement (sets (into y (named i)) (binary Mul (at x (named i)) (at x (binary Add (named i) (number 1))))))) One
    ≡ just (linear_form (pos 1) (iter One) (pos 2)) ∷ just (linear_form (pos 2) (iter One) (pos 2)) ∷ just (linear_form (pos 1) (iter One) (pos 2)) ∷ []
stride = refl

-- do i = n, 1, -2: y(i) = x(2*i-k); a step with a sign gives the variable itself
backward : loop_forms decls (over [] (named n) (minus (number 2)) (one_statement (sets (into y (named i)) (at x (binary Sub (binary Mul (number 2) (named i)) (named k)))))) Two
    ≡ no_forms ∷ just (form (pos 0) (term (iter Two) (pos 2) (term (inv k) (negsuc 0) no_terms))) ∷ just (linear_form (pos 0) (iter Two) (pos 1)) ∷ []
backward = refl

-- k = c(i); y(k) = 1; k = b(i); y(k) = 1
two_versions : loop_forms decls (over (k ∷ []) (number 1) (number 1) (statement (sets (scalar k) (at c (named i))) (statement (sets (into y (named k)) (literal 1 kind.Ring)) (statement (sets (scalar k) (at b (named i))) (one_statement (sets (into y (named k)) (literal 1 kind.Ring))))))) One
    ≡ just (linear_form (pos 1) (iter One) (pos 1)) ∷ just (linear_form (pos 0) (version One 1 k) (pos 1)) ∷ just (linear_form (pos 1) (iter One) (pos 1)) ∷ just (linear_form (pos 0) (version One 3 k) (pos 1)) ∷ []
two_versions = refl

-- y(c(b(i))) = 1: an element inside an element
nested_elements : loop_forms decls (over [] (named n) (number 1) (one_statement (sets (into y (at c (at b (named i)))) (literal 1 kind.Ring)))) One
    ≡ just (form (pos 0) (term start (pos 1) (term (iter One) (pos 1) no_terms)))
    ∷ just (linear_form (pos 0) (read b (just (form (pos 0) (term start (pos 1) (term (iter One) (pos 1) no_terms))))) (pos 1))
    ∷ just (linear_form (pos 0) (read c (just (linear_form (pos 0) (read b (just (form (pos 0) (term start (pos 1) (term (iter One) (pos 1) no_terms))))) (pos 1)))) (pos 1))
    ∷ []
nested_elements = refl

-- y(2000000000*i + i*i) = 1: a number that leaves its range, and what has no form, are numbered
large : loop_forms decls (over [] (number 1) (number 2) (one_statement (sets (into y (binary Add (binary Mul (number 2000000000) (named i)) (binary Mul (named i) (named i)))) (literal 1 kind.Ring)))) One
    ≡ just (form (pos 0) (term (opaque One 1 1) (pos 1) (term (opaque One 1 2) (pos 1) no_terms))) ∷ []
large = refl

-- k = 1; do j = 1, 2: y(k) = 1; k = 2
around : loop_forms decls (over (k ∷ []) (number 1) (number 1) (statement (sets (scalar k) (number 1)) (one_statement (loop 1 2 None n (number 1) (number 2) None (statement (sets (into y (binary Add (named k) (named n))) (literal 1 kind.Ring)) (one_statement (sets (scalar k) (number 2)))))))) One
    ≡ just (form (pos 0) (term (inner One 2) (pos 1) (term (opaque One 1 1) (pos 1) no_terms))) ∷ []
around = refl

-- k = 1; if (k > 0) then: k = 2; else if (x(k) > 0) then: y(k) = 1; end if: nothing is known of k behind the first arm
behind_an_arm : loop_forms decls (over (k ∷ []) (number 1) (number 1) (statement (sets (scalar k) (number 1))
    (one_statement (branch 1 (arm (relation Gt (named k) (number 0)) (one_statement (sets (scalar k) (number 2))) (arm (relation Gt (at c (named k)) (number 0)) (one_statement (sets (into y (named k)) (literal 1 kind.Ring))) no_arms)) no_statements)))) One
    ≡ just (linear_form (pos 0) (opaque One 1 1) (pos 1)) ∷ just (linear_form (pos 0) (opaque One 2 1) (pos 1)) ∷ []
behind_an_arm = refl
