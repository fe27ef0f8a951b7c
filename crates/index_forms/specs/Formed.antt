-- The form of an index expression, by what is known of the scalars where it stands.
use Rattle.std.specs.Prelude.{ℕ, suc, Bool, if◌then◌else◌, pos, negsuc, List, [], ◌∷◌, ◌++◌, Option, Some, None}
use Rattle.fl_ast.specs.declared.kind.BinOp.{BinOp}
use Rattle.fl_ast.specs.declared.kind.BinOp.TheVariants.{Add, Sub, Mul, Div}
use Rattle.fl_ast.specs.Tree.{Expression, literal, get, minus, binary, power, call, Expressions, no_expressions, expression, Designator}
use Rattle.index_forms.specs.declared.form.Side.{Side}
use Rattle.index_forms.specs.declared.difference.Extent.TheVariants.{Narrow}
use Rattle.index_forms.specs.Form.{Atom, read, opaque, Form, form, no_terms, term, Forms, no_forms, and_form}
use Rattle.index_forms.specs.Sums.{if_fitting, plus_scaled}

-- the forms of scalars, None where a scalar has none
abbrev pub Known : Type 0
Known = List ℕ → Option Form

-- an access on a side: its number, what is known of the scalars where it stands, and which names are index arrays that the loop doesn't assign
pub record Viewed : Type 0 where
  pub side : Side
  pub access : ℕ
  pub known : Known
  pub fixed : List ℕ → Bool

abbrev pub zero_form : Form
zero_form = form (pos 0) no_terms

abbrev pub atom_form : Atom → Form
atom_form a = form (pos 0) (term a (pos 1) no_terms)

-- a form with the number of opaque nodes so far, and the nodes that Read and Opaque atoms stand for
pub record Formed : Type 0 where
  pub form : Form
  pub next : ℕ
  pub leaves : List (Atom × Expression)

pub record FormedAll : Type 0 where
  pub forms : Forms
  pub next : ℕ
  pub leaves : List (Atom × Expression)

abbrev pub opaque_node : Viewed → ℕ → Expression → List (Atom × Expression) → Formed
opaque_node c n e ls = record {
  form = atom_form (opaque c.side c.access (suc n));
  next = suc n;
  leaves = ls ++ (opaque c.side c.access (suc n), e) ∷ [];
}

abbrev pub node : Viewed → ℕ → Expression → List (Atom × Expression) → Option Form → Formed
node c n e ls None = opaque_node c n e ls
node c n e ls (Some f) = record { form = f; next = n; leaves = ls }

-- a form is kept where its numbers lie in -2^31 .. 2^31-1
abbrev pub if_narrow : Option Form → Option Form
if_narrow None = None
if_narrow (Some f) = if_fitting Narrow f

-- a node, opaque where it has no form or a number of its form is too large
abbrev pub keep : Viewed → ℕ → Expression → List (Atom × Expression) → Option Form → Formed
keep c n e ls o = node c n e ls (if_narrow o)

abbrev pub scaled_if : Form → Form → Option Form
scaled_if (form k no_terms) g = Some (plus_scaled k g zero_form)
scaled_if (form k (term a m ts)) g = None

abbrev pub or_else : Option Form → Option Form → Option Form
or_else None o = o
or_else (Some f) o = Some f

abbrev pub negative : Form → Form
negative f = plus_scaled (negsuc 0) f zero_form

-- sums, differences, and products with a constant form
abbrev pub linear : BinOp → Form → Form → Option Form
linear Add f g = Some (plus_scaled (pos 1) f g)
linear Sub f g = Some (plus_scaled (negsuc 0) g f)
linear Mul f g = or_else (scaled_if f g) (scaled_if g f)
linear Div f g = None

-- an element of an index array that the loop doesn't assign, by the forms of its subscripts
abbrev pub element_node : Viewed → ℕ → List ℕ → Expressions → FormedAll → Formed
element_node c n x ss r =
    if c.fixed x then record { form = atom_form (read x r.forms); next = r.next; leaves = r.leaves ++ (read x r.forms, get x ss) ∷ [] }
    else opaque_node c n (get x ss) []

-- opaque nodes are numbered from 1 in the order of evaluation
abbrev mutual
  pub formed : Viewed → ℕ → Expression → Formed
  formed c n (literal k kind) = keep c n (literal k kind) [] (Some (form (pos k) no_terms))
  formed c n (get x no_expressions) = keep c n (get x no_expressions) [] (c.known x)
  formed c n (get x (expression e es)) = element_node c n x (expression e es) (formed_all c n (expression e es))
  formed c n (minus a) = let f = formed c n a in keep c f.next (minus a) f.leaves (Some (negative f.form))
  formed c n (binary op a b) =
      let f = formed c n a in
      let g = formed c f.next b in
      keep c g.next (binary op a b) (f.leaves ++ g.leaves) (linear op f.form g.form)
  formed c n (power a k) = opaque_node c n (power a k) []
  formed c n (call g es) = opaque_node c n (call g es) []

  pub formed_all : Viewed → ℕ → Expressions → FormedAll
  formed_all c n no_expressions = record { forms = no_forms; next = n; leaves = [] }
  formed_all c n (expression e es) =
      let f = formed c n e in
      let r = formed_all c f.next es in
      record { forms = and_form f.form r.forms; next = r.next; leaves = f.leaves ++ r.leaves }

abbrev pub element_at : Viewed → ℕ → List ℕ → Expressions → Formed
element_at c n x ss = element_node c n x ss (formed_all c n ss)

-- of a scalar or an element
abbrev pub formed_at : Viewed → ℕ → Designator → Formed
formed_at c n p = formed c n (get p.name p.subscripts)

-- the forms of an access's subscripts
abbrev pub subscript_forms : Viewed → Expressions → Forms
subscript_forms c ss = (formed_all c 0 ss).forms
