-- A whole loop that meets the premises of the laws: do i = 1, 2: y(c(i) + n) = 3, where c holds 2 and 1, and n holds 1.
use Rattle.std.proofs.Common.{◌≡◌, ◌≢◌, ℕ, false, ℤ, pos, List, [], ◌∷◌, refl, sym, ◌∙◌, subst, arith, Option, Some, None, Ok}
use mathlib.Core.Logic.{inl, inr}
use Rattle.std.specs.Prelude.{codes}
use Rattle.fl_ast.specs.declared.kind.Kind.{Kind}
use Rattle.fl_ast.specs.declared.kind.Kind.TheVariants as kind
use Rattle.fl_ast.specs.declared.kind.Intent.TheVariants.{Unsaid}
use Rattle.fl_ast.specs.declared.kind.BinOp.TheVariants.{Add}
use Rattle.fl_ast.specs.declared.decl.Decl.{Decl}
use Rattle.fl_ast.specs.declared.directive.Directive.{Directive}
use Rattle.fl_ast.specs.Tree.{Expression, literal, get, binary, Expressions, no_expressions, expression, Designator, assignment, loop, Statements, no_statements, statement}
use Rattle.fl_types.specs.declared.access.AccessKind.TheVariants.{Write}
use Rattle.fl_types.specs.Accesses.{Occurrence}
use Rattle.ring_core.specs.Index.{exact_index}
use Rattle.store_core.specs.declared.layout.Shape.{Shape}
use Rattle.store_core.specs.Keys.{scalar}
use Rattle.meaning.specs.declared.value.Value.{Value}
use Rattle.meaning.specs.declared.value.Value.TheVariants.{Index, Ring}
use Rattle.meaning.specs.Sites.{Cells, Site, opening_site, in_iteration}
use Rattle.meaning.specs.Expressions.{values_of}
use Rattle.meaning.specs.Statements.{Heads, turns}
use Rattle.meaning.specs.Reached.{iteration_cells}
use Rattle.meaning.specs.Groups.{Group, assignment_group, iteration_of}
use Rattle.index_forms.specs.declared.form.Side.{Side}
use Rattle.index_forms.specs.declared.form.Side.TheVariants.{One, Two}
use Rattle.index_forms.specs.Form.{Atom}
use Rattle.index_forms.specs.Sums.{values}
use Rattle.index_forms.specs.Formed.{Viewed, subscript_forms, formed_all}
use Rattle.index_forms.specs.Loops.{HeadedLoop, headed_loop, known_at_start}
use Rattle.index_forms.specs.Walk.{setting_of, viewed}
use Rattle.index_law.specs.Worth.{HoldsKnown, AgreesOn, AreIndices}
use Rattle.index_law.specs.Meetings.{FreeRun, Evaluated}
use Rattle.index_law.specs.Respect.{Fits}
use Rattle.index_law.specs.Starts.{IsBegun}
use Rattle.index_law.specs.Valuations.{StandsForTwo}
use Rattle.index_law.proofs.Nodes.{sound_all}
use Rattle.index_law.proofs.Respects.{respected}
use Rattle.index_law.proofs.Starts.{known_at_start_holds}
use Rattle.index_law.proofs.Valuations.{valuations_stand}
use Rattle.index_law.proofs.Elements.{element_values}
use Rattle.index_law.proofs.Fixed.{fixed_at_start}

abbrev i : List ℕ
i = codes "i"

abbrev n : List ℕ
n = codes "n"

abbrev c : List ℕ
c = codes "c"

abbrev y : List ℕ
y = codes "y"

abbrev declared : Kind → List ℕ → Decl
declared k x = record { line = 1; name = x; kind = k; bytes = 8; intent = Unsaid; dims = [] }

abbrev decls : List Decl
decls = declared kind.Index n ∷ declared kind.Index c ∷ declared kind.Ring y ∷ declared kind.Index i ∷ []

abbrev array : List ℕ → ℕ → Shape
array x size = record { name = x; axes = record { lower = pos 1; extent = size } ∷ [] }

abbrev site : Site
site = opening_site decls (scalar n ∷ array c 2 ∷ array y 3 ∷ []) (λ x. false)

abbrev whole : ℕ → Option Value
whole z = Some (Index (pos z))

abbrev cells : Cells
cells = whole 1 ∷ whole 2 ∷ whole 1 ∷ None ∷ None ∷ None ∷ None ∷ []

abbrev directive : Directive
directive = record { line = 1; privates = []; firsts = []; shareds = []; pluses = []; none = false; schedule = None; collapse = 0 }

abbrev subscripts : Expressions
subscripts = expression (binary Add (get c (expression (get i no_expressions) no_expressions)) (get n no_expressions)) no_expressions

abbrev target : Designator
target = record { name = y; subscripts = subscripts }

abbrev body : Statements
body = statement (assignment 3 false target (literal 3 kind.Ring)) no_statements

abbrev number : ℕ → Expression
number z = literal z kind.Index

abbrev program : Statements
program = statement (loop 2 1 (Some directive) i (number 1) (number 2) None body) no_statements

abbrev scatter : HeadedLoop
scatter = record {
  head = record { line = 2; var = i; first = number 1; last = number 2; step = None };
  loop = record { line = 2; number = 1; outer = []; directive = directive; var = i; body = body };
}

abbrev heads : Heads
heads = (i, record { first = pos 1; last = pos 2; step = pos 1; count = 2 }) ∷ []

-- it is the program's loop, and begins
its_loop : headed_loop program 1 ≡ Some scatter
its_loop = refl

begun : IsBegun scatter site heads cells
unfolding exact_index
begun = record { sequential = refl; variable = refl; apart = tt; counted = refl }

-- ---- its run

abbrev three : Option Value
three = Some (Ring (record { value = 3; tangent = 0 }))

abbrev after_first : Cells
after_first = whole 1 ∷ whole 2 ∷ whole 1 ∷ None ∷ None ∷ three ∷ whole 1 ∷ []

abbrev after_both : Cells
after_both = whole 1 ∷ whole 2 ∷ whole 1 ∷ None ∷ three ∷ three ∷ whole 2 ∷ []

free : FreeRun site scatter.loop heads cells
unfolding exact_index
free = record { sequential = refl; end = after_both; ran = refl; free = refl }

abbrev inside : Site
inside = in_iteration site directive i body

abbrev begins : ℕ → Cells → Cells
begins k before = iteration_cells site directive i body heads k before

abbrev stored : ℕ → Cells → Group
stored k before = assignment_group 1 [] inside (begins k before) 3 false target (literal 3 kind.Ring)

abbrev write : Occurrence
write = record { line = 3; place = target; path = []; kind = Write }

first : Evaluated site scatter.loop heads cells 0
first = record { within = omega arith; before = cells; reached = refl; group = stored 0 cells; comes = inl refl; access = write; stands = inr (inr (inl refl)) }

second : Evaluated site scatter.loop heads cells 1
unfolding exact_index
second = record { within = omega arith; before = after_first; reached = refl; group = stored 1 after_first; comes = inl refl; access = write; stands = inr (inr (inl refl)) }

-- ---- a valuation that fits both

given : Atom → ℤ
given a = pos 0

v : Atom → ℤ
v = (valuations_stand scatter site heads cells 0 1 given).0

stands : StandsForTwo v given scatter site heads cells 0 1
unfolding v
stands = (valuations_stand scatter site heads cells 0 1 given).1

-- the third access of the loop
abbrev view : Side → Viewed
view side = viewed (setting_of decls scatter side) (known_at_start side scatter) 3

index_values : (k : ℕ) (z : ℤ) (before : Cells) → (values_of subscripts inside (begins k before)).out ≡ Ok (Index z ∷ []) → (vs : List Value) → (values_of subscripts inside (begins k before)).out ≡ Ok vs → AreIndices vs
index_values k z before e vs h = let w : Ok (Index z ∷ []) ≡ Ok vs = sym e ∙ h in let m : Index z ∷ [] ≡ vs = cc in subst AreIndices m tt

reached_second : (turns 1 (iteration_of site scatter.loop heads) cells).out ≡ Ok after_first
unfolding exact_index
reached_second = refl

known_first : HoldsKnown v (known_at_start One scatter) inside (begins 0 cells)
known_first = known_at_start_holds v One scatter site heads cells begun 0 cells refl stands.one

known_second : HoldsKnown v (known_at_start Two scatter) inside (begins 1 after_first)
known_second = known_at_start_holds v Two scatter site heads cells begun 1 after_first reached_second stands.two

nodes_first : AgreesOn v inside (begins 0 cells) (formed_all (view One) 0 subscripts).leaves
nodes_first =
    element_values v (view One) 0 subscripts inside cells (begins 0 cells) known_first stands.reads (fixed_at_start decls scatter site heads cells begun 0 cells refl)
    ((λ vs h. let m : Index (pos 1) ∷ [] ≡ vs = cc in subst AreIndices m tt), tt)

nodes_second : AgreesOn v inside (begins 1 after_first) (formed_all (view Two) 0 subscripts).leaves
nodes_second =
    element_values v (view Two) 0 subscripts inside cells (begins 1 after_first) known_second stands.reads (fixed_at_start decls scatter site heads cells begun 1 after_first reached_second)
    ((λ vs h. let m : Index (pos 2) ∷ [] ≡ vs = cc in subst AreIndices m tt), tt)

third_place : (values_of subscripts inside (begins 0 cells)).out ≡ Ok (Index (pos 3) ∷ [])
unfolding exact_index
third_place = refl

second_place : (values_of subscripts inside (begins 1 after_first)).out ≡ Ok (Index (pos 2) ∷ [])
unfolding exact_index
second_place = refl

fits_first : Fits v (view One) site scatter.loop heads cells 0 first
unfolding first
fits_first = record { scalars = known_first; nodes = nodes_first; indices = index_values 0 (pos 3) cells third_place }

fits_second : Fits v (view Two) site scatter.loop heads cells 1 second
unfolding second
fits_second = record { scalars = known_second; nodes = nodes_second; indices = index_values 1 (pos 2) after_first second_place }

-- the forms of both are worth the subscripts: 3 in the first iteration and 2 in the second
worth_first : values v (subscript_forms (view One) subscripts) ≡ pos 3 ∷ []
worth_first = sound_all v (view One) 0 subscripts inside (begins 0 cells) known_first nodes_first (Index (pos 3) ∷ []) third_place tt

worth_second : values v (subscript_forms (view Two) subscripts) ≡ pos 2 ∷ []
worth_second = sound_all v (view Two) 0 subscripts inside (begins 1 after_first) known_second nodes_second (Index (pos 2) ∷ []) second_place tt

-- and the valuation respects the fact
they_differ : values v (subscript_forms (view One) subscripts) ≢ values v (subscript_forms (view Two) subscripts)
unfolding first second
they_differ = respected site scatter.loop heads cells free 0 1 (λ e. cc) first second (inl refl) refl v (view One) (view Two) fits_first fits_second
