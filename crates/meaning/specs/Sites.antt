-- Cells by their place, and where a run stands.
use Rattle.std.specs.Prelude.{ℕ, ℤ, Bool, false, if◌then◌else◌, nat_eq, List, [], ◌∷◌, map, Option, Some, None}
use Rattle.std.specs.Int.{w64, cast_unsigned}
use Rattle.ring_core.specs.declared.ring.Width.{Width}
use Rattle.ring_core.specs.declared.ring.Width.TheVariants.{Bits8, Bits16, Bits64}
use Rattle.fl_ast.specs.declared.kind.Kind.{Kind}
use Rattle.fl_ast.specs.declared.kind.Kind.TheVariants as kind
use Rattle.fl_ast.specs.declared.decl.Decl.{Decl}
use Rattle.fl_ast.specs.declared.directive.Directive.{Directive}
use Rattle.fl_ast.specs.Tree.{Statements}
use Rattle.fl_types.specs.Sharing.{is_ring_kind, is_ring_name, sharing_in, makes_accesses, is_plus}
use Rattle.store_core.specs.declared.layout.Shape.{Shape}
use Rattle.store_core.specs.Keys.{keys_of, same_key, first_at, with_scalars}
use Rattle.meaning.specs.declared.value.Value.{Value}
use Rattle.meaning.specs.declared.value.Value.TheVariants.{Index, Ring}

-- a name with subscripts
abbrev pub Key : Type 0
Key = List ℕ × List ℤ

-- values by place, None being unset
abbrev pub Cells : Type 0
Cells = List (Option Value)

-- a cell with another tangent, where it is of the ring kind
abbrev pub with_tangent : ℕ → Option Value → Option Value
with_tangent t None = None
with_tangent t (Some (Index z)) = Some (Index z)
with_tangent t (Some (Ring d)) = Some (Ring (record { value = d.value; tangent = t }))

abbrev pub width_of : ℕ → Width
width_of bytes = if nat_eq bytes 1 then Bits8 else if nat_eq bytes 2 then Bits16 else Bits64

-- the width of data, by the first name of the ring kind
abbrev pub data_width : List Decl → Width
data_width [] = Bits64
data_width (d ∷ ds) = if is_ring_kind d.kind then width_of d.bytes else data_width ds

-- where a run stands: the keys of all cells, the declared names, those of the ring kind, the width of data, and those names whose old values are pushed;
-- the variables of the loops around, which names make touches and which of these are reductions
pub record Site : Type 0 where
  pub keys : List Key
  pub declared : List (List ℕ)
  pub ring : List ℕ → Bool
  pub width : Width
  pub pushed : List ℕ → Bool
  pub outer : List (List ℕ)
  pub accessed : List ℕ → Bool
  pub pluses : List ℕ → Bool

-- outside every loop of a program with these declarations and this layout: further names have cells after those of the layout,
-- as scalars, which private ones and loop variables are
abbrev pub opening_site : List Decl → List Shape → (List ℕ → Bool) → Site
opening_site decls shapes pushed = record {
  keys = keys_of (with_scalars shapes decls);
  declared = map (λ (d : Decl). d.name) decls;
  ring = is_ring_name decls;
  width = data_width decls;
  pushed = pushed;
  outer = [];
  accessed = λ x. false;
  pluses = λ x. false;
}

-- in a sequential loop
abbrev pub in_turn : Site → List ℕ → Site
in_turn site var = record site { outer = var ∷ site.outer }

-- in an iteration of a parallel loop
abbrev pub in_iteration : Site → Directive → List ℕ → Statements → Site
in_iteration site directive var body = record site {
  outer = var ∷ site.outer;
  accessed = makes_accesses site.outer var directive body;
  pluses = λ x. is_plus (sharing_in var directive body x);
}

abbrev pub place_of : Site → List ℕ → List ℤ → Option ℕ
place_of site x subscripts = first_at (same_key (x, subscripts)) site.keys

abbrev pub kind_of : Site → List ℕ → Kind
kind_of site x = if site.ring x then kind.Ring else kind.Index

-- the word of a cell on the tape, 0 where it is unset
abbrev pub word_of : Option Value → ℕ
word_of None = 0
word_of (Some (Index z)) = cast_unsigned w64 z
word_of (Some (Ring d)) = d.value
