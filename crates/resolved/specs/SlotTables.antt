-- The names of a run with their slots: shapes, kinds, the width of data, and the order of the declarations.
use Rattle.std.specs.Prelude.{◌≡◌, ℕ, ◌<◌, ◌^◌, Bool, false, if◌then◌else◌, List, [], map, length, Option, Some, None, slice_get, Result, Ok, Err}
use Rattle.ring_core.specs.declared.ring.Width.{Width}
use Rattle.fl_ast.specs.declared.kind.Kind.{Kind}
use Rattle.fl_ast.specs.declared.kind.Kind.TheVariants as kind
use Rattle.fl_ast.specs.declared.decl.Decl.{Decl}
use Rattle.fl_types.specs.Sharing.{is_ring_kind, is_ring_name}
use Rattle.store_core.specs.declared.layout.Shape.{Shape}
use Rattle.store_core.specs.declared.layout.LayoutError.{LayoutError}
use Rattle.store_core.specs.declared.layout.LayoutError.TheVariants.{TooManyPlaces, Memory}
use Rattle.store_core.specs.Keys.{keys_of, slot_of, with_scalars}
use Rattle.meaning.specs.Sites.{Site, data_width}

-- the shapes of all names by slot, their kinds, the width of data, and the declared names in their order
abbrev pub Names : Type 0
Names = List Shape × List Kind × Width × List (List ℕ)

abbrev pub kind_or : Option Kind → Kind
kind_or None = kind.Index
kind_or (Some k) = k

-- the kind of a slot's name
abbrev pub kind_at : List Kind → ℕ → Kind
kind_at kinds slot = kind_or (slice_get kinds slot)

abbrev pub is_ring_at : List Kind → Option ℕ → Bool
is_ring_at kinds None = false
is_ring_at kinds (Some slot) = is_ring_kind (kind_at kinds slot)

-- the name has a slot of the ring kind
abbrev pub is_ring_in : Names → List ℕ → Bool
is_ring_in names x = is_ring_at names.1 (slot_of names.0 x)

-- outside every parallel loop, the cells being those of the names
abbrev pub table_site : Names → Site
table_site names = record {
  keys = keys_of names.0;
  declared = names.3;
  ring = is_ring_in names;
  width = names.2;
  pushed = λ x. false;
  outer = [];
  accessed = λ x. false;
  pluses = λ x. false;
}

-- the kind that declarations give a name
abbrev pub named_kind : List Decl → List ℕ → Kind
named_kind decls x = if is_ring_name decls x then kind.Ring else kind.Index

abbrev pub kinds_of : List Decl → List Shape → List Kind
kinds_of decls shapes = map (λ (s : Shape). named_kind decls s.name) shapes

-- the names of a layout and declarations
abbrev pub names_of : List Shape → List Decl → Names
names_of shapes decls = (with_scalars shapes decls, kinds_of decls (with_scalars shapes decls), data_width decls, map (λ (d : Decl). d.name) decls)

-- the table, or that it has too many names
abbrev pub Tabulates : Result Names LayoutError → List Shape → List Decl → Type 0
Tabulates (Ok names) shapes decls = names ≡ names_of shapes decls
Tabulates (Err TooManyPlaces) shapes decls = 2 ^ 21 < length (keys_of (with_scalars shapes decls))
Tabulates (Err Memory) shapes decls = Unit {0}
