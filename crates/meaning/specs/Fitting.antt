-- Cells and trees that fit a site: the one premise of laws that would else lean on what is answered by default.
use Rattle.std.specs.Prelude.{◌≡◌, ℕ, ◌<◌, ◌^◌, Bool, true, not, ◌&&◌, ◌||◌, if◌then◌else◌, nat_eq, bytes_eq, List, [], ◌∷◌, length, Option, Some, None, is_some}
use Rattle.ring_core.specs.Index.{IsIndex}
use Rattle.fl_ast.specs.declared.kind.Kind.{Kind}
use Rattle.fl_ast.specs.declared.kind.Kind.TheVariants as kind
use Rattle.fl_ast.specs.Tree.{Statements}
use Rattle.fl_types.specs.Sharing.{has_name}
use Rattle.fl_types.specs.Kinds.{Names, are_well_kinded_statements}
use Rattle.meaning.specs.declared.value.Value.{Value}
use Rattle.meaning.specs.declared.value.Value.TheVariants.{Index, Ring}
use Rattle.meaning.specs.Sites.{Key, Cells, Site, place_of, kind_of}

-- ---- trees

-- each key of the name has n subscripts
abbrev pub keys_have_rank : List Key → List ℕ → ℕ → Bool
keys_have_rank [] x n = true
keys_have_rank (k ∷ ks) x n = (if bytes_eq x k.0 then nat_eq (length k.1) n else true) && keys_have_rank ks x n

-- a declared name stands with as many subscripts as its keys have, and without subscripts where it has a place; an array without elements has no keys
abbrev pub names_at : Site → Names
names_at site = record {
  ring = site.ring;
  has_rank = λ x n. has_name x site.declared && (keys_have_rank site.keys x n && (not (nat_eq n 0) || is_some (place_of site x [])));
}

-- the tree's part
abbrev pub IsWellKinded : Site → Statements → Type 0
IsWellKinded site body = are_well_kinded_statements (names_at site) body ≡ true

-- ---- cells

-- a ring value's word is one, an index value is in its range
abbrev pub HasKind : Kind → Value → Type 0
HasKind kind.Ring (Ring d) = d.value < 2 ^ 64
HasKind kind.Index (Index z) = IsIndex z
HasKind kind.Ring (Index z) = ⊥
HasKind kind.Index (Ring d) = ⊥

-- a cell that is set holds a value of its name's kind
abbrev pub CellFits : Site → Key → Option Value → Type 0
CellFits site k None = Unit {0}
CellFits site k (Some v) = HasKind (kind_of site k.0) v

-- as many cells as keys, each of which fits
abbrev pub CellsFit : Site → List Key → Cells → Type 0
CellsFit site [] [] = Unit {0}
CellsFit site [] (c ∷ cs) = ⊥
CellsFit site (k ∷ ks) [] = ⊥
CellsFit site (k ∷ ks) (c ∷ cs) = CellFits site k c × CellsFit site ks cs

-- the cells' part
abbrev pub Fits : Site → Cells → Type 0
Fits site cells = CellsFit site site.keys cells
