-- The transposed derivative, by unit directions.
use Rattle.std.specs.Prelude.{ℕ, zero, suc, List, [], ◌∷◌, Option, Some, None, Result, Ok, Err}
use Rattle.ring_core.specs.Ring.{ring_add, ring_mul}
use Rattle.meaning.specs.declared.value.Value.{Value}
use Rattle.meaning.specs.declared.value.Value.TheVariants.{Index, Ring}
use Rattle.meaning.specs.declared.value.TrapAt.{TrapAt}
use Rattle.meaning.specs.Sites.{Cells, with_tangent}
use Rattle.meaning.specs.Statements.{Run}

-- the cells in a direction, 0 where it has no word
abbrev pub cells_along : List ℕ → Cells → Cells
cells_along ts [] = []
cells_along [] (c ∷ cs) = with_tangent 0 c ∷ cells_along [] cs
cells_along (t ∷ ts) (c ∷ cs) = with_tangent t c ∷ cells_along ts cs

-- the direction with 1 at place j and 0 elsewhere
abbrev pub unit : ℕ → List ℕ
unit zero = 1 ∷ []
unit (suc j) = 0 ∷ unit j

abbrev pub tangent_of : Option Value → ℕ
tangent_of None = 0
tangent_of (Some (Index z)) = 0
tangent_of (Some (Ring d)) = d.tangent

-- the ring sum of the words times the tangents, by place
abbrev pub pairing_of : List ℕ → Cells → ℕ
pairing_of [] cells = 0
pairing_of (w ∷ ws) [] = 0
pairing_of (w ∷ ws) (c ∷ cs) = ring_add (ring_mul w (tangent_of c)) (pairing_of ws cs)

abbrev pub pairing_after : List ℕ → Result Cells TrapAt → ℕ
pairing_after seed (Ok cells) = pairing_of seed cells
pairing_after seed (Err t) = 0

-- the adjoint at place j: the seed, which is 0 outside the names that it is given for, times the tangents of the unit direction
abbrev pub adjoint_at : Run → Cells → List ℕ → ℕ → ℕ
adjoint_at run cells seed j = pairing_after seed (run (cells_along (unit j) cells)).out
