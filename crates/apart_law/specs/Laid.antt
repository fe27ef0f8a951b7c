-- Spots one behind the other, as the accesses and their forms stand.
use Rattle.std.specs.Prelude.{◌≡◌, ℕ, suc, ◌+◌, false, List, [], ◌∷◌, map, length}
use Rattle.fl_ast.specs.Tree.{Designator}
use Rattle.fl_types.specs.Accesses.{Scope, Occurrence}
use Rattle.index_forms.specs.Form.{Forms}
use Rattle.index_forms.specs.Formed.{Known, subscript_forms}
use Rattle.index_forms.specs.Walk.{Setting, viewed}
use Rattle.apart_law.specs.Spots.{Spot}

abbrev pub places : List Occurrence → List Designator
places os = map (λ (o : Occurrence). o.place) os

abbrev pub accesses_at : Spot → List Occurrence
accesses_at x = x.accesses

-- the forms of accesses that are evaluated together, the first being number a + 1
abbrev pub forms_at : Setting → Known → ℕ → List Designator → List Forms
forms_at c k a [] = []
forms_at c k a (p ∷ ps) = subscript_forms (viewed c k (suc a)) p.subscripts ∷ forms_at c k (suc a) ps

abbrev pub spot_forms : Setting → Spot → List Forms
spot_forms c x = forms_at c x.known x.before (places x.accesses)

-- each begins where the ones before it end
abbrev pub AreLaid : ℕ → List Spot → Type 0
AreLaid a [] = Unit {0}
AreLaid a (x ∷ xs) = (x.before ≡ a) × AreLaid (a + length x.accesses) xs

-- which names are reductions plays no part
abbrev pub plain_scope : Scope → Scope
plain_scope scope = record { accessed = scope.accessed; pluses = λ x. false; ring = scope.ring }

abbrev pub plainly : Setting → Setting
plainly c = record { side = c.side; scope = plain_scope c.scope; fixed = c.fixed }
