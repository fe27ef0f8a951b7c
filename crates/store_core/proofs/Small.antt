-- A small layout, computed.
use Rattle.std.proofs.Common.{◌≡◌, List, [], ◌∷◌, codes, refl, pos, negsuc, Some, None, map}
use Rattle.store_core.specs.declared.layout.Shape.{Shape}
use Rattle.store_core.specs.Keys.{keys_of, place_of}
use Rattle.std.specs.Fmt.{digits}
use Rattle.store_core.specs.Texts.{text_of}

abbrev es : List Shape
es = record { name = codes "n"; axes = [] } ∷ record { name = codes "y"; axes = record { lower = pos 1; extent = 2 } ∷ record { lower = negsuc 0; extent = 2 } ∷ [] } ∷ []

texts : map text_of (keys_of es) ≡ codes "n" ∷ codes "y(1,-1)" ∷ codes "y(2,-1)" ∷ codes "y(1,0)" ∷ codes "y(2,0)" ∷ []
unfolding digits
texts = refl

place : place_of es (codes "y") (pos 2 ∷ pos 0 ∷ []) ≡ Some 4
place = refl

outside : place_of es (codes "y") (pos 3 ∷ pos 0 ∷ []) ≡ None
outside = refl
