-- Where a term is put.
use Rattle.std.specs.Prelude.{◌≡◌, ◌<◌, ◌≤◌, ℤ, ◌+ℤ◌, List, [], ◌∷◌, length, take, drop}
use Rattle.index_forms.specs.declared.sum.TermPlace.{TermPlace}
use Rattle.index_forms.specs.declared.sum.TermPlace.TheVariants.{At, Before}
use Rattle.index_forms.specs.Form.{Atom, Terms, no_terms, term}
use Rattle.index_forms.specs.Seen.{terms_of}
use Rattle.index_forms.specs.Sums.{insert, kept}

-- these terms, and then those
abbrev pub joined : List (Atom × ℤ) → Terms → Terms
joined [] ts = ts
joined (p ∷ ps) ts = term p.0 p.1 (joined ps ts)

-- k more of the first
abbrev pub more_of : ℤ → List (Atom × ℤ) → Terms
more_of k [] = no_terms
more_of k (p ∷ ps) = kept p.0 (k +ℤ p.1) (terms_of ps)

abbrev pub PlaceIs : Atom → List (Atom × ℤ) → TermPlace → Type 0
PlaceIs a ps (At i) = (i < length ps) × ((k : ℤ) → insert a k (terms_of ps) ≡ joined (take i ps) (more_of k (drop i ps)))
PlaceIs a ps (Before i) = (i ≤ length ps) × ((k : ℤ) → insert a k (terms_of ps) ≡ joined (take i ps) (kept a k (terms_of (drop i ps))))
