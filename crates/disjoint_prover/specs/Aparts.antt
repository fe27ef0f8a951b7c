-- Two elements of an index array.
use Rattle.std.specs.Prelude.{ℕ, Bool, ℤ, pos, List, Option, None}
use Rattle.fl_types.specs.declared.access.Access.{Access}
use Rattle.index_forms.specs.Form.{Atom, read, Forms}
use Rattle.index_forms.specs.Listed.{forms_seen}
use Rattle.certificate_rules.specs.Surveys.{numbered}
use Rattle.certificate_rules.specs.Tests.{element_of}
use Rattle.certificate_rules.specs.Plain.{Elements, by_signs}
use Rattle.disjoint_prover.specs.declared.elements.Apart.{Apart}

abbrev pub apart_told : Apart → Elements
apart_told a = record { name = a.name.now; ones = forms_seen a.ones.now; twos = forms_seen a.twos.now }

-- the element that the access with a number reads
abbrev pub read_by : (fixed : List ℕ → Bool) → List Access → (side : List Forms) → ℕ → Option (List ℕ × Forms)
read_by fixed as' side n = element_of fixed (numbered as' n) (numbered side n)

abbrev pub second_by : List ℕ → Forms → ℤ → Atom → Option Elements
second_by x s k (read y t) = by_signs x s t k (pos 0)
second_by x s k a = None

-- of a multiple of one atom before one of another: their two elements, where they have some
abbrev pub apart_by : Atom → ℤ → Atom → Option Elements
apart_by (read x s) k b = second_by x s k b
apart_by a k b = None
