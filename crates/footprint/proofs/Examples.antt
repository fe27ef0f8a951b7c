-- What is known and read off, on small lists of touches.
use Rattle.std.specs.Prelude.{◌≡◌, [], ◌∷◌, Some, None, refl}
use Rattle.fl_types.specs.declared.access.AccessKind.TheVariants.{Read, Write, Update}
use Rattle.meaning.specs.Conflicts.{conflict}
use Rattle.touches.specs.Touching.{touch}
use Rattle.footprint.specs.Known.{nothing_known, with_touch, least_pair, pair}

read_beside_write : least_pair (with_touch Read 3 (with_touch Write 2 (with_touch Read 2 (with_touch Read 4 nothing_known)))) ≡ Some (pair 2 3)
read_beside_write = refl

the_same : conflict (touch 7 4 Read ∷ touch 7 2 Read ∷ touch 7 2 Write ∷ touch 7 3 Read ∷ []) ≡ Some (record { place = 7; first = 2; second = 3 })
the_same = refl

updates_alone : least_pair (with_touch Update 2 (with_touch Update 1 nothing_known)) ≡ None
updates_alone = refl

-- the reader that the least pair needs is the second of its kind
second_reader : least_pair (with_touch Update 1 (with_touch Read 5 (with_touch Read 1 nothing_known))) ≡ Some (pair 1 5)
second_reader = refl

one_iteration : least_pair (with_touch Write 3 (with_touch Update 3 (with_touch Read 3 nothing_known))) ≡ None
one_iteration = refl
