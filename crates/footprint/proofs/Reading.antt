-- The least pair of iterations that clash at a place is read off what is known of the place.
use Rattle.std.specs.Prelude.{◌≡◌, ℕ, ◌<◌, ◌⊎◌, true, List, Contains, refl}
use Rattle.std.proofs.Common.{inl, inr}
use Rattle.fl_types.specs.declared.access.AccessKind.{AccessKind}
use Rattle.fl_types.specs.declared.access.AccessKind.TheVariants.{Read, Write, Update}
use Rattle.meaning.specs.Logs.{Touch}
use Rattle.meaning.specs.Conflicts.{clashes, Clash, IsClash}
use Rattle.touches.specs.Touching.{touch}
use Rattle.footprint.specs.Known.{Known, IsKnown, within, crossing, least_pair}
use Rattle.footprint.proofs.Pairs.{LeastPair, Both, Across, change, lesser_is, within_is, crossing_is}

abbrev pub clash : ℕ → ℕ → ℕ → Clash
clash p i j = record { place = p; first = i; second = j }

abbrev Touched : List Touch → ℕ → AccessKind → ℕ → Type 0
Touched ts p kind i = Contains ts (touch p i kind)

abbrev Clashing : List Touch → ℕ → ℕ → ℕ → Type 0
Clashing ts p i j =
    Both (Touched ts p Write) i j
    ⊎ (Across (Touched ts p Write) (Touched ts p Read) i j
    ⊎ (Across (Touched ts p Write) (Touched ts p Update) i j ⊎ Across (Touched ts p Update) (Touched ts p Read) i j))

made : (ts : List Touch) (p i j : ℕ) (one other : AccessKind) → i < j → clashes one other ≡ true → Touched ts p one i → Touched ts p other j → IsClash ts (clash p i j)
made ts p i j one other h k a b = record { one = one; other = other; has_one = a; has_other = b; in_order = h; kinds = k }

is_clash : (ts : List Touch) (p i j : ℕ) → Clashing ts p i j → IsClash ts (clash p i j)
is_clash ts p i j (inl (h, x)) = made ts p i j Write Write h refl x.0 x.1
is_clash ts p i j (inr (inl (h, inl x))) = made ts p i j Write Read h refl x.0 x.1
is_clash ts p i j (inr (inl (h, inr x))) = made ts p i j Read Write h refl x.0 x.1
is_clash ts p i j (inr (inr (inl (h, inl x)))) = made ts p i j Write Update h refl x.0 x.1
is_clash ts p i j (inr (inr (inl (h, inr x)))) = made ts p i j Update Write h refl x.0 x.1
is_clash ts p i j (inr (inr (inr (h, inl x)))) = made ts p i j Update Read h refl x.0 x.1
is_clash ts p i j (inr (inr (inr (h, inr x)))) = made ts p i j Read Update h refl x.0 x.1

clashing : (ts : List Touch) (p i j : ℕ) → IsClash ts (clash p i j) → Clashing ts p i j
clashing ts p i j c = by_kinds c.one c.other c.kinds c.has_one c.has_other
  where
    by_kinds : (one other : AccessKind) → clashes one other ≡ true → Touched ts p one i → Touched ts p other j → Clashing ts p i j
    by_kinds Write Write k a b = inl (c.in_order, (a, b))
    by_kinds Write Read k a b = inr (inl (c.in_order, inl (a, b)))
    by_kinds Read Write k a b = inr (inl (c.in_order, inr (a, b)))
    by_kinds Write Update k a b = inr (inr (inl (c.in_order, inl (a, b))))
    by_kinds Update Write k a b = inr (inr (inl (c.in_order, inr (a, b))))
    by_kinds Update Read k a b = inr (inr (inr (c.in_order, inl (a, b))))
    by_kinds Read Update k a b = inr (inr (inr (c.in_order, inr (a, b))))
    by_kinds Update Update k a b = absurd (cc)
    by_kinds Read Read k a b = absurd (cc)

pub read_off : (ts : List Touch) (p : ℕ) (k : Known) → IsKnown ts p k → LeastPair (λ i j. IsClash ts (clash p i j)) (least_pair k)
read_off ts p k f =
    let W = Touched ts p Write in
    let R = Touched ts p Read in
    let U = Touched ts p Update in
    change _ _ (is_clash ts p) (clashing ts p) (least_pair k)
    (lesser_is (Both W) _ (within k.writes) _ (within_is W k.writes f.writes)
    (lesser_is (Across W R) _ (crossing k.writes k.reads) _ (crossing_is W R k.writes k.reads f.writes f.reads)
    (lesser_is (Across W U) (Across U R) (crossing k.writes k.updates) (crossing k.updates k.reads)
    (crossing_is W U k.writes k.updates f.writes f.updates) (crossing_is U R k.updates k.reads f.updates f.reads))))
