-- What is known of a loop's subscripts: facts, pairs, and which facts serve a pair.
use Rattle.std.specs.Prelude.{ℕ, suc, Bool, true, false, ◌&&◌, ◌||◌, if◌then◌else◌, nat_eq, bytes_eq, List, [], ◌∷◌, ◌++◌, length}
use Rattle.fl_types.specs.declared.access.Access.{Access}
use Rattle.fl_types.specs.declared.access.AccessKind.{AccessKind}
use Rattle.fl_types.specs.declared.access.AccessKind.TheVariants.{Read, Write, Update}
use Rattle.fl_types.specs.declared.access.PathStep.{PathStep}
use Rattle.fl_types.specs.declared.access.PathStep.TheVariants.{Arm, Test, Body}
use Rattle.index_forms.specs.Form.{Form, Forms}
use Rattle.index_forms.specs.Sums.{differences}

-- ---- paths

abbrev pub same_step : PathStep → PathStep → Bool
same_step (Arm n m) (Arm j k) = nat_eq n j && nat_eq m k
same_step (Test n m) (Test j k) = nat_eq n j && nat_eq m k
same_step (Body n) (Body j) = nat_eq n j
same_step s t = false

abbrev pub is_prefix : List PathStep → List PathStep → Bool
is_prefix [] q = true
is_prefix (s ∷ p) [] = false
is_prefix (s ∷ p) (t ∷ q) = same_step s t && is_prefix p q

-- a fact serves a pair of accesses where its two stand on the paths to theirs
abbrev pub serves : (first second f g : List PathStep) → Bool
serves first second f g = is_prefix first f && is_prefix second g

-- ---- facts: ordered pairs of accesses of one name of which at least one is a Write, with the differences of their subscripts

-- `first` and `second` are the accesses' numbers
pub record KnownFact : Type 0 where
  pub number : ℕ
  pub first : ℕ
  pub second : ℕ
  pub differences : List Form

abbrev pub is_write : AccessKind → Bool
is_write Write = true
is_write Read = false
is_write Update = false

abbrev pub is_fact : Access → Access → Bool
is_fact a b = bytes_eq a.place.name b.place.name && (is_write a.kind || is_write b.kind)

-- n being its number, f the first access's forms on side One, and g the second's on side Two
abbrev pub fact_of : ℕ → Access → (f : Forms) → Access → (g : Forms) → KnownFact
fact_of n a f b g = record { number = n; first = a.number; second = b.number; differences = differences f g }

-- these facts, and that of two accesses where it is one; facts are numbered from 1
abbrev pub and_fact : Access → (f : Forms) → Access → (g : Forms) → List KnownFact → List KnownFact
and_fact a f b g ks = if is_fact a b then ks ++ fact_of (suc (length ks)) a f b g ∷ [] else ks

abbrev pub with_facts_of : Access → (f : Forms) → List Access → List Forms → List KnownFact → List KnownFact
with_facts_of a f (b ∷ bs) (g ∷ gs) ks = with_facts_of a f bs gs (and_fact a f b g ks)
with_facts_of a f bs gs ks = ks

abbrev pub with_facts : List Access → List Forms → List Access → List Forms → List KnownFact → List KnownFact
with_facts (a ∷ as') (f ∷ fs) bs gs ks = with_facts as' fs bs gs (with_facts_of a f bs gs ks)
with_facts as' fs bs gs ks = ks

-- of a loop with these accesses and their forms on both sides: by the first access's number and then by the second's
abbrev pub facts : List Access → (ones twos : List Forms) → List KnownFact
facts as' fs gs = with_facts as' fs as' gs []

-- ---- pairs: two reads of a name in the right sides of assignments to active names, the first not behind the second

-- `first` and `second` are the accesses' numbers, `nest` the number of loops whose iterations the loop's iterations are
pub record KnownPair : Type 0 where
  pub loop_number : ℕ
  pub first : ℕ
  pub second : ℕ
  pub differences : List Form
  pub nest : ℕ

-- the pairs of one name in one loop
pub record Pairing : Type 0 where
  pub loop_number : ℕ
  pub nest : ℕ
  pub name : List ℕ

abbrev pub pairing : (loop_number nest : ℕ) → List ℕ → Pairing
pairing n k x = record { loop_number = n; nest = k; name = x }

abbrev pub is_read : AccessKind → Bool
is_read Read = true
is_read Write = false
is_read Update = false

-- `right` says that the access is in the right side of an assignment to an active name
abbrev pub is_paired : (name : List ℕ) → (right : Bool) → Access → Bool
is_paired x right a = right && (bytes_eq x a.place.name && is_read a.kind)

abbrev pub pair_of : Pairing → Access → (f : Forms) → Access → (g : Forms) → KnownPair
pair_of c a f b g = record { loop_number = c.loop_number; first = a.number; second = b.number; differences = differences f g; nest = c.nest }

abbrev pub and_pair : Pairing → Access → (f : Forms) → (right : Bool) → Access → (g : Forms) → List KnownPair → List KnownPair
and_pair c a f right b g ks = if is_paired c.name right b then ks ++ pair_of c a f b g ∷ [] else ks

abbrev pub with_pairs_of : Pairing → Access → (f : Forms) → List Bool → List Access → List Forms → List KnownPair → List KnownPair
with_pairs_of c a f (r ∷ rs) (b ∷ bs) (g ∷ gs) ks = with_pairs_of c a f rs bs gs (and_pair c a f r b g ks)
with_pairs_of c a f rs bs gs ks = ks

-- an access with those from it on, where it is one of these reads
abbrev pub with_pairs_at : Pairing → Access → (f : Forms) → (right : Bool) → List Bool → List Access → List Forms → List KnownPair → List KnownPair
with_pairs_at c a f right rs bs gs ks = if is_paired c.name right a then with_pairs_of c a f rs bs gs ks else ks

-- `rights` says it of each access
abbrev pub with_pairs : Pairing → List Bool → List Access → (ones twos : List Forms) → List KnownPair → List KnownPair
with_pairs c (r ∷ rs) (a ∷ as') (f ∷ fs) (g ∷ gs) ks =
    with_pairs c rs as' fs gs (with_pairs_at c a f r (r ∷ rs) (a ∷ as') (g ∷ gs) ks)
with_pairs c rs as' fs gs ks = ks

abbrev pub pairs : Pairing → (rights : List Bool) → List Access → (ones twos : List Forms) → List KnownPair
pairs c rs as' fs gs = with_pairs c rs as' fs gs []
