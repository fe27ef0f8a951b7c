-- What is known of the subscripts in a parallel loop, together.
use Rattle.std.specs.Prelude.{◌≡◌, ℕ, zero, suc, Bool, false, if◌then◌else◌, nat_eq, bytes_eq, IsTrue, List, [], ◌∷◌, length, Option, Some, None}
use Rattle.fl_types.specs.declared.access.Access.{Access}
use Rattle.index_forms.specs.Form.{Forms, no_forms, and_form}
use Rattle.index_forms.specs.Sums.{differences}
use Rattle.index_knowledge.specs.Knowledge.{KnownFact, KnownPair, serves, facts}
use Rattle.index_ranges.specs.Ranges.{KnownRange}

-- `ones` and `twos` are the forms of the accesses' subscripts on side One and on side Two, `fixed` says which names are index arrays that
-- the loop doesn't assign, and `second` is the greatest number of an iteration of the inner one of two collapsed loops, where it is known
pub record Survey : Type 0 where
  pub accesses : List Access
  pub ones : List Forms
  pub twos : List Forms
  pub fixed : List ℕ → Bool
  pub facts : List KnownFact
  pub ranges : List KnownRange
  pub second : Option ℕ

-- the item with a number, from 1
abbrev pub numbered : {A : Type 0} → List A → ℕ → Option A
numbered xs zero = None
numbered [] (suc n) = None
numbered (x ∷ xs) (suc zero) = Some x
numbered (x ∷ xs) (suc (suc n)) = numbered xs (suc n)

abbrev pub count_of : Forms → ℕ
count_of no_forms = zero
count_of (and_form f fs) = suc (count_of fs)

-- the range of the loop with a number
abbrev pub range_of : List KnownRange → ℕ → Option KnownRange
range_of [] l = None
range_of (r ∷ rs) l = if nat_eq r.number l then Some r else range_of rs l

-- ---- which facts serve a pair

abbrev pub serves_at : Option Access → Option Access → Option Access → Option Access → Bool
serves_at None b f g = false
serves_at (Some a) None f g = false
serves_at (Some a) (Some b) None g = false
serves_at (Some a) (Some b) (Some f) None = false
serves_at (Some a) (Some b) (Some f) (Some g) = serves a.path b.path f.path g.path

abbrev pub fact_serves : List Access → KnownFact → KnownPair → Bool
fact_serves as' k p = serves_at (numbered as' k.first) (numbered as' k.second) (numbered as' p.first) (numbered as' p.second)

-- ---- surveys of loops whose names have one rank each

-- subscript lists of accesses of one name are as long as each other
abbrev pub HaveOneRank : Survey → Type 0
HaveOneRank s =
    (m n : ℕ) (a b : Access) (f g : Forms) →
    numbered s.accesses m ≡ Some a → numbered s.accesses n ≡ Some b → IsTrue (bytes_eq a.place.name b.place.name) →
    numbered s.ones m ≡ Some f → numbered s.twos n ≡ Some g → count_of f ≡ count_of g

pub record IsSurvey (s : Survey) : Type 0 where
  pub numbers : (n : ℕ) (a : Access) → numbered s.accesses n ≡ Some a → a.number ≡ n
  pub ones : length s.ones ≡ length s.accesses
  pub twos : length s.twos ≡ length s.accesses
  pub one_rank : HaveOneRank s
  pub facts_are : s.facts ≡ facts s.accesses s.ones s.twos

-- f are the forms of the pair's first access on side One, and g those of its second on side Two
pub record IsPairOf (s : Survey) (p : KnownPair) (f g : Forms) : Type 0 where
  pub first : numbered s.ones p.first ≡ Some f
  pub second : numbered s.twos p.second ≡ Some g
  pub differences_are : p.differences ≡ differences f g
