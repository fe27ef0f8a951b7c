-- The pairs of a name are those of what is known of subscripts.
use Rattle.std.proofs.Common.{◌≡◌, ℕ, suc, ◌+◌, ◌≤◌, Bool, true, false, ◌&&◌, ◌||◌, if◌then◌else◌, List, [], ◌∷◌, ◌++◌, length, Option, Some, None, refl, sym, ap, ◌∙◌, append_assoc, arith}
use Rattle.std.specs.Prelude.{bytes_eq, nat_le}
use Rattle.std.proofs.lemmas.List.{append-nil}
use Rattle.std.proofs.lemmas.Bool.Decides.{nat_tests}
use Rattle.std.proofs.lemmas.Slice.Eq.{bytes_eq-Decides}
use Rattle.fl_types.specs.declared.access.Access.{Access}
use Rattle.fl_types.specs.Sharing.{has_name}
use Rattle.index_forms.specs.Form.{Forms}
use Rattle.index_knowledge.specs.Knowledge.{KnownPair, Pairing, pairing, is_read, is_paired, pair_of, and_pair, with_pairs_of, with_pairs_at, with_pairs, pairs}
use Rattle.certificate_rules.specs.Surveys.{numbered, IsSurvey}
use Rattle.certificate_check.specs.Pairs.{KnownLoop, is_pair_read, pair_read_of, pair_read_at, pair_of_two, pair_at}
use Rattle.sharing_choice.specs.Choosing.{listed, pairs_with, pairs_at, pairs_among, pairs_of}

-- m items come before these
abbrev Behind : {A : Type 0} → List A → ℕ → List A → Type 0
Behind full m xs = (j : ℕ) → numbered full (suc (m + j)) ≡ numbered xs (suc j)

later : {A : Type 0} (full : List A) (m : ℕ) (x : A) (xs : List A) → Behind full m (x ∷ xs) → Behind full (suc m) xs
later full m x xs e j = let z : suc m + j ≡ m + suc j = omega arith in ap (λ (i : ℕ). numbered full (suc i)) z ∙ e (suc j)

first : {A : Type 0} (full : List A) (m : ℕ) (x : A) (xs : List A) → Behind full m (x ∷ xs) → numbered full (suc m) ≡ Some x
first full m x xs e = let z : m ≡ m + 0 = omega arith in ap (λ (i : ℕ). numbered full (suc i)) z ∙ e 0

all_behind : {A : Type 0} (xs : List A) → Behind xs 0 xs
all_behind xs j = let z : 0 + j ≡ j = omega arith in ap (λ (i : ℕ). numbered xs (suc i)) z

-- ---- tests

same_by : (p q : Bool) → (p ≡ true → q ≡ true) → (q ≡ true → p ≡ true) → p ≡ q
same_by true q f g = sym (f refl)
same_by false true f g = g refl
same_by false false f g = refl

bytes_turned : (a b : List ℕ) → bytes_eq a b ≡ bytes_eq b a
bytes_turned a b = same_by (bytes_eq a b) (bytes_eq b a) (λ e. (bytes_eq-Decides b a).1 (sym ((bytes_eq-Decides a b).0 e))) (λ e. (bytes_eq-Decides a b).1 (sym ((bytes_eq-Decides b a).0 e)))

turned : (r k n : Bool) → (r && (k && (n || false))) ≡ (r && (n && k))
turned true true true = refl
turned true true false = refl
turned true false true = refl
turned true false false = refl
turned false k n = refl

left_of : (p q : Bool) → (p && q) ≡ true → p ≡ true
left_of true q h = refl
left_of false q h = cc

right_of : (p q : Bool) → (p && q) ≡ true → q ≡ true
right_of true q h = h
right_of false q h = cc

le_true : (m n : ℕ) → m ≤ n → nat_le m n ≡ true
le_true m n h = grind (arith, nat_tests)

module _ (k : KnownLoop) (w : IsSurvey k.survey) (x : List ℕ) where
  abbrev names : List (List ℕ)
  names = x ∷ []

  abbrev here : Pairing
  here = pairing k.number k.nest x

  read_is : (r : Bool) (a : Access) → is_pair_read names a r ≡ is_paired x r a
  read_is r a = ap (λ (b : Bool). r && (is_read a.kind && (b || false))) (bytes_turned a.place.name x) ∙ turned r (is_read a.kind) (bytes_eq x a.place.name)

  -- what an access reads, by the forms of a side
  read_at : (side : List Forms) (n : ℕ) (a : Access) (r : Bool) (f : Forms) (t : Bool) → numbered k.survey.accesses n ≡ Some a → numbered k.rights n ≡ Some r → numbered side n ≡ Some f → is_paired x r a ≡ t →
      pair_read_at names k side n ≡ (if t then Some (a.place.name, f) else None)
  read_at side n a r f t ea er ef et =
      ap (λ (o : Option Access). pair_read_of names o (numbered k.rights n) (numbered side n)) ea
      ∙ (ap (λ (o : Option Bool). pair_read_of names (Some a) o (numbered side n)) er
      ∙ (ap (λ (o : Option Forms). pair_read_of names (Some a) (Some r) o) ef ∙ ap (λ (b : Bool). if b then Some (a.place.name, f) else None) (read_is r a ∙ et)))

  -- one pair
  one_pair : (m n : ℕ) (a b : Access) (ra rb : Bool) (f g : Forms) (t : Bool) → m ≤ n → numbered k.survey.accesses m ≡ Some a → numbered k.survey.accesses n ≡ Some b → numbered k.rights m ≡ Some ra → numbered k.rights n ≡ Some rb →
      numbered k.survey.ones m ≡ Some f → numbered k.survey.twos n ≡ Some g → is_paired x ra a ≡ true → is_paired x rb b ≡ t →
      listed (pair_at names k a.number b.number) ≡ (if t then pair_of here a f b g ∷ [] else [])
  one_pair m n a b ra rb f g t l ea eb era erb ef eg ta tb =
      let na : a.number ≡ m = w.numbers m a ea in
      let nb : b.number ≡ n = w.numbers n b eb in
      let one : pair_read_at names k k.survey.ones a.number ≡ Some (a.place.name, f) = ap (pair_read_at names k k.survey.ones) na ∙ read_at k.survey.ones m a ra f true ea era ef ta in
      let two : pair_read_at names k k.survey.twos b.number ≡ (if t then Some (b.place.name, g) else None) = ap (pair_read_at names k k.survey.twos) nb ∙ read_at k.survey.twos n b rb g t eb erb eg tb in
      ap (λ (o : Option (List ℕ × Forms)). listed (pair_of_two k.number k.nest a.number b.number o (pair_read_at names k k.survey.twos b.number))) one
      ∙ (ap (λ (o : Option (List ℕ × Forms)). listed (pair_of_two k.number k.nest a.number b.number (Some (a.place.name, f)) o)) two ∙ by_test t tb)
    where
      xa : x ≡ a.place.name
      xa = (bytes_eq-Decides x a.place.name).0 (left_of (bytes_eq x a.place.name) (is_read a.kind) (right_of ra (bytes_eq x a.place.name && is_read a.kind) ta))

      ordered : nat_le a.number b.number ≡ true
      ordered = le_true a.number b.number (let na : a.number ≡ m = w.numbers m a ea in let nb : b.number ≡ n = w.numbers n b eb in omega (arith, na, nb, l))

      by_test : (q : Bool) → is_paired x rb b ≡ q → listed (pair_of_two k.number k.nest a.number b.number (Some (a.place.name, f)) (if q then Some (b.place.name, g) else None)) ≡ (if q then pair_of here a f b g ∷ [] else [])
      by_test true e =
          let xb : x ≡ b.place.name = (bytes_eq-Decides x b.place.name).0 (left_of (bytes_eq x b.place.name) (is_read b.kind) (right_of rb (bytes_eq x b.place.name && is_read b.kind) e)) in
          let same : bytes_eq a.place.name b.place.name ≡ true = (bytes_eq-Decides a.place.name b.place.name).1 (sym xa ∙ xb) in
          ap (λ (p : Bool). listed (if p && bytes_eq a.place.name b.place.name then Some (pair_of here a f b g) else None)) ordered ∙ ap (λ (p : Bool). listed (if p then Some (pair_of here a f b g) else None)) same
      by_test false e = refl

  and_one : (a b : Access) (f g : Forms) (r t : Bool) (ks : List KnownPair) → is_paired x r b ≡ t → and_pair here a f r b g ks ≡ ks ++ (if t then pair_of here a f b g ∷ [] else [])
  and_one a b f g r true ks e = ap (λ (p : Bool). if p then ks ++ pair_of here a f b g ∷ [] else ks) e
  and_one a b f g r false ks e = ap (λ (p : Bool). if p then ks ++ pair_of here a f b g ∷ [] else ks) e ∙ sym (append-nil ks)

  -- the pairs of an access with those behind m others
  with_is : (m n : ℕ) (a : Access) (ra : Bool) (f : Forms) → m ≤ suc n → numbered k.survey.accesses m ≡ Some a → numbered k.rights m ≡ Some ra → numbered k.survey.ones m ≡ Some f → is_paired x ra a ≡ true →
      (rs : List Bool) (bs : List Access) (gs : List Forms) (ks : List KnownPair) → length rs ≡ length bs → length gs ≡ length bs → Behind k.rights n rs → Behind k.survey.accesses n bs → Behind k.survey.twos n gs →
      with_pairs_of here a f rs bs gs ks ≡ ks ++ pairs_with names k a.number bs
  with_is m n a ra f l ea er ef ta [] [] [] ks p q er' eb eg = sym (append-nil ks)
  with_is m n a ra f l ea er ef ta (r ∷ rs) [] gs ks p q er' eb eg = absurd (omega (arith, p))
  with_is m n a ra f l ea er ef ta [] (b ∷ bs) gs ks p q er' eb eg = absurd (omega (arith, p))
  with_is m n a ra f l ea er ef ta [] [] (g ∷ gs) ks p q er' eb eg = absurd (omega (arith, q))
  with_is m n a ra f l ea er ef ta (r ∷ rs) (b ∷ bs) [] ks p q er' eb eg = absurd (omega (arith, q))
  with_is m n a ra f l ea er ef ta (r ∷ rs) (b ∷ bs) (g ∷ gs) ks p q er' eb eg =
      let t = is_paired x r b in
      let one : listed (pair_at names k a.number b.number) ≡ (if t then pair_of here a f b g ∷ [] else []) =
      one_pair m (suc n) a b ra r f g t l ea (first k.survey.accesses n b bs eb) er (first k.rights n r rs er') ef (first k.survey.twos n g gs eg) ta refl in
      with_is m (suc n) a ra f (omega (arith, l)) ea er ef ta rs bs gs (and_pair here a f r b g ks) (omega (arith, p)) (omega (arith, q)) (later k.rights n r rs er') (later k.survey.accesses n b bs eb) (later k.survey.twos n g gs eg)
      ∙ (ap (λ (z : List KnownPair). z ++ pairs_with names k a.number bs) (and_one a b f g r t ks refl ∙ ap (λ (z : List KnownPair). ks ++ z) (sym one))
      ∙ append_assoc ks (listed (pair_at names k a.number b.number)) (pairs_with names k a.number bs))

  none_with : (n : ℕ) → pair_read_at names k k.survey.ones n ≡ None → (bs : List Access) → pairs_with names k n bs ≡ []
  none_with n e [] = refl
  none_with n e (b ∷ bs) =
      ap (λ (o : Option (List ℕ × Forms)). listed (pair_of_two k.number k.nest n b.number o (pair_read_at names k k.survey.twos b.number)) ++ pairs_with names k n bs) e ∙ none_with n e bs

  either_none : (h : Bool) (ps : List KnownPair) → ps ≡ [] → (if h then ps else []) ≡ []
  either_none true ps e = e
  either_none false ps e = refl

  among_is : (n : ℕ) (rs : List Bool) (as' : List Access) (fs gs : List Forms) (ks : List KnownPair) → length rs ≡ length as' → length fs ≡ length as' → length gs ≡ length as' →
      Behind k.rights n rs → Behind k.survey.accesses n as' → Behind k.survey.ones n fs → Behind k.survey.twos n gs → with_pairs here rs as' fs gs ks ≡ ks ++ pairs_among names k as'
  among_is n [] [] fs gs ks p q s er ea ef eg = sym (append-nil ks)
  among_is n (r ∷ rs) [] fs gs ks p q s er ea ef eg = absurd (omega (arith, p))
  among_is n [] (a ∷ as') fs gs ks p q s er ea ef eg = absurd (omega (arith, p))
  among_is n (r ∷ rs) (a ∷ as') [] gs ks p q s er ea ef eg = absurd (omega (arith, q))
  among_is n (r ∷ rs) (a ∷ as') (f ∷ fs) [] ks p q s er ea ef eg = absurd (omega (arith, s))
  among_is n (r ∷ rs) (a ∷ as') (f ∷ fs) (g ∷ gs) ks p q s er ea ef eg =
      among_is (suc n) rs as' fs gs (with_pairs_at here a f r (r ∷ rs) (a ∷ as') (g ∷ gs) ks) (omega (arith, p)) (omega (arith, q)) (omega (arith, s)) (later k.rights n r rs er) (later k.survey.accesses n a as' ea) (later k.survey.ones n f fs ef) (later k.survey.twos n g gs eg)
      ∙ (ap (λ (z : List KnownPair). z ++ pairs_among names k as') (by_test (is_paired x r a) refl) ∙ append_assoc ks (pairs_at names k a as') (pairs_among names k as'))
    where
      fa : numbered k.survey.accesses (suc n) ≡ Some a
      fa = first k.survey.accesses n a as' ea

      fr : numbered k.rights (suc n) ≡ Some r
      fr = first k.rights n r rs er

      ff : numbered k.survey.ones (suc n) ≡ Some f
      ff = first k.survey.ones n f fs ef

      by_test : (t : Bool) → is_paired x r a ≡ t → (if t then with_pairs_of here a f (r ∷ rs) (a ∷ as') (g ∷ gs) ks else ks) ≡ ks ++ pairs_at names k a as'
      by_test true e =
          let named : has_name a.place.name names ≡ true = ap (λ (b : Bool). b || false) (bytes_turned a.place.name x ∙ left_of (bytes_eq x a.place.name) (is_read a.kind) (right_of r (bytes_eq x a.place.name && is_read a.kind) e)) in
          with_is (suc n) n a r f (omega arith) fa fr ff e (r ∷ rs) (a ∷ as') (g ∷ gs) ks p s er ea eg ∙ ap (λ (b : Bool). ks ++ (if b then pairs_with names k a.number (a ∷ as') else [])) (sym named)
      by_test false e =
          let none : pair_read_at names k k.survey.ones a.number ≡ None = ap (pair_read_at names k k.survey.ones) (w.numbers (suc n) a fa) ∙ read_at k.survey.ones (suc n) a r f false fa fr ff e in
          sym (append-nil ks) ∙ ap (λ (z : List KnownPair). ks ++ z) (sym (either_none (has_name a.place.name names) (pairs_with names k a.number (a ∷ as')) (none_with a.number none (a ∷ as'))))

  pub pairs_are : length k.rights ≡ length k.survey.accesses → pairs_of names k ≡ pairs here k.rights k.survey.accesses k.survey.ones k.survey.twos
  pairs_are l =
      sym (among_is 0 k.rights k.survey.accesses k.survey.ones k.survey.twos [] l w.ones w.twos (all_behind k.rights) (all_behind k.survey.accesses) (all_behind k.survey.ones) (all_behind k.survey.twos))
