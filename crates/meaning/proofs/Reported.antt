-- The reported conflict is the least clash, and there is none exactly where none is reported.
use Rattle.std.specs.Prelude.{◌≡◌, ℕ, ◌<◌, Bool, true, false, ◌&&◌, ◌||◌, if◌then◌else◌, nat_lt, nat_le, nat_eq, List, [], ◌∷◌, ◌++◌, Contains, Option, Some, None, ◌⊎◌, refl}
use Rattle.std.proofs.Common.{ap, sym, ◌∙◌, subst, inl, inr, arith}
use Rattle.std.proofs.lemmas.Bool.{and_parts, and_from, eqb-true, eq-eqb, ltb-true, lt-ltb}
use Rattle.std.proofs.lemmas.Bool.Decides.{nat_tests}
use Rattle.std.proofs.lemmas.List.Elements.{Contains-append_left, Contains-append_right, Contains-append_cases, Contains-push, Contains-push_cases}
use Rattle.fl_types.specs.declared.access.AccessKind.{AccessKind}
use Rattle.fl_types.specs.declared.access.AccessKind.TheVariants.{Read, Write, Update}
use Rattle.meaning.specs.Logs.{Touch}
use Rattle.meaning.specs.Conflicts.{clashes, Clash, IsClash, no_later, Reports, in_order, clash_of, clashes_with, all_clashes, lesser_clash, least_clash, conflict}

abbrev Among : {A : Type 0} → List A → A → Type 0
Among [] x = ⊥
Among (y ∷ ys) x = (y ≡ x) ⊎ Among ys x

nothing_in : {A : Type 0} (x : A) → Contains [] x → ⊥
nothing_in x c = absurd (omega (arith, c.1))

first_or_rest : {A : Type 0} (y : A) (ys : List A) (x : A) → Contains (y ∷ []) x ⊎ Contains ys x → (y ≡ x) ⊎ Contains ys x
first_or_rest y ys x (inr c) = inr c
first_or_rest y ys x (inl c) = only (Contains-push_cases [] y x c)
  where
    only : Contains [] x ⊎ (y ≡ x) → (y ≡ x) ⊎ Contains ys x
    only (inl n) = absurd (nothing_in x n)
    only (inr e) = inl e

among : {A : Type 0} (xs : List A) (x : A) → Contains xs x → Among xs x
among [] x c = nothing_in x c
among (y ∷ ys) x c = by_cases (λ r. among ys x r) (first_or_rest y ys x (Contains-append_cases (y ∷ []) ys x c))
  where
    by_cases : (Contains ys x → Among ys x) → (y ≡ x) ⊎ Contains ys x → Among (y ∷ ys) x
    by_cases f (inl e) = inl e
    by_cases f (inr r) = inr (f r)

contains : {A : Type 0} (xs : List A) (x : A) → Among xs x → Contains xs x
contains [] x h = absurd h
contains {A} (y ∷ ys) x (inl e) = let P : A → Type 0 = λ z. Contains (y ∷ ys) z in subst P e (Contains-append_left (y ∷ []) ys y (Contains-push [] y))
contains (y ∷ ys) x (inr h) = Contains-append_right (y ∷ []) ys x (contains ys x h)

left_of : {A : Type 0} (xs ys : List A) (x : A) → Among xs x → Among (xs ++ ys) x
left_of [] ys x h = absurd h
left_of (y ∷ xs) ys x (inl e) = inl e
left_of (y ∷ xs) ys x (inr h) = inr (left_of xs ys x h)

right_of : {A : Type 0} (xs ys : List A) (x : A) → Among ys x → Among (xs ++ ys) x
right_of [] ys x h = h
right_of (y ∷ xs) ys x h = inr (right_of xs ys x h)

either_of : {A : Type 0} (xs ys : List A) (x : A) → Among (xs ++ ys) x → Among xs x ⊎ Among ys x
either_of [] ys x h = inr h
either_of (y ∷ xs) ys x (inl e) = inl (inl e)
either_of (y ∷ xs) ys x (inr h) = further (either_of xs ys x h)
  where
    further : Among xs x ⊎ Among ys x → Among (y ∷ xs) x ⊎ Among ys x
    further (inl l) = inl (inr l)
    further (inr r) = inr r

later_itself : (p i j : ℕ) → (nat_lt p p || (nat_eq p p && (nat_lt i i || (nat_eq i i && nat_le j j)))) ≡ true
later_itself p i j = grind (arith, nat_tests)

later_total : (p i j q k l : ℕ) → (nat_lt p q || (nat_eq p q && (nat_lt i k || (nat_eq i k && nat_le j l)))) ≡ false
    → (nat_lt q p || (nat_eq q p && (nat_lt k i || (nat_eq k i && nat_le l j)))) ≡ true
later_total p i j q k l h = grind (arith, nat_tests)

later_both : (p i j q k l r m n : ℕ) → (nat_lt p q || (nat_eq p q && (nat_lt i k || (nat_eq i k && nat_le j l)))) ≡ true
    → (nat_lt q r || (nat_eq q r && (nat_lt k m || (nat_eq k m && nat_le l n)))) ≡ true
    → (nat_lt p r || (nat_eq p r && (nat_lt i m || (nat_eq i m && nat_le j n)))) ≡ true
later_both p i j q k l r m n h g = grind (arith, nat_tests)

-- the clash c of two touches, the first one's iteration being the lesser
record Makes (a b : Touch) (c : Clash) : Type 0 where
  pub first_place : a.place ≡ c.place
  pub second_place : b.place ≡ c.place
  pub first_iteration : a.iteration ≡ c.first
  pub second_iteration : b.iteration ≡ c.second
  pub rises : c.first < c.second
  pub kinds : clashes a.kind b.kind ≡ true

pub turned : (k l : AccessKind) → clashes k l ≡ true → clashes l k ≡ true
turned Write Write h = refl
turned Write Update h = refl
turned Write Read h = refl
turned Update Write h = refl
turned Update Read h = refl
turned Update Update h = h
turned Read Write h = refl
turned Read Update h = refl
turned Read Read h = h

-- ---- each clash of the list is made by two touches

ordered_makes : (a b : Touch) (c : Clash) → b.place ≡ a.place → clashes a.kind b.kind ≡ true → Among (in_order a.place a.iteration b.iteration) c → Makes a b c ⊎ Makes b a c
ordered_makes a b c e k = by_tests (nat_lt a.iteration b.iteration) (nat_lt b.iteration a.iteration) refl refl
  where
    one : (x y : Touch) → x.place ≡ a.place → y.place ≡ a.place → clashes x.kind y.kind ≡ true → nat_lt x.iteration y.iteration ≡ true
        → record { place = a.place; first = x.iteration; second = y.iteration } ≡ c → Makes x y c
    one x y p q k t h = record {
      first_place = p ∙ ap (λ (d : Clash). d.place) h;
      second_place = q ∙ ap (λ (d : Clash). d.place) h;
      first_iteration = ap (λ (d : Clash). d.first) h;
      second_iteration = ap (λ (d : Clash). d.second) h;
      rises = let l : x.iteration < y.iteration = ltb-true x.iteration y.iteration t in let P : Clash → Type 0 = λ d. d.first < d.second in subst P h l;
      kinds = k;
    }

    by_tests : (t s : Bool) → nat_lt a.iteration b.iteration ≡ t → nat_lt b.iteration a.iteration ≡ s
        → Among (if t then record { place = a.place; first = a.iteration; second = b.iteration } ∷ [] else if s then record { place = a.place; first = b.iteration; second = a.iteration } ∷ [] else []) c
        → Makes a b c ⊎ Makes b a c
    by_tests true s u v (inl h) = inl (one a b refl e k u h)
    by_tests true s u v (inr h) = absurd h
    by_tests false true u v (inl h) = inr (one b a e refl (turned a.kind b.kind k) v h)
    by_tests false true u v (inr h) = absurd h
    by_tests false false u v h = absurd h

two_make : (a b : Touch) (c : Clash) → Among (clash_of a b) c → Makes a b c ⊎ Makes b a c
two_make a b c = by_test (nat_eq a.place b.place && clashes a.kind b.kind) refl
  where
    by_test : (t : Bool) → (nat_eq a.place b.place && clashes a.kind b.kind) ≡ t → Among (if t then in_order a.place a.iteration b.iteration else []) c → Makes a b c ⊎ Makes b a c
    by_test true e h =
        let p : (nat_eq a.place b.place ≡ true) × (clashes a.kind b.kind ≡ true) = and_parts _ _ e in
        ordered_makes a b c (sym (eqb-true a.place b.place p.0)) p.1 h
    by_test false e h = absurd h

record Made (ts : List Touch) (c : Clash) : Type 0 where
  pub one : Touch
  pub other : Touch
  pub has_one : Among ts one
  pub has_other : Among ts other
  pub makes : Makes one other c

with_makes : (a : Touch) (bs : List Touch) (c : Clash) → Among (clashes_with a bs) c → Made (a ∷ bs) c
with_makes a [] c h = absurd h
with_makes a (b ∷ bs) c h = by_cases (λ g. with_makes a bs c g) (either_of (clash_of a b) (clashes_with a bs) c h)
  where
    made : Makes a b c ⊎ Makes b a c → Made (a ∷ b ∷ bs) c
    made (inl m) = record { one = a; other = b; has_one = inl refl; has_other = inr (inl refl); makes = m }
    made (inr m) = record { one = b; other = a; has_one = inr (inl refl); has_other = inl refl; makes = m }

    skip : (x : Touch) → Among (a ∷ bs) x → Among (a ∷ b ∷ bs) x
    skip x (inl e) = inl e
    skip x (inr g) = inr (inr g)

    wider : Made (a ∷ bs) c → Made (a ∷ b ∷ bs) c
    wider m = record { one = m.one; other = m.other; has_one = skip m.one m.has_one; has_other = skip m.other m.has_other; makes = m.makes }

    by_cases : (Among (clashes_with a bs) c → Made (a ∷ bs) c) → Among (clash_of a b) c ⊎ Among (clashes_with a bs) c → Made (a ∷ b ∷ bs) c
    by_cases f (inl g) = made (two_make a b c g)
    by_cases f (inr g) = wider (f g)

all_made : (ts : List Touch) (c : Clash) → Among (all_clashes ts) c → Made ts c
all_made [] c h = absurd h
all_made (a ∷ ts) c h = by_cases (λ g. all_made ts c g) (either_of (clashes_with a ts) (all_clashes ts) c h)
  where
    wider : Made ts c → Made (a ∷ ts) c
    wider m = record { one = m.one; other = m.other; has_one = inr m.has_one; has_other = inr m.has_other; makes = m.makes }

    by_cases : (Among (all_clashes ts) c → Made ts c) → Among (clashes_with a ts) c ⊎ Among (all_clashes ts) c → Made (a ∷ ts) c
    by_cases f (inl g) = with_makes a ts c g
    by_cases f (inr g) = wider (f g)

same_touch : (t : Touch) (p i : ℕ) → t.place ≡ p → t.iteration ≡ i → t ≡ record { place = p; iteration = i; kind = t.kind }
same_touch t p i e f = ap (λ (x : ℕ). record { place = x; iteration = t.iteration; kind = t.kind }) e ∙ ap (λ (x : ℕ). record { place = p; iteration = x; kind = t.kind }) f

sound : (ts : List Touch) (c : Clash) → Among (all_clashes ts) c → IsClash ts c
sound ts c h =
    let m : Made ts c = all_made ts c h in
    let P : Touch → Type 0 = λ t. Contains ts t in
    record {
      one = m.one.kind;
      other = m.other.kind;
      has_one = subst P (same_touch m.one c.place c.first m.makes.first_place m.makes.first_iteration) (contains ts m.one m.has_one);
      has_other = subst P (same_touch m.other c.place c.second m.makes.second_place m.makes.second_iteration) (contains ts m.other m.has_other);
      in_order = m.makes.rises;
      kinds = m.makes.kinds;
    }

-- ---- each two touches that clash are found

found_here : (a b : Touch) (c : Clash) → Makes a b c → Among (clash_of a b) c
found_here a b c m = rw (and_from _ _ (eq-eqb a.place b.place (m.first_place ∙ sym m.second_place)) m.kinds) (in_turn (nat_lt a.iteration b.iteration) less)
  where
    less : nat_lt a.iteration b.iteration ≡ true
    less = lt-ltb a.iteration b.iteration (rw (m.first_iteration, m.second_iteration) m.rises)

    whole_number : record { place = a.place; first = a.iteration; second = b.iteration } ≡ c
    whole_number = ap (λ (x : ℕ). record { place = x; first = a.iteration; second = b.iteration }) m.first_place
        ∙ (ap (λ (x : ℕ). record { place = c.place; first = x; second = b.iteration }) m.first_iteration
        ∙ ap (λ (x : ℕ). record { place = c.place; first = c.first; second = x }) m.second_iteration)

    in_turn : (t : Bool) → t ≡ true
        → Among (if t then record { place = a.place; first = a.iteration; second = b.iteration } ∷ [] else if nat_lt b.iteration a.iteration then record { place = a.place; first = b.iteration; second = a.iteration } ∷ [] else []) c
    in_turn true e = inl whole_number
    in_turn false e = cc

found_back : (a b : Touch) (c : Clash) → Makes a b c → Among (clash_of b a) c
found_back a b c m = rw (and_from _ _ (eq-eqb b.place a.place (m.second_place ∙ sym m.first_place)) (turned a.kind b.kind m.kinds)) (in_turn (nat_lt b.iteration a.iteration) (nat_lt a.iteration b.iteration) not_less less)
  where
    rises : a.iteration < b.iteration
    rises = rw (m.first_iteration, m.second_iteration) m.rises

    less : nat_lt a.iteration b.iteration ≡ true
    less = lt-ltb a.iteration b.iteration rises

    not_less : nat_lt b.iteration a.iteration ≡ false
    not_less = grind (arith, nat_tests)

    whole_number : record { place = b.place; first = a.iteration; second = b.iteration } ≡ c
    whole_number = ap (λ (x : ℕ). record { place = x; first = a.iteration; second = b.iteration }) m.second_place
        ∙ (ap (λ (x : ℕ). record { place = c.place; first = x; second = b.iteration }) m.first_iteration
        ∙ ap (λ (x : ℕ). record { place = c.place; first = c.first; second = x }) m.second_iteration)

    in_turn : (t s : Bool) → t ≡ false → s ≡ true
        → Among (if t then record { place = b.place; first = b.iteration; second = a.iteration } ∷ [] else if s then record { place = b.place; first = a.iteration; second = b.iteration } ∷ [] else []) c
    in_turn false true e f = inl whole_number
    in_turn true s e f = cc
    in_turn false false e f = cc

found_with : (a : Touch) (bs : List Touch) (b : Touch) (c : Clash) → Among bs b → Among (clash_of a b) c → Among (clashes_with a bs) c
found_with a [] b c g h = absurd g
found_with a (x ∷ bs) b c (inl e) h = left_of (clash_of a x) (clashes_with a bs) c (let P : Touch → Type 0 = λ t. Among (clash_of a t) c in subst P (sym e) h)
found_with a (x ∷ bs) b c (inr g) h = right_of (clash_of a x) (clashes_with a bs) c (found_with a bs b c g h)

irreflexive : (a : Touch) (c : Clash) → Makes a a c → ⊥
irreflexive a c m = let e : c.first ≡ c.second = sym m.first_iteration ∙ m.second_iteration in absurd (omega (arith, m.rises))

found : (ts : List Touch) (a b : Touch) (c : Clash) → Among ts a → Among ts b → Makes a b c → Among (all_clashes ts) c
found [] a b c g h m = absurd g
found (t ∷ ts) a b c (inl e) (inl f) m =
    absurd (irreflexive b c (let P : Touch → Type 0 = λ x. Makes x b c in subst P (sym e ∙ f) m))
found (t ∷ ts) a b c (inl e) (inr g) m =
    left_of (clashes_with t ts) (all_clashes ts) c (found_with t ts b c g (let P : Touch → Type 0 = λ x. Among (clash_of x b) c in subst P (sym e) (found_here a b c m)))
found (t ∷ ts) a b c (inr g) (inl f) m =
    left_of (clashes_with t ts) (all_clashes ts) c (found_with t ts a c g (let P : Touch → Type 0 = λ x. Among (clash_of x a) c in subst P (sym f) (found_back a b c m)))
found (t ∷ ts) a b c (inr g) (inr h) m = right_of (clashes_with t ts) (all_clashes ts) c (found ts a b c g h m)

complete : (ts : List Touch) (c : Clash) → IsClash ts c → Among (all_clashes ts) c
complete ts c h =
    found ts _ _ c (among ts _ h.has_one) (among ts _ h.has_other)
    (record { first_place = refl; second_place = refl; first_iteration = refl; second_iteration = refl; rises = h.in_order; kinds = h.kinds })

-- ---- the least of a list

abbrev IsLeastOf : List Clash → Option Clash → Type 0
IsLeastOf cs None = (d : Clash) → Among cs d → ⊥
IsLeastOf cs (Some m) = Among cs m × ((d : Clash) → Among cs d → no_later m d ≡ true)

itself : (c : Clash) → no_later c c ≡ true
itself c = later_itself c.place c.first c.second

least_more : (c : Clash) (cs : List Clash) (o : Option Clash) → IsLeastOf cs o → IsLeastOf (c ∷ cs) (lesser_clash c o)
least_more c cs None h = (inl refl, all)
  where
    all : (d : Clash) → Among (c ∷ cs) d → no_later c d ≡ true
    all d (inl e) = let P : Clash → Type 0 = λ x. no_later c x ≡ true in subst P e (itself c)
    all d (inr g) = absurd (h d g)
least_more c cs (Some m) h = by_test (no_later c m) refl
  where
    all : no_later c m ≡ true → (d : Clash) → Among (c ∷ cs) d → no_later c d ≡ true
    all t d (inl e) = let P : Clash → Type 0 = λ x. no_later c x ≡ true in subst P e (itself c)
    all t d (inr g) = later_both c.place c.first c.second m.place m.first m.second d.place d.first d.second t (h.1 d g)

    others : no_later c m ≡ false → (d : Clash) → Among (c ∷ cs) d → no_later m d ≡ true
    others t d (inl e) =
        let u : no_later m c ≡ true = later_total c.place c.first c.second m.place m.first m.second t in
        let P : Clash → Type 0 = λ x. no_later m x ≡ true in subst P e u
    others t d (inr g) = h.1 d g

    by_test : (t : Bool) → no_later c m ≡ t → IsLeastOf (c ∷ cs) (if t then Some c else Some m)
    by_test true e = (inl refl, all e)
    by_test false e = (inr h.0, others e)

least_is : (cs : List Clash) → IsLeastOf cs (least_clash cs)
least_is [] = λ d h. h
least_is (c ∷ cs) = least_more c cs (least_clash cs) (least_is cs)

reported_by : (ts : List Touch) (o : Option Clash) → IsLeastOf (all_clashes ts) o → Reports ts o
reported_by ts None h = λ c g. h c (complete ts c g)
reported_by ts (Some m) h = (sound ts m h.0, λ d g. h.1 d (complete ts d g))

pub reported : (ts : List Touch) → Reports ts (conflict ts)
reported ts = reported_by ts (conflict ts) (least_is (all_clashes ts))
