-- An access by its number, and the spot that it is one of.
use Rattle.std.proofs.Common.{◌≡◌, ℕ, zero, suc, ◌+◌, ◌⊎◌, ℤ, List, [], ◌∷◌, ◌++◌, map, length, refl, ap, sym, ◌∙◌, subst, arith, length-append, Some, Ok}
use mathlib.Core.Logic.{inl, inr}
use Rattle.std.specs.Prelude.{flat_map}
use Rattle.fl_types.specs.Accesses.{Occurrence}
use Rattle.meaning.specs.declared.value.Value.{Value}
use Rattle.meaning.specs.Sites.{Cells, Site}
use Rattle.meaning.specs.Expressions.{values_of}
use Rattle.index_forms.specs.Form.{Atom}
use Rattle.index_forms.specs.Formed.{Known, formed_all, subscript_forms}
use Rattle.index_forms.specs.Walk.{Setting, viewed}
use Rattle.index_law.specs.Worth.{AgreesOn, AreIndices}
use Rattle.index_law.specs.Meetings.{In}
use Rattle.index_law.proofs.GroupKeys.{by_side}
use Rattle.index_law.proofs.Meets.{in_left}
use Rattle.apart_law.specs.Spots.{Spot, AllAgree}
use Rattle.apart_law.specs.Laid.{places, accesses_at, forms_at, AreLaid}
use Rattle.apart_law.proofs.Laying.{flat_both}
use Rattle.certificate_rules.specs.Surveys.{numbered}

-- ---- items by number

pub numbered_first : {A : Type 0} (xs ys : List A) (m : ℕ) (o : A) → numbered xs m ≡ Some o → numbered (xs ++ ys) m ≡ Some o
numbered_first [] ys zero o h = cc
numbered_first [] ys (suc m) o h = cc
numbered_first (x ∷ xs) ys zero o h = cc
numbered_first (x ∷ xs) ys (suc zero) o h = h
numbered_first (x ∷ xs) ys (suc (suc m)) o h = numbered_first xs ys (suc m) o h

pub numbered_later : {A : Type 0} (xs ys : List A) (m : ℕ) (o : A) → numbered ys m ≡ Some o → numbered (xs ++ ys) (length xs + m) ≡ Some o
numbered_later [] ys m o h = let e : m ≡ 0 + m = omega arith in subst (λ (n : ℕ). numbered ys n ≡ Some o) e h
numbered_later (x ∷ xs) ys zero o h = cc
numbered_later {A} (x ∷ xs) ys (suc m) o h =
    let e : suc (suc (length xs + m)) ≡ suc (length xs) + suc m = omega arith in
    let f : suc (length xs + m) ≡ length xs + suc m = omega arith in
    subst (λ (n : ℕ). numbered ((x ∷ xs) ++ ys) n ≡ Some o) e (subst (λ (n : ℕ). numbered (xs ++ ys) n ≡ Some o) (sym f) (numbered_later xs ys (suc m) o h))

pub numbered_split : {A : Type 0} (xs ys : List A) (m : ℕ) (o : A) → numbered (xs ++ ys) m ≡ Some o → (numbered xs m ≡ Some o) ⊎ ((n : ℕ) × (m ≡ length xs + n) × (numbered ys n ≡ Some o))
numbered_split [] ys m o h = inr (m, omega arith, h)
numbered_split (x ∷ xs) ys zero o h = cc
numbered_split (x ∷ xs) ys (suc zero) o h = inl h
numbered_split (x ∷ xs) ys (suc (suc m)) o h = again (numbered_split xs ys (suc m) o h)
  where
    again : (numbered xs (suc m) ≡ Some o) ⊎ ((n : ℕ) × (suc m ≡ length xs + n) × (numbered ys n ≡ Some o)) →
        (numbered xs (suc m) ≡ Some o) ⊎ ((n : ℕ) × (suc (suc m) ≡ suc (length xs) + n) × (numbered ys n ≡ Some o))
    again (inl e) = inl e
    again (inr e) = let i = e.1 in inr (e.0, omega (arith, i), e.2)

-- an item of a list has a number
pub number_in : {A : Type 0} (o : A) (xs : List A) → In o xs → (m : ℕ) × (numbered xs m ≡ Some o)
number_in o [] h = absurd h
number_in o (x ∷ xs) (inl e) = (1, ap Some e)
number_in {A} o (x ∷ xs) (inr h) = behind (number_in o xs h)
  where
    behind : (m : ℕ) × (numbered xs m ≡ Some o) → (m : ℕ) × (numbered (x ∷ xs) m ≡ Some o)
    behind (zero, e) = cc
    behind (suc m, e) = (suc (suc m), e)

pub in_number : {A : Type 0} (o : A) (xs : List A) (m : ℕ) → numbered xs m ≡ Some o → In o xs
in_number o [] zero h = cc
in_number o [] (suc m) h = cc
in_number o (x ∷ xs) zero h = cc
in_number o (x ∷ xs) (suc zero) h = let e : x ≡ o = cc in inl e
in_number o (x ∷ xs) (suc (suc m)) h = inr (in_number o xs (suc m) h)

pub numbered_map : {A B : Type 0} (f : A → B) (xs : List A) (m : ℕ) (o : A) → numbered xs m ≡ Some o → numbered (map f xs) m ≡ Some (f o)
numbered_map f [] zero o h = cc
numbered_map f [] (suc m) o h = cc
numbered_map f (x ∷ xs) zero o h = cc
numbered_map f (x ∷ xs) (suc zero) o h = let e : x ≡ o = cc in ap (λ z. Some (f z)) e
numbered_map f (x ∷ xs) (suc (suc m)) o h = numbered_map f xs (suc m) o h

-- ---- the spot of a number

-- the accesses before a spot are those of the spots before it
pub record Located (spots : List Spot) (a m : ℕ) (o : Occurrence) : Type 0 where
  pub spot : Spot
  pub pre : List Spot
  pub post : List Spot
  pub whole : spots ≡ pre ++ spot ∷ post
  pub at : ℕ
  pub here : numbered spot.accesses at ≡ Some o
  pub begins : spot.before ≡ a + length (flat_map accesses_at pre)
  pub number : m ≡ length (flat_map accesses_at pre) + at

abbrev further : (x : Spot) (xs : List Spot) (a n : ℕ) (o : Occurrence) → Located xs (a + length x.accesses) n o → Located (x ∷ xs) a (length x.accesses + n) o
further x xs a n o l =
    let w : length (x.accesses ++ flat_map accesses_at l.pre) ≡ length x.accesses + length (flat_map accesses_at l.pre) = length-append x.accesses (flat_map accesses_at l.pre) in
    let b = l.begins in
    let i = l.number in
    record {
      spot = l.spot;
      pre = x ∷ l.pre;
      post = l.post;
      whole = ap (λ zs. x ∷ zs) l.whole;
      at = l.at;
      here = l.here;
      begins = omega (arith, w, b);
      number = omega (arith, w, i);
    }

pub located : (spots : List Spot) (a m : ℕ) (o : Occurrence) → AreLaid a spots → numbered (flat_map accesses_at spots) m ≡ Some o → Located spots a m o
located [] a zero o l h = cc
located [] a (suc m) o l h = cc
located (x ∷ xs) a m o l h = by_side (Located (x ∷ xs) a m o) (numbered_split x.accesses (flat_map accesses_at xs) m o h)
    (λ e. record { spot = x; pre = []; post = xs; whole = refl; at = m; here = e; begins = (let b = l.0 in omega (arith, b)); number = omega arith })
    (λ e. subst (λ (n : ℕ). Located (x ∷ xs) a n o) (sym e.1) (further x xs a e.0 o (located xs (a + length x.accesses) e.0 o l.1 e.2)))

-- a spot's access has a number
pub record At (spots : List Spot) (a : ℕ) (x : Spot) (at : ℕ) (o : Occurrence) : Type 0 where
  pub number : ℕ
  pub found : Located spots a number o
  pub is : found.spot ≡ x
  pub there : found.at ≡ at

pub number_of : (spots : List Spot) (a : ℕ) (x : Spot) (at : ℕ) (o : Occurrence) → AreLaid a spots → In x spots → numbered x.accesses at ≡ Some o → At spots a x at o
number_of [] a x at o l i h = absurd i
number_of (y ∷ ys) a x at o l (inl e) h = record {
  number = at;
  found = record { spot = y; pre = []; post = ys; whole = refl; at = at; here = subst (λ (z : Spot). numbered z.accesses at ≡ Some o) (sym e) h; begins = (let b = l.0 in omega (arith, b)); number = omega arith };
  is = e;
  there = refl;
}
number_of (y ∷ ys) a x at o l (inr i) h =
    let t = number_of ys (a + length y.accesses) x at o l.1 i h in
    record { number = length y.accesses + t.number; found = further y ys a t.number o t.found; is = t.is; there = t.there }

-- ---- what stands beside accesses, as many for each spot

flat_long : {B : Type 0} (f : Spot → List B) (xs : List Spot) → ((x : Spot) → In x xs → length (f x) ≡ length x.accesses) → length (flat_map f xs) ≡ length (flat_map accesses_at xs)
flat_long f [] h = refl
flat_long f (x ∷ xs) h =
    let e : length (f x) ≡ length x.accesses = h x (inl refl) in
    let g : length (flat_map f xs) ≡ length (flat_map accesses_at xs) = flat_long f xs (λ y i. h y (inr i)) in
    let w : length (f x ++ flat_map f xs) ≡ length (f x) + length (flat_map f xs) = length-append (f x) (flat_map f xs) in
    let u : length (x.accesses ++ flat_map accesses_at xs) ≡ length x.accesses + length (flat_map accesses_at xs) = length-append x.accesses (flat_map accesses_at xs) in
    omega (arith, e, g, w, u)

pub beside : {B : Type 0} (f : Spot → List B) (spots : List Spot) → ((x : Spot) → In x spots → length (f x) ≡ length x.accesses) → (a m : ℕ) (o : Occurrence) (l : Located spots a m o) (b : B) → numbered (f l.spot) l.at ≡ Some b → numbered (flat_map f spots) m ≡ Some b
beside {B} f spots h a m o l b e =
    let w : length (flat_map f l.pre) ≡ length (flat_map accesses_at l.pre) = flat_long f l.pre (λ x i. h x (subst (λ (zs : List Spot). In x zs) (sym l.whole) (in_left x l.pre (l.spot ∷ l.post) i))) in
    let i = l.number in
    let j : length (flat_map f l.pre) + l.at ≡ m = omega (arith, w, i) in
    let there : numbered (flat_map f l.pre ++ (f l.spot ++ flat_map f l.post)) (length (flat_map f l.pre) + l.at) ≡ Some b = numbered_later (flat_map f l.pre) (f l.spot ++ flat_map f l.post) l.at b (numbered_first (f l.spot) (flat_map f l.post) l.at b e) in
    let whole : flat_map f l.pre ++ (f l.spot ++ flat_map f l.post) ≡ flat_map f spots = sym (ap (λ (zs : List Spot). flat_map f zs) l.whole ∙ flat_both f l.pre (l.spot ∷ l.post)) in
    subst (λ (n : ℕ). numbered (flat_map f spots) n ≡ Some b) j (subst (λ (zs : List B). numbered zs (length (flat_map f l.pre) + l.at) ≡ Some b) whole there)

-- ---- the forms of an access, and that a valuation has its values

pub form_at : (c : Setting) (k : Known) (a : ℕ) (os : List Occurrence) (n : ℕ) (o : Occurrence) → numbered os n ≡ Some o → numbered (forms_at c k a (places os)) n ≡ Some (subscript_forms (viewed c k (a + n)) o.place.subscripts)
form_at c k a [] zero o h = cc
form_at c k a [] (suc n) o h = cc
form_at c k a (x ∷ os) zero o h = cc
form_at c k a (x ∷ os) (suc zero) o h =
    let e : x ≡ o = cc in
    let f : suc a ≡ a + 1 = omega arith in
    ap (λ (z : Occurrence). Some (subscript_forms (viewed c k (suc a)) z.place.subscripts)) e ∙ ap (λ (m : ℕ). Some (subscript_forms (viewed c k m) o.place.subscripts)) f
form_at c k a (x ∷ os) (suc (suc n)) o h =
    let f : suc a + suc n ≡ a + suc (suc n) = omega arith in
    form_at c k (suc a) os (suc n) o h ∙ ap (λ (m : ℕ). Some (subscript_forms (viewed c k m) o.place.subscripts)) f

pub agrees_at : (v : Atom → ℤ) (c : Setting) (k : Known) (a : ℕ) (site : Site) (cells : Cells) (os : List Occurrence) (n : ℕ) (o : Occurrence) → numbered os n ≡ Some o → AllAgree v c k a site cells os →
    AgreesOn v site cells (formed_all (viewed c k (a + n)) 0 o.place.subscripts).leaves × ((vs : List Value) → (values_of o.place.subscripts site cells).out ≡ Ok vs → AreIndices vs)
agrees_at v c k a site cells [] zero o h g = cc
agrees_at v c k a site cells [] (suc n) o h g = cc
agrees_at v c k a site cells (x ∷ os) zero o h g = cc
agrees_at v c k a site cells (x ∷ os) (suc zero) o h g =
    let e : x ≡ o = cc in
    let f : suc a ≡ a + 1 = omega arith in
    subst (λ (z : Occurrence). AgreesOn v site cells (formed_all (viewed c k (a + 1)) 0 z.place.subscripts).leaves × ((vs : List Value) → (values_of z.place.subscripts site cells).out ≡ Ok vs → AreIndices vs)) e
    (subst (λ (m : ℕ). AgreesOn v site cells (formed_all (viewed c k m) 0 x.place.subscripts).leaves × ((vs : List Value) → (values_of x.place.subscripts site cells).out ≡ Ok vs → AreIndices vs)) f g.0)
agrees_at v c k a site cells (x ∷ os) (suc (suc n)) o h g =
    let f : suc a + suc n ≡ a + suc (suc n) = omega arith in
    subst (λ (m : ℕ). AgreesOn v site cells (formed_all (viewed c k m) 0 o.place.subscripts).leaves × ((vs : List Value) → (values_of o.place.subscripts site cells).out ≡ Ok vs → AreIndices vs)) f
    (agrees_at v c k (suc a) site cells os (suc n) o h g.1)
