-- Lists of pairs.
use Rattle.std.proofs.Common.{◌≡◌, ℕ, zero, suc, ◌<◌, ◌≤◌, Bool, true, false, List, [], ◌∷◌, ◌++◌, drop, length, map, get_or, refl, sym, ap, ◌∙◌, subst, arith, Option, Some, None, slice_get}
use Rattle.std.proofs.lemmas.List.{drop_all}
use Rattle.fl_types.specs.declared.access.Access.{Access}
use Rattle.index_forms.specs.Form.{Form, Forms}
use Rattle.index_forms.specs.Seen.{form_tree}
use Rattle.index_forms.specs.Sums.{differences}
use Rattle.index_forms.specs.Listed.{forms_seen, all_forms_seen}
use Rattle.index_knowledge.specs.declared.pair.Pair.{Pair}
use Rattle.index_knowledge.specs.Knowledge.{KnownPair, Pairing, pairing, is_paired, and_pair, with_pairs_of, with_pairs_at, with_pairs}
use Rattle.index_knowledge.specs.Told.{pair_told, pairs_told}
use Rattle.index_knowledge.proofs.FactLists.{F, Rows, at}

pub pair_none : (c : Pairing) (a b : Access) (r : Bool) (f g : Forms) (ks : List KnownPair) → is_paired c.name r b ≡ false → ks ≡ and_pair c a f r b g ks
pair_none c a b r f g ks h = rw h refl

pairs_more : (ps : List Pair) (x : Pair) → pairs_told (ps ++ x ∷ []) ≡ pairs_told ps ++ pair_told x ∷ []
pairs_more [] x = refl
pairs_more (y ∷ ps) x = ap (λ (l : List KnownPair). pair_told y ∷ l) (pairs_more ps x)

pub pair_made : (n k : ℕ) (x : List ℕ) (a b : Access) (r : Bool) (fs gs ds : F) (ks ls : List Pair) → is_paired x r b ≡ true → map form_tree ds ≡ differences (forms_seen fs) (forms_seen gs) →
    ls ≡ ks ++ record { loop_number = n; first = a.number; second = b.number; differences = ds; nest = k } ∷ [] →
    pairs_told ls ≡ and_pair (pairing n k x) a (forms_seen fs) r b (forms_seen gs) (pairs_told ks)
pair_made n k x a b r fs gs ds ks ls h d g =
    ap pairs_told g ∙ pairs_more ks (record { loop_number = n; first = a.number; second = b.number; differences = ds; nest = k })
    ∙ ap (λ (l : List Form). pairs_told ks ++ record { loop_number = n; first = a.number; second = b.number; differences = l; nest = k } ∷ []) d
    ∙ rw h refl

-- one access more
pub row_more : (c : Pairing) (a : Access) (f : Forms) (rs : List Bool) (bs : List Access) (gs : Rows) (i : ℕ) (r : Bool) (b : Access) (g : F) (ks ls all : List KnownPair) →
    i < length rs → get_or rs i r ≡ r → i < length bs → get_or bs i b ≡ b → i < length gs → get_or gs i g ≡ g →
    ls ≡ and_pair c a f r b (forms_seen g) ks → with_pairs_of c a f (drop i rs) (drop i bs) (all_forms_seen (drop i gs)) ks ≡ all →
    with_pairs_of c a f (drop (suc i) rs) (drop (suc i) bs) (all_forms_seen (drop (suc i) gs)) ls ≡ all
row_more c a f rs bs gs i r b g ks ls all h p h2 p2 k q e w =
    ap (with_pairs_of c a f (drop (suc i) rs) (drop (suc i) bs) (all_forms_seen (drop (suc i) gs))) e
    ∙ sym (ap (λ (l : List Bool). with_pairs_of c a f l (drop i bs) (all_forms_seen (drop i gs)) ks) (at rs i r h p)
    ∙ ap (λ (l : List Access). with_pairs_of c a f (r ∷ drop (suc i) rs) l (all_forms_seen (drop i gs)) ks) (at bs i b h2 p2)
    ∙ ap (λ (l : Rows). with_pairs_of c a f (r ∷ drop (suc i) rs) (b ∷ drop (suc i) bs) (all_forms_seen l) ks) (at gs i g k q))
    ∙ w

pub row_done : (c : Pairing) (a : Access) (f : Forms) (rs : List Bool) (bs : List Access) (gs : List Forms) (i : ℕ) (ks all : List KnownPair) → length rs ≤ i → with_pairs_of c a f (drop i rs) bs gs ks ≡ all → ks ≡ all
row_done c a f rs bs gs i ks all h w = subst (λ (l : List Bool). with_pairs_of c a f l bs gs ks ≡ all) (drop_all i rs h) w

rest_of : {A : Type 0} (xs : List A) (i : ℕ) → i < length xs → (x : A) × (drop i xs ≡ x ∷ drop (suc i) xs)
rest_of [] i h = absurd (omega arith)
rest_of (x ∷ xs) zero h = (x, refl)
rest_of (x ∷ xs) (suc i) h = rest_of xs i (omega arith)

got : {A : Type 0} (xs : List A) (i : ℕ) (x : A) → slice_get xs i ≡ Some x → drop i xs ≡ x ∷ drop (suc i) xs
got [] i x h = cc
got (y ∷ xs) zero x h = let e : y ≡ x = cc in ap (λ z. z ∷ xs) e
got (y ∷ xs) (suc i) x h = got xs i x h

abbrev Step : Pairing → Bool → Access → (f : Forms) → List Bool → List Access → List Forms → List Forms → List Bool → List Access → List Forms → List Forms → (ks ls all : List KnownPair) → Type 0
Step c r a f rs as' fs gs rs0 as0 fs0 gs0 ks ls all =
    ls ≡ with_pairs_at c a f r rs0 as0 gs0 ks → with_pairs c rs0 as0 fs0 gs0 ks ≡ all → with_pairs c rs as' fs gs ls ≡ all

one_more : (c : Pairing) (r : Bool) (a : Access) (f g : Forms) (rs : List Bool) (as' : List Access) (fs gs : List Forms) (ks ls all : List KnownPair) →
    Step c r a f rs as' fs gs (r ∷ rs) (a ∷ as') (f ∷ fs) (g ∷ gs) ks ls all
one_more c r a f g rs as' fs gs ks ls all e w = ap (with_pairs c rs as' fs gs) e ∙ w

-- the pairs of one access more, where it is paired
pub rows_more : (c : Pairing) (rs : List Bool) (as' : List Access) (fs gs : Rows) (i : ℕ) (r : Bool) (a : Access) (f : F) (ks ls all : List KnownPair) →
    slice_get rs i ≡ Some r → i < length as' → get_or as' i a ≡ a → i < length fs → get_or fs i f ≡ f → i < length gs →
    ls ≡ with_pairs_at c a (forms_seen f) r (drop i rs) (drop i as') (all_forms_seen (drop i gs)) ks →
    with_pairs c (drop i rs) (drop i as') (all_forms_seen (drop i fs)) (all_forms_seen (drop i gs)) ks ≡ all →
    with_pairs c (drop (suc i) rs) (drop (suc i) as') (all_forms_seen (drop (suc i) fs)) (all_forms_seen (drop (suc i) gs)) ls ≡ all
rows_more c rs as' fs gs i r a f ks ls all h h2 p2 h3 p3 h4 =
    let t = rest_of gs i h4 in
    let R = drop (suc i) rs in
    let A = drop (suc i) as' in
    let S = all_forms_seen (drop (suc i) fs) in
    let G = all_forms_seen (drop (suc i) gs) in
    let d3 : all_forms_seen (drop i fs) ≡ forms_seen f ∷ S = ap all_forms_seen (at fs i f h3 p3) in
    let d4 : all_forms_seen (drop i gs) ≡ forms_seen t.0 ∷ G = ap all_forms_seen t.1 in
    subst (λ (x : List Bool). Step c r a (forms_seen f) R A S G x (drop i as') (all_forms_seen (drop i fs)) (all_forms_seen (drop i gs)) ks ls all) (sym (got rs i r h))
    (subst (λ (x : List Access). Step c r a (forms_seen f) R A S G (r ∷ R) x (all_forms_seen (drop i fs)) (all_forms_seen (drop i gs)) ks ls all) (sym (at as' i a h2 p2))
    (subst (λ (x : List Forms). Step c r a (forms_seen f) R A S G (r ∷ R) (a ∷ A) x (all_forms_seen (drop i gs)) ks ls all) (sym d3)
    (subst (λ (x : List Forms). Step c r a (forms_seen f) R A S G (r ∷ R) (a ∷ A) (forms_seen f ∷ S) x ks ls all) (sym d4)
    (one_more c r a (forms_seen f) (forms_seen t.0) R A S G ks ls all))))

pub rows_done : (c : Pairing) (rs : List Bool) (as' : List Access) (fs gs : List Forms) (i : ℕ) (ks all : List KnownPair) → length rs ≤ i → with_pairs c (drop i rs) as' fs gs ks ≡ all → ks ≡ all
rows_done c rs as' fs gs i ks all h w = subst (λ (l : List Bool). with_pairs c l as' fs gs ks ≡ all) (drop_all i rs h) w

pub at_none : (c : Pairing) (a : Access) (f : Forms) (r : Bool) (rs : List Bool) (bs : List Access) (gs : List Forms) (ks : List KnownPair) → is_paired c.name r a ≡ false → ks ≡ with_pairs_at c a f r rs bs gs ks
at_none c a f r rs bs gs ks h = rw h refl

pub at_some : (c : Pairing) (a : Access) (f : Forms) (r : Bool) (rs : List Bool) (bs : List Access) (gs : List Forms) (ks ls : List KnownPair) → is_paired c.name r a ≡ true → ls ≡ with_pairs_of c a f rs bs gs ks → ls ≡ with_pairs_at c a f r rs bs gs ks
at_some c a f r rs bs gs ks ls h e = rw h e
