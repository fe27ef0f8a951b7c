-- A table after one touch more.
use Rattle.std.specs.Prelude.{◌≡◌, ℕ, ◌<◌, ◌≤◌, ◌⊎◌, Bool, true, false, if◌then◌else◌, nat_lt, List, [], ◌∷◌, ◌++◌, length, slice_index_or, slice_set, Contains, Option, Some, None, refl}
use Rattle.std.specs.Option.{is_some}
use Rattle.std.proofs.Common.{ap, sym, ◌∙◌, subst, inl, inr, arith, length-set, get_or-set_same, get_or-set_other}
use Rattle.std.proofs.lemmas.Bool.{ltb-true, ltb-false, cases_eq}
use Rattle.std.proofs.lemmas.List.{get_or_read}
use Rattle.std.proofs.lemmas.List.Elements.{Contains-append_left, Contains-push_cases}
use Rattle.fl_types.specs.declared.access.AccessKind.{AccessKind}
use Rattle.meaning.specs.Logs.{Touch}
use Rattle.meaning.specs.Conflicts.{Clash, IsClash}
use Rattle.touches.specs.Touching.{touch}
use Rattle.footprint.specs.declared.iterations.IterationPair.{IterationPair}
use Rattle.footprint.specs.declared.toucher.Toucher.{Toucher}
use Rattle.footprint.specs.declared.toucher.Changers.{Changers}
use Rattle.footprint.specs.Known.{Known, IsKnown, with_touch, least_pair}
use Rattle.footprint.specs.Kept.{known_at}
use Rattle.footprint.specs.Standing.{Table, IsTable, no_toucher, no_changers, known_there, lesser_place, IsLeastPlace, StandsFor}
use Rattle.footprint.proofs.Pairs.{LeastPair}
use Rattle.footprint.proofs.Reading.{clash, read_off}
use Rattle.footprint.proofs.Noting.{at_place, elsewhere}

-- a pair that is there
some_pair : (Q : ℕ → ℕ → Type 0) (o : Option IterationPair) → is_some o ≡ true → LeastPair Q o → (p : IterationPair) × Q p.first p.second
some_pair Q None e f = absurd (cc)
some_pair Q (Some p) e f = (p, f.0)

no_pair : (Q : ℕ → ℕ → Type 0) (o : Option IterationPair) → is_some o ≡ false → LeastPair Q o → (i j : ℕ) → Q i j → ⊥
no_pair Q None e f = f
no_pair Q (Some p) e f = absurd (cc)

-- ---- clashes with one touch more

still : (ts : List Touch) (o : Touch) (c : Clash) → IsClash ts c → IsClash (ts ++ o ∷ []) c
still ts o c h = record {
  one = h.one;
  other = h.other;
  has_one = Contains-append_left ts (o ∷ []) _ h.has_one;
  has_other = Contains-append_left ts (o ∷ []) _ h.has_other;
  in_order = h.in_order;
  kinds = h.kinds;
}

old_touch : (ts : List Touch) (o t : Touch) → (t.place ≡ o.place → ⊥) → Contains (ts ++ o ∷ []) t → Contains ts t
old_touch ts o t h c = by_cases (Contains-push_cases ts o t c)
  where
    by_cases : Contains ts t ⊎ (o ≡ t) → Contains ts t
    by_cases (inl d) = d
    by_cases (inr e) = absurd (h (ap (λ (x : Touch). x.place) (sym e)))

old_clash : (ts : List Touch) (o : Touch) (c : Clash) → IsClash (ts ++ o ∷ []) c → (c.place ≡ o.place) ⊎ IsClash ts c
old_clash ts o c h = by_cases (cases_eq c.place o.place)
  where
    by_cases : (c.place ≡ o.place) ⊎ (c.place ≡ o.place → ⊥) → (c.place ≡ o.place) ⊎ IsClash ts c
    by_cases (inl e) = inl e
    by_cases (inr n) = inr (record {
      one = h.one;
      other = h.other;
      has_one = old_touch ts o (touch c.place c.first h.one) n h.has_one;
      has_other = old_touch ts o (touch c.place c.second h.other) n h.has_other;
      in_order = h.in_order;
      kinds = h.kinds;
    })

-- ---- the least place, the touch being at p

with_clash : (ts : List Touch) (o : Touch) (least : Option ℕ) (p : ℕ) → o.place ≡ p → IsLeastPlace ts least → (c : Clash) → IsClash (ts ++ o ∷ []) c → c.place ≡ p
    → IsLeastPlace (ts ++ o ∷ []) (Some (lesser_place least p))
with_clash ts o None p e f c h g = ((c, (h, g)), λ d k. bound d (old_clash ts o d k))
  where
    bound : (d : Clash) → (d.place ≡ o.place) ⊎ IsClash ts d → p ≤ d.place
    bound d (inl q) = omega arith
    bound d (inr k) = absurd (f d k)
with_clash ts o (Some q) p e f c h g = by_test (nat_lt q p) refl
  where
    bound : (r : ℕ) → r ≤ p → r ≤ q → (d : Clash) → (d.place ≡ o.place) ⊎ IsClash ts d → r ≤ d.place
    bound r a b d (inl s) = omega arith
    bound r a b d (inr k) = let l : q ≤ d.place = f.1 d k in omega arith

    by_test : (t : Bool) → nat_lt q p ≡ t → IsLeastPlace (ts ++ o ∷ []) (Some (if t then q else p))
    by_test true t = let l : q < p = ltb-true q p t in ((f.0.0, (still ts o f.0.0 f.0.1.0, f.0.1.1)), λ d k. bound q (omega arith) (omega arith) d (old_clash ts o d k))
    by_test false t = let l : p ≤ q = ltb-false q p t in ((c, (h, g)), λ d k. bound p (omega arith) l d (old_clash ts o d k))

without_clash : (ts : List Touch) (o : Touch) (least : Option ℕ) → IsLeastPlace ts least → ((d : Clash) → IsClash (ts ++ o ∷ []) d → d.place ≡ o.place → ⊥)
    → IsLeastPlace (ts ++ o ∷ []) least
without_clash ts o None f h = λ d k. none d k (old_clash ts o d k)
  where
    none : (d : Clash) → IsClash (ts ++ o ∷ []) d → (d.place ≡ o.place) ⊎ IsClash ts d → ⊥
    none d k (inl e) = h d k e
    none d k (inr g) = f d g
without_clash ts o (Some q) f h = ((f.0.0, (still ts o f.0.0 f.0.1.0, f.0.1.1)), λ d k. bound d k (old_clash ts o d k))
  where
    bound : (d : Clash) → IsClash (ts ++ o ∷ []) d → (d.place ≡ o.place) ⊎ IsClash ts d → q ≤ d.place
    bound d k (inl e) = absurd (h d k e)
    bound d k (inr g) = f.1 d g

abbrev pub new_least : Bool → Option ℕ → ℕ → Option ℕ
new_least true least p = Some (lesser_place least p)
new_least false least p = least

least_after : (ts : List Touch) (p n : ℕ) (kind : AccessKind) (least : Option ℕ) (k : Known) (b : Bool) → IsLeastPlace ts least → IsKnown (ts ++ touch p n kind ∷ []) p k
    → b ≡ is_some (least_pair k) → IsLeastPlace (ts ++ touch p n kind ∷ []) (new_least b least p)
least_after ts p n kind least k true f g e =
    let found : (q : IterationPair) × IsClash (ts ++ touch p n kind ∷ []) (clash p q.first q.second) =
    some_pair (λ i j. IsClash (ts ++ touch p n kind ∷ []) (clash p i j)) (least_pair k) (sym e) (read_off _ p k g) in
    with_clash ts (touch p n kind) least p refl f (clash p found.0.first found.0.second) found.1 refl
least_after ts p n kind least k false f g e = without_clash ts (touch p n kind) least f none
  where
    none : (d : Clash) → IsClash (ts ++ touch p n kind ∷ []) d → d.place ≡ p → ⊥
    none d h q =
        let F : ℕ → Type 0 = λ r. IsClash (ts ++ touch p n kind ∷ []) (clash r d.first d.second) in
        no_pair (λ i j. IsClash (ts ++ touch p n kind ∷ []) (clash p i j)) (least_pair k) (sym e) (read_off _ p k g) d.first d.second (subst F q h)

-- ---- the table

abbrev pub touched_table : Table → ℕ → Toucher → Changers → Bool → Table
touched_table t p o c b = record t { touchers = slice_set t.touchers p o; changers = slice_set t.changers p c; least = new_least b t.least p }

pub stands_after : (t : Table) → IsTable t → (line : ℕ) (ts : List Touch) → StandsFor t line ts → (p n : ℕ) (kind : AccessKind) → p < length t.touchers
    → (o : Toucher) (c : Changers) (b : Bool) → known_at t.instance o c ≡ with_touch kind n (known_there t p) → b ≡ is_some (least_pair (known_at t.instance o c))
    → StandsFor (touched_table t p o c b) line (ts ++ touch p n kind ∷ [])
stands_after t v line ts s p n kind h o c b e g = record {
  of_line = s.of_line;
  inside = λ x k. rw length-set (inside x (Contains-push_cases ts (touch p n kind) x k));
  known = λ q k. known q (rw length-set at k) (cases_eq q p);
  least = least_after ts p n kind t.least (known_at t.instance o c) b s.least here g;
}
  where
    inside : (x : Touch) → Contains ts x ⊎ (touch p n kind ≡ x) → x.place < length t.touchers
    inside x (inl k) = s.inside x k
    inside x (inr k) = let f : p ≡ x.place = ap (λ (y : Touch). y.place) k in omega arith

    here : IsKnown (ts ++ touch p n kind ∷ []) p (known_at t.instance o c)
    here = rw e (at_place ts p n kind (known_there t p) (s.known p h))

    in_changers : p < length t.changers
    in_changers = let l : length t.changers ≡ length t.touchers = v.same_length in omega arith

    known : (q : ℕ) → q < length t.touchers → (q ≡ p) ⊎ (q ≡ p → ⊥)
        → IsKnown (ts ++ touch p n kind ∷ []) q (known_at t.instance (slice_index_or (slice_set t.touchers p o) q no_toucher) (slice_index_or (slice_set t.changers p c) q no_changers))
    known q k (inl f) =
        let l = in_changers in
        let F : ℕ → Type 0 = λ r. IsKnown (ts ++ touch p n kind ∷ []) r (known_at t.instance (slice_index_or (slice_set t.touchers p o) r no_toucher) (slice_index_or (slice_set t.changers p c) r no_changers)) in
        subst F (sym f) (rw (get_or-set_same t.touchers p o no_toucher h, get_or-set_same t.changers p c no_changers l) here)
    known q k (inr f) =
        rw (get_or-set_other t.touchers p q o no_toucher f, get_or-set_other t.changers p q c no_changers f)
        (elsewhere ts p q n kind (known_there t q) (λ x. f (sym x)) (s.known q k))

-- the same by the elements of the two lists
pub stands_by_elements : (t u : Table) → u ≡ t → IsTable u → (line : ℕ) (ts : List Touch) → StandsFor t line ts → (p n : ℕ) (kind : AccessKind) → p < length t.touchers
    → (o : Toucher) (c : Changers) (b r : Bool) (o0 : Toucher) (c0 : Changers) → o0 ≡ slice_index_or u.touchers p o0 → c0 ≡ slice_index_or u.changers p c0
    → known_at u.instance o c ≡ with_touch kind n (known_at u.instance o0 c0) → r ≡ is_some (least_pair (known_at u.instance o c)) → r ≡ b
    → StandsFor (touched_table u p o c b) line (ts ++ touch p n kind ∷ [])
stands_by_elements t u w v line ts s p n kind h o c b r o0 c0 e0 f0 e g q =
    let S : Table → Type 0 = λ x. StandsFor x line ts in
    let s' : StandsFor u line ts = subst S (sym w) s in
    let h' : p < length u.touchers = rw w h in
    let l : p < length u.changers = let m : length u.changers ≡ length u.touchers = v.same_length in omega arith in
    stands_after u v line ts s' p n kind h' o c b
    (e ∙ ap (λ (x : Known). with_touch kind n x) (ap (λ (x : Toucher). known_at u.instance x c0) (get_or_read u.touchers p o0 h' e0 no_toucher)
    ∙ ap (λ (y : Changers). known_at u.instance (slice_index_or u.touchers p no_toucher) y) (get_or_read u.changers p c0 l f0 no_changers)))
    (sym q ∙ g)
