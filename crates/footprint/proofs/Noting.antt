-- What is known of a place after one touch more.
use Rattle.std.specs.Prelude.{◌≡◌, ◌≢◌, ℕ, ◌<◌, ◌≤◌, ◌⊎◌, Bool, true, false, if◌then◌else◌, nat_lt, nat_eq, List, [], ◌∷◌, ◌++◌, Contains, refl}
use Rattle.std.proofs.Common.{ap, sym, inl, inr, arith}
use Rattle.std.proofs.lemmas.Bool.{ltb-true, ltb-false, eqb-true, eqb-false}
use Rattle.std.proofs.lemmas.List.Elements.{Contains-append_left, Contains-push, Contains-push_cases}
use Rattle.fl_types.specs.declared.access.AccessKind.{AccessKind}
use Rattle.fl_types.specs.declared.access.AccessKind.TheVariants.{Read, Write, Update}
use Rattle.meaning.specs.Logs.{Touch}
use Rattle.touches.specs.Touching.{touch}
use Rattle.footprint.specs.declared.iterations.Iterations.{Iterations}
use Rattle.footprint.specs.declared.iterations.Iterations.TheVariants.{Nobody, One, More}
use Rattle.footprint.specs.Known.{AreLeast, Known, IsKnown, with_iteration, with_touch, nothing_known}

noted : (P Q : ℕ → Type 0) (n : ℕ) → ((m : ℕ) → P m → Q m) → Q n → ((m : ℕ) → Q m → P m ⊎ (n ≡ m)) → (k : Iterations) → AreLeast P k → AreLeast Q (with_iteration k n)
noted P Q n up new down Nobody f = (new, λ m q. only m (down m q))
  where
    only : (m : ℕ) → P m ⊎ (n ≡ m) → m ≡ n
    only m (inl p) = absurd (f m p)
    only m (inr e) = sym e
noted P Q n up new down (One i) f = by_tests (nat_lt n i) (nat_lt i n) refl refl
  where
    below : n < i → (m : ℕ) → P m ⊎ (n ≡ m) → (m ≡ n) ⊎ (i ≤ m)
    below h m (inl p) = let e : m ≡ i = f.1 m p in inr (omega arith)
    below h m (inr e) = inl (sym e)

    above : i < n → (m : ℕ) → P m ⊎ (n ≡ m) → (m ≡ i) ⊎ (n ≤ m)
    above h m (inl p) = inl (f.1 m p)
    above h m (inr e) = inr (omega arith)

    again : i ≡ n → (m : ℕ) → P m ⊎ (n ≡ m) → m ≡ i
    again h m (inl p) = f.1 m p
    again h m (inr e) = omega arith

    by_tests : (t s : Bool) → nat_lt n i ≡ t → nat_lt i n ≡ s → AreLeast Q (if t then More n i else if s then More i n else One i)
    by_tests true s e g = let h : n < i = ltb-true n i e in (new, up i f.0, h, λ m q. below h m (down m q))
    by_tests false true e g = let h : i < n = ltb-true i n g in (up i f.0, new, h, λ m q. above h m (down m q))
    by_tests false false e g =
        let a : i ≤ n = ltb-false n i e in
        let b : n ≤ i = ltb-false i n g in
        (up i f.0, λ m q. again (omega arith) m (down m q))
noted P Q n up new down (More i j) f = by_tests (nat_lt n i) (nat_eq n i) (nat_lt n j) refl refl refl
  where
    lower : (m : ℕ) → (m ≡ i) ⊎ (j ≤ m) → i ≤ m
    lower m (inl e) = omega arith
    lower m (inr l) = let k : i < j = f.2 in omega arith

    below : n < i → (m : ℕ) → P m ⊎ (n ≡ m) → (m ≡ n) ⊎ (i ≤ m)
    below h m (inl p) = inr (lower m (f.3 m p))
    below h m (inr e) = inl (sym e)

    again : n ≡ i → (m : ℕ) → P m ⊎ (n ≡ m) → (m ≡ i) ⊎ (j ≤ m)
    again h m (inl p) = f.3 m p
    again h m (inr e) = inl (omega arith)

    wider : n < j → (m : ℕ) → (m ≡ i) ⊎ (j ≤ m) → (m ≡ i) ⊎ (n ≤ m)
    wider h m (inl e) = inl e
    wider h m (inr l) = inr (omega arith)

    between : n < j → (m : ℕ) → P m ⊎ (n ≡ m) → (m ≡ i) ⊎ (n ≤ m)
    between h m (inl p) = wider h m (f.3 m p)
    between h m (inr e) = inr (omega arith)

    beyond : j ≤ n → (m : ℕ) → P m ⊎ (n ≡ m) → (m ≡ i) ⊎ (j ≤ m)
    beyond h m (inl p) = f.3 m p
    beyond h m (inr e) = inr (omega arith)

    by_tests : (t s r : Bool) → nat_lt n i ≡ t → nat_eq n i ≡ s → nat_lt n j ≡ r
        → AreLeast Q (if t then More n i else if s then More i j else if r then More i n else More i j)
    by_tests true s r e g d = let h : n < i = ltb-true n i e in (new, up i f.0, h, λ m q. below h m (down m q))
    by_tests false true r e g d = (up i f.0, up j f.1, f.2, λ m q. again (eqb-true n i g) m (down m q))
    by_tests false false true e g d =
        let h : n < j = ltb-true n j d in
        let l : i ≤ n = ltb-false n i e in
        let o : n ≢ i = eqb-false n i g in
        (up i f.0, new, omega arith, λ m q. between h m (down m q))
    by_tests false false false e g d = (up i f.0, up j f.1, f.2, λ m q. beyond (ltb-false n j d) m (down m q))

same : (P Q : ℕ → Type 0) → ((m : ℕ) → P m → Q m) → ((m : ℕ) → Q m → P m) → (k : Iterations) → AreLeast P k → AreLeast Q k
same P Q up down Nobody f = λ m q. f m (down m q)
same P Q up down (One i) f = (up i f.0, λ m q. f.1 m (down m q))
same P Q up down (More i j) f = (up i f.0, up j f.1, f.2, λ m q. f.3 m (down m q))

-- ---- touches of one kind at a place

of_kind : (ts : List Touch) (p n : ℕ) (kind : AccessKind) (k : Iterations) → AreLeast (λ i. Contains ts (touch p i kind)) k
    → AreLeast (λ i. Contains (ts ++ touch p n kind ∷ []) (touch p i kind)) (with_iteration k n)
of_kind ts p n kind k f = noted _ _ n up (Contains-push ts (touch p n kind)) down k f
  where
    up : (m : ℕ) → Contains ts (touch p m kind) → Contains (ts ++ touch p n kind ∷ []) (touch p m kind)
    up m c = Contains-append_left ts (touch p n kind ∷ []) (touch p m kind) c

    or_new : (m : ℕ) → Contains ts (touch p m kind) ⊎ (touch p n kind ≡ touch p m kind) → Contains ts (touch p m kind) ⊎ (n ≡ m)
    or_new m (inl c) = inl c
    or_new m (inr e) = inr (ap (λ (t : Touch). t.iteration) e)

    down : (m : ℕ) → Contains (ts ++ touch p n kind ∷ []) (touch p m kind) → Contains ts (touch p m kind) ⊎ (n ≡ m)
    down m c = or_new m (Contains-push_cases ts (touch p n kind) (touch p m kind) c)

of_other : (ts : List Touch) (t : Touch) (p : ℕ) (kind : AccessKind) → ((m : ℕ) → t ≡ touch p m kind → ⊥) → (k : Iterations) → AreLeast (λ i. Contains ts (touch p i kind)) k
    → AreLeast (λ i. Contains (ts ++ t ∷ []) (touch p i kind)) k
of_other ts t p kind other k f = same _ _ up down k f
  where
    up : (m : ℕ) → Contains ts (touch p m kind) → Contains (ts ++ t ∷ []) (touch p m kind)
    up m c = Contains-append_left ts (t ∷ []) (touch p m kind) c

    old : (m : ℕ) → Contains ts (touch p m kind) ⊎ (t ≡ touch p m kind) → Contains ts (touch p m kind)
    old m (inl c) = c
    old m (inr e) = absurd (other m e)

    down : (m : ℕ) → Contains (ts ++ t ∷ []) (touch p m kind) → Contains ts (touch p m kind)
    down m c = old m (Contains-push_cases ts t (touch p m kind) c)

other_kind : (p n m : ℕ) (j k : AccessKind) → (j ≡ k → ⊥) → touch p n j ≡ touch p m k → ⊥
other_kind p n m j k h e = h (ap (λ (t : Touch). t.kind) e)

pub at_place : (ts : List Touch) (p n : ℕ) (kind : AccessKind) (k : Known) → IsKnown ts p k → IsKnown (ts ++ touch p n kind ∷ []) p (with_touch kind n k)
at_place ts p n Read k f = record {
  reads = of_kind ts p n Read k.reads f.reads;
  writes = of_other ts (touch p n Read) p Write (λ m. other_kind p n m Read Write (λ e. cc)) k.writes f.writes;
  updates = of_other ts (touch p n Read) p Update (λ m. other_kind p n m Read Update (λ e. cc)) k.updates f.updates;
}
at_place ts p n Write k f = record {
  reads = of_other ts (touch p n Write) p Read (λ m. other_kind p n m Write Read (λ e. cc)) k.reads f.reads;
  writes = of_kind ts p n Write k.writes f.writes;
  updates = of_other ts (touch p n Write) p Update (λ m. other_kind p n m Write Update (λ e. cc)) k.updates f.updates;
}
at_place ts p n Update k f = record {
  reads = of_other ts (touch p n Update) p Read (λ m. other_kind p n m Update Read (λ e. cc)) k.reads f.reads;
  writes = of_other ts (touch p n Update) p Write (λ m. other_kind p n m Update Write (λ e. cc)) k.writes f.writes;
  updates = of_kind ts p n Update k.updates f.updates;
}

pub elsewhere : (ts : List Touch) (q p n : ℕ) (kind : AccessKind) (k : Known) → q ≢ p → IsKnown ts p k → IsKnown (ts ++ touch q n kind ∷ []) p k
elsewhere ts q p n kind k h f = record {
  reads = of_other ts (touch q n kind) p Read (λ m e. h (ap (λ (t : Touch). t.place) e)) k.reads f.reads;
  writes = of_other ts (touch q n kind) p Write (λ m e. h (ap (λ (t : Touch). t.place) e)) k.writes f.writes;
  updates = of_other ts (touch q n kind) p Update (λ m e. h (ap (λ (t : Touch). t.place) e)) k.updates f.updates;
}

nothing_in : (t : Touch) → Contains [] t → ⊥
nothing_in t c = absurd (omega (arith, c.1))

pub of_nothing : (p : ℕ) → IsKnown [] p nothing_known
of_nothing p = record {
  reads = λ i c. nothing_in (touch p i Read) c;
  writes = λ i c. nothing_in (touch p i Write) c;
  updates = λ i c. nothing_in (touch p i Update) c;
}
