-- Lists of bindings: a valuation by a list without repeats has all of them.
use Rattle.std.proofs.Common.{◌≡◌, ℕ, ◌≤◌, Bool, true, false, ℤ, List, [], ◌∷◌, ◌++◌, refl, ap, sym, ◌∙◌, subst, arith}
use Rattle.std.specs.Prelude.{◌&&◌, if◌then◌else◌, nat_eq, bytes_eq}
use Rattle.std.proofs.lemmas.Bool.{and_parts, and_from}
use Rattle.std.proofs.lemmas.Bool.Decides.{nat_tests}
use Rattle.std.proofs.lemmas.Slice.Eq.{bytes_eq-Decides}
use Rattle.index_forms.specs.declared.form.Side.{Side}
use Rattle.index_forms.specs.declared.form.Side.TheVariants.{One, Two}
use Rattle.index_forms.specs.Form.{Atom, start, iter, inner, inv, version, read, opaque, start2, iter2}
use Rattle.apart_law.specs.Bindings.{Binding, Agrees, IsAbsent, AreApart, same_side, is_atom, given, Lies, AllHave, AllLie}

-- ---- parts of lists

pub agrees_left : (v : Atom → ℤ) (bs cs : List Binding) → Agrees v (bs ++ cs) → Agrees v bs
agrees_left v [] cs h = tt
agrees_left v (b ∷ bs) cs h = (h.0, agrees_left v bs cs h.1)

pub agrees_right : (v : Atom → ℤ) (bs cs : List Binding) → Agrees v (bs ++ cs) → Agrees v cs
agrees_right v [] cs h = h
agrees_right v (b ∷ bs) cs h = agrees_right v bs cs h.1

pub have_both : (P : Atom → Type 0) (bs cs : List Binding) → AllHave P bs → AllHave P cs → AllHave P (bs ++ cs)
have_both P [] cs h g = g
have_both P (x ∷ bs) cs h g = (h.0, have_both P bs cs h.1 g)

pub have_weaker : (P Q : Atom → Type 0) → ((x : Atom) → P x → Q x) → (bs : List Binding) → AllHave P bs → AllHave Q bs
have_weaker P Q f [] h = tt
have_weaker P Q f (x ∷ bs) h = (f x.0 h.0, have_weaker P Q f bs h.1)

pub lie_both : (side : Side) (n m a b : ℕ) (ls : ℕ → Bool) (bs cs : List Binding) → AllLie side n m a b ls bs → AllLie side n m a b ls cs → AllLie side n m a b ls (bs ++ cs)
lie_both side n m a b ls bs cs h g = have_both (Lies side n m a b ls) bs cs h g

-- within wider limits
pub lies_wider : (side : Side) (n m a b n2 m2 a2 b2 : ℕ) (ls ls2 : ℕ → Bool) → n2 ≤ n → m ≤ m2 → a2 ≤ a → b ≤ b2 → ((l : ℕ) → ls l ≡ true → ls2 l ≡ true) →
    (x : Atom) → Lies side n m a b ls x → Lies side n2 m2 a2 b2 ls2 x
lies_wider side n m a b n2 m2 a2 b2 ls ls2 p q r s f start h = absurd h
lies_wider side n m a b n2 m2 a2 b2 ls ls2 p q r s f (iter t) h = absurd h
lies_wider side n m a b n2 m2 a2 b2 ls ls2 p q r s f (inner t l) h = (h.0, f l h.1)
lies_wider side n m a b n2 m2 a2 b2 ls ls2 p q r s f (inv x) h = absurd h
lies_wider side n m a b n2 m2 a2 b2 ls ls2 p q r s f (version t k x) h = let i = h.1 in let j = h.2 in (h.0, omega (arith, i, p), omega (arith, j, q))
lies_wider side n m a b n2 m2 a2 b2 ls ls2 p q r s f (read x fs) h = absurd h
lies_wider side n m a b n2 m2 a2 b2 ls ls2 p q r s f (opaque t k i) h = let u = h.1 in let w = h.2 in (h.0, omega (arith, u, r), omega (arith, w, s))
lies_wider side n m a b n2 m2 a2 b2 ls ls2 p q r s f start2 h = absurd h
lies_wider side n m a b n2 m2 a2 b2 ls ls2 p q r s f (iter2 t) h = absurd h

pub lie_wider : (side : Side) (n m a b n2 m2 a2 b2 : ℕ) (ls ls2 : ℕ → Bool) → n2 ≤ n → m ≤ m2 → a2 ≤ a → b ≤ b2 → ((l : ℕ) → ls l ≡ true → ls2 l ≡ true) →
    (bs : List Binding) → AllLie side n m a b ls bs → AllLie side n2 m2 a2 b2 ls2 bs
lie_wider side n m a b n2 m2 a2 b2 ls ls2 p q r s f bs h = have_weaker (Lies side n m a b ls) (Lies side n2 m2 a2 b2 ls2) (lies_wider side n m a b n2 m2 a2 b2 ls ls2 p q r s f) bs h

-- ---- joining

abbrev pub Separate : (P Q : Atom → Type 0) → Type 0
Separate P Q = (x : Atom) → P x → Q x → ⊥

pub absent_in : (P Q : Atom → Type 0) → Separate P Q → (x : Atom) → P x → (cs : List Binding) → AllHave Q cs → IsAbsent x cs
absent_in P Q f x p [] h = tt
absent_in P Q f x p (c ∷ cs) h = (λ e. f x p (subst Q (sym e) h.0), absent_in P Q f x p cs h.1)

absent_both : (x : Atom) (bs cs : List Binding) → IsAbsent x bs → IsAbsent x cs → IsAbsent x (bs ++ cs)
absent_both x [] cs h g = g
absent_both x (b ∷ bs) cs h g = (h.0, absent_both x bs cs h.1 g)

pub apart_both : (P Q : Atom → Type 0) (bs cs : List Binding) → Separate P Q → AllHave P bs → AllHave Q cs → AreApart bs → AreApart cs → AreApart (bs ++ cs)
apart_both P Q [] cs f h g p q = q
apart_both P Q (x ∷ bs) cs f h g p q = (absent_both x.0 bs cs p.0 (absent_in P Q f x.0 h.0 cs g), apart_both P Q bs cs f h.1 g p.1 q)

-- one after the other
pub separate_after : (side other : Side) (n m a b n2 m2 a2 b2 : ℕ) (ls ls2 : ℕ → Bool) → m ≤ n2 → b ≤ a2 → ((l : ℕ) → ls l ≡ true → ls2 l ≡ true → ⊥) → Separate (Lies side n m a b ls) (Lies other n2 m2 a2 b2 ls2)
separate_after side other n m a b n2 m2 a2 b2 ls ls2 p q f start h g = h
separate_after side other n m a b n2 m2 a2 b2 ls ls2 p q f (iter t) h g = h
separate_after side other n m a b n2 m2 a2 b2 ls ls2 p q f (inner t l) h g = f l h.1 g.1
separate_after side other n m a b n2 m2 a2 b2 ls ls2 p q f (inv x) h g = h
separate_after side other n m a b n2 m2 a2 b2 ls ls2 p q f (version t k x) h g = let i = h.2 in let j = g.1 in omega (arith, i, j, p)
separate_after side other n m a b n2 m2 a2 b2 ls ls2 p q f (read x fs) h g = h
separate_after side other n m a b n2 m2 a2 b2 ls ls2 p q f (opaque t k i) h g = let u = h.2 in let w = g.1 in omega (arith, u, w, q)
separate_after side other n m a b n2 m2 a2 b2 ls ls2 p q f start2 h g = h
separate_after side other n m a b n2 m2 a2 b2 ls ls2 p q f (iter2 t) h g = h

-- of two sides
pub separate_sides : (side other : Side) (n m a b n2 m2 a2 b2 : ℕ) (ls ls2 : ℕ → Bool) → ¬ (side ≡ other) → Separate (Lies side n m a b ls) (Lies other n2 m2 a2 b2 ls2)
separate_sides side other n m a b n2 m2 a2 b2 ls ls2 d start h g = h
separate_sides side other n m a b n2 m2 a2 b2 ls ls2 d (iter t) h g = h
separate_sides side other n m a b n2 m2 a2 b2 ls ls2 d (inner t l) h g = d (sym h.0 ∙ g.0)
separate_sides side other n m a b n2 m2 a2 b2 ls ls2 d (inv x) h g = h
separate_sides side other n m a b n2 m2 a2 b2 ls ls2 d (version t k x) h g = d (sym h.0 ∙ g.0)
separate_sides side other n m a b n2 m2 a2 b2 ls ls2 d (read x fs) h g = h
separate_sides side other n m a b n2 m2 a2 b2 ls ls2 d (opaque t k i) h g = d (sym h.0 ∙ g.0)
separate_sides side other n m a b n2 m2 a2 b2 ls ls2 d start2 h g = h
separate_sides side other n m a b n2 m2 a2 b2 ls ls2 d (iter2 t) h g = h

-- ---- the valuation of a list

side_is : (s t : Side) → same_side s t ≡ true → s ≡ t
side_is One One e = refl
side_is One Two e = cc
side_is Two One e = cc
side_is Two Two e = refl

side_itself : (s : Side) → same_side s s ≡ true
side_itself One = refl
side_itself Two = refl

nat_is : (m n : ℕ) → nat_eq m n ≡ true → m ≡ n
nat_is m n e = grind (arith, nat_tests)

nat_itself : (n : ℕ) → nat_eq n n ≡ true
nat_itself n = grind (arith, nat_tests)

inner_is : (s t : Side) (l m : ℕ) → (same_side s t && nat_eq l m) ≡ true → inner s l ≡ inner t m
inner_is s t l m e =
    let p = and_parts (same_side s t) (nat_eq l m) e in
    ap (λ (u : Side). inner u l) (side_is s t p.0) ∙ ap (inner t) (nat_is l m p.1)

version_is : (s t : Side) (n m : ℕ) (x y : List ℕ) → (same_side s t && (nat_eq n m && bytes_eq x y)) ≡ true → version s n x ≡ version t m y
version_is s t n m x y e =
    let p = and_parts (same_side s t) (nat_eq n m && bytes_eq x y) e in
    let q = and_parts (nat_eq n m) (bytes_eq x y) p.1 in
    ap (λ (u : Side). version u n x) (side_is s t p.0) ∙ (ap (λ (k : ℕ). version t k x) (nat_is n m q.0) ∙ ap (version t m) ((bytes_eq-Decides x y).0 q.1))

opaque_is : (s t : Side) (a b n m : ℕ) → (same_side s t && (nat_eq a b && nat_eq n m)) ≡ true → opaque s a n ≡ opaque t b m
opaque_is s t a b n m e =
    let p = and_parts (same_side s t) (nat_eq a b && nat_eq n m) e in
    let q = and_parts (nat_eq a b) (nat_eq n m) p.1 in
    ap (λ (u : Side). opaque u a n) (side_is s t p.0) ∙ (ap (λ (k : ℕ). opaque t k n) (nat_is a b q.0) ∙ ap (opaque t b) (nat_is n m q.1))

same_is : (a b : Atom) → is_atom a b ≡ true → a ≡ b
same_is start b e = cc
same_is (iter s) b e = cc
same_is (inner s l) start e = cc
same_is (inner s l) (iter t) e = cc
same_is (inner s l) (inner t m) e = inner_is s t l m e
same_is (inner s l) (inv x) e = cc
same_is (inner s l) (version t n x) e = cc
same_is (inner s l) (read x fs) e = cc
same_is (inner s l) (opaque t a n) e = cc
same_is (inner s l) start2 e = cc
same_is (inner s l) (iter2 t) e = cc
same_is (inv x) b e = cc
same_is (version s n x) start e = cc
same_is (version s n x) (iter t) e = cc
same_is (version s n x) (inner t m) e = cc
same_is (version s n x) (inv y) e = cc
same_is (version s n x) (version t m y) e = version_is s t n m x y e
same_is (version s n x) (read y fs) e = cc
same_is (version s n x) (opaque t a m) e = cc
same_is (version s n x) start2 e = cc
same_is (version s n x) (iter2 t) e = cc
same_is (read x fs) b e = cc
same_is (opaque s a n) start e = cc
same_is (opaque s a n) (iter t) e = cc
same_is (opaque s a n) (inner t m) e = cc
same_is (opaque s a n) (inv y) e = cc
same_is (opaque s a n) (version t m y) e = cc
same_is (opaque s a n) (read y fs) e = cc
same_is (opaque s a n) (opaque t b m) e = opaque_is s t a b n m e
same_is (opaque s a n) start2 e = cc
same_is (opaque s a n) (iter2 t) e = cc
same_is start2 b e = cc
same_is (iter2 s) b e = cc

-- an atom that lies in some limits is itself
lying_is : (side : Side) (n m a b : ℕ) (ls : ℕ → Bool) (x : Atom) → Lies side n m a b ls x → is_atom x x ≡ true
lying_is side n m a b ls start h = absurd h
lying_is side n m a b ls (iter s) h = absurd h
lying_is side n m a b ls (inner s l) h = and_from (same_side s s) (nat_eq l l) (side_itself s) (nat_itself l)
lying_is side n m a b ls (inv x) h = absurd h
lying_is side n m a b ls (version s k x) h = and_from (same_side s s) (nat_eq k k && bytes_eq x x) (side_itself s) (and_from (nat_eq k k) (bytes_eq x x) (nat_itself k) ((bytes_eq-Decides x x).1 refl))
lying_is side n m a b ls (read x fs) h = absurd h
lying_is side n m a b ls (opaque s k i) h = and_from (same_side s s) (nat_eq k k && nat_eq i i) (side_itself s) (and_from (nat_eq k k) (nat_eq i i) (nat_itself k) (nat_itself i))
lying_is side n m a b ls start2 h = absurd h
lying_is side n m a b ls (iter2 s) h = absurd h

-- each atom of the list is itself
abbrev pub AreThemselves : List Binding → Type 0
AreThemselves [] = Unit {0}
AreThemselves (b ∷ bs) = (is_atom b.0 b.0 ≡ true) × AreThemselves bs

pub themselves : (side : Side) (n m a b : ℕ) (ls : ℕ → Bool) (bs : List Binding) → AllLie side n m a b ls bs → AreThemselves bs
themselves side n m a b ls [] h = tt
themselves side n m a b ls (x ∷ bs) h = (lying_is side n m a b ls x.0 h.0, themselves side n m a b ls bs h.1)

pub themselves_both : (bs cs : List Binding) → AreThemselves bs → AreThemselves cs → AreThemselves (bs ++ cs)
themselves_both [] cs h g = g
themselves_both (b ∷ bs) cs h g = (h.0, themselves_both bs cs h.1 g)

skipped : (b : Binding) (bs : List Binding) (other : Atom → ℤ) (a : Atom) → ¬ (b.0 ≡ a) → given (b ∷ bs) other a ≡ given bs other a
skipped b bs other a d = by_test (is_atom b.0 a) refl
  where
    by_test : (t : Bool) → is_atom b.0 a ≡ t → (if t then b.1 else given bs other a) ≡ given bs other a
    by_test true e = absurd (d (same_is b.0 a e))
    by_test false e = refl

-- one more binding in front changes nothing for those that it isn't among
still_agree : (b : Binding) (all : List Binding) (other : Atom → ℤ) (cs : List Binding) → IsAbsent b.0 cs → Agrees (given all other) cs → Agrees (given (b ∷ all) other) cs
still_agree b all other [] h g = tt
still_agree b all other (c ∷ cs) h g = (skipped b all other c.0 h.0 ∙ g.0, still_agree b all other cs h.1 g.1)

-- the valuation that a list gives agrees with it
pub list_agrees : (other : Atom → ℤ) (bs : List Binding) → AreThemselves bs → AreApart bs → Agrees (given bs other) bs
list_agrees other [] h p = tt
list_agrees other (b ∷ bs) h p = (ap (λ (t : Bool). if t then b.1 else given bs other b.0) h.0, still_agree b bs other bs p.0 (list_agrees other bs h.1 p.1))

-- and so does one that has the same values of atoms of instances
pub same_values : (v w : Atom → ℤ) (bs : List Binding) → AreThemselves bs → ((a : Atom) → is_atom a a ≡ true → v a ≡ w a) → Agrees w bs → Agrees v bs
same_values v w [] h f g = tt
same_values v w (b ∷ bs) h f g = (f b.0 h.0 ∙ g.0, same_values v w bs h.1 f g.1)
