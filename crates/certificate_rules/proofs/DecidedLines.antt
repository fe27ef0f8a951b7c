-- The tests on lines decide the cases.
use Rattle.std.proofs.Common.{◌≡◌, ℕ, ◌<◌, Bool, true, false, not, ◌&&◌, if◌then◌else◌, nat_eq, bytes_eq, List, [], ◌∷◌, ◌++◌, Option, Some, None, refl, sym, ap, ◌∙◌, subst, arith}
use Rattle.std.proofs.lemmas.Bool.Decides.{nat_tests}
use Rattle.std.proofs.lemmas.Slice.Eq.{bytes_eq-Decides}
use Rattle.fl_types.specs.declared.access.Access.{Access}
use Rattle.fl_types.specs.declared.access.AccessKind.{AccessKind}
use Rattle.fl_types.specs.declared.access.AccessKind.TheVariants.{Read, Write, Update}
use Rattle.index_forms.specs.Form.{Form, Forms}
use Rattle.index_forms.specs.Sums.{differences}
use Rattle.index_knowledge.specs.Knowledge.{KnownPair, is_read}
use Rattle.certificate_rules.specs.Derivations.{Line, hyp, comb, cong}
use Rattle.certificate_rules.specs.Surveys.{Survey, numbered, count_of}
use Rattle.certificate_rules.specs.Accepted.{reads_apart, AreLines, IsElement, IsCong, Stands, AllStand}
use Rattle.certificate_rules.specs.Tests.{matches, lines_are, is_element, element_of, element_at, cong_form, line_form, after_line, all_forms}
use Rattle.certificate_rules.proofs.Same.{matches-from, matches-to, and-left, and-right, and-both}

pub lines-from : (above : List Form) (ns : List ℕ) (fs : List Form) → AreLines above ns fs → lines_are above ns fs ≡ true
lines-from above [] [] h = refl
lines-from above [] (f ∷ fs) h = absurd h
lines-from above (n ∷ ns) [] h = absurd h
lines-from above (n ∷ ns) (f ∷ fs) h = and-both (matches (numbered above n) f) (lines_are above ns fs) (matches-from (numbered above n) f h.0) (lines-from above ns fs h.1)

pub lines-to : (above : List Form) (ns : List ℕ) (fs : List Form) → lines_are above ns fs ≡ true → AreLines above ns fs
lines-to above [] [] h = tt
lines-to above [] (f ∷ fs) h = cc
lines-to above (n ∷ ns) [] h = cc
lines-to above (n ∷ ns) (f ∷ fs) h = (matches-to (numbered above n) f (and-left (matches (numbered above n) f) (lines_are above ns fs) h), lines-to above ns fs (and-right (matches (numbered above n) f) (lines_are above ns fs) h))

read-to : (k : AccessKind) → is_read k ≡ true → k ≡ Read
read-to Read e = refl
read-to Write e = cc
read-to Update e = cc

some-not : (n : ℕ) → not (nat_eq n 0) ≡ true → 0 < n
some-not n e = grind (arith, nat_tests)

not-some : (n : ℕ) → 0 < n → not (nat_eq n 0) ≡ true
not-some n e = grind (arith, nat_tests)

chosen : {A : Type 0} (b : Bool) (x y : A) → (if b then Some x else None) ≡ Some y → (b ≡ true) × (x ≡ y)
chosen true x y e = (refl, cc)
chosen false x y e = cc

pub element-to : (s : Survey) (side : List Forms) (n : ℕ) (o : Option Access) (p : Option Forms) (e : List ℕ × Forms) → numbered s.accesses n ≡ o → numbered side n ≡ p →
    element_of s.fixed o p ≡ Some e → IsElement s side n e.0 e.1
element-to s side n None p e x y h = cc
element-to s side n (Some a) None e x y h = cc
element-to s side n (Some a) (Some fs) e x y h =
    let w = chosen {A = List ℕ × Forms} (is_element s.fixed a fs) (a.place.name, fs) e h in
    let i = and-left (is_read a.kind) (s.fixed a.place.name && not (nat_eq (count_of fs) 0)) w.0 in
    let j = and-right (is_read a.kind) (s.fixed a.place.name && not (nat_eq (count_of fs) 0)) w.0 in
    let P : (List ℕ × Forms) → Type 0 = (λ z. IsElement s side n z.0 z.1) in
    subst P w.1 (record {
      access = a;
      access_is = x;
      reading = read-to a.kind i;
      name_is = refl;
      is_fixed = and-left (s.fixed a.place.name) (not (nat_eq (count_of fs) 0)) j;
      forms = y;
      is_array = some-not (count_of fs) (and-right (s.fixed a.place.name) (not (nat_eq (count_of fs) 0)) j);
    })

element-from : (s : Survey) (side : List Forms) (n : ℕ) (x : List ℕ) (fs : Forms) → IsElement s side n x fs → element_at s side n ≡ Some (x, fs)
element-from s side n x fs h =
    let i : is_read h.access.kind ≡ true = ap is_read h.reading in
    let j : s.fixed h.access.place.name ≡ true = ap s.fixed h.name_is ∙ h.is_fixed in
    let w : is_element s.fixed h.access fs ≡ true = and-both (is_read h.access.kind) (s.fixed h.access.place.name && not (nat_eq (count_of fs) 0)) i
    (and-both (s.fixed h.access.place.name) (not (nat_eq (count_of fs) 0)) j (not-some (count_of fs) h.is_array)) in
    let e : element_of s.fixed (Some h.access) (Some fs) ≡ Some (x, fs) = ap (λ (b : Bool). if b then Some (h.access.place.name, fs) else None) w ∙ ap (λ (z : List ℕ). Some (z, fs)) h.name_is in
    ap (λ (o : Option Access). element_of s.fixed o (numbered side n)) h.access_is ∙ ap (element_of s.fixed (Some h.access)) h.forms ∙ e

cong-to : (s : Survey) (above : List Form) (a b : ℕ) (ls : List ℕ) (f : Form) (o p : Option (List ℕ × Forms)) → element_at s s.ones a ≡ o → element_at s s.twos b ≡ p → cong_form above ls o p ≡ Some f → IsCong s above a b ls f
cong-to s above a b ls f None p x y e = absurd (clash e) where
  clash : None ≡ Some f → ⊥
  clash e = cc
cong-to s above a b ls f (Some q) None x y e = absurd (clash e) where
  clash : None ≡ Some f → ⊥
  clash e = cc
cong-to s above a b ls f (Some q) (Some r) x y e =
    let w = chosen {A = Form} (bytes_eq q.0 r.0 && lines_are above ls (differences q.1 r.1)) (reads_apart q.0 q.1 r.1) f e in
    let n : q.0 ≡ r.0 = (bytes_eq-Decides q.0 r.0).0 (and-left (bytes_eq q.0 r.0) (lines_are above ls (differences q.1 r.1)) w.0) in
    record {
      name = q.0;
      ones = q.1;
      twos = r.1;
      first = element-to s s.ones a (numbered s.accesses a) (numbered s.ones a) q refl refl x;
      second = subst (λ (z : List ℕ). IsElement s s.twos b z r.1) (sym n) (element-to s s.twos b (numbered s.accesses b) (numbered s.twos b) r refl refl y);
      lines = lines-to above ls (differences q.1 r.1) (and-right (bytes_eq q.0 r.0) (lines_are above ls (differences q.1 r.1)) w.0);
      is = sym w.1;
    }

cong-from : (s : Survey) (above : List Form) (a b : ℕ) (ls : List ℕ) (f : Form) → IsCong s above a b ls f → cong_form above ls (element_at s s.ones a) (element_at s s.twos b) ≡ Some f
cong-from s above a b ls f h =
    let x : element_at s s.ones a ≡ Some (h.name, h.ones) = element-from s s.ones a h.name h.ones h.first in
    let y : element_at s s.twos b ≡ Some (h.name, h.twos) = element-from s s.twos b h.name h.twos h.second in
    let n : bytes_eq h.name h.name ≡ true = (bytes_eq-Decides h.name h.name).1 refl in
    let w : (bytes_eq h.name h.name && lines_are above ls (differences h.ones h.twos)) ≡ true = and-both (bytes_eq h.name h.name) (lines_are above ls (differences h.ones h.twos)) n (lines-from above ls (differences h.ones h.twos) h.lines) in
    let e : cong_form above ls (Some (h.name, h.ones)) (Some (h.name, h.twos)) ≡ Some f = ap (λ (c : Bool). if c then Some (reads_apart h.name h.ones h.twos) else None) w ∙ ap Some (sym h.is) in
    ap (λ (o : Option (List ℕ × Forms)). cong_form above ls o (element_at s s.twos b)) x ∙ ap (cong_form above ls (Some (h.name, h.ones))) y ∙ e

stands-to : (s : Survey) (p : KnownPair) (above : List Form) (l : Line) (f : Form) → line_form s p above l ≡ Some f → Stands s p above l f
stands-to s p above (hyp d) f e = e
stands-to s p above (comb ms) f e = e
stands-to s p above (cong a b ls) f e = cong-to s above a b ls f (element_at s s.ones a) (element_at s s.twos b) refl refl e

stands-from : (s : Survey) (p : KnownPair) (above : List Form) (l : Line) (f : Form) → Stands s p above l f → line_form s p above l ≡ Some f
stands-from s p above (hyp d) f e = e
stands-from s p above (comb ms) f e = e
stands-from s p above (cong a b ls) f h = cong-from s above a b ls f h

after-to : (o : Option Form) (k : Form → Option (List Form)) (all : List Form) → after_line o k ≡ Some all → (f : Form) × (o ≡ Some f) × (k f ≡ Some all)
after-to None k all e = absurd (clash e) where
  clash : None ≡ Some all → ⊥
  clash e = cc
after-to (Some f) k all e = (f, refl, e)

pub all-to : (s : Survey) (p : KnownPair) (above : List Form) (ls : List Line) (all : List Form) → all_forms s p above ls ≡ Some all → AllStand s p above ls all
all-to s p above [] all e = cc
all-to s p above (l ∷ ls) all e =
    let w = after-to (line_form s p above l) (λ (f : Form). all_forms s p (above ++ f ∷ []) ls) all e in
    (w.0, stands-to s p above l w.0 w.1, all-to s p (above ++ w.0 ∷ []) ls all w.2)

pub all-from : (s : Survey) (p : KnownPair) (above : List Form) (ls : List Line) (all : List Form) → AllStand s p above ls all → all_forms s p above ls ≡ Some all
all-from s p above [] all h = ap Some (sym h)
all-from s p above (l ∷ ls) all h =
    ap (λ (o : Option Form). after_line o (λ f. all_forms s p (above ++ f ∷ []) ls)) (stands-from s p above l h.0 h.1) ∙ all-from s p (above ++ h.0 ∷ []) ls all h.2
