-- What a run keeps: cells of their kinds, and the places of names that it doesn't set.
use Rattle.std.proofs.Common.{◌≡◌, ◌≢◌, ℕ, ◌+◌, ◌*◌, ◌<◌, ◌^◌, ◌==◌, List, [], ◌∷◌, refl, ap, sym, ◌∙◌, subst, arith, length, Bool, true, false, ◌||◌, Option, Some, None, Ok, ℤ, pos, negsuc}
use Rattle.std.specs.Prelude.{slice_set, bytes_eq, if◌then◌else◌}
use Rattle.std.specs.Int.{w64, cast_unsigned}
use Rattle.std.proofs.lemmas.Bool.{eqb-true, eq-eqb}
use Rattle.std.proofs.lemmas.Slice.Eq.{bytes_eq-Decides}
use Rattle.std.proofs.lemmas.List.{length-set}
use Rattle.std.proofs.lemmas.Bool.Decides.{nat_tests}
use Rattle.ring_core.specs.Index.{IsIndex}
use Rattle.pairing.specs.Ring.{Same, factor}
use Rattle.pairing.proofs.Sames.{of_equal, same_sum, same_product}
use Rattle.fl_ast.specs.declared.kind.Kind.{Kind}
use Rattle.fl_ast.specs.declared.kind.Kind.TheVariants as kind
use Rattle.fl_ast.specs.Tree.{Expression, Designator}
use Rattle.fl_types.specs.declared.access.AccessKind.{AccessKind}
use Rattle.fl_types.specs.Increment.{Signed}
use Rattle.fl_types.specs.Accesses.{increment_kind}
use Rattle.meaning.specs.declared.value.Dual.{Dual}
use Rattle.meaning.specs.declared.value.Value.{Value}
use Rattle.meaning.specs.declared.value.Value.TheVariants.{Index, Ring}
use Rattle.meaning.specs.Values.{as_dual, dual_add, dual_sub, as_kind, whole_numbers}
use Rattle.meaning.specs.Sites.{Cells, Site, kind_of, word_of}
use Rattle.meaning.specs.Expressions.{content}
use Rattle.meaning.specs.Statements.{plain_assignment, terms_of, incremented_dual, increment, assignment_by}
use Rattle.meaning.specs.Adjoints.{tangent_of}
use Rattle.meaning.proofs.KindsOfValues.{below}
use Rattle.meaning.proofs.Parts.{terms_run}
use Rattle.transposition.specs.Worlds.{World, name_at}
use Rattle.transposition.specs.Law.{Use, Fit}
use Rattle.meaning.specs.Fitting.{HasKind}
use Rattle.transposition.specs.Sound.{SoundStore, SoundAssigned, UnmovedTerms}
use Rattle.transposition.proofs.Keys.{stands}
use Rattle.transposition.proofs.Places.{content_set_same, content_set_other}
use Rattle.transposition.proofs.Tangents.{moves}
use Rattle.transposition.proofs.Sizes.{Sized, value_sized, IsWhole, value_whole}
use Rattle.transposition.proofs.Stills.{value_still}
use Rattle.transposition.proofs.Plain.{plain_run}
use Rattle.transposition.proofs.Increments.{increment_run, drift, grown_tangent, ring_held, tangent_held}

pub record Keeps (w : World) (u : Use) (test : List ℕ → Bool) (s s2 : Cells) : Type 0 where
  pub fit : Fit w u s2
  pub same : (p : ℕ) → test (name_at w.site.keys p) ≡ false → content s2 p ≡ content s p

pub keeps_itself : (w : World) (u : Use) (test : List ℕ → Bool) (s : Cells) → Fit w u s → Keeps w u test s s
keeps_itself w u test s h = record { fit = h; same = λ p e. refl }

or_left : (a b : Bool) → (a || b) ≡ false → a ≡ false
or_left true b h = cc
or_left false b h = refl

or_right : (a b : Bool) → (a || b) ≡ false → b ≡ false
or_right true b h = cc
or_right false b h = h

pub keeps_both : (w : World) (u : Use) (one more : List ℕ → Bool) (s s1 s2 : Cells) → Keeps w u one s s1 → Keeps w u more s1 s2 → Keeps w u (λ x. one x || more x) s s2
keeps_both w u one more s s1 s2 h k = record {
  fit = k.fit;
  same = λ p e. k.same p (or_right (one (name_at w.site.keys p)) (more (name_at w.site.keys p)) e) ∙ h.same p (or_left (one (name_at w.site.keys p)) (more (name_at w.site.keys p)) e);
}

-- the same with more names
pub keeps_wider : (w : World) (u : Use) (one more : List ℕ → Bool) (s s2 : Cells) → ((x : List ℕ) → more x ≡ false → one x ≡ false) → Keeps w u one s s2 → Keeps w u more s s2
keeps_wider w u one more s s2 h k = record { fit = k.fit; same = λ p e. k.same p (h (name_at w.site.keys p) e) }

-- a place set
pub fit_set : (w : World) (u : Use) (s : Cells) (x : List ℕ) (q : ℕ) (v : Value) → Fit w u s → name_at w.site.keys q ≡ x → q < length w.site.keys → HasKind (kind_of w.site x) v → (u.moved x ≡ false → Same (tangent_of (Some v)) 0) → u.held x ≡ None → Fit w u (slice_set s q (Some v))
fit_set w u s x q v h named there kinds still unheld = record {
  long = length-set s q (Some v) ∙ h.long;
  room = h.room;
  kinds = λ p y e. kinds_by p y e (p == q) refl;
  still = λ p e. still_by p e (p == q) refl;
  held = λ p n y e g. held_by p n y e g (p == q) refl;
}
  where
    apart : (p : ℕ) → (p == q) ≡ false → p ≢ q
    apart p e g = let k : true ≡ false = sym (eq-eqb p q g) ∙ e in cc

    held : content (slice_set s q (Some v)) q ≡ Some v
    held = content_set_same s q (Some v) (let i = h.long in omega arith)

    held_by : (p n : ℕ) (y : Value) → content (slice_set s q (Some v)) p ≡ Some y → u.held (name_at w.site.keys p) ≡ Some n → (b : Bool) → (p == q) ≡ b → word_of (Some y) ≡ n
    held_by p n y e g true f = let k : None ≡ Some n = sym unheld ∙ (ap u.held (sym (ap (name_at w.site.keys) (eqb-true p q f) ∙ named)) ∙ g) in cc
    held_by p n y e g false f = h.held p n y (sym (content_set_other s q p (Some v) (apart p f)) ∙ e) g

    kinds_by : (p : ℕ) (y : Value) → content (slice_set s q (Some v)) p ≡ Some y → (b : Bool) → (p == q) ≡ b → HasKind (kind_of w.site (name_at w.site.keys p)) y
    kinds_by p y e true f =
        let g : p ≡ q = eqb-true p q f in
        let i : Some v ≡ Some y = sym held ∙ (ap (content (slice_set s q (Some v))) (sym g) ∙ e) in
        let j : v ≡ y = cc in
        subst (λ (z : Value). HasKind (kind_of w.site (name_at w.site.keys p)) z) j (subst (λ (z : List ℕ). HasKind (kind_of w.site z) v) (sym (ap (name_at w.site.keys) g ∙ named)) kinds)
    kinds_by p y e false f = h.kinds p y (sym (content_set_other s q p (Some v) (apart p f)) ∙ e)

    still_by : (p : ℕ) → u.moved (name_at w.site.keys p) ≡ false → (b : Bool) → (p == q) ≡ b → Same (tangent_of (content (slice_set s q (Some v)) p)) 0
    still_by p e true f =
        let g : p ≡ q = eqb-true p q f in
        subst (λ (c : Option Value). Same (tangent_of c) 0) (sym (ap (content (slice_set s q (Some v))) g ∙ held)) (still (ap u.moved (sym (ap (name_at w.site.keys) g ∙ named)) ∙ e))
    still_by p e false f = subst (λ (c : Option Value). Same (tangent_of c) 0) (sym (content_set_other s q p (Some v) (apart p f))) (h.still p e)

pub keeps_set : (w : World) (u : Use) (s : Cells) (x : List ℕ) (q : ℕ) (v : Value) → Fit w u s → name_at w.site.keys q ≡ x → q < length w.site.keys → HasKind (kind_of w.site x) v → (u.moved x ≡ false → Same (tangent_of (Some v)) 0) → u.held x ≡ None
    → Keeps w u (λ y. bytes_eq y x) s (slice_set s q (Some v))
keeps_set w u s x q v h named there kinds still unheld = record {
  fit = fit_set w u s x q v h named there kinds still unheld;
  same = λ p e. content_set_other s q p (Some v) (λ g. (let k : true ≡ false = sym ((bytes_eq-Decides (name_at w.site.keys p) x).1 (ap (name_at w.site.keys) g ∙ named)) ∙ e in cc));
}

-- ---- assignments

word_small : (z : ℤ) → IsIndex z → cast_unsigned w64 z < 2 ^ 64
word_small (pos n) h = grind (arith, nat_tests)
word_small (negsuc n) h = grind (arith, nat_tests)

converted_kind : (k : Kind) (v : Value) → Sized v → (k ≡ kind.Index → IsWhole v) → HasKind k (as_kind k v)
converted_kind kind.Ring (Index z) h g = word_small z h
converted_kind kind.Ring (Ring d) h g = h
converted_kind kind.Index (Index z) h g = h
converted_kind kind.Index (Ring d) h g = absurd (g refl)

converted_still : (k : Kind) (v : Value) → Same (moves v) 0 → Same (tangent_of (Some (as_kind k v))) 0
converted_still kind.Ring v h = h
converted_still kind.Index (Index z) h = refl
converted_still kind.Index (Ring d) h = h

not_ring : (site : Site) (x : List ℕ) → kind_of site x ≡ kind.Index → site.ring x ≡ false
not_ring site x h = by_test (site.ring x) h
  where
    by_test : (b : Bool) → (if b then kind.Ring else kind.Index) ≡ kind.Index → b ≡ false
    by_test true g = cc
    by_test false g = refl

plain_kept : (w : World) (u : Use) (s : Cells) (p : Designator) (e : Expression) (s2 : Cells) → Fit w u s → SoundStore w u p e → u.held p.name ≡ None → (plain_assignment w.site s p e).out ≡ Ok s2 → Keeps w u (λ y. bytes_eq y p.name) s s2
plain_kept w u s p e s2 fit sound unheld h =
    let k = plain_run w.site s p e s2 h in
    let st = stands w.site.keys p.name (whole_numbers k.vals) k.q k.place in
    rw k.cells (keeps_set w u s p.name k.q (as_kind (kind_of w.site p.name) k.v) fit st.named st.there
    (converted_kind (kind_of w.site p.name) k.v (value_sized w u s fit e sound.literals k.v k.out) (λ i. value_whole w u s fit e (sound.whole (not_ring w.site p.name i)) k.v k.out))
    (λ i. converted_still (kind_of w.site p.name) k.v (value_still w u s fit e (sound.still i) k.v k.out)) unheld)

terms_still : (w : World) (u : Use) (s : Cells) → Fit w u s → (rs : List Signed) → UnmovedTerms u rs → (ds : List (Bool × Dual)) → (terms_of rs w.site s).out ≡ Ok ds → Same (drift ds) 0
terms_still w u s fit [] q ds h = let e : [] ≡ ds = cc in of_equal (drift ds) 0 (ap drift (sym e))
terms_still w u s fit (r ∷ rs) q ds h =
    let f = terms_run w.site s r rs ds h in
    rw f.whole (same_sum (factor r.0 * moves f.value) (factor r.0 * 0) (drift f.more) 0 (same_product (factor r.0) (factor r.0) (moves f.value) 0 refl (value_still w u s fit r.1 q.0 f.value f.first)) (terms_still w u s fit rs q.1 f.more f.second) ∙ of_equal (factor r.0 * 0 + 0) 0 (omega arith))

grown_small : (ds : List (Bool × Dual)) (d : Dual) → d.value < 2 ^ 64 → (incremented_dual ds d).value < 2 ^ 64
grown_small [] d h = h
grown_small ((true, m) ∷ ds) d h = grown_small ds (dual_sub d m) (below (d.value + 18446744073709551615 * m.value))
grown_small ((false, m) ∷ ds) d h = grown_small ds (dual_add d m) (below (d.value + m.value))

ring_kind : (k : Kind) (v : Value) → k ≡ kind.Ring → (d : Dual) → d.value < 2 ^ 64 → HasKind k (Ring d)
ring_kind kind.Ring v e d h = h
ring_kind kind.Index v e d h = cc

increment_kept : (w : World) (u : Use) (s : Cells) (p : Designator) (rs : List Signed) (n : AccessKind) (s2 : Cells) → Fit w u s → w.site.ring p.name ≡ true → (u.moved p.name ≡ false → UnmovedTerms u rs) → u.held p.name ≡ None → (increment w.site s p rs n).out ≡ Ok s2 → Keeps w u (λ y. bytes_eq y p.name) s s2
increment_kept w u s p rs n s2 fit ring still unheld h =
    let k = increment_run w.site s p rs n s2 h in
    let st = stands w.site.keys p.name (whole_numbers k.vals) k.q k.place in
    let is_ring : kind_of w.site p.name ≡ kind.Ring = rw ring refl in
    let kinds : HasKind (kind_of w.site p.name) k.v = subst (λ (y : List ℕ). HasKind (kind_of w.site y) k.v) st.named (fit.kinds k.q k.v k.held) in
    rw k.cells (keeps_set w u s p.name k.q (Ring (incremented_dual k.ds (as_dual k.v))) fit st.named st.there
    (ring_kind (kind_of w.site p.name) k.v is_ring (incremented_dual k.ds (as_dual k.v)) (grown_small k.ds (as_dual k.v) (ring_held (kind_of w.site p.name) k.v is_ring kinds)))
    (λ i. grown_tangent k.ds (as_dual k.v) ∙ (same_sum (as_dual k.v).tangent 0 (drift k.ds) 0 (subst (λ (m : ℕ). Same m 0) (ap tangent_of k.held ∙ tangent_held k.v) (fit.still k.q (ap u.moved st.named ∙ i))) (terms_still w u s fit rs (still i) k.ds k.out) ∙ of_equal (0 + 0) 0 (omega arith))) unheld)

pub assigned_kept : (w : World) (u : Use) (s : Cells) (atomic : Bool) (p : Designator) (e : Expression) (o : Option (List Signed)) (s2 : Cells) → Fit w u s → SoundAssigned w u p e o → (assignment_by w.site s atomic p e o).out ≡ Ok s2 → Keeps w u (λ y. bytes_eq y p.name) s s2
assigned_kept w u s atomic p e None s2 fit sound h = plain_kept w u s p e s2 fit sound.1 sound.0.target.unheld h
assigned_kept w u s atomic p e (Some rs) s2 fit sound h = increment_kept w u s p rs (increment_kind atomic (w.site.pluses p.name)) s2 fit sound.0.whole sound.1 sound.0.target.unheld h
