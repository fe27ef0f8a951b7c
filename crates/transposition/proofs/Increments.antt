-- An increment is undone, and the pairing kept.
use Rattle.std.proofs.Common.{◌≡◌, ◌≢◌, ℕ, zero, suc, ◌+◌, ◌*◌, ◌<◌, ◌==◌, ◌^◌, ◌%◌, List, [], ◌∷◌, refl, ap, sym, ◌∙◌, subst, arith, length, map, Bool, true, false, not, ◌||◌, cond, Option, Some, None, Ok, inl, inr}
use Rattle.std.specs.Prelude.{◌⊎◌, slice_index, slice_set, nat_lt, if◌then◌else◌}
use Rattle.std.proofs.lemmas.Bool.{and_parts, eqb-true, eq-eqb}
use Rattle.std.proofs.lemmas.List.{length-set, get_or-set_same, get_or-set_other}
use Rattle.pairing.specs.Ring.{big, last, Same, factor}
use Rattle.pairing.specs.Pair.{pair}
use Rattle.pairing.proofs.Sames.{of_equal, same_sum, same_product, strip_add, strip_sub, put_add, sign_off}
use Rattle.pairing.proofs.Pairs.{live_at}
use Rattle.fl_ast.specs.declared.kind.Kind.{Kind}
use Rattle.fl_ast.specs.declared.kind.Kind.TheVariants as kind
use Rattle.fl_ast.specs.Tree.{Designator}
use Rattle.fl_ast.specs.Occurs.{occurs}
use Rattle.fl_types.specs.declared.access.AccessKind.{AccessKind}
use Rattle.fl_types.specs.declared.access.AccessKind.TheVariants.{Write, Update}
use Rattle.operations.specs.declared.op.Op.TheVariants.{Load, Bump, Add}
use Rattle.operations.specs.Tree.{done, and_then, Played, play}
use Rattle.operations.proofs.Trees.{bind}
use Rattle.meaning.specs.declared.value.Value.{Value}
use Rattle.meaning.specs.declared.value.Value.TheVariants.{Index, Ring}
use Rattle.meaning.specs.declared.value.Cause.{Cause}
use Rattle.meaning.specs.Values.{as_dual, dual_add, dual_sub, whole_numbers}
use Rattle.meaning.specs.Logs.{Log, silence, both, within, right_side, touched, Traced, after, inside, ◌>>=◌}
use Rattle.meaning.specs.Sites.{Key, Cells, Site, place_of, kind_of, word_of}
use Rattle.meaning.specs.Expressions.{content, value_of, values_of}
use Rattle.meaning.specs.Statements.{store_at, terms_of, incremented_dual, increment_cell, increment_place, increment}
use Rattle.fl_types.specs.Accesses.{increment_kind}
use Rattle.fl_types.specs.Increment.{Signed, are_free_of}
use Rattle.meaning.specs.declared.value.Dual.{Dual}
use Rattle.ring_core.specs.Ring.{ring_add, ring_sub}
use Rattle.meaning.specs.Adjoints.{tangent_of}
use Rattle.meaning.proofs.Parts.{bound, terms_run}
use Rattle.transposition.specs.Tapes.{Tape, tape_after}
use Rattle.transposition.specs.Worlds.{World, Local, at_place, value_increment, name_at}
use Rattle.transposition.specs.Reads.{place_tree}
use Rattle.transposition.specs.Spread.{increments}
use Rattle.transposition.specs.Back.{adjoint_tree, rest_tree, increment_reversal, rest_occurrences, increment_back}
use Rattle.transposition.specs.Law.{Use, flat, local, Like, Fit, tangents, HasTouch, Within, CoverAll, Ends, Undoes}
use Rattle.meaning.specs.Fitting.{HasKind}
use Rattle.transposition.specs.Sound.{SoundIncrement, NeedsTerms, QuietTerms, KindedTerms}
use Rattle.transposition.proofs.Split.{grow_value_played}
use Rattle.transposition.proofs.Keys.{Stands, stands}
use Rattle.transposition.proofs.Places.{content_set_same, content_set_other, tangent_here}
use Rattle.transposition.proofs.Tangents.{moves, signed_is}
use Rattle.transposition.proofs.Reading.{TouchesIn, Scene, room, gets_ok, got_told, value_got, Got, got_then, got_done, got_bind, place_got, Placed, cover_both, cover_value}
use Rattle.transposition.proofs.Bounds.{Inside, inside_left, inside_right}
use Rattle.transposition.proofs.Spreading.{silent, spreads, tangents_long}
use Rattle.transposition.proofs.Calculus.{Sums, sums_same, sums_both, expression_sums}
use Rattle.transposition.proofs.Taping.{wordless_terms, wordless_all}
use Rattle.transposition.specs.Reads.{value_tree}
use Rattle.transposition.proofs.Flats.{flat_value}
use Rattle.transposition.proofs.Plain.{without, needs_without, needs_all_without, scene_without, like_other, adjoint_got, tangents_on, tangents_off, differentiated_if, held_other}

-- ---- the terms

abbrev amount : List (Bool × Dual) → ℕ → ℕ
amount [] a = a
amount (d ∷ ds) a = amount ds (cond d.0 (ring_add a d.1.value) (ring_sub a d.1.value))

abbrev pub drift : List (Bool × Dual) → ℕ
drift [] = 0
drift (d ∷ ds) = factor d.0 * d.1.tangent + drift ds

value_flat : (v : Value) → (as_dual (flat_value v)).value ≡ (as_dual v).value
value_flat (Index z) = refl
value_flat (Ring d) = refl

split_told : (ts l a b : Log) → l ≡ both a b → TouchesIn l ts → TouchesIn a ts × TouchesIn b ts
split_told ts l a b e h =
    let g : TouchesIn (both a b) ts = subst (λ (m : Log). TouchesIn m ts) e h in
    ((λ k p i. g k p (inl i)), (λ k p i. g k p (inr i)))

rest_got : (w : World) (u : Use) (s : Cells) (vs bs : List ℕ) (t : Tape) (ts : Log) → Scene w u s vs bs → (rs : List Signed) (ds : List (Bool × Dual)) (a : ℕ) → NeedsTerms u rs → (terms_of rs w.site s).out ≡ Ok ds → TouchesIn (terms_of rs w.site s).log ts
    → Got w ts (flat w.shared vs bs) (play (rest_tree w rs a (local w.shared t vs bs)) (flat w.shared vs bs)) (amount ds a) silence
rest_got w u s vs bs t ts h [] ds a q o k = let e : [] ≡ ds = cc in rw (← e) (got_done w ts (flat w.shared vs bs) a)
rest_got w u s vs bs t ts h (r ∷ rs) ds a q o k =
    let c : List ℕ = flat w.shared vs bs in
    let f = terms_run w.site s r rs ds o in
    let tl : TouchesIn (value_of r.1 w.site s).log ts × TouchesIn (both (terms_of rs w.site s).log silence) ts = split_told ts _ (value_of r.1 w.site s).log (both (terms_of rs w.site s).log silence) f.log k in
    let tr : TouchesIn (terms_of rs w.site s).log ts × TouchesIn silence ts = split_told ts (both (terms_of rs w.site s).log silence) (terms_of rs w.site s).log silence refl tl.1 in
    let g : Got w ts c (play (value_tree r.1 w (local w.shared t vs bs)) c) (flat_value f.value) (value_of r.1 w.site s).log = gets_ok w ts c flat_value _ _ (value_of r.1 w.site s).out f.value f.first (value_got w u s vs bs t ts h r.1 q.0) in
    rw f.whole (got_bind w ts c (value_tree r.1 w (local w.shared t vs bs)) (λ v. rest_tree w rs (cond r.0 (ring_add a (as_dual v).value) (ring_sub a (as_dual v).value)) (local w.shared t vs bs)) (flat_value f.value) _ (got_told w ts c _ _ _ tl.0 g)
    (rw (value_flat f.value) (rest_got w u s vs bs t ts h rs f.more (cond r.0 (ring_add a (as_dual f.value).value) (ring_sub a (as_dual f.value).value)) q.1 f.second tr.0)))

terms_sums : (w : World) (u : Use) (s : Cells) (ts : Log) → Fit w u s → (a : ℕ) (rs : List Signed) (ds : List (Bool × Dual)) → (terms_of rs w.site s).out ≡ Ok ds → Inside w ts (terms_of rs w.site s).log → KindedTerms w.site.ring rs → QuietTerms w.active u rs
    → Sums w s ts a (rest_occurrences w.active rs) (a * drift ds)
terms_sums w u s ts fit a [] ds o ins kd q = let e : [] ≡ ds = cc in record { z = 0; sum = refl; same = of_equal _ _ (rw (← e) (omega arith)) }
terms_sums w u s ts fit a (r ∷ rs) ds o ins kd q =
    let f = terms_run w.site s r rs ds o in
    let one = expression_sums w u s ts fit r.1 r.0 [] a a refl (inside_left w ts _ _ _ f.log ins) kd.0 q.0 f.value f.first in
    let more = terms_sums w u s ts fit a rs f.more f.second (inside_left w ts _ _ _ refl (inside_right w ts _ _ _ f.log ins)) kd.1 q.1 in
    rw f.whole (sums_same w s ts a _ _ _ (same_sum _ _ (a * drift f.more) (a * drift f.more) (same_product _ _ (moves f.value) (moves f.value) (signed_is r.0 a) refl) refl ∙ of_equal (factor r.0 * a * moves f.value + a * drift f.more) (a * (factor r.0 * moves f.value + drift f.more)) (omega arith))
    (sums_both w s ts a _ _ _ _ one more))

-- ---- the value and the tangent of a grown cell

pub grown_tangent : (ds : List (Bool × Dual)) (d : Dual) → Same (incremented_dual ds d).tangent (d.tangent + drift ds)
grown_tangent [] d = of_equal d.tangent (d.tangent + 0) (omega arith)
grown_tangent ((true, m) ∷ ds) d =
    grown_tangent ds (dual_sub d m) ∙ (same_sum (ring_sub d.tangent m.tangent) (d.tangent + last * m.tangent) (drift ds) (drift ds) (strip_sub d.tangent m.tangent) refl
    ∙ of_equal (d.tangent + last * m.tangent + drift ds) (d.tangent + (last * m.tangent + drift ds)) (omega arith))
grown_tangent ((false, m) ∷ ds) d =
    grown_tangent ds (dual_add d m) ∙ (same_sum (ring_add d.tangent m.tangent) (d.tangent + m.tangent) (drift ds) (drift ds) (strip_add d.tangent m.tangent) refl
    ∙ of_equal (d.tangent + m.tangent + drift ds) (d.tangent + (1 * m.tangent + drift ds)) (omega arith))

taken_off : (ds : List (Bool × Dual)) (d : Dual) (a : ℕ) → Same ((incremented_dual ds d).value + amount ds a) (d.value + a)
taken_off [] d a = refl
taken_off ((true, m) ∷ ds) d a =
    taken_off ds (dual_sub d m) (ring_add a m.value)
    ∙ (same_sum (ring_sub d.value m.value) (d.value + last * m.value) (ring_add a m.value) (a + m.value) (strip_sub d.value m.value) (strip_add a m.value)
    ∙ (of_equal (d.value + last * m.value + (a + m.value)) (d.value + a + (m.value + last * m.value)) (omega arith)
    ∙ (same_sum (d.value + a) (d.value + a) (m.value + last * m.value) 0 refl (sign_off m.value) ∙ of_equal (d.value + a + 0) (d.value + a) (omega arith))))
taken_off ((false, m) ∷ ds) d a =
    taken_off ds (dual_add d m) (ring_sub a m.value)
    ∙ (same_sum (ring_add d.value m.value) (d.value + m.value) (ring_sub a m.value) (a + last * m.value) (strip_add d.value m.value) (strip_sub a m.value)
    ∙ (of_equal (d.value + m.value + (a + last * m.value)) (d.value + a + (m.value + last * m.value)) (omega arith)
    ∙ (same_sum (d.value + a) (d.value + a) (m.value + last * m.value) 0 refl (sign_off m.value) ∙ of_equal (d.value + a + 0) (d.value + a) (omega arith))))

small : (x : ℕ) → x < 2 ^ 64 → (x + 0) % big ≡ x
unfolding big
small x h = omega arith

undone_value : (ds : List (Bool × Dual)) (d : Dual) → d.value < 2 ^ 64 → ring_add (incremented_dual ds d).value (amount ds 0) ≡ d.value
undone_value ds d h = put_add (incremented_dual ds d).value (amount ds 0) ∙ (taken_off ds d 0 ∙ small d.value h)

-- a tangent that moved at p
pair_moved : (bs ds : List ℕ) (p x y : ℕ) → length bs ≡ length ds → Same x (slice_index ds p + y) → Same (pair bs (slice_set ds p x)) (pair bs ds + slice_index bs p * y)
pair_moved [] [] p x y h k = of_equal 0 (0 + 0 * y) (omega arith)
pair_moved (b ∷ bs) [] p x y h k = absurd (omega arith)
pair_moved [] (d ∷ ds) p x y h k = absurd (omega arith)
pair_moved (b ∷ bs) (d ∷ ds) zero x y h k =
    same_sum (b * x) (b * (d + y)) (pair bs ds) (pair bs ds) (same_product b b x (d + y) refl k) refl ∙ of_equal (b * (d + y) + pair bs ds) (b * d + pair bs ds + b * y) (omega arith)
pair_moved (b ∷ bs) (d ∷ ds) (suc p) x y h k =
    let i : length bs ≡ length ds = omega arith in
    same_sum (b * d) (b * d) _ _ refl (pair_moved bs ds p x y i k) ∙ of_equal (b * d + (pair bs ds + slice_index bs p * y)) (b * d + pair bs ds + slice_index bs p * y) (omega arith)

-- ---- the run

pub record IncrementRun (site : Site) (s : Cells) (p : Designator) (rs : List Signed) (n : AccessKind) (s2 : Cells) : Type 0 where
  pub ds : List (Bool × Dual)
  pub out : (terms_of rs site s).out ≡ Ok ds
  pub vals : List Value
  pub subs : (values_of p.subscripts site s).out ≡ Ok vals
  pub q : ℕ
  pub place : place_of site p.name (whole_numbers vals) ≡ Some q
  pub v : Value
  pub held : content s q ≡ Some v
  pub cells : s2 ≡ slice_set s q (Some (Ring (incremented_dual ds (as_dual v))))
  pub tail : Log
  pub log : (increment site s p rs n).log ≡ both (within (right_side p.name) (terms_of rs site s).log) (both (values_of p.subscripts site s).log tail)
  pub covered : site.accessed p.name ≡ true → HasTouch n q tail
  pub tape : (t : Tape) → tape_after tail t ≡ t

record GrowRun (site : Site) (s : Cells) (x : List ℕ) (n : AccessKind) (ds : List (Bool × Dual)) (o : Option ℕ) (s2 : Cells) (l : Log) : Type 0 where
  pub q : ℕ
  pub place : o ≡ Some q
  pub v : Value
  pub held : content s q ≡ Some v
  pub cells : s2 ≡ slice_set s q (Some (Ring (incremented_dual ds (as_dual v))))
  pub covered : site.accessed x ≡ true → HasTouch n q l
  pub tape : (t : Tape) → tape_after l t ≡ t

abbrev grow_by : Bool → Cells → AccessKind → ℕ → Value → Traced Cause Cells
grow_by b s n q x = if b then after (touched q n) (store_at s q x) else store_at s q x

grow_run : (site : Site) (s : Cells) (x : List ℕ) (n : AccessKind) (ds : List (Bool × Dual)) (o : Option ℕ) (s2 : Cells) → (increment_place site s x n ds o).out ≡ Ok s2 → GrowRun site s x n ds o s2 (increment_place site s x n ds o).log
grow_run site s x n ds None s2 h = cc
grow_run site s x n ds (Some q) s2 h = by_content (content s q) refl h
  where
    by_access : (b : Bool) (v : Value) → site.accessed x ≡ b → content s q ≡ Some v → (grow_by b s n q (Ring (incremented_dual ds (as_dual v)))).out ≡ Ok s2
        → GrowRun site s x n ds (Some q) s2 (grow_by b s n q (Ring (incremented_dual ds (as_dual v)))).log
    by_access true v f g i = record { q = q; place = refl; v = v; held = g; cells = (let j : slice_set s q (Some (Ring (incremented_dual ds (as_dual v)))) ≡ s2 = cc in sym j); covered = λ k. inl (refl, refl); tape = λ t. refl }
    by_access false v f g i = record { q = q; place = refl; v = v; held = g; cells = (let j : slice_set s q (Some (Ring (incremented_dual ds (as_dual v)))) ≡ s2 = cc in sym j); covered = λ k. absurd (let m : true ≡ false = sym k ∙ f in cc); tape = λ t. refl }

    by_content : (c : Option Value) → content s q ≡ c → (increment_cell site s x n ds q c).out ≡ Ok s2 → GrowRun site s x n ds (Some q) s2 (increment_cell site s x n ds q c).log
    by_content None f g = cc
    by_content (Some v) f g = by_access (site.accessed x) v refl f g

pub increment_run : (site : Site) (s : Cells) (p : Designator) (rs : List Signed) (n : AccessKind) (s2 : Cells) → (increment site s p rs n).out ≡ Ok s2 → IncrementRun site s p rs n s2
increment_run site s p rs n s2 h =
    let f = bound (inside (right_side p.name) (terms_of rs site s)) (λ ds. values_of p.subscripts site s >>= (λ vals. increment_place site s p.name n ds (place_of site p.name (whole_numbers vals)))) s2 h in
    let g = bound (values_of p.subscripts site s) (λ vals. increment_place site s p.name n f.value (place_of site p.name (whole_numbers vals))) s2 f.second in
    let i = grow_run site s p.name n f.value (place_of site p.name (whole_numbers g.value)) s2 g.second in
    record {
      ds = f.value;
      out = f.first;
      vals = g.value;
      subs = g.first;
      q = i.q;
      place = i.place;
      v = i.v;
      held = i.held;
      cells = i.cells;
      tail = (increment_place site s p.name n f.value (place_of site p.name (whole_numbers g.value))).log;
      log = f.log ∙ ap (λ (l : Log). both (within (right_side p.name) (terms_of rs site s).log) l) g.log;
      covered = i.covered;
      tape = i.tape;
    }

increment_tape : (w : World) (s : Cells) (p : Designator) (rs : List Signed) (n : AccessKind) (s2 : Cells) (k : IncrementRun w.site s p rs n s2) (t : Tape) → tape_after (increment w.site s p rs n).log t ≡ t
increment_tape w s p rs n s2 k t = ap (λ (l : Log). tape_after l t) k.log ∙ (rw (wordless_terms rs w.site s t, wordless_all p.subscripts w.site s t) (k.tape t))

needs_terms_without : (u : Use) (x : List ℕ) (rs : List Signed) → NeedsTerms u rs → are_free_of x rs ≡ true → NeedsTerms (without x u) rs
needs_terms_without u x [] q h = tt
needs_terms_without u x (r ∷ rs) q h =
    let parts : (not (occurs x r.1) ≡ true) × (are_free_of x rs ≡ true) = and_parts (not (occurs x r.1)) (are_free_of x rs) h in
    (needs_without u x r.1 q.0 (not_is (occurs x r.1) parts.0), needs_terms_without u x rs q.1 parts.1)
  where
    not_is : (b : Bool) → not b ≡ true → b ≡ false
    not_is true g = cc
    not_is false g = refl

-- ---- the statement

pub ring_held : (k : Kind) (v : Value) → k ≡ kind.Ring → HasKind k v → (as_dual v).value < 2 ^ 64
ring_held kind.Ring (Ring d) e h = h
ring_held kind.Ring (Index z) e h = absurd h
ring_held kind.Index v e h = cc

word_held : (k : Kind) (v : Value) → k ≡ kind.Ring → HasKind k v → word_of (Some v) ≡ (as_dual v).value
word_held kind.Ring (Ring d) e h = refl
word_held kind.Ring (Index z) e h = absurd h
word_held kind.Index v e h = cc

pub tangent_held : (v : Value) → tangent_of (Some v) ≡ (as_dual v).tangent
tangent_held (Index z) = refl
tangent_held (Ring d) = refl

-- the value set back by the terms
like_ungrown : (u : Use) (keys : List Key) (vs : List ℕ) (s : Cells) (q : ℕ) (ds : List (Bool × Dual)) (v : Value) → q < length vs → q < length s → content s q ≡ Some v → word_of (Some v) ≡ (as_dual v).value → (as_dual v).value < 2 ^ 64
    → u.held (name_at keys q) ≡ None → Like u keys vs (slice_set s q (Some (Ring (incremented_dual ds (as_dual v))))) → Like u keys (slice_set vs q (ring_add (slice_index vs q) (amount ds 0))) s
like_ungrown u keys vs s q ds v i j held wd small free l = record {
  read = λ p y h n. by_place p y h n (p == q) refl;
  held = held_other u keys vs q x free l.held;
}
  where
    x : ℕ
    x = ring_add (slice_index vs q) (amount ds 0)

    by_place : (p : ℕ) (y : Value) → content s p ≡ Some y → u.needed (name_at keys p) ≡ true → (b : Bool) → (p == q) ≡ b → slice_index (slice_set vs q x) p ≡ word_of (Some y)
    by_place p y h n true e =
        let f : p ≡ q = eqb-true p q e in
        let g : slice_index vs q ≡ (incremented_dual ds (as_dual v)).value = l.read q (Ring (incremented_dual ds (as_dual v))) (content_set_same s q (Some (Ring (incremented_dual ds (as_dual v)))) j) (ap (λ (m : ℕ). u.needed (name_at keys m)) (sym f) ∙ n) in
        let same : Some y ≡ Some v = sym h ∙ (ap (content s) f ∙ held) in
        ap (λ (m : ℕ). slice_index (slice_set vs q x) m) f ∙ (get_or-set_same vs q x 0 i ∙ (ap (λ (m : ℕ). ring_add m (amount ds 0)) g ∙ (undone_value ds (as_dual v) small ∙ (sym wd ∙ ap word_of (sym same)))))
    by_place p y h n false e =
        let f : p ≢ q = λ g. (let k : true ≡ false = sym (eq-eqb p q g) ∙ e in cc) in
        get_or-set_other vs q p x 0 f ∙ l.read p y (content_set_other s q p (Some (Ring (incremented_dual ds (as_dual v)))) f ∙ h) n

record Ungrown (w : World) (u : Use) (ts : Log) (r : Played Local) (t : Tape) (s : Cells) (bs : List ℕ) : Type 0 where
  pub vs1 : List ℕ
  pub out : r.out ≡ local w.shared t vs1 bs
  pub cells : r.cells ≡ flat w.shared vs1 bs
  pub like : Like u w.site.keys vs1 s
  pub wide : length vs1 ≡ length w.site.keys
  pub cover : CoverAll w ts r.ops

kind_touched : (atomic plus : Bool) (q : ℕ) (ts : Log) → HasTouch (increment_kind atomic plus) q ts → cond (atomic || plus) (HasTouch Update q ts) (HasTouch Write q ts)
kind_touched true plus q ts h = h
kind_touched false true q ts h = h
kind_touched false false q ts h = h

either_touched : (b : Bool) (q : ℕ) (ts : Log) → cond b (HasTouch Update q ts) (HasTouch Write q ts) → HasTouch Write q ts ⊎ HasTouch Update q ts
either_touched true q ts h = inr h
either_touched false q ts h = inl h

ungrown_ran : (w : World) (u : Use) (s : Cells) (vs bs : List ℕ) (t : Tape) (ts : Log) (atomic : Bool) (p : Designator) (rs : List Signed) (s2 : Cells) → Fit w u s → SoundIncrement w u p rs → (k : IncrementRun w.site s p rs (increment_kind atomic (w.site.pluses p.name)) s2)
    → TouchesIn (terms_of rs w.site s).log ts → TouchesIn (values_of p.subscripts w.site s).log ts → (w.site.accessed p.name ≡ true → cond (atomic || w.site.pluses p.name) (HasTouch Update k.q ts) (HasTouch Write k.q ts))
    → Like u w.site.keys vs (slice_set s k.q (Some (Ring (incremented_dual k.ds (as_dual k.v))))) → length vs ≡ length w.site.keys → length bs ≡ length w.site.keys
    → Ungrown w u ts (play (increment_reversal w atomic p rs (local w.shared t vs bs)) (flat w.shared vs bs)) t s bs
ungrown_ran w u s vs bs t ts atomic p rs s2 fit sound k told subs covered l wide long = by_push (w.site.pushed p.name) refl
  where
    c : List ℕ
    c = flat w.shared vs bs

    m : Local
    m = local w.shared t vs bs

    one : Bool
    one = atomic || w.site.pluses p.name

    x : Option Value
    x = Some (Ring (incremented_dual k.ds (as_dual k.v)))

    st : Stands w.site.keys p.name k.q
    st = stands w.site.keys p.name (whole_numbers k.vals) k.q k.place

    sc : Scene w (without p.name u) s vs bs
    sc = scene_without w u s p.name k.q x vs bs fit st.named l wide long

    at : Placed w s ts p k.q
    at = record { vals = k.vals; out = k.subs; told = subs; place = k.place }

    a : ℕ
    a = amount k.ds 0

    kinds : HasKind (kind_of w.site p.name) k.v
    kinds = subst (λ (y : List ℕ). HasKind (kind_of w.site y) k.v) st.named (fit.kinds k.q k.v k.held)

    is_ring : kind_of w.site p.name ≡ kind.Ring
    is_ring = rw sound.whole refl

    last_ops : CoverAll w ts (cond (nat_lt k.q w.shared) (cond one (Add k.q a ∷ []) (Load k.q ∷ Bump k.q a ∷ [])) [])
    last_ops = by_tests (nat_lt k.q w.shared) refl one covered
      where
        by_tests : (b : Bool) → nat_lt k.q w.shared ≡ b → (d : Bool) → (w.site.accessed p.name ≡ true → cond d (HasTouch Update k.q ts) (HasTouch Write k.q ts)) → CoverAll w ts (cond b (cond d (Add k.q a ∷ []) (Load k.q ∷ Bump k.q a ∷ [])) [])
        by_tests true f true g = (cover_value w ts (Add k.q a) f (λ e. g (ap w.site.accessed (sym st.named) ∙ e)), tt)
        by_tests true f false g = (cover_value w ts (Load k.q) f (λ e. inr (g (ap w.site.accessed (sym st.named) ∙ e))), (cover_value w ts (Bump k.q a) f (λ e. g (ap w.site.accessed (sym st.named) ∙ e)), tt))
        by_tests false f d g = tt

    free_terms : (rs : List Signed) → NeedsTerms u rs → are_free_of p.name rs ≡ true → NeedsTerms (without p.name u) rs
    free_terms rs q h = needs_terms_without u p.name rs q h

    by_push : (b : Bool) → w.site.pushed p.name ≡ b
        → Ungrown w u ts (play (cond b (and_then (rest_tree w rs 0 m) (λ a. and_then (place_tree p w m) (at_place (done m) (λ q. value_increment w one q a m)))) (done m)) c) t s bs
    by_push true e =
        let terms : Got w ts c (play (rest_tree w rs 0 m) c) a silence = rest_got w (without p.name u) s vs bs t ts sc rs k.ds 0 (free_terms rs (sound.terms e) sound.apart) k.out told in
        let place : Got w ts c (play (place_tree p w m) c) (Some k.q) silence = place_got w (without p.name u) s vs bs t ts sc p k.q (needs_all_without u p.name p.subscripts (sound.target.undone e) sound.target.free) at in
        rw (got_then w ts silence (rest_tree w rs 0 m) (λ a. and_then (place_tree p w m) (at_place (done m) (λ q. value_increment w one q a m))) c a terms)
        (rw (got_then w ts silence (place_tree p w m) (at_place (done m) (λ q. value_increment w one q a m)) c (Some k.q) place)
        (rw (grow_value_played w one t k.q a vs bs (room w (without p.name u) s vs bs sc)) (record {
          vs1 = slice_set vs k.q (ring_add (slice_index vs k.q) a);
          out = refl;
          cells = refl;
          like = like_ungrown u w.site.keys vs s k.q k.ds k.v (let i = st.there in omega arith) (let i = st.there in let j = fit.long in omega arith) k.held (word_held (kind_of w.site p.name) k.v is_ring kinds) (ring_held (kind_of w.site p.name) k.v is_ring kinds) (ap u.held st.named ∙ sound.target.unheld) l;
          wide = length-set vs k.q _ ∙ wide;
          cover = cover_both w ts _ _ (terms.cover (silent ts)) (cover_both w ts _ _ (place.cover (silent ts)) last_ops);
        })))
    by_push false e = record {
      vs1 = vs;
      out = refl;
      cells = refl;
      like = like_other u w.site.keys vs s k.q x (ap u.needed st.named ∙ off (u.needed p.name) refl) l;
      wide = wide;
      cover = tt;
    }
      where
        off : (b : Bool) → u.needed p.name ≡ b → u.needed p.name ≡ false
        off true f = absurd (let g : true ≡ false = sym (sound.target.pushed f) ∙ e in cc)
        off false f = f

pub increment_undone : (w : World) (u : Use) (ts : Log) (atomic : Bool) (p : Designator) (rs : List Signed) → SoundIncrement w u p rs → (s : Cells) (t : Tape) → Fit w u s → Within w.active (increment w.site s p rs (increment_kind atomic (w.site.pluses p.name))).log ts
    → (s2 : Cells) → (increment w.site s p rs (increment_kind atomic (w.site.pluses p.name))).out ≡ Ok s2
    → Undoes w u ts (increment_back w atomic p rs) t (tape_after (increment w.site s p rs (increment_kind atomic (w.site.pluses p.name))).log t) s s2
increment_undone w u ts atomic p rs sound s t fit ins s2 h vs bs l wide long small = rw (increment_tape w s p rs n s2 k t) (by_active (w.active p.name) refl)
  where
    n : AccessKind
    n = increment_kind atomic (w.site.pluses p.name)

    k : IncrementRun w.site s p rs n s2
    k = increment_run w.site s p rs n s2 h

    x : Option Value
    x = Some (Ring (incremented_dual k.ds (as_dual k.v)))

    c : List ℕ
    c = flat w.shared vs bs

    m : Local
    m = local w.shared t vs bs

    all : Within w.active (both (within (right_side p.name) (terms_of rs w.site s).log) (both (values_of p.subscripts w.site s).log k.tail)) ts
    all = subst (λ (y : Log). Within w.active y ts) k.log ins

    terms_told : TouchesIn (terms_of rs w.site s).log ts
    terms_told i q j = all.touches i q (inl j)

    subs_told : TouchesIn (values_of p.subscripts w.site s).log ts
    subs_told i q j = all.touches i q (inr (inl j))

    covered : w.site.accessed p.name ≡ true → cond (atomic || w.site.pluses p.name) (HasTouch Update k.q ts) (HasTouch Write k.q ts)
    covered i = kind_touched atomic (w.site.pluses p.name) k.q ts (all.touches n k.q (inr (inr (k.covered i))))

    at : Placed w s ts p k.q
    at = record { vals = k.vals; out = k.subs; told = subs_told; place = k.place }

    like2 : Like u w.site.keys vs (slice_set s k.q x)
    like2 = subst (λ (y : Cells). Like u w.site.keys vs y) k.cells l

    un : Ungrown w u ts (play (increment_reversal w atomic p rs m) c) t s bs
    un = ungrown_ran w u s vs bs t ts atomic p rs s2 fit sound k terms_told subs_told covered like2 wide long

    sc : Scene w u s un.vs1 bs
    sc = record { fit = fit; like = un.like; wide = un.wide; long = long }

    named : name_at w.site.keys k.q ≡ p.name
    named = (stands w.site.keys p.name (whole_numbers k.vals) k.q k.place).named

    live_is : u.live (name_at w.site.keys k.q) ≡ w.active p.name
    live_is = ap u.live named ∙ sound.target.live

    by_active : (b : Bool) → w.active p.name ≡ b
        → Ends w u ts (play (and_then (increment_reversal w atomic p rs m) (λ y. cond b (and_then (adjoint_tree w p y) (λ a. increments w a (rest_occurrences w.active rs) y)) (done y))) c) t s s2 bs
    by_active true on =
        let a : ℕ = slice_index bs k.q in
        let ds : List ℕ = tangents u w.site.keys s in
        let own : Local = local w.shared t un.vs1 bs in
        let right : Inside w ts (terms_of rs w.site s).log = record { told = terms_told; reads = λ q i. all.differentiated q (inl (differentiated_if w p.name q (terms_of rs w.site s).log on i)) } in
        let one : Got w ts (flat w.shared un.vs1 bs) (play (adjoint_tree w p own) (flat w.shared un.vs1 bs)) a silence =
        adjoint_got w u s un.vs1 bs t ts sc p k.q (sound.target.subscripts on) at (λ i. either_touched (atomic || w.site.pluses p.name) k.q ts (covered i)) (sound.target.summed on) in
        let su = terms_sums w u s ts fit a rs k.ds k.out right (sound.kinds on) (sound.quiet on) in
        let sp = spreads w u s un.vs1 bs t ts a sc (rest_occurrences w.active rs) su.z (sound.amounts on) su.sum small in
        let here : slice_index ds k.q ≡ (as_dual k.v).tangent =
        live_at (λ p. u.live (name_at w.site.keys p)) 0 k.q (map tangent_of s) (ap (λ (p : ℕ). u.live (name_at w.site.keys p)) (omega arith) ∙ (live_is ∙ on)) ∙ (tangent_here s k.q ∙ (ap tangent_of k.held ∙ tangent_held k.v)) in
        let after-store : tangents u w.site.keys s2 ≡ slice_set ds k.q (incremented_dual k.ds (as_dual k.v)).tangent = ap (tangents u w.site.keys) k.cells ∙ tangents_on w u s k.q x (live_is ∙ on) in
        let moved-by : Same (incremented_dual k.ds (as_dual k.v)).tangent (slice_index ds k.q + drift k.ds) = grown_tangent k.ds (as_dual k.v) ∙ of_equal _ _ (ap (λ (z : ℕ). z + drift k.ds) (sym here)) in
        rw (bind (increment_reversal w atomic p rs m) (λ y. and_then (adjoint_tree w p y) (λ a. increments w a (rest_occurrences w.active rs) y)) c)
        (rw (un.out, un.cells)
        (rw (got_then w ts silence (adjoint_tree w p own) (λ a. increments w a (rest_occurrences w.active rs) own) (flat w.shared un.vs1 bs) a one) (record {
          vs2 = un.vs1;
          bs2 = sp.bs2;
          out = sp.out;
          cells = sp.cells;
          like = un.like;
          wide = un.wide;
          long = sp.long;
          words = sp.words;
          pairs = sp.pairs ∙ (same_sum (pair bs ds) (pair bs ds) su.z (a * drift k.ds) refl su.same ∙ (sym (pair_moved bs ds k.q (incremented_dual k.ds (as_dual k.v)).tangent (drift k.ds) (long ∙ sym (tangents_long w u s fit)) moved-by) ∙ of_equal _ _ (ap (pair bs) (sym after-store))));
          cover = cover_both w ts _ _ un.cover (cover_both w ts _ _ (one.cover (silent ts)) sp.cover);
        })))
    by_active false on =
        rw (bind (increment_reversal w atomic p rs m) (λ y. done y) c) (rw (un.out, un.cells) (record {
          vs2 = un.vs1;
          bs2 = bs;
          out = refl;
          cells = refl;
          like = un.like;
          wide = un.wide;
          long = long;
          words = small;
          pairs = of_equal _ _ (ap (pair bs) (sym (ap (tangents u w.site.keys) k.cells ∙ tangents_off w u s k.q x (live_is ∙ on))));
          cover = cover_both w ts _ [] un.cover tt;
        }))
