-- A plain assignment is undone, and the pairing kept.
use Rattle.std.proofs.Common.{◌≡◌, ◌≢◌, ℕ, ◌+◌, ◌*◌, ◌<◌, ◌==◌, List, [], ◌∷◌, ◌++◌, refl, ap, sym, ◌∙◌, subst, arith, length, map, append_assoc, Bool, true, false, not, ◌&&◌, ◌||◌, cond, Option, Some, None, Ok, inl, inr}
use Rattle.std.specs.Prelude.{◌⊎◌, slice_index, slice_set, nat_lt, bytes_eq, if◌then◌else◌}
use Rattle.std.proofs.lemmas.Bool.{and_parts, and_from, eqb-true, eq-eqb}
use Rattle.std.proofs.lemmas.Slice.Eq.{bytes_eq-Decides}
use Rattle.std.proofs.lemmas.List.{length-set, get_or-set_same, get_or-set_other}
use Rattle.pairing.specs.Pair.{pair, live}
use Rattle.pairing.proofs.Sames.{of_equal, same_sum}
use Rattle.pairing.proofs.Pairs.{pair_set, live_set, live_skip}
use Rattle.fl_ast.specs.Tree.{Expression, literal, get, minus, binary, power, call, Expressions, no_expressions, expression, Designator}
use Rattle.fl_ast.specs.Occurs.{occurs, occurs_in_any}
use Rattle.fl_types.specs.declared.access.AccessKind.TheVariants.{Read, Write, Update}
use Rattle.operations.specs.declared.op.Op.{Op}
use Rattle.operations.specs.declared.op.Op.TheVariants.{Load, Store}
use Rattle.operations.specs.Tree.{Tree, done, and_then, Played, play}
use Rattle.operations.proofs.Trees.{bind}
use Rattle.meaning.specs.declared.value.Value.{Value}
use Rattle.meaning.specs.declared.value.Value.TheVariants.{Index, Ring}
use Rattle.meaning.specs.declared.value.Cause.{Cause}
use Rattle.meaning.specs.Values.{as_kind, whole_numbers}
use Rattle.meaning.specs.Logs.{Log, silence, single, both, within, right_side, touched, pushes, Traced, after, inside, ◌>>=◌}
use Rattle.meaning.specs.Sites.{Key, Cells, Site, with_tangent, place_of, kind_of, word_of}
use Rattle.meaning.specs.Expressions.{content, value_of, values_of}
use Rattle.meaning.specs.Statements.{store_at, put, plain_assignment}
use Rattle.meaning.specs.Adjoints.{tangent_of}
use Rattle.meaning.proofs.Parts.{bound}
use Rattle.transposition.specs.Tapes.{Tape, word, tape_after, top}
use Rattle.transposition.specs.Worlds.{World, Local, at_place, adjoint_load, adjoint_store, value_store, is_one_step, is_reduction, name_at}
use Rattle.transposition.specs.Reads.{place_tree}
use Rattle.transposition.specs.Spread.{occurrences, increments, with_sign}
use Rattle.transposition.specs.Back.{after_pop, adjoint_tree, adjoint_move, value_restoration, plain_back}
use Rattle.transposition.specs.Law.{Use, flat, local, Like, Fit, tangents, HasTouch, HasDifferentiatedRead, Within, CoverAll, Ends, Undoes}
use Rattle.transposition.specs.Needs.{Needs, NeedsAll}
use Rattle.transposition.specs.Sound.{SoundTarget, SoundPlain}
use Rattle.transposition.proofs.Words.{words_set, zero_word}
use Rattle.transposition.proofs.Split.{before, making, adjoint_at_played, set_adjoint_played, set_value_played}
use Rattle.transposition.proofs.Keys.{Stands, stands}
use Rattle.transposition.proofs.Places.{content_set_other, tangents_set}
use Rattle.transposition.proofs.Tangents.{moves}
use Rattle.transposition.proofs.Reading.{TouchesIn, Scene, room, Got, got_then, got_bind, place_got, Placed, cover_both, cover_value, cover_adjoint}
use Rattle.transposition.proofs.Bounds.{Inside}
use Rattle.transposition.proofs.Spreading.{silent, spreads, tangents_long}
use Rattle.transposition.proofs.Calculus.{Sums, expression_sums}
use Rattle.transposition.proofs.Taping.{wordless, wordless_all}

-- ---- reading what is free of the target's name

abbrev pub without : List ℕ → Use → Use
without x u = record u { needed = λ y. u.needed y && not (bytes_eq y x) }

or_false_left : (a b : Bool) → (a || b) ≡ false → a ≡ false
or_false_left true b h = cc
or_false_left false b h = refl

or_false_right : (a b : Bool) → (a || b) ≡ false → b ≡ false
or_false_right true b h = cc
or_false_right false b h = h

mutual
  pub needs_without : (u : Use) (x : List ℕ) (e : Expression) → Needs u e → occurs x e ≡ false → Needs (without x u) e
  needs_without u x (literal n k) q h = tt
  needs_without u x (get y ss) q h =
      (and_from (u.needed y) (not (bytes_eq y x)) q.0 (ap not (or_false_left (bytes_eq y x) (occurs_in_any x ss) h)), needs_all_without u x ss q.1 (or_false_right (bytes_eq y x) (occurs_in_any x ss) h))
  needs_without u x (minus a) q h = needs_without u x a q h
  needs_without u x (binary o a b) q h = (needs_without u x a q.0 (or_false_left (occurs x a) (occurs x b) h), needs_without u x b q.1 (or_false_right (occurs x a) (occurs x b) h))
  needs_without u x (power a n) q h = needs_without u x a q h
  needs_without u x (call f es) q h = needs_all_without u x es q h

  pub needs_all_without : (u : Use) (x : List ℕ) (es : Expressions) → NeedsAll u es → occurs_in_any x es ≡ false → NeedsAll (without x u) es
  needs_all_without u x no_expressions q h = tt
  needs_all_without u x (expression e es) q h = (needs_without u x e q.0 (or_false_left (occurs x e) (occurs_in_any x es) h), needs_all_without u x es q.1 (or_false_right (occurs x e) (occurs_in_any x es) h))

same_bytes : (x y : List ℕ) → x ≡ y → bytes_eq x y ≡ true
same_bytes x y h = (bytes_eq-Decides x y).1 h

not_true : (b : Bool) → not b ≡ true → b ≡ true → ⊥
not_true true h k = cc
not_true false h k = cc

pub like_without : (u : Use) (keys : List Key) (x : List ℕ) (vs : List ℕ) (s : Cells) (q : ℕ) (c : Option Value) → name_at keys q ≡ x → Like u keys vs (slice_set s q c) → Like (without x u) keys vs s
like_without u keys x vs s q c named l = record {
  read = λ p v h n.
      let parts : (u.needed (name_at keys p) ≡ true) × (not (bytes_eq (name_at keys p) x) ≡ true) = and_parts (u.needed (name_at keys p)) (not (bytes_eq (name_at keys p) x)) n in
      l.read p v (content_set_other s q p c (λ e. not_true (bytes_eq (name_at keys p) x) parts.1 (same_bytes (name_at keys p) x (ap (name_at keys) e ∙ named))) ∙ h) parts.0;
  held = l.held;
}

-- the scene in which the target's name isn't read
pub scene_without : (w : World) (u : Use) (s : Cells) (x : List ℕ) (q : ℕ) (c : Option Value) (vs bs : List ℕ) → Fit w u s → name_at w.site.keys q ≡ x → Like u w.site.keys vs (slice_set s q c)
    → length vs ≡ length w.site.keys → length bs ≡ length w.site.keys → Scene w (without x u) s vs bs
scene_without w u s x q c vs bs fit named l wide long =
    record { fit = record { long = fit.long; room = fit.room; kinds = fit.kinds; still = fit.still; held = fit.held }; like = like_without u w.site.keys x vs s q c named l; wide = wide; long = long }

-- a word that is set at a place that isn't held
pub held_other : (u : Use) (keys : List Key) (vs : List ℕ) (q x : ℕ) → u.held (name_at keys q) ≡ None → ((p n : ℕ) → u.held (name_at keys p) ≡ Some n → slice_index vs p ≡ n)
    → (p n : ℕ) → u.held (name_at keys p) ≡ Some n → slice_index (slice_set vs q x) p ≡ n
held_other u keys vs q x free l p n h =
    get_or-set_other vs q p x 0 (λ g. (let k : None ≡ Some n = sym free ∙ (ap (λ (m : ℕ). u.held (name_at keys m)) (sym g) ∙ h) in cc)) ∙ l p n h

-- the old word set again
pub like_restored : (u : Use) (keys : List Key) (vs : List ℕ) (s : Cells) (q : ℕ) (c : Option Value) → q < length vs → u.held (name_at keys q) ≡ None → Like u keys vs (slice_set s q c) → Like u keys (slice_set vs q (word_of (content s q))) s
like_restored u keys vs s q c i free l = record {
  read = λ p v h n. by_place p v h n (p == q) refl;
  held = held_other u keys vs q (word_of (content s q)) free l.held;
}
  where
    by_place : (p : ℕ) (v : Value) → content s p ≡ Some v → u.needed (name_at keys p) ≡ true → (b : Bool) → (p == q) ≡ b → slice_index (slice_set vs q (word_of (content s q))) p ≡ word_of (Some v)
    by_place p v h n true e =
        let f : p ≡ q = eqb-true p q e in
        ap (λ (m : ℕ). slice_index (slice_set vs q (word_of (content s q))) m) f ∙ (get_or-set_same vs q (word_of (content s q)) 0 i ∙ ap word_of (ap (content s) (sym f) ∙ h))
    by_place p v h n false e =
        let f : p ≢ q = λ g. (let k : true ≡ false = sym (eq-eqb p q g) ∙ e in cc) in
        get_or-set_other vs q p (word_of (content s q)) 0 f ∙ l.read p v (content_set_other s q p c f ∙ h) n

-- what isn't needed may differ
pub like_other : (u : Use) (keys : List Key) (vs : List ℕ) (s : Cells) (q : ℕ) (c : Option Value) → u.needed (name_at keys q) ≡ false → Like u keys vs (slice_set s q c) → Like u keys vs s
like_other u keys vs s q c off l = record {
  read = λ p v h n. l.read p v (content_set_other s q p c (λ e. (let k : true ≡ false = sym n ∙ (ap (λ (m : ℕ). u.needed (name_at keys m)) e ∙ off) in cc)) ∙ h) n;
  held = l.held;
}

-- ---- the run

pub record PlainRun (site : Site) (s : Cells) (p : Designator) (e : Expression) (s2 : Cells) : Type 0 where
  pub v : Value
  pub out : (value_of e site s).out ≡ Ok v
  pub vals : List Value
  pub subs : (values_of p.subscripts site s).out ≡ Ok vals
  pub q : ℕ
  pub place : place_of site p.name (whole_numbers vals) ≡ Some q
  pub cells : s2 ≡ slice_set s q (Some (as_kind (kind_of site p.name) v))
  pub tail : Log
  pub log : (plain_assignment site s p e).log ≡ both (within (right_side p.name) (value_of e site s).log) (both (values_of p.subscripts site s).log tail)
  pub covered : site.accessed p.name ≡ true → HasTouch Write q tail
  pub tape : (t : Tape) → tape_after tail t ≡ cond (site.pushed p.name) (word (word_of (content s q)) t) t

record PutRun (site : Site) (s : Cells) (x : List ℕ) (v : Value) (o : Option ℕ) (s2 : Cells) (l : Log) : Type 0 where
  pub q : ℕ
  pub place : o ≡ Some q
  pub cells : s2 ≡ slice_set s q (Some (as_kind (kind_of site x) v))
  pub covered : site.accessed x ≡ true → HasTouch Write q l
  pub tape : (t : Tape) → tape_after l t ≡ cond (site.pushed x) (word (word_of (content s q)) t) t

pub word_plain : (c : Option Value) → word_of (with_tangent 0 c) ≡ word_of c
word_plain None = refl
word_plain (Some (Index z)) = refl
word_plain (Some (Ring d)) = refl

abbrev saved : Bool → Cells → ℕ → Value → Traced Cause Cells
saved b s q v = if b then after (single (pushes (with_tangent 0 (content s q)))) (store_at s q v) else store_at s q v

abbrev put_by : Bool → Bool → Site → Cells → ℕ → Value → Traced Cause Cells
put_by a b site s q v = if a then after (touched q Write) (saved b s q v) else saved b s q v

put_run : (site : Site) (s : Cells) (x : List ℕ) (v : Value) (o : Option ℕ) (s2 : Cells) → (put site s x v o).out ≡ Ok s2 → PutRun site s x v o s2 (put site s x v o).log
put_run site s x v None s2 h = cc
put_run site s x v (Some q) s2 h = by_tests (site.accessed x) (site.pushed x) refl refl h
  where
    y : Value
    y = as_kind (kind_of site x) v

    set_wordless : (z : Value) (t : Tape) → tape_after (store_at s q z).log t ≡ t
    set_wordless z t = refl

    by_tests : (a b : Bool) → site.accessed x ≡ a → site.pushed x ≡ b → (put_by a b site s q y).out ≡ Ok s2 → PutRun site s x v (Some q) s2 (put_by a b site s q y).log
    by_tests true true f g i = record { q = q; place = refl; cells = (let j : slice_set s q (Some y) ≡ s2 = cc in sym j); covered = λ k. inl (refl, refl); tape = λ t. rw g (ap (λ (x : ℕ). word x t) (word_plain (content s q))) }
    by_tests true false f g i = record { q = q; place = refl; cells = (let j : slice_set s q (Some y) ≡ s2 = cc in sym j); covered = λ k. inl (refl, refl); tape = λ t. rw g (set_wordless y t) }
    by_tests false true f g i = record { q = q; place = refl; cells = (let j : slice_set s q (Some y) ≡ s2 = cc in sym j); covered = λ k. absurd (let m : true ≡ false = sym k ∙ f in cc); tape = λ t. rw g (ap (λ (x : ℕ). word x t) (word_plain (content s q))) }
    by_tests false false f g i = record { q = q; place = refl; cells = (let j : slice_set s q (Some y) ≡ s2 = cc in sym j); covered = λ k. absurd (let m : true ≡ false = sym k ∙ f in cc); tape = λ t. rw g (set_wordless y t) }

pub plain_run : (site : Site) (s : Cells) (p : Designator) (e : Expression) (s2 : Cells) → (plain_assignment site s p e).out ≡ Ok s2 → PlainRun site s p e s2
plain_run site s p e s2 h =
    let f = bound (inside (right_side p.name) (value_of e site s)) (λ v. values_of p.subscripts site s >>= (λ vals. put site s p.name v (place_of site p.name (whole_numbers vals)))) s2 h in
    let g = bound (values_of p.subscripts site s) (λ vals. put site s p.name f.value (place_of site p.name (whole_numbers vals))) s2 f.second in
    let i = put_run site s p.name f.value (place_of site p.name (whole_numbers g.value)) s2 g.second in
    record {
      v = f.value;
      out = f.first;
      vals = g.value;
      subs = g.first;
      q = i.q;
      place = i.place;
      cells = i.cells;
      tail = (put site s p.name f.value (place_of site p.name (whole_numbers g.value))).log;
      log = f.log ∙ ap (λ (l : Log). both (within (right_side p.name) (value_of e site s).log) l) g.log;
      covered = i.covered;
      tape = i.tape;
    }

-- ---- the parts of the reverse statement

placed : (w : World) (s : Cells) (ts : Log) (p : Designator) (e : Expression) (s2 : Cells) (k : PlainRun w.site s p e s2) → TouchesIn (values_of p.subscripts w.site s).log ts → Placed w s ts p k.q
placed w s ts p e s2 k h = record { vals = k.vals; out = k.subs; told = h; place = k.place }

-- a load of the target's adjoint
pub adjoint_got : (w : World) (u : Use) (s : Cells) (vs bs : List ℕ) (t : Tape) (ts : Log) → Scene w u s vs bs → (p : Designator) (q : ℕ) → NeedsAll u p.subscripts → Placed w s ts p q
    → (w.site.accessed p.name ≡ true → HasTouch Write q ts ⊎ HasTouch Update q ts) → is_reduction (w.choice p.name) ≡ false
    → Got w ts (flat w.shared vs bs) (play (adjoint_tree w p (local w.shared t vs bs)) (flat w.shared vs bs)) (slice_index bs q) silence
adjoint_got w u s vs bs t ts h p q n k covered off =
    got_bind w ts c (place_tree p w l) (at_place (done 0) (adjoint_load w l)) (Some q) (slice_index bs q) (place_got w u s vs bs t ts h p q n k)
    (rw (adjoint_at_played w t q vs bs (room w u s vs bs h)) (record { out = refl; cells = refl; cover = λ i. by_test (nat_lt q w.shared) refl }))
  where
    c : List ℕ
    c = flat w.shared vs bs

    l : Local
    l = local w.shared t vs bs

    named : name_at w.site.keys q ≡ p.name
    named = (stands w.site.keys p.name (whole_numbers k.vals) q k.place).named

    weaker : HasTouch Write q ts ⊎ HasTouch Update q ts → HasTouch Write q ts ⊎ (HasTouch Update q ts ⊎ (HasDifferentiatedRead w.active q ts × (is_one_step (w.choice (name_at w.site.keys q)) ≡ false)))
    weaker (inl a) = inl a
    weaker (inr a) = inr (inl a)

    by_test : (b : Bool) → nat_lt q w.shared ≡ b → CoverAll w ts (cond b (Load (w.shared + q) ∷ []) [])
    by_test true f = (cover_adjoint w ts (Load (w.shared + q)) q refl f (λ e. (weaker (covered (ap w.site.accessed (sym named) ∙ e)), ap (λ (y : List ℕ). is_reduction (w.choice y)) named ∙ off)), tt)
    by_test false f = tt

record Moved (w : World) (ts : Log) (p : Designator) (q : ℕ) (t : Tape) (vs bs : List ℕ) : Type 0 where
  pub ops : List Op
  pub cover : CoverAll w ts ops
  pub ran : (k : ℕ → Local → Tree Local) → play (adjoint_move w p (local w.shared t vs bs) k) (flat w.shared vs bs) ≡ before ops (play (k (slice_index bs q) (local w.shared t vs (slice_set bs q 0))) (flat w.shared vs (slice_set bs q 0)))

appended : {A : Type 0} (r : Played A) (os us : List Op) → before os (before us r) ≡ before (os ++ us) r
appended r os us = ap (λ (l : List Op). record { out = r.out; cells = r.cells; ops = l }) (sym (append_assoc os us r.ops))

moved_ran : (w : World) (u : Use) (s : Cells) (vs bs : List ℕ) (t : Tape) (ts : Log) → Scene w u s vs bs → (p : Designator) (q : ℕ) → NeedsAll u p.subscripts → Placed w s ts p q
    → (w.site.accessed p.name ≡ true → HasTouch Write q ts) → is_reduction (w.choice p.name) ≡ false → Moved w ts p q t vs bs
moved_ran w u s vs bs t ts h p q n k covered off = record {
  ops = (play (adjoint_tree w p l) c).ops ++ ((play (place_tree p w l) c).ops ++ making w.shared q (Store (w.shared + q) 0));
  cover = cover_both w ts _ _ (one.cover (silent ts)) (cover_both w ts _ _ (two.cover (silent ts)) (by_test (nat_lt q w.shared) refl));
  ran = λ f.
      got_then w ts silence (adjoint_tree w p l) (λ a. and_then (place_tree p w l) (λ o. and_then (at_place (done l) (λ j. adjoint_store w j 0 l) o) (f a))) c (slice_index bs q) one
      ∙ (ap (before (play (adjoint_tree w p l) c).ops) (got_then w ts silence (place_tree p w l) (λ o. and_then (at_place (done l) (λ j. adjoint_store w j 0 l) o) (f (slice_index bs q))) c (Some q) two
      ∙ ap (before (play (place_tree p w l) c).ops) (bind (adjoint_store w q 0 l) (f (slice_index bs q)) c ∙ (rw (set_adjoint_played w t q 0 vs bs (room w u s vs bs h)) refl)))
      ∙ (ap (before (play (adjoint_tree w p l) c).ops) (appended (play (f (slice_index bs q) (local w.shared t vs (slice_set bs q 0))) (flat w.shared vs (slice_set bs q 0))) (play (place_tree p w l) c).ops (making w.shared q (Store (w.shared + q) 0)))
      ∙ appended (play (f (slice_index bs q) (local w.shared t vs (slice_set bs q 0))) (flat w.shared vs (slice_set bs q 0))) (play (adjoint_tree w p l) c).ops ((play (place_tree p w l) c).ops ++ making w.shared q (Store (w.shared + q) 0))));
}
  where
    c : List ℕ
    c = flat w.shared vs bs

    l : Local
    l = local w.shared t vs bs

    one : Got w ts c (play (adjoint_tree w p l) c) (slice_index bs q) silence
    one = adjoint_got w u s vs bs t ts h p q n k (λ e. inl (covered e)) off

    two : Got w ts c (play (place_tree p w l) c) (Some q) silence
    two = place_got w u s vs bs t ts h p q n k

    named : name_at w.site.keys q ≡ p.name
    named = (stands w.site.keys p.name (whole_numbers k.vals) q k.place).named

    by_test : (b : Bool) → nat_lt q w.shared ≡ b → CoverAll w ts (cond b (Store (w.shared + q) 0 ∷ []) [])
    by_test true f = (cover_adjoint w ts (Store (w.shared + q) 0) q refl f (λ e. (covered (ap w.site.accessed (sym named) ∙ e), ap (λ (y : List ℕ). is_reduction (w.choice y)) named ∙ off)), tt)
    by_test false f = tt

record Restored (w : World) (u : Use) (ts : Log) (r : Played Local) (t : Tape) (s : Cells) (bs : List ℕ) : Type 0 where
  pub vs1 : List ℕ
  pub out : r.out ≡ local w.shared t vs1 bs
  pub cells : r.cells ≡ flat w.shared vs1 bs
  pub like : Like u w.site.keys vs1 s
  pub wide : length vs1 ≡ length w.site.keys
  pub cover : CoverAll w ts r.ops

restored_ran : (w : World) (u : Use) (s : Cells) (x : Option Value) (vs bs : List ℕ) (t : Tape) (ts : Log) → Fit w u s → (p : Designator) (q : ℕ) → SoundTarget w u p → Placed w s ts p q
    → (w.site.accessed p.name ≡ true → HasTouch Write q ts) → Like u w.site.keys vs (slice_set s q x) → length vs ≡ length w.site.keys → length bs ≡ length w.site.keys
    → Restored w u ts (play (value_restoration w p (local w.shared (cond (w.site.pushed p.name) (word (word_of (content s q)) t) t) vs bs)) (flat w.shared vs bs)) t s bs
restored_ran w u s x vs bs t ts fit p q sound k covered l wide long = by_push (w.site.pushed p.name) refl
  where
    c : List ℕ
    c = flat w.shared vs bs

    st : Stands w.site.keys p.name q
    st = stands w.site.keys p.name (whole_numbers k.vals) q k.place

    old : ℕ
    old = word_of (content s q)

    tape : Tape
    tape = word old t

    sc : Scene w (without p.name u) s vs bs
    sc = scene_without w u s p.name q x vs bs fit st.named l wide long

    store_cover : CoverAll w ts (making w.shared q (Store q old))
    store_cover = by_test (nat_lt q w.shared) refl
      where
        by_test : (b : Bool) → nat_lt q w.shared ≡ b → CoverAll w ts (cond b (Store q old ∷ []) [])
        by_test true f = (cover_value w ts (Store q old) f (λ e. covered (ap w.site.accessed (sym st.named) ∙ e)), tt)
        by_test false f = tt

    by_push : (b : Bool) → w.site.pushed p.name ≡ b
        → Restored w u ts (play (cond b (and_then (place_tree p w (local w.shared (cond b tape t) vs bs)) (at_place (done (after_pop (local w.shared (cond b tape t) vs bs))) (λ q. value_store w q (top (cond b tape t)) (after_pop (local w.shared (cond b tape t) vs bs))))) (done (local w.shared (cond b tape t) vs bs))) c) t s bs
    by_push true e =
        let one : Got w ts c (play (place_tree p w (local w.shared tape vs bs)) c) (Some q) silence = place_got w (without p.name u) s vs bs tape ts sc p q (needs_all_without u p.name p.subscripts (sound.undone e) sound.free) k in
        rw (got_then w ts silence (place_tree p w (local w.shared tape vs bs)) (at_place (done (after_pop (local w.shared tape vs bs))) (λ q. value_store w q old (after_pop (local w.shared tape vs bs)))) c (Some q) one)
        (rw (set_value_played w t q old vs bs (room w (without p.name u) s vs bs sc)) (record {
          vs1 = slice_set vs q old;
          out = refl;
          cells = refl;
          like = like_restored u w.site.keys vs s q x (let i = st.there in omega arith) (ap u.held st.named ∙ sound.unheld) l;
          wide = length-set vs q old ∙ wide;
          cover = cover_both w ts _ _ (one.cover (silent ts)) store_cover;
        }))
    by_push false e = record {
      vs1 = vs;
      out = refl;
      cells = refl;
      like = like_other u w.site.keys vs s q x (ap u.needed st.named ∙ off (u.needed p.name) refl) l;
      wide = wide;
      cover = tt;
    }
      where
        off : (b : Bool) → u.needed p.name ≡ b → u.needed p.name ≡ false
        off true f = absurd (let g : true ≡ false = sym (sound.pushed f) ∙ e in cc)
        off false f = f

-- ---- the statement

-- the tangents after a store
pub tangents_on : (w : World) (u : Use) (s : Cells) (q : ℕ) (v : Option Value) → u.live (name_at w.site.keys q) ≡ true → tangents u w.site.keys (slice_set s q v) ≡ slice_set (tangents u w.site.keys s) q (tangent_of v)
tangents_on w u s q v h =
    ap (live (λ p. u.live (name_at w.site.keys p)) 0) (tangents_set s q v) ∙ live_set (λ p. u.live (name_at w.site.keys p)) 0 q (tangent_of v) (map tangent_of s) (ap (λ (p : ℕ). u.live (name_at w.site.keys p)) (omega arith) ∙ h)

pub tangents_off : (w : World) (u : Use) (s : Cells) (q : ℕ) (v : Option Value) → u.live (name_at w.site.keys q) ≡ false → tangents u w.site.keys (slice_set s q v) ≡ tangents u w.site.keys s
tangents_off w u s q v h =
    ap (live (λ p. u.live (name_at w.site.keys p)) 0) (tangents_set s q v) ∙ live_skip (λ p. u.live (name_at w.site.keys p)) 0 q (tangent_of v) (map tangent_of s) (ap (λ (p : ℕ). u.live (name_at w.site.keys p)) (omega arith) ∙ h)

pub ring_tangent : (site : Site) (x : List ℕ) (v : Value) → site.ring x ≡ true → tangent_of (Some (as_kind (kind_of site x) v)) ≡ moves v
ring_tangent site x v h = rw h refl

-- the touches and the right side of a plain assignment, among others
record Told3 (w : World) (ts : Log) (p : Designator) (e : Expression) (s : Cells) (end : Log) : Type 0 where
  pub right : w.active p.name ≡ true → Inside w ts (value_of e w.site s).log
  pub subs : TouchesIn (values_of p.subscripts w.site s).log ts
  pub tail : TouchesIn end ts

pub differentiated_if : (w : World) (x : List ℕ) (q : ℕ) (l : Log) → w.active x ≡ true → HasTouch Read q l → HasDifferentiatedRead w.active q (within (right_side x) l)
differentiated_if w x q l h t = rw h t

parts_told : (w : World) (ts : Log) (p : Designator) (e : Expression) (s : Cells) (tail l : Log) → l ≡ both (within (right_side p.name) (value_of e w.site s).log) (both (values_of p.subscripts w.site s).log tail) → Within w.active l ts → Told3 w ts p e s tail
parts_told w ts p e s tail l f h =
    let g : Within w.active (both (within (right_side p.name) (value_of e w.site s).log) (both (values_of p.subscripts w.site s).log tail)) ts = subst (λ (m : Log). Within w.active m ts) f h in
    record {
      right = λ on. record { told = λ k q i. g.touches k q (inl i); reads = λ q i. g.differentiated q (inl (differentiated_if w p.name q (value_of e w.site s).log on i)) };
      subs = λ k q i. g.touches k q (inr (inl i));
      tail = λ k q i. g.touches k q (inr (inr i));
    }

plain_tape : (w : World) (s : Cells) (p : Designator) (e : Expression) (s2 : Cells) (k : PlainRun w.site s p e s2) (t : Tape) → tape_after (plain_assignment w.site s p e).log t ≡ cond (w.site.pushed p.name) (word (word_of (content s k.q)) t) t
plain_tape w s p e s2 k t = ap (λ (l : Log). tape_after l t) k.log ∙ (rw (wordless e w.site s t, wordless_all p.subscripts w.site s t) (k.tape t))

pub plain_undone : (w : World) (u : Use) (ts : Log) (p : Designator) (e : Expression) → SoundPlain w u p e → (s : Cells) (t : Tape) → Fit w u s → Within w.active (plain_assignment w.site s p e).log ts → (s2 : Cells) → (plain_assignment w.site s p e).out ≡ Ok s2
    → Undoes w u ts (plain_back w p e) t (tape_after (plain_assignment w.site s p e).log t) s s2
plain_undone w u ts p e sound s t fit ins s2 h vs bs l wide long small = rw (plain_tape w s p e s2 k t) (by_active (w.active p.name) refl)
  where
    k : PlainRun w.site s p e s2
    k = plain_run w.site s p e s2 h

    x : Option Value
    x = Some (as_kind (kind_of w.site p.name) k.v)

    tape : Tape
    tape = cond (w.site.pushed p.name) (word (word_of (content s k.q)) t) t

    c : List ℕ
    c = flat w.shared vs bs

    m : Local
    m = local w.shared tape vs bs

    told : Told3 w ts p e s k.tail
    told = parts_told w ts p e s k.tail (plain_assignment w.site s p e).log k.log ins

    at : Placed w s ts p k.q
    at = placed w s ts p e s2 k told.subs

    covered : w.site.accessed p.name ≡ true → HasTouch Write k.q ts
    covered i = told.tail Write k.q (k.covered i)

    like2 : Like u w.site.keys vs (slice_set s k.q x)
    like2 = subst (λ (y : Cells). Like u w.site.keys vs y) k.cells l

    named : name_at w.site.keys k.q ≡ p.name
    named = (stands w.site.keys p.name (whole_numbers k.vals) k.q k.place).named

    live_is : u.live (name_at w.site.keys k.q) ≡ w.active p.name
    live_is = ap u.live named ∙ sound.target.live

    by_active : (b : Bool) → w.active p.name ≡ b
        → Ends w u ts (play (cond b (adjoint_move w p m (λ a y. and_then (value_restoration w p y) (increments w a (occurrences w.active e false [])))) (value_restoration w p m)) c) t s s2 bs
    by_active true on =
        let a : ℕ = slice_index bs k.q in
        let bs1 : List ℕ = slice_set bs k.q 0 in
        let long1 : length bs1 ≡ length w.site.keys = length-set bs k.q 0 ∙ long in
        let sc = scene_without w u s p.name k.q x vs bs fit named like2 wide long in
        let mv : Moved w ts p k.q tape vs bs = moved_ran w (without p.name u) s vs bs tape ts sc p k.q (needs_all_without u p.name p.subscripts (sound.target.subscripts on) sound.target.free) at covered (sound.target.summed on) in
        let re : Restored w u ts (play (value_restoration w p (local w.shared tape vs bs1)) (flat w.shared vs bs1)) t s bs1 = restored_ran w u s x vs bs1 t ts fit p k.q sound.target at covered like2 wide long1 in
        let sc1 : Scene w u s re.vs1 bs1 = record { fit = fit; like = re.like; wide = re.wide; long = long1 } in
        let su : Sums w s ts a (occurrences w.active e false []) (with_sign false a * moves k.v) = expression_sums w u s ts fit e false [] a a refl (told.right on) (sound.kinds on) (sound.quiet on) k.v k.out in
        let sp = spreads w u s re.vs1 bs1 t ts a sc1 (occurrences w.active e false []) su.z (sound.amounts on) su.sum (words_set bs k.q 0 zero_word small) in
        let ds : List ℕ = tangents u w.site.keys s in
        let after-store : tangents u w.site.keys s2 ≡ slice_set ds k.q (moves k.v) = ap (tangents u w.site.keys) k.cells ∙ (tangents_on w u s k.q x (live_is ∙ on) ∙ ap (slice_set ds k.q) (ring_tangent w.site p.name k.v (sound.target.ring on))) in
        rw (mv.ran (λ a y. and_then (value_restoration w p y) (increments w a (occurrences w.active e false []))))
        (rw (bind (value_restoration w p (local w.shared tape vs bs1)) (increments w a (occurrences w.active e false [])) (flat w.shared vs bs1))
        (rw (re.out, re.cells) (record {
          vs2 = re.vs1;
          bs2 = sp.bs2;
          out = sp.out;
          cells = sp.cells;
          like = re.like;
          wide = re.wide;
          long = sp.long;
          words = sp.words;
          pairs = sp.pairs ∙ (same_sum (pair bs1 ds) (pair bs1 ds) su.z (a * moves k.v) refl su.same ∙ of_equal _ _ (sym (pair_set bs ds k.q (moves k.v) (long ∙ sym (tangents_long w u s fit))) ∙ ap (pair bs) (sym after-store)));
          cover = cover_both w ts _ _ mv.cover (cover_both w ts _ _ re.cover sp.cover);
        })))
    by_active false on =
        let re : Restored w u ts (play (value_restoration w p m) c) t s bs = restored_ran w u s x vs bs t ts fit p k.q sound.target at covered like2 wide long in
        record {
          vs2 = re.vs1;
          bs2 = bs;
          out = re.out;
          cells = re.cells;
          like = re.like;
          wide = re.wide;
          long = long;
          words = small;
          pairs = of_equal _ _ (ap (pair bs) (sym (ap (tangents u w.site.keys) k.cells ∙ tangents_off w u s k.q x (live_is ∙ on))));
          cover = re.cover;
        }
