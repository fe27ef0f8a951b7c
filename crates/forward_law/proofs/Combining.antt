-- What a forward sweep does, one step after the other.
use Rattle.std.specs.Prelude.{◌≡◌, ℕ, Bool, true, false, List, [], ◌∷◌, ◌++◌, Result, Ok, Err, refl}
use Rattle.std.proofs.Common.{ap, sym, subst, ◌∙◌}
use Rattle.std.proofs.lemmas.List.{append_assoc}
use Rattle.meaning.specs.declared.value.Cause.{Cause}
use Rattle.meaning.specs.declared.value.TrapAt.{TrapAt}
use Rattle.meaning.specs.Logs.{Log, silence, both, Note, notes_in, Traced, pure, after, continuation, ◌>>=◌, at_line}
use Rattle.meaning.specs.Stops.{Seen, Stop}
use Rattle.first_stops.specs.Kept.{Kept, after_notes}
use Rattle.first_stops.proofs.Keeping.{kept_in_parts}
use Rattle.sweep_law.specs.Telling.{Scene, Standing, goes_on}
use Rattle.sweep_law.proofs.Combining.{clash, still}
use Rattle.forward_law.specs.Forward.{TapeView, view, unlined}
use Rattle.forward_law.proofs.Following.{taped, FollowsBy, Follows}

-- ---- after a stop nothing changes

-- what is kept, and the scene but for its line
pub record Rests (s r : Standing) : Type 0 where
  pub kept : r.kept ≡ s.kept
  pub scene : unlined r.scene ≡ unlined s.scene

pub rests_here : (s : Standing) → Rests s s
rests_here s = record { kept = refl; scene = refl }

pub rests_then : (s m r : Standing) → Rests s m → Rests m r → Rests s r
rests_then s m r p q = record { kept = q.kept ∙ p.kept; scene = q.scene ∙ p.scene }

pub rests_at : (s r : Standing) → r ≡ s → Rests s r
rests_at s r e = record { kept = ap (λ (x : Standing). x.kept) e; scene = ap (λ (x : Standing). unlined x.scene) e }

pub stopped_at : (s r : Standing) → Rests s r → goes_on s.kept.seen ≡ false → goes_on r.kept.seen ≡ false
stopped_at s r p h = ap (λ (k : Kept). goes_on k.seen) p.kept ∙ h

-- ---- what stands for the same

pub record Alike {X : Type 0} (t u : Traced TrapAt X) : Type 0 where
  pub notes : (k : ℕ) → notes_in k t.log ≡ notes_in k u.log
  pub tapes : (w : TapeView) → taped t.log w ≡ taped u.log w
  pub out : t.out ≡ u.out

pub alike_follows : {X : Type 0} (s : Standing) (t u : Traced TrapAt X) (R : X → Type 0) (r : Standing) → Alike t u → Follows s u R r → Follows s t R r
alike_follows s t u R r a f = record {
  kept = f.kept ∙ ap (after_notes s.scene.judge s.scene.limits s.kept) (sym (a.notes s.scene.iteration));
  scene = f.scene;
  value = λ g. let v = f.value g in (v.0, (a.out ∙ v.1.0, v.1.1));
  tape = λ g. f.tape g ∙ sym (a.tapes (view s.tape));
}

pub weaker : {X : Type 0} (s : Standing) (t : Traced TrapAt X) (R Q : X → Type 0) (r : Standing) → ((x : X) → goes_on r.kept.seen ≡ true → R x → Q x) → Follows s t R r → Follows s t Q r
weaker s t R Q r h f = record { kept = f.kept; scene = f.scene; value = λ g. let v = f.value g in (v.0, (v.1.0, h v.0 g v.1.1)); tape = f.tape }

-- ---- one and then another

-- how what a log leaves of a tape goes together
pub record Joins (leaves : Log → TapeView → TapeView) : Type 0 where
  pub silent : (w : TapeView) → leaves silence w ≡ w
  pub joined : (l m : Log) (w : TapeView) → leaves (both l m) w ≡ leaves m (leaves l w)

pub taped_joins : Joins taped
taped_joins = record { silent = λ w. refl; joined = λ l m w. refl }

stopped_follows : {Y : Type 0} (T : Log → TapeView → TapeView) (s : Standing) (t : Traced TrapAt Y) (Q : Y → Type 0) (m r : Standing) → goes_on m.kept.seen ≡ false → Rests m r
    → m.kept ≡ after_notes s.scene.judge s.scene.limits s.kept (notes_in s.scene.iteration t.log) → unlined m.scene ≡ unlined s.scene → FollowsBy T s t Q r
stopped_follows T s t Q m r h p e c = record {
  kept = p.kept ∙ e;
  scene = p.scene ∙ c;
  value = λ g. absurd (clash g (stopped_at m r p h));
  tape = λ g. absurd (clash g (stopped_at m r p h));
}

judged_alike : (a b : Scene) → unlined a ≡ unlined b → (k : Kept) (l : Log) → after_notes a.judge a.limits k (notes_in a.iteration l) ≡ after_notes b.judge b.limits k (notes_in b.iteration l)
judged_alike a b e k l = ap (λ (c : Scene). after_notes c.judge c.limits k (notes_in c.iteration l)) e

-- where there is no stop at the end there was none before
went_on : {Y : Type 0} (T : Log → TapeView → TapeView) (m : Standing) (u : Traced TrapAt Y) (Q : Y → Type 0) (r : Standing) → FollowsBy T m u Q r → goes_on r.kept.seen ≡ true → goes_on m.kept.seen ≡ true
went_on T m u Q r f g = by_going (goes_on m.kept.seen) refl
  where
    by_going : (b : Bool) → goes_on m.kept.seen ≡ b → b ≡ true
    by_going true q = refl
    by_going false q =
        let e : r.kept ≡ m.kept = f.kept ∙ still m.scene.judge m.scene.limits m.kept (notes_in m.scene.iteration u.log) q in
        absurd (clash g (ap (λ (k : Kept). goes_on k.seen) e ∙ q))

after_by : {Y : Type 0} (T : Log → TapeView → TapeView) → Joins T → (s m r : Standing) (l : Log) (u : Traced TrapAt Y) (Q : Y → Type 0)
    → m.kept ≡ after_notes s.scene.judge s.scene.limits s.kept (notes_in s.scene.iteration l) → unlined m.scene ≡ unlined s.scene → (goes_on m.kept.seen ≡ true → view m.tape ≡ T l (view s.tape))
    → FollowsBy T m u Q r → FollowsBy T s (after l u) Q r
after_by T j s m r l u Q k c w f = record {
  kept = f.kept ∙ judged_alike m.scene s.scene c m.kept u.log
      ∙ ap (λ (z : Kept). after_notes s.scene.judge s.scene.limits z (notes_in s.scene.iteration u.log)) k
      ∙ sym (kept_in_parts s.scene.judge s.scene.limits s.kept (notes_in s.scene.iteration l) (notes_in s.scene.iteration u.log));
  scene = f.scene ∙ c;
  value = f.value;
  tape = λ g. f.tape g ∙ ap (T u.log) (w (went_on T m u Q r f g)) ∙ sym (j.joined l u.log (view s.tape));
}

pub follows_after : {Y : Type 0} (s m r : Standing) (l : Log) (u : Traced TrapAt Y) (Q : Y → Type 0)
    → m.kept ≡ after_notes s.scene.judge s.scene.limits s.kept (notes_in s.scene.iteration l) → unlined m.scene ≡ unlined s.scene → (goes_on m.kept.seen ≡ true → view m.tape ≡ taped l (view s.tape))
    → Follows m u Q r → Follows s (after l u) Q r
follows_after s m r l u Q k c w f = after_by taped taped_joins s m r l u Q k c w f

still_after : (s : Standing) (k : Kept) (l m : Log) → goes_on k.seen ≡ false → k ≡ after_notes s.scene.judge s.scene.limits s.kept (notes_in s.scene.iteration l)
    → k ≡ after_notes s.scene.judge s.scene.limits s.kept (notes_in s.scene.iteration (both l m))
still_after s k l m h e =
    sym (still s.scene.judge s.scene.limits k (notes_in s.scene.iteration m) h)
    ∙ ap (λ (z : Kept). after_notes s.scene.judge s.scene.limits z (notes_in s.scene.iteration m)) e
    ∙ sym (kept_in_parts s.scene.judge s.scene.limits s.kept (notes_in s.scene.iteration l) (notes_in s.scene.iteration m))

then_by : {X Y : Type 0} (T : Log → TapeView → TapeView) → Joins T → (s m r : Standing) (l : Log) (o : Result X TrapAt) (f : X → Traced TrapAt Y) (R : X → Type 0) (Q : Y → Type 0)
    → FollowsBy T s (record { log = l; out = o }) R m → (goes_on m.kept.seen ≡ true → (x : X) → o ≡ Ok x → R x → FollowsBy T m (f x) Q r) → (goes_on m.kept.seen ≡ false → Rests m r)
    → (b : Bool) → goes_on m.kept.seen ≡ b → FollowsBy T s (continuation l o f) Q r
then_by T j s m r l (Err e) f R Q d h p true q = let v = d.value q in absurd (cc)
then_by T j s m r l (Err e) f R Q d h p false q = stopped_follows T s (record { log = l; out = Err e }) Q m r q (p q) d.kept d.scene
then_by T j s m r l (Ok x) f R Q d h p true q =
    let v = d.value q in let e : v.0 ≡ x = let i = v.1.0 in cc in
    after_by T j s m r l (f x) Q d.kept d.scene d.tape (h q x refl (subst R e v.1.1))
then_by T j s m r l (Ok x) f R Q d h p false q = stopped_follows T s (after l (f x)) Q m r q (p q) (still_after s m.kept l (f x).log q d.kept) d.scene

pub follows_then_by : {X Y : Type 0} (T : Log → TapeView → TapeView) → Joins T → (s m r : Standing) (t : Traced TrapAt X) (f : X → Traced TrapAt Y) (R : X → Type 0) (Q : Y → Type 0)
    → FollowsBy T s t R m → (goes_on m.kept.seen ≡ true → (x : X) → t.out ≡ Ok x → R x → FollowsBy T m (f x) Q r) → (goes_on m.kept.seen ≡ false → Rests m r) → FollowsBy T s (t >>= f) Q r
follows_then_by T j s m r t f R Q d h p = then_by T j s m r t.log t.out f R Q d h p (goes_on m.kept.seen) refl

pub follows_then : {X Y : Type 0} (s m r : Standing) (t : Traced TrapAt X) (f : X → Traced TrapAt Y) (R : X → Type 0) (Q : Y → Type 0)
    → Follows s t R m → (goes_on m.kept.seen ≡ true → (x : X) → t.out ≡ Ok x → R x → Follows m (f x) Q r) → (goes_on m.kept.seen ≡ false → Rests m r) → Follows s (t >>= f) Q r
follows_then s m r t f R Q d h p = follows_then_by taped taped_joins s m r t f R Q d h p

-- ---- at a line

pub lined_after : {Y : Type 0} (line : ℕ) (l m : Log) (o : Result Y Cause) → Alike (at_line line (after l (record { log = m; out = o }))) (after l (at_line line (record { log = m; out = o })))
lined_after line l m (Ok y) = record { notes = λ k. refl; tapes = λ w. refl; out = refl }
lined_after line l m (Err e) = record { notes = λ k. append_assoc (notes_in k l) (notes_in k m) _; tapes = λ w. refl; out = refl }

line_by : {X Y : Type 0} (line : ℕ) (l : Log) (o : Result X Cause) (f : X → Traced Cause Y)
    → Alike (at_line line (continuation l o f)) (at_line line (record { log = l; out = o }) >>= (λ x. at_line line (f x)))
line_by line l (Ok x) f = lined_after line l (f x).log (f x).out
line_by line l (Err e) f = record { notes = λ k. refl; tapes = λ w. refl; out = refl }

pub line_then : {X Y : Type 0} (line : ℕ) (t : Traced Cause X) (f : X → Traced Cause Y) → Alike (at_line line (t >>= f)) (at_line line t >>= (λ x. at_line line (f x)))
line_then line t f = line_by line t.log t.out f

-- at a line, one and then another
pub follows_line : {X Y : Type 0} (line : ℕ) (s m r : Standing) (t : Traced Cause X) (f : X → Traced Cause Y) (R : X → Type 0) (Q : Y → Type 0)
    → Follows s (at_line line t) R m → (goes_on m.kept.seen ≡ true → (x : X) → R x → Follows m (at_line line (f x)) Q r) → (goes_on m.kept.seen ≡ false → Rests m r) → Follows s (at_line line (t >>= f)) Q r
follows_line line s m r t f R Q d h p =
    alike_follows s (at_line line (t >>= f)) (at_line line t >>= (λ x. at_line line (f x))) Q r (line_then line t f)
    (follows_then s m r (at_line line t) (λ x. at_line line (f x)) R Q d (λ g x e. h g x) p)

-- from a stop on, what has run no further does what the meaning tells
pub stuck_follows : {X : Type 0} (T : Log → TapeView → TapeView) (s : Standing) (t : Traced TrapAt X) (R : X → Type 0) → goes_on s.kept.seen ≡ false → FollowsBy T s t R s
stuck_follows T s t R h = stopped_follows T s t R s s h (rests_here s) (sym (still s.scene.judge s.scene.limits s.kept (notes_in s.scene.iteration t.log) h)) refl
