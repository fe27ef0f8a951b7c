-- Lists of operations under the discipline: alone, jointly, and in any order.
use Rattle.std.proofs.Common.{◌≡◌, ◌≢◌, ℕ, zero, suc, ◌+◌, ◌<◌, ◌≤◌, true, false, List, [], ◌∷◌, ◌++◌, take, drop, refl, ap, sym, ◌∙◌, subst, arith, append_assoc, append-nil, eq-eqb, ne_eqb}
use Rattle.std.proofs.lemmas.List.{take_all}
use Rattle.std.specs.Prelude.{slice_index, slice_set}
use mathlib.Core.Logic.{dite}
use native.Mathlib.Decide.{ℕ_discrete}
use Rattle.ring_core.specs.Ring.{ring_add}
use Rattle.operations.specs.declared.op.Op.{Op}
use Rattle.operations.specs.declared.op.Op.TheVariants.{Load, Store, Bump, Add}
use Rattle.operations.specs.Ops.{cell_of, acts, acts_all, Clear, ClearAll, Apart}
use Rattle.operations.specs.Tree.{Tree, done, ◌giving◌, Played, play, IsPast}
use Rattle.operations.specs.Order.{in_order, IsDisciplined, ops_alone, rounds, chunk, joint_cells, positions_after, Machine, cells_by, last_by, put, next, step, steps, is_add, start, AllBelow, Follows, FollowsLoad, AllEnded}
use Rattle.operations.proofs.OpLaws.{read_other, read_clear, clear_sym, acts_all-append, move, move_all, apart_right, apart_left, apart_none}
use Rattle.operations.proofs.Trees.{bind, by_ops, past_all}

-- ---- lists in order

pub apart_before : (os : List Op) (ops : ℕ → List Op) (n : ℕ) → ((j : ℕ) → j < n → Apart os (ops j)) → Apart os (in_order ops n)
apart_before os ops zero h = tt
apart_before os ops (suc n) h = apart_right os (in_order ops n) (ops n) (apart_before os ops n (λ j lt. h j (omega arith))) (h n (omega arith))

pub before_apart : (ops : ℕ → List Op) (n : ℕ) (us : List Op) → ((j : ℕ) → j < n → Apart (ops j) us) → Apart (in_order ops n) us
before_apart ops zero us h = apart_none us
before_apart ops (suc n) us h = apart_left (in_order ops n) (ops n) us (before_apart ops n us (λ j lt. h j (omega arith))) (h n (omega arith))

in_order-same : (ops ops' : ℕ → List Op) (n : ℕ) → ((j : ℕ) → j < n → ops j ≡ ops' j) → in_order ops n ≡ in_order ops' n
in_order-same ops ops' zero h = refl
in_order-same ops ops' (suc n) h = rw (in_order-same ops ops' n (λ j lt. h j (omega arith)), h n (omega arith)) refl

-- ---- one thread, and each iteration alone

pub record Rounds {A : Type 0} (g : ℕ → Tree A) (n : ℕ) (c : List ℕ) : Type 0 where
  pub ops : (play (rounds g n) c).ops ≡ in_order (ops_alone g c) n
  pub cells : (play (rounds g n) c).cells ≡ acts_all (in_order (ops_alone g c) n) c

pub rounds_alone : {A : Type 0} (g : ℕ → Tree A) (n : ℕ) (c : List ℕ) → IsDisciplined (ops_alone g c) n → Rounds g n c
rounds_alone g zero c h = record { ops = refl; cells = refl }
rounds_alone {A} g (suc n) c h =
    let ih : Rounds g n c = rounds_alone g n c (λ j k a b ne. h j k (omega arith) (omega arith) ne) in
    let os = in_order (ops_alone g c) n in
    let clear : Apart (ops_alone g c n) os = apart_before (ops_alone g c n) (ops_alone g c) n (λ j lt. let ne : n ≢ j = omega arith in h n j (omega arith) (omega arith) ne) in
    let p : IsPast (play (g n) c) (play (g n) (acts_all os c)) os = past_all (g n) os c clear in
    let u : Tree (Unit {0}) = g n giving (λ _. done (tt {0})) in
    let e : (play u (acts_all os c)).ops ≡ ops_alone g c n = ap (λ (r : Played (Unit {0})). r.ops) (bind (g n) (λ _. done (tt {0})) (acts_all os c)) ∙ append-nil _ ∙ p.ops in
    let all : (play (rounds g (suc n)) c).ops ≡ os ++ ops_alone g c n =
    ap (λ (r : Played (Unit {0})). r.ops) (bind (rounds g n) (λ _. u) c) ∙ ap (λ (d : List ℕ). (play (rounds g n) c).ops ++ (play u d).ops) ih.cells ∙ ap (λ (l : List Op). l ++ (play u (acts_all os c)).ops) ih.ops ∙ ap (λ (l : List Op). os ++ l) e in
    record { ops = all; cells = by_ops (rounds g (suc n)) c ∙ ap (λ (l : List Op). acts_all l c) all }

-- ---- chunks of iterations

in_order-add : (its : ℕ → List Op) (a b : ℕ) → in_order its (a + b) ≡ in_order its a ++ in_order (λ i. its (a + i)) b
in_order-add its a zero = let e : a + 0 ≡ a = omega arith in rw e (sym (append-nil (in_order its a)))
in_order-add its a (suc b) =
    let e : a + suc b ≡ suc (a + b) = omega arith in
    rw (e, in_order-add its a b) (append_assoc (in_order its a) (in_order (λ i. its (a + i)) b) (its (a + b)))

-- chunks that follow each other are the iterations in order
pub chunks_in_order : (its : ℕ → List Op) (first count : ℕ → ℕ) (n : ℕ) → first 0 ≡ 0 → ((k : ℕ) → k < n → first (suc k) ≡ first k + count k)
    → in_order (λ k. chunk its (first k) (count k)) n ≡ in_order its (first n)
chunks_in_order its first count zero z h = rw z refl
chunks_in_order its first count (suc n) z h =
    rw (chunks_in_order its first count n z (λ k lt. h k (omega arith)), h n (omega arith)) (sym (in_order-add its (first n) (count n)))

-- the discipline of iterations gives that of chunks
pub chunks_disciplined : (its : ℕ → List Op) (m : ℕ) (first count : ℕ → ℕ) (n : ℕ) → IsDisciplined its m → ((k i : ℕ) → k < n → i < count k → first k + i < m)
    → ((j k i l : ℕ) → j < n → k < n → j ≢ k → i < count j → l < count k → first j + i ≢ first k + l) → IsDisciplined (λ k. chunk its (first k) (count k)) n
chunks_disciplined its m first count n h within other j k a b ne =
    before_apart (λ i. its (first j + i)) (count j) _ (λ i li. apart_before (its (first j + i)) (λ l. its (first k + l)) (count k)
    (λ l ll. h (first j + i) (first k + l) (within j i a li) (within k l b ll) (other j k i l a b ne li ll)))

-- ---- the joint state

joint_same : (ops : ℕ → List Op) (at at' : ℕ → ℕ) (n : ℕ) (c : List ℕ) → ((j : ℕ) → j < n → at' j ≡ at j) → joint_cells ops at' n c ≡ joint_cells ops at n c
joint_same ops at at' zero c h = refl
joint_same ops at at' (suc n) c h = rw (joint_same ops at at' n c (λ j lt. h j (omega arith)), h n (omega arith)) refl

joint_is : (ops : ℕ → List Op) (at : ℕ → ℕ) (n : ℕ) (c : List ℕ) → joint_cells ops at n c ≡ acts_all (in_order (λ j. take (at j) (ops j)) n) c
joint_is ops at zero c = refl
joint_is ops at (suc n) c = ap (acts_all (take (at n) (ops n))) (joint_is ops at n c) ∙ sym (acts_all-append (in_order (λ j. take (at j) (ops j)) n) (take (at n) (ops n)) c)

pub joint_start : (ops : ℕ → List Op) (n : ℕ) (c : List ℕ) → joint_cells ops (λ _. 0) n c ≡ c
joint_start ops zero c = refl
joint_start ops (suc n) c = joint_start ops n c

-- at the ends the joint state is what all lists make, one after another
pub joint_end : (ops : ℕ → List Op) (at : ℕ → ℕ) (n : ℕ) (c : List ℕ) → AllEnded ops at n → joint_cells ops at n c ≡ acts_all (in_order ops n) c
joint_end ops at n c h = joint_is ops at n c ∙ ap (λ (l : List Op). acts_all l c) (in_order-same (λ j. take (at j) (ops j)) ops n (λ j lt. take_all (at j) (ops j) (h j lt)))

pub went_here : (k : ℕ) (at : ℕ → ℕ) → positions_after k at k ≡ suc (at k)
went_here k at = rw (eq-eqb k k refl) refl

pub went_else : (k : ℕ) (at : ℕ → ℕ) (j : ℕ) → j ≢ k → positions_after k at j ≡ at j
went_else k at j ne = rw (ne_eqb j k ne) refl

pub take_next : (os : List Op) (i : ℕ) (o : Op) (rest : List Op) → drop i os ≡ o ∷ rest → take (suc i) os ≡ take i os ++ o ∷ []
take_next [] zero o rest e = absurd (let f : [] ≡ o ∷ rest = e in cc)
take_next [] (suc i) o rest e = absurd (let f : [] ≡ o ∷ rest = e in cc)
take_next (x ∷ os) zero o rest e = let f : x ≡ o = cc in ap (λ y. y ∷ []) f
take_next (x ∷ os) (suc i) o rest e = ap (λ l. x ∷ l) (take_next os i o rest e)

pub drop_next : (os : List Op) (i : ℕ) (o : Op) (rest : List Op) → drop i os ≡ o ∷ rest → drop (suc i) os ≡ rest
drop_next [] zero o rest e = absurd (let f : [] ≡ o ∷ rest = e in cc)
drop_next [] (suc i) o rest e = absurd (let f : [] ≡ o ∷ rest = e in cc)
drop_next (x ∷ os) zero o rest e = let f : os ≡ rest = cc in f
drop_next (x ∷ os) (suc i) o rest e = drop_next os i o rest e

clear_take : (os : List Op) (i : ℕ) (u : Op) → ClearAll os u → ClearAll (take i os) u
clear_take os zero u h = tt
clear_take [] (suc i) u h = tt
clear_take (o ∷ os) (suc i) u h = (h.0, clear_take os i u h.1)

clear_next : (os us : List Op) (i : ℕ) (u : Op) (rest : List Op) → Apart os us → drop i us ≡ u ∷ rest → ClearAll os u
clear_next os [] zero u rest h e = absurd (let f : [] ≡ u ∷ rest = e in cc)
clear_next os [] (suc i) u rest h e = absurd (let f : [] ≡ u ∷ rest = e in cc)
clear_next os (x ∷ us) zero u rest h e = let f : x ≡ u = cc in subst (ClearAll os) f h.0
clear_next os (x ∷ us) (suc i) u rest h e = clear_next os us i u rest h.1 e

apart_take : (os us : List Op) (i j : ℕ) → Apart os us → Apart (take i os) (take j us)
apart_take os us i zero h = tt
apart_take os [] i (suc j) h = tt
apart_take os (u ∷ us) i (suc j) h = (clear_take os i u h.0, apart_take os us i j h.1)

-- the next operation of one list is one operation on the joint state
pub joint_step : (ops : ℕ → List Op) (m n : ℕ) (at : ℕ → ℕ) (k : ℕ) (o : Op) (rest : List Op) (c : List ℕ) → IsDisciplined ops m → n ≤ m → k < n → drop (at k) (ops k) ≡ o ∷ rest
    → joint_cells ops (positions_after k at) n c ≡ acts o (joint_cells ops at n c)
joint_step ops m zero at k o rest c d le lt e = absurd (omega arith)
joint_step ops m (suc n) at k o rest c d le lt e = dite (ℕ_discrete k n)
    (λ same.
    let below : joint_cells ops (positions_after k at) n c ≡ joint_cells ops at n c = joint_same ops at (positions_after k at) n c (λ j b. let ne : j ≢ k = omega arith in went_else k at j ne) in
    let here : positions_after k at n ≡ suc (at n) = subst (λ (i : ℕ). positions_after k at i ≡ suc (at i)) same (went_here k at) in
    let due : drop (at n) (ops n) ≡ o ∷ rest = subst (λ (i : ℕ). drop (at i) (ops i) ≡ o ∷ rest) same e in
    rw (below, here, take_next (ops n) (at n) o rest due) (acts_all-append (take (at n) (ops n)) (o ∷ []) (joint_cells ops at n c)))
    (λ ne.
    let ne' : n ≢ k = λ f. ne (sym f) in
    let clear : ClearAll (take (at n) (ops n)) o = clear_take (ops n) (at n) o (clear_next (ops n) (ops k) (at k) o rest (d n k (omega arith) (omega arith) ne') e) in
    rw (went_else k at n ne', joint_step ops m n at k o rest c d (omega arith) (omega arith) e) (move (take (at n) (ops n)) o (joint_cells ops at n c) clear))

one_still : (u o : Op) (c : List ℕ) → is_add o ≡ false → Clear u o → slice_index (acts u c) (cell_of o) ≡ slice_index c (cell_of o)
one_still u (Load p) c a h = read_clear p u c (clear_sym u (Load p) h)
one_still u (Store p v) c a h = read_other u p c (λ e. clear_sym u (Store p v) h refl e)
one_still u (Bump p b) c a h = read_other u p c (λ e. clear_sym u (Bump p b) h refl e)
one_still u (Add p b) c a h = absurd (let f : true ≡ false = a in cc)

-- operations that are clear of a load, a store or a bump leave its cell as it is
still : (us : List Op) (o : Op) (c : List ℕ) → is_add o ≡ false → ClearAll us o → slice_index (acts_all us c) (cell_of o) ≡ slice_index c (cell_of o)
still [] o c a h = refl
still (u ∷ us) o c a h = still us o (acts u c) a h.1 ∙ one_still u o c a h.0

clear_before : (ops : ℕ → List Op) (n : ℕ) (u : Op) → ((j : ℕ) → j < n → ClearAll (ops j) u) → ClearAll (in_order ops n) u
clear_before ops n u h = (before_apart ops n (u ∷ []) (λ j lt. (h j lt, tt))).0

-- what a list loads, stores or bumps next has the word that the list alone has made of it
pub joint_alone : (ops : ℕ → List Op) (m n : ℕ) (at : ℕ → ℕ) (k : ℕ) (o : Op) (rest : List Op) (c : List ℕ) → IsDisciplined ops m → n ≤ m → k < n → drop (at k) (ops k) ≡ o ∷ rest → is_add o ≡ false
    → slice_index (joint_cells ops at n c) (cell_of o) ≡ slice_index (acts_all (take (at k) (ops k)) c) (cell_of o)
joint_alone ops m zero at k o rest c d le lt e a = absurd (omega arith)
joint_alone ops m (suc n) at k o rest c d le lt e a = dite (ℕ_discrete k n)
    (λ same.
    let due : drop (at n) (ops n) ≡ o ∷ rest = subst (λ (i : ℕ). drop (at i) (ops i) ≡ o ∷ rest) same e in
    let others = in_order (λ j. take (at j) (ops j)) n in
    let apart : Apart (take (at n) (ops n)) others = apart_before (take (at n) (ops n)) (λ j. take (at j) (ops j)) n
    (λ j b. let ne : n ≢ j = omega arith in apart_take (ops n) (ops j) (at n) (at j) (d n j (omega arith) (omega arith) ne)) in
    let clear : ClearAll others o = clear_before (λ j. take (at j) (ops j)) n o
    (λ j b. let ne : j ≢ n = omega arith in clear_take (ops j) (at j) o (clear_next (ops j) (ops n) (at n) o rest (d j n (omega arith) (omega arith) ne) due)) in
    ap (λ (l : List ℕ). slice_index (acts_all (take (at n) (ops n)) l) (cell_of o)) (joint_is ops at n c)
    ∙ ap (λ (l : List ℕ). slice_index l (cell_of o)) (move_all (take (at n) (ops n)) others c apart)
    ∙ still others o (acts_all (take (at n) (ops n)) c) a clear
    ∙ ap (λ (i : ℕ). slice_index (acts_all (take (at i) (ops i)) c) (cell_of o)) (sym same))
    (λ ne.
    let ne' : n ≢ k = λ f. ne (sym f) in
    let clear : ClearAll (take (at n) (ops n)) o = clear_take (ops n) (at n) o (clear_next (ops n) (ops k) (at k) o rest (d n k (omega arith) (omega arith) ne') e) in
    still (take (at n) (ops n)) o (joint_cells ops at n c) a clear ∙ joint_alone ops m n at k o rest c d (omega arith) (omega arith) e a)

-- ---- any order of steps

-- where a bump is next, the last load gave what its cell has
abbrev pub Ready : ℕ → List ℕ → List Op → Type 0
Ready l c [] = Unit {0}
Ready l c (Load p ∷ os) = FollowsLoad p os
Ready l c (Store p v ∷ os) = Follows os
Ready l c (Bump p a ∷ os) = (l ≡ slice_index c p) × Follows os
Ready l c (Add p a ∷ os) = Follows os

pub ready_follows : (l : ℕ) (c : List ℕ) (os : List Op) → Follows os → Ready l c os
ready_follows l c [] h = tt
ready_follows l c (Load p ∷ os) h = h
ready_follows l c (Store p v ∷ os) h = h
ready_follows l c (Bump p a ∷ os) h = absurd h
ready_follows l c (Add p a ∷ os) h = h

ready_loaded : (p : ℕ) (c : List ℕ) (os : List Op) → FollowsLoad p os → Ready (slice_index c p) c os
ready_loaded p c [] h = tt
ready_loaded p c (Load q ∷ os) h = h
ready_loaded p c (Store q v ∷ os) h = h
ready_loaded p c (Bump q a ∷ os) h = (ap (slice_index c) (sym h.0), h.1)
ready_loaded p c (Add q a ∷ os) h = h

pub ready_next : (l : ℕ) (c : List ℕ) (o : Op) (os : List Op) → Ready l c (o ∷ os) → Ready (last_by o l c) (cells_by o l c) os
ready_next l c (Load p) os h = ready_loaded p c os h
ready_next l c (Store p v) os h = ready_follows l (slice_set c p v) os h
ready_next l c (Bump p a) os h = ready_follows l (slice_set c p (ring_add l a)) os h.1
ready_next l c (Add p a) os h = ready_follows l (slice_set c p (ring_add (slice_index c p) a)) os h

-- the machine's bump adds
pub made : (l : ℕ) (c : List ℕ) (o : Op) (os : List Op) → Ready l c (o ∷ os) → cells_by o l c ≡ acts o c
made l c (Load p) os h = refl
made l c (Store p v) os h = refl
made l c (Bump p a) os h = ap (λ x. slice_set c p (ring_add x a)) h.0
made l c (Add p a) os h = refl

ready_other : (l : ℕ) (c : List ℕ) (u : Op) (os : List Op) → ((o : Op) (rest : List Op) → os ≡ o ∷ rest → Clear u o) → Ready l c os → Ready l (acts u c) os
ready_other l c u [] h r = tt
ready_other l c u (Load p ∷ os) h r = r
ready_other l c u (Store p v ∷ os) h r = r
ready_other l c u (Bump p a ∷ os) h r = (r.0 ∙ sym (one_still u (Bump p a) c refl (h (Bump p a) os refl)), r.1)
ready_other l c u (Add p a ∷ os) h r = r

record Kept (ops : ℕ → List Op) (n : ℕ) (c : List ℕ) (m : Machine) : Type 0 where
  cells : m.cells ≡ joint_cells ops m.at n c
  ready : (k : ℕ) → k < n → Ready (m.last k) m.cells (drop (m.at k) (ops k))

put_here : (k x : ℕ) (f : ℕ → ℕ) → put k x f k ≡ x
put_here k x f = rw (eq-eqb k k refl) refl

put_else : (k x : ℕ) (f : ℕ → ℕ) (j : ℕ) → j ≢ k → put k x f j ≡ f j
put_else k x f j ne = rw (ne_eqb j k ne) refl

pick : (os : List Op) (i : ℕ) (o : Op) (rest : List Op) (u : Op) → ClearAll os u → drop i os ≡ o ∷ rest → Clear o u
pick [] zero o rest u h e = absurd (let f : [] ≡ o ∷ rest = e in cc)
pick [] (suc i) o rest u h e = absurd (let f : [] ≡ o ∷ rest = e in cc)
pick (x ∷ os) zero o rest u h e = let f : x ≡ o = cc in subst (λ (y : Op). Clear y u) f h.0
pick (x ∷ os) (suc i) o rest u h e = pick os i o rest u h.1 e

clear_two : (os us : List Op) (i j : ℕ) (o u : Op) (rest more : List Op) → Apart os us → drop i os ≡ o ∷ rest → drop j us ≡ u ∷ more → Clear o u
clear_two os us i j o u rest more h e f = pick os i o rest u (clear_next os us j u more h f) e

kept_next : (ops : ℕ → List Op) (n : ℕ) (c : List ℕ) (m : Machine) (k : ℕ) (os : List Op) → IsDisciplined ops n → k < n → drop (m.at k) (ops k) ≡ os → Kept ops n c m → Kept ops n c (next k os m)
kept_next ops n c m k [] d lt e h = h
kept_next ops n c m k (o ∷ rest) d lt e h =
    let mine : Ready (m.last k) m.cells (o ∷ rest) = subst (Ready (m.last k) m.cells) e (h.ready k lt) in
    let same : cells_by o (m.last k) m.cells ≡ acts o m.cells = made (m.last k) m.cells o rest mine in
    record {
      cells = same ∙ ap (acts o) h.cells ∙ sym (joint_step ops n n m.at k o rest c d (omega arith) lt e);
      ready = λ j b. dite (ℕ_discrete j k)
          (λ f. subst (λ i. Ready (put k (last_by o (m.last k) m.cells) m.last i) (cells_by o (m.last k) m.cells) (drop (positions_after k m.at i) (ops i))) (sym f)
          (rw (put_here k (last_by o (m.last k) m.cells) m.last, went_here k m.at, drop_next (ops k) (m.at k) o rest e) (ready_next (m.last k) m.cells o rest mine)))
          (λ ne. rw (put_else k (last_by o (m.last k) m.cells) m.last j ne, went_else k m.at j ne, same)
          (ready_other (m.last j) m.cells o (drop (m.at j) (ops j)) (λ u more f. let ne' : k ≢ j = λ q. ne (sym q) in clear_two (ops k) (ops j) (m.at k) (m.at j) o u rest more (d k j lt b ne') e f) (h.ready j b)));
    }

kept_steps : (ops : ℕ → List Op) (n : ℕ) (c : List ℕ) (ks : List ℕ) (m : Machine) → IsDisciplined ops n → AllBelow n ks → Kept ops n c m → Kept ops n c (steps ops ks m)
kept_steps ops n c [] m d b h = h
kept_steps ops n c (k ∷ ks) m d b h = kept_steps ops n c ks (step ops k m) d b.1 (kept_next ops n c m k (drop (m.at k) (ops k)) d b.0 refl h)

-- after any steps the cells are the joint state
pub any_order : (ops : ℕ → List Op) (n : ℕ) (c : List ℕ) (ks : List ℕ) → IsDisciplined ops n → ((k : ℕ) → k < n → Follows (ops k)) → AllBelow n ks
    → (steps ops ks (start c)).cells ≡ joint_cells ops (steps ops ks (start c)).at n c
any_order ops n c ks d f b = (kept_steps ops n c ks (start c) d b (record { cells = sym (joint_start ops n c); ready = λ k lt. ready_follows 0 c (ops k) (f k lt) })).cells

-- so any steps to the ends make of the cells what all lists make, one after another
pub any_end : (ops : ℕ → List Op) (n : ℕ) (c : List ℕ) (ks : List ℕ) → IsDisciplined ops n → ((k : ℕ) → k < n → Follows (ops k)) → AllBelow n ks → AllEnded ops (steps ops ks (start c)).at n
    → (steps ops ks (start c)).cells ≡ acts_all (in_order ops n) c
any_end ops n c ks d f b e = any_order ops n c ks d f b ∙ joint_end ops (steps ops ks (start c)).at n c e
