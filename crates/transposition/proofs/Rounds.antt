-- Iterations in ascending order, each undone by itself.
use Rattle.std.proofs.Common.{◌≡◌, ◌≢◌, ℕ, zero, suc, ◌<◌, ◌==◌, List, [], ◌++◌, refl, ap, sym, ◌∙◌, subst, arith, length, drop, Bool, true, false, append-nil}
use Rattle.std.proofs.lemmas.Bool.{eqb-true, eq-eqb}
use Rattle.pairing.specs.Ring.{Same}
use Rattle.pairing.specs.Pair.{pair}
use Rattle.operations.specs.declared.op.Op.{Op}
use Rattle.operations.specs.Ops.{acts_all, Apart}
use Rattle.std.specs.Prelude.{nat_lt}
use Rattle.operations.specs.Tree.{Tree, done, and_then, Played, play, IsSwapped}
use Rattle.transposition.proofs.Split.{less, not_less}
use Rattle.operations.specs.Order.{in_order, IsDisciplined, ops_alone, rounds}
use Rattle.operations.proofs.Trees.{bind, by_ops, past_back_all, trees_swap}
use Rattle.operations.proofs.Orders.{apart_before, before_apart, rounds_alone}
use Rattle.meaning.specs.Logs.{Log}
use Rattle.meaning.specs.Sites.{Cells}
use Rattle.transposition.specs.Worlds.{World}
use Rattle.transposition.specs.Law.{Use, flat, Like, tangents, CoverAll, Calm, AreWords}
use Rattle.transposition.proofs.Clears.{AllAccessed, apart_of}

pub below_by : (i n : ℕ) → i < suc n → i ≢ n → i < n
below_by i n h f = not_above (nat_lt i n) refl
  where
    not_above : (b : Bool) → nat_lt i n ≡ b → i < n
    not_above true e = less i n e
    not_above false e = absurd (f (let g = not_less i n e in omega arith))

-- what a tree that undoes an iteration does to cells, the words of the outside staying
pub record Round {A : Type 0} (w : World) (u : Use) (r : Played A) (s s2 : Cells) (vs bs : List ℕ) : Type 0 where
  pub vs2 : List ℕ
  pub bs2 : List ℕ
  pub cells : r.cells ≡ flat w.shared vs2 bs2
  pub like : Like u w.site.keys vs2 s
  pub wide : length vs2 ≡ length w.site.keys
  pub long : length bs2 ≡ length w.site.keys
  pub words : AreWords bs2
  pub own : drop w.shared vs2 ≡ drop w.shared vs
  pub mine : drop w.shared bs2 ≡ drop w.shared bs
  pub pairs : Same (pair bs2 (tangents u w.site.keys s)) (pair bs (tangents u w.site.keys s2))

-- an iteration from any cells at its end, with these words of the outside
abbrev pub Step : {A : Type 0} → World → Use → Log → Tree A → List ℕ → List ℕ → Cells → Cells → Type 0
Step w u l t own mine s s2 =
    (vs bs : List ℕ) → Like u w.site.keys vs s2 → length vs ≡ length w.site.keys → length bs ≡ length w.site.keys → drop w.shared vs ≡ own → drop w.shared bs ≡ mine → AreWords bs
    → Round w u (play t (flat w.shared vs bs)) s s2 vs bs × CoverAll w l (play t (flat w.shared vs bs)).ops

-- all rounds undone, and each covered by its own touches, from the cells of the entry
pub record Undo {A : Type 0} (w : World) (u : Use) (g : ℕ → Tree A) (logs : ℕ → Log) (n : ℕ) (s s2 : Cells) (vs bs : List ℕ) : Type 0 where
  pub all : Round w u (play (rounds g n) (flat w.shared vs bs)) s s2 vs bs
  pub each : (i : ℕ) → i < n → CoverAll w (logs i) (ops_alone g (flat w.shared vs bs) i)

-- covers that don't conflict are the discipline
pub disciplined : {A : Type 0} (w : World) (g : ℕ → Tree A) (logs : ℕ → Log) (n : ℕ) (c : List ℕ) → AllAccessed w → ((i j : ℕ) → i < n → j < n → i ≢ j → Calm w (logs i) (logs j)) → ((i : ℕ) → i < n → CoverAll w (logs i) (ops_alone g c i)) → IsDisciplined (ops_alone g c) n
disciplined w g logs n c all calm each j k i l d = apart_of w (logs j) (logs k) (calm j k i l d) all (ops_alone g c j) (ops_alone g c k) (each j i) (each k l)

round_more : {A : Type 0} (w : World) (u : Use) (g : ℕ → Tree A) (logs : ℕ → Log) (s s1 s2 : Cells) (n : ℕ) (vs bs : List ℕ) → AllAccessed w → ((i j : ℕ) → i < suc n → j < suc n → i ≢ j → Calm w (logs i) (logs j))
    → (one : Round w u (play (g n) (flat w.shared vs bs)) s1 s2 vs bs) → CoverAll w (logs n) (play (g n) (flat w.shared vs bs)).ops → Undo w u g logs n s s1 one.vs2 one.bs2 → Undo w u g logs (suc n) s s2 vs bs
round_more {A} w u g logs s s1 s2 n vs bs all calm one cover-one ih = record {
  all = record {
    vs2 = ih.all.vs2;
    bs2 = ih.all.bs2;
    cells = sw.cells ∙ (ap (λ (d : List ℕ). (play (rounds g n) d).cells) u-cells ∙ ih.all.cells);
    like = ih.all.like;
    wide = ih.all.wide;
    long = ih.all.long;
    words = ih.all.words;
    own = ih.all.own ∙ one.own;
    mine = ih.all.mine ∙ one.mine;
    pairs = ih.all.pairs ∙ one.pairs;
  };
  each = λ i h. by_last i h (i == n) refl;
}
  where
    c : List ℕ
    c = flat w.shared vs bs

    c1 : List ℕ
    c1 = flat w.shared one.vs2 one.bs2

    os : List Op
    os = (play (g n) c).ops

    last-one : Tree (Unit {0})
    last-one = and_then (g n) (λ _. done (tt {0}))

    u-is : play last-one c ≡ record { out = tt {0}; cells = (play (g n) c).cells; ops = os ++ [] }
    u-is = bind (g n) (λ _. done (tt {0})) c

    u-cells : (play last-one c).cells ≡ c1
    u-cells = ap (λ (r : Played (Unit {0})). r.cells) u-is ∙ one.cells

    u-ops : (play last-one c).ops ≡ os
    u-ops = ap (λ (r : Played (Unit {0})). r.ops) u-is ∙ append-nil os

    here : (i : ℕ) → i < n → CoverAll w (logs i) (ops_alone g c1 i)
    here i h = ih.each i h

    orderly : IsDisciplined (ops_alone g c1) n
    orderly = disciplined w g logs n c1 all (λ i j h k d. calm i j (omega arith) (omega arith) d) here

    t-ops : (play (rounds g n) c1).ops ≡ in_order (ops_alone g c1) n
    t-ops = (rounds_alone g n c1 orderly).ops

    apart-1 : (i : ℕ) → i < n → Apart (ops_alone g c1 i) os
    apart-1 i h = apart_of w (logs i) (logs n) (calm i n (omega arith) (omega arith) (λ e. (let k : n < n = subst (λ (j : ℕ). j < n) e h in absurd (omega arith)))) all (ops_alone g c1 i) os (here i h) cover-one

    apart-2 : (i : ℕ) → i < n → Apart os (ops_alone g c1 i)
    apart-2 i h = apart_of w (logs n) (logs i) (calm n i (omega arith) (omega arith) (λ e. (let k : n < n = subst (λ (j : ℕ). j < n) (sym e) h in absurd (omega arith)))) all os (ops_alone g c1 i) cover-one (here i h)

    first : Apart (play (rounds g n) c1).ops os
    first = subst (λ (l : List Op). Apart l os) (sym t-ops) (before_apart (ops_alone g c1) n os apart-1)

    second : Apart os (play (rounds g n) c1).ops
    second = subst (λ (l : List Op). Apart os l) (sym t-ops) (apart_before os (ops_alone g c1) n apart-2)

    first-u : Apart (play (rounds g n) (play last-one c).cells).ops (play last-one c).ops
    first-u = rw (u-cells, u-ops) first

    second-u : Apart (play last-one c).ops (play (rounds g n) (play last-one c).cells).ops
    second-u = rw (u-cells, u-ops) second

    sw : IsSwapped (play (and_then (rounds g n) (λ _. last-one)) c) (play last-one c) (play (rounds g n) (play last-one c).cells)
    sw = trees_swap (rounds g n) last-one c first-u second-u

    there : c1 ≡ acts_all os c
    there = sym one.cells ∙ by_ops (g n) c

    same-ops : (i : ℕ) → i < n → ops_alone g c1 i ≡ ops_alone g c i
    same-ops i h =
        ap (λ (d : List ℕ). (play (g i) d).ops) there ∙ (past_back_all (g i) os c (subst (λ (d : List ℕ). Apart (play (g i) d).ops os) there (apart-1 i h))).ops

    by_last : (i : ℕ) → i < suc n → (b : Bool) → (i == n) ≡ b → CoverAll w (logs i) (ops_alone g c i)
    by_last i h true e = let f : i ≡ n = eqb-true i n e in subst (λ (j : ℕ). CoverAll w (logs j) (ops_alone g c j)) (sym f) cover-one
    by_last i h false e =
        let f : i ≢ n = λ k. (let m : true ≡ false = sym (eq-eqb i n k) ∙ e in cc) in
        let k : i < n = below_by i n h f in
        subst (λ (l : List Op). CoverAll w (logs i) l) (same-ops i k) (here i k)

pub rounds_undone : {A : Type 0} (w : World) (u : Use) (g : ℕ → Tree A) (logs : ℕ → Log) (states : ℕ → Cells) (own mine : List ℕ) (n : ℕ) → AllAccessed w → ((i j : ℕ) → i < n → j < n → i ≢ j → Calm w (logs i) (logs j))
    → ((i : ℕ) → i < n → Step w u (logs i) (g i) own mine (states i) (states (suc i)))
    → (vs bs : List ℕ) → Like u w.site.keys vs (states n) → length vs ≡ length w.site.keys → length bs ≡ length w.site.keys → drop w.shared vs ≡ own → drop w.shared bs ≡ mine → AreWords bs
    → Undo w u g logs n (states 0) (states n) vs bs
rounds_undone w u g logs states own mine zero all calm step vs bs l wide long e f small =
    record { all = record { vs2 = vs; bs2 = bs; cells = refl; like = l; wide = wide; long = long; words = small; own = refl; mine = refl; pairs = refl }; each = λ i h. absurd (omega arith) }
rounds_undone w u g logs states own mine (suc n) all calm step vs bs l wide long e f small =
    let one = step n (omega arith) vs bs l wide long e f small in
    round_more w u g logs (states 0) (states n) (states (suc n)) n vs bs all calm one.0 one.1
    (rounds_undone w u g logs states own mine n all (λ i j h k d. calm i j (omega arith) (omega arith) d) (λ i h. step i (omega arith)) one.0.vs2 one.0.bs2 one.0.like one.0.wide one.0.long (one.0.own ∙ e) (one.0.mine ∙ f) one.0.words)
