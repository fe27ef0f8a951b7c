-- A parallel loop is undone by its iterations in ascending order, and they are disciplined.
use Rattle.std.proofs.Common.{◌≡◌, ◌≢◌, ℕ, zero, suc, ◌+◌, ◌<◌, ◌≤◌, ◌==◌, List, [], ◌∷◌, refl, ap, sym, ◌∙◌, subst, arith, length, Bool, true, false, Ok}
use Rattle.std.proofs.lemmas.Bool.{eqb-true, eq-eqb}
use Rattle.pairing.specs.Ring.{Same}
use Rattle.pairing.specs.Pair.{pair}
use Rattle.fl_ast.specs.declared.directive.Directive.{Directive}
use Rattle.fl_ast.specs.Tree.{Statements}
use Rattle.operations.specs.declared.op.Op.{Op}
use Rattle.operations.specs.Tree.{Tree, done, and_then, Played, play}
use Rattle.operations.specs.Order.{in_order, IsDisciplined, ops_alone, rounds}
use Rattle.operations.proofs.Trees.{bind}
use Rattle.operations.proofs.Orders.{rounds_alone}
use Rattle.meaning.specs.Logs.{Log, within, iteration}
use Rattle.meaning.specs.Sites.{Cells}
use Rattle.meaning.specs.Statements.{Run, turns, Heads, iterations, words_of_all}
use Rattle.fl_types.specs.Nests.{is_nest, further_head, iteration_body}
use Rattle.meaning.proofs.Parts.{bound}
use Rattle.transposition.proofs.RoundFacts.{RoundFacts}
use Rattle.transposition.proofs.Heads.{AllCounted, head_names, below_is, heads_is, settings, AllIndex, names_set, all_index}
use Rattle.transposition.proofs.Nesting.{unwritten}
use Rattle.transposition.specs.Tapes.{Tape, Tapes, none, more, many, empty, top_tapes, both_tapes, tape_at, tape_after, iteration_tapes}
use Rattle.transposition.specs.Worlds.{World, Local, in_iteration}
use Rattle.transposition.specs.Back.{variables_of, loop_variables, heads_on, below_bounds, iteration_tree, parallel_back, back_all, after_pop}
use Rattle.transposition.specs.Law.{Use, local, flat, Like, tangents, Fit, CoverAll, Ends, Calm, AreWords}
use Rattle.transposition.proofs.Reading.{cover_both}
use Rattle.transposition.proofs.Kept.{Keeps}
use Rattle.transposition.proofs.Rounds.{Round, Step, Undo, disciplined, rounds_undone, below_by}
use Rattle.transposition.proofs.Iterations.{KeptBody, UndoneBody, Varies, iteration_run, iter_run, begun, begun_other, begun_fit, iteration_step, begun_outer}
use Rattle.transposition.specs.Calms.{cells_of, state_at, inner_of, log_at, iteration_log}
use Rattle.transposition.specs.Sound.{writes_in, privates_of}
use Rattle.transposition.specs.Worlds.{name_at}
use Rattle.fl_types.specs.Sharing.{has_name}
use Rattle.std.specs.Prelude.{bytes_eq, ◌||◌}

-- ---- the states between the iterations, and their logs

pub state_end : (n : ℕ) (f : ℕ → Run) (s s2 : Cells) → (turns n f s).out ≡ Ok s2 → state_at f s n ≡ s2
state_end n f s s2 h = ap cells_of h

pub chained : (n : ℕ) (f : ℕ → Run) (s s2 : Cells) → (turns n f s).out ≡ Ok s2 → (i : ℕ) → i < n → (f i (state_at f s i)).out ≡ Ok (state_at f s (suc i))
chained zero f s s2 h i k = absurd (omega arith)
chained (suc n) f s s2 h i k =
    let b = bound (turns n f s) (f n) s2 h in
    by_last (chained n f s b.value b.first i) (i == n) refl (ap (λ (c : Cells). (f n c).out) (state_end n f s b.value b.first) ∙ (b.second ∙ ap (λ (c : Cells). Ok c) (sym (state_end (suc n) f s s2 h))))
  where
    by_last : (i < n → (f i (state_at f s i)).out ≡ Ok (state_at f s (suc i))) → (c : Bool) → (i == n) ≡ c → (f n (state_at f s n)).out ≡ Ok (state_at f s (suc n)) → (f i (state_at f s i)).out ≡ Ok (state_at f s (suc i))
    by_last early true e q = let g : i ≡ n = eqb-true i n e in subst (λ (j : ℕ). (f j (state_at f s j)).out ≡ Ok (state_at f s (suc j))) (sym g) q
    by_last early false e q = early (below_by i n k (λ g. (let m : true ≡ false = sym (eq-eqb i n g) ∙ e in cc)))

-- ---- the tapes of the iterations

abbrev tape_count : Tapes → ℕ
tape_count none = 0
tape_count (more t ts) = suc (tape_count ts)

size_joined : (xs : Tapes) (t : Tape) → tape_count (both_tapes xs (more t none)) ≡ tape_count xs + 1
size_joined none t = refl
size_joined (more x xs) t = let e = size_joined xs t in omega arith

tape_early : (xs : Tapes) (t : Tape) (i : ℕ) → i < tape_count xs → tape_at (both_tapes xs (more t none)) i ≡ tape_at xs i
tape_early none t i h = absurd (omega arith)
tape_early (more x xs) t zero h = refl
tape_early (more x xs) t (suc i) h = tape_early xs t i (omega arith)

tape_last : (xs : Tapes) (t : Tape) (i : ℕ) → i ≡ tape_count xs → tape_at (both_tapes xs (more t none)) i ≡ t
tape_last none t zero h = refl
tape_last none t (suc i) h = absurd (omega arith)
tape_last (more x xs) t zero h = absurd (omega arith)
tape_last (more x xs) t (suc i) h = tape_last xs t i (omega arith)

record Taped (f : ℕ → Run) (s : Cells) (n : ℕ) : Type 0 where
  pub sized : tape_count (iteration_tapes (turns n f s).log) ≡ n
  pub each : (i : ℕ) → i < n → tape_at (iteration_tapes (turns n f s).log) i ≡ tape_after (log_at f s i) empty

tapes_more : (f : ℕ → Run) (s : Cells) (n : ℕ) → Taped f s n → iteration_tapes (turns (suc n) f s).log ≡ both_tapes (iteration_tapes (turns n f s).log) (more (tape_after (log_at f s n) empty) none) → Taped f s (suc n)
tapes_more f s n ih whole = record {
  sized = ap tape_count whole ∙ (size_joined (iteration_tapes (turns n f s).log) (tape_after (log_at f s n) empty) ∙ (let e = ih.sized in omega arith));
  each = λ i k. ap (λ (x : Tapes). tape_at x i) whole ∙ by_last i k (i == n) refl;
}
  where
    by_last : (i : ℕ) → i < suc n → (c : Bool) → (i == n) ≡ c → tape_at (both_tapes (iteration_tapes (turns n f s).log) (more (tape_after (log_at f s n) empty) none)) i ≡ tape_after (log_at f s i) empty
    by_last i k true e = let g : i ≡ n = eqb-true i n e in tape_last (iteration_tapes (turns n f s).log) (tape_after (log_at f s n) empty) i (g ∙ sym ih.sized) ∙ ap (λ (j : ℕ). tape_after (log_at f s j) empty) (sym g)
    by_last i k false e =
        let j : i < n = below_by i n k (λ g. (let m : true ≡ false = sym (eq-eqb i n g) ∙ e in cc)) in
        tape_early (iteration_tapes (turns n f s).log) (tape_after (log_at f s n) empty) i (let a = ih.sized in omega arith) ∙ ih.each i j

tapes_of : (n : ℕ) (f : ℕ → Run) (s s2 : Cells) → ((k : ℕ) (c : Cells) → (f k c).log ≡ within (iteration k) (inner_of (f k c).log)) → (turns n f s).out ≡ Ok s2 → Taped f s n
tapes_of zero f s s2 wr h = record { sized = refl; each = λ i k. absurd (omega arith) }
tapes_of (suc n) f s s2 wr h =
    let b = bound (turns n f s) (f n) s2 h in
    let ih = tapes_of n f s b.value wr b.first in
    let at : b.value ≡ state_at f s n = sym (state_end n f s b.value b.first) in
    let last-tape : iteration_tapes (f n b.value).log ≡ more (tape_after (log_at f s n) empty) none = ap (λ (c : Cells). iteration_tapes (f n c).log) at ∙ ap iteration_tapes (wr n (state_at f s n)) in
    let whole : iteration_tapes (turns (suc n) f s).log ≡ both_tapes (iteration_tapes (turns n f s).log) (more (tape_after (log_at f s n) empty) none) = ap iteration_tapes b.log ∙ ap (both_tapes (iteration_tapes (turns n f s).log)) last-tape in
    tapes_more f s n ih whole

-- ---- what an iteration keeps

or_one : (a b : Bool) → (a || b) ≡ false → a ≡ false
or_one true b h = cc
or_one false b h = refl

or_two : (a b : Bool) → (a || b) ≡ false → b ≡ false
or_two true b h = cc
or_two false b h = h

or_neither : (a b : Bool) → a ≡ false → b ≡ false → (a || b) ≡ false
or_neither a b h k = rw (h, k) refl

unlisted : (a b : Bool) → (a ≡ true → b ≡ true) → b ≡ false → a ≡ false
unlisted true b f e = let k : true ≡ false = sym (f refl) ∙ e in cc
unlisted false b f e = refl

pub iteration_kept : (w : World) (u inner : Use) (number : ℕ) (directive : Directive) (var : List ℕ) (tree : Statements) → RoundFacts w u inner number directive var tree → KeptBody (in_iteration w number directive var tree) inner (iteration_body directive tree)
    → (heads : Heads) (k : ℕ) (s s2 : Cells) → Varies (settings heads k) directive var tree → AllIndex (settings heads k) → Fit w u s
    → (iteration_run w directive var tree heads k s).out ≡ Ok s2 → Keeps w u (λ y. bytes_eq y var || (has_name y directive.privates || writes_in y tree)) s s2
iteration_kept w u inner number directive var tree sound keeping heads k s s2 varies ix fit h =
    let xs = settings heads k in
    let run = iter_run w directive var tree heads k s s2 h in
    let outer = begun_outer w u inner number directive var tree sound xs varies ix s fit in
    let kept = keeping (begun w directive var tree xs s) s2 (begun_fit w u inner number directive var tree sound xs varies ix s fit) run.body in
    record {
      fit = record { long = kept.fit.long; room = kept.fit.room; kinds = kept.fit.kinds; still = λ p e. kept.fit.still p (sound.moved (name_at w.site.keys p) ∙ e); held = λ p n y e g. outer.held p n y (sym (kept.same p (sound.unset (name_at w.site.keys p) (n, g))) ∙ e) g };
      same = λ p e.
          let y = name_at w.site.keys p in
          let a = or_one (bytes_eq y var) (has_name y directive.privates || writes_in y tree) e in
          let b = or_two (bytes_eq y var) (has_name y directive.privates || writes_in y tree) e in
          let c = or_one (has_name y directive.privates) (writes_in y tree) b in
          let d = unwritten (is_nest directive tree) y tree (or_two (has_name y directive.privates) (writes_in y tree) b) in
          kept.same p d.body_free ∙ begun_other w u inner number directive var tree sound xs varies s p
          (unlisted (has_name y (privates_of w directive var tree)) (has_name y directive.privates) (sound.listed y) c)
          (or_neither (bytes_eq y var) (has_name y (variables_of (further_head directive tree))) a d.other);
    }

states_fit : (w : World) (u inner : Use) (number : ℕ) (directive : Directive) (var : List ℕ) (tree : Statements) → RoundFacts w u inner number directive var tree → KeptBody (in_iteration w number directive var tree) inner (iteration_body directive tree)
    → (heads : Heads) → head_names heads ≡ loop_variables directive var tree → AllCounted heads → (s s2 : Cells) → Fit w u s → (n : ℕ) → n ≤ iterations heads
    → (turns (iterations heads) (iteration_run w directive var tree heads) s).out ≡ Ok s2 → Fit w u (state_at (iteration_run w directive var tree heads) s n)
states_fit w u inner number directive var tree sound keeping heads names counted s s2 fit zero m h = fit
states_fit w u inner number directive var tree sound keeping heads names counted s s2 fit (suc n) m h =
    (iteration_kept w u inner number directive var tree sound keeping heads n _ _ (names_set heads n ∙ names) (all_index heads n counted (omega arith)) (states_fit w u inner number directive var tree sound keeping heads names counted s s2 fit n (omega arith) h) (chained (iterations heads) (iteration_run w directive var tree heads) s s2 h n (omega arith))).fit

-- ---- covers outside parallel loops

cover_outside : (w v : World) (l ts : Log) (os : List Op) → v.shared ≡ w.shared → ((x : List ℕ) → w.site.accessed x ≡ false) → CoverAll v l os → CoverAll w ts os
cover_outside w v l ts [] e off h = tt
cover_outside w v l ts (o ∷ os) e off h = ((rw (← e) h.0.0, λ a. absurd (let b : true ≡ false = sym a ∙ off _ in cc)), cover_outside w v l ts os e off h.1)

cover_order : (w v : World) (ts : Log) (logs : ℕ → Log) (ops : ℕ → List Op) (n : ℕ) → v.shared ≡ w.shared → ((x : List ℕ) → w.site.accessed x ≡ false) → ((i : ℕ) → i < n → CoverAll v (logs i) (ops i)) → CoverAll w ts (in_order ops n)
cover_order w v ts logs ops zero e off h = tt
cover_order w v ts logs ops (suc n) e off h = cover_both w ts (in_order ops n) (ops n) (cover_order w v ts logs ops n e off (λ i k. h i (omega arith))) (cover_outside w v (logs n) ts (ops n) e off (h n (omega arith)))

round_world : {A : Type 0} (w v : World) (u : Use) (r : Played A) (s s2 : Cells) (vs bs : List ℕ) → v.shared ≡ w.shared → v.site.keys ≡ w.site.keys → Round v u r s s2 vs bs → Round w u r s s2 vs bs
round_world w v u r s s2 vs bs e f h = record {
  vs2 = h.vs2;
  bs2 = h.bs2;
  cells = rw (← e) h.cells;
  like = rw (← f) h.like;
  wide = rw (← f) h.wide;
  long = rw (← f) h.long;
  words = h.words;
  own = rw (← e) h.own;
  mine = rw (← e) h.mine;
  pairs = rw (← f) h.pairs;
}

-- ---- the loop

-- the tape that a parallel loop leaves
abbrev pub loop_tape : Heads → Tapes → Tape → Tape
loop_tape heads tapes tape = tape_after (words_of_all heads) (many tapes tape)

pub record ParallelUndone (w : World) (u : Use) (ts : Log) (number : ℕ) (directive : Directive) (var : List ℕ) (tree : Statements) (heads : Heads) (tape : Tape) (tapes : Tapes) (s s2 : Cells) (vs bs : List ℕ) : Type 0 where
  pub ends : Ends w u ts (play (parallel_back w number directive var tree (back_all (iteration_body directive tree)) (local w.shared (loop_tape heads tapes tape) vs bs)) (flat w.shared vs bs)) tape s s2 bs
  -- the iterations, each alone from the cells at the loop's entry
  pub orderly : IsDisciplined (ops_alone (iteration_tree w number directive var tree heads tapes (back_all (iteration_body directive tree)) (local w.shared (many tapes tape) vs bs)) (flat w.shared vs bs)) (iterations heads)

pub parallel_undone : (w : World) (u inner : Use) (ts : Log) (number : ℕ) (directive : Directive) (var : List ℕ) (tree : Statements) → RoundFacts w u inner number directive var tree → KeptBody (in_iteration w number directive var tree) inner (iteration_body directive tree)
    → ((s : Cells) → UndoneBody (in_iteration w number directive var tree) inner (iteration_body directive tree) s)
    → (heads : Heads) → head_names heads ≡ loop_variables directive var tree → AllCounted heads
    → (s s2 : Cells) → Fit w u s → (turns (iterations heads) (iteration_run w directive var tree heads) s).out ≡ Ok s2
    → ((i j : ℕ) → i < iterations heads → j < iterations heads → i ≢ j → Calm (in_iteration w number directive var tree) (iteration_log w.site directive var heads tree s i) (iteration_log w.site directive var heads tree s j))
    → (tape : Tape) (vs bs : List ℕ) → Like u w.site.keys vs s2 → length vs ≡ length w.site.keys → length bs ≡ length w.site.keys → AreWords bs
    → ParallelUndone w u ts number directive var tree heads tape (iteration_tapes (turns (iterations heads) (iteration_run w directive var tree heads) s).log) s s2 vs bs
parallel_undone w u inner ts number directive var tree sound keeping undoing heads names counted s s2 fit h calm tape vs bs like wide long small = record {
  ends = subst (λ (l : List (List ℕ)). Ends w u ts (play (loop_with (heads_on l full) (below_bounds l full)) c) tape s s2 bs) names
      (rw (heads_is heads (many tapes tape) counted, below_is heads (many tapes tape)) final);
  orderly = orderly;
}
  where
    f : ℕ → Run
    f = iteration_run w directive var tree heads

    n : ℕ
    n = iterations heads

    tapes : Tapes
    tapes = iteration_tapes (turns n f s).log

    full : Tape
    full = loop_tape heads tapes tape

    c : List ℕ
    c = flat w.shared vs bs

    m : Local
    m = local w.shared (many tapes tape) vs bs

    v : World
    v = in_iteration w number directive var tree

    -- the reverse loop with these bounds, and with the tape below their words
    loop_with : Heads → Tape → Tree Local
    loop_with hs t =
        let l : Local = local w.shared t vs bs in
        and_then (rounds (iteration_tree w number directive var tree hs (top_tapes t) (back_all (iteration_body directive tree)) l) (iterations hs)) (λ _. done (after_pop l))

    g : ℕ → Tree Local
    g = iteration_tree w number directive var tree heads tapes (back_all (iteration_body directive tree)) m

    logs : ℕ → Log
    logs = log_at f s

    told : (k : ℕ) (x : Cells) → (f k x).log ≡ within (iteration k) (inner_of (f k x).log)
    told k x = refl

    taped-all : Taped f s n
    taped-all = tapes_of n f s s2 told h

    step : (i : ℕ) → i < n → Step v u (logs i) (g i) m.values m.adjoints (state_at f s i) (state_at f s (suc i))
    step i k ys cs l2 wide2 long2 own mine small =
        let st = iteration_step w u inner number directive var tree sound heads tapes m i (state_at f s i) (state_at f s (suc i)) (names_set heads i ∙ names) (all_index heads i counted k) keeping (undoing (begun w directive var tree (settings heads i) (state_at f s i))) (states_fit w u inner number directive var tree sound keeping heads names counted s s2 fit i (omega arith) h) (chained n f s s2 h i k) (taped-all.each i k) ys cs l2 wide2 long2 own mine small in
        st

    at-end : state_at f s n ≡ s2
    at-end = state_end n f s s2 h

    undo : Undo v u g logs n s (state_at f s n) vs bs
    undo = rounds_undone v u g logs (state_at f s) m.values m.adjoints n sound.inside calm step vs bs (subst (λ (x : Cells). Like u w.site.keys vs x) (sym at-end) like) wide long refl refl small

    orderly : IsDisciplined (ops_alone g c) n
    orderly = disciplined v g logs n c sound.inside calm undo.each

    ops-are : (play (rounds g n) c).ops ≡ in_order (ops_alone g c) n
    ops-are = (rounds_alone g n c orderly).ops

    locals : local w.shared tape vs bs ≡ local w.shared tape undo.all.vs2 undo.all.bs2
    locals = rw (undo.all.own, undo.all.mine) refl

    final : Ends w u ts (play (loop_with heads (many tapes tape)) c) tape s s2 bs
    final = rw (bind (rounds g n) (λ _. done (after_pop m)) c) (record {
      vs2 = undo.all.vs2;
      bs2 = undo.all.bs2;
      out = locals;
      cells = undo.all.cells;
      like = undo.all.like;
      wide = undo.all.wide;
      long = undo.all.long;
      words = undo.all.words;
      pairs = subst (λ (x : Cells). Same (pair undo.all.bs2 (tangents u w.site.keys s)) (pair bs (tangents u w.site.keys x))) at-end undo.all.pairs;
      cover = cover_both w ts (play (rounds g n) c).ops [] (subst (λ (l : List Op). CoverAll w ts l) (sym ops-are) (cover_order w v ts logs (ops_alone g c) n refl sound.silent undo.each)) tt;
    })
