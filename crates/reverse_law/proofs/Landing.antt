-- Statements of reverse sweeps: where a tree leaves the iteration's own words, and the stage.
use Rattle.std.proofs.Common.{◌≡◌, ℕ, ◌+◌, ◌-◌, ℤ, bytes_eq, List, refl, ap, sym, ◌∙◌, Bool, true, false, ◌&&◌, cond, Option, Some, None, arith}
use Rattle.std.specs.Prelude.{slice_index, nat_lt, if◌then◌else◌}
use Rattle.std.proofs.lemmas.Bool.{and_parts}
use Rattle.std.proofs.lemmas.Bool.Decides.{nat_tests}
use Rattle.std.proofs.lemmas.Slice.Eq.{bytes_eq-Decides}
use Rattle.ring_core.specs.Ring.{ring_add}
use Rattle.fl_types.specs.declared.choice.Choice.{Choice}
use Rattle.fl_types.specs.declared.choice.Choice.TheVariants.{Shared, Atomic, Reduction}
use Rattle.store_core.specs.Keys.{same_key, same_subscripts}
use Rattle.store_core.proofs.Slots.{first_found}
use Rattle.meaning.specs.Sites.{Site, place_of}
use Rattle.operations.specs.declared.op.Op.TheVariants.{Store}
use Rattle.operations.specs.Tree.{Tree, done, does, ◌giving◌}
use Rattle.transposition.specs.Worlds.{World, Local, at_place, value_store, adjoint_store, adjoint_load, addition, is_one_step, value_increment, adjoint_increment, with_value, with_adjoint, with_own_value, with_own_adjoint, is_reduction, key_name, name_at}
use Rattle.operations.specs.Tree.{loads}
use Rattle.sweep_evaluation.specs.Machine.{Ran, ran}
use Rattle.reverse_sweep.specs.Reversing.{Stage, Reversing, reversing, loaded_cell, acted, grown, own_value, own_adjoint, own_value_set, own_adjoint_set, adjoint_loaded, value_stored, adjoint_stored, value_grown, counted, adjoint_grown}
use Rattle.reverse_law.specs.Adds.{is_atomic, is_atomic_cell}
use Rattle.reverse_law.proofs.Going.{tallied, go, go_giving, seen, alike, landed}
use Rattle.reverse_law.proofs.Evaluating.{Matches, Evaluates, IsSame}

abbrev pub shown : Bool → Reversing → Reversing
shown b s = reversing s.local (seen b s.stage)

-- the cells whose additions are seen
abbrev pub seen_cells : Bool → World → ℕ → Bool
seen_cells b w q = b && is_atomic_cell w q

-- with what was counted, or without
abbrev pub LandsBy : Bool → World → Local → Tree Local → (Reversing → Reversing) → Type 0
LandsBy b w l t m = (g : Stage) → shown b (m (reversing l g)) ≡ shown b (landed (go (seen_cells b w) t g))

-- both ways
abbrev pub LandsAt : World → Local → Tree Local → (Reversing → Reversing) → Type 0
LandsAt w l t m = (b : Bool) → LandsBy b w l t m

pub by_done : (b : Bool) (w : World) (l : Local) → LandsBy b w l (done l) (λ s. s)
by_done b w l g = refl

pub lands_done : (w : World) (l : Local) → LandsAt w l (done l) (λ s. s)
lands_done w l b g = refl

-- an evaluation, and then what lands
pub lands_then : {X A : Type 0} (w : World) (l : Local) (t : Tree X) (f : X → Tree Local) (R : X → A → Type 0) (m : Reversing → Ran Reversing A) (h : A → Reversing → Reversing)
    → Evaluates l t R m → ((x : X) (a : A) → R x a → LandsAt w l (f x) (h a)) → LandsAt w l (t giving f) (λ s. h (m s).out (m s).state)
lands_then w l t f R m h d e b g =
    let cells = seen_cells b w in
    let q = m (reversing l g) in
    ap (λ (s : Reversing). shown b (h q.out s)) (d cells g).state ∙ (e (go cells t g).out q.out (d cells g).value b (go cells t g).state ∙ ap (λ (r : Ran Stage Local). shown b (landed r)) (sym (go_giving cells t f g)))

pub by_both : (b : Bool) (w : World) (l : Local) (t : Tree Local) (f : Local → Tree Local) (m n : Reversing → Reversing) → LandsBy b w l t m → ((k : Local) → LandsBy b w k (f k) n) → LandsBy b w l (t giving f) (λ s. n (m s))
by_both b w l t f m n d e g =
    let cells = seen_cells b w in
    let s = m (reversing l g) in
    e s.local s.stage
    ∙ (ap (λ (k : Local). shown b (landed (go cells (f k) s.stage))) (ap (λ (r : Reversing). r.local) (d g))
    ∙ (ap landed (alike b cells (f (go cells t g).out) s.stage (go cells t g).state (ap (λ (r : Reversing). r.stage) (d g)))
    ∙ ap (λ (r : Ran Stage Local). shown b (landed r)) (sym (go_giving cells t f g))))

pub lands_both : (w : World) (l : Local) (t : Tree Local) (f : Local → Tree Local) (m n : Reversing → Reversing) → LandsAt w l t m → ((k : Local) → LandsAt w k (f k) n) → LandsAt w l (t giving f) (λ s. n (m s))
lands_both w l t f m n d e b = by_both b w l t f m n (d b) (λ k. e k b)

go_assoc : {A B C : Type 0} (cells : ℕ → Bool) (t : Tree A) (f : A → Tree B) (k : B → Tree C) (g : Stage) → go cells ((t giving f) giving k) g ≡ go cells (t giving (λ a. f a giving k)) g
go_assoc cells (done a) f k g = refl
go_assoc cells (loads p c) f k g = go_assoc cells (c (slice_index g.cells p)) f k (loaded_cell p g)
go_assoc cells (does o t) f k g =
    go_giving cells (does o t giving f) k g
    ∙ (ap (λ r. go cells (k r.out) r.state) (go_giving cells (does o t) f g) ∙ (sym (go_giving cells (f (go cells (does o t) g).out) k (go cells (does o t) g).state) ∙ sym (go_giving cells (does o t) (λ a. f a giving k) g)))

pub lands_nested : {A : Type 0} (w : World) (l : Local) (t : Tree A) (f : A → Tree Local) (k : Local → Tree Local) (m : Reversing → Reversing) → LandsAt w l ((t giving f) giving k) m → LandsAt w l (t giving (λ a. f a giving k)) m
lands_nested w l t f k m d b g = d b g ∙ ap (λ (r : Ran Stage Local). shown b (landed r)) (go_assoc (seen_cells b w) t f k g)

-- ---- at places

pub eval_adjoint : (w : World) (l : Local) (o : Option ℕ) → Evaluates l (at_place (done 0) (adjoint_load w l) o) IsSame (adjoint_loaded w.shared o)
eval_adjoint w l None cells g = record { value = refl; state = refl }
eval_adjoint w l (Some p) cells g = by_test (nat_lt p w.shared)
  where
    by_test : (b : Bool) → Matches l IsSame (go cells (cond b (loads (w.shared + p) (λ x. done x)) (done (slice_index l.adjoints (p - w.shared)))) g)
        (if b then ran (slice_index g.cells (w.shared + p)) (reversing l (loaded_cell (w.shared + p) g)) else ran (slice_index l.adjoints (p - w.shared)) (reversing l g))
    by_test true = record { value = refl; state = refl }
    by_test false = record { value = refl; state = refl }

pub lands_value : (w : World) (l : Local) (x : ℕ) (o : Option ℕ) → LandsAt w l (at_place (done l) (λ q. value_store w q x l) o) (value_stored w.shared x o)
lands_value w l x None v g = refl
lands_value w l x (Some p) v g = by_test (nat_lt p w.shared)
  where
    by_test : (b : Bool) → shown v (if b then reversing l (acted (Store p x) g) else reversing (own_value w.shared p x l) g) ≡ shown v (landed (go (seen_cells v w) (cond b (does (Store p x) (done l)) (done (with_value w p x l))) g))
    by_test true = refl
    by_test false = refl

pub lands_adjoint : (w : World) (l : Local) (x : ℕ) (o : Option ℕ) → LandsAt w l (at_place (done l) (λ q. adjoint_store w q x l) o) (adjoint_stored w.shared x o)
lands_adjoint w l x None v g = refl
lands_adjoint w l x (Some p) v g = by_test (nat_lt p w.shared)
  where
    by_test : (b : Bool) → shown v (if b then reversing l (acted (Store (w.shared + p) x) g) else reversing (own_adjoint w.shared p x l) g)
        ≡ shown v (landed (go (seen_cells v w) (cond b (does (Store (w.shared + p) x) (done l)) (done (with_adjoint w p x l))) g))
    by_test true = refl
    by_test false = refl

-- a cell of a value
unseen_cell : (v : Bool) (w : World) (p : ℕ) → nat_lt p w.shared ≡ true → seen_cells v w p ≡ false
unseen_cell true w p e = rw e refl
unseen_cell false w p e = refl

pub lands_value_grown : (w : World) (l : Local) (one : Bool) (a : ℕ) (o : Option ℕ) → LandsAt w l (at_place (done l) (λ q. value_increment w one q a l) o) (value_grown w.shared one a o)
lands_value_grown w l one a None v g = refl
lands_value_grown w l one a (Some p) v g = by_test (nat_lt p w.shared) refl
  where
    x : ℕ
    x = ring_add (slice_index l.values (p - w.shared)) a

    by_step : (one : Bool) → seen_cells v w p ≡ false → shown v (reversing l (grown one p a g)) ≡ shown v (landed (go (seen_cells v w) (addition one p a l) g))
    by_step true e = ap (λ (c : Bool). shown v (reversing l (tallied c (grown true p a g)))) (sym e)
    by_step false e = refl

    by_test : (b : Bool) → nat_lt p w.shared ≡ b → shown v (if b then reversing l (grown one p a g) else reversing (own_value w.shared p x l) g) ≡ shown v (landed (go (seen_cells v w) (cond b (addition one p a l) (done (with_value w p x l))) g))
    by_test true e = by_step one (unseen_cell v w p e)
    by_test false e = refl

-- the adjoint's cell of a place is counted by its name's choice
adjoint_cell : (w : World) (p : ℕ) → is_atomic_cell w (w.shared + p) ≡ is_atomic (w.choice (name_at w.site.keys p))
adjoint_cell w p = rw (above w.shared p, behind w.shared p) refl
  where
    above : (n p : ℕ) → nat_lt (n + p) n ≡ false
    above n p = grind (arith, nat_tests)

    behind : (n p : ℕ) → (n + p) - n ≡ p
    behind n p = omega arith

-- a place that, where there is one, is of a name
abbrev pub IsPlaced : World → List ℕ → Option ℕ → Type 0
IsPlaced w x o = (p : ℕ) → o ≡ Some p → name_at w.site.keys p ≡ x

pub name_placed : (site : Site) (x : List ℕ) (zs : List ℤ) (p : ℕ) → place_of site x zs ≡ Some p → name_at site.keys p ≡ x
name_placed site x zs p e =
    let f = first_found (same_key (x, zs)) site.keys p (sym e) in
    ap key_name f.1 ∙ sym ((bytes_eq-Decides x f.0.0).0 (and_parts (bytes_eq x f.0.0) (same_subscripts zs f.0.1) f.2).0)

-- the cell of a sum isn't counted
pub unseen_sum : (b : Bool) (w : World) (x : List ℕ) (p : ℕ) → is_reduction (w.choice x) ≡ true → name_at w.site.keys p ≡ x → seen_cells b w (w.shared + p) ≡ false
unseen_sum false w x p r e = refl
unseen_sum true w x p r e = adjoint_cell w p ∙ (ap (λ (z : List ℕ). is_atomic (w.choice z)) e ∙ not_both (w.choice x) r)
  where
    not_both : (c : Choice) → is_reduction c ≡ true → is_atomic c ≡ false
    not_both Shared r = refl
    not_both Atomic r = cc
    not_both Reduction r = refl

pub lands_adjoint_grown : (w : World) (l : Local) (x : List ℕ) (a : ℕ) (o : Option ℕ) → IsPlaced w x o → LandsAt w l (at_place (done l) (λ q. adjoint_increment w (w.choice x) q a l) o) (adjoint_grown w.shared (w.choice x) a o)
lands_adjoint_grown w l x a None h v g = refl
lands_adjoint_grown w l x a (Some p) h v g = by_test (nat_lt p w.shared)
  where
    y : ℕ
    y = ring_add (slice_index l.adjoints (p - w.shared)) a

    q : ℕ
    q = w.shared + p

    cell : is_atomic_cell w q ≡ is_atomic (w.choice x)
    cell = adjoint_cell w p ∙ ap (λ (z : List ℕ). is_atomic (w.choice z)) (h p refl)

    by_choice : (c : Choice) (v : Bool) → is_atomic_cell w q ≡ is_atomic c → shown v (reversing l (counted c (grown (is_one_step c) q a g))) ≡ shown v (landed (go (seen_cells v w) (addition (is_one_step c) q a l) g))
    by_choice Shared v e = refl
    by_choice Atomic true e = ap (λ (c : Bool). reversing l (tallied c (grown true q a g))) (sym e)
    by_choice Atomic false e = refl
    by_choice Reduction true e = ap (λ (c : Bool). reversing l (tallied c (grown true q a g))) (sym e)
    by_choice Reduction false e = refl

    by_test : (b : Bool) → shown v (if b then reversing l (counted (w.choice x) (grown (is_one_step (w.choice x)) q a g)) else reversing (own_adjoint w.shared p y l) g)
        ≡ shown v (landed (go (seen_cells v w) (cond b (addition (is_one_step (w.choice x)) q a l) (done (with_adjoint w p y l))) g))
    by_test true = by_choice (w.choice x) v cell
    by_test false = refl

-- ---- words of the iteration's own

pub own_value_is : (w : World) (o : Option ℕ) (x : ℕ) (l : Local) → with_own_value w o x l ≡ own_value_set w.shared o x l
own_value_is w None x l = refl
own_value_is w (Some p) x l = by_test (nat_lt p w.shared)
  where
    by_test : (b : Bool) → cond b l (with_value w p x l) ≡ (if b then l else own_value w.shared p x l)
    by_test true = refl
    by_test false = refl

pub own_adjoint_is : (w : World) (o : Option ℕ) (x : ℕ) (l : Local) → with_own_adjoint w o x l ≡ own_adjoint_set w.shared o x l
own_adjoint_is w None x l = refl
own_adjoint_is w (Some p) x l = by_test (nat_lt p w.shared)
  where
    by_test : (b : Bool) → cond b l (with_adjoint w p x l) ≡ (if b then l else own_adjoint w.shared p x l)
    by_test true = refl
    by_test false = refl
