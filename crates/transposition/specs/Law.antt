-- What the law of the reverse part says of a run and of the tree that undoes it.
use Rattle.std.specs.Prelude.{◌≡◌, ◌⊎◌, ℕ, ◌-◌, ◌<◌, ◌≤◌, ◌^◌, Bool, true, false, cond, nat_lt, List, [], ◌∷◌, ◌++◌, map, take, drop, length, Option, Some, slice_index}
use Rattle.pairing.specs.Ring.{Same}
use Rattle.pairing.specs.Pair.{pair, live}
use Rattle.fl_types.specs.declared.access.AccessKind.{AccessKind}
use Rattle.fl_types.specs.declared.access.AccessKind.TheVariants.{Read, Write, Update}
use Rattle.fl_types.specs.declared.choice.Choice.TheVariants.{Reduction}
use Rattle.operations.specs.declared.op.Op.{Op}
use Rattle.operations.specs.declared.op.Op.TheVariants.{Load, Store, Bump, Add}
use Rattle.operations.specs.Ops.{cell_of}
use Rattle.operations.specs.Tree.{Tree, Played, play}
use Rattle.meaning.specs.declared.value.Value.{Value}
use Rattle.meaning.specs.Logs.{Log, silence, single, touched, sets, both, within, instance, right_side, rounds, turn, iteration, condition, taken}
use Rattle.meaning.specs.Sites.{Key, Cells, kind_of, word_of}
use Rattle.meaning.specs.Expressions.{content}
use Rattle.meaning.specs.Adjoints.{tangent_of}
use Rattle.meaning.specs.Conflicts.{clashes}
use Rattle.meaning.specs.Fitting.{HasKind}
use Rattle.transposition.specs.Tapes.{Tape}
use Rattle.transposition.specs.Worlds.{World, Local, is_one_step, is_reduction, name_at}

-- names in scope whose values the reverse part reads, whose adjoints count, and whose tangents may differ from 0; and the words of the
-- variables of the sequential loops around, which a parallel loop may unset
pub record Use : Type 0 where
  pub needed : List ℕ → Bool
  pub live : List ℕ → Bool
  pub moved : List ℕ → Bool
  pub held : List ℕ → Option ℕ

-- ---- cells

-- the operations' cells, from the words of all places and their adjoints
abbrev pub flat : ℕ → List ℕ → List ℕ → List ℕ
flat n vs bs = take n vs ++ take n bs

abbrev pub local : ℕ → Tape → List ℕ → List ℕ → Local
local n t vs bs = record { tape = t; values = drop n vs; adjoints = drop n bs }

-- the needed places that are set have their words, and the held ones theirs, set or unset
pub record Like (u : Use) (keys : List Key) (vs : List ℕ) (s : Cells) : Type 0 where
  pub read : (p : ℕ) (v : Value) → content s p ≡ Some v → u.needed (name_at keys p) ≡ true → slice_index vs p ≡ word_of (Some v)
  pub held : (p n : ℕ) → u.held (name_at keys p) ≡ Some n → slice_index vs p ≡ n

abbrev pub tangents : Use → List Key → Cells → List ℕ
tangents u keys s = live (λ p. u.live (name_at keys p)) 0 (map tangent_of s)

pub record Fit (w : World) (u : Use) (s : Cells) : Type 0 where
  pub long : length s ≡ length w.site.keys
  pub room : w.shared ≤ length w.site.keys
  pub kinds : (p : ℕ) (v : Value) → content s p ≡ Some v → HasKind (kind_of w.site (name_at w.site.keys p)) v
  pub still : (p : ℕ) → u.moved (name_at w.site.keys p) ≡ false → Same (tangent_of (content s p)) 0
  -- a held place has its word as long as it is set
  pub held : (p n : ℕ) (v : Value) → content s p ≡ Some v → u.held (name_at w.site.keys p) ≡ Some n → word_of (Some v) ≡ n

-- ---- touches

-- a touch of this kind at this place is in the log
abbrev pub HasTouch : AccessKind → ℕ → Log → Type 0
HasTouch k p silence = ⊥
HasTouch k p (single e) = ⊥
HasTouch k p (touched q j) = (q ≡ p) × (j ≡ k)
HasTouch k p (sets q v) = ⊥
HasTouch k p (both a b) = HasTouch k p a ⊎ HasTouch k p b
HasTouch k p (within q a) = HasTouch k p a

-- a read at this place on the right side of an assignment to an active name
abbrev pub HasDifferentiatedRead : (List ℕ → Bool) → ℕ → Log → Type 0
HasDifferentiatedRead on p silence = ⊥
HasDifferentiatedRead on p (single e) = ⊥
HasDifferentiatedRead on p (touched q j) = ⊥
HasDifferentiatedRead on p (sets q v) = ⊥
HasDifferentiatedRead on p (both a b) = HasDifferentiatedRead on p a ⊎ HasDifferentiatedRead on p b
HasDifferentiatedRead on p (within (right_side x) a) = cond (on x) (HasTouch Read p a) ⊥
HasDifferentiatedRead on p (within instance a) = HasDifferentiatedRead on p a
HasDifferentiatedRead on p (within rounds a) = HasDifferentiatedRead on p a
HasDifferentiatedRead on p (within (turn k) a) = HasDifferentiatedRead on p a
HasDifferentiatedRead on p (within (iteration k) a) = HasDifferentiatedRead on p a
HasDifferentiatedRead on p (within (condition m) a) = HasDifferentiatedRead on p a
HasDifferentiatedRead on p (within (taken m) a) = HasDifferentiatedRead on p a

pub record Within (on : List ℕ → Bool) (a ts : Log) : Type 0 where
  pub touches : (k : AccessKind) (p : ℕ) → HasTouch k p a → HasTouch k p ts
  pub differentiated : (p : ℕ) → HasDifferentiatedRead on p a → HasDifferentiatedRead on p ts

-- ---- operations against touches

abbrev pub CoverAt : World → Log → Bool → ℕ → ℕ → Op → Type 0
CoverAt w ts true p q (Load c) = HasTouch Read p ts ⊎ HasTouch Write p ts
CoverAt w ts true p q (Store c x) = HasTouch Write p ts
CoverAt w ts true p q (Bump c x) = HasTouch Write p ts
CoverAt w ts true p q (Add c x) = HasTouch Update p ts
CoverAt w ts false p q (Load c) =
    (HasTouch Write q ts ⊎ (HasTouch Update q ts ⊎ (HasDifferentiatedRead w.active q ts × (is_one_step (w.choice (name_at w.site.keys q)) ≡ false))))
    × (is_reduction (w.choice (name_at w.site.keys q)) ≡ false)
CoverAt w ts false p q (Store c x) = HasTouch Write q ts × (is_reduction (w.choice (name_at w.site.keys q)) ≡ false)
CoverAt w ts false p q (Bump c x) = HasDifferentiatedRead w.active q ts × (is_one_step (w.choice (name_at w.site.keys q)) ≡ false)
CoverAt w ts false p q (Add c x) = (HasTouch Read q ts ⊎ (w.choice (name_at w.site.keys q) ≡ Reduction)) × (is_one_step (w.choice (name_at w.site.keys q)) ≡ true)

-- the place of a cell, of its value or its adjoint
abbrev pub place_of_cell : ℕ → ℕ → ℕ
place_of_cell n c = cond (nat_lt c n) c (c - n)

-- an operation is on a place, and where its name makes touches it is covered by one there
abbrev pub Cover : World → Log → Op → Type 0
Cover w ts o =
    (place_of_cell w.shared (cell_of o) < w.shared)
    × (w.site.accessed (name_at w.site.keys (place_of_cell w.shared (cell_of o))) ≡ true → CoverAt w ts (nat_lt (cell_of o) w.shared) (cell_of o) (cell_of o - w.shared) o)

abbrev pub CoverAll : World → Log → List Op → Type 0
CoverAll w ts [] = Unit {0}
CoverAll w ts (o ∷ os) = Cover w ts o × CoverAll w ts os

-- ---- the law of a tree that undoes what led from s to s2

abbrev pub AreWords : List ℕ → Type 0
AreWords bs = (p : ℕ) → slice_index bs p < 2 ^ 64

pub record Ends (w : World) (u : Use) (ts : Log) (r : Played Local) (t : Tape) (s s2 : Cells) (bs : List ℕ) : Type 0 where
  pub vs2 : List ℕ
  pub bs2 : List ℕ
  pub out : r.out ≡ local w.shared t vs2 bs2
  pub cells : r.cells ≡ flat w.shared vs2 bs2
  pub like : Like u w.site.keys vs2 s
  pub wide : length vs2 ≡ length w.site.keys
  pub long : length bs2 ≡ length w.site.keys
  pub words : AreWords bs2
  pub pairs : Same (pair bs2 (tangents u w.site.keys s)) (pair bs (tangents u w.site.keys s2))
  pub cover : CoverAll w ts r.ops

abbrev pub Undoes : World → Use → Log → (Local → Tree Local) → Tape → Tape → Cells → Cells → Type 0
Undoes w u ts f t t2 s s2 =
    (vs bs : List ℕ) → Like u w.site.keys vs s2 → length vs ≡ length w.site.keys → length bs ≡ length w.site.keys → AreWords bs
    → Ends w u ts (play (f (local w.shared t2 vs bs)) (flat w.shared vs bs)) t s s2 bs

-- ---- iterations that don't conflict

-- no kinds of touches at one place conflict
abbrev pub KindsApart : World → Log → Log → Type 0
KindsApart w ts us = (k j : AccessKind) (p : ℕ) → HasTouch k p ts → HasTouch j p us → clashes k j ≡ false

-- the reads of a name with the choice Shared are at different places, which the certificates show
abbrev pub SharedApart : World → Log → Log → Type 0
SharedApart w ts us = (p : ℕ) → is_one_step (w.choice (name_at w.site.keys p)) ≡ false → HasDifferentiatedRead w.active p ts → HasDifferentiatedRead w.active p us → ⊥

pub record Calm (w : World) (ts us : Log) : Type 0 where
  pub kinds : KindsApart w ts us
  pub shared : SharedApart w ts us
