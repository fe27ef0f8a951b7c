-- Operations that are covered by touches without a conflict are clear of each other.
use Rattle.std.proofs.Common.{◌≡◌, ℕ, ◌-◌, ◌<◌, List, [], ◌∷◌, refl, sym, ◌∙◌, subst, Bool, true, false, cond, inl, inr}
use Rattle.std.specs.Prelude.{nat_lt}
use Rattle.fl_types.specs.declared.access.AccessKind.{AccessKind}
use Rattle.fl_types.specs.declared.access.AccessKind.TheVariants.{Read, Write, Update}
use Rattle.fl_types.specs.declared.choice.Choice.{Choice}
use Rattle.fl_types.specs.declared.choice.Choice.TheVariants.{Shared, Atomic, Reduction}
use Rattle.operations.specs.declared.op.Op.{Op}
use Rattle.operations.specs.declared.op.Op.TheVariants.{Load, Store, Bump, Add}
use Rattle.operations.specs.Ops.{cell_of, may_meet, Clear, ClearAll, Apart}
use Rattle.meaning.specs.Logs.{Log, silence, single, touched, sets, both, within, instance, right_side, rounds, turn, iteration, condition, taken}
use Rattle.meaning.specs.Conflicts.{clashes}
use Rattle.transposition.specs.Worlds.{World, is_reduction, name_at}
use Rattle.transposition.specs.Law.{HasTouch, HasDifferentiatedRead, CoverAt, place_of_cell, Cover, CoverAll, Calm}

clash : (w : World) (ts us : Log) → Calm w ts us → (k j : AccessKind) (p : ℕ) → clashes k j ≡ true → HasTouch k p ts → HasTouch j p us → ⊥
clash w ts us n k j p e h i = let f : true ≡ false = sym e ∙ n.kinds k j p h i in cc

two_ways : (b : Bool) → b ≡ false → b ≡ true → ⊥
two_ways b h k = let f : true ≡ false = sym k ∙ h in cc

reduced : (c : Choice) → c ≡ Reduction → is_reduction c ≡ false → ⊥
reduced Reduction e h = cc
reduced Shared e h = cc
reduced Atomic e h = cc

read_by : (b : Bool) (p : ℕ) (l : Log) → cond b (HasTouch Read p l) ⊥ → HasTouch Read p l
read_by true p l h = h
read_by false p l h = absurd h

pub read_of : (w : World) (p : ℕ) (l : Log) → HasDifferentiatedRead w.active p l → HasTouch Read p l
read_of w p silence h = absurd h
read_of w p (single e) h = absurd h
read_of w p (touched q k) h = absurd h
read_of w p (sets q v) h = absurd h
read_of w p (both a b) (inl h) = inl (read_of w p a h)
read_of w p (both a b) (inr h) = inr (read_of w p b h)
read_of w p (within (right_side x) a) h = read_by (w.active x) p a h
read_of w p (within instance a) h = read_of w p a h
read_of w p (within rounds a) h = read_of w p a h
read_of w p (within (turn k) a) h = read_of w p a h
read_of w p (within (iteration k) a) h = read_of w p a h
read_of w p (within (condition m) a) h = read_of w p a h
read_of w p (within (taken m) a) h = read_of w p a h

values_clear : (w : World) (ts us : Log) → Calm w ts us → (c q : ℕ) (o v : Op) → CoverAt w ts true c q o → CoverAt w us true c q v → may_meet o v ≡ false → ⊥
values_clear w ts us n c q (Load a) (Load b) h k m = cc
values_clear w ts us n c q (Load a) (Store b y) (inl h) k m = clash w ts us n Read Write c refl h k
values_clear w ts us n c q (Load a) (Store b y) (inr h) k m = clash w ts us n Write Write c refl h k
values_clear w ts us n c q (Load a) (Bump b y) (inl h) k m = clash w ts us n Read Write c refl h k
values_clear w ts us n c q (Load a) (Bump b y) (inr h) k m = clash w ts us n Write Write c refl h k
values_clear w ts us n c q (Load a) (Add b y) (inl h) k m = clash w ts us n Read Update c refl h k
values_clear w ts us n c q (Load a) (Add b y) (inr h) k m = clash w ts us n Write Update c refl h k
values_clear w ts us n c q (Store a x) (Load b) h (inl k) m = clash w ts us n Write Read c refl h k
values_clear w ts us n c q (Store a x) (Load b) h (inr k) m = clash w ts us n Write Write c refl h k
values_clear w ts us n c q (Store a x) (Store b y) h k m = clash w ts us n Write Write c refl h k
values_clear w ts us n c q (Store a x) (Bump b y) h k m = clash w ts us n Write Write c refl h k
values_clear w ts us n c q (Store a x) (Add b y) h k m = clash w ts us n Write Update c refl h k
values_clear w ts us n c q (Bump a x) (Load b) h (inl k) m = clash w ts us n Write Read c refl h k
values_clear w ts us n c q (Bump a x) (Load b) h (inr k) m = clash w ts us n Write Write c refl h k
values_clear w ts us n c q (Bump a x) (Store b y) h k m = clash w ts us n Write Write c refl h k
values_clear w ts us n c q (Bump a x) (Bump b y) h k m = clash w ts us n Write Write c refl h k
values_clear w ts us n c q (Bump a x) (Add b y) h k m = clash w ts us n Write Update c refl h k
values_clear w ts us n c q (Add a x) (Load b) h (inl k) m = clash w ts us n Update Read c refl h k
values_clear w ts us n c q (Add a x) (Load b) h (inr k) m = clash w ts us n Update Write c refl h k
values_clear w ts us n c q (Add a x) (Store b y) h k m = clash w ts us n Update Write c refl h k
values_clear w ts us n c q (Add a x) (Bump b y) h k m = clash w ts us n Update Write c refl h k
values_clear w ts us n c q (Add a x) (Add b y) h k m = cc

adjoints_clear : (w : World) (ts us : Log) → Calm w ts us → (c q : ℕ) (o v : Op) → CoverAt w ts false c q o → CoverAt w us false c q v → may_meet o v ≡ false → ⊥
adjoints_clear w ts us n c q (Load a) (Load b) h k m = cc
adjoints_clear w ts us n c q (Load a) (Store b y) ((inl h), hr) (k, kr) m = clash w ts us n Write Write q refl h k
adjoints_clear w ts us n c q (Load a) (Store b y) ((inr (inl h)), hr) (k, kr) m = clash w ts us n Update Write q refl h k
adjoints_clear w ts us n c q (Load a) (Store b y) ((inr (inr (h, hs))), hr) (k, kr) m = clash w ts us n Read Write q refl (read_of w q ts h) k
adjoints_clear w ts us n c q (Load a) (Bump b y) ((inl h), hr) (k, ks) m = clash w ts us n Write Read q refl h (read_of w q us k)
adjoints_clear w ts us n c q (Load a) (Bump b y) ((inr (inl h)), hr) (k, ks) m = clash w ts us n Update Read q refl h (read_of w q us k)
adjoints_clear w ts us n c q (Load a) (Bump b y) ((inr (inr (h, hs))), hr) (k, ks) m = n.shared q hs h k
adjoints_clear w ts us n c q (Load a) (Add b y) ((inl h), hr) (inl k, ko) m = clash w ts us n Write Read q refl h k
adjoints_clear w ts us n c q (Load a) (Add b y) ((inl h), hr) (inr k, ko) m = reduced _ k hr
adjoints_clear w ts us n c q (Load a) (Add b y) ((inr (inl h)), hr) (inl k, ko) m = clash w ts us n Update Read q refl h k
adjoints_clear w ts us n c q (Load a) (Add b y) ((inr (inl h)), hr) (inr k, ko) m = reduced _ k hr
adjoints_clear w ts us n c q (Load a) (Add b y) ((inr (inr (h, hs))), hr) (inl k, ko) m = two_ways _ hs ko
adjoints_clear w ts us n c q (Load a) (Add b y) ((inr (inr (h, hs))), hr) (inr k, ko) m = two_ways _ hs ko
adjoints_clear w ts us n c q (Store a x) (Load b) (h, hr) ((inl k), kr) m = clash w ts us n Write Write q refl h k
adjoints_clear w ts us n c q (Store a x) (Load b) (h, hr) ((inr (inl k)), kr) m = clash w ts us n Write Update q refl h k
adjoints_clear w ts us n c q (Store a x) (Load b) (h, hr) ((inr (inr (k, ks))), kr) m = clash w ts us n Write Read q refl h (read_of w q us k)
adjoints_clear w ts us n c q (Store a x) (Store b y) (h, hr) (k, kr) m = clash w ts us n Write Write q refl h k
adjoints_clear w ts us n c q (Store a x) (Bump b y) (h, hr) (k, ks) m = clash w ts us n Write Read q refl h (read_of w q us k)
adjoints_clear w ts us n c q (Store a x) (Add b y) (h, hr) (inl k, ko) m = clash w ts us n Write Read q refl h k
adjoints_clear w ts us n c q (Store a x) (Add b y) (h, hr) (inr k, ko) m = reduced _ k hr
adjoints_clear w ts us n c q (Bump a x) (Load b) (h, hs) ((inl k), kr) m = clash w ts us n Read Write q refl (read_of w q ts h) k
adjoints_clear w ts us n c q (Bump a x) (Load b) (h, hs) ((inr (inl k)), kr) m = clash w ts us n Read Update q refl (read_of w q ts h) k
adjoints_clear w ts us n c q (Bump a x) (Load b) (h, hs) ((inr (inr (k, ks))), kr) m = n.shared q hs h k
adjoints_clear w ts us n c q (Bump a x) (Store b y) (h, hs) (k, kr) m = clash w ts us n Read Write q refl (read_of w q ts h) k
adjoints_clear w ts us n c q (Bump a x) (Bump b y) (h, hs) (k, ks) m = n.shared q hs h k
adjoints_clear w ts us n c q (Bump a x) (Add b y) (h, hs) (inl k, ko) m = two_ways _ hs ko
adjoints_clear w ts us n c q (Bump a x) (Add b y) (h, hs) (inr k, ko) m = two_ways _ hs ko
adjoints_clear w ts us n c q (Add a x) (Load b) (inl h, ho) ((inl k), kr) m = clash w ts us n Read Write q refl h k
adjoints_clear w ts us n c q (Add a x) (Load b) (inl h, ho) ((inr (inl k)), kr) m = clash w ts us n Read Update q refl h k
adjoints_clear w ts us n c q (Add a x) (Load b) (inl h, ho) ((inr (inr (k, ks))), kr) m = two_ways _ ks ho
adjoints_clear w ts us n c q (Add a x) (Load b) (inr h, ho) ((inl k), kr) m = reduced _ h kr
adjoints_clear w ts us n c q (Add a x) (Load b) (inr h, ho) ((inr (inl k)), kr) m = reduced _ h kr
adjoints_clear w ts us n c q (Add a x) (Load b) (inr h, ho) ((inr (inr (k, ks))), kr) m = two_ways _ ks ho
adjoints_clear w ts us n c q (Add a x) (Store b y) (inl h, ho) (k, kr) m = clash w ts us n Read Write q refl h k
adjoints_clear w ts us n c q (Add a x) (Store b y) (inr h, ho) (k, kr) m = reduced _ h kr
adjoints_clear w ts us n c q (Add a x) (Bump b y) (inl h, ho) (k, ks) m = two_ways _ ks ho
adjoints_clear w ts us n c q (Add a x) (Bump b y) (inr h, ho) (k, ks) m = two_ways _ ks ho
adjoints_clear w ts us n c q (Add a x) (Add b y) h k m = cc

-- every place is of a name that makes touches, as in a parallel loop
abbrev pub AllAccessed : World → Type 0
AllAccessed w = (p : ℕ) → p < w.shared → w.site.accessed (name_at w.site.keys p) ≡ true

by_side : (w : World) (ts us : Log) → Calm w ts us → (b : Bool) (c q : ℕ) (o v : Op) → CoverAt w ts b c q o → CoverAt w us b c q v → may_meet o v ≡ false → ⊥
by_side w ts us n true c q o v h k m = values_clear w ts us n c q o v h k m
by_side w ts us n false c q o v h k m = adjoints_clear w ts us n c q o v h k m

pub clear_of : (w : World) (ts us : Log) → Calm w ts us → AllAccessed w → (o v : Op) → Cover w ts o → Cover w us v → Clear o v
clear_of w ts us n all o v h k m e =
    let i : CoverAt w ts (nat_lt (cell_of o) w.shared) (cell_of o) (cell_of o - w.shared) o = h.1 (all (place_of_cell w.shared (cell_of o)) h.0) in
    let j : CoverAt w us (nat_lt (cell_of v) w.shared) (cell_of v) (cell_of v - w.shared) v = k.1 (all (place_of_cell w.shared (cell_of v)) k.0) in
    by_side w ts us n (nat_lt (cell_of o) w.shared) (cell_of o) (cell_of o - w.shared) o v i (subst (λ (c : ℕ). CoverAt w us (nat_lt c w.shared) c (c - w.shared) v) (sym e) j) m

clear_all_of : (w : World) (ts us : Log) → Calm w ts us → AllAccessed w → (os : List Op) (v : Op) → CoverAll w ts os → Cover w us v → ClearAll os v
clear_all_of w ts us n all [] v h k = tt
clear_all_of w ts us n all (o ∷ os) v h k = (clear_of w ts us n all o v h.0 k, clear_all_of w ts us n all os v h.1 k)

pub apart_of : (w : World) (ts us : Log) → Calm w ts us → AllAccessed w → (os vs : List Op) → CoverAll w ts os → CoverAll w us vs → Apart os vs
apart_of w ts us n all os [] h k = tt
apart_of w ts us n all os (v ∷ vs) h k = (clear_all_of w ts us n all os v h k.0, apart_of w ts us n all os vs h k.1)
