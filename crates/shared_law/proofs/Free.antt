-- Where no two iterations' touches clash, no conflict is reported.
use Rattle.std.proofs.Common.{◌≡◌, ◌≢◌, ℕ, zero, suc, ◌<◌, List, [], ◌∷◌, ◌⊎◌, inl, inr, true, false, Option, Some, None, Ok, Contains, refl, ap, sym, ◌∙◌, subst, arith}
use Rattle.std.proofs.lemmas.List.Elements.{Contains-append_cases, Contains-push_cases}
use Rattle.fl_types.specs.declared.access.AccessKind.{AccessKind}
use Rattle.meaning.specs.Logs.{Touch, begins, touches, pushes, ends, traps, Log, silence, single, touched, sets, both, within, instance, right_side, rounds, turn, iteration, condition, taken, events_in}
use Rattle.meaning.specs.Sites.{Cells}
use Rattle.meaning.specs.Statements.{Run, turns}
use Rattle.meaning.specs.Conflicts.{clashes, Clash, IsClash, Reports, conflict}
use Rattle.meaning.specs.Touches.{touches_in}
use Rattle.meaning.proofs.Parts.{bound}
use Rattle.meaning.proofs.Reported.{reported}
use Rattle.meaning.proofs.Touching.{touches_append}
use Rattle.transposition.specs.Law.{HasTouch}
use Rattle.transposition.specs.Calms.{inner_of, state_at, log_at}
use Rattle.transposition.proofs.Parallel.{state_end}
use Rattle.transposition.proofs.PlainLogs.{IsPlain}

none_in : {A : Type 0} (x : A) → Contains [] x → ⊥
none_in x c = absurd (omega (arith, c.1))

only_in : {A : Type 0} (y x : A) → Contains (y ∷ []) x → y ≡ x
only_in y x c = only (Contains-push_cases [] y x c)
  where
    only : Contains [] x ⊎ (y ≡ x) → y ≡ x
    only (inl n) = absurd (none_in x n)
    only (inr e) = e

either : {A B P : Type 0} → (A → P) → (B → P) → A ⊎ B → P
either f g (inl a) = f a
either f g (inr b) = g b

-- the touches of two logs
two_logs : {P : Type 0} (a b : Log) (k : ℕ) (t : Touch) → (Contains (touches_in k a) t → P) → (Contains (touches_in k b) t → P)
    → Contains (touches_in k (both a b)) t → P
two_logs a b k t f g c =
    either f g (Contains-append_cases (touches_in k a) (touches_in k b) t
    (subst (λ (ts : List Touch). Contains ts t) (touches_append (events_in k a) (events_in k b)) c))

-- a touch of an iteration's log
abbrev IsTold : ℕ → Log → Touch → Type 0
IsTold k l t = (t.iteration ≡ k) × HasTouch t.kind t.place l

told : (l : Log) (k : ℕ) (t : Touch) → IsPlain l → Contains (touches_in k l) t → IsTold k l t
told silence k t h c = absurd (none_in t c)
told (single begins) k t h c = absurd (none_in t c)
told (single (touches x)) k t h c = absurd h
told (single (pushes v)) k t h c = absurd (none_in t c)
told (single (ends line)) k t h c = absurd h
told (single (traps x)) k t h c = absurd (none_in t c)
told (touched p kind) k t h c =
    let e : record { place = p; iteration = k; kind = kind } ≡ t = only_in (record { place = p; iteration = k; kind = kind }) t c in
    (sym (ap (λ (x : Touch). x.iteration) e), (ap (λ (x : Touch). x.place) e, ap (λ (x : Touch). x.kind) e))
told (sets p v) k t h c = absurd (none_in t c)
told (both a b) k t h c =
    two_logs a b k t (λ i. let r = told a k t h.0 i in (r.0, inl r.1)) (λ i. let r = told b k t h.1 i in (r.0, inr r.1)) c
told (within instance a) k t h c = told a k t h.1 c
told (within (right_side x) a) k t h c = told a k t h.1 c
told (within rounds a) k t h c = absurd h.0
told (within (turn m) a) k t h c = told a k t h.1 c
told (within (iteration m) a) k t h c = absurd h.0
told (within (condition m) a) k t h c = told a k t h.1 c
told (within (taken m) a) k t h c = told a k t h.1 c

-- iterations that are passages of their own, without one in another
pub record ArePassages (f : ℕ → Run) : Type 0 where
  pub log : (k : ℕ) (c : Cells) → (f k c).log ≡ within (iteration k) (inner_of (f k c).log)
  pub plain : (k : ℕ) (c : Cells) → IsPlain (inner_of (f k c).log)

-- each touch is one of its iteration
turns_told : (n : ℕ) (f : ℕ → Run) (s s2 : Cells) → ArePassages f → (turns n f s).out ≡ Ok s2 → (t : Touch)
    → Contains (touches_in 0 (turns n f s).log) t → (t.iteration < n) × HasTouch t.kind t.place (log_at f s t.iteration)
turns_told zero f s s2 a h t c = absurd (none_in t c)
turns_told (suc n) f s s2 a h t c =
    let b = bound (turns n f s) (f n) s2 h in
    two_logs (turns n f s).log (f n b.value).log 0 t
    (λ i. let r = turns_told n f s b.value a b.first t i in (omega (arith, r.0), r.1))
    (λ i. last b.value (state_end n f s b.value b.first)
    (told (inner_of (f n b.value).log) n t (a.plain n b.value) (subst (λ (l : Log). Contains (touches_in 0 l) t) (a.log n b.value) i)))
    (subst (λ (l : Log). Contains (touches_in 0 l) t) b.log c)
  where
    last : (c : Cells) → state_at f s n ≡ c → IsTold n (inner_of (f n c).log) t → (t.iteration < suc n) × HasTouch t.kind t.place (log_at f s t.iteration)
    last c e r = (
      omega (arith, r.0),
      subst (λ (m : ℕ). HasTouch t.kind t.place (log_at f s m)) (sym r.0)
          (subst (λ (x : Cells). HasTouch t.kind t.place (inner_of (f n x).log)) (sym e) r.1),
    )

-- the touches of any two iterations don't clash
abbrev pub ArePeaceful : ℕ → (ℕ → Run) → Cells → Type 0
ArePeaceful n f s =
    (i j : ℕ) → i < n → j < n → i ≢ j → (k m : AccessKind) (p : ℕ) → HasTouch k p (log_at f s i) → HasTouch m p (log_at f s j) → clashes k m ≡ false

pub no_conflict : (n : ℕ) (f : ℕ → Run) (s s2 : Cells) → ArePassages f → (turns n f s).out ≡ Ok s2 → ArePeaceful n f s
    → conflict (touches_in 0 (turns n f s).log) ≡ None
no_conflict n f s s2 a h peace = none (conflict ts) refl (reported ts)
  where
    ts : List Touch
    ts = touches_in 0 (turns n f s).log

    clash : (c : Clash) → IsClash ts c → ⊥
    clash c k =
        let x = turns_told n f s s2 a h (record { place = c.place; iteration = c.first; kind = k.one }) k.has_one in
        let y = turns_told n f s s2 a h (record { place = c.place; iteration = c.second; kind = k.other }) k.has_other in
        let g : true ≡ false =
        sym k.kinds ∙ peace c.first c.second x.0 y.0 (λ e. absurd (omega (arith, k.in_order, e))) k.one k.other c.place x.1 y.1 in
        cc

    none : (o : Option Clash) → conflict ts ≡ o → Reports ts o → conflict ts ≡ None
    none None e r = e
    none (Some c) e r = absurd (clash c r.0)
