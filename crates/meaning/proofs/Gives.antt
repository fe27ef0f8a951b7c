-- What holds of each value that a run gives, put together along binds.
use Rattle.std.specs.Prelude.{◌≡◌, ℕ, zero, suc, ◌<◌, Bool, true, false, if◌then◌else◌, List, Option, Result, Ok, Err, refl}
use Rattle.std.proofs.Common.{ap, subst, arith}
use Rattle.fl_types.specs.declared.access.AccessKind.{AccessKind}
use Rattle.meaning.specs.declared.value.Value.{Value}
use Rattle.meaning.specs.declared.value.Cause.{Cause}
use Rattle.meaning.specs.Logs.{Log, single, pushes, touched, Traced, after, continuation, ◌>>=◌, at_line, at_line_by}
use Rattle.meaning.specs.Sites.{Cells, with_tangent, Site}
use Rattle.meaning.specs.Expressions.{after_touch}
use Rattle.meaning.specs.Statements.{Run, after_push, turns}

abbrev pub Given : {X A : Type 0} → Result A X → (A → Type 0) → Type 0
Given {X} {A} r P = (a : A) → r ≡ Ok a → P a

abbrev pub Gives : {X A : Type 0} → Traced X A → (A → Type 0) → Type 0
Gives {X} {A} t P = Given t.out P

pub gives_value : {X A : Type 0} (a : A) (P : A → Type 0) → P a → Given {X = X} {A = A} (Ok a) P
gives_value a P h b e = let q : a ≡ b = cc in subst P q h

pub gives_none : {X A : Type 0} (x : X) (P : A → Type 0) → Given {X = X} {A = A} (Err x) P
gives_none x P b e = cc

joined_gives : {X A B : Type 0} (l : Log) (r : Result A X) (f : A → Traced X B) (P : B → Type 0) → ((a : A) → r ≡ Ok a → Gives (f a) P) → Gives (continuation l r f) P
joined_gives l (Ok a) f P h b e = h a refl b e
joined_gives l (Err x) f P h b e = cc

pub then_gives : {X A B : Type 0} (t : Traced X A) (f : A → Traced X B) (P : B → Type 0) → ((a : A) → t.out ≡ Ok a → Gives (f a) P) → Gives (t >>= f) P
then_gives t f P h = joined_gives t.log t.out f P h

line_by_gives : {A : Type 0} (line : ℕ) (l : Log) (r : Result A Cause) (P : A → Type 0) → Given r P → Gives (at_line_by line l r) P
line_by_gives line l (Ok a) P h b e = h b (let q : a ≡ b = cc in ap Ok q)
line_by_gives line l (Err c) P h b e = cc

pub line_gives : {A : Type 0} (line : ℕ) (t : Traced Cause A) (P : A → Type 0) → Gives t P → Gives (at_line line t) P
line_gives line t P h = line_by_gives line t.log t.out P h

pub touching_gives : {X A : Type 0} (s : Site) (x : List ℕ) (p : ℕ) (kind : AccessKind) (t : Traced X A) (P : A → Type 0) → Gives t P → Gives (after_touch s x p kind t) P
touching_gives {X} {A} s x p kind t P h = by_test (s.accessed x)
  where
    by_test : (b : Bool) → Gives (if b then after (touched p kind) t else t) P
    by_test true = h
    by_test false = h

pub saving_gives : {X A : Type 0} (s : Site) (x : List ℕ) (old : Option Value) (t : Traced X A) (P : A → Type 0) → Gives t P → Gives (after_push s x old t) P
saving_gives {X} {A} s x old t P h = by_test (s.pushed x)
  where
    by_test : (b : Bool) → Gives (if b then after (single (pushes (with_tangent 0 old))) t else t) P
    by_test true = h
    by_test false = h

-- what each turn keeps, all turns keep
pub turns_give : (n : ℕ) (f : ℕ → Run) (P : Cells → Type 0) → ((k : ℕ) → k < n → (c : Cells) → P c → Gives (f k c) P) → (c : Cells) → P c → Gives (turns n f c) P
turns_give zero f P h c p = gives_value c P p
turns_give (suc n) f P h c p =
    then_gives (turns n f c) (f n) P (λ b e. h n (omega arith) b (turns_give n f P (λ k i. h k (omega arith)) c p b e))
