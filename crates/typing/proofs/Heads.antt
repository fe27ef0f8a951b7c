-- The first fault of names and numbers, one after the other.
use Rattle.std.proofs.Common.{◌≡◌, ℕ, Bool, true, false, if◌then◌else◌, List, [], ◌∷◌, ◌++◌, flat_map, slice_get, option_map, Option, Some, None, refl, sym, ap, ◌∙◌}
use Rattle.fl_ast.specs.declared.stmt.Program.{Program}
use Rattle.fl_types.specs.declared.typed.TypeError.{TypeError}
use Rattle.fl_types.specs.Mentions.{Mention}
use Rattle.fl_types.specs.Rows.{when, faults_at}
use Rattle.typing.specs.declared.rule.Rule.{Rule}
use Rattle.typing.specs.Errors.{error_by, error_of}
use Rattle.typing.specs.Firsts.{or_later, told}
use Rattle.typing.specs.Views.{Told}

-- the error of what is told
pub error : Option Told → Option TypeError
error t = option_map error_of t

pub error_none : error None ≡ None
unfolding error
error_none = refl

pub error_some : (t : Told) → error (Some t) ≡ Some (error_of t)
unfolding error
error_some t = refl

pub error_or : (a b : Option Told) → error (or_later a b) ≡ or_later (error a) (error b)
unfolding error
error_or None b = refl
error_or (Some t) b = refl

-- the first fault at some names and numbers
pub head : Program → List Mention → Option TypeError
head p ms = slice_get (flat_map (faults_at p) ms) 0

pub head_is : (p : Program) (ms : List Mention) → head p ms ≡ slice_get (flat_map (faults_at p) ms) 0
unfolding head
head_is p ms = refl

head_joined : (xs ys : List TypeError) → slice_get (xs ++ ys) 0 ≡ or_later (slice_get xs 0) (slice_get ys 0)
head_joined [] ys = refl
head_joined (x ∷ xs) ys = refl

pub head_nil : (p : Program) → head p [] ≡ None
unfolding head
head_nil p = refl

pub head_cons : (p : Program) (m : Mention) (ms : List Mention) → head p (m ∷ ms) ≡ or_later (slice_get (faults_at p m) 0) (head p ms)
unfolding head
head_cons p m ms = head_joined (faults_at p m) (flat_map (faults_at p) ms)

or_grouped : {A : Type 0} (a b c : Option A) → or_later a (or_later b c) ≡ or_later (or_later a b) c
or_grouped None b c = refl
or_grouped (Some x) b c = refl

pub or_none : {A : Type 0} (a : Option A) → or_later a None ≡ a
or_none None = refl
or_none (Some x) = refl

pub head_append : (p : Program) (ms ns : List Mention) → head p (ms ++ ns) ≡ or_later (head p ms) (head p ns)
head_append p [] ns = ap (λ h. or_later h (head p ns)) (sym (head_nil p))
head_append p (m ∷ ms) ns =
    head_cons p m (ms ++ ns) ∙ (ap (or_later (slice_get (faults_at p m) 0)) (head_append p ms ns)
    ∙ (or_grouped (slice_get (faults_at p m) 0) (head p ms) (head p ns) ∙ ap (λ h. or_later h (head p ns)) (sym (head_cons p m ms))))

pub head_one : (p : Program) (m : Mention) → head p (m ∷ []) ≡ slice_get (faults_at p m) 0
head_one p m = head_cons p m [] ∙ (ap (or_later (slice_get (faults_at p m) 0)) (head_nil p) ∙ or_none (slice_get (faults_at p m) 0))

-- two parts, one after the other
pub both : (p : Program) (a b : Option Told) (ms ns : List Mention) → error a ≡ head p ms → error b ≡ head p ns → error (or_later a b) ≡ head p (ms ++ ns)
both p a b ms ns h k = error_or a b ∙ (ap (λ x. or_later x (error b)) h ∙ (ap (or_later (head p ms)) k ∙ sym (head_append p ms ns)))

pub first_then : (p : Program) (a b : Option Told) (m : Mention) (ms : List Mention) → error a ≡ slice_get (faults_at p m) 0 → error b ≡ head p ms → error (or_later a b) ≡ head p (m ∷ ms)
first_then p a b m ms h k =
    error_or a b ∙ (ap (λ x. or_later x (error b)) h ∙ (ap (or_later (slice_get (faults_at p m) 0)) k ∙ sym (head_cons p m ms)))

pub alone : (p : Program) (a : Option Told) (m : Mention) → error a ≡ slice_get (faults_at p m) 0 → error a ≡ head p (m ∷ [])
alone p a m h = h ∙ sym (head_one p m)

-- ---- one rule, and those behind it

pub none_left : (line : ℕ) (x : List ℕ) → error (told line x None) ≡ None
unfolding error
none_left line x = refl

pub rule_first : (b : Bool) (r : Rule) (line : ℕ) (x : List ℕ) (rest : Option Rule) (fs : List TypeError)
    → error (told line x rest) ≡ slice_get fs 0 → error (told line x (if b then Some r else rest)) ≡ slice_get (when b (error_by r line x) ++ fs) 0
unfolding error
rule_first true r line x rest fs h = refl
rule_first false r line x rest fs h = h

pub rule_then : (b : Bool) (r : Rule) (line : ℕ) (x : List ℕ) (rest later : Option Rule) (fs : List TypeError)
    → error (told line x (or_later rest later)) ≡ slice_get fs 0
    → error (told line x (or_later (if b then Some r else rest) later)) ≡ slice_get (when b (error_by r line x) ++ fs) 0
unfolding error
rule_then true r line x rest later fs h = refl
rule_then false r line x rest later fs h = h

pub rule_last : (b : Bool) (r : Rule) (line : ℕ) (x : List ℕ)
    → error (told line x (if b then Some r else None)) ≡ slice_get (when b (error_by r line x)) 0
unfolding error
rule_last true r line x = refl
rule_last false r line x = refl
