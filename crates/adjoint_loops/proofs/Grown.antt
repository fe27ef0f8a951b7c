-- Lists of statements that grow.
use Rattle.std.proofs.Common.{◌≡◌, ◌≤◌, ℕ, zero, suc, arith, Bool, true, false, if◌then◌else◌, List, [], ◌∷◌, ◌++◌, length, map, filter, reverse, drop, drop_of_length-le, Option, Some, None, Result, Ok, Err, IfOk, IsOkAnd, OnOk, refl, ap, sym, ◌∙◌, append_assoc}
use Rattle.std.proofs.lemmas.List.{append-nil, map-append, reverse-append}
use Rattle.fl_ast.specs.declared.adjoint.AStmt.{AStmt}
use Rattle.fl_ast.specs.declared.directive.Directive.{Directive}
use Rattle.fl_ast.specs.Tree.{Expression, expr_tree}
use Rattle.fl_ast.specs.AdjointTree.{AdjointStatement, astmt_tree, pop}
use Rattle.adjoint_rules.specs.Bounds.{LoopHead, lo, hi, by, loop_over, loops_around}
use Rattle.adjoint_rules.specs.OwnNames.{scalar, value, k_name}
use Rattle.adjoint_rules.specs.Expressions.{cleared}
use Rattle.loop_bounds.specs.declared.head.LoopHead as Code
use Rattle.adjoint_loops.specs.declared.around.Front.{Front}
use Rattle.adjoint_loops.specs.Further.{heads_of}
use Rattle.adjoint_loops.specs.Fronts.{looped, within}

pub on_ok : {X E : Type 0} {P Q : Type 0} (r : Result X E) → (P → Q) → OnOk r P → OnOk r Q
on_ok (Ok x) f p = f p
on_ok (Err e) f p = tt

pub one : (s t : List AStmt) (a : AStmt) (x : AdjointStatement) → t ≡ s ++ a ∷ [] → astmt_tree a ≡ x → map astmt_tree t ≡ map astmt_tree s ++ x ∷ []
one s t a x e h = ap (map astmt_tree) e ∙ (map-append astmt_tree s (a ∷ []) ∙ ap (λ y. map astmt_tree s ++ y ∷ []) h)

-- twice, and three times
pub twice : {X : Type 0} (old mid new a b : List X) → mid ≡ old ++ a → new ≡ mid ++ b → new ≡ old ++ (a ++ b)
twice old mid new a b m n = n ∙ (rw m (append_assoc old a b))

pub thrice : {X : Type 0} (old mid next new a b c : List X) → mid ≡ old ++ a → next ≡ mid ++ b → new ≡ next ++ c → new ≡ old ++ (a ++ (b ++ c))
thrice old mid next new a b c m n o = twice old next new (a ++ b) c (twice old mid next a b m n) o ∙ ap (λ r. old ++ r) (append_assoc a b c)

-- a loop over all elements
pub finished : {X Y : Type 0} (f : List X → List Y) → f [] ≡ [] → (xs : List X) (i : ℕ) (all old : List Y)
    → all ++ f (drop i xs) ≡ old ++ f xs → length xs ≤ i → all ≡ old ++ f xs
finished f z xs i all old e h = sym (append-nil all) ∙ (ap (λ r. all ++ r) (sym (ap f (drop_of_length-le xs h) ∙ z)) ∙ e)

-- the clears, name by name
abbrev pub clears : (List ℕ → Bool) → ℕ → List (List ℕ) → List AdjointStatement
clears on line [] = []
clears on line (x ∷ xs) = (if on x then cleared line (scalar x) ∷ [] else []) ++ clears on line xs

pub clears_are : (on : List ℕ → Bool) (line : ℕ) (xs : List (List ℕ)) → clears on line xs ≡ map (λ x. cleared line (scalar x)) (filter on xs)
clears_are on line [] = refl
clears_are on line (x ∷ xs) = by_test (on x) (clears_are on line xs)
  where
    by_test : (b : Bool) → clears on line xs ≡ map (λ x. cleared line (scalar x)) (filter on xs)
        → (if b then cleared line (scalar x) ∷ [] else []) ++ clears on line xs ≡ map (λ x. cleared line (scalar x)) (if b then x ∷ filter on xs else filter on xs)
    by_test true h = ap (λ r. cleared line (scalar x) ∷ r) h
    by_test false h = h

-- the pops, from the last name to the first
abbrev pub pops_of : ℕ → List (List ℕ) → List AdjointStatement
pops_of line [] = []
pops_of line (x ∷ xs) = pops_of line xs ++ pop line (value k_name) (scalar x) ∷ []

pub pops_are : (line : ℕ) (xs : List (List ℕ)) → pops_of line xs ≡ map (λ x. pop line (value k_name) (scalar x)) (reverse xs)
pops_are line [] = refl
pops_are line (x ∷ xs) =
    ap (λ r. r ++ pop line (value k_name) (scalar x) ∷ []) (pops_are line xs)
    ∙ (sym (map-append (λ x. pop line (value k_name) (scalar x)) (reverse xs) (x ∷ [])) ∙ ap (map (λ x. pop line (value k_name) (scalar x))) (sym (reverse-append (x ∷ []) xs)))

pub all_popped : (line i : ℕ) (xs : List (List ℕ)) (old now : List AdjointStatement) → i ≤ 0 → now ≡ old ++ pops_of line (drop i xs)
    → now ≡ old ++ map (λ x. pop line (value k_name) (scalar x)) (reverse xs)
all_popped line zero xs old now h e = e ∙ ap (λ r. old ++ r) (pops_are line xs)
all_popped line (suc i) xs old now h e = absurd (omega (arith, h))

-- the start of an iteration's reverse
pub started : (on : List ℕ → Bool) (line : ℕ) (n : AdjointStatement) (names ps privates qs : List (List ℕ)) (old one two new : List AdjointStatement)
    → names ≡ ps → privates ≡ qs → one ≡ old ++ n ∷ [] → two ≡ one ++ map (λ x. pop line (value k_name) (scalar x)) (reverse names)
    → new ≡ two ++ map (λ x. cleared line (scalar x)) (filter on privates)
    → new ≡ old ++ n ∷ (map (λ x. pop line (value k_name) (scalar x)) (reverse ps) ++ map (λ x. cleared line (scalar x)) (filter on qs))
started on line n names ps privates qs old one two new p q a b c =
    thrice old one two new (n ∷ []) (map (λ x. pop line (value k_name) (scalar x)) (reverse names)) (map (λ x. cleared line (scalar x)) (filter on privates)) a b c
    ∙ rw (p, q) refl

-- ---- loops around

pub looped_is : (h : LoopHead) (f : Front) (first last step : Expression) → f.var ≡ h.var → expr_tree f.first ≡ first → expr_tree f.last ≡ last → expr_tree f.step ≡ step
    → (d : Option Directive) → (body : List AdjointStatement) → looped d h f body ≡ loop_over d h first last step body
looped_is h f first last step a b c e d body = rw (a, b, c, e) refl

pub by_front : {E : Type 0} (r : Result Front E) (h : LoopHead) (first last step : Expression) (body : List AdjointStatement) (old new : List AdjointStatement)
    → IfOk r (λ f. (d : Option Directive) → (body : List AdjointStatement) → looped d h f body ≡ loop_over d h first last step body)
    → IsOkAnd r (λ f. new ≡ old ++ looped None h f body ∷ []) → new ≡ old ++ loop_over None h first last step body ∷ []
by_front (Ok f) h first last step body old new g e = e ∙ ap (λ s. old ++ s ∷ []) (g None body)
by_front (Err x) h first last step body old new g e = absurd e

-- two loops, or one
pub around_is : (d : Option Directive) (h : LoopHead) (further : Option Code.LoopHead) (body : List AdjointStatement)
    → loop_over d h (lo h) (hi h) (by h) (within (heads_of further) body) ≡ loops_around d h (heads_of further) body
around_is d h None body = refl
around_is d h (Some g) body = refl

pub around : (d : Option Directive) (h : LoopHead) (further : Option Code.LoopHead) (f : Front) (inner body : List AdjointStatement) (s : AdjointStatement)
    → inner ≡ within (heads_of further) body → ((d : Option Directive) → (body : List AdjointStatement) → looped d h f body ≡ loop_over d h (lo h) (hi h) (by h) body)
    → s ≡ looped d h f inner → s ≡ loops_around d h (heads_of further) body
around d h further f inner body s i g e = e ∙ (g d inner ∙ (ap (loop_over d h (lo h) (hi h) (by h)) i ∙ around_is d h further body))
