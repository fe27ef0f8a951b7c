-- The paths of spots, by the numbers of their steps.
use Rattle.std.proofs.Common.{◌≡◌, ℕ, zero, suc, ◌+◌, ◌<◌, ◌≤◌, ◌⊎◌, List, [], ◌∷◌, ◌++◌, length, refl, ap, sym, ◌∙◌, arith, append_assoc}
use mathlib.Core.Logic.{inl, inr}
use Rattle.fl_ast.specs.Tree.{Statement, assignment, branch, loop, Statements, no_statements, statement, Arms, no_arms, arm}
use Rattle.fl_types.specs.declared.access.PathStep.{PathStep}
use Rattle.fl_types.specs.declared.access.PathStep.TheVariants.{Arm, Test, Body}
use Rattle.fl_types.specs.Accesses.{condition_reads, accesses, accesses_all, statement_count, statements_count, test_path}
use Rattle.meaning.proofs.GroupReadings.{append_nil}
use Rattle.index_forms.specs.Formed.{Known}
use Rattle.index_forms.specs.Loops.{written_in}
use Rattle.index_forms.specs.Walk.{Setting, without, known_after, known_inside}
use Rattle.index_law.specs.Meetings.{In}
use Rattle.index_law.proofs.GroupKeys.{split, by_side}
use Rattle.index_law.proofs.Shapes.{number_of, AtNumber, FromNumber, FromArm}
use Rattle.apart_law.specs.Spots.{Spot, Rest, bounds_accesses, spots_of, spots_in, spots_in_arms}

abbrev pub Beneath : (List PathStep → Type 0) → List PathStep → Spot → Type 0
Beneath P path x = (r : List PathStep) × (x.path ≡ path ++ r) × P r

pub joined : (path : List PathStep) (t : PathStep) (r : List PathStep) → (path ++ t ∷ []) ++ r ≡ path ++ t ∷ r
joined path t r = simp append_assoc

pub beneath_here : (P : List PathStep → Type 0) (path : List PathStep) (x : Spot) → P [] → path ≡ x.path → Beneath P path x
beneath_here P path x h e = ([], sym e ∙ sym (append_nil path), h)

pub beneath_deeper : (P Q : List PathStep → Type 0) (path : List PathStep) (t : PathStep) (x : Spot) → ((r : List PathStep) → P r → Q (t ∷ r)) → Beneath P (path ++ t ∷ []) x → Beneath Q path x
beneath_deeper P Q path t x f u = (t ∷ u.0, u.1 ∙ joined path t u.0, f u.0 u.2)

pub beneath_weaker : (P Q : List PathStep → Type 0) (path : List PathStep) (x : Spot) → ((r : List PathStep) → P r → Q r) → Beneath P path x → Beneath Q path x
beneath_weaker P Q path x f u = (u.0, u.1, f u.0 u.2)

pub arm_number : (n : ℕ) (r : List PathStep) → FromArm n 0 r → AtNumber n r
arm_number n [] h = tt
arm_number n (t ∷ r) h = h.0

pub later_arm : (n m : ℕ) (r : List PathStep) → FromArm n (m + 1) r → FromArm n m r
later_arm n m [] h = absurd (omega (arith, h))
later_arm n m (t ∷ r) h = let i = h.1 in (h.0, omega (arith, i))

pub at_from : (n : ℕ) (r : List PathStep) → AtNumber n r → FromNumber n r
at_from n [] h = tt
at_from n (t ∷ r) h = omega (arith, h)

pub later_from : (n k : ℕ) (r : List PathStep) → FromNumber (n + k) r → FromNumber n r
later_from n k [] h = tt
later_from n k (t ∷ r) h = omega (arith, h)

pub in_this_arm : (n m : ℕ) (r : List PathStep) → FromArm n m (Arm n m ∷ r)
in_this_arm n m r = (refl, omega arith)

pub test_beneath : (n m : ℕ) (path : List PathStep) (x : Spot) → test_path path n m ≡ x.path → Beneath (FromArm n m) path x
test_beneath n zero path x e = beneath_here (FromArm n zero) path x refl e
test_beneath n (suc m) path x e = (Test n (suc m) ∷ [], sym e, (refl, omega arith))

first_path : (x y : Spot) → x ≡ y → x.path ≡ y.path
first_path x y e = ap (λ (z : Spot). z.path) e

module _ (c : Setting) where
  mutual
    pub beneath_one : (n : ℕ) (k : Known) (path : List PathStep) (a : ℕ) (s : Statement) (x : Spot) → In x (spots_of c n k path a s) → Beneath (AtNumber n) path x
    beneath_one n k path a (assignment line atomic p e) x (inl d) = beneath_here (AtNumber n) path x tt (first_path _ x d)
    beneath_one n k path a (assignment line atomic p e) x (inr h) = absurd h
    beneath_one n k path a (branch line arms other) x h =
        beneath_weaker (FromArm n 0) (AtNumber n) path x (arm_number n)
        (beneath_arms line n (n + 1) 0 k path a arms (λ j h steps b. spots_in c j h steps b other) x (λ j g steps b m. beneath_all j g steps b other x m) h)
    beneath_one n k path a (loop line number directive var low high step body) x (inl d) = beneath_here (AtNumber n) path x tt (first_path _ x d)
    beneath_one n k path a (loop line number directive var low high step body) x (inr h) =
        beneath_deeper (FromNumber (n + 1)) (AtNumber n) path (Body n) x (λ r w. refl)
        (beneath_all (n + 1) (known_inside c.side number var body k) (path ++ Body n ∷ []) (a + length (bounds_accesses c.scope line path low high step)) body x h)

    pub beneath_all : (n : ℕ) (k : Known) (path : List PathStep) (a : ℕ) (ss : Statements) (x : Spot) → In x (spots_in c n k path a ss) → Beneath (FromNumber n) path x
    beneath_all n k path a no_statements x h = absurd h
    beneath_all n k path a (statement s ss) x h =
        by_side (Beneath (FromNumber n) path x) (split x (spots_of c n k path a s) (spots_in c (n + statement_count s) (known_after c.side n s k) path (a + length (accesses c.scope n path s)) ss) h)
        (λ m. beneath_weaker (AtNumber n) (FromNumber n) path x (at_from n) (beneath_one n k path a s x m))
        (λ m. beneath_weaker (FromNumber (n + statement_count s)) (FromNumber n) path x (later_from n (statement_count s)) (beneath_all (n + statement_count s) (known_after c.side n s k) path (a + length (accesses c.scope n path s)) ss x m))

    pub beneath_arms : (line n j m : ℕ) (k : Known) (path : List PathStep) (a : ℕ) (arms : Arms) (other : Rest) (x : Spot) →
        ((i : ℕ) (h : Known) (steps : List PathStep) (b : ℕ) → In x (other i h steps b) → Beneath (FromNumber i) steps x) → In x (spots_in_arms c line n j m k path a arms other) → Beneath (FromArm n m) path x
    beneath_arms line n j m k path a no_arms other x f h = beneath_deeper (FromNumber j) (FromArm n m) path (Arm n m) x (λ r w. in_this_arm n m r) (f j k (path ++ Arm n m ∷ []) a h)
    beneath_arms line n j m k path a (arm test body arms) other x f (inl d) = test_beneath n m path x (first_path _ x d)
    beneath_arms line n j m k path a (arm test body arms) other x f (inr h) =
        let tests = condition_reads c.scope line (test_path path n m) test in
        let inner = accesses_all c.scope j (path ++ Arm n m ∷ []) body in
        let own = spots_in c j k (path ++ Arm n m ∷ []) (a + length tests) body in
        let behind = spots_in_arms c line n (j + statements_count body) (m + 1) (without (written_in body) k) path (a + length tests + length inner) arms other in
        by_side (Beneath (FromArm n m) path x) (split x own behind h)
        (λ z. beneath_deeper (FromNumber j) (FromArm n m) path (Arm n m) x (λ r y. in_this_arm n m r) (beneath_all j k (path ++ Arm n m ∷ []) (a + length tests) body x z))
        (λ z. beneath_weaker (FromArm n (m + 1)) (FromArm n m) path x (later_arm n m) (beneath_arms line n (j + statements_count body) (m + 1) (without (written_in body) k) path (a + length tests + length inner) arms other x f z))

-- ---- paths

pub same_head : (t u : PathStep) (p q : List PathStep) → t ∷ p ≡ u ∷ q → t ≡ u
same_head t u p q e = cc

same_tail : (t u : PathStep) (p q : List PathStep) → t ∷ p ≡ u ∷ q → p ≡ q
same_tail t u p q e = cc

cancel : (path r s : List PathStep) → path ++ r ≡ path ++ s → r ≡ s
cancel [] r s e = e
cancel (t ∷ path) r s e = cancel path r s (same_tail t t (path ++ r) (path ++ s) e)

-- the steps behind a common path
pub rests : (path a b r p q : List PathStep) → p ≡ path ++ a → q ≡ path ++ b → q ≡ p ++ r → b ≡ a ++ r
rests path a b r p q e f g = cancel path b (a ++ r) (sym f ∙ (g ∙ (ap (λ (w : List PathStep). w ++ r) e ∙ simp append_assoc)))

pub counted : (s : Statement) → 1 ≤ statement_count s
counted (assignment line atomic p e) = omega arith
counted (branch line arms other) = omega arith
counted (loop line number d var low high step body) = omega arith

-- no step into one of these statements
abbrev pub Outside : (lo hi : ℕ) → List PathStep → Type 0
Outside lo hi [] = Unit {0}
Outside lo hi (t ∷ ts) = (number_of t < lo) ⊎ (hi ≤ number_of t)

pub outside_first : (lo hi mid : ℕ) → mid ≤ hi → (ts : List PathStep) → Outside lo hi ts → Outside lo mid ts
outside_first lo hi mid l [] h = tt
outside_first lo hi mid l (t ∷ ts) (inl h) = inl h
outside_first lo hi mid l (t ∷ ts) (inr h) = inr (omega (arith, h, l))

pub outside_second : (lo hi mid : ℕ) → lo ≤ mid → (ts : List PathStep) → Outside lo hi ts → Outside mid hi ts
outside_second lo hi mid l [] h = tt
outside_second lo hi mid l (t ∷ ts) (inl h) = inl (omega (arith, h, l))
outside_second lo hi mid l (t ∷ ts) (inr h) = inr h

pub outside_behind : (n lo hi : ℕ) → n < lo → (ts : List PathStep) → AtNumber n ts → Outside lo hi ts
outside_behind n lo hi l [] h = tt
outside_behind n lo hi l (t ∷ ts) h = inl (omega (arith, h, l))

pub outside_before : (lo hi : ℕ) (ts : List PathStep) → FromNumber hi ts → Outside lo hi ts
outside_before lo hi [] h = tt
outside_before lo hi (t ∷ ts) h = inr h

-- what stands at a step into a statement isn't on a path that doesn't step into it
pub not_outside : (n lo hi : ℕ) (t : PathStep) → number_of t ≡ n → lo ≤ n → n < hi → (r b tail : List PathStep) → tail ≡ (t ∷ b) ++ r → Outside lo hi tail → ⊥
not_outside n lo hi t e l u r b [] q o = cc
not_outside n lo hi t e l u r b (y ∷ ys) q (inl o) = let i : number_of y ≡ number_of t = ap number_of (same_head y t ys (b ++ r) q) in omega (arith, i, e, l, o)
not_outside n lo hi t e l u r b (y ∷ ys) q (inr o) = let i : number_of y ≡ number_of t = ap number_of (same_head y t ys (b ++ r) q) in omega (arith, i, e, u, o)
