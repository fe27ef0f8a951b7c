-- The class of a name in the first loop with a number, found statement by statement.
use Rattle.std.proofs.Common.{◌≡◌, ℕ, Bool, true, false, cond, List, [], ◌∷◌, ◌++◌, Option, Some, None, find, nat_eq, refl, sym, ap, ◌∙◌}
use Rattle.fl_ast.specs.Tree.{Statement, assignment, branch, loop, Statements, no_statements, statement, Arms, no_arms, arm}
use Rattle.fl_types.specs.declared.sharing.Sharing.{Sharing}
use Rattle.fl_types.specs.declared.sharing.Sharing.TheVariants.{Shared}
use Rattle.fl_types.specs.Sharing.{sharing_in, ParallelLoop, loops_of, loops_of_all, loops_of_arms, loop_of, class_of, sharing_of}
use Rattle.fl_types.specs.Surface.{or_class, class_within, class_within_all, class_within_arms}

abbrev pub loop_class : List ℕ → Option ParallelLoop → Option Sharing
loop_class x None = None
loop_class x (Some l) = Some (sharing_in l.var l.directive l.body x)

-- the class in the first of some loops that has the number
abbrev pub first_class : ℕ → List ℕ → List ParallelLoop → Option Sharing
first_class n x ls = loop_class x (find (λ (l : ParallelLoop). nat_eq l.number n) ls)

first_at : (b : Bool) (n : ℕ) (x : List ℕ) (l : ParallelLoop) (ks ls : List ParallelLoop)
    → loop_class x (find (λ (k : ParallelLoop). nat_eq k.number n) (ks ++ ls)) ≡ or_class (loop_class x (find (λ (k : ParallelLoop). nat_eq k.number n) ks)) (first_class n x ls)
    → loop_class x (cond b (Some l) (find (λ (k : ParallelLoop). nat_eq k.number n) (ks ++ ls))) ≡ or_class (loop_class x (cond b (Some l) (find (λ (k : ParallelLoop). nat_eq k.number n) ks))) (first_class n x ls)
first_at true n x l ks ls i = refl
first_at false n x l ks ls i = i

joined : (n : ℕ) (x : List ℕ) (ks ls : List ParallelLoop) → first_class n x (ks ++ ls) ≡ or_class (first_class n x ks) (first_class n x ls)
joined n x [] ls = refl
joined n x (k ∷ ks) ls = first_at (nat_eq k.number n) n x k ks ls (joined n x ks ls)

both : {a b c d : Option Sharing} → a ≡ b → c ≡ d → or_class a c ≡ or_class b d
both {a} {b} {c} {d} h k = ap (λ o. or_class o c) h ∙ ap (or_class b) k

by_number : (b : Bool) (n : ℕ) (x : List ℕ) (l : ParallelLoop) (ls : List ParallelLoop) (later : Option Sharing) → first_class n x ls ≡ later
    → loop_class x (cond b (Some l) (find (λ (k : ParallelLoop). nat_eq k.number n) ls)) ≡ or_class (cond b (Some (sharing_in l.var l.directive l.body x)) None) later
by_number true n x l ls later i = refl
by_number false n x l ls later i = i

mutual
  class_in : (n : ℕ) (x : List ℕ) (outer : List (List ℕ)) (s : Statement) → first_class n x (loops_of outer s) ≡ class_within n x s
  class_in n x outer (assignment line atomic target value) = refl
  class_in n x outer (branch line arms other) =
      joined n x (loops_of_arms outer arms) (loops_of_all outer other) ∙ both (class_in_arms n x outer arms) (class_in_all n x outer other)
  class_in n x outer (loop line number None var first last step body) = class_in_all n x (var ∷ outer) body
  class_in n x outer (loop line number (Some d) var first last step body) =
      by_number (nat_eq number n) n x (record { line = line; number = number; outer = outer; directive = d; var = var; body = body }) (loops_of_all (var ∷ outer) body)
      (class_within_all n x body) (class_in_all n x (var ∷ outer) body)

  class_in_all : (n : ℕ) (x : List ℕ) (outer : List (List ℕ)) (ss : Statements) → first_class n x (loops_of_all outer ss) ≡ class_within_all n x ss
  class_in_all n x outer no_statements = refl
  class_in_all n x outer (statement s ss) = joined n x (loops_of outer s) (loops_of_all outer ss) ∙ both (class_in n x outer s) (class_in_all n x outer ss)

  class_in_arms : (n : ℕ) (x : List ℕ) (outer : List (List ℕ)) (arms : Arms) → first_class n x (loops_of_arms outer arms) ≡ class_within_arms n x arms
  class_in_arms n x outer no_arms = refl
  class_in_arms n x outer (arm test body arms) = joined n x (loops_of_all outer body) (loops_of_arms outer arms) ∙ both (class_in_all n x outer body) (class_in_arms n x outer arms)

abbrev pub shared_or : Option Sharing → Sharing
shared_or None = Shared
shared_or (Some c) = c

class_or : (x : List ℕ) (o : Option ParallelLoop) → class_of o x ≡ shared_or (loop_class x o)
class_or x None = refl
class_or x (Some l) = refl

-- the class of a name is the one that is found, and none is that of a shared name
pub class_is : (body : Statements) (n : ℕ) (x : List ℕ) (o : Option Sharing) → o ≡ class_within_all n x body → sharing_of body n x ≡ shared_or o
class_is body n x o h = class_or x (loop_of body n) ∙ ap shared_or (class_in_all n x [] body ∙ sym h)
