-- Classes of names and accesses of small loops compute.
use Rattle.std.specs.Prelude.{◌≡◌, ℕ, true, List, [], ◌∷◌, map, Option, Some, None, refl, codes}
use Rattle.fl_ast.specs.declared.kind.Kind.TheVariants as kind
use Rattle.fl_ast.specs.declared.kind.RelOp.TheVariants.{Gt}
use Rattle.fl_ast.specs.declared.decl.Decl.{Decl}
use Rattle.fl_ast.specs.declared.directive.Directive.{Directive}
use Rattle.fl_ast.specs.Tree.{relation, Statements, assignment, branch, loop, no_arms, arm}
use Rattle.fl_types.specs.declared.access.AccessKind.{AccessKind}
use Rattle.fl_types.specs.declared.access.AccessKind.TheVariants.{Read, Write, Update}
use Rattle.fl_types.specs.declared.access.PathStep.{PathStep}
use Rattle.fl_types.specs.declared.access.PathStep.TheVariants.{Arm, Test, Body}
use Rattle.fl_types.specs.declared.sharing.Sharing.TheVariants.{Shared, Private, Plus, LoopVar}
use Rattle.fl_types.specs.Sharing.{ParallelLoop, loop_of, sharing_of}
use Rattle.fl_types.specs.Accesses.{Occurrence, loop_accesses}
use Rattle.meaning.proofs.Small.{declared, one, name, at, to, into, ◌plus◌, ◌times◌, only, set, clauses, parallel}

abbrev i : List ℕ
i = codes "i"

abbrev j : List ℕ
j = codes "j"

abbrev c : List ℕ
c = codes "c"

abbrev t : List ℕ
t = codes "t"

abbrev s : List ℕ
s = codes "s"

abbrev x : List ℕ
x = codes "x"

abbrev y : List ℕ
y = codes "y"

abbrev decls : List Decl
decls = declared kind.Index i ∷ declared kind.Index j ∷ declared kind.Index c ∷ declared kind.Ring t ∷ declared kind.Ring s ∷ declared kind.Ring x ∷ declared kind.Ring y ∷ []

-- an access as its name, its kind and its path
abbrev shown : Occurrence → List ℕ × AccessKind × List PathStep
shown o = (o.place.name, o.kind, o.path)

abbrev accesses_of : Option ParallelLoop → List (List ℕ × AccessKind × List PathStep)
accesses_of None = []
accesses_of (Some l) = map shown (loop_accesses decls l)

abbrev told : Statements → List (List ℕ × AccessKind × List PathStep)
told body = accesses_of (loop_of body 1)

-- y(c(i)) = y(c(i)) + x(i)*x(i), atomic: both x, then c in the subscript, then y; the first operand is none
pub tally_accesses :
    told (parallel clauses i (one 1) (one 9) (only (assignment 7 true (into y (at c (name i))) (at y (at c (name i)) plus (at x (name i) times at x (name i))))))
    ≡ (x, Read, []) ∷ (x, Read, []) ∷ (c, Read, []) ∷ (y, Update, []) ∷ []
tally_accesses = refl

abbrev mixed : Directive
mixed = record clauses { privates = t ∷ []; pluses = s ∷ [] }

-- if (x(i) > 0) then t = x(i) else if (y(i) > 0) then do j = 1, 2: s = s + y(j) else y(i) = t
abbrev body : Statements
body =
    only (branch 6 (arm (relation Gt (at x (name i)) (one 0)) (only (set 7 (to t) (at x (name i))))
    (arm (relation Gt (at y (name i)) (one 0)) (only (loop 9 2 None j (one 1) (one 2) None (only (set 10 (to s) (name s plus at y (name j)))))) no_arms))
    (only (set 13 (into y (name i)) (name t))))

pub mixed_accesses :
    told (parallel mixed i (one 1) (one 9) body)
    ≡ (x, Read, []) ∷ (x, Read, Arm 1 0 ∷ []) ∷ (y, Read, Test 1 1 ∷ []) ∷ (y, Read, Arm 1 1 ∷ Body 3 ∷ []) ∷ (s, Update, Arm 1 1 ∷ Body 3 ∷ []) ∷ (y, Write, Arm 1 2 ∷ []) ∷ []
mixed_accesses = refl

pub classes :
    map (sharing_of (parallel mixed i (one 1) (one 9) body) 1) (i ∷ j ∷ t ∷ s ∷ x ∷ [])
    ≡ LoopVar ∷ LoopVar ∷ Private ∷ Plus ∷ Shared ∷ []
classes = refl
