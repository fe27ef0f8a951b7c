-- An iteration that comes to an access comes to those that stand on the path to it.
use Rattle.std.specs.Prelude.{◌≡◌, ℕ, true, List, [], ◌++◌, Ok}
use Rattle.fl_ast.specs.Tree.{Statements}
use Rattle.fl_types.specs.declared.access.PathStep.{PathStep}
use Rattle.fl_types.specs.Accesses.{Occurrence, accesses_all}
use Rattle.fl_types.specs.Nests.{iteration_body}
use Rattle.fl_types.specs.Sharing.{ParallelLoop}
use Rattle.meaning.specs.Sites.{Cells, Site, in_iteration}
use Rattle.meaning.specs.Statements.{Heads, run_all}
use Rattle.meaning.specs.Sequential.{are_sequential}
use Rattle.meaning.specs.Touches.{scope_at}
use Rattle.meaning.specs.Groups.{Group, groups_of_all, iteration_of, groups_of_iteration}
use Rattle.index_law.specs.Meetings.{In}

-- the first path is the beginning of the second
abbrev pub LeadsTo : (p q : List PathStep) → Type 0
LeadsTo p q = (r : List PathStep) × (q ≡ p ++ r)

-- the access is one of an evaluated group
abbrev pub IsAmong : Occurrence → List Group → Type 0
IsAmong o gs = (g : Group) × In g gs × In o g.accesses

-- along statements that went through
abbrev pub PathsAreFollowed : Type 0
PathsAreFollowed =
    (n : ℕ) (path : List PathStep) (body : Statements) (site : Site) (cells d : Cells) → are_sequential body ≡ true → (run_all body site cells).out ≡ Ok d →
    (o q : Occurrence) → In o (accesses_all (scope_at site) n path body) → IsAmong q (groups_of_all n path body site cells) → LeadsTo o.path q.path → IsAmong o (groups_of_all n path body site cells)

-- in an iteration that went through
abbrev pub IterationsFollowPaths : Type 0
IterationsFollowPaths =
    (site : Site) (l : ParallelLoop) (heads : Heads) (k : ℕ) (cells d : Cells) → are_sequential (iteration_body l.directive l.body) ≡ true → (iteration_of site l heads k cells).out ≡ Ok d →
    (o q : Occurrence) → In o (accesses_all (scope_at (in_iteration site l.directive l.var l.body)) 1 [] (iteration_body l.directive l.body)) →
    IsAmong q (groups_of_iteration site l heads k cells) → LeadsTo o.path q.path → IsAmong o (groups_of_iteration site l heads k cells)
