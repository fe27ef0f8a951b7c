-- The head of the loop that a parallel loop is collapsed with.
use Rattle.std.specs.Prelude.{◌≡◌, Bool, true, List, Some, refl}
use Rattle.fl_ast.specs.Tree.{Statement, assignment, branch, loop}
use Rattle.fl_types.specs.Nests.{Head, is_plain_loop, head_of}
use Rattle.resolved.specs.SlotTables.{Names}
use Rattle.sweep_steps.specs.Steps.{HeadTree}
use Rattle.sweep_steps.specs.StepsStand.{HeadStands, InnerStands}

pub head_stands : (names : Names) (flags : List Bool) (s : Statement) (t : HeadTree) → is_plain_loop s ≡ true → ((h : Head) → head_of s ≡ Some h → HeadStands names flags h t)
    → InnerStands names flags (head_of s) (Some t)
head_stands names flags (assignment line atomic p e) t h f = absurd (cc)
head_stands names flags (branch line arms other) t h f = absurd (cc)
head_stands names flags (loop line number directive var first last step body) t h f = f _ refl
