-- Loops by their numbers.
use Rattle.std.specs.Prelude.{◌≡◌, ℕ, Bool, List, [], Some}
use Rattle.std.specs.List.{AllByRecursion}
use Rattle.fl_ast.specs.declared.stmt.Program.{Program}
use Rattle.fl_ast.specs.Tree.{stmt_trees}
use Rattle.fl_types.specs.WellTyped.{IsTyped}
use Rattle.index_forms.specs.Loops.{HeadedLoop, headed_loops_of_all}
use Rattle.certificate_rules.specs.Surveys.{numbered}
use Rattle.loop_pairs.specs.Known.{known_loop, known_of}

-- what is known of each parallel loop of a typed program stands at the loop's number
abbrev pub LoopsStand : Type 0
LoopsStand =
    (p : Program) (active : List ℕ → Bool) → IsTyped p →
    AllByRecursion (λ (l : HeadedLoop). numbered (known_of p active) l.loop.number ≡ Some (Some (known_loop p.decls active l))) (headed_loops_of_all [] (stmt_trees p.body))
