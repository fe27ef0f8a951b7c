-- The active and the needed names of a program.
use Rattle.std.specs.Prelude.{ℕ, Bool, ◌&&◌, List, map}
use Rattle.fl_ast.specs.declared.stmt.Program.{Program}
use Rattle.fl_ast.specs.Tree.{stmt_trees}
use Rattle.activity.specs.Active.{program_flows, turned}
use Rattle.adjoint_rules.specs.Needed.{kinds_of, read_by_all, restorings_in}
use Rattle.adjoint_sets.specs.Reach.{is_reached_name}

-- data flows to the name from one of `wrt`, and from it to one of `of`
unfoldable pub is_active : Program → (of wrt : List (List ℕ)) → List ℕ → Bool
is_active p of wrt x = is_reached_name p.decls wrt (program_flows p) x && is_reached_name p.decls of (map turned (program_flows p)) x

-- the reverse part reads the name's value, or needs it to restore one that it reads
unfoldable pub is_needed : Program → (List ℕ → Bool) → List ℕ → Bool
is_needed p active = is_reached_name p.decls (read_by_all (kinds_of p active) (stmt_trees p.body)) (restorings_in (kinds_of p active) (stmt_trees p.body))
