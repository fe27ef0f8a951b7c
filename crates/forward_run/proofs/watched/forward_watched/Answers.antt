use Rattle.std.proofs.Common.{ℕ, List}
use Rattle.fl_ast.specs.Tree.{program_tree}
use Rattle.fl_types.specs.Sharing.{has_name}
use Rattle.store_core.specs.Filled.{place_words}
use Rattle.forward_run.proofs.watched.forward_watched.Goals as goal

pub returns : goal.returns
returns g c =
    c.forward.ensures (program_tree c.args.typed.now) c.args.layout.now (λ (x : List ℕ). has_name x c.args.pushed.now) (place_words c.args.layout.now c.args.args.now.entries) c.in_ok-opened.ensures.opened
