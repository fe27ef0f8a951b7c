use Rattle.std.proofs.Common.{◌≡◌, sym, ◌∙◌, rules}
use Rattle.std.specs.Prelude.{true}
use Rattle.sweep_trees.specs.Standing.{is_accessed_at}
use Rattle.made_growths.specs.Told.{told}
use Rattle.made_undos.proofs.Terms.{reversal_there, split_terms}
use Rattle.made_undos.proofs.undo.reversal.Goals as goal

pub returns : goal.returns
returns c rs h =
    let yes : c.is_marked.result ≡ true = search rules in
    reversal_there c.args.table.now (is_accessed_at (told c.args.names.now).pushed c.args.target.now.slot) rs _ (sym c.is_marked.ensures ∙ yes) (split_terms c.args.table.now rs _ (c.in_ok-terms.ensures rs h))
