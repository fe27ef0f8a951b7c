use Rattle.std.proofs.Common.{◌∙◌}
use Rattle.needed_names.proofs.Found.{roots_of, edges_of, roots_within, links_stay, needed_are}
use Rattle.needed_names.proofs.set.names.Goals as goal

pub reached_names-requires-clause-roots : goal.reached_names-requires-clause-roots
reached_names-requires-clause-roots c =
    roots_within c.args.program.now.decls c.as_slice-decls.result.now (roots_of c.args.program.now c.args.active.now.names) c.as_slice.result.now c.as_slice-decls.ensures (c.as_slice.ensures ∙ c.in_ok-roots.ensures)

pub reached_names-requires-clause-links : goal.reached_names-requires-clause-links
reached_names-requires-clause-links c =
    links_stay c.args.program.now.decls c.as_slice-decls.result.now (edges_of c.args.program.now c.args.active.now.names) c.as_slice-2.result.now c.as_slice-decls.ensures (c.as_slice-2.ensures ∙ c.in_ok-links.ensures)

pub returns : goal.returns
returns c =
    needed_are c.args.program.now c.args.active.now.names c.as_slice-decls.result.now c.as_slice.result.now c.as_slice-2.result.now c.reached_names.result
    c.as_slice-decls.ensures (c.as_slice.ensures ∙ c.in_ok-roots.ensures) (c.as_slice-2.ensures ∙ c.in_ok-links.ensures) c.reached_names.ensures
