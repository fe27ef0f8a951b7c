use Rattle.std.proofs.Common.{◌≡◌, rules, Some, true, ap, sym, ◌∙◌}
use Rattle.fl_ast.specs.Tree.{expr_tree, place_tree}
use Rattle.fl_types.specs.Sharing.{is_ring_name}
use Rattle.typing.proofs.Terms.{own_is}
use Rattle.typing.proofs.Trees.{place_name}
use Rattle.typing.proofs.updates.own_of.Goals as goal

pub returns-in-Some : goal.returns-in-Some
returns-in-Some c =
    let p = place_tree c.args.target.now in
    let ring : is_ring_name c.args.program.now.decls c.args.target.now.name ≡ true = search rules in
    sym (own_is c.args.program.now p (expr_tree c.args.value.now) c.in-Some.field-0 (ap (is_ring_name c.args.program.now.decls) (place_name c.args.target.now) ∙ ring) (search rules)
    ∙ ap Some (place_name c.args.target.now))
