use Rattle.std.proofs.Common.{◌≡◌, Some, None, rules, sym}
use Rattle.fl_ast.specs.Tree.{stmt_trees}
use Rattle.fl_types.specs.Surface.{class_within_all}
use Rattle.fl_types.proofs.Classes.{class_is}
use Rattle.fl_types.proofs.typed.Typed.sharing_of.Goals as goal

pub returns-in-Some : goal.returns-in-Some
returns-in-Some c =
    let h : Some c.in-Some.class ≡ class_within_all c.args.loop_number c.args.name.now (stmt_trees c.args.self.now.body) = search rules in
    sym (class_is (stmt_trees c.args.self.now.body) c.args.loop_number c.args.name.now (Some c.in-Some.class) h)

pub returns-in-None : goal.returns-in-None
returns-in-None c =
    let h : None ≡ class_within_all c.args.loop_number c.args.name.now (stmt_trees c.args.self.now.body) = search rules in
    sym (class_is (stmt_trees c.args.self.now.body) c.args.loop_number c.args.name.now None h)
