use Rattle.std.proofs.Common.{rules, ◌≡◌, subst}
use Rattle.fl_ast.specs.declared.kind.BinOp.TheVariants.{Add, Sub}
use Rattle.fl_ast.specs.Tree.{get, binary}
use Rattle.fl_types.specs.Increment.{target_of}
use Rattle.resolved.specs.declared.resolved.ResolvedExpr.{the_lemmas as resolved_lemmas}
use Rattle.resolved.specs.ResolvedExprs.{expression_back, expressions_back, place_back, slot_name}
use Rattle.made_steps.specs.Scopes.{AreTerms}
use Rattle.made_steps.proofs.Chains.{added, taken, at_front, none_are}
use Rattle.made_steps.proofs.terms.+terms.Goals as goal

pub push_chain-returns-in_ok-push_term-in-Bin-Add-default-default : goal.push_chain-returns-in_ok-push_term-in-Bin-Add-default-default
push_chain-returns-in_ok-push_term-in-Bin-Add-default-default t c rs h =
    let s = c.args.table.now.0 in
    let f : expression_back s c.args.value.now ≡ binary Add (expression_back s c.get.result.now) (expression_back s c.get-in-Bin-Add-default-default.result.now) = search (rules, resolved_lemmas) in
    let w = added (target_of (place_back s c.args.target.now)) _ _ _ rs f h in
    subst (λ xs. AreTerms c.args.table.now xs c.push_term.new.terms) w.grown
    (c.in_ok-push_term-in-Bin-Add-default-default.ensures w.front (c.in_ok-push_front-in-Bin-Add-default-default.ensures w.front w.is_front))

pub push_chain-returns-in_ok-push_term-in-Bin-Sub-default-default : goal.push_chain-returns-in_ok-push_term-in-Bin-Sub-default-default
push_chain-returns-in_ok-push_term-in-Bin-Sub-default-default t c rs h =
    let s = c.args.table.now.0 in
    let f : expression_back s c.args.value.now ≡ binary Sub (expression_back s c.get-in-Bin-Sub-default-default.result.now) (expression_back s c.get-in-Bin-Sub-default-default-2.result.now) = search (rules, resolved_lemmas) in
    let w = taken (target_of (place_back s c.args.target.now)) _ _ _ rs f h in
    subst (λ xs. AreTerms c.args.table.now xs c.push_term-in-Bin-Sub-default-default.new.terms) w.grown
    (c.in_ok-push_term-in-Bin-Sub-default-default.ensures w.front (c.in_ok-push_front-in-Bin-Sub-default-default.ensures w.front w.is_front))

pub push_front-returns-in-Get : goal.push_front-returns-in-Get
push_front-returns-in-Get t c rs h =
    let s = c.args.table.now.0 in
    let f : expression_back s c.args.front.now ≡ get (slot_name s c.in-Get.field-0.slot) (expressions_back s c.in-Get.field-0.subscripts) = search (rules, resolved_lemmas) in
    subst (λ xs. AreTerms c.args.table.now xs c.args.terms.now) (at_front (target_of (place_back s c.args.target.now)) _ _ _ rs f h)
    (none_are c.args.table.now c.args.terms.now c.requires.empty)
