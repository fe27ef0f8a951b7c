use Rattle.std.proofs.Common.{◌≡◌, rules, Some, true, false, ◌&&◌, ap, sym, ◌∙◌}
use Rattle.fl_ast.specs.Tree.{expr_tree, place_tree}
use Rattle.fl_types.specs.declared.increment.IncrementForm.TheVariants.{Chain, Sum}
use Rattle.fl_types.specs.Increment.{target_of, increment_form}
use Rattle.fl_types.specs.Sharing.{is_ring_name}
use Rattle.typing.specs.Updates.{chain_minus, is_long_chain}
use Rattle.typing.proofs.Terms.{sum_update, chain_update}
use Rattle.typing.proofs.Trees.{place_name}
use Rattle.typing.proofs.updates.is_no_update.Goals as goal

pub returns-in-Some-Sum : goal.returns-in-Some-Sum
returns-in-Some-Sum c =
    let p = place_tree c.args.target.now in
    let ring : is_ring_name c.args.program.now.decls c.args.target.now.name ≡ true = search rules in
    let form : increment_form p (expr_tree c.args.value.now) ≡ Some Sum = search rules in
    sym (sum_update c.args.program.now p (expr_tree c.args.value.now) (ap (is_ring_name c.args.program.now.decls) (place_name c.args.target.now) ∙ ring) form)

pub returns-then-chain_minus : goal.returns-then-chain_minus
returns-then-chain_minus c =
    let p = place_tree c.args.target.now in
    let e = expr_tree c.args.value.now in
    let ring : is_ring_name c.args.program.now.decls c.args.target.now.name ≡ true = search rules in
    let form : increment_form p e ≡ Some Chain = search rules in
    let signs : chain_minus (target_of p) e ≡ true = search rules in
    sym (chain_update c.args.program.now p e (ap (is_ring_name c.args.program.now.decls) (place_name c.args.target.now) ∙ ring) form
    ∙ (ap (λ b. b && is_long_chain (target_of p) e) signs ∙ sym c.is_long_chain.ensures))

pub returns-else-chain_minus : goal.returns-else-chain_minus
returns-else-chain_minus c =
    let p = place_tree c.args.target.now in
    let e = expr_tree c.args.value.now in
    let ring : is_ring_name c.args.program.now.decls c.args.target.now.name ≡ true = search rules in
    let form : increment_form p e ≡ Some Chain = search rules in
    let signs : chain_minus (target_of p) e ≡ false = search rules in
    let none : c.chain_minus.result ≡ false = search rules in
    sym (chain_update c.args.program.now p e (ap (is_ring_name c.args.program.now.decls) (place_name c.args.target.now) ∙ ring) form
    ∙ (ap (λ b. b && is_long_chain (target_of p) e) signs ∙ sym none))
