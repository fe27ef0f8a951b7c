use Rattle.std.proofs.Common.{rules, ◌≡◌, ℕ, List, true, Some, None, ap, ◌∙◌}
use Rattle.fl_ast.specs.declared.expr.Expr.{the_lemmas as expr_lemmas}
use Rattle.fl_types.specs.declared.increment.IncrementForm.TheVariants.{Chain, Sum}
use Rattle.fl_types.specs.Sharing.{has_name}
use Rattle.fl_ast.specs.Tree.{expr_tree, place_tree}
use Rattle.fl_types.specs.Increment.{increment_form}
use Rattle.loop_scenes.specs.Scened.{scope_there}
use Rattle.loop_scenes.proofs.Terms.{chain_value, sum_value, other_value}
use Rattle.loop_scenes.proofs.marks.push_value_marks.Goals as goal

pub returns-in_ok-push_chain_marks-in-Some-Chain : goal.returns-in_ok-push_chain_marks-in-Some-Chain
returns-in_ok-push_chain_marks-in-Some-Chain c =
    let s = scope_there c.args.scene.now in
    let p = place_tree c.args.target.now in
    let b : p.name ≡ c.args.target.now.name = search (rules, expr_lemmas) in
    let q : has_name c.args.target.now.name c.args.scene.now.ring ≡ true = search rules in
    let r : s.ring p.name ≡ true = ap (λ (x : List ℕ). has_name x c.args.scene.now.ring) b ∙ q in
    let h : increment_form p (expr_tree c.args.value.now) ≡ Some Chain = search rules in
    chain_value s c.args.right p (expr_tree c.args.value.now) c.args.marks.now c.push_chain_marks.new.marks r h c.in_ok-push_chain_marks-in-Some-Chain.ensures

pub returns-in_ok-push_sum_marks-in-Some-Sum : goal.returns-in_ok-push_sum_marks-in-Some-Sum
returns-in_ok-push_sum_marks-in-Some-Sum c =
    let s = scope_there c.args.scene.now in
    let p = place_tree c.args.target.now in
    let b : p.name ≡ c.args.target.now.name = search (rules, expr_lemmas) in
    let q : has_name c.args.target.now.name c.args.scene.now.ring ≡ true = search rules in
    let r : s.ring p.name ≡ true = ap (λ (x : List ℕ). has_name x c.args.scene.now.ring) b ∙ q in
    let h : increment_form p (expr_tree c.args.value.now) ≡ Some Sum = search rules in
    sum_value s c.args.right p (expr_tree c.args.value.now) c.args.marks.now c.push_sum_marks.new.marks r h c.in_ok-push_sum_marks-in-Some-Sum.ensures

pub returns-in_ok-push_marks-in-None : goal.returns-in_ok-push_marks-in-None
returns-in_ok-push_marks-in-None c =
    let s = scope_there c.args.scene.now in
    let p = place_tree c.args.target.now in
    let b : p.name ≡ c.args.target.now.name = search (rules, expr_lemmas) in
    let q : has_name c.args.target.now.name c.args.scene.now.ring ≡ true = search rules in
    let r : s.ring p.name ≡ true = ap (λ (x : List ℕ). has_name x c.args.scene.now.ring) b ∙ q in
    let h : increment_form p (expr_tree c.args.value.now) ≡ None = search rules in
    other_value s c.args.right p (expr_tree c.args.value.now) c.args.marks.now _ r h c.in_ok-push_marks-in-None.ensures
