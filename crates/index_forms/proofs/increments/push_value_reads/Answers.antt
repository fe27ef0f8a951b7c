use Rattle.std.proofs.Common.{rules, ◌≡◌, ℕ, List, ap, ◌∙◌, true, Some, None}
use Rattle.fl_types.specs.declared.increment.IncrementForm.TheVariants.{Chain, Sum}
use Rattle.fl_ast.specs.declared.expr.Expr.{the_lemmas as expr_lemmas}
use Rattle.fl_types.specs.Sharing.{has_name}
use Rattle.fl_ast.specs.Tree.{expr_tree, place_tree}
use Rattle.fl_types.specs.Increment.{increment_form}
use Rattle.index_forms.specs.Scenes.{setting_there, known_there}
use Rattle.index_forms.specs.Listed.{all_forms_seen}
use Rattle.index_forms.proofs.Terms.{chain_value, sum_value, other_value}
use Rattle.index_forms.proofs.increments.push_value_reads.Goals as goal

pub returns-in_ok-push_chain_reads-in-Some-Chain : goal.returns-in_ok-push_chain_reads-in-Some-Chain
returns-in_ok-push_chain_reads-in-Some-Chain c =
    let s = setting_there c.args.scene.now in
    let p = place_tree c.args.target.now in
    let b : p.name ≡ c.args.target.now.name = search (rules, expr_lemmas) in
    let q : has_name c.args.target.now.name c.args.scene.now.ring ≡ true = search rules in
    let r : s.scope.ring p.name ≡ true = ap (λ (x : List ℕ). has_name x c.args.scene.now.ring) b ∙ q in
    let h : increment_form p (expr_tree c.args.value.now) ≡ Some Chain = search rules in
    chain_value s (known_there c.args.scene.now c.args.entries.now) p (expr_tree c.args.value.now) (all_forms_seen c.args.all.now) (all_forms_seen c.push_chain_reads.new.all) r h c.in_ok-push_chain_reads-in-Some-Chain.ensures

pub returns-in_ok-push_sum_reads-in-Some-Sum : goal.returns-in_ok-push_sum_reads-in-Some-Sum
returns-in_ok-push_sum_reads-in-Some-Sum c =
    let s = setting_there c.args.scene.now in
    let p = place_tree c.args.target.now in
    let b : p.name ≡ c.args.target.now.name = search (rules, expr_lemmas) in
    let q : has_name c.args.target.now.name c.args.scene.now.ring ≡ true = search rules in
    let r : s.scope.ring p.name ≡ true = ap (λ (x : List ℕ). has_name x c.args.scene.now.ring) b ∙ q in
    let h : increment_form p (expr_tree c.args.value.now) ≡ Some Sum = search rules in
    sum_value s (known_there c.args.scene.now c.args.entries.now) p (expr_tree c.args.value.now) (all_forms_seen c.args.all.now) (all_forms_seen c.push_sum_reads.new.all) r h c.in_ok-push_sum_reads-in-Some-Sum.ensures

pub returns-in_ok-push_reads-in-None : goal.returns-in_ok-push_reads-in-None
returns-in_ok-push_reads-in-None c =
    let s = setting_there c.args.scene.now in
    let p = place_tree c.args.target.now in
    let b : p.name ≡ c.args.target.now.name = search (rules, expr_lemmas) in
    let q : has_name c.args.target.now.name c.args.scene.now.ring ≡ true = search rules in
    let r : s.scope.ring p.name ≡ true = ap (λ (x : List ℕ). has_name x c.args.scene.now.ring) b ∙ q in
    let h : increment_form p (expr_tree c.args.value.now) ≡ None = search rules in
    other_value s (known_there c.args.scene.now c.args.entries.now) p (expr_tree c.args.value.now) (all_forms_seen c.args.all.now) _ r h c.in_ok-push_reads-in-None.ensures
