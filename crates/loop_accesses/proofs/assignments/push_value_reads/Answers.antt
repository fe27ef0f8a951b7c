use Rattle.std.proofs.Common.{rules, ◌≡◌, ℕ, List, true, Some, None, ap, ◌∙◌, map}
use Rattle.fl_ast.specs.declared.expr.Expr.{the_lemmas as expr_lemmas}
use Rattle.fl_types.specs.declared.increment.IncrementForm.TheVariants.{Chain, Sum}
use Rattle.fl_ast.specs.Tree.{expr_tree, place_tree}
use Rattle.fl_types.specs.Increment.{increment_form}
use Rattle.loop_accesses.specs.Classes.{scope_by}
use Rattle.loop_accesses.specs.Views.{steps_of, occurrence_of}
use Rattle.loop_accesses.proofs.Terms.{chain_value, sum_value, other_value}
use Rattle.loop_accesses.proofs.assignments.push_value_reads.Goals as goal

pub returns-in_ok-push_chain_reads-in-Some-Chain : goal.returns-in_ok-push_chain_reads-in-Some-Chain
returns-in_ok-push_chain_reads-in-Some-Chain c =
    let s = scope_by c.args.names.now in
    let p = place_tree c.args.target.now in
    let b : p.name ≡ c.args.target.now.name = search (rules, expr_lemmas) in
    let q : s.ring c.args.target.now.name ≡ true = search rules in
    let h : increment_form p (expr_tree c.args.value.now) ≡ Some Chain = search rules in
    chain_value s c.args.line (steps_of c.args.path.now) p (expr_tree c.args.value.now) (map occurrence_of c.args.found.now) (map occurrence_of c.push_chain_reads.new.found) (ap (λ (x : List ℕ). s.ring x) b ∙ q) h c.in_ok-push_chain_reads-in-Some-Chain.ensures

pub returns-in_ok-push_sum_reads-in-Some-Sum : goal.returns-in_ok-push_sum_reads-in-Some-Sum
returns-in_ok-push_sum_reads-in-Some-Sum c =
    let s = scope_by c.args.names.now in
    let p = place_tree c.args.target.now in
    let b : p.name ≡ c.args.target.now.name = search (rules, expr_lemmas) in
    let q : s.ring c.args.target.now.name ≡ true = search rules in
    let h : increment_form p (expr_tree c.args.value.now) ≡ Some Sum = search rules in
    sum_value s c.args.line (steps_of c.args.path.now) p (expr_tree c.args.value.now) (map occurrence_of c.args.found.now) (map occurrence_of c.push_sum_reads.new.found) (ap (λ (x : List ℕ). s.ring x) b ∙ q) h c.in_ok-push_sum_reads-in-Some-Sum.ensures

pub returns-in_ok-push_reads-in-None : goal.returns-in_ok-push_reads-in-None
returns-in_ok-push_reads-in-None c =
    let s = scope_by c.args.names.now in
    let p = place_tree c.args.target.now in
    let b : p.name ≡ c.args.target.now.name = search (rules, expr_lemmas) in
    let q : s.ring c.args.target.now.name ≡ true = search rules in
    let h : increment_form p (expr_tree c.args.value.now) ≡ None = search rules in
    other_value s c.args.line (steps_of c.args.path.now) p (expr_tree c.args.value.now) (map occurrence_of c.args.found.now) _ (ap (λ (x : List ℕ). s.ring x) b ∙ q) h c.in_ok-push_reads-in-None.ensures
