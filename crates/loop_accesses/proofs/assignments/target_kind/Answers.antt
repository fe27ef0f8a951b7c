use Rattle.std.proofs.Common.{rules, ◌≡◌, ℕ, List, true, Some, None, ap, sym, ◌∙◌}
use Rattle.fl_ast.specs.declared.expr.Expr.{the_lemmas as expr_lemmas}
use Rattle.fl_ast.specs.Tree.{expr_tree, place_tree}
use Rattle.fl_types.specs.Increment.{increment_form}
use Rattle.fl_types.specs.Accesses.{increment_kind}
use Rattle.loop_accesses.specs.Classes.{scope_by}
use Rattle.loop_accesses.proofs.Terms.{other_kind, formed_kind}
use Rattle.loop_accesses.proofs.assignments.target_kind.Goals as goal

pub returns-in-None : goal.returns-in-None
returns-in-None c =
    let s = scope_by c.args.names.now in
    let p = place_tree c.args.target.now in
    let e = expr_tree c.args.value.now in
    let b : p.name ≡ c.args.target.now.name = search (rules, expr_lemmas) in
    let q : s.ring c.args.target.now.name ≡ true = search rules in
    let h : increment_form p e ≡ None = search rules in
    other_kind s.ring c.args.atomic (s.pluses p.name) p e (ap (λ (x : List ℕ). s.ring x) b ∙ q) h

pub returns-in-Some : goal.returns-in-Some
returns-in-Some c =
    let s = scope_by c.args.names.now in
    let p = place_tree c.args.target.now in
    let e = expr_tree c.args.value.now in
    let b : p.name ≡ c.args.target.now.name = search (rules, expr_lemmas) in
    let q : s.ring c.args.target.now.name ≡ true = search rules in
    let h : increment_form p e ≡ Some c.in-Some.field-0 = sym c.increment_form.ensures ∙ c.in-Some.is in
    c.increment_kind.ensures ∙ ap (λ k. increment_kind c.args.atomic k) (c.is_reduced.ensures ∙ ap (λ (x : List ℕ). s.pluses x) (sym b))
    ∙ formed_kind s.ring c.args.atomic (s.pluses p.name) p e c.in-Some.field-0 (ap (λ (x : List ℕ). s.ring x) b ∙ q) h
