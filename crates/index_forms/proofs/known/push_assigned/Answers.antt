use Rattle.std.proofs.Common.{rules, ◌≡◌, ℕ, List, [], ◌∷◌, ◌++◌, ap, sym, ◌∙◌}
use Rattle.fl_ast.specs.declared.expr.Expr.{the_lemmas as expr_lemmas}
use Rattle.fl_ast.specs.Tree.{Designator, expr_trees, place_tree}
use Rattle.index_forms.specs.declared.origin.Origin.{Origin}
use Rattle.index_forms.specs.declared.origin.Entry.{Entry}
use Rattle.index_forms.specs.Origins.{assigned_origin}
use Rattle.index_forms.specs.Scenes.{known_there}
use Rattle.index_forms.specs.Walk.{assigned_at}
use Rattle.index_forms.proofs.KnownNames.{assigned_said}
use Rattle.index_forms.proofs.known.push_assigned.Goals as goal

pub returns : goal.returns
returns c =
    let p = c.args.target.now in
    let d : Designator = record { name = p.name; subscripts = expr_trees p.subscripts } in
    let b : place_tree p ≡ d = search (rules, expr_lemmas) in
    let o : c.assigned_origin-origin.result ≡ assigned_origin c.args.n (expr_trees p.subscripts) = c.assigned_origin-origin.ensures ∙ ap (λ es. assigned_origin c.args.n (expr_trees es)) c.as_slice.ensures in
    let f = c.in_ok-push.ensures.ok
    ∙ ap (λ (x : List ℕ). c.args.entries.now ++ (let e : Entry = record { name = x; origin = c.assigned_origin-origin.result } in e) ∷ []) c.in_ok-name.ensures
    ∙ ap (λ (q : Origin). c.args.entries.now ++ (let e : Entry = record { name = p.name; origin = q } in e) ∷ []) o in
    assigned_said c.args.scene.now c.args.entries.now c.push.new.self c.args.n d f
    ∙ ap (λ (r : Designator). assigned_at c.args.scene.now.side c.args.n r (known_there c.args.scene.now c.args.entries.now)) (sym b)
