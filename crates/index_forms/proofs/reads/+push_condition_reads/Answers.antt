use Rattle.std.proofs.Common.{rules, ◌≡◌, [], sym, ap, ◌∙◌}
use Rattle.fl_ast.specs.declared.expr.Cond.{the_lemmas as cond_lemmas}
use Rattle.fl_ast.specs.Tree.{Condition, relation, conjunction, disjunction, expr_tree, cond_tree}
use Rattle.fl_types.specs.Accesses.{reads, condition_reads}
use Rattle.index_forms.specs.Walk.{with_group}
use Rattle.index_forms.specs.Scenes.{setting_there, known_there}
use Rattle.index_forms.specs.Listed.{all_forms_seen}
use Rattle.index_forms.proofs.Groups.{two_groups}
use Rattle.index_forms.proofs.reads.+push_condition_reads.Goals as goal

pub returns-in_ok-push_reads-in-Rel-2 : goal.returns-in_ok-push_reads-in-Rel-2
returns-in_ok-push_reads-in-Rel-2 t c =
    let s = setting_there c.args.scene.now in
    let k = known_there c.args.scene.now c.args.entries.now in
    let b : cond_tree c.args.test.now ≡ relation c.in-Rel.op (expr_tree c.in-Rel.left) (expr_tree c.in-Rel.right) = search (rules, cond_lemmas) in
    two_groups s k (reads s.scope 0 [] (expr_tree c.in-Rel.left)) (reads s.scope 0 [] (expr_tree c.in-Rel.right)) (all_forms_seen c.args.all.now) _ _ c.in_ok-push_reads-in-Rel.ensures c.in_ok-push_reads-in-Rel-2.ensures
    ∙ ap (λ (e : Condition). with_group s k (condition_reads s.scope 0 [] e) (all_forms_seen c.args.all.now)) (sym b)

pub returns-in_ok-push_condition_reads-in-And-2 : goal.returns-in_ok-push_condition_reads-in-And-2
returns-in_ok-push_condition_reads-in-And-2 t c =
    let s = setting_there c.args.scene.now in
    let k = known_there c.args.scene.now c.args.entries.now in
    let b : cond_tree c.args.test.now ≡ conjunction (cond_tree c.get-in-And.result.now) (cond_tree c.get-in-And-2.result.now) = search (rules, cond_lemmas) in
    two_groups s k (condition_reads s.scope 0 [] (cond_tree c.get-in-And.result.now)) (condition_reads s.scope 0 [] (cond_tree c.get-in-And-2.result.now)) (all_forms_seen c.args.all.now) _ _ c.in_ok-push_condition_reads-in-And.ensures c.in_ok-push_condition_reads-in-And-2.ensures
    ∙ ap (λ (e : Condition). with_group s k (condition_reads s.scope 0 [] e) (all_forms_seen c.args.all.now)) (sym b)

pub returns-in_ok-push_condition_reads-in-Or-2 : goal.returns-in_ok-push_condition_reads-in-Or-2
returns-in_ok-push_condition_reads-in-Or-2 t c =
    let s = setting_there c.args.scene.now in
    let k = known_there c.args.scene.now c.args.entries.now in
    let b : cond_tree c.args.test.now ≡ disjunction (cond_tree c.get-in-Or.result.now) (cond_tree c.get-in-Or-2.result.now) = search (rules, cond_lemmas) in
    two_groups s k (condition_reads s.scope 0 [] (cond_tree c.get-in-Or.result.now)) (condition_reads s.scope 0 [] (cond_tree c.get-in-Or-2.result.now)) (all_forms_seen c.args.all.now) _ _ c.in_ok-push_condition_reads-in-Or.ensures c.in_ok-push_condition_reads-in-Or-2.ensures
    ∙ ap (λ (e : Condition). with_group s k (condition_reads s.scope 0 [] e) (all_forms_seen c.args.all.now)) (sym b)
