use Rattle.std.proofs.Common.{sym, ◌∙◌, subst}
use Rattle.made_steps.specs.Scopes.{TermsStand, term_trees}
use Rattle.meaning.specs.Fitting.{names_at}
use Rattle.resolved.specs.SlotTables.{table_site}
use Rattle.resolved.specs.ResolvedExprs.{place_back, expression_back}
use Rattle.made_steps.proofs.Stores.{assignment_kinded, same_form_is, plain_is, termed}
use Rattle.made_steps.proofs.store.make_store.Goals as goal

pub assign-requires-clause-plain : goal.assign-requires-clause-plain
assign-requires-clause-plain c = plain_is c.args.table.now (place_back c.args.table.now.0 c.args.target.now) (expression_back c.args.table.now.0 c.args.value.now) (sym c.in-None.is ∙ same_form_is c.args.form _ c.requires.formed)

pub split_terms-requires-clause-formed : goal.split_terms-requires-clause-formed
split_terms-requires-clause-formed c = sym c.in-Some.is ∙ same_form_is c.args.form _ c.requires.formed

pub update-requires-clause-kinded : goal.update-requires-clause-kinded
update-requires-clause-kinded c = (assignment_kinded (names_at (table_site c.args.table.now)) (place_back c.args.table.now.0 c.args.target.now) (expression_back c.args.table.now.0 c.args.value.now) c.requires.kinded).1

pub returns-in-None : goal.returns-in-None
returns-in-None c site outer s = c.assign.ensures site outer c.args.atomic s

pub returns-in_ok-terms-in-Some : goal.returns-in_ok-terms-in-Some
returns-in_ok-terms-in-Some c site outer sc =
    let s = c.args.table.now in
    let p = place_back s.0 c.args.target.now in
    let e = expression_back s.0 c.args.value.now in
    let w = termed s p e c.in-Some.form (sym c.in-Some.is ∙ same_form_is c.args.form _ c.requires.formed) in
    c.update.ensures site c.args.pushed.now outer e w.rest sc w.is_rest
    (subst (λ flags. TermsStand s flags w.rest (term_trees c.in_ok-terms-in-Some.terms)) c.as_slice-accessed.ensures (c.in_ok-terms-in-Some.ensures w.rest w.is_rest))
