use Rattle.std.proofs.Common.{◌≡◌, Some, ap, sym, ◌∙◌}
use Rattle.std.proofs.lemmas.Result.{IfOk-weaker}
use Rattle.meaning.specs.Fitting.{names_at}
use Rattle.fl_types.specs.declared.increment.IncrementForm.TheVariants.{Chain, Sum}
use Rattle.resolved.specs.SlotTables.{table_site}
use Rattle.resolved.specs.ResolvedExprs.{place_back, expression_back}
use Rattle.resolved.specs.ResolvedStmts.{form_in}
use Rattle.made_steps.proofs.Stores.{assignment_kinded, chain_is, sum_is, found_some, chain_found, sum_found}
use Rattle.made_steps.proofs.terms.terms_of.Goals as goal

pub chain_terms-requires-clause-kinded : goal.chain_terms-requires-clause-kinded
chain_terms-requires-clause-kinded c = (assignment_kinded (names_at (table_site c.args.table.now)) (place_back c.args.table.now.0 c.args.target.now) (expression_back c.args.table.now.0 c.args.value.now) c.requires.kinded).2

pub chain_terms-requires-clause-begins : goal.chain_terms-requires-clause-begins
chain_terms-requires-clause-begins c =
    let s = c.args.table.now in
    let form : Some Chain ≡ form_in s (place_back s.0 c.args.target.now) (expression_back s.0 c.args.value.now) = sym (ap Some c.in-Chain.is) ∙ c.requires.formed in
    let w = chain_is s (place_back s.0 c.args.target.now) (expression_back s.0 c.args.value.now) form in
    found_some _ w.rest w.is_found

pub sum_terms-requires-clause-kinded : goal.sum_terms-requires-clause-kinded
sum_terms-requires-clause-kinded c = (assignment_kinded (names_at (table_site c.args.table.now)) (place_back c.args.table.now.0 c.args.target.now) (expression_back c.args.table.now.0 c.args.value.now) c.requires.kinded).2

pub sum_terms-requires-clause-ends : goal.sum_terms-requires-clause-ends
sum_terms-requires-clause-ends c =
    let s = c.args.table.now in
    let form : Some Sum ≡ form_in s (place_back s.0 c.args.target.now) (expression_back s.0 c.args.value.now) = sym (ap Some c.in-Sum.is) ∙ c.requires.formed in
    let w = sum_is s (place_back s.0 c.args.target.now) (expression_back s.0 c.args.value.now) form in
    found_some _ w.rest w.is_found

pub returns-in-Chain : goal.returns-in-Chain
returns-in-Chain c =
    let s = c.args.table.now in
    let form : Some Chain ≡ form_in s (place_back s.0 c.args.target.now) (expression_back s.0 c.args.value.now) = sym (ap Some c.in-Chain.is) ∙ c.requires.formed in
    IfOk-weaker c.chain_terms.result _ _ (λ terms e. λ rs h. e rs (chain_found s (place_back s.0 c.args.target.now) (expression_back s.0 c.args.value.now) rs form h)) c.chain_terms.ensures

pub returns-in-Sum : goal.returns-in-Sum
returns-in-Sum c =
    let s = c.args.table.now in
    let form : Some Sum ≡ form_in s (place_back s.0 c.args.target.now) (expression_back s.0 c.args.value.now) = sym (ap Some c.in-Sum.is) ∙ c.requires.formed in
    IfOk-weaker c.sum_terms.result _ _ (λ terms e. λ rs h. e rs (sum_found s (place_back s.0 c.args.target.now) (expression_back s.0 c.args.value.now) rs form h)) c.sum_terms.ensures
