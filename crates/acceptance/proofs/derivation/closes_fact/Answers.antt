use Rattle.std.proofs.Common.{◌≡◌, ◌∙◌, true, false, List, sym, ap, map, Some, None}
use Rattle.std.specs.Prelude.{option_copied}
use Rattle.fl_types.specs.declared.access.Access.{Access}
use Rattle.index_forms.specs.declared.form.Form as program_form
use Rattle.index_forms.specs.Seen.{form_tree}
use Rattle.index_knowledge.specs.declared.fact.Fact.{Fact}
use Rattle.index_knowledge.specs.Told.{fact_told, facts_told, pair_told}
use Rattle.certificate_rules.specs.Surveys.{numbered, fact_serves}
use Rattle.certificate_rules.specs.Tests.{lines_are}
use Rattle.acceptance.specs.Told.{survey_of, forms_in}
use Rattle.acceptance.proofs.NumberedItems.{mapped-some, mapped-none}
use Rattle.acceptance.proofs.LinesOf.{fact-refused, fact-taken, fact-none}
use Rattle.acceptance.proofs.derivation.closes_fact.Goals as goal

pub returns-then-not-serves_pair : goal.returns-then-not-serves_pair
returns-then-not-serves_pair c =
    let k = c.in-Some.fact.now in
    let fs = c.args.knowledge.now.facts in
    let as' = c.args.knowledge.now.accesses in
    let e : Some k ≡ numbered fs c.args.number = sym (ap option_copied c.in-Some.is) ∙ c.numbered.ensures ∙ ap (λ (l : List Fact). numbered l c.args.number) c.as_slice.ensures in
    let t : fact_serves as' (fact_told k) (pair_told c.args.pair.now) ≡ false =
    sym (c.serves_pair.ensures ∙ ap (λ (l : List Access). fact_serves l (fact_told k) (pair_told c.args.pair.now)) c.as_slice-in-Some.ensures) ∙ c.if-not-serves_pair.true in
    fact-refused (survey_of c.args.knowledge.now) (pair_told c.args.pair.now) (forms_in c.args.above.now) c.args.lines.now (fact_told k) (numbered (facts_told fs) c.args.number) (mapped-some fact_told fs c.args.number k e) t

pub returns-else-not-serves_pair : goal.returns-else-not-serves_pair
returns-else-not-serves_pair c =
    let k = c.in-Some.fact.now in
    let fs = c.args.knowledge.now.facts in
    let as' = c.args.knowledge.now.accesses in
    let e : Some k ≡ numbered fs c.args.number = sym (ap option_copied c.in-Some.is) ∙ c.numbered.ensures ∙ ap (λ (l : List Fact). numbered l c.args.number) c.as_slice.ensures in
    let t : fact_serves as' (fact_told k) (pair_told c.args.pair.now) ≡ true =
    sym (c.serves_pair.ensures ∙ ap (λ (l : List Access). fact_serves l (fact_told k) (pair_told c.args.pair.now)) c.as_slice-in-Some.ensures) ∙ c.if-not-serves_pair.false in
    let r : c.are_lines.result ≡ lines_are (forms_in c.args.above.now) c.args.lines.now (map form_tree k.differences) =
    c.are_lines.ensures ∙ ap (λ (l : List program_form.Form). lines_are (forms_in c.args.above.now) c.args.lines.now (map form_tree l)) c.as_slice-in-Some-2.ensures in
    fact-taken (survey_of c.args.knowledge.now) (pair_told c.args.pair.now) (forms_in c.args.above.now) c.args.lines.now (fact_told k) (numbered (facts_told fs) c.args.number) c.are_lines.result (mapped-some fact_told fs c.args.number k e) t r

pub returns-in-None : goal.returns-in-None
returns-in-None c =
    let fs = c.args.knowledge.now.facts in
    let e : None ≡ numbered fs c.args.number = sym (ap option_copied c.in-None.is) ∙ c.numbered.ensures ∙ ap (λ (l : List Fact). numbered l c.args.number) c.as_slice.ensures in
    fact-none (survey_of c.args.knowledge.now) (pair_told c.args.pair.now) (forms_in c.args.above.now) c.args.lines.now (numbered (facts_told fs) c.args.number) (mapped-none fact_told fs c.args.number e)
