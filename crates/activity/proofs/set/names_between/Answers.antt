use Rattle.std.proofs.Common.{◌∙◌, map, sym, ap}
use Rattle.reachability.proofs.Listed.{on_if_ok}
use Rattle.activity.specs.Active.{program_flows, turned, turned_link}
use Rattle.activity.proofs.Between.{links_turned, within_all, between_all}
use Rattle.activity.proofs.set.names_between.Goals as goal

pub reached_from-requires : goal.reached_from-requires
reached_from-requires c =
    within_all c.args.program.now.decls c.as_slice-decls.result.now (program_flows c.args.program.now) c.as_slice.result.now c.as_slice-decls.ensures (c.as_slice.ensures ∙ c.in_ok-onward.ensures)

pub reached_from-requires-2 : goal.reached_from-requires-2
reached_from-requires-2 c =
    within_all c.args.program.now.decls c.as_slice-decls.result.now (map turned (program_flows c.args.program.now)) c.as_slice-3.result.now c.as_slice-decls.ensures
    (c.as_slice-3.ensures ∙ (c.in_ok-back.ensures ∙ (ap (map turned_link) (c.as_slice-2.ensures ∙ c.in_ok-onward.ensures) ∙ sym (links_turned c.args.program.now.decls (program_flows c.args.program.now)))))

pub returns : goal.returns
returns c =
    on_if_ok c.in_both.result
    (λ names e. between_all c.args.program.now c.args.of.now c.args.wrt.now c.as_slice-decls.result.now c.as_slice.result.now c.as_slice-3.result.now
    c.in_ok-reached.reached c.in_ok-reaching.reaching c.as_slice-4.result.now c.as_slice-5.result.now names c.as_slice-decls.ensures (c.as_slice.ensures ∙ c.in_ok-onward.ensures)
    (c.as_slice-3.ensures ∙ (c.in_ok-back.ensures ∙ (ap (map turned_link) (c.as_slice-2.ensures ∙ c.in_ok-onward.ensures) ∙ sym (links_turned c.args.program.now.decls (program_flows c.args.program.now)))))
    c.in_ok-reached.ensures c.in_ok-reaching.ensures c.as_slice-4.ensures c.as_slice-5.ensures e)
    c.in_both.ensures
