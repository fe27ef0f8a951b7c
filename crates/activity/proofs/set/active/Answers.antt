use Rattle.std.proofs.Common.{◌∙◌, subst, not}
use Rattle.fl_types.specs.Declarations.{is_ring_argument}
use Rattle.activity.specs.Active.{IsCause, first_misfit, AreActive}
use Rattle.activity.proofs.Between.{listed_alike, err_is, cause_first, cause_later, found_later}
use Rattle.activity.proofs.set.active.Goals as goal

pub returns-in_err-check_names-clause-refused : goal.returns-in_err-check_names-clause-refused
returns-in_err-check_names-clause-refused c =
    err_is c.from_residual.result c.in_err-check_names.field-0.0 (IsCause (first_misfit c.args.typed.now c.args.of.now c.args.wrt.now)) c.from_residual.ensures.1
    (cause_first c.args.typed.now c.args.of.now c.args.wrt.now c.in_err-check_names.field-0.0 c.in_err-check_names.ensures.err)

pub returns-in_err-check_names-2-clause-refused : goal.returns-in_err-check_names-2-clause-refused
returns-in_err-check_names-2-clause-refused c =
    err_is c.from_residual-in_err-check_names-2.result c.in_err-check_names-2.field-0.0 (IsCause (first_misfit c.args.typed.now c.args.of.now c.args.wrt.now)) c.from_residual-in_err-check_names-2.ensures.1
    (cause_later c.args.typed.now c.args.of.now c.args.wrt.now c.in_err-check_names-2.field-0.0 c.in_ok-check_names.ensures.ok c.in_err-check_names-2.ensures.err)

pub returns-clause-active : goal.returns-clause-active
returns-clause-active c =
    listed_alike c.args.typed.now c.args.of.now c.args.wrt.now c.in_ok-between.between c.in_ok-names.names c.in_ok-names.ensures.members
    (subst (λ p. AreActive p c.args.of.now c.args.wrt.now c.in_ok-between.between) c.program.ensures.program c.in_ok-between.ensures)

pub returns-clause-fits : goal.returns-clause-fits
returns-clause-fits c = found_later (λ x. not (is_ring_argument c.args.typed.now x)) c.args.of.now c.args.wrt.now c.in_ok-check_names.ensures.ok ∙ c.in_ok-check_names-2.ensures.ok
