use Rattle.std.proofs.lemmas.Result.{err_from_is_err_and}
use Rattle.data_io.proofs.First.{array_first, extra_first, none_at_all}
use Rattle.data_io.proofs.read.rest.Goals as goal

pub returns-in_err-entries : goal.returns-in_err-entries
returns-in_err-entries c =
    let p = err_from_is_err_and c.from_residual.result c.from_residual.ensures.1 in
    rw (p.1, p.2) (λ some. array_first c.args.values.now c.args.decls.now c.args.names.now _ _ _ c.requires.object c.requires.whole (c.in_err-entries.ensures some))

pub returns-in_err-no_extra : goal.returns-in_err-no_extra
returns-in_err-no_extra c =
    let p = err_from_is_err_and c.from_residual-in_err-no_extra.result c.from_residual-in_err-no_extra.ensures.1 in
    rw (p.1, p.2) (λ some. extra_first c.args.values.now c.args.decls.now c.args.names.now _ _ _ c.requires.object c.requires.whole c.in_ok-entries.ensures.0 (c.in_err-no_extra.ensures some))

pub returns : goal.returns
returns c = (none_at_all c.args.values.now c.args.decls.now c.args.names.now _ _ c.requires.object c.requires.whole c.in_ok-entries.ensures.0 c.in_ok-no_extra.ensures.0, c.in_ok-entries.ensures.1)
