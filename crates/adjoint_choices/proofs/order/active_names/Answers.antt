use Rattle.std.proofs.Common.{◌-◌, get_or, sym, ap, arith}
use Rattle.fl_types.specs.Sharing.{has_name}
use Rattle.adjoint_choices.proofs.Together.{one_more}
use Rattle.adjoint_choices.proofs.order.active_names.Goals as goal

pub loop-i-preserved-in-Continue-1 : goal.loop-i-preserved-in-Continue-1
loop-i-preserved-in-Continue-1 c =
    one_more (λ x. has_name x c.args.active.now.names) c.args.decls.now (c.loop-i.i - 1) c.loop-i.i c.index-decls-i.result (has_name (get_or c.args.decls.now (c.loop-i.i - 1) c.index-decls-i.result).name c.as_slice.result.now) c.loop-i.names.items c.put_in.new.names.items
    (omega arith) (omega arith) (ap (λ l. has_name (get_or c.args.decls.now (c.loop-i.i - 1) c.index-decls-i.result).name l) c.as_slice.ensures)
    (sym c.if-has_name.ensures) c.in_ok-put_in.ensures c.loop-i.invariant
