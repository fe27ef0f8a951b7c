use Rattle.std.proofs.Common.{◌∙◌, sym, ap}
use Rattle.activity.specs.Order.{put_all}
use Rattle.activity.proofs.Ordered.{put_last}
use Rattle.activity.proofs.order.put_each.Goals as goal

pub loop-name-preserved : goal.loop-name-preserved
loop-name-preserved c =
    ap (put_all c.pop.new.self) c.in_ok-put_in.ensures
    ∙ (sym (put_last c.pop.new.self c.in-Some.name c.loop-name.all.items)
    ∙ (ap (λ xs. put_all xs c.loop-name.all.items) (sym c.in-Some.ensures) ∙ c.loop-name.invariant))
