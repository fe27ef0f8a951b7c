use Rattle.std.proofs.Common.{◌≡◌, ◌≤◌, length, sym, subst}
use Rattle.store_core.specs.Keys.{keys_of, laid}
use Rattle.store_core.proofs.Laying.{laid_same}
use Rattle.store_core.proofs.layout.Layout.within.Goals as goal

pub returns-in-Some : goal.returns-in-Some
returns-in-Some c =
    let e : laid c.args.self c.args.shape ≡ c.args.self = laid_same c.args.self c.args.shape _ c.in-Some.ensures.value in
    (sym e, subst (λ es. length (keys_of es) ≤ c.args.limit) (sym e) c.requires.few)
