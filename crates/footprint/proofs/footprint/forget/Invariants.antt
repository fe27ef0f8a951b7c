use Rattle.std.proofs.Common.{◌≡◌}
use Rattle.std.specs.List.{AllWithin}
use Rattle.footprint.specs.declared.toucher.Toucher.{Toucher}
use Rattle.footprint.proofs.footprint.forget.Given as goal

abbrev pub invariant-loop-toucher : goal.invariant-loop-toucher
invariant-loop-toucher l = AllWithin (λ (o : Toucher). o.instance ≡ 0) l.touchers 0 l.toucher-index
