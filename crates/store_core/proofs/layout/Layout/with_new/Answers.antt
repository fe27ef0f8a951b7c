use Rattle.std.proofs.Common.{◌++◌, ◌∷◌, [], ◌^◌, min, sym, ap, ◌∙◌, arith, subst}
use Rattle.store_core.specs.Keys.{size_of, IsLaidOut}
use Rattle.store_core.proofs.Laying.{laid_over, laid_fits, laid_more, laid_new}
use Rattle.store_core.proofs.layout.Layout.with_new.Goals as goal

pub returns-then-more-from : goal.returns-then-more-from
returns-then-more-from c =
    laid_over c.args.self c.args.shape c.args.count c.size-more.result c.args.limit c.requires.limit c.requires.new c.requires.counted c.requires.small
    (c.size-more.ensures ∙ ap (λ a. min (size_of a) (2 ^ 40)) c.as_slice.ensures) (omega arith)

pub invariant_of-result : goal.invariant_of-result
invariant_of-result c =
    rw (c.in_ok-push-2.ensures.ok, c.in_ok-push.ensures.items, c.self.view_is)
    (laid_more c.args.self c.args.shape c.self.inside.firsts.items c.args.count c.size-more.result _ c.args.limit c.requires.limit (subst (λ es. IsLaidOut es c.self.inside.firsts.items) c.self.view_is c.self.invariant)
    c.requires.new c.requires.low c.requires.counted (c.size-more.ensures ∙ ap (λ a. min (size_of a) (2 ^ 40)) c.as_slice.ensures) (omega arith) (omega arith))

pub returns : goal.returns
returns c = (
  c.in_ok-push-2.ensures.ok ∙ ap (λ es. es ++ c.args.shape ∷ []) c.self.view_is ∙ sym (laid_new c.args.self c.args.shape c.requires.new),
  laid_fits c.args.self c.args.shape c.args.count c.size-more.result c.args.limit c.requires.limit c.requires.new c.requires.counted c.requires.small
      (c.size-more.ensures ∙ ap (λ a. min (size_of a) (2 ^ 40)) c.as_slice.ensures) (omega arith),
)
