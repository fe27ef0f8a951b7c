use Rattle.std.proofs.Common.{◌+◌, ◌-◌, ◌∙◌, ap, arith, get_or, length, refl}
use Rattle.store_core.specs.Values.{words_in}
use Rattle.store_core.specs.Filled.{fitted, written}
use Rattle.store_core.proofs.Filling.{write_shape, length-written}
use Rattle.store_core.proofs.layout.Layout.fill.Goals as goal

pub fill-requires-clause-within : goal.fill-requires-clause-within
fill-requires-clause-within c = omega (arith, c.next.ensures.small, c.next.ensures.after, c.first-first.ensures.value, c.loop-i.invariant.1, c.requires.within)

pub loop-i-preserved : goal.loop-i-preserved
loop-i-preserved c =
    let e = c.fill.ensures ∙ ap (λ ws. written c.loop-i.store (c.args.base + c.first-first.result) (fitted (c.next.result - c.first-first.result) ws)) c.words.ensures in (
      write_shape c.args.self.now c.args.entries.now c.loop-i.i c.index-shapes-i.result c.loop-i.store c.fill.new.store _ c.args.base c.first-first.result c.next.result (c.next.result - c.first-first.result)
          (omega (arith, ap (λ es. length es) c.shapes-shapes.ensures.value)) (c.index-shapes-i.is ∙ ap (λ es. get_or es c.loop-i.i c.index-shapes-i.result) c.shapes-shapes.ensures.value)
          c.first-first.ensures.value c.next.ensures.value refl e c.loop-i.invariant.0,
      ap length e ∙ length-written c.loop-i.store (c.args.base + c.first-first.result) (fitted (c.next.result - c.first-first.result) (words_in c.args.entries.now c.index-shapes-i.result.name)) ∙ c.loop-i.invariant.1,
    )
