use Rattle.std.proofs.Common.{◌∙◌, ap}
use Rattle.store_core.specs.Filled.{place_words}
use Rattle.dual_meaning.proofs.Directions.{found_well}
use Rattle.dual_meaning.proofs.along.tangent.Goals as goal

pub returns-in-Ok : goal.returns-in-Ok
returns-in-Ok g c =
    found_well c.args.typed.now c.program-program.result.now c.args.layout.now (place_words c.args.layout.now c.args.args.now.entries) (place_words c.args.layout.now c.args.direction.now.entries) c.deref.result.now c.deref-2.result.now
    c.in-Ok.end.items c.deref-in-Ok.result.now c.in_ok-found-in-Ok.field-0 c.count.result c.args.steps.now c.run_along.new.steps c.program-program.ensures.program
    (c.deref.ensures.value ∙ (c.in_ok-words.ensures ∙ ap (place_words c.args.layout.now) c.as_slice.ensures))
    (c.deref-2.ensures.value ∙ (c.in_ok-along.ensures ∙ ap (place_words c.args.layout.now) c.as_slice-2.ensures))
    c.deref-in-Ok.ensures.value c.count.ensures.value c.in_ok-found-in-Ok.ensures.values c.in_ok-found-in-Ok.ensures.tangents c.in-Ok.ensures
