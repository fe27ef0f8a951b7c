use Rattle.std.proofs.Common.{◌≡◌, refl, length, subst, ap, ◌∙◌}
use Rattle.resolved.specs.ResolvedExprs.{place_back}
use Rattle.sweep_trees.specs.Split.{spot_tree}
use Rattle.sweep_trees.specs.Standing.{is_accessed_at}
use Rattle.split_trees.specs.Codes.{SpotStandsFor}
use Rattle.made_steps.specs.Scopes.{term_trees}
use Rattle.split_trees.proofs.Parts.{place_within}
use Rattle.made_steps.proofs.Stores.{place_named, updated}
use Rattle.made_steps.proofs.store.update.Goals as goal

pub returns : goal.returns
returns c site pushed outer e rs sc i ts =
    let s = c.args.table.now in
    let p = place_back s.0 c.args.target.now in
    let place : SpotStandsFor s c.args.marks.now.accessed c.args.target.now.slot p (spot_tree c.in_ok-spot.spot)
    = subst (λ flags. SpotStandsFor s flags c.args.target.now.slot p (spot_tree c.in_ok-spot.spot)) c.as_slice.ensures c.in_ok-spot.ensures in
    let plus : c.is_marked.result ≡ is_accessed_at c.args.marks.now.reduced c.args.target.now.slot
    = c.is_marked.ensures ∙ ap (λ marks. is_accessed_at marks c.args.target.now.slot) c.as_slice-2.ensures in (
      refl,
      updated s pushed c.args.marks.now.accessed c.args.marks.now.reduced outer site c.args.target.now.slot c.args.atomic c.is_marked.result c.increment_kind-kind.result (spot_tree c.in_ok-spot.spot) (term_trees c.args.terms) p e rs
          c.requires.once (place_within (length s.0) c.args.target.now c.requires.target_within) (place_named s.0 c.args.target.now) sc i plus c.increment_kind-kind.ensures place ts,
    )
