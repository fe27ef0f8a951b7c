use Rattle.std.proofs.Common.{refl, length, subst}
use Rattle.meaning.specs.Fitting.{names_at}
use Rattle.resolved.specs.SlotTables.{table_site}
use Rattle.resolved.specs.ResolvedExprs.{place_back, expression_back}
use Rattle.sweep_trees.specs.Split.{spot_tree}
use Rattle.split_trees.specs.Codes.{code_tree, StandsFor, SpotStandsFor}
use Rattle.split_trees.proofs.Parts.{place_within}
use Rattle.made_steps.proofs.Stores.{assignment_kinded, place_named, assigned}
use Rattle.made_steps.proofs.store.assign.Goals as goal

pub split_expression-requires-clause-kinded : goal.split_expression-requires-clause-kinded
split_expression-requires-clause-kinded c =
    (assignment_kinded (names_at (table_site c.args.table.now)) (place_back c.args.table.now.0 c.args.target.now) (expression_back c.args.table.now.0 c.args.value.now) c.requires.kinded).2

pub returns : goal.returns
returns c site outer atomic sc =
    let s = c.args.table.now in
    let p = place_back s.0 c.args.target.now in
    let e = expression_back s.0 c.args.value.now in
    let place : SpotStandsFor s c.args.marks.now.accessed c.args.target.now.slot p (spot_tree c.in_ok-spot.spot)
    = subst (λ flags. SpotStandsFor s flags c.args.target.now.slot p (spot_tree c.in_ok-spot.spot)) c.as_slice-2.ensures c.in_ok-spot.ensures in
    let content : StandsFor s c.args.marks.now.accessed e (code_tree c.in_ok-value.value)
    = subst (λ flags. StandsFor s flags e (code_tree c.in_ok-value.value)) c.as_slice.ensures c.in_ok-value.ensures in (
      refl,
      assigned s c.args.pushed.now c.args.marks.now.accessed c.args.marks.now.reduced outer site c.args.target.now.slot c.is_marked-pushes.result (spot_tree c.in_ok-spot.spot) (code_tree c.in_ok-value.value) p e
          c.requires.once (place_within (length s.0) c.args.target.now c.requires.target_within) (place_named s.0 c.args.target.now) sc c.requires.kinded c.requires.plain c.is_marked-pushes.ensures place content,
    )
