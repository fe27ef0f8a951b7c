use Rattle.std.proofs.Common.{◌≡◌, ◌++◌, drop, map, List}
use Rattle.std.specs.Prelude.{true, take}
use Rattle.std.specs.List.{list_all}
use Rattle.transposition.specs.Back.{rest_occurrences}
use Rattle.transposition.specs.Spread.{Occurrence}
use Rattle.transposition.specs.Worlds.{World}
use Rattle.undo_steps.specs.UndoSteps.{growth_tree}
use Rattle.undo_steps.specs.UndosStand.{EachGrowthStands}
use Rattle.made_steps.specs.Scopes.{signed_of, is_signed_ready}
use Rattle.made_growths.specs.Told.{told, IsGrowing}
use Rattle.made_undos.proofs.chains.push_each.Given as goal

-- those of the terms before are there
abbrev pub invariant-loop-term : goal.invariant-loop-term
invariant-loop-term l = record {
  grown : (w : World) → (os : List Occurrence) → IsGrowing l.table (told l.names) l.region w → EachGrowthStands l.table w os (map growth_tree l.fn.growths)
      → EachGrowthStands l.table w (os ++ rest_occurrences w.active (map (signed_of l.table.0) (take l.term-index l.terms))) (map growth_tree l.growths);
  ready : list_all (is_signed_ready l.table) (drop l.term-index l.terms) ≡ true;
}
