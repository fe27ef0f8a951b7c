-- Statements of a reverse sweep, and that they undo a small program: a private scalar, a Reduction, an atomic increment, a power, a `max`.
--   d = x(i)**3
--   y = y + a*max(d, x(i))
use Rattle.std.specs.Prelude.{true, false, [], ◌∷◌, map, Some, refl}
use Rattle.fl_ast.specs.declared.kind.RelOp.TheVariants.{Ge}
use Rattle.fl_ast.specs.declared.kind.Kind.TheVariants as kind
use Rattle.fl_types.specs.declared.choice.Choice.TheVariants.{Atomic, Reduction}
use Rattle.meaning.proofs.Small.{declared, scalar as scalar_shape, array}
use Rattle.resolved.specs.SlotTables.{Names, names_of}
use Rattle.sweep_trees.specs.declared.code.RingOp.TheVariants.{Mul}
use Rattle.sweep_trees.specs.Split.{SpotTree, scalar, element, index_get, RingTree, word, ring_get, ring_binary, ring_power, ring_larger, ring_test}
use Rattle.fl_types.specs.Nests.{inner_body}
use Rattle.sweep_trees.specs.Standing.{spot_back, ring_back}
use Rattle.transposition.specs.Spread.{Occurrence}
use Rattle.transposition.specs.Worlds.{World, in_iteration}
use Rattle.transposition.proofs.Examples.{n, a, y, x, i, d, private_d, mixed, mixed_world}
use Rattle.undo_steps.specs.UndoSteps.{operand_factor, either_factor, GrowthTree, undo_plain, undo_increment, back_iterations, UndoTrees, undo_store, undo_loop, no_undos, undos}
use Rattle.undo_steps.specs.UndosStand.{factor_back, GrowthStands, AllUndoStand}

abbrev pub mixed_names : Names
mixed_names =
    names_of (scalar_shape n ∷ scalar_shape a ∷ scalar_shape y ∷ array x 2 ∷ []) (declared kind.Index n ∷ declared kind.Ring a ∷ declared kind.Ring y ∷ declared kind.Ring x ∷ declared kind.Index i ∷ declared kind.Ring d ∷ [])

abbrev spot_a : SpotTree
spot_a = scalar 1 1 false

abbrev spot_y : SpotTree
spot_y = scalar 2 2 false

abbrev spot_d : SpotTree
spot_d = scalar 5 6 false

abbrev spot_x : SpotTree
spot_x = element 3 false (index_get (scalar 4 5 false))

abbrev larger : RingTree
larger = ring_larger (ring_get spot_d) (ring_get spot_x)

abbrev cubed : GrowthTree
cubed = record { place = spot_x; negative = false; choice = Atomic; factors = operand_factor (word 3) ∷ operand_factor (ring_power (ring_get spot_x) 2) ∷ [] }

abbrev of_a : GrowthTree
of_a = record { place = spot_a; negative = false; choice = Reduction; factors = operand_factor larger ∷ [] }

abbrev of_d : GrowthTree
of_d = record { place = spot_d; negative = false; choice = Atomic; factors = operand_factor (ring_get spot_a) ∷ either_factor 1 0 (ring_test Ge (ring_get spot_d) (ring_get spot_x)) ∷ [] }

abbrev of_x : GrowthTree
of_x = record { place = spot_x; negative = false; choice = Atomic; factors = operand_factor (ring_get spot_a) ∷ either_factor 0 1 (ring_test Ge (ring_get spot_d) (ring_get spot_x)) ∷ [] }

abbrev pub mixed_undos : UndoTrees
mixed_undos =
    undos
    (undo_loop (back_iterations (Some 5 ∷ []) (record { slot = 5; place = Some 6; pushes = true } ∷ []) (1 ∷ []))
    (undos (undo_store (undo_plain spot_d true (Some (cubed ∷ []))))
    (undos (undo_store (undo_increment spot_y (Some ((false, ring_binary Mul (ring_get spot_a) larger) ∷ [])) true (Some (of_a ∷ of_d ∷ of_x ∷ [])))) no_undos)))
    no_undos

-- the tree of a growth is its occurrence
abbrev read_as : GrowthTree → Occurrence
read_as g = record { place = spot_back mixed_names.0 g.place; negative = g.negative; factors = map (factor_back mixed_names.0) g.factors }

abbrev inside : World
inside = in_iteration mixed_world 1 private_d i (inner_body mixed)

cubed_stands : GrowthStands mixed_names inside (read_as cubed) cubed
cubed_stands = record { place = record { back = refl; fit = refl }; sign = refl; choice = refl; factors = refl; fit = refl }

a_stands : GrowthStands mixed_names inside (read_as of_a) of_a
a_stands = record { place = record { back = refl; fit = refl }; sign = refl; choice = refl; factors = refl; fit = refl }

d_stands : GrowthStands mixed_names inside (read_as of_d) of_d
d_stands = record { place = record { back = refl; fit = refl }; sign = refl; choice = refl; factors = refl; fit = refl }

x_stands : GrowthStands mixed_names inside (read_as of_x) of_x
x_stands = record { place = record { back = refl; fit = refl }; sign = refl; choice = refl; factors = refl; fit = refl }

mixed_stands : AllUndoStand mixed_names mixed_world mixed_undos mixed
mixed_stands = (
  (
    record { variables = refl; scalars = (record { slot = refl; place = refl; pushing = refl }, tt); sums = refl },
    (
      record { plain = refl; place = record { back = refl; fit = refl }; restoring = refl; growing = (cubed_stands, tt) },
      (
        record {
          rest = (false, ring_back mixed_names.0 (ring_binary Mul (ring_get spot_a) larger)) ∷ [];
          form = refl;
          place = record { back = refl; fit = refl };
          reversing = record { back = refl; fit = refl };
          steps = refl;
          growing = (a_stands, (d_stands, (x_stands, tt)));
        },
        tt,
      ),
    ),
  ),
  tt,
)
