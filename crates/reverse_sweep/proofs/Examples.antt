-- The machine computes: sums of additions, and a small program that is undone.
use Rattle.std.specs.Prelude.{◌≡◌, ℕ, List, [], ◌∷◌, refl}
use Rattle.ring_core.specs.Index.{exact_index}
use Rattle.operations.specs.declared.op.Op.TheVariants.{Add}
use Rattle.meaning.specs.Statements.{run_all}
use Rattle.transposition.specs.Tapes.{empty, tape_after}
use Rattle.transposition.proofs.Examples.{mixed, mixed_site, mixed_cells, begin}
use Rattle.undo_steps.proofs.Examples.{mixed_names, mixed_undos}
use Rattle.reverse_sweep.specs.Reversing.{Stage, Reversing, reversing, added, opened_sum, closed_sum}
use Rattle.reverse_sweep.specs.Machine.{undos_run}

abbrev stage_of : List ℕ → List (ℕ × ℕ) → Stage
stage_of c rs = record { cells = c; sums = rs; ops = []; adds = 0 }

-- an addition goes to the innermost sum of its cell
to_a_sum : added 1 5 (stage_of (10 ∷ 20 ∷ []) ((0, 1) ∷ (1, 2) ∷ (1, 3) ∷ [])) ≡ stage_of (10 ∷ 20 ∷ []) ((0, 1) ∷ (1, 7) ∷ (1, 3) ∷ [])
to_a_sum = refl

-- or else to the cell
to_a_cell : added 1 5 (stage_of (10 ∷ 20 ∷ []) ((0, 1) ∷ [])) ≡ record { cells = 10 ∷ 25 ∷ []; sums = (0, 1) ∷ []; ops = Add 1 5 ∷ []; adds = 0 }
to_a_cell = refl

-- a sum is made at its end, to the sum outside of it where there is one
sum_made : closed_sum 1 (added 1 5 (added 1 4 (opened_sum 1 (stage_of (10 ∷ 20 ∷ []) [])))) ≡ record { cells = 10 ∷ 29 ∷ []; sums = []; ops = Add 1 9 ∷ []; adds = 0 }
sum_made = refl

sum_within : closed_sum 1 (added 1 5 (opened_sum 1 (stage_of (10 ∷ 20 ∷ []) ((1, 2) ∷ [])))) ≡ stage_of (10 ∷ 20 ∷ []) ((1, 7) ∷ [])
sum_within = refl

abbrev mixed_end : Reversing
mixed_end =
    undos_run mixed_names 5 mixed_undos
    (reversing (begin (tape_after (run_all mixed mixed_site mixed_cells).log empty) (0 ∷ 0 ∷ []) (0 ∷ 0 ∷ [])) (stage_of (2 ∷ 7 ∷ 135 ∷ 2 ∷ 18446744073709551613 ∷ 0 ∷ 0 ∷ 1 ∷ 0 ∷ 0 ∷ []) []))

mixed_undone : mixed_end.stage.cells ≡ 2 ∷ 7 ∷ 100 ∷ 2 ∷ 18446744073709551613 ∷ 0 ∷ 5 ∷ 1 ∷ 84 ∷ 7 ∷ []
unfolding exact_index
mixed_undone = refl

mixed_tape : mixed_end.local.tape ≡ empty
unfolding exact_index
mixed_tape = refl
