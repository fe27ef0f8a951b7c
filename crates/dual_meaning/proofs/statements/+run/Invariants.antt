use Rattle.std.proofs.Common.{◌≡◌, ◌+◌, drop, [], Ok}
use Rattle.std.specs.Prelude.{true}
use Rattle.store_core.specs.Keys.{place_in_slot}
use Rattle.resolved.specs.SlotTables.{table_site}
use Rattle.resolved.specs.ResolvedExprs.{slot_name}
use Rattle.resolved.specs.ResolvedStmts.{statement_back, statements_back, arms_back, are_fit, are_arms_fit}
use Rattle.dual_meaning.specs.Counted.{counted_turns, counted_turn, counted_begun, counted_all, counted_arms}
use Rattle.dual_meaning.specs.Running.{counted_round}
use Rattle.dual_meaning.proofs.statements.+run.Given as goal

-- the run is that of the arms that are left
abbrev pub invariant-run_begun-loop-arm : goal.invariant-run_begun-loop-arm
invariant-run_begun-loop-arm g l = record {
  rest : counted_arms (arms_back l.table.0 (drop l.arm-index l.arm-items)) l.line (counted_all (statements_back l.table.0 l.other) (table_site l.table)) (table_site l.table) l.progress.cells.items l.progress.left
      ≡ counted_begun (statement_back l.table.0 l.stmt) (table_site l.table) l.initial.progress.cells.items l.initial.progress.left;
  fit : are_arms_fit l.table (drop l.arm-index l.arm-items) ≡ true;
  ticks : l.steps + l.progress.left ≡ l.initial.steps + l.initial.progress.left;
}

-- the run is that of the statements that are left
abbrev pub invariant-run_statements-loop-stmt : goal.invariant-run_statements-loop-stmt
invariant-run_statements-loop-stmt g l = record {
  rest : counted_all (statements_back l.table.0 (drop l.stmt-index l.stmts)) (table_site l.table) l.progress.cells.items l.progress.left
      ≡ counted_all (statements_back l.table.0 l.stmts) (table_site l.table) l.initial.progress.cells.items l.initial.progress.left;
  fit : are_fit l.table (drop l.stmt-index l.stmts) ≡ true;
  ticks : l.steps + l.progress.left ≡ l.initial.steps + l.initial.progress.left;
}

-- the turns so far
abbrev pub invariant-run_turns-loop-turn : goal.invariant-run_turns-loop-turn
invariant-run_turns-loop-turn g l = record {
  so_far : counted_turns l.turn (counted_turn (table_site l.table) (slot_name l.table.0 l.variable) l.turns (counted_all (statements_back l.table.0 l.body) (table_site l.table))) l.initial.progress.cells.items l.initial.progress.left
      ≡ (Ok l.progress.cells.items, l.progress.left);
  place : l.place ≡ place_in_slot l.table.0 l.variable [];
  ticks : l.steps + l.progress.left ≡ l.initial.steps + l.initial.progress.left;
}

-- the iterations so far
abbrev pub invariant-run_rounds-loop-k : goal.invariant-run_rounds-loop-k
invariant-run_rounds-loop-k g l = record {
  so_far : counted_turns l.k (counted_round l.privates l.outer l.inner (counted_all (statements_back l.table.0 l.body) (table_site l.table))) l.initial.progress.cells.items l.initial.progress.left
      ≡ (Ok l.progress.cells.items, l.progress.left);
  ticks : l.steps + l.progress.left ≡ l.initial.steps + l.initial.progress.left;
}
