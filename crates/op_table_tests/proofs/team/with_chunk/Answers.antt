use Rattle.std.proofs.Common.{ℕ, sym, ap, ◌∙◌}
use Rattle.op_table.specs.Rule.{lists, position_of}
use Rattle.op_table.specs.declared.worker.Worker.{Worker}
use Rattle.op_table.specs.declared.table.OpTable.{OpTable}
use Rattle.op_table_tests.proofs.Ends.{same_lists_at, same_position_at, end_of}
use Rattle.op_table_tests.proofs.team.with_chunk.Goals as goal

pub returns-clause-lists : goal.returns-clause-lists
returns-clause-lists g c = λ k.
    let h = c.sweep.ensures.home in
    let o = c.of-cells.ensures in
    let w = c.into_worker.ensures in
    ap (λ (x : Worker g.row.P.Denot). lists k x.seat.me.0.held) w
    ∙ (same_lists_at c.of-cells.result.chunk c.sweep.new.cells.chunk c.sweep.new.cells.worker.seat.me.0.held c.of-cells.result.worker.seat.me.0.held (λ i. (h i).1) (λ i. (h i).2) k
    ∙ ap (λ (x : Worker g.row.P.Denot). lists k x.seat.me.0.held) o.0)

pub returns-clause-others : goal.returns-clause-others
returns-clause-others g c = λ k ne.
    let h = c.sweep.ensures.home in
    let o = c.of-cells.ensures in
    let w = c.into_worker.ensures in
    ap (λ (x : Worker g.row.P.Denot). position_of k x.seat.me.0.held) w
    ∙ (same_position_at c.of-cells.result.chunk c.sweep.new.cells.chunk c.sweep.new.cells.worker.seat.me.0.held c.of-cells.result.worker.seat.me.0.held (λ i. (h i).1) (λ i. (h i).2) k (λ e. ne (e ∙ o.2))
    ∙ ap (λ (x : Worker g.row.P.Denot). position_of k x.seat.me.0.held) o.0)

pub returns-clause-end : goal.returns-clause-end
returns-clause-end g c =
    let h = c.sweep.ensures.home in
    let o = c.of-cells.ensures in
    let w = c.into_worker.ensures in
    let last = c.sweep.new.cells in
    let first = c.of-cells.result in
    end_of (g.P.Plan.ops c.args.table.now.table.shared.key.plan c.args.chunk) (g.P.Plan.ops last.table.now.table.shared.key.plan last.chunk)
    (position_of c.args.chunk c.into_worker.result.seat.me.0.held) (position_of last.chunk last.worker.seat.me.0.held)
    ((λ i. (h i).5.ops (h i).1)
    ∙ (ap (λ (t : OpTable g.row.P.Denot). g.P.Plan.ops t.table.shared.key.plan first.chunk) o.1 ∙ ap (g.P.Plan.ops c.args.table.now.table.shared.key.plan) o.2))
    (ap (λ (k : ℕ). position_of k last.worker.seat.me.0.held) ((λ i. (h i).1) ∙ o.2) ∙ ap (λ (x : Worker g.row.P.Denot). position_of c.args.chunk x.seat.me.0.held) (sym w))
    c.sweep.ensures.due
