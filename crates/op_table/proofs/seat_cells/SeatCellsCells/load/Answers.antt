use Rattle.std.proofs.Common.{◌∙◌, List, Some, drop, ap}
use Rattle.operations.specs.declared.op.Op.{Op}
use Rattle.operations.specs.declared.op.Op.TheVariants.{Load}
use Rattle.op_table.specs.declared.view.View.{View}
use Rattle.op_table.specs.Rule.{lists, position_of}
use Rattle.op_table.specs.Plays.{work, cells_alone}
use Rattle.op_table.specs.Seats.{rewound}
use Rattle.op_table.proofs.Rule.{lists_advance}
use Rattle.op_table.proofs.Alone.{alone_went, due_went, due_here, blank_advance}
use Rattle.op_table.proofs.seat_cells.SeatCellsCells.load.Goals as goal

pub load-requires-clause-next : goal.load-requires-clause-next
load-requires-clause-next g c = (due_here (work g.P.Plan.ops c.args.self.now.table.now.table.shared.key) c.args.self.now.chunk c.args.self.now.worker.seat.me.0 (Load c.args.p) c.args.self.now.listed c.requires.inside c.requires.due)

pub invariant_of-self : goal.invariant_of-self
invariant_of-self g c = let s = c.load.ensures.same in record {
  fits = s.0 ∙ c.args.self.now.fits;
  listed = ap (λ (v : View). lists c.args.self.now.chunk v.held) s.1 ∙ (lists_advance c.args.self.now.chunk c.args.self.now.chunk c.args.self.now.worker.seat.me.0.held ∙ c.args.self.now.listed);
}

pub returns-clause-cells : goal.returns-clause-cells
returns-clause-cells g c = let s = c.load.ensures.same in ap (cells_alone (work g.P.Plan.ops c.args.self.now.table.now.table.shared.key) c.args.self.now.chunk) s.1 ∙ alone_went (work g.P.Plan.ops c.args.self.now.table.now.table.shared.key) c.args.self.now.chunk c.args.self.now.worker.seat.me.0 (Load c.args.p) (due_here (work g.P.Plan.ops c.args.self.now.table.now.table.shared.key) c.args.self.now.chunk c.args.self.now.worker.seat.me.0 (Load c.args.p) c.args.self.now.listed c.requires.inside c.requires.due)

pub returns-clause-due : goal.returns-clause-due
returns-clause-due g c = let s = c.load.ensures.same in ap (λ (l : List Op). Some l) (ap (λ (v : View). drop (position_of c.args.self.now.chunk v.held) (g.P.Plan.ops c.args.self.now.table.now.table.shared.key.plan c.args.self.now.chunk)) s.1 ∙ due_went (work g.P.Plan.ops c.args.self.now.table.now.table.shared.key) c.args.self.now.chunk c.args.self.now.worker.seat.me.0 (Load c.args.p) (due_here (work g.P.Plan.ops c.args.self.now.table.now.table.shared.key) c.args.self.now.chunk c.args.self.now.worker.seat.me.0 (Load c.args.p) c.args.self.now.listed c.requires.inside c.requires.due))

pub returns-clause-home : goal.returns-clause-home
returns-clause-home g c = let s = c.load.ensures.same in λ i. (s.0 i, c.args.self.now.chunk, (ap (λ (v : View). rewound c.args.self.now.chunk v.held) s.1 ∙ blank_advance c.args.self.now.chunk c.args.self.now.worker.seat.me.0.held) i, (s.1 i).found, (s.1 i).parts, (work g.P.Plan.ops c.args.self.now.table.now.table.shared.key))
