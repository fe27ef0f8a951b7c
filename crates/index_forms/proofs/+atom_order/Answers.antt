use Rattle.std.proofs.Common.{◌∙◌, sym, arith}
use Rattle.index_forms.proofs.Ends.{forms-longer, terms-longer, forms-shorter, terms-shorter}
use Rattle.index_forms.proofs.+atom_order.Goals as goal

pub comparison::forms_order-returns-then-i-gs : goal.comparison::forms_order-returns-then-i-gs
comparison::forms_order-returns-then-i-gs t c = forms-longer c.args.fs.now c.args.gs.now c.loop-i.i (omega arith) (omega arith) ∙ sym c.loop-i.invariant

pub comparison::terms_order-returns-then-i-us : goal.comparison::terms_order-returns-then-i-us
comparison::terms_order-returns-then-i-us t c = terms-longer c.args.ts.now c.args.us.now c.loop-i.i (omega arith) (omega arith) ∙ sym c.loop-i.invariant

pub comparison::forms_order-returns-then-fs-gs : goal.comparison::forms_order-returns-then-fs-gs
comparison::forms_order-returns-then-fs-gs t c = forms-shorter c.args.fs.now c.args.gs.now c.loop-i.i (omega arith) (omega arith) ∙ sym c.loop-i.invariant

pub comparison::terms_order-returns-then-ts-us : goal.comparison::terms_order-returns-then-ts-us
comparison::terms_order-returns-then-ts-us t c = terms-shorter c.args.ts.now c.args.us.now c.loop-i.i (omega arith) (omega arith) ∙ sym c.loop-i.invariant
