use Rattle.std.proofs.Common.{arith, ◌≡◌, ◌∙◌, ◌+◌, ◌*◌, ◌<◌, ℕ, List, ap, sym, length, [], ◌∷◌}
use Rattle.std.specs.Prelude.{slice_index}
use Rattle.ring_core.specs.Ring.{ring_add}
use Rattle.operations.specs.declared.op.Op.TheVariants.{Load, Store, Bump, Add}
use Rattle.op_table_tests.proofs.Dues.{rest_due, bump_due, store_due, index_any}
use Rattle.op_table_tests.proofs.lists.Lists.iterate.Goals as goal

pub store-requires-clause-due : goal.store-requires-clause-due
store-requires-clause-due g c =
    let xs = c.args.self.now.opening.items in
    let ts = c.args.self.now.tape.items in
    let i = c.args.i in
    let last = Add (4 * c.args.self.now.chunks) (slice_index xs (2 * i)) ∷ [] in
    let z = c.args.self.now.sized in
    let inside : i < length ts = (let p = c.requires.place in omega arith) in
    let amount : c.index-amount.result.now ≡ slice_index ts i = c.index-amount.ensures ∙ index_any ts i c.index-amount.result.now inside in
    let word : c.load-word.result ≡ slice_index (g.C.Cells.cells c.load-word.new.self) (2 * i) = c.load-word.ensures.value ∙ ap (λ (l : List ℕ). slice_index l (2 * i)) (sym c.load-word.ensures.cells) in
    bump_due (g.C.Cells.cells c.load-word.new.self) (g.C.Cells.due c.load-word.new.self) (2 * i) (slice_index ts i) (ring_add c.load-word.result c.index-amount.result.now)
    (Store (2 * i + 1) (slice_index xs (2 * i)) ∷ last) (λ j. ring_add (word j) (amount j))
    (rest_due (g.C.Cells.due c.args.cells.now) (g.C.Cells.due c.load-word.new.self) (Load (2 * i)) (Bump (2 * i) (slice_index ts i) ∷ Store (2 * i + 1) (slice_index xs (2 * i)) ∷ last) c.load-word.ensures.due c.requires.due)

pub store-requires-2-clause-due : goal.store-requires-2-clause-due
store-requires-2-clause-due g c =
    let xs = c.args.self.now.opening.items in
    let ts = c.args.self.now.tape.items in
    let i = c.args.i in
    let last = Add (4 * c.args.self.now.chunks) (slice_index xs (2 * i)) ∷ [] in
    store_due (g.C.Cells.cells c.store.new.self) (g.C.Cells.due c.store.new.self) (2 * i + 1) (slice_index xs (2 * i)) c.load-word.result last (c.load-word.ensures.value ∙ c.requires.word)
    (rest_due (g.C.Cells.due c.load-word.new.self) (g.C.Cells.due c.store.new.self) (Bump (2 * i) (slice_index ts i)) (Store (2 * i + 1) (slice_index xs (2 * i)) ∷ last) c.store.ensures.due
    (rest_due (g.C.Cells.due c.args.cells.now) (g.C.Cells.due c.load-word.new.self) (Load (2 * i)) (Bump (2 * i) (slice_index ts i) ∷ Store (2 * i + 1) (slice_index xs (2 * i)) ∷ last) c.load-word.ensures.due c.requires.due))
