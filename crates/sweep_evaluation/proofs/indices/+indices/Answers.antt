use Rattle.std.proofs.Common.{rules, refl, ◌≡◌, ap, sym, subst, ◌∙◌, length, [], ◌∷◌, ◌++◌, List, ℤ, arith, ◌<◌, ◌≤◌, ◌+◌}
use Rattle.std.specs.Prelude.{take}
use Rattle.store_core.specs.Keys.{place_in_slot}
use Rattle.sweep_trees.specs.declared.code.IndexCode.{IndexCode}
use Rattle.sweep_trees.specs.Split.{index_trees}
use Rattle.sweep_evaluation.specs.Machine.{Does, ran, index_values}
use Rattle.sweep_evaluation.proofs.Doing.{does_nothing, does_both, does_more, taken_more, taken_all}
use Rattle.sweep_evaluation.proofs.indices.+indices.Goals as goal

pub elements_place-loop-subscript-init : goal.elements_place-loop-subscript-init
elements_place-loop-subscript-init g t c = record {
  so_far = subst (λ (zs : List ℤ). Does g.A.Access.stands g.A.Access.lost c.args.access.now c.args.access.now zs (index_values g.A.Access.told c.args.table.now (index_trees (take 0 c.args.subscripts.now))))
      (sym c.new-numbers.ensures.items) (does_nothing g.A.Access.stands g.A.Access.lost c.args.access.now []);
  steady = refl;
}

pub elements_place-loop-subscript-preserved : goal.elements_place-loop-subscript-preserved
elements_place-loop-subscript-preserved g t c =
    let xs : List IndexCode = c.args.subscripts.now in
    let i = c.loop-subscript.subscript-index in
    let m : take (i + 1) xs ≡ take i xs ++ c.subscript-item.result ∷ [] = taken_more xs i c.subscript-item.result (search (rules)) c.subscript-item.is in
    let q : c.push.new.self.items ≡ c.loop-subscript.numbers.items ++ c.index-number.result ∷ [] = search (rules) in
    record {
      so_far = rw (q, m) (does_more g.A.Access.stands g.A.Access.lost c.args.access.now c.loop-subscript.access c.index-number.new.access g.A.Access.told c.args.table.now
          (take i xs) c.subscript-item.result c.loop-subscript.numbers.items c.index-number.result c.loop-subscript.invariant.so_far c.index-number.ensures.does);
      steady = c.index-number.ensures.steady ∙ c.loop-subscript.invariant.steady;
    }

pub elements_place-returns-clause-does : goal.elements_place-returns-clause-does
elements_place-returns-clause-does g t c =
    let xs : List IndexCode = c.args.subscripts.now in
    let w : take c.loop-subscript.subscript-index xs ≡ xs = taken_all xs c.loop-subscript.subscript-index (search (rules)) in
    let p : c.place_at.result ≡ place_in_slot c.args.table.now.0 c.args.slot c.loop-subscript.numbers.items = search (rules) in
    let d : Does g.A.Access.stands g.A.Access.lost c.args.access.now c.loop-subscript.access c.loop-subscript.numbers.items (index_values g.A.Access.told c.args.table.now (index_trees xs))
    = subst (λ (ys : List IndexCode). Does g.A.Access.stands g.A.Access.lost c.args.access.now c.loop-subscript.access c.loop-subscript.numbers.items (index_values g.A.Access.told c.args.table.now (index_trees ys))) w c.loop-subscript.invariant.so_far in
    rw p (does_both (index_values g.A.Access.told c.args.table.now (index_trees xs)) (λ zs. ran (place_in_slot c.args.table.now.0 c.args.slot zs)) d
    (does_nothing g.A.Access.stands g.A.Access.lost c.loop-subscript.access (place_in_slot c.args.table.now.0 c.args.slot c.loop-subscript.numbers.items)))
