use Rattle.std.proofs.Common.{◌≡◌, ◌<◌, length, Some, slice_get, sym, ap, ◌∙◌, if◌then◌else◌, refl, subst, arith}
use Rattle.fl_ast.specs.declared.kind.Kind.{Kind}
use Rattle.fl_ast.specs.declared.kind.Kind.TheVariants as kind
use Rattle.fl_types.specs.Sharing.{is_ring_kind}
use Rattle.store_core.specs.Keys.{HasEachOnce}
use Rattle.store_core.proofs.Slots.{got}
use Rattle.resolved.specs.SlotTables.{kind_or, kind_at, is_ring_at}
use Rattle.resolved.proofs.Slots.{slot_again}
use Rattle.resolved.proofs.slot_table.SlotTable.kind.Goals as goal

again : (k : Kind) → (if is_ring_kind k then kind.Ring else kind.Index) ≡ k
again kind.Ring = refl
again kind.Index = refl

pub returns-clause-named : goal.returns-clause-named
returns-clause-named c =
    let long : c.args.slot < length c.self.inside.kinds.items = omega (arith, c.self.invariant.0, ap (λ p. length p.0) c.self.view_is) in
    let g : slice_get c.self.inside.kinds.items c.args.slot ≡ Some c.index.result.now = got c.self.inside.kinds.items c.args.slot c.index.result.now long c.index.ensures in
    let v : c.index.result.now ≡ kind_at c.args.self.now.1 c.args.slot = sym (ap kind_or g) ∙ ap (λ p. kind_at p.1 c.args.slot) c.self.view_is in
    let once : HasEachOnce c.args.self.now.0 = subst (λ p. HasEachOnce p.0) c.self.view_is c.self.invariant.1 in
    v ∙ sym (ap (λ o. if is_ring_at c.args.self.now.1 o then kind.Ring else kind.Index) (slot_again c.args.self.now.0 c.args.slot once c.requires) ∙ again (kind_at c.args.self.now.1 c.args.slot))
