use Rattle.std.proofs.Common.{◌≡◌, ◌<◌, ℕ, arith, length, subst, sym, false, ◌∙◌, ap}
use Rattle.std.proofs.lemmas.List.{length-replicate}
use Rattle.reachability.specs.Reached.{IsMarked, is_marked}
use Rattle.reachability.proofs.Marks.{Closing, opened, closed_on, closed, unmarked}
use Rattle.reachability.proofs.closing.reach.Goals as goal

before_done : {i a b c : ℕ} → i < a → a ≡ b → c ≡ b → i < c
before_done h e f = omega (arith, h, e, f)

pub loop-at-init : goal.loop-at-init
loop-at-init c =
    opened c.args.links.now c.args.marks.now c.in_ok-done.done (ap length c.in_ok-done.ensures ∙ (length-replicate c.len.result false ∙ c.len.ensures))
    (λ i. subst (λ m. is_marked m i ≡ false) (sym c.in_ok-done.ensures) (unmarked c.len.result i))

pub loop-at-preserved : goal.loop-at-preserved
loop-at-preserved c =
    let k = subst (λ d. Closing c.args.links.now c.args.marks.now c.mark_heads.new.marks d) (sym c.set.ensures)
    (closed_on c.args.links.now c.args.marks.now c.loop-at.marks c.loop-at.done c.mark_heads.new.marks c.in-Some.at
    (before_done (subst (λ m. c.in-Some.at < length m) c.as_slice.ensures c.in-Some.ensures.0) c.loop-at.invariant.long c.loop-at.invariant.wide)
    (subst (λ m. IsMarked m c.in-Some.at) c.as_slice.ensures c.in-Some.ensures.1)
    c.mark_heads.ensures.length c.mark_heads.ensures.kept c.mark_heads.ensures.heads c.mark_heads.ensures.only c.loop-at.invariant)
    in k

pub returns-clause-reached : goal.returns-clause-reached
returns-clause-reached c =
    λ i. (
      λ m. c.loop-at.invariant.sound i m,
      λ r. closed c.args.links.now c.args.marks.now c.loop-at.marks c.loop-at.done c.requires
          (λ j b m. subst (λ d. IsMarked d j) c.as_slice-in-loop-at.ensures (c.in_default.ensures j (subst (λ x. j < length x) (sym c.as_slice.ensures) b) (subst (λ x. IsMarked x j) (sym c.as_slice.ensures) m)))
          c.loop-at.invariant i r,
    )
