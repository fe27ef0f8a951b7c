use Rattle.std.proofs.Common.{sym, subst, ◌↔◌, ℕ}
use Rattle.reachability.specs.Reached.{IsMarked, IsReached, Leads}
use Rattle.reachability.proofs.Listed.{names_reached, on_if_ok, both_ways}
use Rattle.reachability.proofs.naming.reached_names.Goals as goal

pub returns : goal.returns
returns c = λ rs es r l. on_if_ok c.names_at.result (λ names f x. both_ways (f x)
    (names_reached c.args.decls.now c.args.roots.now c.args.links.now c.in_ok-marks.marks c.as_slice.result.now rs es r l c.in_ok-marks.ensures.marked
    (subst (λ m. (i : ℕ) → IsMarked m i ↔ IsReached (IsMarked c.in_ok-marks.marks) (Leads c.args.links.now) i) (sym c.as_slice.ensures) c.in_ok-reach.ensures.reached) x)) c.names_at.ensures
