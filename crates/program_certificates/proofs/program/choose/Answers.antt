use Rattle.std.proofs.Common.{◌≡◌, ℕ, Bool, List, ap, subst, ◌∙◌}
use Rattle.std.specs.List.{AllByRecursion}
use Rattle.fl_types.specs.Sharing.{has_name}
use Rattle.certificate_check.specs.Flaws.{Loops, loops_of}
use Rattle.loop_pairs.specs.Known.{known_of, AreSurveys}
use Rattle.sharing_choice.specs.Shown.{HoldsOf}
use Rattle.program_certificates.proofs.Disjointness.{all_disjoint}
use Rattle.program_certificates.proofs.program.choose.Goals as goal

pub returns-clause-disjoint : goal.returns-clause-disjoint
returns-clause-disjoint c =
    let on : List ℕ → Bool = λ x. has_name x c.args.active.now.names in
    let known = c.in_ok-known_loops.ensures.known in
    let same : loops_of c.as_slice.result.now ≡ known_of c.args.typed.now on = ap (λ ls. loops_of ls) (c.as_slice.ensures ∙ (c.get.ensures ∙ c.of-loops.ensures)) ∙ known in
    all_disjoint (known_of c.args.typed.now on) (subst AreSurveys known c.in_ok-known_loops.ensures.surveys) c.in_ok-choose.field-0.choices.entries
    (subst (λ (ls : Loops). AllByRecursion (HoldsOf ls) c.in_ok-choose.field-0.choices.entries) same c.in_ok-choose.ensures.shown)
