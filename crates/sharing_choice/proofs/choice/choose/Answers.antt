use Rattle.std.proofs.Common.{sym, ◌∙◌, subst, List}
use Rattle.std.specs.List.{AllByRecursion}
use Rattle.fl_types.specs.declared.choice.Chosen.{Chosen}
use Rattle.certificate_check.specs.Flaws.{loops_of}
use Rattle.sharing_choice.specs.Shown.{HoldsOf}
use Rattle.sharing_choice.proofs.Sound.{all_hold}
use Rattle.sharing_choice.proofs.choice.choose.Goals as goal

pub returns-clause-shown : goal.returns-clause-shown
returns-clause-shown c =
    subst (λ (l : List Chosen). AllByRecursion (HoldsOf (loops_of c.args.loops.now)) l) (sym (c.into_inner.ensures ∙ (c.of-entries.ensures ∙ c.in_ok-chosen_all.ensures)))
    (all_hold (loops_of c.args.loops.now) c.args.givens.now c.as_slice.result.now)
