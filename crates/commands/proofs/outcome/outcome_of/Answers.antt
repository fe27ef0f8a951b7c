use Rattle.std.proofs.Common.{refl}
use Rattle.ending.proofs.Follow.{stands, says_part}
use Rattle.commands.specs.Done.{IsDone}
use Rattle.commands.proofs.CommandsDone.{undone, describe_undone, check_undone, replay_undone}
use Rattle.commands.proofs.AdjointDone.{still}
use Rattle.commands.proofs.CertificateDone.{still_proved}
use Rattle.commands.proofs.outcome.outcome_of.Goals as goal

pub returns-in-Adjoint-clause-done : goal.returns-in-Adjoint-clause-done
returns-in-Adjoint-clause-done g c = still (g.F.Folder.state c.args.folder.now).contents c.args.words.now _ c.args.steps.now c.adjoint.result c.in-Adjoint.is c.adjoint.ensures.done

pub returns-in-Prove-clause-done : goal.returns-in-Prove-clause-done
returns-in-Prove-clause-done g c = still_proved (g.F.Folder.state c.args.folder.now).contents c.args.words.now _ c.args.steps.now c.prove.result c.in-Prove.is c.prove.ensures.done

pub returns-in-Report-clause-done : goal.returns-in-Report-clause-done
returns-in-Report-clause-done g c =
    undone _ c.describe.ensures (λ files text led. describe_undone _ led refl) (λ files text. IsDone files c.args.words.now text c.args.steps.now c.args.steps.now)

pub returns-in-Check-clause-done : goal.returns-in-Check-clause-done
returns-in-Check-clause-done g c =
    undone _ c.check.ensures (λ files text led. check_undone _ _ led refl) (λ files text. IsDone files c.args.words.now text c.args.steps.now c.args.steps.now)

pub returns-in-Replay-clause-done : goal.returns-in-Replay-clause-done
returns-in-Replay-clause-done g c =
    undone _ c.replay.ensures (λ files text led. replay_undone _ led refl) (λ files text. IsDone files c.args.words.now text c.args.steps.now c.args.steps.now)

pub returns-in-Load-clause-stage : goal.returns-in-Load-clause-stage
unfolding Rattle.commands.specs.Plans.load_stage
returns-in-Load-clause-stage g c = rw c.in-Load.is (stands (says_part c.not_built.ensures (λ rest. refl)))
