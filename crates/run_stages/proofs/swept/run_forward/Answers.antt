use Rattle.meaning.specs.Stops.{by_conflict}
use Rattle.forward_run.specs.Swept.{stop_in}
use Rattle.run_stages.specs.Runs.{run_meaning}
use Rattle.run_stages.proofs.Forwarding.{told_end, told_stop, ended_part, stopped_part}
use Rattle.run_stages.proofs.swept.run_forward.Goals as goal

pub returns-in-Ok-clause-part : goal.returns-in-Ok-clause-part
returns-in-Ok-clause-part g c =
    let i = c.args.inputs.now in
    let r = c.args.request.now in
    ended_part i.layout (stop_in by_conflict (run_meaning r i)) c.in-Ok.forwarded (told_end i.typed i.layout i.args r.of r.wrt c.as_slice.result.now c.args.needed.now.names c.in-Ok.forwarded _ _ c.as_slice.ensures c.requires.needed c.in-Ok.ensures).0.ends

pub returns-in-Ok-clause-ran : goal.returns-in-Ok-clause-ran
returns-in-Ok-clause-ran g c =
    let i = c.args.inputs.now in
    let r = c.args.request.now in
    (told_end i.typed i.layout i.args r.of r.wrt c.as_slice.result.now c.args.needed.now.names c.in-Ok.forwarded _ _ c.as_slice.ensures c.requires.needed c.in-Ok.ensures).0

pub returns-in-Ok-clause-ticks : goal.returns-in-Ok-clause-ticks
returns-in-Ok-clause-ticks g c =
    let i = c.args.inputs.now in
    let r = c.args.request.now in
    (told_end i.typed i.layout i.args r.of r.wrt c.as_slice.result.now c.args.needed.now.names c.in-Ok.forwarded _ _ c.as_slice.ensures c.requires.needed c.in-Ok.ensures).1

pub returns-in-Err-clause-part : goal.returns-in-Err-clause-part
returns-in-Err-clause-part g c =
    let i = c.args.inputs.now in
    let r = c.args.request.now in
    stopped_part i.layout (stop_in by_conflict (run_meaning r i)) c.in-Err.stop _ (told_stop i.typed i.layout i.args r.of r.wrt c.as_slice.result.now c.args.needed.now.names c.in-Err.stop c.as_slice.ensures c.requires.needed c.in-Err.ensures.0)
    c.stopped.ensures
