use Rattle.std.proofs.Common.{ap, ◌∙◌}
use Rattle.fl_ast.specs.declared.stmt.Program.{Program}
use Rattle.fl_types.specs.Sharing.{has_name}
use Rattle.certificate_check.specs.Flaws.{loops_of}
use Rattle.loop_pairs.proofs.Loops.{of_program}
use Rattle.loop_pairs.proofs.Surveys.{all_surveys}
use Rattle.loop_pairs.proofs.program.known_loops.Goals as goal

pub returns-clause-known : goal.returns-clause-known
returns-clause-known c =
    let same = c.in_ok-indexed.ensures ∙ c.program.ensures.program in
    of_program (λ x. has_name x c.args.active.now.names) c.args.typed.now c.in_ok-indexed.indexed.decls c.as_slice.result.now c.in_ok-loops.loops c.as_slice-2.result.now (loops_of c.in_ok-known_among.field-0)
    (ap (λ (p : Program). p.decls) same) c.as_slice-2.ensures c.in_ok-loops.ensures.loops (c.as_slice.ensures ∙ ap (λ (p : Program). p.body) (c.program-2.ensures ∙ same)) c.in_ok-known_among.ensures

pub returns-clause-surveys : goal.returns-clause-surveys
returns-clause-surveys c =
    all_surveys c.args.typed.now (λ x. has_name x c.args.active.now.names) (loops_of c.in_ok-known_among.field-0) c.program.ensures.typed (returns-clause-known c)
