-- The reverse iterations of a parallel loop are disciplined.
use Rattle.std.proofs.Common.{◌≡◌, ℕ, List, ap, sym, ◌∙◌, subst, Some, Ok}
use Rattle.std.specs.Prelude.{if◌then◌else◌}
use Rattle.fl_ast.specs.Tree.{loop}
use Rattle.fl_types.specs.Nests.{Head, is_nest, further_head, iteration_body}
use Rattle.operations.specs.Tree.{Tree}
use Rattle.operations.specs.Order.{IsDisciplined, ops_alone}
use Rattle.meaning.specs.declared.value.TrapAt.{TrapAt}
use Rattle.meaning.specs.Logs.{Log, Traced}
use Rattle.meaning.specs.Sites.{Cells}
use Rattle.meaning.specs.Statements.{Heads, heads_of, iterations, turns, run}
use Rattle.transposition.specs.Tapes.{Tape, Tapes, many, top_tapes, tape_after, iteration_tapes}
use Rattle.transposition.specs.Worlds.{World, Local, in_iteration}
use Rattle.transposition.specs.Back.{below_bounds, heads_on, iteration_tree, loop_iterations, loop_heads, back_all, back_inner}
use Rattle.transposition.specs.Law.{local, flat}
use Rattle.transposition.specs.Discipline.{IterationsAreDisciplined}
use Rattle.transposition.proofs.RoundFacts.{round_facts}
use Rattle.transposition.proofs.Heads.{HeadsRun, heads_run, below_is, heads_is}
use Rattle.transposition.proofs.Nesting.{body_back}
use Rattle.transposition.proofs.Iterations.{iteration_run}
use Rattle.transposition.proofs.Parallel.{loop_tape, ParallelUndone, parallel_undone}
use Rattle.transposition.proofs.Whole.{ParallelRun, parallel_run, by_body, kept_body, sound_undone, kept_all, kept_inner, undone_all, undone_inner, flat_calm}

pub orderly_loop : IterationsAreDisciplined
orderly_loop w u line number directive var first last step body s s2 t vs bs fit sound calm h like wide long small =
    subst (λ (x : Tape). disciplined-at x (if is_nest directive body then back_inner body else back_all body)) (sym tape-is)
    (subst (λ (g : World → Local → Tree Local). disciplined-at full g) (sym (body_back (is_nest directive body) body)) at-full)
  where
    d : Head
    d = record { line = line; var = var; first = first; last = last; step = step }

    v : World
    v = in_iteration w number directive var body

    p : ParallelRun w line d directive body s s2
    p = parallel_run w line d directive body s s2 h

    r : HeadsRun w.site s var (further_head directive body) (heads_of d (further_head directive body) w.site s).log p.heads
    r = heads_run w u s fit d (further_head directive body) sound.2 sound.3 p.heads p.counts

    f : ℕ → Cells → Traced TrapAt Cells
    f = iteration_run w directive var body p.heads

    tapes : Tapes
    tapes = iteration_tapes (turns (iterations p.heads) f s).log

    full : Tape
    full = loop_tape p.heads tapes t

    u0 : ParallelUndone w u (turns (iterations p.heads) f s).log number directive var body p.heads t tapes s s2 vs bs
    u0 = parallel_undone w u sound.0 (turns (iterations p.heads) f s).log number directive var body (round_facts w u sound.0 number directive var body sound.5 sound.1)
        (kept_body (is_nest directive body) body v sound.0 sound.4 (λ q s s2 fit h. kept_all body v sound.0 s s2 fit q h) (λ q s s2 fit h. kept_inner body v sound.0 s s2 fit q h))
        (sound_undone (is_nest directive body) body v sound.0 sound.4
        (λ q s ts s2 t fit ins h. undone_all body v sound.0 ts s s2 t fit q (flat_calm body v s sound.5) ins h)
        (λ q s ts s2 t fit ins h. undone_inner body v sound.0 ts s s2 t fit q sound.5 ins h))
        p.heads r.names r.counted s s2 fit (p.ran ∙ ap (λ (x : Cells). Ok x) p.last_is) (calm p.heads p.counts) t vs bs like wide long small

    with-heads : Heads → Tape → (World → Local → Tree Local) → Type 0
    with-heads hs x g = IsDisciplined (ops_alone (iteration_tree w number directive var body hs (top_tapes x) g (local w.shared x vs bs)) (flat w.shared vs bs)) (iterations hs)

    disciplined-at : Tape → (World → Local → Tree Local) → Type 0
    disciplined-at x g = IsDisciplined (ops_alone (loop_iterations w number directive var body g (local w.shared x vs bs)) (flat w.shared vs bs)) (iterations (loop_heads directive var body (local w.shared x vs bs)))

    at-full : disciplined-at full (back_all (iteration_body directive body))
    at-full = subst (λ (l : List (List ℕ)). with-heads (heads_on l full) (below_bounds l full) (back_all (iteration_body directive body))) r.names
        (rw (heads_is p.heads (many tapes t) r.counted, below_is p.heads (many tapes t)) u0.orderly)

    tape-is : tape_after (run (loop line number (Some directive) var first last step body) w.site s).log t ≡ full
    tape-is = ap (λ (x : Traced TrapAt Cells). tape_after x.log t) (by_body w line d directive body s) ∙ (ap (λ (m : Log). tape_after m t) p.log ∙ ap (λ (x : Tape). loop_tape p.heads tapes x) (r.quiet t))
