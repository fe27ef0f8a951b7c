-- The law of transposition for a whole program.
use Rattle.std.proofs.Common.{[], ◌≤◌, length, map, ◌≡◌, refl, ap, sym, ◌∙◌, subst}
use Rattle.meaning.specs.Logs.{Log, events}
use Rattle.meaning.specs.Sites.{Cells}
use Rattle.meaning.specs.Statements.{run_all}
use Rattle.meaning.specs.Stops.{by_conflict, at_end, first_stop}
use Rattle.meaning.specs.Adjoints.{cells_along, unit, pairing_after, adjoint_at}
use Rattle.meaning.specs.Programs.{entry_site, entry_cells, no_pushes, adjoint_of}
use Rattle.meaning.specs.Laws.{values_out}
use Rattle.meaning.proofs.Everywhere.{runs_everywhere}
use Rattle.meaning.proofs.LawProofs.{unseen as tangents_are_unseen}
use Rattle.transposition.specs.Worlds.{World}
use Rattle.transposition.specs.Calms.{IsCalmAll}
use Rattle.transposition.specs.Programs.{program_world, ProgramIsTransposed}
use Rattle.fl_ast.specs.declared.decl.Decl.{Decl}
use Rattle.store_core.specs.Keys.{keys_of, scalar}
use Rattle.meaning.specs.Fitting.{Fits}
use Rattle.meaning.proofs.Entries.{directions_fit, entries_fit}
use Rattle.transposition.proofs.Fits.{all_laid}
use Rattle.transposition.proofs.Passing.{unstopped}
use Rattle.transposition.proofs.Transposed.{along_along, Turned, turned, answered}

pub program_transposed : ProgramIsTransposed
program_transposed p shapes pushed active choices u limits words vs seed s2 j d sound unheld shared small-words h e like wide long small dead there ring alive moved =
    (answered w u p.body s s2 vs seed j d sound unheld calm fits room moved h like wide long small ring alive dead).cell there ∙ same-adjoint
  where
    fits : Fits (entry_site p shapes pushed) (entry_cells p shapes words)
    fits = (directions_fit (entry_site p shapes pushed) (entry_cells p shapes words) []).1 (entries_fit p shapes pushed words [] small-words)

    room : length (keys_of shapes) ≤ length (entry_site p shapes pushed).keys
    room = all_laid shapes (map (λ (d : Decl). scalar d.name) p.decls)

    w : World
    w = program_world p shapes pushed active choices

    s : Cells
    s = entry_cells p shapes words

    sj : Cells
    sj = cells_along (unit j) s

    unseen : ((run_all p.body w.site s).log ≡ (run_all p.body w.site sj).log) × (values_out (run_all p.body w.site s).out ≡ values_out (run_all p.body w.site sj).out)
    unseen = tangents_are_unseen p.body w.site s sj (sym (along_along (unit j) s))

    t : Turned (run_all p.body w.site sj).out s2
    t = turned (run_all p.body w.site sj).out (run_all p.body w.site s).out s2 h unseen.1

    calm : IsCalmAll p.body w sj
    calm = unstopped w u p.body limits sj t.s3 sound t.out (subst (λ (l : Log). first_stop by_conflict limits (events l) ≡ at_end) unseen.0 e) shared

    -- what is pushed doesn't change the adjoint
    same-adjoint : adjoint_at (run_all p.body w.site) s seed j ≡ adjoint_of p shapes words seed j
    same-adjoint = ap (pairing_after seed) (runs_everywhere (entry_site p shapes pushed) (entry_site p shapes no_pushes) refl refl (λ x. refl) p.body (λ e. refl) sj)
