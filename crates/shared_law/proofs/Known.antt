-- What follows for runs and adjoints.
use Rattle.std.proofs.Common.{◌≡◌, sym, subst}
use Rattle.fl_ast.specs.Tree.{stmt_trees, program_tree}
use Rattle.store_core.specs.Places.{shapes_of}
use Rattle.meaning.specs.Logs.{Log, events}
use Rattle.meaning.specs.Sites.{Cells, Site}
use Rattle.meaning.specs.Statements.{run_all}
use Rattle.meaning.specs.Stops.{by_conflict, at_end, first_stop}
use Rattle.meaning.specs.Adjoints.{cells_along, unit}
use Rattle.meaning.specs.Programs.{entry_site, entry_cells}
use Rattle.meaning.specs.Laws.{values_out}
use Rattle.meaning.proofs.LawProofs.{unseen as tangents_are_unseen}
use Rattle.transposition.proofs.Passing.{unstopped}
use Rattle.transposition.proofs.Transposed.{along_along, Turned, turned}
use Rattle.adjoint_sets.specs.Names.{is_active, is_needed}
use Rattle.loop_choices.specs.Choosing.{choice_in}
use Rattle.program_certificates.specs.Choices.{choices_with}
use Rattle.sound_programs.specs.Uses.{outer_use}
use Rattle.sound_programs.proofs.Programs.{programs_sound}
use Rattle.sound_programs.proofs.Transposing.{accepted_transposed}
use Rattle.run_law.proofs.Machines.{machine_accepted}
use Rattle.shared_law.specs.Known.{KnownIsCalm, KnownIsTransposed, KnownMachineIsTransposed, known_world}
use Rattle.shared_law.proofs.Choices.{known_fit}
use Rattle.shared_law.proofs.Programs.{reads_apart}

pub known_calm : KnownIsCalm
known_calm p of wrt values givens limits words s2 j a small run stop =
    unstopped (known_world p of wrt values givens) (outer_use p of wrt) (stmt_trees p.body) limits sj t.s3
    (programs_sound p of wrt values (choice_in (choices_with p (is_active p of wrt) givens)) a (known_fit p of wrt givens a)) t.out
    (subst (λ (l : Log). first_stop by_conflict limits (events l) ≡ at_end) unseen.0 stop)
    (reads_apart p of wrt values givens limits words s2 j a small run stop)
  where
    site : Site
    site = entry_site (program_tree p) (shapes_of p values) (is_needed p (is_active p of wrt))

    s : Cells
    s = entry_cells (program_tree p) (shapes_of p values) words

    sj : Cells
    sj = cells_along (unit j) s

    unseen : ((run_all (stmt_trees p.body) site s).log ≡ (run_all (stmt_trees p.body) site sj).log)
        × (values_out (run_all (stmt_trees p.body) site s).out ≡ values_out (run_all (stmt_trees p.body) site sj).out)
    unseen = tangents_are_unseen (stmt_trees p.body) site s sj (sym (along_along (unit j) s))

    t : Turned (run_all (stmt_trees p.body) site sj).out s2
    t = turned (run_all (stmt_trees p.body) site sj).out (run_all (stmt_trees p.body) site s).out s2 run unseen.1

pub known_transposed : KnownIsTransposed
known_transposed p of wrt values givens limits words vs seed s2 j d a small run stop like wide long bounded dead there content asked active =
    accepted_transposed p of wrt values (choice_in (choices_with p (is_active p of wrt) givens)) limits words vs seed s2 j d a (known_fit p of wrt givens a)
    (reads_apart p of wrt values givens limits words s2 j a small run stop) small run stop like wide long bounded dead there content asked active

pub known_machine : KnownMachineIsTransposed
known_machine p of wrt values givens limits words vs seed s2 j d us a stands small run stop like wide long bounded dead there content asked active =
    machine_accepted p of wrt values (choice_in (choices_with p (is_active p of wrt) givens)) limits words vs seed s2 j d us a (known_fit p of wrt givens a) stands
    (reads_apart p of wrt values givens limits words s2 j a small run stop) small run stop like wide long bounded dead there content asked active
