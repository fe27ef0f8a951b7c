-- What is played without sums, and what that is of a whole program.
use Rattle.std.proofs.Common.{◌≡◌, false, ℕ, zero, suc, ◌+◌, ◌<◌, List, [], ◌∷◌, length, refl, ap, sym, ◌∙◌, subst, arith}
use Rattle.std.specs.Prelude.{slice_index, if◌then◌else◌}
use Rattle.fl_ast.specs.declared.decl.Decl.{Decl}
use Rattle.fl_types.specs.Nests.{is_nest, iteration_body}
use Rattle.store_core.specs.declared.layout.Shape.{Shape}
use Rattle.store_core.specs.Keys.{with_scalars}
use Rattle.operations.specs.Tree.{Tree, play}
use Rattle.meaning.specs.Programs.{entry_cells}
use Rattle.meaning.specs.Statements.{run_all}
use Rattle.resolved.specs.SlotTables.{kind_at, named_kind, kinds_of, names_of}
use Rattle.resolved.specs.ResolvedExprs.{slot_name}
use Rattle.transposition.specs.Tapes.{empty, tape_after}
use Rattle.transposition.specs.Worlds.{Local, in_iteration}
use Rattle.transposition.specs.Back.{loop_iterations, back_all, back_inner}
use Rattle.transposition.specs.Law.{flat, local}
use Rattle.transposition.specs.Programs.{program_world}
use Rattle.transposition.proofs.WholePrograms.{program_transposed}
use Rattle.reverse_sweep.specs.Reversing.{Stage, Reversing}
use Rattle.sweep_evaluation.specs.Machine.{Ran}
use Rattle.reverse_sweep.specs.Machine.{undos_run}
use Rattle.reverse_law.specs.Reverse.{at_first, ended, ReverseIsPlayed, IterationIsPlayed, ProgramIsNamed, MachineIsTransposed}
use Rattle.reverse_law.proofs.Going.{landed, go, go_plain}
use Rattle.reverse_law.proofs.Looping.{lands_one, named_in_iteration, iteration_is}
use Rattle.reverse_law.proofs.Landing.{shown, LandsBy}
use Rattle.reverse_law.proofs.Undoing.{lands_all}

-- where nothing is counted
unseen_play : (t : Tree Local) (c : List ℕ) → shown false (landed (go (λ q. false) t (at_first c))) ≡ ended (play t c)
unseen_play t c = ap (λ (r : Ran Stage Local). shown false (landed r)) (go_plain (λ q. false) t c [] 0)

pub reverse_played : ReverseIsPlayed
reverse_played names w us xs l c s h = lands_all names false us xs w s h (λ e. absurd (cc)) l (at_first c) ∙ unseen_play (back_all xs w l) c

pub iteration_played : IterationIsPlayed
iteration_played names w number directive var body places qs rs us l c k s h i =
    let v = in_iteration w number directive var body in
    let f = if is_nest directive body then back_inner body else back_all body in
    lands_one names false w s number directive var body places qs rs h f (undos_run names w.shared us)
    (λ m. subst (λ (t : Tree Local). LandsBy false v m t (undos_run names w.shared us)) (sym (iteration_is directive body v m)) (lands_all names false us (iteration_body directive body) v (named_in_iteration names w s number directive var body) i (λ e. absurd (cc)) m)) l k (at_first c)
    ∙ unseen_play (loop_iterations w number directive var body f l k) c

-- ---- whole programs

kinds_at : (ds : List Decl) (shapes : List Shape) (slot : ℕ) → slot < length shapes → named_kind ds (slot_name shapes slot) ≡ kind_at (kinds_of ds shapes) slot
kinds_at ds [] slot h = absurd (omega arith)
kinds_at ds (s ∷ shapes) zero h = refl
kinds_at ds (s ∷ shapes) (suc slot) h = kinds_at ds shapes slot (omega arith)

pub program_named : ProgramIsNamed
program_named p shapes pushed active choices = record { keys = refl; width = refl; kinds = kinds_at p.decls (with_scalars shapes p.decls) }

pub machine_transposed : MachineIsTransposed
machine_transposed p shapes pushed active choices u limits words vs seed s2 j d us h sound free apart small out calm like wide long areas zeros inside held live moved =
    let w = program_world p shapes pushed active choices in
    let s = entry_cells p shapes words in
    let l = local w.shared (tape_after (run_all p.body w.site s).log empty) vs seed in
    ap (λ (r : Reversing). slice_index r.stage.cells (w.shared + j)) (reverse_played (names_of shapes p.decls) w us p.body l (flat w.shared vs seed) (program_named p shapes pushed active choices) h)
    ∙ program_transposed p shapes pushed active choices u limits words vs seed s2 j d sound free apart small out calm like wide long areas zeros inside held live moved
