-- What is due for the stops of a run.
use Rattle.std.proofs.Common.{Bool, ◌≡◌, ℕ, ◌+◌, List, [], Result, Ok, Err, sym, ap, subst, ◌∙◌}
use Rattle.ending.specs.declared.early.Early.{Early}
use Rattle.ending.specs.Stage.{IsSaying, IsPart}
use Rattle.ending.specs.Plan.{LeadsTo}
use Rattle.ending.proofs.Follow.{says_part, wants}
use Rattle.fl_ast.specs.declared.stmt.Program.{Program}
use Rattle.fl_ast.specs.Tree.{program_tree}
use Rattle.fl_types.specs.Sharing.{has_name}
use Rattle.store_core.specs.declared.layout.Shape.{Shape}
use Rattle.store_core.specs.declared.values.Args.{Args}
use Rattle.store_core.specs.Filled.{place_words}
use Rattle.meaning.specs.Programs.{meaning}
use Rattle.meaning.specs.Stops.{Stop, at_end, by_conflict}
use Rattle.adjoint_sets.specs.Names.{is_active, is_needed}
use Rattle.forward_run.specs.declared.stop.ForwardStop.{ForwardStop}
use Rattle.forward_run.specs.declared.stop.ForwardStop.TheVariants.{Trap, Statements, Touches, Words, Conflict, Memory}
use Rattle.forward_run.specs.declared.sweep.Forwarded.{Forwarded}
use Rattle.forward_run.specs.Swept.{Left, IsStop, stop_in, ticks_in, ForwardsAs}
use Rattle.one_thread.specs.Back.{HasRun}
use Rattle.answers.specs.Sweeps.{forward_run}
use Rattle.run_stages.specs.Stops.{stop_stage, say_forward}

-- a run that ended early is said
pub stopped_part : {T : Type 0} (shapes : List Shape) (s : Stop) (stop : ForwardStop) (early : Early) → IsStop stop s → IsSaying (say_forward shapes stop) early
    → IsPart {T = T} (λ _. tt {0}) (stop_stage shapes s) (Err early)
stopped_part shapes s (Trap t) early h is = says_part is (λ rest. ap (λ x. stop_stage shapes x rest) h)
stopped_part shapes s Statements early h is = says_part is (λ rest. ap (λ x. stop_stage shapes x rest) h)
stopped_part shapes s Touches early h is = says_part is (λ rest. ap (λ x. stop_stage shapes x rest) h)
stopped_part shapes s Words early h is = says_part is (λ rest. ap (λ x. stop_stage shapes x rest) h)
stopped_part shapes s (Conflict c) early h is = says_part is (λ rest. ap (λ x. stop_stage shapes x rest) h)
stopped_part shapes s Memory early h is = rw is wants

-- and one that comes to its end goes on
pub ended_part : {T : Type 0} (shapes : List Shape) (s : Stop) (value : T) → s ≡ at_end → IsPart {T = T} (λ _. tt {0}) (stop_stage shapes s) (Ok value)
ended_part shapes s value e = record {
  clear = λ h. h;
  told = λ files rest status text comes.
      let P : Stop → Type 0 = λ x. LeadsTo files (stop_stage shapes x rest) status text in subst P (sym e) comes;
}

-- ---- what a forward sweep promises of a run

-- the names whose old contents are pushed are the needed ones
told_as : {T : Type 0} (view : T → Left) (p : Program) (shapes : List Shape) (args : Args) (of wrt pushed needed : List (List ℕ)) (result : Result T ForwardStop) (before after : ℕ)
    → pushed ≡ needed → (λ x. has_name x needed) ≡ is_needed p (is_active p of wrt)
    → ForwardsAs view by_conflict (meaning (program_tree p) shapes (λ x. has_name x pushed) (place_words shapes args.entries) []) result before after
    → ForwardsAs view by_conflict (forward_run p shapes args of wrt) result before after
told_as view p shapes args of wrt pushed needed result before after e n h =
    let F : (List ℕ → Bool) → Type 0 = λ on. ForwardsAs view by_conflict (meaning (program_tree p) shapes on (place_words shapes args.entries) []) result before after in
    subst F (ap (λ (names : List (List ℕ)). (λ x. has_name x names)) e ∙ n) h

abbrev left_of : {W : Type 0} → Forwarded W → Left
left_of f = record { cells = f.cells.items; tape = f.tape }

pub told_end : {W : Type 0} (p : Program) (shapes : List Shape) (args : Args) (of wrt pushed needed : List (List ℕ)) (f : Forwarded W) (before after : ℕ)
    → pushed ≡ needed → (λ x. has_name x needed) ≡ is_needed p (is_active p of wrt)
    → ForwardsAs (λ (g : Forwarded W). record { cells = g.cells.items; tape = g.tape }) by_conflict (meaning (program_tree p) shapes (λ x. has_name x pushed) (place_words shapes args.entries) []) (Ok f) before after
    → HasRun (forward_run p shapes args of wrt) f.cells.items f.tape × (after ≡ before + ticks_in by_conflict (forward_run p shapes args of wrt))
told_end {W = W} p shapes args of wrt pushed needed f before after e n h =
    let t : ForwardsAs (left_of {W = W}) by_conflict (forward_run p shapes args of wrt) (Ok f) before after = told_as (left_of {W = W}) p shapes args of wrt pushed needed (Ok f) before after e n h in
    (record { ends = t.0; cells_are = t.1; tape_is = t.2 }, t.3)

pub told_stop : (p : Program) (shapes : List Shape) (args : Args) (of wrt pushed needed : List (List ℕ)) (stop : ForwardStop) → pushed ≡ needed → (λ x. has_name x needed) ≡ is_needed p (is_active p of wrt)
    → IsStop stop (stop_in by_conflict (meaning (program_tree p) shapes (λ x. has_name x pushed) (place_words shapes args.entries) []))
    → IsStop stop (stop_in by_conflict (forward_run p shapes args of wrt))
told_stop p shapes args of wrt pushed needed stop e n h =
    let F : (List ℕ → Bool) → Type 0 = λ on. IsStop stop (stop_in by_conflict (meaning (program_tree p) shapes on (place_words shapes args.entries) [])) in
    subst F (ap (λ (names : List (List ℕ)). (λ x. has_name x names)) e ∙ n) h
