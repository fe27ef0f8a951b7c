-- What the proofs ask of a loop's instance.
use Rattle.std.proofs.Common.{◌≡◌, ℕ, ◌<◌, List, Ok}
use Rattle.fl_ast.specs.declared.decl.Decl.{Decl}
use Rattle.fl_types.specs.Sharing.{is_ring_name}
use Rattle.meaning.specs.Sites.{Cells, Site, in_iteration}
use Rattle.meaning.specs.Statements.{Heads, iterations, turns}
use Rattle.meaning.specs.Reached.{iteration_cells, HoldsAtAll, IsSound}
use Rattle.meaning.specs.Groups.{iteration_of}
use Rattle.index_forms.specs.Loops.{HeadedLoop, inside}
use Rattle.index_law.specs.Meetings.{FreeRun}
use Rattle.index_law.specs.Starts.{IsBegun}
use Rattle.certificate_rules.specs.Surveys.{IsSurvey}
use Rattle.loop_pairs.specs.Known.{survey_by}
use Rattle.apart_law.specs.Apart.{HasOwnNumbers}

pub record IsRun (decls : List Decl) (l : HeadedLoop) (site : Site) (heads : Heads) (cells : Cells) : Type 0 where
  pub begun : IsBegun l site heads cells
  pub outer : site.outer ≡ l.loop.outer
  pub ring : site.ring ≡ is_ring_name decls
  pub free : FreeRun site l.loop heads cells
  pub sound : (k : ℕ) → k < iterations heads → (c : Cells) → (turns k (iteration_of site l.loop heads) cells).out ≡ Ok c →
      HoldsAtAll IsSound (inside l) (in_iteration site l.loop.directive l.loop.var l.loop.body) (iteration_cells site l.loop.directive l.loop.var l.loop.body heads k c)
  pub numbers : HasOwnNumbers l
  pub survey : IsSurvey (survey_by decls l)
