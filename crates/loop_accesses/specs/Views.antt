-- What the code's references stand for.
use Rattle.std.specs.Prelude.{ℕ, List, [], ◌∷◌, ◌++◌, map}
use Rattle.fl_ast.specs.Tree.{place_tree, stmt_trees}
use Rattle.fl_types.specs.declared.access.PathStep.{PathStep}
use Rattle.fl_types.specs.Sharing.{ParallelLoop}
use Rattle.fl_types.specs.Accesses.{Occurrence}
use Rattle.loop_accesses.specs.declared.path.Path.{Path, fold-Path}
use Rattle.loop_accesses.specs.declared.path.Path.TheOpen.{Path-F}
use Rattle.loop_accesses.specs.declared.view.Vars.{Vars, fold-Vars}
use Rattle.loop_accesses.specs.declared.view.Vars.TheOpen.{Vars-F}
use Rattle.loop_accesses.specs.declared.view.LoopView.{LoopView}
use Rattle.loop_accesses.specs.declared.reads.Found.{Found}
use denote.Ref.{Bor}

abbrev pub steps_level : Path-F (List PathStep) → List PathStep
steps_level Path-F.Start = []
steps_level (Path-F.Then outer step) = outer.now ++ step ∷ []

-- from the outermost step on
abbrev pub steps_of : Path → List PathStep
steps_of = fold-Path (List PathStep) steps_level

abbrev pub names_level : Vars-F (List (List ℕ)) → List (List ℕ)
names_level Vars-F.Outside = []
names_level (Vars-F.Inside var outer) = var.now ∷ outer.now

-- the innermost first
abbrev pub names_in : Vars → List (List ℕ)
names_in = fold-Vars (List (List ℕ)) names_level

abbrev pub referred : Bor (List ℕ) → List ℕ
referred x = x.now

abbrev pub loop_view : LoopView → ParallelLoop
loop_view l = record { line = l.line; number = l.number; outer = map referred l.outer; directive = l.directive.now; var = l.var.now; body = stmt_trees l.body.now }

abbrev pub occurrence_of : Found → Occurrence
occurrence_of f = record { line = f.line; place = place_tree f.place.now; path = f.path; kind = f.kind }
