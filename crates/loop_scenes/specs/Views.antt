-- What the code's references stand for.
use Rattle.std.specs.Prelude.{ℕ, List, [], ◌∷◌, Option, option_map}
use Rattle.fl_ast.specs.Tree.{expr_tree, step_tree}
use Rattle.index_forms.specs.Loops.{HeadedLoop}
use Rattle.loop_accesses.specs.Views.{loop_view}
use Rattle.loop_scenes.specs.declared.headed.Around.{Around, fold-Around}
use Rattle.loop_scenes.specs.declared.headed.Around.TheOpen.{Around-F}
use Rattle.loop_scenes.specs.declared.headed.HeadedView.{HeadedView}

abbrev pub around_level : Around-F (List (List ℕ)) → List (List ℕ)
around_level Around-F.Outside = []
around_level (Around-F.Inside var outer) = var.now ∷ outer.now

-- the innermost first
abbrev pub names_around : Around → List (List ℕ)
names_around = fold-Around (List (List ℕ)) around_level

abbrev pub headed_loop : HeadedView → HeadedLoop
headed_loop h = record {
  head = record { line = h.view.line; var = h.view.var.now; first = expr_tree h.first.now; last = expr_tree h.last.now; step = step_tree h.step.now };
  loop = loop_view h.view;
}

abbrev pub headed_seen : Option HeadedView → Option HeadedLoop
headed_seen o = option_map headed_loop o
