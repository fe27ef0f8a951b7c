-- What is known of the loops of a program.
use Rattle.std.proofs.Common.{◌≡◌, ℕ, Bool, List, [], map, Option, ap, ◌∙◌}
use Rattle.fl_ast.specs.declared.decl.Decl.{Decl}
use Rattle.fl_ast.specs.declared.stmt.Program.{Program}
use Rattle.fl_ast.specs.declared.stmt.Stmt.{Stmt}
use Rattle.fl_ast.specs.Tree.{stmt_trees}
use Rattle.index_forms.specs.Loops.{HeadedLoop}
use Rattle.certificate_check.specs.Flaws.{Loops}
use Rattle.loop_scenes.specs.declared.headed.HeadedView.{HeadedView}
use Rattle.loop_scenes.specs.Loops.{loops_by_all}
use Rattle.loop_scenes.specs.Views.{headed_seen}
use Rattle.loop_pairs.specs.Known.{known_in, known_of}

pub of_program : (on : List ℕ → Bool) (p : Program) (ds : List Decl) (body : List Stmt) (vs ws : List (Option HeadedView)) (ks : Loops) → ds ≡ p.decls → ws ≡ vs →
    map headed_seen vs ≡ loops_by_all [] (stmt_trees body) → body ≡ p.body → ks ≡ known_in ds on (map headed_seen ws) → ks ≡ known_of p on
unfolding known_of
of_program on p ds body vs ws ks d w v b k =
    let l : map headed_seen ws ≡ loops_by_all [] (stmt_trees p.body) = ap (λ (r : List (Option HeadedView)). map headed_seen r) w ∙ (v ∙ ap (λ (r : List Stmt). loops_by_all [] (stmt_trees r)) b) in
    k ∙ (ap (λ (r : List Decl). known_in r on (map headed_seen ws)) d ∙ ap (λ (r : List (Option HeadedLoop)). known_in p.decls on r) l)
