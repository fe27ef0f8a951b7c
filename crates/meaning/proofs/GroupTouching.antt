-- A run touches what the groups that it evaluates access, in order.
use Rattle.std.specs.Prelude.{◌≡◌, ℕ, Bool, List, []}
use Rattle.std.proofs.Common.{ap, ◌∙◌, subst}
use Rattle.fl_ast.specs.declared.decl.Decl.{Decl}
use Rattle.fl_types.specs.Sharing.{is_ring_name, sharing_in, is_plus, makes_accesses, ParallelLoop}
use Rattle.fl_types.specs.Accesses.{Scope, scope_of, accesses_all}
use Rattle.fl_types.specs.Nests.{iteration_body}
use Rattle.meaning.specs.Sites.{Site, in_iteration}
use Rattle.meaning.specs.Touches.{touches_in, right_touches_in, scope_at}
use Rattle.meaning.specs.Reached.{iteration_cells}
use Rattle.meaning.specs.Groups.{right_of, ArePieces, RunsTouch, groups_of_iteration, IterationsTouch, LoopsTouch}
use Rattle.meaning.proofs.GroupReadings.{run_read, iteration_read, iterations_read}
use Rattle.meaning.proofs.RightSides.{all_reading, right_reading}
use Rattle.meaning.proofs.GroupPieces.{all_pieces}

pub runs_touch : RunsTouch
runs_touch n path body q s c = record {
  touches = λ d e k. record {
    all = run_read touches_in (λ g. g.accesses) all_reading body n path s q c d e k;
    right_sides = λ on. run_read (right_touches_in on) (right_of on) (right_reading on) body n path s q c d e k;
  };
  groups = all_pieces body n path s c;
}

-- what makes touches in an iteration is what makes accesses in the loop
scopes_agree : (decls : List Decl) (s : Site) (l : ParallelLoop) → s.outer ≡ l.outer → s.ring ≡ is_ring_name decls → scope_at (in_iteration s l.directive l.var l.body) ≡ scope_of decls l
scopes_agree decls s l e f =
    let pluses : List ℕ → Bool = λ x. is_plus (sharing_in l.var l.directive l.body x) in
    let by_outer : List (List ℕ) → Scope = λ o. record { accessed = makes_accesses o l.var l.directive l.body; pluses = pluses; ring = s.ring } in
    let by_ring : (List ℕ → Bool) → Scope = λ r. record { accessed = makes_accesses l.outer l.var l.directive l.body; pluses = pluses; ring = r } in
    ap by_outer e ∙ ap by_ring f

pub iterations_touch : IterationsTouch
iterations_touch decls s l e f q hs k c = record {
  touches = λ d g i. record {
    all = iteration_read touches_in (λ g. g.accesses) all_reading s l hs k q c d g i;
    right_sides = λ on. iteration_read (right_touches_in on) (right_of on) (right_reading on) s l hs k q c d g i;
  };
  groups = subst (λ (u : Scope). ArePieces (accesses_all u 1 [] (iteration_body l.directive l.body)) (groups_of_iteration s l hs k c)) (scopes_agree decls s l e f)
      (all_pieces (iteration_body l.directive l.body) 1 [] (in_iteration s l.directive l.var l.body) (iteration_cells s l.directive l.var l.body hs k c));
}

pub loops_touch : LoopsTouch
loops_touch s l q hs n c d h i =
    (iterations_read touches_in (λ g. g.accesses) all_reading s l hs q n c d h i, λ on. iterations_read (right_touches_in on) (right_of on) (right_reading on) s l hs q n c d h i)
