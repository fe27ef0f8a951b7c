-- Statements that stand for what they undo have no parallel loop in another, and the sums of shared places.
use Rattle.std.specs.Prelude.{◌≡◌, ℕ, Bool, true, false, not, ◌&&◌, if◌then◌else◌, cond, nat_lt, List, [], ◌∷◌, Option, Some, None, refl}
use Rattle.std.proofs.lemmas.Bool.{and_parts, and_from}
use Rattle.fl_ast.specs.declared.directive.Directive.{Directive}
use Rattle.fl_ast.specs.Tree.{Statement, assignment, branch, loop, Statements, no_statements, statement, Arms, no_arms, arm}
use Rattle.fl_types.specs.Nests.{is_nest, statements_in, inner_body, iteration_body}
use Rattle.resolved.specs.SlotTables.{Names}
use Rattle.transposition.specs.Worlds.{World, is_reduction, in_turn, in_iteration}
use Rattle.forward_law.specs.Forward.{is_flat, are_flat, are_arms_flat}
use Rattle.undo_steps.specs.UndoSteps.{back_turns, back_iterations, UndoTree, undo_store, undo_choice, undo_loop, UndoTrees, no_undos, undos, UndoArms, no_undo_arms, undo_arm}
use Rattle.undo_steps.specs.UndosStand.{scalar_place, reduction_at, reduction_places, UndoStands, AllUndoStand, UndoArmsStand}
use Rattle.reverse_run.specs.Undoing.{are_below}
use Rattle.reverse_run.specs.Undoing.{is_flat as is_undo_flat, are_flat as are_undos_flat, are_arms_flat as are_undo_arms_flat}
use Rattle.reverse_run.specs.Flatness.{StandingIsFlat}

place_below : (w : World) (o : Option ℕ) (qs : List ℕ) → are_below w.shared qs ≡ true → are_below w.shared (reduction_at w o qs) ≡ true
place_below w None qs h = h
place_below w (Some q) qs h = by_test (nat_lt q w.shared) refl
  where
    by_test : (b : Bool) → nat_lt q w.shared ≡ b → are_below w.shared (cond b (q ∷ qs) qs) ≡ true
    by_test true e = rw e h
    by_test false e = h

below_or : (n : ℕ) (b : Bool) (ps qs : List ℕ) → are_below n ps ≡ true → are_below n qs ≡ true → are_below n (cond b ps qs) ≡ true
below_or n true ps qs f g = f
below_or n false ps qs f g = g

places_below : (names : Names) (w : World) (xs : List (List ℕ)) → are_below w.shared (reduction_places names w xs) ≡ true
places_below names w [] = refl
places_below names w (x ∷ xs) =
    below_or w.shared (w.active x && is_reduction (w.choice x)) (reduction_at w (scalar_place names x) (reduction_places names w xs)) (reduction_places names w xs)
    (place_below w (scalar_place names x) (reduction_places names w xs) (places_below names w xs)) (places_below names w xs)

statements_flat : (s : Statement) → is_flat true s ≡ true → are_flat true (statements_in s) ≡ true
statements_flat (assignment line atomic target value) f = refl
statements_flat (branch line arms other) f = refl
statements_flat (loop line number None var first last step body) f = f
statements_flat (loop line number (Some directive) var first last step body) f = cc

inner_flat : (body : Statements) → are_flat true body ≡ true → are_flat true (inner_body body) ≡ true
inner_flat no_statements f = refl
inner_flat (statement s ss) f = statements_flat s (and_parts (is_flat true s) (are_flat true ss) f).0

iteration_flat : (directive : Directive) (body : Statements) → are_flat true body ≡ true → are_flat true (iteration_body directive body) ≡ true
iteration_flat directive body f = by_nest (is_nest directive body)
  where
    by_nest : (b : Bool) → are_flat true (if b then inner_body body else body) ≡ true
    by_nest true = inner_flat body f
    by_nest false = f

mutual
  undo_flat : (names : Names) (w : World) (inside : Bool) (u : UndoTree) (s : Statement) → UndoStands names w u s → is_flat inside s ≡ true → is_undo_flat w.shared inside u ≡ true
  undo_flat names w inside (undo_store x) s h f = refl
  undo_flat names w inside (undo_choice as' other) (assignment line atomic p e) h f = absurd h
  undo_flat names w inside (undo_choice as' other) (branch line arms other') h f =
      let g = and_parts (are_arms_flat inside arms) (are_flat inside other') f in
      and_from (are_undo_arms_flat w.shared inside as') (are_undos_flat w.shared inside other) (arms_flat names w inside as' arms h.0 g.0) (undos_flat names w inside other other' h.1 g.1)
  undo_flat names w inside (undo_choice as' other) (loop line number directive var first last step body) h f = absurd h
  undo_flat names w inside (undo_loop around us) (assignment line atomic p e) h f = absurd h
  undo_flat names w inside (undo_loop around us) (branch line arms other) h f = absurd h
  undo_flat names w inside (undo_loop (back_turns place) us) (loop line number None var first last step body) h f = undos_flat names (in_turn w var) inside us body h.1 f
  undo_flat names w inside (undo_loop (back_iterations places ps qs) us) (loop line number None var first last step body) h f = absurd h.0
  undo_flat names w inside (undo_loop (back_turns place) us) (loop line number (Some directive) var first last step body) h f = absurd h.0
  undo_flat names w inside (undo_loop (back_iterations places ps qs) us) (loop line number (Some directive) var first last step body) h f =
      let g = and_parts (not inside) (are_flat true body) f in
      let v : World = in_iteration w number directive var body in
      let q : are_below w.shared qs ≡ true = rw h.0.sums (places_below names v w.site.declared) in
      and_from (not inside && are_below w.shared qs) (are_undos_flat w.shared true us) (and_from (not inside) (are_below w.shared qs) g.0 q) (undos_flat names v true us (iteration_body directive body) h.1 (iteration_flat directive body g.1))

  undos_flat : (names : Names) (w : World) (inside : Bool) (us : UndoTrees) (body : Statements) → AllUndoStand names w us body → are_flat inside body ≡ true → are_undos_flat w.shared inside us ≡ true
  undos_flat names w inside no_undos no_statements h f = refl
  undos_flat names w inside no_undos (statement s ss) h f = absurd h
  undos_flat names w inside (undos u us) no_statements h f = absurd h
  undos_flat names w inside (undos u us) (statement s ss) h f =
      let g = and_parts (is_flat inside s) (are_flat inside ss) f in
      and_from (is_undo_flat w.shared inside u) (are_undos_flat w.shared inside us) (undo_flat names w inside u s h.0 g.0) (undos_flat names w inside us ss h.1 g.1)

  arms_flat : (names : Names) (w : World) (inside : Bool) (as' : UndoArms) (arms : Arms) → UndoArmsStand names w as' arms → are_arms_flat inside arms ≡ true → are_undo_arms_flat w.shared inside as' ≡ true
  arms_flat names w inside no_undo_arms no_arms h f = refl
  arms_flat names w inside no_undo_arms (arm test body arms) h f = absurd h
  arms_flat names w inside (undo_arm us as') no_arms h f = absurd h
  arms_flat names w inside (undo_arm us as') (arm test body arms) h f =
      let g = and_parts (are_flat inside body) (are_arms_flat inside arms) f in
      and_from (are_undos_flat w.shared inside us) (are_undo_arms_flat w.shared inside as') (undos_flat names w inside us body h.0 g.0) (arms_flat names w inside as' arms h.1 g.1)

pub standing_flat : StandingIsFlat
standing_flat = undos_flat
