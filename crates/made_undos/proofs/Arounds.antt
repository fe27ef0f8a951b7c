-- Worlds in loops, and what is around the bodies of parallel loops.
use Rattle.std.specs.Prelude.{◌≡◌, ℕ, ◌<◌, Bool, true, false, cond, ◌&&◌, nat_lt, List, [], ◌∷◌, ◌++◌, map, filter, length, Option, Some, None, is_some, refl}
use Rattle.std.specs.List.{list_all}
use Rattle.std.proofs.Common.{ap, sym, ◌∙◌, subst}
use Rattle.std.proofs.lemmas.Bool.{and_parts}
use Rattle.fl_ast.specs.declared.directive.Directive.{Directive}
use Rattle.fl_ast.specs.Tree.{Statement, assignment, branch, loop, Statements}
use Rattle.fl_types.specs.Nests.{Head, is_plain_loop, head_of, further_head}
use Rattle.fl_types.specs.Sharing.{sharing_in, is_plus, is_private}
use Rattle.store_core.specs.declared.layout.Shape.{Shape}
use Rattle.store_core.specs.Keys.{slot_of, place_in_slot}
use Rattle.store_core.proofs.Slots.{slot_found}
use Rattle.meaning.specs.Statements.{private_names}
use Rattle.resolved.specs.SlotTables.{Names}
use Rattle.resolved.specs.ResolvedExprs.{slot_name}
use Rattle.resolved.proofs.Slots.{slot_stands}
use Rattle.sweep_trees.specs.Standing.{is_accessed_at}
use Rattle.split_trees.proofs.Standing.{place_by_slot}
use Rattle.sweep_steps.specs.declared.step.PrivateScalar.{PrivateScalar}
use Rattle.sweep_steps.specs.StepsStand.{PrivatesStand}
use Rattle.transposition.specs.Worlds.{World, is_reduction, in_turn, in_iteration}
use Rattle.transposition.specs.Back.{variables_of, loop_variables}
use Rattle.undo_steps.specs.UndosStand.{scalar_place, reduction_at, reduction_places, IterationsUndo}
use Rattle.loop_scopes.specs.declared.loops.LoopNames.{LoopNames}
use Rattle.loop_scopes.specs.Loops.{class_by, accessed_by, IsLoopNames, privates_of}
use Rattle.loop_scopes.specs.Scopes.{are_declared_placed}
use Rattle.loop_scopes.proofs.Scopes.{turn_scope, iteration_scope, privates_stand}
use Rattle.made_growths.specs.Told.{Told, choice_in}
use Rattle.made_growths.proofs.Walking.{is_on}
use Rattle.made_undos.specs.Reductions.{is_reduced_in, if_shared, place_listed, reduction_by, reductions_by}
use Rattle.made_undos.specs.UndoScopes.{IsUndoScope}

-- ---- worlds

pub turn_undo : (names : Names) (t : Told) (accessed reduced : List Bool) (region : Option ℕ) (outer : List (List ℕ)) (w : World) (var : List ℕ)
    → IsUndoScope names t accessed reduced region outer w → IsUndoScope names t accessed reduced region (var ∷ outer) (in_turn w var)
turn_undo names t accessed reduced region outer w var s =
    record {
      scope = turn_scope names t.pushed accessed reduced outer w.site var s.scope;
      growing = record { actives = s.growing.actives; choosing = s.growing.choosing };
      choosing = s.choosing;
      sharing = s.sharing;
    }

pub iteration_undo : (names : Names) (t : Told) (accessed reduced inner_accessed inner_reduced : List Bool) (region : Option ℕ) (outer : List (List ℕ)) (w : World) (l : LoopNames) (number : ℕ) (var : List ℕ)
    (directive : Directive) (body : Statements)
    → IsUndoScope names t accessed reduced region outer w → IsLoopNames l outer var directive body
    → inner_accessed ≡ map (λ (s : Shape). accessed_by l s.name) names.0 → inner_reduced ≡ map (λ (s : Shape). is_plus (class_by l s.name)) names.0
    → IsUndoScope names t inner_accessed inner_reduced (Some number) (var ∷ outer) (in_iteration w number directive var body)
iteration_undo names t accessed reduced inner_accessed inner_reduced region outer w l number var directive body s h a r =
    record {
      scope = iteration_scope names t.pushed accessed reduced inner_accessed inner_reduced outer w.site l var directive body s.scope h a r;
      growing = record { actives = s.growing.actives; choosing = λ slot below. s.choosing number slot below };
      choosing = s.choosing;
      sharing = s.sharing;
    }

-- ---- variables

pub inner_variable : (names : Names) (s : Statement) (place : Option ℕ) → is_plain_loop s ≡ true → ((h : Head) → head_of s ≡ Some h → place ≡ scalar_place names h.var)
    → place ∷ [] ≡ map (scalar_place names) (variables_of (head_of s))
inner_variable names (assignment line atomic p e) place h f = absurd (cc)
inner_variable names (branch line arms other) place h f = absurd (cc)
inner_variable names (loop line number directive var first last step body) place h f = ap (λ o. o ∷ []) (f _ refl)

pub two_variables : (names : Names) (directive : Directive) (var : List ℕ) (body : Statements) (s : Statement) (outer inner : Option ℕ) → further_head directive body ≡ head_of s
    → outer ≡ scalar_place names var → inner ∷ [] ≡ map (scalar_place names) (variables_of (head_of s))
    → outer ∷ inner ∷ [] ≡ map (scalar_place names) (loop_variables directive var body)
two_variables names directive var body s outer inner e o i =
    ap (λ (r : List (Option ℕ)). outer ∷ r) i
    ∙ ap (λ q. q ∷ map (scalar_place names) (variables_of (head_of s))) o
    ∙ ap (λ (h : Option Head). scalar_place names var ∷ map (scalar_place names) (variables_of h)) (sym e)

pub one_variable : (names : Names) (directive : Directive) (var : List ℕ) (body : Statements) (outer : Option ℕ) → further_head directive body ≡ None → outer ≡ scalar_place names var
    → outer ∷ [] ≡ map (scalar_place names) (loop_variables directive var body)
one_variable names directive var body outer e o =
    ap (λ q. q ∷ []) o ∙ ap (λ (h : Option Head). scalar_place names var ∷ map (scalar_place names) (variables_of h)) (sym e)

-- ---- Reductions

one_reduction : (w : World) (b : Bool) (o : Option ℕ) (rest : List ℕ) → place_listed (cond b (if_shared w.shared o) None) ++ rest ≡ cond b (reduction_at w o rest) rest
one_reduction w false o rest = refl
one_reduction w true None rest = refl
one_reduction w true (Some q) rest = by_test (nat_lt q w.shared)
  where
    by_test : (t : Bool) → place_listed (cond t (Some q) None) ++ rest ≡ cond t (q ∷ rest) rest
    by_test true = refl
    by_test false = refl

-- what is told by slot is so of the names
pub record IsToldIn (names : Names) (t : Told) (number : ℕ) (w : World) : Type 0 where
  pub on : (slot : ℕ) → slot < length names.0 → w.active (slot_name names.0 slot) ≡ is_accessed_at t.active slot
  pub choosing : (slot : ℕ) → slot < length names.0 → w.choice (slot_name names.0 slot) ≡ choice_in t number slot
  pub sharing : w.shared ≡ t.shared

reduction_is : (names : Names) (t : Told) (number : ℕ) (w : World) (x : List ℕ) (slot : ℕ) (rest : List ℕ) → IsToldIn names t number w → slot_of names.0 x ≡ Some slot
    → reduction_by names t number (Some slot) ++ rest ≡ cond (w.active x && is_reduction (w.choice x)) (reduction_at w (scalar_place names x) rest) rest
reduction_is names t number w x slot rest k f =
    let stands : slot_name names.0 slot ≡ x = slot_stands names.0 x slot (sym f) in
    let below : slot < length names.0 = (slot_found names.0 x slot (sym f)).3 in
    let on : is_accessed_at t.active slot ≡ w.active x = sym (k.on slot below) ∙ ap w.active stands in
    let choice : choice_in t number slot ≡ w.choice x = sym (k.choosing slot below) ∙ ap w.choice stands in
    let both : is_reduced_in t number slot ≡ (w.active x && is_reduction (w.choice x))
    = ap (λ (b : Bool). b && is_reduction (choice_in t number slot)) on ∙ ap (λ c. w.active x && is_reduction c) choice in
    let place : place_in_slot names.0 slot [] ≡ scalar_place names x = place_by_slot names slot [] below ∙ ap (scalar_place names) stands in
    ap (λ (n : ℕ). place_listed (cond (is_reduced_in t number slot) (if_shared n (place_in_slot names.0 slot [])) None) ++ rest) (sym k.sharing)
    ∙ ap (λ (b : Bool). place_listed (cond b (if_shared w.shared (place_in_slot names.0 slot [])) None) ++ rest) both
    ∙ ap (λ (o : Option ℕ). place_listed (cond (w.active x && is_reduction (w.choice x)) (if_shared w.shared o) None) ++ rest) place
    ∙ one_reduction w (w.active x && is_reduction (w.choice x)) (scalar_place names x) rest

found_reduction : (names : Names) (t : Told) (number : ℕ) (w : World) (x : List ℕ) (o : Option ℕ) (rest : List ℕ) → IsToldIn names t number w → slot_of names.0 x ≡ o → is_some o ≡ true
    → reduction_by names t number o ++ rest ≡ cond (w.active x && is_reduction (w.choice x)) (reduction_at w (scalar_place names x) rest) rest
found_reduction names t number w x None rest k f h = absurd (cc)
found_reduction names t number w x (Some slot) rest k f h = reduction_is names t number w x slot rest k f

pub reductions_are : (names : Names) (t : Told) (number : ℕ) (w : World) (xs : List (List ℕ)) → IsToldIn names t number w → list_all (λ x. is_some (slot_of names.0 x)) xs ≡ true
    → reductions_by names t number xs ≡ reduction_places names w xs
reductions_are names t number w [] k h = refl
reductions_are names t number w (x ∷ xs) k h =
    let p = and_parts (is_some (slot_of names.0 x)) (list_all (λ y. is_some (slot_of names.0 y)) xs) h in
    ap (λ (l : List ℕ). reduction_by names t number (slot_of names.0 x) ++ l) (reductions_are names t number w xs k p.1)
    ∙ found_reduction names t number w x (slot_of names.0 x) (reduction_places names w xs) k refl p.0

told_inside : (names : Names) (t : Told) (accessed reduced : List Bool) (region : Option ℕ) (outer : List (List ℕ)) (w : World) (number : ℕ) (var : List ℕ) (directive : Directive) (body : Statements)
    → IsUndoScope names t accessed reduced region outer w → IsToldIn names t number (in_iteration w number directive var body)
told_inside names t accessed reduced region outer w number var directive body s =
    record {
      on = λ slot below. is_on names t region w slot (slot_name names.0 slot) s.growing below refl;
      choosing = λ slot below. s.choosing number slot below;
      sharing = s.sharing;
    }

-- ---- what is around an iteration

pub iterations_undo : (names : Names) (t : Told) (accessed reduced : List Bool) (region : Option ℕ) (outer : List (List ℕ)) (w : World) (l : LoopNames) (number : ℕ) (var : List ℕ) (directive : Directive) (body : Statements)
    (places : List (Option ℕ)) (privates : List PrivateScalar) (reductions : List ℕ)
    → IsUndoScope names t accessed reduced region outer w → IsLoopNames l outer var directive body → are_declared_placed names ≡ true
    → places ≡ map (scalar_place names) (loop_variables directive var body) → privates ≡ privates_of names t.pushed l names.3 → reductions ≡ reductions_by names t number names.3
    → IterationsUndo names w number directive var body places privates reductions
iterations_undo names t accessed reduced region outer w l number var directive body places privates reductions s n d p q r =
    record {
      variables = p;
      scalars = subst (λ ps. PrivatesStand names w.site body (private_names w.site directive var body) ps) (sym q)
          (subst (λ xs. PrivatesStand names w.site body (filter (λ x. is_private (sharing_in var directive body x)) xs) (privates_of names t.pushed l names.3)) (sym s.scope.declares)
          (privates_stand names t.pushed accessed reduced outer w.site l var directive body names.3 s.scope n d));
      sums = r
          ∙ (reductions_are names t number (in_iteration w number directive var body) names.3 (told_inside names t accessed reduced region outer w number var directive body s) d
          ∙ ap (reduction_places names (in_iteration w number directive var body)) (sym s.scope.declares));
    }
