-- The sites in loops, and the names of parallel loops.
use Rattle.std.specs.Prelude.{◌≡◌, ℕ, zero, suc, ◌<◌, Bool, true, false, not, if◌then◌else◌, ◌&&◌, List, [], ◌∷◌, ◌++◌, map, filter, length, Option, Some, None, is_some, refl}
use Rattle.std.specs.List.{list_all}
use Rattle.std.proofs.Common.{ap, sym, ◌∙◌, subst, arith}
use Rattle.std.proofs.lemmas.Bool.{and_parts}
use Rattle.fl_ast.specs.declared.directive.Directive.{Directive}
use Rattle.fl_ast.specs.Tree.{Statements}
use Rattle.fl_types.specs.Sharing.{has_name, assigns_in, sharing_in, makes_accesses, is_accessed, is_plus, is_private}
use Rattle.store_core.specs.declared.layout.Shape.{Shape}
use Rattle.store_core.specs.Keys.{slot_of}
use Rattle.store_core.proofs.Slots.{slot_found}
use Rattle.meaning.specs.Sites.{Site, in_turn, in_iteration}
use Rattle.resolved.specs.SlotTables.{Names}
use Rattle.resolved.specs.ResolvedExprs.{slot_name}
use Rattle.resolved.proofs.Slots.{slot_stands}
use Rattle.sweep_trees.specs.Standing.{is_accessed_at}
use Rattle.sweep_steps.specs.declared.step.PrivateScalar.{PrivateScalar}
use Rattle.sweep_steps.specs.StepsStand.{PrivateStands, PrivatesStand}
use Rattle.loop_scopes.specs.declared.loops.LoopNames.{LoopNames}
use Rattle.loop_scopes.specs.Loops.{class_by, accessed_by, IsLoopNames, private_by, privates_of}
use Rattle.loop_scopes.specs.Scopes.{IsScope}

-- marks that are made from names tell of a slot what they tell of its name
pub marked_at : (f : List ℕ → Bool) (shapes : List Shape) (slot : ℕ) → slot < length shapes → is_accessed_at (map (λ (s : Shape). f s.name) shapes) slot ≡ f (slot_name shapes slot)
marked_at f [] slot h = absurd (omega (arith, h))
marked_at f (s ∷ shapes) zero h = refl
marked_at f (s ∷ shapes) (suc slot) h = marked_at f shapes slot (omega (arith, h))

maps_same : {A B : Type 0} (f g : A → B) → ((x : A) → f x ≡ g x) → (xs : List A) → map f xs ≡ map g xs
maps_same f g h [] = refl
maps_same f g h (x ∷ xs) = ap (λ y. y ∷ map f xs) (h x) ∙ ap (λ ys. g x ∷ ys) (maps_same f g h xs)

-- the class of a name, by the sets of its loop
pub class_is : (l : LoopNames) (outer : List (List ℕ)) (var : List ℕ) (directive : Directive) (body : Statements) → IsLoopNames l outer var directive body → (x : List ℕ)
    → class_by l x ≡ sharing_in var directive body x
class_is l outer var directive body h x =
    rw (h.is_variables x, h.is_privates x, h.is_firsts x, h.is_pluses x) refl

pub accessed_is : (l : LoopNames) (outer : List (List ℕ)) (var : List ℕ) (directive : Directive) (body : Statements) → IsLoopNames l outer var directive body → (x : List ℕ)
    → makes_accesses outer var directive body x ≡ accessed_by l x
accessed_is l outer var directive body h x =
    ap (λ b. not b && is_accessed (sharing_in var directive body x)) (sym (h.is_outer x))
    ∙ ap (λ k. not (has_name x l.outer) && is_accessed k) (sym (class_is l outer var directive body h x))

-- in a sequential loop
pub turn_scope : (names : Names) (pushed accessed reduced : List Bool) (outer : List (List ℕ)) (site : Site) (var : List ℕ) → IsScope names pushed accessed reduced outer site
    → IsScope names pushed accessed reduced (var ∷ outer) (in_turn site var)
turn_scope names pushed accessed reduced outer site var s =
    record { declares = s.declares; kinds = s.kinds; pushes = s.pushes; accesses = s.accesses; reduces = s.reduces; loops = ap (λ xs. var ∷ xs) s.loops }

-- in a parallel loop
pub iteration_scope : (names : Names) (pushed accessed reduced inner_accessed inner_reduced : List Bool) (outer : List (List ℕ)) (site : Site) (l : LoopNames) (var : List ℕ) (directive : Directive) (body : Statements)
    → IsScope names pushed accessed reduced outer site → IsLoopNames l outer var directive body
    → inner_accessed ≡ map (λ (s : Shape). accessed_by l s.name) names.0 → inner_reduced ≡ map (λ (s : Shape). is_plus (class_by l s.name)) names.0
    → IsScope names pushed inner_accessed inner_reduced (var ∷ outer) (in_iteration site directive var body)
iteration_scope names pushed accessed reduced inner_accessed inner_reduced outer site l var directive body s h a r =
    record {
      declares = s.declares;
      kinds = s.kinds;
      pushes = s.pushes;
      accesses = maps_same (λ (e : Shape). makes_accesses site.outer var directive body e.name) (λ (e : Shape). accessed_by l e.name)
          (λ e. ap (λ o. makes_accesses o var directive body e.name) s.loops ∙ accessed_is l outer var directive body h e.name) names.0 ∙ sym a;
      reduces = maps_same (λ (e : Shape). is_plus (sharing_in var directive body e.name)) (λ (e : Shape). is_plus (class_by l e.name))
          (λ e. ap is_plus (sym (class_is l outer var directive body h e.name))) names.0 ∙ sym r;
      loops = ap (λ xs. var ∷ xs) s.loops;
    }

-- ---- private scalars

one_stands : (names : Names) (pushed accessed reduced : List Bool) (outer : List (List ℕ)) (site : Site) (l : LoopNames) (var : List ℕ) (directive : Directive) (body : Statements) (x : List ℕ) (slot : ℕ)
    → IsScope names pushed accessed reduced outer site → IsLoopNames l outer var directive body → slot_of names.0 x ≡ Some slot → (q : PrivateScalar) → private_by names pushed l x (Some slot) ≡ q ∷ []
    → PrivateStands names site body x q
one_stands names pushed accessed reduced outer site l var directive body x slot s h f q e =
    let stands : slot_name names.0 slot ≡ x = slot_stands names.0 x slot (sym f) in
    let below : slot < length names.0 = (slot_found names.0 x slot (sym f)).3 in
    let marked : is_accessed_at pushed slot ≡ site.pushed x = ap (λ marks. is_accessed_at marks slot) (sym s.pushes) ∙ (marked_at site.pushed names.0 slot below ∙ ap site.pushed stands) in
    let is = list_head e in
    subst (λ p. PrivateStands names site body x p) is (record {
      slot = f;
      place = refl;
      pushing = ap (λ b. b && is_accessed_at pushed slot) (h.is_assigned x) ∙ ap (λ b. assigns_in x body && b) marked;
    })
  where
    list_head : {a b : PrivateScalar} → a ∷ [] ≡ b ∷ [] → a ≡ b
    list_head e = cc

stand_by : (names : Names) (pushed accessed reduced : List Bool) (outer : List (List ℕ)) (site : Site) (l : LoopNames) (var : List ℕ) (directive : Directive) (body : Statements) (x : List ℕ) (xs : List (List ℕ)) (qs : List PrivateScalar)
    (q : Bool) (o : Option ℕ)
    → IsScope names pushed accessed reduced outer site → IsLoopNames l outer var directive body → slot_of names.0 x ≡ o → is_some o ≡ true → PrivatesStand names site body xs qs
    → PrivatesStand names site body (if q then x ∷ xs else xs) ((if q then private_by names pushed l x o else []) ++ qs)
stand_by names pushed accessed reduced outer site l var directive body x xs qs false o s h f g r = r
stand_by names pushed accessed reduced outer site l var directive body x xs qs true None s h f g r = absurd (cc)
stand_by names pushed accessed reduced outer site l var directive body x xs qs true (Some slot) s h f g r =
    (one_stands names pushed accessed reduced outer site l var directive body x slot s h f _ refl, r)

-- each private name has its scalar
pub privates_stand : (names : Names) (pushed accessed reduced : List Bool) (outer : List (List ℕ)) (site : Site) (l : LoopNames) (var : List ℕ) (directive : Directive) (body : Statements) (xs : List (List ℕ))
    → IsScope names pushed accessed reduced outer site → IsLoopNames l outer var directive body → list_all (λ x. is_some (slot_of names.0 x)) xs ≡ true
    → PrivatesStand names site body (filter (λ x. is_private (sharing_in var directive body x)) xs) (privates_of names pushed l xs)
privates_stand names pushed accessed reduced outer site l var directive body [] s h g = tt
privates_stand names pushed accessed reduced outer site l var directive body (x ∷ xs) s h g =
    let p = and_parts (is_some (slot_of names.0 x)) (list_all (λ y. is_some (slot_of names.0 y)) xs) g in
    let rest = privates_stand names pushed accessed reduced outer site l var directive body xs s h p.1 in
    let made = stand_by names pushed accessed reduced outer site l var directive body x _ _ (is_private (sharing_in var directive body x)) (slot_of names.0 x) s h refl p.0 rest in
    subst (λ k. PrivatesStand names site body (filter (λ y. is_private (sharing_in var directive body y)) (x ∷ xs)) ((if is_private k then private_by names pushed l x (slot_of names.0 x) else []) ++ privates_of names pushed l xs))
    (sym (class_is l outer var directive body h x)) made
