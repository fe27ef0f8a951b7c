-- A loop's scene stands for what the definition of its forms goes by.
use Rattle.std.proofs.Common.{◌≡◌, ℕ, Bool, true, false, not, ◌&&◌, ◌||◌, if◌then◌else◌, List, [], ◌∷◌, ◌++◌, option_map, Option, Some, None, refl, sym, ap, ◌∙◌}
use Rattle.std.specs.Prelude.{bytes_eq}
use Rattle.fl_ast.specs.declared.decl.Decl.{Decl}
use Rattle.fl_ast.specs.Tree.{Statement, assignment, branch, loop, Statements, no_statements, statement, Arms, no_arms, arm}
use Rattle.fl_types.specs.declared.sharing.Sharing.TheVariants.{Shared, Private, First, Plus, LoopVar}
use Rattle.fl_types.specs.Nests.{Head}
use Rattle.fl_types.specs.Sharing.{has_name, is_ring_kind, is_ring_name, varies, varies_in, varies_in_arms, is_accessed, makes_accesses, ParallelLoop}
use Rattle.fl_types.specs.Accesses.{Scope}
use Rattle.index_forms.specs.declared.form.Side.{Side}
use Rattle.index_forms.specs.Form.{Form, start, iter}
use Rattle.index_forms.specs.Formed.{Known}
use Rattle.index_forms.specs.Loops.{HeadedLoop, names_by, names_in, names_in_arms, written_in, inside, further, known_of_further, variable_form, known_at_start, forms_scope, is_fixed}
use Rattle.index_forms.specs.Scenes.{is_shared, is_fixed_there, further_form, setting_there, known_there}
use Rattle.index_forms.specs.Walk.{Setting, setting_of, with_statements, loop_forms}
use Rattle.loop_scenes.specs.Scened.{unshared_names, ring_names, counter_of, scene_by, scope_there}

pub same_functions : {A : Type 0} {B : Type 0} {f g : A → B} → ((x : A) → f x ≡ g x) → f ≡ g
same_functions h = λ i x. h x i

or_assoc : (a b c : Bool) → ((a || b) || c) ≡ (a || (b || c))
or_assoc true b c = refl
or_assoc false b c = refl

pub has_either : (x : List ℕ) (xs ys : List (List ℕ)) → has_name x (xs ++ ys) ≡ (has_name x xs || has_name x ys)
has_either x [] ys = refl
has_either x (y ∷ xs) ys = ap (λ (b : Bool). bytes_eq x y || b) (has_either x xs ys) ∙ sym (or_assoc (bytes_eq x y) (has_name x xs) (has_name x ys))

both : (x : List ℕ) (xs ys : List (List ℕ)) (a b : Bool) → has_name x xs ≡ a → has_name x ys ≡ b → has_name x (xs ++ ys) ≡ (a || b)
both x xs ys a b e d = has_either x xs ys ∙ (ap (λ (q : Bool). q || has_name x ys) e ∙ ap (λ (q : Bool). a || q) d)

-- ---- variables of loops

mutual
  varying_by : (x : List ℕ) (s : Statement) → has_name x (names_by false s) ≡ varies x s
  varying_by x (assignment line atomic target value) = refl
  varying_by x (branch line arms other) = both x (names_in_arms false arms) (names_in false other) (varies_in_arms x arms) (varies_in x other) (varying_in_arms x arms) (varying_in x other)
  varying_by x (loop line number directive var first last step body) = ap (λ (b : Bool). bytes_eq x var || b) (varying_in x body)

  varying_in : (x : List ℕ) (ss : Statements) → has_name x (names_in false ss) ≡ varies_in x ss
  varying_in x no_statements = refl
  varying_in x (statement s ss) = both x (names_by false s) (names_in false ss) (varies x s) (varies_in x ss) (varying_by x s) (varying_in x ss)

  varying_in_arms : (x : List ℕ) (arms : Arms) → has_name x (names_in_arms false arms) ≡ varies_in_arms x arms
  varying_in_arms x no_arms = refl
  varying_in_arms x (arm test body arms) = both x (names_in false body) (names_in_arms false arms) (varies_in x body) (varies_in_arms x arms) (varying_in x body) (varying_in_arms x arms)

-- ---- which names make accesses

by_classes : (o a v p f r : Bool) → not (o || (a || (v || p))) ≡ (not o && is_accessed (if a || v then LoopVar else if p then Private else if f then First else if r then Plus else Shared))
by_classes true a v p f r = refl
by_classes false true v p f r = refl
by_classes false false true p f r = refl
by_classes false false false true f r = refl
by_classes false false false false true r = refl
by_classes false false false false false true = refl
by_classes false false false false false false = refl

unshared_are : (x : List ℕ) (l : ParallelLoop) → has_name x (unshared_names l) ≡ (has_name x l.outer || (bytes_eq x l.var || (varies_in x l.body || has_name x l.directive.privates)))
unshared_are x l =
    both x l.outer (l.var ∷ (names_in false l.body ++ l.directive.privates)) (has_name x l.outer) (bytes_eq x l.var || (varies_in x l.body || has_name x l.directive.privates)) refl
    (ap (λ (b : Bool). bytes_eq x l.var || b) (both x (names_in false l.body) l.directive.privates (varies_in x l.body) (has_name x l.directive.privates) (varying_in x l.body) refl))

pub shared_is : (side : Side) (decls : List Decl) (l : HeadedLoop) (x : List ℕ) → is_shared (scene_by side decls l) x ≡ makes_accesses l.loop.outer l.loop.var l.loop.directive l.loop.body x
shared_is side decls l x =
    ap not (unshared_are x l.loop)
    ∙ by_classes (has_name x l.loop.outer) (bytes_eq x l.loop.var) (varies_in x l.loop.body) (has_name x l.loop.directive.privates) (has_name x l.loop.directive.firsts) (has_name x l.loop.directive.pluses)

-- ---- names of the ring kind

ring_swapped : (a b : Bool) → (a || b) ≡ ((if a then true else false) || b)
ring_swapped true b = refl
ring_swapped false b = refl

ring_none : (a b : Bool) → b ≡ ((if a then false else false) || b)
ring_none true b = refl
ring_none false b = refl

ring_by : (x y : List ℕ) (ys : List (List ℕ)) (b k : Bool) → has_name x ys ≡ b → has_name x (if k then y ∷ ys else ys) ≡ ((if bytes_eq x y then k else false) || b)
ring_by x y ys b true e = ap (λ (q : Bool). bytes_eq x y || q) e ∙ ring_swapped (bytes_eq x y) b
ring_by x y ys b false e = e ∙ ring_none (bytes_eq x y) b

ring_is : (x : List ℕ) (ds : List Decl) → has_name x (ring_names ds) ≡ is_ring_name ds x
ring_is x [] = refl
ring_is x (d ∷ ds) = ring_by x d.name (ring_names ds) (is_ring_name ds x) (is_ring_kind d.kind) (ring_is x ds)

-- ---- the setting, and what is known at the start

pub scope_is : (side : Side) (decls : List Decl) (l : HeadedLoop) → scope_there (scene_by side decls l) ≡ forms_scope decls l
scope_is side decls l =
    ap (λ (a : List ℕ → Bool). (let s : Scope = record { accessed = a; pluses = λ x. false; ring = λ x. has_name x (ring_names decls) } in s)) (same_functions (shared_is side decls l))
    ∙ ap (λ (r : List ℕ → Bool). (let s : Scope = record { accessed = makes_accesses l.loop.outer l.loop.var l.loop.directive l.loop.body; pluses = λ x. false; ring = r } in s)) (same_functions (λ (x : List ℕ). ring_is x decls))

pub fixed_is : (side : Side) (decls : List Decl) (l : HeadedLoop) → is_fixed_there (scene_by side decls l) ≡ is_fixed decls l
fixed_is side decls l =
    same_functions (λ (x : List ℕ). ap (λ (b : Bool). b && not (has_name x (written_in (inside l)) || has_name x (ring_names decls))) (shared_is side decls l x)
    ∙ ap (λ (b : Bool). makes_accesses l.loop.outer l.loop.var l.loop.directive l.loop.body x && not (has_name x (written_in (inside l)) || b)) (ring_is x decls))

setting_is : (side : Side) (decls : List Decl) (l : HeadedLoop) → setting_there (scene_by side decls l) ≡ setting_of decls l side
setting_is side decls l =
    ap (λ (s : Scope). (let t : Setting = record { side = side; scope = s; fixed = is_fixed_there (scene_by side decls l) } in t)) (scope_is side decls l)
    ∙ ap (λ (f : List ℕ → Bool). (let t : Setting = record { side = side; scope = forms_scope decls l; fixed = f } in t)) (fixed_is side decls l)

further_is : (side : Side) (x : List ℕ) (h : Option Head) → further_form side x (option_map counter_of h) ≡ known_of_further side x h
further_is side x None = refl
further_is side x (Some h) = refl

known_is : (side : Side) (decls : List Decl) (l : HeadedLoop) → known_there (scene_by side decls l) [] ≡ known_at_start side l
known_is side decls l = same_functions (λ (x : List ℕ). ap (λ (f : Option Form). if has_name x (written_in (inside l)) then None
    else if bytes_eq x l.head.var then Some (variable_form start (iter side) l.head)
    else f) (further_is side x (further l)))

-- the forms by the scene are the loop's
pub forms_are : (side : Side) (decls : List Decl) (l : HeadedLoop) → with_statements (setting_there (scene_by side decls l)) 1 (known_there (scene_by side decls l) []) (inside l) [] ≡ loop_forms decls l side
forms_are side decls l =
    ap (λ (s : Setting). with_statements s 1 (known_there (scene_by side decls l) []) (inside l) []) (setting_is side decls l)
    ∙ ap (λ (k : Known). with_statements (setting_of decls l side) 1 k (inside l) []) (known_is side decls l)
