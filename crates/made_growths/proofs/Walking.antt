-- Increments that are added one by one, and those of an operation by those of its operands.
use Rattle.std.specs.Prelude.{◌≡◌, ℕ, ◌<◌, Bool, true, false, List, [], ◌∷◌, ◌++◌, map, length, Option, Some, None, refl}
use Rattle.std.proofs.Common.{ap, sym, ◌∙◌, subst, append_assoc, append-nil}
use Rattle.std.proofs.lemmas.List.{map-append}
use Rattle.fl_ast.specs.declared.kind.Kind.TheVariants as kind
use Rattle.fl_ast.specs.declared.kind.RelOp.{RelOp}
use Rattle.fl_ast.specs.declared.kind.RelOp.TheVariants as rel
use Rattle.fl_ast.specs.declared.kind.Fun.{Fun}
use Rattle.fl_ast.specs.declared.kind.Fun.TheVariants as fun
use Rattle.fl_ast.specs.Tree.{Expression, literal, call, Expressions, Designator, relation}
use Rattle.fl_types.specs.Increment.{target_of}
use Rattle.resolved.specs.SlotTables.{Names}
use Rattle.resolved.specs.ResolvedExprs.{slot_name}
use Rattle.sweep_trees.specs.Standing.{one, two, is_accessed_at}
use Rattle.split_trees.specs.Codes.{is_kinded}
use Rattle.loop_scopes.proofs.Scopes.{marked_at}
use Rattle.transposition.specs.Worlds.{World}
use Rattle.transposition.specs.Spread.{Factor, either, Occurrence, occurrences, minus_one}
use Rattle.undo_steps.specs.declared.undo.Growth.{Growth}
use Rattle.undo_steps.specs.UndoSteps.{GrowthTree, growth_tree}
use Rattle.undo_steps.specs.UndosStand.{GrowthStands, EachGrowthStands}
use Rattle.made_growths.specs.Told.{Told, IsGrowing}
use Rattle.made_growths.specs.Factors.{relation_of}

-- ---- one more

pub pushed_growth : (old new : List Growth) (x y : Growth) → new ≡ old ++ x ∷ [] → x ≡ y → map growth_tree new ≡ map growth_tree old ++ growth_tree y ∷ []
pushed_growth old new x y e f = ap (map growth_tree) e ∙ (map-append growth_tree old (x ∷ []) ∙ ap (λ (g : Growth). map growth_tree old ++ growth_tree g ∷ []) f)

each_more : (names : Names) (w : World) (os : List Occurrence) (gs : List GrowthTree) (o : Occurrence) (g : GrowthTree) → EachGrowthStands names w os gs → GrowthStands names w o g
    → EachGrowthStands names w (os ++ o ∷ []) (gs ++ g ∷ [])
each_more names w [] [] o g h k = (k, tt)
each_more names w [] (x ∷ gs) o g h k = absurd h
each_more names w (p ∷ os) [] o g h k = absurd h
each_more names w (p ∷ os) (x ∷ gs) o g h k = (h.0, each_more names w os gs o g h.1 k)

pub is_on : (names : Names) (t : Told) (region : Option ℕ) (w : World) (slot : ℕ) (x : List ℕ) → IsGrowing names t region w → slot < length names.0 → x ≡ slot_name names.0 slot
    → w.active x ≡ is_accessed_at t.active slot
is_on names t region w slot x g h e =
    ap w.active e ∙ (sym (marked_at w.active names.0 slot h) ∙ ap (λ marks. is_accessed_at marks slot) g.actives)

occurrence_by : (on : List ℕ → Bool) (p : Designator) (less : Bool) (fs : List Factor) → on p.name ≡ true
    → occurrences on (target_of p) less fs ≡ record { place = p; negative = less; factors = fs } ∷ []
occurrence_by on p less fs h = rw h refl

no_occurrence : (on : List ℕ → Bool) (p : Designator) (less : Bool) (fs : List Factor) → on p.name ≡ false → occurrences on (target_of p) less fs ≡ []
no_occurrence on p less fs h = rw h refl

-- the occurrence of an active name
pub grown : (names : Names) (w : World) (os : List Occurrence) (gs : List GrowthTree) (p : Designator) (less : Bool) (fs : List Factor) (g : GrowthTree) → w.active p.name ≡ true
    → EachGrowthStands names w os gs → GrowthStands names w (record { place = p; negative = less; factors = fs }) g
    → EachGrowthStands names w (os ++ occurrences w.active (target_of p) less fs) (gs ++ g ∷ [])
grown names w os gs p less fs g a h k =
    subst (λ xs. EachGrowthStands names w (os ++ xs) (gs ++ g ∷ [])) (sym (occurrence_by w.active p less fs a)) (each_more names w os gs _ g h k)

nothing_more : (names : Names) (w : World) (os xs : List Occurrence) (gs : List GrowthTree) → xs ≡ [] → EachGrowthStands names w os gs → EachGrowthStands names w (os ++ xs) gs
nothing_more names w os xs gs e h = subst (λ (l : List Occurrence). EachGrowthStands names w l gs) (sym (ap (λ (l : List Occurrence). os ++ l) e ∙ append-nil os)) h

pub not_grown : (names : Names) (w : World) (os : List Occurrence) (gs : List GrowthTree) (p : Designator) (less : Bool) (fs : List Factor) → w.active p.name ≡ false
    → EachGrowthStands names w os gs → EachGrowthStands names w (os ++ occurrences w.active (target_of p) less fs) gs
not_grown names w os gs p less fs a h = nothing_more names w os _ gs (no_occurrence w.active p less fs a) h

-- ---- operands

of_same : (names : Names) (w : World) (os : List Occurrence) (gs : List GrowthTree) (e a : Expression) (less : Bool) (fs : List Factor) → e ≡ a
    → EachGrowthStands names w (os ++ occurrences w.active a less fs) gs → EachGrowthStands names w (os ++ occurrences w.active e less fs) gs
of_same names w os gs e a less fs f h = subst (λ x. EachGrowthStands names w (os ++ occurrences w.active x less fs) gs) (sym f) h

grouped : (names : Names) (w : World) (os xs ys : List Occurrence) (gs : List GrowthTree) → EachGrowthStands names w ((os ++ xs) ++ ys) gs → EachGrowthStands names w (os ++ (xs ++ ys)) gs
grouped names w os xs ys gs h = subst (λ (l : List Occurrence). EachGrowthStands names w l gs) (append_assoc os xs ys) h

-- two operands, each with its factors
walked_two : (names : Names) (w : World) (os : List Occurrence) (gs : List GrowthTree) (a b : Expression) (less : Bool) (p q ps qs : List Factor) → p ≡ ps → q ≡ qs
    → EachGrowthStands names w ((os ++ occurrences w.active a less p) ++ occurrences w.active b less q) gs
    → EachGrowthStands names w (os ++ (occurrences w.active a less ps ++ occurrences w.active b less qs)) gs
walked_two names w os gs a b less p q ps qs f g h =
    grouped names w os _ _ gs
    (subst (λ (l : List Factor). EachGrowthStands names w ((os ++ occurrences w.active a less ps) ++ occurrences w.active b less l) gs) g
    (subst (λ (l : List Factor). EachGrowthStands names w ((os ++ occurrences w.active a less l) ++ occurrences w.active b less q) gs) f h))

-- ---- calls

only_absolute : (names : Names) (f : Fun) (a : Expression) → is_kinded names (call f (one a)) ≡ true → f ≡ fun.Abs
only_absolute names fun.Abs a h = refl
only_absolute names fun.Max a h = absurd (cc)
only_absolute names fun.Min a h = absurd (cc)
only_absolute names fun.Mod a h = absurd (cc)

pub of_absolute : (names : Names) (w : World) (os : List Occurrence) (gs : List GrowthTree) (f : Fun) (es : Expressions) (a : Expression) (less : Bool) (fs p : List Factor)
    → is_kinded names (call f es) ≡ true → es ≡ one a → p ≡ fs ++ either minus_one 1 (relation rel.Lt a (literal 0 kind.Ring)) ∷ []
    → EachGrowthStands names w (os ++ occurrences w.active a less p) gs → EachGrowthStands names w (os ++ occurrences w.active (call f es) less fs) gs
of_absolute names w os gs f es a less fs p k e i h =
    let is : call f es ≡ call fun.Abs (one a) = ap (call f) e ∙ ap (λ g. call g (one a)) (only_absolute names f a (subst (λ xs. is_kinded names (call f xs) ≡ true) e k)) in
    of_same names w os gs (call f es) (call fun.Abs (one a)) less fs is (subst (λ (l : List Factor). EachGrowthStands names w (os ++ occurrences w.active a less l) gs) i h)

two_by : (on : List ℕ → Bool) (f : Fun) (o : RelOp) (a b : Expression) (less : Bool) (fs : List Factor) → relation_of f ≡ Some o
    → occurrences on (call f (two a b)) less fs ≡ occurrences on a less (fs ++ either 1 0 (relation o a b) ∷ []) ++ occurrences on b less (fs ++ either 0 1 (relation o a b) ∷ [])
two_by on fun.Max rel.Ge a b less fs h = refl
two_by on fun.Max rel.Lt a b less fs h = absurd (cc)
two_by on fun.Max rel.Le a b less fs h = absurd (cc)
two_by on fun.Max rel.Gt a b less fs h = absurd (cc)
two_by on fun.Max rel.Eq a b less fs h = absurd (cc)
two_by on fun.Max rel.Ne a b less fs h = absurd (cc)
two_by on fun.Min rel.Le a b less fs h = refl
two_by on fun.Min rel.Lt a b less fs h = absurd (cc)
two_by on fun.Min rel.Ge a b less fs h = absurd (cc)
two_by on fun.Min rel.Gt a b less fs h = absurd (cc)
two_by on fun.Min rel.Eq a b less fs h = absurd (cc)
two_by on fun.Min rel.Ne a b less fs h = absurd (cc)
two_by on fun.Abs o a b less fs h = absurd (cc)
two_by on fun.Mod o a b less fs h = absurd (cc)

none_by : (on : List ℕ → Bool) (f : Fun) (a b : Expression) (less : Bool) (fs : List Factor) → relation_of f ≡ None → occurrences on (call f (two a b)) less fs ≡ []
none_by on fun.Max a b less fs h = absurd (cc)
none_by on fun.Min a b less fs h = absurd (cc)
none_by on fun.Abs a b less fs h = refl
none_by on fun.Mod a b less fs h = refl

pub of_choice : (names : Names) (w : World) (os : List Occurrence) (gs : List GrowthTree) (f : Fun) (o : RelOp) (es : Expressions) (a b : Expression) (less : Bool) (fs p q : List Factor)
    → relation_of f ≡ Some o → es ≡ two a b → p ≡ fs ++ either 1 0 (relation o a b) ∷ [] → q ≡ fs ++ either 0 1 (relation o a b) ∷ []
    → EachGrowthStands names w ((os ++ occurrences w.active a less p) ++ occurrences w.active b less q) gs → EachGrowthStands names w (os ++ occurrences w.active (call f es) less fs) gs
of_choice names w os gs f o es a b less fs p q r e i j h =
    let is : occurrences w.active (call f es) less fs ≡ occurrences w.active a less (fs ++ either 1 0 (relation o a b) ∷ []) ++ occurrences w.active b less (fs ++ either 0 1 (relation o a b) ∷ [])
    = ap (λ xs. occurrences w.active (call f xs) less fs) e ∙ two_by w.active f o a b less fs r in
    subst (λ (l : List Occurrence). EachGrowthStands names w (os ++ l) gs) (sym is) (walked_two names w os gs a b less p q _ _ i j h)

pub of_other : (names : Names) (w : World) (os : List Occurrence) (gs : List GrowthTree) (f : Fun) (es : Expressions) (a b : Expression) (less : Bool) (fs : List Factor)
    → relation_of f ≡ None → es ≡ two a b → EachGrowthStands names w os gs → EachGrowthStands names w (os ++ occurrences w.active (call f es) less fs) gs
of_other names w os gs f es a b less fs r e h = nothing_more names w os _ gs (ap (λ xs. occurrences w.active (call f xs) less fs) e ∙ none_by w.active f a b less fs r) h
