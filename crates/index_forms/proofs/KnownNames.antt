-- What is known with further entries.
use Rattle.std.proofs.Common.{◌≡◌, ℕ, suc, ◌<◌, ◌≤◌, Bool, true, false, ◌||◌, if◌then◌else◌, bytes_eq, List, [], ◌∷◌, ◌++◌, drop, length, get_or, Option, Some, None, refl, sym, ap, ◌∙◌, subst, arith}
use Rattle.std.proofs.Math.Seq.{drop-cons}
use Rattle.std.proofs.lemmas.List.{drop_all}
use Rattle.fl_ast.specs.declared.expr.Expr as program_expr
use Rattle.fl_ast.specs.Tree.{Designator, Expressions, no_expressions, expression, expr_trees}
use Rattle.fl_types.specs.Sharing.{has_name}
use Rattle.index_forms.specs.declared.form.Side.{Side}
use Rattle.index_forms.specs.declared.origin.Origin.{Origin}
use Rattle.index_forms.specs.declared.origin.Origin.TheVariants.{Unknown, Turn}
use Rattle.index_forms.specs.declared.origin.Entry.{Entry}
use Rattle.index_forms.specs.declared.scene.Scene.{Scene}
use Rattle.index_forms.specs.Form.{Form}
use Rattle.index_forms.specs.Formed.{Known}
use Rattle.index_forms.specs.Origins.{origin_form, later_of, origin_in, form_by, known_with, unknown_of, assigned_origin}
use Rattle.index_forms.specs.Scenes.{known_first, known_there}
use Rattle.index_forms.specs.Walk.{without, assigned_at, in_turn_of, version_form}

later_assoc : (a b c : Option Origin) → later_of (later_of a b) c ≡ later_of a (later_of b c)
later_assoc None b c = refl
later_assoc (Some p) b c = refl

in_both : (es fs : List Entry) (x : List ℕ) → origin_in (es ++ fs) x ≡ later_of (origin_in fs x) (origin_in es x)
in_both [] fs x = by_none (origin_in fs x)
  where
    by_none : (o : Option Origin) → o ≡ later_of o None
    by_none None = refl
    by_none (Some p) = refl
in_both (e ∷ es) fs x =
    ap (λ (o : Option Origin). later_of o (if bytes_eq x e.name then Some e.origin else None)) (in_both es fs x)
    ∙ later_assoc (origin_in fs x) (origin_in es x) (if bytes_eq x e.name then Some e.origin else None)

unknown_by : (b c : Bool) → later_of (if c then Some Unknown else None) (if b then Some Unknown else None) ≡ (if b || c then Some Unknown else None)
unknown_by true true = refl
unknown_by true false = refl
unknown_by false true = refl
unknown_by false false = refl

in_unknown : (names : List (List ℕ)) (x : List ℕ) → origin_in (unknown_of names) x ≡ (if has_name x names then Some Unknown else None)
in_unknown [] x = refl
in_unknown (y ∷ names) x =
    ap (λ (o : Option Origin). later_of o (if bytes_eq x y then Some Unknown else None)) (in_unknown names x) ∙ unknown_by (bytes_eq x y) (has_name x names)

hidden_by : (side : Side) (x : List ℕ) (b : Bool) (o : Option Origin) (k : Option Form) → form_by side x (later_of (if b then Some Unknown else None) o) k ≡ (if b then None else form_by side x o k)
hidden_by side x true o k = refl
hidden_by side x false o k = refl

hidden_at : (side : Side) (es : List Entry) (names : List (List ℕ)) (first : Known) (x : List ℕ) → known_with side (es ++ unknown_of names) first x ≡ without names (known_with side es first) x
hidden_at side es names first x =
    ap (λ (o : Option Origin). form_by side x o (first x)) (in_both es (unknown_of names) x ∙ ap (λ (o : Option Origin). later_of o (origin_in es x)) (in_unknown names x))
    ∙ hidden_by side x (has_name x names) (origin_in es x) (first x)

all_same : (k h : Known) → ((x : List ℕ) → k x ≡ h x) → k ≡ h
all_same k h e = λ i x. e x i

pub hidden : (c : Scene) (es fs : List Entry) (names : List (List ℕ)) → fs ≡ es ++ unknown_of names → known_there c fs ≡ without names (known_there c es)
hidden c es fs names e = ap (known_there c) e ∙ all_same (known_there c (es ++ unknown_of names)) (without names (known_there c es)) (hidden_at c.side es names (known_first c))

-- ---- one entry more

one_by : (side : Side) (x : List ℕ) (b : Bool) (p : Origin) (o : Option Origin) (k : Option Form) → form_by side x (later_of (if b then Some p else None) o) k ≡ (if b then origin_form side x p else form_by side x o k)
one_by side x true p o k = refl
one_by side x false p o k = refl

abbrev said : Side → Entry → Known → Known
said side e k = λ x. if bytes_eq x e.name then origin_form side x e.origin else k x

one_at : (side : Side) (es : List Entry) (e : Entry) (first : Known) (x : List ℕ) → known_with side (es ++ e ∷ []) first x ≡ said side e (known_with side es first) x
one_at side es e first x = ap (λ (o : Option Origin). form_by side x o (first x)) (in_both es (e ∷ []) x) ∙ one_by side x (bytes_eq x e.name) e.origin (origin_in es x) (first x)

one_more : (c : Scene) (es fs : List Entry) (e : Entry) → fs ≡ es ++ e ∷ [] → known_there c fs ≡ said c.side e (known_there c es)
one_more c es fs e h = ap (known_there c) h ∙ all_same (known_there c (es ++ e ∷ [])) (said c.side e (known_there c es)) (one_at c.side es e (known_first c))

pub turn_said : (c : Scene) (es fs : List Entry) (x : List ℕ) (number : ℕ) → fs ≡ es ++ record { name = x; origin = Turn number } ∷ [] → known_there c fs ≡ in_turn_of c.side number x (known_there c es)
turn_said c es fs x number h = one_more c es fs (record { name = x; origin = Turn number }) h

same_version : (side : Side) (x : List ℕ) (n : ℕ) (ss : Expressions) → origin_form side x (assigned_origin n ss) ≡ version_form side n x ss
same_version side x n no_expressions = refl
same_version side x n (expression e es) = refl

pub assigned_said : (c : Scene) (es fs : List Entry) (n : ℕ) (p : Designator) → fs ≡ es ++ record { name = p.name; origin = assigned_origin n p.subscripts } ∷ [] → known_there c fs ≡ assigned_at c.side n p (known_there c es)
assigned_said c es fs n p h =
    let e : Entry = record { name = p.name; origin = assigned_origin n p.subscripts } in
    one_more c es fs e h
    ∙ all_same (said c.side e (known_there c es)) (assigned_at c.side n p (known_there c es)) (λ x. ap (λ (f : Option Form). if bytes_eq x p.name then f else known_there c es x) (same_version c.side x n p.subscripts))

pub element_unknown : (n : ℕ) (ss : List program_expr.Expr) → 0 < length ss → Unknown ≡ assigned_origin n (expr_trees ss)
element_unknown n [] l = absurd (omega arith)
element_unknown n (s ∷ ss) l = refl

pub unknown_more : (xs : List (List ℕ)) (i : ℕ) (x : List ℕ) (es fs all : List Entry) → i < length xs → get_or xs i x ≡ x → fs ≡ es ++ record { name = x; origin = Unknown } ∷ [] → es ++ unknown_of (drop i xs) ≡ all → fs ++ unknown_of (drop (suc i) xs) ≡ all
unknown_more xs i x es fs all h g e d =
    let f : drop i xs ≡ x ∷ drop (suc i) xs = drop-cons xs i x h ∙ ap (λ (z : List ℕ). z ∷ drop (suc i) xs) g in
    ap (λ (l : List Entry). l ++ unknown_of (drop (suc i) xs)) e ∙ assoc es (record { name = x; origin = Unknown } ∷ []) (unknown_of (drop (suc i) xs))
    ∙ ap (λ (l : List (List ℕ)). es ++ unknown_of l) (sym f) ∙ d
  where
    assoc : (a b c : List Entry) → (a ++ b) ++ c ≡ a ++ (b ++ c)
    assoc [] b c = refl
    assoc (y ∷ a) b c = ap (λ (l : List Entry). y ∷ l) (assoc a b c)

pub unknown_done : (xs : List (List ℕ)) (i : ℕ) (es all : List Entry) → length xs ≤ i → es ++ unknown_of (drop i xs) ≡ all → es ≡ all
unknown_done xs i es all h d = sym (none es) ∙ subst (λ (l : List (List ℕ)). es ++ unknown_of l ≡ all) (drop_all i xs h) d
  where
    none : (a : List Entry) → a ++ [] ≡ a
    none [] = refl
    none (y ∷ a) = ap (λ (l : List Entry). y ∷ l) (none a)
