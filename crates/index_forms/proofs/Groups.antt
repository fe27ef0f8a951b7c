-- Groups of accesses, one after the other.
use Rattle.std.proofs.Common.{◌≡◌, ℕ, suc, ◌<◌, ◌≤◌, true, false, List, [], ◌∷◌, ◌++◌, drop, length, get_or, refl, sym, ap, ◌∙◌, subst}
use Rattle.std.proofs.lemmas.List.{drop_all}
use Rattle.std.proofs.Math.Seq.{drop-cons}
use Rattle.fl_ast.specs.declared.expr.Expr as program_expr
use Rattle.fl_ast.specs.Tree.{Designator, expr_tree, expr_trees}
use Rattle.fl_types.specs.declared.access.AccessKind.TheVariants.{Read}
use Rattle.fl_types.specs.Sharing.{has_name}
use Rattle.fl_types.specs.Accesses.{Occurrence, access, reads, reads_all}
use Rattle.index_forms.specs.declared.form.Form as program_form
use Rattle.index_forms.specs.declared.scene.Scene.{Scene}
use Rattle.index_forms.specs.declared.origin.Entry.{Entry}
use Rattle.index_forms.specs.Form.{Forms}
use Rattle.index_forms.specs.Formed.{Known, subscript_forms}
use Rattle.index_forms.specs.Walk.{Setting, viewed, with_group}
use Rattle.index_forms.specs.Scenes.{setting_there, known_there, viewed_with}
use Rattle.index_forms.specs.Listed.{forms_seen, all_forms_seen}

pub with_both : (c : Setting) (k : Known) (os ps : List Occurrence) (fs : List Forms) → with_group c k (os ++ ps) fs ≡ with_group c k ps (with_group c k os fs)
with_both c k [] ps fs = refl
with_both c k (o ∷ os) ps fs = with_both c k os ps (fs ++ subscript_forms (viewed c k (suc (length fs))) o.place.subscripts ∷ [])

pub two_groups : (c : Setting) (k : Known) (os ps : List Occurrence) (fs gs hs : List Forms) → gs ≡ with_group c k os fs → hs ≡ with_group c k ps gs → hs ≡ with_group c k (os ++ ps) fs
two_groups c k os ps fs gs hs e d = d ∙ ap (with_group c k ps) e ∙ sym (with_both c k os ps fs)

pub access_none : (c : Scene) (k : Known) (p : Designator) (fs : List Forms) → has_name p.name c.unshared ≡ true → fs ≡ with_group (setting_there c) k (access (setting_there c).scope 0 [] Read p) fs
access_none c k p fs h = rw h refl

seen_more : (fss : List (List program_form.Form)) (fs : List program_form.Form) → all_forms_seen (fss ++ fs ∷ []) ≡ all_forms_seen fss ++ forms_seen fs ∷ []
seen_more [] fs = refl
seen_more (g ∷ fss) fs = ap (λ (l : List Forms). forms_seen g ∷ l) (seen_more fss fs)

seen_length : (fss : List (List program_form.Form)) → length (all_forms_seen fss) ≡ length fss
seen_length [] = refl
seen_length (g ∷ fss) = ap suc (seen_length fss)

pub access_made : (c : Scene) (es : List Entry) (p : Designator) (fss gss : List (List program_form.Form)) (fs : List program_form.Form) (n : ℕ) → has_name p.name c.unshared ≡ false → n ≡ suc (length fss) →
    forms_seen fs ≡ subscript_forms (viewed_with c es n) p.subscripts → gss ≡ fss ++ fs ∷ [] →
    all_forms_seen gss ≡ with_group (setting_there c) (known_there c es) (access (setting_there c).scope 0 [] Read p) (all_forms_seen fss)
access_made c es p fss gss fs n h e d g =
    ap all_forms_seen g ∙ seen_more fss fs ∙ ap (λ (t : Forms). all_forms_seen fss ++ t ∷ []) d
    ∙ ap (λ (m : ℕ). all_forms_seen fss ++ subscript_forms (viewed_with c es m) p.subscripts ∷ []) (e ∙ ap suc (sym (seen_length fss)))
    ∙ rw h refl

-- ---- lists of expressions

pub rest_begun : (c : Setting) (k : Known) (es : List program_expr.Expr) (fs : List Forms) → with_group c k (reads_all c.scope 0 [] (expr_trees (drop 0 es))) fs ≡ with_group c k (reads_all c.scope 0 [] (expr_trees es)) fs
rest_begun c k es fs = refl

pub rest_more : (c : Setting) (k : Known) (es : List program_expr.Expr) (i : ℕ) (e : program_expr.Expr) (fs gs hs : List Forms) → i < length es → get_or es i e ≡ e →
    gs ≡ with_group c k (reads c.scope 0 [] (expr_tree e)) fs → with_group c k (reads_all c.scope 0 [] (expr_trees (drop i es))) fs ≡ hs →
    with_group c k (reads_all c.scope 0 [] (expr_trees (drop (suc i) es))) gs ≡ hs
rest_more c k es i e fs gs hs h g r s =
    let d : drop i es ≡ e ∷ drop (suc i) es = drop-cons es i e h ∙ ap (λ (z : program_expr.Expr). z ∷ drop (suc i) es) g in
    ap (with_group c k (reads_all c.scope 0 [] (expr_trees (drop (suc i) es)))) r
    ∙ sym (with_both c k (reads c.scope 0 [] (expr_tree e)) (reads_all c.scope 0 [] (expr_trees (drop (suc i) es))) fs)
    ∙ ap (λ (l : List program_expr.Expr). with_group c k (reads_all c.scope 0 [] (expr_trees l)) fs) (sym d) ∙ s

pub rest_done : (c : Setting) (k : Known) (es : List program_expr.Expr) (i : ℕ) (fs hs : List Forms) → length es ≤ i → with_group c k (reads_all c.scope 0 [] (expr_trees (drop i es))) fs ≡ hs → fs ≡ hs
rest_done c k es i fs hs h s = subst (λ (l : List program_expr.Expr). with_group c k (reads_all c.scope 0 [] (expr_trees l)) fs ≡ hs) (drop_all i es h) s
