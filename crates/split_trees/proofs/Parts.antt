-- The parts of well kinded trees.
use Rattle.std.specs.Prelude.{◌≡◌, ℕ, ◌<◌, ◌≤◌, nat_lt, Bool, true, ◌&&◌, List, [], ◌∷◌, ◌++◌, length, map, slice_index_or, refl}
use Rattle.std.specs.List.{list_all}
use Rattle.std.proofs.Common.{rules, arith, sym, ◌∙◌, ap, subst}
use Rattle.std.proofs.lemmas.Bool.{and_parts, and_from, ltb-true}
use Rattle.fl_ast.specs.declared.kind.BinOp.{BinOp}
use Rattle.fl_ast.specs.declared.kind.Fun.{Fun}
use Rattle.fl_ast.specs.declared.kind.Fun.TheVariants.{Max, Min, Abs, Mod}
use Rattle.fl_ast.specs.Tree.{Expression, get, binary, call, Expressions, no_expressions, expression, expressions_of, Designator, conjunction, disjunction}
use Rattle.fl_types.specs.Kinds.{is_index_kind, kinds_of_expressions, are_well_kinded, takes_operands, takes_arguments, is_index_expression, is_well_kinded_condition, Names as Known}
use Rattle.fl_types.specs.Increment.{target_of}
use Rattle.store_core.specs.declared.layout.Shape.{Shape}
use Rattle.resolved.specs.declared.resolved.ResolvedPlace.{ResolvedPlace}
use Rattle.meaning.specs.Fitting.{names_at}
use Rattle.resolved.specs.declared.resolved.ResolvedExpr.{ResolvedExpr, the_lemmas as resolved_lemmas}
use Rattle.resolved.specs.declared.resolved.ResolvedExpr.TheVariants as resolved
use Rattle.resolved.specs.declared.resolved.ResolvedCond.{ResolvedCond, the_lemmas as cond_lemmas}
use Rattle.resolved.specs.declared.resolved.ResolvedCond.TheVariants as conds
use Rattle.resolved.specs.SlotTables.{Names, table_site}
use Rattle.resolved.specs.ResolvedExprs.{slot_name, expression_back, expressions_back, place_back, condition_back, is_within, are_within, is_place_within, is_condition_within}
use Rattle.sweep_trees.specs.declared.code.IndexCode.{IndexCode}
use Rattle.sweep_trees.specs.Split.{index_tree, index_trees}
use Rattle.sweep_trees.specs.Standing.{one, two, index_back, indices_back, is_index_fit, are_indices_fit}
use Rattle.split_trees.specs.Codes.{table_kind, is_kinded, are_index_expressions}

-- ---- operations

pub bin_within : (n : ℕ) (expr : ResolvedExpr) (op : BinOp) (a b : ResolvedExpr) → expr ≡ resolved.Bin op a b → is_within n expr ≡ true
    → (is_within n a ≡ true) × (is_within n b ≡ true)
bin_within n expr op a b e h =
    let f : is_within n expr ≡ (is_within n a && is_within n b) = search (rules, resolved_lemmas) in
    and_parts (is_within n a) (is_within n b) (sym f ∙ h)

pub bin_kinded : (names : Names) (expr : ResolvedExpr) (op : BinOp) (a b : ResolvedExpr) → expr ≡ resolved.Bin op a b → is_kinded names (expression_back names.0 expr) ≡ true
    → (takes_operands op (table_kind names (expression_back names.0 a)) (table_kind names (expression_back names.0 b)) ≡ true)
    × (is_kinded names (expression_back names.0 a) ≡ true) × (is_kinded names (expression_back names.0 b) ≡ true)
bin_kinded names expr op a b e h =
    let f : expression_back names.0 expr ≡ binary op (expression_back names.0 a) (expression_back names.0 b) = search (rules, resolved_lemmas) in
    let p = and_parts (takes_operands op (table_kind names (expression_back names.0 a)) (table_kind names (expression_back names.0 b))) _ (ap (is_kinded names) (sym f) ∙ h) in
    let q = and_parts (is_kinded names (expression_back names.0 a)) (is_kinded names (expression_back names.0 b)) p.1 in
    (p.0, q.0, q.1)

-- ---- calls

pub two_of : (es : List ResolvedExpr) (a b : ResolvedExpr) → 2 ≤ length es → length es < 3 → a ≡ slice_index_or es 0 a → b ≡ slice_index_or es 1 b → es ≡ a ∷ b ∷ []
two_of [] a b l g p q = absurd (omega (arith, l))
two_of (x ∷ []) a b l g p q = absurd (omega (arith, l))
two_of (x ∷ y ∷ []) a b l g p q = rw (p, q) refl
two_of (x ∷ y ∷ z ∷ es) a b l g p q = absurd (omega (arith, g))

pub two_within : (n : ℕ) (es : List ResolvedExpr) (a b : ResolvedExpr) → es ≡ a ∷ b ∷ [] → are_within n es ≡ true → (is_within n a ≡ true) × (is_within n b ≡ true)
two_within n es a b e h =
    let p = and_parts (is_within n a) (is_within n b && true) (subst (λ es. are_within n es ≡ true) e h) in
    (p.0, (and_parts (is_within n b) true p.1).0)

called : (names : Names) (f : Fun) (a b : Expression) → is_kinded names (call f (two a b)) ≡ true
    → (takes_arguments f (table_kind names a ∷ table_kind names b ∷ []) ≡ true) × (is_kinded names a ≡ true) × (is_kinded names b ≡ true)
called names f a b h =
    let p = and_parts (takes_arguments f (table_kind names a ∷ table_kind names b ∷ [])) (is_kinded names a && (is_kinded names b && true)) h in
    let q = and_parts (is_kinded names a) (is_kinded names b && true) p.1 in
    (p.0, q.0, (and_parts (is_kinded names b) true q.1).0)

pub two_kinded : (names : Names) (f : Fun) (es : List ResolvedExpr) (a b : ResolvedExpr) → es ≡ a ∷ b ∷ [] → is_kinded names (call f (expressions_back names.0 es)) ≡ true
    → (takes_arguments f (table_kind names (expression_back names.0 a) ∷ table_kind names (expression_back names.0 b) ∷ []) ≡ true)
    × (is_kinded names (expression_back names.0 a) ≡ true) × (is_kinded names (expression_back names.0 b) ≡ true)
two_kinded names f es a b e h =
    called names f (expression_back names.0 a) (expression_back names.0 b) (subst (λ es. is_kinded names (call f (expressions_back names.0 es)) ≡ true) e h)

many_taken : (names : Names) (f : Fun) (a b c : Expression) (es : Expressions) → is_kinded names (call f (expression a (expression b (expression c es)))) ≡ true → ⊥
many_taken names Max a b c es h = cc
many_taken names Min a b c es h = cc
many_taken names Abs a b c es h = cc
many_taken names Mod a b c es h = cc

-- no function takes more than two
pub more_taken : (names : Names) (f : Fun) (es : List ResolvedExpr) → is_kinded names (call f (expressions_back names.0 es)) ≡ true → 3 ≤ length es → ⊥
more_taken names f [] h l = absurd (omega (arith, l))
more_taken names f (a ∷ []) h l = absurd (omega (arith, l))
more_taken names f (a ∷ b ∷ []) h l = absurd (omega (arith, l))
more_taken names f (a ∷ b ∷ c ∷ es) h l = many_taken names f (expression_back names.0 a) (expression_back names.0 b) (expression_back names.0 c) (expressions_back names.0 es) h

-- ---- subscripts

each_index : (names : Names) (es : Expressions) → are_well_kinded (names_at (table_site names)) es ≡ true → list_all is_index_kind (kinds_of_expressions (names_at (table_site names)) es) ≡ true
    → are_index_expressions names es ≡ true
each_index names no_expressions h g = refl
each_index names (expression e es) h g =
    let p = and_parts (is_kinded names e) (are_well_kinded (names_at (table_site names)) es) h in
    let q = and_parts (is_index_kind (table_kind names e)) (list_all is_index_kind (kinds_of_expressions (names_at (table_site names)) es)) g in
    and_from (is_index_expression (names_at (table_site names)) e) (are_index_expressions names es)
    (and_from (is_index_kind (table_kind names e)) (is_kinded names e) q.0 p.0) (each_index names es p.1 q.1)

pub place_is : (shapes : List Shape) (p : ResolvedPlace) → place_back shapes p ≡ record { name = slot_name shapes p.slot; subscripts = expressions_back shapes p.subscripts }
place_is shapes p = search (rules, resolved_lemmas)

abbrev designator : List ℕ → Expressions → Designator
designator x ss = record { name = x; subscripts = ss }

pub at_place : (shapes : List Shape) (p : ResolvedPlace) (es : Expressions) → expressions_back shapes p.subscripts ≡ es → record { name = slot_name shapes p.slot; subscripts = es } ≡ place_back shapes p
at_place shapes p es e = ap (λ (ss : Expressions). designator (slot_name shapes p.slot) ss) (sym e) ∙ sym (place_is shapes p)

pub place_within : (n : ℕ) (p : ResolvedPlace) → is_place_within n p ≡ true → p.slot < n
place_within n p h =
    let f : is_place_within n p ≡ (nat_lt p.slot n && are_within n p.subscripts) = search (rules, resolved_lemmas) in
    ltb-true p.slot n (and_parts (nat_lt p.slot n) (are_within n p.subscripts) (sym f ∙ h)).0

-- the subscripts of an occurrence
pub place_kinded : (names : Names) (p : ResolvedPlace) → is_kinded names (target_of (place_back names.0 p)) ≡ true → are_index_expressions names (expressions_back names.0 p.subscripts) ≡ true
place_kinded names p h =
    let es = expressions_back names.0 p.subscripts in
    let f : is_kinded names (get (slot_name names.0 p.slot) es) ≡ true = ap (λ (d : Designator). is_kinded names (target_of d)) (sym (place_is names.0 p)) ∙ h in
    let q = and_parts _ (are_well_kinded (names_at (table_site names)) es && list_all is_index_kind (kinds_of_expressions (names_at (table_site names)) es)) f in
    let r = and_parts (are_well_kinded (names_at (table_site names)) es) (list_all is_index_kind (kinds_of_expressions (names_at (table_site names)) es)) q.1 in
    each_index names es r.0 r.1

pub empty_of : (es : List ResolvedExpr) → length es < 1 → es ≡ []
empty_of [] h = refl
empty_of (e ∷ es) h = absurd (omega (arith, h))

pub one_of : (shapes : List Shape) (es : List ResolvedExpr) (e : ResolvedExpr) → 1 ≤ length es → length es < 2 → e ≡ slice_index_or es 0 e → expressions_back shapes es ≡ one (expression_back shapes e)
one_of shapes [] e a b f = absurd (omega (arith, a))
one_of shapes (x ∷ []) e a b f = rw f refl
one_of shapes (x ∷ y ∷ es) e a b f = absurd (omega (arith, b))

pub fit_pushed : (names : Names) (flags : List Bool) (codes : List IndexCode) (c : IndexCode) → are_indices_fit names flags (index_trees codes) ≡ true → is_index_fit names flags (index_tree c) ≡ true
    → are_indices_fit names flags (index_trees (codes ++ c ∷ [])) ≡ true
fit_pushed names flags [] c h g = and_from (is_index_fit names flags (index_tree c)) true g refl
fit_pushed names flags (d ∷ codes) c h g =
    let p = and_parts (is_index_fit names flags (index_tree d)) (are_indices_fit names flags (index_trees codes)) h in
    and_from (is_index_fit names flags (index_tree d)) _ p.0 (fit_pushed names flags codes c p.1 g)

pub indices_are : (shapes : List Shape) (codes : List IndexCode) → indices_back shapes (index_trees codes) ≡ expressions_of (map (λ c. index_back shapes (index_tree c)) codes)
indices_are shapes [] = refl
indices_are shapes (c ∷ codes) = ap (expression (index_back shapes (index_tree c))) (indices_are shapes codes)

-- ---- conditions

pub and_within : (n : ℕ) (cond a b : ResolvedCond) → cond ≡ conds.And a b → is_condition_within n cond ≡ true → (is_condition_within n a ≡ true) × (is_condition_within n b ≡ true)
and_within n cond a b e h =
    let f : is_condition_within n cond ≡ (is_condition_within n a && is_condition_within n b) = search (rules, cond_lemmas) in
    and_parts (is_condition_within n a) (is_condition_within n b) (sym f ∙ h)

pub or_within : (n : ℕ) (cond a b : ResolvedCond) → cond ≡ conds.Or a b → is_condition_within n cond ≡ true → (is_condition_within n a ≡ true) × (is_condition_within n b ≡ true)
or_within n cond a b e h =
    let f : is_condition_within n cond ≡ (is_condition_within n a && is_condition_within n b) = search (rules, cond_lemmas) in
    and_parts (is_condition_within n a) (is_condition_within n b) (sym f ∙ h)

pub and_kinded : (names : Known) (shapes : List Shape) (cond a b : ResolvedCond) → cond ≡ conds.And a b → is_well_kinded_condition names (condition_back shapes cond) ≡ true
    → (is_well_kinded_condition names (condition_back shapes a) ≡ true) × (is_well_kinded_condition names (condition_back shapes b) ≡ true)
and_kinded names shapes cond a b e h =
    let f : condition_back shapes cond ≡ conjunction (condition_back shapes a) (condition_back shapes b) = search (rules, cond_lemmas) in
    and_parts (is_well_kinded_condition names (condition_back shapes a)) (is_well_kinded_condition names (condition_back shapes b)) (ap (is_well_kinded_condition names) (sym f) ∙ h)

pub or_kinded : (names : Known) (shapes : List Shape) (cond a b : ResolvedCond) → cond ≡ conds.Or a b → is_well_kinded_condition names (condition_back shapes cond) ≡ true
    → (is_well_kinded_condition names (condition_back shapes a) ≡ true) × (is_well_kinded_condition names (condition_back shapes b) ≡ true)
or_kinded names shapes cond a b e h =
    let f : condition_back shapes cond ≡ disjunction (condition_back shapes a) (condition_back shapes b) = search (rules, cond_lemmas) in
    and_parts (is_well_kinded_condition names (condition_back shapes a)) (is_well_kinded_condition names (condition_back shapes b)) (ap (is_well_kinded_condition names) (sym f) ∙ h)
