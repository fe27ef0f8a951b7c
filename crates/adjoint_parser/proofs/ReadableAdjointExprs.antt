-- Expressions of the grammar of adjoints are readable, and no deeper than their limit.
use Rattle.std.proofs.Common.{◌≡◌, ℕ, zero, suc, ◌+◌, ◌-◌, ◌<◌, ◌≤◌, max, true, nat_le, nat_lt, nat_eq, List, [], Option, Some, None, refl, sym, ap, subst, ◌∙◌, inl, inr, arith}
use Rattle.std.proofs.lemmas.Bool.Decides.{nat_tests}
use Rattle.fl_ast.specs.declared.kind.Kind.{Kind}
use Rattle.fl_ast.specs.declared.kind.BinOp.{BinOp}
use Rattle.fl_ast.specs.declared.kind.Fun.{Fun}
use Rattle.fl_ast.specs.declared.kind.Fun.TheVariants as fun
use Rattle.fl_ast.specs.declared.expr.Cond.{Cond}
use Rattle.fl_ast.specs.declared.expr.Place.{Place}
use Rattle.fl_ast.specs.declared.adjoint.AExpr.{AExpr}
use Rattle.fl_ast.specs.declared.adjoint.AExpr.TheVariants.{Lit, Get, Neg, Bin, Pow, Call, Merge, rolls-Lit, rolls-Get, rolls-Neg, rolls-Bin, rolls-Pow, rolls-Call, rolls-Merge}
use Rattle.fl_ast.specs.declared.adjoint.AExpr.TheFolds.{fold-roll-AExpr}
use Rattle.fl_ast.specs.declared.adjoint.AExpr.TheOpen.{AExpr-F}
use Rattle.fl_ast.specs.Tree.{expr_trees, cond_tree}
use Rattle.fl_ast.specs.AdjointTree.{AdjointExpression, adjoint_literal, adjoint_get, adjoint_minus, adjoint_binary, adjoint_power, adjoint_call, merge, aexpr_level, aexpr_tree, aexpr_trees}
use Rattle.fl_ast.specs.Measures.{condition_depth}
use Rattle.fl_ast.specs.Readable.{is_variable, arity}
use Rattle.fl_ast.specs.ReadableAdjoint.{number_of_adjoints, is_readable_adjoint, are_readable_adjoints, adjoint_depth, deepest_adjoint}
use Rattle.parsing.specs.declared.symbol.Symbol.{Symbol}
use Rattle.parsing.specs.declared.symbol.Symbol.TheVariants as s
use Rattle.parsing.specs.declared.cursor.Word.{Word}
use Rattle.parsing.specs.declared.cursor.Number.{Number}
use Rattle.parsing.specs.Symbol.{symbol_of}
use Rattle.parsing.specs.Limit.{Limit, allows, less as fewer}
use Rattle.parsing.specs.Terminal.{by, marked, name, number}
use Rattle.parsing.specs.Grammar.{Grammar, one, grouped, left_grouped}
use Rattle.fl_expressions.specs.declared.tree.Listed.{Listed}
use Rattle.fl_expressions.specs.Terminals.{sum_op_by, product_op_by, pairing_by, single_by, exponent}
use Rattle.fl_expressions.specs.Trees.{kind_of, place_at}
use Rattle.fl_expressions.specs.ExprGrammar as ge
use Rattle.fl_conditions.specs.declared.tree.Judged.{Judged}
use Rattle.fl_conditions.specs.CondGrammar as gc
use Rattle.adjoint_expressions.specs.declared.tree.AMeasured.{AMeasured}
use Rattle.adjoint_expressions.specs.declared.tree.AListed.{AListed}
use Rattle.adjoint_expressions.specs.Trees.{literal, scalar, negation, binary, power, no_exprs, one_more, element, call_of, merged, may_stand_left}
use Rattle.adjoint_expressions.specs.AdjointGrammar as g
use Rattle.fl_expressions.proofs.Holding.{Holds, holds_bind, holds_gives, holds_many, holds_any, holds_name, holds_number, holds_small}
use Rattle.fl_expressions.proofs.ReadableExprs.{Fits, Sound, SoundList, and_true, and_first, and_second, expr_sound, subscripts_sound}
use Rattle.fl_conditions.proofs.ReadableConds.{SoundCond, cond_sound}
use Rattle.adjoint_parser.proofs.AddingAdjoints.{designated, place-of}

-- ---- trees

tree-Lit : (v : ℕ) (k : Kind) → aexpr_tree (Lit v k) ≡ adjoint_literal v k
tree-Lit v k = ap aexpr_tree (sym (rolls-Lit v k)) ∙ fold-roll-AExpr AdjointExpression aexpr_level (AExpr-F.Lit v k)

tree-Get : (p : Place) → aexpr_tree (Get p) ≡ adjoint_get (designated p)
tree-Get p = ap aexpr_tree (sym (rolls-Get p)) ∙ fold-roll-AExpr AdjointExpression aexpr_level (AExpr-F.Get p) ∙ ap adjoint_get (place-of p)

tree-Neg : (e : AExpr) → aexpr_tree (Neg e) ≡ adjoint_minus (aexpr_tree e)
tree-Neg e = ap aexpr_tree (sym (rolls-Neg e)) ∙ fold-roll-AExpr AdjointExpression aexpr_level (AExpr-F.Neg e)

tree-Bin : (o : BinOp) (l r : AExpr) → aexpr_tree (Bin o l r) ≡ adjoint_binary o (aexpr_tree l) (aexpr_tree r)
tree-Bin o l r = ap aexpr_tree (sym (rolls-Bin o l r)) ∙ fold-roll-AExpr AdjointExpression aexpr_level (AExpr-F.Bin o l r)

tree-Pow : (e : AExpr) (n : ℕ) → aexpr_tree (Pow e n) ≡ adjoint_power (aexpr_tree e) n
tree-Pow e n = ap aexpr_tree (sym (rolls-Pow e n)) ∙ fold-roll-AExpr AdjointExpression aexpr_level (AExpr-F.Pow e n)

tree-Call : (f : Fun) (es : List AExpr) → aexpr_tree (Call f es) ≡ adjoint_call f (aexpr_trees es)
tree-Call f es = ap aexpr_tree (sym (rolls-Call f es)) ∙ fold-roll-AExpr AdjointExpression aexpr_level (AExpr-F.Call f es)

tree-Merge : (l r : AExpr) (c : Cond) → aexpr_tree (Merge l r c) ≡ merge (aexpr_tree l) (aexpr_tree r) (cond_tree c)
tree-Merge l r c = ap aexpr_tree (sym (rolls-Merge l r c)) ∙ fold-roll-AExpr AdjointExpression aexpr_level (AExpr-F.Merge l r c)

adjoint_depth_some : (e : AdjointExpression) → 0 < adjoint_depth e
adjoint_depth_some (adjoint_literal n k) = omega arith
adjoint_depth_some (adjoint_get p) = omega arith
adjoint_depth_some (adjoint_minus a) = omega arith
adjoint_depth_some (adjoint_binary o a b) = omega arith
adjoint_depth_some (adjoint_power a n) = omega arith
adjoint_depth_some (adjoint_call f s) = omega arith
adjoint_depth_some (merge a b c) = omega arith

-- ---- expressions

-- Of an expression: the depth is the tree's, and within the limit.
pub record Good (d : Limit) (e : AMeasured) : Type 0 where
  pub is : adjoint_depth (aexpr_tree e.expr) ≡ e.depth
  pub fits : Fits d e.depth
  pub readable : is_readable_adjoint (aexpr_tree e.expr) ≡ true

-- the same, wherever it ends
abbrev pub IsGood : Limit → AMeasured → ℕ → Type 0
IsGood d e k = Good d e

-- the same of its tree
good_by : (d : Limit) (e : AMeasured) (t : AdjointExpression) → aexpr_tree e.expr ≡ t → adjoint_depth t ≡ e.depth → Fits d e.depth → is_readable_adjoint t ≡ true → Good d e
good_by d e t is_t at fits_ reads_ = record {
  is = ap adjoint_depth is_t ∙ at;
  fits = fits_;
  readable = ap is_readable_adjoint is_t ∙ reads_;
}

one_fits : (d : Limit) → Fits d 1
one_fits (Some most) = omega arith
one_fits None = tt

deeper : (d : Limit) (n : ℕ) → allows d 1 ≡ true → Fits (fewer d) n → Fits d (n + 1)
deeper (Some most) n h f = grind (arith, nat_tests)
deeper None n h f = tt

literal_is : (d : Limit) (n : Number) → nat_le n.value 9223372036854775807 ≡ true → Good d (literal n)
literal_is d n small = good_by d (literal n) (adjoint_literal n.value (kind_of n.suffix)) (tree-Lit n.value (kind_of n.suffix)) refl (one_fits d) small

scalar_is : (d : Limit) (x : Word) → is_variable x.name ≡ true → Good d (scalar x)
scalar_is d x named = good_by d (scalar x) (adjoint_get (record { name = x.name; subscripts = expr_trees [] })) (tree-Get (place_at x.name [])) refl (one_fits d) (and_true _ _ named refl)

some_depth : (d : Limit) (e : AMeasured) → Good d e → 0 < e.depth
some_depth d e S = subst (λ (n : ℕ). 0 < n) S.is (adjoint_depth_some (aexpr_tree e.expr))

negation_is : (d : Limit) (e : AMeasured) → allows d 1 ≡ true → Good (fewer d) e → Good d (negation e)
negation_is d e h S = good_by d (negation e) (adjoint_minus (aexpr_tree e.expr)) (tree-Neg e.expr) (ap (λ n. n + 1) S.is) (deeper d e.depth h S.fits) S.readable

binary_is : (d : Limit) (o : BinOp) (l r : AMeasured) → Good d l → may_stand_left d l ≡ true → Good (fewer d) r → Good d (binary o l r)
binary_is d o l r L h R =
    good_by d (binary o l r) (adjoint_binary o (aexpr_tree l.expr) (aexpr_tree r.expr)) (tree-Bin o l.expr r.expr)
    (ap (λ n. max n (adjoint_depth (aexpr_tree r.expr)) + 1) L.is ∙ ap (λ n. max l.depth n + 1) R.is)
    (fitting d h R.fits (some_depth d l L)) (and_true _ _ L.readable R.readable)
  where
    fitting : (d : Limit) → may_stand_left d l ≡ true → Fits (fewer d) r.depth → 0 < l.depth → Fits d (max l.depth r.depth + 1)
    fitting (Some most) h f some_ = grind (arith, nat_tests)
    fitting None h f some_ = tt

power_is : (d : Limit) (e : AMeasured) (n : Number) → Good d e → may_stand_left d e ≡ true → nat_le n.value 2147483647 ≡ true → Good d (power e n)
power_is d e n S h small =
    good_by d (power e n) (adjoint_power (aexpr_tree e.expr) n.value) (tree-Pow e.expr n.value) (ap (λ i. i + 1) S.is) (fitting d h) (and_true _ _ small S.readable)
  where
    fitting : (d : Limit) → may_stand_left d e ≡ true → Fits d (e.depth + 1)
    fitting (Some most) h = grind (arith, nat_tests)
    fitting None h = tt

-- a condition within the limit less two has one level more than it has beneath its root
merged_is : (d : Limit) (a b : AMeasured) (c : Judged) (m k : ℕ) → allows d 2 ≡ true → Good (fewer d) a → Good (fewer d) b → SoundCond (fewer (fewer d)) m c k → Good d (merged a b c)
merged_is d a b c m k h A B C =
    good_by d (merged a b c) (merge (aexpr_tree a.expr) (aexpr_tree b.expr) (cond_tree c.cond)) (tree-Merge a.expr b.expr c.cond)
    (ap (λ n. max (max n (adjoint_depth (aexpr_tree b.expr))) (condition_depth (cond_tree c.cond)) + 1) A.is
    ∙ ap (λ n. max (max a.depth n) (condition_depth (cond_tree c.cond)) + 1) B.is ∙ ap (λ n. max (max a.depth b.depth) n + 1) C.is)
    (fitting d h A.fits B.fits C.fits) (and_true _ _ A.readable (and_true _ _ B.readable C.readable))
  where
    fitting : (d : Limit) → allows d 2 ≡ true → Fits (fewer d) a.depth → Fits (fewer d) b.depth → Fits (fewer (fewer d)) c.levels → Fits d (max (max a.depth b.depth) (c.levels + 1) + 1)
    fitting (Some most) h f i j = grind (arith, nat_tests)
    fitting None h f i j = tt

element_is : (d : Limit) (x : Word) (l : Listed) (m k : ℕ) → allows d 1 ≡ true → is_variable x.name ≡ true → SoundList (fewer d) m l k → Good d (element x l)
element_is d x l m k h named L =
    good_by d (element x l) (adjoint_get (record { name = x.name; subscripts = expr_trees l.exprs })) (tree-Get (place_at x.name l.exprs)) (ap (λ n. n + 1) L.is) (deeper d l.depth h L.fits) (and_true _ _ named L.readable)

-- ---- calls

call_is : (d : Limit) (f : Fun) (l : AListed) → allows d 1 ≡ true → nat_eq (number_of_adjoints (aexpr_trees l.exprs)) (arity f) ≡ true → deepest_adjoint (aexpr_trees l.exprs) ≡ l.depth → Fits (fewer d) l.depth →
    are_readable_adjoints (aexpr_trees l.exprs) ≡ true → Good d (call_of f l)
call_is d f l h as_many is_ fits_ reads_ =
    good_by d (call_of f l) (adjoint_call f (aexpr_trees l.exprs)) (tree-Call f l.exprs) (ap (λ n. n + 1) is_) (deeper d l.depth h fits_) (and_true _ _ as_many reads_)

call_of_two_is : (d : Limit) (f : Fun) (a b : AMeasured) → allows d 1 ≡ true → arity f ≡ 2 → Good (fewer d) a → Good (fewer d) b → Good d (call_of f (one_more (one_more no_exprs a) b))
call_of_two_is d f a b h two A B =
    call_is d f (one_more (one_more no_exprs a) b) h (ap (λ n. nat_eq 2 n) two)
    (ap (λ n. max n (max (adjoint_depth (aexpr_tree b.expr)) 0)) A.is ∙ ap (λ n. max a.depth (max n 0)) B.is ∙ omega arith)
    (fitting (fewer d) A.fits B.fits) (and_true _ _ A.readable (and_true _ _ B.readable refl))
  where
    fitting : (d : Limit) → Fits d a.depth → Fits d b.depth → Fits d (max (max 0 a.depth) b.depth)
    fitting (Some most) f i = omega (arith, f, i)
    fitting None f i = tt

call_of_one_is : (d : Limit) (f : Fun) (a : AMeasured) → allows d 1 ≡ true → arity f ≡ 1 → Good (fewer d) a → Good d (call_of f (one_more no_exprs a))
call_of_one_is d f a h single A =
    call_is d f (one_more no_exprs a) h (ap (λ n. nat_eq 1 n) single)
    (ap (λ n. max n 0) A.is ∙ omega arith) (fitting (fewer d) A.fits) (and_true _ _ A.readable refl)
  where
    fitting : (d : Limit) → Fits d a.depth → Fits d (max 0 a.depth)
    fitting (Some most) f = omega (arith, f)
    fitting None f = tt

same_fun : (f g : Fun) → Some f ≡ Some g → f ≡ g
same_fun f g e = cc

two_args : (a : Symbol) (f : Fun) → pairing_by a ≡ Some f → arity f ≡ 2
two_args s.Max f e = ap arity (sym (same_fun fun.Max f e))
two_args s.Min f e = ap arity (sym (same_fun fun.Min f e))
two_args s.Mod f e = ap arity (sym (same_fun fun.Mod f e))
two_args _ f e = cc

one_arg : (a : Symbol) (f : Fun) → single_by a ≡ Some f → arity f ≡ 1
one_arg s.Abs f e = ap arity (sym (same_fun fun.Abs f e))
one_arg _ f e = cc

holds_by : {A : Type 0} (read : Symbol → Option A) (P : A → Type 0) → ((a : Symbol) (x : A) → read a ≡ Some x → P x) → (m : ℕ) → Holds m (one (by read)) (λ x k. P x)
holds_by read P h m x us sp n = h (symbol_of n.0) x n.1

-- ---- the grammar

-- operations of one level
grouped_good : (op : Symbol → Option BinOp) → (operand : Limit → Grammar AMeasured) → ((d : Limit) (m : ℕ) → Holds m (operand d) (IsGood d)) →
    (d : Limit) (l : AMeasured) (a : ℕ) → Good d l → Holds a (left_grouped (by op) binary may_stand_left operand d l) (IsGood d)
grouped_good op operand good d l a S = holds_many (may_stand_left d) (grouped (by op) binary operand d) (IsGood d) more l a S
  where
    more : (l : AMeasured) (a : ℕ) → Good d l → may_stand_left d l ≡ true → Holds a (grouped (by op) binary operand d l) (IsGood d)
    more l a L h = holds_bind a (one (by op)) _ (λ o b. a ≤ b) (IsGood d) (holds_any a _)
        (λ o b after. holds_bind b (operand (fewer d)) _ (IsGood (fewer d)) (IsGood d) (good (fewer d) b)
        (λ r k R. holds_gives k (binary o l r) (IsGood d) (binary_is d o l r L h R)))

pub below_sound : (b : ℕ) (d : Limit) (m : ℕ) → Holds m (ge.below b d) (Sound d m)
unfolding ge.below
below_sound zero d m = λ x us sp n. absurd n
below_sound (suc b) d m = expr_sound b d m

module _ (b : ℕ) (ig : Limit → Grammar AMeasured) (inner : (d : Limit) (m : ℕ) → Holds m (ig d) (IsGood d)) where
  bracketed_good : (d : Limit) (m : ℕ) → Holds m (g.bracketed b ig d) (IsGood d)
  unfolding g.bracketed
  bracketed_good d m = holds_bind m (one (marked s.Open)) _ (λ _ a. m ≤ a) (IsGood d) (holds_any m _)
      (λ _ a before. holds_bind a (ig d) _ (IsGood d) (IsGood d) (inner d a)
      (λ e i S. holds_bind i (one (marked s.Close)) _ (λ _ k. i ≤ k) (IsGood d) (holds_any i _)
      (λ _ k after. holds_gives k e (IsGood d) S)))

  place_good : (d : Limit) (m : ℕ) → Holds m (g.place b ig d) (IsGood d)
  unfolding g.place g.after_name g.indexed
  place_good d m = holds_bind m (one name) _ (λ x k. is_variable x.name ≡ true) (IsGood d) (holds_name m) after
    where
      after : (x : Word) (k : ℕ) → is_variable x.name ≡ true → Holds k (g.after_name b ig d x) (IsGood d)
      after x k h e us sp (inl (r, n)) = holds_bind k (ge.subscripts (nat_lt 0 b) (ge.below b) (fewer d)) _ (SoundList (fewer d) k) (IsGood d)
          (subscripts_sound (nat_lt 0 b) (ge.below b) (λ _. below_sound b) (and_first (nat_lt 0 b) (allows d 1) r) (fewer d) k)
          (λ l c L. holds_gives c (element x l) (IsGood d) (element_is d x l k c (and_second (nat_lt 0 b) (allows d 1) r) h L)) e us sp n
      after x k h e us sp (inr n) = holds_gives k (scalar x) (IsGood d) (scalar_is d x h) e us sp n

  first_argument_good : (d : Limit) (m : ℕ) → Holds m (g.first_argument b ig d) (IsGood d)
  unfolding g.first_argument
  first_argument_good d m = holds_bind m (one (marked s.Open)) _ (λ _ a. m ≤ a) (IsGood d) (holds_any m _)
      (λ _ a before. holds_bind a (ig d) _ (IsGood d) (IsGood d) (inner d a)
      (λ e i S. holds_bind i (one (marked s.Comma)) _ (λ _ k. i ≤ k) (IsGood d) (holds_any i _)
      (λ _ k after. holds_gives k e (IsGood d) S)))

  second_argument_good : (d : Limit) (m : ℕ) → Holds m (g.second_argument b ig d) (IsGood d)
  unfolding g.second_argument
  second_argument_good d m = holds_bind m (ig d) _ (IsGood d) (IsGood d) (inner d m)
      (λ e i S. holds_bind i (one (marked s.Close)) _ (λ _ k. i ≤ k) (IsGood d) (holds_any i _)
      (λ _ k after. holds_gives k e (IsGood d) S))

  middle_argument_good : (d : Limit) (m : ℕ) → Holds m (g.middle_argument b ig d) (IsGood d)
  unfolding g.middle_argument
  middle_argument_good d m = holds_bind m (ig d) _ (IsGood d) (IsGood d) (inner d m)
      (λ e i S. holds_bind i (one (marked s.Comma)) _ (λ _ k. i ≤ k) (IsGood d) (holds_any i _)
      (λ _ k after. holds_gives k e (IsGood d) S))

  call_of_two_good : (d : Limit) (m : ℕ) → allows d 1 ≡ true → Holds m (g.call_of_two b ig d) (IsGood d)
  unfolding g.call_of_two
  call_of_two_good d m h = holds_bind m (one (by pairing_by)) _ (λ f k. arity f ≡ 2) (IsGood d) (holds_by pairing_by (λ f. arity f ≡ 2) two_args m)
      (λ f a F. holds_bind a (g.first_argument b ig (fewer d)) _ (IsGood (fewer d)) (IsGood d) (first_argument_good (fewer d) a)
      (λ x i X. holds_bind i (g.second_argument b ig (fewer d)) _ (IsGood (fewer d)) (IsGood d) (second_argument_good (fewer d) i)
      (λ y k Y. holds_gives k (call_of f (one_more (one_more no_exprs x) y)) (IsGood d) (call_of_two_is d f x y h F X Y))))

  call_of_one_good : (d : Limit) (m : ℕ) → allows d 1 ≡ true → Holds m (g.call_of_one b ig d) (IsGood d)
  unfolding g.call_of_one
  call_of_one_good d m h = holds_bind m (one (by single_by)) _ (λ f k. arity f ≡ 1) (IsGood d) (holds_by single_by (λ f. arity f ≡ 1) one_arg m)
      (λ f a F. holds_bind a (g.bracketed b ig (fewer d)) _ (IsGood (fewer d)) (IsGood d) (bracketed_good (fewer d) a)
      (λ x k X. holds_gives k (call_of f (one_more no_exprs x)) (IsGood d) (call_of_one_is d f x h F X)))

  merge_head_good : (d : Limit) (m : ℕ) → Holds m (g.merge_head b ig d) (IsGood d)
  unfolding g.merge_head
  merge_head_good d m = holds_bind m (one (marked s.Merge)) _ (λ _ a. m ≤ a) (IsGood d) (holds_any m _) (λ _ a _. first_argument_good d a)

  -- the condition, wherever it begins and ends
  abbrev IsJudged : Limit → Judged → ℕ → Type 0
  IsJudged d c k = (i j : ℕ) × SoundCond d i c j

  last_condition_good : (d : Limit) (m : ℕ) → Holds m (g.last_condition b ig d) (IsJudged d)
  unfolding g.last_condition
  last_condition_good d m = holds_bind m (gc.cond (b - 1) d) _ (SoundCond d m) (IsJudged d) (cond_sound (b - 1) d m)
      (λ c i C. holds_bind i (one (marked s.Close)) _ (λ _ k. i ≤ k) (IsJudged d) (holds_any i _)
      (λ _ k after. holds_gives k c (IsJudged d) (m, i, C)))

  merge_good : (d : Limit) (m : ℕ) → allows d 2 ≡ true → Holds m (g.merge_of b ig d) (IsGood d)
  unfolding g.merge_of
  merge_good d m h = holds_bind m (g.merge_head b ig (fewer d)) _ (IsGood (fewer d)) (IsGood d) (merge_head_good (fewer d) m)
      (λ x a X. holds_bind a (g.middle_argument b ig (fewer d)) _ (IsGood (fewer d)) (IsGood d) (middle_argument_good (fewer d) a)
      (λ y i Y. holds_bind i (g.last_condition b ig (fewer (fewer d))) _ (IsJudged (fewer (fewer d))) (IsGood d) (last_condition_good (fewer (fewer d)) i)
      (λ c k C. holds_gives k (merged x y c) (IsGood d) (merged_is d x y c C.0 C.1 h X Y C.2))))

  literal_good : (d : Limit) (m : ℕ) → Holds m (g.literal b ig) (IsGood d)
  unfolding g.literal
  literal_good d m = holds_bind m (one number) _ (λ x k. nat_le x.value 9223372036854775807 ≡ true) (IsGood d) (holds_number m)
      (λ x k h. holds_gives k (literal x) (IsGood d) (literal_is d x h))

  primary_good : (d : Limit) (m : ℕ) → Holds m (g.primary b ig d) (IsGood d)
  unfolding g.primary
  primary_good d m e us sp (inl (h, n)) = bracketed_good d m e us sp n
  primary_good d m e us sp (inr (inl (h, n))) = call_of_two_good d m (and_second (nat_lt 0 b) (allows d 1) h) e us sp n
  primary_good d m e us sp (inr (inr (inl (h, n)))) = call_of_one_good d m (and_second (nat_lt 0 b) (allows d 1) h) e us sp n
  primary_good d m e us sp (inr (inr (inr (inl (h, n))))) = merge_good d m (and_second (nat_lt 0 b) (allows d 2) h) e us sp n
  primary_good d m e us sp (inr (inr (inr (inr (inl n))))) = place_good d m e us sp n
  primary_good d m e us sp (inr (inr (inr (inr (inr n))))) = literal_good d m e us sp n

  raised_good : (d : Limit) (e : AMeasured) (a : ℕ) → Good d e → Holds a (g.raised d e) (IsGood d)
  unfolding g.raised g.power_of
  raised_good d e a S x us sp (inr n) = holds_gives a e (IsGood d) S x us sp n
  raised_good d e a S x us sp (inl (h, n)) = holds_bind a (one (marked s.Power)) _ (λ _ i. a ≤ i) (IsGood d) (holds_any a _)
      (λ _ i before. holds_bind i (one exponent) _ (λ v k. nat_le v.value 2147483647 ≡ true) (IsGood d) (holds_small i 2147483647)
      (λ v k small. holds_gives k (power e v) (IsGood d) (power_is d e v S h small))) x us sp n

  factor_good : (d : Limit) (m : ℕ) → Holds m (g.factor b ig d) (IsGood d)
  unfolding g.factor
  factor_good d m = holds_bind m (g.primary b ig d) _ (IsGood d) (IsGood d) (primary_good d m) (raised_good d)

  term_good : (d : Limit) (m : ℕ) → Holds m (g.term b ig d) (IsGood d)
  unfolding g.term g.factors_from
  term_good d m = holds_bind m (g.factor b ig d) _ (IsGood d) (IsGood d) (factor_good d m) (grouped_good product_op_by (g.factor b ig) factor_good d)

  terms_good : (d : Limit) (e : AMeasured) (a : ℕ) → Good d e → Holds a (g.terms_from b ig d e) (IsGood d)
  unfolding g.terms_from
  terms_good = grouped_good sum_op_by (g.term b ig) term_good

  unsigned_good : (d : Limit) (m : ℕ) → Holds m (g.unsigned b ig d) (IsGood d)
  unfolding g.unsigned
  unsigned_good d m = holds_bind m (g.term b ig d) _ (IsGood d) (IsGood d) (term_good d m) (terms_good d)

  sum_good : (d : Limit) (m : ℕ) → Holds m (g.sum b ig d) (IsGood d)
  unfolding g.sum g.negated g.plain
  sum_good d m e us sp (inl (h, n)) = holds_bind m (one (marked s.Minus)) _ (λ _ a. m ≤ a) (IsGood d) (holds_any m _)
      (λ _ a before. holds_bind a (g.term b ig (fewer d)) _ (IsGood (fewer d)) (IsGood d) (term_good (fewer d) a)
      (λ x k S. terms_good d (negation x) k (negation_is d x h S))) e us sp n
  sum_good d m e us sp (inr (inl n)) = holds_bind m (one (marked s.Plus)) _ (λ _ a. m ≤ a) (IsGood d) (holds_any m _) (λ _ a _. unsigned_good d a) e us sp n
  sum_good d m e us sp (inr (inr n)) = unsigned_good d m e us sp n

-- Expressions that are read are readable.
pub adjoint_expr_good : (b : ℕ) (d : Limit) (m : ℕ) → Holds m (g.adjoint_expr b d) (IsGood d)
unfolding g.adjoint_expr
adjoint_expr_good zero = sum_good zero _ (λ d m x us sp n. absurd n)
adjoint_expr_good (suc b) = sum_good (suc b) _ (adjoint_expr_good b)
