-- Expressions of the grammar are readable, and have a byte for each node.
use Rattle.std.proofs.Common.{◌≡◌, ℕ, zero, suc, ◌+◌, ◌<◌, ◌≤◌, max, Bool, true, false, ◌&&◌, nat_le, nat_eq, List, [], ◌∷◌, ◌++◌, Option, Some, None, refl, sym, ap, subst, ◌∙◌, inl, inr, arith}
use Rattle.std.proofs.lemmas.Bool.Decides.{nat_tests}
use Rattle.fl_ast.specs.declared.kind.Kind.{Kind}
use Rattle.fl_ast.specs.declared.kind.BinOp.{BinOp}
use Rattle.fl_ast.specs.declared.kind.Fun.{Fun}
use Rattle.fl_ast.specs.declared.kind.Fun.TheVariants as fun
use Rattle.fl_ast.specs.declared.expr.Expr.{Expr}
use Rattle.fl_ast.specs.declared.expr.Expr.TheVariants.{Lit, Get, Neg, Bin, Pow, Call, rolls-Lit, rolls-Get, rolls-Neg, rolls-Bin, rolls-Pow, rolls-Call}
use Rattle.fl_ast.specs.declared.expr.Expr.TheFolds.{fold-roll-Expr, fold_out-Place}
use Rattle.fl_ast.specs.declared.expr.Expr.TheOpen.{Expr-F}
use Rattle.fl_ast.specs.Tree.{Expression, Designator, literal as literal_tree, get, minus, binary as binary_tree, power as power_tree, call, no_expressions, expr_level, place_level, expr_tree, expr_trees, place_tree}
use Rattle.fl_ast.specs.Measures.{depth, deepest, nodes_of_each, nodes}
use Rattle.fl_ast.specs.Readable.{is_variable, is_readable, are_readable, number_of, arity}
use Rattle.parsing.specs.declared.symbol.Symbol.{Symbol}
use Rattle.parsing.specs.declared.symbol.Symbol.TheVariants as s
use Rattle.parsing.specs.declared.cursor.Word.{Word}
use Rattle.parsing.specs.declared.cursor.Number.{Number}
use Rattle.parsing.specs.Symbol.{symbol_of}
use Rattle.parsing.specs.Limit.{Limit, allows, less as fewer}
use Rattle.parsing.specs.Terminal.{by, reads, same, marked, names, name, numbers, number}
use Rattle.parsing.specs.Grammar.{Grammar, one, grouped, left_grouped}
use Rattle.fl_expressions.specs.declared.tree.Measured.{Measured}
use Rattle.fl_expressions.specs.declared.tree.Listed.{Listed}
use Rattle.fl_expressions.specs.Terminals.{sum_op_by, product_op_by, pairing_by, single_by, exponent}
use Rattle.fl_expressions.specs.Trees.{kind_of, literal, scalar, place_at, negation, binary, power, no_exprs, one_more, element, call_of, may_stand_left}
use Rattle.fl_expressions.specs.ExprGrammar as g
use Rattle.parsing.proofs.Outcomes.{differ}
use Rattle.parsing.proofs.OnSymbols.{begins_mark, begins_name, begins_number, begins_small_number, begins_by}
use Rattle.fl_expressions.proofs.Holding.{Holds, holds_bind, holds_gives, holds_many, holds_any, holds_some, holds_name, holds_number, holds_small, holds_both, width}

-- ---- trees

tree-Lit : (v : ℕ) (k : Kind) → expr_tree (Lit v k) ≡ literal_tree v k
tree-Lit v k = ap expr_tree (sym (rolls-Lit v k)) ∙ fold-roll-Expr Expression Designator expr_level place_level (Expr-F.Lit v k)

tree-Neg : (e : Expr) → expr_tree (Neg e) ≡ minus (expr_tree e)
tree-Neg e = ap expr_tree (sym (rolls-Neg e)) ∙ fold-roll-Expr Expression Designator expr_level place_level (Expr-F.Neg e)

tree-Bin : (o : BinOp) (l r : Expr) → expr_tree (Bin o l r) ≡ binary_tree o (expr_tree l) (expr_tree r)
tree-Bin o l r = ap expr_tree (sym (rolls-Bin o l r)) ∙ fold-roll-Expr Expression Designator expr_level place_level (Expr-F.Bin o l r)

place-of : (x : List ℕ) (es : List Expr) → place_tree (place_at x es) ≡ record { name = x; subscripts = expr_trees es }
place-of x es = fold_out-Place Expression Designator expr_level place_level (place_at x es)

tree-Get : (x : List ℕ) (es : List Expr) → expr_tree (Get (place_at x es)) ≡ get x (expr_trees es)
tree-Get x es = ap expr_tree (sym (rolls-Get (place_at x es))) ∙ fold-roll-Expr Expression Designator expr_level place_level (Expr-F.Get (place_at x es)) ∙ ap (λ p. get p.name p.subscripts) (place-of x es)

tree-Pow : (e : Expr) (n : ℕ) → expr_tree (Pow e n) ≡ power_tree (expr_tree e) n
tree-Pow e n = ap expr_tree (sym (rolls-Pow e n)) ∙ fold-roll-Expr Expression Designator expr_level place_level (Expr-F.Pow e n)

tree-Call : (f : Fun) (es : List Expr) → expr_tree (Call f es) ≡ call f (expr_trees es)
tree-Call f es = ap expr_tree (sym (rolls-Call f es)) ∙ fold-roll-Expr Expression Designator expr_level place_level (Expr-F.Call f es)

pub depth_some : (e : Expression) → 0 < depth e
depth_some (literal_tree n k) = omega arith
depth_some (get x s) = omega arith
depth_some (minus a) = omega arith
depth_some (binary_tree o a b) = omega arith
depth_some (power_tree a n) = omega arith
depth_some (call f s) = omega arith

pub and_true : (a b : Bool) → a ≡ true → b ≡ true → (a && b) ≡ true
and_true a b h k = rw (h, k) refl

pub and_first : (a b : Bool) → (a && b) ≡ true → a ≡ true
and_first true b e = refl
and_first false b e = e

pub and_second : (a b : Bool) → (a && b) ≡ true → b ≡ true
and_second true b e = e
and_second false b e = cc

-- ---- expressions

-- a tree of so many levels has at most these beneath its root
abbrev pub Fits : Limit → ℕ → Type 0
Fits (Some most) n = n ≤ most + 1
Fits None n = Unit {0}

-- Of an expression that begins behind m bytes and ends behind k: the depth is the tree's, and within the limit, and no node is without a byte.
pub record Sound (d : Limit) (m : ℕ) (e : Measured) (k : ℕ) : Type 0 where
  pub is : depth (expr_tree e.expr) ≡ e.depth
  pub fits : Fits d e.depth
  pub readable : is_readable (expr_tree e.expr) ≡ true
  pub few : nodes (expr_tree e.expr) + m ≤ k

-- the same of its tree
sound_by : (d : Limit) (m : ℕ) (e : Measured) (k : ℕ) (t : Expression) → expr_tree e.expr ≡ t → depth t ≡ e.depth → Fits d e.depth → is_readable t ≡ true → nodes t + m ≤ k → Sound d m e k
sound_by d m e k t is_t at fits_ reads_ few_ = record {
  is = ap depth is_t ∙ at;
  fits = fits_;
  readable = ap is_readable is_t ∙ reads_;
  few = subst (λ (u : Expression). nodes u + m ≤ k) (sym is_t) few_;
}

one_fits : (d : Limit) → Fits d 1
one_fits (Some most) = omega arith
one_fits None = tt

literal_is : (d : Limit) (m : ℕ) (n : Number) (k : ℕ) → nat_le n.value 9223372036854775807 ≡ true → m < k → Sound d m (literal n) k
literal_is d m n k small more = sound_by d m (literal n) k (literal_tree n.value (kind_of n.suffix)) (tree-Lit n.value (kind_of n.suffix)) refl (one_fits d) small (omega (arith, more))

scalar_is : (d : Limit) (m : ℕ) (x : Word) (k : ℕ) → is_variable x.name ≡ true → m < k → Sound d m (scalar x) k
scalar_is d m x k named more = sound_by d m (scalar x) k (get x.name no_expressions) (tree-Get x.name []) refl (one_fits d) (and_true _ _ named refl) (omega (arith, more))

some_depth : (d : Limit) (m : ℕ) (e : Measured) (k : ℕ) → Sound d m e k → 0 < e.depth
some_depth d m e k S = subst (λ (n : ℕ). 0 < n) S.is (depth_some (expr_tree e.expr))

negation_is : (d : Limit) (m a : ℕ) (e : Measured) (k : ℕ) → allows d 1 ≡ true → m < a → Sound (fewer d) a e k → Sound d m (negation e) k
negation_is d m a e k h more S =
    let few_ = S.few in
    sound_by d m (negation e) k (minus (expr_tree e.expr)) (tree-Neg e.expr) (ap (λ n. n + 1) S.is) (fitting d h S.fits) S.readable (omega (arith, more, few_))
  where
    fitting : (d : Limit) → allows d 1 ≡ true → Fits (fewer d) e.depth → Fits d (e.depth + 1)
    fitting (Some most) h f = grind (arith, nat_tests)
    fitting None h f = tt

binary_is : (d : Limit) (m a b : ℕ) (o : BinOp) (l r : Measured) (k : ℕ) → Sound d m l a → may_stand_left d l ≡ true → a < b → Sound (fewer d) b r k → Sound d m (binary o l r) k
binary_is d m a b o l r k L h more R =
    let few_l = L.few in
    let few_r = R.few in
    sound_by d m (binary o l r) k (binary_tree o (expr_tree l.expr) (expr_tree r.expr)) (tree-Bin o l.expr r.expr)
    (ap (λ n. max n (depth (expr_tree r.expr)) + 1) L.is ∙ ap (λ n. max l.depth n + 1) R.is)
    (fitting d h R.fits (some_depth d m l a L)) (and_true _ _ L.readable R.readable) (omega (arith, few_l, few_r, more))
  where
    fitting : (d : Limit) → may_stand_left d l ≡ true → Fits (fewer d) r.depth → 0 < l.depth → Fits d (max l.depth r.depth + 1)
    fitting (Some most) h f some_ = grind (arith, nat_tests)
    fitting None h f some_ = tt

power_is : (d : Limit) (m : ℕ) (e : Measured) (n : Number) (a k : ℕ) → Sound d m e a → may_stand_left d e ≡ true → nat_le n.value 2147483647 ≡ true → a < k → Sound d m (power e n) k
power_is d m e n a k S h small more =
    let few_ = S.few in
    sound_by d m (power e n) k (power_tree (expr_tree e.expr) n.value) (tree-Pow e.expr n.value) (ap (λ i. i + 1) S.is) (fitting d h) (and_true _ _ small S.readable) (omega (arith, few_, more))
  where
    fitting : (d : Limit) → may_stand_left d e ≡ true → Fits d (e.depth + 1)
    fitting (Some most) h = grind (arith, nat_tests)
    fitting None h = tt

-- ---- lists

deepest-more : (es : List Expr) (e : Expr) → deepest (expr_trees (es ++ e ∷ [])) ≡ max (deepest (expr_trees es)) (depth (expr_tree e))
deepest-more [] e = omega arith
deepest-more (f ∷ es) e = ap (λ n. max (depth (expr_tree f)) n) (deepest-more es e) ∙ omega arith

nodes-more : (es : List Expr) (e : Expr) → nodes_of_each (expr_trees (es ++ e ∷ [])) ≡ nodes_of_each (expr_trees es) + nodes (expr_tree e)
nodes-more [] e = omega arith
nodes-more (f ∷ es) e = ap (λ n. nodes (expr_tree f) + n) (nodes-more es e) ∙ omega arith

readable-more : (es : List Expr) (e : Expr) → are_readable (expr_trees es) ≡ true → is_readable (expr_tree e) ≡ true → are_readable (expr_trees (es ++ e ∷ [])) ≡ true
readable-more [] e h k = and_true _ _ k refl
readable-more (f ∷ es) e h k = and_true _ _ (and_first _ _ h) (readable-more es e (and_second _ _ h) k)

-- the same of a list as of one expression
pub record SoundList (d : Limit) (m : ℕ) (l : Listed) (k : ℕ) : Type 0 where
  pub is : deepest (expr_trees l.exprs) ≡ l.depth
  pub fits : Fits d l.depth
  pub readable : are_readable (expr_trees l.exprs) ≡ true
  pub few : nodes_of_each (expr_trees l.exprs) + m ≤ k

none_is : (d : Limit) (m : ℕ) → SoundList d m no_exprs m
none_is d m = record { is = refl; fits = fitting d; readable = refl; few = omega arith }
  where
    fitting : (d : Limit) → Fits d 0
    fitting (Some most) = omega arith
    fitting None = tt

one_more_is : (d : Limit) (m a b : ℕ) (l : Listed) (e : Measured) (k : ℕ) → SoundList d m l a → a ≤ b → Sound d b e k → SoundList d m (one_more l e) k
one_more_is d m a b l e k L h S =
    let few_l = L.few in
    let few_e = S.few in
    record {
      is = deepest-more l.exprs e.expr ∙ ap (λ n. max n (depth (expr_tree e.expr))) L.is ∙ ap (λ n. max l.depth n) S.is;
      fits = fitting d L.fits S.fits;
      readable = readable-more l.exprs e.expr L.readable S.readable;
      few = subst (λ (n : ℕ). n + m ≤ k) (sym (nodes-more l.exprs e.expr)) (omega (arith, few_l, few_e, h));
    }
  where
    fitting : (d : Limit) → Fits d l.depth → Fits d e.depth → Fits d (max l.depth e.depth)
    fitting (Some most) f g = omega (arith, f, g)
    fitting None f g = tt

deeper : (d : Limit) (n : ℕ) → allows d 1 ≡ true → Fits (fewer d) n → Fits d (n + 1)
deeper (Some most) n h f = grind (arith, nat_tests)
deeper None n h f = tt

element_is : (d : Limit) (m a : ℕ) (x : Word) (l : Listed) (k : ℕ) → allows d 1 ≡ true → is_variable x.name ≡ true → m < a → SoundList (fewer d) a l k → Sound d m (element x l) k
element_is d m a x l k h named more L =
    let few_ = L.few in
    sound_by d m (element x l) k (get x.name (expr_trees l.exprs)) (tree-Get x.name l.exprs) (ap (λ n. n + 1) L.is) (deeper d l.depth h L.fits) (and_true _ _ named L.readable) (omega (arith, more, few_))

call_is : (d : Limit) (m a : ℕ) (f : Fun) (l : Listed) (k : ℕ) → allows d 1 ≡ true → nat_eq (number_of (expr_trees l.exprs)) (arity f) ≡ true → m < a → SoundList (fewer d) a l k → Sound d m (call_of f l) k
call_is d m a f l k h as_many more L =
    let few_ = L.few in
    sound_by d m (call_of f l) k (call f (expr_trees l.exprs)) (tree-Call f l.exprs) (ap (λ n. n + 1) L.is) (deeper d l.depth h L.fits) (and_true _ _ as_many L.readable) (omega (arith, more, few_))

two_args : (a : Symbol) (f : Fun) → pairing_by a ≡ Some f → arity f ≡ 2
two_args s.Max f e = ap arity (sym (same_fun fun.Max f e))
  where
    same_fun : (f g : Fun) → Some f ≡ Some g → f ≡ g
    same_fun f g e = cc
two_args s.Min f e = ap arity (sym (same_fun fun.Min f e))
  where
    same_fun : (f g : Fun) → Some f ≡ Some g → f ≡ g
    same_fun f g e = cc
two_args s.Mod f e = ap arity (sym (same_fun fun.Mod f e))
  where
    same_fun : (f g : Fun) → Some f ≡ Some g → f ≡ g
    same_fun f g e = cc
two_args _ f e = cc

one_arg : (a : Symbol) (f : Fun) → single_by a ≡ Some f → arity f ≡ 1
one_arg s.Abs f e = ap arity (sym (same_fun fun.Abs f e))
  where
    same_fun : (f g : Fun) → Some f ≡ Some g → f ≡ g
    same_fun f g e = cc
one_arg _ f e = cc

holds_by : {A : Type 0} (read : Symbol → Option A) (P : A → Type 0) → reads read s.LineEnd ≡ false → ((a : Symbol) (x : A) → read a ≡ Some x → P x) → (m : ℕ) → Holds m (one (by read)) (λ x k. P x × (m < k))
holds_by read P unlike h m = holds_both m (one (by read)) (λ x k. P x) (λ x k. m < k) (λ x us sp n. h (symbol_of n.0) x n.1) (holds_some m (by read) (reads read) unlike (begins_by read))

-- operations of one level
grouped_sound : (op : Symbol → Option BinOp) → reads op s.LineEnd ≡ false → (operand : Limit → Grammar Measured) → ((d : Limit) (m : ℕ) → Holds m (operand d) (Sound d m)) →
    (d : Limit) (m : ℕ) (l : Measured) (a : ℕ) → Sound d m l a → Holds a (left_grouped (by op) binary may_stand_left operand d l) (Sound d m)
grouped_sound op unlike operand sound d m l a S = holds_many (may_stand_left d) (grouped (by op) binary operand d) (Sound d m) more l a S
  where
    more : (l : Measured) (a : ℕ) → Sound d m l a → may_stand_left d l ≡ true → Holds a (grouped (by op) binary operand d l) (Sound d m)
    more l a L h = holds_bind a (one (by op)) _ (λ o b. a < b) (Sound d m) (holds_some a (by op) (reads op) unlike (begins_by op))
        (λ o b after. holds_bind b (operand (fewer d)) _ (Sound (fewer d) b) (Sound d m) (sound (fewer d) b)
        (λ r k R. holds_gives k (binary o l r) (Sound d m) (binary_is d m a b o l r k L h after R)))

module _ (open_ : Bool) (ig : Limit → Grammar Measured) (inner : open_ ≡ true → (d : Limit) (m : ℕ) → Holds m (ig d) (Sound d m)) where
  wider_sound : (d : Limit) (m a : ℕ) (e : Measured) (k : ℕ) → m ≤ a → Sound d a e k → Sound d m e k
  wider_sound d m a e k h S = let few_ = S.few in record { is = S.is; fits = S.fits; readable = S.readable; few = omega (arith, h, few_) }

  longer_sound : (d : Limit) (m : ℕ) (e : Measured) (a k : ℕ) → a ≤ k → Sound d m e a → Sound d m e k
  longer_sound d m e a k h S = let few_ = S.few in record { is = S.is; fits = S.fits; readable = S.readable; few = omega (arith, h, few_) }

  bracketed_sound : (d : Limit) (m : ℕ) → open_ ≡ true → Holds m (g.bracketed open_ ig d) (Sound d m)
  unfolding g.bracketed
  bracketed_sound d m so = holds_bind m (one (marked s.Open)) _ (λ _ a. m ≤ a) (Sound d m) (holds_any m _)
      (λ _ a before. holds_bind a (ig d) _ (Sound d a) (Sound d m) (inner so d a)
      (λ e b S. holds_bind b (one (marked s.Close)) _ (λ _ k. b ≤ k) (Sound d m) (holds_any b _)
      (λ _ k after. holds_gives k e (Sound d m) (longer_sound d m e b k after (wider_sound d m a e b before S)))))

  exprs_sound : open_ ≡ true → (d : Limit) (m : ℕ) → Holds m (g.exprs open_ ig d) (SoundList d m)
  unfolding g.exprs g.more_exprs g.another_expr
  exprs_sound so d m = holds_bind m (ig d) _ (Sound d m) (SoundList d m) (inner so d m)
      (λ e a S. holds_many (λ _. true) (g.another_expr open_ ig d) (SoundList d m)
      (λ l a L _. holds_bind a (one (marked s.Comma)) _ (λ _ b. a ≤ b) (SoundList d m) (holds_any a _)
      (λ _ b before. holds_bind b (ig d) _ (Sound d b) (SoundList d m) (inner so d b)
      (λ e k S. holds_gives k (one_more l e) (SoundList d m) (one_more_is d m a b l e k L before S))))
      (one_more no_exprs e) a (one_more_is d m m m no_exprs e a (none_is d m) (omega arith) S))

  longer_list : (d : Limit) (m a : ℕ) (l : Listed) (b k : ℕ) → m ≤ a → b ≤ k → SoundList d a l b → SoundList d m l k
  longer_list d m a l b k h i L = let few_ = L.few in record { is = L.is; fits = L.fits; readable = L.readable; few = omega (arith, h, i, few_) }

  pub subscripts_sound : open_ ≡ true → (d : Limit) (m : ℕ) → Holds m (g.subscripts open_ ig d) (SoundList d m)
  unfolding g.subscripts
  subscripts_sound so d m = holds_bind m (one (marked s.Open)) _ (λ _ a. m ≤ a) (SoundList d m) (holds_any m _)
      (λ _ a before. holds_bind a (g.exprs open_ ig d) _ (SoundList d a) (SoundList d m) (exprs_sound so d a)
      (λ l b L. holds_bind b (one (marked s.Close)) _ (λ _ k. b ≤ k) (SoundList d m) (holds_any b _)
      (λ _ k after. holds_gives k l (SoundList d m) (longer_list d m a l b k before after L))))

  place_sound : (d : Limit) (m : ℕ) → Holds m (g.place open_ ig d) (Sound d m)
  unfolding g.place g.after_name g.indexed
  place_sound d m = holds_bind m (one name) _ (λ x k. (is_variable x.name ≡ true) × (m < k)) (Sound d m)
      (holds_both m (one name) (λ x k. is_variable x.name ≡ true) (λ x k. m < k) (holds_name m) (holds_some m name names refl begins_name)) after
    where
      after : (x : Word) (k : ℕ) → (is_variable x.name ≡ true) × (m < k) → Holds k (g.after_name open_ ig d x) (Sound d m)
      after x k h e us sp (inl (r, n)) = holds_bind k (g.subscripts open_ ig (fewer d)) _ (SoundList (fewer d) k) (Sound d m) (subscripts_sound (and_first open_ (allows d 1) r) (fewer d) k)
          (λ l c L. holds_gives c (element x l) (Sound d m) (element_is d m k x l c (and_second open_ (allows d 1) r) h.0 h.1 L)) e us sp n
      after x k h e us sp (inr n) = holds_gives k (scalar x) (Sound d m) (scalar_is d m x k h.0 h.1) e us sp n

  first_argument_sound : (d : Limit) (m : ℕ) → open_ ≡ true → Holds m (g.first_argument open_ ig d) (Sound d m)
  unfolding g.first_argument
  first_argument_sound d m so = holds_bind m (one (marked s.Open)) _ (λ _ a. m ≤ a) (Sound d m) (holds_any m _)
      (λ _ a before. holds_bind a (ig d) _ (Sound d a) (Sound d m) (inner so d a)
      (λ e b S. holds_bind b (one (marked s.Comma)) _ (λ _ k. b ≤ k) (Sound d m) (holds_any b _)
      (λ _ k after. holds_gives k e (Sound d m) (longer_sound d m e b k after (wider_sound d m a e b before S)))))

  second_argument_sound : (d : Limit) (m : ℕ) → open_ ≡ true → Holds m (g.second_argument open_ ig d) (Sound d m)
  unfolding g.second_argument
  second_argument_sound d m so = holds_bind m (ig d) _ (Sound d m) (Sound d m) (inner so d m)
      (λ e b S. holds_bind b (one (marked s.Close)) _ (λ _ k. b ≤ k) (Sound d m) (holds_any b _)
      (λ _ k after. holds_gives k e (Sound d m) (longer_sound d m e b k after S)))

  call_of_two_sound : (d : Limit) (m : ℕ) → open_ ≡ true → allows d 1 ≡ true → Holds m (g.call_of_two open_ ig d) (Sound d m)
  unfolding g.call_of_two
  call_of_two_sound d m so h = holds_bind m (one (by pairing_by)) _ (λ f k. (arity f ≡ 2) × (m < k)) (Sound d m) (holds_by pairing_by (λ f. arity f ≡ 2) refl two_args m)
      (λ f a F. holds_bind a (g.first_argument open_ ig (fewer d)) _ (Sound (fewer d) a) (Sound d m) (first_argument_sound (fewer d) a so)
      (λ x b X. holds_bind b (g.second_argument open_ ig (fewer d)) _ (Sound (fewer d) b) (Sound d m) (second_argument_sound (fewer d) b so)
      (λ y k Y. holds_gives k (call_of f (one_more (one_more no_exprs x) y)) (Sound d m)
      (call_is d m a f (one_more (one_more no_exprs x) y) k h (ap (λ n. nat_eq 2 n) F.0) F.1
      (one_more_is (fewer d) a b b (one_more no_exprs x) y k (one_more_is (fewer d) a a a no_exprs x b (none_is (fewer d) a) (omega arith) X) (omega arith) Y)))))

  call_of_one_sound : (d : Limit) (m : ℕ) → open_ ≡ true → allows d 1 ≡ true → Holds m (g.call_of_one open_ ig d) (Sound d m)
  unfolding g.call_of_one
  call_of_one_sound d m so h = holds_bind m (one (by single_by)) _ (λ f k. (arity f ≡ 1) × (m < k)) (Sound d m) (holds_by single_by (λ f. arity f ≡ 1) refl one_arg m)
      (λ f a F. holds_bind a (g.bracketed open_ ig (fewer d)) _ (Sound (fewer d) a) (Sound d m) (bracketed_sound (fewer d) a so)
      (λ x k X. holds_gives k (call_of f (one_more no_exprs x)) (Sound d m)
      (call_is d m a f (one_more no_exprs x) k h (ap (λ n. nat_eq 1 n) F.0) F.1 (one_more_is (fewer d) a a a no_exprs x k (none_is (fewer d) a) (omega arith) X))))

  primary_sound : (d : Limit) (m : ℕ) → Holds m (g.primary open_ ig d) (Sound d m)
  unfolding g.primary g.literal
  primary_sound d m e us sp (inl (so, n)) = bracketed_sound d m so e us sp n
  primary_sound d m e us sp (inr (inl (h, n))) = call_of_two_sound d m (and_first open_ (allows d 1) h) (and_second open_ (allows d 1) h) e us sp n
  primary_sound d m e us sp (inr (inr (inl (h, n)))) = call_of_one_sound d m (and_first open_ (allows d 1) h) (and_second open_ (allows d 1) h) e us sp n
  primary_sound d m e us sp (inr (inr (inr (inl n)))) = place_sound d m e us sp n
  primary_sound d m e us sp (inr (inr (inr (inr n)))) = holds_bind m (one number) _ (λ x k. (nat_le x.value 9223372036854775807 ≡ true) × (m < k)) (Sound d m)
      (holds_both m (one number) (λ x k. nat_le x.value 9223372036854775807 ≡ true) (λ x k. m < k) (holds_number m) (holds_some m number numbers refl begins_number))
      (λ x k h. holds_gives k (literal x) (Sound d m) (literal_is d m x k h.0 h.1)) e us sp n

  raised_sound : (d : Limit) (m : ℕ) (e : Measured) (a : ℕ) → Sound d m e a → Holds a (g.raised d e) (Sound d m)
  unfolding g.raised g.power_of
  raised_sound d m e a S x us sp (inr n) = holds_gives a e (Sound d m) S x us sp n
  raised_sound d m e a S x us sp (inl (h, n)) = holds_bind a (one (marked s.Power)) _ (λ _ b. a ≤ b) (Sound d m) (holds_any a _)
      (λ _ b before. holds_bind b (one exponent) _ (λ i k. (nat_le i.value 2147483647 ≡ true) × (b < k)) (Sound d m)
      (holds_both b (one exponent) (λ i k. nat_le i.value 2147483647 ≡ true) (λ i k. b < k) (holds_small b 2147483647) (holds_some b exponent numbers refl (begins_small_number 2147483647)))
      (λ i k small. holds_gives k (power e i) (Sound d m) (power_is d m e i b k (longer_sound d m e a b before S) h small.0 small.1))) x us sp n

  factor_sound : (d : Limit) (m : ℕ) → Holds m (g.factor open_ ig d) (Sound d m)
  unfolding g.factor
  factor_sound d m = holds_bind m (g.primary open_ ig d) _ (Sound d m) (Sound d m) (primary_sound d m) (raised_sound d m)

  term_sound : (d : Limit) (m : ℕ) → Holds m (g.term open_ ig d) (Sound d m)
  unfolding g.term g.factors_from
  term_sound d m = holds_bind m (g.factor open_ ig d) _ (Sound d m) (Sound d m) (factor_sound d m) (grouped_sound product_op_by refl (g.factor open_ ig) factor_sound d m)

  terms_sound : (d : Limit) (m : ℕ) (e : Measured) (a : ℕ) → Sound d m e a → Holds a (g.terms_from open_ ig d e) (Sound d m)
  unfolding g.terms_from
  terms_sound = grouped_sound sum_op_by refl (g.term open_ ig) term_sound

  unsigned_sound : (d : Limit) (m : ℕ) → Holds m (g.unsigned open_ ig d) (Sound d m)
  unfolding g.unsigned
  unsigned_sound d m = holds_bind m (g.term open_ ig d) _ (Sound d m) (Sound d m) (term_sound d m) (terms_sound d m)

  sum_sound : (d : Limit) (m : ℕ) → Holds m (g.sum open_ ig d) (Sound d m)
  unfolding g.sum g.negated g.plain
  sum_sound d m e us sp (inl (h, n)) = holds_bind m (one (marked s.Minus)) _ (λ _ a. m < a) (Sound d m) (holds_some m (marked s.Minus) (same s.Minus) refl (begins_mark s.Minus))
      (λ _ a more. holds_bind a (g.term open_ ig (fewer d)) _ (Sound (fewer d) a) (Sound d m) (term_sound (fewer d) a)
      (λ x k S. terms_sound d m (negation x) k (negation_is d m a x k h more S))) e us sp n
  sum_sound d m e us sp (inr (inl n)) = holds_bind m (one (marked s.Plus)) _ (λ _ a. m ≤ a) (Sound d m) (holds_any m _)
      (λ _ a before x vs r y. wider_sound d m a x (a + width vs) before (unsigned_sound d a x vs r y)) e us sp n
  sum_sound d m e us sp (inr (inr n)) = unsigned_sound d m e us sp n

pub expr_sound : (b : ℕ) (d : Limit) (m : ℕ) → Holds m (g.expr b d) (Sound d m)
unfolding g.expr
expr_sound zero = sum_sound false _ (λ no. differ true refl (sym no))
expr_sound (suc b) = sum_sound true _ (λ _. expr_sound b)
