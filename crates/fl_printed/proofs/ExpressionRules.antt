-- Each rule of the grammar of expressions, told by plain trees.
use Rattle.std.proofs.Common.{◌≡◌, ℕ, zero, suc, ◌+◌, ◌-◌, ◌<◌, ◌≤◌, max, Bool, true, ◌&&◌, nat_le, List, [], ◌∷◌, ◌++◌, Some, None, refl, sym, ap, ◌∙◌, inl, inr, append-nil, append_assoc, arith}
use Rattle.std.proofs.lemmas.Bool.Decides.{nat_tests}
use Rattle.tokens.specs.Lexeme.{Lexeme}
use Rattle.fl_ast.specs.declared.kind.Kind.{Kind}
use Rattle.fl_ast.specs.declared.kind.BinOp.{BinOp}
use Rattle.fl_ast.specs.declared.kind.Fun.{Fun}
use Rattle.fl_ast.specs.declared.expr.Expr.{Expr}
use Rattle.fl_ast.specs.declared.expr.Expr.TheVariants.{Lit}
use Rattle.fl_ast.specs.Tree.{Expression, literal, get, minus, binary, power, call, Expressions, no_expressions, expression, expr_tree, expr_trees}
use Rattle.fl_ast.specs.Measures.{depth, deepest}
use Rattle.parsing.specs.declared.symbol.Symbol.TheVariants as s
use Rattle.parsing.specs.declared.cursor.Word.{Word}
use Rattle.parsing.specs.declared.cursor.Number.{Number}
use Rattle.parsing.specs.Limit.{Limit}
use Rattle.parsing.specs.Reading.{Lexemes}
use Rattle.parsing.specs.Grammar.{Grammar}
use Rattle.parsing.specs.Terminal.{marked, name, number}
use Rattle.fl_expressions.specs.declared.tree.Measured.{Measured}
use Rattle.fl_expressions.specs.declared.tree.Listed.{Listed}
use Rattle.fl_expressions.specs.Terminals.{sum_op, product_op, pairing, single, exponent}
use Rattle.fl_expressions.specs.Trees as trees
use Rattle.fl_expressions.specs.ExprGrammar as g
use Rattle.fl_printed.specs.ReadBack.{IsReadAs, AreReadAs}
use Rattle.fl_printed.proofs.Folded.{tree-Lit, tree-Neg, tree-Bin, tree-Get, tree-Pow, tree-Call}

le_true : (n m : ℕ) → n ≤ m → nat_le n m ≡ true
le_true n m h = grind (arith, nat_tests)

-- a tree that is shallow enough may stand left
pub room : (d : ℕ) (m : Measured) (e : Expression) → m.depth ≡ depth e → depth e ≤ d → trees.may_stand_left (Some d) m ≡ true
room d m e h i = ap (λ n. nat_le n d) h ∙ le_true (depth e) d i

and_true : (a b : Bool) → a ≡ true → b ≡ true → (a && b) ≡ true
and_true a b h k = rw (h, k) refl

module _ (open_ : Bool) (ig : Limit → Grammar Measured) where
  abbrev pub Primary : ℕ → Lexemes → Expression → Type 0
  Primary d = IsReadAs (g.primary open_ ig (Some d))

  abbrev pub Factor : ℕ → Lexemes → Expression → Type 0
  Factor d = IsReadAs (g.factor open_ ig (Some d))

  abbrev pub Term : ℕ → Lexemes → Expression → Type 0
  Term d = IsReadAs (g.term open_ ig (Some d))

  abbrev pub Sum : ℕ → Lexemes → Expression → Type 0
  Sum d = IsReadAs (g.sum open_ ig (Some d))

  -- ---- from one level to the next

  pub factor_of : (d : ℕ) (us : Lexemes) (e : Expression) → Primary d us e → Factor d us e
  unfolding g.factor g.raised
  factor_of d us e R = record { value = R.value; tree = R.tree; levels = R.levels; reads = (R.value, us, [], R.reads, inr (refl, refl), sym (append-nil us)) }

  pub term_of : (d : ℕ) (us : Lexemes) (e : Expression) → Factor d us e → Term d us e
  unfolding g.term g.factors_from
  term_of d us e R = record { value = R.value; tree = R.tree; levels = R.levels; reads = (R.value, us, [], R.reads, (zero, (refl, refl)), sym (append-nil us)) }

  pub sum_of : (d : ℕ) (us : Lexemes) (e : Expression) → Term d us e → Sum d us e
  unfolding g.sum g.unsigned g.terms_from
  sum_of d us e R = record { value = R.value; tree = R.tree; levels = R.levels; reads = inr (inr (R.value, us, [], R.reads, (zero, (refl, refl)), sym (append-nil us))) }

  -- ---- operations

  pub power_read : (d : ℕ) (us : Lexemes) (e : Expression) (t1 t2 : Lexeme) (l : ℕ) (n : Number) → Primary d us e → depth e ≤ d → marked s.Power t1 ≡ Some l → exponent t2 ≡ Some n →
      Factor d (us ++ t1 ∷ t2 ∷ []) (power e n.value)
  unfolding g.factor g.raised g.power_of
  power_read d us e t1 t2 l n R h p q = record {
    value = trees.power R.value n;
    tree = tree-Pow R.value.expr n.value ∙ ap (λ x. power x n.value) R.tree;
    levels = ap (λ i. i + 1) R.levels;
    reads = (R.value, us, t1 ∷ t2 ∷ [], R.reads, inl (room d R.value e R.levels h, (l, t1 ∷ [], t2 ∷ [], (t1, p, refl), (n, t2 ∷ [], [], (t2, q, refl), (refl, refl), refl), refl)), refl);
  }

  pub combined_tree : (o : BinOp) (l r : Measured) (x y : Expression) → expr_tree l.expr ≡ x → expr_tree r.expr ≡ y → expr_tree (trees.binary o l r).expr ≡ binary o x y
  combined_tree o l r x y h i = tree-Bin o l.expr r.expr ∙ ap (λ u. binary o u (expr_tree r.expr)) h ∙ ap (λ u. binary o x u) i

  pub combined_levels : (l r : Measured) (x y : Expression) → l.depth ≡ depth x → r.depth ≡ depth y → max l.depth r.depth + 1 ≡ max (depth x) (depth y) + 1
  combined_levels l r x y h i = ap (λ n. max n r.depth + 1) h ∙ ap (λ n. max (depth x) n + 1) i

  pub product_read : (d : ℕ) (vs ws : Lexemes) (t : Lexeme) (o : BinOp) (x y : Expression) → Factor d vs x → depth x ≤ d → product_op t ≡ Some o → Factor (d - 1) ws y →
      Term d (vs ++ t ∷ ws) (binary o x y)
  unfolding g.term g.factors_from
  product_read d vs ws t o x y L h p R = record {
    value = trees.binary o L.value R.value;
    tree = combined_tree o L.value R.value x y L.tree R.tree;
    levels = combined_levels L.value R.value x y L.levels R.levels;
    reads = (L.value, vs, t ∷ ws, L.reads, (1, (trees.binary o L.value R.value, t ∷ ws, [], (room d L.value x L.levels h, (o, t ∷ [], ws, (t, p, refl), (R.value, ws, [], R.reads, (refl, refl), sym (append-nil ws)), refl)), (refl, refl), sym (append-nil (t ∷ ws)))), refl);
  }

  pub sum_read : (d : ℕ) (vs ws : Lexemes) (t : Lexeme) (o : BinOp) (x y : Expression) → Term d vs x → depth x ≤ d → sum_op t ≡ Some o → Term (d - 1) ws y →
      Sum d (vs ++ t ∷ ws) (binary o x y)
  unfolding g.sum g.unsigned g.terms_from
  sum_read d vs ws t o x y L h p R = record {
    value = trees.binary o L.value R.value;
    tree = combined_tree o L.value R.value x y L.tree R.tree;
    levels = combined_levels L.value R.value x y L.levels R.levels;
    reads = inr (inr (L.value, vs, t ∷ ws, L.reads, (1, (trees.binary o L.value R.value, t ∷ ws, [], (room d L.value x L.levels h, (o, t ∷ [], ws, (t, p, refl), (R.value, ws, [], R.reads, (refl, refl), sym (append-nil ws)), refl)), (refl, refl), sym (append-nil (t ∷ ws)))), refl));
  }

  pub minus_read : (d : ℕ) (us : Lexemes) (e : Expression) (t : Lexeme) (l : ℕ) → Term (d - 1) us e → 1 ≤ d → marked s.Minus t ≡ Some l → Sum d (t ∷ us) (minus e)
  unfolding g.sum g.negated g.terms_from
  minus_read d us e t l R h p = record {
    value = trees.negation R.value;
    tree = tree-Neg R.value.expr ∙ ap minus R.tree;
    levels = ap (λ i. i + 1) R.levels;
    reads = inl (le_true 1 d h, (l, t ∷ [], us, (t, p, refl), (R.value, us, [], R.reads, (zero, (refl, refl)), sym (append-nil us)), refl));
  }

  -- ---- operands

  pub bracketed_read : (d : ℕ) (us : Lexemes) (e : Expression) (t1 t2 : Lexeme) (l1 l2 : ℕ) → open_ ≡ true → IsReadAs (ig (Some d)) us e → marked s.Open t1 ≡ Some l1 → marked s.Close t2 ≡ Some l2 →
      IsReadAs (g.bracketed open_ ig (Some d)) (t1 ∷ (us ++ t2 ∷ [])) e
  unfolding g.bracketed
  bracketed_read d us e t1 t2 l1 l2 h R p q = record {
    value = R.value;
    tree = R.tree;
    levels = R.levels;
    reads = (l1, t1 ∷ [], us ++ t2 ∷ [], (t1, p, refl), (R.value, us, t2 ∷ [], R.reads, (l2, t2 ∷ [], [], (t2, q, refl), (refl, refl), refl), refl), refl);
  }

  pub primary_of_bracketed : (d : ℕ) (us : Lexemes) (e : Expression) → open_ ≡ true → IsReadAs (g.bracketed open_ ig (Some d)) us e → Primary d us e
  unfolding g.primary
  primary_of_bracketed d us e h R = record { value = R.value; tree = R.tree; levels = R.levels; reads = inl (h, R.reads) }

  pub literal_rule : (d : ℕ) (t : Lexeme) (x : Number) (n : ℕ) (k : Kind) → number t ≡ Some x → trees.literal x ≡ record { expr = Lit n k; depth = 1 } → Primary d (t ∷ []) (literal n k)
  unfolding g.primary g.literal
  literal_rule d t x n k p e = record {
    value = trees.literal x;
    tree = ap (λ m. expr_tree m.expr) e ∙ tree-Lit n k;
    levels = refl;
    reads = inr (inr (inr (inr (x, t ∷ [], [], (t, p, refl), (refl, refl), refl))));
  }

  pub scalar_rule : (d : ℕ) (t : Lexeme) (w : Word) → name t ≡ Some w → Primary d (t ∷ []) (get w.name no_expressions)
  unfolding g.primary g.place g.after_name
  scalar_rule d t w p = record {
    value = trees.scalar w;
    tree = tree-Get w.name [];
    levels = refl;
    reads = inr (inr (inr (inl (w, t ∷ [], [], (t, p, refl), inr (refl, refl), refl))));
  }

  -- a name with subscripts
  pub element_rule : (d : ℕ) (t : Lexeme) (w : Word) (us : Lexemes) (xs : Expressions) → open_ ≡ true → 1 ≤ d → name t ≡ Some w → AreReadAs (g.subscripts open_ ig (Some (d - 1))) us xs → Primary d (t ∷ us) (get w.name xs)
  unfolding g.primary g.place g.after_name g.indexed
  element_rule d t w us xs h i p R = record {
    value = trees.element w R.value;
    tree = tree-Get w.name R.value.exprs ∙ ap (get w.name) R.trees;
    levels = ap (λ n. n + 1) R.levels;
    reads = inr (inr (inr (inl (w, t ∷ [], us, (t, p, refl), inl (and_true _ _ h (le_true 1 d i), (R.value, us, [], R.reads, (refl, refl), sym (append-nil us))), refl))));
  }

  pub one_argument : (d : ℕ) (t : Lexeme) (f : Fun) (us : Lexemes) (x : Expression) → open_ ≡ true → 1 ≤ d → single t ≡ Some f → IsReadAs (g.bracketed open_ ig (Some (d - 1))) us x →
      Primary d (t ∷ us) (call f (expression x no_expressions))
  unfolding g.primary g.call_of_one
  one_argument d t f us x h i p R = record {
    value = trees.call_of f (trees.one_more trees.no_exprs R.value);
    tree = tree-Call f (R.value.expr ∷ []) ∙ ap (λ u. call f (expression u no_expressions)) R.tree;
    levels = ap (λ n. max 0 n + 1) R.levels ∙ omega arith;
    reads = inr (inr (inl (and_true _ _ h (le_true 1 d i), (f, t ∷ [], us, (t, p, refl), (R.value, us, [], R.reads, (refl, refl), sym (append-nil us)), refl))));
  }

  pub two_arguments : (d : ℕ) (t t1 t2 t3 : Lexeme) (l1 l2 l3 : ℕ) (f : Fun) (us vs : Lexemes) (x y : Expression) → open_ ≡ true → 1 ≤ d → pairing t ≡ Some f → marked s.Open t1 ≡ Some l1 →
      marked s.Comma t2 ≡ Some l2 → marked s.Close t3 ≡ Some l3 → IsReadAs (ig (Some (d - 1))) us x → IsReadAs (ig (Some (d - 1))) vs y →
      Primary d (t ∷ (t1 ∷ (us ++ t2 ∷ [])) ++ (vs ++ t3 ∷ [])) (call f (expression x (expression y no_expressions)))
  unfolding g.primary g.call_of_two g.first_argument g.second_argument
  two_arguments d t t1 t2 t3 l1 l2 l3 f us vs x y h i p q1 q2 q3 R S = record {
    value = trees.call_of f (trees.one_more (trees.one_more trees.no_exprs R.value) S.value);
    tree = tree-Call f (R.value.expr ∷ S.value.expr ∷ []) ∙ ap (λ u. call f (expression u (expression (expr_tree S.value.expr) no_expressions))) R.tree ∙ ap (λ u. call f (expression x (expression u no_expressions))) S.tree;
    levels = ap (λ n. max (max 0 n) S.value.depth + 1) R.levels ∙ ap (λ n. max (max 0 (depth x)) n + 1) S.levels ∙ omega arith;
    reads = inr (inl (
      and_true _ _ h (le_true 1 d i),
      (
        f,
        t ∷ [],
        (t1 ∷ (us ++ t2 ∷ [])) ++ (vs ++ t3 ∷ []),
        (t, p, refl),
        (
          R.value,
          t1 ∷ (us ++ t2 ∷ []),
          vs ++ t3 ∷ [],
          (l1, t1 ∷ [], us ++ t2 ∷ [], (t1, q1, refl), (R.value, us, t2 ∷ [], R.reads, (l2, t2 ∷ [], [], (t2, q2, refl), (refl, refl), refl), refl), refl),
          (S.value, vs ++ t3 ∷ [], [], (S.value, vs, t3 ∷ [], S.reads, (l3, t3 ∷ [], [], (t3, q3, refl), (refl, refl), refl), refl), (refl, refl), sym (append-nil (vs ++ t3 ∷ []))),
          refl,
        ),
        refl,
      ),
    ));
  }

  -- ---- lists

  -- what goes on behind some expressions, which stay
  pub record MoreRead (d : ℕ) (us : Lexemes) (found : Listed) (xs : Expressions) : Type 0 where
    pub list : Listed
    pub more : List Expr
    pub whole : list.exprs ≡ found.exprs ++ more
    pub trees_ : expr_trees more ≡ xs
    pub levels : list.depth ≡ max found.depth (deepest xs)
    pub reads : g.more_exprs open_ ig (Some d) found list us

  pub no_more : (d : ℕ) (found : Listed) → MoreRead d [] found no_expressions
  unfolding g.more_exprs
  no_more d found = record { list = found; more = []; whole = sym (append-nil found.exprs); trees_ = refl; levels = omega arith; reads = (zero, (refl, refl)) }

  pub one_more : (d : ℕ) (t : Lexeme) (l : ℕ) (vs ws : Lexemes) (found : Listed) (x : Expression) (xs : Expressions) → marked s.Comma t ≡ Some l → (R : IsReadAs (ig (Some d)) vs x) →
      MoreRead d ws (trees.one_more found R.value) xs → MoreRead d (t ∷ (vs ++ ws)) found (expression x xs)
  unfolding g.more_exprs g.another_expr
  one_more d t l vs ws found x xs p R M = record {
    list = M.list;
    more = R.value.expr ∷ M.more;
    whole = M.whole ∙ append_assoc found.exprs (R.value.expr ∷ []) M.more;
    trees_ = ap (λ u. expression u (expr_trees M.more)) R.tree ∙ ap (expression x) M.trees_;
    levels = M.levels ∙ ap (λ n. max (max found.depth n) (deepest xs)) R.levels ∙ omega arith;
    reads = (suc M.reads.0, (trees.one_more found R.value, t ∷ vs, ws, (refl, (l, t ∷ [], vs, (t, p, refl), (R.value, vs, [], R.reads, (refl, refl), sym (append-nil vs)), refl)), M.reads.1, refl));
  }

  pub exprs_rule : (d : ℕ) (vs ws : Lexemes) (x : Expression) (xs : Expressions) → (R : IsReadAs (ig (Some d)) vs x) → MoreRead d ws (trees.one_more trees.no_exprs R.value) xs →
      AreReadAs (g.exprs open_ ig (Some d)) (vs ++ ws) (expression x xs)
  unfolding g.exprs
  exprs_rule d vs ws x xs R M = record {
    value = M.list;
    trees = ap expr_trees M.whole ∙ ap (λ u. expression u (expr_trees M.more)) R.tree ∙ ap (expression x) M.trees_;
    levels = M.levels ∙ ap (λ n. max (max 0 n) (deepest xs)) R.levels ∙ omega arith;
    reads = (R.value, vs, ws, R.reads, M.reads, refl);
  }

  pub subscripts_rule : (d : ℕ) (us : Lexemes) (xs : Expressions) (t1 t2 : Lexeme) (l1 l2 : ℕ) → AreReadAs (g.exprs open_ ig (Some d)) us xs → marked s.Open t1 ≡ Some l1 → marked s.Close t2 ≡ Some l2 →
      AreReadAs (g.subscripts open_ ig (Some d)) (t1 ∷ (us ++ t2 ∷ [])) xs
  unfolding g.subscripts
  subscripts_rule d us xs t1 t2 l1 l2 R p q = record {
    value = R.value;
    trees = R.trees;
    levels = R.levels;
    reads = (l1, t1 ∷ [], us ++ t2 ∷ [], (t1, p, refl), (R.value, us, t2 ∷ [], R.reads, (l2, t2 ∷ [], [], (t2, q, refl), (refl, refl), refl), refl), refl);
  }
