-- Each rule of the grammar of an adjoint's expressions, told by plain trees.
use Rattle.std.proofs.Common.{◌≡◌, ℕ, zero, ◌+◌, ◌-◌, ◌≤◌, max, Bool, true, ◌&&◌, nat_le, nat_lt, [], ◌∷◌, ◌++◌, Some, refl, sym, ap, ◌∙◌, inl, inr, append-nil, arith}
use Rattle.std.proofs.lemmas.Bool.Decides.{nat_tests}
use Rattle.tokens.specs.Lexeme.{Lexeme}
use Rattle.fl_ast.specs.declared.kind.Kind.{Kind}
use Rattle.fl_ast.specs.declared.kind.BinOp.{BinOp}
use Rattle.fl_ast.specs.declared.kind.Fun.{Fun}
use Rattle.fl_ast.specs.declared.adjoint.AExpr.TheVariants.{Lit}
use Rattle.fl_ast.specs.Tree.{Expressions, no_expressions, Condition, cond_tree}
use Rattle.fl_ast.specs.AdjointTree.{AdjointExpression, adjoint_literal, adjoint_get, adjoint_minus, adjoint_binary, adjoint_power, adjoint_call, merge, adjoint_expression, no_adjoint_expressions, aexpr_tree}
use Rattle.fl_ast.specs.ReadableAdjoint.{adjoint_depth}
use Rattle.parsing.specs.declared.symbol.Symbol.TheVariants as s
use Rattle.parsing.specs.declared.cursor.Word.{Word}
use Rattle.parsing.specs.declared.cursor.Number.{Number}
use Rattle.parsing.specs.Limit.{Limit}
use Rattle.parsing.specs.Reading.{Lexemes}
use Rattle.parsing.specs.Grammar.{Grammar}
use Rattle.parsing.specs.Terminal.{marked, name, number}
use Rattle.adjoint_expressions.specs.declared.tree.AMeasured.{AMeasured}
use Rattle.fl_expressions.specs.Terminals.{sum_op, product_op, pairing, single, exponent}
use Rattle.fl_expressions.specs.ExprGrammar as plain
use Rattle.adjoint_expressions.specs.Trees as trees
use Rattle.adjoint_expressions.specs.AdjointGrammar as g
use Rattle.printed_conditions.specs.Conditions.{IsJudgedAs}
use Rattle.fl_conditions.specs.CondGrammar.{cond}
use Rattle.fl_printed.specs.ReadBack.{AreReadAs}
use Rattle.printed_adjoint_expressions.specs.AdjointReadBack.{IsAdjointReadAs}
use Rattle.printed_adjoint_expressions.proofs.AdjointFolded.{tree-Lit, tree-Neg, tree-Bin, tree-Get, tree-Pow, tree-Call, tree-Merge}

le_true : (n m : ℕ) → n ≤ m → nat_le n m ≡ true
le_true n m h = grind (arith, nat_tests)

-- a tree that is shallow enough may stand left
pub room : (d : ℕ) (m : AMeasured) (e : AdjointExpression) → m.depth ≡ adjoint_depth e → adjoint_depth e ≤ d → trees.may_stand_left (Some d) m ≡ true
room d m e h i = ap (λ n. nat_le n d) h ∙ le_true (adjoint_depth e) d i

and_true : (a b : Bool) → a ≡ true → b ≡ true → (a && b) ≡ true
and_true a b h k = rw (h, k) refl

module _ (b : ℕ) (ig : Limit → Grammar AMeasured) where
  abbrev pub Primary : ℕ → Lexemes → AdjointExpression → Type 0
  Primary d = IsAdjointReadAs (g.primary b ig (Some d))

  abbrev pub Factor : ℕ → Lexemes → AdjointExpression → Type 0
  Factor d = IsAdjointReadAs (g.factor b ig (Some d))

  abbrev pub Term : ℕ → Lexemes → AdjointExpression → Type 0
  Term d = IsAdjointReadAs (g.term b ig (Some d))

  abbrev pub Sum : ℕ → Lexemes → AdjointExpression → Type 0
  Sum d = IsAdjointReadAs (g.sum b ig (Some d))

  -- ---- from one level to the next

  pub factor_of : (d : ℕ) (us : Lexemes) (e : AdjointExpression) → Primary d us e → Factor d us e
  unfolding g.factor g.raised
  factor_of d us e R = record { value = R.value; tree = R.tree; levels = R.levels; reads = (R.value, us, [], R.reads, inr (refl, refl), sym (append-nil us)) }

  pub term_of : (d : ℕ) (us : Lexemes) (e : AdjointExpression) → Factor d us e → Term d us e
  unfolding g.term g.factors_from
  term_of d us e R = record { value = R.value; tree = R.tree; levels = R.levels; reads = (R.value, us, [], R.reads, (zero, (refl, refl)), sym (append-nil us)) }

  pub sum_of : (d : ℕ) (us : Lexemes) (e : AdjointExpression) → Term d us e → Sum d us e
  unfolding g.sum g.unsigned g.terms_from
  sum_of d us e R = record { value = R.value; tree = R.tree; levels = R.levels; reads = inr (inr (R.value, us, [], R.reads, (zero, (refl, refl)), sym (append-nil us))) }

  -- ---- operations

  pub power_read : (d : ℕ) (us : Lexemes) (e : AdjointExpression) (t1 t2 : Lexeme) (l : ℕ) (n : Number) → Primary d us e → adjoint_depth e ≤ d → marked s.Power t1 ≡ Some l → exponent t2 ≡ Some n →
      Factor d (us ++ t1 ∷ t2 ∷ []) (adjoint_power e n.value)
  unfolding g.factor g.raised g.power_of
  power_read d us e t1 t2 l n R h p q = record {
    value = trees.power R.value n;
    tree = tree-Pow R.value.expr n.value ∙ ap (λ x. adjoint_power x n.value) R.tree;
    levels = ap (λ i. i + 1) R.levels;
    reads = (R.value, us, t1 ∷ t2 ∷ [], R.reads, inl (room d R.value e R.levels h, (l, t1 ∷ [], t2 ∷ [], (t1, p, refl), (n, t2 ∷ [], [], (t2, q, refl), (refl, refl), refl), refl)), refl);
  }

  pub combined_tree : (o : BinOp) (l r : AMeasured) (x y : AdjointExpression) → aexpr_tree l.expr ≡ x → aexpr_tree r.expr ≡ y → aexpr_tree (trees.binary o l r).expr ≡ adjoint_binary o x y
  combined_tree o l r x y h i = tree-Bin o l.expr r.expr ∙ ap (λ u. adjoint_binary o u (aexpr_tree r.expr)) h ∙ ap (λ u. adjoint_binary o x u) i

  pub combined_levels : (l r : AMeasured) (x y : AdjointExpression) → l.depth ≡ adjoint_depth x → r.depth ≡ adjoint_depth y → max l.depth r.depth + 1 ≡ max (adjoint_depth x) (adjoint_depth y) + 1
  combined_levels l r x y h i = ap (λ n. max n r.depth + 1) h ∙ ap (λ n. max (adjoint_depth x) n + 1) i

  pub product_read : (d : ℕ) (vs ws : Lexemes) (t : Lexeme) (o : BinOp) (x y : AdjointExpression) → Factor d vs x → adjoint_depth x ≤ d → product_op t ≡ Some o → Factor (d - 1) ws y →
      Term d (vs ++ t ∷ ws) (adjoint_binary o x y)
  unfolding g.term g.factors_from
  product_read d vs ws t o x y L h p R = record {
    value = trees.binary o L.value R.value;
    tree = combined_tree o L.value R.value x y L.tree R.tree;
    levels = combined_levels L.value R.value x y L.levels R.levels;
    reads = (L.value, vs, t ∷ ws, L.reads, (1, (trees.binary o L.value R.value, t ∷ ws, [], (room d L.value x L.levels h, (o, t ∷ [], ws, (t, p, refl), (R.value, ws, [], R.reads, (refl, refl), sym (append-nil ws)), refl)), (refl, refl), sym (append-nil (t ∷ ws)))), refl);
  }

  pub sum_read : (d : ℕ) (vs ws : Lexemes) (t : Lexeme) (o : BinOp) (x y : AdjointExpression) → Term d vs x → adjoint_depth x ≤ d → sum_op t ≡ Some o → Term (d - 1) ws y →
      Sum d (vs ++ t ∷ ws) (adjoint_binary o x y)
  unfolding g.sum g.unsigned g.terms_from
  sum_read d vs ws t o x y L h p R = record {
    value = trees.binary o L.value R.value;
    tree = combined_tree o L.value R.value x y L.tree R.tree;
    levels = combined_levels L.value R.value x y L.levels R.levels;
    reads = inr (inr (L.value, vs, t ∷ ws, L.reads, (1, (trees.binary o L.value R.value, t ∷ ws, [], (room d L.value x L.levels h, (o, t ∷ [], ws, (t, p, refl), (R.value, ws, [], R.reads, (refl, refl), sym (append-nil ws)), refl)), (refl, refl), sym (append-nil (t ∷ ws)))), refl));
  }

  pub minus_read : (d : ℕ) (us : Lexemes) (e : AdjointExpression) (t : Lexeme) (l : ℕ) → Term (d - 1) us e → 1 ≤ d → marked s.Minus t ≡ Some l → Sum d (t ∷ us) (adjoint_minus e)
  unfolding g.sum g.negated g.terms_from
  minus_read d us e t l R h p = record {
    value = trees.negation R.value;
    tree = tree-Neg R.value.expr ∙ ap adjoint_minus R.tree;
    levels = ap (λ i. i + 1) R.levels;
    reads = inl (le_true 1 d h, (l, t ∷ [], us, (t, p, refl), (R.value, us, [], R.reads, (zero, (refl, refl)), sym (append-nil us)), refl));
  }

  -- ---- operands

  pub bracketed_read : (d : ℕ) (us : Lexemes) (e : AdjointExpression) (t1 t2 : Lexeme) (l1 l2 : ℕ) → nat_lt 0 b ≡ true → IsAdjointReadAs (ig (Some d)) us e → marked s.Open t1 ≡ Some l1 → marked s.Close t2 ≡ Some l2 →
      IsAdjointReadAs (g.bracketed b ig (Some d)) (t1 ∷ (us ++ t2 ∷ [])) e
  unfolding g.bracketed
  bracketed_read d us e t1 t2 l1 l2 h R p q = record {
    value = R.value;
    tree = R.tree;
    levels = R.levels;
    reads = (l1, t1 ∷ [], us ++ t2 ∷ [], (t1, p, refl), (R.value, us, t2 ∷ [], R.reads, (l2, t2 ∷ [], [], (t2, q, refl), (refl, refl), refl), refl), refl);
  }

  pub primary_of_bracketed : (d : ℕ) (us : Lexemes) (e : AdjointExpression) → nat_lt 0 b ≡ true → IsAdjointReadAs (g.bracketed b ig (Some d)) us e → Primary d us e
  unfolding g.primary
  primary_of_bracketed d us e h R = record { value = R.value; tree = R.tree; levels = R.levels; reads = inl (h, R.reads) }

  pub literal_rule : (d : ℕ) (t : Lexeme) (x : Number) (n : ℕ) (k : Kind) → number t ≡ Some x → trees.literal x ≡ record { expr = Lit n k; depth = 1 } → Primary d (t ∷ []) (adjoint_literal n k)
  unfolding g.primary g.literal
  literal_rule d t x n k p e = record {
    value = trees.literal x;
    tree = ap (λ m. aexpr_tree m.expr) e ∙ tree-Lit n k;
    levels = refl;
    reads = inr (inr (inr (inr (inr (x, t ∷ [], [], (t, p, refl), (refl, refl), refl)))));
  }

  pub scalar_rule : (d : ℕ) (t : Lexeme) (w : Word) → name t ≡ Some w → Primary d (t ∷ []) (adjoint_get (record { name = w.name; subscripts = no_expressions }))
  unfolding g.primary g.place g.after_name
  scalar_rule d t w p = record {
    value = trees.scalar w;
    tree = tree-Get w.name [];
    levels = refl;
    reads = inr (inr (inr (inr (inl (w, t ∷ [], [], (t, p, refl), inr (refl, refl), refl)))));
  }

  -- a name with subscripts
  pub element_rule : (d : ℕ) (t : Lexeme) (w : Word) (us : Lexemes) (xs : Expressions) → nat_lt 0 b ≡ true → 1 ≤ d → name t ≡ Some w → AreReadAs (plain.subscripts (nat_lt 0 b) (plain.below b) (Some (d - 1))) us xs → Primary d (t ∷ us) (adjoint_get (record { name = w.name; subscripts = xs }))
  unfolding g.primary g.place g.after_name g.indexed
  element_rule d t w us xs h i p R = record {
    value = trees.element w R.value;
    tree = tree-Get w.name R.value.exprs ∙ ap (λ l. adjoint_get (record { name = w.name; subscripts = l })) R.trees;
    levels = ap (λ n. n + 1) R.levels;
    reads = inr (inr (inr (inr (inl (w, t ∷ [], us, (t, p, refl), inl (and_true _ _ h (le_true 1 d i), (R.value, us, [], R.reads, (refl, refl), sym (append-nil us))), refl)))));
  }

  pub one_argument : (d : ℕ) (t : Lexeme) (f : Fun) (us : Lexemes) (x : AdjointExpression) → nat_lt 0 b ≡ true → 1 ≤ d → single t ≡ Some f → IsAdjointReadAs (g.bracketed b ig (Some (d - 1))) us x →
      Primary d (t ∷ us) (adjoint_call f (adjoint_expression x no_adjoint_expressions))
  unfolding g.primary g.call_of_one
  one_argument d t f us x h i p R = record {
    value = trees.call_of f (trees.one_more trees.no_exprs R.value);
    tree = tree-Call f (R.value.expr ∷ []) ∙ ap (λ u. adjoint_call f (adjoint_expression u no_adjoint_expressions)) R.tree;
    levels = ap (λ n. max 0 n + 1) R.levels ∙ omega arith;
    reads = inr (inr (inl (and_true _ _ h (le_true 1 d i), (f, t ∷ [], us, (t, p, refl), (R.value, us, [], R.reads, (refl, refl), sym (append-nil us)), refl))));
  }

  pub two_arguments : (d : ℕ) (t t1 t2 t3 : Lexeme) (l1 l2 l3 : ℕ) (f : Fun) (us vs : Lexemes) (x y : AdjointExpression) → nat_lt 0 b ≡ true → 1 ≤ d → pairing t ≡ Some f → marked s.Open t1 ≡ Some l1 →
      marked s.Comma t2 ≡ Some l2 → marked s.Close t3 ≡ Some l3 → IsAdjointReadAs (ig (Some (d - 1))) us x → IsAdjointReadAs (ig (Some (d - 1))) vs y →
      Primary d (t ∷ (t1 ∷ (us ++ t2 ∷ [])) ++ (vs ++ t3 ∷ [])) (adjoint_call f (adjoint_expression x (adjoint_expression y no_adjoint_expressions)))
  unfolding g.primary g.call_of_two g.first_argument g.second_argument
  two_arguments d t t1 t2 t3 l1 l2 l3 f us vs x y h i p q1 q2 q3 R S = record {
    value = trees.call_of f (trees.one_more (trees.one_more trees.no_exprs R.value) S.value);
    tree = tree-Call f (R.value.expr ∷ S.value.expr ∷ []) ∙ ap (λ u. adjoint_call f (adjoint_expression u (adjoint_expression (aexpr_tree S.value.expr) no_adjoint_expressions))) R.tree ∙ ap (λ u. adjoint_call f (adjoint_expression x (adjoint_expression u no_adjoint_expressions))) S.tree;
    levels = ap (λ n. max (max 0 n) S.value.depth + 1) R.levels ∙ ap (λ n. max (max 0 (adjoint_depth x)) n + 1) S.levels ∙ omega arith;
    reads = inr (inl (
      and_true _ _ h (le_true 1 d i),
      (
        f,
        t ∷ [],
        (t1 ∷ (us ++ t2 ∷ [])) ++ (vs ++ t3 ∷ []),
        (t, p, refl),
        (
          R.value,
          t1 ∷ (us ++ t2 ∷ []),
          vs ++ t3 ∷ [],
          (l1, t1 ∷ [], us ++ t2 ∷ [], (t1, q1, refl), (R.value, us, t2 ∷ [], R.reads, (l2, t2 ∷ [], [], (t2, q2, refl), (refl, refl), refl), refl), refl),
          (S.value, vs ++ t3 ∷ [], [], (S.value, vs, t3 ∷ [], S.reads, (l3, t3 ∷ [], [], (t3, q3, refl), (refl, refl), refl), refl), (refl, refl), sym (append-nil (vs ++ t3 ∷ []))),
          refl,
        ),
        refl,
      ),
    ));
  }

  -- "merge" "(" first "," second "," condition ")"
  pub merge_rule : (d : ℕ) (t t1 t2 t3 t4 : Lexeme) (l l1 l2 l3 l4 : ℕ) (us vs ws : Lexemes) (x y : AdjointExpression) (c : Condition) → nat_lt 0 b ≡ true → 2 ≤ d → marked s.Merge t ≡ Some l
      → marked s.Open t1 ≡ Some l1 → marked s.Comma t2 ≡ Some l2 → marked s.Comma t3 ≡ Some l3 → marked s.Close t4 ≡ Some l4
      → IsAdjointReadAs (ig (Some (d - 1))) us x → IsAdjointReadAs (ig (Some (d - 1))) vs y → IsJudgedAs (cond (b - 1) (Some (d - 1 - 1))) ws c
      → Primary d ((t ∷ t1 ∷ (us ++ t2 ∷ [])) ++ ((vs ++ t3 ∷ []) ++ (ws ++ t4 ∷ []))) (merge x y c)
  unfolding g.primary g.merge_of g.merge_head g.first_argument g.middle_argument g.last_condition
  merge_rule d t t1 t2 t3 t4 l l1 l2 l3 l4 us vs ws x y c h i p q1 q2 q3 q4 R S C = record {
    value = trees.merged R.value S.value C.value;
    tree = tree-Merge R.value.expr S.value.expr C.value.cond ∙ ap (λ u. merge u (aexpr_tree S.value.expr) (cond_tree C.value.cond)) R.tree ∙ ap (λ u. merge x u (cond_tree C.value.cond)) S.tree ∙ ap (λ u. merge x y u) C.tree;
    levels = ap (λ n. max (max n S.value.depth) (C.value.levels + 1) + 1) R.levels ∙ ap (λ n. max (max (adjoint_depth x) n) (C.value.levels + 1) + 1) S.levels ∙ ap (λ n. max (max (adjoint_depth x) (adjoint_depth y)) n + 1) C.levels;
    reads = inr (inr (inr (inl (
      and_true _ _ h (le_true 2 d i),
      (
        R.value,
        t ∷ t1 ∷ (us ++ t2 ∷ []),
        (vs ++ t3 ∷ []) ++ (ws ++ t4 ∷ []),
        (l, t ∷ [], t1 ∷ (us ++ t2 ∷ []), (t, p, refl), (l1, t1 ∷ [], us ++ t2 ∷ [], (t1, q1, refl), (R.value, us, t2 ∷ [], R.reads, (l2, t2 ∷ [], [], (t2, q2, refl), (refl, refl), refl), refl), refl), refl),
        (
          S.value,
          vs ++ t3 ∷ [],
          ws ++ t4 ∷ [],
          (S.value, vs, t3 ∷ [], S.reads, (l3, t3 ∷ [], [], (t3, q3, refl), (refl, refl), refl), refl),
          (C.value, ws ++ t4 ∷ [], [], (C.value, ws, t4 ∷ [], C.reads, (l4, t4 ∷ [], [], (t4, q4, refl), (refl, refl), refl), refl), (refl, refl), sym (append-nil (ws ++ t4 ∷ []))),
          refl,
        ),
        refl,
      ),
    ))));
  }
