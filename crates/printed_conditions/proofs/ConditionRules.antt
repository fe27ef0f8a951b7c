-- Each rule of the grammar of conditions, told by plain trees.
use Rattle.std.proofs.Common.{◌≡◌, ℕ, zero, suc, ◌+◌, ◌-◌, ◌≤◌, max, Bool, true, nat_le, nat_lt, [], ◌∷◌, ◌++◌, Some, None, refl, sym, ap, ◌∙◌, inl, inr, append-nil, arith}
use Rattle.std.proofs.lemmas.Bool.Decides.{nat_tests}
use Rattle.tokens.specs.Lexeme.{Lexeme}
use Rattle.fl_ast.specs.declared.kind.RelOp.{RelOp}
use Rattle.fl_ast.specs.declared.expr.Expr.{Expr}
use Rattle.fl_ast.specs.declared.expr.Cond.{Cond}
use Rattle.fl_ast.specs.declared.expr.Cond.TheVariants.{Rel, Not, And, Or, rolls-Rel, rolls-Not, rolls-And, rolls-Or}
use Rattle.fl_ast.specs.declared.expr.Cond.TheFolds.{fold-roll-Cond}
use Rattle.fl_ast.specs.declared.expr.Cond.TheOpen.{Cond-F}
use Rattle.fl_ast.specs.Tree.{Expression, Condition, relation, negation, conjunction, disjunction, cond_level, cond_tree, expr_tree}
use Rattle.fl_ast.specs.Measures.{depth, condition_depth}
use Rattle.parsing.specs.declared.symbol.Symbol.TheVariants as s
use Rattle.parsing.specs.Limit.{Limit}
use Rattle.parsing.specs.Reading.{Lexemes}
use Rattle.parsing.specs.Grammar.{Grammar}
use Rattle.parsing.specs.Terminal.{marked}
use Rattle.fl_expressions.specs.ExprGrammar.{expr}
use Rattle.fl_conditions.specs.declared.tree.Judged.{Judged}
use Rattle.fl_conditions.specs.Terminals.{rel_op, and_op, or_op}
use Rattle.fl_conditions.specs.Trees as trees
use Rattle.fl_conditions.specs.CondGrammar as g
use Rattle.fl_printed.specs.ReadBack.{IsReadAs}
use Rattle.printed_conditions.specs.Conditions.{IsJudgedAs}

tree-Rel : (o : RelOp) (l r : Expr) → cond_tree (Rel o l r) ≡ relation o (expr_tree l) (expr_tree r)
tree-Rel o l r = ap cond_tree (sym (rolls-Rel o l r)) ∙ fold-roll-Cond Condition cond_level (Cond-F.Rel o l r)

tree-Not : (c : Cond) → cond_tree (Not c) ≡ negation (cond_tree c)
tree-Not c = ap cond_tree (sym (rolls-Not c)) ∙ fold-roll-Cond Condition cond_level (Cond-F.Not c)

tree-And : (l r : Cond) → cond_tree (And l r) ≡ conjunction (cond_tree l) (cond_tree r)
tree-And l r = ap cond_tree (sym (rolls-And l r)) ∙ fold-roll-Cond Condition cond_level (Cond-F.And l r)

tree-Or : (l r : Cond) → cond_tree (Or l r) ≡ disjunction (cond_tree l) (cond_tree r)
tree-Or l r = ap cond_tree (sym (rolls-Or l r)) ∙ fold-roll-Cond Condition cond_level (Cond-F.Or l r)

le_true : (n m : ℕ) → n ≤ m → nat_le n m ≡ true
le_true n m h = grind (arith, nat_tests)

-- a tree that is shallow enough may stand left
joins : (d : ℕ) (m : Judged) (c : Condition) → m.levels + 1 ≡ condition_depth c → condition_depth c ≤ d + 1 → trees.may_join (Some d) m ≡ true
joins d m c h i = le_true m.levels d (omega (arith, h, i))

both_levels : (l r : Judged) (x y : Condition) → l.levels + 1 ≡ condition_depth x → r.levels + 1 ≡ condition_depth y → max l.levels r.levels + 1 + 1 ≡ max (condition_depth x) (condition_depth y) + 1
both_levels l r x y h i = omega (arith, h, i)

pub relation_rule : (b d : ℕ) (vs ws : Lexemes) (t : Lexeme) (o : RelOp) (x y : Expression) → IsReadAs (expr b (Some d)) vs x → rel_op t ≡ Some o → IsReadAs (expr b (Some d)) ws y →
    IsJudgedAs (g.relation b (Some d)) (vs ++ t ∷ ws) (relation o x y)
unfolding g.relation
relation_rule b d vs ws t o x y L p R = record {
  value = trees.related o L.value R.value;
  tree = tree-Rel o L.value.expr R.value.expr ∙ ap (λ u. relation o u (expr_tree R.value.expr)) L.tree ∙ ap (λ u. relation o x u) R.tree;
  levels = ap (λ n. max n R.value.depth + 1) L.levels ∙ ap (λ n. max (depth x) n + 1) R.levels;
  reads = (L.value, vs, t ∷ ws, L.reads, (o, t ∷ [], ws, (t, p, refl), (R.value, ws, [], R.reads, (refl, refl), sym (append-nil ws)), refl), refl);
}

module _ (b : ℕ) (ig : Limit → Grammar Judged) where
  abbrev pub Test : ℕ → Lexemes → Condition → Type 0
  Test d = IsJudgedAs (g.test b ig (Some d))

  abbrev pub Negation : ℕ → Lexemes → Condition → Type 0
  Negation d = IsJudgedAs (g.negation b ig (Some d))

  abbrev pub Conjunction : ℕ → Lexemes → Condition → Type 0
  Conjunction d = IsJudgedAs (g.conjunction b ig (Some d))

  abbrev pub Disjunction : ℕ → Lexemes → Condition → Type 0
  Disjunction d = IsJudgedAs (g.disjunction b ig (Some d))

  -- ---- from one level to the next

  pub test_of : (d : ℕ) (us : Lexemes) (c : Condition) → IsJudgedAs (g.relation b (Some d)) us c → Test d us c
  unfolding g.test
  test_of d us c R = record { value = R.value; tree = R.tree; levels = R.levels; reads = inr R.reads }

  pub negation_of : (d : ℕ) (us : Lexemes) (c : Condition) → Test d us c → Negation d us c
  unfolding g.negation
  negation_of d us c R = record { value = R.value; tree = R.tree; levels = R.levels; reads = inr R.reads }

  pub conjunction_of : (d : ℕ) (us : Lexemes) (c : Condition) → Negation d us c → Conjunction d us c
  unfolding g.conjunction g.ands_from
  conjunction_of d us c R = record { value = R.value; tree = R.tree; levels = R.levels; reads = (R.value, us, [], R.reads, (zero, (refl, refl)), sym (append-nil us)) }

  pub disjunction_of : (d : ℕ) (us : Lexemes) (c : Condition) → Conjunction d us c → Disjunction d us c
  unfolding g.disjunction g.ors_from
  disjunction_of d us c R = record { value = R.value; tree = R.tree; levels = R.levels; reads = (R.value, us, [], R.reads, (zero, (refl, refl)), sym (append-nil us)) }

  -- ---- operations

  pub bracket_rule : (d : ℕ) (us : Lexemes) (c : Condition) (t1 t2 : Lexeme) (l1 l2 : ℕ) → nat_lt 0 b ≡ true → IsJudgedAs (ig (Some d)) us c → marked s.Open t1 ≡ Some l1 → marked s.Close t2 ≡ Some l2 →
      Test d (t1 ∷ (us ++ t2 ∷ [])) c
  unfolding g.test g.bracketed
  bracket_rule d us c t1 t2 l1 l2 h R p q = record {
    value = R.value;
    tree = R.tree;
    levels = R.levels;
    reads = inl (h, (l1, t1 ∷ [], us ++ t2 ∷ [], (t1, p, refl), (R.value, us, t2 ∷ [], R.reads, (l2, t2 ∷ [], [], (t2, q, refl), (refl, refl), refl), refl), refl));
  }

  pub denial_rule : (d : ℕ) (us : Lexemes) (c : Condition) (t : Lexeme) (l : ℕ) → Test (d - 1) us c → 1 ≤ d → marked s.Not t ≡ Some l → Negation d (t ∷ us) (negation c)
  unfolding g.negation g.denied
  denial_rule d us c t l R h p = record {
    value = trees.denial R.value;
    tree = tree-Not R.value.cond ∙ ap negation R.tree;
    levels = ap (λ n. n + 1) R.levels;
    reads = inl (le_true 1 d h, (l, t ∷ [], us, (t, p, refl), (R.value, us, [], R.reads, (refl, refl), sym (append-nil us)), refl));
  }

  pub and_rule : (d : ℕ) (vs ws : Lexemes) (t : Lexeme) (x y : Condition) → Negation d vs x → condition_depth x ≤ d + 1 → and_op t ≡ Some tt → Negation (d - 1) ws y → Conjunction d (vs ++ t ∷ ws) (conjunction x y)
  unfolding g.conjunction g.ands_from
  and_rule d vs ws t x y L h p R = record {
    value = trees.both tt L.value R.value;
    tree = tree-And L.value.cond R.value.cond ∙ ap (λ u. conjunction u (cond_tree R.value.cond)) L.tree ∙ ap (conjunction x) R.tree;
    levels = both_levels L.value R.value x y L.levels R.levels;
    reads = (L.value, vs, t ∷ ws, L.reads, (1, (trees.both tt L.value R.value, t ∷ ws, [], (joins d L.value x L.levels h, (tt, t ∷ [], ws, (t, p, refl), (R.value, ws, [], R.reads, (refl, refl), sym (append-nil ws)), refl)), (refl, refl), sym (append-nil (t ∷ ws)))), refl);
  }

  pub or_rule : (d : ℕ) (vs ws : Lexemes) (t : Lexeme) (x y : Condition) → Conjunction d vs x → condition_depth x ≤ d + 1 → or_op t ≡ Some tt → Conjunction (d - 1) ws y → Disjunction d (vs ++ t ∷ ws) (disjunction x y)
  unfolding g.disjunction g.ors_from
  or_rule d vs ws t x y L h p R = record {
    value = trees.one_of tt L.value R.value;
    tree = tree-Or L.value.cond R.value.cond ∙ ap (λ u. disjunction u (cond_tree R.value.cond)) L.tree ∙ ap (disjunction x) R.tree;
    levels = both_levels L.value R.value x y L.levels R.levels;
    reads = (L.value, vs, t ∷ ws, L.reads, (1, (trees.one_of tt L.value R.value, t ∷ ws, [], (joins d L.value x L.levels h, (tt, t ∷ [], ws, (t, p, refl), (R.value, ws, [], R.reads, (refl, refl), sym (append-nil ws)), refl)), (refl, refl), sym (append-nil (t ∷ ws)))), refl);
  }
