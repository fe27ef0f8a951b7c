-- The words of the value of an atomic update, whose left operands have no brackets, are read as it.
use Rattle.std.proofs.Common.{◌≡◌, ℕ, zero, suc, ◌+◌, ◌-◌, ◌≤◌, max, Bool, true, false, nat_lt, List, [], ◌∷◌, ◌++◌, Some, refl, sym, ap, subst, ◌∙◌, inl, inr, append-nil, append_assoc, arith}
use Rattle.std.specs.Prelude.{codes, nat_le}
use Rattle.std.proofs.lemmas.Bool.{and_parts}
use Rattle.std.proofs.lemmas.Bool.Decides.{nat_tests}
use Rattle.tokens.specs.Lexeme.{Lexeme}
use Rattle.fl_ast.specs.declared.kind.BinOp.{BinOp}
use Rattle.fl_ast.specs.declared.kind.BinOp.TheVariants as op
use Rattle.fl_ast.specs.Tree.{Expression, literal, get, minus, binary, power, call}
use Rattle.fl_ast.specs.Measures.{depth}
use Rattle.fl_ast.specs.Readable.{is_readable}
use Rattle.parsing.specs.Limit.{Limit}
use Rattle.parsing.specs.Reading.{Lexemes}
use Rattle.parsing.specs.Grammar.{Grammar, times}
use Rattle.fl_expressions.specs.declared.tree.Measured.{Measured}
use Rattle.fl_expressions.specs.Terminals.{sum_op}
use Rattle.fl_expressions.specs.Trees as trees
use Rattle.fl_expressions.specs.ExprGrammar as g
use Rattle.fl_printer.specs.Words.{joined, expression_words, sum_words}
use Rattle.fl_printer.proofs.Tokens.{Class, Calm}
use Rattle.fl_printer.proofs.Flow.{ready, sum_flows}
use Rattle.fl_printed.specs.ReadBack.{AreOf, IsReadAs}
use Rattle.fl_printed.proofs.Operators.{plus_op}
use Rattle.fl_printed.proofs.Lexed.{Lexed, first, parts, lexed}
use Rattle.fl_printed.proofs.ExpressionRules.{Term, Sum, term_of, factor_of, room, combined_tree, combined_levels}
use Rattle.fl_printed.proofs.ReadExpressions.{Operand, Whole, expr_at, depth_some, read_back}

-- one step more at the end
times_more : {A : Type 0} (step : A → Grammar A) (n : ℕ) (left y x : A) (vs ws : Lexemes) → times step n left y vs → step y x ws → times step (suc n) left x (vs ++ ws)
times_more step zero left y x vs ws t m =
    (x, vs ++ ws, [], subst (λ v. step left x (v ++ ws)) (sym t.1) (subst (λ l. step l x ws) t.0 m), (refl, refl), sym (append-nil (vs ++ ws)))
times_more step (suc n) left y x vs ws (z, as', bs, s, t, e) m =
    (z, as', bs ++ ws, s, times_more step n z y x bs ws t m, ap (λ v. v ++ ws) e ∙ append_assoc as' bs ws)

module _ (open_ : Bool) (ig : Limit → Grammar Measured) where
  abbrev Chain : ℕ → Lexemes → Expression → Type 0
  Chain d = IsReadAs (g.unsigned open_ ig (Some d))

  chain_of : (d : ℕ) (us : Lexemes) (e : Expression) → Term open_ ig d us e → Chain d us e
  unfolding g.unsigned g.terms_from
  chain_of d us e R = record { value = R.value; tree = R.tree; levels = R.levels; reads = (R.value, us, [], R.reads, (zero, (refl, refl)), sym (append-nil us)) }

  sum_of_chain : (d : ℕ) (us : Lexemes) (e : Expression) → Chain d us e → Sum open_ ig d us e
  unfolding g.sum
  sum_of_chain d us e R = record { value = R.value; tree = R.tree; levels = R.levels; reads = inr (inr R.reads) }

  more : (d : ℕ) (us ws : Lexemes) (t : Lexeme) (o : BinOp) (x y : Expression) → Chain d us x → depth x ≤ d → sum_op t ≡ Some o → Term open_ ig (d - 1) ws y → Chain d (us ++ t ∷ ws) (binary o x y)
  unfolding g.unsigned g.terms_from
  more d us ws t o x y L h p R = record {
    value = trees.binary o L.value R.value;
    tree = combined_tree open_ ig o L.value R.value x y L.tree R.tree;
    levels = combined_levels open_ ig L.value R.value x y L.levels R.levels;
    reads = (
      L.reads.0,
      L.reads.1,
      L.reads.2 ++ t ∷ ws,
      L.reads.3,
      (
        suc L.reads.4.0,
        times_more _ L.reads.4.0 L.reads.0 L.value (trees.binary o L.value R.value) L.reads.2 (t ∷ ws) L.reads.4.1
            (room d L.value x L.levels h, (o, t ∷ [], ws, (t, p, refl), (R.value, ws, [], R.reads, (refl, refl), sym (append-nil ws)), refl)),
      ),
      ap (λ v. v ++ t ∷ ws) L.reads.5 ∙ append_assoc L.reads.1 L.reads.2 (t ∷ ws),
    );
  }

-- ---- the law

abbrev ChainAt : ℕ → ℕ → Lexemes → Expression → Type 0
ChainAt b = Chain (nat_lt 0 b) (g.below b)

term_at : (b d : ℕ) (us : Lexemes) (e : Expression) → Operand b d us e → Term (nat_lt 0 b) (g.below b) d us e
term_at b d us e R = term_of (nat_lt 0 b) (g.below b) d us e (factor_of (nat_lt 0 b) (g.below b) d us e R)

operand_chain : (e : Expression) → is_readable e ≡ true → (b d : ℕ) → depth e ≤ b + 1 → depth e ≤ d + 1 → (blank : Bool) (us : Lexemes) → Lexed us (expression_words true blank e) → ChainAt b d us e
operand_chain e r b d i j blank us l = chain_of (nat_lt 0 b) (g.below b) d us e (term_at b d us e ((read_back e r b d i j blank us).1 l))

-- a left operand
chain_back : (e : Expression) → is_readable e ≡ true → (b d : ℕ) → depth e ≤ b + 1 → depth e ≤ d + 1 → (blank : Bool) (us : Lexemes) → Lexed us (sum_words true blank e) → ChainAt b d us e
chain_back (binary op.Add x y) r b d i j blank us l =
    let p = and_parts (is_readable x) (is_readable y) r in
    let some_x = depth_some x in
    parts us (sum_words true blank x) _ (λ v. ChainAt b d v (binary op.Add x y)) l (λ vs rest q m.
    first rest _ _ (λ v. ChainAt b d (vs ++ v) (binary op.Add x y)) m (λ t ws c n.
    more (nat_lt 0 b) (g.below b) d vs ws t op.Add x y (chain_back x p.0 b d (omega (arith, i)) (omega (arith, j)) blank vs q) (omega (arith, j)) (plus_op t c)
    (term_at b (d - 1) ws y ((read_back y p.1 b (d - 1) (omega (arith, i)) (omega (arith, j, some_x)) false ws).1 n))))
chain_back (binary op.Sub x y) r b d i j blank us l = operand_chain (binary op.Sub x y) r b d i j blank us l
chain_back (binary op.Mul x y) r b d i j blank us l = operand_chain (binary op.Mul x y) r b d i j blank us l
chain_back (binary op.Div x y) r b d i j blank us l = operand_chain (binary op.Div x y) r b d i j blank us l
chain_back (literal n k) r b d i j blank us l = operand_chain (literal n k) r b d i j blank us l
chain_back (get x s) r b d i j blank us l = operand_chain (get x s) r b d i j blank us l
chain_back (minus a) r b d i j blank us l = operand_chain (minus a) r b d i j blank us l
chain_back (power a n) r b d i j blank us l = operand_chain (power a n) r b d i j blank us l
chain_back (call f s) r b d i j blank us l = operand_chain (call f s) r b d i j blank us l

whole_back : (e : Expression) → is_readable e ≡ true → (b d : ℕ) → depth e ≤ b + 1 → depth e ≤ d + 1 → (blank : Bool) (us : Lexemes) → Lexed us (expression_words false blank e) → Whole b d us e
whole_back e r b d i j blank us l = (read_back e r b d i j blank us).0 l

-- the whole value; a sum is the same as a left operand
update_back : (e : Expression) → is_readable e ≡ true → (b d : ℕ) → depth e ≤ b + 1 → depth e ≤ d + 1 → (blank : Bool) (us : Lexemes) → Lexed us (sum_words false blank e) → Whole b d us e
update_back (binary op.Add x y) r b d i j blank us l = sum_of_chain (nat_lt 0 b) (g.below b) d us (binary op.Add x y) (chain_back (binary op.Add x y) r b d i j blank us l)
update_back (binary op.Sub x y) r b d i j blank us l = whole_back (binary op.Sub x y) r b d i j blank us l
update_back (binary op.Mul x y) r b d i j blank us l = whole_back (binary op.Mul x y) r b d i j blank us l
update_back (binary op.Div x y) r b d i j blank us l = whole_back (binary op.Div x y) r b d i j blank us l
update_back (literal n k) r b d i j blank us l = whole_back (literal n k) r b d i j blank us l
update_back (get x s) r b d i j blank us l = whole_back (get x s) r b d i j blank us l
update_back (minus a) r b d i j blank us l = whole_back (minus a) r b d i j blank us l
update_back (power a n) r b d i j blank us l = whole_back (power a n) r b d i j blank us l
update_back (call f s) r b d i j blank us l = whole_back (call f s) r b d i j blank us l

calm_ready : (blank : Bool) → ready blank Calm ≡ true
calm_ready true = refl
calm_ready false = refl

pub update_read : (e : Expression) (b d : ℕ) (blank : Bool) (us : Lexemes) → is_readable e ≡ true → depth e ≤ b + 1 → depth e ≤ d + 1 → Lexed us (sum_words false blank e) → IsReadAs (g.expr b (Some d)) us e
update_read e b d blank us r i j l = expr_at b d us e (update_back e r b d i j blank us l)

pub updates_read : (e : Expression) (blank : Bool) (b d : ℕ) (us : Lexemes) → is_readable e ≡ true → depth e ≤ b + 1 → depth e ≤ d + 1 → AreOf us (sum_words false blank e) → IsReadAs (g.expr b (Some d)) us e
updates_read e blank b d us r i j l =
    let f = sum_flows e r false blank Calm (calm_ready blank) in
    update_read e b d blank us r i j (lexed us (sum_words false blank e) Calm f.to f.flow l)
