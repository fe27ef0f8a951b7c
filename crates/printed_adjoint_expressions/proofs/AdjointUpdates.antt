-- The words of the value of an atomic update of an adjoint, whose left operands have no brackets, are read as it.
use Rattle.std.proofs.Common.{◌≡◌, ℕ, zero, suc, ◌+◌, ◌-◌, ◌≤◌, Bool, true, false, [], ◌∷◌, ◌++◌, Some, refl, sym, ap, subst, ◌∙◌, inr, append-nil, append_assoc, arith}
use Rattle.std.proofs.lemmas.Bool.{and_parts}
use Rattle.tokens.specs.Lexeme.{Lexeme}
use Rattle.fl_ast.specs.declared.kind.BinOp.{BinOp}
use Rattle.fl_ast.specs.declared.kind.BinOp.TheVariants as op
use Rattle.fl_ast.specs.AdjointTree.{AdjointExpression, adjoint_literal, adjoint_get, adjoint_minus, adjoint_binary, adjoint_power, adjoint_call, merge}
use Rattle.fl_ast.specs.ReadableAdjoint.{is_readable_adjoint, adjoint_depth}
use Rattle.parsing.specs.Limit.{Limit}
use Rattle.parsing.specs.Reading.{Lexemes}
use Rattle.parsing.specs.Grammar.{Grammar, times}
use Rattle.adjoint_expressions.specs.declared.tree.AMeasured.{AMeasured}
use Rattle.fl_expressions.specs.Terminals.{sum_op}
use Rattle.adjoint_expressions.specs.Trees as trees
use Rattle.adjoint_expressions.specs.AdjointGrammar as g
use Rattle.fl_printer.specs.Words.{adjoint_words, adjoint_sum_words}
use Rattle.fl_printed.proofs.Operators.{plus_op}
use Rattle.fl_printed.proofs.Lexed.{Lexed, first, parts}
use Rattle.printed_adjoint_expressions.specs.AdjointReadBack.{IsAdjointReadAs}
use Rattle.printed_adjoint_expressions.proofs.AdjointRules.{Term, Sum, term_of, factor_of, room, combined_tree, combined_levels}
use Rattle.printed_adjoint_expressions.proofs.ReadAdjoints.{Operand, Whole, expr_at, depth_some, read_back}

-- one step more at the end
times_more : {A : Type 0} (step : A → Grammar A) (n : ℕ) (left y x : A) (vs ws : Lexemes) → times step n left y vs → step y x ws → times step (suc n) left x (vs ++ ws)
times_more step zero left y x vs ws t m =
    (x, vs ++ ws, [], subst (λ v. step left x (v ++ ws)) (sym t.1) (subst (λ l. step l x ws) t.0 m), (refl, refl), sym (append-nil (vs ++ ws)))
times_more step (suc n) left y x vs ws (z, as', bs, s, t, e) m =
    (z, as', bs ++ ws, s, times_more step n z y x bs ws t m, ap (λ v. v ++ ws) e ∙ append_assoc as' bs ws)

module _ (b : ℕ) (ig : Limit → Grammar AMeasured) where
  abbrev Chain : ℕ → Lexemes → AdjointExpression → Type 0
  Chain d = IsAdjointReadAs (g.unsigned b ig (Some d))

  chain_of : (d : ℕ) (us : Lexemes) (e : AdjointExpression) → Term b ig d us e → Chain d us e
  unfolding g.unsigned g.terms_from
  chain_of d us e R = record { value = R.value; tree = R.tree; levels = R.levels; reads = (R.value, us, [], R.reads, (zero, (refl, refl)), sym (append-nil us)) }

  sum_of_chain : (d : ℕ) (us : Lexemes) (e : AdjointExpression) → Chain d us e → Sum b ig d us e
  unfolding g.sum
  sum_of_chain d us e R = record { value = R.value; tree = R.tree; levels = R.levels; reads = inr (inr R.reads) }

  more : (d : ℕ) (us ws : Lexemes) (t : Lexeme) (o : BinOp) (x y : AdjointExpression) → Chain d us x → adjoint_depth x ≤ d → sum_op t ≡ Some o → Term b ig (d - 1) ws y → Chain d (us ++ t ∷ ws) (adjoint_binary o x y)
  unfolding g.unsigned g.terms_from
  more d us ws t o x y L h p R = record {
    value = trees.binary o L.value R.value;
    tree = combined_tree b ig o L.value R.value x y L.tree R.tree;
    levels = combined_levels b ig L.value R.value x y L.levels R.levels;
    reads = (
      L.reads.0,
      L.reads.1,
      L.reads.2 ++ t ∷ ws,
      L.reads.3,
      (
        suc L.reads.4.0,
        times_more _ L.reads.4.0 L.reads.0 L.value (trees.binary o L.value R.value) L.reads.2 (t ∷ ws) L.reads.4.1
            (room d L.value x L.levels h, (o, t ∷ [], ws, (t, p, refl), (R.value, ws, [], R.reads, (refl, refl), sym (append-nil ws)), refl)),
      ),
      ap (λ v. v ++ t ∷ ws) L.reads.5 ∙ append_assoc L.reads.1 L.reads.2 (t ∷ ws),
    );
  }

-- ---- the law

abbrev ChainAt : ℕ → ℕ → Lexemes → AdjointExpression → Type 0
ChainAt b = Chain b (g.adjoint_below b)

term_at : (b d : ℕ) (us : Lexemes) (e : AdjointExpression) → Operand b d us e → Term b (g.adjoint_below b) d us e
term_at b d us e R = term_of b (g.adjoint_below b) d us e (factor_of b (g.adjoint_below b) d us e R)

operand_chain : (e : AdjointExpression) → is_readable_adjoint e ≡ true → (b d : ℕ) → adjoint_depth e ≤ b + 1 → adjoint_depth e ≤ d + 1 → (blank : Bool) (us : Lexemes) → Lexed us (adjoint_words true blank e) → ChainAt b d us e
operand_chain e r b d i j blank us l = chain_of b (g.adjoint_below b) d us e (term_at b d us e ((read_back e r b d i j blank us).1 l))

-- a left operand
chain_back : (e : AdjointExpression) → is_readable_adjoint e ≡ true → (b d : ℕ) → adjoint_depth e ≤ b + 1 → adjoint_depth e ≤ d + 1 → (blank : Bool) (us : Lexemes) → Lexed us (adjoint_sum_words true blank e) → ChainAt b d us e
chain_back (adjoint_binary op.Add x y) r b d i j blank us l =
    let p = and_parts (is_readable_adjoint x) (is_readable_adjoint y) r in
    let some_x = depth_some x in
    parts us (adjoint_sum_words true blank x) _ (λ v. ChainAt b d v (adjoint_binary op.Add x y)) l (λ vs rest q m.
    first rest _ _ (λ v. ChainAt b d (vs ++ v) (adjoint_binary op.Add x y)) m (λ t ws c n.
    more b (g.adjoint_below b) d vs ws t op.Add x y (chain_back x p.0 b d (omega (arith, i)) (omega (arith, j)) blank vs q) (omega (arith, j)) (plus_op t c)
    (term_at b (d - 1) ws y ((read_back y p.1 b (d - 1) (omega (arith, i)) (omega (arith, j, some_x)) false ws).1 n))))
chain_back (adjoint_binary op.Sub x y) r b d i j blank us l = operand_chain (adjoint_binary op.Sub x y) r b d i j blank us l
chain_back (adjoint_binary op.Mul x y) r b d i j blank us l = operand_chain (adjoint_binary op.Mul x y) r b d i j blank us l
chain_back (adjoint_binary op.Div x y) r b d i j blank us l = operand_chain (adjoint_binary op.Div x y) r b d i j blank us l
chain_back (adjoint_literal n k) r b d i j blank us l = operand_chain (adjoint_literal n k) r b d i j blank us l
chain_back (adjoint_get x) r b d i j blank us l = operand_chain (adjoint_get x) r b d i j blank us l
chain_back (adjoint_minus a) r b d i j blank us l = operand_chain (adjoint_minus a) r b d i j blank us l
chain_back (adjoint_power a n) r b d i j blank us l = operand_chain (adjoint_power a n) r b d i j blank us l
chain_back (adjoint_call f s) r b d i j blank us l = operand_chain (adjoint_call f s) r b d i j blank us l
chain_back (merge x y c) r b d i j blank us l = operand_chain (merge x y c) r b d i j blank us l

whole_back : (e : AdjointExpression) → is_readable_adjoint e ≡ true → (b d : ℕ) → adjoint_depth e ≤ b + 1 → adjoint_depth e ≤ d + 1 → (blank : Bool) (us : Lexemes) → Lexed us (adjoint_words false blank e) → Whole b d us e
whole_back e r b d i j blank us l = (read_back e r b d i j blank us).0 l

-- the whole value; a sum is the same as a left operand
update_back : (e : AdjointExpression) → is_readable_adjoint e ≡ true → (b d : ℕ) → adjoint_depth e ≤ b + 1 → adjoint_depth e ≤ d + 1 → (blank : Bool) (us : Lexemes) → Lexed us (adjoint_sum_words false blank e) → Whole b d us e
update_back (adjoint_binary op.Add x y) r b d i j blank us l = sum_of_chain b (g.adjoint_below b) d us (adjoint_binary op.Add x y) (chain_back (adjoint_binary op.Add x y) r b d i j blank us l)
update_back (adjoint_binary op.Sub x y) r b d i j blank us l = whole_back (adjoint_binary op.Sub x y) r b d i j blank us l
update_back (adjoint_binary op.Mul x y) r b d i j blank us l = whole_back (adjoint_binary op.Mul x y) r b d i j blank us l
update_back (adjoint_binary op.Div x y) r b d i j blank us l = whole_back (adjoint_binary op.Div x y) r b d i j blank us l
update_back (adjoint_literal n k) r b d i j blank us l = whole_back (adjoint_literal n k) r b d i j blank us l
update_back (adjoint_get x) r b d i j blank us l = whole_back (adjoint_get x) r b d i j blank us l
update_back (adjoint_minus a) r b d i j blank us l = whole_back (adjoint_minus a) r b d i j blank us l
update_back (adjoint_power a n) r b d i j blank us l = whole_back (adjoint_power a n) r b d i j blank us l
update_back (adjoint_call f s) r b d i j blank us l = whole_back (adjoint_call f s) r b d i j blank us l
update_back (merge x y c) r b d i j blank us l = whole_back (merge x y c) r b d i j blank us l

pub adjoint_update_read : (e : AdjointExpression) (b d : ℕ) (blank : Bool) (us : Lexemes) → is_readable_adjoint e ≡ true → adjoint_depth e ≤ b + 1 → adjoint_depth e ≤ d + 1 → Lexed us (adjoint_sum_words false blank e)
    → IsAdjointReadAs (g.adjoint_expr b (Some d)) us e
adjoint_update_read e b d blank us r i j l = expr_at b d us e (update_back e r b d i j blank us l)
