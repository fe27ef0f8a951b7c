-- The lines of an adjoint's readable statements are read as them.
use Rattle.std.proofs.Common.{◌≡◌, ℕ, ◌≤◌, Bool, true, false, ◌&&◌, nat_lt, List, [], ◌∷◌, ◌++◌, map, Option, Some, None, refl, sym, ap, subst, ◌∙◌, inl, inr, append-nil, append_assoc, arith}
use Rattle.std.specs.Prelude.{codes}
use Rattle.std.proofs.lemmas.Bool.{and_from}
use Rattle.std.proofs.lemmas.Bool.Decides.{nat_tests}
use Rattle.tokens.specs.declared.TokenKind.TheVariants.{Word as word_kind}
use Rattle.tokens.specs.Lexeme.{Lexeme}
use Rattle.fl_ast.specs.Tree.{Expression, no_expressions, expression, Expressions, Designator, Condition, expr_tree, place_tree, step_tree}
use Rattle.fl_ast.specs.AdjointTree.{AdjointExpression, AdjointStatement, adjoint_assignment, push, pop, begin_tapes, end_tapes, no_adjoint_statements, adjoint_statement}
use Rattle.fl_ast.specs.Measures.{depth, deepest, condition_depth, step_depth}
use Rattle.fl_ast.specs.Readable.{is_variable, is_readable, are_readable, is_readable_condition, is_readable_step}
use Rattle.fl_ast.specs.ReadableAdjoint.{is_readable_adjoint, adjoint_depth, is_readable_adjoint_statement, adjoint_block_depth}
use Rattle.fl_ast.specs.declared.expr.Expr.{Expr}
use Rattle.parsing.specs.declared.symbol.Symbol.TheVariants as s
use Rattle.parsing.specs.declared.cursor.Word.{Word}
use Rattle.parsing.specs.Reading.{Lexemes}
use Rattle.parsing.specs.Symbol.{symbol_by}
use Rattle.parsing.specs.Terminal.{marked}
use Rattle.fl_lexer.specs.Pieces.{piece_of}
use Rattle.fl_expressions.specs.declared.tree.Measured.{Measured}
use Rattle.fl_expressions.specs.ExprGrammar.{expr, below, subscripts}
use Rattle.adjoint_expressions.specs.AdjointGrammar.{adjoint_expr}
use Rattle.fl_statements.specs.declared.block.Target.{Target}
use Rattle.fl_statements.specs.Limits.{Limits}
use Rattle.fl_statements.specs.Trees.{scalar_target, element_target, loop_line_of}
use Rattle.fl_statements.specs.StmtGrammar as plain
use Rattle.adjoint_statements.specs.declared.block.Block.{Block}
use Rattle.adjoint_statements.specs.Rooms.{the_limits}
use Rattle.adjoint_statements.specs.AdjointStmtGrammar as g
use Rattle.fl_printer.specs.Words.{joined, apart, expression_words, subscript_words, condition_words}
use Rattle.fl_printer.specs.Rows.{adjoint_value_words, adjoint_assign_words, adjoint_assign_row, push_words, pop_words, open_words, call_words, close_bracket, step_words, variable_words, bounds_words, adjoint_rows}
use Rattle.fl_printer.specs.Lexemes.{unplaced, words_lexemes, end_lexeme}
use Rattle.fl_printer.proofs.Tokens.{Calm}
use Rattle.fl_printer.proofs.Flow.{Runs, closed, join, calm, bracket, open_token, condition_flows}
use Rattle.fl_printer.proofs.Lines.{IsRow, AreRows}
use Rattle.fl_printer.proofs.Units.{loop_is}
use Rattle.fl_printer.proofs.AdjointUnits.{block_is}
use Rattle.fl_printed.specs.Fits.{Fits}
use Rattle.fl_printed.specs.ReadBack.{AreOf, IsReadAs, AreReadAs}
use Rattle.fl_printed.proofs.Folded.{place-of}
use Rattle.fl_printed.proofs.Spelled.{symbol_is, marked_is, name_read}
use Rattle.fl_printed.proofs.Signs.{open_read, close_read, comma_read}
use Rattle.fl_printed.proofs.Lexed.{Lexed, first, none, parts, lexed}
use Rattle.fl_printed.proofs.ReadExpressions.{whole_read, subscripts_back, all_read_back}
use Rattle.printed_clauses.proofs.ReadDirectives.{last, end_read}
use Rattle.printed_conditions.proofs.ReadConditions.{condition_read}
use Rattle.printed_statements.proofs.Marks.{equals_read, do_read}
use Rattle.printed_adjoint_expressions.specs.AdjointReadBack.{IsAdjointReadAs}
use Rattle.printed_adjoint_expressions.proofs.ReadAdjoints.{adjoint_read}
use Rattle.printed_adjoint_expressions.proofs.AdjointUpdates.{adjoint_update_read}
use Rattle.printed_adjoint_lines.specs.AdjointLines.{IsAssigned, IsPushed, IsPopped, IsBegun, IsFinished, HasLoopLine, IsGuard}

-- ---- expressions within the limits of adjoints

value_read : (atomic : Bool) (e : AdjointExpression) (us : Lexemes) → is_readable_adjoint e ≡ true → adjoint_depth e ≤ 256 → Lexed us (adjoint_value_words atomic e) → IsAdjointReadAs (adjoint_expr 256 (Some 255)) us e
value_read true e us h i l = adjoint_update_read e 256 255 true us h (omega (arith, i)) i l
value_read false e us h i l = adjoint_read e 256 255 true us h (omega (arith, i)) i l

-- ---- assignments

-- with so many brackets to open
abbrev limits_with : ℕ → Limits
limits_with b = record { brackets = b; depth = Some 256; blocks = 256; statements = None; names = None; once = true }

record IsTarget (b : ℕ) (us : Lexemes) (x : Word) (xs : Expressions) : Type 0 where
  pub to : Target
  pub place : place_tree to.place ≡ record { name = x.name; subscripts = xs }
  pub reads : plain.after_target (limits_with b) x to us

some_brackets : (b : ℕ) → 1 ≤ b → nat_lt 0 b ≡ true
some_brackets b h = grind (arith, nat_tests)

target_read : (b : ℕ) (x : Word) (xs : Expressions) (us : Lexemes) → 1 ≤ b → b ≤ 256 → are_readable xs ≡ true → deepest xs ≤ b → Lexed us (subscript_words xs) → IsTarget b us x xs
unfolding plain.after_target plain.indexed_target
target_read b x no_expressions us m n h i l =
    none us (λ v. IsTarget b v x no_expressions) l (record { to = scalar_target x; place = place-of x.name []; reads = inr (refl, refl) })
target_read b x (expression y ys) us m n h i l =
    let R : AreReadAs (subscripts (nat_lt 0 b) (below b) (Some 255)) us (expression y ys) = subscripts_back y ys (all_read_back (expression y ys)) h b 255 i (omega (arith, i, n)) us l in
    record {
      to = element_target x R.value;
      place = place-of x.name R.value.exprs ∙ ap (λ s. record { name = x.name; subscripts = s }) R.trees;
      reads = inl (some_brackets b m, (R.value, us, [], R.reads, (refl, refl), sym (append-nil us)));
    }

pub assignment_read : (atomic : Bool) (target : Designator) (value : AdjointExpression) (c : Block) (us : Lexemes) (e : Lexeme) → is_variable target.name ≡ true → are_readable target.subscripts ≡ true → is_readable_adjoint value ≡ true →
    deepest target.subscripts ≤ 256 → adjoint_depth value ≤ 256 → Lexed us (adjoint_assign_words atomic target value) → unplaced e ≡ end_lexeme → IsAssigned atomic c (us ++ e ∷ []) target value
unfolding g.assign g.assign_to g.right_side
assignment_read atomic target value c us e h i j k m l n =
    first us _ _ (λ v. IsAssigned atomic c (v ++ e ∷ []) target value) l (λ t1 rest p q.
    parts rest (subscript_words target.subscripts) _ (λ v. IsAssigned atomic c ((t1 ∷ v) ++ e ∷ []) target value) q (λ vs more o r.
    first more _ _ (λ v. IsAssigned atomic c ((t1 ∷ (vs ++ v)) ++ e ∷ []) target value) r (λ t2 ws u w.
    let x : Word = record { line = t1.line; name = target.name } in
    let T = target_read 256 x target.subscripts vs (omega arith) (omega arith) i k o in
    let R = value_read atomic value ws j m w in
    subst (λ (v : Lexemes). IsAssigned atomic c (t1 ∷ v) target value) (sym (append_assoc vs (t2 ∷ ws) (e ∷ [])))
    (record {
      to = T.to;
      right = R.value;
      place = T.place;
      tree = R.tree;
      reads = (
        x,
        t1 ∷ [],
        vs ++ t2 ∷ (ws ++ e ∷ []),
        (t1, name_read t1 target.name h p, refl),
        (
          T.to,
          vs,
          t2 ∷ (ws ++ e ∷ []),
          T.reads,
          (
            R.value,
            t2 ∷ (ws ++ e ∷ []),
            [],
            (t2.line, t2 ∷ [], ws ++ e ∷ [], (t2, equals_read t2 u, refl), (R.value, ws, e ∷ [], R.reads, (e.line, e ∷ [], [], (e, end_read e n, refl), (refl, refl), refl), refl), refl),
            (refl, refl),
            sym (append-nil (t2 ∷ (ws ++ e ∷ []))),
          ),
          refl,
        ),
        refl,
      );
    }))))

-- ---- words of calls

call_read : (t : Lexeme) → Fits t (codes "call") → marked s.Call t ≡ Some t.line
unfolding piece_of symbol_by
call_read t f = marked_is s.Call s.Call t refl (symbol_is t (codes "call") word_kind (codes "call") refl f)

push_word_read : (t : Lexeme) → Fits t (codes "formad_push") → marked s.FormadPush t ≡ Some t.line
unfolding piece_of symbol_by
push_word_read t f = marked_is s.FormadPush s.FormadPush t refl (symbol_is t (codes "formad_push") word_kind (codes "formad_push") refl f)

pop_word_read : (t : Lexeme) → Fits t (codes "formad_pop") → marked s.FormadPop t ≡ Some t.line
unfolding piece_of symbol_by
pop_word_read t f = marked_is s.FormadPop s.FormadPop t refl (symbol_is t (codes "formad_pop") word_kind (codes "formad_pop") refl f)

open_word_read : (t : Lexeme) → Fits t (codes "formad_open") → marked s.FormadOpen t ≡ Some t.line
unfolding piece_of symbol_by
open_word_read t f = marked_is s.FormadOpen s.FormadOpen t refl (symbol_is t (codes "formad_open") word_kind (codes "formad_open") refl f)

close_word_read : (t : Lexeme) → Fits t (codes "formad_close") → marked s.FormadClose t ≡ Some t.line
unfolding piece_of symbol_by
close_word_read t f = marked_is s.FormadClose s.FormadClose t refl (symbol_is t (codes "formad_close") word_kind (codes "formad_close") refl f)

-- ---- calls of the tape

argument_read : (e : Expression) (blank : Bool) (us : Lexemes) → is_readable e ≡ true → depth e ≤ 256 → Lexed us (expression_words false blank e) → IsReadAs (expr 255 (Some 255)) us e
argument_read e blank us h i l = whole_read e 255 255 blank us h i i l

-- the key in front, behind the word of the call
record HasKey (us : Lexemes) (key : Expression) : Type 0 where
  under : Measured
  tree : expr_tree under.expr ≡ key
  reads : g.key the_limits under us

key_read : (key : Expression) (t1 t2 : Lexeme) (us : Lexemes) → IsReadAs (expr 255 (Some 255)) us key → marked s.Open t1 ≡ Some t1.line → marked s.Comma t2 ≡ Some t2.line → HasKey (t1 ∷ (us ++ t2 ∷ [])) key
unfolding g.key
key_read key t1 t2 us R p q = record {
  under = R.value;
  tree = R.tree;
  reads = (t1.line, t1 ∷ [], us ++ t2 ∷ [], (t1, p, refl), (R.value, us, t2 ∷ [], R.reads, (t2.line, t2 ∷ [], [], (t2, q, refl), (refl, refl), refl), refl), refl);
}

ending_reads : (t e : Lexeme) → marked s.Close t ≡ Some t.line → marked s.LineEnd e ≡ Some e.line → g.call_end e.line (t ∷ e ∷ [])
unfolding g.call_end
ending_reads t e p q = (t.line, t ∷ [], e ∷ [], (t, p, refl), (e, q, refl), refl)

pub push_read : (key value : Expression) (c : Block) (us : Lexemes) (e : Lexeme) → is_readable key ≡ true → is_readable value ≡ true → depth key ≤ 256 → depth value ≤ 256 → Lexed us (push_words key value)
    → unplaced e ≡ end_lexeme → IsPushed c (us ++ e ∷ []) key value
unfolding g.call g.called g.push g.last_argument
push_read key value c us e h i j k l n =
    let Goal : Lexemes → Type 0 = λ v. IsPushed c (v ++ e ∷ []) key value in
    first us _ _ Goal l (λ t1 w1 c1 l1.
    first w1 _ _ (λ v. Goal (t1 ∷ v)) l1 (λ t2 w2 c2 l2.
    first w2 _ _ (λ v. Goal (t1 ∷ t2 ∷ v)) l2 (λ t3 w3 c3 l3.
    parts w3 (expression_words false false key) _ (λ v. Goal (t1 ∷ t2 ∷ t3 ∷ v)) l3 (λ ks w4 c4 l4.
    first w4 _ _ (λ v. Goal (t1 ∷ t2 ∷ t3 ∷ (ks ++ v))) l4 (λ t5 w5 c5 l5.
    parts w5 (expression_words false true value) _ (λ v. Goal (t1 ∷ t2 ∷ t3 ∷ (ks ++ t5 ∷ v))) l5 (λ vs w6 c6 l6.
    first w6 _ _ (λ v. Goal (t1 ∷ t2 ∷ t3 ∷ (ks ++ t5 ∷ (vs ++ v)))) l6 (λ t7 w7 c7 l7.
    none w7 (λ v. Goal (t1 ∷ t2 ∷ t3 ∷ (ks ++ t5 ∷ (vs ++ t7 ∷ v)))) l7
    (let K = key_read key t3 t5 ks (argument_read key false ks h j c4) (open_read t3 c3) (comma_read t5 c5) in
    let V = argument_read value true vs i k c6 in
    subst (λ (v : Lexemes). IsPushed c (t1 ∷ t2 ∷ t3 ∷ v) key value) (sym (regroup ks vs t5 t7))
    (record {
      line = t1.line;
      under = K.under;
      word = V.value;
      key_tree = K.tree;
      tree = V.tree;
      reads = (
        t1.line,
        t1 ∷ [],
        t2 ∷ ((t3 ∷ (ks ++ t5 ∷ [])) ++ (vs ++ t7 ∷ e ∷ [])),
        (t1, call_read t1 c1, refl),
        inl (
          t2.line,
          t2 ∷ [],
          (t3 ∷ (ks ++ t5 ∷ [])) ++ (vs ++ t7 ∷ e ∷ []),
          (t2, push_word_read t2 c2, refl),
          (
            K.under,
            t3 ∷ (ks ++ t5 ∷ []),
            vs ++ t7 ∷ e ∷ [],
            K.reads,
            (
              V.value,
              vs ++ t7 ∷ e ∷ [],
              [],
              (V.value, vs, t7 ∷ e ∷ [], V.reads, (e.line, t7 ∷ e ∷ [], [], ending_reads t7 e (close_read t7 c7) (end_read e n), (refl, refl), refl), refl),
              (refl, refl),
              sym (append-nil (vs ++ t7 ∷ e ∷ [])),
            ),
            refl,
          ),
          refl,
        ),
        refl,
      );
    })))))))))
  where
    regroup : (ks vs : Lexemes) (t5 t7 : Lexeme) → (ks ++ t5 ∷ (vs ++ t7 ∷ [])) ++ e ∷ [] ≡ (ks ++ t5 ∷ []) ++ (vs ++ t7 ∷ e ∷ [])
    regroup ks vs t5 t7 = simp append_assoc

pub pop_read : (key : Expression) (target : Designator) (c : Block) (us : Lexemes) (e : Lexeme) → is_readable key ≡ true → is_variable target.name ≡ true → are_readable target.subscripts ≡ true → depth key ≤ 256
    → deepest target.subscripts ≤ 255 → Lexed us (pop_words key target) → unplaced e ≡ end_lexeme → IsPopped c (us ++ e ∷ []) key target
unfolding g.call g.called g.pop g.last_place
pop_read key target c us e h i j k m l n =
    let Goal : Lexemes → Type 0 = λ v. IsPopped c (v ++ e ∷ []) key target in
    first us _ _ Goal l (λ t1 w1 c1 l1.
    first w1 _ _ (λ v. Goal (t1 ∷ v)) l1 (λ t2 w2 c2 l2.
    first w2 _ _ (λ v. Goal (t1 ∷ t2 ∷ v)) l2 (λ t3 w3 c3 l3.
    parts w3 (expression_words false false key) _ (λ v. Goal (t1 ∷ t2 ∷ t3 ∷ v)) l3 (λ ks w4 c4 l4.
    first w4 _ _ (λ v. Goal (t1 ∷ t2 ∷ t3 ∷ (ks ++ v))) l4 (λ t5 w5 c5 l5.
    first w5 _ _ (λ v. Goal (t1 ∷ t2 ∷ t3 ∷ (ks ++ t5 ∷ v))) l5 (λ t6 w6 c6 l6.
    parts w6 (subscript_words target.subscripts) _ (λ v. Goal (t1 ∷ t2 ∷ t3 ∷ (ks ++ t5 ∷ t6 ∷ v))) l6 (λ vs w7 c7 l7.
    first w7 _ _ (λ v. Goal (t1 ∷ t2 ∷ t3 ∷ (ks ++ t5 ∷ t6 ∷ (vs ++ v)))) l7 (λ t8 w8 c8 l8.
    none w8 (λ v. Goal (t1 ∷ t2 ∷ t3 ∷ (ks ++ t5 ∷ t6 ∷ (vs ++ t8 ∷ v)))) l8
    (let K = key_read key t3 t5 ks (argument_read key false ks h k c4) (open_read t3 c3) (comma_read t5 c5) in
    let x : Word = record { line = t6.line; name = target.name } in
    let T = target_read 255 x target.subscripts vs (omega arith) (omega arith) j m c7 in
    subst (λ (v : Lexemes). IsPopped c (t1 ∷ t2 ∷ t3 ∷ v) key target) (sym (regroup ks vs t5 t6 t8))
    (record {
      line = t1.line;
      under = K.under;
      to = T.to;
      key_tree = K.tree;
      place = T.place;
      reads = (
        t1.line,
        t1 ∷ [],
        t2 ∷ ((t3 ∷ (ks ++ t5 ∷ [])) ++ (t6 ∷ (vs ++ t8 ∷ e ∷ []))),
        (t1, call_read t1 c1, refl),
        inr (inl (
          t2.line,
          t2 ∷ [],
          (t3 ∷ (ks ++ t5 ∷ [])) ++ (t6 ∷ (vs ++ t8 ∷ e ∷ [])),
          (t2, pop_word_read t2 c2, refl),
          (
            K.under,
            t3 ∷ (ks ++ t5 ∷ []),
            t6 ∷ (vs ++ t8 ∷ e ∷ []),
            K.reads,
            (
              T.to,
              t6 ∷ (vs ++ t8 ∷ e ∷ []),
              [],
              (x, t6 ∷ [], vs ++ t8 ∷ e ∷ [], (t6, name_read t6 target.name i c6, refl), (T.to, vs, t8 ∷ e ∷ [], T.reads, (e.line, t8 ∷ e ∷ [], [], ending_reads t8 e (close_read t8 c8) (end_read e n), (refl, refl), refl), refl), refl),
              (refl, refl),
              sym (append-nil (t6 ∷ (vs ++ t8 ∷ e ∷ []))),
            ),
            refl,
          ),
          refl,
        )),
        refl,
      );
    }))))))))))
  where
    regroup : (ks vs : Lexemes) (t5 t6 t8 : Lexeme) → (ks ++ t5 ∷ t6 ∷ (vs ++ t8 ∷ [])) ++ e ∷ [] ≡ (ks ++ t5 ∷ []) ++ (t6 ∷ (vs ++ t8 ∷ e ∷ []))
    regroup ks vs t5 t6 t8 = simp append_assoc

pub begin_read : (count : Expression) (c : Block) (us : Lexemes) (e : Lexeme) → is_readable count ≡ true → depth count ≤ 256 → Lexed us (open_words count) → unplaced e ≡ end_lexeme → IsBegun c (us ++ e ∷ []) count
unfolding g.call g.called g.begin g.last_argument
begin_read count c us e h i l n =
    let Goal : Lexemes → Type 0 = λ v. IsBegun c (v ++ e ∷ []) count in
    first us _ _ Goal l (λ t1 w1 c1 l1.
    first w1 _ _ (λ v. Goal (t1 ∷ v)) l1 (λ t2 w2 c2 l2.
    first w2 _ _ (λ v. Goal (t1 ∷ t2 ∷ v)) l2 (λ t3 w3 c3 l3.
    parts w3 (expression_words false false count) _ (λ v. Goal (t1 ∷ t2 ∷ t3 ∷ v)) l3 (λ vs w4 c4 l4.
    first w4 _ _ (λ v. Goal (t1 ∷ t2 ∷ t3 ∷ (vs ++ v))) l4 (λ t5 w5 c5 l5.
    none w5 (λ v. Goal (t1 ∷ t2 ∷ t3 ∷ (vs ++ t5 ∷ v))) l5
    (let V = argument_read count false vs h i c4 in
    subst (λ (v : Lexemes). IsBegun c (t1 ∷ t2 ∷ t3 ∷ v) count) (sym (append_assoc vs (t5 ∷ []) (e ∷ [])))
    (record {
      line = t1.line;
      tapes = V.value;
      tree = V.tree;
      reads = (
        t1.line,
        t1 ∷ [],
        t2 ∷ t3 ∷ (vs ++ t5 ∷ e ∷ []),
        (t1, call_read t1 c1, refl),
        inr (inr (inl (
          t2.line,
          t2 ∷ [],
          t3 ∷ (vs ++ t5 ∷ e ∷ []),
          (t2, open_word_read t2 c2, refl),
          (
            t3.line,
            t3 ∷ [],
            vs ++ t5 ∷ e ∷ [],
            (t3, open_read t3 c3, refl),
            (
              V.value,
              vs ++ t5 ∷ e ∷ [],
              [],
              (V.value, vs, t5 ∷ e ∷ [], V.reads, (e.line, t5 ∷ e ∷ [], [], ending_reads t5 e (close_read t5 c5) (end_read e n), (refl, refl), refl), refl),
              (refl, refl),
              sym (append-nil (vs ++ t5 ∷ e ∷ [])),
            ),
            refl,
          ),
          refl,
        ))),
        refl,
      );
    })))))))

pub finish_read : (c : Block) (us : Lexemes) (e : Lexeme) → Lexed us (call_words (codes "formad_close") ++ close_bracket) → unplaced e ≡ end_lexeme → IsFinished c (us ++ e ∷ [])
unfolding g.call g.called g.finish
finish_read c us e l n =
    let Goal : Lexemes → Type 0 = λ v. IsFinished c (v ++ e ∷ []) in
    first us _ _ Goal l (λ t1 w1 c1 l1.
    first w1 _ _ (λ v. Goal (t1 ∷ v)) l1 (λ t2 w2 c2 l2.
    first w2 _ _ (λ v. Goal (t1 ∷ t2 ∷ v)) l2 (λ t3 w3 c3 l3.
    first w3 _ _ (λ v. Goal (t1 ∷ t2 ∷ t3 ∷ v)) l3 (λ t4 w4 c4 l4.
    none w4 (λ v. Goal (t1 ∷ t2 ∷ t3 ∷ t4 ∷ v)) l4
    (record {
      line = t1.line;
      reads = (
        t1.line,
        t1 ∷ [],
        t2 ∷ t3 ∷ t4 ∷ e ∷ [],
        (t1, call_read t1 c1, refl),
        inr (inr (inr (
          t2.line,
          t2 ∷ [],
          t3 ∷ t4 ∷ e ∷ [],
          (t2, close_word_read t2 c2, refl),
          (
            t3.line,
            t3 ∷ [],
            t4 ∷ e ∷ [],
            (t3, open_read t3 c3, refl),
            (e.line, t4 ∷ e ∷ [], [], ending_reads t4 e (close_read t4 c4) (end_read e n), (refl, refl), refl),
            refl,
          ),
          refl,
        ))),
        refl,
      );
    })))))

-- ---- first lines of loops

record IsStep (us : Lexemes) (step : Option Expression) : Type 0 where
  pub value : Option Expr
  pub tree : step_tree value ≡ step
  pub reads : plain.loop_step the_limits value us

step_read : (step : Option Expression) (us : Lexemes) → is_readable_step step ≡ true → step_depth step ≤ 256 → Lexed us (step_words step) → IsStep us step
unfolding plain.loop_step
step_read None us h i l = none us (λ v. IsStep v None) l (record { value = None; tree = refl; reads = inr (refl, refl) })
step_read (Some e) us h i l =
    first us _ _ (λ v. IsStep v (Some e)) l (λ t rest c m.
    let R = whole_read e 256 255 true rest h (omega (arith, i)) i m in
    record { value = Some R.value.expr; tree = ap Some R.tree; reads = inl (t.line, t ∷ [], rest, (t, comma_read t c, refl), (R.value, rest, [], R.reads, (refl, refl), sym (append-nil rest)), refl) })

pub loop_read : (var : List ℕ) (from to : Expression) (step : Option Expression) (us : Lexemes) (e : Lexeme) → is_variable var ≡ true → is_readable from ≡ true → is_readable to ≡ true → is_readable_step step ≡ true →
    depth from ≤ 256 → depth to ≤ 256 → step_depth step ≤ 256 → Lexed us (variable_words var ++ bounds_words from to step) → unplaced e ≡ end_lexeme → HasLoopLine (us ++ e ∷ []) var from to step
unfolding plain.loop_line plain.loop_name plain.first_bound
loop_read var from to step us e h i j k m n o l p =
    let Goal : Lexemes → Type 0 = λ v. HasLoopLine (v ++ e ∷ []) var from to step in
    first us _ _ Goal l (λ t1 w1 c1 l1.
    first w1 _ _ (λ v. Goal (t1 ∷ v)) l1 (λ t2 w2 c2 l2.
    first w2 _ _ (λ v. Goal (t1 ∷ t2 ∷ v)) l2 (λ t3 w3 c3 l3.
    parts w3 (expression_words false true from) _ (λ v. Goal (t1 ∷ t2 ∷ t3 ∷ v)) l3 (λ as' w4 c4 l4.
    first w4 _ _ (λ v. Goal (t1 ∷ t2 ∷ t3 ∷ (as' ++ v))) l4 (λ t5 w5 c5 l5.
    parts w5 (expression_words false true to) _ (λ v. Goal (t1 ∷ t2 ∷ t3 ∷ (as' ++ t5 ∷ v))) l5 (λ bs cs c6 l6.
    let x : Word = record { line = t2.line; name = var } in
    let A = whole_read from 256 255 true as' i (omega (arith, m)) m c4 in
    let B = whole_read to 256 255 true bs j (omega (arith, n)) n c6 in
    let S = step_read step cs k o l6 in
    subst (λ (v : Lexemes). HasLoopLine (t1 ∷ t2 ∷ t3 ∷ v) var from to step) (sym (regroup as' bs cs t5))
    (record {
      head = loop_line_of (t1.line, x) A.value B.value S.value;
      name = refl;
      from = A.tree;
      to = B.tree;
      by = S.tree;
      reads = (
        (t1.line, x),
        t1 ∷ t2 ∷ t3 ∷ [],
        (as' ++ t5 ∷ []) ++ (bs ++ (cs ++ e ∷ [])),
        (t1.line, t1 ∷ [], t2 ∷ t3 ∷ [], (t1, do_read t1 c1, refl), (x, t2 ∷ [], t3 ∷ [], (t2, name_read t2 var h c2, refl), (t3.line, t3 ∷ [], [], (t3, equals_read t3 c3, refl), (refl, refl), refl), refl), refl),
        (
          A.value,
          as' ++ t5 ∷ [],
          bs ++ (cs ++ e ∷ []),
          (A.value, as', t5 ∷ [], A.reads, (t5.line, t5 ∷ [], [], (t5, comma_read t5 c5, refl), (refl, refl), refl), refl),
          (B.value, bs, cs ++ e ∷ [], B.reads, (S.value, cs, e ∷ [], S.reads, (e.line, e ∷ [], [], (e, end_read e p, refl), (refl, refl), refl), refl), refl),
          refl,
        ),
        refl,
      );
    })))))))
  where
    regroup : (as' bs cs : Lexemes) (t : Lexeme) → (as' ++ t ∷ (bs ++ cs)) ++ e ∷ [] ≡ (as' ++ t ∷ []) ++ (bs ++ (cs ++ e ∷ []))
    regroup as' bs cs t = simp append_assoc

-- ---- tests

pub guard_read : (test : Condition) (us : Lexemes) → is_readable_condition test ≡ true → condition_depth test ≤ 256 →
    Lexed us (apart (codes "(") ∷ (condition_words false false test ++ joined (codes ")") ∷ [])) → IsGuard us test
unfolding plain.guard
guard_read test us h i l =
    first us _ _ (λ v. IsGuard v test) l (λ t1 rest c m.
    parts rest (condition_words false false test) _ (λ v. IsGuard (t1 ∷ v) test) m (λ vs ws p q.
    first ws _ _ (λ v. IsGuard (t1 ∷ (vs ++ v)) test) q (λ t2 end e n.
    none end (λ v. IsGuard (t1 ∷ (vs ++ t2 ∷ v)) test) n
    (let R = condition_read test false 255 254 vs h (omega (arith, i)) i p in
    record { value = R.value; tree = R.tree; reads = (t1.line, t1 ∷ [], vs ++ t2 ∷ [], (t1, open_read t1 c, refl), (R.value, vs, t2 ∷ [], R.reads, (t2.line, t2 ∷ [], [], (t2, close_read t2 e, refl), (refl, refl), refl), refl), refl) }))))

-- ---- as the tokens are lexed

-- the row of a statement alone
rows_of : (t : AdjointStatement) → is_readable_adjoint_statement t ≡ true → adjoint_block_depth t ≡ 0 → AreRows (adjoint_rows 0 t ++ [])
rows_of t h z = block_is (adjoint_statement t no_adjoint_statements) (and_from (is_readable_adjoint_statement t) true h refl) 0 (omega (arith, z))

pub assignments_read : (atomic : Bool) (target : Designator) (value : AdjointExpression) (c : Block) (us : Lexemes) → is_variable target.name ≡ true → are_readable target.subscripts ≡ true → is_readable_adjoint value ≡ true →
    deepest target.subscripts ≤ 256 → adjoint_depth value ≤ 256 → map unplaced us ≡ words_lexemes (adjoint_assign_words atomic target value) ++ end_lexeme ∷ [] → IsAssigned atomic c us target value
assignments_read atomic target value c us h i j k m l =
    let flow = assign_flow atomic (rows_of (adjoint_assignment 0 atomic target value) (and_from (is_variable target.name) (are_readable target.subscripts && is_readable_adjoint value) h (and_from (are_readable target.subscripts) (is_readable_adjoint value) i j)) refl) in
    last us (words_lexemes (adjoint_assign_words atomic target value)) end_lexeme (λ v. IsAssigned atomic c v target value) l (λ vs e n o.
    assignment_read atomic target value c vs e h i j k m (lexed vs (adjoint_assign_words atomic target value) Calm flow.to flow.flow n) o)
  where
    assign_flow : (a : Bool) → AreRows (adjoint_rows 0 (adjoint_assignment 0 a target value) ++ []) → IsRow (adjoint_assign_row 0 a target value)
    assign_flow true r = r.1.0
    assign_flow false r = r.0

pub pushes_read : (key value : Expression) (c : Block) (us : Lexemes) → is_readable key ≡ true → is_readable value ≡ true → depth key ≤ 256 → depth value ≤ 256
    → map unplaced us ≡ words_lexemes (push_words key value) ++ end_lexeme ∷ [] → IsPushed c us key value
pushes_read key value c us h i j k l =
    let rows = rows_of (push 0 key value) (and_from (is_readable key) (is_readable value) h i) refl in
    last us (words_lexemes (push_words key value)) end_lexeme (λ v. IsPushed c v key value) l (λ vs e n o. push_read key value c vs e h i j k (lexed vs (push_words key value) Calm rows.0.to rows.0.flow n) o)

pub pops_read : (key : Expression) (target : Designator) (c : Block) (us : Lexemes) → is_readable key ≡ true → is_variable target.name ≡ true → are_readable target.subscripts ≡ true → depth key ≤ 256
    → deepest target.subscripts ≤ 255 → map unplaced us ≡ words_lexemes (pop_words key target) ++ end_lexeme ∷ [] → IsPopped c us key target
pops_read key target c us h i j k m l =
    let rows = rows_of (pop 0 key target) (and_from (is_readable key) (is_variable target.name && are_readable target.subscripts) h (and_from (is_variable target.name) (are_readable target.subscripts) i j)) refl in
    last us (words_lexemes (pop_words key target)) end_lexeme (λ v. IsPopped c v key target) l (λ vs e n o. pop_read key target c vs e h i j k m (lexed vs (pop_words key target) Calm rows.0.to rows.0.flow n) o)

pub openings_read : (count : Expression) (c : Block) (us : Lexemes) → is_readable count ≡ true → depth count ≤ 256 → map unplaced us ≡ words_lexemes (open_words count) ++ end_lexeme ∷ [] → IsBegun c us count
openings_read count c us h i l =
    let rows = rows_of (begin_tapes 0 count) h refl in
    last us (words_lexemes (open_words count)) end_lexeme (λ v. IsBegun c v count) l (λ vs e n o. begin_read count c vs e h i (lexed vs (open_words count) Calm rows.0.to rows.0.flow n) o)

pub closings_read : (c : Block) (us : Lexemes) → map unplaced us ≡ words_lexemes (call_words (codes "formad_close") ++ close_bracket) ++ end_lexeme ∷ [] → IsFinished c us
closings_read c us l =
    let rows = rows_of (end_tapes 0) refl refl in
    last us (words_lexemes (call_words (codes "formad_close") ++ close_bracket)) end_lexeme (λ v. IsFinished c v) l
    (λ vs e n o. finish_read c vs e (lexed vs (call_words (codes "formad_close") ++ close_bracket) Calm rows.0.to rows.0.flow n) o)

pub loops_read : (var : List ℕ) (from to : Expression) (step : Option Expression) (us : Lexemes) → is_variable var ≡ true → is_readable from ≡ true → is_readable to ≡ true → is_readable_step step ≡ true →
    depth from ≤ 256 → depth to ≤ 256 → step_depth step ≤ 256 → map unplaced us ≡ words_lexemes (variable_words var ++ bounds_words from to step) ++ end_lexeme ∷ [] → HasLoopLine us var from to step
loops_read var from to step us h i j k m n o l =
    let rows = loop_is 0 None var from to step (omega arith) refl h i j k in
    last us (words_lexemes (variable_words var ++ bounds_words from to step)) end_lexeme (λ v. HasLoopLine v var from to step) l (λ vs e p q.
    loop_read var from to step vs e h i j k m n o (lexed vs (variable_words var ++ bounds_words from to step) Calm rows.0.to rows.0.flow p) q)

pub guards_read : (test : Condition) (us : Lexemes) → is_readable_condition test ≡ true → condition_depth test ≤ 256 →
    AreOf us (apart (codes "(") ∷ (condition_words false false test ++ joined (codes ")") ∷ [])) → IsGuard us test
guards_read test us h i l =
    let f : Runs Calm (apart (codes "(") ∷ (condition_words false false test ++ joined (codes ")") ∷ [])) closed =
    calm (apart (codes "(")) Calm refl open_token (join (condition_flows test h false false Calm refl) (λ d j. bracket d)) in
    guard_read test us h i (lexed us _ Calm f.to f.flow l)
