-- The lines of readable statements are read as them.
use Rattle.std.proofs.Common.{◌≡◌, ℕ, ◌+◌, ◌≤◌, Bool, true, false, nat_lt, List, [], ◌∷◌, ◌++◌, map, Option, Some, None, refl, sym, ap, subst, ◌∙◌, inl, inr, append-nil, append_assoc, arith}
use Rattle.std.specs.Prelude.{codes}
use Rattle.tokens.specs.Lexeme.{Lexeme}
use Rattle.fl_ast.specs.Tree.{Expression, no_expressions, expression, Expressions, Designator, Condition, expr_tree, expr_trees, place_tree, step_tree}
use Rattle.fl_ast.specs.Measures.{depth, deepest, condition_depth, step_depth}
use Rattle.fl_ast.specs.Readable.{is_variable, is_readable, are_readable, is_readable_condition, is_readable_step}
use Rattle.fl_ast.specs.declared.expr.Expr.{Expr}
use Rattle.parsing.specs.declared.symbol.Symbol.TheVariants as s
use Rattle.parsing.specs.declared.cursor.Word.{Word}
use Rattle.parsing.specs.Reading.{Lexemes}
use Rattle.parsing.specs.Terminal.{marked}
use Rattle.fl_expressions.specs.declared.tree.Measured.{Measured}
use Rattle.fl_expressions.specs.ExprGrammar.{expr, below, subscripts}
use Rattle.fl_expressions.specs.Trees.{place_at}
use Rattle.fl_statements.specs.declared.block.Block.{Block}
use Rattle.fl_statements.specs.declared.block.Target.{Target}
use Rattle.fl_statements.specs.Limits.{the_limits}
use Rattle.fl_statements.specs.Trees.{scalar_target, element_target, assigned, loop_line_of}
use Rattle.fl_statements.specs.StmtGrammar as g
use Rattle.fl_printer.specs.declared.spaced.Spaced.{Spaced}
use Rattle.fl_printer.specs.Words.{spaced, joined, apart, expression_words, sum_words, subscript_words, place_words, condition_words}
use Rattle.fl_printer.specs.Rows.{value_words, assign_words, step_words, variable_words, bounds_words}
use Rattle.fl_printer.specs.Lexemes.{unplaced, words_lexemes, end_lexeme}
use Rattle.fl_printer.proofs.Tokens.{Class, Pairing, Calm}
use Rattle.fl_printer.proofs.Flow.{Runs, closed, join, calm, bracket, open_token, flows, place_flows, sum_flows, condition_flows}
use Rattle.fl_printer.proofs.Units.{loop_is, equals}
use Rattle.fl_printed.specs.Fits.{Fits}
use Rattle.fl_printed.specs.ReadBack.{AreOf, IsReadAs, AreReadAs}
use Rattle.fl_printed.proofs.Folded.{place-of}
use Rattle.fl_printed.proofs.Spelled.{name_read}
use Rattle.fl_printed.proofs.Signs.{open_read, close_read, comma_read}
use Rattle.fl_printed.proofs.Lexed.{Lexed, first, none, parts, lexed}
use Rattle.fl_printed.proofs.ReadExpressions.{whole_read, subscripts_back, all_read_back}
use Rattle.fl_printed.proofs.ReadUpdates.{update_read}
use Rattle.printed_clauses.proofs.ReadDirectives.{last, end_read}
use Rattle.printed_conditions.specs.Conditions.{IsJudgedAs}
use Rattle.printed_conditions.proofs.ReadConditions.{condition_read}
use Rattle.printed_statements.specs.Lines.{IsAssigned, HasLoopLine, IsGuard}
use Rattle.printed_statements.proofs.Marks.{equals_read, do_read}

-- ---- expressions within the limits of programs

pub value_read : (atomic : Bool) (e : Expression) (us : Lexemes) → is_readable e ≡ true → depth e ≤ 64 → Lexed us (value_words atomic e) → IsReadAs (expr 256 (Some 63)) us e
value_read true e us h i l = update_read e 256 63 true us h (omega (arith, i)) i l
value_read false e us h i l = whole_read e 256 63 true us h (omega (arith, i)) i l

-- ---- assignments

record IsTarget (us : Lexemes) (x : Word) (xs : Expressions) : Type 0 where
  pub to : Target
  pub place : place_tree to.place ≡ record { name = x.name; subscripts = xs }
  pub reads : g.after_target the_limits x to us

target_read : (x : Word) (xs : Expressions) (us : Lexemes) → are_readable xs ≡ true → deepest xs ≤ 64 → Lexed us (subscript_words xs) → IsTarget us x xs
unfolding g.after_target g.indexed_target
target_read x no_expressions us h i l =
    none us (λ v. IsTarget v x no_expressions) l (record { to = scalar_target x; place = place-of x.name []; reads = inr (refl, refl) })
target_read x (expression y ys) us h i l =
    let R : AreReadAs (subscripts true (below 256) (Some 63)) us (expression y ys) = subscripts_back y ys (all_read_back (expression y ys)) h 256 63 (omega (arith, i)) i us l in
    record {
      to = element_target x R.value;
      place = place-of x.name R.value.exprs ∙ ap (λ s. record { name = x.name; subscripts = s }) R.trees;
      reads = inl (refl, (R.value, us, [], R.reads, (refl, refl), sym (append-nil us)));
    }

pub assignment_read : (atomic : Bool) (target : Designator) (value : Expression) (c : Block) (us : Lexemes) (e : Lexeme) → is_variable target.name ≡ true → are_readable target.subscripts ≡ true → is_readable value ≡ true →
    deepest target.subscripts ≤ 64 → depth value ≤ 64 → Lexed us (assign_words atomic target value) → unplaced e ≡ end_lexeme → IsAssigned atomic c (us ++ e ∷ []) target value
unfolding g.assign g.assign_to g.right_side
assignment_read atomic target value c us e h i j k m l n =
    first us _ _ (λ v. IsAssigned atomic c (v ++ e ∷ []) target value) l (λ t1 rest p q.
    parts rest (subscript_words target.subscripts) _ (λ v. IsAssigned atomic c ((t1 ∷ v) ++ e ∷ []) target value) q (λ vs more o r.
    first more _ _ (λ v. IsAssigned atomic c ((t1 ∷ (vs ++ v)) ++ e ∷ []) target value) r (λ t2 ws u w.
    let x : Word = record { line = t1.line; name = target.name } in
    let T = target_read x target.subscripts vs i k o in
    let R = value_read atomic value ws j m w in
    subst (λ (v : Lexemes). IsAssigned atomic c (t1 ∷ v) target value) (sym (append_assoc vs (t2 ∷ ws) (e ∷ [])))
    (record {
      to = T.to;
      right = R.value;
      place = T.place;
      tree = R.tree;
      reads = (
        x,
        t1 ∷ [],
        vs ++ t2 ∷ (ws ++ e ∷ []),
        (t1, name_read t1 target.name h p, refl),
        (
          T.to,
          vs,
          t2 ∷ (ws ++ e ∷ []),
          T.reads,
          (
            R.value,
            t2 ∷ (ws ++ e ∷ []),
            [],
            (t2.line, t2 ∷ [], ws ++ e ∷ [], (t2, equals_read t2 u, refl), (R.value, ws, e ∷ [], R.reads, (e.line, e ∷ [], [], (e, end_read e n, refl), (refl, refl), refl), refl), refl),
            (refl, refl),
            sym (append-nil (t2 ∷ (ws ++ e ∷ []))),
          ),
          refl,
        ),
        refl,
      );
    }))))

-- ---- first lines of loops

record IsStep (us : Lexemes) (step : Option Expression) : Type 0 where
  pub value : Option Expr
  pub tree : step_tree value ≡ step
  pub reads : g.loop_step the_limits value us

step_read : (step : Option Expression) (us : Lexemes) → is_readable_step step ≡ true → step_depth step ≤ 64 → Lexed us (step_words step) → IsStep us step
unfolding g.loop_step
step_read None us h i l = none us (λ v. IsStep v None) l (record { value = None; tree = refl; reads = inr (refl, refl) })
step_read (Some e) us h i l =
    first us _ _ (λ v. IsStep v (Some e)) l (λ t rest c m.
    let R = whole_read e 256 63 true rest h (omega (arith, i)) i m in
    record { value = Some R.value.expr; tree = ap Some R.tree; reads = inl (t.line, t ∷ [], rest, (t, comma_read t c, refl), (R.value, rest, [], R.reads, (refl, refl), sym (append-nil rest)), refl) })

pub loop_read : (var : List ℕ) (from to : Expression) (step : Option Expression) (us : Lexemes) (e : Lexeme) → is_variable var ≡ true → is_readable from ≡ true → is_readable to ≡ true → is_readable_step step ≡ true →
    depth from ≤ 64 → depth to ≤ 64 → step_depth step ≤ 64 → Lexed us (variable_words var ++ bounds_words from to step) → unplaced e ≡ end_lexeme → HasLoopLine (us ++ e ∷ []) var from to step
unfolding g.loop_line g.loop_name g.first_bound
loop_read var from to step us e h i j k m n o l p =
    let Goal : Lexemes → Type 0 = λ v. HasLoopLine (v ++ e ∷ []) var from to step in
    first us _ _ Goal l (λ t1 w1 c1 l1.
    first w1 _ _ (λ v. Goal (t1 ∷ v)) l1 (λ t2 w2 c2 l2.
    first w2 _ _ (λ v. Goal (t1 ∷ t2 ∷ v)) l2 (λ t3 w3 c3 l3.
    parts w3 (expression_words false true from) _ (λ v. Goal (t1 ∷ t2 ∷ t3 ∷ v)) l3 (λ as' w4 c4 l4.
    first w4 _ _ (λ v. Goal (t1 ∷ t2 ∷ t3 ∷ (as' ++ v))) l4 (λ t5 w5 c5 l5.
    parts w5 (expression_words false true to) _ (λ v. Goal (t1 ∷ t2 ∷ t3 ∷ (as' ++ t5 ∷ v))) l5 (λ bs cs c6 l6.
    let x : Word = record { line = t2.line; name = var } in
    let A = whole_read from 256 63 true as' i (omega (arith, m)) m c4 in
    let B = whole_read to 256 63 true bs j (omega (arith, n)) n c6 in
    let S = step_read step cs k o l6 in
    subst (λ (v : Lexemes). HasLoopLine (t1 ∷ t2 ∷ t3 ∷ v) var from to step) (sym (regroup as' bs cs t5))
    (record {
      head = loop_line_of (t1.line, x) A.value B.value S.value;
      name = refl;
      from = A.tree;
      to = B.tree;
      by = S.tree;
      reads = (
        (t1.line, x),
        t1 ∷ t2 ∷ t3 ∷ [],
        (as' ++ t5 ∷ []) ++ (bs ++ (cs ++ e ∷ [])),
        (t1.line, t1 ∷ [], t2 ∷ t3 ∷ [], (t1, do_read t1 c1, refl), (x, t2 ∷ [], t3 ∷ [], (t2, name_read t2 var h c2, refl), (t3.line, t3 ∷ [], [], (t3, equals_read t3 c3, refl), (refl, refl), refl), refl), refl),
        (
          A.value,
          as' ++ t5 ∷ [],
          bs ++ (cs ++ e ∷ []),
          (A.value, as', t5 ∷ [], A.reads, (t5.line, t5 ∷ [], [], (t5, comma_read t5 c5, refl), (refl, refl), refl), refl),
          (B.value, bs, cs ++ e ∷ [], B.reads, (S.value, cs, e ∷ [], S.reads, (e.line, e ∷ [], [], (e, end_read e p, refl), (refl, refl), refl), refl), refl),
          refl,
        ),
        refl,
      );
    })))))))
  where
    regroup : (as' bs cs : Lexemes) (t : Lexeme) → (as' ++ t ∷ (bs ++ cs)) ++ e ∷ [] ≡ (as' ++ t ∷ []) ++ (bs ++ (cs ++ e ∷ []))
    regroup as' bs cs t = simp append_assoc

-- ---- tests

pub guard_read : (test : Condition) (us : Lexemes) → is_readable_condition test ≡ true → condition_depth test ≤ 64 →
    Lexed us (apart (codes "(") ∷ (condition_words false false test ++ joined (codes ")") ∷ [])) → IsGuard us test
unfolding g.guard
guard_read test us h i l =
    first us _ _ (λ v. IsGuard v test) l (λ t1 rest c m.
    parts rest (condition_words false false test) _ (λ v. IsGuard (t1 ∷ v) test) m (λ vs ws p q.
    first ws _ _ (λ v. IsGuard (t1 ∷ (vs ++ v)) test) q (λ t2 end e n.
    none end (λ v. IsGuard (t1 ∷ (vs ++ t2 ∷ v)) test) n
    (let R = condition_read test false 255 62 vs h (omega (arith, i)) i p in
    record { value = R.value; tree = R.tree; reads = (t1.line, t1 ∷ [], vs ++ t2 ∷ [], (t1, open_read t1 c, refl), (R.value, vs, t2 ∷ [], R.reads, (t2.line, t2 ∷ [], [], (t2, close_read t2 e, refl), (refl, refl), refl), refl), refl) }))))

-- ---- as the tokens are lexed

value_flows : (atomic : Bool) (e : Expression) (c : Class) → is_readable e ≡ true → Runs c (value_words atomic e) closed
value_flows true e c h = sum_flows e h false true c refl
value_flows false e c h = flows e h false true c refl

pub assignments_read : (atomic : Bool) (target : Designator) (value : Expression) (c : Block) (us : Lexemes) → is_variable target.name ≡ true → are_readable target.subscripts ≡ true → is_readable value ≡ true →
    deepest target.subscripts ≤ 64 → depth value ≤ 64 → map unplaced us ≡ words_lexemes (assign_words atomic target value) ++ end_lexeme ∷ [] → IsAssigned atomic c us target value
assignments_read atomic target value c us h i j k m l =
    let f : Runs Calm (assign_words atomic target value) closed = join (place_flows target h i false Calm refl) (λ d o. equals d (value_flows atomic value Pairing j)) in
    last us (words_lexemes (assign_words atomic target value)) end_lexeme (λ v. IsAssigned atomic c v target value) l (λ vs e n o.
    assignment_read atomic target value c vs e h i j k m (lexed vs (assign_words atomic target value) Calm f.to f.flow n) o)

pub loops_read : (var : List ℕ) (from to : Expression) (step : Option Expression) (us : Lexemes) → is_variable var ≡ true → is_readable from ≡ true → is_readable to ≡ true → is_readable_step step ≡ true →
    depth from ≤ 64 → depth to ≤ 64 → step_depth step ≤ 64 → map unplaced us ≡ words_lexemes (variable_words var ++ bounds_words from to step) ++ end_lexeme ∷ [] → HasLoopLine us var from to step
loops_read var from to step us h i j k m n o l =
    let rows = loop_is 0 None var from to step (omega arith) refl h i j k in
    last us (words_lexemes (variable_words var ++ bounds_words from to step)) end_lexeme (λ v. HasLoopLine v var from to step) l (λ vs e p q.
    loop_read var from to step vs e h i j k m n o (lexed vs (variable_words var ++ bounds_words from to step) Calm rows.0.to rows.0.flow p) q)

pub guards_read : (test : Condition) (us : Lexemes) → is_readable_condition test ≡ true → condition_depth test ≤ 64 →
    AreOf us (apart (codes "(") ∷ (condition_words false false test ++ joined (codes ")") ∷ [])) → IsGuard us test
guards_read test us h i l =
    let f : Runs Calm (apart (codes "(") ∷ (condition_words false false test ++ joined (codes ")") ∷ [])) closed =
    calm (apart (codes "(")) Calm refl open_token (join (condition_flows test h false false Calm refl) (λ d j. bracket d)) in
    guard_read test us h i (lexed us _ Calm f.to f.flow l)
