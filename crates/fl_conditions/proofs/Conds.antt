-- Conditions are read exactly, though what a bracket holds may be an expression or a condition.
use Rattle.std.proofs.Common.{◌≡◌, ℕ, zero, suc, Bool, true, false, cond, nat_lt, [], ◌∷◌, ◌++◌, Ok, Err, refl, sym, ap, subst, ◌∙◌, ◌⊎◌, inl, inr, append_assoc, arith}
use Rattle.tokens.specs.Lexeme.{Lexeme}
use Rattle.parsing.specs.declared.symbol.Symbol.{Symbol}
use Rattle.parsing.specs.declared.symbol.Symbol.TheVariants as s
use Rattle.parsing.specs.declared.fault.Cause.TheVariants.{Expected, Deep}
use Rattle.parsing.specs.declared.fault.Fault.{Fault}
use Rattle.parsing.specs.Freed.{Freed, Frees, frees}
use Rattle.parsing.specs.Freed.Freed.{Nothing}
use Rattle.parsing.specs.Limit.{Limit, allows, less as fewer}
use Rattle.parsing.specs.Terminal.{same, on, is, marked, reads}
use Rattle.parsing.specs.Reading.{Lexemes, Outcome, Parser, fault, ◌>>=◌ as ◌▷◌}
use Rattle.parsing.specs.Grammar.{Grammar, gives, one, ◌or◌, where_, ◌>>=◌ as ◌⨟◌}
use Rattle.fl_ast.specs.declared.kind.RelOp.TheVariants.{Lt}
use Rattle.fl_expressions.specs.declared.tree.Measured.{Measured}
use Rattle.fl_expressions.specs.ExprGrammar as eg
use Rattle.fl_expressions.specs.Wide.{More}
use Rattle.fl_conditions.specs.declared.tree.Judged.{Judged}
use Rattle.fl_conditions.specs.declared.tree.Mixed.{Mixed}
use Rattle.fl_conditions.specs.declared.tree.Mixed.TheVariants.{Value, Test}
use Rattle.fl_conditions.specs.Terminals.{rel_op, rel_op_by, and_op_by, or_op_by}
use Rattle.fl_conditions.specs.Trees.{related, denial, both, one_of, may_join}
use Rattle.fl_conditions.specs.CondGrammar as g
use Rattle.fl_conditions.specs.CondReading as p
use Rattle.fl_conditions.specs.CondReading.{only_test}
use Rattle.parsing.proofs.Outcomes.{first, append_nil, which, differ, ok_value, ok_rest, err_is, ok_err, bind_ok, bind_err, bind_at, bind_at_err, past_on, Shrinks, shrinks_pure, shrinks_refuse, shrinks_seq, Bites}
use Rattle.parsing.proofs.Exact.{Exact, expected_stays, Room, room_of, frees_less, Begins, Meets, pure_exact, seq, either_within, shrinks_token}
use Rattle.parsing.proofs.Rules.{narrow, anywhere, restate, optional, mapped, meets_mapped, begins_seq, begins_or, begins_where, meets_never, meets_or, gives_meets}
use Rattle.parsing.proofs.Grouped.{grouped_exact, grouped_meets}
use Rattle.parsing.proofs.OnSymbols.{apart, less, among, meets, begins_in, begins_mark, begins_by, mark_then, bites_mark, by_exact}
use Rattle.fl_expressions.proofs.Exprs.{binds, unopened, meets_seq, nothing_freed, expr_exact, brackets_room, rest_at_exact, unopened_at_exact, unopened_at_begins}
use Rattle.fl_expressions.proofs.Opened.{RestAt, UnopenedAt, OpenedAt, unopened_is_expr, opened_is_expr, expr_is_either}

-- what goes on with a relation or with an expression
abbrev pub compares : Symbol → Bool
compares = among (s.Open ∷ s.Power ∷ s.Star ∷ s.Slash ∷ s.Plus ∷ s.Minus ∷ s.Equal ∷ s.Unequal ∷ s.Less ∷ s.AtMost ∷ s.Greater ∷ s.AtLeast ∷ [])

-- with a conjunction
abbrev conjoins : Symbol → Bool
conjoins = among (s.And ∷ s.Open ∷ s.Power ∷ s.Star ∷ s.Slash ∷ s.Plus ∷ s.Minus ∷ s.Equal ∷ s.Unequal ∷ s.Less ∷ s.AtMost ∷ s.Greater ∷ s.AtLeast ∷ [])

-- with a condition
abbrev pub joins : Symbol → Bool
joins = among (s.Or ∷ s.And ∷ s.Open ∷ s.Power ∷ s.Star ∷ s.Slash ∷ s.Plus ∷ s.Minus ∷ s.Equal ∷ s.Unequal ∷ s.Less ∷ s.AtMost ∷ s.Greater ∷ s.AtLeast ∷ [])

-- an expression or a condition
abbrev pub EitherOf : Grammar Measured → Grammar Judged → Grammar Mixed
EitherOf E J (Value e) us = E e us
EitherOf E J (Test c) us = J c us

-- ---- where an expression alone won't do, the token behind it is refused

only_shrinks : (m : Mixed) → Shrinks (only_test m)
only_shrinks (Value e) = shrinks_refuse Judged Expected
only_shrinks (Test c) = shrinks_pure c

module _ {l : Freed} {E : Grammar Measured} {J : Grammar Judged} {after : Lexeme → Bool} {q q2 : Parser Mixed} (P : Exact l (EitherOf E J) after q q2)
    (whole : (e : Measured) (us : Lexemes) → E e us → (c : Judged) × (more : Lexemes) × J c (us ++ more)) where
  completed : (m : Mixed) (us : Lexemes) → EitherOf E J m us → (c : Judged) × (more : Lexemes) × J c (us ++ more)
  completed (Value e) us n = whole e us n
  completed (Test c) us n = (c, [], subst (J c) (sym (append_nil us)) n)

  took : (m : Mixed) (mid rest : Lexemes) (c : Judged) → only_test m mid ≡ Ok (c, rest) → (m ≡ Test c) × (mid ≡ rest)
  took (Value e) mid rest c h = ok_err (fault Expected mid) (c, rest) (sym h)
  took (Test x) mid rest c h = (ap Test (ok_value x c mid rest h), ok_rest x c mid rest h)

  refused : (m : Mixed) (mid : Lexemes) (f : Fault) → only_test m mid ≡ Err f → (e : Measured) × (m ≡ Value e) × (fault Expected mid ≡ f)
  refused (Value e) mid f h = (e, refl, err_is {A = Judged} (fault Expected mid) f h)
  refused (Test c) mid f h = ok_err f (c, mid) h

  stuck : (m : Mixed) (mid r : Lexemes) (f : Fault) → only_test m mid ≡ Err f → only_test m r ≡ Err (fault f.cause r)
  stuck m mid r f h =
      let t = refused m mid f h in
      ap (λ x. only_test x r) t.1 ∙ ap (λ v. let a : Outcome Judged = Err (fault v r) in a) (ap (λ v. v.cause) t.2)

  only_exact : Exact l J after (q ▷ only_test) (q2 ▷ only_test)
  only_exact = record {
    some = let n = P.some in let c = completed n.0 n.1 n.2 in (c.0, n.1 ++ c.1, c.2);
    takes = λ ts rest c e.
        let b = bind_ok (q ts) only_test c rest e in
        let t = took b.0 b.1 rest c b.3 in
        let n = P.takes ts b.1 b.0 b.2 in (
          n.0,
          subst (λ (m : Mixed). EitherOf E J m n.0) t.0 n.1,
          n.2 ∙ ap (λ v. n.0 ++ v) t.1,
          λ r h. bind_at (q (n.0 ++ r)) only_test b.0 r (n.3 r (h ∙ ap first (sym t.1))) ∙ ap (λ m. only_test m r) t.0,
        );
    again = λ c us rest n h. bind_at (q (us ++ rest)) only_test (Test c) rest (P.again (Test c) us rest n h);
    fails = λ ts f e.
        elim (bind_err (q ts) only_test f e) [
          | inl e1 ↦
              let n = P.fails ts f e1 in
              let c = completed n.3.0 (n.0 ++ n.3.1) n.3.2 in
              (n.0, n.1, n.2, (c.0, n.3.1 ++ c.1, subst (J c.0) (append_assoc n.0 n.3.1 c.1) c.2), λ r h. bind_at_err (q (n.0 ++ r)) only_test (fault f.cause r) (n.4 r h))
          | inr b ↦
              let n = P.takes ts b.1 b.0 b.2 in
              (n.0, b.1, n.2, completed b.0 n.0 n.1, λ r h. bind_at (q (n.0 ++ r)) only_test b.0 r (n.3 r h) ∙ stuck b.0 b.1 r f b.3)
        ];
    ok = λ ts u e. let b = bind_ok (q ts) only_test u.0 u.1 e in bind_at (q2 ts) only_test b.0 b.1 (P.ok ts (b.0, b.1) b.2) ∙ b.3;
    same = λ ts f e c.
        elim (bind_err (q ts) only_test f e) [
          | inl e1 ↦ bind_at_err (q2 ts) only_test f (P.same ts f e1 c)
          | inr b ↦ bind_at (q2 ts) only_test b.0 b.1 (P.ok ts (b.0, b.1) b.2) ∙ b.3
        ];
    past = λ ts f e c.
        elim (bind_err (q ts) only_test f e) [
          | inl e1 ↦ past_on (q2 ts) only_test f.left only_shrinks (P.past ts f e1 c)
          | inr b ↦ let t = refused b.0 b.1 f b.3 in differ (frees l f.cause) c (ap (λ v. frees l v.cause) (sym t.2) ∙ expected_stays l)
        ];
    shrinks = shrinks_seq q2 only_test P.shrinks only_shrinks;
  }

-- ---- relations

module _ (b : ℕ) where
  abbrev ComparingGrammar : Limit → Measured → Grammar Mixed
  ComparingGrammar d x = one rel_op ⨟ (λ op. eg.expr b d ⨟ (λ r. gives (Test (related op x r))))

  abbrev ComparedGrammar : Limit → Measured → Grammar Mixed
  ComparedGrammar d x = ComparingGrammar d x or gives (Value x)

  -- behind a bracket
  abbrev AfterGrammar : Limit → Mixed → Grammar Mixed
  AfterGrammar d (Value e) = RestAt b d e ⨟ ComparedGrammar d
  AfterGrammar d (Test c) = gives (Test c)

  -- with no bracket at its head
  abbrev BegunGrammar : Limit → Grammar Mixed
  BegunGrammar d = UnopenedAt b d ⨟ ComparedGrammar d

  compared_meets : (d : Limit) (x : Measured) → Meets (ComparedGrammar d x) (on binds) (on compares)
  compared_meets d x = meets_or _ _ (on binds) (on compares) (meets (reads rel_op_by) binds (on compares) _ (begins_seq _ (begins_by rel_op_by)) refl refl)
      (gives_meets (Value x) (on binds) (on compares) (less binds compares refl refl))

module _ (l : Freed) (b b2 : ℕ) (R : More l b b2) (d d2 : Limit) (F : Frees l Deep d d2) where
  compared_exact : (x : Measured) → Exact l (ComparedGrammar b d x) (on compares) (p.compared b d x) (p.compared b2 d2 x)
  unfolding p.compared p.comparing
  compared_exact x = optional (Value x)
      (narrow (seq (by_exact rel_op_by s.Less Lt refl) (λ op. mapped (expr_exact l b b2 R d d2 F) (λ r. Test (related op x r))) (λ op. meets_never (on binds) _)) (less binds compares refl refl))
      (begins_seq _ (begins_by rel_op_by)) (less (reads rel_op_by) compares refl refl)

  after_exact : (m : Mixed) → Exact l (AfterGrammar b d m) (on compares) (p.after b d m) (p.after b2 d2 m)
  unfolding p.after_value
  after_exact (Value e) = seq (rest_at_exact l b b2 R d d2 F e) compared_exact (compared_meets b d)
  after_exact (Test c) = anywhere (pure_exact (Test c))

  begun_exact : Exact l (BegunGrammar b d) (on compares) (p.begun b d) (p.begun b2 d2)
  unfolding p.begun
  begun_exact = seq (unopened_at_exact l b b2 R d d2 F) compared_exact (compared_meets b d)

  begun_begins : Begins (BegunGrammar b d) (on unopened)
  begun_begins = begins_seq _ (unopened_at_begins l b b2 R d d2 F)

  -- a relation begins with any expression
  relation_of : (e : Measured) (us : Lexemes) → eg.expr b d e us → (c : Judged) × (more : Lexemes) × g.relation b d c (us ++ more)
  unfolding g.relation
  relation_of e us n =
      let o = (by_exact {l = l} rel_op_by s.Less Lt refl).some in
      let r = (expr_exact l b b2 R d d2 F).some in
      (related o.0 e r.0, o.1 ++ r.1, (e, us, o.1 ++ r.1, n, (o.0, o.1, r.1, o.2, (r.0, r.1, [], r.2, (refl, refl), sym (append_nil r.1)), refl), refl))

-- ---- brackets

module _ (b : ℕ) (jg : Limit → Grammar Judged) where
  -- what stands in a bracket
  abbrev HeldGrammar : Limit → Grammar Mixed
  HeldGrammar d = EitherOf (eg.below b d) (jg d)

  abbrev BracketedGrammar : Limit → Grammar Mixed
  BracketedGrammar d = one (marked s.Open) ⨟ (λ _. HeldGrammar d ⨟ (λ m. one (marked s.Close) ⨟ (λ _. AfterGrammar b d m)))

  abbrev OperandGrammar : Limit → Grammar Mixed
  OperandGrammar d = where_ (nat_lt 0 b) (BracketedGrammar d) or BegunGrammar b d

  abbrev ExprOrTest : Limit → Grammar Mixed
  ExprOrTest d = EitherOf (eg.expr b d) (g.test b jg d)

  finish : (d : Limit) (e : Measured) (z : Mixed) (us vs : Lexemes) → eg.expr b d e us → ComparedGrammar b d e z vs → ExprOrTest d z (us ++ vs)
  unfolding g.test g.relation
  finish d e z us vs n (inr m) = subst (λ (v : Mixed). ExprOrTest d v (us ++ vs)) (sym m.0) (subst (λ (v : Lexemes). eg.expr b d e (us ++ v)) (sym m.1) (subst (eg.expr b d e) (sym (append_nil us)) n))
  finish d e z us vs n (inl (op, os, ws, o, (r, rs, es, k, m, e1), e2)) =
      subst (λ (v : Mixed). ExprOrTest d v (us ++ vs)) (sym m.0) (inr (e, us, vs, n, (op, os, ws, o, (r, rs, es, k, (refl, m.1), e1), e2), refl))

  in_bracket : (d : Limit) (e : Measured) (o c : ℕ) (os vs cs : Lexemes) → one (marked s.Open) o os → eg.below b d e vs → one (marked s.Close) c cs → eg.bracketed (nat_lt 0 b) (eg.below b) d e (os ++ (vs ++ cs))
  unfolding eg.bracketed
  in_bracket d e o c os vs cs m n m2 = (o, os, vs ++ cs, m, (e, vs, cs, n, (c, cs, [], m2, (refl, refl), sym (append_nil cs)), refl), refl)

  regroup : (os us cs vs ws : Lexemes) → os ++ (us ++ (cs ++ (vs ++ ws))) ≡ ((os ++ (us ++ cs)) ++ vs) ++ ws
  regroup os us cs vs ws = simp append_assoc

  to_operand : (d : Limit) (z : Mixed) (us : Lexemes) → OperandGrammar d z us → ExprOrTest d z us
  unfolding g.test g.bracketed
  to_operand d z us (inr (e, vs, ws, n, c, eq)) = subst (ExprOrTest d z) (sym eq) (finish d e z vs ws (unopened_is_expr b d e vs n) c)
  to_operand d z us (inl (so, (o, os, as_, m, (Value e, vs, bs, n, (c, cs, ds, m2, (x, ps, qs, r, cmp, e4), e3), e2), e1))) =
      let all : us ≡ ((os ++ (vs ++ cs)) ++ ps) ++ qs = e1 ∙ ap (λ v. os ++ v) (e2 ∙ ap (λ v. vs ++ v) (e3 ∙ ap (λ v. cs ++ v) e4)) ∙ regroup os vs cs ps qs in
      subst (ExprOrTest d z) (sym all)
      (finish d x z ((os ++ (vs ++ cs)) ++ ps) qs (opened_is_expr b d x ((os ++ (vs ++ cs)) ++ ps) (so, (e, os ++ (vs ++ cs), ps, in_bracket d e o c os vs cs m n m2, r, refl))) cmp)
  to_operand d z us (inl (so, (o, os, as_, m, (Test j, vs, bs, n, (c, cs, ds, m2, last, e3), e2), e1))) =
      subst (λ (v : Mixed). ExprOrTest d v us) (sym last.0) (inl (so, (o, os, as_, m, (j, vs, bs, n, (c, cs, ds, m2, (refl, last.1), e3), e2), e1)))

  regroup_back : (os us cs vs ws : Lexemes) → ((os ++ (us ++ (cs ++ []))) ++ vs) ++ ws ≡ os ++ (us ++ (cs ++ (vs ++ ws)))
  regroup_back os us cs vs ws = simp (append_nil, append_assoc)

  rebuilt : (d : Limit) (e : Measured) (z : Mixed) (us vs : Lexemes) → OpenedAt b d e us → ComparedGrammar b d e z vs → BracketedGrammar d z (us ++ vs)
  unfolding eg.bracketed
  rebuilt d e z us vs (so, (x, ps, ws, (o, os, xs, m, (i, hs, ys, n, (cl, cs, zs, m2, last, e3), e2), e1), r, eq)) c = (
    o,
    os,
    hs ++ (cs ++ (ws ++ vs)),
    m,
    (Value i, hs, cs ++ (ws ++ vs), n, (cl, cs, ws ++ vs, m2, (e, ws, vs, subst (λ (v : Measured). RestAt b d v e ws) last.0 r, c, refl), refl), refl),
    ap (λ v. v ++ vs) (eq ∙ ap (λ v. v ++ ws) (e1 ∙ ap (λ v. os ++ v) (e2 ∙ ap (λ v. hs ++ v) (e3 ∙ ap (λ v. cs ++ v) last.1)))) ∙ regroup_back os hs cs ws vs,
  )

  back : (d : Limit) (e : Measured) (z : Mixed) (us vs : Lexemes) → eg.expr b d e us → ComparedGrammar b d e z vs → OperandGrammar d z (us ++ vs)
  back d e z us vs n c = by (expr_is_either b d e us n)
    where
      by : OpenedAt b d e us ⊎ UnopenedAt b d e us → OperandGrammar d z (us ++ vs)
      by (inr m) = inr (e, us, vs, m, c, refl)
      by (inl m) = inl (m.0, rebuilt d e z us vs m c)

  from_operand : (d : Limit) (z : Mixed) (us : Lexemes) → ExprOrTest d z us → OperandGrammar d z us
  unfolding g.test g.relation g.bracketed
  from_operand d (Value e) us n = subst (OperandGrammar d (Value e)) (append_nil us) (back d e (Value e) us [] n (inr (refl, refl)))
  from_operand d (Test j) us (inl (so, (o, os, as_, m, (c, vs, bs, n, (cl, cs, ds, m2, last, e3), e2), e1))) =
      inl (so, (o, os, as_, m, (Test c, vs, bs, n, (cl, cs, ds, m2, (ap Test last.0, last.1), e3), e2), e1))
  from_operand d (Test j) us (inr (x, vs, ws, n, (op, os, bs, o, (r, rs, es, k, last, e1), e2), eq)) =
      subst (OperandGrammar d (Test j)) (sym eq) (back d x (Test j) vs ws n (inl (op, os, bs, o, (r, rs, es, k, (ap Test last.0, last.1), e1), e2)))

  -- ---- negations, and what follows them

  abbrev DeniedGrammar : Limit → Grammar Mixed
  DeniedGrammar d = one (marked s.Not) ⨟ (λ _. g.test b jg (fewer d) ⨟ (λ c. gives (Test (denial c))))

  abbrev FirstGrammar : Limit → Grammar Mixed
  FirstGrammar d = where_ (allows d 1) (DeniedGrammar d) or ExprOrTest d

  abbrev ExprOrNegation : Limit → Grammar Mixed
  ExprOrNegation d = EitherOf (eg.expr b d) (g.negation b jg d)

  to_first : (d : Limit) (z : Mixed) (us : Lexemes) → FirstGrammar d z us → ExprOrNegation d z us
  unfolding g.negation g.denied
  to_first d (Value e) us (inl (h, (o, os, as_, m, (c, vs, ws, n, last, e2), e1))) = subst (λ (v : Mixed). ExprOrNegation d v us) (sym last.0) (inl (h, (o, os, as_, m, (c, vs, ws, n, (refl, last.1), e2), e1)))
  to_first d (Test y) us (inl (h, (o, os, as_, m, (c, vs, ws, n, last, e2), e1))) = subst (λ (v : Mixed). ExprOrNegation d v us) (sym last.0) (inl (h, (o, os, as_, m, (c, vs, ws, n, (refl, last.1), e2), e1)))
  to_first d (Value e) us (inr n) = n
  to_first d (Test y) us (inr n) = inr n

  from_first : (d : Limit) (z : Mixed) (us : Lexemes) → ExprOrNegation d z us → FirstGrammar d z us
  unfolding g.negation g.denied
  from_first d (Value e) us n = inr n
  from_first d (Test y) us (inl (h, (o, os, as_, m, (c, vs, ws, n, last, e2), e1))) = inl (h, (o, os, as_, m, (c, vs, ws, n, (ap Test last.0, last.1), e2), e1))
  from_first d (Test y) us (inr n) = inr n

  abbrev JoiningGrammar : Limit → Judged → Grammar Judged
  JoiningGrammar d c = g.ands_from b jg d c ⨟ g.ors_from b jg d

  abbrev JoinedGrammar : Limit → Mixed → Grammar Mixed
  JoinedGrammar d (Value e) = gives (Value e)
  JoinedGrammar d (Test c) = JoiningGrammar d c ⨟ (λ y. gives (Test y))

  abbrev MixtureGrammar : Limit → Grammar Mixed
  MixtureGrammar d = ExprOrNegation d ⨟ JoinedGrammar d

  abbrev ExprOrCond : Limit → Grammar Mixed
  ExprOrCond d = EitherOf (eg.expr b d) (g.disjunction b jg d)

  to_mixture : (d : Limit) (z : Mixed) (us : Lexemes) → MixtureGrammar d z us → ExprOrCond d z us
  unfolding g.disjunction g.conjunction
  to_mixture d z us (Value e, vs, ws, n, last, e1) =
      subst (λ (v : Mixed). ExprOrCond d v us) (sym last.0) (subst (eg.expr b d e) (sym (e1 ∙ ap (λ v. vs ++ v) last.1 ∙ append_nil vs)) n)
  to_mixture d z us (Test c, vs, ws, n, (y, ps, qs, (j, ks, ms, a, o, e3), last, e2), e1) =
      subst (λ (v : Mixed). ExprOrCond d v us) (sym last.0)
      (j, vs ++ ks, ms, (c, vs, ks, n, a, refl), o, e1 ∙ ap (λ v. vs ++ v) (e2 ∙ ap (λ v. ps ++ v) last.1 ∙ append_nil ps ∙ e3) ∙ sym (append_assoc vs ks ms))

  from_mixture : (d : Limit) (z : Mixed) (us : Lexemes) → ExprOrCond d z us → MixtureGrammar d z us
  unfolding g.disjunction g.conjunction
  from_mixture d (Value e) us n = (Value e, us, [], n, (refl, refl), sym (append_nil us))
  from_mixture d (Test y) us (j, as_, ms, (c, vs, ks, n, a, e2), o, e1) =
      (Test c, vs, ks ++ ms, n, (y, ks ++ ms, [], (j, ks, ms, a, o, refl), (refl, refl), sym (append_nil (ks ++ ms))), e1 ∙ ap (λ v. v ++ ms) e2 ∙ append_assoc vs ks ms)

  -- a relation alone
  test_of : (d : Limit) (c : Judged) (us : Lexemes) → g.relation b d c us → g.test b jg d c us
  unfolding g.test
  test_of d c us n = inr n

  negation_of : (d : Limit) (c : Judged) (us : Lexemes) → g.relation b d c us → g.negation b jg d c us
  unfolding g.negation
  negation_of d c us n = inr (test_of d c us n)

  disjunction_of : (d : Limit) (c : Judged) (us : Lexemes) → g.relation b d c us → g.disjunction b jg d c us
  unfolding g.disjunction g.conjunction g.ands_from g.ors_from
  disjunction_of d c us n = (c, us, [], (c, us, [], negation_of d c us n, (0, (refl, refl)), sym (append_nil us)), (0, (refl, refl)), sym (append_nil us))

-- what begins a relation or a condition in brackets
abbrev opens : Symbol → Bool
opens a = cond (same s.Open a) true (unopened a)

module _ (l : Freed) (b b2 : ℕ) (R : More l b b2) (jg : Limit → Grammar Judged) (mp mp2 : Limit → Parser Mixed)
    (inner : nat_lt 0 b ≡ true → (d d2 : Limit) → Frees l Deep d d2 → Exact l (HeldGrammar b jg d) (on joins) (mp d) (mp2 d2))
    (inner_shrinks : nat_lt 0 b2 ≡ true → (d : Limit) → Shrinks (mp2 d)) where
  bracketed_exact : (d d2 : Limit) → Frees l Deep d d2 → nat_lt 0 b ≡ true → Exact l (BracketedGrammar b jg d) (on compares) (p.bracketed b mp d) (p.bracketed b2 mp2 d2)
  unfolding p.bracketed
  bracketed_exact d d2 F so =
      mark_then s.Open _ _ _ (λ _. seq (inner so d d2 F) (λ m. mark_then s.Close _ _ _ (λ _. after_exact l b b2 R d d2 F m))
      (λ m. meets (same s.Close) joins (on compares) _ (begins_seq _ (begins_mark s.Close)) refl refl))

  bracketed_begins : (d : Limit) → Begins (BracketedGrammar b jg d) (is s.Open)
  bracketed_begins d = begins_seq _ (begins_mark s.Open)

  bracketed_bites : (d d2 : Limit) → Frees l Deep d d2 → nat_lt 0 b2 ≡ true → Bites (p.bracketed b2 mp2 d2) (is s.Open)
  unfolding p.bracketed
  bracketed_bites d d2 F so = bites_mark s.Open _ (λ _. shrinks_seq _ _ (inner_shrinks so d2) (λ m. shrinks_seq _ _ (shrinks_token _) (λ _. (after_exact l b b2 R d d2 F m).shrinks)))

  operand_exact : (d d2 : Limit) → Frees l Deep d d2 → Exact l (ExprOrTest b jg d) (on compares) (p.operand b mp d) (p.operand b2 mp2 d2)
  unfolding p.operand
  operand_exact d d2 F = restate
      (either_within (nat_lt 0 b) (nat_lt 0 b2) Deep (brackets_room l b b2 R d d2 F) (bracketed_exact d d2 F) (λ _. bracketed_bites d d2 F)
      (begun_exact l b b2 R d d2 F) (bracketed_begins d) (meets unopened (same s.Open) (on compares) _ (begun_begins l b b2 R d d2 F) refl refl))
      (to_operand b jg d) (from_operand b jg d)

  operand_begins : (d d2 : Limit) → Frees l Deep d d2 → Begins (ExprOrTest b jg d) (on opens)
  operand_begins d d2 F z us rest n =
      begins_or (where_ (nat_lt 0 b) (BracketedGrammar b jg d)) (BegunGrammar b d) (on opens) (begins_where _ _ _ (begins_in (same s.Open) opens _ (bracketed_begins d) refl refl))
      (begins_in unopened opens _ (begun_begins l b b2 R d d2 F) refl refl) z us rest (from_operand b jg d z us n)

  test_exact : (d d2 : Limit) → Frees l Deep d d2 → Exact l (g.test b jg d) (on compares) (p.simple b mp d) (p.simple b2 mp2 d2)
  unfolding p.simple
  test_exact d d2 F = only_exact (operand_exact d d2 F) (λ e us n. let r = relation_of l b b2 R d d2 F e us n in (r.0, r.1, test_of b jg d r.0 (us ++ r.1) r.2))

  denied_exact : (d d2 : Limit) → Frees l Deep d d2 → Exact l (DeniedGrammar b jg d) (on compares) (p.denied b mp d) (p.denied b2 mp2 d2)
  unfolding p.denied
  denied_exact d d2 F = mark_then s.Not _ _ _ (λ _. mapped (test_exact (fewer d) (fewer d2) (frees_less F)) (λ c. Test (denial c)))

  denied_begins : (d : Limit) → Begins (DeniedGrammar b jg d) (is s.Not)
  denied_begins d = begins_seq _ (begins_mark s.Not)

  denied_bites : (d d2 : Limit) → Frees l Deep d d2 → Bites (p.denied b2 mp2 d2) (is s.Not)
  unfolding p.denied
  denied_bites d d2 F = bites_mark s.Not _ (λ _. shrinks_seq _ _ ((test_exact (fewer d) (fewer d2) (frees_less F)).shrinks) (λ c. shrinks_pure (Test (denial c))))

  first_exact : (d d2 : Limit) → Frees l Deep d d2 → Exact l (ExprOrNegation b jg d) (on compares) (p.first b mp d) (p.first b2 mp2 d2)
  unfolding p.first
  first_exact d d2 F = restate
      (either_within (allows d 1) (allows d2 1) Deep (room_of F 1) (λ _. denied_exact d d2 F) (λ _ _. denied_bites d d2 F)
      (operand_exact d d2 F) (denied_begins d) (meets opens (same s.Not) (on compares) _ (operand_begins d d2 F) refl refl))
      (to_first b jg d) (from_first b jg d)

  negation_exact : (d d2 : Limit) → Frees l Deep d d2 → Exact l (g.negation b jg d) (on compares) (p.negation b mp d) (p.negation b2 mp2 d2)
  unfolding p.negation
  negation_exact d d2 F = only_exact (first_exact d d2 F) (λ e us n. let r = relation_of l b b2 R d d2 F e us n in (r.0, r.1, negation_of b jg d r.0 (us ++ r.1) r.2))

  abbrev rooms : (d d2 : Limit) → Frees l Deep d d2 → (c : Judged) → Room l Deep (may_join d c) (may_join d2 c)
  rooms d d2 F c = room_of F c.levels

  ands_exact : (d d2 : Limit) → Frees l Deep d d2 → (c : Judged) → Exact l (g.ands_from b jg d c) (on conjoins) (p.ands_from b mp d c) (p.ands_from b2 mp2 d2 c)
  unfolding g.ands_from p.ands_from
  ands_exact = grouped_exact l Deep and_op_by s.And tt refl both may_join (on compares) (on conjoins) (g.negation b jg) (p.negation b mp) (p.negation b2 mp2) rooms negation_exact
      (less compares conjoins refl refl) (less (reads and_op_by) conjoins refl refl) (apart (reads and_op_by) compares refl refl)

  ands_meet : (d d2 : Limit) → Frees l Deep d d2 → (c : Judged) → Meets (g.ands_from b jg d c) (on compares) (on conjoins)
  unfolding g.ands_from p.ands_from
  ands_meet = grouped_meets l Deep and_op_by s.And tt refl both may_join (on compares) (on conjoins) (g.negation b jg) (p.negation b mp) (p.negation b2 mp2) rooms negation_exact
      (less compares conjoins refl refl) (less (reads and_op_by) conjoins refl refl) (apart (reads and_op_by) compares refl refl)

  conjunction_exact : (d d2 : Limit) → Frees l Deep d d2 → Exact l (g.conjunction b jg d) (on conjoins) (p.conjunction b mp d) (p.conjunction b2 mp2 d2)
  unfolding g.conjunction p.conjunction
  conjunction_exact d d2 F = seq (negation_exact d d2 F) (ands_exact d d2 F) (ands_meet d d2 F)

  ors_exact : (d d2 : Limit) → Frees l Deep d d2 → (c : Judged) → Exact l (g.ors_from b jg d c) (on joins) (p.ors_from b mp d c) (p.ors_from b2 mp2 d2 c)
  unfolding g.ors_from p.ors_from
  ors_exact = grouped_exact l Deep or_op_by s.Or tt refl one_of may_join (on conjoins) (on joins) (g.conjunction b jg) (p.conjunction b mp) (p.conjunction b2 mp2) rooms conjunction_exact
      (less conjoins joins refl refl) (less (reads or_op_by) joins refl refl) (apart (reads or_op_by) conjoins refl refl)

  ors_meet : (d d2 : Limit) → Frees l Deep d d2 → (c : Judged) → Meets (g.ors_from b jg d c) (on conjoins) (on joins)
  unfolding g.ors_from p.ors_from
  ors_meet = grouped_meets l Deep or_op_by s.Or tt refl one_of may_join (on conjoins) (on joins) (g.conjunction b jg) (p.conjunction b mp) (p.conjunction b2 mp2) rooms conjunction_exact
      (less conjoins joins refl refl) (less (reads or_op_by) joins refl refl) (apart (reads or_op_by) conjoins refl refl)

  joining_exact : (d d2 : Limit) → Frees l Deep d d2 → (c : Judged) → Exact l (JoiningGrammar b jg d c) (on joins) (p.joining b mp d c) (p.joining b2 mp2 d2 c)
  unfolding p.joining
  joining_exact d d2 F c = seq (ands_exact d d2 F c) (ors_exact d d2 F) (ors_meet d d2 F)

  joined_exact : (d d2 : Limit) → Frees l Deep d d2 → (m : Mixed) → Exact l (JoinedGrammar b jg d m) (on joins) (p.joined b mp d m) (p.joined b2 mp2 d2 m)
  joined_exact d d2 F (Value e) = anywhere (pure_exact (Value e))
  joined_exact d d2 F (Test c) = mapped (joining_exact d d2 F c) (λ y. Test y)

  joined_meets : (d d2 : Limit) → Frees l Deep d d2 → (m : Mixed) → Meets (JoinedGrammar b jg d m) (on compares) (on joins)
  joined_meets d d2 F (Value e) = gives_meets (Value e) (on compares) (on joins) (less compares joins refl refl)
  joined_meets d d2 F (Test c) = meets_mapped (JoiningGrammar b jg d c) (λ y. Test y) (on compares) (on joins)
      (meets_seq (g.ands_from b jg d c) (g.ors_from b jg d) (on compares) (on conjoins) (on joins) (ands_meet d d2 F c) (ors_meet d d2 F))

  mixture_exact : (d d2 : Limit) → Frees l Deep d d2 → Exact l (ExprOrCond b jg d) (on joins) (p.mixture b mp d) (p.mixture b2 mp2 d2)
  unfolding p.mixture
  mixture_exact d d2 F = restate (seq (first_exact d d2 F) (joined_exact d d2 F) (joined_meets d d2 F)) (to_mixture b jg d) (from_mixture b jg d)

-- ---- with so many brackets to open

nothing_more : (b : ℕ) → More Nothing b b
nothing_more b = record { stays = λ _. refl; goes = λ h. differ true refl (sym h) }

mixed_same : (b : ℕ) (d d2 : Limit) → Frees Nothing Deep d d2 → Exact Nothing (EitherOf (eg.expr b d) (g.cond b d)) (on joins) (p.mixed b d) (p.mixed b d2)
unfolding g.cond p.mixed eg.below
mixed_same zero = mixture_exact Nothing zero zero (nothing_more zero) _ _ _ (λ so. differ (nat_lt 0 0) so refl) (λ so. differ (nat_lt 0 0) so refl)
mixed_same (suc b) = mixture_exact Nothing (suc b) (suc b) (nothing_more (suc b)) _ _ _ (λ _. mixed_same b) (λ _ d. (mixed_same b d d (nothing_freed d)).shrinks)

mixed_exact : (l : Freed) (b b2 : ℕ) → More l b b2 → (d d2 : Limit) → Frees l Deep d d2 → Exact l (EitherOf (eg.expr b d) (g.cond b d)) (on joins) (p.mixed b d) (p.mixed b2 d2)
unfolding g.cond p.mixed eg.below
mixed_exact l zero zero R = mixture_exact l zero zero R _ _ _ (λ so. differ (nat_lt 0 0) so refl) (λ so. differ (nat_lt 0 0) so refl)
mixed_exact l zero (suc b2) R = mixture_exact l zero (suc b2) R _ _ _ (λ so. differ (nat_lt 0 0) so refl) (λ _ d. (mixed_same b2 d d (nothing_freed d)).shrinks)
mixed_exact l (suc b) zero R = λ d d2 F. absurd (wrong (which (frees l Deep)))
  where
    wrong : (frees l Deep ≡ true) ⊎ (frees l Deep ≡ false) → ⊥
    wrong (inl t) = let more = R.goes t in omega arith
    wrong (inr f) = let same_ = R.stays f in omega arith
mixed_exact l (suc b) (suc b2) R = mixture_exact l (suc b) (suc b2) R _ _ _ (λ _. mixed_exact l b b2 down) (λ _ d. (mixed_same b2 d d (nothing_freed d)).shrinks)
  where
    down : More l b b2
    down = record { stays = λ f. let e = R.stays f in omega arith; goes = λ t. let e = R.goes t in omega arith }

cond_of : (b : ℕ) (d : Limit) (c : Judged) (us : Lexemes) → g.relation b d c us → g.cond b d c us
unfolding g.cond
cond_of zero d c us n = disjunction_of zero _ d c us n
cond_of (suc b) d c us n = disjunction_of (suc b) _ d c us n

-- Conditions are read exactly.
pub cond_exact : (l : Freed) (b b2 : ℕ) → More l b b2 → (d d2 : Limit) → Frees l Deep d d2 → Exact l (g.cond b d) (on joins) (p.cond b d) (p.cond b2 d2)
unfolding p.cond
cond_exact l b b2 R d d2 F = only_exact (mixed_exact l b b2 R d d2 F) (λ e us n. let r = relation_of l b b2 R d d2 F e us n in (r.0, r.1, cond_of b d r.0 (us ++ r.1) r.2))
