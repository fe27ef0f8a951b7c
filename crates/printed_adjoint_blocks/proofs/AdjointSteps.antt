-- Rules of the grammar of an adjoint's statements: what is read of the parts is read of the whole.
use Rattle.std.proofs.Common.{◌≡◌, ℕ, zero, suc, Bool, true, false, not, [], ◌∷◌, ◌++◌, Some, None, refl, sym, ap, subst, ◌∙◌, inl, inr, append-nil, append_assoc}
use Rattle.tokens.specs.Lexeme.{Lexeme}
use Rattle.fl_ast.specs.declared.directive.Directive.{Directive}
use Rattle.parsing.specs.declared.symbol.Symbol.TheVariants as s
use Rattle.parsing.specs.Reading.{Lexemes}
use Rattle.parsing.specs.Terminal.{marked, word_of}
use Rattle.parsing.specs.Grammar.{Grammar, times, many}
use Rattle.omp_clauses.specs.LineGrammar as omp
use Rattle.fl_conditions.specs.declared.tree.Judged.{Judged}
use Rattle.adjoint_statements.specs.declared.block.Block.{Block}
use Rattle.fl_statements.specs.declared.block.LoopLine.{LoopLine}
use Rattle.adjoint_statements.specs.declared.branch.Branch.{Branch}
use Rattle.adjoint_statements.specs.Rooms.{the_limits}
use Rattle.fl_statements.specs.Terminals.{then_word}
use Rattle.adjoint_statements.specs.Trees.{block_from, next_loop, parts_of, looped, first_branch, with_arm, with_other, branched}
use Rattle.fl_statements.specs.StmtGrammar as plain
use Rattle.adjoint_statements.specs.AdjointStmtGrammar as g

-- a statement of a block, in which so many blocks may stand in each other
abbrev pub one_of : ℕ → Bool → Block → Grammar Block
one_of zero inside = g.stmt the_limits false (λ within_ c x us. ⊥) inside
one_of (suc n) inside = g.stmt the_limits true (g.stmts the_limits n) inside

-- ---- lists

pub no_more : (n : ℕ) (inside : Bool) (c : Block) → g.stmts the_limits n inside c c []
unfolding g.stmts g.block
no_more zero inside c = (zero, (refl, refl))
no_more (suc n) inside c = (zero, (refl, refl))

pub one_more : (n : ℕ) (inside : Bool) (c m x : Block) (vs ws : Lexemes) → one_of n inside c m vs → g.stmts the_limits n inside m x ws → g.stmts the_limits n inside c x (vs ++ ws)
unfolding g.stmts g.block
one_more zero inside c m x vs ws o k = (suc k.0, (m, vs, ws, o, k.1, refl))
one_more (suc n) inside c m x vs ws o k = (suc k.0, (m, vs, ws, o, k.1, refl))

times_on : {A : Type 0} (step : A → Grammar A) (n : ℕ) (a b c : A) (vs ws : Lexemes) → times step n a b vs → many step b c ws → many step a c (vs ++ ws)
times_on {A} step zero a b c vs ws t m = subst (λ (v : Lexemes). many step a c (v ++ ws)) (sym t.1) (subst (λ (x : A). many step x c ws) t.0 m)
times_on step (suc n) a b c vs ws (z, as', bs, s, t, e) m =
    let more = times_on step n z b c bs ws t m in
    (suc more.0, (z, as', bs ++ ws, s, more.1, ap (λ v. v ++ ws) e ∙ append_assoc as' bs ws))

-- ---- assignments

pub plain_assign : (n : ℕ) (inside : Bool) (c x : Block) (us : Lexemes) → g.assign the_limits false c x us → one_of n inside c x us
unfolding g.stmt
plain_assign zero inside c x us a = inl a
plain_assign (suc n) inside c x us a = inl a

atomic_by : (may : Bool) (inner : Bool → Block → Grammar Block) (inside : Bool) (c x : Block) (t1 t2 e : Lexeme) (us : Lexemes) →
    marked s.Sentinel t1 ≡ Some t1.line → marked s.Atomic t2 ≡ Some t2.line → marked s.LineEnd e ≡ Some e.line → g.assign the_limits true c x us →
    g.stmt the_limits may inner inside c x (t1 ∷ t2 ∷ e ∷ us)
unfolding g.stmt g.directive g.after_sentinel g.atomic omp.atomic omp.after_atomic
atomic_by may inner inside c x t1 t2 e us i j k a =
    inr (inr (inr (inr (
      t1.line,
      t1 ∷ [],
      t2 ∷ e ∷ us,
      (t1, i, refl),
      inr (inl (e.line, t2 ∷ e ∷ [], us, (t2.line, t2 ∷ [], e ∷ [], (t2, j, refl), inr (e, k, refl), refl), a, refl)),
      refl,
    ))))

pub atomic_assign : (n : ℕ) (inside : Bool) (c x : Block) (t1 t2 e : Lexeme) (us : Lexemes) →
    marked s.Sentinel t1 ≡ Some t1.line → marked s.Atomic t2 ≡ Some t2.line → marked s.LineEnd e ≡ Some e.line → g.assign the_limits true c x us → one_of n inside c x (t1 ∷ t2 ∷ e ∷ us)
atomic_assign zero inside c x t1 t2 e us i j k a = atomic_by false (λ within_ c x us. ⊥) inside c x t1 t2 e us i j k a
atomic_assign (suc n) inside c x t1 t2 e us i j k a = atomic_by true (g.stmts the_limits n) inside c x t1 t2 e us i j k a

-- ---- calls of the tape

pub tape_call : (n : ℕ) (inside : Bool) (c x : Block) (us : Lexemes) → g.call the_limits c x us → one_of n inside c x us
unfolding g.stmt
tape_call zero inside c x us a = inr (inr (inr (inl a)))
tape_call (suc n) inside c x us a = inr (inr (inr (inl a)))

-- ---- loops

parts_by : (inner : Bool → Block → Grammar Block) (inside within_ : Bool) (loops_ : ℕ) (h : LoopLine) (body : Block) (line : ℕ) (us vs ws : Lexemes) →
    plain.loop_line the_limits h us → inner within_ (block_from (next_loop loops_)) body vs → plain.end_do line ws →
    g.loop_parts the_limits true inner inside within_ loops_ (parts_of h body) (us ++ (vs ++ ws))
unfolding g.loop_parts
parts_by inner inside within_ loops_ h body line us vs ws l b e =
    (h, us, vs ++ ws, l, (body, vs, ws, b, (line, ws, [], e, (refl, refl), sym (append-nil ws)), refl), refl)

pub plain_loop : (m : ℕ) (inside : Bool) (c : Block) (h : LoopLine) (body : Block) (line : ℕ) (us vs ws : Lexemes) →
    plain.loop_line the_limits h us → g.stmts the_limits m inside (block_from (next_loop c.loops)) body vs → plain.end_do line ws →
    one_of (suc m) inside c (looped c None (parts_of h body)) (us ++ (vs ++ ws))
unfolding g.stmt g.do_stmt
plain_loop m inside c h body line us vs ws l b e =
    let all = us ++ (vs ++ ws) in
    inr (inl (refl, (parts_of h body, all, [], parts_by (g.stmts the_limits m) inside inside c.loops h body line us vs ws l b e, (refl, refl), sym (append-nil all))))

pub parallel_loop : (m : ℕ) (c : Block) (t : Lexeme) (d : Directive) (ds : Lexemes) (h : LoopLine) (body : Block) (line : ℕ) (us vs ws : Lexemes) →
    marked s.Sentinel t ≡ Some t.line → omp.parallel_do true t.line d ds →
    plain.loop_line the_limits h us → g.stmts the_limits m true (block_from (next_loop c.loops)) body vs → plain.end_do line ws →
    one_of (suc m) false c (looped c (Some d) (parts_of h body)) (t ∷ (ds ++ (us ++ (vs ++ ws))))
unfolding g.stmt g.directive g.after_sentinel g.parallel
parallel_loop m c t d ds h body line us vs ws i k l b e =
    let all = us ++ (vs ++ ws) in
    inr (inr (inr (inr (
      t.line,
      t ∷ [],
      ds ++ all,
      (t, i, refl),
      inl (refl, (refl, (d, ds, all, k, (parts_of h body, all, [], parts_by (g.stmts the_limits m) false true c.loops h body line us vs ws l b e, (refl, refl), sym (append-nil all)), refl))),
      refl,
    ))))

-- ---- parts of Ifs

-- arms and an `else` lead from what is read of an If to what is read of it then
abbrev pub Leads : ℕ → Bool → Branch → Branch → Lexemes → Type 0
Leads m inside = g.parts the_limits true (g.stmts the_limits m) inside

pub no_part : (m : ℕ) (inside : Bool) (b : Branch) → Leads m inside b b []
unfolding g.parts
no_part m inside b = (zero, (refl, refl))

pub leads_on : (m : ℕ) (inside : Bool) (a b c : Branch) (vs ws : Lexemes) → Leads m inside a b vs → Leads m inside b c ws → Leads m inside a c (vs ++ ws)
unfolding g.parts
leads_on m inside a b c vs ws p q = times_on _ p.0 a b c vs ws p.1 q

-- behind `else if`
pub next_arm : (m : ℕ) (inside : Bool) (b : Branch) (t1 t2 t3 e : Lexeme) (test : Judged) (gs : Lexemes) (body : Block) (bs : Lexemes) → not b.closed ≡ true →
    marked s.Else t1 ≡ Some t1.line → marked s.If t2 ≡ Some t2.line → plain.guard the_limits test gs → marked s.Then t3 ≡ Some t3.line → marked s.LineEnd e ≡ Some e.line →
    g.stmts the_limits m inside (block_from b.loops) body bs → Leads m inside b (with_arm b test.cond body) (t1 ∷ t2 ∷ (gs ++ t3 ∷ e ∷ bs))
unfolding g.parts g.part g.after_else g.another_arm
next_arm m inside b t1 t2 t3 e test gs body bs o i j k l n r =
    let all = gs ++ t3 ∷ e ∷ bs in (
      suc zero,
      (
        with_arm b test.cond body,
        t1 ∷ t2 ∷ all,
        [],
        (o, inr (t1.line, t1 ∷ [], t2 ∷ all, (t1, i, refl), inl (t2.line, t2 ∷ [], all, (t2, j, refl), (test, gs, t3 ∷ e ∷ bs, k, (t3.line, t3 ∷ [], e ∷ bs, (t3, l, refl), (e.line, e ∷ [], bs, (e, n, refl), (body, bs, [], r, (refl, refl), sym (append-nil bs)), refl), refl), refl), refl), refl)),
        (refl, refl),
        sym (append-nil (t1 ∷ t2 ∷ all)),
      ),
    )

pub the_else : (m : ℕ) (inside : Bool) (b : Branch) (t e : Lexeme) (body : Block) (bs : Lexemes) → not b.closed ≡ true → marked s.Else t ≡ Some t.line → marked s.LineEnd e ≡ Some e.line →
    g.stmts the_limits m inside (block_from b.loops) body bs → Leads m inside b (with_other b body) (t ∷ e ∷ bs)
unfolding g.parts g.part g.after_else g.last_part
the_else m inside b t e body bs o i n r = (
  suc zero,
  (
    with_other b body,
    t ∷ e ∷ bs,
    [],
    (o, inr (t.line, t ∷ [], e ∷ bs, (t, i, refl), inr (e.line, e ∷ [], bs, (e, n, refl), (body, bs, [], r, (refl, refl), sym (append-nil bs)), refl), refl)),
    (refl, refl),
    sym (append-nil (t ∷ e ∷ bs)),
  ),
)

-- ---- Ifs

pub the_if : (m : ℕ) (inside : Bool) (c : Block) (t1 t2 e : Lexeme) (test : Judged) (gs : Lexemes) (body : Block) (bs : Lexemes) (found : Branch) (ps : Lexemes) (line : ℕ) (es : Lexemes) →
    marked s.If t1 ≡ Some t1.line → plain.guard the_limits test gs → then_word t2 ≡ Some (word_of t2) → marked s.LineEnd e ≡ Some e.line →
    g.stmts the_limits m inside (block_from c.loops) body bs → Leads m inside (first_branch t1.line test.cond body) found ps → plain.end_if line es →
    one_of (suc m) inside c (branched c found) (t1 ∷ (gs ++ t2 ∷ e ∷ (bs ++ (ps ++ es))))
unfolding g.stmt g.if_stmt g.after_guard g.then_part g.after_then g.block_if g.first_arm
the_if m inside c t1 t2 e test gs body bs found ps line es i k l n b p f =
    let rest = e ∷ (bs ++ (ps ++ es)) in
    inr (inr (inl (refl, (t1.line, t1 ∷ [], gs ++ t2 ∷ rest, (t1, i, refl), (test, gs, t2 ∷ rest, k, inr (word_of t2, t2 ∷ [], rest, (t2, l, refl), inr (first_branch t1.line test.cond body, e ∷ bs, ps ++ es, (e.line, e ∷ [], bs, (e, n, refl), (body, bs, [], b, (refl, refl), sym (append-nil bs)), refl), (found, ps, es, p, (line, es, [], f, (refl, refl), sym (append-nil es)), refl), refl), refl), refl), refl))))

-- ---- blocks one behind the other

pub blocks_on : (n : ℕ) (inside : Bool) (a b c : Block) (vs ws : Lexemes) → g.stmts the_limits n inside a b vs → g.stmts the_limits n inside b c ws → g.stmts the_limits n inside a c (vs ++ ws)
unfolding g.stmts g.block
blocks_on zero inside a b c vs ws p q = times_on _ p.0 a b c vs ws p.1 q
blocks_on (suc n) inside a b c vs ws p q = times_on _ p.0 a b c vs ws p.1 q
