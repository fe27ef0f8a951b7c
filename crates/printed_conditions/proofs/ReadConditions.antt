-- The words of a readable condition are read as it.
use Rattle.std.proofs.Common.{◌≡◌, ℕ, zero, suc, ◌+◌, ◌-◌, ◌<◌, ◌≤◌, max, Bool, true, false, nat_lt, List, [], ◌∷◌, ◌++◌, Some, refl, sym, ap, subst, append-nil, append_assoc, arith}
use Rattle.std.specs.Prelude.{codes}
use Rattle.std.proofs.lemmas.Bool.{and_parts}
use Rattle.std.proofs.lemmas.Bool.Decides.{nat_tests}
use Rattle.tokens.specs.Lexeme.{Lexeme}
use Rattle.fl_ast.specs.declared.kind.RelOp.{RelOp}
use Rattle.fl_ast.specs.Tree.{Expression, Condition, relation, negation, conjunction, disjunction}
use Rattle.fl_ast.specs.Measures.{depth, condition_depth}
use Rattle.fl_ast.specs.Readable.{is_readable, is_readable_condition}
use Rattle.parsing.specs.Limit.{Limit}
use Rattle.parsing.specs.Reading.{Lexemes}
use Rattle.parsing.specs.Grammar.{Grammar}
use Rattle.fl_conditions.specs.declared.tree.Judged.{Judged}
use Rattle.fl_conditions.specs.CondGrammar as g
use Rattle.fl_printer.specs.declared.spaced.Spaced.{Spaced}
use Rattle.fl_printer.specs.Words.{spaced, joined, apart, relation_text, inside, expression_words, condition_words}
use Rattle.fl_printer.proofs.Tokens.{Class, Calm}
use Rattle.fl_printer.proofs.Flow.{ready, condition_flows}
use Rattle.fl_printed.specs.Fits.{Fits}
use Rattle.fl_printed.specs.ReadBack.{AreOf, IsReadAs}
use Rattle.fl_printed.proofs.Signs.{open_read, close_read}
use Rattle.fl_printed.proofs.Lexed.{Lexed, first, none, parts, lexed}
use Rattle.fl_printed.proofs.ReadExpressions.{depth_some, operand_read}
use Rattle.printed_conditions.specs.Conditions.{IsJudgedAs}
use Rattle.printed_conditions.proofs.Relations.{relation_read, not_read, and_read, or_read}
use Rattle.printed_conditions.proofs.ConditionRules as rule

-- what a condition in a bracket is, with so many brackets to open
below : ℕ → Limit → Grammar Judged
below zero = λ d c us. ⊥
below (suc b) = g.cond b

abbrev Operand : ℕ → ℕ → Lexemes → Condition → Type 0
Operand b = rule.Test b (below b)

abbrev Whole : ℕ → ℕ → Lexemes → Condition → Type 0
Whole b = rule.Disjunction b (below b)

cond_at : (b d : ℕ) (us : Lexemes) (c : Condition) → Whole b d us c → IsJudgedAs (g.cond b (Some d)) us c
unfolding g.cond below
cond_at zero d us c R = record { value = R.value; tree = R.tree; levels = R.levels; reads = R.reads }
cond_at (suc b) d us c R = record { value = R.value; tree = R.tree; levels = R.levels; reads = R.reads }

inner_at : (b d : ℕ) (us : Lexemes) (c : Condition) → Whole b d us c → IsJudgedAs (below (suc b) (Some d)) us c
unfolding below
inner_at b d us c R = cond_at b d us c R

some : (b : ℕ) → nat_lt 0 (suc b) ≡ true
some b = grind (arith, nat_tests)

two_levels : (c : Condition) → 2 ≤ condition_depth c
two_levels (relation o a b) = let some_ = depth_some a in omega arith
two_levels (negation a) = let more = two_levels a in omega arith
two_levels (conjunction a b) = let more = two_levels a in omega arith
two_levels (disjunction a b) = let more = two_levels a in omega arith

abbrev IsReadBack : Condition → Type 0
IsReadBack c = is_readable_condition c ≡ true → (b d : ℕ) → condition_depth c ≤ b + 2 → condition_depth c ≤ d + 2 → (blank : Bool) (us : Lexemes) → Lexed us (condition_words false blank c) → Whole b d us c

-- an operand stands in a bracket
bracket : (c : Condition) (blank : Bool) → condition_words true blank c ≡ spaced blank (codes "(") ∷ (condition_words false false c ++ joined (codes ")") ∷ [])
bracket (relation o x y) true = by (expression_words true false x) (expression_words true true y)
  where
    by : (vs ws : List Spaced) → spaced true (codes "(") ∷ (vs ++ (apart (relation_text o) ∷ (ws ++ joined (codes ")") ∷ []))) ≡ spaced true (codes "(") ∷ ((vs ++ (apart (relation_text o) ∷ (ws ++ []))) ++ joined (codes ")") ∷ [])
    by vs ws = simp (append_assoc, append-nil)
bracket (relation o x y) false = by (expression_words true false x) (expression_words true true y)
  where
    by : (vs ws : List Spaced) → spaced false (codes "(") ∷ (vs ++ (apart (relation_text o) ∷ (ws ++ joined (codes ")") ∷ []))) ≡ spaced false (codes "(") ∷ ((vs ++ (apart (relation_text o) ∷ (ws ++ []))) ++ joined (codes ")") ∷ [])
    by vs ws = simp (append_assoc, append-nil)
bracket (negation a) true = by (condition_words true true a)
  where
    by : (ws : List Spaced) → spaced true (codes "(") ∷ (spaced false (codes ".not.") ∷ (ws ++ joined (codes ")") ∷ [])) ≡ spaced true (codes "(") ∷ ((spaced false (codes ".not.") ∷ (ws ++ [])) ++ joined (codes ")") ∷ [])
    by ws = simp append-nil
bracket (negation a) false = by (condition_words true true a)
  where
    by : (ws : List Spaced) → spaced false (codes "(") ∷ (spaced false (codes ".not.") ∷ (ws ++ joined (codes ")") ∷ [])) ≡ spaced false (codes "(") ∷ ((spaced false (codes ".not.") ∷ (ws ++ [])) ++ joined (codes ")") ∷ [])
    by ws = simp append-nil
bracket (conjunction x y) true = by (condition_words true false x) (condition_words true true y)
  where
    by : (vs ws : List Spaced) → spaced true (codes "(") ∷ (vs ++ (apart (codes ".and.") ∷ (ws ++ joined (codes ")") ∷ []))) ≡ spaced true (codes "(") ∷ ((vs ++ (apart (codes ".and.") ∷ (ws ++ []))) ++ joined (codes ")") ∷ [])
    by vs ws = simp (append_assoc, append-nil)
bracket (conjunction x y) false = by (condition_words true false x) (condition_words true true y)
  where
    by : (vs ws : List Spaced) → spaced false (codes "(") ∷ (vs ++ (apart (codes ".and.") ∷ (ws ++ joined (codes ")") ∷ []))) ≡ spaced false (codes "(") ∷ ((vs ++ (apart (codes ".and.") ∷ (ws ++ []))) ++ joined (codes ")") ∷ [])
    by vs ws = simp (append_assoc, append-nil)
bracket (disjunction x y) true = by (condition_words true false x) (condition_words true true y)
  where
    by : (vs ws : List Spaced) → spaced true (codes "(") ∷ (vs ++ (apart (codes ".or.") ∷ (ws ++ joined (codes ")") ∷ []))) ≡ spaced true (codes "(") ∷ ((vs ++ (apart (codes ".or.") ∷ (ws ++ []))) ++ joined (codes ")") ∷ [])
    by vs ws = simp (append_assoc, append-nil)
bracket (disjunction x y) false = by (condition_words true false x) (condition_words true true y)
  where
    by : (vs ws : List Spaced) → spaced false (codes "(") ∷ (vs ++ (apart (codes ".or.") ∷ (ws ++ joined (codes ")") ∷ []))) ≡ spaced false (codes "(") ∷ ((vs ++ (apart (codes ".or.") ∷ (ws ++ []))) ++ joined (codes ")") ∷ [])
    by vs ws = simp (append_assoc, append-nil)

in_bracket : (c : Condition) (b d : ℕ) (blank : Bool) (us : Lexemes) → condition_depth c ≤ b + 1 → condition_depth c ≤ d + 2 → is_readable_condition c ≡ true → IsReadBack c →
    Lexed us (condition_words true blank c) → Operand b d us c
in_bracket c zero d blank us i j r f l = absurd (let two = two_levels c in omega (arith, i, two))
in_bracket c (suc b) d blank us i j r f l =
    first us _ _ (λ v. Operand (suc b) d v c) (subst (Lexed us) (bracket c blank) l) (λ t1 rest p m.
    parts rest (condition_words false false c) _ (λ v. Operand (suc b) d (t1 ∷ v) c) m (λ vs ws q n.
    first ws _ _ (λ v. Operand (suc b) d (t1 ∷ (vs ++ v)) c) n (λ t2 last e o.
    none last (λ v. Operand (suc b) d (t1 ∷ (vs ++ t2 ∷ v)) c) o
    (rule.bracket_rule (suc b) (below (suc b)) d vs c t1 t2 t1.line t2.line (some b) (inner_at b d vs c (f r b d (omega (arith, i)) j false vs q)) (open_read t1 p) (close_read t2 e)))))

-- ---- each kind of condition

relation_back : (o : RelOp) (x y : Expression) → IsReadBack (relation o x y)
relation_back o x y r b d i j blank us l =
    let p = and_parts (is_readable x) (is_readable y) r in
    let Goal : Lexemes → Type 0 = λ v. Whole b d v (relation o x y) in
    parts us (expression_words true (inside false blank) x) _ Goal l (λ vs rest q m.
    first rest _ _ (λ v. Goal (vs ++ v)) m (λ t ws e n.
    rule.disjunction_of b (below b) d _ _ (rule.conjunction_of b (below b) d _ _ (rule.negation_of b (below b) d _ _ (rule.test_of b (below b) d _ _
    (rule.relation_rule b d vs ws t o x y (operand_read x b d (inside false blank) vs p.0 (omega (arith, i)) (omega (arith, j)) q) (relation_read o t e)
    (operand_read y b d true ws p.1 (omega (arith, i)) (omega (arith, j)) (subst (Lexed ws) (append-nil (expression_words true true y)) n))))))))

negation_back : (a : Condition) → IsReadBack a → IsReadBack (negation a)
negation_back a f r b d i j blank us l =
    let two = two_levels a in
    first us _ _ (λ v. Whole b d v (negation a)) l (λ t rest e m.
    rule.disjunction_of b (below b) d _ _ (rule.conjunction_of b (below b) d _ _
    (rule.denial_rule b (below b) d rest a t t.line
    (in_bracket a b (d - 1) true rest (omega (arith, i)) (omega (arith, j, two)) r f (subst (Lexed rest) (append-nil (condition_words true true a)) m)) (omega (arith, j, two)) (not_read t e))))

conjunction_back : (x y : Condition) → IsReadBack x → IsReadBack y → IsReadBack (conjunction x y)
conjunction_back x y f h r b d i j blank us l =
    let p = and_parts (is_readable_condition x) (is_readable_condition y) r in
    let two = two_levels x in
    let Goal : Lexemes → Type 0 = λ v. Whole b d v (conjunction x y) in
    parts us (condition_words true (inside false blank) x) _ Goal l (λ vs rest q m.
    first rest _ _ (λ v. Goal (vs ++ v)) m (λ t ws e n.
    rule.disjunction_of b (below b) d _ _
    (rule.and_rule b (below b) d vs ws t x y
    (rule.negation_of b (below b) d vs x (in_bracket x b d (inside false blank) vs (omega (arith, i)) (omega (arith, j)) p.0 f q)) (omega (arith, j)) (and_read t e)
    (rule.negation_of b (below b) (d - 1) ws y (in_bracket y b (d - 1) true ws (omega (arith, i)) (omega (arith, j, two)) p.1 h (subst (Lexed ws) (append-nil (condition_words true true y)) n))))))

disjunction_back : (x y : Condition) → IsReadBack x → IsReadBack y → IsReadBack (disjunction x y)
disjunction_back x y f h r b d i j blank us l =
    let p = and_parts (is_readable_condition x) (is_readable_condition y) r in
    let two = two_levels x in
    let Goal : Lexemes → Type 0 = λ v. Whole b d v (disjunction x y) in
    parts us (condition_words true (inside false blank) x) _ Goal l (λ vs rest q m.
    first rest _ _ (λ v. Goal (vs ++ v)) m (λ t ws e n.
    rule.or_rule b (below b) d vs ws t x y
    (rule.conjunction_of b (below b) d vs x (rule.negation_of b (below b) d vs x (in_bracket x b d (inside false blank) vs (omega (arith, i)) (omega (arith, j)) p.0 f q))) (omega (arith, j)) (or_read t e)
    (rule.conjunction_of b (below b) (d - 1) ws y (rule.negation_of b (below b) (d - 1) ws y
    (in_bracket y b (d - 1) true ws (omega (arith, i)) (omega (arith, j, two)) p.1 h (subst (Lexed ws) (append-nil (condition_words true true y)) n))))))

read_back : (c : Condition) → IsReadBack c
read_back (relation o x y) = relation_back o x y
read_back (negation a) = negation_back a (read_back a)
read_back (conjunction x y) = conjunction_back x y (read_back x) (read_back y)
read_back (disjunction x y) = disjunction_back x y (read_back x) (read_back y)

pub condition_read : (c : Condition) (blank : Bool) (b d : ℕ) (us : Lexemes) → is_readable_condition c ≡ true → condition_depth c ≤ b + 2 → condition_depth c ≤ d + 2 → Lexed us (condition_words false blank c) → IsJudgedAs (g.cond b (Some d)) us c
condition_read c blank b d us r i j l = cond_at b d us c (read_back c r b d i j blank us l)

calm_ready : (blank : Bool) → ready blank Calm ≡ true
calm_ready true = refl
calm_ready false = refl

pub conditions_read : (c : Condition) (blank : Bool) (b d : ℕ) (us : Lexemes) → is_readable_condition c ≡ true → condition_depth c ≤ b + 2 → condition_depth c ≤ d + 2 → AreOf us (condition_words false blank c) → IsJudgedAs (g.cond b (Some d)) us c
conditions_read c blank b d us r i j l =
    let f = condition_flows c r false blank Calm (calm_ready blank) in
    condition_read c blank b d us r i j (lexed us (condition_words false blank c) Calm f.to f.flow l)
