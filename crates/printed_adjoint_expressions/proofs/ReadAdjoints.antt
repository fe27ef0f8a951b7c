-- The words of a readable expression of an adjoint are read as it.
use Rattle.std.proofs.Common.{◌≡◌, ℕ, zero, suc, ◌+◌, ◌-◌, ◌<◌, ◌≤◌, max, Bool, true, false, ◌&&◌, nat_lt, List, [], ◌∷◌, ◌++◌, Some, refl, sym, ap, subst, append-nil, append_assoc, arith}
use Rattle.std.specs.Prelude.{nat_le, ◌==◌, codes, decimal}
use Rattle.std.proofs.lemmas.Bool.{and_parts}
use Rattle.std.proofs.lemmas.Bool.Decides.{nat_tests}
use Rattle.tokens.specs.declared.TokenKind.TheVariants.{Word as word_kind}
use Rattle.tokens.specs.Lexeme.{Lexeme}
use Rattle.fl_ast.specs.declared.kind.Kind.{Kind}
use Rattle.fl_ast.specs.declared.kind.Kind.TheVariants as kind
use Rattle.fl_ast.specs.declared.adjoint.AExpr.TheVariants.{Lit}
use Rattle.fl_ast.specs.declared.kind.BinOp.{BinOp}
use Rattle.fl_ast.specs.declared.kind.BinOp.TheVariants as op
use Rattle.fl_ast.specs.declared.kind.Fun.{Fun}
use Rattle.fl_ast.specs.declared.kind.Fun.TheVariants as fun
use Rattle.fl_ast.specs.Tree.{Expressions, no_expressions, expression, Designator, Condition, relation, negation, conjunction, disjunction}
use Rattle.fl_ast.specs.AdjointTree.{AdjointExpression, adjoint_literal, adjoint_get, adjoint_minus, adjoint_binary, adjoint_power, adjoint_call, merge, AdjointExpressions, no_adjoint_expressions, adjoint_expression}
use Rattle.fl_ast.specs.Induction.{AdjointExpressionCases, adjoint_expression_induction}
use Rattle.fl_ast.specs.Measures.{deepest, condition_depth}
use Rattle.fl_ast.specs.Readable.{is_variable, are_readable, is_readable_condition, arity}
use Rattle.fl_ast.specs.ReadableAdjoint.{is_readable_adjoint, are_readable_adjoints, number_of_adjoints, adjoint_depth, deepest_adjoint}
use Rattle.parsing.specs.declared.symbol.Symbol.TheVariants as s
use Rattle.parsing.specs.Reading.{Lexemes}
use Rattle.parsing.specs.Symbol.{symbol_by}
use Rattle.parsing.specs.Terminal.{marked}
use Rattle.fl_lexer.specs.Pieces.{piece_of}
use Rattle.adjoint_expressions.specs.declared.tree.AMeasured.{AMeasured}
use Rattle.fl_expressions.specs.Terminals.{pairing}
use Rattle.fl_expressions.specs.Trees.{kind_of}
use Rattle.fl_printer.proofs.Tokens.{suffix_of_kind}
use Rattle.adjoint_expressions.specs.AdjointGrammar as g
use Rattle.fl_printer.specs.declared.spaced.Spaced.{Spaced}
use Rattle.fl_printer.specs.Words.{spaced, joined, operator_text, function_text, literal_text, inside, subscript_words, condition_words, adjoint_words, adjoints_from}
use Rattle.fl_printed.specs.Fits.{Fits}
use Rattle.fl_printed.proofs.Spelled.{symbol_is, marked_is, name_read, number_read}
use Rattle.fl_printed.proofs.Signs.{open_read, close_read, comma_read, minus_read as minus_sign, power_read as power_sign}
use Rattle.fl_printed.proofs.Operators.{plus_op, minus_op, star_op, slash_op, max_read, min_read, mod_read, abs_read, plain, exponent_read}
use Rattle.fl_printed.proofs.Lexed.{Lexed, first, none, parts}
use Rattle.fl_printed.proofs.ReadExpressions.{subscripts_back, depth_some as plain_depth_some, all_read_back as all_read_back_plain}
use Rattle.printed_conditions.proofs.ReadConditions.{condition_read}
use Rattle.printed_adjoint_expressions.specs.AdjointReadBack.{AreEachOf, IsAdjointReadAs}
use Rattle.printed_adjoint_expressions.proofs.AdjointRules as rule

pub merge_read : (t : Lexeme) → Fits t (codes "merge") → marked s.Merge t ≡ Some t.line
unfolding piece_of symbol_by
merge_read t f = marked_is s.Merge s.Merge t refl (symbol_is t (codes "merge") word_kind (codes "merge") refl f)

two_levels : (c : Condition) → 2 ≤ condition_depth c
two_levels (relation o a b) = let some_ = plain_depth_some a in omega arith
two_levels (negation a) = let more = two_levels a in omega arith
two_levels (conjunction a b) = let more = two_levels a in omega arith
two_levels (disjunction a b) = let more = two_levels a in omega arith

-- ---- with so many brackets to open, and so many levels beneath the root

abbrev pub Operand : ℕ → ℕ → Lexemes → AdjointExpression → Type 0
Operand b = rule.Primary b (g.adjoint_below b)

abbrev pub Whole : ℕ → ℕ → Lexemes → AdjointExpression → Type 0
Whole b = rule.Sum b (g.adjoint_below b)

whole_operand : (b d : ℕ) (us : Lexemes) (e : AdjointExpression) → Operand b d us e → Whole b d us e
whole_operand b d us e R =
    rule.sum_of b (g.adjoint_below b) d us e (rule.term_of b (g.adjoint_below b) d us e (rule.factor_of b (g.adjoint_below b) d us e R))

some : (b : ℕ) → nat_lt 0 (suc b) ≡ true
some b = grind (arith, nat_tests)

sum_at : (b d : ℕ) (m : AMeasured) (us : Lexemes) → g.sum b (g.adjoint_below b) (Some d) m us → g.adjoint_expr b (Some d) m us
unfolding g.adjoint_expr g.adjoint_below
sum_at zero d m us n = n
sum_at (suc b) d m us n = n

pub expr_at : (b d : ℕ) (us : Lexemes) (e : AdjointExpression) → Whole b d us e → IsAdjointReadAs (g.adjoint_expr b (Some d)) us e
expr_at b d us e R = record { value = R.value; tree = R.tree; levels = R.levels; reads = sum_at b d R.value us R.reads }

inner_at : (b d : ℕ) (us : Lexemes) (e : AdjointExpression) → Whole b d us e → IsAdjointReadAs (g.adjoint_below (suc b) (Some d)) us e
unfolding g.adjoint_below
inner_at b d us e R = expr_at b d us e R

pub depth_some : (e : AdjointExpression) → 0 < adjoint_depth e
depth_some (adjoint_literal n k) = omega arith
depth_some (adjoint_get p) = omega arith
depth_some (adjoint_minus a) = omega arith
depth_some (adjoint_binary o a b) = omega arith
depth_some (adjoint_power a n) = omega arith
depth_some (adjoint_call f s) = omega arith
depth_some (merge a b test) = omega arith

-- ---- the law

-- An expression, whole or as an operand. Each operand is a level deeper, and opens a bracket at most.
abbrev pub IsReadBack : AdjointExpression → Type 0
IsReadBack e = is_readable_adjoint e ≡ true → (b d : ℕ) → adjoint_depth e ≤ b + 1 → adjoint_depth e ≤ d + 1 → (blank : Bool) (us : Lexemes) →
    (Lexed us (adjoint_words false blank e) → Whole b d us e) × (Lexed us (adjoint_words true blank e) → Operand b d us e)

abbrev pub AreReadBack : AdjointExpressions → Type 0
AreReadBack no_adjoint_expressions = Unit {0}
AreReadBack (adjoint_expression a s) = IsReadBack a × AreReadBack s

-- what needs no bracket is an operand in any case
of_operand : (e : AdjointExpression) (b d : ℕ) (us : Lexemes) {F G : Type 0} → (F → Operand b d us e) → (G → Operand b d us e) → (F → Whole b d us e) × (G → Operand b d us e)
of_operand e b d us f h = (λ l. whole_operand b d us e (f l), h)

-- what needs one is an operand in a bracket
abbrev WholeWithin : AdjointExpression → Type 0
WholeWithin e = (b d : ℕ) → adjoint_depth e ≤ b + 2 → adjoint_depth e ≤ d + 1 → (blank : Bool) (us : Lexemes) → Lexed us (adjoint_words false blank e) → Whole b d us e

in_bracket : (e : AdjointExpression) (b d : ℕ) (blank : Bool) (us : Lexemes) → 2 ≤ adjoint_depth e → adjoint_depth e ≤ b + 1 → adjoint_depth e ≤ d + 1 → WholeWithin e →
    Lexed us (spaced blank (codes "(") ∷ (adjoint_words false false e ++ joined (codes ")") ∷ [])) → Operand b d us e
in_bracket e zero d blank us h i j f l = absurd (omega (arith, h, i))
in_bracket e (suc b) d blank us h i j f l =
    first us _ _ (λ v. Operand (suc b) d v e) l (λ t1 rest p m.
    parts rest (adjoint_words false false e) _ (λ v. Operand (suc b) d (t1 ∷ v) e) m (λ vs ws q n.
    first ws _ _ (λ v. Operand (suc b) d (t1 ∷ (vs ++ v)) e) n (λ t2 last r o.
    none last (λ v. Operand (suc b) d (t1 ∷ (vs ++ t2 ∷ v)) e) o
    (rule.primary_of_bracketed (suc b) (g.adjoint_below (suc b)) d _ e (some b)
    (rule.bracketed_read (suc b) (g.adjoint_below (suc b)) d vs e t1 t2 t1.line t2.line (some b) (inner_at b d vs e (f b d (omega (arith, i)) j false vs q)) (open_read t1 p) (close_read t2 r))))))

-- ---- operations

operated : (o : BinOp) (b d : ℕ) (vs ws : Lexemes) (t : Lexeme) (x y : AdjointExpression) → Operand b d vs x → adjoint_depth x ≤ d → Fits t (operator_text o) → Operand b (d - 1) ws y → Whole b d (vs ++ t ∷ ws) (adjoint_binary o x y)
operated op.Add b d vs ws t x y L h p R =
    rule.sum_read b (g.adjoint_below b) d vs ws t op.Add x y (rule.term_of b (g.adjoint_below b) d vs x (rule.factor_of b (g.adjoint_below b) d vs x L)) h (plus_op t p)
    (rule.term_of b (g.adjoint_below b) (d - 1) ws y (rule.factor_of b (g.adjoint_below b) (d - 1) ws y R))
operated op.Sub b d vs ws t x y L h p R =
    rule.sum_read b (g.adjoint_below b) d vs ws t op.Sub x y (rule.term_of b (g.adjoint_below b) d vs x (rule.factor_of b (g.adjoint_below b) d vs x L)) h (minus_op t p)
    (rule.term_of b (g.adjoint_below b) (d - 1) ws y (rule.factor_of b (g.adjoint_below b) (d - 1) ws y R))
operated op.Mul b d vs ws t x y L h p R =
    rule.sum_of b (g.adjoint_below b) d _ _ (rule.product_read b (g.adjoint_below b) d vs ws t op.Mul x y (rule.factor_of b (g.adjoint_below b) d vs x L) h (star_op t p)
    (rule.factor_of b (g.adjoint_below b) (d - 1) ws y R))
operated op.Div b d vs ws t x y L h p R =
    rule.sum_of b (g.adjoint_below b) d _ _ (rule.product_read b (g.adjoint_below b) d vs ws t op.Div x y (rule.factor_of b (g.adjoint_below b) d vs x L) h (slash_op t p)
    (rule.factor_of b (g.adjoint_below b) (d - 1) ws y R))

binary_whole : (o : BinOp) (x y : AdjointExpression) → IsReadBack x → IsReadBack y → is_readable_adjoint x ≡ true → is_readable_adjoint y ≡ true → WholeWithin (adjoint_binary o x y)
binary_whole o x y f h p q b d i j blank us l =
    let some_x = depth_some x in
    let some_y = depth_some y in
    parts us (adjoint_words true (inside false blank) x) _ (λ v. Whole b d v (adjoint_binary o x y)) l (λ vs rest a m.
    first rest _ _ (λ v. Whole b d (vs ++ v) (adjoint_binary o x y)) m (λ t ws c n.
    operated o b d vs ws t x y ((f p b d (omega (arith, i)) (omega (arith, j)) (inside false blank) vs).1 a) (omega (arith, j)) c
    ((h q b (d - 1) (omega (arith, i)) (omega (arith, j, some_x)) false ws).1 (subst (Lexed ws) (append-nil (adjoint_words true false y)) n))))

binary_bracket : (o : BinOp) (x y : AdjointExpression) (blank : Bool) →
    adjoint_words true blank (adjoint_binary o x y) ≡ spaced blank (codes "(") ∷ (adjoint_words false false (adjoint_binary o x y) ++ joined (codes ")") ∷ [])
binary_bracket o x y true = by
  where
    by : spaced true (codes "(") ∷ (adjoint_words true false x ++ (joined (operator_text o) ∷ (adjoint_words true false y ++ joined (codes ")") ∷ [])))
        ≡ spaced true (codes "(") ∷ ((adjoint_words true false x ++ (joined (operator_text o) ∷ (adjoint_words true false y ++ []))) ++ joined (codes ")") ∷ [])
    by = simp (append_assoc, append-nil)
binary_bracket o x y false = by
  where
    by : spaced false (codes "(") ∷ (adjoint_words true false x ++ (joined (operator_text o) ∷ (adjoint_words true false y ++ joined (codes ")") ∷ [])))
        ≡ spaced false (codes "(") ∷ ((adjoint_words true false x ++ (joined (operator_text o) ∷ (adjoint_words true false y ++ []))) ++ joined (codes ")") ∷ [])
    by = simp (append_assoc, append-nil)

binary_back : (o : BinOp) (x y : AdjointExpression) → IsReadBack x → IsReadBack y → IsReadBack (adjoint_binary o x y)
binary_back o x y f h r b d i j blank us =
    let p = and_parts (is_readable_adjoint x) (is_readable_adjoint y) r in
    let some_x = depth_some x in
    let whole = binary_whole o x y f h p.0 p.1 in (
      λ l. whole b d (omega (arith, i)) j blank us l,
      λ l. in_bracket (adjoint_binary o x y) b d blank us (omega (arith, some_x)) i j whole (subst (Lexed us) (binary_bracket o x y blank) l),
    )

minus_whole : (x : AdjointExpression) → IsReadBack x → is_readable_adjoint x ≡ true → WholeWithin (adjoint_minus x)
minus_whole x f p b d i j blank us l =
    let some_x = depth_some x in
    first us _ _ (λ v. Whole b d v (adjoint_minus x)) l (λ t rest c m.
    rule.minus_read b (g.adjoint_below b) d rest x t t.line
    (rule.term_of b (g.adjoint_below b) (d - 1) rest x (rule.factor_of b (g.adjoint_below b) (d - 1) rest x
    ((f p b (d - 1) (omega (arith, i)) (omega (arith, j, some_x)) false rest).1 (subst (Lexed rest) (append-nil (adjoint_words true false x)) m))))
    (omega (arith, j, some_x)) (minus_sign t c))

minus_bracket : (x : AdjointExpression) (blank : Bool) → adjoint_words true blank (adjoint_minus x) ≡ spaced blank (codes "(") ∷ (adjoint_words false false (adjoint_minus x) ++ joined (codes ")") ∷ [])
minus_bracket x true = by
  where
    by : spaced true (codes "(") ∷ (spaced false (codes "-") ∷ (adjoint_words true false x ++ joined (codes ")") ∷ []))
        ≡ spaced true (codes "(") ∷ ((spaced false (codes "-") ∷ (adjoint_words true false x ++ [])) ++ joined (codes ")") ∷ [])
    by = simp append-nil
minus_bracket x false = by
  where
    by : spaced false (codes "(") ∷ (spaced false (codes "-") ∷ (adjoint_words true false x ++ joined (codes ")") ∷ []))
        ≡ spaced false (codes "(") ∷ ((spaced false (codes "-") ∷ (adjoint_words true false x ++ [])) ++ joined (codes ")") ∷ [])
    by = simp append-nil

minus_back : (x : AdjointExpression) → IsReadBack x → IsReadBack (adjoint_minus x)
minus_back x f r b d i j blank us =
    let some_x = depth_some x in
    let whole = minus_whole x f r in (
      λ l. whole b d (omega (arith, i)) j blank us l,
      λ l. in_bracket (adjoint_minus x) b d blank us (omega (arith, some_x)) i j whole (subst (Lexed us) (minus_bracket x blank) l),
    )

power_whole : (x : AdjointExpression) (n : ℕ) → IsReadBack x → is_readable_adjoint x ≡ true → nat_le n 2147483647 ≡ true → WholeWithin (adjoint_power x n)
power_whole x n f p small b d i j blank us l =
    parts us (adjoint_words true (inside false blank) x) _ (λ v. Whole b d v (adjoint_power x n)) l (λ vs rest a m.
    first rest _ _ (λ v. Whole b d (vs ++ v) (adjoint_power x n)) m (λ t1 ws c o.
    first ws _ _ (λ v. Whole b d (vs ++ t1 ∷ v) (adjoint_power x n)) o (λ t2 last e q.
    none last (λ v. Whole b d (vs ++ t1 ∷ t2 ∷ v) (adjoint_power x n)) q
    (rule.sum_of b (g.adjoint_below b) d _ _ (rule.term_of b (g.adjoint_below b) d _ _
    (rule.power_read b (g.adjoint_below b) d vs x t1 t2 t1.line (plain n) ((f p b d (omega (arith, i)) (omega (arith, j)) (inside false blank) vs).1 a) (omega (arith, j)) (power_sign t1 c) (exponent_read t2 n small e)))))))

power_bracket : (x : AdjointExpression) (n : ℕ) (blank : Bool) → adjoint_words true blank (adjoint_power x n) ≡ spaced blank (codes "(") ∷ (adjoint_words false false (adjoint_power x n) ++ joined (codes ")") ∷ [])
power_bracket x n true = ap (λ ws. spaced true (codes "(") ∷ ws) (sym (append_assoc (adjoint_words true false x) (joined (codes "**") ∷ joined (decimal n) ∷ []) (joined (codes ")") ∷ [])))
power_bracket x n false = ap (λ ws. spaced false (codes "(") ∷ ws) (sym (append_assoc (adjoint_words true false x) (joined (codes "**") ∷ joined (decimal n) ∷ []) (joined (codes ")") ∷ [])))

power_back : (x : AdjointExpression) (n : ℕ) → IsReadBack x → IsReadBack (adjoint_power x n)
power_back x n f r b d i j blank us =
    let p = and_parts (nat_le n 2147483647) (is_readable_adjoint x) r in
    let some_x = depth_some x in
    let whole = power_whole x n f p.1 p.0 in (
      λ l. whole b d (omega (arith, i)) j blank us l,
      λ l. in_bracket (adjoint_power x n) b d blank us (omega (arith, some_x)) i j whole (subst (Lexed us) (power_bracket x n blank) l),
    )

-- ---- literals and names

kind_back : (k : Kind) → kind_of (suffix_of_kind k) ≡ k
kind_back kind.Index = refl
kind_back kind.Ring = refl

literal_whole : (n : ℕ) (k : Kind) → is_readable_adjoint (adjoint_literal n k) ≡ true → (b d : ℕ) (blank : Bool) (us : Lexemes) → Lexed us (spaced blank (literal_text n k) ∷ []) → Operand b d us (adjoint_literal n k)
literal_whole n k r b d blank us l =
    let small : n ≤ 9223372036854775807 = grind (arith, nat_tests) in
    first us _ _ (λ v. Operand b d v (adjoint_literal n k)) l (λ t rest c m.
    none rest (λ v. Operand b d (t ∷ v) (adjoint_literal n k)) m
    (rule.literal_rule b (g.adjoint_below b) d t (record { value = n; suffix = suffix_of_kind k }) n k (number_read t n k small c) (ap (λ j. record { expr = Lit n j; depth = 1 }) (kind_back k))))

literal_back : (n : ℕ) (k : Kind) → IsReadBack (adjoint_literal n k)
literal_back n k r b d i j blank us = of_operand (adjoint_literal n k) b d us (literal_whole n k r b d blank us) (literal_whole n k r b d blank us)

-- ---- names

-- as many brackets to open as inside one of them
at_least_one : (b : ℕ) → 1 ≤ b → nat_lt 0 b ≡ true
at_least_one b h = grind (arith, nat_tests)

nested_at : (b c d : ℕ) (us : Lexemes) (e : AdjointExpression) → b ≡ suc c → Whole c d us e → IsAdjointReadAs (g.adjoint_below b (Some d)) us e
nested_at b c d us e h R = subst (λ (n : ℕ). IsAdjointReadAs (g.adjoint_below n (Some d)) us e) (sym h) (inner_at c d us e R)

nested_back : (x : AdjointExpression) → IsReadBack x → is_readable_adjoint x ≡ true → (b d : ℕ) → adjoint_depth x ≤ b → adjoint_depth x ≤ d + 1 → (blank : Bool) (us : Lexemes) → Lexed us (adjoint_words false blank x) →
    IsAdjointReadAs (g.adjoint_below b (Some d)) us x
nested_back x f p b d i j blank us l =
    let some_x = depth_some x in
    nested_at b (b - 1) d us x (omega (arith, i, some_x)) ((f p (b - 1) d (omega (arith, i, some_x)) j blank us).0 l)

get_whole : (x : List ℕ) (xs : Expressions) → is_variable x ≡ true → are_readable xs ≡ true → (b d : ℕ) → deepest xs + 1 ≤ b + 1 → deepest xs + 1 ≤ d + 1 → (blank : Bool) (us : Lexemes) →
    Lexed us (spaced blank x ∷ subscript_words xs) → Operand b d us (adjoint_get (record { name = x; subscripts = xs }))
get_whole x no_expressions h r b d i j blank us l =
    first us _ _ (λ v. Operand b d v (adjoint_get (record { name = x; subscripts = no_expressions }))) l (λ t rest c m.
    none rest (λ v. Operand b d (t ∷ v) (adjoint_get (record { name = x; subscripts = no_expressions }))) m (rule.scalar_rule b (g.adjoint_below b) d t (record { line = t.line; name = x }) (name_read t x h c)))
get_whole x (expression y ys) h r b d i j blank us l =
    let some_y = plain_depth_some y in
    first us _ _ (λ v. Operand b d v (adjoint_get (record { name = x; subscripts = expression y ys }))) l (λ t rest c m.
    rule.element_rule b (g.adjoint_below b) d t (record { line = t.line; name = x }) rest (expression y ys) (at_least_one b (omega (arith, i, some_y))) (omega (arith, j, some_y)) (name_read t x h c)
    (subscripts_back y ys (all_read_back_plain (expression y ys)) r b (d - 1) (omega (arith, i)) (omega (arith, j, some_y)) rest m))

get_back : (p : Designator) → IsReadBack (adjoint_get p)
get_back p r b d i j blank us =
    let q = and_parts (is_variable p.name) (are_readable p.subscripts) r in
    of_operand (adjoint_get p) b d us (get_whole p.name p.subscripts q.0 q.1 b d i j blank us) (get_whole p.name p.subscripts q.0 q.1 b d i j blank us)

-- ---- calls

one_argument : (x : AdjointExpression) → IsReadBack x → is_readable_adjoint x ≡ true → (b d : ℕ) → adjoint_depth x ≤ b → adjoint_depth x ≤ d → (blank : Bool) (us : Lexemes) →
    Lexed us (spaced blank (codes "abs") ∷ joined (codes "(") ∷ ((adjoint_words false false x ++ []) ++ joined (codes ")") ∷ [])) → Operand b d us (adjoint_call fun.Abs (adjoint_expression x no_adjoint_expressions))
one_argument x f p b d i j blank us l =
    let some_x = depth_some x in
    let Goal : Lexemes → Type 0 = λ v. Operand b d v (adjoint_call fun.Abs (adjoint_expression x no_adjoint_expressions)) in
    first us _ _ Goal l (λ t rest c m.
    first rest _ _ (λ v. Goal (t ∷ v)) m (λ t1 ws e n.
    parts ws (adjoint_words false false x ++ []) _ (λ v. Goal (t ∷ t1 ∷ v)) n (λ vs last q o.
    first last _ _ (λ v. Goal (t ∷ t1 ∷ (vs ++ v))) o (λ t2 end h k.
    none end (λ v. Goal (t ∷ t1 ∷ (vs ++ t2 ∷ v))) k
    (rule.one_argument b (g.adjoint_below b) d t fun.Abs (t1 ∷ (vs ++ t2 ∷ [])) x (at_least_one b (omega (arith, i, some_x))) (omega (arith, j, some_x)) (abs_read t c)
    (rule.bracketed_read b (g.adjoint_below b) (d - 1) vs x t1 t2 t1.line t2.line (at_least_one b (omega (arith, i, some_x)))
    (nested_back x f p b (d - 1) i (omega (arith, j, some_x)) false vs (subst (Lexed vs) (append-nil (adjoint_words false false x)) q)) (open_read t1 e) (close_read t2 h)))))))

two_arguments : (f : Fun) (x y : AdjointExpression) → ((t : Lexeme) → Fits t (function_text f) → pairing t ≡ Some f) → IsReadBack x → IsReadBack y → is_readable_adjoint x ≡ true → is_readable_adjoint y ≡ true →
    (b d : ℕ) → max (adjoint_depth x) (adjoint_depth y) ≤ b → max (adjoint_depth x) (adjoint_depth y) ≤ d → (blank : Bool) (us : Lexemes) →
    Lexed us (spaced blank (function_text f) ∷ joined (codes "(") ∷ ((adjoint_words false false x ++ (joined (codes ",") ∷ (adjoint_words false true y ++ []))) ++ joined (codes ")") ∷ [])) →
    Operand b d us (adjoint_call f (adjoint_expression x (adjoint_expression y no_adjoint_expressions)))
two_arguments f x y named fx fy p q b d i j blank us l =
    let some_x = depth_some x in
    let Goal : Lexemes → Type 0 = λ v. Operand b d v (adjoint_call f (adjoint_expression x (adjoint_expression y no_adjoint_expressions))) in
    first us _ _ Goal l (λ t rest c m.
    first rest _ _ (λ v. Goal (t ∷ v)) m (λ t1 ws e n.
    parts ws (adjoint_words false false x ++ (joined (codes ",") ∷ (adjoint_words false true y ++ []))) _ (λ v. Goal (t ∷ t1 ∷ v)) n (λ inner last h o.
    first last _ _ (λ v. Goal (t ∷ t1 ∷ (inner ++ v))) o (λ t3 end k r.
    none end (λ v. Goal (t ∷ t1 ∷ (inner ++ t3 ∷ v))) r
    (parts inner (adjoint_words false false x) _ (λ v. Goal (t ∷ t1 ∷ (v ++ t3 ∷ []))) h (λ vs more a z.
    first more _ _ (λ v. Goal (t ∷ t1 ∷ ((vs ++ v) ++ t3 ∷ []))) z (λ t2 us2 u w.
    subst (λ v. Goal (t ∷ t1 ∷ v)) (regroup vs us2 t2 t3)
    (rule.two_arguments b (g.adjoint_below b) d t t1 t2 t3 t1.line t2.line t3.line f vs us2 x y (at_least_one b (omega (arith, i, some_x))) (omega (arith, j, some_x)) (named t c) (open_read t1 e) (comma_read t2 u) (close_read t3 k)
    (nested_back x fx p b (d - 1) (omega (arith, i)) (omega (arith, j, some_x)) false vs a)
    (nested_back y fy q b (d - 1) (omega (arith, i)) (omega (arith, j, some_x)) true us2 (subst (Lexed us2) (append-nil (adjoint_words false true y)) w))))))))))
  where
    regroup : (vs us2 : Lexemes) (t2 t3 : Lexeme) → (vs ++ t2 ∷ []) ++ (us2 ++ t3 ∷ []) ≡ (vs ++ t2 ∷ us2) ++ t3 ∷ []
    regroup vs us2 t2 t3 = simp append_assoc

-- two arguments, and no other number of them
two_of : (f : Fun) → arity f ≡ 2 → ((t : Lexeme) → Fits t (function_text f) → pairing t ≡ Some f) → (xs : AdjointExpressions) → AreReadBack xs → (number_of_adjoints xs == 2) ≡ true → are_readable_adjoints xs ≡ true →
    (b d : ℕ) → deepest_adjoint xs ≤ b → deepest_adjoint xs ≤ d → (blank : Bool) (us : Lexemes) →
    Lexed us (spaced blank (function_text f) ∷ joined (codes "(") ∷ (adjoints_from false xs ++ joined (codes ")") ∷ [])) → Operand b d us (adjoint_call f xs)
two_of f a named no_adjoint_expressions fs n r b d i j blank us l = absurd (grind (arith, nat_tests))
two_of f a named (adjoint_expression x no_adjoint_expressions) fs n r b d i j blank us l = absurd (grind (arith, nat_tests))
two_of f a named (adjoint_expression x (adjoint_expression y no_adjoint_expressions)) fs n r b d i j blank us l =
    let p = and_parts (is_readable_adjoint x) (are_readable_adjoints (adjoint_expression y no_adjoint_expressions)) r in
    let q = and_parts (is_readable_adjoint y) true p.1 in
    two_arguments f x y named fs.0 fs.1.0 p.0 q.0 b d (omega (arith, i)) (omega (arith, j)) blank us l
two_of f a named (adjoint_expression x (adjoint_expression y (adjoint_expression z zs))) fs n r b d i j blank us l = absurd (grind (arith, nat_tests))

-- as many arguments as the function has
call_whole : (f : Fun) (xs : AdjointExpressions) → AreReadBack xs → (number_of_adjoints xs == arity f) ≡ true → are_readable_adjoints xs ≡ true → (b d : ℕ) → deepest_adjoint xs ≤ b → deepest_adjoint xs ≤ d → (blank : Bool) (us : Lexemes) →
    Lexed us (spaced blank (function_text f) ∷ joined (codes "(") ∷ (adjoints_from false xs ++ joined (codes ")") ∷ [])) → Operand b d us (adjoint_call f xs)
call_whole fun.Abs no_adjoint_expressions fs n r b d i j blank us l = absurd (grind (arith, nat_tests))
call_whole fun.Abs (adjoint_expression x no_adjoint_expressions) fs n r b d i j blank us l =
    one_argument x fs.0 (and_parts (is_readable_adjoint x) true r).0 b d (omega (arith, i)) (omega (arith, j)) blank us l
call_whole fun.Abs (adjoint_expression x (adjoint_expression y ys)) fs n r b d i j blank us l = absurd (grind (arith, nat_tests))
call_whole fun.Max xs fs n r b d i j blank us l = two_of fun.Max refl max_read xs fs n r b d i j blank us l
call_whole fun.Min xs fs n r b d i j blank us l = two_of fun.Min refl min_read xs fs n r b d i j blank us l
call_whole fun.Mod xs fs n r b d i j blank us l = two_of fun.Mod refl mod_read xs fs n r b d i j blank us l

call_back : (f : Fun) (xs : AdjointExpressions) → AreReadBack xs → IsReadBack (adjoint_call f xs)
call_back f xs fs r b d i j blank us =
    let p = and_parts (number_of_adjoints xs == arity f) (are_readable_adjoints xs) r in
    of_operand (adjoint_call f xs) b d us (call_whole f xs fs p.0 p.1 b d (omega (arith, i)) (omega (arith, j)) blank us) (call_whole f xs fs p.0 p.1 b d (omega (arith, i)) (omega (arith, j)) blank us)

-- ---- merge

merge_whole : (x y : AdjointExpression) (c : Condition) → IsReadBack x → IsReadBack y → is_readable_adjoint x ≡ true → is_readable_adjoint y ≡ true → is_readable_condition c ≡ true → (b d : ℕ)
    → max (max (adjoint_depth x) (adjoint_depth y)) (condition_depth c) ≤ b → max (max (adjoint_depth x) (adjoint_depth y)) (condition_depth c) ≤ d → (blank : Bool) (us : Lexemes)
    → Lexed us (adjoint_words false blank (merge x y c)) → Operand b d us (merge x y c)
merge_whole x y c fx fy p q r b d i j blank us l =
    let two = two_levels c in
    let Goal : Lexemes → Type 0 = λ v. Operand b d v (merge x y c) in
    first us _ _ Goal l (λ t rest k m.
    first rest _ _ (λ v. Goal (t ∷ v)) m (λ t1 ws e n.
    parts ws (adjoint_words false false x) _ (λ v. Goal (t ∷ t1 ∷ v)) n (λ vs more1 h o.
    first more1 _ _ (λ v. Goal (t ∷ t1 ∷ (vs ++ v))) o (λ t2 more2 u w.
    parts more2 (adjoint_words false true y) _ (λ v. Goal (t ∷ t1 ∷ (vs ++ t2 ∷ v))) w (λ vs2 more3 h2 o2.
    first more3 _ _ (λ v. Goal (t ∷ t1 ∷ (vs ++ t2 ∷ (vs2 ++ v)))) o2 (λ t3 more4 u3 w3.
    parts more4 (condition_words false true c) _ (λ v. Goal (t ∷ t1 ∷ (vs ++ t2 ∷ (vs2 ++ t3 ∷ v)))) w3 (λ vs3 last h3 o3.
    first last _ _ (λ v. Goal (t ∷ t1 ∷ (vs ++ t2 ∷ (vs2 ++ t3 ∷ (vs3 ++ v))))) o3 (λ t4 end u4 w4.
    none end (λ v. Goal (t ∷ t1 ∷ (vs ++ t2 ∷ (vs2 ++ t3 ∷ (vs3 ++ t4 ∷ v))))) w4
    (subst (λ v. Goal (t ∷ t1 ∷ v)) (regroup vs vs2 vs3 t2 t3 t4)
    (rule.merge_rule b (g.adjoint_below b) d t t1 t2 t3 t4 t.line t1.line t2.line t3.line t4.line vs vs2 vs3 x y c (at_least_one b (omega (arith, i, two))) (omega (arith, j, two))
    (merge_read t k) (open_read t1 e) (comma_read t2 u) (comma_read t3 u3) (close_read t4 u4)
    (nested_back x fx p b (d - 1) (omega (arith, i)) (omega (arith, j, two)) false vs h) (nested_back y fy q b (d - 1) (omega (arith, i)) (omega (arith, j, two)) true vs2 h2)
    (condition_read c true (b - 1) (d - 1 - 1) vs3 r (omega (arith, i, two)) (omega (arith, j, two)) h3)))))))))))
  where
    regroup : (vs vs2 vs3 : Lexemes) (t2 t3 t4 : Lexeme) → (vs ++ t2 ∷ []) ++ ((vs2 ++ t3 ∷ []) ++ (vs3 ++ t4 ∷ [])) ≡ vs ++ t2 ∷ (vs2 ++ t3 ∷ (vs3 ++ t4 ∷ []))
    regroup vs vs2 vs3 t2 t3 t4 = simp append_assoc

merge_back : (x y : AdjointExpression) (c : Condition) → IsReadBack x → IsReadBack y → IsReadBack (merge x y c)
merge_back x y c fx fy r b d i j blank us =
    let p = and_parts (is_readable_adjoint x) (is_readable_adjoint y && is_readable_condition c) r in
    let q = and_parts (is_readable_adjoint y) (is_readable_condition c) p.1 in
    let whole = merge_whole x y c fx fy p.0 q.0 q.1 b d (omega (arith, i)) (omega (arith, j)) blank us in
    of_operand (merge x y c) b d us whole whole

cases : AdjointExpressionCases IsReadBack AreReadBack
cases = record {
  of_literal = literal_back;
  of_get = get_back;
  of_minus = minus_back;
  of_binary = binary_back;
  of_power = power_back;
  of_call = call_back;
  of_merge = λ a b test f h. merge_back a b test f h;
  of_none = tt;
  of_more = λ x xs f fs. (f, fs);
}

pub read_back : (e : AdjointExpression) → IsReadBack e
read_back e = adjoint_expression_induction IsReadBack AreReadBack cases e

pub adjoint_read : (x : AdjointExpression) (b d : ℕ) (blank : Bool) (us : Lexemes) → is_readable_adjoint x ≡ true → adjoint_depth x ≤ b + 1 → adjoint_depth x ≤ d + 1 → Lexed us (adjoint_words false blank x)
    → IsAdjointReadAs (g.adjoint_expr b (Some d)) us x
adjoint_read x b d blank us r i j l = expr_at b d us x ((read_back x r b d i j blank us).0 l)

-- the lexemes one by one
pub each_lexed : (us : Lexemes) (ws : List Spaced) → AreEachOf us ws → Lexed us ws
each_lexed [] [] h = tt
each_lexed [] (w ∷ ws) h = absurd h
each_lexed (t ∷ us) [] h = absurd h
each_lexed (t ∷ us) (w ∷ ws) h = (h.0, each_lexed us ws h.1)
