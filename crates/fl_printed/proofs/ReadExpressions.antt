-- The words of a readable expression are read as it.
use Rattle.std.proofs.Common.{◌≡◌, ℕ, zero, suc, ◌+◌, ◌-◌, ◌<◌, ◌≤◌, max, Bool, true, false, ◌&&◌, nat_lt, List, [], ◌∷◌, ◌++◌, Some, None, refl, sym, ap, subst, ◌∙◌, append-nil, append_assoc, arith}
use Rattle.std.specs.Prelude.{nat_le, ◌==◌, codes, decimal}
use Rattle.std.proofs.lemmas.Bool.{and_parts}
use Rattle.std.proofs.lemmas.Bool.Decides.{nat_tests}
use Rattle.tokens.specs.Lexeme.{Lexeme}
use Rattle.fl_ast.specs.declared.kind.Kind.{Kind}
use Rattle.fl_ast.specs.declared.kind.BinOp.{BinOp}
use Rattle.fl_ast.specs.declared.kind.BinOp.TheVariants as op
use Rattle.fl_ast.specs.declared.kind.Fun.{Fun}
use Rattle.fl_ast.specs.declared.kind.Fun.TheVariants as fun
use Rattle.fl_ast.specs.Tree.{Expression, literal, get, minus, binary, power, call, Expressions, no_expressions, expression}
use Rattle.fl_ast.specs.Induction.{ExpressionCases, expression_induction, expressions_induction}
use Rattle.fl_ast.specs.Measures.{depth, deepest}
use Rattle.fl_ast.specs.Readable.{is_variable, is_readable, are_readable, number_of, arity}
use Rattle.parsing.specs.declared.symbol.Symbol.TheVariants as s
use Rattle.parsing.specs.declared.cursor.Word.{Word}
use Rattle.parsing.specs.Limit.{Limit}
use Rattle.parsing.specs.Reading.{Lexemes}
use Rattle.fl_expressions.specs.declared.tree.Measured.{Measured}
use Rattle.fl_expressions.specs.declared.tree.Listed.{Listed}
use Rattle.fl_expressions.specs.Terminals.{pairing}
use Rattle.fl_expressions.specs.Trees as trees
use Rattle.fl_expressions.specs.ExprGrammar as g
use Rattle.fl_printer.specs.declared.spaced.Spaced.{Spaced}
use Rattle.fl_printer.specs.Words.{spaced, joined, operator_text, function_text, literal_text, opening, inside, closing, expression_words, subscript_words, expressions_from}
use Rattle.fl_printer.proofs.Tokens.{Class, Wordy, Calm}
use Rattle.fl_printer.proofs.Flow.{ready, flows, subscripts_flow}
use Rattle.fl_printed.specs.Fits.{Fits}
use Rattle.fl_printed.specs.ReadBack.{AreOf, IsReadAs, AreReadAs}
use Rattle.fl_printed.proofs.Spelled.{name_read, literal_read}
use Rattle.fl_printed.proofs.Signs.{open_read, close_read, comma_read, minus_read as minus_sign, power_read as power_sign}
use Rattle.fl_printed.proofs.Operators.{plus_op, minus_op, star_op, slash_op, max_read, min_read, mod_read, abs_read, plain, exponent_read}
use Rattle.fl_printed.proofs.Lexed.{Lexed, first, none, parts, lexed}
use Rattle.fl_printed.proofs.ExpressionRules as rule

-- ---- with so many brackets to open, and so many levels beneath the root

abbrev pub Operand : ℕ → ℕ → Lexemes → Expression → Type 0
Operand b = rule.Primary (nat_lt 0 b) (g.below b)

abbrev pub Whole : ℕ → ℕ → Lexemes → Expression → Type 0
Whole b = rule.Sum (nat_lt 0 b) (g.below b)

whole_operand : (b d : ℕ) (us : Lexemes) (e : Expression) → Operand b d us e → Whole b d us e
whole_operand b d us e R =
    rule.sum_of (nat_lt 0 b) (g.below b) d us e (rule.term_of (nat_lt 0 b) (g.below b) d us e (rule.factor_of (nat_lt 0 b) (g.below b) d us e R))

some : (b : ℕ) → nat_lt 0 (suc b) ≡ true
some b = grind (arith, nat_tests)

sum_at : (b d : ℕ) (m : Measured) (us : Lexemes) → g.sum (nat_lt 0 b) (g.below b) (Some d) m us → g.expr b (Some d) m us
unfolding g.expr g.below
sum_at zero d m us n = n
sum_at (suc b) d m us n = subst (λ (r : Bool). g.sum r (g.expr b) (Some d) m us) (some b) n

pub expr_at : (b d : ℕ) (us : Lexemes) (e : Expression) → Whole b d us e → IsReadAs (g.expr b (Some d)) us e
expr_at b d us e R = record { value = R.value; tree = R.tree; levels = R.levels; reads = sum_at b d R.value us R.reads }

inner_at : (b d : ℕ) (us : Lexemes) (e : Expression) → Whole b d us e → IsReadAs (g.below (suc b) (Some d)) us e
unfolding g.below
inner_at b d us e R = expr_at b d us e R

pub depth_some : (e : Expression) → 0 < depth e
depth_some (literal n k) = omega arith
depth_some (get x s) = omega arith
depth_some (minus a) = omega arith
depth_some (binary o a b) = omega arith
depth_some (power a n) = omega arith
depth_some (call f s) = omega arith

-- ---- the law

-- An expression, whole or as an operand. Each operand is a level deeper, and opens a bracket at most.
abbrev pub IsReadBack : Expression → Type 0
IsReadBack e = is_readable e ≡ true → (b d : ℕ) → depth e ≤ b + 1 → depth e ≤ d + 1 → (blank : Bool) (us : Lexemes) →
    (Lexed us (expression_words false blank e) → Whole b d us e) × (Lexed us (expression_words true blank e) → Operand b d us e)

abbrev pub AreReadBack : Expressions → Type 0
AreReadBack no_expressions = Unit {0}
AreReadBack (expression a s) = IsReadBack a × AreReadBack s

-- what needs no bracket is an operand in any case
of_operand : (e : Expression) (b d : ℕ) (us : Lexemes) {F G : Type 0} → (F → Operand b d us e) → (G → Operand b d us e) → (F → Whole b d us e) × (G → Operand b d us e)
of_operand e b d us f h = (λ l. whole_operand b d us e (f l), h)

-- what needs one is an operand in a bracket
abbrev WholeWithin : Expression → Type 0
WholeWithin e = (b d : ℕ) → depth e ≤ b + 2 → depth e ≤ d + 1 → (blank : Bool) (us : Lexemes) → Lexed us (expression_words false blank e) → Whole b d us e

in_bracket : (e : Expression) (b d : ℕ) (blank : Bool) (us : Lexemes) → 2 ≤ depth e → depth e ≤ b + 1 → depth e ≤ d + 1 → WholeWithin e →
    Lexed us (spaced blank (codes "(") ∷ (expression_words false false e ++ joined (codes ")") ∷ [])) → Operand b d us e
in_bracket e zero d blank us h i j f l = absurd (omega (arith, h, i))
in_bracket e (suc b) d blank us h i j f l =
    first us _ _ (λ v. Operand (suc b) d v e) l (λ t1 rest p m.
    parts rest (expression_words false false e) _ (λ v. Operand (suc b) d (t1 ∷ v) e) m (λ vs ws q n.
    first ws _ _ (λ v. Operand (suc b) d (t1 ∷ (vs ++ v)) e) n (λ t2 last r o.
    none last (λ v. Operand (suc b) d (t1 ∷ (vs ++ t2 ∷ v)) e) o
    (rule.primary_of_bracketed (nat_lt 0 (suc b)) (g.below (suc b)) d _ e (some b)
    (rule.bracketed_read (nat_lt 0 (suc b)) (g.below (suc b)) d vs e t1 t2 t1.line t2.line (some b) (inner_at b d vs e (f b d (omega (arith, i)) j false vs q)) (open_read t1 p) (close_read t2 r))))))

-- ---- operations

operated : (o : BinOp) (b d : ℕ) (vs ws : Lexemes) (t : Lexeme) (x y : Expression) → Operand b d vs x → depth x ≤ d → Fits t (operator_text o) → Operand b (d - 1) ws y → Whole b d (vs ++ t ∷ ws) (binary o x y)
operated op.Add b d vs ws t x y L h p R =
    rule.sum_read (nat_lt 0 b) (g.below b) d vs ws t op.Add x y (rule.term_of (nat_lt 0 b) (g.below b) d vs x (rule.factor_of (nat_lt 0 b) (g.below b) d vs x L)) h (plus_op t p)
    (rule.term_of (nat_lt 0 b) (g.below b) (d - 1) ws y (rule.factor_of (nat_lt 0 b) (g.below b) (d - 1) ws y R))
operated op.Sub b d vs ws t x y L h p R =
    rule.sum_read (nat_lt 0 b) (g.below b) d vs ws t op.Sub x y (rule.term_of (nat_lt 0 b) (g.below b) d vs x (rule.factor_of (nat_lt 0 b) (g.below b) d vs x L)) h (minus_op t p)
    (rule.term_of (nat_lt 0 b) (g.below b) (d - 1) ws y (rule.factor_of (nat_lt 0 b) (g.below b) (d - 1) ws y R))
operated op.Mul b d vs ws t x y L h p R =
    rule.sum_of (nat_lt 0 b) (g.below b) d _ _ (rule.product_read (nat_lt 0 b) (g.below b) d vs ws t op.Mul x y (rule.factor_of (nat_lt 0 b) (g.below b) d vs x L) h (star_op t p)
    (rule.factor_of (nat_lt 0 b) (g.below b) (d - 1) ws y R))
operated op.Div b d vs ws t x y L h p R =
    rule.sum_of (nat_lt 0 b) (g.below b) d _ _ (rule.product_read (nat_lt 0 b) (g.below b) d vs ws t op.Div x y (rule.factor_of (nat_lt 0 b) (g.below b) d vs x L) h (slash_op t p)
    (rule.factor_of (nat_lt 0 b) (g.below b) (d - 1) ws y R))

binary_whole : (o : BinOp) (x y : Expression) → IsReadBack x → IsReadBack y → is_readable x ≡ true → is_readable y ≡ true → WholeWithin (binary o x y)
binary_whole o x y f h p q b d i j blank us l =
    let some_x = depth_some x in
    let some_y = depth_some y in
    parts us (expression_words true (inside false blank) x) _ (λ v. Whole b d v (binary o x y)) l (λ vs rest a m.
    first rest _ _ (λ v. Whole b d (vs ++ v) (binary o x y)) m (λ t ws c n.
    operated o b d vs ws t x y ((f p b d (omega (arith, i)) (omega (arith, j)) (inside false blank) vs).1 a) (omega (arith, j)) c
    ((h q b (d - 1) (omega (arith, i)) (omega (arith, j, some_x)) false ws).1 (subst (Lexed ws) (append-nil (expression_words true false y)) n))))

binary_bracket : (o : BinOp) (x y : Expression) (blank : Bool) →
    expression_words true blank (binary o x y) ≡ spaced blank (codes "(") ∷ (expression_words false false (binary o x y) ++ joined (codes ")") ∷ [])
binary_bracket o x y true = by
  where
    by : spaced true (codes "(") ∷ (expression_words true false x ++ (joined (operator_text o) ∷ (expression_words true false y ++ joined (codes ")") ∷ [])))
        ≡ spaced true (codes "(") ∷ ((expression_words true false x ++ (joined (operator_text o) ∷ (expression_words true false y ++ []))) ++ joined (codes ")") ∷ [])
    by = simp (append_assoc, append-nil)
binary_bracket o x y false = by
  where
    by : spaced false (codes "(") ∷ (expression_words true false x ++ (joined (operator_text o) ∷ (expression_words true false y ++ joined (codes ")") ∷ [])))
        ≡ spaced false (codes "(") ∷ ((expression_words true false x ++ (joined (operator_text o) ∷ (expression_words true false y ++ []))) ++ joined (codes ")") ∷ [])
    by = simp (append_assoc, append-nil)

binary_back : (o : BinOp) (x y : Expression) → IsReadBack x → IsReadBack y → IsReadBack (binary o x y)
binary_back o x y f h r b d i j blank us =
    let p = and_parts (is_readable x) (is_readable y) r in
    let some_x = depth_some x in
    let whole = binary_whole o x y f h p.0 p.1 in (
      λ l. whole b d (omega (arith, i)) j blank us l,
      λ l. in_bracket (binary o x y) b d blank us (omega (arith, some_x)) i j whole (subst (Lexed us) (binary_bracket o x y blank) l),
    )

minus_whole : (x : Expression) → IsReadBack x → is_readable x ≡ true → WholeWithin (minus x)
minus_whole x f p b d i j blank us l =
    let some_x = depth_some x in
    first us _ _ (λ v. Whole b d v (minus x)) l (λ t rest c m.
    rule.minus_read (nat_lt 0 b) (g.below b) d rest x t t.line
    (rule.term_of (nat_lt 0 b) (g.below b) (d - 1) rest x (rule.factor_of (nat_lt 0 b) (g.below b) (d - 1) rest x
    ((f p b (d - 1) (omega (arith, i)) (omega (arith, j, some_x)) false rest).1 (subst (Lexed rest) (append-nil (expression_words true false x)) m))))
    (omega (arith, j, some_x)) (minus_sign t c))

minus_bracket : (x : Expression) (blank : Bool) → expression_words true blank (minus x) ≡ spaced blank (codes "(") ∷ (expression_words false false (minus x) ++ joined (codes ")") ∷ [])
minus_bracket x true = by
  where
    by : spaced true (codes "(") ∷ (spaced false (codes "-") ∷ (expression_words true false x ++ joined (codes ")") ∷ []))
        ≡ spaced true (codes "(") ∷ ((spaced false (codes "-") ∷ (expression_words true false x ++ [])) ++ joined (codes ")") ∷ [])
    by = simp append-nil
minus_bracket x false = by
  where
    by : spaced false (codes "(") ∷ (spaced false (codes "-") ∷ (expression_words true false x ++ joined (codes ")") ∷ []))
        ≡ spaced false (codes "(") ∷ ((spaced false (codes "-") ∷ (expression_words true false x ++ [])) ++ joined (codes ")") ∷ [])
    by = simp append-nil

minus_back : (x : Expression) → IsReadBack x → IsReadBack (minus x)
minus_back x f r b d i j blank us =
    let some_x = depth_some x in
    let whole = minus_whole x f r in (
      λ l. whole b d (omega (arith, i)) j blank us l,
      λ l. in_bracket (minus x) b d blank us (omega (arith, some_x)) i j whole (subst (Lexed us) (minus_bracket x blank) l),
    )

power_whole : (x : Expression) (n : ℕ) → IsReadBack x → is_readable x ≡ true → nat_le n 2147483647 ≡ true → WholeWithin (power x n)
power_whole x n f p small b d i j blank us l =
    parts us (expression_words true (inside false blank) x) _ (λ v. Whole b d v (power x n)) l (λ vs rest a m.
    first rest _ _ (λ v. Whole b d (vs ++ v) (power x n)) m (λ t1 ws c o.
    first ws _ _ (λ v. Whole b d (vs ++ t1 ∷ v) (power x n)) o (λ t2 last e q.
    none last (λ v. Whole b d (vs ++ t1 ∷ t2 ∷ v) (power x n)) q
    (rule.sum_of (nat_lt 0 b) (g.below b) d _ _ (rule.term_of (nat_lt 0 b) (g.below b) d _ _
    (rule.power_read (nat_lt 0 b) (g.below b) d vs x t1 t2 t1.line (plain n) ((f p b d (omega (arith, i)) (omega (arith, j)) (inside false blank) vs).1 a) (omega (arith, j)) (power_sign t1 c) (exponent_read t2 n small e)))))))

power_bracket : (x : Expression) (n : ℕ) (blank : Bool) → expression_words true blank (power x n) ≡ spaced blank (codes "(") ∷ (expression_words false false (power x n) ++ joined (codes ")") ∷ [])
power_bracket x n true = ap (λ ws. spaced true (codes "(") ∷ ws) (sym (append_assoc (expression_words true false x) (joined (codes "**") ∷ joined (decimal n) ∷ []) (joined (codes ")") ∷ [])))
power_bracket x n false = ap (λ ws. spaced false (codes "(") ∷ ws) (sym (append_assoc (expression_words true false x) (joined (codes "**") ∷ joined (decimal n) ∷ []) (joined (codes ")") ∷ [])))

power_back : (x : Expression) (n : ℕ) → IsReadBack x → IsReadBack (power x n)
power_back x n f r b d i j blank us =
    let p = and_parts (nat_le n 2147483647) (is_readable x) r in
    let some_x = depth_some x in
    let whole = power_whole x n f p.1 p.0 in (
      λ l. whole b d (omega (arith, i)) j blank us l,
      λ l. in_bracket (power x n) b d blank us (omega (arith, some_x)) i j whole (subst (Lexed us) (power_bracket x n blank) l),
    )

-- ---- literals and names

literal_whole : (n : ℕ) (k : Kind) → is_readable (literal n k) ≡ true → (b d : ℕ) (blank : Bool) (us : Lexemes) → Lexed us (spaced blank (literal_text n k) ∷ []) → Operand b d us (literal n k)
literal_whole n k r b d blank us l =
    let small : n ≤ 9223372036854775807 = grind (arith, nat_tests) in
    first us _ _ (λ v. Operand b d v (literal n k)) l (λ t rest c m.
    none rest (λ v. Operand b d (t ∷ v) (literal n k)) m
    (let x = literal_read t n k small c in rule.literal_rule (nat_lt 0 b) (g.below b) d t x.0 n k x.1 x.2))

literal_back : (n : ℕ) (k : Kind) → IsReadBack (literal n k)
literal_back n k r b d i j blank us = of_operand (literal n k) b d us (literal_whole n k r b d blank us) (literal_whole n k r b d blank us)

-- ---- lists

-- as many brackets to open as inside one of them
at_least_one : (b : ℕ) → 1 ≤ b → nat_lt 0 b ≡ true
at_least_one b h = grind (arith, nat_tests)

nested_at : (b c d : ℕ) (us : Lexemes) (e : Expression) → b ≡ suc c → Whole c d us e → IsReadAs (g.below b (Some d)) us e
nested_at b c d us e h R = subst (λ (n : ℕ). IsReadAs (g.below n (Some d)) us e) (sym h) (inner_at c d us e R)

nested_back : (x : Expression) → IsReadBack x → is_readable x ≡ true → (b d : ℕ) → depth x ≤ b → depth x ≤ d + 1 → (blank : Bool) (us : Lexemes) → Lexed us (expression_words false blank x) →
    IsReadAs (g.below b (Some d)) us x
nested_back x f p b d i j blank us l =
    let some_x = depth_some x in
    nested_at b (b - 1) d us x (omega (arith, i, some_x)) ((f p (b - 1) d (omega (arith, i, some_x)) j blank us).0 l)

more_back : (xs : Expressions) → AreReadBack xs → are_readable xs ≡ true → (b d : ℕ) → deepest xs ≤ b → deepest xs ≤ d + 1 → (us : Lexemes) (found : Listed) → Lexed us (expressions_from true xs) →
    rule.MoreRead (nat_lt 0 b) (g.below b) d us found xs
more_back no_expressions f p b d i j us found l = none us (λ v. rule.MoreRead (nat_lt 0 b) (g.below b) d v found no_expressions) l (rule.no_more (nat_lt 0 b) (g.below b) d found)
more_back (expression x xs) f r b d i j us found l =
    let p = and_parts (is_readable x) (are_readable xs) r in
    first us _ _ (λ v. rule.MoreRead (nat_lt 0 b) (g.below b) d v found (expression x xs)) l (λ t rest c m.
    parts rest (expression_words false true x) _ (λ v. rule.MoreRead (nat_lt 0 b) (g.below b) d (t ∷ v) found (expression x xs)) m (λ vs ws q n.
    let R = nested_back x f.0 p.0 b d (omega (arith, i)) (omega (arith, j)) true vs q in
    rule.one_more (nat_lt 0 b) (g.below b) d t t.line vs ws found x xs (comma_read t c) R (more_back xs f.1 p.1 b d (omega (arith, i)) (omega (arith, j)) ws (trees.one_more found R.value) n)))

-- a list in brackets
pub subscripts_back : (x : Expression) (xs : Expressions) → AreReadBack (expression x xs) → are_readable (expression x xs) ≡ true → (b d : ℕ) → deepest (expression x xs) ≤ b → deepest (expression x xs) ≤ d + 1 →
    (us : Lexemes) → Lexed us (subscript_words (expression x xs)) → AreReadAs (g.subscripts (nat_lt 0 b) (g.below b) (Some d)) us (expression x xs)
subscripts_back x xs f r b d i j us l =
    let p = and_parts (is_readable x) (are_readable xs) r in
    let Goal : Lexemes → Type 0 = λ v. AreReadAs (g.subscripts (nat_lt 0 b) (g.below b) (Some d)) v (expression x xs) in
    first us _ _ Goal l (λ t1 rest c m.
    parts rest (expression_words false false x ++ expressions_from true xs) _ (λ v. Goal (t1 ∷ v)) m (λ inner last q n.
    first last _ _ (λ v. Goal (t1 ∷ (inner ++ v))) n (λ t2 end e o.
    none end (λ v. Goal (t1 ∷ (inner ++ t2 ∷ v))) o
    (parts inner (expression_words false false x) (expressions_from true xs) (λ v. Goal (t1 ∷ (v ++ t2 ∷ []))) q (λ vs ws h k.
    let R = nested_back x f.0 p.0 b d (omega (arith, i)) (omega (arith, j)) false vs h in
    rule.subscripts_rule (nat_lt 0 b) (g.below b) d (vs ++ ws) (expression x xs) t1 t2 t1.line t2.line
    (rule.exprs_rule (nat_lt 0 b) (g.below b) d vs ws x xs R (more_back xs f.1 p.1 b d (omega (arith, i)) (omega (arith, j)) ws (trees.one_more trees.no_exprs R.value) k))
    (open_read t1 c) (close_read t2 e))))))

get_whole : (x : List ℕ) (xs : Expressions) → AreReadBack xs → is_variable x ≡ true → are_readable xs ≡ true → (b d : ℕ) → depth (get x xs) ≤ b + 1 → depth (get x xs) ≤ d + 1 → (blank : Bool) (us : Lexemes) →
    Lexed us (spaced blank x ∷ subscript_words xs) → Operand b d us (get x xs)
get_whole x no_expressions f h r b d i j blank us l =
    first us _ _ (λ v. Operand b d v (get x no_expressions)) l (λ t rest c m.
    none rest (λ v. Operand b d (t ∷ v) (get x no_expressions)) m (rule.scalar_rule (nat_lt 0 b) (g.below b) d t (record { line = t.line; name = x }) (name_read t x h c)))
get_whole x (expression y ys) f h r b d i j blank us l =
    let some_y = depth_some y in
    first us _ _ (λ v. Operand b d v (get x (expression y ys))) l (λ t rest c m.
    rule.element_rule (nat_lt 0 b) (g.below b) d t (record { line = t.line; name = x }) rest (expression y ys) (at_least_one b (omega (arith, i, some_y))) (omega (arith, j, some_y)) (name_read t x h c)
    (subscripts_back y ys f r b (d - 1) (omega (arith, i)) (omega (arith, j, some_y)) rest m))

get_back : (x : List ℕ) (xs : Expressions) → AreReadBack xs → IsReadBack (get x xs)
get_back x xs f r b d i j blank us =
    let p = and_parts (is_variable x) (are_readable xs) r in
    of_operand (get x xs) b d us (get_whole x xs f p.0 p.1 b d i j blank us) (get_whole x xs f p.0 p.1 b d i j blank us)

-- ---- calls

one_argument : (x : Expression) → IsReadBack x → is_readable x ≡ true → (b d : ℕ) → depth x ≤ b → depth x ≤ d → (blank : Bool) (us : Lexemes) →
    Lexed us (spaced blank (codes "abs") ∷ joined (codes "(") ∷ ((expression_words false false x ++ []) ++ joined (codes ")") ∷ [])) → Operand b d us (call fun.Abs (expression x no_expressions))
one_argument x f p b d i j blank us l =
    let some_x = depth_some x in
    let Goal : Lexemes → Type 0 = λ v. Operand b d v (call fun.Abs (expression x no_expressions)) in
    first us _ _ Goal l (λ t rest c m.
    first rest _ _ (λ v. Goal (t ∷ v)) m (λ t1 ws e n.
    parts ws (expression_words false false x ++ []) _ (λ v. Goal (t ∷ t1 ∷ v)) n (λ vs last q o.
    first last _ _ (λ v. Goal (t ∷ t1 ∷ (vs ++ v))) o (λ t2 end h k.
    none end (λ v. Goal (t ∷ t1 ∷ (vs ++ t2 ∷ v))) k
    (rule.one_argument (nat_lt 0 b) (g.below b) d t fun.Abs (t1 ∷ (vs ++ t2 ∷ [])) x (at_least_one b (omega (arith, i, some_x))) (omega (arith, j, some_x)) (abs_read t c)
    (rule.bracketed_read (nat_lt 0 b) (g.below b) (d - 1) vs x t1 t2 t1.line t2.line (at_least_one b (omega (arith, i, some_x)))
    (nested_back x f p b (d - 1) i (omega (arith, j, some_x)) false vs (subst (Lexed vs) (append-nil (expression_words false false x)) q)) (open_read t1 e) (close_read t2 h)))))))

two_arguments : (f : Fun) (x y : Expression) → ((t : Lexeme) → Fits t (function_text f) → pairing t ≡ Some f) → IsReadBack x → IsReadBack y → is_readable x ≡ true → is_readable y ≡ true →
    (b d : ℕ) → max (depth x) (depth y) ≤ b → max (depth x) (depth y) ≤ d → (blank : Bool) (us : Lexemes) →
    Lexed us (spaced blank (function_text f) ∷ joined (codes "(") ∷ ((expression_words false false x ++ (joined (codes ",") ∷ (expression_words false true y ++ []))) ++ joined (codes ")") ∷ [])) →
    Operand b d us (call f (expression x (expression y no_expressions)))
two_arguments f x y named fx fy p q b d i j blank us l =
    let some_x = depth_some x in
    let Goal : Lexemes → Type 0 = λ v. Operand b d v (call f (expression x (expression y no_expressions))) in
    first us _ _ Goal l (λ t rest c m.
    first rest _ _ (λ v. Goal (t ∷ v)) m (λ t1 ws e n.
    parts ws (expression_words false false x ++ (joined (codes ",") ∷ (expression_words false true y ++ []))) _ (λ v. Goal (t ∷ t1 ∷ v)) n (λ inner last h o.
    first last _ _ (λ v. Goal (t ∷ t1 ∷ (inner ++ v))) o (λ t3 end k r.
    none end (λ v. Goal (t ∷ t1 ∷ (inner ++ t3 ∷ v))) r
    (parts inner (expression_words false false x) _ (λ v. Goal (t ∷ t1 ∷ (v ++ t3 ∷ []))) h (λ vs more a z.
    first more _ _ (λ v. Goal (t ∷ t1 ∷ ((vs ++ v) ++ t3 ∷ []))) z (λ t2 us2 u w.
    subst (λ v. Goal (t ∷ t1 ∷ v)) (regroup vs us2 t2 t3)
    (rule.two_arguments (nat_lt 0 b) (g.below b) d t t1 t2 t3 t1.line t2.line t3.line f vs us2 x y (at_least_one b (omega (arith, i, some_x))) (omega (arith, j, some_x)) (named t c) (open_read t1 e) (comma_read t2 u) (close_read t3 k)
    (nested_back x fx p b (d - 1) (omega (arith, i)) (omega (arith, j, some_x)) false vs a)
    (nested_back y fy q b (d - 1) (omega (arith, i)) (omega (arith, j, some_x)) true us2 (subst (Lexed us2) (append-nil (expression_words false true y)) w))))))))))
  where
    regroup : (vs us2 : Lexemes) (t2 t3 : Lexeme) → (vs ++ t2 ∷ []) ++ (us2 ++ t3 ∷ []) ≡ (vs ++ t2 ∷ us2) ++ t3 ∷ []
    regroup vs us2 t2 t3 = simp append_assoc

-- two arguments, and no other number of them
two_of : (f : Fun) → arity f ≡ 2 → ((t : Lexeme) → Fits t (function_text f) → pairing t ≡ Some f) → (xs : Expressions) → AreReadBack xs → (number_of xs == 2) ≡ true → are_readable xs ≡ true →
    (b d : ℕ) → deepest xs ≤ b → deepest xs ≤ d → (blank : Bool) (us : Lexemes) →
    Lexed us (spaced blank (function_text f) ∷ joined (codes "(") ∷ (expressions_from false xs ++ joined (codes ")") ∷ [])) → Operand b d us (call f xs)
two_of f a named no_expressions fs n r b d i j blank us l = absurd (grind (arith, nat_tests))
two_of f a named (expression x no_expressions) fs n r b d i j blank us l = absurd (grind (arith, nat_tests))
two_of f a named (expression x (expression y no_expressions)) fs n r b d i j blank us l =
    let p = and_parts (is_readable x) (are_readable (expression y no_expressions)) r in
    let q = and_parts (is_readable y) true p.1 in
    two_arguments f x y named fs.0 fs.1.0 p.0 q.0 b d (omega (arith, i)) (omega (arith, j)) blank us l
two_of f a named (expression x (expression y (expression z zs))) fs n r b d i j blank us l = absurd (grind (arith, nat_tests))

-- as many arguments as the function has
call_whole : (f : Fun) (xs : Expressions) → AreReadBack xs → (number_of xs == arity f) ≡ true → are_readable xs ≡ true → (b d : ℕ) → deepest xs ≤ b → deepest xs ≤ d → (blank : Bool) (us : Lexemes) →
    Lexed us (spaced blank (function_text f) ∷ joined (codes "(") ∷ (expressions_from false xs ++ joined (codes ")") ∷ [])) → Operand b d us (call f xs)
call_whole fun.Abs no_expressions fs n r b d i j blank us l = absurd (grind (arith, nat_tests))
call_whole fun.Abs (expression x no_expressions) fs n r b d i j blank us l =
    one_argument x fs.0 (and_parts (is_readable x) true r).0 b d (omega (arith, i)) (omega (arith, j)) blank us l
call_whole fun.Abs (expression x (expression y ys)) fs n r b d i j blank us l = absurd (grind (arith, nat_tests))
call_whole fun.Max xs fs n r b d i j blank us l = two_of fun.Max refl max_read xs fs n r b d i j blank us l
call_whole fun.Min xs fs n r b d i j blank us l = two_of fun.Min refl min_read xs fs n r b d i j blank us l
call_whole fun.Mod xs fs n r b d i j blank us l = two_of fun.Mod refl mod_read xs fs n r b d i j blank us l

call_back : (f : Fun) (xs : Expressions) → AreReadBack xs → IsReadBack (call f xs)
call_back f xs fs r b d i j blank us =
    let p = and_parts (number_of xs == arity f) (are_readable xs) r in
    of_operand (call f xs) b d us (call_whole f xs fs p.0 p.1 b d (omega (arith, i)) (omega (arith, j)) blank us) (call_whole f xs fs p.0 p.1 b d (omega (arith, i)) (omega (arith, j)) blank us)

cases : ExpressionCases IsReadBack AreReadBack
cases = record {
  of_literal = literal_back;
  of_get = get_back;
  of_minus = minus_back;
  of_binary = binary_back;
  of_power = power_back;
  of_call = call_back;
  of_none = tt;
  of_more = λ x xs f fs. (f, fs);
}

pub read_back : (e : Expression) → IsReadBack e
read_back e = expression_induction IsReadBack AreReadBack cases e

pub all_read_back : (xs : Expressions) → AreReadBack xs
all_read_back xs = expressions_induction IsReadBack AreReadBack cases xs

-- ---- as the tokens are lexed

pub lexed_expression : (e : Expression) → is_readable e ≡ true → (operand blank : Bool) (us : Lexemes) → AreOf us (expression_words operand blank e) → Lexed us (expression_words operand blank e)
lexed_expression e r operand blank us l = let f = flows e r operand blank Calm (calm_ready blank) in lexed us (expression_words operand blank e) Calm f.to f.flow l
  where
    calm_ready : (blank : Bool) → ready blank Calm ≡ true
    calm_ready true = refl
    calm_ready false = refl

pub expressions_read : (e : Expression) (blank : Bool) (b d : ℕ) (us : Lexemes) → is_readable e ≡ true → depth e ≤ b + 1 → depth e ≤ d + 1 → AreOf us (expression_words false blank e) → IsReadAs (g.expr b (Some d)) us e
expressions_read e blank b d us r i j l = expr_at b d us e ((read_back e r b d i j blank us).0 (lexed_expression e r false blank us l))

pub subscripts_read : (e : Expression) (more : Expressions) (b d : ℕ) (us : Lexemes) → are_readable (expression e more) ≡ true → deepest (expression e more) ≤ b + 1 → deepest (expression e more) ≤ d + 1 →
    AreOf us (subscript_words (expression e more)) → AreReadAs (g.subscripts true (g.below (b + 1)) (Some d)) us (expression e more)
subscripts_read e more b d us r i j l =
    let f = subscripts_flow (expression e more) r in
    let R = subscripts_back e more (all_read_back (expression e more)) r (b + 1) d i j us (lexed us (subscript_words (expression e more)) Wordy f.to f.flow l) in
    subst (λ (open_ : Bool). AreReadAs (g.subscripts open_ (g.below (b + 1)) (Some d)) us (expression e more)) (at_least_one (b + 1) (omega arith)) R

-- a whole expression, and an operand
pub whole_read : (x : Expression) (b d : ℕ) (blank : Bool) (us : Lexemes) → is_readable x ≡ true → depth x ≤ b + 1 → depth x ≤ d + 1 → Lexed us (expression_words false blank x) → IsReadAs (g.expr b (Some d)) us x
whole_read x b d blank us r i j l = expr_at b d us x ((read_back x r b d i j blank us).0 l)

pub operand_read : (x : Expression) (b d : ℕ) (blank : Bool) (us : Lexemes) → is_readable x ≡ true → depth x ≤ b + 1 → depth x ≤ d + 1 → Lexed us (expression_words true blank x) → IsReadAs (g.expr b (Some d)) us x
operand_read x b d blank us r i j l = expr_at b d us x (whole_operand b d us x ((read_back x r b d i j blank us).1 l))
