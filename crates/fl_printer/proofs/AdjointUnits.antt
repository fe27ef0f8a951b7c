-- The rows of readable adjoints.
use Rattle.std.proofs.Common.{◌≡◌, ℕ, ◌+◌, ◌≤◌, Bool, true, false, not, ◌&&◌, List, [], ◌∷◌, ◌++◌, refl, arith}
use Rattle.std.specs.Prelude.{nat_le, ◌==◌, codes}
use Rattle.std.proofs.lemmas.Bool.{and_parts}
use Rattle.fl_base.specs.Spelling.{is_name}
use Rattle.fl_ast.specs.declared.kind.BinOp.TheVariants as op
use Rattle.fl_ast.specs.declared.adjoint.Adjoint.{Adjoint}
use Rattle.fl_ast.specs.Tree.{Expression, Designator}
use Rattle.fl_ast.specs.AdjointTree.{AdjointExpression, adjoint_literal, adjoint_get, adjoint_minus, adjoint_binary, adjoint_power, adjoint_call, merge, AdjointExpressions, AdjointStatement, AdjointStatements, no_adjoint_statements, adjoint_statement, AdjointArms, astmt_trees, adjoint_tree}
use Rattle.fl_ast.specs.Induction.{AdjointExpressionCases, adjoint_expression_induction, AdjointStatementCases, adjoint_statements_induction}
use Rattle.fl_ast.specs.Readable.{is_variable, is_readable, are_readable, is_readable_condition, is_readable_step, is_parallel, is_readable_directive, arity}
use Rattle.fl_printer.specs.declared.spaced.Spaced.{Spaced}
use Rattle.fl_printer.specs.Words.{spaced, joined, function_text, inside, comma_if, adjoint_words, adjoints_from, adjoint_sum_words}
use Rattle.fl_printer.specs.Rows.{atomic_rows, adjoint_value_words, adjoint_assign_row, adjoint_assign_rows, call_words, push_row, pop_row, open_row, close_row, loop_rows, end_row, head_rows, last_row, adjoint_rows, adjoint_block_rows, adjoint_arm_rows, adjoint_else_rows, adjoint_unit_rows}
use Rattle.fl_printer.specs.Lexemes.{IsLexedAs}
use Rattle.fl_printer.proofs.LexemeLaws.{rows_lexed}
use Rattle.fl_printer.specs.Text.{adjoint_text}
use Rattle.fl_printer.specs.Small.{are_small}
use Rattle.fl_ast.specs.ReadableAdjoint.{number_of_adjoints, is_readable_adjoint, are_readable_adjoints, has_parallel_adjoints, has_adjoint_arm, is_readable_adjoint_statement, are_readable_adjoint_statements, are_readable_adjoint_arms, adjoint_block_depth, block_depth_of_adjoints, block_depth_of_adjoint_arms, IsReadableAdjoint}
use Rattle.fl_printer.proofs.Tokens.{Class, Wordy, Pairing, Calm, pair_token}
use Rattle.fl_printer.proofs.Flow.{Runs, closed, ready, any, join, stop, step_as, calm, name_step, number_step, plain_step, minus_token, bracket, opened, ended, operator_step, function_name, le_is, flows, place_flows, condition_flows}
use Rattle.fl_printer.proofs.Lines.{IsRow, AreRows, rows_append}
use Rattle.fl_printer.proofs.Units.{row, closed_any, word, open_bracket, equals, comma, atomic_is, test_is, end_is, else_is, loop_is, max_left, max_right, head_is, last_is}

-- ---- expressions

abbrev Flows : AdjointExpression → Type 0
Flows e = is_readable_adjoint e ≡ true → (operand blank : Bool) (c : Class) → ready blank c ≡ true → Runs c (adjoint_words operand blank e) closed

abbrev FlowsAll : AdjointExpressions → Type 0
FlowsAll s = are_readable_adjoints s ≡ true → (later : Bool) (c : Class) → ready later c ≡ true → Runs c (adjoints_from later s) any

list_more : (later : Bool) (c : Class) (a : AdjointExpression) (rest : AdjointExpressions) → ready later c ≡ true →
    ((c : Class) → ready later c ≡ true → Runs c (adjoint_words false later a) closed) → ((d : Class) → Runs d (adjoints_from true rest) any) →
    Runs c (comma_if later ++ (adjoint_words false later a ++ adjoints_from true rest)) any
list_more true c a rest r f g = comma c (join (f Calm refl) (λ d h. g d))
list_more false c a rest r f g = join (f c r) (λ d h. g d)

cases : AdjointExpressionCases Flows FlowsAll
cases = record {
  of_literal = λ value k h operand blank c r. number_step blank value k c (le_is value 9223372036854775807 h) r (stop Wordy closed refl);
  of_get = λ p h operand blank c r. let q = and_parts (is_variable p.name) (are_readable p.subscripts) h in place_flows p q.0 q.1 blank c r;
  of_minus = λ a f h operand blank c r.
      join (opened operand blank c r) (λ d i. calm (spaced (inside operand blank) (codes "-")) d refl minus_token
      (join (f h true false Calm refl) (λ e j. ended operand e j)));
  of_binary = λ o a b f g h operand blank c r.
      let p = and_parts (is_readable_adjoint a) (is_readable_adjoint b) h in
      join (opened operand blank c r) (λ d i. join (f p.0 true (inside operand blank) d i) (λ e j. operator_step o e j
      (λ s k. join (g p.1 true false s k) (λ t l. ended operand t l))));
  of_power = λ a exponent f h operand blank c r.
      let p = and_parts (nat_le exponent 2147483647) (is_readable_adjoint a) h in
      let small = le_is exponent 2147483647 p.0 in
      join (opened operand blank c r) (λ d i. join (f p.1 true (inside operand blank) d i) (λ e j.
      step_as Pairing (joined (codes "**")) e refl (pair_token 42 42 refl refl refl refl refl) j
      (plain_step false exponent Pairing (omega (arith, small)) refl (ended operand Wordy refl))));
  of_call = λ f args g h operand blank c r.
      let p = and_parts (number_of_adjoints args == arity f) (are_readable_adjoints args) h in
      name_step blank (function_text f) c (function_name f) r (open_bracket Wordy (join (g p.1 false Calm refl) (λ d i. bracket d)));
  of_merge = λ a b test f g h operand blank c r.
      let p = and_parts (is_readable_adjoint a) (is_readable_adjoint b && is_readable_condition test) h in
      let q = and_parts (is_readable_adjoint b) (is_readable_condition test) p.1 in
      name_step blank (codes "merge") c refl r (open_bracket Wordy (join (f p.0 false false Calm refl) (λ d i. comma d
      (join (g q.0 false true Calm refl) (λ e j. comma e (join (condition_flows test q.1 false true Calm refl) (λ s k. bracket s)))))));
  of_none = λ h later c r. stop c any refl;
  of_more = λ a rest f g h later c r.
      let p = and_parts (is_readable_adjoint a) (are_readable_adjoints rest) h in
      list_more later c a rest r (λ d i. f p.0 false later d i) (λ d. g p.1 true d refl);
}

adjoint_flows : (e : AdjointExpression) → is_readable_adjoint e ≡ true → (operand blank : Bool) (c : Class) → ready blank c ≡ true → Runs c (adjoint_words operand blank e) closed
adjoint_flows e = adjoint_expression_induction Flows FlowsAll cases e

adjoint_sum_flows : (e : AdjointExpression) → is_readable_adjoint e ≡ true → (operand blank : Bool) (c : Class) → ready blank c ≡ true → Runs c (adjoint_sum_words operand blank e) closed
adjoint_sum_flows (adjoint_binary op.Add a b) h operand blank c r =
    let p = and_parts (is_readable_adjoint a) (is_readable_adjoint b) h in
    join (adjoint_sum_flows a p.0 true blank c r) (λ d i. operator_step op.Add d i (λ e j. adjoint_flows b p.1 true false e j))
adjoint_sum_flows (adjoint_binary op.Sub a b) h operand blank c r = adjoint_flows (adjoint_binary op.Sub a b) h operand blank c r
adjoint_sum_flows (adjoint_binary op.Mul a b) h operand blank c r = adjoint_flows (adjoint_binary op.Mul a b) h operand blank c r
adjoint_sum_flows (adjoint_binary op.Div a b) h operand blank c r = adjoint_flows (adjoint_binary op.Div a b) h operand blank c r
adjoint_sum_flows (adjoint_literal n k) h operand blank c r = adjoint_flows (adjoint_literal n k) h operand blank c r
adjoint_sum_flows (adjoint_get p) h operand blank c r = adjoint_flows (adjoint_get p) h operand blank c r
adjoint_sum_flows (adjoint_minus a) h operand blank c r = adjoint_flows (adjoint_minus a) h operand blank c r
adjoint_sum_flows (adjoint_power a n) h operand blank c r = adjoint_flows (adjoint_power a n) h operand blank c r
adjoint_sum_flows (adjoint_call f s) h operand blank c r = adjoint_flows (adjoint_call f s) h operand blank c r
adjoint_sum_flows (merge a b test) h operand blank c r = adjoint_flows (merge a b test) h operand blank c r

-- ---- statements

value_flows : (atomic : Bool) (e : AdjointExpression) (c : Class) → is_readable_adjoint e ≡ true → Runs c (adjoint_value_words atomic e) closed
value_flows true e c h = adjoint_sum_flows e h false true c refl
value_flows false e c h = adjoint_flows e h false true c refl

assign_is : (margin : ℕ) (atomic : Bool) (target : Designator) (value : AdjointExpression) → margin ≤ 600 → is_variable target.name ≡ true → are_readable target.subscripts ≡ true → is_readable_adjoint value ≡ true →
    AreRows (adjoint_assign_rows margin atomic target value)
assign_is margin atomic target value small h i j =
    rows_append (atomic_rows margin atomic) (adjoint_assign_row margin atomic target value ∷ []) (atomic_is margin atomic small)
    (row margin _ _ small refl (join (place_flows target h i false Calm refl) (λ d k. equals d (value_flows atomic value Pairing j))), tt)

-- a call of the tape
call_flows : (name : List ℕ) (ws : List Spaced) → is_name name ≡ true → Runs Calm ws any → Runs Calm (call_words name ++ ws) any
call_flows name ws h r = name_step false (codes "call") Calm refl refl (word name Wordy h (open_bracket Wordy r))

push_is : (margin : ℕ) (key value : Expression) → margin ≤ 600 → is_readable key ≡ true → is_readable value ≡ true → IsRow (push_row margin key value)
push_is margin key value small h i =
    row margin _ _ small refl (call_flows (codes "formad_push") _ refl (join (flows key h false false Calm refl) (λ d j. comma d
    (join (flows value i false true Calm refl) (λ e k. closed_any (bracket e))))))

pop_is : (margin : ℕ) (key : Expression) (target : Designator) → margin ≤ 600 → is_readable key ≡ true → is_variable target.name ≡ true → are_readable target.subscripts ≡ true → IsRow (pop_row margin key target)
pop_is margin key target small h i j =
    row margin _ _ small refl (call_flows (codes "formad_pop") _ refl (join (flows key h false false Calm refl) (λ d k. comma d
    (join (place_flows target i j true Calm refl) (λ e l. closed_any (bracket e))))))

open_is : (margin : ℕ) (count : Expression) → margin ≤ 600 → is_readable count ≡ true → IsRow (open_row margin count)
open_is margin count small h =
    row margin _ _ small refl (call_flows (codes "formad_open") _ refl (join (flows count h false false Calm refl) (λ d k. closed_any (bracket d))))

close_is : (margin : ℕ) → margin ≤ 600 → IsRow (close_row margin)
close_is margin small = row margin _ _ small refl (call_flows (codes "formad_close") _ refl (closed_any (bracket Calm)))

-- so deep that no margin is too wide
abbrev Fits : ℕ → ℕ → Type 0
Fits margin depth = margin + (depth + depth) ≤ 600

abbrev IsPrintable : AdjointStatement → Type 0
IsPrintable s = is_readable_adjoint_statement s ≡ true → (margin : ℕ) → Fits margin (adjoint_block_depth s) → AreRows (adjoint_rows margin s)

abbrev ArePrintable : AdjointStatements → Type 0
ArePrintable ss = are_readable_adjoint_statements ss ≡ true → (margin : ℕ) → Fits margin (block_depth_of_adjoints ss) →
    AreRows (adjoint_block_rows margin ss)

abbrev HasElse : AdjointStatements → Type 0
HasElse ss = are_readable_adjoint_statements ss ≡ true → (margin : ℕ) → Fits margin (block_depth_of_adjoints ss + 1) → AreRows (adjoint_else_rows margin ss)

abbrev ArePrintableArms : AdjointArms → Type 0
ArePrintableArms as' = are_readable_adjoint_arms as' ≡ true → (margin : ℕ) (later : Bool) → Fits margin (block_depth_of_adjoint_arms as' + 1) → AreRows (adjoint_arm_rows margin later as')

-- the rows of an `else` are one more than those of its block
else_of : (ss : AdjointStatements) → ArePrintable ss → HasElse ss
else_of no_adjoint_statements f h margin g = tt
else_of (adjoint_statement s rest) f h margin g = (else_is margin (omega (arith, g)), f h (margin + 2) (omega (arith, g)))

statement_cases : AdjointStatementCases IsPrintable ArePrintable ArePrintableArms
statement_cases = record {
  of_assignment = λ line atomic target value h margin g.
      let p = and_parts (is_variable target.name) (are_readable target.subscripts && is_readable_adjoint value) h in
      let q = and_parts (are_readable target.subscripts) (is_readable_adjoint value) p.1 in
      assign_is margin atomic target value (omega (arith, g)) p.0 q.0 q.1;
  of_branch = λ line arms other f k h margin g.
      let p = and_parts (has_adjoint_arm arms) (are_readable_adjoint_arms arms && are_readable_adjoint_statements other) h in
      let q = and_parts (are_readable_adjoint_arms arms) (are_readable_adjoint_statements other) p.1 in
      let l = max_left (block_depth_of_adjoint_arms arms) (block_depth_of_adjoints other) in
      let r = max_right (block_depth_of_adjoint_arms arms) (block_depth_of_adjoints other) in
      rows_append (adjoint_arm_rows margin false arms) (adjoint_else_rows margin other ++ end_row margin (codes "if") ∷ []) (f q.0 margin false (omega (arith, g, l)))
      (rows_append (adjoint_else_rows margin other) (end_row margin (codes "if") ∷ []) (else_of other k q.1 margin (omega (arith, g, r))) (end_is margin (codes "if") (omega (arith, g)) refl, tt));
  of_loop = λ line number directive var first last by body f h margin g.
      let p = and_parts (is_readable_directive directive) _ h in
      let q = and_parts (not (is_parallel directive && has_parallel_adjoints body)) _ p.1 in
      let r = and_parts (is_variable var) _ q.1 in
      let s = and_parts (is_readable first) _ r.1 in
      let t = and_parts (is_readable last) _ s.1 in
      let u = and_parts (is_readable_step by) (are_readable_adjoint_statements body) t.1 in
      rows_append (loop_rows margin directive var first last by) (adjoint_block_rows (margin + 2) body ++ end_row margin (codes "do") ∷ [])
      (loop_is margin directive var first last by (omega (arith, g)) p.0 r.0 s.0 t.0 u.0)
      (rows_append (adjoint_block_rows (margin + 2) body) (end_row margin (codes "do") ∷ []) (f u.1 (margin + 2) (omega (arith, g))) (end_is margin (codes "do") (omega (arith, g)) refl, tt));
  of_push = λ line key value h margin g. let p = and_parts (is_readable key) (is_readable value) h in (push_is margin key value (omega (arith, g)) p.0 p.1, tt);
  of_pop = λ line key target h margin g.
      let p = and_parts (is_readable key) (is_variable target.name && are_readable target.subscripts) h in
      let q = and_parts (is_variable target.name) (are_readable target.subscripts) p.1 in
      (pop_is margin key target (omega (arith, g)) p.0 q.0 q.1, tt);
  of_begin_tapes = λ line count h margin g. (open_is margin count (omega (arith, g)) h, tt);
  of_end_tapes = λ line h margin g. (close_is margin (omega (arith, g)), tt);
  of_none = λ h margin g. tt;
  of_more = λ s rest f k h margin g.
      let p = and_parts (is_readable_adjoint_statement s) (are_readable_adjoint_statements rest) h in
      let l = max_left (adjoint_block_depth s) (block_depth_of_adjoints rest) in
      let r = max_right (adjoint_block_depth s) (block_depth_of_adjoints rest) in
      rows_append (adjoint_rows margin s) (adjoint_block_rows margin rest) (f p.0 margin (omega (arith, g, l))) (k p.1 margin (omega (arith, g, r)));
  of_no_arms = λ h margin later g. tt;
  of_arm = λ test body rest f k h margin later g.
      let p = and_parts (is_readable_condition test) (are_readable_adjoint_statements body && are_readable_adjoint_arms rest) h in
      let q = and_parts (are_readable_adjoint_statements body) (are_readable_adjoint_arms rest) p.1 in
      let l = max_left (block_depth_of_adjoints body) (block_depth_of_adjoint_arms rest) in
      let r = max_right (block_depth_of_adjoints body) (block_depth_of_adjoint_arms rest) in (
        test_is margin later test (omega (arith, g)) p.0,
        rows_append (adjoint_block_rows (margin + 2) body) (adjoint_arm_rows margin true rest) (f q.0 (margin + 2) (omega (arith, g, l))) (k q.1 margin true (omega (arith, g, r))),
      );
}

pub block_is : (ss : AdjointStatements) → are_readable_adjoint_statements ss ≡ true → (margin : ℕ) → margin + (block_depth_of_adjoints ss + block_depth_of_adjoints ss) ≤ 600 → AreRows (adjoint_block_rows margin ss)
block_is ss = adjoint_statements_induction IsPrintable ArePrintable ArePrintableArms statement_cases ss

-- ---- units

adjoint_is : (a : Adjoint) → IsReadableAdjoint a → are_small a.decls ≡ true → AreRows (adjoint_unit_rows (adjoint_tree a))
adjoint_is a r s =
    let deep = r.shallow_blocks in
    let f = astmt_trees a.forward in
    let b = astmt_trees a.reverse in
    let left = max_left (block_depth_of_adjoints f) (block_depth_of_adjoints b) in
    let right = max_right (block_depth_of_adjoints f) (block_depth_of_adjoints b) in
    rows_append (head_rows a.name a.args a.decls) (adjoint_block_rows 2 f ++ (adjoint_block_rows 2 b ++ last_row a.name ∷ [])) (head_is a.name a.args a.decls r.name r.args r.decls s)
    (rows_append (adjoint_block_rows 2 f) (adjoint_block_rows 2 b ++ last_row a.name ∷ []) (block_is f r.forward 2 (omega (arith, deep, left)))
    (rows_append (adjoint_block_rows 2 b) (last_row a.name ∷ []) (block_is b r.reverse 2 (omega (arith, deep, right))) (last_is a.name r.name, tt)))

-- what is printed has the tokens of its rows
pub adjoint_lexed : (a : Adjoint) (text : List ℕ) → text ≡ adjoint_text (adjoint_tree a) → IsReadableAdjoint a → are_small a.decls ≡ true → IsLexedAs text (adjoint_unit_rows (adjoint_tree a))
adjoint_lexed a text e r s = rows_lexed (adjoint_unit_rows (adjoint_tree a)) text (adjoint_is a r s) e
