-- Tokens that don't join: how those of expressions and conditions follow each other.
use Rattle.std.proofs.Common.{◌≡◌, ℕ, ◌≤◌, Bool, true, false, ◌&&◌, ◌||◌, List, [], ◌∷◌, ◌++◌, refl, ap, sym, ◌∙◌, subst, arith}
use Rattle.std.specs.Prelude.{nat_le, ◌==◌, codes, decimal}
use Rattle.std.proofs.lemmas.Bool.{and_parts}
use Rattle.std.proofs.lemmas.Bool.Decides.{nat_tests}
use Rattle.fl_base.specs.Spelling.{is_name}
use Rattle.fl_ast.specs.declared.kind.Kind.{Kind}
use Rattle.fl_ast.specs.declared.kind.Kind.TheVariants as kind
use Rattle.fl_ast.specs.declared.kind.BinOp.{BinOp}
use Rattle.fl_ast.specs.declared.kind.BinOp.TheVariants as op
use Rattle.fl_ast.specs.declared.kind.RelOp.{RelOp}
use Rattle.fl_ast.specs.declared.kind.RelOp.TheVariants as rel
use Rattle.fl_ast.specs.declared.kind.Fun.{Fun}
use Rattle.fl_ast.specs.declared.kind.Fun.TheVariants as fun
use Rattle.fl_ast.specs.Tree.{Expression, literal, get, minus, binary, power, call, Expressions, no_expressions, expression, Designator, Condition, relation, negation, conjunction, disjunction}
use Rattle.fl_ast.specs.Induction.{ExpressionCases, expression_induction, expressions_induction}
use Rattle.fl_ast.specs.Readable.{is_variable, is_readable, are_readable, is_readable_condition, number_of, arity}
use Rattle.fl_printer.specs.declared.spaced.Spaced.{Spaced}
use Rattle.fl_printer.specs.Words.{spaced, joined, apart, operator_text, relation_text, function_text, literal_text, comma_if, opening, inside, closing, expression_words, subscript_words, expressions_from, place_words, sum_words, condition_words}
use Rattle.fl_printer.proofs.Tokens.{Class, Wordy, Pairing, Calm, class_of, touch, touch_calm, IsToken, name_token, number_token, mark_token, pair_token, not_token, and_token, or_token, class_name, class_number, plain_literal}

-- tokens behind one of a class, up to one of another
abbrev pub Flow : Class → List Spaced → Class → Type 0
Flow c [] d = c ≡ d
Flow c (w ∷ ws) d = IsToken w.text × ((w.blank || touch c (class_of w.text)) ≡ true) × Flow (class_of w.text) ws d

-- up to some class of a kind
pub record Runs (c : Class) (ws : List Spaced) (good : Class → Bool) : Type 0 where
  pub to : Class
  pub ends : good to ≡ true
  pub flow : Flow c ws to

-- a sign may follow; and a word may
abbrev pub closed : Class → Bool
closed d = touch d Pairing

abbrev pub ready : Bool → Class → Bool
ready blank d = blank || touch d Wordy

abbrev pub any : Class → Bool
any d = true

flow_append : (c d e : Class) (xs ys : List Spaced) → Flow c xs d → Flow d ys e → Flow c (xs ++ ys) e
flow_append c d e [] ys f g = subst (λ (b : Class). Flow b ys e) (sym f) g
flow_append c d e (x ∷ xs) ys f g = (f.0, f.1, flow_append (class_of x.text) d e xs ys f.2 g)

pub join : {c : Class} {xs ys : List Spaced} {p q : Class → Bool} → Runs c xs p → ((d : Class) → p d ≡ true → Runs d ys q) → Runs c (xs ++ ys) q
join {c} {xs} {ys} {p} {q} f g =
    let more = g f.to f.ends in record { to = more.to; ends = more.ends; flow = flow_append c f.to more.to xs ys f.flow more.flow }

pub stop : (c : Class) (q : Class → Bool) → q c ≡ true → Runs c [] q
stop c q h = record { to = c; ends = h; flow = refl }

pub step : (w : Spaced) (c : Class) {ws : List Spaced} {q : Class → Bool} → IsToken w.text → (w.blank || touch c (class_of w.text)) ≡ true → Runs (class_of w.text) ws q → Runs c (w ∷ ws) q
step w c t h r = record { to = r.to; ends = r.ends; flow = (t, h, r.flow) }

-- a token of a known class
pub step_as : (class : Class) (w : Spaced) (c : Class) {ws : List Spaced} {q : Class → Bool} → class_of w.text ≡ class → IsToken w.text → (w.blank || touch c class) ≡ true → Runs class ws q → Runs c (w ∷ ws) q
step_as class w c {ws} {q} e t h r =
    step w c t (ap (λ d. w.blank || touch c d) e ∙ h) (subst (λ (d : Class). Runs d ws q) (sym e) r)

or_true : (b : Bool) → (b || true) ≡ true
or_true true = refl
or_true false = refl

calm_meets : (b : Bool) (c : Class) → (b || touch c Calm) ≡ true
calm_meets true c = refl
calm_meets false c = touch_calm c

-- ---- single tokens

pub open_token : IsToken (codes "(")
open_token = mark_token 40 refl refl refl refl

pub close_token : IsToken (codes ")")
close_token = mark_token 41 refl refl refl refl

pub comma_token : IsToken (codes ",")
comma_token = mark_token 44 refl refl refl refl

pub minus_token : IsToken (codes "-")
minus_token = mark_token 45 refl refl refl refl

pub calm : (w : Spaced) (c : Class) {ws : List Spaced} {q : Class → Bool} → class_of w.text ≡ Calm → IsToken w.text → Runs Calm ws q → Runs c (w ∷ ws) q
calm w c e t r = step_as Calm w c e t (calm_meets w.blank c) r

pub name_step : (blank : Bool) (x : List ℕ) (c : Class) {ws : List Spaced} {q : Class → Bool} → is_name x ≡ true → ready blank c ≡ true → Runs Wordy ws q → Runs c (spaced blank x ∷ ws) q
name_step blank x c h r more = step_as Wordy (spaced blank x) c (class_name x h) (name_token x h) r more

pub number_step : (blank : Bool) (n : ℕ) (k : Kind) (c : Class) {ws : List Spaced} {q : Class → Bool} → n ≤ 9223372036854775807 → ready blank c ≡ true → Runs Wordy ws q → Runs c (spaced blank (literal_text n k) ∷ ws) q
number_step blank n k c h r more = step_as Wordy (spaced blank (literal_text n k)) c (class_number n k h) (number_token n k h) r more

pub plain_step : (blank : Bool) (n : ℕ) (c : Class) {ws : List Spaced} {q : Class → Bool} → n ≤ 9223372036854775807 → ready blank c ≡ true → Runs Wordy ws q → Runs c (spaced blank (decimal n) ∷ ws) q
plain_step blank n c {ws} {q} h r more =
    subst (λ (ds : List ℕ). Runs c (spaced blank ds ∷ ws) q) (plain_literal n) (number_step blank n kind.Index c h r more)

-- ---- brackets

pub opened : (operand blank : Bool) (c : Class) → ready blank c ≡ true → Runs c (opening operand blank) (ready (inside operand blank))
opened true blank c r = calm (spaced blank (codes "(")) c refl open_token (stop Calm (ready (inside true blank)) (or_true (inside true blank)))
opened false blank c r = stop c (ready (inside false blank)) (both blank r)
  where
    both : (b : Bool) → (b || touch c Wordy) ≡ true → ((b && true) || touch c Wordy) ≡ true
    both true h = refl
    both false h = h

pub ended : (operand : Bool) (d : Class) → closed d ≡ true → Runs d (closing operand) closed
ended true d h = calm (joined (codes ")")) d refl close_token (stop Calm closed refl)
ended false d h = stop d closed h

pub bracket : (d : Class) → Runs d (joined (codes ")") ∷ []) closed
bracket d = calm (joined (codes ")")) d refl close_token (stop Calm closed refl)

-- ---- operators

pub operator_step : (o : BinOp) (d : Class) {ws : List Spaced} → closed d ≡ true → ((e : Class) → ready false e ≡ true → Runs e ws closed) → Runs d (joined (operator_text o) ∷ ws) closed
operator_step op.Add d h more = calm (joined (codes "+")) d refl (mark_token 43 refl refl refl refl) (more Calm refl)
operator_step op.Sub d h more = calm (joined (codes "-")) d refl minus_token (more Calm refl)
operator_step op.Mul d h more = step_as Pairing (joined (codes "*")) d refl (mark_token 42 refl refl refl refl) h (more Pairing refl)
operator_step op.Div d h more = step_as Pairing (joined (codes "/")) d refl (mark_token 47 refl refl refl refl) h (more Pairing refl)

relation_step : (o : RelOp) (d : Class) {ws : List Spaced} {q : Class → Bool} → ((e : Class) → Runs e ws q) → Runs d (apart (relation_text o) ∷ ws) q
relation_step rel.Eq d more = step (apart (codes "==")) d (pair_token 61 61 refl refl refl refl refl) refl (more _)
relation_step rel.Ne d more = step (apart (codes "/=")) d (pair_token 47 61 refl refl refl refl refl) refl (more _)
relation_step rel.Lt d more = step (apart (codes "<")) d (mark_token 60 refl refl refl refl) refl (more _)
relation_step rel.Le d more = step (apart (codes "<=")) d (pair_token 60 61 refl refl refl refl refl) refl (more _)
relation_step rel.Gt d more = step (apart (codes ">")) d (mark_token 62 refl refl refl refl) refl (more _)
relation_step rel.Ge d more = step (apart (codes ">=")) d (pair_token 62 61 refl refl refl refl refl) refl (more _)

pub function_name : (f : Fun) → is_name (function_text f) ≡ true
function_name fun.Max = refl
function_name fun.Min = refl
function_name fun.Abs = refl
function_name fun.Mod = refl

pub le_is : (n m : ℕ) → nat_le n m ≡ true → n ≤ m
le_is n m h = grind (arith, nat_tests)

-- ---- expressions

-- the tokens of an expression follow each other, and a sign may follow them
abbrev Flows : Expression → Type 0
Flows e = is_readable e ≡ true → (operand blank : Bool) (c : Class) → ready blank c ≡ true → Runs c (expression_words operand blank e) closed

-- those of a list, and those of subscripts behind a name
abbrev FlowsAll : Expressions → Type 0
FlowsAll s = are_readable s ≡ true →
    ((later : Bool) (c : Class) → ready later c ≡ true → Runs c (expressions_from later s) any) × Runs Wordy (subscript_words s) closed

pub variable_name : (x : List ℕ) → is_variable x ≡ true → is_name x ≡ true
variable_name x h = (and_parts (is_name x) _ h).0

list_more : (later : Bool) (c : Class) (a : Expression) (rest : Expressions) → ready later c ≡ true →
    ((c : Class) → ready later c ≡ true → Runs c (expression_words false later a) closed) → ((d : Class) → Runs d (expressions_from true rest) any) →
    Runs c (comma_if later ++ (expression_words false later a ++ expressions_from true rest)) any
list_more true c a rest r f g = calm (joined (codes ",")) c refl comma_token (join (f Calm refl) (λ d h. g d))
list_more false c a rest r f g = join (f c r) (λ d h. g d)

literal_flows : (value : ℕ) (k : Kind) → Flows (literal value k)
literal_flows value k h operand blank c r = number_step blank value k c (le_is value 9223372036854775807 h) r (stop Wordy closed refl)

get_flows : (name : List ℕ) (subscripts : Expressions) → FlowsAll subscripts → Flows (get name subscripts)
get_flows name subscripts f h operand blank c r =
    let p = and_parts (is_variable name) (are_readable subscripts) h in
    name_step blank name c (variable_name name p.0) r (f p.1).1

minus_flows : (a : Expression) → Flows a → Flows (minus a)
minus_flows a f h operand blank c r =
    join (opened operand blank c r) (λ d i. calm (spaced (inside operand blank) (codes "-")) d refl minus_token
    (join (f h true false Calm refl) (λ e j. ended operand e j)))

binary_flows : (o : BinOp) (a b : Expression) → Flows a → Flows b → Flows (binary o a b)
binary_flows o a b f g h operand blank c r =
    let p = and_parts (is_readable a) (is_readable b) h in
    join (opened operand blank c r) (λ d i. join (f p.0 true (inside operand blank) d i) (λ e j. operator_step o e j
    (λ s k. join (g p.1 true false s k) (λ t l. ended operand t l))))

power_flows : (a : Expression) (exponent : ℕ) → Flows a → Flows (power a exponent)
power_flows a exponent f h operand blank c r =
    let p = and_parts (nat_le exponent 2147483647) (is_readable a) h in
    let small : exponent ≤ 2147483647 = le_is exponent 2147483647 p.0 in
    join (opened operand blank c r) (λ d i. join (f p.1 true (inside operand blank) d i) (λ e j.
    step_as Pairing (joined (codes "**")) e refl (pair_token 42 42 refl refl refl refl refl) j
    (plain_step false exponent Pairing (omega (arith, small)) refl (ended operand Wordy refl))))

call_flows : (f : Fun) (args : Expressions) → FlowsAll args → Flows (call f args)
call_flows f args g h operand blank c r =
    let p = and_parts (number_of args == arity f) (are_readable args) h in
    name_step blank (function_text f) c (function_name f) r (calm (joined (codes "(")) Wordy refl open_token
    (join ((g p.1).0 false Calm refl) (λ d i. bracket d)))

none_flow : FlowsAll no_expressions
none_flow h = (λ later c r. stop c any refl, stop Wordy closed refl)

more_flow : (a : Expression) (rest : Expressions) → Flows a → FlowsAll rest → FlowsAll (expression a rest)
more_flow a rest f g h =
    let p = and_parts (is_readable a) (are_readable rest) h in (
      λ later c r. list_more later c a rest r (λ d i. f p.0 false later d i) (λ d. (g p.1).0 true d refl),
      calm (joined (codes "(")) Wordy refl open_token (join (join (f p.0 false false Calm refl) (λ d i. (g p.1).0 true d refl)) (λ d i. bracket d)),
    )

cases : ExpressionCases Flows FlowsAll
cases = record {
  of_literal = literal_flows;
  of_get = get_flows;
  of_minus = minus_flows;
  of_binary = binary_flows;
  of_power = power_flows;
  of_call = call_flows;
  of_none = none_flow;
  of_more = more_flow;
}

pub flows : (e : Expression) → is_readable e ≡ true → (operand blank : Bool) (c : Class) → ready blank c ≡ true → Runs c (expression_words operand blank e) closed
flows e = expression_induction Flows FlowsAll cases e

pub list_flows : (s : Expressions) → are_readable s ≡ true → (later : Bool) (c : Class) → ready later c ≡ true → Runs c (expressions_from later s) any
list_flows s h = (expressions_induction Flows FlowsAll cases s h).0

pub subscripts_flow : (s : Expressions) → are_readable s ≡ true → Runs Wordy (subscript_words s) closed
subscripts_flow s h = (expressions_induction Flows FlowsAll cases s h).1

pub place_flows : (p : Designator) → is_variable p.name ≡ true → are_readable p.subscripts ≡ true → (blank : Bool) (c : Class) → ready blank c ≡ true → Runs c (place_words blank p) closed
place_flows p h i blank c r = name_step blank p.name c (variable_name p.name h) r (subscripts_flow p.subscripts i)

-- the value of an atomic update
pub sum_flows : (e : Expression) → is_readable e ≡ true → (operand blank : Bool) (c : Class) → ready blank c ≡ true → Runs c (sum_words operand blank e) closed
sum_flows (binary op.Add a b) h operand blank c r =
    let p = and_parts (is_readable a) (is_readable b) h in
    join (sum_flows a p.0 true blank c r) (λ d i. operator_step op.Add d i (λ e j. flows b p.1 true false e j))
sum_flows (binary op.Sub a b) h operand blank c r = flows (binary op.Sub a b) h operand blank c r
sum_flows (binary op.Mul a b) h operand blank c r = flows (binary op.Mul a b) h operand blank c r
sum_flows (binary op.Div a b) h operand blank c r = flows (binary op.Div a b) h operand blank c r
sum_flows (literal n k) h operand blank c r = flows (literal n k) h operand blank c r
sum_flows (get x s) h operand blank c r = flows (get x s) h operand blank c r
sum_flows (minus a) h operand blank c r = flows (minus a) h operand blank c r
sum_flows (power a n) h operand blank c r = flows (power a n) h operand blank c r
sum_flows (call f s) h operand blank c r = flows (call f s) h operand blank c r

-- ---- conditions

word_flow : (word : List ℕ) (d : Class) {ws : List Spaced} {q : Class → Bool} → IsToken word → Runs (class_of word) ws q → Runs d (apart word ∷ ws) q
word_flow word d t more = step (apart word) d t refl more

pub condition_flows : (e : Condition) → is_readable_condition e ≡ true → (operand blank : Bool) (c : Class) → ready blank c ≡ true → Runs c (condition_words operand blank e) closed
condition_flows (relation o a b) h operand blank c r =
    let p = and_parts (is_readable a) (is_readable b) h in
    join (opened operand blank c r) (λ d i. join (flows a p.0 true (inside operand blank) d i) (λ e j. relation_step o e
    (λ s. join (flows b p.1 true true s refl) (λ t l. ended operand t l))))
condition_flows (negation a) h operand blank c r =
    join (opened operand blank c r) (λ d i. calm (spaced (inside operand blank) (codes ".not.")) d refl not_token
    (join (condition_flows a h true true Calm refl) (λ e j. ended operand e j)))
condition_flows (conjunction a b) h operand blank c r =
    let p = and_parts (is_readable_condition a) (is_readable_condition b) h in
    join (opened operand blank c r) (λ d i. join (condition_flows a p.0 true (inside operand blank) d i) (λ e j. word_flow (codes ".and.") e and_token
    (join (condition_flows b p.1 true true Calm refl) (λ t l. ended operand t l))))
condition_flows (disjunction a b) h operand blank c r =
    let p = and_parts (is_readable_condition a) (is_readable_condition b) h in
    join (opened operand blank c r) (λ d i. join (condition_flows a p.0 true (inside operand blank) d i) (λ e j. word_flow (codes ".or.") e or_token
    (join (condition_flows b p.1 true true Calm refl) (λ t l. ended operand t l))))
