-- The rows of readable programs and adjoints.
use Rattle.std.proofs.Common.{◌≡◌, ℕ, ◌+◌, ◌≤◌, Bool, true, false, cond, not, ◌&&◌, List, [], ◌∷◌, ◌++◌, Option, Some, None, refl, ap, ◌∙◌, arith}
use Rattle.std.specs.Prelude.{nat_le, ◌==◌, codes, decimal, max}
use Rattle.std.specs.List.{list_all}
use Rattle.std.proofs.lemmas.Bool.{and_parts}
use Rattle.std.proofs.lemmas.Bool.Decides.{nat_tests}
use Rattle.fl_base.specs.Spelling.{is_name}
use Rattle.fl_ast.specs.declared.kind.Kind.{Kind}
use Rattle.fl_ast.specs.declared.kind.Kind.TheVariants as kind
use Rattle.fl_ast.specs.declared.kind.Intent.{Intent}
use Rattle.fl_ast.specs.declared.kind.Intent.TheVariants as intent
use Rattle.fl_ast.specs.declared.decl.Sign.{Sign}
use Rattle.fl_ast.specs.declared.decl.Sign.TheVariants as sign
use Rattle.fl_ast.specs.declared.decl.Factor.{Factor}
use Rattle.fl_ast.specs.declared.decl.Factor.TheVariants as factor
use Rattle.fl_ast.specs.declared.decl.Term.{Term}
use Rattle.fl_ast.specs.declared.decl.Bound.{Bound}
use Rattle.fl_ast.specs.declared.decl.Dim.{Dim}
use Rattle.fl_ast.specs.declared.decl.Decl.{Decl}
use Rattle.fl_ast.specs.declared.directive.ScheduleKind.{ScheduleKind}
use Rattle.fl_ast.specs.declared.directive.ScheduleKind.TheVariants as schedule
use Rattle.fl_ast.specs.declared.directive.Directive.{Directive}
use Rattle.fl_ast.specs.Tree.{Expression, Designator, Condition, Statement, Statements, no_statements, statement, Arms, program_tree, stmt_trees}
use Rattle.fl_ast.specs.Induction.{StatementCases, statements_induction}
use Rattle.fl_ast.specs.Measures.{block_depth, block_depth_of_all, block_depth_of_arms}
use Rattle.fl_ast.specs.Readable.{is_variable, is_readable, are_readable, is_readable_condition, is_readable_step, is_readable_chunk, is_readable_schedule, listed_names, has_readable_clauses, are_apart, is_parallel, is_readable_directive, has_parallel_in, has_arm, is_readable_statement, are_readable_statements, are_readable_arms, is_readable_factor, is_readable_second, is_readable_term, is_readable_rest, is_readable_bound, is_readable_lower, is_readable_dim, is_size_of, is_readable_decl, IsReadable}
use Rattle.fl_printer.specs.declared.spaced.Spaced.{Spaced}
use Rattle.fl_printer.specs.Words.{spaced, joined, apart, names_from, bracketed_names, factor_words, second_words, term_words, sign_text, rest_words, bound_words, range_words, dims_from, shape_words, intent_words, kind_words, decl_words, default_words, list_words, reduction_words, collapse_words, schedule_text, chunk_words, schedule_words, clause_words}
use Rattle.fl_printer.specs.Rows.{statement_row, directive_row, atomic_rows, parallel_rows, value_words, assign_row, assign_rows, step_words, do_row, loop_rows, else_if, test_words, test_row, end_row, else_row, statement_rows, else_rows, block_rows, arm_rows, decl_rows, head_rows, last_row, program_rows}
use Rattle.fl_printer.specs.Small.{are_small, is_small_factor, is_small_second, is_small_term, is_small_rest, is_small_bound, is_small_lower, is_small_dim}
use Rattle.fl_printer.proofs.Tokens.{Class, Wordy, Pairing, Calm, IsToken, mark_token, pair_token}
use Rattle.fl_printer.proofs.Flow.{Runs, closed, ready, any, join, stop, step, step_as, calm, name_step, plain_step, open_token, close_token, comma_token, minus_token, bracket, le_is, variable_name, flows, place_flows, sum_flows, condition_flows}
use Rattle.fl_printer.proofs.Lines.{IsRow, AreRows, rows_append}
use Rattle.fl_ast.specs.declared.stmt.Program.{Program}
use Rattle.fl_printer.specs.Lexemes.{IsLexedAs}
use Rattle.fl_printer.proofs.LexemeLaws.{rows_lexed}
use Rattle.fl_printer.specs.Text.{program_text}

-- ---- rows

pub row : (margin : ℕ) (w : Spaced) (ws : List Spaced) {q : Class → Bool} → margin ≤ 600 → not w.blank ≡ true → Runs Calm (w ∷ ws) q → IsRow (statement_row margin (w ∷ ws))
row margin w ws small b r = record { small = small; leading = b; to = r.to; flow = r.flow }

directed : (margin : ℕ) (w : Spaced) (ws : List Spaced) {q : Class → Bool} → margin ≤ 600 → w.blank ≡ true → Runs Calm (w ∷ ws) q → IsRow (directive_row margin (w ∷ ws))
directed margin w ws small b r = record { small = small; leading = b; to = r.to; flow = r.flow }

pub closed_any : {c : Class} {ws : List Spaced} → Runs c ws closed → Runs c ws any
closed_any r = record { to = r.to; ends = refl; flow = r.flow }

-- a word of the language
pub word : (x : List ℕ) (d : Class) {ws : List Spaced} {q : Class → Bool} → is_name x ≡ true → Runs Wordy ws q → Runs d (apart x ∷ ws) q
word x d h r = name_step true x d h refl r

pub open_bracket : (d : Class) {ws : List Spaced} {q : Class → Bool} → Runs Calm ws q → Runs d (joined (codes "(") ∷ ws) q
open_bracket d r = calm (joined (codes "(")) d refl open_token r

close_bracket : (d : Class) {ws : List Spaced} {q : Class → Bool} → Runs Calm ws q → Runs d (joined (codes ")") ∷ ws) q
close_bracket d r = calm (joined (codes ")")) d refl close_token r

pub equals : (d : Class) {ws : List Spaced} {q : Class → Bool} → Runs Pairing ws q → Runs d (apart (codes "=") ∷ ws) q
equals d r = step_as Pairing (apart (codes "=")) d refl (mark_token 61 refl refl refl refl) refl r

pub comma : (d : Class) {ws : List Spaced} {q : Class → Bool} → Runs Calm ws q → Runs d (joined (codes ",") ∷ ws) q
comma d r = calm (joined (codes ",")) d refl comma_token r

-- ---- names

later_names : (xs : List (List ℕ)) (c : Class) → list_all is_variable xs ≡ true → Runs c (names_from true true xs) any
later_names [] c h = stop c any refl
later_names (x ∷ xs) c h =
    let p = and_parts (is_variable x) (list_all is_variable xs) h in
    comma c (name_step true x Calm (variable_name x p.0) refl (later_names xs Wordy p.1))

first_names : (xs : List (List ℕ)) (blank : Bool) (c : Class) → list_all is_variable xs ≡ true → ready blank c ≡ true → Runs c (names_from false blank xs) any
first_names [] blank c h r = stop c any refl
first_names (x ∷ xs) blank c h r =
    let p = and_parts (is_variable x) (list_all is_variable xs) h in
    name_step blank x c (variable_name x p.0) r (later_names xs Wordy p.1)

in_brackets : (xs : List (List ℕ)) (c : Class) → list_all is_variable xs ≡ true → Runs c (bracketed_names xs) closed
in_brackets xs c h = open_bracket c (join (first_names xs false Calm h refl) (λ d i. bracket d))

-- ---- parts of statements

value_flows : (atomic : Bool) (e : Expression) (c : Class) → is_readable e ≡ true → Runs c (value_words atomic e) closed
value_flows true e c h = sum_flows e h false true c refl
value_flows false e c h = flows e h false true c refl

pub atomic_is : (margin : ℕ) (atomic : Bool) → margin ≤ 600 → AreRows (atomic_rows margin atomic)
atomic_is margin true small = (directed margin (apart (codes "atomic")) [] small refl (word (codes "atomic") Calm refl (stop Wordy any refl)), tt)
atomic_is margin false small = tt

assign_is : (margin : ℕ) (atomic : Bool) (target : Designator) (value : Expression) → margin ≤ 600 → is_variable target.name ≡ true → are_readable target.subscripts ≡ true → is_readable value ≡ true →
    AreRows (assign_rows margin atomic target value)
assign_is margin atomic target value small h i j =
    rows_append (atomic_rows margin atomic) (assign_row margin atomic target value ∷ []) (atomic_is margin atomic small)
    (row margin _ _ small refl (join (place_flows target h i false Calm refl) (λ d k. equals d (value_flows atomic value Pairing j))), tt)

step_flows : (s : Option Expression) (c : Class) → is_readable_step s ≡ true → Runs c (step_words s) any
step_flows None c h = stop c any refl
step_flows (Some e) c h = comma c (closed_any (flows e h false true Calm refl))

do_is : (margin : ℕ) (var : List ℕ) (first last : Expression) (by : Option Expression) → margin ≤ 600 → is_variable var ≡ true → is_readable first ≡ true → is_readable last ≡ true → is_readable_step by ≡ true →
    IsRow (do_row margin var first last by)
do_is margin var first last by small h i j k =
    row margin _ _ small refl (name_step false (codes "do") Calm refl refl (word var Wordy (variable_name var h) (equals Wordy
    (join (flows first i false true Pairing refl) (λ d l. comma d (join (flows last j false true Calm refl) (λ e m. step_flows by e k)))))))

else_if_flows : (later : Bool) → Runs Calm (else_if later) any
else_if_flows true = name_step false (codes "else") Calm refl refl (word (codes "if") Wordy refl (stop Wordy any refl))
else_if_flows false = name_step false (codes "if") Calm refl refl (stop Wordy any refl)

test_flows : (later : Bool) (test : Condition) → is_readable_condition test ≡ true → Runs Calm (test_words later test) any
test_flows later test h =
    join (else_if_flows later) (λ d i. calm (apart (codes "(")) d refl open_token (join (condition_flows test h false false Calm refl)
    (λ e j. close_bracket e (word (codes "then") Calm refl (stop Wordy any refl)))))

pub test_is : (margin : ℕ) (later : Bool) (test : Condition) → margin ≤ 600 → is_readable_condition test ≡ true → IsRow (test_row margin later test)
test_is margin true test small h = row margin _ _ small refl (test_flows true test h)
test_is margin false test small h = row margin _ _ small refl (test_flows false test h)

pub end_is : (margin : ℕ) (block : List ℕ) → margin ≤ 600 → is_name block ≡ true → IsRow (end_row margin block)
end_is margin block small h = row margin _ _ small refl (name_step false (codes "end") Calm refl refl (word block Wordy h (stop Wordy any refl)))

pub else_is : (margin : ℕ) → margin ≤ 600 → IsRow (else_row margin)
else_is margin small = row margin _ _ small refl (name_step false (codes "else") Calm refl refl (stop Wordy any refl))

-- ---- directives

default_flows : (none : Bool) (c : Class) → Runs c (default_words none) any
default_flows true c = word (codes "default") c refl (open_bracket Wordy (name_step false (codes "none") Calm refl refl (closed_any (bracket Wordy))))
default_flows false c = stop c any refl

list_flows : (clause : List ℕ) (xs : List (List ℕ)) (c : Class) → is_name clause ≡ true → list_all is_variable xs ≡ true → Runs c (list_words clause xs) any
list_flows clause [] c h i = stop c any refl
list_flows clause (x ∷ xs) c h i = word clause c h (closed_any (in_brackets (x ∷ xs) Wordy i))

colon_token : IsToken (codes ":")
colon_token = mark_token 58 refl refl refl refl

reduction_flows : (xs : List (List ℕ)) (c : Class) → list_all is_variable xs ≡ true → Runs c (reduction_words xs) any
reduction_flows [] c i = stop c any refl
reduction_flows (x ∷ xs) c i =
    word (codes "reduction") c refl (open_bracket Wordy (calm (joined (codes "+")) Calm refl (mark_token 43 refl refl refl refl)
    (step_as Pairing (joined (codes ":")) Calm refl colon_token refl (join (first_names (x ∷ xs) true Pairing i refl) (λ d j. closed_any (bracket d))))))

collapse_flows : (n : ℕ) (c : Class) → n ≤ 2 → Runs c (collapse_words n) any
collapse_flows n c h = by (n == 0)
  where
    by : (t : Bool) → Runs c (cond t [] (apart (codes "collapse") ∷ joined (codes "(") ∷ joined (decimal n) ∷ joined (codes ")") ∷ [])) any
    by true = stop c any refl
    by false = word (codes "collapse") c refl (open_bracket Wordy (plain_step false n Calm (omega (arith, h)) refl (closed_any (bracket Wordy))))

chunk_flows : (k : ScheduleKind) (n : Option ℕ) (c : Class) → is_readable_chunk k n ≡ true → Runs c (chunk_words n) any
chunk_flows k None c h = stop c any refl
chunk_flows k (Some n) c h = comma c (plain_step true n Calm (small k h) refl (stop Wordy any refl))
  where
    most : nat_le n 2147483647 ≡ true → n ≤ 9223372036854775807
    most e = let m = le_is n 2147483647 e in omega (arith, m)

    small : (k : ScheduleKind) → is_readable_chunk k (Some n) ≡ true → n ≤ 9223372036854775807
    small schedule.Static e = most e
    small schedule.Dynamic e = most e
    small schedule.Guided e = most e
    small schedule.Auto e = absurd (let g : false ≡ true = e in cc)
    small schedule.Runtime e = absurd (let g : false ≡ true = e in cc)

schedule_name : (k : ScheduleKind) → is_name (schedule_text k) ≡ true
schedule_name schedule.Static = refl
schedule_name schedule.Dynamic = refl
schedule_name schedule.Guided = refl
schedule_name schedule.Auto = refl
schedule_name schedule.Runtime = refl

schedule_flows : (s : Option (ScheduleKind × Option ℕ)) (c : Class) → is_readable_schedule s ≡ true → Runs c (schedule_words s) any
schedule_flows None c h = stop c any refl
schedule_flows (Some s) c h =
    word (codes "schedule") c refl (open_bracket Wordy (name_step false (schedule_text s.0) Calm (schedule_name s.0) refl
    (join (chunk_flows s.0 s.1 Wordy h) (λ d i. closed_any (bracket d)))))

all_parts : {A : Type 0} (test : A → Bool) (xs ys : List A) → list_all test (xs ++ ys) ≡ true → (list_all test xs ≡ true) × (list_all test ys ≡ true)
all_parts test [] ys h = (refl, h)
all_parts test (x ∷ xs) ys h =
    let p = and_parts (test x) (list_all test (xs ++ ys)) h in
    let q = all_parts test xs ys p.1 in
    (ap (λ t. t && list_all test xs) p.0 ∙ q.0, q.1)

clause_flows : (d : Directive) (c : Class) → has_readable_clauses d ≡ true → Runs c (clause_words d) any
clause_flows d c h =
    let p = and_parts (list_all is_variable (listed_names d)) _ h in
    let q = and_parts (are_apart (listed_names d)) _ p.1 in
    let r = and_parts (is_readable_schedule d.schedule) (nat_le d.collapse 2) q.1 in
    let a = all_parts is_variable d.privates (d.firsts ++ (d.shareds ++ d.pluses)) p.0 in
    let b = all_parts is_variable d.firsts (d.shareds ++ d.pluses) a.1 in
    let e = all_parts is_variable d.shareds d.pluses b.1 in
    join (default_flows d.none c) (λ c i. join (list_flows (codes "private") d.privates c refl a.0) (λ c i. join (list_flows (codes "firstprivate") d.firsts c refl b.0)
    (λ c i. join (list_flows (codes "shared") d.shareds c refl e.0) (λ c i. join (reduction_flows d.pluses c e.1)
    (λ c i. join (collapse_flows d.collapse c (le_is d.collapse 2 r.1)) (λ c i. schedule_flows d.schedule c r.0))))))

parallel_is : (margin : ℕ) (d : Option Directive) → margin ≤ 600 → is_readable_directive d ≡ true → AreRows (parallel_rows margin d)
parallel_is margin None small h = tt
parallel_is margin (Some d) small h =
    (directed margin _ _ small refl (word (codes "parallel") Calm refl (word (codes "do") Wordy refl (clause_flows d Wordy h))), tt)

pub loop_is : (margin : ℕ) (d : Option Directive) (var : List ℕ) (first last : Expression) (by : Option Expression) → margin ≤ 600 → is_readable_directive d ≡ true → is_variable var ≡ true →
    is_readable first ≡ true → is_readable last ≡ true → is_readable_step by ≡ true → AreRows (loop_rows margin d var first last by)
loop_is margin d var first last by small g h i j k =
    rows_append (parallel_rows margin d) (do_row margin var first last by ∷ []) (parallel_is margin d small g) (do_is margin var first last by small h i j k, tt)

-- ---- statements

-- so deep that no margin is too wide
abbrev Fits : ℕ → ℕ → Type 0
Fits margin depth = margin + (depth + depth) ≤ 600

abbrev IsPrintable : Statement → Type 0
IsPrintable s = is_readable_statement s ≡ true → (margin : ℕ) → Fits margin (block_depth s) → AreRows (statement_rows margin s)

abbrev ArePrintable : Statements → Type 0
ArePrintable ss = are_readable_statements ss ≡ true → (margin : ℕ) → Fits margin (block_depth_of_all ss) →
    AreRows (block_rows margin ss)

abbrev HasElse : Statements → Type 0
HasElse ss = are_readable_statements ss ≡ true → (margin : ℕ) → Fits margin (block_depth_of_all ss + 1) → AreRows (else_rows margin ss)

abbrev ArePrintableArms : Arms → Type 0
ArePrintableArms as' = are_readable_arms as' ≡ true → (margin : ℕ) (later : Bool) → Fits margin (block_depth_of_arms as' + 1) → AreRows (arm_rows margin later as')

-- the rows of an `else` are one more than those of its block
else_of : (ss : Statements) → ArePrintable ss → HasElse ss
else_of no_statements f h margin g = tt
else_of (statement s rest) f h margin g = (else_is margin (omega (arith, g)), f h (margin + 2) (omega (arith, g)))

pub max_left : (m n : ℕ) → m ≤ max m n
max_left m n = grind (arith, nat_tests)

pub max_right : (m n : ℕ) → n ≤ max m n
max_right m n = grind (arith, nat_tests)

cases : StatementCases IsPrintable ArePrintable ArePrintableArms
cases = record {
  of_assignment = λ line atomic target value h margin g.
      let p = and_parts (is_variable target.name) (are_readable target.subscripts && is_readable value) h in
      let q = and_parts (are_readable target.subscripts) (is_readable value) p.1 in
      assign_is margin atomic target value (omega (arith, g)) p.0 q.0 q.1;
  of_branch = λ line arms other f k h margin g.
      let p = and_parts (has_arm arms) (are_readable_arms arms && are_readable_statements other) h in
      let q = and_parts (are_readable_arms arms) (are_readable_statements other) p.1 in
      let l = max_left (block_depth_of_arms arms) (block_depth_of_all other) in
      let r = max_right (block_depth_of_arms arms) (block_depth_of_all other) in
      rows_append (arm_rows margin false arms) (else_rows margin other ++ end_row margin (codes "if") ∷ []) (f q.0 margin false (omega (arith, g, l)))
      (rows_append (else_rows margin other) (end_row margin (codes "if") ∷ []) (else_of other k q.1 margin (omega (arith, g, r))) (end_is margin (codes "if") (omega (arith, g)) refl, tt));
  of_loop = λ line number directive var first last by body f h margin g.
      let p = and_parts (is_readable_directive directive) _ h in
      let q = and_parts (not (is_parallel directive && has_parallel_in body)) _ p.1 in
      let r = and_parts (is_variable var) _ q.1 in
      let s = and_parts (is_readable first) _ r.1 in
      let t = and_parts (is_readable last) _ s.1 in
      let u = and_parts (is_readable_step by) (are_readable_statements body) t.1 in
      rows_append (loop_rows margin directive var first last by) (block_rows (margin + 2) body ++ end_row margin (codes "do") ∷ [])
      (loop_is margin directive var first last by (omega (arith, g)) p.0 r.0 s.0 t.0 u.0)
      (rows_append (block_rows (margin + 2) body) (end_row margin (codes "do") ∷ []) (f u.1 (margin + 2) (omega (arith, g))) (end_is margin (codes "do") (omega (arith, g)) refl, tt));
  of_none = λ h margin g. tt;
  of_more = λ s rest f k h margin g.
      let p = and_parts (is_readable_statement s) (are_readable_statements rest) h in
      let l = max_left (block_depth s) (block_depth_of_all rest) in
      let r = max_right (block_depth s) (block_depth_of_all rest) in
      rows_append (statement_rows margin s) (block_rows margin rest) (f p.0 margin (omega (arith, g, l))) (k p.1 margin (omega (arith, g, r)));
  of_no_arms = λ h margin later g. tt;
  of_arm = λ test body rest f k h margin later g.
      let p = and_parts (is_readable_condition test) (are_readable_statements body && are_readable_arms rest) h in
      let q = and_parts (are_readable_statements body) (are_readable_arms rest) p.1 in
      let l = max_left (block_depth_of_all body) (block_depth_of_arms rest) in
      let r = max_right (block_depth_of_all body) (block_depth_of_arms rest) in (
        test_is margin later test (omega (arith, g)) p.0,
        rows_append (block_rows (margin + 2) body) (arm_rows margin true rest) (f q.0 (margin + 2) (omega (arith, g, l))) (k q.1 margin true (omega (arith, g, r))),
      );
}

pub block_is : (ss : Statements) → are_readable_statements ss ≡ true → (margin : ℕ) → margin + (block_depth_of_all ss + block_depth_of_all ss) ≤ 600 → AreRows (block_rows margin ss)
block_is ss = statements_induction IsPrintable ArePrintable ArePrintableArms cases ss

-- ---- declarations

factor_flows : (blank : Bool) (f : Factor) (leads : Bool) (c : Class) → is_readable_factor leads f ≡ true → is_small_factor f ≡ true → ready blank c ≡ true → Runs c (factor_words blank f) closed
factor_flows blank (factor.Lit n) leads c h s r = let m = le_is n 4294967295 s in plain_step blank n c (omega (arith, m)) r (stop Wordy closed refl)
factor_flows blank (factor.Minus n) leads c h s r =
    let m = le_is n 4294967295 s in calm (spaced blank (codes "-")) c refl minus_token (plain_step false n Calm (omega (arith, m)) refl (stop Wordy closed refl))
factor_flows blank (factor.Scalar x) leads c h s r = name_step blank x c (variable_name x h) r (stop Wordy closed refl)

second_flows : (f : Option Factor) (c : Class) → is_readable_second f ≡ true → is_small_second f ≡ true → closed c ≡ true → Runs c (second_words f) closed
second_flows None c h s r = stop c closed r
second_flows (Some f) c h s r = step_as Pairing (joined (codes "*")) c refl (mark_token 42 refl refl refl refl) r (factor_flows false f false Pairing h s refl)

term_flows : (blank : Bool) (t : Term) (leads : Bool) (c : Class) → is_readable_term leads t ≡ true → is_small_term t ≡ true → ready blank c ≡ true → Runs c (term_words blank t) closed
term_flows blank t leads c h s r =
    let p = and_parts (is_readable_factor leads t.first) (is_readable_second t.second) h in
    let q = and_parts (is_small_factor t.first) (is_small_second t.second) s in
    join (factor_flows blank t.first leads c p.0 q.0 r) (λ d i. second_flows t.second d p.1 q.1 i)

rest_flows : (b : Option (Sign × Term)) (c : Class) → is_readable_rest b ≡ true → is_small_rest b ≡ true → closed c ≡ true → Runs c (rest_words b) closed
rest_flows None c h s r = stop c closed r
rest_flows (Some b) c h s r = by b.0
  where
    by : (g : Sign) → Runs c (joined (sign_text g) ∷ term_words false b.1) closed
    by sign.Plus = calm (joined (codes "+")) c refl (mark_token 43 refl refl refl refl) (term_flows false b.1 false Calm h s refl)
    by sign.Minus = calm (joined (codes "-")) c refl minus_token (term_flows false b.1 false Calm h s refl)

bound_flows : (blank : Bool) (b : Bound) (c : Class) → is_readable_bound b ≡ true → is_small_bound b ≡ true → ready blank c ≡ true → Runs c (bound_words blank b) closed
bound_flows blank b c h s r =
    let p = and_parts (is_readable_term true b.first) (is_readable_rest b.rest) h in
    let q = and_parts (is_small_term b.first) (is_small_rest b.rest) s in
    join (term_flows blank b.first true c p.0 q.0 r) (λ d i. rest_flows b.rest d p.1 q.1 i)

range_flows : (blank : Bool) (l : Option Bound) (u : Bound) (c : Class) → is_readable_lower l ≡ true → is_readable_bound u ≡ true → is_small_lower l ≡ true → is_small_bound u ≡ true → ready blank c ≡ true →
    Runs c (range_words blank l u) closed
range_flows blank None u c h i s t r = bound_flows blank u c i t r
range_flows blank (Some l) u c h i s t r =
    join (bound_flows blank l c h s r) (λ d k. step_as Pairing (joined (codes ":")) d refl colon_token k (bound_flows false u Pairing i t refl))

dims_flow : (later : Bool) (ds : List Dim) (c : Class) → list_all is_readable_dim ds ≡ true → list_all is_small_dim ds ≡ true → ready later c ≡ true → Runs c (dims_from later ds) any
dims_flow later [] c h s r = stop c any refl
dims_flow true (d ∷ ds) c h s r =
    let p = and_parts (is_readable_dim d) (list_all is_readable_dim ds) h in
    let q = and_parts (is_small_dim d) (list_all is_small_dim ds) s in
    let i = and_parts (is_readable_lower d.lower) (is_readable_bound d.upper) p.0 in
    let j = and_parts (is_small_lower d.lower) (is_small_bound d.upper) q.0 in
    comma c (join (range_flows true d.lower d.upper Calm i.0 i.1 j.0 j.1 refl) (λ e k. dims_flow true ds e p.1 q.1 refl))
dims_flow false (d ∷ ds) c h s r =
    let p = and_parts (is_readable_dim d) (list_all is_readable_dim ds) h in
    let q = and_parts (is_small_dim d) (list_all is_small_dim ds) s in
    let i = and_parts (is_readable_lower d.lower) (is_readable_bound d.upper) p.0 in
    let j = and_parts (is_small_lower d.lower) (is_small_bound d.upper) q.0 in
    join (range_flows false d.lower d.upper c i.0 i.1 j.0 j.1 r) (λ e k. dims_flow true ds e p.1 q.1 refl)

shape_flows : (ds : List Dim) → list_all is_readable_dim ds ≡ true → list_all is_small_dim ds ≡ true → Runs Wordy (shape_words ds) any
shape_flows [] h s = stop Wordy any refl
shape_flows (d ∷ ds) h s = open_bracket Wordy (join (dims_flow false (d ∷ ds) Calm h s refl) (λ e k. closed_any (bracket e)))

said : (x : List ℕ) (c : Class) → is_name x ≡ true → Runs c (joined (codes ",") ∷ apart (codes "intent") ∷ joined (codes "(") ∷ joined x ∷ joined (codes ")") ∷ []) any
said x c h = comma c (word (codes "intent") Calm refl (open_bracket Wordy (name_step false x Calm h refl (closed_any (bracket Wordy)))))

intent_flows : (i : Intent) (c : Class) → Runs c (intent_words i) any
intent_flows intent.Unsaid c = stop c any refl
intent_flows intent.ReadOnly c = said (codes "in") c refl
intent_flows intent.WriteOnly c = said (codes "out") c refl
intent_flows intent.Both c = said (codes "inout") c refl

size_small : (k : Kind) (bytes : ℕ) → is_size_of k bytes ≡ true → bytes ≤ 8
size_small kind.Index bytes h = grind (arith, nat_tests)
size_small kind.Ring bytes h = grind (arith, nat_tests)

kind_flows : (bytes : ℕ) → bytes ≤ 8 → Runs Calm (kind_words bytes) any
kind_flows bytes h =
    name_step false (codes "integer") Calm refl refl (open_bracket Wordy (name_step false (codes "kind") Calm refl refl
    (step_as Pairing (joined (codes "=")) Wordy refl (mark_token 61 refl refl refl refl) refl (plain_step false bytes Pairing (omega (arith, h)) refl (closed_any (bracket Wordy))))))

decl_flows : (d : Decl) → is_readable_decl d ≡ true → list_all is_small_dim d.dims ≡ true → Runs Calm (decl_words d) any
decl_flows d h s =
    let p = and_parts (is_variable d.name) (is_size_of d.kind d.bytes && list_all is_readable_dim d.dims) h in
    let q = and_parts (is_size_of d.kind d.bytes) (list_all is_readable_dim d.dims) p.1 in
    join (kind_flows d.bytes (size_small d.kind d.bytes q.0)) (λ c i. join (intent_flows d.intent c) (λ e j.
    step (apart (codes "::")) e (pair_token 58 58 refl refl refl refl refl) refl (name_step true d.name Pairing (variable_name d.name p.0) refl (shape_flows d.dims q.1 s))))

pub decls_are : (ds : List Decl) → list_all is_readable_decl ds ≡ true → are_small ds ≡ true → AreRows (decl_rows ds)
decls_are [] h s = tt
decls_are (d ∷ ds) h s =
    let p = and_parts (is_readable_decl d) (list_all is_readable_decl ds) h in
    let q = and_parts (list_all is_small_dim d.dims) (are_small ds) s in
    (row 2 _ _ (omega arith) refl (decl_flows d p.0 q.0), decls_are ds p.1 q.1)

-- ---- units

pub head_is : (name : List ℕ) (args : List (List ℕ)) (ds : List Decl) → is_name name ≡ true → list_all is_variable args ≡ true → list_all is_readable_decl ds ≡ true → are_small ds ≡ true →
    AreRows (head_rows name args ds)
head_is name args ds h i j s = (
  row 0 _ _ (omega arith) refl (name_step false (codes "subroutine") Calm refl refl (name_step true name Wordy h refl (in_brackets args Wordy i))),
  (
    row 2 _ _ (omega arith) refl (name_step false (codes "implicit") Calm refl refl (word (codes "none") Wordy refl (stop Wordy any refl))),
    decls_are ds j s,
  ),
)

pub last_is : (name : List ℕ) → is_name name ≡ true → IsRow (last_row name)
last_is name h = row 0 _ _ (omega arith) refl (name_step false (codes "end") Calm refl refl (word (codes "subroutine") Wordy refl (name_step true name Wordy h refl (stop Wordy any refl))))

pub program_is : (p : Program) → IsReadable p → are_small p.decls ≡ true → AreRows (program_rows (program_tree p))
program_is p r s =
    let deep = r.shallow_blocks in
    rows_append (head_rows p.name p.args p.decls) (block_rows 2 (stmt_trees p.body) ++ last_row p.name ∷ []) (head_is p.name p.args p.decls r.name r.args r.decls s)
    (rows_append (block_rows 2 (stmt_trees p.body)) (last_row p.name ∷ []) (block_is (stmt_trees p.body) r.body 2 (omega (arith, deep))) (last_is p.name r.name, tt))

-- what is printed has the tokens of its rows
pub program_lexed : (p : Program) (text : List ℕ) → text ≡ program_text (program_tree p) → IsReadable p → are_small p.decls ≡ true → IsLexedAs text (program_rows (program_tree p))
program_lexed p text e r s = rows_lexed (program_rows (program_tree p)) text (program_is p r s) e
