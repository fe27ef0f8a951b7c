-- No parallel loop of a readable program is in another.
use Rattle.std.specs.Prelude.{◌≡◌, ℕ, List, Bool, true, false, not, ◌&&◌, ◌||◌, Option, Some, None, refl}
use Rattle.std.proofs.lemmas.Bool.{and_parts, and_from}
use Rattle.fl_ast.specs.declared.directive.Directive.{Directive}
use Rattle.fl_ast.specs.Tree.{Expression, Statement, assignment, branch, loop, Statements, no_statements, statement, Arms, no_arms, arm}
use Rattle.fl_ast.specs.Readable.{is_parallel, is_readable_directive, has_arm, is_variable, is_readable, is_readable_step, is_readable_condition, has_parallel, has_parallel_in, has_parallel_in_arms, is_readable_statement, are_readable_statements, are_readable_arms}
use Rattle.forward_law.specs.Forward.{is_flat, are_flat, are_arms_flat}

or_none : (a b : Bool) → (a || b) ≡ false → (a ≡ false) × (b ≡ false)
or_none false b h = (refl, h)
or_none true b h = absurd (cc)

mutual
  serial_flat : (s : Statement) → has_parallel s ≡ false → is_flat true s ≡ true
  serial_flat (assignment line atomic target value) h = refl
  serial_flat (branch line arms other) h =
      let q = or_none (has_parallel_in_arms arms) (has_parallel_in other) h in
      and_from (are_arms_flat true arms) (are_flat true other) (serial_arms_flat arms q.0) (serials_flat other q.1)
  serial_flat (loop line number None var first last by body) h = serials_flat body h
  serial_flat (loop line number (Some directive) var first last by body) h = absurd (cc)

  serials_flat : (ss : Statements) → has_parallel_in ss ≡ false → are_flat true ss ≡ true
  serials_flat no_statements h = refl
  serials_flat (statement s ss) h =
      let q = or_none (has_parallel s) (has_parallel_in ss) h in
      and_from (is_flat true s) (are_flat true ss) (serial_flat s q.0) (serials_flat ss q.1)

  serial_arms_flat : (arms : Arms) → has_parallel_in_arms arms ≡ false → are_arms_flat true arms ≡ true
  serial_arms_flat no_arms h = refl
  serial_arms_flat (arm test body rest) h =
      let q = or_none (has_parallel_in body) (has_parallel_in_arms rest) h in
      and_from (are_flat true body) (are_arms_flat true rest) (serials_flat body q.0) (serial_arms_flat rest q.1)

not_false : (b : Bool) → not b ≡ true → b ≡ false
not_false false h = refl
not_false true h = absurd (cc)

loop_body : (directive : Option Directive) (var : List ℕ) (first last : Expression) (by : Option Expression) (body : Statements)
    → (is_readable_directive directive && (not (is_parallel directive && has_parallel_in body) && (is_variable var
    && (is_readable first && (is_readable last && (is_readable_step by && are_readable_statements body)))))) ≡ true
    → (not (is_parallel directive && has_parallel_in body) ≡ true) × (are_readable_statements body ≡ true)
loop_body directive var first last by body h =
    let a = and_parts (is_readable_directive directive) _ h in
    let b = and_parts (not (is_parallel directive && has_parallel_in body)) _ a.1 in
    let c = and_parts (is_variable var) _ b.1 in
    let d = and_parts (is_readable first) _ c.1 in
    let e = and_parts (is_readable last) _ d.1 in
    let f = and_parts (is_readable_step by) _ e.1 in
    (b.0, f.1)

mutual
  statement_flat : (s : Statement) → is_readable_statement s ≡ true → is_flat false s ≡ true
  statement_flat (assignment line atomic target value) h = refl
  statement_flat (branch line arms other) h =
      let q = and_parts (are_readable_arms arms) (are_readable_statements other) (and_parts (has_arm arms) (are_readable_arms arms && are_readable_statements other) h).1 in
      and_from (are_arms_flat false arms) (are_flat false other) (arms_flat arms q.0) (statements_flat other q.1)
  statement_flat (loop line number None var first last by body) h = statements_flat body (loop_body None var first last by body h).1
  statement_flat (loop line number (Some directive) var first last by body) h = serials_flat body (not_false (has_parallel_in body) (loop_body (Some directive) var first last by body h).0)

  statements_flat : (ss : Statements) → are_readable_statements ss ≡ true → are_flat false ss ≡ true
  statements_flat no_statements h = refl
  statements_flat (statement s ss) h =
      let q = and_parts (is_readable_statement s) (are_readable_statements ss) h in
      and_from (is_flat false s) (are_flat false ss) (statement_flat s q.0) (statements_flat ss q.1)

  arms_flat : (arms : Arms) → are_readable_arms arms ≡ true → are_arms_flat false arms ≡ true
  arms_flat no_arms h = refl
  arms_flat (arm test body rest) h =
      let q = and_parts (is_readable_condition test) (are_readable_statements body && are_readable_arms rest) h in
      let r = and_parts (are_readable_statements body) (are_readable_arms rest) q.1 in
      and_from (are_flat false body) (are_arms_flat false rest) (statements_flat body r.0) (arms_flat rest r.1)

-- the statements of a program that reads
pub readable_flat : (ss : Statements) → are_readable_statements ss ≡ true → are_flat false ss ≡ true
readable_flat ss h = statements_flat ss h
