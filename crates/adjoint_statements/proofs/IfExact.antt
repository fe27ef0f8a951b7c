-- Ifs are read exactly.
use Rattle.std.proofs.Common.{◌≡◌, ℕ, Bool, true, not, ◌||◌, [], ◌∷◌, ◌++◌, refl, sym, ◌∙◌, inl, inr}
use Rattle.parsing.specs.declared.symbol.Symbol.{Symbol}
use Rattle.parsing.specs.declared.symbol.Symbol.TheVariants as s
use Rattle.parsing.specs.declared.cursor.Word.{Word}
use Rattle.parsing.specs.declared.fault.Cause.TheVariants.{Expected, Construct}
use Rattle.parsing.specs.Freed.{Freed}
use Rattle.parsing.specs.Terminal.{same, on, is, marked, names}
use Rattle.parsing.specs.Reading.{◌>>=◌ as ◌▷◌, Parser, token, refuse, choose}
use Rattle.parsing.specs.Grammar.{Grammar}
use Rattle.fl_conditions.specs.declared.tree.Judged.{Judged}
use Rattle.fl_statements.specs.Limits.{Limits}
use Rattle.fl_statements.specs.Terminals.{plain_names, begins_rest, begins_part}
use Rattle.adjoint_statements.specs.declared.block.Block.{Block}
use Rattle.adjoint_statements.specs.declared.branch.Branch.{Branch}
use Rattle.adjoint_statements.specs.Trees.{block_from, first_branch, with_arm, with_other, branched}
use Rattle.adjoint_statements.specs.AdjointStmtGrammar as g
use Rattle.adjoint_statements.specs.AdjointStmtReading as p
use Rattle.adjoint_statements.specs.AdjointStmtReading.{begins_stmt}
use Rattle.parsing.proofs.Outcomes.{never, shrinks_pure, shrinks_refuse, shrinks_seq, Bites, Shrinks}
use Rattle.parsing.proofs.Exact.{Exact, expected_stays, Room, Begins, seq, shrinks_token}
use Rattle.parsing.proofs.Rules.{either, begins_seq, begins_or, meets_never, mapped, loop_exact_by, shrinks_loop, Opens, opens_many, begins_opens}
use Rattle.parsing.proofs.OnSymbols.{less, wider, among, meets, begins_in, begins_mark, mark_then, bites_mark, apart}
use Rattle.fl_statements.proofs.Guards.{shrinks_choose, bites_two}
use Rattle.fl_statements.proofs.AssignExact.{guard_exact}
use Rattle.fl_statements.proofs.IfExact.{begins_then, then_exact, refusing, end_if_exact, ends_if, end_if_begins}
use Rattle.adjoint_statements.proofs.Widths.{Widths}
use Rattle.adjoint_statements.proofs.LineExact.{conditional_exact, conditional_begins, one_line_exact, one_line_begins}

-- what stands behind the statements of an arm
abbrev ends_arm : Symbol → Bool
ends_arm = among (s.ElseIf ∷ s.Else ∷ s.EndIf ∷ s.End ∷ [])

module _ (l : Freed) (limits wide : Limits) (V : Widths l limits wide) (may may2 : Bool) (ig : Bool → Block → Grammar Block) (ip ip2 : Bool → Block → Parser Block)
    (inner : may ≡ true → (within_ : Bool) (c : Block) → Exact l (ig within_ c) (on begins_stmt) (ip within_ c) (ip2 within_ c))
    (inner_shrinks : may2 ≡ true → (within_ : Bool) (c : Block) → Shrinks (ip2 within_ c)) (grows : may ≡ true → may2 ≡ true) (inside : Bool) where
  -- ---- arms

  first_arm_exact : may ≡ true → (loops line : ℕ) (test : Judged) → Exact l (g.first_arm limits may ig inside loops line test) (on begins_stmt) (p.first_arm limits may ip inside loops line test) (p.first_arm wide may2 ip2 inside loops line test)
  unfolding g.first_arm p.first_arm
  first_arm_exact so loops line test = mark_then s.LineEnd _ _ _ (λ _. mapped (inner so inside (block_from loops)) (first_branch line test.cond))

  first_arm_begins : (loops line : ℕ) (test : Judged) → Begins (g.first_arm limits may ig inside loops line test) (is s.LineEnd)
  unfolding g.first_arm
  first_arm_begins loops line test = begins_seq _ (begins_mark s.LineEnd)

  first_arm_shrinks : may2 ≡ true → (loops line : ℕ) (test : Judged) → Shrinks (p.first_arm wide may2 ip2 inside loops line test)
  unfolding p.first_arm
  first_arm_shrinks so loops line test = shrinks_seq _ _ (shrinks_token _) (λ _. shrinks_seq _ _ (inner_shrinks so inside (block_from loops)) (λ body. shrinks_pure (first_branch line test.cond body)))

  arm_exact : may ≡ true → (b : Branch) → Exact l (g.another_arm limits may ig inside b) (on begins_stmt) (p.another_arm limits may ip inside b) (p.another_arm wide may2 ip2 inside b)
  unfolding g.another_arm p.another_arm
  arm_exact so b = seq (guard_exact l limits wide V.outer) (λ test. mark_then s.Then _ _ _ (λ _. mark_then s.LineEnd _ _ _ (λ _. mapped (inner so inside (block_from b.loops)) (with_arm b test.cond)))) (λ test. meets_never (on begins_stmt) _)

  arm_shrinks : may2 ≡ true → (b : Branch) → Shrinks (p.another_arm wide may2 ip2 inside b)
  unfolding p.another_arm
  arm_shrinks so b = shrinks_seq _ _ ((guard_exact l limits wide V.outer).shrinks) (λ test. shrinks_seq _ _ (shrinks_token _) (λ _. shrinks_seq _ _ (shrinks_token _) (λ _. shrinks_seq _ _ (inner_shrinks so inside (block_from b.loops)) (λ body. shrinks_pure (with_arm b test.cond body)))))

  last_exact : may ≡ true → (b : Branch) → Exact l (g.last_part limits may ig inside b) (on begins_stmt) (p.last_part limits may ip inside b) (p.last_part wide may2 ip2 inside b)
  unfolding g.last_part p.last_part
  last_exact so b = mark_then s.LineEnd _ _ _ (λ _. mapped (inner so inside (block_from b.loops)) (with_other b))

  last_begins : (b : Branch) → Begins (g.last_part limits may ig inside b) (is s.LineEnd)
  unfolding g.last_part
  last_begins b = begins_seq _ (begins_mark s.LineEnd)

  last_shrinks : may2 ≡ true → (b : Branch) → Shrinks (p.last_part wide may2 ip2 inside b)
  unfolding p.last_part
  last_shrinks so b = shrinks_seq _ _ (shrinks_token _) (λ _. shrinks_seq _ _ (inner_shrinks so inside (block_from b.loops)) (λ body. shrinks_pure (with_other b body)))

  after_else_exact : may ≡ true → (b : Branch) → Exact l (g.after_else limits may ig inside b) (on begins_stmt) (p.after_else limits may ip inside b) (p.after_else wide may2 ip2 inside b)
  unfolding g.after_else p.after_else
  after_else_exact so b = either (mark_then s.If _ _ _ (λ _. arm_exact so b)) (last_exact so b) (begins_seq _ (begins_mark s.If)) (meets (same s.LineEnd) (same s.If) (on begins_stmt) _ (last_begins b) refl refl)

  after_else_shrinks : may2 ≡ true → (b : Branch) → Shrinks (p.after_else wide may2 ip2 inside b)
  unfolding p.after_else
  after_else_shrinks so b = shrinks_choose (is s.If) (token (marked s.If) ▷ (λ _. p.another_arm wide may2 ip2 inside b)) (p.last_part wide may2 ip2 inside b) (shrinks_seq _ _ (shrinks_token _) (λ _. arm_shrinks so b)) (last_shrinks so b)

  part_exact : may ≡ true → (b : Branch) → Exact l (g.part limits may ig inside b) (on begins_stmt) (p.part limits may ip inside b) (p.part wide may2 ip2 inside b)
  unfolding g.part p.part
  part_exact so b = either (mark_then s.ElseIf _ _ _ (λ _. arm_exact so b)) (mark_then s.Else _ _ _ (λ _. after_else_exact so b)) (begins_seq _ (begins_mark s.ElseIf))
      (meets (same s.Else) (same s.ElseIf) (on begins_stmt) _ (begins_seq _ (begins_mark s.Else)) refl refl)

  part_begins : (b : Branch) → Begins (g.part limits may ig inside b) (on begins_part)
  unfolding g.part
  part_begins b = begins_or _ _ (on begins_part) (begins_in (same s.ElseIf) begins_part _ (begins_seq _ (begins_mark s.ElseIf)) refl refl) (begins_in (same s.Else) begins_part _ (begins_seq _ (begins_mark s.Else)) refl refl)

  part_shrinks : may2 ≡ true → (b : Branch) → Shrinks (p.part wide may2 ip2 inside b)
  unfolding p.part
  part_shrinks so b = shrinks_choose (is s.ElseIf) (token (marked s.ElseIf) ▷ (λ _. p.another_arm wide may2 ip2 inside b)) (token (marked s.Else) ▷ (λ _. p.after_else wide may2 ip2 inside b))
      (shrinks_seq _ _ (shrinks_token _) (λ _. arm_shrinks so b)) (shrinks_seq _ _ (shrinks_token _) (λ _. after_else_shrinks so b))

  part_bites : may2 ≡ true → (b : Branch) → Bites (p.part wide may2 ip2 inside b) (on begins_part)
  unfolding p.part
  part_bites here b = bites_two s.ElseIf s.Else (λ _. p.another_arm wide may2 ip2 inside b) (λ _. p.after_else wide may2 ip2 inside b) (λ _. arm_shrinks here b) (λ _. after_else_shrinks here b)

  -- what goes on with parts
  abbrev going : Symbol → Bool
  going a = begins_part a || begins_stmt a

  parts_exact : may ≡ true → (b : Branch) → Exact l (g.parts limits may ig inside b) (on going) (p.parts limits may ip inside b) (p.parts wide may2 ip2 inside b)
  unfolding g.parts p.parts
  parts_exact so = loop_exact_by l (on begins_part) (on begins_stmt) (on going) (λ b. not b.closed) (λ b. not b.closed) Expected (g.part limits may ig inside) (p.part limits may ip inside) (p.part wide may2 ip2 inside)
      (λ b. unlimited (not b.closed)) (part_exact so) part_begins (λ b _. part_bites (grows so) b)
      (less begins_stmt going refl refl) (less begins_part going refl refl) (apart begins_part begins_stmt refl refl)
    where
      unlimited : (r : Bool) → Room l Expected r r
      unlimited r = record { grows = λ h. h; lifts = λ h. h ∙ sym (expected_stays l) }

  parts_open : (b : Branch) → Opens (g.parts limits may ig inside b) (on begins_part)
  unfolding g.parts
  parts_open b = opens_many (λ b. not b.closed) (g.part limits may ig inside) (on begins_part) part_begins b

  parts_shrinks : may2 ≡ true → (b : Branch) → Shrinks (p.parts wide may2 ip2 inside b)
  unfolding p.parts
  parts_shrinks so = shrinks_loop (on begins_part) (λ b. not b.closed) Expected (p.part wide may2 ip2 inside) (part_shrinks so)

  -- ---- blocks

  block_exact : may ≡ true → (c : Block) (line : ℕ) (test : Judged) → Exact l (g.block_if limits may ig inside c line test) never (p.block_if limits may ip inside c line test) (p.block_if wide may2 ip2 inside c line test)
  unfolding g.block_if p.block_if
  block_exact so c line test = seq (first_arm_exact so c.loops line test)
      (λ b. seq (parts_exact so b) (λ found. mapped (end_if_exact l) (λ _. branched c found))
      (λ found. meets ends_if going never _ (begins_seq _ end_if_begins) refl refl))
      (λ b. meets ends_arm begins_stmt never _ (begins_opens (g.parts limits may ig inside b) _ (on ends_arm) (opens_wider b) (λ found. begins_in ends_if ends_arm _ (begins_seq _ end_if_begins) refl refl)) refl refl)
    where
      opens_wider : (b : Branch) → Opens (g.parts limits may ig inside b) (on ends_arm)
      opens_wider b x us rest n = elim (parts_open b x us rest n) [ inl e ↦ inl e | inr e ↦ inr (wider begins_part ends_arm refl refl (us ++ rest) e) ]

  block_begins : (c : Block) (line : ℕ) (test : Judged) → Begins (g.block_if limits may ig inside c line test) (is s.LineEnd)
  unfolding g.block_if
  block_begins c line test = begins_seq _ (first_arm_begins c.loops line test)

  block_shrinks : may2 ≡ true → (c : Block) (line : ℕ) (test : Judged) → Shrinks (p.block_if wide may2 ip2 inside c line test)
  unfolding p.block_if
  block_shrinks so c line test = shrinks_seq _ _ (first_arm_shrinks so c.loops line test) (λ b. shrinks_seq _ _ (parts_shrinks so b) (λ found. shrinks_seq _ _ ((end_if_exact l).shrinks) (λ _. shrinks_pure (branched c found))))

  after_then_exact : may ≡ true → (c : Block) (line : ℕ) (test : Judged) (x : Word) → Exact l (g.after_then limits may ig inside c line test x) never (p.after_then limits may ip inside c line test x) (p.after_then wide may2 ip2 inside c line test x)
  unfolding g.after_then p.after_then
  after_then_exact so c line test x = either (conditional_exact l limits wide V c line test x)
      (block_exact so c line test) (conditional_begins l limits wide V c line test x) (meets (same s.LineEnd) begins_rest never _ (block_begins c line test) refl refl)

  after_then_shrinks : may2 ≡ true → (c : Block) (line : ℕ) (test : Judged) (x : Word) → Shrinks (p.after_then wide may2 ip2 inside c line test x)
  unfolding p.after_then
  after_then_shrinks so c line test x = shrinks_choose (on begins_rest) (p.conditional wide c line test x) (p.block_if wide may2 ip2 inside c line test)
      ((conditional_exact l limits wide V c line test x).shrinks) (block_shrinks so c line test)

  then_part_exact : may ≡ true → (c : Block) (line : ℕ) (test : Judged) → Exact l (g.then_part limits may ig inside c line test) never (p.then_part limits may ip inside c line test) (p.then_part wide may2 ip2 inside c line test)
  unfolding g.then_part p.then_part
  then_part_exact so c line test = seq then_exact (after_then_exact so c line test) (λ x. meets_never never _)

  then_part_begins : (c : Block) (line : ℕ) (test : Judged) → Begins (g.then_part limits may ig inside c line test) (is s.Then)
  unfolding g.then_part
  then_part_begins c line test = begins_seq _ begins_then

  then_part_shrinks : may2 ≡ true → (c : Block) (line : ℕ) (test : Judged) → Shrinks (p.then_part wide may2 ip2 inside c line test)
  unfolding p.then_part
  then_part_shrinks so c line test = shrinks_seq _ _ (shrinks_token _) (after_then_shrinks so c line test)

  after_guard_exact : may ≡ true → (c : Block) (line : ℕ) (test : Judged) → Exact l (g.after_guard limits may ig inside c line test) never (p.after_guard limits may ip inside c line test) (p.after_guard wide may2 ip2 inside c line test)
  unfolding g.after_guard p.after_guard
  after_guard_exact so c line test = refusing
      (either (one_line_exact l limits wide V c line test)
      (then_part_exact so c line test) (one_line_begins l limits wide V c line test) (meets (same s.Then) plain_names never _ (then_part_begins c line test) refl refl))
      (meets names (same s.Construct) never _ (begins_or _ _ (on names) (begins_in plain_names names _ (one_line_begins l limits wide V c line test) refl refl) (begins_in (same s.Then) names _ (then_part_begins c line test) refl refl)) refl refl)

  after_guard_shrinks : may2 ≡ true → (c : Block) (line : ℕ) (test : Judged) → Shrinks (p.after_guard wide may2 ip2 inside c line test)
  unfolding p.after_guard
  after_guard_shrinks so c line test = shrinks_choose (is s.Construct) (refuse Construct) (choose (on plain_names) (p.one_line wide c line test) (p.then_part wide may2 ip2 inside c line test))
      (shrinks_refuse Block Construct)
      (shrinks_choose (on plain_names) (p.one_line wide c line test) (p.then_part wide may2 ip2 inside c line test)
      ((one_line_exact l limits wide V c line test).shrinks) (then_part_shrinks so c line test))

  pub if_exact : may ≡ true → (c : Block) → Exact l (g.if_stmt limits may ig inside c) never (p.if_stmt limits may ip inside c) (p.if_stmt wide may2 ip2 inside c)
  unfolding g.if_stmt p.if_stmt
  if_exact so c = mark_then s.If _ _ _ (λ line. seq (guard_exact l limits wide V.outer) (after_guard_exact so c line) (λ test. meets_never never _))

  pub if_begins : (c : Block) → Begins (g.if_stmt limits may ig inside c) (is s.If)
  unfolding g.if_stmt
  if_begins c = begins_seq _ (begins_mark s.If)

  pub if_bites : may2 ≡ true → (c : Block) → Bites (p.if_stmt wide may2 ip2 inside c) (is s.If)
  unfolding p.if_stmt
  if_bites so c = bites_mark s.If _ (λ line. shrinks_seq _ _ ((guard_exact l limits wide V.outer).shrinks) (after_guard_shrinks so c line))
