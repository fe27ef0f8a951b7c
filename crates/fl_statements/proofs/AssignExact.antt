-- Assignments and the lines of loops are read exactly.
use Rattle.std.proofs.Common.{◌≡◌, ℕ, ◌+◌, ◌<◌, Bool, true, false, ◌||◌, cond, [], ◌∷◌, length, Some, None, refl, sym, ap, subst, inl, inr, nat_lt, arith}
use Rattle.parsing.specs.declared.symbol.Symbol.{Symbol}
use Rattle.parsing.specs.declared.symbol.Symbol.TheVariants as s
use Rattle.parsing.specs.declared.cursor.Word.{Word}
use Rattle.parsing.specs.declared.fault.Cause.TheVariants.{Many, Deep}
use Rattle.parsing.specs.Freed.{Freed, Frees}
use Rattle.parsing.specs.Limit.{less as fewer}
use Rattle.parsing.specs.Terminal.{same, on, is, marked, names}
use Rattle.parsing.specs.Reading.{◌>>=◌ as ◌▷◌, Lexemes, Parser, and_then, sees, choose, within, pure}
use Rattle.parsing.specs.Grammar.{one, gives, ◌>>=◌ as ◌⨟◌}
use Rattle.fl_expressions.specs.declared.tree.Measured.{Measured}
use Rattle.fl_expressions.specs.ExprGrammar as ge
use Rattle.fl_expressions.specs.ExprReading as pe
use Rattle.fl_statements.specs.declared.block.Block.{Block}
use Rattle.fl_statements.specs.Limits.{Limits}
use Rattle.fl_statements.specs.Trees.{block_from, assigned, scalar_target, element_target, loop_line_of}
use Rattle.fl_expressions.specs.Wide.{More}
use Rattle.fl_statements.specs.Wide.{Widens}
use Rattle.fl_statements.specs.StmtGrammar as g
use Rattle.fl_statements.specs.StmtReading as p
use Rattle.fl_statements.specs.StmtReading.{begins_stmt}
use Rattle.parsing.proofs.Outcomes.{never, differ, which, choose_true, choose_false, shrinks_pure, shrinks_seq, Bites, bites_seq}
use Rattle.parsing.proofs.Exact.{Exact, Room, room_of, frees_less, Begins, pure_exact, seq, shrinks_token, either_within}
use Rattle.parsing.proofs.Rules.{narrow, anywhere, either, optional, begins_seq, begins_or, begins_where, meets_never, gives_meets, mapped, opens_or, opens_begins, opens_gives, begins_opens}
use Rattle.parsing.proofs.OnSymbols.{less, among, meets, begins_in, begins_mark, begins_name, mark_exact, name_exact, mark_then, bites_mark, bites_name}
use Rattle.fl_expressions.proofs.Exprs.{binds, expr_exact, brackets_room, list_exact, list_begins, list_bites}
use Rattle.std.specs.Prelude.{◌-◌}
use Rattle.std.proofs.lemmas.Bool.Decides.{nat_tests}
use Rattle.parsing.specs.Example.{example}
use Rattle.parsing.specs.Terminal.{word_of}
use Rattle.parsing.specs.Reading.{token, Outcome}
use Rattle.parsing.proofs.Outcomes.{Past, past_on}
use Rattle.parsing.proofs.Exact.{token_exact, bites_token}
use Rattle.parsing.proofs.OnSymbols.{begins_one, example_is}
use Rattle.fl_conditions.specs.declared.tree.Judged.{Judged}
use Rattle.fl_statements.specs.declared.block.Target.{Target}
use Rattle.fl_statements.specs.Terminals.{plain_names, plain_name, begins_rest}
use Rattle.fl_statements.specs.Branches.{first_branch, branched}
use Rattle.fl_conditions.proofs.Conds.{cond_exact, joins}
use Rattle.fl_statements.proofs.Guards.{bites_within}

-- ---- names

pub begins_plain_name : Begins (one plain_name) (on plain_names)
begins_plain_name = begins_one plain_name (on plain_names) (λ t x h. given (on plain_names t) (word_of t) x h)
  where
    given : (b : Bool) (a x : Word) → cond b (Some a) None ≡ Some x → b ≡ true
    given true a x h = refl
    given false a x h = cc

pub plain_name_exact : {l : Freed} → Exact l (one plain_name) never (token plain_name) (token plain_name)
plain_name_exact = token_exact plain_name (word_of (example s.Name)) (example s.Name) (ap (λ v. cond (plain_names v) (Some (word_of (example s.Name))) None) (example_is s.Name))

pub bites_plain_name : Bites (token plain_name) (on plain_names)
bites_plain_name = bites_token plain_name (on plain_names) (λ t h. (word_of t, ap (λ b. cond b (Some (word_of t)) None) h))

-- ---- the last line of a loop

pub end_do_exact : (l : Freed) → Exact l g.end_do never p.end_do p.end_do
unfolding g.end_do p.end_do
end_do_exact l = either (mark_then s.EndDo _ _ _ (λ _. mark_exact s.LineEnd)) (mark_then s.End _ _ _ (λ _. mark_then s.Do _ _ _ (λ _. mark_exact s.LineEnd))) (begins_seq _ (begins_mark s.EndDo))
    (meets (same s.End) (same s.EndDo) never _ (begins_seq _ (begins_mark s.End)) refl refl)

abbrev pub ends_do : Symbol → Bool
ends_do = among (s.EndDo ∷ s.End ∷ [])

pub end_do_begins : Begins g.end_do (on ends_do)
unfolding g.end_do
end_do_begins = begins_or _ _ (on ends_do) (begins_in (same s.EndDo) ends_do _ (begins_seq _ (begins_mark s.EndDo)) refl refl) (begins_in (same s.End) ends_do _ (begins_seq _ (begins_mark s.End)) refl refl)

loop_name_exact : (l : Freed) → Exact l g.loop_name never p.loop_name p.loop_name
unfolding g.loop_name p.loop_name
loop_name_exact l = mark_then s.Do _ _ _ (λ line. seq name_exact (λ x. mark_then s.Equals _ _ _ (λ _. pure_exact (line, x))) (λ x. meets_never never _))

loop_name_begins : Begins g.loop_name (is s.Do)
unfolding g.loop_name
loop_name_begins = begins_seq _ (begins_mark s.Do)

loop_name_bites : Bites p.loop_name (is s.Do)
unfolding p.loop_name
loop_name_bites = bites_mark s.Do _ (λ line. shrinks_seq _ _ (shrinks_token _) (λ x. shrinks_seq _ _ (shrinks_token _) (λ _. shrinks_pure {A = ℕ × Word} (line, x))))

module _ (l : Freed) (limits wide : Limits) (W : Widens l limits wide) where
  abbrev F : Frees l Deep (fewer limits.depth) (fewer wide.depth)
  F = frees_less W.depth

  pub whole_exact : Exact l (ge.expr limits.brackets (fewer limits.depth)) (on binds) (pe.expr limits.brackets (fewer limits.depth)) (pe.expr wide.brackets (fewer wide.depth))
  whole_exact = expr_exact l limits.brackets wide.brackets W.brackets (fewer limits.depth) (fewer wide.depth) F

  -- ---- assignments

  indexed_target_exact : nat_lt 0 limits.brackets ≡ true → (x : Word) → Exact l (g.indexed_target limits x) never (p.indexed_target limits x) (p.indexed_target wide x)
  unfolding g.indexed_target p.indexed_target
  indexed_target_exact so x = seq (list_exact l limits.brackets wide.brackets W.brackets (fewer limits.depth) (fewer wide.depth) F so) (λ found. pure_exact (element_target x found)) (λ found. meets_never never _)

  pub indexed_target_begins : (x : Word) → Begins (g.indexed_target limits x) (is s.Open)
  unfolding g.indexed_target
  indexed_target_begins x = begins_seq _ (list_begins l limits.brackets wide.brackets W.brackets (fewer limits.depth) (fewer wide.depth) F)

  pub indexed_target_bites : nat_lt 0 wide.brackets ≡ true → (x : Word) → Bites (p.indexed_target wide x) (is s.Open)
  unfolding p.indexed_target
  indexed_target_bites so x = bites_seq _ _ (is s.Open) (list_bites l limits.brackets wide.brackets W.brackets (fewer limits.depth) (fewer wide.depth) F so) (λ found. shrinks_pure (element_target x found))

  pub after_target_exact : (x : Word) → Exact l (g.after_target limits x) (is s.Open) (p.after_target limits x) (p.after_target wide x)
  unfolding g.after_target p.after_target
  after_target_exact x = either_within (nat_lt 0 limits.brackets) (nat_lt 0 wide.brackets) Deep (brackets_room l limits.brackets wide.brackets W.brackets (fewer limits.depth) (fewer wide.depth) F)
      (λ so. anywhere (indexed_target_exact so x)) (λ _ so. indexed_target_bites so x)
      (anywhere (pure_exact (scalar_target x))) (indexed_target_begins x) (gives_meets (scalar_target x) (is s.Open) (is s.Open) (λ rest h. h))

  right_side_exact : Exact l (g.right_side limits) never (p.right_side limits) (p.right_side wide)
  unfolding g.right_side p.right_side
  right_side_exact = mark_then s.Equals _ _ _ (λ _. seq whole_exact (λ e. mark_then s.LineEnd _ _ _ (λ _. pure_exact e))
      (λ e. meets (same s.LineEnd) binds never _ (begins_seq _ (begins_mark s.LineEnd)) refl refl))

  right_side_begins : Begins (g.right_side limits) (is s.Equals)
  unfolding g.right_side
  right_side_begins = begins_seq _ (begins_mark s.Equals)

  pub assign_to_exact : (atomic : Bool) (c : Block) (x : Word) → Exact l (g.assign_to limits atomic c x) never (p.assign_to limits atomic c x) (p.assign_to wide atomic c x)
  unfolding g.assign_to p.assign_to
  assign_to_exact atomic c x = seq (after_target_exact x) (λ t. mapped right_side_exact (assigned atomic c t)) (λ t. meets (same s.Equals) (same s.Open) never _ (begins_seq _ right_side_begins) refl refl)

  pub assign_exact : (atomic : Bool) (c : Block) → Exact l (g.assign limits atomic c) never (p.assign limits atomic c) (p.assign wide atomic c)
  unfolding g.assign p.assign
  assign_exact atomic c = seq name_exact (assign_to_exact atomic c) (λ x. meets_never never _)

  pub assign_begins : (atomic : Bool) (c : Block) → Begins (g.assign limits atomic c) (on names)
  unfolding g.assign
  assign_begins atomic c = begins_seq _ begins_name

  pub assign_bites : (atomic : Bool) (c : Block) → Bites (p.assign wide atomic c) (on names)
  unfolding p.assign
  assign_bites atomic c = bites_name _ (λ x. (assign_to_exact atomic c x).shrinks)

  -- ---- first lines of loops

  first_bound_exact : Exact l (g.first_bound limits) never (p.first_bound limits) (p.first_bound wide)
  unfolding g.first_bound p.first_bound
  first_bound_exact = seq whole_exact (λ e. mark_then s.Comma _ _ _ (λ _. pure_exact e)) (λ e. meets (same s.Comma) binds never _ (begins_seq _ (begins_mark s.Comma)) refl refl)

  -- what goes on with a step, or with none
  abbrev steps : Symbol → Bool
  steps = among (s.Comma ∷ s.Open ∷ s.Power ∷ s.Star ∷ s.Slash ∷ s.Plus ∷ s.Minus ∷ [])

  -- what stands behind the last bound
  abbrev ends_bound : Symbol → Bool
  ends_bound = among (s.Comma ∷ s.LineEnd ∷ [])

  loop_step_exact : Exact l (g.loop_step limits) (on steps) (p.loop_step limits) (p.loop_step wide)
  unfolding g.loop_step p.loop_step
  loop_step_exact = optional None (mark_then s.Comma _ _ _ (λ _. narrow (mapped whole_exact (λ (e : Measured). Some e.expr)) (less binds steps refl refl))) (begins_seq _ (begins_mark s.Comma)) (less (same s.Comma) steps refl refl)

  loop_end_begins : (x : ℕ × Word) (first last : Measured) → Begins (g.loop_step limits ⨟ (λ step. one (marked s.LineEnd) ⨟ (λ _. gives (loop_line_of x first last step)))) (on ends_bound)
  unfolding g.loop_step
  loop_end_begins x first last = begins_opens _ _ (on ends_bound)
      (opens_or _ _ (on ends_bound) (opens_begins _ (on ends_bound) (begins_in (same s.Comma) ends_bound _ (begins_seq _ (begins_mark s.Comma)) refl refl)) (opens_gives None (on ends_bound)))
      (λ step. begins_in (same s.LineEnd) ends_bound _ (begins_seq _ (begins_mark s.LineEnd)) refl refl)

  pub loop_line_exact : Exact l (g.loop_line limits) never (p.loop_line limits) (p.loop_line wide)
  unfolding g.loop_line p.loop_line
  loop_line_exact = seq (loop_name_exact l)
      (λ x. seq first_bound_exact
      (λ first. seq whole_exact
      (λ last. seq loop_step_exact (λ step. mark_then s.LineEnd _ _ _ (λ _. pure_exact (loop_line_of x first last step)))
      (λ step. meets (same s.LineEnd) steps never _ (begins_seq _ (begins_mark s.LineEnd)) refl refl))
      (λ last. meets ends_bound binds never _ (loop_end_begins x first last) refl refl))
      (λ first. meets_never never _))
      (λ x. meets_never never _)

  pub loop_line_begins : Begins (g.loop_line limits) (is s.Do)
  unfolding g.loop_line
  loop_line_begins = begins_seq _ loop_name_begins

  pub loop_line_bites : Bites (p.loop_line wide) (is s.Do)
  unfolding p.loop_line
  loop_line_bites = bites_seq _ _ (is s.Do) loop_name_bites (λ x. shrinks_seq _ _ (first_bound_exact.shrinks) (λ first. shrinks_seq _ _ (whole_exact.shrinks) (λ last. shrinks_seq _ _ (loop_step_exact.shrinks)
      (λ step. shrinks_seq _ _ (shrinks_token _) (λ _. shrinks_pure (loop_line_of x first last step))))))

  pub counts : (c : Block) → Room l Many (g.has_room limits c) (p.has_room wide c)
  counts c = room_of W.statements (c.count + 1)

  -- a target's name is followed by these
  rest_begins : (atomic : Bool) (c : Block) (x : Word) → Begins (g.assign_to limits atomic c x) (on begins_rest)
  unfolding g.assign_to g.after_target
  rest_begins atomic c x = begins_opens _ _ (on begins_rest)
      (opens_or _ _ (on begins_rest) (opens_begins _ (on begins_rest) (begins_where _ _ _ (begins_in (same s.Open) begins_rest _ (indexed_target_begins x) refl refl))) (opens_gives (scalar_target x) (on begins_rest)))
      (λ t. begins_in (same s.Equals) begins_rest _ (begins_seq _ right_side_begins) refl refl)

  pub some_wide : nat_lt 0 wide.brackets ≡ true
  some_wide = (brackets_room l limits.brackets wide.brackets W.brackets (fewer limits.depth) (fewer wide.depth) F).grows W.some

  pub equals_only : (ts : Lexemes) → sees (on begins_rest) ts ≡ true → sees (is s.Open) ts ≡ false → sees (is s.Equals) ts ≡ true
  equals_only [] h f = h
  equals_only (t ∷ ts) h f = by (is s.Open t) (is s.Equals t) h f
    where
      by : (a b : Bool) → (a || b) ≡ true → a ≡ false → b ≡ true
      by true b h f = differ true refl f
      by false b h f = h

  right_side_bites : Bites (p.right_side wide) (is s.Equals)
  unfolding p.right_side
  right_side_bites = bites_mark s.Equals _ (λ _. shrinks_seq _ _ (whole_exact.shrinks) (λ e. shrinks_seq _ _ (shrinks_token _) (λ _. shrinks_pure e)))

  rest_bites : (atomic : Bool) (c : Block) (x : Word) → Bites (p.assign_to wide atomic c x) (on begins_rest)
  unfolding p.assign_to p.after_target
  rest_bites atomic c x ts h =
      let target = choose (is s.Open) (within (nat_lt 0 wide.brackets) Deep (p.indexed_target wide x)) (pure (scalar_target x)) in
      let behind : Target → Parser Block = λ t. p.right_side wide ▷ (λ e. pure (assigned atomic c t e)) in
      elim (which (sees (is s.Open) ts)) [
        | inl is_so ↦ past_on (target ts) behind (length ts) (λ t. shrinks_seq _ _ (right_side_exact.shrinks) (λ e. shrinks_pure (assigned atomic c t e)))
            (subst (λ (v : Outcome Target). Past v (length ts)) (sym (choose_true (is s.Open) (within (nat_lt 0 wide.brackets) Deep (p.indexed_target wide x)) (pure (scalar_target x)) ts is_so))
            (bites_within (is s.Open) (nat_lt 0 wide.brackets) Deep (p.indexed_target wide x) some_wide (indexed_target_bites some_wide x) ts is_so))
        | inr isnt ↦ subst (λ (v : Outcome Target). Past (and_then v behind) (length ts)) (sym (choose_false (is s.Open) (within (nat_lt 0 wide.brackets) Deep (p.indexed_target wide x)) (pure (scalar_target x)) ts isnt))
            (bites_seq (p.right_side wide) (λ e. pure (assigned atomic c (scalar_target x) e)) (is s.Equals) right_side_bites (λ e. shrinks_pure (assigned atomic c (scalar_target x) e)) ts (equals_only ts h isnt))
      ]

  -- ---- conditions of Ifs

  pub guard_exact : Exact l (g.guard limits) never (p.guard limits) (p.guard wide)
  unfolding g.guard p.guard
  guard_exact = mark_then s.Open _ _ _ (λ _. seq (cond_exact l (limits.brackets - 1) (wide.brackets - 1) down (fewer (fewer limits.depth)) (fewer (fewer wide.depth)) (frees_less F))
      (λ c. mark_then s.Close _ _ _ (λ _. pure_exact c)) (λ c. meets (same s.Close) joins never _ (begins_seq _ (begins_mark s.Close)) refl refl))
    where
      positive : (n : ℕ) → nat_lt 0 n ≡ true → 0 < n
      positive n h = grind (arith, nat_tests)

      down : More l (limits.brackets - 1) (wide.brackets - 1)
      down = let some_ = positive limits.brackets W.some in record { stays = λ f. let e = W.brackets.stays f in omega arith; goes = λ t. let e = W.brackets.goes t in omega arith }

  pub conditional_exact : (c : Block) (line : ℕ) (test : Judged) (x : Word) → Exact l (g.conditional limits c line test x) never (p.conditional limits c line test x) (p.conditional wide c line test x)
  unfolding g.conditional p.conditional
  conditional_exact c line test x = mapped (assign_to_exact false (block_from (c.count + 1) c.loops) x) (λ body. branched c (first_branch line test.cond body))

  pub conditional_begins : (c : Block) (line : ℕ) (test : Judged) (x : Word) → Begins (g.conditional limits c line test x) (on begins_rest)
  unfolding g.conditional
  conditional_begins c line test x = begins_seq _ (rest_begins false (block_from (c.count + 1) c.loops) x)

  pub conditional_bites : (c : Block) (line : ℕ) (test : Judged) (x : Word) → Bites (p.conditional wide c line test x) (on begins_rest)
  unfolding p.conditional
  conditional_bites c line test x = bites_seq _ _ (on begins_rest) (rest_bites false (block_from (c.count + 1) c.loops) x) (λ body. shrinks_pure (branched c (first_branch line test.cond body)))

  pub one_line_exact : (c : Block) (line : ℕ) (test : Judged) → Exact l (g.one_line limits c line test) never (p.one_line limits c line test) (p.one_line wide c line test)
  unfolding g.one_line p.one_line
  one_line_exact c line test = seq plain_name_exact (conditional_exact c line test) (λ x. meets_never never _)

  pub one_line_begins : (c : Block) (line : ℕ) (test : Judged) → Begins (g.one_line limits c line test) (on plain_names)
  unfolding g.one_line
  one_line_begins c line test = begins_seq _ begins_plain_name

  pub one_line_bites : (c : Block) (line : ℕ) (test : Judged) → Bites (p.one_line wide c line test) (on plain_names)
  unfolding p.one_line
  one_line_bites c line test = bites_seq _ _ (on plain_names) bites_plain_name (λ x. (conditional_exact c line test x).shrinks)

  pub two : (c : Block) → Room l Many (g.has_room_for_two limits c) (p.has_room_for_two wide c)
  two c = room_of W.statements (c.count + 2)
