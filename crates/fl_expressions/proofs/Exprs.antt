-- Expressions are read exactly.
use Rattle.std.proofs.Common.{◌≡◌, ℕ, zero, suc, Bool, true, false, ◌&&◌, cond, nat_lt, [], ◌∷◌, ◌++◌, refl, sym, ap, ◌∙◌, append_assoc, ◌⊎◌, inl, inr, arith}
use Rattle.std.proofs.lemmas.Bool.Decides.{nat_tests}
use Rattle.tokens.specs.Lexeme.{Lexeme}
use Rattle.parsing.specs.declared.symbol.Symbol.{Symbol}
use Rattle.parsing.specs.declared.symbol.Symbol.TheVariants as s
use Rattle.parsing.specs.declared.fault.Cause.TheVariants.{Expected, Deep}
use Rattle.parsing.specs.Freed.{Freed, Frees, frees}
use Rattle.parsing.specs.Freed.Freed.{Nothing}
use Rattle.parsing.specs.Limit.{Limit, allows, less as fewer}
use Rattle.parsing.specs.Terminal.{same, on, is, reads, names, numbers}
use Rattle.parsing.specs.Reading.{Parser, sees}
use Rattle.parsing.specs.Grammar.{Grammar, ◌or◌, where_, ◌>>=◌ as ◌⨟◌}
use Rattle.fl_ast.specs.declared.kind.BinOp.TheVariants.{Add, Mul}
use Rattle.fl_ast.specs.declared.kind.Fun.TheVariants as fun
use Rattle.parsing.specs.declared.cursor.Word.{Word}
use Rattle.fl_expressions.specs.declared.tree.Measured.{Measured}
use Rattle.fl_expressions.specs.declared.tree.Listed.{Listed}
use Rattle.fl_expressions.specs.Terminals.{sum_op_by, product_op_by, pairing_by, is_pairing, single_by, is_single}
use Rattle.fl_expressions.specs.Trees.{literal, scalar, negation, binary, power, no_exprs, one_more, element, call_of, may_stand_left}
use Rattle.fl_expressions.specs.Wide.{More}
use Rattle.fl_expressions.specs.ExprGrammar as g
use Rattle.fl_expressions.specs.ExprReading as p
use Rattle.fl_expressions.proofs.Opened.{NamedGrammar, RestGrammar, StartedGrammar, UnopenedGrammar, RestAt, UnopenedAt}
use Rattle.parsing.proofs.Outcomes.{never, which, differ, Shrinks, shrinks_pure, shrinks_seq, Bites, bites_seq}
use Rattle.parsing.proofs.Exact.{Exact, Room, always_room, room_of, both_rooms, frees_less, Begins, Meets, pure_exact, seq, either_within, shrinks_token}
use Rattle.parsing.proofs.Rules.{either, begins_seq, begins_or, begins_where, meets_never, narrow, anywhere, mapped, loop_exact, many_meets, shrinks_loop, meets_or, gives_meets}
use Rattle.parsing.proofs.Grouped.{grouped_exact, grouped_meets}
use Rattle.parsing.proofs.OnSymbols.{apart, less, among, meets, begins_in, begins_mark, begins_name, begins_number, begins_by, name_exact, number_exact, mark_then, bites_mark, small_number_exact, by_exact, bites_by}

-- what goes on with a factor
abbrev pub raises : Symbol → Bool
raises = among (s.Open ∷ s.Power ∷ [])

-- with a term
abbrev pub multiplies : Symbol → Bool
multiplies = among (s.Open ∷ s.Power ∷ s.Star ∷ s.Slash ∷ [])

-- with an expression
abbrev pub binds : Symbol → Bool
binds = among (s.Open ∷ s.Power ∷ s.Star ∷ s.Slash ∷ s.Plus ∷ s.Minus ∷ [])

-- with a list of expressions
abbrev pub lists : Symbol → Bool
lists = among (s.Comma ∷ s.Open ∷ s.Power ∷ s.Star ∷ s.Slash ∷ s.Plus ∷ s.Minus ∷ [])

-- what begins an expression without a bracket at its head
abbrev pub unopened : Symbol → Bool
unopened a = cond (same s.Minus a) true (cond (same s.Plus a) true (cond (reads pairing_by a) true (cond (reads single_by a) true (cond (names a) true (numbers a)))))

-- ---- powers

power_of_exact : (l : Freed) (e : Measured) → Exact l (g.power_of e) never (p.power_of e) (p.power_of e)
unfolding g.power_of p.power_of
power_of_exact l e = mark_then s.Power _ _ _ (λ _. seq (small_number_exact 2147483647) (λ n. pure_exact (power e n)) (λ n. meets_never never _))

power_of_begins : (e : Measured) → Begins (g.power_of e) (is s.Power)
unfolding g.power_of
power_of_begins e = begins_seq _ (begins_mark s.Power)

power_of_bites : (e : Measured) → Bites (p.power_of e) (is s.Power)
unfolding p.power_of
power_of_bites e = bites_mark s.Power _ (λ _. shrinks_seq _ _ (shrinks_token _) (λ n. shrinks_pure (power e n)))

raised_exact : (l : Freed) (d d2 : Limit) → Frees l Deep d d2 → (e : Measured) → Exact l (g.raised d e) (is s.Power) (p.raised d e) (p.raised d2 e)
unfolding g.raised p.raised
raised_exact l d d2 F e =
    either_within (may_stand_left d e) (may_stand_left d2 e) Deep (room_of F e.depth) (λ _. anywhere (power_of_exact l e)) (λ _ _. power_of_bites e)
    (anywhere (pure_exact e)) (power_of_begins e) (gives_meets e (is s.Power) (is s.Power) (λ rest h. h))

raised_meets : (d : Limit) (e : Measured) → Meets (g.raised d e) (is s.Open) (on raises)
unfolding g.raised
raised_meets d e = meets_or _ _ (is s.Open) (on raises) (meets (same s.Power) (same s.Open) (on raises) _ (begins_where _ _ _ (power_of_begins e)) refl refl)
    (gives_meets e (is s.Open) (on raises) (less (same s.Open) raises refl refl))

-- one after the other, both perhaps empty
pub meets_seq : {A B : Type 0} (N : Grammar A) (M : A → Grammar B) (before between after : Lexeme → Bool) → Meets N before between → ((x : A) → Meets (M x) between after) → Meets (N ⨟ M) before after
meets_seq N M before between after a b z us rest (x, vs, ws, n, m, e) h =
    ap (sees before) (ap (λ v. v ++ rest) e ∙ append_assoc vs ws rest) ∙ a x vs (ws ++ rest) n (b x z ws rest m h)

first : (a b : Bool) → (a && b) ≡ true → a ≡ true
first true b e = refl
first false b e = e

module _ (l : Freed) (open_ open2 : Bool) (room : Room l Deep open_ open2) (ig : Limit → Grammar Measured) (ip ip2 : Limit → Parser Measured)
    (inner : open_ ≡ true → (d d2 : Limit) → Frees l Deep d d2 → Exact l (ig d) (on binds) (ip d) (ip2 d2))
    (inner_shrinks : open2 ≡ true → (d : Limit) → Shrinks (ip2 d)) where
  bracketed_exact : (d d2 : Limit) → Frees l Deep d d2 → open_ ≡ true → Exact l (g.bracketed open_ ig d) never (p.bracketed open_ ip d) (p.bracketed open2 ip2 d2)
  unfolding g.bracketed p.bracketed
  bracketed_exact d d2 F so =
      mark_then s.Open _ _ _ (λ _. seq (inner so d d2 F) (λ e. mark_then s.Close _ _ _ (λ _. pure_exact e))
      (λ e. meets (same s.Close) binds never _ (begins_seq _ (begins_mark s.Close)) refl refl))

  bracketed_begins : (d : Limit) → Begins (g.bracketed open_ ig d) (is s.Open)
  unfolding g.bracketed
  bracketed_begins d = begins_seq _ (begins_mark s.Open)

  bracketed_bites : (d : Limit) → open2 ≡ true → Bites (p.bracketed open2 ip2 d) (is s.Open)
  unfolding p.bracketed
  bracketed_bites d so = bites_mark s.Open _ (λ _. shrinks_seq _ _ (inner_shrinks so d) (λ e. shrinks_seq _ _ (shrinks_token _) (λ _. shrinks_pure e)))

  literal_exact : Exact l (g.literal open_ ig) never (p.literal open_ ip) (p.literal open2 ip2)
  unfolding g.literal p.literal
  literal_exact = seq number_exact (λ n. pure_exact (literal n)) (λ n. meets_never never _)

  literal_begins : Begins (g.literal open_ ig) (on numbers)
  unfolding g.literal
  literal_begins = begins_seq _ begins_number

  -- ---- lists

  another_expr_exact : open_ ≡ true → (d d2 : Limit) → Frees l Deep d d2 → (x : Listed) → Exact l (g.another_expr open_ ig d x) (on binds) (p.another_expr open_ ip d x) (p.another_expr open2 ip2 d2 x)
  unfolding g.another_expr p.another_expr
  another_expr_exact so d d2 F x = mark_then s.Comma _ _ _ (λ _. mapped (inner so d d2 F) (one_more x))

  another_expr_begins : (d : Limit) (x : Listed) → Begins (g.another_expr open_ ig d x) (is s.Comma)
  unfolding g.another_expr
  another_expr_begins d x = begins_seq _ (begins_mark s.Comma)

  another_expr_bites : open2 ≡ true → (d : Limit) (x : Listed) → Bites (p.another_expr open2 ip2 d x) (is s.Comma)
  unfolding p.another_expr
  another_expr_bites so d x = bites_mark s.Comma _ (λ _. shrinks_seq _ _ (inner_shrinks so d) (λ e. shrinks_pure (one_more x e)))

  another_expr_shrinks : open2 ≡ true → (d : Limit) (x : Listed) → Shrinks (p.another_expr open2 ip2 d x)
  unfolding p.another_expr
  another_expr_shrinks so d x = shrinks_seq _ _ (shrinks_token _) (λ _. shrinks_seq _ _ (inner_shrinks so d) (λ e. shrinks_pure (one_more x e)))

  more_exprs_exact : open_ ≡ true → (d d2 : Limit) → Frees l Deep d d2 → (x : Listed) → Exact l (g.more_exprs open_ ig d x) (on lists) (p.more_exprs open_ ip d x) (p.more_exprs open2 ip2 d2 x)
  unfolding g.more_exprs p.more_exprs
  more_exprs_exact so d d2 F = loop_exact l (is s.Comma) (on binds) (on lists) (λ _. true) (λ _. true) Expected _ _ _
      (λ _. always_room) (another_expr_exact so d d2 F) (another_expr_begins d) (another_expr_bites (room.grows so) d2)
      (less binds lists refl refl) (less (same s.Comma) lists refl refl) (apart (same s.Comma) binds refl refl)

  more_exprs_meet : open_ ≡ true → (d d2 : Limit) → Frees l Deep d d2 → (x : Listed) → Meets (g.more_exprs open_ ig d x) (on binds) (on lists)
  unfolding g.more_exprs p.more_exprs
  more_exprs_meet so d d2 F = many_meets l (is s.Comma) (on binds) (on lists) (λ _. true) (λ _. true) Expected (g.another_expr open_ ig d) (p.another_expr open_ ip d) (p.another_expr open2 ip2 d2)
      (λ _. always_room) (another_expr_exact so d d2 F) (another_expr_begins d) (another_expr_bites (room.grows so) d2)
      (less binds lists refl refl) (less (same s.Comma) lists refl refl) (apart (same s.Comma) binds refl refl)

  exprs_exact : open_ ≡ true → (d d2 : Limit) → Frees l Deep d d2 → Exact l (g.exprs open_ ig d) (on lists) (p.exprs open_ ip d) (p.exprs open2 ip2 d2)
  unfolding g.exprs p.exprs
  exprs_exact so d d2 F = seq (inner so d d2 F) (λ e. more_exprs_exact so d d2 F (one_more no_exprs e)) (λ e. more_exprs_meet so d d2 F (one_more no_exprs e))

  exprs_shrinks : open2 ≡ true → (d : Limit) → Shrinks (p.exprs open2 ip2 d)
  unfolding p.exprs p.more_exprs
  exprs_shrinks so d = shrinks_seq _ _ (inner_shrinks so d) (λ e. shrinks_loop (is s.Comma) (λ _. true) Expected _ (another_expr_shrinks so d) (one_more no_exprs e))

  pub subscripts_exact : open_ ≡ true → (d d2 : Limit) → Frees l Deep d d2 → Exact l (g.subscripts open_ ig d) never (p.subscripts open_ ip d) (p.subscripts open2 ip2 d2)
  unfolding g.subscripts p.subscripts
  subscripts_exact so d d2 F =
      mark_then s.Open _ _ _ (λ _. seq (exprs_exact so d d2 F) (λ found. mark_then s.Close _ _ _ (λ _. pure_exact found))
      (λ found. meets (same s.Close) lists never _ (begins_seq _ (begins_mark s.Close)) refl refl))

  pub subscripts_begins : (d : Limit) → Begins (g.subscripts open_ ig d) (is s.Open)
  unfolding g.subscripts
  subscripts_begins d = begins_seq _ (begins_mark s.Open)

  pub subscripts_bites : open2 ≡ true → (d : Limit) → Bites (p.subscripts open2 ip2 d) (is s.Open)
  unfolding p.subscripts
  subscripts_bites so d = bites_mark s.Open _ (λ _. shrinks_seq _ _ (exprs_shrinks so d) (λ found. shrinks_seq _ _ (shrinks_token _) (λ _. shrinks_pure found)))

  -- ---- places and calls

  hold_room : (d d2 : Limit) → Frees l Deep d d2 → Room l Deep (open_ && allows d 1) (open2 && allows d2 1)
  hold_room d d2 F = both_rooms room (room_of F 1)

  indexed_exact : open_ ≡ true → (d d2 : Limit) → Frees l Deep d d2 → (x : Word) → Exact l (g.indexed open_ ig d x) never (p.indexed open_ ip d x) (p.indexed open2 ip2 d2 x)
  unfolding g.indexed p.indexed
  indexed_exact so d d2 F x = seq (subscripts_exact so (fewer d) (fewer d2) (frees_less F)) (λ found. pure_exact (element x found)) (λ found. meets_never never _)

  indexed_begins : (d : Limit) (x : Word) → Begins (g.indexed open_ ig d x) (is s.Open)
  unfolding g.indexed
  indexed_begins d x = begins_seq _ (subscripts_begins (fewer d))

  indexed_bites : open2 ≡ true → (d : Limit) (x : Word) → Bites (p.indexed open2 ip2 d x) (is s.Open)
  unfolding p.indexed
  indexed_bites so d x = bites_seq _ _ (is s.Open) (subscripts_bites so (fewer d)) (λ found. shrinks_pure (element x found))

  after_name_exact : (d d2 : Limit) → Frees l Deep d d2 → (x : Word) → Exact l (g.after_name open_ ig d x) (is s.Open) (p.after_name open_ ip d x) (p.after_name open2 ip2 d2 x)
  unfolding g.after_name p.after_name
  after_name_exact d d2 F x = either_within (open_ && allows d 1) (open2 && allows d2 1) Deep (hold_room d d2 F)
      (λ h. anywhere (indexed_exact (first open_ (allows d 1) h) d d2 F x)) (λ _ h. indexed_bites (first open2 (allows d2 1) h) d2 x)
      (anywhere (pure_exact (scalar x))) (indexed_begins d x) (gives_meets (scalar x) (is s.Open) (is s.Open) (λ rest h. h))

  place_exact : (d d2 : Limit) → Frees l Deep d d2 → Exact l (g.place open_ ig d) (is s.Open) (p.place open_ ip d) (p.place open2 ip2 d2)
  unfolding g.place p.place
  place_exact d d2 F = seq name_exact (after_name_exact d d2 F) (λ x. meets_never (is s.Open) _)

  place_begins : (d : Limit) → Begins (g.place open_ ig d) (on names)
  unfolding g.place
  place_begins d = begins_seq _ begins_name

  first_argument_exact : open_ ≡ true → (d d2 : Limit) → Frees l Deep d d2 → Exact l (g.first_argument open_ ig d) never (p.first_argument open_ ip d) (p.first_argument open2 ip2 d2)
  unfolding g.first_argument p.first_argument
  first_argument_exact so d d2 F =
      mark_then s.Open _ _ _ (λ _. seq (inner so d d2 F) (λ e. mark_then s.Comma _ _ _ (λ _. pure_exact e))
      (λ e. meets (same s.Comma) binds never _ (begins_seq _ (begins_mark s.Comma)) refl refl))

  first_argument_shrinks : open2 ≡ true → (d : Limit) → Shrinks (p.first_argument open2 ip2 d)
  unfolding p.first_argument
  first_argument_shrinks so d = shrinks_seq _ _ (shrinks_token _) (λ _. shrinks_seq _ _ (inner_shrinks so d) (λ e. shrinks_seq _ _ (shrinks_token _) (λ _. shrinks_pure e)))

  second_argument_exact : open_ ≡ true → (d d2 : Limit) → Frees l Deep d d2 → Exact l (g.second_argument open_ ig d) never (p.second_argument open_ ip d) (p.second_argument open2 ip2 d2)
  unfolding g.second_argument p.second_argument
  second_argument_exact so d d2 F = seq (inner so d d2 F) (λ e. mark_then s.Close _ _ _ (λ _. pure_exact e))
      (λ e. meets (same s.Close) binds never _ (begins_seq _ (begins_mark s.Close)) refl refl)

  second_argument_shrinks : open2 ≡ true → (d : Limit) → Shrinks (p.second_argument open2 ip2 d)
  unfolding p.second_argument
  second_argument_shrinks so d = shrinks_seq _ _ (inner_shrinks so d) (λ e. shrinks_seq _ _ (shrinks_token _) (λ _. shrinks_pure e))

  bracketed_shrinks : open2 ≡ true → (d : Limit) → Shrinks (p.bracketed open2 ip2 d)
  unfolding p.bracketed
  bracketed_shrinks so d = shrinks_seq _ _ (shrinks_token _) (λ _. shrinks_seq _ _ (inner_shrinks so d) (λ e. shrinks_seq _ _ (shrinks_token _) (λ _. shrinks_pure e)))

  call_of_two_exact : open_ ≡ true → (d d2 : Limit) → Frees l Deep d d2 → Exact l (g.call_of_two open_ ig d) never (p.call_of_two open_ ip d) (p.call_of_two open2 ip2 d2)
  unfolding g.call_of_two p.call_of_two
  call_of_two_exact so d d2 F =
      seq (by_exact pairing_by s.Max fun.Max refl) (λ f. seq (first_argument_exact so (fewer d) (fewer d2) (frees_less F))
      (λ a. mapped (second_argument_exact so (fewer d) (fewer d2) (frees_less F)) (λ b. call_of f (one_more (one_more no_exprs a) b)))
      (λ a. meets_never never _)) (λ f. meets_never never _)

  call_of_two_begins : (d : Limit) → Begins (g.call_of_two open_ ig d) is_pairing
  unfolding g.call_of_two
  call_of_two_begins d = begins_seq _ (begins_by pairing_by)

  call_of_two_bites : open2 ≡ true → (d : Limit) → Bites (p.call_of_two open2 ip2 d) is_pairing
  unfolding p.call_of_two
  call_of_two_bites so d = bites_by pairing_by _ (λ f. shrinks_seq _ _ (first_argument_shrinks so (fewer d))
      (λ a. shrinks_seq _ _ (second_argument_shrinks so (fewer d)) (λ b. shrinks_pure (call_of f (one_more (one_more no_exprs a) b)))))

  call_of_one_exact : open_ ≡ true → (d d2 : Limit) → Frees l Deep d d2 → Exact l (g.call_of_one open_ ig d) never (p.call_of_one open_ ip d) (p.call_of_one open2 ip2 d2)
  unfolding g.call_of_one p.call_of_one
  call_of_one_exact so d d2 F =
      seq (by_exact single_by s.Abs fun.Abs refl) (λ f. mapped (bracketed_exact (fewer d) (fewer d2) (frees_less F) so) (λ a. call_of f (one_more no_exprs a))) (λ f. meets_never never _)

  call_of_one_begins : (d : Limit) → Begins (g.call_of_one open_ ig d) is_single
  unfolding g.call_of_one
  call_of_one_begins d = begins_seq _ (begins_by single_by)

  call_of_one_bites : open2 ≡ true → (d : Limit) → Bites (p.call_of_one open2 ip2 d) is_single
  unfolding p.call_of_one
  call_of_one_bites so d = bites_by single_by _ (λ f. shrinks_seq _ _ (bracketed_shrinks so (fewer d)) (λ a. shrinks_pure (call_of f (one_more no_exprs a))))

  -- ---- operands

  abbrev plain : Symbol → Bool
  plain a = cond (names a) true (numbers a)

  abbrev PlainGrammar : Limit → Grammar Measured
  PlainGrammar d = g.place open_ ig d or g.literal open_ ig

  plain_begins : (d : Limit) → Begins (PlainGrammar d) (on plain)
  plain_begins d = begins_or _ _ (on plain) (begins_in names plain _ (place_begins d) refl refl) (begins_in numbers plain _ literal_begins refl refl)

  abbrev SingleGrammar : Limit → Grammar Measured
  SingleGrammar d = where_ (open_ && allows d 1) (g.call_of_one open_ ig d) or PlainGrammar d

  abbrev singles : Symbol → Bool
  singles a = cond (reads single_by a) true (plain a)

  single_begins : (d : Limit) → Begins (SingleGrammar d) (on singles)
  single_begins d = begins_or _ _ (on singles) (begins_where _ _ _ (begins_in (reads single_by) singles _ (call_of_one_begins d) refl refl)) (begins_in plain singles _ (plain_begins d) refl refl)

  abbrev nameds : Symbol → Bool
  nameds a = cond (reads pairing_by a) true (singles a)

  named_begins : (d : Limit) → Begins (NamedGrammar open_ ig d) (on nameds)
  named_begins d = begins_or _ _ (on nameds) (begins_where _ _ _ (begins_in (reads pairing_by) nameds _ (call_of_two_begins d) refl refl)) (begins_in singles nameds _ (single_begins d) refl refl)

  named_exact : (d d2 : Limit) → Frees l Deep d d2 → Exact l (NamedGrammar open_ ig d) (is s.Open) (p.named open_ ip d) (p.named open2 ip2 d2)
  unfolding p.named
  named_exact d d2 F =
      either_within (open_ && allows d 1) (open2 && allows d2 1) Deep (hold_room d d2 F)
      (λ h. anywhere (call_of_two_exact (first open_ (allows d 1) h) d d2 F)) (λ _ h. call_of_two_bites (first open2 (allows d2 1) h) d2)
      (either_within (open_ && allows d 1) (open2 && allows d2 1) Deep (hold_room d d2 F)
      (λ h. anywhere (call_of_one_exact (first open_ (allows d 1) h) d d2 F)) (λ _ h. call_of_one_bites (first open2 (allows d2 1) h) d2)
      (either (place_exact d d2 F) (anywhere literal_exact) (place_begins d) (meets numbers names (is s.Open) _ literal_begins refl refl))
      (call_of_one_begins d) (meets plain (reads single_by) (is s.Open) _ (plain_begins d) refl refl))
      (call_of_two_begins d) (meets singles (reads pairing_by) (is s.Open) _ (single_begins d) refl refl)

  abbrev operand : Symbol → Bool
  operand a = cond (same s.Open a) true (nameds a)

  primary_exact : (d d2 : Limit) → Frees l Deep d d2 → Exact l (g.primary open_ ig d) (is s.Open) (p.primary open_ ip d) (p.primary open2 ip2 d2)
  unfolding g.primary p.primary
  primary_exact d d2 F =
      either_within open_ open2 Deep room (λ so. anywhere (bracketed_exact d d2 F so)) (λ _ so. bracketed_bites d2 so)
      (named_exact d d2 F) (bracketed_begins d) (meets nameds (same s.Open) (is s.Open) _ (named_begins d) refl refl)

  primary_begins : (d : Limit) → Begins (g.primary open_ ig d) (on operand)
  unfolding g.primary
  primary_begins d = begins_or _ _ (on operand)
      (begins_where open_ _ _ (begins_in (same s.Open) operand _ (bracketed_begins d) refl refl))
      (begins_in nameds operand _ (named_begins d) refl refl)

  factor_exact : (d d2 : Limit) → Frees l Deep d d2 → Exact l (g.factor open_ ig d) (on raises) (p.factor open_ ip d) (p.factor open2 ip2 d2)
  unfolding g.factor p.factor
  factor_exact d d2 F = seq (primary_exact d d2 F) (λ e. narrow (raised_exact l d d2 F e) (less (same s.Power) raises refl refl)) (raised_meets d)

  factor_begins : (d : Limit) → Begins (g.factor open_ ig d) (on operand)
  unfolding g.factor
  factor_begins d = begins_seq _ (primary_begins d)

  abbrev rooms : (d d2 : Limit) → Frees l Deep d d2 → (x : Measured) → Room l Deep (may_stand_left d x) (may_stand_left d2 x)
  rooms d d2 F x = room_of F x.depth

  factors_exact : (d d2 : Limit) → Frees l Deep d d2 → (x : Measured) → Exact l (g.factors_from open_ ig d x) (on multiplies) (p.factors_from open_ ip d x) (p.factors_from open2 ip2 d2 x)
  unfolding g.factors_from p.factors_from
  factors_exact = grouped_exact l Deep product_op_by s.Star Mul refl binary may_stand_left (on raises) (on multiplies) (g.factor open_ ig) (p.factor open_ ip) (p.factor open2 ip2) rooms factor_exact
      (less raises multiplies refl refl) (less (reads product_op_by) multiplies refl refl) (apart (reads product_op_by) raises refl refl)

  factors_meet : (d d2 : Limit) → Frees l Deep d d2 → (x : Measured) → Meets (g.factors_from open_ ig d x) (on raises) (on multiplies)
  unfolding g.factors_from p.factors_from
  factors_meet = grouped_meets l Deep product_op_by s.Star Mul refl binary may_stand_left (on raises) (on multiplies) (g.factor open_ ig) (p.factor open_ ip) (p.factor open2 ip2) rooms factor_exact
      (less raises multiplies refl refl) (less (reads product_op_by) multiplies refl refl) (apart (reads product_op_by) raises refl refl)

  term_exact : (d d2 : Limit) → Frees l Deep d d2 → Exact l (g.term open_ ig d) (on multiplies) (p.term open_ ip d) (p.term open2 ip2 d2)
  unfolding g.term p.term
  term_exact d d2 F = seq (factor_exact d d2 F) (factors_exact d d2 F) (factors_meet d d2 F)

  term_begins : (d : Limit) → Begins (g.term open_ ig d) (on operand)
  unfolding g.term
  term_begins d = begins_seq _ (factor_begins d)

  terms_exact : (d d2 : Limit) → Frees l Deep d d2 → (x : Measured) → Exact l (g.terms_from open_ ig d x) (on binds) (p.terms_from open_ ip d x) (p.terms_from open2 ip2 d2 x)
  unfolding g.terms_from p.terms_from
  terms_exact = grouped_exact l Deep sum_op_by s.Plus Add refl binary may_stand_left (on multiplies) (on binds) (g.term open_ ig) (p.term open_ ip) (p.term open2 ip2) rooms term_exact
      (less multiplies binds refl refl) (less (reads sum_op_by) binds refl refl) (apart (reads sum_op_by) multiplies refl refl)

  terms_meet : (d d2 : Limit) → Frees l Deep d d2 → (x : Measured) → Meets (g.terms_from open_ ig d x) (on multiplies) (on binds)
  unfolding g.terms_from p.terms_from
  terms_meet = grouped_meets l Deep sum_op_by s.Plus Add refl binary may_stand_left (on multiplies) (on binds) (g.term open_ ig) (p.term open_ ip) (p.term open2 ip2) rooms term_exact
      (less multiplies binds refl refl) (less (reads sum_op_by) binds refl refl) (apart (reads sum_op_by) multiplies refl refl)

  negated_exact : (d d2 : Limit) → Frees l Deep d d2 → Exact l (g.negated open_ ig d) (on binds) (p.negated open_ ip d) (p.negated open2 ip2 d2)
  unfolding g.negated p.negated
  negated_exact d d2 F =
      mark_then s.Minus _ _ _ (λ _. seq (term_exact (fewer d) (fewer d2) (frees_less F)) (λ e. terms_exact d d2 F (negation e)) (λ e. terms_meet d d2 F (negation e)))

  negated_begins : (d : Limit) → Begins (g.negated open_ ig d) (is s.Minus)
  unfolding g.negated
  negated_begins d = begins_seq _ (begins_mark s.Minus)

  negated_bites : (d d2 : Limit) → Frees l Deep d d2 → Bites (p.negated open2 ip2 d2) (is s.Minus)
  unfolding p.negated
  negated_bites d d2 F = bites_mark s.Minus _ (λ _. shrinks_seq _ _ ((term_exact (fewer d) (fewer d2) (frees_less F)).shrinks) (λ e. (terms_exact d d2 F (negation e)).shrinks))

  unsigned_exact : (d d2 : Limit) → Frees l Deep d d2 → Exact l (g.unsigned open_ ig d) (on binds) (p.unsigned open_ ip d) (p.unsigned open2 ip2 d2)
  unfolding g.unsigned p.unsigned
  unsigned_exact d d2 F = seq (term_exact d d2 F) (terms_exact d d2 F) (terms_meet d d2 F)

  unsigned_begins : (d : Limit) → Begins (g.unsigned open_ ig d) (on operand)
  unfolding g.unsigned
  unsigned_begins d = begins_seq _ (term_begins d)

  positive_exact : (d d2 : Limit) → Frees l Deep d d2 → Exact l (g.plain open_ ig d) (on binds) (p.plain open_ ip d) (p.plain open2 ip2 d2)
  unfolding g.plain p.plain
  positive_exact d d2 F = mark_then s.Plus _ _ _ (λ _. unsigned_exact d d2 F)

  plus_begins : (d : Limit) → Begins (g.plain open_ ig d) (is s.Plus)
  unfolding g.plain
  plus_begins d = begins_seq _ (begins_mark s.Plus)

  abbrev positive : Symbol → Bool
  positive a = cond (same s.Plus a) true (operand a)

  positive_begins : (d : Limit) → Begins (g.plain open_ ig d or g.unsigned open_ ig d) (on positive)
  positive_begins d = begins_or _ _ (on positive) (begins_in (same s.Plus) positive _ (plus_begins d) refl refl) (begins_in operand positive _ (unsigned_begins d) refl refl)

  pub sum_exact : (d d2 : Limit) → Frees l Deep d d2 → Exact l (g.sum open_ ig d) (on binds) (p.sum open_ ip d) (p.sum open2 ip2 d2)
  unfolding g.sum p.sum
  sum_exact d d2 F =
      either_within (allows d 1) (allows d2 1) Deep (room_of F 1) (λ _. negated_exact d d2 F) (λ _ _. negated_bites d d2 F)
      (either (positive_exact d d2 F) (unsigned_exact d d2 F) (plus_begins d) (meets operand (same s.Plus) (on binds) _ (unsigned_begins d) refl refl))
      (negated_begins d) (meets positive (same s.Minus) (on binds) _ (positive_begins d) refl refl)

  -- ---- behind a first operand, and without a bracket at its head

  pub rest_exact : (d d2 : Limit) → Frees l Deep d d2 → (e : Measured) → Exact l (RestGrammar open_ ig d e) (on binds) (p.rest_of open_ ip d e) (p.rest_of open2 ip2 d2 e)
  unfolding p.rest_of
  rest_exact d d2 F e = seq (seq (narrow (raised_exact l d d2 F e) (less (same s.Power) raises refl refl)) (factors_exact d d2 F) (factors_meet d d2 F)) (terms_exact d d2 F) (terms_meet d d2 F)

  rest_meets : (d d2 : Limit) → Frees l Deep d d2 → (e : Measured) → Meets (RestGrammar open_ ig d e) (is s.Open) (on binds)
  rest_meets d d2 F e = meets_seq (g.raised d e ⨟ g.factors_from open_ ig d) (g.terms_from open_ ig d) (is s.Open) (on multiplies) (on binds)
      (meets_seq (g.raised d e) (g.factors_from open_ ig d) (is s.Open) (on raises) (on multiplies) (raised_meets d e) (factors_meet d d2 F)) (terms_meet d d2 F)

  started_exact : (d d2 : Limit) → Frees l Deep d d2 → Exact l (StartedGrammar open_ ig d) (on binds) (p.started open_ ip d) (p.started open2 ip2 d2)
  unfolding p.started
  started_exact d d2 F = seq (named_exact d d2 F) (rest_exact d d2 F) (rest_meets d d2 F)

  abbrev starts : Symbol → Bool
  starts a = cond (same s.Plus a) true (nameds a)

  starts_begin : (d : Limit) → Begins (g.plain open_ ig d or StartedGrammar open_ ig d) (on starts)
  starts_begin d = begins_or _ _ (on starts) (begins_in (same s.Plus) starts _ (plus_begins d) refl refl) (begins_in nameds starts _ (begins_seq _ (named_begins d)) refl refl)

  pub unopened_exact : (d d2 : Limit) → Frees l Deep d d2 → Exact l (UnopenedGrammar open_ ig d) (on binds) (p.unopened open_ ip d) (p.unopened open2 ip2 d2)
  unfolding p.unopened
  unopened_exact d d2 F =
      either_within (allows d 1) (allows d2 1) Deep (room_of F 1) (λ _. negated_exact d d2 F) (λ _ _. negated_bites d d2 F)
      (either (positive_exact d d2 F) (started_exact d d2 F) (plus_begins d) (meets nameds (same s.Plus) (on binds) _ (begins_seq _ (named_begins d)) refl refl))
      (negated_begins d) (meets starts (same s.Minus) (on binds) _ (starts_begin d) refl refl)

  pub unopened_begins : (d : Limit) → Begins (UnopenedGrammar open_ ig d) (on unopened)
  unopened_begins d = begins_or _ _ (on unopened) (begins_where _ _ _ (begins_in (same s.Minus) unopened _ (negated_begins d) refl refl)) (begins_in starts unopened _ (starts_begin d) refl refl)

abbrev pub nothing_freed : (d : Limit) → Frees Nothing Deep d d
nothing_freed d = record { stays = λ _. refl; goes = λ h. differ true refl (sym h) }

expr_same : (b : ℕ) (d d2 : Limit) → Frees Nothing Deep d d2 → Exact Nothing (g.expr b d) (on binds) (p.expr b d) (p.expr b d2)
unfolding g.expr p.expr
expr_same zero = sum_exact Nothing false false (record { grows = λ h. h; lifts = λ _. refl }) _ _ _ (λ no. differ true refl (sym no)) (λ no. differ true refl (sym no))
expr_same (suc b) = sum_exact Nothing true true always_room _ _ _ (λ _. expr_same b) (λ _ d. (expr_same b d d (nothing_freed d)).shrinks)

-- Expressions are read exactly.
pub expr_exact : (l : Freed) (b b2 : ℕ) → More l b b2 → (d d2 : Limit) → Frees l Deep d d2 → Exact l (g.expr b d) (on binds) (p.expr b d) (p.expr b2 d2)
unfolding g.expr p.expr
expr_exact l zero zero R = sum_exact l false false (record { grows = λ h. h; lifts = λ _. closed }) _ _ _ (λ no. differ true refl (sym no)) (λ no. differ true refl (sym no))
  where
    closed : false ≡ frees l Deep
    closed = elim (which (frees l Deep)) [ inl t ↦ absurd (let more = R.goes t in omega arith) | inr f ↦ sym f ]
expr_exact l zero (suc b2) R = sum_exact l false true (record { grows = λ h. refl; lifts = λ _. open_ }) _ _ _ (λ no. differ true refl (sym no)) (λ _ d. (expr_same b2 d d (nothing_freed d)).shrinks)
  where
    open_ : true ≡ frees l Deep
    open_ = elim (which (frees l Deep)) [ inl t ↦ sym t | inr f ↦ absurd (let same_ = R.stays f in omega arith) ]
expr_exact l (suc b) zero R = λ d d2 F. absurd (wrong (which (frees l Deep)))
  where
    wrong : (frees l Deep ≡ true) ⊎ (frees l Deep ≡ false) → ⊥
    wrong (inl t) = let more = R.goes t in omega arith
    wrong (inr f) = let same_ = R.stays f in omega arith
expr_exact l (suc b) (suc b2) R = sum_exact l true true always_room _ _ _ (λ _. expr_exact l b b2 down) (λ _ d. (expr_same b2 d d (nothing_freed d)).shrinks)
  where
    down : More l b b2
    down = record { stays = λ f. let e = R.stays f in omega arith; goes = λ t. let e = R.goes t in omega arith }

-- ---- lists in brackets, outside expressions

some : (b : ℕ) → nat_lt 0 (suc b) ≡ true
some b = grind (arith, nat_tests)

pub bracket_room : (l : Freed) (b b2 : ℕ) → More l b b2 → Room l Deep (nat_lt 0 b) (nat_lt 0 b2)
bracket_room l zero zero R = record { grows = λ h. h; lifts = λ _. closed }
  where
    closed : false ≡ frees l Deep
    closed = elim (which (frees l Deep)) [ inl t ↦ absurd (let more = R.goes t in omega arith) | inr f ↦ sym f ]
bracket_room l zero (suc b2) R = record { grows = λ h. some b2; lifts = λ _. some b2 ∙ open_ }
  where
    open_ : true ≡ frees l Deep
    open_ = elim (which (frees l Deep)) [ inl t ↦ sym t | inr f ↦ absurd (let same_ = R.stays f in omega arith) ]
bracket_room l (suc b) zero R = absurd (wrong (which (frees l Deep)))
  where
    wrong : (frees l Deep ≡ true) ⊎ (frees l Deep ≡ false) → ⊥
    wrong (inl t) = let more = R.goes t in omega arith
    wrong (inr f) = let same_ = R.stays f in omega arith
bracket_room l (suc b) (suc b2) R = record { grows = λ h. some b2; lifts = λ h. differ (nat_lt 0 (suc b)) (some b) h }

below_exact : (l : Freed) (b b2 : ℕ) → More l b b2 → nat_lt 0 b ≡ true → (d d2 : Limit) → Frees l Deep d d2 → Exact l (g.below b d) (on binds) (p.below b d) (p.below b2 d2)
unfolding g.below p.below
below_exact l zero b2 R so = λ d d2 F. differ (nat_lt 0 0) so refl
below_exact l (suc b) zero R so = λ d d2 F. absurd (wrong (which (frees l Deep)))
  where
    wrong : (frees l Deep ≡ true) ⊎ (frees l Deep ≡ false) → ⊥
    wrong (inl t) = let more = R.goes t in omega arith
    wrong (inr f) = let same_ = R.stays f in omega arith
below_exact l (suc b) (suc b2) R so = expr_exact l b b2 (record { stays = λ f. let e = R.stays f in omega arith; goes = λ t. let e = R.goes t in omega arith })

below_shrinks : (b : ℕ) → nat_lt 0 b ≡ true → (d : Limit) → Shrinks (p.below b d)
unfolding p.below
below_shrinks zero so d = differ (nat_lt 0 0) so refl
below_shrinks (suc b) so d = (expr_same b d d (nothing_freed d)).shrinks

module _ (l : Freed) (b b2 : ℕ) (R : More l b b2) (d d2 : Limit) (F : Frees l Deep d d2) where
  pub brackets_room : Room l Deep (nat_lt 0 b) (nat_lt 0 b2)
  brackets_room = bracket_room l b b2 R

  pub list_exact : nat_lt 0 b ≡ true → Exact l (g.subscripts (nat_lt 0 b) (g.below b) d) never (p.subscripts (nat_lt 0 b) (p.below b) d) (p.subscripts (nat_lt 0 b2) (p.below b2) d2)
  list_exact so = subscripts_exact l (nat_lt 0 b) (nat_lt 0 b2) brackets_room (g.below b) (p.below b) (p.below b2) (below_exact l b b2 R) (below_shrinks b2) so d d2 F

  pub list_begins : Begins (g.subscripts (nat_lt 0 b) (g.below b) d) (is s.Open)
  list_begins = subscripts_begins l (nat_lt 0 b) (nat_lt 0 b2) brackets_room (g.below b) (p.below b) (p.below b2) (below_exact l b b2 R) (below_shrinks b2) d

  pub list_bites : nat_lt 0 b2 ≡ true → Bites (p.subscripts (nat_lt 0 b2) (p.below b2) d2) (is s.Open)
  list_bites so = subscripts_bites l (nat_lt 0 b) (nat_lt 0 b2) brackets_room (g.below b) (p.below b) (p.below b2) (below_exact l b b2 R) (below_shrinks b2) so d2

  pub rest_at_exact : (e : Measured) → Exact l (RestAt b d e) (on binds) (p.rest_of (nat_lt 0 b) (p.below b) d e) (p.rest_of (nat_lt 0 b2) (p.below b2) d2 e)
  rest_at_exact e = rest_exact l (nat_lt 0 b) (nat_lt 0 b2) brackets_room (g.below b) (p.below b) (p.below b2) (below_exact l b b2 R) (below_shrinks b2) d d2 F e

  pub unopened_at_exact : Exact l (UnopenedAt b d) (on binds) (p.unopened (nat_lt 0 b) (p.below b) d) (p.unopened (nat_lt 0 b2) (p.below b2) d2)
  unopened_at_exact = unopened_exact l (nat_lt 0 b) (nat_lt 0 b2) brackets_room (g.below b) (p.below b) (p.below b2) (below_exact l b b2 R) (below_shrinks b2) d d2 F

  pub unopened_at_begins : Begins (UnopenedAt b d) (on unopened)
  unopened_at_begins = unopened_begins l (nat_lt 0 b) (nat_lt 0 b2) brackets_room (g.below b) (p.below b) (p.below b2) (below_exact l b b2 R) (below_shrinks b2) d
