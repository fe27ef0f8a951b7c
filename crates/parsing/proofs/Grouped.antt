-- Operations of one level, grouped from the left, are read exactly.
use Rattle.std.proofs.Common.{◌≡◌, Bool, true, false, Option, Some}
use Rattle.tokens.specs.Lexeme.{Lexeme}
use Rattle.parsing.specs.declared.symbol.Symbol.{Symbol}
use Rattle.parsing.specs.declared.fault.Cause.{Cause}
use Rattle.parsing.specs.Freed.{Freed, Frees}
use Rattle.parsing.specs.Limit.{Limit, less as fewer}
use Rattle.parsing.specs.Terminal.{by, on, reads}
use Rattle.parsing.specs.Reading.{Lexemes, Parser, sees, grouped as grouped_reading, left_grouped as left_grouped_reading}
use Rattle.parsing.specs.Grammar.{Grammar, grouped, left_grouped}
use Rattle.parsing.proofs.Outcomes.{Bites, shrinks_pure, shrinks_seq}
use Rattle.parsing.proofs.Exact.{Exact, Room, frees_less, Begins, Meets, seq}
use Rattle.parsing.proofs.Rules.{mapped, loop_exact, many_meets, begins_seq, meets_never}
use Rattle.parsing.proofs.OnSymbols.{begins_by, by_exact, bites_by}

-- The operations are told by their symbols, of which one is an example. What goes on with an operand passes `before`, and what goes on
-- with the whole passes `after`.
module _ {O A : Type 0} (l : Freed) (cause : Cause) (op : Symbol → Option O) (a : Symbol) (o : O) (is_op : op a ≡ Some o) (combine : O → A → A → A) (room : Limit → A → Bool)
    (before after : Lexeme → Bool) (operand : Limit → Grammar A) (read read2 : Limit → Parser A)
    (rooms : (d d2 : Limit) → Frees l cause d d2 → (left : A) → Room l cause (room d left) (room d2 left))
    (exact : (d d2 : Limit) → Frees l cause d d2 → Exact l (operand d) before (read d) (read2 d2))
    (within_ : (rest : Lexemes) → sees after rest ≡ false → sees before rest ≡ false)
    (ends : (rest : Lexemes) → sees after rest ≡ false → sees (on (reads op)) rest ≡ false)
    (apart : (rest : Lexemes) → sees (on (reads op)) rest ≡ true → sees before rest ≡ false)
    (d d2 : Limit) (F : Frees l cause d d2) where
  one_exact : (left : A) → Exact l (grouped (by op) combine operand d left) before (grouped_reading (by op) combine read d left) (grouped_reading (by op) combine read2 d2 left)
  one_exact left = seq (by_exact op a o is_op) (λ x. mapped (exact (fewer d) (fewer d2) (frees_less F)) (combine x left)) (λ x. meets_never before _)

  one_begins : (left : A) → Begins (grouped (by op) combine operand d left) (on (reads op))
  one_begins left = begins_seq _ (begins_by op)

  one_bites : (left : A) → Bites (grouped_reading (by op) combine read2 d2 left) (on (reads op))
  one_bites left = bites_by op _ (λ x. shrinks_seq _ _ ((exact (fewer d) (fewer d2) (frees_less F)).shrinks) (λ right. shrinks_pure (combine x left right)))

  pub grouped_exact : (left : A) → Exact l (left_grouped (by op) combine room operand d left) after
      (left_grouped_reading (on (reads op)) (by op) combine room cause read d left) (left_grouped_reading (on (reads op)) (by op) combine room cause read2 d2 left)
  grouped_exact = loop_exact l (on (reads op)) before after (room d) (room d2) cause _ _ _ (rooms d d2 F) one_exact one_begins one_bites within_ ends apart

  pub grouped_meets : (left : A) → Meets (left_grouped (by op) combine room operand d left) before after
  grouped_meets = many_meets l (on (reads op)) before after (room d) (room d2) cause (grouped (by op) combine operand d) (grouped_reading (by op) combine read d) (grouped_reading (by op) combine read2 d2)
      (rooms d d2 F) one_exact one_begins one_bites within_ ends apart
