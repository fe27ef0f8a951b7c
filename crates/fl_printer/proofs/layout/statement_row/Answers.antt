use Rattle.std.proofs.Common.{sym, ◌∙◌, ap, ◌-◌, ◌∷◌, length, take, drop}
use Rattle.fl_printer.proofs.LayoutLaws.{no_words, no_words_done, first_word, statement_done}
use Rattle.fl_printer.proofs.layout.statement_row.Goals as goal

pub returns-then-is_empty : goal.returns-then-is_empty
returns-then-is_empty c = no_words_done c.args.margin c.args.words.now _ _ _ (no_words c.args.words.now (sym c.is_empty.ensures ∙ c.if-is_empty.true)) c.in_ok-push_blanks.ensures c.in_ok-push.ensures.items

pub returns : goal.returns
returns c =
    statement_done c.args.margin c.args.words.now c.index-words-0.result _ _ _ _
    (first_word c.args.words.now c.index-words-0.result (sym c.is_empty.ensures ∙ c.if-is_empty.false) ∙ ap (λ w. w ∷ take (length c.args.words.now - 1) (drop 1 c.args.words.now)) (sym c.index-words-0.is))
    c.in_ok-push_blanks.ensures c.in_ok-begun.ensures
