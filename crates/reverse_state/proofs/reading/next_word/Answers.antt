use Rattle.std.proofs.Common.{rules, ◌∙◌, ap, slice_index, ◌-◌}
use Rattle.reverse_state.proofs.Taken.{takes_word}
use Rattle.reverse_state.proofs.reading.next_word.Goals as goal

pub returns : goal.returns
returns c = takes_word c.args.inside.now c.word_at.result (search (rules)) c.requires (c.word_at.ensures ∙ ap (λ ws. slice_index ws (c.args.inside.now.left - 1)) c.words_of.ensures)
