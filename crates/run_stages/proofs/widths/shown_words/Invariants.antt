use Rattle.std.proofs.Common.{◌≡◌, take, map}
use Rattle.answers.specs.Runs.{shown_word}
use Rattle.run_stages.proofs.widths.shown_words.Given as goal

abbrev pub invariant-loop-word : goal.invariant-loop-word
invariant-loop-word l = l.all.items ≡ map (shown_word l.width) (take l.word-index l.words)
