use Rattle.std.proofs.Common.{[], ◌∷◌, ◌++◌, ap, ◌∙◌}
use Rattle.std.specs.Prelude.{codes}
use Rattle.fl_printer.specs.Words.{joined, apart}
use Rattle.fl_printer.proofs.Lists.{chain}
use Rattle.fl_printer.proofs.unit.last_words.Goals as goal

pub returns : goal.returns
returns c =
    chain c.args.line.now c.joined.new.line c.apart-2.new.line (joined (codes "end") ∷ []) (apart (codes "subroutine") ∷ apart c.args.name.now ∷ []) c.in_ok-joined.ensures
    (chain c.joined.new.line c.apart.new.line c.apart-2.new.line (apart (codes "subroutine") ∷ []) (apart c.args.name.now ∷ []) c.in_ok-apart.ensures
    (c.in_ok-apart-2.ensures ∙ ap (λ x. c.apart.new.line ++ apart x ∷ []) c.bytes.ensures))
