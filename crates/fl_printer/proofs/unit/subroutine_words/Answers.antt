use Rattle.std.proofs.Common.{[], ◌∷◌, ◌++◌, ap, ◌∙◌}
use Rattle.std.specs.Prelude.{codes}
use Rattle.fl_printer.specs.Words.{joined, apart, bracketed_names}
use Rattle.fl_printer.proofs.Lists.{chain}
use Rattle.fl_printer.proofs.unit.subroutine_words.Goals as goal

pub returns : goal.returns
returns c =
    chain c.args.line.now c.joined.new.line c.bracketed_names.new.line (joined (codes "subroutine") ∷ []) (apart c.args.name.now ∷ bracketed_names c.args.args.now) c.in_ok-joined.ensures
    (chain c.joined.new.line c.apart.new.line c.bracketed_names.new.line (apart c.args.name.now ∷ []) (bracketed_names c.args.args.now)
    (c.in_ok-apart.ensures ∙ ap (λ x. c.joined.new.line ++ apart x ∷ []) c.bytes.ensures) c.in_ok-bracketed_names.ensures)
