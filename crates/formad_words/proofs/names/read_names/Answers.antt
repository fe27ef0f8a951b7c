use Rattle.std.proofs.Common.{◌∙◌, sym, ap, Some}
use Rattle.formad_words.proofs.NamesRead.{no_names, not_distinct, are_read}
use Rattle.formad_words.proofs.names.read_names.Goals as goal

pub returns-then-not-are_names : goal.returns-then-not-are_names
returns-then-not-are_names c _ = no_names _ c.in_ok-parts.parts.items c.in_ok-parts.ensures (cc)

pub returns-then-not-are_distinct : goal.returns-then-not-are_distinct
returns-then-not-are_distinct c _ =
    not_distinct _ c.in_ok-parts.parts.items c.in_ok-names.names.items c.in_ok-parts.ensures (cc) (rw c.deref-2.ensures.value at c.in_ok-names.ensures) (cc)

pub returns : goal.returns
returns c =
    are_read _ c.in_ok-parts.parts.items c.in_ok-names.names.items c.in_ok-parts.ensures (cc) (rw c.deref-2.ensures.value at c.in_ok-names.ensures) (cc)
    ∙ ap (λ ns. Some ns) (sym c.from_vec.ensures)
