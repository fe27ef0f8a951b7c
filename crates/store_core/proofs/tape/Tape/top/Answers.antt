use Rattle.std.specs.Prelude.{◌≡◌, length}
use Rattle.std.proofs.Common.{ap, sym, ◌∙◌, arith}
use Rattle.std.proofs.lemmas.Bool.Decides.{nat_tests}
use Rattle.store_core.proofs.Topped.{nothing_on_top, word_on_top}
use Rattle.store_core.proofs.tape.Tape.top.Goals as goal

pub returns-then-is_empty : goal.returns-then-is_empty
returns-then-is_empty c =
    let n : length c.as_slice.result.now ≡ 0 = grind (arith, nat_tests, c.if-is_empty.ensures) in
    rw (← c.self.view_is)
    (nothing_on_top c.self.inside.words.items _ (ap length (sym c.as_slice.ensures.value) ∙ n) (rw c.self.view_is (sym c.if-has_list_on_top.ensures)))

pub returns-else-is_empty : goal.returns-else-is_empty
returns-else-is_empty c =
    rw (← c.self.view_is)
    (word_on_top c.self.inside.words.items _ (λ n. grind (arith, nat_tests, c.if-is_empty.ensures, ap length c.as_slice.ensures.value, n))
    (rw c.self.view_is (sym c.if-has_list_on_top.ensures)))
