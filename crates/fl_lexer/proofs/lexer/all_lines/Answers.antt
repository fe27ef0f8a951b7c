use Rattle.std.proofs.Common.{ap, sym, ◌∙◌, arith, rules}
use Rattle.std.proofs.lemmas.Result.{err_from_is_err_and}
use Rattle.fl_lexer.specs.Lines.{view, lines}
use Rattle.fl_lexer.specs.Reading as spec
use Rattle.fl_lexer.proofs.ReadLaws.{all_lines-ok, all_lines-err, all_lines-end, fails_too}
use Rattle.fl_lexer.proofs.lexer.all_lines.Goals as goal

pub returns-in_err-one_line : goal.returns-in_err-one_line
returns-in_err-one_line c =
    let p = err_from_is_err_and c.from_residual.result c.from_residual.ensures.1 in
    let place = c.loop-rest.place in
    let continued = c.loop-rest.continued in
    let ts = c.loop-rest.tokens.items in
    let l = view c.first_line.result.0 in
    let ls = lines c.first_line.result.1.now in
    rw (p.1, p.2) (fails_too (spec.one_line place continued l ls ts) _ _
    (λ e h. sym c.loop-rest.invariant.told ∙ ap (λ all. spec.all_lines place continued all ts) c.first_line.ensures.lines ∙ all_lines-err place continued l ls ts e h)
    c.in_err-one_line.ensures)

pub loop-rest-preserved : goal.loop-rest-preserved
loop-rest-preserved c =
    let place = c.loop-rest.place in
    let continued = c.loop-rest.continued in
    let ts = c.loop-rest.tokens.items in
    let us = c.one_line.new.tokens.items in
    let l = view c.first_line.result.0 in
    let ls = lines c.first_line.result.1.now in
    record {
      told =
          ap (λ q. spec.all_lines q c.leaves_open-continued.result ls us) c.after-place.ensures
          ∙ ap (λ o. spec.all_lines (spec.after place l) o ls us) (c.leaves_open-continued.ensures ∙ ap (λ k. spec.leaves_open continued k l.bytes) c.class_of-class.ensures.value)
          ∙ sym (all_lines-ok place continued l ls ts us c.in_ok-one_line.ensures)
          ∙ ap (λ all. spec.all_lines place continued all ts) (sym c.first_line.ensures.lines)
          ∙ c.loop-rest.invariant.told;
      length = omega (arith, c.first_line.ensures.len, c.loop-rest.invariant.length, ap (λ q. q.start) c.after-place.ensures);
      count = omega (arith, c.loop-rest.invariant.count, ap (λ q. q.start) c.after-place.ensures, ap (λ q. q.line) c.after-place.ensures, c.first_line.ensures.shorter, c.first_line.ensures.len);
    }

pub returns : goal.returns
returns c = sym c.loop-rest.invariant.told ∙ all_lines-end c.loop-rest.place c.loop-rest.continued c.loop-rest.rest.now c.loop-rest.tokens.items (search rules)
