use Rattle.ending.proofs.Laws.{exact, complete, has_bad_words, lacks_file}
use Rattle.formad_top.proofs.top.formad.Goals as goal

pub returns : goal.returns
returns g c = record {
  answer = c.dispatch.ensures.answer;
  exactly = λ files e sink d. exact (c.dispatch.ensures.answer.ends files sink e d);
  complete = λ files e sink d. complete (c.dispatch.ensures.answer.ends files sink e d);
  headline = λ done files e sink d. c.dispatch.ensures.headline done files sink e d;
  bad_words = λ files e sink d. has_bad_words _ (c.dispatch.ensures.answer.ends files sink e d);
  no_file = λ missing files e sink d. lacks_file _ (c.dispatch.ensures.answer.ends files sink e d) missing;
}
