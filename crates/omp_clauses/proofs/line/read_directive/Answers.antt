use Rattle.omp_clauses.proofs.Tells.{found_by, only_by, readable_by, refused_by}
use Rattle.omp_clauses.proofs.line.read_directive.Goals as goal

pub returns : goal.returns
returns c = record {
  read = c.read.ensures;
  found = found_by c.args.text.now c.args.tokens.now c.read.result c.read.ensures;
  only = only_by c.args.text.now c.args.tokens.now c.read.result c.read.ensures;
  readable = readable_by c.args.text.now c.args.tokens.now c.read.result c.requires.spelled c.read.ensures;
  refused = refused_by c.args.text.now c.args.tokens.now c.read.result c.read.ensures;
}
