use Rattle.adjoint_parser.proofs.AdjointTexts.{found_by, only_by, readable_by, refused_by}
use Rattle.adjoint_parser.proofs.text.parse_adjoint.Goals as goal

pub returns : goal.returns
returns c = record {
  parsed = c.read.ensures;
  found = found_by c.args.text.now c.args.tokens.now c.read.result c.read.ensures;
  only = only_by c.args.text.now c.args.tokens.now c.read.result c.read.ensures;
  readable = readable_by c.args.text.now c.args.tokens.now c.read.result c.read.ensures;
  refused = refused_by c.args.text.now c.args.tokens.now c.read.result c.read.ensures;
}
