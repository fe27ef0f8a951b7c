use Rattle.std.proofs.Common.{◌∙◌, ap, bytes_eq}
use Rattle.std.specs.List.{list_any}
use Rattle.omp_clauses.proofs.Seens.{any_at}
use Rattle.omp_clauses.proofs.seen.Seen.has.Goals as goal

pub returns : goal.returns
returns c = rw (c.contains.ensures, c.bytes.ensures) (any_at (λ k. k.items) c.args.name.now c.self.inside.names.keys ∙ ap (list_any (bytes_eq c.args.name.now)) c.self.view_is)
