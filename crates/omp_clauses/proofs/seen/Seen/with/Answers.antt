use Rattle.std.proofs.Common.{◌∙◌, ◌||◌, ap, map, bytes_eq}
use Rattle.std.specs.List.{list_any}
use Rattle.omp_clauses.proofs.Seens.{any_insert}
use Rattle.omp_clauses.proofs.seen.Seen.with.Goals as goal

pub returns : goal.returns
returns c = λ x.
    ap (λ ks. list_any (bytes_eq x) (map (λ k. k.items) ks)) c.in_ok-_is_new.ensures.keys
    ∙ any_insert (λ k. k.items) x c.in_ok-key.key c.self.inside.names.keys
    ∙ ap (λ v. bytes_eq x v || list_any (bytes_eq x) (map (λ k. k.items) c.self.inside.names.keys)) (c.in_ok-key.ensures.items ∙ c.bytes.ensures)
    ∙ ap (λ v. bytes_eq x c.args.name.now || list_any (bytes_eq x) v) c.self.view_is
