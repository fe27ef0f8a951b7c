use Rattle.std.proofs.Common.{◌∙◌, ◌||◌, ap, sym, bytes_eq}
use Rattle.std.specs.List.{list_any}
use Rattle.fl_ast.specs.Readable.{listed_names}
use Rattle.omp_clauses.proofs.Places.{any_named}
use Rattle.omp_clauses.proofs.state.Clauses.with_name.Goals as goal

pub invariant_of-result : goal.invariant_of-result
invariant_of-result c = λ x.
    c.in_ok-seen.ensures x
    ∙ ap (λ b. bytes_eq x c.args.name || b) (c.self.invariant x)
    ∙ sym (any_named (bytes_eq x) c.args.sharing c.self.inside.directive c.args.name)
    ∙ ap (λ d. list_any (bytes_eq x) (listed_names d)) (sym c.in_ok-directive.ensures)
