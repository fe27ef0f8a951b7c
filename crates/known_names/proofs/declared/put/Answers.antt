use Rattle.std.proofs.Common.{◌≡◌, if◌then◌else◌, Some, bytes_eq, ap, ◌∙◌}
use Rattle.known_names.specs.Found.{found}
use Rattle.known_names.proofs.Members.{found_in, put}
use Rattle.known_names.proofs.declared.put.Goals as goal

pub returns : goal.returns
returns c x =
    ap (found_in x) c.in_ok-insert.ensures.entries
    ∙ (put x c.bytes.result c.args.decl c.args.first.now.entries
    ∙ ap (λ n. if bytes_eq x n then Some c.args.decl.now else found x c.args.first.now) c.bytes.ensures)
