use Rattle.std.proofs.Common.{rules, ◌≡◌, map, ap, sym, ◌∙◌}
use Rattle.fl_types.specs.Sharing.{has_name}
use Rattle.std.specs.Map.Iter.{deref}
use Rattle.known_names.proofs.Members.{members}
use Rattle.known_names.proofs.keys.Keys.has.Goals as goal

pub returns : goal.returns
returns c =
    c.contains.ensures ∙ (members c.bytes.result.now c.self.inside.keys.keys ∙ ap (λ n. has_name n (map deref c.self.inside.keys.keys)) c.bytes.ensures) ∙ ap (has_name c.args.name.now) c.self.view_is
