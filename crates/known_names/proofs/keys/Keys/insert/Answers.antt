use Rattle.std.proofs.Common.{rules, ◌≡◌, ◌||◌, List, ℕ, bytes_eq, map, ap, sym, ◌∙◌}
use Rattle.std.specs.BTreeSet.{insert_key}
use Rattle.std.specs.Map.Iter.{deref}
use Rattle.fl_types.specs.Sharing.{has_name}
use Rattle.known_names.proofs.Members.{by_bytes, inserted}
use Rattle.known_names.proofs.keys.Keys.insert.Goals as goal

pub returns : goal.returns
returns c x =
    ap (λ ks. has_name x (map deref ks)) c.in_ok-insert.ensures.keys
    ∙ (inserted x c.bytes.result c.self.inside.keys.keys
    ∙ ap (λ n. bytes_eq x n || has_name x (map deref c.self.inside.keys.keys)) c.bytes.ensures
    ∙ ap (λ v. bytes_eq x c.args.name.now || has_name x v) c.self.view_is)
