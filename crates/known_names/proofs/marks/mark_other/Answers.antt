use Rattle.std.proofs.Common.{◌≡◌, true, false, rules, ap, sym, ◌∙◌}
use Rattle.fl_types.specs.Sharing.{has_name}
use Rattle.known_names.proofs.Members.{old_name, new_name}
use Rattle.known_names.proofs.marks.mark_other.Goals as goal

pub returns-then-has : goal.returns-then-has
returns-then-has c x =
    let h : has_name c.args.name.now c.args.others.now ≡ true = search rules in
    old_name x c.args.name.now c.args.others.now (has_name x c.args.keys.now) h

pub returns : goal.returns
returns c x =
    let h : has_name c.args.name.now c.args.others.now ≡ false = search rules in
    c.in_ok-insert.ensures x ∙ new_name x c.args.name.now c.args.others.now (has_name x c.args.keys.now) h
