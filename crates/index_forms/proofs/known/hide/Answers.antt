use Rattle.index_forms.proofs.KnownNames.{hidden}
use Rattle.index_forms.proofs.known.hide.Goals as goal

pub returns : goal.returns
returns c = hidden c.args.scene.now c.args.entries.now c.push_unknown.new.entries c.args.names.now c.in_ok-push_unknown.ensures
