use Rattle.std.proofs.Common.{◌≡◌, drop}
use Rattle.meaning.specs.Sites.{data_width}
use Rattle.run_stages.proofs.widths.data_width.Given as goal

abbrev pub invariant-loop-decl : goal.invariant-loop-decl
invariant-loop-decl l = data_width l.decls ≡ data_width (drop l.decl-index l.decls)
