use Rattle.std.proofs.Common.{◌≡◌, ◌++◌, map, drop}
use Rattle.fl_types.specs.Sharing.{has_name}
use Rattle.loop_scenes.specs.Views.{headed_seen}
use Rattle.certificate_check.specs.Flaws.{loops_of}
use Rattle.loop_pairs.specs.Known.{known_in}
use Rattle.loop_pairs.proofs.program.known_among.Given as goal

-- those so far and those of the rest are all
abbrev pub invariant-loop-i : goal.invariant-loop-i
invariant-loop-i l =
    loops_of l.all ++ known_in l.indexed.decls (λ x. has_name x l.active.names) (map headed_seen (drop l.i l.loops))
    ≡ known_in l.indexed.decls (λ x. has_name x l.active.names) (map headed_seen l.loops)
