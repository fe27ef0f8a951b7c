use Rattle.std.proofs.Common.{map}
use Rattle.index_forms.specs.Seen.{atom_tree, term_tree}
use Rattle.index_forms.proofs.TermPlaces.{Sought}
use Rattle.index_forms.proofs.sum.find_place.Given as goal

abbrev pub invariant-loop-i : goal.invariant-loop-i
invariant-loop-i l = Sought (atom_tree l.atom) (map term_tree l.terms) l.i
