use Rattle.std.proofs.Common.{◌≡◌, take, drop, map}
use Rattle.index_forms.specs.Seen.{term_tree, terms_of}
use Rattle.index_forms.specs.Sums.{all_lie_in}
use Rattle.index_forms.proofs.difference.narrowed_terms.Given as goal

abbrev pub invariant-loop-i : goal.invariant-loop-i
invariant-loop-i l =
    (l.all ≡ take l.i l.terms) × (all_lie_in l.extent (terms_of (map term_tree l.terms)) ≡ all_lie_in l.extent (terms_of (map term_tree (drop l.i l.terms))))
