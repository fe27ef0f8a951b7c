use Rattle.std.proofs.Common.{map}
use Rattle.index_forms.specs.Seen.{term_tree, terms_of}
use Rattle.index_forms.proofs.Added.{AddedFrom}
use Rattle.index_forms.proofs.sum.add_terms.Given as goal

abbrev pub invariant-loop-i : goal.invariant-loop-i
invariant-loop-i l = AddedFrom l.m l.added (terms_of (map term_tree l.initial.terms)) l.i l.terms
