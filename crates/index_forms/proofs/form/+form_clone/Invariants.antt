use Rattle.std.proofs.Common.{◌≡◌, take}
use Rattle.index_forms.proofs.form.+form_clone.Given as goal

abbrev pub invariant-clone_forms-loop-i : goal.invariant-clone_forms-loop-i
invariant-clone_forms-loop-i l = l.all ≡ take l.i l.forms

abbrev pub invariant-clone_terms-loop-i : goal.invariant-clone_terms-loop-i
invariant-clone_terms-loop-i l = l.all ≡ take l.i l.terms
