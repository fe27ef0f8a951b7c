use Rattle.index_forms.specs.Scenes.{viewed_with}
use Rattle.index_forms.proofs.NodeForms.{IsFront}
use Rattle.index_forms.proofs.nodes.+form_of_expr.Given as goal

abbrev pub invariant-forms_of_exprs-loop-i : goal.invariant-forms_of_exprs-loop-i
invariant-forms_of_exprs-loop-i l = IsFront (viewed_with l.scene l.entries l.access) l.n l.exprs l.forms l.next l.i
